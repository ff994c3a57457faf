-- Which numbers are members of the sets that the operations make.
use Rattle.std.proofs.Common.{◌≡◌, ◌≢◌, ℕ, ◌*◌, ◌%◌, ◌^◌, ◌<◌, ◌≤◌, ◌⊎◌, ◌↔◌, inl, inr, sym, ◌∙◌, ap, subst, arith, bit_and, nat_eq, IsTrue}
use Rattle.std.specs.Int.{bit_at, bit_not, w8}
use Rattle.std.proofs.lemmas.Bool.{cases_eq, cases_lt}
use Rattle.std.proofs.lemmas.Nat.{and_le_l}
use Rattle.std.proofs.lemmas.Bool.Decides.{nat_tests}
use Rattle.std.proofs.lemmas.Nat.Bits.{bit_at_and, bit_at_or, bit_at_xor, bit_at-pow_same, bit_at-pow_other, bit_at-lt, bit_at-zero, bit_at_above, same_from_bits, bit_at_clear_same, bit_at_clear_other}
use Rattle.lockset_dom.specs.Members.{Holds, Includes, no_locks, with_member, without_member, shared_members}

pub Holds-no_locks : (k : ℕ) → Holds no_locks k → ⊥
Holds-no_locks k held = omega (arith, bit_at-zero k)

pub Holds-with_member : (set m k : ℕ) → Holds (with_member set m) k ↔ ((k ≡ m) ⊎ Holds set k)
Holds-with_member set m k = elim (cases_eq k m) [
  | inl same ↦ (λ _. inl same, λ _. subst (λ (j : ℕ). Holds (with_member set m) j) (sym same) (omega (arith, bit_at_or set (2 ^ m) m, bit_at-pow_same m, bit_at-lt set m)))
  | inr other ↦ (λ held. inr (omega (arith, bit_at_or set (2 ^ m) k, bit_at-pow_other m k other)), λ either. elim either [ inl same ↦ absurd (other same) | inr held ↦ omega (arith, bit_at_or set (2 ^ m) k, bit_at-pow_other m k other) ])
]

pub Holds-shared_members : (a b k : ℕ) → Holds (shared_members a b) k ↔ (Holds a k × Holds b k)
Holds-shared_members a b k = (
  λ held. (omega (arith, bit_at_and a b k, bit_at-lt a k, bit_at-lt b k), omega (arith, bit_at_and a b k, bit_at-lt a k, bit_at-lt b k)),
  λ both. omega (arith, bit_at_and a b k, both.0, both.1),
)

-- the digits of what is left
pub bit_at-without_same : (set m : ℕ) → bit_at (without_member set m) m ≡ 0
bit_at-without_same set m =
    omega (arith, bit_at_xor set (bit_and set (2 ^ m)) m, bit_at_and set (2 ^ m) m, bit_at-pow_same m, bit_at-lt set m)

pub bit_at-without_other : (set m k : ℕ) → k ≢ m → bit_at (without_member set m) k ≡ bit_at set k
bit_at-without_other set m k other =
    omega (arith, bit_at_xor set (bit_and set (2 ^ m)) k, bit_at_and set (2 ^ m) k, bit_at-pow_other m k other, bit_at-lt set k)

pub Holds-without_member : (set m k : ℕ) → Holds (without_member set m) k ↔ ((k ≢ m) × Holds set k)
Holds-without_member set m k = elim (cases_eq k m) [
  | inl same ↦ (λ held. absurd (omega (arith, bit_at-without_same set m, subst (λ (j : ℕ). Holds (without_member set m) j) same held)), λ both. absurd (both.0 same))
  | inr other ↦ (λ held. (other, sym (bit_at-without_other set m k other) ∙ held), λ both. bit_at-without_other set m k other ∙ both.1)
]

-- the mask that the code takes leaves the same set
bit_at-cleared : (set m k : ℕ) → set < 2 ^ 8 → m < 8 → bit_at (bit_and set (bit_not w8 (1 * 2 ^ m % 2 ^ 8))) k ≡ bit_at (without_member set m) k
bit_at-cleared set m k small within = elim (cases_eq k m) [
  | inl same ↦ subst (λ (j : ℕ). bit_at (bit_and set (bit_not w8 (1 * 2 ^ m % 2 ^ 8))) j ≡ bit_at (without_member set m) j) (sym same) (bit_at_clear_same w8 set m within ∙ sym (bit_at-without_same set m))
  | inr other ↦ elim (cases_lt k 8) [
    | inl low ↦ bit_at_clear_other w8 set m within k low other ∙ sym (bit_at-without_other set m k other)
    | inr high ↦ bit_at_above (bit_and set (bit_not w8 (1 * 2 ^ m % 2 ^ 8))) 8 k (omega (arith, and_le_l set (bit_not w8 (1 * 2 ^ m % 2 ^ 8)))) high ∙ sym (bit_at_above set 8 k small high) ∙ sym (bit_at-without_other set m k other)
  ]
]

pub without_member-cleared : (set m : ℕ) → set < 2 ^ 8 → m < 8 → bit_and set (bit_not w8 (1 * 2 ^ m % 2 ^ 8)) ≡ without_member set m
without_member-cleared set m small within = same_from_bits _ _ (λ k. bit_at-cleared set m k small within)

-- a set from which nothing is taken
bit_at-untouched : (set m k : ℕ) → set < 2 ^ 8 → 8 ≤ m → bit_at (without_member set m) k ≡ bit_at set k
bit_at-untouched set m k small above = elim (cases_eq k m) [
  | inl same ↦ subst (λ (j : ℕ). bit_at (without_member set m) j ≡ bit_at set j) (sym same) (bit_at-without_same set m ∙ sym (bit_at_above set 8 m small above))
  | inr other ↦ bit_at-without_other set m k other
]

pub without_member-above : (set m : ℕ) → set < 2 ^ 8 → 8 ≤ m → without_member set m ≡ set
without_member-above set m small above = same_from_bits _ _ (λ k. bit_at-untouched set m k small above)

-- the test of the code
includes : (outer inner : ℕ) → bit_and outer inner ≡ inner → Includes outer inner
includes outer inner same m held = omega (arith, bit_at_and outer inner m, bit_at-lt outer m, ap (λ (set : ℕ). bit_at set m) same, held)

shared_is : (outer inner : ℕ) → Includes outer inner → (k : ℕ) → bit_at (bit_and outer inner) k ≡ bit_at inner k
shared_is outer inner inside k = elim (cases_eq (bit_at inner k) 1) [
  | inl held ↦ omega (arith, bit_at_and outer inner k, held, inside k held)
  | inr free ↦ omega (arith, bit_at_and outer inner k, bit_at-lt inner k, free)
]

pub Includes-test : (outer inner : ℕ) → IsTrue (nat_eq (bit_and outer inner) inner) ↔ Includes outer inner
Includes-test outer inner =
    (λ test. includes outer inner (grind (arith, nat_tests)), λ inside. let same = same_from_bits (bit_and outer inner) inner (shared_is outer inner inside) in grind (arith, nat_tests))

pub Holds-untouched : (set m : ℕ) → set < 2 ^ 8 → 8 ≤ m → (k : ℕ) → Holds set k ↔ ((k ≢ m) × Holds set k)
Holds-untouched set m small above k =
    subst (λ (left : ℕ). Holds left k ↔ ((k ≢ m) × Holds set k)) (without_member-above set m small above) (Holds-without_member set m k)
