-- What is renamed has one new name, and comes from one old one.
use Rattle.std.proofs.Common.{◌≡◌, ℕ, ◌↔◌, Some, refl, sym, ap, subst, ◌∙◌, arith, inl, inr}
use Rattle.std.specs.Int.{bit_at}
use Rattle.std.proofs.lemmas.Bool.{cases_eq}
use Rattle.std.proofs.lemmas.Nat.Bits.{bit_at-lt, same_from_bits}
use Rattle.std.proofs.lemmas.Option.{same_Some}
use Rattle.gob_tree.specs.Formed.{IsFormed}
use Rattle.gob_tree.specs.Named.{NamedGraph, SameFunction}
use Rattle.gob_tree.specs.declared.graph.FuncGraph.{FuncGraph}
use Rattle.gob_tree.specs.declared.graph.Program.{Program}
use Rattle.gob_tree.specs.declared.unit.GlobalDecl.{GlobalDecl}
use Rattle.lockset_dom.specs.Members.{Holds, with_member, without_member, shared_members, no_locks}
use Rattle.lockset_dom.proofs.Membership.{Holds-no_locks, Holds-shared_members, Holds-with_member, Holds-without_member}
use Rattle.constraint_sys.specs.Carry.{SameGlobal, SameMutex, HoldsLostMutex, RenamesLocks}
use Rattle.carry_law.proofs.Naming.{are_one, same_global, same_mutex, one_function, one_global, one_mutex}

-- ---- functions, globals and mutexes

module _ (old new : Program) where
  pub new_function : IsFormed new → (f g h : ℕ) → SameFunction old f new g → SameFunction old f new h → g ≡ h
  new_function formed f g h first second =
      let a = are_one old f new g first in
      let b = are_one old f new h second in
      let here : a.here ≡ b.here = same_Some a.here b.here (sym a.at ∙ b.at) in
      one_function new formed g h a.there b.there a.stands b.stands
      (ap (λ (x : NamedGraph). x.name) (sym a.same) ∙ ap (λ (x : FuncGraph). x.name) here ∙ ap (λ (x : NamedGraph). x.name) b.same)

  pub old_function : IsFormed old → (e f g : ℕ) → SameFunction old e new g → SameFunction old f new g → e ≡ f
  old_function formed e f g first second =
      let a = are_one old e new g first in
      let b = are_one old f new g second in
      let there : a.there ≡ b.there = same_Some a.there b.there (sym a.stands ∙ b.stands) in
      one_function old formed e f a.here b.here a.at b.at
      (ap (λ (x : NamedGraph). x.name) a.same ∙ ap (λ (x : FuncGraph). x.name) there ∙ ap (λ (x : NamedGraph). x.name) (sym b.same))

  pub new_global : IsFormed new → (g h k : ℕ) → SameGlobal old g new h → SameGlobal old g new k → h ≡ k
  new_global formed g h k first second =
      let a = same_global old g new h first in
      let b = same_global old g new k second in
      let here : a.0 ≡ b.0 = same_Some a.0 b.0 (sym a.1 ∙ b.1) in
      one_global new formed h k a.0 b.0 a.2 b.2 (ap (λ (x : GlobalDecl). x.name) here)

  pub old_global : IsFormed old → (g h k : ℕ) → SameGlobal old g new k → SameGlobal old h new k → g ≡ h
  old_global formed g h k first second =
      let a = same_global old g new k first in
      let b = same_global old h new k second in
      let there : a.0 ≡ b.0 = same_Some a.0 b.0 (sym a.2 ∙ b.2) in
      one_global old formed g h a.0 b.0 a.1 b.1 (ap (λ (x : GlobalDecl). x.name) there)

  pub new_mutex : IsFormed new → (m n k : ℕ) → SameMutex old m new n → SameMutex old m new k → n ≡ k
  new_mutex formed m n k first second =
      let a = same_mutex old m new n first in
      let b = same_mutex old m new k second in
      let here : a.0 ≡ b.0 = same_Some a.0 b.0 (sym a.1 ∙ b.1) in
      one_mutex new formed n k a.0 a.2 (b.2 ∙ ap Some (sym here))

  pub old_mutex : IsFormed old → (m n k : ℕ) → SameMutex old m new k → SameMutex old n new k → m ≡ n
  old_mutex formed m n k first second =
      let a = same_mutex old m new k first in
      let b = same_mutex old n new k second in
      let there : a.0 ≡ b.0 = same_Some a.0 b.0 (sym a.2 ∙ b.2) in
      one_mutex old formed m n a.0 a.1 (b.1 ∙ ap Some (sym there))

-- ---- sets of mutexes

same_members : (a b : ℕ) → ((m : ℕ) → Holds a m ↔ Holds b m) → a ≡ b
same_members a b alike = same_from_bits a b (λ k. elim (cases_eq (bit_at a k) 1) [
  | inl held ↦ held ∙ sym ((alike k).0 held)
  | inr free ↦ elim (cases_eq (bit_at b k) 1) [
    | inl other ↦ absurd (free ((alike k).1 other))
    | inr none ↦ omega (arith, bit_at-lt a k, bit_at-lt b k, free, none)
  ]
])

module _ (old new : Program) where
  pub new_locks : (a b c : ℕ) → RenamesLocks old new a b → RenamesLocks old new a c → b ≡ c
  new_locks a b c first second = same_members b c (λ n. (λ held. (second n).1 ((first n).0 held), λ held. (first n).1 ((second n).0 held)))

  held_too : IsFormed old → (a b c : ℕ) → (HoldsLostMutex old new a → ⊥) → RenamesLocks old new a c → RenamesLocks old new b c → (m : ℕ) → Holds a m → Holds b m
  held_too formed a b c keeps first second m held = elim (cases_eq (bit_at b m) 1) [
    | inl held_there ↦ held_there
    | inr free ↦ absurd (keeps (
      m,
      held,
      λ n same.
          let found = (second n).0 ((first n).1 (m, held, same)) in
          free (subst (λ (k : ℕ). Holds b k) (old_mutex old new formed found.0 m n found.2 same) found.1),
    ))
  ]

  pub old_locks : IsFormed old → (a b c : ℕ) → (HoldsLostMutex old new a → ⊥) → (HoldsLostMutex old new b → ⊥) → RenamesLocks old new a c → RenamesLocks old new b c → a ≡ b
  old_locks formed a b c keeps_a keeps_b first second =
      same_members a b (λ m. (held_too formed a b c keeps_a first second m, held_too formed b a c keeps_b second first m))

  pub no_locks_renamed : RenamesLocks old new no_locks no_locks
  no_locks_renamed n = (λ held. absurd (Holds-no_locks n held), λ found. absurd (Holds-no_locks found.0 found.1))

  pub shared_renamed : IsFormed old → (a b c d : ℕ) → RenamesLocks old new a b → RenamesLocks old new c d → RenamesLocks old new (shared_members a c) (shared_members b d)
  shared_renamed formed a b c d first second n = (
    λ held.
        let both = (Holds-shared_members b d n).0 held in
        let left = (first n).0 both.0 in
        let right = (second n).0 both.1 in
        let one : right.0 ≡ left.0 = old_mutex old new formed right.0 left.0 n right.2 left.2 in
        (left.0, (Holds-shared_members a c left.0).1 (left.1, subst (λ (k : ℕ). Holds c k) one right.1), left.2),
    λ found.
        let both = (Holds-shared_members a c found.0).0 found.1 in
        (Holds-shared_members b d n).1 ((first n).1 (found.0, both.0, found.2), (second n).1 (found.0, both.1, found.2)),
  )

  pub member_renamed : IsFormed new → (a b m n : ℕ) → SameMutex old m new n → RenamesLocks old new a b → RenamesLocks old new (with_member a m) (with_member b n)
  member_renamed formed a b m n same locks k = (
    λ held. elim ((Holds-with_member b n k).0 held) [
      | inl is ↦ (m, (Holds-with_member a m m).1 (inl refl), subst (λ (j : ℕ). SameMutex old m new j) (sym is) same)
      | inr there ↦ (let found = (locks k).0 there in (found.0, (Holds-with_member a m found.0).1 (inr found.1), found.2))
    ],
    λ found. (Holds-with_member b n k).1 (elim ((Holds-with_member a m found.0).0 found.1) [
      | inl is ↦ inl (new_mutex old new formed m k n (subst (λ (j : ℕ). SameMutex old j new k) is found.2) same)
      | inr there ↦ inr ((locks k).1 (found.0, there, found.2))
    ]),
  )

  pub taken_renamed : IsFormed old → IsFormed new → (a b m n : ℕ) → SameMutex old m new n → RenamesLocks old new a b → RenamesLocks old new (without_member a m) (without_member b n)
  taken_renamed old_formed new_formed a b m n same locks k = (
    λ held.
        let both = (Holds-without_member b n k).0 held in
        let found = (locks k).0 both.1 in
        (found.0, (Holds-without_member a m found.0).1 (λ is. both.0 (new_mutex old new new_formed m k n (subst (λ (j : ℕ). SameMutex old j new k) is found.2) same), found.1), found.2),
    λ found.
        let both = (Holds-without_member a m found.0).0 found.1 in
        (Holds-without_member b n k).1 (λ is. both.0 (old_mutex old new old_formed found.0 m n (subst (λ (j : ℕ). SameMutex old found.0 new j) is found.2) same), (locks k).1 (found.0, both.1, found.2)),
  )

  -- a renamed mutex is held in both or in neither
  pub held_renamed : IsFormed old → (a b m n : ℕ) → SameMutex old m new n → RenamesLocks old new a b → Holds a m ↔ Holds b n
  held_renamed formed a b m n same locks = (
    λ held. (locks n).1 (m, held, same),
    λ held.
        let found = (locks n).0 held in
        subst (λ (j : ℕ). Holds a j) (old_mutex old new formed found.0 m n found.2 same) found.1,
  )
