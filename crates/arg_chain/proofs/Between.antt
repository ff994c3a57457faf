-- Vertices in order: those of one context stand side by side.
use Rattle.std.proofs.Common.{◌==◌, ◌≡◌, ◌⊎◌, inl, inr, ℕ, ◌<◌, Bool, true, false, cond, nat_lt, List, Some, get_or, refl, sym, ap, subst, ◌∙◌, arith, rules}
use Rattle.std.specs.Prelude.{slice_get}
use Rattle.std.specs.List.Sorted.{IsStrictlySortedBy}
use Rattle.std.specs.Ordering.{nat_cmp, is_eq, ordering_reverse, ordering_then}
use Rattle.std.specs.declared.cmp.Ordering.{Ordering}
use Rattle.std.specs.declared.cmp.Ordering.TheVariants.{Less, Equal, Greater}
use Rattle.std.proofs.lemmas.Bool.{cases_eq, cases_lt}
use Rattle.std.proofs.lemmas.Bool.Decides.{nat_tests}
use Rattle.std.proofs.lemmas.Map.Keys.{Less-from_sorted}
use Rattle.std.proofs.lemmas.Option.{get_or_from_slice_get, slice_get_within, same_Some}
use Rattle.constraint_sys.specs.contracts.unknown.KeyOrd.TheImpl.{ghosts as keys}
use Rattle.constraint_sys.specs.contracts.unknown.KeyOrd.TheImpl.Laws.{total-law, matches_eq-law}
use Rattle.constraint_sys.specs.contracts.unknown.KeyPartialEq.TheImpl.{ghosts as equal}
use Rattle.constraint_sys.specs.declared.unknown.Key.{Key}
use Rattle.arg_graph.specs.Graphs.{vertex_cmp}
use Rattle.arg_graph.specs.declared.vertex.Vertex.{Vertex}
use Rattle.arg_chain.specs.Calls.{AreInBlocks}
use Rattle.arg_chain.specs.Chains.{IsFellow}

-- ---- the parts of a comparison
less_equal : Less ≡ Equal → ⊥
less_equal e = cc

greater_less : Greater ≡ Less → ⊥
greater_less e = cc

greater_equal : Greater ≡ Equal → ⊥
greater_equal e = cc

then_less : (a b : Ordering) → ordering_then a b ≡ Less → (a ≡ Less) ⊎ ((a ≡ Equal) × (b ≡ Less))
then_less Less b h = inl refl
then_less Equal b h = inr (refl, h)
then_less Greater b h = absurd (greater_less h)

pub nat_less : (x y : ℕ) → nat_cmp x y ≡ Less → x < y
nat_less x y h = by (nat_lt x y) refl h
  where
    by : (b : Bool) → nat_lt x y ≡ b → cond b Less (cond (x == y) Equal Greater) ≡ Less → x < y
    by true is h = grind (arith, nat_tests)
    by false is h = not (x == y) h
      where
        not : (b : Bool) → cond b Equal Greater ≡ Less → x < y
        not true h = absurd (less_equal (sym h))
        not false h = absurd (greater_less h)

nat_equal : (x y : ℕ) → nat_cmp x y ≡ Equal → x ≡ y
nat_equal x y h = by (nat_lt x y) h
  where
    same : (b : Bool) → (x == y) ≡ b → cond b Equal Greater ≡ Equal → x ≡ y
    same true is h = grind (arith, nat_tests)
    same false is h = absurd (greater_equal h)

    by : (b : Bool) → cond b Less (cond (x == y) Equal Greater) ≡ Equal → x ≡ y
    by true h = absurd (less_equal h)
    by false h = same (x == y) refl h

same_key : (a b : Key) → equal.eq a b ≡ true → a ≡ b
same_key a b h = search rules

keys_equal : (a b : Key) → keys.cmp a b ≡ Equal → a ≡ b
keys_equal a b h = same_key a b (matches_eq-law a b ∙ ap is_eq h)

keys_turned : (a b : Key) → keys.cmp a b ≡ Less → keys.cmp b a ≡ Greater
keys_turned a b h = total-law.antisymm b a ∙ ap ordering_reverse h

compared : (v w : Vertex) → vertex_cmp v w ≡ ordering_then (nat_cmp v.func w.func) (ordering_then (keys.cmp v.key w.key) (nat_cmp v.node w.node))
compared v w = refl

-- the function is less, or it is the same and the key is less or the same
abbrev IsNotPast : Vertex → Vertex → Type 0
IsNotPast v w = (v.func < w.func) ⊎ ((v.func ≡ w.func) × ((keys.cmp v.key w.key ≡ Less) ⊎ (v.key ≡ w.key)))

not_past : (v w : Vertex) → vertex_cmp v w ≡ Less → IsNotPast v w
not_past v w less = elim (then_less (nat_cmp v.func w.func) (ordering_then (keys.cmp v.key w.key) (nat_cmp v.node w.node)) less) [
  | inl below ↦ inl (nat_less v.func w.func below)
  | inr same ↦ inr (nat_equal v.func w.func same.0, elim (then_less (keys.cmp v.key w.key) (nat_cmp v.node w.node) same.1) [ inl below ↦ inl below | inr both ↦ inr (keys_equal v.key w.key both.0) ])
]

keys_between : (a b c : Key) → keys.cmp a b ≡ Less → ((keys.cmp b c ≡ Less) ⊎ (b ≡ c)) → a ≡ c → ⊥
keys_between a b c first second same =
    let back : keys.cmp b a ≡ Greater = keys_turned a b first in
    elim second [
      | inl less ↦ greater_less (sym back ∙ ap (keys.cmp b) same ∙ less)
      | inr equal_keys ↦ less_equal (sym first ∙ ap (keys.cmp a) (equal_keys ∙ sym same) ∙ itself a)
    ]
  where
    own : (r : Ordering) → r ≡ ordering_reverse r → r ≡ Equal
    own Less h = absurd (greater_less (sym h))
    own Equal h = refl
    own Greater h = absurd (greater_less h)

    itself : (k : Key) → keys.cmp k k ≡ Equal
    itself k = own (keys.cmp k k) (total-law.antisymm k k)

between : (u v w : Vertex) → vertex_cmp u v ≡ Less → vertex_cmp v w ≡ Less → IsFellow u w → IsFellow u v
between u v w first second fellow = elim (not_past u v first) [
  | inl below ↦ elim (not_past v w second) [ inl more ↦ absurd (omega (arith, fellow.0)) | inr same ↦ absurd (omega (arith, fellow.0, same.0)) ]
  | inr same ↦ elim same.1 [
    | inr keys_are ↦ (same.0, keys_are)
    | inl less ↦ elim (not_past v w second) [ inl more ↦ absurd (omega (arith, fellow.0, same.0)) | inr later ↦ absurd (keys_between u.key v.key w.key less later.1 fellow.1) ]
  ]
]

-- ---- by places
module _ (vs : List Vertex) (up : IsStrictlySortedBy vertex_cmp vs) where
  pub rises : (i j : ℕ) (v w : Vertex) → i < j → slice_get vs i ≡ Some v → slice_get vs j ≡ Some w → vertex_cmp v w ≡ Less
  rises i j v w before first second =
      let within = slice_get_within vs j w second in
      subst (λ (x : Vertex). vertex_cmp x w ≡ Less) (get_or_from_slice_get vs i v v first)
      (subst (λ (x : Vertex). vertex_cmp (get_or vs i v) x ≡ Less) (get_or_from_slice_get vs j w v second) (Less-from_sorted vertex_cmp vs i j v up before within))

  pub in_blocks : AreInBlocks vs
  in_blocks i j n u v w first second at_i at_j at_n fellow = elim (cases_eq i j) [
    | inl same ↦ (let one : u ≡ v = same_Some u v (sym at_i ∙ ap (slice_get vs) same ∙ at_j) in (ap (λ (x : Vertex). x.func) one, ap (λ (x : Vertex). x.key) one))
    | inr apart ↦ elim (cases_eq j n) [
      | inl last ↦ (let one : v ≡ w = same_Some v w (sym at_j ∙ ap (slice_get vs) last ∙ at_n) in (fellow.0 ∙ ap (λ (x : Vertex). x.func) (sym one), fellow.1 ∙ ap (λ (x : Vertex). x.key) (sym one)))
      | inr more ↦ between u v w (rises i j u v (omega arith) at_i at_j) (rises j n v w (omega arith) at_j at_n) fellow
    ]
  ]

  -- one vertex has one place
  less_itself : (v : Vertex) → vertex_cmp v v ≡ Less → ⊥
  less_itself v less = elim (then_less (nat_cmp v.func v.func) (ordering_then (keys.cmp v.key v.key) (nat_cmp v.node v.node)) less) [
    | inl below ↦ absurd (omega (arith, nat_less v.func v.func below))
    | inr same ↦ elim (then_less (keys.cmp v.key v.key) (nat_cmp v.node v.node) same.1) [
      | inl below ↦ greater_less (sym (keys_turned v.key v.key below) ∙ below)
      | inr both ↦ absurd (omega (arith, nat_less v.node v.node both.1))
    ]
  ]

  pub one_place : (i j : ℕ) (v : Vertex) → slice_get vs i ≡ Some v → slice_get vs j ≡ Some v → i ≡ j
  one_place i j v first second = elim (cases_eq i j) [
    | inl same ↦ same
    | inr apart ↦ elim (cases_lt i j) [
      | inl before ↦ absurd (less_itself v (rises i j v v before first second))
      | inr after ↦ absurd (less_itself v (rises j i v v (omega arith) second first))
    ]
  ]
