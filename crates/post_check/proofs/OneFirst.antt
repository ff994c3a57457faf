-- A table has one first breach at most.
use Rattle.std.proofs.Common.{◌≡◌, ◌⊎◌, inl, inr, ℕ, List, [], ◌∷◌, sym, ap, ◌∙◌, subst, arith, refl}
use Rattle.std.specs.Ordering.{is_lt, ordering_reverse}
use Rattle.std.specs.declared.cmp.Ordering.{Ordering}
use Rattle.std.specs.declared.cmp.Ordering.TheVariants.{Less, Equal, Greater}
use Rattle.std.proofs.lemmas.Bool.{cases_eq, cases_lt}
use Rattle.gob_tree.specs.declared.graph.Program.{Program}
use Rattle.constraint_sys.specs.contracts.unknown.UnknownOrd.TheImpl.Laws.{total-law}
use Rattle.constraint_sys.specs.declared.unknown.Unknown.{Unknown}
use Rattle.constraint_sys.specs.declared.unknown.Unknown.TheVariants.{Point, Global}
use Rattle.constraint_sys.specs.declared.value.Effect.{Effect}
use Rattle.constraint_sys.specs.Breach.{BreaksAt, IsBefore, IsFellow, IsFirstBreach, IsFirstUnbounded}
use Rattle.constraint_sys.specs.Table.{TableValue, unknown_cmp}
use Rattle.constraint_sys.proofs.DirtySet.{same_from_cmp}

order_by : (a b : Unknown) (o : Ordering) → unknown_cmp a b ≡ o → IsBefore a b ⊎ ((a ≡ b) ⊎ IsBefore b a)
order_by a b Less is = inl (ap is_lt is)
order_by a b Equal is = inr (inl (same_from_cmp a b is))
order_by a b Greater is = inr (inr (ap is_lt (total-law.antisymm b a ∙ ap ordering_reverse is)))

-- two unknowns are in one order or the other, or the same
cases_order : (a b : Unknown) → IsBefore a b ⊎ ((a ≡ b) ⊎ IsBefore b a)
cases_order a b = order_by a b (unknown_cmp a b) refl

same_fellow : (u v x : Unknown) (n : ℕ) → IsFellow u n v → IsFellow u n x → v ≡ x
same_fellow (Point f key node) v x n one other = one ∙ sym other
same_fellow (Global g) v x n one other = absurd one

same_unbounded : (t : TableValue) (es : List Effect) (v x : Unknown) → IsFirstUnbounded t es v → IsFirstUnbounded t es x → v ≡ x
same_unbounded t [] v x one other = absurd one
same_unbounded t (e ∷ es) v x one other = elim one [
  | inl here ↦ elim other [ inl same ↦ here.1 ∙ sym same.1 | inr later ↦ absurd (here.0 later.0) ]
  | inr later ↦ elim other [ inl here ↦ absurd (here.0 later.0) | inr rest ↦ same_unbounded t es v x later.1 rest.1 ]
]

pub same_target : (p : Program) (t : TableValue) (u v x : Unknown) → BreaksAt p t u v → BreaksAt p t u x → v ≡ x
same_target p t u v x one other = elim one [
  | inl lacks ↦ elim other [
    | inl misses ↦ elim (cases_lt lacks.0 misses.0) [
      | inl less ↦ absurd (misses.2 lacks.0 less lacks.1)
      | inr from ↦ elim (cases_eq lacks.0 misses.0) [
        | inl same ↦ same_fellow u v x misses.0 (subst (λ (n : ℕ). IsFellow u n v) same lacks.3) misses.3
        | inr apart ↦ absurd (lacks.2 misses.0 (omega arith) misses.1)
      ]
    ]
    | inr rest ↦ absurd (rest.0 lacks.0 lacks.1)
  ]
  | inr rest ↦ elim other [
    | inl misses ↦ absurd (rest.0 misses.0 misses.1)
    | inr more ↦ elim rest.1 [
      | inl own ↦ elim more.1 [ inl same ↦ own.1 ∙ sym same.1 | inr effect ↦ absurd (own.0 effect.0) ]
      | inr effect ↦ elim more.1 [ inl own ↦ absurd (own.0 effect.0) | inr again ↦ same_unbounded t _ v x effect.1 again.1 ]
    ]
  ]
]

pub same_first : (p : Program) (t : TableValue) (u v w x : Unknown) → IsFirstBreach p t u v → IsFirstBreach p t w x → u ≡ w
same_first p t u v w x one other = elim one [
  | inl lacks ↦ elim other [
    | inl misses ↦ elim (cases_order u w) [
      | inl before ↦ absurd (misses.2 u before lacks.0)
      | inr rest ↦ elim rest [ inl same ↦ same | inr after ↦ absurd (lacks.2 w after misses.0) ]
    ]
    | inr found ↦ absurd (found.0 u lacks.0)
  ]
  | inr found ↦ elim other [
    | inl misses ↦ absurd (found.0 w misses.0)
    | inr again ↦ elim (cases_order u w) [
      | inl before ↦ absurd (again.1.2 u v found.1.0 before found.1.1)
      | inr rest ↦ elim rest [ inl same ↦ same | inr after ↦ absurd (found.1.2 w x again.1.0 after again.1.1) ]
    ]
  ]
]

pub same_breach : (p : Program) (t : TableValue) (u v w x : Unknown) → IsFirstBreach p t u v → IsFirstBreach p t w x → v ≡ x
same_breach p t u v w x one other =
    let same : u ≡ w = same_first p t u v w x one other in
    elim one [
      | inl lacks ↦ elim other [
        | inl misses ↦ lacks.1 ∙ same ∙ sym misses.1
        | inr found ↦ absurd (found.0 u lacks.0)
      ]
      | inr found ↦ elim other [
        | inl misses ↦ absurd (found.0 w misses.0)
        | inr again ↦ same_target p t w v x (subst (λ (q : Unknown). BreaksAt p t q v) same found.1.1) again.1.1
      ]
    ]
