-- A state bounds another, or doesn't.
use Rattle.std.proofs.Common.{ℕ, ◌⊎◌, List, [], ◌∷◌, inl, inr, bit_and, nat_eq}
use Rattle.std.proofs.lemmas.Bool.{cases_Bool, both_ways}
use Rattle.interval_dom.specs.Bounds.{Bounds}
use Rattle.interval_dom.proofs.Within.{cases_Covers}
use Rattle.lockset_dom.specs.Members.{Includes}
use Rattle.lockset_dom.proofs.Membership.{Includes-test}
use Rattle.state_dom.specs.StateValue.{StateValue, Bottom, Reached, CoversEach, CoversState}

-- two facts that each hold or don't
cases_both : {P Q : Type 0} → P ⊎ (P → ⊥) → Q ⊎ (Q → ⊥) → (P × Q) ⊎ (P × Q → ⊥)
cases_both (inl p) (inl q) = inl (p, q)
cases_both (inl p) (inr fails) = inr (λ both. fails both.1)
cases_both (inr fails) second = inr (λ both. fails both.0)

cases_Includes : (outer inner : ℕ) → Includes outer inner ⊎ (Includes outer inner → ⊥)
cases_Includes outer inner =
    let test = Includes-test outer inner in
    elim (cases_Bool (nat_eq (bit_and outer inner) inner)) [
      | inl passes ↦ inl (test.0 passes)
      | inr fails ↦ inr (λ inside. both_ways (nat_eq (bit_and outer inner) inner) fails (test.1 inside))
    ]

cases_CoversEach : (xs ys : List Bounds) → CoversEach xs ys ⊎ (CoversEach xs ys → ⊥)
cases_CoversEach [] [] = inl tt
cases_CoversEach [] (y ∷ ys) = inr (λ each. each)
cases_CoversEach (x ∷ xs) [] = inr (λ each. each)
cases_CoversEach (x ∷ xs) (y ∷ ys) = cases_both (cases_Covers x y) (cases_CoversEach xs ys)

pub cases_CoversState : (a b : StateValue) → CoversState a b ⊎ (CoversState a b → ⊥)
cases_CoversState a (Bottom room) = inl tt
cases_CoversState (Bottom room) (Reached slots locks) = inr (λ covers. covers)
cases_CoversState (Reached slots locks) (Reached inner inner_locks) = cases_both (cases_CoversEach slots inner) (cases_Includes inner_locks locks)
