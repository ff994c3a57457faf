-- Opposite guards exclude one another.
use Rattle.std.proofs.Common.{◌≡◌, refl, sym, subst, ℤ, ◌⊎◌, inl, inr, Bool, true, false, List, Option, None, Some, Result, Ok, Err}
use Rattle.std.specs.Prelude.{if◌then◌else◌, not}
use Rattle.gob_tree.specs.declared.expr.Expr.{Expr}
use Rattle.gob_tree.specs.declared.graph.Action.{Action}
use Rattle.gob_tree.specs.declared.graph.Action.TheVariants.{Guard}
use Rattle.gob_tree.specs.declared.unit.Slot.{Slot}
use Rattle.c_meaning.specs.declared.demand.Demand.{Demand}
use Rattle.c_meaning.specs.Demand.{is_zero, value_of}
use Rattle.c_meaning.specs.GraphStep.{local_slots, with_value, same_truth}
use Rattle.graph_law.specs.Leaving.{OneGuardAtMost}

-- a guard on a value that is there or not
guarded : Bool → List ℤ → Result ℤ Demand → Option (List ℤ)
guarded wanted values v = with_value v (λ n. if same_truth wanted (not (is_zero n)) then Some values else None)

one_of_two : (values : List ℤ) (v : Result ℤ Demand) → (guarded true values v ≡ None) ⊎ (guarded false values v ≡ None)
unfolding guarded
one_of_two values (Err missing) = inl refl
one_of_two values (Ok n) = go (is_zero n)
  where
    go : (b : Bool) → (◌≡◌ {A = Option (List ℤ)} (if same_truth true (not b) then Some values else None) None) ⊎ (◌≡◌ {A = Option (List ℤ)} (if same_truth false (not b) then Some values else None) None)
    go true = inl refl
    go false = inr refl

guards_apart : (e : Expr) (slots : List Slot) (values : List ℤ) → (local_slots slots (Guard e true) values ≡ None) ⊎ (local_slots slots (Guard e false) values ≡ None)
unfolding guarded
guards_apart e slots values = one_of_two values (value_of e slots values)

pub one_guard_at_most : OneGuardAtMost
one_guard_at_most a b slots values opposite =
    let e = opposite.1.0 in
    subst (λ (x : Action). (local_slots slots x values ≡ None) ⊎ (local_slots slots b.edge.act values ≡ None)) (sym opposite.1.1)
    (subst (λ (y : Action). (local_slots slots (Guard e true) values ≡ None) ⊎ (local_slots slots y values ≡ None)) (sym opposite.1.2)
    (guards_apart e slots values))
