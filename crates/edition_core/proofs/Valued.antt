-- A point of a shaped table has a state, and a global an interval.
use Rattle.std.proofs.Common.{◌≡◌, ℕ, Option, None, Some, true≢false, refl, sym}
use Rattle.std.specs.Prelude.{IsSome}
use Rattle.gob_tree.specs.declared.graph.Program.{Program}
use Rattle.constraint_sys.specs.Sound.{IsShaped}
use Rattle.constraint_sys.specs.Table.{IsThere, TableValue, value_at}
use Rattle.constraint_sys.specs.declared.unknown.Key.{Key}
use Rattle.constraint_sys.specs.declared.unknown.Unknown.TheVariants.{Point, Global}
use Rattle.constraint_sys.specs.declared.value.Value.{Value}
use Rattle.constraint_sys.specs.declared.value.Value.TheVariants.{State, Number}
use Rattle.edition_core.specs.Editions.{IsNumber, IsState}

module _ (p : Program) (t : TableValue) (shaped : IsShaped p t) where
  pub point_has_state : (f : ℕ) (key : Key) (node : ℕ) → IsThere t (Point f key node) → IsState (value_at t (Point f key node))
  point_has_state f key node there = by (value_at t (Point f key node)) refl there
    where
      by : (o : Option Value) → value_at t (Point f key node) ≡ o → IsSome o → IsState o
      by None at some = absurd (true≢false (sym some))
      by (Some (State s)) at some = tt
      by (Some (Number interval)) at some = shaped (Point f key node) (Number interval) at

  pub global_has_number : (g : ℕ) → IsThere t (Global g) → IsNumber (value_at t (Global g))
  global_has_number g there = by (value_at t (Global g)) refl there
    where
      by : (o : Option Value) → value_at t (Global g) ≡ o → IsSome o → IsNumber o
      by None at some = absurd (true≢false (sym some))
      by (Some (State s)) at some = shaped (Global g) (State s) at
      by (Some (Number interval)) at some = tt
