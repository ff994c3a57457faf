use Rattle.std.proofs.Common.{◌≡◌, drop}
use Rattle.std.specs.Prelude.{All}
use Rattle.gob_tree.specs.declared.graph.Program.{Program}
use Rattle.state_dom.specs.ThresholdValues.{AreThresholdsOf}
use Rattle.constraint_sys.specs.Arising.{IsLike}
use Rattle.constraint_sys.specs.Turn.{raised_in_each}
use Rattle.constraint_sys.proofs.turns.raise_each.Given as goal

abbrev pub invariant-loop-e : goal.invariant-loop-e
invariant-loop-e l = record {
  alike : All (IsLike l.table) (drop l.e-index l.raises);
  raised : (p : Program) → AreThresholdsOf p l.marks → raised_in_each p l.table (drop l.e-index l.raises) ≡ raised_in_each p l.fn.table l.raises;
}
