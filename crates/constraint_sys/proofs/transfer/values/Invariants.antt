use Rattle.std.proofs.Common.{◌≡◌, ◌++◌, List, drop}
use Rattle.std.specs.Option.{option_map}
use Rattle.interval_dom.specs.Bounds.{Bounds}
use Rattle.state_dom.specs.StateValue.{slots_of}
use Rattle.constraint_sys.specs.Transfer.{values_of}
use Rattle.constraint_sys.proofs.transfer.values.Given as goal

abbrev pub invariant-loop-e : goal.invariant-loop-e
invariant-loop-e l = option_map (λ (rest : List Bounds). l.values.items ++ rest) (values_of l.slots (slots_of l.state) (drop l.e-index l.args)) ≡ values_of l.slots (slots_of l.state) l.args
