use Rattle.std.proofs.Common.{◌≡◌, ◌+◌, ◌++◌, map, drop}
use Rattle.serde_json.specs.View.{view}
use Rattle.dap_wire.specs.Messages.{targets_from}
use Rattle.dap_wire.proofs.infos.targets_value.Given as goal

abbrev pub invariant-loop-i : goal.invariant-loop-i
invariant-loop-i l = map view l.values.items ++ targets_from (l.i + 1) (drop l.i l.labels) ≡ targets_from 1 l.labels
