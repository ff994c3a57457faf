use Rattle.std.proofs.Common.{◌≡◌, map, take}
use Rattle.serde_json.specs.View.{view}
use Rattle.dap_wire.specs.Messages.{variable_data}
use Rattle.dap_wire.proofs.infos.variables_value.Given as goal

abbrev pub invariant-loop-info : goal.invariant-loop-info
invariant-loop-info l = map view l.values.items ≡ map variable_data (take l.info-index l.infos)
