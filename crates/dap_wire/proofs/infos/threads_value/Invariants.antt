use Rattle.std.proofs.Common.{◌≡◌, map, take}
use Rattle.serde_json.specs.View.{view}
use Rattle.dap_wire.specs.Messages.{thread_data}
use Rattle.dap_wire.proofs.infos.threads_value.Given as goal

abbrev pub invariant-loop-info : goal.invariant-loop-info
invariant-loop-info l = map view l.values.items ≡ map thread_data (take l.info-index l.infos)
