use Rattle.std.proofs.Common.{◌≡◌, map, take}
use Rattle.serde_json.specs.View.{view}
use Rattle.dap_wire.specs.Messages.{frame_data}
use Rattle.dap_wire.proofs.infos.frames_value.Given as goal

abbrev pub invariant-loop-info : goal.invariant-loop-info
invariant-loop-info l = map view l.values.items ≡ map frame_data (take l.info-index l.infos)
