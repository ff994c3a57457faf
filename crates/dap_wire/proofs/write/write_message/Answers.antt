use Rattle.std.proofs.Common.{◌≡◌, false, ap, ◌∙◌}
use Rattle.serde_json.specs.View.{view}
use Rattle.serde_json.specs.Written.{has_float, compact_text}
use Rattle.dap_wire.proofs.NoFloats.{no_float}
use Rattle.dap_wire.proofs.write.write_message.Goals as goal

pub returns : goal.returns
returns c =
    let none : has_float (view c.in_ok-value.value) ≡ false = ap has_float c.in_ok-value.ensures ∙ no_float c.args.message.now in
    c.in_ok-to_vec.ensures.text none ∙ ap compact_text c.in_ok-value.ensures
