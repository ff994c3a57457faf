use Rattle.std.proofs.Common.{rules, ◌≡◌, ◌<◌, length}
use Rattle.std.specs.Int.{w64}
use Rattle.std.proofs.Math.Facts.{to_z-of_z}
use Rattle.tree_run.specs.Going.{config_of}
use Rattle.tree_run.proofs.Does.{decides_there, if_ok, same_config}
use Rattle.tree_run.proofs.state.State.decide_at.Goals as goal

pub returns : goal.returns
returns c =
    let size : c.len.result ≡ length c.index-frames.result.now.items = search rules in
    let some : 0 < c.len.result = search rules in
    if_ok c.decide.result
    (λ d decided. decides_there c.args.self.now.threads.items c.args.place c.index-frames.result.now c.len.result c.index.result.now c.args.unit.now _ (config_of c.args.self.now) c.args.thread _ c.args.input d
    c.requires.there c.index-frames.ensures size some c.index.ensures
    (same_config c.as_slice.ensures.value c.as_slice-2.ensures.value c.as_slice-3.ensures.value) (to_z-of_z {w = w64} c.ranges.input) decided)
    c.decide.ensures
