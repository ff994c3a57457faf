use Rattle.std.proofs.Common.{rules, ◌≡◌, [], ◌∷◌, ◌++◌, length}
use Rattle.tree_run.specs.Deeds.{act_frames}
use Rattle.tree_run.proofs.Moving.{start_goes, start_stays}
use Rattle.tree_run.proofs.state.start_at.Goals as goal

pub returns-in-Ok-clause-ok : goal.returns-in-Ok-clause-ok
returns-in-Ok-clause-ok c =
    let pushed : c.push.new.self.items ≡ c.args.threads.now.items ++ c.in_ok-frames.frames ∷ [] = search rules in
    let one : c.in_ok-frames.frames.items ≡ c.args.frame ∷ [] = search rules in
    start_goes (act_frames c.args.act c.args.unit.now c.args.started) c.args.threads.now.items c.push.new.self.items c.perform_at.new.threads.items c.in_ok-frames.frames c.args.frame c.args.place pushed one c.requires.there c.in-Ok.ensures.ok

pub returns-in-Err-clause-err : goal.returns-in-Err-clause-err
returns-in-Err-clause-err c =
    let pushed : c.push.new.self.items ≡ c.args.threads.now.items ++ c.in_ok-frames.frames ∷ [] = search rules in
    let one : c.in_ok-frames.frames.items ≡ c.args.frame ∷ [] = search rules in
    let count : c.len-count.result ≡ length c.args.threads.now.items = search rules in
    start_stays c.args.threads.now.items c.push.new.self.items c.perform_at.new.threads.items c.truncate.new.self.items c.in_ok-frames.frames c.args.frame c.len-count.result pushed one count c.in-Err.ensures.err c.truncate.ensures.items
