use Rattle.std.proofs.Common.{rules, ◌≡◌, sym, ap, ◌∙◌}
use Rattle.tree_run.proofs.Deciding.{missing_decides, values_decide}
use Rattle.tree_run.proofs.deed.Here.decide.Goals as goal

pub returns-in-Err : goal.returns-in-Err
returns-in-Err c = missing_decides c.args.self.now c.in-Some.front c.in-Err.demand c.missing.result (search rules) (search rules) c.missing.ensures

pub returns-in-Ok : goal.returns-in-Ok
returns-in-Ok c = values_decide c.args.self.now c.in-Some.front c.as_slice.result.now c.front.result (search rules) (search rules) c.front.ensures
