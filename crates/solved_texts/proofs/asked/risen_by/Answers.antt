use Rattle.solved_texts.proofs.asked.risen_by.Goals as goal

pub plan_turn-requires-clause-there : goal.plan_turn-requires-clause-there
plan_turn-requires-clause-there c = c.requires.turnable.dirty_points c.args.u.now (c.contains.ensures.0 c.if-not-contains.false)
