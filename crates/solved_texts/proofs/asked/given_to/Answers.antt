use Rattle.solved_texts.proofs.asked.given_to.Goals as goal

pub contribution-requires-clause-there : goal.contribution-requires-clause-there
contribution-requires-clause-there c = c.requires.turnable.dirty_points c.args.u.now (c.contains.ensures.0 c.if-not-contains.false)
