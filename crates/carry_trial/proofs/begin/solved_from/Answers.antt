use Rattle.std.proofs.Common.{refl}
use Rattle.carry_trial.proofs.Jobs.{is_solution}
use Rattle.carry_trial.proofs.begin.solved_from.Goals as goal

pub solve-requires-clause-turnable : goal.solve-requires-clause-turnable
solve-requires-clause-turnable c = record { shaped = c.requires.sound.shaped; dirty_points = c.requires.sound.dirty_points }

pub returns-in-Clean : goal.returns-in-Clean
returns-in-Clean c =
    let solved = c.in-Clean.solved in
    is_solution c.args.job c.requires solved (c.in-Clean.ensures.clean solved refl)
    (c.in-Clean.ensures.shaped solved refl) (c.in-Clean.ensures.post_solution solved refl c.requires.sound)
