use Rattle.std.proofs.Common.{refl}
use Rattle.load_tables.proofs.Jobs.{solves_from, spends, sound_of_job, turnable_of_job}
use Rattle.load_tables.proofs.solving.solve_from.Goals as goal

pub solve-requires-clause-turnable : goal.solve-requires-clause-turnable
solve-requires-clause-turnable c = turnable_of_job c.in_ok-job.job c.args.source _ c.in_ok-job.ensures.source c.in_ok-job.ensures.start c.requires.sound

pub returns-in-Clean-clause-solved : goal.returns-in-Clean-clause-solved
returns-in-Clean-clause-solved c =
    let solved = c.in-Clean.solved in
    solves_from c.in_ok-job.job c.args.source _ c.in_ok-job.ensures.source c.in_ok-job.ensures.start c.requires.formed solved
    (c.in-Clean.ensures.clean solved refl) (c.in-Clean.ensures.shaped solved refl)
    (c.in-Clean.ensures.post_solution solved refl (sound_of_job c.in_ok-job.job c.args.source _ c.in_ok-job.ensures.source c.in_ok-job.ensures.start c.requires.sound))

pub returns-in-Spent-clause-spent : goal.returns-in-Spent-clause-spent
returns-in-Spent-clause-spent c = λ is. spends c.in_ok-job.job c.args.source _ c.in_ok-job.ensures.source c.in_ok-job.ensures.start c.in-Spent._run (c.in-Spent.ensures.spent c.in-Spent._run refl)
