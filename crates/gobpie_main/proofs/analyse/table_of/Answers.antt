use Rattle.std.proofs.Common.{refl}
use Rattle.gobpie_main.proofs.Solving.{sound_start, solved_completes, spent_spends, turnable_start}
use Rattle.gobpie_main.proofs.analyse.table_of.Goals as goal

pub solve-requires-clause-turnable : goal.solve-requires-clause-turnable
solve-requires-clause-turnable c = turnable_start c.in_ok-job.job c.args.source c.in_ok-job.ensures.source c.in_ok-job.ensures.start c.is_analysable.ensures.formed

pub returns-in_ok-bytes-in-Clean : goal.returns-in_ok-bytes-in-Clean
returns-in_ok-bytes-in-Clean c = λ text of_text.
    let solved = c.in-Clean.solved in
    let sound = sound_start c.in_ok-job.job c.args.source c.in_ok-job.ensures.source c.in_ok-job.ensures.start c.is_analysable.ensures.formed in (
      c.args.source,
      of_text,
      solved_completes c.in_ok-job.job c.args.source c.in_ok-job.ensures.source c.in_ok-job.ensures.start c.trees_are_shown.ensures c.is_analysable.ensures c.args.budget solved c.in_ok-bytes-in-Clean.bytes.items
          (c.in-Clean.ensures.clean solved refl) (c.in-Clean.ensures.shaped solved refl) (c.in-Clean.ensures.post_solution solved refl sound) c.in_ok-bytes-in-Clean.ensures,
    )

pub returns-in-Spent : goal.returns-in-Spent
returns-in-Spent c = λ text of_text.
    let run = c.in-Spent._run in
    (refl, (c.args.source, of_text, spent_spends c.in_ok-job.job c.args.source c.in_ok-job.ensures.source c.in_ok-job.ensures.start c.args.budget run (c.in-Spent.ensures.spent run refl)))
