use Rattle.std.proofs.Common.{refl, subst, sym}
use Rattle.c_source.specs.declared.source.Source.{Source}
use Rattle.constraint_sys.specs.PostSolution.{IsPostSolution}
use Rattle.edition_texts.proofs.Beginning.{sound_start, turnable_start}
use Rattle.edition_texts.proofs.begin.edition_of.Goals as goal

pub solve-requires-clause-turnable : goal.solve-requires-clause-turnable
solve-requires-clause-turnable c = turnable_start c.in-Ok-job_of.job c.in-Ok.source c.in-Ok-job_of.ensures.source c.in-Ok-job_of.ensures.start c.in-Ok.ensures.formed

pub made-requires-clause-solved : goal.made-requires-clause-solved
made-requires-clause-solved c =
    let solved = c.in-Clean.solved in
    let sound = sound_start c.in-Ok-job_of.job c.in-Ok.source c.in-Ok-job_of.ensures.source c.in-Ok-job_of.ensures.start c.in-Ok.ensures.formed in
    subst (λ (s : Source). IsPostSolution s.program solved.table) (sym (c.in-Clean.ensures.clean solved refl).source) (c.in-Clean.ensures.post_solution solved refl sound)
