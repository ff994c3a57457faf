use Rattle.std.proofs.Common.{◌≡◌, rules, subst}
use Rattle.gob_tree.specs.declared.graph.Program.{Program}
use Rattle.constraint_sys.specs.Turn.{initial_dirty, initial_table}
use Rattle.carry_trial.proofs.Jobs.{first_sound, initial_start}
use Rattle.carry_trial.proofs.begin.begun.Goals as goal

pub returns : goal.returns
returns c =
    let own : c.program.result.now ≡ c.args.source.program = search rules in
    let table = subst (λ (p : Program). c.in_ok-table.table ≡ initial_table p) own c.in_ok-table.ensures.table in
    let dirty = subst (λ (p : Program). c.in_ok-table.dirty ≡ initial_dirty p) own c.in_ok-table.ensures.dirty in
    first_sound c.in_ok-job.job c.args.source c.in_ok-job.ensures.source c.requires
    (initial_start c.args.source.program c.in_ok-table.table c.in_ok-table.dirty _ c.in_ok-job.ensures.start table dirty)
