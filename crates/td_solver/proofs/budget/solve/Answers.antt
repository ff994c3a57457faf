use Rattle.std.proofs.Common.{◌≡◌, ◌≤◌, sym, ap, ◌∙◌, subst, refl, List, [], length}
use Rattle.std.specs.Arc.{arc_value}
use Rattle.constraint_sys.specs.PostSolution.{IsPostSolution}
use Rattle.constraint_sys.specs.Table.{TableValue}
use Rattle.constraint_sys.specs.Turn.{Replays}
use Rattle.constraint_sys.proofs.Replaying.{IsPostSolution-clean, IsSound-replayed}
use Rattle.constraint_sys.specs.declared.unknown.Unknown.{Unknown}
use Rattle.td_solver.specs.Ending.{begun, program_of_job, start_of_job}
use Rattle.td_solver.specs.Running.{GoesOnWithin, Running, program_of}
use Rattle.td_solver.specs.declared.job.Solved.{Solved}
use Rattle.td_solver.proofs.budget.solve.Goals as goal

pub returns-in-Clean-clause-clean : goal.returns-in-Clean-clause-clean
returns-in-Clean-clause-clean c = λ solved is.
    let p = program_of_job c.args.job in
    let start = start_of_job c.args.job in
    let end = c.advance.new.self in
    let made : GoesOnWithin c.args.budget (begun c.args.job) end = subst (λ (run : Running). GoesOnWithin c.args.budget run end) c.in-Ok.ensures.ok c.in-Clean.ensures.goes_on in
    let found = c.solved.ensures in
    let same : found.0 ≡ solved = cc (found.1, is) in
    let table : solved.table ≡ end.solving.table = ap (λ (s : Solved). s.table) (sym same) ∙ found.4 in
    let trace : solved.trace ≡ made.0 = ap (λ (s : Solved). s.trace) (sym same) ∙ found.5 ∙ made.1.trace in
    record {
      number = ap (λ (s : Solved). s.number) (sym same) ∙ found.2 ∙ made.1.job.number;
      source = ap (λ (s : Solved). arc_value s.source) (sym same) ∙ found.3 ∙ made.1.job.source;
      replayed = subst (λ (us : List Unknown). Replays p start us (record { table = solved.table; dirty = [] })) (sym trace)
          (subst (λ (t : TableValue). Replays p start made.0 (record { table = t; dirty = [] })) (sym table)
          (subst (λ (us : List Unknown). Replays p start made.0 (record { table = end.solving.table; dirty = us })) (c.in-Clean.ensures.clean refl) made.1.replayed));
      within_budget = subst (λ (us : List Unknown). length us ≤ c.args.budget) (sym trace) made.2;
    }

pub returns-in-Clean-clause-post_solution : goal.returns-in-Clean-clause-post_solution
returns-in-Clean-clause-post_solution c = λ solved is sound.
    let p = program_of_job c.args.job in
    let start = start_of_job c.args.job in
    let end = c.advance.new.self.solving in
    let made = c.in-Clean.ensures.goes_on in
    let replayed : Replays p start made.0 end = subst (λ (run : Running). Replays (program_of run) run.solving made.0 end) c.in-Ok.ensures.ok made.1.replayed in
    let whole = IsSound-replayed p start made.0 end c.requires.formed sound replayed in
    let found = c.solved.ensures in
    let same : found.0 ≡ solved = cc (found.1, is) in
    let table : solved.table ≡ end.table = ap (λ (s : Solved). s.table) (sym same) ∙ found.4 in
    subst (λ (t : TableValue). IsPostSolution p t) (sym table) (IsPostSolution-clean p end whole (c.in-Clean.ensures.clean refl))
