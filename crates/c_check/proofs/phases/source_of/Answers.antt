use Rattle.std.proofs.Common.{◌≡◌, [], List, sym, ap, ◌∙◌, subst}
use Rattle.std.proofs.lemmas.Result.{err_from_is_err_and}
use Rattle.gob_tree.specs.Formed.{IsFormed}
use Rattle.gob_tree.specs.declared.graph.Program.{Program}
use Rattle.gob_tree.specs.declared.unit.Function.{Function}
use Rattle.gob_tree.specs.declared.unit.Unit.{Unit as TranslationUnit}
use Rattle.c_meaning.specs.Graph.{program_of}
use Rattle.c_source.specs.declared.source.Source.{Source}
use Rattle.c_check.specs.Faults.{IsFirst}
use Rattle.c_check.specs.Front.{graph_faults}
use Rattle.c_check.proofs.Analysable.{tree_analysable}
use Rattle.c_check.proofs.FrontPhases.{reads_spelled, unit_refused, graphs_refused, want_refused, no_faults}
use Rattle.c_check.proofs.FrontSizes.{tree_formed}
use Rattle.c_check.proofs.phases.source_of.Goals as goal

pub returns-in_err-unit-clause-refused : goal.returns-in_err-unit-clause-refused
returns-in_err-unit-clause-refused c =
    let p = err_from_is_err_and c.from_residual.result c.from_residual.ensures.1 in
    rw (p.1, p.2) (unit_refused c.args.text.now c.args.raw c.in_err-unit.field-0.0 c.requires.read c.in_err-unit.ensures.checked)

pub returns-in_err-graphs-clause-refused : goal.returns-in_err-graphs-clause-refused
returns-in_err-graphs-clause-refused c =
    let p = err_from_is_err_and c.from_residual-in_err-graphs.result c.from_residual-in_err-graphs.ensures.1 in
    rw (p.1, p.2) (graphs_refused c.args.text.now c.args.raw c.in_err-graphs.field-0.0 c.requires.read c.in_ok-unit.ensures.checked.0
    (subst (λ (fs : List Function). IsFirst c.in_err-graphs.field-0.0 (graph_faults 0 fs)) (c.as_slice.ensures ∙ ap (λ (u : TranslationUnit). u.funcs) c.in_ok-unit.ensures.checked.1) c.in_err-graphs.ensures))

pub returns-in_err-program-clause-refused : goal.returns-in_err-program-clause-refused
returns-in_err-program-clause-refused c =
    let p = err_from_is_err_and c.from_residual-in_err-program.result c.from_residual-in_err-program.ensures.1 in
    rw p.1 (want_refused c.args.text.now p.0 p.2)

pub returns-in_err-text-clause-refused : goal.returns-in_err-text-clause-refused
returns-in_err-text-clause-refused c =
    let p = err_from_is_err_and c.from_residual-in_err-text.result c.from_residual-in_err-text.ensures.1 in
    rw p.1 (want_refused c.args.text.now p.0 p.2)

pub of-requires-2 : goal.of-requires-2
of-requires-2 c =
    let unit = c.in_ok-unit.ensures.checked in
    let funcs = c.as_slice.ensures ∙ ap (λ (u : TranslationUnit). u.funcs) unit.1 in
    let none = subst (λ (fs : List Function). graph_faults 0 fs ≡ []) funcs c.in_ok-graphs.ensures.0 in
    tree_analysable c.args.text.now c.args.raw _ c.requires.read (no_faults c.args.raw unit.0 none) unit.1 (c.in_ok-program.ensures ∙ ap program_of unit.1)

pub returns-clause-formed : goal.returns-clause-formed
returns-clause-formed c =
    let unit = c.in_ok-unit.ensures.checked in
    let funcs = c.as_slice.ensures ∙ ap (λ (u : TranslationUnit). u.funcs) unit.1 in
    let none = subst (λ (fs : List Function). graph_faults 0 fs ≡ []) funcs c.in_ok-graphs.ensures.0 in
    let formed = tree_formed c.args.raw (reads_spelled c.args.text.now c.args.raw c.requires.read) (no_faults c.args.raw unit.0 none) in
    subst (λ (p : Program). IsFormed p) (sym (ap (λ (s : Source). s.program) c.of-2.ensures ∙ c.in_ok-program.ensures ∙ ap program_of unit.1)) formed
