use Rattle.std.proofs.Common.{◌≡◌, ◌∷◌, [], ◌++◌, ◌∙◌, List, ap}
use Rattle.std.specs.Prelude.{filter}
use Rattle.gob_tree.specs.declared.unit.GlobalDecl.{GlobalDecl}
use Rattle.constraint_sys.specs.PostSolution.{main_start_value}
use Rattle.constraint_sys.specs.Table.{TableValue, main_start}
use Rattle.constraint_sys.specs.Turn.{initial_globals, is_absent}
use Rattle.constraint_sys.proofs.Fellows.{on_ok}
use Rattle.global_restart.proofs.Adding.{roots_added}
use Rattle.global_restart.proofs.roots.add_roots.Goals as goal

pub returns : goal.returns
returns c =
    let p = c.args.program.now in
    let t = c.args.table.now in
    let one = c.add_absent.new.table in
    let first : one ≡ t ++ filter (is_absent t) ((main_start p, main_start_value p) ∷ []) =
    c.in_ok-add_absent.ensures ∙ (λ i. t ++ filter (is_absent t) ((c.main_start.ensures i, c.in_ok-value.ensures.value i) ∷ [])) in
    on_ok c.add_globals.result _ _
    (λ all. roots_added p t one c.add_globals.new.table first (all ∙ ap (λ (gs : List GlobalDecl). one ++ filter (is_absent one) (initial_globals 0 gs)) c.as_slice.ensures))
    c.add_globals.ensures
