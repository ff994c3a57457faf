use Rattle.std.proofs.Common.{◌≡◌, List, get_or, rules, subst, sym, ap, ◌∙◌}
use Rattle.std.specs.Prelude.{Contains}
use Rattle.std.proofs.lemmas.List.Elements.{Contains-get_or}
use Rattle.gob_tree.specs.declared.graph.Edge.{Edge}
use Rattle.constraint_sys.specs.Table.{edges_at, edges_of_function}
use Rattle.solved_texts.proofs.asked.given.Goals as goal

pub outcome-requires-clause-edge : goal.outcome-requires-clause-edge
outcome-requires-clause-edge c =
    let p = c.args.program.now in
    let f = c.args.func in
    let at : edges_at p f ≡ c.as_slice-edges.result.now = ap edges_of_function c.function_at.ensures.is ∙ sym c.as_slice-edges.ensures in
    subst (λ (es : List Edge). Contains es c.index-edges-edge.result) (sym at) (subst (Contains c.as_slice-edges.result.now) (sym c.index-edges-edge.is) (Contains-get_or c.as_slice-edges.result.now c.args.edge c.index-edges-edge.result (search rules)))
