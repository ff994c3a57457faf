use Rattle.std.proofs.Common.{◌≡◌, ◌∙◌, ◌+◌, ◌++◌, List, drop, get_or, sym, ap, append_assoc}
use Rattle.gob_tree.specs.declared.graph.FuncGraph.{FuncGraph}
use Rattle.constraint_sys.specs.Contribution.{outcome_of}
use Rattle.constraint_sys.specs.declared.value.Outcome.{Outcome}
use Rattle.arg_graph.specs.Offered.{steps_by}
use Rattle.arg_graph.specs.declared.vertex.Step.{Step}
use Rattle.arg_graph.proofs.ByNumber.{edge_there, function_read, numbered, place_inside, steps_all, steps_at_numbers, steps_next}
use Rattle.arg_graph.proofs.offered.offered.Goals as goal

pub loop-i-init : goal.loop-i-init
loop-i-init c =
    let p = c.args.program.now in
    let v = c.args.v.now in
    let edges = c.as_slice-edges.result.now in
    let ns = c.out_of-i-items.result.now in
    let at = function_read p c.as_slice.result.now v.func c.index-as_slice-v.result c.requires.within c.as_slice.ensures c.index-as_slice-v.is in
    let edges_is : edges ≡ c.index-as_slice-v.result.edges = c.as_slice-edges.ensures ∙ ap (λ (f : FuncGraph). f.edges) (sym c.index-as_slice-v.is) in
    let h = numbered p c.args.system.now v c.index-as_slice-v.result edges ns c.requires.system at edges_is c.out_of-i-items.ensures in
    ap (λ (l : List Step). l ++ steps_at_numbers p c.args.table.now v edges ns) c.new-steps.ensures ∙ steps_all p c.args.table.now v edges ns h

pub bounds-edges-n : goal.bounds-edges-n
bounds-edges-n c =
    let p = c.args.program.now in
    let v = c.args.v.now in
    let edges = c.as_slice-edges.result.now in
    let ns = c.out_of-i-items.result.now in
    let at = function_read p c.as_slice.result.now v.func c.index-as_slice-v.result c.requires.within c.as_slice.ensures c.index-as_slice-v.is in
    let edges_is : edges ≡ c.index-as_slice-v.result.edges = c.as_slice-edges.ensures ∙ ap (λ (f : FuncGraph). f.edges) (sym c.index-as_slice-v.is) in
    let h = numbered p c.args.system.now v c.index-as_slice-v.result edges ns c.requires.system at edges_is c.out_of-i-items.ensures in
    place_inside p c.args.table.now v edges ns h c.loop-i.i-index c.loop-i-test.true

pub outcome-requires-clause-edge : goal.outcome-requires-clause-edge
outcome-requires-clause-edge c =
    let p = c.args.program.now in
    let v = c.args.v.now in
    let edges = c.as_slice-edges.result.now in
    let ns = c.out_of-i-items.result.now in
    let at = function_read p c.as_slice.result.now v.func c.index-as_slice-v.result c.requires.within c.as_slice.ensures c.index-as_slice-v.is in
    let edges_is : edges ≡ c.index-as_slice-v.result.edges = c.as_slice-edges.ensures ∙ ap (λ (f : FuncGraph). f.edges) (sym c.index-as_slice-v.is) in
    let h = numbered p c.args.system.now v c.index-as_slice-v.result edges ns c.requires.system at edges_is c.out_of-i-items.ensures in
    edge_there p c.args.table.now v edges ns h c.loop-i.i-index c.index-edges-n.result c.loop-i-test.true c.index-edges-n.is

pub loop-i-preserved : goal.loop-i-preserved
loop-i-preserved c =
    let p = c.args.program.now in
    let v = c.args.v.now in
    let edges = c.as_slice-edges.result.now in
    let ns = c.out_of-i-items.result.now in
    let at = function_read p c.as_slice.result.now v.func c.index-as_slice-v.result c.requires.within c.as_slice.ensures c.index-as_slice-v.is in
    let edges_is : edges ≡ c.index-as_slice-v.result.edges = c.as_slice-edges.ensures ∙ ap (λ (f : FuncGraph). f.edges) (sym c.index-as_slice-v.is) in
    let h = numbered p c.args.system.now v c.index-as_slice-v.result edges ns c.requires.system at edges_is c.out_of-i-items.ensures in
    let t = c.args.table.now in
    let i = c.loop-i.i-index in
    let e = c.index-edges-n.result in
    let n = get_or ns i 0 in
    let old = c.loop-i.steps in
    let rest = steps_at_numbers p t v edges (drop (i + 1) ns) in
    ap (λ (l : List Step). l ++ rest) (c.in_ok-push_steps.ensures ∙ ap (λ (o : Outcome). old ++ steps_by v n e o) c.in_ok-outcome.ensures)
    ∙ append_assoc old (steps_by v n e (outcome_of p t v.func v.key e)) rest
    ∙ ap (λ (l : List Step). old ++ l) (sym (steps_next p t v edges ns h i e c.loop-i-test.true c.index-edges-n.is))
    ∙ c.loop-i.invariant
