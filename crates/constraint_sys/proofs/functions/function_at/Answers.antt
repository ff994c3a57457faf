use Rattle.std.proofs.Common.{◌≡◌, ◌≤◌, ◌∙◌, ℕ, List, length, get_or, sym, ap, arith, subst}
use Rattle.std.proofs.lemmas.List.Sums.{get_or-le-sum_by, sum-map}
use Rattle.gob_tree.specs.declared.graph.FuncGraph.{FuncGraph}
use Rattle.constraint_sys.proofs.functions.function_at.Goals as goal

pub returns-clause-nodes_limit : goal.returns-clause-nodes_limit
returns-clause-nodes_limit c =
    let funcs = c.args.program.now.funcs in
    let function = c.index-as_slice-func.result in
    let count : FuncGraph → ℕ = λ g. length g.nodes in
    let is : function ≡ get_or funcs c.args.func function = c.index-as_slice-func.is ∙ ap (λ (l : List FuncGraph). get_or l c.args.func function) c.as_slice.ensures in
    let one = get_or-le-sum_by count funcs c.args.func function c.requires.in_range in
    let all = sum-map count funcs in
    let limit : count (get_or funcs c.args.func function) ≤ 4096 = omega (arith, one, all, c.requires.formed.nodes_limit) in
    subst (λ (g : FuncGraph). count g ≤ 4096) (sym is) limit
