use Rattle.std.proofs.Common.{◌≡◌, ◌∙◌, ◌+◌, ◌<◌, ◌++◌, ◌∷◌, [], inl, inr, ℕ, List, Some, length, slice_get, sym, ap, subst, arith}
use Rattle.std.specs.Global.{Vec}
use Rattle.std.proofs.lemmas.Bool.{cases_lt}
use Rattle.std.proofs.lemmas.List.{length_push}
use Rattle.gob_tree.specs.declared.graph.FuncGraph.{FuncGraph}
use Rattle.gob_tree.specs.declared.place.Place.{Place}
use Rattle.constraint_sys.specs.Table.{nodes_at, nodes_of_function}
use Rattle.constraint_sys.proofs.Rooms.{function_with_node}
use Rattle.arg_graph.specs.Graphs.{HasRoom, row_of}
use Rattle.arg_graph.specs.declared.vertex.Vertex.{Vertex}
use Rattle.arg_graph.proofs.ByNumber.{function_read}
use Rattle.arg_graph.proofs.NodeRows.{room_last, room_more, row_more}
use Rattle.arg_graph.proofs.graph.no_rows.Goals as goal

pub loop-function-preserved : goal.loop-function-preserved
loop-function-preserved c =
    let p = c.args.program.now in
    let i = c.loop-function.function-index in
    let old = c.loop-function.rows.items in
    let row = c.in_ok-empty_rows.field-0 in
    let function = c.function-item.result in
    let funcs = c.as_slice-function-items.result.now in
    let is : c.push.new.self.items ≡ old ++ row ∷ [] = c.in_ok-push.ensures.items in
    let within : i < length p.funcs = subst (λ (l : List FuncGraph). i < length l) c.as_slice-function-items.ensures c.loop-function-test.true in
    let at : slice_get p.funcs i ≡ Some function = function_read p funcs i function within c.as_slice-function-items.ensures c.function-item.is in
    let nodes : nodes_at p i ≡ function.nodes = ap nodes_of_function at in
    let long : length row.items ≡ length (nodes_at p i) = c.in_ok-empty_rows.ensures.length ∙ c.len.ensures ∙ sym (ap (λ (l : List Place). length l) nodes) in
    record {
      counted = ap (λ (l : List (Vec (List Vertex))). length l) is ∙ length_push old row ∙ ap (λ (n : ℕ). n + 1) c.loop-function.invariant.counted;
      none = λ f node. ap (λ (l : List (Vec (List Vertex))). row_of l f node) is ∙ row_more old row c.in_ok-empty_rows.ensures.empty c.loop-function.invariant.none f node;
      room = λ f node before inside. subst (λ (l : List (Vec (List Vertex))). HasRoom l f node) (sym is) (elim (cases_lt f i) [
        | inl earlier ↦ room_more old row f node (c.loop-function.invariant.room f node earlier inside)
        | inr later ↦
            (let same : f ≡ i = omega arith in
            let last : HasRoom (old ++ row ∷ []) (length old) node = room_last old row node (let here : node < length (nodes_at p i) = subst (λ (k : ℕ). node < length (nodes_at p k)) same inside in omega (arith, here, long)) in
            subst (λ (k : ℕ). HasRoom (old ++ row ∷ []) k node) (c.loop-function.invariant.counted ∙ sym same) last)
      ]);
    }

pub returns-clause-room : goal.returns-clause-room
returns-clause-room c = λ f node inside.
    let p = c.args.program.now in
    let there : f < length p.funcs = function_with_node p f node (slice_get p.funcs f) (λ i. slice_get p.funcs f) inside in
    let same : length c.as_slice-function-items.result.now ≡ length p.funcs = ap (λ (l : List FuncGraph). length l) c.as_slice-function-items.ensures in
    c.loop-function.invariant.room f node (omega (arith, there, same, c.loop-function-test.false)) inside
