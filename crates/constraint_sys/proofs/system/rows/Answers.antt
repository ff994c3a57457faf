use Rattle.std.proofs.Common.{◌≡◌, ◌∙◌, ◌<◌, ◌∷◌, ◌++◌, [], inl, inr, ℕ, List, Some, length, get_or, slice_get, take, refl, sym, ap, subst, arith, is_some, true≢false}
use Rattle.std.specs.Prelude.{All, IsSome}
use Rattle.std.specs.Vec.{vec_len}
use Rattle.std.proofs.lemmas.Bool.{cases_lt}
use Rattle.std.proofs.lemmas.List.{take_all}
use Rattle.std.proofs.lemmas.List.Elements.{All-get_or, All-weaker}
use Rattle.std.proofs.lemmas.Option.{slice_get_past, slice_get_read}
use Rattle.gob_tree.specs.Formed.{IsFormedEdge}
use Rattle.gob_tree.specs.declared.graph.Edge.{Edge}
use Rattle.gob_tree.specs.declared.graph.FuncGraph.{FuncGraph}
use Rattle.gob_tree.specs.declared.graph.Program.{Program}
use Rattle.constraint_sys.specs.Index.{has_end, list_or_empty, numbers_where}
use Rattle.constraint_sys.proofs.Indexing.{end_within, length-row_set, numbers_beyond, rows_step}
use Rattle.constraint_sys.proofs.system.rows.Goals as goal

formed_at : (p : Program) (f : FuncGraph) (es : List Edge) (i : ℕ) (e : Edge) → es ≡ f.edges → All (IsFormedEdge p f) f.edges → i < length es → e ≡ get_or es i e → IsFormedEdge p f e
formed_at p f es i e is all within at =
    subst (IsFormedEdge p f) (sym at) (All-get_or (IsFormedEdge p f) es i e within (subst (λ (l : List Edge). All (IsFormedEdge p f) l) (sym is) all))

pub unreachable-requires : goal.unreachable-requires
unreachable-requires c =
    let e = c.edge-item.result in
    let edge = formed_at c.args.program.now c.args.function.now c.as_slice-edge-items.result.now c.loop-i.i e c.as_slice-edge-items.ensures c.requires.edges_formed c.loop-i-test.true c.edge-item.is in
    let inside : c.at_end.result < length c.args.function.now.nodes = end_within c.args.end c.at_end.result (length c.args.function.now.nodes) e c.at_end.ensures edge.begins edge.ends in
    let room : c.at_end.result < vec_len c.loop-i.rows = omega (arith, inside, c.loop-i.invariant.room, c.loop-i.rows.ok.0) in
    let some : IsSome c.get_mut.result = c.get_mut.ensures.variant.1 room in
    true≢false (sym some ∙ ap is_some c.in-None.is)

pub loop-i-preserved : goal.loop-i-preserved
loop-i-preserved c =
    let edges = c.args.function.now.edges in
    let rows = c.loop-i.rows.items in
    let i = c.loop-i.i in
    let n = c.at_end.result in
    let e = c.edge-item.result in
    let row = c.in-Some.row.now in
    let edge = formed_at c.args.program.now c.args.function.now c.as_slice-edge-items.result.now i e c.as_slice-edge-items.ensures c.requires.edges_formed c.loop-i-test.true c.edge-item.is in
    let inside : n < length c.args.function.now.nodes = end_within c.args.end n (length c.args.function.now.nodes) e c.at_end.ensures edge.begins edge.ends in
    let here : row ≡ get_or rows n row = rw c.in-Some.is at c.get_mut.ensures.value in
    let at : slice_get rows n ≡ Some row = slice_get_read rows (length rows) n row refl (omega (arith, inside, c.loop-i.invariant.room)) here in
    let within : i < length edges = subst (λ (l : List Edge). i < length l) c.as_slice-edge-items.ensures c.loop-i-test.true in
    let is : e ≡ get_or edges i e = c.edge-item.is ∙ ap (λ (l : List Edge). get_or l i e) c.as_slice-edge-items.ensures in
    rw c.in_ok-push-in-Some.ensures.ok (record {
      room = length-row_set rows n (row ++ i ∷ []) ∙ c.loop-i.invariant.room;
      rows = rows_step c.args.end edges rows i n e row within is c.at_end.ensures at c.loop-i.invariant.rows;
    })

pub returns : goal.returns
returns c = λ node.
    let function = c.args.function.now in
    let rows = c.loop-i.rows.items in
    let all : take c.loop-i.i function.edges ≡ function.edges = take_all c.loop-i.i function.edges (let past = c.loop-i-test.false in omega (arith, past, ap (λ (l : List Edge). length l) c.as_slice-edge-items.ensures)) in
    ap (λ (l : List (List ℕ)). list_or_empty (slice_get l node)) c.from_vec.ensures ∙ elim (cases_lt node (length rows)) [
      | inl inside ↦ ap list_or_empty (c.loop-i.invariant.rows node inside) ∙ ap (numbers_where (has_end c.args.end node) 0) all
      | inr past ↦
          ap list_or_empty (slice_get_past rows node past)
          ∙ sym (numbers_beyond c.args.end node (length function.nodes) 0 function.edges (omega (arith, past, c.loop-i.invariant.room))
          (All-weaker (IsFormedEdge c.args.program.now function) (λ (e : Edge). (e.from < length function.nodes) × (e.to < length function.nodes)) (λ e one. (one.begins, one.ends)) function.edges c.requires.edges_formed))
    ]
