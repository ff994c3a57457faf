use Rattle.std.proofs.Common.{◌≡◌, ◌∙◌, ℤ, Bool, List, ap, ap₂, length, map, subst, sym}
use Rattle.std.proofs.lemmas.List.{length-map}
use Rattle.std.proofs.lemmas.Simd.{length-zip2}
use Rattle.std.specs.Prelude.{IfOk, filter}
use Rattle.std.specs.Simd.Lanes.{zip2}
use Rattle.lane_bounds.specs.Comparisons.{holds_for_some}
use Rattle.arg_graph.specs.declared.vertex.Vertex.{Vertex}
use Rattle.breakpoint_eval.specs.Columns.{high_at, kept, low_at, may_hold_at}
use Rattle.breakpoint_eval.proofs.Marking.{kept_by}
use Rattle.breakpoint_eval.proofs.columns.stopping_by_columns.Goals as goal

pub marked-requires : goal.marked-requires
marked-requires c =
    let t = c.args.table.now in
    let test = c.args.by in
    let vs = c.args.vertices.now in
    let lows : List ℤ = map (low_at t test.slot) vs in
    let highs : List ℤ = map (high_at t test.slot) vs in
    let marks : c.as_slice.result.now ≡ zip2 (holds_for_some test.op test.number) lows highs =
    c.as_slice.ensures.value ∙ c.in_ok-marks.ensures ∙ ap₂ (zip2 (holds_for_some test.op test.number)) c.in_ok-columns.ensures.lo c.in_ok-columns.ensures.hi in
    ap (λ (l : List Bool). length l) marks
    ∙ length-zip2 (holds_for_some test.op test.number) lows highs (length-map vs (low_at t test.slot) ∙ sym (length-map vs (high_at t test.slot)))
    ∙ length-map vs (low_at t test.slot)

pub returns-clause-value : goal.returns-clause-value
returns-clause-value c =
    let t = c.args.table.now in
    let test = c.args.by in
    let vs = c.args.vertices.now in
    let marks : c.as_slice.result.now ≡ zip2 (holds_for_some test.op test.number) (map (low_at t test.slot) vs) (map (high_at t test.slot) vs) =
    c.as_slice.ensures.value ∙ c.in_ok-marks.ensures ∙ ap₂ (zip2 (holds_for_some test.op test.number)) c.in_ok-columns.ensures.lo c.in_ok-columns.ensures.hi in
    let all : kept vs c.as_slice.result.now ≡ filter (may_hold_at t test) vs = ap (kept vs) marks ∙ kept_by (holds_for_some test.op test.number) (low_at t test.slot) (high_at t test.slot) vs in
    subst (λ (l : List Vertex). IfOk c.marked.result (λ at. at ≡ l)) all c.marked.ensures
