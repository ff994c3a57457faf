use Rattle.std.proofs.Common.{◌≡◌, ◌∙◌, ◌≤ℤ◌, List, Some, true}
use Rattle.std.specs.Prelude.{Contains, filter}
use Rattle.state_dom.specs.Operators.{may_be}
use Rattle.arg_graph.specs.declared.vertex.Vertex.{Vertex}
use Rattle.breakpoint_eval.specs.Columns.{high_at, low_at, may_hold_at}
use Rattle.breakpoint_eval.specs.Watching.{interval_at}
use Rattle.breakpoint_eval.proofs.Choosing.{by_columns, ok_both, slot_within}
use Rattle.breakpoint_eval.proofs.stopping.stopping_where.Goals as goal

pub stopping_by_columns-requires-clause-slot : goal.stopping_by_columns-requires-clause-slot
stopping_by_columns-requires-clause-slot c =
    λ v one. slot_within c.args.known.now.program.now c.args.known.now.table.now v c.in-Some.by.slot c.args.slots c.requires.shaped (c.requires.there v one) c.in-Some.ensures.slot (c.requires.slots v one)

pub returns-in-Some : goal.returns-in-Some
returns-in-Some c =
    let p = c.args.known.now.program.now in
    let t = c.args.known.now.table.now in
    let vs = c.args.vertices.now in
    let test = c.in-Some.by in
    ok_both c.stopping_by_columns.result
    (λ (at : List Vertex). at ≡ filter (may_hold_at t test) vs)
    (λ (at : List Vertex). (v : Vertex) → Contains vs v → low_at t test.slot v ≤ℤ high_at t test.slot v)
    (λ (at : List Vertex). at ≡ filter (λ (v : Vertex). may_be true (interval_at p t (Some v) c.args.x.now)) vs)
    c.stopping_by_columns.ensures.value c.stopping_by_columns.ensures.ordered
    (λ at value ordered. value ∙ by_columns p t vs c.args.x.now test c.args.slots c.requires.shaped c.requires.there c.in-Some.ensures.comparison c.in-Some.ensures.slot c.requires.slots ordered)
