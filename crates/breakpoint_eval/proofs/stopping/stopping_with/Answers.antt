use Rattle.std.proofs.Common.{◌≡◌, ◌∙◌, List, None, Some, ap, length, subst, sym, ℕ}
use Rattle.std.specs.Prelude.{IfOk}
use Rattle.gob_tree.specs.declared.unit.Slot.{Slot}
use Rattle.constraint_sys.specs.Table.{slots_at}
use Rattle.arg_graph.specs.declared.vertex.Vertex.{Vertex}
use Rattle.breakpoint_eval.proofs.Choosing.{form_at, with_form, without_form}
use Rattle.breakpoint_eval.proofs.stopping.stopping_with.Goals as goal

pub stopping_where-requires-clause-slots : goal.stopping_where-requires-clause-slots
stopping_where-requires-clause-slots c =
    λ v one. ap (λ (l : List Slot). length l) (c.slots_at-slots.ensures.value ∙ ap (λ (f : ℕ). slots_at c.args.known.now.program.now f) (sym (c.requires.func v one)))

pub returns-in-Some : goal.returns-in-Some
returns-in-Some c =
    let p = c.args.known.now.program.now in
    let is = form_at c.slots_at-slots.result.now (slots_at p c.args.func) c.as_slice.result.now p.globals c.args.e.now c.in_ok-form.form (Some c.in-Some.x) c.slots_at-slots.ensures.value c.as_slice.ensures c.in_ok-form.ensures c.in-Some.is in
    subst (λ (l : List Vertex). IfOk c.stopping_where.result (λ at. at ≡ l))
    (with_form p c.args.known.now.table.now c.args.vertices.now c.args.e.now c.args.func c.in-Some.x c.requires.func is) c.stopping_where.ensures

pub returns-in-None : goal.returns-in-None
returns-in-None c =
    let p = c.args.known.now.program.now in
    let is = form_at c.slots_at-slots.result.now (slots_at p c.args.func) c.as_slice.result.now p.globals c.args.e.now c.in_ok-form.form None c.slots_at-slots.ensures.value c.as_slice.ensures c.in_ok-form.ensures c.in-None.is in
    c.new.ensures ∙ without_form p c.args.known.now.table.now c.args.vertices.now c.args.e.now c.args.func c.requires.func is
