use Rattle.std.proofs.Common.{◌≡◌, ◌≢◌, ◌∙◌, List, Some, slice_get, length, ap, rules}
use Rattle.gob_tree.specs.declared.graph.FuncGraph.{FuncGraph}
use Rattle.gob_tree.specs.declared.unit.FuncKind.TheVariants.{Thread}
use Rattle.interval_dom.specs.Bounds.{Bounds}
use Rattle.state_dom.specs.StateValue.{slots_of}
use Rattle.constraint_sys.specs.Transfer.{values_of}
use Rattle.constraint_sys.proofs.Calling.{length-values}
use Rattle.constraint_sys.proofs.Rooms.{params_called}
use Rattle.constraint_sys.proofs.transfer.call.Goals as goal

pub called-requires-clause-args : goal.called-requires-clause-args
called-requires-clause-args c =
    let slots = c.args.function.now.slots in
    let state = slots_of c.args.state.now in
    let vs = c.in-Some.values.items in
    let found : values_of slots state c.args.args.now ≡ Some vs = search rules in
    ap (λ (l : List Bounds). length l) c.as_slice.ensures.value
    ∙ length-values slots state c.args.args.now vs found
    ∙ params_called (λ (g : FuncGraph). g.kind ≢ Thread) (slice_get c.args.program.now.funcs c.args.site.func) (length c.args.args.now) c.requires.callable
