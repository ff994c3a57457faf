use Rattle.std.proofs.Common.{◌≡◌, ◌∙◌, ◌+◌, ◌∷◌, ◌++◌, [], List, drop, length, get_or, sym, ap, append_assoc}
use Rattle.gob_tree.specs.declared.graph.Edge.{Edge}
use Rattle.gob_tree.specs.declared.unit.Slot.{Slot}
use Rattle.state_dom.specs.StateValue.{StateValue, Bottom, join_of, room_of}
use Rattle.constraint_sys.specs.Contribution.{effects_of, joined_from, outcome_of, reads_of}
use Rattle.constraint_sys.specs.Index.{picked}
use Rattle.constraint_sys.specs.Table.{slots_at}
use Rattle.constraint_sys.specs.declared.unknown.Unknown.{Unknown}
use Rattle.constraint_sys.specs.declared.unknown.Unknown.TheVariants.{Point}
use Rattle.constraint_sys.specs.declared.value.Contribution.{Contribution}
use Rattle.constraint_sys.specs.declared.value.Effect.{Effect}
use Rattle.constraint_sys.specs.declared.value.Outcome.{Outcome}
use Rattle.constraint_sys.proofs.Contributing.{outcome_of_fits}
use Rattle.constraint_sys.proofs.Indexing.{edge_member, numbered, picked_here, place_inside, place_next}
use Rattle.constraint_sys.proofs.Rooms.{slots_at-function}
use Rattle.constraint_sys.proofs.Shaping.{room_of-shaped}
use Rattle.constraint_sys.proofs.edges.of_point.Goals as goal

pub bounds-edges-n : goal.bounds-edges-n
bounds-edges-n c =
    let edges = c.as_slice-edges.result.now in
    let ns = c.into-i-items.result.now in
    let h = numbered c.args.program.now c.args.system.now c.args.func c.args.node c.function_at-function.result.now edges ns c.requires.system c.function_at-function.ensures.is c.as_slice-edges.ensures c.into-i-items.ensures in
    place_inside c.args.program.now c.args.func c.args.node edges ns h c.loop-i.i-index c.loop-i-test.true

pub loop-i-init : goal.loop-i-init
loop-i-init c =
    let p = c.args.program.now in
    let t = c.args.table.now in
    let f = c.args.func in
    let key = c.args.key.now in
    let edges = c.as_slice-edges.result.now in
    let ns = c.into-i-items.result.now in
    let h = numbered p c.args.system.now f c.args.node c.function_at-function.result.now edges ns c.requires.system c.function_at-function.ensures.is c.as_slice-edges.ensures c.into-i-items.ensures in
    let all = picked_here p f c.args.node edges ns h in
    let room : c.room.result ≡ length (slots_at p f) = c.room.ensures ∙ ap (λ (l : List Slot). length l) (sym (slots_at-function p f c.function_at-function.result.now c.function_at-function.ensures.is)) in
    let value : c.in_ok-given.given.value ≡ Bottom (length (slots_at p f)) = ap (λ (g : Contribution). g.value) c.in_ok-given.ensures ∙ ap Bottom room in
    let effects : c.in_ok-given.given.effects ≡ [] = ap (λ (g : Contribution). g.effects) c.in_ok-given.ensures in
    let reads : c.in_ok-given.given.reads ≡ [] = ap (λ (g : Contribution). g.reads) c.in_ok-given.ensures in
    record {
      value = λ k. joined_from p t f key (value k) (all k);
      effects = λ k. effects k ++ effects_of p t f key (all k);
      reads = λ k. reads k ++ reads_of p t f key (all k);
      room = ap room_of value;
    }

pub outcome-requires-clause-edge : goal.outcome-requires-clause-edge
outcome-requires-clause-edge c =
    let edges = c.as_slice-edges.result.now in
    let ns = c.into-i-items.result.now in
    let h = numbered c.args.program.now c.args.system.now c.args.func c.args.node c.function_at-function.result.now edges ns c.requires.system c.function_at-function.ensures.is c.as_slice-edges.ensures c.into-i-items.ensures in
    edge_member c.args.program.now c.args.func c.args.node edges ns h (get_or ns c.loop-i.i-index 0) c.index-edges-n.result (place_inside c.args.program.now c.args.func c.args.node edges ns h c.loop-i.i-index c.loop-i-test.true) c.index-edges-n.is

pub add-requires : goal.add-requires
add-requires c =
    let p = c.args.program.now in
    let f = c.args.func in
    let e = c.index-edges-n.result in
    let edges = c.as_slice-edges.result.now in
    let ns = c.into-i-items.result.now in
    let h = numbered p c.args.system.now f c.args.node c.function_at-function.result.now edges ns c.requires.system c.function_at-function.ensures.is c.as_slice-edges.ensures c.into-i-items.ensures in
    let one = edge_member p f c.args.node edges ns h (get_or ns c.loop-i.i-index 0) e (place_inside p f c.args.node edges ns h c.loop-i.i-index c.loop-i-test.true) c.index-edges-n.is in
    let fits = outcome_of_fits p c.requires.formed c.args.table.now c.requires.shaped f c.args.key.now e one in
    record { room = c.loop-i.invariant.room ∙ sym (ap (λ (o : Outcome). room_of o.value) c.in_ok-outcome.ensures ∙ room_of-shaped (slots_at p f) (outcome_of p c.args.table.now f c.args.key.now e).value fits.state.shape) }

pub loop-i-preserved : goal.loop-i-preserved
loop-i-preserved c =
    let p = c.args.program.now in
    let t = c.args.table.now in
    let f = c.args.func in
    let key = c.args.key.now in
    let edges = c.as_slice-edges.result.now in
    let ns = c.into-i-items.result.now in
    let h = numbered p c.args.system.now f c.args.node c.function_at-function.result.now edges ns c.requires.system c.function_at-function.ensures.is c.as_slice-edges.ensures c.into-i-items.ensures in
    let i = c.loop-i.i-index in
    let e = c.index-edges-n.result in
    let old = c.loop-i.given in
    let rest = picked edges (drop (i + 1) ns) in
    let front : picked edges (drop i ns) ≡ e ∷ rest = place_next p f c.args.node edges ns h i e c.loop-i-test.true c.index-edges-n.is in
    let is : c.in_ok-outcome.outcome ≡ outcome_of p t f key e = c.in_ok-outcome.ensures in
    record {
      value =
          ap (λ (s : StateValue). joined_from p t f key s rest) (c.in_ok-add.ensures.value ∙ ap (λ (o : Outcome). join_of old.value o.value) is)
          ∙ ap (joined_from p t f key old.value) (sym front) ∙ c.loop-i.invariant.value;
      effects =
          ap (λ (l : List Effect). l ++ effects_of p t f key rest) (c.in_ok-add.ensures.effects ∙ ap (λ (o : Outcome). old.effects ++ o.effects) is)
          ∙ append_assoc old.effects (outcome_of p t f key e).effects (effects_of p t f key rest)
          ∙ ap (λ (l : List Edge). old.effects ++ effects_of p t f key l) (sym front) ∙ c.loop-i.invariant.effects;
      reads =
          ap (λ (l : List Unknown). l ++ reads_of p t f key rest) (c.in_ok-add.ensures.reads ∙ (λ k. old.reads ++ c.point.ensures k ∷ (is k).reads))
          ∙ append_assoc old.reads (Point f key e.from ∷ (outcome_of p t f key e).reads) (reads_of p t f key rest)
          ∙ ap (λ (l : List Edge). old.reads ++ reads_of p t f key l) (sym front) ∙ c.loop-i.invariant.reads;
      room = c.in_ok-add.ensures.room ∙ c.loop-i.invariant.room;
    }
