use Rattle.std.proofs.Common.{◌≡◌, ◌++◌, ◌∷◌, [], ℕ, length, sym, ap, ◌∙◌, arith, append_assoc}
use Rattle.state_dom.specs.StateValue.{Bottom}
use Rattle.constraint_sys.specs.declared.unknown.Unknown.TheVariants.{Point, Global}
use Rattle.constraint_sys.specs.declared.value.Value.TheVariants.{State}
use Rattle.constraint_sys.specs.Table.{TableValue, empty_key}
use Rattle.constraint_sys.specs.Turn.{bottoms}
use Rattle.constraint_sys.proofs.Starting.{bottoms-next, Point-node}
use Rattle.constraint_sys.proofs.start.add_nodes.Goals as goal

pub loop-node-preserved : goal.loop-node-preserved
loop-node-preserved c =
    let f = c.args.func in
    let n = c.loop-node.node in
    let room = length c.args.function.now.slots in
    let before = bottoms room f empty_key n in
    let state : c.in_ok-bottom.bottom ≡ Bottom room = c.in_ok-bottom.ensures ∙ ap Bottom c.room-slots.ensures in
    let added : c.add.new.self ≡ c.loop-node.table ++ (Point f empty_key n, State (Bottom room)) ∷ [] =
    c.in_ok-add.ensures.ok ∙ (λ i. c.loop-node.table ++ (c.point.ensures i, State (state i)) ∷ []) in
    record {
      nodes = added ∙ ap (λ (t : TableValue). t ++ (Point f empty_key n, State (Bottom room)) ∷ []) c.loop-node.invariant.nodes
          ∙ append_assoc c.args.table.now before ((Point f empty_key n, State (Bottom room)) ∷ [])
          ∙ ap (λ (t : TableValue). c.args.table.now ++ t) (sym (bottoms-next room f empty_key n c.loop-node.auto.node));
      absent = λ m above. c.in_ok-add.ensures.others (Point f empty_key m) (λ same. let n_is = Point-node f empty_key m n (same ∙ c.point.ensures) in omega (arith, above, n_is)) ∙ c.loop-node.invariant.absent m (omega arith);
      globals = λ g. c.in_ok-add.ensures.others (Global g) (λ same. let clash : Global g ≡ Point f empty_key n = same ∙ c.point.ensures in cc clash) ∙ c.loop-node.invariant.globals g;
    }

pub returns-clause-nodes : goal.returns-clause-nodes
returns-clause-nodes c =
    let end : c.loop-node.node ≡ length c.args.function.now.nodes = omega (arith, c.loop-node-test.false, c.loop-node.auto.node-end, c.requires.entry_and_exit) in
    c.loop-node.invariant.nodes ∙ ap (λ (n : ℕ). c.args.table.now ++ bottoms (length c.args.function.now.slots) c.args.func empty_key n) end
