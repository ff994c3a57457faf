use Rattle.std.proofs.Common.{◌≡◌, ◌++◌, ◌∙◌, ℕ, ap, arith}
use Rattle.std.specs.Map.{keys_of}
use Rattle.std.specs.Prelude.{filter}
use Rattle.constraint_sys.specs.Turn.{bottoms, is_absent}
use Rattle.global_restart.proofs.Adding.{node_more, nodes_begin}
use Rattle.global_restart.proofs.lacking.add_bottoms.Goals as goal

pub loop-node-init : goal.loop-node-init
loop-node-init c = nodes_begin c.args.table.now c.args.added.now.items c.args.room c.args.func c.args.key.now

pub loop-node-preserved : goal.loop-node-preserved
loop-node-preserved c =
    node_more c.args.table.now c.loop-node.table c.add_bottom.new.table c.args.added.now.items c.loop-node.added.items c.add_bottom.new.added.items c.args.room c.args.func c.args.key.now c.loop-node.node c.loop-node.auto.node c.loop-node.invariant
    c.in_ok-add_bottom.ensures.table c.in_ok-add_bottom.ensures.added

pub returns-clause-table : goal.returns-clause-table
returns-clause-table c =
    let t = c.args.table.now in
    let end : c.loop-node.node ≡ c.args.nodes = omega (arith, c.loop-node-test.false, c.loop-node.auto.node-end, c.requires) in
    c.loop-node.invariant.table ∙ ap (λ (n : ℕ). t ++ filter (is_absent t) (bottoms c.args.room c.args.func c.args.key.now n)) end

pub returns-clause-added : goal.returns-clause-added
returns-clause-added c =
    let t = c.args.table.now in
    let us = c.args.added.now.items in
    let end : c.loop-node.node ≡ c.args.nodes = omega (arith, c.loop-node-test.false, c.loop-node.auto.node-end, c.requires) in
    c.loop-node.invariant.added ∙ ap (λ (n : ℕ). us ++ keys_of (filter (is_absent t) (bottoms c.args.room c.args.func c.args.key.now n))) end
