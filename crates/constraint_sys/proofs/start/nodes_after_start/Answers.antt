use Rattle.std.proofs.Common.{◌≡◌, ◌++◌, ◌∷◌, [], ℕ, List, length, sym, ap, ◌∙◌, arith}
use Rattle.constraint_sys.specs.declared.unknown.Unknown.{Unknown}
use Rattle.constraint_sys.specs.declared.unknown.Unknown.TheVariants.{Point}
use Rattle.constraint_sys.specs.Table.{empty_key}
use Rattle.constraint_sys.specs.Turn.{nodes_after_start}
use Rattle.constraint_sys.proofs.Starting.{nodes_after_start-next}
use Rattle.constraint_sys.proofs.start.nodes_after_start.Goals as goal

pub loop-node-preserved : goal.loop-node-preserved
loop-node-preserved c =
    let f = c.args.func in
    let n = c.loop-node.node in
    let one = Point f empty_key n in
    c.in_ok-push.ensures.items ∙ ap (λ (u : Unknown). c.loop-node.points.items ++ u ∷ []) c.point.ensures
    ∙ ap (λ (l : List Unknown). l ++ one ∷ []) c.loop-node.invariant ∙ sym (nodes_after_start-next f empty_key n c.loop-node.auto.node)

pub returns : goal.returns
returns c =
    let end : c.loop-node.node ≡ length c.args.function.now.nodes = omega (arith, c.loop-node-test.false, c.loop-node.auto.node-end, c.requires.entry_and_exit) in
    c.loop-node.invariant ∙ ap (λ (n : ℕ). nodes_after_start c.args.func empty_key n) end
