use Rattle.std.proofs.Common.{◌≡◌, ◌<◌, length, arith}
use Rattle.gob_tree.specs.Named.{named_edge}
use Rattle.gob_tree.proofs.NamedLemmas.{read_alike-at}
use Rattle.gob_tree.proofs.same.same_edges.Goals as goal

pub returns-then-not-same_edge : goal.returns-then-not-same_edge
returns-then-not-same_edge c =
    let in_ys : c.loop-i.i < length c.args.ys.now = omega arith in (
      λ no. cc,
      λ alike.
          let found : named_edge c.args.a.now c.index-xs-i.result ≡ named_edge c.args.b.now c.index-ys-i.result =
          read_alike-at (named_edge c.args.a.now) (named_edge c.args.b.now) c.args.xs.now c.args.ys.now c.loop-i.i _ _ c.loop-i-test.true in_ys c.index-xs-i.is c.index-ys-i.is alike in
          cc (c.same_edge.ensures.1 found),
    )
