use Rattle.std.proofs.Common.{◌≡◌, ◌<◌, length, arith, ap}
use Rattle.gob_tree.specs.Named.{named_expr, in_order}
use Rattle.gob_tree.proofs.NamedLemmas.{in_order-injective, read_alike-at, read_alike_more}
use Rattle.gob_tree.proofs.same.+same_expr.Goals as goal

pub same_arguments-returns : goal.same_arguments-returns
same_arguments-returns t c = (
  λ same. ap in_order (c.same_exprs.ensures.0 same),
  λ alike. c.same_exprs.ensures.1 (in_order-injective _ _ alike),
)

pub same_exprs-returns-then-not-same_expr : goal.same_exprs-returns-then-not-same_expr
same_exprs-returns-then-not-same_expr t c =
    let in_ys : c.loop-i.i < length c.args.ys.now = omega arith in (
      λ no. cc,
      λ alike.
          let found : named_expr c.args.a.now c.index-xs-i.result ≡ named_expr c.args.b.now c.index-ys-i.result =
          read_alike-at (named_expr c.args.a.now) (named_expr c.args.b.now) c.args.xs.now c.args.ys.now c.loop-i.i _ _ c.loop-i-test.true in_ys c.index-xs-i.is c.index-ys-i.is alike in
          cc (c.same_expr.ensures.1 found),
    )

pub same_exprs-loop-i-preserved : goal.same_exprs-loop-i-preserved
same_exprs-loop-i-preserved t c =
    let in_ys : c.loop-i.i < length c.args.ys.now = omega arith in
    read_alike_more (named_expr c.args.a.now) (named_expr c.args.b.now) c.args.xs.now c.args.ys.now c.loop-i.i _ _ c.loop-i-test.true in_ys c.index-xs-i.is c.index-ys-i.is
    c.loop-i.invariant (c.same_expr.ensures.0 c.if-not-same_expr.false)
