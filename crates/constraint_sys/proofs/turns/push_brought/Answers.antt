use Rattle.std.proofs.Common.{◌≡◌, ◌↔◌, ◌⊎◌, Option, Some, arith, subst}
use Rattle.std.specs.Prelude.{Contains}
use Rattle.constraint_sys.specs.Arising.{IsInner}
use Rattle.constraint_sys.specs.declared.unknown.Unknown.{Unknown}
use Rattle.constraint_sys.proofs.Awakening.{inner_next, inner_all}
use Rattle.constraint_sys.proofs.turns.push_brought.Goals as goal

pub loop-i-preserved : goal.loop-i-preserved
loop-i-preserved c = λ q.
    let t = c.args.table.now in
    let step = subst (λ (o : Option Unknown). Contains c.push_inner.new.more.items q ↔ (Contains c.loop-i.more.items q ⊎ (IsInner q × (o ≡ Some q)))) c.unknown.ensures (c.in_ok-push_inner.ensures q) in
    inner_next t c.args.from c.loop-i.i q (IsInner q) c.args.more.now.items c.loop-i.more.items c.push_inner.new.more.items c.loop-i.auto.i step (c.loop-i.invariant q)

pub returns-clause-more : goal.returns-clause-more
returns-clause-more c = λ q.
    inner_all c.args.table.now c.args.from c.loop-i.i q (IsInner q) c.args.more.now.items c.loop-i.more.items (omega (arith, c.loop-i-test.false, c.len-i-end.ensures.value)) (c.loop-i.invariant q)
