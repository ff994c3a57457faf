use Rattle.std.proofs.Common.{◌≡◌, ◌⊎◌, ◌↔◌, ◌∙◌, false, List, Some, take, subst}
use Rattle.std.specs.Prelude.{Contains}
use Rattle.std.proofs.lemmas.List.{take_all}
use Rattle.constraint_sys.specs.declared.unknown.Unknown.{Unknown}
use Rattle.constraint_sys.proofs.Ordered.{Contains-take_more}
use Rattle.destabilise.specs.Marked.{IsIn, IsMarked, mark_at}
use Rattle.destabilise.proofs.Marking.{marked_joined, waiting_joined}
use Rattle.destabilise.proofs.marks.Marks.add_each.Goals as goal

pub loop-u-preserved : goal.loop-u-preserved
loop-u-preserved c = record {
  there = λ v. (λ one. (c.loop-u.invariant.there v).0 ((c.in_ok-add.ensures.there v).0 one), λ one. (c.in_ok-add.ensures.there v).1 ((c.loop-u.invariant.there v).1 one));
  marked = λ v. marked_joined (c.in_ok-add.ensures.marked v) (c.loop-u.invariant.marked v) (Contains-take_more c.args.us.now c.loop-u.u-index c.u-item.result v c.loop-u-test.true c.u-item.is) (c.loop-u.invariant.there v);
  waiting = λ v. waiting_joined c.args.self.now c.loop-u.self v (c.loop-u.invariant.there v) (c.loop-u.invariant.marked v) (c.in_ok-add.ensures.waiting v) (c.loop-u.invariant.waiting v) (Contains-take_more c.args.us.now c.loop-u.u-index c.u-item.result v c.loop-u-test.true c.u-item.is);
  balance = c.in_ok-add.ensures.balance ∙ c.loop-u.invariant.balance;
}

pub returns-clause-marked : goal.returns-clause-marked
returns-clause-marked c =
    let all : take c.loop-u.u-index c.args.us.now ≡ c.args.us.now = take_all c.loop-u.u-index c.args.us.now c.loop-u-test.false in
    subst (λ (l : List Unknown). (v : Unknown) → IsMarked c.loop-u.self v ↔ (IsMarked c.args.self.now v ⊎ (Contains l v × IsIn c.args.self.now v))) all c.loop-u.invariant.marked

pub returns-clause-waiting : goal.returns-clause-waiting
returns-clause-waiting c =
    let all : take c.loop-u.u-index c.args.us.now ≡ c.args.us.now = take_all c.loop-u.u-index c.args.us.now c.loop-u-test.false in
    subst (λ (l : List Unknown). (v : Unknown) → Contains c.loop-u.waiting.items v ↔ (Contains c.args.waiting.now.items v ⊎ (Contains l v × (mark_at c.args.self.now v ≡ Some false)))) all c.loop-u.invariant.waiting
