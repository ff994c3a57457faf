use Rattle.std.proofs.Common.{◌≡◌, ◌⊎◌, ◌↔◌, List, take, subst}
use Rattle.std.specs.Prelude.{Contains}
use Rattle.std.proofs.lemmas.List.{take_all}
use Rattle.constraint_sys.specs.declared.unknown.Unknown.{Unknown}
use Rattle.constraint_sys.proofs.Ordered.{Contains-take_more}
use Rattle.destabilise.proofs.Marking.{joined}
use Rattle.destabilise.proofs.links.push_each.Goals as goal

pub loop-u-preserved : goal.loop-u-preserved
loop-u-preserved c = λ v. joined (c.in_ok-push_one.ensures v) (c.loop-u.invariant v) (Contains-take_more c.args.us.now c.loop-u.u-index c.u-item.result v c.loop-u-test.true c.u-item.is)

pub returns : goal.returns
returns c =
    let all : take c.loop-u.u-index c.args.us.now ≡ c.args.us.now = take_all c.loop-u.u-index c.args.us.now c.loop-u-test.false in
    subst (λ (l : List Unknown). (v : Unknown) → Contains c.loop-u.found.items v ↔ (Contains c.args.found.now.items v ⊎ Contains l v)) all c.loop-u.invariant
