use Rattle.std.proofs.Common.{◌≡◌, ◌↔◌, ◌⊎◌, ◌+◌, List, take, subst}
use Rattle.std.specs.Prelude.{Contains}
use Rattle.std.proofs.lemmas.List.{take_all}
use Rattle.constraint_sys.specs.Reading.{HasCommon}
use Rattle.constraint_sys.specs.declared.unknown.Unknown.{Unknown}
use Rattle.constraint_sys.proofs.Ordered.{Contains-take_more}
use Rattle.dep_index.specs.Noted.{reads_of}
use Rattle.td_solver.proofs.Keeping.{awake_more}
use Rattle.td_solver.proofs.noted.awakened.Goals as goal

pub loop-r-preserved : goal.loop-r-preserved
loop-r-preserved c = λ q.
    let rose = c.args.rose.now in
    let i = c.loop-r.r-index in
    let r = c.r-item.result in
    awake_more (reads_of c.args.index.now q) (take i rose) (take (i + 1) rose) r (λ w. Contains-take_more rose i r w c.loop-r-test.true c.r-item.is) (c.readers.ensures.members q) (c.in_ok-push_awake.ensures q) (c.loop-r.invariant q)

pub returns : goal.returns
returns c = λ q.
    let all = take_all c.loop-r.r-index c.args.rose.now c.loop-r-test.false in
    subst (λ (l : List Unknown). Contains c.loop-r.awake.items q ↔ (HasCommon l (reads_of c.args.index.now q) × ((q ≡ c.args.u.now) ⊎ (Contains c.args.dirty.now q → ⊥)))) all (c.loop-r.invariant q)
