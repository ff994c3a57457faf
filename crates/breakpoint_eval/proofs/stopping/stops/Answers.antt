use Rattle.std.proofs.Common.{◌≡◌, ◌++◌, ◌∙◌, List, [], append-nil, drop, subst, sym, ap}
use Rattle.std.proofs.lemmas.List.{drop_all}
use Rattle.std.specs.Prelude.{Contains}
use Rattle.breakpoint_eval.specs.declared.stop.Stop.{Stop}
use Rattle.breakpoint_eval.specs.Watching.{stops_from, stops_of}
use Rattle.breakpoint_eval.proofs.Choosing.{stops_more}
use Rattle.breakpoint_eval.proofs.Parting.{stands_at_its_break}
use Rattle.breakpoint_eval.proofs.stopping.stops.Goals as goal

pub loop-index-preserved : goal.loop-index-preserved
loop-index-preserved c =
    stops_more c.args.program.now c.args.table.now c.args.breaks.now c.loop-index.index c.index-breaks-index.result c.loop-index.stops.items c.push_stop.new.stops.items c.in_ok-at.at c.loop-index-test.true c.index-breaks-index.is c.in_ok-at.ensures c.in_ok-push_stop.ensures c.loop-index.invariant

pub returns-clause-at : goal.returns-clause-at
returns-clause-at c = λ stop one.
    let p = c.args.program.now in
    let t = c.args.table.now in
    let breaks = c.args.breaks.now in
    let i = c.loop-index.index in
    let stops = c.loop-index.stops.items in
    let none : stops_from p t i (drop i breaks) ≡ [] = ap (stops_from p t i) (drop_all i breaks c.loop-index-test.false) in
    let all : stops ≡ stops_of p t breaks = sym (append-nil stops) ∙ ap (λ (l : List Stop). stops ++ l) (sym none) ∙ c.loop-index.invariant in
    stands_at_its_break p t breaks stop (subst (λ (l : List Stop). Contains l stop) all one)
