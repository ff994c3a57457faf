use Rattle.std.proofs.Common.{◌≡◌, ◌+◌, ℕ, List, Option, None, [], length, subst, ap, ◌∙◌, rules, arith}
use Rattle.std.specs.Prelude.{Contains, is_none, replicate}
use Rattle.std.proofs.lemmas.List.{length-replicate}
use Rattle.std.proofs.lemmas.List.Sums.{count_by-le-length}
use Rattle.arg_chain.specs.Walk.{known_at, Spreads, IsBeforeOne}
use Rattle.arg_chain.proofs.Levels.{level_starts, level_rises, none_unknown}
use Rattle.arg_chain.proofs.Spreading.{none_known, known_within, some_left, none_left}
use Rattle.arg_chain.proofs.Turning.{step_within}
use Rattle.arg_chain.proofs.distances.distances.Goals as goal

pub levels-init : goal.levels-init
levels-init c =
    let m = length c.args.graph.now in
    let fresh = c.in_ok-known.known.items in
    let is : fresh ≡ replicate m None = c.in_ok-known.ensures.items_if_clones_equal (search rules) in
    let none : (u : ℕ) → known_at fresh u ≡ None = λ u. ap (λ (l : List (Option ℕ)). known_at l u) is ∙ none_known m u in
    let len : length fresh ≡ m = ap length is ∙ length-replicate m None in
    level_starts c.args.graph.now c.args.target fresh c.reach.new.known.items c.reach.new.next.items none len (omega (arith, count_by-le-length is_none fresh, len))
    (subst (λ (l : List ℕ). Spreads fresh l (λ x. x ≡ c.args.target) 0 c.reach.new.known.items c.reach.new.next.items) c.new-front.ensures.items c.in_ok-reach.ensures)

pub spread-requires-clause-front : goal.spread-requires-clause-front
spread-requires-clause-front c =
    λ w one.
    let it = c.levels.invariant in
    let known = (it.front_is w).0 (subst (λ (l : List ℕ). Contains l w) c.deref.ensures.value one) in
    omega (arith, known_within c.levels.known.items w c.levels.level known, it.len, c.requires.turned.len)

pub spread-requires-clause-before : goal.spread-requires-clause-before
spread-requires-clause-before c =
    λ w u one.
    let has = (c.requires.turned.members u w).0 one in
    omega (arith, step_within c.args.graph.now u has.0 has.1, c.requires.turned.len)

pub levels-preserved : goal.levels-preserved
levels-preserved c =
    let before = c.args.before.now in
    let front = c.levels.front.items in
    let rule = subst (λ (l : List ℕ). Spreads c.levels.known.items [] (IsBeforeOne before l) (c.levels.level + 1) c.spread.new.known.items c.in_ok-front.front.items) c.deref.ensures.value c.in_ok-front.ensures in
    level_rises c.args.graph.now c.args.target before c.requires.turned.members c.levels.known.items c.spread.new.known.items front c.in_ok-front.front.items c.levels.level (some_left c.is_empty.result _ _ c.is_empty.ensures c.levels-test.true c.levels.front.ok.0) c.levels.invariant rule

pub returns-clause-unknown : goal.returns-clause-unknown
returns-clause-unknown c = none_unknown c.args.graph.now c.args.target c.levels.known.items c.levels.front.items c.levels.level (none_left c.is_empty.result _ _ c.is_empty.ensures c.levels-test.false c.levels.front.ok.0) c.levels.invariant
