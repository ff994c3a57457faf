use Rattle.std.proofs.Common.{◌≡◌, ◌+◌, ℕ, List, Option, Some, take, subst, sym, arith}
use Rattle.std.specs.Prelude.{Contains}
use Rattle.std.proofs.lemmas.List.{take_all}
use Rattle.std.proofs.lemmas.List.Elements.{Contains-get_or}
use Rattle.arg_chain.specs.Walk.{known_at}
use Rattle.arg_chain.specs.Choice.{IsLeastOf}
use Rattle.arg_chain.proofs.Choosing.{known_more, distances_more}
use Rattle.arg_chain.proofs.least.least_distance.Goals as goal

pub bounds-known-r : goal.bounds-known-r
bounds-known-r c = c.requires _ (Contains-get_or c.args.roots.now c.loop-r.r-index 0 c.loop-r-test.true)

pub loop-r-preserved : goal.loop-r-preserved
loop-r-preserved c =
    let roots = c.args.roots.now in
    let known = c.args.known.now in
    let i = c.loop-r.r-index in
    let Of : List ℕ → ℕ → Type 0 = λ rs n. (r : ℕ) × Contains rs r × (known_at known r ≡ Some n) in
    subst (λ (o : Option ℕ). IsLeastOf (Of (take (i + 1) roots)) o) (sym c.nearer-best.ensures)
    (known_more (Of (take i roots)) (Of (take (i + 1) roots)) c.loop-r.best _ c.loop-r.invariant (distances_more roots i c.loop-r-test.true known))

pub returns : goal.returns
returns c =
    let known = c.args.known.now in
    let all : take c.loop-r.r-index c.args.roots.now ≡ c.args.roots.now = take_all c.loop-r.r-index c.args.roots.now c.loop-r-test.false in
    subst (λ (l : List ℕ). IsLeastOf (λ n. (r : ℕ) × Contains l r × (known_at known r ≡ Some n)) c.loop-r.best) all c.loop-r.invariant

pub offset_bounds-known-r : goal.offset_bounds-known-r
offset_bounds-known-r c = (let low = c.requires _ (Contains-get_or c.args.roots.now c.loop-r.r-index 0 c.loop-r-test.true) in omega (arith, low))
