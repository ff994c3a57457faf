use Rattle.std.proofs.Common.{◌≡◌, ◌+◌, ℕ, List, Option, take, get_or, subst, sym, arith}
use Rattle.std.proofs.lemmas.List.{take_all}
use Rattle.std.proofs.lemmas.List.Elements.{Contains-get_or}
use Rattle.arg_chain.specs.Choice.{IsLeastOf, IsAtRoot}
use Rattle.arg_chain.proofs.Choosing.{least_more, roots_more}
use Rattle.arg_chain.proofs.least.nearest.Goals as goal

pub bounds-known-r : goal.bounds-known-r
bounds-known-r c = c.requires.roots _ (Contains-get_or c.args.roots.now c.loop-r.r-index 0 c.loop-r-test.true)

pub loop-r-preserved : goal.loop-r-preserved
loop-r-preserved c =
    let roots = c.args.roots.now in
    let known = c.args.known.now in
    let i = c.loop-r.r-index in
    subst (λ (o : Option ℕ). IsLeastOf (IsAtRoot (take (i + 1) roots) known c.args.n) o) (sym c.improved-best.ensures)
    (least_more (IsAtRoot (take i roots) known c.args.n) (IsAtRoot (take (i + 1) roots) known c.args.n) c.loop-r.best (get_or roots i 0) c.is_at.result c.loop-r.invariant (roots_more roots i c.loop-r-test.true known c.args.n c.is_at.result c.is_at.ensures))

pub unreachable-requires : goal.unreachable-requires
unreachable-requires c =
    let all : take c.loop-r.r-index c.args.roots.now ≡ c.args.roots.now = take_all c.loop-r.r-index c.args.roots.now c.loop-r-test.false in
    let least = subst (λ (l : List ℕ). IsLeastOf (IsAtRoot l c.args.known.now c.args.n) c.loop-r.best) all c.loop-r.invariant in
    subst (λ (o : Option ℕ). IsLeastOf (IsAtRoot c.args.roots.now c.args.known.now c.args.n) o) c.in-None.is least c.requires.there.0 c.requires.there.1

pub returns : goal.returns
returns c =
    let all : take c.loop-r.r-index c.args.roots.now ≡ c.args.roots.now = take_all c.loop-r.r-index c.args.roots.now c.loop-r-test.false in
    let least = subst (λ (l : List ℕ). IsLeastOf (IsAtRoot l c.args.known.now c.args.n) c.loop-r.best) all c.loop-r.invariant in
    subst (λ (o : Option ℕ). IsLeastOf (IsAtRoot c.args.roots.now c.args.known.now c.args.n) o) c.in-Some.is least

pub offset_bounds-known-r : goal.offset_bounds-known-r
offset_bounds-known-r c = (let low = c.requires.roots _ (Contains-get_or c.args.roots.now c.loop-r.r-index 0 c.loop-r-test.true) in omega (arith, low))
