use Rattle.std.proofs.Common.{◌≡◌, ◌+◌, ℕ, List, Option, None, Some, length, subst, sym, ap, arith}
use Rattle.std.specs.Prelude.{Contains}
use Rattle.arg_chain.specs.Walk.{steps_at, known_at}
use Rattle.arg_chain.specs.Choice.{IsLeastOf, IsAtRoot, IsGreedy, CanStep}
use Rattle.arg_chain.proofs.Choosing.{can_step, greedy_is_least, none_is_none}
use Rattle.arg_chain.proofs.least.least_route.Goals as goal

pub least_distance-requires : goal.least_distance-requires
least_distance-requires c = λ r one. omega (arith, c.requires.roots r one, ap length c.deref.ensures.value, c.in_ok-known.ensures.len)

pub nearest-root-requires-clause-roots : goal.nearest-root-requires-clause-roots
nearest-root-requires-clause-roots c = λ r one. omega (arith, c.requires.roots r one, ap length c.deref-in-Some.ensures.value, c.in_ok-known.ensures.len)

pub least_steps-requires-clause-can : goal.least_steps-requires-clause-can
least_steps-requires-clause-can c =
    let g = c.args.graph.now in
    let known = c.in_ok-known.known.items in
    λ u d is.
    subst (λ (k : List (Option ℕ)). CanStep (steps_at g u) k d) (sym c.deref-in-Some-2.ensures.value)
    (can_step g c.args.target known c.in_ok-known.ensures.known c.in_ok-known.ensures.unknown u d (subst (λ (k : List (Option ℕ)). known_at k u ≡ Some (d + 1)) c.deref-in-Some-2.ensures.value is))

pub returns-in-Some-clause-some : goal.returns-in-Some-clause-some
returns-in-Some-clause-some c =
    let roots = c.args.roots.now in
    let known = c.in_ok-known.known.items in
    let n = c.in-Some.n in
    let root = c.nearest-root.result in
    let steps = c.in_ok-steps-in-Some.steps.items in
    let fewest = subst (λ (k : List (Option ℕ)). IsLeastOf (λ m. (r : ℕ) × Contains roots r × (known_at k r ≡ Some m)) (Some n)) c.deref.ensures.value c.in-Some.ensures in
    let first = subst (λ (k : List (Option ℕ)). IsLeastOf (IsAtRoot roots k n) (Some root)) c.deref-in-Some.ensures.value c.nearest-root.ensures in
    let made = subst (λ (k : List (Option ℕ)). IsGreedy c.args.graph.now k root steps × (length steps ≡ n)) c.deref-in-Some-2.ensures.value c.in_ok-steps-in-Some.ensures in
    greedy_is_least c.args.graph.now c.args.target known c.in_ok-known.ensures.known c.in_ok-known.ensures.unknown roots root n steps fewest first made.0 made.1

pub returns-clause-none : goal.returns-clause-none
returns-clause-none c =
    let roots = c.args.roots.now in
    let none = subst (λ (k : List (Option ℕ)). IsLeastOf (λ m. (r : ℕ) × Contains roots r × (known_at k r ≡ Some m)) None) c.deref.ensures.value c.in-None.ensures in
    none_is_none c.args.graph.now c.args.target c.in_ok-known.known.items c.in_ok-known.ensures.known c.in_ok-known.ensures.unknown roots none
