use Rattle.std.proofs.Common.{◌≡◌, ℕ, List, None, Some, set, subst, sym, rules}
use Rattle.arg_chain.specs.Walk.{known_at, Spreads}
use Rattle.arg_chain.proofs.Spreading.{spreads_one}
use Rattle.arg_chain.proofs.distances.reach.Goals as goal

pub returns-in_ok-push : goal.returns-in_ok-push
returns-in_ok-push c =
    let known = c.args.known.now.items in
    let none : known_at known c.args.u ≡ None = search rules in
    subst (λ (l : List ℕ). Spreads known c.args.next.now.items (λ x. x ≡ c.args.u) c.args.level (set known c.args.u (Some c.args.level)) l) (sym c.in_ok-push.ensures.items)
    (spreads_one known c.args.next.now.items c.args.level c.args.u c.requires none)
