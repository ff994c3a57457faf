use Rattle.std.proofs.Common.{◌≡◌, ◌*◌, ◌%◌, ◌^◌, rules}
use Rattle.lockset_dom.proofs.Membership.{Holds-with_member}
use Rattle.lockset_dom.proofs.locks.Locks.insert.Goals as goal

pub returns-clause-members : goal.returns-clause-members
returns-clause-members c =
    let alone : 1 * 2 ^ c.args.m % 256 ≡ 2 ^ c.args.m = search rules in
    rw (alone, c.self.view_is) (λ k. Holds-with_member c.args.self c.args.m k)
