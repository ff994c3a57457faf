use Rattle.std.proofs.Common.{rules, ◌^◌, ◌<◌, sym}
use Rattle.lockset_dom.proofs.Membership.{Holds-without_member, without_member-cleared, without_member-above, Holds-untouched}
use Rattle.lockset_dom.proofs.locks.Locks.remove.Goals as goal

pub returns-then-m-lt-MEMBERS-clause-value : goal.returns-then-m-lt-MEMBERS-clause-value
returns-then-m-lt-MEMBERS-clause-value c =
    let small : c.self.inside.bits < 2 ^ 8 = search rules in
    rw (← c.self.view_is) (without_member-cleared c.self.inside.bits c.args.m small c.if-m-lt-MEMBERS.true)

pub returns-then-m-lt-MEMBERS-clause-members : goal.returns-then-m-lt-MEMBERS-clause-members
returns-then-m-lt-MEMBERS-clause-members c =
    let small : c.self.inside.bits < 2 ^ 8 = search rules in
    rw (← c.self.view_is, without_member-cleared c.self.inside.bits c.args.m small c.if-m-lt-MEMBERS.true) (λ k. Holds-without_member c.self.inside.bits c.args.m k)

pub returns-else-m-lt-MEMBERS-clause-value : goal.returns-else-m-lt-MEMBERS-clause-value
returns-else-m-lt-MEMBERS-clause-value c =
    let small : c.self.inside.bits < 2 ^ 8 = search rules in
    rw (← c.self.view_is) (sym (without_member-above c.self.inside.bits c.args.m small c.if-m-lt-MEMBERS.false))

pub returns-else-m-lt-MEMBERS-clause-members : goal.returns-else-m-lt-MEMBERS-clause-members
returns-else-m-lt-MEMBERS-clause-members c =
    let small : c.self.inside.bits < 2 ^ 8 = search rules in
    rw (← c.self.view_is) (Holds-untouched c.self.inside.bits c.args.m small c.if-m-lt-MEMBERS.false)
