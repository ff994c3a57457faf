use Rattle.std.proofs.Common.{◌≡◌, ◌^◌, ◌<◌, ◌≤◌, rules, arith}
use Rattle.std.specs.Int.{bit_at}
use Rattle.std.proofs.lemmas.Bool.Decides.{nat_tests}
use Rattle.std.proofs.lemmas.Nat.Bits.{bit_at_above}
use Rattle.lockset_dom.proofs.locks.Locks.contains.Goals as goal

pub returns-else-m-lt-MEMBERS : goal.returns-else-m-lt-MEMBERS
returns-else-m-lt-MEMBERS c =
    let small : c.self.inside.bits < 2 ^ 8 = search rules in
    let none : bit_at c.args.self c.args.m ≡ 0 = rw (← c.self.view_is) (bit_at_above c.self.inside.bits 8 c.args.m small c.if-m-lt-MEMBERS.false) in
    let high : 8 ≤ c.args.m = c.if-m-lt-MEMBERS.false in
    (λ test. absurd (grind (arith, nat_tests)), λ held. absurd (omega (arith, none, held)))
