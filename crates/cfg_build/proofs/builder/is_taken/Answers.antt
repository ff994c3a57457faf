use Rattle.std.proofs.Common.{◌≡◌, ◌∙◌, sym, nat_eq, true, get_or, arith}
use Rattle.std.proofs.lemmas.Bool.Decides.{nat_tests}
use Rattle.std.proofs.lemmas.Grind.{common_steps}
use Rattle.cfg_build.proofs.Taken.{any-reverse, any-at}
use Rattle.cfg_build.proofs.builder.is_taken.Goals as goal

pub returns-then-number-k : goal.returns-then-number-k
returns-then-number-k c =
    let e = any-reverse (nat_eq c.args.k) c.args.taken.now in
    let same : nat_eq c.args.k (get_or c.args.taken.now c.loop-number.number-index 0) ≡ true = grind (arith, nat_tests) in
    sym (e ∙ any-at (nat_eq c.args.k) c.args.taken.now c.loop-number.number-index 0 c.loop-number-test.true same)

pub returns : goal.returns
returns c =
    let e = any-reverse (nat_eq c.args.k) c.args.taken.now in
    grind (arith, common_steps)
