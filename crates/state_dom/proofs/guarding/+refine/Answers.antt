use Rattle.std.proofs.Common.{◌≡◌, true, false, rules}
use Rattle.state_dom.specs.Splits.{splits}
use Rattle.state_dom.proofs.Splitting.{splits-and_right, splits-or_right}
use Rattle.state_dom.proofs.guarding.+refine.Goals as goal

pub returns-in_err-refine-in-And-2-clause-lone : goal.returns-in_err-refine-in-And-2-clause-lone
returns-in_err-refine-in-And-2-clause-lone t c =
    let right : splits c.get-right.result.now true ≡ true = search rules in
    let whole : splits c.args.e.now c.args.wanted ≡ true = splits-and_right c.args.e.now c.get-left.result.now c.get-right.result.now c.in-Binary.op c.args.wanted (search rules) (search rules) c.if-wanted.true right in
    search (rules, whole)

pub returns-in_err-refine-in-Or-3-clause-lone : goal.returns-in_err-refine-in-Or-3-clause-lone
returns-in_err-refine-in-Or-3-clause-lone t c =
    let right : splits c.get-right.result.now false ≡ true = search rules in
    let whole : splits c.args.e.now c.args.wanted ≡ true = splits-or_right c.args.e.now c.get-left.result.now c.get-right.result.now c.in-Binary.op c.args.wanted (search rules) (search rules) c.if-wanted-2.false right in
    search (rules, whole)
