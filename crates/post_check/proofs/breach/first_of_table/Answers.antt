use Rattle.std.proofs.Common.{List, inl, inr, sym, subst, Option}
use Rattle.std.specs.Prelude.{Contains, IsPermutation, IsSorted, MatchOption}
use Rattle.std.specs.Map.{keys_of}
use Rattle.std.proofs.lemmas.List.Elements.{Contains-get_or}
use Rattle.constraint_sys.specs.Breach.{BreaksAt}
use Rattle.constraint_sys.specs.Table.{unknown_cmp}
use Rattle.constraint_sys.specs.declared.unknown.Unknown.{Unknown}
use Rattle.constraint_sys.proofs.Ordered.{Contains-take_all, Contains-take_more}
use Rattle.post_check.specs.Unbroken.{IsUnbroken}
use Rattle.post_check.proofs.Firsts.{member_there, none_before, there_member}
use Rattle.post_check.proofs.breach.first_of_table.Goals as goal

pub breach_of-requires-clause-there : goal.breach_of-requires-clause-there
breach_of-requires-clause-there c =
    let t = c.args.table.now in
    let us = c.as_slice-u-items.result.now in
    let u = c.u-item.result in
    let same : IsPermutation (keys_of t) us = subst (λ (l : List Unknown). IsPermutation (keys_of t) l) (sym c.as_slice-u-items.ensures.value) c.in_ok-unknowns.ensures.all in
    let here : Contains us u = subst (λ (x : Unknown). Contains us x) (sym c.u-item.is) (Contains-get_or us c.loop-u.u-index u c.loop-u-test.true) in
    member_there t us same u here

pub returns-in-Some : goal.returns-in-Some
returns-in-Some c =
    let p = c.args.program.now in
    let t = c.args.table.now in
    let us = c.as_slice-u-items.result.now in
    let u = c.u-item.result in
    let same : IsPermutation (keys_of t) us = subst (λ (l : List Unknown). IsPermutation (keys_of t) l) (sym c.as_slice-u-items.ensures.value) c.in_ok-unknowns.ensures.all in
    let sorted : IsSorted unknown_cmp us = subst (λ (l : List Unknown). IsSorted unknown_cmp l) (sym c.as_slice-u-items.ensures.value) c.in_ok-unknowns.ensures.sorted in
    let here : Contains us u = subst (λ (x : Unknown). Contains us x) (sym c.u-item.is) (Contains-get_or us c.loop-u.u-index u c.loop-u-test.true) in
    let breaks : BreaksAt p t u c.in-Some.target = subst (λ (o : Option Unknown). MatchOption o (IsUnbroken p t u) (λ v. BreaksAt p t u v)) c.in-Some.is c.in_ok-target.ensures in
    (member_there t us same u here, breaks, none_before p t us same sorted c.loop-u.u-index u c.loop-u-test.true c.u-item.is c.loop-u.invariant.unbroken)

pub loop-u-preserved : goal.loop-u-preserved
loop-u-preserved c =
    let p = c.args.program.now in
    let t = c.args.table.now in
    let us = c.as_slice-u-items.result.now in
    let u = c.u-item.result in
    let whole : IsUnbroken p t u = subst (λ (o : Option Unknown). MatchOption o (IsUnbroken p t u) (λ v. BreaksAt p t u v)) c.in_default.is c.in_ok-target.ensures in
    record {
      unbroken = λ w one. elim ((Contains-take_more us c.loop-u.u-index u w c.loop-u-test.true c.u-item.is).0 one) [
        | inl before ↦ c.loop-u.invariant.unbroken w before
        | inr same ↦ subst (λ (x : Unknown). IsUnbroken p t x) (sym same) whole
      ];
      last = whole.nodes;
    }

pub returns : goal.returns
returns c = λ w there.
    let t = c.args.table.now in
    let us = c.as_slice-u-items.result.now in
    let same : IsPermutation (keys_of t) us = subst (λ (l : List Unknown). IsPermutation (keys_of t) l) (sym c.as_slice-u-items.ensures.value) c.in_ok-unknowns.ensures.all in
    c.loop-u.invariant.unbroken w ((Contains-take_all us c.loop-u.u-index w c.loop-u-test.false).1 (there_member t us same w there))
