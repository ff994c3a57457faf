use Rattle.std.proofs.Common.{◌+◌, List, ℕ, subst, sym}
use Rattle.gobpie_main.proofs.Asked.{ReadSoFar, none_yet, one_more, no_more}
use Rattle.gobpie_main.proofs.arguments.words_of.Goals as goal

pub loop-place-init : goal.loop-place-init
loop-place-init g c =
    let told = g.A.Arguments.told c.args.arguments.now in
    subst (λ (words : List (List ℕ)). ReadSoFar told 1 words) (sym c.new-words.ensures.items) (none_yet told)

pub loop-place-preserved : goal.loop-place-preserved
loop-place-preserved g c =
    let told = g.A.Arguments.told c.args.arguments.now in
    subst (λ (words : List (List ℕ)). ReadSoFar told (c.loop-place.place + 1) words) (sym c.in_ok-push-in-Some.ensures.items)
    (one_more told c.loop-place.place c.loop-place.words.items c.in-Some.word c.loop-place.invariant (rw c.in-Some.is at c.in_ok-word.ensures))

pub returns-in-None : goal.returns-in-None
returns-in-None g c =
    no_more (g.A.Arguments.told c.args.arguments.now) c.loop-place.place c.loop-place.words.items c.loop-place.invariant (rw c.in-None.is at c.in_ok-word.ensures)
