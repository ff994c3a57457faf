use Rattle.std.proofs.Common.{◌≡◌, ◌+◌, ◌∷◌, ◌++◌, [], List, take, sym, ◌∙◌, subst, true≢false}
use Rattle.std.specs.Prelude.{All}
use Rattle.std.proofs.lemmas.List.{take_all}
use Rattle.std.proofs.lemmas.List.Elements.{All-append, All-cons, All-nil}
use Rattle.constraint_sys.specs.declared.value.Effect.{Effect}
use Rattle.constraint_sys.proofs.Ordered.{take_read}
use Rattle.post_check.specs.Unbroken.{AreBounded}
use Rattle.post_check.proofs.Breaking.{first_at}
use Rattle.post_check.proofs.unbounded.first_unbounded.Goals as goal

pub returns-then-not-bounds : goal.returns-then-not-bounds
returns-then-not-bounds c =
    first_at c.args.table.now c.args.effects.now c.loop-e.e-index c.e-item.result c.loop-e-test.true c.e-item.is c.loop-e.invariant
    (λ bounded. true≢false (sym (c.bounds.ensures.1 bounded) ∙ c.if-not-bounds.true))

pub loop-e-preserved : goal.loop-e-preserved
loop-e-preserved c =
    let t = c.args.table.now in
    let es = c.args.effects.now in
    let i = c.loop-e.e-index in
    let e = c.e-item.result in
    let longer : take (i + 1) es ≡ take i es ++ e ∷ [] = take_read es i e c.loop-e-test.true c.e-item.is in
    subst (λ (l : List Effect). All (AreBounded t) l) (sym longer)
    (All-append (AreBounded t) (take i es) (e ∷ []) c.loop-e.invariant (All-cons (AreBounded t) e [] (c.bounds.ensures.0 c.if-not-bounds.false) (All-nil (AreBounded t))))

pub returns : goal.returns
returns c = subst (λ (l : List Effect). All (AreBounded c.args.table.now) l) (take_all c.loop-e.e-index c.args.effects.now c.loop-e-test.false) c.loop-e.invariant
