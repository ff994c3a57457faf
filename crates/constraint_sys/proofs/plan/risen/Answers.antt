use Rattle.std.proofs.Common.{◌≡◌, ◌↔◌, ◌⊎◌, ◌+◌, ◌∷◌, ◌++◌, [], ◌∙◌, Bool, List, take, sym, subst, false, true≢false}
use Rattle.std.specs.Prelude.{All, Contains, IsTrue}
use Rattle.std.proofs.lemmas.List.Elements.{All-get_or}
use Rattle.constraint_sys.specs.Arising.{CanRaise}
use Rattle.std.proofs.lemmas.List.{take_all}
use Rattle.constraint_sys.specs.PostSolution.{BoundsAt}
use Rattle.constraint_sys.specs.Turn.{raises_of}
use Rattle.constraint_sys.specs.declared.unknown.Unknown.{Unknown}
use Rattle.constraint_sys.specs.declared.value.Effect.{Effect}
use Rattle.constraint_sys.proofs.Awakening.{risen_push, risen_skip}
use Rattle.constraint_sys.proofs.Ordered.{Contains-push, take_read}
use Rattle.constraint_sys.proofs.Rising.{IsUnbounded, Rose-exactly}
use Rattle.constraint_sys.proofs.Turning.{CanRaise-turn}
use Rattle.constraint_sys.proofs.plan.risen.Goals as goal
use Rattle.constraint_sys.proofs.plan.risen.Goals.{then-not-bounds+in_ok-push, else-not-bounds}

lacks : (b : Bool) (A : Type 0) → IsTrue b ↔ A → b ≡ false → A → ⊥
lacks b A tells off a = true≢false (sym (tells.1 a) ∙ off)

pub loop-e-preserved : goal.loop-e-preserved
loop-e-preserved c = λ r.
    let t = c.args.table.now in
    let es = c.as_slice-e-items.result.now in
    let i = c.loop-e.e-index in
    let e = c.e-item.result in
    let longer : take (i + 1) es ≡ take i es ++ e ∷ [] = take_read es i e c.loop-e-test.true c.e-item.is in
    subst (λ (l : List Effect). Contains c.if-not-bounds.rose.items r ↔ IsUnbounded t l r) (sym longer) (elim c.if-not-bounds.branch [
      | then-not-bounds+in_ok-push w ↦
          rw w.rose-is (risen_push t (take i es) e r c.loop-e.rose.items w.push.new.self.items (lacks c.bounds.result (BoundsAt t e.target e.value) c.bounds.ensures w.if-not-bounds.true)
          (subst (λ (l : List Unknown). Contains l r ↔ (Contains c.loop-e.rose.items r ⊎ (r ≡ e.target))) (sym w.in_ok-push.ensures.items) (Contains-push c.loop-e.rose.items e.target r)) (c.loop-e.invariant r))
      | else-not-bounds w ↦ rw w.rose-is (risen_skip t (take i es) e r c.loop-e.rose.items (c.bounds.ensures.0 w.if-not-bounds.false) (c.loop-e.invariant r))
    ])

pub returns : goal.returns
returns c = λ r.
    let p = c.args.program.now in
    let t = c.args.table.now in
    let u = c.args.u.now in
    let es = c.as_slice-e-items.result.now in
    let is : es ≡ raises_of p t u = c.as_slice-e-items.ensures ∙ c.requires.plan in
    let found : Contains c.loop-e.rose.items r ↔ IsUnbounded t es r = subst (λ (l : List Effect). Contains c.loop-e.rose.items r ↔ IsUnbounded t l r) (take_all c.loop-e.e-index es c.loop-e-test.false) (c.loop-e.invariant r) in
    let here : Contains c.loop-e.rose.items r ↔ IsUnbounded t (raises_of p t u) r = subst (λ (l : List Effect). Contains c.loop-e.rose.items r ↔ IsUnbounded t l r) is found in
    let exact = Rose-exactly p t (raises_of p t u) c.requires.shaped (CanRaise-turn p c.requires.formed t c.requires.shaped u c.requires.there) r in
    (λ one. exact.0 (here.0 one), λ rose. here.1 (exact.1 rose))

pub bounds-requires-clause-fits : goal.bounds-requires-clause-fits
bounds-requires-clause-fits c =
    let p = c.args.program.now in
    let t = c.args.table.now in
    let u = c.args.u.now in
    let is : c.as_slice-e-items.result.now ≡ raises_of p t u = c.as_slice-e-items.ensures ∙ c.requires.plan in
    let can : All (CanRaise p t) c.as_slice-e-items.result.now = subst (λ (es : List Effect). All (CanRaise p t) es) (sym is) (CanRaise-turn p c.requires.formed t c.requires.shaped u c.requires.there) in
    (subst (CanRaise p t) (sym c.e-item.is) (All-get_or (CanRaise p t) c.as_slice-e-items.result.now c.loop-e.e-index c.e-item.result c.loop-e-test.true can)).fits
