use Rattle.std.proofs.Common.{◌≡◌, ◌↔◌, ◌⊎◌, inl, inr, ◌+◌, List, take, sym, ◌∙◌, subst, true≢false}
use Rattle.std.specs.Prelude.{Contains}
use Rattle.constraint_sys.specs.declared.unknown.Unknown.{Unknown}
use Rattle.constraint_sys.proofs.Ordered.{Contains-push, Contains-take_all, Contains-take_more}
use Rattle.dep_index.proofs.gone.without.Goals as goal
use Rattle.dep_index.proofs.gone.without.Goals.{then-not-has+in_ok-push, else-not-has}

-- one that is pushed isn't among the others
pushed_more : (rest more front longer ys : List Unknown) (x w : Unknown) → Contains more w ↔ (Contains rest w ⊎ (w ≡ x)) → Contains longer w ↔ (Contains front w ⊎ (w ≡ x)) → (Contains ys x → ⊥)
    → Contains rest w ↔ (Contains front w × (Contains ys w → ⊥)) → Contains more w ↔ (Contains longer w × (Contains ys w → ⊥))
pushed_more rest more front longer ys x w put step off so_far = (
  λ one. elim (put.0 one) [
    | inl old ↦ (let both = so_far.0 old in (step.1 (inl both.0), both.1))
    | inr same ↦ (step.1 (inr same), λ among. off (subst (λ (z : Unknown). Contains ys z) same among))
  ],
  λ both. put.1 (elim (step.0 both.0) [ inl old ↦ inl (so_far.1 (old, both.1)) | inr same ↦ inr same ]),
)

skipped_more : (rest front longer ys : List Unknown) (x w : Unknown) → Contains longer w ↔ (Contains front w ⊎ (w ≡ x)) → Contains ys x
    → Contains rest w ↔ (Contains front w × (Contains ys w → ⊥)) → Contains rest w ↔ (Contains longer w × (Contains ys w → ⊥))
skipped_more rest front longer ys x w step among so_far = (
  λ one. (let both = so_far.0 one in (step.1 (inl both.0), both.1)),
  λ both. so_far.1 (elim (step.0 both.0) [ inl old ↦ (old, both.1) | inr same ↦ absurd (both.1 (subst (λ (z : Unknown). Contains ys z) (sym same) among)) ]),
)

pub loop-x-preserved : goal.loop-x-preserved
loop-x-preserved c = λ w.
    let xs = c.args.xs.now in
    let ys = c.args.ys.now in
    let i = c.loop-x.x-index in
    let x = c.x-item.result in
    let step = Contains-take_more xs i x w c.loop-x-test.true c.x-item.is in
    let others : Contains c.as_slice.result.now x ↔ Contains ys x = subst (λ (l : List Unknown). Contains l x ↔ Contains ys x) (sym c.as_slice.ensures.value) (c.in_ok-others.ensures.members x) in
    elim c.if-not-has.branch [
      | then-not-has+in_ok-push b ↦
          rw b.rest-is (pushed_more c.loop-x.rest.items b.push.new.self.items (take i xs) (take (i + 1) xs) ys x w
          (subst (λ (l : List Unknown). Contains l w ↔ (Contains c.loop-x.rest.items w ⊎ (w ≡ x))) (sym b.in_ok-push.ensures.items) (Contains-push c.loop-x.rest.items x w))
          step (λ among. true≢false (sym (c.has.ensures.1 (others.1 among)) ∙ b.if-not-has.true)) (c.loop-x.invariant w))
      | else-not-has b ↦ rw b.rest-is (skipped_more c.loop-x.rest.items (take i xs) (take (i + 1) xs) ys x w step (others.0 (c.has.ensures.0 b.if-not-has.false)) (c.loop-x.invariant w))
    ]

pub returns : goal.returns
returns c = λ w.
    let all = Contains-take_all c.args.xs.now c.loop-x.x-index w c.loop-x-test.false in
    let last = c.loop-x.invariant w in
    (λ one. (let both = last.0 one in (all.0 both.0, both.1)), λ both. last.1 (all.1 both.0, both.1))
