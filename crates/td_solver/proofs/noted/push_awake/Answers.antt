use Rattle.std.proofs.Common.{◌≡◌, ◌↔◌, ◌⊎◌, inl, inr, ◌+◌, List, take, subst, sym, ◌∙◌, true≢false}
use Rattle.std.specs.Prelude.{Contains}
use Rattle.constraint_sys.specs.declared.unknown.Unknown.{Unknown}
use Rattle.constraint_sys.proofs.Ordered.{Contains-push, Contains-take_all, Contains-take_more}
use Rattle.td_solver.proofs.Keeping.{picked_more, picked_none}
use Rattle.td_solver.proofs.noted.push_awake.Goals as goal
use Rattle.td_solver.proofs.noted.push_awake.Goals.{then-is_awake+in_ok-push, else-is_awake}

pub loop-q-preserved : goal.loop-q-preserved
loop-q-preserved c = λ w.
    let xs = c.args.readers.now in
    let i = c.loop-q.q-index in
    let x = c.q-item.result in
    let step = Contains-take_more xs i x w c.loop-q-test.true c.q-item.is in
    elim c.if-is_awake.branch [
      | then-is_awake+in_ok-push b ↦
          rw b.awake-is (picked_more (λ (z : Unknown). (z ≡ c.args.u.now) ⊎ (Contains c.args.dirty.now z → ⊥)) _ c.loop-q.awake.items b.push.new.self.items (take i xs) (take (i + 1) xs) x w step
          (c.is_awake.ensures.0 b.if-is_awake.true)
          (subst (λ (l : List Unknown). Contains l w ↔ (Contains c.loop-q.awake.items w ⊎ (w ≡ x))) (sym b.in_ok-push.ensures.items) (Contains-push c.loop-q.awake.items x w))
          (c.loop-q.invariant w))
      | else-is_awake b ↦
          rw b.awake-is (picked_none (λ (z : Unknown). (z ≡ c.args.u.now) ⊎ (Contains c.args.dirty.now z → ⊥)) _ c.loop-q.awake.items (take i xs) (take (i + 1) xs) x w step
          (λ picked. true≢false (sym (c.is_awake.ensures.1 picked) ∙ b.if-is_awake.false))
          (c.loop-q.invariant w))
    ]

pub returns : goal.returns
returns c = λ w.
    let all = Contains-take_all c.args.readers.now c.loop-q.q-index w c.loop-q-test.false in
    let last = c.loop-q.invariant w in (
      λ one. elim (last.0 one) [ inl old ↦ inl old | inr both ↦ inr (all.0 both.0, both.1) ],
      λ either. last.1 (elim either [ inl old ↦ inl old | inr both ↦ inr (all.1 both.0, both.1) ]),
    )
