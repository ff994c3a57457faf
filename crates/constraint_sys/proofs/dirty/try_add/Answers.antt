use Rattle.std.proofs.Common.{◌≡◌, ◌↔◌, ◌⊎◌, inl, inr, ◌+◌, ◌∷◌, ◌++◌, [], Bool, false, List, take, sym, subst, true≢false, ◌∙◌}
use Rattle.std.specs.Prelude.{Contains, IsTrue}
use Rattle.constraint_sys.specs.declared.unknown.Unknown.{Unknown}
use Rattle.constraint_sys.proofs.DirtySet.{put_step, skip_step}
use Rattle.constraint_sys.proofs.Ordered.{Contains-push, Contains-take_all, Contains-take_more}
use Rattle.constraint_sys.proofs.dirty.try_add.Goals as goal
use Rattle.constraint_sys.proofs.dirty.try_add.Goals.{then-not-has+in_ok-push+in_ok-put_in, else-not-has}

-- one that is noted wasn't there
fresh : (b : Bool) (A : Type 0) → IsTrue b ↔ A → b ≡ false → A → ⊥
fresh b A tells off a = true≢false (sym (tells.1 a) ∙ off)

noted_more : (old now noted more : List Unknown) (u q : Unknown) → more ≡ noted ++ u ∷ [] → (Contains now q → Contains old q ⊎ Contains noted q) → Contains now q → Contains old q ⊎ Contains more q
noted_more old now noted more u q is so_far one = elim (so_far one) [
  | inl a ↦ inl a
  | inr b ↦ inr (subst (λ (l : List Unknown). Contains l q) (sym is) ((Contains-push noted u q).1 (inl b)))
]

absent_more : (old now noted more : List Unknown) (u q : Unknown) → more ≡ noted ++ u ∷ [] → (Contains now u → ⊥) → ((r : Unknown) → Contains old r → Contains now r) → (Contains noted q → Contains old q → ⊥) → Contains more q → Contains old q → ⊥
absent_more old now noted more u q is off kept so_far one there = elim ((Contains-push noted u q).0 (subst (λ (l : List Unknown). Contains l q) is one)) [
  | inl b ↦ so_far b there
  | inr same ↦ off (subst (λ (z : Unknown). Contains now z) same (kept q there))
]

put_noted : (old now next noted more : List Unknown) (u q : Unknown) → more ≡ noted ++ u ∷ [] → (Contains next q → Contains now q ⊎ (q ≡ u)) → (Contains now q → Contains old q ⊎ Contains noted q) → Contains next q → Contains old q ⊎ Contains more q
put_noted old now next noted more u q is put so_far one = elim (put one) [
  | inl here ↦ noted_more old now noted more u q is so_far here
  | inr same ↦ inr (subst (λ (l : List Unknown). Contains l q) (sym is) ((Contains-push noted u q).1 (inr same)))
]

pub returns-in_err-push-clause-kept : goal.returns-in_err-push-clause-kept
returns-in_err-push-clause-kept c = λ q one. (c.loop-u.invariant.ok q).1 (inl one)

pub returns-in_err-push-clause-noted : goal.returns-in_err-push-clause-noted
returns-in_err-push-clause-noted c = λ q one. subst (λ (l : List Unknown). Contains c.args.points.now.keys q ⊎ Contains l q) (sym c.in_err-push.ensures.items) (c.loop-u.invariant.noted q one)

pub returns-in_err-push-clause-absent : goal.returns-in_err-push-clause-absent
returns-in_err-push-clause-absent c = λ q one. c.loop-u.invariant.absent q (subst (λ (l : List Unknown). Contains l q) c.in_err-push.ensures.items one)

pub returns-in_err-put_in-clause-kept : goal.returns-in_err-put_in-clause-kept
returns-in_err-put_in-clause-kept c = λ q one. subst (λ (l : List Unknown). Contains l q) (sym c.in_err-put_in.ensures.err) ((c.loop-u.invariant.ok q).1 (inl one))

pub returns-in_err-put_in-clause-noted : goal.returns-in_err-put_in-clause-noted
returns-in_err-put_in-clause-noted c = λ q one.
    noted_more c.args.points.now.keys c.loop-u.points.keys c.loop-u.added.items c.push.new.self.items c.u-item.result q c.in_ok-push.ensures.items (c.loop-u.invariant.noted q)
    (subst (λ (l : List Unknown). Contains l q) c.in_err-put_in.ensures.err one)

pub returns-in_err-put_in-clause-absent : goal.returns-in_err-put_in-clause-absent
returns-in_err-put_in-clause-absent c = λ q.
    absent_more c.args.points.now.keys c.loop-u.points.keys c.loop-u.added.items c.push.new.self.items c.u-item.result q c.in_ok-push.ensures.items
    (fresh c.has.result (Contains c.loop-u.points.keys c.u-item.result) c.has.ensures c.if-not-has.true) (λ r one. (c.loop-u.invariant.ok r).1 (inl one)) (c.loop-u.invariant.absent q)

pub loop-u-preserved : goal.loop-u-preserved
loop-u-preserved c =
    let i = c.loop-u.u-index in
    let xs = c.args.more.now in
    let u = c.u-item.result in
    let old = c.args.points.now.keys in
    let now = c.loop-u.points.keys in
    elim c.if-not-has.branch [
      | then-not-has+in_ok-push+in_ok-put_in w ↦
          rw (w.points-is, w.added-is) (record {
            ok = λ q. put_step old now w.put_in.new.points.keys (take i xs) (take (i + 1) xs) u q (w.in_ok-put_in.ensures.ok q) (Contains-take_more xs i u q c.loop-u-test.true c.u-item.is) (c.loop-u.invariant.ok q);
            noted = λ q. put_noted old now w.put_in.new.points.keys c.loop-u.added.items w.push.new.self.items u q w.in_ok-push.ensures.items (w.in_ok-put_in.ensures.ok q).0 (c.loop-u.invariant.noted q);
            absent = λ q. absent_more old now c.loop-u.added.items w.push.new.self.items u q w.in_ok-push.ensures.items (fresh c.has.result (Contains now u) c.has.ensures w.if-not-has.true) (λ r one. (c.loop-u.invariant.ok r).1 (inl one)) (c.loop-u.invariant.absent q);
            ascending = w.in_ok-put_in.ensures.ascending;
          })
      | else-not-has w ↦
          rw (w.points-is, w.added-is) (record {
            ok = λ q. skip_step old now now (take i xs) (take (i + 1) xs) u q (c.has.ensures.0 w.if-not-has.false) (Contains-take_more xs i u q c.loop-u-test.true c.u-item.is) (c.loop-u.invariant.ok q);
            noted = c.loop-u.invariant.noted;
            absent = c.loop-u.invariant.absent;
            ascending = c.loop-u.invariant.ascending;
          })
    ]

pub returns-clause-ok : goal.returns-clause-ok
returns-clause-ok c = λ q.
    let all = Contains-take_all c.args.more.now c.loop-u.u-index q c.loop-u-test.false in
    let last = c.loop-u.invariant.ok q in
    (λ one. elim (last.0 one) [ inl a ↦ inl a | inr b ↦ inr (all.0 b) ], λ either. elim either [ inl a ↦ last.1 (inl a) | inr b ↦ last.1 (inr (all.1 b)) ])

pub returns-clause-kept : goal.returns-clause-kept
returns-clause-kept c = λ q one. (c.loop-u.invariant.ok q).1 (inl one)
