use Rattle.std.proofs.Common.{◌≡◌, ◌≢◌, ◌↔◌, Bool, false, List, sym, subst, true≢false, ◌∙◌}
use Rattle.std.specs.Prelude.{Contains, IsTrue}
use Rattle.constraint_sys.specs.declared.unknown.Unknown.{Unknown}
use Rattle.constraint_sys.proofs.DirtySet.{exchanged_out, exchanged_in}
use Rattle.constraint_sys.proofs.dirty.Dirty.exchange.Goals as goal

lacks : (b : Bool) (A : Type 0) → IsTrue b ↔ A → b ≡ false → A → ⊥
lacks b A tells off a = true≢false (sym (tells.1 a) ∙ off)

pub returns-then-not-has_unknown-clause-ok : goal.returns-then-not-has_unknown-clause-ok
returns-then-not-has_unknown-clause-ok c = λ q.
    let same : c.self.inside.points.keys ≡ c.add.new.self = cc c.self.view_is in
    exchanged_out c.args.self.now c.add.new.self c.take_out.new.points.keys c.args.more.now c.args.done.now q
    (lacks c.has_unknown.result (Contains c.args.more.now c.args.done.now) c.has_unknown.ensures c.if-not-has_unknown.true)
    (subst (λ (l : List Unknown). Contains c.take_out.new.points.keys q ↔ (Contains l q × (q ≢ c.args.done.now))) same (c.take_out.ensures.members q)) (c.in_ok-add.ensures.ok q)

pub returns-else-not-has_unknown-clause-ok : goal.returns-else-not-has_unknown-clause-ok
returns-else-not-has_unknown-clause-ok c = λ q.
    exchanged_in c.args.self.now c.add.new.self c.args.more.now c.args.done.now q (c.has_unknown.ensures.0 c.if-not-has_unknown.false) (c.in_ok-add.ensures.ok q)
