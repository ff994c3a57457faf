use Rattle.std.proofs.Common.{◌≡◌, ◌↔◌, ◌⊎◌, ◌∙◌, inl, inr, List, sym, subst}
use Rattle.std.specs.Prelude.{Contains}
use Rattle.constraint_sys.specs.declared.unknown.Unknown.{Unknown}
use Rattle.constraint_sys.proofs.Replaying.{same_ascending}
use Rattle.constraint_sys.proofs.dirty.Dirty.add.Goals as goal

pub returns-in-Ok-clause-ok : goal.returns-in-Ok-clause-ok
returns-in-Ok-clause-ok c = λ q.
    let same : c.self.inside.points.keys ≡ c.args.self.now = cc c.self.view_is in
    subst (λ (l : List Unknown). Contains c.try_add.new.points.keys q ↔ (Contains l q ⊎ Contains c.args.more.now q)) same (c.in-Ok.ensures.ok q)

-- what was added is taken back
pub returns-clause-err : goal.returns-clause-err
returns-clause-err c =
    let same : c.self.inside.points.keys ≡ c.args.self.now = cc c.self.view_is in
    same_ascending c.take_back.new.points.keys c.self.inside.points.keys c.take_back.ensures.ascending c.self.invariant (λ q. (
      λ one.
          (let both = (c.take_back.ensures.members q).0 one in
          elim (c.in-Err.ensures.noted q both.0) [
            | inl old ↦ old
            | inr new ↦ absurd (both.1 (subst (λ (l : List Unknown). Contains l q) (sym c.as_slice.ensures.value) new))
          ]),
      λ old. (c.take_back.ensures.members q).1 (c.in-Err.ensures.kept q old, λ new. c.in-Err.ensures.absent q (subst (λ (l : List Unknown). Contains l q) c.as_slice.ensures.value new) old),
    )) ∙ same
