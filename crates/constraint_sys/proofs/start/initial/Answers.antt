use Rattle.std.proofs.Common.{◌≡◌, ◌∙◌, inl, inr, List, length, sym, ap, subst}
use Rattle.std.specs.Prelude.{Contains}
use Rattle.gob_tree.specs.declared.place.Place.{Place}
use Rattle.constraint_sys.specs.Table.{empty_key, nodes_at, nodes_of_function}
use Rattle.constraint_sys.specs.Turn.{initial_dirty, nodes_after_start}
use Rattle.constraint_sys.specs.declared.unknown.Unknown.{Unknown}
use Rattle.constraint_sys.proofs.Ordered.{Contains-nil}
use Rattle.constraint_sys.proofs.Replaying.{same_ascending}
use Rattle.constraint_sys.proofs.Starting.{nodes_after_start-ascend}
use Rattle.constraint_sys.proofs.start.initial.Goals as goal

pub returns-clause-dirty : goal.returns-clause-dirty
returns-clause-dirty c =
    let p = c.args.program.now in
    let function = c.function_at-main.result.now in
    let nodes : function.nodes ≡ nodes_at p p.main = sym (ap nodes_of_function c.function_at-main.ensures.is) in
    let points : c.as_slice-2.result.now ≡ initial_dirty p = c.as_slice-2.ensures.value ∙ c.in_ok-points.ensures ∙ ap (λ (l : List Place). nodes_after_start p.main empty_key (length l)) nodes in
    same_ascending c.add.new.self (initial_dirty p) c.in_ok-add.ensures.ascending (nodes_after_start-ascend p.main empty_key (length (nodes_at p p.main))) (λ q. (
      λ one. elim ((c.in_ok-add.ensures.ok q).0 one) [
        | inl none ↦ absurd (Contains-nil q (subst (λ (l : List Unknown). Contains l q) c.new-dirty.ensures none))
        | inr here ↦ subst (λ (l : List Unknown). Contains l q) points here
      ],
      λ here. (c.in_ok-add.ensures.ok q).1 (inr (subst (λ (l : List Unknown). Contains l q) (sym points) here)),
    ))
