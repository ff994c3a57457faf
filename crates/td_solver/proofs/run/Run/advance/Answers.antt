use Rattle.std.proofs.Common.{◌+◌, ℕ, [], ◌∷◌, ◌++◌, ap, ◌∙◌, subst}
use Rattle.std.proofs.lemmas.List.{length_push}
use Rattle.td_solver.specs.Running.{GoesOnBy, Running}
use Rattle.td_solver.proofs.Going.{GoesOn-by}
use Rattle.td_solver.proofs.run.Run.advance.Goals as goal

pub loop-i-preserved : goal.loop-i-preserved
loop-i-preserved c =
    let before = c.loop-i.invariant in
    let u = c.in-Some.u in
    let turn = subst (λ (run : Running). GoesOnBy run u c.make_turn.new.self) c.next.ensures.same c.in-Ok.ensures.ok in
    (before.0 ++ u ∷ [], GoesOn-by c.args.self.now c.loop-i.self c.make_turn.new.self before.0 u before.1 turn, length_push before.0 u ∙ ap (λ (n : ℕ). n + 1) before.2)
