use Rattle.std.proofs.Common.{◌+◌, ℕ, List, length, subst, ap, ◌∙◌}
use Rattle.std.specs.Prelude.{Contains}
use Rattle.std.specs.Global.{Vec}
use Rattle.std.proofs.lemmas.List.{length_push}
use Rattle.arg_chain.specs.Walk.{before_at}
use Rattle.arg_chain.proofs.Turning.{empty_row_added}
use Rattle.arg_chain.proofs.turned.no_rows.Goals as goal

pub loop-preserved : goal.loop-preserved
loop-preserved c =
    let is = c.in_ok-push.ensures.items in
    record {
      len = ap length is ∙ length_push c.loop.rows.items c.new.result ∙ ap (λ (n : ℕ). n + 1) c.loop.invariant.len;
      none = λ u w one. c.loop.invariant.none u w (subst (λ (l : List ℕ). Contains l u) (ap (λ (g : List (Vec ℕ)). before_at g w) is ∙ empty_row_added c.loop.rows.items c.new.result c.new.ensures.items w) one);
    }
