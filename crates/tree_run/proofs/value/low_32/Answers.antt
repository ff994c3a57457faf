use Rattle.std.proofs.Common.{rules, ◌≡◌, sym, ap, ◌∙◌}
use Rattle.std.specs.Int.{int_wrap, cast_signed, int_rem_euclid, w32, w128}
use Rattle.std.specs.Prelude.{unsigned_abs, pos}
use Rattle.std.proofs.Math.Facts.{to_z-of_z}
use Rattle.tree_run.proofs.value.low_32.Goals as goal

pub returns : goal.returns
unfolding int_wrap
returns c =
    to_z-of_z {w = w32} (record { sfits = c.cast_signed.type_inv }) ∙ c.cast_signed.ensures
    ∙ ap (λ z. cast_signed w32 (unsigned_abs z)) (to_z-of_z {w = w128} (record { sfits = c.rem_euclid-low.type_inv }) ∙ c.rem_euclid-low.ensures.value ∙ ap (λ z. int_rem_euclid z (pos 4294967296)) (to_z-of_z c.ranges.n))
