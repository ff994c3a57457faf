-- Widths compared one by one.
use Rattle.std.proofs.Common.{◌≡◌, ap, ◌∙◌, ℕ, ◌+◌, ◌&&◌, List, ◌∷◌, drop}
use Rattle.std.specs.Cmp.Lexicographic.{pointwise}
use Rattle.gob_tree.specs.Widths.{same_width}
use Rattle.gob_tree.specs.declared.expr.Width.{Width}

pub widths_next : (xs ys : List Width) (i : ℕ) (x y : Width) → drop i xs ≡ x ∷ drop (i + 1) xs → drop i ys ≡ y ∷ drop (i + 1) ys
    → pointwise same_width (drop i xs) (drop i ys) ≡ (same_width x y && pointwise same_width (drop (i + 1) xs) (drop (i + 1) ys))
widths_next xs ys i x y ex ey = ap (λ (zs : List Width). pointwise same_width zs (drop i ys)) ex ∙ ap (λ (zs : List Width). pointwise same_width (x ∷ drop (i + 1) xs) zs) ey
