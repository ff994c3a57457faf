-- The vertices whose marks are set, where the marks are those of a test.
use Rattle.std.proofs.Common.{◌≡◌, refl, ap, Bool, ℤ, cond, List, [], ◌∷◌, map}
use Rattle.std.specs.Prelude.{filter}
use Rattle.std.specs.Simd.Lanes.{zip2}
use Rattle.arg_graph.specs.declared.vertex.Vertex.{Vertex}
use Rattle.breakpoint_eval.specs.Columns.{kept}

pub kept_by : (f : ℤ → ℤ → Bool) (a b : Vertex → ℤ) (vs : List Vertex) → kept vs (zip2 f (map a vs) (map b vs)) ≡ filter (λ v. f (a v) (b v)) vs
kept_by f a b [] = refl
kept_by f a b (v ∷ vs) = ap (λ (rest : List Vertex). cond (f (a v) (b v)) (v ∷ rest) rest) (kept_by f a b vs)
