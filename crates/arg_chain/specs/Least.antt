-- The least of the shortest chains from a root to a vertex.
use Rattle.std.specs.Prelude.{◌≡◌, ◌⊎◌, ◌≤◌, ℕ, ◌<◌, List, [], ◌∷◌, length, map, Contains}
use Rattle.arg_chain.specs.declared.hop.Hop.{Hop}
use Rattle.arg_chain.specs.Walk.{Graph, IsWalk}

-- a chain of v: steps that lead from a root to it
pub record IsRoute (g : Graph) (roots : List ℕ) (v : ℕ) (root : ℕ) (steps : List Hop) : Type 0 where
  pub from_root : Contains roots root
  pub walk : IsWalk g root steps v

-- equal, or less at the first place where they differ
abbrev pub IsUpTo : List ℕ → List ℕ → Type 0
IsUpTo [] ys = Unit {0}
IsUpTo (x ∷ xs) [] = ⊥
IsUpTo (x ∷ xs) (y ∷ ys) = (x < y) ⊎ ((x ≡ y) × IsUpTo xs ys)

abbrev pub vertices_of : ℕ → List Hop → List ℕ
vertices_of root steps = root ∷ map (λ (s : Hop). s.to) steps

abbrev pub edges_of : List Hop → List ℕ
edges_of steps = map (λ (s : Hop). s.edge) steps

-- a chain that no other precedes: none is shorter; of those of its length none is less by vertices; of
-- those with its vertices none is less by edges
pub record IsLeastRoute (g : Graph) (roots : List ℕ) (v : ℕ) (root : ℕ) (steps : List Hop) : Type 0 where
  pub is_chain : IsRoute g roots v root steps
  pub shortest : (other : ℕ) (others : List Hop) → IsRoute g roots v other others → length steps ≤ length others
  pub vertices : (other : ℕ) (others : List Hop) → IsRoute g roots v other others → length others ≡ length steps → IsUpTo (vertices_of root steps) (vertices_of other others)
  pub edges : (others : List Hop) → IsWalk g root others v → vertices_of root others ≡ vertices_of root steps → IsUpTo (edges_of steps) (edges_of others)
