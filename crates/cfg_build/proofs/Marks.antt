-- The edges and the marks of marked edges.
use Rattle.std.proofs.Common.{◌≡◌, List, [], ◌∷◌, map, refl, ap}
use Rattle.gob_tree.specs.declared.graph.Edge.{Edge}
use Rattle.c_meaning.specs.Graph.{MarkedEdge}
use Rattle.cfg_build.specs.declared.marked.Marked.{Marked}
use Rattle.cfg_build.specs.Growing.{marked_edge}

pub edge_of_marked : (xs : List Marked) → map (λ (m : MarkedEdge). m.edge) (map marked_edge xs) ≡ map (λ (m : Marked). m.edge) xs
edge_of_marked [] = refl
edge_of_marked (x ∷ xs) = ap (λ (l : List Edge). x.edge ∷ l) (edge_of_marked xs)

pub silent_of_marked : (xs : List Marked) → map (λ (m : MarkedEdge). m.silent) (map marked_edge xs) ≡ map (λ (m : Marked). m.silent) xs
silent_of_marked [] = refl
silent_of_marked (x ∷ xs) = ap (λ l. x.silent ∷ l) (silent_of_marked xs)
