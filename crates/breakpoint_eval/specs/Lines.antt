-- The nodes of a program that stand on a line of its text.
--
-- A reader should check: that the function counts before the node, and that no other node on the line
-- comes before the least one.
use Rattle.std.specs.Prelude.{◌≡◌, ◌⊎◌, ◌<◌, ◌≤◌, ℕ, IsSomeAnd, slice_get}
use Rattle.gob_tree.specs.declared.graph.FuncGraph.{FuncGraph}
use Rattle.gob_tree.specs.declared.graph.Program.{Program}
use Rattle.gob_tree.specs.declared.place.Place.{Place}

-- a node of a function has a place on the line
abbrev pub StandsIn : FuncGraph → ℕ → ℕ → Type 0
StandsIn f line node = IsSomeAnd (slice_get f.nodes node) (λ (place : Place). place.line ≡ line)

abbrev pub StandsOn : Program → ℕ → ℕ → ℕ → Type 0
StandsOn p line f node = IsSomeAnd (slice_get p.funcs f) (λ (function : FuncGraph). StandsIn function line node)

-- a node of function f comes before one of function g, or is it
abbrev pub IsNotAfter : ℕ → ℕ → ℕ → ℕ → Type 0
IsNotAfter f node g other = (f < g) ⊎ ((f ≡ g) × (node ≤ other))

-- the least function, and in it the least node, on a line
pub record IsLeastOn (p : Program) (line f node : ℕ) : Type 0 where
  pub there : StandsOn p line f node
  pub least : (g other : ℕ) → StandsOn p line g other → IsNotAfter f node g other
