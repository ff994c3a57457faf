-- Stops by themselves: where their vertices stand, and a list of breaks that is asked for one by one.
--
-- A reader should check: that a stop's own break is meant, and that the stops of one break alone get the
-- break's number in the list.
use Rattle.std.specs.Prelude.{◌≡◌, ℕ, ◌+◌, List, [], ◌∷◌, ◌++◌, Contains, IsSomeAnd, map, slice_get}
use Rattle.gob_tree.specs.declared.graph.Program.{Program}
use Rattle.constraint_sys.specs.Table.{TableValue}
use Rattle.arg_graph.specs.declared.vertex.Vertex.{Vertex}
use Rattle.breakpoint_eval.specs.declared.stop.Break.{Break}
use Rattle.breakpoint_eval.specs.declared.stop.Stop.{Stop}
use Rattle.breakpoint_eval.specs.Lines.{IsLeastOn}
use Rattle.breakpoint_eval.specs.Watching.{stops_of}

-- each vertex of a stop stands at the node of the stop's break
abbrev pub StandsAtItsBreak : List Break → Stop → Type 0
StandsAtItsBreak breaks stop =
    IsSomeAnd (slice_get breaks stop.index) (λ (b : Break). (v : Vertex) → Contains stop.at v → (v.func ≡ b.func) × (v.node ≡ b.node))

-- a stop with its break's number in a list, where it has that in the part from number n on
abbrev pub numbered_from : ℕ → Stop → Stop
numbered_from n stop = record { index = n + stop.index; at = stop.at }

-- the stops of breaks, of which the first has number n, where each break is asked for by itself
abbrev pub one_by_one : Program → TableValue → ℕ → List Break → List Stop
one_by_one p t n [] = []
one_by_one p t n (b ∷ bs) = map (numbered_from n) (stops_of p t (b ∷ [])) ++ one_by_one p t (n + 1) bs

-- The stops of a list of breaks are those of its members, one after another.
abbrev pub StopsComeOneByOne : Type 0
StopsComeOneByOne = (p : Program) (t : TableValue) (breaks : List Break) → stops_of p t breaks ≡ one_by_one p t 0 breaks

-- A line has one least node.
abbrev pub LinesHaveOneNode : Type 0
LinesHaveOneNode =
    (p : Program) (line f node g other : ℕ) → IsLeastOn p line f node → IsLeastOn p line g other → (f ≡ g) × (node ≡ other)
