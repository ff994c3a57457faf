-- What the code of moves by statements goes by: the two ways, and marks on the nodes of a function.
use Rattle.std.specs.Prelude.{◌≡◌, ◌↔◌, ℕ, nat_eq, Bool, true, false, not, ◌&&◌, List, Option, None, Some, Contains, slice_get}
use Rattle.std.specs.Option.{option_eq}
use Rattle.gob_tree.specs.contracts.place.PlacePartialEq.TheImpl.{ghosts as places}
use Rattle.gob_tree.specs.declared.graph.Program.{Program}
use Rattle.arg_graph.specs.Following.{Offers, StackValue}
use Rattle.arg_graph.specs.declared.vertex.Label.{Label}
use Rattle.arg_graph.specs.declared.vertex.Vertex.{Vertex}
use Rattle.abs_stepper.specs.declared.choice.Way.{Way}
use Rattle.abs_stepper.specs.declared.choice.Way.TheVariants.{Across, Into}
use Rattle.abs_stepper.specs.Statements.{across, into, place_of, stays}

-- the label that a move of this way takes at a stack
abbrev pub chosen : Way → Offers → StackValue → Option Label
chosen Across = across
chosen Into = into

abbrev pub fresh : Option Bool → Bool
fresh None = false
fresh (Some mark) = not mark

-- a node has a mark, and it isn't set
abbrev pub is_fresh : List Bool → ℕ → Bool
is_fresh marks node = fresh (slice_get marks node)

-- whether a move that began at a vertex, has been at the marked nodes and took a label is inside its
-- statement at a vertex of the same function
abbrev pub is_inside : Program → Vertex → List Bool → Label → Vertex → Bool
is_inside p began marks last v =
    stays last && (not (nat_eq v.node 1) && (option_eq places.eq (place_of p v) (place_of p began) && is_fresh marks v.node))

-- The marked nodes are those of the vertices where a move of one function and context has been.
abbrev pub AreMarksOf : Vertex → List Vertex → List Bool → Type 0
AreMarksOf began been marks = (v : Vertex) → v.func ≡ began.func → v.key ≡ began.key → Contains been v ↔ (slice_get marks v.node ≡ Some true)
