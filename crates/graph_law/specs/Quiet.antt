-- What silent edges do.
use Rattle.std.specs.Prelude.{◌≡◌, ℕ, ◌≤◌, true, length, take}
use Rattle.std.specs.List.{Contains}
use Rattle.gob_tree.specs.declared.unit.Function.{Function}
use Rattle.gob_tree.specs.declared.graph.Action.{Action}
use Rattle.gob_tree.specs.declared.graph.Action.TheVariants.{Assign, Guard, Skip}
use Rattle.c_meaning.specs.Graph.{MarkedEdge, flow_of, graph_slots}
use Rattle.c_meaning.specs.Walk.{Moment, settled_from}

-- an action that leaves the slots with names alone: a skip, a guard, or an assignment to a temporary
abbrev pub IsQuiet : ℕ → Action → Type 0
IsQuiet named (Assign x e) = named ≤ x
IsQuiet named (Guard e wanted) = Unit {0}
IsQuiet named Skip = Unit {0}
IsQuiet named other = ⊥

-- silent edges do nothing else
abbrev pub SilentEdgesAreQuiet : Type 0
SilentEdgesAreQuiet = (f : Function) (d : MarkedEdge) → Contains (flow_of f).edges d → d.silent ≡ true → IsQuiet (length f.slots) d.edge.act

-- so a frame that settles keeps its named slots
abbrev pub SettlingKeepsNamed : Type 0
SettlingKeepsNamed =
    (f : Function) (m : Moment)
    → take (length f.slots) (settled_from (graph_slots f) (flow_of f).edges m).1.slots ≡ take (length f.slots) m.slots
