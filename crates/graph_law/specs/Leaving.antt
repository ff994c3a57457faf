-- The edges that leave a node.
use Rattle.std.specs.Prelude.{◌≡◌, ℕ, true, false, if◌then◌else◌, nat_eq, ℤ, ◌⊎◌, List, [], ◌∷◌, None}
use Rattle.gob_tree.specs.declared.expr.Expr.{Expr}
use Rattle.gob_tree.specs.declared.graph.Action.TheVariants.{Guard}
use Rattle.gob_tree.specs.declared.unit.Slot.{Slot}
use Rattle.gob_tree.specs.declared.unit.Function.{Function}
use Rattle.c_meaning.specs.Graph.{MarkedEdge, flow_of}
use Rattle.c_meaning.specs.GraphStep.{local_slots}

-- the edges among these that leave a node, in their order
abbrev pub leaving : ℕ → List MarkedEdge → List MarkedEdge
leaving n [] = []
leaving n (d ∷ ds) = if nat_eq d.edge.from n then d ∷ leaving n ds else leaving n ds

-- the two guards of one expression, both silent or neither
abbrev pub AreOpposite : MarkedEdge → MarkedEdge → Type 0
AreOpposite a b = (a.silent ≡ b.silent) × ((e : Expr) × (a.edge.act ≡ Guard e true) × (b.edge.act ≡ Guard e false))

-- one edge at most, or two opposite guards
abbrev pub IsOneWay : List MarkedEdge → Type 0
IsOneWay [] = Unit {0}
IsOneWay (a ∷ []) = Unit {0}
IsOneWay (a ∷ b ∷ []) = AreOpposite a b
IsOneWay (a ∷ b ∷ c ∷ ds) = ⊥

-- the edges that leave a node of a function's graph are one, or two opposite guards
abbrev pub OneWayOut : Type 0
OneWayOut = (f : Function) (n : ℕ) → IsOneWay (leaving n (flow_of f).edges)

-- of two opposite guards one at most can be done on the same values
abbrev pub OneGuardAtMost : Type 0
OneGuardAtMost =
    (a b : MarkedEdge) (slots : List Slot) (values : List ℤ) → AreOpposite a b
    → (local_slots slots a.edge.act values ≡ None) ⊎ (local_slots slots b.edge.act values ≡ None)
