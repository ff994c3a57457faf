-- The steps that are offered at a vertex.
--
-- A reader should check: that a step inside the function wants an outcome that isn't Bottom, that
-- entering a call and following a thread want only that the edge contributes to that start, and the
-- order.
use Rattle.std.specs.Prelude.{ℕ, ◌+◌, List, [], ◌∷◌, ◌++◌, Option, None, Some, if◌then◌else◌}
use Rattle.std.specs.List.{flat_map}
use Rattle.gob_tree.specs.declared.graph.Action.{Action}
use Rattle.gob_tree.specs.declared.graph.Action.TheVariants.{Create, Call}
use Rattle.gob_tree.specs.declared.graph.Edge.{Edge}
use Rattle.gob_tree.specs.declared.graph.Program.{Program}
use Rattle.state_dom.specs.StateValue.{StateValue, Bottom, Reached}
use Rattle.constraint_sys.specs.declared.unknown.Unknown.{Unknown}
use Rattle.constraint_sys.specs.declared.unknown.Unknown.TheVariants.{Point, Global}
use Rattle.constraint_sys.specs.declared.value.Effect.{Effect}
use Rattle.constraint_sys.specs.declared.value.Outcome.{Outcome}
use Rattle.constraint_sys.specs.Contribution.{outcome_of}
use Rattle.constraint_sys.specs.Index.{begins_at}
use Rattle.constraint_sys.specs.Table.{TableValue, edges_at}
use Rattle.arg_graph.specs.declared.vertex.Label.{Label}
use Rattle.arg_graph.specs.declared.vertex.Label.TheVariants.{Do, Over, Enter, Thread}
use Rattle.arg_graph.specs.declared.vertex.Step.{Step}
use Rattle.arg_graph.specs.declared.vertex.Vertex.{Vertex}
use Rattle.arg_graph.specs.Vertices.{vertex_at}

-- the label of the step along edge n: a call is gone over, any other edge is done
abbrev pub passing : ℕ → Action → Label
passing n (Call d f args) = Over n
passing n _ = Do n

-- The label of the step to a start that edge n contributes to: that of the called function, or that
-- of a thread. No other edge contributes to a start.
abbrev pub beginning : ℕ → Action → Option Label
beginning n (Call d f args) = Some (Enter n)
beginning n (Create x f) = Some (Thread n)
beginning n _ = None

-- the step to a node in the same function and context, unless the outcome there is Bottom
abbrev pub passed : Vertex → Edge → Label → StateValue → List Step
passed v e label (Bottom room) = []
passed v e label (Reached slots locks) = record { label = label; to = vertex_at v.func v.key e.to } ∷ []

-- the step to an unknown that is a point
abbrev pub start : Label → Unknown → List Step
start label (Point f key node) = record { label = label; to = vertex_at f key node } ∷ []
start label (Global g) = []

-- the step to each start that an edge contributes to
abbrev pub starts : Label → List Effect → List Step
starts label effects = flat_map (λ (effect : Effect). start label effect.target) effects

abbrev pub begun : Option Label → List Effect → List Step
begun None effects = []
begun (Some label) effects = starts label effects

-- the steps by edge n, which gives this outcome from the vertex
abbrev pub steps_by : Vertex → ℕ → Edge → Outcome → List Step
steps_by v n e outcome = passed v e (passing n e.act) outcome.value ++ begun (beginning n e.act) outcome.effects

-- the steps by edges of the vertex's function, of which the first has number n: by those that begin
-- at its node
abbrev pub steps_from : Program → TableValue → Vertex → ℕ → List Edge → List Step
steps_from p t v n [] = []
steps_from p t v n (e ∷ es) =
    (if begins_at v.node e then steps_by v n e (outcome_of p t v.func v.key e) else []) ++ steps_from p t v (n + 1) es

-- all steps that are offered at a vertex, in the order of its function's edges; none at what is no vertex
abbrev pub offered : Program → TableValue → Vertex → List Step
offered p t v = steps_from p t v 0 (edges_at p v.func)
