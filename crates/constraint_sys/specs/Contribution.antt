-- What a point gets from the edges that end there.
use Rattle.std.specs.Prelude.{◌≢◌, None, Contains, ℕ, zero, suc, List, [], ◌∷◌, filter, length, nat_eq}
use Rattle.std.specs.List.{flat_map}
use Rattle.gob_tree.specs.declared.graph.Edge.{Edge}
use Rattle.gob_tree.specs.declared.graph.Program.{Program}
use Rattle.state_dom.specs.StateValue.{StateValue, Bottom, join_of}
use Rattle.constraint_sys.specs.declared.unknown.Key.{Key}
use Rattle.constraint_sys.specs.declared.unknown.Unknown.{Unknown}
use Rattle.constraint_sys.specs.declared.unknown.Unknown.TheVariants.{Point, Global}
use Rattle.constraint_sys.specs.declared.value.Contribution.{Contribution}
use Rattle.constraint_sys.specs.declared.value.Effect.{Effect}
use Rattle.constraint_sys.specs.declared.value.Outcome.{Outcome}
use Rattle.constraint_sys.specs.Table.{TableValue, value_at, edges_at, slots_at, state_at}
use Rattle.constraint_sys.specs.Transfer.{transfer}

-- the edges of function f that end in a node, in order
abbrev pub edges_into : Program → ℕ → ℕ → List Edge
edges_into p f node = filter (λ (e : Edge). nat_eq e.to node) (edges_at p f)

-- what one edge gives in a context, from the state at its start
abbrev pub outcome_of : Program → TableValue → ℕ → Key → Edge → Outcome
outcome_of p t f key e = transfer p t f e.act (state_at p t f key e.from)

-- a state joined with those that edges give, in order
abbrev pub joined_from : Program → TableValue → ℕ → Key → StateValue → List Edge → StateValue
joined_from p t f key s [] = s
joined_from p t f key s (e ∷ es) = joined_from p t f key (join_of s (outcome_of p t f key e).value) es

-- the join of the states that edges give; Bottom where there are none
abbrev pub joined : Program → TableValue → ℕ → Key → List Edge → StateValue
joined p t f key es = joined_from p t f key (Bottom (length (slots_at p f))) es

abbrev pub effects_of : Program → TableValue → ℕ → Key → List Edge → List Effect
effects_of p t f key es = flat_map (λ (e : Edge). (outcome_of p t f key e).effects) es

-- the start of each edge, then what the edge itself reads
abbrev pub reads_of : Program → TableValue → ℕ → Key → List Edge → List Unknown
reads_of p t f key es = flat_map (λ (e : Edge). Point f key e.from ∷ (outcome_of p t f key e).reads) es

-- the contribution of a node of a function in a context
abbrev pub contribution_of : Program → TableValue → ℕ → Key → ℕ → Contribution
contribution_of p t f key node =
    let es = edges_into p f node in
    record { value = joined p t f key es; effects = effects_of p t f key es; reads = reads_of p t f key es }

-- what the right side of an unknown reads; a start and a global have none
abbrev pub read_by : Program → TableValue → Unknown → List Unknown
read_by p t (Point f key zero) = []
read_by p t (Point f key (suc node)) = reads_of p t f key (edges_into p f (suc node))
read_by p t (Global g) = []

-- the contribution of an unknown; a global has none
abbrev pub contribution_at : Program → TableValue → Unknown → Contribution
contribution_at p t (Point f key node) = contribution_of p t f key node
contribution_at p t (Global g) = record { value = Bottom 0; effects = []; reads = [] }

-- q is a point of the table whose right side reads u
abbrev pub Reads : Program → TableValue → Unknown → Unknown → Type 0
Reads p t q u = (value_at t q ≢ None) × Contains (read_by p t q) u
