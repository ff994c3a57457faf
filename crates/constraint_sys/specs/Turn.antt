-- Raising an unknown, turns, and the replay of recorded turns.
use Rattle.std.specs.Prelude.{◌≡◌, ◌≢◌, ◌⊎◌, ◌↔◌, ℕ, zero, suc, ◌+◌, ◌-◌, ℤ, List, [], ◌∷◌, ◌++◌, Option, None, Some, length, map, filter, is_none, Bool, Contains}
use Rattle.std.specs.List.Sorted.{IsStrictlySortedBy}
use Rattle.gob_tree.specs.declared.graph.Program.{Program}
use Rattle.gob_tree.specs.declared.unit.GlobalDecl.{GlobalDecl}
use Rattle.interval_dom.specs.Marks.{widened}
use Rattle.state_dom.specs.StateValue.{Bottom, raised_by}
use Rattle.state_dom.specs.ThresholdValues.{thresholds_of}
use Rattle.constraint_sys.specs.declared.unknown.Key.{Key}
use Rattle.constraint_sys.specs.declared.unknown.Unknown.{Unknown}
use Rattle.constraint_sys.specs.declared.unknown.Unknown.TheVariants.{Point, Global}
use Rattle.constraint_sys.specs.declared.value.Effect.{Effect}
use Rattle.constraint_sys.specs.declared.value.Value.{Value}
use Rattle.constraint_sys.specs.declared.value.Value.TheVariants.{State, Number}
use Rattle.constraint_sys.specs.Table.{TableValue, value_at, with_value, shown, empty_key, nodes_at, slots_at, unknown_cmp}
use Rattle.constraint_sys.specs.Contribution.{contribution_of, read_by}
use Rattle.constraint_sys.specs.PostSolution.{main_start_value, initial_value}

-- a value raised by another, with thresholds
abbrev pub raised_value : List ℤ → Value → Value → Value
raised_value marks (State old) (State new) = State (raised_by marks old new)
raised_value marks (State old) (Number new) = State old
raised_value marks (Number old) (State new) = Number old
raised_value marks (Number old) (Number new) = Number (widened old new marks)

-- the numbers from n on, so many of them
abbrev pub numbers_from : ℕ → ℕ → List ℕ
numbers_from n zero = []
numbers_from n (suc count) = n ∷ numbers_from (n + 1) count

-- a function's nodes in a context but the start, as Bottom with room for so many slots
abbrev pub bottoms : ℕ → ℕ → Key → ℕ → TableValue
bottoms room f key nodes = map (λ (node : ℕ). (Point f key node, State (Bottom room))) (numbers_from 1 (nodes - 1))

abbrev pub bottom_nodes : Program → ℕ → Key → TableValue
bottom_nodes p f key = bottoms (length (slots_at p f)) f key (length (nodes_at p f))

-- the other nodes of a start's function and context, as Bottom
abbrev pub fellows : Program → Unknown → TableValue
fellows p (Point f key zero) = bottom_nodes p f key
fellows p (Point f key (suc node)) = []
fellows p (Global g) = []

abbrev pub is_absent : TableValue → Unknown × Value → Bool
is_absent t e = is_none (value_at t e.0)

-- the entries that come with an unknown that wasn't there: a start brings those nodes of its function
-- that are absent
abbrev pub arising : Program → TableValue → Unknown → Value → TableValue
arising p t u v = (u, v) ∷ filter (is_absent t) (fellows p u)

abbrev pub raised_entry : Program → TableValue → Unknown → Value → Option Value → TableValue
raised_entry p t u v None = t ++ arising p t u v
raised_entry p t u v (Some old) = with_value t u (raised_value (thresholds_of p) old v)

-- the table with an unknown raised by a value
abbrev pub raised_in : Program → TableValue → Unknown → Value → TableValue
raised_in p t u v = raised_entry p t u v (value_at t u)

-- the table with the target of each effect raised, in order
abbrev pub raised_in_each : Program → TableValue → List Effect → TableValue
raised_in_each p t [] = t
raised_in_each p t (e ∷ es) = raised_in_each p (raised_in p t e.target e.value) es

-- what a turn of an unknown raises, in order: itself by its contribution's value, then the target of
-- each effect
abbrev pub raises_of : Program → TableValue → Unknown → List Effect
raises_of p t (Point f key node) =
    let c = contribution_of p t f key node in
    record { target = Point f key node; value = State c.value } ∷ c.effects
raises_of p t (Global g) = []

abbrev pub table_after : Program → TableValue → Unknown → TableValue
table_after p t u = raised_in_each p t (raises_of p t u)

-- a table, and the points whose turn is still to come, in the order of unknowns
pub record Solving : Type 0 where
  pub table : TableValue
  pub dirty : List Unknown

-- what a reader sees of the unknown has changed; an unknown that arises as Bottom didn't rise
abbrev pub Rose : TableValue → TableValue → Unknown → Type 0
Rose old new u = shown (value_at new u) ≢ shown (value_at old u)

-- q is one of the nodes that a start brought
abbrev pub IsBrought : TableValue → TableValue → Unknown → Type 0
IsBrought old new (Point f key zero) = ⊥
IsBrought old new (Point f key (suc node)) = (value_at old (Point f key (suc node)) ≡ None) × (value_at new (Point f key (suc node)) ≢ None)
IsBrought old new (Global g) = ⊥

-- q is a point of the table that reads an unknown that rose
abbrev pub ReadsRisen : Program → TableValue → TableValue → Unknown → Type 0
ReadsRisen p old new q = (value_at old q ≢ None) × ((r : Unknown) × Contains (read_by p old q) r × Rose old new r)

-- q is dirty after a turn of u
abbrev pub IsDirtyAfter : Program → Solving → Unknown → TableValue → Unknown → Type 0
IsDirtyAfter p old u new q =
    ((Contains old.dirty q) × (q ≢ u)) ⊎ (IsBrought old.table new q ⊎ ReadsRisen p old.table new q)

-- unknowns in their order, none twice
abbrev pub IsAscending : List Unknown → Type 0
IsAscending us = IsStrictlySortedBy unknown_cmp us

-- one turn of a dirty unknown
pub record Turns (p : Program) (old : Solving) (u : Unknown) (new : Solving) : Type 0 where
  pub was_dirty : Contains old.dirty u
  pub table : new.table ≡ table_after p old.table u
  pub dirty : (q : Unknown) → Contains new.dirty q ↔ IsDirtyAfter p old u new.table q
  pub ascending : IsAscending new.dirty

-- the turns of a trace, in order, lead from one to the other
abbrev pub Replays : Program → Solving → List Unknown → Solving → Type 0
Replays p old [] new = new ≡ old
Replays p old (u ∷ trace) new = (next : Solving) × Turns p old u next × Replays p next trace new

-- the globals from number g on, at their initial values
abbrev pub initial_globals : ℕ → List GlobalDecl → TableValue
initial_globals g [] = []
initial_globals g (decl ∷ rest) = (Global g, initial_value decl) ∷ initial_globals (g + 1) rest

-- `main`'s start with its nodes, and the globals
abbrev pub initial_table : Program → TableValue
initial_table p = (Point p.main empty_key 0, main_start_value p) ∷ bottom_nodes p p.main empty_key ++ initial_globals 0 p.globals

-- a function's nodes in a context but the start
abbrev pub nodes_after_start : ℕ → Key → ℕ → List Unknown
nodes_after_start f key nodes = map (λ (node : ℕ). Point f key node) (numbers_from 1 (nodes - 1))

abbrev pub initial_dirty : Program → List Unknown
initial_dirty p = nodes_after_start p.main empty_key (length (nodes_at p p.main))

abbrev pub initial_of : Program → Solving
initial_of p = record { table = initial_table p; dirty = initial_dirty p }
