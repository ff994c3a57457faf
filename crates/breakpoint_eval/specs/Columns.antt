-- A comparison of one local with one number, at many vertices at once.
use Rattle.std.specs.Prelude.{ℕ, ℤ, pos, Bool, List, [], ◌∷◌, Option, None, Some, if◌then◌else◌, slice_index_or}
use Rattle.interval_dom.specs.Bounds.{Bounds, between}
use Rattle.lane_bounds.specs.Comparisons.{holds_for_some}
use Rattle.state_dom.specs.StateValue.{slots_of}
use Rattle.constraint_sys.specs.declared.unknown.Unknown.TheVariants.{Point}
use Rattle.constraint_sys.specs.declared.value.Value.{Value}
use Rattle.constraint_sys.specs.declared.value.Value.TheVariants.{State, Number}
use Rattle.constraint_sys.specs.Table.{TableValue, value_at}
use Rattle.arg_graph.specs.declared.vertex.Vertex.{Vertex}
use Rattle.breakpoint_eval.specs.declared.comparison.Compared.{Compared}

abbrev pub slots_of_value : Option Value → List Bounds
slots_of_value (Some (State s)) = slots_of s
slots_of_value (Some (Number interval)) = []
slots_of_value None = []

-- the interval of a slot at a vertex
abbrev pub slot_at : TableValue → ℕ → Vertex → Bounds
slot_at t slot v = slice_index_or (slots_of_value (value_at t (Point v.func v.key v.node))) slot (between (pos 0) (pos 0))

abbrev pub low_at : TableValue → ℕ → Vertex → ℤ
low_at t slot v = (slot_at t slot v).lo

abbrev pub high_at : TableValue → ℕ → Vertex → ℤ
high_at t slot v = (slot_at t slot v).hi

-- whether a comparison holds for some number of the slot's interval at a vertex
abbrev pub may_hold_at : TableValue → Compared → Vertex → Bool
may_hold_at t by v = holds_for_some by.op by.number (low_at t by.slot v) (high_at t by.slot v)

-- the vertices whose marks are set
abbrev pub kept : List Vertex → List Bool → List Vertex
kept [] marks = []
kept (v ∷ vs) [] = []
kept (v ∷ vs) (mark ∷ marks) = if mark then v ∷ kept vs marks else kept vs marks
