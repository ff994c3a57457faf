-- The edges of a program by the node in which they end and by the one in which they begin.
use Rattle.std.specs.Prelude.{◌≡◌, ℕ, ◌+◌, Bool, nat_eq, Option, None, List, [], ◌∷◌, ◌++◌, slice_get, Some, if◌then◌else◌}
use Rattle.std.specs.Option.{option_to_list}
use Rattle.gob_tree.specs.declared.graph.Edge.{Edge}
use Rattle.gob_tree.specs.declared.graph.Program.{Program}
use Rattle.state_dom.specs.ThresholdValues.{AreThresholdsOf}
use Rattle.constraint_sys.specs.declared.system.End.{End}
use Rattle.constraint_sys.specs.declared.system.End.TheVariants.{To, From}
use Rattle.constraint_sys.specs.declared.system.System.{System}
use Rattle.constraint_sys.specs.Table.{edges_at}

-- the numbers of the edges that pass a test, counted from n
abbrev pub numbers_where : (Edge → Bool) → ℕ → List Edge → List ℕ
numbers_where test n [] = []
numbers_where test n (e ∷ es) = if test e then n ∷ numbers_where test (n + 1) es else numbers_where test (n + 1) es

abbrev pub ends_at : ℕ → Edge → Bool
ends_at node e = nat_eq e.to node

abbrev pub begins_at : ℕ → Edge → Bool
begins_at node e = nat_eq e.from node

-- the numbers of the edges of function f that end in a node, in order
abbrev pub numbers_into : Program → ℕ → ℕ → List ℕ
numbers_into p f node = numbers_where (ends_at node) 0 (edges_at p f)

-- and of those that begin there
abbrev pub numbers_out_of : Program → ℕ → ℕ → List ℕ
numbers_out_of p f node = numbers_where (begins_at node) 0 (edges_at p f)

abbrev pub list_or_empty : Option (List ℕ) → List ℕ
list_or_empty None = []
list_or_empty (Some ns) = ns

-- the edges with these numbers
abbrev pub picked : List Edge → List ℕ → List Edge
picked es [] = []
picked es (n ∷ ns) = option_to_list (slice_get es n) ++ picked es ns

-- lists of numbers of edges by function and node
abbrev pub Index : Type 0
Index = List (List (List ℕ))

abbrev pub row_of : Option (List (List ℕ)) → ℕ → List ℕ
row_of None node = []
row_of (Some rows) node = list_or_empty (slice_get rows node)

-- the list of a function and node; empty where there is none
abbrev pub row_at : Index → ℕ → ℕ → List ℕ
row_at index f node = row_of (slice_get index f) node

-- whether an edge has the node at this end
abbrev pub has_end : End → ℕ → Edge → Bool
has_end To node e = ends_at node e
has_end From node e = begins_at node e

-- the index goes by this end of the program's edges
abbrev pub IsIndexOf : Program → End → Index → Type 0
IsIndexOf p end index = (f node : ℕ) → row_at index f node ≡ numbers_where (has_end end node) 0 (edges_at p f)

-- what is looked up is that of the program
pub record IsSystemOf (p : Program) (s : System) : Type 0 where
  pub thresholds : AreThresholdsOf p s.thresholds
  pub into : (f node : ℕ) → row_at s.ends f node ≡ numbers_into p f node
  pub out_of : (f node : ℕ) → row_at s.starts f node ≡ numbers_out_of p f node
