-- Ways through a function's graph over silent edges and inputs.
--
-- A reader should check: that an input is taken only where no silent edge can be done, and is stored
-- as it came.
use Rattle.std.specs.Prelude.{◌≡◌, ℕ, ℤ, List, [], ◌∷◌, None, Some}
use Rattle.gob_tree.specs.declared.unit.Function.{Function}
use Rattle.c_meaning.specs.Graph.{flow_of, graph_slots}
use Rattle.c_meaning.specs.Walk.{Moment, moment_with_input, silent_from}

-- from a moment by silent edges, and by an edge for each input where no silent one can be done
pub data Along (f : Function) : List ℤ → Moment → Moment → Type 0 where
  stays : (m : Moment) → Along f [] m m
  silently : (m mid last : Moment) (ins : List ℤ) (e : ℕ) → silent_from (graph_slots f) (flow_of f).edges 0 m ≡ Some (e, mid) → Along f ins mid last → Along f ins m last
  takes : (m mid last : Moment) (n : ℤ) (ins : List ℤ) → silent_from (graph_slots f) (flow_of f).edges 0 m ≡ None → moment_with_input (flow_of f).edges n m ≡ Some mid
      → Along f ins mid last → Along f (n ∷ ins) m last
