-- Graphs of small functions, by hand.
use Rattle.std.specs.Prelude.{ℕ, pos, true, false, [], ◌∷◌, None, Some}
use Rattle.gob_tree.specs.declared.expr.Width.TheVariants.{W32, W64}
use Rattle.gob_tree.specs.declared.expr.BinOp.TheVariants.{Add, Lt, Ne, And, Or}
use Rattle.gob_tree.specs.declared.expr.Expr.{Local, Global, Binary}
use Rattle.gob_tree.specs.declared.stmt.Target as Target
use Rattle.gob_tree.specs.declared.stmt.Stmt as Stmt
use Rattle.gob_tree.specs.declared.stmt.Stmt.{Stmt}
use Rattle.gob_tree.specs.declared.unit.Function.{Function}
use Rattle.gob_tree.specs.declared.unit.Unit.{Unit as TranslationUnit}
use Rattle.gob_tree.specs.declared.graph.Action.{Action}
use Rattle.gob_tree.specs.declared.graph.Action.TheVariants.{Assign, Read, Guard, Assert as AssertEdge, Lock as LockEdge, Join as JoinEdge, Call as CallEdge, Skip}
use Rattle.gob_tree.specs.declared.graph.Edge.{Edge}
use Rattle.c_meaning.specs.Graph.{MarkedEdge, FlowGraph}
use Rattle.c_meaning.specs.Samples.{place, at, int, int_slot, long_slot, global, int_func, returns, alone}

abbrev pub edge : ℕ → Action → ℕ → Edge
edge from act to = record { from = from; act = act; to = to }

-- a silent edge, and one that isn't
abbrev pub silent_edge : ℕ → Action → ℕ → MarkedEdge
silent_edge from act to = record { edge = edge from act to; silent = true }

abbrev pub visible_edge : ℕ → Action → ℕ → MarkedEdge
visible_edge from act to = record { edge = edge from act to; silent = false }

-- ---- graphs

-- int main(void) { int i = 0; while (i < 10) i++; return i; }
abbrev pub counting : Function
counting = int_func (int_slot ∷ int_slot ∷ []) []
    (at 2 3 (Stmt.Declare 1 (Some (int 0)))
    ∷ at 3 3 (Stmt.While (Binary Lt (Local 1) (int 10)) (at 3 18 (Stmt.Assign (Target.TheVariants.Local 1) (Binary Add (Local 1) (int 1)))))
    ∷ at 4 3 (Stmt.Return (Some (Local 1)))
    ∷ [])

abbrev pub counting_flow : FlowGraph
counting_flow = record {
  named = 2;
  temps = [];
  nodes = place 1 5 ∷ place 9 1 ∷ place 2 3 ∷ place 3 3 ∷ place 4 3 ∷ place 3 18 ∷ [];
  edges =
      silent_edge 0 Skip 2
      ∷ visible_edge 2 (Assign 1 (int 0)) 3
      ∷ visible_edge 3 (Guard (Binary Lt (Local 1) (int 10)) true) 5
      ∷ visible_edge 3 (Guard (Binary Lt (Local 1) (int 10)) false) 4
      ∷ visible_edge 5 (Assign 1 (Binary Add (Local 1) (int 1))) 3
      ∷ visible_edge 4 (Assign 0 (Local 1)) 1
      ∷ [];
}

-- int main(void) { int x = g + g; return x; }, whose slots 2 and 3 are temporaries
abbrev pub doubling : Function
doubling = int_func (int_slot ∷ int_slot ∷ []) []
    (at 2 3 (Stmt.Declare 1 (Some (Binary Add (Global 0 W32) (Global 0 W32)))) ∷ returns (Local 1) ∷ [])

abbrev pub doubling_flow : FlowGraph
doubling_flow = record {
  named = 2;
  temps = W32 ∷ W32 ∷ [];
  nodes = place 1 5 ∷ place 9 1 ∷ place 2 3 ∷ place 8 3 ∷ place 2 3 ∷ place 2 3 ∷ [];
  edges =
      silent_edge 0 Skip 2
      ∷ visible_edge 2 (Read 2 0) 4
      ∷ visible_edge 4 (Read 3 0) 5
      ∷ visible_edge 5 (Assign 1 (Binary Add (Local 2) (Local 3))) 3
      ∷ visible_edge 3 (Assign 0 (Local 1)) 1
      ∷ [];
}

-- int main(void) { int x = 1 && g; return x; }
abbrev pub joining : Function
joining = int_func (int_slot ∷ int_slot ∷ []) []
    (at 2 3 (Stmt.Declare 1 (Some (Binary And (int 1) (Global 0 W32)))) ∷ returns (Local 1) ∷ [])

abbrev pub joining_flow : FlowGraph
joining_flow = record {
  named = 2;
  temps = W32 ∷ W32 ∷ [];
  nodes = place 1 5 ∷ place 9 1 ∷ place 2 3 ∷ place 8 3 ∷ place 2 3 ∷ place 2 3 ∷ place 2 3 ∷ place 2 3 ∷ [];
  edges =
      silent_edge 0 Skip 2
      ∷ silent_edge 2 (Guard (int 1) true) 4
      ∷ silent_edge 2 (Guard (int 1) false) 5
      ∷ silent_edge 5 (Assign 2 (int 0)) 6
      ∷ visible_edge 4 (Read 3 0) 7
      ∷ silent_edge 7 (Assign 2 (Binary Ne (Local 3) (int 0))) 6
      ∷ visible_edge 6 (Assign 1 (Local 2)) 3
      ∷ visible_edge 3 (Assign 0 (Local 1)) 1
      ∷ [];
}

abbrev pub joining_unit : TranslationUnit
joining_unit = alone (global (pos 5) ∷ []) [] joining

-- int main(void) { for (;;) { continue; } do ; while (0); return 0; }
abbrev pub looping : Function
looping = int_func (int_slot ∷ []) []
    (at 2 3 (Stmt.For [] None None (at 2 12 (Stmt.Block (at 2 14 Stmt.Continue ∷ []))))
    ∷ at 3 3 (Stmt.DoWhile (at 3 6 Stmt.Empty) (int 0))
    ∷ returns (int 0)
    ∷ [])

abbrev pub looping_flow : FlowGraph
looping_flow = record {
  named = 1;
  temps = [];
  nodes = place 1 5 ∷ place 9 1 ∷ place 2 3 ∷ place 3 6 ∷ place 2 3 ∷ place 2 14 ∷ place 2 3 ∷ place 8 3 ∷ place 3 3 ∷ [];
  edges =
      silent_edge 0 Skip 2
      ∷ silent_edge 2 Skip 4
      ∷ visible_edge 4 (Guard (int 1) true) 5
      ∷ visible_edge 4 (Guard (int 1) false) 3
      ∷ visible_edge 5 Skip 6
      ∷ silent_edge 6 Skip 4
      ∷ visible_edge 3 Skip 8
      ∷ visible_edge 8 (Guard (int 0) true) 3
      ∷ visible_edge 8 (Guard (int 0) false) 7
      ∷ visible_edge 7 (Assign 0 (int 0)) 1
      ∷ [];
}

-- int main(void) { int x = 0 || g; return x; }
abbrev pub splitting : Function
splitting = int_func (int_slot ∷ int_slot ∷ []) []
    (at 2 3 (Stmt.Declare 1 (Some (Binary Or (int 0) (Global 0 W32)))) ∷ returns (Local 1) ∷ [])

abbrev pub splitting_flow : FlowGraph
splitting_flow = record {
  named = 2;
  temps = W32 ∷ W32 ∷ [];
  nodes = place 1 5 ∷ place 9 1 ∷ place 2 3 ∷ place 8 3 ∷ place 2 3 ∷ place 2 3 ∷ place 2 3 ∷ place 2 3 ∷ [];
  edges =
      silent_edge 0 Skip 2
      ∷ silent_edge 2 (Guard (int 0) true) 4
      ∷ silent_edge 2 (Guard (int 0) false) 5
      ∷ silent_edge 4 (Assign 2 (int 1)) 6
      ∷ visible_edge 5 (Read 3 0) 7
      ∷ silent_edge 7 (Assign 2 (Binary Ne (Local 3) (int 0))) 6
      ∷ visible_edge 6 (Assign 1 (Local 2)) 3
      ∷ visible_edge 3 (Assign 0 (Local 1)) 1
      ∷ [];
}

-- int main(void) { for (int i = 1; i; i = 0) { if (i) break; continue; } return 0; }
abbrev pub stepping : Function
stepping = int_func (int_slot ∷ int_slot ∷ []) []
    (at 2 3 (Stmt.For
    (at 2 8 (Stmt.Declare 1 (Some (int 1))) ∷ [])
    (Some (Local 1))
    (Some (at 2 22 (Stmt.Assign (Target.TheVariants.Local 1) (int 0))))
    (at 2 29 (Stmt.Block (at 2 31 (Stmt.If (Local 1) (at 2 38 Stmt.Break) None) ∷ at 2 45 Stmt.Continue ∷ []))))
    ∷ returns (int 0) ∷ [])

abbrev pub stepping_flow : FlowGraph
stepping_flow = record {
  named = 2;
  temps = [];
  nodes = place 1 5 ∷ place 9 1 ∷ place 2 8 ∷ place 8 3 ∷ place 2 3 ∷ place 2 31 ∷ place 2 22 ∷ place 2 45 ∷ place 2 38 ∷ [];
  edges =
      silent_edge 0 Skip 2
      ∷ visible_edge 2 (Assign 1 (int 1)) 4
      ∷ visible_edge 4 (Guard (Local 1) true) 5
      ∷ visible_edge 4 (Guard (Local 1) false) 3
      ∷ visible_edge 5 (Guard (Local 1) true) 8
      ∷ visible_edge 5 (Guard (Local 1) false) 7
      ∷ visible_edge 8 Skip 3
      ∷ visible_edge 7 Skip 6
      ∷ visible_edge 6 (Assign 1 (int 0)) 4
      ∷ visible_edge 3 (Assign 0 (int 0)) 1
      ∷ [];
}

-- int main(void) { long x = h; f(g); return 0; }, where g is an int and h a long
abbrev pub sharing : Function
sharing = int_func (int_slot ∷ long_slot ∷ []) []
    (at 2 3 (Stmt.Declare 1 (Some (Global 1 W64))) ∷ at 3 3 (Stmt.CallOnly 1 (Global 0 W32 ∷ [])) ∷ returns (int 0) ∷ [])

-- the call's argument can't take the temporary of the other width
abbrev pub sharing_flow : FlowGraph
sharing_flow = record {
  named = 2;
  temps = W64 ∷ W32 ∷ [];
  nodes = place 1 5 ∷ place 9 1 ∷ place 2 3 ∷ place 3 3 ∷ place 2 3 ∷ place 8 3 ∷ place 3 3 ∷ [];
  edges =
      silent_edge 0 Skip 2
      ∷ visible_edge 2 (Read 2 1) 4
      ∷ visible_edge 4 (Assign 1 (Local 2)) 3
      ∷ visible_edge 3 (Read 3 0) 6
      ∷ visible_edge 6 (CallEdge None 1 (Local 3 ∷ [])) 5
      ∷ visible_edge 5 (Assign 0 (int 0)) 1
      ∷ [];
}

-- int main(void) { pthread_mutex_lock(&m); pthread_join(t, NULL); assert(x); if (x) ; else ; return 0; }
abbrev pub acting : Function
acting = int_func (int_slot ∷ int_slot ∷ []) ([] ∷ [])
    (at 4 3 (Stmt.Lock 0)
    ∷ at 5 3 (Stmt.Join 0)
    ∷ at 6 3 (Stmt.Assert (Local 1))
    ∷ at 7 3 (Stmt.If (Local 1) (at 7 10 Stmt.Empty) (Some (at 7 17 Stmt.Empty)))
    ∷ returns (int 0)
    ∷ [])

abbrev pub acting_flow : FlowGraph
acting_flow = record {
  named = 2;
  temps = [];
  nodes = place 1 5 ∷ place 9 1 ∷ place 4 3 ∷ place 5 3 ∷ place 6 3 ∷ place 7 3 ∷ place 8 3 ∷ place 7 10 ∷ place 7 17 ∷ [];
  edges =
      silent_edge 0 Skip 2
      ∷ visible_edge 2 (LockEdge 0) 3
      ∷ visible_edge 3 (JoinEdge 0) 4
      ∷ visible_edge 4 (AssertEdge (Local 1)) 5
      ∷ visible_edge 5 (Guard (Local 1) true) 7
      ∷ visible_edge 5 (Guard (Local 1) false) 8
      ∷ visible_edge 7 Skip 6
      ∷ visible_edge 8 Skip 6
      ∷ visible_edge 6 (Assign 0 (int 0)) 1
      ∷ [];
}
