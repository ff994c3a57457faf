-- The definitions on a small program and its table, by hand.
use Rattle.std.proofs.Common.{◌≡◌, ℕ, true, false, pos, negsuc, List, [], ◌∷◌, ◌++◌, Option, Some, None, codes, refl, ap, ◌∙◌}
use Rattle.std.specs.Fmt.{digits, signed_decimal}
use Rattle.gob_tree.specs.declared.expr.BinOp.{BinOp}
use Rattle.gob_tree.specs.declared.expr.BinOp.TheVariants.{Add, Lt}
use Rattle.gob_tree.specs.declared.expr.Expr.{Expr, Number, Local, Unary, Binary}
use Rattle.gob_tree.specs.declared.expr.Expr.TheOpen.{Expr-F}
use Rattle.gob_tree.specs.declared.expr.UnOp.{UnOp}
use Rattle.gob_tree.specs.declared.expr.UnOp.TheVariants.{Neg, Not}
use Rattle.gob_tree.specs.declared.expr.Width.TheVariants.{W32}
use Rattle.gob_tree.specs.declared.graph.Action.{Action}
use Rattle.gob_tree.specs.declared.graph.Action.TheVariants as actions
use Rattle.gob_tree.specs.declared.graph.Edge.{Edge}
use Rattle.gob_tree.specs.declared.graph.FuncGraph.{FuncGraph}
use Rattle.gob_tree.specs.declared.graph.Program.{Program}
use Rattle.gob_tree.specs.declared.place.Place.{Place}
use Rattle.gob_tree.specs.declared.unit.FuncKind.TheVariants as kinds
use Rattle.gob_tree.specs.declared.unit.Slot.{Slot}
use Rattle.gob_tree.proofs.Folds.{fold-Number, fold-Local, fold-Unary, fold-Binary}
use Rattle.interval_dom.specs.Bounds.{Bounds, between}
use Rattle.state_dom.specs.StateValue.{Bottom, Reached}
use Rattle.constraint_sys.specs.declared.unknown.ArgKey.TheVariants.{Absent}
use Rattle.constraint_sys.specs.declared.unknown.Key.{Key}
use Rattle.constraint_sys.specs.declared.unknown.Unknown.TheVariants.{Point, Global}
use Rattle.constraint_sys.specs.declared.value.Value.TheVariants.{State, Number as NumberValue}
use Rattle.constraint_sys.specs.Table.{TableValue, empty_key}
use Rattle.constraint_sys.specs.Transfer.{only, with_effect}
use Rattle.arg_graph.specs.declared.vertex.Label.{Label}
use Rattle.arg_graph.specs.declared.vertex.Label.TheVariants.{Do, Over, Enter, Thread, Leave}
use Rattle.arg_graph.specs.declared.vertex.Step.{Step}
use Rattle.arg_graph.specs.declared.vertex.Vertex.{Vertex}
use Rattle.arg_graph.specs.Following.{StackValue, after_of, followed, moved, rooted, top_frame, waiting_frame}
use Rattle.arg_graph.specs.Offered.{offered, steps_by}
use Rattle.arg_graph.specs.Texts.{Shown, label_text, name_at, shown, shown_step, simple, slot_names}
use Rattle.arg_graph.specs.Vertices.{start_in, vertex_at, vertices_at, vertices_of}

-- ---- a program

abbrev int : ℕ → Expr
int n = Number (pos n) W32

abbrev slot : List ℕ → Slot
slot name = record { name = name; width = W32 }

abbrev somewhere : Place
somewhere = record { line = 1; column = 1 }

abbrev edge : ℕ → Action → ℕ → Edge
edge from act to = record { from = from; act = act; to = to }

-- void *work(void *a) {}
abbrev work : FuncGraph
work = record {
  name = codes "work";
  kind = kinds.Thread;
  params = 0;
  slots = slot [] ∷ [];
  threads = [];
  nodes = somewhere ∷ somewhere ∷ somewhere ∷ [];
  edges = edge 0 actions.Skip 2 ∷ edge 2 actions.Skip 1 ∷ [];
}

-- int f(void) { int n; .. }, which leaves node 0 only where n isn't 0
abbrev blocking : FuncGraph
blocking = record {
  name = codes "f";
  kind = kinds.Int;
  params = 0;
  slots = slot [] ∷ slot (codes "n") ∷ [];
  threads = [];
  nodes = somewhere ∷ somewhere ∷ somewhere ∷ [];
  edges = edge 0 (actions.Guard (Local 1) true) 2 ∷ edge 2 actions.Skip 1 ∷ [];
}

abbrev main : FuncGraph
main = record {
  name = codes "main";
  kind = kinds.Int;
  params = 0;
  slots = slot [] ∷ slot (codes "x") ∷ slot (codes "y") ∷ slot (codes "x") ∷ slot [] ∷ slot [] ∷ [];
  threads = codes "t" ∷ [];
  nodes = somewhere ∷ somewhere ∷ somewhere ∷ somewhere ∷ [];
  edges =
      edge 0 actions.Skip 2
      ∷ edge 2 (actions.Call None 1 []) 3
      ∷ edge 2 (actions.Lock 0) 3
      ∷ edge 3 (actions.Call (Some 1) 1 []) 2
      ∷ edge 2 (actions.Read 1 0) 1
      ∷ edge 3 (actions.Lock 0) 2
      ∷ edge 3 (actions.Create 0 0) 1
      ∷ [];
}

abbrev program : Program
program = record {
  funcs = work ∷ blocking ∷ main ∷ [];
  globals = record { name = codes "g"; width = W32; initial = pos 0 } ∷ [];
  mutexes = codes "m" ∷ [];
  main = 2;
}

-- ---- its table, with the entries in no order

abbrev number : ℕ → Bounds
number n = between (pos n) (pos n)

-- with m held
abbrev held_key : Key
held_key = record { a = Absent; b = Absent; locks = 1 }

-- f returns where m is held and not where it isn't; no run comes to the start of `work`
abbrev table : TableValue
table =
    (Global 0, NumberValue (number 5))
    ∷ (Point 2 empty_key 3, State (Reached (number 0 ∷ number 0 ∷ number 0 ∷ number 0 ∷ number 0 ∷ number 0 ∷ []) 1))
    ∷ (Point 1 held_key 1, State (Reached (number 7 ∷ number 7 ∷ []) 1))
    ∷ (Point 1 empty_key 0, State (Reached (number 0 ∷ number 0 ∷ []) 0))
    ∷ (Point 1 empty_key 1, State (Bottom 2))
    ∷ (Point 2 empty_key 2, State (Reached (number 0 ∷ number 0 ∷ number 0 ∷ number 0 ∷ number 0 ∷ number 0 ∷ []) 0))
    ∷ (Point 1 held_key 0, State (Reached (number 0 ∷ number 7 ∷ []) 1))
    ∷ (Point 0 empty_key 0, State (Bottom 1))
    ∷ []

abbrev main_at : ℕ → Vertex
main_at node = vertex_at 2 empty_key node

abbrev step : Label → Vertex → Step
step label to = record { label = label; to = to }

-- ---- vertices: by function, key and node; a point that is Bottom and a global are none
all_vertices : vertices_of table ≡ vertex_at 1 empty_key 0 ∷ vertex_at 1 held_key 0 ∷ vertex_at 1 held_key 1 ∷ main_at 2 ∷ main_at 3 ∷ []
all_vertices = refl

two_contexts : vertices_at table 1 0 ≡ vertex_at 1 empty_key 0 ∷ vertex_at 1 held_key 0 ∷ []
two_contexts = refl

one_context : vertices_at table 1 1 ≡ vertex_at 1 held_key 1 ∷ []
one_context = refl

none_reached : vertices_at table 0 0 ≡ []
none_reached = refl

-- ---- steps

-- a call that never returns is entered and not gone over; the edges come in order
entered_only : offered program table (main_at 2) ≡ step (Enter 1) (vertex_at 1 empty_key 0) ∷ step (Do 2) (main_at 3) ∷ step (Do 4) (main_at 1) ∷ []
entered_only = refl

-- Over comes before Enter, and Do before Thread; a mutex that is held isn't locked
over_then_enter : offered program table (main_at 3) ≡
    step (Over 3) (main_at 2) ∷ step (Enter 3) (vertex_at 1 held_key 0)
    ∷ step (Do 6) (main_at 1) ∷ step (Thread 6) (start_in 0)
    ∷ []
over_then_enter = refl

a_guard_holds : offered program table (vertex_at 1 held_key 0) ≡ step (Do 0) (vertex_at 1 held_key 2) ∷ []
a_guard_holds = simp fold-Local

a_guard_fails : offered program table (vertex_at 1 empty_key 0) ≡ []
a_guard_fails = simp fold-Local

-- what contributes to a global alone is done, and an argument without a value lets nobody in
a_write : steps_by (main_at 2) 9 (edge 2 (actions.Write 0 (int 5)) 3) (with_effect (Reached [] 0) (Global 0) (NumberValue (number 5))) ≡ step (Do 9) (main_at 3) ∷ []
a_write = refl

no_value : steps_by (main_at 2) 9 (edge 2 (actions.Call None 1 (int 5 ∷ [])) 3) (only (Bottom 0)) ≡ []
no_value = refl

at_bottom : offered program table (start_in 0) ≡ []
at_bottom = refl

not_in_the_table : offered program table (main_at 0) ≡ []
not_in_the_table = refl

no_function : offered program table (vertex_at 9 empty_key 0) ≡ []
no_function = refl

goes_on : after_of (offered program table) (main_at 3) 3 ≡ Some (main_at 2)
goes_on = refl

never_goes_on : after_of (offered program table) (main_at 2) 1 ≡ None
never_goes_on = refl

-- ---- stacks

abbrev go : Label → StackValue → Option StackValue
go = moved (offered program table)

-- the call with m held, at a node of f
abbrev in_call : ℕ → StackValue
in_call node = waiting_frame (main_at 3) 3 ∷ top_frame (vertex_at 1 held_key node) ∷ []

entered : go (Enter 3) (rooted (main_at 3)) ≡ Some (in_call 0)
entered = refl

gone_over : go (Over 3) (rooted (main_at 3)) ≡ Some (rooted (main_at 2))
gone_over = refl

not_offered : go (Over 1) (rooted (main_at 2)) ≡ None
not_offered = refl

only_the_top : go (Do 0) (in_call 0) ≡ Some (in_call 2)
only_the_top = simp fold-Local

not_below_the_top : go (Do 6) (in_call 1) ≡ None
not_below_the_top = refl

left_at_the_exit : go Leave (in_call 1) ≡ Some (rooted (main_at 2))
left_at_the_exit = refl

not_at_the_exit : go Leave (in_call 0) ≡ None
not_at_the_exit = refl

no_caller : go Leave (rooted (vertex_at 1 held_key 1)) ≡ None
no_caller = refl

never_returns : go Leave (waiting_frame (main_at 2) 1 ∷ top_frame (vertex_at 1 empty_key 1) ∷ []) ≡ None
never_returns = refl

left_above_others : go Leave (waiting_frame (main_at 1) 9 ∷ in_call 1) ≡ Some (waiting_frame (main_at 1) 9 ∷ rooted (main_at 2))
left_above_others = refl

thread_alone : go (Thread 6) (waiting_frame (main_at 2) 1 ∷ rooted (main_at 3)) ≡ Some (rooted (start_in 0))
thread_alone = refl

on_and_in : followed (offered program table) (main_at 2) (Do 2 ∷ Enter 3 ∷ []) ≡ Some (in_call 0)
on_and_in = refl

nothing_follows : followed (offered program table) (main_at 2) (Do 2 ∷ Do 2 ∷ []) ≡ None
nothing_follows = refl

-- ---- texts

names : slot_names main.slots ≡ codes "return" ∷ codes "x" ∷ codes "y" ∷ codes "x#2" ∷ codes "$0" ∷ codes "$1" ∷ []
unfolding digits
names = refl

-- `main` with one edge
abbrev with_edge : Action → Program
with_edge act = record program { funcs = work ∷ blocking ∷ record main { edges = edge 2 act 3 ∷ [] } ∷ [] }

abbrev done : Action → List ℕ
done act = label_text (with_edge act) 2 (Do 0)

-- what expressions are shown as, where the slots have these names
abbrev of : Expr → Shown
of = shown (slot_names main.slots)

of_local : (x : ℕ) → of (Local x) ≡ simple (name_at (slot_names main.slots) x)
of_local x = fold-Local Shown (shown_step (slot_names main.slots)) x

of_int : (n : ℕ) → of (int n) ≡ simple (signed_decimal (pos n))
of_int n = fold-Number Shown (shown_step (slot_names main.slots)) (pos n) W32

of_unary : (op : UnOp) (a : Expr) (s : Shown) → of a ≡ s → of (Unary op a) ≡ shown_step (slot_names main.slots) (Expr-F.Unary op s)
of_unary op a s is = fold-Unary Shown (shown_step (slot_names main.slots)) op a ∙ ap (λ (x : Shown). shown_step (slot_names main.slots) (Expr-F.Unary op x)) is

of_binary : (op : BinOp) (a b : Expr) (s t : Shown) → of a ≡ s → of b ≡ t → of (Binary op a b) ≡ shown_step (slot_names main.slots) (Expr-F.Binary op s t)
of_binary op a b s t left right =
    fold-Binary Shown (shown_step (slot_names main.slots)) op a b
    ∙ ap (λ (x : Shown). shown_step (slot_names main.slots) (Expr-F.Binary op x (of b))) left
    ∙ ap (λ (x : Shown). shown_step (slot_names main.slots) (Expr-F.Binary op s x)) right

assigned : done (actions.Assign 0 (Binary Add (Local 3) (Unary Neg (Local 4)))) ≡ codes "return = x#2 + (-($0))"
unfolding digits
assigned = ap (λ (s : Shown). codes "return = " ++ s.text) (of_binary Add (Local 3) (Unary Neg (Local 4)) _ _ (of_local 3) (of_unary Neg (Local 4) _ (of_local 4)))

nested : done (actions.Guard (Binary Lt (Binary Add (Local 1) (int 12)) (int 0)) true) ≡ codes "(x + 12) < 0"
unfolding digits
nested = ap (λ (s : Shown). s.text) (of_binary Lt (Binary Add (Local 1) (int 12)) (int 0) _ _ (of_binary Add (Local 1) (int 12) _ _ (of_local 1) (of_int 12)) (of_int 0))

opposite : done (actions.Guard (Local 1) false) ≡ codes "!(x)"
unfolding digits
opposite = ap (λ (s : Shown). codes "!(" ++ s.text ++ codes ")") (of_local 1)

negated : done (actions.Guard (Unary Not (Local 1)) false) ≡ codes "!(!(x))"
unfolding digits
negated = ap (λ (s : Shown). codes "!(" ++ s.text ++ codes ")") (of_unary Not (Local 1) _ (of_local 1))

below_zero : done (actions.Assert (Number (negsuc 6) W32)) ≡ codes "assert -7"
unfolding digits
below_zero = ap (λ (s : Shown). codes "assert " ++ s.text) (fold-Number Shown (shown_step (slot_names main.slots)) (negsuc 6) W32)

read : done (actions.Read 5 0) ≡ codes "$1 = g"
unfolding digits
read = refl

wrote : done (actions.Write 0 (int 5)) ≡ codes "g = 5"
unfolding digits
wrote = ap (λ (s : Shown). codes "g = " ++ s.text) (of_int 5)

arbitrary : done (actions.Nondet 2) ≡ codes "y = any"
unfolding digits
arbitrary = refl

locks : done (actions.Lock 0) ++ done (actions.Unlock 0) ≡ codes "lock munlock m"
locks = refl

creates : done (actions.Create 0 0) ≡ codes "create work"
creates = refl

joins : done (actions.Join 0) ≡ codes "join t"
joins = refl

skips : done actions.Skip ≡ codes "skip"
skips = refl

calls : label_text (with_edge (actions.Call None 1 (int 0 ∷ Binary Add (Local 1) (int 1) ∷ []))) 2 (Over 0) ≡ codes "over f(0, x + 1)"
unfolding digits
calls =
    ap (λ (s : Shown). codes "over f(" ++ (s.text ++ (codes ", " ++ (of (Binary Add (Local 1) (int 1))).text ++ [])) ++ codes ")") (of_int 0)
    ∙ ap (λ (s : Shown). codes "over f(" ++ (codes "0" ++ (codes ", " ++ s.text ++ [])) ++ codes ")") (of_binary Add (Local 1) (int 1) _ _ (of_local 1) (of_int 1))

enters : label_text (with_edge (actions.Call None 1 [])) 2 (Enter 0) ≡ codes "into f()"
unfolding digits
enters = refl

follows : label_text (with_edge (actions.Create 0 0)) 2 (Thread 0) ≡ codes "thread work"
unfolding digits
follows = refl

leaves : label_text program 2 Leave ≡ codes "leave"
leaves = refl

-- labels that no step bears
no_text : label_text (with_edge (actions.Call None 1 [])) 2 (Do 0) ++ label_text program 2 (Over 0) ++ label_text program 2 (Thread 0) ++ label_text program 2 (Do 99) ++ label_text program 7 (Do 0) ≡ []
unfolding digits
no_text = refl
