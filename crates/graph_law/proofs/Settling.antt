-- The silent edges of a thread are moves of it.
use Rattle.std.proofs.Common.{◌≡◌, refl, sym, ap, ◌∙◌, subst, ℕ, zero, suc, ◌+◌, ℤ, pos, Bool, true, false, List, [], ◌∷◌, ◌++◌, length, map, Option, None, Some, arith, append_assoc, length-append}
use Rattle.std.specs.Prelude.{if◌then◌else◌, ◌&&◌, nat_eq, slice_get, slice_set}
use Rattle.std.specs.Option.{option_map, option_map_or, option_and_then}
use Rattle.std.proofs.lemmas.Option.{slice_get-map}
use Rattle.gob_tree.specs.declared.unit.Slot.{Slot}
use Rattle.gob_tree.specs.declared.unit.Function.{Function}
use Rattle.gob_tree.specs.declared.unit.Unit.{Unit as TranslationUnit}
use Rattle.gob_tree.specs.declared.graph.Action.{Action}
use Rattle.gob_tree.specs.declared.graph.Action.TheVariants.{Assign, Read, Write, Nondet, Guard, Assert, Lock, Unlock, Create, Join, Call, Skip}
use Rattle.gob_tree.specs.declared.graph.Edge.{Edge}
use Rattle.gob_tree.specs.declared.graph.FuncGraph.{FuncGraph}
use Rattle.c_meaning.specs.Config.{Config, thread_at, with_thread}
use Rattle.c_meaning.specs.Graph.{MarkedEdge, marked_of, program_of, flow_of, graph_of}
use Rattle.c_meaning.specs.GraphStep as Graph
use Rattle.c_meaning.specs.GraphStep.{Label, Do, Site, Acted, edge_at, local_slots, slots_effect, action_effect, after_edge, frame_moved, site_after, thread_after, after_label}
use Rattle.c_meaning.specs.Walk.{Moment, moment_after, silent_slots, first_or, silent_from, settled_or, settled_within, after_moves, moves_by, walk_on, marked_edges_at, silent_labels}
use Rattle.graph_law.specs.Settling.{settled_frame, SilentEdgesAreMoves}

-- ---- lists

get_behind : {A : Type 0} (front : List A) (x : A) (xs : List A) → slice_get (front ++ x ∷ xs) (length front) ≡ Some x
get_behind [] x xs = refl
get_behind (y ∷ front) x xs = get_behind front x xs

pub set_same : {A : Type 0} (xs : List A) (i : ℕ) (x : A) → slice_get xs i ≡ Some x → slice_set xs i x ≡ xs
set_same [] i x e = refl
set_same (y ∷ xs) zero x e = let same : y ≡ x = cc in ap (λ z. z ∷ xs) (sym same)
set_same (y ∷ xs) (suc i) x e = ap (λ (l : List _). y ∷ l) (set_same xs i x e)

pub set_twice : {A : Type 0} (xs : List A) (i : ℕ) (x z : A) → slice_set (slice_set xs i x) i z ≡ slice_set xs i z
set_twice [] i x z = refl
set_twice (y ∷ xs) zero x z = refl
set_twice (y ∷ xs) (suc i) x z = ap (λ (l : List _). y ∷ l) (set_twice xs i x z)

pub get_set : {A : Type 0} (xs : List A) (i : ℕ) (x z : A) → slice_get xs i ≡ Some z → slice_get (slice_set xs i x) i ≡ Some x
get_set [] i x z e = cc
get_set (y ∷ xs) zero x z e = refl
get_set (y ∷ xs) (suc i) x z e = get_set xs i x z e

pub thread_same : (threads : List (List Graph.Frame)) (t : ℕ) (frames : List Graph.Frame) → thread_at threads t ≡ Some frames → with_thread threads t frames ≡ threads
thread_same threads zero frames e = refl
thread_same threads (suc i) frames e = set_same threads i frames e

pub thread_twice : (threads : List (List Graph.Frame)) (t : ℕ) (a b : List Graph.Frame) → with_thread (with_thread threads t a) t b ≡ with_thread threads t b
thread_twice threads zero a b = refl
thread_twice threads (suc i) a b = set_twice threads i a b

pub thread_set : (threads : List (List Graph.Frame)) (t : ℕ) (a b : List Graph.Frame) → thread_at threads t ≡ Some b → thread_at (with_thread threads t a) t ≡ Some a
thread_set threads zero a b e = cc
thread_set threads (suc i) a b e = get_set threads i a b e

-- ---- the edge that is found

pub record Found (slots : List Slot) (all : List MarkedEdge) (m : Moment) (e : ℕ) (next : Moment) : Type 0 where
  pub edge : MarkedEdge
  pub there : slice_get all e ≡ Some edge
  pub leaves : nat_eq edge.edge.from m.node ≡ true
  pub done : local_slots slots edge.edge.act m.slots ≡ Some next.slots
  pub leads : next.node ≡ edge.edge.to
  pub is_silent : edge.silent ≡ true

done_here : (silent here : Bool) (act : Option (List ℤ)) (values : List ℤ) → (if silent && here then act else None) ≡ Some values → (here ≡ true) × (act ≡ Some values) × (silent ≡ true)
done_here true true act values e = (refl, e, refl)
done_here true false act values e = cc
done_here false here act values e = cc

pub found : (slots : List Slot) (front ds : List MarkedEdge) (m : Moment) (i e : ℕ) (next : Moment) → length front ≡ i → silent_from slots ds i m ≡ Some (e, next) → Found slots (front ++ ds) m e next
found slots front [] m i e next at q = cc
found slots front (d ∷ ds) m i e next at q =
    go (silent_slots slots d m) refl
    (λ z. let k = length-append front (d ∷ []) in
    subst (λ (all : List MarkedEdge). Found slots all m e next) (append_assoc front (d ∷ []) ds)
    (found slots (front ++ d ∷ []) ds m (i + 1) e next (omega (arith, k, at)) z)) q
  where
    go : (o : Option (List ℤ)) → silent_slots slots d m ≡ o → (silent_from slots ds (i + 1) m ≡ Some (e, next) → Found slots (front ++ d ∷ ds) m e next) → first_or d i (silent_from slots ds (i + 1) m) o ≡ Some (e, next) → Found slots (front ++ d ∷ ds) m e next
    go None p rest z = rest z
    go (Some values) p rest z =
        let number : i ≡ e = ap (λ (o : Option (ℕ × Moment)). option_map_or (λ x. x.0) o 0) z in
        let to : moment_after d.edge values ≡ next = ap (λ (o : Option (ℕ × Moment)). option_map_or (λ x. x.1) o next) z in
        let t = done_here d.silent (nat_eq d.edge.from m.node) (local_slots slots d.edge.act m.slots) values p in
        record {
          edge = d;
          there = subst (λ n. slice_get (front ++ d ∷ ds) n ≡ Some d) (at ∙ number) (get_behind front d ds);
          leaves = t.0;
          done = t.1 ∙ ap (λ (n : Moment). Some n.slots) to;
          leads = ap (λ (n : Moment). n.node) (sym to);
          is_silent = t.2;
        }

-- ---- one silent edge

-- an action that touches nothing else is done as it stands
pub local_effect : (s : Site) (slots : List Slot) (act : Action) (values : List ℤ) → local_slots slots act s.frame.slots ≡ Some values → action_effect s slots act ≡ Some (slots_effect s values)
local_effect s slots (Assign x e) values q = ap (option_map (slots_effect s)) q
local_effect s slots (Read x g) values q = cc
local_effect s slots (Write g e) values q = cc
local_effect s slots (Nondet x) values q = cc
local_effect s slots (Guard e wanted) values q = ap (option_map (slots_effect s)) q
local_effect s slots (Assert e) values q = ap (option_map (slots_effect s)) q
local_effect s slots (Lock x) values q = cc
local_effect s slots (Unlock x) values q = cc
local_effect s slots (Create x f) values q = cc
local_effect s slots (Join x) values q = cc
local_effect s slots (Call d f args) values q = cc
local_effect s slots Skip values q = ap (option_map (slots_effect s)) q

pub edge_done : (s : Site) (edge : Edge) (values : List ℤ) → nat_eq edge.from s.frame.node ≡ true → local_slots (Graph.func_slots s.program s.frame.func) edge.act s.frame.slots ≡ Some values
    → after_edge s edge ≡ Some (record s.config { threads = with_thread s.config.threads s.thread (record s.frame { node = edge.to; slots = values } ∷ s.below) })
edge_done s edge values leaves done =
    ap (λ (b : Bool). if b then option_map (frame_moved s edge.to) (action_effect s (Graph.func_slots s.program s.frame.func) edge.act) else None) leaves
    ∙ ap (option_map (frame_moved s edge.to)) (local_effect s (Graph.func_slots s.program s.frame.func) edge.act values done)

-- the edges of a unit's program are those of its graphs without the marks
pub edges_match : (unit : TranslationUnit) (f e : ℕ) (d : MarkedEdge) → slice_get (marked_edges_at (marked_of unit) f) e ≡ Some d → edge_at (program_of unit) f e ≡ Some d.edge
edges_match unit f e d q = go (slice_get unit.funcs f) (slice_get-map (λ (g : Function). (flow_of g).edges) unit.funcs f) (slice_get-map graph_of unit.funcs f)
  where
    go : (o : Option Function) → slice_get (map (λ (g : Function). (flow_of g).edges) unit.funcs) f ≡ option_map (λ (g : Function). (flow_of g).edges) o → slice_get (map graph_of unit.funcs) f ≡ option_map graph_of o → edge_at (program_of unit) f e ≡ Some d.edge
    go None marks graphs =
        let empty : slice_get (marked_edges_at (marked_of unit) f) e ≡ None = ap (λ (o : Option (List MarkedEdge)). slice_get (option_map_or (λ edges. edges) o []) e) marks in
        cc
    go (Some g) marks graphs =
        let here : slice_get (marked_edges_at (marked_of unit) f) e ≡ slice_get (flow_of g).edges e = ap (λ (o : Option (List MarkedEdge)). slice_get (option_map_or (λ edges. edges) o []) e) marks in
        let at : slice_get (flow_of g).edges e ≡ Some d = sym here ∙ q in
        ap (λ (o : Option FuncGraph). option_and_then (λ func. slice_get func.edges e) o) graphs
        ∙ slice_get-map (λ (m : MarkedEdge). m.edge) (flow_of g).edges e
        ∙ ap (option_map (λ (m : MarkedEdge). m.edge)) at

-- the configuration where a thread's topmost frame is at a moment
at_moment : Config Graph.Frame → ℕ → Graph.Frame → List Graph.Frame → Moment → Config Graph.Frame
at_moment c t frame below m = record c { threads = with_thread c.threads t (record frame { node = m.node; slots = m.slots } ∷ below) }

one_move : (unit : TranslationUnit) (c : Config Graph.Frame) (t : ℕ) (frame : Graph.Frame) (below : List Graph.Frame) (e : ℕ) (next : Moment) → thread_at c.threads t ≡ Some (frame ∷ below)
    → Found (Graph.func_slots (program_of unit) frame.func) (marked_edges_at (marked_of unit) frame.func) (record { node = frame.node; slots = frame.slots }) e next
    → after_label (program_of unit) c t (pos 0) (Do e) ≡ Some (at_moment c t frame below next)
unfolding at_moment
one_move unit c t frame below e next at f =
    let s : Site = record { program = program_of unit; config = c; thread = t; input = pos 0; frame = frame; below = below } in
    ap (option_and_then (thread_after (program_of unit) c t (pos 0) (Do e))) at
    ∙ ap (option_and_then (after_edge s)) (edges_match unit frame.func e f.edge f.there)
    ∙ edge_done s f.edge.edge next.slots f.leaves f.done
    ∙ ap (λ n. Some (record c { threads = with_thread c.threads t (record frame { node = n; slots = next.slots } ∷ below) })) (sym f.leads)

-- ---- all of them

settles : (unit : TranslationUnit) (k : ℕ) (c : Config Graph.Frame) (t : ℕ) (frame : Graph.Frame) (below : List Graph.Frame) → thread_at c.threads t ≡ Some (frame ∷ below)
    → after_moves (program_of unit) (moves_by t (pos 0) (map Do (settled_within k (Graph.func_slots (program_of unit) frame.func) (marked_edges_at (marked_of unit) frame.func) (record { node = frame.node; slots = frame.slots })).0)) c
    ≡ Some (at_moment c t frame below (settled_within k (Graph.func_slots (program_of unit) frame.func) (marked_edges_at (marked_of unit) frame.func) (record { node = frame.node; slots = frame.slots })).1)
unfolding at_moment
settles unit zero c t frame below at = ap (λ threads. Some (record c { threads = threads })) (sym (thread_same c.threads t (frame ∷ below) at))
settles unit (suc k) c t frame below at = go (silent_from slots edges 0 here) refl (λ next. settles unit k (record c { threads = with_thread c.threads t (record frame { node = next.node; slots = next.slots } ∷ below) }) t (record frame { node = next.node; slots = next.slots }) below (thread_set c.threads t (record frame { node = next.node; slots = next.slots } ∷ below) (frame ∷ below) at))
  where
    slots : List Slot
    slots = Graph.func_slots (program_of unit) frame.func

    edges : List MarkedEdge
    edges = marked_edges_at (marked_of unit) frame.func

    here : Moment
    here = record { node = frame.node; slots = frame.slots }

    moved : Moment → Config Graph.Frame
    moved next = record c { threads = with_thread c.threads t (record frame { node = next.node; slots = next.slots } ∷ below) }

    go : (o : Option (ℕ × Moment)) → silent_from (Graph.func_slots (program_of unit) frame.func) (marked_edges_at (marked_of unit) frame.func) 0 (record { node = frame.node; slots = frame.slots }) ≡ o
        → ((next : Moment) → after_moves (program_of unit) (moves_by t (pos 0) (map Do (settled_within k (Graph.func_slots (program_of unit) frame.func) (marked_edges_at (marked_of unit) frame.func) next).0)) (record c { threads = with_thread c.threads t (record frame { node = next.node; slots = next.slots } ∷ below) })
        ≡ Some (record c { threads = with_thread (with_thread c.threads t (record frame { node = next.node; slots = next.slots } ∷ below)) t (record frame { node = (settled_within k (Graph.func_slots (program_of unit) frame.func) (marked_edges_at (marked_of unit) frame.func) next).1.node; slots = (settled_within k (Graph.func_slots (program_of unit) frame.func) (marked_edges_at (marked_of unit) frame.func) next).1.slots } ∷ below) }))
        → after_moves (program_of unit) (moves_by t (pos 0) (map Do (settled_or (record { node = frame.node; slots = frame.slots }) (settled_within k (Graph.func_slots (program_of unit) frame.func) (marked_edges_at (marked_of unit) frame.func)) o).0)) c
        ≡ Some (record c { threads = with_thread c.threads t (record frame { node = (settled_or (record { node = frame.node; slots = frame.slots }) (settled_within k (Graph.func_slots (program_of unit) frame.func) (marked_edges_at (marked_of unit) frame.func)) o).1.node; slots = (settled_or (record { node = frame.node; slots = frame.slots }) (settled_within k (Graph.func_slots (program_of unit) frame.func) (marked_edges_at (marked_of unit) frame.func)) o).1.slots } ∷ below) })
    go None q rest = ap (λ threads. Some (record c { threads = threads })) (sym (thread_same c.threads t (frame ∷ below) at))
    go (Some found_next) q rest =
        let next = found_next.1 in
        let ms = moves_by t (pos 0) (map Do (settled_within k (Graph.func_slots (program_of unit) frame.func) (marked_edges_at (marked_of unit) frame.func) next).0) in
        ap (option_and_then (after_moves (program_of unit) ms)) (one_move unit c t frame below found_next.0 next at (found (Graph.func_slots (program_of unit) frame.func) [] (marked_edges_at (marked_of unit) frame.func) (record { node = frame.node; slots = frame.slots }) 0 found_next.0 next refl q))
        ∙ rest next
        ∙ ap (λ threads. Some (record c { threads = threads })) (thread_twice c.threads t (record frame { node = next.node; slots = next.slots } ∷ below) _)

pub silent_edges_are_moves : SilentEdgesAreMoves
unfolding at_moment
silent_edges_are_moves unit w t frame below at =
    let m = marked_of unit in
    let labels = map Do (settled_frame m frame).0 in
    ap (λ (o : Option (List Graph.Frame)). walk_on m.program t (pos 0) (silent_labels m (option_map_or (λ frames. frames) o [])) w) at
    ∙ ap (option_map (λ c. record { moves = w.moves ++ moves_by t (pos 0) labels; config = c })) (settles unit (length (marked_edges_at m frame.func)) w.config t frame below at)
