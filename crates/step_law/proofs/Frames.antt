-- Frames that are together.
use Rattle.std.proofs.Common.{◌≡◌, ◌⊎◌, inl, inr, ◌∙◌, refl, sym, ap, subst, ℕ, ◌≤◌, ℤ, pos, true, false, List, [], ◌∷◌, length, map, take, Option, None, Some, Result, Ok, Err, arith}
use Rattle.std.specs.Prelude.{slice_get, slice_set}
use Rattle.std.specs.Option.{option_map, option_map_or}
use Rattle.std.proofs.lemmas.Option.{slice_get-map}
use Rattle.gob_tree.specs.WellMade.{IsWellMade}
use Rattle.gob_tree.specs.declared.unit.Function.{Function}
use Rattle.gob_tree.specs.declared.unit.Slot.{Slot}
use Rattle.gob_tree.specs.declared.unit.Unit.{Unit as TranslationUnit}
use Rattle.gob_tree.specs.declared.graph.Action.{Action}
use Rattle.gob_tree.specs.declared.graph.Action.TheVariants.{Skip}
use Rattle.gob_tree.specs.declared.graph.FuncGraph.{FuncGraph}
use Rattle.c_meaning.specs.declared.config.Todo.{Todo}
use Rattle.c_meaning.specs.declared.demand.Demand.{Demand}
use Rattle.c_meaning.specs.Config.{first_values}
use Rattle.c_meaning.specs.Demand.{demands_of, value_at}
use Rattle.c_meaning.specs.Graph.{MarkedEdge, flow_of, graph_of, graph_slots, marked_of, program_of, temporary}
use Rattle.c_meaning.specs.GraphStep as Graph
use Rattle.c_meaning.specs.Tree as Tree
use Rattle.c_meaning.specs.Tree.{front_demand, front_exprs, statements, unrolling, with_input}
use Rattle.c_meaning.specs.Walk.{Moment, input_slot, marked_edges_at, moment_along, moment_with_input, settled_from}
use Rattle.graph_law.specs.Laying.{HasEdge}
use Rattle.graph_law.specs.Lying.{Lies}
use Rattle.graph_law.specs.Settling.{settled_frame}
use Rattle.graph_law.proofs.Entering.{entry_edge, first_cut, first_room}
use Rattle.graph_law.proofs.Keeping.{settling_keeps_named, take_set}
use Rattle.graph_law.proofs.Lying.{bodies_lie, unrolling_lies}
use Rattle.graph_law.proofs.Starting.{body_there, graph_there, tree_is}
use Rattle.hoist_law.proofs.Leaving.{inputs_are_taken, silent_edges_are_done}
use Rattle.hoist_law.proofs.Ways.{along_after, settles_after}
use Rattle.stand_law.proofs.Standing.{input_more}
use Rattle.move_law.specs.Choosing.{settled_top}
use Rattle.piece_law.proofs.Plain.{unrolled_fronts_stay}
use Rattle.step_law.specs.Together.{FrameTogether}

-- ---- the slots of a function, and where a frame of it settles

pub graph_widths : (unit : TranslationUnit) (f : Function) (k : ℕ) → slice_get unit.funcs k ≡ Some f → Graph.func_slots (program_of unit) k ≡ graph_slots f
graph_widths unit f k at = ap (λ (o : Option FuncGraph). option_map_or (λ (x : FuncGraph). x.slots) o []) (graph_there unit k f at)

pub tree_widths : (unit : TranslationUnit) (f : Function) (k : ℕ) → slice_get unit.funcs k ≡ Some f → Tree.func_slots unit k ≡ f.slots
tree_widths unit f k at = ap (λ (o : Option Function). option_map_or (λ (x : Function). x.slots) o []) at

pub settles_as : (unit : TranslationUnit) (f : Function) (g : Graph.Frame) → slice_get unit.funcs g.func ≡ Some f
    → (settled_frame (marked_of unit) g).1 ≡ (settled_from (graph_slots f) (flow_of f).edges (record { node = g.node; slots = g.slots })).1
settles_as unit f g at =
    let here : Moment = record { node = g.node; slots = g.slots } in
    let edges : marked_edges_at (marked_of unit) g.func ≡ (flow_of f).edges =
    ap (λ (o : Option (List MarkedEdge)). option_map_or (λ es. es) o []) (slice_get-map (λ (x : Function). (flow_of x).edges) unit.funcs g.func ∙ ap (option_map (λ (x : Function). (flow_of x).edges)) at) in
    ap (λ (ls : List Slot). (settled_from ls (marked_edges_at (marked_of unit) g.func) here).1) (graph_widths unit f g.func at)
    ∙ ap (λ (es : List MarkedEdge). (settled_from (graph_slots f) es here).1) edges

-- the moment along inputs is the same from where a silent skip leads
settled_same : (f : Function) (n h : ℕ) (values : List ℤ) → (h ≡ n) ⊎ HasEdge f true n Skip h
    → (settled_from (graph_slots f) (flow_of f).edges (record { node = n; slots = values })).1 ≡ (settled_from (graph_slots f) (flow_of f).edges (record { node = h; slots = values })).1
settled_same f n h values (inl same) = ap (λ (k : ℕ). (settled_from (graph_slots f) (flow_of f).edges (record { node = k; slots = values })).1) (sym same)
settled_same f n h values (inr skip) =
    let done = silent_edges_are_done f Skip h (record { node = n; slots = values }) values skip refl in
    settles_after f (record { node = n; slots = values }) (record { node = h; slots = values }) done.0 done.1

pub along_from : (f : Function) (n h : ℕ) (values ins : List ℤ) → (h ≡ n) ⊎ HasEdge f true n Skip h
    → moment_along (graph_slots f) (flow_of f).edges ins (record { node = n; slots = values }) ≡ moment_along (graph_slots f) (flow_of f).edges ins (record { node = h; slots = values })
along_from f n h values ins either = along_after f ins (record { node = n; slots = values }) (record { node = h; slots = values }) (settled_same f n h values either)

-- ---- a frame whose front is done

-- it goes on at a node where what is to do now lies
pub frame_goes : (unit : TranslationUnit) (f : Function) (k : ℕ) (next : List Todo) (to : ℕ) (named : List ℤ) (vars : List (Option ℕ)) (g : Graph.Frame)
    → slice_get unit.funcs k ≡ Some f → k ≡ g.func → vars ≡ g.vars → g.node ≡ to → Lies f next to → 2 ≤ to → length g.slots ≡ length (graph_slots f) → take (length f.slots) g.slots ≡ named → value_at named 0 ≡ pos 0
    → FrameTogether unit f (record { func = k; todo = unrolling next; slots = named; vars = vars; ins = [] }) (settled_top unit g)
frame_goes unit f k next to named vars g there same same_vars node lies inside room is_named unset =
    let settled = settles_as unit f g (ap (slice_get unit.funcs) (sym same) ∙ there) in
    record {
      there = there;
      func = same;
      vars = same_vars;
      begin = to;
      values = g.slots;
      lies = unrolling_lies f next to lies;
      inside = inside;
      front = unrolled_fronts_stay next;
      room = room;
      named = is_named;
      along = ap (λ (n : ℕ). Some (settled_from (graph_slots f) (flow_of f).edges (record { node = n; slots = g.slots })).1) (sym node) ∙ ap (λ (m : Moment). Some m) (sym settled);
      kept = ap (λ (m : Moment). take (length f.slots) m.slots) settled ∙ settling_keeps_named f (record { node = g.node; slots = g.slots }) ∙ is_named;
      idle = λ none. refl;
      unset = unset;
    }

-- ---- a frame that gets an input

err_not_ok : {A : Type 0} (d : Demand) (v : A) → ◌≡◌ {A = Result A Demand} (Ok v) (Err d) → ⊥
err_not_ok d v is = cc

pub frame_gets : (unit : TranslationUnit) (f : Function) (t : Tree.Frame) (g new : Graph.Frame) (act : Action) (to x : ℕ) (n : ℤ) (missing : Demand) → FrameTogether unit f t g → front_demand unit t ≡ Err missing
    → HasEdge f false g.node act to → input_slot act ≡ Some x → length f.slots ≤ x → new.func ≡ g.func → new.vars ≡ g.vars → new.node ≡ to → new.slots ≡ slice_set g.slots x n
    → FrameTogether unit f (with_input t n) (settled_top unit new)
frame_gets unit f t g new act to x n missing frame demand edge slot behind same_func same_vars same_node same_slots =
    let edges = (flow_of f).edges in
    let here : Moment = record { node = g.node; slots = g.slots } in
    let next : Moment = record { node = to; slots = slice_set g.slots x n } in
    let took = inputs_are_taken f act to x here edge slot in
    let taken : moment_with_input edges n here ≡ Some next = ap (option_map (λ (p : ℕ × ℕ). record { node = p.1; slots = slice_set g.slots p.0 n })) took.1 in
    let at : slice_get unit.funcs new.func ≡ Some f = ap (slice_get unit.funcs) (same_func ∙ sym frame.func) ∙ frame.there in
    let moved : record { node = new.node; slots = new.slots } ≡ next = ap (λ (k : ℕ). record { node = k; slots = new.slots }) same_node ∙ ap (λ (vs : List ℤ). record { node = to; slots = vs }) same_slots in
    let settled : (settled_frame (marked_of unit) new).1 ≡ (settled_from (graph_slots f) edges next).1 = settles_as unit f new at ∙ ap (λ (m : Moment). (settled_from (graph_slots f) edges m).1) moved in
    record {
      there = frame.there;
      func = frame.func ∙ sym same_func;
      vars = frame.vars ∙ sym same_vars;
      begin = frame.begin;
      values = frame.values;
      lies = frame.lies;
      inside = frame.inside;
      front = frame.front;
      room = frame.room;
      named = frame.named;
      along = input_more (graph_slots f) edges t.ins (record { node = frame.begin; slots = frame.values }) here next n frame.along taken ∙ ap (λ (m : Moment). Some m) (sym settled);
      kept = ap (λ (m : Moment). take (length f.slots) m.slots) settled ∙ settling_keeps_named f next ∙ take_set (length f.slots) g.slots x n behind ∙ frame.kept;
      idle = λ none. absurd (err_not_ok missing [] (sym (ap (λ es. (demands_of es (Tree.func_slots unit t.func) t.slots t.ins).0) none) ∙ demand));
      unset = frame.unset;
    }

-- ---- a caller that waits

pub still_waits : (unit : TranslationUnit) (f : Function) (t : Tree.Frame) (g : Graph.Frame) (waits : Option ℕ) → FrameTogether unit f t g → FrameTogether unit f t (record g { waits = waits })
still_waits unit f t g waits frame = record {
  there = frame.there;
  func = frame.func;
  vars = frame.vars;
  begin = frame.begin;
  values = frame.values;
  lies = frame.lies;
  inside = frame.inside;
  front = frame.front;
  room = frame.room;
  named = frame.named;
  along = frame.along;
  kept = frame.kept;
  idle = frame.idle;
  unset = frame.unset;
}

-- ---- a new frame

first_unset : (slots : List Slot) (args : List ℤ) → value_at (first_values slots args) 0 ≡ pos 0
first_unset [] args = refl
first_unset (s ∷ slots) args = refl

entered_together : (unit : TranslationUnit) (made : IsWellMade unit) (k : ℕ) (f : Function) (args : List ℤ) → slice_get unit.funcs k ≡ Some f → FrameTogether unit f (Tree.frame_of k f args) (settled_top unit (Graph.frame_of k args (graph_of f)))
entered_together unit made k f args at =
    let body = body_there unit k f made at in
    let g = Graph.frame_of k args (graph_of f) in
    let first = first_values (graph_slots f) args in
    let settled = settles_as unit f g at in
    let named = first_cut f.slots (map temporary (flow_of f).temps) args in
    record {
      there = at;
      func = refl;
      vars = refl;
      begin = 2;
      values = first;
      lies = bodies_lie f body.0 body.1 body.2;
      inside = omega arith;
      front = unrolled_fronts_stay (statements f.body);
      room = first_room (graph_slots f) args;
      named = named;
      along = ap (λ (m : Moment). Some m) (sym (settled_same f 0 2 first (inr (entry_edge f))) ∙ sym settled);
      kept = ap (λ (m : Moment). take (length f.slots) m.slots) settled ∙ settling_keeps_named f (record { node = 0; slots = first }) ∙ named;
      idle = λ none. refl;
      unset = first_unset f.slots args;
    }

pub new_together : (unit : TranslationUnit) (made : IsWellMade unit) (k : ℕ) (f : Function) (args : List ℤ) → slice_get unit.funcs k ≡ Some f
    → FrameTogether unit f (Tree.new_frame unit k args) (settled_top unit (Graph.new_frame (program_of unit) k args))
new_together unit made k f args at =
    subst (λ (x : Tree.Frame). FrameTogether unit f x (settled_top unit (Graph.new_frame (program_of unit) k args))) (sym (tree_is unit k f args at))
    (subst (λ (x : Graph.Frame). FrameTogether unit f (Tree.frame_of k f args) (settled_top unit x)) (sym (ap (Graph.new_frame_or k args) (graph_there unit k f at)))
    (entered_together unit made k f args at))

pub new_func : (unit : TranslationUnit) (k : ℕ) (args : List ℤ) → (Tree.new_frame unit k args).func ≡ k
new_func unit k args = go (slice_get unit.funcs k)
  where
    go : (o : Option Function) → (Tree.new_frame_or k args o).func ≡ k
    go None = refl
    go (Some f) = refl

pub new_waits : (unit : TranslationUnit) (k : ℕ) (args : List ℤ) → (Graph.new_frame (program_of unit) k args).waits ≡ None
new_waits unit k args = go (slice_get (program_of unit).funcs k)
  where
    go : (o : Option FuncGraph) → (Graph.new_frame_or k args o).waits ≡ None
    go None = refl
    go (Some g) = refl
