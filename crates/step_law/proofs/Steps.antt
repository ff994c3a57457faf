-- What a thread's step does in trees, its choice does in graphs.
use Rattle.std.proofs.Common.{◌≡◌, ◌≢◌, ◌⊎◌, inl, inr, ◌∙◌, refl, sym, ap, subst, ℕ, ◌+◌, ◌<◌, ◌≤◌, ℤ, pos, Bool, true, false, List, [], ◌∷◌, length, map, take, Option, None, Some, Result, Ok, Err, IsTrue, arith, true≢false, length-append}
use Rattle.std.specs.Prelude.{if◌then◌else◌, not, nat_lt, slice_get, slice_index_or, slice_set, All, IsSomeAnd}
use Rattle.std.specs.List.{list_all}
use Rattle.std.specs.Option.{option_map, option_map_or}
use Rattle.std.proofs.lemmas.Bool.{ltb-true}
use Rattle.std.proofs.lemmas.List.{length-set}
use Rattle.std.proofs.lemmas.List.Elements.{All-from_recursion}
use Rattle.std.proofs.lemmas.Option.{slice_get-map}
use Rattle.gob_tree.specs.WellMade.{IsWellMade, IsWellMadeFunction, form_of, heads_for_step, is_called, is_function, is_int, is_local, is_made_expr, is_thread}
use Rattle.gob_tree.specs.Widths.{returned_width}
use Rattle.gob_tree.specs.declared.expr.Expr.{Expr}
use Rattle.gob_tree.specs.declared.expr.Width.{Width}
use Rattle.gob_tree.specs.declared.graph.Action.{Action}
use Rattle.gob_tree.specs.declared.graph.Action.TheVariants as actions
use Rattle.gob_tree.specs.declared.graph.Edge.{Edge}
use Rattle.gob_tree.specs.declared.graph.FuncGraph.{FuncGraph}
use Rattle.gob_tree.specs.declared.stmt.Target.{Target}
use Rattle.gob_tree.specs.declared.stmt.Stmt.{Stmt, While, For}
use Rattle.gob_tree.specs.declared.stmt.Stmt.TheOpen.{Stmt-F}
use Rattle.gob_tree.specs.declared.stmt.Stmt.TheVariants.{outs-For, rolls-If, rolls-While}
use Rattle.gob_tree.specs.declared.stmt.Placed.{Placed}
use Rattle.gob_tree.specs.declared.unit.Function.{Function}
use Rattle.gob_tree.specs.declared.unit.Slot.{Slot}
use Rattle.gob_tree.specs.declared.unit.Unit.{Unit as TranslationUnit}
use Rattle.c_meaning.specs.declared.config.Todo.{Todo}
use Rattle.c_meaning.specs.declared.config.Todo.TheVariants.{Stmt as Doing, Test, Last}
use Rattle.c_meaning.specs.declared.demand.Demand.{Demand}
use Rattle.c_meaning.specs.declared.demand.Demand.TheVariants.{Global, Nondet, Call, Fault}
use Rattle.c_meaning.specs.Config.{Config, Effect, Keeps, SetsGlobal, SetsOwner, Starts, after_effect, global_at, global_width, next_thread, owner_after_lock, owner_after_unlock, owner_at, thread_at}
use Rattle.c_meaning.specs.Demand.{conversion, demands_of, is_zero, slot_width, value_at, value_of, values_of, with_slot}
use Rattle.c_meaning.specs.Graph.{FlowGraph, MarkedEdge, flow_of, graph_of, graph_slots, hoisted_expr, hoisted_exprs, lower_step, lowering_of, lowering_step, next_node, program_of, temporary, with_edge}
use Rattle.c_meaning.specs.Graph as G
use Rattle.c_meaning.specs.GraphStep as Graph
use Rattle.c_meaning.specs.GraphStep.{action_effect, join_effect, owner_effect, same_truth, slots_effect, with_result, with_value, local_slots}
use Rattle.c_meaning.specs.Tree as Tree
use Rattle.c_meaning.specs.Tree.{FrameStep, Goes, Waits, Fails, after_break, after_continue, after_branch, after_test, caller_after, exprs_of, frame_after, frame_step, frames_after_return, front_demand, front_exprs, front_step, is_over, join_step, last_exprs, last_step, layer_of, new_frame, only, owner_step, pass_step, rest_of, resumed_caller, return_value, stmt_exprs, stmt_step, todo_step, turn_of, unrolling, with_input}
use Rattle.c_meaning.specs.Walk.{Moment, Walked, input_slot, moment_along, settled_from, silent_from}
use Rattle.graph_law.specs.Forming.{HasWidths}
use Rattle.graph_law.specs.Laying.{HasEdge, IsLastPart, last_of}
use Rattle.graph_law.specs.Lying.{Lies, at}
use Rattle.graph_law.proofs.Decoding.{all_get, all_true, all_from_each, both_true, called_there, graphs_there, returns_the_same, width_more}
use Rattle.graph_law.proofs.Entering.{lies_nothing}
use Rattle.graph_law.proofs.Extending.{extends_edge}
use Rattle.graph_law.proofs.Forming.{widths_are_declared}
use Rattle.graph_law.proofs.Statements.{nothing_leaves_exit}
use Rattle.graph_law.proofs.Widening.{grew_edge}
use Rattle.hoist_law.specs.Hoisting.{IsFetch, WaitsFor, Within}
use Rattle.hoist_law.proofs.Fetching.{last_edge, within_before}
use Rattle.hoist_law.proofs.Leaving.{DoneOf, done_by, get_contained}
use Rattle.hoist_law.proofs.Ways.{rested}
use Rattle.move_law.specs.Choosing.{Chosen, IsAt, StartsNone, settled_top, site_of}
use Rattle.move_law.proofs.Resting.{calls_are_entered, edges_are_done, returns_are_made, stays_inside, threads_are_started}
use Rattle.piece_law.specs.Pieces.{FrontStays, stays_step}
use Rattle.piece_law.proofs.Ahead.{Ahead, Branches, ahead_last, ahead_stmt, if_branches, tests_tried, while_branches}
use Rattle.piece_law.proofs.Forms.{formed, forms_in, lowered, lowerings_in, shaped}
use Rattle.piece_law.proofs.Making.{made_as, no_return}
use Rattle.step_law.specs.Together.{CallerWaits, FrameTogether, FramesBelow, GoesOn, ThreadTogether, Together}
use Rattle.step_law.proofs.Arriving.{Arrived, Evaluates, HasIt, HasThem, Nothing, all_evaluate, arrived, awaited, none_evaluates, one_evaluates}
use Rattle.step_law.proofs.Frames.{along_from, frame_gets, frame_goes, graph_widths, new_func, new_together, new_waits, settles_as, still_waits, tree_widths}
use Rattle.step_law.proofs.Threads.{EffectTogether, keeps, over_together, same_many, sets_global, sets_owner, starts, thread_found}
use Rattle.step_law.proofs.Values.{conversion_same, conversion_twice, conversion_zero, global_fits, set_behind, set_first, take_set_in, value_first}

-- a frame at the exit stays there
exit_rests : (f : Function) (slots : List ℤ) → (settled_from (graph_slots f) (flow_of f).edges (record { node = 1; slots = slots })).1 ≡ record { node = 1; slots = slots }
exit_rests f slots =
    let m : Moment = record { node = 1; slots = slots } in
    rested (graph_slots f) (flow_of f).edges (length (flow_of f).edges) m
    (subst (λ (ds : List MarkedEdge). DoneOf (graph_slots f) m ds (silent_from (graph_slots f) (flow_of f).edges 0 m)) (nothing_leaves_exit f) (done_by (graph_slots f) (flow_of f).edges 0 m))

-- the first part and the last part of a `for` don't unroll
heads_stay : (unit : TranslationUnit) (f : Function) (l : Stmt-F Stmt Placed) → heads_for_step (forms_in unit f l) ≡ true → stays_step l ≡ true
heads_stay unit f (Stmt-F.DoWhile body e) heads = absurd (true≢false (sym heads))
heads_stay unit f (Stmt-F.For first test None body) heads = absurd (true≢false (sym heads))
heads_stay unit f (Stmt-F.For first test (Some last) body) heads = absurd (true≢false (sym heads))
heads_stay unit f (Stmt-F.Block []) heads = absurd (true≢false (sym heads))
heads_stay unit f (Stmt-F.Block (s ∷ ss)) heads = absurd (true≢false (sym heads))
heads_stay unit f (Stmt-F.If e a None) heads = absurd (true≢false (sym heads))
heads_stay unit f (Stmt-F.If e a (Some b)) heads = absurd (true≢false (sym heads))
heads_stay unit f other heads = refl

module _ (unit : TranslationUnit) (made : IsWellMade unit) (c : Config Tree.Frame) (w : Walked) (t : ℕ) (input : ℤ) (both : Together unit c w.config)
    (tf : Tree.Frame) (ts : List Tree.Frame) (g : Graph.Frame) (gs : List Graph.Frame) (f : Function)
    (frame : FrameTogether unit f tf g) (free : g.waits ≡ None) (below : FramesBelow unit tf.func ts gs) (graph_at : thread_at w.config.threads t ≡ Some (g ∷ gs)) where
  abbrev site : Tree.Site
  site = record { unit = unit; config = c; thread = t; input = input; frame = tf; below = ts }

  abbrev graph_site : Graph.Site
  graph_site = site_of unit w t input g gs

  abbrev N : ℕ
  N = length f.slots

  well : IsWellMadeFunction unit f
  well = all_get (IsWellMadeFunction unit) unit.funcs tf.func f made.functions frame.there

  some_slots : 0 < length f.slots
  some_slots = let p = well.returned_and_params in omega (arith, p)

  graph_func : slice_get unit.funcs g.func ≡ Some f
  graph_func = ap (slice_get unit.funcs) (sym frame.func) ∙ frame.there

  here : IsAt unit w t g gs f
  here = record { frames = graph_at; func = graph_func }

  widths : Graph.func_slots (program_of unit) g.func ≡ graph_slots f
  widths = graph_widths unit f g.func graph_func

  widths_of_tree : Tree.func_slots unit tf.func ≡ f.slots
  widths_of_tree = tree_widths unit f tf.func frame.there

  some_room : length g.slots ≡ length (graph_slots f) → 0 < length g.slots
  some_room room = let n = some_slots in let more = length-append f.slots (map temporary (flow_of f).temps) in omega (arith, room, n, more)

  same_width : (x : ℕ) → x < N → slot_width (graph_slots f) x ≡ slot_width (Tree.func_slots unit tf.func) x
  same_width x within = width_more f.slots (map temporary (flow_of f).temps) x within ∙ ap (λ (ss : List Slot). slot_width ss x) (sym widths_of_tree)

  -- ---- answers

  -- The graphs make the choice, and the thread is together again, with the same effect.
  pub record Answered (frames : List Tree.Frame) (effect : Effect Tree.Frame) : Type 0 where
    pub graph : List Graph.Frame
    pub other : Effect Graph.Frame
    pub chosen : Chosen unit w t input (after_effect w.config t graph other)
    pub thread : ThreadTogether unit frames graph
    pub effects : EffectTogether unit effect other

  abbrev pub StepAnswered : FrameStep → Type 0
  StepAnswered (Goes frames effect) = Answered frames effect
  StepAnswered Waits = Unit {0}
  StepAnswered Fails = Unit {0}

  done_with : (act : Action) (acted : Graph.Acted) → action_effect graph_site (graph_slots f) act ≡ Some acted → action_effect graph_site (Graph.func_slots (program_of unit) g.func) act ≡ Some acted
  done_with act acted done = ap (λ (ss : List Slot). action_effect graph_site ss act) widths ∙ done

  -- an edge is done, and what is to do now lies at its end
  passes : (next : List Todo) (to : ℕ) (act : Action) (slots named : List ℤ) (effect : Effect Tree.Frame) (other : Effect Graph.Frame)
      → HasEdge f false g.node act to → action_effect graph_site (graph_slots f) act ≡ Some (record g { slots = slots }, other) → StartsNone other → EffectTogether unit effect other
      → Lies f next to → 2 ≤ to → length slots ≡ length (graph_slots f) → take N slots ≡ named → value_at named 0 ≡ pos 0
      → Answered (record { func = tf.func; todo = unrolling next; slots = named; vars = tf.vars; ins = [] } ∷ ts) effect
  passes next to act slots named effect other edge done none effects lies inside room is_named unset =
      let top : Graph.Frame = record g { node = to; slots = slots } in
      record {
        graph = settled_top unit top ∷ gs;
        other = other;
        chosen = edges_are_done unit w t input g gs f act to (record g { slots = slots }, other) here edge (done_with act (record g { slots = slots }, other) done) none
            (stays_inside top gs (λ q. absurd (omega (arith, q, inside))));
        thread = (f, frame_goes unit f tf.func next to named tf.vars top frame.there frame.func frame.vars refl lies inside room is_named unset, free, below);
        effects = effects;
      }

  -- an input is taken
  gets : (act : Action) (to x : ℕ) (n : ℤ) (slots : List ℤ) (missing : Demand) → HasEdge f false g.node act to → input_slot act ≡ Some x → IsFetch f x to
      → action_effect graph_site (graph_slots f) act ≡ Some (record g { slots = slots }, Keeps) → slots ≡ slice_set g.slots x n → front_demand unit tf ≡ Err missing
      → Answered (with_input tf n ∷ ts) Keeps
  gets act to x n slots missing edge slot fetch done same demand =
      let top : Graph.Frame = record g { node = to; slots = slots } in
      let inside = fetch.1 in
      record {
        graph = settled_top unit top ∷ gs;
        other = Keeps;
        chosen = edges_are_done unit w t input g gs f act to (record g { slots = slots }, Keeps) here edge (done_with act (record g { slots = slots }, Keeps) done) tt
            (stays_inside top gs (λ q. absurd (omega (arith, q, inside))));
        thread = (f, frame_gets unit f tf g top act to x n missing frame demand edge slot fetch.0 refl refl refl same, free, below);
        effects = keeps;
      }

  -- a call is entered
  enters : (d : Option ℕ) (callee : ℕ) (args : List Expr) (to : ℕ) (ns : List ℤ) (called : Function) → slice_get unit.funcs callee ≡ Some called → HasEdge f false g.node (actions.Call d callee args) to
      → values_of args (graph_slots f) g.slots ≡ Ok ns → ((waits : Option ℕ) → GoesOn unit f tf (record g { waits = waits }) callee to d) → Answered (new_frame unit callee ns ∷ tf ∷ ts) Keeps
  enters d callee args to ns called there edge have goes_on =
      let entered = calls_are_entered unit w t input g gs f d callee args to ns here edge (ap (λ (ss : List Slot). values_of args ss g.slots) widths ∙ have) in
      let waiting : Graph.Frame = record g { waits = Some entered.0 } in
      let caller : CallerWaits unit f tf waiting callee = record {
        place = entered.0;
        waits = refl;
        destination = d;
        args = args;
        to = to;
        call = entered.1;
        edge = edge;
        goes_on = goes_on (Some entered.0);
      } in
      record {
        graph = settled_top unit (Graph.new_frame (program_of unit) callee ns) ∷ waiting ∷ gs;
        other = Keeps;
        chosen = entered.2;
        thread = (
          called,
          new_together unit made callee called ns there,
          new_waits unit callee ns,
          subst (λ (k : ℕ). FramesBelow unit k (tf ∷ ts) (waiting ∷ gs)) (sym (new_func unit callee ns)) (f, still_waits unit f tf g (Some entered.0) frame, caller, below),
        );
        effects = keeps;
      }

  -- ---- missing inputs

  demand_as : (es : List Expr) → front_exprs tf.todo ≡ es → front_demand unit tf ≡ (demands_of es f.slots (take N frame.values) tf.ins).0
  demand_as es exprs =
      ap (λ (xs : List Expr). (demands_of xs (Tree.func_slots unit tf.func) tf.slots tf.ins).0) exprs
      ∙ ap (λ (ss : List Slot). (demands_of es ss tf.slots tf.ins).0) widths_of_tree
      ∙ ap (λ (vs : List ℤ). (demands_of es f.slots vs tf.ins).0) (sym frame.named)

  -- what the front does with its values, and what it waits for
  pub record Ways (step : List ℤ → FrameStep) : Type 0 where
    pub waiting : (missing : Demand) → front_demand unit tf ≡ Err missing → missing ≢ Fault → WaitsFor f missing g.node g.slots
    pub done : (values : List ℤ) → front_demand unit tf ≡ Ok values → StepAnswered (step values)

  abbrev AlongFrom : ℕ → Type 0
  AlongFrom n = moment_along (graph_slots f) (flow_of f).edges tf.ins (record { node = n; slots = frame.values }) ≡ Some (record { node = g.node; slots = g.slots })

  none_over : (es : List Expr) → front_exprs tf.todo ≡ es → (act : Action) → (input_slot act ≡ None) ⊎ (es ≡ []) → (input_slot act ≡ None) ⊎ ((demands_of es f.slots (take N frame.values) tf.ins).1 ≡ [])
  none_over es exprs act (inl none) = inl none
  none_over es exprs act (inr none) = inr (ap (λ (xs : List Expr). (demands_of xs f.slots (take N frame.values) tf.ins).1) none ∙ frame.idle (exprs ∙ none))

  ways_by : (es : List Expr) (n end : ℕ) (Holds : List ℤ → List ℤ → Type 0) (act : Action) (to : ℕ) → Evaluates f es n end Holds → front_exprs tf.todo ≡ es → AlongFrom n → HasEdge f false end act to
      → (input_slot act ≡ None) ⊎ (es ≡ []) → (step : List ℤ → FrameStep) → ((values : List ℤ) → front_demand unit tf ≡ Ok values → Arrived f frame.values end g.node g.slots (Holds values) → StepAnswered (step values)) → Ways step
  ways_by es n end Holds act to evaluates exprs along edge none step goes =
      let r = (demands_of es f.slots (take N frame.values) tf.ins).0 in
      let left = (demands_of es f.slots (take N frame.values) tf.ins).1 in
      record {
        waiting = λ missing demand no_fault. awaited f n frame.values tf.ins end Holds r left missing g.node g.slots (evaluates frame.values tf.ins frame.room) (sym (demand_as es exprs) ∙ demand) no_fault along;
        done = λ values demand. goes values demand
            (arrived f n frame.values tf.ins end Holds r left values g.node g.slots act to (evaluates frame.values tf.ins frame.room) (sym (demand_as es exprs) ∙ demand) along edge (none_over es exprs act none));
      }

  edge_width : (act : Action) (n to : ℕ) → HasEdge f false n act to → HasWidths (program_of unit) (graph_of f) act
  edge_width act n to edge =
      let d : MarkedEdge = record { edge = record { from = n; act = act; to = to }; silent = false } in
      let in_function = all_get (λ (x : Function). All (λ (e : Edge). HasWidths (program_of unit) (graph_of x) e.act) (graph_of x).edges) unit.funcs tf.func f (widths_are_declared unit made) frame.there in
      all_get (λ (e : Edge). HasWidths (program_of unit) (graph_of f) e.act) (graph_of f).edges edge.0 d.edge in_function
      (slice_get-map (λ (m : MarkedEdge). m.edge) (flow_of f).edges edge.0 ∙ ap (option_map (λ (m : MarkedEdge). m.edge)) (get_contained (flow_of f).edges d edge.0 edge.1 edge.2))

  -- the function whose result is an input
  called_of : (x callee : ℕ) → IsSomeAnd (slice_get (program_of unit).funcs callee) (λ (called : FuncGraph). slot_width (graph_slots f) x ≡ returned_width called.slots)
      → (called : Function) × (slice_get unit.funcs callee ≡ Some called) × (slot_width (graph_slots f) x ≡ slot_width (Tree.func_slots unit callee) 0)
  called_of x callee has = go (slice_get unit.funcs callee) refl (subst (λ (o : Option FuncGraph). IsSomeAnd o (λ (called : FuncGraph). slot_width (graph_slots f) x ≡ returned_width called.slots)) (graphs_there unit callee) has)
    where
      go : (o : Option Function) → slice_get unit.funcs callee ≡ o → IsSomeAnd (option_map graph_of o) (λ (called : FuncGraph). slot_width (graph_slots f) x ≡ returned_width called.slots)
          → (called : Function) × (slice_get unit.funcs callee ≡ Some called) × (slot_width (graph_slots f) x ≡ slot_width (Tree.func_slots unit callee) 0)
      go None is has = absurd has
      go (Some called) is has = (called, is, has ∙ returns_the_same unit callee called made is ∙ ap (λ (ss : List Slot). slot_width ss 0) (sym (tree_widths unit called callee is)))

  waits_answered : (todo : Todo) (rest : List Todo) (missing : Demand) → front_demand unit tf ≡ Err missing → (missing ≢ Fault → WaitsFor f missing g.node g.slots) → StepAnswered (front_step todo rest site (Err missing))
  waits_answered todo rest (Global gl) demand waiting =
      let waits = waiting (λ q. cc) in
      let x = waits.0 in
      let n = global_at c gl in
      let width : slot_width (graph_slots f) x ≡ global_width unit.globals gl = edge_width (actions.Read x gl) g.node waits.1 waits.2 in
      let raw : conversion (slot_width (graph_slots f) x) (global_at w.config gl) ≡ n =
      ap (λ (v : Width). conversion v (global_at w.config gl)) width
      ∙ ap (λ (l : List ℤ). conversion (global_width unit.globals gl) (slice_index_or l gl (pos 0))) (sym both.globals)
      ∙ conversion_same (global_width unit.globals gl) n (global_fits unit.globals c.globals gl both.fit) in
      gets (actions.Read x gl) waits.1 x n (with_slot (graph_slots f) x (global_at w.config gl) g.slots) (Global gl) waits.2 refl waits.3 refl (ap (slice_set g.slots x) raw) demand
  waits_answered todo rest (Nondet v) demand waiting =
      let waits = waiting (λ q. cc) in
      let x = waits.0 in
      gets (actions.Nondet x) waits.1 x (conversion v input) (with_slot (graph_slots f) x input g.slots) (Nondet v) waits.2 refl waits.4 refl (ap (λ (u : Width). slice_set g.slots x (conversion u input)) waits.3) demand
  waits_answered todo rest (Call callee ns) demand waiting =
      let waits = waiting (λ q. cc) in
      let x = waits.0 in
      let called = called_of x callee (edge_width (actions.Call (Some x) callee waits.2) g.node waits.1 waits.3) in
      enters (Some x) callee waits.2 waits.1 ns called.0 called.1 waits.3 waits.4
      (λ at. record { missing = Call callee ns; demand = demand; behind = waits.5.0; inside = waits.5.1; width = called.2 })
  waits_answered todo rest Fault demand waiting = tt

  answer_by : (todo : Todo) (rest : List Todo) → Ways (todo_step todo rest site) → StepAnswered (front_step todo rest site (front_demand unit tf))
  answer_by todo rest ways = go (front_demand unit tf) refl
    where
      go : (r : Result (List ℤ) Demand) → front_demand unit tf ≡ r → StepAnswered (front_step todo rest site r)
      go (Ok values) is = ways.done values is
      go (Err missing) is = waits_answered todo rest missing is (ways.waiting missing is)

  -- ---- returns

  resumed : (fc : Function) (caller : Tree.Frame) (gc : Graph.Frame) (callee : ℕ) (args : List Expr) (to : ℕ) (d : Option ℕ) (v n : ℤ) → FrameTogether unit fc caller gc → GoesOn unit fc caller gc callee to d
      → HasEdge fc false gc.node (actions.Call d callee args) to → v ≡ n → conversion (slot_width (Tree.func_slots unit callee) 0) n ≡ n
      → FrameTogether unit fc (caller_after unit caller n)
      (settled_top unit (record gc { node = to; slots = with_result (Graph.func_slots (program_of unit) gc.func) d v gc.slots; waits = None }))
  resumed fc caller gc callee args to None v n together goes edge same fits =
      let top : Graph.Frame = record gc { node = to; waits = None } in
      subst (λ (x : Tree.Frame). FrameTogether unit fc x (settled_top unit top)) (sym (ap (resumed_caller caller n) goes.demand))
      (frame_goes unit fc caller.func (rest_of caller.todo) to caller.slots caller.vars top together.there together.func together.vars refl goes.lies goes.inside goes.room together.kept together.unset)
  resumed fc caller gc callee args to (Some x) v n together goes edge same fits =
      let ws = Graph.func_slots (program_of unit) gc.func in
      let top : Graph.Frame = record gc { node = to; slots = with_slot ws x v gc.slots; waits = None } in
      let known : ws ≡ graph_slots fc = graph_widths unit fc gc.func (ap (slice_get unit.funcs) (sym together.func) ∙ together.there) in
      let stored : conversion (slot_width ws x) v ≡ n =
      ap (conversion (slot_width ws x)) same
      ∙ ap (λ (ss : List Slot). conversion (slot_width ss x) n) known
      ∙ ap (λ (u : Width). conversion u n) goes.width ∙ fits in
      subst (λ (y : Tree.Frame). FrameTogether unit fc y (settled_top unit top)) (sym (ap (resumed_caller caller n) goes.demand))
      (frame_gets unit fc caller gc top (actions.Call (Some x) callee args) to x n goes.missing together goes.demand edge refl goes.behind refl refl refl (ap (slice_set gc.slots x) stored))

  ends : (act : Action) (slots : List ℤ) (n : ℤ) → HasEdge f false g.node act 1 → action_effect graph_site (graph_slots f) act ≡ Some (record g { slots = slots }, Keeps) → value_at slots 0 ≡ n
      → conversion (slot_width (Tree.func_slots unit tf.func) 0) n ≡ n → Answered (frames_after_return unit ts n) Keeps
  ends act slots n edge done same fits = go ts gs below here (done_with act (record g { slots = slots }, Keeps) done)
    where
      go : (ts' : List Tree.Frame) (gs' : List Graph.Frame) → FramesBelow unit tf.func ts' gs' → IsAt unit w t g gs' f
          → action_effect (site_of unit w t input g gs') (Graph.func_slots (program_of unit) g.func) act ≡ Some (record g { slots = slots }, Keeps) → Answered (frames_after_return unit ts' n) Keeps
      go [] [] under at_frames did =
          let top : Graph.Frame = record g { node = 1; slots = slots } in
          record {
            graph = settled_top unit top ∷ [];
            other = Keeps;
            chosen = edges_are_done unit w t input g [] f act 1 (record g { slots = slots }, Keeps) at_frames edge did tt refl;
            thread = (ap (λ (m : Moment). m.node) (settles_as unit f top graph_func ∙ exit_rests f slots), free);
            effects = keeps;
          }
      go [] (g' ∷ gs') under at_frames did = absurd under
      go (t' ∷ ts') [] under at_frames did = absurd under
      go (caller ∷ ts') (gc ∷ gs') under at_frames did =
          let waits = under.2 in
          record {
            graph = settled_top unit (record gc { node = waits.to; slots = with_result (Graph.func_slots (program_of unit) gc.func) waits.destination (value_at slots 0) gc.slots; waits = None }) ∷ gs';
            other = Keeps;
            chosen = returns_are_made unit w t input g gc gs' f act slots waits.place gc.node waits.destination tf.func waits.args waits.to at_frames edge did waits.waits waits.call;
            thread = (under.0, resumed under.0 caller gc tf.func waits.args waits.to waits.destination (value_at slots 0) n under.1 waits.goes_on waits.edge same fits, refl, under_func caller gc (value_at slots 0) n under.3);
            effects = keeps;
          }
        where
          under_func : (caller : Tree.Frame) (gc : Graph.Frame) (v n : ℤ) → FramesBelow unit caller.func ts' gs' → FramesBelow unit (caller_after unit caller n).func ts' gs'
          under_func caller gc v n b = subst (λ (k : ℕ). FramesBelow unit k ts' gs') (same_func (front_demand unit caller)) b
            where
              same_func : (r : Result (List ℤ) Demand) → caller.func ≡ (resumed_caller caller n r).func
              same_func (Ok values) = refl
              same_func (Err missing) = refl

  -- ---- conditions

  branch_ways : (e : Expr) (n : ℕ) (holds fails : List Todo) → Branches unit f e n holds fails → AlongFrom n → front_exprs tf.todo ≡ e ∷ [] → (step : List ℤ → FrameStep)
      → ((values : List ℤ) → StepAnswered (pass_step site (if is_zero (only values) then fails else holds)) → StepAnswered (step values)) → Ways step
  branch_ways e n holds fails b along exprs step goes =
      let h = hoisted_expr e b.place n b.graph in
      ways_by (e ∷ []) n h.1.at (HasIt f h.0) (actions.Guard h.0 true) b.on_true (one_evaluates f unit e b.place n b.graph b.made b.nodes b.within) exprs along b.guard_true (inl refl) step
      (λ values demand arr. goes values (go values arr (is_zero (only values)) refl))
    where
      go : (values : List ℤ) → Arrived f frame.values (hoisted_expr e b.place n b.graph).1.at g.node g.slots (HasIt f (hoisted_expr e b.place n b.graph).0 values) → (zero_value : Bool) → is_zero (only values) ≡ zero_value
          → StepAnswered (pass_step site (if zero_value then fails else holds))
      go values arr true is =
          let h = hoisted_expr e b.place n b.graph in
          passes fails b.on_false (actions.Guard h.0 false) g.slots tf.slots Keeps Keeps (subst (λ (k : ℕ). HasEdge f false k (actions.Guard h.0 false) b.on_false) (sym arr.here) b.guard_false)
          (ap (λ (r : Result ℤ Demand). option_map (slots_effect graph_site) (with_value r (λ k. if same_truth false (not (is_zero k)) then Some g.slots else None))) arr.holds
          ∙ ap (λ (z : Bool). option_map (slots_effect graph_site) (if same_truth false (not z) then Some g.slots else None)) is)
          tt keeps b.else_lies b.else_inside (arr.room ∙ frame.room) frame.kept frame.unset
      go values arr false is =
          let h = hoisted_expr e b.place n b.graph in
          passes holds b.on_true (actions.Guard h.0 true) g.slots tf.slots Keeps Keeps (subst (λ (k : ℕ). HasEdge f false k (actions.Guard h.0 true) b.on_true) (sym arr.here) b.guard_true)
          (ap (λ (r : Result ℤ Demand). option_map (slots_effect graph_site) (with_value r (λ k. if same_truth true (not (is_zero k)) then Some g.slots else None))) arr.holds
          ∙ ap (λ (z : Bool). option_map (slots_effect graph_site) (if same_truth true (not z) then Some g.slots else None)) is)
          tt keeps b.then_lies b.then_inside (arr.room ∙ frame.room) frame.kept frame.unset

  -- ---- statements

  -- a thread that has ended in the trees has ended in the graphs
  ended_too : (k : ℕ) → Tree.has_ended c k ≡ true → Graph.has_ended w.config k ≡ true
  ended_too k is = go (thread_at c.threads k) refl is
    where
      go : (o : Option (List Tree.Frame)) → thread_at c.threads k ≡ o → option_map_or is_over o false ≡ true → Graph.has_ended w.config k ≡ true
      go None at is = absurd (true≢false (sym is))
      go (Some (x ∷ xs)) at is = absurd (true≢false (sym is))
      go (Some []) at is =
          let there = thread_found unit c.threads w.config.threads k [] both.threads at in
          ap (λ (o : Option (List Graph.Frame)). option_map_or Graph.is_over o false) there.1 ∙ over_together unit there.0 there.2

  module _ (s : Placed) (rest : List Todo) (a : Ahead unit f s rest frame.begin) (kind : Lies f (Doing s ∷ rest) frame.begin ⊎ IsTrue (form_of unit f s).heads_for) (after : rest_of tf.todo ≡ rest) where
    along : AlongFrom a.route.from
    along = subst (λ (n : ℕ). AlongFrom n) (sym a.begins) frame.along

    within : (l : Stmt-F Stmt Placed) → layer_of s ≡ l → Within f (lower_step (lowerings_in l) s.place a.route a.graph)
    within l is = subst (λ (m : G.Lowering). Within f (m.lower a.route a.graph)) (lowered s l is) a.within

    -- one edge, where there is no expression
    edge_ways : (act : Action) (to : ℕ) → Within f (with_edge a.route.from act to a.graph) → front_exprs tf.todo ≡ [] → (step : List ℤ → FrameStep)
        → ((values : List ℤ) → HasEdge f false g.node act to → length g.slots ≡ length (graph_slots f) → StepAnswered (step values)) → Ways step
    edge_ways act to win exprs step goes =
        let edge = last_edge f false a.route.from act to a.graph win.edges in
        ways_by [] a.route.from a.route.from (Nothing f) act to (none_evaluates f a.route.from) exprs along edge (inr refl) step
        (λ values demand arr. goes values (subst (λ (n : ℕ). HasEdge f false n act to) (sym arr.here) edge) (arr.room ∙ frame.room))

    -- one edge behind what an expression is hoisted to
    expr_ways : (act : Expr → Action) (to : ℕ) (e : Expr) → IsTrue (is_made_expr unit f e) → Within f (G.last_edge act to (hoisted_expr e s.place a.route.from a.graph)) → ((x : Expr) → input_slot (act x) ≡ None) → front_exprs tf.todo ≡ e ∷ []
        → (step : List ℤ → FrameStep)
        → ((values : List ℤ) → HasEdge f false g.node (act (hoisted_expr e s.place a.route.from a.graph).0) to → value_of (hoisted_expr e s.place a.route.from a.graph).0 (graph_slots f) g.slots ≡ Ok (only values) → length g.slots ≡ length (graph_slots f) → StepAnswered (step values))
        → Ways step
    expr_ways act to e made_expr win slot exprs step goes =
        let h = hoisted_expr e s.place a.route.from a.graph in
        let edge = last_edge f false h.1.at (act h.0) to h.1.flow win.edges in
        let before = within_before f h.1.flow _ (extends_edge false h.1.at (act h.0) to h.1.flow) (grew_edge false h.1.at (act h.0) to h.1.flow) win in
        ways_by (e ∷ []) a.route.from h.1.at (HasIt f h.0) (act h.0) to (one_evaluates f unit e s.place a.route.from a.graph made_expr a.made.nodes before) exprs along edge (inl (slot h.0)) step
        (λ values demand arr. goes values (subst (λ (n : ℕ). HasEdge f false n (act h.0) to) (sym arr.here) edge) arr.holds (arr.room ∙ frame.room))

    -- the frame goes on as it is
    quiet : (act : Action) (next : List Todo) (to : ℕ) (effect : Effect Tree.Frame) (other : Effect Graph.Frame) → HasEdge f false g.node act to → action_effect graph_site (graph_slots f) act ≡ Some (g, other) → StartsNone other
        → EffectTogether unit effect other → Lies f next to → 2 ≤ to → length g.slots ≡ length (graph_slots f) → Answered (frame_after tf next ∷ ts) effect
    quiet act next to effect other edge done none effects lies inside room = passes next to act g.slots tf.slots effect other edge done none effects lies inside room frame.kept frame.unset

    -- a local gets a number
    stores : (act : Action) (x : ℕ) (n : ℤ) → IsTrue (is_local f x) → HasEdge f false g.node act a.route.to → action_effect graph_site (graph_slots f) act ≡ Some (record g { slots = with_slot (graph_slots f) x n g.slots }, Keeps)
        → 2 ≤ a.route.to → length g.slots ≡ length (graph_slots f) → Answered (frame_after (record tf { slots = with_slot (Tree.func_slots unit tf.func) x n tf.slots }) rest ∷ ts) Keeps
    stores act x n local edge done inside room =
        let range = both_true (nat_lt 0 x) (nat_lt x N) local in
        let behind = ltb-true 0 x range.0 in
        let there = ltb-true x N range.1 in
        let v = conversion (slot_width (graph_slots f) x) n in
        passes rest a.route.to act (with_slot (graph_slots f) x n g.slots) (with_slot (Tree.func_slots unit tf.func) x n tf.slots) Keeps Keeps edge done tt keeps a.next inside
        (length-set g.slots x v ∙ room)
        (take_set_in N g.slots x v there
        ∙ ap (λ (vs : List ℤ). slice_set vs x v) frame.kept
        ∙ ap (λ (u : Width). slice_set tf.slots x (conversion u n)) (same_width x there))
        (set_behind tf.slots x (conversion (slot_width (Tree.func_slots unit tf.func) x) n) behind ∙ frame.unset)

    if_is_no_head : (e : Expr) (x : Placed) (b : Option Placed) → heads_for_step (forms_in unit f (Stmt-F.If e x b)) ≡ false
    if_is_no_head e x None = refl
    if_is_no_head e x (Some b) = refl

    no_heads : (l : Stmt-F Stmt Placed) → layer_of s ≡ l → heads_for_step (forms_in unit f l) ≡ false → Lies f (Doing s ∷ rest) frame.begin
    no_heads l is not_head = elim kind [
      | inl lies ↦ lies
      | inr heads ↦ absurd (true≢false (sym (subst (λ (b : Bool). b ≡ true) (ap (λ m. m.heads_for) (formed unit f s l is)) heads) ∙ not_head))
    ]

    owner_answered : (m : ℕ) (act : Action) (otherwise : FrameStep) (o : Option (Option ℕ)) → StepAnswered otherwise → HasEdge f false g.node act a.route.to → action_effect graph_site (graph_slots f) act ≡ owner_effect graph_site m o
        → 2 ≤ a.route.to → length g.slots ≡ length (graph_slots f) → StepAnswered (owner_step site m rest otherwise o)
    owner_answered m act otherwise None waits edge done inside room = waits
    owner_answered m act otherwise (Some owner) waits edge done inside room = quiet act rest a.route.to (SetsOwner m owner) (SetsOwner m owner) edge done tt (sets_owner m owner) a.next inside room

    join_answered : (var : ℕ) (o : Option ℕ) → slice_index_or tf.vars var None ≡ o → HasEdge f false g.node (actions.Join var) a.route.to → 2 ≤ a.route.to → length g.slots ≡ length (graph_slots f) → StepAnswered (join_step site o rest)
    join_answered var None is edge inside room = tt
    join_answered var (Some k) is edge inside room = go (Tree.has_ended c k) refl
      where
        go : (ended : Bool) → Tree.has_ended c k ≡ ended → StepAnswered (if ended then pass_step site rest else Waits)
        go false not_yet = tt
        go true over =
            quiet (actions.Join var) rest a.route.to Keeps Keeps edge
            (ap (λ (vars : List (Option ℕ)). join_effect graph_site (slice_index_or vars var None)) (sym frame.vars)
            ∙ ap (join_effect graph_site) is
            ∙ ap (λ (b : Bool). if b then Some (g, Keeps) else None) (ended_too k over))
            tt keeps a.next inside room

    assert_answered : (x : Expr) (values : List ℤ) → HasEdge f false g.node (actions.Assert x) a.route.to → value_of x (graph_slots f) g.slots ≡ Ok (only values) → 2 ≤ a.route.to → length g.slots ≡ length (graph_slots f)
        → StepAnswered (if is_zero (only values) then Fails else pass_step site rest)
    assert_answered x values edge have inside room = go (is_zero (only values)) refl
      where
        go : (b : Bool) → is_zero (only values) ≡ b → StepAnswered (if b then Fails else pass_step site rest)
        go true is = tt
        go false is =
            quiet (actions.Assert x) rest a.route.to Keeps Keeps edge
            (ap (λ (r : Result ℤ Demand). option_map (slots_effect graph_site) (with_value r (λ k. if is_zero k then None else Some g.slots))) have
            ∙ ap (λ (z : Bool). option_map (slots_effect graph_site) (if z then None else Some g.slots)) is)
            tt keeps a.next inside room

    started_of : (callee : ℕ) → IsTrue (is_function unit callee (λ (x : Function). is_thread x.kind)) → (called : Function) × (slice_get unit.funcs callee ≡ Some called)
    started_of callee is = go (slice_get unit.funcs callee) is
      where
        go : (o : Option Function) → IsTrue (option_map_or (λ (x : Function). is_thread x.kind) o false) → (called : Function) × (o ≡ Some called)
        go None h = absurd (true≢false (sym h))
        go (Some called) h = (called, refl)

    create_answered : (var callee : ℕ) → IsTrue (is_function unit callee (λ (x : Function). is_thread x.kind)) → HasEdge f false g.node (actions.Create var callee) a.route.to → 2 ≤ a.route.to → length g.slots ≡ length (graph_slots f)
        → StepAnswered (Tree.create_step site var callee rest)
    create_answered var callee is_made edge inside room =
        let called = started_of callee is_made in
        let new = Graph.new_frame (program_of unit) callee [] in
        let top : Graph.Frame = record g { node = a.route.to; vars = slice_set g.vars var (Some (next_thread w.config)) } in
        let vars : slice_set tf.vars var (Some (next_thread c)) ≡ top.vars =
        ap (λ (vs : List (Option ℕ)). slice_set vs var (Some (next_thread c))) frame.vars
        ∙ ap (λ (k : ℕ). slice_set g.vars var (Some (k + 1))) (same_many unit c.threads w.config.threads both.threads) in
        record {
          graph = settled_top unit top ∷ gs;
          other = Starts (settled_top unit new);
          chosen = threads_are_started unit w t input g gs f var callee a.route.to here edge (λ q. absurd (omega (arith, q, inside)));
          thread = (
            f,
            frame_goes unit f tf.func rest a.route.to tf.slots (slice_set tf.vars var (Some (next_thread c))) top frame.there frame.func vars refl a.next inside room frame.kept frame.unset,
            free,
            below,
          );
          effects = starts (Tree.new_frame unit callee []) (settled_top unit new) (called.0, new_together unit made callee called.0 [] called.1, new_waits unit callee [], tt);
        }

    call_ways : (callee : ℕ) (args : List Expr) → IsTrue (is_called unit callee (length args) (λ (x : Function). not (is_thread x.kind))) → IsTrue (list_all (is_made_expr unit f) args)
        → Within f (G.call_edge callee a.route.to (hoisted_exprs args s.place a.route.from a.graph)) → front_exprs tf.todo ≡ args → 2 ≤ a.route.to → (step : List ℤ → FrameStep)
        → ((values : List ℤ) → Answered (new_frame unit callee values ∷ tf ∷ ts) Keeps → StepAnswered (step values)) → Ways step
    call_ways callee args is_there are_made win exprs inside step goes =
        let h = hoisted_exprs args s.place a.route.from a.graph in
        let act = actions.Call None callee h.0 in
        let edge = last_edge f false h.1.at act a.route.to h.1.flow win.edges in
        let before = within_before f h.1.flow _ (extends_edge false h.1.at act a.route.to h.1.flow) (grew_edge false h.1.at act a.route.to h.1.flow) win in
        let each = All-from_recursion (λ (e : Expr). IsTrue (is_made_expr unit f e)) args (all_from_each (λ (e : Expr). IsTrue (is_made_expr unit f e)) args (all_true (is_made_expr unit f) args are_made)) in
        let called = called_there unit callee (length args) (λ (x : Function). not (is_thread x.kind)) is_there in
        let found = found_of (λ (x : Function). (length args ≡ x.params) × IsTrue (not (is_thread x.kind))) callee called.1 in
        ways_by args a.route.from h.1.at (HasThem f h.0) act a.route.to (all_evaluate f unit args s.place a.route.from a.graph each a.made.nodes before) exprs along edge (inl refl) step
        (λ values demand arr. goes values
        (enters None callee h.0 a.route.to values found.0 found.1 (subst (λ (n : ℕ). HasEdge f false n act a.route.to) (sym arr.here) edge) arr.holds
        (λ waits. record { args = values; demand = demand; room = arr.room ∙ frame.room; lies = subst (λ (l : List Todo). Lies f l a.route.to) (sym after) a.next; inside = inside })))
      where
        found_of : (P : Function → Type 0) (callee : ℕ) → IsSomeAnd (slice_get unit.funcs callee) P → (called : Function) × (slice_get unit.funcs callee ≡ Some called)
        found_of P callee h = go (slice_get unit.funcs callee) h
          where
            go : (o : Option Function) → IsSomeAnd o P → (called : Function) × (o ≡ Some called)
            go None h = absurd h
            go (Some called) h = (called, refl)

    stmt_ways : (l : Stmt-F Stmt Placed) → layer_of s ≡ l → IsTrue (stays_step l) → front_exprs tf.todo ≡ stmt_exprs l → Ways (stmt_step l s rest site)
    stmt_ways (Stmt-F.Declare x None) is stays exprs =
        let l = Stmt-F.Declare x None in
        let m = both_true (is_local f x) true (made_as unit f s l a.made.inside is a.made.made) in
        edge_ways (actions.Nondet x) a.route.to (within l is) exprs (stmt_step l s rest site)
        (λ values edge room. stores (actions.Nondet x) x input m.0 edge refl (no_return unit f s l a.route is refl a.made.goes_on) room)
    stmt_ways (Stmt-F.Declare x (Some e)) is stays exprs =
        let l = Stmt-F.Declare x (Some e) in
        let m = both_true (is_local f x) (is_made_expr unit f e) (made_as unit f s l a.made.inside is a.made.made) in
        let h = hoisted_expr e s.place a.route.from a.graph in
        expr_ways (actions.Assign x) a.route.to e m.1 (within l is) (λ y. refl) exprs (stmt_step l s rest site)
        (λ values edge have room. stores (actions.Assign x h.0) x (only values) m.0 edge
        (ap (λ (r : Result ℤ Demand). option_map (slots_effect graph_site) (with_value r (λ k. Some (with_slot (graph_slots f) x k g.slots)))) have) (no_return unit f s l a.route is refl a.made.goes_on) room)
    stmt_ways (Stmt-F.DeclareThread var) is stays exprs =
        let l = Stmt-F.DeclareThread var in
        edge_ways actions.Skip a.route.to (within l is) exprs (stmt_step l s rest site)
        (λ values edge room. quiet actions.Skip rest a.route.to Keeps Keeps edge refl tt keeps a.next (no_return unit f s l a.route is refl a.made.goes_on) room)
    stmt_ways (Stmt-F.Assign (Target.Local x) e) is stays exprs =
        let l = Stmt-F.Assign (Target.Local x) e in
        let m = both_true (is_local f x) (is_made_expr unit f e) (made_as unit f s l a.made.inside is a.made.made) in
        let h = hoisted_expr e s.place a.route.from a.graph in
        expr_ways (actions.Assign x) a.route.to e m.1 (within l is) (λ y. refl) exprs (stmt_step l s rest site)
        (λ values edge have room. stores (actions.Assign x h.0) x (only values) m.0 edge
        (ap (λ (r : Result ℤ Demand). option_map (slots_effect graph_site) (with_value r (λ k. Some (with_slot (graph_slots f) x k g.slots)))) have) (no_return unit f s l a.route is refl a.made.goes_on) room)
    stmt_ways (Stmt-F.Assign (Target.Global gl) e) is stays exprs =
        let l = Stmt-F.Assign (Target.Global gl) e in
        let m = both_true (nat_lt gl (length unit.globals)) (is_made_expr unit f e) (made_as unit f s l a.made.inside is a.made.made) in
        let h = hoisted_expr e s.place a.route.from a.graph in
        expr_ways (actions.Write gl) a.route.to e m.1 (within l is) (λ y. refl) exprs (stmt_step l s rest site)
        (λ values edge have room.
        let n = conversion (global_width unit.globals gl) (only values) in
        quiet (actions.Write gl h.0) rest a.route.to (SetsGlobal gl n) (SetsGlobal gl n) edge
        (ap (λ (r : Result ℤ Demand). with_value r (λ k. Some (g, SetsGlobal gl (conversion (global_width unit.globals gl) k)))) have) tt (sets_global gl n) a.next (no_return unit f s l a.route is refl a.made.goes_on) room)
    stmt_ways (Stmt-F.CallOnly callee args) is stays exprs =
        let l = Stmt-F.CallOnly callee args in
        let m = both_true (is_called unit callee (length args) (λ (x : Function). not (is_thread x.kind))) (list_all (is_made_expr unit f) args) (made_as unit f s l a.made.inside is a.made.made) in
        call_ways callee args m.0 m.1 (within l is) exprs (no_return unit f s l a.route is refl a.made.goes_on) (stmt_step l s rest site) (λ values x. x)
    stmt_ways (Stmt-F.If e x b) is stays exprs =
        let l = Stmt-F.If e x b in
        let lies = no_heads l is (if_is_no_head e x b) in
        let same = shaped s l is ∙ ap (at s.place) (rolls-If e x b) in
        let branches = if_branches unit f well s.place e x b rest frame.begin (subst (λ (y : Placed). Lies f (Doing y ∷ rest) frame.begin) same lies) in
        branch_ways e frame.begin (Doing x ∷ rest) (option_map_or (λ other. Doing other ∷ rest) b rest) branches frame.along exprs (stmt_step l s rest site) (λ values y. y)
    stmt_ways (Stmt-F.While e b) is stays exprs =
        let l = Stmt-F.While e b in
        let lies = no_heads l is refl in
        let same = shaped s l is ∙ ap (at s.place) (rolls-While e b) in
        let branches = while_branches unit f well s.place e b rest frame.begin (subst (λ (y : Placed). Lies f (Doing y ∷ rest) frame.begin) same lies) in
        let turn : Doing b ∷ Test (at s.place (While e b)) ∷ rest ≡ turn_of (layer_of s) s rest =
        ap (λ (y : Placed). Doing b ∷ Test y ∷ rest) (sym same) ∙ ap (λ (y : Stmt-F Stmt Placed). turn_of y s rest) (sym is) in
        branch_ways e frame.begin (turn_of (layer_of s) s rest) rest (subst (λ (y : List Todo). Branches unit f e frame.begin y rest) turn branches) frame.along exprs (stmt_step l s rest site) (λ values y. y)
    stmt_ways (Stmt-F.DoWhile b e) is stays exprs = absurd (true≢false (sym stays))
    stmt_ways (Stmt-F.For first test last b) is stays exprs = absurd (true≢false (sym stays))
    stmt_ways (Stmt-F.Block (x ∷ xs)) is stays exprs = absurd (true≢false (sym stays))
    stmt_ways (Stmt-F.Block []) is stays exprs =
        let l = Stmt-F.Block [] in
        edge_ways actions.Skip a.route.to (within l is) exprs (stmt_step l s rest site)
        (λ values edge room. quiet actions.Skip rest a.route.to Keeps Keeps edge refl tt keeps a.next (no_return unit f s l a.route is refl a.made.goes_on) room)
    stmt_ways Stmt-F.Break is stays exprs =
        edge_ways actions.Skip a.route.on_break (within Stmt-F.Break is) exprs (stmt_step Stmt-F.Break s rest site)
        (λ values edge room. quiet actions.Skip (after_break rest) a.route.on_break Keeps Keeps edge refl tt keeps a.breaks (a.made.jumps (made_as unit f s Stmt-F.Break a.made.inside is a.made.made)).0 room)
    stmt_ways Stmt-F.Continue is stays exprs =
        edge_ways actions.Skip a.route.on_continue (within Stmt-F.Continue is) exprs (stmt_step Stmt-F.Continue s rest site)
        (λ values edge room. quiet actions.Skip (after_continue rest) a.route.on_continue Keeps Keeps edge refl tt keeps a.continues (a.made.jumps (made_as unit f s Stmt-F.Continue a.made.inside is a.made.made)).1 room)
    stmt_ways (Stmt-F.Return None) is stays exprs =
        let l = Stmt-F.Return None in
        edge_ways actions.Skip 1 (within l is) exprs (stmt_step l s rest site)
        (λ values edge room. ends actions.Skip g.slots (pos 0) edge refl (sym (value_first N g.slots some_slots) ∙ ap (λ (vs : List ℤ). value_at vs 0) frame.kept ∙ frame.unset) (conversion_zero (slot_width (Tree.func_slots unit tf.func) 0)))
    stmt_ways (Stmt-F.Return (Some e)) is stays exprs =
        let l = Stmt-F.Return (Some e) in
        let m = made_as unit f s l a.made.inside is a.made.made in
        let h = hoisted_expr e s.place a.route.from a.graph in
        let v = slot_width (Tree.func_slots unit tf.func) 0 in
        expr_ways (actions.Assign 0) 1 e (both_true (is_int f.kind) (is_made_expr unit f e) m).1 (within l is) (λ y. refl) exprs (stmt_step l s rest site)
        (λ values edge have room.
        let n = only values in
        let some = some_room room in
        ends (actions.Assign 0 h.0) (with_slot (graph_slots f) 0 n g.slots) (conversion v n) edge
        (ap (λ (r : Result ℤ Demand). option_map (slots_effect graph_site) (with_value r (λ k. Some (with_slot (graph_slots f) 0 k g.slots)))) have)
        (set_first g.slots (conversion (slot_width (graph_slots f) 0) n) some ∙ ap (λ (u : Width). conversion u n) (same_width 0 some_slots))
        (conversion_twice v n))
    stmt_ways (Stmt-F.Create var callee) is stays exprs =
        let l = Stmt-F.Create var callee in
        let m = both_true (nat_lt var (length f.threads)) (is_function unit callee (λ (x : Function). is_thread x.kind)) (made_as unit f s l a.made.inside is a.made.made) in
        edge_ways (actions.Create var callee) a.route.to (within l is) exprs (stmt_step l s rest site)
        (λ values edge room. create_answered var callee m.1 edge (no_return unit f s l a.route is refl a.made.goes_on) room)
    stmt_ways (Stmt-F.Join var) is stays exprs =
        let l = Stmt-F.Join var in
        edge_ways (actions.Join var) a.route.to (within l is) exprs (stmt_step l s rest site)
        (λ values edge room. join_answered var (slice_index_or tf.vars var None) refl edge (no_return unit f s l a.route is refl a.made.goes_on) room)
    stmt_ways (Stmt-F.Lock m) is stays exprs =
        let l = Stmt-F.Lock m in
        edge_ways (actions.Lock m) a.route.to (within l is) exprs (stmt_step l s rest site)
        (λ values edge room. owner_answered m (actions.Lock m) Waits (owner_after_lock t (owner_at c m)) tt edge
        (ap (λ (os : List (Option ℕ)). owner_effect graph_site m (owner_after_lock t (slice_index_or os m None))) (sym both.owners)) (no_return unit f s l a.route is refl a.made.goes_on) room)
    stmt_ways (Stmt-F.Unlock m) is stays exprs =
        let l = Stmt-F.Unlock m in
        edge_ways (actions.Unlock m) a.route.to (within l is) exprs (stmt_step l s rest site)
        (λ values edge room. owner_answered m (actions.Unlock m) Fails (owner_after_unlock t (owner_at c m)) tt edge
        (ap (λ (os : List (Option ℕ)). owner_effect graph_site m (owner_after_unlock t (slice_index_or os m None))) (sym both.owners)) (no_return unit f s l a.route is refl a.made.goes_on) room)
    stmt_ways (Stmt-F.Assert e) is stays exprs =
        let l = Stmt-F.Assert e in
        let m = made_as unit f s l a.made.inside is a.made.made in
        let h = hoisted_expr e s.place a.route.from a.graph in
        expr_ways actions.Assert a.route.to e m (within l is) (λ y. refl) exprs (stmt_step l s rest site)
        (λ values edge have room. assert_answered h.0 values edge have (no_return unit f s l a.route is refl a.made.goes_on) room)
    stmt_ways Stmt-F.Empty is stays exprs =
        edge_ways actions.Skip a.route.to (within Stmt-F.Empty is) exprs (stmt_step Stmt-F.Empty s rest site)
        (λ values edge room. quiet actions.Skip rest a.route.to Keeps Keeps edge refl tt keeps a.next (no_return unit f s Stmt-F.Empty a.route is refl a.made.goes_on) room)

  -- ---- what comes next

  doing_answered : (s : Placed) (rest : List Todo) → tf.todo ≡ Doing s ∷ rest → StepAnswered (frame_step (Doing s ∷ rest) site)
  doing_answered s rest is =
      let lies = subst (λ (l : List Todo). Lies f l frame.begin) is frame.lies in
      let a = ahead_stmt unit f well s rest frame.begin lies in
      answer_by (Doing s) rest (stmt_ways s rest a (inl lies) (ap rest_of is) (layer_of s) refl (subst FrontStays is frame.front) (ap front_exprs is))

  test_answered : (p : Placed) (rest : List Todo) → tf.todo ≡ Test p ∷ rest → StepAnswered (frame_step (Test p ∷ rest) site)
  test_answered p rest is =
      let tried = tests_tried unit f well p rest frame.begin (subst (λ (l : List Todo). Lies f l frame.begin) is frame.lies) in
      let trial = tried.2 in
      answer_by (Test p) rest
      (branch_ways trial.condition tried.0 (turn_of (layer_of p) p rest) rest trial.branches (sym (along_from f frame.begin tried.0 frame.values tf.ins tried.1) ∙ frame.along) (ap front_exprs is ∙ trial.exprs) (todo_step (Test p) rest site)
      (λ values x. x))

  last_answered : (p : Placed) (rest : List Todo) → tf.todo ≡ Last p ∷ rest → StepAnswered (frame_step (Last p ∷ rest) site)
  last_answered p rest is =
      let lies = subst (λ (l : List Todo). Lies f l frame.begin) is frame.lies in
      let ahead = ahead_last unit f well p rest frame.begin lies in
      go p ahead.0 ahead.1 is ahead.2 ahead.3
    where
      go : (p : Placed) (s : Placed) → IsLastPart p s → tf.todo ≡ Last p ∷ rest → IsTrue (form_of unit f s).heads_for → Ahead unit f s rest frame.begin → StepAnswered (frame_step (Last p ∷ rest) site)
      go _ _ (last_of place first test s b) is heads a =
          let p = at place (For first test (Some s) b) in
          let out = outs-For first test (Some s) b in
          let stays = heads_stay unit f (layer_of s) (subst (λ (x : Bool). x ≡ true) (ap (λ m. m.heads_for) (formed unit f s (layer_of s) refl)) heads) in
          let ways = stmt_ways s rest a (inr heads) (ap rest_of is) (layer_of s) refl stays (ap front_exprs is ∙ ap last_exprs out) in
          answer_by (Last p) rest
          (subst (λ (x : Stmt-F Stmt Placed). Ways (last_step x rest site)) (sym out) ways)

  pub frame_answered : (todo : List Todo) → tf.todo ≡ todo → StepAnswered (frame_step todo site)
  frame_answered [] is = let exit = lies_nothing f frame.begin (subst (λ (l : List Todo). Lies f l frame.begin) is frame.lies) in let inside = frame.inside in absurd (omega (arith, exit, inside))
  frame_answered (Doing s ∷ rest) is = doing_answered s rest is
  frame_answered (Test p ∷ rest) is = test_answered p rest is
  frame_answered (Last p ∷ rest) is = last_answered p rest is
