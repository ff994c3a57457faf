-- Each label that a thread takes.
use Rattle.std.proofs.Common.{◌≡◌, ◌∙◌, refl, sym, subst, ℕ, ℤ, true, List, [], ◌∷◌, Option, None, Some, Ok, arith, nat_eq}
use Rattle.std.specs.Prelude.{All, slice_get, slice_index_or}
use Rattle.std.specs.Option.{option_map}
use Rattle.std.proofs.lemmas.Bool.Decides.{nat_tests}
use Rattle.std.proofs.lemmas.List.Elements.{All-head}
use Rattle.std.proofs.lemmas.Option.{none-some, same_Some, option_and_then_some}
use Rattle.gob_tree.specs.Formed.{IsFormed}
use Rattle.gob_tree.specs.declared.expr.Expr.{Expr}
use Rattle.gob_tree.specs.declared.graph.Action.{Action}
use Rattle.gob_tree.specs.declared.graph.Action.TheVariants.{Assign, Read, Write, Nondet, Guard, Assert, Lock, Unlock, Create, Join, Call, Skip}
use Rattle.gob_tree.specs.declared.graph.Edge.{Edge}
use Rattle.gob_tree.specs.declared.graph.FuncGraph.{FuncGraph}
use Rattle.gob_tree.specs.declared.graph.Program.{Program}
use Rattle.gob_tree.specs.declared.unit.Slot.{Slot}
use Rattle.c_meaning.specs.Config.{Config, thread_at, Effect, Keeps, SetsGlobal, SetsOwner, Starts, after_effect, next_thread}
use Rattle.c_meaning.specs.Demand.{value_at, value_of, values_of}
use Rattle.c_meaning.specs.GraphStep.{Frame, Site, Acted, Label, Do, Enter, Leave, edge_at, func_slots, new_frame, new_frame_or, with_result, slots_effect, local_slots, action_effect, join_effect, has_ended, frame_moved, after_edge, after_push, after_call, after_entry, after_return_to, after_leave, site_after, thread_after}
use Rattle.state_dom.specs.StateValue.{StateValue, Bottom, Reached, DescribesState, is_reached}
use Rattle.constraint_sys.specs.declared.unknown.Key.{Key}
use Rattle.constraint_sys.specs.declared.unknown.Unknown.TheVariants.{Point}
use Rattle.constraint_sys.specs.declared.value.Effect.{Effect as Given}
use Rattle.constraint_sys.specs.declared.value.Value.TheVariants.{State}
use Rattle.constraint_sys.specs.Contribution.{outcome_of}
use Rattle.constraint_sys.specs.PostSolution.{BoundsAt, IsPostSolution}
use Rattle.constraint_sys.specs.Sound.{IsShaped}
use Rattle.constraint_sys.specs.Table.{TableValue, IsThere, empty_key, slots_at, state_at}
use Rattle.action_law.specs.Described.{DescribesEffect, DescribesFrame}
use Rattle.action_law.specs.Laws.{IsDone}
use Rattle.action_law.proofs.Calls.{calls_enter, returns_lead_to_states}
use Rattle.action_law.proofs.Edges.{edges_have_effects, edges_lead_to_states}
use Rattle.action_law.proofs.Frames.{new_func, new_node}
use Rattle.action_law.proofs.Globals.{edges_keep_globals}
use Rattle.action_law.proofs.Inverting.{value_there, map_there, if_there}
use Rattle.action_law.proofs.Others.{action_may}
use Rattle.run_law.specs.Known.{IsKnown, KnowsCaller, KnowsCallers, KnowsThread}
use Rattle.run_law.specs.Laws.{StepsKeepKnown}
use Rattle.run_law.proofs.Bounding.{end_describes, effects_bounded, point_there, slots_described, target_describes}
use Rattle.run_law.proofs.Going.{Does, StepsTo}
use Rattle.run_law.proofs.Threads.{IfStarts, known_after}

same_number : (a b : ℕ) → nat_eq a b ≡ true → a ≡ b
same_number a b e = grind (arith, nat_tests)

-- ---- an edge keeps the frame's function and its call, and starts threads at their entry
pub new_waits : (f : ℕ) (values : List ℤ) (o : Option FuncGraph) → (new_frame_or f values o).waits ≡ None
new_waits f values None = refl
new_waits f values (Some func) = refl

module _ (s : Site) where
  abbrev pub Stays : Acted → Type 0
  Stays done = (done.0.func ≡ s.frame.func) × (done.0.waits ≡ s.frame.waits) × IfStarts done.1 (λ (frame : Frame). (frame.node ≡ 0) × (frame.waits ≡ None))

  local_stays : (slots : List Slot) (act : Action) (done : Acted) → option_map (slots_effect s) (local_slots slots act s.frame.slots) ≡ Some done → Stays done
  local_stays slots act done e = map_there (slots_effect s) (local_slots slots act s.frame.slots) done e (λ values there same. subst Stays same (refl, refl, tt))

  join_stays : (o : Option ℕ) (done : Acted) → join_effect s o ≡ Some done → Stays done
  join_stays None done e = absurd (none-some done e)
  join_stays (Some t) done e = if_there (has_ended s.config t) (Some (s.frame, Keeps)) done e (λ ended same. subst Stays (same_Some {A = Acted} (s.frame, Keeps) done same) (refl, refl, tt))

  pub edge_stays : (slots : List Slot) (act : Action) (done : Acted) → action_effect s slots act ≡ Some done → Stays done
  edge_stays slots (Assign x e) done q = local_stays slots (Assign x e) done q
  edge_stays slots (Read x g) done q = subst Stays (same_Some {A = Acted} _ done q) (refl, refl, tt)
  edge_stays slots (Write g e) done q = value_there (value_of e slots s.frame.slots) _ done q (λ n is same. subst Stays (same_Some {A = Acted} _ done same) (refl, refl, tt))
  edge_stays slots (Nondet x) done q = subst Stays (same_Some {A = Acted} _ done q) (refl, refl, tt)
  edge_stays slots (Guard e wanted) done q = local_stays slots (Guard e wanted) done q
  edge_stays slots (Assert e) done q = local_stays slots (Assert e) done q
  edge_stays slots (Lock m) done q = map_there _ _ done q (λ new there same. subst Stays same (refl, refl, tt))
  edge_stays slots (Unlock m) done q = map_there _ _ done q (λ new there same. subst Stays same (refl, refl, tt))
  edge_stays slots (Create x f) done q =
      let found = slice_get s.program.funcs f in
      subst Stays (same_Some {A = Acted} _ done q) (refl, refl, (new_node f [] found, new_waits f [] found))
  edge_stays slots (Join x) done q = join_stays (slice_index_or s.frame.vars x None) done q
  edge_stays slots (Call d f args) done q = absurd (none-some done q)
  edge_stays slots Skip done q = local_stays slots Skip done q

-- the first frame of a thread that starts is described at its point
start_known : (p : Program) (t : TableValue) (owners : List (Option ℕ)) (number : ℕ) (effect : Effect Frame) (given : List Given) → DescribesEffect p owners number effect given → All (λ (e : Given). BoundsAt t e.target e.value) given
    → IfStarts effect (λ (frame : Frame). DescribesFrame p owners number (state_at p t frame.func empty_key frame.node) frame)
start_known p t owners number Keeps given described bounds = tt
start_known p t owners number (SetsGlobal g n) given described bounds = tt
start_known p t owners number (SetsOwner m owner) given described bounds = tt
start_known p t owners number (Starts frame) given described bounds =
    let one = subst (All (λ (e : Given). BoundsAt t e.target e.value)) described.1 bounds in
    let bound = All-head (λ (e : Given). BoundsAt t e.target e.value) (record { target = Point frame.func empty_key frame.node; value = State described.0 }) [] one in
    target_describes p t frame.func empty_key frame.node described.0 frame.slots owners number bound described.2

-- the owners after a step that starts a thread are those before
start_owners : (c : Config Frame) (thread : ℕ) (mine : List Frame) (effect : Effect Frame) (P : List (Option ℕ) → Frame → Type 0) → IfStarts effect (P (after_effect c thread mine effect).owners) → IfStarts effect (P c.owners)
start_owners c thread mine Keeps P starts = tt
start_owners c thread mine (SetsGlobal g n) P starts = tt
start_owners c thread mine (SetsOwner m owner) P starts = tt
start_owners c thread mine (Starts frame) P starts = starts

described_reached : (slots : List Slot) (s : StateValue) (values : List ℤ) (owners : List (Option ℕ)) (thread : ℕ) → DescribesState slots s values owners thread → is_reached s ≡ true
described_reached slots (Bottom room) values owners thread described = absurd described
described_reached slots (Reached xs locks) values owners thread described = refl

-- what is entered is a call whose arguments have values
call_taken : (s : Site) (e : ℕ) (act : Action) (next : Config Frame) (Goal : Type 0) → after_call s e act ≡ Some next
    → ((d : Option ℕ) (f : ℕ) (args : List Expr) (values : List ℤ) → act ≡ Call d f args → values_of args (func_slots s.program s.frame.func) s.frame.slots ≡ Ok values → after_push s e f values ≡ next → Goal) → Goal
call_taken s e (Call d f args) next Goal q k =
    value_there (values_of args (func_slots s.program s.frame.func) s.frame.slots) _ next q (λ values valued same. k d f args values refl valued (same_Some {A = Config Frame} (after_push s e f values) next same))
call_taken s e (Assign x v) next Goal q k = absurd (none-some next q)
call_taken s e (Read x g) next Goal q k = absurd (none-some next q)
call_taken s e (Write g v) next Goal q k = absurd (none-some next q)
call_taken s e (Nondet x) next Goal q k = absurd (none-some next q)
call_taken s e (Guard v wanted) next Goal q k = absurd (none-some next q)
call_taken s e (Assert v) next Goal q k = absurd (none-some next q)
call_taken s e (Lock m) next Goal q k = absurd (none-some next q)
call_taken s e (Unlock m) next Goal q k = absurd (none-some next q)
call_taken s e (Create x f) next Goal q k = absurd (none-some next q)
call_taken s e (Join x) next Goal q k = absurd (none-some next q)
call_taken s e Skip next Goal q k = absurd (none-some next q)

-- a moment of a thread in a post-solution
module _ (p : Program) (t : TableValue) (formed : IsFormed p) (shaped : IsShaped p t) (post : IsPostSolution p t) (c : Config Frame) (thread : ℕ) (input : ℤ) (known : IsKnown p t c) (top : Frame) (below : List Frame) (there : thread_at c.threads thread ≡ Some (top ∷ below)) where
  abbrev here : Site
  here = record { program = p; config = c; thread = thread; input = input; frame = top; below = below }

  -- ---- an edge is done
  module _ (number : ℕ) (edge : Edge) (at : edge_at p top.func number ≡ Some edge) (leaves : edge.from ≡ top.node) where
    begins : (key : Key) (keys : List Key) → KnowsThread p t c.owners thread (top ∷ below) (key ∷ keys) → DescribesState (slots_at p top.func) (state_at p t top.func key edge.from) top.slots c.owners thread
    begins key keys k = subst (λ (node : ℕ). DescribesState (slots_at p top.func) (state_at p t top.func key node) top.slots c.owners thread) (sym leaves) k.0

    begins_there : (key : Key) (keys : List Key) → KnowsThread p t c.owners thread (top ∷ below) (key ∷ keys) → IsThere t (Point top.func key edge.from)
    begins_there key keys k = point_there p t top.func key edge.from top.slots (slots_described (slots_at p top.func) (state_at p t top.func key edge.from) top.slots c.owners thread (begins key keys k))

    module _ (done : Acted) (acts : action_effect here (func_slots p top.func) edge.act ≡ Some done) where
      abbrev mine : List Frame
      mine = record done.0 { node = edge.to } ∷ below

      is_done : (key : Key) (keys : List Key) → KnowsThread p t c.owners thread (top ∷ below) (key ∷ keys) → IsDone t here (state_at p t top.func key edge.from) edge done
      is_done key keys k = record {
        formed = formed;
        number = number;
        edge_there = at;
        before = record { frame = begins key keys k; globals = known.globals; owners = known.owners };
        acts = acts;
      }

      after_done : (key : Key) (keys : List Key) → KnowsThread p t c.owners thread (top ∷ below) (key ∷ keys)
          → DescribesState (slots_at p top.func) (outcome_of p t top.func key edge).value done.0.slots (after_effect c thread mine done.1).owners thread
      after_done key keys k =
          let owners = (after_effect c thread mine done.1).owners in
          let stays = edge_stays here (func_slots p top.func) edge.act done acts in
          let after = edges_lead_to_states t here (state_at p t top.func key edge.from) edge done mine (is_done key keys k) in
          subst (λ (f : ℕ). DescribesState (slots_at p f) (outcome_of p t top.func key edge).value done.0.slots owners thread) stays.0 after

      own_after : (key : Key) (keys : List Key) → KnowsThread p t c.owners thread (top ∷ below) (key ∷ keys) → KnowsThread p t (after_effect c thread mine done.1).owners thread mine (key ∷ keys)
      own_after key keys k =
          let owners = (after_effect c thread mine done.1).owners in
          let stays = edge_stays here (func_slots p top.func) edge.act done acts in
          let at_end = end_describes p t formed shaped post top.func key number edge at (begins_there key keys k) done.0.slots owners thread (after_done key keys k) in
          subst (λ (f : ℕ). DescribesState (slots_at p f) (state_at p t f key edge.to) done.0.slots owners thread × KnowsCallers p t f key below keys) (sym stays.0) (at_end, k.1)

      does : (key : Key) (keys : List Key) → KnowsThread p t c.owners thread (top ∷ below) (key ∷ keys) → Does p t top key number (record done.0 { node = edge.to })
      does key keys k =
          let stays = edge_stays here (func_slots p top.func) edge.act done acts in
          record {
            edge = edge;
            there = at;
            leaves = leaves;
            no_call = λ d f args is. none-some done (subst (λ (act : Action). action_effect here (func_slots p top.func) act ≡ Some done) is acts);
            reached = described_reached (slots_at p top.func) (outcome_of p t top.func key edge).value done.0.slots (after_effect c thread mine done.1).owners thread (after_done key keys k);
            func = stays.0;
            node = refl;
            waits = stays.1;
          }

      done_steps : (keys : List Key) → KnowsThread p t c.owners thread (top ∷ below) keys → StepsTo p t c thread (top ∷ below) keys (Do number) (after_effect c thread mine done.1)
      done_steps [] k = absurd k
      done_steps (key ∷ keys) k =
          let state = state_at p t top.func key edge.from in
          let bounds = effects_bounded p t formed shaped post top.func key number edge at (begins_there key keys k) in
          let effects = edges_have_effects t here state edge done mine (is_done key keys k) in
          record {
            mine = mine;
            effect = done.1;
            after = key ∷ keys;
            may = action_may here (func_slots p top.func) edge.act done acts;
            leads = refl;
            globals = edges_keep_globals t here state edge done mine (is_done key keys k) bounds;
            starts = start_owners c thread mine done.1 (λ owners frame. DescribesFrame p owners (next_thread c) (state_at p t frame.func empty_key frame.node) frame)
                (start_known p t (after_effect c thread mine done.1).owners (next_thread c) done.1 (outcome_of p t top.func key edge).effects effects bounds);
            fresh = (edge_stays here (func_slots p top.func) edge.act done acts).2;
            own = own_after key keys k;
            goes = (record done.0 { node = edge.to }, refl, refl, does key keys k);
          }

    -- ---- a call is entered
    module _ (d : Option ℕ) (f : ℕ) (args : List Expr) (is : edge.act ≡ Call d f args) (values : List ℤ) (valued : values_of args (func_slots p top.func) top.slots ≡ Ok values) where
      abbrev entered : List Frame
      entered = new_frame p f values ∷ record top { waits = Some number } ∷ below

      entered_steps : (keys : List Key) → KnowsThread p t c.owners thread (top ∷ below) keys → StepsTo p t c thread (top ∷ below) keys (Enter number) (after_effect c thread entered Keeps)
      entered_steps [] k = absurd k
      entered_steps (key ∷ keys) k =
          let state = state_at p t top.func key edge.from in
          let described = begins key keys k in
          let entry = calls_enter p t c.owners thread top state number edge d f args values formed at is described valued in
          let bounds = effects_bounded p t formed shaped post top.func key number edge at (begins_there key keys k) in
          let one = subst (All (λ (e : Given). BoundsAt t e.target e.value)) entry.2 bounds in
          let bound = All-head (λ (e : Given). BoundsAt t e.target e.value) (record { target = Point f entry.0 0; value = State entry.1 }) [] one in
          let func = new_func f values (slice_get p.funcs f) in
          let node = new_node f values (slice_get p.funcs f) in
          let at_entry = subst (λ (g : ℕ). DescribesState (slots_at p g) entry.1 (new_frame p f values).slots c.owners thread) func entry.4 in
          let at_start = target_describes p t f entry.0 0 entry.1 (new_frame p f values).slots c.owners thread bound at_entry in
          let caller : KnowsCaller p t (record top { waits = Some number }) key f entry.0 = record {
            number = number;
            edge = edge;
            destination = d;
            args = args;
            waits = refl;
            there = at;
            leaves = leaves;
            calls = is;
            slots = slots_described (slots_at p top.func) state top.slots c.owners thread described;
            context = entry.3;
          } in
          record {
            mine = entered;
            effect = Keeps;
            after = entry.0 ∷ key ∷ keys;
            may = tt;
            leads = refl;
            globals = known.globals;
            starts = tt;
            fresh = tt;
            own = (
              subst (λ (n : ℕ). DescribesState (slots_at p (new_frame p f values).func) (state_at p t (new_frame p f values).func entry.0 n) (new_frame p f values).slots c.owners thread) (sym node)
                  (subst (λ (g : ℕ). DescribesState (slots_at p g) (state_at p t g entry.0 0) (new_frame p f values).slots c.owners thread) (sym func) at_start),
              subst (λ (g : ℕ). KnowsCallers p t g entry.0 (record top { waits = Some number } ∷ below) (key ∷ keys)) (sym func) (caller, k.1),
            );
            goes = (
              new_frame p f values,
              entry.0,
              refl,
              refl,
              record {
                edge = edge;
                destination = d;
                args = args;
                state = entry.1;
                there = at;
                leaves = leaves;
                calls = subst (λ (g : ℕ). edge.act ≡ Call d g args) (sym func) is;
                effects = subst (λ (g : ℕ). (outcome_of p t top.func key edge).effects ≡ record { target = Point g entry.0 0; value = State entry.1 } ∷ []) (sym func) entry.2;
                node = node;
                waits = new_waits f values (slice_get p.funcs f);
              },
            );
          }

  -- ---- what is taken at the topmost frame
  edge_steps : (keys : List Key) → KnowsThread p t c.owners thread (top ∷ below) keys → (number : ℕ) (edge : Edge) (next : Config Frame) → edge_at p top.func number ≡ Some edge → after_edge here edge ≡ Some next
      → StepsTo p t c thread (top ∷ below) keys (Do number) next
  edge_steps keys k number edge next at q =
      if_there (nat_eq edge.from top.node) _ next q (λ leaves goes.
      map_there (frame_moved here edge.to) (action_effect here (func_slots p top.func) edge.act) next goes (λ done acts same.
      subst (StepsTo p t c thread (top ∷ below) keys (Do number)) same (done_steps number edge at (same_number edge.from top.node leaves) done acts keys k)))

  entry_steps : (keys : List Key) → KnowsThread p t c.owners thread (top ∷ below) keys → (number : ℕ) (edge : Edge) (next : Config Frame) → edge_at p top.func number ≡ Some edge → after_entry here number edge ≡ Some next
      → StepsTo p t c thread (top ∷ below) keys (Enter number) next
  entry_steps keys k number edge next at q =
      if_there (nat_eq edge.from top.node) _ next q (λ leaves goes.
      call_taken here number edge.act next (StepsTo p t c thread (top ∷ below) keys (Enter number) next) goes (λ d f args values is valued same.
      subst (StepsTo p t c thread (top ∷ below) keys (Enter number)) same (entered_steps number edge at (same_number edge.from top.node leaves) d f args is values valued keys k)))

-- ---- a frame returns
module _ (p : Program) (t : TableValue) (formed : IsFormed p) (shaped : IsShaped p t) (post : IsPostSolution p t) (c : Config Frame) (thread : ℕ) (input : ℤ) (known : IsKnown p t c) (top caller : Frame) (rest : List Frame) where
  -- the caller afterwards
  abbrev back : ℕ → Option ℕ → Frame
  back to d = record caller { node = to; slots = with_result (func_slots p caller.func) d (value_at top.slots 0) caller.slots; waits = None }

  module _ (own key : Key) (w : KnowsCaller p t caller own top.func key) (exit : DescribesState (slots_at p top.func) (state_at p t top.func key 1) top.slots c.owners thread) where
    after_return : DescribesState (slots_at p caller.func) (outcome_of p t caller.func own w.edge).value (back w.edge.to w.destination).slots c.owners thread
    after_return =
        returns_lead_to_states p t c.owners thread caller (state_at p t caller.func own w.edge.from) w.number w.edge w.destination top.func w.args key top.slots formed w.there w.calls w.slots w.context exit

    back_described : DescribesFrame p c.owners thread (state_at p t caller.func own w.edge.to) (back w.edge.to w.destination)
    back_described =
        end_describes p t formed shaped post caller.func own w.number w.edge w.there (point_there p t caller.func own w.edge.from caller.slots w.slots) (back w.edge.to w.destination).slots c.owners thread after_return

  back_steps : (keys : List Key) → KnowsThread p t c.owners thread (top ∷ caller ∷ rest) keys → top.node ≡ 1 → (number : ℕ) (edge : Edge) (next : Config Frame) → caller.waits ≡ Some number → edge_at p caller.func number ≡ Some edge
      → after_return_to (record { program = p; config = c; thread = thread; input = input; frame = top; below = caller ∷ rest }) caller rest edge.to edge.act ≡ Some next
      → StepsTo p t c thread (top ∷ caller ∷ rest) keys Leave next
  back_steps [] k at_exit number edge next waits at q = absurd k
  back_steps (key ∷ []) k at_exit number edge next waits at q = absurd k.1
  back_steps (key ∷ own ∷ keys) k at_exit number edge next waits at q =
      let s : Site = record { program = p; config = c; thread = thread; input = input; frame = top; below = caller ∷ rest } in
      let w = k.1.0 in
      let numbers : number ≡ w.number = same_Some number w.number (sym waits ∙ w.waits) in
      let edges : edge ≡ w.edge = same_Some edge w.edge (sym at ∙ subst (λ (n : ℕ). edge_at p caller.func n ≡ Some w.edge) (sym numbers) w.there) in
      let taken = subst (λ (e : Edge). after_return_to s caller rest e.to e.act ≡ Some next) edges q in
      let returns = subst (λ (act : Action). after_return_to s caller rest w.edge.to act ≡ Some next) w.calls taken in
      let exit = subst (λ (node : ℕ). DescribesState (slots_at p top.func) (state_at p t top.func key node) top.slots c.owners thread) at_exit k.0 in
      record {
        mine = back w.edge.to w.destination ∷ rest;
        effect = Keeps;
        after = own ∷ keys;
        may = tt;
        leads = same_Some {A = Config Frame} _ next returns;
        globals = known.globals;
        starts = tt;
        fresh = tt;
        own = (back_described own key w exit, k.1.1);
        goes = (
          back w.edge.to w.destination,
          refl,
          refl,
          record {
            number = w.number;
            edge = w.edge;
            destination = w.destination;
            args = w.args;
            at_exit = at_exit;
            waits = w.waits;
            there = w.there;
            leaves = w.leaves;
            calls = w.calls;
            reached = described_reached (slots_at p caller.func) (outcome_of p t caller.func own w.edge).value (back w.edge.to w.destination).slots c.owners thread (after_return own key w exit);
            func = refl;
            node = refl;
            rests = refl;
          },
        );
      }

-- ---- every label
module _ (p : Program) (t : TableValue) (formed : IsFormed p) (shaped : IsShaped p t) (post : IsPostSolution p t) (c next : Config Frame) (thread : ℕ) (input : ℤ) (known : IsKnown p t c) where
  leave_steps : (top : Frame) (below : List Frame) (keys : List Key) → KnowsThread p t c.owners thread (top ∷ below) keys → top.node ≡ 1
      → after_leave (record { program = p; config = c; thread = thread; input = input; frame = top; below = below }) below ≡ Some next → StepsTo p t c thread (top ∷ below) keys Leave next
  leave_steps top [] keys k at_exit q = absurd (none-some next q)
  leave_steps top (caller ∷ rest) keys k at_exit q =
      option_and_then_some _ caller.waits next q (λ number waits leads.
      option_and_then_some _ (edge_at p caller.func number) next leads (λ edge at returns.
      back_steps p t formed shaped post c thread input known top caller rest keys k at_exit number edge next waits at returns))

  label_steps : (top : Frame) (below : List Frame) (keys : List Key) → thread_at c.threads thread ≡ Some (top ∷ below) → KnowsThread p t c.owners thread (top ∷ below) keys → (label : Label)
      → site_after (record { program = p; config = c; thread = thread; input = input; frame = top; below = below }) label ≡ Some next → StepsTo p t c thread (top ∷ below) keys label next
  label_steps top below keys there k (Do e) q =
      option_and_then_some _ (edge_at p top.func e) next q (λ edge at goes. edge_steps p t formed shaped post c thread input known top below there keys k e edge next at goes)
  label_steps top below keys there k (Enter e) q =
      option_and_then_some _ (edge_at p top.func e) next q (λ edge at goes. entry_steps p t formed shaped post c thread input known top below there keys k e edge next at goes)
  label_steps top below keys there k Leave q =
      if_there (nat_eq top.node 1) _ next q (λ at_exit goes. leave_steps top below keys k (same_number top.node 1 at_exit) goes)

  pub frames_step : (frames : List Frame) (keys : List Key) (label : Label) → thread_at c.threads thread ≡ Some frames → KnowsThread p t c.owners thread frames keys → thread_after p c thread input label frames ≡ Some next
      → StepsTo p t c thread frames keys label next
  frames_step [] keys label there k q = absurd (none-some next q)
  frames_step (top ∷ below) keys label there k q = label_steps top below keys there k label q

pub steps_keep_known : StepsKeepKnown
steps_keep_known p t c next thread input label formed shaped post known q =
    option_and_then_some (thread_after p c thread input label) (thread_at c.threads thread) next q (λ frames there goes.
    let k = known.threads thread frames there in
    let step = frames_step p t formed shaped post c next thread input known frames k.0 label there k.1 goes in
    subst (IsKnown p t) step.leads (known_after p t c thread step.mine frames step.effect step.may known there step.globals (step.after, step.own) step.starts))
