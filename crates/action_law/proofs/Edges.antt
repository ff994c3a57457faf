-- An edge that isn't a call, action by action.
use Rattle.std.proofs.Common.{◌≡◌, ◌∙◌, refl, sym, ap, subst, ℕ, ◌<◌, ℤ, Bool, true, false, List, [], ◌∷◌, length, Option, None, Some, Result, Ok, Err, IsSomeAnd, IsTrue, arith}
use Rattle.std.specs.Prelude.{not, if◌then◌else◌, slice_get, slice_index_or}
use Rattle.std.specs.Option.{option_map}
use Rattle.std.proofs.lemmas.Bool.Decides.{nat_tests}
use Rattle.std.proofs.lemmas.Option.{none-some, same_Some}
use Rattle.gob_tree.specs.Formed.{IsFormedAction, is_plain}
use Rattle.gob_tree.specs.declared.expr.Expr.{Expr}
use Rattle.gob_tree.specs.declared.expr.Width.{Width}
use Rattle.gob_tree.specs.declared.graph.Action.{Action}
use Rattle.gob_tree.specs.declared.graph.Action.TheVariants.{Assign, Read, Write, Nondet, Guard, Assert, Lock, Unlock, Create, Join, Call, Skip}
use Rattle.gob_tree.specs.declared.graph.Edge.{Edge}
use Rattle.gob_tree.specs.declared.graph.FuncGraph.{FuncGraph}
use Rattle.gob_tree.specs.declared.unit.Slot.{Slot}
use Rattle.interval_dom.specs.Bounds.{Bounds, Describes}
use Rattle.lockset_dom.specs.Members.{Holds, with_member}
use Rattle.c_meaning.specs.declared.demand.Demand.{Demand}
use Rattle.c_meaning.specs.Config.{Keeps, SetsGlobal, SetsOwner, after_effect, next_thread, owner_at, owner_after_lock, owner_after_unlock, global_at, global_width}
use Rattle.c_meaning.specs.Demand.{conversion, is_zero, value_of, with_slot}
use Rattle.c_meaning.specs.GraphStep.{Frame, Site, Acted, has_ended, new_frame, same_truth, slots_effect, join_effect, action_effect, with_value}
use Rattle.state_dom.specs.Evaluation.{guarded_by, interval_of}
use Rattle.state_dom.specs.Operators.{converted_to}
use Rattle.state_dom.specs.StateValue.{StateValue, Bottom, Reached, DescribesState, start_of}
use Rattle.state_dom.proofs.Evaluating.{evaluation_describes}
use Rattle.state_dom.proofs.Keeping.{guard_keeps}
use Rattle.state_dom.proofs.Values.{Describes-conversion}
use Rattle.constraint_sys.specs.declared.unknown.Unknown.{Unknown}
use Rattle.constraint_sys.specs.declared.unknown.Unknown.TheVariants.{Point, Global}
use Rattle.constraint_sys.specs.declared.value.Effect.{Effect as Given}
use Rattle.constraint_sys.specs.declared.value.Outcome.{Outcome}
use Rattle.constraint_sys.specs.declared.value.Value.TheVariants.{State}
use Rattle.constraint_sys.specs.Table.{TableValue, empty_key, slots_at}
use Rattle.constraint_sys.specs.Transfer.{assigned, holds, locked, number_at, only, outcome_in, read_from, transfer, width_of_global, written}
use Rattle.action_law.specs.Described.{DescribesEffect, DescribesFrame, DescribesGlobals}
use Rattle.action_law.specs.Laws.{IsDone, EdgesLeadToStates, EdgesHaveEffects}
use Rattle.action_law.proofs.Formed.{edge_formed, func_slots-slots_at, global_width-table}
use Rattle.action_law.proofs.Frames.{assigned_described, any_described, start_described, new_func, new_node}
use Rattle.action_law.proofs.Inverting.{map_there, if_there}
use Rattle.action_law.proofs.Others.{lock_frees, unlock_owned}
use Rattle.action_law.proofs.Owners.{lock_owns, unlock_owns}

abbrev slots_of_site : Site → List Slot
slots_of_site s = slots_at s.program s.frame.func

plain_at : (slots others : List Slot) (e : Expr) → slots ≡ others → IsTrue (is_plain (length others) e) → IsTrue (is_plain (length slots) e)
plain_at slots others e same plain = subst (λ (xs : List Slot). IsTrue (is_plain (length xs) e)) (sym same) plain

-- the wanted truth of a number
wanted_truth : (wanted b : Bool) → same_truth wanted b ≡ true → b ≡ wanted
wanted_truth true b e = e
wanted_truth false true e = sym e
wanted_truth false false e = refl

is_held : (locks m : ℕ) → holds locks m ≡ true → Holds locks m
is_held locks m e = grind (arith, nat_tests)

-- a start that begins a thread
started : (f g node : ℕ) (s : StateValue) → g ≡ f → node ≡ 0
    → ◌≡◌ {A = List Given} (record { target = Point f empty_key 0; value = State s } ∷ []) (record { target = Point g empty_key node; value = State s } ∷ [])
started f g node s same at =
    let target : ◌≡◌ {A = Unknown} (Point f empty_key 0) (Point g empty_key node) = cc in
    ap (λ (u : Unknown). record { target = u; value = State s } ∷ []) target

module _ (t : TableValue) (s : Site) (xs : List Bounds) (locks : ℕ) (frames : List Frame) (described : DescribesFrame s.program s.config.owners s.thread (Reached xs locks) s.frame) where
  -- the outcome describes what is done
  abbrev pub Leads : Outcome → Acted → Type 0
  Leads o done =
      DescribesFrame s.program (after_effect s.config s.thread frames done.1).owners s.thread o.value done.0
      × DescribesEffect s.program (after_effect s.config s.thread frames done.1).owners (next_thread s.config) done.1 o.effects

  -- an action that gives slots alone
  slots_lead : (next : StateValue) (reads : List Unknown) (values : List ℤ) (done : Acted) → DescribesState (slots_of_site s) next values s.config.owners s.thread
      → ◌≡◌ {A = Option Acted} (Some (slots_effect s values)) (Some done) → Leads (record { value = next; effects = []; reads = reads }) done
  slots_lead next reads values done after q = subst (Leads (record { value = next; effects = []; reads = reads })) (same_Some {A = Acted} (slots_effect s values) done q) (after, refl)

  -- an action that leaves the frame alone
  frame_leads : (done : Acted) → ◌≡◌ {A = Option Acted} (Some (s.frame, Keeps)) (Some done) → Leads (only (Reached xs locks)) done
  frame_leads done q = subst (Leads (only (Reached xs locks))) (same_Some {A = Acted} (s.frame, Keeps) done q) (described, refl)

  skip_leads : (done : Acted) → action_effect s (slots_of_site s) Skip ≡ Some done → Leads (only (Reached xs locks)) done
  skip_leads done q = slots_lead (Reached xs locks) [] s.frame.slots done described q

  assign_leads : (x : ℕ) (e : Expr) (done : Acted) → IsTrue (is_plain (length (slots_of_site s)) e) → (r : Result ℤ Demand) → value_of e (slots_of_site s) s.frame.slots ≡ r
      → option_map (slots_effect s) (with_value r (λ n. Some (with_slot (slots_of_site s) x n s.frame.slots))) ≡ Some done
      → Leads (only (assigned (slots_of_site s) xs locks x (interval_of (slots_of_site s) xs e))) done
  assign_leads x e done plain (Ok n) is q =
      let slots = slots_of_site s in
      let within = evaluation_describes slots xs s.frame.slots e n plain described.0 described.1 is in
      let after = assigned_described slots xs locks s.frame.slots s.config.owners s.thread x n (interval_of slots xs e) described within in
      slots_lead (assigned slots xs locks x (interval_of slots xs e)) [] (with_slot slots x n s.frame.slots) done after q
  assign_leads x e done plain (Err d) is q = absurd (none-some done q)

  read_leads : (x g : ℕ) (done : Acted) → IsSomeAnd (number_at t g) (λ (v : Bounds). Describes v (global_at s.config g)) → action_effect s (slots_of_site s) (Read x g) ≡ Some done
      → Leads (read_from t (slots_of_site s) xs locks x g) done
  read_leads x g done within q =
      let slots = slots_of_site s in
      let after = assigned_described slots xs locks s.frame.slots s.config.owners s.thread x (global_at s.config g) (number_at t g) described within in
      slots_lead (assigned slots xs locks x (number_at t g)) (Global g ∷ []) (with_slot slots x (global_at s.config g) s.frame.slots) done after q

  nondet_leads : (x : ℕ) (done : Acted) → action_effect s (slots_of_site s) (Nondet x) ≡ Some done → Leads (outcome_in s.program t (slots_of_site s) xs locks (Nondet x)) done
  nondet_leads x done q =
      let slots = slots_of_site s in
      slots_lead (outcome_in s.program t slots xs locks (Nondet x)).value [] (with_slot slots x s.input s.frame.slots) done (any_described slots xs locks s.frame.slots s.config.owners s.thread x s.input described) q

  -- a guard on a number of a truth
  guarded : (e : Expr) (wanted : Bool) (n : ℤ) (done : Acted) → IsTrue (is_plain (length (slots_of_site s)) e) → value_of e (slots_of_site s) s.frame.slots ≡ Ok n → not (is_zero n) ≡ wanted
      → ◌≡◌ {A = Option Acted} (Some (slots_effect s s.frame.slots)) (Some done) → Leads (only (guarded_by (slots_of_site s) e wanted (Reached xs locks))) done
  guarded e wanted n done plain is truth q =
      slots_lead (guarded_by (slots_of_site s) e wanted (Reached xs locks)) [] s.frame.slots done
      (guard_keeps (slots_of_site s) (Reached xs locks) s.frame.slots s.config.owners s.thread e wanted n plain described is truth) q

  guard_tested : (e : Expr) (wanted : Bool) (n : ℤ) (done : Acted) → IsTrue (is_plain (length (slots_of_site s)) e) → value_of e (slots_of_site s) s.frame.slots ≡ Ok n
      → (b : Bool) → same_truth wanted (not (is_zero n)) ≡ b → option_map (slots_effect s) (if b then Some s.frame.slots else None) ≡ Some done
      → Leads (only (guarded_by (slots_of_site s) e wanted (Reached xs locks))) done
  guard_tested e wanted n done plain is true test q = guarded e wanted n done plain is (wanted_truth wanted (not (is_zero n)) test) q
  guard_tested e wanted n done plain is false test q = absurd (none-some done q)

  guard_leads : (e : Expr) (wanted : Bool) (done : Acted) → IsTrue (is_plain (length (slots_of_site s)) e) → (r : Result ℤ Demand) → value_of e (slots_of_site s) s.frame.slots ≡ r
      → option_map (slots_effect s) (with_value r (λ n. if same_truth wanted (not (is_zero n)) then Some s.frame.slots else None)) ≡ Some done
      → Leads (only (guarded_by (slots_of_site s) e wanted (Reached xs locks))) done
  guard_leads e wanted done plain (Ok n) is q = guard_tested e wanted n done plain is (same_truth wanted (not (is_zero n))) refl q
  guard_leads e wanted done plain (Err d) is q = absurd (none-some done q)

  assert_tested : (e : Expr) (n : ℤ) (done : Acted) → IsTrue (is_plain (length (slots_of_site s)) e) → value_of e (slots_of_site s) s.frame.slots ≡ Ok n
      → (b : Bool) → is_zero n ≡ b → option_map (slots_effect s) (if b then None else Some s.frame.slots) ≡ Some done
      → Leads (only (guarded_by (slots_of_site s) e true (Reached xs locks))) done
  assert_tested e n done plain is true test q = absurd (none-some done q)
  assert_tested e n done plain is false test q = guarded e true n done plain is (ap not test) q

  assert_leads : (e : Expr) (done : Acted) → IsTrue (is_plain (length (slots_of_site s)) e) → (r : Result ℤ Demand) → value_of e (slots_of_site s) s.frame.slots ≡ r
      → option_map (slots_effect s) (with_value r (λ n. if is_zero n then None else Some s.frame.slots)) ≡ Some done
      → Leads (only (guarded_by (slots_of_site s) e true (Reached xs locks))) done
  assert_leads e done plain (Ok n) is q = assert_tested e n done plain is (is_zero n) refl q
  assert_leads e done plain (Err d) is q = absurd (none-some done q)

  -- the value that is written, in the interval that is contributed
  written_leads : (g : ℕ) (n : ℤ) (o : Option Bounds) → IsSomeAnd o (λ (v : Bounds). Describes v n)
      → Leads (written s.program xs locks g o) (s.frame, SetsGlobal g (conversion (global_width s.program.globals g) n))
  written_leads g n None within = absurd within
  written_leads g n (Some v) within =
      let w = width_of_global (slice_get s.program.globals g) in
      let there = subst (λ (u : Width). Describes (converted_to w v) (conversion u n)) (sym (global_width-table s.program.globals g)) (Describes-conversion w v n within) in
      (described, (converted_to w v, refl, there))

  write_leads : (g : ℕ) (e : Expr) (done : Acted) → IsTrue (is_plain (length (slots_of_site s)) e) → (r : Result ℤ Demand) → value_of e (slots_of_site s) s.frame.slots ≡ r
      → ◌≡◌ {A = Option Acted} (with_value r (λ n. Some (s.frame, SetsGlobal g (conversion (global_width s.program.globals g) n)))) (Some done)
      → Leads (written s.program xs locks g (interval_of (slots_of_site s) xs e)) done
  write_leads g e done plain (Ok n) is q =
      let slots = slots_of_site s in
      let within = evaluation_describes slots xs s.frame.slots e n plain described.0 described.1 is in
      subst (Leads (written s.program xs locks g (interval_of slots xs e))) (same_Some {A = Acted} (s.frame, SetsGlobal g (conversion (global_width s.program.globals g) n)) done q)
      (written_leads g n (interval_of slots xs e) within)
  write_leads g e done plain (Err d) is q = absurd (none-some done q)

  -- a mutex that was free is locked: it isn't in the set, and is the thread's
  locked_leads : (m : ℕ) (b : Bool) → holds locks m ≡ b → m < length s.config.owners → owner_at s.config m ≡ None
      → Leads (only (if b then Bottom (length xs) else Reached xs (with_member locks m))) (s.frame, SetsOwner m (Some s.thread))
  locked_leads m true held within free = absurd (none-some s.thread (sym free ∙ described.2 m (is_held locks m held)))
  locked_leads m false held within free = ((described.0, described.1, lock_owns s.config.owners s.thread m locks within described.2), refl)

  lock_leads : (m : ℕ) (done : Acted) → m < length s.config.owners → action_effect s (slots_of_site s) (Lock m) ≡ Some done → Leads (only (locked xs locks m)) done
  lock_leads m done within q =
      map_there _ (owner_after_lock s.thread (owner_at s.config m)) done q (λ new there same.
      let freed = lock_frees s.thread (owner_at s.config m) new there in
      subst (Leads (only (locked xs locks m))) same
      (subst (λ (owner : Option ℕ). Leads (only (locked xs locks m)) (s.frame, SetsOwner m owner)) (sym freed.1) (locked_leads m (holds locks m) refl within freed.0)))

  unlock_leads : (m : ℕ) (done : Acted) → action_effect s (slots_of_site s) (Unlock m) ≡ Some done → Leads (outcome_in s.program t (slots_of_site s) xs locks (Unlock m)) done
  unlock_leads m done q =
      let o = outcome_in s.program t (slots_of_site s) xs locks (Unlock m) in
      map_there _ (owner_after_unlock s.thread (owner_at s.config m)) done q (λ new there same.
      let owned = unlock_owned s.thread (owner_at s.config m) new there in
      subst (Leads o) same
      (subst (λ (owner : Option ℕ). Leads o (s.frame, SetsOwner m owner)) (sym owned.1) ((described.0, described.1, unlock_owns s.config.owners s.thread m locks described.2), refl)))

  create_leads : (x f : ℕ) (done : Acted) → action_effect s (slots_of_site s) (Create x f) ≡ Some done → Leads (outcome_in s.program t (slots_of_site s) xs locks (Create x f)) done
  create_leads x f done q =
      let o = outcome_in s.program t (slots_of_site s) xs locks (Create x f) in
      let found = slice_get s.program.funcs f in
      let start = start_of (length (slots_at s.program f)) in
      subst (Leads o) (same_Some {A = Acted} _ done q)
      (described, (start, started f (new_frame s.program f []).func (new_frame s.program f []).node start (new_func f [] found) (new_node f [] found), start_described s.program s.config.owners (next_thread s.config) f found refl))

  join_leads : (o : Option ℕ) (done : Acted) → join_effect s o ≡ Some done → Leads (only (Reached xs locks)) done
  join_leads None done q = absurd (none-some done q)
  join_leads (Some other) done q = if_there (has_ended s.config other) (Some (s.frame, Keeps)) done q (λ ended same. frame_leads done same)

  -- ---- every action
  action_leads : (function : FuncGraph) (act : Action) (done : Acted) → slots_of_site s ≡ function.slots → DescribesGlobals s.program t s.config → length s.config.owners ≡ length s.program.mutexes
      → IsFormedAction s.program function act → action_effect s (slots_of_site s) act ≡ Some done → Leads (outcome_in s.program t (slots_of_site s) xs locks act) done
  action_leads function (Assign x e) done same globals owners formed q =
      assign_leads x e done (plain_at (slots_of_site s) function.slots e same formed.1) (value_of e (slots_of_site s) s.frame.slots) refl q
  action_leads function (Read x g) done same globals owners formed q = read_leads x g done (globals g formed.1) q
  action_leads function (Write g e) done same globals owners formed q =
      write_leads g e done (plain_at (slots_of_site s) function.slots e same formed.1) (value_of e (slots_of_site s) s.frame.slots) refl q
  action_leads function (Nondet x) done same globals owners formed q = nondet_leads x done q
  action_leads function (Guard e wanted) done same globals owners formed q =
      guard_leads e wanted done (plain_at (slots_of_site s) function.slots e same formed) (value_of e (slots_of_site s) s.frame.slots) refl q
  action_leads function (Assert e) done same globals owners formed q =
      assert_leads e done (plain_at (slots_of_site s) function.slots e same formed) (value_of e (slots_of_site s) s.frame.slots) refl q
  action_leads function (Lock m) done same globals owners formed q = lock_leads m done (subst (λ (n : ℕ). m < n) (sym owners) formed) q
  action_leads function (Unlock m) done same globals owners formed q = unlock_leads m done q
  action_leads function (Create x f) done same globals owners formed q = create_leads x f done q
  action_leads function (Join x) done same globals owners formed q = join_leads (slice_index_or s.frame.vars x None) done q
  action_leads function (Call d f args) done same globals owners formed q = absurd (none-some done q)
  action_leads function Skip done same globals owners formed q = skip_leads done q

-- ---- the law
edge_leads : (t : TableValue) (s : Site) (state : StateValue) (edge : Edge) (done : Acted) (frames : List Frame) → IsDone t s state edge done
    → DescribesFrame s.program (after_effect s.config s.thread frames done.1).owners s.thread (transfer s.program t s.frame.func edge.act state).value done.0
    × DescribesEffect s.program (after_effect s.config s.thread frames done.1).owners (next_thread s.config) done.1 (transfer s.program t s.frame.func edge.act state).effects
edge_leads t s (Bottom room) edge done frames it = absurd it.before.frame
edge_leads t s (Reached xs locks) edge done frames it =
    let at = edge_formed s.program it.formed s.frame.func it.number edge it.edge_there in
    let acts = subst (λ (slots : List Slot). action_effect s slots edge.act ≡ Some done) (func_slots-slots_at s.program s.frame.func) it.acts in
    action_leads t s xs locks frames it.before.frame at.function edge.act done at.there.slots it.before.globals it.before.owners at.formed.action acts

pub edges_lead_to_states : EdgesLeadToStates
edges_lead_to_states t s state edge done frames it = (edge_leads t s state edge done frames it).0

pub edges_have_effects : EdgesHaveEffects
edges_have_effects t s state edge done frames it = (edge_leads t s state edge done frames it).1
