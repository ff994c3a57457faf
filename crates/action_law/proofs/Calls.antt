-- The start of a call, and the return.
use Rattle.std.proofs.Common.{◌≡◌, ◌∙◌, refl, sym, ap, subst, ℕ, ◌<◌, ℤ, List, [], ◌∷◌, length, map, Option, None, Some, Result, Ok, Err, IsSomeAnd, IsTrue, arith}
use Rattle.std.specs.Prelude.{All, slice_get}
use Rattle.std.proofs.lemmas.List.Elements.{All-head, All-tail}
use Rattle.gob_tree.specs.Formed.{IsFormed, IsFormedAction, is_plain}
use Rattle.gob_tree.specs.declared.expr.Expr.{Expr}
use Rattle.gob_tree.specs.declared.graph.Action.{Action}
use Rattle.gob_tree.specs.declared.graph.Action.TheVariants.{Call}
use Rattle.gob_tree.specs.declared.graph.Edge.{Edge}
use Rattle.gob_tree.specs.declared.graph.FuncGraph.{FuncGraph}
use Rattle.gob_tree.specs.declared.graph.Program.{Program}
use Rattle.gob_tree.specs.declared.unit.FuncKind.TheVariants.{Thread}
use Rattle.gob_tree.specs.declared.unit.Slot.{Slot}
use Rattle.interval_dom.specs.Bounds.{Bounds, Describes}
use Rattle.c_meaning.specs.declared.demand.Demand.{Demand}
use Rattle.c_meaning.specs.Demand.{Answer, answers_of, and_then, on_answer, meaning_of, value_at, values_of}
use Rattle.c_meaning.specs.GraphStep.{Frame, func_slots, new_frame, with_result}
use Rattle.state_dom.specs.Evaluation.{interval_of}
use Rattle.state_dom.specs.StateValue.{StateValue, Bottom, Reached, HoldsEach, DescribesEach, OwnsEach, DescribesState}
use Rattle.state_dom.proofs.Evaluating.{expr_agrees, evaluation_describes}
use Rattle.state_dom.proofs.Slots.{slot_described}
use Rattle.constraint_sys.specs.declared.unknown.Key.{Key}
use Rattle.constraint_sys.specs.declared.unknown.Unknown.{Unknown}
use Rattle.constraint_sys.specs.declared.unknown.Unknown.TheVariants.{Point}
use Rattle.constraint_sys.specs.declared.value.Outcome.{Outcome}
use Rattle.constraint_sys.specs.declared.value.Value.TheVariants.{State}
use Rattle.constraint_sys.specs.Table.{TableValue, params_at, slots_at, state_at}
use Rattle.constraint_sys.specs.Transfer as transfers
use Rattle.constraint_sys.specs.Transfer.{called, frame_of, key_of, returned, transfer, with_values}
use Rattle.constraint_sys.proofs.Fitting.{function_with}
use Rattle.action_law.specs.Described.{DescribesFrame}
use Rattle.action_law.specs.Laws.{CallsEnter, ReturnsLeadToStates}
use Rattle.action_law.proofs.Formed.{edge_formed, func_slots-slots_at}
use Rattle.action_law.proofs.Frames.{assigned_described, new_described}

-- ---- the values of arguments

abbrev value : {A : Type 0} → A → Result A Demand
value v = Ok v

failed_none : {A : Type 0} (d : Demand) (v : A) → ◌≡◌ {A = Result A Demand} (Err d) (Ok v) → ⊥
failed_none d v e = cc

answer_there : {A B : Type 0} (r : Result A Demand) (rest : List ℤ) (go : A → List ℤ → Answer B) (y : B) (Goal : Type 0) → (on_answer r rest go).0 ≡ Ok y → ((x : A) → r ≡ Ok x → (go x rest).0 ≡ Ok y → Goal) → Goal
answer_there (Ok x) rest go y Goal e k = k x refl e
answer_there (Err d) rest go y Goal e k = absurd (failed_none d y e)

some_there : {P : Bounds → Type 0} (o : Option Bounds) → IsSomeAnd o P → (v : Bounds) × (o ≡ Some v) × P v
some_there None there = absurd there
some_there (Some v) there = (v, refl, there)

module _ (slots : List Slot) (xs : List Bounds) (values : List ℤ) (holds : HoldsEach slots values) (described : DescribesEach xs values) where
  -- the arguments have intervals, in which their values are
  abbrev HasIntervals : List Expr → List ℤ → Type 0
  HasIntervals args ns = (vs : List Bounds) × (transfers.values_of slots xs args ≡ Some vs) × DescribesEach vs ns

  intervals_more : (e : Expr) (args : List Expr) (n : ℤ) (ns : List ℤ) → IsSomeAnd (interval_of slots xs e) (λ (v : Bounds). Describes v n) → HasIntervals args ns → HasIntervals (e ∷ args) (n ∷ ns)
  intervals_more e args n ns first rest =
      let one = some_there (interval_of slots xs e) first in (
        one.0 ∷ rest.0,
        ap (λ (o : Option Bounds). with_values o (transfers.values_of slots xs args)) one.1 ∙ ap (λ (o : Option (List Bounds)). with_values (Some one.0) o) rest.1,
        (one.2, rest.2),
      )

  intervals_there : (args : List Expr) (ns : List ℤ) → All (λ (e : Expr). IsTrue (is_plain (length slots) e)) args → (answers_of (map meaning_of args) slots values []).0 ≡ Ok ns → HasIntervals args ns
  intervals_there [] ns plain q =
      let none : [] ≡ ns = cc in
      subst (HasIntervals []) none ([], refl, tt)
  intervals_there (e ∷ args) ns plain q =
      let first = All-head (λ (a : Expr). IsTrue (is_plain (length slots) a)) e args plain in
      let answer = (meaning_of e).answer slots values [] in
      let left = (expr_agrees slots xs values holds described e first).1 [] in
      answer_there answer.0 answer.1 _ ns (HasIntervals (e ∷ args) ns) q (λ n is rest.
      let others = subst (λ (ins : List ℤ). (and_then (answers_of (map meaning_of args) slots values ins) (λ ms ins'. (Ok (n ∷ ms), ins'))).0 ≡ Ok ns) left.0 rest in
      answer_there (answers_of (map meaning_of args) slots values []).0 (answers_of (map meaning_of args) slots values []).1 (λ ms ins'. (Ok (n ∷ ms), ins')) ns (HasIntervals (e ∷ args) ns) others (λ ms are whole.
      let all : n ∷ ms ≡ ns = cc in
      subst (HasIntervals (e ∷ args)) all
      (intervals_more e args n ms (evaluation_describes slots xs values e n first holds described is)
      (intervals_there args ms (All-tail (λ (a : Expr). IsTrue (is_plain (length slots) a)) e args plain) are))))

-- ---- the start

-- the effect and the read of an outcome are a callee's start and exit in one context
abbrev Enters : Program → List (Option ℕ) → ℕ → ℕ → List ℤ → Outcome → Type 0
Enters p owners thread f values o =
    (key : Key) × (entry : StateValue)
    × (o.effects ≡ record { target = Point f key 0; value = State entry } ∷ [])
    × (o.reads ≡ Point f key 1 ∷ [])
    × DescribesFrame p owners thread entry (new_frame p f values)

called_enters : (p : Program) (t : TableValue) (owners : List (Option ℕ)) (thread : ℕ) (slots : List Slot) (xs : List Bounds) (locks : ℕ) (d : Option ℕ) (f : ℕ) (vs : List Bounds) (ns : List ℤ) → DescribesEach vs ns → OwnsEach owners thread locks
    → Enters p owners thread f ns (called p t slots xs locks d f (Some vs))
called_enters p t owners thread slots xs locks d f vs ns each owns =
    (key_of (params_at p f) (frame_of (slots_at p f) vs) locks, Reached (frame_of (slots_at p f) vs) locks, refl, refl, new_described p owners thread f locks vs ns (slice_get p.funcs f) refl each owns)

call_enters : (p : Program) (t : TableValue) (owners : List (Option ℕ)) (thread : ℕ) (frame : Frame) (xs : List Bounds) (locks : ℕ) (d : Option ℕ) (f : ℕ) (args : List Expr) (ns : List ℤ)
    → DescribesFrame p owners thread (Reached xs locks) frame → All (λ (e : Expr). IsTrue (is_plain (length (slots_at p frame.func)) e)) args → values_of args (slots_at p frame.func) frame.slots ≡ Ok ns
    → Enters p owners thread f ns (transfer p t frame.func (Call d f args) (Reached xs locks))
call_enters p t owners thread frame xs locks d f args ns described plain q =
    let slots = slots_at p frame.func in
    let found = intervals_there slots xs frame.slots described.0 described.1 args ns plain q in
    subst (λ (o : Option (List Bounds)). Enters p owners thread f ns (called p t slots xs locks d f o)) (sym found.1) (called_enters p t owners thread slots xs locks d f found.0 ns found.2 described.2)

-- the arguments of a call are plain, and the callee is there
call_formed : (p : Program) (function : FuncGraph) (slots : List Slot) (edge : Edge) (d : Option ℕ) (f : ℕ) (args : List Expr) → slots ≡ function.slots → edge.act ≡ Call d f args → IsFormedAction p function edge.act
    → All (λ (e : Expr). IsTrue (is_plain (length slots) e)) args × IsSomeAnd (slice_get p.funcs f) (λ (g : FuncGraph). (length args ≡ g.params) × (g.kind ≡ Thread → ⊥))
call_formed p function slots edge d f args same is formed =
    let call = subst (IsFormedAction p function) is formed in
    (subst (λ (ss : List Slot). All (λ (e : Expr). IsTrue (is_plain (length ss) e)) args) (sym same) call.3, call.2)

pub calls_enter : CallsEnter
calls_enter p t owners thread frame (Bottom room) number edge d f args ns formed at is described q = absurd described
calls_enter p t owners thread frame (Reached xs locks) number edge d f args ns formed at is described q =
    let here = edge_formed p formed frame.func number edge at in
    let call = call_formed p here.function (slots_at p frame.func) edge d f args here.there.slots is here.formed.action in
    let values = subst (λ (slots : List Slot). values_of args slots frame.slots ≡ Ok ns) (func_slots-slots_at p frame.func) q in
    subst (λ (act : Action). Enters p owners thread f ns (transfer p t frame.func act (Reached xs locks))) (sym is)
    (call_enters p t owners thread frame xs locks d f args ns described call.0 values)

-- ---- the return

returned_described : (p : Program) (owners : List (Option ℕ)) (thread : ℕ) (slots callees : List Slot) (xs : List Bounds) (d : Option ℕ) (exit : StateValue) (own values : List ℤ)
    → 0 < length callees → HoldsEach slots own → DescribesEach xs own → DescribesState callees exit values owners thread
    → DescribesState slots (returned slots xs d exit) (with_result slots d (value_at values 0) own) owners thread
returned_described p owners thread slots callees xs d (Bottom room) own values some holds each exit = absurd exit
returned_described p owners thread slots callees xs None (Reached ys locks) own values some holds each exit = (holds, each, exit.2)
returned_described p owners thread slots callees xs (Some x) (Reached ys locks) own values some holds each exit =
    assigned_described slots xs locks own owners thread x (value_at values 0) (slice_get ys 0) (holds, each, exit.2) (slot_described callees ys values 0 some exit.0 exit.1).1

-- the key of the point that is read
key_read : (f : ℕ) (a b : Key) → ◌≡◌ {A = List Unknown} (Point f a 1 ∷ []) (Point f b 1 ∷ []) → a ≡ b
key_read f a b e = cc

none_read : (f : ℕ) (key : Key) → ◌≡◌ {A = List Unknown} [] (Point f key 1 ∷ []) → ⊥
none_read f key e = cc

call_returns : (p : Program) (t : TableValue) (owners : List (Option ℕ)) (thread : ℕ) (slots : List Slot) (xs : List Bounds) (locks : ℕ) (d : Option ℕ) (f : ℕ) (key : Key) (own values : List ℤ) (o : Option (List Bounds))
    → 0 < length (slots_at p f) → HoldsEach slots own → DescribesEach xs own → (called p t slots xs locks d f o).reads ≡ Point f key 1 ∷ []
    → DescribesState (slots_at p f) (state_at p t f key 1) values owners thread
    → DescribesState slots (called p t slots xs locks d f o).value (with_result slots d (value_at values 0) own) owners thread
call_returns p t owners thread slots xs locks d f key own values None some holds each reads exit = absurd (none_read f key reads)
call_returns p t owners thread slots xs locks d f key own values (Some vs) some holds each reads exit =
    let mine = key_of (params_at p f) (frame_of (slots_at p f) vs) locks in
    returned_described p owners thread slots (slots_at p f) xs d (state_at p t f mine 1) own values some holds each
    (subst (λ (k : Key). DescribesState (slots_at p f) (state_at p t f k 1) values owners thread) (sym (key_read f mine key reads)) exit)

-- a function that is there has slot 0
has_slots : (p : Program) → IsFormed p → (f : ℕ) (P : FuncGraph → Type 0) → IsSomeAnd (slice_get p.funcs f) P → 0 < length (slots_at p f)
has_slots p formed f P there =
    let found = function_with p P formed f (slice_get p.funcs f) refl there in
    omega (arith, found.1.formed.returned_and_params, ap length found.1.slots)

pub returns_lead_to_states : ReturnsLeadToStates
returns_lead_to_states p t owners thread caller (Bottom room) number edge d f args key values formed at is own reads exit = absurd own
returns_lead_to_states p t owners thread caller (Reached xs locks) number edge d f args key values formed at is own reads exit =
    let slots = slots_at p caller.func in
    let here = edge_formed p formed caller.func number edge at in
    let call = call_formed p here.function slots edge d f args here.there.slots is here.formed.action in
    let there = has_slots p formed f _ call.1 in
    let reading = subst (λ (act : Action). (transfer p t caller.func act (Reached xs locks)).reads ≡ Point f key 1 ∷ []) is reads in
    subst (λ (act : Action). DescribesState slots (transfer p t caller.func act (Reached xs locks)).value (with_result (func_slots p caller.func) d (value_at values 0) caller.slots) owners thread) (sym is)
    (subst (λ (ss : List Slot). DescribesState slots (transfer p t caller.func (Call d f args) (Reached xs locks)).value (with_result ss d (value_at values 0) caller.slots) owners thread) (sym (func_slots-slots_at p caller.func))
    (call_returns p t owners thread slots xs locks d f key caller.slots values (transfers.values_of slots xs args) there own.0 own.1 reading exit))
