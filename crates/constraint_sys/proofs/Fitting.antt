-- What an edge gives fits: its state the slots of the function, its effects their targets.
use Rattle.std.proofs.Common.{◌≡◌, ◌≢◌, ◌⊎◌, inl, inr, ℕ, ◌+◌, ◌<◌, ◌≤◌, Bool, true, false, cond, nat_lt, pos, List, [], ◌∷◌, Option, None, Some, refl, sym, ap, ◌∙◌, arith, subst, true≢false, is_some}
use Rattle.std.specs.Prelude.{All, IsSomeAnd, length, slice_get}
use Rattle.std.proofs.lemmas.Bool.{cases_lt}
use Rattle.std.proofs.lemmas.Bool.Decides.{nat_tests}
use Rattle.std.proofs.lemmas.List.Elements.{All-nil, All-cons, All-get_or}
use Rattle.std.proofs.lemmas.Option.{get_or_from_slice_get, slice_get_within, slice_get_cases}
use Rattle.gob_tree.specs.Formed.{IsFormed, IsFormedAction, IsFormedFunction, IsThreadFunction}
use Rattle.gob_tree.specs.declared.expr.Expr.{Expr}
use Rattle.gob_tree.specs.declared.graph.Action.{Action}
use Rattle.gob_tree.specs.declared.graph.Action.TheVariants.{Assign, Read, Write, Nondet, Guard, Assert, Lock, Unlock, Create, Join, Call, Skip}
use Rattle.gob_tree.specs.declared.graph.FuncGraph.{FuncGraph}
use Rattle.gob_tree.specs.declared.graph.Program.{Program}
use Rattle.gob_tree.specs.declared.unit.FuncKind.TheVariants.{Thread}
use Rattle.gob_tree.specs.declared.unit.GlobalDecl.{GlobalDecl}
use Rattle.gob_tree.specs.declared.unit.Slot.{Slot}
use Rattle.interval_dom.specs.Bounds.{Bounds, Covers}
use Rattle.interval_dom.specs.Ranges.{full}
use Rattle.interval_dom.proofs.Within.{fitted-within}
use Rattle.lockset_dom.specs.Members.{with_member, without_member}
use Rattle.lockset_dom.proofs.Membership.{Holds-with_member, Holds-without_member}
use Rattle.c_meaning.specs.Demand.{slot_width}
use Rattle.state_dom.specs.Evaluation.{guarded_by, interval_of}
use Rattle.state_dom.specs.Operators.{converted_to, interval_width_of}
use Rattle.state_dom.specs.StateValue.{StateValue, Bottom, Reached, locks_of, start_of, FitsEach, HasShape}
use Rattle.constraint_sys.specs.declared.unknown.ArgKey.TheVariants.{Absent, Zero, One, Any}
use Rattle.constraint_sys.specs.declared.unknown.Unknown.TheVariants.{Point}
use Rattle.constraint_sys.specs.declared.value.Effect.{Effect}
use Rattle.constraint_sys.specs.declared.value.Outcome.{Outcome}
use Rattle.constraint_sys.specs.declared.value.Value.TheVariants.{State}
use Rattle.constraint_sys.specs.Arising.{MayArise}
use Rattle.constraint_sys.specs.Sound.{IsKeyOf, IsMutexSet, IsShaped, IsShapedEntry, IsStarted}
use Rattle.constraint_sys.specs.Table.{TableValue, shown, empty_key, slots_at, slots_of_function, nodes_at, nodes_of_function, state_at, params_at, params_of_function}
use Rattle.constraint_sys.specs.Transfer.{arg_key, assigned, called, filled, frame_of, holds, is_number, key_of, number_at, outcome_in, param_key, returned, values_of, width_of_global, written}
use Rattle.constraint_sys.proofs.Guarded.{kept_guarded}
use Rattle.constraint_sys.proofs.Shaping.{FitsEach-set, IsMutexSet-state_at, length-fitted, no_mutex}
use Rattle.constraint_sys.proofs.Zeros.{zero_fits, start_fits}

-- an effect's value fits its target, which may arise by it
pub record IsFitEffect (p : Program) (e : Effect) : Type 0 where
  pub fits : IsShapedEntry p e.target e.value
  pub arises : MayArise e.target
  pub shows : shown (Some e.value) ≡ Some e.value

pub record IsFitState (p : Program) (slots : List Slot) (s : StateValue) : Type 0 where
  pub shape : HasShape slots s
  pub mutexes : IsMutexSet p (locks_of s)

pub record IsFitOutcome (p : Program) (slots : List Slot) (o : Outcome) : Type 0 where
  pub state : IsFitState p slots o.value
  pub effects : All (IsFitEffect p) o.effects

-- ---- functions of a formed program
pub function_formed : (p : Program) → IsFormed p → (f : ℕ) (function : FuncGraph) → slice_get p.funcs f ≡ Some function → IsFormedFunction p function
function_formed p formed f function at =
    subst (IsFormedFunction p) (get_or_from_slice_get p.funcs f function function at) (All-get_or (IsFormedFunction p) p.funcs f function (slice_get_within p.funcs f function at) formed.functions_formed)

-- what a formed function has
pub record IsFunctionAt (p : Program) (f : ℕ) (function : FuncGraph) : Type 0 where
  pub at : slice_get p.funcs f ≡ Some function
  pub formed : IsFormedFunction p function
  pub slots : slots_at p f ≡ function.slots
  pub params : params_at p f ≡ function.params
  pub nodes : nodes_at p f ≡ function.nodes

pub function_there : (p : Program) → IsFormed p → (f : ℕ) (function : FuncGraph) → slice_get p.funcs f ≡ Some function → IsFunctionAt p f function
function_there p formed f function at = record {
  at = at;
  formed = function_formed p formed f function at;
  slots = ap slots_of_function at;
  params = ap params_of_function at;
  nodes = ap nodes_of_function at;
}

-- a function of which something holds
pub function_with : (p : Program) (P : FuncGraph → Type 0) → IsFormed p → (f : ℕ) (o : Option FuncGraph) → slice_get p.funcs f ≡ o → IsSomeAnd o P → (function : FuncGraph) × IsFunctionAt p f function × P function
function_with p P formed f None at there = absurd there
function_with p P formed f (Some function) at there = (function, function_there p formed f function at, there)

-- ---- states
bottom_fits : (p : Program) (slots : List Slot) (state : List Bounds) → FitsEach slots state → IsFitState p slots (Bottom (length state))
bottom_fits p slots state fits = record { shape = length-fitted slots state fits; mutexes = no_mutex p }

bottom_only : (p : Program) (slots : List Slot) (state : List Bounds) → FitsEach slots state → IsFitOutcome p slots (record { value = Bottom (length state); effects = []; reads = [] })
bottom_only p slots state fits = record { state = bottom_fits p slots state fits; effects = All-nil (IsFitEffect p) }

assigned_fits : (p : Program) (slots : List Slot) (state : List Bounds) (locks x : ℕ) (v : Option Bounds) → FitsEach slots state → IsMutexSet p locks → IsFitState p slots (assigned slots state locks x v)
assigned_fits p slots state locks x None fits mutexes = bottom_fits p slots state fits
assigned_fits p slots state locks x (Some v) fits mutexes =
    let w = slot_width slots x in
    record { shape = FitsEach-set slots state x (converted_to w v) fits (fitted-within (interval_width_of w) v); mutexes = mutexes }

reached_fits : (p : Program) (slots : List Slot) (state : List Bounds) (locks : ℕ) → FitsEach slots state → IsMutexSet p locks → IsFitState p slots (Reached state locks)
reached_fits p slots state locks fits mutexes = record { shape = fits; mutexes = mutexes }

guarded_fits : (p : Program) (slots : List Slot) (e : Expr) (wanted : Bool) (state : List Bounds) (locks : ℕ) → FitsEach slots state → IsMutexSet p locks → IsFitState p slots (guarded_by slots e wanted (Reached state locks))
guarded_fits p slots e wanted state locks fits mutexes =
    let kept = kept_guarded slots e wanted (Reached state locks) fits in
    record { shape = kept.shape; mutexes = λ m held. mutexes m (kept.locks m held) }

locked_fits : (p : Program) (slots : List Slot) (state : List Bounds) (locks m : ℕ) → m < length p.mutexes → FitsEach slots state → IsMutexSet p locks → (b : Bool) → IsFitState p slots (cond b (Bottom (length state)) (Reached state (with_member locks m)))
locked_fits p slots state locks m within fits mutexes true = bottom_fits p slots state fits
locked_fits p slots state locks m within fits mutexes false = record {
  shape = fits;
  mutexes = λ k held. elim ((Holds-with_member locks m k).0 held) [ inl same ↦ subst (λ (n : ℕ). n < length p.mutexes) (sym same) within | inr old ↦ mutexes k old ];
}

-- ---- a called function's frame
pub filled_fits : (slots : List Slot) (vs : List Bounds) → FitsEach slots (filled slots vs)
filled_fits [] vs = tt
filled_fits (slot ∷ slots) [] = (zero_fits slot.width, filled_fits slots [])
filled_fits (slot ∷ slots) (v ∷ vs) = (fitted-within (interval_width_of slot.width) v, filled_fits slots vs)

pub frame_fits : (slots : List Slot) (vs : List Bounds) → FitsEach slots (frame_of slots vs)
frame_fits [] vs = tt
frame_fits (slot ∷ slots) vs = (zero_fits slot.width, filled_fits slots vs)

-- ---- contexts
known_choice : (b c : Bool) → cond b Zero (cond c One Any) ≢ Absent
known_choice true c same = cc same
known_choice false true same = cc same
known_choice false false same = cc same

known : (v : Bounds) → arg_key (Some v) ≢ Absent
known v same = known_choice (is_number (pos 0) v) (is_number (pos 1) v) same

param_key-lacks : (params : ℕ) (frame : List Bounds) (i : ℕ) → params ≤ i → param_key params frame i ≡ Absent
param_key-lacks params frame i past = let test : nat_lt i params ≡ false = grind (arith, nat_tests) in rw test refl

param_key-has : (params : ℕ) (frame : List Bounds) (i : ℕ) → i < params → params < length frame → param_key params frame i ≢ Absent
param_key-has params frame i has room same =
    let test : nat_lt i params ≡ true = grind (arith, nat_tests) in
    elim ((slice_get_cases frame (i + 1)).1) [
      | inl found ↦ known found.0 (sym (ap arg_key found.2) ∙ sym (rw test refl) ∙ same)
      | inr past ↦ absurd (omega (arith, past.0))
    ]

nat_cases : (n i : ℕ) → (n ≤ i) ⊎ (i < n)
nat_cases n i = elim (cases_lt i n) [ inl below ↦ inr below | inr past ↦ inl past ]

IsKeyOf-call : (p : Program) (f : ℕ) (function : FuncGraph) (frame : List Bounds) (locks : ℕ) → IsFunctionAt p f function → length frame ≡ length function.slots → IsMutexSet p locks → (IsStarted p f → ⊥) → IsKeyOf p f (key_of (params_at p f) frame locks)
IsKeyOf-call p f function frame locks called room mutexes not_started =
    let enough : params_at p f < length frame = omega (arith, called.formed.returned_and_params, called.params, room) in
    record {
      first = (
        λ none. elim (nat_cases (params_at p f) 0) [ inl few ↦ omega (arith, few) | inr more ↦ absurd (param_key-has (params_at p f) frame 0 more enough none) ],
        λ none. param_key-lacks (params_at p f) frame 0 (omega (arith, none)),
      );
      second = (
        λ none. elim (nat_cases (params_at p f) 1) [ inl few ↦ few | inr more ↦ absurd (param_key-has (params_at p f) frame 1 more enough none) ],
        λ few. param_key-lacks (params_at p f) frame 1 few,
      );
      mutexes = mutexes;
      started = λ started. absurd (not_started started);
    }

pub IsKeyOf-empty : (p : Program) (f : ℕ) (function : FuncGraph) → IsFunctionAt p f function → function.params ≡ 0 → IsKeyOf p f empty_key
IsKeyOf-empty p f function there none = record {
  first = (λ _. there.params ∙ none, λ _. refl);
  second = (λ _. omega (arith, there.params, none), λ _. refl);
  mutexes = no_mutex p;
  started = λ _. refl;
}

-- ---- effects
none_past : {X : Type 0} (xs : List X) (i : ℕ) → slice_get xs i ≡ None → i < length xs → ⊥
none_past xs i none within = elim ((slice_get_cases xs i).1) [
  | inl found ↦ true≢false (sym (ap is_some found.2) ∙ ap is_some none)
  | inr past ↦ omega (arith, past.0)
]

write_fits : (p : Program) (g : ℕ) (o : Option GlobalDecl) (v : Bounds) → slice_get p.globals g ≡ o → g < length p.globals → IsSomeAnd o (λ (decl : GlobalDecl). Covers (full (interval_width_of decl.width)) (converted_to (width_of_global o) v))
write_fits p g None v at within = absurd (none_past p.globals g at within)
write_fits p g (Some decl) v at within = fitted-within (interval_width_of decl.width) v

written_fits : (p : Program) (slots : List Slot) (state : List Bounds) (locks g : ℕ) (v : Option Bounds) → g < length p.globals → FitsEach slots state → IsMutexSet p locks → IsFitOutcome p slots (written p state locks g v)
written_fits p slots state locks g None within fits mutexes = bottom_only p slots state fits
written_fits p slots state locks g (Some v) within fits mutexes = record {
  state = reached_fits p slots state locks fits mutexes;
  effects = All-cons (IsFitEffect p) _ [] (record { fits = write_fits p g (slice_get p.globals g) v refl within; arises = tt; shows = refl }) (All-nil (IsFitEffect p));
}

created_fits : (p : Program) → IsFormed p → (slots : List Slot) (state : List Bounds) (locks f : ℕ) → IsSomeAnd (slice_get p.funcs f) IsThreadFunction → FitsEach slots state → IsMutexSet p locks
    → IsFitOutcome p slots (record { value = Reached state locks; effects = record { target = Point f empty_key 0; value = State (start_of (length (slots_at p f))) } ∷ []; reads = [] })
created_fits p formed slots state locks f thread fits mutexes =
    let found = function_with p IsThreadFunction formed f (slice_get p.funcs f) refl thread in
    let there = found.1 in
    record {
      state = reached_fits p slots state locks fits mutexes;
      effects = All-cons (IsFitEffect p) _ [] (record {
        fits = record {
          within = omega (arith, there.formed.entry_and_exit, ap length there.nodes);
          context = IsKeyOf-empty p f found.0 there (there.formed.thread_has_no_params found.2);
          shape = start_fits (slots_at p f);
          mutexes = no_mutex p;
        };
        arises = tt;
        shows = refl;
      }) (All-nil (IsFitEffect p));
    }

returned_fits : (p : Program) (slots : List Slot) (state : List Bounds) (d : Option ℕ) (exit : StateValue) → FitsEach slots state → IsMutexSet p (locks_of exit) → IsFitState p slots (returned slots state d exit)
returned_fits p slots state d (Bottom room) fits mutexes = bottom_fits p slots state fits
returned_fits p slots state None (Reached exit locks) fits mutexes = reached_fits p slots state locks fits mutexes
returned_fits p slots state (Some x) (Reached exit locks) fits mutexes = assigned_fits p slots state locks x (slice_get exit 0) fits mutexes

-- main is an int function
not_thread : (p : Program) → IsFormed p → (f : ℕ) (function : FuncGraph) → slice_get p.funcs f ≡ Some function → f ≢ p.main → function.kind ≢ Thread → IsStarted p f → ⊥
not_thread p formed f function at other kind started = elim started [
  | inl same ↦ other same
  | inr thread ↦ kind (subst (λ (o : Option FuncGraph). IsSomeAnd o IsThreadFunction) at thread)
]

called_fits : (p : Program) → IsFormed p → (t : TableValue) → IsShaped p t → (slots : List Slot) (state : List Bounds) (locks : ℕ) (d : Option ℕ) (f : ℕ) (args : Option (List Bounds)) → f ≢ p.main
    → IsSomeAnd (slice_get p.funcs f) (λ (g : FuncGraph). g.kind ≢ Thread) → FitsEach slots state → IsMutexSet p locks → IsFitOutcome p slots (called p t slots state locks d f args)
called_fits p formed t shaped slots state locks d f None other kind fits mutexes = bottom_only p slots state fits
called_fits p formed t shaped slots state locks d f (Some args) other kind fits mutexes =
    let found = function_with p (λ (g : FuncGraph). g.kind ≢ Thread) formed f (slice_get p.funcs f) refl kind in
    let there = found.1 in
    let frame = frame_of (slots_at p f) args in
    let key = key_of (params_at p f) frame locks in
    let shape = frame_fits (slots_at p f) args in
    record {
      state = returned_fits p slots state d (state_at p t f key 1) fits (IsMutexSet-state_at p t f key 1 shaped);
      effects = All-cons (IsFitEffect p) _ [] (record {
        fits = record {
          within = omega (arith, there.formed.entry_and_exit, ap length there.nodes);
          context = IsKeyOf-call p f found.0 frame locks there (length-fitted (slots_at p f) frame shape ∙ ap length there.slots) mutexes (not_thread p formed f found.0 there.at other found.2);
          shape = shape;
          mutexes = mutexes;
        };
        arises = tt;
        shows = refl;
      }) (All-nil (IsFitEffect p));
    }

callable : (o : Option FuncGraph) (n : ℕ) → IsSomeAnd o (λ (g : FuncGraph). (n ≡ g.params) × (g.kind ≢ Thread)) → IsSomeAnd o (λ (g : FuncGraph). g.kind ≢ Thread)
callable None n there = there
callable (Some g) n there = there.1

alone : (p : Program) (slots : List Slot) (s : StateValue) → IsFitState p slots s → IsFitOutcome p slots (record { value = s; effects = []; reads = [] })
alone p slots s fits = record { state = fits; effects = All-nil (IsFitEffect p) }

-- ---- actions
pub outcome_in_fits : (p : Program) → IsFormed p → (t : TableValue) → IsShaped p t → (function : FuncGraph) (state : List Bounds) (locks : ℕ) (act : Action) → IsFormedAction p function act → FitsEach function.slots state → IsMutexSet p locks
    → IsFitOutcome p function.slots (outcome_in p t function.slots state locks act)
outcome_in_fits p formed t shaped function state locks (Assign x e) act fits mutexes =
    alone p function.slots _ (assigned_fits p function.slots state locks x (interval_of function.slots state e) fits mutexes)
outcome_in_fits p formed t shaped function state locks (Read x g) act fits mutexes =
    record { state = assigned_fits p function.slots state locks x (number_at t g) fits mutexes; effects = All-nil (IsFitEffect p) }
outcome_in_fits p formed t shaped function state locks (Write g e) act fits mutexes =
    written_fits p function.slots state locks g (interval_of function.slots state e) act.0 fits mutexes
outcome_in_fits p formed t shaped function state locks (Nondet x) act fits mutexes =
    alone p function.slots _ (assigned_fits p function.slots state locks x (Some (full (interval_width_of (slot_width function.slots x)))) fits mutexes)
outcome_in_fits p formed t shaped function state locks (Guard e wanted) act fits mutexes = alone p function.slots _ (guarded_fits p function.slots e wanted state locks fits mutexes)
outcome_in_fits p formed t shaped function state locks (Assert e) act fits mutexes = alone p function.slots _ (guarded_fits p function.slots e true state locks fits mutexes)
outcome_in_fits p formed t shaped function state locks (Lock m) act fits mutexes = alone p function.slots _ (locked_fits p function.slots state locks m act fits mutexes (holds locks m))
outcome_in_fits p formed t shaped function state locks (Unlock m) act fits mutexes =
    alone p function.slots _ (reached_fits p function.slots state (without_member locks m) fits (λ k held. mutexes k ((Holds-without_member locks m k).0 held).1))
outcome_in_fits p formed t shaped function state locks (Create x f) act fits mutexes = created_fits p formed function.slots state locks f act.1 fits mutexes
outcome_in_fits p formed t shaped function state locks (Join x) act fits mutexes = alone p function.slots _ (reached_fits p function.slots state locks fits mutexes)
outcome_in_fits p formed t shaped function state locks (Call d f args) act fits mutexes =
    called_fits p formed t shaped function.slots state locks d f (values_of function.slots state args) act.1 (callable (slice_get p.funcs f) (length args) act.2) fits mutexes
outcome_in_fits p formed t shaped function state locks Skip act fits mutexes = alone p function.slots _ (reached_fits p function.slots state locks fits mutexes)
