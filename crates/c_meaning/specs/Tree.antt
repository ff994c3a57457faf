-- Steps of syntax trees.
--
-- A reader should check: what a frame has still to do after each statement, which expressions a
-- front statement evaluates, what a step gets where an input is missing, what each statement does,
-- and the order of the answers.
use Rattle.std.specs.Prelude.{ℕ, ℤ, pos, Bool, true, false, if◌then◌else◌, List, [], ◌∷◌, ◌++◌, map, Option, None, Some, Result, Ok, Err, slice_get, slice_index_or, slice_set}
use Rattle.std.specs.Option.{option_map_or}
use Rattle.gob_tree.specs.declared.expr.Width.TheVariants.{W32}
use Rattle.gob_tree.specs.declared.expr.Expr.{Expr, Number}
use Rattle.gob_tree.specs.declared.stmt.Target.{Target}
use Rattle.gob_tree.specs.declared.stmt.Stmt.{Stmt, out-Stmt}
use Rattle.gob_tree.specs.declared.stmt.Stmt.TheOpen.{Stmt-F, Placed-F}
use Rattle.gob_tree.specs.declared.stmt.Placed.{Placed, para-Placed}
use Rattle.gob_tree.specs.declared.unit.Slot.{Slot}
use Rattle.gob_tree.specs.declared.unit.Function.{Function}
use Rattle.gob_tree.specs.declared.unit.Unit.{Unit as TranslationUnit}
use Rattle.c_meaning.specs.declared.demand.Demand.{Demand}
use Rattle.c_meaning.specs.declared.demand.Demand.TheVariants.{Global, Nondet, Call, Fault}
use Rattle.c_meaning.specs.declared.config.Todo.{Todo}
use Rattle.c_meaning.specs.declared.config.Todo.TheVariants.{Stmt as Doing, Test, Last}
use Rattle.c_meaning.specs.declared.config.Stepped.{Stepped}
use Rattle.c_meaning.specs.declared.config.Stepped.TheVariants.{Moved, Blocked, Faulted, Ended, NoThread}
use Rattle.c_meaning.specs.Demand.{conversion, value_at, with_slot, slot_width, is_zero, demands_of}
use Rattle.c_meaning.specs.Config.{Config, thread_at, Effect, Keeps, SetsGlobal, SetsOwner, Starts, after_effect, next_thread, owner_at, owner_after_lock, owner_after_unlock, has_ended_by, slots_in, global_at, global_width, first_values, unset_vars, first_config}

-- ---- what is still to do

-- what one statement is, with its parts
abbrev pub layer_of : Placed → Stmt-F Stmt Placed
layer_of p = out-Stmt p.stmt

abbrev pub statements : List Placed → List Todo
statements = map Doing

-- a statement, and what unrolling it puts in front of the rest
abbrev pub Opened : Type 0
Opened = Placed × (List Todo → List Todo)

-- A block that isn't empty unrolls into its statements, a `do` into its body followed by its test,
-- and a `for` into its first part, if it has one, followed by its test.
abbrev pub unroll_stmt : Stmt-F (Stmt × (Placed → List Todo → List Todo)) Opened → Placed → List Todo → List Todo
unroll_stmt (Stmt-F.Block []) own rest = Doing own ∷ rest
unroll_stmt (Stmt-F.Block (s ∷ ss)) own rest = s.1 (statements (map (λ p. p.0) ss) ++ rest)
unroll_stmt (Stmt-F.DoWhile body e) own rest = body.1 (Test own ∷ rest)
unroll_stmt (Stmt-F.For [] test last body) own rest = Test own ∷ rest
unroll_stmt (Stmt-F.For (s ∷ ss) test last body) own rest = s.1 (statements (map (λ p. p.0) ss) ++ Test own ∷ rest)
unroll_stmt other own rest = Doing own ∷ rest

abbrev pub unroll_placed : Placed-F (Stmt × (Placed → List Todo → List Todo)) Opened → List Todo → List Todo
unroll_placed p = p.stmt.1 (record { place = p.place; stmt = p.stmt.0 })

-- the list with a statement in front, unrolled as soon as it stands there
abbrev pub with_front : Placed → List Todo → List Todo
with_front = para-Placed (Placed → List Todo → List Todo) (List Todo → List Todo) unroll_stmt unroll_placed

abbrev pub unrolling : List Todo → List Todo
unrolling [] = []
unrolling (Doing p ∷ rest) = with_front p rest
unrolling (Test p ∷ rest) = Test p ∷ rest
unrolling (Last p ∷ rest) = Last p ∷ rest

-- what is left after `break`: all after the test of the innermost loop that has begun
abbrev pub after_break : List Todo → List Todo
after_break [] = []
after_break (Doing p ∷ rest) = after_break rest
after_break (Last p ∷ rest) = after_break rest
after_break (Test p ∷ rest) = rest

-- what is left after `continue`: that loop's last part, if it has one, and its test
abbrev pub after_continue : List Todo → List Todo
after_continue [] = []
after_continue (Doing p ∷ rest) = after_continue rest
after_continue (Last p ∷ rest) = Last p ∷ rest
after_continue (Test p ∷ rest) = Test p ∷ rest

-- ---- expressions of what stands in front

-- the number 1, which a missing condition is
abbrev pub one : Expr
one = Number (pos 1) W32

abbrev pub stmt_exprs : Stmt-F Stmt Placed → List Expr
stmt_exprs (Stmt-F.Declare x (Some e)) = e ∷ []
stmt_exprs (Stmt-F.Assign to e) = e ∷ []
stmt_exprs (Stmt-F.CallOnly f args) = args
stmt_exprs (Stmt-F.If e a b) = e ∷ []
stmt_exprs (Stmt-F.While e body) = e ∷ []
stmt_exprs (Stmt-F.Return (Some e)) = e ∷ []
stmt_exprs (Stmt-F.Assert e) = e ∷ []
stmt_exprs other = []

abbrev pub test_exprs : Stmt-F Stmt Placed → List Expr
test_exprs (Stmt-F.While e body) = e ∷ []
test_exprs (Stmt-F.DoWhile body e) = e ∷ []
test_exprs (Stmt-F.For first (Some e) last body) = e ∷ []
test_exprs (Stmt-F.For first None last body) = one ∷ []
test_exprs other = []

abbrev pub last_exprs : Stmt-F Stmt Placed → List Expr
last_exprs (Stmt-F.For first test (Some last) body) = stmt_exprs (layer_of last)
last_exprs other = []

abbrev pub exprs_of : Todo → List Expr
exprs_of (Doing p) = stmt_exprs (layer_of p)
exprs_of (Test p) = test_exprs (layer_of p)
exprs_of (Last p) = last_exprs (layer_of p)

abbrev pub front_exprs : List Todo → List Expr
front_exprs [] = []
front_exprs (todo ∷ rest) = exprs_of todo

-- ---- frames

-- The function, what is still to do with the front first, the values of the slots, the thread that
-- each thread variable has, if any, and the inputs got for what stands in front.
pub record Frame : Type 0 where
  pub func : ℕ
  pub todo : List Todo
  pub slots : List ℤ
  pub vars : List (Option ℕ)
  pub ins : List ℤ

abbrev pub func_slots : TranslationUnit → ℕ → List Slot
func_slots unit = slots_in (λ func. func.slots) unit.funcs

-- a new frame of a function
abbrev pub frame_of : ℕ → Function → List ℤ → Frame
frame_of f func args = record {
  func = f;
  todo = unrolling (statements func.body);
  slots = first_values func.slots args;
  vars = unset_vars func.threads;
  ins = [];
}

abbrev pub new_frame_or : ℕ → List ℤ → Option Function → Frame
new_frame_or f args None = record { func = f; todo = []; slots = []; vars = []; ins = [] }
new_frame_or f args (Some func) = frame_of f func args

abbrev pub new_frame : TranslationUnit → ℕ → List ℤ → Frame
new_frame unit f args = new_frame_or f args (slice_get unit.funcs f)

-- the values of the front's expressions, or the first thing that stands in their way
abbrev pub front_demand : TranslationUnit → Frame → Result (List ℤ) Demand
front_demand unit frame =
    (demands_of (front_exprs frame.todo) (func_slots unit frame.func) frame.slots frame.ins).0

-- the frame after what stood in front is done, and this comes next
abbrev pub frame_after : Frame → List Todo → Frame
frame_after frame next = record frame { todo = unrolling next; ins = [] }

abbrev pub rest_of : List Todo → List Todo
rest_of [] = []
rest_of (todo ∷ rest) = rest

-- the frame after one more input came
abbrev pub with_input : Frame → ℤ → Frame
with_input frame n = record frame { ins = frame.ins ++ n ∷ [] }

-- ---- one step

-- what a step does: the frames of its thread after it, with an effect, or why there is no step
pub data FrameStep : Type 0 where
  Goes : (frames : List Frame) → (effect : Effect Frame) → FrameStep
  Waits : FrameStep
  Fails : FrameStep

-- where a step is made: by a thread of a configuration, with an input, in its topmost frame
pub record Site : Type 0 where
  pub unit : TranslationUnit
  pub config : Config Frame
  pub thread : ℕ
  pub input : ℤ
  pub frame : Frame
  pub below : List Frame

-- the value of the one expression
abbrev pub only : List ℤ → ℤ
only values = value_at values 0

-- the frame goes on as it is, or with these slots
abbrev pub pass_step : Site → List Todo → FrameStep
pass_step s next = Goes (frame_after s.frame next ∷ s.below) Keeps

abbrev pub store_step : Site → ℕ → ℤ → List Todo → FrameStep
store_step s x n next =
    let slots = with_slot (func_slots s.unit s.frame.func) x n s.frame.slots in
    Goes (frame_after (record s.frame { slots = slots }) next ∷ s.below) Keeps

abbrev pub effect_step : Site → List Todo → Effect Frame → FrameStep
effect_step s next effect = Goes (frame_after s.frame next ∷ s.below) effect

-- the number that a `return` hands to the caller; one without a value hands 0
abbrev pub return_value : Site → Option Expr → List ℤ → ℤ
return_value s (Some e) values = conversion (slot_width (func_slots s.unit s.frame.func) 0) (only values)
return_value s None values = pos 0

-- A caller goes on: where what stands in front lacks nothing, it is a plain call, and this was its
-- call, so it is done; else its expressions get the number.
abbrev pub resumed_caller : Frame → ℤ → Result (List ℤ) Demand → Frame
resumed_caller caller n (Ok values) = frame_after caller (rest_of caller.todo)
resumed_caller caller n (Err demand) = with_input caller n

abbrev pub caller_after : TranslationUnit → Frame → ℤ → Frame
caller_after unit caller n = resumed_caller caller n (front_demand unit caller)

-- the topmost frame returns; the first frame's return ends the thread
abbrev pub frames_after_return : TranslationUnit → List Frame → ℤ → List Frame
frames_after_return unit [] n = []
frames_after_return unit (caller ∷ below) n = caller_after unit caller n ∷ below

-- what comes after a branch
abbrev pub after_branch : ℤ → Placed → Option Placed → List Todo → List Todo
after_branch n a b rest = if is_zero n then option_map_or (λ other. Doing other ∷ rest) b rest else Doing a ∷ rest

-- a loop's body, and what comes after it
abbrev pub turn_of : Stmt-F Stmt Placed → Placed → List Todo → List Todo
turn_of (Stmt-F.While e body) own rest = Doing body ∷ Test own ∷ rest
turn_of (Stmt-F.DoWhile body e) own rest = Doing body ∷ Test own ∷ rest
turn_of (Stmt-F.For first test None body) own rest = Doing body ∷ Test own ∷ rest
turn_of (Stmt-F.For first test (Some last) body) own rest = Doing body ∷ Last own ∷ Test own ∷ rest
turn_of other own rest = rest

-- what comes after a loop's test
abbrev pub after_test : ℤ → Placed → List Todo → List Todo
after_test n own rest = if is_zero n then rest else turn_of (layer_of own) own rest

-- a thread whose first frame has returned has no frames, and has ended
abbrev pub is_over : List Frame → Bool
is_over [] = true
is_over (frame ∷ below) = false

abbrev pub has_ended : Config Frame → ℕ → Bool
has_ended = has_ended_by is_over

abbrev pub join_step : Site → Option ℕ → List Todo → FrameStep
join_step s None next = Fails
join_step s (Some t) next = if has_ended s.config t then pass_step s next else Waits

-- a mutex gets another owner, where the thread can give it one
abbrev pub owner_step : Site → ℕ → List Todo → FrameStep → Option (Option ℕ) → FrameStep
owner_step s m next otherwise None = otherwise
owner_step s m next otherwise (Some owner) = effect_step s next (SetsOwner m owner)

abbrev pub create_step : Site → ℕ → ℕ → List Todo → FrameStep
create_step s var f next =
    let vars = slice_set s.frame.vars var (Some (next_thread s.config)) in
    Goes (frame_after (record s.frame { vars = vars }) next ∷ s.below) (Starts (new_frame s.unit f []))

-- What a statement does with the values of its expressions, where this comes after it. A block
-- that stands in front is empty; a `do` and a `for` never stand there, since they are unrolled.
abbrev pub stmt_step : Stmt-F Stmt Placed → Placed → List Todo → Site → List ℤ → FrameStep
stmt_step (Stmt-F.Declare x None) own rest s values = store_step s x s.input rest
stmt_step (Stmt-F.Declare x (Some e)) own rest s values = store_step s x (only values) rest
stmt_step (Stmt-F.DeclareThread var) own rest s values = pass_step s rest
stmt_step (Stmt-F.Assign (Target.Local x) e) own rest s values = store_step s x (only values) rest
stmt_step (Stmt-F.Assign (Target.Global g) e) own rest s values =
    effect_step s rest (SetsGlobal g (conversion (global_width s.unit.globals g) (only values)))
stmt_step (Stmt-F.CallOnly f args) own rest s values = Goes (new_frame s.unit f values ∷ s.frame ∷ s.below) Keeps
stmt_step (Stmt-F.If e a b) own rest s values = pass_step s (after_branch (only values) a b rest)
stmt_step (Stmt-F.While e body) own rest s values = pass_step s (after_test (only values) own rest)
stmt_step (Stmt-F.DoWhile body e) own rest s values = pass_step s rest
stmt_step (Stmt-F.For first test last body) own rest s values = pass_step s rest
stmt_step (Stmt-F.Block all) own rest s values = pass_step s rest
stmt_step Stmt-F.Break own rest s values = pass_step s (after_break rest)
stmt_step Stmt-F.Continue own rest s values = pass_step s (after_continue rest)
stmt_step (Stmt-F.Return e) own rest s values = Goes (frames_after_return s.unit s.below (return_value s e values)) Keeps
stmt_step (Stmt-F.Create var f) own rest s values = create_step s var f rest
stmt_step (Stmt-F.Join var) own rest s values = join_step s (slice_index_or s.frame.vars var None) rest
stmt_step (Stmt-F.Lock m) own rest s values = owner_step s m rest Waits (owner_after_lock s.thread (owner_at s.config m))
stmt_step (Stmt-F.Unlock m) own rest s values = owner_step s m rest Fails (owner_after_unlock s.thread (owner_at s.config m))
stmt_step (Stmt-F.Assert e) own rest s values = if is_zero (only values) then Fails else pass_step s rest
stmt_step Stmt-F.Empty own rest s values = pass_step s rest

abbrev pub last_step : Stmt-F Stmt Placed → List Todo → Site → List ℤ → FrameStep
last_step (Stmt-F.For first test (Some last) body) rest s values = stmt_step (layer_of last) last rest s values
last_step other rest s values = pass_step s rest

abbrev pub todo_step : Todo → List Todo → Site → List ℤ → FrameStep
todo_step (Doing p) rest s values = stmt_step (layer_of p) p rest s values
todo_step (Test p) rest s values = pass_step s (after_test (only values) p rest)
todo_step (Last p) rest s values = last_step (layer_of p) rest s values

-- With all values the front is done. Else the step gets the first thing that is missing: a
-- global's value now, the choice's input, or a call, which pushes a frame.
abbrev pub front_step : Todo → List Todo → Site → Result (List ℤ) Demand → FrameStep
front_step todo rest s (Ok values) = todo_step todo rest s values
front_step todo rest s (Err (Global g)) = Goes (with_input s.frame (global_at s.config g) ∷ s.below) Keeps
front_step todo rest s (Err (Nondet w)) = Goes (with_input s.frame (conversion w s.input) ∷ s.below) Keeps
front_step todo rest s (Err (Call f args)) = Goes (new_frame s.unit f args ∷ s.frame ∷ s.below) Keeps
front_step todo rest s (Err Fault) = Fails

-- a frame with nothing left to do, which no program has, returns 0
abbrev pub frame_step : List Todo → Site → FrameStep
frame_step [] s = Goes (frames_after_return s.unit s.below (pos 0)) Keeps
frame_step (todo ∷ rest) s = front_step todo rest s (front_demand s.unit s.frame)

-- ---- the answers

-- what a choice comes to
pub data TreeStep : Type 0 where
  MovesTo : (next : Config Frame) → TreeStep
  IsBlocked : TreeStep
  IsFaulted : TreeStep
  IsEnded : TreeStep
  HasNoThread : TreeStep

abbrev pub outcome_of : Config Frame → ℕ → FrameStep → TreeStep
outcome_of c t (Goes frames effect) = MovesTo (after_effect c t frames effect)
outcome_of c t Waits = IsBlocked
outcome_of c t Fails = IsFaulted

-- the order of the answers: no such thread; thread 1 or this one has ended; then what it does
abbrev pub thread_step : TranslationUnit → Config Frame → ℕ → ℤ → Option (List Frame) → TreeStep
thread_step unit c t input None = HasNoThread
thread_step unit c t input (Some []) = IsEnded
thread_step unit c t input (Some (frame ∷ below)) =
    if has_ended c 1 then IsEnded else
    outcome_of c t (frame_step frame.todo (record { unit = unit; config = c; thread = t; input = input; frame = frame; below = below }))

-- the step of a thread with an input
abbrev pub tree_step : TranslationUnit → Config Frame → ℕ → ℤ → TreeStep
tree_step unit c t input = thread_step unit c t input (thread_at c.threads t)

-- the answer as a word, and the configuration after it, which is the one before where nothing moved
abbrev pub word_of : TreeStep → Stepped
word_of (MovesTo next) = Moved
word_of IsBlocked = Blocked
word_of IsFaulted = Faulted
word_of IsEnded = Ended
word_of HasNoThread = NoThread

abbrev pub after_step : Config Frame → TreeStep → Config Frame
after_step c (MovesTo next) = next
after_step c IsBlocked = c
after_step c IsFaulted = c
after_step c IsEnded = c
after_step c HasNoThread = c

-- the first configuration: thread 1 in `main`
abbrev pub first_tree : TranslationUnit → Config Frame
first_tree unit = first_config unit.globals unit.mutexes (new_frame unit unit.main [])
