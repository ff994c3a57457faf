-- Expressions and runs of small programs, and what becomes of them, by hand.
use Rattle.std.specs.Prelude.{ℕ, ℤ, pos, negsuc, List, [], ◌∷◌, Option, None, Some}
use Rattle.gob_tree.specs.declared.expr.Width.TheVariants.{W32, W64}
use Rattle.gob_tree.specs.declared.expr.BinOp.TheVariants.{Add, Div, Lt, And, Or}
use Rattle.gob_tree.specs.declared.expr.Expr.{Expr, Number, Local, Global, Nondet, Binary, Call}
use Rattle.gob_tree.specs.declared.stmt.Target as Target
use Rattle.gob_tree.specs.declared.stmt.Stmt as Stmt
use Rattle.gob_tree.specs.declared.stmt.Stmt.{Stmt}
use Rattle.gob_tree.specs.declared.unit.Slot.{Slot}
use Rattle.gob_tree.specs.declared.unit.FuncKind as FuncKind
use Rattle.gob_tree.specs.declared.unit.Function.{Function}
use Rattle.gob_tree.specs.declared.unit.Unit.{Unit as TranslationUnit}
use Rattle.c_meaning.specs.declared.config.Choice.{Choice}
use Rattle.c_meaning.specs.declared.config.Todo.TheVariants.{Stmt as Doing}
use Rattle.c_meaning.specs.declared.config.Stepped.{Stepped}
use Rattle.c_meaning.specs.declared.config.Stepped.TheVariants.{Moved, Blocked, Faulted, Ended, NoThread}
use Rattle.c_meaning.specs.Tree.{Frame}
use Rattle.c_meaning.specs.Samples.{place, at, int, int_slot, long_slot, global, int_func, returns, alone, choice}

-- ---- expressions

-- 1 / 0
abbrev pub zero_division : Expr
zero_division = Binary Div (int 1) (int 0)

-- the greatest int and 1 more
abbrev pub top_sum : Expr
top_sum = Binary Add (int 2147483647) (int 1)

-- the least int by -1
abbrev pub least_quotient : Expr
least_quotient = Binary Div (Number (negsuc 2147483647) W32) (Number (negsuc 0) W32)

-- x + 1 where x, in slot 1, is a long with the value of the greatest int
abbrev pub long_sum : Expr
long_sum = Binary Add (Local 1) (int 1)

-- the same from the other side
abbrev pub long_sum_behind : Expr
long_sum_behind = Binary Add (int 1) (Local 1)

abbrev pub long_slots : List Slot
long_slots = int_slot ∷ long_slot ∷ []

abbrev pub long_values : List ℤ
long_values = pos 0 ∷ pos 2147483647 ∷ []

abbrev pub int_slots : List Slot
int_slots = int_slot ∷ int_slot ∷ []

-- g + an arbitrary int
abbrev pub two_inputs : Expr
two_inputs = Binary Add (Global 0 W32) (Nondet W32)

-- 1 / 0 + g
abbrev pub early_fault : Expr
early_fault = Binary Add zero_division (Global 0 W32)

-- 0 && g
abbrev pub early_stop : Expr
early_stop = Binary And (int 0) (Global 0 W32)

-- 1 || g, and 0 || g
abbrev pub early_or : Expr
early_or = Binary Or (int 1) (Global 0 W32)

abbrev pub late_or : Expr
late_or = Binary Or (int 0) (Global 0 W32)

abbrev pub one_input : List ℤ
one_input = pos 5 ∷ []

-- ---- steps

-- int main(void) { pthread_mutex_lock(&m); pthread_mutex_lock(&m); return 0; }
abbrev pub relocking : TranslationUnit
relocking = alone [] ([] ∷ []) (int_func (int_slot ∷ []) [] (at 2 3 (Stmt.Lock 0) ∷ at 3 3 (Stmt.Lock 0) ∷ returns (int 0) ∷ []))

-- int main(void) { return 0; }
abbrev pub returning : TranslationUnit
returning = alone [] [] (int_func (int_slot ∷ []) [] (returns (int 0) ∷ []))

-- int main(void) { int z; int q = 10 / z; return q; }
abbrev pub dividing : TranslationUnit
dividing = alone [] [] (int_func (int_slot ∷ int_slot ∷ int_slot ∷ []) []
    (at 2 3 (Stmt.Declare 1 None) ∷ at 3 3 (Stmt.Declare 2 (Some (Binary Div (int 10) (Local 1)))) ∷ returns (Local 2) ∷ []))

-- int main(void) { int x = __VERIFIER_nondet_int(); int y = x + 1; return y; }
abbrev pub adding : TranslationUnit
adding = alone [] [] (int_func (int_slot ∷ int_slot ∷ int_slot ∷ []) []
    (at 2 3 (Stmt.Declare 1 (Some (Nondet W32)))
    ∷ at 3 3 (Stmt.Declare 2 (Some (Binary Add (Local 1) (int 1))))
    ∷ returns (Local 2)
    ∷ []))

-- long t = 2147483647; int main(void) { long a = t + 1; int b = a; return b; }
abbrev pub widening : TranslationUnit
widening = alone (record { name = []; width = W64; initial = pos 2147483647 } ∷ []) []
    (int_func (int_slot ∷ long_slot ∷ int_slot ∷ []) []
    (at 3 3 (Stmt.Declare 1 (Some (Binary Add (Global 0 W64) (int 1))))
    ∷ at 4 3 (Stmt.Declare 2 (Some (Local 1)))
    ∷ returns (Local 2)
    ∷ []))

-- int g = 0; void *w(void *a) { g = 1; return NULL; }
-- int main(void) { pthread_t t; pthread_create(&t, NULL, w, NULL); int x = g + g; return x; }
abbrev pub racing_main : Function
racing_main = int_func (int_slot ∷ int_slot ∷ []) ([] ∷ [])
    (at 4 3 (Stmt.DeclareThread 0)
    ∷ at 5 3 (Stmt.Create 0 0)
    ∷ at 6 3 (Stmt.Declare 1 (Some (Binary Add (Global 0 W32) (Global 0 W32))))
    ∷ at 7 3 (Stmt.Return (Some (Local 1)))
    ∷ [])

abbrev pub racing_thread : Function
racing_thread = record {
  name = [];
  place = place 2 7;
  end = place 2 41;
  kind = FuncKind.TheVariants.Thread;
  params = 0;
  slots = int_slot ∷ [];
  threads = [];
  body = at 2 20 (Stmt.Assign (Target.TheVariants.Global 0) (int 1)) ∷ at 2 27 (Stmt.Return None) ∷ [];
}

abbrev pub racing : TranslationUnit
racing = record { funcs = racing_thread ∷ racing_main ∷ []; globals = global (pos 0) ∷ []; mutexes = []; main = 1 }

abbrev pub racing_choices : List Choice
racing_choices = choice 1 0 ∷ choice 1 0 ∷ choice 1 0 ∷ choice 2 0 ∷ choice 1 0 ∷ choice 1 0 ∷ []

-- int f(int n) { return n + 1; } int main(void) { int x = f(1); return x; }
abbrev pub calling_main : Function
calling_main = int_func (int_slot ∷ int_slot ∷ []) []
    (at 3 3 (Stmt.Declare 1 (Some (Call 0 W32 (int 1 ∷ [])))) ∷ returns (Local 1) ∷ [])

abbrev pub called : Function
called = record {
  name = [];
  place = place 1 5;
  end = place 1 30;
  kind = FuncKind.TheVariants.Int;
  params = 1;
  slots = int_slot ∷ int_slot ∷ [];
  threads = [];
  body = at 1 16 (Stmt.Return (Some (Binary Add (Local 1) (int 1)))) ∷ [];
}

abbrev pub calling : TranslationUnit
calling = record { funcs = called ∷ calling_main ∷ []; globals = []; mutexes = []; main = 1 }

-- the call, the return and the assignment
abbrev pub calling_choices : List Choice
calling_choices = choice 1 0 ∷ choice 1 0 ∷ choice 1 0 ∷ []

abbrev pub inside_slots : List (List (List ℤ))
inside_slots = ((pos 0 ∷ pos 1 ∷ []) ∷ (pos 0 ∷ pos 0 ∷ []) ∷ []) ∷ []

abbrev pub calling_slots : List (List (List ℤ))
calling_slots = ((pos 0 ∷ pos 2 ∷ []) ∷ []) ∷ []

-- int main(void) { pthread_mutex_unlock(&m); return 0; }
abbrev pub unlocking : TranslationUnit
unlocking = alone [] ([] ∷ []) (int_func (int_slot ∷ []) [] (at 2 3 (Stmt.Unlock 0) ∷ returns (int 0) ∷ []))

-- int main(void) { pthread_t t; pthread_join(t, NULL); return 0; }
abbrev pub joining_none : TranslationUnit
joining_none = alone [] [] (int_func (int_slot ∷ []) ([] ∷ [])
    (at 2 3 (Stmt.DeclareThread 0) ∷ at 3 3 (Stmt.Join 0) ∷ returns (int 0) ∷ []))

-- void *w(void *a) { return NULL; }
-- int main(void) { pthread_t t; pthread_create(&t, NULL, w, NULL); pthread_join(t, NULL); return 0; }
abbrev pub waiting_main : Function
waiting_main = int_func (int_slot ∷ []) ([] ∷ []) (at 2 3 (Stmt.Create 0 0) ∷ at 3 3 (Stmt.Join 0) ∷ returns (int 0) ∷ [])

abbrev pub waited : Function
waited = record {
  name = [];
  place = place 1 7;
  end = place 1 30;
  kind = FuncKind.TheVariants.Thread;
  params = 0;
  slots = int_slot ∷ [];
  threads = [];
  body = at 1 20 (Stmt.Return None) ∷ [];
}

abbrev pub waiting : TranslationUnit
waiting = record { funcs = waited ∷ waiting_main ∷ []; globals = []; mutexes = []; main = 1 }

-- the join before the thread has ended, its end, a step after that, and the join
abbrev pub waiting_choices : List Choice
waiting_choices = choice 1 0 ∷ choice 1 0 ∷ choice 2 0 ∷ choice 2 0 ∷ choice 1 0 ∷ []

abbrev pub waiting_answers : List Stepped
waiting_answers = Moved ∷ Blocked ∷ Moved ∷ Ended ∷ Moved ∷ []

-- int f(int n) { return n + 1; } void *w(void *a) { return NULL; }
-- int main(void) {
--   pthread_mutex_lock(&m); pthread_create(&t, NULL, w, NULL); pthread_join(t, NULL); f(2147483648); return 0;
-- }
abbrev pub holding_main : Function
holding_main = int_func (int_slot ∷ []) ([] ∷ [])
    (at 3 3 (Stmt.Lock 0)
    ∷ at 4 3 (Stmt.Create 0 1)
    ∷ at 5 3 (Stmt.Join 0)
    ∷ at 6 3 (Stmt.CallOnly 0 (Number (pos 2147483648) W64 ∷ []))
    ∷ returns (int 0)
    ∷ [])

abbrev pub holding : TranslationUnit
holding = record { funcs = called ∷ waited ∷ holding_main ∷ []; globals = []; mutexes = [] ∷ []; main = 2 }

-- the lock, the start of the thread and its end; then the join too; then the call too
abbrev pub ending_choices : List Choice
ending_choices = choice 1 0 ∷ choice 1 0 ∷ choice 2 0 ∷ []

abbrev pub joined_choices : List Choice
joined_choices = choice 1 0 ∷ choice 1 0 ∷ choice 2 0 ∷ choice 1 0 ∷ []

abbrev pub narrowing_choices : List Choice
narrowing_choices = choice 1 0 ∷ choice 1 0 ∷ choice 2 0 ∷ choice 1 0 ∷ choice 1 0 ∷ []

-- thread 1 owns the mutex
abbrev pub held : List (Option ℕ)
held = Some 1 ∷ []

-- the number is above the greatest int, so the parameter gets the least
abbrev pub narrowing_slots : List (List (List ℤ))
narrowing_slots = ((pos 0 ∷ negsuc 2147483647 ∷ []) ∷ (pos 0 ∷ []) ∷ []) ∷ [] ∷ []

-- int f(int n, long m) { int x; .. }, called with that number twice
abbrev pub two_parameters : List Slot
two_parameters = int_slot ∷ int_slot ∷ long_slot ∷ int_slot ∷ []

abbrev pub two_arguments : List ℤ
two_arguments = pos 2147483648 ∷ pos 2147483648 ∷ []

-- int main(void) { for (int i = 0; i < 2; i++) { if (i) break; continue; } return 0; }
abbrev pub turning_main : Function
turning_main = int_func (int_slot ∷ int_slot ∷ []) []
    (at 2 3 (Stmt.For
    (at 2 8 (Stmt.Declare 1 (Some (int 0))) ∷ [])
    (Some (Binary Lt (Local 1) (int 2)))
    (Some (at 2 26 (Stmt.Assign (Target.TheVariants.Local 1) (Binary Add (Local 1) (int 1)))))
    (at 2 31 (Stmt.Block (at 2 33 (Stmt.If (Local 1) (at 2 40 Stmt.Break) None) ∷ at 2 47 Stmt.Continue ∷ []))))
    ∷ returns (int 0) ∷ [])

abbrev pub turning : TranslationUnit
turning = alone [] [] turning_main

-- the first part, the test, the branch, `continue`, the last part, the test, the branch, `break`
-- and the return
abbrev pub turning_choices : List Choice
turning_choices = choice 1 0 ∷ choice 1 0 ∷ choice 1 0 ∷ choice 1 0 ∷ choice 1 0 ∷ choice 1 0 ∷ choice 1 0 ∷ choice 1 0 ∷ []

abbrev pub turning_threads : List (List Frame)
turning_threads =
    (record { func = 0; todo = Doing (returns (int 0)) ∷ []; slots = pos 0 ∷ pos 1 ∷ []; vars = []; ins = [] } ∷ []) ∷ []

-- what the choices of the rows come to, with the numbers that they give
abbrev pub relocking_answers : List Stepped
relocking_answers = Moved ∷ Blocked ∷ []

abbrev pub returning_answers : List Stepped
returning_answers = Moved ∷ Ended ∷ NoThread ∷ []

abbrev pub dividing_answers : List Stepped
dividing_answers = Moved ∷ Faulted ∷ []

abbrev pub racing_answers : List Stepped
racing_answers = Moved ∷ Moved ∷ Moved ∷ Moved ∷ Moved ∷ Moved ∷ []

abbrev pub first_choice : List Choice
first_choice = choice 1 0 ∷ []

abbrev pub one_fault : List Stepped
one_fault = Faulted ∷ []

abbrev pub two_choices : List Choice
two_choices = choice 1 0 ∷ choice 1 0 ∷ []

-- of thread 1 twice, and of a thread that isn't there
abbrev pub late_choices : List Choice
late_choices = choice 1 0 ∷ choice 1 0 ∷ choice 2 0 ∷ []

abbrev pub adding_choices : List Choice
adding_choices = choice 1 2147483647 ∷ choice 1 0 ∷ choice 1 0 ∷ []

abbrev pub adding_slots : List (List (List ℤ))
adding_slots = ((pos 0 ∷ pos 2147483647 ∷ negsuc 2147483647 ∷ []) ∷ []) ∷ []

abbrev pub widening_choices : List Choice
widening_choices = choice 1 0 ∷ choice 1 0 ∷ choice 1 0 ∷ []

abbrev pub widening_slots : List (List (List ℤ))
widening_slots = ((pos 0 ∷ pos 2147483648 ∷ negsuc 2147483647 ∷ []) ∷ []) ∷ []

abbrev pub racing_slots : List (List (List ℤ))
racing_slots = ((pos 0 ∷ pos 1 ∷ []) ∷ []) ∷ ((pos 0 ∷ []) ∷ []) ∷ []
