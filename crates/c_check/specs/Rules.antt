-- What is asked of each use of a name, of each call, and of each `return`, `break` and `continue`.
--
-- A reader should check: which meanings each use takes, and which kinds of function each call does.
use Rattle.std.specs.Prelude.{ℕ, ◌==◌, Bool, true, false, not, ◌&&◌, List, [], ◌∷◌, ◌++◌, Option, None, Some}
use Rattle.gob_tree.specs.declared.place.Place.{Place}
use Rattle.gob_tree.specs.declared.unit.FuncKind.{FuncKind}
use Rattle.gob_tree.specs.declared.unit.FuncKind.TheVariants.{Int, Void, Thread}
use Rattle.gob_tree.specs.WellMade.{is_int, is_thread}
use Rattle.c_parse.specs.declared.raw.expr.RawName.{RawName}
use Rattle.c_parse.specs.declared.raw.stmt.RawReturn.{RawReturn}
use Rattle.c_parse.specs.declared.raw.stmt.RawReturn.TheVariants.{Plain, Null, Value}
use Rattle.c_check.specs.declared.fault.FrontFault.{FrontFault}
use Rattle.c_check.specs.declared.fault.FrontKind.TheVariants.{Undeclared, Redeclared, WrongKind, WrongArity}
use Rattle.c_check.specs.declared.meaning.Meaning.{Meaning}
use Rattle.c_check.specs.declared.meaning.Meaning.TheVariants as meanings
use Rattle.c_check.specs.Faults.{asks, fault_at}
use Rattle.c_check.specs.Names.{is_main, FileNames, BodyNames, meaning, is_declared_here}

-- ---- what a name is to be

-- in an expression and on the left side of an assignment: a variable of the type `int` or `long`
abbrev pub is_number : Meaning → Bool
is_number (meanings.Local x) = true
is_number (meanings.Global g w) = true
is_number other = false

-- where a thread is created or joined
abbrev pub is_thread_variable : Meaning → Bool
is_thread_variable (meanings.Thread t) = true
is_thread_variable other = false

-- where a mutex is locked or unlocked
abbrev pub is_mutex : Meaning → Bool
is_mutex (meanings.Mutex m) = true
is_mutex other = false

-- what a new thread starts in
abbrev pub is_thread_function : Meaning → Bool
is_thread_function (meanings.Function f) = is_thread f.kind
is_thread_function other = false

-- A call in an expression has a value. `main` isn't called.
abbrev pub gives_number : List ℕ → Meaning → Bool
gives_number x (meanings.Function f) = is_int f.kind && not (is_main x)
gives_number x (meanings.Arbitrary w) = true
gives_number x other = false

-- A call as a statement may have none; an arbitrary number isn't called alone.
abbrev pub is_callable : List ℕ → Meaning → Bool
is_callable x (meanings.Function f) = not (is_thread f.kind) && not (is_main x)
is_callable x other = false

-- a use of a name: it is declared, and it is what it is asked to be
abbrev pub use_faults : (Meaning → Bool) → Place → Option Meaning → List FrontFault
use_faults fits place None = fault_at Undeclared place ∷ []
use_faults fits place (Some m) = asks (fits m) WrongKind place

-- the number of arguments of a call
abbrev pub arity_faults : ℕ → Place → Option Meaning → List FrontFault
arity_faults args place (Some (meanings.Function f)) = asks (f.params == args) WrongArity place
arity_faults args place (Some (meanings.Arbitrary w)) = asks (args == 0) WrongArity place
arity_faults args place other = []

abbrev pub call_faults : (Meaning → Bool) → ℕ → Place → Option Meaning → List FrontFault
call_faults fits args place m = use_faults fits place m ++ arity_faults args place m

-- ---- the rules, each at the name that it asks about

abbrev pub number_faults : FileNames → BodyNames → RawName → List FrontFault
number_faults file body x = use_faults is_number x.place (meaning file body x.text)

abbrev pub thread_faults : FileNames → BodyNames → RawName → List FrontFault
thread_faults file body x = use_faults is_thread_variable x.place (meaning file body x.text)

abbrev pub mutex_faults : FileNames → BodyNames → RawName → List FrontFault
mutex_faults file body x = use_faults is_mutex x.place (meaning file body x.text)

abbrev pub started_faults : FileNames → BodyNames → RawName → List FrontFault
started_faults file body x = use_faults is_thread_function x.place (meaning file body x.text)

abbrev pub value_call_faults : FileNames → BodyNames → RawName → ℕ → List FrontFault
value_call_faults file body x args = call_faults (gives_number x.text) args x.place (meaning file body x.text)

abbrev pub plain_call_faults : FileNames → BodyNames → RawName → ℕ → List FrontFault
plain_call_faults file body x args = call_faults (is_callable x.text) args x.place (meaning file body x.text)

-- a declaration in a function: the first of its name in its block
abbrev pub local_faults : BodyNames → RawName → List FrontFault
local_faults body x = asks (not (is_declared_here body x.text)) Redeclared x.place

-- ---- `return`, `break` and `continue`, each at its word

-- a function that returns a number returns one everywhere; a thread function returns `NULL` or nothing, and a
-- void function nothing
abbrev pub fits_return : FuncKind → RawReturn → Bool
fits_return Int (Value e) = true
fits_return Int Plain = false
fits_return Int Null = false
fits_return Void Plain = true
fits_return Void Null = false
fits_return Void (Value e) = false
fits_return Thread Plain = true
fits_return Thread Null = true
fits_return Thread (Value e) = false

abbrev pub return_faults : FuncKind → RawReturn → Place → List FrontFault
return_faults kind r place = asks (fits_return kind r) WrongKind place

abbrev pub jump_faults : Bool → Place → List FrontFault
jump_faults in_loop place = asks in_loop WrongKind place
