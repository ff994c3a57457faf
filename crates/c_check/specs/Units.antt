-- Heads and items: the faults of each, in the order of the text, and the unit that they become.
--
-- A reader should check: which declarations may share a name, what a prototype has to agree with, which numbers
-- functions, globals and mutexes get, the slots and the last return of a function, and the limits.
use Rattle.std.specs.Prelude.{ℕ, ◌+◌, ℤ, pos, Bool, true, false, not, ◌&&◌, ◌||◌, if◌then◌else◌, nat_eq, List, [], ◌∷◌, ◌++◌, length, map, drop, Option, None, Some}
use Rattle.std.specs.Cmp.Lexicographic.{pointwise}
use Rattle.std.specs.List.{flat_map, list_any, position_or_len}
use Rattle.std.specs.Option.{option_map_or}
use Rattle.gob_tree.specs.Widths.{fits, same_width}
use Rattle.gob_tree.specs.WellMade.{is_int, is_thread, ends_in_return}
use Rattle.gob_tree.specs.declared.place.Place.{Place}
use Rattle.gob_tree.specs.declared.expr.Width.{Width}
use Rattle.gob_tree.specs.declared.expr.Width.TheVariants.{W32}
use Rattle.gob_tree.specs.declared.expr.Expr.{Expr}
use Rattle.gob_tree.specs.declared.expr.Expr.TheVariants.{Number, Nondet}
use Rattle.gob_tree.specs.declared.stmt.Stmt.TheVariants.{Return}
use Rattle.gob_tree.specs.declared.stmt.Placed.{Placed}
use Rattle.gob_tree.specs.declared.text.Text.{Text}
use Rattle.gob_tree.specs.declared.unit.FuncKind.{FuncKind}
use Rattle.gob_tree.specs.declared.unit.FuncKind.TheVariants.{Int, Void, Thread}
use Rattle.gob_tree.specs.declared.unit.Function.{Function}
use Rattle.gob_tree.specs.declared.unit.GlobalDecl.{GlobalDecl}
use Rattle.gob_tree.specs.declared.unit.Unit.{Unit as TranslationUnit}
use Rattle.c_parse.specs.declared.raw.expr.RawName.{RawName}
use Rattle.c_parse.specs.declared.raw.stmt.RawPlaced.{RawPlaced}
use Rattle.c_parse.specs.declared.raw.unit.RawHead.{RawHead}
use Rattle.c_parse.specs.declared.raw.unit.RawItem.{RawItem}
use Rattle.c_parse.specs.declared.raw.unit.RawItem.TheVariants as items
use Rattle.c_parse.specs.declared.raw.unit.RawParam.{RawParam}
use Rattle.c_parse.specs.declared.raw.unit.RawUnit.{RawUnit}
use Rattle.c_check.specs.declared.fault.FrontFault.{FrontFault}
use Rattle.c_check.specs.declared.fault.FrontKind.TheVariants.{BadLiteral, Undeclared, Redeclared, WrongKind, NoMain, Limit}
use Rattle.c_check.specs.declared.meaning.Meaning.TheVariants as meanings
use Rattle.c_check.specs.declared.meaning.Signature.{Signature}
use Rattle.c_check.specs.Faults.{asks, fault_at, whole_text}
use Rattle.c_check.specs.Names.{is_main, is_arbitrary, FileNames, BodyNames, named, is_named, is_among, with_name, with_slot, with_local}
use Rattle.c_check.specs.Rules.{local_faults}
use Rattle.c_check.specs.Bodies.{reading_of, sequence_faults, sequence_becomes, sequence_after}

-- ---- heads

abbrev pub width_of : RawParam → Width
width_of p = p.width

abbrev pub signature : ℕ → RawHead → Signature
signature n h = record { number = n; kind = h.kind; width = h.width; params = map width_of h.params }

abbrev pub same_kind : FuncKind → FuncKind → Bool
same_kind Int k = is_int k
same_kind Thread k = is_thread k
same_kind Void k = not (is_int k || is_thread k)

-- two heads agree in the kind of the function, the type of its result and those of its parameters
abbrev pub agrees : Signature → Signature → Bool
agrees f g = same_kind f.kind g.kind && same_width f.width g.width && pointwise same_width f.params g.params

-- an int function without parameters, as `main` is to be
abbrev pub is_main_head : RawHead → Bool
is_main_head h = is_int h.kind && same_width h.width W32 && nat_eq (length h.params) 0

abbrev pub main_faults : RawHead → List FrontFault
main_faults h = asks (not (is_main h.name.text) || is_main_head h) WrongKind h.name.place

-- ---- parameters

-- Before its parameters a function has one slot, that of the returned value.
abbrev pub no_names : FuncKind → Width → BodyNames
no_names kind w = record { kind = kind; visible = []; depth = 0; slots = record { name = []; width = w } ∷ []; threads = [] }

-- The parameter of a thread function has no slot and can't be used; any other is a local.
abbrev pub with_param_named : FuncKind → RawName → Width → BodyNames → BodyNames
with_param_named Thread x w body = with_name x.text meanings.Argument body
with_param_named Int x w body = with_local x.text w body
with_param_named Void x w body = with_local x.text w body

-- a parameter without a name, as a prototype may have it
abbrev pub with_nameless : FuncKind → Width → BodyNames → BodyNames
with_nameless Thread w body = body
with_nameless Int w body = with_slot [] w body
with_nameless Void w body = with_slot [] w body

abbrev pub with_param : Width → Option RawName → BodyNames → BodyNames
with_param w (Some x) body = with_param_named body.kind x w body
with_param w None body = with_nameless body.kind w body

abbrev pub with_params : List RawParam → BodyNames → BodyNames
with_params [] body = body
with_params (p ∷ ps) body = with_params ps (with_param p.width p.name body)

abbrev pub param_faults : Option RawName → BodyNames → List FrontFault
param_faults x body = option_map_or (local_faults body) x []

-- no two parameters of one name
abbrev pub params_faults : List RawParam → BodyNames → List FrontFault
params_faults [] body = []
params_faults (p ∷ ps) body = param_faults p.name body ++ params_faults ps (with_param p.width p.name body)

abbrev pub head_names : RawHead → BodyNames
head_names h = no_names h.kind h.width

-- the parameters and the outer block of the body are one scope
abbrev pub body_names : RawHead → BodyNames
body_names h = with_params h.params (head_names h)

-- ---- the functions of a unit

-- numbered in the order of the text
abbrev pub definitions : ℕ → List RawItem → List (List ℕ × Signature)
definitions n [] = []
definitions n (items.Function h end body ∷ rest) = (h.name.text, signature n h) ∷ definitions (n + 1) rest
definitions n (other ∷ rest) = definitions n rest

abbrev pub prototypes : List RawItem → List (List ℕ × Signature)
prototypes [] = []
prototypes (items.Prototype h ∷ rest) = (h.name.text, signature 0 h) ∷ prototypes rest
prototypes (other ∷ rest) = prototypes rest

-- ---- items

-- A global or a mutex is the only declaration of its name. A function is defined once, and may have prototypes,
-- which declare no more than it is.
abbrev pub is_value : FileNames → List ℕ → Bool
is_value file x = is_arbitrary x || is_named x file.values

abbrev pub is_defined : FileNames → List ℕ → Bool
is_defined file x = is_value file x || is_among x file.defined

abbrev pub is_declared : FileNames → List ℕ → Bool
is_declared file x = is_defined file x || is_among x file.prototyped

-- no variable is called `main`
abbrev pub value_faults : FileNames → RawName → List FrontFault
value_faults file x = asks (not (is_declared file x.text)) Redeclared x.place ++ asks (not (is_main x.text)) WrongKind x.place

-- the definition of that name, if there is one that a prototype may have
abbrev pub has_definition : FileNames → List ℕ → Bool
has_definition file x = not (is_arbitrary x) && is_named x file.definitions

abbrev pub agrees_with_definition : FileNames → RawHead → Bool
agrees_with_definition file h = option_map_or (agrees (signature 0 h)) (named h.name.text file.definitions) true

-- a prototype of an arbitrary number without parameters declares what is there anyway
abbrev pub is_dropped : RawHead → Bool
is_dropped h = is_arbitrary h.name.text && nat_eq (length h.params) 0

abbrev pub prototype_faults : FileNames → RawHead → List FrontFault
prototype_faults file h =
    if is_dropped h then [] else
    asks (has_definition file h.name.text) Undeclared h.name.place
    ++ (asks (not (is_value file h.name.text)) Redeclared h.name.place
    ++ (asks (agrees_with_definition file h && (not (is_main h.name.text) || is_main_head h)) WrongKind h.name.place
    ++ params_faults h.params (head_names h)))

abbrev pub function_faults : FileNames → RawHead → List RawPlaced → List FrontFault
function_faults file h body =
    asks (not (is_defined file h.name.text)) Redeclared h.name.place
    ++ (main_faults h
    ++ (params_faults h.params (head_names h)
    ++ sequence_faults (map (reading_of file) body) false (body_names h)))

abbrev pub item_faults : FileNames → RawItem → List FrontFault
item_faults file (items.Global x w v literal) = value_faults file x ++ asks (fits w v) BadLiteral literal
item_faults file (items.Mutex x) = value_faults file x
item_faults file (items.Prototype h) = prototype_faults file h
item_faults file (items.Function h end body) = function_faults file h body

-- ---- the unit

-- what `main` returns at its end, and what any other function does: an arbitrary number, or nothing
abbrev pub last_value : RawHead → Option Expr
last_value h = if not (is_int h.kind) then None else if is_main h.name.text then Some (Number (pos 0) W32) else Some (Nondet h.width)

-- a body whose last item is no `return` gets one, at its closing brace
abbrev pub with_return : RawHead → Place → List Placed → List Placed
with_return h end body = if ends_in_return body then body else body ++ record { place = end; stmt = Return (last_value h) } ∷ []

-- the parameter of a thread function is none that a call passes
abbrev pub param_count : RawHead → ℕ
param_count h = if is_thread h.kind then 0 else length h.params

abbrev pub function_of : FileNames → RawHead → Place → List RawPlaced → Function
function_of file h end body =
    let readings = map (reading_of file) body in
    let names = sequence_after readings (body_names h) in
    record {
      name = h.name.text;
      place = h.name.place;
      end = end;
      kind = h.kind;
      params = param_count h;
      slots = names.slots;
      threads = names.threads;
      body = with_return h end (sequence_becomes readings (body_names h));
    }

-- what the items above a place declare, and the functions, globals and mutexes that they become
pub record Made : Type 0 where
  pub names : FileNames
  pub funcs : List Function
  pub globals : List GlobalDecl
  pub mutexes : List Text

abbrev pub with_global : RawName → Width → ℤ → Made → Made
with_global x w v made = record made {
  names = record made.names { values = made.names.values ++ (x.text, meanings.Global (length made.globals) w) ∷ [] };
  globals = made.globals ++ record { name = x.text; width = w; initial = v } ∷ [];
}

abbrev pub with_mutex : RawName → Made → Made
with_mutex x made = record made {
  names = record made.names { values = made.names.values ++ (x.text, meanings.Mutex (length made.mutexes)) ∷ [] };
  mutexes = made.mutexes ++ x.text ∷ [];
}

abbrev pub with_prototype : RawHead → Made → Made
with_prototype h made = record made { names = record made.names { prototyped = made.names.prototyped ++ h.name.text ∷ [] } }

-- the name of a function is seen in its own body
abbrev pub with_function : RawHead → Place → List RawPlaced → Made → Made
with_function h end body made = record made {
  names = record made.names { defined = made.names.defined ++ h.name.text ∷ [] };
  funcs = made.funcs ++ function_of made.names h end body ∷ [];
}

abbrev pub after_item : RawItem → Made → Made
after_item (items.Global x w v literal) made = with_global x w v made
after_item (items.Mutex x) made = with_mutex x made
after_item (items.Prototype h) made = with_prototype h made
after_item (items.Function h end body) made = with_function h end body made

abbrev pub items_faults : List RawItem → Made → List FrontFault
items_faults [] made = []
items_faults (item ∷ rest) made = item_faults made.names item ++ items_faults rest (after_item item made)

abbrev pub after_items : List RawItem → Made → Made
after_items [] made = made
after_items (item ∷ rest) made = after_items rest (after_item item made)

abbrev pub nothing_made : List RawItem → Made
nothing_made all = record {
  names = record { definitions = definitions 0 all; prototypes = prototypes all; values = []; defined = []; prototyped = [] };
  funcs = [];
  globals = [];
  mutexes = [];
}

abbrev pub made_of : RawUnit → Made
made_of raw = after_items raw.items (nothing_made raw.items)

abbrev pub is_main_function : Function → Bool
is_main_function f = is_main f.name

abbrev pub unit_of : RawUnit → TranslationUnit
unit_of raw =
    let made = made_of raw in
    record { funcs = made.funcs; globals = made.globals; mutexes = made.mutexes; main = position_or_len is_main_function made.funcs }

-- ---- what is asked of the whole unit, once the checks find no fault

abbrev pub no_main_faults : List Function → List FrontFault
no_main_faults funcs = asks (list_any is_main_function funcs) NoMain whole_text

-- each one beyond so many
abbrev pub over : ℕ → List Place → List FrontFault
over limit places = map (fault_at Limit) (drop limit places)

abbrev pub function_place : RawItem → List Place
function_place (items.Function h end body) = h.name.place ∷ []
function_place other = []

abbrev pub param_place : Place → RawParam → Place
param_place place p = option_map_or (λ (x : RawName). x.place) p.name place

abbrev pub param_limit_faults : RawItem → List FrontFault
param_limit_faults (items.Function h end body) = over 8 (map (param_place h.name.place) h.params)
param_limit_faults other = []

abbrev pub global_place : RawItem → List Place
global_place (items.Global x w v literal) = x.place ∷ []
global_place other = []

abbrev pub mutex_place : RawItem → List Place
mutex_place (items.Mutex x) = x.place ∷ []
mutex_place other = []

-- at most 128 functions, 8 parameters of each, 64 globals and 8 mutexes
abbrev pub limit_faults : List RawItem → List FrontFault
limit_faults all =
    over 128 (flat_map function_place all)
    ++ (flat_map param_limit_faults all
    ++ (over 64 (flat_map global_place all)
    ++ over 8 (flat_map mutex_place all)))

-- the faults of the checks, then a missing `main`, then the limits
abbrev pub unit_faults : RawUnit → List FrontFault
unit_faults raw = items_faults raw.items (nothing_made raw.items) ++ (no_main_faults (unit_of raw).funcs ++ limit_faults raw.items)
