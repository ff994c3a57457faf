-- Stages of the checks of items, as they are made one after the other.
use Rattle.std.specs.List.{position_or_len}
use Rattle.std.specs.Prelude.{false, not, ◌&&◌, ◌||◌, List, ◌++◌, map}
use Rattle.gob_tree.specs.declared.place.Place.{Place}
use Rattle.gob_tree.specs.declared.stmt.Placed.{Placed}
use Rattle.gob_tree.specs.declared.unit.Function.{Function}
use Rattle.gob_tree.specs.declared.unit.Unit.{Unit as TranslationUnit}
use Rattle.c_parse.specs.declared.raw.stmt.RawPlaced.{RawPlaced}
use Rattle.c_parse.specs.declared.raw.unit.RawHead.{RawHead}
use Rattle.c_check.specs.declared.fault.FrontFault.{FrontFault}
use Rattle.c_check.specs.declared.fault.FrontKind.TheVariants.{Undeclared, Redeclared, WrongKind}
use Rattle.c_check.specs.declared.limits.Counted.{Counted}
use Rattle.c_check.specs.declared.limits.Counted.TheVariants.{Functions, Globals, Mutexes}
use Rattle.c_parse.specs.declared.raw.unit.RawItem.{RawItem}
use Rattle.c_check.specs.Faults.{asks}
use Rattle.c_check.specs.Names.{is_main, FileNames, BodyNames}
use Rattle.c_check.specs.Bodies.{reading_of, sequence_faults, sequence_becomes, sequence_after}
use Rattle.c_check.specs.Units.{Made, after_items, items_faults, no_main_faults, limit_faults, is_main_function, has_definition, is_value, agrees_with_definition, is_main_head, params_faults, head_names, body_names, param_count, with_return, function_place, global_place, mutex_place}

-- a prototype that isn't dropped
abbrev pub declaring_faults : FileNames → RawHead → List FrontFault
declaring_faults file h =
    asks (has_definition file h.name.text) Undeclared h.name.place
    ++ (asks (not (is_value file h.name.text)) Redeclared h.name.place
    ++ (asks (agrees_with_definition file h && (not (is_main h.name.text) || is_main_head h)) WrongKind h.name.place
    ++ params_faults h.params (head_names h)))

-- the parameters and the body of a function
abbrev pub body_faults : FileNames → RawHead → List RawPlaced → List FrontFault
body_faults file h body = params_faults h.params (head_names h) ++ sequence_faults (map (reading_of file) body) false (body_names h)

abbrev pub names_behind : FileNames → RawHead → List RawPlaced → BodyNames
names_behind file h body = sequence_after (map (reading_of file) body) (body_names h)

abbrev pub body_becomes : FileNames → RawHead → List RawPlaced → List Placed
body_becomes file h body = sequence_becomes (map (reading_of file) body) (body_names h)

-- a function of which the body is read
abbrev pub assembled : RawHead → Place → BodyNames → List Placed → Function
assembled h end names body = record {
  name = h.name.text;
  place = h.name.place;
  end = end;
  kind = h.kind;
  params = param_count h;
  slots = names.slots;
  threads = names.threads;
  body = with_return h end body;
}

-- ---- limits

-- where a function, a global or a mutex is named
abbrev pub counted_place : Counted → RawItem → List Place
counted_place Functions item = function_place item
counted_place Globals item = global_place item
counted_place Mutexes item = mutex_place item

-- ---- the whole unit

-- the faults of the items, and then of what they become
abbrev pub whole_faults : List RawItem → Made → List FrontFault
whole_faults all made = items_faults all made ++ (no_main_faults (after_items all made).funcs ++ limit_faults all)

abbrev pub whole_unit : Made → TranslationUnit
whole_unit made = record { funcs = made.funcs; globals = made.globals; mutexes = made.mutexes; main = position_or_len is_main_function made.funcs }
