-- The lines that a run prints: one for each choice, and then the last configuration.
--
-- A reader should check: the form of each line, and that the words and the configuration are those
-- of the definition's run.
use Rattle.std.specs.Prelude.{ℕ, zero, suc, ◌+◌, ℤ, pos, List, [], ◌∷◌, ◌++◌, length, Option, None, Some, option_map, slice_get, slice_index_or, codes, decimal}
use Rattle.std.specs.Option.{option_map_or}
use Rattle.std.specs.Fmt.{signed_decimal}
use Rattle.gob_tree.specs.declared.place.Place.{Place}
use Rattle.gob_tree.specs.declared.unit.Function.{Function}
use Rattle.gob_tree.specs.declared.unit.GlobalDecl.{GlobalDecl}
use Rattle.gob_tree.specs.declared.unit.Unit.{Unit as TranslationUnit}
use Rattle.gob_tree.specs.Labels.{labels_of}
use Rattle.c_meaning.specs.declared.config.Choice.{Choice}
use Rattle.c_meaning.specs.declared.config.Stepped.{Stepped}
use Rattle.c_meaning.specs.declared.config.Stepped.TheVariants.{Moved, Blocked, Faulted, Ended, NoThread}
use Rattle.c_meaning.specs.Config.{Config}
use Rattle.c_meaning.specs.Demand.{value_at}
use Rattle.c_meaning.specs.Tree.{Frame, first_tree, func_slots}
use Rattle.c_meaning.specs.Run.{words_of, left_by}
use Rattle.tree_run.specs.Looking.{top_frame}
use Rattle.tree_run.specs.Viewing.{TopSeen, top_of}

-- ---- choices

abbrev pub word_text : Stepped → List ℕ
word_text Moved = codes "moved"
word_text Blocked = codes "blocked"
word_text Faulted = codes "faulted"
word_text Ended = codes "ended"
word_text NoThread = codes "none"

-- `I T WORD`
abbrev pub step_line : ℕ → ℕ → Stepped → List ℕ
step_line i thread word = decimal i ++ codes " " ++ decimal thread ++ codes " " ++ word_text word ++ codes "\n"

-- the lines of choices with their words, of which the first has this number
abbrev pub step_lines : ℕ → List Choice → List Stepped → List ℕ
step_lines i [] words = []
step_lines i (choice ∷ choices) [] = []
step_lines i (choice ∷ choices) (word ∷ words) = step_line i choice.thread word ++ step_lines (i + 1) choices words

-- ---- the last configuration

-- `global NAME=V`
abbrev pub global_line : List ℕ → ℤ → List ℕ
global_line name n = codes "global " ++ name ++ codes "=" ++ signed_decimal n ++ codes "\n"

-- the lines of globals, of which the first has this number
abbrev pub global_lines : ℕ → List GlobalDecl → List ℤ → List ℕ
global_lines g [] values = []
global_lines g (decl ∷ decls) values = global_line decl.name (value_at values g) ++ global_lines (g + 1) decls values

-- ` NAME=V`; nothing for a slot that has no label
abbrev pub slot_text : List ℕ → ℤ → List ℕ
slot_text [] n = []
slot_text (c ∷ label) n = codes " " ++ (c ∷ label) ++ codes "=" ++ signed_decimal n

-- the texts of slots, of which the first has this number
abbrev pub slots_text : ℕ → List (List ℕ) → List ℤ → List ℕ
slots_text x [] values = []
slots_text x (label ∷ labels) values = slot_text label (value_at values x) ++ slots_text (x + 1) labels values

-- the name of a function by its number
abbrev pub name_of : TranslationUnit → ℕ → List ℕ
name_of unit f = option_map_or (λ (func : Function). func.name) (slice_get unit.funcs f) []

-- `FUNCTION L:C`, and the slots
abbrev pub top_text : TranslationUnit → TopSeen → List ℕ
top_text unit top =
    name_of unit top.func ++ codes " " ++ decimal top.place.line ++ codes ":" ++ decimal top.place.column
    ++ slots_text 0 (labels_of (func_slots unit top.func)) top.slots

-- `thread T ended`, or `thread T FUNCTION L:C` and the slots
abbrev pub thread_line : TranslationUnit → ℕ → Option TopSeen → List ℕ
thread_line unit t None = codes "thread " ++ decimal t ++ codes " ended\n"
thread_line unit t (Some top) = codes "thread " ++ decimal t ++ codes " " ++ top_text unit top ++ codes "\n"

-- the lines of so many threads, of which the first has this number
abbrev pub thread_lines : TranslationUnit → Config Frame → ℕ → ℕ → List ℕ
thread_lines unit c t zero = []
thread_lines unit c t (suc more) = thread_line unit t (option_map top_of (top_frame c t)) ++ thread_lines unit c (t + 1) more

-- the globals, and each thread
abbrev pub config_lines : TranslationUnit → Config Frame → List ℕ
config_lines unit c = global_lines 0 unit.globals c.globals ++ thread_lines unit c 1 (length c.threads)

-- all lines of a run
abbrev pub run_lines : TranslationUnit → List Choice → List ℕ
run_lines unit choices =
    step_lines 1 choices (words_of unit (first_tree unit) choices) ++ config_lines unit (left_by unit (first_tree unit) choices)
