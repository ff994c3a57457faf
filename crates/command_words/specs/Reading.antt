-- How the words after a command are read.
use Rattle.std.specs.Prelude.{◌==◌, ◌&&◌, ℕ, Bool, true, false, not, List, [], ◌∷◌, map, length, find, Option, Some, None, option_map, option_and_then, if◌then◌else◌, codes}
use Rattle.std.specs.List.{list_all, list_any}
use Rattle.std.specs.Str.{bytes_eq, is_utf8}

abbrev pub Word : Type 0
Word = List ℕ

-- what a command has: the names of its options, and a name for each positional word
pub record Form : Type 0 where
  pub options : List Word
  pub positionals : List Word

-- what the words say: an option with its value, or a positional word
pub data Item : Type 0 where
  option : Word → Word → Item
  positional : Word → Item

-- ---- one word

-- no line has another word: it is UTF-8, and isn't `--help`
abbrev pub may_stand : Word → Bool
may_stand word = is_utf8 word && not (bytes_eq word (codes "--help"))

-- a word is a positional one or a value; or `--name`, or `--name=value`; or none of these
pub data Kind : Type 0 where
  plain : Kind
  named : Word → Option Word → Kind
  wrong : Kind

-- not empty, and without a `-` (45) in front
abbrev pub is_plain : Word → Bool
is_plain [] = false
is_plain (x ∷ xs) = not (x == 45)

-- what stands after `--`; nothing where the word has no `--` in front
abbrev pub after_dashes : Word → Word
after_dashes [] = []
after_dashes (x ∷ []) = []
after_dashes (x ∷ y ∷ rest) = if (x == 45) && (y == 45) then rest else []

-- what stands before the first `=` (61), if there is one
abbrev pub name_before : Word → Word
name_before [] = []
name_before (x ∷ xs) = if x == 61 then [] else x ∷ name_before xs

-- what stands after the first `=`
abbrev pub value_after : Word → Option Word
value_after [] = None
value_after (x ∷ xs) = if x == 61 then Some xs else value_after xs

abbrev pub kind_by_value : Word → Option Word → Kind
kind_by_value name None = named name None
kind_by_value name (Some value) = if is_plain value then named name (Some value) else wrong

abbrev pub kind_of_rest : Word → Kind
kind_of_rest [] = wrong
kind_of_rest (x ∷ xs) = kind_by_value (name_before (x ∷ xs)) (value_after (x ∷ xs))

abbrev pub kind_of : Word → Kind
kind_of word = if is_plain word then plain else kind_of_rest (after_dashes word)

abbrev pub is_right : Kind → Bool
is_right wrong = false
is_right _ = true

-- a word that is given to `clap`; any other is refused before
abbrev pub goes_to_clap : Word → Bool
goes_to_clap word = may_stand word && is_right (kind_of word)

-- ---- all words

-- the items of the words, where the option of a given name may wait for its value
abbrev pub next_items : Option Word → Kind → Word → (Option Word → Option (List Item)) → Option (List Item)
next_items None plain word rest = option_map (λ xs. positional word ∷ xs) (rest None)
next_items None (named name (Some value)) word rest = option_map (λ xs. option name value ∷ xs) (rest None)
next_items None (named name None) word rest = rest (Some name)
next_items None wrong word rest = None
next_items (Some name) plain word rest = option_map (λ xs. option name word ∷ xs) (rest None)
next_items (Some name) (named other value) word rest = None
next_items (Some name) wrong word rest = None

abbrev pub items : List Word → Option Word → Option (List Item)
items [] None = Some []
items [] (Some name) = None
items (word ∷ words) waiting = next_items waiting (kind_of word) word (items words)

abbrev pub options_of : List Item → List (Word × Word)
options_of [] = []
options_of (option name value ∷ xs) = (name, value) ∷ options_of xs
options_of (positional word ∷ xs) = options_of xs

abbrev pub positionals_of : List Item → List Word
positionals_of [] = []
positionals_of (option name value ∷ xs) = positionals_of xs
positionals_of (positional word ∷ xs) = word ∷ positionals_of xs

abbrev pub names_of : List Item → List Word
names_of xs = map (λ o. o.0) (options_of xs)

abbrev pub is_among : Word → List Word → Bool
is_among word words = list_any (λ w. bytes_eq w word) words

abbrev pub are_distinct : List Word → Bool
are_distinct [] = true
are_distinct (w ∷ ws) = not (is_among w ws) && are_distinct ws

-- the command has each of the options, none stands twice, and there are as many positional words
-- as it has
abbrev pub fits : Form → List Item → Bool
fits form xs = list_all (λ name. is_among name form.options) (names_of xs)
    && (are_distinct (names_of xs) && (length (positionals_of xs) == length form.positionals))

abbrev pub if_fits : Form → List Item → Option (List Item)
if_fits form xs = if fits form xs then Some xs else None

-- the reading of the words after a command of this form
abbrev pub reading : Form → List Word → Option (List Item)
reading form words = if list_all may_stand words then option_and_then (if_fits form) (items words None) else None

-- the value of the option, if it stands in the words
abbrev pub value_of : Word → List Item → Option Word
value_of name xs = option_map (λ o. o.1) (find (λ o. bytes_eq o.0 name) (options_of xs))
