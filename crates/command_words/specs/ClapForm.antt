-- The command that `clap` is given for a form.
use Rattle.std.specs.Prelude.{◌≡◌, ◌≢◌, ◌&&◌, ℕ, Bool, true, slice_get, List, [], ◌++◌, map, length, nat_lt, Option, Some, None, fold}
use Rattle.clap.specs.Words.{App, Rule, new_app, new_rule, with_rule, fault_of, matches_of, found_of, first_value, rows_of}
use Rattle.clap.specs.declared.parser.matches.ArgMatches.{ArgMatches}
use Rattle.clap.specs.declared.builder.ArgAction.TheVariants.{Set}
use Rattle.command_words.specs.Reading.{Word, Form, Item, are_distinct, is_among, positionals_of, reading, value_of}

abbrev pub positional_arg : Word → Rule
positional_arg name = record (new_rule name) { required = true; action = Some Set }

abbrev pub option_arg : Word → Rule
option_arg name = record (new_rule name) { long = Some name; action = Some Set }

-- a command with the form's arguments
abbrev pub app_with : Word → Form → App
app_with name form = fold with_rule (new_app name) (map positional_arg form.positionals ++ map option_arg form.options)

-- the names are distinct, and the positional words are few
abbrev pub is_sound : Form → Bool
is_sound form = are_distinct (form.positionals ++ form.options) && nat_lt (length form.positionals) 1000

-- what `clap` answers at the words
abbrev pub ReadsBy : App → List Word → Option ArgMatches → Type 0
ReadsBy a words None = fault_of a words ≢ []
ReadsBy a words (Some m) = (fault_of a words ≡ []) × (rows_of (found_of m) ≡ matches_of a words)

abbrev pub form_of : List Word → List Word → Form
form_of positionals options = record { options = options; positionals = positionals }

-- the matches have the values of the reading of the words after a command of the form
pub record Answers (form : Form) (words : List Word) (matches : ArgMatches) : Type 0 where
  pub said : List Item
  pub read : reading form words ≡ Some said
  pub option_value : (name : Word) → is_among name form.options ≡ true
      → first_value (found_of matches) name ≡ value_of name said
  pub place_value : (place : ℕ) (name : Word) → slice_get form.positionals place ≡ Some name
      → first_value (found_of matches) name ≡ slice_get (positionals_of said) place

-- what a command of the form answers at the words after it
abbrev pub Reads : Form → List Word → Option ArgMatches → Type 0
Reads form words None = reading form words ≡ None
Reads form words (Some matches) = Answers form words matches
