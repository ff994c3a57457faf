-- What the words of a command line say.
use Rattle.std.specs.Prelude.{List, [], ◌∷◌, Option, None, option_map, option_and_then, if◌then◌else◌, slice_get, codes}
use Rattle.std.specs.Str.{bytes_eq}
use Rattle.command_words.specs.Reading.{Word, Form, positionals_of, reading, value_of}
use Rattle.command_words.specs.Numbers.{analyse_budget, edition_budget, load_functions, load_number, serve_hands, serve_port, serve_rounds}
use Rattle.command_words.specs.declared.line.CommandLine.{CommandLine}
use Rattle.command_words.specs.declared.line.CommandLine.TheVariants.{Analyse, Run, Replay, Load, Debug, Serve}

-- ---- analyse FILE [--budget N]

abbrev pub analyse_form : Form
analyse_form = record { options = codes "budget" ∷ []; positionals = codes "file" ∷ [] }

abbrev pub analyse_by : Option Word → Option Word → Option CommandLine
analyse_by file budget = option_and_then (λ name. option_map (λ n. Analyse name n) (analyse_budget budget)) file

abbrev pub analyse_of : List Word → Option CommandLine
analyse_of words = option_and_then (λ xs. analyse_by (slice_get (positionals_of xs) 0) (value_of (codes "budget") xs)) (reading analyse_form words)

-- ---- run FILE SCHEDULE

abbrev pub run_form : Form
run_form = record { options = []; positionals = codes "file" ∷ codes "schedule" ∷ [] }

abbrev pub run_by : Option Word → Option Word → Option CommandLine
run_by file schedule = option_and_then (λ name. option_map (λ other. Run name other) schedule) file

abbrev pub run_of : List Word → Option CommandLine
run_of words = option_and_then (λ xs. run_by (slice_get (positionals_of xs) 0) (slice_get (positionals_of xs) 1)) (reading run_form words)

-- ---- replay SCRIPT

abbrev pub replay_form : Form
replay_form = record { options = []; positionals = codes "script" ∷ [] }

abbrev pub replay_by : Option Word → Option CommandLine
replay_by script = option_map (λ name. Replay name) script

abbrev pub replay_of : List Word → Option CommandLine
replay_of words = option_and_then (λ xs. replay_by (slice_get (positionals_of xs) 0)) (reading replay_form words)

-- ---- load NUMBER [--functions N]

abbrev pub load_form : Form
load_form = record { options = codes "functions" ∷ []; positionals = codes "number" ∷ [] }

abbrev pub load_by : Option Word → Option Word → Option CommandLine
load_by seed functions = option_and_then (λ n. option_map (λ count. Load n count) (load_functions functions)) (option_and_then load_number seed)

abbrev pub load_of : List Word → Option CommandLine
load_of words = option_and_then (λ xs. load_by (slice_get (positionals_of xs) 0) (value_of (codes "functions") xs)) (reading load_form words)

-- ---- debug FILE [--budget N]

abbrev pub debug_by : Option Word → Option Word → Option CommandLine
debug_by file budget = option_and_then (λ name. option_map (λ n. Debug name n) (edition_budget budget)) file

abbrev pub debug_of : List Word → Option CommandLine
debug_of words = option_and_then (λ xs. debug_by (slice_get (positionals_of xs) 0) (value_of (codes "budget") xs)) (reading analyse_form words)

-- ---- serve FILE [--hands H] [--rounds R] [--port P] [--budget N]

abbrev pub serve_form : Form
serve_form = record {
  options = codes "hands" ∷ codes "rounds" ∷ codes "port" ∷ codes "budget" ∷ [];
  positionals = codes "file" ∷ [];
}

abbrev pub serve_by : Option Word → Option Word → Option Word → Option Word → Option Word → Option CommandLine
serve_by file hands rounds port budget = option_and_then (λ name. option_and_then (λ h. option_and_then (λ r.
    option_and_then (λ p. option_map (λ n. Serve name h r p n) (edition_budget budget))
    (serve_port port)) (serve_rounds rounds)) (serve_hands hands)) file

abbrev pub serve_of : List Word → Option CommandLine
serve_of words = option_and_then (λ xs. serve_by (slice_get (positionals_of xs) 0) (value_of (codes "hands") xs)
    (value_of (codes "rounds") xs) (value_of (codes "port") xs) (value_of (codes "budget") xs)) (reading serve_form words)

-- ---- all commands: the first word is the command

abbrev pub command_reading : List Word → Option CommandLine
command_reading [] = None
command_reading (command ∷ words) =
    if bytes_eq command (codes "analyse") then analyse_of words
    else (if bytes_eq command (codes "run") then run_of words
    else (if bytes_eq command (codes "replay") then replay_of words
    else (if bytes_eq command (codes "load") then load_of words
    else (if bytes_eq command (codes "debug") then debug_of words
    else (if bytes_eq command (codes "serve") then serve_of words else None)))))
