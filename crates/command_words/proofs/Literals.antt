-- Examples of readings, and of words that have none.
use Rattle.std.proofs.Common.{◌≡◌, codes, Some, None, refl, [], ◌∷◌}
use Rattle.std.specs.Str.{is_utf8}
use Rattle.clap.proofs.OnLiterals.{clap_on_literals}
use Rattle.command_words.specs.CommandLines.{command_reading}
use Rattle.command_words.specs.declared.line.CommandLine.TheVariants.{Analyse, Run, Replay, Load, Debug, Serve}

after : command_reading (codes "analyse" ∷ codes "f.c" ∷ codes "--budget" ∷ codes "5" ∷ []) ≡ Some (Analyse (codes "f.c") 5)
unfolding clap_on_literals is_utf8
after = refl

before : command_reading (codes "analyse" ∷ codes "--budget=5" ∷ codes "f.c" ∷ []) ≡ Some (Analyse (codes "f.c") 5)
unfolding clap_on_literals is_utf8
before = refl

default : command_reading (codes "analyse" ∷ codes "f.c" ∷ []) ≡ Some (Analyse (codes "f.c") 100000)
unfolding clap_on_literals is_utf8
default = refl

twice : command_reading (codes "analyse" ∷ codes "f.c" ∷ codes "--budget=5" ∷ codes "--budget=6" ∷ []) ≡ None
unfolding clap_on_literals is_utf8
twice = refl

other : command_reading (codes "analyse" ∷ codes "f.c" ∷ codes "--budge=5" ∷ []) ≡ None
unfolding clap_on_literals is_utf8
other = refl

dash : command_reading (codes "analyse" ∷ codes "-" ∷ []) ≡ None
unfolding clap_on_literals is_utf8
dash = refl

ended : command_reading (codes "analyse" ∷ codes "--" ∷ codes "f.c" ∷ []) ≡ None
unfolding clap_on_literals is_utf8
ended = refl

zero_budget : command_reading (codes "analyse" ∷ codes "f.c" ∷ codes "--budget=0" ∷ []) ≡ None
unfolding clap_on_literals is_utf8
zero_budget = refl

two_files : command_reading (codes "analyse" ∷ codes "f.c" ∷ codes "g.c" ∷ []) ≡ None
unfolding clap_on_literals is_utf8
two_files = refl

load : command_reading (codes "load" ∷ codes "--functions" ∷ codes "120" ∷ codes "007" ∷ []) ≡ Some (Load 7 120)
unfolding clap_on_literals is_utf8
load = refl

run : command_reading (codes "run" ∷ codes "f.c" ∷ codes "s.txt" ∷ []) ≡ Some (Run (codes "f.c") (codes "s.txt"))
unfolding clap_on_literals is_utf8
run = refl

serve : command_reading (codes "serve" ∷ codes "--port" ∷ codes "5000" ∷ codes "f.c" ∷ codes "--hands=3" ∷ []) ≡ Some (Serve (codes "f.c") 3 1 5000 20000)
unfolding clap_on_literals is_utf8
serve = refl

replay : command_reading (codes "replay" ∷ codes "s.txt" ∷ []) ≡ Some (Replay (codes "s.txt"))
unfolding clap_on_literals is_utf8
replay = refl

debug : command_reading (codes "debug" ∷ codes "--budget" ∷ codes "50000" ∷ codes "f.c" ∷ []) ≡ Some (Debug (codes "f.c") 50000)
unfolding clap_on_literals is_utf8
debug = refl

help : command_reading (codes "analyse" ∷ codes "f.c" ∷ codes "--help" ∷ []) ≡ None
unfolding clap_on_literals is_utf8
help = refl

short_help : command_reading (codes "analyse" ∷ codes "-h" ∷ []) ≡ None
unfolding clap_on_literals is_utf8
short_help = refl

no_value : command_reading (codes "analyse" ∷ codes "f.c" ∷ codes "--budget" ∷ []) ≡ None
unfolding clap_on_literals is_utf8
no_value = refl

no_file : command_reading (codes "analyse" ∷ codes "--budget" ∷ codes "5" ∷ []) ≡ None
unfolding clap_on_literals is_utf8
no_file = refl

nine_digits : command_reading (codes "analyse" ∷ codes "f.c" ∷ codes "--budget=000000005" ∷ []) ≡ None
unfolding clap_on_literals is_utf8
nine_digits = refl

signed : command_reading (codes "analyse" ∷ codes "f.c" ∷ codes "--budget" ∷ codes "-5" ∷ []) ≡ None
unfolding clap_on_literals is_utf8
signed = refl

foreign_option : command_reading (codes "load" ∷ codes "1" ∷ codes "--budget=5" ∷ []) ≡ None
unfolding clap_on_literals is_utf8
foreign_option = refl

unknown_command : command_reading (codes "solve" ∷ codes "f.c" ∷ []) ≡ None
unfolding clap_on_literals is_utf8
unknown_command = refl

not_text : command_reading (codes "analyse" ∷ (255 ∷ []) ∷ []) ≡ None
unfolding clap_on_literals is_utf8
not_text = refl

no_words : command_reading [] ≡ None
no_words = refl
