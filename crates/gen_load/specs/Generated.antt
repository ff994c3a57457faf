-- The text of a generated program, and of its edits.
use Rattle.std.specs.Prelude.{ℕ, zero, suc, ◌+◌, ◌%◌, List, [], ◌∷◌, ◌++◌, codes, decimal}
use Rattle.gen_load.specs.declared.choice.Form.{Form}
use Rattle.gen_load.specs.declared.choice.Form.TheVariants.{Adds, Caps, Locks}
use Rattle.gen_load.specs.declared.choice.Choice.{Choice}
use Rattle.gen_load.specs.Drawing.{choices}

-- four globals and a mutex
abbrev pub head_text : List ℕ
head_text = codes "int g0 = 0;\nint g1 = 0;\nint g2 = 0;\nint g3 = 0;\npthread_mutex_t m0 = PTHREAD_MUTEX_INITIALIZER;\n"

-- some words, and then a number
abbrev pub after : List ℕ → ℕ → List ℕ
after words n = words ++ decimal n

-- it adds C to its parameter and writes C to gJ
abbrev pub adds_text : ℕ → ℕ → List ℕ
adds_text c j = after (codes "int x = n + ") c ++ after (codes "; g") j ++ after (codes " = ") c ++ codes "; return x;"

-- it caps what it reads of gJ at C
abbrev pub caps_text : ℕ → ℕ → List ℕ
caps_text c j = after (codes "int x = g") j ++ after (codes "; if (x > ") c ++ after (codes ") x = ") c ++ codes "; return x;"

-- it writes C to gJ under the mutex
abbrev pub locks_text : ℕ → ℕ → List ℕ
locks_text c j = after (codes "pthread_mutex_lock(&m0); g") j ++ after (codes " = ") c ++ codes "; pthread_mutex_unlock(&m0); return n;"

-- what a function does between its parameter and its end
abbrev pub body_text : Choice → List ℕ
body_text choice = by_form choice.form
  where
    by_form : Form → List ℕ
    by_form Adds = adds_text choice.constant choice.global
    by_form Caps = caps_text choice.constant choice.global
    by_form Locks = locks_text choice.constant choice.global

-- the line of function i
abbrev pub function_text : ℕ → Choice → List ℕ
function_text i choice =
    codes "int f" ++ decimal i ++ codes "(int n) { " ++ body_text choice ++ codes " }\n"

-- the lines of the functions from number i on
abbrev pub functions_text : ℕ → List Choice → List ℕ
functions_text i [] = []
functions_text i (choice ∷ others) = function_text i choice ++ functions_text (i + 1) others

-- main's line that calls function i
abbrev pub call_text : ℕ → List ℕ
call_text i = codes "  r = f" ++ decimal i ++ codes "(" ++ decimal (i % 3) ++ codes ");\n"

-- main's calls of the first n functions
abbrev pub calls_text : ℕ → List ℕ
calls_text zero = []
calls_text (suc n) = calls_text n ++ call_text n

-- the program of these choices for this many functions
abbrev pub text_of : ℕ → List Choice → List ℕ
text_of count made =
    head_text ++ functions_text 0 made ++ codes "int main(void) {\n  int r = 0;\n" ++ calls_text count ++ codes "  return r;\n}\n"

-- the program of a number with this many functions
abbrev pub program_text : ℕ → ℕ → List ℕ
program_text number count = text_of count (choices number count)

-- a choice with the next constant, which after 99 is 0
abbrev pub raised : Choice → Choice
raised choice = record choice { constant = (choice.constant + 1) % 100 }

-- the choices where that of function i has its next constant
abbrev pub raised_at : List Choice → ℕ → List Choice
raised_at [] i = []
raised_at (choice ∷ others) zero = raised choice ∷ others
raised_at (choice ∷ others) (suc i) = choice ∷ raised_at others i

-- the choices after the first k edits: edit k, counted from 0, raises the constant of function k % count
abbrev pub after_edits : ℕ → List Choice → ℕ → List Choice
after_edits count made zero = made
after_edits count made (suc k) = raised_at (after_edits count made k) (k % count)

-- the texts of the first k edits
abbrev pub edit_texts : ℕ → List Choice → ℕ → List (List ℕ)
edit_texts count made zero = []
edit_texts count made (suc k) = edit_texts count made k ++ text_of count (after_edits count made (suc k)) ∷ []
