-- Schedules: the choices that a text tells, one a line.
--
-- A reader should check: how a text is cut into lines, that a line is a thread's number of 1 to 9
-- digits, one blank and a number of 64 bits, and which line is the first bad one.
use Rattle.std.specs.Prelude.{◌≡◌, ℕ, ◌+◌, ◌&&◌, ℤ, pos, neg_ℤ, List, [], ◌∷◌, ◌++◌, length, nat_eq, nat_le, if◌then◌else◌, Option, None, Some, option_map, option_and_then, Result, Ok, Err}
use Rattle.std.specs.Str.{all_ascii_digits}
use Rattle.std.specs.Str.Parse.{digits_value}
use Rattle.c_meaning.specs.declared.config.Choice.{Choice}

-- ---- lines

-- the lines with a byte put in front of the first
abbrev pub with_byte : ℕ → List (List ℕ) → List (List ℕ)
with_byte b [] = (b ∷ []) ∷ []
with_byte b (line ∷ lines) = (b ∷ line) ∷ lines

-- A text cut behind each LF, which belongs to no line. Behind a last LF there is no line.
abbrev pub lines_of : List ℕ → List (List ℕ)
lines_of [] = []
lines_of (b ∷ text) = if nat_eq b 10 then [] ∷ lines_of text else with_byte b (lines_of text)

-- ---- one line

-- what stands before the first blank, and what stands behind it
abbrev pub at_blank : List ℕ → Option (List ℕ × List ℕ)
at_blank [] = None
at_blank (b ∷ line) = if nat_eq b 32 then Some ([], line) else option_map (λ (p : List ℕ × List ℕ). (b ∷ p.0, p.1)) (at_blank line)

-- the number that 1 to so many ASCII digits write, up to the greatest that is allowed
abbrev pub number_of : ℕ → ℕ → List ℕ → Option ℕ
number_of digits greatest text =
    if all_ascii_digits text && (nat_le 1 (length text) && (nat_le (length text) digits && nat_le (digits_value 10 text) greatest))
    then Some (digits_value 10 text) else None

-- a number of 64 bits: an optional `-`, and 1 to 19 digits
abbrev pub input_of : List ℕ → Option ℤ
input_of [] = None
input_of (b ∷ text) =
    if nat_eq b 45 then option_map (λ n. neg_ℤ (pos n)) (number_of 19 9223372036854775808 text)
    else option_map pos (number_of 19 9223372036854775807 (b ∷ text))

abbrev pub choice_with : ℕ → ℤ → Choice
choice_with thread input = record { thread = thread; input = input }

-- a thread's number of 1 to 9 digits and an input
abbrev pub choice_in : List ℕ × List ℕ → Option Choice
choice_in parts = option_and_then (λ thread. option_map (choice_with thread) (input_of parts.1)) (number_of 9 999999999 parts.0)

-- the choice of a line; none where the line has another form
abbrev pub choice_of : List ℕ → Option Choice
choice_of line = option_and_then choice_in (at_blank line)

-- ---- all lines

-- the choices behind others, or the first bad line
abbrev pub joined : List Choice → Result (List Choice) ℕ → Result (List Choice) ℕ
joined before (Ok choices) = Ok (before ++ choices)
joined before (Err line) = Err line

abbrev pub behind : ℕ → Option Choice → Result (List Choice) ℕ → Result (List Choice) ℕ
behind line None rest = Err line
behind line (Some choice) rest = joined (choice ∷ []) rest

-- the choices of lines, of which the first has this number
abbrev pub choices_from : ℕ → List (List ℕ) → Result (List Choice) ℕ
choices_from line [] = Ok []
choices_from line (text ∷ lines) = behind line (choice_of text) (choices_from (line + 1) lines)

-- the choices of a schedule; or the number of its first bad line, from 1
abbrev pub schedule_of : List ℕ → Result (List Choice) ℕ
schedule_of text = choices_from 1 (lines_of text)
