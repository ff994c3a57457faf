-- What a header line says. A line is given by the bytes before its LF.
use Rattle.std.specs.Prelude.{ℕ, ◌-◌, ◌+◌, Bool, ◌==◌, ◌&&◌, ◌||◌, not, nat_lt, nat_le, if◌then◌else◌, List, [], ◌∷◌, length, take, drop, map, reverse, slice_index, codes, Option, Some, None, position, fold, ◌*◌}
use Rattle.std.specs.Char.{is_ascii_digit, to_ascii_lowercase}
use Rattle.std.specs.List.{list_all}
use Rattle.std.specs.Str.{bytes_eq}
use Rattle.dap_frame.specs.declared.line.Line.{Line}
use Rattle.dap_frame.specs.declared.line.Line.TheVariants.{Empty, Length, Other, Malformed}

-- a name: one character or more from 33 to 126; a line's first colon ends it
abbrev pub is_visible : ℕ → Bool
is_visible b = nat_le 33 b && nat_le b 126

abbrev pub is_name : List ℕ → Bool
is_name name = nat_lt 0 (length name) && list_all is_visible name

-- a value: bytes other than CR and LF
abbrev pub is_value : List ℕ → Bool
is_value value = list_all (λ b. not (b == 13) && not (b == 10)) value

-- names compare without regard to case
abbrev pub is_length_name : List ℕ → Bool
is_length_name name = bytes_eq (map to_ascii_lowercase name) (codes "content-length")

-- blanks and tabs at both ends dropped
abbrev pub is_blank : ℕ → Bool
is_blank b = b == 32 || b == 9

abbrev pub drop_blanks : List ℕ → List ℕ
drop_blanks [] = []
drop_blanks (b ∷ bs) = if is_blank b then drop_blanks bs else b ∷ bs

abbrev pub trimmed : List ℕ → List ℕ
trimmed value = reverse (drop_blanks (reverse (drop_blanks value)))

-- a length is 1 to 10 digits
abbrev pub is_number : List ℕ → Bool
is_number digits = nat_le 1 (length digits) && nat_le (length digits) 10 && list_all is_ascii_digit digits

abbrev pub number_of : List ℕ → ℕ
number_of digits = fold (λ n digit. n * 10 + (digit - 48)) 0 digits

abbrev pub length_line : List ℕ → Line
length_line digits = if is_number digits then Length (number_of digits) else Malformed

-- the name stands before the first colon, and the value behind it
abbrev pub field_of : List ℕ → List ℕ → Line
field_of name value =
    if is_name name && is_value value
    then (if is_length_name name then length_line (trimmed value) else Other)
    else Malformed

abbrev pub field_at : List ℕ → Option ℕ → Line
field_at text None = Malformed
field_at text (Some colon) = field_of (take colon text) (drop (colon + 1) text)

abbrev pub field_line : List ℕ → Line
field_line text = field_at text (position (λ b. b == 58) text)

-- the text of a line ends with a CR; without a text the line is the empty one
abbrev pub text_line : List ℕ → Line
text_line [] = Empty
text_line (b ∷ bs) = field_line (b ∷ bs)

abbrev pub line_of : List ℕ → Line
line_of line =
    if slice_index line (length line - 1) == 13 then text_line (take (length line - 1) line) else Malformed
