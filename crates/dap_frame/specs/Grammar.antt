-- How messages are spelled.
use Rattle.std.specs.Prelude.{◌≡◌, ℕ, ◌+◌, ◌≤◌, Bool, true, false, ◌==◌, List, [], ◌∷◌, ◌++◌, length}
use Rattle.std.specs.List.{list_any, flat_map, AllByRecursion}
use Rattle.dap_frame.specs.Limits.{header_limit, content_limit}
use Rattle.dap_frame.specs.declared.line.Line.{Line}
use Rattle.dap_frame.specs.declared.line.Line.TheVariants.{Empty, Length, Other, Malformed}
use Rattle.dap_frame.specs.Line.{field_of}

-- a header line: NAME:VALUE and CR LF
pub record Field : Type 0 where
  pub name : List ℕ
  pub value : List ℕ

abbrev pub field_text : Field → List ℕ
field_text f = f.name ++ 58 ∷ (f.value ++ 13 ∷ [])

abbrev pub whole_line : Field → List ℕ
whole_line f = field_text f ++ 10 ∷ []

-- the length that a line gives
abbrev pub length_in : Line → List ℕ
length_in Empty = []
length_in (Length n) = n ∷ []
length_in Other = []
length_in Malformed = []

-- it is one with a name and a value, and none at fault
abbrev pub is_sound : Line → Bool
is_sound Empty = false
is_sound (Length n) = true
is_sound Other = true
is_sound Malformed = false

abbrev pub lengths : List Field → List ℕ
lengths fields = flat_map (λ f. length_in (field_of f.name f.value)) fields

-- the name has no colon, and the line is none that is at fault
pub record IsField (f : Field) : Type 0 where
  pub no_colon : list_any (λ b. b == 58) f.name ≡ false
  pub sound : is_sound (field_of f.name f.value) ≡ true

-- a message: its header's lines, and its content
pub record Spelled : Type 0 where
  pub fields : List Field
  pub content : List ℕ

abbrev pub header_text : List Field → List ℕ
header_text fields = flat_map whole_line fields

abbrev pub spelling : Spelled → List ℕ
spelling m = header_text m.fields ++ 13 ∷ 10 ∷ m.content

abbrev pub IsContent : List ℕ → Type 0
IsContent content = length content ≤ content_limit

-- one line gives the length, which is the content's; and the header isn't too long
pub record IsSpelled (m : Spelled) : Type 0 where
  pub each : AllByRecursion IsField m.fields
  pub once : lengths m.fields ≡ length m.content ∷ []
  pub short : length (header_text m.fields) + 2 ≤ header_limit
  pub content : IsContent m.content
