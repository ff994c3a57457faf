-- The table of pieces that a text is cut into, and the longest one at a place.
use Rattle.std.specs.Prelude.{◌≡◌, ℕ, ◌<◌, ◌^◌, ℤ, pos, Bool, not, ◌||◌, ◌==◌, ◌⊎◌, List, [], ◌∷◌, ◌++◌, length, IsTrue, codes, decimal, bytes_eq}
use Rattle.std.specs.Char.{is_ascii_digit}
use Rattle.std.specs.List.{list_all, list_any}
use Rattle.gob_tree.specs.Words.{is_word_byte, IsWord}
use Rattle.c_lex.specs.declared.piece.Shape.{Shape}
use Rattle.c_lex.specs.declared.piece.Shape.TheVariants.{Blank, LineComment, BlockComment, Include, Kept, Unclosed, Directive, BadNumber}
use Rattle.c_lex.specs.declared.token.TokenKind.{TokenKind}
use Rattle.c_lex.specs.declared.token.TokenKind.TheVariants.{Word, Number, Mark}

-- a line feed, and no other byte, ends a line
abbrev pub is_line_end : ℕ → Bool
is_line_end b = b == 10

-- a blank or a tab
abbrev pub is_space : ℕ → Bool
is_space b = b == 32 || b == 9

-- a blank, a tab, a carriage return or a line feed
abbrev pub is_blank : ℕ → Bool
is_blank b = is_space b || (b == 13 || b == 10)

-- each byte passes the test
abbrev pub Only : (ℕ → Bool) → List ℕ → Type 0
Only test bytes = IsTrue (list_all test bytes)

-- `part` stands somewhere in the bytes
abbrev pub Holds : List ℕ → List ℕ → Type 0
Holds part bytes = (front : List ℕ) × (back : List ℕ) × (bytes ≡ front ++ (part ++ back))

-- the text begins with p
abbrev pub Begins : List ℕ → List ℕ → Type 0
Begins p text = (rest : List ℕ) × (p ++ rest ≡ text)

abbrev pub marks : List (List ℕ)
marks =
    codes "++" ∷ codes "--" ∷ codes "+=" ∷ codes "-=" ∷ codes "*=" ∷ codes "/=" ∷ codes "%="
    ∷ codes "==" ∷ codes "!=" ∷ codes "<=" ∷ codes ">=" ∷ codes "&&" ∷ codes "||"
    ∷ codes "+" ∷ codes "-" ∷ codes "*" ∷ codes "/" ∷ codes "%" ∷ codes "=" ∷ codes "<" ∷ codes ">"
    ∷ codes "!" ∷ codes "&" ∷ codes "(" ∷ codes ")" ∷ codes "{" ∷ codes "}" ∷ codes "," ∷ codes ";" ∷ []

abbrev pub is_mark : List ℕ → Bool
is_mark p = list_any (bytes_eq p) marks

-- a run that a number would have to be: a digit, and then letters, digits and `_`
abbrev pub IsDigitRun : List ℕ → Type 0
IsDigitRun p = (head : ℕ) × (tail : List ℕ) × (p ≡ head ∷ tail) × IsTrue (is_ascii_digit head) × Only is_word_byte tail

abbrev pub IsSuffix : List ℕ → Type 0
IsSuffix s = (s ≡ []) ⊎ ((s ≡ codes "L") ⊎ (s ≡ codes "l"))

-- the run is the decimal spelling of a number of 63 bits, with at most one suffix
pub record Spells (run : List ℕ) (value : ℤ) : Type 0 where
  pub number : ℕ
  pub suffix : List ℕ
  pub is : value ≡ pos number
  pub fits : number < 2 ^ 63
  pub suffixed : IsSuffix suffix
  pub spelled : run ≡ decimal number ++ suffix

abbrev pub IsToken : TokenKind → List ℕ → Type 0
IsToken Word p = IsWord p
IsToken (Number value) p = Spells p value
IsToken Mark p = IsTrue (is_mark p)

-- The table of pieces. `leads` says whether only blanks and tabs stand before the piece on its line.
abbrev pub IsPiece : Bool → Shape → List ℕ → Type 0
IsPiece leads Blank p = (b : ℕ) × (p ≡ b ∷ []) × IsTrue (is_blank b)
IsPiece leads LineComment p = (body : List ℕ) × (p ≡ codes "//" ++ body) × Only (λ b. not (is_line_end b)) body
IsPiece leads BlockComment p = (body : List ℕ) × (p ≡ codes "/*" ++ (body ++ codes "*/")) × ¬ (Holds (codes "*/") (body ++ codes "*"))
IsPiece leads Unclosed p = (body : List ℕ) × (p ≡ codes "/*" ++ body) × ¬ (Holds (codes "*/") body)
IsPiece leads Include p = IsTrue leads × ((body : List ℕ) × (p ≡ codes "#include" ++ body) × Only (λ b. not (is_line_end b)) body)
IsPiece leads Directive p = IsTrue leads × (p ≡ codes "#")
IsPiece leads (Kept kind) p = IsToken kind p
IsPiece leads BadNumber p = IsDigitRun p × ((value : ℤ) → ¬ (Spells p value))

-- p is a piece of this shape, and each other one that begins the text p ++ rest is shorter
pub record IsLongest (leads : Bool) (shape : Shape) (p rest : List ℕ) : Type 0 where
  pub piece : IsPiece leads shape p
  pub longest : (other : Shape) (q : List ℕ) → IsPiece leads other q → Begins q (p ++ rest) → ((other ≡ shape) × (q ≡ p)) ⊎ (length q < length p)

-- no piece begins the text
abbrev pub NoPiece : Bool → List ℕ → Type 0
NoPiece leads text = (shape : Shape) (p : List ℕ) → IsPiece leads shape p → ¬ (Begins p text)
