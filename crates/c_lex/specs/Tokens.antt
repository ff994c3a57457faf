-- The tokens of a text: its one longest cut, or its first fault.
use Rattle.std.specs.Prelude.{◌≡◌, ◌≢◌, ◌+◌, ◌<◌, ◌≤◌, ◌⊎◌, ℕ, List, [], ◌++◌, ◌∷◌, length, take, slice_range, flat_map, option_to_list, option_map, Option, Some, None, IsUtf8}
use Rattle.gob_tree.specs.declared.place.Place.{Place}
use Rattle.c_lex.specs.declared.TheConstants.{TEXT_LIMIT}
use Rattle.c_lex.specs.declared.fault.LexFault.{LexFault}
use Rattle.c_lex.specs.declared.fault.LexFault.TheVariants.{TooLong, NotText, BadCharacter, OpenComment, BadLiteral, Unsupported, Memory}
use Rattle.c_lex.specs.declared.piece.Shape.{Shape}
use Rattle.c_lex.specs.declared.piece.Shape.TheVariants.{Blank, LineComment, BlockComment, Include, Kept, Unclosed, Directive, BadNumber}
use Rattle.c_lex.specs.declared.token.Token.{Token}
use Rattle.c_lex.specs.declared.token.TokenKind.{TokenKind}
use Rattle.c_lex.specs.Pieces.{IsLongest, IsToken, NoPiece}
use Rattle.c_lex.specs.Places.{place_after, leads_line, BreaksUtf8}

-- a piece of a cut
pub record Piece : Type 0 where
  pub shape : Shape
  pub text : List ℕ

-- the pieces' bytes, in order
abbrev pub texts : List Piece → List ℕ
texts pieces = flat_map (λ p. p.text) pieces

-- the fault that a piece of this shape is
abbrev pub fault_of : Shape → Place → Option LexFault
fault_of Unclosed place = Some (OpenComment place)
fault_of Directive place = Some (Unsupported place)
fault_of BadNumber place = Some (BadLiteral place)
fault_of Blank place = None
fault_of LineComment place = None
fault_of BlockComment place = None
fault_of Include place = None
fault_of (Kept kind) place = None

-- each piece is the longest one at its place and no fault, where the text goes on with `rest`
abbrev pub AreLongest : List ℕ → List Piece → List ℕ → Type 0
AreLongest before [] rest = Unit {0}
AreLongest before (p ∷ ps) rest =
    IsLongest (leads_line before) p.shape p.text (texts ps ++ rest)
    × (fault_of p.shape (place_after before) ≡ None)
    × AreLongest (before ++ p.text) ps rest

-- the pieces are the longest cut of the text up to `rest`
pub record Cuts (text : List ℕ) (pieces : List Piece) (rest : List ℕ) : Type 0 where
  pub whole : texts pieces ++ rest ≡ text
  pub longest : AreLongest [] pieces rest

abbrev pub kind_of : Shape → Option TokenKind
kind_of (Kept kind) = Some kind
kind_of Blank = None
kind_of LineComment = None
kind_of BlockComment = None
kind_of Include = None
kind_of Unclosed = None
kind_of Directive = None
kind_of BadNumber = None

-- the token that a piece makes after these bytes; a dropped piece makes none
abbrev pub token_of : List ℕ → Piece → Option Token
token_of before p =
    let start = length before in
    option_map (λ kind. record { kind = kind; place = place_after before; start = start; end = start + length p.text }) (kind_of p.shape)

abbrev pub tokens_of : List ℕ → List Piece → List Token
tokens_of before [] = []
tokens_of before (p ∷ ps) = option_to_list (token_of before p) ++ tokens_of (before ++ p.text) ps

-- the text may be cut: it isn't too long, and is UTF-8
pub record IsReadable (text : List ℕ) : Type 0 where
  pub fits : length text ≤ TEXT_LIMIT
  pub utf8 : IsUtf8 text

-- the tokens are those of the longest cut of the whole text
pub record AreTokens (text : List ℕ) (tokens : List Token) : Type 0 where
  pub readable : IsReadable text
  pub pieces : List Piece
  pub cut : Cuts text pieces []
  pub kept : tokens ≡ tokens_of [] pieces

-- the token is a part of the text, of its kind, and tells the place of its first byte
pub record IsInText (text : List ℕ) (token : Token) : Type 0 where
  pub some : token.start < token.end
  pub within : token.end ≤ length text
  pub kind : IsToken token.kind (slice_range text token.start token.end)
  pub place : token.place ≡ place_after (take token.start text)

-- after these bytes the longest piece is this fault, or no piece begins what is left
abbrev pub Breaks : List ℕ → List ℕ → LexFault → Type 0
Breaks before rest fault =
    ((shape : Shape) × (p : List ℕ) × (after : List ℕ) × (p ++ after ≡ rest)
    × IsLongest (leads_line before) shape p after × (fault_of shape (place_after before) ≡ Some fault))
    ⊎ ((rest ≢ []) × NoPiece (leads_line before) rest × (fault ≡ BadCharacter (place_after before)))

-- the cut goes on without a fault up to this one
pub record CutBreaks (text : List ℕ) (fault : LexFault) : Type 0 where
  pub readable : IsReadable text
  pub pieces : List Piece
  pub rest : List ℕ
  pub cut : Cuts text pieces rest
  pub breaks : Breaks (texts pieces) rest fault

-- the first fault of the text; want of memory tells nothing
abbrev pub IsFirstFault : List ℕ → LexFault → Type 0
IsFirstFault text TooLong = TEXT_LIMIT < length text
IsFirstFault text (NotText place) = (length text ≤ TEXT_LIMIT) × ((n : ℕ) × BreaksUtf8 text n × (place ≡ place_after (take n text)))
IsFirstFault text (BadCharacter place) = CutBreaks text (BadCharacter place)
IsFirstFault text (OpenComment place) = CutBreaks text (OpenComment place)
IsFirstFault text (BadLiteral place) = CutBreaks text (BadLiteral place)
IsFirstFault text (Unsupported place) = CutBreaks text (Unsupported place)
IsFirstFault text Memory = Unit {0}
