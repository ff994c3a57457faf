-- What a piece begins with tells its shape.
use Rattle.std.proofs.Common.{◌≡◌, ℕ, ◌<◌, Bool, List, [], ◌∷◌, ◌++◌, length, refl, sym, ap, subst, ◌∙◌, arith}
use Rattle.std.specs.Prelude.{IsTrue, decimal}
use Rattle.std.specs.Char.{is_ascii_digit}
use Rattle.std.specs.List.{list_all}
use Rattle.std.proofs.lemmas.Bool.{and_parts}
use Rattle.c_lex.specs.declared.piece.Shape.{Shape}
use Rattle.c_lex.specs.declared.piece.Shape.TheVariants.{Blank, LineComment, BlockComment, Include, Kept, Unclosed, Directive, BadNumber}
use Rattle.c_lex.specs.declared.token.TokenKind.TheVariants.{Word, Number, Mark}
use Rattle.c_lex.specs.Pieces.{IsPiece, Begins, Only, is_blank, is_mark}
use Rattle.gob_tree.specs.Words.{is_word_head}
use Rattle.c_lex.proofs.Numerals.{decimal_digits}

-- a byte that a mark begins with
abbrev pub IsMarkHead : ℕ → Type 0
IsMarkHead b = (tail : List ℕ) × IsTrue (is_mark (b ∷ tail))

-- a byte that a piece of this shape begins with
abbrev pub Heads : Shape → ℕ → Type 0
Heads Blank b = IsTrue (is_blank b)
Heads LineComment b = b ≡ 47
Heads BlockComment b = b ≡ 47
Heads Unclosed b = b ≡ 47
Heads Include b = b ≡ 35
Heads Directive b = b ≡ 35
Heads (Kept Word) b = IsTrue (is_word_head b)
Heads (Kept (Number value)) b = IsTrue (is_ascii_digit b)
Heads (Kept Mark) b = IsMarkHead b
Heads BadNumber b = IsTrue (is_ascii_digit b)

-- the piece has a first byte, which fits its shape
pub record HasHead (shape : Shape) (p : List ℕ) : Type 0 where
  pub head : ℕ
  pub tail : List ℕ
  pub is : p ≡ head ∷ tail
  pub fits : Heads shape head

digit_head : (ds s p : List ℕ) → Only is_ascii_digit ds → 0 < length ds → p ≡ ds ++ s → (h : ℕ) × (t : List ℕ) × (p ≡ h ∷ t) × IsTrue (is_ascii_digit h)
digit_head [] s p only some e = absurd (omega arith)
digit_head (d ∷ ds) s p only some e = (d, ds ++ s, e, (and_parts (is_ascii_digit d) (list_all is_ascii_digit ds) only).0)

mark_head : (p : List ℕ) → IsTrue (is_mark p) → HasHead (Kept Mark) p
mark_head [] m = absurd (cc)
mark_head (b ∷ tail) m = record { head = b; tail = tail; is = refl; fits = (tail, m) }

pub head_of : (leads : Bool) (shape : Shape) (p : List ℕ) → IsPiece leads shape p → HasHead shape p
head_of leads Blank p (b, e, t) = record { head = b; tail = []; is = e; fits = t }
head_of leads LineComment p (body, e, t) = record { head = 47; tail = _; is = e; fits = refl }
head_of leads BlockComment p (body, e, t) = record { head = 47; tail = _; is = e; fits = refl }
head_of leads Unclosed p (body, e, t) = record { head = 47; tail = _; is = e; fits = refl }
head_of leads Include p (l, (body, e, t)) = record { head = 35; tail = _; is = e; fits = refl }
head_of leads Directive p (l, e) = record { head = 35; tail = _; is = e; fits = refl }
head_of leads (Kept Word) p (b, tail, e, t, o) = record { head = b; tail = tail; is = e; fits = t }
head_of leads (Kept (Number value)) p s =
    let ds = decimal_digits s.number s.fits in
    let found = digit_head (decimal s.number) s.suffix p ds.0 ds.1 s.spelled in
    record { head = found.0; tail = found.1; is = found.2; fits = found.3 }
head_of leads (Kept Mark) p m = mark_head p m
head_of leads BadNumber p ((b, tail, e, t, o), n) = record { head = b; tail = tail; is = e; fits = t }

-- the text's first byte is that of a piece that begins it
pub head_at : (leads : Bool) (shape : Shape) (p : List ℕ) (b : ℕ) (text : List ℕ) → IsPiece leads shape p → Begins p (b ∷ text) → Heads shape b
head_at leads shape p b text piece (rest, e) =
    let h = head_of leads shape p piece in
    let joined : h.head ∷ (h.tail ++ rest) ≡ b ∷ text = ap (λ (q : List ℕ). q ++ rest) (sym h.is) ∙ e in
    let same : h.head ≡ b = cc in
    subst (Heads shape) same h.fits

pub length-piece : (leads : Bool) (shape : Shape) (p : List ℕ) → IsPiece leads shape p → 0 < length p
length-piece leads shape p piece = let h = head_of leads shape p piece in rw h.is (omega arith)
