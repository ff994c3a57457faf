-- The tokens of a cut are parts of its text.
use Rattle.std.proofs.Common.{◌≡◌, ℕ, ◌+◌, ◌-◌, ◌≤◌, ◌<◌, List, [], ◌∷◌, ◌++◌, length, take, refl, sym, ap, subst, ◌∙◌, arith, append_assoc}
use Rattle.std.specs.Prelude.{option_to_list, slice_range}
use Rattle.std.specs.List.{All}
use Rattle.std.proofs.lemmas.List.{length-append, take_at, drop_at}
use Rattle.std.proofs.lemmas.List.Elements.{All-append, All-nil, All-cons}
use Rattle.c_lex.specs.declared.piece.Shape.{Shape}
use Rattle.c_lex.specs.declared.piece.Shape.TheVariants.{Blank, LineComment, BlockComment, Include, Kept, Unclosed, Directive, BadNumber}
use Rattle.c_lex.specs.declared.token.Token.{Token}
use Rattle.c_lex.specs.declared.token.TokenKind.{TokenKind}
use Rattle.c_lex.specs.Pieces.{IsPiece, IsToken}
use Rattle.c_lex.specs.Places.{place_after, leads_line}
use Rattle.c_lex.specs.Tokens.{Piece, texts, AreLongest, token_of, tokens_of, AreTokens, IsInText}
use Rattle.c_lex.proofs.Heads.{length-piece}

-- a token's text stands where the token says
part_of : (before p rest : List ℕ) → slice_range (before ++ (p ++ rest)) (length before) (length before + length p) ≡ p
part_of before p rest =
    let long : length before + length p - length before ≡ length p = omega arith in
    ap (λ (r : List ℕ). take (length before + length p - length before) r) (drop_at before (p ++ rest) (length before) refl) ∙ (ap (λ n. take n (p ++ rest)) long ∙ take_at p rest (length p) refl)

kept_inside : (before p rest : List ℕ) (kind : TokenKind) → IsToken kind p → 0 < length p → IsInText (before ++ (p ++ rest)) (record { kind = kind; place = place_after before; start = length before; end = length before + length p })
kept_inside before p rest kind token some = record {
  some = omega arith;
  within = omega (arith, length-append before (p ++ rest), length-append p rest);
  kind = subst (IsToken kind) (sym (part_of before p rest)) token;
  place = ap place_after (sym (take_at before (p ++ rest) (length before) refl));
}

piece_inside : (before : List ℕ) (shape : Shape) (p rest : List ℕ) → IsPiece (leads_line before) shape p → All (IsInText (before ++ (p ++ rest))) (option_to_list (token_of before (record { shape = shape; text = p })))
piece_inside before Blank p rest piece = All-nil (IsInText (before ++ (p ++ rest)))
piece_inside before LineComment p rest piece = All-nil (IsInText (before ++ (p ++ rest)))
piece_inside before BlockComment p rest piece = All-nil (IsInText (before ++ (p ++ rest)))
piece_inside before Include p rest piece = All-nil (IsInText (before ++ (p ++ rest)))
piece_inside before Unclosed p rest piece = All-nil (IsInText (before ++ (p ++ rest)))
piece_inside before Directive p rest piece = All-nil (IsInText (before ++ (p ++ rest)))
piece_inside before BadNumber p rest piece = All-nil (IsInText (before ++ (p ++ rest)))
piece_inside before (Kept kind) p rest piece =
    let text : List ℕ = before ++ (p ++ rest) in
    let token : Token = record { kind = kind; place = place_after before; start = length before; end = length before + length p } in
    All-cons (IsInText text) token [] (kept_inside before p rest kind piece (length-piece (leads_line before) (Kept kind) p piece)) (All-nil (IsInText text))

all_inside : (before : List ℕ) (ps : List Piece) (rest : List ℕ) → AreLongest before ps rest → All (IsInText (before ++ (texts ps ++ rest))) (tokens_of before ps)
all_inside before [] rest cut = All-nil (IsInText (before ++ rest))
all_inside before (p ∷ ps) rest cut =
    let text : List ℕ = before ++ (texts (p ∷ ps) ++ rest) in
    let first : before ++ (p.text ++ (texts ps ++ rest)) ≡ text = ap (λ (r : List ℕ). before ++ r) (sym (append_assoc p.text (texts ps) rest)) in
    let later : (before ++ p.text) ++ (texts ps ++ rest) ≡ text = append_assoc before p.text (texts ps ++ rest) ∙ first in
    All-append (IsInText text) (option_to_list (token_of before p)) (tokens_of (before ++ p.text) ps)
    (subst (λ (t : List ℕ). All (IsInText t) (option_to_list (token_of before p))) first (piece_inside before p.shape p.text (texts ps ++ rest) cut.0.piece))
    (subst (λ (t : List ℕ). All (IsInText t) (tokens_of (before ++ p.text) ps)) later (all_inside (before ++ p.text) ps rest cut.2))

-- each token is a part of the text
pub tokens_inside : (text : List ℕ) (tokens : List Token) → AreTokens text tokens → All (IsInText text) tokens
tokens_inside text tokens a = subst (All (IsInText text)) (sym a.kept) (subst (λ (t : List ℕ). All (IsInText t) (tokens_of [] a.pieces)) a.cut.whole (all_inside [] a.pieces [] a.cut.longest))

length-token_of-le : (before : List ℕ) (shape : Shape) (p : List ℕ) → 0 < length p → length (option_to_list (token_of before (record { shape = shape; text = p }))) ≤ length p
length-token_of-le before Blank p some = omega arith
length-token_of-le before LineComment p some = omega arith
length-token_of-le before BlockComment p some = omega arith
length-token_of-le before Include p some = omega arith
length-token_of-le before Unclosed p some = omega arith
length-token_of-le before Directive p some = omega arith
length-token_of-le before BadNumber p some = omega arith
length-token_of-le before (Kept kind) p some = omega arith

length-tokens_of-le : (before : List ℕ) (ps : List Piece) (rest : List ℕ) → AreLongest before ps rest → length (tokens_of before ps) ≤ length (texts ps)
length-tokens_of-le before [] rest cut = omega arith
length-tokens_of-le before (p ∷ ps) rest cut =
    let here = length-token_of-le before p.shape p.text (length-piece (leads_line before) p.shape p.text cut.0.piece) in
    let later = length-tokens_of-le (before ++ p.text) ps rest cut.2 in
    omega (arith, length-append (option_to_list (token_of before p)) (tokens_of (before ++ p.text) ps), length-append p.text (texts ps))

-- a text has no more tokens than bytes
pub no_more_tokens : (text : List ℕ) (tokens : List Token) → AreTokens text tokens → length tokens ≤ length text
no_more_tokens text tokens a =
    omega (arith, ap length a.kept, length-tokens_of-le [] a.pieces [] a.cut.longest, ap length a.cut.whole, length-append (texts a.pieces) [])
