-- One step of the cut, from where the cursor stands.
use Rattle.std.proofs.Common.{◌≡◌, ℕ, Bool, ◌+◌, ◌≤◌, ◌<◌, List, ◌++◌, length, take, drop, sym, subst, arith, inl, Option, Some, None}
use Rattle.std.specs.Prelude.{option_to_list, option_map}
use Rattle.std.proofs.lemmas.List.{length-take, length-take-le, take-append-drop}
use Rattle.c_lex.specs.declared.cursor.Cursor.{Cursor}
use Rattle.c_lex.specs.declared.fault.LexFault.{LexFault}
use Rattle.c_lex.specs.declared.piece.Found.{Found}
use Rattle.c_lex.specs.declared.token.Token.{Token}
use Rattle.c_lex.specs.declared.token.TokenKind.{TokenKind}
use Rattle.c_lex.specs.Cursors.{StandsIn}
use Rattle.c_lex.specs.Found.{FindsPiece}
use Rattle.c_lex.specs.Pieces.{IsLongest}
use Rattle.c_lex.specs.Places.{place_after, leads_line}
use Rattle.c_lex.specs.Tokens.{fault_of, kind_of, token_of, Breaks, CutBreaks, IsReadable}
use Rattle.c_lex.proofs.Cut.{IsCutTo, found_piece, cut_more}
use Rattle.c_lex.proofs.Heads.{length-piece}

-- what was found has some bytes
pub found_some : (leads : Bool) (text : List ℕ) (found : Found) → FindsPiece leads text found → 0 < found.length
found_some leads text found finds =
    let some = length-piece leads found.shape (take found.length text) finds.longest.piece in
    omega (arith, length-take found.length text)

-- a piece that is a fault breaks the cut
pub breaks_on : (text : List ℕ) (cursor : Cursor) (found : Found) (fault : LexFault) → StandsIn text cursor → FindsPiece cursor.leads (drop cursor.at text) found → fault_of found.shape cursor.place ≡ Some fault → Breaks (take cursor.at text) (drop cursor.at text) fault
breaks_on text cursor found fault stands finds is =
    let rest : List ℕ = drop cursor.at text in
    let p : List ℕ = take found.length rest in
    inl (
      found.shape,
      p,
      drop found.length rest,
      take-append-drop found.length rest,
      subst (λ leads. IsLongest leads found.shape p (drop found.length rest)) stands.leads finds.longest,
      subst (λ place. fault_of found.shape place ≡ Some fault) stands.place is,
    )

-- what was found makes a token or none
abbrev pub made : Cursor → Found → Option TokenKind → List Token
made cursor found kind = option_to_list (option_map (λ k. record { kind = k; place = cursor.place; start = cursor.at; end = cursor.at + found.length }) kind)

token_made : (text : List ℕ) (cursor : Cursor) (found : Found) → StandsIn text cursor → found.length ≤ length (drop cursor.at text) → option_to_list (token_of (take cursor.at text) (found_piece text cursor.at found)) ≡ made cursor found (kind_of found.shape)
token_made text cursor found stands within =
    let start : length (take cursor.at text) ≡ cursor.at = length-take-le cursor.at text stands.within in
    let long : length (take found.length (drop cursor.at text)) ≡ found.length = length-take-le found.length (drop cursor.at text) within in
    λ i. option_to_list (option_map (λ k. record { kind = k; place = sym stands.place i; start = start i; end = start i + long i }) (kind_of found.shape))

-- the cut, with what was found
pub cut_steps : (text : List ℕ) (cursor : Cursor) (found : Found) (tokens : List Token) → StandsIn text cursor → IsCutTo text cursor.at tokens → FindsPiece (leads_line (take cursor.at text)) (drop cursor.at text) found → fault_of found.shape (place_after (take cursor.at text)) ≡ None
    → IsCutTo text (cursor.at + found.length) (tokens ++ made cursor found (kind_of found.shape))
cut_steps text cursor found tokens stands so finds sound =
    subst (λ (ts : List Token). IsCutTo text (cursor.at + found.length) (tokens ++ ts)) (token_made text cursor found stands finds.within) (cut_more text cursor.at tokens found so finds sound)

-- the cut breaks where the cursor stands
pub cut_breaks : (text : List ℕ) (at : ℕ) (tokens : List Token) (fault : LexFault) → IsReadable text → IsCutTo text at tokens → Breaks (take at text) (drop at text) fault → CutBreaks text fault
cut_breaks text at tokens fault readable so breaks = record {
  readable = readable;
  pieces = so.pieces;
  rest = drop at text;
  cut = so.cut;
  breaks = subst (λ (b : List ℕ). Breaks b (drop at text) fault) (sym so.front) breaks;
}
