-- Cuts: one piece more, and that a text has one cut and one outcome.
use Rattle.std.proofs.Common.{◌≡◌, ℕ, Bool, ◌+◌, List, [], ◌∷◌, ◌++◌, length, take, drop, refl, sym, ap, subst, ◌∙◌, arith, inl, inr, None, append_assoc}
use Rattle.std.specs.Prelude.{option_to_list}
use Rattle.std.proofs.lemmas.List.{append-nil, length-append, append_cancel_left, take-append-drop, drop-drop}
use Rattle.std.proofs.Math.Seq.{take-add}
use Rattle.c_lex.specs.declared.fault.LexFault.{LexFault}
use Rattle.c_lex.specs.declared.piece.Found.{Found}
use Rattle.c_lex.specs.declared.piece.Shape.{Shape}
use Rattle.c_lex.specs.declared.token.Token.{Token}
use Rattle.c_lex.specs.Found.{FindsPiece}
use Rattle.c_lex.specs.Pieces.{IsLongest}
use Rattle.c_lex.specs.Places.{place_after, leads_line}
use Rattle.c_lex.specs.Tokens.{Piece, texts, fault_of, AreLongest, Cuts, token_of, tokens_of, AreTokens, Breaks}
use Rattle.c_lex.proofs.Heads.{length-piece}

texts-push : (ps : List Piece) (p : Piece) (rest : List ℕ) → texts (ps ++ p ∷ []) ++ rest ≡ texts ps ++ (p.text ++ rest)
texts-push [] p rest = ap (λ (t : List ℕ). t ++ rest) (append-nil p.text)
texts-push (q ∷ ps) p rest =
    append_assoc q.text (texts (ps ++ p ∷ [])) rest ∙ (ap (λ (t : List ℕ). q.text ++ t) (texts-push ps p rest) ∙ sym (append_assoc q.text (texts ps) (p.text ++ rest)))

-- a cut goes on by the next longest piece
AreLongest-push : (before : List ℕ) (ps : List Piece) (p : Piece) (rest : List ℕ) → AreLongest before ps (p.text ++ rest) → IsLongest (leads_line (before ++ texts ps)) p.shape p.text rest → fault_of p.shape (place_after (before ++ texts ps)) ≡ None → AreLongest before (ps ++ p ∷ []) rest
AreLongest-push before [] p rest cut longest sound =
    let same : before ++ [] ≡ before = append-nil before in
    (subst (λ (b : List ℕ). IsLongest (leads_line b) p.shape p.text rest) same longest, subst (λ (b : List ℕ). fault_of p.shape (place_after b) ≡ None) same sound, tt)
AreLongest-push before (q ∷ ps) p rest cut longest sound =
    let same : before ++ texts (q ∷ ps) ≡ (before ++ q.text) ++ texts ps = sym (append_assoc before q.text (texts ps)) in (
      subst (λ (t : List ℕ). IsLongest (leads_line before) q.shape q.text t) (sym (texts-push ps p rest)) cut.0,
      cut.1,
      AreLongest-push (before ++ q.text) ps p rest cut.2 (subst (λ (b : List ℕ). IsLongest (leads_line b) p.shape p.text rest) same longest) (subst (λ (b : List ℕ). fault_of p.shape (place_after b) ≡ None) same sound),
    )

tokens_of-push : (before : List ℕ) (ps : List Piece) (p : Piece) → tokens_of before (ps ++ p ∷ []) ≡ tokens_of before ps ++ option_to_list (token_of (before ++ texts ps) p)
tokens_of-push before [] p = append-nil (option_to_list (token_of before p)) ∙ ap (λ (b : List ℕ). option_to_list (token_of b p)) (sym (append-nil before))
tokens_of-push before (q ∷ ps) p =
    let here : List Token = option_to_list (token_of before q) in
    ap (λ (ts : List Token). here ++ ts) (tokens_of-push (before ++ q.text) ps p)
    ∙ (ap (λ (b : List ℕ). here ++ (tokens_of (before ++ q.text) ps ++ option_to_list (token_of b p))) (append_assoc before q.text (texts ps))
    ∙ sym (append_assoc here (tokens_of (before ++ q.text) ps) (option_to_list (token_of (before ++ texts (q ∷ ps)) p))))

-- the text is cut up to the place `at`, into these tokens
pub record IsCutTo (text : List ℕ) (at : ℕ) (tokens : List Token) : Type 0 where
  pub pieces : List Piece
  pub cut : Cuts text pieces (drop at text)
  pub front : texts pieces ≡ take at text
  pub kept : tokens ≡ tokens_of [] pieces

pub cut_none : (text : List ℕ) → IsCutTo text 0 []
cut_none text = record { pieces = []; cut = record { whole = refl; longest = tt }; front = refl; kept = refl }

-- the piece that was found
abbrev pub found_piece : List ℕ → ℕ → Found → Piece
found_piece text at found = record { shape = found.shape; text = take found.length (drop at text) }

pub cut_more : (text : List ℕ) (at : ℕ) (tokens : List Token) (found : Found) → IsCutTo text at tokens → FindsPiece (leads_line (take at text)) (drop at text) found → fault_of found.shape (place_after (take at text)) ≡ None
    → IsCutTo text (at + found.length) (tokens ++ option_to_list (token_of (take at text) (found_piece text at found)))
cut_more text at tokens found so finds sound =
    let p = found_piece text at found in
    let rest : List ℕ = drop (at + found.length) text in
    let dropped : drop found.length (drop at text) ≡ rest = drop-drop found.length at text in
    let split : drop at text ≡ p.text ++ rest = sym (take-append-drop found.length (drop at text)) ∙ ap (λ (r : List ℕ). p.text ++ r) dropped in
    let longest : IsLongest (leads_line (texts so.pieces)) p.shape p.text rest =
    subst (λ (b : List ℕ). IsLongest (leads_line b) p.shape p.text rest) (sym so.front) (subst (λ (r : List ℕ). IsLongest (leads_line (take at text)) p.shape p.text r) dropped finds.longest) in
    let sound' : fault_of p.shape (place_after (texts so.pieces)) ≡ None = subst (λ (b : List ℕ). fault_of p.shape (place_after b) ≡ None) (sym so.front) sound in
    let whole : texts (so.pieces ++ p ∷ []) ++ rest ≡ text = texts-push so.pieces p rest ∙ (ap (λ (r : List ℕ). texts so.pieces ++ r) (sym split) ∙ so.cut.whole) in
    record {
      pieces = so.pieces ++ p ∷ [];
      cut = record { whole = whole; longest = AreLongest-push [] so.pieces p rest (subst (AreLongest [] so.pieces) split so.cut.longest) longest sound' };
      front = sym (append-nil (texts (so.pieces ++ p ∷ [])))
          ∙ (texts-push so.pieces p []
          ∙ (ap (λ (r : List ℕ). texts so.pieces ++ r) (append-nil p.text)
          ∙ (ap (λ (r : List ℕ). r ++ p.text) so.front ∙ sym (take-add at found.length text))));
      kept = ap (λ (ts : List Token). ts ++ option_to_list (token_of (take at text) p)) so.kept
          ∙ (ap (λ (b : List ℕ). tokens_of [] so.pieces ++ option_to_list (token_of b p)) (sym so.front) ∙ sym (tokens_of-push [] so.pieces p));
    }

-- the longest piece at a place is one
pub same_next : (leads : Bool) (s t : Shape) (p q r u : List ℕ) → IsLongest leads s p r → IsLongest leads t q u → p ++ r ≡ q ++ u → (t ≡ s) × (q ≡ p)
same_next leads s t p q r u a b e =
    elim (a.longest t q b.piece (u, sym e)) [
      | inl same ↦ same
      | inr shorter ↦ elim (b.longest s p a.piece (r, e)) [ inl same ↦ absurd (omega (arith, ap length same.1)) | inr longer ↦ absurd (omega arith) ]
    ]

-- no piece goes on after these bytes
abbrev pub Stops : List ℕ → List ℕ → Type 0
Stops before rest = (shape : Shape) (p after : List ℕ) → p ++ after ≡ rest → IsLongest (leads_line before) shape p after → fault_of shape (place_after before) ≡ None → ⊥

pub stops_at_end : (before : List ℕ) → Stops before []
stops_at_end before shape p after e longest sound = let some = length-piece (leads_line before) shape p longest.piece in omega (arith, ap length e, length-append p after)

pub stops_at_fault : (before rest : List ℕ) (fault : LexFault) → Breaks before rest fault → Stops before rest
stops_at_fault before rest fault (inl (s, q, u, e, l, f)) shape p after d longest sound =
    let same = same_next (leads_line before) s shape q p u after l longest (e ∙ sym d) in
    let sound' : fault_of s (place_after before) ≡ None = subst (λ t. fault_of t (place_after before) ≡ None) same.0 sound in
    cc (f, sound')
stops_at_fault before rest fault (inr (some, none, f)) shape p after d longest sound = none shape p longest.piece (after, d)

-- two cuts of one text that both stop are one
pub same_cut : (before : List ℕ) (ps qs : List Piece) (a b : List ℕ) → AreLongest before ps a → AreLongest before qs b → Stops (before ++ texts ps) a → Stops (before ++ texts qs) b → texts ps ++ a ≡ texts qs ++ b → (ps ≡ qs) × (a ≡ b)
same_cut before [] [] a b l m stop_a stop_b e = (refl, e)
same_cut before [] (q ∷ qs) a b l m stop_a stop_b e =
    absurd (subst (λ (r : List ℕ). Stops r a) (append-nil before) stop_a q.shape q.text (texts qs ++ b) (sym (e ∙ append_assoc q.text (texts qs) b)) m.0 m.1)
same_cut before (p ∷ ps) [] a b l m stop_a stop_b e =
    absurd (subst (λ (r : List ℕ). Stops r b) (append-nil before) stop_b p.shape p.text (texts ps ++ a) (sym (append_assoc p.text (texts ps) a) ∙ e) l.0 l.1)
same_cut before (p ∷ ps) (q ∷ qs) a b l m stop_a stop_b e =
    let joined : p.text ++ (texts ps ++ a) ≡ q.text ++ (texts qs ++ b) = sym (append_assoc p.text (texts ps) a) ∙ (e ∙ append_assoc q.text (texts qs) b) in
    let same = same_next (leads_line before) p.shape q.shape p.text q.text (texts ps ++ a) (texts qs ++ b) l.0 m.0 joined in
    let one : q ≡ p = (λ i. record { shape = same.0 i; text = same.1 i }) in
    let others : texts ps ++ a ≡ texts qs ++ b = append_cancel_left p.text _ _ (joined ∙ ap (λ (t : List ℕ). t ++ (texts qs ++ b)) same.1) in
    let m' : AreLongest (before ++ p.text) qs b = subst (λ (t : List ℕ). AreLongest (before ++ t) qs b) same.1 m.2 in
    let stop_a' : Stops ((before ++ p.text) ++ texts ps) a = subst (λ (r : List ℕ). Stops r a) (sym (append_assoc before p.text (texts ps))) stop_a in
    let stop_b' : Stops ((before ++ p.text) ++ texts qs) b = subst (λ (r : List ℕ). Stops r b) (sym (append_assoc before p.text (texts qs))) (subst (λ (t : List ℕ). Stops (before ++ (t ++ texts qs)) b) same.1 stop_b) in
    let rest = same_cut (before ++ p.text) ps qs a b l.2 m' stop_a' stop_b' others in
    ((λ i. sym one i ∷ rest.0 i), rest.1)

pub one_whole_cut : (text : List ℕ) (a b : List Piece) → Cuts text a [] → Cuts text b [] → a ≡ b
one_whole_cut text a b c d = (same_cut [] a b [] [] c.longest d.longest (stops_at_end (texts a)) (stops_at_end (texts b)) (c.whole ∙ sym d.whole)).0

pub one_list : (text : List ℕ) (a b : List Token) → AreTokens text a → AreTokens text b → a ≡ b
one_list text a b c d = c.kept ∙ (ap (tokens_of []) (one_whole_cut text c.pieces d.pieces c.cut d.cut) ∙ sym d.kept)
