-- A text has one outcome: its tokens, or its first fault.
use Rattle.std.proofs.Common.{◌≡◌, ℕ, ◌+◌, ◌≤◌, ◌<◌, ◌≢◌, List, [], ◌++◌, length, take, drop, refl, sym, ap, subst, ◌∙◌, arith, inl, inr, Some, append_assoc}
use Rattle.std.specs.Prelude.{IsUtf8}
use Rattle.std.proofs.lemmas.Bool.{cases_order}
use Rattle.std.proofs.lemmas.List.{length-append, take-append-drop, take-take}
use Rattle.gob_tree.specs.declared.place.Place.{Place}
use Rattle.c_lex.specs.declared.TheConstants.{TEXT_LIMIT}
use Rattle.c_lex.specs.declared.fault.LexFault.{LexFault}
use Rattle.c_lex.specs.declared.fault.LexFault.TheVariants.{TooLong, NotText, BadCharacter, OpenComment, BadLiteral, Unsupported, Memory}
use Rattle.c_lex.specs.declared.piece.Shape.{Shape}
use Rattle.c_lex.specs.declared.piece.Shape.TheVariants.{Blank, LineComment, BlockComment, Include, Kept, Unclosed, Directive, BadNumber}
use Rattle.c_lex.specs.declared.token.Token.{Token}
use Rattle.c_lex.specs.Places.{place_after, leads_line, BeginsUtf8, BreaksUtf8}
use Rattle.c_lex.specs.Tokens.{Piece, texts, fault_of, AreTokens, Breaks, CutBreaks, IsFirstFault}
use Rattle.c_lex.proofs.Cut.{same_next, same_cut, stops_at_end, stops_at_fault}
use Rattle.c_lex.proofs.Heads.{length-piece}

-- the faults of a cut
abbrev IsOfCut : LexFault → Type 0
IsOfCut (BadCharacter place) = Unit {0}
IsOfCut (OpenComment place) = Unit {0}
IsOfCut (BadLiteral place) = Unit {0}
IsOfCut (Unsupported place) = Unit {0}
IsOfCut TooLong = ⊥
IsOfCut (NotText place) = ⊥
IsOfCut Memory = ⊥

fault_of_cut : (shape : Shape) (place : Place) (fault : LexFault) → fault_of shape place ≡ Some fault → IsOfCut fault
fault_of_cut Unclosed place fault e = let same : OpenComment place ≡ fault = cc in subst IsOfCut same tt
fault_of_cut Directive place fault e = let same : Unsupported place ≡ fault = cc in subst IsOfCut same tt
fault_of_cut BadNumber place fault e = let same : BadLiteral place ≡ fault = cc in subst IsOfCut same tt
fault_of_cut Blank place fault e = absurd (cc)
fault_of_cut LineComment place fault e = absurd (cc)
fault_of_cut BlockComment place fault e = absurd (cc)
fault_of_cut Include place fault e = absurd (cc)
fault_of_cut (Kept kind) place fault e = absurd (cc)

breaks_of_cut : (before rest : List ℕ) (fault : LexFault) → Breaks before rest fault → IsOfCut fault
breaks_of_cut before rest fault (inl (s, p, u, e, l, f)) = fault_of_cut s (place_after before) fault f
breaks_of_cut before rest fault (inr (some, none, f)) = subst IsOfCut (sym f) tt

-- where a cut breaks, that is the first fault
pub fault_from_cut : (text : List ℕ) (fault : LexFault) → CutBreaks text fault → IsFirstFault text fault
fault_from_cut text TooLong b = absurd (breaks_of_cut (texts b.pieces) b.rest TooLong b.breaks)
fault_from_cut text (NotText place) b = absurd (breaks_of_cut (texts b.pieces) b.rest (NotText place) b.breaks)
fault_from_cut text (BadCharacter place) b = b
fault_from_cut text (OpenComment place) b = b
fault_from_cut text (BadLiteral place) b = b
fault_from_cut text (Unsupported place) b = b
fault_from_cut text Memory b = tt

-- at one place there is one fault
same_break : (before rest : List ℕ) (f g : LexFault) → Breaks before rest f → Breaks before rest g → f ≡ g
same_break before rest f g (inl (s, p, u, e, l, a)) (inl (t, q, v, d, m, b)) =
    let same = same_next (leads_line before) s t p q u v l m (e ∙ sym d) in
    let one : Some f ≡ Some g = sym a ∙ (ap (λ x. fault_of x (place_after before)) (sym same.0) ∙ b) in
    cc one
same_break before rest f g (inl (s, p, u, e, l, a)) (inr (some, none, b)) = absurd (none s p l.piece (u, e))
same_break before rest f g (inr (some, none, a)) (inl (t, q, v, d, m, b)) = absurd (none t q m.piece (v, d))
same_break before rest f g (inr (some, none, a)) (inr (more, nothing, b)) = a ∙ sym b

one_break : (text : List ℕ) (f g : LexFault) → CutBreaks text f → CutBreaks text g → f ≡ g
one_break text f g a b =
    let stop_a = stops_at_fault (texts a.pieces) a.rest f a.breaks in
    let stop_b = stops_at_fault (texts b.pieces) b.rest g b.breaks in
    let same = same_cut [] a.pieces b.pieces a.rest b.rest a.cut.longest b.cut.longest stop_a stop_b (a.cut.whole ∙ sym b.cut.whole) in
    let there : Breaks (texts a.pieces) a.rest g = subst (λ (ps : List Piece). Breaks (texts ps) a.rest g) (sym same.0) (subst (λ (r : List ℕ). Breaks (texts b.pieces) r g) (sym same.1) b.breaks) in
    same_break (texts a.pieces) a.rest f g a.breaks there

no_break_at_end : (before : List ℕ) (f : LexFault) → ¬ (Breaks before [] f)
no_break_at_end before f (inl (s, p, u, e, l, a)) = let some = length-piece (leads_line before) s p l.piece in omega (arith, ap length e, length-append p u)
no_break_at_end before f (inr (some, none, a)) = some refl

tokens_or_break : (text : List ℕ) (tokens : List Token) (f : LexFault) → AreTokens text tokens → ¬ (CutBreaks text f)
tokens_or_break text tokens f a b =
    let stop_b = stops_at_fault (texts b.pieces) b.rest f b.breaks in
    let same = same_cut [] a.pieces b.pieces [] b.rest a.cut.longest b.cut.longest (stops_at_end (texts a.pieces)) stop_b (a.cut.whole ∙ sym b.cut.whole) in
    no_break_at_end (texts b.pieces) f (subst (λ (r : List ℕ). Breaks (texts b.pieces) r f) (sym same.1) b.breaks)

-- what begins a text in UTF-8, begun less far, begins it too
BeginsUtf8-take : (text : List ℕ) (m n : ℕ) → m ≤ n → BeginsUtf8 (take n text) → BeginsUtf8 (take m text)
BeginsUtf8-take text m n le (more, u) =
    let front : List ℕ = take n text in
    let split : take m text ++ drop m front ≡ front = ap (λ (t : List ℕ). t ++ drop m front) (sym (take-take m n text le)) ∙ take-append-drop m front in
    (drop m front ++ more, subst IsUtf8 (sym (sym (append_assoc (take m text) (drop m front) more) ∙ ap (λ (t : List ℕ). t ++ more) split)) u)

not_further : (text : List ℕ) (m n : ℕ) → BreaksUtf8 text m → BreaksUtf8 text n → ¬ (m < n)
not_further text m n a b lt = a.stops (omega (arith, b.within)) (BeginsUtf8-take text (m + 1) n (omega arith) b.begins)

pub one_stop : (text : List ℕ) (m n : ℕ) → BreaksUtf8 text m → BreaksUtf8 text n → m ≡ n
one_stop text m n a b =
    elim (cases_order m n) [ inl e ↦ e | inr other ↦ absurd (elim other [ inl lt ↦ not_further text m n a b lt | inr gt ↦ not_further text n m b a gt ]) ]

-- what a first fault says, where memory was there
data IsKnown (text : List ℕ) (fault : LexFault) : Type 0 where
  long : fault ≡ TooLong → TEXT_LIMIT < length text → IsKnown text fault
  no_text : (n : ℕ) → length text ≤ TEXT_LIMIT → BreaksUtf8 text n → fault ≡ NotText (place_after (take n text)) → IsKnown text fault
  of_cut : CutBreaks text fault → IsKnown text fault

known : (text : List ℕ) (fault : LexFault) → IsFirstFault text fault → fault ≢ Memory → IsKnown text fault
known text TooLong f m = long refl f
known text (NotText place) f m = no_text f.1.0 f.0 f.1.1 (ap NotText f.1.2)
known text (BadCharacter place) f m = of_cut f
known text (OpenComment place) f m = of_cut f
known text (BadLiteral place) f m = of_cut f
known text (Unsupported place) f m = of_cut f
known text Memory f m = absurd (m refl)

same_known : (text : List ℕ) (f g : LexFault) → IsKnown text f → IsKnown text g → f ≡ g
same_known text f g (long e l) (long d m) = e ∙ sym d
same_known text f g (long e l) (no_text n fits b d) = absurd (omega arith)
same_known text f g (long e l) (of_cut b) = absurd (omega (arith, b.readable.fits))
same_known text f g (no_text n fits b e) (long d m) = absurd (omega arith)
same_known text f g (no_text n fits b e) (no_text k small c d) = e ∙ (ap (λ j. NotText (place_after (take j text))) (one_stop text n k b c) ∙ sym d)
same_known text f g (no_text n fits b e) (of_cut c) = absurd (b.broken c.readable.utf8)
same_known text f g (of_cut b) (long d m) = absurd (omega (arith, b.readable.fits))
same_known text f g (of_cut b) (no_text n fits c d) = absurd (c.broken b.readable.utf8)
same_known text f g (of_cut b) (of_cut c) = one_break text f g b c

pub one_fault : (text : List ℕ) (f g : LexFault) → IsFirstFault text f → IsFirstFault text g → f ≢ Memory → g ≢ Memory → f ≡ g
one_fault text f g a b m n = same_known text f g (known text f a m) (known text g b n)

tokens_or_known : (text : List ℕ) (tokens : List Token) (f : LexFault) → AreTokens text tokens → ¬ (IsKnown text f)
tokens_or_known text tokens f a (long e l) = omega (arith, a.readable.fits)
tokens_or_known text tokens f a (no_text n fits b e) = b.broken a.readable.utf8
tokens_or_known text tokens f a (of_cut b) = tokens_or_break text tokens f a b

pub tokens_or_fault : (text : List ℕ) (tokens : List Token) (f : LexFault) → AreTokens text tokens → f ≢ Memory → ¬ (IsFirstFault text f)
tokens_or_fault text tokens f a m b = tokens_or_known text tokens f a (known text f b m)
