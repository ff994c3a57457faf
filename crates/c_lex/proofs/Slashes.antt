-- The longest comments, and the marks that begin with a slash.
use Rattle.std.proofs.Common.{◌≡◌, ℕ, ◌≤◌, ◌≢◌, Bool, true, not, List, [], ◌∷◌, ◌++◌, length, take, drop, refl, sym, ap, subst, ◌∙◌, arith, inl, inr, append_assoc, length-append, codes}
use Rattle.std.specs.Prelude.{IsTrue}
use Rattle.std.specs.List.{prefix_len}
use Rattle.std.proofs.lemmas.Bool.{cases_lt, false≢true, eqb-false}
use Rattle.std.proofs.lemmas.Bool.Decides.{nat_tests}
use Rattle.std.proofs.lemmas.List.{take-append-drop, append-nil}
use Rattle.std.proofs.lemmas.List.Folds.{length-prefix_len}
use Rattle.c_lex.specs.declared.piece.Shape.{Shape}
use Rattle.c_lex.specs.declared.piece.Shape.TheVariants.{Blank, LineComment, BlockComment, Include, Kept, Unclosed, Directive, BadNumber}
use Rattle.c_lex.specs.declared.token.TokenKind.TheVariants.{Word, Number, Mark}
use Rattle.c_lex.specs.Pieces.{IsPiece, IsLongest, Begins, Holds, Only, is_line_end, is_mark}
use Rattle.c_lex.proofs.Fronts.{length-front-le, Only-take}
use Rattle.c_lex.proofs.Heads.{Heads, head_at}
use Rattle.c_lex.proofs.Marks.{mark_front, mark_fronts}
use Rattle.c_lex.proofs.Runs.{no_longer}

abbrev pub no_end : ℕ → Bool
no_end b = not (is_line_end b)

abbrev pub close : List ℕ
close = codes "*/"

-- what stands after the first byte, of two spellings of one text
second_same : (b d : ℕ) (x y : List ℕ) → 47 ∷ b ∷ x ≡ 47 ∷ d ∷ y → b ≡ d
second_same b d x y e = cc e

rest_same : (b d : ℕ) (x y : List ℕ) → 47 ∷ b ∷ x ≡ 47 ∷ d ∷ y → x ≡ y
rest_same b d x y e = cc e

no_second : (b : ℕ) (x : List ℕ) → 47 ∷ b ∷ x ≡ 47 ∷ [] → ⊥
no_second b x e = cc e

-- what begins with a slash
data IsSlash (leads : Bool) (shape : Shape) (q : List ℕ) : Type 0 where
  line : shape ≡ LineComment → IsPiece leads LineComment q → IsSlash leads shape q
  block : shape ≡ BlockComment → IsPiece leads BlockComment q → IsSlash leads shape q
  unclosed : shape ≡ Unclosed → IsPiece leads Unclosed q → IsSlash leads shape q
  mark : shape ≡ Kept Mark → IsTrue (is_mark q) → IsSlash leads shape q

only_slash : (leads : Bool) (shape : Shape) (q : List ℕ) → Heads shape 47 → IsPiece leads shape q → IsSlash leads shape q
only_slash leads Blank q h _ = absurd (false≢true h)
only_slash leads LineComment q h p = line refl p
only_slash leads BlockComment q h p = block refl p
only_slash leads Unclosed q h p = unclosed refl p
only_slash leads Include q h _ = absurd (omega arith)
only_slash leads Directive q h _ = absurd (omega arith)
only_slash leads (Kept Word) q h _ = absurd (false≢true h)
only_slash leads (Kept (Number value)) q h _ = absurd (false≢true h)
only_slash leads (Kept Mark) q h p = mark refl p
only_slash leads BadNumber q h _ = absurd (false≢true h)

slash_at : (leads : Bool) (shape : Shape) (q text : List ℕ) → IsPiece leads shape q → Begins q (47 ∷ text) → IsSlash leads shape q
slash_at leads shape q text p b = only_slash leads shape q (head_at leads shape q 47 text p b) p

pub line_longest : (leads : Bool) (t : List ℕ) → let n = prefix_len no_end t in IsLongest leads LineComment (47 ∷ 47 ∷ take n t) (drop n t)
line_longest leads t =
    let n = prefix_len no_end t in
    let p : List ℕ = 47 ∷ 47 ∷ take n t in
    let e : p ++ drop n t ≡ 47 ∷ 47 ∷ t = ap (λ (r : List ℕ). 47 ∷ 47 ∷ r) (take-append-drop n t) in
    let long : length (take n t) ≡ n = length-prefix_len no_end t in
    record {
      piece = (take n t, refl, Only-take no_end t);
      longest = λ other q ip bq.
          let at : Begins q (47 ∷ 47 ∷ t) = (bq.0, bq.1 ∙ e) in
          elim (slash_at leads other q (47 ∷ t) ip at) [
            | line s i ↦
                let only : Only no_end q = subst (Only no_end) (sym i.1) i.2 in
                let le : length q ≤ prefix_len no_end (47 ∷ 47 ∷ t) = subst (λ (r : List ℕ). length q ≤ prefix_len no_end r) at.1 (length-front-le no_end q at.0 only) in
                no_longer LineComment other p q (47 ∷ 47 ∷ t) s (drop n t, e) at (omega arith)
            | block s i ↦ let other_byte : 47 ∷ 42 ∷ ((i.0 ++ close) ++ at.0) ≡ 47 ∷ 47 ∷ t = ap (λ (r : List ℕ). r ++ at.0) (sym i.1) ∙ at.1 in absurd (eqb-false 42 47 refl (second_same _ _ _ _ other_byte))
            | unclosed s i ↦ let other_byte : 47 ∷ 42 ∷ (i.0 ++ at.0) ≡ 47 ∷ 47 ∷ t = ap (λ (r : List ℕ). r ++ at.0) (sym i.1) ∙ at.1 in absurd (eqb-false 42 47 refl (second_same _ _ _ _ other_byte))
            | mark s m ↦ elim (mark_fronts q 47 47 t m at) [ inl one ↦ inr (omega (arith, ap length one)) | inr two ↦ absurd (cc two.1) ]
          ];
    }

-- of two fronts of one text the longer goes on from the shorter
front_goes_on : (x y r s : List ℕ) → x ++ r ≡ y ++ s → length x ≤ length y → (z : List ℕ) × (y ≡ x ++ z)
front_goes_on [] y r s e le = (y, refl)
front_goes_on (a ∷ x) [] r s e le = absurd (omega arith)
front_goes_on (a ∷ x) (b ∷ y) r s e le =
    let first : b ≡ a = cc in
    let others : x ++ r ≡ y ++ s = cc in
    let more = front_goes_on x y r s others (omega arith) in
    (more.0, (λ i. first i ∷ more.1 i))

-- an end of a comment that comes later stands after the first one
later_close : (body other r s : List ℕ) → ¬ (Holds close (other ++ codes "*")) → (body ++ close) ++ r ≡ (other ++ close) ++ s → length other ≤ length body
later_close body other r s none e =
    elim (cases_lt (length body) (length other)) [
      | inl lt ↦
          let stepped : (other ++ close) ++ s ≡ (other ++ codes "*") ++ (47 ∷ s) = append_assoc other close s ∙ sym (append_assoc other (codes "*") (47 ∷ s)) in
          let fits : length (body ++ close) ≤ length (other ++ codes "*") = omega (arith, length-append body close, length-append other (codes "*")) in
          let more = front_goes_on (body ++ close) (other ++ codes "*") r (47 ∷ s) (e ∙ stepped) fits in
          absurd (none (body, more.0, more.1 ∙ append_assoc body close more.0))
      | inr ge ↦ ge
    ]

-- the comment up to the first end
pub block_longest : (leads : Bool) (body rest : List ℕ) → ¬ (Holds close (body ++ codes "*")) → IsLongest leads BlockComment (47 ∷ 42 ∷ (body ++ close)) rest
block_longest leads body rest none =
    let p : List ℕ = 47 ∷ 42 ∷ (body ++ close) in
    let text : List ℕ = (body ++ close) ++ rest in
    record {
      piece = (body, refl, none);
      longest = λ other q ip bq.
          elim (slash_at leads other q (42 ∷ text) ip bq) [
            | line s i ↦ let other_byte : 47 ∷ 47 ∷ (i.0 ++ bq.0) ≡ 47 ∷ 42 ∷ text = ap (λ (r : List ℕ). r ++ bq.0) (sym i.1) ∙ bq.1 in absurd (eqb-false 47 42 refl (second_same _ _ _ _ other_byte))
            | block s i ↦
                let whole : 47 ∷ 42 ∷ ((i.0 ++ close) ++ bq.0) ≡ 47 ∷ 42 ∷ text = ap (λ (r : List ℕ). r ++ bq.0) (sym i.1) ∙ bq.1 in
                let inside : (body ++ close) ++ rest ≡ (i.0 ++ close) ++ bq.0 = sym (rest_same _ _ _ _ whole) in
                let le : length i.0 ≤ length body = later_close body i.0 rest bq.0 i.2 inside in
                no_longer BlockComment other p q (47 ∷ 42 ∷ text) s (rest, refl) bq (omega (arith, ap length i.1, length-append i.0 close, length-append body close))
            | unclosed s i ↦
                let whole : 47 ∷ 42 ∷ (i.0 ++ bq.0) ≡ 47 ∷ 42 ∷ text = ap (λ (r : List ℕ). r ++ bq.0) (sym i.1) ∙ bq.1 in
                let inside : (body ++ close) ++ rest ≡ i.0 ++ bq.0 = sym (rest_same _ _ _ _ whole) in
                elim (cases_lt (length i.0) (length (body ++ close))) [
                  | inl lt ↦ inr (omega (arith, ap length i.1))
                  | inr ge ↦ let more = front_goes_on (body ++ close) i.0 rest bq.0 inside ge in absurd (i.2 (body, more.0, more.1 ∙ append_assoc body close more.0))
                ]
            | mark s m ↦ elim (mark_fronts q 47 42 text m bq) [ inl one ↦ inr (omega (arith, ap length one)) | inr two ↦ absurd (false≢true two.1) ]
          ];
    }

-- a comment without end goes on to the end of the text
pub unclosed_longest : (leads : Bool) (body : List ℕ) → ¬ (Holds close body) → IsLongest leads Unclosed (47 ∷ 42 ∷ body) []
unclosed_longest leads body none =
    let p : List ℕ = 47 ∷ 42 ∷ body in
    let same : p ++ [] ≡ p = append-nil p in
    record {
      piece = (body, refl, none);
      longest = λ other q ip bq.
          let at : Begins q p = (bq.0, bq.1 ∙ same) in
          elim (slash_at leads other q (42 ∷ body) ip at) [
            | line s i ↦ let other_byte : 47 ∷ 47 ∷ (i.0 ++ at.0) ≡ 47 ∷ 42 ∷ body = ap (λ (r : List ℕ). r ++ at.0) (sym i.1) ∙ at.1 in absurd (eqb-false 47 42 refl (second_same _ _ _ _ other_byte))
            | block s i ↦
                let whole : 47 ∷ 42 ∷ ((i.0 ++ close) ++ at.0) ≡ 47 ∷ 42 ∷ body = ap (λ (r : List ℕ). r ++ at.0) (sym i.1) ∙ at.1 in
                let inside : body ≡ (i.0 ++ close) ++ at.0 = sym (rest_same _ _ _ _ whole) in
                absurd (none (i.0, at.0, inside ∙ append_assoc i.0 close at.0))
            | unclosed s i ↦ no_longer Unclosed other p q p s ([], same) at (omega (arith, ap length at.1, length-append q at.0))
            | mark s m ↦ elim (mark_fronts q 47 42 body m at) [ inl one ↦ inr (omega (arith, ap length one)) | inr two ↦ absurd (false≢true two.1) ]
          ];
    }

-- the marks `/=` and `/`
pub divides_longest : (leads : Bool) (t : List ℕ) → IsLongest leads (Kept Mark) (47 ∷ 61 ∷ []) t
divides_longest leads t = record {
  piece = refl;
  longest = λ other q ip bq.
      elim (slash_at leads other q (61 ∷ t) ip bq) [
        | line s i ↦ let other_byte : 47 ∷ 47 ∷ (i.0 ++ bq.0) ≡ 47 ∷ 61 ∷ t = ap (λ (r : List ℕ). r ++ bq.0) (sym i.1) ∙ bq.1 in absurd (eqb-false 47 61 refl (second_same _ _ _ _ other_byte))
        | block s i ↦ let other_byte : 47 ∷ 42 ∷ ((i.0 ++ close) ++ bq.0) ≡ 47 ∷ 61 ∷ t = ap (λ (r : List ℕ). r ++ bq.0) (sym i.1) ∙ bq.1 in absurd (eqb-false 42 61 refl (second_same _ _ _ _ other_byte))
        | unclosed s i ↦ let other_byte : 47 ∷ 42 ∷ (i.0 ++ bq.0) ≡ 47 ∷ 61 ∷ t = ap (λ (r : List ℕ). r ++ bq.0) (sym i.1) ∙ bq.1 in absurd (eqb-false 42 61 refl (second_same _ _ _ _ other_byte))
        | mark s m ↦ elim (mark_fronts q 47 61 t m bq) [ inl one ↦ inr (omega (arith, ap length one)) | inr two ↦ inl (s, two.0) ]
      ];
}

no_mark_with : (c : ℕ) → c ≢ 61 → is_mark (47 ∷ c ∷ []) ≡ true → ⊥
no_mark_with c ne m = grind (arith, nat_tests)

pub divide_longest : (leads : Bool) (c : ℕ) (t : List ℕ) → c ≢ 47 → c ≢ 42 → c ≢ 61 → IsLongest leads (Kept Mark) (47 ∷ []) (c ∷ t)
divide_longest leads c t no_line no_comment no_pair = record {
  piece = refl;
  longest = λ other q ip bq.
      elim (slash_at leads other q (c ∷ t) ip bq) [
        | line s i ↦ let whole : 47 ∷ 47 ∷ (i.0 ++ bq.0) ≡ 47 ∷ c ∷ t = ap (λ (r : List ℕ). r ++ bq.0) (sym i.1) ∙ bq.1 in absurd (no_line (sym (second_same _ _ _ _ whole)))
        | block s i ↦ let whole : 47 ∷ 42 ∷ ((i.0 ++ close) ++ bq.0) ≡ 47 ∷ c ∷ t = ap (λ (r : List ℕ). r ++ bq.0) (sym i.1) ∙ bq.1 in absurd (no_comment (sym (second_same _ _ _ _ whole)))
        | unclosed s i ↦ let whole : 47 ∷ 42 ∷ (i.0 ++ bq.0) ≡ 47 ∷ c ∷ t = ap (λ (r : List ℕ). r ++ bq.0) (sym i.1) ∙ bq.1 in absurd (no_comment (sym (second_same _ _ _ _ whole)))
        | mark s m ↦ elim (mark_fronts q 47 c t m bq) [ inl one ↦ inl (s, one) | inr two ↦ absurd (no_mark_with c no_pair two.1) ]
      ];
}

pub last_divide_longest : (leads : Bool) → IsLongest leads (Kept Mark) (47 ∷ []) []
last_divide_longest leads = record {
  piece = refl;
  longest = λ other q ip bq.
      elim (slash_at leads other q [] ip bq) [
        | line s i ↦ let whole : 47 ∷ 47 ∷ (i.0 ++ bq.0) ≡ 47 ∷ [] = ap (λ (r : List ℕ). r ++ bq.0) (sym i.1) ∙ bq.1 in absurd (no_second _ _ whole)
        | block s i ↦ let whole : 47 ∷ 42 ∷ ((i.0 ++ close) ++ bq.0) ≡ 47 ∷ [] = ap (λ (r : List ℕ). r ++ bq.0) (sym i.1) ∙ bq.1 in absurd (no_second _ _ whole)
        | unclosed s i ↦ let whole : 47 ∷ 42 ∷ (i.0 ++ bq.0) ≡ 47 ∷ [] = ap (λ (r : List ℕ). r ++ bq.0) (sym i.1) ∙ bq.1 in absurd (no_second _ _ whole)
        | mark s m ↦ inl (s, mark_front q 47 m bq)
      ];
}
