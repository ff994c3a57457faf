-- The longest pieces that begin with `#`.
use Rattle.std.proofs.Common.{◌≡◌, ℕ, ◌≤◌, Bool, true, false, not, List, [], ◌∷◌, ◌++◌, length, take, drop, refl, sym, ap, subst, ◌∙◌, arith, inl, inr, codes}
use Rattle.std.specs.List.{prefix_len}
use Rattle.std.proofs.lemmas.Bool.{false≢true}
use Rattle.std.proofs.lemmas.List.{take-append-drop}
use Rattle.std.proofs.lemmas.List.Folds.{length-prefix_len}
use Rattle.c_lex.specs.declared.piece.Shape.{Shape}
use Rattle.c_lex.specs.declared.piece.Shape.TheVariants.{Blank, LineComment, BlockComment, Include, Kept, Unclosed, Directive, BadNumber}
use Rattle.c_lex.specs.declared.token.TokenKind.TheVariants.{Word, Number, Mark}
use Rattle.c_lex.specs.Pieces.{IsPiece, IsLongest, NoPiece, Begins, Only, is_line_end, is_mark}
use Rattle.c_lex.proofs.Fronts.{length-front-le, Only-take}
use Rattle.c_lex.proofs.Heads.{Heads, head_at}
use Rattle.c_lex.proofs.Runs.{no_longer}

abbrev no_end : ℕ → Bool
no_end b = not (is_line_end b)

-- what begins with `#`
data IsHash (leads : Bool) (shape : Shape) (q : List ℕ) : Type 0 where
  include : shape ≡ Include → IsPiece leads Include q → IsHash leads shape q
  directive : shape ≡ Directive → IsPiece leads Directive q → IsHash leads shape q

no_mark : (tail : List ℕ) → is_mark (35 ∷ tail) ≡ true → ⊥
no_mark [] m = false≢true m
no_mark (c ∷ tail) m = false≢true m

only_hash : (leads : Bool) (shape : Shape) (q : List ℕ) → Heads shape 35 → IsPiece leads shape q → IsHash leads shape q
only_hash leads Blank q h _ = absurd (false≢true h)
only_hash leads LineComment q h _ = absurd (omega arith)
only_hash leads BlockComment q h _ = absurd (omega arith)
only_hash leads Unclosed q h _ = absurd (omega arith)
only_hash leads Include q h p = include refl p
only_hash leads Directive q h p = directive refl p
only_hash leads (Kept Word) q h _ = absurd (false≢true h)
only_hash leads (Kept (Number value)) q h _ = absurd (false≢true h)
only_hash leads (Kept Mark) q (tail, m) _ = absurd (no_mark tail m)
only_hash leads BadNumber q h _ = absurd (false≢true h)

hash_at : (leads : Bool) (shape : Shape) (q text : List ℕ) → IsPiece leads shape q → Begins q (35 ∷ text) → IsHash leads shape q
hash_at leads shape q text p b = only_hash leads shape q (head_at leads shape q 35 text p b) p

pub include_longest : (t : List ℕ) → let n = prefix_len no_end t in IsLongest true Include (codes "#include" ++ take n t) (drop n t)
include_longest t =
    let n = prefix_len no_end t in
    let text : List ℕ = codes "#include" ++ t in
    let p : List ℕ = codes "#include" ++ take n t in
    let e : p ++ drop n t ≡ text = ap (λ (r : List ℕ). codes "#include" ++ r) (take-append-drop n t) in
    let long : length (take n t) ≡ n = length-prefix_len no_end t in
    record {
      piece = (refl, (take n t, refl, Only-take no_end t));
      longest = λ other q ip bq.
          let at : Begins q text = (bq.0, bq.1 ∙ e) in
          elim (hash_at true other q (codes "include" ++ t) ip at) [
            | include s i ↦
                let only : Only no_end q = subst (Only no_end) (sym i.1.1) i.1.2 in
                let le : length q ≤ prefix_len no_end text = subst (λ (r : List ℕ). length q ≤ prefix_len no_end r) at.1 (length-front-le no_end q at.0 only) in
                no_longer Include other p q text s (drop n t, e) at (omega arith)
            | directive s i ↦ inr (omega (arith, ap length i.1))
          ];
    }

pub directive_longest : (t : List ℕ) → ¬ (Begins (codes "#include") (35 ∷ t)) → IsLongest true Directive (35 ∷ []) t
directive_longest t none = record {
  piece = (refl, refl);
  longest = λ other q ip bq.
      elim (hash_at true other q t ip bq) [
        | include s i ↦
            let body : List ℕ = i.1.0 in
            absurd (none (body ++ bq.0, ap (λ (r : List ℕ). r ++ bq.0) (sym i.1.1) ∙ bq.1))
        | directive s i ↦ inl (s, i.1)
      ];
}

-- a `#` that doesn't begin its line begins no piece
pub no_hash : (t : List ℕ) → NoPiece false (35 ∷ t)
no_hash t shape q ip bq = elim (hash_at false shape q t ip bq) [ include s i ↦ false≢true i.0 | directive s i ↦ false≢true i.0 ]
