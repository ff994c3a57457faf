-- The longest blanks, words and numbers.
use Rattle.std.proofs.Common.{◌≡◌, ℕ, ◌+◌, ◌≤◌, ◌<◌, Bool, true, List, [], ◌∷◌, ◌++◌, length, take, drop, refl, sym, ap, subst, ◌∙◌, arith, inl, inr, ℤ}
use Rattle.std.specs.Prelude.{IsTrue, ◌⊎◌}
use Rattle.std.specs.Char.{is_ascii_digit}
use Rattle.std.specs.List.{list_all, prefix_len}
use Rattle.std.proofs.lemmas.Bool.{and_from, cases_eq, cond-true, or_left, or_right}
use Rattle.std.proofs.lemmas.Bool.Decides.{nat_tests}
use Rattle.std.proofs.lemmas.List.{take-append-drop, take_at, drop_at, length-append}
use Rattle.std.proofs.lemmas.List.Folds.{length-prefix_len}
use Rattle.c_lex.specs.declared.piece.Shape.{Shape}
use Rattle.c_lex.specs.declared.piece.Shape.TheVariants.{Blank, LineComment, BlockComment, Include, Kept, Unclosed, Directive, BadNumber}
use Rattle.c_lex.specs.declared.piece.Found.{Found}
use Rattle.c_lex.specs.declared.token.TokenKind.TheVariants.{Word, Number, Mark}
use Rattle.c_lex.specs.Found.{FindsPiece}
use Rattle.c_lex.specs.Pieces.{IsPiece, IsLongest, Begins, Only, Spells, is_blank, is_mark}
use Rattle.gob_tree.specs.Words.{IsWord, is_word_byte, is_word_head}
use Rattle.c_lex.proofs.Fronts.{length-front-le, Only-take, same_front}
use Rattle.c_lex.proofs.Numerals.{Only-run, one_number}
use Rattle.c_lex.proofs.Heads.{Heads, head_at}

-- another piece is the same one, or shorter
abbrev pub Loses : Shape → List ℕ → Shape → List ℕ → Type 0
Loses shape p other q = ((other ≡ shape) × (q ≡ p)) ⊎ (length q < length p)

-- a front of the same shape that is no longer
pub no_longer : (shape other : Shape) (p q text : List ℕ) → other ≡ shape → Begins p text → Begins q text → length q ≤ length p → Loses shape p other q
no_longer shape other p q text same bp bq le =
    elim (cases_eq (length q) (length p)) [ inl e ↦ inl (same, same_front q p text bq bp e) | inr ne ↦ inr (omega arith) ]

-- what was found is as long as it says, and the others lose
pub finds : (leads : Bool) (shape : Shape) (p rest text : List ℕ) (found : Found) → p ++ rest ≡ text → found.shape ≡ shape → found.length ≡ length p → IsLongest leads shape p rest → FindsPiece leads text found
finds leads shape p rest text found e s l longest =
    let taken : take found.length text ≡ p = ap (take found.length) (sym e) ∙ take_at p rest found.length (sym l) in
    let left : drop found.length text ≡ rest = ap (drop found.length) (sym e) ∙ drop_at p rest found.length (sym l) in
    record { within = omega (arith, ap length e, length-append p rest); longest = rw (s, taken, left) longest }

-- the shape that alone begins with such a byte
only_blank : (shape : Shape) (b : ℕ) → IsTrue (is_blank b) → Heads shape b → shape ≡ Blank
only_blank Blank b w h = refl
only_blank LineComment b w h = absurd (grind (arith, nat_tests))
only_blank BlockComment b w h = absurd (grind (arith, nat_tests))
only_blank Unclosed b w h = absurd (grind (arith, nat_tests))
only_blank Include b w h = absurd (grind (arith, nat_tests))
only_blank Directive b w h = absurd (grind (arith, nat_tests))
only_blank (Kept Word) b w h = absurd (grind (arith, nat_tests))
only_blank (Kept (Number value)) b w h = absurd (grind (arith, nat_tests))
only_blank (Kept Mark) b w (tail, h) = absurd (no_mark tail h)
  where
    no_mark : (tail : List ℕ) → is_mark (b ∷ tail) ≡ true → ⊥
    no_mark [] m = grind (arith, nat_tests)
    no_mark (c ∷ []) m = grind (arith, nat_tests)
    no_mark (c ∷ d ∷ tail) m = grind (arith, nat_tests)
only_blank BadNumber b w h = absurd (grind (arith, nat_tests))

only_word : (shape : Shape) (b : ℕ) → IsTrue (is_word_head b) → Heads shape b → shape ≡ Kept Word
only_word Blank b w h = absurd (grind (arith, nat_tests))
only_word LineComment b w h = absurd (grind (arith, nat_tests))
only_word BlockComment b w h = absurd (grind (arith, nat_tests))
only_word Unclosed b w h = absurd (grind (arith, nat_tests))
only_word Include b w h = absurd (grind (arith, nat_tests))
only_word Directive b w h = absurd (grind (arith, nat_tests))
only_word (Kept Word) b w h = refl
only_word (Kept (Number value)) b w h = absurd (grind (arith, nat_tests))
only_word (Kept Mark) b w (tail, h) = absurd (no_mark tail h)
  where
    no_mark : (tail : List ℕ) → is_mark (b ∷ tail) ≡ true → ⊥
    no_mark [] m = grind (arith, nat_tests)
    no_mark (c ∷ []) m = grind (arith, nat_tests)
    no_mark (c ∷ d ∷ tail) m = grind (arith, nat_tests)
only_word BadNumber b w h = absurd (grind (arith, nat_tests))

-- the spelling of a number, or none
pub data IsNumeric (shape : Shape) (q : List ℕ) : Type 0 where
  number : (value : ℤ) → shape ≡ Kept (Number value) → Spells q value → IsNumeric shape q
  no_number : shape ≡ BadNumber → ((value : ℤ) → ¬ (Spells q value)) → IsNumeric shape q

only_digit : (leads : Bool) (shape : Shape) (b : ℕ) (q : List ℕ) → IsTrue (is_ascii_digit b) → Heads shape b → IsPiece leads shape q → IsNumeric shape q × Only is_word_byte q
only_digit leads Blank b q w h p = absurd (grind (arith, nat_tests))
only_digit leads LineComment b q w h p = absurd (grind (arith, nat_tests))
only_digit leads BlockComment b q w h p = absurd (grind (arith, nat_tests))
only_digit leads Unclosed b q w h p = absurd (grind (arith, nat_tests))
only_digit leads Include b q w h p = absurd (grind (arith, nat_tests))
only_digit leads Directive b q w h p = absurd (grind (arith, nat_tests))
only_digit leads (Kept Word) b q w h p = absurd (grind (arith, nat_tests))
only_digit leads (Kept (Number value)) b q w h p = (number value refl p, Only-run q value p)
only_digit leads (Kept Mark) b q w (tail, h) p = absurd (no_mark tail h)
  where
    no_mark : (tail : List ℕ) → is_mark (b ∷ tail) ≡ true → ⊥
    no_mark [] m = grind (arith, nat_tests)
    no_mark (c ∷ []) m = grind (arith, nat_tests)
    no_mark (c ∷ d ∷ tail) m = grind (arith, nat_tests)
only_digit leads BadNumber b q w h ((c, tail, e, t, o), n) =
    (no_number refl n, subst (Only is_word_byte) (sym e) (and_from (is_word_byte c) (list_all is_word_byte tail) (or_right (is_word_head c) (is_ascii_digit c) t) o))

pub blank_longest : (leads : Bool) (b : ℕ) (t : List ℕ) → IsTrue (is_blank b) → IsLongest leads Blank (b ∷ []) t
blank_longest leads b t w = record {
  piece = (b, refl, w);
  longest = λ other q ip bq.
      let same = only_blank other b w (head_at leads other q b t ip bq) in
      let one : IsPiece leads Blank q = subst (λ s. IsPiece leads s q) same ip in
      no_longer Blank other (b ∷ []) q (b ∷ t) same (t, refl) bq (rw one.1 (omega arith));
}

-- a front of bytes of a word is no longer than the longest one
run_no_longer : (b : ℕ) (t q : List ℕ) → is_word_byte b ≡ true → Only is_word_byte q → Begins q (b ∷ t) → length q ≤ length (b ∷ take (prefix_len is_word_byte t) t)
run_no_longer b t q w only (rest, e) =
    let n = prefix_len is_word_byte t in
    let le : length q ≤ prefix_len is_word_byte (b ∷ t) = subst (λ (r : List ℕ). length q ≤ prefix_len is_word_byte r) e (length-front-le is_word_byte q rest only) in
    let step : prefix_len is_word_byte (b ∷ t) ≡ 1 + n = cond-true (is_word_byte b) (1 + n) 0 w in
    let all : length (take n t) ≡ n = length-prefix_len is_word_byte t in
    omega arith

-- the text is the run from b on, and the rest
run_and_rest : (b : ℕ) (t : List ℕ) → let n = prefix_len is_word_byte t in (b ∷ take n t) ++ drop n t ≡ b ∷ t
run_and_rest b t = ap (λ (r : List ℕ). b ∷ r) (take-append-drop (prefix_len is_word_byte t) t)

pub word_longest : (leads : Bool) (b : ℕ) (t : List ℕ) → IsTrue (is_word_head b) → let n = prefix_len is_word_byte t in IsLongest leads (Kept Word) (b ∷ take n t) (drop n t)
word_longest leads b t w =
    let p : List ℕ = b ∷ take (prefix_len is_word_byte t) t in
    let e = run_and_rest b t in
    let whole : Begins p (b ∷ t) = (drop (prefix_len is_word_byte t) t, e) in
    record {
      piece = (b, take (prefix_len is_word_byte t) t, refl, w, Only-take is_word_byte t);
      longest = λ other q ip bq.
          let at : Begins q (b ∷ t) = (bq.0, bq.1 ∙ e) in
          let same = only_word other b w (head_at leads other q b t ip at) in
          let word : IsWord q = subst (λ s. IsPiece leads s q) same ip in
          let only : Only is_word_byte q = subst (Only is_word_byte) (sym word.2) (and_from (is_word_byte word.0) (list_all is_word_byte word.1) (or_left (is_word_head word.0) (is_ascii_digit word.0) word.3) word.4) in
          no_longer (Kept Word) other p q (b ∷ t) same whole at (run_no_longer b t q (or_left (is_word_head b) (is_ascii_digit b) w) only at);
    }

-- a run is one number or none
same_numeric : (r s : Shape) (p : List ℕ) → IsNumeric r p → IsNumeric s p → r ≡ s
same_numeric r s p (number m e a) (number n f b) = e ∙ (ap (λ v. Kept (Number v)) (one_number p m n a b) ∙ sym f)
same_numeric r s p (number m e a) (no_number f b) = absurd (b m a)
same_numeric r s p (no_number e a) (number n f b) = absurd (a n b)
same_numeric r s p (no_number e a) (no_number f b) = e ∙ sym f

numeric_piece : (leads : Bool) (shape : Shape) (b : ℕ) (tail : List ℕ) → IsTrue (is_ascii_digit b) → Only is_word_byte tail → IsNumeric shape (b ∷ tail) → IsPiece leads shape (b ∷ tail)
numeric_piece leads shape b tail d o (number value e s) = subst (λ s. IsPiece leads s (b ∷ tail)) (sym e) s
numeric_piece leads shape b tail d o (no_number e n) = subst (λ s. IsPiece leads s (b ∷ tail)) (sym e) ((b, tail, refl, d, o), n)

-- the longest run that begins with a digit, which is a number or none
pub number_longest : (leads : Bool) (shape : Shape) (b : ℕ) (t : List ℕ) → IsTrue (is_ascii_digit b) → IsNumeric shape (b ∷ take (prefix_len is_word_byte t) t) → let n = prefix_len is_word_byte t in IsLongest leads shape (b ∷ take n t) (drop n t)
number_longest leads shape b t d numeric =
    let p : List ℕ = b ∷ take (prefix_len is_word_byte t) t in
    let e = run_and_rest b t in
    let whole : Begins p (b ∷ t) = (drop (prefix_len is_word_byte t) t, e) in
    record {
      piece = numeric_piece leads shape b (take (prefix_len is_word_byte t) t) d (Only-take is_word_byte t) numeric;
      longest = λ other q ip bq.
          let at : Begins q (b ∷ t) = (bq.0, bq.1 ∙ e) in
          let one = only_digit leads other b q d (head_at leads other q b t ip at) ip in
          let le = run_no_longer b t q (or_right (is_word_head b) (is_ascii_digit b) d) one.1 at in
          elim (cases_eq (length q) (length p)) [
            | inl l ↦ let same = same_front q p (b ∷ t) at whole l in inl (same_numeric other shape p (subst (IsNumeric other) same one.0) numeric, same)
            | inr ne ↦ inr (omega arith)
          ];
    }
