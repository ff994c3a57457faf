-- What the scan of a place finds, from what it reads there.
use Rattle.std.proofs.Common.{◌≡◌, ℕ, suc, ◌+◌, ◌-◌, ◌^◌, ◌≤◌, ◌<◌, ◌≢◌, Bool, true, false, List, [], ◌∷◌, ◌++◌, length, take, drop, get_or, refl, sym, ap, subst, ◌∙◌, arith, inl, inr, append_assoc, codes, ℤ, pos, Option, Some, None}
use Rattle.std.specs.Prelude.{IsTrue, IfSome, IfNone, SomeIff}
use Rattle.std.specs.Char.{is_ascii_digit}
use Rattle.std.specs.List.{prefix_len}
use Rattle.std.specs.Str.{bytes_eq, all_ascii_digits}
use Rattle.std.specs.Str.Parse.{digits_value}
use Rattle.std.proofs.lemmas.Bool.{cond-true, or_left, or_right, both_ways}
use Rattle.std.proofs.lemmas.List.{take-append-drop, length-append, append-nil, length-take-le, take_at}
use Rattle.std.proofs.lemmas.List.Folds.{length-prefix_len}
use Rattle.std.proofs.lemmas.Slice.Eq.{bytes_eq-Decides}
use Rattle.std.proofs.Math.Seq.{drop-cons}
use Rattle.c_lex.specs.declared.piece.Shape.{Shape}
use Rattle.c_lex.specs.declared.piece.Shape.TheVariants.{Blank, LineComment, BlockComment, Include, Kept, Unclosed, Directive, BadNumber}
use Rattle.c_lex.specs.declared.piece.Found.{Found}
use Rattle.c_lex.specs.declared.token.TokenKind.TheVariants.{Word, Number, Mark}
use Rattle.c_lex.specs.Found.{FindsPiece, IsLongestMark, NoMark}
use Rattle.c_lex.specs.Numbers.{without_suffix_of}
use Rattle.c_lex.specs.Pieces.{IsPiece, NoPiece, Begins, Holds, Spells, is_blank, is_mark}
use Rattle.gob_tree.specs.Words.{is_word_byte, is_word_head}
use Rattle.c_lex.proofs.Heads.{Heads, head_at, length-piece}
use Rattle.c_lex.proofs.Hashes.{include_longest, directive_longest, no_hash}
use Rattle.c_lex.proofs.Numerals.{spelled_digits, no_number_of_digits}
use Rattle.c_lex.proofs.Runs.{finds, blank_longest, word_longest, number_longest, IsNumeric, number, no_number}
use Rattle.c_lex.proofs.Slashes.{close, no_end, line_longest, block_longest, unclosed_longest, divides_longest, divide_longest, last_divide_longest}

-- the number of a run from that of its digits
pub number_from_digits : (run ds : List ℕ) (o : Option ℤ) → ds ≡ without_suffix_of run → 0 < length ds → (get_or ds 0 0 ≡ 48 → length ds ≡ 1) → SomeIff o ((all_ascii_digits ds ≡ true) × (digits_value 10 ds < 2 ^ 63)) (pos (digits_value 10 ds)) → IfSome o (Spells run) × IfNone o ((value : ℤ) → ¬ (Spells run value))
number_from_digits run ds None e some plain none = (tt, no_number_of_digits run (subst (λ (d : List ℕ). ¬ ((all_ascii_digits d ≡ true) × (digits_value 10 d < 2 ^ 63))) e none))
number_from_digits run ds (Some v) e some plain (holds, is) =
    let spelled : Spells run (pos (digits_value 10 (without_suffix_of run))) = spelled_digits run (subst (λ (d : List ℕ). all_ascii_digits d ≡ true) e holds.0) (subst (λ (d : List ℕ). 0 < length d) e some) (subst (λ (d : List ℕ). get_or d 0 0 ≡ 48 → length d ≡ 1) e plain) (subst (λ (d : List ℕ). digits_value 10 d < 2 ^ 63) e holds.1) in
    (subst (Spells run) (sym (is ∙ ap (λ (d : List ℕ). pos (digits_value 10 d)) e)) spelled, tt)

pub finds_blank : (leads : Bool) (text : List ℕ) (found : Found) → 0 < length text → IsTrue (is_blank (get_or text 0 0)) → found.shape ≡ Blank → found.length ≡ 1 → FindsPiece leads text found
finds_blank leads [] found some w s l = absurd (omega arith)
finds_blank leads (b ∷ t) found some w s l = finds leads Blank (b ∷ []) t (b ∷ t) found refl s l (blank_longest leads b t w)

-- a run from its first byte on
run_length : (b : ℕ) (t : List ℕ) → is_word_byte b ≡ true → prefix_len is_word_byte (b ∷ t) ≡ length (b ∷ take (prefix_len is_word_byte t) t)
run_length b t w =
    let n = prefix_len is_word_byte t in
    let step : prefix_len is_word_byte (b ∷ t) ≡ 1 + n = cond-true (is_word_byte b) (1 + n) 0 w in
    let all : length (take n t) ≡ n = length-prefix_len is_word_byte t in
    omega arith

run_whole : (b : ℕ) (t : List ℕ) → let n = prefix_len is_word_byte t in (b ∷ take n t) ++ drop n t ≡ b ∷ t
run_whole b t = ap (λ (r : List ℕ). b ∷ r) (take-append-drop (prefix_len is_word_byte t) t)

pub finds_word : (leads : Bool) (text : List ℕ) (found : Found) → 0 < length text → IsTrue (is_word_head (get_or text 0 0)) → found.shape ≡ Kept Word → found.length ≡ prefix_len is_word_byte text → FindsPiece leads text found
finds_word leads [] found some w s l = absurd (omega arith)
finds_word leads (b ∷ t) found some w s l =
    let n = prefix_len is_word_byte t in
    finds leads (Kept Word) (b ∷ take n t) (drop n t) (b ∷ t) found (run_whole b t) s (l ∙ run_length b t (or_left (is_word_head b) (is_ascii_digit b) w)) (word_longest leads b t w)

-- the run of a text is its first byte and the run after it
run_taken : (b : ℕ) (t : List ℕ) → is_word_byte b ≡ true → take (prefix_len is_word_byte (b ∷ t)) (b ∷ t) ≡ b ∷ take (prefix_len is_word_byte t) t
run_taken b t w =
    let n = prefix_len is_word_byte t in
    let step : prefix_len is_word_byte (b ∷ t) ≡ suc n = cond-true (is_word_byte b) (1 + n) 0 w ∙ (omega arith) in
    ap (λ m. take m (b ∷ t)) step

pub finds_numeric : (leads : Bool) (text : List ℕ) (found : Found) → 0 < length text → IsTrue (is_ascii_digit (get_or text 0 0)) → IsNumeric found.shape (take (prefix_len is_word_byte text) text) → found.length ≡ prefix_len is_word_byte text → FindsPiece leads text found
finds_numeric leads [] found some d numeric l = absurd (omega arith)
finds_numeric leads (b ∷ t) found some d numeric l =
    let n = prefix_len is_word_byte t in
    let w = or_right (is_word_head b) (is_ascii_digit b) d in
    finds leads found.shape (b ∷ take n t) (drop n t) (b ∷ t) found (run_whole b t) refl (l ∙ run_length b t w)
    (number_longest leads found.shape b t d (subst (IsNumeric found.shape) (run_taken b t w) numeric))

pub finds_number : (leads : Bool) (text : List ℕ) (found : Found) (run : List ℕ) (value : ℤ) → 0 < length text → IsTrue (is_ascii_digit (get_or text 0 0)) → run ≡ take (prefix_len is_word_byte text) text → Spells run value → found.shape ≡ Kept (Number value) → found.length ≡ prefix_len is_word_byte text → FindsPiece leads text found
finds_number leads text found run value some d e spells s l = finds_numeric leads text found some d (number value s (subst (λ (r : List ℕ). Spells r value) e spells)) l

pub finds_bad_number : (leads : Bool) (text : List ℕ) (found : Found) (run : List ℕ) → 0 < length text → IsTrue (is_ascii_digit (get_or text 0 0)) → run ≡ take (prefix_len is_word_byte text) text → ((value : ℤ) → ¬ (Spells run value)) → found.shape ≡ BadNumber → found.length ≡ prefix_len is_word_byte text → FindsPiece leads text found
finds_bad_number leads text found run some d e none s l = finds_numeric leads text found some d (no_number s (subst (λ (r : List ℕ). (value : ℤ) → ¬ (Spells r value)) e none)) l

-- a text of two bytes and more
pub two_bytes : (text : List ℕ) (a b : ℕ) → 1 < length text → get_or text 0 0 ≡ a → get_or text 1 0 ≡ b → text ≡ a ∷ b ∷ drop 2 text
two_bytes [] a b more e f = absurd (omega arith)
two_bytes (x ∷ []) a b more e f = absurd (omega arith)
two_bytes (x ∷ y ∷ t) a b more e f = (λ i. e i ∷ f i ∷ t)

-- a byte that isn't 0 is there
second_there : (text : List ℕ) → 0 < get_or text 1 0 → 1 < length text
second_there [] h = absurd (omega arith)
second_there (x ∷ []) h = absurd (omega arith)
second_there (x ∷ y ∷ t) h = omega arith

pub finds_line : (leads : Bool) (text : List ℕ) (found : Found) → get_or text 0 0 ≡ 47 → get_or text 1 0 ≡ 47 → found.shape ≡ LineComment → found.length ≡ prefix_len no_end text → FindsPiece leads text found
finds_line leads text found a b s l =
    let t : List ℕ = drop 2 text in
    let n = prefix_len no_end t in
    let e : text ≡ 47 ∷ 47 ∷ t = two_bytes text 47 47 (second_there text (omega arith)) a b in
    let whole : (47 ∷ 47 ∷ take n t) ++ drop n t ≡ text = ap (λ (r : List ℕ). 47 ∷ 47 ∷ r) (take-append-drop n t) ∙ sym e in
    let all : length (take n t) ≡ n = length-prefix_len no_end t in
    let long : found.length ≡ length (47 ∷ 47 ∷ take n t) = l ∙ (ap (prefix_len no_end) e ∙ omega arith) in
    finds leads LineComment (47 ∷ 47 ∷ take n t) (drop n t) text found whole s long (line_longest leads t)

-- where an end of a comment stands
end_reads : (front back r : List ℕ) → (get_or ((front ++ (close ++ back)) ++ r) (length front) 0 ≡ 42) × (get_or ((front ++ (close ++ back)) ++ r) (suc (length front)) 0 ≡ 47)
end_reads [] back r = (refl, refl)
end_reads (x ∷ front) back r = end_reads front back r

-- no end of a comment in the bytes before the place i of the text
abbrev pub NoEndBefore : List ℕ → ℕ → Type 0
NoEndBefore text i = (k : ℕ) → 3 ≤ k → k < i → get_or text (k - 1) 0 ≡ 42 → get_or text k 0 ≡ 47 → ⊥

-- the same of the bytes after the first two
no_end_in : (a b : ℕ) (t : List ℕ) (i k : ℕ) → NoEndBefore (a ∷ b ∷ t) i → k + 3 < i → get_or t k 0 ≡ 42 → get_or t (suc k) 0 ≡ 47 → ⊥
no_end_in a b t i k none lt star slash =
    let j : ℕ = suc (suc (suc k)) in
    let before : j - 1 ≡ suc (suc k) = omega arith in
    none j (omega arith) (omega arith) (subst (λ n. get_or (a ∷ b ∷ t) n 0 ≡ 42) (sym before) star) slash

no_end_held : (a b : ℕ) (body rest : List ℕ) (i : ℕ) → NoEndBefore (a ∷ b ∷ (body ++ rest)) i → length body + 2 ≤ i → ¬ (Holds close body)
no_end_held a b body rest i none le (front, back, e) =
    let reads = subst (λ (l : List ℕ). (get_or (l ++ rest) (length front) 0 ≡ 42) × (get_or (l ++ rest) (suc (length front)) 0 ≡ 47)) (sym e) (end_reads front back rest) in
    let fits : length front + 2 ≤ length body = omega (arith, ap length e, length-append front (close ++ back)) in
    no_end_in a b (body ++ rest) i (length front) none (omega arith) reads.0 reads.1

-- a text at the place of an end of a comment
split_end : (t : List ℕ) (m : ℕ) → suc m < length t → get_or t m 0 ≡ 42 → get_or t (suc m) 0 ≡ 47 → t ≡ (take m t ++ close) ++ drop (suc (suc m)) t
split_end t m lt star slash =
    let here : drop m t ≡ get_or t m 0 ∷ drop (suc m) t = drop-cons t m 0 (omega arith) in
    let next : drop (suc m) t ≡ get_or t (suc m) 0 ∷ drop (suc (suc m)) t = drop-cons t (suc m) 0 lt in
    let tail : drop m t ≡ 42 ∷ 47 ∷ drop (suc (suc m)) t = here ∙ (λ j. star j ∷ (next ∙ (λ k. slash k ∷ drop (suc (suc m)) t)) j) in
    sym (take-append-drop m t) ∙ (ap (λ (r : List ℕ). take m t ++ r) tail ∙ sym (append_assoc (take m t) close (drop (suc (suc m)) t)))

block_found : (leads : Bool) (t : List ℕ) (m : ℕ) (text : List ℕ) (found : Found) → text ≡ 47 ∷ 42 ∷ t → suc m < length t → get_or t m 0 ≡ 42 → get_or t (suc m) 0 ≡ 47 → NoEndBefore (47 ∷ 42 ∷ t) (m + 3) → found.shape ≡ BlockComment → found.length ≡ m + 4 → FindsPiece leads text found
block_found leads t m text found e lt star slash none s l =
    let body : List ℕ = take m t in
    let rest : List ℕ = drop (suc (suc m)) t in
    let all : length body ≡ m = length-take-le m t (omega arith) in
    let split : t ≡ (body ++ close) ++ rest = split_end t m lt star slash in
    let stepped : t ≡ (body ++ codes "*") ++ (47 ∷ rest) = split ∙ (append_assoc body close rest ∙ sym (append_assoc body (codes "*") (47 ∷ rest))) in
    let clean : ¬ (Holds close (body ++ codes "*")) =
    no_end_held 47 42 (body ++ codes "*") (47 ∷ rest) (m + 3) (subst (λ (r : List ℕ). NoEndBefore (47 ∷ 42 ∷ r) (m + 3)) stepped none) (omega (arith, length-append body (codes "*"))) in
    finds leads BlockComment (47 ∷ 42 ∷ (body ++ close)) rest text found (ap (λ (r : List ℕ). 47 ∷ 42 ∷ r) (sym split) ∙ sym e) s (omega (arith, length-append body close)) (block_longest leads body rest clean)

pub finds_block : (leads : Bool) (text : List ℕ) (i : ℕ) (found : Found) → get_or text 0 0 ≡ 47 → get_or text 1 0 ≡ 42 → 3 ≤ i → i < length text → get_or text (i - 1) 0 ≡ 42 → get_or text i 0 ≡ 47 → NoEndBefore text i → found.shape ≡ BlockComment → found.length ≡ i + 1 → FindsPiece leads text found
finds_block leads text i found a b least lt star slash none s l =
    let t : List ℕ = drop 2 text in
    let e : text ≡ 47 ∷ 42 ∷ t = two_bytes text 47 42 (omega arith) a b in
    let m : ℕ = i - 3 in
    let at : i ≡ suc (suc (suc m)) = omega arith in
    let at_star : i - 1 ≡ suc (suc m) = omega arith in
    let at_three : i ≡ m + 3 = omega arith in
    let star' : get_or t m 0 ≡ 42 = ap (λ (r : List ℕ). get_or r (suc (suc m)) 0) (sym e) ∙ (ap (λ n. get_or text n 0) (sym at_star) ∙ star) in
    let slash' : get_or t (suc m) 0 ≡ 47 = ap (λ (r : List ℕ). get_or r (suc (suc (suc m))) 0) (sym e) ∙ (ap (λ n. get_or text n 0) (sym at) ∙ slash) in
    let clean : NoEndBefore (47 ∷ 42 ∷ t) (m + 3) = subst (λ n. NoEndBefore (47 ∷ 42 ∷ t) n) at_three (subst (λ (r : List ℕ). NoEndBefore r i) e none) in
    block_found leads t m text found e (omega (arith, ap length e)) star' slash' clean s (l ∙ omega arith)

pub finds_unclosed : (leads : Bool) (text : List ℕ) (found : Found) → get_or text 0 0 ≡ 47 → get_or text 1 0 ≡ 42 → NoEndBefore text (length text) → found.shape ≡ Unclosed → found.length ≡ length text → FindsPiece leads text found
finds_unclosed leads text found a b none s l =
    let t : List ℕ = drop 2 text in
    let e : text ≡ 47 ∷ 42 ∷ t = two_bytes text 47 42 (second_there text (omega arith)) a b in
    let there : NoEndBefore (47 ∷ 42 ∷ (t ++ [])) (length text) = subst (λ (r : List ℕ). NoEndBefore r (length text)) (e ∙ ap (λ (r : List ℕ). 47 ∷ 42 ∷ r) (sym (append-nil t))) none in
    let clean : ¬ (Holds close t) = no_end_held 47 42 t [] (length text) there (omega (arith, ap length e)) in
    finds leads Unclosed (47 ∷ 42 ∷ t) [] text found (append-nil (47 ∷ 42 ∷ t) ∙ sym e) s (l ∙ ap length e) (unclosed_longest leads t clean)

pub finds_divides : (leads : Bool) (text : List ℕ) (found : Found) → get_or text 0 0 ≡ 47 → get_or text 1 0 ≡ 61 → found.shape ≡ Kept Mark → found.length ≡ 2 → FindsPiece leads text found
finds_divides leads text found a b s l =
    let e : text ≡ 47 ∷ 61 ∷ drop 2 text = two_bytes text 47 61 (second_there text (omega arith)) a b in
    finds leads (Kept Mark) (47 ∷ 61 ∷ []) (drop 2 text) text found (sym e) s l (divides_longest leads (drop 2 text))

pub finds_divide : (leads : Bool) (text : List ℕ) (found : Found) → 0 < length text → get_or text 0 0 ≡ 47 → get_or text 1 0 ≢ 47 → get_or text 1 0 ≢ 42 → get_or text 1 0 ≢ 61 → found.shape ≡ Kept Mark → found.length ≡ 1 → FindsPiece leads text found
finds_divide leads [] found some a b c d s l = absurd (omega arith)
finds_divide leads (x ∷ []) found some a b c d s l = finds leads (Kept Mark) (47 ∷ []) [] (x ∷ []) found (λ i. sym a i ∷ []) s l (last_divide_longest leads)
finds_divide leads (x ∷ y ∷ t) found some a b c d s l = finds leads (Kept Mark) (47 ∷ []) (y ∷ t) (x ∷ y ∷ t) found (λ i. sym a i ∷ y ∷ t) s l (divide_longest leads y t b c d)

-- the bytes at the front, where a test finds them
begins_from_test : (text p : List ℕ) → IsTrue (bytes_eq p (take (length p) text)) → text ≡ p ++ drop (length p) text
begins_from_test text p t = sym (take-append-drop (length p) text) ∙ ap (λ (r : List ℕ). r ++ drop (length p) text) (sym ((bytes_eq-Decides p (take (length p) text)).0 t))

test_from_begins : (text p : List ℕ) → Begins p text → IsTrue (bytes_eq p (take (length p) text))
test_from_begins text p (rest, e) = (bytes_eq-Decides p (take (length p) text)).1 (sym (ap (take (length p)) (sym e) ∙ take_at p rest (length p) refl))

pub finds_include : (text : List ℕ) (found : Found) → IsTrue (bytes_eq (codes "#include") (take 8 text)) → found.shape ≡ Include → found.length ≡ prefix_len no_end text → FindsPiece true text found
finds_include text found t s l =
    let tail : List ℕ = drop 8 text in
    let n = prefix_len no_end tail in
    let e : text ≡ codes "#include" ++ tail = begins_from_test text (codes "#include") t in
    let whole : (codes "#include" ++ take n tail) ++ drop n tail ≡ text = ap (λ (r : List ℕ). codes "#include" ++ r) (take-append-drop n tail) ∙ sym e in
    let all : length (take n tail) ≡ n = length-prefix_len no_end tail in
    let long : found.length ≡ length (codes "#include" ++ take n tail) = l ∙ (ap (prefix_len no_end) e ∙ omega arith) in
    finds true Include (codes "#include" ++ take n tail) (drop n tail) text found whole s long (include_longest tail)

pub finds_directive : (text : List ℕ) (found : Found) → 0 < length text → get_or text 0 0 ≡ 35 → bytes_eq (codes "#include") (take 8 text) ≡ false → found.shape ≡ Directive → found.length ≡ 1 → FindsPiece true text found
finds_directive [] found some a none s l = absurd (omega arith)
finds_directive (x ∷ t) found some a none s l =
    let e : x ∷ t ≡ 35 ∷ t = (λ i. a i ∷ t) in
    let clean : ¬ (Begins (codes "#include") (35 ∷ t)) = λ b. both_ways _ none (test_from_begins (x ∷ t) (codes "#include") (subst (Begins (codes "#include")) (sym e) b)) in
    finds true Directive (35 ∷ []) t (x ∷ t) found (sym e) s l (directive_longest t clean)

-- a `#` that doesn't lead its line
pub finds_no_hash : (leads : Bool) (text : List ℕ) → 0 < length text → get_or text 0 0 ≡ 35 → leads ≡ false → NoPiece leads text
finds_no_hash leads [] some a later = absurd (omega arith)
finds_no_hash leads (x ∷ t) some a later = subst (λ b. NoPiece b (x ∷ t)) (sym later) (subst (NoPiece false) (λ i. sym a i ∷ t) (no_hash t))

-- nothing begins where nothing is left
pub finds_nothing : (leads : Bool) (text : List ℕ) → length text ≡ 0 → NoPiece leads text
finds_nothing leads text none shape p ip (rest, e) = let some = length-piece leads shape p ip in omega (arith, ap length e, length-append p rest)

only_mark : (shape : Shape) (b : ℕ) → is_blank b ≡ false → b ≢ 35 → b ≢ 47 → is_ascii_digit b ≡ false → is_word_head b ≡ false → Heads shape b → shape ≡ Kept Mark
only_mark Blank b blank hash slash digit word h = absurd (both_ways _ blank h)
only_mark LineComment b blank hash slash digit word h = absurd (slash h)
only_mark BlockComment b blank hash slash digit word h = absurd (slash h)
only_mark Unclosed b blank hash slash digit word h = absurd (slash h)
only_mark Include b blank hash slash digit word h = absurd (hash h)
only_mark Directive b blank hash slash digit word h = absurd (hash h)
only_mark (Kept Word) b blank hash slash digit word h = absurd (both_ways _ word h)
only_mark (Kept (Number value)) b blank hash slash digit word h = absurd (both_ways _ digit h)
only_mark (Kept Mark) b blank hash slash digit word h = refl
only_mark BadNumber b blank hash slash digit word h = absurd (both_ways _ digit h)

-- a first byte that only a mark has
pub record BeginsMark (text : List ℕ) : Type 0 where
  pub some : 0 < length text
  pub blank : is_blank (get_or text 0 0) ≡ false
  pub hash : get_or text 0 0 ≢ 35
  pub slash : get_or text 0 0 ≢ 47
  pub digit : is_ascii_digit (get_or text 0 0) ≡ false
  pub word : is_word_head (get_or text 0 0) ≡ false

mark_piece : (leads : Bool) (text : List ℕ) (shape : Shape) (q : List ℕ) → BeginsMark text → IsPiece leads shape q → Begins q text → (shape ≡ Kept Mark) × IsTrue (is_mark q)
mark_piece leads [] shape q b ip bq = absurd (omega (arith, b.some))
mark_piece leads (x ∷ t) shape q b ip bq =
    let same = only_mark shape x b.blank b.hash b.slash b.digit b.word (head_at leads shape q x t ip bq) in
    let m : IsPiece leads (Kept Mark) q = subst (λ s. IsPiece leads s q) same ip in
    (same, m)

pub finds_mark : (leads : Bool) (text : List ℕ) (found : Found) (n : ℕ) → BeginsMark text → IsLongestMark text n → found.shape ≡ Kept Mark → found.length ≡ n → FindsPiece leads text found
finds_mark leads text found n b m s l =
    let all : length (take n text) ≡ n = length-take-le n text m.within in
    finds leads (Kept Mark) (take n text) (drop n text) text found (take-append-drop n text) s (l ∙ sym all) (record {
      piece = m.mark;
      longest = λ other q ip bq.
          let at : Begins q text = (bq.0, bq.1 ∙ take-append-drop n text) in
          let same = mark_piece leads text other q b ip at in
          elim (m.longest q same.1 at) [ inl e ↦ inl (same.0, e) | inr lt ↦ inr (omega arith) ];
    })

pub finds_no_mark : (leads : Bool) (text : List ℕ) → BeginsMark text → NoMark text → NoPiece leads text
finds_no_mark leads text b none shape q ip bq = none q (mark_piece leads text shape q b ip bq).1 bq
