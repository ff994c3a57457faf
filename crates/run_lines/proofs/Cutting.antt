-- Where lines and blanks are cut.
use Rattle.std.proofs.Common.{◌≡◌, refl, sym, ap, ◌∙◌, subst, ℕ, zero, suc, ◌+◌, ◌-◌, ◌<◌, ◌≤◌, Bool, true, false, List, [], ◌∷◌, ◌++◌, length, take, drop, Option, None, Some, Result, Ok, Err, arith, append_assoc}
use Rattle.std.proofs.lemmas.List.{append-nil, length-drop, take-append-drop, take_all, take_more}
use Rattle.std.proofs.Math.Seq.{drop-cons}
use Rattle.std.specs.Prelude.{nat_eq, slice_index_or, if◌then◌else◌, option_map}
use Rattle.c_meaning.specs.declared.config.Choice.{Choice}
use Rattle.run_lines.specs.Schedule.{lines_of, with_byte, at_blank, choice_of, joined, behind, choices_from}

-- no byte of the list is this one
abbrev pub Lacks : ℕ → List ℕ → Type 0
Lacks b [] = Unit {0}
Lacks b (x ∷ xs) = (nat_eq x b ≡ false) × Lacks b xs

pub lacks_push : (b : ℕ) (xs : List ℕ) (x : ℕ) → Lacks b xs → nat_eq x b ≡ false → Lacks b (xs ++ x ∷ [])
lacks_push b [] x l e = (e, tt)
lacks_push b (y ∷ ys) x l e = (l.0, lacks_push b ys x l.1 e)

pub cut_line : (xs rest : List ℕ) → Lacks 10 xs → lines_of (xs ++ 10 ∷ rest) ≡ xs ∷ lines_of rest
cut_line [] rest l = refl
cut_line (x ∷ xs) rest l =
    ap (λ (b : Bool). if b then [] ∷ lines_of (xs ++ 10 ∷ rest) else with_byte x (lines_of (xs ++ 10 ∷ rest))) l.0
    ∙ ap (with_byte x) (cut_line xs rest l.1)

pub last_line : (x : ℕ) (xs : List ℕ) → Lacks 10 (x ∷ xs) → lines_of (x ∷ xs) ≡ (x ∷ xs) ∷ []
last_line x [] l = ap (λ (b : Bool). if b then [] ∷ [] else with_byte x []) l.0
last_line x (y ∷ ys) l =
    ap (λ (b : Bool). if b then [] ∷ lines_of (y ∷ ys) else with_byte x (lines_of (y ∷ ys))) l.0
    ∙ ap (with_byte x) (last_line y ys l.1)

pub whole_line : (xs : List ℕ) → 0 < length xs → Lacks 10 xs → lines_of xs ≡ xs ∷ []
whole_line [] some l = absurd (omega (arith, some))
whole_line (x ∷ xs) some l = last_line x xs l

pub cut_blank : (xs rest : List ℕ) → Lacks 32 xs → at_blank (xs ++ 32 ∷ rest) ≡ Some (xs, rest)
cut_blank [] rest l = refl
cut_blank (x ∷ xs) rest l =
    ap (λ (b : Bool). if b then Some ([], xs ++ 32 ∷ rest) else option_map (λ (p : List ℕ × List ℕ). (x ∷ p.0, p.1)) (at_blank (xs ++ 32 ∷ rest))) l.0
    ∙ ap (option_map (λ (p : List ℕ × List ℕ). (x ∷ p.0, p.1))) (cut_blank xs rest l.1)

pub no_blank : (xs : List ℕ) → Lacks 32 xs → at_blank xs ≡ None
no_blank [] l = refl
no_blank (x ∷ xs) l =
    ap (λ (b : Bool). if b then Some ([], xs) else option_map (λ (p : List ℕ × List ℕ). (x ∷ p.0, p.1)) (at_blank xs)) l.0
    ∙ ap (option_map (λ (p : List ℕ × List ℕ). (x ∷ p.0, p.1))) (no_blank xs l.1)

-- one choice more
pub joined_push : (before : List Choice) (c : Choice) (rest : Result (List Choice) ℕ) → joined before (joined (c ∷ []) rest) ≡ joined (before ++ c ∷ []) rest
joined_push before c (Ok choices) = ap Ok (sym (append_assoc before (c ∷ []) choices))
joined_push before c (Err line) = refl

pub next_choice : (before : List Choice) (c : Choice) (line : ℕ) (text : List ℕ) (lines all : List (List ℕ)) → all ≡ text ∷ lines → choice_of text ≡ Some c
    → joined before (choices_from line all) ≡ joined (before ++ c ∷ []) (choices_from (line + 1) lines)
next_choice before c line text lines all e is =
    ap (λ l. joined before (choices_from line l)) e
    ∙ ap (λ (o : Option Choice). joined before (behind line o (choices_from (line + 1) lines))) is
    ∙ joined_push before c (choices_from (line + 1) lines)

pub bad_line : (before : List Choice) (line : ℕ) (text : List ℕ) (lines all : List (List ℕ)) → all ≡ text ∷ lines → choice_of text ≡ None → joined before (choices_from line all) ≡ Err line
bad_line before line text lines all e is =
    ap (λ l. joined before (choices_from line l)) e ∙ ap (λ (o : Option Choice). joined before (behind line o (choices_from (line + 1) lines))) is

pub no_more : (before : List Choice) (line : ℕ) (text : List ℕ) → length text ≡ 0 → joined before (choices_from line (lines_of text)) ≡ Ok before
no_more before line [] e = ap Ok (append-nil before)
no_more before line (x ∷ xs) e = absurd (omega (arith, e))

-- a list cut at one of its items
pub cut_at : (xs : List ℕ) (i d : ℕ) → i < length xs → xs ≡ take i xs ++ slice_index_or xs i d ∷ drop (i + 1) xs
cut_at xs i d lt =
    let more : suc i ≡ i + 1 = omega arith in
    sym (take-append-drop i xs) ∙ ap (λ l. take i xs ++ l) (drop-cons xs i d lt) ∙ ap (λ n. take i xs ++ slice_index_or xs i d ∷ drop n xs) more

pub line_at : (text : List ℕ) (i d : ℕ) → i < length text → slice_index_or text i d ≡ 10 → Lacks 10 (take i text) → lines_of text ≡ take i text ∷ lines_of (drop (i + 1) text)
line_at text i d lt is l = ap lines_of (cut_at text i d lt ∙ ap (λ b. take i text ++ b ∷ drop (i + 1) text) is) ∙ cut_line (take i text) (drop (i + 1) text) l

pub blank_at : (text : List ℕ) (i d : ℕ) → i < length text → slice_index_or text i d ≡ 32 → Lacks 32 (take i text) → Some (take i text, drop (i + 1) text) ≡ at_blank text
blank_at text i d lt is l = sym (ap at_blank (cut_at text i d lt ∙ ap (λ b. take i text ++ b ∷ drop (i + 1) text) is) ∙ cut_blank (take i text) (drop (i + 1) text) l)

pub lacks_more : (b : ℕ) (text : List ℕ) (i d : ℕ) → i < length text → Lacks b (take i text) → nat_eq (slice_index_or text i d) b ≡ false → Lacks b (take (i + 1) text)
lacks_more b text i d lt l e = subst (Lacks b) (sym (take_more text i d lt)) (lacks_push b (take i text) (slice_index_or text i d) l e)

pub rest_whole : (text : List ℕ) (n : ℕ) → take (length text - n) (drop n text) ≡ drop n text
rest_whole text n = let size = length-drop n text in take_all (length text - n) (drop n text) (omega (arith, size))

pub lacks_whole : (b : ℕ) (text : List ℕ) (i : ℕ) → length text ≤ i → Lacks b (take i text) → Lacks b text
lacks_whole b text i le l = subst (Lacks b) (take_all i text le) l
