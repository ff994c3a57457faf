-- How far a header gets, line by line.
use Rattle.std.proofs.Common.{◌≡◌, ℕ, suc, ◌+◌, ◌-◌, ◌<◌, ◌≤◌, true, false, cond, inl, inr, ◌⊎◌, List, [], ◌∷◌, ◌++◌, length, take, refl, sym, ◌∙◌, ap, subst, arith}
use Rattle.std.specs.Prelude.{Option, Some, None, nat_le, fold}
use Rattle.std.proofs.lemmas.Bool.{cases_Bool, cond-true, cond-false, leb-true}
use Rattle.std.proofs.lemmas.List.Folds.{fold_stays}
use Rattle.dap_frame.specs.declared.header.TheConstants.{MAX_HEADER, MAX_CONTENT}
use Rattle.dap_frame.specs.declared.line.Line.{Line}
use Rattle.dap_frame.specs.declared.line.Line.TheVariants.{Empty, Length, Other, Malformed}
use Rattle.dap_frame.specs.declared.header.LengthLine.{LengthLine}
use Rattle.dap_frame.specs.declared.header.Head.{Head}
use Rattle.dap_frame.specs.declared.header.HeaderFault.{HeaderFault}
use Rattle.dap_frame.specs.declared.header.HeaderFault.TheVariants.{Bad, TooLong}
use Rattle.dap_frame.specs.declared.header.Header.{Header}
use Rattle.dap_frame.specs.declared.header.Header.TheVariants.{Open, Ended, Faulty}
use Rattle.dap_frame.specs.Line.{line_of}
use Rattle.dap_frame.specs.Header.{HasNoLf, lines_of, size_of, IsBounded, ended, ended_by, given, judged_by, judged, after_line, header_on}
use Rattle.dap_frame.proofs.Lines.{lines_of-line, take-append}

-- what became of a header after a line is a fault, or has `size` bytes
abbrev pub HasSize : Header → ℕ → Type 0
HasSize header size = (size_of header ≡ size) ⊎ ((f : HeaderFault) × (header ≡ Faulty f))

ended_size : (size at n : ℕ) → HasSize (ended size at n) size
ended_size size at n =
    elim (nat_le n MAX_CONTENT) as (λ b. HasSize (cond b (Ended size n) (Faulty (TooLong at n))) size) [
      | true ↦ inl refl
      | false ↦ inr (TooLong at n, refl)
    ]

ended_by_size : (head : Head) (size : ℕ) (length : Option LengthLine) → HasSize (ended_by head size length) size
ended_by_size head size None = inr (Bad head.size, refl)
ended_by_size head size (Some given) = ended_size size given.at given.n

given_size : (head : Head) (size n : ℕ) (length : Option LengthLine) → HasSize (given head size n length) size
given_size head size n None = inl refl
given_size head size n (Some before) = inr (Bad head.size, refl)

judged_by_size : (head : Head) (size : ℕ) (line : Line) → HasSize (judged_by head size line) size
judged_by_size head size Empty = ended_by_size head size head.length
judged_by_size head size (Length n) = given_size head size n head.length
judged_by_size head size Other = inl refl
judged_by_size head size Malformed = inr (Bad head.size, refl)

pub judged_size : (head : Head) (line : List ℕ) → HasSize (judged head line) (head.size + length line + 1)
judged_size head line = judged_by_size head (head.size + length line + 1) (line_of line)

pub size_most : (header : Header) (size : ℕ) → HasSize header size → size_of header ≤ size
size_most header size (inl e) = omega (arith, e)
size_most header size (inr fault) = let e : size_of header ≡ 0 = ap size_of fault.1 in omega (arith, e)

-- A header stays within its bounds.
ended_bounded : (size at n : ℕ) → size ≤ MAX_HEADER → IsBounded (ended size at n)
ended_bounded size at n fits =
    elim (cases_Bool (nat_le n MAX_CONTENT)) [
      | inl short ↦ subst IsBounded (sym (cond-true (nat_le n MAX_CONTENT) (Ended size n) (Faulty (TooLong at n)) short)) (fits, leb-true n MAX_CONTENT short)
      | inr long ↦ subst IsBounded (sym (cond-false (nat_le n MAX_CONTENT) (Ended size n) (Faulty (TooLong at n)) long)) tt
    ]

ended_by_bounded : (head : Head) (size : ℕ) (length : Option LengthLine) → size ≤ MAX_HEADER → IsBounded (ended_by head size length)
ended_by_bounded head size None fits = tt
ended_by_bounded head size (Some given) fits = ended_bounded size given.at given.n fits

given_bounded : (head : Head) (size n : ℕ) (length : Option LengthLine) → size ≤ MAX_HEADER → IsBounded (given head size n length)
given_bounded head size n None fits = fits
given_bounded head size n (Some before) fits = tt

judged_by_bounded : (head : Head) (size : ℕ) (line : Line) → size ≤ MAX_HEADER → IsBounded (judged_by head size line)
judged_by_bounded head size Empty fits = ended_by_bounded head size head.length fits
judged_by_bounded head size (Length n) fits = given_bounded head size n head.length fits
judged_by_bounded head size Other fits = fits
judged_by_bounded head size Malformed fits = tt

pub judged_bounded : (head : Head) (line : List ℕ) → head.size + length line < MAX_HEADER → IsBounded (judged head line)
judged_bounded head line within = judged_by_bounded head (head.size + length line + 1) (line_of line) (omega arith)

pub size_bounded : (header : Header) → IsBounded header → size_of header ≤ MAX_HEADER
size_bounded (Open head) fits = fits
size_bounded (Ended size n) fits = fits.0
size_bounded (Faulty f) fits = omega arith

-- What is decided stays so.
pub fold-fault : (f : HeaderFault) (lines : List (List ℕ)) → fold after_line (Faulty f) lines ≡ Faulty f
fold-fault f lines = fold_stays after_line (Faulty f) (λ line. refl) lines

pub fold-ended : (size n : ℕ) (lines : List (List ℕ)) → fold after_line (Ended size n) lines ≡ Ended size n
fold-ended size n lines = fold_stays after_line (Ended size n) (λ line. refl) lines

-- A header that ends has the bytes of its lines.
pub fold_grows : (header : Header) (lines : List (List ℕ)) (size n : ℕ) → fold after_line header lines ≡ Ended size n → size_of header ≤ size
fold_grows header [] size n is = let e = ap size_of is in omega (arith, e)
fold_grows (Open head) (line ∷ lines) size n is =
    elim (judged_size head line) [
      | inl sized ↦ omega (arith, sized, fold_grows (judged head line) lines size n is)
      | inr fault ↦ absurd (let e : fold after_line (judged head line) lines ≡ Faulty fault.0 = ap (λ (h : Header). fold after_line h lines) fault.1 ∙ fold-fault fault.0 lines in cc)
    ]
fold_grows (Ended before m) (line ∷ lines) size n is = let e = ap size_of (sym (fold-ended before m lines) ∙ is) in omega (arith, e)
fold_grows (Faulty f) (line ∷ lines) size n is = absurd (let e = fold-fault f lines in cc)

-- the first bytes of a line with its LF and what follows
take-line : (text tail : List ℕ) (w : ℕ) → take (length text + (1 + w)) (text ++ 10 ∷ tail) ≡ text ++ 10 ∷ take w tail
take-line text tail w =
    take-append text (10 ∷ tail) (1 + w) ∙ (let e : 1 + w ≡ suc w = omega arith in ap (λ (k : ℕ). text ++ take k (10 ∷ tail)) e)

-- Once a line is whole, the header goes on from what the line made of it.
pub header_on-line : (head : Head) (text tail : List ℕ) → HasNoLf text → head.size + length text < MAX_HEADER →
    header_on (Open head) (text ++ 10 ∷ tail) ≡ header_on (judged head text) tail
header_on-line head text tail none within =
    let w : ℕ = MAX_HEADER - head.size - length text - 1 in
    let window : MAX_HEADER - head.size ≡ length text + (1 + w) = omega arith in
    let cut : lines_of (take (MAX_HEADER - head.size) (text ++ 10 ∷ tail)) ≡ text ∷ lines_of (take w tail) =
    ap (λ (k : ℕ). lines_of (take k (text ++ 10 ∷ tail))) window ∙ ap lines_of (take-line text tail w) ∙ lines_of-line text (take w tail) none in
    let step : header_on (Open head) (text ++ 10 ∷ tail) ≡ fold after_line (judged head text) (lines_of (take w tail)) = ap (fold after_line (Open head)) cut in
    elim (judged_size head text) [
      | inl sized ↦ step ∙ (let same : w ≡ MAX_HEADER - size_of (judged head text) = omega (arith, sized) in ap (λ (k : ℕ). fold after_line (judged head text) (lines_of (take k tail))) same)
      | inr fault ↦ step ∙ stuck fault.0 (judged head text) (lines_of (take w tail)) (lines_of (take (MAX_HEADER - size_of (judged head text)) tail)) fault.1
    ]
  where
    stuck : (f : HeaderFault) (h : Header) (xs ys : List (List ℕ)) → h ≡ Faulty f → fold after_line h xs ≡ fold after_line h ys
    stuck f h xs ys is = ap (λ (g : Header). fold after_line g xs) is ∙ fold-fault f xs ∙ sym (ap (λ (g : Header). fold after_line g ys) is ∙ fold-fault f ys)
