-- Reading a stream part by part.
use Rattle.std.proofs.Common.{◌≡◌, ℕ, ◌+◌, ◌-◌, ◌<◌, ◌≤◌, Bool, true, false, cond, inl, inr, List, [], ◌∷◌, ◌++◌, length, take, drop, refl, sym, ◌∙◌, ap, subst, arith, append_assoc, length-append}
use Rattle.std.specs.Prelude.{nat_le, nat_lt, ◌==◌, fold}
use Rattle.std.specs.List.{list_any}
use Rattle.std.proofs.lemmas.Bool.{cases_Bool, cond-true, cond-false, le-ltb, lt-ltb, le-leb, lt-leb, leb-true, leb-false}
use Rattle.std.proofs.lemmas.List.{take-append-le, take_all, drop-drop, drop_at, take_at}
use Rattle.dap_frame.specs.declared.header.TheConstants.{MAX_HEADER}
use Rattle.dap_frame.specs.declared.header.Head.{Head}
use Rattle.dap_frame.specs.declared.header.HeaderFault.{HeaderFault}
use Rattle.dap_frame.specs.declared.header.HeaderFault.TheVariants.{Bad}
use Rattle.dap_frame.specs.declared.header.Header.{Header}
use Rattle.dap_frame.specs.declared.header.Header.TheVariants.{Open, Ended, Faulty}
use Rattle.dap_frame.specs.Header.{HasNoLf, lines_of, size_of, judged, nothing_said, after_line, header_on}
use Rattle.dap_frame.specs.Stream.{Next, message, unfinished, fault, content_at, next_by, next_from, told, End, failed, end_after, Ends, Reads}
use Rattle.dap_frame.specs.Part.{IsUnfinished, end_within, Passes}
use Rattle.dap_frame.proofs.Headers.{judged_size, fold-fault, fold-ended, fold_grows, header_on-line}
use Rattle.dap_frame.proofs.Lines.{lines_of-part, take_split}

-- what comes next, counted from k bytes earlier
abbrev pub later : ℕ → Next → Next
later k (message content size) = message content (k + size)
later k unfinished = unfinished
later k (fault f) = fault f

ends_later : (start m n k : ℕ) (next : Next) (end : End) → m ≡ n → Ends start n next end → Ends start m (later k next) end
ends_later start m n k (message content size) end e ends = ends
ends_later start m n k unfinished end e ends = ends ∙ ap end_after (sym e)
ends_later start m n k (fault f) end e ends = ends

-- Reading from k bytes earlier, in the same header.
reads_later : (start k : ℕ) (h g : Header) (xs ys : List ℕ) (contents : List (List ℕ)) (end : End) →
    next_from h xs ≡ later k (next_from g ys) → size_of h + k ≡ size_of g → length xs ≡ k + length ys → drop k xs ≡ ys →
    Reads start g ys contents end → Reads start h xs contents end
reads_later start k h g xs ys [] end is sizes long rest ends =
    subst (λ (n : Next). Ends start (size_of h + length xs) n end) (sym is)
    (ends_later start (size_of h + length xs) (size_of g + length ys) k (next_from g ys) end (omega arith) ends)
reads_later start k h g xs ys (content ∷ contents) end is sizes long rest reads =
    let size : ℕ = reads.0 in
    let place : start + size_of g + size ≡ start + size_of h + (k + size) = omega arith in
    let dropped : drop size ys ≡ drop (k + size) xs = ap (drop size) (sym rest) ∙ drop-drop size k xs in
    let next : next_from h xs ≡ message content (k + size) = is ∙ ap (later k) reads.1 in (
      k + size,
      next,
      subst (λ (n : ℕ). Reads n (Open nothing_said) (drop (k + size) xs) contents end) place
          (subst (λ (bytes : List ℕ). Reads (start + size_of g + size) (Open nothing_said) bytes contents end) dropped reads.2),
    )

-- Where a fault comes next there is no further message, and the stream ends with it.
pub reads_fault : (start : ℕ) (f : HeaderFault) (h g : Header) (xs ys : List ℕ) (contents : List (List ℕ)) (end : End) →
    next_from h xs ≡ fault f → next_from g ys ≡ fault f → Reads start g ys contents end → Reads start h xs contents end
reads_fault start f h g xs ys [] end here there ends =
    let so : end ≡ failed (told start f) = subst (λ (n : Next). Ends start (size_of g + length ys) n end) there ends in
    subst (λ (n : Next). Ends start (size_of h + length xs) n end) (sym here) so
reads_fault start f h g xs ys (content ∷ contents) end here there reads = absurd (let e = reads.1 in cc)

content_whole : (skip n : ℕ) (bytes : List ℕ) → skip + n ≤ length bytes → content_at skip n bytes ≡ message (take n (drop skip bytes)) (skip + n)
content_whole skip n bytes fits = cond-true _ _ _ (le-leb (skip + n) (length bytes) fits)

content_part : (skip n : ℕ) (bytes : List ℕ) → length bytes < skip + n → content_at skip n bytes ≡ unfinished
content_part skip n bytes short = cond-false _ _ _ (lt-leb (skip + n) (length bytes) short)

content_later : (front tail : List ℕ) (s n k : ℕ) → length front ≡ k → content_at (k + s) n (front ++ tail) ≡ later k (content_at s n tail)
content_later front tail s n k long =
    let all : length (front ++ tail) ≡ k + length tail = length-append front tail ∙ ap (λ (i : ℕ). i + length tail) long in
    elim (cases_Bool (nat_le (s + n) (length tail))) [
      | inl passes ↦
          let fits : s + n ≤ length tail = leb-true (s + n) (length tail) passes in
          let same : drop (k + s) (front ++ tail) ≡ drop s tail = sym (drop-drop s k (front ++ tail)) ∙ ap (drop s) (drop_at front tail k long) in
          content_whole (k + s) n (front ++ tail) (omega arith)
          ∙ ap (λ (bytes : List ℕ). message (take n bytes) (k + s + n)) same
          ∙ ap (message (take n (drop s tail))) (let e : k + s + n ≡ k + (s + n) = omega arith in e)
          ∙ sym (ap (later k) (content_whole s n tail fits))
      | inr fails ↦
          let short : length tail < s + n = leb-false (s + n) (length tail) fails in
          content_part (k + s) n (front ++ tail) (omega arith) ∙ sym (ap (later k) (content_part s n tail short))
    ]

later_open : (k : ℕ) (b : Bool) → cond b unfinished (fault (Bad 0)) ≡ later k (cond b unfinished (fault (Bad 0)))
later_open k true = refl
later_open k false = refl

next_later : (before now k : ℕ) (front tail : List ℕ) (h : Header) → length front ≡ k → before + k ≡ now →
    ((size n : ℕ) → h ≡ Ended size n → now ≤ size) → next_by before (front ++ tail) h ≡ later k (next_by now tail h)
next_later before now k front tail (Open head) long sizes grows =
    let all : before + length (front ++ tail) ≡ now + length tail = omega (arith, length-append front tail) in
    ap (λ (i : ℕ). cond (nat_lt i MAX_HEADER) unfinished (fault (Bad 0))) all ∙ later_open k (nat_lt (now + length tail) MAX_HEADER)
next_later before now k front tail (Ended size n) long sizes grows =
    let past : now ≤ size = grows size n refl in
    let skip : size - before ≡ k + (size - now) = omega arith in
    ap (λ (i : ℕ). content_at i n (front ++ tail)) skip ∙ content_later front tail (size - now) n k long
next_later before now k front tail (Faulty f) long sizes grows = refl

-- A whole line is judged, and the header goes on behind it.
reads-line : (start : ℕ) (head : Head) (text tail : List ℕ) (contents : List (List ℕ)) (end : End) →
    HasNoLf text → head.size + length text < MAX_HEADER →
    Reads start (judged head text) tail contents end → Reads start (Open head) (text ++ 10 ∷ tail) contents end
reads-line start head text tail contents end none within reads =
    let next : Header = judged head text in
    let front : List ℕ = text ++ 10 ∷ [] in
    let whole_line : front ++ tail ≡ text ++ 10 ∷ tail = append_assoc text (10 ∷ []) tail in
    let same : header_on (Open head) (text ++ 10 ∷ tail) ≡ header_on next tail = header_on-line head text tail none within in
    elim (judged_size head text) [
      | inl sized ↦
          let k : ℕ = length text + 1 in
          let long : length front ≡ k = length-append text (10 ∷ []) in
          let sizes : head.size + k ≡ size_of next = omega (arith, sized) in
          let is : next_by head.size (text ++ 10 ∷ tail) (header_on (Open head) (text ++ 10 ∷ tail)) ≡ later k (next_from next tail) =
          ap (next_by head.size (text ++ 10 ∷ tail)) same
          ∙ ap (λ (bytes : List ℕ). next_by head.size bytes (header_on next tail)) (sym whole_line)
          ∙ next_later head.size (size_of next) k front tail (header_on next tail) long sizes
          (λ size n ended. fold_grows next (lines_of (take (MAX_HEADER - size_of next) tail)) size n ended) in
          reads_later start k (Open head) next (text ++ 10 ∷ tail) tail contents end is sizes
          (ap length (sym whole_line) ∙ length-append front tail ∙ ap (λ (i : ℕ). i + length tail) long)
          (ap (drop k) (sym whole_line) ∙ drop_at front tail k long) reads
      | inr faulty ↦
          let f : HeaderFault = faulty.0 in
          let stays : header_on next tail ≡ Faulty f =
          ap (λ (h : Header). fold after_line h (lines_of (take (MAX_HEADER - size_of next) tail))) faulty.1 ∙ fold-fault f (lines_of (take (MAX_HEADER - size_of next) tail)) in
          reads_fault start f (Open head) next (text ++ 10 ∷ tail) tail contents end
          (ap (next_by head.size (text ++ 10 ∷ tail)) (same ∙ stays)) (ap (next_by (size_of next) tail) stays) reads
    ]

-- Nothing read leads nowhere.
pub passes_none : (h : Header) (bytes : List ℕ) → Passes h bytes [] 0 h bytes
passes_none h bytes = record {
  on = λ start at more contents end e reads.
      let here : at ≡ start = omega arith in subst (λ (n : ℕ). Reads n h (bytes ++ more) contents end) here reads;
}

-- One way after another.
pub passes_then : (h g k : Header) (xs ys zs : List ℕ) (ms ns : List (List ℕ)) (m n : ℕ) →
    Passes h xs ms m g ys → Passes g ys ns n k zs → Passes h xs (ms ++ ns) (m + n) k zs
passes_then h g k xs ys zs ms ns m n first second = record {
  on = λ start at more contents end e reads.
      let on_from : at ≡ start + m + n = omega arith in
      let tail : Reads (start + m) g (ys ++ more) (ns ++ contents) end = second.on (start + m) at more contents end on_from reads in
      subst (λ (cs : List (List ℕ)). Reads start h (xs ++ more) cs end) (sym (append_assoc ms ns contents))
      (first.on start (start + m) more (ns ++ contents) end refl tail);
}

-- The same with more behind.
pub passes_behind : (h g : Header) (xs tail : List ℕ) (ms : List (List ℕ)) (n : ℕ) → Passes h xs ms n g [] → Passes h (xs ++ tail) ms n g tail
passes_behind h g xs tail ms n first = record {
  on = λ start at more contents end e reads.
      subst (λ (bytes : List ℕ). Reads start h bytes (ms ++ contents) end) (sym (append_assoc xs tail more))
      (first.on start at (tail ++ more) contents end e reads);
}

-- What the first bytes lead to, and then the next ones.
pub passes_on : (h g k : Header) (bytes : List ℕ) (a b : ℕ) (ms ns : List (List ℕ)) (m n : ℕ) → a ≤ length bytes →
    Passes h (take a bytes) ms m g [] → Passes g (take b (drop a bytes)) ns n k [] → Passes h (take (a + b) bytes) (ms ++ ns) (m + n) k []
passes_on h g k bytes a b ms ns m n fits first second =
    let next : List ℕ = take b (drop a bytes) in
    subst (λ (xs : List ℕ). Passes h xs (ms ++ ns) (m + n) k []) (sym (take_split a b bytes fits))
    (passes_then h g k (take a bytes ++ next) next [] ms ns m n (passes_behind h g (take a bytes) next ms m first) second)

-- A whole line.
pub passes_line : (head : Head) (text rest : List ℕ) → HasNoLf text → head.size + length text < MAX_HEADER →
    Passes (Open head) (text ++ 10 ∷ rest) [] 0 (judged head text) rest
passes_line head text rest none within = record {
  on = λ start at more contents end e reads.
      let here : at ≡ start = omega arith in
      subst (λ (bytes : List ℕ). Reads start (Open head) bytes contents end) (sym (append_assoc text (10 ∷ rest) more))
      (reads-line start head text (rest ++ more) contents end none within
      (subst (λ (n : ℕ). Reads n (judged head text) (rest ++ more) contents end) here reads));
}

header_on-ended : (size n : ℕ) (bytes : List ℕ) → header_on (Ended size n) bytes ≡ Ended size n
header_on-ended size n bytes = fold-ended size n (lines_of (take (MAX_HEADER - size) bytes))

next_from-ended : (size n : ℕ) (bytes : List ℕ) → next_from (Ended size n) bytes ≡ content_at 0 n bytes
next_from-ended size n bytes =
    ap (next_by size bytes) (header_on-ended size n bytes) ∙ (let e : size - size ≡ 0 = omega arith in ap (λ (k : ℕ). content_at k n bytes) e)

-- A whole content.
pub passes_content : (size n : ℕ) (content rest : List ℕ) → length content ≡ n →
    Passes (Ended size n) (content ++ rest) (content ∷ []) (size + n) (Open nothing_said) rest
passes_content size n content rest long = record {
  on = λ start at more contents end e reads.
      let bytes : List ℕ = (content ++ rest) ++ more in
      let cut : bytes ≡ content ++ (rest ++ more) = append_assoc content rest more in
      let all : length bytes ≡ n + length (rest ++ more) = ap length cut ∙ length-append content (rest ++ more) ∙ ap (λ (k : ℕ). k + length (rest ++ more)) long in
      let place : at ≡ start + size + n = omega arith in
      let front : take n bytes ≡ content = ap (take n) cut ∙ take_at content (rest ++ more) n long in
      let behind : drop n bytes ≡ rest ++ more = ap (drop n) cut ∙ drop_at content (rest ++ more) n long in
      let next : next_from (Ended size n) bytes ≡ message content n =
      next_from-ended size n bytes ∙ content_whole 0 n bytes (omega arith)
      ∙ ap (λ (c : List ℕ). message c (0 + n)) front ∙ (let k : 0 + n ≡ n = omega arith in ap (message content) k) in (
        n,
        next,
        subst (λ (xs : List ℕ). Reads (start + size + n) (Open nothing_said) xs contents end) (sym behind)
            (subst (λ (k : ℕ). Reads k (Open nothing_said) (rest ++ more) contents end) place reads),
      );
}

pub next_from-faulty : (f : HeaderFault) (bytes : List ℕ) → next_from (Faulty f) bytes ≡ fault f
next_from-faulty f bytes = ap (next_by 0 bytes) (fold-fault f (lines_of (take (MAX_HEADER - 0) bytes)))

-- Behind a fault nothing is read.
pub passes_fault : (f : HeaderFault) (xs ys : List ℕ) → Passes (Faulty f) xs [] 0 (Faulty f) ys
passes_fault f xs ys = record {
  on = λ start at more contents end e reads.
      let here : at ≡ start = omega arith in
      reads_fault start f (Faulty f) (Faulty f) (xs ++ more) (ys ++ more) contents end (next_from-faulty f (xs ++ more)) (next_from-faulty f (ys ++ more))
      (subst (λ (n : ℕ). Reads n (Faulty f) (ys ++ more) contents end) here reads);
}

-- Without an LF in what is left of the header's first 4,096 bytes it gets no further.
header_on-part : (head : Head) (bytes : List ℕ) → HasNoLf (take (MAX_HEADER - head.size) bytes) → header_on (Open head) bytes ≡ Open head
header_on-part head bytes none = ap (fold after_line (Open head)) (lines_of-part (take (MAX_HEADER - head.size) bytes) none)

-- Where these bytes are there, that is a fault.
pub passes_full : (head : Head) (bytes : List ℕ) → HasNoLf (take (MAX_HEADER - head.size) bytes) → MAX_HEADER ≤ head.size + length bytes →
    Passes (Open head) bytes [] 0 (Faulty (Bad 0)) []
passes_full head bytes none full = record {
  on = λ start at more contents end e reads.
      let here : at ≡ start = omega arith in
      let same : take (MAX_HEADER - head.size) (bytes ++ more) ≡ take (MAX_HEADER - head.size) bytes = take-append-le (MAX_HEADER - head.size) bytes more (omega arith) in
      let still : HasNoLf (take (MAX_HEADER - head.size) (bytes ++ more)) = ap (list_any (λ b. b == 10)) same ∙ none in
      let long : MAX_HEADER ≤ head.size + length (bytes ++ more) = omega (arith, length-append bytes more) in
      let next : next_from (Open head) (bytes ++ more) ≡ fault (Bad 0) =
      ap (next_by head.size (bytes ++ more)) (header_on-part head (bytes ++ more) still)
      ∙ cond-false (nat_lt (head.size + length (bytes ++ more)) MAX_HEADER) unfinished (fault (Bad 0)) (le-ltb (head.size + length (bytes ++ more)) MAX_HEADER long) in
      reads_fault start (Bad 0) (Open head) (Faulty (Bad 0)) (bytes ++ more) more contents end next (next_from-faulty (Bad 0) more)
      (subst (λ (n : ℕ). Reads n (Faulty (Bad 0)) more contents end) here reads);
}

-- What a framer keeps is less than a whole message.
next_from-unfinished : (h : Header) (rest : List ℕ) → IsUnfinished h rest → next_from h rest ≡ unfinished
next_from-unfinished (Open head) rest part =
    ap (next_by head.size rest) (header_on-part head rest (ap (list_any (λ b. b == 10)) (take_all (MAX_HEADER - head.size) rest (omega arith)) ∙ part.no_lf))
    ∙ cond-true (nat_lt (head.size + length rest) MAX_HEADER) unfinished (fault (Bad 0)) (lt-ltb (head.size + length rest) MAX_HEADER part.short)
next_from-unfinished (Ended size n) rest part = next_from-ended size n rest ∙ content_part 0 n rest (omega arith)
next_from-unfinished (Faulty f) rest part = absurd part

pub reads_unfinished : (start : ℕ) (h : Header) (rest : List ℕ) → IsUnfinished h rest → Reads start h rest [] (end_within h rest)
reads_unfinished start h rest part =
    subst (λ (n : Next). Ends start (size_of h + length rest) n (end_within h rest)) (sym (next_from-unfinished h rest part)) refl
