-- A stream has one reading.
use Rattle.std.proofs.Common.{◌≡◌, ℕ, zero, suc, ◌+◌, ◌-◌, ◌<◌, ◌≤◌, inl, inr, List, [], ◌∷◌, length, take, drop, refl, sym, ◌∙◌, ap, subst, arith}
use Rattle.std.specs.Prelude.{nat_le, nat_lt, fold}
use Rattle.std.proofs.lemmas.Bool.{cases_Bool, cond-true, cond-false, leb-true}
use Rattle.std.proofs.lemmas.List.{length-drop, nil_from_length}
use Rattle.dap_frame.specs.declared.header.TheConstants.{MAX_HEADER}
use Rattle.dap_frame.specs.declared.header.Head.{Head}
use Rattle.dap_frame.specs.declared.header.HeaderFault.TheVariants.{Bad}
use Rattle.dap_frame.specs.declared.header.Header.{Header}
use Rattle.dap_frame.specs.declared.header.Header.TheVariants.{Open, Ended, Faulty}
use Rattle.dap_frame.specs.Header.{lines_of, size_of, judged, nothing_said, after_line, header_on}
use Rattle.dap_frame.specs.Stream.{Next, message, unfinished, fault, next_by, next_from, told, End, whole, failed, end_after, Ends, Reads, AreMessages}
use Rattle.dap_frame.proofs.Headers.{judged_size, fold-fault, fold_grows}

ends_one : (start n : ℕ) (next : Next) (e f : End) → Ends start n next e → Ends start n next f → e ≡ f
ends_one start n (message content size) e f here there = absurd here
ends_one start n unfinished e f here there = here ∙ sym there
ends_one start n (fault g) e f here there = here ∙ sym there

no_end : (start n : ℕ) (next : Next) (content : List ℕ) (size : ℕ) (e : End) → next ≡ message content size → Ends start n next e → ⊥
no_end start n next content size e is ends = subst (λ (m : Next). Ends start n m e) is ends

pub reads_one : (start : ℕ) (h : Header) (bytes : List ℕ) (cs ds : List (List ℕ)) (e f : End) →
    Reads start h bytes cs e → Reads start h bytes ds f → (cs ≡ ds) × (e ≡ f)
reads_one start h bytes [] [] e f here there =
    (refl, ends_one start (size_of h + length bytes) (next_from h bytes) e f here there)
reads_one start h bytes [] (d ∷ ds) e f here there = absurd (no_end start (size_of h + length bytes) (next_from h bytes) d there.0 e there.1 here)
reads_one start h bytes (c ∷ cs) [] e f here there = absurd (no_end start (size_of h + length bytes) (next_from h bytes) c here.0 f here.1 there)
reads_one start h bytes (c ∷ cs) (d ∷ ds) e f here there =
    let same : message c here.0 ≡ message d there.0 = sym here.1 ∙ there.1 in
    let content : c ≡ d = cc in
    let size : there.0 ≡ here.0 = cc in
    let on : Reads (start + size_of h + here.0) (Open nothing_said) (drop here.0 bytes) ds f =
    subst (λ (k : ℕ). Reads (start + size_of h + k) (Open nothing_said) (drop k bytes) ds f) size there.2 in
    let rest = reads_one (start + size_of h + here.0) (Open nothing_said) (drop here.0 bytes) cs ds e f here.2 on in
    (let tail : cs ≡ ds = rest.0 in cc, rest.1)

-- A header that ends has bytes.
ended_later : (head : Head) (lines : List (List ℕ)) (size n : ℕ) → fold after_line (Open head) lines ≡ Ended size n → head.size < size
ended_later head [] size n is = absurd (cc)
ended_later head (line ∷ lines) size n is =
    elim (judged_size head line) [
      | inl sized ↦ omega (arith, sized, fold_grows (judged head line) lines size n is)
      | inr faulty ↦ absurd (let e : fold after_line (judged head line) lines ≡ Faulty faulty.0 = ap (λ (h : Header). fold after_line h lines) faulty.1 ∙ fold-fault faulty.0 lines in cc)
    ]

-- A message that comes next has bytes, and they are there.
message_fits : (bytes content : List ℕ) (k : ℕ) (h : Header) → header_on (Open nothing_said) bytes ≡ h → next_by 0 bytes h ≡ message content k → (0 < k) × (k ≤ length bytes)
message_fits bytes content k (Open head) is next =
    elim (cases_Bool (nat_lt (0 + length bytes) MAX_HEADER)) [
      | inl short ↦ absurd (let e = sym (cond-true (nat_lt (0 + length bytes) MAX_HEADER) unfinished (fault (Bad 0)) short) ∙ next in cc)
      | inr long ↦ absurd (let e = sym (cond-false (nat_lt (0 + length bytes) MAX_HEADER) unfinished (fault (Bad 0)) long) ∙ next in cc)
    ]
message_fits bytes content k (Ended size n) is next =
    let later : 0 < size = ended_later nothing_said (lines_of (take (MAX_HEADER - 0) bytes)) size n is in
    let skip : ℕ = size - 0 in
    elim (cases_Bool (nat_le (skip + n) (length bytes))) [
      | inl fits ↦
          let e : message (take n (drop skip bytes)) (skip + n) ≡ message content k =
          sym (cond-true (nat_le (skip + n) (length bytes)) (message (take n (drop skip bytes)) (skip + n)) unfinished fits) ∙ next in
          let size_is : skip + n ≡ k = cc in
          (omega arith, omega (arith, leb-true (skip + n) (length bytes) fits))
      | inr short ↦ absurd (let e = sym (cond-false (nat_le (skip + n) (length bytes)) (message (take n (drop skip bytes)) (skip + n)) unfinished short) ∙ next in cc)
    ]
message_fits bytes content k (Faulty f) is next = absurd (cc)

-- some reading, for bytes of at most m
abbrev Read : ℕ → List ℕ → Type 0
Read start bytes = (contents : List (List ℕ)) × (end : End) × Reads start (Open nothing_said) bytes contents end

read_next : (start m : ℕ) (bytes : List ℕ) (next : Next) → length bytes ≤ suc m → next_from (Open nothing_said) bytes ≡ next →
    ((at : ℕ) (rest : List ℕ) → length rest ≤ m → Read at rest) → Read start bytes
read_next start m bytes (message content size) fits is on =
    let there : (0 < size) × (size ≤ length bytes) = message_fits bytes content size (header_on (Open nothing_said) bytes) refl is in
    let long : length (drop size bytes) ≡ length bytes - size = length-drop size bytes in
    let rest : Read (start + 0 + size) (drop size bytes) = on (start + 0 + size) (drop size bytes) (omega arith) in
    (content ∷ rest.0, rest.1, (size, is, rest.2))
read_next start m bytes unfinished fits is on =
    ([], end_after (0 + length bytes), subst (λ (n : Next). Ends start (0 + length bytes) n (end_after (0 + length bytes))) (sym is) refl)
read_next start m bytes (fault f) fits is on =
    ([], failed (told start f), subst (λ (n : Next). Ends start (0 + length bytes) n (failed (told start f))) (sym is) refl)

read_all : (m start : ℕ) (bytes : List ℕ) → length bytes ≤ m → Read start bytes
read_all zero start bytes fits = read_next start 0 bytes (next_from (Open nothing_said) bytes) (omega arith) refl
    (λ at rest short. ([], whole, nothing at rest (nil_from_length rest (omega arith))))
  where
    nothing : (at : ℕ) (rest : List ℕ) → rest ≡ [] → Reads at (Open nothing_said) rest [] whole
    nothing at rest is = subst (λ (xs : List ℕ). Reads at (Open nothing_said) xs [] whole) (sym is) refl
read_all (suc m) start bytes fits = read_next start m bytes (next_from (Open nothing_said) bytes) fits refl (read_all m)

pub some_reading : (stream : List ℕ) → (contents : List (List ℕ)) × (end : End) × AreMessages stream contents end
some_reading stream = read_all (length stream) 0 stream (omega arith)
