-- What is spelled as messages is read as these messages.
use Rattle.std.proofs.Common.{◌≡◌, ℕ, suc, ◌+◌, ◌-◌, ◌≤◌, Bool, true, false, cond, inl, inr, List, [], ◌∷◌, ◌++◌, length, take, drop, get_or, refl, sym, ◌∙◌, ap, subst, arith, append_assoc, append-nil, length-append}
use Rattle.std.specs.Prelude.{◌==◌, ◌&&◌, not, nat_le, nat_lt, map, position, Option, Some, None, slice_index}
use Rattle.std.specs.List.{list_any, list_all, flat_map, position_or_len, AllByRecursion}
use Rattle.std.proofs.lemmas.Bool.{cases_Bool, cond-true, cond-false, le-leb, lt-ltb, and_parts, or_from, leb-true, ne_eqb, eq-eqb, both_ways, not-true}
use Rattle.std.proofs.lemmas.List.{get_or_at, get_or_append_left, take_at, drop_at}
use Rattle.std.proofs.lemmas.List.Folds.{list_any_at}
use Rattle.std.proofs.lemmas.List.Sums.{position_or_len_is}
use Rattle.dap_frame.specs.declared.header.TheConstants.{MAX_HEADER, MAX_CONTENT}
use Rattle.dap_frame.specs.declared.line.Line.{Line}
use Rattle.dap_frame.specs.declared.line.Line.TheVariants.{Empty, Length, Other, Malformed}
use Rattle.dap_frame.specs.declared.header.LengthLine.{LengthLine}
use Rattle.dap_frame.specs.declared.header.Head.{Head}
use Rattle.dap_frame.specs.declared.header.HeaderFault.TheVariants.{TooLong}
use Rattle.dap_frame.specs.declared.header.Header.{Header}
use Rattle.dap_frame.specs.declared.header.Header.TheVariants.{Open, Ended, Faulty}
use Rattle.dap_frame.specs.Line.{is_visible, is_name, is_value, is_length_name, trimmed, length_line, field_of, field_at, field_line, text_line, line_of}
use Rattle.dap_frame.specs.Header.{HasNoLf, ended, ended_by, given, judged_by, judged, nothing_said}
use Rattle.dap_frame.specs.Stream.{Reads, whole}
use Rattle.dap_frame.specs.Part.{Passes}
use Rattle.dap_frame.specs.Grammar.{Field, field_text, whole_line, length_in, is_sound, lengths, IsField, Spelled, header_text, spelling, IsSpelled}
use Rattle.dap_frame.proofs.Lines.{is_lf, no_lf-append}
use Rattle.dap_frame.proofs.Reading.{passes_none, passes_then, passes_line, passes_content}

abbrev is_colon : ℕ → Bool
is_colon b = b == 58

abbrev pub is_text : ℕ → Bool
is_text b = not (b == 13) && not (b == 10)

-- A name and a value have no LF.
visible_no_lf : (name : List ℕ) → list_all is_visible name ≡ true → HasNoLf name
visible_no_lf [] all = refl
visible_no_lf (b ∷ name) all =
    let parts = and_parts (is_visible b) (list_all is_visible name) all in
    let low : 33 ≤ b = leb-true 33 b (and_parts (nat_le 33 b) (nat_le b 126) parts.0).0 in
    or_from (is_lf b) (list_any is_lf name) (ne_eqb b 10 (λ e. omega arith)) (visible_no_lf name parts.1)

value_no_lf : (value : List ℕ) → list_all is_text value ≡ true → HasNoLf value
value_no_lf [] all = refl
value_no_lf (b ∷ value) all =
    let parts = and_parts (is_text b) (list_all is_text value) all in
    or_from (is_lf b) (list_any is_lf value) (not-true (b == 10) (and_parts (not (b == 13)) (not (b == 10)) parts.0).1) (value_no_lf value parts.1)

-- a sound line has a name and a value
sound_parts : (name value : List ℕ) → is_sound (field_of name value) ≡ true → (is_name name ≡ true) × (is_value value ≡ true)
sound_parts name value sound =
    elim (cases_Bool (is_name name && is_value value)) [
      | inl both ↦ and_parts (is_name name) (is_value value) both
      | inr not_both ↦ absurd (let e = ap is_sound (cond-false (is_name name && is_value value) (cond (is_length_name name) (length_line (trimmed value)) Other) Malformed not_both) in cc)
    ]

field_no_lf : (f : Field) → IsField f → HasNoLf (field_text f)
field_no_lf f is =
    let parts : (is_name f.name ≡ true) × (is_value f.value ≡ true) = sound_parts f.name f.value is.sound in
    no_lf-append f.name (58 ∷ (f.value ++ 13 ∷ [])) (visible_no_lf f.name (and_parts (nat_lt 0 (length f.name)) (list_all is_visible f.name) parts.0).1)
    (no_lf-append f.value (13 ∷ []) (value_no_lf f.value parts.1) refl)

-- What a line says that ends with a CR.
line_of-text : (text : List ℕ) → line_of (text ++ 13 ∷ []) ≡ text_line text
line_of-text text =
    let line : List ℕ = text ++ 13 ∷ [] in
    let last : length line - 1 ≡ length text = let e = length-append text (13 ∷ []) in omega arith in
    let ends : slice_index line (length line - 1) ≡ 13 = ap (slice_index line) last ∙ get_or_at text 13 [] 0 (length text) refl in
    cond-true (slice_index line (length line - 1) == 13) (text_line (take (length line - 1) line)) Malformed (eq-eqb (slice_index line (length line - 1)) 13 ends)
    ∙ ap text_line (ap (λ (k : ℕ). take k line) last ∙ take_at text (13 ∷ []) (length text) refl)

-- The first colon ends the name.
colon_at : (name value : List ℕ) → list_any is_colon name ≡ false → position is_colon (name ++ 58 ∷ value) ≡ Some (length name)
colon_at name value none =
    let text : List ℕ = name ++ 58 ∷ value in
    let long : length text ≡ length name + suc (length value) = length-append name (58 ∷ value) in
    let place : position_or_len is_colon text ≡ length name =
    position_or_len_is is_colon text (length name) 0 (omega arith)
    (λ k below. ap is_colon (get_or_append_left name (58 ∷ value) 0 k below)
    ∙ elim (cases_Bool (is_colon (get_or name k 0))) [
      | inl colon ↦ absurd (both_ways (list_any is_colon name) none (list_any_at is_colon name k 0 below colon))
      | inr other ↦ other
    ])
    (λ _. ap is_colon (get_or_at name 58 value 0 (length name) refl)) in
    cond-true (nat_lt (position_or_len is_colon text) (length text)) (Some (position_or_len is_colon text)) None
    (lt-ltb (position_or_len is_colon text) (length text) (omega arith))
    ∙ ap Some place

text_line-field : (name value : List ℕ) → text_line (name ++ 58 ∷ value) ≡ field_line (name ++ 58 ∷ value)
text_line-field [] value = refl
text_line-field (b ∷ name) value = refl

line_of-field : (f : Field) → IsField f → line_of (field_text f) ≡ field_of f.name f.value
line_of-field f is =
    let text : List ℕ = f.name ++ 58 ∷ f.value in
    let behind : drop (length f.name + 1) text ≡ f.value =
    ap (drop (length f.name + 1)) (sym (append_assoc f.name (58 ∷ []) f.value))
    ∙ drop_at (f.name ++ 58 ∷ []) f.value (length f.name + 1) (length-append f.name (58 ∷ [])) in
    ap line_of (sym (append_assoc f.name (58 ∷ f.value) (13 ∷ [])))
    ∙ line_of-text text ∙ text_line-field f.name f.value
    ∙ ap (field_at text) (colon_at f.name f.value is.no_colon)
    ∙ ap (λ (name : List ℕ). field_of name (drop (length f.name + 1) text)) (take_at f.name (58 ∷ f.value) (length f.name) refl)
    ∙ ap (field_of f.name) behind

-- the length that was given
abbrev pub value_of : Option LengthLine → List ℕ
value_of None = []
value_of (Some given) = given.n ∷ []

-- A sound line leaves the header open, where no second length comes.
record StaysOpen (header : Header) (size : ℕ) (later : List ℕ) (n : ℕ) : Type 0 where
  head : Head
  is : header ≡ Open head
  size_is : head.size ≡ size
  once : value_of head.length ++ later ≡ n ∷ []

given_open : (head : Head) (size m n : ℕ) (later : List ℕ) (o : Option LengthLine) → value_of o ++ (m ∷ later) ≡ n ∷ [] → StaysOpen (given head size m o) size later n
given_open head size m n later None once = record {
  head = record { size = size; length = Some (record { at = head.size; n = m }) };
  is = refl;
  size_is = refl;
  once = once;
}
given_open head size m n later (Some before) once = absurd (let tail : m ∷ later ≡ [] = cc in cc)

sound_open : (head : Head) (size n : ℕ) (later : List ℕ) (line : Line) → is_sound line ≡ true → value_of head.length ++ (length_in line ++ later) ≡ n ∷ [] →
    StaysOpen (judged_by head size line) size later n
sound_open head size n later Empty sound once = absurd (cc)
sound_open head size n later (Length m) sound once = given_open head size m n later head.length once
sound_open head size n later Other sound once = record { head = record { size = size; length = head.length }; is = refl; size_is = refl; once = once }
sound_open head size n later Malformed sound once = absurd (cc)

-- The lines of a header are read.
record ReadsLines (head : Head) (fields : List Field) (rest : List ℕ) (n : ℕ) : Type 0 where
  reached : Head
  size_is : reached.size ≡ head.size + length (header_text fields)
  once : value_of reached.length ≡ n ∷ []
  passes : Passes (Open head) (header_text fields ++ rest) [] 0 (Open reached) rest

reads_lines : (fields : List Field) (head : Head) (rest : List ℕ) (n : ℕ) → AllByRecursion IsField fields → value_of head.length ++ lengths fields ≡ n ∷ [] →
    head.size + length (header_text fields) ≤ MAX_HEADER → ReadsLines head fields rest n
reads_lines [] head rest n each once short = record {
  reached = head;
  size_is = omega arith;
  once = sym (append-nil (value_of head.length)) ∙ once;
  passes = passes_none (Open head) rest;
}
reads_lines (f ∷ fields) head rest n each once short =
    let text : List ℕ = field_text f in
    let behind : List ℕ = header_text fields ++ rest in
    let line_long : length (whole_line f) ≡ length text + 1 = length-append text (10 ∷ []) in
    let all_long : length (header_text (f ∷ fields)) ≡ length (whole_line f) + length (header_text fields) = length-append (whole_line f) (header_text fields) in
    let size : ℕ = head.size + length text + 1 in
    let next : StaysOpen (judged_by head size (field_of f.name f.value)) size (lengths fields) n =
    sound_open head size n (lengths fields) (field_of f.name f.value) each.0.sound once in
    let judged_is : judged head text ≡ Open next.head = ap (judged_by head size) (line_of-field f each.0) ∙ next.is in
    let size_is : next.head.size ≡ size = next.size_is in
    let tail : ReadsLines next.head fields rest n = reads_lines fields next.head rest n each.1 next.once (omega arith) in
    let spelled : text ++ 10 ∷ behind ≡ header_text (f ∷ fields) ++ rest =
    sym (append_assoc text (10 ∷ []) behind) ∙ sym (append_assoc (whole_line f) (header_text fields) rest) in
    let first : Passes (Open head) (header_text (f ∷ fields) ++ rest) [] 0 (Open next.head) behind =
    subst (λ (bytes : List ℕ). Passes (Open head) bytes [] 0 (Open next.head) behind) spelled
    (subst (λ (h : Header). Passes (Open head) (text ++ 10 ∷ behind) [] 0 h behind) judged_is
    (passes_line head text behind (field_no_lf f each.0) (omega arith))) in
    record {
      reached = tail.reached;
      size_is = omega (arith, tail.size_is);
      once = tail.once;
      passes = passes_then (Open head) (Open next.head) (Open tail.reached) (header_text (f ∷ fields) ++ rest) behind rest [] [] 0 0 first tail.passes;
    }

-- The empty line ends the header.
ended_open : (head : Head) (size n : ℕ) (o : Option LengthLine) → value_of o ≡ n ∷ [] → n ≤ MAX_CONTENT → ended_by head size o ≡ Ended size n
ended_open head size n None once fits = absurd (cc)
ended_open head size n (Some given) once fits =
    let n_is : given.n ≡ n = cc in
    ap (ended size given.at) n_is ∙ cond-true (nat_le n MAX_CONTENT) (Ended size n) (Faulty (TooLong given.at n)) (le-leb n MAX_CONTENT fits)

-- A message is read.
pub reads_message : (m : Spelled) (rest : List ℕ) → IsSpelled m → (size : ℕ) × Passes (Open nothing_said) (spelling m ++ rest) (m.content ∷ []) size (Open nothing_said) rest
reads_message m rest is =
    let n : ℕ = length m.content in
    let behind : List ℕ = 13 ∷ 10 ∷ (m.content ++ rest) in
    let lines : ReadsLines nothing_said m.fields behind n = reads_lines m.fields nothing_said behind n is.each is.once (omega (arith, is.short)) in
    let size : ℕ = lines.reached.size + 1 + 1 in
    let size_is : lines.reached.size ≡ 0 + length (header_text m.fields) = lines.size_is in
    let blank : Passes (Open lines.reached) behind [] 0 (Ended size n) (m.content ++ rest) =
    subst (λ (h : Header). Passes (Open lines.reached) behind [] 0 h (m.content ++ rest)) (ended_open lines.reached size n lines.reached.length lines.once is.content)
    (passes_line lines.reached (13 ∷ []) (m.content ++ rest) refl (omega (arith, is.short))) in
    let spelled : header_text m.fields ++ behind ≡ spelling m ++ rest = sym (append_assoc (header_text m.fields) (13 ∷ 10 ∷ m.content) rest) in
    let way = passes_then (Open nothing_said) (Open lines.reached) (Open nothing_said) (header_text m.fields ++ behind) behind rest [] (m.content ∷ []) 0 (0 + (size + n)) lines.passes
    (passes_then (Open lines.reached) (Ended size n) (Open nothing_said) behind (m.content ++ rest) rest [] (m.content ∷ []) 0 (size + n) blank (passes_content size n m.content rest refl)) in
    (0 + (0 + (size + n)), subst (λ (bytes : List ℕ). Passes (Open nothing_said) bytes (m.content ∷ []) (0 + (0 + (size + n))) (Open nothing_said) rest) spelled way)

pub reads_messages : (start : ℕ) (messages : List Spelled) → AllByRecursion IsSpelled messages →
    Reads start (Open nothing_said) (flat_map spelling messages) (map (λ m. m.content) messages) whole
reads_messages start [] each = refl
reads_messages start (m ∷ messages) each =
    let rest : List ℕ = flat_map spelling messages in
    let way = reads_message m rest each.0 in
    let tail : Reads (start + way.0) (Open nothing_said) (rest ++ []) (map (λ m. m.content) messages) whole =
    subst (λ (bytes : List ℕ). Reads (start + way.0) (Open nothing_said) bytes (map (λ m. m.content) messages) whole) (sym (append-nil rest)) (reads_messages (start + way.0) messages each.1) in
    subst (λ (bytes : List ℕ). Reads start (Open nothing_said) bytes (m.content ∷ map (λ m. m.content) messages) whole) (append-nil (spelling m ++ rest))
    (way.1.on start (start + way.0) [] (map (λ m. m.content) messages) whole refl tail)
