-- A scan, step by step.
use Rattle.std.proofs.Common.{◌≡◌, ℕ, ◌+◌, ◌-◌, ◌%◌, ◌<◌, ◌≤◌, ◌^◌, List, [], ◌∷◌, ◌++◌, length, take, drop, sym, ◌∙◌, ap, subst, arith, append_assoc, mod-eq_of_lt}
use Rattle.std.specs.Prelude.{Some, None, position, min, Result, Ok, Err, IfOk}
use Rattle.std.proofs.lemmas.List.{drop-drop, length-drop, length-take-le, take_min, take_rest, take-append-drop, take_more, append-nil}
use Rattle.dap_frame.specs.declared.header.TheConstants.{MAX_HEADER}
use Rattle.dap_frame.specs.declared.header.Head.{Head}
use Rattle.dap_frame.specs.declared.header.Header.{Header}
use Rattle.dap_frame.specs.declared.header.Header.TheVariants.{Open, Ended, Faulty}
use Rattle.dap_frame.specs.declared.header.HeaderFault.{HeaderFault}
use Rattle.dap_frame.specs.declared.header.HeaderFault.TheVariants.{Bad}
use Rattle.dap_frame.specs.declared.scan.Part.{Part}
use Rattle.dap_frame.specs.declared.scan.Part.TheVariants.{Message, Unfinished}
use Rattle.dap_frame.specs.declared.scan.Scan.{Scan}
use Rattle.dap_frame.specs.Header.{HasNoLf, size_of, IsBounded, judged, nothing_said}
use Rattle.dap_frame.specs.Part.{Passes, Stops}
use Rattle.dap_frame.specs.Scan.{HasNoWholeLine, weight, HasRead, IsWhole, IsRest, IsPart, IsContentPart, contents, places, IsPlaced, ArePlaced, HasScanned, IsScan}
use Rattle.dap_frame.proofs.Headers.{size_most, judged_size, judged_bounded}
use Rattle.dap_frame.proofs.Lines.{is_lf, IsLineAt, line_at, line_at-take, line_cut, no_line, take_none}
use Rattle.dap_frame.proofs.Reading.{passes_none, passes_then, passes_line, passes_content, passes_full, passes_fault, passes_on}

alone_none : (header : Header) (bytes : List ℕ) → Passes header (take 0 bytes) [] 0 header []
alone_none header bytes = subst (λ (xs : List ℕ). Passes header xs [] 0 header []) (sym (take_none bytes)) (passes_none header [])

pub read_none : (header : Header) (bytes : List ℕ) → IsBounded header → HasRead header bytes header 0
read_none header bytes most = record {
  passes = passes_none header bytes;
  alone = alone_none header bytes;
  within = omega arith;
  sizes = omega arith;
  most = most;
  progress = omega arith;
}

weight_most : (header : Header) → weight header ≤ 1
weight_most (Open head) = omega arith
weight_most (Ended size n) = omega arith
weight_most (Faulty f) = omega arith

-- One more line, found in the header's first 4,096 bytes.
pub read_line : (header : Header) (bytes : List ℕ) (head : Head) (at end : ℕ) → HasRead header bytes (Open head) at →
    position is_lf (take (min (MAX_HEADER - head.size) (length (drop at bytes))) (drop at bytes)) ≡ Some end →
    HasRead header bytes (judged head (take end (drop at bytes))) (at + end + 1)
read_line header bytes head at end so_far found =
    let rest : List ℕ = drop at bytes in
    let w : ℕ = min (MAX_HEADER - head.size) (length rest) in
    let line : IsLineAt rest end = line_at-take w rest end (line_at (take w rest) end found) in
    let room : length (take w rest) ≡ w = length-take-le w rest (omega arith) in
    let here : end < length (take w rest) = (line_at (take w rest) end found).within in
    let text : List ℕ = take end rest in
    let long : length text ≡ end = length-take-le end rest (omega (arith, line.within)) in
    let most : head.size ≤ MAX_HEADER = so_far.most in
    let left : length rest ≡ length bytes - at = length-drop at bytes in
    let behind : drop (end + 1) rest ≡ drop (at + end + 1) bytes = drop-drop (end + 1) at bytes ∙ (let e : at + (end + 1) ≡ at + end + 1 = omega arith in ap (λ (k : ℕ). drop k bytes) e) in
    let step : Passes (Open head) rest [] 0 (judged head text) (drop (at + end + 1) bytes) =
    subst (λ (xs : List ℕ). Passes (Open head) rest [] 0 (judged head text) xs) behind
    (subst (λ (xs : List ℕ). Passes (Open head) xs [] 0 (judged head text) (drop (end + 1) rest)) (line_cut rest end line)
    (passes_line head text (drop (end + 1) rest) line.none_before (omega arith))) in
    let size : size_of (judged head text) ≤ head.size + length text + 1 = size_most (judged head text) (head.size + length text + 1) (judged_size head text) in
    let cut : text ++ 10 ∷ [] ≡ take (end + 1) rest = sym (take_more rest end 0 line.within ∙ ap (λ (b : ℕ). text ++ b ∷ []) line.here) in
    let only : Passes (Open head) (take (end + 1) rest) [] 0 (judged head text) [] =
    subst (λ (xs : List ℕ). Passes (Open head) xs [] 0 (judged head text) []) cut (passes_line head text [] line.none_before (omega arith)) in
    let place : at + (end + 1) ≡ at + end + 1 = omega arith in
    record {
      passes = passes_then header (Open head) (judged head text) bytes rest (drop (at + end + 1) bytes) [] [] 0 0 so_far.passes step;
      alone = subst (λ (k : ℕ). Passes header (take k bytes) [] 0 (judged head text) []) place
          (passes_on header (Open head) (judged head text) bytes at (end + 1) [] [] 0 0 so_far.within so_far.alone only);
      within = omega (arith, line.within, so_far.within);
      sizes = omega (arith, so_far.sizes);
      most = judged_bounded head text (omega arith);
      progress = omega (arith, weight_most (judged head text));
    }

-- No further line.
pub no_whole_line : (head : Head) (rest : List ℕ) → position is_lf (take (min (MAX_HEADER - head.size) (length rest)) rest) ≡ None →
    HasNoWholeLine (Open head) rest
no_whole_line head rest none =
    subst HasNoLf (take_min (MAX_HEADER - head.size) rest) (no_line (take (min (MAX_HEADER - head.size) (length rest)) rest) none)

-- the slice that is searched for an LF
pub window_is : (bytes : List ℕ) (at m room : ℕ) → m ≡ min room (length (take (length bytes - at) (drop at bytes))) →
    take m (take (length bytes - at) (drop at bytes)) ≡ take (min room (length (drop at bytes))) (drop at bytes)
window_is bytes at m room e =
    let is : take (length bytes - at) (drop at bytes) ≡ drop at bytes = take_rest bytes at in
    ap (λ (k : ℕ). take k (take (length bytes - at) (drop at bytes))) (e ∙ ap (λ (xs : List ℕ). min room (length xs)) is)
    ∙ ap (take (min room (length (drop at bytes)))) is

pub if_ok_weaker : {T E : Type 0} (r : Result T E) (P Q : T → Type 0) → ((x : T) → P x → Q x) → IfOk r P → IfOk r Q
if_ok_weaker (Ok x) P Q f p = f x p
if_ok_weaker (Err e) P Q f p = p

-- What whole lines lead to, and a content or a part of it behind them.
pub part_from_content : (header : Header) (bytes : List ℕ) (size n used : ℕ) (part : Part) → HasRead header bytes (Ended size n) used →
    IsContentPart size n used (drop used bytes) part → IsPart header bytes part
part_from_content header bytes size n used (Message content whole last) read is =
    let rest : List ℕ = drop used bytes in
    let left : length rest ≡ length bytes - used = length-drop used bytes in
    let long : length content.items ≡ n = ap length is.0 ∙ length-take-le n rest is.1 in
    let cut : content.items ++ drop n rest ≡ rest = ap (λ (xs : List ℕ). xs ++ drop n rest) is.0 ∙ take-append-drop n rest in
    let behind : drop n rest ≡ drop last bytes = drop-drop n used bytes ∙ ap (λ (k : ℕ). drop k bytes) (sym is.3) in
    let step : Passes (Ended size n) rest (content.items ∷ []) whole (Open nothing_said) (drop last bytes) =
    subst (λ (k : ℕ). Passes (Ended size n) rest (content.items ∷ []) k (Open nothing_said) (drop last bytes)) (sym is.2)
    (subst (λ (xs : List ℕ). Passes (Ended size n) rest (content.items ∷ []) (size + n) (Open nothing_said) xs) behind
    (subst (λ (xs : List ℕ). Passes (Ended size n) xs (content.items ∷ []) (size + n) (Open nothing_said) (drop n rest)) cut
    (passes_content size n content.items (drop n rest) long))) in
    let all : 0 + whole ≡ whole = omega arith in
    let only : Passes (Ended size n) (take n rest) (content.items ∷ []) (size + n) (Open nothing_said) [] =
    subst (λ (xs : List ℕ). Passes (Ended size n) xs (content.items ∷ []) (size + n) (Open nothing_said) []) (append-nil content.items ∙ is.0)
    (passes_content size n content.items [] long) in
    let sum : 0 + (size + n) ≡ whole = (let e : 0 + (size + n) ≡ size + n = omega arith in e) ∙ sym is.2 in
    record {
      passes = subst (λ (k : ℕ). Passes header bytes (content.items ∷ []) k (Open nothing_said) (drop last bytes)) all
          (passes_then header (Ended size n) (Open nothing_said) bytes rest (drop last bytes) [] (content.items ∷ []) 0 whole read.passes step);
      alone = subst (λ (k : ℕ). Passes header (take k bytes) (content.items ∷ []) whole (Open nothing_said) []) (sym is.3)
          (subst (λ (k : ℕ). Passes header (take (used + n) bytes) (content.items ∷ []) k (Open nothing_said) []) sum
          (passes_on header (Ended size n) (Open nothing_said) bytes used n [] (content.items ∷ []) 0 (size + n) read.within read.alone only));
      behind = omega (arith, is.3);
      within = omega (arith, is.1, is.3, read.within);
      sizes = omega (arith, is.2, is.3, read.sizes);
      progress = omega (arith, read.progress, is.3);
    }
part_from_content header bytes size n used (Unfinished reached rest) read is =
    let left : length (drop used bytes) ≡ length bytes - used = length-drop used bytes in
    let at_end : Passes header bytes [] 0 reached rest.items =
    subst (λ (h : Header). Passes header bytes [] 0 h rest.items) (sym is.0)
    (subst (λ (xs : List ℕ). Passes header bytes [] 0 (Ended size n) xs) (sym is.1) read.passes) in
    record {
      passes = at_end;
      stops = subst (λ (h : Header). Stops h rest.items) (sym is.0) (subst (λ (xs : List ℕ). length xs < n) (sym is.1) is.2);
      sizes =
          let size_is : size_of reached ≡ size = ap size_of is.0 in
          let length_is : length rest.items ≡ length (drop used bytes) = ap length is.1 in
          omega (arith, read.sizes, read.within);
      most = subst IsBounded (sym is.0) read.most;
    }

-- No line ends in the header's first 4,096 bytes.
pub rest_from_full : (header : Header) (bytes : List ℕ) (head : Head) (used : ℕ) (rest : List ℕ) → HasRead header bytes (Open head) used →
    HasNoWholeLine (Open head) (drop used bytes) → MAX_HEADER ≤ head.size + length (drop used bytes) → rest ≡ [] →
    IsRest header bytes (Faulty (Bad 0)) rest
rest_from_full header bytes head used rest read none full empty = record {
  passes = subst (λ (xs : List ℕ). Passes header bytes [] 0 (Faulty (Bad 0)) xs) (sym empty)
      (passes_then header (Open head) (Faulty (Bad 0)) bytes (drop used bytes) [] [] [] 0 0 read.passes (passes_full head (drop used bytes) none full));
  stops = tt;
  sizes = let e : length rest ≡ 0 = ap length empty in omega arith;
  most = tt;
}

pub rest_from_fault : (header : Header) (bytes : List ℕ) (f : HeaderFault) (used : ℕ) (rest : List ℕ) → HasRead header bytes (Faulty f) used → rest ≡ [] →
    IsRest header bytes (Faulty f) rest
rest_from_fault header bytes f used rest read empty = record {
  passes = passes_then header (Faulty f) (Faulty f) bytes (drop used bytes) rest [] [] 0 0 read.passes (passes_fault f (drop used bytes) rest);
  stops = tt;
  sizes = let e : length rest ≡ 0 = ap length empty in omega arith;
  most = tt;
}

pub scanned_none : (origin : ℕ) (header : Header) (bytes : List ℕ) → IsBounded header → HasScanned origin header bytes [] [] 0 header 0
scanned_none origin header bytes most = record {
  passes = passes_none header bytes;
  alone = alone_none header bytes;
  within = omega arith;
  sizes = omega arith;
  most = most;
  placed = λ short. tt;
}

-- One more message has its place.
placed_more : (origin : ℕ) (header : Header) (rest bytes : List ℕ) (before messages : List (List ℕ)) (places : List ℕ) (content : List ℕ) (place : ℕ) →
    ArePlaced origin header rest bytes before messages places → IsPlaced origin header rest bytes (before ++ messages) content place →
    ArePlaced origin header rest bytes before (messages ++ content ∷ []) (places ++ place ∷ [])
placed_more origin header rest bytes before [] [] content place so_far more =
    (subst (λ (ms : List (List ℕ)). IsPlaced origin header rest bytes ms content place) (append-nil before) more, tt)
placed_more origin header rest bytes before [] (p ∷ ps) content place so_far more = absurd so_far
placed_more origin header rest bytes before (m ∷ ms) [] content place so_far more = absurd so_far
placed_more origin header rest bytes before (m ∷ ms) (p ∷ ps) content place so_far more = (
  so_far.0,
  placed_more origin header rest bytes (before ++ m ∷ []) ms ps content place so_far.1
      (subst (λ (ns : List (List ℕ)). IsPlaced origin header rest bytes ns content place) (sym (append_assoc before (m ∷ []) ms)) more),
)

-- One more message.
pub scanned_message : (origin : ℕ) (header : Header) (bytes : List ℕ) (messages : List (List ℕ)) (places : List ℕ) (start : ℕ) (reached : Header) (at : ℕ) (content : List ℕ) (size used place : ℕ) →
    HasScanned origin header bytes messages places start reached at → IsWhole reached (drop at bytes) content size used →
    (origin + length bytes < 2 ^ 64 → place + length content ≡ origin + (at + used)) →
    HasScanned origin header bytes (messages ++ content ∷ []) (places ++ place ∷ []) (start + size) (Open nothing_said) (at + used)
scanned_message origin header bytes messages places start reached at content size used place so_far whole ends =
    let left : length (drop at bytes) ≡ length bytes - at = length-drop at bytes in
    let within : at + used ≤ length bytes = omega (arith, so_far.within, whole.within) in
    let alone : Passes header (take (at + used) bytes) (messages ++ content ∷ []) (start + size) (Open nothing_said) [] =
    passes_on header reached (Open nothing_said) bytes at used messages (content ∷ []) start size so_far.within so_far.alone whole.alone in
    record {
      passes = subst (λ (xs : List ℕ). Passes header bytes (messages ++ content ∷ []) (start + size) (Open nothing_said) xs) (drop-drop used at bytes)
          (passes_then header reached (Open nothing_said) bytes (drop at bytes) (drop used (drop at bytes)) messages (content ∷ []) start size so_far.passes whole.passes);
      alone = alone;
      within = within;
      sizes = omega (arith, so_far.sizes, whole.sizes);
      most = omega arith;
      placed = λ short.
          placed_more origin header [] bytes [] messages places content place (so_far.placed short)
          (record { used = at + used; size = start + size; within = within; ends = ends short; passes = alone });
    }

-- What comes after the last message.
pub scan_from_rest : (origin : ℕ) (header : Header) (bytes : List ℕ) (reached : Header) (at : ℕ) (scan : Scan) →
    HasScanned origin header bytes (contents scan.messages.items) (places scan.messages.items) scan.start reached at →
    IsRest reached (drop at bytes) scan.header scan.rest.items → IsScan origin header bytes scan
scan_from_rest origin header bytes reached at scan so_far is =
    let left : length (drop at bytes) ≡ length bytes - at = length-drop at bytes in
    let same : scan.start + 0 ≡ scan.start = omega arith in
    record {
      passes = subst (λ (ms : List (List ℕ)). Passes header bytes ms scan.start scan.header scan.rest.items) (append-nil (contents scan.messages.items))
          (subst (λ (k : ℕ). Passes header bytes (contents scan.messages.items ++ []) k scan.header scan.rest.items) same
          (passes_then header reached scan.header bytes (drop at bytes) scan.rest.items (contents scan.messages.items) [] scan.start 0 so_far.passes is.passes));
      stops = is.stops;
      sizes = omega (arith, so_far.within, so_far.sizes, is.sizes);
      most = is.most;
      placed = λ below. so_far.placed;
    }

-- The place of a content's first byte, from its last one's.
pub place_of_end : (origin all at long place : ℕ) → at ≤ all → long ≤ at → place ≡ (origin + (at - long)) % 2 ^ 64 → origin + all < 2 ^ 64 → place + long ≡ origin + at
place_of_end origin all at long place within behind is short =
    let same : (origin + (at - long)) % 2 ^ 64 ≡ origin + (at - long) = mod-eq_of_lt (omega arith) in
    let e : place ≡ origin + (at - long) = is ∙ same in
    omega arith

-- A sum that doesn't wrap.
pub sum_below : (a b bound sum : ℕ) → b ≤ bound → sum ≡ (a + b) % 2 ^ 64 → a + bound < 2 ^ 64 → sum ≡ a + b
sum_below a b bound sum within is short = is ∙ mod-eq_of_lt (omega arith)
