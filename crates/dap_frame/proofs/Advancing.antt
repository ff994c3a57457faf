-- What a piece makes of what was read before it.
use Rattle.std.proofs.Common.{◌≡◌, ℕ, ◌+◌, ◌-◌, ◌<◌, ◌≤◌, ◌^◌, List, [], ◌∷◌, ◌++◌, length, take, drop, sym, ◌∙◌, ap, subst, arith, append_assoc, length-append}
use Rattle.std.specs.Prelude.{Some, None, position, min}
use Rattle.std.proofs.lemmas.List.{length-drop, length-take-le, take_min, take_all, take_more, take-append-drop, append-nil}
use Rattle.dap_frame.specs.declared.header.TheConstants.{MAX_HEADER}
use Rattle.dap_frame.specs.declared.header.Head.{Head}
use Rattle.dap_frame.specs.declared.header.HeaderFault.TheVariants.{Bad}
use Rattle.dap_frame.specs.declared.header.Header.{Header}
use Rattle.dap_frame.specs.declared.header.Header.TheVariants.{Open, Ended, Faulty}
use Rattle.dap_frame.specs.declared.scan.Placed.{Placed}
use Rattle.dap_frame.specs.declared.scan.Scan.{Scan}
use Rattle.dap_frame.specs.Header.{HasNoLf, size_of, IsBounded, judged, nothing_said}
use Rattle.dap_frame.specs.Part.{Passes, Stops, IsLinePart}
use Rattle.dap_frame.specs.Scan.{contents, places, IsPlaced, ArePlaced, LeadsTo, IsScan}
use Rattle.dap_frame.specs.Advance.{FillsContent}
use Rattle.dap_frame.proofs.Headers.{size_most, judged_size}
use Rattle.dap_frame.proofs.Lines.{is_lf, IsLineAt, line_at, line_at-take, line_cut, no_line, take-append, take_split, no_lf-append}
use Rattle.dap_frame.proofs.Reading.{passes_then, passes_behind, passes_line, passes_content, passes_full}

-- What a piece ends behind a cut of it, after what its front leads to.
placed_behind : (origin : ℕ) (header next : Header) (rest piece : List ℕ) (cut : ℕ) (first before messages : List (List ℕ)) (size : ℕ) (places : List ℕ) →
    cut ≤ length piece → Passes header (rest ++ take cut piece) first size next [] →
    ArePlaced (origin + cut) next [] (drop cut piece) before messages places → ArePlaced origin header rest piece (first ++ before) messages places
placed_behind origin header next rest piece cut first before [] size [] fits way placed = tt
placed_behind origin header next rest piece cut first before [] size (p ∷ ps) fits way placed = absurd placed
placed_behind origin header next rest piece cut first before (m ∷ ms) size [] fits way placed = absurd placed
placed_behind origin header next rest piece cut first before (m ∷ ms) size (p ∷ ps) fits way placed =
    let used : ℕ = placed.0.used in
    let front : List ℕ = rest ++ take cut piece in
    let tail : List ℕ = take used (drop cut piece) in
    let left : length (drop cut piece) ≡ length piece - cut = length-drop cut piece in
    let joined : Passes header (front ++ tail) (first ++ (before ++ m ∷ [])) (size + placed.0.size) (Open nothing_said) [] =
    passes_then header next (Open nothing_said) (front ++ tail) tail [] first (before ++ m ∷ []) size placed.0.size
    (passes_behind header next front tail first size way) placed.0.passes in
    let bytes_are : front ++ tail ≡ rest ++ take (cut + used) piece =
    append_assoc rest (take cut piece) tail ∙ ap (λ (xs : List ℕ). rest ++ xs) (sym (take_split cut used piece fits)) in
    let messages_are : first ++ (before ++ m ∷ []) ≡ (first ++ before) ++ m ∷ [] = sym (append_assoc first before (m ∷ [])) in
    let place_is : origin + cut + used ≡ origin + (cut + used) = omega arith in
    let here : IsPlaced origin header rest piece (first ++ before) m p = record {
      used = cut + used;
      size = size + placed.0.size;
      within = omega (arith, placed.0.within);
      ends = placed.0.ends ∙ place_is;
      passes = subst (λ (ns : List (List ℕ)). Passes header (rest ++ take (cut + used) piece) ns (size + placed.0.size) (Open nothing_said) []) messages_are
          (subst (λ (xs : List ℕ). Passes header xs (first ++ (before ++ m ∷ [])) (size + placed.0.size) (Open nothing_said) []) bytes_are joined);
    } in (
      here,
      subst (λ (ns : List (List ℕ)). ArePlaced origin header rest piece ns ms ps) messages_are
          (placed_behind origin header next rest piece cut first (before ++ m ∷ []) ms size ps fits way placed.1),
    )

-- The front of a piece fills the content, and a scan reads the rest.
pub fills : (origin behind : ℕ) (size n : ℕ) (rest piece : List ℕ) (scan : Scan) → length rest < n → n - length rest ≤ length piece →
    (origin + length piece < 2 ^ 64 → behind ≡ origin + (n - length rest)) → IsScan behind (Open nothing_said) (drop (n - length rest) piece) scan →
    FillsContent origin (Ended size n) rest piece (n - length rest) (record { messages = scan.messages; start = scan.start + (size + n); header = scan.header; rest = scan.rest })
fills origin behind_at size n rest piece scan part fits behind_is read =
    let missing : ℕ = n - length rest in
    let content : List ℕ = rest ++ take missing piece in
    let behind : List ℕ = drop missing piece in
    let front : length (take missing piece) ≡ missing = length-take-le missing piece fits in
    let long : length content ≡ n = length-append rest (take missing piece) ∙ (let e : length rest + length (take missing piece) ≡ n = omega arith in e) in
    let whole : content ++ behind ≡ rest ++ piece = append_assoc rest (take missing piece) behind ∙ ap (λ (xs : List ℕ). rest ++ xs) (take-append-drop missing piece) in
    let all : length (rest ++ piece) ≡ length rest + length piece = length-append rest piece in
    let left : length behind ≡ length piece - missing = length-drop missing piece in
    let size_is : size + n + scan.start ≡ scan.start + (size + n) = omega arith in
    let way : Passes (Ended size n) (rest ++ piece) (content ∷ contents scan.messages.items) (size + n + scan.start) scan.header scan.rest.items =
    subst (λ (bytes : List ℕ). Passes (Ended size n) bytes (content ∷ contents scan.messages.items) (size + n + scan.start) scan.header scan.rest.items) whole
    (passes_then (Ended size n) (Open nothing_said) scan.header (content ++ behind) behind scan.rest.items (content ∷ []) (contents scan.messages.items) (size + n) scan.start
    (passes_content size n content behind long) read.passes) in
    let filled : Passes (Ended size n) content (content ∷ []) (size + n) (Open nothing_said) [] =
    subst (λ (xs : List ℕ). Passes (Ended size n) xs (content ∷ []) (size + n) (Open nothing_said) []) (append-nil content) (passes_content size n content [] long) in
    record {
      leads = record {
        passes = subst (λ (k : ℕ). Passes (Ended size n) (rest ++ piece) (content ∷ contents scan.messages.items) k scan.header scan.rest.items) size_is way;
        stops = read.stops;
        sizes = omega (arith, read.sizes);
        most = read.most;
        placed = λ below short. (
          record { used = missing; size = size + n; within = fits; ends = omega arith; passes = filled },
          placed_behind origin (Ended size n) (Open nothing_said) rest piece missing (content ∷ []) [] (contents scan.messages.items) (size + n) (places scan.messages.items) fits filled
              (subst (λ (k : ℕ). ArePlaced k (Open nothing_said) [] behind [] (contents scan.messages.items) (places scan.messages.items)) (behind_is short)
              (read.placed (omega arith) (let at = behind_is short in omega arith))),
        );
      };
      within = fits;
    }

-- the room that is left for a line in the header's first bytes
abbrev pub room_left : Head → List ℕ → ℕ
room_left head rest = MAX_HEADER - head.size - length rest

-- an LF that is found lies in the piece
pub end_inside : (piece : List ℕ) (w end : ℕ) → position is_lf (take w piece) ≡ Some end → end + 1 ≤ length piece
end_inside piece w end found =
    let there : IsLineAt piece end = line_at-take w piece end (line_at (take w piece) end found) in
    omega (arith, there.within)

-- A line ends in the piece, and a scan reads what follows.
pub line_ends : (origin behind : ℕ) (head : Head) (rest piece : List ℕ) (end : ℕ) (line : List ℕ) (next : Header) (scan : Scan) → IsLinePart head rest →
    position is_lf (take (min (room_left head rest) (length piece)) piece) ≡ Some end → line ≡ rest ++ take end piece → next ≡ judged head line →
    (origin + length piece < 2 ^ 64 → behind ≡ origin + (end + 1)) → IsScan behind next (drop (end + 1) piece) scan →
    LeadsTo origin (Open head) rest piece (contents scan.messages.items) (places scan.messages.items) scan
line_ends origin behind_at head rest piece end line next scan part found line_is next_is behind_is read =
    let w : ℕ = min (room_left head rest) (length piece) in
    let there : IsLineAt piece end = line_at-take w piece end (line_at (take w piece) end found) in
    let room : length (take w piece) ≡ w = length-take-le w piece (omega arith) in
    let here : end < length (take w piece) = (line_at (take w piece) end found).within in
    let text : List ℕ = rest ++ take end piece in
    let behind : List ℕ = drop (end + 1) piece in
    let front : length (take end piece) ≡ end = length-take-le end piece (omega (arith, there.within)) in
    let long : length text ≡ length rest + end = length-append rest (take end piece) ∙ ap (λ (k : ℕ). length rest + k) front in
    let left : length behind ≡ length piece - (end + 1) = length-drop (end + 1) piece in
    let all : length (rest ++ piece) ≡ length rest + length piece = length-append rest piece in
    let none : HasNoLf text = no_lf-append rest (take end piece) part.no_lf there.none_before in
    let within : head.size + length text < MAX_HEADER = omega (arith, part.short) in
    let whole : text ++ 10 ∷ behind ≡ rest ++ piece = append_assoc rest (take end piece) (10 ∷ behind) ∙ ap (λ (xs : List ℕ). rest ++ xs) (line_cut piece end there) in
    let is : judged head text ≡ next = ap (judged head) (sym line_is) ∙ sym next_is in
    let size : size_of (judged head text) ≤ head.size + length text + 1 = size_most (judged head text) (head.size + length text + 1) (judged_size head text) in
    let next_size : size_of (judged head text) ≡ size_of next = ap size_of is in
    let first : Passes (Open head) (rest ++ piece) [] 0 next behind =
    subst (λ (h : Header). Passes (Open head) (rest ++ piece) [] 0 h behind) is
    (subst (λ (bytes : List ℕ). Passes (Open head) bytes [] 0 (judged head text) behind) whole (passes_line head text behind none within)) in
    let start_is : 0 + scan.start ≡ scan.start = omega arith in
    let cut : text ++ 10 ∷ [] ≡ rest ++ take (end + 1) piece =
    append_assoc rest (take end piece) (10 ∷ [])
    ∙ ap (λ (xs : List ℕ). rest ++ xs) (sym (take_more piece end 0 there.within ∙ ap (λ (b : ℕ). take end piece ++ b ∷ []) there.here)) in
    let only : Passes (Open head) (rest ++ take (end + 1) piece) [] 0 next [] =
    subst (λ (h : Header). Passes (Open head) (rest ++ take (end + 1) piece) [] 0 h []) is
    (subst (λ (xs : List ℕ). Passes (Open head) xs [] 0 (judged head text) []) cut (passes_line head text [] none within)) in
    let inside : end + 1 ≤ length piece = omega (arith, there.within) in
    record {
      passes = subst (λ (k : ℕ). Passes (Open head) (rest ++ piece) (contents scan.messages.items) k scan.header scan.rest.items) start_is
          (passes_then (Open head) next scan.header (rest ++ piece) behind scan.rest.items [] (contents scan.messages.items) 0 scan.start first read.passes);
      stops = read.stops;
      sizes = omega (arith, read.sizes, there.within);
      most = read.most;
      placed = λ below short.
          placed_behind origin (Open head) next rest piece (end + 1) [] [] (contents scan.messages.items) 0 (places scan.messages.items) inside only
          (subst (λ (k : ℕ). ArePlaced k next [] behind [] (contents scan.messages.items) (places scan.messages.items)) (behind_is short)
          (read.placed (omega arith) (let at = behind_is short in omega arith)));
    }

-- No line ends in the piece, and there is room for more.
pub line_grows : (head : Head) (rest piece : List ℕ) → IsLinePart head rest →
    position is_lf (take (min (room_left head rest) (length piece)) piece) ≡ None → length piece < room_left head rest → IsLinePart head (rest ++ piece)
line_grows head rest piece part none short =
    let w : ℕ = min (room_left head rest) (length piece) in
    let no_lf : HasNoLf piece = subst HasNoLf (take_all w piece (omega arith)) (no_line (take w piece) none) in
    let all : length (rest ++ piece) ≡ length rest + length piece = length-append rest piece in
    record {
      no_lf = no_lf-append rest piece part.no_lf no_lf;
      short = omega (arith, part.short);
    }

-- No line ends in the piece, and there is no room for more.
pub line_full : (origin : ℕ) (head : Head) (rest piece : List ℕ) (scan : Scan) → IsLinePart head rest →
    position is_lf (take (min (room_left head rest) (length piece)) piece) ≡ None → room_left head rest ≤ length piece →
    scan.messages.items ≡ [] → scan.start ≡ 0 → scan.header ≡ Faulty (Bad 0) → scan.rest.items ≡ [] →
    LeadsTo origin (Open head) rest piece (contents scan.messages.items) (places scan.messages.items) scan
line_full origin head rest piece scan part none full no_messages start_is header_is rest_is =
    let room : ℕ = room_left head rest in
    let window : MAX_HEADER - head.size ≡ length rest + room = omega (arith, part.short) in
    let cut : take (MAX_HEADER - head.size) (rest ++ piece) ≡ rest ++ take room piece =
    ap (λ (k : ℕ). take k (rest ++ piece)) window ∙ take-append rest piece room in
    let no_lf : HasNoLf (take room piece) = subst HasNoLf (take_min room piece) (no_line (take (min room (length piece)) piece) none) in
    let all : length (rest ++ piece) ≡ length rest + length piece = length-append rest piece in
    let way : Passes (Open head) (rest ++ piece) [] 0 (Faulty (Bad 0)) [] =
    passes_full head (rest ++ piece) (subst HasNoLf (sym cut) (no_lf-append rest (take room piece) part.no_lf no_lf)) (omega (arith, part.short)) in
    let to_header : Passes (Open head) (rest ++ piece) [] 0 scan.header [] = subst (λ (h : Header). Passes (Open head) (rest ++ piece) [] 0 h []) (sym header_is) way in
    let to_rest : Passes (Open head) (rest ++ piece) [] 0 scan.header scan.rest.items = subst (λ (xs : List ℕ). Passes (Open head) (rest ++ piece) [] 0 scan.header xs) (sym rest_is) to_header in
    let to_start : Passes (Open head) (rest ++ piece) [] scan.start scan.header scan.rest.items = subst (λ (k : ℕ). Passes (Open head) (rest ++ piece) [] k scan.header scan.rest.items) (sym start_is) to_rest in
    record {
      passes = subst (λ (ms : List (List ℕ)). Passes (Open head) (rest ++ piece) ms scan.start scan.header scan.rest.items) (sym (ap contents no_messages)) to_start;
      stops = subst (λ (h : Header). Stops h scan.rest.items) (sym header_is) tt;
      sizes =
          let size_is : size_of scan.header ≡ 0 = ap size_of header_is in
          let length_is : length scan.rest.items ≡ 0 = ap length rest_is in
          omega arith;
      most = subst IsBounded (sym header_is) tt;
      placed = λ below short.
          subst (λ (ms : List Placed). ArePlaced origin (Open head) rest piece [] (contents ms) (places ms)) (sym no_messages) tt;
    }
