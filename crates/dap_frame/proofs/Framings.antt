-- What a framer stands for, after each call.
use Rattle.std.proofs.Common.{◌≡◌, ℕ, ◌+◌, ◌%◌, ◌<◌, ◌≤◌, ◌^◌, false, List, [], ◌∷◌, ◌++◌, length, take, refl, sym, ◌∙◌, ap, subst, arith, append_assoc, append-nil, length-append}
use Rattle.std.specs.Prelude.{Option, Some, None, Result, Ok, Err, OnOk}
use Rattle.std.proofs.lemmas.List.{take-append-le}
use Rattle.dap_frame.specs.declared.fault.FrameFault.{FrameFault}
use Rattle.dap_frame.specs.declared.header.HeaderFault.{HeaderFault}
use Rattle.dap_frame.specs.declared.header.Header.{Header}
use Rattle.dap_frame.specs.declared.header.Header.TheVariants.{Open, Ended, Faulty}
use Rattle.dap_frame.specs.Header.{size_of, IsBounded}
use Rattle.dap_frame.specs.Stream.{Next, End, whole, Ends, failed, told, Reads, AreMessages}
use Rattle.dap_frame.specs.Part.{end_within, IsUnfinished, Stops, Passes}
use Rattle.dap_frame.specs.declared.scan.Scan.{Scan}
use Rattle.dap_frame.specs.declared.advance.Progress.{Progress}
use Rattle.dap_frame.specs.Advance.{IsProgress}
use Rattle.dap_frame.specs.Scan.{ArePlaced, LeadsTo}
use Rattle.dap_frame.specs.Framing.{Framing, end_by, end_of, fault_in, is_faulty, IsPartBy, GoesOnBy, StartsAt, StartEach, IsAfter, Reaches, Follows}
use Rattle.dap_frame.proofs.Lines.{take-append}
use Rattle.dap_frame.proofs.Scanning.{sum_below}
use Rattle.dap_frame.proofs.Reading.{passes_none, next_from-faulty, reads_unfinished}

-- what a framer's fault says of its header
abbrev FaultFits : Option FrameFault → ℕ → Header → List ℕ → Type 0
FaultFits None start header rest = IsUnfinished header rest
FaultFits (Some fault) start header rest = (f : HeaderFault) × (header ≡ Faulty f) × (fault ≡ told start f)

fits_in : (start : ℕ) (header : Header) (rest : List ℕ) → Stops header rest → FaultFits (fault_in start header) start header rest
fits_in start (Open head) rest stops = stops
fits_in start (Ended size n) rest stops = stops
fits_in start (Faulty f) rest stops = (f, refl, refl)

-- The part of a message that a framer keeps, where there is no fault.
pub part_by : (fault : Option FrameFault) (header : Header) (rest : List ℕ) → Stops header rest → IsBounded header →
    (fault ≡ None → is_faulty header ≡ false) → IsPartBy fault header rest
part_by None (Open head) rest stops most none = (stops, most)
part_by None (Ended size n) rest stops most none = (stops, most)
part_by None (Faulty f) rest stops most none = absurd (let e = none refl in cc)
part_by (Some fault) header rest stops most none = tt

reads_faulty : (start : ℕ) (f : HeaderFault) (bytes : List ℕ) → Reads start (Faulty f) bytes [] (failed (told start f))
reads_faulty start f bytes =
    subst (λ (n : Next). Ends start (0 + length bytes) n (failed (told start f))) (sym (next_from-faulty f bytes)) refl

-- What a framer makes of the bytes to come is what reading on gives.
goes_on : (fault : Option FrameFault) (g : Framing) (bytes : List ℕ) (contents : List (List ℕ)) (end : End) →
    FaultFits fault g.start g.header g.rest → GoesOnBy fault g bytes contents end → Reads g.start g.header (g.rest ++ bytes) contents end
goes_on None g bytes contents end fits reads = reads
goes_on (Some fault) g bytes contents end fits over =
    let f : HeaderFault = fits.0 in
    let end_is : failed (told g.start f) ≡ end = sym (over.1 ∙ ap failed fits.2) in
    subst (λ (cs : List (List ℕ)). Reads g.start g.header (g.rest ++ bytes) cs end) (sym over.0)
    (subst (λ (h : Header). Reads g.start h (g.rest ++ bytes) [] end) (sym fits.1)
    (subst (λ (e : End). Reads g.start (Faulty f) (g.rest ++ bytes) [] e) end_is (reads_faulty g.start f (g.rest ++ bytes))))

ends_now : (fault : Option FrameFault) (g : Framing) → FaultFits fault g.start g.header g.rest → GoesOnBy fault g [] [] (end_by fault g.header g.rest)
ends_now None g fits =
    subst (λ (bytes : List ℕ). Reads g.start g.header bytes [] (end_within g.header g.rest)) (sym (append-nil g.rest)) (reads_unfinished g.start g.header g.rest fits)
ends_now (Some fault) g fits = (refl, refl)

-- what a framer stands for, from how it goes on
after_from_on : (g : Framing) (stream : List ℕ) (taken : List (List ℕ)) → GoesOnBy g.fault g [] [] (end_of g) →
    ((bytes : List ℕ) (contents : List (List ℕ)) (end : End) → GoesOnBy g.fault g bytes contents end → AreMessages (stream ++ bytes) (taken ++ g.messages ++ contents) end) →
    g.start + size_of g.header + length g.rest ≤ length stream → (length stream < 2 ^ 63 → g.fault ≡ None → g.fed ≡ length stream) →
    (length stream < 2 ^ 63 → StartEach stream taken g.messages g.places) → IsAfter g stream taken
after_from_on g stream taken now on place all_fed starts = record {
  so_far =
      subst (λ (bytes : List ℕ). AreMessages bytes (taken ++ g.messages) (end_of g)) (append-nil stream)
      (subst (λ (cs : List (List ℕ)). AreMessages (stream ++ []) cs (end_of g)) (append-nil (taken ++ g.messages)) (on [] [] (end_of g) now));
  on = on;
  place = place;
  all_fed = all_fed;
  starts = starts;
}

-- What begins in a stream begins there in a longer one.
starts_longer : (stream piece : List ℕ) (taken messages : List (List ℕ)) (places : List ℕ) → StartEach stream taken messages places →
    StartEach (stream ++ piece) taken messages places
starts_longer stream piece taken [] [] each = tt
starts_longer stream piece taken [] (p ∷ ps) each = absurd each
starts_longer stream piece taken (m ∷ ms) [] each = absurd each
starts_longer stream piece taken (m ∷ ms) (p ∷ ps) each =
    let long : length (stream ++ piece) ≡ length stream + length piece = length-append stream piece in (
      record {
        within = omega (arith, each.0.within);
        front = subst (λ (bytes : List ℕ). AreMessages bytes (taken ++ m ∷ []) whole) (sym (take-append-le (p + length m) stream piece each.0.within)) each.0.front;
      },
      starts_longer stream piece (taken ++ m ∷ []) ms ps each.1,
    )

-- Some messages, and others behind them.
starts_more : (stream : List ℕ) (taken messages others : List (List ℕ)) (places more : List ℕ) → StartEach stream taken messages places →
    StartEach stream (taken ++ messages) others more → StartEach stream taken (messages ++ others) (places ++ more)
starts_more stream taken [] others [] more each next = subst (λ (ms : List (List ℕ)). StartEach stream ms others more) (append-nil taken) next
starts_more stream taken [] others (p ∷ ps) more each next = absurd each
starts_more stream taken (m ∷ ms) others [] more each next = absurd each
starts_more stream taken (m ∷ ms) others (p ∷ ps) more each next = (
  each.0,
  starts_more stream (taken ++ m ∷ []) ms others ps more each.1
      (subst (λ (ns : List (List ℕ)). StartEach stream ns others more) (sym (append_assoc taken (m ∷ []) ms)) next),
)

-- What a piece ends begins where the stream has it.
starts_in_piece : (f : Framing) (stream piece : List ℕ) (taken before messages : List (List ℕ)) (places : List ℕ) → IsAfter f stream taken → f.fault ≡ None →
    ArePlaced (length stream) f.header f.rest piece before messages places → StartEach (stream ++ piece) ((taken ++ f.messages) ++ before) messages places
starts_in_piece f stream piece taken before [] [] after none placed = tt
starts_in_piece f stream piece taken before [] (p ∷ ps) after none placed = absurd placed
starts_in_piece f stream piece taken before (m ∷ ms) [] after none placed = absurd placed
starts_in_piece f stream piece taken before (m ∷ ms) (p ∷ ps) after none placed =
    let front : List ℕ = take placed.0.used piece in
    let all : List (List ℕ) = before ++ m ∷ [] in
    let long : length (stream ++ piece) ≡ length stream + length piece = length-append stream piece in
    let messages_are : (taken ++ f.messages) ++ all ≡ ((taken ++ f.messages) ++ before) ++ m ∷ [] = sym (append_assoc (taken ++ f.messages) before (m ∷ [])) in
    let reads : Reads f.start f.header ((f.rest ++ front) ++ []) (all ++ []) whole =
    placed.0.passes.on f.start (f.start + placed.0.size) [] [] whole refl refl in
    let from : Reads f.start f.header (f.rest ++ front) all whole =
    subst (λ (xs : List ℕ). Reads f.start f.header xs all whole) (append-nil (f.rest ++ front))
    (subst (λ (ns : List (List ℕ)). Reads f.start f.header ((f.rest ++ front) ++ []) ns whole) (append-nil all) reads) in
    let goes : GoesOnBy f.fault f front all whole = subst (λ (fault : Option FrameFault). GoesOnBy fault f front all whole) (sym none) from in
    let bytes_are : take (p + length m) (stream ++ piece) ≡ stream ++ front =
    ap (λ (k : ℕ). take k (stream ++ piece)) placed.0.ends ∙ take-append stream piece placed.0.used in
    let here : StartsAt (stream ++ piece) ((taken ++ f.messages) ++ before) m p = record {
      within = omega (arith, placed.0.ends, placed.0.within);
      front = subst (λ (xs : List ℕ). AreMessages xs (((taken ++ f.messages) ++ before) ++ m ∷ []) whole) (sym bytes_are)
          (subst (λ (ns : List (List ℕ)). AreMessages (stream ++ front) ns whole) messages_are (after.on front all whole goes));
    } in (
      here,
      subst (λ (ns : List (List ℕ)). StartEach (stream ++ piece) ns ms ps) messages_are
          (starts_in_piece f stream piece taken all ms ps after none placed.1),
    )

-- A framer read a piece.
pub after_read : (f g : Framing) (stream piece : List ℕ) (taken messages : List (List ℕ)) (size : ℕ) → IsAfter f stream taken → f.fault ≡ None →
    Passes f.header (f.rest ++ piece) messages size g.header g.rest → Stops g.header g.rest →
    size + size_of g.header + length g.rest ≤ size_of f.header + length (f.rest ++ piece) →
    g.messages ≡ f.messages ++ messages → g.start ≡ f.start + size → g.fault ≡ fault_in g.start g.header → g.fed ≡ length (stream ++ piece) →
    StartEach (stream ++ piece) taken g.messages g.places → IsAfter g (stream ++ piece) taken
after_read f g stream piece taken messages size before none passes stops sizes messages_are start_is fault_is fed_is starts =
    let fits : FaultFits g.fault g.start g.header g.rest =
    subst (λ (fault : Option FrameFault). FaultFits fault g.start g.header g.rest) (sym fault_is) (fits_in g.start g.header g.rest stops) in
    let all : (contents : List (List ℕ)) → (taken ++ f.messages) ++ (messages ++ contents) ≡ (taken ++ g.messages) ++ contents =
    λ contents. sym (append_assoc (taken ++ f.messages) messages contents)
    ∙ ap (λ (ms : List (List ℕ)). ms ++ contents) (append_assoc taken f.messages messages ∙ ap (λ (ms : List (List ℕ)). taken ++ ms) (sym messages_are)) in
    after_from_on g (stream ++ piece) taken (ends_now g.fault g fits)
    (λ bytes contents end goes.
    let reads : Reads f.start f.header ((f.rest ++ piece) ++ bytes) (messages ++ contents) end =
    passes.on f.start g.start bytes contents end start_is (goes_on g.fault g bytes contents end fits goes) in
    let from : Reads f.start f.header (f.rest ++ (piece ++ bytes)) (messages ++ contents) end =
    subst (λ (xs : List ℕ). Reads f.start f.header xs (messages ++ contents) end) (append_assoc f.rest piece bytes) reads in
    let goes_before : GoesOnBy f.fault f (piece ++ bytes) (messages ++ contents) end =
    subst (λ (fault : Option FrameFault). GoesOnBy fault f (piece ++ bytes) (messages ++ contents) end) (sym none) from in
    subst (λ (xs : List ℕ). AreMessages xs ((taken ++ g.messages) ++ contents) end) (sym (append_assoc stream piece bytes))
    (subst (λ (cs : List (List ℕ)). AreMessages (stream ++ (piece ++ bytes)) cs end) (all contents) (before.on (piece ++ bytes) (messages ++ contents) end goes_before)))
    (let long = length-append stream piece in let longer = length-append f.rest piece in omega (arith, before.place))
    (λ short still. fed_is) (λ short. starts)

-- A piece led on to the end of a scan.
pub follows_scan : (f g : Framing) (piece : List ℕ) (messages : List (List ℕ)) (places : List ℕ) (total : ℕ) (scan : Scan) → f.fault ≡ None →
    LeadsTo f.fed f.header f.rest piece messages places scan → Reaches f g messages places total scan → (f.fed + length piece < 2 ^ 64 → total ≡ f.fed + length piece) →
    Follows f g piece
follows_scan f g piece messages places total scan none leads reaches total_is = record {
  after = λ stream taken short before.
      let long = length-append f.rest piece in
      let start_is : g.start ≡ f.start + scan.start = reaches.start (omega (arith, leads.sizes, before.place)) in
      let passes : Passes f.header (f.rest ++ piece) messages scan.start g.header g.rest =
      subst (λ (h : Header). Passes f.header (f.rest ++ piece) messages scan.start h g.rest) (sym reaches.header)
      (subst (λ (xs : List ℕ). Passes f.header (f.rest ++ piece) messages scan.start scan.header xs) (sym reaches.rest) leads.passes) in
      let stops : Stops g.header g.rest =
      subst (λ (h : Header). Stops h g.rest) (sym reaches.header) (subst (λ (xs : List ℕ). Stops scan.header xs) (sym reaches.rest) leads.stops) in
      let size_is : size_of g.header ≡ size_of scan.header = ap size_of reaches.header in
      let rest_is : length g.rest ≡ length scan.rest.items = ap length reaches.rest in
      let fault_is : g.fault ≡ fault_in g.start g.header =
      reaches.fault (omega (arith, leads.sizes, before.place)) ∙ ap (fault_in g.start) (sym reaches.header) in
      let all_long : length (stream ++ piece) ≡ length stream + length piece = length-append stream piece in
      let fed_was : f.fed ≡ length stream = before.all_fed (omega arith) none in
      let below : length f.rest ≤ f.fed = omega (arith, before.place) in
      let room : f.fed + length piece < 2 ^ 64 = omega arith in
      let fed_is : g.fed ≡ length (stream ++ piece) = reaches.fed_is ∙ total_is room ∙ ap (λ (k : ℕ). k + length piece) fed_was ∙ sym all_long in
      let placed : ArePlaced (length stream) f.header f.rest piece [] messages places =
      subst (λ (k : ℕ). ArePlaced k f.header f.rest piece [] messages places) fed_was (leads.placed below room) in
      let added : StartEach (stream ++ piece) (taken ++ f.messages) messages places =
      subst (λ (ms : List (List ℕ)). StartEach (stream ++ piece) ms messages places) (append-nil (taken ++ f.messages)) (starts_in_piece f stream piece taken [] messages places before none placed) in
      let held : StartEach (stream ++ piece) taken f.messages f.places = starts_longer stream piece taken f.messages f.places (before.starts (omega arith)) in
      let starts : StartEach (stream ++ piece) taken g.messages g.places =
      subst (λ (ms : List (List ℕ)). StartEach (stream ++ piece) taken ms g.places) (sym reaches.messages_are)
      (subst (λ (ps : List ℕ). StartEach (stream ++ piece) taken (f.messages ++ messages) ps) (sym (reaches.places_are below))
      (starts_more (stream ++ piece) taken f.messages messages f.places places held added)) in
      after_read f g stream piece taken messages scan.start before none passes stops (omega (arith, leads.sizes)) reaches.messages_are start_is fault_is fed_is starts;
  real = reaches.real;
}

-- A piece went behind what was kept.
pub follows_growth : (f g : Framing) (piece : List ℕ) (total : ℕ) → f.fault ≡ None → IsUnfinished f.header (f.rest ++ piece) →
    (f.fed + length piece < 2 ^ 64 → total ≡ f.fed + length piece) → g ≡ record f { rest = f.rest ++ piece; fed = total } → Follows f g piece
follows_growth f g piece total none part total_is same =
    subst (λ (h : Framing). Follows f h piece) (sym same) (record {
      after = λ stream taken short before.
          let fault_is : f.fault ≡ fault_in f.start f.header = none ∙ sym (no_fault f.start f.header (f.rest ++ piece) part) in
          let start_is : f.start ≡ f.start + 0 = omega arith in
          let all_long : length (stream ++ piece) ≡ length stream + length piece = length-append stream piece in
          let fed_was : f.fed ≡ length stream = before.all_fed (omega arith) none in
          let fed_is : total ≡ length (stream ++ piece) = total_is (omega arith) ∙ ap (λ (k : ℕ). k + length piece) fed_was ∙ sym all_long in
          after_read f (record f { rest = f.rest ++ piece; fed = total }) stream piece taken [] 0 before none (passes_none f.header (f.rest ++ piece))
          (stops_from f.header (f.rest ++ piece) part) (omega arith) (sym (append-nil f.messages)) start_is fault_is fed_is
          (starts_longer stream piece taken f.messages f.places (before.starts (omega arith)));
      real = λ is. let e = sym none ∙ is in cc;
    })
  where
    no_fault : (start : ℕ) (header : Header) (rest : List ℕ) → IsUnfinished header rest → fault_in start header ≡ None
    no_fault start (Open head) rest unfinished = refl
    no_fault start (Ended size n) rest unfinished = refl
    no_fault start (Faulty f) rest unfinished = absurd unfinished

    stops_from : (header : Header) (rest : List ℕ) → IsUnfinished header rest → Stops header rest
    stops_from (Open head) rest unfinished = unfinished
    stops_from (Ended size n) rest unfinished = unfinished
    stops_from (Faulty f) rest unfinished = tt

-- Behind a fault a piece changes nothing.
pub after_fault : (f : Framing) (stream piece : List ℕ) (taken : List (List ℕ)) (fault : FrameFault) → IsAfter f stream taken → f.fault ≡ Some fault →
    IsAfter f (stream ++ piece) taken
after_fault f stream piece taken fault before is =
    let over : (bytes more : List ℕ) (contents : List (List ℕ)) (end : End) → GoesOnBy f.fault f bytes contents end → GoesOnBy f.fault f more contents end =
    λ bytes more contents end goes.
    subst (λ (o : Option FrameFault). GoesOnBy o f more contents end) (sym is) (subst (λ (o : Option FrameFault). GoesOnBy o f bytes contents end) is goes) in
    let now : GoesOnBy f.fault f [] [] (end_of f) =
    subst (λ (o : Option FrameFault). GoesOnBy o f [] [] (end_by o f.header f.rest)) (sym is) (refl, refl) in
    after_from_on f (stream ++ piece) taken now
    (λ bytes contents end goes. subst (λ (xs : List ℕ). AreMessages xs ((taken ++ f.messages) ++ contents) end) (sym (append_assoc stream piece bytes))
    (before.on (piece ++ bytes) contents end (over bytes (piece ++ bytes) contents end goes)))
    (let long = length-append stream piece in omega (arith, before.place))
    (λ short none. absurd (let e : Some fault ≡ None = sym is ∙ none in cc))
    (λ short. starts_longer stream piece taken f.messages f.places (before.starts (let long = length-append stream piece in omega arith)))

-- What was taken is held no more.
starts_behind : (stream : List ℕ) (taken messages others : List (List ℕ)) (places more : List ℕ) → length messages ≡ length places →
    StartEach stream taken (messages ++ others) (places ++ more) → StartEach stream (taken ++ messages) others more
starts_behind stream taken [] others [] more long each = subst (λ (ms : List (List ℕ)). StartEach stream ms others more) (sym (append-nil taken)) each
starts_behind stream taken [] others (p ∷ ps) more long each = absurd (cc)
starts_behind stream taken (m ∷ ms) others [] more long each = absurd (cc)
starts_behind stream taken (m ∷ ms) others (p ∷ ps) more long each =
    subst (λ (ns : List (List ℕ)). StartEach stream ns others more) (append_assoc taken (m ∷ []) ms)
    (starts_behind stream (taken ++ m ∷ []) ms others ps more (omega (arith, long)) each.1)

pub after_take : (f g : Framing) (stream : List ℕ) (taken messages : List (List ℕ)) (places : List ℕ) → IsAfter f stream taken → f.messages ≡ messages ++ g.messages →
    f.places ≡ places ++ g.places → length messages ≡ length places →
    g ≡ record f { messages = g.messages; places = g.places } → IsAfter g stream (taken ++ messages)
after_take f g stream taken messages places before messages_are places_are long same =
    let all : taken ++ f.messages ≡ (taken ++ messages) ++ g.messages = ap (λ (ms : List (List ℕ)). taken ++ ms) messages_are ∙ sym (append_assoc taken messages g.messages) in
    subst (λ (h : Framing). IsAfter h stream (taken ++ messages)) (sym same) (record {
      so_far = subst (λ (ms : List (List ℕ)). AreMessages stream ms (end_of f)) all before.so_far;
      on = λ bytes contents end goes. subst (λ (ms : List (List ℕ)). AreMessages (stream ++ bytes) (ms ++ contents) end) all
          (before.on bytes contents end (same_way f.fault bytes contents end goes));
      place = before.place;
      all_fed = before.all_fed;
      starts = λ short. starts_behind stream taken messages g.messages places g.places long
          (subst (λ (ms : List (List ℕ)). StartEach stream taken ms (places ++ g.places)) messages_are
          (subst (λ (ps : List ℕ). StartEach stream taken f.messages ps) places_are (before.starts short)));
    })
  where
    same_way : (fault : Option FrameFault) (bytes : List ℕ) (contents : List (List ℕ)) (end : End) →
        GoesOnBy fault (record f { messages = g.messages; places = g.places }) bytes contents end → GoesOnBy fault f bytes contents end
    same_way None bytes contents end goes = goes
    same_way (Some fault) bytes contents end goes = goes

pub progress_at : (m n : ℕ) (h g : Header) (r s piece : List ℕ) (p q : Progress) → m ≡ n → h ≡ g → r ≡ s → p ≡ q → IsProgress m h r piece p → IsProgress n g s piece q
progress_at m n h g r s piece p q origin_is header_is rest_is same is =
    subst (λ (k : ℕ). IsProgress k g s piece q) origin_is
    (subst (λ (k : Header). IsProgress m k s piece q) header_is
    (subst (λ (xs : List ℕ). IsProgress m h xs piece q) rest_is (subst (λ (o : Progress). IsProgress m h r piece o) same is)))

pub on_ok_weaker : {T E : Type 0} (r : Result T E) (P Q : Type 0) → (P → Q) → OnOk r P → OnOk r Q
on_ok_weaker (Ok x) P Q f p = f p
on_ok_weaker (Err e) P Q f p = p

pub grown : (v f : Framing) (rest piece : List ℕ) (total : ℕ) → v ≡ f → rest ≡ v.rest ++ piece →
    record v { rest = rest; fed = total } ≡ record f { rest = f.rest ++ piece; fed = total }
grown v f rest piece total same is =
    ap (λ (xs : List ℕ). record v { rest = xs; fed = total }) is ∙ ap (λ (w : Framing). record w { rest = w.rest ++ piece; fed = total }) same

-- The number of bytes that were fed, with a piece more.
pub total_is : (f v : Framing) (piece : List ℕ) (total : ℕ) → v ≡ f → total ≡ (v.fed + length piece) % 2 ^ 64 → f.fed + length piece < 2 ^ 64 → total ≡ f.fed + length piece
total_is f v piece total same is short =
    sum_below f.fed (length piece) (length piece) total (omega arith) (is ∙ ap (λ (w : Framing). (w.fed + length piece) % 2 ^ 64) same) short
