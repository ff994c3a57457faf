-- What a scan of bytes finds.
use Rattle.std.specs.Prelude.{◌≡◌, ℕ, ◌+◌, ◌-◌, ◌<◌, ◌≤◌, ◌^◌, List, [], ◌∷◌, ◌++◌, length, take, drop, map}
use Rattle.dap_frame.specs.Limits.{header_limit}
use Rattle.dap_frame.specs.declared.header.Header.{Header}
use Rattle.dap_frame.specs.declared.header.Header.TheVariants.{Open, Ended, Faulty}
use Rattle.dap_frame.specs.declared.scan.Part.{Part}
use Rattle.dap_frame.specs.declared.scan.Part.TheVariants.{Message, Unfinished}
use Rattle.dap_frame.specs.declared.scan.Placed.{Placed}
use Rattle.dap_frame.specs.declared.scan.Scan.{Scan}
use Rattle.dap_frame.specs.Header.{HasNoLf, nothing_said, size_of, IsBounded}
use Rattle.dap_frame.specs.Part.{Passes, Stops}

-- the contents of messages, and the places of their first bytes
abbrev pub contents : List Placed → List (List ℕ)
contents messages = map (λ message. message.content.items) messages

abbrev pub places : List Placed → List ℕ
places messages = map (λ message. message.start) messages

-- no line of the header ends in the bytes
abbrev pub HasNoWholeLine : Header → List ℕ → Type 0
HasNoWholeLine (Open head) bytes = HasNoLf (take (header_limit - head.size) bytes)
HasNoWholeLine (Ended size n) bytes = Unit {0}
HasNoWholeLine (Faulty f) bytes = Unit {0}

-- an ended header leads on although no byte of it is to come
abbrev pub weight : Header → ℕ
weight (Open head) = 0
weight (Ended size n) = 1
weight (Faulty f) = 0

-- the first `at` bytes are whole lines, which lead from a header to the one that was reached
pub record HasRead (header : Header) (bytes : List ℕ) (reached : Header) (at : ℕ) : Type 0 where
  pub passes : Passes header bytes [] 0 reached (drop at bytes)
  pub alone : Passes header (take at bytes) [] 0 reached []
  pub within : at ≤ length bytes
  pub sizes : size_of reached ≤ size_of header + at
  pub most : IsBounded reached
  pub progress : weight reached ≤ weight header + at

-- the first `used` bytes end a message, which has `size` bytes with all of its header
pub record IsWhole (header : Header) (bytes content : List ℕ) (size used : ℕ) : Type 0 where
  pub passes : Passes header bytes (content ∷ []) size (Open nothing_said) (drop used bytes)
  pub alone : Passes header (take used bytes) (content ∷ []) size (Open nothing_said) []
  pub within : used ≤ length bytes
  pub behind : length content ≤ used
  pub sizes : size ≤ size_of header + used
  pub progress : 0 < weight header + used

-- the bytes end no message
pub record IsRest (header : Header) (bytes : List ℕ) (reached : Header) (rest : List ℕ) : Type 0 where
  pub passes : Passes header bytes [] 0 reached rest
  pub stops : Stops reached rest
  pub sizes : size_of reached + length rest ≤ size_of header + length bytes
  pub most : IsBounded reached

abbrev pub IsPart : Header → List ℕ → Part → Type 0
IsPart header bytes (Message content size used) = IsWhole header bytes content.items size used
IsPart header bytes (Unfinished reached rest) = IsRest header bytes reached rest.items

-- the same of bytes behind an ended header, where `before` bytes more were used
abbrev pub IsContentPart : ℕ → ℕ → ℕ → List ℕ → Part → Type 0
IsContentPart size n before bytes (Message content whole used) =
    (content.items ≡ take n bytes) × (n ≤ length bytes) × (whole ≡ size + n) × (used ≡ before + n)
IsContentPart size n before bytes (Unfinished reached rest) = (reached ≡ Ended size n) × (rest.items ≡ bytes) × (length bytes < n)

-- The first `used` of the bytes, with `rest` before them, end the message behind `before`; the place of
-- its content's first byte is `place`, where the bytes begin at the place `origin`.
pub record IsPlaced (origin : ℕ) (header : Header) (rest bytes : List ℕ) (before : List (List ℕ)) (content : List ℕ) (place : ℕ) : Type 0 where
  pub used : ℕ
  pub size : ℕ
  pub within : used ≤ length bytes
  pub ends : place + length content ≡ origin + used
  pub passes : Passes header (rest ++ take used bytes) (before ++ content ∷ []) size (Open nothing_said) []

-- each of the messages, one after another
abbrev pub ArePlaced : ℕ → Header → List ℕ → List ℕ → List (List ℕ) → List (List ℕ) → List ℕ → Type 0
ArePlaced origin header rest bytes before [] [] = Unit {0}
ArePlaced origin header rest bytes before [] (place ∷ places) = ⊥
ArePlaced origin header rest bytes before (content ∷ contents) [] = ⊥
ArePlaced origin header rest bytes before (content ∷ contents) (place ∷ places) =
    IsPlaced origin header rest bytes before content place × ArePlaced origin header rest bytes (before ++ content ∷ []) contents places

-- the messages end where the first `at` bytes do, and the next one begins `start` bytes after the first
pub record HasScanned (origin : ℕ) (header : Header) (bytes : List ℕ) (messages : List (List ℕ)) (places : List ℕ) (start : ℕ) (reached : Header) (at : ℕ) : Type 0 where
  pub passes : Passes header bytes messages start reached (drop at bytes)
  pub alone : Passes header (take at bytes) messages start reached []
  pub within : at ≤ length bytes
  pub sizes : start + size_of reached ≤ size_of header + at
  pub most : IsBounded reached
  pub placed : origin + length bytes < 2 ^ 64 → ArePlaced origin header [] bytes [] messages places

-- The bytes `rest`, and then bytes from the place `origin` on, are these messages at these places, and
-- then what the scan says.
pub record LeadsTo (origin : ℕ) (header : Header) (rest bytes : List ℕ) (messages : List (List ℕ)) (places : List ℕ) (scan : Scan) : Type 0 where
  pub passes : Passes header (rest ++ bytes) messages scan.start scan.header scan.rest.items
  pub stops : Stops scan.header scan.rest.items
  pub sizes : scan.start + size_of scan.header + length scan.rest.items ≤ size_of header + length (rest ++ bytes)
  pub most : IsBounded scan.header
  pub placed : length rest ≤ origin → origin + length bytes < 2 ^ 64 → ArePlaced origin header rest bytes [] messages places

-- what a scan of the bytes is
abbrev pub IsScan : ℕ → Header → List ℕ → Scan → Type 0
IsScan origin header bytes scan = LeadsTo origin header [] bytes (contents scan.messages.items) (places scan.messages.items) scan
