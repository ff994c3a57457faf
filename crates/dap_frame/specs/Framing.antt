-- What a framer holds, and what it stands for.
use Rattle.std.specs.Prelude.{◌≡◌, ◌≢◌, ℕ, ◌+◌, ◌<◌, ◌≤◌, ◌^◌, List, [], ◌∷◌, ◌++◌, length, take, Option, Some, None, Bool, true, false}
use Rattle.std.specs.Global.{Vec}
use Rattle.dap_frame.specs.declared.scan.Scan.{Scan}
use Rattle.dap_frame.specs.declared.fault.FrameFault.{FrameFault}
use Rattle.dap_frame.specs.declared.fault.FrameFault.TheVariants.{Memory}
use Rattle.dap_frame.specs.declared.header.Header.{Header}
use Rattle.dap_frame.specs.declared.header.Header.TheVariants.{Open, Ended, Faulty}
use Rattle.dap_frame.specs.Header.{size_of, IsBounded}
use Rattle.dap_frame.specs.Stream.{End, whole, failed, told, Reads, AreMessages}
use Rattle.dap_frame.specs.Part.{end_within, IsUnfinished}

-- A framer as its callers see it: the whole messages that are still to be taken, and the places of
-- their contents; of the next one, the place where it begins, its header as far as its lines are whole,
-- and the bytes after these; the number of bytes that were fed; and the fault that ended the stream.
pub record Framing : Type 0 where
  pub messages : List (List ℕ)
  pub places : List ℕ
  pub start : ℕ
  pub header : Header
  pub rest : List ℕ
  pub fed : ℕ
  pub fault : Option FrameFault

-- how the stream ends that was read so far
abbrev pub end_by : Option FrameFault → Header → List ℕ → End
end_by None header rest = end_within header rest
end_by (Some fault) header rest = failed fault

abbrev pub end_of : Framing → End
end_of f = end_by f.fault f.header f.rest

-- the fault of a header that begins at `start`
abbrev pub fault_in : ℕ → Header → Option FrameFault
fault_in start (Open head) = None
fault_in start (Ended size n) = None
fault_in start (Faulty f) = Some (told start f)

abbrev pub is_faulty : Header → Bool
is_faulty (Open head) = false
is_faulty (Ended size n) = false
is_faulty (Faulty f) = true

-- the part of a message, where there is no fault
abbrev pub IsPartBy : Option FrameFault → Header → List ℕ → Type 0
IsPartBy None header rest = IsUnfinished header rest × IsBounded header
IsPartBy (Some fault) header rest = Unit {0}

-- The framer makes these contents and this end of the bytes to come.
abbrev pub GoesOnBy : Option FrameFault → Framing → List ℕ → List (List ℕ) → End → Type 0
GoesOnBy None f bytes contents end = Reads f.start f.header (f.rest ++ bytes) contents end
GoesOnBy (Some fault) f bytes contents end = (contents ≡ []) × (end ≡ failed fault)

-- The content of the message behind `taken` begins at the place: the bytes before the place and the
-- content are `taken` and this message, whole.
pub record StartsAt (stream : List ℕ) (taken : List (List ℕ)) (content : List ℕ) (place : ℕ) : Type 0 where
  pub within : place + length content ≤ length stream
  pub front : AreMessages (take (place + length content) stream) (taken ++ content ∷ []) whole

-- each of the messages, one after another
abbrev pub StartEach : List ℕ → List (List ℕ) → List (List ℕ) → List ℕ → Type 0
StartEach stream taken [] [] = Unit {0}
StartEach stream taken [] (place ∷ places) = ⊥
StartEach stream taken (content ∷ contents) [] = ⊥
StartEach stream taken (content ∷ contents) (place ∷ places) =
    StartsAt stream taken content place × StartEach stream (taken ++ content ∷ []) contents places

-- the first of the messages
abbrev pub StartsNext : List ℕ → List (List ℕ) → List (List ℕ) → ℕ → Type 0
StartsNext stream taken [] place = ⊥
StartsNext stream taken (content ∷ contents) place = StartsAt stream taken content place

-- The framer was fed the stream, and has given the messages `taken`: these and those that it holds
-- are the messages of the stream, which ends as the framer says; and so it is with whatever comes.
pub record IsAfter (f : Framing) (stream : List ℕ) (taken : List (List ℕ)) : Type 0 where
  pub so_far : AreMessages stream (taken ++ f.messages) (end_of f)
  pub on : (bytes : List ℕ) (contents : List (List ℕ)) (end : End) →
      GoesOnBy f.fault f bytes contents end → AreMessages (stream ++ bytes) (taken ++ f.messages ++ contents) end
  pub place : f.start + size_of f.header + length f.rest ≤ length stream
  pub all_fed : length stream < 2 ^ 63 → f.fault ≡ None → f.fed ≡ length stream
  pub starts : length stream < 2 ^ 63 → StartEach stream taken f.messages f.places

-- What take gave, as a list.
abbrev pub given : Option (Vec ℕ) → List (List ℕ)
given None = []
given (Some message) = message.items ∷ []

-- From one framer to the next: these messages are added, and it goes on where the scan ended, with
-- which `total` bytes were fed.
pub record Reaches (old new : Framing) (messages : List (List ℕ)) (places : List ℕ) (total : ℕ) (scan : Scan) : Type 0 where
  pub messages_are : new.messages ≡ old.messages ++ messages
  pub places_are : length old.rest ≤ old.fed → new.places ≡ old.places ++ places
  pub fed_is : new.fed ≡ total
  pub start : old.start + scan.start < 2 ^ 64 → new.start ≡ old.start + scan.start
  pub header : new.header ≡ scan.header
  pub rest : new.rest ≡ scan.rest.items
  pub fault : new.start < 2 ^ 63 → new.fault ≡ fault_in new.start scan.header
  pub real : new.fault ≢ Some Memory

-- From one framer to the next: a piece was read.
pub record Follows (old new : Framing) (piece : List ℕ) : Type 0 where
  pub after : (stream : List ℕ) (taken : List (List ℕ)) → length stream + length piece < 2 ^ 63 →
      IsAfter old stream taken → IsAfter new (stream ++ piece) taken
  pub real : new.fault ≢ Some Memory
