-- The messages of a stream, and how it ends.
use Rattle.std.specs.Prelude.{◌≡◌, ℕ, ◌+◌, ◌-◌, ◌==◌, nat_le, nat_lt, if◌then◌else◌, List, [], ◌∷◌, length, take, drop}
use Rattle.dap_frame.specs.Limits.{header_limit}
use Rattle.dap_frame.specs.declared.fault.FrameFault.{FrameFault}
use Rattle.dap_frame.specs.declared.fault.FrameFault.TheVariants as frame
use Rattle.dap_frame.specs.declared.header.HeaderFault.{HeaderFault}
use Rattle.dap_frame.specs.declared.header.HeaderFault.TheVariants.{Bad, TooLong}
use Rattle.dap_frame.specs.declared.header.Header.{Header}
use Rattle.dap_frame.specs.declared.header.Header.TheVariants.{Open, Ended, Faulty}
use Rattle.dap_frame.specs.Header.{nothing_said, size_of, header_on}

-- What bytes make of the message that they go on with: its content, with the number of the bytes up
-- to its end; less than a whole message; or a fault.
pub data Next : Type 0 where
  message : List ℕ → ℕ → Next
  unfinished : Next
  fault : HeaderFault → Next

-- the content of n bytes after the first `skip` of the bytes
abbrev pub content_at : ℕ → ℕ → List ℕ → Next
content_at skip n bytes =
    if nat_le (skip + n) (length bytes) then message (take n (drop skip bytes)) (skip + n) else unfinished

-- by the header, of which `before` bytes stand before the bytes
abbrev pub next_by : ℕ → List ℕ → Header → Next
next_by before bytes (Open head) = if nat_lt (before + length bytes) header_limit then unfinished else fault (Bad 0)
next_by before bytes (Ended size n) = content_at (size - before) n bytes
next_by before bytes (Faulty f) = fault f

abbrev pub next_from : Header → List ℕ → Next
next_from header bytes = next_by (size_of header) bytes (header_on header bytes)

-- the fault, in a header that begins at the place `start`
abbrev pub told : ℕ → HeaderFault → FrameFault
told start (Bad at) = frame.BadHeader (start + at)
told start (TooLong at n) = frame.TooLong (start + at) n

-- How a stream ends.
pub data End : Type 0 where
  whole : End
  inside : End
  failed : FrameFault → End

-- the end, after n bytes of a message that isn't whole
abbrev pub end_after : ℕ → End
end_after n = if n == 0 then whole else inside

-- the end, where the last message begins at `start` and has n bytes
abbrev pub Ends : ℕ → ℕ → Next → End → Type 0
Ends start n (message content size) end = ⊥
Ends start n unfinished end = end ≡ end_after n
Ends start n (fault f) end = end ≡ failed (told start f)

-- The bytes hold these contents, and then end so. The first message begins at the place `start`, and
-- `header` is what its lines before the bytes said.
abbrev pub Reads : ℕ → Header → List ℕ → List (List ℕ) → End → Type 0
Reads start header bytes [] end = Ends start (size_of header + length bytes) (next_from header bytes) end
Reads start header bytes (content ∷ contents) end =
    (size : ℕ) × (next_from header bytes ≡ message content size)
    × Reads (start + size_of header + size) (Open nothing_said) (drop size bytes) contents end

-- The messages of a stream are these, and it ends so.
abbrev pub AreMessages : List ℕ → List (List ℕ) → End → Type 0
AreMessages stream contents end = Reads 0 (Open nothing_said) stream contents end
