-- The part of a message that isn't whole, and reading on from it.
use Rattle.std.specs.Prelude.{◌≡◌, ℕ, ◌+◌, ◌<◌, List, ◌++◌, length}
use Rattle.dap_frame.specs.Limits.{header_limit}
use Rattle.dap_frame.specs.declared.header.Head.{Head}
use Rattle.dap_frame.specs.declared.header.Header.{Header}
use Rattle.dap_frame.specs.declared.header.Header.TheVariants.{Open, Ended, Faulty}
use Rattle.dap_frame.specs.Header.{HasNoLf, size_of}
use Rattle.dap_frame.specs.Stream.{End, end_after, Reads}

-- the front of a header line, with room for its LF in the header's first 4,096 bytes
pub record IsLinePart (head : Head) (bytes : List ℕ) : Type 0 where
  pub no_lf : HasNoLf bytes
  pub short : head.size + length bytes < header_limit

-- the front of what the header goes on with: a line, or a content of n bytes
abbrev pub IsUnfinished : Header → List ℕ → Type 0
IsUnfinished (Open head) bytes = IsLinePart head bytes
IsUnfinished (Ended size n) bytes = length bytes < n
IsUnfinished (Faulty f) bytes = ⊥

-- how a stream ends with it
abbrev pub end_within : Header → List ℕ → End
end_within header bytes = end_after (size_of header + length bytes)

-- what reading stops at: a fault, or less than a whole message
abbrev pub Stops : Header → List ℕ → Type 0
Stops (Open head) bytes = IsLinePart head bytes
Stops (Ended size n) bytes = length bytes < n
Stops (Faulty f) bytes = Unit {0}

-- `header` and `bytes` are the messages, which have `size` bytes, and then `header'` and `bytes'`:
-- whatever bytes come after these, reading on from there, with the messages before what is read, is
-- reading from `header` and `bytes`.
pub record Passes (header : Header) (bytes : List ℕ) (messages : List (List ℕ)) (size : ℕ) (header' : Header) (bytes' : List ℕ) : Type 0 where
  pub on : (start at : ℕ) (more : List ℕ) (contents : List (List ℕ)) (end : End) → at ≡ start + size →
      Reads at header' (bytes' ++ more) contents end → Reads start header (bytes ++ more) (messages ++ contents) end
