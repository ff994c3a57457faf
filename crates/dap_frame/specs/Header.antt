-- What the lines of a header say, one after another.
use Rattle.std.specs.Prelude.{◌≡◌, ℕ, ◌+◌, ◌-◌, ◌≤◌, false, ◌==◌, nat_le, if◌then◌else◌, List, [], ◌∷◌, length, take, Option, Some, None, fold}
use Rattle.std.specs.List.{list_any}
use Rattle.dap_frame.specs.Limits.{header_limit, content_limit}
use Rattle.dap_frame.specs.declared.line.Line.{Line}
use Rattle.dap_frame.specs.declared.line.Line.TheVariants.{Empty, Length, Other, Malformed}
use Rattle.dap_frame.specs.declared.header.LengthLine.{LengthLine}
use Rattle.dap_frame.specs.declared.header.Head.{Head}
use Rattle.dap_frame.specs.declared.header.HeaderFault.TheVariants.{Bad, TooLong}
use Rattle.dap_frame.specs.declared.header.Header.{Header}
use Rattle.dap_frame.specs.declared.header.Header.TheVariants.{Open, Ended, Faulty}
use Rattle.dap_frame.specs.Line.{line_of}

-- no LF stands in the bytes
abbrev pub HasNoLf : List ℕ → Type 0
HasNoLf bytes = list_any (λ b. b == 10) bytes ≡ false

-- the whole lines of the bytes, each without the LF that ends it; what follows the last LF is no line yet
abbrev pub longer_by : ℕ → List (List ℕ) → List (List ℕ)
longer_by b [] = []
longer_by b (line ∷ lines) = (b ∷ line) ∷ lines

abbrev pub lines_of : List ℕ → List (List ℕ)
lines_of [] = []
lines_of (b ∷ bytes) = if b == 10 then [] ∷ lines_of bytes else longer_by b (lines_of bytes)

-- a header before its first line
abbrev pub nothing_said : Head
nothing_said = record { size = 0; length = None }

-- the number of bytes of the lines so far
abbrev pub size_of : Header → ℕ
size_of (Open head) = head.size
size_of (Ended size n) = size
size_of (Faulty fault) = 0

-- what a header may have: bytes, and bytes of content
abbrev pub IsBounded : Header → Type 0
IsBounded (Open head) = head.size ≤ header_limit
IsBounded (Ended size n) = (size ≤ header_limit) × (n ≤ content_limit)
IsBounded (Faulty fault) = Unit {0}

-- at the empty line, by the length that line `at` gave
abbrev pub ended : ℕ → ℕ → ℕ → Header
ended size at n = if nat_le n content_limit then Ended size n else Faulty (TooLong at n)

abbrev pub ended_by : Head → ℕ → Option LengthLine → Header
ended_by head size None = Faulty (Bad head.size)
ended_by head size (Some given) = ended size given.at given.n

-- at a length, which no earlier line has given
abbrev pub given : Head → ℕ → ℕ → Option LengthLine → Header
given head size n None = Open (record { size = size; length = Some (record { at = head.size; n = n }) })
given head size n (Some before) = Faulty (Bad head.size)

-- the header after one more line, with which it has size bytes
abbrev pub judged_by : Head → ℕ → Line → Header
judged_by head size Empty = ended_by head size head.length
judged_by head size (Length n) = given head size n head.length
judged_by head size Other = Open (record { size = size; length = head.length })
judged_by head size Malformed = Faulty (Bad head.size)

abbrev pub judged : Head → List ℕ → Header
judged head line = judged_by head (head.size + length line + 1) (line_of line)

-- what is decided stays so, whatever lines follow
abbrev pub after_line : Header → List ℕ → Header
after_line (Open head) line = judged head line
after_line (Ended size n) line = Ended size n
after_line (Faulty fault) line = Faulty fault

-- The header, where `header` is what the lines before the bytes made of it: only lines that end in
-- its first 4,096 bytes are judged.
abbrev pub header_on : Header → List ℕ → Header
header_on header bytes = fold after_line header (lines_of (take (header_limit - size_of header) bytes))

abbrev pub header_of : List ℕ → Header
header_of bytes = header_on (Open nothing_said) bytes
