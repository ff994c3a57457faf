-- What a source in memory does: each read as a function of the source's state.
use Rattle.std.specs.Prelude.{◌≡◌, ℕ, ◌≤◌, nat_eq, nat_lt, ◌&&◌, List, ◌++◌, length, min, drop, if◌then◌else◌, Result, Ok, Err}
use Rattle.gob_outside.specs.Count.{one_more, fails_next}
use Rattle.gob_outside.specs.declared.failed.Failed.{Failed}

-- the state of a source in memory
pub record SourceState : Type 0 where
  -- the bytes still to come
  pub left : List ℕ
  -- the most bytes that one read moves
  pub piece : ℕ
  -- the reads that fail, counted from 1
  pub failing : List ℕ
  -- how many reads were made
  pub calls : ℕ
  -- how many of them failed
  pub faults : ℕ
  -- how many of them found the end
  pub ends : ℕ

-- how many bytes a read into this much room moves, where it doesn't fail
abbrev pub read_count : SourceState → ℕ → ℕ
read_count source room = min (min room source.piece) (length source.left)

-- the answer of a read into this much room
abbrev pub read_answer : SourceState → ℕ → Result ℕ Failed
read_answer source room =
    if fails_next source.failing source.calls then Err (record {}) else Ok (read_count source room)

-- the state after a read that moved this many bytes into this much room; nothing into some is an end
abbrev pub after_reading : SourceState → ℕ → ℕ → SourceState
after_reading source room count = record source {
  left = drop count source.left;
  calls = one_more source.calls;
  ends = if nat_eq count 0 && nat_lt 0 room then one_more source.ends else source.ends;
}

-- the state after a read that failed
abbrev pub after_failed_read : SourceState → SourceState
after_failed_read source = record source { calls = one_more source.calls; faults = one_more source.faults }

-- reads took bytes off the front, and their counts didn't fall
pub record ReadsOn (before after : SourceState) : Type 0 where
  pub left : (taken : List ℕ) × (before.left ≡ taken ++ after.left)
  pub piece : after.piece ≡ before.piece
  pub failing : after.failing ≡ before.failing
  pub faults : before.faults ≤ after.faults
  pub ends : before.ends ≤ after.ends
