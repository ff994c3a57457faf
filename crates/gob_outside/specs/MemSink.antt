-- What a sink in memory does: each call as a function of the sink's state.
use Rattle.std.specs.Prelude.{◌≡◌, ℕ, ◌≤◌, ◌-◌, nat_eq, List, ◌++◌, length, min, if◌then◌else◌, Some, Result, Ok, Err}
use Rattle.gob_outside.specs.Count.{one_more, fails_next}
use Rattle.gob_outside.specs.Sink.{SinkNow}
use Rattle.gob_outside.specs.declared.failed.Failed.{Failed}

-- the state of a sink in memory
pub record SinkState : Type 0 where
  -- the bytes written
  pub written : List ℕ
  -- how many more bytes have room
  pub room : ℕ
  -- the most bytes that one write moves
  pub piece : ℕ
  -- the calls that fail, counted from 1
  pub failing : List ℕ
  -- how many calls were made
  pub calls : ℕ
  -- how many of them failed
  pub faults : ℕ

-- what such a sink tells: all of its bytes
abbrev pub told : SinkState → SinkNow
told sink = record { written = Some sink.written; faults = sink.faults }

-- how many bytes of a piece a write moves, where it doesn't fail
abbrev pub moved_count : SinkState → List ℕ → ℕ
moved_count sink bytes = min (min (length bytes) sink.piece) sink.room

-- the answer of a write: a piece that isn't empty fails where no room is left
abbrev pub write_answer : SinkState → List ℕ → Result ℕ Failed
write_answer sink bytes =
    if fails_next sink.failing sink.calls then Err (record {})
    else if nat_eq (length bytes) 0 then Ok 0
    else if nat_eq sink.room 0 then Err (record {})
    else Ok (moved_count sink bytes)

-- the answer of a flush
abbrev pub flush_answer : SinkState → Result Unit Failed
flush_answer sink = if fails_next sink.failing sink.calls then Err (record {}) else Ok tt

-- the state after a call that wrote these bytes
abbrev pub after_moving : SinkState → List ℕ → SinkState
after_moving sink bytes = record sink {
  written = sink.written ++ bytes;
  room = sink.room - length bytes;
  calls = one_more sink.calls;
}

-- the state after a call that failed
abbrev pub after_failure : SinkState → SinkState
after_failure sink = record sink { calls = one_more sink.calls; faults = one_more sink.faults }

-- writes put bytes at the end, and their count of faults didn't fall
pub record WritesOn (before after : SinkState) : Type 0 where
  pub written : (more : List ℕ) × (after.written ≡ before.written ++ more)
  pub piece : after.piece ≡ before.piece
  pub failing : after.failing ≡ before.failing
  pub faults : before.faults ≤ after.faults
