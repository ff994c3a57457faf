-- Each call of a source and of a sink in memory is a step.
use Rattle.std.proofs.Common.{◌≡◌, ℕ, ◌≤◌, List, [], ◌++◌, take, Result, Ok, Err, MatchResult, sym, ap, ◌∙◌, append-nil}
use Rattle.std.proofs.lemmas.List.{take-append-drop}
use Rattle.gob_outside.specs.declared.failed.Failed.{Failed}
use Rattle.gob_outside.specs.MemSource.{SourceState, ReadsOn, after_reading, after_failed_read}
use Rattle.gob_outside.specs.MemSink.{SinkState, WritesOn, after_moving, after_failure}

-- a read is a step, whether it failed or not
pub read_is_step : (source after : SourceState) (room : ℕ) (result : Result ℕ Failed) → source.faults ≤ after.faults → source.ends ≤ after.ends
    → MatchResult result (λ n. after ≡ after_reading source room n) (λ _. after ≡ after_failed_read source) → ReadsOn source after
read_is_step source after room (Ok count) faults ends is = record {
  left = (take count source.left, sym (ap (λ (s : SourceState). take count source.left ++ s.left) is ∙ take-append-drop count source.left));
  piece = ap (λ (s : SourceState). s.piece) is;
  failing = ap (λ (s : SourceState). s.failing) is;
  faults = faults;
  ends = ends;
}
read_is_step source after room (Err fail) faults ends is = record {
  left = ([], sym (ap (λ (s : SourceState). s.left) is));
  piece = ap (λ (s : SourceState). s.piece) is;
  failing = ap (λ (s : SourceState). s.failing) is;
  faults = faults;
  ends = ends;
}

-- a write or a flush that didn't fail is a step
pub write_is_step : (sink after : SinkState) (bytes : List ℕ) → sink.faults ≤ after.faults
    → after ≡ after_moving sink bytes → WritesOn sink after
write_is_step sink after bytes faults is = record {
  written = (bytes, ap (λ (s : SinkState). s.written) is);
  piece = ap (λ (s : SinkState). s.piece) is;
  failing = ap (λ (s : SinkState). s.failing) is;
  faults = faults;
}

-- a write or a flush that failed is a step
pub failed_write_is_step : (sink after : SinkState) → sink.faults ≤ after.faults → after ≡ after_failure sink → WritesOn sink after
failed_write_is_step sink after faults is = record {
  written = ([], ap (λ (s : SinkState). s.written) is ∙ sym (append-nil sink.written));
  piece = ap (λ (s : SinkState). s.piece) is;
  failing = ap (λ (s : SinkState). s.failing) is;
  faults = faults;
}
