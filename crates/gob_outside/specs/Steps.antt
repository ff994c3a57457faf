-- Laws of the steps of a source and of a sink in memory: nothing is a step, and steps one after
-- another are one.
use Rattle.std.proofs.Common.{[], ◌++◌, refl, sym, ap, ◌∙◌, append_assoc, append-nil, le_refl, le_trans}
use Rattle.gob_outside.specs.MemSource.{SourceState, ReadsOn}
use Rattle.gob_outside.specs.MemSink.{SinkState, WritesOn}

-- no read is a step
pub reads_stay : (source : SourceState) → ReadsOn source source
reads_stay source = record {
  left = ([], refl);
  piece = refl;
  failing = refl;
  faults = le_refl source.faults;
  ends = le_refl source.ends;
}

-- steps of a source after one another are one
pub reads_go_on : (before between after : SourceState) → ReadsOn before between → ReadsOn between after → ReadsOn before after
reads_go_on before between after first second = record {
  left = (
    first.left.0 ++ second.left.0,
    first.left.1 ∙ (ap (λ l. first.left.0 ++ l) second.left.1 ∙ sym (append_assoc first.left.0 second.left.0 after.left)),
  );
  piece = second.piece ∙ first.piece;
  failing = second.failing ∙ first.failing;
  faults = le_trans first.faults second.faults;
  ends = le_trans first.ends second.ends;
}

-- no write is a step
pub writes_stay : (sink : SinkState) → WritesOn sink sink
writes_stay sink = record {
  written = ([], sym (append-nil sink.written));
  piece = refl;
  failing = refl;
  faults = le_refl sink.faults;
}

-- steps of a sink after one another are one
pub writes_go_on : (before between after : SinkState) → WritesOn before between → WritesOn between after → WritesOn before after
writes_go_on before between after first second = record {
  written = (
    first.written.0 ++ second.written.0,
    second.written.1 ∙ (ap (λ l. l ++ second.written.0) first.written.1 ∙ append_assoc before.written first.written.0 second.written.0),
  );
  piece = second.piece ∙ first.piece;
  failing = second.failing ∙ first.failing;
  faults = le_trans first.faults second.faults;
}
