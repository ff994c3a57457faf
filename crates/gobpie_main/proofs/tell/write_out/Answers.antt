use Rattle.gobpie_main.proofs.Written.{cut_at_flush}
use Rattle.gobpie_main.proofs.tell.write_out.Goals as goal

pub returns-in-Ok-clause-failed : goal.returns-in-Ok-clause-failed
returns-in-Ok-clause-failed g c =
    cut_at_flush (g.O.Sink.seen c.args.out.now) (g.O.Sink.seen c.flush.new.self) c.args.bytes.now c.flush.result (g.O.Sink.seen c.write_all.new.sink)
    (record { bytes_are = c.in-Ok.ensures.all; fine = c.in-Ok.ensures.fine }) c.flush.ensures.kept c.flush.ensures.failed

pub returns-in-Err-clause-failed : goal.returns-in-Err-clause-failed
returns-in-Err-clause-failed g c = record { sent = c.in-Err.field-0.sent; bytes_are = c.in-Err.ensures.sent; failed = c.in-Err.ensures.failed }
