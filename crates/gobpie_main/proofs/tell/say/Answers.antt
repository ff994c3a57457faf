use Rattle.gobpie_main.proofs.Written.{cut_in_first, said_both}
use Rattle.gobpie_main.proofs.tell.say.Goals as goal

pub returns-in-Ok : goal.returns-in-Ok
returns-in-Ok g c =
    said_both (g.O.Sink.seen c.args.out.now) (g.O.Sink.seen c.write_out-cut_short.new.out) c.args.first.now c.args.second.now
    c.write_out-cut_short.result (g.O.Sink.seen c.write_all.new.sink)
    (record { bytes_are = c.in-Ok.ensures.all; fine = c.in-Ok.ensures.fine }) c.write_out-cut_short.ensures.all c.write_out-cut_short.ensures.failed

pub returns-in-Err : goal.returns-in-Err
returns-in-Err g c =
    cut_in_first (g.O.Sink.seen c.args.out.now) (g.O.Sink.seen c.write_all.new.sink) c.args.first.now c.args.second.now
    c.in-Err.field-0.sent c.in-Err.ensures.fewer c.in-Err.ensures.sent c.in-Err.ensures.failed
