use Rattle.std.proofs.Common.{rules, ◌≡◌, ◌++◌, ◌+◌, ◌-◌, ◌<◌, length}
use Rattle.std.specs.Prelude.{option_map}
use Rattle.tree_run.specs.Looking.{top_frame}
use Rattle.tree_run.specs.Viewing.{top_of}
use Rattle.run_lines.specs.Lines.{thread_line, thread_lines}
use Rattle.run_lines.proofs.Printing.{line_more, next_thread_line}
use Rattle.run_lines.proofs.print.push_threads.Goals as goal

pub loop-before-preserved : goal.loop-before-preserved
loop-before-preserved c =
    let within : c.loop-before.before < length c.args.machine.now.threads = search rules in
    let pushed : c.push_thread.new.out.items ≡ c.loop-before.out.items ++ thread_line c.args.unit.now (c.loop-before.before + 1) (option_map top_of (top_frame c.args.machine.now (c.loop-before.before + 1))) = search rules in
    line_more c.loop-before.out.items c.push_thread.new.out.items (thread_line c.args.unit.now (c.loop-before.before + 1) (option_map top_of (top_frame c.args.machine.now (c.loop-before.before + 1)))) (thread_lines c.args.unit.now c.args.machine.now (c.loop-before.before + 1 + 1) (length c.args.machine.now.threads - (c.loop-before.before + 1))) _ _
    pushed (next_thread_line c.args.unit.now c.args.machine.now (c.loop-before.before + 1) (length c.args.machine.now.threads) c.loop-before.before within) c.loop-before.invariant
