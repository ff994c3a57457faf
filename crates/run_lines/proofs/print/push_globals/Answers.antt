use Rattle.std.proofs.Common.{rules, ◌≡◌, ◌++◌, ◌+◌, ◌<◌, drop, length}
use Rattle.std.specs.Prelude.{slice_index_or}
use Rattle.c_meaning.specs.Demand.{value_at}
use Rattle.run_lines.specs.Lines.{global_line, global_lines}
use Rattle.run_lines.proofs.Printing.{line_more, next_global}
use Rattle.run_lines.proofs.print.push_globals.Goals as goal

pub loop-g-preserved : goal.loop-g-preserved
loop-g-preserved c =
    let within : c.loop-g.g < length c.args.decls.now = search rules in
    let is : c.index-decls-g.result ≡ slice_index_or c.args.decls.now c.loop-g.g c.index-decls-g.result = search rules in
    let pushed : c.push_global.new.out.items ≡ c.loop-g.out.items ++ global_line c.index-decls-g.result.name (value_at c.args.values.now c.loop-g.g) = search rules in
    line_more c.loop-g.out.items c.push_global.new.out.items (global_line c.index-decls-g.result.name (value_at c.args.values.now c.loop-g.g)) (global_lines (c.loop-g.g + 1) (drop (c.loop-g.g + 1) c.args.decls.now) c.args.values.now) _ _
    pushed (next_global c.args.decls.now c.args.values.now c.loop-g.g c.index-decls-g.result within is) c.loop-g.invariant
