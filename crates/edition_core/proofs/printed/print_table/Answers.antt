use Rattle.std.proofs.Common.{ap, List, rules}
use Rattle.std.specs.Map.{keys_of}
use Rattle.constraint_sys.specs.declared.unknown.Unknown.{Unknown}
use Rattle.edition_core.specs.Printed.{lines_of}
use Rattle.constraint_sys.proofs.SortedUnknowns.{sorted_is_in_order}
use Rattle.edition_core.proofs.printed.print_table.Goals as goal

pub returns : goal.returns
returns c =
    let table = c.args.table.now in
    let order = c.in_ok-order.order.items in
    let in_order = ap (λ (us : List Unknown). lines_of c.args.program.now table us) (sorted_is_in_order (keys_of table) order c.in_ok-order.ensures.all c.in_ok-order.ensures.sorted) in
    search (rules, in_order)
