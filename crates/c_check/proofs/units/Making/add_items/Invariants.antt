use Rattle.std.proofs.Common.{drop}
use Rattle.c_check.proofs.Making.{ItemsFrom}
use Rattle.c_check.proofs.units.Making.add_items.Given as goal

abbrev pub invariant-loop-item : goal.invariant-loop-item
invariant-loop-item l = ItemsFrom l.items (drop l.item-index l.items) l.fn.self l.self
