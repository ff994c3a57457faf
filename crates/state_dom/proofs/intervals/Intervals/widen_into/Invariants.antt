use Rattle.std.proofs.Common.{◌≡◌, ◌++◌, take, drop, length}
use Rattle.interval_dom.specs.Marks.{widened}
use Rattle.state_dom.specs.StateValue.{CoversEach, on_each}
use Rattle.state_dom.proofs.intervals.Intervals.widen_into.Given as goal

abbrev pub invariant-loop-i : goal.invariant-loop-i
invariant-loop-i l = record {
  sized : length l.self ≡ length l.fn.self;
  value : take l.i l.self ++ on_each (λ x y. widened x y l.marks) (drop l.i l.self) (drop l.i l.other) ≡ on_each (λ x y. widened x y l.marks) l.fn.self l.other;
  rest : drop l.i l.self ≡ drop l.i l.fn.self;
  old : CoversEach (take l.i l.self) (take l.i l.fn.self);
  new : CoversEach (take l.i l.self) (take l.i l.other);
}
