use Rattle.std.proofs.Common.{◌≡◌, ◌⊎◌, ◌↔◌, ◌+◌, Some, false, length, take}
use Rattle.std.specs.Prelude.{Contains}
use Rattle.constraint_sys.specs.declared.unknown.Unknown.{Unknown}
use Rattle.destabilise.specs.Marked.{IsIn, IsMarked, mark_at, unmarked_count}
use Rattle.destabilise.proofs.marks.Marks.add_each.Given as goal

abbrev pub invariant-loop-u : goal.invariant-loop-u
invariant-loop-u l = record {
  there : (v : Unknown) → IsIn l.self v ↔ IsIn l.fn.self v;
  marked : (v : Unknown) → IsMarked l.self v ↔ (IsMarked l.fn.self v ⊎ (Contains (take l.u-index l.us) v × IsIn l.fn.self v));
  waiting : (v : Unknown) → Contains l.waiting.items v ↔ (Contains l.fn.waiting.items v ⊎ (Contains (take l.u-index l.us) v × (mark_at l.fn.self v ≡ Some false)));
  balance : length l.waiting.items + unmarked_count l.self ≡ length l.fn.waiting.items + unmarked_count l.fn.self;
}
