-- Marks on the unknowns of a table, and what is reached from some by a rule.
use Rattle.std.specs.Prelude.{◌≡◌, ◌≢◌, ◌+◌, ℕ, Bool, true, not, cond, List, [], ◌∷◌, Option, None, Some}
use Rattle.std.specs.Map.{lookup}
use Rattle.indexmap.specs.IndexMap.{insert_entry}
use Rattle.constraint_sys.specs.Table.{unknown_eq}
use Rattle.constraint_sys.specs.declared.unknown.Unknown.{Unknown}

-- each unknown with whether it is marked
abbrev pub MarkList : Type 0
MarkList = List (Unknown × Bool)

abbrev pub mark_at : MarkList → Unknown → Option Bool
mark_at marks u = lookup (unknown_eq u) marks

abbrev pub with_mark : MarkList → Unknown → Bool → MarkList
with_mark marks u mark = insert_entry unknown_eq marks u mark

-- the unknown is one of those that can be marked
abbrev pub IsIn : MarkList → Unknown → Type 0
IsIn marks u = mark_at marks u ≢ None

abbrev pub IsMarked : MarkList → Unknown → Type 0
IsMarked marks u = mark_at marks u ≡ Some true

-- how many can still be marked
abbrev pub unmarked_count : MarkList → ℕ
unmarked_count [] = 0
unmarked_count (e ∷ es) = cond (not e.1) 1 0 + unmarked_count es

-- the least set that holds the seeds and, with each member, what the rule leads to
pub data IsLeast (Seed : Unknown → Type 0) (Rule : Unknown → Unknown → Type 0) : Unknown → Type 0 where
  seed : {u : Unknown} → Seed u → IsLeast Seed Rule u
  next : {u v : Unknown} → IsLeast Seed Rule u → Rule u v → IsLeast Seed Rule v
