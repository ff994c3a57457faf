-- Which unknowns are removed by themselves, by what is found out before: the matches, and what is
-- reached from `main`.
use Rattle.std.specs.Prelude.{◌≡◌, ◌⊎◌, ◌<◌, ℕ, List, Option, None, Some, slice_get}
use Rattle.lockset_dom.specs.Members.{Holds, no_locks}
use Rattle.state_dom.specs.StateValue.{locks_of}
use Rattle.constraint_sys.specs.declared.unknown.Key.{Key}
use Rattle.constraint_sys.specs.declared.unknown.Unknown.{Unknown}
use Rattle.constraint_sys.specs.declared.unknown.Unknown.TheVariants.{Point, Global}
use Rattle.constraint_sys.specs.declared.value.Value.{Value}
use Rattle.constraint_sys.specs.declared.value.Value.TheVariants.{State, Number}
use Rattle.constraint_sys.specs.Table.{TableValue, value_at}
use Rattle.destabilise.specs.declared.matching.Matching.{Matching}
use Rattle.destabilise.specs.Linked.{IsStart}
use Rattle.destabilise.specs.Marked.{MarkList, IsMarked}

-- the mutexes that are surely held at an entry
abbrev pub locks_at : Option Value → ℕ
locks_at None = no_locks
locks_at (Some (State s)) = locks_of s
locks_at (Some (Number x)) = no_locks

abbrev pub HasMembersBelow : ℕ → ℕ → Type 0
HasMembersBelow n locks = (m : ℕ) → Holds locks m → m < n

-- the context of an unknown of the table, and what is held there, have mutexes below n alone
abbrev pub KnowsMutexesBelow : ℕ → TableValue → Unknown → Type 0
KnowsMutexesBelow n t (Point f key node) = HasMembersBelow n key.locks × HasMembersBelow n (locks_at (value_at t (Point f key node)))
KnowsMutexesBelow n t (Global g) = Unit {0}

abbrev pub LacksMatch : List (Option ℕ) → ℕ → Type 0
LacksMatch matches i = (j : ℕ) → slice_get matches i ≡ Some (Some j) → ⊥

abbrev pub HoldsUnmatched : List (Option ℕ) → ℕ → Type 0
HoldsUnmatched mutexes locks = (m : ℕ) × Holds locks m × LacksMatch mutexes m

abbrev pub IsUnreached : MarkList → Unknown → Type 0
IsUnreached from_main u = IsStart u × (IsMarked from_main u → ⊥)

abbrev pub IsSeed : Matching → MarkList → TableValue → Unknown → Type 0
IsSeed m from_main t (Point f key node) =
    LacksMatch m.funcs f
    ⊎ (HoldsUnmatched m.mutexes key.locks
    ⊎ (HoldsUnmatched m.mutexes (locks_at (value_at t (Point f key node)))
    ⊎ IsUnreached from_main (Point f key node)))
IsSeed m from_main t (Global g) = LacksMatch m.globals g
