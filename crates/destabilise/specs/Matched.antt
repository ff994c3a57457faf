-- What of an old program is in a new one, by number.
use Rattle.std.specs.Prelude.{◌≡◌, ◌↔◌, ℕ, List, Option, Some, length, slice_get}
use Rattle.gob_tree.specs.Named.{SameFunction}
use Rattle.gob_tree.specs.declared.graph.Program.{Program}
use Rattle.constraint_sys.specs.Carry.{SameGlobal, SameMutex}
use Rattle.destabilise.specs.declared.kind.Kind.{Kind}
use Rattle.destabilise.specs.declared.kind.Kind.TheVariants.{Function, Global, Mutex}
use Rattle.destabilise.specs.declared.matching.Matching.{Matching}

-- number i of the old program is number j of the new one
abbrev pub IsSame : Kind → Program → ℕ → Program → ℕ → Type 0
IsSame Function old i new j = SameFunction old i new j
IsSame Global old i new j = SameGlobal old i new j
IsSame Mutex old i new j = SameMutex old i new j

abbrev pub count_of : Kind → Program → ℕ
count_of Function p = length p.funcs
count_of Global p = length p.globals
count_of Mutex p = length p.mutexes

-- for each number of the old program the one that it has in the new one, where it has one
pub record AreMatches (kind : Kind) (old new : Program) (matches : List (Option ℕ)) : Type 0 where
  pub len : length matches ≡ count_of kind old
  pub matches_are : (i j : ℕ) → (slice_get matches i ≡ Some (Some j)) ↔ IsSame kind old i new j

pub record IsMatching (old new : Program) (m : Matching) : Type 0 where
  pub funcs : AreMatches Function old new m.funcs
  pub globals : AreMatches Global old new m.globals
  pub mutexes : AreMatches Mutex old new m.mutexes
