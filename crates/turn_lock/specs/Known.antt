-- What contracts see of a lock and of a pass.
use Rattle.std.specs.Prelude.{◌≡◌, ◌⊎◌, ℕ, ◌<◌, ◌≤◌, List, [], ◌∷◌, ◌++◌, length, Bool, true, All, AllPairs}
use Rattle.atomic_table.specs.Seated.{TableId}
use Rattle.turn_lock.specs.declared.logged.Role.{Role}
use Rattle.turn_lock.specs.declared.view.View.{View}
use Rattle.turn_lock.specs.Kinds.{Kind, OwnsSubjects, MayAdd}
use Rattle.turn_lock.specs.Turn.{has_turn}

-- which lock it is, and the terms of its value
pub record Lock : Type 0 where
  pub table : TableId
  pub terms : ℕ

-- a pass: its lock, its role, the entries that it has seen, the places among these of its own entries, how many entries it saw at each take, how many entries the value has at least, and whether it has the turn
pub record Known (E : Type 0) : Type 0 where
  pub lock : Lock
  pub role : Role
  pub seen : List E
  pub mine : List ℕ
  pub looks : List ℕ
  pub least : ℕ
  pub turn : Bool

abbrev pub known_of : {E : Type 0} → TableId → View E → Known E
known_of z v = record { lock = record { table = z; terms = v.terms }; role = v.role; seen = v.seen; mine = v.mine; looks = v.looks; least = v.least; turn = has_turn v.place }

-- what holds of every pass
pub record IsSound {E : Type 0} (kind : E → Kind) (p : Known E) : Type 0 where
  -- its own places ascend, and are among the entries seen
  pub ascending : AllPairs (λ a b. a < b) p.mine
  pub below : All (λ k. k < length p.seen) p.mine
  -- no look saw fewer entries than one before it, or more than are seen now
  pub rising : AllPairs (λ a b. a ≤ b) p.looks
  pub looked : All (λ n. n ≤ length p.seen) p.looks
  -- all entries seen about a subject that it began are its own
  pub subjects : OwnsSubjects kind p.seen p.mine
  -- while it has the turn it has seen all
  pub whole : p.turn ≡ true → p.least ≡ length p.seen

-- the entries are those that the pass has seen, or these and one more that it may add
abbrev pub MayGive : {E : Type 0} → (E → Kind) → Known E → List E → Type 0
MayGive {E} kind p entries = (entries ≡ p.seen) ⊎ ((e : E) × (entries ≡ p.seen ++ e ∷ []) × MayAdd kind p.role p.seen p.mine e)
