-- What is true of each pass between two calls.
use Rattle.std.specs.Prelude.{◌≡◌, ℕ, List, [], ◌∷◌, length, Option, None}
use Rattle.atomic_table.specs.Table.{Me}
use Rattle.atomic_table.specs.Seated.{TableId}
use Rattle.turn_lock.specs.declared.view.Place.{Place}
use Rattle.turn_lock.specs.declared.view.Place.TheVariants.{Outside, Waiting, Inside, Spent}
use Rattle.turn_lock.specs.declared.view.View.{View}
use Rattle.turn_lock.specs.Kinds.{Kind}
use Rattle.turn_lock.specs.Known.{known_of, IsSound}

-- it holds the empty slot while it has the turn, and nothing else
abbrev pub Holds : {B : Type 0} → Place → List (ℕ × Option B) → Type 0
Holds Outside slots = slots ≡ []
Holds (Waiting n) slots = ⊥
Holds (Inside n) slots = slots ≡ (0, None) ∷ []
Holds Spent slots = ⊥

pub record IsPass {B E : Type 0} (kind : E → Kind) (count : ℕ) (z : TableId) (me : Me (Option B) (View E)) : Type 0 where
  pub counted : count ≡ length me.0.seen
  pub holds : Holds me.0.place me.1
  pub sound : IsSound kind (known_of z me.0)
