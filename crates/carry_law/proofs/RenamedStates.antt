-- The same state under the numbers of another program.
use Rattle.std.proofs.Common.{◌≡◌, length, refl, ap}
use Rattle.gob_tree.specs.declared.graph.Program.{Program}
use Rattle.state_dom.specs.StateValue.{StateValue, Bottom, Reached, room_of, slots_of}
use Rattle.constraint_sys.specs.Carry.{RenamesLocks}

abbrev pub IsRenamedState : Program → Program → StateValue → StateValue → Type 0
IsRenamedState old new (Bottom room) (Bottom other) = room ≡ other
IsRenamedState old new (Bottom room) (Reached ys others) = ⊥
IsRenamedState old new (Reached xs locks) (Bottom other) = ⊥
IsRenamedState old new (Reached xs locks) (Reached ys others) = (xs ≡ ys) × RenamesLocks old new locks others

module _ (old new : Program) where
  pub renamed_room : (s r : StateValue) → IsRenamedState old new s r → room_of s ≡ room_of r
  renamed_room (Bottom room) (Bottom other) h = h
  renamed_room (Bottom room) (Reached ys others) h = absurd h
  renamed_room (Reached xs locks) (Bottom other) h = absurd h
  renamed_room (Reached xs locks) (Reached ys others) h = ap length h.0

  pub renamed_slots : (s r : StateValue) → IsRenamedState old new s r → slots_of s ≡ slots_of r
  renamed_slots (Bottom room) (Bottom other) h = refl
  renamed_slots (Bottom room) (Reached ys others) h = absurd h
  renamed_slots (Reached xs locks) (Bottom other) h = absurd h
  renamed_slots (Reached xs locks) (Reached ys others) h = h.0
