-- What the notes are about, and what a trial leaves.
use Rattle.std.specs.Prelude.{◌≡◌, ℕ, ◌≤◌, true, false, List, Some, None, Contains, slice_get}
use mathlib.Core.List.{IsPrefix}
use Rattle.turn_lock.specs.declared.logged.Role.TheVariants.{Hand, Worker}
use Rattle.turn_lock.specs.Kinds.{Kind, IsAbout}
use Rattle.turn_lock.specs.Known.{Lock, Known, IsSound}
use Rattle.turn_trial.specs.declared.notes.Note.{Note}
use Rattle.turn_trial.specs.declared.notes.Note.TheVariants.{Said, Opened, Closed, Taken}

abbrev pub kind_of : Note → Kind
kind_of (Said role n) = record { role = role; subject = None; begins = false }
kind_of (Opened s) = record { role = Hand; subject = Some s; begins = true }
kind_of (Closed s) = record { role = Hand; subject = Some s; begins = false }
kind_of (Taken n) = record { role = Worker; subject = Some n; begins = true }

-- its session, if it is about one, is among the first n
abbrev pub IsWithin : ℕ → Note → Type 0
IsWithin n (Said role k) = Unit {0}
IsWithin n (Opened s) = s ≤ n
IsWithin n (Closed s) = s ≤ n
IsWithin n (Taken k) = Unit {0}

-- no note is about the session
abbrev pub IsNew : ℕ → List Note → Type 0
IsNew s notes = (k : ℕ) (n : Note) → slice_get notes k ≡ Some n → IsAbout kind_of Hand s n → ⊥

-- the pass is the lock's, and outside
pub record IsOutside (lock : Lock) (p : Known Note) : Type 0 where
  pub own : p.lock ≡ lock
  pub out : p.turn ≡ false
  pub sound : IsSound kind_of p

-- the pass is outside again, and has seen more
pub record GoesOn (lock : Lock) (p q : Known Note) : Type 0 where
  pub outside : IsOutside lock q
  pub role : q.role ≡ p.role
  pub seen : IsPrefix p.seen q.seen

-- the pass has seen the opening of the session, which is its own
pub record HasOpened (s : ℕ) (p : Known Note) : Type 0 where
  pub first : ℕ
  pub opened : slice_get p.seen first ≡ Some (Opened s)
  pub own : Contains p.mine first

-- the pass has seen the session from its opening to its closing, and both notes are its own
pub record HasServed (s : ℕ) (p : Known Note) : Type 0 where
  pub first : ℕ
  pub last : ℕ
  pub opened : slice_get p.seen first ≡ Some (Opened s)
  pub closed : slice_get p.seen last ≡ Some (Closed s)
  pub own_first : Contains p.mine first
  pub own_last : Contains p.mine last
