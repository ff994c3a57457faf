-- What a door in memory does: each call as a function of the door's state.
use Rattle.std.specs.Prelude.{ℕ, ◌-◌, List, [], ◌∷◌, ◌++◌, if◌then◌else◌, Option, None, Some, Result, Ok, Err}
use Rattle.gob_outside.specs.Count.{one_more, fails_next}
use Rattle.gob_outside.specs.declared.failed.Failed.{Failed}

-- the state of a door in memory, whose connections are of this type
pub record DoorState (X : Type 0) : Type 0 where
  -- the connections still to come
  pub coming : List X
  -- those that came back
  pub finished : List X
  -- how many are out
  pub out : ℕ
  -- the calls of `next` that fail, counted from 1
  pub failing : List ℕ
  -- how many calls of `next` were made
  pub calls : ℕ
  -- how many of them failed
  pub faults : ℕ
  -- how many of them found no connection left
  pub ends : ℕ

module _ {X : Type 0} where
  -- the first connection, if there is one
  abbrev pub first_of : List X → Option X
  first_of [] = None
  first_of (first ∷ others) = Some first

  -- the answer of `next`
  abbrev pub next_answer : DoorState X → Result (Option X) Failed
  next_answer door = if fails_next door.failing door.calls then Err (record {}) else Ok (first_of door.coming)

  -- the state after a `next` that gave the first of these connections, or found none
  abbrev pub after_giving : DoorState X → List X → DoorState X
  after_giving door [] = record door { calls = one_more door.calls; ends = one_more door.ends }
  after_giving door (first ∷ others) = record door { coming = others; calls = one_more door.calls; out = one_more door.out }

  -- the state after a `next` that failed
  abbrev pub after_failed_next : DoorState X → DoorState X
  after_failed_next door = record door { calls = one_more door.calls; faults = one_more door.faults }

  -- the state after a connection came back
  abbrev pub after_done : DoorState X → X → DoorState X
  after_done door conn = record door { finished = door.finished ++ conn ∷ []; out = door.out - 1 }
