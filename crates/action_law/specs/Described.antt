-- What states and a table know of a moment of a run of graphs.
--
-- A reader should check: whose mutexes a state speaks of, which globals are in their intervals, and
-- that what an action does beside its own frame is described by exactly one effect, or is nothing
-- that a table speaks of.
use Rattle.std.specs.Prelude.{◌≡◌, ℕ, ℤ, ◌<◌, List, [], ◌∷◌, Option, length, IsSomeAnd}
use Rattle.gob_tree.specs.declared.graph.Program.{Program}
use Rattle.gob_tree.specs.declared.unit.Slot.{Slot}
use Rattle.interval_dom.specs.Bounds.{Bounds, Describes}
use Rattle.c_meaning.specs.Config.{Config, Effect, Keeps, SetsGlobal, SetsOwner, Starts, global_at}
use Rattle.c_meaning.specs.GraphStep.{Frame, Site}
use Rattle.state_dom.specs.StateValue.{StateValue, Bottom, Reached, HoldsEach, DescribesEach, DescribesState}
use Rattle.constraint_sys.specs.declared.unknown.Unknown.TheVariants.{Point, Global}
use Rattle.constraint_sys.specs.declared.value.Effect.{Effect as Given}
use Rattle.constraint_sys.specs.declared.value.Value.TheVariants.{State, Number}
use Rattle.constraint_sys.specs.Table.{TableValue, empty_key, slots_at}
use Rattle.constraint_sys.specs.Transfer.{number_at}

-- the state isn't Bottom, and each slot holds a number of its width that is in its interval;
-- nothing is said of mutexes
abbrev pub DescribesSlots : List Slot → StateValue → List ℤ → Type 0
DescribesSlots slots (Bottom room) values = ⊥
DescribesSlots slots (Reached xs locks) values = HoldsEach slots values × DescribesEach xs values

-- a state describes a frame's slots, and mutexes that the frame's thread owns
abbrev pub DescribesFrame : Program → List (Option ℕ) → ℕ → StateValue → Frame → Type 0
DescribesFrame p owners thread s frame = DescribesState (slots_at p frame.func) s frame.slots owners thread

-- each global of the program is in its interval in the table
abbrev pub DescribesGlobals : Program → TableValue → Config Frame → Type 0
DescribesGlobals p t c = (g : ℕ) → g < length p.globals → IsSomeAnd (number_at t g) (λ v. Describes v (global_at c g))

-- The moment before a step: a state describes the frame that makes it, each global is in its
-- interval in the table, and each mutex of the program has its place among the owners.
pub record IsDescribed (t : TableValue) (s : Site) (state : StateValue) : Type 0 where
  pub frame : DescribesFrame s.program s.config.owners s.thread state s.frame
  pub globals : DescribesGlobals s.program t s.config
  pub owners : length s.config.owners ≡ length s.program.mutexes

-- What an action does beside its own frame, in the effects of its transfer: the value that a global
-- gets is in the one effect on this global, and the first frame of a new thread is described by the
-- one effect on this frame's point in the empty context. Of an owner, and of nothing, there is no
-- effect.
abbrev pub DescribesEffect : Program → List (Option ℕ) → ℕ → Effect Frame → List Given → Type 0
DescribesEffect p owners next Keeps given = given ≡ []
DescribesEffect p owners next (SetsOwner m owner) given = given ≡ []
DescribesEffect p owners next (SetsGlobal g n) given =
    (v : Bounds) × (given ≡ record { target = Global g; value = Number v } ∷ []) × Describes v n
DescribesEffect p owners next (Starts frame) given =
    (s : StateValue) × (given ≡ record { target = Point frame.func empty_key frame.node; value = State s } ∷ [])
    × DescribesFrame p owners next s frame
