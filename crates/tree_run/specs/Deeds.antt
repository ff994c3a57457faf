-- What a step does, as it is decided before anything is changed.
--
-- A reader should check: what is left to do after each way, and the frames and the effect of each
-- deed. `front_step` of the definition says which deed it is.
use Rattle.std.specs.Prelude.{◌≡◌, ℕ, ◌-◌, ◌<◌, List, ◌∷◌, ◌++◌, length, map, reverse, Option, Some, slice_set, slice_index_or}
use Rattle.gob_tree.specs.declared.unit.Unit.{Unit as TranslationUnit}
use Rattle.c_meaning.specs.declared.config.Todo.{Todo}
use Rattle.c_meaning.specs.declared.config.Todo.TheVariants.{Stmt as Doing}
use Rattle.c_meaning.specs.Demand.{with_slot}
use Rattle.c_meaning.specs.Config.{Config, Effect, Keeps, SetsGlobal, SetsOwner, Starts, next_thread}
use Rattle.c_meaning.specs.Tree as Tree
use Rattle.c_meaning.specs.Tree.{FrameStep, Goes as Moves, Waits as Blocks, Fails as Faults, Site, rest_of, after_break, after_continue, with_input, frames_after_return, frame_after, func_slots}
use Rattle.tree_run.specs.declared.deed.Way.{Way}
use Rattle.tree_run.specs.declared.deed.Way.TheVariants.{Pass, Branch, Turn, Break, Continue}
use Rattle.tree_run.specs.declared.deed.Deed.{Deed}
use Rattle.tree_run.specs.declared.deed.Deed.TheVariants as deed
use Rattle.tree_run.specs.declared.deed.Act.{Act}
use Rattle.tree_run.specs.declared.deed.Act.TheVariants.{Gets, Calls, Returns, Goes, Stores, Keeps as KeepsThread}
use Rattle.tree_run.specs.declared.deed.Effect.{Effect as Beside}
use Rattle.tree_run.specs.declared.deed.Effect.TheVariants.{Nothing, Global, Owner, Starts as StartsFrame}
use Rattle.tree_run.specs.declared.frame.Frame.{Frame}
use Rattle.tree_run.specs.Framing.{shown}
use Rattle.tree_run.specs.declared.todo.Next.{Next}
use Rattle.tree_run.specs.Stack.{part_todo, IsReady}

-- what is left to do
abbrev pub after_way : Way → List Todo → List Todo
after_way Pass todo = rest_of todo
after_way (Branch p) todo = Doing p.now ∷ rest_of todo
after_way (Turn lower body) todo = Doing body.now ∷ (part_todo lower ++ rest_of todo)
after_way Break todo = after_break (rest_of todo)
after_way Continue todo = after_continue (rest_of todo)

-- the frames of the thread after an act, where the next thread has this number
abbrev pub act_frames : Act → TranslationUnit → ℕ → Tree.Frame → List Tree.Frame → List Tree.Frame
act_frames (Gets n) unit next frame below = with_input frame n ∷ below
act_frames (Calls f) unit next frame below = shown f ∷ frame ∷ below
act_frames (Returns n) unit next frame below = frames_after_return unit below n
act_frames (Goes way) unit next frame below = frame_after frame (after_way way frame.todo) ∷ below
act_frames (Stores x n) unit next frame below =
    frame_after (record frame { slots = with_slot (func_slots unit frame.func) x n frame.slots }) (rest_of frame.todo) ∷ below
act_frames (KeepsThread var) unit next frame below =
    frame_after (record frame { vars = slice_set frame.vars var (Some next) }) (rest_of frame.todo) ∷ below

abbrev pub effect_beside : Beside → Effect Tree.Frame
effect_beside Nothing = Keeps
effect_beside (Global g n) = SetsGlobal g n
effect_beside (Owner m owner) = SetsOwner m owner
effect_beside (StartsFrame f) = Starts (shown f)

abbrev pub deed_step : Deed → Site → FrameStep
deed_step deed.Waits s = Blocks
deed_step deed.Fails s = Faults
deed_step (deed.Moves act effect) s = Moves (act_frames act s.unit (next_thread s.config) s.frame s.below) (effect_beside effect)

-- the frames of a thread, the topmost first, where they are kept with the topmost last
abbrev pub stack_of : List Frame → List Tree.Frame
stack_of frames = reverse (map shown frames)

-- in the topmost frame, which is there, this comes next
pub record IsTopReady (frames : List Frame) (n : Option Next) : Type 0 where
  pub there : 0 < length frames
  pub ready : (frame : Frame) → frame ≡ slice_index_or frames (length frames - 1) frame → IsReady frame.todo.items n
