-- The state of a machine as the definition sees it, and what its steps come to.
--
-- A reader should check: `Steps`, by which a step gives the definition's answer and leaves the
-- definition's configuration, and changes nothing where memory is wanting.
use Rattle.std.specs.Prelude.{◌≡◌, ℕ, ℤ, ◌+◌, ◌<◌, List, [], ◌∷◌, length, map, Option, Result, Ok, Err, IfOk, OnOk, OnErr, slice_index_or}
use Rattle.std.specs.Global.{Vec}
use Rattle.gob_tree.specs.declared.memory.Memory.{Memory}
use Rattle.gob_tree.specs.declared.unit.Unit.{Unit as TranslationUnit}
use Rattle.c_meaning.specs.declared.config.Stepped.{Stepped}
use Rattle.c_meaning.specs.Config.{Config}
use Rattle.c_meaning.specs.Tree as Tree
use Rattle.c_meaning.specs.Tree.{FrameStep, Site, frame_step, outcome_of, tree_step, word_of, after_step}
use Rattle.tree_run.specs.declared.frame.Frame.{Frame}
use Rattle.tree_run.specs.declared.state.State.{State}
use Rattle.tree_run.specs.declared.todo.Next.{Next}
use Rattle.tree_run.specs.Deeds.{stack_of, IsTopReady}

abbrev pub stack_in : Vec Frame → List Tree.Frame
stack_in frames = stack_of frames.items

abbrev pub stacks_of : List (Vec Frame) → List (List Tree.Frame)
stacks_of = map stack_in

-- the frames of the thread at a place, which is its number less 1
abbrev pub stack_at : List (Vec Frame) → ℕ → List Tree.Frame
stack_at threads place = slice_index_or (stacks_of threads) place []

-- what the machine's state stands for
abbrev pub config_of : State → Config Tree.Frame
config_of s = record { globals = s.globals.items; owners = s.owners.items; threads = stacks_of s.threads.items }

-- in the topmost frame of the thread at a place this comes next
pub record IsReadyAt (threads : List (Vec Frame)) (place : ℕ) (n : Option Next) : Type 0 where
  pub ready : (frames : Vec Frame) → frames ≡ slice_index_or threads place frames → IsTopReady frames.items n

-- where a thread makes a step, in its topmost frame
abbrev pub site_on : TranslationUnit → Config Tree.Frame → ℕ → ℤ → Tree.Frame → List Tree.Frame → Site
site_on unit c thread input frame below =
    record { unit = unit; config = c; thread = thread; input = input; frame = frame; below = below }

-- A step of a thread that can go on gives the definition's word and configuration; nothing changes
-- where memory is wanting.
pub record Does (old new : Config Tree.Frame) (thread : ℕ) (step : FrameStep) (r : Result Stepped Memory) : Type 0 where
  pub word : IfOk r (λ w. w ≡ word_of (outcome_of old thread step))
  pub after : OnOk r (new ≡ after_step old (outcome_of old thread step))
  pub stays : OnErr r (new ≡ old)

-- the same of any thread
pub record Steps (old new : Config Tree.Frame) (unit : TranslationUnit) (thread : ℕ) (input : ℤ) (r : Result Stepped Memory) : Type 0 where
  pub word : IfOk r (λ w. w ≡ word_of (tree_step unit old thread input))
  pub after : OnOk r (new ≡ after_step old (tree_step unit old thread input))
  pub stays : OnErr r (new ≡ old)

-- a thread that can go on, at its place
pub record GoesAt (s : State) (thread place : ℕ) : Type 0 where
  pub number : thread ≡ place + 1
  pub there : place < length s.threads.items
  pub begun : 0 < length (stack_at s.threads.items place)
  pub step : (unit : TranslationUnit) (input : ℤ) (frame : Tree.Frame) (below : List Tree.Frame) → stack_at s.threads.items place ≡ frame ∷ below
      → tree_step unit (config_of s) thread input
      ≡ outcome_of (config_of s) thread (frame_step frame.todo (site_on unit (config_of s) thread input frame below))

-- a thread that has no step, whatever the input
pub record StopsWith (s : State) (thread : ℕ) (word : Stepped) : Type 0 where
  pub word_is : (unit : TranslationUnit) (input : ℤ) → word ≡ word_of (tree_step unit (config_of s) thread input)
  pub stays : (unit : TranslationUnit) (input : ℤ) → config_of s ≡ after_step (config_of s) (tree_step unit (config_of s) thread input)

abbrev pub Finds : State → ℕ → Result ℕ Stepped → Type 0
Finds s thread (Ok place) = GoesAt s thread place
Finds s thread (Err word) = StopsWith s thread word
