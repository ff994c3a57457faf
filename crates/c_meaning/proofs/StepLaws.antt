-- What a step changes, and what a run begins with.
use Rattle.std.proofs.Common.{◌≡◌, ◌≢◌, refl, subst, ℕ, ℤ, Bool, true, false, List, [], ◌∷◌, ◌++◌, Option, None, Some}
use Rattle.std.specs.Prelude.{if◌then◌else◌}
use Rattle.gob_tree.specs.declared.unit.Unit.{Unit as TranslationUnit}
use Rattle.c_meaning.specs.declared.config.Choice.{Choice}
use Rattle.c_meaning.specs.declared.config.Stepped.TheVariants.{Moved}
use Rattle.c_meaning.specs.Config.{Config, Effect, Keeps, SetsGlobal, SetsOwner, Starts, after_effect, thread_at}
use Rattle.c_meaning.specs.Tree.{Frame, FrameStep, Goes, Waits, Fails, TreeStep, MovesTo, IsBlocked, IsFaulted, IsEnded, HasNoThread, outcome_of, thread_step, tree_step, word_of, after_step, has_ended, first_tree}
use Rattle.c_meaning.specs.Run.{chosen, if_moved, moved_from}
use Rattle.c_meaning.specs.Laws.{ChangesAtMost, itself, one_global, one_owner, one_thread_more, StepsChangeLittle, OnlyMovesChange, PrefixesAreRuns}

effect_changes : (c : Config Frame) (t : ℕ) (frames : List Frame) (effect : Effect Frame) → ChangesAtMost c t (after_effect c t frames effect)
effect_changes c t frames Keeps = itself frames refl refl refl
effect_changes c t frames (SetsGlobal g n) = one_global frames g n refl refl refl
effect_changes c t frames (SetsOwner m owner) = one_owner frames m owner refl refl refl
effect_changes c t frames (Starts frame) = one_thread_more frames frame refl refl refl

outcome_changes : (c : Config Frame) (t : ℕ) (s : FrameStep) (next : Config Frame) → outcome_of c t s ≡ MovesTo next → ChangesAtMost c t next
outcome_changes c t (Goes frames effect) next e = let same : after_effect c t frames effect ≡ next = cc in subst (ChangesAtMost c t) same (effect_changes c t frames effect)
outcome_changes c t Waits next e = cc
outcome_changes c t Fails next e = cc

unless_ended : (c : Config Frame) (t : ℕ) (ended : Bool) (s : FrameStep) (next : Config Frame) → (if ended then IsEnded else outcome_of c t s) ≡ MovesTo next → ChangesAtMost c t next
unless_ended c t true s next e = cc
unless_ended c t false s next e = outcome_changes c t s next e

thread_changes : (unit : TranslationUnit) (c : Config Frame) (t : ℕ) (input : ℤ) (frames : Option (List Frame)) (next : Config Frame) → thread_step unit c t input frames ≡ MovesTo next → ChangesAtMost c t next
thread_changes unit c t input None next e = cc
thread_changes unit c t input (Some []) next e = cc
thread_changes unit c t input (Some (frame ∷ below)) next e = unless_ended c t (has_ended c 1) _ next e

pub steps_change_little : StepsChangeLittle
steps_change_little unit c t input next e = thread_changes unit c t input (thread_at c.threads t) next e

unmoved : (c : Config Frame) (s : TreeStep) → word_of s ≢ Moved → after_step c s ≡ c
unmoved c (MovesTo next) n = absurd (n refl)
unmoved c IsBlocked n = refl
unmoved c IsFaulted n = refl
unmoved c IsEnded n = refl
unmoved c HasNoThread n = refl

pub only_moves_change : OnlyMovesChange
only_moves_change unit c t input n = unmoved c (tree_step unit c t input) n

-- a run from a configuration, cut after its first part
prefix_moves : (unit : TranslationUnit) (first later : List Choice) (c last : Config Frame) → moved_from unit c (first ++ later) ≡ Some last → (middle : Config Frame) × (moved_from unit c first ≡ Some middle)
prefix_moves unit [] later c last e = (c, refl)
prefix_moves unit (choice ∷ first) later c last e = go (chosen unit c choice) (λ next. prefix_moves unit first later next last) e
  where
    go : (s : TreeStep) → ((next : Config Frame) → moved_from unit next (first ++ later) ≡ Some last → (middle : Config Frame) × (moved_from unit next first ≡ Some middle))
        → if_moved s (λ next. moved_from unit next (first ++ later)) ≡ Some last → (middle : Config Frame) × (if_moved s (λ next. moved_from unit next first) ≡ Some middle)
    go (MovesTo next) rest e' = rest next e'
    go IsBlocked rest e' = cc
    go IsFaulted rest e' = cc
    go IsEnded rest e' = cc
    go HasNoThread rest e' = cc

pub prefixes_are_runs : PrefixesAreRuns
prefixes_are_runs unit first later last e = prefix_moves unit first later (first_tree unit) last e
