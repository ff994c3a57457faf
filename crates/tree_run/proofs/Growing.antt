-- A step starts one thread at most.
use Rattle.std.proofs.Common.{◌≡◌, ◌≢◌, refl, sym, ap, ◌∙◌, subst, ℕ, ℤ, zero, suc, ◌+◌, ◌<◌, ◌≤◌, List, [], ◌∷◌, ◌++◌, length, length-append, arith}
use Rattle.std.specs.Prelude.{Result, Ok, Err, IfOk}
use Rattle.std.proofs.lemmas.List.{length-map, length-set}
use Rattle.gob_tree.specs.declared.memory.Memory.{Memory}
use Rattle.gob_tree.specs.declared.unit.Unit.{Unit as TranslationUnit}
use Rattle.c_meaning.specs.Config.{Config, with_thread}
use Rattle.c_meaning.specs.Tree.{Frame, TreeStep, MovesTo, IsBlocked, IsFaulted, IsEnded, HasNoThread, tree_step, after_step}
use Rattle.c_meaning.specs.Laws.{ChangesAtMost, itself, one_global, one_owner, one_thread_more}
use Rattle.c_meaning.specs.declared.config.Stepped.{Stepped}
use Rattle.c_meaning.specs.declared.config.Stepped.TheVariants.{Moved}
use Rattle.c_meaning.proofs.StepLaws.{steps_change_little, only_moves_change}
use Rattle.tree_run.specs.declared.state.State.{State}
use Rattle.tree_run.specs.Going.{stack_in, config_of, Steps}

abbrev AtMostOneMore : Config Frame → Config Frame → Type 0
AtMostOneMore old new = length new.threads ≤ length old.threads + 1

length-with_thread : (threads : List (List Frame)) (t : ℕ) (frames : List Frame) → length (with_thread threads t frames) ≡ length threads
length-with_thread threads zero frames = refl
length-with_thread threads (suc i) frames = length-set threads i frames

same_count : (old new : Config Frame) (t : ℕ) (frames : List Frame) → new.threads ≡ with_thread old.threads t frames → AtMostOneMore old new
same_count old new t frames e =
    let size : length new.threads ≡ length old.threads = ap length e ∙ length-with_thread old.threads t frames in
    omega (arith, size)

changes_grow : (old new : Config Frame) (t : ℕ) → ChangesAtMost old t new → AtMostOneMore old new
changes_grow old new t (itself frames g o e) = same_count old new t frames e
changes_grow old new t (one_global frames g n gs o e) = same_count old new t frames e
changes_grow old new t (one_owner frames m owner g o e) = same_count old new t frames e
changes_grow old new t (one_thread_more frames frame g o e) =
    let size : length new.threads ≡ length (with_thread old.threads t frames) + 1 = ap length e ∙ length-append (with_thread old.threads t frames) ((frame ∷ []) ∷ []) in
    let same = length-with_thread old.threads t frames in
    omega (arith, size, same)

step_grows : (c : Config Frame) (t : ℕ) (s : TreeStep) → ((next : Config Frame) → s ≡ MovesTo next → ChangesAtMost c t next) → AtMostOneMore c (after_step c s)
step_grows c t (MovesTo next) h = changes_grow c next t (h next refl)
step_grows c t IsBlocked h = omega arith
step_grows c t IsFaulted h = omega arith
step_grows c t IsEnded h = omega arith
step_grows c t HasNoThread h = omega arith

pub steps_grow : (unit : TranslationUnit) (c : Config Frame) (t : ℕ) (input : ℤ) → length (after_step c (tree_step unit c t input)).threads ≤ length c.threads + 1
steps_grow unit c t input = step_grows c t (tree_step unit c t input) (λ next e. steps_change_little unit c t input next e)

pub at_most_one_more : (c new : Config Frame) (unit : TranslationUnit) (t : ℕ) (input : ℤ) (r : Result Stepped Memory) → Steps c new unit t input r → length new.threads ≤ length c.threads + 1
at_most_one_more c new unit t input (Ok w) s = let grown = steps_grow unit c t input in let e = ap (λ (k : Config Frame). length k.threads) s.after in omega (arith, grown, e)
at_most_one_more c new unit t input (Err m) s = let e = ap (λ (k : Config Frame). length k.threads) s.stays in omega (arith, e)

pub only_moves : (c new : Config Frame) (unit : TranslationUnit) (t : ℕ) (input : ℤ) (r : Result Stepped Memory) → Steps c new unit t input r → IfOk r (λ w. w ≢ Moved → new ≡ c)
only_moves c new unit t input (Ok w) s = λ not. s.after ∙ only_moves_change unit c t input (λ e. not (s.word ∙ e))
only_moves c new unit t input (Err m) s = tt

-- the threads stay few enough to be numbered
pub stay_numbered : (old new : State) (unit : TranslationUnit) (t : ℕ) (input : ℤ) (r : Result Stepped Memory) → Steps (config_of old) (config_of new) unit t input r → length (config_of old).threads < 4294967295 → length new.threads.items < 4294967296
stay_numbered old new unit t input r s few =
    let grown = at_most_one_more (config_of old) (config_of new) unit t input r s in
    let after = length-map new.threads.items stack_in in
    omega (arith, grown, after, few)
