-- Threads that can go on, and those that can't.
use Rattle.std.proofs.Common.{◌≡◌, refl, sym, ap, ◌∙◌, subst, ℕ, ℤ, zero, suc, ◌+◌, ◌-◌, ◌<◌, ◌⊎◌, ⊎_elim, inl, inr, Bool, true, false, List, [], ◌∷◌, length, map, reverse, Option, None, Some, arith}
use Rattle.std.specs.Prelude.{slice_get, slice_index_or, if◌then◌else◌}
use Rattle.std.specs.Option.{option_map, option_map_or, option_and_then}
use Rattle.std.specs.Global.{Vec}
use Rattle.std.proofs.lemmas.List.{length-map, length-reverse, reverse-reverse}
use Rattle.std.proofs.lemmas.Option.{slice_get-map, slice_get_within, get_or_from_slice_get}
use Rattle.gob_tree.specs.declared.unit.Unit.{Unit as TranslationUnit}
use Rattle.c_meaning.specs.declared.config.Stepped.TheVariants.{Ended, NoThread}
use Rattle.c_meaning.specs.Config.{Config, thread_at}
use Rattle.c_meaning.specs.Tree as Tree
use Rattle.c_meaning.specs.Tree.{is_over, has_ended, IsEnded, outcome_of, frame_step, thread_step, tree_step, word_of, after_step}
use Rattle.tree_run.specs.declared.frame.Frame.{Frame}
use Rattle.tree_run.specs.declared.state.State.{State}
use Rattle.tree_run.specs.Framing.{shown}
use Rattle.tree_run.specs.Deeds.{stack_of}
use Rattle.tree_run.specs.Going.{stack_in, stacks_of, stack_at, config_of, site_on, GoesAt, StopsWith}
use Rattle.tree_run.specs.Looking.{frame_at}
use Rattle.tree_run.proofs.Stacks.{length_stack}

-- ---- the frames of a thread, by its place

same_items : {B : Type 0} (now : B → List Frame) (o : Option B) (g : Option (Vec Frame)) → option_map now o ≡ option_map (λ (v : Vec Frame). v.items) g → option_map (λ b. stack_of (now b)) o ≡ option_map stack_in g
same_items now None None e = refl
same_items now None (Some v) e = absurd (cc)
same_items now (Some b) None e = absurd (cc)
same_items now (Some b) (Some v) e = let items : now b ≡ v.items = cc in ap (λ l. Some (stack_of l)) items

in_place : (threads : List (Vec Frame)) (t : ℕ) → 0 < t → option_map stack_in (slice_get threads (t - 1)) ≡ thread_at (stacks_of threads) t
in_place threads zero z = absurd (omega (arith, z))
in_place threads (suc i) z =
    let same : suc i - 1 ≡ i = omega arith in
    ap (λ n. option_map stack_in (slice_get threads n)) same ∙ sym (slice_get-map stack_in threads i)

pub thread_shown : {B : Type 0} (now : B → List Frame) (threads ts : List (Vec Frame)) (t : ℕ) (o : Option B) → ts ≡ threads → 0 < t
    → option_map now o ≡ option_map (λ (v : Vec Frame). v.items) (slice_get ts (t - 1)) → option_map (λ b. stack_of (now b)) o ≡ thread_at (stacks_of threads) t
thread_shown now threads ts t o same z e =
    same_items now o (slice_get threads (t - 1)) (e ∙ ap (λ (l : List (Vec Frame)). option_map (λ (v : Vec Frame). v.items) (slice_get l (t - 1))) same) ∙ in_place threads t z

-- a frame from the thread's first
pub frame_shown : (c : Config Tree.Frame) (t i : ℕ) (frames : List Frame) → Some (stack_of frames) ≡ thread_at c.threads t → option_map shown (slice_get frames i) ≡ frame_at c t i
frame_shown c t i frames e =
    sym (slice_get-map shown frames i) ∙ ap (λ l. slice_get l i) (sym (reverse-reverse (map shown frames)))
    ∙ ap (option_and_then (λ (l : List Tree.Frame). slice_get (reverse l) i)) e

-- ---- threads that have no step

pub stops_without : (s : State) (t : ℕ) → None ≡ thread_at (stacks_of s.threads.items) t → StopsWith s t NoThread
stops_without s t e = record {
  word_is = λ unit input. ap (λ (o : Option (List Tree.Frame)). word_of (thread_step unit (config_of s) t input o)) e;
  stays = λ unit input. ap (λ (o : Option (List Tree.Frame)). after_step (config_of s) (thread_step unit (config_of s) t input o)) e;
}

ends : (unit : TranslationUnit) (c : Config Tree.Frame) (t : ℕ) (input : ℤ) (frames : List Tree.Frame) → (length frames ≡ 0) ⊎ (has_ended c 1 ≡ true) → thread_step unit c t input (Some frames) ≡ IsEnded
ends unit c t input [] either = refl
ends unit c t input (g ∷ gs) either =
    ⊎_elim (λ w. absurd (omega (arith, w)))
    (λ w. ap (λ (b : Bool). if b then IsEnded else outcome_of c t (frame_step g.todo (site_on unit c t input g gs))) w) either

pub stops_ended : (s : State) (t : ℕ) (frames : List Frame) → Some (stack_of frames) ≡ thread_at (stacks_of s.threads.items) t → (length frames ≡ 0) ⊎ (has_ended (config_of s) 1 ≡ true) → StopsWith s t Ended
stops_ended s t frames there either =
    let shown_either : (length (stack_of frames) ≡ 0) ⊎ (has_ended (config_of s) 1 ≡ true) = ⊎_elim (λ w. inl (length_stack frames ∙ w)) (λ w. inr w) either in
    let step : (unit : TranslationUnit) (input : ℤ) → tree_step unit (config_of s) t input ≡ IsEnded =
    λ unit input. ap (thread_step unit (config_of s) t input) (sym there) ∙ ends unit (config_of s) t input (stack_of frames) shown_either in
    record {
      word_is = λ unit input. sym (ap word_of (step unit input));
      stays = λ unit input. sym (ap (after_step (config_of s)) (step unit input));
    }

-- ---- a thread that can go on

pub goes_on : (s : State) (t : ℕ) (frames : List Frame) → 0 < t → Some (stack_of frames) ≡ thread_at (stacks_of s.threads.items) t → 0 < length frames → has_ended (config_of s) 1 ≡ false → GoesAt s t (t - 1)
goes_on s zero frames z there some ended = absurd (omega (arith, z))
goes_on s (suc i) frames z there some ended =
    let stacks = stacks_of s.threads.items in
    let at : suc i - 1 ≡ i = omega arith in
    let here : slice_get stacks (suc i - 1) ≡ Some (stack_of frames) = ap (slice_get stacks) at ∙ sym there in
    let within = slice_get_within stacks (suc i - 1) (stack_of frames) here in
    let size = length-map s.threads.items stack_in in
    let shows : stack_at s.threads.items (suc i - 1) ≡ stack_of frames = get_or_from_slice_get stacks (suc i - 1) (stack_of frames) [] here in
    record {
      number = omega arith;
      there = omega (arith, within, size);
      begun = subst (λ n. 0 < n) (sym (ap length shows ∙ length_stack frames)) some;
      step = λ unit input frame below e.
          ap (thread_step unit (config_of s) (suc i) input) (sym there ∙ ap Some (sym shows ∙ e))
          ∙ ap (λ (b : Bool). if b then IsEnded else outcome_of (config_of s) (suc i) (frame_step frame.todo (site_on unit (config_of s) (suc i) input frame below))) ended;
    }
