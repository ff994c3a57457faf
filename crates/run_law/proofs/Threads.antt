-- The threads after a step.
use Rattle.std.proofs.Common.{◌≡◌, ◌≢◌, ◌⊎◌, inl, inr, ◌∙◌, refl, sym, ap, subst, ℕ, zero, suc, ◌+◌, ℤ, List, [], ◌∷◌, ◌++◌, length, Option, Some, arith, add-one}
use Rattle.std.specs.Prelude.{slice_get, slice_set}
use Rattle.std.proofs.lemmas.Bool.{cases_eq}
use Rattle.std.proofs.lemmas.List.{length-set}
use Rattle.std.proofs.lemmas.Option.{none-some, same_Some}
use Rattle.gob_tree.specs.declared.graph.Program.{Program}
use Rattle.gob_tree.specs.declared.unit.Slot.{Slot}
use Rattle.c_meaning.specs.Config.{Config, thread_at, with_thread, Effect, Keeps, SetsGlobal, SetsOwner, Starts, after_effect, next_thread}
use Rattle.c_meaning.specs.GraphStep.{Frame}
use Rattle.state_dom.specs.StateValue.{StateValue, Bottom, Reached, DescribesState}
use Rattle.constraint_sys.specs.declared.unknown.Key.{Key}
use Rattle.constraint_sys.specs.Table.{TableValue, empty_key, slots_at, state_at}
use Rattle.action_law.specs.Described.{DescribesFrame, DescribesGlobals}
use Rattle.action_law.proofs.Others.{MayChange, effect_owners, other_thread}
use Rattle.run_law.specs.Known.{IsKnown, KnowsThread}

-- ---- whose frames are whose

set_there : {A : Type 0} (xs : List A) (i : ℕ) (x z : A) → slice_get xs i ≡ Some z → slice_get (slice_set xs i x) i ≡ Some x
set_there [] i x z e = absurd (none-some z e)
set_there (y ∷ xs) zero x z e = refl
set_there (y ∷ xs) (suc i) x z e = set_there xs i x z e

own_frames : (threads : List (List Frame)) (thread : ℕ) (mine old : List Frame) → thread_at threads thread ≡ Some old → thread_at (with_thread threads thread mine) thread ≡ Some mine
own_frames threads zero mine old e = absurd (none-some old e)
own_frames threads (suc i) mine old e = set_there threads i mine old e

-- the frames of a thread after one thread got others: its own, or those that were there
abbrev pub IsItsOwn : List (List Frame) → ℕ → List Frame → ℕ → List Frame → Type 0
IsItsOwn threads thread mine i frames = ((i ≡ thread) × (mine ≡ frames)) ⊎ ((i ≢ thread) × (thread_at threads i ≡ Some frames))

pub its_own : (threads : List (List Frame)) (thread : ℕ) (mine old : List Frame) (i : ℕ) (frames : List Frame) → thread_at threads thread ≡ Some old → thread_at (with_thread threads thread mine) i ≡ Some frames → IsItsOwn threads thread mine i frames
its_own threads thread mine old i frames there at = elim (cases_eq i thread) [
  | inl same ↦ inl (same, same_Some mine frames (sym (own_frames threads thread mine old there) ∙ subst (λ (j : ℕ). thread_at (with_thread threads thread mine) j ≡ Some frames) same at))
  | inr apart ↦ inr (apart, sym (other_thread threads thread i mine apart) ∙ at)
]

get_last : {A : Type 0} (xs : List A) (y z : A) (i : ℕ) → slice_get (xs ++ y ∷ []) i ≡ Some z → (slice_get xs i ≡ Some z) ⊎ ((i ≡ length xs) × (y ≡ z))
get_last [] y z zero e = inr (refl, same_Some y z e)
get_last [] y z (suc i) e = absurd (none-some z e)
get_last (x ∷ xs) y z zero e = inl e
get_last (x ∷ xs) y z (suc i) e = elim (get_last xs y z i e) [ inl there ↦ inl there | inr last ↦ inr (ap suc last.0, last.1) ]

-- one more thread at the end
pub more_thread : (threads : List (List Frame)) (new frames : List Frame) (i : ℕ) → thread_at (threads ++ new ∷ []) i ≡ Some frames → (thread_at threads i ≡ Some frames) ⊎ ((i ≡ length threads + 1) × (new ≡ frames))
more_thread threads new frames zero e = absurd (none-some frames e)
more_thread threads new frames (suc i) e = elim (get_last threads new frames i e) [
  | inl there ↦ inl there
  | inr last ↦ inr (ap suc last.0 ∙ sym (add-one (length threads)), last.1)
]

pub length_with : (threads : List (List Frame)) (thread : ℕ) (mine : List Frame) → length (with_thread threads thread mine) ≡ length threads
length_with threads zero mine = refl
length_with threads (suc i) mine = length-set threads i mine

-- ---- what stays known

abbrev pub IfStarts : Effect Frame → (Frame → Type 0) → Type 0
IfStarts Keeps P = Unit {0}
IfStarts (SetsGlobal g n) P = Unit {0}
IfStarts (SetsOwner m owner) P = Unit {0}
IfStarts (Starts frame) P = P frame

pub length_owners : (c : Config Frame) (thread : ℕ) (mine : List Frame) (effect : Effect Frame) → length (after_effect c thread mine effect).owners ≡ length c.owners
length_owners c thread mine Keeps = refl
length_owners c thread mine (SetsGlobal g n) = refl
length_owners c thread mine (SetsOwner m owner) = length-set c.owners m owner
length_owners c thread mine (Starts frame) = refl

module _ (p : Program) (t : TableValue) (c : Config Frame) (thread : ℕ) (mine : List Frame) (effect : Effect Frame) (may : MayChange c.owners thread effect) where
  abbrev After : List (Option ℕ)
  After = (after_effect c thread mine effect).owners

  state_stays : (slots : List Slot) (s : StateValue) (values : List ℤ) (other : ℕ) → other ≢ thread → DescribesState slots s values c.owners other → DescribesState slots s values After other
  state_stays slots (Bottom room) values other differ described = described
  state_stays slots (Reached xs locks) values other differ described = (described.0, described.1, effect_owners c thread other locks mine effect differ may described.2)

  pub thread_stays : (other : ℕ) (frames : List Frame) (keys : List Key) → other ≢ thread → KnowsThread p t c.owners other frames keys → KnowsThread p t After other frames keys
  thread_stays other [] keys differ known = absurd known
  thread_stays other (top ∷ below) [] differ known = absurd known
  thread_stays other (top ∷ below) (key ∷ keys) differ known =
      (state_stays (slots_at p top.func) (state_at p t top.func key top.node) top.slots other differ known.0, known.1)

  -- frames that are known in some contexts
  abbrev pub IsKnownThread : ℕ → List Frame → Type 0
  IsKnownThread i frames = (keys : List Key) × KnowsThread p t After i frames keys

  module _ (known : IsKnown p t c) (old : List Frame) (there : thread_at c.threads thread ≡ Some old) (own : IsKnownThread thread mine) where
    pub threads_kept : (i : ℕ) (frames : List Frame) → thread_at (with_thread c.threads thread mine) i ≡ Some frames → IsKnownThread i frames
    threads_kept i frames at = elim (its_own c.threads thread mine old i frames there at) [
      | inl its ↦ subst (λ (j : ℕ). IsKnownThread j frames) (sym its.0) (subst (IsKnownThread thread) its.1 own)
      | inr others ↦ let k = known.threads i frames others.1 in (k.0, thread_stays i frames k.0 others.0 k.1)
    ]

-- a thread that starts
pub started : (p : Program) (t : TableValue) (owners : List (Option ℕ)) (threads : List (List Frame)) (thread : ℕ) (mine : List Frame) (frame : Frame) (i : ℕ) → i ≡ length (with_thread threads thread mine) + 1
    → DescribesFrame p owners (length threads + 1) (state_at p t frame.func empty_key frame.node) frame → (keys : List Key) × KnowsThread p t owners i (frame ∷ []) keys
started p t owners threads thread mine frame i at described =
    let number : length threads + 1 ≡ i = omega (arith, at, length_with threads thread mine) in
    (empty_key ∷ [], (subst (λ (j : ℕ). DescribesFrame p owners j (state_at p t frame.func empty_key frame.node) frame) number described, refl))

threads_after : (p : Program) (t : TableValue) (c : Config Frame) (thread : ℕ) (mine old : List Frame) (effect : Effect Frame) (may : MayChange c.owners thread effect) → IsKnown p t c → thread_at c.threads thread ≡ Some old → IsKnownThread p t c thread mine effect may thread mine
    → IfStarts effect (λ (frame : Frame). DescribesFrame p c.owners (next_thread c) (state_at p t frame.func empty_key frame.node) frame)
    → (i : ℕ) (frames : List Frame) → thread_at (after_effect c thread mine effect).threads i ≡ Some frames → IsKnownThread p t c thread mine effect may i frames
threads_after p t c thread mine old Keeps may known there own starts i frames at = threads_kept p t c thread mine Keeps may known old there own i frames at
threads_after p t c thread mine old (SetsGlobal g n) may known there own starts i frames at = threads_kept p t c thread mine (SetsGlobal g n) may known old there own i frames at
threads_after p t c thread mine old (SetsOwner m owner) may known there own starts i frames at = threads_kept p t c thread mine (SetsOwner m owner) may known old there own i frames at
threads_after p t c thread mine old (Starts frame) may known there own starts i frames at = elim (more_thread (with_thread c.threads thread mine) (frame ∷ []) frames i at) [
  | inl before ↦ threads_kept p t c thread mine (Starts frame) may known old there own i frames before
  | inr last ↦ subst (IsKnownThread p t c thread mine (Starts frame) may i) last.1 (started p t c.owners c.threads thread mine frame i last.0 starts)
]

-- a step after which its own thread is known, and the thread that it starts, if it starts one
pub known_after : (p : Program) (t : TableValue) (c : Config Frame) (thread : ℕ) (mine old : List Frame) (effect : Effect Frame) (may : MayChange c.owners thread effect) → IsKnown p t c → thread_at c.threads thread ≡ Some old
    → DescribesGlobals p t (after_effect c thread mine effect) → IsKnownThread p t c thread mine effect may thread mine
    → IfStarts effect (λ (frame : Frame). DescribesFrame p c.owners (next_thread c) (state_at p t frame.func empty_key frame.node) frame)
    → IsKnown p t (after_effect c thread mine effect)
known_after p t c thread mine old effect may known there globals own starts = record {
  globals = globals;
  owners = length_owners c thread mine effect ∙ known.owners;
  threads = threads_after p t c thread mine old effect may known there own starts;
}
