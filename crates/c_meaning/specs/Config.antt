-- Configurations: what the threads share, and the frames of each thread. They are the same for
-- trees and for graphs but for what a frame is.
use Rattle.std.specs.Prelude.{ℕ, zero, suc, ◌+◌, ℤ, pos, List, [], ◌∷◌, ◌++◌, map, length, replicate, Option, None, Some, Bool, false, if◌then◌else◌, nat_eq, slice_get, slice_index_or, slice_set}
use Rattle.std.specs.Option.{option_map_or}
use Rattle.gob_tree.specs.declared.expr.Width.{Width}
use Rattle.gob_tree.specs.declared.expr.Width.TheVariants.{W32}
use Rattle.gob_tree.specs.declared.unit.Slot.{Slot}
use Rattle.gob_tree.specs.declared.unit.GlobalDecl.{GlobalDecl}
use Rattle.c_meaning.specs.Demand.{conversion}

-- The values of the globals, the owner of each mutex, and the threads. Threads are numbered from 1
-- in this order. A thread is the list of its frames, the topmost first.
pub record Config (F : Type 0) : Type 0 where
  pub globals : List ℤ
  pub owners : List (Option ℕ)
  pub threads : List (List F)

-- the frames of a thread, if there is such a thread
abbrev pub thread_at : {F : Type 0} → List (List F) → ℕ → Option (List F)
thread_at threads zero = None
thread_at threads (suc i) = slice_get threads i

-- the threads after one of them got these frames
abbrev pub with_thread : {F : Type 0} → List (List F) → ℕ → List F → List (List F)
with_thread threads zero frames = threads
with_thread threads (suc i) frames = slice_set threads i frames

-- What a step does beside the frames of its own thread: nothing, one global's new value, one
-- mutex's new owner, or a new thread of this frame.
pub data Effect (F : Type 0) : Type 0 where
  Keeps : Effect F
  SetsGlobal : (g : ℕ) → (n : ℤ) → Effect F
  SetsOwner : (m : ℕ) → (owner : Option ℕ) → Effect F
  Starts : (frame : F) → Effect F

-- the configuration after a thread got these frames, with an effect
abbrev pub after_effect : {F : Type 0} → Config F → ℕ → List F → Effect F → Config F
after_effect c t frames Keeps = record c { threads = with_thread c.threads t frames }
after_effect c t frames (SetsGlobal g n) = record c { globals = slice_set c.globals g n; threads = with_thread c.threads t frames }
after_effect c t frames (SetsOwner m owner) = record c { owners = slice_set c.owners m owner; threads = with_thread c.threads t frames }
after_effect c t frames (Starts frame) = record c { threads = with_thread c.threads t frames ++ (frame ∷ []) ∷ [] }

-- the number of the next thread
abbrev pub next_thread : {F : Type 0} → Config F → ℕ
next_thread c = length c.threads + 1

-- the owner of a mutex
abbrev pub owner_at : {F : Type 0} → Config F → ℕ → Option ℕ
owner_at c m = slice_index_or c.owners m None

-- the owner after a thread locked a mutex of this owner; none where it can't, since somebody holds it
abbrev pub owner_after_lock : ℕ → Option ℕ → Option (Option ℕ)
owner_after_lock t None = Some (Some t)
owner_after_lock t (Some owner) = None

-- the owner after a thread unlocked it; none where it can't, since it doesn't hold it
abbrev pub owner_after_unlock : ℕ → Option ℕ → Option (Option ℕ)
owner_after_unlock t None = None
owner_after_unlock t (Some owner) = if nat_eq owner t then Some None else None

-- whether there is such a thread and it has ended, where a thread has ended by its frames
abbrev pub has_ended_by : {F : Type 0} → (List F → Bool) → Config F → ℕ → Bool
has_ended_by is_over c t = option_map_or is_over (thread_at c.threads t) false

-- the slots of a function by its number; none where there is no such function
abbrev pub slots_in : {A : Type 0} → (A → List Slot) → List A → ℕ → List Slot
slots_in slots funcs f = option_map_or slots (slice_get funcs f) []

-- a global's value, and its width
abbrev pub global_at : {F : Type 0} → Config F → ℕ → ℤ
global_at c g = slice_index_or c.globals g (pos 0)

abbrev pub global_width : List GlobalDecl → ℕ → Width
global_width globals g = option_map_or (λ decl. decl.width) (slice_get globals g) W32

-- the parameters' values, converted to their widths, and 0 in each slot after them
abbrev pub param_values : List Slot → List ℤ → List ℤ
param_values [] args = []
param_values (slot ∷ slots) [] = pos 0 ∷ param_values slots []
param_values (slot ∷ slots) (n ∷ args) = conversion slot.width n ∷ param_values slots args

-- the slots of a new frame: 0 in slot 0, then the parameters, and 0 in every other slot
abbrev pub first_values : List Slot → List ℤ → List ℤ
first_values [] args = []
first_values (slot ∷ slots) args = pos 0 ∷ param_values slots args

-- no thread variable has a thread
abbrev pub unset_vars : {A : Type 0} → List A → List (Option ℕ)
unset_vars names = replicate (length names) None

-- the configuration of a program's start: globals at their initial values, no mutex owned, and
-- thread 1 with one frame
abbrev pub first_config : {F A : Type 0} → List GlobalDecl → List A → F → Config F
first_config globals mutexes frame = record {
  globals = map (λ decl. decl.initial) globals;
  owners = replicate (length mutexes) None;
  threads = (frame ∷ []) ∷ [];
}
