-- What a thread takes leaves the others alone.
use Rattle.std.proofs.Common.{◌≡◌, ◌≢◌, ◌⊎◌, inl, inr, refl, sym, ap, ◌∙◌, subst, ℕ, zero, suc, ℤ, true, List, [], ◌∷◌, ◌++◌, Option, None, Some, arith}
use Rattle.std.specs.Prelude.{slice_set, slice_index_or, nat_eq}
use Rattle.std.specs.Option.{option_map}
use Rattle.std.proofs.lemmas.Bool.{cases_eq}
use Rattle.std.proofs.lemmas.Bool.Decides.{nat_tests}
use Rattle.std.proofs.lemmas.List.{get_or-set_other}
use Rattle.std.proofs.lemmas.Option.{none-some, same_Some, option_and_then_some}
use Rattle.gob_tree.specs.declared.graph.Action.{Action}
use Rattle.gob_tree.specs.declared.graph.Action.TheVariants.{Assign, Read, Write, Nondet, Guard, Assert, Lock, Unlock, Create, Join, Call, Skip}
use Rattle.gob_tree.specs.declared.graph.Edge.{Edge}
use Rattle.gob_tree.specs.declared.graph.Program.{Program}
use Rattle.gob_tree.specs.declared.unit.Slot.{Slot}
use Rattle.c_meaning.specs.Config.{Config, thread_at, with_thread, Effect, Keeps, SetsGlobal, SetsOwner, Starts, after_effect, owner_at, owner_after_lock, owner_after_unlock}
use Rattle.c_meaning.specs.Demand.{value_of, values_of}
use Rattle.c_meaning.specs.GraphStep.{Frame, Site, Acted, Label, Do, Enter, Leave, edge_at, func_slots, slots_effect, local_slots, action_effect, join_effect, has_ended, frame_moved, after_edge, after_call, after_entry, after_return_to, after_leave, site_after, thread_after, after_label}
use Rattle.state_dom.specs.StateValue.{Bottom, Reached, OwnsEach}
use Rattle.action_law.specs.Laws.{OthersKeepFrames, OthersStayDescribed}
use Rattle.action_law.proofs.Inverting.{value_there, map_there, if_there, get_set_other, get_front}

-- ---- a mutex that changes its owner

-- it was free, or the thread's own
abbrev pub MayChange : List (Option ℕ) → ℕ → Effect Frame → Type 0
MayChange owners thread Keeps = Unit {0}
MayChange owners thread (SetsGlobal g n) = Unit {0}
MayChange owners thread (SetsOwner m owner) = (slice_index_or owners m None ≡ None) ⊎ (slice_index_or owners m None ≡ Some thread)
MayChange owners thread (Starts frame) = Unit {0}

pub lock_frees : (thread : ℕ) (owner new : Option ℕ) → owner_after_lock thread owner ≡ Some new → (owner ≡ None) × (new ≡ Some thread)
lock_frees thread None new e = (refl, sym (same_Some (Some thread) new e))
lock_frees thread (Some other) new e = absurd (none-some new e)

same_number : (a b : ℕ) → nat_eq a b ≡ true → a ≡ b
same_number a b e = grind (arith, nat_tests)

pub unlock_owned : (thread : ℕ) (owner new : Option ℕ) → owner_after_unlock thread owner ≡ Some new → (owner ≡ Some thread) × (new ≡ None)
unlock_owned thread None new e = absurd (none-some new e)
unlock_owned thread (Some other) new e =
    if_there (nat_eq other thread) (Some None) new e (λ same free. (ap (λ (t : ℕ). Some t) (same_number other thread same), sym (same_Some None new free)))

module _ (s : Site) where
  abbrev May : Acted → Type 0
  May done = MayChange s.config.owners s.thread done.1

  keeps : (frame : Frame) (done : Acted) → ◌≡◌ {A = Option Acted} (Some (frame, Keeps)) (Some done) → May done
  keeps frame done e = subst May (same_Some {A = Acted} (frame, Keeps) done e) tt

  local_may : (slots : List Slot) (act : Action) (done : Acted) → option_map (slots_effect s) (local_slots slots act s.frame.slots) ≡ Some done → May done
  local_may slots act done e = map_there (slots_effect s) (local_slots slots act s.frame.slots) done e (λ values there same. subst May same tt)

  join_may : (o : Option ℕ) (done : Acted) → join_effect s o ≡ Some done → May done
  join_may None done e = absurd (none-some done e)
  join_may (Some t) done e = if_there (has_ended s.config t) (Some (s.frame, Keeps)) done e (λ ended same. keeps s.frame done same)

  pub action_may : (slots : List Slot) (act : Action) (done : Acted) → action_effect s slots act ≡ Some done → May done
  action_may slots (Assign x e) done q = local_may slots (Assign x e) done q
  action_may slots (Read x g) done q = keeps _ done q
  action_may slots (Write g e) done q = value_there (value_of e slots s.frame.slots) _ done q (λ n is same. subst May (same_Some {A = Acted} _ done same) tt)
  action_may slots (Nondet x) done q = keeps _ done q
  action_may slots (Guard e wanted) done q = local_may slots (Guard e wanted) done q
  action_may slots (Assert e) done q = local_may slots (Assert e) done q
  action_may slots (Lock m) done q =
      map_there _ (owner_after_lock s.thread (owner_at s.config m)) done q (λ new there same. subst May same (inl (lock_frees s.thread (owner_at s.config m) new there).0))
  action_may slots (Unlock m) done q =
      map_there _ (owner_after_unlock s.thread (owner_at s.config m)) done q (λ new there same. subst May same (inr (unlock_owned s.thread (owner_at s.config m) new there).0))
  action_may slots (Create x f) done q = subst May (same_Some {A = Acted} _ done q) tt
  action_may slots (Join x) done q = join_may (slice_index_or s.frame.vars x None) done q
  action_may slots (Call d f args) done q = absurd (none-some done q)
  action_may slots Skip done q = local_may slots Skip done q

-- ---- what a step is

-- a step gives its thread frames, and has one effect beside
pub record IsStep (c : Config Frame) (thread : ℕ) (next : Config Frame) : Type 0 where
  pub frames : List Frame
  pub effect : Effect Frame
  pub may : MayChange c.owners thread effect
  pub leads : after_effect c thread frames effect ≡ next

keeps_step : (c next : Config Frame) (thread : ℕ) (frames : List Frame) → ◌≡◌ {A = Option (Config Frame)} (Some (after_effect c thread frames Keeps)) (Some next) → IsStep c thread next
keeps_step c next thread frames e = record { frames = frames; effect = Keeps; may = tt; leads = same_Some {A = Config Frame} (after_effect c thread frames Keeps) next e }

module _ (s : Site) (next : Config Frame) where
  edge_step : (edge : Edge) → after_edge s edge ≡ Some next → IsStep s.config s.thread next
  edge_step edge e =
      if_there (nat_eq edge.from s.frame.node) _ next e (λ at there.
      map_there (frame_moved s edge.to) (action_effect s (func_slots s.program s.frame.func) edge.act) next there (λ done acts same.
      record { frames = record done.0 { node = edge.to } ∷ s.below; effect = done.1; may = action_may s (func_slots s.program s.frame.func) edge.act done acts; leads = same }))

  call_step : (e : ℕ) (act : Action) → after_call s e act ≡ Some next → IsStep s.config s.thread next
  call_step e (Call d f args) q = value_there (values_of args (func_slots s.program s.frame.func) s.frame.slots) _ next q (λ values is same. keeps_step s.config next s.thread _ same)
  call_step e (Assign x v) q = absurd (none-some next q)
  call_step e (Read x g) q = absurd (none-some next q)
  call_step e (Write g v) q = absurd (none-some next q)
  call_step e (Nondet x) q = absurd (none-some next q)
  call_step e (Guard v wanted) q = absurd (none-some next q)
  call_step e (Assert v) q = absurd (none-some next q)
  call_step e (Lock m) q = absurd (none-some next q)
  call_step e (Unlock m) q = absurd (none-some next q)
  call_step e (Create x f) q = absurd (none-some next q)
  call_step e (Join x) q = absurd (none-some next q)
  call_step e Skip q = absurd (none-some next q)

  entry_step : (e : ℕ) (edge : Edge) → after_entry s e edge ≡ Some next → IsStep s.config s.thread next
  entry_step e edge q = if_there (nat_eq edge.from s.frame.node) (after_call s e edge.act) next q (λ at there. call_step e edge.act there)

  return_step : (caller : Frame) (below : List Frame) (to : ℕ) (act : Action) → after_return_to s caller below to act ≡ Some next → IsStep s.config s.thread next
  return_step caller below to (Call d f args) q = keeps_step s.config next s.thread _ q
  return_step caller below to (Assign x v) q = absurd (none-some next q)
  return_step caller below to (Read x g) q = absurd (none-some next q)
  return_step caller below to (Write g v) q = absurd (none-some next q)
  return_step caller below to (Nondet x) q = absurd (none-some next q)
  return_step caller below to (Guard v wanted) q = absurd (none-some next q)
  return_step caller below to (Assert v) q = absurd (none-some next q)
  return_step caller below to (Lock m) q = absurd (none-some next q)
  return_step caller below to (Unlock m) q = absurd (none-some next q)
  return_step caller below to (Create x f) q = absurd (none-some next q)
  return_step caller below to (Join x) q = absurd (none-some next q)
  return_step caller below to Skip q = absurd (none-some next q)

  leave_step : (below : List Frame) → after_leave s below ≡ Some next → IsStep s.config s.thread next
  leave_step [] q = absurd (none-some next q)
  leave_step (caller ∷ below) q =
      option_and_then_some _ caller.waits next q (λ e waits leads.
      option_and_then_some _ (edge_at s.program caller.func e) next leads (λ edge there returns. return_step caller below edge.to edge.act returns))

  site_step : (label : Label) → site_after s label ≡ Some next → IsStep s.config s.thread next
  site_step (Do e) q = option_and_then_some (after_edge s) (edge_at s.program s.frame.func e) next q (λ edge there goes. edge_step edge goes)
  site_step (Enter e) q = option_and_then_some (after_entry s e) (edge_at s.program s.frame.func e) next q (λ edge there goes. entry_step e edge goes)
  site_step Leave q = if_there (nat_eq s.frame.node 1) (after_leave s s.below) next q (λ at goes. leave_step s.below goes)

frames_step : (p : Program) (c next : Config Frame) (thread : ℕ) (input : ℤ) (label : Label) (frames : List Frame) → thread_after p c thread input label frames ≡ Some next → IsStep c thread next
frames_step p c next thread input label [] q = absurd (none-some next q)
frames_step p c next thread input label (frame ∷ below) q =
    site_step (record { program = p; config = c; thread = thread; input = input; frame = frame; below = below }) next label q

pub step_of : (p : Program) (c next : Config Frame) (thread : ℕ) (input : ℤ) (label : Label) → after_label p c thread input label ≡ Some next → IsStep c thread next
step_of p c next thread input label q =
    option_and_then_some (thread_after p c thread input label) (thread_at c.threads thread) next q (λ frames there goes. frames_step p c next thread input label frames goes)

-- ---- the other threads

pub other_thread : (threads : List (List Frame)) (thread other : ℕ) (frames : List Frame) → other ≢ thread → thread_at (with_thread threads thread frames) other ≡ thread_at threads other
other_thread threads zero other frames differ = refl
other_thread threads (suc i) zero frames differ = refl
other_thread threads (suc i) (suc j) frames differ = get_set_other threads i j frames (λ same. differ (ap suc same))

still_there : (threads more : List (List Frame)) (other : ℕ) (frames : List Frame) → thread_at threads other ≡ Some frames → thread_at (threads ++ more) other ≡ Some frames
still_there threads more zero frames e = absurd (none-some frames e)
still_there threads more (suc j) frames e = get_front threads more j frames e

effect_frames : (c : Config Frame) (thread other : ℕ) (mine frames : List Frame) (effect : Effect Frame) → other ≢ thread → thread_at c.threads other ≡ Some frames → thread_at (after_effect c thread mine effect).threads other ≡ Some frames
effect_frames c thread other mine frames Keeps differ e = other_thread c.threads thread other mine differ ∙ e
effect_frames c thread other mine frames (SetsGlobal g n) differ e = other_thread c.threads thread other mine differ ∙ e
effect_frames c thread other mine frames (SetsOwner m owner) differ e = other_thread c.threads thread other mine differ ∙ e
effect_frames c thread other mine frames (Starts frame) differ e =
    still_there (with_thread c.threads thread mine) ((frame ∷ []) ∷ []) other frames (other_thread c.threads thread other mine differ ∙ e)

pub others_keep_frames : OthersKeepFrames
others_keep_frames p c next thread input label other frames q differ e =
    let step = step_of p c next thread input label q in
    subst (λ (n : Config Frame). thread_at n.threads other ≡ Some frames) step.leads (effect_frames c thread other step.frames frames step.effect differ e)

-- a mutex that another thread owns is neither free nor the thread's
not_others : (owner : Option ℕ) (thread other : ℕ) → other ≢ thread → owner ≡ Some other → (owner ≡ None) ⊎ (owner ≡ Some thread) → ⊥
not_others owner thread other differ owned may = elim may [
  | inl free ↦ none-some other (sym free ∙ owned)
  | inr mine ↦ differ (same_Some other thread (sym owned ∙ mine))
]

owner_stays : (owners : List (Option ℕ)) (thread other m k : ℕ) (new : Option ℕ) → other ≢ thread → (slice_index_or owners m None ≡ None) ⊎ (slice_index_or owners m None ≡ Some thread)
    → slice_index_or owners k None ≡ Some other → slice_index_or (slice_set owners m new) k None ≡ Some other
owner_stays owners thread other m k new differ may owned = elim (cases_eq k m) [
  | inl same ↦ absurd (not_others (slice_index_or owners m None) thread other differ (subst (λ (i : ℕ). slice_index_or owners i None ≡ Some other) same owned) may)
  | inr apart ↦ get_or-set_other owners m k new None apart ∙ owned
]

pub effect_owners : (c : Config Frame) (thread other locks : ℕ) (mine : List Frame) (effect : Effect Frame) → other ≢ thread → MayChange c.owners thread effect → OwnsEach c.owners other locks → OwnsEach (after_effect c thread mine effect).owners other locks
effect_owners c thread other locks mine Keeps differ may owns = owns
effect_owners c thread other locks mine (SetsGlobal g n) differ may owns = owns
effect_owners c thread other locks mine (SetsOwner m owner) differ may owns = λ k held. owner_stays c.owners thread other m k owner differ may (owns k held)
effect_owners c thread other locks mine (Starts frame) differ may owns = owns

pub others_stay_described : OthersStayDescribed
others_stay_described p c next thread input label other slots (Bottom room) values q differ described = absurd described
others_stay_described p c next thread input label other slots (Reached xs locks) values q differ described =
    let step = step_of p c next thread input label q in
    (described.0, described.1, subst (λ (n : Config Frame). OwnsEach n.owners other locks) step.leads (effect_owners c thread other locks step.frames step.effect differ step.may described.2))
