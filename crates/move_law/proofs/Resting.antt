-- What follows the edge that a choice takes: the return, and the silent edges.
use Rattle.std.proofs.Common.{◌≡◌, ◌≢◌, ◌∙◌, refl, sym, ap, subst, ℕ, zero, suc, ◌+◌, ℤ, pos, Bool, true, false, List, [], ◌∷◌, ◌++◌, length, Option, None, Some, arith}
use Rattle.std.specs.Prelude.{if◌then◌else◌, nat_eq, slice_get, slice_set}
use Rattle.std.specs.Option.{option_map, option_map_or, option_and_then}
use Rattle.std.proofs.lemmas.Bool.Decides.{nat_tests}
use Rattle.std.proofs.lemmas.List.{length-set}
use Rattle.std.proofs.lemmas.Option.{none-some, same_Some}
use Rattle.gob_tree.specs.declared.expr.Expr.{Expr}
use Rattle.gob_tree.specs.declared.graph.Action.{Action}
use Rattle.gob_tree.specs.declared.graph.Action.TheVariants.{Create, Call}
use Rattle.gob_tree.specs.declared.graph.FuncGraph.{FuncGraph}
use Rattle.gob_tree.specs.declared.unit.Unit.{Unit as TranslationUnit}
use Rattle.c_meaning.specs.Config.{Config, Effect, Keeps, SetsGlobal, SetsOwner, Starts, after_effect, next_thread, thread_at, with_thread}
use Rattle.c_meaning.specs.Demand.{value_at}
use Rattle.c_meaning.specs.Graph.{marked_of, program_of}
use Rattle.c_meaning.specs.GraphStep.{Acted, Do, Frame, Label, Leave, Site, action_effect, after_leave, after_push, after_return_to, edge_at, frame_moved, func_slots, new_frame, new_frame_or, site_after, with_result}
use Rattle.c_meaning.specs.Walk.{Walked, after_return, after_silent, after_start, first_edge_step, frames_at, label_of, return_labels, starts_thread, step_rest, top_edges, walk_on}
use Rattle.graph_law.specs.Settling.{with_settled}
use Rattle.graph_law.proofs.Settling.{silent_edges_are_moves, thread_set, thread_twice}
use Rattle.move_law.specs.Choosing.{CallsAreEntered, Chosen, EdgesAreDone, ReturnsAreMade, StartsNone, ThreadsAreStarted, settled_top, site_of}
use Rattle.move_law.proofs.Taking.{done_there, entered_there, takes_edge, walk_one, with_move}

-- ---- lists

get_before : {A : Type 0} (xs : List A) (ys : List A) (i : ℕ) (x : A) → slice_get xs i ≡ Some x → slice_get (xs ++ ys) i ≡ Some x
get_before [] ys i x at = absurd (none-some x at)
get_before (z ∷ xs) ys zero x at = at
get_before (z ∷ xs) ys (suc i) x at = get_before xs ys i x at

set_before : {A : Type 0} (xs : List A) (ys : List A) (i : ℕ) (x y : A) → slice_get xs i ≡ Some x → slice_set (xs ++ ys) i y ≡ slice_set xs i y ++ ys
set_before [] ys i x y at = absurd (none-some x at)
set_before (z ∷ xs) ys zero x y at = refl
set_before (z ∷ xs) ys (suc i) x y at = ap (λ (l : List _). z ∷ l) (set_before xs ys i x y at)

get_last : {A : Type 0} (xs : List A) (x : A) → slice_get (xs ++ x ∷ []) (length xs) ≡ Some x
get_last [] x = refl
get_last (y ∷ xs) x = get_last xs x

set_last : {A : Type 0} (xs : List A) (x y : A) → slice_set (xs ++ x ∷ []) (length xs) y ≡ xs ++ y ∷ []
set_last [] x y = refl
set_last (z ∷ xs) x y = ap (λ (l : List _). z ∷ l) (set_last xs x y)

-- ---- a return

-- the walk after the return, if there is one
pub record Returned (unit : TranslationUnit) (t : ℕ) (w : Walked) (c : Config Frame) : Type 0 where
  pub next : Walked
  pub is : after_return (marked_of unit) t w ≡ Some next
  pub config : next.config ≡ c

frames_there : (w : Walked) (t : ℕ) (frames : List Frame) → thread_at w.config.threads t ≡ Some frames → frames_at w t ≡ frames
frames_there w t frames at = ap (λ (o : Option (List Frame)). option_map_or (λ fs. fs) o []) at

no_return : (unit : TranslationUnit) (t : ℕ) (w : Walked) (frames : List Frame) → thread_at w.config.threads t ≡ Some frames → return_labels frames ≡ [] → Returned unit t w w.config
no_return unit t w frames at none = record {
  next = record { moves = w.moves ++ []; config = w.config };
  is = ap (λ (labels : List Label). walk_on (program_of unit) t (pos 0) labels w) (ap return_labels (frames_there w t frames at) ∙ none);
  config = refl;
}

-- ---- silent edges

-- what the rest of a choice comes to, where it starts no thread
rest_settles : (unit : TranslationUnit) (t fresh : ℕ) (act : Action) (w : Walked) (c : Config Frame) (top : Frame) (below : List Frame) → starts_thread act ≡ false → Returned unit t w c → thread_at c.threads t ≡ Some (top ∷ below)
    → (next : Walked) × (step_rest (marked_of unit) t fresh (act, w) ≡ Some next) × (next.config ≡ with_settled (marked_of unit) c t top below)
rest_settles unit t fresh act w c top below none back at =
    let m = marked_of unit in
    let there : thread_at back.next.config.threads t ≡ Some (top ∷ below) = ap (λ (x : Config Frame). thread_at x.threads t) back.config ∙ at in
    let silent = silent_edges_are_moves unit back.next t top below there in (
      _,
      ap (λ (b : Bool). option_and_then (after_start m fresh b) (option_and_then (after_silent m t) (after_return m t w))) none
          ∙ ap (λ (o : Option Walked). option_and_then (after_start m fresh false) (option_and_then (after_silent m t) o)) back.is
          ∙ ap (option_and_then (after_start m fresh false)) silent,
      ap (λ (x : Config Frame). with_settled m x t top below) back.config,
    )

chosen_by : (unit : TranslationUnit) (w : Walked) (t : ℕ) (input : ℤ) (act : Action) (next : Walked) (c : Config Frame)
    → first_edge_step (marked_of unit) t input w 0 (top_edges (marked_of unit) (frames_at w t)) ≡ Some (act, next)
    → (last : Walked) × (step_rest (marked_of unit) t (next_thread w.config) (act, next) ≡ Some last) × (last.config ≡ c) → Chosen unit w t input c
chosen_by unit w t input act next c first rest = (rest.0, ap (option_and_then (step_rest (marked_of unit) t (next_thread w.config))) first ∙ rest.1, rest.2)

-- ---- edges that are done

done_label : (s : Site) (slots : List _) (act : Action) (acted : Acted) → action_effect s slots act ≡ Some acted → (k : ℕ) → label_of k act ≡ Do k
done_label s slots (Call d g args) acted done k = absurd (none-some acted done)
done_label s slots other acted done k = refl

no_start : (s : Site) (slots : List _) (act : Action) (acted : Acted) → action_effect s slots act ≡ Some acted → StartsNone acted.1 → starts_thread act ≡ false
no_start s slots (Create var g) acted done none =
    absurd (subst (λ (a : Acted). StartsNone a.1) (sym (same_Some (record s.frame { vars = slice_set s.frame.vars var (Some (next_thread s.config)) }, Starts (new_frame s.program g [])) acted done)) none)
no_start s slots other acted done none = refl

-- the thread's frames after an effect that starts none
thread_after_effect : (c : Config Frame) (t : ℕ) (old frames : List Frame) (effect : Effect Frame) → StartsNone effect → thread_at c.threads t ≡ Some old → thread_at (after_effect c t frames effect).threads t ≡ Some frames
thread_after_effect c t old frames Keeps none at = thread_set c.threads t frames old at
thread_after_effect c t old frames (SetsGlobal g n) none at = thread_set c.threads t frames old at
thread_after_effect c t old frames (SetsOwner m owner) none at = thread_set c.threads t frames old at
thread_after_effect c t old frames (Starts frame) none at = absurd none

settled_after_effect : (unit : TranslationUnit) (c : Config Frame) (t : ℕ) (top : Frame) (below : List Frame) (effect : Effect Frame) → StartsNone effect
    → with_settled (marked_of unit) (after_effect c t (top ∷ below) effect) t top below ≡ after_effect c t (settled_top unit top ∷ below) effect
settled_after_effect unit c t top below Keeps none = ap (λ (ths : List (List Frame)). record c { threads = ths }) (thread_twice c.threads t (top ∷ below) (settled_top unit top ∷ below))
settled_after_effect unit c t top below (SetsGlobal g n) none =
    ap (λ (ths : List (List Frame)). record c { globals = slice_set c.globals g n; threads = ths }) (thread_twice c.threads t (top ∷ below) (settled_top unit top ∷ below))
settled_after_effect unit c t top below (SetsOwner m owner) none =
    ap (λ (ths : List (List Frame)). record c { owners = slice_set c.owners m owner; threads = ths }) (thread_twice c.threads t (top ∷ below) (settled_top unit top ∷ below))
settled_after_effect unit c t top below (Starts frame) none = absurd none

pub edges_are_done : EdgesAreDone
edges_are_done unit w t input g gs f act to acted here edge done none stays =
    let site = site_of unit w t input g gs in
    let slots = func_slots (program_of unit) g.func in
    let label = done_label site slots act acted done in
    let takes = takes_edge unit w t input g gs f here act to edge (λ k at. (frame_moved site to acted, ap (site_after site) (label k) ∙ done_there unit w t input g gs f here act to acted done k at)) in
    let is : takes.next.config ≡ frame_moved site to acted =
    same_Some takes.next.config (frame_moved site to acted) (sym takes.leads ∙ ap (site_after site) (label takes.place) ∙ done_there unit w t input g gs f here act to acted done takes.place takes.edge) in
    let top = record acted.0 { node = to } in
    let there : thread_at takes.next.config.threads t ≡ Some (top ∷ gs) = ap (λ (c : Config Frame). thread_at c.threads t) is ∙ thread_after_effect w.config t (g ∷ gs) (top ∷ gs) acted.1 none here.frames in
    let back = no_return unit t takes.next (top ∷ gs) there stays in
    let rest = rest_settles unit t (next_thread w.config) act takes.next takes.next.config top gs (no_start site slots act acted done none) back there in
    chosen_by unit w t input act takes.next (after_effect w.config t (settled_top unit top ∷ gs) acted.1) takes.first
    (rest.0, rest.1, rest.2 ∙ ap (λ (c : Config Frame). with_settled (marked_of unit) c t top gs) is ∙ settled_after_effect unit w.config t top gs acted.1 none)

-- ---- calls

new_node : (unit : TranslationUnit) (callee : ℕ) (ns : List ℤ) → (new_frame (program_of unit) callee ns).node ≡ 0
new_node unit callee ns = go (slice_get (program_of unit).funcs callee)
  where
    go : (o : Option FuncGraph) → (new_frame_or callee ns o).node ≡ 0
    go None = refl
    go (Some g) = refl

not_returned : (top caller : Frame) (below : List Frame) → top.node ≢ 1 → return_labels (top ∷ caller ∷ below) ≡ []
not_returned top caller below apart = go (nat_eq top.node 1) refl
  where
    go : (b : Bool) → nat_eq top.node 1 ≡ b → ◌≡◌ {A = List Label} (if b then Leave ∷ [] else []) []
    go true is = let same : top.node ≡ 1 = grind (arith, nat_tests, is) in absurd (apart same)
    go false is = refl

pub stays_inside : (top : Frame) (below : List Frame) → top.node ≢ 1 → return_labels (top ∷ below) ≡ []
stays_inside top [] apart = refl
stays_inside top (caller ∷ below) apart = not_returned top caller below apart

pub calls_are_entered : CallsAreEntered
calls_are_entered unit w t input g gs f d callee args to ns here edge have =
    let site = site_of unit w t input g gs in
    let takes = takes_edge unit w t input g gs f here (Call d callee args) to edge (λ k at. (after_push site k callee ns, entered_there unit w t input g gs f here d callee args to ns have k at)) in
    let is : takes.next.config ≡ after_push site takes.place callee ns =
    same_Some takes.next.config (after_push site takes.place callee ns) (sym takes.leads ∙ entered_there unit w t input g gs f here d callee args to ns have takes.place takes.edge) in
    let top = new_frame (program_of unit) callee ns in
    let below = record g { waits = Some takes.place } ∷ gs in
    let there : thread_at takes.next.config.threads t ≡ Some (top ∷ below) = ap (λ (c : Config Frame). thread_at c.threads t) is ∙ thread_set w.config.threads t (top ∷ below) (g ∷ gs) here.frames in
    let first = new_node unit callee ns in
    let back = no_return unit t takes.next (top ∷ below) there (stays_inside top below (λ q. let z : top.node ≡ 0 = first in absurd (omega (arith, q, z)))) in
    let rest = rest_settles unit t (next_thread w.config) (Call d callee args) takes.next takes.next.config top below refl back there in (
      takes.place,
      takes.edge,
      chosen_by unit w t input (Call d callee args) takes.next (after_effect w.config t (settled_top unit top ∷ below) Keeps) takes.first
          (rest.0, rest.1, rest.2 ∙ ap (λ (c : Config Frame). with_settled (marked_of unit) c t top below) is ∙ settled_after_effect unit w.config t top below Keeps tt),
    )

-- ---- returns

module _ (unit : TranslationUnit) (w : Walked) (t : ℕ) (top caller : Frame) (below : List Frame) (place from : ℕ) (d : Option ℕ) (callee : ℕ) (args : List Expr) (to : ℕ) where
  -- the caller after the return
  abbrev resumed : Frame
  resumed = record caller { node = to; slots = with_result (func_slots (program_of unit) caller.func) d (value_at top.slots 0) caller.slots; waits = None }

  abbrev returned_to : Config Frame
  returned_to = after_effect w.config t (resumed ∷ below) Keeps

  left : thread_at w.config.threads t ≡ Some (top ∷ caller ∷ below) → top.node ≡ 1 → caller.waits ≡ Some place
      → edge_at (program_of unit) caller.func place ≡ Some (record { from = from; act = Call d callee args; to = to }) → Returned unit t w returned_to
  left at exit waits edge =
      let s : Site = record { program = program_of unit; config = w.config; thread = t; input = pos 0; frame = top; below = caller ∷ below } in
      let leaves : return_labels (top ∷ caller ∷ below) ≡ Leave ∷ [] = ap (λ (n : ℕ). if nat_eq n 1 then Leave ∷ [] else []) exit in
      let goes : site_after s Leave ≡ Some returned_to =
      ap (λ (n : ℕ). if nat_eq n 1 then after_leave s (caller ∷ below) else None) exit
      ∙ ap (λ (o : Option ℕ). option_and_then (λ e. option_and_then (λ edge. after_return_to s caller below edge.to edge.act) (edge_at (program_of unit) caller.func e)) o) waits
      ∙ ap (option_and_then (λ edge. after_return_to s caller below edge.to edge.act)) edge in
      record {
        next = with_move t (pos 0) Leave w returned_to;
        is = ap (λ (labels : List Label). walk_on (program_of unit) t (pos 0) labels w) (ap return_labels (frames_there w t (top ∷ caller ∷ below) at) ∙ leaves)
            ∙ walk_one (program_of unit) t (pos 0) w top (caller ∷ below) Leave at
            ∙ ap (option_map (with_move t (pos 0) Leave w)) goes;
        config = refl;
      }

pub returns_are_made : ReturnsAreMade
returns_are_made unit w t input g caller below f act slots place from d callee args to here edge done waits call =
    let gs = caller ∷ below in
    let site = site_of unit w t input g gs in
    let widths = func_slots (program_of unit) g.func in
    let acted : Acted = (record g { slots = slots }, Keeps) in
    let label = done_label site widths act acted done in
    let takes = takes_edge unit w t input g gs f here act 1 edge (λ k at. (frame_moved site 1 acted, ap (site_after site) (label k) ∙ done_there unit w t input g gs f here act 1 acted done k at)) in
    let is : takes.next.config ≡ frame_moved site 1 acted =
    same_Some takes.next.config (frame_moved site 1 acted) (sym takes.leads ∙ ap (site_after site) (label takes.place) ∙ done_there unit w t input g gs f here act 1 acted done takes.place takes.edge) in
    let top : Frame = record g { node = 1; slots = slots } in
    let there : thread_at takes.next.config.threads t ≡ Some (top ∷ gs) = ap (λ (c : Config Frame). thread_at c.threads t) is ∙ thread_set w.config.threads t (top ∷ gs) (g ∷ gs) here.frames in
    let back = left unit takes.next t top caller below place from d callee args to there refl waits call in
    let resumed_frame : Frame = record caller { node = to; slots = with_result (func_slots (program_of unit) caller.func) d (value_at slots 0) caller.slots; waits = None } in
    let resumed_there : thread_at (after_effect takes.next.config t (resumed_frame ∷ below) Keeps).threads t ≡ Some (resumed_frame ∷ below) =
    thread_set takes.next.config.threads t (resumed_frame ∷ below) (top ∷ gs) there in
    let rest = rest_settles unit t (next_thread w.config) act takes.next (after_effect takes.next.config t (resumed_frame ∷ below) Keeps) resumed_frame below (no_start site widths act acted done tt) back resumed_there in
    chosen_by unit w t input act takes.next (after_effect w.config t (settled_top unit resumed_frame ∷ below) Keeps) takes.first (
      rest.0,
      rest.1,
      rest.2
          ∙ settled_after_effect unit takes.next.config t resumed_frame below Keeps tt
          ∙ ap (λ (c : Config Frame). after_effect c t (settled_top unit resumed_frame ∷ below) Keeps) is
          ∙ ap (λ (ths : List (List Frame)). record w.config { threads = ths }) (thread_twice w.config.threads t (top ∷ gs) (settled_top unit resumed_frame ∷ below)),
    )

-- ---- new threads

-- the threads where one more has been started
thread_before : (threads : List (List Frame)) (more : List (List Frame)) (t : ℕ) (frames : List Frame) → thread_at threads t ≡ Some frames → thread_at (threads ++ more) t ≡ Some frames
thread_before threads more zero frames at = absurd (none-some frames at)
thread_before threads more (suc i) frames at = get_before threads more i frames at

with_thread_before : (threads : List (List Frame)) (more : List (List Frame)) (t : ℕ) (old frames : List Frame) → thread_at threads t ≡ Some old → with_thread (threads ++ more) t frames ≡ with_thread threads t frames ++ more
with_thread_before threads more zero old frames at = absurd (none-some old at)
with_thread_before threads more (suc i) old frames at = set_before threads more i old frames at

same_count : (threads : List (List Frame)) (t : ℕ) (frames : List Frame) → length (with_thread threads t frames) ≡ length threads
same_count threads zero frames = refl
same_count threads (suc i) frames = length-set threads i frames

thread_last : (threads : List (List Frame)) (n : ℕ) (frames : List Frame) → length threads ≡ n → thread_at (threads ++ frames ∷ []) (n + 1) ≡ Some frames
thread_last threads n frames many =
    let number : n + 1 ≡ suc (length threads) = omega (arith, many) in
    ap (thread_at (threads ++ frames ∷ [])) number ∙ get_last threads frames

with_thread_last : (threads : List (List Frame)) (n : ℕ) (old frames : List Frame) → length threads ≡ n → with_thread (threads ++ old ∷ []) (n + 1) frames ≡ threads ++ frames ∷ []
with_thread_last threads n old frames many =
    let number : n + 1 ≡ suc (length threads) = omega (arith, many) in
    ap (λ (k : ℕ). with_thread (threads ++ old ∷ []) k frames) number ∙ set_last threads old frames

pub threads_are_started : ThreadsAreStarted
unfolding no_return
threads_are_started unit w t input g gs f var started to here edge apart =
    let m = marked_of unit in
    let site = site_of unit w t input g gs in
    let new = new_frame (program_of unit) started [] in
    let acted : Acted = (record g { vars = slice_set g.vars var (Some (next_thread w.config)) }, Starts new) in
    let act = Create var started in
    let takes = takes_edge unit w t input g gs f here act to edge (λ k at. (frame_moved site to acted, done_there unit w t input g gs f here act to acted refl k at)) in
    let is : takes.next.config ≡ frame_moved site to acted = same_Some takes.next.config (frame_moved site to acted) (sym takes.leads ∙ done_there unit w t input g gs f here act to acted refl takes.place takes.edge) in
    let top : Frame = record g { node = to; vars = slice_set g.vars var (Some (next_thread w.config)) } in
    let threads = with_thread w.config.threads t (top ∷ gs) in
    let mine : thread_at threads t ≡ Some (top ∷ gs) = thread_set w.config.threads t (top ∷ gs) (g ∷ gs) here.frames in
    let there : thread_at takes.next.config.threads t ≡ Some (top ∷ gs) = ap (λ (c : Config Frame). thread_at c.threads t) is ∙ thread_before threads ((new ∷ []) ∷ []) t (top ∷ gs) mine in
    let back = no_return unit t takes.next (top ∷ gs) there (stays_inside top gs apart) in
    let silent = silent_edges_are_moves unit back.next t top gs there in
    let settled = settled_top unit top ∷ gs in
    let mid : Config Frame = with_settled m takes.next.config t top gs in
    let mid_threads : mid.threads ≡ with_thread w.config.threads t settled ++ (new ∷ []) ∷ [] =
    ap (λ (c : Config Frame). with_thread c.threads t settled) is
    ∙ with_thread_before threads ((new ∷ []) ∷ []) t (top ∷ gs) settled mine
    ∙ ap (λ (ths : List (List Frame)). ths ++ (new ∷ []) ∷ []) (thread_twice w.config.threads t (top ∷ gs) settled) in
    let many : length (with_thread w.config.threads t settled) ≡ length w.config.threads = same_count w.config.threads t settled in
    let fresh_there : thread_at mid.threads (next_thread w.config) ≡ Some (new ∷ []) =
    ap (λ (ths : List (List Frame)). thread_at ths (next_thread w.config)) mid_threads ∙ thread_last (with_thread w.config.threads t settled) (length w.config.threads) (new ∷ []) many in
    let after : Walked = record { moves = back.next.moves ++ _; config = mid } in
    let silent_new = silent_edges_are_moves unit after (next_thread w.config) new [] fresh_there in
    chosen_by unit w t input act takes.next (after_effect w.config t settled (Starts (settled_top unit new))) takes.first (
      _,
      ap (λ (o : Option Walked). option_and_then (after_start m (next_thread w.config) true) (option_and_then (after_silent m t) o)) back.is
          ∙ ap (option_and_then (after_start m (next_thread w.config) true)) silent
          ∙ silent_new,
      ap (λ (ths : List (List Frame)). record mid { threads = ths })
          (ap (λ (ths : List (List Frame)). with_thread ths (next_thread w.config) (settled_top unit new ∷ [])) mid_threads
          ∙ with_thread_last (with_thread w.config.threads t settled) (length w.config.threads) (new ∷ []) (settled_top unit new ∷ []) many)
          ∙ ap (λ (c : Config Frame). record c { threads = with_thread w.config.threads t settled ++ (settled_top unit new ∷ []) ∷ [] }) is,
    )
