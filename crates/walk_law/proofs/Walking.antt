-- Along a run each thread's walk leads to its stack.
use Rattle.std.proofs.Common.{◌≡◌, ◌≢◌, inl, inr, ◌∙◌, refl, sym, ap, subst, ℕ, zero, suc, ◌+◌, ◌<◌, ◌≤◌, Bool, true, false, cond, nat_eq, List, [], ◌∷◌, ◌++◌, length, map, Option, None, Some, arith, append_assoc, length-append}
use Rattle.std.specs.Prelude.{slice_get}
use Rattle.std.specs.List.{filter}
use Rattle.std.proofs.lemmas.Bool.Decides.{nat_tests}
use Rattle.std.proofs.lemmas.List.{append-nil, map-append}
use Rattle.std.proofs.lemmas.List.Elements.{filter-append}
use Rattle.std.proofs.lemmas.Option.{same_Some, option_and_then_some, slice_get_within}
use Rattle.gob_tree.specs.Formed.{IsFormed}
use Rattle.gob_tree.specs.declared.graph.Program.{Program}
use Rattle.c_meaning.specs.Config.{Config, thread_at, with_thread, Effect, Keeps, SetsGlobal, SetsOwner, Starts, after_effect, next_thread}
use Rattle.c_meaning.specs.GraphStep.{Frame, first_graph, new_frame, thread_after}
use Rattle.c_meaning.specs.Walk.{Move, after_move, after_moves}
use Rattle.constraint_sys.specs.declared.unknown.Key.{Key}
use Rattle.constraint_sys.specs.PostSolution.{IsPostSolution}
use Rattle.constraint_sys.specs.Sound.{IsShaped}
use Rattle.constraint_sys.specs.Table.{TableValue, empty_key, state_at}
use Rattle.arg_graph.specs.declared.vertex.Label.{Label}
use Rattle.arg_graph.specs.Following.{followed, rooted}
use Rattle.arg_graph.specs.Offered.{offered}
use Rattle.arg_graph.specs.Vertices.{start_in}
use Rattle.arg_graph.specs.declared.stack.Frame.{Frame as Frame_of_stack}
use Rattle.arg_graph.specs.declared.vertex.Vertex.{Vertex}
use Rattle.action_law.specs.Described.{DescribesFrame, DescribesGlobals}
use Rattle.action_law.proofs.Frames.{new_node}
use Rattle.action_law.proofs.Others.{MayChange}
use Rattle.run_law.specs.Known.{IsKnown, KnowsThread}
use Rattle.run_law.proofs.Going.{StepsTo}
use Rattle.run_law.proofs.Runs.{first_is_known, main_known, one_thread}
use Rattle.run_law.proofs.Steps.{frames_step, new_waits}
use Rattle.run_law.proofs.Threads.{IfStarts, its_own, length_owners, length_with, more_thread, thread_stays}
use Rattle.walk_law.specs.Laws.{WalksAreOffered}
use Rattle.walk_law.specs.Walked.{root_of, stack_of, step_label, walk_by}
use Rattle.walk_law.proofs.Following.{TopRests, goes_moves, one_more, same_frame}

-- ---- one move more in a walk

abbrev last_label : ℕ → Move → Bool → List Label
last_label thread m own = map step_label (map (λ (move : Move). move.label) (cond own (m ∷ []) []))

walk_append : (thread : ℕ) (moves : List Move) (m : Move) → walk_by thread (moves ++ m ∷ []) ≡ walk_by thread moves ++ last_label thread m (nat_eq m.thread thread)
walk_append thread moves m =
    let q = λ (move : Move). nat_eq move.thread thread in
    let kept = filter q moves in
    let last = filter q (m ∷ []) in
    ap (λ (ms : List Move). map step_label (map (λ (move : Move). move.label) ms)) (filter-append q moves (m ∷ []))
    ∙ ap (map step_label) (map-append (λ (move : Move). move.label) kept last)
    ∙ map-append step_label (map (λ (move : Move). move.label) kept) (map (λ (move : Move). move.label) last)

same_thread : (a b : ℕ) → a ≡ b → nat_eq a b ≡ true
same_thread a b same = grind (arith, nat_tests)

other_thread : (a b : ℕ) → b ≢ a → nat_eq a b ≡ false
other_thread a b apart = grind (arith, nat_tests)

walk_own : (thread : ℕ) (moves : List Move) (m : Move) → m.thread ≡ thread → walk_by thread (moves ++ m ∷ []) ≡ walk_by thread moves ++ step_label m.label ∷ []
walk_own thread moves m same = walk_append thread moves m ∙ ap (λ (b : Bool). walk_by thread moves ++ last_label thread m b) (same_thread m.thread thread same)

walk_other : (thread : ℕ) (moves : List Move) (m : Move) → thread ≢ m.thread → walk_by thread (moves ++ m ∷ []) ≡ walk_by thread moves
walk_other thread moves m apart =
    walk_append thread moves m ∙ ap (λ (b : Bool). walk_by thread moves ++ last_label thread m b) (other_thread m.thread thread apart) ∙ append-nil (walk_by thread moves)

-- ---- what is kept along a run

abbrev IsFollowed : Program → TableValue → List (Option ℕ) → ℕ → List Frame → List Move → Type 0
IsFollowed p t owners i frames moves =
    (keys : List Key) × KnowsThread p t owners i frames keys × (followed (offered p t) (root_of frames) (walk_by i moves) ≡ Some (stack_of frames keys)) × TopRests frames

record IsWalked (p : Program) (t : TableValue) (moves : List Move) (c : Config Frame) : Type 0 where
  pub globals : DescribesGlobals p t c
  pub owners : length c.owners ≡ length p.mutexes
  pub threads : (i : ℕ) (frames : List Frame) → thread_at c.threads i ≡ Some frames → IsFollowed p t c.owners i frames moves
  pub quiet : (i : ℕ) → length c.threads < i → walk_by i moves ≡ []

known_of : (p : Program) (t : TableValue) (moves : List Move) (c : Config Frame) → IsWalked p t moves c → IsKnown p t c
known_of p t moves c w = record {
  globals = w.globals;
  owners = w.owners;
  threads = λ i frames at. let k = w.threads i frames at in (k.0, k.1);
}

thread_within : (threads : List (List Frame)) (i : ℕ) (frames : List Frame) → thread_at threads i ≡ Some frames → i ≤ length threads
thread_within threads zero frames e = omega arith
thread_within threads (suc i) frames e = let within = slice_get_within threads i frames e in omega (arith, within)

more_threads : (c : Config Frame) (thread : ℕ) (mine : List Frame) (effect : Effect Frame) → length c.threads ≤ length (after_effect c thread mine effect).threads
more_threads c thread mine Keeps = omega (arith, length_with c.threads thread mine)
more_threads c thread mine (SetsGlobal g n) = omega (arith, length_with c.threads thread mine)
more_threads c thread mine (SetsOwner m owner) = omega (arith, length_with c.threads thread mine)
more_threads c thread mine (Starts frame) = omega (arith, length_with c.threads thread mine, length-append (with_thread c.threads thread mine) ((frame ∷ []) ∷ []))

module _ (p : Program) (t : TableValue) (c : Config Frame) (moves : List Move) (m : Move) (w : IsWalked p t moves c) (mine old : List Frame) (effect : Effect Frame) (may : MayChange c.owners m.thread effect) (there : thread_at c.threads m.thread ≡ Some old) where
  abbrev After : ℕ → List Frame → Type 0
  After i frames = IsFollowed p t (after_effect c m.thread mine effect).owners i frames (moves ++ m ∷ [])

  module _ (own : After m.thread mine) where
    frames_kept : (i : ℕ) (frames : List Frame) → thread_at (with_thread c.threads m.thread mine) i ≡ Some frames → After i frames
    frames_kept i frames at = elim (its_own c.threads m.thread mine old i frames there at) [
      | inl its ↦ subst (λ (j : ℕ). After j frames) (sym its.0) (subst (After m.thread) its.1 own)
      | inr others ↦
          let k = w.threads i frames others.1 in
          (k.0, thread_stays p t c m.thread mine effect may i frames k.0 others.0 k.1, ap (followed (offered p t) (root_of frames)) (walk_other i moves m others.0) ∙ k.2, k.3)
    ]

-- a thread that starts has an empty walk
fresh_followed : (p : Program) (t : TableValue) (c : Config Frame) (moves : List Move) (m : Move) (w : IsWalked p t moves c) (mine old : List Frame) (frame : Frame) (i : ℕ) → thread_at c.threads m.thread ≡ Some old → i ≡ length (with_thread c.threads m.thread mine) + 1
    → DescribesFrame p c.owners (next_thread c) (state_at p t frame.func empty_key frame.node) frame → (frame.node ≡ 0) × (frame.waits ≡ None)
    → IsFollowed p t c.owners i (frame ∷ []) (moves ++ m ∷ [])
fresh_followed p t c moves m w mine old frame i there at described fresh =
    let number : i ≡ length c.threads + 1 = omega (arith, at, length_with c.threads m.thread mine) in
    let mover = thread_within c.threads m.thread old there in
    let walk = walk_other i moves m (λ same. omega (arith, same, number, mover)) ∙ w.quiet i (omega (arith, number)) in (
      empty_key ∷ [],
      (subst (λ (j : ℕ). DescribesFrame p c.owners j (state_at p t frame.func empty_key frame.node) frame) (sym number) described, refl),
      ap (followed (offered p t) (start_in frame.func)) walk
          ∙ ap (λ (x : Frame_of_stack). Some (x ∷ [])) (sym (same_frame frame.func frame.func frame.node 0 empty_key frame.waits None refl fresh.0 fresh.1)),
      fresh.1,
    )

threads_after : (p : Program) (t : TableValue) (c : Config Frame) (moves : List Move) (m : Move) (w : IsWalked p t moves c) (mine old : List Frame) (effect : Effect Frame) (may : MayChange c.owners m.thread effect) (there : thread_at c.threads m.thread ≡ Some old)
    → IsFollowed p t (after_effect c m.thread mine effect).owners m.thread mine (moves ++ m ∷ [])
    → IfStarts effect (λ (frame : Frame). DescribesFrame p c.owners (next_thread c) (state_at p t frame.func empty_key frame.node) frame) → IfStarts effect (λ (frame : Frame). (frame.node ≡ 0) × (frame.waits ≡ None))
    → (i : ℕ) (frames : List Frame) → thread_at (after_effect c m.thread mine effect).threads i ≡ Some frames → IsFollowed p t (after_effect c m.thread mine effect).owners i frames (moves ++ m ∷ [])
threads_after p t c moves m w mine old Keeps may there own starts fresh i frames at = frames_kept p t c moves m w mine old Keeps may there own i frames at
threads_after p t c moves m w mine old (SetsGlobal g n) may there own starts fresh i frames at = frames_kept p t c moves m w mine old (SetsGlobal g n) may there own i frames at
threads_after p t c moves m w mine old (SetsOwner x owner) may there own starts fresh i frames at = frames_kept p t c moves m w mine old (SetsOwner x owner) may there own i frames at
threads_after p t c moves m w mine old (Starts frame) may there own starts fresh i frames at = elim (more_thread (with_thread c.threads m.thread mine) (frame ∷ []) frames i at) [
  | inl before ↦ frames_kept p t c moves m w mine old (Starts frame) may there own i frames before
  | inr last ↦ subst (λ (fs : List Frame). IsFollowed p t c.owners i fs (moves ++ m ∷ [])) last.1 (fresh_followed p t c moves m w mine old frame i there last.0 starts fresh)
]

-- ---- one move

module _ (p : Program) (t : TableValue) (formed : IsFormed p) (shaped : IsShaped p t) (post : IsPostSolution p t) where
  own_followed : (c next : Config Frame) (moves : List Move) (m : Move) (frames : List Frame) (k : IsFollowed p t c.owners m.thread frames moves) (step : StepsTo p t c m.thread frames k.0 m.label next)
      → IsFollowed p t (after_effect c m.thread step.mine step.effect).owners m.thread step.mine (moves ++ m ∷ [])
  own_followed c next moves m frames k step =
      let moved = goes_moves p t frames k.0 m.label step.mine step.after k.3 step.goes in
      let offers = offered p t in
      let more = one_more offers (walk_by m.thread moves) (step_label m.label) (rooted (root_of frames)) (stack_of frames k.0) (stack_of step.mine step.after) k.2 moved.0 in (
        step.after,
        step.own,
        ap (λ (v : Vertex). followed offers v (walk_by m.thread (moves ++ m ∷ []))) moved.2 ∙ ap (followed offers (root_of frames)) (walk_own m.thread moves m refl) ∙ more,
        moved.1,
      )

  move_walked : (c next : Config Frame) (moves : List Move) (m : Move) → IsWalked p t moves c → after_move p c m ≡ Some next → IsWalked p t (moves ++ m ∷ []) next
  move_walked c next moves m w q =
      option_and_then_some (thread_after p c m.thread m.input m.label) (thread_at c.threads m.thread) next q (λ frames there goes.
      let k = w.threads m.thread frames there in
      let step = frames_step p t formed shaped post c next m.thread m.input (known_of p t moves c w) frames k.0 m.label there k.1 goes in
      subst (IsWalked p t (moves ++ m ∷ [])) step.leads (record {
        globals = step.globals;
        owners = length_owners c m.thread step.mine step.effect ∙ w.owners;
        threads = threads_after p t c moves m w step.mine frames step.effect step.may there (own_followed c next moves m frames k step) step.starts step.fresh;
        quiet = λ i above.
            let more = more_threads c m.thread step.mine step.effect in
            let mover = thread_within c.threads m.thread frames there in
            walk_other i moves m (λ same. omega (arith, same, above, more, mover)) ∙ w.quiet i (omega (arith, above, more));
      }))

  moves_walked : (done rest : List Move) (c last : Config Frame) → IsWalked p t done c → after_moves p rest c ≡ Some last → IsWalked p t (done ++ rest) last
  moves_walked done [] c last w q = subst (λ (ms : List Move). IsWalked p t ms last) (sym (append-nil done)) (subst (IsWalked p t done) (same_Some c last q) w)
  moves_walked done (m ∷ rest) c last w q =
      option_and_then_some (after_moves p rest) (after_move p c m) last q (λ next moved goes.
      subst (λ (ms : List Move). IsWalked p t ms last) (append_assoc done (m ∷ []) rest) (moves_walked (done ++ m ∷ []) rest next last (move_walked c next done m w moved) goes))

  -- ---- the first moment
  first_walked : IsWalked p t [] (first_graph p)
  first_walked =
      let known = first_is_known p t formed post in
      let main = new_frame p p.main [] in
      let found = slice_get p.funcs p.main in
      let node = new_node p.main [] found in
      let waits = new_waits p.main [] found in
      let stack = ap (λ (x : Frame_of_stack). Some (x ∷ [])) (sym (same_frame main.func main.func main.node 0 empty_key main.waits None refl node waits)) in
      record {
        globals = known.globals;
        owners = known.owners;
        threads = λ i frames at. subst (λ (fs : List Frame). IsFollowed p t (first_graph p).owners i fs []) (one_thread (main ∷ []) i frames at)
            (empty_key ∷ [], main_known p t (first_graph p).owners i post, stack, waits);
        quiet = λ i above. refl;
      }

pub walks_are_offered : WalksAreOffered
walks_are_offered p t moves last thread frames formed shaped post q at =
    let k = (moves_walked p t formed shaped post [] moves (first_graph p) last (first_walked p t formed shaped post) q).threads thread frames at in
    (k.0, k.1, k.2)
