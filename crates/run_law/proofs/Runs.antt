-- The first moment, and runs.
use Rattle.std.proofs.Common.{◌≡◌, refl, sym, ap, subst, ℕ, zero, suc, ◌<◌, ℤ, pos, List, [], ◌∷◌, length, map, Option, None, Some, IsSomeAnd, arith}
use Rattle.std.specs.Prelude.{slice_get, slice_index_or}
use Rattle.std.proofs.lemmas.Int.{ints}
use Rattle.std.proofs.lemmas.List.{length-replicate}
use Rattle.std.proofs.lemmas.Option.{none-some, same_Some, option_and_then_some}
use Rattle.gob_tree.specs.Formed.{IsFormed}
use Rattle.gob_tree.specs.declared.graph.Program.{Program}
use Rattle.gob_tree.specs.declared.unit.GlobalDecl.{GlobalDecl}
use Rattle.interval_dom.specs.Bounds.{Bounds, between, Describes}
use Rattle.c_meaning.specs.Config.{Config, thread_at}
use Rattle.c_meaning.specs.GraphStep.{Frame, first_graph, new_frame}
use Rattle.c_meaning.specs.Walk.{Move, after_move, after_moves}
use Rattle.state_dom.specs.StateValue.{DescribesState, start_of}
use Rattle.constraint_sys.specs.declared.unknown.Key.{Key}
use Rattle.constraint_sys.specs.declared.unknown.Unknown.TheVariants.{Global}
use Rattle.constraint_sys.specs.PostSolution.{IsPostSolution}
use Rattle.constraint_sys.specs.Sound.{IsShaped}
use Rattle.constraint_sys.specs.Table.{TableValue, empty_key, slots_at, state_at, value_at}
use Rattle.constraint_sys.specs.Transfer.{number_at}
use Rattle.constraint_sys.specs.Turn.{initial_of}
use Rattle.constraint_sys.proofs.Replaying.{IsPostSolution-clean, IsSound-replayed}
use Rattle.constraint_sys.proofs.SoundStart.{IsSound-initial}
use Rattle.action_law.specs.Described.{DescribesGlobals, DescribesSlots}
use Rattle.action_law.proofs.Frames.{new_func, new_node, start_described}
use Rattle.action_law.proofs.Globals.{covered}
use Rattle.run_law.specs.Known.{IsKnown, KnowsCallers, KnowsThread}
use Rattle.run_law.specs.Laws.{FirstIsKnown, FramesAreDescribed, RunsAreKnown, SolvedTablesAreTrue}
use Rattle.run_law.proofs.Bounding.{slots_described, target_describes}
use Rattle.run_law.proofs.Steps.{steps_keep_known}

-- ---- the first moment

initial_at : (globals : List GlobalDecl) (g : ℕ) (decl : GlobalDecl) → slice_get globals g ≡ Some decl → slice_index_or (map (λ (d : GlobalDecl). d.initial) globals) g (pos 0) ≡ decl.initial
initial_at [] g decl e = absurd (none-some decl e)
initial_at (d ∷ globals) zero decl e = ap (λ (x : GlobalDecl). x.initial) (same_Some d decl e)
initial_at (d ∷ globals) (suc g) decl e = initial_at globals g decl e

decl_at : (globals : List GlobalDecl) (g : ℕ) → g < length globals → (decl : GlobalDecl) × (slice_get globals g ≡ Some decl)
decl_at [] g within = absurd (omega arith)
decl_at (d ∷ globals) zero within = (d, refl)
decl_at (d ∷ globals) (suc g) within = decl_at globals g (omega arith)

itself : (n : ℤ) → Describes (between n n) n
itself n = (omega (arith, ints), omega (arith, ints))

first_globals : (p : Program) (t : TableValue) → IsPostSolution p t → DescribesGlobals p t (first_graph p)
first_globals p t post g within =
    let found = decl_at p.globals g within in
    subst (λ (n : ℤ). IsSomeAnd (number_at t g) (λ (v : Bounds). Describes v n)) (sym (initial_at p.globals g found.0 found.1))
    (covered (value_at t (Global g)) (between found.0.initial found.0.initial) found.0.initial (post.roots.globals_bounded g found.0 found.1) (itself found.0.initial))

pub main_known : (p : Program) (t : TableValue) (owners : List (Option ℕ)) (thread : ℕ) → IsPostSolution p t → KnowsThread p t owners thread (new_frame p p.main [] ∷ []) (empty_key ∷ [])
main_known p t owners thread post =
    let main = new_frame p p.main [] in
    let found = slice_get p.funcs p.main in
    let func = new_func p.main [] found in
    let node = new_node p.main [] found in
    let start = start_described p owners thread p.main found refl in
    let at_main = subst (λ (f : ℕ). DescribesState (slots_at p f) (start_of (length (slots_at p p.main))) main.slots owners thread) func start in
    let at_start = target_describes p t p.main empty_key 0 (start_of (length (slots_at p p.main))) main.slots owners thread post.roots.main_bounded at_main in (
      subst (λ (n : ℕ). DescribesState (slots_at p main.func) (state_at p t main.func empty_key n) main.slots owners thread) (sym node)
          (subst (λ (f : ℕ). DescribesState (slots_at p f) (state_at p t f empty_key 0) main.slots owners thread) (sym func) at_start),
      refl,
    )

pub one_thread : (frames : List Frame) (i : ℕ) (others : List Frame) → thread_at (frames ∷ []) i ≡ Some others → frames ≡ others
one_thread frames zero others e = absurd (none-some others e)
one_thread frames (suc zero) others e = same_Some frames others e
one_thread frames (suc (suc i)) others e = absurd (none-some others e)

pub first_is_known : FirstIsKnown
first_is_known p t formed post = record {
  globals = first_globals p t post;
  owners = length-replicate (length p.mutexes) None;
  threads = λ thread frames at.
      subst (λ (fs : List Frame). (keys : List Key) × KnowsThread p t (first_graph p).owners thread fs keys) (one_thread (new_frame p p.main [] ∷ []) thread frames at)
      (empty_key ∷ [], main_known p t (first_graph p).owners thread post);
}

-- ---- runs

moves_known : (p : Program) (t : TableValue) → IsFormed p → IsShaped p t → IsPostSolution p t → (moves : List Move) (c last : Config Frame) → IsKnown p t c → after_moves p moves c ≡ Some last → IsKnown p t last
moves_known p t formed shaped post [] c last known q = subst (IsKnown p t) (same_Some c last q) known
moves_known p t formed shaped post (move ∷ moves) c last known q =
    option_and_then_some (after_moves p moves) (after_move p c move) last q (λ next moved goes.
    moves_known p t formed shaped post moves next last (steps_keep_known p t c next move.thread move.input move.label formed shaped post known moved) goes)

pub runs_are_known : RunsAreKnown
runs_are_known p t moves last formed shaped post q = moves_known p t formed shaped post moves (first_graph p) last (first_is_known p t formed post) q

pub solved_tables_are_true : SolvedTablesAreTrue
solved_tables_are_true p trace solved moves last formed replayed clean q =
    let sound = IsSound-replayed p (initial_of p) trace solved formed (IsSound-initial p formed) replayed in
    runs_are_known p solved.table moves last formed sound.shaped (IsPostSolution-clean p solved sound clean) q

-- ---- the frames of a thread

abbrev IsShown : Program → TableValue → Frame → Type 0
IsShown p t frame = (key : Key) × DescribesSlots (slots_at p frame.func) (state_at p t frame.func key frame.node) frame.slots

caller_shown : (p : Program) (t : TableValue) (f : ℕ) (key : Key) (below : List Frame) (keys : List Key) (i : ℕ) (frame : Frame) → KnowsCallers p t f key below keys → slice_get below i ≡ Some frame → IsShown p t frame
caller_shown p t f key [] keys i frame k q = absurd (none-some frame q)
caller_shown p t f key (caller ∷ below) [] i frame k q = absurd k
caller_shown p t f key (caller ∷ below) (own ∷ keys) zero frame k q =
    subst (IsShown p t) (same_Some caller frame q) (own, subst (λ (node : ℕ). DescribesSlots (slots_at p caller.func) (state_at p t caller.func own node) caller.slots) k.0.leaves k.0.slots)
caller_shown p t f key (caller ∷ below) (own ∷ keys) (suc i) frame k q = caller_shown p t caller.func own below keys i frame k.1 q

frame_shown : (p : Program) (t : TableValue) (owners : List (Option ℕ)) (thread : ℕ) (frames : List Frame) (keys : List Key) (i : ℕ) (frame : Frame) → KnowsThread p t owners thread frames keys → slice_get frames i ≡ Some frame → IsShown p t frame
frame_shown p t owners thread [] keys i frame k q = absurd k
frame_shown p t owners thread (top ∷ below) [] i frame k q = absurd k
frame_shown p t owners thread (top ∷ below) (key ∷ keys) zero frame k q =
    subst (IsShown p t) (same_Some top frame q) (key, slots_described (slots_at p top.func) (state_at p t top.func key top.node) top.slots owners thread k.0)
frame_shown p t owners thread (top ∷ below) (key ∷ keys) (suc i) frame k q = caller_shown p t top.func key below keys i frame k.1 q

pub frames_are_described : FramesAreDescribed
frames_are_described p t moves last thread frames i frame formed shaped post q there at =
    let k = (runs_are_known p t moves last formed shaped post q).threads thread frames there in
    frame_shown p t last.owners thread frames k.0 i frame k.1 at
