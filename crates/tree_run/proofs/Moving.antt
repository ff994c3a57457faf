-- Threads at their places, and what a step makes of them.
use Rattle.std.proofs.Common.{◌≡◌, refl, sym, ap, ◌∙◌, subst, ℕ, ℤ, zero, suc, ◌+◌, ◌-◌, ◌<◌, Bool, true, false, List, [], ◌∷◌, ◌++◌, length, take, map, reverse, Option, None, Some, arith}
use Rattle.std.specs.Prelude.{slice_set, slice_get, slice_index_or, OnOk, OnErr, IfOk, Result, Ok, Err}
use Rattle.std.specs.Global.{Vec}
use Rattle.std.proofs.Math.Seq.{map-set_same, take-append_seam}
use Rattle.std.proofs.lemmas.List.{length-map, length-reverse, map-append, map-set, take-map, get_or-map, get_or-set_same, get_or_append_left, set-append_left}
use Rattle.c_meaning.specs.Config.{Config, Effect, Keeps, SetsGlobal, SetsOwner, Starts, after_effect, with_thread}
use Rattle.c_meaning.specs.Tree as Tree
use Rattle.gob_tree.specs.declared.memory.Memory.{Memory}
use Rattle.tree_run.specs.declared.frame.Frame.{Frame}
use Rattle.tree_run.specs.declared.todo.Next.{Next}
use Rattle.tree_run.specs.Framing.{shown}
use Rattle.tree_run.specs.Deeds.{stack_of, IsTopReady}
use Rattle.tree_run.specs.Going.{stack_in, stacks_of, stack_at, IsReadyAt}

pub stack_there : (threads : List (Vec Frame)) (place : ℕ) (v : Vec Frame) → place < length threads → v ≡ slice_index_or threads place v → stack_at threads place ≡ stack_in v
stack_there threads place v lt is = get_or-map stack_in threads place v [] lt ∙ ap stack_in (sym is)

-- frames that show the same
pub stacks_stay : (threads : List (Vec Frame)) (place : ℕ) (old v : Vec Frame) → old ≡ slice_index_or threads place old → stack_in v ≡ stack_in old → stacks_of (slice_set threads place v) ≡ stacks_of threads
stacks_stay threads place old v is same = map-set_same stack_in threads place v old (same ∙ ap stack_in is)

pub stacks_go : (goes : Tree.Frame → List Tree.Frame → List Tree.Frame) (threads : List (Vec Frame)) (place : ℕ) (old v : Vec Frame) → place < length threads → old ≡ slice_index_or threads place old
    → ((frame : Tree.Frame) (below : List Tree.Frame) → stack_of old.items ≡ frame ∷ below → stack_of v.items ≡ goes frame below)
    → (frame : Tree.Frame) (below : List Tree.Frame) → stack_at threads place ≡ frame ∷ below → stacks_of (slice_set threads place v) ≡ slice_set (stacks_of threads) place (goes frame below)
stacks_go goes threads place old v lt is acts frame below shows =
    map-set stack_in threads place v ∙ ap (slice_set (stacks_of threads) place) (acts frame below (sym (stack_there threads place old lt is) ∙ shows))

-- ---- a new thread

pub stacks_push : (threads pushed : List (Vec Frame)) (started : Vec Frame) (f : Frame) → pushed ≡ threads ++ started ∷ [] → started.items ≡ f ∷ [] → stacks_of pushed ≡ stacks_of threads ++ (shown f ∷ []) ∷ []
stacks_push threads pushed started f e one =
    ap stacks_of e ∙ map-append stack_in threads (started ∷ []) ∙ ap (λ (l : List Frame). stacks_of threads ++ stack_of l ∷ []) one

pub start_goes : (goes : Tree.Frame → List Tree.Frame → List Tree.Frame) (threads pushed new : List (Vec Frame)) (started : Vec Frame) (f : Frame) (place : ℕ) → pushed ≡ threads ++ started ∷ [] → started.items ≡ f ∷ [] → place < length threads
    → ((frame : Tree.Frame) (below : List Tree.Frame) → stack_at pushed place ≡ frame ∷ below → stacks_of new ≡ slice_set (stacks_of pushed) place (goes frame below))
    → (frame : Tree.Frame) (below : List Tree.Frame) → stack_at threads place ≡ frame ∷ below → stacks_of new ≡ slice_set (stacks_of threads) place (goes frame below) ++ (shown f ∷ []) ∷ []
start_goes goes threads pushed new started f place e one lt go frame below shows =
    let more : List (List Tree.Frame) = (shown f ∷ []) ∷ [] in
    let maps = stacks_push threads pushed started f e one in
    let size = length-map threads stack_in in
    let there : place < length (stacks_of threads) = omega (arith, lt, size) in
    let at : stack_at pushed place ≡ stack_at threads place = ap (λ (l : List (List Tree.Frame)). slice_index_or l place []) maps ∙ get_or_append_left (stacks_of threads) more [] place there in
    go frame below (at ∙ shows) ∙ ap (λ (l : List (List Tree.Frame)). slice_set l place (goes frame below)) maps ∙ set-append_left (stacks_of threads) more place (goes frame below) there

pub start_stays : (threads pushed performed new : List (Vec Frame)) (started : Vec Frame) (f : Frame) (count : ℕ) → pushed ≡ threads ++ started ∷ [] → started.items ≡ f ∷ [] → count ≡ length threads
    → stacks_of performed ≡ stacks_of pushed → new ≡ take count performed → stacks_of new ≡ stacks_of threads
start_stays threads pushed performed new started f count e one size same cut =
    ap stacks_of cut ∙ sym (take-map stack_in count performed)
    ∙ ap (take count) (same ∙ stacks_push threads pushed started f e one)
    ∙ ap (λ n. take n (stacks_of threads ++ (shown f ∷ []) ∷ [])) (size ∙ sym (length-map threads stack_in))
    ∙ take-append_seam (stacks_of threads) ((shown f ∷ []) ∷ [])

-- ---- configurations

set_thread : (threads : List (List Tree.Frame)) (place : ℕ) (frames : List Tree.Frame) → slice_set threads place frames ≡ with_thread threads (place + 1) frames
set_thread threads place frames = let e : suc place ≡ place + 1 = omega arith in ap (λ t. with_thread threads t frames) e

abbrev config : List ℤ → List (Option ℕ) → List (List Tree.Frame) → Config Tree.Frame
config globals owners threads = record { globals = globals; owners = owners; threads = threads }

pub goes_alone : (globals : List ℤ) (owners : List (Option ℕ)) (threads new : List (List Tree.Frame)) (place : ℕ) (frames : List Tree.Frame) → new ≡ slice_set threads place frames
    → config globals owners new ≡ after_effect (config globals owners threads) (place + 1) frames Keeps
goes_alone globals owners threads new place frames e = ap (config globals owners) (e ∙ set_thread threads place frames)

pub stays_same : (globals : List ℤ) (owners : List (Option ℕ)) (threads new : List (List Tree.Frame)) → new ≡ threads → config globals owners new ≡ config globals owners threads
stays_same globals owners threads new e = ap (config globals owners) e
