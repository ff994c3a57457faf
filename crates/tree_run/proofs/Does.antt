-- What a step comes to, from what its parts do.
use Rattle.std.proofs.Common.{◌≡◌, refl, sym, ap, ◌∙◌, subst, ℕ, ℤ, pos, zero, suc, ◌+◌, ◌-◌, ◌<◌, List, [], ◌∷◌, ◌++◌, length, map, Option, None, Some, arith}
use Rattle.std.specs.Prelude.{slice_set, slice_index_or, OnOk, OnErr, IfOk, Result, Ok, Err}
use Rattle.std.specs.Global.{Vec}
use Rattle.gob_tree.specs.declared.memory.Memory.{Memory}
use Rattle.gob_tree.specs.declared.unit.Unit.{Unit as TranslationUnit}
use Rattle.c_meaning.specs.declared.config.Todo.{Todo}
use Rattle.c_meaning.specs.declared.config.Stepped.{Stepped}
use Rattle.c_meaning.specs.declared.config.Stepped.TheVariants.{Moved}
use Rattle.c_meaning.specs.Config.{Config, Keeps, after_effect}
use Rattle.c_meaning.specs.Tree as Tree
use Rattle.c_meaning.specs.Tree.{FrameStep, Goes, TreeStep, MovesTo, unrolling, frame_step, frames_after_return, outcome_of, tree_step, word_of, after_step}
use Rattle.tree_run.specs.declared.frame.Frame.{Frame}
use Rattle.tree_run.specs.declared.deed.Deed.{Deed}
use Rattle.tree_run.specs.declared.state.State.{State}
use Rattle.tree_run.specs.Framing.{shown}
use Rattle.tree_run.specs.Stack.{todo_of}
use Rattle.tree_run.specs.Deeds.{stack_of, deed_step, IsTopReady}
use Rattle.tree_run.specs.Going.{stack_in, stacks_of, stack_at, config_of, site_on, IsReadyAt, Does, Steps, GoesAt}
use Rattle.tree_run.proofs.Stacks.{top_is}
use Rattle.tree_run.proofs.Moving.{stack_there, goes_alone}

abbrev pub config : List ℤ → List (Option ℕ) → List (List Tree.Frame) → Config Tree.Frame
config globals owners threads = record { globals = globals; owners = owners; threads = threads }

pub same_config : {globals gs : List ℤ} {owners os : List (Option ℕ)} {threads ts : List (Vec Frame)} → gs ≡ globals → os ≡ owners → ts ≡ threads → config gs os (stacks_of ts) ≡ config globals owners (stacks_of threads)
same_config {globals} {gs} {owners} {os} {threads} {ts} e f g =
    ap (λ (l : List ℤ). config l os (stacks_of ts)) e ∙ ap (λ (l : List (Option ℕ)). config globals l (stacks_of ts)) f ∙ ap (λ (l : List (Vec Frame)). config globals owners (stacks_of l)) g

-- what is decided in a topmost frame is decided for the thread
abbrev pub DecidesIn : TranslationUnit → Config Tree.Frame → ℕ → ℤ → Tree.Frame → List Tree.Frame → Deed → Type 0
DecidesIn unit c thread input frame below d = frame_step frame.todo (site_on unit c thread input frame below) ≡ deed_step d (site_on unit c thread input frame below)

pub decides_there : (threads : List (Vec Frame)) (place : ℕ) (v : Vec Frame) (n : ℕ) (top : Frame) (unit : TranslationUnit) (here c : Config Tree.Frame) (thread : ℕ) (got input : ℤ) (d : Deed)
    → place < length threads → v ≡ slice_index_or threads place v → n ≡ length v.items → 0 < n → top ≡ slice_index_or v.items (n - 1) top → here ≡ c → got ≡ input
    → ((below : List Tree.Frame) → DecidesIn unit here thread got (shown top) below d)
    → (frame : Tree.Frame) (below : List Tree.Frame) → stack_at threads place ≡ frame ∷ below → DecidesIn unit c thread input frame below d
decides_there threads place v n top unit here c thread got input d lt is size some last same number h frame below shows =
    let t = top_is v.items n top frame below size some last (sym (stack_there threads place v lt is) ∙ shows) in
    let a : DecidesIn unit here thread got frame below d = subst (λ (f : Tree.Frame). DecidesIn unit here thread got f below d) t.top (h below) in
    let b : DecidesIn unit c thread got frame below d = subst (λ (k : Config Tree.Frame). DecidesIn unit k thread got frame below d) same a in
    subst (λ (k : ℤ). DecidesIn unit c thread k frame below d) number b

pub if_ok : {T E : Type 0} {P Q : T → Type 0} (r : Result T E) → ((v : T) → P v → Q v) → IfOk r P → IfOk r Q
if_ok (Ok v) f h = f v h
if_ok (Err e) f h = tt

-- a deed that was decided before the front was unrolled in memory
pub does_same : (unit : TranslationUnit) (input : ℤ) (old mid new : Config Tree.Frame) (thread at : ℕ) (d : Deed) (frame : Tree.Frame) (below : List Tree.Frame) (r : Result Stepped Memory)
    → mid ≡ old → at ≡ thread → DecidesIn unit mid thread input frame below d → Does mid new at (deed_step d (site_on unit mid at input frame below)) r
    → Does old new thread (frame_step frame.todo (site_on unit old thread input frame below)) r
does_same unit input old mid new thread at d frame below r same number decided does =
    let a : Does mid new thread (deed_step d (site_on unit mid thread input frame below)) r = subst (λ t. Does mid new t (deed_step d (site_on unit mid t input frame below)) r) number does in
    let b : Does mid new thread (frame_step frame.todo (site_on unit mid thread input frame below)) r = subst (λ (s : FrameStep). Does mid new thread s r) (sym decided) a in
    subst (λ (k : Config Tree.Frame). Does k new thread (frame_step frame.todo (site_on unit k thread input frame below)) r) same b

-- ---- nothing left to do

some_at : {A : Type 0} (xs : List A) (i : ℕ) → i < length xs → (x : A) × (x ≡ slice_index_or xs i x)
some_at [] i lt = absurd (omega (arith, lt))
some_at (x ∷ xs) zero lt = (x, refl)
some_at (x ∷ xs) (suc i) lt = some_at xs i (omega (arith, lt))

nothing_left : (threads : List (Vec Frame)) (place : ℕ) (frame : Tree.Frame) (below : List Tree.Frame) → place < length threads → IsReadyAt threads place None → stack_at threads place ≡ frame ∷ below → frame.todo ≡ []
nothing_left threads place frame below lt r shows =
    let v = some_at threads place lt in
    let ready = r.ready v.0 v.1 in
    let some : length v.0.items - 1 < length v.0.items = let z = ready.there in omega (arith, z) in
    let f = some_at v.0.items (length v.0.items - 1) some in
    let t = top_is v.0.items (length v.0.items) f.0 frame below refl ready.there f.1 (sym (stack_there threads place v.0 lt v.1) ∙ shows) in
    ap (λ (g : Tree.Frame). g.todo) (sym t.top) ∙ ap unrolling (ready.ready f.0 f.1)

pub gives_back : (unit : TranslationUnit) (globals : List ℤ) (owners : List (Option ℕ)) (old mid new : List (Vec Frame)) (place thread : ℕ) (input : ℤ) (frame : Tree.Frame) (below : List Tree.Frame)
    → thread ≡ place + 1 → place < length mid → stacks_of mid ≡ stacks_of old → IsReadyAt mid place None
    → ((frame : Tree.Frame) (below : List Tree.Frame) → stack_at mid place ≡ frame ∷ below → stacks_of new ≡ slice_set (stacks_of mid) place (frames_after_return unit below (pos 0)))
    → stack_at old place ≡ frame ∷ below
    → Does (config globals owners (stacks_of old)) (config globals owners (stacks_of new)) thread (frame_step frame.todo (site_on unit (config globals owners (stacks_of old)) thread input frame below)) (Ok Moved)
gives_back unit globals owners old mid new place thread input frame below number lt same ready gives shows =
    let c = config globals owners (stacks_of old) in
    let frames = frames_after_return unit below (pos 0) in
    let at : stack_at mid place ≡ frame ∷ below = ap (λ (l : List (List Tree.Frame)). slice_index_or l place []) same ∙ shows in
    let out : outcome_of c thread (frame_step frame.todo (site_on unit c thread input frame below)) ≡ MovesTo (after_effect c thread frames Keeps) =
    ap (λ (t : List Todo). outcome_of c thread (frame_step t (site_on unit c thread input frame below))) (nothing_left mid place frame below lt ready at) in
    let made : stacks_of new ≡ slice_set (stacks_of old) place frames = gives frame below at ∙ ap (λ (l : List (List Tree.Frame)). slice_set l place frames) same in
    record {
      word = sym (ap word_of out);
      after = goes_alone globals owners (stacks_of old) (stacks_of new) place frames made ∙ ap (λ t. after_effect c t frames Keeps) (sym number) ∙ sym (ap (after_step c) out);
      stays = tt;
    }

-- ---- any thread

pub steps_of : (s : State) (new : Config Tree.Frame) (unit : TranslationUnit) (thread place : ℕ) (input : ℤ) (r : Result Stepped Memory) → GoesAt s thread place
    → ((frame : Tree.Frame) (below : List Tree.Frame) → stack_at s.threads.items place ≡ frame ∷ below → Does (config_of s) new thread (frame_step frame.todo (site_on unit (config_of s) thread input frame below)) r)
    → Steps (config_of s) new unit thread input r
steps_of s new unit thread place input r goes does = go (stack_at s.threads.items place) refl
  where
    go : (stack : List Tree.Frame) → stack_at s.threads.items place ≡ stack → Steps (config_of s) new unit thread input r
    go [] e = let b = subst (λ (l : List Tree.Frame). 0 < length l) e goes.begun in absurd (omega (arith, b))
    go (frame ∷ below) e =
        let d = does frame below e in
        let step = goes.step unit input frame below e in
        record {
          word = subst (λ (t : TreeStep). IfOk r (λ w. w ≡ word_of t)) (sym step) d.word;
          after = subst (λ (t : TreeStep). OnOk r (new ≡ after_step (config_of s) t)) (sym step) d.after;
          stays = d.stays;
        }
