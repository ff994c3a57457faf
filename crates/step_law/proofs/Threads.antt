-- Threads and configurations that are together.
use Rattle.std.proofs.Common.{◌≡◌, ◌∙◌, refl, sym, ap, subst, ℕ, zero, suc, ◌≤◌, ℤ, List, [], ◌∷◌, ◌++◌, length, take, Option, Some, arith}
use Rattle.std.specs.Prelude.{slice_get, slice_set, nat_eq, true}
use Rattle.std.proofs.lemmas.Option.{none-some, same_Some}
use Rattle.gob_tree.specs.declared.unit.Function.{Function}
use Rattle.gob_tree.specs.declared.unit.Unit.{Unit as TranslationUnit}
use Rattle.c_meaning.specs.declared.config.Todo.{Todo}
use Rattle.c_meaning.specs.Config.{Config, Effect, Keeps, SetsGlobal, SetsOwner, Starts, after_effect, thread_at, with_thread}
use Rattle.c_meaning.specs.Graph.{flow_of, graph_slots}
use Rattle.c_meaning.specs.GraphStep as Graph
use Rattle.c_meaning.specs.Tree as Tree
use Rattle.c_meaning.specs.Walk.{StandsBelow, StandsFrame, StandsInFront, StandsThread, StandThreads, moment_along}
use Rattle.graph_law.specs.Fitting.{FitEach}
use Rattle.graph_law.specs.Lying.{Lies}
use Rattle.graph_law.proofs.Beginning.{things_begin}
use Rattle.graph_law.proofs.Entering.{lies_nothing}
use Rattle.step_law.specs.Laws.{TogetherStands}
use Rattle.step_law.specs.Together.{FrameTogether, FramesBelow, ThreadTogether, ThreadsTogether, Together}
use Rattle.step_law.proofs.Frames.{along_from}

-- ---- standing

take_again : (n : ℕ) (ys : List ℤ) → take (length (take n ys)) ys ≡ take n ys
take_again zero ys = refl
take_again (suc n) [] = refl
take_again (suc n) (y ∷ ys) = ap (λ (l : List ℤ). y ∷ l) (take_again n ys)

stands_in_front : (f : Function) (todo : List Todo) (n : ℕ) (values named ins : List ℤ) (node : ℕ) (slots : List ℤ) → Lies f todo n → 2 ≤ n → length values ≡ length (graph_slots f) → take (length f.slots) values ≡ named
    → moment_along (graph_slots f) (flow_of f).edges ins (record { node = n; slots = values }) ≡ Some (record { node = node; slots = slots }) → StandsInFront (Some f) todo named ins node slots
stands_in_front f [] n values named ins node slots lies inside room same along = let exit = lies_nothing f n lies in absurd (omega (arith, exit, inside))
stands_in_front f (todo ∷ rest) n values named ins node slots lies inside room same along =
    let b = things_begin f todo rest n lies in
    record { begin = b.0; values = values; begins = b.2; room = room; same_named = same; along = sym (along_from f n b.0 values ins b.1) ∙ along }

frame_stands : (unit : TranslationUnit) (f : Function) (t : Tree.Frame) (g : Graph.Frame) → FrameTogether unit f t g → StandsFrame unit t g
frame_stands unit f t g frame = record {
  func = frame.func;
  vars = frame.vars;
  named = ap (λ (l : List ℤ). take (length l) g.slots) (sym frame.kept) ∙ take_again (length f.slots) g.slots ∙ frame.kept;
  front = subst (λ (o : Option Function). StandsInFront o t.todo t.slots t.ins g.node g.slots) (sym frame.there)
      (stands_in_front f t.todo frame.begin frame.values t.slots t.ins g.node g.slots frame.lies frame.inside frame.room frame.named frame.along);
}

below_stands : (unit : TranslationUnit) (callee : ℕ) (ts : List Tree.Frame) (gs : List Graph.Frame) → FramesBelow unit callee ts gs → StandsBelow unit callee ts gs
below_stands unit callee [] [] b = tt
below_stands unit callee [] (g ∷ gs) b = absurd b
below_stands unit callee (t ∷ ts) [] b = absurd b
below_stands unit callee (t ∷ ts) (g ∷ gs) b = (
  frame_stands unit b.0 t g b.1,
  record { edge = b.2.place; waits = b.2.waits; destination = b.2.destination; args = b.2.args; to = b.2.to; call = b.2.call },
  below_stands unit t.func ts gs b.3,
)

thread_stands : (unit : TranslationUnit) (ts : List Tree.Frame) (gs : List Graph.Frame) → ThreadTogether unit ts gs → StandsThread unit ts gs
thread_stands unit [] [] b = absurd b
thread_stands unit [] (g ∷ []) b = b
thread_stands unit [] (g ∷ g' ∷ gs) b = absurd b
thread_stands unit (t ∷ ts) [] b = absurd b
thread_stands unit (t ∷ ts) (g ∷ gs) b = (frame_stands unit b.0 t g b.1, b.2, below_stands unit t.func ts gs b.3)

threads_stand : (unit : TranslationUnit) (ts : List (List Tree.Frame)) (gs : List (List Graph.Frame)) → ThreadsTogether unit ts gs → StandThreads unit ts gs
threads_stand unit [] [] b = tt
threads_stand unit [] (g ∷ gs) b = absurd b
threads_stand unit (t ∷ ts) [] b = absurd b
threads_stand unit (t ∷ ts) (g ∷ gs) b = (thread_stands unit t g b.0, threads_stand unit ts gs b.1)

pub together_stands : TogetherStands
together_stands unit t g both = record { globals = both.globals; owners = both.owners; threads = threads_stand unit t.threads g.threads both.threads }

-- ---- threads

found : (unit : TranslationUnit) (ts : List (List Tree.Frame)) (gs : List (List Graph.Frame)) (i : ℕ) (frames : List Tree.Frame) → ThreadsTogether unit ts gs → slice_get ts i ≡ Some frames
    → (graph : List Graph.Frame) × (slice_get gs i ≡ Some graph) × ThreadTogether unit frames graph
found unit [] gs i frames both at = absurd (none-some frames at)
found unit (x ∷ ts) [] i frames both at = absurd both
found unit (x ∷ ts) (g ∷ gs) zero frames both at = (g, refl, subst (λ (fs : List Tree.Frame). ThreadTogether unit fs g) (same_Some x frames at) both.0)
found unit (x ∷ ts) (g ∷ gs) (suc i) frames both at = found unit ts gs i frames both.1 at

pub thread_found : (unit : TranslationUnit) (ts : List (List Tree.Frame)) (gs : List (List Graph.Frame)) (t : ℕ) (frames : List Tree.Frame) → ThreadsTogether unit ts gs → thread_at ts t ≡ Some frames
    → (graph : List Graph.Frame) × (thread_at gs t ≡ Some graph) × ThreadTogether unit frames graph
thread_found unit ts gs zero frames both at = absurd (none-some frames at)
thread_found unit ts gs (suc i) frames both at = found unit ts gs i frames both at

set_together : (unit : TranslationUnit) (ts : List (List Tree.Frame)) (gs : List (List Graph.Frame)) (i : ℕ) (x : List Tree.Frame) (y : List Graph.Frame) → ThreadsTogether unit ts gs → ThreadTogether unit x y
    → ThreadsTogether unit (slice_set ts i x) (slice_set gs i y)
set_together unit [] [] i x y both new = tt
set_together unit [] (g ∷ gs) i x y both new = absurd both
set_together unit (t ∷ ts) [] i x y both new = absurd both
set_together unit (t ∷ ts) (g ∷ gs) zero x y both new = (new, both.1)
set_together unit (t ∷ ts) (g ∷ gs) (suc i) x y both new = (both.0, set_together unit ts gs i x y both.1 new)

with_together : (unit : TranslationUnit) (ts : List (List Tree.Frame)) (gs : List (List Graph.Frame)) (t : ℕ) (x : List Tree.Frame) (y : List Graph.Frame) → ThreadsTogether unit ts gs → ThreadTogether unit x y
    → ThreadsTogether unit (with_thread ts t x) (with_thread gs t y)
with_together unit ts gs zero x y both new = both
with_together unit ts gs (suc i) x y both new = set_together unit ts gs i x y both new

one_more : (unit : TranslationUnit) (ts : List (List Tree.Frame)) (gs : List (List Graph.Frame)) (x : List Tree.Frame) (y : List Graph.Frame) → ThreadsTogether unit ts gs → ThreadTogether unit x y
    → ThreadsTogether unit (ts ++ x ∷ []) (gs ++ y ∷ [])
one_more unit [] [] x y both new = (new, tt)
one_more unit [] (g ∷ gs) x y both new = absurd both
one_more unit (t ∷ ts) [] x y both new = absurd both
one_more unit (t ∷ ts) (g ∷ gs) x y both new = (both.0, one_more unit ts gs x y both.1 new)

pub same_many : (unit : TranslationUnit) (ts : List (List Tree.Frame)) (gs : List (List Graph.Frame)) → ThreadsTogether unit ts gs → length ts ≡ length gs
same_many unit [] [] both = refl
same_many unit [] (g ∷ gs) both = absurd both
same_many unit (t ∷ ts) [] both = absurd both
same_many unit (t ∷ ts) (g ∷ gs) both = ap suc (same_many unit ts gs both.1)

-- a thread that has ended in the trees has ended in the graphs
pub over_together : (unit : TranslationUnit) (gs : List Graph.Frame) → ThreadTogether unit [] gs → Graph.is_over gs ≡ true
over_together unit [] b = absurd b
over_together unit (g ∷ []) b = ap (λ (n : ℕ). nat_eq n 1) b.0
over_together unit (g ∷ g' ∷ gs) b = absurd b

-- ---- effects

pub data EffectTogether (unit : TranslationUnit) : Effect Tree.Frame → Effect Graph.Frame → Type 0 where
  keeps : EffectTogether unit Keeps Keeps
  sets_global : (g : ℕ) → (n : ℤ) → EffectTogether unit (SetsGlobal g n) (SetsGlobal g n)
  sets_owner : (m : ℕ) → (owner : Option ℕ) → EffectTogether unit (SetsOwner m owner) (SetsOwner m owner)
  starts : (x : Tree.Frame) → (y : Graph.Frame) → ThreadTogether unit (x ∷ []) (y ∷ []) → EffectTogether unit (Starts x) (Starts y)

pub after_together : (unit : TranslationUnit) (c : Config Tree.Frame) (d : Config Graph.Frame) (t : ℕ) (frames : List Tree.Frame) (graph : List Graph.Frame) (effect : Effect Tree.Frame) (other : Effect Graph.Frame)
    → Together unit c d → ThreadTogether unit frames graph → EffectTogether unit effect other → FitEach unit.globals (after_effect c t frames effect).globals
    → Together unit (after_effect c t frames effect) (after_effect d t graph other)
after_together unit c d t frames graph _ _ both new keeps fit = record { globals = both.globals; owners = both.owners; threads = with_together unit c.threads d.threads t frames graph both.threads new; fit = fit }
after_together unit c d t frames graph _ _ both new (sets_global g n) fit =
    record { globals = ap (λ (l : List ℤ). slice_set l g n) both.globals; owners = both.owners; threads = with_together unit c.threads d.threads t frames graph both.threads new; fit = fit }
after_together unit c d t frames graph _ _ both new (sets_owner m owner) fit =
    record { globals = both.globals; owners = ap (λ (l : List (Option ℕ)). slice_set l m owner) both.owners; threads = with_together unit c.threads d.threads t frames graph both.threads new; fit = fit }
after_together unit c d t frames graph _ _ both new (starts x y begun) fit =
    record {
      globals = both.globals;
      owners = both.owners;
      threads = one_more unit (with_thread c.threads t frames) (with_thread d.threads t graph) (x ∷ []) (y ∷ []) (with_together unit c.threads d.threads t frames graph both.threads new) begun;
      fit = fit;
    }
