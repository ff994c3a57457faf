-- From graphs to trees.
use Rattle.std.proofs.Common.{◌≡◌, refl, sym, subst, ℕ, zero, suc, ◌<◌, ℤ, pos, List, [], ◌∷◌, length, take, Option, Some, IsSomeAnd}
use Rattle.std.specs.Prelude.{slice_get, slice_index_or}
use Rattle.std.proofs.lemmas.Option.{none-some, same_Some}
use Rattle.gob_tree.specs.Formed.{IsFormed}
use Rattle.gob_tree.specs.WellMade.{IsWellMade}
use Rattle.gob_tree.specs.declared.graph.Program.{Program}
use Rattle.gob_tree.specs.declared.unit.Slot.{Slot}
use Rattle.gob_tree.specs.declared.unit.Unit.{Unit as TranslationUnit}
use Rattle.interval_dom.specs.Bounds.{Bounds, Describes}
use Rattle.c_meaning.specs.declared.config.Choice.{Choice}
use Rattle.c_meaning.specs.Config.{Config, global_at, thread_at}
use Rattle.c_meaning.specs.Graph.{marked_of, program_of}
use Rattle.c_meaning.specs.GraphStep as Graph
use Rattle.c_meaning.specs.Tree as Tree
use Rattle.c_meaning.specs.Walk.{IsGraphRun, Stands, StandsBelow, StandsFrame, StandsThread, StandThreads, Walked, graph_run}
use Rattle.graph_law.specs.Forming.{IsWithinSizes}
use Rattle.graph_law.proofs.Forming.{programs_are_formed}
use Rattle.graph_law.proofs.Running.{run_leads}
use Rattle.state_dom.specs.StateValue.{StateValue, Bottom, Reached, DescribesEach, slots_of}
use Rattle.constraint_sys.specs.declared.unknown.Key.{Key}
use Rattle.constraint_sys.specs.PostSolution.{IsPostSolution}
use Rattle.constraint_sys.specs.Sound.{IsShaped}
use Rattle.constraint_sys.specs.Table.{TableValue, slots_at, state_at}
use Rattle.constraint_sys.specs.Transfer.{number_at}
use Rattle.action_law.specs.Described.{DescribesSlots}
use Rattle.run_law.specs.Known.{KnowsCallers, KnowsThread}
use Rattle.run_law.proofs.Bounding.{slots_described}
use Rattle.run_law.proofs.Runs.{runs_are_known}
use Rattle.walk_law.proofs.Walking.{walks_are_offered}
use Rattle.along_law.proofs.Runs.{runs_stay_together}
use Rattle.tree_law.specs.Laws.{TreesAreShown}
use Rattle.tree_law.specs.Shown.{DescribesFirst, ShowsFrame, ShowsThread}

-- ---- named slots

first_described : (xs : List Bounds) (values named : List ℤ) → DescribesEach xs values → take (length named) values ≡ named → DescribesFirst xs named
first_described xs values [] each same = tt
first_described [] [] (n ∷ ns) each same = absurd (cc)
first_described [] (v ∷ vs) (n ∷ ns) each same = absurd each
first_described (x ∷ xs) [] (n ∷ ns) each same = absurd each
first_described (x ∷ xs) (v ∷ vs) (n ∷ ns) each same =
    let head : v ≡ n = cc in
    let tail : take (length ns) vs ≡ ns = cc in
    (subst (Describes x) head each.0, first_described xs vs ns each.1 tail)

state_first : (slots : List Slot) (s : StateValue) (values named : List ℤ) → DescribesSlots slots s values → take (length named) values ≡ named → DescribesFirst (slots_of s) named
state_first slots (Bottom room) values named described same = absurd described
state_first slots (Reached xs locks) values named described same = first_described xs values named described.1 same

-- ---- frames

module _ (unit : TranslationUnit) (t : TableValue) where
  abbrev p : Program
  p = program_of unit

  frame_shown : (frame : Tree.Frame) (g : Graph.Frame) (key : Key) → StandsFrame unit frame g → DescribesSlots (slots_at p g.func) (state_at p t g.func key g.node) g.slots
      → DescribesFirst (slots_of (state_at p t frame.func key g.node)) frame.slots
  frame_shown frame g key stands described =
      subst (λ (f : ℕ). DescribesFirst (slots_of (state_at p t f key g.node)) frame.slots) (sym stands.func)
      (state_first (slots_at p g.func) (state_at p t g.func key g.node) g.slots frame.slots described stands.named)

  -- a frame further down
  deeper : (g : Graph.Frame) (graph : List Graph.Frame) (key : Key) (keys : List Key) (j : ℕ) (frame : Tree.Frame) → ShowsFrame unit t graph keys j frame → ShowsFrame unit t (g ∷ graph) (key ∷ keys) (suc j) frame
  deeper g graph key keys j frame s = record {
    stands_for_it = s.stands_for_it;
    context = s.context;
    graph_there = s.graph_there;
    context_there = s.context_there;
    func = s.func;
    named = s.named;
  }

  here_shown : (frame : Tree.Frame) (g : Graph.Frame) (graph : List Graph.Frame) (key : Key) (keys : List Key) → StandsFrame unit frame g → DescribesSlots (slots_at p g.func) (state_at p t g.func key g.node) g.slots
      → ShowsFrame unit t (g ∷ graph) (key ∷ keys) 0 frame
  here_shown frame g graph key keys stands described = record {
    stands_for_it = g;
    context = key;
    graph_there = refl;
    context_there = refl;
    func = stands.func;
    named = frame_shown frame g key stands described;
  }

  at_frame : (graph : List Graph.Frame) (keys : List Key) (j : ℕ) (a b : Tree.Frame) → slice_get (a ∷ []) 0 ≡ Some b → ShowsFrame unit t graph keys j a → ShowsFrame unit t graph keys j b
  at_frame graph keys j a b same s = subst (ShowsFrame unit t graph keys j) (same_Some a b same) s

  below_shown : (f : ℕ) (key : Key) (callee : ℕ) (frames : List Tree.Frame) (graph : List Graph.Frame) (keys : List Key) (j : ℕ) (frame : Tree.Frame)
      → StandsBelow unit callee frames graph → KnowsCallers p t f key graph keys → slice_get frames j ≡ Some frame → ShowsFrame unit t graph keys j frame
  below_shown f key callee [] graph keys j frame stands known at = absurd (none-some frame at)
  below_shown f key callee (x ∷ frames) [] keys j frame stands known at = absurd stands
  below_shown f key callee (x ∷ frames) (g ∷ graph) [] j frame stands known at = absurd known
  below_shown f key callee (x ∷ frames) (g ∷ graph) (own ∷ keys) zero frame stands known at =
      let described = subst (λ (node : ℕ). DescribesSlots (slots_at p g.func) (state_at p t g.func own node) g.slots) known.0.leaves known.0.slots in
      at_frame (g ∷ graph) (own ∷ keys) 0 x frame at (here_shown x g graph own keys stands.0 described)
  below_shown f key callee (x ∷ frames) (g ∷ graph) (own ∷ keys) (suc j) frame stands known at =
      deeper g graph own keys j frame (below_shown g.func own x.func frames graph keys j frame stands.2 known.1 at)

  thread_shown : (owners : List (Option ℕ)) (thread : ℕ) (frames : List Tree.Frame) (graph : List Graph.Frame) (keys : List Key) (j : ℕ) (frame : Tree.Frame)
      → StandsThread unit frames graph → KnowsThread p t owners thread graph keys → slice_get frames j ≡ Some frame → ShowsFrame unit t graph keys j frame
  thread_shown owners thread [] graph keys j frame stands known at = absurd (none-some frame at)
  thread_shown owners thread (x ∷ frames) [] keys j frame stands known at = absurd stands
  thread_shown owners thread (x ∷ frames) (g ∷ graph) [] j frame stands known at = absurd known
  thread_shown owners thread (x ∷ frames) (g ∷ graph) (key ∷ keys) zero frame stands known at =
      at_frame (g ∷ graph) (key ∷ keys) 0 x frame at
      (here_shown x g graph key keys stands.0 (slots_described (slots_at p g.func) (state_at p t g.func key g.node) g.slots owners thread known.0))
  thread_shown owners thread (x ∷ frames) (g ∷ graph) (key ∷ keys) (suc j) frame stands known at =
      deeper g graph key keys j frame (below_shown g.func key x.func frames graph keys j frame stands.2 known.1 at)

  -- ---- threads
  matched : (trees : List (List Tree.Frame)) (graphs : List (List Graph.Frame)) (i : ℕ) (frames : List Tree.Frame) → StandThreads unit trees graphs → slice_get trees i ≡ Some frames
      → (graph : List Graph.Frame) × (slice_get graphs i ≡ Some graph) × StandsThread unit frames graph
  matched [] graphs i frames stands at = absurd (none-some frames at)
  matched (x ∷ trees) [] i frames stands at = absurd stands
  matched (x ∷ trees) (g ∷ graphs) zero frames stands at = (g, refl, subst (λ (fs : List Tree.Frame). StandsThread unit fs g) (same_Some x frames at) stands.0)
  matched (x ∷ trees) (g ∷ graphs) (suc i) frames stands at = matched trees graphs i frames stands.1 at

  thread_matched : (trees : List (List Tree.Frame)) (graphs : List (List Graph.Frame)) (thread : ℕ) (frames : List Tree.Frame) → StandThreads unit trees graphs → thread_at trees thread ≡ Some frames
      → (graph : List Graph.Frame) × (thread_at graphs thread ≡ Some graph) × StandsThread unit frames graph
  thread_matched trees graphs zero frames stands at = absurd (none-some frames at)
  thread_matched trees graphs (suc i) frames stands at = matched trees graphs i frames stands at

-- ---- the law

-- a moment of a run for which graphs stand
pub record IsStoodFor (unit : TranslationUnit) (t : TableValue) (choices : List Choice) (c : Config Tree.Frame) (w : Walked) : Type 0 where
  pub made : IsWellMade unit
  pub sizes : IsWithinSizes unit
  pub shaped : IsShaped (program_of unit) t
  pub post : IsPostSolution (program_of unit) t
  pub walk : graph_run (marked_of unit) choices ≡ Some w
  pub stands : Stands unit c w.config

module _ (unit : TranslationUnit) (t : TableValue) (choices : List Choice) (c : Config Tree.Frame) (w : Walked) (m : IsStoodFor unit t choices c w) where
  formed : IsFormed (program_of unit)
  formed = programs_are_formed unit m.made m.sizes

  leads : IsGraphRun (program_of unit) w.moves w.config
  leads = run_leads (marked_of unit) choices w m.walk

globals_are_shown : (unit : TranslationUnit) (t : TableValue) (choices : List Choice) (c : Config Tree.Frame) (w : Walked) (g : ℕ) → IsStoodFor unit t choices c w → g < length unit.globals
    → IsSomeAnd (number_at t g) (λ (v : Bounds). Describes v (global_at c g))
globals_are_shown unit t choices c w g m within =
    let known = runs_are_known (program_of unit) t w.moves w.config (formed unit t choices c w m) m.shaped m.post (leads unit t choices c w m) in
    subst (λ (values : List ℤ). IsSomeAnd (number_at t g) (λ (v : Bounds). Describes v (slice_index_or values g (pos 0)))) (sym m.stands.globals) (known.globals g within)

threads_are_shown : (unit : TranslationUnit) (t : TableValue) (choices : List Choice) (c : Config Tree.Frame) (w : Walked) (thread : ℕ) (frames : List Tree.Frame) → IsStoodFor unit t choices c w → thread_at c.threads thread ≡ Some frames
    → ShowsThread unit t c w thread frames
threads_are_shown unit t choices c w thread frames m at =
    let p = program_of unit in
    let found = thread_matched unit t c.threads w.config.threads thread frames m.stands.threads at in
    let walk = walks_are_offered p t w.moves w.config thread found.0 (formed unit t choices c w m) m.shaped m.post (leads unit t choices c w m) found.1 in
    record {
      graph = found.0;
      keys = walk.0;
      there = found.1;
      stands = found.2;
      walk = walk.2;
      known = subst (λ (owners : List (Option ℕ)). KnowsThread p t owners thread found.0 walk.0) (sym m.stands.owners) walk.1;
      shown = λ j frame there. thread_shown unit t w.config.owners thread frames found.0 walk.0 j frame found.2 walk.1 there;
    }

pub trees_are_shown : TreesAreShown
trees_are_shown unit t choices c made sizes shaped post run =
    let r = runs_stay_together unit choices c made run in
    let m : IsStoodFor unit t choices c r.walked = record { made = made; sizes = sizes; shaped = shaped; post = post; walk = r.walk; stands = r.stands } in
    record {
      walked = r.walked;
      moves = r.moves;
      walks = r.labels;
      stands = r.stands;
      globals = λ g below. globals_are_shown unit t choices c r.walked g m below;
      threads = λ thread frames at. threads_are_shown unit t choices c r.walked thread frames m at;
    }
