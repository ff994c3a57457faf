-- The induction over a run.
use Rattle.std.proofs.Common.{◌≡◌, refl, sym, ap, ◌∙◌, subst, ℕ, List, [], ◌∷◌, ◌++◌, Option, None, Some}
use Rattle.std.specs.Option.{option_map, option_and_then}
use Rattle.std.proofs.lemmas.Option.{none-some, same_Some}
use Rattle.gob_tree.specs.WellMade.{IsWellMade}
use Rattle.gob_tree.specs.declared.unit.Unit.{Unit as TranslationUnit}
use Rattle.c_meaning.specs.declared.config.Choice.{Choice}
use Rattle.c_meaning.specs.Config.{Config}
use Rattle.c_meaning.specs.Graph.{MarkedProgram, marked_of}
use Rattle.c_meaning.specs.GraphStep.{first_graph}
use Rattle.c_meaning.specs.Run.{IsRun, chosen, if_moved, moved_from}
use Rattle.c_meaning.specs.Tree as Tree
use Rattle.c_meaning.specs.Tree.{TreeStep, MovesTo, IsBlocked, IsFaulted, IsEnded, HasNoThread, first_tree}
use Rattle.c_meaning.specs.Walk.{Walked, after_choice, after_choices, after_silent, graph_run, labels_by, moves_of, walk_of}
use Rattle.graph_law.proofs.Running.{run_leads}
use Rattle.step_law.specs.Together.{Together}
use Rattle.step_law.proofs.Keeping.{choices_keep_together, first_together}
use Rattle.step_law.proofs.Threads.{together_stands}
use Rattle.along_law.specs.Laws.{MomentsStand, RunsStayTogether}
use Rattle.along_law.proofs.Growing.{choices_grow}

-- ---- from a moment on

abbrev Reached : TranslationUnit → List Choice → Walked → Config Tree.Frame → Type 0
Reached unit choices w last = (w' : Walked) × (after_choices (marked_of unit) choices w ≡ Some w') × Together unit last w'.config

choices_reach : (unit : TranslationUnit) (made : IsWellMade unit) (choices : List Choice) (c last : Config Tree.Frame) (w : Walked) → Together unit c w.config → moved_from unit c choices ≡ Some last → Reached unit choices w last
choices_reach unit made [] c last w both is = (w, refl, subst (λ (x : Config Tree.Frame). Together unit x w.config) (same_Some c last is) both)
choices_reach unit made (choice ∷ choices) c last w both is =
    go (chosen unit c choice) (λ next q. choices_keep_together unit c w choice next made both q) (λ next v together q. choices_reach unit made choices next last v together q) is
  where
    go : (s : TreeStep) → ((next : Config Tree.Frame) → s ≡ MovesTo next → (v : Walked) × (after_choice (marked_of unit) choice w ≡ Some v) × Together unit next v.config)
        → ((next : Config Tree.Frame) (v : Walked) → Together unit next v.config → moved_from unit next choices ≡ Some last → Reached unit choices v last)
        → if_moved s (λ next. moved_from unit next choices) ≡ Some last → Reached unit (choice ∷ choices) w last
    go (MovesTo next) step later q =
        let first = step next refl in
        let rest = later next first.0 first.2 q in
        (rest.0, ap (option_and_then (after_choices (marked_of unit) choices)) first.1 ∙ rest.1, rest.2)
    go IsBlocked step later q = absurd (none-some last q)
    go IsFaulted step later q = absurd (none-some last q)
    go IsEnded step later q = absurd (none-some last q)
    go HasNoThread step later q = absurd (none-some last q)

-- ---- from the beginning

none_more : (m : MarkedProgram) (o : Option Walked) → option_and_then (after_choices m []) o ≡ o
none_more m None = refl
none_more m (Some w) = refl

-- the walk of a run goes on from the first moment
run_from : (m : MarkedProgram) (choices : List Choice) (w : Walked) → graph_run m [] ≡ Some w → graph_run m choices ≡ after_choices m choices w
run_from m choices w first =
    ap (option_and_then (after_choices m choices)) (sym (none_more m (after_silent m 1 (record { moves = []; config = first_graph m.program }))) ∙ first)

abbrev Ends : TranslationUnit → List Choice → Config Tree.Frame → Type 0
Ends unit choices last = (w : Walked) × (graph_run (marked_of unit) choices ≡ Some w) × Together unit last w.config

run_ends : (unit : TranslationUnit) (choices : List Choice) (last : Config Tree.Frame) → IsWellMade unit → IsRun unit choices last → Ends unit choices last
run_ends unit choices last made run =
    let first = first_together unit made in
    let rest = choices_reach unit made choices (first_tree unit) last first.0 first.2 run in
    (rest.0, run_from (marked_of unit) choices first.0 first.1 ∙ rest.1, rest.2)

moves_are : (unit : TranslationUnit) (choices : List Choice) (last : Config Tree.Frame) (w : Walked) → IsRun unit choices last → graph_run (marked_of unit) choices ≡ Some w → moves_of unit choices ≡ Some w.moves
moves_are unit choices last w run walk =
    ap (option_and_then (λ (c : Config Tree.Frame). option_map (λ (x : Walked). x.moves) (graph_run (marked_of unit) choices))) run
    ∙ ap (option_map (λ (x : Walked). x.moves)) walk

pub runs_stay_together : RunsStayTogether
runs_stay_together unit choices last made run =
    let ends = run_ends unit choices last made run in
    let moves = moves_are unit choices last ends.0 run ends.1 in
    let labels : (t : ℕ) → walk_of unit choices t ≡ Some (labels_by t ends.0.moves) = λ t. ap (option_map (labels_by t)) moves in
    record {
      walked = ends.0;
      walk = ends.1;
      moves = moves;
      run = run_leads (marked_of unit) choices ends.0 ends.1;
      stands = together_stands unit last ends.0.config ends.2;
      labels = labels;
      alone = λ t other is. same_Some other (labels_by t ends.0.moves) (sym is ∙ labels t);
    }

-- ---- moments

split_choices : (m : MarkedProgram) (first later : List Choice) (w : Walked) → after_choices m (first ++ later) w ≡ option_and_then (after_choices m later) (after_choices m first w)
split_choices m [] later w = refl
split_choices m (choice ∷ first) later w = go (after_choice m choice w) (λ v. split_choices m first later v)
  where
    go : (o : Option Walked) → ((v : Walked) → after_choices m (first ++ later) v ≡ option_and_then (after_choices m later) (after_choices m first v))
        → option_and_then (after_choices m (first ++ later)) o ≡ option_and_then (after_choices m later) (option_and_then (after_choices m first) o)
    go None rest = refl
    go (Some v) rest = rest v

pub moments_stand : MomentsStand
moments_stand unit first later middle last moves made run part is =
    let m = marked_of unit in
    let begun = first_together unit made in
    let there = run_ends unit first middle made part in
    let whole = run_ends unit (first ++ later) last made run in
    let same : moves ≡ whole.0.moves = same_Some moves whole.0.moves (sym is ∙ moves_are unit (first ++ later) last whole.0 run whole.1) in
    let goes_on : after_choices m later there.0 ≡ Some whole.0 =
    ap (option_and_then (after_choices m later)) (sym (sym (run_from m first begun.0 begun.1) ∙ there.1))
    ∙ sym (split_choices m first later begun.0)
    ∙ sym (run_from m (first ++ later) begun.0 begun.1) ∙ whole.1 in
    let grown = choices_grow m later there.0 whole.0 goes_on in
    record {
      walked = there.0;
      walk = there.1;
      run = run_leads m first there.0 there.1;
      stands = together_stands unit middle there.0.config there.2;
      more = grown.0;
      begins = same ∙ grown.1;
    }
