-- The moves of a walk lead from the first configuration to where the walk is.
use Rattle.std.proofs.Common.{◌≡◌, refl, ap, ◌∙◌, subst, ℕ, ℤ, ◌+◌, pos, Bool, true, false, List, [], ◌∷◌, ◌++◌, Option, None, Some}
use Rattle.std.specs.Prelude.{if◌then◌else◌}
use Rattle.std.specs.Option.{option_map, option_and_then}
use Rattle.gob_tree.specs.declared.graph.Action.{Action}
use Rattle.gob_tree.specs.declared.graph.Program.{Program}
use Rattle.c_meaning.specs.declared.config.Choice.{Choice}
use Rattle.c_meaning.specs.Config.{Config, next_thread}
use Rattle.c_meaning.specs.Graph.{MarkedEdge, MarkedProgram, marked_of, program_of}
use Rattle.c_meaning.specs.GraphStep as Graph
use Rattle.c_meaning.specs.GraphStep.{Label, first_graph}
use Rattle.c_meaning.specs.Run.{moved_from}
use Rattle.c_meaning.specs.Tree as Tree
use Rattle.c_meaning.specs.Tree.{first_tree}
use Rattle.c_meaning.specs.Walk.{Move, Walked, EdgeStep, after_move, after_moves, moves_by, walk_on, after_silent, after_return, after_start, silent_labels, return_labels, frames_at, label_of, starts_thread, edge_step, edge_step_or, first_edge_step, step_rest, top_edges, after_choice, after_choices, graph_run, IsGraphRun}
use Rattle.graph_law.specs.Running.{MovesAreRuns}

moves_append : (p : Program) (xs ys : List Move) (c : Config Graph.Frame) → after_moves p (xs ++ ys) c ≡ option_and_then (after_moves p ys) (after_moves p xs c)
moves_append p [] ys c = refl
moves_append p (x ∷ xs) ys c = go (after_move p c x) (λ next. moves_append p xs ys next)
  where
    go : (o : Option (Config Graph.Frame)) → ((next : Config Graph.Frame) → after_moves p (xs ++ ys) next ≡ option_and_then (after_moves p ys) (after_moves p xs next)) → option_and_then (after_moves p (xs ++ ys)) o ≡ option_and_then (after_moves p ys) (option_and_then (after_moves p xs) o)
    go None rest = refl
    go (Some next) rest = rest next

-- the moves of a walk lead to its configuration
abbrev pub Leads : Program → Walked → Type 0
Leads p w = after_moves p w.moves (first_graph p) ≡ Some w.config

abbrev Keeps : Program → (Walked → Option Walked) → Type 0
Keeps p k = (w w' : Walked) → Leads p w → k w ≡ Some w' → Leads p w'

walks_on : (p : Program) (t : ℕ) (input : ℤ) (labels : List Label) → Keeps p (walk_on p t input labels)
walks_on p t input labels w w' leads e = go (after_moves p (moves_by t input labels) w.config) refl e
  where
    go : (o : Option (Config Graph.Frame)) → after_moves p (moves_by t input labels) w.config ≡ o → ◌≡◌ {A = Option Walked} (option_map (λ c. record { moves = w.moves ++ moves_by t input labels; config = c }) o) (Some w') → Leads p w'
    go None q z = cc
    go (Some c) q z =
        let there : Walked = record { moves = w.moves ++ moves_by t input labels; config = c } in
        let same : there ≡ w' = cc in
        subst (Leads p) same (moves_append p w.moves (moves_by t input labels) (first_graph p) ∙ ap (option_and_then (after_moves p (moves_by t input labels))) leads ∙ q)

-- one after another
then_keeps : (p : Program) (o : Option Walked) (k : Walked → Option Walked) (w' : Walked) → ((w : Walked) → o ≡ Some w → Leads p w) → Keeps p k → option_and_then k o ≡ Some w' → Leads p w'
then_keeps p None k w' h keeps e = cc
then_keeps p (Some w) k w' h keeps e = keeps w w' (h w refl) e

silent_keeps : (m : MarkedProgram) (t : ℕ) → Keeps m.program (after_silent m t)
silent_keeps m t w w' leads e = walks_on m.program t (pos 0) (silent_labels m (frames_at w t)) w w' leads e

return_keeps : (m : MarkedProgram) (t : ℕ) → Keeps m.program (after_return m t)
return_keeps m t w w' leads e = walks_on m.program t (pos 0) (return_labels (frames_at w t)) w w' leads e

start_keeps : (m : MarkedProgram) (t : ℕ) (b : Bool) → Keeps m.program (after_start m t b)
start_keeps m t true w w' leads e = silent_keeps m t w w' leads e
start_keeps m t false w w' leads e = let same : w ≡ w' = cc in subst (Leads m.program) same leads

edge_leads : (m : MarkedProgram) (t : ℕ) (input : ℤ) (w : Walked) (e : ℕ) (d : MarkedEdge) (s : Action × Walked) → Leads m.program w → edge_step m t input w e d ≡ Some s → Leads m.program s.1
edge_leads m t input w e d s leads q = go d.silent (walk_on m.program t input (label_of e d.edge.act ∷ []) w) refl q
  where
    go : (b : Bool) (o : Option Walked) → walk_on m.program t input (label_of e d.edge.act ∷ []) w ≡ o → ◌≡◌ {A = EdgeStep} (if b then None else option_map (λ next. (d.edge.act, next)) o) (Some s) → Leads m.program s.1
    go true o z y = cc
    go false None z y = cc
    go false (Some next) z y = let same : next ≡ s.1 = cc in subst (Leads m.program) same (walks_on m.program t input (label_of e d.edge.act ∷ []) w next leads z)

first_leads : (m : MarkedProgram) (t : ℕ) (input : ℤ) (w : Walked) (e : ℕ) (ds : List MarkedEdge) (s : Action × Walked) → Leads m.program w → first_edge_step m t input w e ds ≡ Some s → Leads m.program s.1
first_leads m t input w e [] s leads q = cc
first_leads m t input w e (d ∷ ds) s leads q = go (edge_step m t input w e d) refl (λ z. first_leads m t input w (e + 1) ds s leads z) q
  where
    go : (o : EdgeStep) → edge_step m t input w e d ≡ o → (first_edge_step m t input w (e + 1) ds ≡ Some s → Leads m.program s.1) → edge_step_or o (first_edge_step m t input w (e + 1) ds) ≡ Some s → Leads m.program s.1
    go None z later y = later y
    go (Some found) z later y = let same : found ≡ s = cc in edge_leads m t input w e d s leads (z ∙ ap Some same)

rest_leads : (m : MarkedProgram) (t fresh : ℕ) (s : Action × Walked) (w' : Walked) → Leads m.program s.1 → step_rest m t fresh s ≡ Some w' → Leads m.program w'
rest_leads m t fresh s w' leads e =
    then_keeps m.program (option_and_then (after_silent m t) (after_return m t s.1)) (after_start m fresh (starts_thread s.0)) w'
    (λ w q. then_keeps m.program (after_return m t s.1) (after_silent m t) w (λ v z. return_keeps m t s.1 v leads z) (silent_keeps m t) q)
    (start_keeps m fresh (starts_thread s.0)) e

choice_keeps : (m : MarkedProgram) (choice : Choice) → Keeps m.program (after_choice m choice)
choice_keeps m choice w w' leads e = go (first_edge_step m choice.thread choice.input w 0 (top_edges m (frames_at w choice.thread))) (λ s q. first_leads m choice.thread choice.input w 0 (top_edges m (frames_at w choice.thread)) s leads q) e
  where
    go : (o : EdgeStep) → ((s : Action × Walked) → o ≡ Some s → Leads m.program s.1) → option_and_then (step_rest m choice.thread (next_thread w.config)) o ≡ Some w' → Leads m.program w'
    go None h q = cc
    go (Some s) h q = rest_leads m choice.thread (next_thread w.config) s w' (h s refl) q

choices_keep : (m : MarkedProgram) (choices : List Choice) → Keeps m.program (after_choices m choices)
choices_keep m [] w w' leads e = let same : w ≡ w' = cc in subst (Leads m.program) same leads
choices_keep m (choice ∷ choices) w w' leads e = then_keeps m.program (after_choice m choice w) (after_choices m choices) w' (λ v q. choice_keeps m choice w v leads q) (choices_keep m choices) e

pub run_leads : (m : MarkedProgram) (choices : List Choice) (w : Walked) → graph_run m choices ≡ Some w → Leads m.program w
run_leads m choices w e =
    let start : Walked = record { moves = []; config = first_graph m.program } in
    then_keeps m.program (after_silent m 1 start) (after_choices m choices) w (λ v q. silent_keeps m 1 start v refl q) (choices_keep m choices) e

pub moves_are_runs : MovesAreRuns
moves_are_runs unit choices moves e = go (moved_from unit (first_tree unit) choices) (graph_run (marked_of unit) choices) (λ w q. run_leads (marked_of unit) choices w q) e
  where
    go : (o : Option (Config Tree.Frame)) (r : Option Walked) → ((w : Walked) → r ≡ Some w → Leads (program_of unit) w) → option_and_then (λ last. option_map (λ (w : Walked). w.moves) r) o ≡ Some moves → (last : Config Graph.Frame) × IsGraphRun (program_of unit) moves last
    go None r h q = cc
    go (Some last) None h q = cc
    go (Some last) (Some w) h q = let same : w.moves ≡ moves = cc in (w.config, subst (λ ms. after_moves (program_of unit) ms (first_graph (program_of unit)) ≡ Some w.config) same (h w refl))
