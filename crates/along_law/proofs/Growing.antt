-- A choice puts its moves behind those that were made.
use Rattle.std.proofs.Common.{◌≡◌, refl, sym, ap, ◌∙◌, subst, ℕ, ℤ, ◌+◌, pos, Bool, true, false, List, [], ◌∷◌, ◌++◌, Option, None, Some, append_assoc}
use Rattle.std.specs.Prelude.{if◌then◌else◌}
use Rattle.std.specs.Option.{option_map, option_and_then}
use Rattle.std.proofs.lemmas.List.{append-nil}
use Rattle.gob_tree.specs.declared.graph.Action.{Action}
use Rattle.gob_tree.specs.declared.graph.Program.{Program}
use Rattle.c_meaning.specs.declared.config.Choice.{Choice}
use Rattle.c_meaning.specs.Config.{Config, next_thread}
use Rattle.c_meaning.specs.Graph.{MarkedEdge, MarkedProgram}
use Rattle.c_meaning.specs.GraphStep as Graph
use Rattle.c_meaning.specs.GraphStep.{Label}
use Rattle.c_meaning.specs.Walk.{Move, Walked, EdgeStep, after_moves, moves_by, walk_on, after_silent, after_return, after_start, silent_labels, return_labels, frames_at, label_of, starts_thread, edge_step, edge_step_or, first_edge_step, step_rest, top_edges, after_choice, after_choices}

-- what was made comes first
abbrev pub Grows : Walked → Walked → Type 0
Grows w w' = (more : List Move) × (w'.moves ≡ w.moves ++ more)

grows_not : (w : Walked) → Grows w w
grows_not w = ([], sym (append-nil w.moves))

grows_then : (a b c : Walked) → Grows a b → Grows b c → Grows a c
grows_then a b c g h = (g.0 ++ h.0, h.1 ∙ ap (λ (l : List Move). l ++ h.0) g.1 ∙ append_assoc a.moves g.0 h.0)

abbrev pub Growing : (Walked → Option Walked) → Type 0
Growing k = (w w' : Walked) → k w ≡ Some w' → Grows w w'

walks_grow : (p : Program) (t : ℕ) (input : ℤ) (labels : List Label) → Growing (walk_on p t input labels)
walks_grow p t input labels w w' e = go (after_moves p (moves_by t input labels) w.config) e
  where
    go : (o : Option (Config Graph.Frame)) → ◌≡◌ {A = Option Walked} (option_map (λ c. record { moves = w.moves ++ moves_by t input labels; config = c }) o) (Some w') → Grows w w'
    go None z = absurd (cc)
    go (Some c) z =
        let there : Walked = record { moves = w.moves ++ moves_by t input labels; config = c } in
        let same : there ≡ w' = cc in
        (moves_by t input labels, ap (λ (x : Walked). x.moves) (sym same))

then_grows : (from : Walked) (o : Option Walked) (k : Walked → Option Walked) (w' : Walked) → ((w : Walked) → o ≡ Some w → Grows from w) → Growing k → option_and_then k o ≡ Some w' → Grows from w'
then_grows from None k w' h keeps e = absurd (cc)
then_grows from (Some w) k w' h keeps e = grows_then from w w' (h w refl) (keeps w w' e)

silent_grows : (m : MarkedProgram) (t : ℕ) → Growing (after_silent m t)
silent_grows m t w w' e = walks_grow m.program t (pos 0) (silent_labels m (frames_at w t)) w w' e

return_grows : (m : MarkedProgram) (t : ℕ) → Growing (after_return m t)
return_grows m t w w' e = walks_grow m.program t (pos 0) (return_labels (frames_at w t)) w w' e

start_grows : (m : MarkedProgram) (t : ℕ) (b : Bool) → Growing (after_start m t b)
start_grows m t true w w' e = silent_grows m t w w' e
start_grows m t false w w' e = let same : w ≡ w' = cc in subst (Grows w) same (grows_not w)

edge_grows : (m : MarkedProgram) (t : ℕ) (input : ℤ) (w : Walked) (e : ℕ) (d : MarkedEdge) (s : Action × Walked) → edge_step m t input w e d ≡ Some s → Grows w s.1
edge_grows m t input w e d s q = go d.silent (walk_on m.program t input (label_of e d.edge.act ∷ []) w) refl q
  where
    go : (b : Bool) (o : Option Walked) → walk_on m.program t input (label_of e d.edge.act ∷ []) w ≡ o → ◌≡◌ {A = EdgeStep} (if b then None else option_map (λ next. (d.edge.act, next)) o) (Some s) → Grows w s.1
    go true o z y = absurd (cc)
    go false None z y = absurd (cc)
    go false (Some next) z y = let same : next ≡ s.1 = cc in subst (Grows w) same (walks_grow m.program t input (label_of e d.edge.act ∷ []) w next z)

first_grows : (m : MarkedProgram) (t : ℕ) (input : ℤ) (w : Walked) (e : ℕ) (ds : List MarkedEdge) (s : Action × Walked) → first_edge_step m t input w e ds ≡ Some s → Grows w s.1
first_grows m t input w e [] s q = absurd (cc)
first_grows m t input w e (d ∷ ds) s q = go (edge_step m t input w e d) refl (λ z. first_grows m t input w (e + 1) ds s z) q
  where
    go : (o : EdgeStep) → edge_step m t input w e d ≡ o → (first_edge_step m t input w (e + 1) ds ≡ Some s → Grows w s.1) → edge_step_or o (first_edge_step m t input w (e + 1) ds) ≡ Some s → Grows w s.1
    go None z later y = later y
    go (Some found) z later y = let same : found ≡ s = cc in edge_grows m t input w e d s (z ∙ ap Some same)

rest_grows : (m : MarkedProgram) (t fresh : ℕ) (s : Action × Walked) (w' : Walked) → step_rest m t fresh s ≡ Some w' → Grows s.1 w'
rest_grows m t fresh s w' e =
    then_grows s.1 (option_and_then (after_silent m t) (after_return m t s.1)) (after_start m fresh (starts_thread s.0)) w'
    (λ w q. then_grows s.1 (after_return m t s.1) (after_silent m t) w (λ v z. return_grows m t s.1 v z) (silent_grows m t) q)
    (start_grows m fresh (starts_thread s.0)) e

pub choice_grows : (m : MarkedProgram) (choice : Choice) → Growing (after_choice m choice)
choice_grows m choice w w' e = go (first_edge_step m choice.thread choice.input w 0 (top_edges m (frames_at w choice.thread))) (λ s q. first_grows m choice.thread choice.input w 0 (top_edges m (frames_at w choice.thread)) s q) e
  where
    go : (o : EdgeStep) → ((s : Action × Walked) → o ≡ Some s → Grows w s.1) → option_and_then (step_rest m choice.thread (next_thread w.config)) o ≡ Some w' → Grows w w'
    go None h q = absurd (cc)
    go (Some s) h q = grows_then w s.1 w' (h s refl) (rest_grows m choice.thread (next_thread w.config) s w' q)

pub choices_grow : (m : MarkedProgram) (choices : List Choice) → Growing (after_choices m choices)
choices_grow m [] w w' e = let same : w ≡ w' = cc in subst (Grows w) same (grows_not w)
choices_grow m (choice ∷ choices) w w' e = then_grows w (after_choice m choice w) (after_choices m choices) w' (λ v q. choice_grows m choice w v q) (choices_grow m choices) e
