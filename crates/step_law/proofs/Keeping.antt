-- A choice keeps trees and graphs together.
use Rattle.std.proofs.Common.{◌≡◌, refl, sym, ap, subst, ℕ, ℤ, Bool, true, false, List, [], ◌∷◌, Option, None, Some, IsTrue}
use Rattle.std.specs.Prelude.{if◌then◌else◌, slice_get, IsSomeAnd}
use Rattle.std.specs.Option.{option_and_then}
use Rattle.gob_tree.specs.WellMade.{IsWellMade}
use Rattle.gob_tree.specs.declared.unit.Function.{Function}
use Rattle.gob_tree.specs.declared.unit.GlobalDecl.{GlobalDecl}
use Rattle.gob_tree.specs.declared.unit.Unit.{Unit as TranslationUnit}
use Rattle.gob_tree.specs.Widths.{fits}
use Rattle.c_meaning.specs.Config.{Config, after_effect, thread_at}
use Rattle.c_meaning.specs.Graph.{marked_of, program_of}
use Rattle.c_meaning.specs.GraphStep as Graph
use Rattle.c_meaning.specs.GraphStep.{first_graph}
use Rattle.c_meaning.specs.Tree as Tree
use Rattle.c_meaning.specs.Tree.{FrameStep, Goes, Waits, Fails, MovesTo, frame_step, has_ended, outcome_of, thread_step}
use Rattle.c_meaning.specs.Walk.{Walked, after_choice, after_choices}
use Rattle.graph_law.specs.Fitting.{FitEach}
use Rattle.graph_law.proofs.Fitting.{by_parts, fit_initials, thread_fits}
use Rattle.graph_law.proofs.Settling.{silent_edges_are_moves}
use Rattle.step_law.specs.Laws.{ChoicesKeepTogether, FirstTogether}
use Rattle.step_law.specs.Together.{ThreadTogether, Together}
use Rattle.step_law.proofs.Frames.{new_together, new_waits}
use Rattle.step_law.proofs.Steps.{StepAnswered, frame_answered}
use Rattle.step_law.proofs.Threads.{after_together, thread_found}

-- ---- the first moment

main_found : (P : Function → Type 0) (o : Option Function) → IsSomeAnd o P → (f : Function) × (o ≡ Some f)
main_found P None h = absurd h
main_found P (Some f) h = (f, refl)

pub first_together : FirstTogether
first_together unit made =
    let main = main_found _ (slice_get unit.funcs unit.main) made.main_there in
    let start : Walked = record { moves = []; config = first_graph (program_of unit) } in
    let frame = Graph.new_frame (program_of unit) unit.main [] in
    let walk = silent_edges_are_moves unit start 1 frame [] refl in (
      _,
      ap (option_and_then (after_choices (marked_of unit) [])) walk,
      record {
        globals = refl;
        owners = refl;
        threads = ((main.0, new_together unit made unit.main main.0 [] main.1, new_waits unit unit.main [], tt), tt);
        fit = fit_initials unit.globals (by_parts (λ (g : GlobalDecl). IsTrue (fits g.width g.initial)) unit.globals made.initials_fit);
      },
    )

-- ---- a choice

module _ (unit : TranslationUnit) (made : IsWellMade unit) (c : Config Tree.Frame) (w : Walked) (t : ℕ) (input : ℤ) (both : Together unit c w.config) where
  abbrev Kept : Config Tree.Frame → Type 0
  Kept next = (w' : Walked) × (after_choice (marked_of unit) (record { thread = t; input = input }) w ≡ Some w') × Together unit next w'.config

  abbrev site_at : Tree.Frame → List Tree.Frame → Tree.Site
  site_at frame below = record { unit = unit; config = c; thread = t; input = input; frame = frame; below = below }

  step_kept : (tf : Tree.Frame) (ts : List Tree.Frame) (next : Config Tree.Frame) → FitEach unit.globals next.globals → (graph : List Graph.Frame) → thread_at w.config.threads t ≡ Some graph → ThreadTogether unit (tf ∷ ts) graph
      → outcome_of c t (frame_step tf.todo (site_at tf ts)) ≡ MovesTo next → Kept next
  step_kept tf ts next fit [] at thread is = absurd thread
  step_kept tf ts next fit (g ∷ gs) at thread is =
      go (frame_step tf.todo (site_at tf ts)) (frame_answered unit made c w t input both tf ts g gs thread.0 thread.1 thread.2 thread.3 at tf.todo refl) is
    where
      go : (step : FrameStep) → StepAnswered unit made c w t input both tf ts g gs thread.0 thread.1 thread.2 thread.3 at step → outcome_of c t step ≡ MovesTo next → Kept next
      go (Goes frames effect) a same =
          let moved : after_effect c t frames effect ≡ next = cc in (
            a.chosen.0,
            a.chosen.1,
            subst (λ (x : Config Tree.Frame). Together unit x a.chosen.0.config) moved
                (subst (λ (x : Config Graph.Frame). Together unit (after_effect c t frames effect) x) (sym a.chosen.2)
                (after_together unit c w.config t frames a.graph effect a.other both a.thread a.effects (subst (λ (x : Config Tree.Frame). FitEach unit.globals x.globals) (sym moved) fit))),
          )
      go Waits a same = absurd (cc)
      go Fails a same = absurd (cc)

  thread_kept : (frames : Option (List Tree.Frame)) (next : Config Tree.Frame) → FitEach unit.globals next.globals → thread_at c.threads t ≡ frames → thread_step unit c t input frames ≡ MovesTo next → Kept next
  thread_kept None next fit at is = absurd (cc)
  thread_kept (Some []) next fit at is = absurd (cc)
  thread_kept (Some (tf ∷ ts)) next fit at is =
      let there = thread_found unit c.threads w.config.threads t (tf ∷ ts) both.threads at in
      go (has_ended c 1) there.0 there.1 there.2 is
    where
      go : (ended : Bool) (graph : List Graph.Frame) → thread_at w.config.threads t ≡ Some graph → ThreadTogether unit (tf ∷ ts) graph
          → (if ended then Tree.IsEnded else outcome_of c t (frame_step tf.todo (site_at tf ts))) ≡ MovesTo next → Kept next
      go true graph at_graph thread same = absurd (cc)
      go false graph at_graph thread same = step_kept tf ts next fit graph at_graph thread same

pub choices_keep_together : ChoicesKeepTogether
choices_keep_together unit c w choice next made both is =
    thread_kept unit made c w choice.thread choice.input both (thread_at c.threads choice.thread) next
    (thread_fits unit c choice.thread choice.input (thread_at c.threads choice.thread) next both.fit is) refl is
