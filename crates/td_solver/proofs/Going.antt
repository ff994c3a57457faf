-- Runs that go on by turns, one after another.
use Rattle.std.proofs.Common.{◌≡◌, List, [], ◌∷◌, ◌++◌, None, slice_get, refl, sym, ap, ◌∙◌, subst, append_assoc}
use Rattle.std.proofs.lemmas.List.{append-nil}
use Rattle.c_source.specs.declared.source.Source.{Source}
use Rattle.gob_tree.specs.declared.graph.Program.{Program}
use Rattle.constraint_sys.specs.Turn.{Replays, Solving, Turns}
use Rattle.constraint_sys.specs.declared.unknown.Unknown.{Unknown}
use Rattle.constraint_sys.proofs.Replaying.{Replays-push}
use Rattle.td_solver.specs.Running.{GoesOn, GoesOnBy, IsSameJob, Running, program_of}

pub Replays-append : (p : Program) (old mid new : Solving) (first more : List Unknown) → Replays p old first mid → Replays p mid more new → Replays p old (first ++ more) new
Replays-append p old mid new [] more is after = subst (λ (s : Solving). Replays p s more new) is after
Replays-append p old mid new (u ∷ first) more (next, turned, rest) after = (next, turned, Replays-append p next mid new first more rest after)

same_job : (first old new : Running) → IsSameJob first old → IsSameJob old new → IsSameJob first new
same_job first old new a b = record { number = b.number ∙ a.number; source = b.source ∙ a.source }

pub GoesOn-none : (run : Running) → GoesOn run [] run
GoesOn-none run = record { job = record { number = refl; source = refl }; replayed = refl; trace = sym (append-nil run.trace) }

pub GoesOn-by : (first old new : Running) (made : List Unknown) (u : Unknown) → GoesOn first made old → GoesOnBy old u new → GoesOn first (made ++ u ∷ []) new
GoesOn-by first old new made u before turn = record {
  job = same_job first old new before.job turn.job;
  replayed = Replays-push (program_of first) first.solving made old.solving u new.solving before.replayed (subst (λ (s : Source). Turns s.program old.solving u new.solving) before.job.source turn.turned);
  trace = turn.trace ∙ ap (λ (l : List Unknown). l ++ u ∷ []) before.trace ∙ append_assoc first.trace made (u ∷ []);
}

pub Replays-on : (start : Solving) (old new : Running) (more : List Unknown) → Replays (program_of old) start old.trace old.solving → GoesOn old more new → Replays (program_of new) start new.trace new.solving
Replays-on start old new more before after =
    subst (λ (s : Source). Replays s.program start new.trace new.solving) (sym after.job.source)
    (subst (λ (l : List Unknown). Replays (program_of old) start l new.solving) (sym after.trace)
    (Replays-append (program_of old) start old.solving new.solving old.trace more before after.replayed))

pub empty_without_first : (us : List Unknown) → slice_get us 0 ≡ None → us ≡ []
empty_without_first [] none = refl
empty_without_first (u ∷ us) none = absurd (cc none)
