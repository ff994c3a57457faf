-- Threads that have ended, in lists of threads.
use Rattle.std.proofs.Common.{◌≡◌, refl, sym, ap, ◌∙◌, subst, ℕ, zero, suc, ◌-◌, ◌<◌, Bool, true, false, List, [], ◌∷◌, length, map, reverse, Option, None, Some, arith}
use Rattle.std.specs.Prelude.{nat_eq, slice_get}
use Rattle.std.specs.Option.{option_map, option_map_or}
use Rattle.std.proofs.Math.Dec.{eqb-suc-zero}
use Rattle.std.proofs.lemmas.List.{length-map, length-reverse}
use Rattle.std.proofs.lemmas.Option.{slice_get-map}
use Rattle.c_meaning.specs.Config.{thread_at}
use Rattle.c_meaning.specs.Tree as Tree
use Rattle.c_meaning.specs.Tree.{is_over}
use Rattle.tree_run.specs.declared.frame.Frame.{Frame}
use Rattle.tree_run.specs.Framing.{shown}
use Rattle.tree_run.specs.Deeds.{stack_of}

over_by_length : (frames : List Tree.Frame) → is_over frames ≡ nat_eq (length frames) 0
over_by_length [] = refl
over_by_length (frame ∷ below) = sym (eqb-suc-zero (length below))

pub over_is_empty : (frames : List Frame) → is_over (stack_of frames) ≡ nat_eq (length frames) 0
over_is_empty frames = over_by_length (stack_of frames) ∙ ap (λ n. nat_eq n 0) (length-reverse (map shown frames) ∙ length-map frames shown)

pub ended_there : {V : Type 0} (f : V → List Tree.Frame) (threads : List V) (t : ℕ) (o : Option V) → 0 < t → slice_get threads (t - 1) ≡ o → option_map_or is_over (thread_at (map f threads) t) false ≡ option_map_or is_over (option_map f o) false
ended_there f threads zero o z e = absurd (omega (arith, z))
ended_there f threads (suc i) o z e =
    let same : suc i - 1 ≡ i = omega arith in
    ap (λ p. option_map_or is_over p false) (slice_get-map f threads i ∙ ap (option_map f) (ap (slice_get threads) (sym same) ∙ e))

over_or_none : {V : Type 0} (frames : V → List Frame) (o : Option V) → option_map_or is_over (option_map (λ v. stack_of (frames v)) o) false ≡ option_map_or (λ v. nat_eq (length (frames v)) 0) o false
over_or_none frames None = refl
over_or_none frames (Some v) = over_is_empty (frames v)

pub ended_is : {V : Type 0} (frames : V → List Frame) (threads : List V) (t : ℕ) → 0 < t
    → option_map_or is_over (thread_at (map (λ v. stack_of (frames v)) threads) t) false ≡ option_map_or (λ v. nat_eq (length (frames v)) 0) (slice_get threads (t - 1)) false
ended_is frames threads t z = ended_there (λ v. stack_of (frames v)) threads t (slice_get threads (t - 1)) z refl ∙ over_or_none frames (slice_get threads (t - 1))
