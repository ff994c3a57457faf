use Rattle.std.proofs.Common.{◌≡◌, ◌↔◌, inr, refl, Option, None, Some}
use Rattle.std.specs.Prelude.{MatchOption}
use Rattle.gob_tree.specs.declared.graph.Program.{Program}
use Rattle.constraint_sys.specs.Breach.{IsMissingRoot}
use Rattle.constraint_sys.specs.PostSolution.{IsPostSolution}
use Rattle.constraint_sys.specs.Table.{TableValue}
use Rattle.constraint_sys.specs.declared.unknown.Unknown.{Unknown}
use Rattle.constraint_sys.proofs.Fellows.{if_ok}
use Rattle.post_check.specs.Unbroken.{IsFirstOfTable, IsWhole}
use Rattle.post_check.specs.declared.breach.Breach.{Breach}
use Rattle.post_check.proofs.Breaking.{post_solution, refuted}
use Rattle.post_check.proofs.breach.post_check.Goals as goal

none_exactly : (p : Program) (t : TableValue) → ((r : Unknown) → IsMissingRoot p t r → ⊥) → (found : Option Breach)
    → MatchOption found (IsWhole p t) (λ b. IsFirstOfTable p t b.unknown b.target) → (found ≡ None) ↔ IsPostSolution p t
none_exactly p t roots None whole = (λ _. post_solution p t whole roots, λ _. refl)
none_exactly p t roots (Some b) first = (λ is. absurd (cc is), λ post. absurd (refuted p t b.unknown b.target (inr (roots, first)) post))

pub returns-in-None-clause-none : goal.returns-in-None-clause-none
returns-in-None-clause-none c =
    if_ok c.first_of_table.result _ _ (none_exactly c.args.program.now c.args.table.now c.in-None.ensures) c.first_of_table.ensures
