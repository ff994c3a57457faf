use Rattle.std.proofs.Common.{◌≡◌, ◌∙◌, Some, sym}
use Rattle.std.specs.Prelude.{slice_get}
use Rattle.std.proofs.lemmas.Option.{none-some}
use Rattle.lockset_dom.specs.Members.{Holds}
use Rattle.global_restart.proofs.Keeps.{lost_none}
use Rattle.global_restart.proofs.Numbers.{with_number}
use Rattle.global_restart.proofs.renaming.with_match.Goals as goal

pub insert-requires : goal.insert-requires
insert-requires c = c.requires c.in-Some.n ((c.match_of.ensures c.in-Some.n).0 c.in-Some.is)

pub returns-in-Some : goal.returns-in-Some
returns-in-Some c = λ k.
    with_number c.args.locks c.args.mutexes.now c.args.m c.in-Some.n k (Holds c.insert.result k) (Holds c.args.renamed k) (c.contains.ensures.0 c.if-not-contains.false)
    ((c.match_of.ensures c.in-Some.n).0 c.in-Some.is) (c.insert.ensures.members k)

pub returns-in-None : goal.returns-in-None
returns-in-None c = λ k.
    lost_none (Holds c.args.renamed k) (Holds c.args.locks c.args.m × (slice_get c.args.mutexes.now c.args.m ≡ Some (Some k)))
    (λ both. none-some k (sym c.in-None.is ∙ (c.match_of.ensures k).1 both.1))
