use Rattle.std.proofs.Common.{ap, ◌∙◌, sym}
use Rattle.std.proofs.lemmas.Slice.Eq.{slice_eq-Decides}
use Rattle.constraint_sys.specs.Table.{unknown_eq}
use Rattle.constraint_sys.specs.declared.unknown.Unknown.{Unknown}
use Rattle.constraint_sys.proofs.Entries.{unknown_eq-refl, unknown_eq-same}
use Rattle.dep_index.proofs.gone.are_same.Goals as goal

pub returns : goal.returns
returns c =
    (slice_eq-Decides (λ (a b : Unknown). (λ tests. unknown_eq-same a b tests, λ is. ap (λ (z : Unknown). unknown_eq a z) (sym is) ∙ unknown_eq-refl a)) c.args.xs.now c.args.ys.now c.eq.result c.eq.ensures).0
