-- Where a label leads among the steps that are left.
use Rattle.std.proofs.Common.{◌≡◌, ℕ, ◌+◌, ◌<◌, true, false, List, Some, length, drop, get_or, refl, ap, ◌∙◌}
use Rattle.constraint_sys.proofs.Ordered.{drop_read}
use Rattle.arg_graph.specs.Following.{target_of}
use Rattle.arg_graph.specs.contracts.vertex.LabelPartialEq.TheImpl.{ghosts as labels}
use Rattle.arg_graph.specs.declared.vertex.Label.{Label}
use Rattle.arg_graph.specs.declared.vertex.Step.{Step}

module _ (label : Label) (ss : List Step) (i : ℕ) (s : Step) (within : i < length ss) (is : s ≡ get_or ss i s) where
  pub target_first : labels.eq s.label label ≡ true → target_of label (drop i ss) ≡ Some s.to
  target_first test = ap (target_of label) (drop_read ss i s within is) ∙ (rw test refl)

  pub target_next : labels.eq s.label label ≡ false → target_of label (drop i ss) ≡ target_of label (drop (i + 1) ss)
  target_next test = ap (target_of label) (drop_read ss i s within is) ∙ (rw test refl)
