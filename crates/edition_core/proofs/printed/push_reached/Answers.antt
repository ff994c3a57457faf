use Rattle.std.proofs.Common.{◌∙◌, ap, sym, length, arith, List, ℕ}
use Rattle.gob_tree.proofs.LabelReadings.{length-labels_of}
use Rattle.edition_core.proofs.printed.push_reached.Goals as goal

pub push_slots-requires-clause-few : goal.push_slots-requires-clause-few
push_slots-requires-clause-few c =
    let one_each = ap (λ (labels : List (List ℕ)). length labels) c.requires.labels ∙ length-labels_of c.args.f.now.slots in
    omega (arith, one_each)

pub push_slots-requires-clause-sizes : goal.push_slots-requires-clause-sizes
push_slots-requires-clause-sizes c =
    let one_each = ap (λ (labels : List (List ℕ)). length labels) c.requires.labels ∙ length-labels_of c.args.f.now.slots in
    c.requires.sizes ∙ sym one_each
