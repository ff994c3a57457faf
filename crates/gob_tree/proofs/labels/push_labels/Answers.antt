use Rattle.std.proofs.Common.{◌∙◌, ◌∷◌, [], ap, sym, arith, List, ℕ, drop, take, ◌+◌}
use Rattle.gob_tree.specs.Labels.{labels_after, label_of}
use Rattle.gob_tree.proofs.LabelReadings.{labels_after_next, grown}
use Rattle.gob_tree.proofs.labels.push_labels.Goals as goal

pub loop-i-preserved : goal.loop-i-preserved
loop-i-preserved c =
    let named = c.args.named.now in
    let i = c.loop-i.i in
    let slot = c.index-named-i.result in
    let later = labels_after (take (i + 1) named) (drop (i + 1) named) in
    let label_is = c.in_ok-label.ensures ∙ ap (λ (n : ℕ). label_of slot.name n) c.count_of_name-before.ensures.value in
    grown c.loop-i.labels c.push.new.self (c.in_ok-label.field-0 ∷ []) (labels_after (take i named) (drop i named)) later _ c.in_ok-push.ensures.ok
    (labels_after_next named i slot (omega arith) c.index-named-i.is ∙ ap (λ (l : List ℕ). l ∷ later) (sym label_is))
    c.loop-i.invariant
