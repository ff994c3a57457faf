use Rattle.gob_tree.proofs.WordLaws as laws
use Rattle.gob_tree.proofs.labels.labels_are_text.Goals as goal

pub returns : goal.returns
returns c = laws.labels_are_text
