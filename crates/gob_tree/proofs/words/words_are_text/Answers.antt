use Rattle.gob_tree.proofs.WordLaws.{word_is_text}
use Rattle.gob_tree.proofs.words.words_are_text.Goals as goal

pub returns : goal.returns
returns c = word_is_text
