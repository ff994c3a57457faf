use Rattle.command_words.proofs.Spellings.{reading_spells}
use Rattle.command_words.proofs.laws.reading_is_spelled.Goals as goal

pub returns : goal.returns
returns c = reading_spells
