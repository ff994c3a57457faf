use Rattle.std.proofs.Common.{◌≡◌, ◌∷◌, map, take, drop, codes}
use Rattle.std.specs.List.{list_all}
use Rattle.command_words.specs.Reading.{goes_to_clap}
use Rattle.command_words.proofs.said.texts_of.Given as goal

abbrev pub invariant-loop-word : goal.invariant-loop-word
invariant-loop-word l = record {
  texts : map (λ s. s.now) l.texts.items ≡ codes "gobpie" ∷ take l.word-index l.words;
  said : list_all goes_to_clap (drop l.word-index l.words) ≡ list_all goes_to_clap l.words;
}
