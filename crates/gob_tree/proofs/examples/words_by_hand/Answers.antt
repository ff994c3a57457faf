use Rattle.std.specs.Prelude.{codes}
use Rattle.std.proofs.Common.{refl, inl, inr, []}
use Rattle.gob_tree.proofs.WordProofs as proofs
use Rattle.gob_tree.proofs.examples.words_by_hand.Goals as goal

pub returns-clause-words : goal.returns-clause-words
returns-clause-words c = proofs.are_words

pub returns-clause-no_words : goal.returns-clause-no_words
returns-clause-no_words c = proofs.are_no_words

pub returns-clause-named : goal.returns-clause-named
returns-clause-named c = proofs.named (codes "x") (inr proofs.x)

pub returns-clause-unnamed_slot : goal.returns-clause-unnamed_slot
returns-clause-unnamed_slot c = proofs.named [] (inl refl)

pub returns-clause-function : goal.returns-clause-function
returns-clause-function c h = proofs.nothing (proofs.function_named _ h _ refl)

pub returns-clause-global : goal.returns-clause-global
returns-clause-global c h = proofs.nothing (proofs.global_named _ h _ refl)

pub returns-clause-mutex : goal.returns-clause-mutex
returns-clause-mutex c h = proofs.nothing (proofs.mutex_named _ h _ refl)

pub returns-clause-thread : goal.returns-clause-thread
returns-clause-thread c h = proofs.nothing (proofs.thread_named _ h _ _ refl refl)

pub returns-clause-slot : goal.returns-clause-slot
returns-clause-slot c h = proofs.digit_name (proofs.slot_named _ h _ _ _ refl refl)
