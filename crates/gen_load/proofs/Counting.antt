-- What is said of the first n, at one more.
use Rattle.std.proofs.Common.{◌≡◌, ℕ, suc, ◌+◌, ◌%◌, List, [], ◌∷◌, ◌++◌, refl, arith}
use Rattle.gen_load.specs.declared.choice.Choice.{Choice}
use Rattle.gen_load.specs.Drawing.{next_state, choice_from, state_after, choices}
use Rattle.gen_load.specs.Generated.{raised_at, text_of, after_edits, edit_texts}

pub state_after_next : (state n : ℕ) → state_after state (n + 1) ≡ next_state (next_state (next_state (state_after state n)))
state_after_next state n = let e : n + 1 ≡ suc n = omega arith in rw e refl

pub choices_next : (number n : ℕ) → choices number (n + 1) ≡ choices number n ++ choice_from (state_after number n) ∷ []
choices_next number n = let e : n + 1 ≡ suc n = omega arith in rw e refl

pub after_edits_next : (count : ℕ) (made : List Choice) (k : ℕ)
    → after_edits count made (k + 1) ≡ raised_at (after_edits count made k) (k % count)
after_edits_next count made k = let e : k + 1 ≡ suc k = omega arith in rw e refl

pub edit_texts_next : (count : ℕ) (made : List Choice) (k : ℕ)
    → edit_texts count made (k + 1) ≡ edit_texts count made k ++ text_of count (raised_at (after_edits count made k) (k % count)) ∷ []
edit_texts_next count made k = let e : k + 1 ≡ suc k = omega arith in rw e refl
