-- The choices in which one function's constant was raised.
use Rattle.std.proofs.Common.{◌≡◌, ℕ, zero, suc, ◌≤◌, List, [], ◌∷◌, length, refl, ap, ◌+◌, ◌%◌, arith}
use Rattle.std.specs.Prelude.{slice_set, slice_index_or}
use Rattle.gen_load.specs.declared.choice.Choice.{Choice}
use Rattle.gen_load.specs.Generated.{raised, raised_at}

-- they are the choices with the raised one in its place
pub raised_at_is_set : (made : List Choice) (i : ℕ) (d : Choice) → raised_at made i ≡ slice_set made i (raised (slice_index_or made i d))
raised_at_is_set [] i d = refl
raised_at_is_set (choice ∷ others) zero d = refl
raised_at_is_set (choice ∷ others) (suc i) d = ap (λ l. choice ∷ l) (raised_at_is_set others i d)

-- past the last function nothing is raised
pub raised_at_past : (made : List Choice) (i : ℕ) → length made ≤ i → raised_at made i ≡ made
raised_at_past [] i past = refl
raised_at_past (choice ∷ others) zero past = absurd (omega arith)
raised_at_past (choice ∷ others) (suc i) past = ap (λ l. choice ∷ l) (raised_at_past others i (omega arith))

-- the next constant
pub next_constant : (c : ℕ) → (c % 100 + 1) % 100 ≡ (c + 1) % 100
next_constant c = omega arith
