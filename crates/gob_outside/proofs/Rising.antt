-- Counts over several calls.
use Rattle.std.proofs.Common.{ℕ, ◌≤◌, arith}
use Rattle.gob_outside.specs.Count.{Rose}

-- a count that rose at last, and that didn't fall before
pub Rose-after : (old between new : ℕ) → old ≤ between → Rose between new → Rose old new
Rose-after old between new stays rose = grind arith

-- a count that rose at first, and that didn't fall afterwards
pub Rose-before : (old between new : ℕ) → Rose old between → between ≤ new → Rose old new
Rose-before old between new rose stays = grind arith
