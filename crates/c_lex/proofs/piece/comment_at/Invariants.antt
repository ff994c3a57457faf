use Rattle.std.proofs.Common.{◌≡◌, ℕ, ◌-◌, ◌<◌, ◌≤◌, get_or}
use Rattle.c_lex.proofs.piece.comment_at.Given as goal

-- no end of the comment so far
abbrev pub invariant-loop-i : goal.invariant-loop-i
invariant-loop-i l = (k : ℕ) → 3 ≤ k → k < l.i → get_or l.rest (k - 1) 0 ≡ 42 → get_or l.rest k 0 ≡ 47 → ⊥
