use Rattle.std.proofs.Common.{◌≡◌, map, length}
use Rattle.c_parse.specs.Terminals as spec
use Rattle.c_parse.proofs.fixed.is_one_of.Given as goal

abbrev pub invariant-loop-left : goal.invariant-loop-left
invariant-loop-left l = spec.is_one_of (map (λ w. w.now) l.left) l.word ≡ spec.is_one_of (map (λ w. w.now) l.words) l.word

abbrev pub decreases-loop-left : goal.decreases-loop-left
decreases-loop-left l = length l.left
