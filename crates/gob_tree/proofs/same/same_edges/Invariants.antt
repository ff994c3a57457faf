use Rattle.std.proofs.Common.{◌≡◌, take, map}
use Rattle.gob_tree.specs.Named.{named_edge}
use Rattle.gob_tree.proofs.same.same_edges.Given as goal

abbrev pub invariant-loop-i : goal.invariant-loop-i
invariant-loop-i l = map (named_edge l.a) (take l.i l.xs) ≡ map (named_edge l.b) (take l.i l.ys)
