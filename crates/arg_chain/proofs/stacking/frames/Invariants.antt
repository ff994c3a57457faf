use Rattle.std.proofs.Common.{◌≡◌, ◌≤◌, ◌-◌, ◌++◌, drop, length}
use Rattle.arg_chain.specs.Calls.{frames_of}
use Rattle.arg_chain.proofs.stacking.frames.Given as goal

abbrev pub invariant-loop-i : goal.invariant-loop-i
invariant-loop-i l = record {
  within : l.i ≤ length l.hops;
  built : l.stack ++ frames_of l.vertices (drop l.i l.hops) ≡ frames_of l.vertices l.hops;
}

abbrev pub decreases-loop-i : goal.decreases-loop-i
decreases-loop-i l = length l.hops - l.i
