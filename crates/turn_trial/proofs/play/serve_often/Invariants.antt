use Rattle.std.proofs.Common.{◌+◌, ◌≤◌, length}
use Rattle.turn_trial.specs.Trial.{GoesOn}
use Rattle.turn_trial.proofs.play.serve_often.Given as goal

abbrev pub invariant-loop : goal.invariant-loop
invariant-loop g l = GoesOn l.lock l.initial.pass l.pass × (length l.initial.pass.looks + l.counter ≤ length l.pass.looks)
