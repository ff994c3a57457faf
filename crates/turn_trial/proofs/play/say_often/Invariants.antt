use Rattle.std.proofs.Common.{◌≡◌, ◌+◌, length}
use Rattle.turn_trial.specs.Trial.{GoesOn}
use Rattle.turn_trial.proofs.play.say_often.Given as goal

abbrev pub invariant-loop-i : goal.invariant-loop-i
invariant-loop-i g l = GoesOn l.lock l.initial.pass l.pass × (length l.pass.looks ≡ length l.initial.pass.looks + l.i)
