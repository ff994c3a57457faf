use Rattle.std.proofs.Common.{◌≡◌, ◌+◌, ◌-◌, ◌*◌, ◌<◌, ◌^◌, take}
use Rattle.std.specs.List.{fold}
use Rattle.dap_frame.proofs.line.number_of.Given as goal

abbrev pub invariant-loop-digit : goal.invariant-loop-digit
invariant-loop-digit l =
    (l.n ≡ fold (λ n digit. n * 10 + (digit - 48)) 0 (take l.digit-index l.digits)) × (l.n < 10 ^ l.digit-index)
