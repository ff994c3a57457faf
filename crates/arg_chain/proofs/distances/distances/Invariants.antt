use Rattle.std.proofs.Common.{◌+◌, length, count_by}
use Rattle.std.specs.Prelude.{is_none}
use Rattle.arg_chain.proofs.Levels.{IsLevelled}
use Rattle.arg_chain.proofs.distances.distances.Given as goal

abbrev pub invariant-levels : goal.invariant-levels
invariant-levels l = IsLevelled l.graph l.target l.known.items l.front.items l.level

abbrev pub decreases-levels : goal.decreases-levels
decreases-levels l = length l.front.items + count_by is_none l.known.items
