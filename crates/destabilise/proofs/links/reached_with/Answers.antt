use Rattle.std.proofs.Common.{◌↔◌, List, subst}
use Rattle.std.specs.Prelude.{Contains}
use Rattle.constraint_sys.specs.declared.unknown.Unknown.{Unknown}
use Rattle.destabilise.specs.Linked.{IsStart}
use Rattle.destabilise.proofs.Marking.{two_parts}
use Rattle.destabilise.proofs.links.reached_with.Goals as goal

pub returns : goal.returns
returns c = λ v. two_parts (c.in_ok-push_nodes.ensures v) (subst (λ (l : List Unknown). Contains c.in_ok-found.found.items v ↔ (Contains l v × IsStart v)) c.targets.ensures (c.in_ok-found.ensures v))
