use Rattle.std.proofs.Common.{◌≡◌, ◌⊎◌, ◌↔◌, List, sym, subst, ap, ◌∙◌}
use Rattle.std.specs.Prelude.{Contains}
use Rattle.constraint_sys.specs.declared.unknown.Unknown.{Unknown}
use Rattle.dep_index.specs.Noted.{reads_of}
use Rattle.destabilise.proofs.Marking.{three_parts}
use Rattle.destabilise.proofs.links.taken_along.Goals as goal

pub returns : goal.returns
returns c = λ v. three_parts (c.in_ok-push_nodes.ensures v)
    (subst (λ (l : List Unknown). Contains c.push_each.new.found.items v ↔ (Contains c.in_ok-found.found.items v ⊎ Contains l v)) c.targets.ensures (c.in_ok-push_each.ensures v))
    (subst (λ (l : List Unknown). Contains l v ↔ Contains (reads_of c.args.links.now.readers v) c.args.u.now) (sym c.in_ok-found.ensures.items) (c.readers.ensures v))
