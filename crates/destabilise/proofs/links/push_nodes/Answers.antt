use Rattle.std.proofs.Common.{◌⊎◌, ◌↔◌, sym, subst}
use Rattle.std.specs.Prelude.{Contains}
use Rattle.constraint_sys.specs.declared.unknown.Unknown.{Unknown}
use Rattle.destabilise.specs.Linked.{IsNumberedNode}
use Rattle.destabilise.proofs.links.push_nodes.Goals as goal

pub returns-in_ok-push_nodes_at-in-Point : goal.returns-in_ok-push_nodes_at-in-Point
returns-in_ok-push_nodes_at-in-Point c = λ v.
    subst (λ (u : Unknown). Contains c.push_nodes_at.new.found.items v ↔ (Contains c.args.found.now.items v ⊎ IsNumberedNode c.args.program.now u v)) (sym c.in-Point.is) (c.in_ok-push_nodes_at-in-Point.ensures v)
