use Rattle.std.proofs.Common.{◌≡◌, ◌⊎◌, ◌↔◌, ◌<◌, ℕ, subst, arith}
use Rattle.std.specs.Prelude.{Contains}
use Rattle.constraint_sys.specs.declared.unknown.Unknown.{Unknown}
use Rattle.constraint_sys.specs.declared.unknown.Unknown.TheVariants.{Point}
use Rattle.destabilise.proofs.Linking.{points_more}
use Rattle.destabilise.proofs.links.push_points.Goals as goal

pub loop-node-preserved : goal.loop-node-preserved
loop-node-preserved c = λ v. points_more c.args.func c.args.key.now c.loop-node.node v (c.in_ok-push_one.ensures v) (c.loop-node.invariant v)

pub returns : goal.returns
returns c =
    let all : c.loop-node.node ≡ c.args.nodes = omega arith in
    subst (λ (n : ℕ). (v : Unknown) → Contains c.loop-node.found.items v ↔ (Contains c.args.found.now.items v ⊎ ((k : ℕ) × (k < n) × (v ≡ Point c.args.func c.args.key.now k)))) all c.loop-node.invariant
