use Rattle.std.proofs.Common.{◌≡◌, ◌⊎◌, ◌↔◌, ◌<◌, ℕ, inl, inr, subst}
use Rattle.std.specs.Prelude.{Contains}
use Rattle.constraint_sys.specs.declared.unknown.Unknown.TheVariants.{Point}
use Rattle.destabilise.proofs.Linking.{nodes_known, numbered_other, numbered_zero, right_part}
use Rattle.destabilise.proofs.links.push_nodes_at.Goals as goal

pub returns-then-node-gt0 : goal.returns-then-node-gt0
returns-then-node-gt0 c = λ v. (
  λ one. inl one,
  λ either. elim either [ inl one ↦ one | inr node ↦ absurd (numbered_other c.args.program.now c.args.func c.args.key.now c.args.node v c.if-node-gt0.true node) ],
)

pub returns : goal.returns
returns c = λ v.
    let count = nodes_known c.args.program.now c.args.func c.function_at.result.now c.len-nodes.result c.function_at.ensures.is c.len-nodes.ensures in
    right_part
    (subst (λ (k : ℕ). Contains c.push_points.new.found.items v ↔ (Contains c.args.found.now.items v ⊎ ((n : ℕ) × (n < k) × (v ≡ Point c.args.func c.args.key.now n)))) count (c.in_ok-push_points.ensures v))
    (numbered_zero c.args.program.now c.args.func c.args.key.now c.args.node v c.if-node-gt0.false)
