use Rattle.std.proofs.Common.{◌≡◌, ◌∙◌, ◌++◌, ◌∷◌, [], ℕ, ap}
use Rattle.constraint_sys.specs.declared.unknown.Unknown.TheVariants.{Point}
use Rattle.constraint_sys.specs.declared.value.Value.{Value}
use Rattle.constraint_sys.proofs.Fellows.{on_ok, start_added}
use Rattle.constraint_sys.proofs.arise.arise.Goals as goal

pub returns-in-Point-clause-ok : goal.returns-in-Point-clause-ok
returns-in-Point-clause-ok c =
    let p = c.args.program.now in
    let old = c.args.table.now in
    let u = c.args.e.now.target in
    let f = c.in-Point.func in
    let key = c.in-Point.key in
    let is : u ≡ Point f key 0 = c.in-Point.is ∙ ap (λ (n : ℕ). Point f key n) c.if-node-eq0.true in
    let first : c.add.new.self ≡ old ++ (u, c.args.e.now.value) ∷ [] = c.in_ok-add.ensures.ok ∙ ap (λ (v : Value). old ++ (u, v) ∷ []) c.in_ok-copy.ensures in
    on_ok c.add_fellows.result _ _
    (λ all. start_added p old c.add.new.self c.add_fellows.new.table u f key c.args.e.now.value c.function_at.result.now is c.function_at.ensures.is first all)
    c.add_fellows.ensures.ok
