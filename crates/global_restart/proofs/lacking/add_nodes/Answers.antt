use Rattle.std.proofs.Common.{◌≡◌, ◌++◌, ◌∙◌, ℕ, ap}
use Rattle.std.specs.Map.{keys_of}
use Rattle.std.specs.Prelude.{filter}
use Rattle.constraint_sys.specs.Table.{TableValue}
use Rattle.constraint_sys.specs.Turn.{is_absent}
use Rattle.constraint_sys.specs.declared.unknown.Unknown.TheVariants.{Point}
use Rattle.constraint_sys.proofs.Fellows.{on_ok}
use Rattle.global_restart.proofs.Adding.{brought}
use Rattle.global_restart.proofs.lacking.add_nodes.Goals as goal

pub returns-in-Point-clause-table : goal.returns-in-Point-clause-table
returns-in-Point-clause-table c =
    let t = c.args.table.now in
    let f = c.in-Point.func in
    let key = c.in-Point.key in
    let is = c.in-Point.is ∙ ap (λ (n : ℕ). Point f key n) c.if-node-eq0.true in
    let all = brought c.args.program.now c.args.u.now f key c.function_at-function.result.now c.len-room.result c.len-nodes.result is c.function_at-function.ensures.is c.len-room.ensures c.len-nodes.ensures in
    on_ok c.add_bottoms.result _ _ (λ one. one ∙ ap (λ (xs : TableValue). t ++ filter (is_absent t) xs) all) c.add_bottoms.ensures.table

pub returns-in-Point-clause-added : goal.returns-in-Point-clause-added
returns-in-Point-clause-added c =
    let t = c.args.table.now in
    let us = c.args.added.now.items in
    let f = c.in-Point.func in
    let key = c.in-Point.key in
    let is = c.in-Point.is ∙ ap (λ (n : ℕ). Point f key n) c.if-node-eq0.true in
    let all = brought c.args.program.now c.args.u.now f key c.function_at-function.result.now c.len-room.result c.len-nodes.result is c.function_at-function.ensures.is c.len-room.ensures c.len-nodes.ensures in
    on_ok c.add_bottoms.result _ _ (λ one. one ∙ ap (λ (xs : TableValue). us ++ keys_of (filter (is_absent t) xs)) all) c.add_bottoms.ensures.added
