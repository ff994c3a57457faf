use Rattle.std.proofs.Common.{◌≡◌, ◌∷◌, [], ◌+◌, ◌++◌, ◌∙◌, sym, ap, arith}
use Rattle.std.specs.Prelude.{filter}
use Rattle.std.proofs.lemmas.List.{drop_all}
use Rattle.constraint_sys.specs.Turn.{is_absent}
use Rattle.constraint_sys.specs.declared.unknown.Unknown.TheVariants.{Global}
use Rattle.constraint_sys.specs.declared.value.Value.{Value}
use Rattle.constraint_sys.proofs.Ordered.{drop_read}
use Rattle.global_restart.proofs.Adding.{globals_begin, globals_end, globals_more}
use Rattle.global_restart.proofs.roots.add_globals.Goals as goal

pub loop-g-init : goal.loop-g-init
loop-g-init c = globals_begin c.args.table.now c.args.globals.now

pub loop-g-preserved : goal.loop-g-preserved
loop-g-preserved c =
    let globals = c.args.globals.now in
    let g = c.loop-g.g in
    let decl = c.index-globals-g.result in
    globals_more c.args.table.now c.loop-g.table c.add_absent.new.table globals g decl (drop_read globals g decl (omega arith) c.index-globals-g.is) c.loop-g.invariant
    (c.in_ok-add_absent.ensures ∙ ap (λ (v : Value). c.loop-g.table ++ filter (is_absent c.loop-g.table) ((Global g, v) ∷ [])) c.initial_value.ensures)

pub returns : goal.returns
returns c = globals_end c.args.table.now c.loop-g.table c.args.globals.now c.loop-g.g (drop_all c.loop-g.g c.args.globals.now (omega arith)) c.loop-g.invariant
