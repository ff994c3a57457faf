use Rattle.std.proofs.Common.{◌≡◌, ◌++◌, map, drop}
use Rattle.gob_tree.specs.declared.unit.GlobalDecl.{GlobalDecl}
use Rattle.tree_run.proofs.state.first_globals.Given as goal

abbrev pub invariant-loop-decl : goal.invariant-loop-decl
invariant-loop-decl l = l.globals.items ++ map (λ (d : GlobalDecl). d.initial) (drop l.decl-index l.decls) ≡ map (λ (d : GlobalDecl). d.initial) l.decls
