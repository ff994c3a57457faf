use Rattle.std.proofs.Common.{◌≡◌, drop}
use Rattle.std.specs.List.{position_from}
use Rattle.gob_tree.specs.declared.unit.GlobalDecl.{GlobalDecl}
use Rattle.breakpoint_eval.specs.Names.{global_named, is_called}
use Rattle.breakpoint_eval.proofs.naming.global_named.Given as goal

abbrev pub invariant-loop-i : goal.invariant-loop-i
invariant-loop-i l = position_from (λ (g : GlobalDecl). is_called l.name g.name) l.i (drop l.i l.globals) ≡ global_named l.globals l.name
