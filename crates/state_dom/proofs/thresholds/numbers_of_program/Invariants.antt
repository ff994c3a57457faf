use Rattle.std.proofs.Common.{◌≡◌, ◌++◌, drop, map}
use Rattle.std.specs.List.{flat_map}
use Rattle.gob_tree.specs.declared.graph.FuncGraph.{FuncGraph}
use Rattle.gob_tree.specs.declared.unit.GlobalDecl.{GlobalDecl}
use Rattle.state_dom.specs.ThresholdValues.{numbers_of_edges, numbers_of_program}
use Rattle.state_dom.proofs.thresholds.numbers_of_program.Given as goal

abbrev pub invariant-loop-function : goal.invariant-loop-function
invariant-loop-function l =
    l.numbers.items ++ flat_map (λ (f : FuncGraph). numbers_of_edges f.edges) (drop l.function-index l.program.funcs)
    ≡ flat_map (λ (f : FuncGraph). numbers_of_edges f.edges) l.program.funcs

abbrev pub invariant-loop-global : goal.invariant-loop-global
invariant-loop-global l =
    l.numbers.items ++ map (λ (g : GlobalDecl). g.initial) (drop l.global-index l.program.globals)
    ≡ numbers_of_program l.program
