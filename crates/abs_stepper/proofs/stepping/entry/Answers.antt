use Rattle.std.proofs.Common.{◌≡◌, List, sym, subst, rules}
use Rattle.arg_graph.specs.Vertices.{start_in}
use Rattle.abs_stepper.specs.declared.position.Thread.{Thread}
use Rattle.abs_stepper.specs.Positions.{IsPosition, entry_of}
use Rattle.abs_stepper.proofs.MainStart.{alone, main_stands}
use Rattle.abs_stepper.proofs.stepping.entry.Goals as goal

pub returns-in_err-push-clause-vertex : goal.returns-in_err-push-clause-vertex
returns-in_err-push-clause-vertex c = main_stands c.args.program.now c.requires.0 c.args.graph.now c.requires.1 c.requires.2

pub returns-in_err-push-2-clause-vertex : goal.returns-in_err-push-2-clause-vertex
returns-in_err-push-2-clause-vertex c = main_stands c.args.program.now c.requires.0 c.args.graph.now c.requires.1 c.requires.2

pub of-requires : goal.of-requires
of-requires c =
    let is : c.push-2.new.self ≡ entry_of c.args.program.now = search rules in
    subst (λ (l : List Thread). IsPosition l) (sym is) (alone 1 (start_in c.args.program.now.main))

pub returns-clause-vertex : goal.returns-clause-vertex
returns-clause-vertex c = main_stands c.args.program.now c.requires.0 c.args.graph.now c.requires.1 c.requires.2
