-- What moves and steps are as functions of a position.
use Rattle.std.specs.Prelude.{◌≡◌, ℕ, List, Option}
use Rattle.gob_tree.specs.declared.graph.Program.{Program}
use Rattle.arg_graph.specs.Following.{Offers, StackValue}
use Rattle.arg_graph.specs.declared.vertex.Label.{Label}
use Rattle.abs_stepper.specs.declared.position.Thread.{Thread}
use Rattle.abs_stepper.specs.Statements.{IsMove}

-- A move of a thread leads to one position.
abbrev pub MovesAreOne : Type 0
MovesAreOne =
    (p : Program) (offers : Offers) (chosen : StackValue → Option Label) (id : ℕ) (old new other : List Thread)
    → IsMove p offers chosen id old new → IsMove p offers chosen id old other → new ≡ other
