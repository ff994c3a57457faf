-- A slot and a global of each width, and one number.
use Rattle.std.specs.Prelude.{ℕ, pos, List, [], ◌∷◌}
use Rattle.gob_tree.specs.declared.expr.Width.{Width}
use Rattle.gob_tree.specs.declared.expr.Width.TheVariants.{W32, W64}
use Rattle.gob_tree.specs.declared.graph.Program.{Program}
use Rattle.gob_tree.specs.declared.unit.GlobalDecl.{GlobalDecl}
use Rattle.gob_tree.specs.declared.unit.Slot.{Slot}
use Rattle.interval_dom.specs.Bounds.{Bounds, between}

abbrev pub number : ℕ → Bounds
number n = between (pos n) (pos n)

-- an int and a long
abbrev pub two_slots : List Slot
two_slots = record { name = []; width = W32 } ∷ record { name = []; width = W64 } ∷ []

abbrev pub zeros : List Bounds
zeros = number 0 ∷ number 0 ∷ []

-- a global that begins with 3
abbrev pub global_of : Width → GlobalDecl
global_of width = record { name = []; width = width; initial = pos 3 }

-- an int and a long
abbrev pub two_globals : Program
two_globals = record { funcs = []; globals = global_of W32 ∷ global_of W64 ∷ []; mutexes = []; main = 0 }
