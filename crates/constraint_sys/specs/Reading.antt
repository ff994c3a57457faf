-- What an action may read of the table beside its start.
use Rattle.std.specs.Prelude.{ℕ, Bool, false, ◌&&◌, nat_eq, List, Contains}
use Rattle.gob_tree.specs.declared.graph.Action.{Action}
use Rattle.gob_tree.specs.declared.graph.Action.TheVariants.{Assign, Read, Write, Nondet, Guard, Assert, Lock, Unlock, Create, Join, Call, Skip}
use Rattle.constraint_sys.specs.declared.unknown.Unknown.{Unknown}
use Rattle.constraint_sys.specs.declared.unknown.Unknown.TheVariants.{Point, Global}

-- two lists share an unknown
abbrev pub HasCommon : List Unknown → List Unknown → Type 0
HasCommon us vs = (u : Unknown) × Contains us u × Contains vs u

abbrev pub is_global : ℕ → Unknown → Bool
is_global g (Point f key node) = false
is_global g (Global h) = nat_eq g h

-- an exit of the function, in some context
abbrev pub is_exit : ℕ → Unknown → Bool
is_exit f (Point g key node) = nat_eq f g && nat_eq node 1
is_exit f (Global h) = false

-- whether an action, in some state, reads the unknown
abbrev pub may_read : Action → Unknown → Bool
may_read (Assign x e) u = false
may_read (Read x g) u = is_global g u
may_read (Write g e) u = false
may_read (Nondet x) u = false
may_read (Guard e wanted) u = false
may_read (Assert e) u = false
may_read (Lock m) u = false
may_read (Unlock m) u = false
may_read (Create x f) u = false
may_read (Join x) u = false
may_read (Call d f args) u = is_exit f u
may_read Skip u = false
