-- A small table, printed: two contexts of a function with three slots of one name, and a global.
use Rattle.std.proofs.Common.{◌≡◌, ℕ, pos, negsuc, List, [], ◌∷◌, ◌++◌, codes, refl}
use Rattle.std.specs.Fmt.{digits}
use Rattle.gob_tree.specs.declared.expr.Width.TheVariants.{W32}
use Rattle.gob_tree.specs.declared.graph.FuncGraph.{FuncGraph}
use Rattle.gob_tree.specs.declared.graph.Program.{Program}
use Rattle.gob_tree.specs.declared.unit.FuncKind.TheVariants.{Int}
use Rattle.gob_tree.specs.declared.unit.Slot.{Slot}
use Rattle.interval_dom.specs.Bounds.{between}
use Rattle.state_dom.specs.StateValue.{Bottom, Reached}
use Rattle.constraint_sys.specs.declared.unknown.ArgKey.{ArgKey}
use Rattle.constraint_sys.specs.declared.unknown.ArgKey.TheVariants.{Absent, Zero, One, Any}
use Rattle.constraint_sys.specs.declared.unknown.Key.{Key}
use Rattle.constraint_sys.specs.declared.unknown.Unknown.TheVariants.{Point, Global}
use Rattle.constraint_sys.specs.declared.value.Value.TheVariants.{State, Number}
use Rattle.constraint_sys.specs.Table.{TableValue}
use Rattle.edition_core.specs.Printed.{printed}

abbrev slot : List ℕ → Slot
slot name = record { name = name; width = W32 }

abbrev key : ArgKey → ArgKey → ℕ → Key
key first second locks = record { a = first; b = second; locks = locks }

-- a function with a nameless slot between its locals
abbrev example_function : FuncGraph
example_function = record {
  name = codes "f";
  kind = Int;
  params = 2;
  slots = slot [] ∷ slot (codes "x") ∷ slot (codes "y") ∷ slot (codes "x") ∷ slot [] ∷ slot (codes "x") ∷ [];
  threads = [];
  nodes = record { line = 2; column = 5 } ∷ record { line = 14; column = 1 } ∷ [];
  edges = [];
}

abbrev example_program : Program
example_program = record {
  funcs = example_function ∷ [];
  globals = record { name = codes "g"; width = W32; initial = pos 0 } ∷ [];
  mutexes = codes "m" ∷ codes "other" ∷ codes "k" ∷ [];
  main = 0;
}

abbrev example_table : TableValue
example_table =
    (Global 0, Number (between (pos 0) (pos 5)))
    ∷ (Point 0 (key Zero Any 5) 1, State (Reached (between (pos 9) (pos 9) ∷ between (negsuc 0) (pos 2) ∷ between (pos 0) (pos 0) ∷ between (pos 3) (pos 3) ∷ between (pos 8) (pos 8) ∷ between (negsuc 11) (pos 4) ∷ []) 4))
    ∷ (Point 0 (key Absent Absent 0) 1, State (Bottom 6)) ∷ (Point 0 (key Absent One 0) 1, State (Bottom 6))
    ∷ (Point 0 (key Zero Any 5) 0, State (Reached (between (pos 1) (pos 1) ∷ between (pos 1) (pos 1) ∷ between (pos 1) (pos 1) ∷ between (pos 1) (pos 1) ∷ between (pos 1) (pos 1) ∷ between (pos 1) (pos 1) ∷ []) 0))
    ∷ []

pub an_example : printed example_program example_table ≡
    codes "f(){} 1 14:1 unreached\n"
    ++ codes "f(1){} 1 14:1 unreached\n"
    ++ codes "f(0,Any){m,k} 0 2:5 x=[1,1] y=[1,1] x#2=[1,1] x#3=[1,1] {}\n"
    ++ codes "f(0,Any){m,k} 1 14:1 x=[-1,2] y=[0,0] x#2=[3,3] x#3=[-12,4] return=[9,9] {k}\n"
    ++ codes "global g=[0,5]\n"
unfolding digits
an_example = refl
