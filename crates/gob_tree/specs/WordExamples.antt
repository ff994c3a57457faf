-- Words and texts that are none, and a program whose names are words, with one name of each kind
-- to be put in its place.
use Rattle.std.specs.Prelude.{ℕ, pos, List, [], ◌∷◌, codes}
use Rattle.gob_tree.specs.declared.expr.Width.TheVariants.{W32}
use Rattle.gob_tree.specs.declared.graph.Program.{Program}
use Rattle.gob_tree.specs.declared.unit.FuncKind.TheVariants.{Int}

abbrev pub some_words : List (List ℕ)
some_words = codes "x" ∷ codes "_" ∷ codes "Main_2" ∷ []

-- nothing; a digit in front; a blank inside; a byte above 127 in front, and one at the end
abbrev pub no_words : List (List ℕ)
no_words = [] ∷ codes "2x" ∷ codes "a b" ∷ (195 ∷ []) ∷ (97 ∷ 128 ∷ []) ∷ []

-- a program of one function, one global and one mutex with these names; the function has one thread
-- variable and, beside the returned value, one slot
abbrev pub program_of_names : List ℕ → List ℕ → List ℕ → List ℕ → List ℕ → Program
program_of_names function global mutex thread slot = record {
  funcs = record {
    name = function;
    kind = Int;
    params = 0;
    slots = record { name = []; width = W32 } ∷ record { name = slot; width = W32 } ∷ [];
    threads = thread ∷ [];
    nodes = [];
    edges = [];
  } ∷ [];
  globals = record { name = global; width = W32; initial = pos 0 } ∷ [];
  mutexes = mutex ∷ [];
  main = 0;
}
