-- What the worked examples are written in: small trees by hand.
use Rattle.std.specs.Prelude.{ℕ, ℤ, pos, List, [], ◌∷◌, map, Some}
use Rattle.gob_tree.specs.declared.place.Place.{Place}
use Rattle.gob_tree.specs.declared.expr.Width.TheVariants.{W32, W64}
use Rattle.gob_tree.specs.declared.expr.Expr.{Expr, Number}
use Rattle.gob_tree.specs.declared.stmt.Stmt.{Stmt}
use Rattle.gob_tree.specs.declared.stmt.Placed.{Placed}
use Rattle.gob_tree.specs.declared.unit.Slot.{Slot}
use Rattle.gob_tree.specs.declared.unit.FuncKind as FuncKind
use Rattle.gob_tree.specs.declared.text.Text.{Text}
use Rattle.gob_tree.specs.declared.unit.Function.{Function}
use Rattle.gob_tree.specs.declared.unit.GlobalDecl.{GlobalDecl}
use Rattle.gob_tree.specs.declared.unit.Unit.{Unit as TranslationUnit}
use Rattle.c_meaning.specs.declared.config.Choice.{Choice}
use Rattle.c_meaning.specs.declared.config.Stepped.{Stepped}
use Rattle.c_meaning.specs.Config.{Config}
use Rattle.c_meaning.specs.Tree.{Frame, first_tree}
use Rattle.c_meaning.specs.Run.{words_of, left_by}

abbrev pub place : ℕ → ℕ → Place
place line column = record { line = line; column = column }

abbrev pub at : ℕ → ℕ → Stmt → Placed
at line column s = record { place = place line column; stmt = s }

abbrev pub int : ℕ → Expr
int n = Number (pos n) W32

abbrev pub int_slot : Slot
int_slot = record { name = []; width = W32 }

abbrev pub long_slot : Slot
long_slot = record { name = []; width = W64 }

abbrev pub global : ℤ → GlobalDecl
global n = record { name = []; width = W32; initial = n }

abbrev pub int_func : List Slot → List Text → List Placed → Function
int_func slots threads body = record {
  name = [];
  place = place 1 5;
  end = place 9 1;
  kind = FuncKind.TheVariants.Int;
  params = 0;
  slots = slots;
  threads = threads;
  body = body;
}

abbrev pub returns : Expr → Placed
returns e = at 8 3 (Stmt.Return (Some e))

-- a unit of the one function `main`
abbrev pub alone : List GlobalDecl → List Text → Function → TranslationUnit
alone globals mutexes main = record { funcs = main ∷ []; globals = globals; mutexes = mutexes; main = 0 }

abbrev pub choice : ℕ → ℕ → Choice
choice t n = record { thread = t; input = pos n }

-- the answers to choices from the start, and the configuration that they leave
abbrev pub answers : TranslationUnit → List Choice → List Stepped
answers unit = words_of unit (first_tree unit)

abbrev pub left : TranslationUnit → List Choice → Config Frame
left unit = left_by unit (first_tree unit)

-- the slots of each frame of each thread
abbrev pub slots_of : Config Frame → List (List (List ℤ))
slots_of c = map (map (λ frame. frame.slots)) c.threads
