-- The thresholds of a program: where an end of an interval comes to rest once it moves.
use Rattle.std.specs.Prelude.{◌↔◌, ℤ, pos, ◌+ℤ◌, ◌-ℤ◌, Bool, true, false, ◌||◌, List, [], ◌∷◌, ◌++◌, map, if◌then◌else◌}
use Rattle.std.specs.List.{Contains, list_any, flat_map}
use Rattle.gob_tree.specs.Widths.{fits, lowest, greatest}
use Rattle.gob_tree.specs.declared.expr.Expr.{Expr}
use Rattle.gob_tree.specs.declared.expr.Expr.TheOpen.{Expr-F}
use Rattle.gob_tree.specs.declared.expr.Expr.TheFolds.{fold-Expr}
use Rattle.gob_tree.specs.declared.expr.Width.{Width}
use Rattle.gob_tree.specs.declared.expr.Width.TheVariants.{W32, W64}
use Rattle.gob_tree.specs.declared.graph.Action.{Action}
use Rattle.gob_tree.specs.declared.graph.Action.TheVariants.{Assign, Read, Write, Nondet, Guard, Assert, Lock, Unlock, Create, Join, Call, Skip}
use Rattle.gob_tree.specs.declared.graph.Edge.{Edge}
use Rattle.gob_tree.specs.declared.graph.FuncGraph.{FuncGraph}
use Rattle.gob_tree.specs.declared.graph.Program.{Program}
use Rattle.gob_tree.specs.declared.unit.GlobalDecl.{GlobalDecl}
use Rattle.gob_tree.specs.declared.unit.Slot.{Slot}

-- One node of an expression, with the numbers of each child in its place.
abbrev pub numbers_step : Expr-F (List ℤ) → List ℤ
numbers_step (Expr-F.Number n w) = n ∷ []
numbers_step (Expr-F.Local x) = []
numbers_step (Expr-F.Global g w) = []
numbers_step (Expr-F.Nondet w) = []
numbers_step (Expr-F.Unary op a) = a
numbers_step (Expr-F.Binary op a b) = a ++ b
numbers_step (Expr-F.Call f w args) = flat_map (λ numbers. numbers) args

-- the numbers written in an expression, from left to right
abbrev pub numbers_of : Expr → List ℤ
numbers_of = fold-Expr (List ℤ) numbers_step

abbrev pub numbers_of_action : Action → List ℤ
numbers_of_action (Assign x e) = numbers_of e
numbers_of_action (Read x g) = []
numbers_of_action (Write g e) = numbers_of e
numbers_of_action (Nondet x) = []
numbers_of_action (Guard e wanted) = numbers_of e
numbers_of_action (Assert e) = numbers_of e
numbers_of_action (Lock m) = []
numbers_of_action (Unlock m) = []
numbers_of_action (Create t f) = []
numbers_of_action (Join t) = []
numbers_of_action (Call d f args) = flat_map numbers_of args
numbers_of_action Skip = []

abbrev pub numbers_of_edges : List Edge → List ℤ
numbers_of_edges = flat_map (λ (e : Edge). numbers_of_action e.act)

-- the numbers in the program's edges, then the globals' initial values
abbrev pub numbers_of_program : Program → List ℤ
numbers_of_program p =
    flat_map (λ (f : FuncGraph). numbers_of_edges f.edges) p.funcs
    ++ map (λ (g : GlobalDecl). g.initial) p.globals

abbrev pub is_wide : Width → Bool
is_wide W32 = false
is_wide W64 = true

-- whether a slot or a global has the wide width
abbrev pub has_wide : Program → Bool
has_wide p =
    list_any (λ (f : FuncGraph). list_any (λ (s : Slot). is_wide s.width) f.slots) p.funcs
    || list_any (λ (g : GlobalDecl). is_wide g.width) p.globals

-- the widest width among the program's slots and globals
abbrev pub widest : Program → Width
widest p = if has_wide p then W64 else W32

abbrev pub ends_of_type : Width → List ℤ
ends_of_type w = lowest w ∷ greatest w ∷ []

abbrev pub fitting : Width → ℤ → List ℤ
fitting w n = if fits w n then n ∷ [] else []

-- a number with its two neighbours, each where it fits the width
abbrev pub neighbours : Width → ℤ → List ℤ
neighbours w c = fitting w (c -ℤ pos 1) ++ fitting w c ++ fitting w (c +ℤ pos 1)

-- The thresholds, one by one: each number of the program with its neighbours, the ends of int, and the
-- ends of long where a slot or a global is one. A number may stand here twice: what counts is which
-- numbers are thresholds.
abbrev pub thresholds_of : Program → List ℤ
thresholds_of p =
    flat_map (neighbours (widest p)) (numbers_of_program p)
    ++ ends_of_type W32
    ++ (if has_wide p then ends_of_type W64 else [])

-- a list of numbers has just the members of another, in whatever order and however often
abbrev pub HasSameMembers : List ℤ → List ℤ → Type 0
HasSameMembers xs ys = (n : ℤ) → Contains xs n ↔ Contains ys n

-- these numbers are the thresholds of a program
abbrev pub AreThresholdsOf : Program → List ℤ → Type 0
AreThresholdsOf p marks = HasSameMembers (thresholds_of p) marks
