-- The shapes of trees as lists of numbers, which tell trees apart.
use Rattle.std.proofs.Common.{◌≡◌, sym, ap, ◌∙◌, ℕ, ℤ, List, [], ◌∷◌, ◌++◌, map, Option, None, Some}
use Rattle.gob_tree.specs.declared.place.Place.{Place}
use Rattle.gob_tree.specs.declared.expr.Width.{Width}
use Rattle.gob_tree.specs.declared.expr.BinOp.{BinOp}
use Rattle.c_parse.specs.declared.raw.expr.RawName.{RawName}
use Rattle.c_parse.specs.declared.raw.expr.RawExpr.{RawExpr, Number, Name, Binary, Call, fold-RawExpr, fold-roll-RawExpr}
use Rattle.c_parse.specs.declared.raw.expr.RawExpr.TheOpen.{RawExpr-F}
use Rattle.c_parse.specs.declared.raw.expr.RawExpr.TheVariants.{rolls-Number, rolls-Name, rolls-Binary, rolls-Call}
use Rattle.c_parse.specs.declared.raw.stmt.RawStmt.{RawStmt, Assign, If, For, fold-RawStmt, fold-roll-RawStmt}
use Rattle.c_parse.specs.declared.raw.stmt.RawStmt.TheOpen.{RawStmt-F, RawPlaced-F}
use Rattle.c_parse.specs.declared.raw.stmt.RawStmt.TheVariants.{rolls-Assign, rolls-If, rolls-For}
use Rattle.c_parse.specs.declared.raw.stmt.RawPlaced.{RawPlaced, fold-RawPlaced, fold-roll-RawPlaced}

abbrev pub joined : List (List ℕ) → List ℕ
joined [] = []
joined (x ∷ xs) = x ++ joined xs

abbrev expr_step : RawExpr-F (List ℕ) → List ℕ
expr_step (RawExpr-F.Number v w) = 0 ∷ []
expr_step (RawExpr-F.Name x) = 1 ∷ []
expr_step (RawExpr-F.Unary op a) = 2 ∷ a
expr_step (RawExpr-F.Binary op a b) = 3 ∷ (a ++ b)
expr_step (RawExpr-F.Call f args) = 4 ∷ joined args

pub expr_shape : RawExpr → List ℕ
expr_shape e = fold-RawExpr (List ℕ) expr_step e

pub number_shape : (n : ℤ) (w : Width) → expr_shape (Number n w) ≡ 0 ∷ []
unfolding expr_shape
number_shape n w = ap (fold-RawExpr (List ℕ) expr_step) (sym (rolls-Number n w)) ∙ fold-roll-RawExpr (List ℕ) expr_step (RawExpr-F.Number n w)

pub name_shape : (x : RawName) → expr_shape (Name x) ≡ 1 ∷ []
unfolding expr_shape
name_shape x = ap (fold-RawExpr (List ℕ) expr_step) (sym (rolls-Name x)) ∙ fold-roll-RawExpr (List ℕ) expr_step (RawExpr-F.Name x)

pub binary_shape : (op : BinOp) (a b : RawExpr) → expr_shape (Binary op a b) ≡ 3 ∷ (expr_shape a ++ expr_shape b)
unfolding expr_shape
binary_shape op a b = ap (fold-RawExpr (List ℕ) expr_step) (sym (rolls-Binary op a b)) ∙ fold-roll-RawExpr (List ℕ) expr_step (RawExpr-F.Binary op a b)

pub call_shape : (f : RawName) (args : List RawExpr) → expr_shape (Call f args) ≡ 4 ∷ joined (map expr_shape args)
unfolding expr_shape
call_shape f args = ap (fold-RawExpr (List ℕ) expr_step) (sym (rolls-Call f args)) ∙ fold-roll-RawExpr (List ℕ) expr_step (RawExpr-F.Call f args)

-- whether an `else` or a first part of a `for` is there, and what is assigned
abbrev stmt_step : RawStmt-F ℕ ℕ → ℕ
stmt_step (RawStmt-F.If e a None) = 1
stmt_step (RawStmt-F.If e a (Some b)) = 2
stmt_step (RawStmt-F.For [] i j p) = 1
stmt_step (RawStmt-F.For (q ∷ qs) i j p) = 2
stmt_step _ = 0

abbrev placed_step : RawPlaced-F ℕ ℕ → ℕ
placed_step p = p.stmt

pub parts : RawPlaced → ℕ
parts p = fold-RawPlaced ℕ ℕ stmt_step placed_step p

pub parts_of_if : (here : Place) (e : RawExpr) (a : RawPlaced) → parts (record { place = here; stmt = If e a None }) ≡ 1
unfolding parts
parts_of_if here e a = fold-roll-RawPlaced ℕ ℕ stmt_step placed_step (record { place = here; stmt = If e a None })
    ∙ ap (fold-RawStmt ℕ ℕ stmt_step placed_step) (sym (rolls-If e a None)) ∙ fold-roll-RawStmt ℕ ℕ stmt_step placed_step (RawStmt-F.If e a None)

pub parts_of_else : (here : Place) (e : RawExpr) (a b : RawPlaced) → parts (record { place = here; stmt = If e a (Some b) }) ≡ 2
unfolding parts
parts_of_else here e a b = fold-roll-RawPlaced ℕ ℕ stmt_step placed_step (record { place = here; stmt = If e a (Some b) })
    ∙ ap (fold-RawStmt ℕ ℕ stmt_step placed_step) (sym (rolls-If e a (Some b))) ∙ fold-roll-RawStmt ℕ ℕ stmt_step placed_step (RawStmt-F.If e a (Some b))

pub parts_without_first : (here : Place) (i : Option RawExpr) (j b : RawPlaced) → parts (record { place = here; stmt = For [] i (Some j) b }) ≡ 1
unfolding parts
parts_without_first here i j b = fold-roll-RawPlaced ℕ ℕ stmt_step placed_step (record { place = here; stmt = For [] i (Some j) b })
    ∙ ap (fold-RawStmt ℕ ℕ stmt_step placed_step) (sym (rolls-For [] i (Some j) b)) ∙ fold-roll-RawStmt ℕ ℕ stmt_step placed_step (RawStmt-F.For [] i (Some j) b)

pub parts_with_first : (here : Place) (q : RawPlaced) (qs : List RawPlaced) (i : Option RawExpr) (b : RawPlaced) → parts (record { place = here; stmt = For (q ∷ qs) i None b }) ≡ 2
unfolding parts
parts_with_first here q qs i b = fold-roll-RawPlaced ℕ ℕ stmt_step placed_step (record { place = here; stmt = For (q ∷ qs) i None b })
    ∙ ap (fold-RawStmt ℕ ℕ stmt_step placed_step) (sym (rolls-For (q ∷ qs) i None b)) ∙ fold-roll-RawStmt ℕ ℕ stmt_step placed_step (RawStmt-F.For (q ∷ qs) i None b)

-- the shape of what is assigned
abbrev value_step : RawStmt-F (List ℕ) (List ℕ) → List ℕ
value_step (RawStmt-F.Assign x e) = expr_shape e
value_step _ = []

abbrev placed_value : RawPlaced-F (List ℕ) (List ℕ) → List ℕ
placed_value p = p.stmt

pub assigned : RawPlaced → List ℕ
assigned p = fold-RawPlaced (List ℕ) (List ℕ) value_step placed_value p

pub assigned_value : (here : Place) (x : RawName) (e : RawExpr) → assigned (record { place = here; stmt = Assign x e }) ≡ expr_shape e
unfolding assigned
assigned_value here x e = fold-roll-RawPlaced (List ℕ) (List ℕ) value_step placed_value (record { place = here; stmt = Assign x e })
    ∙ ap (fold-RawStmt (List ℕ) (List ℕ) value_step placed_value) (sym (rolls-Assign x e)) ∙ fold-roll-RawStmt (List ℕ) (List ℕ) value_step placed_value (RawStmt-F.Assign x e)

-- the first of a list
abbrev pub first_parts : List RawPlaced → ℕ
first_parts [] = 0
first_parts (p ∷ ps) = parts p

abbrev pub first_assigned : List RawPlaced → List ℕ
first_assigned [] = []
first_assigned (p ∷ ps) = assigned p
