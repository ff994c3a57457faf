-- A fold of a statement as it is written into functions, one level down and applied.
use Rattle.std.proofs.Common.{◌≡◌, ap, List, map, Option}
use Rattle.std.specs.Option.{option_map}
use Rattle.gob_tree.specs.declared.place.Place.{Place}
use Rattle.gob_tree.specs.declared.expr.Width.{Width}
use Rattle.c_parse.specs.declared.raw.expr.RawName.{RawName}
use Rattle.c_parse.specs.declared.raw.expr.RawExpr.{RawExpr}
use Rattle.c_parse.specs.declared.raw.stmt.RawReturn.{RawReturn}
use Rattle.c_parse.specs.declared.raw.stmt.RawStmt.{RawStmt, Declare, DeclareThread, Assign, CallOnly, If, While, DoWhile, For, Block, Break, Continue, Return, Create, Join, Lock, Unlock, Assert, Empty, fold-RawStmt}
use Rattle.c_parse.specs.declared.raw.stmt.RawStmt.TheOpen.{RawStmt-F, RawPlaced-F}
use Rattle.c_parse.specs.declared.raw.stmt.RawPlaced.{RawPlaced, fold-RawPlaced}
use Rattle.c_check.proofs.RawFolds as general
use Rattle.c_check.proofs.RawFolds.{fold-Number, fold-Name, fold-Unary, fold-Binary, fold-Call}

module _ (X B : Type 0) (step : RawStmt-F (X → B) B → X → B) (step' : RawPlaced-F (X → B) B → B) where
  pub fold-struct : (place : Place) (s : RawStmt) → fold-RawPlaced (X → B) B step step' (record { place = place; stmt = s }) ≡ step' (record { place = place; stmt = fold-RawStmt (X → B) B step step' s })
  fold-struct place s = general.fold-struct (X → B) B step step' place s

  pub fold-Declare : (w : Width) (x : RawName) (e : Option RawExpr) (y : X) → fold-RawStmt (X → B) B step step' (Declare w x e) y ≡ step (RawStmt-F.Declare w x e) y
  fold-Declare w x e y = ap (λ (h : X → B). h y) (general.fold-Declare (X → B) B step step' w x e)

  pub fold-DeclareThread : (x : RawName) (y : X) → fold-RawStmt (X → B) B step step' (DeclareThread x) y ≡ step (RawStmt-F.DeclareThread x) y
  fold-DeclareThread x y = ap (λ (h : X → B). h y) (general.fold-DeclareThread (X → B) B step step' x)

  pub fold-Assign : (x : RawName) (e : RawExpr) (y : X) → fold-RawStmt (X → B) B step step' (Assign x e) y ≡ step (RawStmt-F.Assign x e) y
  fold-Assign x e y = ap (λ (h : X → B). h y) (general.fold-Assign (X → B) B step step' x e)

  pub fold-CallOnly : (f : RawName) (args : List RawExpr) (y : X) → fold-RawStmt (X → B) B step step' (CallOnly f args) y ≡ step (RawStmt-F.CallOnly f args) y
  fold-CallOnly f args y = ap (λ (h : X → B). h y) (general.fold-CallOnly (X → B) B step step' f args)

  pub fold-If : (e : RawExpr) (a : RawPlaced) (b : Option RawPlaced) (y : X) → fold-RawStmt (X → B) B step step' (If e a b) y ≡ step (RawStmt-F.If e (fold-RawPlaced (X → B) B step step' a) (option_map (fold-RawPlaced (X → B) B step step') b)) y
  fold-If e a b y = ap (λ (h : X → B). h y) (general.fold-If (X → B) B step step' e a b)

  pub fold-While : (e : RawExpr) (a : RawPlaced) (y : X) → fold-RawStmt (X → B) B step step' (While e a) y ≡ step (RawStmt-F.While e (fold-RawPlaced (X → B) B step step' a)) y
  fold-While e a y = ap (λ (h : X → B). h y) (general.fold-While (X → B) B step step' e a)

  pub fold-DoWhile : (a : RawPlaced) (e : RawExpr) (y : X) → fold-RawStmt (X → B) B step step' (DoWhile a e) y ≡ step (RawStmt-F.DoWhile (fold-RawPlaced (X → B) B step step' a) e) y
  fold-DoWhile a e y = ap (λ (h : X → B). h y) (general.fold-DoWhile (X → B) B step step' a e)

  pub fold-For : (first : List RawPlaced) (test : Option RawExpr) (last : Option RawPlaced) (body : RawPlaced) (y : X) → fold-RawStmt (X → B) B step step' (For first test last body) y ≡ step (RawStmt-F.For (map (fold-RawPlaced (X → B) B step step') first) test (option_map (fold-RawPlaced (X → B) B step step') last) (fold-RawPlaced (X → B) B step step' body)) y
  fold-For first test last body y = ap (λ (h : X → B). h y) (general.fold-For (X → B) B step step' first test last body)

  pub fold-Block : (all : List RawPlaced) (y : X) → fold-RawStmt (X → B) B step step' (Block all) y ≡ step (RawStmt-F.Block (map (fold-RawPlaced (X → B) B step step') all)) y
  fold-Block all y = ap (λ (h : X → B). h y) (general.fold-Block (X → B) B step step' all)

  pub fold-Break : (y : X) → fold-RawStmt (X → B) B step step' Break y ≡ step RawStmt-F.Break y
  fold-Break y = ap (λ (h : X → B). h y) (general.fold-Break (X → B) B step step')

  pub fold-Continue : (y : X) → fold-RawStmt (X → B) B step step' Continue y ≡ step RawStmt-F.Continue y
  fold-Continue y = ap (λ (h : X → B). h y) (general.fold-Continue (X → B) B step step')

  pub fold-Return : (r : RawReturn) (y : X) → fold-RawStmt (X → B) B step step' (Return r) y ≡ step (RawStmt-F.Return r) y
  fold-Return r y = ap (λ (h : X → B). h y) (general.fold-Return (X → B) B step step' r)

  pub fold-Create : (t f : RawName) (y : X) → fold-RawStmt (X → B) B step step' (Create t f) y ≡ step (RawStmt-F.Create t f) y
  fold-Create t f y = ap (λ (h : X → B). h y) (general.fold-Create (X → B) B step step' t f)

  pub fold-Join : (t : RawName) (y : X) → fold-RawStmt (X → B) B step step' (Join t) y ≡ step (RawStmt-F.Join t) y
  fold-Join t y = ap (λ (h : X → B). h y) (general.fold-Join (X → B) B step step' t)

  pub fold-Lock : (m : RawName) (y : X) → fold-RawStmt (X → B) B step step' (Lock m) y ≡ step (RawStmt-F.Lock m) y
  fold-Lock m y = ap (λ (h : X → B). h y) (general.fold-Lock (X → B) B step step' m)

  pub fold-Unlock : (m : RawName) (y : X) → fold-RawStmt (X → B) B step step' (Unlock m) y ≡ step (RawStmt-F.Unlock m) y
  fold-Unlock m y = ap (λ (h : X → B). h y) (general.fold-Unlock (X → B) B step step' m)

  pub fold-Assert : (e : RawExpr) (y : X) → fold-RawStmt (X → B) B step step' (Assert e) y ≡ step (RawStmt-F.Assert e) y
  fold-Assert e y = ap (λ (h : X → B). h y) (general.fold-Assert (X → B) B step step' e)

  pub fold-Empty : (y : X) → fold-RawStmt (X → B) B step step' Empty y ≡ step RawStmt-F.Empty y
  fold-Empty y = ap (λ (h : X → B). h y) (general.fold-Empty (X → B) B step step')

-- for `simp`: an expression or a statement one level down
pub ruleset levels = (fold-Number, fold-Name, fold-Unary, fold-Binary, fold-Call, fold-struct, fold-Declare, fold-DeclareThread, fold-Assign, fold-CallOnly, fold-If, fold-While, fold-DoWhile, fold-For, fold-Block, fold-Break, fold-Continue, fold-Return, fold-Create, fold-Join, fold-Lock, fold-Unlock, fold-Assert, fold-Empty)
