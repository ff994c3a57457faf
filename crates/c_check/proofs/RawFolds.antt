-- A fold over an expression or a statement as it is written, one level down.
use Rattle.std.proofs.Common.{◌≡◌, sym, ap, ◌∙◌, ℤ, List, map, Option, None, Some}
use Rattle.std.specs.Option.{option_map}
use Rattle.gob_tree.specs.declared.place.Place.{Place}
use Rattle.gob_tree.specs.declared.expr.Width.{Width}
use Rattle.gob_tree.specs.declared.expr.UnOp.{UnOp}
use Rattle.gob_tree.specs.declared.expr.BinOp.{BinOp}
use Rattle.c_parse.specs.declared.raw.expr.RawName.{RawName}
use Rattle.c_parse.specs.declared.raw.expr.RawExpr.{RawExpr, Number, Name, Unary, Binary, Call, fold-RawExpr, fold-roll-RawExpr}
use Rattle.c_parse.specs.declared.raw.expr.RawExpr.TheOpen.{RawExpr-F}
use Rattle.c_parse.specs.declared.raw.expr.RawExpr.TheVariants.{rolls-Number, rolls-Name, rolls-Unary, rolls-Binary, rolls-Call}
use Rattle.c_parse.specs.declared.raw.stmt.RawReturn.{RawReturn}
use Rattle.c_parse.specs.declared.raw.stmt.RawStmt.{RawStmt, Declare, DeclareThread, Assign, CallOnly, If, While, DoWhile, For, Block, Break, Continue, Return, Create, Join, Lock, Unlock, Assert, Empty, fold-RawStmt, fold-roll-RawStmt}
use Rattle.c_parse.specs.declared.raw.stmt.RawStmt.TheOpen.{RawStmt-F, RawPlaced-F}
use Rattle.c_parse.specs.declared.raw.stmt.RawStmt.TheVariants.{rolls-Declare, rolls-DeclareThread, rolls-Assign, rolls-CallOnly, rolls-If, rolls-While, rolls-DoWhile, rolls-For, rolls-Block, rolls-Break, rolls-Continue, rolls-Return, rolls-Create, rolls-Join, rolls-Lock, rolls-Unlock, rolls-Assert, rolls-Empty}
use Rattle.c_parse.specs.declared.raw.stmt.RawPlaced.{RawPlaced, fold-RawPlaced, fold-roll-RawPlaced}

module _ (A : Type 0) (step : RawExpr-F A → A) where
  pub fold-Number : (n : ℤ) (w : Width) → fold-RawExpr A step (Number n w) ≡ step (RawExpr-F.Number n w)
  fold-Number n w = ap (fold-RawExpr A step) (sym (rolls-Number n w)) ∙ fold-roll-RawExpr A step (RawExpr-F.Number n w)

  pub fold-Name : (x : RawName) → fold-RawExpr A step (Name x) ≡ step (RawExpr-F.Name x)
  fold-Name x = ap (fold-RawExpr A step) (sym (rolls-Name x)) ∙ fold-roll-RawExpr A step (RawExpr-F.Name x)

  pub fold-Unary : (op : UnOp) (a : RawExpr) → fold-RawExpr A step (Unary op a) ≡ step (RawExpr-F.Unary op (fold-RawExpr A step a))
  fold-Unary op a = ap (fold-RawExpr A step) (sym (rolls-Unary op a)) ∙ fold-roll-RawExpr A step (RawExpr-F.Unary op a)

  pub fold-Binary : (op : BinOp) (a b : RawExpr) → fold-RawExpr A step (Binary op a b) ≡ step (RawExpr-F.Binary op (fold-RawExpr A step a) (fold-RawExpr A step b))
  fold-Binary op a b = ap (fold-RawExpr A step) (sym (rolls-Binary op a b)) ∙ fold-roll-RawExpr A step (RawExpr-F.Binary op a b)

  pub fold-Call : (f : RawName) (args : List RawExpr) → fold-RawExpr A step (Call f args) ≡ step (RawExpr-F.Call f (map (fold-RawExpr A step) args))
  fold-Call f args = ap (fold-RawExpr A step) (sym (rolls-Call f args)) ∙ fold-roll-RawExpr A step (RawExpr-F.Call f args)

module _ (A B : Type 0) (step : RawStmt-F A B → A) (step' : RawPlaced-F A B → B) where
  pub fold-struct : (place : Place) (s : RawStmt) → fold-RawPlaced A B step step' (record { place = place; stmt = s }) ≡ step' (record { place = place; stmt = fold-RawStmt A B step step' s })
  fold-struct place s = fold-roll-RawPlaced A B step step' (record { place = place; stmt = s })

  pub fold-Declare : (w : Width) (x : RawName) (e : Option RawExpr) → fold-RawStmt A B step step' (Declare w x e) ≡ step (RawStmt-F.Declare w x e)
  fold-Declare w x e = ap (fold-RawStmt A B step step') (sym (rolls-Declare w x e)) ∙ fold-roll-RawStmt A B step step' (RawStmt-F.Declare w x e)

  pub fold-DeclareThread : (x : RawName) → fold-RawStmt A B step step' (DeclareThread x) ≡ step (RawStmt-F.DeclareThread x)
  fold-DeclareThread x = ap (fold-RawStmt A B step step') (sym (rolls-DeclareThread x)) ∙ fold-roll-RawStmt A B step step' (RawStmt-F.DeclareThread x)

  pub fold-Assign : (x : RawName) (e : RawExpr) → fold-RawStmt A B step step' (Assign x e) ≡ step (RawStmt-F.Assign x e)
  fold-Assign x e = ap (fold-RawStmt A B step step') (sym (rolls-Assign x e)) ∙ fold-roll-RawStmt A B step step' (RawStmt-F.Assign x e)

  pub fold-CallOnly : (f : RawName) (args : List RawExpr) → fold-RawStmt A B step step' (CallOnly f args) ≡ step (RawStmt-F.CallOnly f args)
  fold-CallOnly f args = ap (fold-RawStmt A B step step') (sym (rolls-CallOnly f args)) ∙ fold-roll-RawStmt A B step step' (RawStmt-F.CallOnly f args)

  pub fold-If : (e : RawExpr) (a : RawPlaced) (b : Option RawPlaced) → fold-RawStmt A B step step' (If e a b) ≡ step (RawStmt-F.If e (fold-RawPlaced A B step step' a) (option_map (fold-RawPlaced A B step step') b))
  fold-If e a None = ap (fold-RawStmt A B step step') (sym (rolls-If e a None)) ∙ fold-roll-RawStmt A B step step' (RawStmt-F.If e a None)
  fold-If e a (Some b) = ap (fold-RawStmt A B step step') (sym (rolls-If e a (Some b))) ∙ fold-roll-RawStmt A B step step' (RawStmt-F.If e a (Some b))

  pub fold-While : (e : RawExpr) (a : RawPlaced) → fold-RawStmt A B step step' (While e a) ≡ step (RawStmt-F.While e (fold-RawPlaced A B step step' a))
  fold-While e a = ap (fold-RawStmt A B step step') (sym (rolls-While e a)) ∙ fold-roll-RawStmt A B step step' (RawStmt-F.While e a)

  pub fold-DoWhile : (a : RawPlaced) (e : RawExpr) → fold-RawStmt A B step step' (DoWhile a e) ≡ step (RawStmt-F.DoWhile (fold-RawPlaced A B step step' a) e)
  fold-DoWhile a e = ap (fold-RawStmt A B step step') (sym (rolls-DoWhile a e)) ∙ fold-roll-RawStmt A B step step' (RawStmt-F.DoWhile a e)

  pub fold-For : (first : List RawPlaced) (test : Option RawExpr) (last : Option RawPlaced) (body : RawPlaced) → fold-RawStmt A B step step' (For first test last body) ≡ step (RawStmt-F.For (map (fold-RawPlaced A B step step') first) test (option_map (fold-RawPlaced A B step step') last) (fold-RawPlaced A B step step' body))
  fold-For first test None body = ap (fold-RawStmt A B step step') (sym (rolls-For first test None body)) ∙ fold-roll-RawStmt A B step step' (RawStmt-F.For first test None body)
  fold-For first test (Some last) body = ap (fold-RawStmt A B step step') (sym (rolls-For first test (Some last) body)) ∙ fold-roll-RawStmt A B step step' (RawStmt-F.For first test (Some last) body)

  pub fold-Block : (all : List RawPlaced) → fold-RawStmt A B step step' (Block all) ≡ step (RawStmt-F.Block (map (fold-RawPlaced A B step step') all))
  fold-Block all = ap (fold-RawStmt A B step step') (sym (rolls-Block all)) ∙ fold-roll-RawStmt A B step step' (RawStmt-F.Block all)

  pub fold-Break : fold-RawStmt A B step step' Break ≡ step RawStmt-F.Break
  fold-Break = ap (fold-RawStmt A B step step') (sym rolls-Break) ∙ fold-roll-RawStmt A B step step' RawStmt-F.Break

  pub fold-Continue : fold-RawStmt A B step step' Continue ≡ step RawStmt-F.Continue
  fold-Continue = ap (fold-RawStmt A B step step') (sym rolls-Continue) ∙ fold-roll-RawStmt A B step step' RawStmt-F.Continue

  pub fold-Return : (r : RawReturn) → fold-RawStmt A B step step' (Return r) ≡ step (RawStmt-F.Return r)
  fold-Return r = ap (fold-RawStmt A B step step') (sym (rolls-Return r)) ∙ fold-roll-RawStmt A B step step' (RawStmt-F.Return r)

  pub fold-Create : (t f : RawName) → fold-RawStmt A B step step' (Create t f) ≡ step (RawStmt-F.Create t f)
  fold-Create t f = ap (fold-RawStmt A B step step') (sym (rolls-Create t f)) ∙ fold-roll-RawStmt A B step step' (RawStmt-F.Create t f)

  pub fold-Join : (t : RawName) → fold-RawStmt A B step step' (Join t) ≡ step (RawStmt-F.Join t)
  fold-Join t = ap (fold-RawStmt A B step step') (sym (rolls-Join t)) ∙ fold-roll-RawStmt A B step step' (RawStmt-F.Join t)

  pub fold-Lock : (m : RawName) → fold-RawStmt A B step step' (Lock m) ≡ step (RawStmt-F.Lock m)
  fold-Lock m = ap (fold-RawStmt A B step step') (sym (rolls-Lock m)) ∙ fold-roll-RawStmt A B step step' (RawStmt-F.Lock m)

  pub fold-Unlock : (m : RawName) → fold-RawStmt A B step step' (Unlock m) ≡ step (RawStmt-F.Unlock m)
  fold-Unlock m = ap (fold-RawStmt A B step step') (sym (rolls-Unlock m)) ∙ fold-roll-RawStmt A B step step' (RawStmt-F.Unlock m)

  pub fold-Assert : (e : RawExpr) → fold-RawStmt A B step step' (Assert e) ≡ step (RawStmt-F.Assert e)
  fold-Assert e = ap (fold-RawStmt A B step step') (sym (rolls-Assert e)) ∙ fold-roll-RawStmt A B step step' (RawStmt-F.Assert e)

  pub fold-Empty : fold-RawStmt A B step step' Empty ≡ step RawStmt-F.Empty
  fold-Empty = ap (fold-RawStmt A B step step') (sym rolls-Empty) ∙ fold-roll-RawStmt A B step step' RawStmt-F.Empty
