-- A fold over a statement, one level down.
use Rattle.std.proofs.Common.{◌≡◌, sym, ap, ◌∙◌, ℕ, List, map, Option, None, Some}
use Rattle.std.specs.Option.{option_map}
use Rattle.gob_tree.specs.declared.place.Place.{Place}
use Rattle.gob_tree.specs.declared.expr.Expr.{Expr}
use Rattle.gob_tree.specs.declared.stmt.Target.{Target}
use Rattle.gob_tree.specs.declared.stmt.Stmt.{Stmt, Declare, DeclareThread, Assign, CallOnly, If, While, DoWhile, For, Block, Break, Continue, Return, Create, Join, Lock, Unlock, Assert, Empty, fold-Stmt, fold-roll-Stmt}
use Rattle.gob_tree.specs.declared.stmt.Stmt.TheOpen.{Stmt-F, Placed-F}
use Rattle.gob_tree.specs.declared.stmt.Stmt.TheVariants.{rolls-Declare, rolls-DeclareThread, rolls-Assign, rolls-CallOnly, rolls-If, rolls-While, rolls-DoWhile, rolls-For, rolls-Block, rolls-Break, rolls-Continue, rolls-Return, rolls-Create, rolls-Join, rolls-Lock, rolls-Unlock, rolls-Assert, rolls-Empty}
use Rattle.gob_tree.specs.declared.stmt.Placed.{Placed, fold-Placed, fold-roll-Placed}

module _ (A B : Type 0) (step : Stmt-F A B → A) (step' : Placed-F A B → B) where
  pub fold-struct : (place : Place) (s : Stmt) → fold-Placed A B step step' (record { place = place; stmt = s }) ≡ step' (record { place = place; stmt = fold-Stmt A B step step' s })
  fold-struct place s = fold-roll-Placed A B step step' (record { place = place; stmt = s })

  pub fold-Declare : (y : ℕ) (e : Option Expr) → fold-Stmt A B step step' (Declare y e) ≡ step (Stmt-F.Declare y e)
  fold-Declare y e = ap (fold-Stmt A B step step') (sym (rolls-Declare y e)) ∙ fold-roll-Stmt A B step step' (Stmt-F.Declare y e)

  pub fold-DeclareThread : (y : ℕ) → fold-Stmt A B step step' (DeclareThread y) ≡ step (Stmt-F.DeclareThread y)
  fold-DeclareThread y = ap (fold-Stmt A B step step') (sym (rolls-DeclareThread y)) ∙ fold-roll-Stmt A B step step' (Stmt-F.DeclareThread y)

  pub fold-Assign : (to : Target) (e : Expr) → fold-Stmt A B step step' (Assign to e) ≡ step (Stmt-F.Assign to e)
  fold-Assign to e = ap (fold-Stmt A B step step') (sym (rolls-Assign to e)) ∙ fold-roll-Stmt A B step step' (Stmt-F.Assign to e)

  pub fold-CallOnly : (f : ℕ) (args : List Expr) → fold-Stmt A B step step' (CallOnly f args) ≡ step (Stmt-F.CallOnly f args)
  fold-CallOnly f args = ap (fold-Stmt A B step step') (sym (rolls-CallOnly f args)) ∙ fold-roll-Stmt A B step step' (Stmt-F.CallOnly f args)

  pub fold-If : (e : Expr) (a : Placed) (b : Option Placed) → fold-Stmt A B step step' (If e a b) ≡ step (Stmt-F.If e ((fold-Placed A B step step') a) (option_map (fold-Placed A B step step') b))
  fold-If e a None = ap (fold-Stmt A B step step') (sym (rolls-If e a None)) ∙ fold-roll-Stmt A B step step' (Stmt-F.If e a None)
  fold-If e a (Some b) = ap (fold-Stmt A B step step') (sym (rolls-If e a (Some b))) ∙ fold-roll-Stmt A B step step' (Stmt-F.If e a (Some b))

  pub fold-While : (e : Expr) (a : Placed) → fold-Stmt A B step step' (While e a) ≡ step (Stmt-F.While e ((fold-Placed A B step step') a))
  fold-While e a = ap (fold-Stmt A B step step') (sym (rolls-While e a)) ∙ fold-roll-Stmt A B step step' (Stmt-F.While e a)

  pub fold-DoWhile : (a : Placed) (e : Expr) → fold-Stmt A B step step' (DoWhile a e) ≡ step (Stmt-F.DoWhile ((fold-Placed A B step step') a) e)
  fold-DoWhile a e = ap (fold-Stmt A B step step') (sym (rolls-DoWhile a e)) ∙ fold-roll-Stmt A B step step' (Stmt-F.DoWhile a e)

  pub fold-For : (first : List Placed) (test : Option Expr) (last : Option Placed) (body : Placed) → fold-Stmt A B step step' (For first test last body) ≡ step (Stmt-F.For (map (fold-Placed A B step step') first) test (option_map (fold-Placed A B step step') last) ((fold-Placed A B step step') body))
  fold-For first test None body = ap (fold-Stmt A B step step') (sym (rolls-For first test None body)) ∙ fold-roll-Stmt A B step step' (Stmt-F.For first test None body)
  fold-For first test (Some last) body = ap (fold-Stmt A B step step') (sym (rolls-For first test (Some last) body)) ∙ fold-roll-Stmt A B step step' (Stmt-F.For first test (Some last) body)

  pub fold-Block : (all : List Placed) → fold-Stmt A B step step' (Block all) ≡ step (Stmt-F.Block (map (fold-Placed A B step step') all))
  fold-Block all = ap (fold-Stmt A B step step') (sym (rolls-Block all)) ∙ fold-roll-Stmt A B step step' (Stmt-F.Block all)

  pub fold-Break : fold-Stmt A B step step' Break ≡ step Stmt-F.Break
  fold-Break = ap (fold-Stmt A B step step') (sym (rolls-Break)) ∙ fold-roll-Stmt A B step step' Stmt-F.Break

  pub fold-Continue : fold-Stmt A B step step' Continue ≡ step Stmt-F.Continue
  fold-Continue = ap (fold-Stmt A B step step') (sym (rolls-Continue)) ∙ fold-roll-Stmt A B step step' Stmt-F.Continue

  pub fold-Return : (e : Option Expr) → fold-Stmt A B step step' (Return e) ≡ step (Stmt-F.Return e)
  fold-Return e = ap (fold-Stmt A B step step') (sym (rolls-Return e)) ∙ fold-roll-Stmt A B step step' (Stmt-F.Return e)

  pub fold-Create : (y f : ℕ) → fold-Stmt A B step step' (Create y f) ≡ step (Stmt-F.Create y f)
  fold-Create y f = ap (fold-Stmt A B step step') (sym (rolls-Create y f)) ∙ fold-roll-Stmt A B step step' (Stmt-F.Create y f)

  pub fold-Join : (y : ℕ) → fold-Stmt A B step step' (Join y) ≡ step (Stmt-F.Join y)
  fold-Join y = ap (fold-Stmt A B step step') (sym (rolls-Join y)) ∙ fold-roll-Stmt A B step step' (Stmt-F.Join y)

  pub fold-Lock : (m : ℕ) → fold-Stmt A B step step' (Lock m) ≡ step (Stmt-F.Lock m)
  fold-Lock m = ap (fold-Stmt A B step step') (sym (rolls-Lock m)) ∙ fold-roll-Stmt A B step step' (Stmt-F.Lock m)

  pub fold-Unlock : (m : ℕ) → fold-Stmt A B step step' (Unlock m) ≡ step (Stmt-F.Unlock m)
  fold-Unlock m = ap (fold-Stmt A B step step') (sym (rolls-Unlock m)) ∙ fold-roll-Stmt A B step step' (Stmt-F.Unlock m)

  pub fold-Assert : (e : Expr) → fold-Stmt A B step step' (Assert e) ≡ step (Stmt-F.Assert e)
  fold-Assert e = ap (fold-Stmt A B step step') (sym (rolls-Assert e)) ∙ fold-roll-Stmt A B step step' (Stmt-F.Assert e)

  pub fold-Empty : fold-Stmt A B step step' Empty ≡ step Stmt-F.Empty
  fold-Empty = ap (fold-Stmt A B step step') (sym (rolls-Empty)) ∙ fold-roll-Stmt A B step step' Stmt-F.Empty
