-- A fold of a statement into functions, one level down and applied.
use Rattle.std.proofs.Common.{◌≡◌, ap, ℕ, List, map, Option, None, Some}
use Rattle.std.specs.Option.{option_map}
use Rattle.gob_tree.proofs.StmtFolds as general
use Rattle.gob_tree.specs.declared.place.Place.{Place}
use Rattle.gob_tree.specs.declared.expr.Expr.{Expr}
use Rattle.gob_tree.specs.declared.stmt.Target.{Target}
use Rattle.gob_tree.specs.declared.stmt.Stmt.{Stmt, Declare, DeclareThread, Assign, CallOnly, If, While, DoWhile, For, Block, Break, Continue, Return, Create, Join, Lock, Unlock, Assert, Empty, fold-Stmt}
use Rattle.gob_tree.specs.declared.stmt.Stmt.TheOpen.{Stmt-F, Placed-F}
use Rattle.gob_tree.specs.declared.stmt.Placed.{Placed, fold-Placed}

module _ (X B : Type 0) (step : Stmt-F (X → B) B → X → B) (step' : Placed-F (X → B) B → B) where
  pub fold-struct : (place : Place) (s : Stmt) → fold-Placed (X → B) B step step' (record { place = place; stmt = s }) ≡ step' (record { place = place; stmt = fold-Stmt (X → B) B step step' s })
  fold-struct place s = general.fold-struct (X → B) B step step' place s

  pub fold-Declare : (y : ℕ) (e : Option Expr) (x : X) → fold-Stmt (X → B) B step step' (Declare y e) x ≡ step (Stmt-F.Declare y e) x
  fold-Declare y e x = ap (λ (f : X → B). f x) (general.fold-Declare (X → B) B step step' y e)

  pub fold-DeclareThread : (y : ℕ) (x : X) → fold-Stmt (X → B) B step step' (DeclareThread y) x ≡ step (Stmt-F.DeclareThread y) x
  fold-DeclareThread y x = ap (λ (f : X → B). f x) (general.fold-DeclareThread (X → B) B step step' y)

  pub fold-Assign : (to : Target) (e : Expr) (x : X) → fold-Stmt (X → B) B step step' (Assign to e) x ≡ step (Stmt-F.Assign to e) x
  fold-Assign to e x = ap (λ (f : X → B). f x) (general.fold-Assign (X → B) B step step' to e)

  pub fold-CallOnly : (f : ℕ) (args : List Expr) (x : X) → fold-Stmt (X → B) B step step' (CallOnly f args) x ≡ step (Stmt-F.CallOnly f args) x
  fold-CallOnly f args x = ap (λ (f : X → B). f x) (general.fold-CallOnly (X → B) B step step' f args)

  pub fold-If : (e : Expr) (a : Placed) (b : Option Placed) (x : X) → fold-Stmt (X → B) B step step' (If e a b) x ≡ step (Stmt-F.If e ((fold-Placed (X → B) B step step') a) (option_map (fold-Placed (X → B) B step step') b)) x
  fold-If e a None x = ap (λ (f : X → B). f x) (general.fold-If (X → B) B step step' e a None)
  fold-If e a (Some b) x = ap (λ (f : X → B). f x) (general.fold-If (X → B) B step step' e a (Some b))

  pub fold-While : (e : Expr) (a : Placed) (x : X) → fold-Stmt (X → B) B step step' (While e a) x ≡ step (Stmt-F.While e ((fold-Placed (X → B) B step step') a)) x
  fold-While e a x = ap (λ (f : X → B). f x) (general.fold-While (X → B) B step step' e a)

  pub fold-DoWhile : (a : Placed) (e : Expr) (x : X) → fold-Stmt (X → B) B step step' (DoWhile a e) x ≡ step (Stmt-F.DoWhile ((fold-Placed (X → B) B step step') a) e) x
  fold-DoWhile a e x = ap (λ (f : X → B). f x) (general.fold-DoWhile (X → B) B step step' a e)

  pub fold-For : (first : List Placed) (test : Option Expr) (last : Option Placed) (body : Placed) (x : X) → fold-Stmt (X → B) B step step' (For first test last body) x ≡ step (Stmt-F.For (map (fold-Placed (X → B) B step step') first) test (option_map (fold-Placed (X → B) B step step') last) ((fold-Placed (X → B) B step step') body)) x
  fold-For first test None body x = ap (λ (f : X → B). f x) (general.fold-For (X → B) B step step' first test None body)
  fold-For first test (Some last) body x = ap (λ (f : X → B). f x) (general.fold-For (X → B) B step step' first test (Some last) body)

  pub fold-Block : (all : List Placed) (x : X) → fold-Stmt (X → B) B step step' (Block all) x ≡ step (Stmt-F.Block (map (fold-Placed (X → B) B step step') all)) x
  fold-Block all x = ap (λ (f : X → B). f x) (general.fold-Block (X → B) B step step' all)

  pub fold-Break : (x : X) → fold-Stmt (X → B) B step step' Break x ≡ step Stmt-F.Break x
  fold-Break x = ap (λ (f : X → B). f x) (general.fold-Break (X → B) B step step')

  pub fold-Continue : (x : X) → fold-Stmt (X → B) B step step' Continue x ≡ step Stmt-F.Continue x
  fold-Continue x = ap (λ (f : X → B). f x) (general.fold-Continue (X → B) B step step')

  pub fold-Return : (e : Option Expr) (x : X) → fold-Stmt (X → B) B step step' (Return e) x ≡ step (Stmt-F.Return e) x
  fold-Return e x = ap (λ (f : X → B). f x) (general.fold-Return (X → B) B step step' e)

  pub fold-Create : (y f : ℕ) (x : X) → fold-Stmt (X → B) B step step' (Create y f) x ≡ step (Stmt-F.Create y f) x
  fold-Create y f x = ap (λ (f : X → B). f x) (general.fold-Create (X → B) B step step' y f)

  pub fold-Join : (y : ℕ) (x : X) → fold-Stmt (X → B) B step step' (Join y) x ≡ step (Stmt-F.Join y) x
  fold-Join y x = ap (λ (f : X → B). f x) (general.fold-Join (X → B) B step step' y)

  pub fold-Lock : (m : ℕ) (x : X) → fold-Stmt (X → B) B step step' (Lock m) x ≡ step (Stmt-F.Lock m) x
  fold-Lock m x = ap (λ (f : X → B). f x) (general.fold-Lock (X → B) B step step' m)

  pub fold-Unlock : (m : ℕ) (x : X) → fold-Stmt (X → B) B step step' (Unlock m) x ≡ step (Stmt-F.Unlock m) x
  fold-Unlock m x = ap (λ (f : X → B). f x) (general.fold-Unlock (X → B) B step step' m)

  pub fold-Assert : (e : Expr) (x : X) → fold-Stmt (X → B) B step step' (Assert e) x ≡ step (Stmt-F.Assert e) x
  fold-Assert e x = ap (λ (f : X → B). f x) (general.fold-Assert (X → B) B step step' e)

  pub fold-Empty : (x : X) → fold-Stmt (X → B) B step step' Empty x ≡ step Stmt-F.Empty x
  fold-Empty x = ap (λ (f : X → B). f x) (general.fold-Empty (X → B) B step step')
