-- How each form of statement is lowered.
use Rattle.std.proofs.Common.{◌≡◌, ◌∙◌, ℕ, List, map, Option}
use Rattle.std.specs.Option.{option_map}
use Rattle.gob_tree.specs.declared.place.Place.{Place}
use Rattle.gob_tree.specs.declared.expr.Expr.{Expr}
use Rattle.gob_tree.specs.declared.stmt.Target.{Target}
use Rattle.gob_tree.specs.declared.stmt.Stmt.{Declare, DeclareThread, Assign, CallOnly, If, While, DoWhile, For, Block, Break, Continue, Return, Create, Join, Lock, Unlock, Assert, Empty}
use Rattle.gob_tree.specs.declared.stmt.Stmt.TheOpen.{Stmt-F}
use Rattle.gob_tree.specs.declared.stmt.Placed.{Placed}
use Rattle.c_meaning.specs.Graph.{Lowering, lowering_step, placed_step, lowering_of}
use Rattle.c_meaning.proofs.StmtFolds.{fold-struct, fold-Declare, fold-DeclareThread, fold-Assign, fold-CallOnly, fold-If, fold-While, fold-DoWhile, fold-For, fold-Block, fold-Break, fold-Continue, fold-Return, fold-Create, fold-Join, fold-Lock, fold-Unlock, fold-Assert, fold-Empty}

pub lowering-Declare : (place : Place) (y : ℕ) (e : Option Expr) → lowering_of (record { place = place; stmt = Declare y e }) ≡ lowering_step (Stmt-F.Declare y e) place
lowering-Declare place y e = fold-struct Place Lowering lowering_step placed_step place (Declare y e) ∙ fold-Declare Place Lowering lowering_step placed_step y e place

pub lowering-DeclareThread : (place : Place) (y : ℕ) → lowering_of (record { place = place; stmt = DeclareThread y }) ≡ lowering_step (Stmt-F.DeclareThread y) place
lowering-DeclareThread place y = fold-struct Place Lowering lowering_step placed_step place (DeclareThread y) ∙ fold-DeclareThread Place Lowering lowering_step placed_step y place

pub lowering-Assign : (place : Place) (to : Target) (e : Expr) → lowering_of (record { place = place; stmt = Assign to e }) ≡ lowering_step (Stmt-F.Assign to e) place
lowering-Assign place to e = fold-struct Place Lowering lowering_step placed_step place (Assign to e) ∙ fold-Assign Place Lowering lowering_step placed_step to e place

pub lowering-CallOnly : (place : Place) (f : ℕ) (args : List Expr) → lowering_of (record { place = place; stmt = CallOnly f args }) ≡ lowering_step (Stmt-F.CallOnly f args) place
lowering-CallOnly place f args = fold-struct Place Lowering lowering_step placed_step place (CallOnly f args) ∙ fold-CallOnly Place Lowering lowering_step placed_step f args place

pub lowering-If : (place : Place) (e : Expr) (a : Placed) (b : Option Placed) → lowering_of (record { place = place; stmt = If e a b }) ≡ lowering_step (Stmt-F.If e (lowering_of a) (option_map lowering_of b)) place
lowering-If place e a b = fold-struct Place Lowering lowering_step placed_step place (If e a b) ∙ fold-If Place Lowering lowering_step placed_step e a b place

pub lowering-While : (place : Place) (e : Expr) (a : Placed) → lowering_of (record { place = place; stmt = While e a }) ≡ lowering_step (Stmt-F.While e (lowering_of a)) place
lowering-While place e a = fold-struct Place Lowering lowering_step placed_step place (While e a) ∙ fold-While Place Lowering lowering_step placed_step e a place

pub lowering-DoWhile : (place : Place) (a : Placed) (e : Expr) → lowering_of (record { place = place; stmt = DoWhile a e }) ≡ lowering_step (Stmt-F.DoWhile (lowering_of a) e) place
lowering-DoWhile place a e = fold-struct Place Lowering lowering_step placed_step place (DoWhile a e) ∙ fold-DoWhile Place Lowering lowering_step placed_step a e place

pub lowering-For : (place : Place) (first : List Placed) (test : Option Expr) (last : Option Placed) (body : Placed) → lowering_of (record { place = place; stmt = For first test last body }) ≡ lowering_step (Stmt-F.For (map lowering_of first) test (option_map lowering_of last) (lowering_of body)) place
lowering-For place first test last body = fold-struct Place Lowering lowering_step placed_step place (For first test last body) ∙ fold-For Place Lowering lowering_step placed_step first test last body place

pub lowering-Block : (place : Place) (all : List Placed) → lowering_of (record { place = place; stmt = Block all }) ≡ lowering_step (Stmt-F.Block (map lowering_of all)) place
lowering-Block place all = fold-struct Place Lowering lowering_step placed_step place (Block all) ∙ fold-Block Place Lowering lowering_step placed_step all place

pub lowering-Break : (place : Place) → lowering_of (record { place = place; stmt = Break }) ≡ lowering_step Stmt-F.Break place
lowering-Break place = fold-struct Place Lowering lowering_step placed_step place Break ∙ fold-Break Place Lowering lowering_step placed_step place

pub lowering-Continue : (place : Place) → lowering_of (record { place = place; stmt = Continue }) ≡ lowering_step Stmt-F.Continue place
lowering-Continue place = fold-struct Place Lowering lowering_step placed_step place Continue ∙ fold-Continue Place Lowering lowering_step placed_step place

pub lowering-Return : (place : Place) (e : Option Expr) → lowering_of (record { place = place; stmt = Return e }) ≡ lowering_step (Stmt-F.Return e) place
lowering-Return place e = fold-struct Place Lowering lowering_step placed_step place (Return e) ∙ fold-Return Place Lowering lowering_step placed_step e place

pub lowering-Create : (place : Place) (y f : ℕ) → lowering_of (record { place = place; stmt = Create y f }) ≡ lowering_step (Stmt-F.Create y f) place
lowering-Create place y f = fold-struct Place Lowering lowering_step placed_step place (Create y f) ∙ fold-Create Place Lowering lowering_step placed_step y f place

pub lowering-Join : (place : Place) (y : ℕ) → lowering_of (record { place = place; stmt = Join y }) ≡ lowering_step (Stmt-F.Join y) place
lowering-Join place y = fold-struct Place Lowering lowering_step placed_step place (Join y) ∙ fold-Join Place Lowering lowering_step placed_step y place

pub lowering-Lock : (place : Place) (m : ℕ) → lowering_of (record { place = place; stmt = Lock m }) ≡ lowering_step (Stmt-F.Lock m) place
lowering-Lock place m = fold-struct Place Lowering lowering_step placed_step place (Lock m) ∙ fold-Lock Place Lowering lowering_step placed_step m place

pub lowering-Unlock : (place : Place) (m : ℕ) → lowering_of (record { place = place; stmt = Unlock m }) ≡ lowering_step (Stmt-F.Unlock m) place
lowering-Unlock place m = fold-struct Place Lowering lowering_step placed_step place (Unlock m) ∙ fold-Unlock Place Lowering lowering_step placed_step m place

pub lowering-Assert : (place : Place) (e : Expr) → lowering_of (record { place = place; stmt = Assert e }) ≡ lowering_step (Stmt-F.Assert e) place
lowering-Assert place e = fold-struct Place Lowering lowering_step placed_step place (Assert e) ∙ fold-Assert Place Lowering lowering_step placed_step e place

pub lowering-Empty : (place : Place) → lowering_of (record { place = place; stmt = Empty }) ≡ lowering_step Stmt-F.Empty place
lowering-Empty place = fold-struct Place Lowering lowering_step placed_step place Empty ∙ fold-Empty Place Lowering lowering_step placed_step place

pub ruleset lowerings = (lowering-Declare, lowering-DeclareThread, lowering-Assign, lowering-CallOnly, lowering-If, lowering-While, lowering-DoWhile, lowering-For, lowering-Block, lowering-Break, lowering-Continue, lowering-Return, lowering-Create, lowering-Join, lowering-Lock, lowering-Unlock, lowering-Assert, lowering-Empty)
