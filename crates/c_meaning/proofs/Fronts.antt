-- What unrolls in front, form by form.
use Rattle.std.proofs.Common.{◌≡◌, refl, sym, ap, ◌∙◌, ℕ, List, [], ◌∷◌, ◌++◌, map, Option}
use Rattle.gob_tree.specs.declared.place.Place.{Place}
use Rattle.gob_tree.specs.declared.expr.Expr.{Expr}
use Rattle.gob_tree.specs.declared.stmt.Target.{Target}
use Rattle.gob_tree.specs.declared.stmt.Stmt.{Stmt, Declare, DeclareThread, Assign, CallOnly, If, While, DoWhile, For, Block, Break, Continue, Return, Create, Join, Lock, Unlock, Assert, Empty, out-Stmt, roll-out-Stmt, map-Stmt, para-Stmt, para-roll-Stmt}
use Rattle.gob_tree.specs.declared.stmt.Stmt.TheOpen.{Stmt-F}
use Rattle.gob_tree.specs.declared.stmt.Stmt.TheVariants.{outs-Declare, outs-DeclareThread, outs-Assign, outs-CallOnly, outs-If, outs-While, outs-DoWhile, outs-For, outs-Block, outs-Break, outs-Continue, outs-Return, outs-Create, outs-Join, outs-Lock, outs-Unlock, outs-Assert, outs-Empty}
use Rattle.gob_tree.specs.declared.stmt.Placed.{Placed, para-roll-Placed}
use Rattle.c_meaning.specs.declared.config.Todo.{Todo}
use Rattle.c_meaning.specs.declared.config.Todo.TheVariants.{Stmt as Doing, Test}
use Rattle.c_meaning.specs.Tree.{statements, unroll_stmt, unroll_placed, with_front}

abbrev Unrolls : Type 0
Unrolls = List Todo → List Todo

-- a statement's parts, each with what it unrolls to
abbrev parted : Stmt-F Stmt Placed → Stmt-F (Stmt × (Placed → Unrolls)) (Placed × Unrolls)
parted = map-Stmt Stmt Placed (Stmt × (Placed → Unrolls)) (Placed × Unrolls) (λ s. (s, para-Stmt (Placed → Unrolls) Unrolls unroll_stmt unroll_placed s)) (λ p. (p, with_front p))

stmt_layer : (s : Stmt) → para-Stmt (Placed → Unrolls) Unrolls unroll_stmt unroll_placed s ≡ unroll_stmt (parted (out-Stmt s))
stmt_layer s = ap (para-Stmt (Placed → Unrolls) Unrolls unroll_stmt unroll_placed) (sym (roll-out-Stmt s)) ∙ para-roll-Stmt (Placed → Unrolls) Unrolls unroll_stmt unroll_placed (out-Stmt s)

pub front_layer : (place : Place) (s : Stmt) (l : Stmt-F Stmt Placed) (rest : List Todo) → out-Stmt s ≡ l → with_front (record { place = place; stmt = s }) rest ≡ unroll_stmt (parted l) (record { place = place; stmt = s }) rest
front_layer place s l rest e =
    ap (λ (f : Unrolls). f rest) (para-roll-Placed (Placed → Unrolls) Unrolls unroll_stmt unroll_placed (record { place = place; stmt = s }))
    ∙ ap (λ (f : Placed → Unrolls). f (record { place = place; stmt = s }) rest) (stmt_layer s ∙ ap (λ (l : Stmt-F Stmt Placed). unroll_stmt (parted l)) e)

pub front-Declare : (place : Place) (y : ℕ) (e : Option Expr) (rest : List Todo) → with_front (record { place = place; stmt = Declare y e }) rest ≡ Doing (record { place = place; stmt = Declare y e }) ∷ rest
front-Declare place y e rest = front_layer place (Declare y e) (Stmt-F.Declare y e) rest (outs-Declare y e)

pub front-DeclareThread : (place : Place) (y : ℕ) (rest : List Todo) → with_front (record { place = place; stmt = DeclareThread y }) rest ≡ Doing (record { place = place; stmt = DeclareThread y }) ∷ rest
front-DeclareThread place y rest = front_layer place (DeclareThread y) (Stmt-F.DeclareThread y) rest (outs-DeclareThread y)

pub front-Assign : (place : Place) (to : Target) (e : Expr) (rest : List Todo) → with_front (record { place = place; stmt = Assign to e }) rest ≡ Doing (record { place = place; stmt = Assign to e }) ∷ rest
front-Assign place to e rest = front_layer place (Assign to e) (Stmt-F.Assign to e) rest (outs-Assign to e)

pub front-CallOnly : (place : Place) (f : ℕ) (args : List Expr) (rest : List Todo) → with_front (record { place = place; stmt = CallOnly f args }) rest ≡ Doing (record { place = place; stmt = CallOnly f args }) ∷ rest
front-CallOnly place f args rest = front_layer place (CallOnly f args) (Stmt-F.CallOnly f args) rest (outs-CallOnly f args)

pub front-If : (place : Place) (e : Expr) (a : Placed) (b : Option Placed) (rest : List Todo) → with_front (record { place = place; stmt = If e a b }) rest ≡ Doing (record { place = place; stmt = If e a b }) ∷ rest
front-If place e a b rest = front_layer place (If e a b) (Stmt-F.If e a b) rest (outs-If e a b)

pub front-While : (place : Place) (e : Expr) (a : Placed) (rest : List Todo) → with_front (record { place = place; stmt = While e a }) rest ≡ Doing (record { place = place; stmt = While e a }) ∷ rest
front-While place e a rest = front_layer place (While e a) (Stmt-F.While e a) rest (outs-While e a)

pub front-DoWhile : (place : Place) (a : Placed) (e : Expr) (rest : List Todo) → with_front (record { place = place; stmt = DoWhile a e }) rest ≡ with_front a (Test (record { place = place; stmt = DoWhile a e }) ∷ rest)
front-DoWhile place a e rest = front_layer place (DoWhile a e) (Stmt-F.DoWhile a e) rest (outs-DoWhile a e)

pub front-Block_empty : (place : Place) (rest : List Todo) → with_front (record { place = place; stmt = Block [] }) rest ≡ Doing (record { place = place; stmt = Block [] }) ∷ rest
front-Block_empty place rest = front_layer place (Block []) (Stmt-F.Block []) rest (outs-Block [])

-- the statements of a list, whatever stands beside each
all_statements : (ss : List Placed) → map (λ (p : Placed × Unrolls). p.0) (map (λ p. (p, with_front p)) ss) ≡ ss
all_statements [] = refl
all_statements (s ∷ ss) = ap (λ l. s ∷ l) (all_statements ss)

pub front-Block : (place : Place) (s : Placed) (ss : List Placed) (rest : List Todo) → with_front (record { place = place; stmt = Block (s ∷ ss) }) rest ≡ with_front s (statements ss ++ rest)
front-Block place s ss rest = front_layer place (Block (s ∷ ss)) (Stmt-F.Block (s ∷ ss)) rest (outs-Block (s ∷ ss)) ∙ ap (λ l. with_front s (statements l ++ rest)) (all_statements ss)

pub front-Break : (place : Place) (rest : List Todo) → with_front (record { place = place; stmt = Break }) rest ≡ Doing (record { place = place; stmt = Break }) ∷ rest
front-Break place rest = front_layer place Break Stmt-F.Break rest outs-Break

pub front-Continue : (place : Place) (rest : List Todo) → with_front (record { place = place; stmt = Continue }) rest ≡ Doing (record { place = place; stmt = Continue }) ∷ rest
front-Continue place rest = front_layer place Continue Stmt-F.Continue rest outs-Continue

pub front-Return : (place : Place) (e : Option Expr) (rest : List Todo) → with_front (record { place = place; stmt = Return e }) rest ≡ Doing (record { place = place; stmt = Return e }) ∷ rest
front-Return place e rest = front_layer place (Return e) (Stmt-F.Return e) rest (outs-Return e)

pub front-Create : (place : Place) (y f : ℕ) (rest : List Todo) → with_front (record { place = place; stmt = Create y f }) rest ≡ Doing (record { place = place; stmt = Create y f }) ∷ rest
front-Create place y f rest = front_layer place (Create y f) (Stmt-F.Create y f) rest (outs-Create y f)

pub front-Join : (place : Place) (y : ℕ) (rest : List Todo) → with_front (record { place = place; stmt = Join y }) rest ≡ Doing (record { place = place; stmt = Join y }) ∷ rest
front-Join place y rest = front_layer place (Join y) (Stmt-F.Join y) rest (outs-Join y)

pub front-Lock : (place : Place) (m : ℕ) (rest : List Todo) → with_front (record { place = place; stmt = Lock m }) rest ≡ Doing (record { place = place; stmt = Lock m }) ∷ rest
front-Lock place m rest = front_layer place (Lock m) (Stmt-F.Lock m) rest (outs-Lock m)

pub front-Unlock : (place : Place) (m : ℕ) (rest : List Todo) → with_front (record { place = place; stmt = Unlock m }) rest ≡ Doing (record { place = place; stmt = Unlock m }) ∷ rest
front-Unlock place m rest = front_layer place (Unlock m) (Stmt-F.Unlock m) rest (outs-Unlock m)

pub front-Assert : (place : Place) (e : Expr) (rest : List Todo) → with_front (record { place = place; stmt = Assert e }) rest ≡ Doing (record { place = place; stmt = Assert e }) ∷ rest
front-Assert place e rest = front_layer place (Assert e) (Stmt-F.Assert e) rest (outs-Assert e)

pub front-Empty : (place : Place) (rest : List Todo) → with_front (record { place = place; stmt = Empty }) rest ≡ Doing (record { place = place; stmt = Empty }) ∷ rest
front-Empty place rest = front_layer place Empty Stmt-F.Empty rest outs-Empty

pub front-For_bare : (place : Place) (test : Option Expr) (last : Option Placed) (body : Placed) (rest : List Todo) → with_front (record { place = place; stmt = For [] test last body }) rest ≡ Test (record { place = place; stmt = For [] test last body }) ∷ rest
front-For_bare place test last body rest = front_layer place (For [] test last body) (Stmt-F.For [] test last body) rest (outs-For [] test last body)

pub front-For : (place : Place) (s : Placed) (ss : List Placed) (test : Option Expr) (last : Option Placed) (body : Placed) (rest : List Todo) → with_front (record { place = place; stmt = For (s ∷ ss) test last body }) rest ≡ with_front s (statements ss ++ Test (record { place = place; stmt = For (s ∷ ss) test last body }) ∷ rest)
front-For place s ss test last body rest = front_layer place (For (s ∷ ss) test last body) (Stmt-F.For (s ∷ ss) test last body) rest (outs-For (s ∷ ss) test last body) ∙ ap (λ l. with_front s (statements l ++ Test (record { place = place; stmt = For (s ∷ ss) test last body }) ∷ rest)) (all_statements ss)
