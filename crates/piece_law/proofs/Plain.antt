-- What stands in front of a list to do that has been unrolled doesn't unroll.
use Rattle.std.proofs.Common.{◌≡◌, ◌∙◌, refl, sym, ap, subst, true, List, [], ◌∷◌, ◌++◌, map, None, Some}
use Rattle.gob_tree.specs.declared.place.Place.{Place}
use Rattle.gob_tree.specs.declared.stmt.Stmt.{Stmt, Declare, DeclareThread, Assign, CallOnly, If, While, DoWhile, For, Block, Break, Continue, Return, Create, Join, Lock, Unlock, Assert, Empty, map-Stmt, out-Stmt, roll-Stmt}
use Rattle.gob_tree.specs.declared.stmt.Stmt.TheOpen.{Stmt-F, Placed-F}
use Rattle.gob_tree.specs.declared.stmt.Stmt.TheVariants.{outs-Declare, outs-DeclareThread, outs-Assign, outs-CallOnly, outs-If, outs-While, outs-Block, outs-Break, outs-Continue, outs-Return, outs-Create, outs-Join, outs-Lock, outs-Unlock, outs-Assert, outs-Empty, rolls-Declare, rolls-DeclareThread, rolls-Assign, rolls-CallOnly, rolls-If, rolls-While, rolls-DoWhile, rolls-For, rolls-Block, rolls-Break, rolls-Continue, rolls-Return, rolls-Create, rolls-Join, rolls-Lock, rolls-Unlock, rolls-Assert, rolls-Empty}
use Rattle.gob_tree.specs.declared.stmt.Placed.{Placed, ind-Placed, map-Placed, roll-Placed}
use Rattle.c_meaning.specs.declared.config.Todo.{Todo}
use Rattle.c_meaning.specs.declared.config.Todo.TheVariants.{Stmt as Doing, Test, Last}
use Rattle.c_meaning.specs.Tree.{statements, with_front}
use Rattle.c_meaning.proofs.Fronts.{front-Declare, front-DeclareThread, front-Assign, front-CallOnly, front-If, front-While, front-DoWhile, front-For, front-For_bare, front-Block, front-Block_empty, front-Break, front-Continue, front-Return, front-Create, front-Join, front-Lock, front-Unlock, front-Assert, front-Empty}
use Rattle.graph_law.specs.Lying.{at}
use Rattle.piece_law.specs.Pieces.{FrontStays, UnrolledFrontsStay, stays_step}

abbrev StmtStays : Stmt → Type 0
StmtStays s = (place : Place) (rest : List Todo) → FrontStays (with_front (at place s) rest)

abbrev PlacedStays : Placed → Type 0
PlacedStays p = (rest : List Todo) → FrontStays (with_front p rest)

abbrev StayingStmt : Type 0
StayingStmt = (s : Stmt) × StmtStays s

abbrev StayingPlaced : Type 0
StayingPlaced = (p : Placed) × PlacedStays p

simple : (s : Stmt) (l : Stmt-F Stmt Placed) → out-Stmt s ≡ l → stays_step l ≡ true → ((place : Place) (rest : List Todo) → with_front (at place s) rest ≡ Doing (at place s) ∷ rest) → StmtStays s
simple s l is stays front place rest = subst FrontStays (sym (front place rest)) (ap stays_step is ∙ stays)

layer : (y : Stmt-F StayingStmt StayingPlaced) → StmtStays (roll-Stmt (map-Stmt StayingStmt StayingPlaced Stmt Placed (λ s. s.0) (λ p. p.0) y))
layer (Stmt-F.Declare x e) = subst StmtStays (sym (rolls-Declare x e)) (simple (Declare x e) (Stmt-F.Declare x e) (outs-Declare x e) refl (λ place rest. front-Declare place x e rest))
layer (Stmt-F.DeclareThread x) = subst StmtStays (sym (rolls-DeclareThread x)) (simple (DeclareThread x) (Stmt-F.DeclareThread x) (outs-DeclareThread x) refl (λ place rest. front-DeclareThread place x rest))
layer (Stmt-F.Assign to e) = subst StmtStays (sym (rolls-Assign to e)) (simple (Assign to e) (Stmt-F.Assign to e) (outs-Assign to e) refl (λ place rest. front-Assign place to e rest))
layer (Stmt-F.CallOnly g args) = subst StmtStays (sym (rolls-CallOnly g args)) (simple (CallOnly g args) (Stmt-F.CallOnly g args) (outs-CallOnly g args) refl (λ place rest. front-CallOnly place g args rest))
layer Stmt-F.Break = subst StmtStays (sym rolls-Break) (simple Break Stmt-F.Break outs-Break refl (λ place rest. front-Break place rest))
layer Stmt-F.Continue = subst StmtStays (sym rolls-Continue) (simple Continue Stmt-F.Continue outs-Continue refl (λ place rest. front-Continue place rest))
layer (Stmt-F.Return e) = subst StmtStays (sym (rolls-Return e)) (simple (Return e) (Stmt-F.Return e) (outs-Return e) refl (λ place rest. front-Return place e rest))
layer (Stmt-F.Create x g) = subst StmtStays (sym (rolls-Create x g)) (simple (Create x g) (Stmt-F.Create x g) (outs-Create x g) refl (λ place rest. front-Create place x g rest))
layer (Stmt-F.Join x) = subst StmtStays (sym (rolls-Join x)) (simple (Join x) (Stmt-F.Join x) (outs-Join x) refl (λ place rest. front-Join place x rest))
layer (Stmt-F.Lock x) = subst StmtStays (sym (rolls-Lock x)) (simple (Lock x) (Stmt-F.Lock x) (outs-Lock x) refl (λ place rest. front-Lock place x rest))
layer (Stmt-F.Unlock x) = subst StmtStays (sym (rolls-Unlock x)) (simple (Unlock x) (Stmt-F.Unlock x) (outs-Unlock x) refl (λ place rest. front-Unlock place x rest))
layer (Stmt-F.Assert e) = subst StmtStays (sym (rolls-Assert e)) (simple (Assert e) (Stmt-F.Assert e) (outs-Assert e) refl (λ place rest. front-Assert place e rest))
layer Stmt-F.Empty = subst StmtStays (sym rolls-Empty) (simple Empty Stmt-F.Empty outs-Empty refl (λ place rest. front-Empty place rest))
layer (Stmt-F.If e a None) = subst StmtStays (sym (rolls-If e a.0 None)) (simple (If e a.0 None) (Stmt-F.If e a.0 None) (outs-If e a.0 None) refl (λ place rest. front-If place e a.0 None rest))
layer (Stmt-F.If e a (Some b)) = subst StmtStays (sym (rolls-If e a.0 (Some b.0))) (simple (If e a.0 (Some b.0)) (Stmt-F.If e a.0 (Some b.0)) (outs-If e a.0 (Some b.0)) refl (λ place rest. front-If place e a.0 (Some b.0) rest))
layer (Stmt-F.While e a) = subst StmtStays (sym (rolls-While e a.0)) (simple (While e a.0) (Stmt-F.While e a.0) (outs-While e a.0) refl (λ place rest. front-While place e a.0 rest))
layer (Stmt-F.Block []) = subst StmtStays (sym (rolls-Block [])) (simple (Block []) (Stmt-F.Block []) (outs-Block []) refl (λ place rest. front-Block_empty place rest))
layer (Stmt-F.Block (p ∷ ps)) =
    subst StmtStays (sym (rolls-Block (p.0 ∷ map (λ q. q.0) ps)))
    (λ place rest. subst FrontStays (sym (front-Block place p.0 (map (λ q. q.0) ps) rest)) (p.1 (statements (map (λ q. q.0) ps) ++ rest)))
layer (Stmt-F.DoWhile p e) =
    subst StmtStays (sym (rolls-DoWhile p.0 e)) (λ place rest. subst FrontStays (sym (front-DoWhile place p.0 e rest)) (p.1 (Test (at place (DoWhile p.0 e)) ∷ rest)))
layer (Stmt-F.For [] test None b) = subst StmtStays (sym (rolls-For [] test None b.0)) (λ place rest. subst FrontStays (sym (front-For_bare place test None b.0 rest)) tt)
layer (Stmt-F.For [] test (Some last) b) = subst StmtStays (sym (rolls-For [] test (Some last.0) b.0)) (λ place rest. subst FrontStays (sym (front-For_bare place test (Some last.0) b.0 rest)) tt)
layer (Stmt-F.For (p ∷ ps) test None b) =
    subst StmtStays (sym (rolls-For (p.0 ∷ map (λ q. q.0) ps) test None b.0))
    (λ place rest. subst FrontStays (sym (front-For place p.0 (map (λ q. q.0) ps) test None b.0 rest))
    (p.1 (statements (map (λ q. q.0) ps) ++ Test (at place (For (p.0 ∷ map (λ q. q.0) ps) test None b.0)) ∷ rest)))
layer (Stmt-F.For (p ∷ ps) test (Some last) b) =
    subst StmtStays (sym (rolls-For (p.0 ∷ map (λ q. q.0) ps) test (Some last.0) b.0))
    (λ place rest. subst FrontStays (sym (front-For place p.0 (map (λ q. q.0) ps) test (Some last.0) b.0 rest))
    (p.1 (statements (map (λ q. q.0) ps) ++ Test (at place (For (p.0 ∷ map (λ q. q.0) ps) test (Some last.0) b.0)) ∷ rest)))

stmt_rolled : (x : Stmt-F Stmt Placed) (y : Stmt-F StayingStmt StayingPlaced) → map-Stmt StayingStmt StayingPlaced Stmt Placed (λ s. s.0) (λ p. p.0) y ≡ x → StmtStays (roll-Stmt x)
stmt_rolled x y e = subst (λ (z : Stmt-F Stmt Placed). StmtStays (roll-Stmt z)) e (layer y)

placed_rolled : (x : Placed-F Stmt Placed) (y : Placed-F StayingStmt StayingPlaced) → map-Placed StayingStmt StayingPlaced Stmt Placed (λ s. s.0) (λ p. p.0) y ≡ x → PlacedStays (roll-Placed x)
placed_rolled x y e = subst (λ (z : Placed-F Stmt Placed). PlacedStays (roll-Placed z)) e (y.stmt.1 y.place)

each_stays : (p : Placed) → PlacedStays p
each_stays = ind-Placed StmtStays PlacedStays stmt_rolled placed_rolled

pub unrolled_fronts_stay : UnrolledFrontsStay
unrolled_fronts_stay [] = tt
unrolled_fronts_stay (Doing p ∷ rest) = each_stays p rest
unrolled_fronts_stay (Test p ∷ rest) = tt
unrolled_fronts_stay (Last p ∷ rest) = tt
