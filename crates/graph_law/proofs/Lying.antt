-- What is unrolled lies where it lay before.
use Rattle.std.proofs.Common.{◌≡◌, refl, sym, ap, subst, ℕ, List, [], ◌∷◌, ◌++◌, map, None, Some}
use Rattle.gob_tree.specs.declared.place.Place.{Place}
use Rattle.gob_tree.specs.declared.stmt.Stmt.{Stmt, Declare, DeclareThread, Assign, CallOnly, If, While, DoWhile, For, Block, Break, Continue, Return, Create, Join, Lock, Unlock, Assert, Empty, map-Stmt, roll-Stmt}
use Rattle.gob_tree.specs.declared.stmt.Stmt.TheOpen.{Stmt-F, Placed-F}
use Rattle.gob_tree.specs.declared.stmt.Stmt.TheVariants.{rolls-Declare, rolls-DeclareThread, rolls-Assign, rolls-CallOnly, rolls-If, rolls-While, rolls-DoWhile, rolls-For, rolls-Block, rolls-Break, rolls-Continue, rolls-Return, rolls-Create, rolls-Join, rolls-Lock, rolls-Unlock, rolls-Assert, rolls-Empty}
use Rattle.gob_tree.specs.declared.stmt.Placed.{Placed, ind-Placed, map-Placed, roll-Placed}
use Rattle.gob_tree.specs.declared.unit.Function.{Function}
use Rattle.c_meaning.specs.declared.config.Todo.{Todo}
use Rattle.c_meaning.specs.declared.config.Todo.TheVariants.{Stmt as Doing, Test, Last}
use Rattle.c_meaning.specs.Tree.{statements, unrolling, with_front, after_break, after_continue}
use Rattle.c_meaning.specs.Graph.{FlowGraph, Route, next_node, with_node, route_to, route_from, do_route, first_route, lowering_of, first_flow, body_route}
use Rattle.c_meaning.proofs.Fronts.{front-Declare, front-DeclareThread, front-Assign, front-CallOnly, front-If, front-While, front-DoWhile, front-For, front-For_bare, front-Block, front-Block_empty, front-Break, front-Continue, front-Return, front-Create, front-Join, front-Lock, front-Unlock, front-Assert, front-Empty}
use Rattle.graph_law.specs.Lying.{at, start_of, Piece, alone, first_of, do_body, Series, body, behind, in_block, for_firsts, at_do, at_for, without_first, Lies, nothing, does, tests, UnrollingLies, BodiesLie}

-- ---- jumps over statements

break_behind : (ss : List Placed) (rest : List Todo) → after_break (statements ss ++ rest) ≡ after_break rest
break_behind [] rest = refl
break_behind (s ∷ ss) rest = break_behind ss rest

continue_behind : (ss : List Placed) (rest : List Todo) → after_continue (statements ss ++ rest) ≡ after_continue rest
continue_behind [] rest = refl
continue_behind (s ∷ ss) rest = continue_behind ss rest

-- a statement that, unrolled in front, lies where it is met
abbrev PlacedLies : Function → Placed → Type 0
PlacedLies f p = (rest : List Todo) (r : Route) (d : FlowGraph) → Piece f p r d → Lies f rest r.to → Lies f (after_break rest) r.on_break → Lies f (after_continue rest) r.on_continue → Lies f (with_front p rest) r.from

abbrev StmtLies : Function → Stmt → Type 0
StmtLies f s = (place : Place) (rest : List Todo) (r : Route) (d : FlowGraph) → Piece f (at place s) r d → Lies f rest r.to → Lies f (after_break rest) r.on_break → Lies f (after_continue rest) r.on_continue → Lies f (with_front (at place s) rest) r.from

abbrev LyingStmt : Function → Type 0
LyingStmt f = (s : Stmt) × StmtLies f s

abbrev LyingPlaced : Function → Type 0
LyingPlaced f = (p : Placed) × PlacedLies f p

abbrev stmts_of : (f : Function) → Stmt-F (LyingStmt f) (LyingPlaced f) → Stmt-F Stmt Placed
stmts_of f = map-Stmt (LyingStmt f) (LyingPlaced f) Stmt Placed (λ s. s.0) (λ p. p.0)

-- ---- lists of statements

module _ (f : Function) where
  -- where a list of statements is lowered and this comes after it: the piece of the first statement,
  -- and what lies behind it
  record Fronts (s : Placed) (rest : List Todo) (from : ℕ) : Type 0 where
    route : Route
    graph : FlowGraph
    piece : Piece f s route graph
    begins : route.from ≡ from
    later : Lies f rest route.to
    breaks : Lies f (after_break rest) route.on_break
    continues : Lies f (after_continue rest) route.on_continue

  fronts : (ss : List Placed) (s : Placed) (rest : List Todo) (r : Route) (d : FlowGraph) → Series f (s ∷ ss) r d → Lies f rest r.to → Lies f (after_break rest) r.on_break → Lies f (after_continue rest) r.on_continue → Fronts s (statements ss ++ rest) r.from
  fronts [] s rest r d series to breaks continues = record { route = r; graph = d; piece = alone _ _ _ series; begins = refl; later = to; breaks = breaks; continues = continues }
  fronts (s' ∷ ss) s rest r d series to breaks continues =
      let next = fronts ss s' rest (route_from (next_node d) r) ((lowering_of s).lower (route_to (next_node d) r) (with_node (start_of s') d)) (behind _ _ _ _ _ series) to breaks continues in
      record {
        route = route_to (next_node d) r;
        graph = with_node (start_of s') d;
        piece = first_of _ _ _ _ _ series;
        begins = refl;
        later = subst (Lies f (Doing s' ∷ statements ss ++ rest)) next.begins (does s' (statements ss ++ rest) next.route next.graph next.piece next.later next.breaks next.continues);
        breaks = subst (λ (l : List Todo). Lies f l r.on_break) (sym (break_behind ss rest)) breaks;
        continues = subst (λ (l : List Todo). Lies f l r.on_continue) (sym (continue_behind ss rest)) continues;
      }

  -- a statement that doesn't unroll
  stays : (s : Stmt) (place : Place) (rest : List Todo) (r : Route) (d : FlowGraph) → with_front (at place s) rest ≡ Doing (at place s) ∷ rest → Piece f (at place s) r d → Lies f rest r.to → Lies f (after_break rest) r.on_break → Lies f (after_continue rest) r.on_continue → Lies f (with_front (at place s) rest) r.from
  stays s place rest r d same piece to breaks continues = subst (λ (l : List Todo). Lies f l r.from) (sym same) (does (at place s) rest r d piece to breaks continues)

  -- a list of statements whose first one unrolls
  opens : (p : (LyingPlaced f)) (ss : List Placed) (rest : List Todo) (r : Route) (d : FlowGraph) → Series f (p.0 ∷ ss) r d → Lies f rest r.to → Lies f (after_break rest) r.on_break → Lies f (after_continue rest) r.on_continue → Lies f (with_front p.0 (statements ss ++ rest)) r.from
  opens p ss rest r d series to breaks continues =
      let front = fronts ss p.0 rest r d series to breaks continues in
      subst (Lies f (with_front p.0 (statements ss ++ rest))) front.begins (p.1 (statements ss ++ rest) front.route front.graph front.piece front.later front.breaks front.continues)

  layer : (y : Stmt-F (LyingStmt f) (LyingPlaced f)) → StmtLies f (roll-Stmt (stmts_of f y))
  layer (Stmt-F.Declare x e) = subst (StmtLies f) (sym (rolls-Declare x e)) (λ place rest r d piece to breaks continues. stays (Declare x e) place rest r d (front-Declare place x e rest) piece to breaks continues)
  layer (Stmt-F.DeclareThread x) = subst (StmtLies f) (sym (rolls-DeclareThread x)) (λ place rest r d piece to breaks continues. stays (DeclareThread x) place rest r d (front-DeclareThread place x rest) piece to breaks continues)
  layer (Stmt-F.Assign target e) = subst (StmtLies f) (sym (rolls-Assign target e)) (λ place rest r d piece to breaks continues. stays (Assign target e) place rest r d (front-Assign place target e rest) piece to breaks continues)
  layer (Stmt-F.CallOnly g args) = subst (StmtLies f) (sym (rolls-CallOnly g args)) (λ place rest r d piece to breaks continues. stays (CallOnly g args) place rest r d (front-CallOnly place g args rest) piece to breaks continues)
  layer Stmt-F.Break = subst (StmtLies f) (sym rolls-Break) (λ place rest r d piece to breaks continues. stays Break place rest r d (front-Break place rest) piece to breaks continues)
  layer Stmt-F.Continue = subst (StmtLies f) (sym rolls-Continue) (λ place rest r d piece to breaks continues. stays Continue place rest r d (front-Continue place rest) piece to breaks continues)
  layer (Stmt-F.Return e) = subst (StmtLies f) (sym (rolls-Return e)) (λ place rest r d piece to breaks continues. stays (Return e) place rest r d (front-Return place e rest) piece to breaks continues)
  layer (Stmt-F.Create x g) = subst (StmtLies f) (sym (rolls-Create x g)) (λ place rest r d piece to breaks continues. stays (Create x g) place rest r d (front-Create place x g rest) piece to breaks continues)
  layer (Stmt-F.Join x) = subst (StmtLies f) (sym (rolls-Join x)) (λ place rest r d piece to breaks continues. stays (Join x) place rest r d (front-Join place x rest) piece to breaks continues)
  layer (Stmt-F.Lock x) = subst (StmtLies f) (sym (rolls-Lock x)) (λ place rest r d piece to breaks continues. stays (Lock x) place rest r d (front-Lock place x rest) piece to breaks continues)
  layer (Stmt-F.Unlock x) = subst (StmtLies f) (sym (rolls-Unlock x)) (λ place rest r d piece to breaks continues. stays (Unlock x) place rest r d (front-Unlock place x rest) piece to breaks continues)
  layer (Stmt-F.Assert e) = subst (StmtLies f) (sym (rolls-Assert e)) (λ place rest r d piece to breaks continues. stays (Assert e) place rest r d (front-Assert place e rest) piece to breaks continues)
  layer Stmt-F.Empty = subst (StmtLies f) (sym rolls-Empty) (λ place rest r d piece to breaks continues. stays Empty place rest r d (front-Empty place rest) piece to breaks continues)
  layer (Stmt-F.If e a None) = subst (StmtLies f) (sym (rolls-If e a.0 None)) (λ place rest r d piece to breaks continues. stays (If e a.0 None) place rest r d (front-If place e a.0 None rest) piece to breaks continues)
  layer (Stmt-F.If e a (Some b)) = subst (StmtLies f) (sym (rolls-If e a.0 (Some b.0))) (λ place rest r d piece to breaks continues. stays (If e a.0 (Some b.0)) place rest r d (front-If place e a.0 (Some b.0) rest) piece to breaks continues)
  layer (Stmt-F.While e a) = subst (StmtLies f) (sym (rolls-While e a.0)) (λ place rest r d piece to breaks continues. stays (While e a.0) place rest r d (front-While place e a.0 rest) piece to breaks continues)
  layer (Stmt-F.Block []) = subst (StmtLies f) (sym (rolls-Block [])) (λ place rest r d piece to breaks continues. stays (Block []) place rest r d (front-Block_empty place rest) piece to breaks continues)
  layer (Stmt-F.Block (p ∷ ps)) =
      subst (StmtLies f) (sym (rolls-Block (p.0 ∷ map (λ q. q.0) ps)))
      (λ place rest r d piece to breaks continues.
      subst (λ (l : List Todo). Lies f l r.from) (sym (front-Block place p.0 (map (λ q. q.0) ps) rest)) (opens p (map (λ q. q.0) ps) rest r d (in_block _ _ _ _ piece) to breaks continues))
  layer (Stmt-F.DoWhile p e) =
      subst (StmtLies f) (sym (rolls-DoWhile p.0 e))
      (λ place rest r d piece to breaks continues.
      let test : Lies f (Test (at place (DoWhile p.0 e)) ∷ rest) (next_node d) = tests _ _ r d _ piece (at_do _ _ _ _ _) to in
      subst (λ (l : List Todo). Lies f l r.from) (sym (front-DoWhile place p.0 e rest))
      (p.1 (Test (at place (DoWhile p.0 e)) ∷ rest) (do_route r (next_node d)) (with_node place d) (do_body _ _ _ _ _ piece) test to test))
  layer (Stmt-F.For [] test None b) =
      subst (StmtLies f) (sym (rolls-For [] test None b.0))
      (λ place rest r d piece to breaks continues. subst (λ (l : List Todo). Lies f l r.from) (sym (front-For_bare place test None b.0 rest)) (tests _ _ r d _ piece (without_first _ _ None b.0 _ _) to))
  layer (Stmt-F.For [] test (Some last) b) =
      subst (StmtLies f) (sym (rolls-For [] test (Some last.0) b.0))
      (λ place rest r d piece to breaks continues. subst (λ (l : List Todo). Lies f l r.from) (sym (front-For_bare place test (Some last.0) b.0 rest)) (tests _ _ r d _ piece (without_first _ _ (Some last.0) b.0 _ _) to))
  layer (Stmt-F.For (p ∷ ps) test None b) =
      subst (StmtLies f) (sym (rolls-For (p.0 ∷ map (λ q. q.0) ps) test None b.0))
      (λ place rest r d piece to breaks continues.
      let own = at place (For (p.0 ∷ map (λ q. q.0) ps) test None b.0) in
      let next : Lies f (Test own ∷ rest) (next_node d) = tests _ _ r d _ piece (at_for _ _ _ None b.0 _ _) to in
      subst (λ (l : List Todo). Lies f l r.from) (sym (front-For place p.0 (map (λ q. q.0) ps) test None b.0 rest))
      (opens p (map (λ q. q.0) ps) (Test own ∷ rest) (first_route r (next_node d)) (with_node place d) (for_firsts _ _ _ _ None b.0 _ _ piece) next to next))
  layer (Stmt-F.For (p ∷ ps) test (Some last) b) =
      subst (StmtLies f) (sym (rolls-For (p.0 ∷ map (λ q. q.0) ps) test (Some last.0) b.0))
      (λ place rest r d piece to breaks continues.
      let own = at place (For (p.0 ∷ map (λ q. q.0) ps) test (Some last.0) b.0) in
      let next : Lies f (Test own ∷ rest) (next_node d) = tests _ _ r d _ piece (at_for _ _ _ (Some last.0) b.0 _ _) to in
      subst (λ (l : List Todo). Lies f l r.from) (sym (front-For place p.0 (map (λ q. q.0) ps) test (Some last.0) b.0 rest))
      (opens p (map (λ q. q.0) ps) (Test own ∷ rest) (first_route r (next_node d)) (with_node place d) (for_firsts _ _ _ _ (Some last.0) b.0 _ _ piece) next to next))

  stmt_rolled : (x : Stmt-F Stmt Placed) (y : Stmt-F (LyingStmt f) (LyingPlaced f)) → map-Stmt (LyingStmt f) (LyingPlaced f) Stmt Placed (λ s. s.0) (λ p. p.0) y ≡ x → StmtLies f (roll-Stmt x)
  stmt_rolled x y e = subst (λ (z : Stmt-F Stmt Placed). StmtLies f (roll-Stmt z)) e (layer y)

  placed_rolled : (x : Placed-F Stmt Placed) (y : Placed-F (LyingStmt f) (LyingPlaced f)) → map-Placed (LyingStmt f) (LyingPlaced f) Stmt Placed (λ s. s.0) (λ p. p.0) y ≡ x → PlacedLies f (roll-Placed x)
  placed_rolled x y e = subst (λ (z : Placed-F Stmt Placed). PlacedLies f (roll-Placed z)) e (y.stmt.1 y.place)

  each_lies : (p : Placed) → PlacedLies f p
  each_lies = ind-Placed (StmtLies f) (PlacedLies f) stmt_rolled placed_rolled

  front_lies : (p : Placed) (rest : List Todo) (r : Route) (d : FlowGraph) → Piece f p r d → Lies f rest r.to → Lies f (after_break rest) r.on_break → Lies f (after_continue rest) r.on_continue → Lies f (with_front p rest) r.from
  front_lies p = each_lies p

pub unrolling_lies : UnrollingLies
unrolling_lies f [] n h = h
unrolling_lies f (Doing p ∷ rest) n (does _ _ r d piece to breaks continues) = front_lies f p rest r d piece to breaks continues
unrolling_lies f (Test p ∷ rest) n h = h
unrolling_lies f (Last p ∷ rest) n h = h

pub bodies_lie : BodiesLie
bodies_lie f s ss same =
    subst (λ (all : List Placed). Lies f (unrolling (statements all)) 2) (sym same)
    (let series : Series f (s ∷ ss) body_route (first_flow f) = subst (λ (all : List Placed). Series f all body_route (first_flow f)) same body in
    let front = fronts f ss s [] body_route (first_flow f) series nothing nothing nothing in
    unrolling_lies f (Doing s ∷ statements ss) 2
    (subst (λ (l : List Todo). Lies f (Doing s ∷ l) 2) (append_nothing (statements ss))
    (subst (Lies f (Doing s ∷ statements ss ++ [])) front.begins (does s (statements ss ++ []) front.route front.graph front.piece front.later front.breaks front.continues))))
  where
    append_nothing : (l : List Todo) → l ++ [] ≡ l
    append_nothing [] = refl
    append_nothing (x ∷ xs) = ap (λ (l : List Todo). x ∷ l) (append_nothing xs)
