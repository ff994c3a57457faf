-- Lowering a statement leaves nodes that nothing left before, so each node of a function's graph has
-- one way out.
use Rattle.std.proofs.Common.{◌≡◌, refl, sym, ap, subst, ℕ, ◌+◌, ◌<◌, inl, inr, true, false, List, [], ◌∷◌, map, Option, None, Some, arith}
use Rattle.std.specs.Prelude.{Bool, if◌then◌else◌, nat_eq}
use Rattle.gob_tree.specs.declared.place.Place.{Place}
use Rattle.gob_tree.specs.declared.expr.Expr.{Expr}
use Rattle.gob_tree.specs.declared.stmt.Target.{Target}
use Rattle.gob_tree.specs.declared.stmt.Stmt.{Stmt, fold-Stmt, fold-roll-Stmt, map-Stmt, roll-Stmt}
use Rattle.gob_tree.specs.declared.stmt.Stmt.TheOpen.{Stmt-F, Placed-F}
use Rattle.gob_tree.specs.declared.stmt.Placed.{Placed, fold-roll-Placed, ind-Placed, map-Placed, roll-Placed}
use Rattle.gob_tree.specs.declared.unit.Function.{Function}
use Rattle.gob_tree.specs.declared.graph.Action.{Action}
use Rattle.gob_tree.specs.declared.graph.Action.TheVariants.{Assign, Write, Assert, Call, Skip}
use Rattle.gob_tree.proofs.Induct.{Each}
use Rattle.c_meaning.specs.Graph.{FlowGraph, Route, HoistState, Hoisted, Lowering, next_node, with_node, with_edge, begun_at, hoisted_expr, hoisted_exprs, call_edge, sequence, sequence_or_silent, part_or_silent, if_head, if_flow, while_head, while_flow, route_to, route_from, then_route, else_route, while_route, do_route, first_route, for_route, last_route, do_flow, for_first, for_head, condition, lowering_step, placed_step, lowering_of, first_flow, flow_of, body_route}
use Rattle.c_meaning.proofs.Growth.{node_more}
use Rattle.graph_law.specs.Leaving.{leaving, IsOneWay, OneWayOut}
use Rattle.graph_law.proofs.Steps.{Free, Tidy, Step, free_above, step_then, step_node, step_edge, step_guards}
use Rattle.graph_law.proofs.Hoists.{Hop, hops_expr, hops_exprs}

-- a lowering that does so from each free node that is there
abbrev pub LowerSteps : Lowering → Type 0
LowerSteps l = (r : Route) (d : FlowGraph) → Tidy d → r.from < next_node d → Free d r.from → Step r.from d (l.lower r d)

-- one edge after what was hoisted
edge_after : (node : ℕ) (d : FlowGraph) (s : HoistState) (act : Action) (to : ℕ) → Hop (begun_at node d) s → Step node d (with_edge s.at act to s.flow)
edge_after node d s act to k = step_then node s.at d s.flow _ k.step (step_edge false s.at act to s.flow k.step.tidy k.there k.free) k.node

expr_edge : (e : Expr) (place : Place) (node : ℕ) (d : FlowGraph) (act : Expr → Action) (to : ℕ) → Tidy d → node < next_node d → Free d node → Step node d (with_edge (hoisted_expr e place node d).1.at (act (hoisted_expr e place node d).0) to (hoisted_expr e place node d).1.flow)
expr_edge e place node d act to t h f = edge_after node d (hoisted_expr e place node d).1 (act (hoisted_expr e place node d).0) to (hops_expr e place node d t h f)

call_alone : (g : ℕ) (args : List Expr) (place : Place) (r : Route) (d : FlowGraph) → Tidy d → r.from < next_node d → Free d r.from → Step r.from d (call_edge g r.to (hoisted_exprs args place r.from d))
call_alone g args place r d t h f = edge_after r.from d (hoisted_exprs args place r.from d).1 (Call None g (hoisted_exprs args place r.from d).0) r.to (hops_exprs args place r.from d t h f)

sequence_step : (ls : List Lowering) → Each LowerSteps ls → (r : Route) (d : FlowGraph) → Tidy d → r.from < next_node d → Free d r.from → Step r.from d (sequence ls r d)
sequence_step [] all r d t h f = step_edge false r.from Skip r.to d t h f
sequence_step (s ∷ []) all r d t h f = all.0 r d t h f
sequence_step (s ∷ s' ∷ ss) all r d t h f =
    let n = next_node d in
    let m = node_more d s'.start in
    let d1 = with_node s'.start d in
    let g0 : Step r.from d d1 = step_node r.from d s'.start t in
    let d2 = s.lower (route_to n r) d1 in
    let g1 : Step r.from d1 d2 = all.0 (route_to n r) d1 g0.tidy (omega (arith, h, m)) f in
    let free : Free d2 n = g1.free n (omega (arith, m)) (λ q. absurd (omega (arith, q, h))) (free_above d n t (omega arith)) in
    let k = g1.nodes in
    let g2 : Step n d2 (sequence (s' ∷ ss) (route_from n r) d2) = sequence_step (s' ∷ ss) all.1 (route_from n r) d2 g1.tidy (omega (arith, m, k)) free in
    step_then r.from n d d2 _ (step_then r.from r.from d d1 d2 g0 g1 (inl refl)) g2 (inr (omega arith))

-- ---- `if`, `while`, `do`

if_one_step : (a : Lowering) → LowerSteps a → (r : Route) (d : FlowGraph) (e : Hoisted Expr) → Hop (begun_at r.from d) e.1 → Step r.from d (if_flow a None r e)
if_one_step a la r d e k =
    let n = next_node e.1.flow in
    let m = node_more e.1.flow a.start in
    let there = k.there in
    let low = k.step.nodes in
    let d1 = with_node a.start e.1.flow in
    let g1 : Step e.1.at e.1.flow d1 = step_node e.1.at e.1.flow a.start k.step.tidy in
    let head = if_head a.start None r.to e in
    let g2 : Step e.1.at d1 head = step_guards false e.1.at e.0 n r.to d1 g1.tidy (omega (arith, m, there)) k.free in
    let free : Free head n = g2.free n (omega (arith, m)) (λ q. absurd (omega (arith, q, there))) (free_above e.1.flow n k.step.tidy (omega arith)) in
    let g3 : Step n head (if_flow a None r e) = la (then_route r e) head g2.tidy (omega (arith, m)) free in
    let to_head : Step r.from d head = step_then r.from e.1.at d e.1.flow head k.step (step_then e.1.at e.1.at e.1.flow d1 head g1 g2 (inl refl)) k.node in
    step_then r.from n d head _ to_head g3 (inr low)

if_two_step : (a b : Lowering) → LowerSteps a → LowerSteps b → (r : Route) (d : FlowGraph) (e : Hoisted Expr) → Hop (begun_at r.from d) e.1 → Step r.from d (if_flow a (Some b) r e)
if_two_step a b la lb r d e k =
    let n = next_node e.1.flow in
    let there = k.there in
    let low = k.step.nodes in
    let d1 = with_node a.start e.1.flow in
    let d2 = with_node b.start d1 in
    let m1 = node_more e.1.flow a.start in
    let m2 = node_more d1 b.start in
    let g1 : Step e.1.at e.1.flow d1 = step_node e.1.at e.1.flow a.start k.step.tidy in
    let g2 : Step e.1.at d1 d2 = step_node e.1.at d1 b.start g1.tidy in
    let head = if_head a.start (Some b.start) r.to e in
    let g3 : Step e.1.at d2 head = step_guards false e.1.at e.0 n (n + 1) d2 g2.tidy (omega (arith, m1, m2, there)) k.free in
    let free : Free head n = g3.free n (omega (arith, m1, m2)) (λ q. absurd (omega (arith, q, there))) (free_above e.1.flow n k.step.tidy (omega arith)) in
    let free' : Free head (n + 1) = g3.free (n + 1) (omega (arith, m1, m2)) (λ q. absurd (omega (arith, q, there))) (free_above e.1.flow (n + 1) k.step.tidy (omega arith)) in
    let d3 = a.lower (then_route r e) head in
    let g4 : Step n head d3 = la (then_route r e) head g3.tidy (omega (arith, m1, m2)) free in
    let more = g4.nodes in
    let free'' : Free d3 (n + 1) = g4.free (n + 1) (omega (arith, m1, m2)) (λ q. absurd (omega (arith, q))) free' in
    let g5 : Step (n + 1) d3 (if_flow a (Some b) r e) = lb (else_route r e) d3 g4.tidy (omega (arith, m1, m2, more)) free'' in
    let to_head : Step r.from d head = step_then r.from e.1.at d e.1.flow head k.step (step_then e.1.at e.1.at e.1.flow d1 head g1 (step_then e.1.at e.1.at d1 d2 head g2 g3 (inl refl)) (inl refl)) k.node in
    step_then r.from (n + 1) d d3 _ (step_then r.from n d head d3 to_head g4 (inr low)) g5 (inr (omega (arith, low)))

while_step : (body : Lowering) → LowerSteps body → (r : Route) (d : FlowGraph) (e : Hoisted Expr) → Hop (begun_at r.from d) e.1 → Step r.from d (while_flow body r e)
while_step body lb r d e k =
    let n = next_node e.1.flow in
    let m = node_more e.1.flow body.start in
    let there = k.there in
    let low = k.step.nodes in
    let d1 = with_node body.start e.1.flow in
    let g1 : Step e.1.at e.1.flow d1 = step_node e.1.at e.1.flow body.start k.step.tidy in
    let head = while_head body.start r.to e in
    let g2 : Step e.1.at d1 head = step_guards false e.1.at e.0 n r.to d1 g1.tidy (omega (arith, m, there)) k.free in
    let free : Free head n = g2.free n (omega (arith, m)) (λ q. absurd (omega (arith, q, there))) (free_above e.1.flow n k.step.tidy (omega arith)) in
    let g3 : Step n head (while_flow body r e) = lb (while_route r e) head g2.tidy (omega (arith, m)) free in
    let to_head : Step r.from d head = step_then r.from e.1.at d e.1.flow head k.step (step_then e.1.at e.1.at e.1.flow d1 head g1 g2 (inl refl)) k.node in
    step_then r.from n d head _ to_head g3 (inr low)

do_step : (body : Lowering) (e : Expr) (place : Place) → LowerSteps body → (r : Route) (d : FlowGraph) → Tidy d → r.from < next_node d → Free d r.from → Step r.from d (do_flow body e place r d)
do_step body e place lb r d t h f =
    let n = next_node d in
    let m = node_more d place in
    let d1 = with_node place d in
    let g1 : Step r.from d d1 = step_node r.from d place t in
    let d2 = body.lower (do_route r n) d1 in
    let g2 : Step r.from d1 d2 = lb (do_route r n) d1 g1.tidy (omega (arith, h, m)) f in
    let q = g2.nodes in
    let free : Free d2 n = g2.free n (omega (arith, m)) (λ z. absurd (omega (arith, z, h))) (free_above d n t (omega arith)) in
    let x = hoisted_expr e place n d2 in
    let k : Hop (begun_at n d2) x.1 = hops_expr e place n d2 g2.tidy (omega (arith, m, q)) free in
    let g3 : Step x.1.at x.1.flow (do_flow body e place r d) = step_guards false x.1.at x.0 r.from r.to x.1.flow k.step.tidy k.there k.free in
    let test : Step n d2 (do_flow body e place r d) = step_then n x.1.at d2 x.1.flow _ k.step g3 k.node in
    step_then r.from n d d2 _ (step_then r.from r.from d d1 d2 g1 g2 (inl refl)) test (inr (omega arith))

-- ---- `for`

some_or_silent : (ls : List Lowering) → Each LowerSteps ls → (r : Route) (d : FlowGraph) → Tidy d → r.from < next_node d → Free d r.from → Step r.from d (sequence_or_silent ls r d)
some_or_silent [] all r d t h f = step_edge true r.from Skip r.to d t h f
some_or_silent (s ∷ ss) all r d t h f = sequence_step (s ∷ ss) all r d t h f

-- a last part that does so, where there is one
abbrev PartSteps : Option Lowering → Type 0
PartSteps None = Unit {0}
PartSteps (Some l) = LowerSteps l

one_or_silent : (last : Option Lowering) → PartSteps last → (r : Route) (d : FlowGraph) → Tidy d → r.from < next_node d → Free d r.from → Step r.from d (part_or_silent last r d)
one_or_silent None all r d t h f = step_edge true r.from Skip r.to d t h f
one_or_silent (Some l) all r d t h f = all r d t h f

-- from where the test has been hoisted
for_parts : (last : Option Lowering) (body : Lowering) → PartSteps last → LowerSteps body → (last_start place : Place) (test : ℕ) (r : Route) (d : FlowGraph) (e : Hoisted Expr) → Hop (begun_at test d) e.1 → Step test d (part_or_silent last (last_route r test e) (body.lower (for_route r e) (for_head body.start last_start r.to e)))
for_parts last body ll lb last_start place test r d e k =
    let n = next_node e.1.flow in
    let there = k.there in
    let low = k.step.nodes in
    let d1 = with_node body.start e.1.flow in
    let d2 = with_node last_start d1 in
    let m1 = node_more e.1.flow body.start in
    let m2 = node_more d1 last_start in
    let g1 : Step e.1.at e.1.flow d1 = step_node e.1.at e.1.flow body.start k.step.tidy in
    let g2 : Step e.1.at d1 d2 = step_node e.1.at d1 last_start g1.tidy in
    let head = for_head body.start last_start r.to e in
    let g3 : Step e.1.at d2 head = step_guards false e.1.at e.0 n r.to d2 g2.tidy (omega (arith, m1, m2, there)) k.free in
    let free : Free head n = g3.free n (omega (arith, m1, m2)) (λ q. absurd (omega (arith, q, there))) (free_above e.1.flow n k.step.tidy (omega arith)) in
    let free' : Free head (n + 1) = g3.free (n + 1) (omega (arith, m1, m2)) (λ q. absurd (omega (arith, q, there))) (free_above e.1.flow (n + 1) k.step.tidy (omega arith)) in
    let d3 = body.lower (for_route r e) head in
    let g4 : Step n head d3 = lb (for_route r e) head g3.tidy (omega (arith, m1, m2)) free in
    let more = g4.nodes in
    let free'' : Free d3 (n + 1) = g4.free (n + 1) (omega (arith, m1, m2)) (λ q. absurd (omega (arith, q))) free' in
    let g5 : Step (n + 1) d3 (part_or_silent last (last_route r test e) d3) = one_or_silent last ll (last_route r test e) d3 g4.tidy (omega (arith, m1, m2, more)) free'' in
    let to_head : Step test d head = step_then test e.1.at d e.1.flow head k.step (step_then e.1.at e.1.at e.1.flow d1 head g1 (step_then e.1.at e.1.at d1 d2 head g2 g3 (inl refl)) (inl refl)) k.node in
    step_then test (n + 1) d d3 _ (step_then test n d head d3 to_head g4 (inr low)) g5 (inr (omega (arith, low)))

for_step : (first : List Lowering) (test : Option Expr) (last : Option Lowering) (body : Lowering) (place : Place) → Each LowerSteps first → PartSteps last → LowerSteps body → LowerSteps (lowering_step (Stmt-F.For first test last body) place)
for_step first test last body place all ll lb r d t h f =
    let n = next_node d in
    let m = node_more d place in
    let d1 = with_node place d in
    let g1 : Step r.from d d1 = step_node r.from d place t in
    let d2 = for_first first place r d in
    let g2 : Step r.from d1 d2 = some_or_silent first all (first_route r n) d1 g1.tidy (omega (arith, h, m)) f in
    let q = g2.nodes in
    let free : Free d2 n = g2.free n (omega (arith, m)) (λ z. absurd (omega (arith, z, h))) (free_above d n t (omega arith)) in
    let e = hoisted_expr (condition test) place n d2 in
    let k : Hop (begun_at n d2) e.1 = hops_expr (condition test) place n d2 g2.tidy (omega (arith, m, q)) free in
    step_then r.from n d d2 _ (step_then r.from r.from d d1 d2 g1 g2 (inl refl)) (for_parts last body ll lb _ place n r d2 e k) (inr (omega arith))

-- ---- all statements

abbrev StmtSteps : Stmt → Type 0
StmtSteps s = (place : Place) → LowerSteps (fold-Stmt (Place → Lowering) Lowering lowering_step placed_step s place)

abbrev PlacedSteps : Placed → Type 0
PlacedSteps p = LowerSteps (lowering_of p)

abbrev SteppedStmt : Type 0
SteppedStmt = (s : Stmt) × StmtSteps s

abbrev SteppedPlaced : Type 0
SteppedPlaced = (p : Placed) × PlacedSteps p

abbrev stmts_of : Stmt-F SteppedStmt SteppedPlaced → Stmt-F Stmt Placed
stmts_of = map-Stmt SteppedStmt SteppedPlaced Stmt Placed (λ s. s.0) (λ p. p.0)

abbrev lowerings_of : Stmt-F Stmt Placed → Stmt-F (Place → Lowering) Lowering
lowerings_of = map-Stmt Stmt Placed (Place → Lowering) Lowering (fold-Stmt (Place → Lowering) Lowering lowering_step placed_step) lowering_of

every : (ps : List SteppedPlaced) → Each LowerSteps (map lowering_of (map (λ (p : SteppedPlaced). p.0) ps))
every [] = tt
every (p ∷ ps) = (p.1, every ps)

layer_steps : (y : Stmt-F SteppedStmt SteppedPlaced) (place : Place) → LowerSteps (lowering_step (lowerings_of (stmts_of y)) place)
layer_steps (Stmt-F.Declare x None) place r d t h f = step_edge false r.from _ r.to d t h f
layer_steps (Stmt-F.Declare x (Some e)) place r d t h f = expr_edge e place r.from d (Assign x) r.to t h f
layer_steps (Stmt-F.DeclareThread x) place r d t h f = step_edge false r.from _ r.to d t h f
layer_steps (Stmt-F.Assign (Target.Local x) e) place r d t h f = expr_edge e place r.from d (Assign x) r.to t h f
layer_steps (Stmt-F.Assign (Target.Global g) e) place r d t h f = expr_edge e place r.from d (Write g) r.to t h f
layer_steps (Stmt-F.CallOnly g args) place r d t h f = call_alone g args place r d t h f
layer_steps (Stmt-F.If e a None) place r d t h f = if_one_step (lowering_of a.0) a.1 r d (hoisted_expr e place r.from d) (hops_expr e place r.from d t h f)
layer_steps (Stmt-F.If e a (Some b)) place r d t h f = if_two_step (lowering_of a.0) (lowering_of b.0) a.1 b.1 r d (hoisted_expr e place r.from d) (hops_expr e place r.from d t h f)
layer_steps (Stmt-F.While e body) place r d t h f = while_step (lowering_of body.0) body.1 r d (hoisted_expr e place r.from d) (hops_expr e place r.from d t h f)
layer_steps (Stmt-F.DoWhile body e) place r d t h f = do_step (lowering_of body.0) e place body.1 r d t h f
layer_steps (Stmt-F.For first test None body) place r d t h f = for_step (map lowering_of (map (λ (p : SteppedPlaced). p.0) first)) test None (lowering_of body.0) place (every first) tt body.1 r d t h f
layer_steps (Stmt-F.For first test (Some last) body) place r d t h f = for_step (map lowering_of (map (λ (p : SteppedPlaced). p.0) first)) test (Some (lowering_of last.0)) (lowering_of body.0) place (every first) last.1 body.1 r d t h f
layer_steps (Stmt-F.Block all) place r d t h f = sequence_step (map lowering_of (map (λ (p : SteppedPlaced). p.0) all)) (every all) r d t h f
layer_steps Stmt-F.Break place r d t h f = step_edge false r.from _ r.on_break d t h f
layer_steps Stmt-F.Continue place r d t h f = step_edge false r.from _ r.on_continue d t h f
layer_steps (Stmt-F.Return None) place r d t h f = step_edge false r.from _ 1 d t h f
layer_steps (Stmt-F.Return (Some e)) place r d t h f = expr_edge e place r.from d (Assign 0) 1 t h f
layer_steps (Stmt-F.Create x g) place r d t h f = step_edge false r.from _ r.to d t h f
layer_steps (Stmt-F.Join x) place r d t h f = step_edge false r.from _ r.to d t h f
layer_steps (Stmt-F.Lock m) place r d t h f = step_edge false r.from _ r.to d t h f
layer_steps (Stmt-F.Unlock m) place r d t h f = step_edge false r.from _ r.to d t h f
layer_steps (Stmt-F.Assert e) place r d t h f = expr_edge e place r.from d Assert r.to t h f
layer_steps Stmt-F.Empty place r d t h f = step_edge false r.from _ r.to d t h f

stmt_rolled : (x : Stmt-F Stmt Placed) (y : Stmt-F SteppedStmt SteppedPlaced) → stmts_of y ≡ x → StmtSteps (roll-Stmt x)
stmt_rolled x y e place =
    let same = fold-roll-Stmt (Place → Lowering) Lowering lowering_step placed_step x in
    subst LowerSteps (sym (ap (λ (f : Place → Lowering). f place) same))
    (subst (λ (z : Stmt-F Stmt Placed). LowerSteps (lowering_step (lowerings_of z) place)) e (layer_steps y place))

placed_rolled : (x : Placed-F Stmt Placed) (y : Placed-F SteppedStmt SteppedPlaced) → map-Placed SteppedStmt SteppedPlaced Stmt Placed (λ s. s.0) (λ p. p.0) y ≡ x → PlacedSteps (roll-Placed x)
placed_rolled x y e =
    subst (λ (z : Placed-F Stmt Placed). PlacedSteps (roll-Placed z)) e
    (subst LowerSteps (sym (fold-roll-Placed (Place → Lowering) Lowering lowering_step placed_step (record { place = y.place; stmt = y.stmt.0 }))) (y.stmt.1 y.place))

lowerings_step : (p : Placed) → PlacedSteps p
lowerings_step = ind-Placed StmtSteps PlacedSteps stmt_rolled placed_rolled

-- ---- functions

every_step : (ps : List Placed) → Each LowerSteps (map lowering_of ps)
every_step [] = tt
every_step (p ∷ ps) = (lowerings_step p, every_step ps)

-- the first edge alone leaves the entry
first_tidy : (f : Function) → Tidy (first_flow f)
first_tidy f = record { below = (omega arith, tt); ways = ways }
  where
    ways : (m : ℕ) → IsOneWay (leaving m (first_flow f).edges)
    ways m = go (nat_eq 0 m)
      where
        go : (b : Bool) → IsOneWay (if b then record { edge = record { from = 0; act = Skip; to = 2 }; silent = true } ∷ [] else [])
        go true = tt
        go false = tt

pub one_way_out : OneWayOut
one_way_out f n = (sequence_step (map lowering_of f.body) (every_step f.body) body_route (first_flow f) (first_tidy f) (omega arith) refl).tidy.ways n

-- nothing leaves the exit
pub nothing_leaves_exit : (f : Function) → leaving 1 (flow_of f).edges ≡ []
nothing_leaves_exit f =
    (sequence_step (map lowering_of f.body) (every_step f.body) body_route (first_flow f) (first_tidy f) (omega arith) refl).free 1 (omega arith) (λ q. absurd (omega (arith, q))) refl
