-- What lowering adds to a draft, and that the silent edges of a function form no circle.
use Rattle.std.proofs.Common.{◌≡◌, ◌≢◌, refl, sym, ap, subst, ℕ, ◌+◌, ◌<◌, ◌≤◌, inl, inr, true, List, [], ◌∷◌, map, Option, None, Some, arith}
use Rattle.std.specs.List.{Contains}
use Rattle.gob_tree.specs.declared.place.Place.{Place}
use Rattle.gob_tree.specs.declared.expr.Expr.{Expr}
use Rattle.gob_tree.specs.declared.stmt.Target.{Target}
use Rattle.gob_tree.specs.declared.stmt.Stmt.{Stmt, fold-Stmt, fold-roll-Stmt, map-Stmt, roll-Stmt}
use Rattle.gob_tree.specs.declared.stmt.Stmt.TheOpen.{Stmt-F, Placed-F}
use Rattle.gob_tree.specs.declared.stmt.Placed.{Placed, fold-roll-Placed, ind-Placed, map-Placed, roll-Placed}
use Rattle.gob_tree.specs.declared.unit.Function.{Function}
use Rattle.gob_tree.specs.declared.graph.Action.{Action}
use Rattle.gob_tree.specs.declared.graph.Action.TheVariants.{Guard, Skip}
use Rattle.c_meaning.specs.Graph.{MarkedEdge, FlowGraph, Route, HoistState, Hoisted, Lowering, next_node, with_node, with_edge, with_silent, with_guards, hoisted_expr, hoisted_exprs, sequence, if_head, if_flow, while_head, while_flow, loop_route, first_route, last_route, do_flow, for_first, for_head, for_flow, condition, lowering_step, placed_step, lowering_of, first_flow, body_route, flow_of}
use Rattle.c_meaning.specs.Laws.{SilentPath, last_edge as path_end, first_edge, SilentEdgesEnd, SilentEdgesStayInside}
use Rattle.gob_tree.proofs.Induct.{Each}
use Rattle.c_meaning.proofs.Growth.{Ends, ends_append, ends_map, Ranked, ranked_into, ranked_out_of, Below, IsNew, adds_below, adds_then, adds_node, adds_silent, Grown, grown_then, grown_from, grown_node, node_more, grown_edge, each_at}
use Rattle.c_meaning.proofs.SilentHoists.{Hoists, hoists_expr, hoists_exprs}

-- a lowering that adds so from each node that is there
abbrev pub LowerGrows : Lowering → Type 0
LowerGrows l = (r : Route) (d : FlowGraph) → r.from < next_node d → Grown (next_node d) r.from d (l.lower r d)

-- two edges after a test
guards_grow : (n at : ℕ) (d : FlowGraph) (from : ℕ) (e : Expr) (yes_to no_to : ℕ) → Grown n at d (with_guards from e yes_to no_to d)
guards_grow n at d from e yes_to no_to =
    grown_then n at d (with_edge from (Guard e true) yes_to d) _ (grown_edge n at d from (Guard e true) yes_to) (grown_edge n at (with_edge from (Guard e true) yes_to d) from _ no_to)

-- one edge after what was hoisted
hoist_then_edge : (node : ℕ) (d : FlowGraph) (s : HoistState) (act : Action) (to : ℕ) → Hoists node d s → Grown (next_node d) node d (with_edge s.at act to s.flow)
hoist_then_edge node d s act to k = grown_then (next_node d) node d s.flow _ k.grown (grown_edge (next_node d) node s.flow s.at act to)

sequence_grows : (ls : List Lowering) → Each LowerGrows ls → (r : Route) (d : FlowGraph) → r.from < next_node d → Grown (next_node d) r.from d (sequence ls r d)
sequence_grows [] all r d h = grown_edge (next_node d) r.from d r.from Skip r.to
sequence_grows (s ∷ []) all r d h = all.0 r d h
sequence_grows (s ∷ s' ∷ ss) all r d h =
    let node = next_node d in
    let d1 = with_node s'.start d in
    let m = node_more d s'.start in
    let g1 : Grown (next_node d1) r.from d1 (s.lower (record r { to = node }) d1) = all.0 (record r { to = node }) d1 (omega (arith, h, m)) in
    let d2 = s.lower (record r { to = node }) d1 in
    let k = g1.adds.nodes in
    let g2 : Grown (next_node d2) node d2 (sequence (s' ∷ ss) (record r { from = node }) d2) = sequence_grows (s' ∷ ss) all.1 (record r { from = node }) d2 (omega (arith, m, k)) in
    grown_then node r.from d d1 _ (grown_node node r.from d s'.start)
    (grown_then node r.from d1 d2 _
    (grown_from node (next_node d1) r.from r.from d1 d2 (omega (arith, m)) (inl refl) g1)
    (grown_from node (next_node d2) r.from node d2 _ (omega (arith, m, k)) (inr (omega arith)) g2))

-- ---- `if`, `while`, `do`

if_one_grows : (a : Lowering) → LowerGrows a → (r : Route) (d : FlowGraph) (e : Hoisted Expr) → r.from < next_node d → Hoists r.from d e.1 → Grown (next_node d) r.from d (if_flow a None r e)
if_one_grows a ga r d e h k =
    let n = next_node d in
    let node = next_node e.1.flow in
    let d1 = with_node a.start e.1.flow in
    let m = node_more e.1.flow a.start in
    let q = k.grown.adds.nodes in
    let head = if_head a.start None r.to e in
    let ga1 : Grown (next_node head) node head (if_flow a None r e) = ga (record r { from = node }) head (omega (arith, m)) in
    grown_then n r.from d e.1.flow _ k.grown
    (grown_then n r.from e.1.flow d1 _ (grown_node n r.from e.1.flow a.start)
    (grown_then n r.from d1 head _ (guards_grow n r.from d1 e.1.at e.0 node r.to)
    (grown_from n (next_node head) r.from node head _ (omega (arith, m, q)) (inr q) ga1)))

if_two_grows : (a b : Lowering) → LowerGrows a → LowerGrows b → (r : Route) (d : FlowGraph) (e : Hoisted Expr) → r.from < next_node d → Hoists r.from d e.1 → Grown (next_node d) r.from d (if_flow a (Some b) r e)
if_two_grows a b ga gb r d e h k =
    let n = next_node d in
    let node = next_node e.1.flow in
    let d1 = with_node a.start e.1.flow in
    let d2 = with_node b.start d1 in
    let m1 = node_more e.1.flow a.start in
    let m2 = node_more d1 b.start in
    let q = k.grown.adds.nodes in
    let head = if_head a.start (Some b.start) r.to e in
    let d3 = a.lower (record r { from = node }) head in
    let g1 : Grown (next_node head) node head d3 = ga (record r { from = node }) head (omega (arith, m1, m2)) in
    let q3 = g1.adds.nodes in
    let g2 : Grown (next_node d3) (node + 1) d3 (if_flow a (Some b) r e) = gb (record r { from = node + 1 }) d3 (omega (arith, m1, m2, q3)) in
    grown_then n r.from d e.1.flow _ k.grown
    (grown_then n r.from e.1.flow d1 _ (grown_node n r.from e.1.flow a.start)
    (grown_then n r.from d1 d2 _ (grown_node n r.from d1 b.start)
    (grown_then n r.from d2 head _ (guards_grow n r.from d2 e.1.at e.0 node (node + 1))
    (grown_then n r.from head d3 _
    (grown_from n (next_node head) r.from node head d3 (omega (arith, m1, m2, q)) (inr q) g1)
    (grown_from n (next_node d3) r.from (node + 1) d3 _ (omega (arith, m1, m2, q, q3)) (inr (omega (arith, q))) g2)))))

while_grows : (body : Lowering) → LowerGrows body → (r : Route) (d : FlowGraph) (e : Hoisted Expr) → r.from < next_node d → Hoists r.from d e.1 → Grown (next_node d) r.from d (while_flow body r e)
while_grows body gb r d e h k =
    let n = next_node d in
    let node = next_node e.1.flow in
    let d1 = with_node body.start e.1.flow in
    let m = node_more e.1.flow body.start in
    let q = k.grown.adds.nodes in
    let head = while_head body.start r.to e in
    let g : Grown (next_node head) node head (while_flow body r e) = gb (loop_route node r.from r.to) head (omega (arith, m)) in
    grown_then n r.from d e.1.flow _ k.grown
    (grown_then n r.from e.1.flow d1 _ (grown_node n r.from e.1.flow body.start)
    (grown_then n r.from d1 head _ (guards_grow n r.from d1 e.1.at e.0 node r.to)
    (grown_from n (next_node head) r.from node head _ (omega (arith, m, q)) (inr q) g)))

do_grows : (body : Lowering) (e : Expr) (place : Place) → LowerGrows body → (r : Route) (d : FlowGraph) → r.from < next_node d → Grown (next_node d) r.from d (do_flow body e place r d)
do_grows body e place gb r d h =
    let n = next_node d in
    let d1 = with_node place d in
    let m = node_more d place in
    let d2 = body.lower (loop_route r.from n r.to) d1 in
    let g : Grown (next_node d1) r.from d1 d2 = gb (loop_route r.from n r.to) d1 (omega (arith, h, m)) in
    let q = g.adds.nodes in
    let t = hoisted_expr e place n d2 in
    let k : Hoists n d2 t.1 = hoists_expr e place n d2 (omega (arith, m, q)) in
    grown_then n r.from d d1 _ (grown_node n r.from d place)
    (grown_then n r.from d1 d2 _ (grown_from n (next_node d1) r.from r.from d1 d2 (omega (arith, m)) (inl refl) g)
    (grown_then n r.from d2 t.1.flow _ (grown_from n (next_node d2) r.from n d2 t.1.flow (omega (arith, m, q)) (inr (omega arith)) k.grown)
    (guards_grow n r.from t.1.flow t.1.at t.0 r.from r.to)))

-- ---- `for`

-- a missing first part: a silent edge to the node of the test, which is new
first_skipped : (place : Place) (r : Route) (d : FlowGraph) → r.from < next_node d → Grown (next_node d) r.from d (with_silent r.from Skip (next_node d) (with_node place d))
first_skipped place r d h =
    let n = next_node d in
    let d1 = with_node place d in
    let m = node_more d place in
    record {
      adds = adds_then n r.from d d1 _ (adds_node n r.from d place) (adds_silent n r.from d1 r.from Skip n (omega arith, inl refl, omega (arith, h, m), omega (arith, m)));
      ranked = λ b rk. ranked_into d.edges _ rk
          (ends_map (λ from to. (from < n) × (to < n)) (λ from to. from ≢ n) (λ from to e q. absurd (omega (arith, e.0, q))) d.edges b)
          (λ q. absurd (omega (arith, q, h)));
    }

for_first_grows : (first : List Lowering) (place : Place) → Each LowerGrows first → (r : Route) (d : FlowGraph) → r.from < next_node d → Grown (next_node d) r.from d (for_first first place r d)
for_first_grows [] place all r d h = first_skipped place r d h
for_first_grows (s ∷ ss) place all r d h =
    let n = next_node d in
    let d1 = with_node place d in
    let m = node_more d place in
    let g : Grown (next_node d1) r.from d1 (sequence (s ∷ ss) (first_route r n) d1) = sequence_grows (s ∷ ss) all (first_route r n) d1 (omega (arith, h, m)) in
    grown_then n r.from d d1 _ (grown_node n r.from d place) (grown_from n (next_node d1) r.from r.from d1 _ (omega (arith, m)) (inl refl) g)

-- from where the test has been hoisted, to where the body is lowered
module _ (body : Lowering) (gb : LowerGrows body) (last_start : Place) (to : ℕ) (e : Hoisted Expr) where
  node : ℕ
  node = next_node e.1.flow

  head : FlowGraph
  head = for_head body.start last_start to e

  done : FlowGraph
  done = body.lower (loop_route node (node + 1) to) head

  head_nodes : next_node head ≡ node + 2
  unfolding node head
  head_nodes =
      let a = node_more e.1.flow body.start in
      let b = node_more (with_node body.start e.1.flow) last_start in
      omega (arith, a, b)

  head_grows : (n at : ℕ) → Grown n at e.1.flow head
  unfolding head node
  head_grows n at =
      let d1 = with_node body.start e.1.flow in
      let d2 = with_node last_start d1 in
      grown_then n at e.1.flow d1 head (grown_node n at e.1.flow body.start)
      (grown_then n at d1 d2 head (grown_node n at d1 last_start) (guards_grow n at d2 e.1.at e.0 node to))

  body_grows : Grown (next_node head) node head done
  unfolding done
  body_grows = let k = head_nodes in gb (loop_route node (node + 1) to) head (omega (arith, k))

  -- no silent edge leads to the node of the last part
  last_apart : Below e.1.flow → Ends (λ from end. end ≢ node + 1) done.edges
  unfolding head node
  last_apart b =
      let k = head_nodes in
      let g = body_grows.adds in
      subst (Ends (λ from end. end ≢ node + 1)) (sym g.edges)
      (ends_append (λ from end. end ≢ node + 1) head.edges g.added
      (ends_append (λ from end. end ≢ node + 1) _ _
      (ends_append (λ from end. end ≢ node + 1) e.1.flow.edges _
      (ends_map (λ from end. (from < node) × (end < node)) (λ from end. end ≢ node + 1) (λ from end x q. absurd (omega (arith, x.1, q))) e.1.flow.edges b)
      ((λ s. cc), tt))
      ((λ s. cc), tt))
      (ends_map (IsNew (next_node head) node (next_node done)) (λ from end. end ≢ node + 1) (λ from end x q. absurd (omega (arith, x.0, q, k))) g.added g.ends))

-- a missing last part: a silent edge from its node, to which no silent edge leads, to the test's
module _ (body : Lowering) (gb : LowerGrows body) (place : Place) (test : ℕ) (r : Route) (d : FlowGraph) (e : Hoisted Expr) (h : test < next_node d) (k : Hoists test d e.1) (n : ℕ) (le : n ≤ test) where
  lowered : FlowGraph
  lowered = done body gb place r.to e

  to_body : Grown n test d lowered
  unfolding lowered head node done
  to_body =
      let m = head_nodes body gb place r.to e in
      let q = k.grown.adds.nodes in
      let opened = head body gb place r.to e in
      grown_then n test d e.1.flow lowered (grown_from n (next_node d) test test d e.1.flow (omega (arith, h, le)) (inl refl) k.grown)
      (grown_then n test e.1.flow opened lowered (head_grows body gb place r.to e n test)
      (grown_from n (next_node opened) test (next_node e.1.flow) opened lowered (omega (arith, m, q, h, le)) (inr (omega (arith, q, h, le))) (body_grows body gb place r.to e)))

  there : (test < next_node lowered) × (next_node e.1.flow + 1 < next_node lowered) × (test < next_node e.1.flow + 1)
  unfolding lowered head node done
  there =
      let m = head_nodes body gb place r.to e in
      let q = k.grown.adds.nodes in
      let g = (body_grows body gb place r.to e).adds.nodes in
      (omega (arith, m, q, g, h), omega (arith, m, g), omega (arith, q, h))

  for_none_grows : Grown n test d (for_flow None body place test r e)
  unfolding lowered head node done
  for_none_grows =
      let t = there in
      let p = next_node e.1.flow + 1 in
      record {
        adds = adds_then n test d lowered _ to_body.adds (adds_silent n test lowered p Skip test (le, inr (omega (arith, t.2, le)), t.1, t.0));
        ranked = λ b rk. ranked_out_of lowered.edges _ (to_body.ranked b rk)
            (last_apart body gb place r.to e (adds_below (next_node d) test d e.1.flow k.grown.adds b))
            (λ q. absurd (omega (arith, q, t.2)));
      }

for_some_grows : (last body : Lowering) → LowerGrows last → LowerGrows body → (place : Place) (test : ℕ) (r : Route) (d : FlowGraph) (e : Hoisted Expr) → test < next_node d → Hoists test d e.1 → (n : ℕ) → n ≤ test → Grown n test d (for_flow (Some last) body place test r e)
unfolding head node done
for_some_grows last body gl gb place test r d e h k n le =
    let m = head_nodes body gb last.start r.to e in
    let q = k.grown.adds.nodes in
    let opened = head body gb last.start r.to e in
    let lowered = done body gb last.start r.to e in
    let g = body_grows body gb last.start r.to e in
    let gn = g.adds.nodes in
    let p = next_node e.1.flow + 1 in
    let gp : Grown (next_node lowered) p lowered (for_flow (Some last) body place test r e) = gl (last_route r test e) lowered (omega (arith, m, gn)) in
    grown_then n test d e.1.flow _ (grown_from n (next_node d) test test d e.1.flow (omega (arith, h, le)) (inl refl) k.grown)
    (grown_then n test e.1.flow opened _ (head_grows body gb last.start r.to e n test)
    (grown_then n test opened lowered _
    (grown_from n (next_node opened) test (next_node e.1.flow) opened lowered (omega (arith, m, q, h, le)) (inr (omega (arith, q, h, le))) g)
    (grown_from n (next_node lowered) test p lowered _ (omega (arith, m, gn, q, h, le)) (inr (omega (arith, q, h, le))) gp)))

-- a last part that adds so, where there is one
abbrev PartGrows : Option Lowering → Type 0
PartGrows None = Unit {0}
PartGrows (Some l) = LowerGrows l

for_part_grows : (last : Option Lowering) (body : Lowering) → PartGrows last → LowerGrows body → (place : Place) (test : ℕ) (r : Route) (d : FlowGraph) (e : Hoisted Expr) → test < next_node d → Hoists test d e.1 → (n : ℕ) → n ≤ test → Grown n test d (for_flow last body place test r e)
for_part_grows None body gl gb place test r d e h k n le = for_none_grows body gb place test r d e h k n le
for_part_grows (Some last) body gl gb place test r d e h k n le = for_some_grows last body gl gb place test r d e h k n le

for_grows : (first : List Lowering) (test : Option Expr) (last : Option Lowering) (body : Lowering) (place : Place) → Each LowerGrows first → PartGrows last → LowerGrows body → LowerGrows (lowering_step (Stmt-F.For first test last body) place)
for_grows first test last body place all gl gb r d h =
    let n = next_node d in
    let d1 = for_first first place r d in
    let g1 : Grown n r.from d d1 = for_first_grows first place all r d h in
    let m = node_more d place in
    let there : n < next_node d1 = first_there first place all r d h in
    let e = hoisted_expr (condition test) place n d1 in
    let k : Hoists n d1 e.1 = hoists_expr (condition test) place n d1 there in
    grown_then n r.from d d1 _ g1
    (grown_from n n r.from n d1 _ (omega arith) (inr (omega arith)) (for_part_grows last body gl gb place n r d1 e there k n (omega arith)))
  where
    first_there : (first : List Lowering) (place : Place) → Each LowerGrows first → (r : Route) (d : FlowGraph) → r.from < next_node d → next_node d < next_node (for_first first place r d)
    first_there [] place all r d h = let m = node_more d place in omega (arith, m)
    first_there (s ∷ ss) place all r d h =
        let m = node_more d place in
        let g = sequence_grows (s ∷ ss) all (first_route r (next_node d)) (with_node place d) (omega (arith, h, m)) in
        let q = g.adds.nodes in
        omega (arith, m, q)

-- ---- all statements

abbrev StmtGrows : Stmt → Type 0
StmtGrows s = (place : Place) → LowerGrows (fold-Stmt (Place → Lowering) Lowering lowering_step placed_step s place)

abbrev PlacedGrows : Placed → Type 0
PlacedGrows p = LowerGrows (lowering_of p)

abbrev GrownStmt : Type 0
GrownStmt = (s : Stmt) × StmtGrows s

abbrev GrownPlaced : Type 0
GrownPlaced = (p : Placed) × PlacedGrows p

abbrev stmts_of : Stmt-F GrownStmt GrownPlaced → Stmt-F Stmt Placed
stmts_of = map-Stmt GrownStmt GrownPlaced Stmt Placed (λ s. s.0) (λ p. p.0)

abbrev lowerings_of : Stmt-F Stmt Placed → Stmt-F (Place → Lowering) Lowering
lowerings_of = map-Stmt Stmt Placed (Place → Lowering) Lowering (fold-Stmt (Place → Lowering) Lowering lowering_step placed_step) lowering_of

every : (ps : List GrownPlaced) → Each LowerGrows (map lowering_of (map (λ (p : GrownPlaced). p.0) ps))
every [] = tt
every (p ∷ ps) = (p.1, every ps)

hoist_edge_grows : (e : Expr) (place : Place) (node : ℕ) (d : FlowGraph) (act : Action) (to : ℕ) → node < next_node d → Grown (next_node d) node d (with_edge (hoisted_expr e place node d).1.at act to (hoisted_expr e place node d).1.flow)
hoist_edge_grows e place node d act to h = hoist_then_edge node d (hoisted_expr e place node d).1 act to (hoists_expr e place node d h)

layer_grows : (y : Stmt-F GrownStmt GrownPlaced) (place : Place) → LowerGrows (lowering_step (lowerings_of (stmts_of y)) place)
layer_grows (Stmt-F.Declare x None) place r d h = grown_edge (next_node d) r.from d r.from _ r.to
layer_grows (Stmt-F.Declare x (Some e)) place r d h = hoist_edge_grows e place r.from d _ r.to h
layer_grows (Stmt-F.DeclareThread x) place r d h = grown_edge (next_node d) r.from d r.from _ r.to
layer_grows (Stmt-F.Assign (Target.Local x) e) place r d h = hoist_edge_grows e place r.from d _ r.to h
layer_grows (Stmt-F.Assign (Target.Global g) e) place r d h = hoist_edge_grows e place r.from d _ r.to h
layer_grows (Stmt-F.CallOnly f args) place r d h = hoist_then_edge r.from d (hoisted_exprs args place r.from d).1 _ r.to (hoists_exprs args place r.from d h)
layer_grows (Stmt-F.If e a None) place r d h = if_one_grows (lowering_of a.0) a.1 r d (hoisted_expr e place r.from d) h (hoists_expr e place r.from d h)
layer_grows (Stmt-F.If e a (Some b)) place r d h = if_two_grows (lowering_of a.0) (lowering_of b.0) a.1 b.1 r d (hoisted_expr e place r.from d) h (hoists_expr e place r.from d h)
layer_grows (Stmt-F.While e body) place r d h = while_grows (lowering_of body.0) body.1 r d (hoisted_expr e place r.from d) h (hoists_expr e place r.from d h)
layer_grows (Stmt-F.DoWhile body e) place r d h = do_grows (lowering_of body.0) e place body.1 r d h
layer_grows (Stmt-F.For first test None body) place r d h = for_grows (map lowering_of (map (λ (p : GrownPlaced). p.0) first)) test None (lowering_of body.0) place (every first) tt body.1 r d h
layer_grows (Stmt-F.For first test (Some last) body) place r d h = for_grows (map lowering_of (map (λ (p : GrownPlaced). p.0) first)) test (Some (lowering_of last.0)) (lowering_of body.0) place (every first) last.1 body.1 r d h
layer_grows (Stmt-F.Block all) place r d h = sequence_grows (map lowering_of (map (λ (p : GrownPlaced). p.0) all)) (every all) r d h
layer_grows Stmt-F.Break place r d h = grown_edge (next_node d) r.from d r.from _ r.on_break
layer_grows Stmt-F.Continue place r d h = grown_edge (next_node d) r.from d r.from _ r.on_continue
layer_grows (Stmt-F.Return None) place r d h = grown_edge (next_node d) r.from d r.from _ 1
layer_grows (Stmt-F.Return (Some e)) place r d h = hoist_edge_grows e place r.from d _ 1 h
layer_grows (Stmt-F.Create x f) place r d h = grown_edge (next_node d) r.from d r.from _ r.to
layer_grows (Stmt-F.Join x) place r d h = grown_edge (next_node d) r.from d r.from _ r.to
layer_grows (Stmt-F.Lock m) place r d h = grown_edge (next_node d) r.from d r.from _ r.to
layer_grows (Stmt-F.Unlock m) place r d h = grown_edge (next_node d) r.from d r.from _ r.to
layer_grows (Stmt-F.Assert e) place r d h = hoist_edge_grows e place r.from d _ r.to h
layer_grows Stmt-F.Empty place r d h = grown_edge (next_node d) r.from d r.from _ r.to

stmt_rolled : (x : Stmt-F Stmt Placed) (y : Stmt-F GrownStmt GrownPlaced) → stmts_of y ≡ x → StmtGrows (roll-Stmt x)
stmt_rolled x y e place =
    let same = fold-roll-Stmt (Place → Lowering) Lowering lowering_step placed_step x in
    subst LowerGrows (sym (ap (λ (f : Place → Lowering). f place) same))
    (subst (λ (z : Stmt-F Stmt Placed). LowerGrows (lowering_step (lowerings_of z) place)) e (layer_grows y place))

placed_rolled : (x : Placed-F Stmt Placed) (y : Placed-F GrownStmt GrownPlaced) → map-Placed GrownStmt GrownPlaced Stmt Placed (λ s. s.0) (λ p. p.0) y ≡ x → PlacedGrows (roll-Placed x)
placed_rolled x y e =
    subst (λ (z : Placed-F Stmt Placed). PlacedGrows (roll-Placed z)) e
    (subst LowerGrows (sym (fold-roll-Placed (Place → Lowering) Lowering lowering_step placed_step (record { place = y.place; stmt = y.stmt.0 }))) (y.stmt.1 y.place))

lowerings_grow : (p : Placed) → PlacedGrows p
lowerings_grow = ind-Placed StmtGrows PlacedGrows stmt_rolled placed_rolled

-- ---- functions

every_grows : (ps : List Placed) → Each LowerGrows (map lowering_of ps)
every_grows [] = tt
every_grows (p ∷ ps) = (lowerings_grow p, every_grows ps)

-- the first edge leads upwards
first_ranked : (f : Function) → Ranked (first_flow f).edges
first_ranked f = record { rank = λ n. n; rises = ((λ s. omega arith), tt) }

pub function_ranked : (f : Function) → Ranked (flow_of f).edges
function_ranked f = (sequence_grows (map lowering_of f.body) (every_grows f.body) body_route (first_flow f) (omega arith)).ranked ((λ s. (omega arith, omega arith)), tt) (first_ranked f)

-- a path of silent edges leads to a higher rank
edge_rises : (edges : List MarkedEdge) (r : Ranked edges) (d : MarkedEdge) → Contains edges d → d.silent ≡ true → r.rank d.edge.from < r.rank d.edge.to
edge_rises edges r d c s = subst (λ (z : MarkedEdge). z.silent ≡ true → r.rank z.edge.from < r.rank z.edge.to) c.2 (each_at (λ z. z.silent ≡ true → r.rank z.edge.from < r.rank z.edge.to) edges r.rises c.0 d c.1) s

path_rises : (edges : List MarkedEdge) (r : Ranked edges) (from to : ℕ) → SilentPath edges from to → r.rank from < r.rank to
path_rises edges r from to (path_end d c s) = edge_rises edges r d c s
path_rises edges r from to (first_edge d end c s rest) =
    let a = edge_rises edges r d c s in
    let b = path_rises edges r d.edge.to end rest in
    omega (arith, a, b)

pub silent_edges_end : SilentEdgesEnd
silent_edges_end f node path = let r = function_ranked f in absurd (omega (arith, path_rises (flow_of f).edges r node node path))

-- all that is added to the first graph leads to a new node, and the first edge to node 2
inside : (f : Function) → Ends (λ from to. 2 ≤ to) (flow_of f).edges
inside f =
    let g = (sequence_grows (map lowering_of f.body) (every_grows f.body) body_route (first_flow f) (omega arith)).adds in
    subst (Ends (λ from to. 2 ≤ to)) (sym g.edges)
    (ends_append (λ from to. 2 ≤ to) (first_flow f).edges g.added
    ((λ s. omega arith), tt)
    (ends_map (IsNew (next_node (first_flow f)) 2 (next_node (flow_of f))) (λ from to. 2 ≤ to) (λ from to e. omega (arith, e.0)) g.added g.ends))

pub silent_edges_stay_inside : SilentEdgesStayInside
silent_edges_stay_inside f d c s =
    subst (λ (z : MarkedEdge). z.silent ≡ true → 2 ≤ z.edge.to) c.2
    (each_at (λ z. z.silent ≡ true → 2 ≤ z.edge.to) (flow_of f).edges (inside f) c.0 d c.1) s
