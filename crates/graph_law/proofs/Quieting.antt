-- What is drawn silently leaves named slots alone.
use Rattle.std.proofs.Common.{◌≡◌, refl, sym, ap, subst, ℕ, pos, ◌+◌, ◌≤◌, Bool, true, false, List, [], ◌∷◌, ◌++◌, length, map, Option, None, Some, arith}
use Rattle.std.specs.Prelude.{if◌then◌else◌}
use Rattle.std.specs.Option.{option_map_or}
use Rattle.gob_tree.specs.declared.place.Place.{Place}
use Rattle.gob_tree.specs.declared.expr.Width.{Width}
use Rattle.gob_tree.specs.declared.expr.Width.TheVariants.{W32}
use Rattle.gob_tree.specs.declared.expr.BinOp.{BinOp}
use Rattle.gob_tree.specs.declared.expr.BinOp.TheVariants.{Ne}
use Rattle.gob_tree.specs.declared.expr.Expr.{Expr, Number, Binary}
use Rattle.gob_tree.specs.declared.stmt.Target.{Target}
use Rattle.gob_tree.specs.declared.stmt.Stmt.{Stmt, fold-Stmt, fold-roll-Stmt, map-Stmt, roll-Stmt}
use Rattle.gob_tree.specs.declared.stmt.Stmt.TheOpen.{Stmt-F, Placed-F}
use Rattle.gob_tree.specs.declared.stmt.Placed.{Placed, fold-roll-Placed, ind-Placed, map-Placed, roll-Placed}
use Rattle.gob_tree.specs.declared.graph.Action.{Action}
use Rattle.gob_tree.specs.declared.graph.Action.TheVariants.{Assign, Guard, Read, Nondet, Call, Skip}
use Rattle.gob_tree.proofs.Folds.{fold-Number, fold-Local, fold-Global, fold-Nondet, fold-Unary, fold-Binary, fold-Call}
use Rattle.gob_tree.proofs.Induct.{Each, by_forms}
use Rattle.c_meaning.specs.Demand.{truth}
use Rattle.c_meaning.specs.Graph.{MarkedEdge, FlowGraph, Route, HoistState, Hoisted, Hoisting, Lowering, next_node, with_node, with_edge, with_silent, with_guards, taking, free_temp, temp_slot, with_temp, fetch, stop_of, node_of, logic_at, logic_join, strict_join, binary_join, hoist_all, hoisting_step, hoisting_of, begun_at, hoisted_expr, hoisted_exprs, sequence, sequence_or_silent, part_or_silent, if_head, if_flow, while_head, route_to, route_from, then_route, else_route, while_route, do_route, first_route, for_route, last_route, for_first, for_flow, condition, lowering_step, placed_step, lowering_of, first_flow, body_route, flow_of}
use Rattle.c_meaning.proofs.Growth.{each_at}
use Rattle.graph_law.specs.Quiet.{IsQuiet, SilentEdgesAreQuiet}

each_append : {A : Type 0} (P : A → Type 0) (xs ys : List A) → Each P xs → Each P ys → Each P (xs ++ ys)
each_append P [] ys a b = b
each_append P (x ∷ xs) ys a b = (a.0, each_append P xs ys a.1 b)

-- a graph with so many named slots whose silent edges leave these alone
abbrev IsQuietEdge : ℕ → MarkedEdge → Type 0
IsQuietEdge n e = e.silent ≡ true → IsQuiet n e.edge.act

abbrev Calm : ℕ → FlowGraph → Type 0
Calm n d = (d.named ≡ n) × Each (IsQuietEdge n) d.edges

abbrev HoistCalms : ℕ → Hoisting → Type 0
HoistCalms n h = (place : Place) (s : HoistState) → Calm n s.flow → Calm n (h.hoist place s).1.flow

abbrev LowerCalms : ℕ → Lowering → Type 0
LowerCalms n l = (r : Route) (d : FlowGraph) → Calm n d → Calm n (l.lower r d)

abbrev PartCalms : ℕ → Option Lowering → Type 0
PartCalms n None = Unit {0}
PartCalms n (Some l) = LowerCalms n l

abbrev StmtCalms : ℕ → Stmt → Type 0
StmtCalms n s = (place : Place) → LowerCalms n (fold-Stmt (Place → Lowering) Lowering lowering_step placed_step s place)

abbrev PlacedCalms : ℕ → Placed → Type 0
PlacedCalms n p = LowerCalms n (lowering_of p)

abbrev CalmStmt : ℕ → Type 0
CalmStmt n = (s : Stmt) × StmtCalms n s

abbrev CalmPlaced : ℕ → Type 0
CalmPlaced n = (p : Placed) × PlacedCalms n p

abbrev stmts_of : (n : ℕ) → Stmt-F (CalmStmt n) (CalmPlaced n) → Stmt-F Stmt Placed
stmts_of n = map-Stmt (CalmStmt n) (CalmPlaced n) Stmt Placed (λ s. s.0) (λ p. p.0)

abbrev lowerings_of : Stmt-F Stmt Placed → Stmt-F (Place → Lowering) Lowering
lowerings_of = map-Stmt Stmt Placed (Place → Lowering) Lowering (fold-Stmt (Place → Lowering) Lowering lowering_step placed_step) lowering_of

module _ (n : ℕ) where
  visible : (from : ℕ) (act : Action) (to : ℕ) (d : FlowGraph) → Calm n d → Calm n (with_edge from act to d)
  visible from act to d c = (c.0, each_append (IsQuietEdge n) d.edges _ c.1 ((λ s. cc), tt))

  quiet : (from : ℕ) (act : Action) (to : ℕ) (d : FlowGraph) → IsQuiet n act → Calm n d → Calm n (with_silent from act to d)
  quiet from act to d q c = (c.0, each_append (IsQuietEdge n) d.edges _ c.1 ((λ s. q), tt))

  guards_calm : (from : ℕ) (e : Expr) (p q : ℕ) (d : FlowGraph) → Calm n d → Calm n (with_guards from e p q d)
  guards_calm from e p q d c = visible from (Guard e false) q (with_edge from (Guard e true) p d) (visible from (Guard e true) p d c)

  -- ---- hoisting

  temp_calm : (w : Width) (o : Option ℕ) (s : HoistState) → Calm n s.flow → Calm n (taking w o s).flow
  temp_calm w None s c = (c.0, c.1)
  temp_calm w (Some k) s c = c

  fetch_calm : (place : Place) (w : Width) (act : ℕ → Action) (s : HoistState) → Calm n s.flow → Calm n (fetch place w act s).1.flow
  fetch_calm place w act s c =
      let t = temp_calm w (free_temp w s) s c in
      visible (with_temp w s).at (act (temp_slot w s)) (next_node (with_temp w s).flow) (with_node place (with_temp w s).flow) (t.0, t.1)

  all_calm : (es : List Hoisting) → Each (HoistCalms n) es → (place : Place) (s : HoistState) → Calm n s.flow → Calm n (hoist_all es place s).1.flow
  all_calm [] all place s c = c
  all_calm (e ∷ es) all place s c = all_calm es all.1 place (e.hoist place s).1 (all.0 place s c)

  logic_calm : (stop : Bool) (right : Hoisting) (place : Place) (t p : ℕ) (l : Expr) (s : HoistState) → n ≤ t → HoistCalms n right → Calm n s.flow → Calm n (logic_at stop right place t p l s).1.flow
  logic_calm stop right place t p l s low hr c =
      let nodes = with_node place (with_node place (with_node place s.flow)) in
      let one = with_silent s.at (Guard l true) p nodes in
      let two = with_silent s.at (Guard l false) (p + 1) one in
      let decided = with_silent (node_of stop p (p + 1)) (Assign t (Number (truth stop) W32)) (p + 2) two in
      let from : HoistState = record s { flow = decided; at = node_of stop (p + 1) p } in
      let r = right.hoist place from in
      quiet r.1.at (Assign t (Binary Ne r.0 (Number (pos 0) W32))) (p + 2) r.1.flow low
      (hr place from (quiet (node_of stop p (p + 1)) (Assign t (Number (truth stop) W32)) (p + 2) two low (quiet s.at (Guard l false) (p + 1) one tt (quiet s.at (Guard l true) p nodes tt (c.0, c.1)))))

  if_inputs_calm : (inputs : Bool) (op : BinOp) (stop : Bool) (right : Hoisting) (place : Place) (x : Hoisted Expr) → HoistCalms n right → Calm n x.1.flow → Calm n (if inputs then logic_join stop right place x else strict_join op right place x).1.flow
  if_inputs_calm true op stop right place x hr c =
      let named = c.0 in
      logic_calm stop right place (temp_slot W32 x.1) (next_node x.1.flow) x.0 (with_temp W32 x.1) (omega (arith, named)) hr (temp_calm W32 (free_temp W32 x.1) x.1 c)
  if_inputs_calm false op stop right place x hr c = hr place x.1 c

  binary_calm : (o : Option Bool) (op : BinOp) (right : Hoisting) (place : Place) (x : Hoisted Expr) → HoistCalms n right → Calm n x.1.flow → Calm n (binary_join op o right place x).1.flow
  binary_calm None op right place x hr c = hr place x.1 c
  binary_calm (Some stop) op right place x hr c = if_inputs_calm right.inputs op stop right place x hr c

  each_calm : (args : List Expr) → Each (λ e. HoistCalms n (hoisting_of e)) args → Each (HoistCalms n) (map hoisting_of args)
  each_calm [] a = tt
  each_calm (e ∷ es) a = (a.0, each_calm es a.1)

  hoists_calm : (e : Expr) → HoistCalms n (hoisting_of e)
  hoists_calm = by_forms (λ e. HoistCalms n (hoisting_of e))
      (λ k w. subst (HoistCalms n) (sym (fold-Number Hoisting hoisting_step k w)) (λ place s c. c))
      (λ x. subst (HoistCalms n) (sym (fold-Local Hoisting hoisting_step x)) (λ place s c. c))
      (λ g w. subst (HoistCalms n) (sym (fold-Global Hoisting hoisting_step g w)) (λ place s c. fetch_calm place w (λ t. Read t g) s c))
      (λ w. subst (HoistCalms n) (sym (fold-Nondet Hoisting hoisting_step w)) (λ place s c. fetch_calm place w (λ t. Nondet t) s c))
      (λ op a ha. subst (HoistCalms n) (sym (fold-Unary Hoisting hoisting_step op a)) ha)
      (λ op a b ha hb. subst (HoistCalms n) (sym (fold-Binary Hoisting hoisting_step op a b))
      (λ place s c. binary_calm (stop_of op) op (hoisting_of b) place ((hoisting_of a).hoist place s) hb (ha place s c)))
      (λ f w args all. subst (HoistCalms n) (sym (fold-Call Hoisting hoisting_step f w args))
      (λ place s c.
      let es = hoist_all (map hoisting_of args) place s in
      fetch_calm place w (λ t. Call (Some t) f es.0) es.1 (all_calm (map hoisting_of args) (each_calm args all) place s c)))

  expr_calm : (e : Expr) (place : Place) (node : ℕ) (d : FlowGraph) → Calm n d → Calm n (hoisted_expr e place node d).1.flow
  expr_calm e place node d c = hoists_calm e place (begun_at node d) c

  every_hoist : (es : List Expr) → Each (HoistCalms n) (map hoisting_of es)
  every_hoist [] = tt
  every_hoist (e ∷ es) = (hoists_calm e, every_hoist es)

  exprs_calm : (es : List Expr) (place : Place) (node : ℕ) (d : FlowGraph) → Calm n d → Calm n (hoisted_exprs es place node d).1.flow
  exprs_calm es place node d c = all_calm (map hoisting_of es) (every_hoist es) place (begun_at node d) c

  -- ---- statements

  sequence_calm : (ls : List Lowering) → Each (LowerCalms n) ls → (r : Route) (d : FlowGraph) → Calm n d → Calm n (sequence ls r d)
  sequence_calm [] all r d c = visible r.from Skip r.to d c
  sequence_calm (s ∷ []) all r d c = all.0 r d c
  sequence_calm (s ∷ s' ∷ ss) all r d c =
      sequence_calm (s' ∷ ss) all.1 (route_from (next_node d) r) (s.lower (route_to (next_node d) r) (with_node s'.start d)) (all.0 (route_to (next_node d) r) (with_node s'.start d) (c.0, c.1))

  some_calm : (ls : List Lowering) → Each (LowerCalms n) ls → (r : Route) (d : FlowGraph) → Calm n d → Calm n (sequence_or_silent ls r d)
  some_calm [] all r d c = quiet r.from Skip r.to d tt c
  some_calm (s ∷ ss) all r d c = sequence_calm (s ∷ ss) all r d c

  part_calm : (last : Option Lowering) → PartCalms n last → (r : Route) (d : FlowGraph) → Calm n d → Calm n (part_or_silent last r d)
  part_calm None all r d c = quiet r.from Skip r.to d tt c
  part_calm (Some l) all r d c = all r d c

  if_calm : (a : Lowering) (b : Option Lowering) → LowerCalms n a → PartCalms n b → (r : Route) (e : Hoisted Expr) → Calm n e.1.flow → Calm n (if_flow a b r e)
  if_calm a None la lb r e c = la (then_route r e) (if_head a.start None r.to e) (guards_calm e.1.at e.0 (next_node e.1.flow) r.to (with_node a.start e.1.flow) (c.0, c.1))
  if_calm a (Some b) la lb r e c =
      let head = if_head a.start (Some b.start) r.to e in
      lb (else_route r e) (a.lower (then_route r e) head)
      (la (then_route r e) head (guards_calm e.1.at e.0 (next_node e.1.flow) (next_node e.1.flow + 1) (with_node b.start (with_node a.start e.1.flow)) (c.0, c.1)))

  for_calm : (test : Option Expr) (last : Option Lowering) (b : Lowering) → PartCalms n last → LowerCalms n b → (place : Place) (h : ℕ) (r : Route) (d : FlowGraph) → Calm n d → Calm n (for_flow last b place h r (hoisted_expr (condition test) place h d))
  for_calm test last b ll lb place h r d c =
      let e = hoisted_expr (condition test) place h d in
      let k = expr_calm (condition test) place h d c in
      part_calm last ll (last_route r h e) _ (lb (for_route r e) _ (guards_calm e.1.at e.0 (next_node e.1.flow) r.to (with_node (option_map_or (λ s. s.start) last place) (with_node b.start e.1.flow)) (k.0, k.1)))

  every : (ps : List (CalmPlaced n)) → Each (LowerCalms n) (map lowering_of (map (λ (p : CalmPlaced n). p.0) ps))
  every [] = tt
  every (p ∷ ps) = (p.1, every ps)

  layer_calms : (y : Stmt-F (CalmStmt n) (CalmPlaced n)) (place : Place) → LowerCalms n (lowering_step (lowerings_of (stmts_of n y)) place)
  layer_calms (Stmt-F.Declare x None) place r d c = visible r.from _ r.to d c
  layer_calms (Stmt-F.Declare x (Some e)) place r d c = visible (hoisted_expr e place r.from d).1.at _ r.to (hoisted_expr e place r.from d).1.flow (expr_calm e place r.from d c)
  layer_calms (Stmt-F.DeclareThread x) place r d c = visible r.from _ r.to d c
  layer_calms (Stmt-F.Assign (Target.Local x) e) place r d c = visible (hoisted_expr e place r.from d).1.at _ r.to (hoisted_expr e place r.from d).1.flow (expr_calm e place r.from d c)
  layer_calms (Stmt-F.Assign (Target.Global g) e) place r d c = visible (hoisted_expr e place r.from d).1.at _ r.to (hoisted_expr e place r.from d).1.flow (expr_calm e place r.from d c)
  layer_calms (Stmt-F.CallOnly g args) place r d c = visible (hoisted_exprs args place r.from d).1.at _ r.to (hoisted_exprs args place r.from d).1.flow (exprs_calm args place r.from d c)
  layer_calms (Stmt-F.If e a None) place r d c = if_calm (lowering_of a.0) None a.1 tt r (hoisted_expr e place r.from d) (expr_calm e place r.from d c)
  layer_calms (Stmt-F.If e a (Some b)) place r d c = if_calm (lowering_of a.0) (Some (lowering_of b.0)) a.1 b.1 r (hoisted_expr e place r.from d) (expr_calm e place r.from d c)
  layer_calms (Stmt-F.While e body) place r d c = let x = hoisted_expr e place r.from d in body.1 (while_route r x) (while_head (lowering_of body.0).start r.to x) (guards_calm x.1.at x.0 (next_node x.1.flow) r.to (with_node (lowering_of body.0).start x.1.flow) (expr_calm e place r.from d c))
  layer_calms (Stmt-F.DoWhile body e) place r d c = let m = (lowering_of body.0).lower (do_route r (next_node d)) (with_node place d) in let x = hoisted_expr e place (next_node d) m in guards_calm x.1.at x.0 r.from r.to x.1.flow (expr_calm e place (next_node d) m (body.1 (do_route r (next_node d)) (with_node place d) c))
  layer_calms (Stmt-F.For first test None body) place r d c = for_calm test None (lowering_of body.0) tt body.1 place (next_node d) r (for_first (map lowering_of (map (λ (p : CalmPlaced n). p.0) first)) place r d) (some_calm (map lowering_of (map (λ (p : CalmPlaced n). p.0) first)) (every first) (first_route r (next_node d)) (with_node place d) c)
  layer_calms (Stmt-F.For first test (Some last) body) place r d c = for_calm test (Some (lowering_of last.0)) (lowering_of body.0) last.1 body.1 place (next_node d) r (for_first (map lowering_of (map (λ (p : CalmPlaced n). p.0) first)) place r d) (some_calm (map lowering_of (map (λ (p : CalmPlaced n). p.0) first)) (every first) (first_route r (next_node d)) (with_node place d) c)
  layer_calms (Stmt-F.Block all) place r d c = sequence_calm (map lowering_of (map (λ (p : CalmPlaced n). p.0) all)) (every all) r d c
  layer_calms Stmt-F.Break place r d c = visible r.from _ r.on_break d c
  layer_calms Stmt-F.Continue place r d c = visible r.from _ r.on_continue d c
  layer_calms (Stmt-F.Return None) place r d c = visible r.from _ 1 d c
  layer_calms (Stmt-F.Return (Some e)) place r d c = visible (hoisted_expr e place r.from d).1.at _ 1 (hoisted_expr e place r.from d).1.flow (expr_calm e place r.from d c)
  layer_calms (Stmt-F.Create x g) place r d c = visible r.from _ r.to d c
  layer_calms (Stmt-F.Join x) place r d c = visible r.from _ r.to d c
  layer_calms (Stmt-F.Lock m) place r d c = visible r.from _ r.to d c
  layer_calms (Stmt-F.Unlock m) place r d c = visible r.from _ r.to d c
  layer_calms (Stmt-F.Assert e) place r d c = visible (hoisted_expr e place r.from d).1.at _ r.to (hoisted_expr e place r.from d).1.flow (expr_calm e place r.from d c)
  layer_calms Stmt-F.Empty place r d c = visible r.from _ r.to d c

  stmt_rolled : (x : Stmt-F Stmt Placed) (y : Stmt-F (CalmStmt n) (CalmPlaced n)) → stmts_of n y ≡ x → StmtCalms n (roll-Stmt x)
  stmt_rolled x y e place =
      let same = fold-roll-Stmt (Place → Lowering) Lowering lowering_step placed_step x in
      subst (LowerCalms n) (sym (ap (λ (f : Place → Lowering). f place) same))
      (subst (λ (z : Stmt-F Stmt Placed). LowerCalms n (lowering_step (lowerings_of z) place)) e (layer_calms y place))

  placed_rolled : (x : Placed-F Stmt Placed) (y : Placed-F (CalmStmt n) (CalmPlaced n)) → map-Placed (CalmStmt n) (CalmPlaced n) Stmt Placed (λ s. s.0) (λ p. p.0) y ≡ x → PlacedCalms n (roll-Placed x)
  placed_rolled x y e =
      subst (λ (z : Placed-F Stmt Placed). PlacedCalms n (roll-Placed z)) e
      (subst (LowerCalms n) (sym (fold-roll-Placed (Place → Lowering) Lowering lowering_step placed_step (record { place = y.place; stmt = y.stmt.0 }))) (y.stmt.1 y.place))

  lowerings_calm : (p : Placed) → PlacedCalms n p
  lowerings_calm = ind-Placed (StmtCalms n) (PlacedCalms n) stmt_rolled placed_rolled

  every_placed : (ps : List Placed) → Each (LowerCalms n) (map lowering_of ps)
  every_placed [] = tt
  every_placed (p ∷ ps) = (lowerings_calm p, every_placed ps)

pub silent_edges_are_quiet : SilentEdgesAreQuiet
silent_edges_are_quiet f d c s =
    let n = length f.slots in
    let calm = sequence_calm n (map lowering_of f.body) (every_placed n f.body) body_route (first_flow f) (refl, ((λ q. tt), tt)) in
    subst (λ (z : MarkedEdge). z.silent ≡ true → IsQuiet n z.edge.act) c.2 (each_at (IsQuietEdge n) (flow_of f).edges calm.1 c.0 d c.1) s
