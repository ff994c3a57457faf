-- Lowering adds temporaries, nodes and edges behind those that are there, and at most two edges a
-- node.
use Rattle.std.proofs.Common.{◌≡◌, refl, sym, ap, ◌∙◌, subst, ℕ, pos, ◌+◌, ◌*◌, ◌≤◌, Bool, true, false, List, [], ◌∷◌, ◌++◌, length, map, Option, None, Some, arith, append_assoc, length-append}
use Rattle.std.specs.Prelude.{if◌then◌else◌}
use Rattle.std.specs.Option.{option_map_or}
use Rattle.gob_tree.specs.declared.place.Place.{Place}
use Rattle.gob_tree.specs.declared.expr.Width.{Width}
use Rattle.gob_tree.specs.declared.expr.Width.TheVariants.{W32}
use Rattle.gob_tree.specs.declared.expr.BinOp.{BinOp}
use Rattle.gob_tree.specs.declared.expr.BinOp.TheVariants.{Ne}
use Rattle.gob_tree.specs.declared.expr.Expr.{Expr, Number, Binary}
use Rattle.gob_tree.specs.declared.stmt.Target.{Target}
use Rattle.gob_tree.specs.declared.stmt.Stmt.{Stmt, fold-Stmt, fold-roll-Stmt, map-Stmt, roll-Stmt}
use Rattle.gob_tree.specs.declared.stmt.Stmt.TheOpen.{Stmt-F, Placed-F}
use Rattle.gob_tree.specs.declared.stmt.Placed.{Placed, fold-roll-Placed, ind-Placed, map-Placed, roll-Placed}
use Rattle.gob_tree.specs.declared.graph.Action.{Action}
use Rattle.gob_tree.specs.declared.graph.Action.TheVariants.{Assign, Guard, Read, Nondet, Call, Skip}
use Rattle.gob_tree.proofs.Folds.{fold-Number, fold-Local, fold-Global, fold-Nondet, fold-Unary, fold-Binary, fold-Call}
use Rattle.gob_tree.proofs.Induct.{Each, by_forms}
use Rattle.c_meaning.specs.Demand.{truth}
use Rattle.c_meaning.specs.Graph.{FlowGraph, Route, HoistState, Hoisted, Hoisting, Lowering, next_node, with_node, with_marked, with_guards, taking, free_temp, temp_slot, with_temp, fetch, stop_of, node_of, logic_at, logic_join, strict_join, binary_join, hoist_all, hoisting_step, hoisting_of, begun_at, hoisted_expr, hoisted_exprs, sequence, sequence_or_silent, part_or_silent, if_head, if_flow, while_head, while_flow, route_to, route_from, then_route, else_route, while_route, do_route, first_route, for_route, last_route, do_flow, for_first, for_head, for_flow, condition, lowering_step, placed_step, lowering_of}

-- one graph has become another, whose edges are so many less than two for each new node, or more
pub record Grew (less more : ℕ) (d d' : FlowGraph) : Type 0 where
  pub added : List Width
  pub temps : d'.temps ≡ d.temps ++ added
  pub named : d'.named ≡ d.named
  pub nodes : next_node d ≤ next_node d'
  pub few : length d'.edges + 2 * next_node d + less ≤ length d.edges + 2 * next_node d' + more

pub append_none : {A : Type 0} (xs : List A) → xs ≡ xs ++ []
append_none [] = refl
append_none (x ∷ xs) = ap (λ l. x ∷ l) (append_none xs)

pub grew_none : (d : FlowGraph) → Grew 0 0 d d
grew_none d = record { added = []; temps = append_none d.temps; named = refl; nodes = omega arith; few = omega arith }

pub grew_then : {l m l' m' : ℕ} {a b c : FlowGraph} → Grew l m a b → Grew l' m' b c → Grew (l + l') (m + m') a c
grew_then {l} {m} {l'} {m'} {a} {b} {c} g h = record {
  added = g.added ++ h.added;
  temps = h.temps ∙ ap (λ (ws : List Width). ws ++ h.added) g.temps ∙ append_assoc a.temps g.added h.added;
  named = h.named ∙ g.named;
  nodes = let p = g.nodes in let q = h.nodes in omega (arith, p, q);
  few = let p = g.few in let q = h.few in omega (arith, p, q);
}

pub grew_as : {l m : ℕ} {a b : FlowGraph} (l' m' : ℕ) → l' + m ≤ l + m' → Grew l m a b → Grew l' m' a b
grew_as {l} {m} {a} {b} l' m' h g = record {
  added = g.added;
  temps = g.temps;
  named = g.named;
  nodes = g.nodes;
  few = let p = g.few in omega (arith, p, h);
}

pub grew_node : (place : Place) (d : FlowGraph) → Grew 2 0 d (with_node place d)
grew_node place d = record {
  added = [];
  temps = append_none d.temps;
  named = refl;
  nodes = let e = length-append d.nodes (place ∷ []) in omega (arith, e);
  few = let e = length-append d.nodes (place ∷ []) in omega (arith, e);
}

pub grew_edge : (silent : Bool) (from : ℕ) (act : Action) (to : ℕ) (d : FlowGraph) → Grew 0 1 d (with_marked silent from act to d)
grew_edge silent from act to d = record {
  added = [];
  temps = append_none d.temps;
  named = refl;
  nodes = omega arith;
  few = let e = length-append d.edges (record { edge = record { from = from; act = act; to = to }; silent = silent } ∷ []) in omega (arith, e);
}

pub grew_guards : (silent : Bool) (from : ℕ) (e : Expr) (p q : ℕ) (d : FlowGraph) → Grew 0 2 d (with_marked silent from (Guard e false) q (with_marked silent from (Guard e true) p d))
grew_guards silent from e p q d = grew_then (grew_edge silent from (Guard e true) p d) (grew_edge silent from (Guard e false) q (with_marked silent from (Guard e true) p d))

-- ---- hoisting

abbrev pub HoistGrew : Hoisting → Type 0
HoistGrew h = (place : Place) (s : HoistState) → Grew 0 0 s.flow (h.hoist place s).1.flow

pub temp_grew : (w : Width) (o : Option ℕ) (s : HoistState) → Grew 0 0 s.flow (taking w o s).flow
temp_grew w None s = record { added = w ∷ []; temps = refl; named = refl; nodes = omega arith; few = omega arith }
temp_grew w (Some k) s = grew_none s.flow

pub fetch_grew : (place : Place) (w : Width) (act : ℕ → Action) (s : HoistState) → Grew 0 0 s.flow (fetch place w act s).1.flow
fetch_grew place w act s =
    let t = with_temp w s in
    grew_as 0 0 (omega arith)
    (grew_then (temp_grew w (free_temp w s) s)
    (grew_then (grew_node place t.flow) (grew_edge false t.at (act (temp_slot w s)) (next_node t.flow) (with_node place t.flow))))

pub all_grew : (es : List Hoisting) → Each HoistGrew es → (place : Place) (s : HoistState) → Grew 0 0 s.flow (hoist_all es place s).1.flow
all_grew [] all place s = grew_none s.flow
all_grew (e ∷ es) all place s = grew_then (all.0 place s) (all_grew es all.1 place (e.hoist place s).1)

-- three nodes, the guards, and the edge of the side that decides
pub decided_grew : (stop : Bool) (place : Place) (t p : ℕ) (l : Expr) (s : HoistState)
    → Grew 3 0 s.flow (with_marked true (node_of stop p (p + 1)) (Assign t (Number (truth stop) W32)) (p + 2) (with_marked true s.at (Guard l false) (p + 1) (with_marked true s.at (Guard l true) p (with_node place (with_node place (with_node place s.flow))))))
decided_grew stop place t p l s =
    let one = with_node place s.flow in
    let two = with_node place one in
    let nodes = with_node place two in
    let guards = with_marked true s.at (Guard l false) (p + 1) (with_marked true s.at (Guard l true) p nodes) in
    grew_as 3 0 (omega arith)
    (grew_then (grew_node place s.flow)
    (grew_then (grew_node place one)
    (grew_then (grew_node place two)
    (grew_then (grew_guards true s.at l p (p + 1) nodes) (grew_edge true (node_of stop p (p + 1)) (Assign t (Number (truth stop) W32)) (p + 2) guards)))))

logic_grew : (stop : Bool) (right : Hoisting) (place : Place) (t p : ℕ) (l : Expr) (s : HoistState) → HoistGrew right → Grew 0 0 s.flow (logic_at stop right place t p l s).1.flow
logic_grew stop right place t p l s hr =
    let guards = with_marked true s.at (Guard l false) (p + 1) (with_marked true s.at (Guard l true) p (with_node place (with_node place (with_node place s.flow)))) in
    let decided = with_marked true (node_of stop p (p + 1)) (Assign t (Number (truth stop) W32)) (p + 2) guards in
    let from : HoistState = record s { flow = decided; at = node_of stop (p + 1) p } in
    let r = right.hoist place from in
    grew_as 0 0 (omega arith)
    (grew_then (decided_grew stop place t p l s)
    (grew_then (hr place from) (grew_edge true r.1.at (Assign t (Binary Ne r.0 (Number (pos 0) W32))) (p + 2) r.1.flow)))

if_inputs_grew : (inputs : Bool) (op : BinOp) (stop : Bool) (right : Hoisting) (place : Place) (x : Hoisted Expr) → HoistGrew right → Grew 0 0 x.1.flow (if inputs then logic_join stop right place x else strict_join op right place x).1.flow
if_inputs_grew true op stop right place x hr =
    grew_then (temp_grew W32 (free_temp W32 x.1) x.1)
    (logic_grew stop right place (temp_slot W32 x.1) (next_node x.1.flow) x.0 (with_temp W32 x.1) hr)
if_inputs_grew false op stop right place x hr = hr place x.1

pub binary_grew : (o : Option Bool) (op : BinOp) (right : Hoisting) (place : Place) (x : Hoisted Expr) → HoistGrew right → Grew 0 0 x.1.flow (binary_join op o right place x).1.flow
binary_grew None op right place x hr = hr place x.1
binary_grew (Some stop) op right place x hr = if_inputs_grew right.inputs op stop right place x hr

each_grew : (args : List Expr) → Each (λ e. HoistGrew (hoisting_of e)) args → Each HoistGrew (map hoisting_of args)
each_grew [] a = tt
each_grew (e ∷ es) a = (a.0, each_grew es a.1)

pub hoists_grow : (e : Expr) → HoistGrew (hoisting_of e)
hoists_grow = by_forms (λ e. HoistGrew (hoisting_of e))
    (λ n w. subst HoistGrew (sym (fold-Number Hoisting hoisting_step n w)) (λ place s. grew_none s.flow))
    (λ x. subst HoistGrew (sym (fold-Local Hoisting hoisting_step x)) (λ place s. grew_none s.flow))
    (λ g w. subst HoistGrew (sym (fold-Global Hoisting hoisting_step g w)) (λ place s. fetch_grew place w (λ t. Read t g) s))
    (λ w. subst HoistGrew (sym (fold-Nondet Hoisting hoisting_step w)) (λ place s. fetch_grew place w (λ t. Nondet t) s))
    (λ op a ha. subst HoistGrew (sym (fold-Unary Hoisting hoisting_step op a)) ha)
    (λ op a b ha hb. subst HoistGrew (sym (fold-Binary Hoisting hoisting_step op a b))
    (λ place s. grew_then (ha place s) (binary_grew (stop_of op) op (hoisting_of b) place ((hoisting_of a).hoist place s) hb)))
    (λ f w args all. subst HoistGrew (sym (fold-Call Hoisting hoisting_step f w args))
    (λ place s.
    let es = hoist_all (map hoisting_of args) place s in
    grew_then (all_grew (map hoisting_of args) (each_grew args all) place s) (fetch_grew place w (λ t. Call (Some t) f es.0) es.1)))

pub expr_grew : (e : Expr) (place : Place) (node : ℕ) (d : FlowGraph) → Grew 0 0 d (hoisted_expr e place node d).1.flow
expr_grew e place node d = hoists_grow e place (begun_at node d)

pub every_hoist : (es : List Expr) → Each HoistGrew (map hoisting_of es)
every_hoist [] = tt
every_hoist (e ∷ es) = (hoists_grow e, every_hoist es)

pub exprs_grew : (es : List Expr) (place : Place) (node : ℕ) (d : FlowGraph) → Grew 0 0 d (hoisted_exprs es place node d).1.flow
exprs_grew es place node d = all_grew (map hoisting_of es) (every_hoist es) place (begun_at node d)

-- ---- statements

abbrev pub LowerGrew : Lowering → Type 0
LowerGrew l = (r : Route) (d : FlowGraph) → Grew 0 2 d (l.lower r d)

abbrev pub PartGrew : Option Lowering → Type 0
PartGrew None = Unit {0}
PartGrew (Some l) = LowerGrew l

-- one edge alone, or after what was hoisted
one_edge : (silent : Bool) (from : ℕ) (act : Action) (to : ℕ) (d : FlowGraph) → Grew 0 2 d (with_marked silent from act to d)
one_edge silent from act to d = grew_as 0 2 (omega arith) (grew_edge silent from act to d)

last_edge : {d : FlowGraph} (s : HoistState) (act : Action) (to : ℕ) → Grew 0 0 d s.flow → Grew 0 2 d (with_marked false s.at act to s.flow)
last_edge s act to g = grew_then g (one_edge false s.at act to s.flow)

pub sequence_grew : (ls : List Lowering) → Each LowerGrew ls → (r : Route) (d : FlowGraph) → Grew 0 2 d (sequence ls r d)
sequence_grew [] all r d = one_edge false r.from Skip r.to d
sequence_grew (s ∷ []) all r d = all.0 r d
sequence_grew (s ∷ s' ∷ ss) all r d =
    let opened = with_node s'.start d in
    let first = route_to (next_node d) r in
    grew_as 0 2 (omega arith)
    (grew_then (grew_node s'.start d)
    (grew_then (all.0 first opened) (sequence_grew (s' ∷ ss) all.1 (route_from (next_node d) r) (s.lower first opened))))

pub some_grew : (ls : List Lowering) → Each LowerGrew ls → (r : Route) (d : FlowGraph) → Grew 0 2 d (sequence_or_silent ls r d)
some_grew [] all r d = one_edge true r.from Skip r.to d
some_grew (s ∷ ss) all r d = sequence_grew (s ∷ ss) all r d

pub part_grew : (last : Option Lowering) → PartGrew last → (r : Route) (d : FlowGraph) → Grew 0 2 d (part_or_silent last r d)
part_grew None all r d = one_edge true r.from Skip r.to d
part_grew (Some l) all r d = all r d

-- the heads of `if`, `while` and `for`
pub one_head_grew : (start : Place) (to : ℕ) (e : Hoisted Expr) → Grew 0 0 e.1.flow (while_head start to e)
one_head_grew start to e = grew_as 0 0 (omega arith) (grew_then (grew_node start e.1.flow) (grew_guards false e.1.at e.0 (next_node e.1.flow) to (with_node start e.1.flow)))

pub two_heads_grew : (start other : Place) (p q : ℕ) (e : Hoisted Expr) → Grew 2 0 e.1.flow (with_guards e.1.at e.0 p q (with_node other (with_node start e.1.flow)))
two_heads_grew start other p q e =
    let one = with_node start e.1.flow in
    grew_as 2 0 (omega arith) (grew_then (grew_node start e.1.flow) (grew_then (grew_node other one) (grew_guards false e.1.at e.0 p q (with_node other one))))

pub if_grew : (a : Lowering) (b : Option Lowering) → LowerGrew a → PartGrew b → (r : Route) (e : Hoisted Expr) → Grew 0 2 e.1.flow (if_flow a b r e)
if_grew a None la lb r e = grew_then (one_head_grew a.start r.to e) (la (then_route r e) (if_head a.start None r.to e))
if_grew a (Some b) la lb r e =
    let head = if_head a.start (Some b.start) r.to e in
    grew_as 0 2 (omega arith)
    (grew_then (two_heads_grew a.start b.start (next_node e.1.flow) (next_node e.1.flow + 1) e)
    (grew_then (la (then_route r e) head) (lb (else_route r e) (a.lower (then_route r e) head))))

pub while_grew : (body : Lowering) → LowerGrew body → (r : Route) (e : Hoisted Expr) → Grew 0 2 e.1.flow (while_flow body r e)
while_grew body lb r e = grew_then (one_head_grew body.start r.to e) (lb (while_route r e) (while_head body.start r.to e))

pub do_grew : (body : Lowering) → LowerGrew body → (e : Expr) (place : Place) (r : Route) (d : FlowGraph) → Grew 0 2 d (do_flow body e place r d)
do_grew body lb e place r d =
    let m = body.lower (do_route r (next_node d)) (with_node place d) in
    let x = hoisted_expr e place (next_node d) m in
    grew_as 0 2 (omega arith)
    (grew_then (grew_node place d)
    (grew_then (lb (do_route r (next_node d)) (with_node place d)) (grew_then (expr_grew e place (next_node d) m) (grew_guards false x.1.at x.0 r.from r.to x.1.flow))))

pub first_grew : (first : List Lowering) → Each LowerGrew first → (place : Place) (r : Route) (d : FlowGraph) → Grew 0 0 d (for_first first place r d)
first_grew first all place r d = grew_as 0 0 (omega arith) (grew_then (grew_node place d) (some_grew first all (first_route r (next_node d)) (with_node place d)))

pub for_grew : (test : Option Expr) (last : Option Lowering) (body : Lowering) → PartGrew last → LowerGrew body → (place : Place) (h : ℕ) (r : Route) (d : FlowGraph) → Grew 0 2 d (for_flow last body place h r (hoisted_expr (condition test) place h d))
for_grew test last body ll lb place h r d =
    let e = hoisted_expr (condition test) place h d in
    let start = option_map_or (λ (s : Lowering). s.start) last place in
    let head = for_head body.start start r.to e in
    grew_as 0 2 (omega arith)
    (grew_then (expr_grew (condition test) place h d)
    (grew_then (two_heads_grew body.start start (next_node e.1.flow) r.to e)
    (grew_then (lb (for_route r e) head) (part_grew last ll (last_route r h e) (body.lower (for_route r e) head)))))

-- ---- all statements

abbrev StmtGrew : Stmt → Type 0
StmtGrew s = (place : Place) → LowerGrew (fold-Stmt (Place → Lowering) Lowering lowering_step placed_step s place)

abbrev pub PlacedGrew : Placed → Type 0
PlacedGrew p = LowerGrew (lowering_of p)

abbrev GrewStmt : Type 0
GrewStmt = (s : Stmt) × StmtGrew s

abbrev GrewPlaced : Type 0
GrewPlaced = (p : Placed) × PlacedGrew p

abbrev stmts_of : Stmt-F GrewStmt GrewPlaced → Stmt-F Stmt Placed
stmts_of = map-Stmt GrewStmt GrewPlaced Stmt Placed (λ s. s.0) (λ p. p.0)

abbrev lowerings_of : Stmt-F Stmt Placed → Stmt-F (Place → Lowering) Lowering
lowerings_of = map-Stmt Stmt Placed (Place → Lowering) Lowering (fold-Stmt (Place → Lowering) Lowering lowering_step placed_step) lowering_of

abbrev first_parts : List GrewPlaced → List Lowering
first_parts first = map lowering_of (map (λ (p : GrewPlaced). p.0) first)

every : (ps : List GrewPlaced) → Each LowerGrew (map lowering_of (map (λ (p : GrewPlaced). p.0) ps))
every [] = tt
every (p ∷ ps) = (p.1, every ps)

layer_grew : (y : Stmt-F GrewStmt GrewPlaced) (place : Place) → LowerGrew (lowering_step (lowerings_of (stmts_of y)) place)
layer_grew (Stmt-F.Declare x None) place r d = one_edge false r.from _ r.to d
layer_grew (Stmt-F.Declare x (Some e)) place r d = last_edge (hoisted_expr e place r.from d).1 _ r.to (expr_grew e place r.from d)
layer_grew (Stmt-F.DeclareThread x) place r d = one_edge false r.from _ r.to d
layer_grew (Stmt-F.Assign (Target.Local x) e) place r d = last_edge (hoisted_expr e place r.from d).1 _ r.to (expr_grew e place r.from d)
layer_grew (Stmt-F.Assign (Target.Global g) e) place r d = last_edge (hoisted_expr e place r.from d).1 _ r.to (expr_grew e place r.from d)
layer_grew (Stmt-F.CallOnly g args) place r d = last_edge (hoisted_exprs args place r.from d).1 _ r.to (exprs_grew args place r.from d)
layer_grew (Stmt-F.If e a None) place r d = grew_then (expr_grew e place r.from d) (if_grew (lowering_of a.0) None a.1 tt r (hoisted_expr e place r.from d))
layer_grew (Stmt-F.If e a (Some b)) place r d = grew_then (expr_grew e place r.from d) (if_grew (lowering_of a.0) (Some (lowering_of b.0)) a.1 b.1 r (hoisted_expr e place r.from d))
layer_grew (Stmt-F.While e body) place r d = grew_then (expr_grew e place r.from d) (while_grew (lowering_of body.0) body.1 r (hoisted_expr e place r.from d))
layer_grew (Stmt-F.DoWhile body e) place r d = do_grew (lowering_of body.0) body.1 e place r d
layer_grew (Stmt-F.For first test None body) place r d = grew_then (first_grew (first_parts first) (every first) place r d) (for_grew test None (lowering_of body.0) tt body.1 place (next_node d) r (for_first (first_parts first) place r d))
layer_grew (Stmt-F.For first test (Some last) body) place r d = grew_then (first_grew (first_parts first) (every first) place r d) (for_grew test (Some (lowering_of last.0)) (lowering_of body.0) last.1 body.1 place (next_node d) r (for_first (first_parts first) place r d))
layer_grew (Stmt-F.Block all) place r d = sequence_grew (first_parts all) (every all) r d
layer_grew Stmt-F.Break place r d = one_edge false r.from _ r.on_break d
layer_grew Stmt-F.Continue place r d = one_edge false r.from _ r.on_continue d
layer_grew (Stmt-F.Return None) place r d = one_edge false r.from _ 1 d
layer_grew (Stmt-F.Return (Some e)) place r d = last_edge (hoisted_expr e place r.from d).1 _ 1 (expr_grew e place r.from d)
layer_grew (Stmt-F.Create x g) place r d = one_edge false r.from _ r.to d
layer_grew (Stmt-F.Join x) place r d = one_edge false r.from _ r.to d
layer_grew (Stmt-F.Lock m) place r d = one_edge false r.from _ r.to d
layer_grew (Stmt-F.Unlock m) place r d = one_edge false r.from _ r.to d
layer_grew (Stmt-F.Assert e) place r d = last_edge (hoisted_expr e place r.from d).1 _ r.to (expr_grew e place r.from d)
layer_grew Stmt-F.Empty place r d = one_edge false r.from _ r.to d

stmt_rolled : (x : Stmt-F Stmt Placed) (y : Stmt-F GrewStmt GrewPlaced) → stmts_of y ≡ x → StmtGrew (roll-Stmt x)
stmt_rolled x y e place =
    let same = fold-roll-Stmt (Place → Lowering) Lowering lowering_step placed_step x in
    subst LowerGrew (sym (ap (λ (f : Place → Lowering). f place) same))
    (subst (λ (z : Stmt-F Stmt Placed). LowerGrew (lowering_step (lowerings_of z) place)) e (layer_grew y place))

placed_rolled : (x : Placed-F Stmt Placed) (y : Placed-F GrewStmt GrewPlaced) → map-Placed GrewStmt GrewPlaced Stmt Placed (λ s. s.0) (λ p. p.0) y ≡ x → PlacedGrew (roll-Placed x)
placed_rolled x y e =
    subst (λ (z : Placed-F Stmt Placed). PlacedGrew (roll-Placed z)) e
    (subst LowerGrew (sym (fold-roll-Placed (Place → Lowering) Lowering lowering_step placed_step (record { place = y.place; stmt = y.stmt.0 }))) (y.stmt.1 y.place))

pub lowerings_grow : (p : Placed) → PlacedGrew p
lowerings_grow = ind-Placed StmtGrew PlacedGrew stmt_rolled placed_rolled

pub every_grew : (ps : List Placed) → Each LowerGrew (map lowering_of ps)
every_grew [] = tt
every_grew (p ∷ ps) = (lowerings_grow p, every_grew ps)
