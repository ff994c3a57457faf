-- Lowering only adds edges behind those that are there.
use Rattle.std.proofs.Common.{◌≡◌, refl, sym, ap, ◌∙◌, subst, ℕ, pos, ◌+◌, Bool, true, false, List, [], ◌∷◌, ◌++◌, map, Option, None, Some, append_assoc}
use Rattle.std.specs.Prelude.{if◌then◌else◌}
use Rattle.gob_tree.specs.declared.place.Place.{Place}
use Rattle.gob_tree.specs.declared.expr.Width.{Width}
use Rattle.gob_tree.specs.declared.expr.Width.TheVariants.{W32}
use Rattle.gob_tree.specs.declared.expr.BinOp.{BinOp}
use Rattle.gob_tree.specs.declared.expr.BinOp.TheVariants.{Ne}
use Rattle.gob_tree.specs.declared.expr.Expr.{Expr, Number, Binary}
use Rattle.gob_tree.specs.declared.stmt.Target.{Target}
use Rattle.gob_tree.specs.declared.stmt.Stmt.{Stmt, fold-Stmt, fold-roll-Stmt, map-Stmt, roll-Stmt}
use Rattle.gob_tree.specs.declared.stmt.Stmt.TheOpen.{Stmt-F, Placed-F}
use Rattle.gob_tree.specs.declared.stmt.Placed.{Placed, fold-roll-Placed, ind-Placed, map-Placed, roll-Placed}
use Rattle.gob_tree.specs.declared.graph.Action.{Action}
use Rattle.gob_tree.specs.declared.graph.Action.TheVariants.{Assign, Guard, Read, Nondet, Call, Skip}
use Rattle.gob_tree.proofs.Folds.{fold-Number, fold-Local, fold-Global, fold-Nondet, fold-Unary, fold-Binary, fold-Call}
use Rattle.gob_tree.proofs.Induct.{Each, by_forms}
use Rattle.c_meaning.specs.Demand.{truth}
use Rattle.c_meaning.specs.Graph.{MarkedEdge, FlowGraph, Route, HoistState, Hoisted, Hoisting, Lowering, next_node, with_node, with_marked, taking, free_temp, temp_slot, with_temp, fetch, stop_of, node_of, logic_at, logic_join, strict_join, binary_join, hoist_all, hoisting_step, hoisting_of, begun_at, hoisted_expr, hoisted_exprs, sequence, sequence_or_silent, part_or_silent, if_head, if_flow, while_head, route_to, route_from, then_route, else_route, while_route, do_route, first_route, for_route, last_route, do_flow, for_first, for_head, for_flow, condition, lowering_step, placed_step, lowering_of}
use Rattle.c_meaning.proofs.Growth.{append_nil}
use Rattle.graph_law.specs.Laying.{Extends}

pub extends_none : (a : FlowGraph) → Extends a a
extends_none a = record { more = []; edges = append_nil a.edges }

pub extends_then : (a b c : FlowGraph) → Extends a b → Extends b c → Extends a c
extends_then a b c g h = record { more = g.more ++ h.more; edges = h.edges ∙ ap (λ (l : List MarkedEdge). l ++ h.more) g.edges ∙ append_assoc a.edges g.more h.more }

pub extends_node : (place : Place) (d : FlowGraph) → Extends d (with_node place d)
extends_node place d = record { more = []; edges = append_nil d.edges }

pub extends_edge : (silent : Bool) (from : ℕ) (act : Action) (to : ℕ) (d : FlowGraph) → Extends d (with_marked silent from act to d)
extends_edge silent from act to d = record { more = record { edge = record { from = from; act = act; to = to }; silent = silent } ∷ []; edges = refl }

pub extends_guards : (silent : Bool) (from : ℕ) (e : Expr) (p q : ℕ) (d : FlowGraph) → Extends d (with_marked silent from (Guard e false) q (with_marked silent from (Guard e true) p d))
extends_guards silent from e p q d = extends_then d _ _ (extends_edge silent from (Guard e true) p d) (extends_edge silent from (Guard e false) q (with_marked silent from (Guard e true) p d))

-- ---- hoisting

abbrev pub HoistExtends : Hoisting → Type 0
HoistExtends h = (place : Place) (s : HoistState) → Extends s.flow (h.hoist place s).1.flow

pub temp_extends : (w : Width) (o : Option ℕ) (s : HoistState) → Extends s.flow (taking w o s).flow
temp_extends w None s = record { more = []; edges = append_nil s.flow.edges }
temp_extends w (Some k) s = extends_none s.flow

pub fetch_extends : (place : Place) (w : Width) (act : ℕ → Action) (s : HoistState) → Extends s.flow (fetch place w act s).1.flow
fetch_extends place w act s =
    extends_then s.flow (with_temp w s).flow _ (temp_extends w (free_temp w s) s)
    (extends_then (with_temp w s).flow (with_node place (with_temp w s).flow) _ (extends_node place (with_temp w s).flow)
    (extends_edge false (with_temp w s).at (act (temp_slot w s)) (next_node (with_temp w s).flow) (with_node place (with_temp w s).flow)))

pub all_extend : (es : List Hoisting) → Each HoistExtends es → (place : Place) (s : HoistState) → Extends s.flow (hoist_all es place s).1.flow
all_extend [] all place s = extends_none s.flow
all_extend (e ∷ es) all place s = extends_then s.flow (e.hoist place s).1.flow _ (all.0 place s) (all_extend es all.1 place (e.hoist place s).1)

logic_extends : (stop : Bool) (right : Hoisting) (place : Place) (t p : ℕ) (l : Expr) (s : HoistState) → HoistExtends right → Extends s.flow (logic_at stop right place t p l s).1.flow
logic_extends stop right place t p l s hr =
    let nodes = with_node place (with_node place (with_node place s.flow)) in
    let guards = with_marked true s.at (Guard l false) (p + 1) (with_marked true s.at (Guard l true) p nodes) in
    let decided = with_marked true (node_of stop p (p + 1)) (Assign t (Number (truth stop) W32)) (p + 2) guards in
    let from : HoistState = record s { flow = decided; at = node_of stop (p + 1) p } in
    let r = right.hoist place from in
    let opened : Extends s.flow nodes = record { more = []; edges = append_nil s.flow.edges } in
    extends_then s.flow nodes _ opened
    (extends_then nodes guards _ (extends_guards true s.at l p (p + 1) nodes)
    (extends_then guards decided _ (extends_edge true (node_of stop p (p + 1)) (Assign t (Number (truth stop) W32)) (p + 2) guards)
    (extends_then decided r.1.flow _ (hr place from)
    (extends_edge true r.1.at (Assign t (Binary Ne r.0 (Number (pos 0) W32))) (p + 2) r.1.flow))))

if_extends : (inputs : Bool) (op : BinOp) (stop : Bool) (right : Hoisting) (place : Place) (x : Hoisted Expr) → HoistExtends right → Extends x.1.flow (if inputs then logic_join stop right place x else strict_join op right place x).1.flow
if_extends true op stop right place x hr =
    extends_then x.1.flow (with_temp W32 x.1).flow _ (temp_extends W32 (free_temp W32 x.1) x.1)
    (logic_extends stop right place (temp_slot W32 x.1) (next_node x.1.flow) x.0 (with_temp W32 x.1) hr)
if_extends false op stop right place x hr = hr place x.1

pub binary_extends : (o : Option Bool) (op : BinOp) (right : Hoisting) (place : Place) (x : Hoisted Expr) → HoistExtends right → Extends x.1.flow (binary_join op o right place x).1.flow
binary_extends None op right place x hr = hr place x.1
binary_extends (Some stop) op right place x hr = if_extends right.inputs op stop right place x hr

pub each_extends : (args : List Expr) → Each (λ e. HoistExtends (hoisting_of e)) args → Each HoistExtends (map hoisting_of args)
each_extends [] a = tt
each_extends (e ∷ es) a = (a.0, each_extends es a.1)

pub hoists_extend : (e : Expr) → HoistExtends (hoisting_of e)
hoists_extend = by_forms (λ e. HoistExtends (hoisting_of e))
    (λ n w. subst HoistExtends (sym (fold-Number Hoisting hoisting_step n w)) (λ place s. extends_none s.flow))
    (λ x. subst HoistExtends (sym (fold-Local Hoisting hoisting_step x)) (λ place s. extends_none s.flow))
    (λ g w. subst HoistExtends (sym (fold-Global Hoisting hoisting_step g w)) (λ place s. fetch_extends place w (λ t. Read t g) s))
    (λ w. subst HoistExtends (sym (fold-Nondet Hoisting hoisting_step w)) (λ place s. fetch_extends place w (λ t. Nondet t) s))
    (λ op a ha. subst HoistExtends (sym (fold-Unary Hoisting hoisting_step op a)) ha)
    (λ op a b ha hb. subst HoistExtends (sym (fold-Binary Hoisting hoisting_step op a b))
    (λ place s. extends_then s.flow ((hoisting_of a).hoist place s).1.flow _ (ha place s) (binary_extends (stop_of op) op (hoisting_of b) place ((hoisting_of a).hoist place s) hb)))
    (λ f w args all. subst HoistExtends (sym (fold-Call Hoisting hoisting_step f w args))
    (λ place s.
    let es = hoist_all (map hoisting_of args) place s in
    extends_then s.flow es.1.flow _ (all_extend (map hoisting_of args) (each_extends args all) place s) (fetch_extends place w (λ t. Call (Some t) f es.0) es.1)))

pub expr_extends : (e : Expr) (place : Place) (node : ℕ) (d : FlowGraph) → Extends d (hoisted_expr e place node d).1.flow
expr_extends e place node d = hoists_extend e place (begun_at node d)

exprs_extend : (es : List Expr) (place : Place) (node : ℕ) (d : FlowGraph) → Extends d (hoisted_exprs es place node d).1.flow
exprs_extend es place node d = all_extend (map hoisting_of es) (every es) place (begun_at node d)
  where
    every : (es : List Expr) → Each HoistExtends (map hoisting_of es)
    every [] = tt
    every (e ∷ es) = (hoists_extend e, every es)

-- ---- statements

abbrev pub LowerExtends : Lowering → Type 0
LowerExtends l = (r : Route) (d : FlowGraph) → Extends d (l.lower r d)

-- one edge after what was hoisted
hoist_edge : (d : FlowGraph) (s : HoistState) (act : Action) (to : ℕ) → Extends d s.flow → Extends d (with_marked false s.at act to s.flow)
hoist_edge d s act to g = extends_then d s.flow _ g (extends_edge false s.at act to s.flow)

pub sequence_extends : (ls : List Lowering) → Each LowerExtends ls → (r : Route) (d : FlowGraph) → Extends d (sequence ls r d)
sequence_extends [] all r d = extends_edge false r.from Skip r.to d
sequence_extends (s ∷ []) all r d = all.0 r d
sequence_extends (s ∷ s' ∷ ss) all r d =
    let opened : Extends d (with_node s'.start d) = record { more = []; edges = append_nil d.edges } in
    extends_then d (with_node s'.start d) _ opened
    (extends_then (with_node s'.start d) (s.lower (route_to (next_node d) r) (with_node s'.start d)) _ (all.0 (route_to (next_node d) r) (with_node s'.start d))
    (sequence_extends (s' ∷ ss) all.1 (route_from (next_node d) r) (s.lower (route_to (next_node d) r) (with_node s'.start d))))

-- the heads of `if`, `while` and `for`
pub if_head_extends : (start : Place) (other : Option Place) (to : ℕ) (e : Hoisted Expr) → Extends e.1.flow (if_head start other to e)
if_head_extends start None to e =
    let opened : Extends e.1.flow (with_node start e.1.flow) = record { more = []; edges = append_nil e.1.flow.edges } in
    extends_then e.1.flow (with_node start e.1.flow) _ opened (extends_guards false e.1.at e.0 (next_node e.1.flow) to (with_node start e.1.flow))
if_head_extends start (Some second) to e =
    let opened : Extends e.1.flow (with_node second (with_node start e.1.flow)) = record { more = []; edges = append_nil e.1.flow.edges } in
    extends_then e.1.flow (with_node second (with_node start e.1.flow)) _ opened
    (extends_guards false e.1.at e.0 (next_node e.1.flow) (next_node e.1.flow + 1) (with_node second (with_node start e.1.flow)))

while_head_extends : (start : Place) (to : ℕ) (e : Hoisted Expr) → Extends e.1.flow (while_head start to e)
while_head_extends start to e =
    let opened : Extends e.1.flow (with_node start e.1.flow) = record { more = []; edges = append_nil e.1.flow.edges } in
    extends_then e.1.flow (with_node start e.1.flow) _ opened (extends_guards false e.1.at e.0 (next_node e.1.flow) to (with_node start e.1.flow))

pub for_head_extends : (start last : Place) (to : ℕ) (e : Hoisted Expr) → Extends e.1.flow (for_head start last to e)
for_head_extends start last to e =
    let opened : Extends e.1.flow (with_node last (with_node start e.1.flow)) = record { more = []; edges = append_nil e.1.flow.edges } in
    extends_then e.1.flow (with_node last (with_node start e.1.flow)) _ opened (extends_guards false e.1.at e.0 (next_node e.1.flow) to (with_node last (with_node start e.1.flow)))

some_extends : (ls : List Lowering) → Each LowerExtends ls → (r : Route) (d : FlowGraph) → Extends d (sequence_or_silent ls r d)
some_extends [] all r d = extends_edge true r.from Skip r.to d
some_extends (s ∷ ss) all r d = sequence_extends (s ∷ ss) all r d

abbrev pub PartExtends : Option Lowering → Type 0
PartExtends None = Unit {0}
PartExtends (Some l) = LowerExtends l

pub part_extends : (last : Option Lowering) → PartExtends last → (r : Route) (d : FlowGraph) → Extends d (part_or_silent last r d)
part_extends None all r d = extends_edge true r.from Skip r.to d
part_extends (Some l) all r d = all r d

if_extends_all : (a : Lowering) (b : Option Lowering) → LowerExtends a → PartExtends b → (r : Route) (e : Hoisted Expr) → Extends e.1.flow (if_flow a b r e)
if_extends_all a None la lb r e = extends_then e.1.flow (if_head a.start None r.to e) _ (if_head_extends a.start None r.to e) (la (then_route r e) (if_head a.start None r.to e))
if_extends_all a (Some b) la lb r e =
    let head = if_head a.start (Some b.start) r.to e in
    extends_then e.1.flow head _ (if_head_extends a.start (Some b.start) r.to e)
    (extends_then head (a.lower (then_route r e) head) _ (la (then_route r e) head) (lb (else_route r e) (a.lower (then_route r e) head)))

pub first_extends : (first : List Lowering) → Each LowerExtends first → (place : Place) (r : Route) (d : FlowGraph) → Extends d (for_first first place r d)
first_extends first all place r d =
    let opened : Extends d (with_node place d) = record { more = []; edges = append_nil d.edges } in
    extends_then d (with_node place d) _ opened (some_extends first all (first_route r (next_node d)) (with_node place d))

-- behind a `for`'s first part: the condition, the head, the body and the last part
pub for_rest_extends : (test : Option Expr) (last : Option Lowering) (body : Lowering) → PartExtends last → LowerExtends body → (place : Place) (h : ℕ) (r : Route) (d : FlowGraph) → Extends d (for_flow last body place h r (hoisted_expr (condition test) place h d))
for_rest_extends test last body ll lb place h r d =
    let e = hoisted_expr (condition test) place h d in
    extends_then d e.1.flow _ (expr_extends (condition test) place h d)
    (extends_then e.1.flow _ _ (for_head_extends body.start _ r.to e)
    (extends_then _ _ _ (lb (for_route r e) (for_head body.start _ r.to e)) (part_extends last ll (last_route r h e) _)))

-- ---- all statements

abbrev StmtExtends : Stmt → Type 0
StmtExtends s = (place : Place) → LowerExtends (fold-Stmt (Place → Lowering) Lowering lowering_step placed_step s place)

abbrev pub PlacedExtends : Placed → Type 0
PlacedExtends p = LowerExtends (lowering_of p)

abbrev ExtStmt : Type 0
ExtStmt = (s : Stmt) × StmtExtends s

abbrev ExtPlaced : Type 0
ExtPlaced = (p : Placed) × PlacedExtends p

abbrev stmts_of : Stmt-F ExtStmt ExtPlaced → Stmt-F Stmt Placed
stmts_of = map-Stmt ExtStmt ExtPlaced Stmt Placed (λ s. s.0) (λ p. p.0)

abbrev lowerings_of : Stmt-F Stmt Placed → Stmt-F (Place → Lowering) Lowering
lowerings_of = map-Stmt Stmt Placed (Place → Lowering) Lowering (fold-Stmt (Place → Lowering) Lowering lowering_step placed_step) lowering_of

every : (ps : List ExtPlaced) → Each LowerExtends (map lowering_of (map (λ (p : ExtPlaced). p.0) ps))
every [] = tt
every (p ∷ ps) = (p.1, every ps)

pub do_rest_extends : (body : Lowering) (e : Expr) (place : Place) (r : Route) (d : FlowGraph) → Extends (body.lower (do_route r (next_node d)) (with_node place d)) (do_flow body e place r d)
do_rest_extends body e place r d =
    let b = body.lower (do_route r (next_node d)) (with_node place d) in
    let x = hoisted_expr e place (next_node d) b in
    extends_then b x.1.flow _ (expr_extends e place (next_node d) b) (extends_guards false x.1.at x.0 r.from r.to x.1.flow)

do_extends : (body : Lowering) → LowerExtends body → (e : Expr) (place : Place) (r : Route) (d : FlowGraph) → Extends d (do_flow body e place r d)
do_extends body lb e place r d =
    let opened : Extends d (with_node place d) = record { more = []; edges = append_nil d.edges } in
    extends_then d (with_node place d) _ opened
    (extends_then (with_node place d) (body.lower (do_route r (next_node d)) (with_node place d)) _ (lb (do_route r (next_node d)) (with_node place d)) (do_rest_extends body e place r d))

layer_extends : (y : Stmt-F ExtStmt ExtPlaced) (place : Place) → LowerExtends (lowering_step (lowerings_of (stmts_of y)) place)
layer_extends (Stmt-F.Declare x None) place r d = extends_edge false r.from _ r.to d
layer_extends (Stmt-F.Declare x (Some e)) place r d = hoist_edge d (hoisted_expr e place r.from d).1 _ r.to (expr_extends e place r.from d)
layer_extends (Stmt-F.DeclareThread x) place r d = extends_edge false r.from _ r.to d
layer_extends (Stmt-F.Assign (Target.Local x) e) place r d = hoist_edge d (hoisted_expr e place r.from d).1 _ r.to (expr_extends e place r.from d)
layer_extends (Stmt-F.Assign (Target.Global g) e) place r d = hoist_edge d (hoisted_expr e place r.from d).1 _ r.to (expr_extends e place r.from d)
layer_extends (Stmt-F.CallOnly g args) place r d = hoist_edge d (hoisted_exprs args place r.from d).1 _ r.to (exprs_extend args place r.from d)
layer_extends (Stmt-F.If e a None) place r d = extends_then d _ _ (expr_extends e place r.from d) (if_extends_all (lowering_of a.0) None a.1 tt r (hoisted_expr e place r.from d))
layer_extends (Stmt-F.If e a (Some b)) place r d = extends_then d _ _ (expr_extends e place r.from d) (if_extends_all (lowering_of a.0) (Some (lowering_of b.0)) a.1 b.1 r (hoisted_expr e place r.from d))
layer_extends (Stmt-F.While e body) place r d = let x = hoisted_expr e place r.from d in extends_then d x.1.flow _ (expr_extends e place r.from d) (extends_then x.1.flow (while_head (lowering_of body.0).start r.to x) _ (while_head_extends (lowering_of body.0).start r.to x) (body.1 (while_route r x) (while_head (lowering_of body.0).start r.to x)))
layer_extends (Stmt-F.DoWhile body e) place r d = do_extends (lowering_of body.0) body.1 e place r d
layer_extends (Stmt-F.For first test None body) place r d = let d' = for_first (map lowering_of (map (λ (p : ExtPlaced). p.0) first)) place r d in extends_then d d' _ (first_extends (map lowering_of (map (λ (p : ExtPlaced). p.0) first)) (every first) place r d) (for_rest_extends test None (lowering_of body.0) tt body.1 place (next_node d) r d')
layer_extends (Stmt-F.For first test (Some last) body) place r d = let d' = for_first (map lowering_of (map (λ (p : ExtPlaced). p.0) first)) place r d in extends_then d d' _ (first_extends (map lowering_of (map (λ (p : ExtPlaced). p.0) first)) (every first) place r d) (for_rest_extends test (Some (lowering_of last.0)) (lowering_of body.0) last.1 body.1 place (next_node d) r d')
layer_extends (Stmt-F.Block all) place r d = sequence_extends (map lowering_of (map (λ (p : ExtPlaced). p.0) all)) (every all) r d
layer_extends Stmt-F.Break place r d = extends_edge false r.from _ r.on_break d
layer_extends Stmt-F.Continue place r d = extends_edge false r.from _ r.on_continue d
layer_extends (Stmt-F.Return None) place r d = extends_edge false r.from _ 1 d
layer_extends (Stmt-F.Return (Some e)) place r d = hoist_edge d (hoisted_expr e place r.from d).1 _ 1 (expr_extends e place r.from d)
layer_extends (Stmt-F.Create x g) place r d = extends_edge false r.from _ r.to d
layer_extends (Stmt-F.Join x) place r d = extends_edge false r.from _ r.to d
layer_extends (Stmt-F.Lock m) place r d = extends_edge false r.from _ r.to d
layer_extends (Stmt-F.Unlock m) place r d = extends_edge false r.from _ r.to d
layer_extends (Stmt-F.Assert e) place r d = hoist_edge d (hoisted_expr e place r.from d).1 _ r.to (expr_extends e place r.from d)
layer_extends Stmt-F.Empty place r d = extends_edge false r.from _ r.to d

stmt_rolled : (x : Stmt-F Stmt Placed) (y : Stmt-F ExtStmt ExtPlaced) → stmts_of y ≡ x → StmtExtends (roll-Stmt x)
stmt_rolled x y e place =
    let same = fold-roll-Stmt (Place → Lowering) Lowering lowering_step placed_step x in
    subst LowerExtends (sym (ap (λ (f : Place → Lowering). f place) same))
    (subst (λ (z : Stmt-F Stmt Placed). LowerExtends (lowering_step (lowerings_of z) place)) e (layer_extends y place))

placed_rolled : (x : Placed-F Stmt Placed) (y : Placed-F ExtStmt ExtPlaced) → map-Placed ExtStmt ExtPlaced Stmt Placed (λ s. s.0) (λ p. p.0) y ≡ x → PlacedExtends (roll-Placed x)
placed_rolled x y e =
    subst (λ (z : Placed-F Stmt Placed). PlacedExtends (roll-Placed z)) e
    (subst LowerExtends (sym (fold-roll-Placed (Place → Lowering) Lowering lowering_step placed_step (record { place = y.place; stmt = y.stmt.0 }))) (y.stmt.1 y.place))

pub lowerings_extend : (p : Placed) → PlacedExtends p
lowerings_extend = ind-Placed StmtExtends PlacedExtends stmt_rolled placed_rolled

pub every_extends : (ps : List Placed) → Each LowerExtends (map lowering_of ps)
every_extends [] = tt
every_extends (p ∷ ps) = (lowerings_extend p, every_extends ps)
