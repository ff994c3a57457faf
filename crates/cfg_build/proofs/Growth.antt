-- A graph only grows while it is lowered: neither its nodes nor its slots become fewer. So a graph
-- that is over a limit stays so.
use Rattle.std.proofs.Common.{◌≡◌, refl, sym, ap, ◌∙◌, subst, ℕ, ◌+◌, ◌<◌, ◌≤◌, ◌⊎◌, inl, inr, ⊎_elim, Bool, true, false, List, [], ◌∷◌, ◌++◌, map, length, Option, None, Some, arith, length-append, add-zero}
use Rattle.std.specs.Prelude.{if◌then◌else◌}
use Rattle.std.proofs.lemmas.List.{length-map}
use Rattle.std.specs.Option.{option_map, option_map_or}
use Rattle.gob_tree.specs.declared.place.Place.{Place}
use Rattle.gob_tree.specs.declared.expr.Width.{Width}
use Rattle.gob_tree.specs.declared.expr.Width.TheVariants.{W32}
use Rattle.gob_tree.specs.declared.expr.BinOp.{BinOp}
use Rattle.gob_tree.specs.declared.expr.Expr.{Expr}
use Rattle.gob_tree.specs.declared.stmt.Target.{Target}
use Rattle.gob_tree.specs.declared.stmt.Stmt.{Stmt, fold-Stmt, fold-roll-Stmt, map-Stmt, roll-Stmt}
use Rattle.gob_tree.specs.declared.stmt.Stmt.TheOpen.{Stmt-F, Placed-F}
use Rattle.gob_tree.specs.declared.stmt.Placed.{Placed, fold-roll-Placed, ind-Placed, map-Placed, roll-Placed}
use Rattle.gob_tree.specs.declared.unit.Slot.{Slot}
use Rattle.gob_tree.specs.declared.unit.Function.{Function}
use Rattle.gob_tree.specs.declared.graph.Action.{Action}
use Rattle.gob_tree.specs.declared.graph.Action.TheVariants.{Read, Nondet, Call}
use Rattle.c_meaning.specs.Graph.{FlowGraph, HoistState, Hoisted, Hoisting, Route, Lowering, next_node, with_node, with_guards, taking, free_temp, temp_slot, with_temp, fetch_into, fetch, stop_of, logic_at, logic_join, strict_join, binary_join, hoist_all, call_fetch, hoisting_step, hoisting_of, begun_at, hoisted_expr, hoisted_exprs, route_to, route_from, then_route, else_route, while_route, do_route, first_route, for_route, last_route, sequence, sequence_or_silent, part_or_silent, if_head, if_flow, while_head, while_flow, do_flow, for_first, for_head, for_flow, condition, lowering_step, placed_step, lowering_of, first_flow, body_route, flow_of, temporary, graph_of}
use Rattle.gob_tree.proofs.Folds.{fold-Number, fold-Local, fold-Global, fold-Nondet, fold-Unary, fold-Binary, fold-Call}
use Rattle.gob_tree.proofs.Induct.{Each, by_forms}
use Rattle.cfg_build.specs.declared.fault.BuildFault.{BuildFault}
use Rattle.cfg_build.specs.declared.fault.BuildFault.TheVariants.{Limit, Memory}
use Rattle.cfg_build.specs.Growing.{FaultsAt, Faults, IsOverLimits, slot_count, branched}

pub record Wider (d d' : FlowGraph) : Type 0 where
  pub nodes : next_node d ≤ next_node d'
  pub slots : slot_count d ≤ slot_count d'
  pub named : d'.named ≡ d.named

pub wider_none : (d : FlowGraph) → Wider d d
wider_none d = record { nodes = omega arith; slots = omega arith; named = refl }

pub wider_then : (a b c : FlowGraph) → Wider a b → Wider b c → Wider a c
wider_then a b c g h =
    let gn = g.nodes in
    let hn = h.nodes in
    let gs = g.slots in
    let hs = h.slots in
    record { nodes = omega (arith, gn, hn); slots = omega (arith, gs, hs); named = h.named ∙ g.named }

faults_more : (fault : BuildFault) (n s n' s' : ℕ) → n ≤ n' → s ≤ s' → FaultsAt fault n s → FaultsAt fault n' s'
faults_more Limit n s n' s' le le' f = ⊎_elim (λ h. inl (omega (arith, h))) (λ h. inr (omega (arith, h))) f
faults_more Memory n s n' s' le le' f = tt

-- a fault of a graph is one of every graph that it grows to
pub faults_wider : (fault : BuildFault) (d d' : FlowGraph) → Wider d d' → Faults fault d → Faults fault d'
faults_wider fault d d' g f = faults_more fault (next_node d) (slot_count d) (next_node d') (slot_count d') g.nodes g.slots f

pub wider_node : (place : Place) (d : FlowGraph) → Wider d (with_node place d)
wider_node place d = record { nodes = let e = length-append d.nodes (place ∷ []) in omega (arith, e); slots = omega arith; named = refl }

-- with more edges alone
pub wider_edges : (d d' : FlowGraph) → next_node d ≡ next_node d' → slot_count d ≡ slot_count d' → d'.named ≡ d.named → Wider d d'
wider_edges d d' n s k = record { nodes = omega (arith, n); slots = omega (arith, s); named = k }

-- ---- hoisting

pub wider_taking : (w : Width) (o : Option ℕ) (s : HoistState) → Wider s.flow (taking w o s).flow
wider_taking w None s = record { nodes = omega arith; slots = let e = length-append s.flow.temps (w ∷ []) in omega (arith, e); named = refl }
wider_taking w (Some k) s = wider_none s.flow

pub wider_temp : (w : Width) (s : HoistState) → Wider s.flow (with_temp w s).flow
wider_temp w s = wider_taking w (free_temp w s) s

pub wider_fetch_into : (t : ℕ) (place : Place) (act : Action) (s : HoistState) → Wider s.flow (fetch_into t place act s).1.flow
wider_fetch_into t place act s =
    let g = wider_node place s.flow in
    let n = g.nodes in
    record { nodes = omega (arith, n); slots = omega arith; named = refl }

pub wider_fetch : (place : Place) (w : Width) (act : ℕ → Action) (s : HoistState) → Wider s.flow (fetch place w act s).1.flow
wider_fetch place w act s = wider_then s.flow (with_temp w s).flow _ (wider_temp w s) (wider_fetch_into (temp_slot w s) place (act (temp_slot w s)) (with_temp w s))

abbrev pub HoistWidens : Hoisting → Type 0
HoistWidens h = (place : Place) (s : HoistState) → Wider s.flow (h.hoist place s).1.flow

-- the state from which the right operand of `&&` and `||` is hoisted has three more nodes
three_more : (place : Place) (d : FlowGraph) → next_node d ≤ next_node (with_node place (with_node place (with_node place d)))
three_more place d =
    let a = length-append d.nodes (place ∷ []) in
    let b = length-append (d.nodes ++ place ∷ []) (place ∷ []) in
    let c = length-append ((d.nodes ++ place ∷ []) ++ place ∷ []) (place ∷ []) in
    omega (arith, a, b, c)

pub wider_branched : (stop : Bool) (place : Place) (t p : ℕ) (l : Expr) (s : HoistState) → Wider s.flow (branched stop place t p l s).flow
wider_branched stop place t p l s =
    let k = three_more place s.flow in
    record { nodes = omega (arith, k); slots = omega arith; named = refl }

pub wider_logic_at : (stop : Bool) (right : Hoisting) (place : Place) (t p : ℕ) (l : Expr) (s : HoistState) → HoistWidens right → Wider s.flow (logic_at stop right place t p l s).1.flow
wider_logic_at stop right place t p l s hr =
    let g = hr place (branched stop place t p l s) in
    let joined : Wider (right.hoist place (branched stop place t p l s)).1.flow (logic_at stop right place t p l s).1.flow = wider_edges _ _ refl refl refl in
    wider_then s.flow (branched stop place t p l s).flow _ (wider_branched stop place t p l s)
    (wider_then (branched stop place t p l s).flow (right.hoist place (branched stop place t p l s)).1.flow _ g joined)

pub wider_logic_join : (stop : Bool) (right : Hoisting) (place : Place) (e : Hoisted Expr) → HoistWidens right → Wider e.1.flow (logic_join stop right place e).1.flow
wider_logic_join stop right place e hr =
    wider_then e.1.flow (with_temp W32 e.1).flow _ (wider_temp W32 e.1) (wider_logic_at stop right place (temp_slot W32 e.1) (next_node e.1.flow) e.0 (with_temp W32 e.1) hr)

wider_if : (inputs : Bool) (op : BinOp) (stop : Bool) (right : Hoisting) (place : Place) (e : Hoisted Expr) → HoistWidens right → Wider e.1.flow (if inputs then logic_join stop right place e else strict_join op right place e).1.flow
wider_if true op stop right place e hr = wider_logic_join stop right place e hr
wider_if false op stop right place e hr = hr place e.1

wider_join : (o : Option Bool) (op : BinOp) (right : Hoisting) (place : Place) (e : Hoisted Expr) → HoistWidens right → Wider e.1.flow (binary_join op o right place e).1.flow
wider_join None op right place e hr = hr place e.1
wider_join (Some stop) op right place e hr = wider_if right.inputs op stop right place e hr

widens_all : (es : List Hoisting) → Each HoistWidens es → (place : Place) (s : HoistState) → Wider s.flow (hoist_all es place s).1.flow
widens_all [] all place s = wider_none s.flow
widens_all (e ∷ es) all place s = wider_then s.flow (e.hoist place s).1.flow _ (all.0 place s) (widens_all es all.1 place (e.hoist place s).1)

each_widens : (args : List Expr) → Each (λ e. HoistWidens (hoisting_of e)) args → Each HoistWidens (map hoisting_of args)
each_widens [] a = tt
each_widens (e ∷ es) a = (a.0, each_widens es a.1)

pub hoists_widen : (e : Expr) → HoistWidens (hoisting_of e)
hoists_widen = by_forms (λ e. HoistWidens (hoisting_of e))
    (λ n w. subst HoistWidens (sym (fold-Number Hoisting hoisting_step n w)) (λ place s. wider_none s.flow))
    (λ x. subst HoistWidens (sym (fold-Local Hoisting hoisting_step x)) (λ place s. wider_none s.flow))
    (λ g w. subst HoistWidens (sym (fold-Global Hoisting hoisting_step g w)) (λ place s. wider_fetch place w (λ t. Read t g) s))
    (λ w. subst HoistWidens (sym (fold-Nondet Hoisting hoisting_step w)) (λ place s. wider_fetch place w (λ t. Nondet t) s))
    (λ op a ha. subst HoistWidens (sym (fold-Unary Hoisting hoisting_step op a)) ha)
    (λ op a b ha hb. subst HoistWidens (sym (fold-Binary Hoisting hoisting_step op a b))
    (λ place s. wider_then s.flow ((hoisting_of a).hoist place s).1.flow _ (ha place s) (wider_join (stop_of op) op (hoisting_of b) place ((hoisting_of a).hoist place s) hb)))
    (λ f w args all. subst HoistWidens (sym (fold-Call Hoisting hoisting_step f w args))
    (λ place s.
    let es = hoist_all (map hoisting_of args) place s in
    wider_then s.flow es.1.flow _ (widens_all (map hoisting_of args) (each_widens args all) place s) (wider_fetch place w (λ t. Call (Some t) f es.0) es.1)))

pub wider_binary : (op : BinOp) (right : Expr) (place : Place) (e : Hoisted Expr) → Wider e.1.flow (binary_join op (stop_of op) (hoisting_of right) place e).1.flow
wider_binary op right place e = wider_join (stop_of op) op (hoisting_of right) place e (hoists_widen right)

pub wider_all : (es : List Expr) (place : Place) (s : HoistState) → Wider s.flow (hoist_all (map hoisting_of es) place s).1.flow
wider_all es place s = widens_all (map hoisting_of es) (every es) place s
  where
    every : (es : List Expr) → Each HoistWidens (map hoisting_of es)
    every [] = tt
    every (e ∷ es) = (hoists_widen e, every es)

pub wider_expr : (e : Expr) (place : Place) (node : ℕ) (d : FlowGraph) → Wider d (hoisted_expr e place node d).1.flow
wider_expr e place node d = hoists_widen e place (begun_at node d)

pub wider_exprs : (es : List Expr) (place : Place) (node : ℕ) (d : FlowGraph) → Wider d (hoisted_exprs es place node d).1.flow
wider_exprs es place node d = wider_all es place (begun_at node d)

-- ---- statements

abbrev pub LowerWidens : Lowering → Type 0
LowerWidens l = (r : Route) (d : FlowGraph) → Wider d (l.lower r d)

pub widens_sequence : (ls : List Lowering) → Each LowerWidens ls → (r : Route) (d : FlowGraph) → Wider d (sequence ls r d)
widens_sequence [] all r d = wider_edges d _ refl refl refl
widens_sequence (s ∷ []) all r d = all.0 r d
widens_sequence (s ∷ s' ∷ ss) all r d =
    let node = next_node d in
    wider_then d (with_node s'.start d) _ (wider_node s'.start d)
    (wider_then (with_node s'.start d) (s.lower (route_to node r) (with_node s'.start d)) _ (all.0 (route_to node r) (with_node s'.start d))
    (widens_sequence (s' ∷ ss) all.1 (route_from node r) (s.lower (route_to node r) (with_node s'.start d))))

widens_or_silent : (ls : List Lowering) → Each LowerWidens ls → (r : Route) (d : FlowGraph) → Wider d (sequence_or_silent ls r d)
widens_or_silent [] all r d = wider_edges d _ refl refl refl
widens_or_silent (s ∷ ss) all r d = widens_sequence (s ∷ ss) all r d

abbrev PartWidens : Option Lowering → Type 0
PartWidens None = Unit {0}
PartWidens (Some l) = LowerWidens l

widens_part : (l : Option Lowering) → PartWidens l → (r : Route) (d : FlowGraph) → Wider d (part_or_silent l r d)
widens_part None w r d = wider_edges d _ refl refl refl
widens_part (Some l) w r d = w r d

widens_if : (a : Lowering) (b : Option Lowering) → LowerWidens a → PartWidens b → (r : Route) (e : Hoisted Expr) → Wider e.1.flow (if_flow a b r e)
widens_if a None wa wb r e =
    let g = wider_node a.start e.1.flow in
    let n = g.nodes in
    wider_then e.1.flow (if_head a.start None r.to e) _ (record { nodes = omega (arith, n); slots = omega arith; named = refl }) (wa (then_route r e) (if_head a.start None r.to e))
widens_if a (Some b) wa wb r e =
    let head = if_head a.start (Some b.start) r.to e in
    let g = wider_node a.start e.1.flow in
    let n = g.nodes in
    let h = wider_node b.start (with_node a.start e.1.flow) in
    let m = h.nodes in
    wider_then e.1.flow head _ (record { nodes = omega (arith, n, m); slots = omega arith; named = refl })
    (wider_then head (a.lower (then_route r e) head) _ (wa (then_route r e) head) (wb (else_route r e) (a.lower (then_route r e) head)))

widens_while : (body : Lowering) → LowerWidens body → (r : Route) (e : Hoisted Expr) → Wider e.1.flow (while_flow body r e)
widens_while body wb r e =
    let g = wider_node body.start e.1.flow in
    let n = g.nodes in
    wider_then e.1.flow (while_head body.start r.to e) _ (record { nodes = omega (arith, n); slots = omega arith; named = refl }) (wb (while_route r e) (while_head body.start r.to e))

widens_do : (body : Lowering) (e : Expr) (place : Place) → LowerWidens body → (r : Route) (d : FlowGraph) → Wider d (do_flow body e place r d)
widens_do body e place wb r d =
    let test = next_node d in
    let lowered = body.lower (do_route r test) (with_node place d) in
    let g = wider_expr e place test lowered in
    let n = g.nodes in
    let m = g.slots in
    wider_then d (with_node place d) _ (wider_node place d)
    (wider_then (with_node place d) lowered _ (wb (do_route r test) (with_node place d)) (record { nodes = omega (arith, n); slots = omega (arith, m); named = g.named }))

widens_for_flow : (last : Option Lowering) (body : Lowering) → PartWidens last → LowerWidens body → (place : Place) (test : ℕ) (r : Route) (e : Hoisted Expr) → Wider e.1.flow (for_flow last body place test r e)
widens_for_flow last body wl wb place test r e =
    let start = option_map_or (λ (s : Lowering). s.start) last place in
    let head = for_head body.start start r.to e in
    let g = wider_node body.start e.1.flow in
    let n = g.nodes in
    let h = wider_node start (with_node body.start e.1.flow) in
    let m = h.nodes in
    let lowered = body.lower (for_route r e) head in
    wider_then e.1.flow head _ (record { nodes = omega (arith, n, m); slots = omega arith; named = refl })
    (wider_then head lowered _ (wb (for_route r e) head) (widens_part last wl (last_route r test e) lowered))

widens_for : (first : List Lowering) (test : Option Expr) (last : Option Lowering) (body : Lowering) (place : Place) → Each LowerWidens first → PartWidens last → LowerWidens body → LowerWidens (lowering_step (Stmt-F.For first test last body) place)
widens_for first test last body place wf wl wb r d =
    let n = next_node d in
    let d1 = for_first first place r d in
    let e = hoisted_expr (condition test) place n d1 in
    wider_then d (with_node place d) _ (wider_node place d)
    (wider_then (with_node place d) d1 _ (widens_or_silent first wf (first_route r n) (with_node place d))
    (wider_then d1 e.1.flow _ (wider_expr (condition test) place n d1) (widens_for_flow last body wl wb place n r e)))

-- ---- all statements

abbrev StmtWidens : Stmt → Type 0
StmtWidens s = (place : Place) → LowerWidens (fold-Stmt (Place → Lowering) Lowering lowering_step placed_step s place)

abbrev PlacedWidens : Placed → Type 0
PlacedWidens p = LowerWidens (lowering_of p)

abbrev WideStmt : Type 0
WideStmt = (s : Stmt) × StmtWidens s

abbrev WidePlaced : Type 0
WidePlaced = (p : Placed) × PlacedWidens p

abbrev stmts_of : Stmt-F WideStmt WidePlaced → Stmt-F Stmt Placed
stmts_of = map-Stmt WideStmt WidePlaced Stmt Placed (λ s. s.0) (λ p. p.0)

abbrev lowerings_of : Stmt-F Stmt Placed → Stmt-F (Place → Lowering) Lowering
lowerings_of = map-Stmt Stmt Placed (Place → Lowering) Lowering (fold-Stmt (Place → Lowering) Lowering lowering_step placed_step) lowering_of

every : (ps : List WidePlaced) → Each LowerWidens (map lowering_of (map (λ (p : WidePlaced). p.0) ps))
every [] = tt
every (p ∷ ps) = (p.1, every ps)

-- one edge after what was hoisted
hoist_then_edge : (e : Expr) (place : Place) (node : ℕ) (d d' : FlowGraph) → next_node d' ≡ next_node (hoisted_expr e place node d).1.flow → slot_count d' ≡ slot_count (hoisted_expr e place node d).1.flow → d'.named ≡ (hoisted_expr e place node d).1.flow.named → Wider d d'
hoist_then_edge e place node d d' n s k =
    let g = wider_expr e place node d in
    let gn = g.nodes in
    let gs = g.slots in
    record { nodes = omega (arith, n, gn); slots = omega (arith, s, gs); named = k ∙ g.named }

layer_widens : (y : Stmt-F WideStmt WidePlaced) (place : Place) → LowerWidens (lowering_step (lowerings_of (stmts_of y)) place)
layer_widens (Stmt-F.Declare x None) place r d = wider_edges d _ refl refl refl
layer_widens (Stmt-F.Declare x (Some e)) place r d = hoist_then_edge e place r.from d _ refl refl refl
layer_widens (Stmt-F.DeclareThread x) place r d = wider_edges d _ refl refl refl
layer_widens (Stmt-F.Assign (Target.Local x) e) place r d = hoist_then_edge e place r.from d _ refl refl refl
layer_widens (Stmt-F.Assign (Target.Global g) e) place r d = hoist_then_edge e place r.from d _ refl refl refl
layer_widens (Stmt-F.CallOnly f args) place r d = let g = wider_exprs args place r.from d in record { nodes = g.nodes; slots = g.slots; named = g.named }
layer_widens (Stmt-F.If e a None) place r d = wider_then d (hoisted_expr e place r.from d).1.flow _ (wider_expr e place r.from d) (widens_if (lowering_of a.0) None a.1 tt r (hoisted_expr e place r.from d))
layer_widens (Stmt-F.If e a (Some b)) place r d = wider_then d (hoisted_expr e place r.from d).1.flow _ (wider_expr e place r.from d) (widens_if (lowering_of a.0) (Some (lowering_of b.0)) a.1 b.1 r (hoisted_expr e place r.from d))
layer_widens (Stmt-F.While e body) place r d = wider_then d (hoisted_expr e place r.from d).1.flow _ (wider_expr e place r.from d) (widens_while (lowering_of body.0) body.1 r (hoisted_expr e place r.from d))
layer_widens (Stmt-F.DoWhile body e) place r d = widens_do (lowering_of body.0) e place body.1 r d
layer_widens (Stmt-F.For first test None body) place r d = widens_for (map lowering_of (map (λ (p : WidePlaced). p.0) first)) test None (lowering_of body.0) place (every first) tt body.1 r d
layer_widens (Stmt-F.For first test (Some last) body) place r d = widens_for (map lowering_of (map (λ (p : WidePlaced). p.0) first)) test (Some (lowering_of last.0)) (lowering_of body.0) place (every first) last.1 body.1 r d
layer_widens (Stmt-F.Block all) place r d = widens_sequence (map lowering_of (map (λ (p : WidePlaced). p.0) all)) (every all) r d
layer_widens Stmt-F.Break place r d = wider_edges d _ refl refl refl
layer_widens Stmt-F.Continue place r d = wider_edges d _ refl refl refl
layer_widens (Stmt-F.Return None) place r d = wider_edges d _ refl refl refl
layer_widens (Stmt-F.Return (Some e)) place r d = hoist_then_edge e place r.from d _ refl refl refl
layer_widens (Stmt-F.Create x f) place r d = wider_edges d _ refl refl refl
layer_widens (Stmt-F.Join x) place r d = wider_edges d _ refl refl refl
layer_widens (Stmt-F.Lock m) place r d = wider_edges d _ refl refl refl
layer_widens (Stmt-F.Unlock m) place r d = wider_edges d _ refl refl refl
layer_widens (Stmt-F.Assert e) place r d = hoist_then_edge e place r.from d _ refl refl refl
layer_widens Stmt-F.Empty place r d = wider_edges d _ refl refl refl

stmt_rolled : (x : Stmt-F Stmt Placed) (y : Stmt-F WideStmt WidePlaced) → stmts_of y ≡ x → StmtWidens (roll-Stmt x)
stmt_rolled x y e place =
    let same = fold-roll-Stmt (Place → Lowering) Lowering lowering_step placed_step x in
    subst LowerWidens (sym (ap (λ (f : Place → Lowering). f place) same))
    (subst (λ (z : Stmt-F Stmt Placed). LowerWidens (lowering_step (lowerings_of z) place)) e (layer_widens y place))

placed_rolled : (x : Placed-F Stmt Placed) (y : Placed-F WideStmt WidePlaced) → map-Placed WideStmt WidePlaced Stmt Placed (λ s. s.0) (λ p. p.0) y ≡ x → PlacedWidens (roll-Placed x)
placed_rolled x y e =
    subst (λ (z : Placed-F Stmt Placed). PlacedWidens (roll-Placed z)) e
    (subst LowerWidens (sym (fold-roll-Placed (Place → Lowering) Lowering lowering_step placed_step (record { place = y.place; stmt = y.stmt.0 }))) (y.stmt.1 y.place))

pub lowerings_widen : (p : Placed) → PlacedWidens p
lowerings_widen = ind-Placed StmtWidens PlacedWidens stmt_rolled placed_rolled

all_widen : (ps : List Placed) → Each LowerWidens (map lowering_of ps)
all_widen [] = tt
all_widen (p ∷ ps) = (lowerings_widen p, all_widen ps)

part_widens : (p : Option Placed) → PartWidens (option_map lowering_of p)
part_widens None = tt
part_widens (Some p) = lowerings_widen p

-- ---- the stages of a statement, over the trees of its parts

pub wider_sequence : (ps : List Placed) (r : Route) (d : FlowGraph) → Wider d (sequence (map lowering_of ps) r d)
wider_sequence ps r d = widens_sequence (map lowering_of ps) (all_widen ps) r d

pub wider_or_silent : (ps : List Placed) (r : Route) (d : FlowGraph) → Wider d (sequence_or_silent (map lowering_of ps) r d)
wider_or_silent ps r d = widens_or_silent (map lowering_of ps) (all_widen ps) r d

pub wider_part : (p : Option Placed) (r : Route) (d : FlowGraph) → Wider d (part_or_silent (option_map lowering_of p) r d)
wider_part p r d = widens_part (option_map lowering_of p) (part_widens p) r d

pub wider_if_flow : (a : Placed) (b : Option Placed) (r : Route) (e : Hoisted Expr) → Wider e.1.flow (if_flow (lowering_of a) (option_map lowering_of b) r e)
wider_if_flow a b r e = widens_if (lowering_of a) (option_map lowering_of b) (lowerings_widen a) (part_widens b) r e

pub wider_while_flow : (body : Placed) (r : Route) (e : Hoisted Expr) → Wider e.1.flow (while_flow (lowering_of body) r e)
wider_while_flow body r e = widens_while (lowering_of body) (lowerings_widen body) r e

pub wider_for_flow : (last : Option Placed) (body : Placed) (place : Place) (test : ℕ) (r : Route) (e : Hoisted Expr) → Wider e.1.flow (for_flow (option_map lowering_of last) (lowering_of body) place test r e)
wider_for_flow last body place test r e = widens_for_flow (option_map lowering_of last) (lowering_of body) (part_widens last) (lowerings_widen body) place test r e

-- ---- functions

pub wider_function : (f : Function) → Wider (first_flow f) (flow_of f)
wider_function f = wider_sequence f.body body_route (first_flow f)

-- the slots of a function's graph
slots_length : (f : Function) → length (graph_of f).slots ≡ slot_count (flow_of f)
slots_length f =
    let g = wider_function f in
    let n : (flow_of f).named ≡ length f.slots = g.named in
    let a = length-append f.slots (map temporary (flow_of f).temps) in
    let b = length-map (flow_of f).temps temporary in
    omega (arith, n, a, b)

-- a limit that is told of what is drawn is one of the graph
pub limit_told : (f : Function) (fault : BuildFault) → Faults fault (flow_of f) → fault ≡ Limit → IsOverLimits (graph_of f)
limit_told f Limit told e = let l = slots_length f in ⊎_elim (λ h. inl h) (λ h. inr (omega (arith, h, l))) told
limit_told f Memory told e = cc

pub named_over : (f : Function) → 128 < length f.slots → Faults Limit (flow_of f)
named_over f over =
    let g = wider_function f in
    let s : slot_count (first_flow f) ≤ slot_count (flow_of f) = g.slots in
    let z : slot_count (first_flow f) ≡ length f.slots = add-zero (length f.slots) in
    inr (omega (arith, s, z, over))

-- what is within the limits while it is drawn is so as a graph
pub within_told : (slots named : List Slot) (nodes : List Place) (temps temps' : List Width) (d : FlowGraph) (count : ℕ)
    → d.named ≡ count → length named ≡ count → nodes ≡ d.nodes → temps ≡ d.temps → temps' ≡ temps → slots ≡ named ++ map temporary temps'
    → (next_node d ≤ 4096) × (slot_count d ≤ 128) → (length nodes ≤ 4096) × (length slots ≤ 128)
within_told slots named nodes temps temps' d count ce ne ke te te' se within =
    let l = ap length se in
    let a = length-append named (map temporary temps') in
    let b = length-map temps' temporary in
    let t = ap length (te' ∙ te) in
    let n = ap length ke in
    (omega (arith, n, within.0), omega (arith, l, a, b, t, ce, ne, within.1))

pub named_count : (f : Function) (d : FlowGraph) → d ≡ flow_of f → d.named ≡ length f.slots
named_count f d e = let g = wider_function f in ap (λ (x : FlowGraph). x.named) e ∙ g.named
