-- What hoisting adds to a draft.
use Rattle.std.proofs.Common.{◌≡◌, ◌≢◌, refl, sym, ◌∙◌, subst, ℕ, pos, ◌+◌, ◌<◌, ◌≤◌, ◌⊎◌, inl, inr, ⊎_elim, Bool, true, false, List, [], ◌∷◌, map, Option, None, Some, arith}
use Rattle.std.specs.Prelude.{if◌then◌else◌}
use Rattle.gob_tree.specs.declared.place.Place.{Place}
use Rattle.gob_tree.specs.declared.expr.Width.{Width}
use Rattle.gob_tree.specs.declared.expr.Width.TheVariants.{W32}
use Rattle.gob_tree.specs.declared.expr.BinOp.{BinOp}
use Rattle.gob_tree.specs.declared.expr.BinOp.TheVariants.{Ne}
use Rattle.gob_tree.specs.declared.expr.Expr.{Expr, Number, Binary}
use Rattle.gob_tree.specs.declared.graph.Action.{Action}
use Rattle.gob_tree.specs.declared.graph.Action.TheVariants.{Assign, Guard, Read, Nondet, Call}
use Rattle.c_meaning.specs.Demand.{truth}
use Rattle.c_meaning.specs.Graph.{FlowGraph, HoistState, Hoisted, Hoisting, next_node, with_node, with_edge, with_silent, taking, free_temp, temp_slot, with_temp, fetch_into, fetch, stop_of, node_of, logic_at, logic_join, strict_join, binary_join, hoist_all, hoisting_step, hoisting_of, begun_at, hoisted_expr, hoisted_exprs}
use Rattle.gob_tree.proofs.Folds.{fold-Number, fold-Local, fold-Global, fold-Nondet, fold-Unary, fold-Binary, fold-Call}
use Rattle.gob_tree.proofs.Induct.{Each, by_forms}
use Rattle.c_meaning.proofs.Growth.{Ends, ends_append, ends_map, Ranked, ranked_into, Below, Grown, IsNew, Adds, adds_below, adds_then, adds_from, adds_node, adds_silent, append_nil, grown_none, grown_then, grown_from, grown_node, node_more, grown_edge}

-- from one spot to another: what is edges grows, and the node is the same one or a new one
pub record Hops (s s' : HoistState) : Type 0 where
  pub grown : Grown (next_node s.flow) s.at s.flow s'.flow
  pub node : (s'.at ≡ s.at) ⊎ (next_node s.flow ≤ s'.at)
  pub there : s'.at < next_node s'.flow

hops_none : (s : HoistState) → s.at < next_node s.flow → Hops s s
hops_none s h = record { grown = grown_none (next_node s.flow) s.at s.flow; node = inl refl; there = h }

hops_then : (a b c : HoistState) → Hops a b → Hops b c → Hops a c
hops_then a b c g h = record {
  grown = grown_then (next_node a.flow) a.at a.flow b.flow c.flow g.grown
      (grown_from (next_node a.flow) (next_node b.flow) a.at b.at b.flow c.flow g.grown.adds.nodes g.node h.grown);
  node = ⊎_elim (λ e. ⊎_elim (λ q. inl (e ∙ q)) (λ q. inr (omega (arith, e, q))) g.node) (λ q. let k = g.grown.adds.nodes in inr (omega (arith, q, k))) h.node;
  there = h.there;
}

-- taking a temporary draws nothing
hops_temp : (w : Width) (o : Option ℕ) (s : HoistState) → s.at < next_node s.flow → Hops s (taking w o s)
hops_temp w None s h = record { grown = record { adds = record { added = []; edges = append_nil s.flow.edges; nodes = omega arith; ends = tt }; ranked = λ b r. r }; node = inl refl; there = h }
hops_temp w (Some k) s h = record { grown = grown_none (next_node s.flow) s.at s.flow; node = inl refl; there = h }

hops_fetch_into : (t : ℕ) (place : Place) (act : Action) (s : HoistState) → s.at < next_node s.flow → Hops s (fetch_into t place act s).1
hops_fetch_into t place act s h = record {
  grown = grown_then n s.at s.flow (with_node place s.flow) (with_edge s.at act n (with_node place s.flow)) (grown_node n s.at s.flow place) (grown_edge n s.at (with_node place s.flow) s.at act n);
  node = inr (omega arith);
  there = let e = node_more s.flow place in omega (arith, e);
}
  where
    n : ℕ
    n = next_node s.flow

hops_fetch : (place : Place) (w : Width) (act : ℕ → Action) (s : HoistState) → s.at < next_node s.flow → Hops s (fetch place w act s).1
hops_fetch place w act s h =
    let t = hops_temp w (free_temp w s) s h in
    hops_then s (with_temp w s) (fetch place w act s).1 t (hops_fetch_into (temp_slot w s) place (act (temp_slot w s)) (with_temp w s) t.there)

-- a hoisting that does so from each spot whose node is there
abbrev pub HoistHops : Hoisting → Type 0
HoistHops h = (place : Place) (s : HoistState) → s.at < next_node s.flow → Hops s (h.hoist place s).1

hops_all : (es : List Hoisting) → Each HoistHops es → (place : Place) (s : HoistState) → s.at < next_node s.flow → Hops s (hoist_all es place s).1
hops_all [] all place s h = hops_none s h
hops_all (e ∷ es) all place s h =
    let first = all.0 place s h in
    hops_then s (e.hoist place s).1 (hoist_all es place (e.hoist place s).1).1 first (hops_all es all.1 place (e.hoist place s).1 first.there)

-- ---- `&&` and `||`

-- the guards and the edge that decides, with three new nodes
module _ (stop : Bool) (place : Place) (t : ℕ) (l : Expr) (s : HoistState) (h : s.at < next_node s.flow) where
  p : ℕ
  p = next_node s.flow

  nodes : FlowGraph
  nodes = with_node place (with_node place (with_node place s.flow))

  yes : FlowGraph
  yes = with_silent s.at (Guard l true) p nodes

  guards : FlowGraph
  guards = with_silent s.at (Guard l false) (p + 1) yes

  decided : FlowGraph
  decided = with_silent (node_of stop p (p + 1)) (Assign t (Number (truth stop) W32)) (p + 2) guards

  three_more : next_node nodes ≡ p + 3
  unfolding p nodes
  three_more =
      let a = node_more s.flow place in
      let b = node_more (with_node place s.flow) place in
      let c = node_more (with_node place (with_node place s.flow)) place in
      omega (arith, a, b, c)

  nodes_added : Adds p s.at s.flow nodes
  unfolding p nodes
  nodes_added =
      adds_then p s.at s.flow (with_node place s.flow) nodes (adds_node p s.at s.flow place)
      (adds_then p s.at (with_node place s.flow) (with_node place (with_node place s.flow)) nodes
      (adds_node p s.at (with_node place s.flow) place)
      (adds_node p s.at (with_node place (with_node place s.flow)) place))

  decides : ℕ
  decides = node_of stop p (p + 1)

  -- the node that decides is one of the first two new ones
  decides_new : (p ≤ decides) × (decides < p + 2)
  unfolding decides
  decides_new = elim stop as (λ b. (p ≤ node_of b p (p + 1)) × (node_of b p (p + 1) < p + 2)) [ true ↦ (omega arith, omega arith) | false ↦ (omega arith, omega arith) ]

  before_p : s.at < p
  unfolding p
  before_p = h

  decided_added : Adds p s.at s.flow decided
  unfolding yes guards decided decides
  decided_added =
      let k = three_more in
      let b = before_p in
      let m = decides_new in
      adds_then p s.at s.flow nodes decided nodes_added
      (adds_then p s.at nodes yes decided (adds_silent p s.at nodes s.at (Guard l true) p (omega arith, inl refl, omega (arith, k, b), omega (arith, k)))
      (adds_then p s.at yes guards decided (adds_silent p s.at yes s.at (Guard l false) (p + 1) (omega arith, inl refl, omega (arith, k, b), omega (arith, k)))
      (adds_silent p s.at guards decides (Assign t (Number (truth stop) W32)) (p + 2) (omega arith, inr (omega (arith, m.0)), omega (arith, k, m.1), omega (arith, k)))))

  -- no silent edge of the draft before leaves a new node
  old_apart : (to : ℕ) → p ≤ to → Below s.flow → Ends (λ from end. from ≢ to) s.flow.edges
  unfolding p
  old_apart to new b = ends_map (λ from end. (from < next_node s.flow) × (end < next_node s.flow)) (λ from end. from ≢ to) (λ from end e q. absurd (omega (arith, e.0, q, new))) s.flow.edges b

  -- nor does one of the guards
  guards_apart : (to : ℕ) → p ≤ to → Below s.flow → Ends (λ from end. from ≢ to) guards.edges
  unfolding nodes yes guards
  guards_apart to new b =
      let k = before_p in
      ends_append (λ from end. from ≢ to) yes.edges _
      (ends_append (λ from end. from ≢ to) s.flow.edges _ (old_apart to new b) ((λ e q. absurd (omega (arith, q, new, k))), tt))
      ((λ e q. absurd (omega (arith, q, new, k))), tt)

  decided_apart : Below s.flow → Ends (λ from end. from ≢ p + 2) decided.edges
  unfolding decided decides
  decided_apart b =
      let m = decides_new in
      ends_append (λ from end. from ≢ p + 2) guards.edges _ (guards_apart (p + 2) (omega arith) b) ((λ e q. absurd (omega (arith, q, m.1))), tt)

  decided_ranked : Below s.flow → Ranked s.flow.edges → Ranked decided.edges
  unfolding nodes yes guards decided decides
  decided_ranked b r =
      let k = before_p in
      let m = decides_new in
      let yes_apart : Ends (λ from end. from ≢ p + 1) yes.edges = ends_append (λ from end. from ≢ p + 1) s.flow.edges _ (old_apart (p + 1) (omega arith) b) ((λ e q. absurd (omega (arith, q, k))), tt) in
      let r1 : Ranked yes.edges = ranked_into s.flow.edges _ r (old_apart p (omega arith) b) (λ q. absurd (omega (arith, q, k))) in
      let r2 : Ranked guards.edges = ranked_into yes.edges _ r1 yes_apart (λ q. absurd (omega (arith, q, k))) in
      ranked_into guards.edges _ r2 (guards_apart (p + 2) (omega arith) b) (λ q. absurd (omega (arith, q, m.1)))

  goes_on : ℕ
  goes_on = node_of stop (p + 1) p

  goes_new : (p ≤ goes_on) × (goes_on < p + 2)
  unfolding goes_on
  goes_new = elim stop as (λ b. (p ≤ node_of b (p + 1) p) × (node_of b (p + 1) p < p + 2)) [ true ↦ (omega arith, omega arith) | false ↦ (omega arith, omega arith) ]

  right_from : HoistState
  right_from = record s { flow = decided; at = goes_on }

  decided_nodes : next_node decided ≡ p + 3
  unfolding decided guards yes
  decided_nodes = three_more

  module _ (right : Hoisting) (hr : HoistHops right) where
    r : Hoisted Expr
    r = right.hoist place right_from

    hops_right : Hops right_from r.1
    unfolding right_from r
    hops_right = let k = decided_nodes in let m = goes_new in hr place right_from (omega (arith, k, m.1))

    last : FlowGraph
    last = with_silent r.1.at (Assign t (Binary Ne r.0 (Number (pos 0) W32))) (p + 2) r.1.flow

    -- the node that the right operand ends at is no join node, and no silent edge leaves that
    end_apart : r.1.at ≢ p + 2
    unfolding right_from
    end_apart q =
        let k = decided_nodes in
        let m = goes_new in
        ⊎_elim (λ e. absurd (omega (arith, e, q, m.1))) (λ e. absurd (omega (arith, e, q, k))) hops_right.node

    end_new : p ≤ r.1.at
    unfolding right_from
    end_new =
        let k = decided_nodes in
        let m = goes_new in
        ⊎_elim (λ e. omega (arith, e, m.0)) (λ e. omega (arith, e, k)) hops_right.node

    right_apart : Below s.flow → Ends (λ from end. from ≢ p + 2) r.1.flow.edges
    unfolding right_from
    right_apart b =
        let k = decided_nodes in
        let m = goes_new in
        let g = hops_right.grown.adds in
        subst (Ends (λ from end. from ≢ p + 2)) (sym g.edges)
        (ends_append (λ from end. from ≢ p + 2) decided.edges g.added (decided_apart b)
        (ends_map (IsNew (next_node decided) goes_on (next_node r.1.flow)) (λ from end. from ≢ p + 2)
        (λ from end e q. ⊎_elim (λ z. absurd (omega (arith, z, q, m.1))) (λ z. absurd (omega (arith, z, q, k))) e.1)
        g.added g.ends))

    right_adds : Adds p s.at s.flow r.1.flow
    unfolding right_from
    right_adds =
        let k = decided_nodes in
        let m = goes_new in
        adds_then p s.at s.flow decided r.1.flow decided_added
        (adds_from p (next_node decided) s.at goes_on decided r.1.flow (omega (arith, k)) (inr m.0) hops_right.grown.adds)

    all_adds : Adds p s.at s.flow last
    unfolding last right_from
    all_adds =
        let k = decided_nodes in
        let g = hops_right.grown.adds.nodes in
        adds_then p s.at s.flow r.1.flow last right_adds
        (adds_silent p s.at r.1.flow r.1.at (Assign t (Binary Ne r.0 (Number (pos 0) W32))) (p + 2) (omega arith, inr end_new, hops_right.there, omega (arith, k, g)))

    all_ranked : Below s.flow → Ranked s.flow.edges → Ranked last.edges
    unfolding last right_from
    all_ranked b rk = ranked_into r.1.flow.edges _ (hops_right.grown.ranked (adds_below p s.at s.flow decided decided_added b) (decided_ranked b rk)) (right_apart b) end_apart

    hops_logic : Hops s (logic_at stop right place t (next_node s.flow) l s).1
    unfolding p nodes yes guards decided right_from goes_on r last
    hops_logic = record {
      grown = record { adds = all_adds; ranked = all_ranked };
      node = inr (omega arith);
      there = let k = decided_nodes in let g = hops_right.grown.adds.nodes in omega (arith, k, g);
    }

-- with the temporary that is taken before
hops_logic_taken : (o : Option ℕ) (stop : Bool) (right : Hoisting) (place : Place) (t : ℕ) (l : Expr) (s : HoistState) → HoistHops right → s.at < next_node s.flow → Hops s (logic_at stop right place t (next_node s.flow) l (taking W32 o s)).1
hops_logic_taken None stop right place t l s hr h = let taken = hops_temp W32 None s h in hops_then s (taking W32 None s) _ taken (hops_logic stop place t l (taking W32 None s) h right hr)
hops_logic_taken (Some k) stop right place t l s hr h = let taken = hops_temp W32 (Some k) s h in hops_then s (taking W32 (Some k) s) _ taken (hops_logic stop place t l (taking W32 (Some k) s) h right hr)

hops_logic_join : (stop : Bool) (right : Hoisting) (place : Place) (e : Hoisted Expr) → HoistHops right → e.1.at < next_node e.1.flow → Hops e.1 (logic_join stop right place e).1
hops_logic_join stop right place e hr h = hops_logic_taken (free_temp W32 e.1) stop right place (temp_slot W32 e.1) e.0 e.1 hr h

hops_if : (inputs : Bool) (op : BinOp) (stop : Bool) (right : Hoisting) (place : Place) (e : Hoisted Expr) → HoistHops right → e.1.at < next_node e.1.flow → Hops e.1 (if inputs then logic_join stop right place e else strict_join op right place e).1
hops_if true op stop right place e hr h = hops_logic_join stop right place e hr h
hops_if false op stop right place e hr h = hr place e.1 h

hops_binary : (o : Option Bool) (op : BinOp) (right : Hoisting) (place : Place) (e : Hoisted Expr) → HoistHops right → e.1.at < next_node e.1.flow → Hops e.1 (binary_join op o right place e).1
hops_binary None op right place e hr h = hr place e.1 h
hops_binary (Some stop) op right place e hr h = hops_if right.inputs op stop right place e hr h

-- ---- all expressions

all_hop : (args : List Expr) → Each (λ e. HoistHops (hoisting_of e)) args → Each HoistHops (map hoisting_of args)
all_hop [] a = tt
all_hop (e ∷ es) a = (a.0, all_hop es a.1)

pub hoists_hop : (e : Expr) → HoistHops (hoisting_of e)
hoists_hop = by_forms (λ e. HoistHops (hoisting_of e))
    (λ n w. subst HoistHops (sym (fold-Number Hoisting hoisting_step n w)) (λ place s h. hops_none s h))
    (λ x. subst HoistHops (sym (fold-Local Hoisting hoisting_step x)) (λ place s h. hops_none s h))
    (λ g w. subst HoistHops (sym (fold-Global Hoisting hoisting_step g w)) (λ place s h. hops_fetch place w (λ t. Read t g) s h))
    (λ w. subst HoistHops (sym (fold-Nondet Hoisting hoisting_step w)) (λ place s h. hops_fetch place w (λ t. Nondet t) s h))
    (λ op a ha. subst HoistHops (sym (fold-Unary Hoisting hoisting_step op a)) ha)
    (λ op a b ha hb. subst HoistHops (sym (fold-Binary Hoisting hoisting_step op a b))
    (λ place s h.
    let first = ha place s h in
    hops_then s ((hoisting_of a).hoist place s).1 _ first (hops_binary (stop_of op) op (hoisting_of b) place ((hoisting_of a).hoist place s) hb first.there)))
    (λ f w args all. subst HoistHops (sym (fold-Call Hoisting hoisting_step f w args))
    (λ place s h.
    let first = hops_all (map hoisting_of args) (all_hop args all) place s h in
    let es = hoist_all (map hoisting_of args) place s in
    hops_then s es.1 _ first (hops_fetch place w (λ t. Call (Some t) f es.0) es.1 first.there)))

-- a statement's expressions, from a node that is there
pub record Hoists (node : ℕ) (d : FlowGraph) (s : HoistState) : Type 0 where
  pub grown : Grown (next_node d) node d s.flow
  pub at : (s.at ≡ node) ⊎ (next_node d ≤ s.at)
  pub there : s.at < next_node s.flow

pub hoists_expr : (e : Expr) (place : Place) (node : ℕ) (d : FlowGraph) → node < next_node d → Hoists node d (hoisted_expr e place node d).1
hoists_expr e place node d h = let k = hoists_hop e place (begun_at node d) h in record { grown = k.grown; at = k.node; there = k.there }

pub hoists_exprs : (es : List Expr) (place : Place) (node : ℕ) (d : FlowGraph) → node < next_node d → Hoists node d (hoisted_exprs es place node d).1
hoists_exprs es place node d h =
    let k = hops_all (map hoisting_of es) (every es) place (begun_at node d) h in record { grown = k.grown; at = k.node; there = k.there }
  where
    every : (es : List Expr) → Each HoistHops (map hoisting_of es)
    every [] = tt
    every (e ∷ es) = (hoists_hop e, every es)
