-- Hoisting leaves nodes that nothing left before.
use Rattle.std.proofs.Common.{◌≡◌, ◌≢◌, refl, sym, ◌∙◌, subst, ℕ, pos, ◌+◌, ◌<◌, ◌≤◌, ◌⊎◌, inl, inr, ⊎_elim, Bool, true, false, List, [], ◌∷◌, map, Option, None, Some, arith}
use Rattle.std.specs.Prelude.{if◌then◌else◌}
use Rattle.gob_tree.specs.declared.place.Place.{Place}
use Rattle.gob_tree.specs.declared.expr.Width.{Width}
use Rattle.gob_tree.specs.declared.expr.Width.TheVariants.{W32}
use Rattle.gob_tree.specs.declared.expr.BinOp.{BinOp}
use Rattle.gob_tree.specs.declared.expr.BinOp.TheVariants.{Ne}
use Rattle.gob_tree.specs.declared.expr.Expr.{Expr, Number, Binary}
use Rattle.gob_tree.specs.declared.graph.Action.{Action}
use Rattle.gob_tree.specs.declared.graph.Action.TheVariants.{Assign, Guard, Read, Nondet, Call}
use Rattle.gob_tree.proofs.Folds.{fold-Number, fold-Local, fold-Global, fold-Nondet, fold-Unary, fold-Binary, fold-Call}
use Rattle.gob_tree.proofs.Induct.{Each, by_forms}
use Rattle.c_meaning.specs.Demand.{truth}
use Rattle.c_meaning.specs.Graph.{FlowGraph, HoistState, Hoisted, Hoisting, next_node, with_node, with_edge, with_silent, taking, free_temp, temp_slot, with_temp, fetch_into, fetch, stop_of, node_of, logic_at, logic_join, strict_join, binary_join, hoist_all, hoisting_step, hoisting_of, begun_at, hoisted_expr, hoisted_exprs}
use Rattle.c_meaning.proofs.Growth.{node_more}
use Rattle.graph_law.proofs.Steps.{Free, Tidy, Step, free_above, step_none, step_then, step_node, step_edge, step_guards}

-- from one state of the hoisting to another: the node reached is the same one or a new one, and free
pub record Hop (s s' : HoistState) : Type 0 where
  pub step : Step s.at s.flow s'.flow
  pub node : (s'.at ≡ s.at) ⊎ (next_node s.flow ≤ s'.at)
  pub there : s'.at < next_node s'.flow
  pub free : Free s'.flow s'.at

-- where a hoisting may begin
pub record Ready (s : HoistState) : Type 0 where
  pub tidy : Tidy s.flow
  pub there : s.at < next_node s.flow
  pub free : Free s.flow s.at

ready : (s s' : HoistState) → Hop s s' → Ready s'
ready s s' h = record { tidy = h.step.tidy; there = h.there; free = h.free }

hop_none : (s : HoistState) → Ready s → Hop s s
hop_none s r = record { step = step_none s.at s.flow r.tidy; node = inl refl; there = r.there; free = r.free }

hop_then : (a b c : HoistState) → Hop a b → Hop b c → Hop a c
hop_then a b c g h = record {
  step = step_then a.at b.at a.flow b.flow c.flow g.step h.step g.node;
  node = ⊎_elim (λ e. ⊎_elim (λ q. inl (e ∙ q)) (λ q. inr (omega (arith, e, q))) g.node) (λ q. let k = g.step.nodes in inr (omega (arith, q, k))) h.node;
  there = h.there;
  free = h.free;
}

-- taking a temporary adds no edge
hop_temp : (w : Width) (o : Option ℕ) (s : HoistState) → Ready s → Hop s (taking w o s)
hop_temp w None s r = record {
  step = record { tidy = record { below = r.tidy.below; ways = r.tidy.ways }; nodes = omega arith; free = λ m lt ne f. f };
  node = inl refl;
  there = r.there;
  free = r.free;
}
hop_temp w (Some k) s r = record { step = step_none s.at s.flow r.tidy; node = inl refl; there = r.there; free = r.free }

hop_fetch_into : (t : ℕ) (place : Place) (act : Action) (s : HoistState) → Ready s → Hop s (fetch_into t place act s).1
hop_fetch_into t place act s r = record {
  step = step_then s.at s.at s.flow opened drawn a b (inl refl);
  node = inr (omega arith);
  there = let k = node_more s.flow place in omega (arith, k);
  free = b.free n (let k = node_more s.flow place in omega (arith, k)) (λ q. let h = r.there in absurd (omega (arith, q, h))) (free_above s.flow n r.tidy (omega arith));
}
  where
    n : ℕ
    n = next_node s.flow

    opened : FlowGraph
    opened = with_node place s.flow

    drawn : FlowGraph
    drawn = with_edge s.at act (next_node s.flow) (with_node place s.flow)

    a : Step s.at s.flow (with_node place s.flow)
    a = step_node s.at s.flow place r.tidy

    b : Step s.at (with_node place s.flow) (with_edge s.at act (next_node s.flow) (with_node place s.flow))
    b = step_edge false s.at act (next_node s.flow) (with_node place s.flow) a.tidy (let k = node_more s.flow place in let h = r.there in omega (arith, k, h)) r.free

hop_fetch : (place : Place) (w : Width) (act : ℕ → Action) (s : HoistState) → Ready s → Hop s (fetch place w act s).1
hop_fetch place w act s r =
    let t = hop_temp w (free_temp w s) s r in
    hop_then s (with_temp w s) (fetch place w act s).1 t (hop_fetch_into (temp_slot w s) place (act (temp_slot w s)) (with_temp w s) (ready s (with_temp w s) t))

-- a hoisting that does so from wherever it may begin
abbrev pub HoistHops : Hoisting → Type 0
HoistHops h = (place : Place) (s : HoistState) → Ready s → Hop s (h.hoist place s).1

hop_all : (es : List Hoisting) → Each HoistHops es → (place : Place) (s : HoistState) → Ready s → Hop s (hoist_all es place s).1
hop_all [] all place s r = hop_none s r
hop_all (e ∷ es) all place s r =
    let first = all.0 place s r in
    hop_then s (e.hoist place s).1 (hoist_all es place (e.hoist place s).1).1 first (hop_all es all.1 place (e.hoist place s).1 (ready s (e.hoist place s).1 first))

-- ---- `&&` and `||`

module _ (stop : Bool) (place : Place) (t : ℕ) (l : Expr) (s : HoistState) (r : Ready s) where
  p : ℕ
  p = next_node s.flow

  nodes : FlowGraph
  nodes = with_node place (with_node place (with_node place s.flow))

  guards : FlowGraph
  guards = with_silent s.at (Guard l false) (p + 1) (with_silent s.at (Guard l true) p nodes)

  decides : ℕ
  decides = node_of stop p (p + 1)

  goes_on : ℕ
  goes_on = node_of stop (p + 1) p

  decided : FlowGraph
  decided = with_silent decides (Assign t (Number (truth stop) W32)) (p + 2) guards

  three_more : next_node nodes ≡ p + 3
  unfolding p nodes
  three_more =
      let a = node_more s.flow place in
      let b = node_more (with_node place s.flow) place in
      let c = node_more (with_node place (with_node place s.flow)) place in
      omega (arith, a, b, c)

  before_p : s.at < p
  unfolding p
  before_p = r.there

  two_of_three : (p ≤ decides) × (decides < p + 2) × (p ≤ goes_on) × (goes_on < p + 2) × (goes_on ≢ decides)
  unfolding decides goes_on
  two_of_three = elim stop as (λ b. (p ≤ node_of b p (p + 1)) × (node_of b p (p + 1) < p + 2) × (p ≤ node_of b (p + 1) p) × (node_of b (p + 1) p < p + 2) × (node_of b (p + 1) p ≢ node_of b p (p + 1))) [ true ↦ (omega arith, omega arith, omega arith, omega arith, λ q. absurd (omega (arith, q))) | false ↦ (omega arith, omega arith, omega arith, omega arith, λ q. absurd (omega (arith, q))) ]

  nodes_step : Step s.at s.flow nodes
  unfolding nodes
  nodes_step =
      let a = step_node s.at s.flow place r.tidy in
      let b = step_node s.at (with_node place s.flow) place a.tidy in
      let c = step_node s.at (with_node place (with_node place s.flow)) place b.tidy in
      step_then s.at s.at s.flow (with_node place s.flow) _ a (step_then s.at s.at (with_node place s.flow) (with_node place (with_node place s.flow)) _ b c (inl refl)) (inl refl)

  start_free : Free nodes s.at
  unfolding nodes
  start_free = r.free

  guards_step : Step s.at nodes guards
  unfolding guards
  guards_step = step_guards true s.at l p (p + 1) nodes nodes_step.tidy (let k = three_more in let b = before_p in omega (arith, k, b)) start_free

  still_free : (m : ℕ) → p ≤ m → Free nodes m
  unfolding p nodes
  still_free m low = free_above s.flow m r.tidy low

  -- a new node is free behind the guards
  new_free : (m : ℕ) → p ≤ m → m < p + 3 → Free guards m
  new_free m low high = guards_step.free m (let k = three_more in omega (arith, k, high)) (λ q. let b = before_p in absurd (omega (arith, q, b, low))) (still_free m low)

  guards_nodes : next_node guards ≡ p + 3
  unfolding guards
  guards_nodes = three_more

  decided_step : Step decides guards decided
  unfolding decided
  decided_step = let m = two_of_three in let k = guards_nodes in step_edge true decides (Assign t (Number (truth stop) W32)) (p + 2) guards guards_step.tidy (omega (arith, k, m.1)) (new_free decides m.0 (omega (arith, m.1)))

  decided_nodes : next_node decided ≡ p + 3
  unfolding decided
  decided_nodes = guards_nodes

  right_from : HoistState
  right_from = record s { flow = decided; at = goes_on }

  right_ready : Ready right_from
  unfolding right_from
  right_ready =
      let m = two_of_three in
      let k = guards_nodes in
      let d = decided_nodes in
      record { tidy = decided_step.tidy; there = omega (arith, d, m.3); free = decided_step.free goes_on (omega (arith, k, m.3)) m.4 (new_free goes_on m.2 (omega (arith, m.3))) }

  join_free : Free decided (p + 2)
  join_free = let m = two_of_three in let k = guards_nodes in decided_step.free (p + 2) (omega (arith, k)) (λ q. absurd (omega (arith, q, m.1))) (new_free (p + 2) (omega arith) (omega arith))

  decided_all : Step s.at s.flow decided
  unfolding p
  decided_all =
      let m = two_of_three in
      step_then s.at decides s.flow guards decided (step_then s.at s.at s.flow nodes guards nodes_step guards_step (inl refl)) decided_step (inr m.0)

  module _ (right : Hoisting) (hr : HoistHops right) where
    e : Hoisted Expr
    e = right.hoist place right_from

    right_hop : Hop right_from e.1
    unfolding e
    right_hop = hr place right_from right_ready

    last : FlowGraph
    last = with_silent e.1.at (Assign t (Binary Ne e.0 (Number (pos 0) W32))) (p + 2) e.1.flow

    last_step : Step e.1.at e.1.flow last
    unfolding last
    last_step = step_edge true e.1.at (Assign t (Binary Ne e.0 (Number (pos 0) W32))) (p + 2) e.1.flow right_hop.step.tidy right_hop.there right_hop.free

    -- the node that the right operand ends at is a new one, and not the join
    end_new : p ≤ e.1.at
    unfolding right_from
    end_new = let k = decided_nodes in let m = two_of_three in ⊎_elim (λ q. omega (arith, q, m.2)) (λ q. omega (arith, q, k)) right_hop.node

    end_apart : p + 2 ≢ e.1.at
    unfolding right_from
    end_apart q = let k = decided_nodes in let m = two_of_three in ⊎_elim (λ z. absurd (omega (arith, z, q, m.3))) (λ z. absurd (omega (arith, z, q, k))) right_hop.node

    right_step : Step goes_on decided e.1.flow
    unfolding right_from
    right_step = right_hop.step

    right_nodes : p + 3 ≤ next_node e.1.flow
    right_nodes = let k = decided_nodes in let g = right_step.nodes in omega (arith, k, g)

    right_free : Free e.1.flow (p + 2)
    right_free = let m = two_of_three in let k = decided_nodes in right_step.free (p + 2) (omega (arith, k)) (λ q. absurd (omega (arith, q, m.3))) join_free

    all_step : Step s.at s.flow last
    unfolding p
    all_step =
        let m = two_of_three in
        step_then s.at e.1.at s.flow e.1.flow last (step_then s.at goes_on s.flow decided e.1.flow decided_all right_step (inr m.2)) last_step (inr end_new)

    last_nodes : next_node last ≡ next_node e.1.flow
    unfolding last
    last_nodes = refl

    hop_logic : Hop s (logic_at stop right place t (next_node s.flow) l s).1
    unfolding p nodes guards decides goes_on decided right_from e last
    hop_logic = record {
      step = all_step;
      node = inr (omega arith);
      there = let k = right_nodes in omega (arith, k);
      free = last_step.free (p + 2) (let k = right_nodes in omega (arith, k)) end_apart right_free;
    }

hop_logic_join : (stop : Bool) (right : Hoisting) (place : Place) (x : Hoisted Expr) → HoistHops right → Ready x.1 → Hop x.1 (logic_join stop right place x).1
hop_logic_join stop right place x hr r = go (free_temp W32 x.1)
  where
    go : (o : Option ℕ) → Hop x.1 (logic_at stop right place (temp_slot W32 x.1) (next_node x.1.flow) x.0 (taking W32 o x.1)).1
    go None = let taken = hop_temp W32 None x.1 r in hop_then x.1 (taking W32 None x.1) _ taken (hop_logic stop place (temp_slot W32 x.1) x.0 (taking W32 None x.1) (ready x.1 (taking W32 None x.1) taken) right hr)
    go (Some k) = let taken = hop_temp W32 (Some k) x.1 r in hop_then x.1 (taking W32 (Some k) x.1) _ taken (hop_logic stop place (temp_slot W32 x.1) x.0 (taking W32 (Some k) x.1) (ready x.1 (taking W32 (Some k) x.1) taken) right hr)

hop_if : (inputs : Bool) (op : BinOp) (stop : Bool) (right : Hoisting) (place : Place) (x : Hoisted Expr) → HoistHops right → Ready x.1 → Hop x.1 (if inputs then logic_join stop right place x else strict_join op right place x).1
hop_if true op stop right place x hr r = hop_logic_join stop right place x hr r
hop_if false op stop right place x hr r = hr place x.1 r

hop_binary : (o : Option Bool) (op : BinOp) (right : Hoisting) (place : Place) (x : Hoisted Expr) → HoistHops right → Ready x.1 → Hop x.1 (binary_join op o right place x).1
hop_binary None op right place x hr r = hr place x.1 r
hop_binary (Some stop) op right place x hr r = hop_if right.inputs op stop right place x hr r

-- ---- all expressions

all_hop : (args : List Expr) → Each (λ e. HoistHops (hoisting_of e)) args → Each HoistHops (map hoisting_of args)
all_hop [] a = tt
all_hop (e ∷ es) a = (a.0, all_hop es a.1)

hoists_hop : (e : Expr) → HoistHops (hoisting_of e)
hoists_hop = by_forms (λ e. HoistHops (hoisting_of e))
    (λ n w. subst HoistHops (sym (fold-Number Hoisting hoisting_step n w)) (λ place s r. hop_none s r))
    (λ x. subst HoistHops (sym (fold-Local Hoisting hoisting_step x)) (λ place s r. hop_none s r))
    (λ g w. subst HoistHops (sym (fold-Global Hoisting hoisting_step g w)) (λ place s r. hop_fetch place w (λ t. Read t g) s r))
    (λ w. subst HoistHops (sym (fold-Nondet Hoisting hoisting_step w)) (λ place s r. hop_fetch place w (λ t. Nondet t) s r))
    (λ op a ha. subst HoistHops (sym (fold-Unary Hoisting hoisting_step op a)) ha)
    (λ op a b ha hb. subst HoistHops (sym (fold-Binary Hoisting hoisting_step op a b))
    (λ place s r.
    let first = ha place s r in
    hop_then s ((hoisting_of a).hoist place s).1 _ first (hop_binary (stop_of op) op (hoisting_of b) place ((hoisting_of a).hoist place s) hb (ready s ((hoisting_of a).hoist place s).1 first))))
    (λ f w args all. subst HoistHops (sym (fold-Call Hoisting hoisting_step f w args))
    (λ place s r.
    let first = hop_all (map hoisting_of args) (all_hop args all) place s r in
    let es = hoist_all (map hoisting_of args) place s in
    hop_then s es.1 _ first (hop_fetch place w (λ t. Call (Some t) f es.0) es.1 (ready s es.1 first))))

-- a statement's expressions, from a free node
pub hops_expr : (e : Expr) (place : Place) (node : ℕ) (d : FlowGraph) → Tidy d → node < next_node d → Free d node → Hop (begun_at node d) (hoisted_expr e place node d).1
hops_expr e place node d t h f = hoists_hop e place (begun_at node d) (record { tidy = t; there = h; free = f })

pub hops_exprs : (es : List Expr) (place : Place) (node : ℕ) (d : FlowGraph) → Tidy d → node < next_node d → Free d node → Hop (begun_at node d) (hoisted_exprs es place node d).1
hops_exprs es place node d t h f = hop_all (map hoisting_of es) (every es) place (begun_at node d) (record { tidy = t; there = h; free = f })
  where
    every : (es : List Expr) → Each HoistHops (map hoisting_of es)
    every [] = tt
    every (e ∷ es) = (hoists_hop e, every es)
