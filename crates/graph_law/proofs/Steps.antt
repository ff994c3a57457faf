-- A graph that grows keeps one way out of each node, where only nodes that nothing leaves are left.
use Rattle.std.proofs.Common.{◌≡◌, ◌≢◌, refl, sym, ap, ◌∙◌, subst, ℕ, ◌<◌, ◌≤◌, ◌⊎◌, ⊎_elim, Bool, true, false, List, [], ◌∷◌, ◌++◌, arith, append_assoc}
use Rattle.std.specs.Prelude.{if◌then◌else◌, nat_eq}
use Rattle.gob_tree.specs.declared.place.Place.{Place}
use Rattle.gob_tree.specs.declared.expr.Expr.{Expr}
use Rattle.gob_tree.specs.declared.graph.Action.{Action}
use Rattle.gob_tree.specs.declared.graph.Action.TheVariants.{Guard}
use Rattle.gob_tree.proofs.Induct.{Each}
use Rattle.c_meaning.specs.Graph.{MarkedEdge, FlowGraph, next_node, with_node, with_marked}
use Rattle.c_meaning.proofs.Growth.{node_more, append_nil}
use Rattle.graph_law.specs.Leaving.{leaving, IsOneWay}

each_append : {A : Type 0} (P : A → Type 0) (xs ys : List A) → Each P xs → Each P ys → Each P (xs ++ ys)
each_append P [] ys a b = b
each_append P (x ∷ xs) ys a b = (a.0, each_append P xs ys a.1 b)

each_map : {A : Type 0} (P Q : A → Type 0) → ((x : A) → P x → Q x) → (xs : List A) → Each P xs → Each Q xs
each_map P Q f [] a = tt
each_map P Q f (x ∷ xs) a = (f x a.0, each_map P Q f xs a.1)

-- ---- the edges that leave a node

leaving_append : (m : ℕ) (xs ys : List MarkedEdge) → leaving m (xs ++ ys) ≡ leaving m xs ++ leaving m ys
leaving_append m [] ys = refl
leaving_append m (d ∷ ds) ys = go (nat_eq d.edge.from m) (leaving_append m ds ys)
  where
    go : (b : Bool) → leaving m (ds ++ ys) ≡ leaving m ds ++ leaving m ys → (if b then d ∷ leaving m (ds ++ ys) else leaving m (ds ++ ys)) ≡ (if b then d ∷ leaving m ds else leaving m ds) ++ leaving m ys
    go true e = ap (λ (l : List MarkedEdge). d ∷ l) e
    go false e = e

leaving_all : (m : ℕ) (es : List MarkedEdge) → Each (λ e. e.edge.from ≡ m) es → leaving m es ≡ es
leaving_all m [] a = refl
leaving_all m (d ∷ ds) a = go (nat_eq d.edge.from m) refl (leaving_all m ds a.1)
  where
    go : (b : Bool) → nat_eq d.edge.from m ≡ b → leaving m ds ≡ ds → (if b then d ∷ leaving m ds else leaving m ds) ≡ d ∷ ds
    go true q e = ap (λ (l : List MarkedEdge). d ∷ l) e
    go false q e = let same = a.0 in absurd (grind (arith, q, same))

leaving_none : (m : ℕ) (es : List MarkedEdge) → Each (λ e. e.edge.from ≢ m) es → leaving m es ≡ []
leaving_none m [] a = refl
leaving_none m (d ∷ ds) a = go (nat_eq d.edge.from m) refl (leaving_none m ds a.1)
  where
    go : (b : Bool) → nat_eq d.edge.from m ≡ b → leaving m ds ≡ [] → (if b then d ∷ leaving m ds else leaving m ds) ≡ []
    go true q e = let same : d.edge.from ≡ m = grind (arith, q) in absurd (a.0 same)
    go false q e = e

-- ---- tidy graphs

-- nothing leaves a node so far
abbrev pub Free : FlowGraph → ℕ → Type 0
Free d m = leaving m d.edges ≡ []

-- edges leave nodes that are there, and each node has one way out
pub record Tidy (d : FlowGraph) : Type 0 where
  pub below : Each (λ (e : MarkedEdge). e.edge.from < next_node d) d.edges
  pub ways : (m : ℕ) → IsOneWay (leaving m d.edges)

-- nothing leaves a node that isn't there yet
pub free_above : (d : FlowGraph) (m : ℕ) → Tidy d → next_node d ≤ m → Free d m
free_above d m t h = leaving_none m d.edges (each_map (λ (e : MarkedEdge). e.edge.from < next_node d) (λ e. e.edge.from ≢ m) (λ e lt q. absurd (omega (arith, lt, q, h))) d.edges t.below)

-- a graph grows from a node: it stays tidy, and whatever else was free stays free
pub record Step (at : ℕ) (d d' : FlowGraph) : Type 0 where
  pub tidy : Tidy d'
  pub nodes : next_node d ≤ next_node d'
  pub free : (m : ℕ) → m < next_node d → m ≢ at → Free d m → Free d' m

pub step_none : (at : ℕ) (d : FlowGraph) → Tidy d → Step at d d
step_none at d t = record { tidy = t; nodes = omega arith; free = λ m lt ne f. f }

pub step_then : (at at' : ℕ) (a b c : FlowGraph) → Step at a b → Step at' b c → (at' ≡ at) ⊎ (next_node a ≤ at') → Step at a c
step_then at at' a b c g h from = record {
  tidy = h.tidy;
  nodes = let p = g.nodes in let q = h.nodes in omega (arith, p, q);
  free = λ m lt ne f. h.free m (let p = g.nodes in omega (arith, p, lt)) (apart m lt ne) (g.free m lt ne f);
}
  where
    apart : (m : ℕ) → m < next_node a → m ≢ at → m ≢ at'
    apart m lt ne q = ⊎_elim (λ e. ne (q ∙ e)) (λ le. absurd (omega (arith, le, lt, q))) from

pub step_node : (at : ℕ) (d : FlowGraph) (place : Place) → Tidy d → Step at d (with_node place d)
step_node at d place t = record {
  tidy = record {
    below = each_map (λ (e : MarkedEdge). e.edge.from < next_node d) (λ (e : MarkedEdge). e.edge.from < next_node (with_node place d)) (λ e lt. let k = node_more d place in omega (arith, lt, k)) d.edges t.below;
    ways = t.ways;
  };
  nodes = let k = node_more d place in omega (arith, k);
  free = λ m lt ne f. f;
}

-- edges from a free node, which are one way out of it
pub step_group : (at : ℕ) (d d' : FlowGraph) (es : List MarkedEdge) → d'.edges ≡ d.edges ++ es → next_node d' ≡ next_node d → Each (λ e. e.edge.from ≡ at) es → IsOneWay es → Tidy d → at < next_node d → Free d at → Step at d d'
step_group at d d' es same nodes from way t h f = record {
  tidy = record {
    below = subst (Each (λ (e : MarkedEdge). e.edge.from < next_node d')) (sym same)
        (each_append (λ (e : MarkedEdge). e.edge.from < next_node d') d.edges es
        (each_map (λ (e : MarkedEdge). e.edge.from < next_node d) (λ (e : MarkedEdge). e.edge.from < next_node d') (λ e lt. omega (arith, lt, nodes)) d.edges t.below)
        (each_map (λ (e : MarkedEdge). e.edge.from ≡ at) (λ (e : MarkedEdge). e.edge.from < next_node d') (λ e q. omega (arith, q, h, nodes)) es from));
    ways = λ m. ways_at m (nat_eq m at) refl;
  };
  nodes = omega (arith, nodes);
  free = λ m lt ne g. elsewhere m ne ∙ g;
}
  where
    parts : (m : ℕ) → leaving m d'.edges ≡ leaving m d.edges ++ leaving m es
    parts m = ap (leaving m) same ∙ leaving_append m d.edges es

    elsewhere : (m : ℕ) → m ≢ at → leaving m d'.edges ≡ leaving m d.edges
    elsewhere m ne =
        parts m
        ∙ ap (λ (l : List MarkedEdge). leaving m d.edges ++ l) (leaving_none m es (each_map (λ (e : MarkedEdge). e.edge.from ≡ at) (λ (e : MarkedEdge). e.edge.from ≢ m) (λ e q z. ne (sym z ∙ q)) es from))
        ∙ sym (append_nil (leaving m d.edges))

    here : leaving at d'.edges ≡ es
    here = parts at ∙ ap (λ (l : List MarkedEdge). l ++ leaving at es) f ∙ leaving_all at es from

    ways_at : (m : ℕ) (b : Bool) → nat_eq m at ≡ b → IsOneWay (leaving m d'.edges)
    ways_at m true q = let e : m ≡ at = grind (arith, q) in subst (λ n. IsOneWay (leaving n d'.edges)) (sym e) (subst IsOneWay (sym here) way)
    ways_at m false q = let ne : m ≢ at = λ z. absurd (grind (arith, q, z)) in subst IsOneWay (sym (elsewhere m ne)) (t.ways m)

pub step_edge : (silent : Bool) (at : ℕ) (act : Action) (to : ℕ) (d : FlowGraph) → Tidy d → at < next_node d → Free d at → Step at d (with_marked silent at act to d)
step_edge silent at act to d t h f = step_group at d (with_marked silent at act to d) (record { edge = record { from = at; act = act; to = to }; silent = silent } ∷ []) refl refl (refl, tt) tt t h f

pub step_guards : (silent : Bool) (at : ℕ) (e : Expr) (to_true to_false : ℕ) (d : FlowGraph) → Tidy d → at < next_node d → Free d at → Step at d (with_marked silent at (Guard e false) to_false (with_marked silent at (Guard e true) to_true d))
step_guards silent at e to_true to_false d t h f =
    let a : MarkedEdge = record { edge = record { from = at; act = Guard e true; to = to_true }; silent = silent } in
    let b : MarkedEdge = record { edge = record { from = at; act = Guard e false; to = to_false }; silent = silent } in
    step_group at d (with_marked silent at (Guard e false) to_false (with_marked silent at (Guard e true) to_true d)) (a ∷ b ∷ [])
    (append_assoc d.edges (a ∷ []) (b ∷ [])) refl (refl, (refl, tt)) (refl, (e, refl, refl)) t h f
