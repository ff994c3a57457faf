-- How a draft grows: which silent edges are added, and that the nodes keep a rank that rises along
-- each of them.
use Rattle.std.proofs.Common.{◌≡◌, ◌≢◌, refl, sym, ap, ◌∙◌, subst, ℕ, zero, suc, ◌+◌, ◌<◌, ◌≤◌, max, ◌⊎◌, inl, inr, ⊎_elim, true, false, List, [], ◌∷◌, ◌++◌, length, arith, append_assoc, length-append}
use Rattle.std.specs.Prelude.{if◌then◌else◌, nat_eq, slice_index_or}
use Rattle.gob_tree.specs.declared.place.Place.{Place}
use Rattle.gob_tree.specs.declared.graph.Action.{Action}
use Rattle.c_meaning.specs.Graph.{MarkedEdge, FlowGraph, next_node, with_node, with_edge, with_silent}
use Rattle.gob_tree.proofs.Induct.{Each}

-- ---- lists

each_append : {A : Type 0} (P : A → Type 0) (xs ys : List A) → Each P xs → Each P ys → Each P (xs ++ ys)
each_append P [] ys a b = b
each_append P (x ∷ xs) ys a b = (a.0, each_append P xs ys a.1 b)

each_map : {A : Type 0} (P Q : A → Type 0) → ((x : A) → P x → Q x) → (xs : List A) → Each P xs → Each Q xs
each_map P Q f [] a = tt
each_map P Q f (x ∷ xs) a = (f x a.0, each_map P Q f xs a.1)

pub each_at : {A : Type 0} (P : A → Type 0) (xs : List A) → Each P xs → (k : ℕ) (d : A) → k < length xs → P (slice_index_or xs k d)
each_at P [] a k d h = absurd (omega arith)
each_at P (x ∷ xs) a zero d h = a.0
each_at P (x ∷ xs) a (suc k) d h = each_at P xs a.1 k d (omega arith)

-- ---- ends of silent edges

-- a fact of the two ends of each silent edge
abbrev pub Ends : (ℕ → ℕ → Type 0) → List MarkedEdge → Type 0
Ends P edges = Each (λ d. d.silent ≡ true → P d.edge.from d.edge.to) edges

pub ends_append : (P : ℕ → ℕ → Type 0) (xs ys : List MarkedEdge) → Ends P xs → Ends P ys → Ends P (xs ++ ys)
ends_append P xs ys a b = each_append (λ d. d.silent ≡ true → P d.edge.from d.edge.to) xs ys a b

pub ends_map : (P Q : ℕ → ℕ → Type 0) → ((from to : ℕ) → P from to → Q from to) → (xs : List MarkedEdge) → Ends P xs → Ends Q xs
ends_map P Q f xs a = each_map (λ d. d.silent ≡ true → P d.edge.from d.edge.to) (λ d. d.silent ≡ true → Q d.edge.from d.edge.to) (λ d p s. f d.edge.from d.edge.to (p s)) xs a

-- a rank of the nodes that rises along each silent edge
abbrev pub Rises : (ℕ → ℕ) → List MarkedEdge → Type 0
Rises rank edges = Ends (λ from to. rank from < rank to) edges

pub record Ranked (edges : List MarkedEdge) : Type 0 where
  pub rank : ℕ → ℕ
  pub rises : Rises rank edges

-- one edge more, which leads to a node that no silent edge leaves: the node is ranked above both
raised : (ℕ → ℕ) → ℕ → ℕ → ℕ → ℕ
raised rank from to n = if nat_eq n to then max (rank to) (rank from + 1) else rank n

raised_here : (rank : ℕ → ℕ) (from to n : ℕ) → n ≡ to → raised rank from to n ≡ max (rank to) (rank from + 1)
unfolding raised
raised_here rank from to n e = grind arith

raised_else : (rank : ℕ → ℕ) (from to n : ℕ) → n ≢ to → raised rank from to n ≡ rank n
unfolding raised
raised_else rank from to n e = grind arith

raised_at_least : (rank : ℕ → ℕ) (from to n : ℕ) → rank n ≤ raised rank from to n
unfolding raised
raised_at_least rank from to n = grind arith

pub ranked_into : (edges : List MarkedEdge) (e : MarkedEdge) → Ranked edges → Ends (λ from to. from ≢ e.edge.to) edges → e.edge.from ≢ e.edge.to → Ranked (edges ++ e ∷ [])
ranked_into edges e r ends apart = record {
  rank = rank';
  rises = ends_append (λ from to. rank' from < rank' to) edges (e ∷ []) (both edges r.rises ends) ((λ s. here), tt);
}
  where
    rank' : ℕ → ℕ
    rank' = raised r.rank e.edge.from e.edge.to

    old : (from to : ℕ) → r.rank from < r.rank to → from ≢ e.edge.to → rank' from < rank' to
    old from to lt ne =
        let a : rank' from ≡ r.rank from = raised_else r.rank e.edge.from e.edge.to from ne in
        let b : r.rank to ≤ rank' to = raised_at_least r.rank e.edge.from e.edge.to to in
        omega arith

    here : rank' e.edge.from < rank' e.edge.to
    here =
        let a : rank' e.edge.from ≡ r.rank e.edge.from = raised_else r.rank e.edge.from e.edge.to e.edge.from apart in
        let b : rank' e.edge.to ≡ max (r.rank e.edge.to) (r.rank e.edge.from + 1) = raised_here r.rank e.edge.from e.edge.to e.edge.to refl in
        omega arith

    both : (xs : List MarkedEdge) → Rises r.rank xs → Ends (λ from to. from ≢ e.edge.to) xs → Rises rank' xs
    both [] a b = tt
    both (x ∷ xs) a b = ((λ s. old x.edge.from x.edge.to (a.0 s) (b.0 s)), both xs a.1 b.1)

-- one edge more, which leaves a node to which no silent edge leads: the node is ranked below all
lowered_rank : (ℕ → ℕ) → ℕ → ℕ → ℕ
lowered_rank rank from n = if nat_eq n from then 0 else rank n + 1

lowered_else : (rank : ℕ → ℕ) (from n : ℕ) → n ≢ from → lowered_rank rank from n ≡ rank n + 1
unfolding lowered_rank
lowered_else rank from n e = grind arith

lowered_here : (rank : ℕ → ℕ) (from n : ℕ) → n ≡ from → lowered_rank rank from n ≡ 0
unfolding lowered_rank
lowered_here rank from n e = grind arith

lowered_at_most : (rank : ℕ → ℕ) (from n : ℕ) → lowered_rank rank from n ≤ rank n + 1
unfolding lowered_rank
lowered_at_most rank from n = grind arith

pub ranked_out_of : (edges : List MarkedEdge) (e : MarkedEdge) → Ranked edges → Ends (λ from to. to ≢ e.edge.from) edges → e.edge.from ≢ e.edge.to → Ranked (edges ++ e ∷ [])
ranked_out_of edges e r ends apart = record {
  rank = rank';
  rises = ends_append (λ from to. rank' from < rank' to) edges (e ∷ []) (both edges r.rises ends) ((λ s. here), tt);
}
  where
    rank' : ℕ → ℕ
    rank' = lowered_rank r.rank e.edge.from

    old : (from to : ℕ) → r.rank from < r.rank to → to ≢ e.edge.from → rank' from < rank' to
    old from to lt ne =
        let a : rank' to ≡ r.rank to + 1 = lowered_else r.rank e.edge.from to ne in
        let b : rank' from ≤ r.rank from + 1 = lowered_at_most r.rank e.edge.from from in
        omega arith

    here : rank' e.edge.from < rank' e.edge.to
    here =
        let a : rank' e.edge.from ≡ 0 = lowered_here r.rank e.edge.from e.edge.from refl in
        let b : rank' e.edge.to ≡ r.rank e.edge.to + 1 = lowered_else r.rank e.edge.from e.edge.to (λ q. apart (sym q)) in
        omega arith

    both : (xs : List MarkedEdge) → Rises r.rank xs → Ends (λ from to. to ≢ e.edge.from) xs → Rises rank' xs
    both [] a b = tt
    both (x ∷ xs) a b = ((λ s. old x.edge.from x.edge.to (a.0 s) (b.0 s)), both xs a.1 b.1)

ranked_visible : (edges : List MarkedEdge) (e : MarkedEdge) → e.silent ≡ false → Ranked edges → Ranked (edges ++ e ∷ [])
ranked_visible edges e visible_edge r = record {
  rank = r.rank;
  rises = ends_append (λ from to. r.rank from < r.rank to) edges (e ∷ []) r.rises ((λ s. cc), tt);
}

-- ---- growth

-- all silent edges lie between nodes that are there
abbrev pub Below : FlowGraph → Type 0
Below d = Ends (λ from to. (from < next_node d) × (to < next_node d)) d.edges

-- What is added from a node on, where the nodes from n on are new: silent edges lead to new nodes
-- only, from this node or from new ones.
abbrev pub IsNew : ℕ → ℕ → ℕ → ℕ → ℕ → Type 0
IsNew n at m from to = (n ≤ to) × ((from ≡ at) ⊎ (n ≤ from)) × (from < m) × (to < m)

pub record Adds (n at : ℕ) (d d' : FlowGraph) : Type 0 where
  pub added : List MarkedEdge
  pub edges : d'.edges ≡ d.edges ++ added
  pub nodes : next_node d ≤ next_node d'
  pub ends : Ends (IsNew n at (next_node d')) added

-- what is added keeps a rank
pub record Grown (n at : ℕ) (d d' : FlowGraph) : Type 0 where
  pub adds : Adds n at d d'
  pub ranked : Below d → Ranked d.edges → Ranked d'.edges

pub adds_below : (n at : ℕ) (d d' : FlowGraph) → Adds n at d d' → Below d → Below d'
adds_below n at d d' g b =
    subst (Ends (λ from to. (from < next_node d') × (to < next_node d'))) (sym g.edges)
    (ends_append (λ from to. (from < next_node d') × (to < next_node d')) d.edges g.added
    (ends_map (λ from to. (from < next_node d) × (to < next_node d)) (λ from to. (from < next_node d') × (to < next_node d')) (λ from to e. let k = g.nodes in (omega (arith, e.0, k), omega (arith, e.1, k))) d.edges b)
    (ends_map (IsNew n at (next_node d')) (λ from to. (from < next_node d') × (to < next_node d')) (λ from to e. (e.2, e.3)) g.added g.ends))

pub append_nil : (xs : List MarkedEdge) → xs ≡ xs ++ []
append_nil [] = refl
append_nil (x ∷ xs) = ap (λ l. x ∷ l) (append_nil xs)

pub adds_none : (n at : ℕ) (d : FlowGraph) → Adds n at d d
adds_none n at d = record { added = []; edges = append_nil d.edges; nodes = omega arith; ends = tt }

pub adds_then : (n at : ℕ) (a b c : FlowGraph) → Adds n at a b → Adds n at b c → Adds n at a c
adds_then n at a b c g h = record {
  added = g.added ++ h.added;
  edges = h.edges ∙ ap (λ (l : List MarkedEdge). l ++ h.added) g.edges ∙ append_assoc a.edges g.added h.added;
  nodes = let p = g.nodes in let q = h.nodes in omega (arith, p, q);
  ends = ends_append (IsNew n at (next_node c)) g.added h.added
      (ends_map (IsNew n at (next_node b)) (IsNew n at (next_node c)) (λ from to e. let q = h.nodes in (e.0, e.1, omega (arith, e.2, q), omega (arith, e.3, q))) g.added g.ends)
      h.ends;
}

-- what is new from m on and from a node that is new from n on is new from n on
pub adds_from : (n m at at' : ℕ) (d d' : FlowGraph) → n ≤ m → (at' ≡ at) ⊎ (n ≤ at') → Adds m at' d d' → Adds n at d d'
adds_from n m at at' d d' le where_from g = record {
  added = g.added;
  edges = g.edges;
  nodes = g.nodes;
  ends = ends_map (IsNew m at' (next_node d')) (IsNew n at (next_node d')) (λ from to e. (omega (arith, e.0), start from e.1, e.2, e.3)) g.added g.ends;
}
  where
    start : (from : ℕ) → (from ≡ at') ⊎ (m ≤ from) → (from ≡ at) ⊎ (n ≤ from)
    start from = ⊎_elim (λ e. ⊎_elim (λ q. inl (e ∙ q)) (λ q. inr (omega (arith, e, q))) where_from) (λ q. inr (omega (arith, q)))

pub adds_node : (n at : ℕ) (d : FlowGraph) (place : Place) → Adds n at d (with_node place d)
adds_node n at d place = record { added = []; edges = append_nil d.edges; nodes = let e = length-append d.nodes (place ∷ []) in omega (arith, e); ends = tt }

pub node_more : (d : FlowGraph) (place : Place) → next_node (with_node place d) ≡ next_node d + 1
node_more d place = length-append d.nodes (place ∷ [])

pub adds_edge : (n at : ℕ) (d : FlowGraph) (from : ℕ) (act : Action) (to : ℕ) → Adds n at d (with_edge from act to d)
adds_edge n at d from act to = record {
  added = record { edge = record { from = from; act = act; to = to }; silent = false } ∷ [];
  edges = refl;
  nodes = omega arith;
  ends = ((λ s. cc), tt);
}

pub adds_silent : (n at : ℕ) (d : FlowGraph) (from : ℕ) (act : Action) (to : ℕ) → IsNew n at (next_node d) from to → Adds n at d (with_silent from act to d)
adds_silent n at d from act to new = record {
  added = record { edge = record { from = from; act = act; to = to }; silent = true } ∷ [];
  edges = refl;
  nodes = omega arith;
  ends = ((λ s. new), tt);
}

pub grown_none : (n at : ℕ) (d : FlowGraph) → Grown n at d d
grown_none n at d = record { adds = adds_none n at d; ranked = λ b r. r }

pub grown_then : (n at : ℕ) (a b c : FlowGraph) → Grown n at a b → Grown n at b c → Grown n at a c
grown_then n at a b c g h = record {
  adds = adds_then n at a b c g.adds h.adds;
  ranked = λ below r. h.ranked (adds_below n at a b g.adds below) (g.ranked below r);
}

pub grown_from : (n m at at' : ℕ) (d d' : FlowGraph) → n ≤ m → (at' ≡ at) ⊎ (n ≤ at') → Grown m at' d d' → Grown n at d d'
grown_from n m at at' d d' le where_from g = record { adds = adds_from n m at at' d d' le where_from g.adds; ranked = g.ranked }

pub grown_node : (n at : ℕ) (d : FlowGraph) (place : Place) → Grown n at d (with_node place d)
grown_node n at d place = record { adds = adds_node n at d place; ranked = λ b r. r }

pub grown_edge : (n at : ℕ) (d : FlowGraph) (from : ℕ) (act : Action) (to : ℕ) → Grown n at d (with_edge from act to d)
grown_edge n at d from act to = record { adds = adds_edge n at d from act to; ranked = λ b r. ranked_visible d.edges _ refl r }
