-- Two least chains of a vertex are one.
use Rattle.std.proofs.Common.{◌≡◌, ◌⊎◌, inl, inr, ℕ, ◌≤◌, List, [], ◌∷◌, ◌++◌, Option, None, Some, length, refl, sym, ap, ◌∙◌, arith}
use Rattle.std.specs.Prelude.{IsSomeAnd}
use Rattle.std.specs.Ordering.{nat_cmp, ordering_reverse}
use Rattle.std.specs.declared.cmp.Ordering.{Ordering}
use Rattle.std.specs.declared.cmp.Ordering.TheVariants.{Less, Greater}
use Rattle.gob_tree.specs.declared.graph.Program.{Program}
use Rattle.arg_graph.specs.Following.{Offers, StackValue, top_frame}
use Rattle.arg_graph.specs.Graphs.{vertex_cmp}
use Rattle.arg_graph.specs.contracts.vertex.VertexOrd.TheImpl.Laws.{total-law}
use Rattle.arg_graph.specs.declared.stack.Frame.{Frame}
use Rattle.arg_graph.specs.declared.vertex.Vertex.{Vertex}
use Rattle.arg_chain.specs.Chains.{CallsTo, Enters, IsLeastChain, IsUpTo, edges_on, vertices_on}
use Rattle.arg_chain.specs.Laws.{LeastChainsAreOne}
use Rattle.arg_chain.proofs.Between.{nat_less}

less_greater : Less ≡ Greater → ⊥
less_greater e = cc

vertices_one_way : (v w : Vertex) → vertex_cmp v w ≡ Less → vertex_cmp w v ≡ Less → ⊥
vertices_one_way v w first second = less_greater (sym second ∙ total-law.antisymm w v ∙ ap ordering_reverse first)

numbers_one_way : (m n : ℕ) → nat_cmp m n ≡ Less → nat_cmp n m ≡ Less → ⊥
numbers_one_way m n first second = absurd (omega (arith, nat_less m n first, nat_less n m second))

module _ {X : Type 0} (cmp : X → X → Ordering) (one_way : (x y : X) → cmp x y ≡ Less → cmp y x ≡ Less → ⊥) where
  -- two lists of which neither comes before the other
  both_up : (xs ys : List X) → IsUpTo cmp xs ys → IsUpTo cmp ys xs → xs ≡ ys
  both_up [] [] up down = refl
  both_up [] (y ∷ ys) up down = absurd down
  both_up (x ∷ xs) [] up down = absurd up
  both_up (x ∷ xs) (y ∷ ys) (inl less) (inl back) = absurd (one_way x y less back)
  both_up (x ∷ xs) (y ∷ ys) (inl less) (inr same) = absurd (one_way x y less (ap (λ (z : X). cmp z x) same.0 ∙ ap (cmp x) (sym same.0) ∙ less))
  both_up (x ∷ xs) (y ∷ ys) (inr same) (inl back) = absurd (one_way y x back (ap (λ (z : X). cmp z y) same.0 ∙ ap (cmp y) (sym same.0) ∙ back))
  both_up (x ∷ xs) (y ∷ ys) (inr same) (inr back) = (let rest = both_up xs ys same.1 back.1 in λ i. same.0 i ∷ rest i)

head_is : {X : Type 0} (x y : X) (xs ys : List X) → ◌≡◌ {A = List X} (x ∷ xs) (y ∷ ys) → x ≡ y
head_is x y xs ys e = cc

tail_is : {X : Type 0} (x y : X) (xs ys : List X) → ◌≡◌ {A = List X} (x ∷ xs) (y ∷ ys) → xs ≡ ys
tail_is x y xs ys e = cc

nil_cons : {X : Type 0} (x : X) (xs : List X) → ◌≡◌ {A = List X} [] (x ∷ xs) → ⊥
nil_cons x xs e = cc

-- a frame that waits has an edge
edge_of : (P : ℕ → Type 0) (o : Option ℕ) → IsSomeAnd o P → (n : ℕ) × (o ≡ Some n)
edge_of P None some = absurd some
edge_of P (Some n) some = (n, refl)

-- a chain is decided by its vertices and its edges
decided : (offers : Offers) (v : Vertex) (xs ys : StackValue) → CallsTo offers xs v → CallsTo offers ys v → vertices_on xs ≡ vertices_on ys → edges_on xs ≡ edges_on ys → xs ≡ ys
decided offers v [] ys one other vertices edges = absurd one
decided offers v (x ∷ xs) [] one other vertices edges = absurd other
decided offers v (x ∷ []) (y ∷ []) one other vertices edges = ap (λ (f : Frame). f ∷ []) (one ∙ sym other)
decided offers v (x ∷ []) (y ∷ z ∷ ys) one other vertices edges = absurd (nil_cons z.vertex (vertices_on ys) (tail_is x.vertex y.vertex [] (z.vertex ∷ vertices_on ys) vertices))
decided offers v (x ∷ w ∷ xs) (y ∷ []) one other vertices edges = absurd (nil_cons w.vertex (vertices_on xs) (sym (tail_is x.vertex y.vertex (w.vertex ∷ vertices_on xs) [] vertices)))
decided offers v (x ∷ w ∷ xs) (y ∷ z ∷ ys) one other vertices edges =
    let m = edge_of (λ edge. Enters offers x.vertex edge w.vertex) x.call one.0 in
    let n = edge_of (λ edge. Enters offers y.vertex edge z.vertex) y.call other.0 in
    let first : vertices_on (x ∷ []) ≡ vertices_on (y ∷ []) = ap (λ (u : Vertex). u ∷ []) (head_is x.vertex y.vertex (vertices_on (w ∷ xs)) (vertices_on (z ∷ ys)) vertices) in
    let vertex : x.vertex ≡ y.vertex = head_is x.vertex y.vertex [] [] first in
    let all : m.0 ∷ edges_on (w ∷ xs) ≡ n.0 ∷ edges_on (z ∷ ys) = sym (edges_first x m.0 m.1 (w ∷ xs)) ∙ edges ∙ edges_first y n.0 n.1 (z ∷ ys) in
    let edge : m.0 ≡ n.0 = head_is m.0 n.0 (edges_on (w ∷ xs)) (edges_on (z ∷ ys)) all in
    let call : x.call ≡ y.call = m.1 ∙ ap Some edge ∙ sym n.1 in
    let frame : x ≡ y = λ i. record { vertex = vertex i; call = call i } in
    let rest = decided offers v (w ∷ xs) (z ∷ ys) one.1 other.1 (tail_is x.vertex y.vertex (vertices_on (w ∷ xs)) (vertices_on (z ∷ ys)) vertices) (tail_is m.0 n.0 (edges_on (w ∷ xs)) (edges_on (z ∷ ys)) all) in
    λ i. frame i ∷ rest i
  where
    edges_first : (f : Frame) (k : ℕ) → f.call ≡ Some k → (more : StackValue) → edges_on (f ∷ more) ≡ k ∷ edges_on more
    edges_first f k is more = rw is refl

pub least_chains_are_one : LeastChainsAreOne
least_chains_are_one p vs offers v one other first second =
    let len : length other ≡ length one = omega (arith, first.shortest other second.chain, second.shortest one first.chain) in
    let vertices : vertices_on one ≡ vertices_on other = both_up vertex_cmp vertices_one_way (vertices_on one) (vertices_on other) (first.vertices other second.chain len) (second.vertices one first.chain (sym len)) in
    let edges : edges_on one ≡ edges_on other = both_up nat_cmp numbers_one_way (edges_on one) (edges_on other) (first.edges other second.chain (sym vertices)) (second.edges one first.chain vertices) in
    decided offers v one other first.chain.calls second.chain.calls vertices edges
