-- The least route over numbers is the least chain.
use Rattle.std.proofs.Common.{◌≡◌, ◌⊎◌, ◌↔◌, inl, inr, ℕ, ◌+◌, ◌<◌, nat_lt, true, List, [], ◌∷◌, Some, length, map, refl, sym, ap, subst, ◌∙◌, arith}
use Rattle.std.specs.Prelude.{Contains, slice_get}
use Rattle.std.specs.List.Sorted.{IsStrictlySortedBy}
use Rattle.std.specs.Ordering.{nat_cmp}
use Rattle.std.specs.declared.cmp.Ordering.TheVariants.{Less}
use Rattle.std.proofs.lemmas.Bool.{cases_lt}
use Rattle.std.proofs.lemmas.Bool.Decides.{nat_tests}
use Rattle.std.proofs.lemmas.List.{length-map}
use Rattle.std.proofs.lemmas.Option.{get_or_from_slice_get, same_Some, slice_get_within}
use Rattle.gob_tree.specs.declared.graph.Program.{Program}
use Rattle.constraint_sys.specs.Sound.{IsStarted}
use Rattle.arg_graph.specs.Following.{Offers, StackValue}
use Rattle.arg_graph.specs.Graphs.{vertex_cmp}
use Rattle.arg_graph.specs.Vertices.{start_in}
use Rattle.arg_graph.specs.declared.stack.Frame.{Frame}
use Rattle.arg_graph.specs.declared.vertex.Step.{Step}
use Rattle.arg_graph.specs.declared.vertex.Vertex.{Vertex}
use Rattle.arg_chain.specs.declared.hop.Hop.{Hop}
use Rattle.arg_chain.specs.Calls.{IsCallsOf, IsRootNumber, frames_of, number_in}
use Rattle.arg_chain.specs.Chains.{BeginsRooted, IsChain, IsLeastChain, IsRooted, IsUpTo, edges_on, vertices_on}
use Rattle.arg_chain.specs.Least.{IsLeastRoute, IsRoute, edges_of, vertices_of, IsUpTo as IsNumbersUpTo}
use Rattle.arg_chain.specs.Walk.{Graph, IsWalk, steps_at}
use Rattle.arg_chain.proofs.Between.{one_place, rises}
use Rattle.arg_chain.proofs.Embedding.{BeginsAt, calls_walk, frames_last, frames_more, no_walk, vertex_at_hop, walk_calls}
use Rattle.arg_chain.proofs.Numbering.{same_number}

head_same : (x y : Vertex) (xs ys : List Vertex) → ◌≡◌ {A = List Vertex} (x ∷ xs) (y ∷ ys) → x ≡ y
head_same x y xs ys e = cc

tail_same : (x y : Vertex) (xs ys : List Vertex) → ◌≡◌ {A = List Vertex} (x ∷ xs) (y ∷ ys) → xs ≡ ys
tail_same x y xs ys e = cc

nat_cmp_less : (m n : ℕ) → m < n → nat_cmp m n ≡ Less
nat_cmp_less m n less = (let is : nat_lt m n ≡ true = grind (arith, nat_tests) in rw is refl)

first_same : (x y : ℕ) (xs ys : List ℕ) → ◌≡◌ {A = List ℕ} (x ∷ xs) (y ∷ ys) → x ≡ y
first_same x y xs ys e = cc

abbrev targets : List Hop → List ℕ
targets hops = map (λ (s : Hop). s.to) hops

module _ (vs : List Vertex) (offers : Offers) (numbers : List (Vertex × ℕ)) (rows : Graph) (it : IsCallsOf vs offers numbers rows) (up : IsStrictlySortedBy vertex_cmp vs) (t : ℕ) (v : Vertex) (at : slice_get vs t ≡ Some v) where
  -- the first vertex of the less list of numbers is less, or both are one
  first_up : (k l : ℕ) (h s : Hop) (hs ss : List Hop) → Contains (steps_at rows (length vs + k)) h → Contains (steps_at rows (length vs + l)) s → (v' w : Vertex) → slice_get vs h.to ≡ Some v' → slice_get vs s.to ≡ Some w
      → IsNumbersUpTo (vertices_of (length vs + k) (h ∷ hs)) (vertices_of (length vs + l) (s ∷ ss))
      → (vertex_cmp v' w ≡ Less) ⊎ ((v' ≡ w) × IsNumbersUpTo (map (λ (x : Hop). x.to) hs) (map (λ (x : Hop). x.to) ss))
  first_up k l h s hs ss one two v' w at_h at_s less = elim less [
    | inl roots ↦ elim (cases_lt h.to s.to) [
      | inl before ↦ inl (rises vs up h.to s.to v' w before at_h at_s)
      | inr after ↦ (
          let a = vertex_at_hop vs offers numbers rows it k h one in
          let b = vertex_at_hop vs offers numbers rows it l s two in
          let order = it.in_order s.to h.to b.0 a.0 l k after b.1 a.1 b.2 a.2 in
          absurd (omega (arith, roots, order)))
    ]
    | inr same ↦ elim same.1 [
      | inl before ↦ inl (rises vs up h.to s.to v' w before at_h at_s)
      | inr both ↦ inr (same_Some v' w (sym at_h ∙ ap (slice_get vs) both.0 ∙ at_s), both.1)
    ]
  ]

  pub up_by_vertices : (k l : ℕ) (hops others : List Hop) → IsWalk rows (length vs + k) hops t → IsWalk rows (length vs + l) others t → length others ≡ length hops
      → IsNumbersUpTo (vertices_of (length vs + k) hops) (vertices_of (length vs + l) others) → IsUpTo vertex_cmp (vertices_on (frames_of vs hops)) (vertices_on (frames_of vs others))
  up_by_vertices k l [] others walk other len less = absurd (no_walk vs offers numbers rows it k t v at walk)
  up_by_vertices k l (h ∷ []) [] walk other len less = absurd (omega arith)
  up_by_vertices k l (h ∷ []) (s ∷ []) walk other len less =
      let a = vertex_at_hop vs offers numbers rows it k h walk.0 in
      let b = vertex_at_hop vs offers numbers rows it l s other.0 in
      subst (λ (x : StackValue). IsUpTo vertex_cmp (vertices_on x) (vertices_on (frames_of vs (s ∷ [])))) (sym (frames_last vs h a.0 a.1))
      (subst (λ (x : StackValue). IsUpTo vertex_cmp (a.0 ∷ []) (vertices_on x)) (sym (frames_last vs s b.0 b.1))
      (elim (first_up k l h s [] [] walk.0 other.0 a.0 b.0 a.1 b.1 less) [ inl below ↦ inl below | inr same ↦ inr (same.0, tt) ]))
  up_by_vertices k l (h ∷ []) (s ∷ s' ∷ ss) walk other len less = absurd (omega arith)
  up_by_vertices k l (h ∷ h' ∷ hs) [] walk other len less = absurd (omega arith)
  up_by_vertices k l (h ∷ h' ∷ hs) (s ∷ []) walk other len less = absurd (omega arith)
  up_by_vertices k l (h ∷ h' ∷ hs) (s ∷ s' ∷ ss) walk other len less =
      let a = vertex_at_hop vs offers numbers rows it k h walk.0 in
      let b = vertex_at_hop vs offers numbers rows it l s other.0 in
      let into = (it.calls h.to a.0 h' a.1).0 walk.1.0 in
      let into' = (it.calls s.to b.0 s' b.1).0 other.1.0 in
      let rest : IsWalk rows (length vs + into.2.0) hs t = subst (λ (n : ℕ). IsWalk rows n hs t) into.2.2 walk.1.1 in
      let rest' : IsWalk rows (length vs + into'.2.0) ss t = subst (λ (n : ℕ). IsWalk rows n ss t) into'.2.2 other.1.1 in
      subst (λ (x : StackValue). IsUpTo vertex_cmp (vertices_on x) (vertices_on (frames_of vs (s ∷ s' ∷ ss)))) (sym (frames_more vs h h' hs a.0 a.1))
      (subst (λ (x : StackValue). IsUpTo vertex_cmp (a.0 ∷ vertices_on (frames_of vs hs)) (vertices_on x)) (sym (frames_more vs s s' ss b.0 b.1))
      (elim (first_up k l h s (h' ∷ hs) (s' ∷ ss) walk.0 other.0 a.0 b.0 a.1 b.1 less) [
        | inl below ↦ inl below
        | inr same ↦
            let later : IsNumbersUpTo (vertices_of (length vs + into.2.0) hs) (vertices_of (length vs + into'.2.0) ss) =
            subst (λ (n : ℕ). IsNumbersUpTo (vertices_of n hs) (vertices_of (length vs + into'.2.0) ss)) into.2.2 (subst (λ (n : ℕ). IsNumbersUpTo (vertices_of h'.to hs) (vertices_of n ss)) into'.2.2 same.1) in
            inr (same.0, up_by_vertices into.2.0 into'.2.0 hs ss rest rest' (omega arith) later)
      ]))

  -- the numbers of hops are decided by the vertices
  pub same_numbers : (k l : ℕ) (hops others : List Hop) → IsWalk rows (length vs + k) hops t → IsWalk rows (length vs + l) others t → length others ≡ length hops
      → vertices_on (frames_of vs others) ≡ vertices_on (frames_of vs hops) → vertices_of (length vs + l) others ≡ vertices_of (length vs + k) hops
  same_numbers k l [] others walk other len same = absurd (no_walk vs offers numbers rows it k t v at walk)
  same_numbers k l (h ∷ []) [] walk other len same = absurd (omega arith)
  same_numbers k l (h ∷ []) (s ∷ []) walk other len same =
      let a = vertex_at_hop vs offers numbers rows it k h walk.0 in
      let b = vertex_at_hop vs offers numbers rows it l s other.0 in
      let vertices : b.0 ∷ [] ≡ a.0 ∷ [] = sym (ap vertices_on (frames_last vs s b.0 b.1)) ∙ same ∙ ap vertices_on (frames_last vs h a.0 a.1) in
      let one : b.0 ≡ a.0 = head_same b.0 a.0 [] [] vertices in
      let numbers_are : l ≡ k = same_Some l k (sym b.2 ∙ ap (number_in numbers) one ∙ a.2) in
      λ i. (length vs + numbers_are i) ∷ (other.1 ∙ sym walk.1) i ∷ []
  same_numbers k l (h ∷ []) (s ∷ s' ∷ ss) walk other len same = absurd (omega arith)
  same_numbers k l (h ∷ h' ∷ hs) [] walk other len same = absurd (omega arith)
  same_numbers k l (h ∷ h' ∷ hs) (s ∷ []) walk other len same = absurd (omega arith)
  same_numbers k l (h ∷ h' ∷ hs) (s ∷ s' ∷ ss) walk other len same =
      let a = vertex_at_hop vs offers numbers rows it k h walk.0 in
      let b = vertex_at_hop vs offers numbers rows it l s other.0 in
      let into = (it.calls h.to a.0 h' a.1).0 walk.1.0 in
      let into' = (it.calls s.to b.0 s' b.1).0 other.1.0 in
      let rest : IsWalk rows (length vs + into.2.0) hs t = subst (λ (n : ℕ). IsWalk rows n hs t) into.2.2 walk.1.1 in
      let rest' : IsWalk rows (length vs + into'.2.0) ss t = subst (λ (n : ℕ). IsWalk rows n ss t) into'.2.2 other.1.1 in
      let vertices : b.0 ∷ vertices_on (frames_of vs ss) ≡ a.0 ∷ vertices_on (frames_of vs hs) = sym (ap vertices_on (frames_more vs s s' ss b.0 b.1)) ∙ same ∙ ap vertices_on (frames_more vs h h' hs a.0 a.1) in
      let one : b.0 ≡ a.0 = head_same b.0 a.0 (vertices_on (frames_of vs ss)) (vertices_on (frames_of vs hs)) vertices in
      let more : vertices_on (frames_of vs ss) ≡ vertices_on (frames_of vs hs) = tail_same b.0 a.0 (vertices_on (frames_of vs ss)) (vertices_on (frames_of vs hs)) vertices in
      let numbers_are : l ≡ k = same_Some l k (sym b.2 ∙ ap (number_in numbers) one ∙ a.2) in
      let places_are : s.to ≡ h.to = one_place vs up s.to h.to a.0 (b.1 ∙ ap Some one) a.1 in
      let later : vertices_of s'.to ss ≡ vertices_of h'.to hs = ap (λ (n : ℕ). vertices_of n ss) into'.2.2 ∙ same_numbers into.2.0 into'.2.0 hs ss rest rest' (omega arith) more ∙ ap (λ (n : ℕ). vertices_of n hs) (sym into.2.2) in
      λ i. (length vs + numbers_are i) ∷ places_are i ∷ later i

  zero_edges : (k : ℕ) (h : Hop) → Contains (steps_at rows (length vs + k)) h → h.edge ≡ 0
  zero_edges k h one = (it.members k h one).edge

  pub up_by_edges : (k l : ℕ) (hops others : List Hop) → IsWalk rows (length vs + k) hops t → IsWalk rows (length vs + l) others t → length others ≡ length hops
      → IsNumbersUpTo (edges_of hops) (edges_of others) → IsUpTo nat_cmp (edges_on (frames_of vs hops)) (edges_on (frames_of vs others))
  up_by_edges k l [] others walk other len less = absurd (no_walk vs offers numbers rows it k t v at walk)
  up_by_edges k l (h ∷ []) others walk other len less =
      let a = vertex_at_hop vs offers numbers rows it k h walk.0 in
      subst (λ (x : StackValue). IsUpTo nat_cmp (edges_on x) (edges_on (frames_of vs others))) (sym (frames_last vs h a.0 a.1)) tt
  up_by_edges k l (h ∷ h' ∷ hs) [] walk other len less = absurd (omega arith)
  up_by_edges k l (h ∷ h' ∷ hs) (s ∷ []) walk other len less = absurd (omega arith)
  up_by_edges k l (h ∷ h' ∷ hs) (s ∷ s' ∷ ss) walk other len less =
      let a = vertex_at_hop vs offers numbers rows it k h walk.0 in
      let b = vertex_at_hop vs offers numbers rows it l s other.0 in
      let into = (it.calls h.to a.0 h' a.1).0 walk.1.0 in
      let into' = (it.calls s.to b.0 s' b.1).0 other.1.0 in
      let rest : IsWalk rows (length vs + into.2.0) hs t = subst (λ (n : ℕ). IsWalk rows n hs t) into.2.2 walk.1.1 in
      let rest' : IsWalk rows (length vs + into'.2.0) ss t = subst (λ (n : ℕ). IsWalk rows n ss t) into'.2.2 other.1.1 in
      subst (λ (x : StackValue). IsUpTo nat_cmp (edges_on x) (edges_on (frames_of vs (s ∷ s' ∷ ss)))) (sym (frames_more vs h h' hs a.0 a.1))
      (subst (λ (x : StackValue). IsUpTo nat_cmp (h'.edge ∷ edges_on (frames_of vs hs)) (edges_on x)) (sym (frames_more vs s s' ss b.0 b.1))
      (elim less [
        | inl zeros ↦ absurd (omega (arith, zeros, zero_edges k h walk.0, zero_edges l s other.0))
        | inr same ↦ elim same.1 [
          | inl below ↦ inl (nat_cmp_less h'.edge s'.edge below)
          | inr both ↦ inr (both.0, up_by_edges into.2.0 into'.2.0 hs ss rest rest' (omega arith) both.1)
        ]
      ]))

  -- ---- chains
  module _ (p : Program) (roots : List ℕ) (are_roots : (r : ℕ) → Contains roots r ↔ IsRootNumber p vs (length vs) numbers r) (stands : (w : Vertex) (s : Step) → Contains (offers w) s → Contains vs w) where
    start_number : (x : Vertex) → IsRooted p vs x → number_in numbers (start_in x.func) ≡ number_in numbers x
    start_number x rooted = same_number numbers (start_in x.func) x (refl, sym rooted.key)

    -- a chain is a route
    record IsRouteOf (stack : StackValue) (k : ℕ) (hops : List Hop) : Type 0 where
      route : IsRoute rows roots t (length vs + k) hops
      frames : frames_of vs hops ≡ stack
      len : length hops + 1 ≡ length stack + length stack

    rooted_first : (stack : StackValue) (k : ℕ) → BeginsRooted p vs stack → BeginsAt (λ w. number_in numbers w ≡ Some k) stack → Contains roots (length vs + k)
    rooted_first [] k rooted first = absurd rooted
    rooted_first (x ∷ rest) k rooted first = (are_roots (length vs + k)).1 (start_in x.vertex.func, rooted.start, (rooted.started, refl, (k, start_number x.vertex rooted ∙ first, refl)))

    route_of : (stack : StackValue) → IsChain p vs offers v stack → (k : ℕ) × (hops : List Hop) × IsRouteOf stack k hops
    route_of stack chain =
        let walk = calls_walk vs offers numbers rows it stands t v stack at chain.calls in
        let called = walk_calls vs offers numbers rows it walk.0 t v walk.1 at walk.2.walk in (
          walk.0,
          walk.1,
          record {
            route = record { from_root = rooted_first stack walk.0 chain.root walk.2.first; walk = walk.2.walk };
            frames = walk.2.frames;
            len = omega (arith, called.len, ap (λ (l : StackValue). length l) walk.2.frames);
          },
        )

    first_rooted : (stack : StackValue) (w : Vertex) (k : ℕ) → IsStarted p w.func → w ≡ start_in w.func → Contains vs w → number_in numbers w ≡ Some k → BeginsAt (λ x. number_in numbers x ≡ Some k) stack → BeginsRooted p vs stack
    first_rooted [] w k started is there number first = absurd first
    first_rooted (x ∷ rest) w k started is there number first =
        let fellow = it.apart x.vertex w k first number in
        record {
          started = subst (λ (g : ℕ). IsStarted p g) (sym fellow.0) started;
          key = fellow.1 ∙ ap (λ (y : Vertex). y.key) is;
          start = subst (λ (g : ℕ). Contains vs (start_in g)) (sym fellow.0) (subst (λ (y : Vertex). Contains vs y) is there);
        }

    -- a route is a chain
    chain_of : (root : ℕ) (hops : List Hop) → IsRoute rows roots t root hops → (k : ℕ) × (root ≡ length vs + k) × IsChain p vs offers v (frames_of vs hops) × (length hops + 1 ≡ length (frames_of vs hops) + length (frames_of vs hops))
    chain_of root hops route =
        let from = (are_roots root).0 route.from_root in
        let number = from.2.2 in
        let k = number.0 in
        let called = walk_calls vs offers numbers rows it k t v hops at (subst (λ (n : ℕ). IsWalk rows n hops t) number.2 route.walk) in (
          k,
          number.2,
          record {
            vertex = (t, slice_get_within vs t v at, get_or_from_slice_get vs t v v at);
            root = first_rooted (frames_of vs hops) from.0 k from.2.0 from.2.1 from.1 number.1 called.first;
            calls = called.calls;
          },
          called.len,
        )

    pub least_is_least : (root : ℕ) (hops : List Hop) → IsLeastRoute rows roots t root hops → IsLeastChain p vs offers v (frames_of vs hops)
    least_is_least root hops least =
        let own = chain_of root hops least.is_chain in
        let walk : IsWalk rows (length vs + own.0) hops t = subst (λ (n : ℕ). IsWalk rows n hops t) own.1 least.is_chain.walk in
        record {
          chain = own.2;
          shortest = λ other chain. (let r = route_of other chain in omega (arith, least.shortest (length vs + r.0) r.1 r.2.route, own.3, r.2.len));
          vertices = λ other chain same.
              let r = route_of other chain in
              let lens : length r.1 ≡ length hops = omega (arith, r.2.len, own.3, same) in
              let less : IsNumbersUpTo (vertices_of (length vs + own.0) hops) (vertices_of (length vs + r.0) r.1) = subst (λ (n : ℕ). IsNumbersUpTo (vertices_of n hops) (vertices_of (length vs + r.0) r.1)) own.1 (least.vertices (length vs + r.0) r.1 r.2.route lens) in
              subst (λ (l : StackValue). IsUpTo vertex_cmp (vertices_on (frames_of vs hops)) (vertices_on l)) r.2.frames (up_by_vertices own.0 r.0 hops r.1 walk r.2.route.walk lens less);
          edges = λ other chain same.
              let r = route_of other chain in
              let long : length other ≡ length (frames_of vs hops) = sym (length-map other (λ (x : Frame). x.vertex)) ∙ ap (λ (l : List Vertex). length l) same ∙ length-map (frames_of vs hops) (λ (x : Frame). x.vertex) in
              let lens : length r.1 ≡ length hops = omega (arith, r.2.len, own.3, long) in
              let equal : vertices_of (length vs + r.0) r.1 ≡ vertices_of (length vs + own.0) hops = same_numbers own.0 r.0 hops r.1 walk r.2.route.walk lens (ap vertices_on r.2.frames ∙ same) in
              let root_is : length vs + r.0 ≡ root = first_same (length vs + r.0) (length vs + own.0) (targets r.1) (targets hops) equal ∙ sym own.1 in
              let at_root : vertices_of root r.1 ≡ vertices_of root hops = ap (λ (n : ℕ). vertices_of n r.1) (sym root_is) ∙ equal ∙ ap (λ (n : ℕ). vertices_of n hops) (sym own.1) in
              let less = least.edges r.1 (subst (λ (n : ℕ). IsWalk rows n r.1 t) root_is r.2.route.walk) at_root in
              subst (λ (l : StackValue). IsUpTo nat_cmp (edges_on (frames_of vs hops)) (edges_on l)) r.2.frames (up_by_edges own.0 r.0 hops r.1 walk r.2.route.walk lens less);
        }

    pub none_is_none : ((root : ℕ) (hops : List Hop) → IsRoute rows roots t root hops → ⊥) → (stack : StackValue) → IsChain p vs offers v stack → ⊥
    none_is_none none stack chain = (let r = route_of stack chain in none (length vs + r.0) r.1 r.2.route)
