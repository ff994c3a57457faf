-- Rows that are made piece by piece are the calls of a graph.
use Rattle.std.proofs.Common.{◌≡◌, inl, inr, ℕ, zero, suc, ◌+◌, ◌<◌, ◌≤◌, List, [], ◌∷◌, Some, length, refl, sym, subst, ◌∙◌, ap, arith}
use Rattle.std.specs.Prelude.{Contains, slice_get}
use Rattle.std.specs.List.{flat_map}
use Rattle.std.proofs.lemmas.Bool.{cases_lt}
use Rattle.std.proofs.lemmas.Option.{slice_get_within}
use Rattle.constraint_sys.proofs.Ordered.{Contains-nil}
use Rattle.arg_graph.specs.Following.{Offers}
use Rattle.arg_graph.specs.declared.vertex.Vertex.{Vertex}
use Rattle.arg_chain.specs.declared.hop.Hop.{Hop}
use Rattle.arg_chain.specs.Calls.{HasMore, IsCallsOf, IsHopToMember, IsMember, IsNumbered, hop_by, hop_of}
use Rattle.arg_chain.specs.Walk.{Graph, IsGraph, steps_at}
use Rattle.arg_chain.proofs.Rows.{calls_are, steps_past}

vertex_there : (vs : List Vertex) (i : ℕ) → i < length vs → (v : Vertex) × (slice_get vs i ≡ Some v)
vertex_there [] i within = absurd (omega arith)
vertex_there (v ∷ vs) zero within = (v, refl)
vertex_there (v ∷ vs) (suc i) within = vertex_there vs i (omega arith)

module _ (vs : List Vertex) (offers : Offers) (numbers : List (Vertex × ℕ)) (count : ℕ) (rows empties all : Graph) where
  pub made : IsNumbered vs (length vs) numbers count
      → length rows ≡ length vs → ((i : ℕ) (v : Vertex) → slice_get vs i ≡ Some v → steps_at rows i ≡ flat_map (hop_of numbers (length vs)) (offers v))
      → length empties ≡ length rows + count → ((j : ℕ) → steps_at empties j ≡ steps_at rows j)
      → length all ≡ length empties → HasMore empties all (IsHopToMember vs (length vs) numbers (length vs))
      → IsCallsOf vs offers numbers all
  made it long calls more_rows kept as_long more = record {
    graph = within;
    count = omega (arith, long, more_rows, as_long);
    numbered = λ v k is. omega (arith, (it.only v k is).0, long, more_rows, as_long);
    each = λ i v at. (let one = it.each i v (slice_get_within vs i v at) at in (one.0, one.1, (more (length vs + one.0) (hop_by 0 i)).1 (inr (i, v, slice_get_within vs i v at, at, (one.0, one.1, refl, refl)))));
    members = members;
    apart = it.apart;
    in_order = λ i j v w k l up at_i at_j first second. it.in_order i j v w k l (slice_get_within vs j w at_j) up at_i at_j first second;
    calls = λ i v h at. (
      λ one. elim ((more i h).0 one) [
        | inl old ↦ (calls_are numbers (length vs) (offers v) h).0 (subst (λ (l : List Hop). Contains l h) (kept i ∙ calls i v at) old)
        | inr member ↦ absurd (omega (arith, slice_get_within vs i v at, member.4.2))
      ],
      λ call. (more i h).1 (inl (subst (λ (l : List Hop). Contains l h) (sym (kept i ∙ calls i v at)) ((calls_are numbers (length vs) (offers v) h).1 call))),
    );
  }
    where
      -- no hop stands in a row behind those of the vertices
      none_behind : (j : ℕ) (h : Hop) → length vs ≤ j → Contains (steps_at empties j) h → ⊥
      none_behind j h past one = Contains-nil h (subst (λ (l : List Hop). Contains l h) (kept j ∙ steps_past rows j (omega (arith, long))) one)

      members : (k : ℕ) (h : Hop) → Contains (steps_at all (length vs + k)) h → IsMember vs (length vs) numbers k h
      members k h one = elim ((more (length vs + k) h).0 one) [
        | inl old ↦ absurd (none_behind (length vs + k) h (omega arith) old)
        | inr member ↦
            let same : k ≡ member.4.0 = omega (arith, member.4.2) in
            record {
              edge = ap (λ (x : Hop). x.edge) member.4.3;
              within = omega (arith, ap (λ (x : Hop). x.to) member.4.3, member.2);
              vertex = (member.1, ap (λ (x : Hop). slice_get vs x.to) member.4.3 ∙ member.3, member.4.1 ∙ ap Some (sym same));
            }
      ]

      within : IsGraph all
      within u s one = elim ((more u s).0 one) [
        | inr member ↦ omega (arith, ap (λ (x : Hop). x.to) member.4.3, member.2, long, more_rows, as_long)
        | inl old ↦ elim (cases_lt u (length vs)) [
          | inr past ↦ absurd (none_behind u s past old)
          | inl low ↦
              let at = vertex_there vs u low in
              let call = (calls_are numbers (length vs) (offers at.0) s).0 (subst (λ (l : List Hop). Contains l s) (kept u ∙ calls u at.0 at.1) old) in
              omega (arith, (it.only call.0 call.2.0 call.2.1).0, call.2.2, long, more_rows, as_long)
        ]
      ]
