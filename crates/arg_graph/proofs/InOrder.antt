-- The vertices of a table ascend, each once.
use Rattle.std.proofs.Common.{◌≡◌, ◌+◌, ◌<◌, ℕ, Bool, true, false, cond, List, [], ◌∷◌, ◌++◌, length, get_or, inl, inr, refl, sym, ap, subst, ◌∙◌, arith, true≢false}
use Rattle.std.specs.Prelude.{Contains}
use Rattle.std.specs.List.{flat_map, IsDistinct}
use Rattle.std.specs.List.Sorted.{IsSorted, IsStrictlySortedBy}
use Rattle.std.specs.Ordering.{is_eq, is_lt, ordering_reverse}
use Rattle.std.specs.declared.cmp.Ordering.{Ordering}
use Rattle.std.specs.declared.cmp.Ordering.TheVariants.{Less, Equal, Greater}
use Rattle.std.proofs.lemmas.List.Elements.{All-contains, All-from_recursion, Contains-get_or, recursion_from_All}
use Rattle.std.proofs.lemmas.Map.Keys.{apart_from_distinct, sorted_from_all_adjacent, sorted_head, sorted_tail}
use Rattle.constraint_sys.specs.contracts.unknown.UnknownOrd.TheImpl.Laws.{total-law, matches_eq-law}
use Rattle.constraint_sys.specs.declared.unknown.Key.{Key}
use Rattle.constraint_sys.specs.declared.unknown.Unknown.{Unknown}
use Rattle.constraint_sys.specs.declared.unknown.Unknown.TheVariants.{Point, Global}
use Rattle.constraint_sys.specs.Table.{TableValue, unknown_cmp, unknown_eq}
use Rattle.constraint_sys.proofs.Ordered.{Contains-cases, Contains-flat_map, Contains-nil}
use Rattle.arg_graph.specs.Graphs.{vertex_cmp}
use Rattle.arg_graph.specs.Vertices.{is_vertex, vertex_at, vertex_of}
use Rattle.arg_graph.specs.declared.vertex.Vertex.{Vertex}

-- ---- unknowns in order, each once
rising : (u v : Unknown) → is_lt (unknown_cmp v u) ≡ false → unknown_eq u v ≡ false → unknown_cmp u v ≡ Less
rising u v not_below apart = by (unknown_cmp u v) refl
  where
    by : (r : Ordering) → unknown_cmp u v ≡ r → unknown_cmp u v ≡ Less
    by Less h = h
    by Equal h = absurd (true≢false (sym (matches_eq-law u v ∙ ap is_eq h) ∙ apart))
    by Greater h = absurd (true≢false (sym (ap is_lt (total-law.antisymm v u ∙ ap ordering_reverse h)) ∙ not_below))

pub unknowns_rise : (us : List Unknown) → IsSorted unknown_cmp us → IsDistinct unknown_eq us → IsStrictlySortedBy unknown_cmp us
unknowns_rise us sorted apart =
    sorted_from_all_adjacent total-law us (Global 0) (λ k within.
    rising (get_or us k (Global 0)) (get_or us (k + 1) (Global 0)) (sorted k (Global 0) (omega arith) within) (apart_from_distinct unknown_eq us k (k + 1) (Global 0) apart (omega arith) within))

-- ---- their vertices
compared_as_points : (v w : Vertex) → unknown_cmp (Point v.func v.key v.node) (Point w.func w.key w.node) ≡ vertex_cmp v w
compared_as_points v w = refl

from_point : (t : TableValue) (u : Unknown) (v : Vertex) → Contains (vertex_of t u) v → u ≡ Point v.func v.key v.node
from_point t (Point f key node) v one = by (is_vertex t (vertex_at f key node)) one
  where
    by : (b : Bool) → Contains (cond b (vertex_at f key node ∷ []) []) v → Point f key node ≡ Point v.func v.key v.node
    by true one = elim (Contains-cases (vertex_at f key node) v [] one) [
      | inl same ↦ ap (λ (x : Vertex). Point x.func x.key x.node) (sym same)
      | inr none ↦ absurd (Contains-nil v none)
    ]
    by false one = absurd (Contains-nil v one)
from_point t (Global g) v one = absurd (Contains-nil v one)

rises-nil : IsStrictlySortedBy vertex_cmp []
unfolding IsStrictlySortedBy
rises-nil = tt

rises-cons : (v : Vertex) (vs : List Vertex) → ((w : Vertex) → Contains vs w → vertex_cmp v w ≡ Less) → IsStrictlySortedBy vertex_cmp vs → IsStrictlySortedBy vertex_cmp (v ∷ vs)
unfolding IsStrictlySortedBy
rises-cons v vs below up = (recursion_from_All (λ (w : Vertex). vertex_cmp v w ≡ Less) vs (λ k d within. below (get_or vs k d) (Contains-get_or vs k d within)), up)

pub vertices_rise : (t : TableValue) (us : List Unknown) → IsStrictlySortedBy unknown_cmp us → IsStrictlySortedBy vertex_cmp (flat_map (vertex_of t) us)
vertices_rise t [] up = rises-nil
vertices_rise t (Global g ∷ us) up = vertices_rise t us (sorted_tail unknown_cmp (Global g) us up)
vertices_rise t (Point f key node ∷ us) up = by (is_vertex t (vertex_at f key node)) (vertices_rise t us (sorted_tail unknown_cmp (Point f key node) us up))
  where
    later : (w : Vertex) → Contains (flat_map (vertex_of t) us) w → vertex_cmp (vertex_at f key node) w ≡ Less
    later w one =
        let from = Contains-flat_map (vertex_of t) us w one in
        let above = All-contains (λ (u : Unknown). unknown_cmp (Point f key node) u ≡ Less) us from.0 (All-from_recursion (λ (u : Unknown). unknown_cmp (Point f key node) u ≡ Less) us (sorted_head unknown_cmp (Point f key node) us up)) from.1 in
        sym (compared_as_points (vertex_at f key node) w) ∙ ap (unknown_cmp (Point f key node)) (sym (from_point t from.0 w from.2)) ∙ above

    by : (b : Bool) → IsStrictlySortedBy vertex_cmp (flat_map (vertex_of t) us) → IsStrictlySortedBy vertex_cmp (cond b (vertex_at f key node ∷ []) [] ++ flat_map (vertex_of t) us)
    by true rest = rises-cons (vertex_at f key node) (flat_map (vertex_of t) us) later rest
    by false rest = rest
