-- The start of `main` is a vertex of every post-solution.
use Rattle.std.proofs.Common.{◌≡◌, inl, inr, ℕ, Bool, true, false, cond, List, [], ◌∷◌, Option, None, Some, length, refl, sym, subst, arith}
use Rattle.std.specs.Prelude.{Contains}
use Rattle.std.specs.List.{IsDistinct}
use Rattle.std.specs.Map.{keys_of}
use Rattle.std.specs.Ordering.{is_lt}
use Rattle.gob_tree.specs.declared.graph.Program.{Program}
use Rattle.state_dom.specs.StateValue.{Bottom, Reached, start_of}
use Rattle.constraint_sys.specs.declared.unknown.Unknown.{Unknown}
use Rattle.constraint_sys.specs.declared.value.Value.{Value}
use Rattle.constraint_sys.specs.declared.value.Value.TheVariants.{State, Number}
use Rattle.constraint_sys.specs.PostSolution.{CoversValue, IsPostSolution}
use Rattle.constraint_sys.specs.Table.{TableValue, main_start, slots_at, unknown_cmp, value_at}
use Rattle.constraint_sys.specs.UnknownOrder.{in_unknown_order, put_in_order}
use Rattle.arg_graph.specs.declared.graph.Graph.{Graph}
use Rattle.arg_graph.specs.declared.vertex.Vertex.{Vertex}
use Rattle.arg_graph.specs.Graphs.{IsGraphOf, vertices_in}
use Rattle.arg_graph.specs.Vertices.{has_state, is_vertex, start_in}
use Rattle.arg_graph.specs.Following.{rooted}
use Rattle.arg_graph.proofs.Standing.{vertices_all}
use Rattle.constraint_sys.proofs.Ordered.{Contains-cases, Contains-head, Contains-nil, Contains-tail}
use Rattle.abs_stepper.specs.declared.position.Thread.{Thread}
use Rattle.abs_stepper.specs.Positions.{IsPosition, StandsAt}

-- ---- a member of a list stands in its order

put_there : (u : Unknown) (us : List Unknown) → Contains (put_in_order u us) u
put_there u [] = Contains-head u []
put_there u (v ∷ vs) = by (is_lt (unknown_cmp v u)) (put_there u vs)
  where
    by : (b : Bool) → Contains (put_in_order u vs) u → Contains (cond b (v ∷ put_in_order u vs) (u ∷ v ∷ vs)) u
    by true rest = Contains-tail v u (put_in_order u vs) rest
    by false rest = Contains-head u (v ∷ vs)

put_keeps : (u w : Unknown) (us : List Unknown) → Contains us w → Contains (put_in_order u us) w
put_keeps u w [] one = absurd (Contains-nil w one)
put_keeps u w (v ∷ vs) one = by (is_lt (unknown_cmp v u)) (λ later. put_keeps u w vs later)
  where
    by : (b : Bool) → (Contains vs w → Contains (put_in_order u vs) w) → Contains (cond b (v ∷ put_in_order u vs) (u ∷ v ∷ vs)) w
    by true rest = elim (Contains-cases v w vs one) [
      | inl same ↦ subst (λ (x : Unknown). Contains (v ∷ put_in_order u vs) x) (sym same) (Contains-head v (put_in_order u vs))
      | inr later ↦ Contains-tail v w (put_in_order u vs) (rest later)
    ]
    by false rest = Contains-tail u w (v ∷ vs) one

in_order_there : (us : List Unknown) (u : Unknown) → Contains us u → Contains (in_unknown_order us) u
in_order_there [] u one = one
in_order_there (v ∷ vs) u one = elim (Contains-cases v u vs one) [
  | inl same ↦ subst (λ (x : Unknown). Contains (put_in_order v (in_unknown_order vs)) x) (sym same) (put_there v (in_unknown_order vs))
  | inr later ↦ put_keeps v u (in_unknown_order vs) (in_order_there vs u later)
]

-- ---- the start

covers_reached : (o : Option Value) (n : ℕ) → CoversValue o (State (start_of n)) → has_state o ≡ true
covers_reached None n covers = absurd covers
covers_reached (Some (Number interval)) n covers = absurd covers
covers_reached (Some (State (Bottom room))) n covers = absurd covers
covers_reached (Some (State (Reached slots locks))) n covers = refl

pub main_stands : (p : Program) (t : TableValue) (g : Graph) → IsPostSolution p t → IsGraphOf p t g → Contains (vertices_in g) (start_in p.main)
main_stands p t g solved is =
    let stands : is_vertex t (start_in p.main) ≡ true = covers_reached (value_at t (main_start p)) (length (slots_at p p.main)) solved.roots.main_bounded in
    subst (λ (l : List Vertex). Contains l (start_in p.main)) (sym is.vertices) (vertices_all t (in_unknown_order (keys_of t)) (in_order_there (keys_of t)) (start_in p.main) stands)

-- one thread at a vertex is a position
pub alone : (id : ℕ) (v : Vertex) → IsPosition (record { id = id; stack = rooted v } ∷ [])
unfolding IsDistinct
alone id v = record {
  some = omega arith;
  apart = (tt, tt);
  together = (
    v.func,
    v.node,
    λ t one. elim (Contains-cases (record { id = id; stack = rooted v }) t [] one) [
      | inl same ↦ subst (λ (x : Thread). StandsAt v.func v.node x.stack) (sym same) (refl, refl)
      | inr none ↦ absurd (Contains-nil t none)
    ],
  );
}
