-- What offers a step is a vertex of the graph.
use Rattle.std.proofs.Common.{◌≡◌, ◌⊎◌, inl, inr, Bool, true, false, cond, List, [], ◌∷◌, sym, subst, ◌∙◌}
use Rattle.std.specs.Prelude.{Contains}
use Rattle.std.specs.Map.{keys_of}
use Rattle.std.specs.Ordering.{is_lt}
use Rattle.std.proofs.lemmas.Bool.{cases_Bool}
use Rattle.gob_tree.specs.declared.graph.Program.{Program}
use Rattle.constraint_sys.specs.declared.unknown.Unknown.{Unknown}
use Rattle.constraint_sys.specs.Table.{TableValue, unknown_cmp}
use Rattle.constraint_sys.specs.UnknownOrder.{in_unknown_order, put_in_order}
use Rattle.constraint_sys.proofs.Ordered.{Contains-cases, Contains-head, Contains-nil, Contains-tail}
use Rattle.arg_graph.specs.declared.graph.Graph.{Graph}
use Rattle.arg_graph.specs.declared.vertex.Step.{Step}
use Rattle.arg_graph.specs.declared.vertex.Vertex.{Vertex}
use Rattle.arg_graph.specs.Graphs.{IsGraphOf, offered_in, vertices_in}
use Rattle.arg_graph.specs.Vertices.{is_vertex}
use Rattle.arg_graph.proofs.Standing.{offers_none, vertices_all}

put_there : (u : Unknown) (us : List Unknown) → Contains (put_in_order u us) u
put_there u [] = Contains-head u []
put_there u (v ∷ vs) = by (is_lt (unknown_cmp v u)) (put_there u vs)
  where
    by : (b : Bool) → Contains (put_in_order u vs) u → Contains (cond b (v ∷ put_in_order u vs) (u ∷ v ∷ vs)) u
    by true rest = Contains-tail v u (put_in_order u vs) rest
    by false rest = Contains-head u (v ∷ vs)

put_keeps : (u w : Unknown) (us : List Unknown) → Contains us w → Contains (put_in_order u us) w
put_keeps u w [] one = absurd (Contains-nil w one)
put_keeps u w (v ∷ vs) one = by (is_lt (unknown_cmp v u)) (λ later. put_keeps u w vs later)
  where
    by : (b : Bool) → (Contains vs w → Contains (put_in_order u vs) w) → Contains (cond b (v ∷ put_in_order u vs) (u ∷ v ∷ vs)) w
    by true rest = elim (Contains-cases v w vs one) [
      | inl same ↦ subst (λ (x : Unknown). Contains (v ∷ put_in_order u vs) x) (sym same) (Contains-head v (put_in_order u vs))
      | inr later ↦ Contains-tail v w (put_in_order u vs) (rest later)
    ]
    by false rest = Contains-tail u w (v ∷ vs) one

in_order_there : (us : List Unknown) (u : Unknown) → Contains us u → Contains (in_unknown_order us) u
in_order_there [] u one = one
in_order_there (v ∷ vs) u one = elim (Contains-cases v u vs one) [
  | inl same ↦ subst (λ (x : Unknown). Contains (put_in_order v (in_unknown_order vs)) x) (sym same) (put_there v (in_unknown_order vs))
  | inr later ↦ put_keeps v u (in_unknown_order vs) (in_order_there vs u later)
]

pub offers_at_vertices : (p : Program) (t : TableValue) (g : Graph) → IsGraphOf p t g → (v : Vertex) (s : Step) → Contains (offered_in g v) s → Contains (vertices_in g) v
offers_at_vertices p t g is v s one = elim (cases_Bool (is_vertex t v)) [
  | inl stands ↦ subst (λ (l : List Vertex). Contains l v) (sym is.vertices) (vertices_all t (in_unknown_order (keys_of t)) (in_order_there (keys_of t)) v stands)
  | inr not ↦ absurd (Contains-nil s (subst (λ (l : List Step). Contains l s) (is.steps v ∙ offers_none p t v not) one))
]
