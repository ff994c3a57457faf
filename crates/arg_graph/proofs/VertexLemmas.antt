-- When two vertices are one.
use Rattle.std.proofs.Common.{◌≡◌, ◌≢◌, ◌⊎◌, inl, inr, true, false, true≢false, sym, ap, ◌∙◌, rules}
use Rattle.std.proofs.lemmas.Bool.{cases_Bool}
use Rattle.arg_graph.specs.Graphs.{vertex_eq}
use Rattle.arg_graph.specs.contracts.vertex.VertexEq.TheImpl.Laws.{laws-law}
use Rattle.arg_graph.specs.declared.vertex.Vertex.{Vertex}

pub vertex_eq-same : (a b : Vertex) → vertex_eq a b ≡ true → a ≡ b
vertex_eq-same a b h = search rules

pub vertex_eq-refl : (a : Vertex) → vertex_eq a a ≡ true
vertex_eq-refl a = laws-law.refl a

pub vertex_eq-apart : (a b : Vertex) → a ≢ b → vertex_eq a b ≡ false
vertex_eq-apart a b other = elim (cases_Bool (vertex_eq a b)) [
  | inl same ↦ absurd (other (vertex_eq-same a b same))
  | inr apart ↦ apart
]

pub cases_vertex : (a b : Vertex) → (a ≡ b) ⊎ (a ≢ b)
cases_vertex a b = elim (cases_Bool (vertex_eq a b)) [
  | inl same ↦ inl (vertex_eq-same a b same)
  | inr apart ↦ inr (λ same. true≢false (sym (vertex_eq-refl a) ∙ ap (vertex_eq a) same ∙ apart))
]
