-- Stops of single breaks, where their vertices stand, and the one node of a line.
use Rattle.std.proofs.Common.{◌≡◌, inl, inr, ℕ, suc, ◌+◌, nat_eq, true, List, [], ◌∷◌, ◌++◌, refl, ap, ap₂, subst, ◌∙◌, arith}
use Rattle.std.specs.Prelude.{Contains, IsSomeAnd, map, slice_get}
use Rattle.std.proofs.lemmas.Bool.{and_parts}
use Rattle.std.proofs.lemmas.Bool.Decides.{nat_tests}
use Rattle.std.proofs.lemmas.List.Elements.{Contains-append_cases}
use Rattle.gob_tree.specs.declared.graph.Program.{Program}
use Rattle.constraint_sys.specs.Table.{TableValue}
use Rattle.constraint_sys.proofs.Ordered.{Contains-cases, Contains-filter, Contains-nil}
use Rattle.arg_graph.specs.declared.vertex.Vertex.{Vertex}
use Rattle.arg_graph.specs.Vertices.{is_at, vertices_at, vertices_of}
use Rattle.breakpoint_eval.specs.declared.stop.Break.{Break}
use Rattle.breakpoint_eval.specs.declared.stop.Stop.{Stop}
use Rattle.breakpoint_eval.specs.Lines.{IsLeastOn, IsNotAfter}
use Rattle.breakpoint_eval.specs.Parting.{LinesHaveOneNode, StandsAtItsBreak, StopsComeOneByOne, numbered_from, one_by_one}
use Rattle.breakpoint_eval.specs.Watching.{may_stop, stop_with, stopping, stops_from, stops_of}

same_number : (a b : ℕ) → nat_eq a b ≡ true → a ≡ b
same_number a b e = grind (arith, nat_tests)

-- ---- one break at a time
module _ (p : Program) (t : TableValue) where
  alone : (n : ℕ) (vs : List Vertex) → stop_with n vs ≡ map (numbered_from n) (stop_with 0 vs ++ [])
  alone n [] = refl
  alone n (v ∷ vs) = ap (λ (m : ℕ). record { index = m; at = v ∷ vs } ∷ []) (omega arith)

  from_number : (n : ℕ) (breaks : List Break) → stops_from p t n breaks ≡ one_by_one p t n breaks
  from_number n [] = refl
  from_number n (b ∷ bs) = ap₂ (λ (xs ys : List Stop). xs ++ ys) (alone n (stopping p t b)) (from_number (n + 1) bs)

  -- ---- where the vertices of a stop stand
  vertex_there : (b : Break) (v : Vertex) → Contains (stopping p t b) v → (v.func ≡ b.func) × (v.node ≡ b.node)
  vertex_there b v one =
      let at = Contains-filter (is_at b.func b.node) (vertices_of t) v (Contains-filter (may_stop p t b.cond) (vertices_at t b.func b.node) v one).0 in
      let both = and_parts (nat_eq v.func b.func) (nat_eq v.node b.node) at.1 in
      (same_number v.func b.func both.0, same_number v.node b.node both.1)

  stop_there : (n : ℕ) (b : Break) (vs : List Vertex) (stop : Stop) → ((v : Vertex) → Contains vs v → (v.func ≡ b.func) × (v.node ≡ b.node)) → Contains (stop_with n vs) stop
      → (stop.index ≡ n) × ((v : Vertex) → Contains stop.at v → (v.func ≡ b.func) × (v.node ≡ b.node))
  stop_there n b [] stop stand one = absurd (Contains-nil stop one)
  stop_there n b (w ∷ ws) stop stand one = elim (Contains-cases (record { index = n; at = w ∷ ws }) stop [] one) [
    | inl same ↦ (ap (λ (s : Stop). s.index) same, λ v there. stand v (subst (λ (l : List Vertex). Contains l v) (ap (λ (s : Stop). s.at) same) there))
    | inr none ↦ absurd (Contains-nil stop none)
  ]

  pub stand : (n : ℕ) (breaks : List Break) (stop : Stop) → Contains (stops_from p t n breaks) stop
      → (i : ℕ) × (stop.index ≡ n + i) × IsSomeAnd (slice_get breaks i) (λ (b : Break). (v : Vertex) → Contains stop.at v → (v.func ≡ b.func) × (v.node ≡ b.node))
  stand n [] stop one = absurd (Contains-nil stop one)
  stand n (b ∷ bs) stop one = elim (Contains-append_cases (stop_with n (stopping p t b)) (stops_from p t (n + 1) bs) stop one) [
    | inl here ↦ (let is = stop_there n b (stopping p t b) stop (vertex_there b) here in (0, is.0 ∙ omega arith, is.1))
    | inr later ↦ (let is = stand (n + 1) bs stop later in (suc is.0, is.1 ∙ omega arith, is.2))
  ]

  pub stands_at_its_break : (breaks : List Break) (stop : Stop) → Contains (stops_of p t breaks) stop → StandsAtItsBreak breaks stop
  stands_at_its_break breaks stop one =
      let is = stand 0 breaks stop one in
      let same : is.0 ≡ stop.index = omega (arith, is.1) in
      subst (λ (i : ℕ). IsSomeAnd (slice_get breaks i) (λ (b : Break). (v : Vertex) → Contains stop.at v → (v.func ≡ b.func) × (v.node ≡ b.node))) same is.2

pub stops_come_one_by_one : StopsComeOneByOne
stops_come_one_by_one p t breaks = from_number p t 0 breaks

-- ---- the node of a line
both_ways : (f node g other : ℕ) → IsNotAfter f node g other → IsNotAfter g other f node → (f ≡ g) × (node ≡ other)
both_ways f node g other (inl a) (inl b) = absurd (omega (arith, a, b))
both_ways f node g other (inl a) (inr b) = absurd (omega (arith, a, b.0))
both_ways f node g other (inr a) (inl b) = absurd (omega (arith, a.0, b))
both_ways f node g other (inr a) (inr b) = (a.0, omega (arith, a.1, b.1))

pub lines_have_one_node : LinesHaveOneNode
lines_have_one_node p line f node g other one two = both_ways f node g other (one.least g other two.there) (two.least f node one.there)
