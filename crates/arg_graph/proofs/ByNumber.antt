-- The steps of a vertex by the numbers of the edges that begin at its node.
use Rattle.std.proofs.Common.{◌≡◌, ℕ, zero, suc, ◌+◌, ◌<◌, Bool, true, false, cond, List, [], ◌∷◌, ◌++◌, Option, None, Some, drop, length, slice_get, get_or, refl, sym, ap, ◌∙◌, subst, add-one, arith}
use Rattle.std.specs.Prelude.{Contains}
use Rattle.std.proofs.lemmas.Option.{slice_get_read}
use Rattle.gob_tree.specs.declared.graph.Edge.{Edge}
use Rattle.gob_tree.specs.declared.graph.FuncGraph.{FuncGraph}
use Rattle.gob_tree.specs.declared.graph.Program.{Program}
use Rattle.constraint_sys.specs.Contribution.{outcome_of}
use Rattle.constraint_sys.specs.Index.{IsSystemOf, begins_at, numbers_where, row_at}
use Rattle.constraint_sys.specs.Table.{TableValue, edges_at, edges_of_function}
use Rattle.constraint_sys.specs.declared.system.System.{System}
use Rattle.constraint_sys.proofs.Indexing.{edge_of, number_within}
use Rattle.constraint_sys.proofs.Ordered.{drop_read}
use Rattle.arg_graph.specs.Offered.{offered, steps_by, steps_from}
use Rattle.arg_graph.specs.declared.vertex.Step.{Step}
use Rattle.arg_graph.specs.declared.vertex.Vertex.{Vertex}

first_left : (xs : List Edge) (n : ℕ) (e : Edge) (es : List Edge) → drop n xs ≡ e ∷ es → (slice_get xs n ≡ Some e) × (drop (suc n) xs ≡ es)
first_left [] zero e es is = cc is
first_left [] (suc n) e es is = cc is
first_left (x ∷ xs) zero e es is = (let first : x ≡ e = cc is in ap Some first, let rest : xs ≡ es = cc is in rest)
first_left (x ∷ xs) (suc n) e es is = first_left xs n e es is

module _ (p : Program) (t : TableValue) (v : Vertex) where
  abbrev pub steps_at_number : ℕ → Option Edge → List Step
  steps_at_number n None = []
  steps_at_number n (Some e) = steps_by v n e (outcome_of p t v.func v.key e)

  -- the steps by the edges with these numbers
  abbrev pub steps_at_numbers : List Edge → List ℕ → List Step
  steps_at_numbers es [] = []
  steps_at_numbers es (n ∷ ns) = steps_at_number n (slice_get es n) ++ steps_at_numbers es ns

  one_more : (es : List Edge) (n : ℕ) (e : Edge) (ns : List ℕ) (rest : List Step) (b : Bool) → slice_get es n ≡ Some e → steps_at_numbers es ns ≡ rest
      → steps_at_numbers es (cond b (n ∷ ns) ns) ≡ cond b (steps_by v n e (outcome_of p t v.func v.key e)) [] ++ rest
  one_more es n e ns rest true at same = rw (at, same) refl
  one_more es n e ns rest false at same = same

  from_number : (whole : List Edge) (n : ℕ) (es : List Edge) → drop n whole ≡ es → steps_at_numbers whole (numbers_where (begins_at v.node) n es) ≡ steps_from p t v n es
  from_number whole n [] is = refl
  from_number whole n (e ∷ es) is =
      let front = first_left whole n e es is in
      one_more whole n e (numbers_where (begins_at v.node) (n + 1) es) (steps_from p t v (n + 1) es) (begins_at v.node e) front.0 (from_number whole (n + 1) es (ap (λ (m : ℕ). drop m whole) (add-one n) ∙ front.1))

-- the edges of a vertex's function, and the numbers of those that begin at its node
pub record IsNumbered (p : Program) (v : Vertex) (edges : List Edge) (ns : List ℕ) : Type 0 where
  pub edges_are : edges ≡ edges_at p v.func
  pub numbers_are : ns ≡ numbers_where (begins_at v.node) 0 edges

pub numbered : (p : Program) (s : System) (v : Vertex) (function : FuncGraph) (edges : List Edge) (ns : List ℕ) → IsSystemOf p s → slice_get p.funcs v.func ≡ Some function → edges ≡ function.edges → ns ≡ row_at s.starts v.func v.node → IsNumbered p v edges ns
numbered p s v function edges ns system at edges_is ns_is =
    let same : edges ≡ edges_at p v.func = edges_is ∙ sym (ap edges_of_function at) in
    record {
      edges_are = same;
      numbers_are = ns_is ∙ system.out_of v.func v.node ∙ ap (numbers_where (begins_at v.node) 0) (sym same);
    }

default_same : (xs : List ℕ) (i d e : ℕ) → i < length xs → get_or xs i d ≡ get_or xs i e
default_same [] i d e within = absurd (omega arith)
default_same (x ∷ xs) zero d e within = refl
default_same (x ∷ xs) (suc i) d e within = default_same xs i d e (omega arith)

module _ (p : Program) (t : TableValue) (v : Vertex) (edges : List Edge) (ns : List ℕ) (h : IsNumbered p v edges ns) where
  pub place_inside : (i : ℕ) → i < length ns → get_or ns i 0 < length edges
  place_inside i within =
      let same = default_same ns i 0 (get_or ns i 0) within in
      number_within (begins_at v.node) edges i (get_or ns i 0) (subst (λ (l : List ℕ). i < length l) h.numbers_are within) (same ∙ ap (λ (l : List ℕ). get_or l i (get_or ns i 0)) h.numbers_are)

  pub edge_there : (i : ℕ) (e : Edge) → i < length ns → e ≡ get_or edges (get_or ns i 0) e → Contains (edges_at p v.func) e
  edge_there i e within is = subst (λ (l : List Edge). Contains l e) h.edges_are (edge_of edges (get_or ns i 0) e (place_inside i within) is)

  pub steps_next : (i : ℕ) (e : Edge) → i < length ns → e ≡ get_or edges (get_or ns i 0) e
      → steps_at_numbers p t v edges (drop i ns) ≡ steps_by v (get_or ns i 0) e (outcome_of p t v.func v.key e) ++ steps_at_numbers p t v edges (drop (i + 1) ns)
  steps_next i e within is =
      let at : slice_get edges (get_or ns i 0) ≡ Some e = slice_get_read edges (length edges) (get_or ns i 0) e refl (place_inside i within) is in
      ap (steps_at_numbers p t v edges) (drop_read ns i (get_or ns i 0) within (default_same ns i 0 (get_or ns i 0) within)) ∙ (rw at refl)

  pub steps_all : steps_at_numbers p t v edges ns ≡ offered p t v
  steps_all =
      ap (steps_at_numbers p t v edges) h.numbers_are ∙ from_number p t v edges 0 edges refl ∙ ap (steps_from p t v 0) h.edges_are

-- the function at a place of the program
pub function_read : (p : Program) (funcs : List FuncGraph) (f : ℕ) (function : FuncGraph) → f < length p.funcs → funcs ≡ p.funcs → function ≡ get_or funcs f function → slice_get p.funcs f ≡ Some function
function_read p funcs f function within same is =
    slice_get_read p.funcs (length p.funcs) f function refl within (is ∙ ap (λ (l : List FuncGraph). get_or l f function) same)
