-- The edges of a program by their numbers.
use Rattle.std.proofs.Common.{◌≡◌, ◌≢◌, inl, inr, ℕ, zero, suc, ◌+◌, ◌<◌, ◌≤◌, Bool, true, false, cond, nat_eq, is_some, true≢false, List, [], ◌∷◌, ◌++◌, length, take, drop, get_or, add-one, refl, sym, ap, ◌∙◌, arith, subst, Some, slice_get}
use Rattle.std.specs.Prelude.{All, Contains, filter, slice_set}
use Rattle.std.proofs.lemmas.Bool.{cases_eq}
use Rattle.std.proofs.lemmas.Bool.Decides.{nat_tests}
use Rattle.std.proofs.lemmas.List.{append-nil, length-take}
use Rattle.std.proofs.lemmas.List.Elements.{All-nil, All-cons, All-get_or, All-head, All-tail, Contains-get_or}
use Rattle.std.proofs.lemmas.Option.{slice_get_read}
use Rattle.gob_tree.specs.declared.graph.Edge.{Edge}
use Rattle.gob_tree.specs.declared.graph.FuncGraph.{FuncGraph}
use Rattle.gob_tree.specs.declared.graph.Program.{Program}
use Rattle.constraint_sys.specs.declared.system.End.{End}
use Rattle.constraint_sys.specs.declared.system.End.TheVariants.{To, From}
use Rattle.constraint_sys.specs.declared.system.System.{System}
use Rattle.constraint_sys.specs.Contribution.{edges_into}
use Rattle.constraint_sys.specs.Index.{IsSystemOf, ends_at, has_end, numbers_into, numbers_where, picked, row_at}
use Rattle.constraint_sys.specs.Table.{edges_at, edges_of_function}
use Rattle.constraint_sys.proofs.Ordered.{drop_read, take_read}

-- the first of what is left
drop_first : (xs : List Edge) (n : ℕ) (e : Edge) (es : List Edge) → drop n xs ≡ e ∷ es → (slice_get xs n ≡ Some e) × (drop (suc n) xs ≡ es)
drop_first [] zero e es is = cc is
drop_first [] (suc n) e es is = cc is
drop_first (x ∷ xs) zero e es is = (let first : x ≡ e = cc is in ap Some first, let rest : xs ≡ es = cc is in rest)
drop_first (x ∷ xs) (suc n) e es is = drop_first xs n e es is

drop_front : (xs : List Edge) (n : ℕ) (e : Edge) (es : List Edge) → drop n xs ≡ e ∷ es → (slice_get xs n ≡ Some e) × (drop (n + 1) xs ≡ es)
drop_front xs n e es is = (let both = drop_first xs n e es is in (both.0, ap (λ (m : ℕ). drop m xs) (add-one n) ∙ both.1))

module _ (test : Edge → Bool) where
  picked_case : (whole : List Edge) (n : ℕ) (e : Edge) (es : List Edge) (b : Bool) → slice_get whole n ≡ Some e → picked whole (numbers_where test (n + 1) es) ≡ filter test es
      → picked whole (cond b (n ∷ numbers_where test (n + 1) es) (numbers_where test (n + 1) es)) ≡ cond b (e ∷ filter test es) (filter test es)
  picked_case whole n e es true at rest = rw (at, rest) refl
  picked_case whole n e es false at rest = rest

  picked_from : (whole : List Edge) (n : ℕ) (es : List Edge) → drop n whole ≡ es → picked whole (numbers_where test n es) ≡ filter test es
  picked_from whole n [] is = refl
  picked_from whole n (e ∷ es) is =
      let front = drop_front whole n e es is in
      picked_case whole n e es (test e) front.0 (picked_from whole (n + 1) es front.1)

  -- the edges with the numbers of those that pass are those that pass
  pub picked_all : (es : List Edge) → picked es (numbers_where test 0 es) ≡ filter test es
  picked_all es = picked_from es 0 es refl

  within_case : (n k : ℕ) (es : List Edge) (b : Bool) → n < k → All (λ m. m < k) (numbers_where test (n + 1) es) → All (λ m. m < k) (cond b (n ∷ numbers_where test (n + 1) es) (numbers_where test (n + 1) es))
  within_case n k es true below rest = All-cons (λ m. m < k) n (numbers_where test (n + 1) es) below rest
  within_case n k es false below rest = rest

  numbers_within : (n k : ℕ) (es : List Edge) → n + length es ≡ k → All (λ m. m < k) (numbers_where test n es)
  numbers_within n k [] room = All-nil (λ m. m < k)
  numbers_within n k (e ∷ es) room = within_case n k es (test e) (omega arith) (numbers_within (n + 1) k es (omega arith))

  pub number_within : (es : List Edge) (i n : ℕ) → i < length (numbers_where test 0 es) → n ≡ get_or (numbers_where test 0 es) i n → n < length es
  number_within es i n within is =
      let one = All-get_or (λ m. m < length es) (numbers_where test 0 es) i n within (numbers_within 0 (length es) es (omega arith)) in
      rw (sym is) at one

  -- one edge more
  snoc_case : (n : ℕ) (es : List Edge) (e x : Edge) (b : Bool) (last : List ℕ) → numbers_where test (n + 1) (es ++ x ∷ []) ≡ numbers_where test (n + 1) es ++ last
      → cond b (n ∷ numbers_where test (n + 1) (es ++ x ∷ [])) (numbers_where test (n + 1) (es ++ x ∷ [])) ≡ cond b (n ∷ numbers_where test (n + 1) es) (numbers_where test (n + 1) es) ++ last
  snoc_case n es e x true last rest = ap (λ (l : List ℕ). n ∷ l) rest
  snoc_case n es e x false last rest = rest

  pub numbers_where-snoc : (n k : ℕ) (es : List Edge) (x : Edge) → n + length es ≡ k → numbers_where test n (es ++ x ∷ []) ≡ numbers_where test n es ++ cond (test x) (k ∷ []) []
  numbers_where-snoc n k [] x room = let same : n ≡ k = omega arith in ap (λ (m : ℕ). cond (test x) (m ∷ []) []) same
  numbers_where-snoc n k (e ∷ es) x room = snoc_case n es e x (test e) (cond (test x) (k ∷ []) []) (numbers_where-snoc (n + 1) k es x (omega arith))

pub picked_step : (es : List Edge) (ns : List ℕ) (i n : ℕ) (e : Edge) → i < length ns → n ≡ get_or ns i n → n < length es → e ≡ get_or es n e → picked es (drop i ns) ≡ e ∷ picked es (drop (i + 1) ns)
picked_step es ns i n e within is inside edge =
    ap (picked es) (drop_read ns i n within is) ∙ (let at : slice_get es n ≡ Some e = slice_get_read es (length es) n e refl inside edge in rw at refl)

pub edge_of : (es : List Edge) (n : ℕ) (e : Edge) → n < length es → e ≡ get_or es n e → Contains es e
edge_of es n e inside is = subst (λ (x : Edge). Contains es x) (sym is) (Contains-get_or es n e inside)

-- ---- the edges into a node, by what a system has of them
pub record IsNumbered (p : Program) (f node : ℕ) (edges : List Edge) (ns : List ℕ) : Type 0 where
  pub edges_are : edges ≡ edges_at p f
  pub numbers_are : ns ≡ numbers_into p f node

pub numbered : (p : Program) (s : System) (f node : ℕ) (function : FuncGraph) (edges : List Edge) (ns : List ℕ) → IsSystemOf p s → slice_get p.funcs f ≡ Some function → edges ≡ function.edges → ns ≡ row_at s.ends f node → IsNumbered p f node edges ns
numbered p s f node function edges ns system at edges_is ns_is = record {
  edges_are = edges_is ∙ sym (ap edges_of_function at);
  numbers_are = ns_is ∙ system.into f node;
}

default_same : (xs : List ℕ) (i d e : ℕ) → i < length xs → get_or xs i d ≡ get_or xs i e
default_same [] i d e within = absurd (omega arith)
default_same (x ∷ xs) zero d e within = refl
default_same (x ∷ xs) (suc i) d e within = default_same xs i d e (omega arith)

module _ (p : Program) (f node : ℕ) (edges : List Edge) (ns : List ℕ) (h : IsNumbered p f node edges ns) where
  numbers_here : ns ≡ numbers_where (ends_at node) 0 edges
  numbers_here = h.numbers_are ∙ ap (numbers_where (ends_at node) 0) (sym h.edges_are)

  pub number_inside : (i n : ℕ) → i < length ns → n ≡ get_or ns i n → n < length edges
  number_inside i n within is =
      number_within (ends_at node) edges i n (subst (λ (l : List ℕ). i < length l) numbers_here within) (is ∙ ap (λ (l : List ℕ). get_or l i n) numbers_here)

  pub edge_member : (n : ℕ) (e : Edge) → n < length edges → e ≡ get_or edges n e → Contains (edges_at p f) e
  edge_member n e inside is = subst (λ (l : List Edge). Contains l e) h.edges_are (edge_of edges n e inside is)

  pub picked_here : picked edges ns ≡ edges_into p f node
  picked_here = ap (picked edges) numbers_here ∙ picked_all (ends_at node) edges ∙ ap (filter (ends_at node)) h.edges_are

  pub picked_next : (i n : ℕ) (e : Edge) → i < length ns → n ≡ get_or ns i n → e ≡ get_or edges n e → picked edges (drop i ns) ≡ e ∷ picked edges (drop (i + 1) ns)
  picked_next i n e within is edge = picked_step edges ns i n e within is (number_inside i n within is) edge

  same_number : (i : ℕ) → i < length ns → get_or ns i 0 ≡ get_or ns i (get_or ns i 0)
  same_number i within = default_same ns i 0 (get_or ns i 0) within

  pub place_inside : (i : ℕ) → i < length ns → get_or ns i 0 < length edges
  place_inside i within = number_inside i (get_or ns i 0) within (same_number i within)

  pub place_next : (i : ℕ) (e : Edge) → i < length ns → e ≡ get_or edges (get_or ns i 0) e → picked edges (drop i ns) ≡ e ∷ picked edges (drop (i + 1) ns)
  place_next i e within edge = picked_next i (get_or ns i 0) e within (same_number i within) edge

-- ---- the rows of an index, one edge more
same_set : (xs : List (List ℕ)) (n : ℕ) (v w : List ℕ) → slice_get xs n ≡ Some w → slice_get (slice_set xs n v) n ≡ Some v
same_set [] n v w at = absurd (true≢false (sym (ap is_some at)))
same_set (x ∷ xs) zero v w at = refl
same_set (x ∷ xs) (suc n) v w at = same_set xs n v w at

other_set : (xs : List (List ℕ)) (n m : ℕ) (v : List ℕ) → m ≢ n → slice_get (slice_set xs n v) m ≡ slice_get xs m
other_set [] n m v other = refl
other_set (x ∷ xs) zero zero v other = absurd (other refl)
other_set (x ∷ xs) zero (suc m) v other = refl
other_set (x ∷ xs) (suc n) zero v other = refl
other_set (x ∷ xs) (suc n) (suc m) v other = other_set xs n m v (λ same. other (ap suc same))

pub length-row_set : (xs : List (List ℕ)) (n : ℕ) (v : List ℕ) → length (slice_set xs n v) ≡ length xs
length-row_set [] n v = refl
length-row_set (x ∷ xs) zero v = refl
length-row_set (x ∷ xs) (suc n) v = ap suc (length-row_set xs n v)

own_number : (n : ℕ) → nat_eq n n ≡ true
own_number n = grind (arith, nat_tests)

off_number : (n m : ℕ) → m ≢ n → nat_eq n m ≡ false
off_number n m other = grind (arith, nat_tests)

take_length : (es : List Edge) (i : ℕ) → i < length es → 0 + length (take i es) ≡ i
take_length es i within = let long = length-take i es in omega (arith, long, within)

module _ (end : End) (edges : List Edge) (rows : List (List ℕ)) (i n : ℕ) (e : Edge) (row : List ℕ) (within : i < length edges) (is : e ≡ get_or edges i e)
    (tells : (node : ℕ) → has_end end node e ≡ nat_eq n node) (at : slice_get rows n ≡ Some row)
    (so_far : (node : ℕ) → node < length rows → slice_get rows node ≡ Some (numbers_where (has_end end node) 0 (take i edges))) where
  longer : (node : ℕ) → numbers_where (has_end end node) 0 (take (i + 1) edges) ≡ numbers_where (has_end end node) 0 (take i edges) ++ cond (has_end end node e) (i ∷ []) []
  longer node = ap (numbers_where (has_end end node) 0) (take_read edges i e within is) ∙ numbers_where-snoc (has_end end node) 0 i (take i edges) e (take_length edges i within)

  pub rows_step : (node : ℕ) → node < length (slice_set rows n (row ++ i ∷ [])) → slice_get (slice_set rows n (row ++ i ∷ [])) node ≡ Some (numbers_where (has_end end node) 0 (take (i + 1) edges))
  rows_step node inside =
      let here : node < length rows = subst (λ (k : ℕ). node < k) (length-row_set rows n (row ++ i ∷ [])) inside in
      elim (cases_eq node n) [
        | inl same ↦
            (let found : Some row ≡ Some (numbers_where (has_end end n) 0 (take i edges)) = sym at ∙ so_far n (subst (λ (k : ℕ). k < length rows) same here) in
            let row_is : row ≡ numbers_where (has_end end n) 0 (take i edges) = cc found in
            let test : has_end end n e ≡ true = tells n ∙ own_number n in
            let whole : row ++ i ∷ [] ≡ numbers_where (has_end end n) 0 (take (i + 1) edges) = ap (λ (l : List ℕ). l ++ i ∷ []) row_is ∙ sym (longer n ∙ ap (λ (b : Bool). numbers_where (has_end end n) 0 (take i edges) ++ cond b (i ∷ []) []) test) in
            subst (λ (k : ℕ). slice_get (slice_set rows n (row ++ i ∷ [])) k ≡ Some (numbers_where (has_end end k) 0 (take (i + 1) edges))) (sym same)
            (same_set rows n (row ++ i ∷ []) row at ∙ ap Some whole))
        | inr other ↦
            (let test : has_end end node e ≡ false = tells node ∙ off_number n node other in
            other_set rows n node (row ++ i ∷ []) other ∙ so_far node here
            ∙ ap Some (sym (longer node ∙ ap (λ (b : Bool). numbers_where (has_end end node) 0 (take i edges) ++ cond b (i ∷ []) []) test ∙ append-nil (numbers_where (has_end end node) 0 (take i edges)))))
      ]

-- no edge ends or begins beyond the nodes
end_is : (end : End) (n k : ℕ) (e : Edge) → has_end end n e ≡ true → e.from < k → e.to < k → n < k
end_is To n k e test from to = let same : e.to ≡ n = grind (arith, nat_tests) in omega (arith, same, to)
end_is From n k e test from to = let same : e.from ≡ n = grind (arith, nat_tests) in omega (arith, same, from)

pub end_within : (end : End) (n k : ℕ) (e : Edge) → ((node : ℕ) → has_end end node e ≡ nat_eq n node) → e.from < k → e.to < k → n < k
end_within end n k e tells from to = end_is end n k e (tells n ∙ own_number n) from to

beyond_case : (end : End) (node k : ℕ) (e : Edge) (b : Bool) → has_end end node e ≡ b → k ≤ node → e.from < k → e.to < k → b ≡ false
beyond_case end node k e false test past from to = refl
beyond_case end node k e true test past from to = absurd (let inside = end_is end node k e test from to in omega (arith, inside, past))

pub numbers_beyond : (end : End) (node k n : ℕ) (es : List Edge) → k ≤ node → All (λ (e : Edge). (e.from < k) × (e.to < k)) es → numbers_where (has_end end node) n es ≡ []
numbers_beyond end node k n [] past within = refl
numbers_beyond end node k n (e ∷ es) past within =
    let here = All-head (λ (x : Edge). (x.from < k) × (x.to < k)) e es within in
    let test : has_end end node e ≡ false = beyond_case end node k e (has_end end node e) refl past here.0 here.1 in
    rw test (numbers_beyond end node k (n + 1) es past (All-tail (λ (x : Edge). (x.from < k) × (x.to < k)) e es within))
