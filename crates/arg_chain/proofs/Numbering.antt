-- Contexts as they get their numbers.
use Rattle.std.proofs.Common.{◌≡◌, ◌≢◌, ◌⊎◌, inl, inr, ℕ, ◌+◌, ◌<◌, ◌≤◌, List, [], None, Some, refl, sym, ap, ◌∙◌, arith}
use Rattle.std.specs.Prelude.{slice_get}
use Rattle.std.proofs.lemmas.Bool.{cases_eq, cases_lt}
use Rattle.std.specs.Map.{lookup}
use Rattle.std.proofs.lemmas.Option.{none-some, same_Some}
use Rattle.arg_graph.specs.Graphs.{vertex_eq}
use Rattle.arg_graph.specs.declared.vertex.Vertex.{Vertex}
use Rattle.arg_graph.proofs.VertexLemmas.{cases_vertex}
use Rattle.arg_chain.specs.Calls.{AreInBlocks, IsNumbered, context_of, number_in}
use Rattle.arg_chain.specs.Chains.{IsFellow}

-- ---- fellows have one context
pub same_context : (v w : Vertex) → IsFellow v w → context_of v ≡ context_of w
same_context v w fellow = λ i. record { func = fellow.0 i; key = fellow.1 i; node = 0 }

pub same_number : (numbers : List (Vertex × ℕ)) (v w : Vertex) → IsFellow v w → number_in numbers v ≡ number_in numbers w
same_number numbers v w fellow = ap (number_in numbers) (same_context v w fellow)

pub fellows_turned : (v w : Vertex) → IsFellow v w → IsFellow w v
fellows_turned v w fellow = (sym fellow.0, sym fellow.1)

pub fellows_through : (u v w : Vertex) → IsFellow u v → IsFellow v w → IsFellow u w
fellows_through u v w first second = (first.0 ∙ second.0, first.1 ∙ second.1)

pub fellows_of_context : (v w : Vertex) → context_of v ≡ context_of w → IsFellow v w
fellows_of_context v w same = (ap (λ (x : Vertex). x.func) same, ap (λ (x : Vertex). x.key) same)

-- ---- the number of one vertex more: that of its context, or a new one
pub record IsTaken (old : List (Vertex × ℕ)) (count : ℕ) (v : Vertex) (k : ℕ) (new : List (Vertex × ℕ)) : Type 0 where
  pub here : number_in new v ≡ Some k
  pub kept : (w : Vertex) (l : ℕ) → number_in old w ≡ Some l → number_in new w ≡ Some l
  pub cases : (w : Vertex) (l : ℕ) → number_in new w ≡ Some l → (number_in old w ≡ Some l) ⊎ ((l ≡ k) × (k ≡ count) × IsFellow v w)
  pub origin : (number_in old v ≡ Some k) ⊎ (k ≡ count)

pub numbered_none : (vs : List Vertex) → IsNumbered vs 0 [] 0
numbered_none vs = record {
  each = λ i v before at. absurd (omega arith);
  only = λ v k is. absurd (nothing k is);
  apart = λ v w k first second. absurd (nothing k first);
  in_order = λ i j v w k l before up at_i at_j first second. absurd (omega arith);
}
  where
    nothing : (k : ℕ) → None ≡ Some k → ⊥
    nothing k e = cc

-- the number that is there already
pub taken_known : (numbers : List (Vertex × ℕ)) (count : ℕ) (v : Vertex) (k : ℕ) → number_in numbers v ≡ Some k → IsTaken numbers count v k numbers
taken_known numbers count v k known = record { here = known; kept = λ w l is. is; cases = λ w l is. inl is; origin = inl known }

-- the next number
pub taken_new : (numbers numbers' : List (Vertex × ℕ)) (count : ℕ) (v : Vertex) → number_in numbers v ≡ None → lookup (vertex_eq (context_of v)) numbers' ≡ Some count
    → ((q : Vertex) → q ≢ context_of v → lookup (vertex_eq q) numbers' ≡ lookup (vertex_eq q) numbers) → IsTaken numbers count v count numbers'
taken_new numbers numbers' count v none here others = record {
  here = here;
  kept = λ w l is. elim (cases_vertex (context_of w) (context_of v)) [
    | inl same ↦ absurd (none-some l (sym none ∙ ap (λ (q : Vertex). lookup (vertex_eq q) numbers) (sym same) ∙ is))
    | inr apart ↦ others (context_of w) apart ∙ is
  ];
  cases = λ w l is. elim (cases_vertex (context_of w) (context_of v)) [
    | inl same ↦ inr (same_Some l count (sym is ∙ ap (λ (q : Vertex). lookup (vertex_eq q) numbers') same ∙ here), refl, fellows_of_context v w (sym same))
    | inr apart ↦ inl (sym (others (context_of w) apart) ∙ is)
  ];
  origin = inr refl;
}

module _ (vs : List Vertex) (blocks : AreInBlocks vs) (n : ℕ) (v : Vertex) (at : slice_get vs n ≡ Some v) (numbers numbers' : List (Vertex × ℕ)) (count count' k : ℕ) where
  pub numbered_more : IsNumbered vs n numbers count → IsTaken numbers count v k numbers' → k < count' → count ≤ count' → IsNumbered vs (n + 1) numbers' count'
  numbered_more it taken low long = record {
    each = each;
    only = λ w l is. elim (taken.cases w l is) [
      | inl old ↦ (let one = it.only w l old in (omega (arith, one.0), (one.1.0, one.1.1, omega (arith, one.1.2), one.1.3, one.1.4)))
      | inr new ↦ (omega (arith, new.0), (n, v, omega arith, at, new.2))
    ];
    apart = λ w x l first second. elim (taken.cases w l first) [
      | inl old ↦ elim (taken.cases x l second) [
        | inl both ↦ it.apart w x l old both
        | inr new ↦ absurd (omega (arith, (it.only w l old).0, new.0, new.1))
      ]
      | inr new ↦ elim (taken.cases x l second) [
        | inl old ↦ absurd (omega (arith, (it.only x l old).0, new.0, new.1))
        | inr both ↦ fellows_through w v x (fellows_turned v w new.2) both.2
      ]
    ];
    in_order = in_order;
  }
    where
      one_vertex : (w : Vertex) → slice_get vs n ≡ Some w → v ≡ w
      one_vertex w is = same_Some v w (sym at ∙ is)

      each : (i : ℕ) (w : Vertex) → i < n + 1 → slice_get vs i ≡ Some w → (l : ℕ) × (number_in numbers' w ≡ Some l)
      each i w before at_i = elim (cases_eq i n) [
        | inl last ↦ (let same : v ≡ w = one_vertex w (sym (ap (slice_get vs) last) ∙ at_i) in (k, ap (number_in numbers') (sym same) ∙ taken.here))
        | inr apart ↦ (let old = it.each i w (omega arith) at_i in (old.0, taken.kept w old.0 old.1))
      ]

      -- an earlier vertex has had its number before
      earlier : (i : ℕ) (w : Vertex) (l : ℕ) → i < n → slice_get vs i ≡ Some w → number_in numbers' w ≡ Some l → number_in numbers w ≡ Some l
      earlier i w l before at_i is =
          let old = it.each i w before at_i in
          old.1 ∙ ap Some (same_Some old.0 l (sym (taken.kept w old.0 old.1) ∙ is))

      up_to_last : (i : ℕ) (w : Vertex) (l : ℕ) → i < n → slice_get vs i ≡ Some w → number_in numbers w ≡ Some l → l ≤ k
      up_to_last i w l before at_i is = elim taken.origin [
        | inr new ↦ omega (arith, (it.only w l is).0)
        | inl known ↦
            let first = (it.only v k known).1 in
            let number : number_in numbers first.1 ≡ Some k = same_number numbers first.1 v first.4 ∙ known in
            elim (cases_lt first.0 i) [
              | inl after ↦
                  let fellow : IsFellow first.1 w = blocks first.0 i n first.1 w v (omega arith) (omega arith) first.3 at_i at first.4 in
                  let same : k ≡ l = same_Some k l (sym number ∙ same_number numbers first.1 w fellow ∙ is) in
                  omega arith
              | inr not_after ↦ it.in_order i first.0 w first.1 l k first.2 not_after at_i first.3 is number
            ]
      ]

      in_order : (i j : ℕ) (w x : Vertex) (a b : ℕ) → j < n + 1 → i ≤ j → slice_get vs i ≡ Some w → slice_get vs j ≡ Some x → number_in numbers' w ≡ Some a → number_in numbers' x ≡ Some b → a ≤ b
      in_order i j w x a b before up at_i at_j first second = elim (cases_eq j n) [
        | inr apart ↦ it.in_order i j w x a b (omega arith) up at_i at_j (earlier i w a (omega arith) at_i first) (earlier j x b (omega arith) at_j second)
        | inl last ↦
            let same : v ≡ x = one_vertex x (sym (ap (slice_get vs) last) ∙ at_j) in
            let b_is : b ≡ k = same_Some b k (sym second ∙ ap (number_in numbers') (sym same) ∙ taken.here) in
            elim (cases_eq i n) [
              | inl both ↦
                  let one : v ≡ w = one_vertex w (sym (ap (slice_get vs) both) ∙ at_i) in
                  let a_is : a ≡ k = same_Some a k (sym first ∙ ap (number_in numbers') (sym one) ∙ taken.here) in
                  omega arith
              | inr less ↦ (let low' : a ≤ k = up_to_last i w a (omega arith) at_i (earlier i w a (omega arith) at_i first) in omega arith)
            ]
      ]
