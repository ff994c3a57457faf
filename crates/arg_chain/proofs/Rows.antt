-- Rows of hops as they get more.
use Rattle.std.proofs.Common.{◌≡◌, ◌⊎◌, ◌↔◌, inl, inr, ℕ, zero, suc, ◌+◌, ◌<◌, ◌≤◌, List, [], ◌∷◌, ◌++◌, Option, None, Some, length, set, take, get_or, refl, sym, subst, ◌∙◌, ap, arith}
use Rattle.std.specs.Prelude.{Contains, slice_get}
use Rattle.std.specs.Global.{Vec}
use Rattle.std.specs.List.{flat_map}
use Rattle.std.proofs.lemmas.Bool.{cases_eq}
use Rattle.std.proofs.lemmas.Option.{same_Some, slice_get_past, slice_get_read}
use Rattle.std.proofs.lemmas.List.Elements.{Contains-push, Contains-push_cases, Contains-append_left}
use Rattle.std.proofs.lemmas.List.{take_all}
use Rattle.gob_tree.specs.declared.graph.Program.{Program}
use Rattle.constraint_sys.proofs.Ordered.{Contains-cases, Contains-flat_map, Contains-flat_mapped, Contains-head, Contains-nil, Contains-take_more}
use Rattle.arg_graph.specs.declared.vertex.Label.{Label}
use Rattle.arg_graph.specs.declared.vertex.Label.TheVariants.{Do, Over, Enter, Thread, Leave}
use Rattle.arg_graph.specs.declared.vertex.Step.{Step}
use Rattle.arg_graph.specs.declared.vertex.Vertex.{Vertex}
use Rattle.arg_chain.specs.declared.hop.Hop.{Hop}
use Rattle.arg_chain.specs.Calls.{HasMore, IsCall, IsHopToMember, IsRootBy, IsRootNumber, hop_by, hop_into, hop_of, hop_of_label, number_in}
use Rattle.arg_chain.specs.Walk.{Graph, items_of, steps_at}

row_set_other : (g : Graph) (u a : ℕ) (row : Vec Hop) → (a ≡ u → ⊥) → slice_get (set g u row) a ≡ slice_get g a
row_set_other [] u a row apart = refl
row_set_other (r ∷ rs) zero zero row apart = absurd (apart refl)
row_set_other (r ∷ rs) zero (suc a) row apart = refl
row_set_other (r ∷ rs) (suc u) zero row apart = refl
row_set_other (r ∷ rs) (suc u) (suc a) row apart = row_set_other rs u a row (λ same. apart (ap suc same))

row_set_same : (g : Graph) (u : ℕ) (row : Vec Hop) → u < length g → slice_get (set g u row) u ≡ Some row
row_set_same [] u row within = absurd (omega arith)
row_set_same (r ∷ rs) zero row within = refl
row_set_same (r ∷ rs) (suc u) row within = row_set_same rs u row (omega arith)

-- a hop pushed to a row
pub hop_pushed : (g : Graph) (from : ℕ) (hop : Hop) (old new : Vec Hop) → from < length g → old ≡ get_or g from old → new.items ≡ old.items ++ hop ∷ [] → HasMore g (set g from new) (λ j h. (j ≡ from) × (h ≡ hop))
hop_pushed g from hop old new within is pushed j h = elim (cases_eq j from) [
  | inl same ↦
      let before : steps_at g j ≡ old.items = ap (steps_at g) same ∙ ap items_of (slice_get_read g (length g) from old refl within is) in
      let after : steps_at (set g from new) j ≡ old.items ++ hop ∷ [] = ap (steps_at (set g from new)) same ∙ ap items_of (row_set_same g from new within) ∙ pushed in (
        λ one. elim (Contains-push_cases old.items hop h (subst (λ (l : List Hop). Contains l h) after one)) [
          | inl there ↦ inl (subst (λ (l : List Hop). Contains l h) (sym before) there)
          | inr last ↦ inr (same, sym last)
        ],
        λ either. subst (λ (l : List Hop). Contains l h) (sym after) (elim either [
          | inl there ↦ Contains-append_left old.items (hop ∷ []) h (subst (λ (l : List Hop). Contains l h) before there)
          | inr last ↦ subst (λ (z : Hop). Contains (old.items ++ hop ∷ []) z) (sym last.1) (Contains-push old.items hop)
        ]),
      )
  | inr apart ↦
      let kept : steps_at (set g from new) j ≡ steps_at g j = ap items_of (row_set_other g from j new apart) in (
        λ one. inl (subst (λ (l : List Hop). Contains l h) kept one),
        λ either. elim either [ inl there ↦ subst (λ (l : List Hop). Contains l h) (sym kept) there | inr last ↦ absurd (apart last.0) ],
      )
]

-- a row at the end
pub row_kept : (g : Graph) (row : Vec Hop) (j : ℕ) → j < length g → steps_at (g ++ row ∷ []) j ≡ steps_at g j
row_kept [] row j within = absurd (omega arith)
row_kept (r ∷ rs) row zero within = refl
row_kept (r ∷ rs) row (suc j) within = row_kept rs row j (omega arith)

pub row_last : (g : Graph) (row : Vec Hop) → steps_at (g ++ row ∷ []) (length g) ≡ row.items
row_last [] row = refl
row_last (r ∷ rs) row = row_last rs row

pub row_empty : (g : Graph) (row : Vec Hop) → row.items ≡ [] → (j : ℕ) → steps_at (g ++ row ∷ []) j ≡ steps_at g j
row_empty [] row is zero = is
row_empty [] row is (suc j) = refl
row_empty (r ∷ rs) row is zero = refl
row_empty (r ∷ rs) row is (suc j) = row_empty rs row is j

pub steps_past : (g : Graph) (j : ℕ) → length g ≤ j → steps_at g j ≡ []
steps_past g j past = ap items_of (slice_get_past g j past)

-- ---- hops to members, vertex by vertex
module _ (vs : List Vertex) (numbers : List (Vertex × ℕ)) (count i : ℕ) (v : Vertex) (at : slice_get vs i ≡ Some v) where
  pub no_member_more : number_in numbers v ≡ None → (j : ℕ) (h : Hop) → IsHopToMember vs (i + 1) numbers count j h → IsHopToMember vs i numbers count j h
  no_member_more none j h one = elim (cases_eq one.0 i) [
    | inl last ↦
        let same : v ≡ one.1 = same_Some v one.1 (sym at ∙ ap (slice_get vs) (sym last) ∙ one.3) in
        absurd (none_some one.4.0 (sym none ∙ ap (number_in numbers) same ∙ one.4.1))
    | inr apart ↦ (one.0, one.1, omega (arith, one.2), one.3, one.4)
  ]
    where
      none_some : (k : ℕ) → None ≡ Some k → ⊥
      none_some k e = cc

  pub member_later : (j : ℕ) (h : Hop) → IsHopToMember vs i numbers count j h → IsHopToMember vs (i + 1) numbers count j h
  member_later j h one = (one.0, one.1, omega (arith, one.2), one.3, one.4)

  pub same_members : (old new : Graph) → number_in numbers v ≡ None → HasMore old new (IsHopToMember vs i numbers count) → HasMore old new (IsHopToMember vs (i + 1) numbers count)
  same_members old new none more j h = (
    λ one. elim ((more j h).0 one) [ inl before ↦ inl before | inr here ↦ inr (member_later j h here) ],
    λ either. (more j h).1 (elim either [ inl before ↦ inl before | inr here ↦ inr (no_member_more none j h here) ]),
  )

  pub one_member_more : (old mid new : Graph) (k : ℕ) → number_in numbers v ≡ Some k → HasMore old mid (IsHopToMember vs i numbers count) → HasMore mid new (λ j h. (j ≡ count + k) × (h ≡ hop_by 0 i)) → HasMore old new (IsHopToMember vs (i + 1) numbers count)
  one_member_more old mid new k known more last j h = (
    λ one. elim ((last j h).0 one) [
      | inl before ↦ elim ((more j h).0 before) [ inl first ↦ inl first | inr here ↦ inr (member_later j h here) ]
      | inr here ↦ inr (i, v, omega arith, at, (k, known, here.0, here.1))
    ],
    λ either. (last j h).1 (elim either [
      | inl before ↦ inl ((more j h).1 (inl before))
      | inr one ↦ elim (cases_eq one.0 i) [
        | inl is_last ↦
            let same : v ≡ one.1 = same_Some v one.1 (sym at ∙ ap (slice_get vs) (sym is_last) ∙ one.3) in
            let number : k ≡ one.4.0 = same_Some k one.4.0 (sym known ∙ ap (number_in numbers) same ∙ one.4.1) in
            inr (one.4.2 ∙ ap (λ (n : ℕ). count + n) (sym number), one.4.3 ∙ ap (hop_by 0) is_last)
        | inr apart ↦ inl ((more j h).1 (inr (one.0, one.1, omega (arith, one.2), one.3, one.4)))
      ]
    ]),
  )

pub no_members : (vs : List Vertex) (numbers : List (Vertex × ℕ)) (count : ℕ) (rows : Graph) → HasMore rows rows (IsHopToMember vs 0 numbers count)
no_members vs numbers count rows j h = (λ one. inl one, λ either. elim either [ inl one ↦ one | inr none ↦ absurd (omega (arith, none.2)) ])

-- ---- hops by Enter
into_is : (count edge : ℕ) (o : Option ℕ) (h : Hop) → Contains (hop_into count edge o) h → (k : ℕ) × (o ≡ Some k) × (h ≡ hop_by edge (count + k))
into_is count edge None h one = absurd (Contains-nil h one)
into_is count edge (Some k) h one = elim (Contains-cases (hop_by edge (count + k)) h [] one) [ inl same ↦ (k, refl, same) | inr none ↦ absurd (Contains-nil h none) ]

label_is : (numbers : List (Vertex × ℕ)) (count : ℕ) (label : Label) (to : Vertex) (h : Hop) → Contains (hop_of_label numbers count label to) h → (label ≡ Enter h.edge) × ((k : ℕ) × (number_in numbers to ≡ Some k) × (h.to ≡ count + k))
label_is numbers count (Do n) to h one = absurd (Contains-nil h one)
label_is numbers count (Over n) to h one = absurd (Contains-nil h one)
label_is numbers count (Enter n) to h one =
    let is = into_is count n (number_in numbers to) h one in
    (ap Enter (sym (ap (λ (x : Hop). x.edge) is.2)), (is.0, is.1, ap (λ (x : Hop). x.to) is.2))
label_is numbers count (Thread n) to h one = absurd (Contains-nil h one)
label_is numbers count Leave to h one = absurd (Contains-nil h one)

entered : (numbers : List (Vertex × ℕ)) (count edge : ℕ) (to : Vertex) (k : ℕ) → number_in numbers to ≡ Some k → Contains (hop_of numbers count (record { label = Enter edge; to = to })) (hop_by edge (count + k))
entered numbers count edge to k known = subst (λ (o : Option ℕ). Contains (hop_into count edge o) (hop_by edge (count + k))) (sym known) (Contains-head (hop_by edge (count + k)) [])

pub calls_are : (numbers : List (Vertex × ℕ)) (count : ℕ) (steps : List Step) (h : Hop) → Contains (flat_map (hop_of numbers count) steps) h ↔ IsCall numbers count steps h
calls_are numbers count steps h = (
  λ one.
      let from = Contains-flat_map (hop_of numbers count) steps h one in
      let is = label_is numbers count from.0.label from.0.to h from.2 in
      let same : from.0 ≡ record { label = Enter h.edge; to = from.0.to } = λ i. record { label = is.0 i; to = from.0.to } in
      (from.0.to, subst (λ (s : Step). Contains steps s) same from.1, is.1),
  λ call.
      let same : h ≡ hop_by h.edge (count + call.2.0) = λ i. record { edge = h.edge; to = call.2.2 i } in
      subst (λ (x : Hop). Contains (flat_map (hop_of numbers count) steps) x) (sym same)
      (Contains-flat_mapped (hop_of numbers count) steps (record { label = Enter h.edge; to = call.0 }) (hop_by h.edge (count + call.2.0)) call.1 (entered numbers count h.edge call.0 call.2.0 call.2.1)),
)

-- ---- roots, vertex by vertex
module _ (p : Program) (vs : List Vertex) (numbers : List (Vertex × ℕ)) (count : ℕ) where
  pub roots_more : (i : ℕ) (v : Vertex) → i < length vs → v ≡ get_or vs i v → (old new : List ℕ) (r : ℕ) → Contains new r ↔ (Contains old r ⊎ IsRootBy p numbers count v r) → Contains old r ↔ IsRootNumber p (take i vs) count numbers r → Contains new r ↔ IsRootNumber p (take (i + 1) vs) count numbers r
  roots_more i v within is old new r pushed before = (
    λ one. elim (pushed.0 one) [
      | inl there ↦ (let root = before.0 there in (root.0, (Contains-take_more vs i v root.0 within is).1 (inl root.1), root.2))
      | inr here ↦ (v, (Contains-take_more vs i v v within is).1 (inr refl), here)
    ],
    λ root. pushed.1 (elim ((Contains-take_more vs i v root.0 within is).0 root.1) [
      | inl there ↦ inl (before.1 (root.0, there, root.2))
      | inr same ↦ inr (subst (λ (w : Vertex). IsRootBy p numbers count w r) same root.2)
    ]),
  )

  pub roots_all : (i : ℕ) → length vs ≤ i → (roots : List ℕ) (r : ℕ) → Contains roots r ↔ IsRootNumber p (take i vs) count numbers r → Contains roots r ↔ IsRootNumber p vs count numbers r
  roots_all i past roots r before = subst (λ (l : List Vertex). Contains roots r ↔ IsRootNumber p l count numbers r) (take_all i vs past) before
