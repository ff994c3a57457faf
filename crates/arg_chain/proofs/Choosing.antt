-- The least steps make the least chain.
use Rattle.std.proofs.Common.{nat_eq, take, get_or, ◌≡◌, ◌⊎◌, ◌↔◌, inl, inr, ℕ, ◌+◌, ◌<◌, ◌≤◌, Bool, true, false, cond, nat_lt, List, [], ◌∷◌, ◌++◌, Option, None, Some, length, map, refl, sym, subst, ◌∙◌, ap, arith}
use Rattle.std.specs.Prelude.{Contains}
use Rattle.std.proofs.lemmas.Bool.{cases_eq}
use Rattle.std.proofs.lemmas.Bool.Decides.{nat_tests}
use Rattle.arg_chain.specs.declared.hop.Hop.{Hop}
use Rattle.arg_chain.specs.Walk.{Graph, steps_at, IsWalk, IsDistance, known_at}
use Rattle.arg_chain.specs.Least.{IsRoute, IsUpTo, IsLeastRoute, edges_of}
use Rattle.arg_chain.specs.Choice.{IsTarget, IsEdgeTo, IsLeastOf, IsLeastStep, IsGreedy, CanStep, IsAtRoot, least_with, least_known}
use Rattle.std.proofs.lemmas.List.{take_more}
use Rattle.std.proofs.lemmas.List.Elements.{Contains-push, Contains-push_cases, Contains-append_left}
use Rattle.arg_chain.proofs.Spreading.{option_cases, apart_from, Contains-more}

same_some : (m n : ℕ) → Some m ≡ Some n → m ≡ n
same_some m n e = cc

lesser : (x b : ℕ) → (cond (nat_lt x b) x b ≤ x) × (cond (nat_lt x b) x b ≤ b) × ((cond (nat_lt x b) x b ≡ x) ⊎ (cond (nat_lt x b) x b ≡ b))
lesser x b = by (nat_lt x b) refl
  where
    by : (t : Bool) → nat_lt x b ≡ t → (cond t x b ≤ x) × (cond t x b ≤ b) × ((cond t x b ≡ x) ⊎ (cond t x b ≡ b))
    by true is = (let less : x < b = grind (arith, nat_tests) in (omega arith, omega arith, inl refl))
    by false is = (let more : b ≤ x = grind (arith, nat_tests) in (omega arith, omega arith, inr refl))

pub least_more : (P Q : ℕ → Type 0) (best : Option ℕ) (x : ℕ) (b : Bool) → IsLeastOf P best → ((y : ℕ) → Q y ↔ (P y ⊎ ((y ≡ x) × (b ≡ true)))) → IsLeastOf Q (least_with best x b)
least_more P Q None x true none more = ((more x).1 (inr (refl, refl)), λ y one. elim ((more y).0 one) [ inl old ↦ absurd (none y old) | inr here ↦ omega (arith, here.0) ])
least_more P Q None x false none more = λ y one. elim ((more y).0 one) [ inl old ↦ none y old | inr here ↦ cc (here.1) ]
least_more P Q (Some m) x true least more =
    let at = lesser x m in
    let picked : Q (cond (nat_lt x m) x m) = elim at.2 [
      | inl is ↦ subst Q (sym is) ((more x).1 (inr (refl, refl)))
      | inr is ↦ subst Q (sym is) ((more m).1 (inl least.0))
    ] in
    (picked, λ y one. elim ((more y).0 one) [ inl old ↦ omega (arith, at.1, least.1 y old) | inr here ↦ omega (arith, at.0, here.0) ])
least_more P Q (Some m) x false least more =
    ((more m).1 (inl least.0), λ y one. elim ((more y).0 one) [ inl old ↦ least.1 y old | inr here ↦ cc (here.1) ])

pub least_same : (P Q : ℕ → Type 0) (best : Option ℕ) → ((y : ℕ) → Q y ↔ P y) → IsLeastOf P best → IsLeastOf Q best
least_same P Q None same none = λ y one. none y ((same y).0 one)
least_same P Q (Some m) same least = ((same m).1 least.0, λ y one. least.1 y ((same y).0 one))

module _ (g : Graph) (v : ℕ) (known : List (Option ℕ)) (told : (u n : ℕ) → known_at known u ≡ Some n → IsDistance g v u n) (untold : (u : ℕ) → known_at known u ≡ None → (ss : List Hop) → IsWalk g u ss v → ⊥) where
  -- a vertex with a walk is known, at most so far away
  known_by : (u : ℕ) (ss : List Hop) → IsWalk g u ss v → (n : ℕ) × (known_at known u ≡ Some n) × (n ≤ length ss)
  known_by u ss walk = elim (option_cases (known_at known u)) [
    | inl none ↦ absurd (untold u none ss walk)
    | inr some ↦ (some.0, some.1, (told u some.0 some.1).fewest ss walk)
  ]

  arrived : (u : ℕ) (ss : List Hop) → IsWalk g u ss v → length ss ≡ 0 → u ≡ v
  arrived u [] walk none = walk
  arrived u (s ∷ ss) walk none = absurd (omega arith)

  stepped : (u d : ℕ) (ss : List Hop) → IsWalk g u ss v → length ss ≡ d + 1 → known_at known u ≡ Some (d + 1) → CanStep (steps_at g u) known d
  stepped u d [] walk len is = absurd (omega arith)
  stepped u d (s ∷ ss) walk len is =
      let at = known_by s.to ss walk.1 in
      let rest = (told s.to at.0 at.1).there in
      let fewest : d + 1 ≤ length rest.0 + 1 = omega (arith, (told u (d + 1) is).fewest (s ∷ rest.0) (walk.0, rest.1)) in
      let exact : at.0 ≡ d = omega (arith, at.2, rest.2) in
      (s, walk.0, at.1 ∙ ap Some exact)

  pub can_step : (u d : ℕ) → known_at known u ≡ Some (d + 1) → CanStep (steps_at g u) known d
  can_step u d is = (let there = (told u (d + 1) is).there in stepped u d there.0 there.1 there.2 is)

  greedy_walk : (u : ℕ) (ss : List Hop) → IsGreedy g known u ss → IsWalk g u ss v
  greedy_walk u [] greedy = (let there = (told u 0 greedy).there in arrived u there.0 there.1 there.2)
  greedy_walk u (s ∷ ss) greedy = (greedy.1.one, greedy_walk s.to ss greedy.2)

  greedy_known : (u : ℕ) (ss : List Hop) → IsGreedy g known u ss → known_at known u ≡ Some (length ss)
  greedy_known u [] greedy = greedy
  greedy_known u (s ∷ ss) greedy = greedy.0 ∙ ap Some (omega arith)

  up_to_by_vertices : (u : ℕ) (ss ts : List Hop) → IsGreedy g known u ss → IsWalk g u ts v → length ts ≡ length ss → IsUpTo (map (λ (s : Hop). s.to) ss) (map (λ (s : Hop). s.to) ts)
  up_to_by_vertices u [] ts greedy walk len = tt
  up_to_by_vertices u (s ∷ ss) [] greedy walk len = absurd (omega arith)
  up_to_by_vertices u (s ∷ ss) (t ∷ ts) greedy walk len =
      let at = known_by t.to ts walk.1 in
      let rest = (told t.to at.0 at.1).there in
      let fewest : length ss + 1 ≤ length rest.0 + 1 = omega (arith, (told u (length ss + 1) greedy.0).fewest (t ∷ rest.0) (walk.0, rest.1)) in
      let exact : at.0 ≡ length ss = omega (arith, at.2, rest.2) in
      let up : s.to ≤ t.to = greedy.1.least_to t walk.0 (at.1 ∙ ap Some exact) in
      elim (cases_eq s.to t.to) [
        | inl same ↦ inr (same, up_to_by_vertices s.to ss ts greedy.2 (subst (λ (z : ℕ). IsWalk g z ts v) (sym same) walk.1) (omega arith))
        | inr apart ↦ inl (omega arith)
      ]

  head_same : (x y : ℕ) (xs ys : List ℕ) → ◌≡◌ {A = List ℕ} (x ∷ xs) (y ∷ ys) → x ≡ y
  head_same x y xs ys e = cc

  tail_same : (x y : ℕ) (xs ys : List ℕ) → ◌≡◌ {A = List ℕ} (x ∷ xs) (y ∷ ys) → xs ≡ ys
  tail_same x y xs ys e = cc

  nil_cons : (y : ℕ) (ys : List ℕ) → ◌≡◌ {A = List ℕ} [] (y ∷ ys) → ⊥
  nil_cons y ys e = cc

  up_to_by_edges : (u : ℕ) (ss ts : List Hop) → IsGreedy g known u ss → IsWalk g u ts v → map (λ (s : Hop). s.to) ts ≡ map (λ (s : Hop). s.to) ss → IsUpTo (edges_of ss) (edges_of ts)
  up_to_by_edges u [] ts greedy walk same = tt
  up_to_by_edges u (s ∷ ss) [] greedy walk same = absurd (nil_cons s.to (map (λ (z : Hop). z.to) ss) same)
  up_to_by_edges u (s ∷ ss) (t ∷ ts) greedy walk same =
      let to : t.to ≡ s.to = head_same t.to s.to (map (λ (z : Hop). z.to) ts) (map (λ (z : Hop). z.to) ss) same in
      let up : s.edge ≤ t.edge = greedy.1.least_edge t walk.0 to in
      elim (cases_eq s.edge t.edge) [
        | inl equal ↦ inr (equal, up_to_by_edges s.to ss ts greedy.2 (subst (λ (z : ℕ). IsWalk g z ts v) to walk.1) (tail_same t.to s.to (map (λ (z : Hop). z.to) ts) (map (λ (z : Hop). z.to) ss) same))
        | inr apart ↦ inl (omega arith)
      ]

  pub greedy_is_least : (roots : List ℕ) (root n : ℕ) (ss : List Hop) → IsLeastOf (λ m. (r : ℕ) × Contains roots r × (known_at known r ≡ Some m)) (Some n) → IsLeastOf (IsAtRoot roots known n) (Some root) → IsGreedy g known root ss → length ss ≡ n → IsLeastRoute g roots v root ss
  greedy_is_least roots root n ss nearest first greedy len = record {
    is_chain = record { from_root = first.0.0; walk = greedy_walk root ss greedy };
    shortest = λ other others chain. (let at = known_by other others chain.walk in omega (arith, at.2, nearest.1 at.0 (other, chain.from_root, at.1)));
    vertices = λ other others chain same.
        let at = known_by other others chain.walk in
        let exact : at.0 ≡ n = omega (arith, at.2, nearest.1 at.0 (other, chain.from_root, at.1)) in
        let up : root ≤ other = first.1 other (chain.from_root, at.1 ∙ ap Some exact) in
        elim (cases_eq root other) [
          | inl equal ↦ inr (equal, up_to_by_vertices root ss others greedy (subst (λ (z : ℕ). IsWalk g z others v) (sym equal) chain.walk) same)
          | inr apart ↦ inl (omega arith)
        ];
    edges = λ others walk same. up_to_by_edges root ss others greedy walk (tail_same root root (map (λ (z : Hop). z.to) others) (map (λ (z : Hop). z.to) ss) same);
  }

  pub none_is_none : (roots : List ℕ) → IsLeastOf (λ m. (r : ℕ) × Contains roots r × (known_at known r ≡ Some m)) None → (root : ℕ) (steps : List Hop) → IsRoute g roots v root steps → ⊥
  none_is_none roots none root steps chain = (let at = known_by root steps chain.walk in none at.0 (root, chain.from_root, at.1))

pub known_more : (P Q : ℕ → Type 0) (best o : Option ℕ) → IsLeastOf P best → ((y : ℕ) → Q y ↔ (P y ⊎ (o ≡ Some y))) → IsLeastOf Q (least_known best o)
known_more P Q best None least more = least_same P Q best (λ y. (λ one. elim ((more y).0 one) [ inl old ↦ old | inr here ↦ absurd (apart_from None y refl here) ], λ old. (more y).1 (inl old))) least
known_more P Q best (Some n) least more = least_more P Q best n true least (λ y. (
  λ one. elim ((more y).0 one) [ inl old ↦ inl old | inr here ↦ inr (sym (same_some n y here), refl) ],
  λ either. (more y).1 (elim either [ inl old ↦ inl old | inr here ↦ inr (ap Some (sym here.0)) ]),
))

module _ (roots : List ℕ) (i : ℕ) (within : i < length roots) (known : List (Option ℕ)) where
  pub distances_more : (y : ℕ) → ((r : ℕ) × Contains (take (i + 1) roots) r × (known_at known r ≡ Some y)) ↔ (((r : ℕ) × Contains (take i roots) r × (known_at known r ≡ Some y)) ⊎ (known_at known (get_or roots i 0) ≡ Some y))
  distances_more y = (
    λ one. elim ((Contains-more roots i within one.0).0 one.1) [ inl old ↦ inl (one.0, old, one.2) | inr same ↦ inr (ap (known_at known) (sym same) ∙ one.2) ],
    λ either. elim either [
      | inl old ↦ (old.0, (Contains-more roots i within old.0).1 (inl old.1), old.2)
      | inr here ↦ (get_or roots i 0, (Contains-more roots i within (get_or roots i 0)).1 (inr refl), here)
    ],
  )

  pub roots_more : (n : ℕ) (b : Bool) → (b ≡ true) ↔ (known_at known (get_or roots i 0) ≡ Some n) → (y : ℕ) → IsAtRoot (take (i + 1) roots) known n y ↔ (IsAtRoot (take i roots) known n y ⊎ ((y ≡ get_or roots i 0) × (b ≡ true)))
  roots_more n b test y = (
    λ one. elim ((Contains-more roots i within y).0 one.0) [ inl old ↦ inl (old, one.1) | inr same ↦ inr (same, test.1 (ap (known_at known) (sym same) ∙ one.1)) ],
    λ either. elim either [
      | inl old ↦ ((Contains-more roots i within y).1 (inl old.0), old.1)
      | inr here ↦ ((Contains-more roots i within y).1 (inr here.0), ap (known_at known) here.0 ∙ test.0 here.1)
    ],
  )

module _ (steps : List Hop) (i : ℕ) (s : Hop) (within : i < length steps) (is : s ≡ get_or steps i s) where
  step_more : (t : Hop) → Contains (take (i + 1) steps) t ↔ (Contains (take i steps) t ⊎ (t ≡ s))
  step_more t =
      let more : take (i + 1) steps ≡ take i steps ++ s ∷ [] = take_more steps i s within ∙ ap (λ (z : Hop). take i steps ++ z ∷ []) (sym is) in
      subst (λ (l : List Hop). Contains l t ↔ (Contains (take i steps) t ⊎ (t ≡ s))) (sym more) (
        λ one. elim (Contains-push_cases (take i steps) s t one) [ inl old ↦ inl old | inr same ↦ inr (sym same) ],
        λ either. elim either [
          | inl old ↦ Contains-append_left (take i steps) (s ∷ []) t old
          | inr same ↦ subst (λ (z : Hop). Contains (take i steps ++ s ∷ []) z) (sym same) (Contains-push (take i steps) s)
        ],
      )

  pub targets_more : (known : List (Option ℕ)) (d : ℕ) (b : Bool) → (b ≡ true) ↔ (known_at known s.to ≡ Some d) → (y : ℕ) → IsTarget (take (i + 1) steps) known d y ↔ (IsTarget (take i steps) known d y ⊎ ((y ≡ s.to) × (b ≡ true)))
  targets_more known d b test y = (
    λ one. elim ((step_more one.0).0 one.1) [
      | inl old ↦ inl (one.0, old, one.2, one.3)
      | inr same ↦ (let to : y ≡ s.to = sym one.2 ∙ ap (λ (z : Hop). z.to) same in inr (to, test.1 (ap (known_at known) (sym to) ∙ one.3)))
    ],
    λ either. elim either [
      | inl old ↦ (old.0, (step_more old.0).1 (inl old.1), old.2, old.3)
      | inr here ↦ (s, (step_more s).1 (inr refl), sym here.0, ap (known_at known) here.0 ∙ test.0 here.1)
    ],
  )

  pub edges_more : (to : ℕ) (b : Bool) → (b ≡ true) ↔ (s.to ≡ to) → (y : ℕ) → IsEdgeTo (take (i + 1) steps) to y ↔ (IsEdgeTo (take i steps) to y ⊎ ((y ≡ s.edge) × (b ≡ true)))
  edges_more to b test y = (
    λ one. elim ((step_more one.0).0 one.1) [
      | inl old ↦ inl (one.0, old, one.2, one.3)
      | inr same ↦ inr (sym one.3 ∙ ap (λ (z : Hop). z.edge) same, test.1 (ap (λ (z : Hop). z.to) (sym same) ∙ one.2))
    ],
    λ either. elim either [
      | inl old ↦ (old.0, (step_more old.0).1 (inl old.1), old.2, old.3)
      | inr here ↦ (s, (step_more s).1 (inr refl), test.0 here.1, sym here.0)
    ],
  )

pub step_is_least : (steps : List Hop) (known : List (Option ℕ)) (d : ℕ) (s : Hop) → IsLeastOf (IsTarget steps known d) (Some s.to) → IsLeastOf (IsEdgeTo steps s.to) (Some s.edge) → IsLeastStep steps known d s
step_is_least steps known d s target edge =
    let found = edge.0 in
    let same : found.0 ≡ s = λ i. record { edge = found.3 i; to = found.2 i } in
    record {
      one = subst (λ (z : Hop). Contains steps z) same found.1;
      near = target.0.3;
      least_to = λ t one near. target.1 t.to (t, one, refl, near);
      least_edge = λ t one to. edge.1 t.edge (t, one, to, refl);
    }

pub same_test : (m n : ℕ) → (nat_eq m n ≡ true) ↔ (m ≡ n)
same_test m n = (to m n, back m n)
  where
    to : (m n : ℕ) → nat_eq m n ≡ true → m ≡ n
    to m n test = grind (arith, nat_tests)

    back : (m n : ℕ) → m ≡ n → nat_eq m n ≡ true
    back m n same = grind (arith, nat_tests)
