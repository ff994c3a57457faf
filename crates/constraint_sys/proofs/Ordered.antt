-- Lists without regard to order, and lists that ascend, as their elements come and go.
use Rattle.std.proofs.Common.{◌≡◌, ◌≢◌, ℕ, zero, suc, ◌+◌, ◌-◌, ◌<◌, ◌≤◌, ◌⊎◌, ◌↔◌, inl, inr, Bool, true, false, cond, List, [], ◌∷◌, ◌++◌, map, length, take, drop, drop-cons, add-one, get_or, refl, sym, ap, subst, ◌∙◌, arith}
use Rattle.std.specs.Prelude.{Contains, filter, insert, IsSorted}
use Rattle.std.specs.List.{flat_map}
use Rattle.std.specs.Ordering.{is_lt}
use Rattle.std.specs.declared.cmp.Ordering.{Ordering}
use Rattle.std.specs.declared.cmp.Ordering.TheVariants.{Less, Greater}
use Rattle.std.specs.Cmp.{IsTotalOrder}
use Rattle.std.proofs.lemmas.Bool.{cases_eq, cases_lt}
use Rattle.std.proofs.lemmas.List.Edits.{get_or-insert_below, get_or-insert_at, get_or-insert_above, length-insert}
use Rattle.std.proofs.lemmas.List.{take_all, take_more}
use Rattle.std.proofs.lemmas.List.Elements.{Contains-append_cases, Contains-append_left, Contains-append_right}
use Rattle.std.proofs.lemmas.List.Sorted.{IsPermutation-insert, IsPermutation-sym, Contains-permutation}

module _ {X : Type 0} where
  pub Contains-head : (x : X) (xs : List X) → Contains (x ∷ xs) x
  Contains-head x xs = (0, omega arith, refl)

  pub Contains-tail : (x y : X) (xs : List X) → Contains xs y → Contains (x ∷ xs) y
  Contains-tail x y xs (k, within, is) = (suc k, omega arith, is)

  pub Contains-cases : (x y : X) (xs : List X) → Contains (x ∷ xs) y → (y ≡ x) ⊎ Contains xs y
  Contains-cases x y xs (zero, within, is) = inl (sym is)
  Contains-cases x y xs (suc k, within, is) = inr (k, omega arith, is)

  pub Contains-nil : (y : X) → Contains [] y → ⊥
  Contains-nil y (k, within, is) = omega arith

  pub Contains-filtered : (t : X → Bool) (xs : List X) (y : X) → Contains xs y → t y ≡ true → Contains (filter t xs) y
  Contains-filtered t [] y one passes = absurd (Contains-nil y one)
  Contains-filtered t (x ∷ xs) y one passes = elim (Contains-cases x y xs one) [
    | inl same ↦ rw (ap t (sym same) ∙ passes) (subst (λ (z : X). Contains (x ∷ filter t xs) z) (sym same) (Contains-head x (filter t xs)))
    | inr later ↦ by (t x) (Contains-filtered t xs y later passes)
  ]
    where
      by : (b : Bool) → Contains (filter t xs) y → Contains (cond b (x ∷ filter t xs) (filter t xs)) y
      by true rest = Contains-tail x y (filter t xs) rest
      by false rest = rest

  pub Contains-filter : (t : X → Bool) (xs : List X) (y : X) → Contains (filter t xs) y → Contains xs y × (t y ≡ true)
  Contains-filter t [] y one = absurd (Contains-nil y one)
  Contains-filter t (x ∷ xs) y one = by (t x) refl (λ later. Contains-filter t xs y later) one
    where
      by : (b : Bool) → t x ≡ b → (Contains (filter t xs) y → Contains xs y × (t y ≡ true)) → Contains (cond b (x ∷ filter t xs) (filter t xs)) y → Contains (x ∷ xs) y × (t y ≡ true)
      by true passes rest one = elim (Contains-cases x y (filter t xs) one) [
        | inl same ↦ (subst (λ (z : X). Contains (x ∷ xs) z) (sym same) (Contains-head x xs), ap t same ∙ passes)
        | inr later ↦ (Contains-tail x y xs (rest later).0, (rest later).1)
      ]
      by false passes rest one = (Contains-tail x y xs (rest one).0, (rest one).1)

  pub Contains-insert : (xs : List X) (i : ℕ) (y q : X) → Contains (insert xs i y) q ↔ (Contains xs q ⊎ (q ≡ y))
  Contains-insert xs i y q = (
    λ one. elim (Contains-cases y q xs (Contains-permutation (insert xs i y) (y ∷ xs) q (IsPermutation-sym (y ∷ xs) (insert xs i y) (IsPermutation-insert xs i y)) one)) [ inl same ↦ inr same | inr later ↦ inl later ],
    λ either. Contains-permutation (y ∷ xs) (insert xs i y) q (IsPermutation-insert xs i y) (elim either [ inl there ↦ Contains-tail y q xs there | inr same ↦ subst (λ (z : X). Contains (y ∷ xs) z) (sym same) (Contains-head y xs) ]),
  )

module _ {X : Type 0} (cmp : X → X → Ordering) (o : IsTotalOrder cmp) where
  not_lt_above : (x y : X) → cmp x y ≡ Less → is_lt (cmp y x) ≡ false
  not_lt_above x y less = rw (o.antisymm y x, less) refl

  not_lt_greater : (x y : X) → cmp x y ≡ Greater → is_lt (cmp x y) ≡ false
  not_lt_greater x y greater = rw greater refl

  -- an element put between those that are less and those that are greater
  pub IsSorted-insert : (xs : List X) (i : ℕ) (y : X) → IsSorted cmp xs → i ≤ length xs
      → ((k : ℕ) (d : X) → k < i → cmp (get_or xs k d) y ≡ Less) → ((k : ℕ) (d : X) → i ≤ k → k < length xs → cmp (get_or xs k d) y ≡ Greater)
      → IsSorted cmp (insert xs i y)
  IsSorted-insert xs i y sorted at below above k d low before_end =
      let within : k + 1 < length xs + 1 = subst (λ (n : ℕ). k + 1 < n) (length-insert xs i y at) before_end in
      elim (cases_lt k i) [
        | inl before ↦ elim (cases_lt (k + 1) i) [
          | inl both ↦ rw (get_or-insert_below xs i y d k before at, get_or-insert_below xs i y d (k + 1) both at) (sorted k d (omega arith) (omega arith))
          | inr last ↦
              let here : k + 1 ≡ i = omega arith in
              rw (get_or-insert_below xs i y d k before at, here, get_or-insert_at xs i y d at) (not_lt_above _ _ (below k d before))
        ]
        | inr after ↦ elim (cases_eq k i) [
          | inl same ↦ rw (get_or-insert_above xs i y d k after at, same, get_or-insert_at xs i y d at) (not_lt_greater _ _ (above i d (omega arith) (omega arith)))
          | inr beyond ↦
              let shifted : (k - 1) + 1 ≡ k = omega arith in
              let left : get_or (insert xs i y) k d ≡ get_or xs (k - 1) d = subst (λ (n : ℕ). get_or (insert xs i y) n d ≡ get_or xs (k - 1) d) shifted (get_or-insert_above xs i y d (k - 1) (omega arith) at) in
              let step : is_lt (cmp (get_or xs ((k - 1) + 1) d) (get_or xs (k - 1) d)) ≡ false = sorted (k - 1) d (omega arith) (omega arith) in
              rw (get_or-insert_above xs i y d k after at, left) (subst (λ (n : ℕ). is_lt (cmp (get_or xs n d) (get_or xs (k - 1) d)) ≡ false) shifted step)
        ]
      ]

module _ {X : Type 0} where
  pub drop_read : (xs : List X) (i : ℕ) (x : X) → i < length xs → x ≡ get_or xs i x → drop i xs ≡ x ∷ drop (i + 1) xs
  drop_read xs i x within is =
      drop-cons xs i x within ∙ ap (λ (z : X). z ∷ drop (suc i) xs) (sym is) ∙ ap (λ (n : ℕ). x ∷ drop n xs) (sym (add-one i))

  -- the first of what is left goes to what is there
  pub Contains-step : (there left : List X) (x q : X) (rest more : List X) → {A : Type 0} → left ≡ x ∷ rest → Contains more q ↔ (Contains there q ⊎ (q ≡ x)) → ((Contains there q ⊎ Contains left q) ↔ A) → (Contains more q ⊎ Contains rest q) ↔ A
  Contains-step there left x q rest more {A} front step before = (
    λ either. before.0 (elim either [
      | inl one ↦ elim (step.0 one) [ inl old ↦ inl old | inr same ↦ inr (subst (λ (l : List X). Contains l q) (sym front) (subst (λ (z : X). Contains (z ∷ rest) q) same (Contains-head q rest))) ]
      | inr later ↦ inr (subst (λ (l : List X). Contains l q) (sym front) (Contains-tail x q rest later))
    ]),
    λ a. elim (before.1 a) [
      | inl old ↦ inl (step.1 (inl old))
      | inr one ↦ elim (Contains-cases x q rest (subst (λ (l : List X). Contains l q) front one)) [ inl same ↦ inl (step.1 (inr same)) | inr later ↦ inr later ]
    ],
  )

  pub Contains-exchanged : (old kept new more : List X) (done q : X) → Contains new q ↔ (Contains kept q ⊎ Contains more q) → Contains kept q ↔ (Contains old q × (q ≢ done)) → Contains new q ↔ ((Contains old q × (q ≢ done)) ⊎ Contains more q)
  Contains-exchanged old kept new more done q put took = (
    λ one. elim (put.0 one) [ inl left ↦ inl (took.0 left) | inr added ↦ inr added ],
    λ either. put.1 (elim either [ inl left ↦ inl (took.1 left) | inr added ↦ inr added ]),
  )

module _ {X : Type 0} where
  pub take_read : (xs : List X) (i : ℕ) (x : X) → i < length xs → x ≡ get_or xs i x → take (i + 1) xs ≡ take i xs ++ x ∷ []
  take_read xs i x within is = take_more xs i x within ∙ ap (λ (z : X). take i xs ++ z ∷ []) (sym is)

  -- one element more
  pub Contains-push : (xs : List X) (x q : X) → Contains (xs ++ x ∷ []) q ↔ (Contains xs q ⊎ (q ≡ x))
  Contains-push xs x q = (
    λ one. elim (Contains-append_cases xs (x ∷ []) q one) [
      | inl old ↦ inl old
      | inr last ↦ elim (Contains-cases x q [] last) [ inl same ↦ inr same | inr none ↦ absurd (Contains-nil q none) ]
    ],
    λ either. elim either [
      | inl old ↦ Contains-append_left xs (x ∷ []) q old
      | inr same ↦ subst (λ (z : X). Contains (xs ++ x ∷ []) z) (sym same) (Contains-append_right xs (x ∷ []) x (Contains-head x []))
    ],
  )

  pub Contains-take_more : (xs : List X) (i : ℕ) (x q : X) → i < length xs → x ≡ get_or xs i x → Contains (take (i + 1) xs) q ↔ (Contains (take i xs) q ⊎ (q ≡ x))
  Contains-take_more xs i x q within is = subst (λ (l : List X). Contains l q ↔ (Contains (take i xs) q ⊎ (q ≡ x))) (sym (take_read xs i x within is)) (Contains-push (take i xs) x q)

  pub Contains-take_all : (xs : List X) (i : ℕ) (q : X) → length xs ≤ i → Contains (take i xs) q ↔ Contains xs q
  Contains-take_all xs i q past = subst (λ (l : List X). Contains l q ↔ Contains xs q) (sym (take_all i xs past)) (λ one. one, λ one. one)

module _ {Y : Type 0} where
  pub Contains-append : (xs ys : List Y) (y : Y) → Contains (xs ++ ys) y → Contains xs y ⊎ Contains ys y
  Contains-append [] ys y one = inr one
  Contains-append (x ∷ xs) ys y one = elim (Contains-cases x y (xs ++ ys) one) [
    | inl same ↦ inl (subst (λ (z : Y). Contains (x ∷ xs) z) (sym same) (Contains-head x xs))
    | inr later ↦ elim (Contains-append xs ys y later) [ inl left ↦ inl (Contains-tail x y xs left) | inr right ↦ inr right ]
  ]

  pub Contains-left : (xs ys : List Y) (y : Y) → Contains xs y → Contains (xs ++ ys) y
  Contains-left [] ys y one = absurd (Contains-nil y one)
  Contains-left (x ∷ xs) ys y one = elim (Contains-cases x y xs one) [
    | inl same ↦ subst (λ (z : Y). Contains (x ∷ (xs ++ ys)) z) (sym same) (Contains-head x (xs ++ ys))
    | inr later ↦ Contains-tail x y (xs ++ ys) (Contains-left xs ys y later)
  ]

  pub Contains-right : (xs ys : List Y) (y : Y) → Contains ys y → Contains (xs ++ ys) y
  Contains-right [] ys y one = one
  Contains-right (x ∷ xs) ys y one = Contains-tail x y (xs ++ ys) (Contains-right xs ys y one)

module _ {X Y : Type 0} where
  -- an element of a mapped list comes from one of the list
  pub Contains-map : (g : X → Y) (xs : List X) (y : Y) → Contains (map g xs) y → (x : X) × Contains xs x × (y ≡ g x)
  Contains-map g [] y one = absurd (Contains-nil y one)
  Contains-map g (x ∷ xs) y one = elim (Contains-cases (g x) y (map g xs) one) [
    | inl same ↦ (x, Contains-head x xs, same)
    | inr later ↦ (let rest = Contains-map g xs y later in (rest.0, Contains-tail x rest.0 xs rest.1, rest.2))
  ]

  pub Contains-mapped : (g : X → Y) (xs : List X) (x : X) → Contains xs x → Contains (map g xs) (g x)
  Contains-mapped g [] x one = absurd (Contains-nil x one)
  Contains-mapped g (z ∷ xs) x one = elim (Contains-cases z x xs one) [
    | inl same ↦ subst (λ (w : X). Contains (g z ∷ map g xs) (g w)) (sym same) (Contains-head (g z) (map g xs))
    | inr later ↦ Contains-tail (g z) (g x) (map g xs) (Contains-mapped g xs x later)
  ]

  pub Contains-flat_map : (g : X → List Y) (xs : List X) (y : Y) → Contains (flat_map g xs) y → (x : X) × Contains xs x × Contains (g x) y
  Contains-flat_map g [] y one = absurd (Contains-nil y one)
  Contains-flat_map g (x ∷ xs) y one = elim (Contains-append (g x) (flat_map g xs) y one) [
    | inl here ↦ (x, Contains-head x xs, here)
    | inr later ↦ (let rest = Contains-flat_map g xs y later in (rest.0, Contains-tail x rest.0 xs rest.1, rest.2))
  ]

  pub Contains-flat_mapped : (g : X → List Y) (xs : List X) (x : X) (y : Y) → Contains xs x → Contains (g x) y → Contains (flat_map g xs) y
  Contains-flat_mapped g [] x y one inner = absurd (Contains-nil x one)
  Contains-flat_mapped g (z ∷ xs) x y one inner = elim (Contains-cases z x xs one) [
    | inl same ↦ Contains-left (g z) (flat_map g xs) y (subst (λ (w : X). Contains (g w) y) same inner)
    | inr later ↦ Contains-right (g z) (flat_map g xs) y (Contains-flat_mapped g xs x y later inner)
  ]
