-- A list in order is the one list in order of its elements.
use Rattle.std.proofs.Common.{◌≡◌, ℕ, suc, ◌+◌, Bool, true, false, cond, List, [], ◌∷◌, get_or, refl, sym, ap, subst, ◌∙◌, arith, true≢false, rules}
use Rattle.std.specs.Prelude.{IsSorted, IsPermutation, sum_by}
use Rattle.std.specs.Ordering.{is_lt, is_eq, ordering_reverse}
use Rattle.std.specs.declared.cmp.Ordering.{Ordering}
use Rattle.std.specs.declared.cmp.Ordering.TheVariants.{Less, Equal, Greater}
use Rattle.std.proofs.lemmas.List.Sorted.{sum_by-IsPermutation}
use Rattle.std.proofs.lemmas.List.Sums.{sum_by-cons}
use Rattle.constraint_sys.specs.contracts.unknown.UnknownOrd.TheImpl.Laws.{total-law, matches_eq-law}
use Rattle.constraint_sys.specs.declared.unknown.Unknown.{Unknown}
use Rattle.constraint_sys.specs.Table.{unknown_cmp, unknown_eq}
use Rattle.constraint_sys.specs.UnknownOrder.{put_in_order, in_unknown_order}

less_is : (r : Ordering) → is_lt r ≡ true → r ≡ Less
less_is Less h = refl
less_is Equal h = absurd (true≢false (sym h))
less_is Greater h = absurd (true≢false (sym h))

is_own_reverse : (r : Ordering) → r ≡ ordering_reverse r → r ≡ Equal
is_own_reverse Less h = absurd (true≢false (ap is_lt h))
is_own_reverse Equal h = refl
is_own_reverse Greater h = absurd (true≢false (sym (ap is_lt h)))

cmp_itself : (u : Unknown) → unknown_cmp u u ≡ Equal
cmp_itself u = is_own_reverse (unknown_cmp u u) (total-law.antisymm u u)

not_below_if_greater : (x y : Unknown) → unknown_cmp x y ≡ Less → is_lt (unknown_cmp y x) ≡ false
not_below_if_greater x y less = rw (total-law.antisymm y x, less) refl

-- x is below y, and y isn't above z
below_all : (x y z : Unknown) → unknown_cmp x y ≡ Less → is_lt (unknown_cmp z y) ≡ false → unknown_cmp x z ≡ Less
below_all x y z less not_below = by (unknown_cmp z y) refl
  where
    by : (r : Ordering) → unknown_cmp z y ≡ r → unknown_cmp x z ≡ Less
    by Less h = absurd (true≢false (ap is_lt (sym h) ∙ not_below))
    by Equal h = total-law.antisymm x z ∙ ap ordering_reverse (total-law.congr z y x h ∙ total-law.antisymm y x ∙ ap ordering_reverse less)
    by Greater h = total-law.trans x y z less (total-law.antisymm y z ∙ ap ordering_reverse h)

not_below_further : (x y z : Unknown) → is_lt (unknown_cmp y x) ≡ false → is_lt (unknown_cmp z y) ≡ false → is_lt (unknown_cmp z x) ≡ false
not_below_further x y z first second = by (is_lt (unknown_cmp z x)) refl
  where
    by : (b : Bool) → is_lt (unknown_cmp z x) ≡ b → is_lt (unknown_cmp z x) ≡ false
    by false h = h
    by true h = absurd (true≢false (ap is_lt (sym (below_all z x y (less_is (unknown_cmp z x) h) first)) ∙ second))

-- none of the list is below u
abbrev NoneBelow : Unknown → List Unknown → Type 0
NoneBelow u [] = Unit {0}
NoneBelow u (v ∷ vs) = (is_lt (unknown_cmp v u) ≡ false) × NoneBelow u vs

abbrev Ascends : List Unknown → Type 0
Ascends [] = Unit {0}
Ascends (u ∷ us) = NoneBelow u us × Ascends us

none_below_further : (x y : Unknown) (vs : List Unknown) → is_lt (unknown_cmp y x) ≡ false → NoneBelow y vs → NoneBelow x vs
none_below_further x y [] first none = tt
none_below_further x y (v ∷ vs) first none = (not_below_further x y v first none.0, none_below_further x y vs first none.1)

none_below_put : (x u : Unknown) (vs : List Unknown) → is_lt (unknown_cmp u x) ≡ false → NoneBelow x vs → NoneBelow x (put_in_order u vs)
none_below_put x u [] first none = (first, tt)
none_below_put x u (v ∷ vs) first none = by (is_lt (unknown_cmp v u)) (none_below_put x u vs first none.1)
  where
    by : (b : Bool) → NoneBelow x (put_in_order u vs) → NoneBelow x (cond b (v ∷ put_in_order u vs) (u ∷ v ∷ vs))
    by true rest = (none.0, rest)
    by false rest = (first, none)

ascends_put : (u : Unknown) (vs : List Unknown) → Ascends vs → Ascends (put_in_order u vs)
ascends_put u [] up = (tt, tt)
ascends_put u (v ∷ vs) up = by (is_lt (unknown_cmp v u)) refl (ascends_put u vs up.1)
  where
    by : (b : Bool) → is_lt (unknown_cmp v u) ≡ b → Ascends (put_in_order u vs) → Ascends (cond b (v ∷ put_in_order u vs) (u ∷ v ∷ vs))
    by true h rest = (none_below_put v u vs (not_below_if_greater v u (less_is (unknown_cmp v u) h)) up.0, rest)
    by false h rest = ((h, none_below_further u v vs h up.0), up)

ascends_in_order : (us : List Unknown) → Ascends (in_unknown_order us)
ascends_in_order [] = tt
ascends_in_order (u ∷ us) = ascends_put u (in_unknown_order us) (ascends_in_order us)

sorted_tail : (u : Unknown) (us : List Unknown) → IsSorted unknown_cmp (u ∷ us) → IsSorted unknown_cmp us
sorted_tail u us sorted k d low within =
    let next : suc k + 1 ≡ suc (k + 1) = omega arith in
    subst (λ (n : ℕ). is_lt (unknown_cmp (get_or (u ∷ us) n d) (get_or us k d)) ≡ false) next (sorted (suc k) d (omega arith) (omega arith))

ascends_sorted : (us : List Unknown) → IsSorted unknown_cmp us → Ascends us
ascends_sorted [] sorted = tt
ascends_sorted (u ∷ []) sorted = (tt, tt)
ascends_sorted (u ∷ v ∷ vs) sorted =
    let rest : Ascends (v ∷ vs) = ascends_sorted (v ∷ vs) (sorted_tail u (v ∷ vs) sorted) in
    let first : is_lt (unknown_cmp v u) ≡ false = sorted 0 u (omega arith) (omega arith) in
    ((first, none_below_further u v vs first rest.0), rest)

-- 1 where the two are one, else 0
one_if_same : Unknown → Unknown → ℕ
one_if_same u v = cond (is_eq (unknown_cmp u v)) 1 0

one_if_equal : (u v : Unknown) → unknown_cmp u v ≡ Equal → one_if_same u v ≡ 1
unfolding one_if_same
one_if_equal u v h = ap (λ (r : Ordering). cond (is_eq r) 1 0) h

none_if_less : (u v : Unknown) → unknown_cmp u v ≡ Less → one_if_same u v ≡ 0
unfolding one_if_same
none_if_less u v h = ap (λ (r : Ordering). cond (is_eq r) 1 0) h

-- how often an unknown is in a list
abbrev times : Unknown → List Unknown → ℕ
times u [] = 0
times u (v ∷ vs) = one_if_same u v + times u vs

times_sum : (u : Unknown) (us : List Unknown) → sum_by (one_if_same u) us ≡ times u us
times_sum u [] = refl
times_sum u (v ∷ vs) = sum_by-cons (one_if_same u) v vs ∙ ap (λ (n : ℕ). one_if_same u v + n) (times_sum u vs)

times_put : (u v : Unknown) (vs : List Unknown) → times u (put_in_order v vs) ≡ one_if_same u v + times u vs
times_put u v [] = refl
times_put u v (w ∷ ws) = by (is_lt (unknown_cmp w v)) (times_put u v ws)
  where
    by : (b : Bool) → times u (put_in_order v ws) ≡ one_if_same u v + times u ws
        → times u (cond b (w ∷ put_in_order v ws) (v ∷ w ∷ ws)) ≡ one_if_same u v + (one_if_same u w + times u ws)
    by true rest = omega arith
    by false rest = refl

times_in_order : (u : Unknown) (us : List Unknown) → times u (in_unknown_order us) ≡ times u us
times_in_order u [] = refl
times_in_order u (v ∷ vs) = times_put u v (in_unknown_order vs) ∙ ap (λ (n : ℕ). one_if_same u v + n) (times_in_order u vs)

times_below : (u v : Unknown) (vs : List Unknown) → unknown_cmp u v ≡ Less → NoneBelow v vs → times u vs ≡ 0
times_below u v [] less none = refl
times_below u v (w ∷ ws) less none =
    let here : one_if_same u w ≡ 0 = none_if_less u w (below_all u v w less none.0) in
    let later : times u ws ≡ 0 = times_below u v ws less none.1 in
    omega arith

same_if_eq : (u v : Unknown) → unknown_eq u v ≡ true → u ≡ v
same_if_eq u v h = search rules

same_if_equal : (u v : Unknown) → unknown_cmp u v ≡ Equal → u ≡ v
same_if_equal u v h = same_if_eq u v (matches_eq-law u v ∙ ap is_eq h)

-- two lists in order that have each unknown equally often are one
one_in_order : (us vs : List Unknown) → Ascends us → Ascends vs → ((u : Unknown) → times u us ≡ times u vs) → us ≡ vs
one_in_order [] [] up down same = refl
one_in_order [] (v ∷ vs) up down same =
    let here : one_if_same v v ≡ 1 = one_if_equal v v (cmp_itself v) in
    let none : 0 ≡ one_if_same v v + times v vs = same v in
    absurd (omega arith)
one_in_order (u ∷ us) [] up down same =
    let here : one_if_same u u ≡ 1 = one_if_equal u u (cmp_itself u) in
    let none : one_if_same u u + times u us ≡ 0 = same u in
    absurd (omega arith)
one_in_order (u ∷ us) (v ∷ vs) up down same = by (unknown_cmp u v) refl (λ tails. one_in_order us vs up.1 down.1 tails)
  where
    clash : (x y : Unknown) (xs ys : List Unknown) → unknown_cmp x y ≡ Less → NoneBelow y ys → one_if_same x x + times x xs ≡ one_if_same x y + times x ys → ⊥
    clash x y xs ys less none equal =
        let here : one_if_same x x ≡ 1 = one_if_equal x x (cmp_itself x) in
        let there : one_if_same x y ≡ 0 = none_if_less x y less in
        let later : times x ys ≡ 0 = times_below x y ys less none in
        omega arith

    by : (r : Ordering) → unknown_cmp u v ≡ r → (((w : Unknown) → times w us ≡ times w vs) → us ≡ vs) → u ∷ us ≡ v ∷ vs
    by Less h go = absurd (clash u v us vs h down.0 (same u))
    by Equal h go =
        let one : u ≡ v = same_if_equal u v h in
        let tails : (w : Unknown) → times w us ≡ times w vs =
        λ w. let first : one_if_same w u ≡ one_if_same w v = ap (λ (z : Unknown). one_if_same w z) one in
        let all : one_if_same w u + times w us ≡ one_if_same w v + times w vs = same w in
        omega arith in
        ap (λ (z : Unknown). z ∷ us) one ∙ ap (λ (zs : List Unknown). v ∷ zs) (go tails)
    by Greater h go = absurd (clash v u vs us (total-law.antisymm v u ∙ ap ordering_reverse h) up.0 (sym (same v)))

-- what a sort gives is the list in order
pub sorted_is_in_order : (us vs : List Unknown) → IsPermutation us vs → IsSorted unknown_cmp vs → vs ≡ in_unknown_order us
sorted_is_in_order us vs moved sorted =
    one_in_order vs (in_unknown_order us) (ascends_sorted vs sorted) (ascends_in_order us)
    (λ u. sym (times_sum u vs) ∙ sum_by-IsPermutation (one_if_same u) us vs moved ∙ times_sum u us ∙ sym (times_in_order u us))
