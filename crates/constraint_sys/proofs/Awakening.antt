-- What a turn makes dirty: the nodes that it brings, and the readers of what rises.
use Rattle.std.proofs.Common.{◌≡◌, ◌↔◌, ◌⊎◌, inl, inr, ℕ, zero, suc, ◌+◌, ◌<◌, ◌≤◌, Bool, true, false, cond, List, [], ◌∷◌, ◌++◌, Option, None, Some, length, refl, sym, ap, ◌∙◌, arith, subst, is_some, slice_get, true≢false}
use Rattle.std.specs.Prelude.{Contains, IsSome}
use Rattle.std.specs.List.{AllByRecursion, IsDistinct}
use Rattle.std.specs.Map.{keys_of}
use Rattle.std.proofs.lemmas.Bool.{cases_lt}
use Rattle.std.proofs.lemmas.List.{length-map}
use Rattle.std.proofs.lemmas.Option.{slice_get_within}
use Rattle.std.proofs.lemmas.Map.Keys.{IsDistinct-head, IsDistinct-tail}
use Rattle.gob_tree.specs.declared.graph.Program.{Program}
use Rattle.constraint_sys.specs.contracts.unknown.UnknownEq.TheImpl.Laws.{laws-law}
use Rattle.constraint_sys.specs.declared.unknown.Unknown.{Unknown}
use Rattle.constraint_sys.specs.declared.unknown.Unknown.TheVariants.{Point, Global}
use Rattle.constraint_sys.specs.declared.value.Effect.{Effect}
use Rattle.constraint_sys.specs.declared.value.Value.{Value}
use Rattle.constraint_sys.specs.Arising.{IsInner, IsNewAt, arisen_in_each}
use Rattle.constraint_sys.specs.Contribution.{read_by}
use Rattle.constraint_sys.specs.PostSolution.{BoundsAt}
use Rattle.constraint_sys.specs.Reading.{HasCommon}
use Rattle.constraint_sys.specs.Table.{TableValue, IsThere, unknown_eq, value_at}
use Rattle.constraint_sys.specs.Turn.{IsBrought, ReadsRisen, Rose, raised_in_each}
use Rattle.constraint_sys.proofs.Arisen.{there_after}
use Rattle.constraint_sys.proofs.Entries.{unknown_eq-refl, unknown_eq-same}
use Rattle.constraint_sys.proofs.Ordered.{Contains-push}
use Rattle.constraint_sys.proofs.Rising.{IsUnbounded}
use Rattle.constraint_sys.proofs.Turning.{some_from, there_from}

-- ---- entries by their place
apart_at : (x : Unknown) (ks : List Unknown) (k : ℕ) (q : Unknown) → AllByRecursion (λ y. unknown_eq x y ≡ false) ks → slice_get ks k ≡ Some q → unknown_eq x q ≡ false
apart_at x [] k q all at = absurd (true≢false (sym (ap is_some at)))
apart_at x (y ∷ ks) zero q all at = (let same : y ≡ q = cc at in subst (λ (z : Unknown). unknown_eq x z ≡ false) same all.0)
apart_at x (y ∷ ks) (suc k) q all at = apart_at x ks k q all.1 at

-- what stands after the first entries isn't among them
absent_before : (t xs : TableValue) (k : ℕ) (q : Unknown) → IsDistinct unknown_eq (keys_of (t ++ xs)) → length t ≤ k → slice_get (keys_of (t ++ xs)) k ≡ Some q → value_at t q ≡ None
absent_before [] xs k q distinct after at = refl
absent_before (e ∷ t) xs zero q distinct after at = absurd (omega arith)
absent_before (e ∷ t) xs (suc k) q distinct after at =
    let off : unknown_eq q e.0 ≡ false = laws-law.symm q e.0 ∙ apart_at e.0 (keys_of (t ++ xs)) k q (IsDistinct-head unknown_eq e.0 (keys_of (t ++ xs)) distinct) at in
    ap (λ (b : Bool). cond b (Some e.1) (value_at t q)) off ∙ absent_before t xs k q (IsDistinct-tail unknown_eq e.0 (keys_of (t ++ xs)) distinct) (omega arith) at

there_step : (b : Bool) (v : Value) (o : Option Value) → IsSome o → IsSome (cond b (Some v) o)
there_step true v o there = refl
there_step false v o there = there

pub there_at : (s : TableValue) (k : ℕ) (q : Unknown) → slice_get (keys_of s) k ≡ Some q → IsThere s q
there_at [] k q at = absurd (true≢false (sym (ap is_some at)))
there_at (e ∷ s) zero q at =
    let same : e.0 ≡ q = cc at in
    ap (λ (b : Bool). is_some (cond b (Some e.1) (value_at s q))) (ap (λ (z : Unknown). unknown_eq z e.0) (sym same) ∙ unknown_eq-refl e.0)
there_at (e ∷ s) (suc k) q at = there_step (unknown_eq q e.0) e.1 (value_at s q) (there_at s k q at)

-- an unknown of a table stands somewhere
abbrev StandsAt : TableValue → Unknown → Type 0
StandsAt s q = (k : ℕ) × (slice_get (keys_of s) k ≡ Some q)

place_by : (e : Unknown × Value) (s : TableValue) (q : Unknown) (b : Bool) → unknown_eq q e.0 ≡ b → IsSome (cond b (Some e.1) (value_at s q)) → (IsThere s q → StandsAt s q) → StandsAt (e ∷ s) q
place_by e s q true same there later = (0, ap Some (sym (unknown_eq-same q e.0 same)))
place_by e s q false same there later = let rest = later there in (suc rest.0, rest.1)

pub place_of : (s : TableValue) (q : Unknown) → IsThere s q → StandsAt s q
place_of [] q there = absurd (true≢false (sym there))
place_of (e ∷ s) q there = place_by e s q (unknown_eq q e.0) refl there (place_of s q)

after_by : (e : Unknown × Value) (t xs : TableValue) (q : Unknown) (b : Bool) → cond b (Some e.1) (value_at t q) ≡ None → IsSome (cond b (Some e.1) (value_at (t ++ xs) q))
    → (value_at t q ≡ None → IsThere (t ++ xs) q → (k : ℕ) × (length t ≤ k) × (slice_get (keys_of (t ++ xs)) k ≡ Some q))
    → (k : ℕ) × (length (e ∷ t) ≤ k) × (slice_get (keys_of (e ∷ (t ++ xs))) k ≡ Some q)
after_by e t xs q true none there later = absurd (true≢false (ap is_some none))
after_by e t xs q false none there later = let rest = later none there in (suc rest.0, omega (arith, rest.1), rest.2)

place_after : (t xs : TableValue) (q : Unknown) → value_at t q ≡ None → IsThere (t ++ xs) q → (k : ℕ) × (length t ≤ k) × (slice_get (keys_of (t ++ xs)) k ≡ Some q)
place_after [] xs q none there = let at = place_of xs q there in (at.0, omega arith, at.1)
place_after (e ∷ t) xs q none there = after_by e t xs q (unknown_eq q e.0) none there (place_after t xs q)

-- the points of inner nodes beyond the old entries are those that were brought
inner_brought : (t : TableValue) (new : TableValue) (q : Unknown) → IsInner q → value_at t q ≡ None → IsThere new q → IsBrought t new q
inner_brought t new (Point f key zero) inner none there = absurd inner
inner_brought t new (Point f key (suc node)) inner none there = (none, some_from (value_at new (Point f key (suc node))) there)
inner_brought t new (Global g) inner none there = absurd inner

brought_parts : (t new : TableValue) (q : Unknown) → IsBrought t new q → IsInner q × (value_at t q ≡ None) × IsThere new q
brought_parts t new (Point f key zero) brought = absurd brought
brought_parts t new (Point f key (suc node)) brought = (tt, brought.0, there_from (value_at new (Point f key (suc node))) brought.1)
brought_parts t new (Global g) brought = absurd brought

pub Brought-new : (t xs : TableValue) (q : Unknown) → IsDistinct unknown_eq (keys_of (t ++ xs)) → IsBrought t (t ++ xs) q ↔ (IsInner q × IsNewAt (length t) (t ++ xs) q)
Brought-new t xs q distinct = (
  λ brought.
      (let parts = brought_parts t (t ++ xs) q brought in
      let place = place_after t xs q parts.1 parts.2 in
      (parts.0, (place.0, place.1, place.2))),
  λ both. inner_brought t (t ++ xs) q both.0 (absent_before t xs both.1.0 q distinct both.1.1 both.1.2) (there_at (t ++ xs) both.1.0 q both.1.2),
)

-- the same nodes are brought once all have arisen
pub Brought-after : (p : Program) (t : TableValue) (es : List Effect) (q : Unknown) → IsBrought t (arisen_in_each p t es) q ↔ IsBrought t (raised_in_each p t es) q
Brought-after p t es q =
    let same = there_after p t es q in (
      λ brought. (let parts = brought_parts t (arisen_in_each p t es) q brought in inner_brought t (raised_in_each p t es) q parts.0 parts.1 (same ∙ parts.2)),
      λ brought. (let parts = brought_parts t (raised_in_each p t es) q brought in inner_brought t (arisen_in_each p t es) q parts.0 parts.1 (sym same ∙ parts.2)),
    )

-- ---- places, one more
module _ (P : ℕ → Type 0) (i : ℕ) where
  last_place : (k : ℕ) → k < i + 1 → P k → ((k : ℕ) × (k < i) × P k) ⊎ P i
  last_place k below holds = elim (cases_lt k i) [
    | inl before ↦ inl (k, before, holds)
    | inr past ↦ inr (let same : k ≡ i = omega (arith, below, past) in subst P same holds)
  ]

  place_next : ((k : ℕ) × (k < i + 1) × P k) ↔ (((k : ℕ) × (k < i) × P k) ⊎ P i)
  place_next = (
    λ one. last_place one.0 one.1 one.2,
    λ either. elim either [ inl before ↦ (before.0, omega (arith, before.1), before.2) | inr last ↦ (i, omega arith, last) ],
  )

-- a reader more
pub reader_next : (t : TableValue) (i : ℕ) (q : Unknown) (H : Type 0) (found more : List Unknown) → Contains more q ↔ (Contains found q ⊎ ((slice_get (keys_of t) i ≡ Some q) × H))
    → Contains found q ↔ (((k : ℕ) × (k < i) × (slice_get (keys_of t) k ≡ Some q)) × H) → Contains more q ↔ (((k : ℕ) × (k < i + 1) × (slice_get (keys_of t) k ≡ Some q)) × H)
reader_next t i q H found more step so_far =
    let next = place_next (λ k. slice_get (keys_of t) k ≡ Some q) i in (
      λ one. elim (step.0 one) [
        | inl old ↦ (let both = so_far.0 old in (next.1 (inl both.0), both.1))
        | inr last ↦ (next.1 (inr last.0), last.1)
      ],
      λ both. step.1 (elim (next.0 both.0) [ inl before ↦ inl (so_far.1 (before, both.1)) | inr last ↦ inr (last, both.1) ]),
    )

-- all places have been seen
pub readers_all : (t : TableValue) (q : Unknown) (H : Type 0) (i : ℕ) (found : List Unknown) → length t ≤ i → Contains found q ↔ (((k : ℕ) × (k < i) × (slice_get (keys_of t) k ≡ Some q)) × H) → Contains found q ↔ (IsThere t q × H)
readers_all t q H i found past so_far = (
  λ one. (let both = so_far.0 one in (there_at t both.0.0 q both.0.2, both.1)),
  λ both.
      (let place = place_of t q both.0 in
      let within = slice_get_within (keys_of t) place.0 q place.1 in
      let room : length (keys_of t) ≡ length t = length-map t (λ (e : Unknown × Value). e.0) in
      so_far.1 ((place.0, omega (arith, within, room, past), place.1), both.1)),
)

-- a brought node more
pub inner_next : (t : TableValue) (from i : ℕ) (q : Unknown) (H : Type 0) (old now more : List Unknown) → from ≤ i → Contains more q ↔ (Contains now q ⊎ (H × (slice_get (keys_of t) i ≡ Some q)))
    → Contains now q ↔ (Contains old q ⊎ (H × ((k : ℕ) × (from ≤ k) × (k < i) × (slice_get (keys_of t) k ≡ Some q))))
    → Contains more q ↔ (Contains old q ⊎ (H × ((k : ℕ) × (from ≤ k) × (k < i + 1) × (slice_get (keys_of t) k ≡ Some q))))
inner_next t from i q H old now more above step so_far = (
  λ one. elim (step.0 one) [
    | inl before ↦ elim (so_far.0 before) [ inl a ↦ inl a | inr b ↦ inr (b.0, (b.1.0, b.1.1, omega (arith, b.1.2), b.1.3)) ]
    | inr last ↦ inr (last.0, (i, above, omega arith, last.1))
  ],
  λ either. step.1 (elim either [
    | inl a ↦ inl (so_far.1 (inl a))
    | inr b ↦ elim (cases_lt b.1.0 i) [
      | inl before ↦ inl (so_far.1 (inr (b.0, (b.1.0, b.1.1, before, b.1.3))))
      | inr past ↦ inr (b.0, (let same : b.1.0 ≡ i = omega (arith, b.1.2, past) in subst (λ (k : ℕ). slice_get (keys_of t) k ≡ Some q) same b.1.3))
    ]
  ]),
)

pub inner_all : (t : TableValue) (from i : ℕ) (q : Unknown) (H : Type 0) (old now : List Unknown) → length t ≤ i
    → Contains now q ↔ (Contains old q ⊎ (H × ((k : ℕ) × (from ≤ k) × (k < i) × (slice_get (keys_of t) k ≡ Some q))))
    → Contains now q ↔ (Contains old q ⊎ (H × IsNewAt from t q))
inner_all t from i q H old now past so_far = (
  λ one. elim (so_far.0 one) [ inl a ↦ inl a | inr b ↦ inr (b.0, (b.1.0, b.1.1, b.1.3)) ],
  λ either. so_far.1 (elim either [
    | inl a ↦ inl a
    | inr b ↦
        (let within = slice_get_within (keys_of t) b.1.0 q b.1.2 in
        let room : length (keys_of t) ≡ length t = length-map t (λ (e : Unknown × Value). e.0) in
        inr (b.0, (b.1.0, b.1.1, omega (arith, within, room, past), b.1.2)))
  ]),
)

-- ---- what rises, one raise more
module _ (t : TableValue) (es : List Effect) (e : Effect) (r : Unknown) where
  unbounded_more : IsUnbounded t (es ++ e ∷ []) r ↔ (IsUnbounded t es r ⊎ ((e.target ≡ r) × (BoundsAt t e.target e.value → ⊥)))
  unbounded_more = (
    λ one. elim ((Contains-push es e one.0).0 one.1) [
      | inl old ↦ inl (one.0, old, one.2, one.3)
      | inr same ↦ inr (ap (λ (x : Effect). x.target) (sym same) ∙ one.2, subst (λ (x : Effect). BoundsAt t x.target x.value → ⊥) same one.3)
    ],
    λ either. elim either [
      | inl old ↦ (old.0, (Contains-push es e old.0).1 (inl old.1), old.2, old.3)
      | inr last ↦ (e, (Contains-push es e e).1 (inr refl), last.0, last.1)
    ],
  )

  pub risen_push : (rose more : List Unknown) → (BoundsAt t e.target e.value → ⊥) → Contains more r ↔ (Contains rose r ⊎ (r ≡ e.target)) → Contains rose r ↔ IsUnbounded t es r → Contains more r ↔ IsUnbounded t (es ++ e ∷ []) r
  risen_push rose more fails pushed so_far = (
    λ one. unbounded_more.1 (elim (pushed.0 one) [ inl old ↦ inl (so_far.0 old) | inr same ↦ inr (sym same, fails) ]),
    λ one. pushed.1 (elim (unbounded_more.0 one) [ inl old ↦ inl (so_far.1 old) | inr last ↦ inr (sym last.0) ]),
  )

  pub risen_skip : (rose : List Unknown) → BoundsAt t e.target e.value → Contains rose r ↔ IsUnbounded t es r → Contains rose r ↔ IsUnbounded t (es ++ e ∷ []) r
  risen_skip rose bounded so_far = (
    λ one. unbounded_more.1 (inl (so_far.0 one)),
    λ one. elim (unbounded_more.0 one) [ inl old ↦ so_far.1 old | inr last ↦ absurd (last.1 bounded) ],
  )

-- ---- the readers of what rises
pub Awake-exactly : (p : Program) (t new : TableValue) (rose : List Unknown) (q : Unknown) → ((r : Unknown) → Contains rose r ↔ Rose t new r)
    → (IsThere t q × HasCommon rose (read_by p t q)) ↔ ReadsRisen p t new q
Awake-exactly p t new rose q found = (
  λ both. (some_from (value_at t q) both.0, (both.1.0, both.1.2, (found both.1.0).0 both.1.1)),
  λ both. (there_from (value_at t q) both.0, (both.1.0, (found both.1.0).1 both.1.2, both.1.1)),
)
