-- Which unknowns rise by raises: the targets that didn't bound what raised them.
use Rattle.std.proofs.Common.{◌≡◌, ◌≢◌, ◌↔◌, zero, suc, ◌⊎◌, inl, inr, List, [], ◌∷◌, Option, None, Some, refl, sym, ap, ◌∙◌, subst, is_some, true≢false}
use Rattle.std.specs.Prelude.{All, Contains, IsSome, filter}
use Rattle.std.proofs.lemmas.List.Elements.{All-contains, All-head, All-tail}
use Rattle.gob_tree.specs.declared.graph.Program.{Program}
use Rattle.state_dom.specs.StateValue.{Bottom, Reached}
use Rattle.state_dom.specs.ThresholdValues.{thresholds_of}
use Rattle.constraint_sys.specs.declared.unknown.Unknown.{Unknown}
use Rattle.constraint_sys.specs.declared.unknown.Unknown.TheVariants.{Point, Global}
use Rattle.constraint_sys.specs.declared.value.Effect.{Effect}
use Rattle.constraint_sys.specs.declared.value.Value.{Value}
use Rattle.constraint_sys.specs.declared.value.Value.TheVariants.{State, Number}
use Rattle.constraint_sys.specs.Arising.{CanRaise}
use Rattle.constraint_sys.specs.PostSolution.{BoundsAt, CoversValue}
use Rattle.constraint_sys.specs.Sound.{IsShaped, IsShapedEntry}
use Rattle.constraint_sys.specs.Table.{TableValue, IsThere, shown, value_at}
use Rattle.constraint_sys.specs.Turn.{Rose, arising, fellows, is_absent, raised_entry, raised_in, raised_in_each, raised_value}
use Rattle.constraint_sys.proofs.Covering.{AreAlike-shaped, cases_CoversValue, raised_value-same}
use Rattle.constraint_sys.proofs.Entries.{AllEntries, cases_unknown, value_at-absent, value_at-all, value_at-kept, value_at-other, value_at-past, value_at-set}
use Rattle.constraint_sys.proofs.Locality.{ShowsSame}
use Rattle.constraint_sys.proofs.Numbered.{AllEntries-numbers}
use Rattle.constraint_sys.proofs.Ordered.{Contains-cases, Contains-head, Contains-nil, Contains-tail}
use Rattle.constraint_sys.proofs.Raising.{AllEntries-filter, All-CanRaise_grown, Raises-one, RaisesEach-list}

-- a raise of this unknown that the table doesn't bound
abbrev pub IsUnbounded : TableValue → List Effect → Unknown → Type 0
IsUnbounded t es r = (e : Effect) × Contains es e × (e.target ≡ r) × (BoundsAt t e.target e.value → ⊥)

-- ---- what isn't bounded rises
shown_bounds : (o new : Option Value) (v : Value) → (IsSome o ⊎ (shown (Some v) ≡ Some v)) → shown new ≡ shown o → CoversValue new v → CoversValue o v
shown_bounds o None v there same covers = absurd covers
shown_bounds None (Some (State (Bottom room))) (State (Bottom other)) there same covers = elim there [ inl some ↦ absurd (true≢false (sym some)) | inr shows ↦ absurd (true≢false (sym (ap is_some shows))) ]
shown_bounds (Some (State a)) (Some (State (Bottom room))) (State (Bottom other)) there same covers = tt
shown_bounds (Some (Number x)) (Some (State (Bottom room))) (State (Bottom other)) there same covers = absurd (true≢false (sym (ap is_some same)))
shown_bounds o (Some (State (Bottom room))) (State (Reached ys m)) there same covers = absurd covers
shown_bounds o (Some (State (Bottom room))) (Number y) there same covers = absurd covers
shown_bounds None (Some (State (Reached xs l))) v there same covers = absurd (true≢false (ap is_some same))
shown_bounds (Some (State (Bottom room))) (Some (State (Reached xs l))) v there same covers = absurd (true≢false (ap is_some same))
shown_bounds (Some (State (Reached zs n))) (Some (State (Reached xs l))) v there same covers = subst (λ (o : Option Value). CoversValue o v) same covers
shown_bounds (Some (Number z)) (Some (State (Reached xs l))) v there same covers = subst (λ (o : Option Value). CoversValue o v) same covers
shown_bounds None (Some (Number x)) v there same covers = absurd (true≢false (ap is_some same))
shown_bounds (Some (State (Bottom room))) (Some (Number x)) v there same covers = absurd (true≢false (ap is_some same))
shown_bounds (Some (State (Reached zs n))) (Some (Number x)) v there same covers = subst (λ (o : Option Value). CoversValue o v) same covers
shown_bounds (Some (Number z)) (Some (Number x)) v there same covers = subst (λ (o : Option Value). CoversValue o v) same covers

there_or_shown : (p : Program) (t : TableValue) (e : Effect) → CanRaise p t e → IsThere t e.target ⊎ (shown (Some e.value) ≡ Some e.value)
there_or_shown p t e can = elim can.target [ inl there ↦ inl there | inr may ↦ inr may.1 ]

pub Rose-unbounded : (p : Program) (t : TableValue) (es : List Effect) → IsShaped p t → All (CanRaise p t) es → (r : Unknown) → IsUnbounded t es r → Rose t (raised_in_each p t es) r
Rose-unbounded p t es shaped can r (e, one, is, fails) same =
    let new = raised_in_each p t es in
    let bounded : BoundsAt new e.target e.value = All-contains (λ (x : Effect). BoundsAt new x.target x.value) es e (RaisesEach-list p t es shaped can).bounded one in
    fails (shown_bounds (value_at t e.target) (value_at new e.target) e.value (there_or_shown p t e (All-contains (CanRaise p t) es e can one)) (subst (λ (q : Unknown). shown (value_at new q) ≡ shown (value_at t q)) (sym is) same) bounded)

-- ---- what is bounded doesn't rise
-- the entries that come with an unknown are Bottom
abbrev IsBottomEntry : Unknown → Value → Type 0
IsBottomEntry q w = shown (Some w) ≡ None

fellows_bottom : (p : Program) (u : Unknown) → AllEntries IsBottomEntry (fellows p u)
fellows_bottom p (Point f key zero) = AllEntries-numbers IsBottomEntry _ 1 _ (λ i low high. refl)
fellows_bottom p (Point f key (suc node)) = tt
fellows_bottom p (Global g) = tt

shown_fellow : (p : Program) (t : TableValue) (u r : Unknown) (o : Option Value) → value_at (filter (is_absent t) (fellows p u)) r ≡ o → shown o ≡ None
shown_fellow p t u r None at = refl
shown_fellow p t u r (Some w) at = value_at-all IsBottomEntry (filter (is_absent t) (fellows p u)) (AllEntries-filter IsBottomEntry (is_absent t) (fellows p u) (fellows_bottom p u)) r w at

-- another unknown shows the same after one raise
other_same : (p : Program) (t : TableValue) (u r : Unknown) (v : Value) → r ≢ u → (o : Option Value) → value_at t u ≡ o → (q : Option Value) → value_at t r ≡ q → ShowsSame t (raised_entry p t u v o) r
other_same p t u r v other (Some old) at q here = ap shown (value_at-other t u (raised_value (thresholds_of p) old v) r other)
other_same p t u r v other None at (Some w) here = ap shown (value_at-kept r t (arising p t u v) (ap is_some here))
other_same p t u r v other None at None here =
    ap shown (value_at-absent r t (arising p t u v) here) ∙ ap shown (value_at-past r ((u, v) ∷ []) (filter (is_absent t) (fellows p u)) (other, tt))
    ∙ shown_fellow p t u r (value_at (filter (is_absent t) (fellows p u)) r) refl ∙ sym (ap shown here)

-- a raise by what is bounded changes nothing there
same_itself : (p : Program) (t : TableValue) (u : Unknown) (v : Value) → IsShaped p t → IsShapedEntry p u v → (o : Option Value) → value_at t u ≡ o → CoversValue o v → ShowsSame t (raised_entry p t u v o) u
same_itself p t u v shaped fits None at covers = absurd covers
same_itself p t u v shaped fits (Some old) at covers =
    ap shown (value_at-set t u (raised_value (thresholds_of p) old v) ∙ ap Some (raised_value-same (thresholds_of p) old v (AreAlike-shaped p u old v (shaped u old at) fits) covers) ∙ sym at)

one_same : (p : Program) (t : TableValue) (e : Effect) → IsShaped p t → CanRaise p t e → (r : Unknown) → (e.target ≡ r → BoundsAt t e.target e.value) → ShowsSame t (raised_in p t e.target e.value) r
one_same p t e shaped can r bounded = elim (cases_unknown r e.target) [
  | inl is ↦ subst (λ (q : Unknown). ShowsSame t (raised_in p t e.target e.value) q) (sym is) (same_itself p t e.target e.value shaped can.fits (value_at t e.target) refl (bounded (sym is)))
  | inr other ↦ other_same p t e.target r e.value other (value_at t e.target) refl (value_at t r) refl
]

pub ShowsSame-bounded : (p : Program) (t : TableValue) (es : List Effect) → IsShaped p t → All (CanRaise p t) es → (r : Unknown)
    → ((e : Effect) → Contains es e → e.target ≡ r → BoundsAt t e.target e.value) → ShowsSame t (raised_in_each p t es) r
ShowsSame-bounded p t [] shaped can r bounded = refl
ShowsSame-bounded p t (e ∷ es) shaped can r bounded =
    let mid = raised_in p t e.target e.value in
    let first = Raises-one p t e shaped (All-head (CanRaise p t) e es can) in
    ShowsSame-bounded p mid es (first.grows.shaped shaped) (All-CanRaise_grown p t mid es first.grows (All-tail (CanRaise p t) e es can)) r
    (λ x one is. first.grows.bounds x.target x.value (bounded x (Contains-tail e x es one) is))
    ∙ one_same p t e shaped (All-head (CanRaise p t) e es can) r (bounded e (Contains-head e es))

-- ---- an unknown rises, or shows the same
cases_unbounded : (t : TableValue) (es : List Effect) (r : Unknown) → IsUnbounded t es r ⊎ ((e : Effect) → Contains es e → e.target ≡ r → BoundsAt t e.target e.value)
cases_unbounded t [] r = inr (λ e one is. absurd (Contains-nil e one))
cases_unbounded t (e ∷ es) r = elim (cases_unbounded t es r) [
  | inl later ↦ inl (later.0, Contains-tail e later.0 es later.1, later.2, later.3)
  | inr rest ↦ elim (cases_unknown e.target r) [
    | inl is ↦ elim (cases_CoversValue (value_at t e.target) e.value) [
      | inl covers ↦ inr (λ x one same. elim (Contains-cases e x es one) [
        | inl here ↦ subst (λ (y : Effect). BoundsAt t y.target y.value) (sym here) covers
        | inr later ↦ rest x later same
      ])
      | inr fails ↦ inl (e, Contains-head e es, is, fails)
    ]
    | inr other ↦ inr (λ x one same. elim (Contains-cases e x es one) [
      | inl here ↦ absurd (other (ap (λ (y : Effect). y.target) (sym here) ∙ same))
      | inr later ↦ rest x later same
    ])
  ]
]

pub rose_or_same : (p : Program) (t : TableValue) (es : List Effect) → IsShaped p t → All (CanRaise p t) es → (r : Unknown) → IsUnbounded t es r ⊎ ShowsSame t (raised_in_each p t es) r
rose_or_same p t es shaped can r = elim (cases_unbounded t es r) [
  | inl unbounded ↦ inl unbounded
  | inr bounded ↦ inr (ShowsSame-bounded p t es shaped can r bounded)
]

-- exactly the targets that don't bound their raises rise
pub Rose-exactly : (p : Program) (t : TableValue) (es : List Effect) → IsShaped p t → All (CanRaise p t) es → (r : Unknown) → IsUnbounded t es r ↔ Rose t (raised_in_each p t es) r
Rose-exactly p t es shaped can r = (
  λ unbounded. Rose-unbounded p t es shaped can r unbounded,
  λ rose. elim (rose_or_same p t es shaped can r) [ inl unbounded ↦ unbounded | inr same ↦ absurd (rose same) ],
)
