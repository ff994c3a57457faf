-- What raises make of a table: it grows, and bounds what raised it.
use Rattle.std.proofs.Common.{◌≡◌, ℕ, zero, suc, ◌<◌, inl, inr, Bool, true, false, cond, ◌-◌, List, [], ◌∷◌, ◌++◌, Option, None, Some, refl, sym, ap, ◌∙◌, arith, subst, is_some, true≢false}
use Rattle.std.specs.Prelude.{All, IsSome, filter, is_none, length}
use Rattle.std.proofs.lemmas.List.Elements.{All-nil, All-cons, All-head, All-tail, All-weaker}
use Rattle.gob_tree.specs.declared.graph.Program.{Program}
use Rattle.state_dom.specs.StateValue.{Bottom}
use Rattle.state_dom.specs.ThresholdValues.{thresholds_of}
use Rattle.constraint_sys.specs.declared.unknown.Key.{Key}
use Rattle.constraint_sys.specs.declared.unknown.Unknown.{Unknown}
use Rattle.constraint_sys.specs.declared.unknown.Unknown.TheVariants.{Point, Global}
use Rattle.constraint_sys.specs.declared.value.Effect.{Effect}
use Rattle.constraint_sys.specs.declared.value.Value.{Value}
use Rattle.constraint_sys.specs.declared.value.Value.TheVariants.{State, Number}
use Rattle.constraint_sys.specs.Arising.{CanRaise, MayArise}
use Rattle.constraint_sys.specs.PostSolution.{BoundsAt, CoversValue}
use Rattle.constraint_sys.specs.Sound.{IsShaped, IsShapedEntry}
use Rattle.constraint_sys.specs.Table.{TableValue, IsThere, nodes_at, slots_at, unknown_eq, value_at, with_value}
use Rattle.constraint_sys.specs.Turn.{arising, bottom_nodes, fellows, is_absent, raised_entry, raised_in, raised_in_each, raised_value}
use Rattle.constraint_sys.proofs.Covering.{CoversValue-refl, CoversValue-trans, raised_value-fits, raised_value-new, raised_value-old}
use Rattle.constraint_sys.proofs.Entries.{AllEntries, IsThere-cons, cases_unknown, global_apart, there_value, unknown_eq-same, value_at-absent, value_at-all, value_at-either, value_at-head, value_at-kept, value_at-other, value_at-set}
use Rattle.constraint_sys.proofs.Numbered.{AllEntries-numbers, IsThere-numbers}
use Rattle.constraint_sys.proofs.Shaping.{no_mutex}

-- a point has all its fellow nodes
abbrev pub HasFellows : Program → TableValue → Type 0
HasFellows p t = (f : ℕ) (key : Key) (node other : ℕ) → IsThere t (Point f key node) → other < length (nodes_at p f) → IsThere t (Point f key other)

-- What was there stays there, what was bounded stays bounded, and shape and fellows are kept.
pub record Grows (p : Program) (old new : TableValue) : Type 0 where
  pub there : (r : Unknown) → IsThere old r → IsThere new r
  pub bounds : (r : Unknown) (v : Value) → BoundsAt old r v → BoundsAt new r v
  pub shaped : IsShaped p old → IsShaped p new
  pub fellows : HasFellows p old → HasFellows p new

pub Grows-refl : (p : Program) (t : TableValue) → Grows p t t
Grows-refl p t = record { there = λ r h. h; bounds = λ r v h. h; shaped = λ h. h; fellows = λ h. h }

pub Grows-trans : (p : Program) (a b c : TableValue) → Grows p a b → Grows p b c → Grows p a c
Grows-trans p a b c first second = record {
  there = λ r h. second.there r (first.there r h);
  bounds = λ r v h. second.bounds r v (first.bounds r v h);
  shaped = λ h. second.shaped (first.shaped h);
  fellows = λ h. second.fellows (first.fellows h);
}

-- what is bounded is there
pub bounded_there : (o : Option Value) (v : Value) → CoversValue o v → IsSome o
bounded_there None v covers = absurd covers
bounded_there (Some x) v covers = refl

-- ---- a value of the table is set
module _ (p : Program) (t : TableValue) (u : Unknown) (old v : Value) (at : value_at t u ≡ Some old) (shaped : IsShaped p t) (fits : IsShapedEntry p u v) where
  abbrev raised : Value
  raised = raised_value (thresholds_of p) old v

  abbrev after : TableValue
  after = with_value t u raised

  kept_there : (r : Unknown) → is_some (value_at after r) ≡ is_some (value_at t r)
  kept_there r = elim (cases_unknown r u) [
    | inl same ↦ subst (λ (q : Unknown). is_some (value_at after q) ≡ is_some (value_at t q)) (sym same) (ap is_some (value_at-set t u raised) ∙ sym (ap is_some at))
    | inr other ↦ ap is_some (value_at-other t u raised r other)
  ]

  set_bounds : (r : Unknown) (w : Value) → BoundsAt t r w → BoundsAt after r w
  set_bounds r w bounded = elim (cases_unknown r u) [
    | inl same ↦
        (let before : CoversValue (Some old) w = subst (λ (o : Option Value). CoversValue o w) at (subst (λ (q : Unknown). BoundsAt t q w) same bounded) in
        let now : CoversValue (Some raised) w = CoversValue-trans raised old w (raised_value-old p u old v (shaped u old at) fits) before in
        subst (λ (q : Unknown). BoundsAt after q w) (sym same) (subst (λ (o : Option Value). CoversValue o w) (sym (value_at-set t u raised)) now))
    | inr other ↦ subst (λ (o : Option Value). CoversValue o w) (sym (value_at-other t u raised r other)) bounded
  ]

  set_shaped : IsShaped p after
  set_shaped r w is = elim (cases_unknown r u) [
    | inl same ↦
        (let value : Some raised ≡ Some w = sym (value_at-set t u raised) ∙ ap (value_at after) (sym same) ∙ is in
        let this : raised ≡ w = cc value in
        subst (λ (q : Unknown). IsShapedEntry p q w) (sym same) (subst (λ (x : Value). IsShapedEntry p u x) this (raised_value-fits p u old v (shaped u old at) fits)))
    | inr other ↦ shaped r w (sym (value_at-other t u raised r other) ∙ is)
  ]

  pub Grows-set : Grows p t after
  Grows-set = record {
    there = λ r there. kept_there r ∙ there;
    bounds = set_bounds;
    shaped = λ _. set_shaped;
    fellows = λ had f key node other there within. kept_there (Point f key other) ∙ had f key node other (sym (kept_there (Point f key node)) ∙ there) within;
  }

  pub set_bounded : BoundsAt after u v
  set_bounded = subst (λ (o : Option Value). CoversValue o v) (sym (value_at-set t u raised)) (raised_value-new p u old v (shaped u old at) fits)

-- ---- an unknown arises
module _ (P : Unknown → Value → Type 0) where
  kept_step : (test : Unknown × Value → Bool) (e : Unknown × Value) (t : TableValue) (b : Bool) → P e.0 e.1 → AllEntries P (filter test t) → AllEntries P (cond b (e ∷ filter test t) (filter test t))
  kept_step test e t true here rest = (here, rest)
  kept_step test e t false here rest = rest

  pub AllEntries-filter : (test : Unknown × Value → Bool) (t : TableValue) → AllEntries P t → AllEntries P (filter test t)
  AllEntries-filter test [] each = tt
  AllEntries-filter test (e ∷ t) each = kept_step test e t (test e) each.0 (AllEntries-filter test t each.1)

-- an entry of an absent unknown stays
front_there : (q : Unknown) (e : Unknown × Value) (rest : TableValue) (b : Bool) → unknown_eq q e.0 ≡ b → (b ≡ false → IsThere rest q) → IsThere (e ∷ rest) q
front_there q e rest true same later = rw same refl
front_there q e rest false same later = rw same (later refl)

filtered_step : (t : TableValue) (q : Unknown) (e : Unknown × Value) (xs : TableValue) (b c : Bool) → unknown_eq q e.0 ≡ b → is_absent t e ≡ c → value_at t q ≡ None
    → IsSome (cond b (Some e.1) (value_at xs q)) → (IsThere xs q → IsThere (filter (is_absent t) xs) q) → IsThere (cond c (e ∷ filter (is_absent t) xs) (filter (is_absent t) xs)) q
filtered_step t q e xs b true same absent none there later = front_there q e (filter (is_absent t) xs) b same (λ off. later (subst (λ (d : Bool). IsSome (cond d (Some e.1) (value_at xs q))) off there))
filtered_step t q e xs true false same absent none there later =
    let is : q ≡ e.0 = unknown_eq-same q e.0 same in
    absurd (true≢false (sym (ap is_none (ap (value_at t) (sym is) ∙ none)) ∙ absent))
filtered_step t q e xs false false same absent none there later = later there

pub IsThere-filtered : (t : TableValue) (q : Unknown) (xs : TableValue) → value_at t q ≡ None → IsThere xs q → IsThere (filter (is_absent t) xs) q
IsThere-filtered t q [] none there = there
IsThere-filtered t q (e ∷ xs) none there = filtered_step t q e xs (unknown_eq q e.0) (is_absent t e) refl refl none there (λ h. IsThere-filtered t q xs none h)

fellow_fits : (p : Program) (u : Unknown) (v : Value) → IsShapedEntry p u v → AllEntries (IsShapedEntry p) (fellows p u)
fellow_fits p (Point f key zero) (State s) fits =
    AllEntries-numbers (IsShapedEntry p) (λ (node : ℕ). (Point f key node, State (Bottom (length (slots_at p f))))) 1 (length (nodes_at p f) - 1)
    (λ i low high. record { within = omega arith; context = fits.context; shape = refl; mutexes = no_mutex p })
fellow_fits p (Point f key zero) (Number x) fits = absurd fits
fellow_fits p (Point f key (suc node)) v fits = tt
fellow_fits p (Global g) v fits = tt

-- the entries that come with an unknown are of its function and context
abbrev IsKin : Unknown → Unknown → Value → Type 0
IsKin u q w = (f : ℕ) (key : Key) (node : ℕ) → q ≡ Point f key node → u ≡ Point f key 0

kin : (p : Program) (t : TableValue) (u : Unknown) (v : Value) → MayArise u → AllEntries (IsKin u) (arising p t u v)
kin p t (Point g k zero) v may = (
  λ f key node same. (let function : g ≡ f = cc same in let context : k ≡ key = cc same in λ i. Point (function i) (context i) 0),
  AllEntries-filter (IsKin (Point g k 0)) (is_absent t) (bottom_nodes p g k)
      (AllEntries-numbers (IsKin (Point g k 0)) (λ (node : ℕ). (Point g k node, State (Bottom (length (slots_at p g))))) 1 (length (nodes_at p g) - 1)
      (λ i low high. λ f key node same. let function : g ≡ f = cc same in let context : k ≡ key = cc same in λ j. Point (function j) (context j) 0)),
)
kin p t (Point g k (suc n)) v may = absurd may
kin p t (Global g) v may = (λ f key node same. absurd (global_apart g f key node same), tt)

module _ (p : Program) (t : TableValue) (u : Unknown) (v : Value) (none : value_at t u ≡ None) (fits : IsShapedEntry p u v) (may : MayArise u) where
  abbrev grown : TableValue
  grown = t ++ arising p t u v

  arising_fits : AllEntries (IsShapedEntry p) (arising p t u v)
  arising_fits = (fits, AllEntries-filter (IsShapedEntry p) (is_absent t) (fellows p u) (fellow_fits p u v fits))

  grown_there : (r : Unknown) → IsThere t r → IsThere grown r
  grown_there r there = ap is_some (value_at-kept r t (arising p t u v) there) ∙ there

  start_there : value_at grown u ≡ Some v
  start_there = value_at-absent u t (arising p t u v) none ∙ value_at-head u v (filter (is_absent t) (fellows p u))

  -- a node of the unknown's function and context is there
  fellow_there : (f : ℕ) (key : Key) (other : ℕ) → u ≡ Point f key 0 → other < length (nodes_at p f) → (o : Option Value) → value_at t (Point f key other) ≡ o → IsThere grown (Point f key other)
  fellow_there f key zero is within o at = subst (λ (q : Unknown). IsThere grown q) is (ap is_some start_there)
  fellow_there f key (suc other) is within (Some w) at = grown_there (Point f key (suc other)) (ap is_some at)
  fellow_there f key (suc other) is within None at =
      let among : IsThere (fellows p (Point f key 0)) (Point f key (suc other)) = IsThere-numbers f key (State (Bottom (length (slots_at p f)))) 1 (length (nodes_at p f) - 1) (suc other) (omega arith) (omega arith) in
      let added : IsThere (filter (is_absent t) (fellows p u)) (Point f key (suc other)) = IsThere-filtered t (Point f key (suc other)) (fellows p u) at (subst (λ (q : Unknown). IsThere (fellows p q) (Point f key (suc other))) (sym is) among) in
      let arisen : IsThere (arising p t u v) (Point f key (suc other)) = IsThere-cons (Point f key (suc other)) (u, v) (filter (is_absent t) (fellows p u)) added in
      ap is_some (value_at-absent (Point f key (suc other)) t (arising p t u v) at) ∙ arisen

  grown_fellows : HasFellows p t → HasFellows p grown
  grown_fellows had f key node other there within =
      let found = there_value (value_at grown (Point f key node)) there in
      elim (value_at-either (Point f key node) t (arising p t u v) found.0 found.1) [
        | inl old ↦ grown_there (Point f key other) (had f key node other (ap is_some old) within)
        | inr arose ↦ fellow_there f key other (value_at-all (IsKin u) (arising p t u v) (kin p t u v may) (Point f key node) found.0 arose.1 f key node refl) within (value_at t (Point f key other)) refl
      ]

  grown_shaped : IsShaped p t → IsShaped p grown
  grown_shaped shaped r w at = elim (value_at-either r t (arising p t u v) w at) [
    | inl old ↦ shaped r w old
    | inr arose ↦ value_at-all (IsShapedEntry p) (arising p t u v) arising_fits r w arose.1
  ]

  pub Grows-arising : Grows p t grown
  Grows-arising = record {
    there = grown_there;
    bounds = λ r w bounded. subst (λ (o : Option Value). CoversValue o w) (sym (value_at-kept r t (arising p t u v) (bounded_there (value_at t r) w bounded))) bounded;
    shaped = grown_shaped;
    fellows = grown_fellows;
  }

  pub arising_bounded : BoundsAt grown u v
  arising_bounded = subst (λ (o : Option Value). CoversValue o v) (sym start_there) (CoversValue-refl v)

-- ---- one raise, and many
pub record Raises (p : Program) (old new : TableValue) (u : Unknown) (v : Value) : Type 0 where
  pub grows : Grows p old new
  pub bounded : BoundsAt new u v

raises_by : (p : Program) (t : TableValue) (e : Effect) → IsShaped p t → CanRaise p t e → (o : Option Value) → value_at t e.target ≡ o → Raises p t (raised_entry p t e.target e.value o) e.target e.value
raises_by p t e shaped can (Some old) at = record { grows = Grows-set p t e.target old e.value at shaped can.fits; bounded = set_bounded p t e.target old e.value at shaped can.fits }
raises_by p t e shaped can None at = elim can.target [
  | inl there ↦ absurd (true≢false (sym there ∙ ap is_some at))
  | inr may ↦ record { grows = Grows-arising p t e.target e.value at can.fits may.0; bounded = arising_bounded p t e.target e.value at can.fits may.0 }
]

pub Raises-one : (p : Program) (t : TableValue) (e : Effect) → IsShaped p t → CanRaise p t e → Raises p t (raised_in p t e.target e.value) e.target e.value
Raises-one p t e shaped can = raises_by p t e shaped can (value_at t e.target) refl

pub CanRaise-grown : (p : Program) (old new : TableValue) (e : Effect) → Grows p old new → CanRaise p old e → CanRaise p new e
CanRaise-grown p old new e grows can = record {
  fits = can.fits;
  target = elim can.target [ inl there ↦ inl (grows.there e.target there) | inr may ↦ inr may ];
}

pub All-CanRaise_grown : (p : Program) (old new : TableValue) (es : List Effect) → Grows p old new → All (CanRaise p old) es → All (CanRaise p new) es
All-CanRaise_grown p old new es grows can = All-weaker (CanRaise p old) (CanRaise p new) (λ e one. CanRaise-grown p old new e grows one) es can

pub record RaisesEach (p : Program) (old new : TableValue) (es : List Effect) : Type 0 where
  pub grows : Grows p old new
  pub bounded : All (λ (e : Effect). BoundsAt new e.target e.value) es

pub RaisesEach-list : (p : Program) (t : TableValue) (es : List Effect) → IsShaped p t → All (CanRaise p t) es → RaisesEach p t (raised_in_each p t es) es
RaisesEach-list p t [] shaped can = record { grows = Grows-refl p t; bounded = All-nil (λ (e : Effect). BoundsAt t e.target e.value) }
RaisesEach-list p t (e ∷ es) shaped can =
    let mid = raised_in p t e.target e.value in
    let first = Raises-one p t e shaped (All-head (CanRaise p t) e es can) in
    let later = RaisesEach-list p mid es (first.grows.shaped shaped) (All-CanRaise_grown p t mid es first.grows (All-tail (CanRaise p t) e es can)) in
    record {
      grows = Grows-trans p t mid (raised_in_each p mid es) first.grows later.grows;
      bounded = All-cons (λ (x : Effect). BoundsAt (raised_in_each p mid es) x.target x.value) e es (later.grows.bounds e.target e.value first.bounded) later.bounded;
    }
