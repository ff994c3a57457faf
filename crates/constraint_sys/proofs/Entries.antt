-- What a table reads after one of its entries is set.
use Rattle.std.proofs.Common.{◌≡◌, ◌≢◌, ℕ, Bool, true, false, cond, List, [], ◌∷◌, ◌++◌, Option, Some, None, refl, sym, ap, ◌∙◌, rules, true≢false, ◌⊎◌, inl, inr, is_some, subst}
use Rattle.std.proofs.lemmas.Bool.{cases_Bool}
use Rattle.std.specs.Cmp.{IsEquivalence}
use Rattle.std.specs.Map.{lookup}
use Rattle.std.specs.Prelude.{IsSome}
use Rattle.indexmap.specs.IndexMap.{insert_entry}
use Rattle.constraint_sys.specs.contracts.unknown.UnknownEq.TheImpl.Laws.{laws-law}
use Rattle.constraint_sys.specs.declared.unknown.Key.{Key}
use Rattle.constraint_sys.specs.declared.unknown.Unknown.{Unknown}
use Rattle.constraint_sys.specs.declared.unknown.Unknown.TheVariants.{Point, Global}
use Rattle.constraint_sys.specs.declared.value.Value.{Value}
use Rattle.constraint_sys.specs.Table.{TableValue, IsThere, unknown_eq, value_at, with_value}

pub unknown_eq-same : (a b : Unknown) → unknown_eq a b ≡ true → a ≡ b
unknown_eq-same a b h = search rules

pub unknown_eq-refl : (a : Unknown) → unknown_eq a a ≡ true
unknown_eq-refl a = laws-law.refl a

pub unknown_eq-apart : (a b : Unknown) → a ≢ b → unknown_eq a b ≡ false
unknown_eq-apart a b other = elim (cases_Bool (unknown_eq a b)) [
  | inl same ↦ absurd (other (unknown_eq-same a b same))
  | inr apart ↦ apart
]

pub cases_unknown : (a b : Unknown) → (a ≡ b) ⊎ (a ≢ b)
cases_unknown a b = elim (cases_Bool (unknown_eq a b)) [
  | inl same ↦ inl (unknown_eq-same a b same)
  | inr apart ↦ inr (λ same. true≢false (sym (unknown_eq-refl a) ∙ ap (unknown_eq a) same ∙ apart))
]

pub global_apart : (g f : ℕ) (key : Key) (node : ℕ) → Global g ≢ Point f key node
global_apart g f key node same = cc

module _ {K X : Type 0} (eq : K → K → Bool) (laws : IsEquivalence eq) (k : K) (v : X) (q : K) where
  -- the two tests of a step: the first entry has the key k, or q has another key than one of the two
  found : (b : Bool) (x : Option X) → eq k q ≡ b → cond b (Some v) x ≡ cond (eq q k) (Some v) x
  found b x e = ap (λ (c : Bool). cond c (Some v) x) (sym e ∙ laws.symm k q)

  set_here : (e : K × X) (rest : Option X) → eq k e.0 ≡ true → cond (eq q e.0) (Some v) rest ≡ cond (eq q k) (Some v) (cond (eq q e.0) (Some e.1) rest)
  set_here e rest here = elim (cases_Bool (eq q k)) [
    | inl same ↦ (let at : eq q e.0 ≡ true = sym (laws.congr k q e.0 (laws.symm k q ∙ same)) ∙ here in rw (same, at) refl)
    | inr apart ↦ (let off : eq q e.0 ≡ false = laws.symm q e.0 ∙ sym (laws.congr k e.0 q here) ∙ laws.symm k q ∙ apart in rw (apart, off) refl)
  ]

  pass : (e : K × X) (rest : Option X) → eq k e.0 ≡ false → cond (eq q e.0) (Some e.1) (cond (eq q k) (Some v) rest) ≡ cond (eq q k) (Some v) (cond (eq q e.0) (Some e.1) rest)
  pass e rest off = elim (cases_Bool (eq q k)) [
    | inl same ↦ (let apart : eq q e.0 ≡ false = laws.congr q k e.0 same ∙ off in rw (same, apart) refl)
    | inr apart ↦ rw apart refl
  ]

  step : (e : K × X) (es : List (K × X)) (b : Bool) → eq k e.0 ≡ b → lookup (eq q) (insert_entry eq es k v) ≡ cond (eq q k) (Some v) (lookup (eq q) es)
      → lookup (eq q) (cond b ((e.0, v) ∷ es) (e ∷ insert_entry eq es k v)) ≡ cond (eq q k) (Some v) (cond (eq q e.0) (Some e.1) (lookup (eq q) es))
  step e es true here later = set_here e (lookup (eq q) es) here
  step e es false off later = ap (λ (x : Option X). cond (eq q e.0) (Some e.1) x) later ∙ pass e (lookup (eq q) es) off

  pub lookup-insert_entry : (es : List (K × X)) → lookup (eq q) (insert_entry eq es k v) ≡ cond (eq q k) (Some v) (lookup (eq q) es)
  lookup-insert_entry [] = refl
  lookup-insert_entry (e ∷ es) = step e es (eq k e.0) refl (lookup-insert_entry es)

pub value_at-set : (t : TableValue) (u : Unknown) (v : Value) → value_at (with_value t u v) u ≡ Some v
value_at-set t u v = lookup-insert_entry unknown_eq laws-law u v u t ∙ ap (λ (b : Bool). cond b (Some v) (value_at t u)) (unknown_eq-refl u)

pub value_at-other : (t : TableValue) (u : Unknown) (v : Value) (r : Unknown) → r ≢ u → value_at (with_value t u v) r ≡ value_at t r
value_at-other t u v r other = lookup-insert_entry unknown_eq laws-law u v r t ∙ ap (λ (b : Bool). cond b (Some v) (value_at t r)) (unknown_eq-apart r u other)

-- what holds of each entry holds of each value that is read
module _ (P : Unknown → Value → Type 0) where
  abbrev pub AllEntries : TableValue → Type 0
  AllEntries [] = Unit {0}
  AllEntries (e ∷ t) = P e.0 e.1 × AllEntries t

  read_step : (e : Unknown × Value) (t : TableValue) (u : Unknown) (v : Value) (b : Bool) → unknown_eq u e.0 ≡ b → P e.0 e.1 → (value_at t u ≡ Some v → P u v) → cond b (Some e.1) (value_at t u) ≡ Some v → P u v
  read_step e t u v true same here later at = let value : e.1 ≡ v = cc at in subst (λ (x : Value). P u x) value (subst (λ (x : Unknown). P x e.1) (sym (unknown_eq-same u e.0 same)) here)
  read_step e t u v false off here later at = later at

  pub value_at-all : (t : TableValue) → AllEntries t → (u : Unknown) (v : Value) → value_at t u ≡ Some v → P u v
  value_at-all [] each u v at = absurd (true≢false (sym (ap is_some at)))
  value_at-all (e ∷ t) each u v at = read_step e t u v (unknown_eq u e.0) refl each.0 (value_at-all t each.1 u v) at

  pub AllEntries-append : (s t : TableValue) → AllEntries s → AllEntries t → AllEntries (s ++ t)
  AllEntries-append [] t first second = second
  AllEntries-append (e ∷ s) t first second = (first.0, AllEntries-append s t first.1 second)

-- which unknowns are there
module _ (u : Unknown) where
  there_with : (b : Bool) (v : Value) (o : Option Value) → IsSome o → IsSome (cond b (Some v) o)
  there_with true v o there = refl
  there_with false v o there = there

  pub IsThere-cons : (e : Unknown × Value) (t : TableValue) → IsThere t u → IsThere (e ∷ t) u
  IsThere-cons e t there = there_with (unknown_eq u e.0) e.1 (value_at t u) there

  pub value_at-head : (v : Value) (t : TableValue) → value_at ((u, v) ∷ t) u ≡ Some v
  value_at-head v t = ap (λ (b : Bool). cond b (Some v) (value_at t u)) (unknown_eq-refl u)

  pub IsThere-append_right : (s t : TableValue) → IsThere t u → IsThere (s ++ t) u
  IsThere-append_right [] t there = there
  IsThere-append_right (e ∷ s) t there = IsThere-cons e (s ++ t) (IsThere-append_right s t there)

  there_before : (b : Bool) (v : Value) (o long : Option Value) → (IsSome o → IsSome long) → IsSome (cond b (Some v) o) → IsSome (cond b (Some v) long)
  there_before true v o long later there = refl
  there_before false v o long later there = later there

  pub IsThere-append_left : (s t : TableValue) → IsThere s u → IsThere (s ++ t) u
  IsThere-append_left [] t there = absurd (true≢false (sym there))
  IsThere-append_left (e ∷ s) t there = there_before (unknown_eq u e.0) e.1 (value_at s u) (value_at (s ++ t) u) (IsThere-append_left s t) there

  -- entries of other unknowns are passed by
  pub value_at-past : (s t : TableValue) → AllEntries (λ r v. u ≢ r) s → value_at (s ++ t) u ≡ value_at t u
  value_at-past [] t apart = refl
  value_at-past (e ∷ s) t apart = ap (λ (b : Bool). cond b (Some e.1) (value_at (s ++ t) u)) (unknown_eq-apart u e.0 apart.0) ∙ value_at-past s t apart.1

pub there_value : (o : Option Value) → IsSome o → (v : Value) × (o ≡ Some v)
there_value None there = absurd (true≢false (sym there))
there_value (Some v) there = (v, refl)

-- a table with entries added at its end
module _ (r : Unknown) where
  front_step : (e : Unknown × Value) (s t : TableValue) (v : Value) (b : Bool) → (value_at s r ≡ Some v → value_at (s ++ t) r ≡ Some v) → cond b (Some e.1) (value_at s r) ≡ Some v → cond b (Some e.1) (value_at (s ++ t) r) ≡ Some v
  front_step e s t v true later at = at
  front_step e s t v false later at = later at

  pub value_at-appended : (s t : TableValue) (v : Value) → value_at s r ≡ Some v → value_at (s ++ t) r ≡ Some v
  value_at-appended [] t v at = absurd (true≢false (sym (ap is_some at)))
  value_at-appended (e ∷ s) t v at = front_step e s t v (unknown_eq r e.0) (value_at-appended s t v) at

  absent_step : (e : Unknown × Value) (s t : TableValue) (b : Bool) → (value_at s r ≡ None → value_at (s ++ t) r ≡ value_at t r) → cond b (Some e.1) (value_at s r) ≡ None → cond b (Some e.1) (value_at (s ++ t) r) ≡ value_at t r
  absent_step e s t true later at = absurd (true≢false (ap is_some at))
  absent_step e s t false later at = later at

  pub value_at-absent : (s t : TableValue) → value_at s r ≡ None → value_at (s ++ t) r ≡ value_at t r
  value_at-absent [] t none = refl
  value_at-absent (e ∷ s) t none = absent_step e s t (unknown_eq r e.0) (value_at-absent s t) none

  front_kept : (s t : TableValue) (o : Option Value) → value_at s r ≡ o → IsSome o → value_at (s ++ t) r ≡ value_at s r
  front_kept s t None at there = absurd (true≢false (sym there))
  front_kept s t (Some v) at there = value_at-appended s t v at ∙ sym at

  pub value_at-kept : (s t : TableValue) → IsThere s r → value_at (s ++ t) r ≡ value_at s r
  value_at-kept s t there = front_kept s t (value_at s r) refl there

  either_front : (s t : TableValue) (v : Value) → value_at (s ++ t) r ≡ Some v → (o : Option Value) → value_at s r ≡ o → (value_at s r ≡ Some v) ⊎ ((value_at s r ≡ None) × (value_at t r ≡ Some v))
  either_front s t v at None none = inr (none, sym (value_at-absent s t none) ∙ at)
  either_front s t v at (Some w) some = inl (sym (value_at-kept s t (ap is_some some)) ∙ at)

  -- an entry of the longer table is one of the two
  pub value_at-either : (s t : TableValue) (v : Value) → value_at (s ++ t) r ≡ Some v → (value_at s r ≡ Some v) ⊎ ((value_at s r ≡ None) × (value_at t r ≡ Some v))
  value_at-either s t v at = either_front s t v at (value_at s r) refl
