-- Raises come to the same where what arises has arisen before.
use Rattle.std.proofs.Common.{◌≡◌, ◌≢◌, ◌⊎◌, inl, inr, ℤ, Bool, true, false, cond, List, [], ◌∷◌, ◌++◌, Option, None, Some, refl, sym, ap, ◌∙◌, subst, is_some, true≢false, append_assoc}
use Rattle.std.specs.Prelude.{All, IsSome, IsSomeAnd, filter, is_none}
use Rattle.std.proofs.lemmas.List.Elements.{All-nil, All-cons, All-head, All-tail, All-weaker, filter_agree}
use Rattle.gob_tree.specs.declared.graph.Program.{Program}
use Rattle.state_dom.specs.ThresholdValues.{thresholds_of, AreThresholdsOf}
use Rattle.constraint_sys.specs.declared.unknown.Unknown.{Unknown}
use Rattle.constraint_sys.specs.declared.value.Effect.{Effect}
use Rattle.constraint_sys.specs.declared.value.Value.{Value}
use Rattle.constraint_sys.specs.declared.value.Value.TheVariants.{State, Number}
use Rattle.constraint_sys.specs.Arising.{AreAlike, CanRaise, IsLike, arisen_entry, arisen_in, arisen_in_each}
use Rattle.constraint_sys.specs.Sound.{IsShaped}
use Rattle.constraint_sys.specs.Table.{TableValue, IsThere, unknown_eq, value_at, with_value}
use Rattle.constraint_sys.specs.Turn.{arising, fellows, is_absent, raised_entry, raised_in, raised_in_each, raised_value}
use Rattle.constraint_sys.proofs.Covering.{AreAlike-raised, AreAlike-shaped, CoversValue-refl, raised_value-same}
use Rattle.constraint_sys.proofs.Entries.{cases_unknown, there_value, unknown_eq-refl, value_at-absent, value_at-head, value_at-kept, value_at-other, value_at-set}
use Rattle.constraint_sys.proofs.SameMarks.{raised_value-members}
use Rattle.constraint_sys.proofs.Raising.{Grows, Grows-arising, Grows-refl, Grows-trans, All-CanRaise_grown}

-- ---- entries that are set
module _ (u : Unknown) (w : Value) where
  append_step : (e : Unknown × Value) (t xs : TableValue) (b : Bool) → IsSome (cond b (Some e.1) (value_at t u)) → (IsThere t u → with_value (t ++ xs) u w ≡ with_value t u w ++ xs)
      → cond b ((e.0, w) ∷ (t ++ xs)) (e ∷ with_value (t ++ xs) u w) ≡ cond b ((e.0, w) ∷ t) (e ∷ with_value t u w) ++ xs
  append_step e t xs true there later = refl
  append_step e t xs false there later = ap (λ (l : TableValue). e ∷ l) (later there)

  pub with_value-append : (t xs : TableValue) → IsThere t u → with_value (t ++ xs) u w ≡ with_value t u w ++ xs
  with_value-append [] xs there = absurd (true≢false (sym there))
  with_value-append (e ∷ t) xs there = append_step e t xs (unknown_eq u e.0) there (with_value-append t xs)

  same_step : (e : Unknown × Value) (t : TableValue) (b : Bool) → cond b (Some e.1) (value_at t u) ≡ Some w → (value_at t u ≡ Some w → with_value t u w ≡ t) → cond b ((e.0, w) ∷ t) (e ∷ with_value t u w) ≡ e ∷ t
  same_step e t true at later = (let value : e.1 ≡ w = cc at in λ i. (e.0, sym value i) ∷ t)
  same_step e t false at later = ap (λ (l : TableValue). e ∷ l) (later at)

  pub with_value-same : (t : TableValue) → value_at t u ≡ Some w → with_value t u w ≡ t
  with_value-same [] at = absurd (true≢false (sym (ap is_some at)))
  with_value-same (e ∷ t) at = same_step e t (unknown_eq u e.0) at (with_value-same t)

  twice_step : (v : Value) (e : Unknown × Value) (t : TableValue) (b : Bool) → unknown_eq u e.0 ≡ b → with_value (with_value t u v) u w ≡ with_value t u w
      → with_value (cond b ((e.0, v) ∷ t) (e ∷ with_value t u v)) u w ≡ cond b ((e.0, w) ∷ t) (e ∷ with_value t u w)
  twice_step v e t true same later = rw same refl
  twice_step v e t false same later = rw same (ap (λ (l : TableValue). e ∷ l) later)

  twice_first : (v : Value) → with_value (with_value [] u v) u w ≡ with_value [] u w
  twice_first v = rw (unknown_eq-refl u) refl

  pub with_value-twice : (v : Value) (t : TableValue) → with_value (with_value t u v) u w ≡ with_value t u w
  with_value-twice v [] = twice_first v
  with_value-twice v (e ∷ t) = twice_step v e t (unknown_eq u e.0) refl (with_value-twice v t)

-- ---- what arises goes by which unknowns are there
module _ (p : Program) (t : TableValue) (u : Unknown) (w : Value) (there : IsThere t u) where
  set_there : (r : Unknown) → is_some (value_at (with_value t u w) r) ≡ is_some (value_at t r)
  set_there r = elim (cases_unknown r u) [
    | inl same ↦ subst (λ (q : Unknown). is_some (value_at (with_value t u w) q) ≡ is_some (value_at t q)) (sym same) (ap is_some (value_at-set t u w) ∙ sym there)
    | inr other ↦ ap is_some (value_at-other t u w r other)
  ]

  none_from : (a b : Option Value) → is_some a ≡ is_some b → is_none a ≡ is_none b
  none_from None None same = refl
  none_from None (Some y) same = absurd (true≢false (sym same))
  none_from (Some x) None same = absurd (true≢false same)
  none_from (Some x) (Some y) same = refl

  arising_set : (x : Unknown) (v : Value) → arising p (with_value t u w) x v ≡ arising p t x v
  arising_set x v =
      ap (λ (l : TableValue). (x, v) ∷ l)
      (filter_agree (is_absent (with_value t u w)) (is_absent t) (λ e. none_from (value_at (with_value t u w) e.0) (value_at t e.0) (set_there e.0)) (fellows p x))

  absent_from : (a b : Option Value) → is_some a ≡ is_some b → b ≡ None → a ≡ None
  absent_from None b same none = refl
  absent_from (Some x) b same none = absurd (true≢false (same ∙ ap is_some none))

  arisen_set : (e : Effect) → (o : Option Value) → value_at t e.target ≡ o → arisen_in p (with_value t u w) e ≡ with_value (arisen_entry p t e o) u w
  arisen_set e (Some old) at =
      let found = there_value (value_at (with_value t u w) e.target) (set_there e.target ∙ ap is_some at) in
      ap (arisen_entry p (with_value t u w) e) found.1
  arisen_set e None at =
      ap (arisen_entry p (with_value t u w) e) (absent_from (value_at (with_value t u w) e.target) (value_at t e.target) (set_there e.target) at)
      ∙ ap (λ (l : TableValue). with_value t u w ++ l) (arising_set e.target e.value)
      ∙ sym (with_value-append u w t (arising p t e.target e.value) there)

module _ (p : Program) where
  -- what was there is kept
  entry_kept : (t : TableValue) (e : Effect) (r : Unknown) → IsThere t r → (o : Option Value) → value_at (arisen_entry p t e o) r ≡ value_at t r
  entry_kept t e r there (Some old) = refl
  entry_kept t e r there None = value_at-kept r t (arising p t e.target e.value) there

  pub arisen_kept : (t : TableValue) (es : List Effect) (r : Unknown) → IsThere t r → value_at (arisen_in_each p t es) r ≡ value_at t r
  arisen_kept t [] r there = refl
  arisen_kept t (e ∷ es) r there =
      let first = entry_kept t e r there (value_at t e.target) in
      arisen_kept (arisen_in p t e) es r (ap is_some first ∙ there) ∙ first

  arisen_each_set : (t : TableValue) (u : Unknown) (w : Value) (es : List Effect) → IsThere t u → arisen_in_each p (with_value t u w) es ≡ with_value (arisen_in_each p t es) u w
  arisen_each_set t u w [] there = refl
  arisen_each_set t u w (e ∷ es) there =
      ap (λ (s : TableValue). arisen_in_each p s es) (arisen_set p t u w there e (value_at t e.target) refl)
      ∙ arisen_each_set (arisen_in p t e) u w es (ap is_some (entry_kept t e u there (value_at t e.target)) ∙ there)

  alike_itself : (v : Value) → AreAlike v v
  alike_itself (State s) = refl
  alike_itself (Number x) = tt

  value_itself : (v : Value) → raised_value (thresholds_of p) v v ≡ v
  value_itself v = raised_value-same (thresholds_of p) v v (alike_itself v) (CoversValue-refl v)

  head_there : (t : TableValue) (e : Effect) → value_at t e.target ≡ None → value_at (t ++ arising p t e.target e.value) e.target ≡ Some e.value
  head_there t e none = value_at-absent e.target t (arising p t e.target e.value) none ∙ value_at-head e.target e.value (filter (is_absent t) (fellows p e.target))

  -- a raise before the rest arises, or after
  exchanged : (t : TableValue) (e : Effect) (es : List Effect) (o : Option Value) → value_at t e.target ≡ o
      → raised_in p (arisen_in_each p (arisen_entry p t e o) es) e.target e.value ≡ arisen_in_each p (raised_entry p t e.target e.value o) es
  exchanged t e es (Some old) at =
      let new = raised_value (thresholds_of p) old e.value in
      ap (raised_entry p (arisen_in_each p t es) e.target e.value) (arisen_kept t es e.target (ap is_some at) ∙ at)
      ∙ sym (arisen_each_set t e.target new es (ap is_some at))
  exchanged t e es None at =
      let grown = t ++ arising p t e.target e.value in
      let later = arisen_in_each p grown es in
      let here : value_at later e.target ≡ Some e.value = arisen_kept grown es e.target (ap is_some (head_there t e at)) ∙ head_there t e at in
      ap (raised_entry p later e.target e.value) here
      ∙ ap (λ (v : Value). with_value later e.target v) (value_itself e.value)
      ∙ with_value-same e.target e.value later here

  pub raised_arisen : (t : TableValue) (es : List Effect) → raised_in_each p (arisen_in_each p t es) es ≡ raised_in_each p t es
  raised_arisen t [] = refl
  raised_arisen t (e ∷ es) =
      ap (λ (s : TableValue). raised_in_each p s es) (exchanged t e es (value_at t e.target) refl)
      ∙ raised_arisen (raised_in p t e.target e.value) es

  -- ---- what has arisen
  grows_by : (t : TableValue) (e : Effect) → CanRaise p t e → (o : Option Value) → value_at t e.target ≡ o → Grows p t (arisen_entry p t e o)
  grows_by t e can (Some old) at = Grows-refl p t
  grows_by t e can None at = elim can.target [
    | inl there ↦ absurd (true≢false (sym there ∙ ap is_some at))
    | inr may ↦ Grows-arising p t e.target e.value at can.fits may.0
  ]

  there_by : (t : TableValue) (e : Effect) → (o : Option Value) → value_at t e.target ≡ o → IsThere (arisen_entry p t e o) e.target
  there_by t e (Some old) at = ap is_some at
  there_by t e None at = ap is_some (head_there t e at)

  pub Grows-arisen : (t : TableValue) (es : List Effect) → All (CanRaise p t) es → Grows p t (arisen_in_each p t es)
  Grows-arisen t [] can = Grows-refl p t
  Grows-arisen t (e ∷ es) can =
      let first = grows_by t e (All-head (CanRaise p t) e es can) (value_at t e.target) refl in
      Grows-trans p t (arisen_in p t e) (arisen_in_each p (arisen_in p t e) es) first
      (Grows-arisen (arisen_in p t e) es (All-CanRaise_grown p t (arisen_in p t e) es first (All-tail (CanRaise p t) e es can)))

  pub arisen_there : (t : TableValue) (es : List Effect) → All (λ (e : Effect). IsThere (arisen_in_each p t es) e.target) es
  arisen_there t [] = All-nil (λ (e : Effect). IsThere t e.target)
  arisen_there t (e ∷ es) =
      let mid = arisen_in p t e in
      let here = there_by t e (value_at t e.target) refl in
      All-cons (λ (x : Effect). IsThere (arisen_in_each p mid es) x.target) e es (ap is_some (arisen_kept mid es e.target here) ∙ here) (arisen_there mid es)

  like_by : (t : TableValue) (e : Effect) → IsShaped p t → CanRaise p t e → (o : Option Value) → value_at t e.target ≡ o → IsSome o → IsSomeAnd o (λ (old : Value). AreAlike old e.value)
  like_by t e shaped can None at there = absurd (true≢false (sym there))
  like_by t e shaped can (Some old) at there = AreAlike-shaped p e.target old e.value (shaped e.target old at) can.fits

  likes : (t : TableValue) (es : List Effect) → IsShaped p t → All (CanRaise p t) es → All (λ (e : Effect). IsThere t e.target) es → All (IsLike t) es
  likes t [] shaped can there = All-nil (IsLike t)
  likes t (e ∷ es) shaped can there =
      All-cons (IsLike t) e es (like_by t e shaped (All-head (CanRaise p t) e es can) (value_at t e.target) refl (All-head (λ (x : Effect). IsThere t x.target) e es there))
      (likes t es shaped (All-tail (CanRaise p t) e es can) (All-tail (λ (x : Effect). IsThere t x.target) e es there))

  pub IsLike-arisen : (t : TableValue) (es : List Effect) → IsShaped p t → All (CanRaise p t) es → All (IsLike (arisen_in_each p t es)) es
  IsLike-arisen t es shaped can =
      let grows = Grows-arisen t es can in
      likes (arisen_in_each p t es) es (grows.shaped shaped) (All-CanRaise_grown p t (arisen_in_each p t es) es grows can) (arisen_there t es)

  -- raises of unknowns that are there bring none
  one_there : (t : TableValue) (e : Effect) (r : Unknown) → IsThere t e.target → (o : Option Value) → value_at t e.target ≡ o → is_some (value_at (raised_entry p t e.target e.value o) r) ≡ is_some (value_at t r)
  one_there t e r there None at = absurd (true≢false (sym there ∙ ap is_some at))
  one_there t e r there (Some old) at = set_there p t e.target (raised_value (thresholds_of p) old e.value) there r

  pub raised_there : (t : TableValue) (es : List Effect) (r : Unknown) → All (λ (e : Effect). IsThere t e.target) es → is_some (value_at (raised_in_each p t es) r) ≡ is_some (value_at t r)
  raised_there t [] r there = refl
  raised_there t (e ∷ es) r there =
      let mid = raised_in p t e.target e.value in
      let here = All-head (λ (x : Effect). IsThere t x.target) e es there in
      let kept : (q : Unknown) → is_some (value_at mid q) ≡ is_some (value_at t q) = λ q. one_there t e q here (value_at t e.target) refl in
      raised_there mid es r (All-weaker (λ (x : Effect). IsThere t x.target) (λ (x : Effect). IsThere mid x.target) (λ x one. kept x.target ∙ one) es (All-tail (λ (x : Effect). IsThere t x.target) e es there))
      ∙ kept r

  -- the same unknowns are there after the turn as once all have arisen
  pub there_after : (t : TableValue) (es : List Effect) (r : Unknown) → is_some (value_at (raised_in_each p t es) r) ≡ is_some (value_at (arisen_in_each p t es) r)
  there_after t es r =
      ap (λ (s : TableValue). is_some (value_at s r)) (sym (raised_arisen t es)) ∙ raised_there (arisen_in_each p t es) es r (arisen_there t es)

-- ---- a raise in place
pub like_case : (t : TableValue) (e x : Effect) (old new : Value) → value_at t e.target ≡ Some old → IsLike t x → (x.target ≡ e.target) ⊎ (x.target ≢ e.target) → (AreAlike old x.value → AreAlike new x.value) → IsLike (with_value t e.target new) x
like_case t e x old new at like (inr other) changes = subst (λ (o : Option Value). IsSomeAnd o (λ (v : Value). AreAlike v x.value)) (sym (value_at-other t e.target new x.target other)) like
like_case t e x old new at like (inl same) changes =
    let before : AreAlike old x.value = subst (λ (o : Option Value). IsSomeAnd o (λ (v : Value). AreAlike v x.value)) (ap (value_at t) same ∙ at) like in
    subst (λ (o : Option Value). IsSomeAnd o (λ (v : Value). AreAlike v x.value)) (sym (ap (value_at (with_value t e.target new)) same ∙ value_at-set t e.target new)) (changes before)

-- ---- what arises, one effect after the other
none_of : (o : Option Value) (b : Bool) → is_none o ≡ b → b ≡ true → o ≡ None
none_of None b is passes = refl
none_of (Some v) b is passes = absurd (true≢false (sym passes ∙ sym is))

some_of : (o : Option Value) (b : Bool) → is_none o ≡ b → b ≡ false → IsSome o
some_of None b is fails = absurd (true≢false (is ∙ fails))
some_of (Some v) b is fails = refl

module _ (p : Program) (t : TableValue) (e : Effect) (b : Bool) (tells : is_none (value_at t e.target) ≡ b) where
  pub arisen_absent : b ≡ true → arisen_in p t e ≡ t ++ arising p t e.target e.value
  arisen_absent absent = ap (arisen_entry p t e) (none_of (value_at t e.target) b tells absent)

  pub arisen_present : b ≡ false → arisen_in p t e ≡ t
  arisen_present there = let found = there_value (value_at t e.target) (some_of (value_at t e.target) b tells there) in ap (arisen_entry p t e) found.1

pub Grows-one : (p : Program) (t : TableValue) (e : Effect) → CanRaise p t e → Grows p t (arisen_in p t e)
Grows-one p t e can = grows_by p t e can (value_at t e.target) refl

pub can_rest : (p : Program) (t new : TableValue) (e : Effect) (es : List Effect) → new ≡ arisen_in p t e → All (CanRaise p t) (e ∷ es) → All (CanRaise p new) es
can_rest p t new e es is can =
    subst (λ (s : TableValue). All (CanRaise p s) es) (sym is)
    (All-CanRaise_grown p t (arisen_in p t e) es (Grows-one p t e (All-head (CanRaise p t) e es can)) (All-tail (CanRaise p t) e es can))

pub begins_still : (old t xs new : TableValue) → (more : TableValue) × (t ≡ old ++ more) → new ≡ t ++ xs → (more : TableValue) × (new ≡ old ++ more)
begins_still old t xs new begins is = (begins.0 ++ xs, is ∙ ap (λ (s : TableValue). s ++ xs) begins.1 ∙ append_assoc old begins.0 xs)

-- ---- one raise in place
pub record RaisesInPlace (marks : List ℤ) (t new : TableValue) (e : Effect) (es : List Effect) : Type 0 where
  pub alike : All (IsLike new) es
  pub raised : (p : Program) → AreThresholdsOf p marks → raised_in p t e.target e.value ≡ new

in_place : (marks : List ℤ) (t new : TableValue) (e : Effect) (es : List Effect) → All (IsLike t) (e ∷ es) → ((old : Value) → value_at t e.target ≡ Some old → new ≡ with_value t e.target (raised_value marks old e.value))
    → (o : Option Value) → value_at t e.target ≡ o → RaisesInPlace marks t new e es
in_place marks t new e es alike made None at = absurd (subst (λ (o : Option Value). IsSomeAnd o (λ (old : Value). AreAlike old e.value)) at (All-head (IsLike t) e es alike))
in_place marks t new e es alike made (Some old) at =
    let w = raised_value marks old e.value in
    let here : AreAlike old e.value = subst (λ (o : Option Value). IsSomeAnd o (λ (x : Value). AreAlike x e.value)) at (All-head (IsLike t) e es alike) in
    let is = made old at in
    record {
      alike = subst (λ (s : TableValue). All (IsLike s) es) (sym is)
          (All-weaker (IsLike t) (IsLike (with_value t e.target w)) (λ x one. like_case t e x old w at one (cases_unknown x.target e.target) (λ before. AreAlike-raised marks old e.value x.value here before)) es (All-tail (IsLike t) e es alike));
      raised = λ p same. ap (raised_entry p t e.target e.value) at ∙ ap (λ (v : Value). with_value t e.target v) (raised_value-members (thresholds_of p) marks same old e.value) ∙ sym is;
    }

pub RaisesInPlace-made : (marks : List ℤ) (t new : TableValue) (e : Effect) (es : List Effect) → All (IsLike t) (e ∷ es) → ((old : Value) → value_at t e.target ≡ Some old → new ≡ with_value t e.target (raised_value marks old e.value)) → RaisesInPlace marks t new e es
RaisesInPlace-made marks t new e es alike made = in_place marks t new e es alike made (value_at t e.target) refl
