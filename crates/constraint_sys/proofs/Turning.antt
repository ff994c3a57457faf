-- A turn keeps a table sound.
use Rattle.std.proofs.Common.{◌≡◌, ◌≢◌, ℕ, zero, suc, inl, inr, List, [], Option, None, Some, refl, sym, ap, ◌∙◌, arith, subst, is_some, true≢false}
use Rattle.std.specs.Prelude.{All, Contains, IsSome}
use Rattle.std.proofs.lemmas.List.Elements.{All-cons, All-head, All-tail, All-weaker}
use Rattle.gob_tree.specs.Formed.{IsFormed}
use Rattle.gob_tree.specs.declared.graph.Program.{Program}
use Rattle.constraint_sys.specs.declared.unknown.Key.{Key}
use Rattle.constraint_sys.specs.declared.unknown.Unknown.{Unknown}
use Rattle.constraint_sys.specs.declared.unknown.Unknown.TheVariants.{Point, Global}
use Rattle.constraint_sys.specs.declared.value.Contribution.{Contribution}
use Rattle.constraint_sys.specs.declared.value.Effect.{Effect}
use Rattle.constraint_sys.specs.declared.value.Value.{Value}
use Rattle.constraint_sys.specs.declared.value.Value.TheVariants.{State}
use Rattle.constraint_sys.specs.Arising.{CanRaise}
use Rattle.constraint_sys.specs.Contribution.{contribution_of, read_by}
use Rattle.constraint_sys.specs.PostSolution.{BoundsAt, HasRoots, IsSatisfied, initial_value, main_start_value}
use Rattle.constraint_sys.specs.Sound.{CanTurn, IsShaped, IsSound, IsTurnable}
use Rattle.constraint_sys.specs.Table.{TableValue, IsThere, main_start, value_at}
use Rattle.constraint_sys.specs.Turn.{IsBrought, ReadsRisen, Rose, Solving, Turns, raised_in_each, raises_of}
use Rattle.constraint_sys.proofs.Contributing.{contribution_fits}
use Rattle.constraint_sys.proofs.Entries.{cases_unknown}
use Rattle.constraint_sys.proofs.Fitting.{IsFitEffect}
use Rattle.constraint_sys.proofs.Locality.{ShowsSame, contribution-local}
use Rattle.constraint_sys.proofs.Raising.{Grows, RaisesEach, RaisesEach-list}
use Rattle.constraint_sys.proofs.Rising.{Rose-unbounded, rose_or_same}

pub there_from : (o : Option Value) → o ≢ None → IsSome o
there_from None some = absurd (some refl)
there_from (Some v) some = refl

pub some_from : (o : Option Value) → IsSome o → o ≢ None
some_from o there none = true≢false (sym there ∙ ap is_some none)

suc_zero : (n : ℕ) → suc n ≡ 0 → ⊥
suc_zero n is = omega arith

pub nothing_in : {X : Type 0} (x : X) → Contains [] x → ⊥
nothing_in x (k, within, at) = omega arith

CanRaise-effects : (p : Program) (t : TableValue) (es : List Effect) → All (IsFitEffect p) es → All (CanRaise p t) es
CanRaise-effects p t es fit = All-weaker (IsFitEffect p) (CanRaise p t) (λ e one. record { fits = one.fits; target = inr (one.arises, one.shows) }) es fit

-- what a turn raises may be raised
can_raise : (p : Program) → IsFormed p → (t : TableValue) → IsShaped p t → (f : ℕ) (key : Key) (node : ℕ) → (o : Option Value) → value_at t (Point f key node) ≡ o → IsSome o → All (CanRaise p t) (raises_of p t (Point f key node))
can_raise p formed t shaped f key node None at there = absurd (true≢false (sym there))
can_raise p formed t shaped f key node (Some v) at there =
    let fit = contribution_fits p formed t shaped f key node v at in
    All-cons (CanRaise p t) _ (contribution_of p t f key node).effects
    (record { fits = fit.value; target = inl (ap is_some at) })
    (CanRaise-effects p t (contribution_of p t f key node).effects fit.effects)

pub CanRaise-turn : (p : Program) → IsFormed p → (t : TableValue) → IsShaped p t → (u : Unknown) → CanTurn t u → All (CanRaise p t) (raises_of p t u)
CanRaise-turn p formed t shaped (Point f key zero) can = absurd can
CanRaise-turn p formed t shaped (Point f key (suc node)) can = can_raise p formed t shaped f key (suc node) (value_at t (Point f key (suc node))) refl can
CanRaise-turn p formed t shaped (Global g) can = absurd can

-- ---- roots
HasRoots-grown : (p : Program) (old new : TableValue) → Grows p old new → HasRoots p old → HasRoots p new
HasRoots-grown p old new grows roots = record {
  main_there = grows.there (main_start p) roots.main_there;
  globals_there = λ g within. grows.there (Global g) (roots.globals_there g within);
  main_bounded = grows.bounds (main_start p) (main_start_value p) roots.main_bounded;
  globals_bounded = λ g decl at. grows.bounds (Global g) (initial_value decl) (roots.globals_bounded g decl at);
  nodes_there = grows.fellows roots.nodes_there;
}

-- ---- dirty points
CanTurn-grown : (p : Program) (old new : TableValue) → Grows p old new → (q : Unknown) → CanTurn old q → CanTurn new q
CanTurn-grown p old new grows (Point f key zero) can = absurd can
CanTurn-grown p old new grows (Point f key (suc node)) can = grows.there (Point f key (suc node)) can
CanTurn-grown p old new grows (Global g) can = absurd can

CanTurn-brought : (old new : TableValue) (q : Unknown) → IsBrought old new q → CanTurn new q
CanTurn-brought old new (Point f key zero) brought = absurd brought
CanTurn-brought old new (Point f key (suc node)) brought = there_from (value_at new (Point f key (suc node))) brought.1
CanTurn-brought old new (Global g) brought = absurd brought

CanTurn-reader : (p : Program) (old new : TableValue) → Grows p old new → (q : Unknown) → ReadsRisen p old new q → CanTurn new q
CanTurn-reader p old new grows (Point f key zero) risen = absurd (nothing_in risen.1.0 risen.1.1)
CanTurn-reader p old new grows (Point f key (suc node)) risen = grows.there (Point f key (suc node)) (there_from (value_at old (Point f key (suc node))) risen.0)
CanTurn-reader p old new grows (Global g) risen = absurd (nothing_in risen.1.0 risen.1.1)

dirty_kept : (p : Program) (old new : Solving) (u : Unknown) → Turns p old u new → Grows p old.table new.table → ((q : Unknown) → Contains old.dirty q → CanTurn old.table q) → (q : Unknown) → Contains new.dirty q → CanTurn new.table q
dirty_kept p old new u turn grows can q dirty = elim ((turn.dirty q).0 dirty) [
  | inl waited ↦ CanTurn-grown p old.table new.table grows q (can q waited.0)
  | inr arose ↦ elim arose [
    | inl brought ↦ CanTurn-brought old.table new.table q brought
    | inr risen ↦ CanTurn-reader p old.table new.table grows q risen
  ]
]

-- ---- one turn
module _ (p : Program) (formed : IsFormed p) (old new : Solving) (u : Unknown) (turn : Turns p old u new) (shaped : IsShaped p old.table) (can : CanTurn old.table u) where
  abbrev raises : List Effect
  raises = raises_of p old.table u

  raised : RaisesEach p old.table (raised_in_each p old.table raises) raises
  raised = RaisesEach-list p old.table raises shaped (CanRaise-turn p formed old.table shaped u can)

  pub Grows-turn : Grows p old.table new.table
  Grows-turn = subst (λ (t : TableValue). Grows p old.table t) (sym turn.table) raised.grows

  bounds_raises : All (λ (e : Effect). BoundsAt new.table e.target e.value) raises
  bounds_raises = subst (λ (t : TableValue). All (λ (e : Effect). BoundsAt t e.target e.value) raises) (sym turn.table) raised.bounded

  -- a point that isn't dirty afterwards reads what is shown as before
  reads_same : (q : Unknown) → IsThere old.table q → (Contains new.dirty q → ⊥) → (r : Unknown) → Contains (read_by p old.table q) r → ShowsSame old.table new.table r
  reads_same q there clean r reads = elim (rose_or_same p old.table raises shaped (CanRaise-turn p formed old.table shaped u can) r) [
    | inl unbounded ↦
        (let rose : Rose old.table new.table r = subst (λ (t : TableValue). Rose old.table t r) (sym turn.table) (Rose-unbounded p old.table raises shaped (CanRaise-turn p formed old.table shaped u can) r unbounded) in
        absurd (clean ((turn.dirty q).1 (inr (inr (some_from (value_at old.table q) there, (r, reads, rose)))))))
    | inr same ↦ subst (λ (t : TableValue). ShowsSame old.table t r) (sym turn.table) same
  ]

pub IsTurnable-turned : (p : Program) → IsFormed p → (old : Solving) (u : Unknown) (new : Solving) → IsTurnable p old → Turns p old u new → IsTurnable p new
IsTurnable-turned p formed old u new turnable turn =
    let grows = Grows-turn p formed old new u turn turnable.shaped (turnable.dirty_points u turn.was_dirty) in
    record {
      shaped = grows.shaped turnable.shaped;
      dirty_points = dirty_kept p old new u turn grows turnable.dirty_points;
    }

-- ---- satisfied points
-- the turned point is
turned_satisfied : (p : Program) (old : TableValue) (new : TableValue) (f : ℕ) (key : Key) (node : ℕ) → All (λ (e : Effect). BoundsAt new e.target e.value) (raises_of p old (Point f key node))
    → contribution_of p new f key node ≡ contribution_of p old f key node → IsSatisfied p new f key node
turned_satisfied p old new f key node bounded same =
    let c = contribution_of p old f key node in
    let own : Effect = record { target = Point f key node; value = State c.value } in
    record {
      value = subst (λ (d : Contribution). BoundsAt new (Point f key node) (State d.value)) (sym same) (All-head (λ (e : Effect). BoundsAt new e.target e.value) own c.effects bounded);
      effects = subst (λ (d : Contribution). All (λ (e : Effect). BoundsAt new e.target e.value) d.effects) (sym same) (All-tail (λ (e : Effect). BoundsAt new e.target e.value) own c.effects bounded);
    }

-- another point is that was
other_satisfied : (p : Program) (old new : TableValue) (f : ℕ) (key : Key) (node : ℕ) → Grows p old new → IsSatisfied p old f key node → contribution_of p new f key node ≡ contribution_of p old f key node → IsSatisfied p new f key node
other_satisfied p old new f key node grows satisfied same = record {
  value = subst (λ (d : Contribution). BoundsAt new (Point f key node) (State d.value)) (sym same) (grows.bounds (Point f key node) (State (contribution_of p old f key node).value) satisfied.value);
  effects = subst (λ (d : Contribution). All (λ (e : Effect). BoundsAt new e.target e.value) d.effects) (sym same)
      (All-weaker (λ (e : Effect). BoundsAt old e.target e.value) (λ (e : Effect). BoundsAt new e.target e.value) (λ e one. grows.bounds e.target e.value one) (contribution_of p old f key node).effects satisfied.effects);
}

module _ (p : Program) (formed : IsFormed p) (old new : Solving) (u : Unknown) (turn : Turns p old u new) (sound : IsSound p old) where
  can_turn : CanTurn old.table u
  can_turn = sound.dirty_points u turn.was_dirty

  grows : Grows p old.table new.table
  grows = Grows-turn p formed old new u turn sound.shaped can_turn

  clean_satisfied : (g : ℕ) (key : Key) (node : ℕ) → IsThere old.table (Point g key (suc node)) → (Contains new.dirty (Point g key (suc node)) → ⊥) → IsSatisfied p new.table g key (suc node)
  clean_satisfied g key node there clean =
      let q = Point g key (suc node) in
      let same = contribution-local p old.table new.table g key (suc node) (reads_same p formed old new u turn sound.shaped can_turn q there clean) in
      elim (cases_unknown q u) [
        | inl is ↦ turned_satisfied p old.table new.table g key (suc node)
            (subst (λ (x : Unknown). All (λ (e : Effect). BoundsAt new.table e.target e.value) (raises_of p old.table x)) (sym is) (bounds_raises p formed old new u turn sound.shaped can_turn)) same
        | inr other ↦ other_satisfied p old.table new.table g key (suc node) grows
            (sound.satisfied g key (suc node) there (suc_zero node) (λ dirty. clean ((turn.dirty q).1 (inl (dirty, other))))) same
      ]

  -- a point that was brought is dirty
  satisfied_by : (g : ℕ) (key : Key) (node : ℕ) → (o : Option Value) → value_at old.table (Point g key (suc node)) ≡ o → IsThere new.table (Point g key (suc node)) → (Contains new.dirty (Point g key (suc node)) → ⊥) → IsSatisfied p new.table g key (suc node)
  satisfied_by g key node (Some v) at there clean = clean_satisfied g key node (ap is_some at) clean
  satisfied_by g key node None at there clean =
      absurd (clean ((turn.dirty (Point g key (suc node))).1 (inr (inl (at, some_from (value_at new.table (Point g key (suc node))) there)))))

  satisfied : (g : ℕ) (key : Key) (node : ℕ) → IsThere new.table (Point g key node) → node ≢ 0 → (Contains new.dirty (Point g key node) → ⊥) → IsSatisfied p new.table g key node
  satisfied g key zero there inner clean = absurd (inner refl)
  satisfied g key (suc node) there inner clean = satisfied_by g key node (value_at old.table (Point g key (suc node))) refl there clean

  pub IsSound-made : IsSound p new
  IsSound-made = record {
    roots = HasRoots-grown p old.table new.table grows sound.roots;
    shaped = grows.shaped sound.shaped;
    dirty_points = dirty_kept p old new u turn grows sound.dirty_points;
    satisfied = satisfied;
  }

pub IsSound-turned : (p : Program) (old : Solving) (u : Unknown) (new : Solving) → IsFormed p → IsSound p old → Turns p old u new → IsSound p new
IsSound-turned p old u new formed sound turn = IsSound-made p formed old new u turn sound
