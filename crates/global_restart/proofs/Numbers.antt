-- New numbers, as the matches give them.
use Rattle.std.proofs.Common.{◌≡◌, ◌↔◌, ◌⊎◌, inl, inr, IsTrue, Bool, true, false, true≢false, ℕ, ◌+◌, ◌<◌, ◌≤◌, List, length, Option, None, Some, refl, sym, ap, subst, ◌∙◌, arith}
use Rattle.std.specs.Prelude.{slice_get}
use Rattle.std.proofs.lemmas.Bool.{cases_lt}
use Rattle.std.proofs.lemmas.Option.{same_Some, slice_get_within}
use Rattle.gob_tree.specs.Formed.{IsFormed}
use Rattle.gob_tree.specs.declared.graph.Program.{Program}
use Rattle.lockset_dom.specs.Members.{Holds}
use Rattle.constraint_sys.specs.declared.unknown.Key.{Key}
use Rattle.constraint_sys.specs.declared.unknown.Unknown.TheVariants.{Point, Global}
use Rattle.constraint_sys.specs.declared.value.Value.{Value}
use Rattle.constraint_sys.specs.declared.value.Value.TheVariants.{State, Number}
use Rattle.constraint_sys.specs.Carry.{Renames, RenamesLocks, RenamesValue, bottom, global, number, point, reached}
use Rattle.interval_dom.specs.Bounds.{Bounds}
use Rattle.state_dom.specs.StateValue.{StateValue, Bottom, Reached, is_reached, locks_of, slots_of}
use Rattle.carry_law.proofs.Naming.{same_mutex}
use Rattle.destabilise.specs.declared.matching.Matching.{Matching}
use Rattle.destabilise.specs.Matched.{IsMatching}

-- one mutex more is looked at
pub found_more : (locks : ℕ) (mutexes : List (Option ℕ)) (m k : ℕ) (H A : Type 0) → H ↔ ((i : ℕ) × (i < m) × Holds locks i × (slice_get mutexes i ≡ Some (Some k))) → A ↔ (H ⊎ (Holds locks m × (slice_get mutexes m ≡ Some (Some k))))
    → A ↔ ((i : ℕ) × (i < m + 1) × Holds locks i × (slice_get mutexes i ≡ Some (Some k)))
found_more locks mutexes m k H A known step = (
  λ a. elim (step.0 a) [
    | inl h ↦ (let f = known.0 h in (f.0, omega (arith, f.1), f.2, f.3))
    | inr here ↦ (m, omega arith, here.0, here.1)
  ],
  λ f. step.1 (elim (cases_lt f.0 m) [
    | inl below ↦ inl (known.1 (f.0, below, f.2, f.3))
    | inr above ↦ (let same : f.0 ≡ m = omega (arith, f.1, above) in inr (subst (λ (i : ℕ). Holds locks i) same f.2, subst (λ (i : ℕ). slice_get mutexes i ≡ Some (Some k)) same f.3))
  ]),
)

-- a mutex that is held comes under its new number
pub with_number : (locks : ℕ) (mutexes : List (Option ℕ)) (m n k : ℕ) (R B : Type 0) → Holds locks m → slice_get mutexes m ≡ Some (Some n) → R ↔ ((k ≡ n) ⊎ B) → R ↔ (B ⊎ (Holds locks m × (slice_get mutexes m ≡ Some (Some k))))
with_number locks mutexes m n k R B held at step = (
  λ r. elim (step.0 r) [
    | inl same ↦ inr (held, at ∙ ap (λ (j : ℕ). Some (Some j)) (sym same))
    | inr before ↦ inl before
  ],
  λ either. step.1 (elim either [
    | inl before ↦ inr before
    | inr both ↦ inl (same_Some k n (same_Some (Some k) (Some n) (sym both.1 ∙ at)))
  ]),
)

module _ (old new : Program) (old_formed : IsFormed old) (new_formed : IsFormed new) (m : Matching) (matching : IsMatching old new m) where
  pub number_below : (k n : ℕ) → slice_get m.mutexes k ≡ Some (Some n) → n < 8
  number_below k n at =
      let both = same_mutex old k new n ((matching.mutexes.matches_are k n).0 at) in
      let within = slice_get_within new.mutexes n both.0 both.2 in
      omega (arith, within, new_formed.mutexes_limit)

  pub locks_found : (locks found end : ℕ) → 8 ≤ end → ((k : ℕ) → Holds found k ↔ ((i : ℕ) × (i < end) × Holds locks i × (slice_get m.mutexes i ≡ Some (Some k)))) → RenamesLocks old new locks found
  locks_found locks found end all each k = (
    λ held. (let f = (each k).0 held in (f.0, f.2, (matching.mutexes.matches_are f.0 k).0 f.3)),
    λ f.
        let both = same_mutex old f.0 new k f.2 in
        let within = slice_get_within old.mutexes f.0 both.0 both.1 in
        (each k).1 (f.0, omega (arith, within, old_formed.mutexes_limit, all), f.1, (matching.mutexes.matches_are f.0 k).1 f.2),
  )

module _ (old new : Program) (m : Matching) (matching : IsMatching old new m) where
  pub point_renamed : (f g : ℕ) (key : Key) (node locks : ℕ) → slice_get m.funcs f ≡ Some (Some g) → RenamesLocks old new key.locks locks
      → Renames old new (Point f key node) (Point g (record { a = key.a; b = key.b; locks = locks }) node)
  point_renamed f g key node locks at renames = point ((matching.funcs.matches_are f g).0 at) renames

  pub global_renamed : (g h : ℕ) → slice_get m.globals g ≡ Some (Some h) → Renames old new (Global g) (Global h)
  global_renamed g h at = global ((matching.globals.matches_are g h).0 at)

-- ---- values

reached_from : (b r : Bool) → IsTrue b ↔ (r ≡ false) → b ≡ false → r ≡ true
reached_from b true tells is = refl
reached_from b false tells is = absurd (true≢false (sym (tells.1 refl) ∙ is))

module _ (old new : Program) where
  pub bottom_renamed : (s copy : StateValue) (b : Bool) → IsTrue b ↔ (is_reached s ≡ false) → b ≡ true → copy ≡ s → RenamesValue old new (State s) (State copy)
  bottom_renamed (Bottom room) copy b tells is same = subst (λ (x : StateValue). RenamesValue old new (State (Bottom room)) (State x)) (sym same) bottom
  bottom_renamed (Reached slots locks) copy b tells is same = absurd (true≢false (tells.0 is))

  reached_by : (s : StateValue) (locks : ℕ) → is_reached s ≡ true → RenamesLocks old new (locks_of s) locks → RenamesValue old new (State s) (State (Reached (slots_of s) locks))
  reached_by (Bottom room) locks is renames = absurd (true≢false (sym is))
  reached_by (Reached slots held) locks is renames = reached renames

  pub state_renamed : (s copy done : StateValue) (held locks : ℕ) (b : Bool) → IsTrue b ↔ (is_reached s ≡ false) → b ≡ false → copy ≡ s → held ≡ locks_of s → RenamesLocks old new held locks → done ≡ Reached (slots_of copy) locks
      → RenamesValue old new (State s) (State done)
  state_renamed s copy done held locks b tells is same locks_are renames done_is =
      let all : done ≡ Reached (slots_of s) locks = done_is ∙ ap (λ (x : StateValue). Reached (slots_of x) locks) same in
      subst (λ (x : StateValue). RenamesValue old new (State s) (State x)) (sym all)
      (reached_by s locks (reached_from b (is_reached s) tells is) (subst (λ (k : ℕ). RenamesLocks old new k locks) locks_are renames))

  pub value_named : (v x y : Value) → v ≡ x → RenamesValue old new x y → RenamesValue old new v y
  value_named v x y is renames = subst (λ (z : Value). RenamesValue old new z y) (sym is) renames

  pub number_renamed : (v : Value) (x : Bounds) → v ≡ Number x → RenamesValue old new v (Number x)
  number_renamed v x is = value_named v (Number x) (Number x) is number
