-- Entries that are kept, one after another.
use Rattle.std.proofs.Common.{◌≡◌, ◌≢◌, ◌⊎◌, ◌↔◌, inl, inr, ℕ, zero, suc, ◌+◌, ◌<◌, ◌≤◌, Bool, true, false, cond, List, [], ◌∷◌, ◌++◌, length, map, take, drop, Option, None, Some, refl, sym, ap, subst, ◌∙◌, arith, is_some, true≢false}
use Rattle.std.specs.Prelude.{Contains, IsSome, slice_get}
use Rattle.std.specs.List.{AllByRecursion, IsDistinct}
use Rattle.std.specs.Map.{keys_of}
use Rattle.std.proofs.lemmas.List.{take-append-drop}
use Rattle.std.proofs.lemmas.Map.Keys.{IsDistinct-head, IsDistinct-tail}
use Rattle.std.proofs.lemmas.Option.{none-some, same_Some}
use Rattle.gob_tree.specs.Formed.{IsFormed}
use Rattle.gob_tree.specs.Named.{SameFunction}
use Rattle.gob_tree.specs.declared.graph.Program.{Program}
use Rattle.constraint_sys.specs.declared.unknown.Unknown.{Unknown}
use Rattle.constraint_sys.specs.declared.unknown.Unknown.TheVariants.{Point, Global}
use Rattle.constraint_sys.specs.declared.value.Value.{Value}
use Rattle.constraint_sys.specs.Carry.{Affects, IsRemoved, KeepsEntries, LostTarget, Renames, RenamesValue, SameGlobal, kept_entry, lost_function, lost_global, lost_mutex_in_context, no_entries, removed_entry}
use Rattle.constraint_sys.specs.Table.{TableValue, IsThere, unknown_eq, value_at}
use Rattle.constraint_sys.proofs.Entries.{IsThere-append_left, unknown_eq-apart, unknown_eq-refl, value_at-head}
use Rattle.constraint_sys.proofs.Ordered.{Contains-nil, Contains-push}
use Rattle.carry_law.proofs.Origins.{Origin, origin, past_entry}
use Rattle.carry_law.proofs.Renamed.{KeepsContext, renamed, renamed_from_one, renamed_once}
use Rattle.carry_law.proofs.Tables.{key_of_there, there_of_key}
use Rattle.destabilise.specs.declared.matching.Matching.{Matching}
use Rattle.destabilise.specs.Matched.{IsMatching}
use Rattle.global_restart.specs.Keeping.{AddsEntry, HasNewNumber, LostAmong, LostAt, MarksRemoved, added, left_out}

-- ---- the entry at a place

apart_at : (k : Unknown) (us : List Unknown) (i : ℕ) (u : Unknown) → AllByRecursion (λ (y : Unknown). unknown_eq k y ≡ false) us → slice_get us i ≡ Some u → unknown_eq k u ≡ false
apart_at k [] i u all at = absurd (none-some u at)
apart_at k (x ∷ us) zero u all at = (let is : x ≡ u = same_Some x u at in subst (λ (y : Unknown). unknown_eq k y ≡ false) is all.0)
apart_at k (x ∷ us) (suc i) u all at = apart_at k us i u all.1 at

pub record EntryAt (t : TableValue) (i : ℕ) (u : Unknown) : Type 0 where
  pub value : Value
  pub more : take (i + 1) t ≡ take i t ++ (u, value) ∷ []
  pub at : value_at t u ≡ Some value
  pub before : value_at (take i t) u ≡ None

pub entry_at : (t : TableValue) → IsDistinct unknown_eq (keys_of t) → (i : ℕ) (u : Unknown) → slice_get (keys_of t) i ≡ Some u → EntryAt t i u
entry_at [] distinct i u at = absurd (none-some u at)
entry_at (e ∷ t) distinct zero u at =
    let is : e.0 ≡ u = same_Some e.0 u at in
    subst (λ (q : Unknown). EntryAt (e ∷ t) 0 q) is (record { value = e.1; more = refl; at = value_at-head e.0 e.1 t; before = refl })
entry_at (e ∷ t) distinct (suc i) u at =
    let r = entry_at t (IsDistinct-tail unknown_eq e.0 (keys_of t) distinct) i u at in
    let off : unknown_eq e.0 u ≡ false = apart_at e.0 (keys_of t) i u (IsDistinct-head unknown_eq e.0 (keys_of t) distinct) at in
    let other : u ≢ e.0 = λ same. true≢false (sym (unknown_eq-refl e.0) ∙ ap (unknown_eq e.0) (sym same) ∙ off) in
    let next : suc i + 1 ≡ suc (i + 1) = omega arith in
    record {
      value = r.value;
      more = ap (λ (n : ℕ). take n (e ∷ t)) next ∙ ap (λ (l : TableValue). e ∷ l) r.more;
      at = past_entry e.0 u e.1 t other ∙ r.at;
      before = past_entry e.0 u e.1 (take i t) other ∙ r.before;
    }

pub there_in_part : (t : TableValue) (i : ℕ) (q : Unknown) → IsThere (take i t) q → IsThere t q
there_in_part t i q there = subst (λ (l : TableValue). IsThere l q) (take-append-drop i t) (IsThere-append_left q (take i t) (drop i t) there)

-- ---- one entry more

module _ (old new : Program) (t : TableValue) where
  removed_behind : {entries kept : TableValue} → KeepsEntries old new t entries kept → (u : Unknown) (v : Value) → IsRemoved old new t u → KeepsEntries old new t (entries ++ (u, v) ∷ []) kept
  removed_behind no_entries u v removed = removed_entry removed no_entries
  removed_behind (removed_entry first rest) u v removed = removed_entry first (removed_behind rest u v removed)
  removed_behind (kept_entry stays renames same rest) u v removed = kept_entry stays renames same (removed_behind rest u v removed)

  kept_behind : {entries kept : TableValue} → KeepsEntries old new t entries kept → (u w : Unknown) (v x : Value) → (IsRemoved old new t u → ⊥) → Renames old new u w → RenamesValue old new v x → KeepsEntries old new t (entries ++ (u, v) ∷ []) (kept ++ (w, x) ∷ [])
  kept_behind no_entries u w v x keeps named same = kept_entry keeps named same no_entries
  kept_behind (removed_entry first rest) u w v x keeps named same = removed_entry first (kept_behind rest u w v x keeps named same)
  kept_behind (kept_entry stays renames equal rest) u w v x keeps named same = kept_entry stays renames equal (kept_behind rest u w v x keeps named same)

  pub keeps_more : (i : ℕ) (u : Unknown) (before after : TableValue) → EntryAt t i u → KeepsEntries old new t (take i t) before → AddsEntry old new t u before after → KeepsEntries old new t (take (i + 1) t) after
  keeps_more i u before after entry keeps (left_out removed) =
      subst (λ (l : TableValue). KeepsEntries old new t l before) (sym entry.more) (removed_behind keeps u entry.value removed)
  keeps_more i u before after entry keeps (added {w} {v} {x} stays renames at same) =
      let value : v ≡ entry.value = same_Some v entry.value (sym at ∙ entry.at) in
      subst (λ (l : TableValue). KeepsEntries old new t l (before ++ (w, x) ∷ [])) (sym entry.more)
      (kept_behind keeps u w entry.value x stays renames (subst (λ (y : Value). RenamesValue old new y x) value same))

  -- a point that stays has a context that stays
  context_keeps : (q : Unknown) → IsThere t q → (IsRemoved old new t q → ⊥) → KeepsContext old new q
  context_keeps (Point f key node) there stays = λ holds. stays (lost_mutex_in_context there holds)
  context_keeps (Global g) there stays = tt

  -- the new name of an entry isn't there yet
  fresh_by : (o : Option Value) → ((y : Value) → o ≡ Some y → ⊥) → o ≡ None
  fresh_by None none = refl
  fresh_by (Some y) none = absurd (none y refl)

  pub fresh : IsFormed old → IsFormed new → (i : ℕ) (u : Unknown) (kept : TableValue) → EntryAt t i u → KeepsEntries old new t (take i t) kept → (w : Unknown) → (IsRemoved old new t u → ⊥) → Renames old new u w → value_at kept w ≡ None
  fresh old_formed new_formed i u kept entry keeps w stays named = fresh_by (value_at kept w) (λ y at.
      let o = origin old new new_formed t keeps w y at in
      let same : o.from ≡ u = renamed_from_one old new old_formed o.from u w (context_keeps o.from (there_in_part t i o.from (ap is_some o.at)) o.stays) (context_keeps u (ap is_some entry.at) stays) (renamed o.renames) (renamed named) in
      none-some o.was (sym entry.before ∙ ap (value_at (take i t)) (sym same) ∙ o.at))

-- ---- numbers

module _ (matches : List (Option ℕ)) (Same : ℕ → ℕ → Type 0) (known : (i j : ℕ) → (slice_get matches i ≡ Some (Some j)) ↔ Same i j) where
  number_by : (i : ℕ) (o : Option (Option ℕ)) → slice_get matches i ≡ o → ((j : ℕ) × Same i j) ⊎ ((j : ℕ) → Same i j → ⊥)
  number_by i None at = inr (λ j same. none-some (Some j) (sym at ∙ (known i j).1 same))
  number_by i (Some None) at = inr (λ j same. none-some j (same_Some None (Some j) (sym at ∙ (known i j).1 same)))
  number_by i (Some (Some j)) at = inl (j, (known i j).0 at)

  pub number_or_lost : (i : ℕ) → ((j : ℕ) × Same i j) ⊎ ((j : ℕ) → Same i j → ⊥)
  number_or_lost i = number_by i (slice_get matches i) refl

pub has_number : (old new : Program) (m : Matching) (t : TableValue) → IsMatching old new m → (u : Unknown) → IsThere t u → (IsRemoved old new t u → ⊥) → HasNewNumber old new u
has_number old new m t matching (Point f key node) there stays = elim (number_or_lost m.funcs (λ (i j : ℕ). SameFunction old i new j) matching.funcs.matches_are f) [
  | inl found ↦ found
  | inr lost ↦ absurd (stays (lost_function there lost))
]
has_number old new m t matching (Global g) there stays = elim (number_or_lost m.globals (λ (i j : ℕ). SameGlobal old i new j) matching.globals.matches_are g) [
  | inl found ↦ found
  | inr lost ↦ absurd (stays (lost_global there lost))
]

-- ---- lost targets

pub lost_more : (old new : Program) (t : TableValue) (us more : List Unknown) (u q : Unknown) (H A : Type 0) → ((q2 : Unknown) → Contains more q2 ↔ (Contains us q2 ⊎ (q2 ≡ u))) → H ↔ LostAmong old new t us q → A ↔ (H ⊎ LostAt old new t u q) → A ↔ LostAmong old new t more q
lost_more old new t us more u q H A one before step = (
  λ a. elim (step.0 a) [
    | inl h ↦ (let l = before.0 h in (l.0, (one l.0).1 (inl l.1), l.2))
    | inr here ↦ (u, (one u).1 (inr refl), here)
  ],
  λ l. step.1 (elim ((one l.0).0 l.1) [
    | inl old_one ↦ inl (before.1 (l.0, old_one, l.2))
    | inr same ↦ inr (subst (λ (x : Unknown). LostAt old new t x q) same l.2)
  ]),
)

pub lost_all : (old new : Program) (t : TableValue) (us : List Unknown) (q : Unknown) (H : Type 0) → us ≡ keys_of t → H ↔ LostAmong old new t us q → H ↔ LostTarget old new t q
lost_all old new t us q H all known = (
  λ h. (let l = known.0 h in (l.0, l.2.0, l.2.1, l.2.2, l.2.3, l.2.4)),
  λ l. known.1 (l.0, subst (λ (xs : List Unknown). Contains xs l.0) (sym all) (key_of_there t l.0 l.4.0), (l.1, l.2, l.3, l.4, l.5)),
)

pub lost_none : (H B : Type 0) → (B → ⊥) → H ↔ (H ⊎ B)
lost_none H B none = (λ h. inl h, λ either. elim either [ inl h ↦ h | inr b ↦ absurd (none b) ])

pub lost_pushed : (old new : Program) → IsFormed new → (t : TableValue) (u w q : Unknown) (lost more : List Unknown) → more ≡ lost ++ w ∷ [] → Renames old new u w → (IsRemoved old new t u → ⊥) → (v : Unknown) → Affects old t u v → IsRemoved old new t v
    → Contains more q ↔ (Contains lost q ⊎ LostAt old new t u q)
lost_pushed old new formed t u w q lost more is named stays v affects removed = (
  λ one. elim ((Contains-push lost w q).0 (subst (λ (l : List Unknown). Contains l q) is one)) [
    | inl before ↦ inl before
    | inr same ↦ inr (v, subst (λ (x : Unknown). Renames old new u x) (sym same) named, stays, affects, removed)
  ],
  λ either. subst (λ (l : List Unknown). Contains l q) (sym is) ((Contains-push lost w q).1 (elim either [
    | inl before ↦ inl before
    | inr lost_at ↦ inr (renamed_once old new formed u q w (renamed lost_at.1) (renamed named))
  ])),
)

-- the points that were lost, then the nodes that were lacking
pub dirty_are : (lost lack keys start one two : List Unknown) (q : Unknown) (L : Type 0) → start ≡ [] → Contains one q ↔ (Contains start q ⊎ Contains lost q) → Contains two q ↔ (Contains one q ⊎ Contains lack q) → Contains lost q ↔ L → lack ≡ keys → Contains two q ↔ (Contains keys q ⊎ L)
dirty_are lost lack keys start one two q L none first second known same = (
  λ dirty. elim (second.0 dirty) [
    | inl early ↦ elim (first.0 early) [
      | inl nothing ↦ absurd (Contains-nil q (subst (λ (l : List Unknown). Contains l q) none nothing))
      | inr point ↦ inr (known.0 point)
    ]
    | inr node ↦ inl (subst (λ (l : List Unknown). Contains l q) same node)
  ],
  λ either. elim either [
    | inl node ↦ second.1 (inr (subst (λ (l : List Unknown). Contains l q) (sym same) node))
    | inr point ↦ second.1 (inl (first.1 (inr (known.1 point))))
  ],
)
