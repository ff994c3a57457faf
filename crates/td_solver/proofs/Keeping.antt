-- Noted reads, kept from turn to turn.
use Rattle.std.proofs.Common.{◌≡◌, ◌≢◌, ◌↔◌, ◌⊎◌, ◌+◌, ◌<◌, inl, inr, ℕ, zero, suc, Bool, cond, List, Option, None, Some, length, refl, sym, ap, ◌∙◌, arith, slice_get, subst}
use Rattle.std.proofs.lemmas.Bool.{cases_lt}
use Rattle.std.proofs.lemmas.List.{length-map}
use Rattle.std.proofs.lemmas.Option.{slice_get_within}
use Rattle.std.specs.Map.{keys_of}
use Rattle.std.specs.Prelude.{Contains}
use Rattle.gob_tree.specs.Formed.{IsFormed}
use Rattle.gob_tree.specs.declared.graph.Program.{Program}
use Rattle.constraint_sys.specs.Arising.{IsInner}
use Rattle.constraint_sys.specs.Contribution.{read_by}
use Rattle.constraint_sys.specs.Reading.{HasCommon}
use Rattle.constraint_sys.specs.Sound.{CanTurn, IsTurnable}
use Rattle.constraint_sys.specs.Table.{TableValue, IsThere, value_at}
use Rattle.constraint_sys.specs.Turn.{IsBrought, ReadsRisen, Rose, Solving, Turns, raises_of, table_after}
use Rattle.constraint_sys.specs.declared.unknown.Unknown.{Unknown}
use Rattle.constraint_sys.specs.declared.unknown.Unknown.TheVariants.{Point, Global}
use Rattle.constraint_sys.specs.declared.value.Contribution.{Contribution}
use Rattle.constraint_sys.specs.declared.value.Value.{Value}
use Rattle.constraint_sys.proofs.Awakening.{place_of}
use Rattle.constraint_sys.proofs.Entries.{cases_unknown, unknown_eq-apart, unknown_eq-refl}
use Rattle.constraint_sys.proofs.Locality.{ShowsSame, contribution-local}
use Rattle.constraint_sys.proofs.Ordered.{Contains-nil}
use Rattle.constraint_sys.proofs.Rising.{Rose-unbounded, rose_or_same}
use Rattle.constraint_sys.proofs.Turning.{CanRaise-turn, Grows-turn, some_from, there_from}
use Rattle.dep_index.specs.Noted.{Notes, noted, reads_of}
use Rattle.dep_index.proofs.Stepping.{cases_contains}
use Rattle.td_solver.specs.Noting.{IsNoted}

-- ---- points
pub can_turn : (t : TableValue) (u : Unknown) → IsInner u → IsThere t u → CanTurn t u
can_turn t (Point f key zero) inner there = absurd inner
can_turn t (Point f key (suc node)) inner there = there
can_turn t (Global g) inner there = absurd inner

pub turns_inner : (t : TableValue) (u : Unknown) → CanTurn t u → IsInner u
turns_inner t (Point f key zero) can = absurd can
turns_inner t (Point f key (suc node)) can = tt
turns_inner t (Global g) can = absurd can

turns_there : (t : TableValue) (u : Unknown) → CanTurn t u → value_at t u ≢ None
turns_there t (Point f key zero) can = absurd can
turns_there t (Point f key (suc node)) can = some_from (value_at t (Point f key (suc node))) can
turns_there t (Global g) can = absurd can

-- what has reads and is there can turn
reads_turn : (p : Program) (t : TableValue) (q r : Unknown) → Contains (read_by p t q) r → value_at t q ≢ None → CanTurn t q
reads_turn p t (Point f key zero) r one there = absurd (Contains-nil r one)
reads_turn p t (Point f key (suc node)) r one there = there_from (value_at t (Point f key (suc node))) there
reads_turn p t (Global g) r one there = absurd (Contains-nil r one)

-- an unknown that can turn stands at a place of the table
pub stands : (t : TableValue) (q : Unknown) → CanTurn t q → (k : ℕ) × (k < length t) × (slice_get (keys_of t) k ≡ Some q)
stands t q can =
    let place = place_of t q (there_from (value_at t q) (turns_there t q can)) in
    let within = slice_get_within (keys_of t) place.0 q place.1 in
    let room : length (keys_of t) ≡ length t = length-map t (λ (e : Unknown × Value). e.0) in
    (place.0, omega (arith, within, room), place.1)

-- ---- one place more
pub exact_more : {A : Type 0} (t : TableValue) (i : ℕ) (q : Unknown) (k : ℕ) → k < i + 1 → slice_get (keys_of t) k ≡ Some q → (slice_get (keys_of t) i ≡ Some q → A) → (k < i → A) → A
exact_more t i q k below at last before = elim (cases_lt k i) [
  | inl less ↦ before less
  | inr past ↦ last (let same : k ≡ i = omega (arith, below, past) in subst (λ (n : ℕ). slice_get (keys_of t) n ≡ Some q) same at)
]

-- ---- picking from a list
module _ (P : Unknown → Type 0) (old now : List Unknown) where
  pub picked_more : (more front longer : List Unknown) (x w : Unknown) → Contains longer w ↔ (Contains front w ⊎ (w ≡ x)) → P x → Contains more w ↔ (Contains now w ⊎ (w ≡ x))
      → Contains now w ↔ (Contains old w ⊎ (Contains front w × P w)) → Contains more w ↔ (Contains old w ⊎ (Contains longer w × P w))
  picked_more more front longer x w step picked put so_far = (
    λ one. elim (put.0 one) [
      | inl before ↦ elim (so_far.0 before) [ inl first ↦ inl first | inr both ↦ inr (step.1 (inl both.0), both.1) ]
      | inr same ↦ inr (step.1 (inr same), subst P (sym same) picked)
    ],
    λ either. put.1 (elim either [
      | inl first ↦ inl (so_far.1 (inl first))
      | inr both ↦ elim (step.0 both.0) [ inl before ↦ inl (so_far.1 (inr (before, both.1))) | inr same ↦ inr same ]
    ]),
  )

  pub picked_none : (front longer : List Unknown) (x w : Unknown) → Contains longer w ↔ (Contains front w ⊎ (w ≡ x)) → (P x → ⊥)
      → Contains now w ↔ (Contains old w ⊎ (Contains front w × P w)) → Contains now w ↔ (Contains old w ⊎ (Contains longer w × P w))
  picked_none front longer x w step off so_far = (
    λ one. elim (so_far.0 one) [ inl first ↦ inl first | inr both ↦ inr (step.1 (inl both.0), both.1) ],
    λ either. so_far.1 (elim either [
      | inl first ↦ inl first
      | inr both ↦ elim (step.0 both.0) [ inl before ↦ inr (before, both.1) | inr same ↦ absurd (off (subst P same both.1)) ]
    ]),
  )

-- the readers of one unknown more
pub awake_more : {Now More Readers Waits : Type 0} (reads : List Unknown) (front longer : List Unknown) (r : Unknown) → ((w : Unknown) → Contains longer w ↔ (Contains front w ⊎ (w ≡ r)))
    → Readers ↔ Contains reads r → More ↔ (Now ⊎ (Readers × Waits)) → Now ↔ (HasCommon front reads × Waits) → More ↔ (HasCommon longer reads × Waits)
awake_more reads front longer r step readers more so_far = (
  λ one. elim (more.0 one) [
    | inl before ↦ (let both = so_far.0 before in ((both.0.0, (step both.0.0).1 (inl both.0.1), both.0.2), both.1))
    | inr both ↦ ((r, (step r).1 (inr refl), readers.0 both.0), both.1)
  ],
  λ both. more.1 (elim ((step both.0.0).0 both.0.1) [
    | inl before ↦ inl (so_far.1 ((both.0.0, before, both.0.2), both.1))
    | inr same ↦ inr (readers.1 (subst (λ (z : Unknown). Contains reads z) same both.0.2), both.1)
  ]),
)

-- ---- a note of the point that is to be turned
pub noted_here : (notes : Notes) (u : Unknown) (xs : List Unknown) → noted notes u xs u ≡ xs
noted_here notes u xs = ap (λ (b : Bool). cond b xs (reads_of notes u)) (unknown_eq-refl u)

pub noted_there : (notes : Notes) (u q : Unknown) (xs : List Unknown) → q ≢ u → noted notes u xs q ≡ reads_of notes q
noted_there notes u q xs apart = ap (λ (b : Bool). cond b xs (reads_of notes q)) (unknown_eq-apart q u apart)

module _ (p : Program) (s : Solving) (u : Unknown) (old new : Notes) (is_noted : IsNoted p s old) (dirty : Contains s.dirty u) (can : CanTurn s.table u) (told : (q : Unknown) → reads_of new q ≡ noted old u (read_by p s.table u) q) where
  pub note_own : reads_of new u ≡ read_by p s.table u
  note_own = told u ∙ noted_here old u (read_by p s.table u)

  note_other : (q : Unknown) → q ≢ u → reads_of new q ≡ reads_of old q
  note_other q apart = told q ∙ noted_there old u q (read_by p s.table u) apart

  note_points : (q r : Unknown) → Contains (reads_of new q) r → CanTurn s.table q
  note_points q r one = elim (cases_unknown q u) [
    | inl same ↦ subst (λ (z : Unknown). CanTurn s.table z) (sym same) can
    | inr apart ↦ is_noted.points q r (subst (λ (l : List Unknown). Contains l r) (note_other q apart) one)
  ]

  pub IsNoted-noted : IsNoted p s new
  IsNoted-noted = record {
    points = note_points;
    exact = λ q there clean. elim (cases_unknown q u) [
      | inl same ↦ absurd (clean (subst (λ (z : Unknown). Contains s.dirty z) (sym same) dirty))
      | inr apart ↦ note_other q apart ∙ is_noted.exact q there clean
    ];
  }

-- of the turned point and of each clean one the noted reads are the present ones
module _ (p : Program) (s : Solving) (u : Unknown) (notes : Notes) (is_noted : IsNoted p s notes) (own : reads_of notes u ≡ read_by p s.table u) where
  present : (q : Unknown) → CanTurn s.table q → (q ≡ u) ⊎ (Contains s.dirty q → ⊥) → reads_of notes q ≡ read_by p s.table q
  present q there either = elim either [
    | inl same ↦ ap (reads_of notes) same ∙ own ∙ ap (read_by p s.table) (sym same)
    | inr clean ↦ is_noted.exact q there clean
  ]

  -- ---- the readers of what rises
  module _ (rose awake : List Unknown) (rises : (r : Unknown) → Contains rose r ↔ Rose s.table (table_after p s.table u) r) (q : Unknown)
      (found : Contains awake q ↔ (HasCommon rose (reads_of notes q) × ((q ≡ u) ⊎ (Contains s.dirty q → ⊥)))) where
    pub awake_reads : Contains awake q → ReadsRisen p s.table (table_after p s.table u) q
    awake_reads one =
        let both = found.0 one in
        let r = both.0.0 in
        let there = is_noted.points q r both.0.2 in
        (turns_there s.table q there, (r, subst (λ (l : List Unknown). Contains l r) (present q there both.1) both.0.2, (rises r).0 both.0.1))

    pub reads_awake : ReadsRisen p s.table (table_after p s.table u) q → Contains awake q ⊎ ((Contains s.dirty q) × (q ≢ u))
    reads_awake risen =
        let r = risen.1.0 in
        let there = reads_turn p s.table q r risen.1.1 risen.0 in
        let by : (q ≡ u) ⊎ (Contains s.dirty q → ⊥) → Contains awake q = λ either.
        found.1 ((r, (rises r).1 risen.1.2, subst (λ (l : List Unknown). Contains l r) (sym (present q there either)) risen.1.1), either) in
        elim (cases_unknown q u) [
          | inl same ↦ inl (by (inl same))
          | inr apart ↦ elim (cases_contains s.dirty q) [
            | inl waits ↦ inr (waits, apart)
            | inr clean ↦ inl (by (inr clean))
          ]
        ]

-- ---- after a turn
module _ (p : Program) (formed : IsFormed p) (old new : Solving) (u : Unknown) (turn : Turns p old u new) (turnable : IsTurnable p old) where
  can : CanTurn old.table u
  can = turnable.dirty_points u turn.was_dirty

  -- a point that doesn't read what rose reads what is shown as before
  same_shown : (q : Unknown) → value_at old.table q ≢ None → (Contains new.dirty q → ⊥) → (r : Unknown) → Contains (read_by p old.table q) r → ShowsSame old.table new.table r
  same_shown q there clean r reads = elim (rose_or_same p old.table (raises_of p old.table u) turnable.shaped (CanRaise-turn p formed old.table turnable.shaped u can) r) [
    | inl unbounded ↦
        (let rose : Rose old.table new.table r = subst (λ (t : TableValue). Rose old.table t r) (sym turn.table) (Rose-unbounded p old.table (raises_of p old.table u) turnable.shaped (CanRaise-turn p formed old.table turnable.shaped u can) r unbounded) in
        absurd (clean ((turn.dirty q).1 (inr (inr (there, (r, reads, rose)))))))
    | inr same ↦ subst (λ (t : TableValue). ShowsSame old.table t r) (sym turn.table) same
  ]

  same_reads : (q : Unknown) → CanTurn old.table q → (Contains new.dirty q → ⊥) → read_by p new.table q ≡ read_by p old.table q
  same_reads (Point f key zero) there clean = absurd there
  same_reads (Point f key (suc node)) there clean =
      ap (λ (c : Contribution). c.reads) (contribution-local p old.table new.table f key (suc node) (same_shown (Point f key (suc node)) (some_from (value_at old.table (Point f key (suc node))) there) clean))
  same_reads (Global g) there clean = absurd there

  was_by : (f : ℕ) (node : ℕ) (q : Unknown) → (o : Option Value) → value_at old.table q ≡ o → (value_at old.table q ≡ None → IsBrought old.table new.table q) → (Contains new.dirty q → ⊥) → value_at old.table q ≢ None
  was_by f node q None at brought clean = absurd (clean ((turn.dirty q).1 (inr (inl (brought at)))))
  was_by f node q (Some v) at brought clean = λ none. (let both : Some v ≡ None = sym at ∙ none in cc both)

  -- a clean point that is there was there
  was_there : (q : Unknown) → CanTurn new.table q → (Contains new.dirty q → ⊥) → CanTurn old.table q
  was_there (Point f key zero) there clean = absurd there
  was_there (Point f key (suc node)) there clean =
      let q = Point f key (suc node) in
      there_from (value_at old.table q) (was_by f node q (value_at old.table q) refl (λ none. (none, some_from (value_at new.table q) there)) clean)
  was_there (Global g) there clean = absurd there

  grown : (q : Unknown) → CanTurn old.table q → CanTurn new.table q
  grown (Point f key zero) there = absurd there
  grown (Point f key (suc node)) there = (Grows-turn p formed old new u turn turnable.shaped can).there (Point f key (suc node)) there
  grown (Global g) there = absurd there

  pub IsNoted-turned : (notes : Notes) → IsNoted p old notes → reads_of notes u ≡ read_by p old.table u → IsNoted p new notes
  IsNoted-turned notes before own = record {
    points = λ q r one. grown q (before.points q r one);
    exact = λ q there clean.
        let old_there = was_there q there clean in
        elim (cases_unknown q u) [
          | inl same ↦ ap (reads_of notes) same ∙ own ∙ ap (read_by p old.table) (sym same) ∙ sym (same_reads q old_there clean)
          | inr apart ↦ before.exact q old_there (λ waits. clean ((turn.dirty q).1 (inl (waits, apart)))) ∙ sym (same_reads q old_there clean)
        ];
  }
