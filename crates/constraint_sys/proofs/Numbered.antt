-- Entries and unknowns that are numbered one by one.
use Rattle.std.proofs.Common.{ℕ, zero, suc, ◌+◌, ◌<◌, ◌≤◌, List, [], ◌∷◌, refl, ap, arith, subst, inl, inr, is_some}
use Rattle.std.specs.Prelude.{All, Contains, map}
use Rattle.std.proofs.lemmas.Bool.{cases_eq}
use Rattle.std.proofs.lemmas.List.Elements.{All-nil, All-cons, Contains-append_right}
use Rattle.constraint_sys.specs.declared.unknown.Key.{Key}
use Rattle.constraint_sys.specs.declared.unknown.Unknown.{Unknown}
use Rattle.constraint_sys.specs.declared.unknown.Unknown.TheVariants.{Point}
use Rattle.constraint_sys.specs.declared.value.Value.{Value}
use Rattle.constraint_sys.specs.Table.{TableValue, IsThere}
use Rattle.constraint_sys.specs.Turn.{numbers_from}
use Rattle.constraint_sys.proofs.Entries.{AllEntries, IsThere-cons, value_at-head}

-- what holds of each number from the first on holds of all entries, or of all unknowns
pub AllEntries-numbers : (P : Unknown → Value → Type 0) (entry : ℕ → Unknown × Value) (first count : ℕ) → ((i : ℕ) → first ≤ i → i < first + count → P (entry i).0 (entry i).1) → AllEntries P (map entry (numbers_from first count))
AllEntries-numbers P entry first zero each = tt
AllEntries-numbers P entry first (suc count) each =
    (each first (omega arith) (omega arith), AllEntries-numbers P entry (first + 1) count (λ i low high. each i (omega arith) (omega arith)))

pub All-numbers : (P : Unknown → Type 0) (unknown : ℕ → Unknown) (first count : ℕ) → ((i : ℕ) → first ≤ i → i < first + count → P (unknown i)) → All P (map unknown (numbers_from first count))
All-numbers P unknown first zero each = All-nil P
All-numbers P unknown first (suc count) each =
    All-cons P (unknown first) (map unknown (numbers_from (first + 1) count)) (each first (omega arith) (omega arith)) (All-numbers P unknown (first + 1) count (λ i low high. each i (omega arith) (omega arith)))

-- each number from the first on has its entry, or its unknown
pub IsThere-numbers : (f : ℕ) (key : Key) (v : Value) (first count i : ℕ) → first ≤ i → i < first + count → IsThere (map (λ (node : ℕ). (Point f key node, v)) (numbers_from first count)) (Point f key i)
IsThere-numbers f key v first zero i low high = absurd (omega arith)
IsThere-numbers f key v first (suc count) i low high =
    let rest : TableValue = map (λ (node : ℕ). (Point f key node, v)) (numbers_from (first + 1) count) in
    elim (cases_eq i first) [
      | inl same ↦ subst (λ (n : ℕ). IsThere ((Point f key n, v) ∷ rest) (Point f key i)) same (ap is_some (value_at-head (Point f key i) v rest))
      | inr other ↦ IsThere-cons (Point f key i) (Point f key first, v) rest (IsThere-numbers f key v (first + 1) count i (omega arith) (omega arith))
    ]

pub Contains-numbers : (unknown : ℕ → Unknown) (first count i : ℕ) → first ≤ i → i < first + count → Contains (map unknown (numbers_from first count)) (unknown i)
Contains-numbers unknown first zero i low high = absurd (omega arith)
Contains-numbers unknown first (suc count) i low high =
    let rest : List Unknown = map unknown (numbers_from (first + 1) count) in
    elim (cases_eq i first) [
      | inl same ↦ subst (λ (n : ℕ). Contains (unknown n ∷ rest) (unknown i)) same (0, omega arith, refl)
      | inr other ↦ Contains-append_right (unknown first ∷ []) rest (unknown i) (Contains-numbers unknown (first + 1) count i (omega arith) (omega arith))
    ]
