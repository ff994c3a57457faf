-- The least number of some, and the least step.
use Rattle.std.specs.Prelude.{◌≡◌, ◌≤◌, ◌+◌, ℕ, Bool, true, false, List, [], ◌∷◌, Option, None, Some, length, Contains, if◌then◌else◌, nat_lt}
use Rattle.arg_chain.specs.declared.hop.Hop.{Hop}
use Rattle.arg_chain.specs.Walk.{Graph, known_at, steps_at}

abbrev pub IsLeastOf : (ℕ → Type 0) → Option ℕ → Type 0
IsLeastOf P None = (x : ℕ) → P x → ⊥
IsLeastOf P (Some m) = P m × ((x : ℕ) → P x → m ≤ x)

abbrev pub least_with : Option ℕ → ℕ → Bool → Option ℕ
least_with best x false = best
least_with None x true = Some x
least_with (Some b) x true = Some (if nat_lt x b then x else b)

abbrev pub least_known : Option ℕ → Option ℕ → Option ℕ
least_known best None = best
least_known best (Some n) = least_with best n true

abbrev pub IsAtRoot : List ℕ → List (Option ℕ) → ℕ → ℕ → Type 0
IsAtRoot roots known n r = Contains roots r × (known_at known r ≡ Some n)

-- a step leads to a vertex d steps away
abbrev pub CanStep : List Hop → List (Option ℕ) → ℕ → Type 0
CanStep steps known d = (s : Hop) × Contains steps s × (known_at known s.to ≡ Some d)

abbrev pub IsTarget : List Hop → List (Option ℕ) → ℕ → ℕ → Type 0
IsTarget steps known d to = (s : Hop) × Contains steps s × (s.to ≡ to) × (known_at known to ≡ Some d)

abbrev pub IsEdgeTo : List Hop → ℕ → ℕ → Type 0
IsEdgeTo steps to edge = (s : Hop) × Contains steps s × (s.to ≡ to) × (s.edge ≡ edge)

-- the least of the steps to a vertex d steps away, by where it leads and then by its edge
pub record IsLeastStep (steps : List Hop) (known : List (Option ℕ)) (d : ℕ) (s : Hop) : Type 0 where
  pub one : Contains steps s
  pub near : known_at known s.to ≡ Some d
  pub least_to : (t : Hop) → Contains steps t → known_at known t.to ≡ Some d → s.to ≤ t.to
  pub least_edge : (t : Hop) → Contains steps t → t.to ≡ s.to → s.edge ≤ t.edge

-- the least step at each vertex, down to the target
abbrev pub IsGreedy : Graph → List (Option ℕ) → ℕ → List Hop → Type 0
IsGreedy g known u [] = known_at known u ≡ Some 0
IsGreedy g known u (s ∷ ss) = (known_at known u ≡ Some (length ss + 1)) × IsLeastStep (steps_at g u) known (length ss) s × IsGreedy g known s.to ss
