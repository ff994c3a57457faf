-- Graphs whose edges have numbers, and walks over them.
use Rattle.std.specs.Prelude.{◌⊎◌, ◌↔◌, ◌+◌, count_by, is_none, ◌≡◌, ℕ, ◌<◌, ◌≤◌, List, [], ◌∷◌, Option, None, Some, length, slice_get, slice_index_or, Contains}
use Rattle.std.specs.Global.{Vec}
use Rattle.arg_chain.specs.declared.hop.Hop.{Hop}

-- the steps from each vertex
abbrev pub Graph : Type 0
Graph = List (Vec Hop)

abbrev pub items_of : {X : Type 0} → Option (Vec X) → List X
items_of None = []
items_of (Some row) = row.items

abbrev pub steps_at : Graph → ℕ → List Hop
steps_at g u = items_of (slice_get g u)

-- each step leads to a vertex
abbrev pub IsGraph : Graph → Type 0
IsGraph g = (u : ℕ) (s : Hop) → Contains (steps_at g u) s → s.to < length g

-- the steps lead from u to v
abbrev pub IsWalk : Graph → ℕ → List Hop → ℕ → Type 0
IsWalk g u [] v = u ≡ v
IsWalk g u (s ∷ ss) v = Contains (steps_at g u) s × IsWalk g s.to ss v

-- the fewest steps from u to v are n
pub record IsDistance (g : Graph) (v : ℕ) (u : ℕ) (n : ℕ) : Type 0 where
  pub there : (ss : List Hop) × IsWalk g u ss v × (length ss ≡ n)
  pub fewest : (ss : List Hop) → IsWalk g u ss v → n ≤ length ss

-- for each vertex what is known of the fewest steps from it to v
abbrev pub known_at : List (Option ℕ) → ℕ → Option ℕ
known_at ds u = slice_index_or ds u None

-- one of the steps leads to w
abbrev pub LeadsTo : List Hop → ℕ → Type 0
LeadsTo steps w = (s : Hop) × Contains steps s × (s.to ≡ w)

abbrev pub HasStep : Graph → ℕ → ℕ → Type 0
HasStep g u w = LeadsTo (steps_at g u) w

-- the vertices that a turned graph has for w
abbrev pub before_at : List (Vec ℕ) → ℕ → List ℕ
before_at t w = items_of (slice_get t w)

-- the turned graph has, for each vertex, just those from which a step leads to it
pub record IsTurned (g : Graph) (before : List (Vec ℕ)) : Type 0 where
  pub len : length before ≡ length g
  pub members : (u w : ℕ) → Contains (before_at before w) u ↔ HasStep g u w

-- u stands before one of the front
abbrev pub IsBeforeOne : List (Vec ℕ) → List ℕ → ℕ → Type 0
IsBeforeOne t front u = (w : ℕ) × Contains front w × Contains (before_at t w) u

-- The unknown ones of S got the level, and were added to those that wait.
pub record Spreads (old : List (Option ℕ)) (waits : List ℕ) (S : ℕ → Type 0) (level : ℕ) (new : List (Option ℕ)) (more : List ℕ) : Type 0 where
  pub len : length new ≡ length old
  pub kept : (u n : ℕ) → known_at old u ≡ Some n → known_at new u ≡ Some n
  pub cases : (u n : ℕ) → known_at new u ≡ Some n → (known_at old u ≡ Some n) ⊎ ((n ≡ level) × (known_at old u ≡ None) × S u)
  pub all : (u : ℕ) → S u → known_at new u ≡ None → ⊥
  pub next : (u : ℕ) → Contains more u ↔ (Contains waits u ⊎ ((known_at old u ≡ None) × S u))
  pub balance : length more + count_by is_none new ≡ length waits + count_by is_none old
