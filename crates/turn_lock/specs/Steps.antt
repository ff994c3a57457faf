-- What each step on the table tells.
use Rattle.std.specs.Prelude.{◌≡◌, ◌≢◌, ℕ, ◌<◌, ◌≤◌, true, List, [], ◌∷◌, length, Option, Some, None}
use mathlib.Core.List.{IsPrefix}
use Rattle.atomic_table.specs.Table.{Me, Step, rest}
use Rattle.turn_lock.specs.declared.view.Place.TheVariants.{Outside, Waiting}
use Rattle.turn_lock.specs.declared.view.View.{View}
use Rattle.turn_lock.specs.Kinds.{Kind, OwnsSubjects}
use Rattle.turn_lock.specs.Turn.{ticket_of, has_turn, moved, entered, grown, informed, Joined}

module _ {B E : Type 0} where
  -- nothing
  abbrev pub looked : Step (Option B) → Me (Option B) (View E) → ℕ → Me (Option B) (View E) → Type 0
  looked st m n m' = m' ≡ m

  -- the number found is the ticket, where it is the one expected
  abbrev pub drew : Step (Option B) → Me (Option B) (View E) → ℕ → Me (Option B) (View E) → Type 0
  drew st m n m' = (n ≡ st.first → m' ≡ (moved m.0 (Waiting n), m.1)) × (n ≢ st.first → m' ≡ m)

  -- the ticket and the slot are given up; the entries about what the pass began were its own
  abbrev pub left : (E → Kind) → Step (Option B) → Me (Option B) (View E) → ℕ → Me (Option B) (View E) → Type 0
  left kind st m n m' = (m' ≡ (moved m.0 Outside, rest m.1)) × OwnsSubjects kind m.0.seen m.0.mine

  -- the entries of the value in the slot in hand
  abbrev pub entries_of : (B → List E) → Option B → List E
  entries_of log (Some b) = log b
  entries_of log None = []

  abbrev pub entries_in : (B → List E) → List (ℕ × Option B) → List E
  entries_in log [] = []
  entries_in log (x ∷ xs) = entries_of log x.1

  -- the entries of the value in hand are seen, and the last is the pass's own
  abbrev pub added : (B → List E) → Step (Option B) → Me (Option B) (View E) → ℕ → Me (Option B) (View E) → Type 0
  added log st m n m' = m' ≡ (grown m.0 (entries_in log m.1), m.1)

  -- the turn has come with the value b
  pub record Comes (kind : E → Kind) (log : B → List E) (terms_of : B → ℕ) (m m' : Me (Option B) (View E)) (b : B) : Type 0 where
    pub me : m' ≡ (entered m.0 (ticket_of m.0.place) (log b), (0, Some b) ∷ m.1)
    pub later : IsPrefix m.0.seen (log b)
    pub terms : terms_of b ≡ m.0.terms
    pub least : m.0.least ≤ length (log b)
    pub subjects : OwnsSubjects kind (log b) m.0.mine

  -- the turn has come where the ticket is served
  abbrev pub came : (E → Kind) → (B → List E) → (B → ℕ) → Step (Option B) → Me (Option B) (View E) → ℕ → Me (Option B) (View E) → Type 0
  came kind log terms_of st m n m' = (n ≡ ticket_of m.0.place → (b : B) × Comes kind log terms_of m m' b) × (n ≢ ticket_of m.0.place → m' ≡ m)

  -- the number of entries is found, and noted where it is more than were seen
  pub record Hears (m m' : Me (Option B) (View E)) (n : ℕ) : Type 0 where
    pub no_more : n ≤ length m.0.seen → m' ≡ m
    pub more : length m.0.seen < n → m' ≡ (informed m.0 n, m.1)
    pub least : m.0.least ≤ n
    -- whoever has the turn has seen all
    pub inside : has_turn m.0.place ≡ true → n ≡ length m.0.seen

  abbrev pub heard : Step (Option B) → Me (Option B) (View E) → ℕ → Me (Option B) (View E) → Type 0
  heard st m n m' = Hears m m' n

  -- a pass that took another in learns what the two had in common
  pub record Learns (kind : E → Kind) (m m' : Me (Option B) (View E)) : Type 0 where
    pub same : m' ≡ m
    pub olds : Joined m.0.first m.0.second m.0.seen
    pub subjects : OwnsSubjects kind m.0.seen m.0.mine

  abbrev pub learnt : (E → Kind) → Step (Option B) → Me (Option B) (View E) → ℕ → Me (Option B) (View E) → Type 0
  learnt kind st m n m' = Learns kind m m'
