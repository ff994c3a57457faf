-- The rule of the table: who waits, who has the turn, and what each pass has seen.
use Rattle.std.specs.Prelude.{◌≡◌, ◌⊎◌, ℕ, ◌^◌, ◌<◌, ◌≤◌, List, [], ◌∷◌, ◌++◌, length, Bool, true, false, Option, Some, Contains, max}
use mathlib.Core.Option.{some, none}
use mathlib.Core.List.{IsPrefix}
use lib.ListN.{get_elem?}
use Rattle.atomic_table.specs.Table.{State}
use Rattle.turn_lock.specs.declared.logged.Role.{Role}
use Rattle.turn_lock.specs.declared.logged.Role.TheVariants.{Opener}
use Rattle.turn_lock.specs.declared.view.Place.{Place}
use Rattle.turn_lock.specs.declared.view.Place.TheVariants.{Outside, Waiting, Inside, Spent}
use Rattle.turn_lock.specs.declared.view.Record.{Record}
use Rattle.turn_lock.specs.declared.view.View.{View}
use Rattle.turn_lock.specs.Kinds.{Kind, OwnsSubjects}
use Rattle.turn_lock.specs.Lists.{longer, merged}

-- whether a ticket was drawn, which one it is, whether its turn has come, and whether the pass is gone
abbrev pub is_drawn : Place → Bool
is_drawn Outside = false
is_drawn (Waiting n) = true
is_drawn (Inside n) = true
is_drawn Spent = false

abbrev pub ticket_of : Place → ℕ
ticket_of Outside = 0
ticket_of (Waiting n) = n
ticket_of (Inside n) = n
ticket_of Spent = 0

abbrev pub has_turn : Place → Bool
has_turn Outside = false
has_turn (Waiting n) = false
has_turn (Inside n) = true
has_turn Spent = false

abbrev pub is_spent : Place → Bool
is_spent Outside = false
is_spent (Waiting n) = false
is_spent (Inside n) = false
is_spent Spent = true

module _ {E : Type 0} where
  abbrev pub nothing : Record E
  nothing = record { seen = []; mine = [] }

  -- the view of the first pass
  abbrev pub opener_view : ℕ → List E → View E
  opener_view terms seen = record { role = Opener; terms = terms; place = Outside; seen = seen; mine = []; looks = []; least = length seen; first = nothing; second = nothing }

  -- the view at another place
  abbrev pub moved : View E → Place → View E
  moved v p = record v { place = p }

  -- the turn has come, and these entries are seen
  abbrev pub entered : View E → ℕ → List E → View E
  entered v ticket xs = record v { place = Inside ticket; seen = xs; looks = v.looks ++ length xs ∷ []; least = length xs }

  -- an entry of its own makes these of the entries seen
  abbrev pub grown : View E → List E → View E
  grown v xs = record v { seen = xs; mine = v.mine ++ length v.seen ∷ []; least = length xs }

  -- there are at least n entries
  abbrev pub informed : View E → ℕ → View E
  informed v n = record v { least = n }

  -- a new pass, with what v has seen
  abbrev pub twin : Role → View E → View E
  twin role v = record { role = role; terms = v.terms; place = Outside; seen = v.seen; mine = []; looks = []; least = v.least; first = nothing; second = nothing }

  -- v has taken w in
  abbrev pub joined : View E → View E → View E
  joined v w = record v {
    seen = longer v.seen w.seen;
    mine = merged v.mine w.mine;
    least = max v.least w.least;
    first = record { seen = v.seen; mine = v.mine };
    second = record { seen = w.seen; mine = w.mine };
  }

  -- a pass that another took in
  abbrev pub spent : View E
  spent = record { role = Opener; terms = 0; place = Spent; seen = []; mine = []; looks = []; least = 0; first = nothing; second = nothing }

  -- two that were made one: what each had seen begins what is seen, and they had no place in common
  pub record Joined (first second : Record E) (seen : List E) : Type 0 where
    pub first_begins : IsPrefix first.seen seen
    pub second_begins : IsPrefix second.seen seen
    pub apart : (k : ℕ) → Contains first.mine k → Contains second.mine k → ⊥

  -- what the rule says of one view
  pub record Knows (bound next serving : ℕ) (history : List E) (v : View E) : Type 0 where
    pub terms : is_spent v.place ≡ false → v.terms ≡ bound
    pub within : is_drawn v.place ≡ true → (serving ≤ ticket_of v.place) × (ticket_of v.place < next)
    pub turn : has_turn v.place ≡ true → (ticket_of v.place ≡ serving) × (v.seen ≡ history)
    pub saw : IsPrefix v.seen history
    pub least : v.least ≤ length history
    pub olds : Joined v.first v.second v.seen

-- who owns which entries: a place is among the entries, and one pass's own; whoever began a subject has all entries about it
pub record Owned {E : Type 0} (kind : E → Kind) (history : List E) (views : List (View E)) : Type 0 where
  pub below : (j : ℕ) (v : View E) → get_elem? views j ≡ some v → (k : ℕ) → Contains v.mine k → k < length history
  pub alone : (i j : ℕ) (v w : View E) → get_elem? views i ≡ some v → get_elem? views j ≡ some w → (k : ℕ) → Contains v.mine k → Contains w.mine k → i ≡ j
  pub whole : (j : ℕ) (v : View E) → get_elem? views j ≡ some v → OwnsSubjects kind history v.mine

module _ {B E : Type 0} (log : B → List E) (terms_of : B → ℕ) (terms : ℕ) where
  -- the value is at home, its entries are the history, and nobody has the turn
  pub record Home (history : List E) (s : State (Option B) (View E)) : Type 0 where
    pub value : B
    pub homes : s.homes ≡ some (Some value) ∷ []
    pub entries : log value ≡ history
    pub same_terms : terms_of value ≡ terms
    pub nobody : (j : ℕ) (v : View E) → get_elem? s.views j ≡ some v → has_turn v.place ≡ false

  -- the slot is empty, and somebody has the turn
  pub record Away (s : State (Option B) (View E)) : Type 0 where
    pub homes : s.homes ≡ none ∷ []
    pub id : ℕ
    pub view : View E
    pub at : get_elem? s.views id ≡ some view
    pub turn : has_turn view.place ≡ true

module _ {B E : Type 0} (kind : E → Kind) (log : B → List E) (terms_of : B → ℕ) (terms : ℕ) where
  pub record Turned (s : State (Option B) (View E)) : Type 0 where
    pub next : ℕ
    pub serving : ℕ
    pub history : List E
    pub words : s.words ≡ next ∷ serving ∷ length history ∷ []
    pub order : serving ≤ next
    pub small : next < 2 ^ 64
    pub each : (j : ℕ) (v : View E) → get_elem? s.views j ≡ some v → Knows terms next serving history v
    -- two passes have two tickets
    pub apart : (i j : ℕ) (v w : View E) → get_elem? s.views i ≡ some v → get_elem? s.views j ≡ some w → is_drawn v.place ≡ true → is_drawn w.place ≡ true → ticket_of v.place ≡ ticket_of w.place → i ≡ j
    pub slot : Home log terms_of terms history s ⊎ Away log terms_of terms s
    pub owned : Owned kind history s.views
