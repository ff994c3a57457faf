-- Tables of names: what a map from names knows of a list of entries, so that a name is found in one step.
use Rattle.std.specs.Prelude.{◌≡◌, ℕ, List, [], ◌∷◌, map, Option, None, ⊤}
use Rattle.std.specs.Global.{Vec}
use Rattle.std.specs.List.{position_from}
use Rattle.std.specs.Map.{lookup}
use Rattle.std.specs.Option.{unwrap_or}
use Rattle.std.specs.Str.{bytes_eq}
use Rattle.c_check.specs.declared.meaning.Declared.{Declared}
use Rattle.c_check.specs.declared.visible.Hiding.{Hiding}
use Rattle.c_check.specs.Names.{named}

-- what a map has at a name
abbrev pub at_name : {A : Type 0} → List ℕ → List (Vec ℕ × A) → Option A
at_name x entries = lookup (λ k. bytes_eq x k.items) entries

-- ---- entries in the order in which they were added

-- the place of the first entry of a name
abbrev pub first_of : {A : Type 0} → List ℕ → List (List ℕ × A) → Option ℕ
first_of x entries = position_from (λ e. bytes_eq x e.0) 0 entries

-- the map has the place of the first entry of each name
abbrev pub KnowsFirsts : {A : Type 0} → List (Vec ℕ × ℕ) → List (List ℕ × A) → Type 0
KnowsFirsts places entries = (x : List ℕ) → at_name x places ≡ first_of x entries

-- ---- declarations that hide one another, the latest first

abbrev pub declarations : List Hiding → List (List ℕ × Declared)
declarations all = map (λ h. (h.name.items, h.declared)) all

-- each keeps what its name meant before it
abbrev pub KeepHidden : List Hiding → Type 0
KeepHidden [] = ⊤
KeepHidden (h ∷ hs) = (h.hidden ≡ named h.name.items (declarations hs)) × KeepHidden hs

-- The map has the latest declaration of each name; a name of which the last declaration is gone has `None`.
abbrev pub KnowsLatest : List (Vec ℕ × Option Declared) → List Hiding → Type 0
KnowsLatest latest all = (x : List ℕ) → unwrap_or (at_name x latest) None ≡ named x (declarations all)

pub record AreSeen (latest : List (Vec ℕ × Option Declared)) (all : List Hiding) : Type 0 where
  pub knows : KnowsLatest latest all
  pub keep : KeepHidden all
