-- What a name stands for at a place of a program: a declared int local of the function there, its
-- parameters among them, or else a global. Both are numbered through: the globals come behind all
-- slots of the function.
--
-- A reader should check: that the first declared local of a name counts and not a later one, that a
-- local hides a global of its name, and that neither the returned value nor a temporary has a name.
use Rattle.std.specs.Prelude.{ℕ, ◌+◌, Bool, false, List, [], ◌∷◌, ◌++◌, Option, None, map, length, option_map}
use Rattle.std.specs.List.{position_from}
use Rattle.std.specs.Option.{option_or}
use Rattle.std.specs.Str.{bytes_eq}
use Rattle.gob_tree.specs.declared.unit.GlobalDecl.{GlobalDecl}
use Rattle.gob_tree.specs.declared.unit.Slot.{Slot}

-- ---- names

-- whether what has a name of its own is called so; a temporary has no name, and is called by none
abbrev pub is_called : List ℕ → List ℕ → Bool
is_called name [] = false
is_called name (c ∷ cs) = bytes_eq (c ∷ cs) name

-- the first declared local of a name; slot 0 is the returned value
abbrev pub local_named : List Slot → List ℕ → Option ℕ
local_named [] name = None
local_named (returned ∷ locals) name = position_from (λ (s : Slot). is_called name s.name) 1 locals

abbrev pub global_named : List GlobalDecl → List ℕ → Option ℕ
global_named globals name = position_from (λ (g : GlobalDecl). is_called name g.name) 0 globals

-- ---- slots, and the globals behind them

-- a global as a slot of its name and width
abbrev pub as_slot : GlobalDecl → Slot
as_slot g = record { name = g.name; width = g.width }

-- the slots of a function, then all globals
abbrev pub places_of : List Slot → List GlobalDecl → List Slot
places_of slots globals = slots ++ map as_slot globals

-- the place of what a name stands for: a local, or else a global
abbrev pub place_named : List Slot → List GlobalDecl → List ℕ → Option ℕ
place_named slots globals name = option_or (local_named slots name) (option_map (λ (g : ℕ). length slots + g) (global_named globals name))
