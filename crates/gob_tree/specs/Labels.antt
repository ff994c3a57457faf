-- What the slots of a function are called wherever they are shown.
use Rattle.std.specs.Prelude.{ℕ, zero, suc, ◌+◌, List, [], ◌∷◌, ◌++◌, codes, decimal, count_by}
use Rattle.std.specs.Str.{bytes_eq}
use Rattle.gob_tree.specs.declared.unit.Slot.{Slot}

-- how many of the slots have a name
abbrev pub count_of_name : List Slot → List ℕ → ℕ
count_of_name slots name = count_by (λ (s : Slot). bytes_eq s.name name) slots

-- The label of a slot, where so many before it have its name: the first of a name is called by it,
-- and the k-th, from the second on, has `#k` behind it. A slot without a name has no label.
abbrev pub label_of : List ℕ → ℕ → List ℕ
label_of [] before = []
label_of (c ∷ cs) zero = c ∷ cs
label_of (c ∷ cs) (suc before) = (c ∷ cs) ++ codes "#" ++ decimal (before + 2)

-- the labels of slots that come after others
abbrev pub labels_after : List Slot → List Slot → List (List ℕ)
labels_after before [] = []
labels_after before (slot ∷ rest) = label_of slot.name (count_of_name before slot.name) ∷ labels_after (before ++ slot ∷ []) rest

-- the labels of a function's slots; slot 0, the returned value, has none
abbrev pub labels_of : List Slot → List (List ℕ)
labels_of [] = []
labels_of (returned ∷ named) = [] ∷ labels_after [] named
