-- How items are spelled in words: the reading from the other side.
use Rattle.std.specs.Prelude.{◌≡◌, ◌≢◌, ◌⊎◌, ◌↔◌, ◌==◌, true, false, Some, List, [], ◌∷◌, ◌++◌}
use Rattle.std.specs.List.{list_all, list_any}
use Rattle.command_words.specs.Reading.{Word, Form, Item, option, positional, is_plain, may_stand, fits, reading}

-- `--name`
abbrev pub dashed : Word → Word
dashed name = 45 ∷ 45 ∷ name

-- `--name=value`
abbrev pub joined : Word → Word → Word
joined name value = 45 ∷ 45 ∷ (name ++ 61 ∷ value)

abbrev pub HasNoEquals : Word → Type 0
HasNoEquals name = list_any (λ x. x == 61) name ≡ false

-- the option stands in one word or in two
abbrev pub SpellsOption : Word → Word → List Word → List Word → Type 0
SpellsOption name value words rest = HasNoEquals name
    × ((words ≡ joined name value ∷ rest) ⊎ ((name ≢ []) × (words ≡ dashed name ∷ value ∷ rest)))

-- the words are those of the items, one item after the other
abbrev pub Spells : List Item → List Word → Type 0
Spells [] words = words ≡ []
Spells (positional word ∷ xs) words = (rest : List Word) × (is_plain word ≡ true) × (words ≡ word ∷ rest) × Spells xs rest
Spells (option name value ∷ xs) words = (rest : List Word) × (is_plain value ≡ true) × SpellsOption name value words rest × Spells xs rest

-- each word may stand, the words are those of the items, and the items fit the command
abbrev pub IsReading : Form → List Word → List Item → Type 0
IsReading form words xs = (list_all may_stand words ≡ true) × Spells xs words × (fits form xs ≡ true)

-- `reading` finds the items that spell the words, and there are no others
abbrev pub ReadingIsSpelled : Type 0
ReadingIsSpelled = (form : Form) (words : List Word) (xs : List Item) → (reading form words ≡ Some xs) ↔ IsReading form words xs
