-- Counts of faults by name, and the names that were asked for.
use Rattle.std.specs.Prelude.{◌≡◌, ◌⊎◌, ℕ, List, [], ◌∷◌, ◌++◌, Option, String, unwrap_or, option_map, if◌then◌else◌}
use Rattle.std.specs.BTreeMap.{BTreeMap, get_by_text}
use Rattle.std.specs.Str.{bytes_eq}
use Rattle.gob_outside.specs.Count.{one_more}

-- how many faults of a name a map counts: 0 for a name that isn't in it
abbrev pub count_of : {Y : Type 0} → BTreeMap (String Y) ℕ → List ℕ → ℕ
count_of counts name = unwrap_or (get_by_text counts name) 0

-- the counts after one more fault of a name
abbrev pub noted : (List ℕ → ℕ) → List ℕ → List ℕ → ℕ
noted counts name other = if bytes_eq name other then one_more (counts name) else counts other

-- a load asked for this name once, or for want of memory not at all, where the names are told
abbrev pub Asks : Option (List (List ℕ)) → List ℕ → Option (List (List ℕ)) → Type 0
Asks before name after = (after ≡ option_map (λ names. names ++ name ∷ []) before) ⊎ (after ≡ before)
