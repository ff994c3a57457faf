-- What a door does to the connections still to come.
use Rattle.std.specs.Prelude.{◌≡◌, List, [], ◌∷◌, Option, None, Some}

-- the first of the connections to come was given, or none where none was left, where they are told
abbrev pub Gives : {X : Type 0} → Option (List X) → Option X → Option (List X) → Type 0
Gives None given after = after ≡ None
Gives (Some []) given after = (given ≡ None) × (after ≡ Some [])
Gives (Some (first ∷ others)) given after = (given ≡ Some first) × (after ≡ Some others)
