-- What files tell.
use Rattle.std.specs.Prelude.{◌≡◌, ◌<◌, ℕ, List, length, Option, Some, IfSome, IsSomeAnd}

-- what files tell at one moment: of each name the bytes of its file, which a name without a file has
-- not; how many loads of a name failed; and the names that were asked for so far, in order
pub record FilesNow : Type 0 where
  pub contents : Option (List ℕ → Option (List ℕ))
  pub faults : List ℕ → ℕ
  pub asked : Option (List (List ℕ))

-- the text is that of the file of a name, where the files tell it
abbrev pub IsTextOf : FilesNow → List ℕ → List ℕ → Type 0
IsTextOf files name text = IfSome files.contents (λ told. told name ≡ Some text)

-- the file of a name has more bytes than the limit, where the files tell it
abbrev pub IsLongerThan : FilesNow → List ℕ → ℕ → Type 0
IsLongerThan files name limit =
    IfSome files.contents (λ told. IsSomeAnd (told name) (λ text. limit < length text))
