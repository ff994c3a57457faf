-- What files in memory answer.
use Rattle.std.specs.Prelude.{ℕ, List, [], ◌∷◌, length, nat_le, Bool, if◌then◌else◌, Option, Some, None, Result, Ok, Err}
use Rattle.std.specs.Str.{bytes_eq}
use Rattle.std.specs.declared.vec.Vec.{Vec}
use Rattle.std.specs.declared.alloc.Global.{Global}
use Rattle.gob_outside.specs.declared.files.FileFail.{FileFail}
use Rattle.gob_outside.specs.declared.files.FileFail.TheVariants.{Failed, TooLong}

-- the bytes of the first file of a name
abbrev pub content_of : List (List ℕ × Vec ℕ Global) → List ℕ → Option (List ℕ)
content_of [] name = None
content_of (file ∷ files) name = if bytes_eq file.0 name then Some file.1.items else content_of files name

-- the answer of a load of a name whose content this is, where memory suffices
abbrev pub load_answer : Bool → Option (List ℕ) → ℕ → Result (List ℕ) FileFail
load_answer fails None limit = Err Failed
load_answer fails (Some bytes) limit =
    if fails then Err Failed else if nat_le (length bytes) limit then Ok bytes else Err (TooLong limit)
