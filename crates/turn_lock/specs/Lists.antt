-- Two lists made one.
use Rattle.std.specs.Prelude.{ℕ, List, [], ◌∷◌, length, nat_le, if◌then◌else◌}

-- the longer of two lists, the second where they are as long
abbrev pub longer : {E : Type 0} → List E → List E → List E
longer xs ys = if nat_le (length xs) (length ys) then ys else xs

-- a number put into an ascending list, before the first that isn't less
abbrev pub put_in : ℕ → List ℕ → List ℕ
put_in n [] = n ∷ []
put_in n (x ∷ xs) = if nat_le n x then n ∷ x ∷ xs else x ∷ put_in n xs

-- the numbers of two ascending lists in one
abbrev pub merged : List ℕ → List ℕ → List ℕ
merged [] ys = ys
merged (x ∷ xs) ys = put_in x (merged xs ys)
