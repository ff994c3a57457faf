-- The counts after a name's count was set to one more.
use Rattle.std.proofs.Common.{◌≡◌, ◌≢◌, sym, ℕ, ◌≤◌, ◌-◌, ◌^◌, List, Option, Some, unwrap_or, Bool, true, false, cond, refl, ap, arith}
use Rattle.std.specs.Str.{bytes_eq}
use Rattle.std.proofs.lemmas.Slice.Eq.{bytes_eq-Decides}
use Rattle.gob_outside.specs.Count.{one_more, Rose}
use Rattle.gob_outside.specs.Faults.{noted}

-- a map in which one more was set counts one more fault of that name, and of no other
pub counts-set : (old new : List ℕ → Option ℕ) (name : List ℕ) (count : ℕ)
    → ((other : List ℕ) → new other ≡ cond (bytes_eq name other) (Some count) (old other))
    → count ≡ one_more (unwrap_or (old name) 0)
    → (other : List ℕ) → unwrap_or (new other) 0 ≡ noted (λ n. unwrap_or (old n) 0) name other
counts-set old new name count sets is other = rw (sets other, is) (at_test (bytes_eq name other))
  where
    at_test : (b : Bool) → unwrap_or (cond b (Some (one_more (unwrap_or (old name) 0))) (old other)) 0
        ≡ cond b (one_more (unwrap_or (old name) 0)) (unwrap_or (old other) 0)
    at_test true = refl
    at_test false = refl

-- no count falls
pub noted-never_falls : (counts : List ℕ → ℕ) (name : List ℕ) → counts name ≤ 2 ^ 64 - 1
    → (other : List ℕ) → counts other ≤ noted counts name other
noted-never_falls counts name fits other = at_test (bytes_eq name other) (λ same. (bytes_eq-Decides name other).0 same)
  where
    at_test : (b : Bool) → (b ≡ true → name ≡ other) → counts other ≤ cond b (one_more (counts name)) (counts other)
    at_test true same = let e : counts name ≡ counts other = ap counts (same refl) in omega arith
    at_test false same = omega arith

-- the name's own count rose
pub noted-rose : (counts : List ℕ → ℕ) (name : List ℕ) → counts name ≤ 2 ^ 64 - 1 → Rose (counts name) (noted counts name name)
noted-rose counts name fits = rw ((bytes_eq-Decides name name).1 refl) (grind arith)

-- no other count changes
pub noted-others : (counts : List ℕ → ℕ) (name other : List ℕ) → other ≢ name → noted counts name other ≡ counts other
noted-others counts name other differs = at_test (bytes_eq name other) (λ same. (bytes_eq-Decides name other).0 same)
  where
    at_test : (b : Bool) → (b ≡ true → name ≡ other) → cond b (one_more (counts name)) (counts other) ≡ counts other
    at_test true same = absurd (differs (sym (same refl)))
    at_test false same = refl
