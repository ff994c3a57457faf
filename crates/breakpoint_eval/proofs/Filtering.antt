-- What a filter keeps.
use Rattle.std.proofs.Common.{◌≡◌, refl, ap₂, Bool, true, false, cond, List, [], ◌∷◌}
use Rattle.std.specs.Prelude.{Contains, filter}
use Rattle.constraint_sys.proofs.Ordered.{Contains-head, Contains-tail}

-- tests that agree at each member
pub filter_same : {X : Type 0} (f g : X → Bool) (xs : List X) → ((x : X) → Contains xs x → f x ≡ g x) → filter f xs ≡ filter g xs
filter_same f g [] same = refl
filter_same {X} f g (x ∷ xs) same =
    ap₂ (λ (b : Bool) (rest : List X). cond b (x ∷ rest) rest) (same x (Contains-head x xs)) (filter_same f g xs (λ y one. same y (Contains-tail x y xs one)))

pub filter_all : {X : Type 0} (f : X → Bool) (xs : List X) → ((x : X) → Contains xs x → f x ≡ true) → filter f xs ≡ xs
filter_all f [] passes = refl
filter_all {X} f (x ∷ xs) passes =
    ap₂ (λ (b : Bool) (rest : List X). cond b (x ∷ rest) rest) (passes x (Contains-head x xs)) (filter_all f xs (λ y one. passes y (Contains-tail x y xs one)))

pub filter_none : {X : Type 0} (f : X → Bool) (xs : List X) → ((x : X) → Contains xs x → f x ≡ false) → filter f xs ≡ []
filter_none f [] fails = refl
filter_none {X} f (x ∷ xs) fails =
    ap₂ (λ (b : Bool) (rest : List X). cond b (x ∷ rest) rest) (fails x (Contains-head x xs)) (filter_none f xs (λ y one. fails y (Contains-tail x y xs one)))
