-- Lists whose members are read by names.
use Rattle.std.proofs.Common.{◌≡◌, ℕ, ◌+◌, ◌<◌, List, [], ◌∷◌, ◌++◌, length, map, take, get_or, refl}
use Rattle.std.proofs.lemmas.List.{get_or-map, map_more}
use Rattle.gob_tree.specs.Named.{NamedExpr, in_order}

-- the lists of arguments that read alike are equal
pub in_order-injective : (ds es : List NamedExpr) → in_order ds ≡ in_order es → ds ≡ es
in_order-injective [] [] alike = refl
in_order-injective [] (e ∷ es) alike = cc
in_order-injective (d ∷ ds) [] alike = cc
in_order-injective (d ∷ ds) (e ∷ es) alike =
    let first : d ≡ e = cc in
    let others : in_order ds ≡ in_order es = cc in
    let rest : ds ≡ es = in_order-injective ds es others in
    cc

-- where two lists read alike, so do their i-th members
pub read_alike-at : {X Y Z : Type 0} (f : X → Z) (g : Y → Z) (xs : List X) (ys : List Y) (i : ℕ) (x : X) (y : Y)
    → i < length xs → i < length ys → x ≡ get_or xs i x → y ≡ get_or ys i y → map f xs ≡ map g ys → f x ≡ g y
read_alike-at f g xs ys i x y in_xs in_ys at_x at_y e =
    let left : get_or (map f xs) i (f x) ≡ f (get_or xs i x) = get_or-map f xs i x (f x) in_xs in
    let right : get_or (map g ys) i (f x) ≡ g (get_or ys i y) = get_or-map g ys i y (f x) in_ys in
    cc

-- the first i members read alike, and the next do: so do the first i + 1
pub read_alike_more : {X Y Z : Type 0} (f : X → Z) (g : Y → Z) (xs : List X) (ys : List Y) (i : ℕ) (x : X) (y : Y)
    → i < length xs → i < length ys → x ≡ get_or xs i x → y ≡ get_or ys i y
    → map f (take i xs) ≡ map g (take i ys) → f x ≡ g y → map f (take (i + 1) xs) ≡ map g (take (i + 1) ys)
read_alike_more f g xs ys i x y in_xs in_ys at_x at_y before e =
    let left : map f (take (i + 1) xs) ≡ map f (take i xs) ++ f (get_or xs i x) ∷ [] = map_more f xs i x in_xs in
    let right : map g (take (i + 1) ys) ≡ map g (take i ys) ++ g (get_or ys i y) ∷ [] = map_more g ys i y in_ys in
    cc
