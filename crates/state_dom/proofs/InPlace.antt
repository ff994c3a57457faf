-- One step of a loop that replaces the items of a list in place.
use Rattle.std.proofs.Common.{◌≡◌, ◌∙◌, ℕ, suc, ◌+◌, ◌<◌, List, [], ◌∷◌, ◌++◌, length, take, drop, set, get_or, add-one, append_assoc, sym, ap, arith, drop-cons}
use Rattle.std.proofs.lemmas.List.{take_more, take_more_set, drop-set-lt}
use Rattle.interval_dom.specs.Bounds.{Bounds, Covers}
use Rattle.state_dom.specs.StateValue.{CoversEach, on_each}
use Rattle.state_dom.proofs.Bounding.{CoversEach-snoc}

pub take_read : (xs : List Bounds) (i : ℕ) (x : Bounds) → i < length xs → x ≡ get_or xs i x → take (i + 1) xs ≡ take i xs ++ x ∷ []
take_read xs i x within is = take_more xs i x within ∙ ap (λ (z : Bounds). take i xs ++ z ∷ []) (sym is)

pub drop_read : (xs : List Bounds) (i : ℕ) (x : Bounds) → i < length xs → x ≡ get_or xs i x → drop i xs ≡ x ∷ drop (i + 1) xs
drop_read xs i x within is =
    drop-cons xs i x within ∙ ap (λ (z : Bounds). z ∷ drop (suc i) xs) (sym is) ∙ ap (λ (n : ℕ). x ∷ drop n xs) (sym (add-one i))

pub drop-after_set : (xs : List Bounds) (i : ℕ) (v : Bounds) → drop (i + 1) (set xs i v) ≡ drop (i + 1) xs
drop-after_set xs i v = drop-set-lt (i + 1) xs i v (omega arith)

-- what is done, then what is still to come
pub on_each-step : (f : Bounds → Bounds → Bounds) (xs ys w : List Bounds) (i : ℕ) (x y v : Bounds) → i < length xs → i < length ys → x ≡ get_or xs i x → y ≡ get_or ys i y → v ≡ f x y
    → take i xs ++ on_each f (drop i xs) (drop i ys) ≡ w
    → take (i + 1) (set xs i v) ++ on_each f (drop (i + 1) (set xs i v)) (drop (i + 1) ys) ≡ w
on_each-step f xs ys w i x y v in_xs in_ys x_is y_is v_is so_far =
    let front = drop_read xs i x in_xs x_is in
    let other = drop_read ys i y in_ys y_is in
    let before : take i xs ++ (f x y ∷ on_each f (drop (i + 1) xs) (drop (i + 1) ys)) ≡ w = rw (front, other) at so_far in
    rw (take_more_set xs i v in_xs, drop-after_set xs i v, v_is) (append_assoc (take i xs) (f x y ∷ []) (on_each f (drop (i + 1) xs) (drop (i + 1) ys)) ∙ before)

-- the items so far bound those of another list
pub CoversEach-step : (xs zs : List Bounds) (i : ℕ) (z v : Bounds) → i < length xs → i < length zs → z ≡ get_or zs i z → Covers v z → CoversEach (take i xs) (take i zs) → CoversEach (take (i + 1) (set xs i v)) (take (i + 1) zs)
CoversEach-step xs zs i z v in_xs in_zs z_is covers so_far =
    rw (take_more_set xs i v in_xs, take_read zs i z in_zs z_is) (CoversEach-snoc (take i xs) (take i zs) v z so_far covers)

-- an item that is still to come is the one that was there at the start
pub same_read : (xs zs : List Bounds) (i : ℕ) (x : Bounds) → i < length xs → i < length zs → x ≡ get_or xs i x → drop i xs ≡ drop i zs → x ≡ get_or zs i x
same_read xs zs i x in_xs in_zs x_is rest =
    let both : x ∷ drop (i + 1) xs ≡ get_or zs i x ∷ drop (suc i) zs = sym (drop_read xs i x in_xs x_is) ∙ rest ∙ drop-cons zs i x in_zs in
    cc both

pub rest-step : (xs zs : List Bounds) (i : ℕ) (x v : Bounds) → i < length xs → i < length zs → x ≡ get_or xs i x → drop i xs ≡ drop i zs → drop (i + 1) (set xs i v) ≡ drop (i + 1) zs
rest-step xs zs i x v in_xs in_zs x_is rest =
    let zs_is = same_read xs zs i x in_xs in_zs x_is rest in
    let both : x ∷ drop (i + 1) xs ≡ x ∷ drop (i + 1) zs = sym (drop_read xs i x in_xs x_is) ∙ rest ∙ drop_read zs i x in_zs zs_is in
    let tail : drop (i + 1) xs ≡ drop (i + 1) zs = cc both in
    drop-after_set xs i v ∙ tail
