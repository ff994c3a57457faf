-- Names among others, and the last statement of a body.
use Rattle.std.proofs.Common.{◌≡◌, refl, sym, ap, ◌∙◌, ℕ, Bool, true, false, ◌||◌, cond, ◌-◌, List, [], ◌∷◌, length, map, Option, None, Some, arith}
use Rattle.std.specs.Prelude.{slice_get}
use Rattle.gob_tree.specs.WellMade.{is_return, ends_in_return}
use Rattle.gob_tree.specs.declared.stmt.Placed.{Placed}
use Rattle.std.specs.Option.{option_map_or}
use Rattle.std.specs.Str.{bytes_eq}
use Rattle.c_check.specs.Names.{named, is_among}

step : {A : Type 0} (b : Bool) (a : A) (o : Option A) (r : Bool) → option_map_or (λ x. true) o false ≡ r → option_map_or (λ x. true) (cond b (Some a) o) false ≡ (b || r)
step true a o r h = refl
step false a o r h = h

among : {A : Type 0} (x : List ℕ) (es : List (List ℕ × A)) → option_map_or (λ a. true) (named x es) false ≡ is_among x (map (λ e. e.0) es)
among x [] = refl
among x (e ∷ es) = step (bytes_eq x e.0) e.1 (named x es) (is_among x (map (λ e. e.0) es)) (among x es)

pub found : {A : Type 0} (x : List ℕ) (es : List (List ℕ × A)) (a : A) → named x es ≡ Some a → true ≡ is_among x (map (λ e. e.0) es)
found x es a e = sym (ap (λ (o : Option _). option_map_or (λ a. true) o false) e) ∙ among x es

pub missing : {A : Type 0} (x : List ℕ) (es : List (List ℕ × A)) → named x es ≡ None → false ≡ is_among x (map (λ e. e.0) es)
missing x es e = sym (ap (λ (o : Option _). option_map_or (λ a. true) o false) e) ∙ among x es

last_of : (s : Placed) (ss : List Placed) → option_map_or is_return (slice_get (s ∷ ss) (length ss)) false ≡ ends_in_return (s ∷ ss)
last_of s [] = refl
last_of s (s' ∷ ss) = last_of s' ss

last_of_all : (xs : List Placed) → option_map_or is_return (slice_get xs (length xs - 1)) false ≡ ends_in_return xs
last_of_all [] = refl
last_of_all (s ∷ ss) =
    let e : length (s ∷ ss) - 1 ≡ length ss = omega arith in
    ap (λ (n : ℕ). option_map_or is_return (slice_get (s ∷ ss) n) false) e ∙ last_of s ss

pub at_last : (xs : List Placed) (s : Placed) → slice_get xs (length xs - 1) ≡ Some s → is_return s ≡ ends_in_return xs
at_last xs s e = sym (ap (λ (o : Option Placed). option_map_or is_return o false) e) ∙ last_of_all xs

pub none_at_last : (xs : List Placed) → slice_get xs (length xs - 1) ≡ None → false ≡ ends_in_return xs
none_at_last xs e = sym (ap (λ (o : Option Placed). option_map_or is_return o false) e) ∙ last_of_all xs
