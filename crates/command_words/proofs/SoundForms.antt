-- What a sound form gives.
use Rattle.std.proofs.Common.{◌≡◌, ◌||◌, ◌<◌, ℕ, Bool, true, false, not, zero, suc, refl, sym, List, [], ◌∷◌, ◌++◌, length, Some, arith}
use Rattle.std.specs.Prelude.{slice_get, nat_lt}
use Rattle.std.specs.Str.{bytes_eq}
use Rattle.std.proofs.lemmas.Slice.Eq.{bytes_eq-Decides}
use Rattle.std.proofs.lemmas.Bool.{ltb-true}
use Rattle.std.proofs.lemmas.Option.{slice_get_within}
use Rattle.clap.proofs.WalkLemmas.{both}
use Rattle.command_words.specs.Reading.{Word, Form, is_among, are_distinct}
use Rattle.command_words.specs.ClapForm.{is_sound}
use Rattle.command_words.proofs.ArgRules.{id_is}
use Rattle.command_words.proofs.ClapEnding.{Names}

pub bytes_eq_sym : (a b : Word) → bytes_eq a b ≡ bytes_eq b a
bytes_eq_sym a b = go (bytes_eq a b) (bytes_eq b a) (λ e. (bytes_eq-Decides b a).1 (sym ((bytes_eq-Decides a b).0 e))) (λ e. (bytes_eq-Decides a b).1 (sym ((bytes_eq-Decides b a).0 e)))
  where
    go : (x y : Bool) → (x ≡ true → y ≡ true) → (y ≡ true → x ≡ true) → x ≡ y
    go true true f g = refl
    go true false f g = sym (f refl)
    go false true f g = g refl
    go false false f g = refl

among_left : (n : Word) (xs ys : List Word) → is_among n xs ≡ true → is_among n (xs ++ ys) ≡ true
among_left n [] ys h = absurd (cc)
among_left n (x ∷ xs) ys h = go (bytes_eq x n) h (among_left n xs ys)
  where
    go : (b : Bool) → (b || is_among n xs) ≡ true → (is_among n xs ≡ true → is_among n (xs ++ ys) ≡ true) → (b || is_among n (xs ++ ys)) ≡ true
    go true h e = refl
    go false h e = e h

among_right : (n : Word) (xs ys : List Word) → is_among n ys ≡ true → is_among n (xs ++ ys) ≡ true
among_right n [] ys h = h
among_right n (x ∷ xs) ys h = go (bytes_eq x n) (among_right n xs ys h)
  where
    go : (b : Bool) → is_among n (xs ++ ys) ≡ true → (b || is_among n (xs ++ ys)) ≡ true
    go true e = refl
    go false e = e

among_at : (xs : List Word) (k : ℕ) (n : Word) → slice_get xs k ≡ Some n → is_among n xs ≡ true
among_at [] k n h = absurd (cc)
among_at (x ∷ xs) zero n h =
    let same : x ≡ n = cc in
    let hit : bytes_eq x n ≡ true = (bytes_eq-Decides x n).1 same in
    rw hit refl
among_at (x ∷ xs) (suc k) n h = go (bytes_eq x n) (among_at xs k n h)
  where
    go : (b : Bool) → is_among n xs ≡ true → (b || is_among n xs) ≡ true
    go true e = refl
    go false e = e

-- a word that is among the words differs from one that is not
other_than : (p n : Word) (xs : List Word) → not (is_among p xs) ≡ true → is_among n xs ≡ true → bytes_eq p n ≡ false
other_than p n xs out among = go (bytes_eq p n) ((bytes_eq-Decides p n).0)
  where
    go : (b : Bool) → (b ≡ true → p ≡ n) → b ≡ false
    go false same = refl
    go true same =
        let e : p ≡ n = same refl in
        let bad : is_among p xs ≡ true = rw e among in
        let worse : not (is_among p xs) ≡ false = rw bad refl in
        absurd (cc)

pub record Sound (f : Form) : Type 0 where
  pub disjoint : (j : ℕ) (id n : Word) → slice_get f.positionals j ≡ Some id → is_among n f.options ≡ true → bytes_eq id n ≡ false
  pub apart : (j i : ℕ) (a b : Word) → j < i → slice_get f.positionals j ≡ Some a → slice_get f.positionals i ≡ Some b → bytes_eq a b ≡ false

disjoint_in : (ps os : List Word) → are_distinct (ps ++ os) ≡ true → (j : ℕ) (id n : Word) → slice_get ps j ≡ Some id → is_among n os ≡ true → bytes_eq id n ≡ false
disjoint_in [] os distinct j id n at among = absurd (cc)
disjoint_in (p ∷ ps) os distinct zero id n at among =
    let same : p ≡ id = cc in
    let parts = both (not (is_among p (ps ++ os))) (are_distinct (ps ++ os)) distinct in
    rw (← same) (other_than p n (ps ++ os) parts.0 (among_right n ps os among))
disjoint_in (p ∷ ps) os distinct (suc j) id n at among =
    let parts = both (not (is_among p (ps ++ os))) (are_distinct (ps ++ os)) distinct in
    disjoint_in ps os parts.1 j id n at among

apart_in : (ps os : List Word) → are_distinct (ps ++ os) ≡ true → (j i : ℕ) (a b : Word) → j < i → slice_get ps j ≡ Some a → slice_get ps i ≡ Some b → bytes_eq a b ≡ false
apart_in [] os distinct j i a b below at_j at_i = absurd (cc)
apart_in (p ∷ ps) os distinct j zero a b below at_j at_i = absurd (omega arith)
apart_in (p ∷ ps) os distinct zero (suc i) a b below at_j at_i =
    let same : p ≡ a = cc in
    let parts = both (not (is_among p (ps ++ os))) (are_distinct (ps ++ os)) distinct in
    rw (← same) (other_than p b (ps ++ os) parts.0 (among_left b ps os (among_at ps i b at_i)))
apart_in (p ∷ ps) os distinct (suc j) (suc i) a b below at_j at_i =
    let parts = both (not (is_among p (ps ++ os))) (are_distinct (ps ++ os)) distinct in
    apart_in ps os parts.1 j i a b (omega arith) at_j at_i

pub sound_form : (f : Form) → is_sound f ≡ true → Sound f
sound_form f sound =
    let parts = both (are_distinct (f.positionals ++ f.options)) (nat_lt (length f.positionals) 1000) sound in
    record { disjoint = disjoint_in f.positionals f.options parts.0; apart = apart_in f.positionals f.options parts.0 }

pub names_known : (f : Form) → is_sound f ≡ true → Names f
names_known f sound =
    let parts = both (are_distinct (f.positionals ++ f.options)) (nat_lt (length f.positionals) 1000) sound in
    let few : length f.positionals < 1000 = ltb-true (length f.positionals) 1000 parts.1 in
    record {
      option_known = λ n among. id_is f n (among_right n f.positionals f.options among);
      place_known = λ k id at. id_is f id (among_left id f.positionals f.options (among_at f.positionals k id at));
      few = λ k id at. let within : k < length f.positionals = slice_get_within f.positionals k id at in omega arith;
    }
