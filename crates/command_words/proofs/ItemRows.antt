-- The rows of items, and which items have rows.
use Rattle.std.proofs.Common.{◌≡◌, ◌==◌, ◌&&◌, ◌||◌, ◌+◌, ◌<◌, ◌≤◌, ◌∙◌, inl, inr, ℕ, Bool, true, false, not, zero, suc, refl, sym, ap, ap₂, cond, List, [], ◌∷◌, ◌++◌, length, Option, Some, None, option_map, option_and_then, is_some, append_assoc, arith}
use Rattle.std.specs.Prelude.{slice_get, nat_lt, nat_le, find}
use Rattle.std.specs.List.{list_any, list_all}
use Rattle.std.specs.Option.{option_map_or}
use Rattle.std.specs.Str.{bytes_eq}
use Rattle.std.proofs.lemmas.Slice.Eq.{bytes_eq-Decides}
use Rattle.std.proofs.lemmas.List.{append-nil}
use Rattle.std.proofs.lemmas.List.Folds.{list_any-append}
use Rattle.std.proofs.lemmas.Option.{slice_get_within, slice_get_cases}
use Rattle.std.proofs.lemmas.Bool.{lt-ltb, ltb-true, le-leb}
use Rattle.std.proofs.lemmas.Bool.Decides.{nat_tests}
use Rattle.clap.specs.Walk.{Row, has_row, first_of}
use Rattle.clap.specs.Takes.{is_given}
use Rattle.clap.specs.Facts.{explicit_source}
use Rattle.clap.proofs.WalkLemmas.{both}
use Rattle.command_words.specs.Reading.{Word, Form, Item, option, positional, options_of, positionals_of, names_of, is_among, are_distinct, fits, value_of}
use Rattle.command_words.proofs.ClapTurns.{row}
use Rattle.command_words.proofs.ClapEnding.{at_place, taken}
use Rattle.command_words.proofs.ClapLevel.{misses, is_whole}
use Rattle.command_words.proofs.SoundForms.{Sound, bytes_eq_sym}

abbrev ok : Form → List Item → List Word → ℕ → Bool
ok f [] seen k = true
ok f (option n v ∷ xs) seen k = is_among n f.options && (not (is_among n seen) && ok f xs (n ∷ seen) k)
ok f (positional v ∷ xs) seen k = nat_lt k (length f.positionals) && ok f xs seen (k + 1)

abbrev place_row : Option Word → Word → List Row → List Row
place_row None v rest = rest
place_row (Some id) v rest = row id v ∷ rest

abbrev rows_from : Form → List Item → ℕ → List Row
rows_from f [] k = []
rows_from f (option n v ∷ xs) k = row n v ∷ rows_from f xs k
rows_from f (positional v ∷ xs) k = place_row (slice_get f.positionals k) v (rows_from f xs (k + 1))

record Holds (f : Form) (rows : List Row) (seen : List Word) (k : ℕ) : Type 0 where
  opt : (n : Word) → is_among n f.options ≡ true → has_row n rows ≡ is_among n seen
  pos : (j : ℕ) (id : Word) → k ≤ j → slice_get f.positionals j ≡ Some id → has_row id rows ≡ false

below_none : (k n : ℕ) → n ≤ k → nat_lt k n ≡ false
below_none k n h = grind (arith, nat_tests)

past_end : (ps : List Word) (k : ℕ) → slice_get ps k ≡ None → nat_lt k (length ps) ≡ false
past_end ps k none = elim (slice_get_cases ps k).1 [
  | inl h ↦ absurd (cc)
  | inr h ↦ below_none k (length ps) h.0
]

or_swap : (a b : Bool) → (a || (b || false)) ≡ (b || a)
or_swap true true = refl
or_swap true false = refl
or_swap false true = refl
or_swap false false = refl

has_row_more : (n id v : Word) (rows : List Row) → has_row n (rows ++ row id v ∷ []) ≡ (bytes_eq id n || has_row n rows)
has_row_more n id v rows = list_any-append (λ (r : Row). bytes_eq r.id n) rows (row id v ∷ []) ∙ or_swap (has_row n rows) (bytes_eq id n)

not_seen : (n : Word) (seen names : List Word) → list_all (λ m. not (bytes_eq n m || is_among m seen)) names ≡ (list_all (λ m. not (is_among m seen)) names && not (is_among n names))
not_seen n seen [] = refl
not_seen n seen (m ∷ ms) = ap₂ (λ a b. not (a || is_among m seen) && b) (bytes_eq_sym n m) (not_seen n seen ms) ∙ go (bytes_eq m n) (is_among m seen) (list_all (λ m. not (is_among m seen)) ms) (is_among n ms)
  where
    go : (a b c d : Bool) → (not (a || b) && (c && not d)) ≡ ((not b && c) && not (a || d))
    go true true c d = refl
    go true false true d = refl
    go true false false d = refl
    go false true c d = refl
    go false false c d = refl

regroup : (a h l s m d c : Bool) → (a && (h && (l && ((s && m) && (d && c))))) ≡ ((a && l) && ((h && s) && ((m && d) && c)))
regroup false h l s m d c = refl
regroup true false true s m d c = refl
regroup true false false s m d c = refl
regroup true true false s m d c = refl
regroup true true true false m d c = refl
regroup true true true true false d c = refl
regroup true true true true true d c = refl

too_many : (k n m : ℕ) → nat_lt k m ≡ false → nat_le (k + suc n) m ≡ false
too_many k n m h = grind (arith, nat_tests)

same_length : (n m : ℕ) → (nat_le (0 + n) m && nat_le m n) ≡ (n == m)
same_length n m = grind (arith, nat_tests)

all_true : (names : List Word) → list_all (λ n. true) names ≡ true
all_true [] = refl
all_true (n ∷ ns) = all_true ns

all_given : (ps vs : List Word) (g : Word → Bool) → ((j : ℕ) (id : Word) → slice_get ps j ≡ Some id → g id ≡ is_some (slice_get vs j)) → not (list_any (λ id. not (g id)) ps) ≡ nat_le (length ps) (length vs)
all_given [] vs g h = sym (le-leb 0 (length vs) (omega arith))
all_given (p ∷ ps) [] g h =
    let none : nat_le (suc (length ps)) 0 ≡ false = grind (arith, nat_tests) in
    rw (h 0 p refl, none) refl
all_given (p ∷ ps) (v ∷ vs) g h =
    let more : nat_le (length ps) (length vs) ≡ nat_le (suc (length ps)) (suc (length vs)) = grind (arith, nat_tests) in
    ap (λ b. not (not b || list_any (λ id. not (g id)) ps)) (h 0 p refl) ∙ all_given ps vs g (λ j id at. h (suc j) id at) ∙ more

module _ (f : Form) (sound : Sound f) where
  holds_option : (rows : List Row) (seen : List Word) (k : ℕ) (n v : Word) → is_among n f.options ≡ true → Holds f rows seen k → Holds f (rows ++ row n v ∷ []) (n ∷ seen) k
  holds_option rows seen k n v among h = record {
    opt = λ m e. has_row_more m n v rows ∙ ap (λ b. bytes_eq n m || b) (h.opt m e);
    pos = λ j id above at. has_row_more id n v rows ∙ ap₂ (λ a b. a || b) (bytes_eq_sym n id ∙ sound.disjoint j id n at among) (h.pos j id above at);
  }

  holds_place : (rows : List Row) (seen : List Word) (k : ℕ) (id v : Word) → slice_get f.positionals k ≡ Some id → Holds f rows seen k → Holds f (rows ++ row id v ∷ []) seen (k + 1)
  holds_place rows seen k id v here h = record {
    opt = λ m e. has_row_more m id v rows ∙ ap₂ (λ a b. a || b) (sound.disjoint k id m here e) (h.opt m e);
    pos = λ j o above at.
        let up : k < j = omega arith in
        has_row_more o id v rows ∙ ap₂ (λ a b. a || b) (sound.apart k j id o up here at) (h.pos j o (omega arith) at);
  }

  taken_is : (xs : List Item) (rows : List Row) (seen : List Word) (k : ℕ) → Holds f rows seen k → taken f xs rows k ≡ cond (ok f xs seen k) (Some (rows ++ rows_from f xs k)) None
  taken_is [] rows seen k h = ap (λ (r : List Row). Some r) (sym (append-nil rows))
  taken_is (option n v ∷ xs) rows seen k h = go (is_among n f.options) refl (λ among. taken_is xs (rows ++ row n v ∷ []) (n ∷ seen) k (holds_option rows seen k n v among h))
    where
      pick : (s : Bool) → (O : Bool) (T : Option (List Row)) → T ≡ cond O (Some ((rows ++ row n v ∷ []) ++ rows_from f xs k)) None
          → cond s None T ≡ cond (not s && O) (Some (rows ++ row n v ∷ rows_from f xs k)) None
      pick true O T e = refl
      pick false O T e = e ∙ ap (λ (r : List Row). cond O (Some r) None) (append_assoc rows (row n v ∷ []) (rows_from f xs k))

      go : (a : Bool) → is_among n f.options ≡ a → (is_among n f.options ≡ true → taken f xs (rows ++ row n v ∷ []) k ≡ cond (ok f xs (n ∷ seen) k) (Some ((rows ++ row n v ∷ []) ++ rows_from f xs k)) None)
          → cond a (cond (has_row n rows) None (taken f xs (rows ++ row n v ∷ []) k)) None ≡ cond (a && (not (is_among n seen) && ok f xs (n ∷ seen) k)) (Some (rows ++ row n v ∷ rows_from f xs k)) None
      go false among e = refl
      go true among e = ap (λ (b : Bool). cond b None (taken f xs (rows ++ row n v ∷ []) k)) (h.opt n among) ∙ pick (is_among n seen) (ok f xs (n ∷ seen) k) _ (e among)
  taken_is (positional v ∷ xs) rows seen k h = go (slice_get f.positionals k) refl (λ id here. taken_is xs (rows ++ row id v ∷ []) seen (k + 1) (holds_place rows seen k id v here h))
    where
      go : (o : Option Word) → slice_get f.positionals k ≡ o
          → ((id : Word) → slice_get f.positionals k ≡ Some id → taken f xs (rows ++ row id v ∷ []) (k + 1) ≡ cond (ok f xs seen (k + 1)) (Some ((rows ++ row id v ∷ []) ++ rows_from f xs (k + 1))) None)
          → at_place o rows v (λ rs. taken f xs rs (k + 1)) ≡ cond (nat_lt k (length f.positionals) && ok f xs seen (k + 1)) (Some (rows ++ place_row o v (rows_from f xs (k + 1)))) None
      go None is e =
          let past : nat_lt k (length f.positionals) ≡ false = past_end f.positionals k is in
          rw past refl
      go (Some id) is e =
          let within : nat_lt k (length f.positionals) ≡ true = lt-ltb k (length f.positionals) (slice_get_within f.positionals k id is) in
          rw (h.pos k id (omega arith) is, within, e id is) (ap (λ (r : List Row). cond (ok f xs seen (k + 1)) (Some r) None) (append_assoc rows (row id v ∷ []) (rows_from f xs (k + 1))))

  find_option : (n : Word) → is_among n f.options ≡ true → (xs : List Item) (k : ℕ) → find (λ r. bytes_eq r.id n) (rows_from f xs k) ≡ option_map (row n) (value_of n xs)
  find_option n among [] k = refl
  find_option n among (option m v ∷ xs) k = go (bytes_eq m n) ((bytes_eq-Decides m n).0) (find_option n among xs k)
    where
      go : (b : Bool) → (b ≡ true → m ≡ n) → find (λ r. bytes_eq r.id n) (rows_from f xs k) ≡ option_map (row n) (value_of n xs)
          → cond b (Some (row m v)) (find (λ r. bytes_eq r.id n) (rows_from f xs k)) ≡ option_map (row n) (option_map (λ o. o.1) (cond b (Some (m, v)) (find (λ o. bytes_eq o.0 n) (options_of xs))))
      go true same e = ap (λ (x : Word). Some (row x v)) (same refl)
      go false same e = e
  find_option n among (positional v ∷ xs) k = go (slice_get f.positionals k) refl (find_option n among xs (k + 1))
    where
      go : (o : Option Word) → slice_get f.positionals k ≡ o → find (λ r. bytes_eq r.id n) (rows_from f xs (k + 1)) ≡ option_map (row n) (value_of n xs)
          → find (λ r. bytes_eq r.id n) (place_row o v (rows_from f xs (k + 1))) ≡ option_map (row n) (value_of n xs)
      go None is e = e
      go (Some id) is e = ap (λ b. cond b (Some (row id v)) (find (λ r. bytes_eq r.id n) (rows_from f xs (k + 1)))) (sound.disjoint k id n is among) ∙ e

  find_place : (xs : List Item) (k i : ℕ) (id : Word) → list_all (λ n. is_among n f.options) (names_of xs) ≡ true → slice_get f.positionals (k + i) ≡ Some id
      → find (λ r. bytes_eq r.id id) (rows_from f xs k) ≡ option_map (row id) (slice_get (positionals_of xs) i)
  find_place [] k i id known here = refl
  find_place (option m v ∷ xs) k i id known here =
      let parts = both (is_among m f.options) (list_all (λ n. is_among n f.options) (names_of xs)) known in
      ap (λ b. cond b (Some (row m v)) (find (λ r. bytes_eq r.id id) (rows_from f xs k))) (bytes_eq_sym m id ∙ sound.disjoint (k + i) id m here parts.0)
      ∙ find_place xs k i id parts.1 here
  find_place (positional v ∷ xs) k zero id known here =
      let first : k ≡ k + 0 = omega arith in
      ap (λ o. find (λ r. bytes_eq r.id id) (place_row o v (rows_from f xs (k + 1)))) (ap (slice_get f.positionals) first ∙ here)
      ∙ ap (λ b. cond b (Some (row id v)) (find (λ r. bytes_eq r.id id) (rows_from f xs (k + 1)))) ((bytes_eq-Decides id id).1 refl)
  find_place (positional v ∷ xs) k (suc i) id known here =
      let later : k + 1 + i ≡ k + suc i = omega arith in
      go (slice_get f.positionals k) refl (find_place xs (k + 1) i id known (ap (slice_get f.positionals) later ∙ here))
    where
      go : (o : Option Word) → slice_get f.positionals k ≡ o → find (λ r. bytes_eq r.id id) (rows_from f xs (k + 1)) ≡ option_map (row id) (slice_get (positionals_of xs) i)
          → find (λ r. bytes_eq r.id id) (place_row o v (rows_from f xs (k + 1))) ≡ option_map (row id) (slice_get (positionals_of xs) i)
      go None is e = e
      go (Some other) is e =
          let up : k < k + suc i = omega arith in
          ap (λ b. cond b (Some (row other v)) (find (λ r. bytes_eq r.id id) (rows_from f xs (k + 1)))) (sound.apart k (k + suc i) other id up is here) ∙ e

  -- ---- which items have rows

  ok_is : (xs : List Item) (seen : List Word) (k : ℕ) → k ≤ length f.positionals → ok f xs seen k
      ≡ (list_all (λ n. is_among n f.options) (names_of xs) && (list_all (λ n. not (is_among n seen)) (names_of xs)
      && (are_distinct (names_of xs) && nat_le (k + length (positionals_of xs)) (length f.positionals))))
  ok_is [] seen k below = sym (le-leb (k + 0) (length f.positionals) (omega arith))
  ok_is (option n v ∷ xs) seen k below =
      ap (λ b. is_among n f.options && (not (is_among n seen) && b)) (ok_is xs (n ∷ seen) k below
      ∙ ap (λ b. list_all (λ n. is_among n f.options) (names_of xs) && (b && (are_distinct (names_of xs) && nat_le (k + length (positionals_of xs)) (length f.positionals)))) (not_seen n seen (names_of xs)))
      ∙ regroup (is_among n f.options) (not (is_among n seen)) (list_all (λ n. is_among n f.options) (names_of xs)) (list_all (λ n. not (is_among n seen)) (names_of xs)) (not (is_among n (names_of xs)))
      (are_distinct (names_of xs)) (nat_le (k + length (positionals_of xs)) (length f.positionals))
  ok_is (positional v ∷ xs) seen k below = go (nat_lt k (length f.positionals)) refl (λ more. ok_is xs seen (k + 1) more)
    where
      three : (a b c : Bool) → false ≡ (a && (b && (c && false)))
      three true true true = refl
      three true true false = refl
      three true false c = refl
      three false b c = refl

      go : (b : Bool) → nat_lt k (length f.positionals) ≡ b
          → (k + 1 ≤ length f.positionals → ok f xs seen (k + 1) ≡ (list_all (λ n. is_among n f.options) (names_of xs) && (list_all (λ n. not (is_among n seen)) (names_of xs)
          && (are_distinct (names_of xs) && nat_le (k + 1 + length (positionals_of xs)) (length f.positionals)))))
          → (b && ok f xs seen (k + 1)) ≡ (list_all (λ n. is_among n f.options) (names_of xs) && (list_all (λ n. not (is_among n seen)) (names_of xs)
          && (are_distinct (names_of xs) && nat_le (k + suc (length (positionals_of xs))) (length f.positionals))))
      go true is e =
          let within : k < length f.positionals = ltb-true k (length f.positionals) is in
          let same : k + 1 + length (positionals_of xs) ≡ k + suc (length (positionals_of xs)) = omega arith in
          e (omega arith) ∙ ap (λ n. list_all (λ n. is_among n f.options) (names_of xs) && (list_all (λ n. not (is_among n seen)) (names_of xs) && (are_distinct (names_of xs) && nat_le n (length f.positionals)))) same
      go false is e =
          let over : nat_le (k + suc (length (positionals_of xs))) (length f.positionals) ≡ false = too_many k (length (positionals_of xs)) (length f.positionals) is in
          rw over (three (list_all (λ n. is_among n f.options) (names_of xs)) (list_all (λ n. not (is_among n seen)) (names_of xs)) (are_distinct (names_of xs)))

  given_is : (xs : List Item) (j : ℕ) (id : Word) → list_all (λ n. is_among n f.options) (names_of xs) ≡ true → slice_get f.positionals j ≡ Some id
      → is_given id (rows_from f xs 0) ≡ is_some (slice_get (positionals_of xs) j)
  given_is xs j id known here =
      let at : 0 + j ≡ j = omega arith in
      ap (λ (o : Option Row). option_map_or (λ r. explicit_source r.source) o false) (find_place xs 0 j id known (ap (slice_get f.positionals) at ∙ here)) ∙ go (slice_get (positionals_of xs) j)
    where
      go : (o : Option Word) → option_map_or (λ r. explicit_source r.source) (option_map (row id) o) false ≡ is_some o
      go None = refl
      go (Some v) = refl

  misses_is : (xs : List Item) → list_all (λ n. is_among n f.options) (names_of xs) ≡ true → not (misses f (rows_from f xs 0)) ≡ nat_le (length f.positionals) (length (positionals_of xs))
  misses_is xs known = all_given f.positionals (positionals_of xs) (λ id. is_given id (rows_from f xs 0)) (λ j id here. given_is xs j id known here)

  nothing_yet : Holds f [] [] 0
  nothing_yet = record { opt = λ n e. refl; pos = λ j id above at. refl }

  pub rows_are : (xs : List Item) → taken f xs [] 0 ≡ cond (ok f xs [] 0) (Some (rows_from f xs 0)) None
  rows_are xs = taken_is xs [] [] 0 nothing_yet

  -- the items have rows, and none of the positional words is missing, exactly where they fit
  pub whole_is : (xs : List Item) → is_whole f (taken f xs [] 0) ≡ fits f xs
  whole_is xs = ap (is_whole f) (rows_are xs) ∙ split (ok f xs [] 0) ∙ ap (λ b. b && not (misses f (rows_from f xs 0))) (ok_is xs [] 0 (omega arith))
      ∙ last (list_all (λ n. is_among n f.options) (names_of xs)) (list_all (λ n. true) (names_of xs)) (are_distinct (names_of xs)) (nat_le (0 + length (positionals_of xs)) (length f.positionals)) (not (misses f (rows_from f xs 0)))
      (length (positionals_of xs) == length f.positionals) (all_true (names_of xs)) (λ known. ap (λ b. nat_le (0 + length (positionals_of xs)) (length f.positionals) && b) (misses_is xs known) ∙ same_length (length (positionals_of xs)) (length f.positionals))
    where
      split : (b : Bool) → is_whole f (cond b (Some (rows_from f xs 0)) None) ≡ (b && not (misses f (rows_from f xs 0)))
      split true = refl
      split false = refl

      last : (l s d c m e : Bool) → s ≡ true → (l ≡ true → (c && m) ≡ e) → ((l && (s && (d && c))) && m) ≡ (l && (d && e))
      last false s d c m e all h = refl
      last true s false c m e all h = rw all refl
      last true s true c m e all h = rw all (h refl)

  same_rows : (xs : List Item) (rows : List Row) → taken f xs [] 0 ≡ Some rows → rows_from f xs 0 ≡ rows
  same_rows xs rows is = go (ok f xs [] 0) (sym (rows_are xs) ∙ is)
    where
      go : (b : Bool) → cond b (Some (rows_from f xs 0)) None ≡ Some rows → rows_from f xs 0 ≡ rows
      go true e = cc
      go false e = absurd (cc)

  value_back : (id : Word) (o : Option Word) → option_and_then (λ (r : Row). slice_get r.values 0) (option_map (row id) o) ≡ o
  value_back id None = refl
  value_back id (Some v) = refl

  pub first_option : (xs : List Item) (rows : List Row) (n : Word) → is_among n f.options ≡ true → taken f xs [] 0 ≡ Some rows → first_of n rows ≡ value_of n xs
  first_option xs rows n among is =
      ap (λ (r : List Row). first_of n r) (sym (same_rows xs rows is)) ∙ ap (option_and_then (λ (r : Row). slice_get r.values 0)) (find_option n among xs 0) ∙ value_back n (value_of n xs)

  pub first_place : (xs : List Item) (rows : List Row) (j : ℕ) (id : Word) → fits f xs ≡ true → slice_get f.positionals j ≡ Some id → taken f xs [] 0 ≡ Some rows
      → first_of id rows ≡ slice_get (positionals_of xs) j
  first_place xs rows j id fit here is =
      let parts = both (list_all (λ n. is_among n f.options) (names_of xs)) (are_distinct (names_of xs) && (length (positionals_of xs) == length f.positionals)) fit in
      let at : 0 + j ≡ j = omega arith in
      ap (λ (r : List Row). first_of id r) (sym (same_rows xs rows is))
      ∙ ap (option_and_then (λ (r : Row). slice_get r.values 0)) (find_place xs 0 j id parts.0 (ap (slice_get f.positionals) at ∙ here)) ∙ value_back id (slice_get (positionals_of xs) j)
