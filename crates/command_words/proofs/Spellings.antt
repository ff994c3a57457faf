-- The items of words are those that spell them.
use Rattle.std.proofs.Common.{◌≡◌, ◌≢◌, ◌==◌, ◌&&◌, ◌||◌, ◌↔◌, ◌∙◌, inl, inr, Bool, true, false, not, refl, sym, ap, ap₂, cond, subst, List, [], ◌∷◌, ◌++◌, Option, Some, None, option_map, option_and_then}
use Rattle.std.specs.List.{list_all, list_any}
use Rattle.std.proofs.lemmas.Bool.{eqb-true}
use Rattle.command_words.proofs.WordKinds.{rest_not_plain}
use Rattle.command_words.specs.Reading.{Word, Item, option, positional, Kind, plain, named, wrong, is_plain, may_stand, after_dashes, name_before, value_after, kind_by_value, kind_of_rest, kind_of, items, next_items, fits, if_fits, reading}
use Rattle.command_words.specs.Spelling.{dashed, joined, HasNoEquals, Spells, IsReading, ReadingIsSpelled}

-- ---- one word, from its parts

name_of_joined : (n v : Word) → HasNoEquals n → name_before (n ++ 61 ∷ v) ≡ n
name_of_joined [] v none = refl
name_of_joined (x ∷ xs) v none = go (x == 61) none (name_of_joined xs v)
  where
    go : (b : Bool) → (b || list_any (λ x. x == 61) xs) ≡ false → (HasNoEquals xs → name_before (xs ++ 61 ∷ v) ≡ xs) → cond b [] (x ∷ name_before (xs ++ 61 ∷ v)) ≡ x ∷ xs
    go true none e = absurd (cc)
    go false none e = ap (λ (ys : Word). x ∷ ys) (e none)

value_of_joined : (n v : Word) → HasNoEquals n → value_after (n ++ 61 ∷ v) ≡ Some v
value_of_joined [] v none = refl
value_of_joined (x ∷ xs) v none = go (x == 61) none (value_of_joined xs v)
  where
    go : (b : Bool) → (b || list_any (λ x. x == 61) xs) ≡ false → (HasNoEquals xs → value_after (xs ++ 61 ∷ v) ≡ Some v) → cond b (Some (xs ++ 61 ∷ v)) (value_after (xs ++ 61 ∷ v)) ≡ Some v
    go true none e = absurd (cc)
    go false none e = e none

name_alone : (n : Word) → HasNoEquals n → (name_before n ≡ n) × (value_after n ≡ None)
name_alone [] none = (refl, refl)
name_alone (x ∷ xs) none = go (x == 61) none (name_alone xs)
  where
    go : (b : Bool) → (b || list_any (λ x. x == 61) xs) ≡ false → (HasNoEquals xs → (name_before xs ≡ xs) × (value_after xs ≡ None))
        → (cond b [] (x ∷ name_before xs) ≡ x ∷ xs) × (cond b (Some xs) (value_after xs) ≡ None)
    go true none e = absurd (cc)
    go false none e = (ap (λ (ys : Word). x ∷ ys) (e none).0, (e none).1)

rest_by_parts : (rest : Word) → (rest ≡ [] → ⊥) → kind_of_rest rest ≡ kind_by_value (name_before rest) (value_after rest)
rest_by_parts [] some = absurd (some refl)
rest_by_parts (x ∷ xs) some = refl

joined_some : (n v : Word) → n ++ 61 ∷ v ≡ [] → ⊥
joined_some [] v e = cc
joined_some (x ∷ xs) v e = cc

kind_of_joined : (n v : Word) → HasNoEquals n → is_plain v ≡ true → kind_of (joined n v) ≡ named n (Some v)
kind_of_joined n v none ok =
    rest_by_parts (n ++ 61 ∷ v) (joined_some n v) ∙ ap₂ kind_by_value (name_of_joined n v none) (value_of_joined n v none)
    ∙ ap (λ (b : Bool). cond b (named n (Some v)) wrong) ok

kind_of_dashed : (n : Word) → n ≢ [] → HasNoEquals n → kind_of (dashed n) ≡ named n None
kind_of_dashed n some none = rest_by_parts n some ∙ ap₂ kind_by_value (name_alone n none).0 (name_alone n none).1

kind_of_plain : (w : Word) → is_plain w ≡ true → kind_of w ≡ plain
kind_of_plain w ok = ap (λ (b : Bool). cond b plain (kind_of_rest (after_dashes w))) ok

-- the words that spell items have these items
pub spelled : (xs : List Item) (words : List Word) → Spells xs words → items words None ≡ Some xs
spelled [] words e = rw e refl
spelled (positional w ∷ xs) words (rest, ok, e, later) =
    ap (λ (ws : List Word). items ws None) e ∙ ap (λ (kd : Kind). next_items None kd w (items rest)) (kind_of_plain w ok)
    ∙ ap (option_map (λ (ys : List Item). positional w ∷ ys)) (spelled xs rest later)
spelled (option n v ∷ xs) words (rest, ok, (none, inl e), later) =
    ap (λ (ws : List Word). items ws None) e ∙ ap (λ (kd : Kind). next_items None kd (joined n v) (items rest)) (kind_of_joined n v none ok)
    ∙ ap (option_map (λ (ys : List Item). option n v ∷ ys)) (spelled xs rest later)
spelled (option n v ∷ xs) words (rest, ok, (none, inr (some, e)), later) =
    ap (λ (ws : List Word). items ws None) e ∙ ap (λ (kd : Kind). next_items None kd (dashed n) (items (v ∷ rest))) (kind_of_dashed n some none)
    ∙ ap (λ (kd : Kind). next_items (Some n) kd v (items rest)) (kind_of_plain v ok)
    ∙ ap (option_map (λ (ys : List Item). option n v ∷ ys)) (spelled xs rest later)

-- ---- the parts, from one word

cut_at : (rest v : Word) → value_after rest ≡ Some v → (rest ≡ name_before rest ++ 61 ∷ v) × HasNoEquals (name_before rest)
cut_at [] v e = absurd (cc)
cut_at (x ∷ xs) v e = go (x == 61) refl e (cut_at xs v)
  where
    go : (b : Bool) → (x == 61) ≡ b → cond b (Some xs) (value_after xs) ≡ Some v → (value_after xs ≡ Some v → (xs ≡ name_before xs ++ 61 ∷ v) × HasNoEquals (name_before xs))
        → (x ∷ xs ≡ cond b [] (x ∷ name_before xs) ++ 61 ∷ v) × HasNoEquals (cond b [] (x ∷ name_before xs))
    go true is e later =
        let same : xs ≡ v = cc in
        (ap₂ (λ y (ys : Word). y ∷ ys) (eqb-true x 61 is) same, refl)
    go false is e later =
        let h = later e in
        (ap (λ (ys : Word). x ∷ ys) h.0, ap (λ b. b || list_any (λ x. x == 61) (name_before xs)) is ∙ h.1)

cut_nowhere : (rest : Word) → value_after rest ≡ None → (rest ≡ name_before rest) × HasNoEquals (name_before rest)
cut_nowhere [] e = (refl, refl)
cut_nowhere (x ∷ xs) e = go (x == 61) refl e (cut_nowhere xs)
  where
    go : (b : Bool) → (x == 61) ≡ b → cond b (Some xs) (value_after xs) ≡ None → (value_after xs ≡ None → (xs ≡ name_before xs) × HasNoEquals (name_before xs))
        → (x ∷ xs ≡ cond b [] (x ∷ name_before xs)) × HasNoEquals (cond b [] (x ∷ name_before xs))
    go true is e later = absurd (cc)
    go false is e later =
        let h = later e in
        (ap (λ (ys : Word). x ∷ ys) h.0, ap (λ b. b || list_any (λ x. x == 61) (name_before xs)) is ∙ h.1)

record IsJoined (w n v : Word) : Type 0 where
  is : w ≡ joined n v
  none : HasNoEquals n
  ok : is_plain v ≡ true

record IsDashed (w n : Word) : Type 0 where
  is : w ≡ dashed n
  none : HasNoEquals n
  some : n ≢ []

abbrev PartsOf : Word → Word → Option Word → Type 0
PartsOf w n None = IsDashed w n
PartsOf w n (Some v) = IsJoined w n v

rest_parts : (rest n : Word) (o : Option Word) → kind_of_rest rest ≡ named n o → PartsOf (45 ∷ 45 ∷ rest) n o
rest_parts [] n o e = absurd (cc)
rest_parts (x ∷ xs) n o e = go (value_after (x ∷ xs)) refl e
  where
    pick : (v : Word) (b : Bool) → value_after (x ∷ xs) ≡ Some v → is_plain v ≡ b → cond b (named (name_before (x ∷ xs)) (Some v)) wrong ≡ named n o → PartsOf (45 ∷ 45 ∷ x ∷ xs) n o
    pick v true is ok e =
        let name : name_before (x ∷ xs) ≡ n = cc in
        let value : Some v ≡ o = cc in
        let h = cut_at (x ∷ xs) v is in
        subst (PartsOf (45 ∷ 45 ∷ x ∷ xs) n) value (record {
          is = ap (λ (ys : Word). 45 ∷ 45 ∷ ys) (h.0 ∙ ap (λ (ys : Word). ys ++ 61 ∷ v) name);
          none = ap (list_any (λ x. x == 61)) (sym name) ∙ h.1;
          ok = ok;
        })
    pick v false is ok e = absurd (cc)

    go : (p : Option Word) → value_after (x ∷ xs) ≡ p → kind_by_value (name_before (x ∷ xs)) p ≡ named n o → PartsOf (45 ∷ 45 ∷ x ∷ xs) n o
    go None is e =
        let name : name_before (x ∷ xs) ≡ n = cc in
        let value : None ≡ o = cc in
        let h = cut_nowhere (x ∷ xs) is in
        subst (PartsOf (45 ∷ 45 ∷ x ∷ xs) n) value (record {
          is = ap (λ (ys : Word). 45 ∷ 45 ∷ ys) (h.0 ∙ name);
          none = ap (list_any (λ x. x == 61)) (sym name) ∙ h.1;
          some = λ empty. let bad : x ∷ xs ≡ [] = h.0 ∙ (name ∙ empty) in absurd (cc);
        })
    go (Some v) is e = pick v (is_plain v) is refl e

word_parts : (w n : Word) (o : Option Word) → kind_of w ≡ named n o → PartsOf w n o
word_parts [] n o e = absurd (cc)
word_parts (x ∷ []) n o e = go (x == 45) e
  where
    go : (t : Bool) → cond (not t) plain wrong ≡ named n o → PartsOf (x ∷ []) n o
    go true e = absurd (cc)
    go false e = absurd (cc)
word_parts (x ∷ y ∷ rest) n o e = go (x == 45) (y == 45) refl refl e
  where
    go : (s t : Bool) → (x == 45) ≡ s → (y == 45) ≡ t → cond (not s) plain (kind_of_rest (cond (s && t) rest [])) ≡ named n o → PartsOf (x ∷ y ∷ rest) n o
    go false t is at e = absurd (cc)
    go true false is at e = absurd (cc)
    go true true is at e =
        let same : 45 ∷ 45 ∷ rest ≡ x ∷ y ∷ rest = ap₂ (λ a b. a ∷ b ∷ rest) (sym (eqb-true x 45 is)) (sym (eqb-true y 45 at)) in
        subst (λ (w : Word). PartsOf w n o) same (rest_parts rest n o e)

plain_parts : (w : Word) → kind_of w ≡ plain → is_plain w ≡ true
plain_parts w e = go (is_plain w) refl e
  where
    go : (b : Bool) → is_plain w ≡ b → cond b plain (kind_of_rest (after_dashes w)) ≡ plain → b ≡ true
    go true is e = refl
    go false is e = absurd (rest_not_plain (after_dashes w) e)

-- ---- the items of words spell them

abbrev WaitsFor : Word → List Item → List Word → Type 0
WaitsFor n xs words = (v : Word) × (rest : List Word) × (ys : List Item) × (words ≡ v ∷ rest) × (option n v ∷ ys ≡ xs) × (is_plain v ≡ true) × Spells ys rest

abbrev Back : List Word → Type 0
Back words = ((xs : List Item) → items words None ≡ Some xs → Spells xs words) × ((n : Word) (xs : List Item) → items words (Some n) ≡ Some xs → WaitsFor n xs words)

-- the first item is off
first_off : (x : Item) (words : List Word) (xs : List Item) (o : Option (List Item)) → option_map (λ (ys : List Item). x ∷ ys) o ≡ Some xs → (ys : List Item) × (o ≡ Some ys) × (x ∷ ys ≡ xs)
first_off x words xs None e = absurd (cc)
first_off x words xs (Some ys) e =
    let same : x ∷ ys ≡ xs = cc in
    (ys, refl, same)

back : (words : List Word) → Back words
back [] = (λ xs e. let same : [] ≡ xs = cc in subst (λ (ys : List Item). Spells ys []) same refl, λ n xs e. absurd (cc))
back (w ∷ words) = go (kind_of w) refl (back words)
  where
    go : (kd : Kind) → kind_of w ≡ kd → Back words
        → ((xs : List Item) → next_items None kd w (items words) ≡ Some xs → Spells xs (w ∷ words)) × ((n : Word) (xs : List Item) → next_items (Some n) kd w (items words) ≡ Some xs → WaitsFor n xs (w ∷ words))
    go plain is later = (
      λ xs e.
          let h = first_off (positional w) words xs (items words None) e in
          subst (λ (ys : List Item). Spells ys (w ∷ words)) h.2 (words, plain_parts w is, refl, later.0 h.0 h.1),
      λ n xs e.
          let h = first_off (option n w) words xs (items words None) e in
          (w, words, h.0, refl, h.2, plain_parts w is, later.0 h.0 h.1),
    )
    go (named n (Some v)) is later = (
      λ xs e.
          let h = first_off (option n v) words xs (items words None) e in
          let p = word_parts w n (Some v) is in
          subst (λ (ys : List Item). Spells ys (w ∷ words)) h.2 (words, p.ok, (p.none, inl (ap (λ (x : Word). x ∷ words) p.is)), later.0 h.0 h.1),
      λ o xs e. absurd (cc),
    )
    go (named n None) is later = (
      λ xs e.
          let h = later.1 n xs e in
          let p = word_parts w n None is in
          subst (λ (ys : List Item). Spells ys (w ∷ words)) h.4 (h.1, h.5, (p.none, inr (p.some, ap₂ (λ (x : Word) (ws : List Word). x ∷ ws) p.is h.3)), h.6),
      λ o xs e. absurd (cc),
    )
    go wrong is later = (λ xs e. absurd (cc), λ o xs e. absurd (cc))

pub items_spell : (words : List Word) (xs : List Item) → (items words None ≡ Some xs) ↔ Spells xs words
items_spell words xs = ((back words).0 xs, spelled xs words)

pub reading_spells : ReadingIsSpelled
reading_spells form words xs = (into (list_all may_stand words) refl, back_from)
  where
    pick : (ys : List Item) (b : Bool) → fits form ys ≡ b → cond b (Some ys) None ≡ Some xs → (ys ≡ xs) × (fits form xs ≡ true)
    pick ys true fit e =
        let same : ys ≡ xs = cc in
        (same, ap (fits form) (sym same) ∙ fit)
    pick ys false fit e = absurd (cc)

    open_up : (o : Option (List Item)) → items words None ≡ o → option_and_then (if_fits form) o ≡ Some xs → Spells xs words × (fits form xs ≡ true)
    open_up None is e = absurd (cc)
    open_up (Some ys) is e =
        let h = pick ys (fits form ys) refl e in
        ((items_spell words xs).0 (is ∙ ap (λ (zs : List Item). Some zs) h.0), h.1)

    into : (b : Bool) → list_all may_stand words ≡ b → cond b (option_and_then (if_fits form) (items words None)) None ≡ Some xs → IsReading form words xs
    into true is e =
        let h = open_up (items words None) refl e in
        (is, h.0, h.1)
    into false is e = absurd (cc)

    back_from : IsReading form words xs → reading form words ≡ Some xs
    back_from (text, spells, fit) =
        ap (λ (b : Bool). cond b (option_and_then (if_fits form) (items words None)) None) text
        ∙ ap (option_and_then (if_fits form)) ((items_spell words xs).1 spells)
        ∙ ap (λ (b : Bool). cond b (Some xs) None) fit
