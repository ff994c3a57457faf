-- What `clap` sees in a word of each kind.
use Rattle.std.proofs.Common.{◌≡◌, ◌==◌, ◌&&◌, ◌||◌, ◌+◌, suc, arith, take, drop, ◌∙◌, ap₂, Bool, true, false, not, refl, ap, cond, [], ◌∷◌, Option, Some, None}
use Rattle.std.specs.List.{position_or_len}
use Rattle.std.specs.Str.{bytes_eq}
use Rattle.clap.specs.Lexer.{long_of, long_of_rest, short_of, has_byte, name_and_value}
use Rattle.command_words.specs.Reading.{Word, plain, named, wrong, is_plain, name_before, value_after, kind_by_value, after_dashes, kind_of_rest, kind_of}

pub record IsNamed (w n : Word) (v : Option Word) : Type 0 where
  pub no_end : bytes_eq w (45 ∷ 45 ∷ []) ≡ false
  pub long : long_of w ≡ Some (n, v)

pub record IsPlainWord (w : Word) : Type 0 where
  pub no_end : bytes_eq w (45 ∷ 45 ∷ []) ≡ false
  pub long : long_of w ≡ None
  pub short : short_of w ≡ None

pub rest_not_plain : (rest : Word) → kind_of_rest rest ≡ plain → ⊥
rest_not_plain [] e = cc
rest_not_plain (y ∷ ys) e = pick (value_after (y ∷ ys)) e
  where
    go : (v : Word) (b : Bool) → cond b (named (name_before (y ∷ ys)) (Some v)) wrong ≡ plain → ⊥
    go v true e = cc
    go v false e = cc

    pick : (o : Option Word) → kind_by_value (name_before (y ∷ ys)) o ≡ plain → ⊥
    pick None e = cc
    pick (Some v) e = go v (is_plain v) e

pub plain_word : (w : Word) → kind_of w ≡ plain → IsPlainWord w
plain_word [] e = absurd (rest_not_plain [] e)
plain_word (x ∷ xs) e = go (x == 45) refl e
  where
    go : (t : Bool) → (x == 45) ≡ t → cond (not t) plain (kind_of_rest (after_dashes (x ∷ xs))) ≡ plain → IsPlainWord (x ∷ xs)
    go true is e = absurd (rest_not_plain (after_dashes (x ∷ xs)) e)
    go false is e = record { no_end = rw is refl; long = rw is refl; short = rw is refl }

-- `clap` cuts the rest in the same way
cut_is : (rest : Word) → name_and_value rest ≡ (name_before rest, value_after rest)
cut_is [] = refl
cut_is (x ∷ xs) = go (x == 61) (cut_is xs)
  where
    go : (b : Bool) → name_and_value xs ≡ (name_before xs, value_after xs)
        → ◌≡◌ {A = Word × Option Word} (take (cond (not b) (1 + position_or_len (λ x. x == 61) xs) 0) (x ∷ xs), cond (b || has_byte 61 xs) (Some (drop (cond (not b) (1 + position_or_len (λ x. x == 61) xs) 0 + 1) (x ∷ xs))) None)
        (cond b [] (x ∷ name_before xs), cond b (Some xs) (value_after xs))
    go true e = refl
    go false e =
        let first : 1 + position_or_len (λ x. x == 61) xs ≡ suc (position_or_len (λ x. x == 61) xs) = omega arith in
        let next : 1 + position_or_len (λ x. x == 61) xs + 1 ≡ suc (position_or_len (λ x. x == 61) xs + 1) = omega arith in
        ap₂ (λ m n. (take m (x ∷ xs), cond (has_byte 61 xs) (Some (drop n (x ∷ xs))) None)) first next
        ∙ ap (λ (p : Word × Option Word). (x ∷ p.0, p.1)) e

-- what the rest after `--` says
rest_named : (rest n : Word) (v : Option Word) → kind_of_rest rest ≡ named n v → long_of_rest rest ≡ Some (n, v)
rest_named [] n v e = absurd (cc)
rest_named (y ∷ ys) n v e = ap (λ (p : Word × Option Word). Some p) (cut_is (y ∷ ys)) ∙ pick (value_after (y ∷ ys)) e
  where
    go : (x : Word) (b : Bool) → cond b (named (name_before (y ∷ ys)) (Some x)) wrong ≡ named n v → ◌≡◌ {A = Option (Word × Option Word)} (Some (name_before (y ∷ ys), Some x)) (Some (n, v))
    go x true e = cc
    go x false e = absurd (cc)

    pick : (o : Option Word) → kind_by_value (name_before (y ∷ ys)) o ≡ named n v → ◌≡◌ {A = Option (Word × Option Word)} (Some (name_before (y ∷ ys), o)) (Some (n, v))
    pick None e = cc
    pick (Some x) e = go x (is_plain x) e

pub named_word : (w n : Word) (v : Option Word) → kind_of w ≡ named n v → IsNamed w n v
named_word [] n v e = absurd (cc)
named_word (x ∷ []) n v e = go (x == 45) e
  where
    go : (t : Bool) → cond (not t) plain wrong ≡ named n v → IsNamed (x ∷ []) n v
    go true e = absurd (cc)
    go false e = absurd (cc)
named_word (x ∷ y ∷ rest) n v e = go (x == 45) (y == 45) refl refl e
  where
    go : (s t : Bool) → (x == 45) ≡ s → (y == 45) ≡ t → cond (not s) plain (kind_of_rest (cond (s && t) rest [])) ≡ named n v → IsNamed (x ∷ y ∷ rest) n v
    go false t is at e = absurd (cc)
    go true false is at e = absurd (cc)
    go true true is at e =
        let long : long_of_rest rest ≡ Some (n, v) = rest_named rest n v e in
        record { no_end = rw (is, at) (longer rest e); long = rw (is, at) long }
      where
        longer : (rest : Word) → kind_of_rest rest ≡ named n v → bytes_eq rest [] ≡ false
        longer [] e = absurd (cc)
        longer (z ∷ zs) e = refl
