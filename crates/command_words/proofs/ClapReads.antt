-- `clap` reads the words after a command as its form says.
use Rattle.std.proofs.Common.{◌≡◌, ◌&&◌, ◌∙◌, ℕ, Bool, true, false, refl, sym, ap, ap₂, cond, List, [], ◌∷◌, map, drop, Option, Some, None, option_and_then, is_some}
use Rattle.std.specs.Prelude.{slice_get}
use Rattle.std.specs.List.{list_all}
use Rattle.clap.specs.Words.{App, fault_of, matches_of, first_of, found_of, is_simple, is_simple_and_free}
use Rattle.clap.specs.declared.parser.matches.ArgMatches.{ArgMatches}
use Rattle.clap.proofs.WalkLemmas.{first_value-rows}
use Rattle.clap.specs.Simple.{built, label_of}
use Rattle.clap.specs.Kinds.{Kinds}
use Rattle.clap.specs.Walk.{Row, nothing_held, rows_after}
use Rattle.clap.specs.Faults.{built_fault, level_fault}
use Rattle.clap.proofs.FaultLemmas.{leaf_fault}
use Rattle.command_words.specs.Reading.{Word, Form, Item, Kind, plain, named, wrong, kind_of, is_right, may_stand, goes_to_clap, items, next_items, fits, if_fits, reading, is_among, value_of, positionals_of}
use Rattle.command_words.specs.ClapForm.{Answers, ReadsBy, is_sound}
use Rattle.command_words.proofs.ArgRules.{shape_for}
use Rattle.command_words.proofs.ClapTurns.{is_clean}
use Rattle.command_words.proofs.ClapEnding.{rows_of_items, taken}
use Rattle.command_words.proofs.ClapLevel.{is_whole, level_is, rows_after_is}
use Rattle.command_words.proofs.SoundForms.{sound_form, names_known}
use Rattle.command_words.proofs.ItemRows.{whole_is, first_option, first_place}

-- what `clap` reads of the command is what the form has
pub record IsCommandOf (f : Form) (a : App) : Type 0 where
  pub name : Word
  pub as_built : built a ≡ record { top = shape_for name f; subs = [] }
  pub has_name : a.top.no_binary_name ≡ false
  pub sound : is_sound f ≡ true
  pub simple : is_simple a ≡ true
  pub free : is_simple_and_free a ≡ true

wrong_next : (w : Word) (words : List Word) (waiting : Option Word) (kd : Kind) → ((x : Option Word) → items words x ≡ None) → next_items waiting kd w (items words) ≡ None
wrong_next w words None plain none = rw (none None) refl
wrong_next w words None (named n None) none = none (Some n)
wrong_next w words None (named n (Some v)) none = rw (none None) refl
wrong_next w words None wrong none = refl
wrong_next w words (Some o) plain none = rw (none None) refl
wrong_next w words (Some o) (named n v) none = refl
wrong_next w words (Some o) wrong none = refl

-- words of which one is wrong have no items
pub wrong_items : (words : List Word) (waiting : Option Word) → list_all (λ w. is_right (kind_of w)) words ≡ false → items words waiting ≡ None
wrong_items [] waiting bad = absurd (cc)
wrong_items (w ∷ words) waiting bad = go (kind_of w) waiting bad (λ worse x. wrong_items words x worse)
  where
    go : (kd : Kind) (waiting : Option Word) → (is_right kd && list_all (λ w. is_right (kind_of w)) words) ≡ false → (list_all (λ w. is_right (kind_of w)) words ≡ false → (x : Option Word) → items words x ≡ None)
        → next_items waiting kd w (items words) ≡ None
    go plain waiting bad later = wrong_next w words waiting plain (later bad)
    go (named n v) waiting bad later = wrong_next w words waiting (named n v) (later bad)
    go wrong None bad later = refl
    go wrong (Some o) bad later = refl

-- the words that may be given to `clap`
pub both_say : (words : List Word) → list_all goes_to_clap words ≡ (list_all may_stand words && list_all (λ w. is_right (kind_of w)) words)
both_say [] = refl
both_say (w ∷ words) = ap (λ b. goes_to_clap w && b) (both_say words) ∙ go (may_stand w) (is_right (kind_of w)) (list_all may_stand words) (list_all (λ w. is_right (kind_of w)) words)
  where
    go : (a b c d : Bool) → ((a && b) && (c && d)) ≡ ((a && c) && (b && d))
    go false b c d = refl
    go true true true d = refl
    go true true false d = refl
    go true false true d = refl
    go true false false d = refl

pub unsaid : (f : Form) (words : List Word) → list_all goes_to_clap words ≡ false → reading f words ≡ None
unsaid f words bad = go (list_all may_stand words) (sym (both_say words) ∙ bad)
  where
    go : (b : Bool) → (b && list_all (λ w. is_right (kind_of w)) words) ≡ false → cond b (option_and_then (if_fits f) (items words None)) None ≡ None
    go false bad = refl
    go true bad = ap (option_and_then (if_fits f)) (wrong_items words None bad)

if_fits_some : (f : Form) (o : Option (List Item)) (rows : Option (List Row)) → is_sound f ≡ true → is_whole f (rows_of_items f [] 0 o) ≡ is_some (option_and_then (if_fits f) o)
if_fits_some f None rows sound = refl
if_fits_some f (Some xs) rows sound = whole_is f (sound_form f sound) xs ∙ go (fits f xs)
  where
    go : (b : Bool) → b ≡ is_some (cond b (Some xs) None)
    go true = refl
    go false = refl

said : (f : Form) (words : List Word) → list_all goes_to_clap words ≡ true → (list_all may_stand words ≡ true) × (list_all (λ w. is_right (kind_of w)) words ≡ true)
said f words ok = go (list_all may_stand words) refl (sym (both_say words) ∙ ok)
  where
    go : (b : Bool) → list_all may_stand words ≡ b → (b && list_all (λ w. is_right (kind_of w)) words) ≡ true → (list_all may_stand words ≡ true) × (list_all (λ w. is_right (kind_of w)) words ≡ true)
    go true is ok = (is, ok)
    go false is ok = absurd (cc)

module _ (f : Form) (a : App) (command : IsCommandOf f a) (texts : List Word) (ok : list_all goes_to_clap (drop 1 texts) ≡ true) where
  reading_is : reading f (drop 1 texts) ≡ option_and_then (if_fits f) (items (drop 1 texts) None)
  reading_is = ap (λ (b : Bool). cond b (option_and_then (if_fits f) (items (drop 1 texts) None)) None) (said f (drop 1 texts) ok).0

  fault_is : fault_of a texts ≡ level_fault (shape_for command.name f) [] nothing_held (drop 1 texts) false []
  fault_is =
      ap₂ (λ (b : App) (ws : List Word). built_fault b nothing_held ws) command.as_built (ap (λ (b : Bool). cond b texts (drop 1 texts)) command.has_name)
      ∙ leaf_fault (record { top = shape_for command.name f; subs = [] }) nothing_held (drop 1 texts) refl

  pub clap_clean : is_clean (fault_of a texts) ≡ is_some (reading f (drop 1 texts))
  clap_clean =
      ap is_clean fault_is ∙ level_is f command.name (names_known f command.sound) (drop 1 texts) (said f (drop 1 texts) ok).1
      ∙ if_fits_some f (items (drop 1 texts) None) None command.sound ∙ sym (ap is_some reading_is)

  rows_are : (rows : List Row) → rows_of_items f [] 0 (items (drop 1 texts) None) ≡ Some rows → matches_of a texts ≡ rows
  rows_are rows is =
      ap₂ (λ (b : App) (ws : List Word). rows_after b.top.rules (map label_of b.subs) ws) command.as_built (ap (λ (b : Bool). cond b texts (drop 1 texts)) command.has_name)
      ∙ rows_after_is f command.name (names_known f command.sound) (drop 1 texts) (said f (drop 1 texts) ok).1 rows is

  read_fits : (xs : List Item) → reading f (drop 1 texts) ≡ Some xs → (items (drop 1 texts) None ≡ Some xs) × (fits f xs ≡ true)
  read_fits xs is = go (items (drop 1 texts) None) (sym reading_is ∙ is)
    where
      pick : (ys : List Item) (b : Bool) → fits f ys ≡ b → cond b (Some ys) None ≡ Some xs → (◌≡◌ {A = Option (List Item)} (Some ys) (Some xs)) × (fits f xs ≡ true)
      pick ys true fit e =
          let same : ys ≡ xs = cc in
          (e, ap (fits f) (sym same) ∙ fit)
      pick ys false fit e = absurd (cc)

      go : (o : Option (List Item)) → option_and_then (if_fits f) o ≡ Some xs → (o ≡ Some xs) × (fits f xs ≡ true)
      go None e = absurd (cc)
      go (Some ys) e = pick ys (fits f ys) refl e

  taken_some : (xs : List Item) → fits f xs ≡ true → (rows : List Row) × (taken f xs [] 0 ≡ Some rows)
  taken_some xs fit = go (taken f xs [] 0) refl (whole_is f (sound_form f command.sound) xs ∙ fit)
    where
      go : (o : Option (List Row)) → taken f xs [] 0 ≡ o → is_whole f o ≡ true → (rows : List Row) × (taken f xs [] 0 ≡ Some rows)
      go None is h = absurd (cc)
      go (Some rows) is h = (rows, is)

  pub clap_option : (xs : List Item) → reading f (drop 1 texts) ≡ Some xs → (n : Word) → is_among n f.options ≡ true → first_of n (matches_of a texts) ≡ value_of n xs
  clap_option xs is n among =
      let read = read_fits xs is in
      let rows = taken_some xs read.1 in
      ap (first_of n) (rows_are rows.0 (ap (rows_of_items f [] 0) read.0 ∙ rows.1)) ∙ first_option f (sound_form f command.sound) xs rows.0 n among rows.1

  pub clap_place : (xs : List Item) → reading f (drop 1 texts) ≡ Some xs → (j : ℕ) (id : Word) → slice_get f.positionals j ≡ Some id → first_of id (matches_of a texts) ≡ slice_get (positionals_of xs) j
  clap_place xs is j id here =
      let read = read_fits xs is in
      let rows = taken_some xs read.1 in
      ap (first_of id) (rows_are rows.0 (ap (rows_of_items f [] 0) read.0 ∙ rows.1)) ∙ first_place f (sound_form f command.sound) xs rows.0 j id read.1 here rows.1

-- ---- the same by the matches that `clap` answers with

module _ (f : Form) (a : App) (command : IsCommandOf f a) (texts : List Word) (ok : list_all goes_to_clap (drop 1 texts) ≡ true) where
  pub clap_none : ReadsBy a texts None → reading f (drop 1 texts) ≡ None
  clap_none refused = go (fault_of a texts) refused (reading f (drop 1 texts)) (clap_clean f a command texts ok)
    where
      go : (ks : Kinds) → (ks ≡ [] → ⊥) → (o : Option (List Item)) → is_clean ks ≡ is_some o → o ≡ None
      go [] refused o e = absurd (refused refl)
      go (k ∷ ks) refused None e = refl
      go (k ∷ ks) refused (Some xs) e = absurd (cc)

  pub clap_some : (m : ArgMatches) → ReadsBy a texts (Some m) → Answers f (drop 1 texts) m
  clap_some m taken = go (reading f (drop 1 texts)) refl (sym (clap_clean f a command texts ok) ∙ ap is_clean taken.0)
    where
      go : (o : Option (List Item)) → reading f (drop 1 texts) ≡ o → is_some o ≡ true → Answers f (drop 1 texts) m
      go None is e = absurd (cc)
      go (Some xs) is e = record {
        said = xs;
        read = is;
        option_value = λ n among. first_value-rows (found_of m) n ∙ ap (first_of n) taken.1 ∙ clap_option f a command texts ok xs is n among;
        place_value = λ j id here. first_value-rows (found_of m) id ∙ ap (first_of id) taken.1 ∙ clap_place f a command texts ok xs is j id here;
      }
