-- What `clap` makes of the words, after the walk.
use Rattle.std.proofs.Common.{◌≡◌, ◌==◌, ◌&&◌, ◌||◌, ◌+◌, ◌∙◌, ℕ, Bool, true, false, not, refl, sym, ap, ap₂, cond, List, [], ◌∷◌, ◌++◌, map, length, Option, Some, None}
use Rattle.std.specs.Prelude.{fold}
use Rattle.std.specs.List.{list_any, list_all}
use Rattle.std.specs.Option.{option_map_or}
use Rattle.clap.specs.Kinds.{Kinds, or_else}
use Rattle.clap.specs.Walk.{Rule, Row, Walk, Text, has_row, default_rows, reading_by, settled, walk, walk_from, walked, with_default, rows_after, nothing_held}
use Rattle.clap.specs.Simple.{Shape}
use Rattle.clap.specs.Takes.{is_given}
use Rattle.clap.specs.Faults.{walk_fault, turn_fault, settle_fault, default_fault, given_default_fault, defaults_fault, check_fault, level_fault}
use Rattle.clap.specs.declared.error.kind.ErrorKind.TheVariants as kind
use Rattle.command_words.specs.Reading.{Word, Form, kind_of, is_right, items}
use Rattle.command_words.proofs.ArgRules.{option_rule, help_built, placed, rules_for, shape_for}
use Rattle.command_words.proofs.ClapTurns.{is_clean, ending}
use Rattle.command_words.proofs.ClapEnding.{Names, walks, rows_of_items}

-- `ending` is what the walk and the settling at its end come to
ending_is : (s : Shape) (words : List Text) (w : Walk) → ending s words w
    ≡ cond (is_clean (or_else (walk_fault s [] w words) (settle_fault s.rules false (fold (walked s.rules []) w words).held)))
    (Some (settled s.rules (fold (walked s.rules []) w words).held).rows) None
unfolding walk_fault
ending_is s [] w = refl
ending_is s (word ∷ rest) w =
    ap (λ (x : Option (List Row)). cond (is_clean (turn_fault s [] w word)) x None) (ending_is s rest (walked s.rules [] w word))
    ∙ go (turn_fault s [] w word) (walk_fault s [] (walked s.rules [] w word) rest) (settle_fault s.rules false (fold (walked s.rules []) (walked s.rules [] w word) rest).held)
    (Some (settled s.rules (fold (walked s.rules []) (walked s.rules [] w word) rest).held).rows)
  where
    go : (a b c : Kinds) (x : Option (List Row)) → cond (is_clean a) (cond (is_clean (or_else b c)) x None) None ≡ cond (is_clean (or_else (or_else a b) c)) x None
    go [] b c x = refl
    go (k ∷ ks) b c x = refl

-- ---- no argument has a default

abbrev HasNone : Rule → Type 0
HasNone a = a.defaults ≡ []

abbrev AllHaveNone : List Rule → Type 0
AllHaveNone [] = Unit {0}
AllHaveNone (a ∷ c) = HasNone a × AllHaveNone c

none_placed : (i : ℕ) (ps : List Word) (rest : List Rule) → AllHaveNone rest → AllHaveNone (placed i ps ++ rest)
none_placed i [] rest h = h
none_placed i (p ∷ ps) rest h = (refl, none_placed (i + 1) ps rest h)

none_options : (os : List Word) → AllHaveNone (map option_rule os ++ help_built ∷ [])
none_options [] = (refl, tt)
none_options (o ∷ os) = (refl, none_options os)

none_have : (f : Form) → AllHaveNone (rules_for f)
none_have f = none_placed 1 f.positionals (map option_rule f.options ++ help_built ∷ []) (none_options f.options)

with_default_is : (rows : List Row) (a : Rule) → HasNone a → with_default rows a ≡ rows
with_default_is rows a none = ap (λ ds. cond (has_row a.id rows) rows (default_rows a.id (reading_by a) ds rows)) none ∙ go (has_row a.id rows)
  where
    go : (b : Bool) → cond b rows rows ≡ rows
    go true = refl
    go false = refl

default_fault_is : (rows : List Row) (a : Rule) → HasNone a → default_fault rows a ≡ []
default_fault_is rows a none = ap (λ (ds : List Text). cond (has_row a.id rows || (length ds == 0)) [] (given_default_fault a ds)) none ∙ go (has_row a.id rows)
  where
    go : (b : Bool) → cond (b || true) [] (given_default_fault a []) ≡ []
    go true = refl
    go false = refl

defaults_are : (c : List Rule) (rows : List Row) → AllHaveNone c → fold with_default rows c ≡ rows
defaults_are [] rows h = refl
defaults_are (a ∷ c) rows h = ap (λ (r : List Row). fold with_default r c) (with_default_is rows a h.0) ∙ defaults_are c rows h.1

defaults_pass : (c : List Rule) (rows : List Row) → AllHaveNone c → defaults_fault rows c ≡ []
unfolding defaults_fault
defaults_pass [] rows h = refl
defaults_pass (a ∷ c) rows h = ap₂ (λ (ks : Kinds) (r : List Row). or_else ks (defaults_fault r c)) (default_fault_is rows a h.0) (with_default_is rows a h.0) ∙ defaults_pass c rows h.1

-- ---- a positional word that is missing

abbrev pub misses : Form → List Row → Bool
misses f rows = list_any (λ id. not (is_given id rows)) f.positionals

missing_options : (os : List Word) (rows : List Row) → list_any (λ a. a.required && not (is_given a.id rows)) (map option_rule os ++ help_built ∷ []) ≡ false
missing_options [] rows = refl
missing_options (o ∷ os) rows = missing_options os rows

missing_placed : (i : ℕ) (ps : List Word) (rest : List Rule) (rows : List Row) → list_any (λ a. a.required && not (is_given a.id rows)) rest ≡ false
    → list_any (λ a. a.required && not (is_given a.id rows)) (placed i ps ++ rest) ≡ list_any (λ id. not (is_given id rows)) ps
missing_placed i [] rest rows h = h
missing_placed i (p ∷ ps) rest rows h = ap (λ (b : Bool). not (is_given p rows) || b) (missing_placed (i + 1) ps rest rows h)

check_is : (f : Form) (name : Word) (rows : List Row) → is_clean (check_fault (shape_for name f) rows false) ≡ not (misses f rows)
check_is f name rows =
    ap (λ (b : Bool). is_clean (cond b (kind.MissingRequiredArgument ∷ []) [])) (missing_placed 1 f.positionals (map option_rule f.options ++ help_built ∷ []) rows (missing_options f.options rows))
    ∙ go (misses f rows)
  where
    go : (b : Bool) → is_clean (cond b (kind.MissingRequiredArgument ∷ []) []) ≡ not b
    go true = refl
    go false = refl

-- ---- the level

abbrev pub is_whole : Form → Option (List Row) → Bool
is_whole f o = option_map_or (λ rows. not (misses f rows)) o false

module _ (f : Form) (name : Word) (names : Names f) (words : List Word) (right : list_all (λ w. is_right (kind_of w)) words ≡ true) where
  -- the rows at the end of the walk
  abbrev last_rows : List Row
  last_rows = (settled (rules_for f) (walk (rules_for f) [] nothing_held words).held).rows

  rows_are : cond (is_clean (or_else (walk_fault (shape_for name f) [] (walk_from nothing_held) words) (settle_fault (rules_for f) false (walk (rules_for f) [] nothing_held words).held)))
      (Some (settled (rules_for f) (walk (rules_for f) [] nothing_held words).held).rows) None ≡ rows_of_items f [] 0 (items words None)
  rows_are = sym (ending_is (shape_for name f) words (walk_from nothing_held)) ∙ (walks f name names words right).0 [] None 0

  pub level_is : is_clean (level_fault (shape_for name f) [] nothing_held words false []) ≡ is_whole f (rows_of_items f [] 0 (items words None))
  level_is =
      ap₂ (λ (ks : Kinds) (rs : List Row). is_clean (or_else (walk_fault (shape_for name f) [] (walk_from nothing_held) words)
      (or_else (settle_fault (rules_for f) false (walk (rules_for f) [] nothing_held words).held) (or_else ks (check_fault (shape_for name f) rs false)))))
      (defaults_pass (rules_for f) last_rows (none_have f)) (defaults_are (rules_for f) last_rows (none_have f))
      ∙ go (walk_fault (shape_for name f) [] (walk_from nothing_held) words) (settle_fault (rules_for f) false (walk (rules_for f) [] nothing_held words).held)
      ∙ ap (is_whole f) rows_are
    where
      go : (a b : Kinds) → is_clean (or_else a (or_else b (check_fault (shape_for name f) last_rows false))) ≡ is_whole f (cond (is_clean (or_else a b)) (Some last_rows) None)
      go [] [] = check_is f name last_rows
      go [] (k ∷ ks) = refl
      go (k ∷ ks) b = refl

  pub rows_after_is : (rows : List Row) → rows_of_items f [] 0 (items words None) ≡ Some rows → rows_after (rules_for f) [] words ≡ rows
  rows_after_is rows is =
      defaults_are (rules_for f) last_rows (none_have f)
      ∙ go (is_clean (or_else (walk_fault (shape_for name f) [] (walk_from nothing_held) words) (settle_fault (rules_for f) false (walk (rules_for f) [] nothing_held words).held))) (rows_are ∙ is)
    where
      go : (b : Bool) → cond b (Some last_rows) None ≡ Some rows → last_rows ≡ rows
      go true e = cc
      go false e = absurd (cc)
