-- One turn of `clap`'s walk, at a command of a form.
use Rattle.std.proofs.Common.{◌≡◌, ◌&&◌, ◌||◌, ◌∙◌, ℕ, Bool, true, false, refl, ap, ap₂, cond, codes, List, [], ◌∷◌, ◌++◌, Option, Some, None}
use Rattle.std.proofs.lemmas.List.{append-nil}
use Rattle.std.proofs.Math.Bool.{and-false}
use Rattle.std.specs.Option.{option_map_or}
use Rattle.std.specs.Str.{bytes_eq}
use Rattle.clap.specs.Lexer.{long_of}
use Rattle.clap.specs.Kinds.{Kinds, or_else}
use Rattle.clap.specs.Values.{reading_of}
use Rattle.clap.specs.Walk.{Rule, Row, Held, Walk, Waiting, Step, Text, idle, option, positional, trailing, more_values, has_row, at_row, used, settled_rows, walked, word_met, after_step, long_word, long_or_other, short_or_plain, subcommand_met, subcommand_or_other, plain_word, arg_by_id, arg_by_long}
use Rattle.clap.specs.Simple.{Shape}
use Rattle.clap.specs.Faults.{use_fault, settle_fault, long_fault, bundle_fault, flag_word_fault, other_fault, word_fault, step_fault, turn_fault}
use Rattle.clap.specs.declared.builder.value_parser.ValueParser.TheVariants as vp
use Rattle.clap.specs.declared.parser.matches.ValueSource.TheVariants.{CommandLine}
use Rattle.clap.specs.declared.error.kind.ErrorKind.TheVariants as kind
use Rattle.command_words.specs.Reading.{Word, Form, is_among}
use Rattle.command_words.proofs.WordKinds.{IsNamed, IsPlainWord}
use Rattle.command_words.proofs.ArgRules.{value_rule, option_rule, help_built, rules_for, shape_for, IsValueOf, long_is}

-- the row of one use
abbrev pub row : Word → Word → Row
row id v = record { id = id; values = v ∷ []; count = None; source = Some CommandLine; reading = reading_of vp.String }

abbrev pub held_at : List Row → Option (Text × List Text) → Held
held_at rows p = record { rows = rows; pending = p; skip = 0 }

abbrev pub walk_at : List Row → Option (Text × List Text) → Waiting → ℕ → Walk
walk_at rows p waiting position = record { held = held_at rows p; waiting = waiting; position = position; is_trailing = false; stopped = None }

-- there is no fault
abbrev pub is_clean : Kinds → Bool
is_clean [] = true
is_clean (k ∷ ks) = false

pub or_clean : (a b : Kinds) → is_clean (or_else a b) ≡ (is_clean a && is_clean b)
or_clean [] b = refl
or_clean (k ∷ ks) b = refl

pub left_fails : (a b : Kinds) → is_clean a ≡ false → is_clean (or_else a b) ≡ false
left_fails [] b bad = absurd (cc)
left_fails (k ∷ ks) b bad = refl

-- ---- one use

at_none : (id : Word) (change : Row → List Row) (missing rows : List Row) → has_row id rows ≡ false → at_row id change missing rows ≡ rows ++ missing
at_none id change missing [] none = refl
at_none id change missing (r ∷ rs) none = go (bytes_eq r.id id) none (at_none id change missing rs)
  where
    go : (b : Bool) → (b || has_row id rs) ≡ false → (has_row id rs ≡ false → at_row id change missing rs ≡ rs ++ missing)
        → cond b (change r ++ rs) (r ∷ at_row id change missing rs) ≡ r ∷ (rs ++ missing)
    go true none e = absurd (cc)
    go false none e = ap (λ (xs : List Row). r ∷ xs) (e none)

used_new : (id : Word) (long : Option Word) (index : Option ℕ) (required : Bool) (v : Word) (rows : List Row) → has_row id rows ≡ false
    → used (value_rule id long index required) (v ∷ []) rows ≡ rows ++ row id v ∷ []
used_new id long index required v rows none =
    let same : at_row id (λ _. []) [] rows ≡ rows = at_none id (λ _. []) [] rows none ∙ append-nil rows in
    rw same (at_none id (more_values CommandLine (v ∷ [])) (row id v ∷ []) rows none)

-- a use fails where the argument was used before, and else adds a row
pub use_then : (id : Word) (long : Option Word) (index : Option ℕ) (required : Bool) (v : Word) (rows : List Row) (G : List Row → Option (List Row))
    → cond (is_clean (use_fault false (value_rule id long index required) (v ∷ []) rows)) (G (used (value_rule id long index required) (v ∷ []) rows)) None
    ≡ cond (has_row id rows) None (G (rows ++ row id v ∷ []))
use_then id long index required v rows G = go (has_row id rows) refl (used_new id long index required v rows)
  where
    go : (b : Bool) → has_row id rows ≡ b → (has_row id rows ≡ false → used (value_rule id long index required) (v ∷ []) rows ≡ rows ++ row id v ∷ [])
        → cond (is_clean (or_else (cond (b && true) (kind.ArgumentConflict ∷ []) []) [])) (G (used (value_rule id long index required) (v ∷ []) rows)) None ≡ cond b None (G (rows ++ row id v ∷ []))
    go true is e = refl
    go false is e = ap G (e is)

-- the same where the use is pending
pub settle_then : (f : Form) (id : Word) (v : Word) (rows : List Row) (G : List Row → Option (List Row)) → IsValueOf id (arg_by_id (rules_for f) id)
    → cond (is_clean (settle_fault (rules_for f) false (held_at rows (Some (id, v ∷ []))))) (G (settled_rows (rules_for f) (Some (id, v ∷ [])) rows)) None
    ≡ cond (has_row id rows) None (G (rows ++ row id v ∷ []))
settle_then f id v rows G known = rw known.is (use_then id known.long known.index known.required v rows G)

-- an option that waits for its value can't be settled
pub open_fails : (f : Form) (id : Word) (rows : List Row) → IsValueOf id (arg_by_id (rules_for f) id)
    → is_clean (settle_fault (rules_for f) false (held_at rows (Some (id, [])))) ≡ false
open_fails f id rows known = rw known.is refl

-- ---- a word `--name` or `--name=value`

no_subcommand : (waiting : Waiting) (w : Word) → subcommand_met [] waiting w ≡ None
no_subcommand idle w = refl
no_subcommand (option id) w = refl
no_subcommand positional w = refl

pub named_fault : (f : Form) (name : Word) (w n : Word) (v : Option Word) (h : Held) (waiting : Waiting) → IsNamed w n v
    → word_fault (shape_for name f) [] false waiting w h ≡ long_fault (rules_for f) false (arg_by_long (rules_for f) n) v h
named_fault f name w n v h waiting is =
    ap (λ o. other_fault (shape_for name f) o w h) (no_subcommand waiting w)
    ∙ ap (λ (b : Bool). cond b [] (flag_word_fault (rules_for f) false (long_of w) w h)) is.no_end
    ∙ ap (λ l. flag_word_fault (rules_for f) false l w h) is.long

pub named_met : (f : Form) (w n : Word) (v : Option Word) (h : Held) (position : ℕ) → IsNamed w n v
    → word_met (rules_for f) [] false idle position w h ≡ long_word (rules_for f) idle w n v h
named_met f w n v h position is =
    ap (λ (b : Bool). cond b (h, trailing position) (long_or_other (rules_for f) idle w (long_of w) h)) is.no_end
    ∙ ap (λ l. long_or_other (rules_for f) idle w l h) is.long

-- what a long word fails by
module _ (f : Form) (n : Word) (v : Option Word) (rows : List Row) (p : Option (Text × List Text)) where
  pub unknown_fails : is_among n f.options ≡ false → is_clean (long_fault (rules_for f) false (arg_by_long (rules_for f) n) v (held_at rows p)) ≡ false
  unknown_fails not_among =
      rw (long_is f n, not_among) (go (bytes_eq (codes "help") n || false) v)
    where
      go : (b : Bool) (v : Option Word) → is_clean (long_fault (rules_for f) false (cond b (Some help_built) None) v (held_at rows p)) ≡ false
      go true (Some x) = refl
      go true None = or_clean (settle_fault (rules_for f) false (held_at rows p)) _ ∙ and-false _
      go false v = refl

  pub open_named : is_clean (settle_fault (rules_for f) false (held_at rows p)) ≡ false → is_clean (long_fault (rules_for f) false (arg_by_long (rules_for f) n) v (held_at rows p)) ≡ false
  open_named bad = elim (is_among n f.options) as (λ b. is_among n f.options ≡ b → is_clean (long_fault (rules_for f) false (arg_by_long (rules_for f) n) v (held_at rows p)) ≡ false) [
    | false ↦ λ e. unknown_fails e
    | true ↦ λ e. rw (long_is f n, e) (go v)
  ] refl
    where
      go : (v : Option Word) → is_clean (long_fault (rules_for f) false (Some (option_rule n)) v (held_at rows p)) ≡ false
      go (Some x) = left_fails (settle_fault (rules_for f) false (held_at rows p)) (use_fault false (option_rule n) (x ∷ []) (settled_rows (rules_for f) p rows)) bad
      go None = bad

-- ---- a plain word

pub plain_fault : (f : Form) (name : Word) (w : Word) (h : Held) (waiting : Waiting) → IsPlainWord w → word_fault (shape_for name f) [] false waiting w h ≡ []
plain_fault f name w h waiting is =
    ap (λ o. other_fault (shape_for name f) o w h) (no_subcommand waiting w)
    ∙ ap (λ (b : Bool). cond b [] (flag_word_fault (rules_for f) false (long_of w) w h)) is.no_end
    ∙ ap (λ l. flag_word_fault (rules_for f) false l w h) is.long
    ∙ ap (λ o. option_map_or (λ flags. bundle_fault (rules_for f) false flags h) o []) is.short

pub plain_met : (f : Form) (w : Word) (h : Held) (waiting : Waiting) (position : ℕ) → IsPlainWord w
    → word_met (rules_for f) [] false waiting position w h ≡ plain_word (rules_for f) waiting w h
plain_met f w h waiting position is =
    ap (λ o. subcommand_or_other (rules_for f) o waiting position w h) (no_subcommand waiting w)
    ∙ ap (λ (b : Bool). cond b (h, trailing position) (long_or_other (rules_for f) waiting w (long_of w) h)) is.no_end
    ∙ ap (λ l. long_or_other (rules_for f) waiting w l h) is.long
    ∙ ap (λ o. short_or_plain (rules_for f) waiting w o h) is.short

-- ---- the rows that a walk ends with, where nothing failed

abbrev pub ended : List Rule → Held → Option (List Row)
ended c h = cond (is_clean (settle_fault c false h)) (Some (settled_rows c h.pending h.rows)) None

abbrev pub ending : Shape → List Text → Walk → Option (List Row)
ending s [] w = ended s.rules w.held
ending s (word ∷ rest) w = cond (is_clean (turn_fault s [] w word)) (ending s rest (walked s.rules [] w word)) None

-- a turn, by what the word is
pub turn_is : (f : Form) (name : Word) (rows : List Row) (p : Option (Text × List Text)) (waiting : Waiting) (position : ℕ) (w : Word) (rest : List Text) (ks : Kinds) (m : Held × Step)
    → word_fault (shape_for name f) [] false waiting w (held_at rows p) ≡ ks → word_met (rules_for f) [] false waiting position w (held_at rows p) ≡ m
    → ending (shape_for name f) (w ∷ rest) (walk_at rows p waiting position)
    ≡ cond (is_clean (or_else ks (step_fault (shape_for name f) position m.0 m.1))) (ending (shape_for name f) rest (after_step (rules_for f) w (walk_at rows p waiting position) m.0 m.1)) None
unfolding walked
turn_is f name rows p waiting position w rest ks m fault met =
    ap₂ (λ (x : Kinds) (y : Held × Step). cond (is_clean (or_else x (step_fault (shape_for name f) position y.0 y.1)))
    (ending (shape_for name f) rest (after_step (rules_for f) w (walk_at rows p waiting position) y.0 y.1)) None) fault met

-- a turn that fails at once
pub turn_fails : (f : Form) (name : Word) (rows : List Row) (p : Option (Text × List Text)) (waiting : Waiting) (position : ℕ) (w : Word) (rest : List Text)
    → is_clean (word_fault (shape_for name f) [] false waiting w (held_at rows p)) ≡ false → ending (shape_for name f) (w ∷ rest) (walk_at rows p waiting position) ≡ None
turn_fails f name rows p waiting position w rest bad =
    let t : is_clean (turn_fault (shape_for name f) [] (walk_at rows p waiting position) w) ≡ false = left_fails (word_fault (shape_for name f) [] false waiting w (held_at rows p)) (step_fault (shape_for name f) position (word_met (rules_for f) [] false waiting position w (held_at rows p)).0 (word_met (rules_for f) [] false waiting position w (held_at rows p)).1) bad in
    ap (λ (b : Bool). cond b (ending (shape_for name f) rest (walked (rules_for f) [] (walk_at rows p waiting position) w)) None) t
