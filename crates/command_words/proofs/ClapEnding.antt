-- The rows that `clap`'s walk ends with are those of the items of the words.
use Rattle.std.proofs.Common.{◌≡◌, ◌&&◌, ◌+◌, ◌<◌, ◌∙◌, ℕ, Bool, true, false, refl, sym, ap, ap₂, cond, List, [], ◌∷◌, ◌++◌, Option, Some, None, option_map, option_and_then, arith, min}
use Rattle.std.proofs.Math.Bool.{and-false}
use Rattle.std.specs.Prelude.{slice_get}
use Rattle.std.specs.List.{list_all}
use Rattle.std.specs.Option.{option_map_or}
use Rattle.std.specs.Str.{bytes_eq}
use Rattle.std.proofs.lemmas.Slice.Eq.{bytes_eq-Decides}
use Rattle.clap.specs.Lexer.{usize_max}
use Rattle.clap.specs.Kinds.{Kinds, or_else}
use Rattle.clap.specs.Walk.{Row, Held, Text, idle, option as waits_for, value, next, has_row, used, settled, settled_rows, after_flag, long_met, option_word, pushed, to_positional, is_pending, arg_by_id, arg_by_long}
use Rattle.clap.specs.Faults.{use_fault, settle_fault, long_fault, stray_fault, positional_fault}
use Rattle.command_words.specs.Reading.{Word, Form, Item, option, positional, Kind, plain, named, wrong, kind_of, is_right, items, next_items, is_among}
use Rattle.command_words.proofs.WordKinds.{IsNamed, plain_word as as_plain, named_word}
use Rattle.command_words.proofs.ArgRules.{value_rule, option_rule, rules_for, shape_for, IsValueOf, long_is, index_is}
use Rattle.command_words.proofs.ClapTurns.{row, held_at, walk_at, is_clean, use_then, settle_then, open_fails, named_fault, named_met, unknown_fails, open_named, plain_fault, plain_met, ending, turn_is, turn_fails}

-- ---- the rows of items

abbrev pub at_place : Option Word → List Row → Word → (List Row → Option (List Row)) → Option (List Row)
at_place None rows v rest = None
at_place (Some id) rows v rest = cond (has_row id rows) None (rest (rows ++ row id v ∷ []))

abbrev pub taken : Form → List Item → List Row → ℕ → Option (List Row)
taken f [] rows k = Some rows
taken f (option n v ∷ xs) rows k = cond (is_among n f.options) (cond (has_row n rows) None (taken f xs (rows ++ row n v ∷ []) k)) None
taken f (positional v ∷ xs) rows k = at_place (slice_get f.positionals k) rows v (λ rs. taken f xs rs (k + 1))

abbrev pub rows_of_items : Form → List Row → ℕ → Option (List Item) → Option (List Row)
rows_of_items f rows k it = option_and_then (λ xs. taken f xs rows k) it

option_first : (f : Form) (rows : List Row) (k : ℕ) (n v : Word) (it : Option (List Item))
    → rows_of_items f rows k (option_map (λ xs. option n v ∷ xs) it) ≡ cond (is_among n f.options) (cond (has_row n rows) None (rows_of_items f (rows ++ row n v ∷ []) k it)) None
option_first f rows k n v None = go (is_among n f.options) (has_row n rows)
  where
    go : (a b : Bool) → None ≡ cond {A = Option (List Row)} a (cond b None None) None
    go true true = refl
    go true false = refl
    go false b = refl
option_first f rows k n v (Some xs) = refl

positional_first : (f : Form) (rows : List Row) (k : ℕ) (v : Word) (it : Option (List Item))
    → rows_of_items f rows k (option_map (λ xs. positional v ∷ xs) it) ≡ at_place (slice_get f.positionals k) rows v (λ rs. rows_of_items f rs (k + 1) it)
positional_first f rows k v None = go (slice_get f.positionals k)
  where
    pick : (b : Bool) → None ≡ cond {A = Option (List Row)} b None None
    pick true = refl
    pick false = refl

    go : (o : Option Word) → None ≡ at_place o rows v (λ rs. None)
    go None = refl
    go (Some id) = pick (has_row id rows)
positional_first f rows k v (Some xs) = refl

none_either : (b : Bool) → cond {A = Option (List Row)} b None None ≡ None
none_either true = refl
none_either false = refl

one_step : (a : Kinds) (x : Option (List Row)) → cond (is_clean (or_else a [])) x None ≡ cond (is_clean a) x None
one_step [] x = refl
one_step (k ∷ ks) x = refl

two_steps : (a b : Kinds) (x : Option (List Row)) → cond (is_clean (or_else (or_else a b) [])) x None ≡ cond (is_clean a) (cond (is_clean b) x None) None
two_steps [] [] x = refl
two_steps [] (k ∷ ks) x = refl
two_steps (k ∷ ks) b x = refl

unknown_next : (f : Form) (n w : Word) (kd : Kind) (rows : List Row) (k : ℕ) (it : Option Word → Option (List Item)) → is_among n f.options ≡ false
    → rows_of_items f rows k (next_items (Some n) kd w it) ≡ None
unknown_next f n w plain rows k it among = option_first f rows k n w (it None) ∙ ap (λ (b : Bool). cond b (cond (has_row n rows) None (rows_of_items f (rows ++ row n w ∷ []) k (it None))) None) among
unknown_next f n w (named o v) rows k it among = refl
unknown_next f n w wrong rows k it among = refl

-- an option that the command lacks is in no reading
unknown_items : (f : Form) (n : Word) (v : Option Word) (words : List Word) (w : Word) (rows : List Row) (k : ℕ) → is_among n f.options ≡ false
    → rows_of_items f rows k (next_items None (named n v) w (items words)) ≡ None
unknown_items f n (Some x) words w rows k among = option_first f rows k n x (items words None) ∙ ap (λ (b : Bool). cond b (cond (has_row n rows) None (rows_of_items f (rows ++ row n x ∷ []) k (items words None))) None) among
unknown_items f n None [] w rows k among = refl
unknown_items f n None (word ∷ words) w rows k among = unknown_next f n word (kind_of word) rows k (items words) among

-- ---- the walk

abbrev Idle : Form → Word → List Word → Type 0
Idle f name words = (rows : List Row) (p : Option (Text × List Text)) (k : ℕ)
    → ending (shape_for name f) words (walk_at rows p idle (k + 1))
    ≡ cond (is_clean (settle_fault (rules_for f) false (held_at rows p))) (rows_of_items f (settled_rows (rules_for f) p rows) k (items words None)) None

abbrev Waits : Form → Word → List Word → Type 0
Waits f name words = (rows : List Row) (n : Word) (k : ℕ) → is_among n f.options ≡ true
    → ending (shape_for name f) words (walk_at rows (Some (n, [])) (waits_for n) (k + 1)) ≡ rows_of_items f rows k (items words (Some n))

-- what the proof needs of the names
pub record Names (f : Form) : Type 0 where
  pub option_known : (n : Word) → is_among n f.options ≡ true → IsValueOf n (arg_by_id (rules_for f) n)
  pub place_known : (k : ℕ) (id : Word) → slice_get f.positionals k ≡ Some id → IsValueOf id (arg_by_id (rules_for f) id)
  pub few : (k : ℕ) (id : Word) → slice_get f.positionals k ≡ Some id → k < 1000

same_bytes : (id : Word) → bytes_eq id id ≡ true
same_bytes id = (bytes_eq-Decides id id).1 refl

module _ (f : Form) (name : Word) (names : Names f) (w : Word) (rest : List Word) (idle_rest : Idle f name rest) (waits_rest : Waits f name rest) where
  idle_plain : kind_of w ≡ plain → (rows : List Row) (p : Option (Text × List Text)) (k : ℕ)
      → ending (shape_for name f) (w ∷ rest) (walk_at rows p idle (k + 1))
      ≡ cond (is_clean (settle_fault (rules_for f) false (held_at rows p))) (rows_of_items f (settled_rows (rules_for f) p rows) k (items (w ∷ rest) None)) None
  idle_plain is rows p k =
      let e = as_plain w is in
      turn_is f name rows p idle (k + 1) w rest [] (held_at rows p, value) (plain_fault f name w (held_at rows p) idle e) (plain_met f w (held_at rows p) idle (k + 1) e)
      ∙ ap (λ o. cond (is_clean (option_map_or (λ a. positional_fault (rules_for f) false a (held_at rows p)) o (stray_fault (shape_for name f))))
      (ending (shape_for name f) rest (to_positional (rules_for f) o w (walk_at rows p idle (k + 1)) (held_at rows p))) None) (index_is f k)
      ∙ go (slice_get f.positionals k) (names.place_known k) (names.few k)
      ∙ sym (ap (λ (x : Option (List Row)). cond (is_clean (settle_fault (rules_for f) false (held_at rows p))) x None)
      (ap (λ (kd : Kind). rows_of_items f (settled_rows (rules_for f) p rows) k (next_items None kd w (items rest))) is
      ∙ positional_first f (settled_rows (rules_for f) p rows) k w (items rest None)))
    where
      go : (o : Option Word) → ((id : Word) → o ≡ Some id → IsValueOf id (arg_by_id (rules_for f) id)) → ((id : Word) → o ≡ Some id → k < 1000)
          → cond (is_clean (option_map_or (λ a. positional_fault (rules_for f) false a (held_at rows p)) (option_map (λ id. value_rule id None (Some (k + 1)) true) o) (stray_fault (shape_for name f))))
          (ending (shape_for name f) rest (to_positional (rules_for f) (option_map (λ id. value_rule id None (Some (k + 1)) true) o) w (walk_at rows p idle (k + 1)) (held_at rows p))) None
          ≡ cond (is_clean (settle_fault (rules_for f) false (held_at rows p))) (at_place o (settled_rows (rules_for f) p rows) w (λ rs. rows_of_items f rs (k + 1) (items rest None))) None
      go None known few = sym (none_either (is_clean (settle_fault (rules_for f) false (held_at rows p))))
      go (Some id) known few =
          let below : k < 1000 = few id refl in
          let place : min (k + 1 + 1) usize_max ≡ k + 1 + 1 = omega arith in
          ap₂ (λ (b : Bool) (i : ℕ). cond (is_clean (cond b [] (settle_fault (rules_for f) false (held_at rows p))))
          (ending (shape_for name f) rest (record { held = pushed id w (cond b (held_at rows p) (settled (rules_for f) (held_at rows p))); waiting = idle; position = i; is_trailing = false; stopped = None })) None) (and-false (is_pending (value_rule id None (Some (k + 1)) true) p)) place
          ∙ ap (λ (x : Option (List Row)). cond (is_clean (settle_fault (rules_for f) false (held_at rows p))) x None)
          (idle_rest (settled_rows (rules_for f) p rows) (Some (id, w ∷ [])) (k + 1)
          ∙ settle_then f id w (settled_rows (rules_for f) p rows) (λ rs. rows_of_items f rs (k + 1) (items rest None)) (known id refl))

  idle_named : (n : Word) (v : Option Word) → kind_of w ≡ named n v → (rows : List Row) (p : Option (Text × List Text)) (k : ℕ)
      → ending (shape_for name f) (w ∷ rest) (walk_at rows p idle (k + 1))
      ≡ cond (is_clean (settle_fault (rules_for f) false (held_at rows p))) (rows_of_items f (settled_rows (rules_for f) p rows) k (items (w ∷ rest) None)) None
  idle_named n v is rows p k =
      pick (is_among n f.options) refl v (named_word w n v is)
      ∙ sym (ap (λ (x : Option (List Row)). cond (is_clean (settle_fault (rules_for f) false (held_at rows p))) x None)
      (ap (λ (kd : Kind). rows_of_items f (settled_rows (rules_for f) p rows) k (next_items None kd w (items rest))) is))
    where
      pick : (among : Bool) → is_among n f.options ≡ among → (v : Option Word) → IsNamed w n v → ending (shape_for name f) (w ∷ rest) (walk_at rows p idle (k + 1))
          ≡ cond (is_clean (settle_fault (rules_for f) false (held_at rows p))) (rows_of_items f (settled_rows (rules_for f) p rows) k (next_items None (named n v) w (items rest))) None
      pick false among v e =
          turn_fails f name rows p idle (k + 1) w rest (ap is_clean (named_fault f name w n v (held_at rows p) idle e) ∙ unknown_fails f n v rows p among)
          ∙ sym (ap (λ (x : Option (List Row)). cond (is_clean (settle_fault (rules_for f) false (held_at rows p))) x None) (unknown_items f n v rest w (settled_rows (rules_for f) p rows) k among) ∙ none_either _)
      pick true among (Some x) e =
          let here : arg_by_long (rules_for f) n ≡ Some (option_rule n) = rw (long_is f n, among) refl in
          turn_is f name rows p idle (k + 1) w rest (long_fault (rules_for f) false (Some (option_rule n)) (Some x) (held_at rows p))
          (held_at (used (option_rule n) (x ∷ []) (settled_rows (rules_for f) p rows)) None, next idle)
          (named_fault f name w n (Some x) (held_at rows p) idle e ∙ ap (λ o. long_fault (rules_for f) false o (Some x) (held_at rows p)) here)
          (named_met f w n (Some x) (held_at rows p) (k + 1) e
          ∙ ap (λ o. after_flag (rules_for f) idle w (long_met (rules_for f) o (Some x) (held_at rows p)).0 (long_met (rules_for f) o (Some x) (held_at rows p)).1) here)
          ∙ two_steps (settle_fault (rules_for f) false (held_at rows p)) (use_fault false (option_rule n) (x ∷ []) (settled_rows (rules_for f) p rows)) _
          ∙ ap (λ (x : Option (List Row)). cond (is_clean (settle_fault (rules_for f) false (held_at rows p))) x None)
          (ap (λ (y : Option (List Row)). cond (is_clean (use_fault false (option_rule n) (x ∷ []) (settled_rows (rules_for f) p rows))) y None)
          (idle_rest (used (option_rule n) (x ∷ []) (settled_rows (rules_for f) p rows)) None k)
          ∙ use_then n (Some n) None false x (settled_rows (rules_for f) p rows) (λ rs. rows_of_items f rs k (items rest None))
          ∙ sym (option_first f (settled_rows (rules_for f) p rows) k n x (items rest None)
          ∙ ap (λ (b : Bool). cond b (cond (has_row n (settled_rows (rules_for f) p rows)) None (rows_of_items f (settled_rows (rules_for f) p rows ++ row n x ∷ []) k (items rest None))) None) among))
      pick true among None e =
          let here : arg_by_long (rules_for f) n ≡ Some (option_rule n) = rw (long_is f n, among) refl in
          turn_is f name rows p idle (k + 1) w rest (settle_fault (rules_for f) false (held_at rows p))
          (held_at (settled_rows (rules_for f) p rows) (Some (n, [])), next (waits_for n))
          (named_fault f name w n None (held_at rows p) idle e ∙ ap (λ o. long_fault (rules_for f) false o None (held_at rows p)) here)
          (named_met f w n None (held_at rows p) (k + 1) e
          ∙ ap (λ o. after_flag (rules_for f) idle w (long_met (rules_for f) o None (held_at rows p)).0 (long_met (rules_for f) o None (held_at rows p)).1) here)
          ∙ one_step (settle_fault (rules_for f) false (held_at rows p)) _
          ∙ ap (λ (x : Option (List Row)). cond (is_clean (settle_fault (rules_for f) false (held_at rows p))) x None)
          (waits_rest (settled_rows (rules_for f) p rows) n k among)

  waits_plain : kind_of w ≡ plain → Waits f name (w ∷ rest)
  waits_plain is rows n k among =
      let e = as_plain w is in
      let known = names.option_known n among in
      let met : option_word (arg_by_id (rules_for f) n) n w (held_at rows (Some (n, []))) ≡ (held_at rows (Some (n, w ∷ [])), idle) =
      rw (known.is, same_bytes n) refl in
      turn_is f name rows (Some (n, [])) (waits_for n) (k + 1) w rest [] (held_at rows (Some (n, w ∷ [])), next idle)
      (plain_fault f name w (held_at rows (Some (n, []))) (waits_for n) e)
      (plain_met f w (held_at rows (Some (n, []))) (waits_for n) (k + 1) e ∙ ap (λ (m : Held × _). (m.0, next m.1)) met)
      ∙ idle_rest rows (Some (n, w ∷ [])) k
      ∙ settle_then f n w rows (λ rs. rows_of_items f rs k (items rest None)) known
      ∙ sym (ap (λ (kd : Kind). rows_of_items f rows k (next_items (Some n) kd w (items rest))) is ∙ option_first f rows k n w (items rest None)
      ∙ ap (λ (b : Bool). cond b (cond (has_row n rows) None (rows_of_items f (rows ++ row n w ∷ []) k (items rest None))) None) among)

  waits_named : (o : Word) (v : Option Word) → kind_of w ≡ named o v → Waits f name (w ∷ rest)
  waits_named o v is rows n k among =
      let e = named_word w o v is in
      let known = names.option_known n among in
      let bad = open_named f o v rows (Some (n, [])) (open_fails f n rows known) in
      turn_fails f name rows (Some (n, [])) (waits_for n) (k + 1) w rest
      (ap is_clean (named_fault f name w o v (held_at rows (Some (n, []))) (waits_for n) e) ∙ bad)
      ∙ sym (ap (λ (kd : Kind). rows_of_items f rows k (next_items (Some n) kd w (items rest))) is)

-- at each list of words, none of which is wrong
pub walks : (f : Form) (name : Word) (names : Names f) (words : List Word) → list_all (λ w. is_right (kind_of w)) words ≡ true → Idle f name words × Waits f name words
walks f name names [] right = (λ rows p k. refl, λ rows n k among. ap (λ (b : Bool). cond b (Some (settled_rows (rules_for f) (Some (n, [])) rows)) None) (open_fails f n rows (names.option_known n among)))
walks f name names (w ∷ rest) right = go (kind_of w) refl right (walks f name names rest)
  where
    go : (kd : Kind) → kind_of w ≡ kd → (is_right kd && list_all (λ w. is_right (kind_of w)) rest) ≡ true → (list_all (λ w. is_right (kind_of w)) rest ≡ true → Idle f name rest × Waits f name rest)
        → Idle f name (w ∷ rest) × Waits f name (w ∷ rest)
    go plain is right later = let h = later right in (idle_plain f name names w rest h.0 h.1 is, waits_plain f name names w rest h.0 h.1 is)
    go (named n v) is right later = let h = later right in (idle_named f name names w rest h.0 h.1 n v is, waits_named f name names w rest h.0 h.1 n v is)
    go wrong is right later = absurd (cc)
