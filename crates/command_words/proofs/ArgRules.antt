-- The arguments of a built command, and how they are found.
use Rattle.std.proofs.Common.{◌≡◌, ◌==◌, ◌||◌, ◌+◌, ◌∙◌, ℕ, Bool, true, false, zero, suc, refl, ap, cond, codes, List, [], ◌∷◌, ◌++◌, map, Option, Some, None, option_map, arith}
use Rattle.std.specs.Prelude.{slice_get}
use Rattle.std.specs.Str.{bytes_eq}
use Rattle.std.proofs.lemmas.Slice.Eq.{bytes_eq-Decides}
use Rattle.clap.specs.Walk.{Rule, arg_by_id, arg_by_index, arg_by_long}
use Rattle.clap.specs.Simple.{Shape, new_shape, filled, help_rule, with_index}
use Rattle.clap.specs.declared.builder.ArgAction.TheVariants.{Set}
use Rattle.clap.specs.declared.builder.value_parser.ValueParser.TheVariants as vp
use Rattle.command_words.specs.Reading.{Word, Form, is_among}

-- a built argument that takes one value
abbrev pub value_rule : Word → Option Word → Option ℕ → Bool → Rule
value_rule id long index required = record {
  id = id;
  long = long;
  aliases = [];
  short = None;
  short_aliases = [];
  index = index;
  action = Some Set;
  range = Some (record { start_inclusive = 1; end_inclusive = 1 });
  value_names = 0;
  defaults = [];
  missing = [];
  trailing_var_arg = false;
  parser = Some vp.String;
  ignore_case = false;
  required = required;
  is_simple = true;
  is_free = true;
}

abbrev pub option_rule : Word → Rule
option_rule name = value_rule name (Some name) None false

abbrev pub placed : ℕ → List Word → List Rule
placed i [] = []
placed i (p ∷ ps) = value_rule p None (Some i) true ∷ placed (i + 1) ps

abbrev pub help_built : Rule
help_built = with_index 1 (filled help_rule)

abbrev pub rules_for : Form → List Rule
rules_for f = placed 1 f.positionals ++ (map option_rule f.options ++ help_built ∷ [])

abbrev pub shape_for : Word → Form → Shape
shape_for name f = record (new_shape name) { rules = rules_for f; is_built = true; disable_help_subcommand = true }

-- ---- by a long name

long_placed : (n : Word) (i : ℕ) (ps : List Word) (rest : List Rule) → arg_by_long (placed i ps ++ rest) n ≡ arg_by_long rest n
long_placed n i [] rest = refl
long_placed n i (p ∷ ps) rest = long_placed n (i + 1) ps rest

long_options : (n : Word) (os : List Word) (rest : List Rule) → arg_by_long (map option_rule os ++ rest) n ≡ cond (is_among n os) (Some (option_rule n)) (arg_by_long rest n)
long_options n [] rest = refl
long_options n (o ∷ os) rest = go (bytes_eq o n) ((bytes_eq-Decides o n).0) (long_options n os rest)
  where
    go : (b : Bool) → (b ≡ true → o ≡ n) → arg_by_long (map option_rule os ++ rest) n ≡ cond (is_among n os) (Some (option_rule n)) (arg_by_long rest n)
        → cond (b || false) (Some (option_rule o)) (arg_by_long (map option_rule os ++ rest) n) ≡ cond (b || is_among n os) (Some (option_rule n)) (arg_by_long rest n)
    go true is e = ap (λ (x : Word). Some (option_rule x)) (is refl)
    go false is e = e

pub long_is : (f : Form) (n : Word) → arg_by_long (rules_for f) n ≡ cond (is_among n f.options) (Some (option_rule n)) (cond (bytes_eq (codes "help") n || false) (Some help_built) None)
long_is f n = long_placed n 1 f.positionals (map option_rule f.options ++ help_built ∷ []) ∙ long_options n f.options (help_built ∷ [])

-- ---- by an id

pub record IsValueOf (id : Word) (o : Option Rule) : Type 0 where
  pub long : Option Word
  pub index : Option ℕ
  pub required : Bool
  pub is : o ≡ Some (value_rule id long index required)

id_options : (id : Word) (os : List Word) (rest : List Rule) → is_among id os ≡ true → IsValueOf id (arg_by_id (map option_rule os ++ rest) id)
id_options id [] rest among = absurd (cc)
id_options id (o ∷ os) rest among = go (bytes_eq o id) ((bytes_eq-Decides o id).0) among (id_options id os rest)
  where
    go : (b : Bool) → (b ≡ true → o ≡ id) → (b || is_among id os) ≡ true → (is_among id os ≡ true → IsValueOf id (arg_by_id (map option_rule os ++ rest) id))
        → IsValueOf id (cond b (Some (option_rule o)) (arg_by_id (map option_rule os ++ rest) id))
    go true is among e = record { long = Some o; index = None; required = false; is = ap (λ (x : Word). Some (value_rule x (Some o) None false)) (is refl) }
    go false is among e = e among

id_placed : (id : Word) (i : ℕ) (ps os : List Word) (rest : List Rule) → is_among id (ps ++ os) ≡ true → IsValueOf id (arg_by_id (placed i ps ++ (map option_rule os ++ rest)) id)
id_placed id i [] os rest among = id_options id os rest among
id_placed id i (p ∷ ps) os rest among = go (bytes_eq p id) ((bytes_eq-Decides p id).0) among (id_placed id (i + 1) ps os rest)
  where
    go : (b : Bool) → (b ≡ true → p ≡ id) → (b || is_among id (ps ++ os)) ≡ true → (is_among id (ps ++ os) ≡ true → IsValueOf id (arg_by_id (placed (i + 1) ps ++ (map option_rule os ++ rest)) id))
        → IsValueOf id (cond b (Some (value_rule p None (Some i) true)) (arg_by_id (placed (i + 1) ps ++ (map option_rule os ++ rest)) id))
    go true is among e = record { long = None; index = Some i; required = true; is = ap (λ (x : Word). Some (value_rule x None (Some i) true)) (is refl) }
    go false is among e = e among

pub id_is : (f : Form) (id : Word) → is_among id (f.positionals ++ f.options) ≡ true → IsValueOf id (arg_by_id (rules_for f) id)
id_is f id among = id_placed id 1 f.positionals f.options (help_built ∷ []) among

-- ---- by a place

index_options : (os : List Word) (i : ℕ) → arg_by_index (map option_rule os ++ help_built ∷ []) i ≡ None
index_options [] i = refl
index_options (o ∷ os) i = index_options os i

index_placed : (ps : List Word) (rest : List Rule) (j k i : ℕ) → i ≡ j + k → arg_by_index rest i ≡ None
    → arg_by_index (placed j ps ++ rest) i ≡ option_map (λ id. value_rule id None (Some i) true) (slice_get ps k)
index_placed [] rest j k i e none = none
index_placed (p ∷ ps) rest j zero i e none =
    let same : j ≡ i = omega arith in
    rw (same, eqb_same i) refl
  where
    eqb_same : (i : ℕ) → (i == i) ≡ true
    eqb_same i = grind arith
index_placed (p ∷ ps) rest j (suc k) i e none =
    let other : (j == i) ≡ false = grind arith in
    rw other (index_placed ps rest (j + 1) k i (omega arith) none)

pub index_is : (f : Form) (k : ℕ) → arg_by_index (rules_for f) (k + 1) ≡ option_map (λ id. value_rule id None (Some (k + 1)) true) (slice_get f.positionals k)
index_is f k = index_placed f.positionals (map option_rule f.options ++ help_built ∷ []) 1 k (k + 1) (omega arith) (index_options f.options (k + 1))
