-- The command that `clap` is given for any sound form is one of that form.
use Rattle.std.proofs.Common.{◌≡◌, ◌&&◌, ◌+◌, ◌<◌, ◌∙◌, ℕ, Bool, true, false, not, refl, sym, ap, ap₂, subst, arith, List, [], ◌∷◌, ◌++◌, map, length, min, Some, None, append_assoc}
use Rattle.std.specs.Prelude.{fold, nat_lt, count_by, is_some}
use Rattle.std.specs.List.{list_all, list_any}
use Rattle.std.proofs.lemmas.List.{append-nil}
use Rattle.std.proofs.lemmas.Bool.{ltb-true}
use Rattle.clap.specs.Lexer.{usize_max}
use Rattle.clap.specs.Walk.{Rule, is_early_multiple}
use Rattle.clap.specs.Simple.{App, new_shape, with_rule, filled_from, help_rule, built, is_ready, is_ready_leaf}
use Rattle.clap.specs.Words.{is_simple}
use Rattle.clap.specs.Faults.{is_free_app}
use Rattle.clap.proofs.WalkLemmas.{both}
use Rattle.command_words.specs.Reading.{Word, Form, are_distinct}
use Rattle.command_words.specs.ClapForm.{positional_arg, option_arg, app_with, is_sound}
use Rattle.command_words.proofs.ArgRules.{value_rule, option_rule, placed, help_built, rules_for, shape_for}
use Rattle.command_words.proofs.ClapReads.{IsCommandOf}

with_rules : (name : Word) (before rs : List Rule) → fold with_rule (record { top = record (new_shape name) { rules = before }; subs = [] }) rs ≡ record { top = record (new_shape name) { rules = before ++ rs }; subs = [] }
with_rules name before [] = ap (λ (r : List Rule). record { top = record (new_shape name) { rules = r }; subs = [] }) (sym (append-nil before))
with_rules name before (r ∷ rs) = with_rules name (before ++ r ∷ []) rs ∙ ap (λ (r : List Rule). record { top = record (new_shape name) { rules = r }; subs = [] }) (append_assoc before (r ∷ []) rs)

abbrev given : Form → List Rule
given f = map positional_arg f.positionals ++ map option_arg f.options

abbrev plain_app : Word → List Rule → App
plain_app name rules = record { top = record (new_shape name) { rules = rules }; subs = [] }

app_is : (name : Word) (f : Form) → app_with name f ≡ plain_app name (given f)
app_is name f = with_rules name [] (given f)

-- ---- building

filled_options : (i : ℕ) (os : List Word) → filled_from i (map option_arg os ++ help_rule ∷ []) ≡ map option_rule os ++ help_built ∷ []
filled_options i [] = refl
filled_options i (o ∷ os) = ap (λ (r : List Rule). option_rule o ∷ r) (filled_options i os)

filled_placed : (i : ℕ) (ps : List Word) (rest after : List Rule) → i + length ps < 10000 → ((j : ℕ) → filled_from j rest ≡ after) → filled_from i (map positional_arg ps ++ rest) ≡ placed i ps ++ after
filled_placed i [] rest after few later = later i
filled_placed i (p ∷ ps) rest after few later =
    let next : min (i + 1) usize_max ≡ i + 1 = omega arith in
    ap (λ j. value_rule p None (Some i) true ∷ filled_from j (map positional_arg ps ++ rest)) next
    ∙ ap (λ (r : List Rule). value_rule p None (Some i) true ∷ r) (filled_placed (i + 1) ps rest after (omega arith) later)

filled_are : (f : Form) → length f.positionals < 1000 → filled_from 1 (given f ++ help_rule ∷ []) ≡ rules_for f
filled_are f few =
    ap (filled_from 1) (append_assoc (map positional_arg f.positionals) (map option_arg f.options) (help_rule ∷ []))
    ∙ filled_placed 1 f.positionals (map option_arg f.options ++ help_rule ∷ []) (map option_rule f.options ++ help_built ∷ []) (omega arith) (λ j. filled_options j f.options)

few_of : (f : Form) → is_sound f ≡ true → length f.positionals < 1000
few_of f sound =
    let parts = both (are_distinct (f.positionals ++ f.options)) (nat_lt (length f.positionals) 1000) sound in
    ltb-true (length f.positionals) 1000 parts.1

built_is : (name : Word) (f : Form) → is_sound f ≡ true → built (plain_app name (given f)) ≡ record { top = shape_for name f; subs = [] }
built_is name f sound = ap (λ (r : List Rule). record { top = record (new_shape name) { rules = r; is_built = true; disable_help_subcommand = true }; subs = [] }) (filled_are f (few_of f sound))

-- ---- tests of each argument

module _ (p : Rule → Bool) where
  all_given : (f : Form) → ((id : Word) → p (positional_arg id) ≡ true) → ((id : Word) → p (option_arg id) ≡ true) → list_all p (given f) ≡ true
  all_given f pos opt = go f.positionals
    where
      rest : (os : List Word) → list_all p (map option_arg os) ≡ true
      rest [] = refl
      rest (o ∷ os) = ap₂ (λ a b. a && b) (opt o) (rest os)

      go : (ps : List Word) → list_all p (map positional_arg ps ++ map option_arg f.options) ≡ true
      go [] = rest f.options
      go (x ∷ xs) = ap₂ (λ a b. a && b) (pos x) (go xs)

  all_built : (f : Form) → ((id : Word) (i : ℕ) → p (value_rule id None (Some i) true) ≡ true) → ((id : Word) → p (option_rule id) ≡ true) → p help_built ≡ true → list_all p (rules_for f) ≡ true
  all_built f pos opt help = go 1 f.positionals
    where
      rest : (os : List Word) → list_all p (map option_rule os ++ help_built ∷ []) ≡ true
      rest [] = ap (λ b. b && true) help
      rest (o ∷ os) = ap₂ (λ a b. a && b) (opt o) (rest os)

      go : (i : ℕ) (ps : List Word) → list_all p (placed i ps ++ (map option_rule f.options ++ help_built ∷ [])) ≡ true
      go i [] = rest f.options
      go i (x ∷ xs) = ap₂ (λ a b. a && b) (pos x i) (go (i + 1) xs)

none_early : (n : ℕ) (f : Form) → list_any (is_early_multiple n) (rules_for f) ≡ false
none_early n f = go 1 f.positionals
  where
    rest : (os : List Word) → list_any (is_early_multiple n) (map option_rule os ++ help_built ∷ []) ≡ false
    rest [] = refl
    rest (o ∷ os) = rest os

    go : (i : ℕ) (ps : List Word) → list_any (is_early_multiple n) (placed i ps ++ (map option_rule f.options ++ help_built ∷ [])) ≡ false
    go i [] = rest f.options
    go i (x ∷ xs) = go (i + 1) xs

plain_simple : (name : Word) (f : Form) → is_sound f ≡ true → is_simple (plain_app name (given f)) ≡ true
plain_simple name f sound =
    ap₂ (λ (x : Bool) (b : App). (x && true) && (is_ready b.top && list_all is_ready_leaf b.subs)) (all_given (λ a. a.is_simple) f (λ id. refl) (λ id. refl)) (built_is name f sound)
    ∙ ap₂ (λ x y. (x && not y) && true) (all_built (λ a. a.is_simple) f (λ id i. refl) (λ id. refl) refl) (none_early (count_by (λ a. is_some a.index) (rules_for f)) f)

plain_free : (name : Word) (f : Form) → is_sound f ≡ true → is_free_app (built (plain_app name (given f))) ≡ true
plain_free name f sound = ap is_free_app (built_is name f sound) ∙ ap (λ b. b && true) (all_built (λ a. a.is_free) f (λ id i. refl) (λ id. refl) refl)

pub any_command : (name : Word) (f : Form) → is_sound f ≡ true → IsCommandOf f (app_with name f)
any_command name f sound =
    let simple : is_simple (plain_app name (given f)) ≡ true = plain_simple name f sound in
    subst (λ (a : App). IsCommandOf f a) (sym (app_is name f)) (record {
      name = name;
      as_built = built_is name f sound;
      has_name = refl;
      sound = sound;
      simple = simple;
      free = ap₂ (λ a b. a && b) simple (plain_free name f sound);
    })
