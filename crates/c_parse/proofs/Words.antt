-- A word is the fixed one that it is, or a name.
use Rattle.std.proofs.Common.{ℕ, List, Bool, true, false, if◌then◌else◌, Option, Some, None, ◌≡◌, refl, ◌∙◌, sym}
use Rattle.c_parse.specs.Terminals.{word_or_name, word_kind, fixed_word, profile_word, or_else, is_one_of, other_keywords}
use Rattle.c_parse.specs.declared.terminal.Kind.{Kind}
use Rattle.c_parse.specs.declared.terminal.Kind.TheVariants as kinds

abbrev kind_or : Option Kind → Kind → Kind
kind_or (Some k) other = k
kind_or None other = other

same_kind : (o : Option Kind) (w : List ℕ) → word_or_name o w ≡ kind_or o (if is_one_of other_keywords w then kinds.Keyword else kinds.Name w)
same_kind (Some k) w = refl
same_kind None w = refl

some_kind : (o : Option Kind) (b : Bool) (name k : Kind) → or_else o (if b then Some kinds.Keyword else None) ≡ Some k → kind_or o (if b then kinds.Keyword else name) ≡ k
some_kind (Some j) b name k h = cc
some_kind None true name k h = cc
some_kind None false name k h = cc

no_kind : (o : Option Kind) (b : Bool) (name : Kind) → or_else o (if b then Some kinds.Keyword else None) ≡ None → kind_or o (if b then kinds.Keyword else name) ≡ name
no_kind (Some j) b name h = cc
no_kind None true name h = cc
no_kind None false name h = cc

pub fixed_is : (w : List ℕ) (k : Kind) → fixed_word w ≡ Some k → k ≡ word_kind w
fixed_is w k h = sym (same_kind (profile_word w) w ∙ some_kind (profile_word w) (is_one_of other_keywords w) (kinds.Name w) k h)

pub name_is : (w : List ℕ) → fixed_word w ≡ None → kinds.Name w ≡ word_kind w
name_is w h = sym (same_kind (profile_word w) w ∙ no_kind (profile_word w) (is_one_of other_keywords w) (kinds.Name w) h)
