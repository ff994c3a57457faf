-- Where `main` is.
use Rattle.std.proofs.Common.{◌≡◌, sym, ap, ◌∙◌, ℕ, ◌+◌, Bool, true, false, cond, List, ◌∷◌, ◌<◌, length, drop, get_or, add_assoc, add-zero}
use Rattle.std.specs.Prelude.{◌||◌, not}
use Rattle.std.specs.List.{position_or_len, list_any}
use Rattle.gob_tree.specs.declared.unit.Function.{Function}
use Rattle.c_check.specs.Names.{is_main}
use Rattle.c_check.specs.Units.{is_main_function}
use Rattle.c_check.proofs.Listed.{from_here}

here : (all es rest : List Function) (f : Function) (i : ℕ) → position_or_len is_main_function all ≡ i + position_or_len is_main_function es → es ≡ f ∷ rest → is_main_function f ≡ true
    → i ≡ position_or_len is_main_function all
here all es rest f i e is it_is =
    sym (e ∙ ap (λ (x : List Function). i + position_or_len is_main_function x) is
    ∙ ap (λ (b : Bool). i + cond (not b) (1 + position_or_len is_main_function rest) 0) it_is ∙ add-zero i)

not_yet : (all es rest : List Function) (f : Function) (i : ℕ) → position_or_len is_main_function all ≡ i + position_or_len is_main_function es → es ≡ f ∷ rest → is_main_function f ≡ false
    → position_or_len is_main_function all ≡ (i + 1) + position_or_len is_main_function rest
not_yet all es rest f i e is it_isnt =
    e ∙ ap (λ (x : List Function). i + position_or_len is_main_function x) is
    ∙ ap (λ (b : Bool). i + cond (not b) (1 + position_or_len is_main_function rest) 0) it_isnt
    ∙ sym (add_assoc i 1 (position_or_len is_main_function rest))

there : (all es rest : List Function) (f : Function) → list_any is_main_function all ≡ list_any is_main_function es → es ≡ f ∷ rest → is_main_function f ≡ true → list_any is_main_function all ≡ true
there all es rest f e is it_is = e ∙ ap (list_any is_main_function) is ∙ ap (λ (b : Bool). b || list_any is_main_function rest) it_is

none_yet : (all es rest : List Function) (f : Function) → list_any is_main_function all ≡ list_any is_main_function es → es ≡ f ∷ rest → is_main_function f ≡ false
    → list_any is_main_function all ≡ list_any is_main_function rest
none_yet all es rest f e is it_isnt = e ∙ ap (list_any is_main_function) is ∙ ap (λ (b : Bool). b || list_any is_main_function rest) it_isnt

pub here_is_main : (all : List Function) (i : ℕ) (f : Function) → i < length all → f ≡ get_or all i f → position_or_len is_main_function all ≡ i + position_or_len is_main_function (drop i all)
    → is_main f.name ≡ true → i ≡ position_or_len is_main_function all
here_is_main all i f h is e it_is = here all (drop i all) (drop (i + 1) all) f i e (from_here all i f h is) it_is

pub not_here : (all : List Function) (i : ℕ) (f : Function) → i < length all → f ≡ get_or all i f → position_or_len is_main_function all ≡ i + position_or_len is_main_function (drop i all)
    → is_main f.name ≡ false → position_or_len is_main_function all ≡ (i + 1) + position_or_len is_main_function (drop (i + 1) all)
not_here all i f h is e it_isnt = not_yet all (drop i all) (drop (i + 1) all) f i e (from_here all i f h is) it_isnt

pub main_is_there : (all : List Function) (i : ℕ) (f : Function) → i < length all → f ≡ get_or all i f → list_any is_main_function all ≡ list_any is_main_function (drop i all)
    → is_main f.name ≡ true → list_any is_main_function all ≡ true
main_is_there all i f h is e it_is = there all (drop i all) (drop (i + 1) all) f e (from_here all i f h is) it_is

pub still_none : (all : List Function) (i : ℕ) (f : Function) → i < length all → f ≡ get_or all i f → list_any is_main_function all ≡ list_any is_main_function (drop i all)
    → is_main f.name ≡ false → list_any is_main_function all ≡ list_any is_main_function (drop (i + 1) all)
still_none all i f h is e it_isnt = none_yet all (drop i all) (drop (i + 1) all) f e (from_here all i f h is) it_isnt
