-- The names in a reading are UTF-8.
use Rattle.std.proofs.Common.{◌≡◌, ◌&&◌, ℕ, zero, suc, Bool, true, false, not, refl, sym, ap, ap₂, subst, cond, List, [], ◌∷◌, Option, Some, None, option_map, option_and_then, IsUtf8, codes}
use Rattle.std.specs.Prelude.{slice_get, Result, Ok, Err, IfOk, IfSome}
use Rattle.std.specs.List.{list_all}
use Rattle.std.specs.Str.{bytes_eq, is_utf8}
use Rattle.std.proofs.lemmas.Str.{IsUtf8-from_is_utf8}
use Rattle.clap.proofs.WalkLemmas.{both}
use Rattle.command_words.specs.Reading.{Word, Form, Item, option, positional, Kind, plain, named, wrong, kind_of, may_stand, items, next_items, fits, if_fits, reading, positionals_of, value_of}
use Rattle.command_words.specs.Numbers.{analyse_budget, edition_budget, load_functions, load_number, serve_hands, serve_port, serve_rounds}
use Rattle.command_words.specs.CommandLines.{analyse_form, run_form, replay_form, load_form, serve_form, command_reading}
use Rattle.command_words.specs.Names.{NamesAreText}
use Rattle.command_words.specs.declared.line.CommandLine.{CommandLine}
use Rattle.command_words.specs.declared.line.CommandLine.TheVariants.{Analyse, Run, Replay, Load, Debug, Serve}

-- ---- positional words

stands : (w : Word) → may_stand w ≡ true → is_utf8 w ≡ true
stands w ok = (both (is_utf8 w) (not (bytes_eq w (codes "--help"))) ok).0

module _ (w : Word) (text : is_utf8 w ≡ true) where
  with_positional : (o : Option (List Item)) (xs : List Item) → ((ys : List Item) → o ≡ Some ys → list_all is_utf8 (positionals_of ys) ≡ true) → option_map (λ ys. positional w ∷ ys) o ≡ Some xs → list_all is_utf8 (positionals_of xs) ≡ true
  with_positional None xs known e = absurd (cc)
  with_positional (Some ys) xs known e =
      let same : positional w ∷ ys ≡ xs = cc in
      subst (λ (zs : List Item). list_all is_utf8 (positionals_of zs) ≡ true) same (ap₂ (λ a b. a && b) text (known ys refl))

with_option : (n v : Word) (o : Option (List Item)) (xs : List Item) → ((ys : List Item) → o ≡ Some ys → list_all is_utf8 (positionals_of ys) ≡ true) → option_map (λ ys. option n v ∷ ys) o ≡ Some xs → list_all is_utf8 (positionals_of xs) ≡ true
with_option n v None xs known e = absurd (cc)
with_option n v (Some ys) xs known e =
    let same : option n v ∷ ys ≡ xs = cc in
    subst (λ (zs : List Item). list_all is_utf8 (positionals_of zs) ≡ true) same (known ys refl)

step : (waiting : Option Word) (k : Kind) (w : Word) (rest : Option Word → Option (List Item)) (xs : List Item) → is_utf8 w ≡ true
    → ((o : Option Word) (ys : List Item) → rest o ≡ Some ys → list_all is_utf8 (positionals_of ys) ≡ true) → next_items waiting k w rest ≡ Some xs → list_all is_utf8 (positionals_of xs) ≡ true
step None plain w rest xs text known e = with_positional w text (rest None) xs (known None) e
step None (named n (Some v)) w rest xs text known e = with_option n v (rest None) xs (known None) e
step None (named n None) w rest xs text known e = known (Some n) xs e
step None wrong w rest xs text known e = absurd (cc)
step (Some n) plain w rest xs text known e = with_option n w (rest None) xs (known None) e
step (Some n) (named o v) w rest xs text known e = absurd (cc)
step (Some n) wrong w rest xs text known e = absurd (cc)

items_text : (words : List Word) → list_all may_stand words ≡ true → (waiting : Option Word) (xs : List Item) → items words waiting ≡ Some xs → list_all is_utf8 (positionals_of xs) ≡ true
items_text [] ok None xs e =
    let same : [] ≡ xs = cc in
    subst (λ (zs : List Item). list_all is_utf8 (positionals_of zs) ≡ true) same refl
items_text [] ok (Some n) xs e = absurd (cc)
items_text (w ∷ words) ok waiting xs e =
    let parts = both (may_stand w) (list_all may_stand words) ok in
    step waiting (kind_of w) w (items words) xs (stands w parts.0) (items_text words parts.1) e

reading_text : (form : Form) (words : List Word) (xs : List Item) → reading form words ≡ Some xs → list_all is_utf8 (positionals_of xs) ≡ true
reading_text form words xs e = go (list_all may_stand words) refl e
  where
    pick : (ys : List Item) (b : Bool) → cond b (Some ys) None ≡ Some xs → ys ≡ xs
    pick ys true e = cc
    pick ys false e = absurd (cc)

    open_up : (o : Option (List Item)) → option_and_then (if_fits form) o ≡ Some xs → o ≡ Some xs
    open_up None e = absurd (cc)
    open_up (Some ys) e = ap (λ (zs : List Item). Some zs) (pick ys (fits form ys) e)

    go : (b : Bool) → list_all may_stand words ≡ b → cond b (option_and_then (if_fits form) (items words None)) None ≡ Some xs → list_all is_utf8 (positionals_of xs) ≡ true
    go true ok e = items_text words ok None xs (open_up (items words None) e)
    go false ok e = absurd (cc)

place_text : (words : List Word) (k : ℕ) (w : Word) → list_all is_utf8 words ≡ true → slice_get words k ≡ Some w → IsUtf8 w
place_text [] k w ok e = absurd (cc)
place_text (x ∷ xs) zero w ok e =
    let same : x ≡ w = cc in
    IsUtf8-from_is_utf8 w (subst (λ (v : Word). is_utf8 v ≡ true) same (both (is_utf8 x) (list_all is_utf8 xs) ok).0)
place_text (x ∷ xs) (suc k) w ok e = place_text xs k w (both (is_utf8 x) (list_all is_utf8 xs) ok).1 e

-- ---- each command

module _ (o : Option Word) (known : (f : Word) → o ≡ Some f → IsUtf8 f) (line : CommandLine) where
  analyse_names : (b : Option ℕ) → option_and_then (λ name. option_map (λ n. Analyse name n) b) o ≡ Some line → NamesAreText line
  analyse_names b e = go o known b e
    where
      go : (o : Option Word) → ((f : Word) → o ≡ Some f → IsUtf8 f) → (b : Option ℕ) → option_and_then (λ name. option_map (λ n. Analyse name n) b) o ≡ Some line → NamesAreText line
      go None known b e = absurd (cc)
      go (Some f) known None e = absurd (cc)
      go (Some f) known (Some n) e =
          let same : Analyse f n ≡ line = cc in
          subst NamesAreText same (known f refl)

  debug_names : (b : Option ℕ) → option_and_then (λ name. option_map (λ n. Debug name n) b) o ≡ Some line → NamesAreText line
  debug_names b e = go o known b e
    where
      go : (o : Option Word) → ((f : Word) → o ≡ Some f → IsUtf8 f) → (b : Option ℕ) → option_and_then (λ name. option_map (λ n. Debug name n) b) o ≡ Some line → NamesAreText line
      go None known b e = absurd (cc)
      go (Some f) known None e = absurd (cc)
      go (Some f) known (Some n) e =
          let same : Debug f n ≡ line = cc in
          subst NamesAreText same (known f refl)

  replay_names : option_map (λ name. Replay name) o ≡ Some line → NamesAreText line
  replay_names e = go o known e
    where
      go : (o : Option Word) → ((f : Word) → o ≡ Some f → IsUtf8 f) → option_map (λ name. Replay name) o ≡ Some line → NamesAreText line
      go None known e = absurd (cc)
      go (Some f) known e =
          let same : Replay f ≡ line = cc in
          subst NamesAreText same (known f refl)

  run_names : (s : Option Word) → ((f : Word) → s ≡ Some f → IsUtf8 f) → option_and_then (λ name. option_map (λ other. Run name other) s) o ≡ Some line → NamesAreText line
  run_names s other e = go o known s other e
    where
      go : (o : Option Word) → ((f : Word) → o ≡ Some f → IsUtf8 f) → (s : Option Word) → ((f : Word) → s ≡ Some f → IsUtf8 f)
          → option_and_then (λ name. option_map (λ other. Run name other) s) o ≡ Some line → NamesAreText line
      go None known s other e = absurd (cc)
      go (Some f) known None other e = absurd (cc)
      go (Some f) known (Some t) other e =
          let same : Run f t ≡ line = cc in
          subst NamesAreText same (known f refl, other t refl)

  serve_names : (h r p b : Option ℕ) → option_and_then (λ name. option_and_then (λ h. option_and_then (λ r. option_and_then (λ p. option_map (λ n. Serve name h r p n) b) p) r) h) o ≡ Some line → NamesAreText line
  serve_names h r p b e = go o known h r p b e
    where
      go : (o : Option Word) → ((f : Word) → o ≡ Some f → IsUtf8 f) → (h r p b : Option ℕ)
          → option_and_then (λ name. option_and_then (λ h. option_and_then (λ r. option_and_then (λ p. option_map (λ n. Serve name h r p n) b) p) r) h) o ≡ Some line → NamesAreText line
      go None known h r p b e = absurd (cc)
      go (Some f) known None r p b e = absurd (cc)
      go (Some f) known (Some h) None p b e = absurd (cc)
      go (Some f) known (Some h) (Some r) None b e = absurd (cc)
      go (Some f) known (Some h) (Some r) (Some p) None e = absurd (cc)
      go (Some f) known (Some h) (Some r) (Some p) (Some n) e =
          let same : Serve f h r p n ≡ line = cc in
          subst NamesAreText same (known f refl)

load_names : (o b : Option ℕ) (line : CommandLine) → option_and_then (λ n. option_map (λ count. Load n count) b) o ≡ Some line → NamesAreText line
load_names None b line e = absurd (cc)
load_names (Some n) None line e = absurd (cc)
load_names (Some n) (Some c) line e =
    let same : Load n c ≡ line = cc in
    subst NamesAreText same tt

-- what is made of the items of a reading
made : (form : Form) (words : List Word) (line : CommandLine) (make : List Item → Option CommandLine)
    → ((xs : List Item) → list_all is_utf8 (positionals_of xs) ≡ true → make xs ≡ Some line → NamesAreText line)
    → option_and_then make (reading form words) ≡ Some line → NamesAreText line
made form words line make text e = go (reading form words) refl e
  where
    go : (o : Option (List Item)) → reading form words ≡ o → option_and_then make o ≡ Some line → NamesAreText line
    go None is e = absurd (cc)
    go (Some xs) is e = text xs (reading_text form words xs is) e

either_line : (b : Bool) (x y : Option CommandLine) (line : CommandLine) → (x ≡ Some line → NamesAreText line) → (y ≡ Some line → NamesAreText line) → cond b x y ≡ Some line → NamesAreText line
either_line true x y line first second e = first e
either_line false x y line first second e = second e

pub names_are_text : (words : List Word) (line : CommandLine) → command_reading words ≡ Some line → NamesAreText line
names_are_text [] line e = absurd (cc)
names_are_text (command ∷ words) line e =
    let at = λ (xs : List Item) (k : ℕ) (ok : list_all is_utf8 (positionals_of xs) ≡ true) (f : Word) (is : slice_get (positionals_of xs) k ≡ Some f). place_text (positionals_of xs) k f ok is in
    either_line (bytes_eq command (codes "analyse")) _ _ line
    (made analyse_form words line _ (λ xs ok. analyse_names (slice_get (positionals_of xs) 0) (at xs 0 ok) line (analyse_budget (value_of (codes "budget") xs))))
    (either_line (bytes_eq command (codes "run")) _ _ line
    (made run_form words line _ (λ xs ok. run_names (slice_get (positionals_of xs) 0) (at xs 0 ok) line (slice_get (positionals_of xs) 1) (at xs 1 ok)))
    (either_line (bytes_eq command (codes "replay")) _ _ line
    (made replay_form words line _ (λ xs ok. replay_names (slice_get (positionals_of xs) 0) (at xs 0 ok) line))
    (either_line (bytes_eq command (codes "load")) _ _ line
    (made load_form words line _ (λ xs ok. load_names (option_and_then load_number (slice_get (positionals_of xs) 0)) (load_functions (value_of (codes "functions") xs)) line))
    (either_line (bytes_eq command (codes "debug")) _ _ line
    (made analyse_form words line _ (λ xs ok. debug_names (slice_get (positionals_of xs) 0) (at xs 0 ok) line (edition_budget (value_of (codes "budget") xs))))
    (either_line (bytes_eq command (codes "serve")) _ _ line
    (made serve_form words line _ (λ xs ok. serve_names (slice_get (positionals_of xs) 0) (at xs 0 ok) line (serve_hands (value_of (codes "hands") xs)) (serve_rounds (value_of (codes "rounds") xs)) (serve_port (value_of (codes "port") xs)) (edition_budget (value_of (codes "budget") xs))))
    (λ e. absurd (cc))))))) e

pub ok_names : {E : Type 0} (words : List Word) (r : Result (Option CommandLine) E) → IfOk r (λ o. o ≡ command_reading words) → IfOk r (λ o. IfSome o NamesAreText)
ok_names words (Ok None) is = tt
ok_names words (Ok (Some line)) is = names_are_text words line (sym is)
ok_names words (Err e) is = tt
