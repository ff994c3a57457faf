-- Each command is read as its form says.
use Rattle.std.proofs.Common.{◌≡◌, Result, Ok, Err, IfOk, ◌≤◌, ◌∙◌, Bool, true, false, cond, length, get_or, take, suc, ◌-◌, arith, refl, sym, ap, ap₂, subst, List, [], ◌∷◌, drop, Option, Some, None, option_and_then, codes}
use Rattle.std.specs.List.{list_all}
use Rattle.std.specs.Str.{bytes_eq}
use Rattle.clap.specs.Words.{App, first_value, found_of, is_simple, is_simple_and_free}
use Rattle.clap.specs.declared.parser.matches.ArgMatches.{ArgMatches}
use Rattle.command_words.specs.Reading.{Word, Form, Item, goes_to_clap, reading}
use Rattle.command_words.specs.ClapForm.{Answers, Reads, ReadsBy, app_with, is_sound}
use Rattle.command_words.specs.CommandLines.{analyse_form, analyse_by, analyse_of, run_form, run_by, run_of, replay_form, replay_by, replay_of, load_form, load_by, load_of, debug_by, debug_of, serve_form, serve_by, serve_of, command_reading}
use Rattle.command_words.specs.declared.line.CommandLine.{CommandLine}
use Rattle.command_words.proofs.AnyForm.{any_command}
use Rattle.command_words.proofs.ClapReads.{IsCommandOf, clap_none, clap_some, unsaid}

pub reads_known : (f : Form) (name : Word) (a : App) (texts : List Word) (o : Option ArgMatches) → is_sound f ≡ true → list_all goes_to_clap (drop 1 texts) ≡ true → a ≡ app_with name f
    → (is_simple_and_free a ≡ true → is_simple a ≡ true → ReadsBy a texts o) → Reads f (drop 1 texts) o
reads_known f name a texts o sound ok is known =
    let command = subst (λ (b : App). IsCommandOf f b) (sym is) (any_command name f sound) in
    go command o (known command.free command.simple)
  where
    go : IsCommandOf f a → (o : Option ArgMatches) → ReadsBy a texts o → Reads f (drop 1 texts) o
    go command None reads = clap_none f a command texts ok reads
    go command (Some m) reads = clap_some f a command texts ok m reads

pub ok_reads : {E : Type 0} (f : Form) (name : Word) (a : App) (texts : List Word) (r : Result (Option ArgMatches) E) → is_sound f ≡ true → list_all goes_to_clap (drop 1 texts) ≡ true → a ≡ app_with name f
    → (is_simple_and_free a ≡ true → is_simple a ≡ true → IfOk r (ReadsBy a texts)) → IfOk r (Reads f (drop 1 texts))
ok_reads f name a texts (Ok o) sound ok is known = reads_known f name a texts o sound ok is known
ok_reads f name a texts (Err e) sound ok is known = tt

by_reading : {X : Type 0} (f : Form) (words : List Word) (o : Option ArgMatches) → Reads f words o → (G : ArgMatches → Option X) (H : List Item → Option X) → ((m : ArgMatches) (h : Answers f words m) → G m ≡ H h.said)
    → option_and_then G o ≡ option_and_then H (reading f words)
by_reading f words None reads G H same = sym (ap (option_and_then H) reads)
by_reading f words (Some m) reads G H same = same m reads ∙ sym (ap (option_and_then H) reads.read)

pub analyse_reads : (words : List Word) (o : Option ArgMatches) → Reads analyse_form words o → option_and_then (λ m. analyse_by (first_value (found_of m) (codes "file")) (first_value (found_of m) (codes "budget"))) o ≡ analyse_of words
analyse_reads words o reads = by_reading analyse_form words o reads _ _ (λ m h. ap₂ analyse_by (h.place_value 0 (codes "file") refl) (h.option_value (codes "budget") refl))

pub run_reads : (words : List Word) (o : Option ArgMatches) → Reads run_form words o → option_and_then (λ m. run_by (first_value (found_of m) (codes "file")) (first_value (found_of m) (codes "schedule"))) o ≡ run_of words
run_reads words o reads = by_reading run_form words o reads _ _ (λ m h. ap₂ run_by (h.place_value 0 (codes "file") refl) (h.place_value 1 (codes "schedule") refl))

pub replay_reads : (words : List Word) (o : Option ArgMatches) → Reads replay_form words o → option_and_then (λ m. replay_by (first_value (found_of m) (codes "script"))) o ≡ replay_of words
replay_reads words o reads = by_reading replay_form words o reads _ _ (λ m h. ap replay_by (h.place_value 0 (codes "script") refl))

pub load_reads : (words : List Word) (o : Option ArgMatches) → Reads load_form words o → option_and_then (λ m. load_by (first_value (found_of m) (codes "number")) (first_value (found_of m) (codes "functions"))) o ≡ load_of words
load_reads words o reads = by_reading load_form words o reads _ _ (λ m h. ap₂ load_by (h.place_value 0 (codes "number") refl) (h.option_value (codes "functions") refl))

pub debug_reads : (words : List Word) (o : Option ArgMatches) → Reads analyse_form words o → option_and_then (λ m. debug_by (first_value (found_of m) (codes "file")) (first_value (found_of m) (codes "budget"))) o ≡ debug_of words
debug_reads words o reads = by_reading analyse_form words o reads _ _ (λ m h. ap₂ debug_by (h.place_value 0 (codes "file") refl) (h.option_value (codes "budget") refl))

pub serve_reads : (words : List Word) (o : Option ArgMatches) → Reads serve_form words o → option_and_then (λ m. serve_by (first_value (found_of m) (codes "file")) (first_value (found_of m) (codes "hands")) (first_value (found_of m) (codes "rounds")) (first_value (found_of m) (codes "port")) (first_value (found_of m) (codes "budget"))) o ≡ serve_of words
serve_reads words o reads = by_reading serve_form words o reads _ _ (λ m h. λ i. serve_by ((h.place_value 0 (codes "file") refl) i) ((h.option_value (codes "hands") refl) i) ((h.option_value (codes "rounds") refl) i) ((h.option_value (codes "port") refl) i) ((h.option_value (codes "budget") refl) i))

-- ---- the words as a whole

either_none : {X : Type 0} (b : Bool) (x y : Option X) → x ≡ None → y ≡ None → cond b x y ≡ None
either_none true x y e h = e
either_none false x y e h = h

unread : (words : List Word) (command : Word) → list_all goes_to_clap words ≡ false → command_reading (command ∷ words) ≡ None
unread words command bad =
    let no = λ (f : Form) (H : List Item → Option CommandLine). ap (option_and_then H) (unsaid f words bad) in
    either_none (bytes_eq command (codes "analyse")) _ _ (no analyse_form _)
    (either_none (bytes_eq command (codes "run")) _ _ (no run_form _)
    (either_none (bytes_eq command (codes "replay")) _ _ (no replay_form _)
    (either_none (bytes_eq command (codes "load")) _ _ (no load_form _)
    (either_none (bytes_eq command (codes "debug")) _ _ (no analyse_form _)
    (either_none (bytes_eq command (codes "serve")) _ _ (no serve_form _) refl)))))

-- what the code knows of the texts that it made of the words after the first
abbrev Texts : List Word → Option (List Word) → Type 0
Texts words texts = texts ≡ cond (list_all goes_to_clap words) (Some (codes "gobpie" ∷ words)) None

pub none_read : (words : List Word) (texts : Option (List Word)) → 1 ≤ length words → Texts (drop 1 words) texts → texts ≡ None → None ≡ command_reading words
none_read [] texts some made none = absurd (omega arith)
none_read (w ∷ words) texts some made none = go (list_all goes_to_clap words) refl (sym made ∙ none)
  where
    go : (b : Bool) → list_all goes_to_clap words ≡ b → cond b (Some (codes "gobpie" ∷ words)) None ≡ None → None ≡ command_reading (w ∷ words)
    go true is e = absurd (cc)
    go false is e = sym (unread words w is)

pub same_words : (words : List Word) (first : Word) (texts : Option (List Word)) (said : List Word) → 1 ≤ length words → first ≡ get_or words 0 first → Texts (drop 1 words) texts → texts ≡ Some said
    → first ∷ drop 1 said ≡ words
same_words [] first texts said some at made is = absurd (omega arith)
same_words (w ∷ words) first texts said some at made is = go (list_all goes_to_clap words) (sym made ∙ is)
  where
    go : (b : Bool) → cond b (Some (codes "gobpie" ∷ words)) None ≡ Some said → first ∷ drop 1 said ≡ w ∷ words
    go true e =
        let same : codes "gobpie" ∷ words ≡ said = cc in
        ap₂ (λ x (xs : List Word). x ∷ drop 1 xs) at (sym same)
    go false e = absurd (cc)

-- what the pattern `[command, rest @ ..]` binds
pub rest_is : (words : List Word) → take (length words - 1) (drop 1 words) ≡ drop 1 words
rest_is [] = refl
rest_is (w ∷ words) =
    let all : suc (length words) - 1 ≡ length words = omega arith in
    rw all (take_all words)
  where
    take_all : (xs : List Word) → take (length xs) xs ≡ xs
    take_all [] = refl
    take_all (x ∷ xs) = ap (λ (ys : List Word). x ∷ ys) (take_all xs)
