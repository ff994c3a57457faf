-- The lines of threads.
use Rattle.std.proofs.Common.{◌≡◌, refl, sym, ap, ◌∙◌, ℕ, ℤ, zero, suc, ◌+◌, ◌-◌, ◌<◌, List, [], ◌∷◌, ◌++◌, append_assoc, length, drop, map, Option, None, Some, arith}
use Rattle.std.specs.Prelude.{option_map, slice_get, slice_index_or}
use Rattle.std.specs.Option.{option_map_or}
use Rattle.std.proofs.Math.Seq.{drop-cons}
use Rattle.std.proofs.lemmas.Option.{slice_get-map}
use Rattle.gob_tree.specs.declared.unit.Function.{Function}
use Rattle.gob_tree.specs.declared.unit.GlobalDecl.{GlobalDecl}
use Rattle.gob_tree.specs.Labels.{labels_of}
use Rattle.gob_tree.specs.declared.unit.Unit.{Unit as TranslationUnit}
use Rattle.c_meaning.specs.declared.config.Choice.{Choice}
use Rattle.c_meaning.specs.Config.{Config, slots_in}
use Rattle.c_meaning.specs.Demand.{value_at}
use Rattle.c_meaning.specs.Tree.{Frame, after_step}
use Rattle.c_meaning.specs.Run.{chosen, words_of}
use Rattle.tree_run.specs.Looking.{top_frame}
use Rattle.tree_run.specs.Viewing.{top_of}
use Rattle.run_lines.specs.Lines.{global_line, global_lines, slot_text, slots_text, thread_line, thread_lines}

pub next_thread_line : (unit : TranslationUnit) (c : Config Frame) (t count before : ℕ) → before < count
    → thread_lines unit c t (count - before) ≡ thread_line unit t (option_map top_of (top_frame c t)) ++ thread_lines unit c (t + 1) (count - (before + 1))
next_thread_line unit c t count before lt = let e : count - before ≡ suc (count - (before + 1)) = omega (arith, lt) in ap (thread_lines unit c t) e

-- a word for each choice
pub words_count : (unit : TranslationUnit) (c : Config Frame) (choices : List Choice) → length (words_of unit c choices) ≡ length choices
words_count unit c [] = refl
words_count unit c (choice ∷ choices) = ap suc (words_count unit (after_step c (chosen unit c choice)) choices)

-- one line more
pub line_more : (out new line rest all whole : List ℕ) → new ≡ out ++ line → all ≡ line ++ rest → out ++ all ≡ whole → new ++ rest ≡ whole
line_more out new line rest all whole e f inv = ap (λ (o : List ℕ). o ++ rest) e ∙ append_assoc out line rest ∙ ap (λ (l : List ℕ). out ++ l) (sym f) ∙ inv

drop_here : {A : Type 0} (xs : List A) (i : ℕ) (x : A) → i < length xs → x ≡ slice_index_or xs i x → drop i xs ≡ x ∷ drop (i + 1) xs
drop_here xs i x lt is =
    let more : suc i ≡ i + 1 = omega arith in
    drop-cons xs i x lt ∙ ap (λ y. y ∷ drop (suc i) xs) (sym is) ∙ ap (λ n. x ∷ drop n xs) more

pub next_global : (decls : List GlobalDecl) (values : List ℤ) (g : ℕ) (decl : GlobalDecl) → g < length decls → decl ≡ slice_index_or decls g decl
    → global_lines g (drop g decls) values ≡ global_line decl.name (value_at values g) ++ global_lines (g + 1) (drop (g + 1) decls) values
next_global decls values g decl lt is = ap (λ (l : List GlobalDecl). global_lines g l values) (drop_here decls g decl lt is)

pub next_slot : (labels : List (List ℕ)) (values : List ℤ) (x : ℕ) (label : List ℕ) → x < length labels → label ≡ slice_index_or labels x label
    → slots_text x (drop x labels) values ≡ slot_text label (value_at values x) ++ slots_text (x + 1) (drop (x + 1) labels) values
next_slot labels values x label lt is = ap (λ (l : List (List ℕ)). slots_text x l values) (drop_here labels x label lt is)

-- the labels at a function's number are those of its slots
pub labels_there : (funcs : List Function) (f : ℕ) → option_map_or (λ (all : List (List ℕ)). all) (slice_get (map (λ (g : Function). labels_of g.slots) funcs) f) [] ≡ labels_of (slots_in (λ (g : Function). g.slots) funcs f)
labels_there funcs f = ap (λ (o : Option (List (List ℕ))). option_map_or (λ (all : List (List ℕ)). all) o []) (slice_get-map (λ (g : Function). labels_of g.slots) funcs f) ∙ go (slice_get funcs f)
  where
    go : (o : Option Function) → option_map_or (λ (all : List (List ℕ)). all) (option_map (λ (g : Function). labels_of g.slots) o) [] ≡ labels_of (option_map_or (λ (g : Function). g.slots) o [])
    go None = refl
    go (Some g) = refl
