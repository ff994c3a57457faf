-- What is kept from item to item of a unit without a fault.
use Rattle.std.proofs.Common.{◌≡◌, ◌≢◌, refl, sym, ap, ◌∙◌, subst, ℕ, ◌+◌, Bool, true, false, cond, List, [], ◌∷◌, ◌++◌, length, map, Option, None, Some, bytes_eq, slice_get, length-append, append_assoc, append-nil}
use Rattle.std.specs.List.{AllByRecursion}
use Rattle.std.specs.Option.{option_map_or}
use Rattle.std.proofs.lemmas.Bool.{or_parts, cond-false, true≢false}
use Rattle.std.proofs.lemmas.List.{length-map}
use Rattle.std.proofs.lemmas.Slice.Eq.{bytes_eq-Decides}
use Rattle.gob_tree.specs.WellMade.{is_thread}
use Rattle.gob_tree.specs.declared.text.Text.{Text}
use Rattle.gob_tree.specs.declared.unit.Function.{Function}
use Rattle.gob_tree.specs.declared.unit.GlobalDecl.{GlobalDecl}
use Rattle.c_parse.specs.declared.raw.unit.RawItem.{RawItem}
use Rattle.c_parse.specs.declared.raw.unit.RawItem.TheVariants as items
use Rattle.c_check.specs.declared.meaning.Meaning.{Meaning}
use Rattle.c_check.specs.declared.meaning.Signature.{Signature}
use Rattle.c_check.specs.Names.{named, is_named, is_among}
use Rattle.c_check.specs.Units.{definitions, function_of, Made, after_item, after_items}
use Rattle.c_check.proofs.WellMadeFunctions.{returned}
use Rattle.c_check.proofs.WellMadeUnits.{carries, at_end, DefinedAs}

-- ---- distinct names

abbrev pub Distinct : List (List ℕ) → Type 0
Distinct [] = Unit {0}
Distinct (x ∷ xs) = AllByRecursion (λ (y : List ℕ). x ≢ y) xs × Distinct xs

each_inserted : (P : List ℕ → Type 0) (xs ys : List (List ℕ)) (x : List ℕ) → AllByRecursion P (xs ++ ys) → P x → AllByRecursion P (xs ++ x ∷ ys)
each_inserted P [] ys x all h = (h, all)
each_inserted P (z ∷ xs) ys x all h = (all.0, each_inserted P xs ys x all.1 h)

distinct_inserted : (xs ys : List (List ℕ)) (x : List ℕ) → Distinct (xs ++ ys) → AllByRecursion (λ (y : List ℕ). x ≢ y) (xs ++ ys) → Distinct (xs ++ x ∷ ys)
distinct_inserted [] ys x d all = (all, d)
distinct_inserted (z ∷ xs) ys x d all = (each_inserted (λ (y : List ℕ). z ≢ y) xs ys x d.0 (λ e. all.0 (sym e)), distinct_inserted xs ys x d.1 all.1)

pub map_one_more : {A : Type 0} (n : A → List ℕ) (xs : List A) (x : A) → map n (xs ++ x ∷ []) ≡ map n xs ++ n x ∷ []
map_one_more n [] x = refl
map_one_more n (y ∷ xs) x = ap (λ (l : List (List ℕ)). n y ∷ l) (map_one_more n xs x)

-- the names of functions, globals and mutexes
abbrev pub names : List Function → List GlobalDecl → List Text → List (List ℕ)
names fs gs ms = map (λ (f : Function). f.name) fs ++ map (λ (g : GlobalDecl). g.name) gs ++ ms

module _ (fs : List Function) (gs : List GlobalDecl) (ms : List Text) where
  pub with_function_name : (f : Function) → Distinct (names fs gs ms) → AllByRecursion (λ (y : List ℕ). f.name ≢ y) (names fs gs ms) → Distinct (names (fs ++ f ∷ []) gs ms)
  with_function_name f d all =
      let fn = map (λ (f : Function). f.name) fs in
      let gn = map (λ (g : GlobalDecl). g.name) gs in
      let same = append_assoc fn gn ms in
      let inserted = distinct_inserted fn (gn ++ ms) f.name (subst Distinct same d) (subst (AllByRecursion (λ (y : List ℕ). f.name ≢ y)) same all) in
      subst Distinct (sym (ap (λ (l : List (List ℕ)). l ++ gn ++ ms) (map_one_more (λ (f : Function). f.name) fs f) ∙ append_assoc (fn ++ f.name ∷ []) gn ms ∙ append_assoc fn (f.name ∷ []) (gn ++ ms))) inserted

  pub with_global_name : (g : GlobalDecl) → Distinct (names fs gs ms) → AllByRecursion (λ (y : List ℕ). g.name ≢ y) (names fs gs ms) → Distinct (names fs (gs ++ g ∷ []) ms)
  with_global_name g d all =
      let fn = map (λ (f : Function). f.name) fs in
      let gn = map (λ (g : GlobalDecl). g.name) gs in
      let inserted = distinct_inserted (fn ++ gn) ms g.name d all in
      subst Distinct (sym (ap (λ (l : List (List ℕ)). fn ++ l ++ ms) (map_one_more (λ (g : GlobalDecl). g.name) gs g) ∙ ap (λ (l : List (List ℕ)). l ++ ms) (sym (append_assoc fn gn (g.name ∷ []))) ∙ append_assoc (fn ++ gn) (g.name ∷ []) ms)) inserted

  pub with_mutex_name : (m : Text) → Distinct (names fs gs ms) → AllByRecursion (λ (y : List ℕ). m ≢ y) (names fs gs ms) → Distinct (names fs gs (ms ++ m ∷ []))
  with_mutex_name m d all =
      let fn = map (λ (f : Function). f.name) fs in
      let gn = map (λ (g : GlobalDecl). g.name) gs in
      let same = sym (append-nil (names fs gs ms)) in
      let inserted = distinct_inserted (names fs gs ms) [] m (subst Distinct same d) (subst (AllByRecursion (λ (y : List ℕ). m ≢ y)) same all) in
      subst Distinct (append_assoc (fn ++ gn) ms (m ∷ [])) inserted

-- ---- a name that is not declared yet

not_same : (x y : List ℕ) → bytes_eq x y ≡ false → x ≢ y
not_same x y h e = true≢false (sym ((bytes_eq-Decides x y).1 e) ∙ h)

pub not_among : (x : List ℕ) (ys : List (List ℕ)) → is_among x ys ≡ false → AllByRecursion (λ (y : List ℕ). x ≢ y) ys
not_among x [] h = tt
not_among x (y ∷ ys) h = let apart = or_parts _ _ h in (not_same x y apart.0, not_among x ys apart.1)

pub not_named : {A : Type 0} (n : A → List ℕ) (x : List ℕ) (values : List (List ℕ × Meaning)) (xs : List A) → is_named x values ≡ false → AllByRecursion (λ (a : A). is_named (n a) values ≡ true) xs → AllByRecursion (λ (y : List ℕ). x ≢ y) (map n xs)
not_named n x values [] h all = tt
not_named n x values (a ∷ xs) h all = (λ e. true≢false (sym all.0 ∙ ap (λ (y : List ℕ). is_named y values) (sym e) ∙ h), not_named n x values xs h all.1)

pub not_named_text : (x : List ℕ) (values : List (List ℕ × Meaning)) (xs : List Text) → is_named x values ≡ false → AllByRecursion (λ (m : Text). is_named m values ≡ true) xs → AllByRecursion (λ (y : List ℕ). x ≢ y) xs
not_named_text x values [] h all = tt
not_named_text x values (a ∷ xs) h all = (λ e. true≢false (sym all.0 ∙ ap (λ (y : List ℕ). is_named y values) (sym e) ∙ h), not_named_text x values xs h all.1)

abbrev is_there : Option Meaning → Bool
is_there o = option_map_or (λ a. true) o false

cond_there : (b : Bool) (o p q : Option Meaning) → (is_there p ≡ true → is_there q ≡ true) → is_there (cond b o p) ≡ true → is_there (cond b o q) ≡ true
cond_there true o p q h g = g
cond_there false o p q h g = h g

pub named_more : (y : List ℕ) (es : List (List ℕ × Meaning)) (e : List ℕ × Meaning) → is_named y es ≡ true → is_named y (es ++ e ∷ []) ≡ true
named_more y [] e h = cc
named_more y (d ∷ es) e h = cond_there (bytes_eq y d.0) (Some d.1) (named y es) (named y (es ++ e ∷ [])) (named_more y es e) h

cond_either : (b : Bool) (m : Meaning) (q : Option Meaning) → is_there q ≡ true → is_there (cond b (Some m) q) ≡ true
cond_either true m q h = refl
cond_either false m q h = h

pub named_last : (x : List ℕ) (es : List (List ℕ × Meaning)) (m : Meaning) → is_named x (es ++ (x, m) ∷ []) ≡ true
named_last x [] m = ap (λ (b : Bool). is_there (cond b (Some m) None)) ((bytes_eq-Decides x x).1 refl)
named_last x (d ∷ es) m = cond_either (bytes_eq x d.0) d.1 (named x (es ++ (x, m) ∷ [])) (named_last x es m)

pub all_named_more : {A : Type 0} (n : A → List ℕ) (es : List (List ℕ × Meaning)) (e : List ℕ × Meaning) (xs : List A) → AllByRecursion (λ (a : A). is_named (n a) es ≡ true) xs → AllByRecursion (λ (a : A). is_named (n a) (es ++ e ∷ []) ≡ true) xs
all_named_more n es e [] all = tt
all_named_more n es e (a ∷ xs) all = (named_more (n a) es e all.0, all_named_more n es e xs all.1)

-- ---- the functions by name

pub all_defined : (rest : List RawItem) (a : Made) (n : ℕ) → n ≡ length a.funcs → AllByRecursion (λ (e : List ℕ × Signature). DefinedAs (after_items rest a).funcs e.0 e.1) (definitions n rest)
all_defined [] a n same = tt
all_defined (items.Global x w v literal ∷ rest) a n same = all_defined rest (after_item (items.Global x w v literal) a) n same
all_defined (items.Mutex x ∷ rest) a n same = all_defined rest (after_item (items.Mutex x) a) n same
all_defined (items.Prototype h ∷ rest) a n same = all_defined rest (after_item (items.Prototype h) a) n same
all_defined (items.Function h end body ∷ rest) a n same =
    let next = after_item (items.Function h end body) a in
    let f = function_of a.names h end body in
    let later = carries rest next in (
      record {
        defined = f;
        there = ap (λ (k : ℕ). slice_get (after_items rest next).funcs k) same ∙ ap (λ (l : List Function). slice_get l (length a.funcs)) later.funcs ∙ at_end a.funcs f later.more_funcs;
        name = refl;
        kind = refl;
        width = returned a.names h end body;
        counts = λ not_thread. length-map h.params _ ∙ sym (cond-false (is_thread h.kind) 0 (length h.params) not_thread);
      },
      all_defined rest next (n + 1) (ap (λ (k : ℕ). k + 1) same ∙ sym (length-append a.funcs (f ∷ []))),
    )
