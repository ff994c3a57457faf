-- A unit without a fault is well made.
use Rattle.std.proofs.Common.{◌≡◌, ◌≢◌, refl, sym, ap, ◌∙◌, subst, ℕ, ℤ, ◌+◌, Bool, true, false, not, ◌||◌, List, [], ◌∷◌, ◌++◌, length, map, Option, Some, IsTrue, IsSomeAnd, AllPairs, slice_get, arith, length-append, lt-ltb}
use Rattle.std.specs.List.{AllByRecursion, list_all, list_any}
use Rattle.std.proofs.lemmas.Bool.{and_parts, or_parts, cond-false, not-true, eqb-true}
use Rattle.std.proofs.lemmas.List.Elements.{All-from_recursion}
use Rattle.std.proofs.lemmas.Option.{slice_get_within, get_or_from_slice_get}
use Rattle.std.proofs.lemmas.List.Kept.{AllPairs-cons}
use Rattle.gob_tree.specs.Widths.{fits, same_width, returned_width}
use Rattle.gob_tree.specs.WellMade.{is_int, is_thread, IsWellMade, IsWellMadeFunction}
use Rattle.gob_tree.specs.declared.place.Place.{Place}
use Rattle.gob_tree.specs.declared.expr.Width.{Width}
use Rattle.gob_tree.specs.declared.expr.Width.TheVariants.{W32, W64}
use Rattle.gob_tree.specs.declared.text.Text.{Text}
use Rattle.gob_tree.specs.declared.unit.FuncKind.{FuncKind}
use Rattle.gob_tree.specs.declared.unit.FuncKind.TheVariants.{Int, Void, Thread}
use Rattle.gob_tree.specs.declared.unit.Function.{Function}
use Rattle.gob_tree.specs.declared.unit.GlobalDecl.{GlobalDecl}
use Rattle.gob_tree.specs.declared.unit.Unit.{Unit as TranslationUnit}
use Rattle.c_parse.specs.declared.raw.expr.RawName.{RawName}
use Rattle.c_parse.specs.declared.raw.stmt.RawPlaced.{RawPlaced}
use Rattle.c_parse.specs.declared.raw.unit.RawHead.{RawHead}
use Rattle.c_parse.specs.declared.raw.unit.RawItem.{RawItem}
use Rattle.c_parse.specs.declared.raw.unit.RawItem.TheVariants as items
use Rattle.c_parse.specs.declared.raw.unit.RawUnit.{RawUnit}
use Rattle.c_check.specs.declared.meaning.Meaning.{Meaning}
use Rattle.c_check.specs.declared.meaning.Meaning.TheVariants as meanings
use Rattle.c_check.specs.declared.meaning.Signature.{Signature}
use Rattle.c_check.specs.Faults.{asks}
use Rattle.c_check.specs.Names.{is_main, is_arbitrary, FileNames, is_named, is_among}
use Rattle.c_check.specs.Spelled.{is_spelled_item, IsSpelled}
use Rattle.c_check.specs.Units.{is_main_head, is_defined, is_declared, main_faults, value_faults, item_faults, items_faults, definitions, prototypes, function_of, Made, after_item, after_items, nothing_made, made_of, unit_of, unit_faults, is_main_function}
use Rattle.c_check.proofs.WellMadeFunctions.{each_append, returned, function_made}
use Rattle.c_check.proofs.WellMadeItems.{Distinct, names, map_one_more, with_function_name, with_global_name, with_mutex_name, not_among, not_named, not_named_text, named_last, all_named_more, all_defined}
use Rattle.c_check.proofs.WellMadeNames.{nil_left, nil_right, asks_true, IsGlobal, FileFits}
use Rattle.c_check.proofs.WellMadeUnits.{carries, at_end, DefinedAs, ValueFits, MainFirst, first, found_first, protos_named, file_fits}

-- ---- `main`

abbrev IsMainOf : Function → Type 0
IsMainOf f = (f.kind ≡ Int) × (f.params ≡ 0) × (returned_width f.slots ≡ W32)

int_kind : (k : FuncKind) → is_int k ≡ true → k ≡ Int
int_kind Int h = refl
int_kind Void h = cc
int_kind Thread h = cc

int_not_thread : (k : FuncKind) → is_int k ≡ true → is_thread k ≡ false
int_not_thread Int h = refl
int_not_thread Void h = refl
int_not_thread Thread h = cc

width_is : (w : Width) → same_width w W32 ≡ true → w ≡ W32
width_is W32 h = refl
width_is W64 h = cc

implied : (b c : Bool) → (not b || c) ≡ true → b ≡ true → c ≡ true
implied true c h e = h
implied false c h e = cc

main_is : (file : FileNames) (h : RawHead) (end : Place) (body : List RawPlaced) → main_faults h ≡ [] → is_main h.name.text ≡ true → IsMainOf (function_of file h end body)
main_is file h end body none is =
    let head = and_parts _ _ (implied (is_main h.name.text) (is_main_head h) (asks_true _ _ h.name.place none) is) in
    let typed = and_parts _ _ head.0 in
    (int_kind h.kind typed.0, cond-false (is_thread h.kind) 0 (length h.params) (int_not_thread h.kind typed.0) ∙ eqb-true (length h.params) 0 head.1, returned file h end body ∙ width_is h.width typed.1)

-- ---- what is kept from item to item

pub record Sound (unit : TranslationUnit) (D P : List (List ℕ × Signature)) (a : Made) : Type 0 where
  pub definitions : a.names.definitions ≡ D
  pub prototypes : a.names.prototypes ≡ P
  pub values : AllByRecursion (λ (e : List ℕ × Meaning). ValueFits unit e.1) a.names.values
  pub functions : AllByRecursion (IsWellMadeFunction unit) a.funcs
  pub mains : AllByRecursion (λ (f : Function). is_main f.name ≡ true → IsMainOf f) a.funcs
  pub initials : AllByRecursion (λ (g : GlobalDecl). IsTrue (fits g.width g.initial)) a.globals
  pub distinct : Distinct (names a.funcs a.globals a.mutexes)
  pub defined : a.names.defined ≡ map (λ (f : Function). f.name) a.funcs
  pub globals_named : AllByRecursion (λ (g : GlobalDecl). is_named g.name a.names.values ≡ true) a.globals
  pub mutexes_named : AllByRecursion (λ (m : Text). is_named m a.names.values ≡ true) a.mutexes

-- the unit holds these globals and mutexes in front
record Holds (unit : TranslationUnit) (a : Made) : Type 0 where
  more_globals : List GlobalDecl
  globals : unit.globals ≡ a.globals ++ more_globals
  more_mutexes : List Text
  mutexes : unit.mutexes ≡ a.mutexes ++ more_mutexes

module _ (unit : TranslationUnit) (D P : List (List ℕ × Signature)) (main : MainFirst unit) (defs : AllByRecursion (λ (e : List ℕ × Signature). DefinedAs unit.funcs e.0 e.1) D) (protos : AllByRecursion (λ (e : List ℕ × Signature). is_arbitrary e.0 ≡ false → is_named e.0 D ≡ true) P) where
  apart : (a : Made) → Sound unit D P a → (x : List ℕ) → is_defined a.names x ≡ false → AllByRecursion (λ (y : List ℕ). x ≢ y) (names a.funcs a.globals a.mutexes)
  apart a s x h =
      let parts = or_parts _ _ h in
      let value = or_parts _ _ parts.0 in
      let fn = map (λ (f : Function). f.name) a.funcs in
      let gn = map (λ (g : GlobalDecl). g.name) a.globals in
      each_append (λ (y : List ℕ). x ≢ y) (fn ++ gn) a.mutexes
      (each_append (λ (y : List ℕ). x ≢ y) fn gn
      (not_among x fn (ap (λ (l : List (List ℕ)). is_among x l) (sym s.defined) ∙ parts.1))
      (not_named (λ (g : GlobalDecl). g.name) x a.names.values a.globals value.1 s.globals_named))
      (not_named_text x a.names.values a.mutexes value.1 s.mutexes_named)

  value_apart : (a : Made) → Sound unit D P a → (x : RawName) → value_faults a.names x ≡ [] → AllByRecursion (λ (y : List ℕ). x.text ≢ y) (names a.funcs a.globals a.mutexes)
  value_apart a s x none =
      let undeclared = or_parts _ _ (not-true (is_declared a.names x.text) (asks_true (not (is_declared a.names x.text)) _ x.place (nil_left _ _ none))) in
      apart a s x.text undeclared.0

  global_sound : (x : RawName) (w : Width) (v : ℤ) (literal : Place) (a : Made) → Sound unit D P a → item_faults a.names (items.Global x w v literal) ≡ [] → Holds unit (after_item (items.Global x w v literal) a) → Sound unit D P (after_item (items.Global x w v literal) a)
  global_sound x w v literal a s none holds =
      let g : GlobalDecl = record { name = x.text; width = w; initial = v } in
      let m = meanings.Global (length a.globals) w in
      let there : IsGlobal unit (length a.globals) w = record { declared = g; there = ap (λ (l : List GlobalDecl). slice_get l (length a.globals)) holds.globals ∙ at_end a.globals g holds.more_globals; width = refl } in
      record {
        definitions = s.definitions;
        prototypes = s.prototypes;
        values = each_append (λ (e : List ℕ × Meaning). ValueFits unit e.1) a.names.values ((x.text, m) ∷ []) s.values (there, tt);
        functions = s.functions;
        mains = s.mains;
        initials = each_append (λ (g : GlobalDecl). IsTrue (fits g.width g.initial)) a.globals (g ∷ []) s.initials (asks_true (fits w v) _ literal (nil_right _ _ none), tt);
        distinct = with_global_name a.funcs a.globals a.mutexes g s.distinct (value_apart a s x (nil_left _ _ none));
        defined = s.defined;
        globals_named = each_append (λ (g : GlobalDecl). is_named g.name (a.names.values ++ (x.text, m) ∷ []) ≡ true) a.globals (g ∷ []) (all_named_more (λ (g : GlobalDecl). g.name) a.names.values (x.text, m) a.globals s.globals_named) (named_last x.text a.names.values m, tt);
        mutexes_named = all_named_more (λ (t : Text). t) a.names.values (x.text, m) a.mutexes s.mutexes_named;
      }

  mutex_sound : (x : RawName) (a : Made) → Sound unit D P a → item_faults a.names (items.Mutex x) ≡ [] → Holds unit (after_item (items.Mutex x) a) → Sound unit D P (after_item (items.Mutex x) a)
  mutex_sound x a s none holds =
      let m = meanings.Mutex (length a.mutexes) in
      let counted : length unit.mutexes ≡ length a.mutexes + 1 + length holds.more_mutexes =
      ap (λ (l : List Text). length l) holds.mutexes ∙ length-append (a.mutexes ++ x.text ∷ []) holds.more_mutexes ∙ ap (λ (n : ℕ). n + length holds.more_mutexes) (length-append a.mutexes (x.text ∷ [])) in
      record {
        definitions = s.definitions;
        prototypes = s.prototypes;
        values = each_append (λ (e : List ℕ × Meaning). ValueFits unit e.1) a.names.values ((x.text, m) ∷ []) s.values (lt-ltb (length a.mutexes) (length unit.mutexes) (omega arith), tt);
        functions = s.functions;
        mains = s.mains;
        initials = s.initials;
        distinct = with_mutex_name a.funcs a.globals a.mutexes x.text s.distinct (value_apart a s x none);
        defined = s.defined;
        globals_named = all_named_more (λ (g : GlobalDecl). g.name) a.names.values (x.text, m) a.globals s.globals_named;
        mutexes_named = each_append (λ (t : Text). is_named t (a.names.values ++ (x.text, m) ∷ []) ≡ true) a.mutexes (x.text ∷ []) (all_named_more (λ (t : Text). t) a.names.values (x.text, m) a.mutexes s.mutexes_named) (named_last x.text a.names.values m, tt);
      }

  prototype_sound : (h : RawHead) (a : Made) → Sound unit D P a → Sound unit D P (after_item (items.Prototype h) a)
  prototype_sound h a s = record {
    definitions = s.definitions;
    prototypes = s.prototypes;
    values = s.values;
    functions = s.functions;
    mains = s.mains;
    initials = s.initials;
    distinct = s.distinct;
    defined = s.defined;
    globals_named = s.globals_named;
    mutexes_named = s.mutexes_named;
  }

  file_is_fit : (f : Function) (a : Made) → Sound unit D P a → FileFits unit f a.names
  file_is_fit f a s =
      file_fits unit f a.names main
      (subst (λ (d : List (List ℕ × Signature)). AllByRecursion (λ (e : List ℕ × Signature). DefinedAs unit.funcs e.0 e.1) d) (sym s.definitions) defs)
      (subst (λ (d : List (List ℕ × Signature)). AllByRecursion (λ (e : List ℕ × Signature). is_arbitrary e.0 ≡ false → is_named e.0 d ≡ true) a.names.prototypes) (sym s.definitions)
      (subst (λ (p : List (List ℕ × Signature)). AllByRecursion (λ (e : List ℕ × Signature). is_arbitrary e.0 ≡ false → is_named e.0 D ≡ true) p) (sym s.prototypes) protos))
      s.values

  function_sound : (h : RawHead) (end : Place) (body : List RawPlaced) (a : Made) → Sound unit D P a → item_faults a.names (items.Function h end body) ≡ [] → is_spelled_item (items.Function h end body) ≡ true → Sound unit D P (after_item (items.Function h end body) a)
  function_sound h end body a s none spelled =
      let f = function_of a.names h end body in
      let rest = nil_right (asks (not (is_defined a.names h.name.text)) _ h.name.place) _ none in
      let more = nil_right (main_faults h) _ rest in
      record {
        definitions = s.definitions;
        prototypes = s.prototypes;
        values = s.values;
        functions = each_append (IsWellMadeFunction unit) a.funcs (f ∷ []) s.functions (function_made a.names h end body unit (file_is_fit f a s) (and_parts _ _ spelled).1 (nil_right _ _ more), tt);
        mains = each_append (λ (f : Function). is_main f.name ≡ true → IsMainOf f) a.funcs (f ∷ []) s.mains (main_is a.names h end body (nil_left _ _ rest), tt);
        initials = s.initials;
        distinct = with_function_name a.funcs a.globals a.mutexes f s.distinct (apart a s h.name.text (not-true (is_defined a.names h.name.text) (asks_true (not (is_defined a.names h.name.text)) _ h.name.place (nil_left _ _ none))));
        defined = ap (λ (l : List (List ℕ)). l ++ h.name.text ∷ []) s.defined ∙ sym (map_one_more (λ (f : Function). f.name) a.funcs f);
        globals_named = s.globals_named;
        mutexes_named = s.mutexes_named;
      }

  module _ (final : Made) (globals : unit.globals ≡ final.globals) (mutexes : unit.mutexes ≡ final.mutexes) where
    holds : (rest : List RawItem) (a : Made) → after_items rest a ≡ final → Holds unit a
    holds rest a is =
        let c = carries rest a in
        record {
          more_globals = c.more_globals;
          globals = globals ∙ ap (λ (b : Made). b.globals) (sym is) ∙ c.globals;
          more_mutexes = c.more_mutexes;
          mutexes = mutexes ∙ ap (λ (b : Made). b.mutexes) (sym is) ∙ c.mutexes;
        }

    walk : (rest : List RawItem) (a : Made) → after_items rest a ≡ final → Sound unit D P a → items_faults rest a ≡ [] → list_all is_spelled_item rest ≡ true → Sound unit D P final
    walk [] a is s none spelled = subst (λ (b : Made). Sound unit D P b) is s
    walk (items.Global x w v literal ∷ rest) a is s none spelled =
        walk rest (after_item (items.Global x w v literal) a) is (global_sound x w v literal a s (nil_left _ _ none) (holds rest (after_item (items.Global x w v literal) a) is)) (nil_right _ _ none) (and_parts _ _ spelled).1
    walk (items.Mutex x ∷ rest) a is s none spelled =
        walk rest (after_item (items.Mutex x) a) is (mutex_sound x a s (nil_left _ _ none) (holds rest (after_item (items.Mutex x) a) is)) (nil_right _ _ none) (and_parts _ _ spelled).1
    walk (items.Prototype h ∷ rest) a is s none spelled =
        walk rest (after_item (items.Prototype h) a) is (prototype_sound h a s) (nil_right _ _ none) (and_parts _ _ spelled).1
    walk (items.Function h end body ∷ rest) a is s none spelled =
        walk rest (after_item (items.Function h end body) a) is (function_sound h end body a s (nil_left _ _ none) (and_parts _ _ spelled).0) (nil_right _ _ none) (and_parts _ _ spelled).1

-- ---- the whole unit

distinct_pairs : (xs : List (List ℕ)) → Distinct xs → AllPairs (λ (a b : List ℕ). a ≢ b) xs
distinct_pairs [] d = λ i j x before within. absurd (omega arith)
distinct_pairs (x ∷ xs) d = AllPairs-cons (λ (a b : List ℕ). a ≢ b) x xs (All-from_recursion (λ (y : List ℕ). x ≢ y) xs d.0) (distinct_pairs xs d.1)

each_at : {A : Type 0} (Q : A → Type 0) (xs : List A) (n : ℕ) (x : A) → AllByRecursion Q xs → slice_get xs n ≡ Some x → Q x
each_at Q xs n x all e =
    let within = slice_get_within xs n x e in
    subst Q (get_or_from_slice_get xs n x x e) (All-from_recursion Q xs all n x within)

pub made_unit : (raw : RawUnit) → IsSpelled raw.items → unit_faults raw ≡ [] → IsWellMade (unit_of raw)
made_unit raw spelled none =
    let unit = unit_of raw in
    let start = nothing_made raw.items in
    let checks = nil_left _ _ none in
    let has_main = asks_true (list_any is_main_function unit.funcs) _ _ (nil_left _ _ (nil_right (items_faults raw.items start) _ none)) in
    let main : MainFirst unit = λ g e. found_first is_main_function unit.funcs g e in
    let s : Sound unit (definitions 0 raw.items) (prototypes raw.items) (made_of raw) =
    walk unit (definitions 0 raw.items) (prototypes raw.items) main (all_defined raw.items start 0 refl) (protos_named (definitions 0 raw.items) raw.items start refl checks)
    (made_of raw) refl refl raw.items start refl
    (record { definitions = refl; prototypes = refl; values = tt; functions = tt; mains = tt; initials = tt; distinct = tt; defined = refl; globals_named = tt; mutexes_named = tt })
    checks spelled in
    let it = first is_main_function unit.funcs has_main in
    record {
      main_there = subst (λ (o : Option Function). IsSomeAnd o IsMainOf) (sym it.there) (each_at (λ (f : Function). is_main f.name ≡ true → IsMainOf f) unit.funcs unit.main it.found s.mains it.there it.passes);
      names_differ = distinct_pairs (names unit.funcs unit.globals unit.mutexes) s.distinct;
      functions = All-from_recursion (IsWellMadeFunction unit) unit.funcs s.functions;
      initials_fit = All-from_recursion (λ (g : GlobalDecl). IsTrue (fits g.width g.initial)) unit.globals s.initials;
    }
