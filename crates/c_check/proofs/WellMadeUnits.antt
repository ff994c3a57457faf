-- What the items of a unit without a fault declare: each function, global and mutex is what its name is told to be.
use Rattle.std.proofs.Common.{◌≡◌, refl, sym, ap, ◌∙◌, subst, ℕ, suc, ◌+◌, Bool, true, false, cond, not, ◌||◌, List, [], ◌∷◌, ◌++◌, length, Option, None, Some, nat_eq, nat_lt, slice_get, arith, append_assoc, append-nil}
use Rattle.std.specs.List.{AllByRecursion, list_any, position_or_len}
use Rattle.std.specs.Option.{option_or, option_map, option_map_or}
use Rattle.std.proofs.lemmas.Bool.{and_parts, and_left, cond-false, false_from_ne_true, eqb-true, true≢false}
use Rattle.std.proofs.lemmas.List.Sums.{passes_at_first}
use Rattle.std.proofs.lemmas.Option.{slice_get_within, get_or_from_slice_get}
use Rattle.gob_tree.specs.Widths.{returned_width}
use Rattle.gob_tree.specs.WellMade.{is_thread}
use Rattle.gob_tree.specs.declared.expr.Width.{Width}
use Rattle.gob_tree.specs.declared.text.Text.{Text}
use Rattle.gob_tree.specs.declared.unit.Function.{Function}
use Rattle.gob_tree.specs.declared.unit.GlobalDecl.{GlobalDecl}
use Rattle.gob_tree.specs.declared.unit.Unit.{Unit as TranslationUnit}
use Rattle.c_parse.specs.declared.raw.unit.RawHead.{RawHead}
use Rattle.c_parse.specs.declared.raw.unit.RawItem.{RawItem}
use Rattle.c_parse.specs.declared.raw.unit.RawItem.TheVariants as items
use Rattle.c_check.specs.declared.meaning.Meaning.{Meaning}
use Rattle.c_check.specs.declared.meaning.Meaning.TheVariants as meanings
use Rattle.c_check.specs.declared.meaning.Signature.{Signature}
use Rattle.c_check.specs.Names.{is_main, is_arbitrary, arbitrary_width, FileNames, named, is_named, callee}
use Rattle.c_check.specs.Units.{is_dropped, has_definition, prototype_faults, prototypes, Made, after_item, after_items, items_faults, function_of}
use Rattle.c_check.proofs.WellMadeNames.{nil_left, nil_right, asks_true, IsGlobal, IsCallee, Means, Told, lookup_told, FileFits}

-- ---- what is made stays

pub record Carries (a b : Made) : Type 0 where
  pub definitions : b.names.definitions ≡ a.names.definitions
  pub prototypes : b.names.prototypes ≡ a.names.prototypes
  pub more_funcs : List Function
  pub funcs : b.funcs ≡ a.funcs ++ more_funcs
  pub more_globals : List GlobalDecl
  pub globals : b.globals ≡ a.globals ++ more_globals
  pub more_mutexes : List Text
  pub mutexes : b.mutexes ≡ a.mutexes ++ more_mutexes

carries_none : (a : Made) → Carries a a
carries_none a = record {
  definitions = refl;
  prototypes = refl;
  more_funcs = [];
  funcs = sym (append-nil a.funcs);
  more_globals = [];
  globals = sym (append-nil a.globals);
  more_mutexes = [];
  mutexes = sym (append-nil a.mutexes);
}

item_carries : (item : RawItem) (a : Made) → Carries a (after_item item a)
item_carries (items.Global x w v literal) a = record {
  definitions = refl;
  prototypes = refl;
  more_funcs = [];
  funcs = sym (append-nil a.funcs);
  more_globals = record { name = x.text; width = w; initial = v } ∷ [];
  globals = refl;
  more_mutexes = [];
  mutexes = sym (append-nil a.mutexes);
}
item_carries (items.Mutex x) a = record {
  definitions = refl;
  prototypes = refl;
  more_funcs = [];
  funcs = sym (append-nil a.funcs);
  more_globals = [];
  globals = sym (append-nil a.globals);
  more_mutexes = x.text ∷ [];
  mutexes = refl;
}
item_carries (items.Prototype h) a = record {
  definitions = refl;
  prototypes = refl;
  more_funcs = [];
  funcs = sym (append-nil a.funcs);
  more_globals = [];
  globals = sym (append-nil a.globals);
  more_mutexes = [];
  mutexes = sym (append-nil a.mutexes);
}
item_carries (items.Function h end body) a = record {
  definitions = refl;
  prototypes = refl;
  more_funcs = function_of a.names h end body ∷ [];
  funcs = refl;
  more_globals = [];
  globals = sym (append-nil a.globals);
  more_mutexes = [];
  mutexes = sym (append-nil a.mutexes);
}

longer : {A : Type 0} (xs ys zs more last : List A) → ys ≡ xs ++ more → zs ≡ ys ++ last → zs ≡ xs ++ (more ++ last)
longer xs ys zs more last e h = h ∙ ap (λ (l : List _). l ++ last) e ∙ append_assoc xs more last

carries_then : (a b c : Made) → Carries a b → Carries b c → Carries a c
carries_then a b c g h = record {
  definitions = h.definitions ∙ g.definitions;
  prototypes = h.prototypes ∙ g.prototypes;
  more_funcs = g.more_funcs ++ h.more_funcs;
  funcs = longer a.funcs b.funcs c.funcs g.more_funcs h.more_funcs g.funcs h.funcs;
  more_globals = g.more_globals ++ h.more_globals;
  globals = longer a.globals b.globals c.globals g.more_globals h.more_globals g.globals h.globals;
  more_mutexes = g.more_mutexes ++ h.more_mutexes;
  mutexes = longer a.mutexes b.mutexes c.mutexes g.more_mutexes h.more_mutexes g.mutexes h.mutexes;
}

pub carries : (rest : List RawItem) (a : Made) → Carries a (after_items rest a)
carries [] a = carries_none a
carries (item ∷ rest) a = carries_then a (after_item item a) _ (item_carries item a) (carries rest (after_item item a))

pub at_end : {A : Type 0} (xs : List A) (y : A) (more : List A) → slice_get ((xs ++ y ∷ []) ++ more) (length xs) ≡ Some y
at_end [] y more = refl
at_end (x ∷ xs) y more = at_end xs y more

-- ---- the functions by name

pub record DefinedAs (fs : List Function) (y : List ℕ) (s : Signature) : Type 0 where
  pub defined : Function
  pub there : slice_get fs s.number ≡ Some defined
  pub name : defined.name ≡ y
  pub kind : defined.kind ≡ s.kind
  pub width : returned_width defined.slots ≡ s.width
  pub counts : is_thread s.kind ≡ false → length s.params ≡ defined.params

-- ---- which function is `main`

pub found_first : {A : Type 0} (p : A → Bool) (xs : List A) (x : A) → slice_get xs (position_or_len p xs) ≡ Some x → p x ≡ true
found_first p xs x e =
    let i = position_or_len p xs in
    let within = slice_get_within xs i x e in
    ap p (sym (get_or_from_slice_get xs i x x e)) ∙ passes_at_first p xs x within

pub record First (A : Type 0) (p : A → Bool) (xs : List A) : Type 0 where
  pub found : A
  pub there : slice_get xs (position_or_len p xs) ≡ Some found
  pub passes : p found ≡ true

first_here : {A : Type 0} (p : A → Bool) (x : A) (xs : List A) (b : Bool) → p x ≡ b → (b ≡ false → First A p xs) → First A p (x ∷ xs)
first_here p x xs true e h = record { found = x; there = ap (λ (b : Bool). slice_get (x ∷ xs) (cond (not b) (1 + position_or_len p xs) 0)) e; passes = e }
first_here p x xs false e h =
    let rest = h refl in
    let one : 1 + position_or_len p xs ≡ suc (position_or_len p xs) = omega arith in
    record {
      found = rest.found;
      there = ap (λ (b : Bool). slice_get (x ∷ xs) (cond (not b) (1 + position_or_len p xs) 0)) e ∙ ap (λ (n : ℕ). slice_get (x ∷ xs) n) one ∙ rest.there;
      passes = rest.passes;
    }

or_second : (b c : Bool) → (b || c) ≡ true → b ≡ false → c ≡ true
or_second true c h e = cc
or_second false c h e = h

pub first : {A : Type 0} (p : A → Bool) (xs : List A) → list_any p xs ≡ true → First A p xs
first p [] h = cc
first p (x ∷ xs) h = first_here p x xs (p x) refl (λ not_here. first p xs (or_second (p x) (list_any p xs) h not_here))

-- ---- prototypes

proto_named : (file : FileNames) (h : RawHead) → prototype_faults file h ≡ [] → is_arbitrary h.name.text ≡ false → is_named h.name.text file.definitions ≡ true
proto_named file h none plain =
    let kept = sym (cond-false (is_dropped h) [] _ (and_left _ _ plain)) ∙ none in
    (and_parts _ _ (asks_true (has_definition file h.name.text) _ h.name.place (nil_left _ _ kept))).1

pub protos_named : (D : List (List ℕ × Signature)) (rest : List RawItem) (a : Made) → a.names.definitions ≡ D → items_faults rest a ≡ [] → AllByRecursion (λ (e : List ℕ × Signature). is_arbitrary e.0 ≡ false → is_named e.0 D ≡ true) (prototypes rest)
protos_named D [] a same none = tt
protos_named D (items.Global x w v literal ∷ rest) a same none = protos_named D rest (after_item (items.Global x w v literal) a) same (nil_right _ _ none)
protos_named D (items.Mutex x ∷ rest) a same none = protos_named D rest (after_item (items.Mutex x) a) same (nil_right _ _ none)
protos_named D (items.Prototype h ∷ rest) a same none = (
  λ plain. subst (λ (d : List (List ℕ × Signature)). is_named h.name.text d ≡ true) same (proto_named a.names h (nil_left _ _ none) plain),
  protos_named D rest (after_item (items.Prototype h) a) same (nil_right _ _ none),
)
protos_named D (items.Function h end body ∷ rest) a same none = protos_named D rest (after_item (items.Function h end body) a) same (nil_right _ _ none)

-- ---- what a name means outside of the functions

-- a global or a mutex of the unit
abbrev pub ValueFits : TranslationUnit → Meaning → Type 0
ValueFits unit (meanings.Global g w) = IsGlobal unit g w
ValueFits unit (meanings.Mutex m) = nat_lt m (length unit.mutexes) ≡ true
ValueFits unit other = ⊥

value_means : (unit : TranslationUnit) (f : Function) (x : List ℕ) (m : Meaning) → ValueFits unit m → Means unit f x m
value_means unit f x (meanings.Global g w) h = h
value_means unit f x (meanings.Mutex m) h = h
value_means unit f x other h = absurd h

abbrev pub MainFirst : TranslationUnit → Type 0
MainFirst unit = (g : Function) → slice_get unit.funcs unit.main ≡ Some g → is_main g.name ≡ true

is_callee : (unit : TranslationUnit) (x : List ℕ) (s : Signature) → MainFirst unit → DefinedAs unit.funcs x s → IsCallee unit x (callee s)
is_callee unit x s main d = record {
  called = d.defined;
  there = d.there;
  kind = d.kind;
  width = d.width;
  counts = d.counts;
  not_main = λ no. false_from_ne_true (nat_eq s.number unit.main) (λ same.
      true≢false (sym (main d.defined (ap (λ (n : ℕ). slice_get unit.funcs n) (sym (eqb-true s.number unit.main same)) ∙ d.there)) ∙ ap is_main d.name ∙ no));
}

arbitrary_none : (o : Option Width) → o ≡ None → option_map_or (λ w. true) o false ≡ false
arbitrary_none None e = refl
arbitrary_none (Some w) e = cc

none_unnamed : (o : Option Signature) → o ≡ None → option_map_or (λ a. true) o false ≡ true → ⊥
none_unnamed None e h = cc
none_unnamed (Some s) e h = cc

module _ (unit : TranslationUnit) (f : Function) (x : List ℕ) where
  function_told : (main : MainFirst unit) (D : List (List ℕ × Signature)) (o p : Option Signature) → named x D ≡ o → Told (DefinedAs unit.funcs x) o → Told (λ (s : Signature). is_named x D ≡ true) p → Told (Means unit f x) (option_map (λ s. meanings.Function (callee s)) (option_or o p))
  function_told main D (Some s) p e h g = is_callee unit x s main h
  function_told main D None None e h g = tt
  function_told main D None (Some s) e h g = absurd (none_unnamed (named x D) e g)

  value_told : (o : Option Meaning) (p : Option Meaning) → Told (ValueFits unit) o → Told (Means unit f x) p → Told (Means unit f x) (option_or o p)
  value_told (Some m) p h g = value_means unit f x m h
  value_told None p h g = g

  outside_told : (o : Option Width) (p : Option Meaning) → (o ≡ None → Told (Means unit f x) p) → Told (Means unit f x) (option_or (option_map meanings.Arbitrary o) p)
  outside_told (Some w) p h = tt
  outside_told None p h = h refl

  weaker : (D P : List (List ℕ × Signature)) → is_arbitrary x ≡ false → Told (λ (s : Signature). is_arbitrary x ≡ false → is_named x D ≡ true) (named x P) → Told (λ (s : Signature). is_named x D ≡ true) (named x P)
  weaker D P plain h = apply (named x P) h
    where
      apply : (o : Option Signature) → Told (λ (s : Signature). is_arbitrary x ≡ false → is_named x D ≡ true) o → Told (λ (s : Signature). is_named x D ≡ true) o
      apply None h = tt
      apply (Some s) h = h plain

pub file_fits : (unit : TranslationUnit) (f : Function) (file : FileNames) → MainFirst unit → AllByRecursion (λ (e : List ℕ × Signature). DefinedAs unit.funcs e.0 e.1) file.definitions → AllByRecursion (λ (e : List ℕ × Signature). is_arbitrary e.0 ≡ false → is_named e.0 file.definitions ≡ true) file.prototypes → AllByRecursion (λ (e : List ℕ × Meaning). ValueFits unit e.1) file.values → FileFits unit f file
file_fits unit f file main defs protos values x =
    outside_told unit f x (arbitrary_width x) _ (λ none.
    value_told unit f x (named x file.values) _ (lookup_told (λ y m. ValueFits unit m) x file.values values)
    (function_told unit f x main file.definitions (named x file.definitions) (named x file.prototypes) refl
    (lookup_told (DefinedAs unit.funcs) x file.definitions defs)
    (weaker unit f x file.definitions file.prototypes (arbitrary_none (arbitrary_width x) none)
    (lookup_told (λ y s. is_arbitrary y ≡ false → is_named y file.definitions ≡ true) x file.prototypes protos))))
