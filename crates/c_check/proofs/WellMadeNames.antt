-- What a name may mean in a well-made unit, and what each rule that is kept gives.
use Rattle.std.proofs.Common.{◌≡◌, refl, sym, ap, ◌∙◌, subst, ℕ, ◌<◌, ◌==◌, Bool, true, false, cond, not, ◌&&◌, List, [], ◌∷◌, ◌++◌, length, map, Option, None, Some, flat_map, nat_eq, nat_lt, slice_get, bytes_eq, lt-ltb, eq-eqb}
use Rattle.std.specs.List.{AllByRecursion, list_all}
use Rattle.std.specs.Option.{option_or, option_map, option_map_or}
use Rattle.std.proofs.lemmas.Bool.{and_parts, and_from, not_from_false, not-true, eqb-true}
use Rattle.std.proofs.lemmas.List.Folds.{list_all-map}
use Rattle.std.proofs.lemmas.List.{length-map}
use Rattle.std.proofs.lemmas.Option.{slice_get_within}
use Rattle.std.proofs.lemmas.Slice.Eq.{bytes_eq-Decides}
use Rattle.gob_tree.specs.Widths.{same_width, returned_width}
use Rattle.gob_tree.specs.WellMade.{is_int, is_thread, is_local, is_called, is_function, is_made_expr, expr_step, made_step}
use Rattle.gob_tree.specs.declared.place.Place.{Place}
use Rattle.gob_tree.specs.declared.expr.Width.{Width}
use Rattle.gob_tree.specs.declared.expr.Width.TheVariants.{W32, W64}
use Rattle.gob_tree.specs.declared.expr.Expr.{Expr}
use Rattle.gob_tree.specs.declared.stmt.Stmt.TheOpen.{Stmt-F}
use Rattle.gob_tree.specs.declared.unit.FuncKind.{FuncKind}
use Rattle.gob_tree.specs.declared.unit.FuncKind.TheVariants.{Int, Void, Thread}
use Rattle.gob_tree.specs.declared.unit.Function.{Function}
use Rattle.gob_tree.specs.declared.unit.GlobalDecl.{GlobalDecl}
use Rattle.gob_tree.specs.declared.unit.Unit.{Unit as TranslationUnit}
use Rattle.gob_tree.proofs.Folds as tree
use Rattle.c_check.specs.declared.fault.FrontKind.{FrontKind}
use Rattle.c_check.specs.declared.meaning.Callee.{Callee}
use Rattle.c_check.specs.declared.meaning.Declared.{Declared}
use Rattle.c_check.specs.declared.meaning.Meaning.{Meaning}
use Rattle.c_check.specs.declared.meaning.Meaning.TheVariants as meanings
use Rattle.c_check.specs.Faults.{asks}
use Rattle.c_check.specs.Names.{is_main, FileNames, BodyNames, named, file_meaning, meaning}
use Rattle.c_check.specs.Rules.{is_number, is_thread_variable, is_mutex, is_thread_function, gives_number, is_callable, use_faults, call_faults}
use Rattle.c_check.specs.Bodies.{variable_of, call_of, target_of, function_number, thread_number, mutex_number}

-- ---- no faults

pub nil_left : {A : Type 0} (xs ys : List A) → xs ++ ys ≡ [] → xs ≡ []
nil_left [] ys e = refl
nil_left (x ∷ xs) ys e = cc

pub nil_right : {A : Type 0} (xs ys : List A) → xs ++ ys ≡ [] → ys ≡ []
nil_right [] ys e = e
nil_right (x ∷ xs) ys e = cc

pub asks_true : (b : Bool) (kind : FrontKind) (place : Place) → asks b kind place ≡ [] → b ≡ true
asks_true true kind place e = refl
asks_true false kind place e = cc

pub each_nil : {A B : Type 0} (g : A → List B) (xs : List A) → flat_map g xs ≡ [] → AllByRecursion (λ x. g x ≡ []) xs
each_nil g [] e = tt
each_nil g (x ∷ xs) e = (nil_left (g x) (flat_map g xs) e, each_nil g xs (nil_right (g x) (flat_map g xs) e))

pub each_mapped_nil : {A B : Type 0} (g : A → List B) (xs : List A) → flat_map (λ ys. ys) (map g xs) ≡ [] → AllByRecursion (λ x. g x ≡ []) xs
each_mapped_nil g [] e = tt
each_mapped_nil g (x ∷ xs) e = (nil_left (g x) _ e, each_mapped_nil g xs (nil_right (g x) _ e))

pub same_width_of : (a b : Width) → a ≡ b → same_width a b ≡ true
same_width_of W32 W32 e = refl
same_width_of W32 W64 e = cc
same_width_of W64 W32 e = cc
same_width_of W64 W64 e = refl

-- ---- meanings

-- a global of the unit, with its width
pub record IsGlobal (unit : TranslationUnit) (g : ℕ) (w : Width) : Type 0 where
  pub declared : GlobalDecl
  pub there : slice_get unit.globals g ≡ Some declared
  pub width : declared.width ≡ w

-- a function of the unit, as a call by that name has to know it
pub record IsCallee (unit : TranslationUnit) (x : List ℕ) (c : Callee) : Type 0 where
  pub called : Function
  pub there : slice_get unit.funcs c.number ≡ Some called
  pub kind : called.kind ≡ c.kind
  pub width : returned_width called.slots ≡ c.width
  pub counts : is_thread c.kind ≡ false → c.params ≡ called.params
  pub not_main : is_main x ≡ false → nat_eq c.number unit.main ≡ false

abbrev pub Means : TranslationUnit → Function → List ℕ → Meaning → Type 0
Means unit f x (meanings.Local n) = is_local f n ≡ true
Means unit f x (meanings.Thread t) = nat_lt t (length f.threads) ≡ true
Means unit f x meanings.Argument = Unit {0}
Means unit f x (meanings.Global g w) = IsGlobal unit g w
Means unit f x (meanings.Mutex m) = nat_lt m (length unit.mutexes) ≡ true
Means unit f x (meanings.Function c) = IsCallee unit x c
Means unit f x (meanings.Arbitrary w) = Unit {0}

abbrev pub Told : {A : Type 0} → (A → Type 0) → Option A → Type 0
Told P None = Unit {0}
Told P (Some a) = P a

-- what a declaration in the function may mean
abbrev pub Seen : Function → Meaning → Type 0
Seen f (meanings.Local n) = is_local f n ≡ true
Seen f (meanings.Thread t) = nat_lt t (length f.threads) ≡ true
Seen f meanings.Argument = Unit {0}
Seen f other = ⊥

seen_means : (unit : TranslationUnit) (f : Function) (x : List ℕ) (m : Meaning) → Seen f m → Means unit f x m
seen_means unit f x (meanings.Local n) h = h
seen_means unit f x (meanings.Thread t) h = h
seen_means unit f x meanings.Argument h = tt
seen_means unit f x other h = absurd h

cond_told : {A : Type 0} (P : A → Type 0) (b : Bool) (o p : Option A) → (b ≡ true → Told P o) → Told P p → Told P (cond b o p)
cond_told P true o p h g = h refl
cond_told P false o p h g = g

pub same_text : (x y : List ℕ) → bytes_eq x y ≡ true → x ≡ y
same_text x y e = (bytes_eq-Decides x y).0 e

pub lookup_told : {A : Type 0} (P : List ℕ → A → Type 0) (x : List ℕ) (es : List (List ℕ × A)) → AllByRecursion (λ e. P e.0 e.1) es → Told (P x) (named x es)
lookup_told P x [] all = tt
lookup_told {A} P x (e ∷ es) all =
    cond_told (P x) (bytes_eq x e.0) (Some e.1) (named x es) (λ same. subst (λ (y : List ℕ). P y e.1) (sym (same_text x e.0 same)) all.0) (lookup_told P x es all.1)

or_told : (unit : TranslationUnit) (f : Function) (x : List ℕ) (o : Option Declared) (p : Option Meaning) → Told (λ d. Seen f d.meaning) o → Told (Means unit f x) p → Told (Means unit f x) (option_or (option_map (λ d. d.meaning) o) p)
or_told unit f x None p h g = g
or_told unit f x (Some d) p h g = seen_means unit f x d.meaning h

-- what the items of the unit declare fits it
abbrev pub FileFits : TranslationUnit → Function → FileNames → Type 0
FileFits unit f file = (x : List ℕ) → Told (Means unit f x) (file_meaning file x)

-- what is declared at a place of the function fits it
pub record Fine (f : Function) (body : BodyNames) : Type 0 where
  pub kind : body.kind ≡ f.kind
  pub begun : 0 < length body.slots
  pub visible : AllByRecursion (λ (e : List ℕ × Declared). Seen f e.1.meaning) body.visible

pub means : (unit : TranslationUnit) (f : Function) (file : FileNames) (body : BodyNames) → FileFits unit f file → Fine f body → (x : List ℕ) → Told (Means unit f x) (meaning file body x)
means unit f file body fits fine x =
    or_told unit f x (named x body.visible) (file_meaning file x) (lookup_told (λ y d. Seen f d.meaning) x body.visible fine.visible) (fits x)

-- ---- uses

global_made : (unit : TranslationUnit) (g : ℕ) (w : Width) → IsGlobal unit g w → option_map_or (λ decl. same_width decl.width w) (slice_get unit.globals g) false ≡ true
global_made unit g w t = ap (λ (o : Option GlobalDecl). option_map_or (λ decl. same_width decl.width w) o false) t.there ∙ same_width_of t.declared.width w t.width

called_fits : (unit : TranslationUnit) (x : List ℕ) (c : Callee) (t : IsCallee unit x c) → is_thread c.kind ≡ false → is_main x ≡ false → (n : ℕ) → n ≡ c.params → (holds : Function → Bool) → holds t.called ≡ true → is_called unit c.number n holds ≡ true
called_fits unit x c t not_thread not_main n same holds h =
    and_from _ _ (not_from_false _ (t.not_main not_main))
    (ap (λ (o : Option Function). option_map_or (λ called. nat_eq n called.params && holds called) o false) t.there
    ∙ and_from _ _ (eq-eqb n t.called.params (same ∙ t.counts not_thread)) h)

is_int_not_thread : (k : FuncKind) → is_int k ≡ true → is_thread k ≡ false
is_int_not_thread Int e = refl
is_int_not_thread Void e = refl
is_int_not_thread Thread e = cc

module _ (unit : TranslationUnit) (f : Function) (x : List ℕ) (place : Place) where
  pub number_made : (m : Option Meaning) → Told (Means unit f x) m → use_faults is_number place m ≡ [] → is_made_expr unit f (variable_of m) ≡ true
  number_made None t n = cc
  number_made (Some (meanings.Local y)) t n = tree.fold-Local Bool (expr_step unit f) y ∙ t
  number_made (Some (meanings.Global g w)) t n = tree.fold-Global Bool (expr_step unit f) g w ∙ global_made unit g w t
  number_made (Some other) t n = cc

  pub target_made : (m : Option Meaning) (e : Expr) (inside : Bool) → Told (Means unit f x) m → use_faults is_number place m ≡ [] → is_made_expr unit f e ≡ true → made_step unit f (Stmt-F.Assign (target_of m) e) inside ≡ true
  target_made None e inside t n h = cc
  target_made (Some (meanings.Local y)) e inside t n h = and_from _ _ t h
  target_made (Some (meanings.Global g w)) e inside t n h = and_from _ _ (lt-ltb g (length unit.globals) (slice_get_within unit.globals g t.declared t.there)) h
  target_made (Some other) e inside t n h = cc

  pub thread_made : (m : Option Meaning) → Told (Means unit f x) m → use_faults is_thread_variable place m ≡ [] → nat_lt (thread_number m) (length f.threads) ≡ true
  thread_made None t n = cc
  thread_made (Some (meanings.Thread y)) t n = t
  thread_made (Some other) t n = cc

  pub mutex_made : (m : Option Meaning) → Told (Means unit f x) m → use_faults is_mutex place m ≡ [] → nat_lt (mutex_number m) (length unit.mutexes) ≡ true
  mutex_made None t n = cc
  mutex_made (Some (meanings.Mutex y)) t n = t
  mutex_made (Some other) t n = cc

  pub started_made : (m : Option Meaning) → Told (Means unit f x) m → use_faults is_thread_function place m ≡ [] → is_function unit (function_number m) (λ started. is_thread started.kind) ≡ true
  started_made None t n = cc
  started_made (Some (meanings.Function c)) t n =
      ap (λ (o : Option Function). option_map_or (λ started. is_thread started.kind) o false) t.there
      ∙ ap is_thread t.kind ∙ asks_true (is_thread c.kind) _ place n
  started_made (Some other) t n = cc

  pub call_made : (m : Option Meaning) (args : List Expr) (count : ℕ) → count ≡ length args → Told (Means unit f x) m → call_faults (gives_number x) count place m ≡ [] → list_all (is_made_expr unit f) args ≡ true → is_made_expr unit f (call_of m args) ≡ true
  call_made None args count same t n all = cc
  call_made (Some (meanings.Function c)) args count same t n all =
      let fits = and_parts _ _ (asks_true (is_int c.kind && not (is_main x)) _ place (nil_left _ _ n)) in
      let counted = eqb-true c.params count (asks_true (c.params == count) _ place (nil_right _ _ n)) in
      tree.fold-Call Bool (expr_step unit f) c.number c.width args
      ∙ and_from _ _
      (called_fits unit x c t (is_int_not_thread c.kind fits.0) (not-true (is_main x) fits.1) (length (map (is_made_expr unit f) args)) (length-map args (is_made_expr unit f) ∙ sym same ∙ sym counted)
      (λ called. is_int called.kind && same_width (returned_width called.slots) c.width)
      (and_from _ _ (ap is_int t.kind ∙ fits.0) (same_width_of _ c.width t.width)))
      (list_all-map (λ made. made) (is_made_expr unit f) args ∙ all)
  call_made (Some (meanings.Arbitrary w)) args count same t n all = tree.fold-Nondet Bool (expr_step unit f) w
  call_made (Some other) args count same t n all = cc

  pub plain_call_made : (m : Option Meaning) (args : List Expr) (count : ℕ) (inside : Bool) → count ≡ length args → Told (Means unit f x) m → call_faults (is_callable x) count place m ≡ [] → list_all (is_made_expr unit f) args ≡ true → made_step unit f (Stmt-F.CallOnly (function_number m) args) inside ≡ true
  plain_call_made None args count inside same t n all = cc
  plain_call_made (Some (meanings.Function c)) args count inside same t n all =
      let fits = and_parts _ _ (asks_true (not (is_thread c.kind) && not (is_main x)) _ place (nil_left _ _ n)) in
      let counted = eqb-true c.params count (asks_true (c.params == count) _ place (nil_right _ _ n)) in
      and_from _ _
      (called_fits unit x c t (not-true (is_thread c.kind) fits.0) (not-true (is_main x) fits.1) (length args) (sym same ∙ sym counted)
      (λ called. not (is_thread called.kind)) (ap (λ k. not (is_thread k)) t.kind ∙ fits.0))
      all
  plain_call_made (Some other) args count inside same t n all = cc
