-- What the tests of a well-made unit say, and how facts of slots stay where slots are added.
use Rattle.std.proofs.Common.{◌≡◌, ◌≢◌, refl, sym, ap, ◌∙◌, subst, ℕ, zero, suc, ◌+◌, ◌<◌, ◌≤◌, Bool, true, false, List, [], ◌∷◌, ◌++◌, length, map, Option, None, Some, arith, length-append}
use Rattle.std.specs.Prelude.{not, ◌&&◌, if◌then◌else◌, nat_eq, slice_get, All, IsSomeAnd, IsTrue}
use Rattle.std.specs.List.{list_all, list_any, AllByRecursion}
use Rattle.std.specs.Option.{option_map, option_map_or}
use Rattle.std.proofs.lemmas.Bool.{ltb-true, lt-ltb, eqb-true, eq-eqb}
use Rattle.std.proofs.lemmas.List.{length-map}
use Rattle.std.proofs.lemmas.Option.{slice_get-map, slice_get_within, get_or_from_slice_get}
use Rattle.gob_tree.specs.Formed.{is_plain, plain_step}
use Rattle.gob_tree.specs.Widths.{same_width, returned_width}
use Rattle.gob_tree.specs.WellMade.{IsWellMade, IsWellMadeFunction, is_int, is_thread, is_called}
use Rattle.gob_tree.specs.declared.expr.Width.{Width}
use Rattle.gob_tree.specs.declared.expr.Width.TheVariants.{W32, W64}
use Rattle.gob_tree.specs.declared.expr.Expr.{Expr, Local}
use Rattle.gob_tree.specs.declared.unit.FuncKind.{FuncKind}
use Rattle.gob_tree.specs.declared.unit.FuncKind.TheVariants.{Int, Void, Thread}
use Rattle.gob_tree.specs.declared.unit.Function.{Function}
use Rattle.gob_tree.specs.declared.unit.GlobalDecl.{GlobalDecl}
use Rattle.gob_tree.specs.declared.unit.Slot.{Slot}
use Rattle.gob_tree.specs.declared.unit.Unit.{Unit as TranslationUnit}
use Rattle.gob_tree.specs.declared.graph.FuncGraph.{FuncGraph}
use Rattle.gob_tree.proofs.Folds.{fold-Number, fold-Local, fold-Global, fold-Nondet, fold-Unary, fold-Binary, fold-Call}
use Rattle.gob_tree.proofs.Induct.{Each, by_forms}
use Rattle.c_meaning.specs.Demand.{slot_width}
use Rattle.c_meaning.specs.Config.{global_width}
use Rattle.c_meaning.specs.Graph.{HoistState, free_from, free_temp, number_or_next, taking, with_temp, temp_slot, temporary, slots_with, graph_of, program_of}

-- ---- tests

pub both_true : (a b : Bool) → IsTrue (a && b) → IsTrue a × IsTrue b
both_true true b h = (refl, h)
both_true false b h = absurd (cc)

pub both : (a b : Bool) → IsTrue a → IsTrue b → IsTrue (a && b)
both true b h k = k
both false b h k = absurd (cc)

not_false : (a : Bool) → IsTrue (not a) → a ≡ true → ⊥
not_false true h e = cc
not_false false h e = cc

pub same : (v w : Width) → IsTrue (same_width v w) → v ≡ w
same W32 W32 h = refl
same W32 W64 h = absurd (cc)
same W64 W32 h = absurd (cc)
same W64 W64 h = refl

pub some_holds : {A : Type 0} (holds : A → Bool) (o : Option A) → IsTrue (option_map_or holds o false) → IsSomeAnd o (λ x. IsTrue (holds x))
some_holds holds None h = absurd (cc)
some_holds holds (Some x) h = h

pub some_mapped : {A B : Type 0} (f : A → B) (P : A → Type 0) (Q : B → Type 0) (o : Option A) → ((x : A) → o ≡ Some x → P x → Q (f x)) → IsSomeAnd o P → IsSomeAnd (option_map f o) Q
some_mapped f P Q None go h = absurd h
some_mapped f P Q (Some x) go h = go x refl h

-- a fact of each member, at one that is there
pub all_get : {A : Type 0} (P : A → Type 0) (xs : List A) (k : ℕ) (x : A) → All P xs → slice_get xs k ≡ Some x → P x
all_get P xs k x all e = subst P (get_or_from_slice_get xs k x x e) (all k x (slice_get_within xs k x e))

pub all_true : {A : Type 0} (p : A → Bool) (xs : List A) → IsTrue (list_all p xs) → Each (λ x. IsTrue (p x)) xs
all_true p [] h = tt
all_true p (x ∷ xs) h = let b = both_true (p x) (list_all p xs) h in (b.0, all_true p xs b.1)

pub all_from_each : {A : Type 0} (P : A → Type 0) (xs : List A) → Each P xs → AllByRecursion P xs
all_from_each P [] a = tt
all_from_each P (x ∷ xs) a = (a.0, all_from_each P xs a.1)

pub each_from_all : {A : Type 0} (P : A → Type 0) (xs : List A) → AllByRecursion P xs → Each P xs
each_from_all P [] a = tt
each_from_all P (x ∷ xs) a = (a.0, each_from_all P xs a.1)

pub each_append : {A : Type 0} (P : A → Type 0) (xs ys : List A) → Each P xs → Each P ys → Each P (xs ++ ys)
each_append P [] ys a b = b
each_append P (x ∷ xs) ys a b = (a.0, each_append P xs ys a.1 b)

pub each_change : {A : Type 0} (P Q : A → Type 0) (xs : List A) → ((x : A) → P x → Q x) → Each P xs → Each Q xs
each_change P Q [] go a = tt
each_change P Q (x ∷ xs) go a = (go x a.0, each_change P Q xs go a.1)

pub each_map : {A B : Type 0} (f : A → B) (P : B → Type 0) (xs : List A) → Each (λ x. P (f x)) xs → Each P (map f xs)
each_map f P [] a = tt
each_map f P (x ∷ xs) a = (a.0, each_map f P xs a.1)

-- ---- kinds

pub int_no_thread : (k : FuncKind) → IsTrue (is_int k) → k ≢ Thread
int_no_thread Int h e = cc
int_no_thread Void h e = cc
int_no_thread Thread h e = cc

pub no_thread : (k : FuncKind) → IsTrue (not (is_thread k)) → k ≢ Thread
no_thread Int h e = cc
no_thread Void h e = cc
no_thread Thread h e = cc

pub is_a_thread : (k : FuncKind) → IsTrue (is_thread k) → k ≡ Thread
is_a_thread Int h = absurd (cc)
is_a_thread Void h = absurd (cc)
is_a_thread Thread h = refl

-- ---- slots

pub returned_more : (ss more : List Slot) → 0 < length ss → returned_width (ss ++ more) ≡ returned_width ss
returned_more [] more h = absurd (omega (arith, h))
returned_more (s ∷ ss) more h = refl

pub width_more : (ss more : List Slot) (x : ℕ) → x < length ss → slot_width (ss ++ more) x ≡ slot_width ss x
width_more [] more x h = absurd (omega (arith, h))
width_more (s ∷ ss) more zero h = refl
width_more (s ∷ ss) more (suc x) h = width_more ss more x (omega (arith, h))

width_behind : (ss more : List Slot) (i : ℕ) → slot_width (ss ++ more) (length ss + i) ≡ slot_width more i
width_behind [] more i = let e : 0 + i ≡ i = omega arith in ap (slot_width more) e
width_behind (s ∷ ss) more i =
    let e : length (s ∷ ss) + i ≡ suc (length ss + i) = omega arith in
    ap (slot_width (s ∷ ss ++ more)) e ∙ width_behind ss more i

pub global_there : (gs : List GlobalDecl) (g : ℕ) (w : Width) → IsTrue (option_map_or (λ decl. same_width decl.width w) (slice_get gs g) false) → (g < length gs) × (global_width gs g ≡ w)
global_there [] g w h = absurd (cc)
global_there (d ∷ gs) zero w h = (omega arith, same d.width w h)
global_there (d ∷ gs) (suc g) w h = let r = global_there gs g w h in let lt = r.0 in (omega (arith, lt), r.1)

-- ---- temporaries

record Free (k : ℕ) (temps : List Width) (w : Width) (j : ℕ) : Type 0 where
  pub place : ℕ
  pub number : j ≡ k + place
  pub there : place < length temps
  pub width : slot_width (map temporary temps) place ≡ w

free_is : (k : ℕ) (temps : List Width) (w : Width) (taken : List ℕ) (j : ℕ) → free_from k temps w taken ≡ Some j → Free k temps w j
free_is k [] w taken j e = absurd (cc)
free_is k (v ∷ temps) w taken j e = go (free_is (k + 1) temps w taken j) (same_width v w && not (list_any (nat_eq k) taken)) refl e
  where
    go : (free_from (k + 1) temps w taken ≡ Some j → Free (k + 1) temps w j) → (b : Bool) → (same_width v w && not (list_any (nat_eq k) taken)) ≡ b → (if b then Some k else free_from (k + 1) temps w taken) ≡ Some j → Free k (v ∷ temps) w j
    go again true b e =
        let same_number : k ≡ j = cc in
        record { place = 0; number = omega (arith, same_number); there = omega arith; width = same v w (both_true (same_width v w) _ b).0 }
    go again false b e =
        let later = again e in
        let n = later.number in
        let t = later.there in
        record { place = suc later.place; number = omega (arith, n); there = omega (arith, t); width = later.width }

new_width : (temps : List Width) (w : Width) → slot_width (map temporary (temps ++ w ∷ [])) (length temps) ≡ w
new_width [] w = refl
new_width (v ∷ temps) w = new_width temps w

-- the slot of the next temporary is there after it is taken, and has its width
pub record Taken (f : Function) (w : Width) (s : HoistState) : Type 0 where
  pub there : temp_slot w s < length (slots_with f (with_temp w s).flow)
  pub width : slot_width (slots_with f (with_temp w s).flow) (temp_slot w s) ≡ w

pub taken : (f : Function) (w : Width) (s : HoistState) → s.flow.named ≡ length f.slots → Taken f w s
taken f w s named = let t = go (free_temp w s) refl in record { there = t.0; width = t.1 }
  where
    go : (o : Option ℕ) → free_temp w s ≡ o → (s.flow.named + number_or_next o s < length (slots_with f (taking w o s).flow)) × (slot_width (slots_with f (taking w o s).flow) (s.flow.named + number_or_next o s) ≡ w)
    go None e =
        let a = length-append f.slots (map temporary (s.flow.temps ++ w ∷ [])) in
        let b = length-map (s.flow.temps ++ w ∷ []) temporary in
        let c = length-append s.flow.temps (w ∷ []) in (
          omega (arith, a, b, c, named),
          ap (λ n. slot_width (f.slots ++ map temporary (s.flow.temps ++ w ∷ [])) (n + length s.flow.temps)) named
              ∙ width_behind f.slots (map temporary (s.flow.temps ++ w ∷ [])) (length s.flow.temps) ∙ new_width s.flow.temps w,
        )
    go (Some k) e =
        let free = free_is 0 s.flow.temps w s.taken k e in
        let n = free.number in
        let here : k ≡ free.place = omega (arith, n) in
        let a = length-append f.slots (map temporary s.flow.temps) in
        let b = length-map s.flow.temps temporary in
        let t = free.there in (
          omega (arith, a, b, t, here, named),
          ap (λ n. slot_width (f.slots ++ map temporary s.flow.temps) (n + k)) named
              ∙ width_behind f.slots (map temporary s.flow.temps) k ∙ ap (slot_width (map temporary s.flow.temps)) here ∙ free.width,
        )

pub taking_nodes : (w : Width) (o : Option ℕ) (s : HoistState) → (taking w o s).flow.nodes ≡ s.flow.nodes
taking_nodes w None s = refl
taking_nodes w (Some k) s = refl

pub taking_at : (w : Width) (o : Option ℕ) (s : HoistState) → (taking w o s).at ≡ s.at
taking_at w None s = refl
taking_at w (Some k) s = refl

pub taking_edges : (w : Width) (o : Option ℕ) (s : HoistState) → (taking w o s).flow.edges ≡ s.flow.edges
taking_edges w None s = refl
taking_edges w (Some k) s = refl

-- ---- plain expressions

pub plain_local : (n x : ℕ) → x < n → IsTrue (is_plain n (Local x))
plain_local n x h = subst IsTrue (sym (fold-Local Bool (plain_step n) x)) (lt-ltb x n h)

PlainMore : ℕ → ℕ → Expr → Type 0
PlainMore a b e = IsTrue (is_plain a e) → IsTrue (is_plain b e)

pub plain_more : (a b : ℕ) → a ≤ b → (e : Expr) → IsTrue (is_plain a e) → IsTrue (is_plain b e)
plain_more a b le = by_forms (λ e. IsTrue (is_plain a e) → IsTrue (is_plain b e))
    (λ n w h. subst IsTrue (sym (fold-Number Bool (plain_step b) n w)) (subst IsTrue (fold-Number Bool (plain_step a) n w) h))
    (λ x h. let lt = ltb-true x a (subst IsTrue (fold-Local Bool (plain_step a) x) h) in plain_local b x (omega (arith, lt, le)))
    (λ g w h. absurd (not_true (subst IsTrue (fold-Global Bool (plain_step a) g w) h)))
    (λ w h. absurd (not_true (subst IsTrue (fold-Nondet Bool (plain_step a) w) h)))
    (λ op e he h. subst IsTrue (sym (fold-Unary Bool (plain_step b) op e)) (he (subst IsTrue (fold-Unary Bool (plain_step a) op e) h)))
    (λ op l r hl hr h.
    let p = both_true (is_plain a l) (is_plain a r) (subst IsTrue (fold-Binary Bool (plain_step a) op l r) h) in
    subst IsTrue (sym (fold-Binary Bool (plain_step b) op l r)) (both (is_plain b l) (is_plain b r) (hl p.0) (hr p.1)))
    (λ f w args all h. absurd (not_true (subst IsTrue (fold-Call Bool (plain_step a) f w args) h)))
  where
    not_true : IsTrue false → ⊥
    not_true h = cc

-- ---- functions

pub called_there : (unit : TranslationUnit) (g n : ℕ) (holds : Function → Bool) → IsTrue (is_called unit g n holds) → (g ≢ unit.main) × IsSomeAnd (slice_get unit.funcs g) (λ called. (n ≡ called.params) × IsTrue (holds called))
called_there unit g n holds h =
    let p = both_true (not (nat_eq g unit.main)) _ h in
    ((λ e. not_false (nat_eq g unit.main) p.0 (eq-eqb g unit.main e)), go (slice_get unit.funcs g) (some_holds _ (slice_get unit.funcs g) p.1))
  where
    go : (o : Option Function) → IsSomeAnd o (λ called. IsTrue (nat_eq n called.params && holds called)) → IsSomeAnd o (λ called. (n ≡ called.params) × IsTrue (holds called))
    go None s = absurd s
    go (Some called) s = let p = both_true (nat_eq n called.params) (holds called) s in (eqb-true n called.params p.0, p.1)

pub graphs_there : (unit : TranslationUnit) (g : ℕ) → slice_get (program_of unit).funcs g ≡ option_map graph_of (slice_get unit.funcs g)
graphs_there unit g = slice_get-map graph_of unit.funcs g

-- what is found of a function holds of its graph
pub graph_found : (unit : TranslationUnit) (g : ℕ) (P : Function → Type 0) (Q : FuncGraph → Type 0) → ((called : Function) → slice_get unit.funcs g ≡ Some called → P called → Q (graph_of called)) → IsSomeAnd (slice_get unit.funcs g) P → IsSomeAnd (slice_get (program_of unit).funcs g) Q
graph_found unit g P Q go h =
    subst (λ (o : Option FuncGraph). IsSomeAnd o Q) (sym (graphs_there unit g)) (some_mapped graph_of P Q (slice_get unit.funcs g) go h)

-- the graph of a function that is there returns what the function does
pub returns_the_same : (unit : TranslationUnit) (g : ℕ) (called : Function) → IsWellMade unit → slice_get unit.funcs g ≡ Some called → returned_width (graph_of called).slots ≡ returned_width called.slots
returns_the_same unit g called made there =
    let formed = all_get (IsWellMadeFunction unit) unit.funcs g called made.functions there in
    let p = formed.returned_and_params in
    returned_more called.slots _ (omega (arith, p))
