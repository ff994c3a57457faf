-- Functions, globals and mutexes of a program have names of their own: so each has one match at most.
use Rattle.std.proofs.Common.{◌≡◌, ◌≢◌, ℕ, zero, suc, ◌+◌, ◌<◌, List, [], ◌∷◌, ◌++◌, map, length, Option, Some, None, refl, sym, ap, subst, ◌∙◌, arith, inl, inr, zero-add}
use Rattle.std.specs.Prelude.{AllPairs, IsSomeAnd, slice_get}
use Rattle.std.specs.Option.{option_map}
use Rattle.std.proofs.lemmas.Bool.{cases_eq, cases_lt}
use Rattle.std.proofs.lemmas.Option.{get_or_from_slice_get, none-some, slice_get-map, slice_get_within}
use Rattle.gob_tree.specs.Formed.{IsFormed, names_of}
use Rattle.gob_tree.specs.Named.{SameFunction, named_graph}
use Rattle.gob_tree.specs.declared.graph.FuncGraph.{FuncGraph}
use Rattle.gob_tree.specs.declared.graph.Program.{Program}
use Rattle.gob_tree.specs.declared.unit.GlobalDecl.{GlobalDecl}
use Rattle.constraint_sys.specs.Carry.{SameGlobal, SameMutex}

one_place : (xs : List (List ℕ)) → AllPairs (λ (a b : List ℕ). a ≢ b) xs → (i j : ℕ) (x : List ℕ) → slice_get xs i ≡ Some x → slice_get xs j ≡ Some x → i ≡ j
one_place xs differ i j x at there = elim (cases_eq i j) [
  | inl same ↦ same
  | inr other ↦ elim (cases_lt i j) [
    | inl before ↦ absurd (differ i j x before (slice_get_within xs j x there) (get_or_from_slice_get xs i x x at ∙ sym (get_or_from_slice_get xs j x x there)))
    | inr after ↦
        let before : j < i = omega arith in
        absurd (differ j i x before (slice_get_within xs i x at) (get_or_from_slice_get xs j x x there ∙ sym (get_or_from_slice_get xs i x x at)))
  ]
]

module _ {A : Type 0} where
  pub some_and : (P : A → Type 0) (o : Option A) → IsSomeAnd o P → (x : A) × (o ≡ Some x) × P x
  some_and P None h = absurd h
  some_and P (Some x) h = (x, refl, h)

  at_left : (xs ys : List A) (i : ℕ) (x : A) → slice_get xs i ≡ Some x → slice_get (xs ++ ys) i ≡ Some x
  at_left [] ys i x at = absurd (none-some x at)
  at_left (y ∷ xs) ys zero x at = at
  at_left (y ∷ xs) ys (suc i) x at = at_left xs ys i x at

  at_right : (xs ys : List A) (i : ℕ) (x : A) → slice_get ys i ≡ Some x → slice_get (xs ++ ys) (length xs + i) ≡ Some x
  at_right [] ys i x at = subst (λ (n : ℕ). slice_get ys n ≡ Some x) (sym (zero-add i)) at
  at_right (y ∷ xs) ys i x at =
      let more : suc (length xs + i) ≡ suc (length xs) + i = omega arith in
      subst (λ (n : ℕ). slice_get (y ∷ (xs ++ ys)) n ≡ Some x) more (at_right xs ys i x at)

-- ---- where names stand

abbrev function_names : Program → List (List ℕ)
function_names p = map (λ (f : FuncGraph). f.name) p.funcs

abbrev global_names : Program → List (List ℕ)
global_names p = map (λ (g : GlobalDecl). g.name) p.globals

function_place : (p : Program) (f : ℕ) (x : FuncGraph) → slice_get p.funcs f ≡ Some x → slice_get (names_of p) f ≡ Some x.name
function_place p f x at =
    at_left (function_names p ++ global_names p) p.mutexes f x.name
    (at_left (function_names p) (global_names p) f x.name (slice_get-map (λ (y : FuncGraph). y.name) p.funcs f ∙ ap (option_map (λ (y : FuncGraph). y.name)) at))

global_place : (p : Program) (g : ℕ) (x : GlobalDecl) → slice_get p.globals g ≡ Some x → slice_get (names_of p) (length (function_names p) + g) ≡ Some x.name
global_place p g x at =
    at_left (function_names p ++ global_names p) p.mutexes (length (function_names p) + g) x.name
    (at_right (function_names p) (global_names p) g x.name (slice_get-map (λ (y : GlobalDecl). y.name) p.globals g ∙ ap (option_map (λ (y : GlobalDecl). y.name)) at))

mutex_place : (p : Program) (m : ℕ) (x : List ℕ) → slice_get p.mutexes m ≡ Some x → slice_get (names_of p) (length (function_names p ++ global_names p) + m) ≡ Some x
mutex_place p m x at = at_right (function_names p ++ global_names p) p.mutexes m x at

-- ---- one number a name

pub one_function : (p : Program) → IsFormed p → (f g : ℕ) (x y : FuncGraph) → slice_get p.funcs f ≡ Some x → slice_get p.funcs g ≡ Some y → x.name ≡ y.name → f ≡ g
one_function p formed f g x y at there same =
    one_place (names_of p) formed.names_differ f g x.name (function_place p f x at) (subst (λ (n : List ℕ). slice_get (names_of p) g ≡ Some n) (sym same) (function_place p g y there))

pub one_global : (p : Program) → IsFormed p → (g h : ℕ) (x y : GlobalDecl) → slice_get p.globals g ≡ Some x → slice_get p.globals h ≡ Some y → x.name ≡ y.name → g ≡ h
one_global p formed g h x y at there same =
    let is : length (function_names p) + g ≡ length (function_names p) + h = one_place (names_of p) formed.names_differ (length (function_names p) + g) (length (function_names p) + h) x.name (global_place p g x at) (subst (λ (n : List ℕ). slice_get (names_of p) (length (function_names p) + h) ≡ Some n) (sym same) (global_place p h y there)) in
    omega arith

pub one_mutex : (p : Program) → IsFormed p → (m n : ℕ) (x : List ℕ) → slice_get p.mutexes m ≡ Some x → slice_get p.mutexes n ≡ Some x → m ≡ n
one_mutex p formed m n x at there =
    let is : length (function_names p ++ global_names p) + m ≡ length (function_names p ++ global_names p) + n = one_place (names_of p) formed.names_differ (length (function_names p ++ global_names p) + m) (length (function_names p ++ global_names p) + n) x (mutex_place p m x at) (mutex_place p n x there) in
    omega arith

-- ---- matches

-- a match, with both functions
pub record AreOne (old : Program) (f : ℕ) (new : Program) (g : ℕ) : Type 0 where
  pub here : FuncGraph
  pub there : FuncGraph
  pub at : slice_get old.funcs f ≡ Some here
  pub stands : slice_get new.funcs g ≡ Some there
  pub same : named_graph old here ≡ named_graph new there

pub are_one : (old : Program) (f : ℕ) (new : Program) (g : ℕ) → SameFunction old f new g → AreOne old f new g
are_one old f new g same =
    let this = some_and (λ (x : FuncGraph). IsSomeAnd (slice_get new.funcs g) (λ (y : FuncGraph). named_graph old x ≡ named_graph new y)) (slice_get old.funcs f) same in
    let that = some_and (λ (y : FuncGraph). named_graph old this.0 ≡ named_graph new y) (slice_get new.funcs g) this.2 in
    record { here = this.0; there = that.0; at = this.1; stands = that.1; same = that.2 }

pub same_global : (old : Program) (g : ℕ) (new : Program) (h : ℕ) → SameGlobal old g new h → (x : GlobalDecl) × (slice_get old.globals g ≡ Some x) × (slice_get new.globals h ≡ Some x)
same_global old g new h same = some_and (λ (x : GlobalDecl). slice_get new.globals h ≡ Some x) (slice_get old.globals g) same

pub same_mutex : (old : Program) (m : ℕ) (new : Program) (n : ℕ) → SameMutex old m new n → (x : List ℕ) × (slice_get old.mutexes m ≡ Some x) × (slice_get new.mutexes n ≡ Some x)
same_mutex old m new n same = some_and (λ (x : List ℕ). slice_get new.mutexes n ≡ Some x) (slice_get old.mutexes m) same
