-- Look-ups in tables that are put together.
use Rattle.std.proofs.Common.{◌≡◌, ◌≢◌, inl, inr, ℕ, zero, suc, ◌+◌, Bool, true, false, cond, List, [], ◌∷◌, None, Some, refl, sym, ap, subst, ◌∙◌, arith, is_some, is_none, true≢false}
use Rattle.std.specs.Prelude.{Contains, IsSome, filter, slice_get}
use Rattle.std.specs.List.{flat_map}
use Rattle.std.specs.Map.{keys_of}
use Rattle.std.proofs.lemmas.Option.{none-some}
use Rattle.gob_tree.specs.declared.unit.GlobalDecl.{GlobalDecl}
use Rattle.constraint_sys.specs.declared.unknown.Unknown.{Unknown}
use Rattle.constraint_sys.specs.declared.unknown.Unknown.TheVariants.{Global}
use Rattle.constraint_sys.specs.declared.value.Value.{Value}
use Rattle.constraint_sys.specs.PostSolution.{initial_value}
use Rattle.constraint_sys.specs.Table.{TableValue, IsThere, unknown_eq, value_at}
use Rattle.constraint_sys.specs.Turn.{initial_globals, is_absent}
use Rattle.constraint_sys.proofs.Entries.{AllEntries, AllEntries-append, IsThere-append_left, IsThere-append_right, IsThere-cons, cases_unknown, unknown_eq-same, value_at-head, value_at-past}
use Rattle.constraint_sys.proofs.Ordered.{Contains-cases, Contains-head, Contains-tail}

-- ---- entries and keys

-- each entry of a part is there in the whole
pub all_there : (whole part : TableValue) → ((q : Unknown) → IsThere part q → IsThere whole q) → AllEntries (λ (u : Unknown) (v : Value). IsThere whole u) part
all_there whole [] inside = tt
all_there whole (e ∷ part) inside = (inside e.0 (ap is_some (value_at-head e.0 e.1 part)), all_there whole part (λ q there. inside q (IsThere-cons q e part there)))

pub there_of_key : (t : TableValue) (q : Unknown) → Contains (keys_of t) q → IsThere t q
there_of_key [] q (k, within, is) = absurd (omega arith)
there_of_key (e ∷ t) q one = elim (Contains-cases e.0 q (keys_of t) one) [
  | inl same ↦ subst (λ (u : Unknown). IsThere (e ∷ t) u) (sym same) (ap is_some (value_at-head e.0 e.1 t))
  | inr later ↦ IsThere-cons q e t (there_of_key t q later)
]

key_step : (e : Unknown × Value) (t : TableValue) (q : Unknown) (b : Bool) → unknown_eq q e.0 ≡ b → (IsThere t q → Contains (keys_of t) q) → IsSome (cond b (Some e.1) (value_at t q)) → Contains (e.0 ∷ keys_of t) q
key_step e t q true same later there = subst (λ (u : Unknown). Contains (e.0 ∷ keys_of t) u) (sym (unknown_eq-same q e.0 same)) (Contains-head e.0 (keys_of t))
key_step e t q false same later there = Contains-tail e.0 q (keys_of t) (later there)

pub key_of_there : (t : TableValue) (q : Unknown) → IsThere t q → Contains (keys_of t) q
key_of_there [] q there = absurd (true≢false (sym there))
key_of_there (e ∷ t) q there = key_step e t q (unknown_eq q e.0) refl (key_of_there t q) there

pub all_keys : (P : Unknown → Type 0) (t : TableValue) → AllEntries (λ (u : Unknown) (v : Value). P u) t → (q : Unknown) → Contains (keys_of t) q → P q
all_keys P [] each q (k, within, is) = absurd (omega arith)
all_keys P (e ∷ t) each q one = elim (Contains-cases e.0 q (keys_of t) one) [
  | inl same ↦ subst P (sym same) each.0
  | inr later ↦ all_keys P t each.1 q later
]

-- ---- absent entries

first_found : (q : Unknown) (e : Unknown × Value) (rest : TableValue) (v : Value) (b : Bool) → unknown_eq q e.0 ≡ b → cond b (Some e.1) (value_at rest q) ≡ Some v → value_at (e ∷ rest) q ≡ Some v
first_found q e rest v b same at = ap (λ (c : Bool). cond c (Some e.1) (value_at rest q)) same ∙ at

filtered_step : (t : TableValue) (q : Unknown) (e : Unknown × Value) (xs : TableValue) (v : Value) (b c : Bool) → unknown_eq q e.0 ≡ b → is_absent t e ≡ c → value_at t q ≡ None
    → cond b (Some e.1) (value_at xs q) ≡ Some v → (value_at xs q ≡ Some v → value_at (filter (is_absent t) xs) q ≡ Some v) → value_at (cond c (e ∷ filter (is_absent t) xs) (filter (is_absent t) xs)) q ≡ Some v
filtered_step t q e xs v true true same absent none at later = first_found q e (filter (is_absent t) xs) v true same at
filtered_step t q e xs v true false same absent none at later =
    let is : q ≡ e.0 = unknown_eq-same q e.0 same in
    absurd (true≢false (sym (ap is_none (ap (value_at t) (sym is) ∙ none)) ∙ absent))
filtered_step t q e xs v false true same absent none at later = first_found q e (filter (is_absent t) xs) v false same (later at)
filtered_step t q e xs v false false same absent none at later = later at

pub value_at-filtered : (t : TableValue) (q : Unknown) (xs : TableValue) (v : Value) → value_at t q ≡ None → value_at xs q ≡ Some v → value_at (filter (is_absent t) xs) q ≡ Some v
value_at-filtered t q [] v none at = absurd (none-some v at)
value_at-filtered t q (e ∷ xs) v none at = filtered_step t q e xs v (unknown_eq q e.0) (is_absent t e) refl refl none at (value_at-filtered t q xs v none)

-- what comes with one of the entries is in all that comes
pub there_with_one : (make : Unknown × Value → TableValue) (from : Unknown → TableValue) → ((e : Unknown × Value) → make e ≡ from e.0) → (t : TableValue) (u q : Unknown) → IsThere t u → IsThere (from u) q → IsThere (flat_map make t) q
there_with_one make from made [] u q there inner = absurd (true≢false (sym there))
there_with_one make from made (e ∷ t) u q there inner = elim (cases_unknown u e.0) [
  | inl same ↦ IsThere-append_left q (make e) (flat_map make t) (subst (λ (l : TableValue). IsThere l q) (ap from same ∙ sym (made e)) inner)
  | inr other ↦ IsThere-append_right q (make e) (flat_map make t) (there_with_one make from made t u q (subst IsSome (value_at-past u (e ∷ []) t (other, tt)) there) inner)
]

pub all_made : (P : Unknown → Value → Type 0) (K : Unknown → Type 0) (make : Unknown × Value → TableValue) → ((e : Unknown × Value) → K e.0 → AllEntries P (make e)) → (t : TableValue) → AllEntries (λ (u : Unknown) (v : Value). K u) t → AllEntries P (flat_map make t)
all_made P K make each [] all = tt
all_made P K make each (e ∷ t) all = AllEntries-append P (make e) (flat_map make t) (each e all.0) (all_made P K make each t all.1)

-- ---- the globals

pub globals_are : (P : Unknown → Value → Type 0) (g : ℕ) (decls : List GlobalDecl) → ((k : ℕ) (decl : GlobalDecl) → slice_get decls k ≡ Some decl → P (Global (g + k)) (initial_value decl)) → AllEntries P (initial_globals g decls)
globals_are P g [] each = tt
globals_are P g (decl ∷ rest) each = (
  subst (λ (n : ℕ). P (Global n) (initial_value decl)) (omega arith) (each 0 decl refl),
  globals_are P (g + 1) rest (λ k later at. subst (λ (n : ℕ). P (Global n) (initial_value later)) (omega arith) (each (suc k) later at)),
)

global_other : (g k : ℕ) → Global (g + suc k) ≢ Global g
global_other g k same = let number : g + suc k ≡ g = cc same in omega arith

pub global_begins : (g : ℕ) (decls : List GlobalDecl) (k : ℕ) (decl : GlobalDecl) → slice_get decls k ≡ Some decl → value_at (initial_globals g decls) (Global (g + k)) ≡ Some (initial_value decl)
global_begins g [] k decl at = absurd (none-some decl at)
global_begins g (first ∷ rest) zero decl at =
    let here : first ≡ decl = cc at in
    let number : g + 0 ≡ g = omega arith in
    ap (λ (n : ℕ). value_at ((Global g, initial_value first) ∷ initial_globals (g + 1) rest) (Global n)) number
    ∙ value_at-head (Global g) (initial_value first) (initial_globals (g + 1) rest) ∙ ap (λ (d : GlobalDecl). Some (initial_value d)) here
global_begins g (first ∷ rest) (suc k) decl at =
    let number : g + suc k ≡ g + 1 + k = omega arith in
    value_at-past (Global (g + suc k)) ((Global g, initial_value first) ∷ []) (initial_globals (g + 1) rest) (global_other g k, tt)
    ∙ ap (λ (n : ℕ). value_at (initial_globals (g + 1) rest) (Global n)) number
    ∙ global_begins (g + 1) rest k decl at
