-- The nodes that a start brings, one by one.
use Rattle.std.proofs.Common.{◌≡◌, ◌≢◌, ℕ, zero, suc, ◌+◌, ◌-◌, ◌≤◌, Bool, true, false, cond, [], ◌∷◌, ◌++◌, Option, None, Some, refl, sym, ap, ◌∙◌, arith, is_some, append_assoc, length}
use Rattle.std.specs.Prelude.{IfOk, OnOk, Result, Ok, Err, filter, is_none, slice_get}
use Rattle.std.proofs.lemmas.List.{append-nil}
use Rattle.std.proofs.lemmas.List.Elements.{filter-append}
use Rattle.gob_tree.specs.declared.graph.FuncGraph.{FuncGraph}
use Rattle.gob_tree.specs.declared.graph.Program.{Program}
use Rattle.state_dom.specs.StateValue.{Bottom}
use Rattle.constraint_sys.specs.declared.unknown.Key.{Key}
use Rattle.constraint_sys.specs.declared.unknown.Unknown.{Unknown}
use Rattle.constraint_sys.specs.declared.unknown.Unknown.TheVariants.{Point, Global}
use Rattle.constraint_sys.specs.declared.value.Value.{Value}
use Rattle.constraint_sys.specs.declared.value.Value.TheVariants.{State}
use Rattle.constraint_sys.specs.Table.{TableValue, nodes_at, nodes_of_function, slots_at, slots_of_function, value_at}
use Rattle.constraint_sys.specs.Turn.{arising, bottoms, bottom_nodes, is_absent}
use Rattle.constraint_sys.proofs.Entries.{AllEntries, value_at-absent, value_at-kept, value_at-past}
use Rattle.constraint_sys.proofs.Numbered.{AllEntries-numbers}
use Rattle.constraint_sys.proofs.Raising.{AllEntries-filter}
use Rattle.constraint_sys.proofs.Starting.{bottoms-next, Point-node}

module _ (old : TableValue) (room f : ℕ) (key : Key) (n : ℕ) (positive : 1 ≤ n) where
  abbrev added : TableValue
  added = filter (is_absent old) (bottoms room f key n)

  abbrev now : TableValue
  now = old ++ added

  abbrev entry : Unknown × Value
  entry = (Point f key n, State (Bottom room))

  not_added : value_at added (Point f key n) ≡ None
  not_added =
      ap (λ (t : TableValue). value_at t (Point f key n)) (sym (append-nil added))
      ∙ value_at-past (Point f key n) added [] (AllEntries-filter (λ r v. Point f key n ≢ r) (is_absent old) (bottoms room f key n)
      (AllEntries-numbers (λ r v. Point f key n ≢ r) (λ (node : ℕ). (Point f key node, State (Bottom room))) 1 (n - 1) (λ i low high same. let is = Point-node f key n i same in omega arith)))

  next_added : filter (is_absent old) (bottoms room f key (n + 1)) ≡ added ++ cond (is_absent old entry) (entry ∷ []) []
  next_added = ap (filter (is_absent old)) (bottoms-next room f key n positive) ∙ filter-append (is_absent old) (bottoms room f key n) (entry ∷ [])

  was_there : (o : Option Value) → value_at old (Point f key n) ≡ o → value_at now (Point f key n) ≡ o
  was_there None at = value_at-absent (Point f key n) old added at ∙ not_added
  was_there (Some v) at = value_at-kept (Point f key n) old added (ap is_some at) ∙ at

  same_test : is_none (value_at now (Point f key n)) ≡ is_absent old entry
  same_test = ap is_none (was_there (value_at old (Point f key n)) refl)

  pub fellow_added : is_none (value_at now (Point f key n)) ≡ true → now ++ entry ∷ [] ≡ old ++ filter (is_absent old) (bottoms room f key (n + 1))
  fellow_added absent =
      append_assoc old added (entry ∷ [])
      ∙ ap (λ (t : TableValue). old ++ t) (sym (next_added ∙ ap (λ (b : Bool). added ++ cond b (entry ∷ []) []) (sym same_test ∙ absent)))

  pub fellow_there : is_none (value_at now (Point f key n)) ≡ false → now ≡ old ++ filter (is_absent old) (bottoms room f key (n + 1))
  fellow_there there = ap (λ (t : TableValue). old ++ t) (sym (next_added ∙ ap (λ (b : Bool). added ++ cond b (entry ∷ []) []) (sym same_test ∙ there) ∙ append-nil added))

-- the start itself is none of them
others_same : (old : TableValue) (u : Unknown) (v : Value) (q : Unknown) → q ≢ u → (o : Option Value) → value_at old q ≡ o → value_at (old ++ (u, v) ∷ []) q ≡ o
others_same old u v q other None at = value_at-absent q old ((u, v) ∷ []) at ∙ value_at-past q ((u, v) ∷ []) [] (other, tt)
others_same old u v q other (Some w) at = value_at-kept q old ((u, v) ∷ []) (ap is_some at) ∙ at

filter_same : (old : TableValue) (u : Unknown) (v : Value) (xs : TableValue) → AllEntries (λ q w. q ≢ u) xs → filter (is_absent (old ++ (u, v) ∷ [])) xs ≡ filter (is_absent old) xs
filter_same old u v [] apart = refl
filter_same old u v (e ∷ xs) apart =
    let test : is_absent (old ++ (u, v) ∷ []) e ≡ is_absent old e = ap is_none (others_same old u v e.0 apart.0 (value_at old e.0) refl) in
    let rest = filter_same old u v xs apart.1 in
    λ i. cond (test i) (e ∷ rest i) (rest i)

-- a start with its nodes
pub start_arises : (p : Program) (old : TableValue) (f : ℕ) (key : Key) (v : Value)
    → (old ++ (Point f key 0, v) ∷ []) ++ filter (is_absent (old ++ (Point f key 0, v) ∷ [])) (bottom_nodes p f key) ≡ old ++ arising p old (Point f key 0) v
start_arises p old f key v =
    let u = Point f key 0 in
    append_assoc old ((u, v) ∷ []) (filter (is_absent (old ++ (u, v) ∷ [])) (bottom_nodes p f key))
    ∙ ap (λ (t : TableValue). old ++ (u, v) ∷ t) (filter_same old u v (bottom_nodes p f key)
    (AllEntries-numbers (λ q w. q ≢ u) (λ (node : ℕ). (Point f key node, State (Bottom (length (slots_at p f))))) 1 (length (nodes_at p f) - 1) (λ i low high same. let is = Point-node f key i 0 same in omega arith)))

-- another unknown comes alone
pub alone_arises : (p : Program) (old : TableValue) (u : Unknown) (v : Value) → ((f : ℕ) (key : Key) → u ≢ Point f key 0) → old ++ (u, v) ∷ [] ≡ old ++ arising p old u v
alone_arises p old (Point f key zero) v other = absurd (other f key refl)
alone_arises p old (Point f key (suc node)) v other = refl
alone_arises p old (Global g) v other = refl

-- a start that is added, and then its nodes
pub start_added : (p : Program) (old one new : TableValue) (u : Unknown) (f : ℕ) (key : Key) (v : Value) (function : FuncGraph) → u ≡ Point f key 0 → slice_get p.funcs f ≡ Some function
    → one ≡ old ++ (u, v) ∷ [] → new ≡ one ++ filter (is_absent one) (bottoms (length function.slots) f key (length function.nodes)) → new ≡ old ++ arising p old u v
start_added p old one new u f key v function is at first all =
    let slots : slots_at p f ≡ function.slots = ap slots_of_function at in
    let nodes : nodes_at p f ≡ function.nodes = ap nodes_of_function at in
    let here : one ≡ old ++ (Point f key 0, v) ∷ [] = first ∙ ap (λ (x : Unknown). old ++ (x, v) ∷ []) is in
    let brought : bottoms (length function.slots) f key (length function.nodes) ≡ bottom_nodes p f key = λ i. bottoms (length (sym slots i)) f key (length (sym nodes i)) in
    all ∙ (λ i. here i ++ filter (is_absent (here i)) (brought i)) ∙ start_arises p old f key v ∙ ap (λ (x : Unknown). old ++ arising p old x v) (sym is)

pub on_ok : {A B : Type 0} (r : Result A B) (P Q : Type 0) → (P → Q) → OnOk r P → OnOk r Q
on_ok (Ok x) P Q follows holds = follows holds
on_ok (Err e) P Q follows holds = tt

pub if_ok : {A B : Type 0} (r : Result A B) (P Q : A → Type 0) → ((x : A) → P x → Q x) → IfOk r P → IfOk r Q
if_ok (Ok x) P Q follows holds = follows x holds
if_ok (Err e) P Q follows holds = tt
