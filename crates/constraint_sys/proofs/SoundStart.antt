-- The initial table is sound.
use Rattle.std.proofs.Common.{◌≡◌, ◌≢◌, true, ℕ, zero, suc, ◌+◌, ◌-◌, ◌<◌, ◌≤◌, ℤ, ◌≤ℤ◌, List, [], ◌∷◌, ◌++◌, Option, None, Some, refl, sym, ap, ◌∙◌, arith, subst, inl, inr, is_some, true≢false}
use Rattle.std.specs.Prelude.{Contains, IsSomeAnd, IsTrue, length, slice_get, int_le}
use Rattle.std.proofs.lemmas.Bool.{and_parts}
use Rattle.std.proofs.lemmas.Int.{ints}
use Rattle.std.proofs.lemmas.List.Elements.{All-contains, All-get_or}
use Rattle.std.proofs.lemmas.Option.{get_or_from_slice_get, slice_get_within, slice_get_cases}
use Rattle.gob_tree.specs.Formed.{IsFormed, IsFormedFunction}
use Rattle.gob_tree.specs.Widths.{fits, lowest, greatest}
use Rattle.gob_tree.specs.declared.expr.Width.{Width}
use Rattle.gob_tree.specs.declared.expr.Width.TheVariants.{W32, W64}
use Rattle.gob_tree.specs.declared.graph.FuncGraph.{FuncGraph}
use Rattle.gob_tree.specs.declared.graph.Program.{Program}
use Rattle.gob_tree.specs.declared.unit.GlobalDecl.{GlobalDecl}
use Rattle.interval_dom.specs.Bounds.{between, Covers}
use Rattle.interval_dom.specs.Ranges.{full}
use Rattle.interval_dom.proofs.Within.{Covers-refl}
use Rattle.state_dom.specs.Operators.{interval_width_of}
use Rattle.state_dom.specs.StateValue.{Bottom, start_of}
use Rattle.state_dom.proofs.Bounding.{CoversState-refl}
use Rattle.constraint_sys.specs.declared.unknown.Key.{Key}
use Rattle.constraint_sys.specs.declared.unknown.Unknown.{Unknown}
use Rattle.constraint_sys.specs.declared.unknown.Unknown.TheVariants.{Point, Global}
use Rattle.constraint_sys.specs.declared.value.Value.{Value}
use Rattle.constraint_sys.specs.declared.value.Value.TheVariants.{State}
use Rattle.constraint_sys.specs.PostSolution.{CoversValue, HasRoots, main_start_value, initial_value}
use Rattle.constraint_sys.specs.Sound.{IsKeyOf, IsShaped, IsShapedEntry, CanTurn, IsSound}
use Rattle.constraint_sys.specs.Table.{TableValue, value_at, IsThere, main_start, empty_key, slots_at, nodes_at, nodes_of_function}
use Rattle.constraint_sys.specs.Turn.{bottom_nodes, initial_globals, initial_table, initial_dirty, initial_of}
use Rattle.constraint_sys.proofs.Fitting.{IsKeyOf-empty, function_with}
use Rattle.constraint_sys.proofs.Numbered.{AllEntries-numbers, All-numbers, Contains-numbers, IsThere-numbers}
use Rattle.constraint_sys.proofs.Shaping.{no_mutex}
use Rattle.constraint_sys.proofs.Zeros.{start_fits}
use Rattle.constraint_sys.proofs.Entries.{global_apart, AllEntries, AllEntries-append, value_at-all, value_at-head, value_at-past, IsThere-cons, IsThere-append_left, there_value}

-- the globals, by the number of the first
AllEntries-globals : (P : Unknown → Value → Type 0) (g : ℕ) (decls : List GlobalDecl) → ((k : ℕ) (decl : GlobalDecl) → slice_get decls k ≡ Some decl → P (Global (g + k)) (initial_value decl)) → AllEntries P (initial_globals g decls)
AllEntries-globals P g [] each = tt
AllEntries-globals P g (decl ∷ rest) each = (
  subst (λ (n : ℕ). P (Global n) (initial_value decl)) (omega arith) (each 0 decl refl),
  AllEntries-globals P (g + 1) rest (λ k later at. subst (λ (n : ℕ). P (Global n) (initial_value later)) (omega arith) (each (suc k) later at)),
)

global_other : (g k : ℕ) → Global (g + suc k) ≢ Global g
global_other g k same = let number : g + suc k ≡ g = cc same in omega arith

value_at-global : (g : ℕ) (decls : List GlobalDecl) (k : ℕ) (decl : GlobalDecl) → slice_get decls k ≡ Some decl → value_at (initial_globals g decls) (Global (g + k)) ≡ Some (initial_value decl)
value_at-global g [] k decl at = absurd (true≢false (sym (ap is_some at)))
value_at-global g (first ∷ rest) zero decl at =
    let here : first ≡ decl = cc at in
    let number : g + 0 ≡ g = omega arith in
    ap (λ (n : ℕ). value_at ((Global g, initial_value first) ∷ initial_globals (g + 1) rest) (Global n)) number
    ∙ value_at-head (Global g) (initial_value first) (initial_globals (g + 1) rest) ∙ ap (λ (d : GlobalDecl). Some (initial_value d)) here
value_at-global g (first ∷ rest) (suc k) decl at =
    let number : g + suc k ≡ g + 1 + k = omega arith in
    value_at-past (Global (g + suc k)) ((Global g, initial_value first) ∷ []) (initial_globals (g + 1) rest) (global_other g k, tt)
    ∙ ap (λ (n : ℕ). value_at (initial_globals (g + 1) rest) (Global n)) number
    ∙ value_at-global (g + 1) rest k decl at

-- an initial value fits its global
test_means : (x y : ℤ) → int_le x y ≡ true → x ≤ℤ y
test_means x y h = grind (arith, ints)

number_fits : (w : Width) (n : ℤ) → IsTrue (fits w n) → Covers (full (interval_width_of w)) (between n n)
number_fits W32 n passes =
    let parts = and_parts (int_le (lowest W32) n) (int_le n (greatest W32)) passes in
    (test_means (lowest W32) n parts.0, test_means n (greatest W32) parts.1)
number_fits W64 n passes =
    let parts = and_parts (int_le (lowest W64) n) (int_le n (greatest W64)) passes in
    (test_means (lowest W64) n parts.0, test_means n (greatest W64) parts.1)

pub initial_fits : (p : Program) → IsFormed p → (g : ℕ) (decl : GlobalDecl) → slice_get p.globals g ≡ Some decl → IsShapedEntry p (Global g) (initial_value decl)
initial_fits p formed g decl at =
    let fits_it = All-get_or (λ (d : GlobalDecl). IsTrue (fits d.width d.initial)) p.globals g decl (slice_get_within p.globals g decl at) formed.initials_fit in
    let here = get_or_from_slice_get p.globals g decl decl at in
    rw at (number_fits decl.width decl.initial (subst (λ (d : GlobalDecl). IsTrue (fits d.width d.initial)) here fits_it))

-- main has nodes
function_has_nodes : (p : Program) (P : FuncGraph → Type 0) → IsFormed p → (f : ℕ) (o : Option FuncGraph) → slice_get p.funcs f ≡ o → IsSomeAnd o P → 2 ≤ length (nodes_of_function o)
function_has_nodes p P formed f None at there = absurd there
function_has_nodes p P formed f (Some function) at there =
    let formed_it = All-get_or (IsFormedFunction p) p.funcs f function (slice_get_within p.funcs f function at) formed.functions_formed in
    let here = get_or_from_slice_get p.funcs f function function at in
    (subst (IsFormedFunction p) here formed_it).entry_and_exit

main_has_nodes : (p : Program) → IsFormed p → 2 ≤ length (nodes_at p p.main)
main_has_nodes p formed = function_has_nodes p _ formed p.main (slice_get p.funcs p.main) refl formed.main_there

-- the initial table of a formed program
module _ (p : Program) (formed : IsFormed p) where
  abbrev start_entry : Unknown × Value
  start_entry = (Point p.main empty_key 0, main_start_value p)

  abbrev nodes : TableValue
  nodes = bottom_nodes p p.main empty_key

  abbrev globals : TableValue
  globals = initial_globals 0 p.globals

  -- what holds of main's start, its other nodes and the globals
  AllEntries-initial : (P : Unknown → Value → Type 0) → P (Point p.main empty_key 0) (main_start_value p)
      → ((i : ℕ) → 0 < i → i < length (nodes_at p p.main) → P (Point p.main empty_key i) (State (Bottom (length (slots_at p p.main)))))
      → ((g : ℕ) (decl : GlobalDecl) → slice_get p.globals g ≡ Some decl → P (Global g) (initial_value decl)) → AllEntries P (initial_table p)
  AllEntries-initial P start inner each = (
    start,
    AllEntries-append P nodes globals
        (AllEntries-numbers P (λ (node : ℕ). (Point p.main empty_key node, State (Bottom (length (slots_at p p.main))))) 1 (length (nodes_at p p.main) - 1) (λ i low high. inner i (omega arith) (omega arith)))
        (AllEntries-globals P 0 p.globals (λ k decl at. subst (λ (n : ℕ). P (Global n) (initial_value decl)) (omega arith) (each k decl at))),
  )

  -- a point of the table is a node of main with the empty key
  abbrev IsOfMain : Unknown → Value → Type 0
  IsOfMain (Point f key node) v = (f ≡ p.main) × (key ≡ empty_key) × (node < length (nodes_at p p.main))
  IsOfMain (Global g) v = Unit {0}

  of_main : AllEntries IsOfMain (initial_table p)
  of_main = AllEntries-initial IsOfMain (refl, refl, omega (arith, main_has_nodes p formed)) (λ i low high. (refl, refl, high)) (λ g decl at. tt)

  IsOfMain-there : (f : ℕ) (key : Key) (node : ℕ) → IsThere (initial_table p) (Point f key node) → (f ≡ p.main) × (key ≡ empty_key) × (node < length (nodes_at p p.main))
  IsOfMain-there f key node there =
      let found = there_value (value_at (initial_table p) (Point f key node)) there in
      value_at-all IsOfMain (initial_table p) of_main (Point f key node) found.0 found.1

  start_value : value_at (initial_table p) (main_start p) ≡ Some (main_start_value p)
  start_value = value_at-head (main_start p) (main_start_value p) (nodes ++ globals)

  node_there : (i : ℕ) → i < length (nodes_at p p.main) → IsThere (initial_table p) (Point p.main empty_key i)
  node_there zero within = ap is_some start_value
  node_there (suc i) within =
      IsThere-cons (Point p.main empty_key (suc i)) start_entry (nodes ++ globals)
      (IsThere-append_left (Point p.main empty_key (suc i)) nodes globals
      (IsThere-numbers p.main empty_key (State (Bottom (length (slots_at p p.main)))) 1 (length (nodes_at p p.main) - 1) (suc i) (omega arith) (omega arith)))

  global_value : (g : ℕ) (decl : GlobalDecl) → slice_get p.globals g ≡ Some decl → value_at (initial_table p) (Global g) ≡ Some (initial_value decl)
  global_value g decl at =
      value_at-past (Global g) (start_entry ∷ nodes) globals (global_apart g p.main empty_key 0, AllEntries-numbers (λ r v. Global g ≢ r) (λ (node : ℕ). (Point p.main empty_key node, State (Bottom (length (slots_at p p.main))))) 1 (length (nodes_at p p.main) - 1) (λ i low high. global_apart g p.main empty_key i))
      ∙ ap (λ (n : ℕ). value_at globals (Global n)) (omega arith)
      ∙ value_at-global 0 p.globals g decl at

  global_there : (g : ℕ) → g < length p.globals → IsThere (initial_table p) (Global g)
  global_there g within = elim ((slice_get_cases p.globals g).1) [
    | inl found ↦ ap is_some (global_value g found.0 found.2)
    | inr past ↦ absurd (omega (arith, past.0))
  ]

  roots : HasRoots p (initial_table p)
  roots = record {
    main_there = ap is_some start_value;
    globals_there = global_there;
    main_bounded = subst (λ (o : Option Value). CoversValue o (main_start_value p)) (sym start_value) (CoversState-refl (start_of (length (slots_at p p.main))));
    globals_bounded = λ g decl at. subst (λ (o : Option Value). CoversValue o (initial_value decl)) (sym (global_value g decl at)) (Covers-refl (between decl.initial decl.initial));
    nodes_there = λ f key node other there within.
        (let is = IsOfMain-there f key node there in
        let inside : other < length (nodes_at p p.main) = subst (λ (g : ℕ). other < length (nodes_at p g)) is.0 within in
        subst (λ (g : ℕ). IsThere (initial_table p) (Point g key other)) (sym is.0) (subst (λ (k : Key). IsThere (initial_table p) (Point p.main k other)) (sym is.1) (node_there other inside)));
  }

  main_key : IsKeyOf p p.main empty_key
  main_key = let found = function_with p _ formed p.main (slice_get p.funcs p.main) refl formed.main_there in IsKeyOf-empty p p.main found.0 found.1 found.2.1

  shaped : IsShaped p (initial_table p)
  shaped u v at =
      value_at-all (IsShapedEntry p) (initial_table p)
      (AllEntries-initial (IsShapedEntry p)
      (record { within = omega (arith, main_has_nodes p formed); context = main_key; shape = start_fits (slots_at p p.main); mutexes = no_mutex p })
      (λ i low high. record { within = high; context = main_key; shape = refl; mutexes = no_mutex p })
      (λ g decl at. initial_fits p formed g decl at))
      u v at

  pub main_start_fits : IsShapedEntry p (main_start p) (main_start_value p)
  main_start_fits = shaped (main_start p) (main_start_value p) start_value

  can_turn : (t : TableValue) (f : ℕ) (key : Key) (i : ℕ) → 0 < i → IsThere t (Point f key i) → CanTurn t (Point f key i)
  can_turn t f key zero inner there = absurd (omega arith)
  can_turn t f key (suc i) inner there = there

  dirty_points : (u : Unknown) → Contains (initial_dirty p) u → CanTurn (initial_table p) u
  dirty_points u dirty =
      All-contains (CanTurn (initial_table p)) (initial_dirty p) u
      (All-numbers (CanTurn (initial_table p)) (λ (node : ℕ). Point p.main empty_key node) 1 (length (nodes_at p p.main) - 1) (λ i low high. can_turn (initial_table p) p.main empty_key i (omega arith) (node_there i (omega arith))))
      dirty

  all_dirty : (f : ℕ) (key : Key) (node : ℕ) → IsThere (initial_table p) (Point f key node) → node ≢ 0 → Contains (initial_dirty p) (Point f key node)
  all_dirty f key node there inner =
      let is = IsOfMain-there f key node there in
      let high : node < 1 + (length (nodes_at p p.main) - 1) = omega (arith, is.2) in
      subst (λ (g : ℕ). Contains (initial_dirty p) (Point g key node)) (sym is.0)
      (subst (λ (k : Key). Contains (initial_dirty p) (Point p.main k node)) (sym is.1)
      (Contains-numbers (λ (i : ℕ). Point p.main empty_key i) 1 (length (nodes_at p p.main) - 1) node (omega arith) high))

  pub IsSound-initial : IsSound p (initial_of p)
  IsSound-initial = record {
    roots = roots;
    shaped = shaped;
    dirty_points = dirty_points;
    satisfied = λ f key node there inner clean. absurd (clean (all_dirty f key node there inner));
  }
