-- Roots and nodes that come to a table, one after another.
use Rattle.std.proofs.Common.{◌≡◌, ◌≢◌, ◌⊎◌, inl, inr, ℕ, zero, suc, ◌+◌, ◌-◌, ◌<◌, ◌≤◌, Bool, true, false, cond, List, [], ◌∷◌, ◌++◌, length, map, take, drop, Option, None, Some, refl, sym, ap, subst, ◌∙◌, arith, is_some, is_none, true≢false, append_assoc, append-nil}
use Rattle.std.specs.Prelude.{filter, slice_get}
use Rattle.std.specs.List.{flat_map}
use Rattle.std.specs.Map.{keys_of}
use Rattle.std.proofs.lemmas.Grind.{flat_map-append}
use Rattle.std.proofs.lemmas.List.{append_cancel_left}
use Rattle.std.proofs.lemmas.List.Elements.{filter-append}
use Rattle.std.proofs.lemmas.Option.{none-some, same_Some, slice_get_within}
use Rattle.gob_tree.specs.Formed.{IsFormed}
use Rattle.gob_tree.specs.declared.graph.FuncGraph.{FuncGraph}
use Rattle.gob_tree.specs.declared.graph.Program.{Program}
use Rattle.gob_tree.specs.declared.place.Place.{Place}
use Rattle.gob_tree.specs.declared.unit.GlobalDecl.{GlobalDecl}
use Rattle.gob_tree.specs.declared.unit.Slot.{Slot}
use Rattle.state_dom.specs.StateValue.{Bottom}
use Rattle.constraint_sys.specs.declared.unknown.Key.{Key}
use Rattle.constraint_sys.specs.declared.unknown.Unknown.{Unknown}
use Rattle.constraint_sys.specs.declared.unknown.Unknown.TheVariants.{Point, Global}
use Rattle.constraint_sys.specs.declared.value.Value.{Value}
use Rattle.constraint_sys.specs.declared.value.Value.TheVariants.{State}
use Rattle.constraint_sys.specs.Carry.{KeepsEntries, lacking, roots_of, with_roots}
use Rattle.constraint_sys.specs.PostSolution.{initial_value, main_start_value}
use Rattle.constraint_sys.specs.Table.{TableValue, IsThere, empty_key, main_start, nodes_at, nodes_of_function, slots_at, slots_of_function, unknown_eq, value_at}
use Rattle.constraint_sys.specs.Turn.{bottoms, fellows, initial_globals, is_absent}
use Rattle.constraint_sys.proofs.Entries.{AllEntries, cases_unknown, global_apart, there_value, unknown_eq-apart, unknown_eq-same, value_at-absent, value_at-all, value_at-either, value_at-head, value_at-kept, value_at-past}
use Rattle.constraint_sys.proofs.Fellows.{fellow_added, fellow_there}
use Rattle.constraint_sys.proofs.Fitting.{function_with}
use Rattle.constraint_sys.proofs.Numbered.{AllEntries-numbers}
use Rattle.constraint_sys.proofs.Raising.{AllEntries-filter}
use Rattle.carry_law.proofs.Naming.{are_one}
use Rattle.carry_law.proofs.Origins.{origin}
use Rattle.carry_law.proofs.Renamed.{IsRenamed, renamed}
use Rattle.carry_law.proofs.Tables.{all_made, globals_are}
use Rattle.destabilise.specs.Linked.{IsOfProgram}
use Rattle.global_restart.proofs.Keeps.{EntryAt}

-- ---- entries that come behind

-- other entries behind a table change nothing
beside_by : (t xs : TableValue) (q : Unknown) → AllEntries (λ (r : Unknown) (v : Value). q ≢ r) xs → (o : Option Value) → value_at t q ≡ o → value_at (t ++ xs) q ≡ o
beside_by t xs q apart None at =
    value_at-absent q t xs at ∙ ap (λ (l : TableValue). value_at l q) (sym (append-nil xs)) ∙ value_at-past q xs [] apart
beside_by t xs q apart (Some v) at = value_at-kept q t xs (ap is_some at) ∙ at

pub beside : (t xs : TableValue) (q : Unknown) → AllEntries (λ (r : Unknown) (v : Value). q ≢ r) xs → value_at (t ++ xs) q ≡ value_at t q
beside t xs q apart = beside_by t xs q apart (value_at t q) refl

-- where two tables read alike, the same entries are absent
pub filter_alike : (s t xs : TableValue) → AllEntries (λ (q : Unknown) (v : Value). value_at s q ≡ value_at t q) xs → filter (is_absent s) xs ≡ filter (is_absent t) xs
filter_alike s t [] same = refl
filter_alike s t (e ∷ xs) same =
    let test : is_absent s e ≡ is_absent t e = ap is_none same.0 in
    let rest = filter_alike s t xs same.1 in
    λ i. cond (test i) (e ∷ rest i) (rest i)

pub add_one : (t : TableValue) (u : Unknown) (v : Value) (b : Bool) → is_none (value_at t u) ≡ b → t ++ filter (is_absent t) ((u, v) ∷ []) ≡ cond b (t ++ (u, v) ∷ []) t
add_one t u v true is = ap (λ (b : Bool). t ++ cond b ((u, v) ∷ []) []) is
add_one t u v false is = ap (λ (b : Bool). t ++ cond b ((u, v) ∷ []) []) is ∙ append-nil t

-- ---- roots

one_beside : (t : TableValue) (u q : Unknown) (v : Value) → q ≢ u → AllEntries (λ (r : Unknown) (x : Value). q ≢ r) (filter (is_absent t) ((u, v) ∷ []))
one_beside t u q v other = AllEntries-filter (λ (r : Unknown) (x : Value). q ≢ r) (is_absent t) ((u, v) ∷ []) (other, tt)

pub record GlobalsComing (t now : TableValue) (globals : List GlobalDecl) (g : ℕ) : Type 0 where
  pub so_far : now ++ filter (is_absent t) (initial_globals g (drop g globals)) ≡ t ++ filter (is_absent t) (initial_globals 0 globals)
  pub agree : (n : ℕ) → g ≤ n → value_at now (Global n) ≡ value_at t (Global n)

pub globals_begin : (t : TableValue) (globals : List GlobalDecl) → GlobalsComing t t globals 0
globals_begin t globals = record { so_far = refl; agree = λ n above. refl }

pub globals_more : (t now after : TableValue) (globals : List GlobalDecl) (g : ℕ) (decl : GlobalDecl) → drop g globals ≡ decl ∷ drop (g + 1) globals → GlobalsComing t now globals g
    → after ≡ now ++ filter (is_absent now) ((Global g, initial_value decl) ∷ []) → GlobalsComing t after globals (g + 1)
globals_more t now after globals g decl front coming is =
    let one : TableValue = (Global g, initial_value decl) ∷ [] in
    let rest : TableValue = initial_globals (g + 1) (drop (g + 1) globals) in
    let same : filter (is_absent now) one ≡ filter (is_absent t) one = filter_alike now t one (coming.agree g (omega arith), tt) in
    record {
      so_far = ap (λ (l : TableValue). l ++ filter (is_absent t) rest) is
          ∙ append_assoc now (filter (is_absent now) one) (filter (is_absent t) rest)
          ∙ ap (λ (l : TableValue). now ++ (l ++ filter (is_absent t) rest)) same
          ∙ ap (λ (l : TableValue). now ++ l) (sym (filter-append (is_absent t) one rest))
          ∙ ap (λ (l : List GlobalDecl). now ++ filter (is_absent t) (initial_globals g l)) (sym front)
          ∙ coming.so_far;
      agree = λ n above.
          ap (λ (l : TableValue). value_at l (Global n)) is
          ∙ beside now (filter (is_absent now) one) (Global n) (one_beside now (Global g) (Global n) (initial_value decl) (λ clash. let number : n ≡ g = cc clash in omega arith))
          ∙ coming.agree n (omega arith);
    }

pub globals_end : (t now : TableValue) (globals : List GlobalDecl) (g : ℕ) → drop g globals ≡ [] → GlobalsComing t now globals g → now ≡ t ++ filter (is_absent t) (initial_globals 0 globals)
globals_end t now globals g none coming =
    sym (append-nil now) ∙ ap (λ (l : List GlobalDecl). now ++ filter (is_absent t) (initial_globals g l)) (sym none) ∙ coming.so_far

-- `main`'s start is no global
pub roots_added : (p : Program) (t one after : TableValue) → one ≡ t ++ filter (is_absent t) ((main_start p, main_start_value p) ∷ []) → after ≡ one ++ filter (is_absent one) (initial_globals 0 p.globals) → after ≡ with_roots p t
roots_added p t one after first second =
    let main : TableValue = (main_start p, main_start_value p) ∷ [] in
    let globals : TableValue = initial_globals 0 p.globals in
    let same : filter (is_absent one) globals ≡ filter (is_absent t) globals =
    filter_alike one t globals (globals_are (λ (q : Unknown) (v : Value). value_at one q ≡ value_at t q) 0 p.globals (λ k decl at.
    ap (λ (l : TableValue). value_at l (Global (0 + k))) first ∙ beside t (filter (is_absent t) main) (Global (0 + k)) (one_beside t (main_start p) (Global (0 + k)) (main_start_value p) (global_apart (0 + k) p.main empty_key 0)))) in
    second ∙ ap (λ (l : TableValue). one ++ l) same ∙ ap (λ (l : TableValue). l ++ filter (is_absent t) globals) first
    ∙ append_assoc t (filter (is_absent t) main) (filter (is_absent t) globals)
    ∙ ap (λ (l : TableValue). t ++ l) (sym (filter-append (is_absent t) main globals))

-- ---- the nodes of one start

keys_of-append : (xs ys : TableValue) → keys_of (xs ++ ys) ≡ keys_of xs ++ keys_of ys
keys_of-append [] ys = refl
keys_of-append (e ∷ xs) ys = ap (λ (l : List Unknown). e.0 ∷ l) (keys_of-append xs ys)

pub record NodesComing (t now : TableValue) (us found : List Unknown) (room f : ℕ) (key : Key) (n : ℕ) : Type 0 where
  pub table : now ≡ t ++ filter (is_absent t) (bottoms room f key n)
  pub added : found ≡ us ++ keys_of (filter (is_absent t) (bottoms room f key n))

module _ (t now after : TableValue) (us found more : List Unknown) (room f : ℕ) (key : Key) (n : ℕ) (positive : 1 ≤ n) (coming : NodesComing t now us found room f key n) where
  abbrev coming_entry : Unknown × Value
  coming_entry = (Point f key n, State (Bottom room))

  abbrev before : TableValue
  before = filter (is_absent t) (bottoms room f key n)

  read_now : (b : Bool) → is_none (value_at now (Point f key n)) ≡ b → is_none (value_at (t ++ before) (Point f key n)) ≡ b
  read_now b is = ap (λ (l : TableValue). is_none (value_at l (Point f key n))) (sym coming.table) ∙ is

  -- what comes by the next node, whether it was absent or not
  next_by : (b : Bool) → is_none (value_at now (Point f key n)) ≡ b → before ++ cond b (coming_entry ∷ []) [] ≡ filter (is_absent t) (bottoms room f key (n + 1))
  next_by true absent =
      append_cancel_left t _ _ (sym (append_assoc t before (coming_entry ∷ [])) ∙ fellow_added t room f key n positive (read_now true absent))
  next_by false there = append-nil before ∙ append_cancel_left t _ _ (fellow_there t room f key n positive (read_now false there))

  pub node_more : after ≡ now ++ filter (is_absent now) (coming_entry ∷ []) → more ≡ found ++ keys_of (filter (is_absent now) (coming_entry ∷ [])) → NodesComing t after us more room f key (n + 1)
  node_more is listed =
      let one : TableValue = filter (is_absent now) (coming_entry ∷ []) in
      let part : before ++ one ≡ filter (is_absent t) (bottoms room f key (n + 1)) = next_by (is_none (value_at now (Point f key n))) refl in
      record {
        table = is ∙ ap (λ (l : TableValue). l ++ one) coming.table ∙ append_assoc t before one ∙ ap (λ (l : TableValue). t ++ l) part;
        added = listed ∙ ap (λ (l : List Unknown). l ++ keys_of one) coming.added
            ∙ append_assoc us (keys_of before) (keys_of one)
            ∙ ap (λ (l : List Unknown). us ++ l) (sym (keys_of-append before one) ∙ ap keys_of part);
      }

pub nodes_begin : (t : TableValue) (us : List Unknown) (room f : ℕ) (key : Key) → NodesComing t t us us room f key 1
nodes_begin t us room f key = record { table = sym (append-nil t); added = sym (append-nil us) }

-- the numbers that the code counts are the function's
pub brought : (p : Program) (u : Unknown) (f : ℕ) (key : Key) (function : FuncGraph) (room nodes : ℕ) → u ≡ Point f key 0 → slice_get p.funcs f ≡ Some function → room ≡ length function.slots → nodes ≡ length function.nodes → bottoms room f key nodes ≡ fellows p u
brought p u f key function room nodes is at slots count =
    let rooms : room ≡ length (slots_at p f) = slots ∙ ap (λ (xs : List Slot). length xs) (sym (ap slots_of_function at)) in
    let counts : nodes ≡ length (nodes_at p f) = count ∙ ap (λ (xs : List Place). length xs) (sym (ap nodes_of_function at)) in
    (λ i. bottoms (rooms i) f key (counts i)) ∙ ap (fellows p) (sym is)

-- ---- the nodes of all starts

-- r isn't in the function and context of the start u
abbrev IsStranger : Unknown → Unknown → Type 0
IsStranger u r = (f : ℕ) (key : Key) (n : ℕ) → u ≡ Point f key 0 → r ≡ Point f key n → ⊥

fellows_strange : (p : Program) (u r : Unknown) → r ≢ u → AllEntries (λ (q : Unknown) (v : Value). IsStranger u q) (fellows p r)
fellows_strange p u (Point f key zero) other =
    AllEntries-numbers (λ (q : Unknown) (v : Value). IsStranger u q) (λ (node : ℕ). (Point f key node, State (Bottom (length (slots_at p f))))) 1 (length (nodes_at p f) - 1)
    (λ i low high g context n start is.
    let function : f ≡ g = cc is in
    let same : key ≡ context = cc is in
    other ((λ j. Point (function j) (same j) 0) ∙ sym start))
fellows_strange p u (Point f key (suc node)) other = tt
fellows_strange p u (Global g) other = tt

-- the fellows of u aren't among strangers
fellows_apart : (p : Program) (u : Unknown) (P : Unknown → Type 0) → ((f : ℕ) (key : Key) (n : ℕ) → u ≡ Point f key 0 → P (Point f key n)) → AllEntries (λ (q : Unknown) (v : Value). P q) (fellows p u)
fellows_apart p (Point f key zero) P each =
    AllEntries-numbers (λ (q : Unknown) (v : Value). P q) (λ (node : ℕ). (Point f key node, State (Bottom (length (slots_at p f))))) 1 (length (nodes_at p f) - 1) (λ i low high. each f key i refl)
fellows_apart p (Point f key (suc node)) P each = tt
fellows_apart p (Global g) P each = tt

not_first : (u : Unknown) (e : Unknown × Value) (es : TableValue) → value_at (e ∷ es) u ≡ None → e.0 ≢ u
not_first u e es none same = none-some e.1 (sym none ∙ subst (λ (q : Unknown). value_at (e ∷ es) q ≡ Some e.1) same (value_at-head e.0 e.1 es))

none_apart : (u : Unknown) (es : TableValue) → value_at es u ≡ None → AllEntries (λ (r : Unknown) (v : Value). r ≢ u) es
none_apart u [] none = tt
none_apart u (e ∷ es) none =
    let other = not_first u e es none in
    (other, none_apart u es (sym (value_at-past u (e ∷ []) es ((λ same. other (sym same)), tt)) ∙ none))

apart_from_strangers : (u : Unknown) (xs : TableValue) (f : ℕ) (key : Key) (n : ℕ) → u ≡ Point f key 0 → AllEntries (λ (q : Unknown) (v : Value). IsStranger u q) xs → AllEntries (λ (r : Unknown) (v : Value). Point f key n ≢ r) xs
apart_from_strangers u [] f key n is strange = tt
apart_from_strangers u (e ∷ xs) f key n is strange = ((λ same. strange.0 f key n is (sym same)), apart_from_strangers u xs f key n is strange.1)

module _ (p : Program) (t : TableValue) where
  abbrev brings : Unknown × Value → TableValue
  brings e = filter (is_absent t) (fellows p e.0)

  pub record AllComing (now : TableValue) (found : List Unknown) (i : ℕ) : Type 0 where
    pub table : now ≡ t ++ flat_map brings (take i t)
    pub added : found ≡ keys_of (flat_map brings (take i t))

  strangers : (i : ℕ) (u : Unknown) → EntryAt t i u → AllEntries (λ (q : Unknown) (v : Value). IsStranger u q) (flat_map brings (take i t))
  strangers i u entry =
      all_made (λ (q : Unknown) (v : Value). IsStranger u q) (λ (r : Unknown). r ≢ u) brings
      (λ e other. AllEntries-filter (λ (q : Unknown) (v : Value). IsStranger u q) (is_absent t) (fellows p e.0) (fellows_strange p u e.0 other)) (take i t) (none_apart u (take i t) entry.before)

  same_absent : (i : ℕ) (u : Unknown) (now : TableValue) → EntryAt t i u → now ≡ t ++ flat_map brings (take i t) → filter (is_absent now) (fellows p u) ≡ filter (is_absent t) (fellows p u)
  same_absent i u now entry is =
      filter_alike now t (fellows p u) (fellows_apart p u (λ (q : Unknown). value_at now q ≡ value_at t q) (λ f key n start.
      ap (λ (l : TableValue). value_at l (Point f key n)) is
      ∙ beside t (flat_map brings (take i t)) (Point f key n) (apart_from_strangers u (flat_map brings (take i t)) f key n start (strangers i u entry))))

  brings_more : (i : ℕ) (u : Unknown) (entry : EntryAt t i u) → flat_map brings (take (i + 1) t) ≡ flat_map brings (take i t) ++ filter (is_absent t) (fellows p u)
  brings_more i u entry =
      ap (flat_map brings) entry.more ∙ flat_map-append brings (take i t) ((u, entry.value) ∷ []) ∙ ap (λ (l : TableValue). flat_map brings (take i t) ++ l) (append-nil (filter (is_absent t) (fellows p u)))

  pub all_more : (i : ℕ) (u : Unknown) (now after : TableValue) (found more : List Unknown) → EntryAt t i u → AllComing now found i
      → after ≡ now ++ filter (is_absent now) (fellows p u) → more ≡ found ++ keys_of (filter (is_absent now) (fellows p u)) → AllComing after more (i + 1)
  all_more i u now after found more entry coming is listed =
      let same = same_absent i u now entry coming.table in
      record {
        table = is ∙ (λ j. coming.table j ++ same j) ∙ append_assoc t (flat_map brings (take i t)) (filter (is_absent t) (fellows p u)) ∙ ap (λ (l : TableValue). t ++ l) (sym (brings_more i u entry));
        added = listed ∙ (λ j. coming.added j ++ keys_of (same j)) ∙ sym (keys_of-append (flat_map brings (take i t)) (filter (is_absent t) (fellows p u))) ∙ ap keys_of (sym (brings_more i u entry));
      }

-- ---- functions of what is kept

key_in_front : (t xs : TableValue) (i : ℕ) → i < length t → slice_get (keys_of (t ++ xs)) i ≡ slice_get (keys_of t) i
key_in_front [] xs i within = absurd (omega arith)
key_in_front (e ∷ t) xs zero within = refl
key_in_front (e ∷ t) xs (suc i) within = key_in_front t xs i (omega (arith, within))

pub key_of_front : (t xs now : TableValue) (i : ℕ) (u : Unknown) → now ≡ t ++ xs → i < length t → slice_get (keys_of now) i ≡ Some u → slice_get (keys_of t) i ≡ Some u
key_of_front t xs now i u is within at = sym (key_in_front t xs i within) ∙ ap (λ (l : TableValue). slice_get (keys_of l) i) (sym is) ∙ at

pub kept_of_program : (old new : Program) → IsFormed new → (t kept : TableValue) → KeepsEntries old new t t kept → (w : Unknown) → IsThere kept w → IsOfProgram new w
kept_of_program old new formed t kept keeps w there =
    let x = there_value (value_at kept w) there in
    let o = origin old new formed t keeps w x.0 x.1 in
    by o.from w (renamed o.renames)
  where
    by : (u w : Unknown) → IsRenamed old new u w → IsOfProgram new w
    by (Point f key node) (Point g other n) named = (let one = are_one old f new g named.0 in slice_get_within new.funcs g one.there one.stands)
    by (Point f key node) (Global h) named = absurd named
    by (Global g) (Point f key node) named = absurd named
    by (Global g) (Global h) named = tt

main_within : (p : Program) → IsFormed p → p.main < length p.funcs
main_within p formed =
    let found = function_with p _ formed p.main (slice_get p.funcs p.main) refl formed.main_there in
    slice_get_within p.funcs p.main found.0 found.1.at

pub rooted_of_program : (p : Program) → IsFormed p → (kept : TableValue) → ((w : Unknown) → IsThere kept w → IsOfProgram p w) → (w : Unknown) → IsThere (with_roots p kept) w → IsOfProgram p w
rooted_of_program p formed kept known w there =
    let x = there_value (value_at (with_roots p kept) w) there in
    elim (value_at-either w kept (filter (is_absent kept) (roots_of p)) x.0 x.1) [
      | inl here ↦ known w (ap is_some here)
      | inr root ↦ value_at-all (λ (u : Unknown) (v : Value). IsOfProgram p u) (filter (is_absent kept) (roots_of p))
          (AllEntries-filter (λ (u : Unknown) (v : Value). IsOfProgram p u) (is_absent kept) (roots_of p) (main_within p formed, globals_are (λ (u : Unknown) (v : Value). IsOfProgram p u) 0 p.globals (λ k decl at. tt)))
          w x.0 root.1
    ]
