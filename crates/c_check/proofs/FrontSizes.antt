-- A tree without a fault has a unit and graphs within the sizes that an analysis takes.
use Rattle.std.proofs.Common.{◌≡◌, refl, ap, ℕ, ◌+◌, ◌-◌, ◌≤◌, Bool, true, false, if◌then◌else◌, List, [], ◌∷◌, ◌++◌, length, map, flat_map, drop, sum, arith, length-append, length-drop}
use Rattle.std.specs.List.{AllByRecursion}
use Rattle.std.proofs.lemmas.List.{length-map}
use Rattle.std.proofs.lemmas.List.Elements.{All-from_recursion}
use Rattle.std.proofs.lemmas.List.Sums.{sum_by-cons}
use Rattle.gob_tree.specs.WellMade.{is_thread}
use Rattle.gob_tree.specs.Formed.{IsFormed}
use Rattle.gob_tree.specs.declared.place.Place.{Place}
use Rattle.gob_tree.specs.declared.graph.FuncGraph.{FuncGraph}
use Rattle.gob_tree.specs.declared.unit.Function.{Function}
use Rattle.c_meaning.specs.Graph.{graph_of, program_of}
use Rattle.c_parse.specs.declared.raw.unit.RawItem.{RawItem}
use Rattle.c_parse.specs.declared.raw.unit.RawItem.TheVariants as items
use Rattle.c_parse.specs.declared.raw.unit.RawUnit.{RawUnit}
use Rattle.graph_law.specs.Forming.{IsWithinSizes}
use Rattle.graph_law.proofs.Forming.{programs_are_formed}
use Rattle.c_check.specs.Spelled.{IsSpelled}
use Rattle.c_check.specs.Front.{size_faults, graph_faults, tree_faults}
use Rattle.c_check.specs.Units.{over, function_place, global_place, mutex_place, param_place, param_limit_faults, function_of, Made, after_item, after_items, nothing_made, items_faults, no_main_faults, unit_faults, unit_of}
use Rattle.c_check.proofs.FrontGraphs.{sizes_kept}
use Rattle.c_check.proofs.WellMade.{made_unit}
use Rattle.c_check.proofs.WellMadeFunctions.{each_append}
use Rattle.c_check.proofs.WellMadeNames.{nil_left, nil_right}

-- ---- none beyond a limit

map_nil : {A B : Type 0} (f : A → B) (xs : List A) → map f xs ≡ [] → xs ≡ []
map_nil f [] e = refl
map_nil f (x ∷ xs) e = cc

within : (limit : ℕ) (places : List Place) → over limit places ≡ [] → length places ≤ limit
within limit places none =
    let nothing : length (drop limit places) ≡ 0 = ap (λ (l : List Place). length l) (map_nil _ (drop limit places) none) in
    let counted : length (drop limit places) ≡ length places - limit = length-drop limit places in
    omega arith

-- ---- counts of items

more_counted : (n m k a : ℕ) → n ≡ a + 1 → m ≡ n + k → m ≡ a + (1 + k)
more_counted n m k a e h = omega arith

functions_counted : (rest : List RawItem) (a : Made) → length (after_items rest a).funcs ≡ length a.funcs + length (flat_map function_place rest)
functions_counted [] a = omega arith
functions_counted (items.Global x w v literal ∷ rest) a = functions_counted rest (after_item (items.Global x w v literal) a)
functions_counted (items.Mutex x ∷ rest) a = functions_counted rest (after_item (items.Mutex x) a)
functions_counted (items.Prototype h ∷ rest) a = functions_counted rest (after_item (items.Prototype h) a)
functions_counted (items.Function h end body ∷ rest) a =
    let next = functions_counted rest (after_item (items.Function h end body) a) in
    let one : length (a.funcs ++ function_of a.names h end body ∷ []) ≡ length a.funcs + 1 = length-append a.funcs (function_of a.names h end body ∷ []) in
    omega arith

globals_counted : (rest : List RawItem) (a : Made) → length (after_items rest a).globals ≡ length a.globals + length (flat_map global_place rest)
globals_counted [] a = omega arith
globals_counted (items.Global x w v literal ∷ rest) a =
    let next = globals_counted rest (after_item (items.Global x w v literal) a) in
    let one : length (after_item (items.Global x w v literal) a).globals ≡ length a.globals + 1 = length-append a.globals _ in
    omega arith
globals_counted (items.Mutex x ∷ rest) a = globals_counted rest (after_item (items.Mutex x) a)
globals_counted (items.Prototype h ∷ rest) a = globals_counted rest (after_item (items.Prototype h) a)
globals_counted (items.Function h end body ∷ rest) a = globals_counted rest (after_item (items.Function h end body) a)

mutexes_counted : (rest : List RawItem) (a : Made) → length (after_items rest a).mutexes ≡ length a.mutexes + length (flat_map mutex_place rest)
mutexes_counted [] a = omega arith
mutexes_counted (items.Global x w v literal ∷ rest) a = mutexes_counted rest (after_item (items.Global x w v literal) a)
mutexes_counted (items.Mutex x ∷ rest) a =
    let next = mutexes_counted rest (after_item (items.Mutex x) a) in
    let one : length (a.mutexes ++ x.text ∷ []) ≡ length a.mutexes + 1 = length-append a.mutexes (x.text ∷ []) in
    omega arith
mutexes_counted (items.Prototype h ∷ rest) a = mutexes_counted rest (after_item (items.Prototype h) a)
mutexes_counted (items.Function h end body ∷ rest) a = mutexes_counted rest (after_item (items.Function h end body) a)

-- ---- parameters

few : (b : Bool) (n : ℕ) → n ≤ 8 → (if b then 0 else n) ≤ 8
few true n h = omega arith
few false n h = h

params_few : (rest : List RawItem) (a : Made) → flat_map param_limit_faults rest ≡ [] → AllByRecursion (λ (f : Function). f.params ≤ 8) a.funcs → AllByRecursion (λ (f : Function). f.params ≤ 8) (after_items rest a).funcs
params_few [] a none all = all
params_few (items.Global x w v literal ∷ rest) a none all = params_few rest (after_item (items.Global x w v literal) a) none all
params_few (items.Mutex x ∷ rest) a none all = params_few rest (after_item (items.Mutex x) a) none all
params_few (items.Prototype h ∷ rest) a none all = params_few rest (after_item (items.Prototype h) a) none all
params_few (items.Function h end body ∷ rest) a none all =
    let places = map (param_place h.name.place) h.params in
    let fit : length places ≤ 8 = within 8 places (nil_left _ _ none) in
    let counted : length places ≡ length h.params = length-map h.params (param_place h.name.place) in
    params_few rest (after_item (items.Function h end body) a) (nil_right (param_limit_faults (items.Function h end body)) _ none)
    (each_append (λ (f : Function). f.params ≤ 8) a.funcs (function_of a.names h end body ∷ []) all (few (is_thread h.kind) (length h.params) (omega arith), tt))

-- ---- graphs

slots_few : (nodes : ℕ) (fs : List Function) → graph_faults nodes fs ≡ [] → AllByRecursion (λ (f : Function). length (graph_of f).slots ≤ 128) fs
slots_few nodes [] none = tt
slots_few nodes (f ∷ fs) none = ((sizes_kept nodes f (nil_left _ _ none)).0, slots_few (nodes + length (graph_of f).nodes) fs (nil_right (size_faults nodes f) _ none))

nodes_few : (nodes : ℕ) (fs : List Function) → nodes ≤ 4096 → graph_faults nodes fs ≡ [] → nodes + sum (map (λ (g : FuncGraph). length g.nodes) (map graph_of fs)) ≤ 4096
nodes_few nodes [] few none = omega arith
nodes_few nodes (f ∷ fs) few none =
    let kept = (sizes_kept nodes f (nil_left _ _ none)).1 in
    let rest = nodes_few (nodes + length (graph_of f).nodes) fs kept (nil_right (size_faults nodes f) _ none) in
    let whole : sum (map (λ (g : FuncGraph). length g.nodes) (map graph_of (f ∷ fs))) ≡ length (graph_of f).nodes + sum (map (λ (g : FuncGraph). length g.nodes) (map graph_of fs)) = sum_by-cons (λ (n : ℕ). n) (length (graph_of f).nodes) (map (λ (g : FuncGraph). length g.nodes) (map graph_of fs)) in
    omega arith

-- ---- the whole tree

pub within_sizes : (raw : RawUnit) → tree_faults raw ≡ [] → IsWithinSizes (unit_of raw)
within_sizes raw none =
    let start = nothing_made raw.items in
    let unit_none = nil_left (unit_faults raw) _ none in
    let graphs_none = nil_right (unit_faults raw) _ none in
    let limits = nil_right (no_main_faults (unit_of raw).funcs) _ (nil_right (items_faults raw.items start) _ unit_none) in
    let behind_functions = nil_right (over 128 (flat_map function_place raw.items)) _ limits in
    let behind_params = nil_right (flat_map param_limit_faults raw.items) _ behind_functions in
    let functions = within 128 (flat_map function_place raw.items) (nil_left _ _ limits) in
    let globals = within 64 (flat_map global_place raw.items) (nil_left _ _ behind_params) in
    let mutexes = within 8 (flat_map mutex_place raw.items) (nil_right (over 64 (flat_map global_place raw.items)) _ behind_params) in
    let functions_are = functions_counted raw.items start in
    let globals_are = globals_counted raw.items start in
    let mutexes_are = mutexes_counted raw.items start in
    let nodes = nodes_few 0 (unit_of raw).funcs (omega arith) graphs_none in
    record {
      functions = omega arith;
      globals = omega arith;
      mutexes = omega arith;
      params = All-from_recursion (λ (f : Function). f.params ≤ 8) (unit_of raw).funcs (params_few raw.items start (nil_left _ _ behind_functions) tt);
      slots = All-from_recursion (λ (f : Function). length (graph_of f).slots ≤ 128) (unit_of raw).funcs (slots_few 0 (unit_of raw).funcs graphs_none);
      nodes = omega arith;
    }

-- a tree without a fault has a program that an analysis takes
pub tree_formed : (raw : RawUnit) → IsSpelled raw.items → tree_faults raw ≡ [] → IsFormed (program_of (unit_of raw))
tree_formed raw spelled none = programs_are_formed (unit_of raw) (made_unit raw spelled (nil_left (unit_faults raw) _ none)) (within_sizes raw none)
