-- Sizes and widths of the examples, worked out.
use Rattle.std.proofs.Common.{◌≡◌, ◌∙◌, refl, sym, ap, subst, ℕ, zero, suc, ◌+◌, ◌*◌, ◌≤◌, pos, List, [], ◌∷◌, ◌++◌, length, map, replicate, None, Some, arith}
use Rattle.std.specs.Prelude.{All, sum}
use Rattle.std.proofs.lemmas.List.{length-append, length-replicate}
use Rattle.std.proofs.lemmas.List.Sums.{sum_by-cons}
use Rattle.std.proofs.lemmas.List.Elements.{All-head, All-replicate}
use Rattle.gob_tree.specs.Formed.{node_count}
use Rattle.gob_tree.specs.declared.expr.Width.{Width}
use Rattle.gob_tree.specs.declared.expr.Width.TheVariants.{W32, W64}
use Rattle.gob_tree.specs.declared.graph.Action.TheVariants.{Read, Call, Skip}
use Rattle.gob_tree.specs.declared.graph.FuncGraph.{FuncGraph}
use Rattle.gob_tree.specs.declared.place.Place.{Place}
use Rattle.gob_tree.specs.declared.unit.Function.{Function}
use Rattle.c_meaning.specs.Graph.{FlowGraph, Lowering, Route, lowering_of, sequence, body_route, first_flow, flow_of, graph_of, program_of, route_from, route_to, temporary, with_edge, with_node, next_node}
use Rattle.c_meaning.specs.Samples.{place, int_slot, global}
use Rattle.c_meaning.proofs.Lowerings.{lowering-Empty}
use Rattle.graph_law.specs.Forming.{IsWithinSizes, HasWidths}
use Rattle.graph_law.specs.FormingExamples.{nothing, sized, unit_of, full_function, full_unit, small_function, too_many_functions, too_many_globals, too_many_mutexes, too_many_params, too_many_slots, too_many_nodes, int_function, two_widths}

-- ---- a body of empty statements

record Grows (n : ℕ) (d e : FlowGraph) : Type 0 where
  nodes : length e.nodes ≡ n + length d.nodes
  temps : e.temps ≡ d.temps

nothing_lowered : (r : Route) (d : FlowGraph) → (lowering_of nothing).lower r d ≡ with_edge r.from Skip r.to d
nothing_lowered r d = ap (λ (l : Lowering). l.lower r d) (lowering-Empty (place 2 3))

one_grows : (r : Route) (d e : FlowGraph) → e ≡ with_edge r.from Skip r.to d → Grows 0 d e
one_grows r d e is = record {
  nodes = omega (arith, ap (λ (g : FlowGraph). length g.nodes) is);
  temps = ap (λ (g : FlowGraph). g.temps) is;
}

more_nodes : (place : Place) (d : FlowGraph) → length (with_node place d).nodes ≡ length d.nodes + 1
more_nodes place d = length-append d.nodes (place ∷ [])

sequence_grows : (n : ℕ) (r : Route) (d : FlowGraph) → Grows n d (sequence (map lowering_of (replicate (suc n) nothing)) r d)
sequence_grows zero r d = one_grows r d _ (nothing_lowered r d)
sequence_grows (suc n) r d =
    let opened = with_node (lowering_of nothing).start d in
    let first = (lowering_of nothing).lower (route_to (next_node d) r) opened in
    let begun : Grows 0 opened first = one_grows (route_to (next_node d) r) opened first (nothing_lowered (route_to (next_node d) r) opened) in
    let rest : Grows n first (sequence (map lowering_of (replicate (suc n) nothing)) (route_from (next_node d) r) first) = sequence_grows n (route_from (next_node d) r) first in
    record {
      nodes = omega (arith, rest.nodes, begun.nodes, more_nodes (lowering_of nothing).start d);
      temps = rest.temps ∙ begun.temps;
    }

-- the graph of such a body
sized_grows : (params slots more : ℕ) → Grows more (first_flow (sized params slots more)) (flow_of (sized params slots more))
sized_grows params slots more = sequence_grows more body_route (first_flow (sized params slots more))

sized_nodes : (params slots more : ℕ) → length (graph_of (sized params slots more)).nodes ≡ more + 3
sized_nodes params slots more = (sized_grows params slots more).nodes

sized_slots : (params slots more : ℕ) → length (graph_of (sized params slots more)).slots ≡ slots
sized_slots params slots more =
    ap (λ (temps : List Width). length (replicate slots int_slot ++ map temporary temps)) (sized_grows params slots more).temps
    ∙ omega (arith, length-append (replicate slots int_slot) (map temporary []), length-replicate slots int_slot)

-- ---- sizes

abbrev FewParams : Function → Type 0
FewParams f = f.params ≤ 8

abbrev FewSlots : Function → Type 0
FewSlots f = length (graph_of f).slots ≤ 128

abbrev nodes_in : List Function → ℕ
nodes_in fs = sum (map (λ (g : FuncGraph). length g.nodes) (map graph_of fs))

one_more : (f : Function) (fs : List Function) → nodes_in (f ∷ fs) ≡ length (graph_of f).nodes + nodes_in fs
one_more f fs = sum_by-cons (λ (n : ℕ). n) (length (graph_of f).nodes) (map (λ (g : FuncGraph). length g.nodes) (map graph_of fs))

full_nodes : (n : ℕ) → nodes_in (replicate n full_function) ≡ n * 32
full_nodes zero = refl
full_nodes (suc n) = omega (arith, one_more full_function (replicate n full_function), full_nodes n, sized_nodes 8 128 29)

pub within : IsWithinSizes full_unit
within = record {
  functions = omega (arith, length-replicate 128 full_function);
  globals = omega (arith, length-replicate 64 (global (pos 0)));
  mutexes = omega (arith, length-replicate {A = List ℕ} 8 []);
  params = All-replicate FewParams 128 full_function (omega arith);
  slots = All-replicate FewSlots 128 full_function (omega (arith, sized_slots 8 128 29));
  nodes = omega (arith, full_nodes 128);
}

pub functions : ¬ IsWithinSizes too_many_functions
functions sizes = omega (arith, sizes.functions, length-replicate 129 small_function)

pub globals : ¬ IsWithinSizes too_many_globals
globals sizes = omega (arith, sizes.globals, length-replicate 65 (global (pos 0)))

pub mutexes : ¬ IsWithinSizes too_many_mutexes
mutexes sizes = omega (arith, sizes.mutexes, length-replicate {A = List ℕ} 9 [])

pub params : ¬ IsWithinSizes too_many_params
params sizes = omega (arith, All-head FewParams (sized 9 10 0) [] sizes.params)

pub slots : ¬ IsWithinSizes too_many_slots
slots sizes = omega (arith, All-head FewSlots (sized 0 129 0) [] sizes.slots, sized_slots 0 129 0)

pub nodes : ¬ IsWithinSizes too_many_nodes
nodes sizes =
    omega (arith, sizes.nodes, one_more (sized 8 128 30) (replicate 127 full_function), sized_nodes 8 128 30, full_nodes 127)

-- ---- widths

differ : W32 ≡ W64 → ⊥
differ same = cc

pub long_read_into_int : ¬ HasWidths two_widths int_function (Read 0 1)
long_read_into_int same = differ same

pub int_read_into_long : ¬ HasWidths two_widths int_function (Read 1 0)
int_read_into_long same = differ (sym same)

pub long_result_into_int : ¬ HasWidths two_widths int_function (Call (Some 0) 1 [])
long_result_into_int same = differ same

pub no_function : ¬ HasWidths two_widths int_function (Call (Some 0) 2 [])
no_function there = there
