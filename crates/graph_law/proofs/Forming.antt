-- The program of a well-made unit is formed.
use Rattle.std.proofs.Common.{◌≡◌, ◌≢◌, refl, sym, ap, ◌∙◌, subst, ℕ, zero, suc, ◌<◌, ◌≤◌, List, [], ◌∷◌, ◌++◌, length, map, sum, Some, arith, length-append}
use Rattle.std.specs.Prelude.{slice_get, All, AllPairs}
use Rattle.std.proofs.lemmas.List.{length-map}
use Rattle.std.specs.List.{sum_by}
use Rattle.std.proofs.lemmas.List.Sums.{sum_by-cons, sum-map}
use Rattle.std.proofs.lemmas.List.Elements.{All-from_recursion}
use Rattle.gob_tree.specs.Formed.{IsFormedEdge, IsFormedFunction, names_of}
use Rattle.gob_tree.specs.Widths.{returned_width}
use Rattle.gob_tree.specs.WellMade.{IsWellMade, IsWellMadeFunction, unit_names}
use Rattle.gob_tree.specs.declared.expr.Width.TheVariants.{W32}
use Rattle.gob_tree.specs.declared.unit.Function.{Function}
use Rattle.gob_tree.specs.declared.unit.GlobalDecl.{GlobalDecl}
use Rattle.gob_tree.specs.declared.unit.Unit.{Unit as TranslationUnit}
use Rattle.gob_tree.specs.declared.unit.FuncKind.TheVariants.{Int}
use Rattle.gob_tree.specs.declared.graph.Edge.{Edge}
use Rattle.gob_tree.specs.declared.graph.FuncGraph.{FuncGraph}
use Rattle.gob_tree.proofs.Induct.{Each}
use Rattle.c_meaning.specs.Graph.{MarkedEdge, next_node, lowering_of, temporary, first_flow, body_route, flow_of, graph_of, graph_slots, program_of}
use Rattle.graph_law.specs.Forming.{IsWithinSizes, ProgramsAreFormed, HasWidths, WidthsAreDeclared, EdgesAreFew}
use Rattle.graph_law.proofs.Decoding.{all_get, all_from_each, each_change, each_map, graph_found, returns_the_same}
use Rattle.graph_law.proofs.Widening.{append_none, Grew, sequence_grew, every_grew}
use Rattle.graph_law.proofs.FineHoists.{FineEdge, shown, formed_more, widths_more}
use Rattle.graph_law.proofs.FineStmts.{flow_fine}

pub edges_are_few : EdgesAreFew
edges_are_few f =
    let g = (sequence_grew (map lowering_of f.body) (every_grew f.body) body_route (first_flow f)).few in
    let e = length-map (flow_of f).edges (λ m. m.edge) in
    omega (arith, g, e)

-- ---- programs

flow_grew : (f : Function) → Grew 0 2 (first_flow f) (flow_of f)
flow_grew f = sequence_grew (map lowering_of f.body) (every_grew f.body) body_route (first_flow f)

mapped_twice : {A B C : Type 0} (g : B → C) (h : A → B) (xs : List A) → map g (map h xs) ≡ map (λ x. g (h x)) xs
mapped_twice g h [] = refl
mapped_twice g h (x ∷ xs) = ap (λ l. g (h x) ∷ l) (mapped_twice g h xs)

same_names : (unit : TranslationUnit) → names_of (program_of unit) ≡ unit_names unit
same_names unit =
    ap (λ (names : List (List ℕ)). names ++ map (λ (g : GlobalDecl). g.name) unit.globals ++ unit.mutexes)
    (mapped_twice (λ (g : FuncGraph). g.name) graph_of unit.funcs)

-- what holds of the k-th member of a list holds of the list
each_from : {A : Type 0} (P : A → Type 0) (xs : List A) → ((k : ℕ) (x : A) → slice_get xs k ≡ Some x → P x) → Each P xs
each_from P [] go = tt
each_from P (x ∷ xs) go = (go 0 x refl, each_from P xs (λ k y e. go (suc k) y e))

part_of_sum : {A : Type 0} (size : A → ℕ) (xs : List A) (k : ℕ) (x : A) → slice_get xs k ≡ Some x → size x ≤ sum_by size xs
part_of_sum size [] k x e = absurd (cc)
part_of_sum size (y ∷ ys) zero x e = let same_one : y ≡ x = cc in let s = ap size same_one in let all = sum_by-cons size y ys in omega (arith, s, all)
part_of_sum size (y ∷ ys) (suc k) x e = let le = part_of_sum size ys k x e in let all = sum_by-cons size y ys in omega (arith, le, all)

module _ (unit : TranslationUnit) (made : IsWellMade unit) where
  here : (f : Function) (k : ℕ) → slice_get unit.funcs k ≡ Some f → IsWellMadeFunction unit f
  here f k at = all_get (IsWellMadeFunction unit) unit.funcs k f made.functions at

  has_slots : (f : Function) (k : ℕ) → slice_get unit.funcs k ≡ Some f → 0 < length f.slots
  has_slots f k at = let p = (here f k at).returned_and_params in omega (arith, p)

  -- an edge of a function's graph
  fine : (f : Function) (k : ℕ) → slice_get unit.funcs k ≡ Some f → Each (FineEdge unit f (graph_slots f) (next_node (flow_of f))) (flow_of f).edges
  fine f k at = (flow_fine unit f made (has_slots f k at) (here f k at)).1

  edge_formed : (f : Function) (m : MarkedEdge) → FineEdge unit f (graph_slots f) (next_node (flow_of f)) m → IsFormedEdge (program_of unit) (graph_of f) m.edge
  edge_formed f m h = record {
    begins = h.0;
    ends = h.1;
    not_at_entry = h.2;
    action = formed_more (program_of unit) (shown unit f (graph_slots f)) (graph_of f) (omega arith) refl m.edge.act h.3.0;
  }

  edge_widths : (f : Function) (m : MarkedEdge) → FineEdge unit f (graph_slots f) (next_node (flow_of f)) m → HasWidths (program_of unit) (graph_of f) m.edge.act
  edge_widths f m h = widths_more (program_of unit) (shown unit f (graph_slots f)) (graph_of f) [] (append_none (graph_slots f)) m.edge.act h.3.0 h.3.1

  module _ (sizes : IsWithinSizes unit) where
    function_formed : (k : ℕ) (f : Function) → slice_get unit.funcs k ≡ Some f → IsFormedFunction (program_of unit) (graph_of f)
    function_formed k f at = record {
      entry_and_exit = let n = (flow_grew f).nodes in omega (arith, n);
      returned_and_params = let p = (here f k at).returned_and_params in let e = length-append f.slots (map temporary (flow_of f).temps) in omega (arith, p, e);
      params_limit = all_get (λ (g : Function). g.params ≤ 8) unit.funcs k f sizes.params at;
      slots_limit = all_get (λ (g : Function). length (graph_of g).slots ≤ 128) unit.funcs k f sizes.slots at;
      edges_limit =
          let few = edges_are_few f in
          let part = part_of_sum (λ (g : Function). length (graph_of g).nodes) unit.funcs k f at in
          let all = ap sum (mapped_twice (λ (g : FuncGraph). length g.nodes) graph_of unit.funcs) ∙ sum-map (λ (g : Function). length (graph_of g).nodes) unit.funcs in
          let most = sizes.nodes in
          omega (arith, few, part, all, most);
      edges_formed =
          All-from_recursion (IsFormedEdge (program_of unit) (graph_of f)) (graph_of f).edges
          (all_from_each (IsFormedEdge (program_of unit) (graph_of f)) (graph_of f).edges
          (each_map (λ (m : MarkedEdge). m.edge) (IsFormedEdge (program_of unit) (graph_of f)) (flow_of f).edges
          (each_change (FineEdge unit f (graph_slots f) (next_node (flow_of f))) (λ m. IsFormedEdge (program_of unit) (graph_of f) m.edge) (flow_of f).edges (edge_formed f) (fine f k at))));
      thread_has_no_params = (here f k at).thread_has_no_params;
    }

pub programs_are_formed : ProgramsAreFormed
programs_are_formed unit made sizes = record {
  main_there =
      graph_found unit unit.main (λ f. (f.kind ≡ Int) × (f.params ≡ 0) × (returned_width f.slots ≡ W32)) (λ f. (f.kind ≡ Int) × (f.params ≡ 0) × (returned_width f.slots ≡ W32))
      (λ called at h. (h.0, h.1, returns_the_same unit unit.main called made at ∙ h.2)) made.main_there;
  names_differ = subst (AllPairs (λ (a b : List ℕ). a ≢ b)) (sym (same_names unit)) made.names_differ;
  functions_formed =
      All-from_recursion (IsFormedFunction (program_of unit)) (program_of unit).funcs
      (all_from_each (IsFormedFunction (program_of unit)) (program_of unit).funcs
      (each_map graph_of (IsFormedFunction (program_of unit)) unit.funcs (each_from (λ f. IsFormedFunction (program_of unit) (graph_of f)) unit.funcs (function_formed unit made sizes))));
  initials_fit = made.initials_fit;
  functions_limit = let e = length-map unit.funcs graph_of in let n = sizes.functions in omega (arith, e, n);
  nodes_limit = sizes.nodes;
  globals_limit = sizes.globals;
  mutexes_limit = sizes.mutexes;
}

pub widths_are_declared : WidthsAreDeclared
widths_are_declared unit made =
    All-from_recursion OfFunction unit.funcs
    (all_from_each OfFunction unit.funcs
    (each_from OfFunction unit.funcs
    (λ k f at.
    All-from_recursion (OfEdge f) (graph_of f).edges
    (all_from_each (OfEdge f) (graph_of f).edges
    (each_map (λ (m : MarkedEdge). m.edge) (OfEdge f) (flow_of f).edges
    (each_change (FineEdge unit f (graph_slots f) (next_node (flow_of f))) (λ m. OfEdge f m.edge) (flow_of f).edges (edge_widths unit made f) (fine unit made f k at)))))))
  where
    OfEdge : Function → Edge → Type 0
    OfEdge f e = HasWidths (program_of unit) (graph_of f) e.act

    OfFunction : Function → Type 0
    OfFunction f = All (λ (e : Edge). HasWidths (program_of unit) (graph_of f) e.act) (graph_of f).edges
