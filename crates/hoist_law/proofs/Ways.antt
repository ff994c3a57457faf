-- Ways over silent edges and inputs, and the moment along inputs.
use Rattle.std.proofs.Common.{◌≡◌, ◌∙◌, refl, sym, ap, ℕ, zero, suc, ℤ, List, [], ◌∷◌, ◌++◌, length, Option, None, Some}
use Rattle.std.specs.Option.{option_and_then}
use Rattle.gob_tree.specs.declared.unit.Slot.{Slot}
use Rattle.gob_tree.specs.declared.unit.Function.{Function}
use Rattle.c_meaning.specs.Graph.{MarkedEdge, flow_of, graph_slots}
use Rattle.c_meaning.specs.Walk.{Moment, moment_along, moment_with_input, settled_from, settled_or, settled_within, silent_from}
use Rattle.c_meaning.proofs.Settling.{silent_edges_run_out}
use Rattle.hoist_law.specs.Along.{stays, silently, takes}
use Rattle.hoist_law.specs.Laws.{WaysLeadOn}

-- ---- settling

module _ (slots : List Slot) (edges : List MarkedEdge) where
  abbrev Found : Type 0
  Found = Option (ℕ × Moment)

  -- where nothing more can be done after k edges, k + 1 lead to the same moment
  one_more : (k : ℕ) (m : Moment) → silent_from slots edges 0 (settled_within k slots edges m).1 ≡ None → (settled_within (suc k) slots edges m).1 ≡ (settled_within k slots edges m).1
  one_more zero m none = ap (λ (o : Found). (settled_or m (settled_within 0 slots edges) o).1) none
  one_more (suc k) m none = go (silent_from slots edges 0 m) (λ next. one_more k next) none
    where
      go : (o : Found) → ((next : Moment) → silent_from slots edges 0 (settled_within k slots edges next).1 ≡ None → (settled_within (suc k) slots edges next).1 ≡ (settled_within k slots edges next).1)
          → silent_from slots edges 0 (settled_or m (settled_within k slots edges) o).1 ≡ None
          → (settled_or m (settled_within (suc k) slots edges) o).1 ≡ (settled_or m (settled_within k slots edges) o).1
      go None again rests = refl
      go (Some next) again rests = again next.1 rests

  -- one silent edge, and then the others
  after_one : (k : ℕ) (m mid : Moment) (e : ℕ) → silent_from slots edges 0 m ≡ Some (e, mid) → (settled_within (suc k) slots edges m).1 ≡ (settled_within k slots edges mid).1
  after_one k m mid e done = ap (λ (o : Found). (settled_or m (settled_within k slots edges) o).1) done

  pub rested : (k : ℕ) (m : Moment) → silent_from slots edges 0 m ≡ None → (settled_within k slots edges m).1 ≡ m
  rested zero m none = refl
  rested (suc k) m none = ap (λ (o : Found). (settled_or m (settled_within k slots edges) o).1) none

-- a silent edge leads to where one settles
pub settles_after : (f : Function) (m mid : Moment) (e : ℕ) → silent_from (graph_slots f) (flow_of f).edges 0 m ≡ Some (e, mid)
    → (settled_from (graph_slots f) (flow_of f).edges m).1 ≡ (settled_from (graph_slots f) (flow_of f).edges mid).1
settles_after f m mid e done =
    let slots = graph_slots f in
    let edges = (flow_of f).edges in
    sym (one_more slots edges (length edges) m (silent_edges_run_out f m)) ∙ after_one slots edges (length edges) m mid e done

-- ---- the moment along inputs

pub along_after : (f : Function) (ins : List ℤ) (m mid : Moment) → (settled_from (graph_slots f) (flow_of f).edges m).1 ≡ (settled_from (graph_slots f) (flow_of f).edges mid).1
    → moment_along (graph_slots f) (flow_of f).edges ins m ≡ moment_along (graph_slots f) (flow_of f).edges ins mid
along_after f [] m mid same = ap (λ (x : Moment). Some x) same
along_after f (n ∷ ins) m mid same = ap (λ (x : Moment). option_and_then (moment_along (graph_slots f) (flow_of f).edges ins) (moment_with_input (flow_of f).edges n x)) same

pub along_input : (f : Function) (n : ℤ) (ins : List ℤ) (m mid : Moment) → silent_from (graph_slots f) (flow_of f).edges 0 m ≡ None → moment_with_input (flow_of f).edges n m ≡ Some mid
    → moment_along (graph_slots f) (flow_of f).edges (n ∷ ins) m ≡ moment_along (graph_slots f) (flow_of f).edges ins mid
along_input f n ins m mid none taken =
    let slots = graph_slots f in
    let edges = (flow_of f).edges in
    ap (λ (x : Moment). option_and_then (moment_along slots edges ins) (moment_with_input edges n x)) (rested slots edges (length edges) m none)
    ∙ ap (option_and_then (moment_along slots edges ins)) taken

pub ways_lead_on : WaysLeadOn
ways_lead_on f _ rest _ _ (stays m) = refl
ways_lead_on f _ rest _ _ (silently m mid last ins e done way) = along_after f (ins ++ rest) m mid (settles_after f m mid e done) ∙ ways_lead_on f ins rest mid last way
ways_lead_on f _ rest _ _ (takes m mid last n ins none taken way) = along_input f n (ins ++ rest) m mid none taken ∙ ways_lead_on f ins rest mid last way
