-- An input that is fetched into a temporary.
use Rattle.std.proofs.Common.{◌≡◌, ◌∙◌, sym, ap, subst, ℕ, ◌+◌, ◌<◌, ◌≤◌, ℤ, pos, Bool, false, List, [], ◌∷◌, ◌++◌, length, map, Some, Ok, arith, append_assoc, length-append}
use Rattle.std.specs.Prelude.{slice_set}
use Rattle.std.specs.List.{Contains}
use Rattle.std.specs.Option.{option_map}
use Rattle.std.proofs.lemmas.List.{get_or-set_same, length-map, map-append}
use Rattle.std.proofs.lemmas.List.Elements.{Contains-append_left, Contains-push}
use Rattle.gob_tree.specs.declared.place.Place.{Place}
use Rattle.gob_tree.specs.declared.expr.Expr.{Local}
use Rattle.gob_tree.specs.declared.expr.Width.{Width}
use Rattle.gob_tree.specs.declared.graph.Action.{Action}
use Rattle.gob_tree.specs.declared.unit.Function.{Function}
use Rattle.gob_tree.specs.declared.unit.Slot.{Slot}
use Rattle.gob_tree.proofs.Folds.{fold-Local}
use Rattle.c_meaning.specs.Demand.{Meaning, demand_of, meaning_step, slot_width, value_at}
use Rattle.c_meaning.specs.Graph.{FlowGraph, HoistState, MarkedEdge, fetch, flow_of, free_temp, graph_slots, number_or_next, slots_with, temp_slot, temporary, with_marked, with_node, with_temp}
use Rattle.c_meaning.specs.Walk.{Moment, input_slot}
use Rattle.c_meaning.proofs.Growth.{node_more}
use Rattle.graph_law.specs.Laying.{Extends, HasEdge}
use Rattle.graph_law.proofs.Decoding.{taken, taking_at, width_more}
use Rattle.graph_law.proofs.Extending.{extends_then}
use Rattle.graph_law.proofs.Widening.{Grew}
use Rattle.hoist_law.specs.Along.{Along, stays, takes}
use Rattle.hoist_law.specs.Hoisting.{IsFetch, Within}
use Rattle.hoist_law.proofs.Agreeing.{Agree, AreThere, HasValue, IsIn, agree_set, temp_taken}
use Rattle.hoist_law.proofs.Leaving.{inputs_are_taken}

pub within_before : (f : Function) (a b : FlowGraph) {l m : ℕ} → Extends a b → Grew l m a b → Within f b → Within f a
within_before f a b extends grew w = record {
  named = sym grew.named ∙ w.named;
  edges = extends_then a b (flow_of f) extends w.edges;
  more = grew.added ++ w.more;
  temps = w.temps ∙ ap (λ (ts : List Width). ts ++ w.more) grew.temps ∙ append_assoc a.temps grew.added w.more;
}

-- an edge that was drawn last is one of the function's
pub last_edge : (f : Function) (silent : Bool) (from : ℕ) (act : Action) (to : ℕ) (d : FlowGraph) → Extends (with_marked silent from act to d) (flow_of f) → HasEdge f silent from act to
last_edge f silent from act to d e =
    let edge : MarkedEdge = record { edge = record { from = from; act = act; to = to }; silent = silent } in
    subst (λ (es : List MarkedEdge). Contains es edge) (sym e.edges) (Contains-append_left (d.edges ++ edge ∷ []) e.more edge (Contains-push d.edges edge))

-- the temporaries of a graph on the way have the widths that they have in the function's
pub graph_width : (f : Function) (d : FlowGraph) (w : Within f d) (x : ℕ) → x < length (slots_with f d) → slot_width (graph_slots f) x ≡ slot_width (slots_with f d) x
graph_width f d w x below =
    let split : graph_slots f ≡ slots_with f d ++ map temporary w.more =
    ap (λ (ts : List Width). f.slots ++ map temporary ts) w.temps
    ∙ ap (λ (ss : List Slot). f.slots ++ ss) (map-append temporary d.temps w.more)
    ∙ sym (append_assoc f.slots (map temporary d.temps) (map temporary w.more)) in
    ap (λ (ss : List Slot). slot_width ss x) split ∙ width_more (slots_with f d) (map temporary w.more) x below

pub graph_room : (f : Function) (d : FlowGraph) (w : Within f d) → length (slots_with f d) ≤ length (graph_slots f)
graph_room f d w =
    let a = length-append f.slots (map temporary d.temps) in
    let b = length-append f.slots (map temporary (flow_of f).temps) in
    let c = length-map d.temps temporary in
    let e = length-map (flow_of f).temps temporary in
    let g = ap length w.temps ∙ length-append d.temps w.more in
    omega (arith, a, b, c, e, g)

-- what a fetched input does
pub record Fetched (f : Function) (w : Width) (act : ℕ → Action) (s after : HoistState) (t : ℕ) : Type 0 where
  pub edge : HasEdge f false s.at (act t) after.at
  pub wide : slot_width (graph_slots f) t ≡ w
  pub kept : (k : ℕ) → IsIn k s.taken → IsIn k after.taken
  pub there : AreThere after
  pub is_fetch : IsFetch f t after.at
  pub gets : (values : List ℤ) (n : ℤ) → length values ≡ length (graph_slots f)
      → Along f (n ∷ []) (record { node = s.at; slots = values }) (record { node = after.at; slots = slice_set values t n })
      × Agree (length f.slots) s.taken values (slice_set values t n)
      × HasValue (graph_slots f) (length f.slots) after.taken (Local t) (slice_set values t n) n

local_value : (slots : List Slot) (x : ℕ) (values : List ℤ) → demand_of (Local x) slots values [] ≡ (Ok (value_at values x), [])
local_value slots x values = ap (λ (m : Meaning). m.answer slots values []) (fold-Local Meaning meaning_step x)

pub has_local : (slots : List Slot) (n : ℕ) (ks : List ℕ) (j : ℕ) (values : List ℤ) (v : ℤ) → IsIn j ks → n + j < length values → HasValue slots n ks (Local (n + j)) (slice_set values (n + j) v) v
has_local slots n ks j values v taken below new agree =
    let same : value_at new (n + j) ≡ v = sym (agree.temps j taken) ∙ get_or-set_same values (n + j) v (pos 0) below in
    local_value slots (n + j) new ∙ ap (λ (k : ℤ). (Ok k, [])) same

pub fetch_fetched : (f : Function) (place : Place) (w : Width) (act : ℕ → Action) (s : HoistState) → s.flow.named ≡ length f.slots → AreThere s → ((t : ℕ) → input_slot (act t) ≡ Some t) → Within f (fetch place w act s).1.flow
    → Fetched f w act s (fetch place w act s).1 (temp_slot w s)
fetch_fetched f place w act s named there slot win =
    let n = length f.slots in
    let t = temp_slot w s in
    let after = (fetch place w act s).1 in
    let j = number_or_next (free_temp w s) s in
    let temp = temp_taken w s there in
    let slot_there = taken f w s named in
    let edge = subst (λ (from : ℕ). HasEdge f false from (act t) after.at) (taking_at w (free_temp w s) s)
    (last_edge f false (with_temp w s).at (act t) after.at (with_node place (with_temp w s).flow) win.edges) in
    let number : t ≡ n + j = ap (λ (k : ℕ). k + j) named in
    record {
      edge = edge;
      wide = graph_width f after.flow win t slot_there.there ∙ slot_there.width;
      kept = temp.kept;
      there = (temp.there.0, let more = node_more (with_temp w s).flow place in let two = temp.there.1 in omega (arith, more, two));
      is_fetch = (omega (arith, number), temp.there.1);
      gets = λ values v room.
          let start : Moment = record { node = s.at; slots = values } in
          let took = inputs_are_taken f (act t) after.at t start edge (slot t) in
          let way : Along f (v ∷ []) start (record { node = after.at; slots = slice_set values t v }) = takes start (record { node = after.at; slots = slice_set values t v }) (record { node = after.at; slots = slice_set values t v }) v [] took.0
          (ap (option_map (λ (to : ℕ × ℕ). record { node = to.1; slots = slice_set values to.0 v })) took.1) (stays (record { node = after.at; slots = slice_set values t v })) in
          let bound = graph_room f after.flow win in
          let in_graph = slot_there.there in
          let below : n + j < length values = omega (arith, bound, in_graph, number, room) in (
            way,
            subst (λ (x : ℕ). Agree n s.taken values (slice_set values x v)) (sym number) (agree_set n s.taken values j v temp.fresh),
            subst (λ (x : ℕ). HasValue (graph_slots f) n after.taken (Local x) (slice_set values x v) v) (sym number) (has_local (graph_slots f) n after.taken j values v temp.taken below),
          );
    }
