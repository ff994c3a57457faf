-- `&&` and `||` whose right operand has inputs.
use Rattle.std.proofs.Common.{◌≡◌, ◌⊎◌, inl, inr, ◌∙◌, refl, sym, ap, subst, ℕ, ◌+◌, ◌<◌, ℤ, pos, Bool, true, false, List, [], length, take, Option, None, Some, Result, Ok, Err, arith}
use Rattle.std.specs.Prelude.{◌&&◌, ◌||◌, if◌then◌else◌, not, slice_set}
use Rattle.std.specs.Int.{int_wrap}
use Rattle.std.proofs.lemmas.List.{append-nil}
use Rattle.gob_tree.specs.declared.place.Place.{Place}
use Rattle.gob_tree.specs.declared.expr.BinOp.{BinOp}
use Rattle.gob_tree.specs.declared.expr.BinOp.TheVariants.{Ne, And, Or}
use Rattle.gob_tree.specs.declared.expr.Expr.{Expr, Number, Local, Binary}
use Rattle.gob_tree.specs.declared.expr.Expr.TheOpen.{Expr-F}
use Rattle.gob_tree.specs.declared.expr.Width.{Width}
use Rattle.gob_tree.specs.declared.expr.Width.TheVariants.{W32}
use Rattle.gob_tree.specs.declared.graph.Action.TheVariants as actions
use Rattle.gob_tree.specs.declared.unit.Function.{Function}
use Rattle.gob_tree.specs.declared.unit.Slot.{Slot}
use Rattle.gob_tree.proofs.Folds.{fold-Number}
use Rattle.c_meaning.specs.declared.demand.Demand.{Demand}
use Rattle.c_meaning.specs.Demand.{Answer, Meaning, and_then, binary_value, binary_width, conversion, decided_or, demand_of, early_value, is_zero, meaning_step, on_answer, slot_width, truth, value_of, wider, width_of, with_slot}
use Rattle.c_meaning.specs.Graph.{FlowGraph, HoistState, Hoisting, free_temp, graph_slots, logic_join, next_node, node_of, number_or_next, temp_slot, with_node, with_silent, with_temp}
use Rattle.c_meaning.specs.GraphStep.{local_slots, same_truth, with_value}
use Rattle.c_meaning.specs.Walk.{Moment}
use Rattle.c_meaning.proofs.Growth.{node_more}
use Rattle.graph_law.specs.Laying.{HasEdge}
use Rattle.graph_law.proofs.Decoding.{taken, taking_at}
use Rattle.graph_law.proofs.Extending.{extends_edge}
use Rattle.graph_law.proofs.Widening.{grew_edge, temp_grew}
use Rattle.hoist_law.specs.Along.{Along, stays, silently}
use Rattle.hoist_law.specs.Hoisting.{Within}
use Rattle.hoist_law.proofs.Agreeing.{Agree, AreThere, HasValue, IsTaken, agree_less, agree_same, agree_set, agree_then, temp_taken}
use Rattle.hoist_law.proofs.Fetching.{graph_room, graph_width, has_local, last_edge, within_before}
use Rattle.hoist_law.proofs.Leaving.{silent_edges_are_done}
use Rattle.hoist_law.proofs.Meeting.{Arrives, Expected, Has, Hoists, N, Runs, along_then, at, binary_answer, local_wide, then_runs}

-- ---- the operators

-- what the left operand's truth decides
pub record Decides (op : BinOp) (stop : Bool) : Type 0 where
  pub wide : (v w : Width) → binary_width op v w ≡ W32
  pub early : (n : ℤ) → not (is_zero n) ≡ stop → early_value op n ≡ Some (truth stop)
  pub late : (n : ℤ) → not (is_zero n) ≡ not stop → early_value op n ≡ None
  pub value : (w : Width) (n m : ℤ) → not (is_zero n) ≡ not stop → binary_value op w n m ≡ Ok (truth (not (is_zero m)))

turned : (b c : Bool) → not b ≡ c → b ≡ not c
turned true c e = ap not e
turned false c e = ap not e

pub and_decides : Decides And false
and_decides = record {
  wide = λ v w. refl;
  early = λ n is. ap (λ (b : Bool). if b then Some (pos 0) else None) (turned (is_zero n) false is);
  late = λ n is. ap (λ (b : Bool). if b then Some (pos 0) else None) (turned (is_zero n) true is);
  value = λ w n m is. ap (λ (b : Bool). Ok (truth (b && not (is_zero m)))) is;
}

pub or_decides : Decides Or true
or_decides = record {
  wide = λ v w. refl;
  early = λ n is. ap (λ (b : Bool). if b then None else Some (pos 1)) (turned (is_zero n) true is);
  late = λ n is. ap (λ (b : Bool). if b then None else Some (pos 1)) (turned (is_zero n) false is);
  value = λ w n m is. ap (λ (b : Bool). Ok (truth (b || not (is_zero m)))) is;
}

truth_fits : (b : Bool) → conversion W32 (truth b) ≡ truth b
unfolding int_wrap
truth_fits true = refl
truth_fits false = refl

same_truths : (b c : Bool) → c ≡ b → same_truth b c ≡ true
same_truths true c e = e
same_truths false c e = ap not e

either_truth : (b stop : Bool) → (b ≡ stop) ⊎ (b ≡ not stop)
either_truth true true = inl refl
either_truth true false = inr refl
either_truth false true = inr refl
either_truth false false = inl refl

-- ---- silent edges

guard_done : (slots : List Slot) (e : Expr) (b : Bool) (values : List ℤ) (n : ℤ) → value_of e slots values ≡ Ok n → not (is_zero n) ≡ b → local_slots slots (actions.Guard e b) values ≡ Some values
guard_done slots e b values n is truth_is =
    ap (λ (r : Result ℤ Demand). with_value r (λ k. if same_truth b (not (is_zero k)) then Some values else None)) is
    ∙ ap (λ (c : Bool). if c then Some values else None) (same_truths b (not (is_zero n)) truth_is)

assign_done : (slots : List Slot) (t : ℕ) (e : Expr) (b : Bool) (values : List ℤ) → slot_width slots t ≡ W32 → value_of e slots values ≡ Ok (truth b) → local_slots slots (actions.Assign t e) values ≡ Some (slice_set values t (truth b))
assign_done slots t e b values wide is =
    ap (λ (r : Result ℤ Demand). with_value r (λ k. Some (with_slot slots t k values))) is
    ∙ ap (λ (w : Width). Some (slice_set values t (conversion w (truth b)))) wide
    ∙ ap (λ (v : ℤ). Some (slice_set values t v)) (truth_fits b)

number_value : (slots : List Slot) (values : List ℤ) (n : ℤ) (w : Width) → demand_of (Number n w) slots values [] ≡ (Ok n, [])
number_value slots values n w = ap (λ (m : Meaning). m.answer slots values []) (fold-Number Meaning meaning_step n w)

-- an expression's truth, as the graph has it
truth_value : (slots : List Slot) (values : List ℤ) (e : Expr) (m : ℤ) → demand_of e slots values [] ≡ (Ok m, []) → value_of (Binary Ne e (Number (pos 0) W32)) slots values ≡ Ok (truth (not (is_zero m)))
truth_value slots values e m is =
    let w = wider (width_of e slots) (width_of (Number (pos 0) W32) slots) in
    ap (λ (a : Answer ℤ). a.0)
    (binary_answer Ne e (Number (pos 0) W32) slots values m is
    ∙ ap (λ (a : Answer ℤ). and_then a (λ k rest'. (binary_value Ne w m k, rest'))) (number_value slots values (pos 0) W32))

module _ (f : Function) (op : BinOp) (stop : Bool) (decides : Decides op stop) (ma mb : Meaning) (ha hb : Hoisting) (eb : Expected f mb hb) (place : Place) (s : HoistState) (named : s.flow.named ≡ N f) (l : Hoists f ma ha place s) (grew : (ha.hoist place s).1.flow.named ≡ s.flow.named) where
  abbrev left : Expr
  left = (ha.hoist place s).0

  abbrev middle : HoistState
  middle = (ha.hoist place s).1

  abbrev t : ℕ
  t = temp_slot W32 middle

  abbrev p : ℕ
  p = next_node middle.flow

  abbrev taking_one : HoistState
  taking_one = with_temp W32 middle

  abbrev nodes : FlowGraph
  nodes = with_node place (with_node place (with_node place taking_one.flow))

  abbrev one_guard : FlowGraph
  one_guard = with_silent taking_one.at (actions.Guard left true) p nodes

  abbrev guards : FlowGraph
  guards = with_silent taking_one.at (actions.Guard left false) (p + 1) one_guard

  abbrev decided : FlowGraph
  decided = with_silent (node_of stop p (p + 1)) (actions.Assign t (Number (truth stop) W32)) (p + 2) guards

  abbrev from : HoistState
  from = record taking_one { flow = decided; at = node_of stop (p + 1) p }

  abbrev right : Expr
  right = (hb.hoist place from).0

  abbrev last : HoistState
  last = (hb.hoist place from).1

  abbrev drawn : FlowGraph
  drawn = with_silent last.at (actions.Assign t (Binary Ne right (Number (pos 0) W32))) (p + 2) last.flow

  module _ (win : Within f drawn) where
    win_last : Within f last.flow
    win_last = within_before f last.flow drawn (extends_edge true last.at (actions.Assign t (Binary Ne right (Number (pos 0) W32))) (p + 2) last.flow) (grew_edge true last.at (actions.Assign t (Binary Ne right (Number (pos 0) W32))) (p + 2) last.flow) win

    win_decided : Within f decided
    win_decided = within_before f decided last.flow (eb.extends place from) (eb.grows place from) win_last

    win_guards : Within f guards
    win_guards = within_before f guards decided (extends_edge true (node_of stop p (p + 1)) (actions.Assign t (Number (truth stop) W32)) (p + 2) guards) (grew_edge true (node_of stop p (p + 1)) (actions.Assign t (Number (truth stop) W32)) (p + 2) guards) win_decided

    win_one : Within f one_guard
    win_one = within_before f one_guard guards (extends_edge true taking_one.at (actions.Guard left false) (p + 1) one_guard) (grew_edge true taking_one.at (actions.Guard left false) (p + 1) one_guard) win_guards

    taken_at : taking_one.at ≡ middle.at
    taken_at = taking_at W32 (free_temp W32 middle) middle

    guard_edge : (b : Bool) → HasEdge f true middle.at (actions.Guard left b) (node_of b p (p + 1))
    guard_edge true = subst (λ (node : ℕ). HasEdge f true node (actions.Guard left true) p) taken_at (last_edge f true taking_one.at (actions.Guard left true) p nodes win_one.edges)
    guard_edge false = subst (λ (node : ℕ). HasEdge f true node (actions.Guard left false) (p + 1)) taken_at (last_edge f true taking_one.at (actions.Guard left false) (p + 1) one_guard win_guards.edges)

    decided_edge : HasEdge f true (node_of stop p (p + 1)) (actions.Assign t (Number (truth stop) W32)) (p + 2)
    decided_edge = last_edge f true (node_of stop p (p + 1)) (actions.Assign t (Number (truth stop) W32)) (p + 2) guards win_decided.edges

    join_edge : HasEdge f true last.at (actions.Assign t (Binary Ne right (Number (pos 0) W32))) (p + 2)
    join_edge = last_edge f true last.at (actions.Assign t (Binary Ne right (Number (pos 0) W32))) (p + 2) last.flow win.edges

    middle_named : middle.flow.named ≡ N f
    middle_named = grew ∙ named

    from_named : from.flow.named ≡ N f
    from_named = (temp_grew W32 (free_temp W32 middle) middle).named ∙ middle_named

    temp : IsTaken middle taking_one (number_or_next (free_temp W32 middle) middle)
    temp = temp_taken W32 middle l.there

    from_there : AreThere from
    from_there =
        let one = with_node place taking_one.flow in
        let a = node_more taking_one.flow place in
        let b = node_more one place in
        let c = node_more (with_node place one) place in
        let two = temp.there.1 in
        (temp.there.0, omega (arith, a, b, c, two))

    r : Hoists f mb hb place from
    r = eb.meets place from from_named from_there win_last

    t_wide : slot_width (graph_slots f) t ≡ W32
    t_wide = let there = taken f W32 middle middle_named in graph_width f decided win_decided t there.there ∙ there.width

    number : t ≡ N f + number_or_next (free_temp W32 middle) middle
    number = ap (λ (k : ℕ). k + number_or_next (free_temp W32 middle) middle) middle_named

    below : (values : List ℤ) → length values ≡ length (graph_slots f) → N f + number_or_next (free_temp W32 middle) middle < length values
    below values room =
        let bound = graph_room f decided win_decided in
        let there = (taken f W32 middle middle_named).there in
        let is = number in
        omega (arith, bound, there, is, room)

    -- the temporary gets the truth
    set_agrees : (values : List ℤ) (v : ℤ) → Agree (N f) middle.taken values (slice_set values t v)
    set_agrees values v =
        subst (λ (x : ℕ). Agree (N f) middle.taken values (slice_set values x v)) (sym number) (agree_set (N f) middle.taken values (number_or_next (free_temp W32 middle) middle) v temp.fresh)

    set_has : (values : List ℤ) (v : ℤ) → length values ≡ length (graph_slots f) → Has f last.taken (Local t) v (slice_set values t v)
    set_has values v room =
        let j = number_or_next (free_temp W32 middle) middle in
        subst (λ (x : ℕ). HasValue (graph_slots f) (N f) last.taken (Local x) (slice_set values x v) v) (sym number)
        (has_local (graph_slots f) (N f) last.taken j values v (r.kept j temp.taken) (below values room))

    left_value : (n : ℤ) (new : List ℤ) → Has f middle.taken left n new → value_of left (graph_slots f) new ≡ Ok n
    left_value n new has = ap (λ (a : Answer ℤ). a.0) (has new (agree_same (N f) middle.taken new))

    -- over the guard of the left operand's truth
    over_guard : (n : ℤ) (b : Bool) (new : List ℤ) (ins : List ℤ) (end : Moment) → Has f middle.taken left n new → not (is_zero n) ≡ b → Along f ins (at f (node_of b p (p + 1)) new) end → Along f ins (at f middle.at new) end
    over_guard n b new ins end has truth_is way =
        let step = silent_edges_are_done f (actions.Guard left b) (node_of b p (p + 1)) (at f middle.at new) new (guard_edge b) (guard_done (graph_slots f) left b new n (left_value n new has) truth_is) in
        silently (at f middle.at new) (at f (node_of b p (p + 1)) new) end ins step.0 step.1 way

    -- the left operand decides
    early_arrives : (n : ℤ) (new rest : List ℤ) → length new ≡ length (graph_slots f) → Has f middle.taken left n new → not (is_zero n) ≡ stop → Arrives f middle (p + 2) new rest rest (Has f last.taken (Local t) (truth stop))
    early_arrives n new rest room has truth_is =
        let value = ap (λ (a : Answer ℤ). a.0) (number_value (graph_slots f) new (truth stop) W32) in
        let next = slice_set new t (truth stop) in
        let from_node = node_of stop p (p + 1) in
        let step = silent_edges_are_done f (actions.Assign t (Number (truth stop) W32)) (p + 2) (at f from_node new) next decided_edge (assign_done (graph_slots f) t (Number (truth stop) W32) stop new t_wide value) in
        let way = silently (at f from_node new) (at f (p + 2) next) (at f (p + 2) next) [] step.0 step.1 (stays (at f (p + 2) next)) in
        ([], next, refl, over_guard n stop new [] (at f (p + 2) next) has truth_is way, set_agrees new (truth stop), set_has new (truth stop) room)

    goes_on : (b : Bool) → b ≡ not stop → node_of b p (p + 1) ≡ node_of stop (p + 1) p
    goes_on b is = ap (λ (c : Bool). node_of c p (p + 1)) is ∙ other stop
      where
        other : (c : Bool) → node_of (not c) p (p + 1) ≡ node_of c (p + 1) p
        other true = refl
        other false = refl

    -- over the other guard to where the right operand begins
    to_right : (n : ℤ) (new ins : List ℤ) (end : Moment) → Has f middle.taken left n new → not (is_zero n) ≡ not stop → Along f ins (at f from.at new) end → Along f ins (at f middle.at new) end
    to_right n new ins end has truth_is way =
        over_guard n (not stop) new ins end has truth_is (subst (λ (node : ℕ). Along f ins (at f node new) end) (sym (goes_on (not stop) refl)) way)

    before_kept : (a b : List ℤ) → Agree (N f) from.taken a b → Agree (N f) middle.taken a b
    before_kept a b agree = agree_less (N f) from.taken middle.taken a b temp.kept agree

    -- the right operand's value goes into the temporary
    right_arrives : (n m : ℤ) (new rest left_over : List ℤ) → length new ≡ length (graph_slots f) → Has f middle.taken left n new → not (is_zero n) ≡ not stop → Arrives f from last.at new rest left_over (Has f last.taken right m)
        → Arrives f middle (p + 2) new rest left_over (Has f last.taken (Local t) (truth (not (is_zero m))))
    right_arrives n m new rest left_over room has truth_is a =
        let v = truth (not (is_zero m)) in
        let value = truth_value (graph_slots f) a.1 right m (a.5 a.1 (agree_same (N f) last.taken a.1)) in
        let next = slice_set a.1 t v in
        let step = silent_edges_are_done f (actions.Assign t (Binary Ne right (Number (pos 0) W32))) (p + 2) (at f last.at a.1) next join_edge
        (assign_done (graph_slots f) t (Binary Ne right (Number (pos 0) W32)) (not (is_zero m)) a.1 t_wide value) in
        let end = silently (at f last.at a.1) (at f (p + 2) next) (at f (p + 2) next) [] step.0 step.1 (stays (at f (p + 2) next)) in
        let way = subst (λ (used : List ℤ). Along f used (at f from.at new) (at f (p + 2) next)) (append-nil a.0) (along_then f a.0 [] (at f from.at new) (at f last.at a.1) (at f (p + 2) next) a.3 end) in
        (a.0, next, a.2, to_right n new a.0 (at f (p + 2) next) has truth_is way, agree_then (N f) middle.taken new a.1 next (before_kept new a.1 a.4) (set_agrees a.1 v), set_has a.1 v (a.4.room ∙ room))

    right_runs : (n : ℤ) (new rest : List ℤ) (a : Result ℤ Demand) (left_over : List ℤ) (wide : Width) → length new ≡ length (graph_slots f) → Has f middle.taken left n new → not (is_zero n) ≡ not stop → Runs f from last.at new rest (Has f last.taken right) a left_over
        → Runs f middle (p + 2) new rest (Has f last.taken (Local t)) (on_answer a left_over (λ m rest'. (binary_value op wide n m, rest'))).0 (on_answer a left_over (λ m rest'. (binary_value op wide n m, rest'))).1
    right_runs n new rest (Ok m) left_over wide room has truth_is runs =
        subst (λ (x : Result ℤ Demand). Runs f middle (p + 2) new rest (Has f last.taken (Local t)) x left_over) (sym (decides.value wide n m truth_is)) (right_arrives n m new rest left_over room has truth_is runs)
    right_runs n new rest (Err d) left_over wide room has truth_is runs = elim runs [
      | inl fault ↦ inl fault
      | inr lacks ↦ inr (lacks.0, lacks.1, to_right n new rest (at f lacks.0 lacks.1) has truth_is lacks.2, before_kept new lacks.1 lacks.3, lacks.4)
    ]

    left_runs : (values ins : List ℤ) → length values ≡ length (graph_slots f) → (wide : Width) (a : Result ℤ Demand) (rest : List ℤ) → Runs f s middle.at values ins (Has f middle.taken left) a rest
        → Runs f s (p + 2) values ins (Has f last.taken (Local t))
        (on_answer a rest (λ n left_over. decided_or (early_value op n) left_over (and_then (mb.answer f.slots (take (N f) values) left_over) (λ m rest'. (binary_value op wide n m, rest'))))).0
        (on_answer a rest (λ n left_over. decided_or (early_value op n) left_over (and_then (mb.answer f.slots (take (N f) values) left_over) (λ m rest'. (binary_value op wide n m, rest'))))).1
    left_runs values ins room wide (Err d) rest runs = runs
    left_runs values ins room wide (Ok n) rest a =
        let answer = mb.answer f.slots (take (N f) values) rest in
        let late = and_then answer (λ m rest'. (binary_value op wide n m, rest')) in
        let P = λ (o : Option ℤ). Runs f s (p + 2) values ins (Has f last.taken (Local t)) (decided_or o rest late).0 (decided_or o rest late).1 in
        elim (either_truth (not (is_zero n)) stop) [
          | inl early ↦ subst P (sym (decides.early n early))
              (then_runs f s middle (p + 2) values ins rest a.1 a.0 (Has f last.taken (Local t)) (Ok (truth stop)) rest l.kept a.2 a.3 a.4 (early_arrives n a.1 rest (a.4.room ∙ room) a.5 early))
          | inr goes ↦
              let runs = subst (λ (named : List ℤ). Runs f from last.at a.1 rest (Has f last.taken right) (mb.answer f.slots named rest).0 (mb.answer f.slots named rest).1) (sym a.4.named) (r.runs a.1 rest (a.4.room ∙ room)) in
              subst P (sym (decides.late n goes))
              (then_runs f s middle (p + 2) values ins rest a.1 a.0 (Has f last.taken (Local t)) late.0 late.1 l.kept a.2 a.3 a.4 (right_runs n a.1 rest answer.0 answer.1 wide (a.4.room ∙ room) a.5 goes runs))
        ]

    pub logic_hoists : (b : Bool) → Hoists f (meaning_step (Expr-F.Binary op ma mb)) (record { inputs = b; hoist = λ pl st. logic_join stop hb pl (ha.hoist pl st) }) place s
    logic_hoists b = record {
      wide = local_wide f t W32 t_wide ∙ sym (decides.wide (ma.width f.slots) (mb.width f.slots));
      kept = λ k one. r.kept k (temp.kept k (l.kept k one));
      there = r.there;
      runs = λ values ins room. let a = ma.answer f.slots (take (N f) values) ins in left_runs values ins room (wider (ma.width f.slots) (mb.width f.slots)) a.0 a.1 (l.runs values ins room);
    }
