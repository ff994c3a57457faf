-- The ways of hoisted expressions, in the words of the moment along inputs.
use Rattle.std.proofs.Common.{◌≡◌, ◌≤◌, inl, inr, ◌∙◌, refl, sym, ap, ℕ, ℤ, List, [], ◌∷◌, length, map, take, None, Some, Result, Ok, Err, IsTrue}
use Rattle.std.specs.Prelude.{All}
use Rattle.std.proofs.lemmas.List.{append-nil}
use Rattle.std.proofs.lemmas.List.Elements.{All-head, All-tail}
use Rattle.gob_tree.specs.WellMade.{is_made_expr}
use Rattle.gob_tree.specs.declared.expr.Expr.{Expr}
use Rattle.gob_tree.specs.declared.graph.Action.TheVariants as actions
use Rattle.gob_tree.specs.declared.unit.Function.{Function}
use Rattle.gob_tree.specs.declared.unit.Unit.{Unit as TranslationUnit}
use Rattle.c_meaning.specs.declared.demand.Demand.{Demand}
use Rattle.c_meaning.specs.declared.demand.Demand.TheVariants.{Global, Nondet, Call, Fault}
use Rattle.c_meaning.specs.Demand.{Answer, demand_of, demands_of, meaning_of}
use Rattle.gob_tree.specs.declared.place.Place.{Place}
use Rattle.c_meaning.specs.Graph.{FlowGraph, HoistState, begun_at, flow_of, graph_slots, hoisted_expr, hoisted_exprs, hoisting_of, next_node}
use Rattle.c_meaning.specs.Walk.{Moment, moment_along, silent_from}
use Rattle.graph_law.proofs.Widening.{expr_grew, exprs_grew}
use Rattle.hoist_law.specs.Hoisting.{Lacks, Meets, Reaches, WaitsFor, Within}
use Rattle.hoist_law.specs.Laws.{HoistingKeepsWidth, HoistingMeetsDemand, HoistingMeetsDemands}
use Rattle.hoist_law.proofs.Agreeing.{agree_same}
use Rattle.hoist_law.proofs.Leaving.{inputs_are_taken}
use Rattle.hoist_law.proofs.Meeting as meeting
use Rattle.hoist_law.proofs.Ways.{rested, ways_lead_on}
use Rattle.hoist_law.proofs.Whole.{expressions_meet}

-- a node that waits for an input has settled
waits_still : (f : Function) (d : Demand) (node : ℕ) (values : List ℤ) → WaitsFor f d node values → silent_from (graph_slots f) (flow_of f).edges 0 (record { node = node; slots = values }) ≡ None
waits_still f (Global g) node values waits = (inputs_are_taken f (actions.Read waits.0 g) waits.1 waits.0 (record { node = node; slots = values }) waits.2 refl).0
waits_still f (Nondet w) node values waits = (inputs_are_taken f (actions.Nondet waits.0) waits.1 waits.0 (record { node = node; slots = values }) waits.2 refl).0
waits_still f (Call g ns) node values waits = (inputs_are_taken f (actions.Call (Some waits.0) g waits.2) waits.1 waits.0 (record { node = node; slots = values }) waits.3 refl).0
waits_still f Fault node values waits = absurd waits

module _ (f : Function) (s : HoistState) (node : ℕ) (values ins : List ℤ) where
  reaches : {A : Type 0} (Before After : A → List ℤ → Type 0) (v : A) (rest : List ℤ) → ((new : List ℤ) → Before v new → After v new) → meeting.Arrives f s node values ins rest (Before v) → Reaches f s.at values ins node rest (After v)
  reaches Before After v rest then_holds a = record {
    new = a.1;
    along = ap (λ (l : List ℤ). moment_along (graph_slots f) (flow_of f).edges l (record { node = s.at; slots = values })) a.2
        ∙ ways_lead_on f a.0 rest (record { node = s.at; slots = values }) (record { node = node; slots = a.1 }) a.3;
    room = a.4.room;
    named = a.4.named;
    holds = then_holds a.1 a.5;
  }

  lacks : (d : Demand) → meeting.Lacks f s d values ins → Lacks f s.at values ins d
  lacks d a =
      let there : Moment = record { node = a.0; slots = a.1 } in
      let slots = graph_slots f in
      let edges = (flow_of f).edges in
      record {
        node = a.0;
        new = a.1;
        along = ap (λ (l : List ℤ). moment_along slots edges l (record { node = s.at; slots = values })) (sym (append-nil ins))
            ∙ ways_lead_on f ins [] (record { node = s.at; slots = values }) there a.2
            ∙ ap (λ (m : Moment). Some m) (rested slots edges (length edges) there (waits_still f d a.0 a.1 a.4));
        named = a.3.named;
        waits = a.4;
      }

  runs_meet : {A : Type 0} (Before After : A → List ℤ → Type 0) (r : Result A Demand) (rest : List ℤ) → ((v : A) (new : List ℤ) → Before v new → After v new) → meeting.Runs f s node values ins Before r rest → Meets f s.at values ins node After r rest
  runs_meet Before After (Ok v) rest then_holds runs = reaches Before After v rest (then_holds v) runs
  runs_meet Before After (Err d) rest then_holds runs = elim runs [
    | inl fault ↦ inl fault
    | inr missing ↦ inr (lacks d missing)
  ]

-- ---- the laws

module _ (unit : TranslationUnit) (f : Function) where
  one_hoists : (e : Expr) (place : Place) (node : ℕ) (d : FlowGraph) → IsTrue (is_made_expr unit f e) → 2 ≤ next_node d → Within f (hoisted_expr e place node d).1.flow → meeting.Hoists f (meaning_of e) (hoisting_of e) place (begun_at node d)
  one_hoists e place node d made nodes win =
      (expressions_meet f unit e made).meets place (begun_at node d) (sym (expr_grew e place node d).named ∙ win.named) (λ k one. absurd one, nodes) win

pub hoisting_meets_demand : HoistingMeetsDemand
hoisting_meets_demand unit f e place node d values ins made nodes win room =
    let h = hoisted_expr e place node d in
    let runs = (one_hoists unit f e place node d made nodes win).runs values ins room in
    let answer = demand_of e f.slots (take (length f.slots) values) ins in
    runs_meet f (begun_at node d) h.1.at values ins (meeting.Has f h.1.taken h.0) _ answer.0 answer.1 (λ v new has. ap (λ (a : Answer ℤ). a.0) (has new (agree_same (length f.slots) h.1.taken new))) runs

pub hoisting_keeps_width : HoistingKeepsWidth
hoisting_keeps_width unit f e place node d made nodes win = (one_hoists unit f e place node d made nodes win).wide

each_expected : (unit : TranslationUnit) (f : Function) (es : List Expr) → All (λ (e : Expr). IsTrue (is_made_expr unit f e)) es → meeting.EachExpected f (map meaning_of es) (map hoisting_of es)
each_expected unit f [] made = tt
each_expected unit f (e ∷ es) made =
    (expressions_meet f unit e (All-head (λ (x : Expr). IsTrue (is_made_expr unit f x)) e es made), each_expected unit f es (All-tail (λ (x : Expr). IsTrue (is_made_expr unit f x)) e es made))

pub hoisting_meets_demands : HoistingMeetsDemands
hoisting_meets_demands unit f es place node d values ins made nodes win room =
    let h = hoisted_exprs es place node d in
    let all = meeting.all_meet f (map meaning_of es) (map hoisting_of es) (each_expected unit f es made) place (begun_at node d) (sym (exprs_grew es place node d).named ∙ win.named) (λ k one. absurd one, nodes) win in
    let answer = demands_of es f.slots (take (length f.slots) values) ins in
    runs_meet f (begun_at node d) h.1.at values ins (meeting.HaveValues f h.1.taken h.0) _ answer.0 answer.1
    (λ vs new have. ap (λ (a : Answer (List ℤ)). a.0) (have new (agree_same (length f.slots) h.1.taken new))) (all.runs values ins room)
