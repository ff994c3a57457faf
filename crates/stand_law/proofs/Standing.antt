-- Inputs, and demands that are met.
use Rattle.std.proofs.Common.{◌≡◌, ◌⊎◌, inl, inr, ◌∙◌, refl, sym, ap, subst, ℕ, ℤ, false, List, [], ◌∷◌, ◌++◌, length, take, Option, None, Some, Ok, Err}
use Rattle.std.specs.Prelude.{slice_set}
use Rattle.std.specs.Option.{option_and_then, option_map}
use Rattle.std.proofs.lemmas.Option.{same_Some, option_and_then_some}
use Rattle.gob_tree.specs.declared.expr.Expr.{Expr}
use Rattle.gob_tree.specs.declared.graph.Action.{Action}
use Rattle.gob_tree.specs.declared.place.Place.{Place}
use Rattle.gob_tree.specs.declared.unit.Function.{Function}
use Rattle.gob_tree.specs.declared.unit.Slot.{Slot}
use Rattle.gob_tree.specs.declared.unit.Unit.{Unit as TranslationUnit}
use Rattle.c_meaning.specs.declared.demand.Demand.{Demand}
use Rattle.c_meaning.specs.declared.demand.Demand.TheVariants.{Fault}
use Rattle.c_meaning.specs.Demand.{Answer, demand_of, value_of}
use Rattle.c_meaning.specs.Graph.{FlowGraph, MarkedEdge, flow_of, graph_slots, hoisted_expr}
use Rattle.c_meaning.specs.Walk.{Moment, moment_along, moment_with_input, settled_from, silent_from}
use Rattle.graph_law.specs.Laying.{HasEdge}
use Rattle.graph_law.specs.Leaving.{IsOneWay, leaving}
use Rattle.graph_law.proofs.Statements.{one_way_out}
use Rattle.hoist_law.specs.Hoisting.{Lacks, Meets, WaitsFor}
use Rattle.hoist_law.proofs.Demanding.{hoisting_meets_demand}
use Rattle.hoist_law.proofs.Leaving.{Among, DoneOf, done_by, inputs_are_taken, leaves_among, not_silent, same_node}
use Rattle.hoist_law.proofs.Ways.{rested}
use Rattle.stand_law.specs.Laws.{InputsKeepStanding, IsHoistedAlong, MissingIsAwaited, ValuesAreThere}

-- ---- one input more

pub input_more : (slots : List Slot) (edges : List MarkedEdge) (ins : List ℤ) (m mid next : Moment) (n : ℤ) → moment_along slots edges ins m ≡ Some mid → moment_with_input edges n mid ≡ Some next
    → moment_along slots edges (ins ++ n ∷ []) m ≡ Some (settled_from slots edges next).1
input_more slots edges [] m mid next n at taken =
    ap (λ (x : Moment). option_and_then (moment_along slots edges []) (moment_with_input edges n x)) (same_Some (settled_from slots edges m).1 mid at)
    ∙ ap (option_and_then (moment_along slots edges [])) taken
input_more slots edges (i ∷ ins) m mid next n at taken =
    option_and_then_some (moment_along slots edges ins) (moment_with_input edges i (settled_from slots edges m).1) mid at (λ x first rest.
    ap (option_and_then (moment_along slots edges (ins ++ n ∷ []))) first ∙ input_more slots edges ins x mid next n rest taken)

pub inputs_keep_standing : InputsKeepStanding
inputs_keep_standing f todo named ins node slots act to t n s edge slot =
    let edges = (flow_of f).edges in
    let here : Moment = record { node = node; slots = slots } in
    let next : Moment = record { node = to; slots = slice_set slots t n } in
    let took = inputs_are_taken f act to t here edge slot in
    let taken : moment_with_input edges n here ≡ Some next = ap (option_map (λ (x : ℕ × ℕ). record { node = x.1; slots = slice_set slots x.0 n })) took.1 in
    record {
      begin = s.begin;
      values = s.values;
      begins = s.begins;
      room = s.room;
      same_named = s.same_named;
      along = input_more (graph_slots f) edges ins (record { node = s.begin; slots = s.values }) here next n s.along taken;
    }

-- ---- a node that an edge leaves which isn't silent has settled

still_among : (slots : List Slot) (m : Moment) (d : MarkedEdge) (ds : List MarkedEdge) (found : Option (ℕ × Moment)) → d.silent ≡ false → Among d ds → IsOneWay ds → DoneOf slots m ds found → found ≡ None
still_among slots m d [] found loud among one by = absurd among
still_among slots m d (a ∷ []) found loud among one by = elim among [
  | inl same ↦ by.1 (not_silent slots a m (subst (λ (x : MarkedEdge). x.silent ≡ false) (sym same) loud))
  | inr none ↦ absurd none
]
still_among slots m d (a ∷ b ∷ []) found loud among one by =
    let both : (a.silent ≡ false) × (b.silent ≡ false) = elim among [
      | inl same ↦ (let it = subst (λ (x : MarkedEdge). x.silent ≡ false) (sym same) loud in (it, sym one.0 ∙ it))
      | inr second ↦ elim second [
        | inl same ↦ (let it = subst (λ (x : MarkedEdge). x.silent ≡ false) (sym same) loud in (one.0 ∙ it, it))
        | inr none ↦ absurd none
      ]
    ] in
    (by.1 (not_silent slots a m both.0)).1 (not_silent slots b m both.1)
still_among slots m d (a ∷ b ∷ c ∷ ds) found loud among one by = absurd one

pub still : (f : Function) (m : Moment) (act : Action) (to : ℕ) → HasEdge f false m.node act to → silent_from (graph_slots f) (flow_of f).edges 0 m ≡ None
still f m act to edge =
    let d : MarkedEdge = record { edge = record { from = m.node; act = act; to = to }; silent = false } in
    still_among (graph_slots f) m d (leaving m.node (flow_of f).edges) (silent_from (graph_slots f) (flow_of f).edges 0 m) refl (leaves_among f d m.node edge (same_node m.node)) (one_way_out f m.node)
    (done_by (graph_slots f) (flow_of f).edges 0 m)

-- ---- demands

module _ (unit : TranslationUnit) (f : Function) (e : Expr) (place : Place) (n : ℕ) (d : FlowGraph) (values ins : List ℤ) (node : ℕ) (slots : List ℤ) (h : IsHoistedAlong unit f e place n d values ins node slots) where
  abbrev Met : Answer ℤ → Type 0
  Met a = Meets f n values ins (hoisted_expr e place n d).1.at (λ v new. value_of (hoisted_expr e place n d).0 (graph_slots f) new ≡ Ok v) a.0 a.1

  met : Met (demand_of e f.slots (take (length f.slots) values) ins)
  met = hoisting_meets_demand unit f e place n d values ins h.made h.nodes h.within h.room

pub values_are_there : ValuesAreThere
values_are_there unit f e place n d values ins node slots v act to h is edge =
    let end = (hoisted_expr e place n d).1.at in
    let edges = (flow_of f).edges in
    let r = subst (Met unit f e place n d values ins node slots h) is (met unit f e place n d values ins node slots h) in
    let there : Moment = record { node = end; slots = r.new } in
    let settled = rested (graph_slots f) edges (length edges) there (still f there act to edge) in
    let same : record { node = node; slots = slots } ≡ there = same_Some {A = Moment} (record { node = node; slots = slots }) there (sym h.along ∙ r.along ∙ ap (λ (m : Moment). Some m) settled) in (
      ap (λ (m : Moment). m.node) same,
      ap (λ (m : Moment). value_of (hoisted_expr e place n d).0 (graph_slots f) m.slots) same ∙ r.holds,
      ap (λ (m : Moment). take (length f.slots) m.slots) same ∙ sym r.named,
    )

awaited : (unit : TranslationUnit) (f : Function) (e : Expr) (place : Place) (n : ℕ) (d : FlowGraph) (values ins : List ℤ) (node : ℕ) (slots : List ℤ) (h : IsHoistedAlong unit f e place n d values ins node slots) (missing : Demand) (a : Answer ℤ)
    → a.0 ≡ Err missing → Met unit f e place n d values ins node slots h a → (missing ≡ Fault) ⊎ Lacks f n values ins missing
awaited unit f e place n d values ins node slots h missing (Ok v, rest) is met = absurd (cc)
awaited unit f e place n d values ins node slots h missing (Err other, rest) is met =
    let same : other ≡ missing = cc in
    subst (λ (x : Demand). (x ≡ Fault) ⊎ Lacks f n values ins x) same met

pub missing_is_awaited : MissingIsAwaited
missing_is_awaited unit f e place n d values ins node slots missing h is no_fault =
    elim (awaited unit f e place n d values ins node slots h missing (demand_of e f.slots (take (length f.slots) values) ins) is (met unit f e place n d values ins node slots h)) [
      | inl fault ↦ absurd (no_fault fault)
      | inr lacks ↦
          let there : Moment = record { node = lacks.node; slots = lacks.new } in
          let same : there ≡ record { node = node; slots = slots } = same_Some {A = Moment} there (record { node = node; slots = slots }) (sym lacks.along ∙ h.along) in (
            subst (λ (m : Moment). WaitsFor f missing m.node m.slots) same lacks.waits,
            sym (ap (λ (m : Moment). take (length f.slots) m.slots) same) ∙ sym lacks.named,
          )
    ]
