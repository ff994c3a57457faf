-- Where a front that has all its inputs stands, and what one waits for that lacks an input.
use Rattle.std.proofs.Common.{◌≡◌, ◌≢◌, ◌⊎◌, inl, inr, ◌∙◌, refl, sym, ap, subst, ℕ, ◌≤◌, ℤ, Bool, true, false, List, [], ◌∷◌, length, take, Option, None, Some, Result, Ok, Err, IsTrue}
use Rattle.std.specs.Prelude.{◌&&◌, if◌then◌else◌, not, nat_eq, slice_set, All}
use Rattle.std.specs.Option.{option_and_then, option_map}
use Rattle.std.proofs.lemmas.Option.{none-some, same_Some}
use Rattle.gob_tree.specs.WellMade.{is_made_expr}
use Rattle.gob_tree.specs.declared.expr.Expr.{Expr}
use Rattle.gob_tree.specs.declared.graph.Action.{Action}
use Rattle.gob_tree.specs.declared.place.Place.{Place}
use Rattle.gob_tree.specs.declared.unit.Function.{Function}
use Rattle.gob_tree.specs.declared.unit.Unit.{Unit as TranslationUnit}
use Rattle.c_meaning.specs.declared.demand.Demand.{Demand}
use Rattle.c_meaning.specs.declared.demand.Demand.TheVariants.{Fault}
use Rattle.c_meaning.specs.Demand.{demand_of, demands_of, on_answer, value_of, values_of}
use Rattle.c_meaning.specs.Graph.{FlowGraph, MarkedEdge, flow_of, graph_slots, hoisted_expr, hoisted_exprs, next_node}
use Rattle.c_meaning.specs.Tree.{only}
use Rattle.c_meaning.specs.Walk.{Moment, input_edge, input_from, input_slot, moment_along, moment_with_input, settled_from}
use Rattle.graph_law.specs.Laying.{HasEdge}
use Rattle.graph_law.specs.Leaving.{IsOneWay, leaving}
use Rattle.graph_law.proofs.Statements.{one_way_out}
use Rattle.hoist_law.specs.Hoisting.{Lacks, Meets, Reaches, WaitsFor, Within}
use Rattle.hoist_law.proofs.Demanding.{hoisting_meets_demand, hoisting_meets_demands}
use Rattle.hoist_law.proofs.Leaving.{Among, InputOf, input_by, leaves_among, same_node}
use Rattle.hoist_law.proofs.Ways.{rested}
use Rattle.stand_law.proofs.Standing.{still}

-- ---- an edge that takes no input

no_input_edge : (d : MarkedEdge) (node : ℕ) → input_slot d.edge.act ≡ None → input_edge d node ≡ None
no_input_edge d node none = ap (λ (o : Option ℕ). if nat_eq d.edge.from node && not d.silent then option_map (λ x. (x, d.edge.to)) o else None) none ∙ go (nat_eq d.edge.from node && not d.silent)
  where
    go : (b : Bool) → ◌≡◌ {A = Option (ℕ × ℕ)} (if b then None else None) None
    go true = refl
    go false = refl

no_input_among : (node : ℕ) (d : MarkedEdge) (ds : List MarkedEdge) (found : Option (ℕ × ℕ)) → input_slot d.edge.act ≡ None → Among d ds → IsOneWay ds → InputOf node ds found → found ≡ None
no_input_among node d [] found none among one takes = absurd among
no_input_among node d (a ∷ []) found none among one takes = elim among [
  | inl same ↦ takes.1 (no_input_edge a node (ap (λ (x : MarkedEdge). input_slot x.edge.act) same ∙ none))
  | inr nowhere ↦ absurd nowhere
]
no_input_among node d (a ∷ b ∷ []) found none among one takes =
    let guards = one.1 in
    (takes.1 (no_input_edge a node (ap input_slot guards.1))).1 (no_input_edge b node (ap input_slot guards.2))
no_input_among node d (a ∷ b ∷ c ∷ ds) found none among one takes = absurd one

no_input : (f : Function) (node : ℕ) (act : Action) (to : ℕ) → HasEdge f false node act to → input_slot act ≡ None → input_from (flow_of f).edges node ≡ None
no_input f node act to edge none =
    let d : MarkedEdge = record { edge = record { from = node; act = act; to = to }; silent = false } in
    no_input_among node d (leaving node (flow_of f).edges) (input_from (flow_of f).edges node) none (leaves_among f d node edge (same_node node)) (one_way_out f node) (input_by (flow_of f).edges node)

-- ---- arriving

module _ (f : Function) where
  -- The graph stands at the end of the hoisting, and this holds of its slots.
  pub record Arrived (values : List ℤ) (at : ℕ) (node : ℕ) (slots : List ℤ) (Holds : List ℤ → Type 0) : Type 0 where
    pub here : node ≡ at
    pub holds : Holds slots
    pub named : take (length f.slots) values ≡ take (length f.slots) slots
    pub room : length slots ≡ length values

  rests : (at : ℕ) (slots : List ℤ) (act : Action) (to : ℕ) → HasEdge f false at act to → (settled_from (graph_slots f) (flow_of f).edges (record { node = at; slots = slots })).1 ≡ record { node = at; slots = slots }
  rests at slots act to edge =
      rested (graph_slots f) (flow_of f).edges (length (flow_of f).edges) (record { node = at; slots = slots }) (still f (record { node = at; slots = slots }) act to edge)

  -- inputs that are left over would have to go by an edge that takes one
  none_left : (at : ℕ) (slots : List ℤ) (left : List ℤ) (act : Action) (to : ℕ) (last : Moment) → HasEdge f false at act to → (input_slot act ≡ None) ⊎ (left ≡ [])
      → moment_along (graph_slots f) (flow_of f).edges left (record { node = at; slots = slots }) ≡ Some last → last ≡ record { node = at; slots = slots }
  none_left at slots [] act to last edge none is = same_Some {A = Moment} last (record { node = at; slots = slots }) (sym is ∙ ap (λ (m : Moment). Some m) (rests at slots act to edge))
  none_left at slots (k ∷ more) act to last edge (inl none) is =
      let nothing : moment_along (graph_slots f) (flow_of f).edges (k ∷ more) (record { node = at; slots = slots }) ≡ None =
      ap (λ (m : Moment). option_and_then (moment_along (graph_slots f) (flow_of f).edges more) (moment_with_input (flow_of f).edges k m)) (rests at slots act to edge)
      ∙ ap (λ (o : Option (ℕ × ℕ)). option_and_then (moment_along (graph_slots f) (flow_of f).edges more) (option_map (λ (p : ℕ × ℕ). record { node = p.1; slots = slice_set slots p.0 k }) o)) (no_input f at act to edge none) in
      absurd (none-some last (sym nothing ∙ is))
  none_left at slots (k ∷ more) act to last edge (inr none) is = absurd (cc)

  pub arrived : {A : Type 0} (n : ℕ) (values ins : List ℤ) (at : ℕ) (Holds : A → List ℤ → Type 0) (r : Result A Demand) (left : List ℤ) (v : A) (node : ℕ) (slots : List ℤ) (act : Action) (to : ℕ)
      → Meets f n values ins at Holds r left → r ≡ Ok v
      → moment_along (graph_slots f) (flow_of f).edges ins (record { node = n; slots = values }) ≡ Some (record { node = node; slots = slots })
      → HasEdge f false at act to → (input_slot act ≡ None) ⊎ (left ≡ []) → Arrived values at node slots (Holds v)
  arrived {A} n values ins at Holds r left v node slots act to meets is along edge none =
      let reaches : Reaches f n values ins at left (Holds v) = subst (λ (x : Result A Demand). Meets f n values ins at Holds x left) is meets in
      let same = none_left at reaches.new left act to (record { node = node; slots = slots }) edge none (sym reaches.along ∙ along) in
      let slots_same : slots ≡ reaches.new = ap (λ (m : Moment). m.slots) same in
      record {
        here = ap (λ (m : Moment). m.node) same;
        holds = subst (Holds v) (sym slots_same) reaches.holds;
        named = reaches.named ∙ ap (take (length f.slots)) (sym slots_same);
        room = ap length slots_same ∙ reaches.room;
      }

  pub awaited : {A : Type 0} (n : ℕ) (values ins : List ℤ) (at : ℕ) (Holds : A → List ℤ → Type 0) (r : Result A Demand) (left : List ℤ) (missing : Demand) (node : ℕ) (slots : List ℤ)
      → Meets f n values ins at Holds r left → r ≡ Err missing → missing ≢ Fault
      → moment_along (graph_slots f) (flow_of f).edges ins (record { node = n; slots = values }) ≡ Some (record { node = node; slots = slots })
      → WaitsFor f missing node slots
  awaited {A} n values ins at Holds r left missing node slots meets is no_fault along =
      let either : (missing ≡ Fault) ⊎ Lacks f n values ins missing = subst (λ (x : Result A Demand). Meets f n values ins at Holds x left) is meets in
      elim either [
        | inl fault ↦ absurd (no_fault fault)
        | inr lacks ↦
            let there : Moment = record { node = lacks.node; slots = lacks.new } in
            let same : there ≡ record { node = node; slots = slots } = same_Some {A = Moment} there (record { node = node; slots = slots }) (sym lacks.along ∙ along) in
            subst (λ (m : Moment). WaitsFor f missing m.node m.slots) same lacks.waits
      ]

  -- ---- the expressions of a front

  -- from a node the demands of these expressions are met, with this of their values and the slots at the end
  abbrev pub Evaluates : List Expr → ℕ → ℕ → (List ℤ → List ℤ → Type 0) → Type 0
  Evaluates es n at Holds =
      (values ins : List ℤ) → length values ≡ length (graph_slots f)
      → Meets f n values ins at Holds (demands_of es f.slots (take (length f.slots) values) ins).0 (demands_of es f.slots (take (length f.slots) values) ins).1

  abbrev pub Nothing : List ℤ → List ℤ → Type 0
  Nothing vs new = Unit {0}

  pub none_evaluates : (n : ℕ) → Evaluates [] n n Nothing
  none_evaluates n values ins room = record { new = values; along = refl; room = refl; named = refl; holds = tt }

  abbrev pub HasIt : Expr → List ℤ → List ℤ → Type 0
  HasIt e vs new = value_of e (graph_slots f) new ≡ Ok (only vs)

  abbrev pub HasThem : List Expr → List ℤ → List ℤ → Type 0
  HasThem es vs new = values_of es (graph_slots f) new ≡ Ok vs

  one_meets : (e : Expr) (n at : ℕ) (values ins : List ℤ) (r : Result ℤ Demand) (left : List ℤ) → Meets f n values ins at (λ v new. value_of e (graph_slots f) new ≡ Ok v) r left
      → Meets f n values ins at (HasIt e) (on_answer r left (λ k rest. (Ok (k ∷ []), rest))).0 (on_answer r left (λ k rest. (Ok (k ∷ []), rest))).1
  one_meets e n at values ins (Ok v) left m = m
  one_meets e n at values ins (Err d) left m = m

  pub one_evaluates : (unit : TranslationUnit) (e : Expr) (place : Place) (n : ℕ) (d : FlowGraph) → IsTrue (is_made_expr unit f e) → 2 ≤ next_node d → Within f (hoisted_expr e place n d).1.flow
      → Evaluates (e ∷ []) n (hoisted_expr e place n d).1.at (HasIt (hoisted_expr e place n d).0)
  one_evaluates unit e place n d made nodes within values ins room =
      let a = demand_of e f.slots (take (length f.slots) values) ins in
      one_meets (hoisted_expr e place n d).0 n (hoisted_expr e place n d).1.at values ins a.0 a.1 (hoisting_meets_demand unit f e place n d values ins made nodes within room)

  pub all_evaluate : (unit : TranslationUnit) (es : List Expr) (place : Place) (n : ℕ) (d : FlowGraph) → All (λ (e : Expr). IsTrue (is_made_expr unit f e)) es → 2 ≤ next_node d → Within f (hoisted_exprs es place n d).1.flow
      → Evaluates es n (hoisted_exprs es place n d).1.at (HasThem (hoisted_exprs es place n d).0)
  all_evaluate unit es place n d made nodes within values ins room = hoisting_meets_demands unit f es place n d values ins made nodes within room
