-- The edge that a choice takes.
use Rattle.std.proofs.Common.{◌≡◌, inl, inr, ◌∙◌, refl, sym, ap, subst, ℕ, zero, suc, ◌+◌, ℤ, Bool, true, false, List, [], ◌∷◌, ◌++◌, Option, None, Some, Ok, arith}
use Rattle.std.specs.Prelude.{if◌then◌else◌, nat_eq, slice_get}
use Rattle.std.specs.Option.{option_map, option_map_or, option_and_then}
use Rattle.std.proofs.lemmas.Option.{none-some, same_Some, slice_get-map}
use Rattle.gob_tree.specs.declared.expr.Expr.{Expr}
use Rattle.gob_tree.specs.declared.graph.Action.{Action}
use Rattle.gob_tree.specs.declared.graph.Action.TheVariants.{Guard, Call}
use Rattle.gob_tree.specs.declared.graph.Edge.{Edge}
use Rattle.gob_tree.specs.declared.graph.Program.{Program}
use Rattle.gob_tree.specs.declared.unit.Function.{Function}
use Rattle.gob_tree.specs.declared.unit.Slot.{Slot}
use Rattle.gob_tree.specs.declared.unit.Unit.{Unit as TranslationUnit}
use Rattle.c_meaning.specs.Config.{Config, thread_at}
use Rattle.c_meaning.specs.Demand.{values_of}
use Rattle.c_meaning.specs.Graph.{MarkedEdge, MarkedProgram, flow_of, marked_of, program_of}
use Rattle.c_meaning.specs.GraphStep.{Acted, Do, Enter, Frame, Label, Next, Site, action_effect, after_call, after_edge, after_entry, after_push, edge_at, frame_moved, func_slots, local_slots, site_after, slots_effect, thread_after, with_value}
use Rattle.c_meaning.specs.Walk.{EdgeStep, Walked, after_moves, edge_step, edge_step_or, first_edge_step, frames_at, label_of, marked_edges_at, moves_by, top_edges, walk_on}
use Rattle.graph_law.specs.Laying.{HasEdge}
use Rattle.graph_law.specs.Leaving.{AreOpposite, IsOneWay, leaving}
use Rattle.graph_law.proofs.Guards.{one_guard_at_most}
use Rattle.graph_law.proofs.Settling.{edges_match}
use Rattle.graph_law.proofs.Statements.{one_way_out}
use Rattle.hoist_law.proofs.Leaving.{Among, among_leaving, get_contained, same_node}
use Rattle.move_law.specs.Choosing.{IsAt, site_of}

-- ---- the first edge that is found

module _ (m : MarkedProgram) (t : ℕ) (input : ℤ) (w : Walked) where
  abbrev pub walks_by : ℕ → MarkedEdge → Option Walked
  walks_by e d = walk_on m.program t input (label_of e d.edge.act ∷ []) w

  abbrev stepped : MarkedEdge → Option Walked → EdgeStep
  stepped d o = if d.silent then None else option_map (λ next. (d.edge.act, next)) o

  -- an edge among these, from the i-th on, that isn't silent and can be taken
  pub record Found (ds : List MarkedEdge) (i : ℕ) (found : EdgeStep) : Type 0 where
    pub place : ℕ
    pub edge : MarkedEdge
    pub next : Walked
    pub there : slice_get ds place ≡ Some edge
    pub loud : edge.silent ≡ false
    pub walks : walks_by (i + place) edge ≡ Some next
    pub is : found ≡ Some (edge.edge.act, next)

  here_done : (d : MarkedEdge) (i : ℕ) (o : Option Walked) → d.silent ≡ false → walks_by i d ≡ o → edge_step m t input w i d ≡ option_map (λ next. (d.edge.act, next)) o
  here_done d i o loud walks =
      ap (λ (b : Bool). if b then None else option_map (λ next. (d.edge.act, next)) (walks_by i d)) loud
      ∙ ap (option_map (λ next. (d.edge.act, next))) walks

  found_here : (d : MarkedEdge) (ds : List MarkedEdge) (i : ℕ) (next : Walked) (later : EdgeStep) → d.silent ≡ false → walks_by i d ≡ Some next → Found (d ∷ ds) i (edge_step_or (edge_step m t input w i d) later)
  found_here d ds i next later loud walks =
      let same : i ≡ i + 0 = omega arith in
      record {
        place = 0;
        edge = d;
        next = next;
        there = refl;
        loud = loud;
        walks = subst (λ (e : ℕ). walks_by e d ≡ Some next) same walks;
        is = ap (λ (s : EdgeStep). edge_step_or s later) (here_done d i (Some next) loud walks);
      }

  found_later : (d : MarkedEdge) (ds : List MarkedEdge) (i : ℕ) (later : EdgeStep) → edge_step m t input w i d ≡ None → Found ds (i + 1) later → Found (d ∷ ds) i (edge_step_or (edge_step m t input w i d) later)
  found_later d ds i later none f =
      let same : (i + 1) + f.place ≡ i + suc f.place = omega arith in
      record {
        place = suc f.place;
        edge = f.edge;
        next = f.next;
        there = f.there;
        loud = f.loud;
        walks = subst (λ (e : ℕ). walks_by e f.edge ≡ Some f.next) same f.walks;
        is = ap (λ (s : EdgeStep). edge_step_or s later) none ∙ f.is;
      }

  pub first_found : (ds : List MarkedEdge) (i k : ℕ) (d : MarkedEdge) (next : Walked) → slice_get ds k ≡ Some d → d.silent ≡ false → walks_by (i + k) d ≡ Some next → Found ds i (first_edge_step m t input w i ds)
  first_found [] i k d next at loud walks = absurd (none-some d at)
  first_found (x ∷ ds) i zero d next at loud walks =
      let same : x ≡ d = same_Some x d at in
      let number : i + 0 ≡ i = omega arith in
      found_here x ds i next (first_edge_step m t input w (i + 1) ds) (subst (λ (y : MarkedEdge). y.silent ≡ false) (sym same) loud)
      (subst (λ (y : MarkedEdge). walks_by i y ≡ Some next) (sym same) (subst (λ (e : ℕ). walks_by e d ≡ Some next) number walks))
  first_found (x ∷ ds) i (suc k) d next at loud walks =
      let number : i + suc k ≡ (i + 1) + k = omega arith in
      go x.silent (walks_by i x) refl refl (first_found ds (i + 1) k d next at loud (subst (λ (e : ℕ). walks_by e d ≡ Some next) number walks))
    where
      go : (b : Bool) (o : Option Walked) → x.silent ≡ b → walks_by i x ≡ o → Found ds (i + 1) (first_edge_step m t input w (i + 1) ds) → Found (x ∷ ds) i (edge_step_or (edge_step m t input w i x) (first_edge_step m t input w (i + 1) ds))
      go true o silent is later = found_later x ds i (first_edge_step m t input w (i + 1) ds) (ap (λ (b : Bool). if b then None else option_map (λ next. (x.edge.act, next)) (walks_by i x)) silent) later
      go false None silent is later = found_later x ds i (first_edge_step m t input w (i + 1) ds) (here_done x i None silent is) later
      go false (Some here) silent is later = found_here x ds i here (first_edge_step m t input w (i + 1) ds) silent is

-- ---- one edge can be taken

-- a guard that isn't done can't be taken
abbrev Able : List Slot → List ℤ → MarkedEdge → Type 0
Able slots values d = (x : Expr) (wanted : Bool) → d.edge.act ≡ Guard x wanted → local_slots slots d.edge.act values ≡ None → ⊥

opposite_able : (slots : List Slot) (values : List ℤ) (a b : MarkedEdge) → AreOpposite a b → Able slots values a → Able slots values b → ⊥
opposite_able slots values a b opposite able_a able_b = elim (one_guard_at_most a b slots values opposite) [
  | inl none ↦ able_a opposite.1.0 true opposite.1.1 none
  | inr none ↦ able_b opposite.1.0 false opposite.1.2 none
]

as_first : (slots : List Slot) (values : List ℤ) (x a : MarkedEdge) → x ≡ a → Able slots values a → Able slots values x
as_first slots values x a same able = subst (Able slots values) (sym same) able

only_one : (slots : List Slot) (values : List ℤ) (ds : List MarkedEdge) (a b : MarkedEdge) → IsOneWay ds → Among a ds → Among b ds → Able slots values a → Able slots values b → a ≡ b
only_one slots values [] a b one in_a in_b able_a able_b = absurd in_a
only_one slots values (x ∷ []) a b one in_a in_b able_a able_b = elim in_a [
  | inl first ↦ elim in_b [ inl second ↦ sym first ∙ second | inr none ↦ absurd none ]
  | inr none ↦ absurd none
]
only_one slots values (x ∷ y ∷ []) a b one in_a in_b able_a able_b = elim in_a [
  | inl a_x ↦ elim in_b [
    | inl b_x ↦ sym a_x ∙ b_x
    | inr rest ↦ elim rest [
      | inl b_y ↦ absurd (opposite_able slots values x y one (as_first slots values x a a_x able_a) (as_first slots values y b b_y able_b))
      | inr none ↦ absurd none
    ]
  ]
  | inr rest_a ↦ elim rest_a [
    | inl a_y ↦ elim in_b [
      | inl b_x ↦ absurd (opposite_able slots values x y one (as_first slots values x b b_x able_b) (as_first slots values y a a_y able_a))
      | inr rest ↦ elim rest [ inl b_y ↦ sym a_y ∙ b_y | inr none ↦ absurd none ]
    ]
    | inr none ↦ absurd none
  ]
]
only_one slots values (x ∷ y ∷ z ∷ ds) a b one in_a in_b able_a able_b = absurd one

-- ---- what a label does

if_some : (b : Bool) (x : Next) (c : Config Frame) → (if b then x else None) ≡ Some c → b ≡ true
if_some true x c is = refl
if_some false x c is = absurd (none-some c is)

if_none : (b : Bool) → ◌≡◌ {A = Next} (if b then None else None) None
if_none true = refl
if_none false = refl

done_as : (s : Site) (e : ℕ) (edge : Edge) → edge_at s.program s.frame.func e ≡ Some edge → site_after s (Do e) ≡ after_edge s edge
done_as s e edge at = ap (option_and_then (after_edge s)) at

entered_as : (s : Site) (e : ℕ) (edge : Edge) → edge_at s.program s.frame.func e ≡ Some edge → site_after s (Enter e) ≡ after_entry s e edge
entered_as s e edge at = ap (option_and_then (after_entry s e)) at

leaves_by : (s : Site) (e : ℕ) (edge : Edge) (c : Config Frame) → edge_at s.program s.frame.func e ≡ Some edge → (act : Action) → site_after s (label_of e act) ≡ Some c → nat_eq edge.from s.frame.node ≡ true
leaves_by s e edge c at (Call d g args) is = if_some (nat_eq edge.from s.frame.node) (after_call s e edge.act) c (sym (entered_as s e edge at) ∙ is)
leaves_by s e edge c at other is =
    if_some (nat_eq edge.from s.frame.node) (option_map (frame_moved s edge.to) (action_effect s (func_slots s.program s.frame.func) edge.act)) c
    (sym (done_as s e edge at) ∙ is)

label_same : (e : ℕ) (act : Action) (x : Expr) (wanted : Bool) → act ≡ Guard x wanted → label_of e act ≡ Do e
label_same e act x wanted is = ap (label_of e) is

guard_able : (s : Site) (e : ℕ) (d : MarkedEdge) (c : Config Frame) → edge_at s.program s.frame.func e ≡ Some d.edge → site_after s (label_of e d.edge.act) ≡ Some c → Able (func_slots s.program s.frame.func) s.frame.slots d
guard_able s e d c at is x wanted guard none =
    let slots = func_slots s.program s.frame.func in
    let leaves = nat_eq d.edge.from s.frame.node in
    let undone : local_slots slots (Guard x wanted) s.frame.slots ≡ None = ap (λ (act : Action). local_slots slots act s.frame.slots) (sym guard) ∙ none in
    let nothing : after_edge s d.edge ≡ None =
    ap (λ (act : Action). if leaves then option_map (frame_moved s d.edge.to) (action_effect s slots act) else None) guard
    ∙ ap (λ (o : Option (List ℤ)). if leaves then option_map (frame_moved s d.edge.to) (option_map (slots_effect s) o) else None) undone
    ∙ if_none leaves in
    none-some c (sym (ap (site_after s) (label_same e d.edge.act x wanted guard) ∙ done_as s e d.edge at ∙ nothing) ∙ is)

-- one label of a thread
and_then_same : (p : Program) (o : Next) → option_and_then (after_moves p []) o ≡ o
and_then_same p None = refl
and_then_same p (Some c) = refl

abbrev pub with_move : ℕ → ℤ → Label → Walked → Config Frame → Walked
with_move t input label w c = record { moves = w.moves ++ moves_by t input (label ∷ []); config = c }

pub walk_one : (p : Program) (t : ℕ) (input : ℤ) (w : Walked) (g : Frame) (gs : List Frame) (label : Label) → thread_at w.config.threads t ≡ Some (g ∷ gs)
    → walk_on p t input (label ∷ []) w ≡ option_map (with_move t input label w) (site_after (record { program = p; config = w.config; thread = t; input = input; frame = g; below = gs }) label)
walk_one p t input w g gs label at =
    ap (λ (o : Option (List Frame)). option_map (with_move t input label w) (option_and_then (after_moves p []) (option_and_then (thread_after p w.config t input label) o))) at
    ∙ ap (option_map (with_move t input label w)) (and_then_same p (site_after (record { program = p; config = w.config; thread = t; input = input; frame = g; below = gs }) label))

moved_config : (t : ℕ) (input : ℤ) (label : Label) (w next : Walked) (o : Next) → option_map (with_move t input label w) o ≡ Some next → o ≡ Some next.config
moved_config t input label w next None is = absurd (none-some next is)
moved_config t input label w next (Some c) is = ap (λ (x : Walked). Some x.config) (same_Some (with_move t input label w c) next is)

-- ---- the edge that is taken

-- A choice takes this edge, which is there at some place; its label leads to the configuration.
pub record Takes (unit : TranslationUnit) (w : Walked) (t : ℕ) (input : ℤ) (g : Frame) (gs : List Frame) (act : Action) (to : ℕ) : Type 0 where
  pub next : Walked
  pub place : ℕ
  pub first : first_edge_step (marked_of unit) t input w 0 (top_edges (marked_of unit) (frames_at w t)) ≡ Some (act, next)
  pub edge : edge_at (program_of unit) g.func place ≡ Some (record { from = g.node; act = act; to = to })
  pub leads : site_after (site_of unit w t input g gs) (label_of place act) ≡ Some next.config

module _ (unit : TranslationUnit) (w : Walked) (t : ℕ) (input : ℤ) (g : Frame) (gs : List Frame) (f : Function) (here : IsAt unit w t g gs f) where
  abbrev site : Site
  site = site_of unit w t input g gs

  abbrev edges : List MarkedEdge
  edges = marked_edges_at (marked_of unit) g.func

  same_edges : edges ≡ (flow_of f).edges
  same_edges =
      ap (λ (o : Option (List MarkedEdge)). option_map_or (λ es. es) o [])
      (slice_get-map (λ (x : Function). (flow_of x).edges) unit.funcs g.func ∙ ap (option_map (λ (x : Function). (flow_of x).edges)) here.func)

  same_top : top_edges (marked_of unit) (frames_at w t) ≡ edges
  same_top = ap (λ (o : Option (List Frame)). top_edges (marked_of unit) (option_map_or (λ frames. frames) o [])) here.frames

  leads_by : (e : ℕ) (label : Label) (next : Walked) → walk_on (program_of unit) t input (label ∷ []) w ≡ Some next → site_after site label ≡ Some next.config
  leads_by e label next walks = moved_config t input label w next (site_after site label) (sym (walk_one (program_of unit) t input w g gs label here.frames) ∙ walks)

  walks_to : (label : Label) (c : Config Frame) → site_after site label ≡ Some c → walk_on (program_of unit) t input (label ∷ []) w ≡ Some (with_move t input label w c)
  walks_to label c leads = walk_one (program_of unit) t input w g gs label here.frames ∙ ap (option_map (with_move t input label w)) leads

  -- the k-th edge is among those that leave the node, where its label can be taken
  among : (k : ℕ) (d : MarkedEdge) (c : Config Frame) → slice_get edges k ≡ Some d → site_after site (label_of k d.edge.act) ≡ Some c → Among d (leaving g.node (flow_of f).edges)
  among k d c at leads =
      among_leaving g.node (flow_of f).edges k d (subst (λ (es : List MarkedEdge). slice_get es k ≡ Some d) same_edges at)
      (leaves_by site k d.edge c (edges_match unit g.func k d at) d.edge.act leads)

  takes_at : (k : ℕ) (d : MarkedEdge) (c : Config Frame) → slice_get edges k ≡ Some d → d.silent ≡ false → site_after site (label_of k d.edge.act) ≡ Some c → Found (marked_of unit) t input w edges 0 (first_edge_step (marked_of unit) t input w 0 edges)
      → Takes unit w t input g gs d.edge.act d.edge.to
  takes_at k d c at loud leads found =
      let at_found = edges_match unit g.func found.place found.edge found.there in
      let number : 0 + found.place ≡ found.place = omega arith in
      let walks = subst (λ (e : ℕ). walk_on (program_of unit) t input (label_of e found.edge.edge.act ∷ []) w ≡ Some found.next) number found.walks in
      let leads_found = leads_by found.place (label_of found.place found.edge.edge.act) found.next walks in
      let slots = func_slots (program_of unit) g.func in
      let same : found.edge ≡ d =
      only_one slots g.slots (leaving g.node (flow_of f).edges) found.edge d (one_way_out f g.node)
      (among found.place found.edge found.next.config found.there leads_found) (among k d c at leads)
      (guard_able site found.place found.edge found.next.config at_found leads_found)
      (guard_able site k d c (edges_match unit g.func k d at) leads) in
      let from : d.edge.from ≡ g.node = nat_same d.edge.from g.node (leaves_by site k d.edge c (edges_match unit g.func k d at) d.edge.act leads) in
      record {
        next = found.next;
        place = found.place;
        first = ap (first_edge_step (marked_of unit) t input w 0) same_top ∙ found.is ∙ ap (λ (x : MarkedEdge). Some (x.edge.act, found.next)) same;
        edge = at_found ∙ ap (λ (x : MarkedEdge). Some x.edge) same ∙ ap (λ (n : ℕ). Some (record { from = n; act = d.edge.act; to = d.edge.to })) from;
        leads = subst (λ (x : MarkedEdge). site_after site (label_of found.place x.edge.act) ≡ Some found.next.config) same leads_found;
      }
    where
      nat_same : (a b : ℕ) → nat_eq a b ≡ true → a ≡ b
      nat_same a b is = grind (arith, is)

  -- an edge that leaves the node, whose label can be taken wherever the edge stands
  pub takes_edge : (act : Action) (to : ℕ) → HasEdge f false g.node act to
      → ((k : ℕ) → edge_at (program_of unit) g.func k ≡ Some (record { from = g.node; act = act; to = to }) → (c : Config Frame) × (site_after site (label_of k act) ≡ Some c))
      → Takes unit w t input g gs act to
  takes_edge act to has able =
      let d : MarkedEdge = record { edge = record { from = g.node; act = act; to = to }; silent = false } in
      let at = subst (λ (es : List MarkedEdge). slice_get es has.0 ≡ Some d) (sym same_edges) (get_contained (flow_of f).edges d has.0 has.1 has.2) in
      let goes = able has.0 (edges_match unit g.func has.0 d at) in
      let number : has.0 ≡ 0 + has.0 = omega arith in
      let walks = subst (λ (e : ℕ). walk_on (program_of unit) t input (label_of e act ∷ []) w ≡ Some (with_move t input (label_of has.0 act) w goes.0)) number (walks_to (label_of has.0 act) goes.0 goes.1) in
      takes_at has.0 d goes.0 at refl goes.1 (first_found (marked_of unit) t input w edges 0 has.0 d (with_move t input (label_of has.0 act) w goes.0) at refl walks)

  -- ---- what can be taken

  pub done_there : (act : Action) (to : ℕ) (acted : Acted) → action_effect site (func_slots (program_of unit) g.func) act ≡ Some acted → (k : ℕ)
      → edge_at (program_of unit) g.func k ≡ Some (record { from = g.node; act = act; to = to }) → site_after site (Do k) ≡ Some (frame_moved site to acted)
  done_there act to acted done k at =
      done_as site k (record { from = g.node; act = act; to = to }) at
      ∙ ap (λ (b : Bool). if b then option_map (frame_moved site to) (action_effect site (func_slots (program_of unit) g.func) act) else None) (same_node g.node)
      ∙ ap (option_map (frame_moved site to)) done

  pub entered_there : (d : Option ℕ) (callee : ℕ) (args : List Expr) (to : ℕ) (ns : List ℤ) → values_of args (func_slots (program_of unit) g.func) g.slots ≡ Ok ns → (k : ℕ)
      → edge_at (program_of unit) g.func k ≡ Some (record { from = g.node; act = Call d callee args; to = to }) → site_after site (Enter k) ≡ Some (after_push site k callee ns)
  entered_there d callee args to ns have k at =
      entered_as site k (record { from = g.node; act = Call d callee args; to = to }) at
      ∙ ap (λ (b : Bool). if b then with_value (values_of args (func_slots (program_of unit) g.func) g.slots) (λ vs. Some (after_push site k callee vs)) else None) (same_node g.node)
      ∙ ap (λ r. with_value r (λ vs. Some (after_push site k callee vs))) have
