-- What is done at a node, by the edges that leave it.
use Rattle.std.proofs.Common.{◌≡◌, ◌⊎◌, inl, inr, ◌∙◌, refl, sym, ap, subst, ℕ, zero, suc, ◌+◌, ◌<◌, ℤ, Bool, true, false, nat_eq, List, [], ◌∷◌, length, Option, None, Some, arith, true≢false}
use Rattle.std.specs.Prelude.{◌&&◌, if◌then◌else◌, not, slice_get, slice_index_or}
use Rattle.std.specs.List.{Contains}
use Rattle.std.specs.Option.{option_map}
use Rattle.std.proofs.lemmas.Bool.Decides.{nat_tests}
use Rattle.std.proofs.lemmas.Option.{none-some, same_Some}
use Rattle.gob_tree.specs.declared.unit.Slot.{Slot}
use Rattle.gob_tree.specs.declared.unit.Function.{Function}
use Rattle.c_meaning.specs.Graph.{MarkedEdge, flow_of, graph_slots}
use Rattle.c_meaning.specs.GraphStep.{local_slots}
use Rattle.c_meaning.specs.Walk.{Moment, first_or, input_edge, input_from, input_or, input_slot, moment_after, silent_from, silent_slots}
use Rattle.graph_law.specs.Leaving.{AreOpposite, IsOneWay, leaving}
use Rattle.graph_law.proofs.Guards.{one_guard_at_most}
use Rattle.graph_law.proofs.Statements.{one_way_out}
use Rattle.hoist_law.specs.Laws.{InputsAreTaken, SilentEdgesAreDone}

pub same_node : (n : ℕ) → nat_eq n n ≡ true
same_node n = grind (arith, nat_tests)

-- ---- the edges that leave a node decide

-- the first of these that is silent and can be done leads on
abbrev pub DoneOf : List Slot → Moment → List MarkedEdge → Option (ℕ × Moment) → Type 0
DoneOf slots m [] found = found ≡ None
DoneOf slots m (d ∷ ds) found =
    ((next : List ℤ) → silent_slots slots d m ≡ Some next → (e : ℕ) × (found ≡ Some (e, moment_after d.edge next)))
    × (silent_slots slots d m ≡ None → DoneOf slots m ds found)

no_silent_away : (slots : List Slot) (d : MarkedEdge) (m : Moment) → nat_eq d.edge.from m.node ≡ false → silent_slots slots d m ≡ None
no_silent_away slots d m away = go d.silent (nat_eq d.edge.from m.node) away
  where
    go : (b c : Bool) → c ≡ false → (if b && c then local_slots slots d.edge.act m.slots else None) ≡ None
    go true true e = absurd (true≢false e)
    go true false e = refl
    go false c e = refl

done_skipped : (slots : List Slot) (d : MarkedEdge) (ds : List MarkedEdge) (i : ℕ) (m : Moment) (found : Option (ℕ × Moment)) → DoneOf slots m ds found → silent_slots slots d m ≡ None → DoneOf slots m ds (first_or d i found (silent_slots slots d m))
done_skipped slots d ds i m found rest none = subst (λ (o : Option (List ℤ)). DoneOf slots m ds (first_or d i found o)) (sym none) rest

done_step : (slots : List Slot) (d : MarkedEdge) (ds : List MarkedEdge) (i : ℕ) (m : Moment) (found : Option (ℕ × Moment)) → DoneOf slots m ds found → (b : Bool) → nat_eq d.edge.from m.node ≡ b
    → DoneOf slots m (if b then d ∷ ds else ds) (first_or d i found (silent_slots slots d m))
done_step slots d ds i m found rest true e = (λ next done. (i, ap (first_or d i found) done), done_skipped slots d ds i m found rest)
done_step slots d ds i m found rest false e = done_skipped slots d ds i m found rest (no_silent_away slots d m e)

pub done_by : (slots : List Slot) (ds : List MarkedEdge) (i : ℕ) (m : Moment) → DoneOf slots m (leaving m.node ds) (silent_from slots ds i m)
done_by slots [] i m = refl
done_by slots (d ∷ ds) i m = done_step slots d (leaving m.node ds) i m (silent_from slots ds (i + 1) m) (done_by slots ds (i + 1) m) (nat_eq d.edge.from m.node) refl

-- the input's edge is the first of these that takes one
abbrev pub InputOf : ℕ → List MarkedEdge → Option (ℕ × ℕ) → Type 0
InputOf node [] found = found ≡ None
InputOf node (d ∷ ds) found = ((x : ℕ × ℕ) → input_edge d node ≡ Some x → found ≡ Some x) × (input_edge d node ≡ None → InputOf node ds found)

no_input_away : (d : MarkedEdge) (node : ℕ) → nat_eq d.edge.from node ≡ false → input_edge d node ≡ None
no_input_away d node away = ap (λ (b : Bool). if b && not d.silent then option_map (λ x. (x, d.edge.to)) (input_slot d.edge.act) else None) away

input_skipped : (d : MarkedEdge) (ds : List MarkedEdge) (node : ℕ) (found : Option (ℕ × ℕ)) → InputOf node ds found → input_edge d node ≡ None → InputOf node ds (input_or (input_edge d node) found)
input_skipped d ds node found rest none = subst (λ (o : Option (ℕ × ℕ)). InputOf node ds (input_or o found)) (sym none) rest

input_step : (d : MarkedEdge) (ds : List MarkedEdge) (node : ℕ) (found : Option (ℕ × ℕ)) → InputOf node ds found → (b : Bool) → nat_eq d.edge.from node ≡ b → InputOf node (if b then d ∷ ds else ds) (input_or (input_edge d node) found)
input_step d ds node found rest true e = (λ x taken. ap (λ (o : Option (ℕ × ℕ)). input_or o found) taken, input_skipped d ds node found rest)
input_step d ds node found rest false e = input_skipped d ds node found rest (no_input_away d node e)

pub input_by : (ds : List MarkedEdge) (node : ℕ) → InputOf node (leaving node ds) (input_from ds node)
input_by [] node = refl
input_by (d ∷ ds) node = input_step d (leaving node ds) node (input_from ds node) (input_by ds node) (nat_eq d.edge.from node) refl

-- ---- an edge that leaves a node is among those

abbrev pub Among : MarkedEdge → List MarkedEdge → Type 0
Among d [] = ⊥
Among d (x ∷ ds) = (x ≡ d) ⊎ Among d ds

pub among_leaving : (node : ℕ) (ds : List MarkedEdge) (k : ℕ) (d : MarkedEdge) → slice_get ds k ≡ Some d → nat_eq d.edge.from node ≡ true → Among d (leaving node ds)
among_leaving node [] k d at leaves = absurd (none-some d at)
among_leaving node (x ∷ ds) zero d at leaves =
    let same : x ≡ d = same_Some x d at in
    subst (λ (y : MarkedEdge). Among d (if nat_eq y.edge.from node then y ∷ leaving node ds else leaving node ds)) (sym same)
    (subst (λ (b : Bool). Among d (if b then d ∷ leaving node ds else leaving node ds)) (sym leaves) (inl refl))
among_leaving node (x ∷ ds) (suc k) d at leaves = go (nat_eq x.edge.from node) (among_leaving node ds k d at leaves)
  where
    go : (b : Bool) → Among d (leaving node ds) → Among d (if b then x ∷ leaving node ds else leaving node ds)
    go true among = inr among
    go false among = among

pub get_contained : (ds : List MarkedEdge) (d : MarkedEdge) (k : ℕ) → k < length ds → slice_index_or ds k d ≡ d → slice_get ds k ≡ Some d
get_contained [] d k within same = absurd (omega arith)
get_contained (x ∷ ds) d zero within same = ap (λ (y : MarkedEdge). Some y) same
get_contained (x ∷ ds) d (suc k) within same = get_contained ds d k (omega (arith, within)) same

pub leaves_among : (f : Function) (d : MarkedEdge) (node : ℕ) → Contains (flow_of f).edges d → nat_eq d.edge.from node ≡ true → Among d (leaving node (flow_of f).edges)
leaves_among f d node one leaves = among_leaving node (flow_of f).edges one.0 d (get_contained (flow_of f).edges d one.0 one.1 one.2) leaves

-- ---- a silent edge that can be done

silent_here : (slots : List Slot) (d : MarkedEdge) (m : Moment) (values : List ℤ) → d.silent ≡ true → nat_eq d.edge.from m.node ≡ true → local_slots slots d.edge.act m.slots ≡ Some values → silent_slots slots d m ≡ Some values
silent_here slots d m values silent leaves done =
    ap (λ (b : Bool). if b && nat_eq d.edge.from m.node then local_slots slots d.edge.act m.slots else None) silent
    ∙ ap (λ (b : Bool). if b then local_slots slots d.edge.act m.slots else None) leaves ∙ done

not_done : (slots : List Slot) (d : MarkedEdge) (m : Moment) → local_slots slots d.edge.act m.slots ≡ None → silent_slots slots d m ≡ None
not_done slots d m none = go (d.silent && nat_eq d.edge.from m.node)
  where
    go : (b : Bool) → (if b then local_slots slots d.edge.act m.slots else None) ≡ None
    go true = none
    go false = refl

-- the opposite of a guard that can be done can't
other_not_done : (slots : List Slot) (a d : MarkedEdge) (m : Moment) (values : List ℤ) → AreOpposite a d → local_slots slots d.edge.act m.slots ≡ Some values → silent_slots slots a m ≡ None
other_not_done slots a d m values opposite done = elim (one_guard_at_most a d slots m.slots opposite) [
  | inl none ↦ not_done slots a m none
  | inr none ↦ absurd (none-some values (sym none ∙ done))
]

abbrev Goes : ℕ → List ℤ → Option (ℕ × Moment) → Type 0
Goes to values found = (e : ℕ) × (found ≡ Some (e, record { node = to; slots = values }))

done_one : (slots : List Slot) (m : Moment) (x d : MarkedEdge) (values : List ℤ) (found : Option (ℕ × Moment)) → silent_slots slots d m ≡ Some values → x ≡ d
    → ((next : List ℤ) → silent_slots slots x m ≡ Some next → (e : ℕ) × (found ≡ Some (e, moment_after x.edge next))) → Goes d.edge.to values found
done_one slots m x d values found done same by =
    let it = by values (subst (λ (y : MarkedEdge). silent_slots slots y m ≡ Some values) (sym same) done) in
    (it.0, subst (λ (y : MarkedEdge). found ≡ Some (it.0, moment_after y.edge values)) same it.1)

done_among : (slots : List Slot) (m : Moment) (d : MarkedEdge) (values : List ℤ) (ds : List MarkedEdge) (found : Option (ℕ × Moment)) → silent_slots slots d m ≡ Some values → local_slots slots d.edge.act m.slots ≡ Some values
    → Among d ds → IsOneWay ds → DoneOf slots m ds found → Goes d.edge.to values found
done_among slots m d values [] found silent done among one by = absurd among
done_among slots m d values (a ∷ []) found silent done among one by = elim among [
  | inl same ↦ done_one slots m a d values found silent same by.0
  | inr none ↦ absurd none
]
done_among slots m d values (a ∷ b ∷ []) found silent done among one by = elim among [
  | inl same ↦ done_one slots m a d values found silent same by.0
  | inr second ↦ elim second [
    | inl same ↦ done_one slots m b d values found silent same (by.1 (other_not_done slots a b m values one (subst (λ (y : MarkedEdge). local_slots slots y.edge.act m.slots ≡ Some values) (sym same) done))).0
    | inr none ↦ absurd none
  ]
]
done_among slots m d values (a ∷ b ∷ c ∷ ds) found silent done among one by = absurd one

pub silent_edges_are_done : SilentEdgesAreDone
silent_edges_are_done f act to m values edge done =
    let d : MarkedEdge = record { edge = record { from = m.node; act = act; to = to }; silent = true } in
    done_among (graph_slots f) m d values (leaving m.node (flow_of f).edges) (silent_from (graph_slots f) (flow_of f).edges 0 m) (silent_here (graph_slots f) d m values refl (same_node m.node) done) done
    (leaves_among f d m.node edge (same_node m.node)) (one_way_out f m.node) (done_by (graph_slots f) (flow_of f).edges 0 m)

-- ---- an input

pub not_silent : (slots : List Slot) (d : MarkedEdge) (m : Moment) → d.silent ≡ false → silent_slots slots d m ≡ None
not_silent slots d m silent = ap (λ (b : Bool). if b && nat_eq d.edge.from m.node then local_slots slots d.edge.act m.slots else None) silent

input_here : (d : MarkedEdge) (node x : ℕ) → d.silent ≡ false → nat_eq d.edge.from node ≡ true → input_slot d.edge.act ≡ Some x → input_edge d node ≡ Some (x, d.edge.to)
input_here d node x silent leaves slot =
    ap (λ (b : Bool). if b && not d.silent then option_map (λ y. (y, d.edge.to)) (input_slot d.edge.act) else None) leaves
    ∙ ap (λ (b : Bool). if not b then option_map (λ y. (y, d.edge.to)) (input_slot d.edge.act) else None) silent
    ∙ ap (option_map (λ y. (y, d.edge.to))) slot

-- an edge that takes an input is no guard of a test
one_alone : (d other : MarkedEdge) (x : ℕ) → input_slot d.edge.act ≡ Some x → AreOpposite d other ⊎ AreOpposite other d → ⊥
one_alone d other x slot either = elim either [
  | inl first ↦ (let o = first.1 in none-some x (sym (ap input_slot o.1) ∙ slot))
  | inr second ↦ (let o = second.1 in none-some x (sym (ap input_slot o.2) ∙ slot))
]

taken_one : (slots : List Slot) (m : Moment) (y d : MarkedEdge) (x : ℕ) (found : Option (ℕ × Moment)) (input : Option (ℕ × ℕ)) → d.silent ≡ false → nat_eq d.edge.from m.node ≡ true → input_slot d.edge.act ≡ Some x
    → y ≡ d → DoneOf slots m (y ∷ []) found → InputOf m.node (y ∷ []) input → (found ≡ None) × (input ≡ Some (x, d.edge.to))
taken_one slots m y d x found input silent leaves slot same by takes = (
  by.1 (subst (λ (z : MarkedEdge). silent_slots slots z m ≡ None) (sym same) (not_silent slots d m silent)),
  takes.0 (x, d.edge.to) (subst (λ (z : MarkedEdge). input_edge z m.node ≡ Some (x, d.edge.to)) (sym same) (input_here d m.node x silent leaves slot)),
)

taken_among : (slots : List Slot) (m : Moment) (d : MarkedEdge) (x : ℕ) (ds : List MarkedEdge) (found : Option (ℕ × Moment)) (input : Option (ℕ × ℕ)) → d.silent ≡ false → nat_eq d.edge.from m.node ≡ true → input_slot d.edge.act ≡ Some x
    → Among d ds → IsOneWay ds → DoneOf slots m ds found → InputOf m.node ds input → (found ≡ None) × (input ≡ Some (x, d.edge.to))
taken_among slots m d x [] found input silent leaves slot among one by takes = absurd among
taken_among slots m d x (a ∷ []) found input silent leaves slot among one by takes = elim among [
  | inl same ↦ taken_one slots m a d x found input silent leaves slot same by takes
  | inr none ↦ absurd none
]
taken_among slots m d x (a ∷ b ∷ []) found input silent leaves slot among one by takes = elim among [
  | inl same ↦ absurd (one_alone d b x slot (inl (subst (λ (z : MarkedEdge). AreOpposite z b) same one)))
  | inr second ↦ elim second [
    | inl same ↦ absurd (one_alone d a x slot (inr (subst (AreOpposite a) same one)))
    | inr none ↦ absurd none
  ]
]
taken_among slots m d x (a ∷ b ∷ c ∷ ds) found input silent leaves slot among one by takes = absurd one

pub inputs_are_taken : InputsAreTaken
inputs_are_taken f act to x m edge slot =
    let d : MarkedEdge = record { edge = record { from = m.node; act = act; to = to }; silent = false } in
    taken_among (graph_slots f) m d x (leaving m.node (flow_of f).edges) (silent_from (graph_slots f) (flow_of f).edges 0 m) (input_from (flow_of f).edges m.node) refl (same_node m.node) slot
    (leaves_among f d m.node edge (same_node m.node)) (one_way_out f m.node) (done_by (graph_slots f) (flow_of f).edges 0 m) (input_by (flow_of f).edges m.node)
