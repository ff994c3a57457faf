-- The edges into a node, and what they give together, under the new numbers.
use Rattle.std.proofs.Common.{◌≡◌, ℕ, Bool, true, false, cond, nat_eq, List, [], ◌∷◌, ◌++◌, map, length, Option, refl, sym, ap, subst, ◌∙◌}
use Rattle.std.specs.Prelude.{Contains, filter, slice_get}
use Rattle.gob_tree.specs.Formed.{IsFormed, IsFormedAction}
use Rattle.gob_tree.specs.Named.{NamedEdge, NamedGraph, SameFunction, named_edge}
use Rattle.gob_tree.specs.declared.graph.Action.{Action}
use Rattle.gob_tree.specs.declared.graph.Edge.{Edge}
use Rattle.gob_tree.specs.declared.graph.FuncGraph.{FuncGraph}
use Rattle.gob_tree.specs.declared.graph.Program.{Program}
use Rattle.gob_tree.specs.declared.unit.Slot.{Slot}
use Rattle.interval_dom.specs.Bounds.{Bounds}
use Rattle.state_dom.specs.StateValue.{StateValue, Bottom, Reached, join_of}
use Rattle.constraint_sys.specs.declared.unknown.Key.{Key}
use Rattle.constraint_sys.specs.declared.unknown.Unknown.TheVariants.{Point}
use Rattle.constraint_sys.specs.declared.value.Effect.{Effect}
use Rattle.constraint_sys.specs.Carry.{RenamesLocks}
use Rattle.constraint_sys.specs.Contribution.{contribution_of, edges_into, effects_of, joined_from, outcome_of}
use Rattle.constraint_sys.specs.Table.{TableValue, edges_at, edges_of_function, slots_at, state_at}
use Rattle.constraint_sys.specs.Transfer.{outcome_in, transfer}
use Rattle.constraint_sys.proofs.Contributing.{edges_formed}
use Rattle.constraint_sys.proofs.Ordered.{Contains-filter, Contains-head, Contains-map, Contains-mapped, Contains-tail}
use Rattle.carry_law.proofs.Alike.{AreAlikeActions, alike_actions}
use Rattle.carry_law.proofs.Guards.{join_renamed}
use Rattle.carry_law.proofs.Naming.{are_one}
use Rattle.carry_law.proofs.Renamed.{AreRenamedEffects, IsCarriedOver, IsKnown, IsRenamedOutcome}
use Rattle.carry_law.proofs.RenamedStates.{IsRenamedState}
use Rattle.carry_law.proofs.Transfers.{on_both, only_renamed, outcome_renamed, same_slots, state_carried}

-- ---- the same edges

module _ (old new : Program) where
  kept_alike : (e d : Edge) (es ds : List Edge) (b c : Bool) → b ≡ c → named_edge old e ≡ named_edge new d → map (named_edge old) es ≡ map (named_edge new) ds
      → map (named_edge old) (cond b (e ∷ es) es) ≡ map (named_edge new) (cond c (d ∷ ds) ds)
  kept_alike e d es ds true true same first others = λ i. first i ∷ others i
  kept_alike e d es ds true false same first others = cc
  kept_alike e d es ds false true same first others = cc
  kept_alike e d es ds false false same first others = others

  filter_alike : (node : ℕ) (es ds : List Edge) → map (named_edge old) es ≡ map (named_edge new) ds
      → map (named_edge old) (filter (λ (e : Edge). nat_eq e.to node) es) ≡ map (named_edge new) (filter (λ (e : Edge). nat_eq e.to node) ds)
  filter_alike node [] [] same = refl
  filter_alike node [] (d ∷ ds) same = cc
  filter_alike node (e ∷ es) [] same = cc
  filter_alike node (e ∷ es) (d ∷ ds) same =
      let first : named_edge old e ≡ named_edge new d = cc in
      let others : map (named_edge old) es ≡ map (named_edge new) ds = cc in
      kept_alike e d (filter (λ (x : Edge). nat_eq x.to node) es) (filter (λ (x : Edge). nat_eq x.to node) ds) (nat_eq e.to node) (nat_eq d.to node)
      (ap (λ (x : NamedEdge). nat_eq x.to node) first) first (filter_alike node es ds others)

  pub edges_alike : (f g node : ℕ) → SameFunction old f new g → map (named_edge old) (edges_into old f node) ≡ map (named_edge new) (edges_into new g node)
  edges_alike f g node same =
      let one = are_one old f new g same in
      filter_alike node (edges_at old f) (edges_at new g)
      (ap (λ (o : Option FuncGraph). map (named_edge old) (edges_of_function o)) one.at ∙ ap (λ (x : NamedGraph). x.edges) one.same ∙ sym (ap (λ (o : Option FuncGraph). map (named_edge new) (edges_of_function o)) one.stands))

  -- an edge of the one has its like in the other
  pub edge_like : (es ds : List Edge) (e : Edge) → map (named_edge old) es ≡ map (named_edge new) ds → Contains es e → (d : Edge) × Contains ds d × (named_edge old e ≡ named_edge new d)
  edge_like es ds e same one = Contains-map (named_edge new) ds (named_edge old e) (subst (λ (l : List NamedEdge). Contains l (named_edge old e)) same (Contains-mapped (named_edge old) es e one))

-- ---- what they give

module _ (old new : Program) (old_formed : IsFormed old) (new_formed : IsFormed new) (t n : TableValue) (f g : ℕ) (same : SameFunction old f new g) where
  transfer_renamed : (x y : FuncGraph) (act bct : Action) → AreAlikeActions old new act bct → IsFormedAction old x act → IsFormedAction new y bct → (s r : StateValue) → IsRenamedState old new s r → IsKnown old new t n (transfer old t f act s)
      → IsRenamedOutcome old new (transfer old t f act s) (transfer new n g bct r)
  transfer_renamed x y act bct alike here there (Bottom room) (Bottom other) state known = only_renamed old new (Bottom room) (Bottom other) state
  transfer_renamed x y act bct alike here there (Bottom room) (Reached ys others) state known = absurd state
  transfer_renamed x y act bct alike here there (Reached xs locks) (Bottom other) state known = absurd state
  transfer_renamed x y act bct alike here there (Reached xs locks) (Reached ys others) state known =
      on_both (λ (slots : List Slot) (zs : List Bounds). IsRenamedOutcome old new (outcome_in old t (slots_at old f) xs locks act) (outcome_in new n slots zs others bct)) (slots_at old f) (slots_at new g) xs ys (same_slots old new f g same) state.0
      (outcome_renamed old new old_formed new_formed t n x y (slots_at old f) xs locks others state.1 act bct alike here there known)

  module _ (key other : Key) (first : key.a ≡ other.a) (second : key.b ≡ other.b) (locks : RenamesLocks old new key.locks other.locks) where
    edge_renamed : (e d : Edge) → named_edge old e ≡ named_edge new d → Contains (edges_at old f) e → Contains (edges_at new g) d → IsCarriedOver old new t n (Point f key e.from) → IsKnown old new t n (outcome_of old t f key e)
        → IsRenamedOutcome old new (outcome_of old t f key e) (outcome_of new n g other d)
    edge_renamed e d alike here there carried known =
        let in_old = edges_formed old old_formed f (slice_get old.funcs f) refl e here in
        let in_new = edges_formed new new_formed g (slice_get new.funcs g) refl d there in
        let from : e.from ≡ d.from = ap (λ (x : NamedEdge). x.from) alike in
        let states : IsRenamedState old new (state_at old t f key e.from) (state_at new n g other d.from) =
        subst (λ (k : ℕ). IsRenamedState old new (state_at old t f key e.from) (state_at new n g other k)) from (state_carried old new old_formed new_formed t n f g key other e.from carried (same, first, second, locks, refl)) in
        transfer_renamed in_old.0 in_new.0 e.act d.act (alike_actions old new e.act d.act (ap (λ (x : NamedEdge). x.act) alike)) in_old.2.action in_new.2.action (state_at old t f key e.from) (state_at new n g other d.from) states known

    abbrev AreRenamedEdges : List Edge → List Edge → Type 0
    AreRenamedEdges [] [] = Unit {0}
    AreRenamedEdges [] (d ∷ ds) = ⊥
    AreRenamedEdges (e ∷ es) [] = ⊥
    AreRenamedEdges (e ∷ es) (d ∷ ds) = IsRenamedOutcome old new (outcome_of old t f key e) (outcome_of new n g other d) × AreRenamedEdges es ds

    each_renamed : (es ds : List Edge) → map (named_edge old) es ≡ map (named_edge new) ds → ((e : Edge) → Contains es e → Contains (edges_at old f) e) → ((d : Edge) → Contains ds d → Contains (edges_at new g) d)
        → ((e : Edge) → Contains es e → IsCarriedOver old new t n (Point f key e.from)) → ((e : Edge) → Contains es e → IsKnown old new t n (outcome_of old t f key e)) → AreRenamedEdges es ds
    each_renamed [] [] alike here there carried known = tt
    each_renamed [] (d ∷ ds) alike here there carried known = cc
    each_renamed (e ∷ es) [] alike here there carried known = cc
    each_renamed (e ∷ es) (d ∷ ds) alike here there carried known =
        let front : named_edge old e ≡ named_edge new d = cc in
        let others : map (named_edge old) es ≡ map (named_edge new) ds = cc in (
          edge_renamed e d front (here e (Contains-head e es)) (there d (Contains-head d ds)) (carried e (Contains-head e es)) (known e (Contains-head e es)),
          each_renamed es ds others (λ x one. here x (Contains-tail e x es one)) (λ x one. there x (Contains-tail d x ds one)) (λ x one. carried x (Contains-tail e x es one)) (λ x one. known x (Contains-tail e x es one)),
        )

    joined_renamed : (es ds : List Edge) → AreRenamedEdges es ds → (s r : StateValue) → IsRenamedState old new s r → IsRenamedState old new (joined_from old t f key s es) (joined_from new n g other r ds)
    joined_renamed [] [] each s r state = state
    joined_renamed [] (d ∷ ds) each s r state = absurd each
    joined_renamed (e ∷ es) [] each s r state = absurd each
    joined_renamed (e ∷ es) (d ∷ ds) each s r state =
        joined_renamed es ds each.1 (join_of s (outcome_of old t f key e).value) (join_of r (outcome_of new n g other d).value)
        (join_renamed old new old_formed s r (outcome_of old t f key e).value (outcome_of new n g other d).value state each.0.state)

    effects_appended : (xs ys : List Effect) (cs ds : List Effect) → AreRenamedEffects old new xs ys → AreRenamedEffects old new cs ds → AreRenamedEffects old new (xs ++ cs) (ys ++ ds)
    effects_appended [] [] cs ds left right = right
    effects_appended [] (y ∷ ys) cs ds left right = absurd left
    effects_appended (x ∷ xs) [] cs ds left right = absurd left
    effects_appended (x ∷ xs) (y ∷ ys) cs ds left right = (left.0, left.1, effects_appended xs ys cs ds left.2 right)

    effects_renamed : (es ds : List Edge) → AreRenamedEdges es ds → AreRenamedEffects old new (effects_of old t f key es) (effects_of new n g other ds)
    effects_renamed [] [] each = tt
    effects_renamed [] (d ∷ ds) each = absurd each
    effects_renamed (e ∷ es) [] each = absurd each
    effects_renamed (e ∷ es) (d ∷ ds) each = effects_appended (outcome_of old t f key e).effects (outcome_of new n g other d).effects (effects_of old t f key es) (effects_of new n g other ds) each.0.effects (effects_renamed es ds each.1)

    -- what a node gets
    pub contribution_renamed : (node : ℕ) → ((e : Edge) → Contains (edges_into old f node) e → IsCarriedOver old new t n (Point f key e.from)) → ((e : Edge) → Contains (edges_into old f node) e → IsKnown old new t n (outcome_of old t f key e))
        → IsRenamedState old new (contribution_of old t f key node).value (contribution_of new n g other node).value × AreRenamedEffects old new (contribution_of old t f key node).effects (contribution_of new n g other node).effects
    contribution_renamed node carried known =
        let es = edges_into old f node in
        let ds = edges_into new g node in
        let each : AreRenamedEdges es ds = each_renamed es ds (edges_alike old new f g node same)
        (λ e one. (Contains-filter (λ (x : Edge). nat_eq x.to node) (edges_at old f) e one).0) (λ d one. (Contains-filter (λ (x : Edge). nat_eq x.to node) (edges_at new g) d one).0) carried known in (
          joined_renamed es ds each (Bottom (length (slots_at old f))) (Bottom (length (slots_at new g))) (ap (λ (l : List Slot). length l) (same_slots old new f g same)),
          effects_renamed es ds each,
        )
