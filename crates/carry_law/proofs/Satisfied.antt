-- In what is carried over a kept point is satisfied, unless it contributed to something that isn't kept.
use Rattle.std.proofs.Common.{◌≢◌, ℕ, suc, ◌<◌, nat_eq, List, [], ◌∷◌, length, Option, None, Some, refl, sym, ap, subst, arith, inl, inr}
use Rattle.std.specs.Prelude.{All, Contains, slice_get}
use Rattle.std.proofs.lemmas.List.Elements.{All-cons, All-contains, All-head, All-nil, All-tail}
use Rattle.gob_tree.specs.Formed.{IsFormed, IsFormedAction}
use Rattle.gob_tree.specs.declared.graph.Action.{Action}
use Rattle.gob_tree.specs.declared.graph.Action.TheVariants.{Read, Write, Call}
use Rattle.gob_tree.specs.declared.graph.Edge.{Edge}
use Rattle.gob_tree.specs.declared.graph.FuncGraph.{FuncGraph}
use Rattle.gob_tree.specs.declared.graph.Program.{Program}
use Rattle.gob_tree.specs.declared.place.Place.{Place}
use Rattle.gob_tree.specs.declared.unit.Slot.{Slot}
use Rattle.interval_dom.specs.Bounds.{Bounds, Covers}
use Rattle.state_dom.specs.StateValue.{StateValue, Bottom, Reached, CoversEach, CoversState}
use Rattle.constraint_sys.specs.declared.unknown.Key.{Key}
use Rattle.constraint_sys.specs.declared.unknown.Unknown.{Unknown}
use Rattle.constraint_sys.specs.declared.unknown.Unknown.TheVariants.{Point, Global}
use Rattle.constraint_sys.specs.declared.value.Effect.{Effect}
use Rattle.constraint_sys.specs.declared.value.Value.{Value}
use Rattle.constraint_sys.specs.declared.value.Value.TheVariants.{State, Number}
use Rattle.constraint_sys.specs.Carry.{Affects, Carries, IsRemoved, reader}
use Rattle.constraint_sys.specs.Contribution.{contribution_of, edges_into, effects_of, outcome_of, read_by}
use Rattle.constraint_sys.specs.PostSolution.{BoundsAt, CoversValue, IsPostSolution, IsSatisfied}
use Rattle.constraint_sys.specs.Table.{TableValue, IsThere, edges_at, nodes_at, nodes_of_function, state_at, value_at}
use Rattle.constraint_sys.specs.Transfer.{called, outcome_in, transfer, values_of, written}
use Rattle.constraint_sys.specs.Turn.{Solving}
use Rattle.constraint_sys.proofs.Contributing.{edges_formed}
use Rattle.constraint_sys.proofs.Fitting.{function_with}
use Rattle.constraint_sys.proofs.Ordered.{Contains-cases, Contains-filter, Contains-flat_mapped, Contains-head, Contains-mapped, Contains-nil, Contains-tail}
use Rattle.constraint_sys.proofs.Raising.{bounded_there}
use Rattle.constraint_sys.proofs.Turning.{some_from}
use Rattle.carry_law.proofs.Edges.{contribution_renamed}
use Rattle.carry_law.proofs.Origins.{carried}
use Rattle.carry_law.proofs.Renamed.{AreRenamedEffects, IsCarriedOver, IsKnown, IsRenamed, IsRenamedValue}
use Rattle.carry_law.proofs.RenamedStates.{IsRenamedState}
use Rattle.carry_law.proofs.Transfers.{stands_at}

-- ---- bounds under the new numbers

module _ (old new : Program) where
  -- the outer and the inner state, each with its new one
  covers_state : (a b c d : StateValue) → IsRenamedState old new a b → IsRenamedState old new c d → CoversState a c → CoversState b d
  covers_state a b (Bottom room) (Bottom other) outer inner covers = tt
  covers_state a b (Bottom room) (Reached ys others) outer inner covers = absurd inner
  covers_state a b (Reached xs locks) (Bottom other) outer inner covers = absurd inner
  covers_state (Bottom room) b (Reached xs locks) (Reached ys others) outer inner covers = absurd covers
  covers_state (Reached zs more) (Bottom room) (Reached xs locks) (Reached ys others) outer inner covers = absurd outer
  covers_state (Reached zs more) (Reached ws last) (Reached xs locks) (Reached ys others) outer inner covers = (
    subst (λ (l : List Bounds). CoversEach l ys) outer.0 (subst (λ (l : List Bounds). CoversEach zs l) inner.0 covers.0),
    λ m held.
        let found = (outer.1 m).0 held in
        (inner.1 m).1 (found.0, covers.1 found.0 found.1, found.2),
  )

  covers_value : (a b c d : Value) → IsRenamedValue old new a b → IsRenamedValue old new c d → CoversValue (Some a) c → CoversValue (Some b) d
  covers_value (State a) (State b) (State c) (State d) outer inner covers = covers_state a b c d outer inner covers
  covers_value (State a) (State b) (State c) (Number y) outer inner covers = absurd inner
  covers_value (State a) (State b) (Number x) d outer inner covers = absurd covers
  covers_value (State a) (Number y) c d outer inner covers = absurd outer
  covers_value (Number x) (State b) c d outer inner covers = absurd outer
  covers_value (Number x) (Number y) (State c) d outer inner covers = absurd covers
  covers_value (Number x) (Number y) (Number z) (State d) outer inner covers = absurd inner
  covers_value (Number x) (Number y) (Number z) (Number w) outer inner covers =
      subst (λ (v : Bounds). Covers v w) outer (subst (λ (v : Bounds). Covers x v) inner covers)

module _ (old new : Program) (old_formed : IsFormed old) (new_formed : IsFormed new) (t n : TableValue) where
  pub bounds_over : (u w : Unknown) (v x : Value) → IsCarriedOver old new t n u → IsRenamed old new u w → IsRenamedValue old new v x → BoundsAt t u v → BoundsAt n w x
  bounds_over u w v x c named same bounds =
      subst (λ (o : Option Value). CoversValue o x) (sym (stands_at old new old_formed new_formed t n u w c named))
      (covers_value old new c.was c.is v x c.same same (subst (λ (o : Option Value). CoversValue o v) c.at bounds))

  effects_bounded : (ds es : List Effect) → AreRenamedEffects old new ds es → All (λ (e : Effect). BoundsAt t e.target e.value) ds → ((d : Effect) → Contains ds d → IsCarriedOver old new t n d.target) → All (λ (e : Effect). BoundsAt n e.target e.value) es
  effects_bounded [] [] same bounds over = All-nil (λ (e : Effect). BoundsAt n e.target e.value)
  effects_bounded [] (e ∷ es) same bounds over = absurd same
  effects_bounded (d ∷ ds) [] same bounds over = absurd same
  effects_bounded (d ∷ ds) (e ∷ es) same bounds over =
      All-cons (λ (x : Effect). BoundsAt n x.target x.value) e es
      (bounds_over d.target e.target d.value e.value (over d (Contains-head d ds)) same.0 same.1 (All-head (λ (x : Effect). BoundsAt t x.target x.value) d ds bounds))
      (effects_bounded ds es same.2 (All-tail (λ (x : Effect). BoundsAt t x.target x.value) d ds bounds) (λ x one. over x (Contains-tail d x ds one)))

-- ---- what a point reads is there

module _ (p : Program) (formed : IsFormed p) (t : TableValue) (post : IsPostSolution p t) (slots : List Slot) (state : List Bounds) (locks : ℕ) where
  one_read : (u r : Unknown) → Contains (u ∷ []) r → IsThere t u → IsThere t r
  one_read u r one there = elim (Contains-cases u r [] one) [
    | inl is ↦ subst (IsThere t) (sym is) there
    | inr none ↦ absurd (Contains-nil r none)
  ]

  called_reads : (d : Option ℕ) (f : ℕ) (args : Option (List Bounds)) → 1 < length (nodes_at p f) → ((x : Effect) → Contains (called p t slots state locks d f args).effects x → IsThere t x.target) → (r : Unknown) → Contains (called p t slots state locks d f args).reads r → IsThere t r
  called_reads d f None within targets r one = absurd (Contains-nil r one)
  called_reads d f (Some args) within targets r one =
      one_read _ r one (post.roots.nodes_there f _ 0 1 (targets _ (Contains-head _ [])) within)

  written_reads : (g : ℕ) (v : Option Bounds) (r : Unknown) → Contains (written p state locks g v).reads r → ⊥
  written_reads g None r one = Contains-nil r one
  written_reads g (Some v) r one = Contains-nil r one

  action_reads : (function : FuncGraph) (act : Action) → IsFormedAction p function act → ((x : Effect) → Contains (outcome_in p t slots state locks act).effects x → IsThere t x.target) → (r : Unknown) → Contains (outcome_in p t slots state locks act).reads r → IsThere t r
  action_reads function (Read i g) here targets r one = one_read (Global g) r one (post.roots.globals_there g here.1)
  action_reads function (Write g e) here targets r one = absurd (written_reads g _ r one)
  action_reads function (Call d f args) here targets r one =
      let found = function_with p _ formed f (slice_get p.funcs f) refl here.2 in
      called_reads d f (values_of slots state args) (omega (arith, found.1.formed.entry_and_exit, ap length found.1.nodes)) targets r one
  action_reads function act here targets r one = absurd (Contains-nil r one)

module _ (p : Program) (formed : IsFormed p) (t : TableValue) (post : IsPostSolution p t) (f : ℕ) where
  transfer_reads : (function : FuncGraph) (act : Action) → IsFormedAction p function act → (s : StateValue) → ((x : Effect) → Contains (transfer p t f act s).effects x → IsThere t x.target) → (r : Unknown) → Contains (transfer p t f act s).reads r → IsThere t r
  transfer_reads function act here (Bottom room) targets r one = absurd (Contains-nil r one)
  transfer_reads function act here (Reached xs locks) targets r one = action_reads p formed t post _ xs locks function act here targets r one

  inner_node : (n : ℕ) → suc n ≢ 0
  inner_node n is = omega (arith, is)

  module _ (key : Key) (m : ℕ) (there : IsThere t (Point f key (suc m))) where
    pub satisfied_before : IsSatisfied p t f key (suc m)
    satisfied_before = post.satisfied f key (suc m) there (inner_node m)

    pub target_there : (x : Effect) → Contains (effects_of p t f key (edges_into p f (suc m))) x → IsThere t x.target
    target_there x one =
        bounded_there (value_at t x.target) x.value (All-contains (λ (e : Effect). BoundsAt t e.target e.value) (effects_of p t f key (edges_into p f (suc m))) x satisfied_before.effects one)

    pub edge_in : (e : Edge) → Contains (edges_into p f (suc m)) e → Contains (edges_at p f) e
    edge_in e one = (Contains-filter (λ (x : Edge). nat_eq x.to (suc m)) (edges_at p f) e one).0

    pub edge_effect : (e : Edge) (x : Effect) → Contains (edges_into p f (suc m)) e → Contains (outcome_of p t f key e).effects x → Contains (effects_of p t f key (edges_into p f (suc m))) x
    edge_effect e x one inner = Contains-flat_mapped (λ (d : Edge). (outcome_of p t f key d).effects) (edges_into p f (suc m)) e x one inner

    start_there : (e : Edge) → Contains (edges_into p f (suc m)) e → IsThere t (Point f key e.from)
    start_there e one =
        let found = edges_formed p formed f (slice_get p.funcs f) refl e (edge_in e one) in
        post.roots.nodes_there f key (suc m) e.from there (subst (λ (l : List Place). e.from < length l) (sym (ap nodes_of_function found.1)) found.2.begins)

    read_there : (e : Edge) → Contains (edges_into p f (suc m)) e → (r : Unknown) → Contains (outcome_of p t f key e).reads r → IsThere t r
    read_there e one r inner =
        let found = edges_formed p formed f (slice_get p.funcs f) refl e (edge_in e one) in
        transfer_reads found.0 e.act found.2.action (state_at p t f key e.from) (λ x effect. target_there x (edge_effect e x one effect)) r inner

    start_read : (e : Edge) → Contains (edges_into p f (suc m)) e → Contains (read_by p t (Point f key (suc m))) (Point f key e.from)
    start_read e one = Contains-flat_mapped (λ (d : Edge). Point f key d.from ∷ (outcome_of p t f key d).reads) (edges_into p f (suc m)) e (Point f key e.from) one (Contains-head (Point f key e.from) (outcome_of p t f key e).reads)

    read_in : (e : Edge) → Contains (edges_into p f (suc m)) e → (r : Unknown) → Contains (outcome_of p t f key e).reads r → Contains (read_by p t (Point f key (suc m))) r
    read_in e one r inner = Contains-flat_mapped (λ (d : Edge). Point f key d.from ∷ (outcome_of p t f key d).reads) (edges_into p f (suc m)) e r one (Contains-tail (Point f key e.from) r (outcome_of p t f key e).reads inner)

-- ---- kept points

module _ (old new : Program) (old_formed : IsFormed old) (new_formed : IsFormed new) (t : TableValue) (post : IsPostSolution old t) (s : Solving) (c : Carries old new t s) (f : ℕ) (key : Key) (m : ℕ) (there : IsThere t (Point f key (suc m))) (stays : IsRemoved old new t (Point f key (suc m)) → ⊥) where
  read_stays : (r : Unknown) → Contains (read_by old t (Point f key (suc m))) r → IsRemoved old new t r → ⊥
  read_stays r one removed = stays (reader removed (some_from (value_at t (Point f key (suc m))) there, one))

  start_carried : (e : Edge) → Contains (edges_into old f (suc m)) e → IsCarriedOver old new t s.table (Point f key e.from)
  start_carried e one = carried old new old_formed t s c (Point f key e.from) (start_there old old_formed t post f key m there e one) (read_stays (Point f key e.from) (start_read old old_formed t post f key m there e one))

  module _ (clean : (v : Unknown) → Affects old t (Point f key (suc m)) v → IsRemoved old new t v → ⊥) where
    target_carried : (x : Effect) → Contains (effects_of old t f key (edges_into old f (suc m))) x → IsCarriedOver old new t s.table x.target
    target_carried x one =
        carried old new old_formed t s c x.target (target_there old old_formed t post f key m there x one)
        (clean x.target (there, Contains-mapped (λ (e : Effect). e.target) (effects_of old t f key (edges_into old f (suc m))) x one))

    edge_known : (e : Edge) → Contains (edges_into old f (suc m)) e → IsKnown old new t s.table (outcome_of old t f key e)
    edge_known e one = record {
      reads = λ r inner. carried old new old_formed t s c r (read_there old old_formed t post f key m there e one r inner) (read_stays r (read_in old old_formed t post f key m there e one r inner));
      targets = λ x inner. target_carried x (edge_effect old old_formed t post f key m there e x one inner);
    }

    pub satisfied_after : (g : ℕ) (other : Key) → IsRenamed old new (Point f key (suc m)) (Point g other (suc m)) → IsSatisfied new s.table g other (suc m)
    satisfied_after g other named =
        let before = satisfied_before old old_formed t post f key m there in
        let gets = contribution_renamed old new old_formed new_formed t s.table f g named.0 key other named.1 named.2 named.3 (suc m) start_carried edge_known in
        let itself = carried old new old_formed t s c (Point f key (suc m)) there stays in
        record {
          value = bounds_over old new old_formed new_formed t s.table (Point f key (suc m)) (Point g other (suc m)) (State (contribution_of old t f key (suc m)).value) (State (contribution_of new s.table g other (suc m)).value) itself named gets.0 before.value;
          effects = effects_bounded old new old_formed new_formed t s.table (contribution_of old t f key (suc m)).effects (contribution_of new s.table g other (suc m)).effects gets.1 before.effects target_carried;
        }
