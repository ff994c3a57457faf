-- The start of the new program's `main` is kept only where it is the start of the old one's.
use Rattle.std.proofs.Common.{◌≡◌, ℕ, zero, suc, nat_eq, List, [], ◌∷◌, Option, None, Some, refl, sym, ap, subst, ◌∙◌, inl, inr}
use Rattle.std.specs.Prelude.{Contains, IsSomeAnd, slice_get}
use Rattle.gob_tree.specs.Formed.{IsFormed, IsFormedAction, IsThreadFunction}
use Rattle.gob_tree.specs.Named.{NamedEdge, SameFunction}
use Rattle.gob_tree.specs.Widths.{returned_width}
use Rattle.gob_tree.specs.declared.expr.Width.TheVariants.{W32}
use Rattle.gob_tree.specs.declared.graph.Action.{Action}
use Rattle.gob_tree.specs.declared.graph.Action.TheVariants.{Write, Create, Call}
use Rattle.gob_tree.specs.declared.graph.Edge.{Edge}
use Rattle.gob_tree.specs.declared.graph.FuncGraph.{FuncGraph}
use Rattle.gob_tree.specs.declared.graph.Program.{Program}
use Rattle.gob_tree.specs.declared.unit.FuncKind.TheVariants.{Int, Thread}
use Rattle.gob_tree.specs.declared.unit.Slot.{Slot}
use Rattle.interval_dom.specs.Bounds.{Bounds}
use Rattle.state_dom.specs.StateValue.{StateValue, Bottom, Reached}
use Rattle.constraint_sys.specs.declared.unknown.Key.{Key}
use Rattle.constraint_sys.specs.declared.unknown.Unknown.{Unknown}
use Rattle.constraint_sys.specs.declared.unknown.Unknown.TheVariants.{Point, Global}
use Rattle.constraint_sys.specs.declared.value.Effect.{Effect}
use Rattle.constraint_sys.specs.Carry.{Carries, IsReachedFromMain, IsRemoved, targets_of, affected, unreached_start, main_itself, node_of_start, started}
use Rattle.constraint_sys.specs.Contribution.{edges_into, effects_of, outcome_of}
use Rattle.constraint_sys.specs.Table.{TableValue, IsThere, edges_at, main_start, state_at}
use Rattle.constraint_sys.specs.Transfer.{called, outcome_in, transfer, values_of, written}
use Rattle.constraint_sys.specs.Turn.{Solving}
use Rattle.constraint_sys.proofs.Contributing.{edges_formed}
use Rattle.constraint_sys.proofs.Entries.{cases_unknown, global_apart}
use Rattle.constraint_sys.proofs.Ordered.{Contains-cases, Contains-filter, Contains-flat_map, Contains-map, Contains-nil}
use Rattle.carry_law.proofs.Alike.{AreAlikeActions, alike_actions}
use Rattle.carry_law.proofs.Edges.{edge_like, edges_alike}
use Rattle.carry_law.proofs.Origins.{carried}
use Rattle.carry_law.proofs.Renamed.{IsRenamed}
use Rattle.carry_law.proofs.Transfers.{function_is}

-- ---- which actions contribute to a start

abbrev pub Enters : Action → ℕ → Type 0
Enters (Create i h) f = h ≡ f
Enters (Call d h args) f = h ≡ f
Enters act f = ⊥

module _ (p : Program) (t : TableValue) (slots : List Slot) (state : List Bounds) (locks f : ℕ) (key : Key) where
  one_target : (e x : Effect) → Contains (e ∷ []) x → x.target ≡ Point f key 0 → e.target ≡ Point f key 0
  one_target e x one is = elim (Contains-cases e x [] one) [
    | inl same ↦ ap (λ (d : Effect). d.target) (sym same) ∙ is
    | inr none ↦ absurd (Contains-nil x none)
  ]

  written_enters : (g : ℕ) (v : Option Bounds) (x : Effect) → Contains (written p state locks g v).effects x → x.target ≡ Point f key 0 → ⊥
  written_enters g None x one is = Contains-nil x one
  written_enters g (Some v) x one is = global_apart g f key 0 (one_target _ x one is)

  start_of_one : (h : ℕ) (other : Key) → Point h other 0 ≡ Point f key 0 → h ≡ f
  start_of_one h other same = cc same

  called_enters : (d : Option ℕ) (h : ℕ) (args : Option (List Bounds)) (x : Effect) → Contains (called p t slots state locks d h args).effects x → x.target ≡ Point f key 0 → h ≡ f
  called_enters d h None x one is = absurd (Contains-nil x one)
  called_enters d h (Some args) x one is = start_of_one h _ (one_target _ x one is)

  action_enters : (act : Action) (x : Effect) → Contains (outcome_in p t slots state locks act).effects x → x.target ≡ Point f key 0 → Enters act f
  action_enters (Write g e) x one is = absurd (written_enters g _ x one is)
  action_enters (Create i h) x one is = start_of_one h _ (one_target _ x one is)
  action_enters (Call d h args) x one is = called_enters d h (values_of slots state args) x one is
  action_enters act x one is = absurd (Contains-nil x one)

transfer_enters : (p : Program) (t : TableValue) (g : ℕ) (act : Action) (s : StateValue) (f : ℕ) (key : Key) (x : Effect) → Contains (transfer p t g act s).effects x → x.target ≡ Point f key 0 → Enters act f
transfer_enters p t g act (Bottom room) f key x one is = absurd (Contains-nil x one)
transfer_enters p t g act (Reached xs locks) f key x one is = action_enters p t _ xs locks f key act x one is

int_or_thread : (o : Option FuncGraph) → IsSomeAnd o IsThreadFunction → IsSomeAnd o (λ (f : FuncGraph). (f.kind ≡ Int) × (f.params ≡ 0) × (returned_width f.slots ≡ W32)) → ⊥
int_or_thread None thread int = thread
int_or_thread (Some f) thread int = (let clash : Int ≡ Thread = sym int.0 ∙ thread in cc clash)

-- no edge of the new program enters its `main`
module _ (old new : Program) (new_formed : IsFormed new) (f : ℕ) (same : SameFunction old f new new.main) (y : FuncGraph) where
  never_enters : (act bct : Action) → AreAlikeActions old new act bct → Enters act f → IsFormedAction new y bct → ⊥
  never_enters (Create i h) (Create j k) alike enters formed =
      let is : new.main ≡ k = function_is old new new_formed h new.main k (subst (λ (e : ℕ). SameFunction old e new new.main) (sym enters) same) alike in
      int_or_thread (slice_get new.funcs new.main) (subst (λ (e : ℕ). IsSomeAnd (slice_get new.funcs e) IsThreadFunction) (sym is) formed.1) new_formed.main_there
  never_enters (Create i h) bct alike enters formed = absurd alike
  never_enters (Call d h ds) (Call e k es) alike enters formed =
      let is : new.main ≡ k = function_is old new new_formed h new.main k (subst (λ (e : ℕ). SameFunction old e new new.main) (sym enters) same) alike.1.0 in
      formed.1 (sym is)
  never_enters (Call d h ds) bct alike enters formed = absurd alike
  never_enters act bct alike enters formed = absurd enters

-- ---- the start of `main`

module _ (old new : Program) (old_formed : IsFormed old) (new_formed : IsFormed new) (t : TableValue) (s : Solving) (c : Carries old new t s) where
  new_number : (f : ℕ) (key : Key) (node : ℕ) (w : Unknown) → IsRenamed old new (Point f key node) w → (g : ℕ) × SameFunction old f new g
  new_number f key node (Point g other n) named = (g, named.0)
  new_number f key node (Global h) named = absurd named

  not_entered : (u : Unknown) (f : ℕ) (key : Key) → IsThere t u → (IsRemoved old new t u → ⊥) → Contains (targets_of old t u) (Point f key 0) → SameFunction old f new new.main → ⊥
  not_entered (Point e context zero) f key there stays one same = Contains-nil _ one
  not_entered (Point e context (suc m)) f key there stays one same =
      let x = Contains-map (λ (d : Effect). d.target) (effects_of old t e context (edges_into old e (suc m))) (Point f key 0) one in
      let edge = Contains-flat_map (λ (d : Edge). (outcome_of old t e context d).effects) (edges_into old e (suc m)) x.0 x.1 in
      let over = carried old new old_formed t s c (Point e context (suc m)) there stays in
      let g = new_number e context (suc m) over.place over.named in
      let like = edge_like old new (edges_into old e (suc m)) (edges_into new g.0 (suc m)) edge.0 (edges_alike old new e g.0 (suc m) g.1) edge.1 in
      let found = edges_formed new new_formed g.0 (slice_get new.funcs g.0) refl like.0 ((Contains-filter (λ (d : Edge). nat_eq d.to (suc m)) (edges_at new g.0) like.0 like.1).0) in
      never_enters old new new_formed f same found.0 edge.0.act like.0.act (alike_actions old new edge.0.act like.0.act (ap (λ (d : NamedEdge). d.act) like.2))
      (transfer_enters old t e edge.0.act (state_at old t e context edge.0.from) f key x.0 edge.2 (sym x.2)) found.2.action
  not_entered (Global g) f key there stays one same = Contains-nil _ one

  abbrev IsMainStart : Unknown → Type 0
  IsMainStart u = (f : ℕ) (key : Key) → u ≡ Point f key 0 → IsThere t (Point f key 0) → (IsRemoved old new t (Point f key 0) → ⊥) → SameFunction old f new new.main → u ≡ main_start old

  by_reached : {u : Unknown} → IsReachedFromMain old t u → IsMainStart u
  by_reached main_itself f key is there stays same = refl
  by_reached (node_of_start {f} {key} {node} before here) g other is there stays same =
      let start : node ≡ 0 = cc is in
      let point_is : Point f key node ≡ Point f key 0 = ap (Point f key) start in
      point_is ∙ by_reached before g other (sym point_is ∙ is) there stays same
  by_reached (started {u} {f} {key} before affects) g other is there stays same =
      let number : f ≡ g = cc is in
      absurd (not_entered u f key affects.0 (λ removed. stays (subst (IsRemoved old new t) is (affected removed affects (subst (IsThere t) (sym is) there)))) affects.1 (subst (λ (e : ℕ). SameFunction old e new new.main) (sym number) same))

  pub start_is_main : (f : ℕ) (key : Key) → IsThere t (Point f key 0) → (IsRemoved old new t (Point f key 0) → ⊥) → SameFunction old f new new.main → Point f key 0 ≡ main_start old
  start_is_main f key there stays same = elim (cases_unknown (Point f key 0) (main_start old)) [
    | inl is ↦ is
    | inr other ↦ absurd (stays (unreached_start there (λ reached. other (by_reached reached f key refl there stays same))))
  ]
