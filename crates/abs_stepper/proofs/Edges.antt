-- Where a label leads is decided, in function and node, by the function that offers it.
use Rattle.std.proofs.Common.{◌≡◌, inl, inr, ℕ, nat_eq, suc, ◌+◌, ◌<◌, Bool, true, false, cond, true≢false, length, List, [], ◌∷◌, ◌++◌, Option, None, Some, refl, sym, ap, subst, ◌∙◌, arith, rules}
use Rattle.std.specs.Prelude.{Contains, slice_get}
use Rattle.std.proofs.lemmas.Bool.Decides.{nat_tests}
use Rattle.std.proofs.lemmas.List.Elements.{Contains-append_cases}
use Rattle.std.proofs.lemmas.Option.{get_or_from_slice_get, none-some, same_Some, slice_get_within}
use Rattle.gob_tree.specs.Formed.{IsFormed}
use Rattle.gob_tree.specs.declared.graph.FuncGraph.{FuncGraph}
use Rattle.gob_tree.specs.declared.expr.Expr.{Expr}
use Rattle.gob_tree.specs.declared.graph.Action.{Action}
use Rattle.gob_tree.specs.declared.graph.Action.TheVariants as actions
use Rattle.gob_tree.specs.declared.graph.Edge.{Edge}
use Rattle.gob_tree.specs.declared.graph.Program.{Program}
use Rattle.gob_tree.specs.declared.unit.Slot.{Slot}
use Rattle.interval_dom.specs.Bounds.{Bounds}
use Rattle.state_dom.specs.StateValue.{StateValue, Bottom, Reached}
use Rattle.constraint_sys.specs.declared.unknown.Key.{Key}
use Rattle.constraint_sys.specs.declared.unknown.Unknown.{Unknown}
use Rattle.constraint_sys.specs.declared.unknown.Unknown.TheVariants.{Point}
use Rattle.constraint_sys.specs.declared.value.Effect.{Effect}
use Rattle.constraint_sys.specs.declared.value.Outcome.{Outcome}
use Rattle.constraint_sys.specs.Contribution.{outcome_of}
use Rattle.constraint_sys.specs.Index.{begins_at}
use Rattle.constraint_sys.specs.Table.{TableValue, edges_at, nodes_at, nodes_of_function, slots_at, state_at}
use Rattle.constraint_sys.proofs.Contributing.{edges_formed}
use Rattle.constraint_sys.specs.Transfer.{called, transfer, values_of}
use Rattle.constraint_sys.proofs.Ordered.{Contains-cases, Contains-head, Contains-nil, Contains-tail}
use Rattle.arg_graph.specs.declared.vertex.Label.{Label}
use Rattle.arg_graph.specs.declared.vertex.Label.TheVariants.{Do, Over, Enter, Thread, Leave}
use Rattle.arg_graph.specs.declared.vertex.Step.{Step}
use Rattle.arg_graph.specs.declared.vertex.Vertex.{Vertex}
use Rattle.arg_graph.specs.contracts.vertex.LabelPartialEq.TheImpl.{ghosts as labels}
use Rattle.arg_graph.specs.Following.{target_of}
use Rattle.arg_graph.specs.Offered.{begun, beginning, offered, passed, passing, start, starts, steps_by, steps_from}
use Rattle.arg_graph.specs.Vertices.{vertex_at}
use Rattle.arg_graph.proofs.Tops.{IsStep}
use Rattle.abs_stepper.specs.Statements.{stays}

-- ---- the step that a label finds
same_label : (a b : Label) → labels.eq a b ≡ true → a ≡ b
same_label a b h = search rules

pub target_there : (label : Label) (ss : List Step) (to : Vertex) → target_of label ss ≡ Some to → Contains ss (record { label = label; to = to })
target_there label [] to is = absurd (none-some to is)
target_there label (s ∷ ss) to is = by (labels.eq s.label label) refl is (λ later. target_there label ss to later)
  where
    by : (b : Bool) → labels.eq s.label label ≡ b → cond b (Some s.to) (target_of label ss) ≡ Some to → (target_of label ss ≡ Some to → Contains ss (record { label = label; to = to })) → Contains (s ∷ ss) (record { label = label; to = to })
    by true same found later =
        let one : s ≡ record { label = label; to = to } = λ i. record { label = same_label s.label label same i; to = same_Some s.to to found i } in
        subst (λ (x : Step). Contains (s ∷ ss) x) one (Contains-head s ss)
    by false apart found later = Contains-tail s (record { label = label; to = to }) ss (later found)

-- ---- what a step by an edge is like
number_of : Label → ℕ
number_of (Do n) = n
number_of (Over n) = n
number_of (Enter n) = n
number_of (Thread n) = n
number_of Leave = 0

callee_of : Action → ℕ
callee_of (actions.Assign x e) = 0
callee_of (actions.Read x g) = 0
callee_of (actions.Write g e) = 0
callee_of (actions.Nondet x) = 0
callee_of (actions.Guard e wanted) = 0
callee_of (actions.Assert e) = 0
callee_of (actions.Lock m) = 0
callee_of (actions.Unlock m) = 0
callee_of (actions.Create x f) = f
callee_of (actions.Join x) = 0
callee_of (actions.Call d f args) = f
callee_of actions.Skip = 0

end_func : ℕ → Action → Label → ℕ
end_func f act (Do n) = f
end_func f act (Over n) = f
end_func f act (Enter n) = callee_of act
end_func f act (Thread n) = callee_of act
end_func f act Leave = f

end_node : ℕ → Label → ℕ
end_node to (Do n) = to
end_node to (Over n) = to
end_node to (Enter n) = 0
end_node to (Thread n) = 0
end_node to Leave = to

-- a step of function f in a context by edge n, which has this action and this end
record IsByEdge (f n : ℕ) (key : Key) (act : Action) (to : ℕ) (s : Step) : Type 0 where
  number : number_of s.label ≡ n
  func : s.to.func ≡ end_func f act s.label
  node : s.to.node ≡ end_node to s.label
  step : IsStep s.label
  keeps : stays s.label ≡ true → s.to.key ≡ key

step_to : Label → Vertex → Step
step_to label v = record { label = label; to = v }

passed_is : (v : Vertex) (e : Edge) (label : Label) (o : StateValue) (s : Step) → Contains (passed v e label o) s → s ≡ step_to label (vertex_at v.func v.key e.to)
unfolding step_to
passed_is v e label (Bottom room) s one = absurd (Contains-nil s one)
passed_is v e label (Reached slots locks) s one = elim (Contains-cases (record { label = label; to = vertex_at v.func v.key e.to }) s [] one) [ inl same ↦ same | inr none ↦ absurd (Contains-nil s none) ]

-- each effect is the start of a function
AreStartsOf : ℕ → List Effect → Type 0
AreStartsOf g effects = (x : Effect) → Contains effects x → (key : Key) × (x.target ≡ Point g key 0)

starts_is : (g : ℕ) (label : Label) (effects : List Effect) → AreStartsOf g effects → (s : Step) → Contains (starts label effects) s → (key : Key) × (s ≡ step_to label (vertex_at g key 0))
unfolding AreStartsOf step_to
starts_is g label [] are s one = absurd (Contains-nil s one)
starts_is g label (x ∷ xs) are s one =
    let first = are x (Contains-head x xs) in
    elim (Contains-append_cases (start label x.target) (starts label xs) s one) [
      | inl here ↦ (
          let there : Contains (record { label = label; to = vertex_at g first.0 0 } ∷ []) s = subst (λ (u : Unknown). Contains (start label u) s) first.1 here in
          elim (Contains-cases (record { label = label; to = vertex_at g first.0 0 }) s [] there) [ inl same ↦ (first.0, same) | inr none ↦ absurd (Contains-nil s none) ])
      | inr later ↦ starts_is g label xs (λ y among. are y (Contains-tail x y xs among)) s later
    ]

done_is : (f n : ℕ) (act : Action) (to : ℕ) (key : Key) (s : Step) → s ≡ step_to (Do n) (vertex_at f key to) → IsByEdge f n key act to s
unfolding step_to number_of end_func end_node
done_is f n act to key s is = subst (λ (x : Step). IsByEdge f n key act to x) (sym is) (record { number = refl; func = refl; node = refl; step = tt; keeps = λ stayed. refl })

over_is : (f n : ℕ) (act : Action) (to : ℕ) (key : Key) (s : Step) → s ≡ step_to (Over n) (vertex_at f key to) → IsByEdge f n key act to s
unfolding step_to number_of end_func end_node
over_is f n act to key s is = subst (λ (x : Step). IsByEdge f n key act to x) (sym is) (record { number = refl; func = refl; node = refl; step = tt; keeps = λ stayed. refl })

enter_is : (f n : ℕ) (own : Key) (act : Action) (to : ℕ) (key : Key) (s : Step) → s ≡ step_to (Enter n) (vertex_at (callee_of act) key 0) → IsByEdge f n own act to s
unfolding step_to number_of end_func end_node
enter_is f n own act to key s is = subst (λ (x : Step). IsByEdge f n own act to x) (sym is) (record { number = refl; func = refl; node = refl; step = tt; keeps = λ stayed. absurd (true≢false (sym stayed)) })

thread_is : (f n : ℕ) (own : Key) (act : Action) (to : ℕ) (key : Key) (s : Step) → s ≡ step_to (Thread n) (vertex_at (callee_of act) key 0) → IsByEdge f n own act to s
unfolding step_to number_of end_func end_node
thread_is f n own act to key s is = subst (λ (x : Step). IsByEdge f n own act to x) (sym is) (record { number = refl; func = refl; node = refl; step = tt; keeps = λ stayed. absurd (true≢false (sym stayed)) })

no_starts : (f : ℕ) → AreStartsOf f []
unfolding AreStartsOf
no_starts f = λ e one. absurd (Contains-nil e one)

module _ (p : Program) (t : TableValue) (g : ℕ) where
  create_starts : (x f : ℕ) (s : StateValue) → AreStartsOf f (transfer p t g (actions.Create x f) s).effects
  unfolding AreStartsOf
  create_starts x f (Bottom room) = λ e one. absurd (Contains-nil e one)
  create_starts x f (Reached slots locks) = λ e one. elim (Contains-cases _ e [] one) [ inl same ↦ (_, ap (λ (y : Effect). y.target) same) | inr none ↦ absurd (Contains-nil e none) ]

  called_starts : (slots : List Slot) (state : List Bounds) (locks : ℕ) (d : Option ℕ) (f : ℕ) (args : Option (List Bounds)) → AreStartsOf f (called p t slots state locks d f args).effects
  unfolding AreStartsOf
  called_starts slots state locks d f None = λ e one. absurd (Contains-nil e one)
  called_starts slots state locks d f (Some args) = λ e one. elim (Contains-cases _ e [] one) [ inl same ↦ (_, ap (λ (y : Effect). y.target) same) | inr none ↦ absurd (Contains-nil e none) ]

  call_starts : (d : Option ℕ) (f : ℕ) (args : List Expr) (s : StateValue) → AreStartsOf f (transfer p t g (actions.Call d f args) s).effects
  call_starts d f args (Bottom room) = no_starts f
  call_starts d f args (Reached state locks) = called_starts (slots_at p g) state locks d f (values_of (slots_at p g) state args)

module _ (p : Program) (t : TableValue) (v : Vertex) (n : ℕ) (e : Edge) (s : Step) where
  -- what passes, where nothing begins
  only_done : (act : Action) (o : Outcome) → Contains (passed v e (Do n) o.value ++ []) s → IsByEdge v.func n v.key act e.to s
  only_done act o one = elim (Contains-append_cases (passed v e (Do n) o.value) [] s one) [
    | inl here ↦ done_is v.func n act e.to v.key s (passed_is v e (Do n) o.value s here)
    | inr none ↦ absurd (Contains-nil s none)
  ]

  by_action : (act : Action) (from : StateValue) → Contains (passed v e (passing n act) (transfer p t v.func act from).value ++ begun (beginning n act) (transfer p t v.func act from).effects) s → IsByEdge v.func n v.key act e.to s
  unfolding callee_of
  by_action (actions.Assign x a) from one = only_done (actions.Assign x a) (transfer p t v.func (actions.Assign x a) from) one
  by_action (actions.Read x g) from one = only_done (actions.Read x g) (transfer p t v.func (actions.Read x g) from) one
  by_action (actions.Write g a) from one = only_done (actions.Write g a) (transfer p t v.func (actions.Write g a) from) one
  by_action (actions.Nondet x) from one = only_done (actions.Nondet x) (transfer p t v.func (actions.Nondet x) from) one
  by_action (actions.Guard a wanted) from one = only_done (actions.Guard a wanted) (transfer p t v.func (actions.Guard a wanted) from) one
  by_action (actions.Assert a) from one = only_done (actions.Assert a) (transfer p t v.func (actions.Assert a) from) one
  by_action (actions.Lock m) from one = only_done (actions.Lock m) (transfer p t v.func (actions.Lock m) from) one
  by_action (actions.Unlock m) from one = only_done (actions.Unlock m) (transfer p t v.func (actions.Unlock m) from) one
  by_action (actions.Join x) from one = only_done (actions.Join x) (transfer p t v.func (actions.Join x) from) one
  by_action actions.Skip from one = only_done actions.Skip (transfer p t v.func actions.Skip from) one
  by_action (actions.Create x f) from one =
      let o = transfer p t v.func (actions.Create x f) from in
      elim (Contains-append_cases (passed v e (Do n) o.value) (starts (Thread n) o.effects) s one) [
        | inl here ↦ done_is v.func n (actions.Create x f) e.to v.key s (passed_is v e (Do n) o.value s here)
        | inr begins ↦ (let there = starts_is f (Thread n) o.effects (create_starts p t v.func x f from) s begins in thread_is v.func n v.key (actions.Create x f) e.to there.0 s there.1)
      ]
  by_action (actions.Call d f args) from one =
      let o = transfer p t v.func (actions.Call d f args) from in
      elim (Contains-append_cases (passed v e (Over n) o.value) (starts (Enter n) o.effects) s one) [
        | inl here ↦ over_is v.func n (actions.Call d f args) e.to v.key s (passed_is v e (Over n) o.value s here)
        | inr begins ↦ (let there = starts_is f (Enter n) o.effects (call_starts p t v.func d f args from) s begins in enter_is v.func n v.key (actions.Call d f args) e.to there.0 s there.1)
      ]

  -- the step is by one of the edges
  by_edge : Contains (steps_by v n e (outcome_of p t v.func v.key e)) s → IsByEdge v.func n v.key e.act e.to s
  by_edge one = by_action e.act (state_at p t v.func v.key e.from) one

module _ (p : Program) (t : TableValue) (v : Vertex) (s : Step) where
  IsByOne : ℕ → List Edge → Type 0
  IsByOne n es = (k : ℕ) × (e : Edge) × (slice_get es k ≡ Some e) × (begins_at v.node e ≡ true) × IsByEdge v.func (n + k) v.key e.act e.to s

  by_first : (n : ℕ) (e : Edge) (es : List Edge) → begins_at v.node e ≡ true → IsByEdge v.func n v.key e.act e.to s → IsByOne n (e ∷ es)
  unfolding IsByOne
  by_first n e es begins is = (0, e, refl, begins, subst (λ (m : ℕ). IsByEdge v.func m v.key e.act e.to s) (omega arith) is)

  by_later : (n : ℕ) (e : Edge) (es : List Edge) → IsByOne (n + 1) es → IsByOne n (e ∷ es)
  unfolding IsByOne
  by_later n e es one = (suc one.0, one.1, one.2, one.3, subst (λ (m : ℕ). IsByEdge v.func m v.key one.1.act one.1.to s) (omega arith) one.4)

  unless_first : (n : ℕ) (e : Edge) (es : List Edge) (b : Bool) → begins_at v.node e ≡ b → (Contains (steps_from p t v (n + 1) es) s → IsByOne n (e ∷ es))
      → Contains (cond b (steps_by v n e (outcome_of p t v.func v.key e)) [] ++ steps_from p t v (n + 1) es) s → IsByOne n (e ∷ es)
  unless_first n e es true begins later one = elim (Contains-append_cases (steps_by v n e (outcome_of p t v.func v.key e)) (steps_from p t v (n + 1) es) s one) [
    | inl here ↦ by_first n e es begins (by_edge p t v n e s here)
    | inr there ↦ later there
  ]
  unless_first n e es false begins later one = later one

  by_one : (n : ℕ) (es : List Edge) → Contains (steps_from p t v n es) s → IsByOne n es
  by_one n [] one = absurd (Contains-nil s one)
  by_one n (e ∷ es) one = unless_first n e es (begins_at v.node e) refl (λ there. by_later n e es (by_one (n + 1) es there)) one

  offered_by : Contains (offered p t v) s → (e : Edge) × (slice_get (edges_at p v.func) (number_of s.label) ≡ Some e) × (s.to.func ≡ end_func v.func e.act s.label) × (s.to.node ≡ end_node e.to s.label)
  unfolding IsByOne
  offered_by one =
      let by = by_one 0 (edges_at p v.func) one in
      let number : number_of s.label ≡ by.0 = omega (arith, by.4.number) in
      (by.1, ap (slice_get (edges_at p v.func)) number ∙ by.2, by.4.func, by.4.node)

  -- no step that a vertex offers is Leave
  pub offers_steps : Contains (offered p t v) s → IsStep s.label
  unfolding IsByOne
  offers_steps one = (by_one 0 (edges_at p v.func) one).4.step

  func_stays : (label : Label) (act : Action) → stays label ≡ true → end_func v.func act label ≡ v.func
  unfolding end_func
  func_stays (Do n) act stayed = refl
  func_stays (Over n) act stayed = refl
  func_stays (Enter n) act stayed = absurd (true≢false (sym stayed))
  func_stays (Thread n) act stayed = absurd (true≢false (sym stayed))
  func_stays Leave act stayed = absurd (true≢false (sym stayed))

  -- Do and Over keep function and context
  pub offers_inside : Contains (offered p t v) s → stays s.label ≡ true → (s.to.func ≡ v.func) × (s.to.key ≡ v.key)
  unfolding IsByOne
  offers_inside one stayed = (let by = by_one 0 (edges_at p v.func) one in (by.4.func ∙ func_stays s.label by.1.act stayed, by.4.keeps stayed))

  same_number : (m n : ℕ) → nat_eq m n ≡ true → m ≡ n
  same_number m n same = grind (arith, nat_tests)

  -- what offers a step is a node of its function
  pub offers_within : IsFormed p → Contains (offered p t v) s → v.node < length (nodes_at p v.func)
  unfolding IsByOne
  offers_within formed one =
      let by = by_one 0 (edges_at p v.func) one in
      let among : Contains (edges_at p v.func) by.1 = (by.0, slice_get_within (edges_at p v.func) by.0 by.1 by.2, get_or_from_slice_get (edges_at p v.func) by.0 by.1 by.1 by.2) in
      let edge = edges_formed p formed v.func (slice_get p.funcs v.func) refl by.1 among in
      let node : by.1.from ≡ v.node = same_number by.1.from v.node by.3 in
      subst (λ (o : Option FuncGraph). v.node < length (nodes_of_function o)) (sym edge.1) (subst (λ (n : ℕ). n < length edge.0.nodes) node edge.2.begins)

-- two vertices of one function: where a label leads has one function and node
pub same_end : (p : Program) (t : TableValue) (label : Label) (v w a b : Vertex) → v.func ≡ w.func → target_of label (offered p t v) ≡ Some a → target_of label (offered p t w) ≡ Some b → (a.func ≡ b.func) × (a.node ≡ b.node)
same_end p t label v w a b same first second =
    let x = offered_by p t v (record { label = label; to = a }) (target_there label (offered p t v) a first) in
    let y = offered_by p t w (record { label = label; to = b }) (target_there label (offered p t w) b second) in
    let edge : x.0 ≡ y.0 = same_Some x.0 y.0 (sym x.1 ∙ ap (λ (f : ℕ). slice_get (edges_at p f) (number_of label)) same ∙ y.1) in (
      x.2 ∙ ap (λ (f : ℕ). end_func f x.0.act label) same ∙ ap (λ (e : Edge). end_func w.func e.act label) edge ∙ sym y.2,
      x.3 ∙ ap (λ (e : Edge). end_node e.to label) edge ∙ sym y.3,
    )
