-- The steps that are offered at a vertex, found by their labels.
use Rattle.std.proofs.Common.{◌≡◌, ◌≢◌, ◌∙◌, refl, sym, ap, subst, ℕ, zero, suc, ◌+◌, Bool, true, false, nat_eq, List, [], ◌∷◌, ◌++◌, Option, Some, arith, append_assoc, true≢false}
use Rattle.std.specs.Prelude.{if◌then◌else◌, slice_get}
use Rattle.std.proofs.lemmas.Bool.Decides.{nat_tests}
use Rattle.std.proofs.lemmas.Option.{none-some, same_Some}
use Rattle.gob_tree.specs.declared.expr.Expr.{Expr}
use Rattle.gob_tree.specs.declared.graph.Action.{Action}
use Rattle.gob_tree.specs.declared.graph.Action.TheVariants as actions
use Rattle.gob_tree.specs.declared.graph.Edge.{Edge}
use Rattle.gob_tree.specs.declared.graph.FuncGraph.{FuncGraph}
use Rattle.gob_tree.specs.declared.graph.Program.{Program}
use Rattle.c_meaning.specs.GraphStep.{edge_at}
use Rattle.std.proofs.lemmas.Option.{option_and_then_some}
use Rattle.state_dom.specs.StateValue.{StateValue, Bottom, Reached, is_reached}
use Rattle.constraint_sys.specs.declared.unknown.Key.{Key}
use Rattle.constraint_sys.specs.declared.unknown.Unknown.{Unknown}
use Rattle.constraint_sys.specs.declared.unknown.Unknown.TheVariants.{Point, Global}
use Rattle.constraint_sys.specs.declared.value.Effect.{Effect}
use Rattle.constraint_sys.specs.declared.value.Outcome.{Outcome}
use Rattle.constraint_sys.specs.declared.value.Value.TheVariants.{State}
use Rattle.constraint_sys.specs.Contribution.{outcome_of}
use Rattle.constraint_sys.specs.Index.{begins_at}
use Rattle.constraint_sys.specs.Table.{TableValue, edges_at, edges_of_function}
use Rattle.arg_graph.specs.declared.vertex.Label.{Label}
use Rattle.arg_graph.specs.declared.vertex.Label.TheVariants.{Do, Over, Enter, Thread}
use Rattle.arg_graph.specs.declared.vertex.Step.{Step}
use Rattle.arg_graph.specs.declared.vertex.Vertex.{Vertex}
use Rattle.arg_graph.specs.contracts.vertex.LabelPartialEq.TheImpl.{ghosts as labels}
use Rattle.arg_graph.specs.Following.{target_of}
use Rattle.arg_graph.specs.Offered.{beginning, begun, offered, passed, passing, start, starts, steps_by, steps_from}
use Rattle.arg_graph.specs.Vertices.{vertex_at}

-- ---- labels

same_number : (n : ℕ) → nat_eq n n ≡ true
same_number n = grind (arith, nat_tests)

number_apart : (k n : ℕ) → k ≢ n → nat_eq k n ≡ false
number_apart k n apart = grind (arith, nat_tests)

-- no step by edge k has this label
pub record IsApart (label : Label) (k : ℕ) : Type 0 where
  pub done : labels.eq (Do k) label ≡ false
  pub over : labels.eq (Over k) label ≡ false
  pub entered : labels.eq (Enter k) label ≡ false
  pub thread : labels.eq (Thread k) label ≡ false

do_apart : (k n : ℕ) → k ≢ n → IsApart (Do n) k
do_apart k n apart = record { done = number_apart k n apart; over = refl; entered = refl; thread = refl }

over_apart : (k n : ℕ) → k ≢ n → IsApart (Over n) k
over_apart k n apart = record { done = refl; over = number_apart k n apart; entered = refl; thread = refl }

enter_apart : (k n : ℕ) → k ≢ n → IsApart (Enter n) k
enter_apart k n apart = record { done = refl; over = refl; entered = number_apart k n apart; thread = refl }

-- ---- steps that are passed over

abbrev AllApart : Label → List Step → Type 0
AllApart label [] = Unit {0}
AllApart label (s ∷ ss) = (labels.eq s.label label ≡ false) × AllApart label ss

skipped : (label : Label) (ss rest : List Step) → AllApart label ss → target_of label (ss ++ rest) ≡ target_of label rest
skipped label [] rest apart = refl
skipped label (s ∷ ss) rest apart = ap (λ (b : Bool). if b then Some s.to else target_of label (ss ++ rest)) apart.0 ∙ skipped label ss rest apart.1

apart_append : (label : Label) (xs ys : List Step) → AllApart label xs → AllApart label ys → AllApart label (xs ++ ys)
apart_append label [] ys left right = right
apart_append label (x ∷ xs) ys left right = (left.0, apart_append label xs ys left.1 right)

apart_passed : (label own : Label) (v : Vertex) (e : Edge) (s : StateValue) → labels.eq own label ≡ false → AllApart label (passed v e own s)
apart_passed label own v e (Bottom room) apart = tt
apart_passed label own v e (Reached xs locks) apart = (apart, tt)

apart_start : (label own : Label) (u : Unknown) → labels.eq own label ≡ false → AllApart label (start own u)
apart_start label own (Point f key node) apart = (apart, tt)
apart_start label own (Global g) apart = tt

apart_starts : (label own : Label) (effects : List Effect) → labels.eq own label ≡ false → AllApart label (starts own effects)
apart_starts label own [] apart = tt
apart_starts label own (e ∷ es) apart = apart_append label (start own e.target) (starts own es) (apart_start label own e.target apart) (apart_starts label own es apart)

apart_steps : (label : Label) (v : Vertex) (k : ℕ) (e : Edge) (act : Action) (o : Outcome) → IsApart label k → AllApart label (passed v e (passing k act) o.value ++ begun (beginning k act) o.effects)
apart_steps label v k e (actions.Assign x a) o apart = apart_append label (passed v e (Do k) o.value) [] (apart_passed label (Do k) v e o.value apart.done) tt
apart_steps label v k e (actions.Read x g) o apart = apart_append label (passed v e (Do k) o.value) [] (apart_passed label (Do k) v e o.value apart.done) tt
apart_steps label v k e (actions.Write g a) o apart = apart_append label (passed v e (Do k) o.value) [] (apart_passed label (Do k) v e o.value apart.done) tt
apart_steps label v k e (actions.Nondet x) o apart = apart_append label (passed v e (Do k) o.value) [] (apart_passed label (Do k) v e o.value apart.done) tt
apart_steps label v k e (actions.Guard a wanted) o apart = apart_append label (passed v e (Do k) o.value) [] (apart_passed label (Do k) v e o.value apart.done) tt
apart_steps label v k e (actions.Assert a) o apart = apart_append label (passed v e (Do k) o.value) [] (apart_passed label (Do k) v e o.value apart.done) tt
apart_steps label v k e (actions.Lock m) o apart = apart_append label (passed v e (Do k) o.value) [] (apart_passed label (Do k) v e o.value apart.done) tt
apart_steps label v k e (actions.Unlock m) o apart = apart_append label (passed v e (Do k) o.value) [] (apart_passed label (Do k) v e o.value apart.done) tt
apart_steps label v k e (actions.Create x f) o apart =
    apart_append label (passed v e (Do k) o.value) (starts (Thread k) o.effects) (apart_passed label (Do k) v e o.value apart.done) (apart_starts label (Thread k) o.effects apart.thread)
apart_steps label v k e (actions.Join x) o apart = apart_append label (passed v e (Do k) o.value) [] (apart_passed label (Do k) v e o.value apart.done) tt
apart_steps label v k e (actions.Call d f args) o apart =
    apart_append label (passed v e (Over k) o.value) (starts (Enter k) o.effects) (apart_passed label (Over k) v e o.value apart.over) (apart_starts label (Enter k) o.effects apart.entered)
apart_steps label v k e actions.Skip o apart = apart_append label (passed v e (Do k) o.value) [] (apart_passed label (Do k) v e o.value apart.done) tt

-- ---- the step that is found

module _ (p : Program) (t : TableValue) (v : Vertex) (label : Label) where
  -- the steps by an edge, and others behind, have the label first at this vertex
  abbrev Finds : ℕ → Edge → Vertex → Type 0
  Finds n e to = (rest : List Step) → target_of label (steps_by v n e (outcome_of p t v.func v.key e) ++ rest) ≡ Some to

  unless_begins : (k : ℕ) (e : Edge) (rest : List Step) (to : Vertex) (b : Bool) → IsApart label k → target_of label rest ≡ Some to → target_of label ((if b then steps_by v k e (outcome_of p t v.func v.key e) else []) ++ rest) ≡ Some to
  unless_begins k e rest to true apart found = skipped label (steps_by v k e (outcome_of p t v.func v.key e)) rest (apart_steps label v k e e.act (outcome_of p t v.func v.key e) apart) ∙ found
  unless_begins k e rest to false apart found = found

  first_found : (k : ℕ) (e : Edge) (rest : List Step) (to : Vertex) (b : Bool) → b ≡ true → Finds k e to → target_of label ((if b then steps_by v k e (outcome_of p t v.func v.key e) else []) ++ rest) ≡ Some to
  first_found k e rest to true begins finds = finds rest
  first_found k e rest to false begins finds = absurd (true≢false (sym begins))

  found_from : (es : List Edge) (k n m : ℕ) (edge : Edge) (to : Vertex) → slice_get es n ≡ Some edge → m ≡ k + n → begins_at v.node edge ≡ true → ((j : ℕ) → j ≢ m → IsApart label j) → Finds m edge to
      → target_of label (steps_from p t v k es) ≡ Some to
  found_from [] k n m edge to at is begins apart finds = absurd (none-some edge at)
  found_from (e ∷ es) k zero m edge to at is begins apart finds =
      let same : e ≡ edge = same_Some e edge at in
      let number : m ≡ k = omega (arith, is) in
      first_found k e (steps_from p t v (k + 1) es) to (begins_at v.node e) (subst (λ (x : Edge). begins_at v.node x ≡ true) (sym same) begins)
      (subst (λ (x : Edge). Finds k x to) (sym same) (subst (λ (j : ℕ). Finds j edge to) number finds))
  found_from (e ∷ es) k (suc n) m edge to at is begins apart finds =
      let later : m ≡ (k + 1) + n = omega (arith, is) in
      unless_begins k e (steps_from p t v (k + 1) es) to (begins_at v.node e) (apart k (λ same. omega (arith, is, same)))
      (found_from es (k + 1) n m edge to at later begins apart finds)

-- the edges of a vertex's function, by number
edge_there : (p : Program) (f number : ℕ) (edge : Edge) → edge_at p f number ≡ Some edge → slice_get (edges_at p f) number ≡ Some edge
edge_there p f number edge q =
    option_and_then_some (λ (func : FuncGraph). slice_get func.edges number) (slice_get p.funcs f) edge q (λ func at got.
    subst (λ (es : List Edge). slice_get es number ≡ Some edge) (sym (ap edges_of_function at)) got)

begins_here : (node from : ℕ) → from ≡ node → nat_eq from node ≡ true
begins_here node from same = grind (arith, nat_tests)

-- the step past an edge that reaches its end
passed_found : (label : Label) (v : Vertex) (e : Edge) (s : StateValue) (rest : List Step) → labels.eq label label ≡ true → is_reached s ≡ true → target_of label (passed v e label s ++ rest) ≡ Some (vertex_at v.func v.key e.to)
passed_found label v e (Bottom room) rest same reached = absurd (true≢false (sym reached))
passed_found label v e (Reached xs locks) rest same reached = ap (λ (b : Bool). if b then Some (vertex_at v.func v.key e.to) else target_of label rest) same

passed_finds : (label own : Label) (v : Vertex) (e : Edge) (s : StateValue) (more rest : List Step) → own ≡ label → labels.eq label label ≡ true → is_reached s ≡ true
    → target_of label ((passed v e own s ++ more) ++ rest) ≡ Some (vertex_at v.func v.key e.to)
passed_finds label own v e s more rest is same reached =
    subst (λ (x : Label). target_of label ((passed v e x s ++ more) ++ rest) ≡ Some (vertex_at v.func v.key e.to)) (sym is)
    (ap (target_of label) (append_assoc (passed v e label s) more rest) ∙ passed_found label v e s (more ++ rest) same reached)

-- an edge that isn't a call is done
passing_done : (n : ℕ) (act : Action) → ((d : Option ℕ) (f : ℕ) (args : List Expr) → act ≡ actions.Call d f args → ⊥) → passing n act ≡ Do n
passing_done n (actions.Assign x a) no_call = refl
passing_done n (actions.Read x g) no_call = refl
passing_done n (actions.Write g a) no_call = refl
passing_done n (actions.Nondet x) no_call = refl
passing_done n (actions.Guard a wanted) no_call = refl
passing_done n (actions.Assert a) no_call = refl
passing_done n (actions.Lock m) no_call = refl
passing_done n (actions.Unlock m) no_call = refl
passing_done n (actions.Create x f) no_call = refl
passing_done n (actions.Join x) no_call = refl
passing_done n (actions.Call d f args) no_call = absurd (no_call d f args refl)
passing_done n actions.Skip no_call = refl

module _ (p : Program) (t : TableValue) (f : ℕ) (key : Key) (node number : ℕ) (edge : Edge) (at : edge_at p f number ≡ Some edge) (leaves : edge.from ≡ node) where
  abbrev here : Vertex
  here = vertex_at f key node

  pub done_offered : ((d : Option ℕ) (g : ℕ) (args : List Expr) → edge.act ≡ actions.Call d g args → ⊥) → is_reached (outcome_of p t f key edge).value ≡ true
      → target_of (Do number) (offered p t here) ≡ Some (vertex_at f key edge.to)
  done_offered no_call reached =
      found_from p t here (Do number) (edges_at p f) 0 number number edge (vertex_at f key edge.to) (edge_there p f number edge at) (omega arith) (begins_here node edge.from leaves)
      (λ j apart. do_apart j number apart)
      (λ rest. passed_finds (Do number) (passing number edge.act) here edge (outcome_of p t f key edge).value (begun (beginning number edge.act) (outcome_of p t f key edge).effects) rest
      (passing_done number edge.act no_call) (same_number number) reached)

  pub over_offered : (d : Option ℕ) (g : ℕ) (args : List Expr) → edge.act ≡ actions.Call d g args → is_reached (outcome_of p t f key edge).value ≡ true
      → target_of (Over number) (offered p t here) ≡ Some (vertex_at f key edge.to)
  over_offered d g args is reached =
      found_from p t here (Over number) (edges_at p f) 0 number number edge (vertex_at f key edge.to) (edge_there p f number edge at) (omega arith) (begins_here node edge.from leaves)
      (λ j apart. over_apart j number apart)
      (λ rest. passed_finds (Over number) (passing number edge.act) here edge (outcome_of p t f key edge).value (begun (beginning number edge.act) (outcome_of p t f key edge).effects) rest
      (ap (passing number) is) (same_number number) reached)

  -- the first start of a call's effects
  entered_found : (entry : Key) (g : ℕ) (s : StateValue) (value : StateValue) (rest : List Step)
      → target_of (Enter number) ((passed here edge (Over number) value ++ starts (Enter number) (record { target = Point g entry 0; value = State s } ∷ [])) ++ rest) ≡ Some (vertex_at g entry 0)
  entered_found entry g s value rest =
      let first : List Step = starts (Enter number) (record { target = Point g entry 0; value = State s } ∷ []) in
      ap (target_of (Enter number)) (append_assoc (passed here edge (Over number) value) first rest)
      ∙ skipped (Enter number) (passed here edge (Over number) value) (first ++ rest) (apart_passed (Enter number) (Over number) here edge value refl)
      ∙ ap (λ (b : Bool). if b then Some (vertex_at g entry 0) else target_of (Enter number) rest) (same_number number)

  pub enter_offered : (d : Option ℕ) (g : ℕ) (args : List Expr) (entry : Key) (s : StateValue) → edge.act ≡ actions.Call d g args
      → (outcome_of p t f key edge).effects ≡ record { target = Point g entry 0; value = State s } ∷ []
      → target_of (Enter number) (offered p t here) ≡ Some (vertex_at g entry 0)
  enter_offered d g args entry s is effects =
      let o = outcome_of p t f key edge in
      found_from p t here (Enter number) (edges_at p f) 0 number number edge (vertex_at g entry 0) (edge_there p f number edge at) (omega arith) (begins_here node edge.from leaves)
      (λ j apart. enter_apart j number apart)
      (λ rest. subst (λ (act : Action). target_of (Enter number) ((passed here edge (passing number act) o.value ++ begun (beginning number act) o.effects) ++ rest) ≡ Some (vertex_at g entry 0)) (sym is)
      (subst (λ (es : List Effect). target_of (Enter number) ((passed here edge (Over number) o.value ++ starts (Enter number) es) ++ rest) ≡ Some (vertex_at g entry 0)) (sym effects)
      (entered_found entry g s o.value rest)))
