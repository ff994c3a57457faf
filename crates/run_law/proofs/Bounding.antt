-- What a post-solution bounds, it describes.
use Rattle.std.proofs.Common.{◌≡◌, ◌≢◌, refl, sym, ap, subst, ℕ, zero, suc, ℤ, pos, Bool, true, false, cond, nat_eq, List, [], ◌∷◌, length, Option, None, Some, arith}
use Rattle.std.specs.Prelude.{All, IsSome, slice_get}
use Rattle.std.specs.List.{Contains, filter}
use Rattle.std.proofs.lemmas.Bool.Decides.{nat_tests}
use Rattle.std.proofs.lemmas.List.Elements.{All-from_get_or, Contains-append_right, Contains-get_or}
use Rattle.std.proofs.lemmas.Option.{none-some, same_Some, option_and_then_some}
use Rattle.gob_tree.specs.Formed.{IsFormed}
use Rattle.gob_tree.specs.declared.graph.Edge.{Edge}
use Rattle.gob_tree.specs.declared.graph.FuncGraph.{FuncGraph}
use Rattle.gob_tree.specs.declared.graph.Program.{Program}
use Rattle.gob_tree.specs.declared.unit.Slot.{Slot}
use Rattle.interval_dom.specs.Bounds.{between}
use Rattle.c_meaning.specs.GraphStep.{edge_at}
use Rattle.state_dom.specs.StateValue.{StateValue, Bottom, Reached, DescribesState}
use Rattle.state_dom.proofs.Ordering.{DescribesState-covered}
use Rattle.constraint_sys.specs.declared.unknown.Key.{Key}
use Rattle.constraint_sys.specs.declared.unknown.Unknown.TheVariants.{Point, Global}
use Rattle.constraint_sys.specs.declared.value.Effect.{Effect as Given}
use Rattle.constraint_sys.specs.declared.value.Value.{Value}
use Rattle.constraint_sys.specs.declared.value.Value.TheVariants.{State, Number}
use Rattle.constraint_sys.specs.Contribution.{edges_into, outcome_of}
use Rattle.constraint_sys.specs.PostSolution.{BoundsAt, CoversValue, IsPostSolution}
use Rattle.constraint_sys.specs.Sound.{IsShaped}
use Rattle.constraint_sys.specs.Table.{TableValue, IsThere, value_at, shown, shown_state, slots_at, state_at, edges_of_function}
use Rattle.constraint_sys.proofs.EdgeBounds.{edge_bounded, effect_bounded}
use Rattle.action_law.specs.Described.{DescribesSlots}
use Rattle.action_law.proofs.Formed.{edge_formed}

-- ---- values that are bounded

pub bounded_describes : (slots : List Slot) (room : ℕ) (o : Option Value) (inner : StateValue) (values : List ℤ) (owners : List (Option ℕ)) (thread : ℕ) → CoversValue o (State inner)
    → DescribesState slots inner values owners thread → DescribesState slots (shown_state room (shown o)) values owners thread
bounded_describes slots room None inner values owners thread covers described = absurd covers
bounded_describes slots room (Some (Number n)) inner values owners thread covers described = absurd covers
bounded_describes slots room (Some (State (Bottom left))) inner values owners thread covers described =
    DescribesState-covered slots (Bottom left) inner values owners thread covers described
bounded_describes slots room (Some (State (Reached xs locks))) inner values owners thread covers described =
    DescribesState-covered slots (Reached xs locks) inner values owners thread covers described

-- a target that bounds a state describes what the state describes
pub target_describes : (p : Program) (t : TableValue) (f : ℕ) (key : Key) (node : ℕ) (inner : StateValue) (values : List ℤ) (owners : List (Option ℕ)) (thread : ℕ) → BoundsAt t (Point f key node) (State inner)
    → DescribesState (slots_at p f) inner values owners thread → DescribesState (slots_at p f) (state_at p t f key node) values owners thread
target_describes p t f key node inner values owners thread bounds described =
    bounded_describes (slots_at p f) (length (slots_at p f)) (value_at t (Point f key node)) inner values owners thread bounds described

-- ---- points that are there

shown_there : (slots : List Slot) (room : ℕ) (o : Option Value) (values : List ℤ) → DescribesSlots slots (shown_state room (shown o)) values → IsSome o
shown_there slots room None values described = absurd described
shown_there slots room (Some v) values described = refl

pub point_there : (p : Program) (t : TableValue) (f : ℕ) (key : Key) (node : ℕ) (values : List ℤ) → DescribesSlots (slots_at p f) (state_at p t f key node) values → IsThere t (Point f key node)
point_there p t f key node values described = shown_there (slots_at p f) (length (slots_at p f)) (value_at t (Point f key node)) values described

-- a state that describes slots and mutexes describes the slots
pub slots_described : (slots : List Slot) (s : StateValue) (values : List ℤ) (owners : List (Option ℕ)) (thread : ℕ) → DescribesState slots s values owners thread → DescribesSlots slots s values
slots_described slots (Bottom room) values owners thread described = described
slots_described slots (Reached xs locks) values owners thread described = (described.0, described.1)

-- ---- edges

kept_head : (test : Edge → Bool) (x : Edge) (xs : List Edge) (b : Bool) → test x ≡ b → b ≡ true → Contains (cond b (x ∷ filter test xs) (filter test xs)) x
kept_head test x xs b is passes = subst (λ (c : Bool). Contains (cond c (x ∷ filter test xs) (filter test xs)) x) (sym passes) (0, omega arith, refl)

kept_tail : (b : Bool) (x y : Edge) (xs : List Edge) → Contains xs y → Contains (cond b (x ∷ xs) xs) y
kept_tail true x y xs one = Contains-append_right (x ∷ []) xs y one
kept_tail false x y xs one = one

-- an edge that passes the test is among those that are kept
kept : (test : Edge → Bool) (xs : List Edge) (i : ℕ) (x : Edge) → slice_get xs i ≡ Some x → test x ≡ true → Contains (filter test xs) x
kept test [] i x e passes = absurd (none-some x e)
kept test (y ∷ xs) zero x e passes =
    subst (λ (z : Edge). Contains (filter test (y ∷ xs)) z) (same_Some y x e) (kept_head test y xs (test y) refl (subst (λ (z : Edge). test z ≡ true) (sym (same_Some y x e)) passes))
kept test (y ∷ xs) (suc i) x e passes = kept_tail (test y) y x (filter test xs) (kept test xs i x e passes)

same_node : (n : ℕ) → nat_eq n n ≡ true
same_node n = grind (arith, nat_tests)

pub edge_among : (p : Program) (f number : ℕ) (edge : Edge) → edge_at p f number ≡ Some edge → Contains (edges_into p f edge.to) edge
edge_among p f number edge q =
    option_and_then_some (λ (func : FuncGraph). slice_get func.edges number) (slice_get p.funcs f) edge q (λ func at got.
    subst (λ (es : List Edge). Contains (filter (λ (e : Edge). nat_eq e.to edge.to) es) edge) (sym (ap edges_of_function at))
    (kept (λ (e : Edge). nat_eq e.to edge.to) func.edges number edge got (same_node edge.to)))

-- an edge of a post-solution that begins at a point of the table
module _ (p : Program) (t : TableValue) (formed : IsFormed p) (shaped : IsShaped p t) (post : IsPostSolution p t) (f : ℕ) (key : Key) (number : ℕ) (edge : Edge) (at : edge_at p f number ≡ Some edge) (begins : IsThere t (Point f key edge.from)) where
  end_there : IsThere t (Point f key edge.to)
  end_there =
      let here = edge_formed p formed f number edge at in
      post.roots.nodes_there f key edge.from edge.to begins (omega (arith, here.formed.ends, ap length here.there.nodes))

  inner : edge.to ≢ 0
  inner same =
      let here = edge_formed p formed f number edge at in
      omega (arith, here.formed.not_at_entry, same)

  pub end_describes : (values : List ℤ) (owners : List (Option ℕ)) (thread : ℕ) → DescribesState (slots_at p f) (outcome_of p t f key edge).value values owners thread
      → DescribesState (slots_at p f) (state_at p t f key edge.to) values owners thread
  end_describes values owners thread described =
      target_describes p t f key edge.to (outcome_of p t f key edge).value values owners thread
      (edge_bounded p t f key edge.to edge formed shaped post end_there inner (edge_among p f number edge at)) described

  pub effects_bounded : All (λ (e : Given). BoundsAt t e.target e.value) (outcome_of p t f key edge).effects
  effects_bounded =
      let effects = (outcome_of p t f key edge).effects in
      let any : Given = record { target = Global 0; value = Number (between (pos 0) (pos 0)) } in
      All-from_get_or (λ (e : Given). BoundsAt t e.target e.value) effects any (λ i within.
      effect_bounded p t f key edge.to edge _ post end_there inner (edge_among p f number edge at) (Contains-get_or effects i any within))
