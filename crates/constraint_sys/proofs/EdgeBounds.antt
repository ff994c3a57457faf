-- A post-solution bounds what each edge gives.
use Rattle.std.proofs.Common.{◌≡◌, ◌≢◌, inl, inr, ℕ, ℤ, ◌≤ℤ◌, true, false, List, [], ◌∷◌, Option, None, Some, refl, arith, subst}
use Rattle.std.specs.Prelude.{All, Contains, int_lt, length}
use Rattle.std.proofs.lemmas.Bool.{cond_both}
use Rattle.std.proofs.lemmas.Int.{ints}
use Rattle.std.proofs.lemmas.List.Elements.{All-nil, All-cons, All-contains, All-head, All-tail, Contains-append_left, Contains-append_right}
use Rattle.gob_tree.specs.Formed.{IsFormed}
use Rattle.gob_tree.specs.declared.graph.Edge.{Edge}
use Rattle.gob_tree.specs.declared.graph.Program.{Program}
use Rattle.gob_tree.specs.declared.unit.Slot.{Slot}
use Rattle.interval_dom.specs.Bounds.{Bounds, Covers, hull}
use Rattle.lockset_dom.proofs.Membership.{Holds-shared_members}
use Rattle.state_dom.specs.StateValue.{StateValue, Bottom, Reached, CoversEach, CoversState, FitsEach, HasShape, join_of, on_each}
use Rattle.state_dom.proofs.Bounding.{CoversState-refl}
use Rattle.constraint_sys.specs.declared.unknown.Key.{Key}
use Rattle.constraint_sys.specs.declared.unknown.Unknown.TheVariants.{Point}
use Rattle.constraint_sys.specs.declared.value.Effect.{Effect}
use Rattle.constraint_sys.specs.declared.value.Value.{Value}
use Rattle.constraint_sys.specs.declared.value.Value.TheVariants.{State, Number}
use Rattle.constraint_sys.specs.Table.{TableValue, IsThere, slots_at, value_at}
use Rattle.constraint_sys.specs.Contribution.{contribution_of, edges_into, effects_of, joined_from, outcome_of}
use Rattle.constraint_sys.specs.PostSolution.{BoundsAt, CoversValue, IsPostSolution}
use Rattle.constraint_sys.specs.Sound.{IsShaped}
use Rattle.constraint_sys.proofs.Contributing.{IsFitEdge, each_fits}
use Rattle.constraint_sys.proofs.Covering.{CoversState-trans}
use Rattle.constraint_sys.proofs.Ordered.{Contains-cases, Contains-nil}
use Rattle.constraint_sys.proofs.Shaping.{HasShape-join}

lt_means : (x y : ℤ) → int_lt x y ≡ true → x ≤ℤ y
lt_means x y h = grind (arith, ints)

not_below : (x y : ℤ) → int_lt y x ≡ false → x ≤ℤ y
not_below x y h = grind (arith, ints)

le_itself : (x : ℤ) → x ≤ℤ x
le_itself x = omega (arith, ints)

hull-left : (x y : Bounds) → Covers (hull x y) x
hull-left x y = (
  cond_both (int_lt y.lo x.lo) y.lo x.lo (λ r. r ≤ℤ x.lo) (λ below. lt_means y.lo x.lo below) (λ _. le_itself x.lo),
  cond_both (int_lt y.hi x.hi) x.hi y.hi (λ r. x.hi ≤ℤ r) (λ _. le_itself x.hi) (λ still. not_below x.hi y.hi still),
)

hull-right : (x y : Bounds) → Covers (hull x y) y
hull-right x y = (
  cond_both (int_lt y.lo x.lo) y.lo x.lo (λ r. r ≤ℤ y.lo) (λ _. le_itself y.lo) (λ still. not_below x.lo y.lo still),
  cond_both (int_lt y.hi x.hi) x.hi y.hi (λ r. y.hi ≤ℤ r) (λ below. lt_means y.hi x.hi below) (λ _. le_itself y.hi),
)

hulls-left : (slots : List Slot) (xs ys : List Bounds) → FitsEach slots xs → FitsEach slots ys → CoversEach (on_each hull xs ys) xs
hulls-left [] [] [] left right = tt
hulls-left [] [] (y ∷ ys) left right = absurd right
hulls-left [] (x ∷ xs) ys left right = absurd left
hulls-left (slot ∷ slots) [] ys left right = absurd left
hulls-left (slot ∷ slots) (x ∷ xs) [] left right = absurd right
hulls-left (slot ∷ slots) (x ∷ xs) (y ∷ ys) left right = (hull-left x y, hulls-left slots xs ys left.1 right.1)

hulls-right : (slots : List Slot) (xs ys : List Bounds) → FitsEach slots xs → FitsEach slots ys → CoversEach (on_each hull xs ys) ys
hulls-right [] [] [] left right = tt
hulls-right [] [] (y ∷ ys) left right = absurd right
hulls-right [] (x ∷ xs) ys left right = absurd left
hulls-right (slot ∷ slots) [] ys left right = absurd left
hulls-right (slot ∷ slots) (x ∷ xs) [] left right = absurd right
hulls-right (slot ∷ slots) (x ∷ xs) (y ∷ ys) left right = (hull-right x y, hulls-right slots xs ys left.1 right.1)

join-left : (slots : List Slot) (a b : StateValue) → HasShape slots a → HasShape slots b → CoversState (join_of a b) a
join-left slots (Bottom room) b left right = tt
join-left slots (Reached xs l) (Bottom room) left right = CoversState-refl (Reached xs l)
join-left slots (Reached xs l) (Reached ys k) left right = (hulls-left slots xs ys left right, λ m held. ((Holds-shared_members l k m).0 held).0)

join-right : (slots : List Slot) (a b : StateValue) → HasShape slots a → HasShape slots b → CoversState (join_of a b) b
join-right slots (Bottom room) b left right = CoversState-refl b
join-right slots (Reached xs l) (Bottom room) left right = tt
join-right slots (Reached xs l) (Reached ys k) left right = (hulls-right slots xs ys left right, λ m held. ((Holds-shared_members l k m).0 held).1)

module _ (p : Program) (t : TableValue) (f : ℕ) (key : Key) where
  abbrev given : Edge → StateValue
  given e = (outcome_of p t f key e).value

  covers_start : (s : StateValue) (es : List Edge) → HasShape (slots_at p f) s → All (IsFitEdge p t f key) es → CoversState (joined_from p t f key s es) s
  covers_start s [] shape fits = CoversState-refl s
  covers_start s (e ∷ es) shape fits =
      let first = (All-head (IsFitEdge p t f key) e es fits).state.shape in
      let mid = join_of s (given e) in
      CoversState-trans (joined_from p t f key mid es) mid s
      (covers_start mid es (HasShape-join (slots_at p f) s (given e) shape first) (All-tail (IsFitEdge p t f key) e es fits))
      (join-left (slots_at p f) s (given e) shape first)

  covers_each : (s : StateValue) (es : List Edge) → HasShape (slots_at p f) s → All (IsFitEdge p t f key) es → All (λ (e : Edge). CoversState (joined_from p t f key s es) (given e)) es
  covers_each s [] shape fits = All-nil (λ (e : Edge). CoversState s (given e))
  covers_each s (e ∷ es) shape fits =
      let first = (All-head (IsFitEdge p t f key) e es fits).state.shape in
      let mid = join_of s (given e) in
      let here = HasShape-join (slots_at p f) s (given e) shape first in
      let rest = All-tail (IsFitEdge p t f key) e es fits in
      All-cons (λ (x : Edge). CoversState (joined_from p t f key mid es) (given x)) e es
      (CoversState-trans (joined_from p t f key mid es) mid (given e) (covers_start mid es here rest) (join-right (slots_at p f) s (given e) shape first))
      (covers_each mid es here rest)

  -- the effects of one edge are among those of all
  effect_among : (es : List Edge) (e : Edge) (x : Effect) → Contains es e → Contains (outcome_of p t f key e).effects x → Contains (effects_of p t f key es) x
  effect_among [] e x one among = absurd (Contains-nil e one)
  effect_among (d ∷ es) e x one among = elim (Contains-cases d e es one) [
    | inl same ↦ Contains-append_left (outcome_of p t f key d).effects (effects_of p t f key es) x (subst (λ (y : Edge). Contains (outcome_of p t f key y).effects x) same among)
    | inr later ↦ Contains-append_right (outcome_of p t f key d).effects (effects_of p t f key es) x (effect_among es e x later among)
  ]

bounds_less : (o : Option Value) (a b : StateValue) → CoversValue o (State a) → CoversState a b → CoversValue o (State b)
bounds_less None a b bounded covers = absurd bounded
bounds_less (Some (State s)) a b bounded covers = CoversState-trans s a b bounded covers
bounds_less (Some (Number n)) a b bounded covers = absurd bounded

-- ---- each edge that ends in a point of a post-solution is bounded there, and so are its effects
pub edge_bounded : (p : Program) (t : TableValue) (f : ℕ) (key : Key) (node : ℕ) (e : Edge) → IsFormed p → IsShaped p t → IsPostSolution p t → IsThere t (Point f key node) → node ≢ 0 → Contains (edges_into p f node) e
    → BoundsAt t (Point f key node) (State (outcome_of p t f key e).value)
edge_bounded p t f key node e formed shaped post there inner one =
    let fits = each_fits p formed t shaped f key node in
    let covers = All-contains (λ (x : Edge). CoversState (contribution_of p t f key node).value (outcome_of p t f key x).value) (edges_into p f node) e
    (covers_each p t f key (Bottom (length (slots_at p f))) (edges_into p f node) refl fits) one in
    bounds_less (value_at t (Point f key node)) (contribution_of p t f key node).value (outcome_of p t f key e).value (post.satisfied f key node there inner).value covers

pub effect_bounded : (p : Program) (t : TableValue) (f : ℕ) (key : Key) (node : ℕ) (e : Edge) (x : Effect) → IsPostSolution p t → IsThere t (Point f key node) → node ≢ 0 → Contains (edges_into p f node) e
    → Contains (outcome_of p t f key e).effects x → BoundsAt t x.target x.value
effect_bounded p t f key node e x post there inner one among =
    All-contains (λ (y : Effect). BoundsAt t y.target y.value) (contribution_of p t f key node).effects x (post.satisfied f key node there inner).effects
    (effect_among p t f key (edges_into p f node) e x one among)
