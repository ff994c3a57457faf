-- What makes a table whole, and what breaks it.
use Rattle.std.proofs.Common.{◌≡◌, ◌≢◌, ◌⊎◌, inl, inr, ℕ, zero, suc, ◌<◌, List, [], ◌∷◌, Option, None, Some, length, get_or, take, refl, sym, ap, ◌∙◌, arith, subst, is_some, true≢false}
use Rattle.std.specs.Prelude.{All, IsSome}
use Rattle.std.proofs.lemmas.List.Elements.{All-head, All-nil, All-tail}
use Rattle.std.proofs.lemmas.Option.{slice_get_within}
use Rattle.gob_tree.specs.declared.graph.Program.{Program}
use Rattle.constraint_sys.specs.declared.unknown.Key.{Key}
use Rattle.constraint_sys.specs.declared.unknown.Unknown.{Unknown}
use Rattle.constraint_sys.specs.declared.unknown.Unknown.TheVariants.{Point, Global}
use Rattle.constraint_sys.specs.declared.value.Effect.{Effect}
use Rattle.constraint_sys.specs.declared.value.Value.{Value}
use Rattle.constraint_sys.specs.Breach.{BreaksAt, IsFirstBreach, IsFirstUnbounded, IsMissingRoot}
use Rattle.constraint_sys.specs.PostSolution.{BoundsAt, IsPostSolution, IsSatisfied, main_start_value}
use Rattle.constraint_sys.specs.Table.{TableValue, IsThere, main_start, nodes_at, value_at}
use Rattle.post_check.specs.Unbroken.{AreBounded, HasFirstNodes, HasItsNodes, IsLeastMissing, IsLeastNode, IsOfOne, IsUnbroken, IsWhole}

cases_some : (o : Option Value) → IsSome o ⊎ (IsSome o → ⊥)
cases_some None = inr (λ there. true≢false (sym there))
cases_some (Some v) = inl refl

pub cases_there : (t : TableValue) (u : Unknown) → IsThere t u ⊎ (IsThere t u → ⊥)
cases_there t u = cases_some (value_at t u)

pub none_there : (o : Option Value) → o ≡ None → IsSome o → ⊥
none_there o none there = true≢false (sym there ∙ ap is_some none)

-- ---- roots
pub no_missing_root : (p : Program) (t : TableValue) → IsThere t (main_start p) → ((g : ℕ) → g < length p.globals → IsThere t (Global g)) → (r : Unknown) → IsMissingRoot p t r → ⊥
no_missing_root p t main globals r (root, absent) = elim root [
  | inl is ↦ absent (subst (λ (q : Unknown). IsThere t q) (sym is) main)
  | inr global ↦ absent (subst (λ (q : Unknown). IsThere t q) (sym global.2) (globals global.0 global.1))
]

-- ---- nodes
pub nodes_of_one : (p : Program) (t : TableValue) (w u : Unknown) → IsOfOne w u → HasItsNodes p t w → HasItsNodes p t u
nodes_of_one p t (Point f key n) (Point g other m) same has = λ node misses.
    has node (subst (λ (k : Key). (node < length (nodes_at p f)) × (IsThere t (Point f k node) → ⊥)) (sym same.1)
    (subst (λ (h : ℕ). (node < length (nodes_at p h)) × (IsThere t (Point h other node) → ⊥)) (sym same.0) misses))
nodes_of_one p t (Point f key n) (Global g) same has = absurd same
nodes_of_one p t (Global g) u same has = absurd same

pub least_missing : (p : Program) (t : TableValue) (f : ℕ) (key : Key) (n nodes : ℕ) (v : Unknown) → nodes ≡ length (nodes_at p f) → IsLeastNode t f key nodes v → IsLeastMissing p t (Point f key n) v
least_missing p t f key n nodes v count found = (
  found.node,
  (subst (λ (k : ℕ). found.node < k) count found.within, λ there. found.missing (subst (λ (q : Unknown). IsThere t q) (sym found.is) there)),
  λ other before misses. misses.1 (found.before other before),
  found.is,
)

pub has_all : (p : Program) (t : TableValue) (f : ℕ) (key : Key) (n nodes : ℕ) → nodes ≡ length (nodes_at p f) → HasFirstNodes t f key nodes → HasItsNodes p t (Point f key n)
has_all p t f key n nodes count has = λ node misses. misses.1 (has node (subst (λ (k : ℕ). node < k) (sym count) misses.0))

-- ---- effects
bounded_all : (t : TableValue) (es : List Effect) (v : Unknown) → All (AreBounded t) es → IsFirstUnbounded t es v → ⊥
bounded_all t [] v all first = first
bounded_all t (e ∷ es) v all first = elim first [
  | inl here ↦ here.0 (All-head (AreBounded t) e es all)
  | inr later ↦ bounded_all t es v (All-tail (AreBounded t) e es all) later.1
]

pub first_at : (t : TableValue) (es : List Effect) (i : ℕ) (e : Effect) → i < length es → e ≡ get_or es i e → All (AreBounded t) (take i es) → (AreBounded t e → ⊥) → IsFirstUnbounded t es e.target
first_at t [] i e within is all fails = absurd (omega arith)
first_at t (x ∷ es) zero e within is all fails = inl (subst (λ (y : Effect). AreBounded t y → ⊥) is fails, ap (λ (y : Effect). y.target) is)
first_at t (x ∷ es) (suc i) e within is all fails =
    inr (All-head (AreBounded t) x (take i es) all, first_at t es i e (omega arith) is (All-tail (AreBounded t) x (take i es) all) fails)

-- ---- breaches
pub unbroken_stays : (p : Program) (t : TableValue) (u v : Unknown) → IsUnbroken p t u → BreaksAt p t u v → ⊥
unbroken_stays p t u v unbroken breaks = elim breaks [
  | inl lacks ↦ unbroken.nodes lacks.0 lacks.1
  | inr rest ↦ elim rest.1 [
    | inl own ↦ own.0 unbroken.bounds.0
    | inr effect ↦ bounded_all t _ v unbroken.bounds.1 effect.1
  ]
]

-- ---- post-solutions
module _ (p : Program) (t : TableValue) (whole : IsWhole p t) where
  satisfied_at : (f : ℕ) (key : Key) (node : ℕ) → IsThere t (Point f key node) → node ≢ 0 → IsSatisfied p t f key node
  satisfied_at f key zero there inner = absurd (inner refl)
  satisfied_at f key (suc node) there inner = let it = (whole (Point f key (suc node)) there).bounds in record { value = it.0; effects = it.1 }

  nodes_there : (f : ℕ) (key : Key) (node other : ℕ) → IsThere t (Point f key node) → other < length (nodes_at p f) → IsThere t (Point f key other)
  nodes_there f key node other there within = elim (cases_there t (Point f key other)) [
    | inl it ↦ it
    | inr absent ↦ absurd ((whole (Point f key node) there).nodes other (within, absent))
  ]

  root_there : ((r : Unknown) → IsMissingRoot p t r → ⊥) → (r : Unknown) → (r ≡ main_start p) ⊎ ((g : ℕ) × (g < length p.globals) × (r ≡ Global g)) → IsThere t r
  root_there roots r root = elim (cases_there t r) [ inl it ↦ it | inr absent ↦ absurd (roots r (root, absent)) ]

  pub post_solution : ((r : Unknown) → IsMissingRoot p t r → ⊥) → IsPostSolution p t
  post_solution roots =
      let main : IsThere t (main_start p) = root_there roots (main_start p) (inl refl) in
      let globals : (g : ℕ) → g < length p.globals → IsThere t (Global g) = λ g within. root_there roots (Global g) (inr (g, within, refl)) in
      record {
        roots = record {
          main_there = main;
          globals_there = globals;
          main_bounded = (whole (main_start p) main).bounds.0 refl;
          globals_bounded = λ g decl at. (whole (Global g) (globals g (slice_get_within p.globals g decl at))).bounds.0 decl at;
          nodes_there = nodes_there;
        };
        satisfied = satisfied_at;
      }

suc_zero : (n : ℕ) → suc n ≡ 0 → ⊥
suc_zero n is = omega arith

pub whole_by : (p : Program) (t : TableValue) → IsPostSolution p t → IsWhole p t
whole_by p t post (Point f key zero) there = record {
  nodes = λ other misses. misses.1 (post.roots.nodes_there f key 0 other there misses.0);
  bounds = (λ is. subst (λ (r : Unknown). BoundsAt t r (main_start_value p)) (sym is) post.roots.main_bounded, All-nil (AreBounded t));
}
whole_by p t post (Point f key (suc node)) there =
    let it = post.satisfied f key (suc node) there (suc_zero node) in
    record {
      nodes = λ other misses. misses.1 (post.roots.nodes_there f key (suc node) other there misses.0);
      bounds = (it.value, it.effects);
    }
whole_by p t post (Global g) there = record {
  nodes = λ other misses. misses;
  bounds = (post.roots.globals_bounded g, All-nil (AreBounded t));
}

pub refuted : (p : Program) (t : TableValue) (u v : Unknown) → IsFirstBreach p t u v → IsPostSolution p t → ⊥
refuted p t u v breach post = elim breach [
  | inl lacks ↦ no_missing_root p t post.roots.main_there post.roots.globals_there u lacks.0
  | inr found ↦ unbroken_stays p t u v (whole_by p t post u found.1.0) found.1.1
]
