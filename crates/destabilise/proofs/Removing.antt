-- The search's least sets are what is reached from `main`, and what an edit removes.
use Rattle.std.proofs.Common.{◌≡◌, ◌≢◌, ◌⊎◌, ◌↔◌, inl, inr, ℕ, zero, suc, ◌<◌, List, [], ◌∷◌, Bool, Option, Some, None, length, refl, sym, ap, subst, ◌∙◌, arith, is_some, true≢false}
use Rattle.std.specs.Prelude.{Contains, IsSome, IsTrue, slice_get}
use Rattle.std.proofs.lemmas.Option.{slice_get_within}
use Rattle.gob_tree.specs.declared.graph.FuncGraph.{FuncGraph}
use Rattle.gob_tree.specs.declared.graph.Program.{Program}
use Rattle.state_dom.specs.StateValue.{StateValue, locks_of}
use Rattle.constraint_sys.specs.declared.unknown.Key.{Key}
use Rattle.constraint_sys.specs.declared.unknown.Unknown.{Unknown}
use Rattle.constraint_sys.specs.declared.unknown.Unknown.TheVariants.{Point, Global}
use Rattle.constraint_sys.specs.declared.value.Value.{Value}
use Rattle.constraint_sys.specs.declared.value.Value.TheVariants.{State, Number}
use Rattle.constraint_sys.specs.Carry.{Affects, HoldsLostMutex, IsLostFunction, IsReachedFromMain, IsRemoved, main_itself, node_of_start, started, lost_function, lost_global, lost_mutex_in_context, lost_mutex_in_state, unreached_start, reader, affected, node_of_removed}
use Rattle.constraint_sys.specs.Contribution.{Reads}
use Rattle.constraint_sys.specs.Sound.{IsShaped, IsShapedEntry}
use Rattle.constraint_sys.specs.Table.{TableValue, IsThere, main_start, nodes_at, nodes_of_function, value_at}
use Rattle.constraint_sys.proofs.Ordered.{Contains-cases, Contains-head, Contains-nil}
use Rattle.dep_index.specs.Noted.{reads_of}
use Rattle.destabilise.specs.declared.links.Links.{Links}
use Rattle.destabilise.proofs.Linking.{there_of_some}
use Rattle.destabilise.specs.declared.kind.Kind.{Kind}
use Rattle.destabilise.specs.declared.matching.Matching.{Matching}
use Rattle.destabilise.specs.Closed.{IsClosed}
use Rattle.destabilise.specs.Linked.{AreLinksOf, IsNumberedNode, IsOfProgram, IsStart, Reaches, TakesAlong, targets_at}
use Rattle.destabilise.specs.Marked.{IsLeast, IsMarked, MarkList, next, seed}
use Rattle.destabilise.specs.Matched.{AreMatches, IsMatching, IsSame}
use Rattle.destabilise.specs.Seeds.{HasMembersBelow, HoldsUnmatched, IsSeed, KnowsMutexesBelow, LacksMatch, locks_at}

-- ---- entries of shaped tables

there_value : (o : Option Value) → IsSome o → (v : Value) × (o ≡ Some v)
there_value None there = absurd (true≢false (sym there))
there_value (Some v) there = (v, refl)

module _ (p : Program) (t : TableValue) (shaped : IsShaped p t) where
  node_of_value : (f : ℕ) (key : Key) (node : ℕ) (v : Value) → IsShapedEntry p (Point f key node) v → node < length (nodes_at p f)
  node_of_value f key node (State s) fits = fits.within
  node_of_value f key node (Number x) fits = absurd fits

  pub node_within : (f : ℕ) (key : Key) (node : ℕ) → IsThere t (Point f key node) → node < length (nodes_at p f)
  node_within f key node there = let v = there_value (value_at t (Point f key node)) there in node_of_value f key node v.0 (shaped (Point f key node) v.0 v.1)

  function_within : (f node : ℕ) (o : Option FuncGraph) → slice_get p.funcs f ≡ o → node < length (nodes_of_function o) → f < length p.funcs
  function_within f node None at within = absurd (omega arith)
  function_within f node (Some g) at within = slice_get_within p.funcs f g at

  pub of_program : (u : Unknown) → IsThere t u → IsOfProgram p u
  of_program (Point f key node) there = function_within f node (slice_get p.funcs f) refl (node_within f key node there)
  of_program (Global g) there = tt

-- ---- what is reached from `main`

abbrev pub IsMain : Program → Unknown → Type 0
IsMain p u = u ≡ main_start p

module _ (p : Program) (t : TableValue) (shaped : IsShaped p t) where
  reached_node : (u v : Unknown) → IsReachedFromMain p t u → IsNumberedNode p u v → IsThere t v → IsReachedFromMain p t v
  reached_node (Point f key zero) v reached node there =
      subst (IsReachedFromMain p t) (sym node.2) (node_of_start reached (subst (IsThere t) node.2 there))
  reached_node (Point f key (suc n)) v reached node there = absurd node
  reached_node (Global g) v reached node there = absurd node

  reached_start : (u v : Unknown) → IsReachedFromMain p t u → Affects p t u v → IsStart v → IsReachedFromMain p t v
  reached_start u (Point f key zero) reached affects start = started reached affects
  reached_start u (Point f key (suc n)) reached affects start = absurd start
  reached_start u (Global g) reached affects start = absurd start

  reached_by_search : {u : Unknown} → IsLeast (IsMain p) (Reaches p t) u → IsReachedFromMain p t u
  reached_by_search (seed {u} is) = subst (IsReachedFromMain p t) (sym is) main_itself
  reached_by_search (next {u} {v} before follows) = elim follows.0 [
    | inl effect ↦ reached_start u v (reached_by_search before) effect.0 effect.1
    | inr node ↦ reached_node u v (reached_by_search before) node follows.1
  ]

  module _ (targets : (u v : Unknown) → Affects p t u v → IsThere t v) where
    search_by_reached : {u : Unknown} → IsReachedFromMain p t u → IsLeast (IsMain p) (Reaches p t) u
    search_by_reached main_itself = seed refl
    search_by_reached (node_of_start {f} {key} {node} before there) = next (search_by_reached before) (inr (node, node_within p t shaped f key node there, refl), there)
    search_by_reached (started {u} {f} {key} before affects) = next (search_by_reached before) (inl (affects, tt), targets u (Point f key 0) affects)

    pub reached_is : (u : Unknown) → IsLeast (IsMain p) (Reaches p t) u ↔ IsReachedFromMain p t u
    reached_is u = (reached_by_search, search_by_reached)

-- ---- what is removed

abbrev pub SeedOf : Matching → TableValue → MarkList → Unknown → Type 0
SeedOf m t from_main u = IsThere t u × IsSeed m from_main t u

module _ {kind : Kind} {old new : Program} {matches : List (Option ℕ)} (known : AreMatches kind old new matches) where
  lost_from : (i : ℕ) → LacksMatch matches i → (j : ℕ) → IsSame kind old i new j → ⊥
  lost_from i lacks j same = lacks j ((known.matches_are i j).1 same)

  lacks_from : (i : ℕ) → ((j : ℕ) → IsSame kind old i new j → ⊥) → LacksMatch matches i
  lacks_from i lost j at = lost j ((known.matches_are i j).0 at)

module _ (old new : Program) (m : Matching) (t : TableValue) (from_main : MarkList) (matching : IsMatching old new m) (shaped : IsShaped old t) (told : (u : Unknown) → IsMarked from_main u ↔ IsReachedFromMain old t u) where
  holds_lost : (locks : ℕ) → HoldsUnmatched m.mutexes locks → HoldsLostMutex old new locks
  holds_lost locks (k, holds, lacks) = (k, holds, lost_from matching.mutexes k lacks)

  holds_unmatched : (locks : ℕ) → HoldsLostMutex old new locks → HoldsUnmatched m.mutexes locks
  holds_unmatched locks (k, holds, lost) = (k, holds, lacks_from matching.mutexes k lost)

  in_state : (f : ℕ) (key : Key) (node : ℕ) (v : Value) → value_at t (Point f key node) ≡ Some v → IsShapedEntry old (Point f key node) v → HoldsUnmatched m.mutexes (locks_at (Some v)) → IsRemoved old new t (Point f key node)
  in_state f key node (State s) at fits holds = lost_mutex_in_state at (holds_lost (locks_of s) holds)
  in_state f key node (Number x) at fits holds = absurd fits

  start_removed : (f : ℕ) (key : Key) (node : ℕ) → IsThere t (Point f key node) → IsStart (Point f key node) → (IsMarked from_main (Point f key node) → ⊥) → IsRemoved old new t (Point f key node)
  start_removed f key zero there start unmarked = unreached_start there (λ reached. unmarked ((told (Point f key 0)).1 reached))
  start_removed f key (suc node) there start unmarked = absurd start

  seed_removed : (u : Unknown) → IsThere t u → IsSeed m from_main t u → IsRemoved old new t u
  seed_removed (Point f key node) there one = elim one [
    | inl lacks ↦ lost_function there (lost_from matching.funcs f lacks)
    | inr others ↦ elim others [
      | inl context ↦ lost_mutex_in_context there (holds_lost key.locks context)
      | inr more ↦ elim more [
        | inl state ↦
            let v = there_value (value_at t (Point f key node)) there in
            in_state f key node v.0 v.1 (shaped (Point f key node) v.0 v.1) (subst (λ (o : Option Value). HoldsUnmatched m.mutexes (locks_at o)) v.1 state)
        | inr unreached ↦ start_removed f key node there unreached.0 unreached.1
      ]
    ]
  ]
  seed_removed (Global g) there lacks = lost_global there (lost_from matching.globals g lacks)

  node_removed : (u v : Unknown) → IsRemoved old new t u → IsNumberedNode old u v → IsThere t v → IsRemoved old new t v
  node_removed (Point f key zero) v removed node there =
      subst (IsRemoved old new t) (sym node.2) (node_of_removed removed (subst (IsThere t) node.2 there))
  node_removed (Point f key (suc n)) v removed node there = absurd node
  node_removed (Global g) v removed node there = absurd node

  removed_by_search : {u : Unknown} → IsLeast (SeedOf m t from_main) (TakesAlong old t) u → IsRemoved old new t u
  removed_by_search (seed {u} one) = seed_removed u one.0 one.1
  removed_by_search (next {u} {v} before follows) = elim follows.0 [
    | inl reads ↦ reader (removed_by_search before) reads
    | inr either ↦ elim either [
      | inl affects ↦ affected (removed_by_search before) affects follows.1
      | inr node ↦ node_removed u v (removed_by_search before) node follows.1
    ]
  ]

  search_by_removed : {u : Unknown} → IsRemoved old new t u → IsLeast (SeedOf m t from_main) (TakesAlong old t) u
  search_by_removed (lost_function {f} {key} {node} there lost) = seed (there, inl (lacks_from matching.funcs f lost))
  search_by_removed (lost_global {g} there lost) = seed (there, lacks_from matching.globals g lost)
  search_by_removed (lost_mutex_in_context {f} {key} {node} there holds) = seed (there, inr (inl (holds_unmatched key.locks holds)))
  search_by_removed (lost_mutex_in_state {f} {key} {node} {s} at holds) =
      seed (ap is_some at, inr (inr (inl (subst (λ (o : Option Value). HoldsUnmatched m.mutexes (locks_at o)) (sym at) (holds_unmatched (locks_of s) holds)))))
  search_by_removed (unreached_start {f} {key} there unreached) = seed (there, inr (inr (inr (tt, λ marked. unreached ((told (Point f key 0)).0 marked)))))
  search_by_removed (reader {u} {q} before reads) = next (search_by_removed before) (inl reads, there_of_some (value_at t q) reads.0)
  search_by_removed (affected {u} {v} before affects there) = next (search_by_removed before) (inr (inl affects), there)
  search_by_removed (node_of_removed {f} {key} {node} before there) = next (search_by_removed before) (inr (inr (node, node_within old t shaped f key node there, refl)), there)

  pub removed_is : (u : Unknown) → IsLeast (SeedOf m t from_main) (TakesAlong old t) u ↔ IsRemoved old new t u
  removed_is u = (removed_by_search, search_by_removed)

-- ---- no smaller set will do

least : (old new : Program) (t : TableValue) (holds : Unknown → Bool) → IsClosed old new t holds → {u : Unknown} → IsRemoved old new t u → IsTrue (holds u)
least old new t holds closed (lost_function {f} {key} {node} there lost) = closed.lost_functions f key node there lost
least old new t holds closed (lost_global {g} there lost) = closed.lost_globals g there lost
least old new t holds closed (lost_mutex_in_context {f} {key} {node} there lost) = closed.lost_mutexes_in_contexts f key node there lost
least old new t holds closed (lost_mutex_in_state {f} {key} {node} {s} at lost) = closed.lost_mutexes_in_states f key node s at lost
least old new t holds closed (unreached_start {f} {key} there unreached) = closed.unreached_starts f key there unreached
least old new t holds closed (reader {u} {q} before reads) = closed.readers u q (least old new t holds closed before) reads
least old new t holds closed (affected {u} {v} before affects there) = closed.affected u v (least old new t holds closed before) affects there
least old new t holds closed (node_of_removed {f} {key} {node} before there) = closed.nodes f key node (least old new t holds closed before) there

pub removed_is_least : (old new : Program) (t : TableValue) (holds : Unknown → Bool) → IsClosed old new t holds → (u : Unknown) → IsRemoved old new t u → IsTrue (holds u)
removed_is_least old new t holds closed u one = least old new t holds closed one

-- ---- what the code finds, as the rules

module _ {Found There Seed : Type 0} where
  pub seeds_are : Found ↔ (There × Seed) → (Found × There) ↔ (There × Seed)
  seeds_are found = (λ both. found.0 both.0, λ one. (found.1 one, one.0))

module _ (p : Program) (t : TableValue) (l : Links) (are : AreLinksOf p t l) (u : Unknown) (vs : List Unknown) where
  pub takes_are : ((v : Unknown) → Contains vs v ↔ (Contains (reads_of l.readers v) u ⊎ (Contains (targets_at l.targets.entries u) v ⊎ IsNumberedNode p u v))) → (v : Unknown) → (Contains vs v × IsThere t v) ↔ TakesAlong p t u v
  takes_are found v = (
    λ both. (
      elim ((found v).0 both.0) [
        | inl reads ↦ inl ((are.readers u v).0 reads)
        | inr either ↦ elim either [ inl affects ↦ inr (inl ((are.targets u v).0 affects)) | inr node ↦ inr (inr node) ]
      ],
      both.1,
    ),
    λ both. (
      (found v).1 (elim both.0 [
        | inl reads ↦ inl ((are.readers u v).1 reads)
        | inr either ↦ elim either [ inl affects ↦ inr (inl ((are.targets u v).1 affects)) | inr node ↦ inr (inr node) ]
      ]),
      both.1,
    ),
  )

  pub reaches_are : ((v : Unknown) → Contains vs v ↔ ((Contains (targets_at l.targets.entries u) v × IsStart v) ⊎ IsNumberedNode p u v)) → (v : Unknown) → (Contains vs v × IsThere t v) ↔ Reaches p t u v
  reaches_are found v = (
    λ both. (
      elim ((found v).0 both.0) [
        | inl start ↦ inl ((are.targets u v).0 start.0, start.1)
        | inr node ↦ inr node
      ],
      both.1,
    ),
    λ both. (
      (found v).1 (elim both.0 [
        | inl start ↦ inl ((are.targets u v).1 start.0, start.1)
        | inr node ↦ inr node
      ]),
      both.1,
    ),
  )

-- the one unknown to begin with is `main`'s start
pub main_is : (p : Program) (t : TableValue) (us : List Unknown) → us ≡ main_start p ∷ [] → IsThere t (main_start p) → (v : Unknown) → (Contains us v × IsThere t v) ↔ IsMain p v
main_is p t us is there v = subst (λ (l : List Unknown). (Contains l v × IsThere t v) ↔ IsMain p v) (sym is) (
  λ both. elim (Contains-cases (main_start p) v [] both.0) [ inl same ↦ same | inr none ↦ absurd (Contains-nil v none) ],
  λ same. (subst (λ (w : Unknown). Contains (main_start p ∷ []) w) (sym same) (Contains-head (main_start p) []), subst (λ (w : Unknown). IsThere t w) (sym same) there),
)

-- the mutexes of an unknown of the table are the program's
module _ (p : Program) (t : TableValue) (shaped : IsShaped p t) where
  below_of_value : (f : ℕ) (key : Key) (node : ℕ) (o : Option Value) → value_at t (Point f key node) ≡ o → IsSome o → KnowsMutexesBelow (length p.mutexes) t (Point f key node)
  below_of_value f key node None at there = absurd (true≢false (sym there))
  below_of_value f key node (Some (State s)) at there =
      let fits = shaped (Point f key node) (State s) at in
      (fits.context.mutexes, subst (λ (o : Option Value). HasMembersBelow (length p.mutexes) (locks_at o)) (sym at) fits.mutexes)
  below_of_value f key node (Some (Number x)) at there = absurd (shaped (Point f key node) (Number x) at)

  pub mutexes_below : (n : ℕ) → n ≡ length p.mutexes → (u : Unknown) → IsThere t u → KnowsMutexesBelow n t u
  mutexes_below n is (Point f key node) there =
      subst (λ (k : ℕ). KnowsMutexesBelow k t (Point f key node)) (sym is) (below_of_value f key node (value_at t (Point f key node)) refl there)
  mutexes_below n is (Global g) there = tt
