-- What a point gets fits.
use Rattle.std.proofs.Common.{◌≡◌, ℕ, List, [], ◌∷◌, get_or, Option, None, Some, refl, sym, arith, subst}
use Rattle.std.specs.Prelude.{All, Contains, length, slice_get}
use Rattle.std.proofs.lemmas.List.Elements.{All-append, All-contains, All-filter, All-head, All-nil, All-tail, Contains-get_or}
use Rattle.gob_tree.specs.Formed.{IsFormed, IsFormedEdge}
use Rattle.gob_tree.specs.declared.graph.Edge.{Edge}
use Rattle.gob_tree.specs.declared.graph.FuncGraph.{FuncGraph}
use Rattle.gob_tree.specs.declared.graph.Program.{Program}
use Rattle.gob_tree.specs.declared.unit.Slot.{Slot}
use Rattle.lockset_dom.proofs.Membership.{Holds-shared_members}
use Rattle.state_dom.specs.StateValue.{StateValue, Bottom, Reached, locks_of, join_of, HasShape}
use Rattle.constraint_sys.specs.declared.unknown.Key.{Key}
use Rattle.constraint_sys.specs.declared.unknown.Unknown.TheVariants.{Point}
use Rattle.constraint_sys.specs.declared.value.Value.{Value}
use Rattle.constraint_sys.specs.declared.value.Value.TheVariants.{State, Number}
use Rattle.constraint_sys.specs.Contribution.{contribution_of, edges_into, effects_of, joined_from, outcome_of}
use Rattle.constraint_sys.specs.Sound.{IsMutexSet, IsShaped, IsShapedEntry}
use Rattle.constraint_sys.specs.Table.{TableValue, edges_at, edges_of_function, slots_at, state_at, value_at}
use Rattle.constraint_sys.specs.Transfer.{outcome_in, transfer}
use Rattle.constraint_sys.proofs.Fitting.{IsFitEffect, IsFitOutcome, IsFitState, function_there, outcome_in_fits}
use Rattle.constraint_sys.proofs.Shaping.{HasShape-join, HasShape-state_at, IsMutexSet-state_at, no_mutex}

pub record IsFitContribution (p : Program) (t : TableValue) (f : ℕ) (key : Key) (node : ℕ) : Type 0 where
  pub value : IsShapedEntry p (Point f key node) (State (contribution_of p t f key node).value)
  pub effects : All (IsFitEffect p) (contribution_of p t f key node).effects

-- the edges of a function are formed
pub edges_formed : (p : Program) → IsFormed p → (f : ℕ) (o : Option FuncGraph) → slice_get p.funcs f ≡ o → (e : Edge) → Contains (edges_of_function o) e → (function : FuncGraph) × (slice_get p.funcs f ≡ Some function) × IsFormedEdge p function e
edges_formed p formed f None at e (k, within, is) = absurd (omega arith)
edges_formed p formed f (Some function) at e one =
    (function, at, All-contains (IsFormedEdge p function) function.edges e (function_there p formed f function at).formed.edges_formed one)

transfer_fits : (p : Program) → IsFormed p → (t : TableValue) → IsShaped p t → (f : ℕ) (e : Edge) → (function : FuncGraph) → slice_get p.funcs f ≡ Some function → IsFormedEdge p function e → (s : StateValue) → IsFitState p (slots_at p f) s
    → IsFitOutcome p (slots_at p f) (transfer p t f e.act s)
transfer_fits p formed t shaped f e function at edge (Bottom room) fits = record { state = fits; effects = All-nil (IsFitEffect p) }
transfer_fits p formed t shaped f e function at edge (Reached state locks) fits =
    let there = function_there p formed f function at in
    subst (λ (slots : List Slot). HasShape slots (Reached state locks) → IsFitOutcome p slots (outcome_in p t slots state locks e.act)) (sym there.slots)
    (λ shape. outcome_in_fits p formed t shaped function state locks e.act edge.action shape fits.mutexes) fits.shape

pub outcome_of_fits : (p : Program) → IsFormed p → (t : TableValue) → IsShaped p t → (f : ℕ) (key : Key) (e : Edge) → Contains (edges_at p f) e → IsFitOutcome p (slots_at p f) (outcome_of p t f key e)
outcome_of_fits p formed t shaped f key e one =
    let found = edges_formed p formed f (slice_get p.funcs f) refl e one in
    transfer_fits p formed t shaped f e found.0 found.1 found.2 (state_at p t f key e.from) (record { shape = HasShape-state_at p t f key e.from shaped; mutexes = IsMutexSet-state_at p t f key e.from shaped })

IsMutexSet-join : (p : Program) (a b : StateValue) → IsMutexSet p (locks_of a) → IsMutexSet p (locks_of b) → IsMutexSet p (locks_of (join_of a b))
IsMutexSet-join p (Bottom room) b left right = right
IsMutexSet-join p (Reached xs locks) (Bottom room) left right = left
IsMutexSet-join p (Reached xs locks) (Reached ys other_locks) left right = λ m held. left m ((Holds-shared_members locks other_locks m).0 held).0

module _ (p : Program) (t : TableValue) (f : ℕ) (key : Key) where
  abbrev pub IsFitEdge : Edge → Type 0
  IsFitEdge e = IsFitOutcome p (slots_at p f) (outcome_of p t f key e)

  joined_fits : (s : StateValue) (es : List Edge) → IsFitState p (slots_at p f) s → All IsFitEdge es → IsFitState p (slots_at p f) (joined_from p t f key s es)
  joined_fits s [] fits each = fits
  joined_fits s (e ∷ es) fits each =
      let first = All-head IsFitEdge e es each in
      joined_fits (join_of s (outcome_of p t f key e).value) es
      (record { shape = HasShape-join (slots_at p f) s (outcome_of p t f key e).value fits.shape first.state.shape; mutexes = IsMutexSet-join p s (outcome_of p t f key e).value fits.mutexes first.state.mutexes })
      (All-tail IsFitEdge e es each)

  effects_fit : (es : List Edge) → All IsFitEdge es → All (IsFitEffect p) (effects_of p t f key es)
  effects_fit [] each = All-nil (IsFitEffect p)
  effects_fit (e ∷ es) each = All-append (IsFitEffect p) (outcome_of p t f key e).effects (effects_of p t f key es) (All-head IsFitEdge e es each).effects (effects_fit es (All-tail IsFitEdge e es each))

pub each_fits : (p : Program) → IsFormed p → (t : TableValue) → IsShaped p t → (f : ℕ) (key : Key) (node : ℕ) → All (λ (e : Edge). IsFitOutcome p (slots_at p f) (outcome_of p t f key e)) (edges_into p f node)
each_fits p formed t shaped f key node =
    All-filter _ (λ (e : Edge). IsFitOutcome p (slots_at p f) (outcome_of p t f key e)) (edges_at p f) (λ k d within. outcome_of_fits p formed t shaped f key (get_or (edges_at p f) k d) (Contains-get_or (edges_at p f) k d within))

pub contribution_fits : (p : Program) → IsFormed p → (t : TableValue) → IsShaped p t → (f : ℕ) (key : Key) (node : ℕ) (v : Value) → value_at t (Point f key node) ≡ Some v → IsFitContribution p t f key node
contribution_fits p formed t shaped f key node (Number x) at = absurd (shaped (Point f key node) (Number x) at)
contribution_fits p formed t shaped f key node (State s) at =
    let here = shaped (Point f key node) (State s) at in
    let es = edges_into p f node in
    let each = each_fits p formed t shaped f key node in
    let state = joined_fits p t f key (Bottom (length (slots_at p f))) es (record { shape = refl; mutexes = no_mutex p }) each in
    record {
      value = record { within = here.within; context = here.context; shape = state.shape; mutexes = state.mutexes };
      effects = effects_fit p t f key es each;
    }
