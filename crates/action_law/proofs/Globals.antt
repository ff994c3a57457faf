-- The globals after an edge.
use Rattle.std.proofs.Common.{◌≡◌, ◌⊎◌, inl, inr, refl, sym, subst, ℕ, zero, suc, ◌<◌, ℤ, pos, List, [], ◌∷◌, length, Option, None, Some, IsSomeAnd, arith}
use Rattle.std.specs.Prelude.{All, slice_index_or, slice_set}
use Rattle.std.proofs.lemmas.Bool.{cases_eq}
use Rattle.std.proofs.lemmas.Int.{ints}
use Rattle.std.proofs.lemmas.List.{get_or-set_other}
use Rattle.std.proofs.lemmas.List.Elements.{All-head}
use Rattle.gob_tree.specs.declared.graph.Program.{Program}
use Rattle.interval_dom.specs.Bounds.{Bounds, Describes}
use Rattle.c_meaning.specs.Config.{Config, Effect, Keeps, SetsGlobal, SetsOwner, Starts, after_effect, next_thread}
use Rattle.c_meaning.specs.GraphStep.{Frame}
use Rattle.constraint_sys.specs.declared.unknown.Unknown.TheVariants.{Global}
use Rattle.constraint_sys.specs.declared.value.Effect.{Effect as Given}
use Rattle.constraint_sys.specs.declared.value.Value.{Value}
use Rattle.constraint_sys.specs.declared.value.Value.TheVariants.{State, Number}
use Rattle.constraint_sys.specs.PostSolution.{BoundsAt, CoversValue}
use Rattle.constraint_sys.specs.Table.{TableValue, shown, value_at}
use Rattle.constraint_sys.specs.Transfer.{number_at, shown_number, transfer}
use Rattle.action_law.specs.Described.{DescribesEffect, DescribesGlobals}
use Rattle.action_law.specs.Laws.{EdgesKeepGlobals}
use Rattle.action_law.proofs.Edges.{edges_have_effects}

-- the interval that bounds a number's interval describes the number
pub covered : (o : Option Value) (v : Bounds) (n : ℤ) → CoversValue o (Number v) → Describes v n → IsSomeAnd (shown_number (shown o)) (λ (x : Bounds). Describes x n)
covered None v n covers within = absurd covers
covered (Some (State s)) v n covers within = absurd covers
covered (Some (Number x)) v n covers within = (omega (arith, ints, covers.0, within.0), omega (arith, ints, covers.1, within.1))

-- a place that is set has the new value, or there is no such place
set_or_same : (ns : List ℤ) (g : ℕ) (n : ℤ) → (slice_index_or (slice_set ns g n) g (pos 0) ≡ n) ⊎ (slice_index_or (slice_set ns g n) g (pos 0) ≡ slice_index_or ns g (pos 0))
set_or_same [] g n = inr refl
set_or_same (m ∷ ns) zero n = inl refl
set_or_same (m ∷ ns) (suc g) n = set_or_same ns g n

module _ (p : Program) (t : TableValue) (c : Config Frame) (thread next : ℕ) (frames : List Frame) (globals : DescribesGlobals p t c) where
  abbrev IsIn : ℕ → ℤ → Type 0
  IsIn g n = IsSomeAnd (number_at t g) (λ (v : Bounds). Describes v n)

  global_stays : (g h : ℕ) (n : ℤ) → h < length p.globals → IsIn g n → IsIn h (slice_index_or (slice_set c.globals g n) h (pos 0))
  global_stays g h n within new = elim (cases_eq h g) [
    | inl same ↦ elim (set_or_same c.globals g n) [
      | inl set ↦ subst (λ (i : ℕ). IsIn i (slice_index_or (slice_set c.globals g n) i (pos 0))) (sym same) (subst (IsIn g) (sym set) new)
      | inr kept ↦ subst (λ (i : ℕ). IsIn i (slice_index_or (slice_set c.globals g n) i (pos 0))) (sym same)
          (subst (IsIn g) (sym kept) (globals g (subst (λ (i : ℕ). i < length p.globals) same within)))
    ]
    | inr apart ↦ subst (IsIn h) (sym (get_or-set_other c.globals g h n (pos 0) apart)) (globals h within)
  ]

  globals_stay : (owners : List (Option ℕ)) (effect : Effect Frame) (given : List Given) → DescribesEffect p owners next effect given → All (λ (e : Given). BoundsAt t e.target e.value) given
      → DescribesGlobals p t (after_effect c thread frames effect)
  globals_stay owners Keeps given described bounds = globals
  globals_stay owners (SetsOwner m owner) given described bounds = globals
  globals_stay owners (Starts frame) given described bounds = globals
  globals_stay owners (SetsGlobal g n) given described bounds =
      let one = subst (All (λ (e : Given). BoundsAt t e.target e.value)) described.1 bounds in
      let covers = All-head (λ (e : Given). BoundsAt t e.target e.value) (record { target = Global g; value = Number described.0 }) [] one in
      λ h within. global_stays g h n within (covered (value_at t (Global g)) described.0 n covers described.2)

pub edges_keep_globals : EdgesKeepGlobals
edges_keep_globals t s state edge done frames it bounds =
    globals_stay s.program t s.config s.thread (next_thread s.config) frames it.before.globals (after_effect s.config s.thread frames done.1).owners done.1 (transfer s.program t s.frame.func edge.act state).effects
    (edges_have_effects t s state edge done frames it) bounds
