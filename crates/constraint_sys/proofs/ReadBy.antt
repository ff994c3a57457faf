-- Which points read one of some unknowns.
use Rattle.std.proofs.Common.{◌≡◌, ◌↔◌, inl, inr, ℕ, zero, suc, ◌<◌, Bool, true, ◌&&◌, nat_eq, List, [], ◌∷◌, Option, None, Some, refl, ap, ◌∙◌, arith, subst}
use Rattle.std.specs.Prelude.{Contains}
use Rattle.std.proofs.lemmas.Bool.Decides.{nat_tests}
use Rattle.std.proofs.lemmas.List.Elements.{Contains-append_cases, Contains-append_left, Contains-append_right}
use Rattle.gob_tree.specs.declared.graph.Action.{Action}
use Rattle.gob_tree.specs.declared.graph.Action.TheVariants.{Assign, Read, Write, Nondet, Guard, Assert, Lock, Unlock, Create, Join, Call, Skip}
use Rattle.gob_tree.specs.declared.graph.Edge.{Edge}
use Rattle.gob_tree.specs.declared.graph.Program.{Program}
use Rattle.gob_tree.specs.declared.unit.Slot.{Slot}
use Rattle.interval_dom.specs.Bounds.{Bounds}
use Rattle.state_dom.specs.Evaluation.{interval_of}
use Rattle.state_dom.specs.StateValue.{StateValue, Bottom, Reached}
use Rattle.constraint_sys.specs.declared.unknown.Key.{Key}
use Rattle.constraint_sys.specs.declared.unknown.Unknown.{Unknown}
use Rattle.constraint_sys.specs.declared.unknown.Unknown.TheVariants.{Point, Global}
use Rattle.constraint_sys.specs.Contribution.{edges_into, outcome_of, read_by, reads_of}
use Rattle.constraint_sys.specs.Reading.{HasCommon, may_read, is_exit, is_global}
use Rattle.constraint_sys.specs.Table.{TableValue, params_at, slots_at, state_at}
use Rattle.constraint_sys.specs.Transfer.{called, frame_of, key_of, outcome_in, transfer, values_of, written}
use Rattle.constraint_sys.proofs.Ordered.{Contains-cases, Contains-head, Contains-nil, Contains-tail}

same_test : (n : ℕ) → nat_eq n n ≡ true
same_test n = grind (arith, nat_tests)

-- ---- what an edge reads, its action may read
called_reads : (p : Program) (t : TableValue) (slots : List Slot) (state : List Bounds) (locks : ℕ) (d : Option ℕ) (f : ℕ) (args : Option (List Bounds)) (r : Unknown) → Contains (called p t slots state locks d f args).reads r → is_exit f r ≡ true
called_reads p t slots state locks d f None r one = absurd (Contains-nil r one)
called_reads p t slots state locks d f (Some args) r one =
    let exit = Point f (key_of (params_at p f) (frame_of (slots_at p f) args) locks) 1 in
    elim (Contains-cases exit r [] one) [
      | inl same ↦ ap (is_exit f) same ∙ ap (λ (b : Bool). b && true) (same_test f)
      | inr none ↦ absurd (Contains-nil r none)
    ]

written_reads : (p : Program) (state : List Bounds) (locks g : ℕ) (v : Option Bounds) (r : Unknown) → Contains (written p state locks g v).reads r → ⊥
written_reads p state locks g None r one = Contains-nil r one
written_reads p state locks g (Some v) r one = Contains-nil r one

action_reads : (p : Program) (t : TableValue) (slots : List Slot) (state : List Bounds) (locks : ℕ) (act : Action) (r : Unknown) → Contains (outcome_in p t slots state locks act).reads r → may_read act r ≡ true
action_reads p t slots state locks (Assign x e) r one = absurd (Contains-nil r one)
action_reads p t slots state locks (Read x g) r one = elim (Contains-cases (Global g) r [] one) [
  | inl same ↦ ap (is_global g) same ∙ same_test g
  | inr none ↦ absurd (Contains-nil r none)
]
action_reads p t slots state locks (Write g e) r one = absurd (written_reads p state locks g (interval_of slots state e) r one)
action_reads p t slots state locks (Nondet x) r one = absurd (Contains-nil r one)
action_reads p t slots state locks (Guard e wanted) r one = absurd (Contains-nil r one)
action_reads p t slots state locks (Assert e) r one = absurd (Contains-nil r one)
action_reads p t slots state locks (Lock m) r one = absurd (Contains-nil r one)
action_reads p t slots state locks (Unlock m) r one = absurd (Contains-nil r one)
action_reads p t slots state locks (Create x f) r one = absurd (Contains-nil r one)
action_reads p t slots state locks (Join x) r one = absurd (Contains-nil r one)
action_reads p t slots state locks (Call d f args) r one = called_reads p t slots state locks d f (values_of slots state args) r one
action_reads p t slots state locks Skip r one = absurd (Contains-nil r one)

transfer_reads : (p : Program) (t : TableValue) (f : ℕ) (act : Action) (s : StateValue) (r : Unknown) → Contains (transfer p t f act s).reads r → may_read act r ≡ true
transfer_reads p t f act (Bottom room) r one = absurd (Contains-nil r one)
transfer_reads p t f act (Reached state locks) r one = action_reads p t (slots_at p f) state locks act r one

pub edge_may_read : (p : Program) (t : TableValue) (f : ℕ) (key : Key) (e : Edge) (r : Unknown) → Contains (outcome_of p t f key e).reads r → may_read e.act r ≡ true
edge_may_read p t f key e r one = transfer_reads p t f e.act (state_at p t f key e.from) r one

-- ---- one edge
module _ (rose : List Unknown) (start : Unknown) (reads : List Unknown) where
  pub common_start : Contains rose start → HasCommon rose (start ∷ reads)
  common_start one = (start, one, Contains-head start reads)

  -- what isn't the start is read by the action
  pub common_rest : (Contains rose start → ⊥) → HasCommon rose (start ∷ reads) ↔ HasCommon rose reads
  common_rest off = (
    λ both. (
      both.0,
      both.1,
      elim (Contains-cases start both.0 reads both.2) [
        | inl same ↦ absurd (off (subst (λ (r : Unknown). Contains rose r) same both.1))
        | inr later ↦ later
      ],
    ),
    λ both. (both.0, both.1, Contains-tail start both.0 reads both.2),
  )

-- ---- the edges of a point
module _ (rose : List Unknown) (p : Program) (t : TableValue) (f : ℕ) (key : Key) (e : Edge) (es : List Edge) where
  abbrev here : List Unknown
  here = Point f key e.from ∷ (outcome_of p t f key e).reads

  pub common_here : HasCommon rose here → HasCommon rose (reads_of p t f key (e ∷ es))
  common_here both = (both.0, both.1, Contains-append_left here (reads_of p t f key es) both.0 both.2)

  pub common_later : (HasCommon rose here → ⊥) → HasCommon rose (reads_of p t f key es) ↔ HasCommon rose (reads_of p t f key (e ∷ es))
  common_later off = (
    λ both. (both.0, both.1, Contains-append_right here (reads_of p t f key es) both.0 both.2),
    λ both. (
      both.0,
      both.1,
      elim (Contains-append_cases here (reads_of p t f key es) both.0 both.2) [
        | inl first ↦ absurd (off (both.0, both.1, first))
        | inr later ↦ later
      ],
    ),
  )

-- an inner point reads what its edges read
pub read_by-inner : (p : Program) (t : TableValue) (f : ℕ) (key : Key) (node : ℕ) → 0 < node → read_by p t (Point f key node) ≡ reads_of p t f key (edges_into p f node)
read_by-inner p t f key zero positive = absurd (omega arith)
read_by-inner p t f key (suc node) positive = refl
