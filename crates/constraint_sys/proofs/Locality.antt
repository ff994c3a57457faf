-- A point gets the same from two tables that show the same at what it reads.
use Rattle.std.proofs.Common.{◌≡◌, ℕ, List, [], ◌∷◌, ◌++◌, Option, None, Some, refl, ap, ◌∙◌, arith}
use Rattle.std.specs.Prelude.{Contains, length}
use Rattle.std.proofs.lemmas.List.Elements.{Contains-append_left, Contains-append_right}
use Rattle.gob_tree.specs.declared.graph.Action.{Action}
use Rattle.gob_tree.specs.declared.graph.Action.TheVariants.{Assign, Read, Write, Nondet, Guard, Assert, Lock, Unlock, Create, Join, Call, Skip}
use Rattle.gob_tree.specs.declared.graph.Edge.{Edge}
use Rattle.gob_tree.specs.declared.graph.Program.{Program}
use Rattle.gob_tree.specs.declared.unit.Slot.{Slot}
use Rattle.interval_dom.specs.Bounds.{Bounds}
use Rattle.state_dom.specs.StateValue.{StateValue, Bottom, Reached, join_of}
use Rattle.constraint_sys.specs.declared.unknown.Key.{Key}
use Rattle.constraint_sys.specs.declared.unknown.Unknown.{Unknown}
use Rattle.constraint_sys.specs.declared.unknown.Unknown.TheVariants.{Point, Global}
use Rattle.constraint_sys.specs.declared.value.Outcome.{Outcome}
use Rattle.constraint_sys.specs.declared.value.Value.{Value}
use Rattle.constraint_sys.specs.declared.value.Value.TheVariants.{State}
use Rattle.constraint_sys.specs.Contribution.{contribution_of, edges_into, effects_of, joined_from, outcome_of, reads_of}
use Rattle.constraint_sys.specs.Table.{TableValue, slots_at, shown, shown_state, value_at, params_at}
use Rattle.constraint_sys.specs.Transfer.{assigned, called, frame_of, key_of, outcome_in, returned, shown_number, transfer, values_of}

-- a reader sees the same in both tables
abbrev pub ShowsSame : TableValue → TableValue → Unknown → Type 0
ShowsSame old new r = shown (value_at new r) ≡ shown (value_at old r)

module _ (p : Program) (old new : TableValue) where
  called-local : (slots : List Slot) (state : List Bounds) (locks : ℕ) (d : Option ℕ) (f : ℕ) (args : Option (List Bounds))
      → ((r : Unknown) → Contains (called p old slots state locks d f args).reads r → ShowsSame old new r) → called p new slots state locks d f args ≡ called p old slots state locks d f args
  called-local slots state locks d f None same = refl
  called-local slots state locks d f (Some args) same =
      let frame = frame_of (slots_at p f) args in
      let key = key_of (params_at p f) frame locks in
      let whole : StateValue → Outcome = λ s. record { value = s; effects = record { target = Point f key 0; value = State (Reached frame locks) } ∷ []; reads = Point f key 1 ∷ [] } in
      ap (λ (o : Option Value). whole (returned slots state d (shown_state (length (slots_at p f)) o))) (same (Point f key 1) (0, omega arith, refl))

  outcome_in-local : (slots : List Slot) (state : List Bounds) (locks : ℕ) (act : Action)
      → ((r : Unknown) → Contains (outcome_in p old slots state locks act).reads r → ShowsSame old new r) → outcome_in p new slots state locks act ≡ outcome_in p old slots state locks act
  outcome_in-local slots state locks (Assign x e) same = refl
  outcome_in-local slots state locks (Read x g) same =
      let whole : StateValue → Outcome = λ s. record { value = s; effects = []; reads = Global g ∷ [] } in
      ap (λ (o : Option Value). whole (assigned slots state locks x (shown_number o))) (same (Global g) (0, omega arith, refl))
  outcome_in-local slots state locks (Write g e) same = refl
  outcome_in-local slots state locks (Nondet x) same = refl
  outcome_in-local slots state locks (Guard e wanted) same = refl
  outcome_in-local slots state locks (Assert e) same = refl
  outcome_in-local slots state locks (Lock m) same = refl
  outcome_in-local slots state locks (Unlock m) same = refl
  outcome_in-local slots state locks (Create x f) same = refl
  outcome_in-local slots state locks (Join x) same = refl
  outcome_in-local slots state locks (Call d f args) same = called-local slots state locks d f (values_of slots state args) same
  outcome_in-local slots state locks Skip same = refl

  transfer-local : (f : ℕ) (act : Action) (s : StateValue)
      → ((r : Unknown) → Contains (transfer p old f act s).reads r → ShowsSame old new r) → transfer p new f act s ≡ transfer p old f act s
  transfer-local f act (Bottom room) same = refl
  transfer-local f act (Reached state locks) same = outcome_in-local (slots_at p f) state locks act same

  module _ (f : ℕ) (key : Key) where
    outcome_of-local : (e : Edge) → ((r : Unknown) → Contains (Point f key e.from ∷ (outcome_of p old f key e).reads) r → ShowsSame old new r) → outcome_of p new f key e ≡ outcome_of p old f key e
    outcome_of-local e same =
        let start = same (Point f key e.from) (0, omega arith, refl) in
        let room = length (slots_at p f) in
        ap (λ (o : Option Value). transfer p new f e.act (shown_state room o)) start
        ∙ transfer-local f e.act (shown_state room (shown (value_at old (Point f key e.from)))) (λ r reads. same r (Contains-append_right (Point f key e.from ∷ []) (outcome_of p old f key e).reads r reads))

    abbrev reads_by : Edge → List Unknown
    reads_by e = Point f key e.from ∷ (outcome_of p old f key e).reads

    outcomes_local : (e : Edge) (es : List Edge) → ((r : Unknown) → Contains (reads_of p old f key (e ∷ es)) r → ShowsSame old new r) → outcome_of p new f key e ≡ outcome_of p old f key e
    outcomes_local e es same = outcome_of-local e (λ r reads. same r (Contains-append_left (reads_by e) (reads_of p old f key es) r reads))

    rest_same : (e : Edge) (es : List Edge) → ((r : Unknown) → Contains (reads_of p old f key (e ∷ es)) r → ShowsSame old new r) → (r : Unknown) → Contains (reads_of p old f key es) r → ShowsSame old new r
    rest_same e es same r reads = same r (Contains-append_right (reads_by e) (reads_of p old f key es) r reads)

    joined-local : (s : StateValue) (es : List Edge) → ((r : Unknown) → Contains (reads_of p old f key es) r → ShowsSame old new r) → joined_from p new f key s es ≡ joined_from p old f key s es
    joined-local s [] same = refl
    joined-local s (e ∷ es) same =
        ap (λ (o : Outcome). joined_from p new f key (join_of s o.value) es) (outcomes_local e es same)
        ∙ joined-local (join_of s (outcome_of p old f key e).value) es (rest_same e es same)

    effects-local : (es : List Edge) → ((r : Unknown) → Contains (reads_of p old f key es) r → ShowsSame old new r) → effects_of p new f key es ≡ effects_of p old f key es
    effects-local [] same = refl
    effects-local (e ∷ es) same = λ i. (outcomes_local e es same i).effects ++ effects-local es (rest_same e es same) i

    reads-local : (es : List Edge) → ((r : Unknown) → Contains (reads_of p old f key es) r → ShowsSame old new r) → reads_of p new f key es ≡ reads_of p old f key es
    reads-local [] same = refl
    reads-local (e ∷ es) same = λ i. (Point f key e.from ∷ (outcomes_local e es same i).reads) ++ reads-local es (rest_same e es same) i

    pub contribution-local : (node : ℕ) → ((r : Unknown) → Contains (reads_of p old f key (edges_into p f node)) r → ShowsSame old new r) → contribution_of p new f key node ≡ contribution_of p old f key node
    contribution-local node same =
        let es = edges_into p f node in
        λ i. record { value = joined-local (Bottom (length (slots_at p f))) es same i; effects = effects-local es same i; reads = reads-local es same i }
