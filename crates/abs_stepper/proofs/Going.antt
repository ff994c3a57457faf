-- A move under way: what is known after each of its steps, and how it ends.
use Rattle.std.proofs.Common.{◌≡◌, ◌≢◌, ℕ, zero, suc, ◌<◌, nat_eq, Bool, true, false, cond, true≢false, List, [], ◌∷◌, length, replicate, set, Option, None, Some, refl, sym, ap, subst, ◌∙◌, arith}
use Rattle.std.specs.Prelude.{Contains, IsSome, IsSomeAnd, filter_map, is_some, option_and_then, slice_get}
use Rattle.std.specs.List.{cons_option}
use Rattle.std.proofs.lemmas.List.{length-replicate, length-set}
use Rattle.std.proofs.lemmas.Option.{none-some, same_Some, slice_get_within}
use Rattle.gob_tree.specs.Formed.{IsFormed}
use Rattle.gob_tree.specs.declared.graph.Program.{Program}
use Rattle.gob_tree.specs.declared.place.Place.{Place}
use Rattle.constraint_sys.specs.Table.{TableValue, nodes_at}
use Rattle.arg_graph.specs.Following.{Offers, StackValue, moved, target_of, top_of}
use Rattle.arg_graph.specs.Graphs.{IsGraphOf, offered_in}
use Rattle.arg_graph.specs.declared.graph.Graph.{Graph}
use Rattle.arg_graph.specs.declared.vertex.Label.{Label}
use Rattle.arg_graph.specs.declared.vertex.Label.TheVariants.{Do, Over, Enter, Thread as ThreadOf, Leave}
use Rattle.arg_graph.specs.declared.vertex.Step.{Step}
use Rattle.arg_graph.specs.declared.vertex.Vertex.{Vertex}
use Rattle.arg_graph.proofs.Tops.{IsStep}
use Rattle.abs_stepper.specs.declared.choice.Way.{Way}
use Rattle.abs_stepper.specs.declared.position.Thread.{Thread}
use Rattle.abs_stepper.specs.Positions.{IsPosition, StandsAt, stack_of}
use Rattle.abs_stepper.specs.Statements.{GoesOn, HasEnded, IsInside, IsMove, IsUnderWay, first_step, further_step, label_in, place_of, stays, top_in}
use Rattle.abs_stepper.specs.Stepping.{IsStepped, goes_along, moved_along}
use Rattle.abs_stepper.specs.Ways.{AreMarksOf, chosen, is_inside}
use Rattle.abs_stepper.proofs.Choosing.{goes_within}
use Rattle.abs_stepper.proofs.Edges.{offers_inside, target_there}
use Rattle.abs_stepper.proofs.Keeping.{moved_keeps, moves_itself, some_is, step_keeps, thread_with, top_goes, with_new}
use Rattle.abs_stepper.proofs.Marks.{first_mark, fresh_unmarked, fresh_within, inside_tests, marks_more, outside_stale, stale_marked}

-- ---- the named thread after a step

stays_step : (label : Label) → stays label ≡ true → IsStep label
stays_step (Do n) stayed = tt
stays_step (Over n) stayed = tt
stays_step (Enter n) stayed = tt
stays_step (ThreadOf n) stayed = tt
stays_step Leave stayed = absurd (true≢false (sym stayed))

-- a rule that keeps ids, and by which the thread with an id comes to a stack
kept_stack : (f : Thread → Option Thread) → ((t u : Thread) → f t ≡ Some u → u.id ≡ t.id) → (id : ℕ) (named new : StackValue)
    → ((t : Thread) → t.stack ≡ named → f t ≡ Some (record { id = t.id; stack = new })) → (ts : List Thread) → stack_of ts id ≡ Some named → stack_of (filter_map f ts) id ≡ Some new
kept_stack f keeps id named new becomes [] is = absurd (none-some named is)
kept_stack f keeps id named new becomes (t ∷ ts) is = by (nat_eq t.id id) refl is (λ found. kept_stack f keeps id named new becomes ts found)
  where
    skipped : (o : Option Thread) → f t ≡ o → nat_eq t.id id ≡ false → stack_of (filter_map f ts) id ≡ Some new → stack_of (cons_option o (filter_map f ts)) id ≡ Some new
    skipped None at apart rest = rest
    skipped (Some u) at apart rest = ap (λ (b : Bool). cond b (Some u.stack) (stack_of (filter_map f ts) id)) (ap (λ (n : ℕ). nat_eq n id) (keeps t u at) ∙ apart) ∙ rest

    by : (b : Bool) → nat_eq t.id id ≡ b → cond b (Some t.stack) (stack_of ts id) ≡ Some named → (stack_of ts id ≡ Some named → stack_of (filter_map f ts) id ≡ Some new) → stack_of (cons_option (f t) (filter_map f ts)) id ≡ Some new
    by true same found later =
        ap (λ (o : Option Thread). stack_of (cons_option o (filter_map f ts)) id) (becomes t (same_Some t.stack named found))
        ∙ ap (λ (b : Bool). cond b (Some new) (stack_of (filter_map f ts) id)) same
    by false apart found later = skipped (f t) refl apart (later found)

top_by : (ts : List Thread) (id : ℕ) (stack : StackValue) (v : Vertex) → stack_of ts id ≡ Some stack → top_of stack ≡ Some v → top_in ts id ≡ Some v
top_by ts id stack v at top = ap (option_and_then top_of) at ∙ top

-- a thread of a position has a top
top_of_thread : (ts : List Thread) → IsPosition ts → (id : ℕ) (stack : StackValue) → stack_of ts id ≡ Some stack → (v : Vertex) × (top_of stack ≡ Some v)
top_of_thread ts position id stack at =
    let t = thread_with ts id stack at in
    let stands : StandsAt position.together.0 position.together.1 stack = subst (λ (s : StackValue). StandsAt position.together.0 position.together.1 s) t.2 (position.together.2 t.0 t.1) in
    by position.together.0 position.together.1 (top_of stack) stands
  where
    by : (f node : ℕ) (o : Option Vertex) → IsSomeAnd o (λ v. (v.func ≡ f) × (v.node ≡ node)) → (v : Vertex) × (o ≡ Some v)
    by f node None stands = absurd stands
    by f node (Some v) stands = (v, refl)

-- ---- what is known on the way

-- the thread is still in the function and the context where it began, and marks tell where it has been
pub record IsTracked (id : ℕ) (began : Vertex) (been : List Vertex) (marks : List Bool) (now : List Thread) : Type 0 where
  pub top : (v : Vertex) × (top_in now id ≡ Some v) × (v.func ≡ began.func) × (v.key ≡ began.key)
  pub within : began.node < length marks
  pub told : AreMarksOf began been marks

pub record IsGoing (p : Program) (g : Graph) (way : Way) (id : ℕ) (began : Vertex) (old : List Thread) (marks : List Bool) (last : Label) (now : List Thread) : Type 0 where
  pub start : top_in old id ≡ Some began
  pub under_way : (been : List Vertex) × IsUnderWay p (offered_in g) (chosen way (offered_in g)) id began old been last now × (stays last ≡ true → IsTracked id began been marks now)
  pub there : (stack : StackValue) × (v : Vertex) × (stack_of now id ≡ Some stack) × (top_of stack ≡ Some v)
  pub room : length marks ≡ length (nodes_at p began.func)

-- a thread of a position has a top vertex
pub named_top : (ts : List Thread) → IsPosition ts → (id : ℕ) (stack : StackValue) → stack_of ts id ≡ Some stack → IsSome (top_of stack)
named_top ts position id stack at = ap is_some (top_of_thread ts position id stack at).1

pub taken_by_stack : (choose : StackValue → Option Label) (ts : List Thread) (id : ℕ) (stack : StackValue) → stack_of ts id ≡ Some stack → label_in choose ts id ≡ choose stack
taken_by_stack choose ts id stack at = ap (option_and_then choose) at

pub top_by_stack : (ts : List Thread) (id : ℕ) (stack : StackValue) → stack_of ts id ≡ Some stack → top_in ts id ≡ top_of stack
top_by_stack ts id stack at = ap (option_and_then top_of) at

pub taker_there : (choose : StackValue → Option Label) (ts : List Thread) (id : ℕ) (label : Label) → label_in choose ts id ≡ Some label → stack_of ts id ≢ None
taker_there choose ts id label takes none = none-some label (sym (ap (option_and_then choose) none) ∙ takes)

pub stepped_by : (offers : Offers) (label : Label) (id : ℕ) (stack : StackValue) (old new : List Thread) → stack_of old id ≡ Some stack → IsSome (moved offers label stack)
    → new ≡ filter_map (moved_along offers label stack) old → IsStepped offers label id old new
stepped_by offers label id stack old new at some is = record { named = subst (λ (o : Option StackValue). IsSomeAnd o (λ s. IsSome (moved offers label s) × (new ≡ filter_map (moved_along offers label s) old))) (sym at) (some, is) }

module _ (p : Program) (t : TableValue) (g : Graph) (is : IsGraphOf p t g) (formed : IsFormed p) (way : Way) (id : ℕ) where
  -- where the named thread comes by a step
  abbrev After : Label → List Thread → List Thread → Type 0
  After label now new = (stack : StackValue) × (after : StackValue) × (stack_of now id ≡ Some stack) × (stack_of new id ≡ Some after) × (moved (offered_in g) label stack ≡ Some after)

  after_step : (label : Label) (now new : List Thread) → IsStepped (offered_in g) label id now new → After label now new
  after_step label now new stepped = by (stack_of now id) refl stepped.named
    where
      by : (o : Option StackValue) → stack_of now id ≡ o → IsSomeAnd o (λ stack. IsSome (moved (offered_in g) label stack) × (new ≡ filter_map (moved_along (offered_in g) label stack) now)) → After label now new
      by None at named = absurd named
      by (Some stack) at named =
          let some = some_is p t g is (moved (offered_in g) label stack) named.0 in
          let along : goes_along label stack stack ≡ true = moves_itself p t g is label stack some.0 some.1 in
          let becomes : (u : Thread) → u.stack ≡ stack → moved_along (offered_in g) label stack u ≡ Some (record { id = u.id; stack = some.0 }) =
          λ u same. with_new p t g is u (goes_along label stack u.stack) (moved (offered_in g) label u.stack) some.0 (ap (goes_along label stack) same ∙ along) (ap (moved (offered_in g) label) same ∙ some.1) in
          let kept = kept_stack (moved_along (offered_in g) label stack) (moved_keeps p t g is label stack) id stack some.0 becomes now at in
          (stack, some.0, at, ap (λ (ts : List Thread). stack_of ts id) named.1 ∙ kept, some.1)

  -- after a step that stays the thread is in the same function and context
  abbrev Stayed : Vertex → List Thread → Type 0
  Stayed v new = (to : Vertex) × (top_in new id ≡ Some to) × (to.func ≡ v.func) × (to.key ≡ v.key) × (v.node < length (nodes_at p v.func))

  after_stay : (label : Label) (now new : List Thread) (v : Vertex) → top_in now id ≡ Some v → IsStepped (offered_in g) label id now new → stays label ≡ true → Stayed v new
  after_stay label now new v top stepped stayed =
      let at = after_step label now new stepped in
      let goes = top_goes (offered_in g) label (stays_step label stayed) at.0 at.1 at.4 in
      let same : goes.0 ≡ v = same_Some goes.0 v (sym (top_by now id at.0 goes.0 at.2 goes.2) ∙ top) in
      let leads : target_of label (offered_in g v) ≡ Some goes.1 = ap (λ (w : Vertex). target_of label (offered_in g w)) (sym same) ∙ goes.3 in
      let one : Contains (offered_in g v) (record { label = label; to = goes.1 }) = target_there label (offered_in g v) goes.1 leads in
      let inside = offers_inside p t v (record { label = label; to = goes.1 }) (subst (λ (l : List Step). Contains l (record { label = label; to = goes.1 })) (is.steps v) one) stayed in
      (goes.1, top_by new id at.1 goes.1 at.3 goes.4, inside.0, inside.1, goes_within p t g is formed v goes.1 label one)

  there_after : (label : Label) (now new : List Thread) → IsPosition new → IsStepped (offered_in g) label id now new → (stack : StackValue) × (v : Vertex) × (stack_of new id ≡ Some stack) × (top_of stack ≡ Some v)
  there_after label now new position stepped =
      let at = after_step label now new stepped in
      let top = top_of_thread new position id at.1 at.3 in
      (at.1, top.0, at.3, top.1)

  pub position_after : (label : Label) (now new : List Thread) (stack : StackValue) → IsPosition now → stack_of now id ≡ Some stack → IsSome (moved (offered_in g) label stack)
      → new ≡ filter_map (moved_along (offered_in g) label stack) now → IsPosition new
  position_after label now new stack position at some same = subst (λ (ts : List Thread). IsPosition ts) (sym same) (step_keeps p t g is now id label stack position at some)

  module _ (began : Vertex) (old : List Thread) where
    -- the first step
    pub going_first : (label : Label) (new : List Thread) (marks : List Bool) → top_in old id ≡ Some began → label_in (chosen way (offered_in g)) old id ≡ Some label → IsPosition new → IsStepped (offered_in g) label id old new
        → marks ≡ set (replicate (length (nodes_at p began.func)) false) began.node true → IsGoing p g way id began old marks label new
    going_first label new marks top takes position stepped are =
        let room : length marks ≡ length (nodes_at p began.func) = ap length are ∙ length-set (replicate (length (nodes_at p began.func)) false) began.node true ∙ length-replicate (length (nodes_at p began.func)) false in
        record {
          start = top;
          under_way = (began ∷ [], first_step label new takes stepped, λ stayed. tracked (after_stay label old new began top stepped stayed) room);
          there = there_after label old new position stepped;
          room = room;
        }
      where
        tracked : Stayed began new → length marks ≡ length (nodes_at p began.func) → IsTracked id began (began ∷ []) marks new
        tracked after room = record {
          top = (after.0, after.1, after.2, after.3);
          within = subst (λ (n : ℕ). began.node < n) (sym room) after.4;
          told = subst (λ (m : List Bool). AreMarksOf began (began ∷ []) m) (sym are) (first_mark began (length (nodes_at p began.func)) (subst (λ (n : ℕ). began.node < n) (sym (length-replicate (length (nodes_at p began.func)) false)) after.4));
        }

    module _ (marks : List Bool) (last : Label) (now : List Thread) (going : IsGoing p g way id began old marks last now) (v : Vertex) (top : top_in now id ≡ Some v) where
      tracked_here : IsTracked id began going.under_way.0 marks now → (v.func ≡ began.func) × (v.key ≡ began.key)
      tracked_here tracked = (let same : tracked.top.0 ≡ v = same_Some tracked.top.0 v (sym tracked.top.1 ∙ top) in (sym (ap (λ (w : Vertex). w.func) same) ∙ tracked.top.2, sym (ap (λ (w : Vertex). w.key) same) ∙ tracked.top.3))

      -- a further step
      pub going_further : is_inside p began marks last v ≡ true → (label : Label) (new : List Thread) → label_in (chosen way (offered_in g)) now id ≡ Some label → IsPosition new → IsStepped (offered_in g) label id now new
          → IsGoing p g way id began old (set marks v.node true) label new
      going_further inside label new takes position stepped =
          let tests = inside_tests p began marks last v inside in
          let tracked = going.under_way.2 tests.stayed in
          let here = tracked_here tracked in
          let within : v.node < length marks = fresh_within marks v.node tests.fresh in
          let on : GoesOn p (chosen way (offered_in g)) id began going.under_way.0 last now v label = record {
            stands = top;
            inside = record { stayed = tests.stayed; not_at_exit = tests.not_at_exit; place = tests.place; new = λ been. fresh_unmarked marks v.node tests.fresh ((tracked.told v here.0 here.1).0 been) };
            takes = takes;
          } in
          record {
            start = going.start;
            under_way = (v ∷ going.under_way.0, further_step going.under_way.0 last now v label new going.under_way.1 on stepped, λ stayed. tracked_on tracked here within (after_stay label now new v top stepped stayed));
            there = there_after label now new position stepped;
            room = length-set marks v.node true ∙ going.room;
          }
        where
          tracked_on : IsTracked id began going.under_way.0 marks now → (v.func ≡ began.func) × (v.key ≡ began.key) → v.node < length marks → Stayed v new → IsTracked id began (v ∷ going.under_way.0) (set marks v.node true) new
          tracked_on tracked here within after = record {
            top = (after.0, after.1, after.2 ∙ here.0, after.3 ∙ here.1);
            within = subst (λ (n : ℕ). began.node < n) (sym (length-set marks v.node true)) tracked.within;
            told = marks_more began v going.under_way.0 marks here.0 here.1 within tracked.told;
          }

      place_there : (w : Vertex) → place_of p w ≡ place_of p began → began.node < length marks → w.func ≡ began.func → w.node < length marks
      place_there w same within func =
          let nodes : length (nodes_at p w.func) ≡ length marks = ap (λ (f : ℕ). length (nodes_at p f)) func ∙ sym going.room in
          subst (λ (n : ℕ). w.node < n) nodes (by (place_of p w) refl)
        where
          by : (o : Option Place) → place_of p w ≡ o → w.node < length (nodes_at p w.func)
          by None at = absurd (no_place (nodes_at p began.func) began.node (subst (λ (n : ℕ). began.node < n) going.room within) (sym same ∙ at))
            where
              no_place : (places : List Place) (n : ℕ) → n < length places → slice_get places n ≢ None
              no_place [] n within none = omega (arith, within)
              no_place (x ∷ xs) zero within none = none-some x (sym none)
              no_place (x ∷ xs) (suc n) within none = no_place xs n (omega (arith, within)) none
          by (Some at_place) at = slice_get_within (nodes_at p w.func) w.node at_place at

      is_move : HasEnded p (chosen way (offered_in g)) id began going.under_way.0 last now → IsMove p (offered_in g) (chosen way (offered_in g)) id old now
      is_move ended = subst (λ (o : Option Vertex). IsSomeAnd o (λ b. (been : List Vertex) × (last' : Label) × IsUnderWay p (offered_in g) (chosen way (offered_in g)) id b old been last' now × HasEnded p (chosen way (offered_in g)) id b been last' now)) (sym going.start)
          (going.under_way.0, last, going.under_way.1, ended)

      -- outside of the statement the move has ended
      pub ends_outside : is_inside p began marks last v ≡ false → IsMove p (offered_in g) (chosen way (offered_in g)) id old now
      ends_outside outside = is_move (λ w label on. inside_ends (subst (λ (x : Vertex). IsInside p began going.under_way.0 last x) (same_Some w v (sym on.stands ∙ top)) on.inside))
        where
          inside_ends : IsInside p began going.under_way.0 last v → ⊥
          inside_ends inside =
              let tracked = going.under_way.2 inside.stayed in
              let here = tracked_here tracked in
              let within = place_there v inside.place tracked.within here.0 in
              let marked = stale_marked marks v.node within (outside_stale p began marks last v outside inside.stayed inside.not_at_exit inside.place) in
              inside.new ((tracked.told v here.0 here.1).1 marked)

      -- so it has where no label is taken
      pub ends_unchosen : label_in (chosen way (offered_in g)) now id ≡ None → IsMove p (offered_in g) (chosen way (offered_in g)) id old now
      ends_unchosen none = is_move (λ w label on. none-some label (sym none ∙ on.takes))
