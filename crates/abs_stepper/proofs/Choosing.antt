-- A label that a move takes is offered, and so it moves the stack.
use Rattle.std.proofs.Common.{◌≡◌, ◌⊎◌, ◌<◌, ◌≤◌, ◌-◌, inl, inr, Bool, true, false, cond, true≢false, List, [], ◌∷◌, map, length, take, Option, None, Some, refl, sym, ap, subst, ◌∙◌, arith, rules}
use Rattle.std.specs.Prelude.{Contains, IsSome, is_some}
use Rattle.std.proofs.lemmas.List.Elements.{Contains-append_cases}
use Rattle.std.proofs.lemmas.Option.{none-some, same_Some}
use Rattle.gob_tree.specs.Formed.{IsFormed}
use Rattle.gob_tree.specs.declared.graph.Program.{Program}
use Rattle.constraint_sys.specs.Table.{TableValue, nodes_at}
use Rattle.constraint_sys.proofs.Ordered.{Contains-cases, Contains-filter, Contains-head, Contains-nil, Contains-tail}
use Rattle.arg_graph.specs.declared.graph.Graph.{Graph}
use Rattle.arg_graph.specs.declared.vertex.Label.{Label}
use Rattle.arg_graph.specs.declared.vertex.Label.TheVariants.{Leave}
use Rattle.arg_graph.specs.declared.vertex.Step.{Step}
use Rattle.arg_graph.specs.declared.vertex.Vertex.{Vertex}
use Rattle.arg_graph.specs.contracts.vertex.LabelPartialEq.TheImpl.{ghosts as labels}
use Rattle.arg_graph.specs.Following.{Offers, StackValue, left, moved, stepped_frames, target_of, top_of}
use Rattle.arg_graph.specs.Graphs.{IsGraphOf, offered_in}
use Rattle.arg_graph.specs.Offered.{offered}
use Rattle.arg_graph.proofs.Tops.{IsStep, last_there, moved-last, stepped_to, top_of-last}
use Rattle.abs_stepper.specs.Statements.{across, entering_at, is_entering, is_passing, only, or_else, passing_at}
use Rattle.abs_stepper.specs.Stepping.{labels_at, leaving, steps_at_top}
use Rattle.abs_stepper.specs.Ways.{chosen}
use Rattle.abs_stepper.specs.declared.choice.Way.{Way}
use Rattle.abs_stepper.specs.declared.choice.Way.TheVariants.{Across, Into}
use Rattle.abs_stepper.proofs.Edges.{offers_steps, offers_within}

-- ---- chosen labels are offered

only_there : (ls : List Label) (label : Label) → only ls ≡ Some label → Contains ls label
only_there [] label is = absurd (none-some label is)
only_there (x ∷ []) label is = subst (λ (y : Label). Contains (x ∷ []) y) (same_Some x label is) (Contains-head x [])
only_there (x ∷ y ∷ rest) label is = absurd (none-some label is)

either_there : (first other : Option Label) (label : Label) → or_else first other ≡ Some label → (first ≡ Some label) ⊎ (other ≡ Some label)
either_there None other label is = inr is
either_there (Some x) other label is = inl is

passing_there : (offers : Offers) (stack : StackValue) (label : Label) → across offers stack ≡ Some label → Contains (labels_at offers stack) label
passing_there offers stack label is = (Contains-filter is_passing (labels_at offers stack) label (only_there (passing_at offers stack) label is)).0

pub chosen_there : (way : Way) (offers : Offers) (stack : StackValue) (label : Label) → chosen way offers stack ≡ Some label → Contains (labels_at offers stack) label
chosen_there Across offers stack label is = passing_there offers stack label is
chosen_there Into offers stack label is = elim (either_there (only (entering_at offers stack)) (across offers stack) label is) [
  | inl enters ↦ (Contains-filter is_entering (labels_at offers stack) label (only_there (entering_at offers stack) label enters)).0
  | inr passes ↦ passing_there offers stack label passes
]

-- ---- offered labels move the stack

same_itself : (label : Label) → labels.eq label label ≡ true
same_itself label = search rules

label_there : (steps : List Step) (label : Label) → Contains (map (λ (s : Step). s.label) steps) label → (s : Step) × Contains steps s × (s.label ≡ label)
label_there [] label one = absurd (Contains-nil label one)
label_there (s ∷ ss) label one = elim (Contains-cases s.label label (map (λ (x : Step). x.label) ss) one) [
  | inl same ↦ (s, Contains-head s ss, sym same)
  | inr later ↦ (let rest = label_there ss label later in (rest.0, Contains-tail s rest.0 ss rest.1, rest.2))
]

target_found : (steps : List Step) (s : Step) → Contains steps s → (to : Vertex) × (target_of s.label steps ≡ Some to)
target_found [] s one = absurd (Contains-nil s one)
target_found (x ∷ xs) s one = by (labels.eq x.label s.label) refl (λ later. target_found xs s later)
  where
    by : (b : Bool) → labels.eq x.label s.label ≡ b → (Contains xs s → (to : Vertex) × (target_of s.label xs ≡ Some to)) → (to : Vertex) × (cond b (Some x.to) (target_of s.label xs) ≡ Some to)
    by true same later = (x.to, refl)
    by false apart later = elim (Contains-cases x s xs one) [
      | inl same ↦ absurd (true≢false (sym (same_itself s.label) ∙ ap (λ (y : Step). labels.eq y.label s.label) same ∙ apart))
      | inr rest ↦ later rest
    ]

is_some_of : {A : Type 0} (o : Option A) (x : A) → o ≡ Some x → IsSome o
is_some_of o x is = ap is_some is

top_there : (stack : StackValue) (v : Vertex) → top_of stack ≡ Some v → 1 ≤ length stack
top_there [] v is = absurd (none-some v is)
top_there (x ∷ rest) v is = omega arith

-- a step that the last frame's vertex offers moves the stack
pub offered_moves : (offers : Offers) (stack : StackValue) (v : Vertex) → top_of stack ≡ Some v → (s : Step) → Contains (offers v) s → IsStep s.label → IsSome (moved offers s.label stack)
offered_moves offers stack v top s one step =
    let last = last_there stack (top_there stack v top) in
    let below = take (length stack - 1) stack in
    let is : last.0.vertex ≡ v = same_Some last.0.vertex v (sym (top_of-last below last.0) ∙ ap top_of last.1 ∙ top) in
    let found = target_found (offers v) s one in
    let goes : target_of s.label (offers last.0.vertex) ≡ Some found.0 = ap (λ (w : Vertex). target_of s.label (offers w)) is ∙ found.1 in
    is_some_of (moved offers s.label stack) (stepped_frames s.label below last.0.vertex found.0) (ap (moved offers s.label) (sym last.1) ∙ moved-last offers s.label step below last.0 ∙ ap (stepped_to s.label below last.0.vertex) goes)

left_there : (o : Option StackValue) (label : Label) → Contains (leaving o) label → (label ≡ Leave) × IsSome o
left_there None label one = absurd (Contains-nil label one)
left_there (Some stack) label one = elim (Contains-cases Leave label [] one) [ inl same ↦ (same, refl) | inr none ↦ absurd (Contains-nil label none) ]

module _ (p : Program) (t : TableValue) (g : Graph) (is : IsGraphOf p t g) where
  in_graph : (v : Vertex) (s : Step) → Contains (offered_in g v) s → Contains (offered p t v) s
  in_graph v s one = subst (λ (l : List Step). Contains l s) (is.steps v) one

  -- a label that is offered to a stack moves it
  label_moves : (stack : StackValue) (label : Label) → Contains (labels_at (offered_in g) stack) label → IsSome (moved (offered_in g) label stack)
  label_moves stack label one =
      elim (Contains-append_cases (map (λ (s : Step). s.label) (steps_at_top (offered_in g) (top_of stack))) (leaving (left (offered_in g) stack)) label one) [
        | inl here ↦ by (top_of stack) refl here
        | inr leaves ↦ (let there = left_there (left (offered_in g) stack) label leaves in subst (λ (l : Label). IsSome (moved (offered_in g) l stack)) (sym there.0) there.1)
      ]
    where
      by : (o : Option Vertex) → top_of stack ≡ o → Contains (map (λ (s : Step). s.label) (steps_at_top (offered_in g) o)) label → IsSome (moved (offered_in g) label stack)
      by None top here = absurd (Contains-nil label here)
      by (Some v) top here =
          let found = label_there (offered_in g v) label here in
          let step : IsStep found.0.label = offers_steps p t v found.0 (in_graph v found.0 found.1) in
          subst (λ (l : Label). IsSome (moved (offered_in g) l stack)) found.2 (offered_moves (offered_in g) stack v top found.0 found.1 step)

  pub chosen_moves : (way : Way) (stack : StackValue) (label : Label) → chosen way (offered_in g) stack ≡ Some label → IsSome (moved (offered_in g) label stack)
  chosen_moves way stack label takes = label_moves stack label (chosen_there way (offered_in g) stack label takes)

  -- where a label leads from a vertex, the vertex is a node of its function
  pub goes_within : IsFormed p → (v to : Vertex) (label : Label) → Contains (offered_in g v) (record { label = label; to = to }) → v.node < length (nodes_at p v.func)
  goes_within formed v to label one = offers_within p t v (record { label = label; to = to }) formed (in_graph v (record { label = label; to = to }) one)
