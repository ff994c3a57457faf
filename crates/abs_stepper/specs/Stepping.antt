-- Steps of a position by one edge.
--
-- A reader should check: who moves along with the named thread, and that who can't is dropped.
use Rattle.std.specs.Prelude.{◌≡◌, ℕ, nat_eq, ◌&&◌, Bool, true, false, List, [], ◌∷◌, ◌++◌, Option, None, Some, if◌then◌else◌, IsSome, IsSomeAnd, map, filter_map}
use Rattle.std.specs.Option.{option_eq, option_map}
use Rattle.arg_graph.specs.Following.{Offers, StackValue, left, moved, returned, top_of}
use Rattle.arg_graph.specs.declared.stack.Frame.{Frame}
use Rattle.arg_graph.specs.declared.vertex.Label.{Label}
use Rattle.arg_graph.specs.declared.vertex.Label.TheVariants.{Do, Over, Enter, Thread as ThreadOf, Leave}
use Rattle.arg_graph.specs.declared.vertex.Step.{Step}
use Rattle.arg_graph.specs.declared.vertex.Vertex.{Vertex}
use Rattle.abs_stepper.specs.declared.position.Thread.{Thread}
use Rattle.abs_stepper.specs.Positions.{stack_of}

-- ---- labels that are offered to a stack

abbrev pub steps_at_top : Offers → Option Vertex → List Step
steps_at_top offers None = []
steps_at_top offers (Some v) = offers v

abbrev pub leaving : Option StackValue → List Label
leaving None = []
leaving (Some stack) = Leave ∷ []

-- those of the last frame's vertex, in their order, and then Leave where it can be taken
abbrev pub labels_at : Offers → StackValue → List Label
labels_at offers stack = map (λ (s : Step). s.label) (steps_at_top offers (top_of stack)) ++ leaving (left offers stack)

-- ---- who moves along

-- the last frame but one
abbrev pub caller_of : StackValue → Option Frame
caller_of [] = None
caller_of (x ∷ []) = None
caller_of (x ∷ y ∷ []) = Some x
caller_of (x ∷ y ∷ z ∷ rest) = caller_of (y ∷ z ∷ rest)

-- both frames wait at the same edge of the same function
abbrev pub same_call : Option Frame → Option Frame → Bool
same_call None other = false
same_call (Some x) None = false
same_call (Some x) (Some y) = nat_eq x.vertex.func y.vertex.func && option_eq nat_eq x.call y.call

-- to leave, a stack has to go back to where the named one does
abbrev pub goes_along : Label → StackValue → StackValue → Bool
goes_along (Do n) named other = true
goes_along (Over n) named other = true
goes_along (Enter n) named other = true
goes_along (ThreadOf n) named other = true
goes_along Leave named other = same_call (caller_of named) (caller_of other)

-- a thread with the stack that its own becomes, if it becomes one
abbrev pub with_stack : ℕ → Option StackValue → Option Thread
with_stack id stack = option_map (λ (new : StackValue). record { id = id; stack = new }) stack

abbrev pub moved_along : Offers → Label → StackValue → Thread → Option Thread
moved_along offers label named t = if goes_along label named t.stack then with_stack t.id (moved offers label t.stack) else None

abbrev pub returned_along : Offers → StackValue → Thread → Option Thread
returned_along offers named t = if same_call (caller_of named) (caller_of t.stack) then with_stack t.id (returned offers t.stack) else None

-- ---- steps

-- The named thread takes the label, every other that can moves along, and the rest is dropped.
pub record IsStepped (offers : Offers) (label : Label) (id : ℕ) (old new : List Thread) : Type 0 where
  pub named : IsSomeAnd (stack_of old id) (λ stack. IsSome (moved offers label stack) × (new ≡ filter_map (moved_along offers label stack) old))

-- The named thread steps out to its caller, and every other that stepped into the same call along.
pub record IsSteppedOut (offers : Offers) (id : ℕ) (old new : List Thread) : Type 0 where
  pub named : IsSomeAnd (stack_of old id) (λ stack. IsSome (returned offers stack) × (new ≡ filter_map (returned_along offers stack) old))
