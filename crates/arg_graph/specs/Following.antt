-- Stacks of frames, and how a label moves one.
--
-- A reader should check: which frame a label changes, and what Leave asks for.
use Rattle.std.specs.Prelude.{ℕ, nat_eq, List, [], ◌∷◌, ◌++◌, Option, None, Some, if◌then◌else◌, option_and_then}
use Rattle.std.specs.Option.{option_map}
use Rattle.arg_graph.specs.declared.stack.Frame.{Frame}
use Rattle.arg_graph.specs.declared.vertex.Label.{Label}
use Rattle.arg_graph.specs.declared.vertex.Label.TheVariants.{Do, Over, Enter, Thread, Leave}
use Rattle.arg_graph.specs.declared.vertex.Step.{Step}
use Rattle.arg_graph.specs.declared.vertex.Vertex.{Vertex}
use Rattle.arg_graph.specs.contracts.vertex.LabelPartialEq.TheImpl.{ghosts as labels}

abbrev pub StackValue : Type 0
StackValue = List Frame

-- the steps that each vertex offers
abbrev pub Offers : Type 0
Offers = Vertex → List Step

-- ---- steps by label

-- where a label leads, if it is among the steps
abbrev pub target_of : Label → List Step → Option Vertex
target_of label [] = None
target_of label (s ∷ ss) = if labels.eq s.label label then Some s.to else target_of label ss

-- where a call that was entered at a vertex goes on once it has returned
abbrev pub after_of : Offers → Vertex → ℕ → Option Vertex
after_of offers v edge = target_of (Over edge) (offers v)

-- ---- stacks

-- the last frame
abbrev pub top_frame : Vertex → Frame
top_frame v = record { vertex = v; call = None }

-- a frame below the last, which waits at a call
abbrev pub waiting_frame : Vertex → ℕ → Frame
waiting_frame v edge = record { vertex = v; call = Some edge }

abbrev pub rooted : Vertex → StackValue
rooted v = top_frame v ∷ []

-- a stack whose last frame is exchanged for those that it becomes
abbrev pub with_top : (Vertex → Option StackValue) → StackValue → Option StackValue
with_top becomes [] = None
with_top becomes (x ∷ []) = becomes x.vertex
with_top becomes (x ∷ y ∷ rest) = option_map (λ (new : StackValue). x ∷ new) (with_top becomes (y ∷ rest))

-- the vertex of the last frame
abbrev pub top_of : StackValue → Option Vertex
top_of [] = None
top_of (x ∷ []) = Some x.vertex
top_of (x ∷ y ∷ rest) = top_of (y ∷ rest)

-- where a frame that waits at a call goes on
abbrev pub goes_on : Offers → Vertex → Option ℕ → Option Vertex
goes_on offers v None = None
goes_on offers v (Some edge) = after_of offers v edge

-- The last frame is dropped and its caller goes on: it stands at node 1, the exit, and has a caller
-- that offers to go over the call.
abbrev pub left : Offers → StackValue → Option StackValue
left offers [] = None
left offers (x ∷ []) = None
left offers (x ∷ y ∷ []) = if nat_eq y.vertex.node 1 then option_map rooted (goes_on offers x.vertex x.call) else None
left offers (x ∷ y ∷ z ∷ rest) = option_map (λ (new : StackValue). x ∷ new) (left offers (y ∷ z ∷ rest))

-- The last frame is dropped and its caller goes on, wherever the frame stands.
abbrev pub returned : Offers → StackValue → Option StackValue
returned offers [] = None
returned offers (x ∷ []) = None
returned offers (x ∷ y ∷ []) = option_map rooted (goes_on offers x.vertex x.call)
returned offers (x ∷ y ∷ z ∷ rest) = option_map (λ (new : StackValue). x ∷ new) (returned offers (y ∷ z ∷ rest))

-- ---- following labels

-- The stack after a step with the label; none where the label isn't offered. Do and Over move the
-- last frame, Enter puts a frame on it, Thread goes on in the new thread alone.
abbrev pub moved : Offers → Label → StackValue → Option StackValue
moved offers (Do n) stack = with_top (λ v. option_map rooted (target_of (Do n) (offers v))) stack
moved offers (Over n) stack = with_top (λ v. option_map rooted (target_of (Over n) (offers v))) stack
moved offers (Enter n) stack = with_top (λ v. option_map (λ (to : Vertex). waiting_frame v n ∷ rooted to) (target_of (Enter n) (offers v))) stack
moved offers (Thread n) stack = option_map rooted (option_and_then (λ v. target_of (Thread n) (offers v)) (top_of stack))
moved offers Leave stack = left offers stack

-- the stack after steps with these labels; none where one isn't offered
abbrev pub moved_by_all : Offers → List Label → StackValue → Option StackValue
moved_by_all offers [] stack = Some stack
moved_by_all offers (label ∷ more) stack = option_and_then (λ next. moved_by_all offers more next) (moved offers label stack)

-- the stack to which labels lead from one frame
abbrev pub followed : Offers → Vertex → List Label → Option StackValue
followed offers root labels_taken = moved_by_all offers labels_taken (rooted root)

-- ---- a stack whose last frame is given apart

-- the frames after a step with the label from the last one's vertex
abbrev pub stepped_frames : Label → StackValue → Vertex → Vertex → StackValue
stepped_frames (Do n) below from to = below ++ rooted to
stepped_frames (Over n) below from to = below ++ rooted to
stepped_frames (Enter n) below from to = below ++ waiting_frame from n ∷ rooted to
stepped_frames (Thread n) below from to = rooted to
stepped_frames Leave below from to = below ++ rooted to

-- callers, of which the last goes on behind its call
abbrev pub gone_on : Offers → StackValue → Option StackValue
gone_on offers [] = None
gone_on offers (x ∷ []) = option_map rooted (goes_on offers x.vertex x.call)
gone_on offers (x ∷ y ∷ rest) = option_map (λ (new : StackValue). x ∷ new) (gone_on offers (y ∷ rest))
