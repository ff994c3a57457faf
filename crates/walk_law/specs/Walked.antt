-- The walk of a thread over the offered steps, and the stack that stands for its frames.
--
-- A reader should check: which step each label of a walk is, where a thread's walk begins, and that
-- a stack has a frame's function, node and call edge for each frame, the first frame first.
use Rattle.std.specs.Prelude.{ℕ, List, [], ◌∷◌, ◌++◌, map}
use Rattle.c_meaning.specs.GraphStep as Graph
use Rattle.c_meaning.specs.Walk.{Move, labels_by}
use Rattle.constraint_sys.specs.declared.unknown.Key.{Key}
use Rattle.arg_graph.specs.declared.vertex.Label.{Label}
use Rattle.arg_graph.specs.declared.vertex.Label.TheVariants.{Do, Enter, Leave}
use Rattle.arg_graph.specs.declared.vertex.Vertex.{Vertex}
use Rattle.arg_graph.specs.Following.{StackValue}
use Rattle.arg_graph.specs.Vertices.{start_in, vertex_at}

-- a label of a walk, as the label of an offered step
abbrev pub step_label : Graph.Label → Label
step_label (Graph.Do edge) = Do edge
step_label (Graph.Enter edge) = Enter edge
step_label Graph.Leave = Leave

-- the walk of a thread: the labels that it takes, in order
abbrev pub walk_by : ℕ → List Move → List Label
walk_by thread moves = map step_label (labels_by thread moves)

-- where the walk of a thread with these frames begins: at the start of its first frame's function,
-- which is `main` or the thread's own
abbrev pub root_of : List Graph.Frame → Vertex
root_of [] = start_in 0
root_of (frame ∷ []) = start_in frame.func
root_of (frame ∷ caller ∷ below) = root_of (caller ∷ below)

-- the stack of frames in contexts, of which the topmost ones come first: each at its function and
-- node, with the call edge at which it waits
abbrev pub stack_of : List Graph.Frame → List Key → StackValue
stack_of [] keys = []
stack_of (frame ∷ below) [] = []
stack_of (frame ∷ below) (key ∷ keys) = stack_of below keys ++ record { vertex = vertex_at frame.func key frame.node; call = frame.waits } ∷ []
