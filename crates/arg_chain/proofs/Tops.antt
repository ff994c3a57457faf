-- The last frame of a chain.
use Rattle.std.proofs.Common.{◌≡◌, List, [], ◌∷◌, Some, ap}
use Rattle.gob_tree.specs.declared.graph.Program.{Program}
use Rattle.arg_graph.specs.Following.{Offers, StackValue, top_of}
use Rattle.arg_graph.specs.declared.stack.Frame.{Frame}
use Rattle.arg_graph.specs.declared.vertex.Vertex.{Vertex}
use Rattle.arg_chain.specs.Chains.{CallsTo, IsLeastChain}

chain_top : (offers : Offers) (stack : StackValue) (v : Vertex) → CallsTo offers stack v → top_of stack ≡ Some v
chain_top offers [] v calls = absurd calls
chain_top offers (x ∷ []) v calls = ap (λ (f : Frame). Some f.vertex) calls
chain_top offers (x ∷ y ∷ rest) v calls = chain_top offers (y ∷ rest) v calls.1

pub least_top : (p : Program) (vs : List Vertex) (offers : Offers) (v : Vertex) (stack : StackValue) → IsLeastChain p vs offers v stack → top_of stack ≡ Some v
least_top p vs offers v stack least = chain_top offers stack v least.chain.calls
