-- What least chains are as a choice.
use Rattle.std.specs.Prelude.{◌≡◌, List}
use Rattle.gob_tree.specs.declared.graph.Program.{Program}
use Rattle.arg_graph.specs.Following.{Offers, StackValue}
use Rattle.arg_graph.specs.declared.vertex.Vertex.{Vertex}
use Rattle.arg_chain.specs.Chains.{IsLeastChain}

-- A vertex has at most one least chain.
abbrev pub LeastChainsAreOne : Type 0
LeastChainsAreOne =
    (p : Program) (vs : List Vertex) (offers : Offers) (v : Vertex) (one other : StackValue)
    → IsLeastChain p vs offers v one → IsLeastChain p vs offers v other → one ≡ other
