use Rattle.std.proofs.Common.{◌≡◌, ◌++◌, drop}
use Rattle.std.specs.List.{flat_map}
use Rattle.arg_graph.specs.Vertices.{vertex_of}
use Rattle.arg_graph.proofs.graph.vertices.Given as goal

abbrev pub invariant-loop-u : goal.invariant-loop-u
invariant-loop-u l = l.vertices ++ flat_map (vertex_of l.table) (drop l.u-index l.order) ≡ flat_map (vertex_of l.table) l.order
