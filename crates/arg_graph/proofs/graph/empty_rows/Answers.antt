use Rattle.std.proofs.Common.{◌≡◌, ◌∙◌, ◌+◌, ◌++◌, ◌∷◌, [], ℕ, List, length, ap}
use Rattle.std.proofs.lemmas.List.{length_push}
use Rattle.arg_graph.specs.Graphs.{row_for}
use Rattle.arg_graph.specs.declared.vertex.Vertex.{Vertex}
use Rattle.arg_graph.proofs.NodeRows.{empty_more}
use Rattle.arg_graph.proofs.graph.empty_rows.Goals as goal

pub loop-i-preserved : goal.loop-i-preserved
loop-i-preserved c =
    let old = c.loop-i.rows.items in
    let is : c.push.new.self.items ≡ old ++ [] ∷ [] = c.in_ok-push.ensures.items ∙ ap (λ (x : List Vertex). old ++ x ∷ []) c.new.ensures in
    record {
      counted = ap (λ (l : List (List Vertex)). length l) is ∙ length_push old [] ∙ ap (λ (n : ℕ). n + 1) c.loop-i.invariant.counted;
      empty = λ node. ap (λ (l : List (List Vertex)). row_for l node) is ∙ empty_more old c.loop-i.invariant.empty node;
    }
