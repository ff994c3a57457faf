-- What is met while a body is lowered is on the way to the function's graph, temporaries too.
use Rattle.std.proofs.Common.{◌≡◌, sym, subst, false, List, [], ◌∷◌, map, Option, None, Some}
use Rattle.std.specs.Option.{option_map}
use Rattle.std.proofs.lemmas.List.{append-nil}
use Rattle.gob_tree.specs.declared.place.Place.{Place}
use Rattle.gob_tree.specs.declared.expr.Expr.{Expr}
use Rattle.gob_tree.specs.declared.stmt.Stmt.{If}
use Rattle.gob_tree.specs.declared.stmt.Placed.{Placed}
use Rattle.gob_tree.specs.declared.unit.Function.{Function}
use Rattle.c_meaning.specs.Graph.{FlowGraph, Lowering, Route, body_route, do_flow, do_route, else_route, first_flow, flow_of, for_first, for_route, hoisted_expr, if_head, last_route, lowering_of, next_node, route_from, route_to, sequence, then_route, with_node}
use Rattle.c_meaning.proofs.Lowerings.{lowering-If, lowering-While, lowering-DoWhile, lowering-For, lowering-Block}
use Rattle.graph_law.specs.Lying.{at, start_of, for_condition, for_opened, Piece, alone, first_of, then_part, else_part, while_body, do_body, for_body, Series, body, behind, in_block, for_firsts}
use Rattle.graph_law.proofs.Extending.{PartExtends, do_rest_extends, every_extends, extends_none, for_rest_extends, lowerings_extend, part_extends, sequence_extends}
use Rattle.graph_law.proofs.Widening.{PartGrew, every_grew, expr_grew, for_grew, grew_guards, grew_then, lowerings_grow, part_grew, sequence_grew}
use Rattle.hoist_law.specs.Hoisting.{Within}
use Rattle.hoist_law.specs.Laws.{PiecesAreWithin}
use Rattle.hoist_law.proofs.Fetching.{within_before}

part_extends_of : (last : Option Placed) → PartExtends (option_map lowering_of last)
part_extends_of None = tt
part_extends_of (Some l) = lowerings_extend l

part_grows_of : (last : Option Placed) → PartGrew (option_map lowering_of last)
part_grows_of None = tt
part_grows_of (Some l) = lowerings_grow l

within_as : (f : Function) (s : Placed) (l : Lowering) (r : Route) (d : FlowGraph) → lowering_of s ≡ l → Within f ((lowering_of s).lower r d) → Within f (l.lower r d)
within_as f s l r d e x = subst (λ (m : Lowering). Within f (m.lower r d)) e x

-- what is behind a `do`'s body
do_within : (f : Function) (b : Lowering) (e : Expr) (place : Place) (r : Route) (d : FlowGraph) → Within f (do_flow b e place r d) → Within f (b.lower (do_route r (next_node d)) (with_node place d))
do_within f b e place r d w =
    let inside = b.lower (do_route r (next_node d)) (with_node place d) in
    let h = hoisted_expr e place (next_node d) inside in
    within_before f inside (do_flow b e place r d) (do_rest_extends b e place r d) (grew_then (expr_grew e place (next_node d) inside) (grew_guards false h.1.at h.0 r.from r.to h.1.flow)) w

module _ (f : Function) where
  mutual
    piece_within : (s : Placed) (r : Route) (d : FlowGraph) → Piece f s r d → Within f ((lowering_of s).lower r d)
    piece_within _ _ _ (alone s r d series) = series_within (s ∷ []) r d series
    piece_within _ _ _ (first_of s s' ss r d series) =
        let mid = (lowering_of s).lower (route_to (next_node d) r) (with_node (start_of s') d) in
        within_before f mid _ (sequence_extends (map lowering_of (s' ∷ ss)) (every_extends (s' ∷ ss)) (route_from (next_node d) r) mid)
        (sequence_grew (map lowering_of (s' ∷ ss)) (every_grew (s' ∷ ss)) (route_from (next_node d) r) mid) (series_within (s ∷ s' ∷ ss) r d series)
    piece_within _ _ _ (then_part place e a None r d piece) = within_as f _ _ r d (lowering-If place e a None) (piece_within (at place (If e a None)) r d piece)
    piece_within _ _ _ (then_part place e a (Some b) r d piece) =
        let h = hoisted_expr e place r.from d in
        let mid = (lowering_of a).lower (then_route r h) (if_head (start_of a) (Some (start_of b)) r.to h) in
        within_before f mid _ (lowerings_extend b (else_route r h) mid) (lowerings_grow b (else_route r h) mid)
        (within_as f _ _ r d (lowering-If place e a (Some b)) (piece_within (at place (If e a (Some b))) r d piece))
    piece_within _ _ _ (else_part place e a b r d piece) = within_as f _ _ r d (lowering-If place e a (Some b)) (piece_within (at place (If e a (Some b))) r d piece)
    piece_within _ _ _ (while_body place e b r d piece) = within_as f _ _ r d (lowering-While place e b) (piece_within _ r d piece)
    piece_within _ _ _ (do_body place e b r d piece) = do_within f (lowering_of b) e place r d (within_as f _ _ r d (lowering-DoWhile place b e) (piece_within _ r d piece))
    piece_within _ _ _ (for_body place first test None b r d piece) =
        let h = for_condition place first test r d in
        let mid = (lowering_of b).lower (for_route r h) (for_opened place first test None b r d) in
        within_before f mid _ (part_extends None tt (last_route r (next_node d) h) mid) (part_grew None tt (last_route r (next_node d) h) mid)
        (within_as f _ _ r d (lowering-For place first test None b) (piece_within _ r d piece))
    piece_within _ _ _ (for_body place first test (Some last) b r d piece) =
        let h = for_condition place first test r d in
        let mid = (lowering_of b).lower (for_route r h) (for_opened place first test (Some last) b r d) in
        within_before f mid _ (part_extends (Some (lowering_of last)) (lowerings_extend last) (last_route r (next_node d) h) mid) (part_grew (Some (lowering_of last)) (lowerings_grow last) (last_route r (next_node d) h) mid)
        (within_as f _ _ r d (lowering-For place first test (Some last) b) (piece_within _ r d piece))

    series_within : (ss : List Placed) (r : Route) (d : FlowGraph) → Series f ss r d → Within f (sequence (map lowering_of ss) r d)
    series_within _ _ _ body = record {
      named = (sequence_grew (map lowering_of f.body) (every_grew f.body) body_route (first_flow f)).named;
      edges = extends_none (flow_of f);
      more = [];
      temps = sym (append-nil (flow_of f).temps);
    }
    series_within _ _ _ (behind s s' ss r d series) = series_within (s ∷ s' ∷ ss) r d series
    series_within _ _ _ (in_block place all r d piece) = within_as f _ _ r d (lowering-Block place all) (piece_within _ r d piece)
    series_within _ _ _ (for_firsts place s ss test last b r d piece) =
        let begun = for_first (map lowering_of (s ∷ ss)) place r d in
        within_before f _ _ (for_rest_extends test (option_map lowering_of last) (lowering_of b) (part_extends_of last) (lowerings_extend b) place (next_node d) r begun)
        (for_grew test (option_map lowering_of last) (lowering_of b) (part_grows_of last) (lowerings_grow b) place (next_node d) r begun)
        (within_as f _ _ r d (lowering-For place (s ∷ ss) test last b) (piece_within _ r d piece))

pub pieces_are_within : PiecesAreWithin
pieces_are_within f s r d piece = piece_within f s r d piece
