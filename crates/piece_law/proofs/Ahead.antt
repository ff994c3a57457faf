-- What comes next, with the graph that it is lowered to.
use Rattle.std.proofs.Common.{◌≡◌, ◌⊎◌, inl, inr, refl, sym, ap, subst, ℕ, ◌+◌, ◌≤◌, Bool, true, false, List, [], ◌∷◌, map, Option, None, Some, IsTrue, arith}
use Rattle.std.specs.Prelude.{◌&&◌}
use Rattle.std.specs.Option.{option_map, option_map_or}
use Rattle.gob_tree.specs.WellMade.{IsWellMadeFunction, form_of, is_made_expr, is_made_or_missing, expr_step}
use Rattle.gob_tree.specs.declared.place.Place.{Place}
use Rattle.gob_tree.specs.declared.expr.Expr.{Expr}
use Rattle.gob_tree.specs.declared.stmt.Stmt.{Stmt, If, While, DoWhile, For}
use Rattle.gob_tree.specs.declared.stmt.Stmt.TheOpen.{Stmt-F}
use Rattle.gob_tree.specs.declared.stmt.Stmt.TheVariants.{outs-If, outs-While, outs-DoWhile, outs-For}
use Rattle.gob_tree.specs.declared.stmt.Placed.{Placed}
use Rattle.gob_tree.specs.declared.unit.Function.{Function}
use Rattle.gob_tree.specs.declared.unit.Unit.{Unit as TranslationUnit}
use Rattle.gob_tree.specs.declared.graph.Action.TheVariants.{Guard, Skip}
use Rattle.c_meaning.specs.declared.config.Todo.{Todo}
use Rattle.c_meaning.specs.declared.config.Todo.TheVariants.{Stmt as Doing, Test, Last}
use Rattle.c_meaning.specs.Graph.{FlowGraph, Lowering, Route, condition, do_route, else_route, for_first, for_route, hoisted_expr, if_head, last_node, last_route, lowering_of, next_node, part_or_silent, then_route, while_head, while_route, with_marked, with_node}
use Rattle.c_meaning.specs.Tree.{after_break, after_continue, layer_of, test_exprs, turn_of}
use Rattle.c_meaning.proofs.Lowerings.{lowering-If, lowering-While, lowering-DoWhile, lowering-For}
use Rattle.graph_law.specs.Laying.{Extends, HasEdge, IsLastPart, last_of}
use Rattle.graph_law.specs.Lying.{at, start_of, for_condition, for_opened, Piece, then_part, else_part, while_body, do_body, for_body, TestsAt, at_while, at_do, at_for, without_first, without_last, LastAt, at_last, Lies, does, tests, lasts}
use Rattle.graph_law.proofs.Extending.{extends_guards, extends_node, extends_none, extends_then, lowerings_extend, part_extends}
use Rattle.graph_law.proofs.Laying.{guards_there, part_grows, skips_first, skips_last}
use Rattle.graph_law.proofs.Widening.{Grew, PartGrew, every_grew, expr_grew, first_grew, grew_guards, grew_node, grew_none, grew_then, lowerings_grow, part_grew}
use Rattle.graph_law.proofs.Decoding.{both_true}
use Rattle.gob_tree.proofs.Folds.{fold-Number}
use Rattle.hoist_law.specs.Hoisting.{Within}
use Rattle.hoist_law.proofs.Fetching.{within_before}
use Rattle.hoist_law.proofs.Pieces.{pieces_are_within}
use Rattle.piece_law.specs.Pieces.{MadePiece}
use Rattle.piece_law.proofs.Making.{for_goes, for_grew_to, for_parts, made_as, no_return, pieces_are_made}

-- ---- statements and last parts of `for`

-- A statement that comes next is lowered along a route, what comes after it lies where the route leads.
pub record Ahead (unit : TranslationUnit) (f : Function) (s : Placed) (rest : List Todo) (n : ℕ) : Type 0 where
  pub route : Route
  pub graph : FlowGraph
  pub begins : route.from ≡ n
  pub made : MadePiece unit f s route graph
  pub within : Within f ((lowering_of s).lower route graph)
  pub next : Lies f rest route.to
  pub breaks : Lies f (after_break rest) route.on_break
  pub continues : Lies f (after_continue rest) route.on_continue

within_as : (f : Function) (s : Placed) (l : Lowering) (r : Route) (d : FlowGraph) → lowering_of s ≡ l → Within f ((lowering_of s).lower r d) → Within f (l.lower r d)
within_as f s l r d is w = subst (λ (m : Lowering). Within f (m.lower r d)) is w

module _ (unit : TranslationUnit) (f : Function) (well : IsWellMadeFunction unit f) where
  pub ahead_stmt : (s : Placed) (rest : List Todo) (n : ℕ) → Lies f (Doing s ∷ rest) n → Ahead unit f s rest n
  ahead_stmt _ _ _ (does s rest r d piece to breaks continues) = record {
    route = r;
    graph = d;
    begins = refl;
    made = pieces_are_made unit f s r d well piece;
    within = pieces_are_within f s r d piece;
    next = to;
    breaks = breaks;
    continues = continues;
  }

  last_ahead : (l : Placed) (rest : List Todo) (r : Route) (d : FlowGraph) (n : ℕ) → Piece f l r d → Lies f rest r.to → LastAt l r d n → (last : Placed) × IsLastPart l last × IsTrue (form_of unit f last).heads_for × Ahead unit f last (Test l ∷ rest) n
  last_ahead _ rest r d _ piece to (at_last place first test last body _ _) =
      let own = at place (For first test (Some last) body) in
      let h = for_condition place first test r d in
      let head = for_opened place first test (Some last) body r d in
      let next : Lies f (Test own ∷ rest) (next_node d) = tests own rest r d (next_node d) piece (at_for place first test (Some last) body r d) to in
      let m = pieces_are_made unit f own r d well piece in
      let parts = for_parts unit f place first test (Some last) body m.inside m.made in
      let grew = for_grew_to unit f place first test (Some last) body r d in
      let n = m.nodes in
      let one = grew.0 in
      let two = grew.1 in
      let three = (lowerings_grow body (for_route r h) head).nodes in (
        last,
        last_of place first test last body,
        (parts.last_part last refl).1,
        record {
          route = last_route r (next_node d) h;
          graph = (lowering_of body).lower (for_route r h) head;
          begins = refl;
          made = record {
            inside = m.inside;
            made = (parts.last_part last refl).0;
            jumps = λ inner. (for_goes unit f place first test (Some last) body r m.goes_on, n);
            goes_on = inr n;
            begins = omega (arith, n, one);
            nodes = omega (arith, n, one, two, three);
          };
          within = within_as f own _ r d (lowering-For place first test (Some last) body) (pieces_are_within f own r d piece);
          next = next;
          breaks = to;
          continues = next;
        },
      )

  pub ahead_last : (l : Placed) (rest : List Todo) (n : ℕ) → Lies f (Last l ∷ rest) n → (last : Placed) × IsLastPart l last × IsTrue (form_of unit f last).heads_for × Ahead unit f last rest n
  ahead_last _ _ _ (lasts l rest r d n piece where_at to) = last_ahead l rest r d n piece to where_at

-- ---- conditions

-- the guards of a condition that is hoisted from a node, and what lies behind each
pub record Branches (unit : TranslationUnit) (f : Function) (e : Expr) (n : ℕ) (holds fails : List Todo) : Type 0 where
  pub place : Place
  pub graph : FlowGraph
  pub made : IsTrue (is_made_expr unit f e)
  pub nodes : 2 ≤ next_node graph
  pub within : Within f (hoisted_expr e place n graph).1.flow
  pub on_true : ℕ
  pub on_false : ℕ
  pub guard_true : HasEdge f false (hoisted_expr e place n graph).1.at (Guard (hoisted_expr e place n graph).0 true) on_true
  pub guard_false : HasEdge f false (hoisted_expr e place n graph).1.at (Guard (hoisted_expr e place n graph).0 false) on_false
  pub then_lies : Lies f holds on_true
  pub else_lies : Lies f fails on_false
  pub then_inside : 2 ≤ on_true
  pub else_inside : 2 ≤ on_false

module _ (unit : TranslationUnit) (f : Function) where
  branches_by : (e : Expr) (place : Place) (n : ℕ) (d : FlowGraph) (p q : ℕ) (opened : FlowGraph) (holds fails : List Todo) {l m : ℕ} → IsTrue (is_made_expr unit f e) → 2 ≤ next_node d
      → Extends (hoisted_expr e place n d).1.flow opened → Grew l m (hoisted_expr e place n d).1.flow opened
      → Within f (with_marked false (hoisted_expr e place n d).1.at (Guard (hoisted_expr e place n d).0 false) q (with_marked false (hoisted_expr e place n d).1.at (Guard (hoisted_expr e place n d).0 true) p opened))
      → Lies f holds p → Lies f fails q → 2 ≤ p → 2 ≤ q → Branches unit f e n holds fails
  branches_by e place n d p q opened holds fails {l} {m} made nodes low grew high a b p_in q_in =
      let h = hoisted_expr e place n d in
      let g = guards_there h.1.at h.0 p q opened f high.edges in
      let open_in = within_before f opened _ (extends_guards false h.1.at h.0 p q opened) (grew_guards false h.1.at h.0 p q opened) high in
      record {
        place = place;
        graph = d;
        made = made;
        nodes = nodes;
        within = within_before f h.1.flow opened low grew open_in;
        on_true = p;
        on_false = q;
        guard_true = g.0;
        guard_false = g.1;
        then_lies = a;
        else_lies = b;
        then_inside = p_in;
        else_inside = q_in;
      }

  module _ (well : IsWellMadeFunction unit f) where
    pub if_branches : (place : Place) (e : Expr) (a : Placed) (b : Option Placed) (rest : List Todo) (n : ℕ) → Lies f (Doing (at place (If e a b)) ∷ rest) n
        → Branches unit f e n (Doing a ∷ rest) (option_map_or (λ other. Doing other ∷ rest) b rest)
    if_branches place e a None _ _ (does _ rest r d piece to breaks continues) =
        let own = at place (If e a None) in
        let h = hoisted_expr e place r.from d in
        let head = if_head (start_of a) None r.to h in
        let m = pieces_are_made unit f own r d well piece in
        let mine = made_as unit f own (Stmt-F.If e a None) m.inside (outs-If e a None) m.made in
        let n = m.nodes in
        let one = (expr_grew e place r.from d).nodes in
        branches_by e place r.from d (next_node h.1.flow) r.to (with_node (start_of a) h.1.flow) (Doing a ∷ rest) rest
        (both_true (is_made_expr unit f e) ((form_of unit f a).made m.inside) (both_true (is_made_expr unit f e && (form_of unit f a).made m.inside) true mine).0).0 n
        (extends_node (start_of a) h.1.flow) (grew_node (start_of a) h.1.flow)
        (within_before f head _ (lowerings_extend a (then_route r h) head) (lowerings_grow a (then_route r h) head) (within_as f own _ r d (lowering-If place e a None) (pieces_are_within f own r d piece)))
        (does a rest (then_route r h) _ (then_part place e a None r d piece) to breaks continues)
        to (omega (arith, n, one)) (no_return unit f own (Stmt-F.If e a None) r (outs-If e a None) refl m.goes_on)
    if_branches place e a (Some b) _ _ (does _ rest r d piece to breaks continues) =
        let own = at place (If e a (Some b)) in
        let h = hoisted_expr e place r.from d in
        let head = if_head (start_of a) (Some (start_of b)) r.to h in
        let mid = (lowering_of a).lower (then_route r h) head in
        let m = pieces_are_made unit f own r d well piece in
        let mine = made_as unit f own (Stmt-F.If e a (Some b)) m.inside (outs-If e a (Some b)) m.made in
        let n = m.nodes in
        let one = (expr_grew e place r.from d).nodes in
        let first = with_node (start_of a) h.1.flow in
        branches_by e place r.from d (next_node h.1.flow) (next_node h.1.flow + 1) (with_node (start_of b) first) (Doing a ∷ rest) (Doing b ∷ rest)
        (both_true (is_made_expr unit f e) ((form_of unit f a).made m.inside) (both_true (is_made_expr unit f e && (form_of unit f a).made m.inside) ((form_of unit f b).made m.inside) mine).0).0 n
        (extends_then h.1.flow first _ (extends_node (start_of a) h.1.flow) (extends_node (start_of b) first)) (grew_then (grew_node (start_of a) h.1.flow) (grew_node (start_of b) first))
        (within_before f head mid (lowerings_extend a (then_route r h) head) (lowerings_grow a (then_route r h) head)
        (within_before f mid _ (lowerings_extend b (else_route r h) mid) (lowerings_grow b (else_route r h) mid) (within_as f own _ r d (lowering-If place e a (Some b)) (pieces_are_within f own r d piece))))
        (does a rest (then_route r h) _ (then_part place e a (Some b) r d piece) to breaks continues)
        (does b rest (else_route r h) _ (else_part place e a b r d piece) to breaks continues)
        (omega (arith, n, one)) (omega (arith, n, one))

    while_at : (place : Place) (e : Expr) (b : Placed) (rest : List Todo) (r : Route) (d : FlowGraph) → Piece f (at place (While e b)) r d → Lies f rest r.to
        → Branches unit f e r.from (Doing b ∷ Test (at place (While e b)) ∷ rest) rest
    while_at place e b rest r d piece to =
        let own = at place (While e b) in
        let h = hoisted_expr e place r.from d in
        let head = while_head (start_of b) r.to h in
        let m = pieces_are_made unit f own r d well piece in
        let mine = made_as unit f own (Stmt-F.While e b) m.inside (outs-While e b) m.made in
        let n = m.nodes in
        let one = (expr_grew e place r.from d).nodes in
        let test : Lies f (Test own ∷ rest) r.from = tests own rest r d r.from piece (at_while place e b r d) to in
        branches_by e place r.from d (next_node h.1.flow) r.to (with_node (start_of b) h.1.flow) (Doing b ∷ Test own ∷ rest) rest
        (both_true (is_made_expr unit f e) ((form_of unit f b).made true) mine).0 n
        (extends_node (start_of b) h.1.flow) (grew_node (start_of b) h.1.flow)
        (within_before f head _ (lowerings_extend b (while_route r h) head) (lowerings_grow b (while_route r h) head) (within_as f own _ r d (lowering-While place e b) (pieces_are_within f own r d piece)))
        (does b (Test own ∷ rest) (while_route r h) _ (while_body place e b r d piece) test to test)
        to (omega (arith, n, one)) (no_return unit f own (Stmt-F.While e b) r (outs-While e b) refl m.goes_on)

    pub while_branches : (place : Place) (e : Expr) (b : Placed) (rest : List Todo) (n : ℕ) → Lies f (Doing (at place (While e b)) ∷ rest) n → Branches unit f e n (Doing b ∷ Test (at place (While e b)) ∷ rest) rest
    while_branches place e b _ _ (does _ rest r d piece to breaks continues) = while_at place e b rest r d piece to

    do_at : (place : Place) (b : Placed) (e : Expr) (rest : List Todo) (r : Route) (d : FlowGraph) → Piece f (at place (DoWhile b e)) r d → Lies f rest r.to
        → Branches unit f e (next_node d) (Doing b ∷ Test (at place (DoWhile b e)) ∷ rest) rest
    do_at place b e rest r d piece to =
        let own = at place (DoWhile b e) in
        let mid = (lowering_of b).lower (do_route r (next_node d)) (with_node place d) in
        let h = hoisted_expr e place (next_node d) mid in
        let m = pieces_are_made unit f own r d well piece in
        let mine = made_as unit f own (Stmt-F.DoWhile b e) m.inside (outs-DoWhile b e) m.made in
        let n = m.nodes in
        let one = (grew_node place d).nodes in
        let two = (lowerings_grow b (do_route r (next_node d)) (with_node place d)).nodes in
        let test : Lies f (Test own ∷ rest) (next_node d) = tests own rest r d (next_node d) piece (at_do place e b r d) to in
        branches_by e place (next_node d) mid r.from r.to h.1.flow (Doing b ∷ Test own ∷ rest) rest
        (both_true ((form_of unit f b).made true) (is_made_expr unit f e) mine).1 (omega (arith, n, one, two))
        (extends_none h.1.flow) (grew_none h.1.flow)
        (within_as f own _ r d (lowering-DoWhile place b e) (pieces_are_within f own r d piece))
        (does b (Test own ∷ rest) (do_route r (next_node d)) (with_node place d) (do_body place e b r d piece) test to test)
        to m.begins (no_return unit f own (Stmt-F.DoWhile b e) r (outs-DoWhile b e) refl m.goes_on)

    -- ---- `for`

    part_widens : (last : Option Placed) → PartGrew (option_map lowering_of last)
    part_widens None = tt
    part_widens (Some l) = lowerings_grow l

    for_whole : (place : Place) (first : List Placed) (test : Option Expr) (last : Option Placed) (b : Placed) (r : Route) (d : FlowGraph) → Piece f (at place (For first test last b)) r d
        → Within f (part_or_silent (option_map lowering_of last) (last_route r (next_node d) (for_condition place first test r d)) ((lowering_of b).lower (for_route r (for_condition place first test r d)) (for_opened place first test last b r d)))
    for_whole place first test None b r d piece = within_as f _ _ r d (lowering-For place first test None b) (pieces_are_within f (at place (For first test None b)) r d piece)
    for_whole place first test (Some last) b r d piece = within_as f _ _ r d (lowering-For place first test (Some last) b) (pieces_are_within f (at place (For first test (Some last) b)) r d piece)

    condition_made : (test : Option Expr) → IsTrue (is_made_or_missing unit f test) → IsTrue (is_made_expr unit f (condition test))
    condition_made None h = subst IsTrue (sym (fold-Number Bool (expr_step unit f) _ _)) refl
    condition_made (Some e) h = h

    for_at : (place : Place) (first : List Placed) (test : Option Expr) (last : Option Placed) (b : Placed) (rest : List Todo) (r : Route) (d : FlowGraph) (holds : List Todo) → Piece f (at place (For first test last b)) r d
        → Lies f holds (next_node (for_condition place first test r d).1.flow) → Lies f rest r.to → Branches unit f (condition test) (next_node d) holds rest
    for_at place first test last b rest r d holds piece a to =
        let own = at place (For first test last b) in
        let begun = for_first (map lowering_of first) place r d in
        let h = for_condition place first test r d in
        let head = for_opened place first test last b r d in
        let mid = (lowering_of b).lower (for_route r h) head in
        let last_start = option_map_or start_of last place in
        let m = pieces_are_made unit f own r d well piece in
        let parts = for_parts unit f place first test last b m.inside m.made in
        let n = m.nodes in
        let grew = for_grew_to unit f place first test last b r d in
        let low = grew.0 in
        let begun_nodes = (first_grew (map lowering_of first) (every_grew first) place r d).nodes in
        let opened = with_node (start_of b) h.1.flow in
        branches_by (condition test) place (next_node d) begun (next_node h.1.flow) r.to (with_node last_start opened) holds rest
        (condition_made test parts.condition) (omega (arith, n, begun_nodes))
        (extends_then h.1.flow opened _ (extends_node (start_of b) h.1.flow) (extends_node last_start opened)) (grew_then (grew_node (start_of b) h.1.flow) (grew_node last_start opened))
        (within_before f head mid (lowerings_extend b (for_route r h) head) (lowerings_grow b (for_route r h) head)
        (within_before f mid _ (part_extends (option_map lowering_of last) (part_grows last) (last_route r (next_node d) h) mid) (part_grew (option_map lowering_of last) (part_widens last) (last_route r (next_node d) h) mid)
        (for_whole place first test last b r d piece)))
        a to (omega (arith, n, low)) (for_goes unit f place first test last b r m.goes_on)

    -- ---- tests

    -- a loop's test at a node: its condition, with the body behind it or what comes after the loop
    pub record Tried (l : Placed) (rest : List Todo) (h : ℕ) : Type 0 where
      pub condition : Expr
      pub exprs : test_exprs (layer_of l) ≡ condition ∷ []
      pub branches : Branches unit f condition h (turn_of (layer_of l) l rest) rest

    exprs_for : (place : Place) (first : List Placed) (test : Option Expr) (last : Option Placed) (b : Placed) → test_exprs (layer_of (at place (For first test last b))) ≡ condition test ∷ []
    exprs_for place first None last b = ap test_exprs (outs-For first None last b)
    exprs_for place first (Some e) last b = ap test_exprs (outs-For first (Some e) last b)

    for_tried : (place : Place) (first : List Placed) (test : Option Expr) (last : Option Placed) (b : Placed) (rest : List Todo) (r : Route) (d : FlowGraph) → Piece f (at place (For first test last b)) r d → Lies f rest r.to
        → Tried (at place (For first test last b)) rest (next_node d)
    for_tried place first test None b rest r d piece to =
        let own = at place (For first test None b) in
        let h = for_condition place first test r d in
        let back : Lies f (Test own ∷ rest) (last_node h) = tests own rest r d (last_node h) piece (without_last place first test b r d) to in
        let turn : Lies f (Doing b ∷ Test own ∷ rest) (next_node h.1.flow) = does b (Test own ∷ rest) (for_route r h) _ (for_body place first test None b r d piece) back to back in
        record {
          condition = condition test;
          exprs = exprs_for place first test None b;
          branches = for_at place first test None b rest r d (turn_of (layer_of own) own rest) piece
              (subst (λ (x : Stmt-F Stmt Placed). Lies f (turn_of x own rest) (next_node h.1.flow)) (sym (outs-For first test None b)) turn) to;
        }
    for_tried place first test (Some last) b rest r d piece to =
        let own = at place (For first test (Some last) b) in
        let h = for_condition place first test r d in
        let back : Lies f (Last own ∷ Test own ∷ rest) (last_node h) = lasts own rest r d (last_node h) piece (at_last place first test last b r d) to in
        let turn : Lies f (Doing b ∷ Last own ∷ Test own ∷ rest) (next_node h.1.flow) = does b (Last own ∷ Test own ∷ rest) (for_route r h) _ (for_body place first test (Some last) b r d piece) back to back in
        record {
          condition = condition test;
          exprs = exprs_for place first test (Some last) b;
          branches = for_at place first test (Some last) b rest r d (turn_of (layer_of own) own rest) piece
              (subst (λ (x : Stmt-F Stmt Placed). Lies f (turn_of x own rest) (next_node h.1.flow)) (sym (outs-For first test (Some last) b)) turn) to;
        }

    tried_at : (l : Placed) (rest : List Todo) (r : Route) (d : FlowGraph) (n : ℕ) → Piece f l r d → Lies f rest r.to → TestsAt l r d n → (h : ℕ) × ((h ≡ n) ⊎ HasEdge f true n Skip h) × Tried l rest h
    tried_at _ rest r d _ piece to (at_while place e b _ _) =
        let own = at place (While e b) in (
          r.from,
          inl refl,
          record {
            condition = e;
            exprs = ap test_exprs (outs-While e b);
            branches = subst (λ (x : Stmt-F Stmt Placed). Branches unit f e r.from (turn_of x own rest) rest) (sym (outs-While e b)) (while_at place e b rest r d piece to);
          },
        )
    tried_at _ rest r d _ piece to (at_do place e b _ _) =
        let own = at place (DoWhile b e) in (
          next_node d,
          inl refl,
          record {
            condition = e;
            exprs = ap test_exprs (outs-DoWhile b e);
            branches = subst (λ (x : Stmt-F Stmt Placed). Branches unit f e (next_node d) (turn_of x own rest) rest) (sym (outs-DoWhile b e)) (do_at place b e rest r d piece to);
          },
        )
    tried_at _ rest r d _ piece to (at_for place first test last b _ _) = (next_node d, inl refl, for_tried place first test last b rest r d piece to)
    tried_at _ rest r d _ piece to (without_first place test last b _ _) = (next_node d, inr (skips_first f place test last b r d piece), for_tried place [] test last b rest r d piece to)
    tried_at _ rest r d _ piece to (without_last place first test b _ _) = (next_node d, inr (skips_last f place first test b r d piece), for_tried place first test None b rest r d piece to)

    pub tests_tried : (l : Placed) (rest : List Todo) (n : ℕ) → Lies f (Test l ∷ rest) n → (h : ℕ) × ((h ≡ n) ⊎ HasEdge f true n Skip h) × Tried l rest h
    tests_tried _ _ _ (tests l rest r d n piece where_at to) = tried_at l rest r d n piece to where_at
