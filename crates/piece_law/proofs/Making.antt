-- What is met while a well-made body is lowered may stand there.
use Rattle.std.proofs.Common.{◌≡◌, ◌⊎◌, inl, inr, ◌∙◌, refl, sym, ap, subst, ◌+◌, ◌≤◌, Bool, true, false, List, [], ◌∷◌, map, Option, None, Some, IsTrue, arith, true≢false}
use Rattle.std.specs.Prelude.{◌&&◌}
use Rattle.std.specs.List.{list_all}
use Rattle.std.specs.Option.{option_map_or}
use Rattle.gob_tree.specs.WellMade.{IsWellMadeFunction, StmtForm, ends_in_return, form_of, form_step, is_head_part, is_made_expr, is_made_or_missing, is_return, is_return_step}
use Rattle.gob_tree.specs.declared.place.Place.{Place}
use Rattle.gob_tree.specs.declared.expr.Expr.{Expr}
use Rattle.gob_tree.specs.declared.stmt.Stmt.{Stmt, If, While, DoWhile, For, Block}
use Rattle.gob_tree.specs.declared.stmt.Stmt.TheOpen.{Stmt-F}
use Rattle.gob_tree.specs.declared.stmt.Stmt.TheVariants.{outs-If, outs-While, outs-DoWhile, outs-For, outs-Block}
use Rattle.gob_tree.specs.declared.stmt.Placed.{Placed}
use Rattle.gob_tree.specs.declared.unit.Function.{Function}
use Rattle.gob_tree.specs.declared.unit.Unit.{Unit as TranslationUnit}
use Rattle.gob_tree.proofs.Induct.{Each}
use Rattle.c_meaning.specs.Graph.{FlowGraph, Route, condition, for_first, hoisted_expr, if_head, lowering_of, next_node, route_to, then_route, with_node}
use Rattle.c_meaning.specs.Tree.{layer_of}
use Rattle.c_meaning.proofs.Growth.{node_more}
use Rattle.graph_law.specs.Lying.{at, start_of, for_condition, for_opened, Piece, alone, first_of, then_part, else_part, while_body, do_body, for_body, Series, body, behind, in_block, for_firsts}
use Rattle.graph_law.proofs.Decoding.{both_true, each_from_all}
use Rattle.graph_law.proofs.Fitting.{by_parts}
use Rattle.graph_law.proofs.Statements.{nothing_leaves_exit}
use Rattle.graph_law.proofs.Widening.{every_grew, expr_grew, first_grew, lowerings_grow, one_head_grew, two_heads_grew}
use Rattle.piece_law.specs.Pieces.{MadePiece, NothingLeavesExits, PiecesAreMade}
use Rattle.piece_law.proofs.Forms.{formed, forms_in}

pub nothing_leaves_exits : NothingLeavesExits
nothing_leaves_exits f = nothing_leaves_exit f

module _ (unit : TranslationUnit) (f : Function) where
  abbrev Made : Bool → Placed → Type 0
  Made inside s = IsTrue ((form_of unit f s).made inside)

  -- what is known of a list of statements
  record MadeSeries (ss : List Placed) (r : Route) (d : FlowGraph) : Type 0 where
    inside : Bool
    made : Each (Made inside) ss
    jumps : inside ≡ true → (2 ≤ r.on_break) × (2 ≤ r.on_continue)
    ends : (ends_in_return ss ≡ true) ⊎ (2 ≤ r.to)
    begins : 2 ≤ r.from
    nodes : 2 ≤ next_node d

  -- ---- parts of a form

  pub made_as : (s : Placed) (l : Stmt-F Stmt Placed) (inside : Bool) → layer_of s ≡ l → Made inside s → IsTrue ((form_step unit f (forms_in unit f l)).made inside)
  made_as s l inside is h = subst (λ (m : StmtForm). IsTrue (m.made inside)) (formed unit f s l is) h

  pub no_return : (s : Placed) (l : Stmt-F Stmt Placed) (r : Route) → layer_of s ≡ l → is_return_step l ≡ false → (is_return s ≡ true) ⊎ (2 ≤ r.to) → 2 ≤ r.to
  no_return s l r is not either = elim either [
    | inl returns ↦ absurd (true≢false (sym returns ∙ ap is_return_step is ∙ not))
    | inr goes ↦ goes
  ]

  if_parts : (place : Place) (e : Expr) (a : Placed) (b : Option Placed) (inside : Bool) → Made inside (at place (If e a b)) → Made inside a
  if_parts place e a None inside h =
      let m = made_as (at place (If e a None)) (Stmt-F.If e a None) inside (outs-If e a None) h in
      (both_true (is_made_expr unit f e) ((form_of unit f a).made inside) (both_true (is_made_expr unit f e && (form_of unit f a).made inside) true m).0).1
  if_parts place e a (Some b) inside h =
      let m = made_as (at place (If e a (Some b))) (Stmt-F.If e a (Some b)) inside (outs-If e a (Some b)) h in
      (both_true (is_made_expr unit f e) ((form_of unit f a).made inside) (both_true (is_made_expr unit f e && (form_of unit f a).made inside) ((form_of unit f b).made inside) m).0).1

  else_made : (place : Place) (e : Expr) (a b : Placed) (inside : Bool) → Made inside (at place (If e a (Some b))) → Made inside b
  else_made place e a b inside h =
      let m = made_as (at place (If e a (Some b))) (Stmt-F.If e a (Some b)) inside (outs-If e a (Some b)) h in
      (both_true (is_made_expr unit f e && (form_of unit f a).made inside) ((form_of unit f b).made inside) m).1

  heads_made : (inside : Bool) (ss : List Placed) → IsTrue (list_all (is_head_part inside) (map (form_of unit f) ss)) → Each (Made inside) ss
  heads_made inside [] h = tt
  heads_made inside (s ∷ ss) h =
      let b = both_true (is_head_part inside (form_of unit f s)) (list_all (is_head_part inside) (map (form_of unit f) ss)) h in
      ((both_true (form_of unit f s).heads_for ((form_of unit f s).made inside) b.0).1, heads_made inside ss b.1)

  all_made : (inside : Bool) (ss : List Placed) → IsTrue (list_all (λ (s : StmtForm). s.made inside) (map (form_of unit f) ss)) → Each (Made inside) ss
  all_made inside [] h = tt
  all_made inside (s ∷ ss) h = let b = both_true ((form_of unit f s).made inside) (list_all (λ (x : StmtForm). x.made inside) (map (form_of unit f) ss)) h in (b.0, all_made inside ss b.1)

  -- the parts of a `for`: the first ones, the condition, the last one, the body
  pub record ForParts (first : List Placed) (test : Option Expr) (last : Option Placed) (b : Placed) (inside : Bool) : Type 0 where
    pub firsts : Each (Made inside) first
    pub condition : IsTrue (is_made_or_missing unit f test)
    pub last_part : (s : Placed) → last ≡ Some s → Made inside s × IsTrue (form_of unit f s).heads_for
    pub turn : Made true b

  pub for_parts : (place : Place) (first : List Placed) (test : Option Expr) (last : Option Placed) (b : Placed) (inside : Bool) → Made inside (at place (For first test last b)) → ForParts first test last b inside
  for_parts place first test None b inside h =
      let m = made_as (at place (For first test None b)) (Stmt-F.For first test None b) inside (outs-For first test None b) h in
      let heads = list_all (is_head_part inside) (map (form_of unit f) first) in
      let one = both_true (heads && is_made_or_missing unit f test && true) ((form_of unit f b).made true) m in
      let two = both_true (heads && is_made_or_missing unit f test) true one.0 in
      let three = both_true heads (is_made_or_missing unit f test) two.0 in
      record { firsts = heads_made inside first three.0; condition = three.1; last_part = λ s none. absurd (cc); turn = one.1 }
  for_parts place first test (Some last) b inside h =
      let m = made_as (at place (For first test (Some last) b)) (Stmt-F.For first test (Some last) b) inside (outs-For first test (Some last) b) h in
      let heads = list_all (is_head_part inside) (map (form_of unit f) first) in
      let one = both_true (heads && is_made_or_missing unit f test && is_head_part inside (form_of unit f last)) ((form_of unit f b).made true) m in
      let two = both_true (heads && is_made_or_missing unit f test) (is_head_part inside (form_of unit f last)) one.0 in
      let three = both_true heads (is_made_or_missing unit f test) two.0 in
      let head = both_true (form_of unit f last).heads_for ((form_of unit f last).made inside) two.1 in
      record {
        firsts = heads_made inside first three.0;
        condition = three.1;
        last_part = λ s same. (let it : last ≡ s = cc in subst (λ (x : Placed). Made inside x × IsTrue (form_of unit f x).heads_for) it (head.1, head.0));
        turn = one.1;
      }

  pub for_goes : (place : Place) (first : List Placed) (test : Option Expr) (last : Option Placed) (b : Placed) (r : Route) → (is_return (at place (For first test last b)) ≡ true) ⊎ (2 ≤ r.to) → 2 ≤ r.to
  for_goes place first test None b r either = no_return (at place (For first test None b)) (Stmt-F.For first test None b) r (outs-For first test None b) refl either
  for_goes place first test (Some last) b r either = no_return (at place (For first test (Some last) b)) (Stmt-F.For first test (Some last) b) r (outs-For first test (Some last) b) refl either

  pub for_grew_to : (place : Place) (first : List Placed) (test : Option Expr) (last : Option Placed) (b : Placed) (r : Route) (d : FlowGraph)
      → (next_node d ≤ next_node (for_condition place first test r d).1.flow) × (next_node (for_condition place first test r d).1.flow ≤ next_node (for_opened place first test last b r d))
  for_grew_to place first test last b r d =
      let begun = for_first (map lowering_of first) place r d in
      let h = for_condition place first test r d in
      let one = (first_grew (map lowering_of first) (every_grew first) place r d).nodes in
      let two = (expr_grew (condition test) place (next_node d) begun).nodes in
      let three = (two_heads_grew (start_of b) (option_map_or start_of last place) (next_node h.1.flow) r.to h).nodes in
      (omega (arith, one, two), omega (arith, three))

  -- ---- pieces

  module _ (made : IsWellMadeFunction unit f) where
    mutual
      piece_made : (s : Placed) (r : Route) (d : FlowGraph) → Piece f s r d → MadePiece unit f s r d
      piece_made _ _ _ (alone s r d series) =
          let m = series_made (s ∷ []) r d series in
          record { inside = m.inside; made = m.made.0; jumps = m.jumps; goes_on = m.ends; begins = m.begins; nodes = m.nodes }
      piece_made _ _ _ (first_of s s' ss r d series) =
          let m = series_made (s ∷ s' ∷ ss) r d series in
          let n = m.nodes in
          let more = node_more d (start_of s') in
          record { inside = m.inside; made = m.made.0; jumps = m.jumps; goes_on = inr n; begins = m.begins; nodes = omega (arith, n, more) }
      piece_made _ _ _ (then_part place e a None r d piece) =
          let m = piece_made (at place (If e a None)) r d piece in
          let h = hoisted_expr e place r.from d in
          let n = m.nodes in
          let one = (expr_grew e place r.from d).nodes in
          let two = (one_head_grew (start_of a) r.to h).nodes in
          record {
            inside = m.inside;
            made = if_parts place e a None m.inside m.made;
            jumps = m.jumps;
            goes_on = inr (no_return (at place (If e a None)) (Stmt-F.If e a None) r (outs-If e a None) refl m.goes_on);
            begins = omega (arith, n, one);
            nodes = omega (arith, n, one, two);
          }
      piece_made _ _ _ (then_part place e a (Some b) r d piece) =
          let m = piece_made (at place (If e a (Some b))) r d piece in
          let h = hoisted_expr e place r.from d in
          let n = m.nodes in
          let one = (expr_grew e place r.from d).nodes in
          let two = (two_heads_grew (start_of a) (start_of b) (next_node h.1.flow) (next_node h.1.flow + 1) h).nodes in
          record {
            inside = m.inside;
            made = if_parts place e a (Some b) m.inside m.made;
            jumps = m.jumps;
            goes_on = inr (no_return (at place (If e a (Some b))) (Stmt-F.If e a (Some b)) r (outs-If e a (Some b)) refl m.goes_on);
            begins = omega (arith, n, one);
            nodes = omega (arith, n, one, two);
          }
      piece_made _ _ _ (else_part place e a b r d piece) =
          let m = piece_made (at place (If e a (Some b))) r d piece in
          let h = hoisted_expr e place r.from d in
          let head = if_head (start_of a) (Some (start_of b)) r.to h in
          let n = m.nodes in
          let one = (expr_grew e place r.from d).nodes in
          let two = (two_heads_grew (start_of a) (start_of b) (next_node h.1.flow) (next_node h.1.flow + 1) h).nodes in
          let three = (lowerings_grow a (then_route r h) head).nodes in
          record {
            inside = m.inside;
            made = else_made place e a b m.inside m.made;
            jumps = m.jumps;
            goes_on = inr (no_return (at place (If e a (Some b))) (Stmt-F.If e a (Some b)) r (outs-If e a (Some b)) refl m.goes_on);
            begins = omega (arith, n, one);
            nodes = omega (arith, n, one, two, three);
          }
      piece_made _ _ _ (while_body place e b r d piece) =
          let m = piece_made (at place (While e b)) r d piece in
          let h = hoisted_expr e place r.from d in
          let n = m.nodes in
          let one = (expr_grew e place r.from d).nodes in
          let two = (one_head_grew (start_of b) r.to h).nodes in
          let mine = made_as (at place (While e b)) (Stmt-F.While e b) m.inside (outs-While e b) m.made in
          let to = no_return (at place (While e b)) (Stmt-F.While e b) r (outs-While e b) refl m.goes_on in
          record {
            inside = true;
            made = (both_true (is_made_expr unit f e) ((form_of unit f b).made true) mine).1;
            jumps = λ inner. (to, m.begins);
            goes_on = inr m.begins;
            begins = omega (arith, n, one);
            nodes = omega (arith, n, one, two);
          }
      piece_made _ _ _ (do_body place e b r d piece) =
          let m = piece_made (at place (DoWhile b e)) r d piece in
          let n = m.nodes in
          let one = node_more d place in
          let mine = made_as (at place (DoWhile b e)) (Stmt-F.DoWhile b e) m.inside (outs-DoWhile b e) m.made in
          let to = no_return (at place (DoWhile b e)) (Stmt-F.DoWhile b e) r (outs-DoWhile b e) refl m.goes_on in
          record {
            inside = true;
            made = (both_true ((form_of unit f b).made true) (is_made_expr unit f e) mine).0;
            jumps = λ inner. (to, n);
            goes_on = inr n;
            begins = m.begins;
            nodes = omega (arith, n, one);
          }
      piece_made _ _ _ (for_body place first test last b r d piece) =
          let m = piece_made (at place (For first test last b)) r d piece in
          let h = for_condition place first test r d in
          let n = m.nodes in
          let grew = for_grew_to place first test last b r d in
          let parts = for_parts place first test last b m.inside m.made in
          let to = for_goes place first test last b r m.goes_on in
          let one = grew.0 in
          let two = grew.1 in
          record {
            inside = true;
            made = parts.turn;
            jumps = λ inner. (to, omega (arith, n, one));
            goes_on = inr (omega (arith, n, one));
            begins = omega (arith, n, one);
            nodes = omega (arith, n, one, two);
          }

      series_made : (ss : List Placed) (r : Route) (d : FlowGraph) → Series f ss r d → MadeSeries ss r d
      series_made _ _ _ body = record {
        inside = false;
        made = each_from_all (λ (s : Placed). Made false s) f.body (by_parts (λ (s : Placed). Made false s) f.body made.statements);
        jumps = λ outer. absurd (true≢false (sym outer));
        ends = inl made.ends;
        begins = omega arith;
        nodes = omega arith;
      }
      series_made _ _ _ (behind s s' ss r d series) =
          let m = series_made (s ∷ s' ∷ ss) r d series in
          let n = m.nodes in
          let more = node_more d (start_of s') in
          let grew = (lowerings_grow s (route_to (next_node d) r) (with_node (start_of s') d)).nodes in
          record { inside = m.inside; made = m.made.1; jumps = m.jumps; ends = m.ends; begins = n; nodes = omega (arith, n, more, grew) }
      series_made _ _ _ (in_block place all r d piece) =
          let m = piece_made (at place (Block all)) r d piece in
          let mine = made_as (at place (Block all)) (Stmt-F.Block all) m.inside (outs-Block all) m.made in
          record {
            inside = m.inside;
            made = all_made m.inside all mine;
            jumps = m.jumps;
            ends = inr (no_return (at place (Block all)) (Stmt-F.Block all) r (outs-Block all) refl m.goes_on);
            begins = m.begins;
            nodes = m.nodes;
          }
      series_made _ _ _ (for_firsts place s ss test last b r d piece) =
          let m = piece_made (at place (For (s ∷ ss) test last b)) r d piece in
          let n = m.nodes in
          let one = node_more d place in
          let parts = for_parts place (s ∷ ss) test last b m.inside m.made in
          let to = for_goes place (s ∷ ss) test last b r m.goes_on in
          record {
            inside = m.inside;
            made = parts.firsts;
            jumps = λ inner. (to, n);
            ends = inr n;
            begins = m.begins;
            nodes = omega (arith, n, one);
          }

pub pieces_are_made : PiecesAreMade
pieces_are_made unit f s r d made piece = piece_made unit f made s r d piece
