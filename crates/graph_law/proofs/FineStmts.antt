-- The edges of what a well-made function's statements are lowered to are formed.
use Rattle.std.proofs.Common.{◌≡◌, ◌≢◌, refl, sym, ap, ◌∙◌, subst, ℕ, pos, ◌+◌, ◌<◌, ◌≤◌, Bool, true, false, List, [], ◌∷◌, length, map, Option, None, Some, arith, length-append}
use Rattle.std.specs.Prelude.{◌&&◌, nat_lt, not, slice_get, IsSomeAnd, IsTrue}
use Rattle.std.specs.List.{list_all}
use Rattle.std.specs.Option.{option_map_or}
use Rattle.std.proofs.lemmas.Bool.{ltb-true}
use Rattle.std.proofs.lemmas.List.Elements.{recursion_from_All}
use Rattle.gob_tree.specs.Formed.{IsThreadFunction}
use Rattle.gob_tree.specs.WellMade.{IsWellMade, IsWellMadeFunction, StmtForm, is_int, is_thread, is_local, is_called, is_function, expr_step, is_made_expr, is_made_or_missing, is_head_part, made_step, form_step, form_of, is_made, unit_names}
use Rattle.gob_tree.specs.WellMade as Made
use Rattle.gob_tree.specs.declared.place.Place.{Place}
use Rattle.gob_tree.specs.declared.expr.Width.TheVariants.{W32}
use Rattle.gob_tree.specs.declared.expr.Expr.{Expr, Number}
use Rattle.gob_tree.specs.declared.stmt.Target.{Target}
use Rattle.gob_tree.specs.declared.stmt.Stmt.{Stmt, fold-Stmt, fold-roll-Stmt, map-Stmt, roll-Stmt}
use Rattle.gob_tree.specs.declared.stmt.Stmt.TheOpen.{Stmt-F, Placed-F}
use Rattle.gob_tree.specs.declared.stmt.Placed.{Placed, fold-roll-Placed, ind-Placed, map-Placed, roll-Placed}
use Rattle.gob_tree.specs.declared.unit.Function.{Function}
use Rattle.gob_tree.specs.declared.unit.Unit.{Unit as TranslationUnit}
use Rattle.gob_tree.specs.declared.unit.FuncKind.TheVariants.{Thread}
use Rattle.gob_tree.specs.declared.graph.Action.{Action}
use Rattle.gob_tree.specs.declared.graph.Action.TheVariants.{Assign, Write, Nondet, Assert, Lock, Unlock, Create, Join, Call, Skip}
use Rattle.gob_tree.proofs.Folds.{fold-Number}
use Rattle.gob_tree.proofs.Induct.{Each}
use Rattle.c_meaning.specs.Graph.{FlowGraph, Route, Hoisted, Lowering, next_node, with_node, with_marked, with_guards, hoisting_of, begun_at, hoisted_expr, hoisted_exprs, sequence, sequence_or_silent, part_or_silent, if_head, if_flow, while_head, while_flow, route_to, route_from, then_route, else_route, while_route, do_route, first_route, for_route, last_route, last_node, do_flow, for_first, for_head, for_flow, condition, lowering_step, placed_step, lowering_of, temporary, first_flow, body_route, flow_of, program_of}
use Rattle.c_meaning.proofs.Growth.{node_more}
use Rattle.graph_law.proofs.Decoding.{both_true, some_holds, all_true, each_from_all, no_thread, is_a_thread, called_there, graph_found}
use Rattle.graph_law.proofs.Widening.{every_hoist, expr_grew, exprs_grew, LowerGrew, some_grew, lowerings_grow, every_grew}
use Rattle.graph_law.proofs.FineHoists.{InRoute, slots_in, room, FineAction, Fine, IsPlain, Reached, HoistFine, fine_node, fine_edge, fine_guards, all_fine, each_plain, args_length, hoists_fine}

-- routes stay in range where nodes are added
in_more : (n m : ℕ) (r : Route) → n ≤ m → InRoute n r → InRoute m r
in_more n m r le i =
    let a = i.0.1 in
    let b = i.1.1 in
    let c = i.2.1 in
    let d = i.3.1 in
    ((i.0.0, omega (arith, a, le)), (i.1.0, omega (arith, b, le)), (i.2.0, omega (arith, c, le)), (i.3.0, omega (arith, d, le)))

in_loop : (n from end to : ℕ) → (0 < from) × (from < n) → (0 < end) × (end < n) → (0 < to) × (to < n) → InRoute n (record { from = from; to = end; on_break = to; on_continue = end })
in_loop n from end to a e t = (a, e, t, e)

in_from : (n node : ℕ) (r : Route) → 0 < node → node < n → InRoute n r → InRoute n (route_from node r)
in_from n node r z h i = ((z, h), i.1, i.2, i.3)

in_to : (n node : ℕ) (r : Route) → 0 < node → node < n → InRoute n r → InRoute n (route_to node r)
in_to n node r z h i = (i.0, (z, h), i.2, i.3)

module _ (unit : TranslationUnit) (f : Function) where
  abbrev LowerFine : Lowering → Type 0
  LowerFine l = (r : Route) (d : FlowGraph) → InRoute (next_node d) r → Fine unit f d → Fine unit f (l.lower r d)

  abbrev PartFine : Option Lowering → Type 0
  PartFine None = Unit {0}
  PartFine (Some l) = LowerFine l

  -- an expression is hoisted from a node
  expr_fine : IsWellMade unit → (e : Expr) → IsTrue (is_made_expr unit f e) → (place : Place) (node : ℕ) (d : FlowGraph) → node < next_node d → Fine unit f d
      → Reached unit f (hoisted_expr e place node d).1 × IsPlain unit f (hoisted_expr e place node d).1.flow (hoisted_expr e place node d).0
  expr_fine made e h place node d lt c = hoists_fine unit f made e h place (begun_at node d) (c, lt)

  every_fine : IsWellMade unit → (es : List Expr) → Each (λ e. IsTrue (is_made_expr unit f e)) es → Each (HoistFine unit f) (map hoisting_of es)
  every_fine made [] h = tt
  every_fine made (e ∷ es) h = (hoists_fine unit f made e h.0, every_fine made es h.1)

  -- one edge alone, or after what was hoisted
  one_fine : (silent : Bool) (r : Route) (act : Action) (d : FlowGraph) → FineAction unit f (slots_in unit f d) act → InRoute (next_node d) r → Fine unit f d → Fine unit f (with_marked silent r.from act r.to d)
  one_fine silent r act d acts i c = fine_edge unit f silent r.from act r.to d i.0.1 i.1.1 i.1.0 acts c

  last_fine : (x : Hoisted Expr) (act : Action) (to n : ℕ) → n ≤ next_node x.1.flow → 0 < to → to < n → FineAction unit f (slots_in unit f x.1.flow) act → Reached unit f x.1 → Fine unit f (with_marked false x.1.at act to x.1.flow)
  last_fine x act to n le z lt acts c = fine_edge unit f false x.1.at act to x.1.flow c.1 (omega (arith, le, lt)) z acts c.0

  sequence_fine : (ls : List Lowering) → Each LowerGrew ls → Each LowerFine ls → LowerFine (record { start = f.place; lower = sequence ls })
  sequence_fine [] grows all r d i c = one_fine false r Skip d (tt, tt) i c
  sequence_fine (s ∷ []) grows all r d i c = all.0 r d i c
  sequence_fine (s ∷ s' ∷ ss) grows all r d i c =
      let opened = with_node s'.start d in
      let more = node_more d s'.start in
      let first = route_to (next_node d) r in
      let low = i.0.1 in
      let inside : InRoute (next_node opened) r = in_more (next_node d) (next_node opened) r (omega (arith, more)) i in
      let done = all.0 first opened (in_to (next_node opened) (next_node d) r (omega (arith, low)) (omega (arith, more)) inside) (fine_node unit f s'.start d c) in
      let n = (grows.0 first opened).nodes in
      sequence_fine (s' ∷ ss) grows.1 all.1 (route_from (next_node d) r) (s.lower first opened)
      (in_from (next_node (s.lower first opened)) (next_node d) r (omega (arith, low)) (omega (arith, n, more)) (in_more (next_node opened) (next_node (s.lower first opened)) r n inside)) done

  some_fine : (ls : List Lowering) → Each LowerGrew ls → Each LowerFine ls → LowerFine (record { start = f.place; lower = sequence_or_silent ls })
  some_fine [] grows all r d i c = one_fine true r Skip d (tt, tt) i c
  some_fine (s ∷ ss) grows all r d i c = sequence_fine (s ∷ ss) grows all r d i c

  part_fine : (last : Option Lowering) → PartFine last → LowerFine (record { start = f.place; lower = part_or_silent last })
  part_fine None all r d i c = one_fine true r Skip d (tt, tt) i c
  part_fine (Some l) all r d i c = all r d i c

  -- the guards of a condition behind one new node or two
  head_fine : (start : Place) (to n : ℕ) (e : Hoisted Expr) → n ≤ next_node e.1.flow → 0 < to → to < n → Reached unit f e.1 → IsPlain unit f e.1.flow e.0 → Fine unit f (while_head start to e)
  head_fine start to n e le z lt c plain =
      let opened = with_node start e.1.flow in
      let more = node_more e.1.flow start in
      let at = c.1 in
      fine_guards unit f false e.1.at e.0 (next_node e.1.flow) to opened (omega (arith, more, at)) (omega (arith, more)) (omega (arith, at)) (omega (arith, more, le, lt)) z plain (fine_node unit f start e.1.flow c.0)

  heads_fine : (start other : Place) (q : ℕ) (e : Hoisted Expr) → 0 < q → q < next_node e.1.flow + 2 → Reached unit f e.1 → IsPlain unit f e.1.flow e.0 → Fine unit f (with_guards e.1.at e.0 (next_node e.1.flow) q (with_node other (with_node start e.1.flow)))
  heads_fine start other q e z lt c plain =
      let one = with_node start e.1.flow in
      let two = with_node other one in
      let n1 = node_more e.1.flow start in
      let n2 = node_more one other in
      let at = c.1 in
      fine_guards unit f false e.1.at e.0 (next_node e.1.flow) q two (omega (arith, n1, n2, at)) (omega (arith, n1, n2)) (omega (arith, at)) (omega (arith, n1, n2, lt)) z plain
      (fine_node unit f other one (fine_node unit f start e.1.flow c.0))

  if_fine : (a : Lowering) (b : Option Lowering) → LowerGrew a → LowerFine a → PartFine b → (r : Route) (e : Hoisted Expr) → InRoute (next_node e.1.flow) r → Reached unit f e.1 → IsPlain unit f e.1.flow e.0 → Fine unit f (if_flow a b r e)
  if_fine a None ga la lb r e i c plain =
      let head = if_head a.start None r.to e in
      let more = node_more e.1.flow a.start in
      let at = c.1 in
      la (then_route r e) head (in_from (next_node head) (next_node e.1.flow) r (omega (arith, at)) (omega (arith, more)) (in_more (next_node e.1.flow) (next_node head) r (omega (arith, more)) i))
      (head_fine a.start r.to (next_node e.1.flow) e (omega arith) i.1.0 i.1.1 c plain)
  if_fine a (Some b) ga la lb r e i c plain =
      let head = if_head a.start (Some b.start) r.to e in
      let n1 = node_more e.1.flow a.start in
      let n2 = node_more (with_node a.start e.1.flow) b.start in
      let size : next_node head ≡ next_node e.1.flow + 2 = omega (arith, n1, n2) in
      let inside : InRoute (next_node head) r = in_more (next_node e.1.flow) (next_node head) r (omega (arith, size)) i in
      let first = a.lower (then_route r e) head in
      let at = c.1 in
      let n = (ga (then_route r e) head).nodes in
      lb (else_route r e) first (in_from (next_node first) (next_node e.1.flow + 1) r (omega arith) (omega (arith, n, size)) (in_more (next_node head) (next_node first) r n inside))
      (la (then_route r e) head (in_from (next_node head) (next_node e.1.flow) r (omega (arith, at)) (omega (arith, size)) inside)
      (heads_fine a.start b.start (next_node e.1.flow + 1) e (omega arith) (omega arith) c plain))

  while_fine : (body : Lowering) → LowerFine body → (r : Route) (e : Hoisted Expr) → InRoute (next_node e.1.flow) r → Reached unit f e.1 → IsPlain unit f e.1.flow e.0 → Fine unit f (while_flow body r e)
  while_fine body lb r e i c plain =
      let at = c.1 in
      let head = while_head body.start r.to e in
      let more = node_more e.1.flow body.start in
      let inside : InRoute (next_node head) r = in_more (next_node e.1.flow) (next_node head) r (omega (arith, more)) i in
      lb (while_route r e) head (in_loop (next_node head) (next_node e.1.flow) r.from r.to (omega (arith, at), omega (arith, more)) inside.0 inside.1)
      (head_fine body.start r.to (next_node e.1.flow) e (omega arith) i.1.0 i.1.1 c plain)

  do_fine : IsWellMade unit → (body : Lowering) → LowerGrew body → LowerFine body → (e : Expr) → IsTrue (is_made_expr unit f e) → (place : Place) (r : Route) (d : FlowGraph) → InRoute (next_node d) r → Fine unit f d → Fine unit f (do_flow body e place r d)
  do_fine made body gb lb e h place r d i c =
      let opened = with_node place d in
      let more = node_more d place in
      let low = i.0.1 in
      let inside : InRoute (next_node opened) r = in_more (next_node d) (next_node opened) r (omega (arith, more)) i in
      let m = body.lower (do_route r (next_node d)) opened in
      let n = (gb (do_route r (next_node d)) opened).nodes in
      let done = lb (do_route r (next_node d)) opened (in_loop (next_node opened) r.from (next_node d) r.to inside.0 (omega (arith, low), omega (arith, more)) inside.1) (fine_node unit f place d c) in
      let x = hoisted_expr e place (next_node d) m in
      let went = expr_fine made e h place (next_node d) m (omega (arith, n, more)) done in
      let k = (expr_grew e place (next_node d) m).nodes in
      let last : InRoute (next_node x.1.flow) r = in_more (next_node opened) (next_node x.1.flow) r (omega (arith, n, k)) inside in
      fine_guards unit f false x.1.at x.0 r.from r.to x.1.flow went.0.1 last.0.1 last.0.0 last.1.1 last.1.0 went.1 went.0.0

  one_made : IsTrue (is_made_expr unit f (Number (pos 1) W32))
  one_made = subst IsTrue (sym (fold-Number Bool (expr_step unit f) (pos 1) W32)) refl

  condition_made : (test : Option Expr) → IsTrue (is_made_or_missing unit f test) → IsTrue (is_made_expr unit f (condition test))
  condition_made None h = one_made
  condition_made (Some e) h = h

  for_fine : IsWellMade unit → (test : Option Expr) → IsTrue (is_made_or_missing unit f test) → (last : Option Lowering) (body : Lowering) → LowerGrew body → PartFine last → LowerFine body
      → (place : Place) (h : ℕ) (r : Route) (d : FlowGraph) → 0 < h → h < next_node d → InRoute (next_node d) r → Fine unit f d → Fine unit f (for_flow last body place h r (hoisted_expr (condition test) place h d))
  for_fine made test t last body gb ll lb place h r d z lt i c =
      let e = hoisted_expr (condition test) place h d in
      let start = option_map_or (λ (s : Lowering). s.start) last place in
      let head = for_head body.start start r.to e in
      let went = expr_fine made (condition test) (condition_made test t) place h d lt c in
      let at = went.0.1 in
      let k = (expr_grew (condition test) place h d).nodes in
      let n1 = node_more e.1.flow body.start in
      let n2 = node_more (with_node body.start e.1.flow) start in
      let size : next_node head ≡ next_node e.1.flow + 2 = omega (arith, n1, n2) in
      let inside : InRoute (next_node head) r = in_more (next_node d) (next_node head) r (omega (arith, k, size)) i in
      let m = body.lower (for_route r e) head in
      let n = (gb (for_route r e) head).nodes in
      let last_to = inside.1.1 in
      part_fine last ll (last_route r h e) m
      (in_loop (next_node m) (last_node e) h r.to (omega arith, omega (arith, n, size)) (z, omega (arith, lt, k, size, n)) (inside.1.0, omega (arith, last_to, n)))
      (lb (for_route r e) head (in_loop (next_node head) (next_node e.1.flow) (last_node e) r.to (omega (arith, at), omega (arith, size)) (omega arith, omega (arith, size)) inside.1)
      (heads_fine body.start start r.to e i.1.0 (let to = i.1.1 in omega (arith, to, k)) went.0 went.1))

  for_all_fine : IsWellMade unit → (first : List Lowering) → Each LowerGrew first → Each LowerFine first → (test : Option Expr) → IsTrue (is_made_or_missing unit f test) → (last : Option Lowering) (body : Lowering) → LowerGrew body → PartFine last → LowerFine body
      → (place : Place) (r : Route) (d : FlowGraph) → InRoute (next_node d) r → Fine unit f d → Fine unit f (for_flow last body place (next_node d) r (hoisted_expr (condition test) place (next_node d) (for_first first place r d)))
  for_all_fine made first gf lf test t last body gb ll lb place r d i c =
      let opened = with_node place d in
      let more = node_more d place in
      let low = i.0.1 in
      let inside : InRoute (next_node opened) r = in_more (next_node d) (next_node opened) r (omega (arith, more)) i in
      let begun = for_first first place r d in
      let n = (some_grew first gf (first_route r (next_node d)) opened).nodes in
      for_fine made test t last body gb ll lb place (next_node d) r begun (omega (arith, low)) (omega (arith, n, more)) (in_more (next_node opened) (next_node begun) r n inside)
      (some_fine first gf lf (first_route r (next_node d)) opened (in_loop (next_node opened) r.from (next_node d) r.to inside.0 (omega (arith, low), omega (arith, more)) inside.1) (fine_node unit f place d c))

  -- ---- all statements

  abbrev form_at : Stmt → StmtForm
  form_at = fold-Stmt StmtForm StmtForm (form_step unit f) Made.placed_step

  abbrev StmtFine : Stmt → Type 0
  StmtFine s = (inside : Bool) → IsTrue ((form_at s).made inside) → (place : Place) → LowerFine (fold-Stmt (Place → Lowering) Lowering lowering_step placed_step s place)

  abbrev PlacedFine : Placed → Type 0
  PlacedFine p = (inside : Bool) → IsTrue ((form_of unit f p).made inside) → LowerFine (lowering_of p)

  abbrev FineStmt : Type 0
  FineStmt = (s : Stmt) × StmtFine s

  abbrev FinePlaced : Type 0
  FinePlaced = (p : Placed) × PlacedFine p

  abbrev stmts_of : Stmt-F FineStmt FinePlaced → Stmt-F Stmt Placed
  stmts_of = map-Stmt FineStmt FinePlaced Stmt Placed (λ s. s.0) (λ p. p.0)

  abbrev lowerings_of : Stmt-F Stmt Placed → Stmt-F (Place → Lowering) Lowering
  lowerings_of = map-Stmt Stmt Placed (Place → Lowering) Lowering (fold-Stmt (Place → Lowering) Lowering lowering_step placed_step) lowering_of

  abbrev forms_of : Stmt-F Stmt Placed → Stmt-F StmtForm StmtForm
  forms_of = map-Stmt Stmt Placed StmtForm StmtForm form_at (form_of unit f)

  abbrev parts : List FinePlaced → List Placed
  parts = map (λ (p : FinePlaced). p.0)

  each_made : (inside : Bool) (ps : List FinePlaced) → IsTrue (list_all (λ s. s.made inside) (map (form_of unit f) (parts ps))) → Each LowerFine (map lowering_of (parts ps))
  each_made inside [] h = tt
  each_made inside (p ∷ ps) h =
      let b = both_true ((form_of unit f p.0).made inside) (list_all (λ s. s.made inside) (map (form_of unit f) (parts ps))) h in
      (p.1 inside b.0, each_made inside ps b.1)

  each_head : (inside : Bool) (ps : List FinePlaced) → IsTrue (list_all (is_head_part inside) (map (form_of unit f) (parts ps))) → Each LowerFine (map lowering_of (parts ps))
  each_head inside [] h = tt
  each_head inside (p ∷ ps) h =
      let b = both_true (is_head_part inside (form_of unit f p.0)) (list_all (is_head_part inside) (map (form_of unit f) (parts ps))) h in
      (p.1 inside (both_true (form_of unit f p.0).heads_for ((form_of unit f p.0).made inside) b.0).1, each_head inside ps b.1)

  local_there : (x : ℕ) (d : FlowGraph) → IsTrue (is_local f x) → x < room unit f d
  local_there x d h =
      let lt = ltb-true x (length f.slots) (both_true (nat_lt 0 x) (nat_lt x (length f.slots)) h).1 in
      let e = length-append f.slots (map temporary d.temps) in
      omega (arith, lt, e)

  thread_there : (g : ℕ) → IsTrue (is_function unit g (λ started. is_thread started.kind)) → IsSomeAnd (slice_get (program_of unit).funcs g) IsThreadFunction
  thread_there g h =
      graph_found unit g (λ started. IsTrue (is_thread started.kind)) IsThreadFunction (λ started at k. is_a_thread started.kind k)
      (some_holds (λ (started : Function). is_thread started.kind) (slice_get unit.funcs g) h)

  -- the last edge of a statement with one expression
  value_fine : IsWellMade unit → (e : Expr) → IsTrue (is_made_expr unit f e) → (act : Expr → Action) (to : ℕ) (place : Place) (r : Route) (d : FlowGraph) → 0 < to → to < next_node d → InRoute (next_node d) r → Fine unit f d
      → ((x : Hoisted Expr) → IsPlain unit f x.1.flow x.0 → FineAction unit f (slots_in unit f x.1.flow) (act x.0))
      → Fine unit f (with_marked false (hoisted_expr e place r.from d).1.at (act (hoisted_expr e place r.from d).0) to (hoisted_expr e place r.from d).1.flow)
  value_fine made e h act to place r d z lt i c acts =
      let x = hoisted_expr e place r.from d in
      let went = expr_fine made e h place r.from d i.0.1 c in
      last_fine x (act x.0) to (next_node d) (expr_grew e place r.from d).nodes z lt (acts x went.1) went.0

  call_alone_fine : IsWellMade unit → (g : ℕ) (args : List Expr) → IsTrue (is_called unit g (length args) (λ called. not (is_thread called.kind))) → Each (λ e. IsTrue (is_made_expr unit f e)) args
      → (place : Place) (r : Route) (d : FlowGraph) → InRoute (next_node d) r → Fine unit f d
      → Fine unit f (with_marked false (hoisted_exprs args place r.from d).1.at (Call None g (hoisted_exprs args place r.from d).0) r.to (hoisted_exprs args place r.from d).1.flow)
  call_alone_fine made g args h all place r d i c =
      let es = hoisted_exprs args place r.from d in
      let went = all_fine unit f (map hoisting_of args) (every_hoist args) (every_fine made args all) place (begun_at r.from d) (c, i.0.1) in
      let k = called_there unit g (length args) (λ called. not (is_thread called.kind)) h in
      let at = went.0.1 in
      let to = i.1.1 in
      let n = (exprs_grew args place r.from d).nodes in
      fine_edge unit f false es.1.at (Call None g es.0) r.to es.1.flow at (omega (arith, to, n)) i.1.0 (
        (
          tt,
          k.0,
          graph_found unit g (λ called. (length args ≡ called.params) × IsTrue (not (is_thread called.kind))) (λ called. (length es.0 ≡ called.params) × (called.kind ≢ Thread))
              (λ called there m. (sym (args_length unit f args place (begun_at r.from d)) ∙ m.0, no_thread called.kind m.1)) k.1,
          each_plain unit f es.1.flow es.0 went.1,
        ),
        tt,
      ) went.0.0

  returned_there : (d : FlowGraph) → 0 < length f.slots → 0 < room unit f d
  returned_there d h = let e = length-append f.slots (map temporary d.temps) in omega (arith, h, e)

  layer_fine : IsWellMade unit → 0 < length f.slots → (y : Stmt-F FineStmt FinePlaced) (inside : Bool) → IsTrue (made_step unit f (forms_of (stmts_of y)) inside) → (place : Place) → LowerFine (lowering_step (lowerings_of (stmts_of y)) place)
  layer_fine made some (Stmt-F.Declare x None) inside h place r d i c = one_fine false r (Nondet x) d (local_there x d (both_true (is_local f x) true h).0, tt) i c
  layer_fine made some (Stmt-F.Declare x (Some e)) inside h place r d i c =
      let b = both_true (is_local f x) (is_made_expr unit f e) h in
      value_fine made e b.1 (Assign x) r.to place r d i.1.0 i.1.1 i c (λ v plain. ((local_there x v.1.flow b.0, plain), tt))
  layer_fine made some (Stmt-F.DeclareThread x) inside h place r d i c = one_fine false r Skip d (tt, tt) i c
  layer_fine made some (Stmt-F.Assign (Target.Local x) e) inside h place r d i c =
      let b = both_true (is_local f x) (is_made_expr unit f e) h in
      value_fine made e b.1 (Assign x) r.to place r d i.1.0 i.1.1 i c (λ v plain. ((local_there x v.1.flow b.0, plain), tt))
  layer_fine made some (Stmt-F.Assign (Target.Global g) e) inside h place r d i c =
      let b = both_true (nat_lt g (length unit.globals)) (is_made_expr unit f e) h in
      value_fine made e b.1 (Write g) r.to place r d i.1.0 i.1.1 i c (λ v plain. ((ltb-true g (length unit.globals) b.0, plain), tt))
  layer_fine made some (Stmt-F.CallOnly g args) inside h place r d i c =
      let b = both_true (is_called unit g (length args) (λ called. not (is_thread called.kind))) (list_all (is_made_expr unit f) args) h in
      call_alone_fine made g args b.0 (all_true (is_made_expr unit f) args b.1) place r d i c
  layer_fine made some (Stmt-F.If e a None) inside h place r d i c =
      let b = both_true (is_made_expr unit f e && (form_of unit f a.0).made inside) true h in
      let b' = both_true (is_made_expr unit f e) ((form_of unit f a.0).made inside) b.0 in
      let went = expr_fine made e b'.0 place r.from d i.0.1 c in
      let x = hoisted_expr e place r.from d in
      if_fine (lowering_of a.0) None (lowerings_grow a.0) (a.1 inside b'.1) tt r x (in_more (next_node d) (next_node x.1.flow) r (expr_grew e place r.from d).nodes i) went.0 went.1
  layer_fine made some (Stmt-F.If e a (Some o)) inside h place r d i c =
      let b = both_true (is_made_expr unit f e && (form_of unit f a.0).made inside) ((form_of unit f o.0).made inside) h in
      let b' = both_true (is_made_expr unit f e) ((form_of unit f a.0).made inside) b.0 in
      let went = expr_fine made e b'.0 place r.from d i.0.1 c in
      let x = hoisted_expr e place r.from d in
      if_fine (lowering_of a.0) (Some (lowering_of o.0)) (lowerings_grow a.0) (a.1 inside b'.1) (o.1 inside b.1) r x (in_more (next_node d) (next_node x.1.flow) r (expr_grew e place r.from d).nodes i) went.0 went.1
  layer_fine made some (Stmt-F.While e body) inside h place r d i c =
      let b = both_true (is_made_expr unit f e) ((form_of unit f body.0).made true) h in
      let went = expr_fine made e b.0 place r.from d i.0.1 c in
      let x = hoisted_expr e place r.from d in
      while_fine (lowering_of body.0) (body.1 true b.1) r x (in_more (next_node d) (next_node x.1.flow) r (expr_grew e place r.from d).nodes i) went.0 went.1
  layer_fine made some (Stmt-F.DoWhile body e) inside h place r d i c =
      let b = both_true ((form_of unit f body.0).made true) (is_made_expr unit f e) h in
      do_fine made (lowering_of body.0) (lowerings_grow body.0) (body.1 true b.0) e b.1 place r d i c
  layer_fine made some (Stmt-F.For first test None body) inside h place r d i c =
      let heads = list_all (is_head_part inside) (map (form_of unit f) (parts first)) in
      let b = both_true (heads && is_made_or_missing unit f test && true) ((form_of unit f body.0).made true) h in
      let b' = both_true (heads && is_made_or_missing unit f test) true b.0 in
      let b'' = both_true heads (is_made_or_missing unit f test) b'.0 in
      for_all_fine made (map lowering_of (parts first)) (every_grew (parts first)) (each_head inside first b''.0) test b''.1 None (lowering_of body.0) (lowerings_grow body.0) tt (body.1 true b.1) place r d i c
  layer_fine made some (Stmt-F.For first test (Some last) body) inside h place r d i c =
      let heads = list_all (is_head_part inside) (map (form_of unit f) (parts first)) in
      let b = both_true (heads && is_made_or_missing unit f test && is_head_part inside (form_of unit f last.0)) ((form_of unit f body.0).made true) h in
      let b' = both_true (heads && is_made_or_missing unit f test) (is_head_part inside (form_of unit f last.0)) b.0 in
      let b'' = both_true heads (is_made_or_missing unit f test) b'.0 in
      let part = (both_true (form_of unit f last.0).heads_for ((form_of unit f last.0).made inside) b'.1).1 in
      for_all_fine made (map lowering_of (parts first)) (every_grew (parts first)) (each_head inside first b''.0) test b''.1 (Some (lowering_of last.0)) (lowering_of body.0) (lowerings_grow body.0) (last.1 inside part) (body.1 true b.1) place r d i c
  layer_fine made some (Stmt-F.Block all) inside h place r d i c = sequence_fine (map lowering_of (parts all)) (every_grew (parts all)) (each_made inside all h) r d i c
  layer_fine made some Stmt-F.Break inside h place r d i c = fine_edge unit f false r.from Skip r.on_break d i.0.1 i.2.1 i.2.0 (tt, tt) c
  layer_fine made some Stmt-F.Continue inside h place r d i c = fine_edge unit f false r.from Skip r.on_continue d i.0.1 i.3.1 i.3.0 (tt, tt) c
  layer_fine made some (Stmt-F.Return None) inside h place r d i c = let a = i.0.0 in let b = i.0.1 in fine_edge unit f false r.from Skip 1 d i.0.1 (omega (arith, a, b)) (omega arith) (tt, tt) c
  layer_fine made some (Stmt-F.Return (Some e)) inside h place r d i c =
      let b = both_true (is_int f.kind) (is_made_expr unit f e) h in
      let low = i.0.0 in
      let high = i.0.1 in
      value_fine made e b.1 (Assign 0) 1 place r d (omega arith) (omega (arith, low, high)) i c (λ v plain. ((returned_there v.1.flow some, plain), tt))
  layer_fine made some (Stmt-F.Create t g) inside h place r d i c =
      let b = both_true (nat_lt t (length f.threads)) (is_function unit g (λ started. is_thread started.kind)) h in
      one_fine false r (Create t g) d ((ltb-true t (length f.threads) b.0, thread_there g b.1), tt) i c
  layer_fine made some (Stmt-F.Join t) inside h place r d i c = one_fine false r (Join t) d (ltb-true t (length f.threads) h, tt) i c
  layer_fine made some (Stmt-F.Lock m) inside h place r d i c = one_fine false r (Lock m) d (ltb-true m (length unit.mutexes) h, tt) i c
  layer_fine made some (Stmt-F.Unlock m) inside h place r d i c = one_fine false r (Unlock m) d (ltb-true m (length unit.mutexes) h, tt) i c
  layer_fine made some (Stmt-F.Assert e) inside h place r d i c = value_fine made e h Assert r.to place r d i.1.0 i.1.1 i c (λ v plain. (plain, tt))
  layer_fine made some Stmt-F.Empty inside h place r d i c = one_fine false r Skip d (tt, tt) i c

  module _ (made : IsWellMade unit) (some : 0 < length f.slots) where
    stmt_rolled : (x : Stmt-F Stmt Placed) (y : Stmt-F FineStmt FinePlaced) → stmts_of y ≡ x → StmtFine (roll-Stmt x)
    stmt_rolled x y e inside h place =
        let form = ap (λ (s : StmtForm). s.made inside) (fold-roll-Stmt StmtForm StmtForm (form_step unit f) Made.placed_step x) in
        let lowers = ap (λ (l : Place → Lowering). l place) (fold-roll-Stmt (Place → Lowering) Lowering lowering_step placed_step x) in
        subst LowerFine (sym lowers)
        (subst (λ (z : Stmt-F Stmt Placed). IsTrue (made_step unit f (forms_of z) inside) → LowerFine (lowering_step (lowerings_of z) place)) e
        (λ k. layer_fine made some y inside k place) (subst IsTrue form h))

    placed_rolled : (x : Placed-F Stmt Placed) (y : Placed-F FineStmt FinePlaced) → map-Placed FineStmt FinePlaced Stmt Placed (λ s. s.0) (λ p. p.0) y ≡ x → PlacedFine (roll-Placed x)
    placed_rolled x y e =
        subst (λ (z : Placed-F Stmt Placed). PlacedFine (roll-Placed z)) e
        (λ inside h.
        let inner : Placed-F Stmt Placed = record { place = y.place; stmt = y.stmt.0 } in
        subst LowerFine (sym (fold-roll-Placed (Place → Lowering) Lowering lowering_step placed_step inner))
        (y.stmt.1 inside (subst IsTrue (ap (λ (s : StmtForm). s.made inside) (fold-roll-Placed StmtForm StmtForm (form_step unit f) Made.placed_step inner)) h) y.place))

    lowerings_fine : (p : Placed) → PlacedFine p
    lowerings_fine = ind-Placed StmtFine PlacedFine stmt_rolled placed_rolled

    every_placed : (ps : List Placed) → Each (λ p. IsTrue (is_made unit f p)) ps → Each LowerFine (map lowering_of ps)
    every_placed [] h = tt
    every_placed (p ∷ ps) h = (lowerings_fine p false h.0, every_placed ps h.1)

    -- the whole graph of the function
    pub flow_fine : IsWellMadeFunction unit f → Fine unit f (flow_of f)
    flow_fine here =
        sequence_fine (map lowering_of f.body) (every_grew f.body)
        (every_placed f.body (each_from_all (λ p. IsTrue (is_made unit f p)) f.body (recursion_from_All (λ p. IsTrue (is_made unit f p)) f.body here.statements)))
        body_route (first_flow f)
        ((omega arith, omega arith), (omega arith, omega arith), (omega arith, omega arith), (omega arith, omega arith))
        (refl, ((omega arith, omega arith, omega arith, (tt, tt)), tt))
