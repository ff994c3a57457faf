-- The edges of what is hoisted from a well-made expression are formed.
use Rattle.std.proofs.Common.{◌≡◌, ◌≢◌, refl, sym, ap, ◌∙◌, subst, ℕ, suc, pos, ◌+◌, ◌<◌, ◌≤◌, Bool, true, false, List, [], ◌∷◌, ◌++◌, length, map, Option, None, Some, arith, length-append}
use Rattle.std.specs.Prelude.{if◌then◌else◌, ◌&&◌, int_le, nat_lt, slice_get, All, IsSomeAnd, IsTrue}
use Rattle.std.specs.List.{list_all}
use Rattle.std.proofs.lemmas.Bool.{ltb-true}
use Rattle.std.proofs.lemmas.List.{length-map}
use Rattle.std.proofs.lemmas.List.Elements.{All-from_recursion}
use Rattle.gob_tree.specs.Formed.{IsFormedAction, is_plain, plain_step}
use Rattle.gob_tree.specs.Widths.{fits, same_width, returned_width}
use Rattle.gob_tree.specs.WellMade.{IsWellMade, is_int, is_local, is_called, expr_step, is_made_expr}
use Rattle.gob_tree.specs.declared.place.Place.{Place}
use Rattle.gob_tree.specs.declared.expr.Width.{Width}
use Rattle.gob_tree.specs.declared.expr.Width.TheVariants.{W32}
use Rattle.gob_tree.specs.declared.expr.BinOp.{BinOp}
use Rattle.gob_tree.specs.declared.expr.BinOp.TheVariants.{Ne}
use Rattle.gob_tree.specs.declared.expr.Expr.{Expr, Number, Binary}
use Rattle.gob_tree.specs.declared.unit.Function.{Function}
use Rattle.gob_tree.specs.declared.unit.Slot.{Slot}
use Rattle.gob_tree.specs.declared.unit.Unit.{Unit as TranslationUnit}
use Rattle.gob_tree.specs.declared.unit.FuncKind.TheVariants.{Thread}
use Rattle.gob_tree.specs.declared.graph.Action.{Action}
use Rattle.gob_tree.specs.declared.graph.Action.TheVariants.{Assign, Read, Write, Nondet, Guard, Assert, Lock, Unlock, Create, Join, Call, Skip}
use Rattle.gob_tree.specs.declared.graph.FuncGraph.{FuncGraph}
use Rattle.gob_tree.specs.declared.graph.Program.{Program}
use Rattle.gob_tree.proofs.Folds.{fold-Number, fold-Local, fold-Global, fold-Nondet, fold-Unary, fold-Binary, fold-Call}
use Rattle.gob_tree.proofs.Induct.{Each, by_forms}
use Rattle.c_meaning.specs.Demand.{truth, slot_width}
use Rattle.c_meaning.specs.Graph.{MarkedEdge, FlowGraph, Route, HoistState, Hoisted, Hoisting, next_node, with_node, with_marked, free_temp, temp_slot, with_temp, fetch, stop_of, node_of, logic_at, logic_join, strict_join, binary_join, hoist_all, hoisting_step, hoisting_of, temporary, slots_with, program_of}
use Rattle.c_meaning.proofs.Growth.{node_more}
use Rattle.graph_law.specs.Forming.{HasWidths}
use Rattle.graph_law.proofs.Decoding.{both_true, both, same, all_from_each, each_append, each_change, int_no_thread, width_more, global_there, taken, taking_nodes, taking_at, taking_edges, plain_local, plain_more, called_there, graph_found, returns_the_same}
use Rattle.graph_law.proofs.Widening.{Grew, grew_node, HoistGrew, temp_grew, all_grew, hoists_grow, every_hoist}

-- ---- what stays where a graph grows

pub plain_args : (a b : ℕ) → a ≤ b → (es : List Expr) → All (λ e. IsTrue (is_plain a e)) es → All (λ e. IsTrue (is_plain b e)) es
plain_args a b le es all k d h = plain_more a b le _ (all k d h)

pub formed_more : (p : Program) (g g' : FuncGraph) → length g.slots ≤ length g'.slots → g.threads ≡ g'.threads → (a : Action) → IsFormedAction p g a → IsFormedAction p g' a
formed_more p g g' le same (Assign x e) h = let lt = h.0 in (omega (arith, lt, le), plain_more _ _ le e h.1)
formed_more p g g' le same (Read x n) h = let lt = h.0 in (omega (arith, lt, le), h.1)
formed_more p g g' le same (Write n e) h = (h.0, plain_more _ _ le e h.1)
formed_more p g g' le same (Nondet x) h = omega (arith, h, le)
formed_more p g g' le same (Guard e b) h = plain_more _ _ le e h
formed_more p g g' le same (Assert e) h = plain_more _ _ le e h
formed_more p g g' le same (Lock m) h = h
formed_more p g g' le same (Unlock m) h = h
formed_more p g g' le same (Create t n) h = (subst (λ (ts : List (List ℕ)). t < length ts) same h.0, h.1)
formed_more p g g' le same (Join t) h = subst (λ (ts : List (List ℕ)). t < length ts) same h
formed_more p g g' le same (Call None n args) h = (tt, h.1, h.2, plain_args _ _ le args h.3)
formed_more p g g' le same (Call (Some x) n args) h = let lt = h.0 in (omega (arith, lt, le), h.1, h.2, plain_args _ _ le args h.3)
formed_more p g g' le same Skip h = tt

pub widths_more : (p : Program) (g g' : FuncGraph) (more : List Slot) → g'.slots ≡ g.slots ++ more → (a : Action) → IsFormedAction p g a → HasWidths p g a → HasWidths p g' a
widths_more p g g' more e (Assign x v) h w = tt
widths_more p g g' more e (Read x n) h w = ap (λ ss. slot_width ss x) e ∙ width_more g.slots more x h.0 ∙ w
widths_more p g g' more e (Write n v) h w = tt
widths_more p g g' more e (Nondet x) h w = tt
widths_more p g g' more e (Guard v b) h w = tt
widths_more p g g' more e (Assert v) h w = tt
widths_more p g g' more e (Lock m) h w = tt
widths_more p g g' more e (Unlock m) h w = tt
widths_more p g g' more e (Create t n) h w = tt
widths_more p g g' more e (Join t) h w = tt
widths_more p g g' more e (Call None n args) h w = tt
widths_more p g g' more e (Call (Some x) n args) h w = go (slice_get p.funcs n) w
  where
    go : (o : Option FuncGraph) → IsSomeAnd o (λ called. slot_width g.slots x ≡ returned_width called.slots) → IsSomeAnd o (λ called. slot_width g'.slots x ≡ returned_width called.slots)
    go None s = absurd s
    go (Some called) s = ap (λ ss. slot_width ss x) e ∙ width_more g.slots more x h.0 ∙ s
widths_more p g g' more e Skip h w = tt

abbrev pub InRoute : ℕ → Route → Type 0
InRoute n r = ((0 < r.from) × (r.from < n)) × ((0 < r.to) × (r.to < n)) × ((0 < r.on_break) × (r.on_break < n)) × ((0 < r.on_continue) × (r.on_continue < n))

node_below : (b : Bool) (p q n : ℕ) → p < n → q < n → node_of b p q < n
node_below true p q n hp hq = hp
node_below false p q n hp hq = hq

module _ (unit : TranslationUnit) (f : Function) where
  -- the function's graph with these slots, as far as actions speak of it
  abbrev pub shown : List Slot → FuncGraph
  shown ss = record { name = f.name; kind = f.kind; params = f.params; slots = ss; threads = f.threads; nodes = []; edges = [] }

  abbrev pub slots_in : FlowGraph → List Slot
  slots_in d = slots_with f d

  abbrev pub room : FlowGraph → ℕ
  room d = length (slots_with f d)

  abbrev pub FineAction : List Slot → Action → Type 0
  FineAction ss act = IsFormedAction (program_of unit) (shown ss) act × HasWidths (program_of unit) (shown ss) act

  abbrev pub FineEdge : List Slot → ℕ → MarkedEdge → Type 0
  FineEdge ss n m = (m.edge.from < n) × (m.edge.to < n) × (0 < m.edge.to) × FineAction ss m.edge.act

  abbrev pub Fine : FlowGraph → Type 0
  Fine d = (d.named ≡ length f.slots) × Each (FineEdge (slots_in d) (next_node d)) d.edges

  abbrev pub IsPlain : FlowGraph → Expr → Type 0
  IsPlain d e = IsTrue (is_plain (room d) e)

  -- ---- growth

  pub slots_grew : {l m : ℕ} {d d' : FlowGraph} (g : Grew l m d d') → slots_in d' ≡ slots_in d ++ map temporary g.added
  slots_grew {l} {m} {d} {d'} g = ap (λ (ws : List Width). f.slots ++ map temporary ws) g.temps ∙ again f.slots d.temps g.added
    where
      mapped : (xs ys : List Width) → map temporary (xs ++ ys) ≡ map temporary xs ++ map temporary ys
      mapped [] ys = refl
      mapped (x ∷ xs) ys = ap (λ l. temporary x ∷ l) (mapped xs ys)

      again : (ss : List Slot) (xs ys : List Width) → ss ++ map temporary (xs ++ ys) ≡ (ss ++ map temporary xs) ++ map temporary ys
      again [] xs ys = mapped xs ys
      again (s ∷ ss) xs ys = ap (λ l. s ∷ l) (again ss xs ys)

  pub room_grew : {l m : ℕ} {d d' : FlowGraph} → Grew l m d d' → room d ≤ room d'
  room_grew {l} {m} {d} {d'} g =
      let e = ap length (slots_grew g) in
      let k = length-append (slots_in d) (map temporary g.added) in
      omega (arith, e, k)

  pub plain_grew : {l m : ℕ} {d d' : FlowGraph} → Grew l m d d' → (e : Expr) → IsPlain d e → IsPlain d' e
  plain_grew g e h = plain_more _ _ (room_grew g) e h

  pub fine_grew : {l m : ℕ} {d d' : FlowGraph} → Grew l m d d' → d'.edges ≡ d.edges → Fine d → Fine d'
  fine_grew {l} {m} {d} {d'} g same_edges c = (
    g.named ∙ c.0,
    subst (Each (FineEdge (slots_in d') (next_node d'))) (sym same_edges)
        (each_change (FineEdge (slots_in d) (next_node d)) (FineEdge (slots_in d') (next_node d')) d.edges
        (λ x h.
        let n = g.nodes in
        let a = h.0 in
        let b = h.1 in
        let acts = h.3 in (
          omega (arith, a, n),
          omega (arith, b, n),
          h.2,
          (
            formed_more (program_of unit) (shown (slots_in d)) (shown (slots_in d')) (room_grew g) refl x.edge.act acts.0,
            widths_more (program_of unit) (shown (slots_in d)) (shown (slots_in d')) (map temporary g.added) (slots_grew g) x.edge.act acts.0 acts.1,
          ),
        ))
        c.1),
  )

  pub fine_node : (place : Place) (d : FlowGraph) → Fine d → Fine (with_node place d)
  fine_node place d c = fine_grew (grew_node place d) refl c

  pub fine_edge : (silent : Bool) (from : ℕ) (act : Action) (to : ℕ) (d : FlowGraph) → from < next_node d → to < next_node d → 0 < to → FineAction (slots_in d) act → Fine d → Fine (with_marked silent from act to d)
  fine_edge silent from act to d a b z acts c =
      (c.0, each_append (FineEdge (slots_in d) (next_node d)) d.edges _ c.1 ((a, b, z, acts), tt))

  pub fine_guards : (silent : Bool) (from : ℕ) (e : Expr) (p q : ℕ) (d : FlowGraph) → from < next_node d → p < next_node d → 0 < p → q < next_node d → 0 < q → IsPlain d e → Fine d → Fine (with_marked silent from (Guard e false) q (with_marked silent from (Guard e true) p d))
  fine_guards silent from e p q d a hp zp hq zq plain c =
      fine_edge silent from (Guard e false) q (with_marked silent from (Guard e true) p d) a hq zq (plain, tt)
      (fine_edge silent from (Guard e true) p d a hp zp (plain, tt) c)

  -- ---- hoisting

  abbrev pub Reached : HoistState → Type 0
  Reached s = Fine s.flow × (s.at < next_node s.flow)

  abbrev pub HoistFine : Hoisting → Type 0
  HoistFine h = (place : Place) (s : HoistState) → Reached s → Reached (h.hoist place s).1 × IsPlain (h.hoist place s).1.flow (h.hoist place s).0

  temp_fine : (w : Width) (s : HoistState) → Fine s.flow → Fine (with_temp w s).flow
  temp_fine w s c = fine_grew (temp_grew w (free_temp w s) s) (taking_edges w (free_temp w s) s) c

  temp_nodes : (w : Width) (s : HoistState) → next_node (with_temp w s).flow ≡ next_node s.flow
  temp_nodes w s = ap length (taking_nodes w (free_temp w s) s)

  temp_at : (w : Width) (s : HoistState) → (with_temp w s).at ≡ s.at
  temp_at w s = taking_at w (free_temp w s) s

  fetch_fine : (place : Place) (w : Width) (act : ℕ → Action) (s : HoistState) → Reached s
      → (temp_slot w s < room (with_temp w s).flow → slot_width (slots_in (with_temp w s).flow) (temp_slot w s) ≡ w → FineAction (slots_in (with_temp w s).flow) (act (temp_slot w s)))
      → Reached (fetch place w act s).1 × IsPlain (fetch place w act s).1.flow (fetch place w act s).0
  fetch_fine place w act s c acts =
      let t = with_temp w s in
      let opened = with_node place t.flow in
      let slot = taken f w s c.0.0 in
      let n = temp_nodes w s in
      let at = temp_at w s in
      let more = node_more t.flow place in
      let low = c.1 in (
        (
          fine_edge false t.at (act (temp_slot w s)) (next_node t.flow) opened (omega (arith, n, at, more, low)) (omega (arith, more)) (omega (arith, n, low)) (acts slot.there slot.width) (fine_node place t.flow (temp_fine w s c.0)),
          omega (arith, more),
        ),
        plain_local (room t.flow) (temp_slot w s) slot.there,
      )

  pub all_fine : (es : List Hoisting) → Each HoistGrew es → Each HoistFine es → (place : Place) (s : HoistState) → Reached s → Reached (hoist_all es place s).1 × Each (IsPlain (hoist_all es place s).1.flow) (hoist_all es place s).0
  all_fine [] grows all place s c = (c, tt)
  all_fine (e ∷ es) grows all place s c =
      let first = all.0 place s c in
      let rest = all_fine es grows.1 all.1 place (e.hoist place s).1 first.0 in
      (rest.0, (plain_grew (all_grew es grows.1 place (e.hoist place s).1) (e.hoist place s).0 first.1, rest.1))

  logic_fine : (stop : Bool) (right : Hoisting) (place : Place) (t : ℕ) (l : Expr) (s : HoistState) → HoistGrew right → HoistFine right → t < room s.flow → IsPlain s.flow l → Reached s
      → Reached (logic_at stop right place t (next_node s.flow) l s).1 × IsPlain (logic_at stop right place t (next_node s.flow) l s).1.flow (logic_at stop right place t (next_node s.flow) l s).0
  logic_fine stop right place t l s gr hr there plain c =
      let p = next_node s.flow in
      let one = with_node place s.flow in
      let two = with_node place one in
      let nodes = with_node place two in
      let first = with_marked true s.at (Guard l true) p nodes in
      let guards = with_marked true s.at (Guard l false) (p + 1) first in
      let decided = with_marked true (node_of stop p (p + 1)) (Assign t (Number (truth stop) W32)) (p + 2) guards in
      let from : HoistState = record s { flow = decided; at = node_of stop (p + 1) p } in
      let r = right.hoist place from in
      let n1 = node_more s.flow place in
      let n2 = node_more one place in
      let n3 = node_more two place in
      let low = c.1 in
      let size : next_node nodes ≡ p + 3 = omega (arith, n1, n2, n3) in
      let drawn : Fine nodes = fine_node place two (fine_node place one (fine_node place s.flow c.0)) in
      let split : Fine guards = fine_guards true s.at l p (p + 1) nodes (omega (arith, low, size)) (omega (arith, size)) (omega (arith, low)) (omega (arith, size)) (omega arith) plain drawn in
      let made : Fine decided = fine_edge true (node_of stop p (p + 1)) (Assign t (Number (truth stop) W32)) (p + 2) guards (node_below stop p (p + 1) (next_node guards) (omega (arith, size)) (omega (arith, size))) (omega (arith, size)) (omega arith) ((there, truth_plain stop), tt) split in
      let went = hr place from (made, node_below stop (p + 1) p (next_node decided) (omega (arith, size)) (omega (arith, size))) in
      let grew = gr place from in
      let g = grew.nodes in
      let wider = room_grew grew in (
        (
          fine_edge true r.1.at (Assign t (Binary Ne r.0 (Number (pos 0) W32))) (p + 2) r.1.flow went.0.1 (omega (arith, g, size)) (omega arith)
              ((omega (arith, there, wider), not_zero r.1.flow r.0 went.1), tt) went.0.0,
          omega (arith, g, size),
        ),
        plain_local (room r.1.flow) t (omega (arith, there, wider)),
      )
    where
      truth_plain : (b : Bool) → IsPlain s.flow (Number (truth b) W32)
      truth_plain true = subst IsTrue (sym (fold-Number Bool (plain_step (room s.flow)) (pos 1) W32)) refl
      truth_plain false = subst IsTrue (sym (fold-Number Bool (plain_step (room s.flow)) (pos 0) W32)) refl

      not_zero : (d : FlowGraph) (e : Expr) → IsPlain d e → IsPlain d (Binary Ne e (Number (pos 0) W32))
      not_zero d e h =
          subst IsTrue (sym (fold-Binary Bool (plain_step (room d)) Ne e (Number (pos 0) W32)))
          (both (is_plain (room d) e) (is_plain (room d) (Number (pos 0) W32)) h (subst IsTrue (sym (fold-Number Bool (plain_step (room d)) (pos 0) W32)) refl))

  -- `&&` and `||` with an input on the right take a temporary of their own
  logic_join_fine : (stop : Bool) (right : Hoisting) (place : Place) (x : Hoisted Expr) → HoistGrew right → HoistFine right → Reached x.1 → IsPlain x.1.flow x.0
      → Reached (logic_join stop right place x).1 × IsPlain (logic_join stop right place x).1.flow (logic_join stop right place x).0
  logic_join_fine stop right place x gr hr c plain =
      let t = with_temp W32 x.1 in
      let n = temp_nodes W32 x.1 in
      let at = temp_at W32 x.1 in
      let low = c.1 in
      let slot = taken f W32 x.1 c.0.0 in
      subst (λ (p : ℕ). Reached (logic_at stop right place (temp_slot W32 x.1) p x.0 t).1 × IsPlain (logic_at stop right place (temp_slot W32 x.1) p x.0 t).1.flow (logic_at stop right place (temp_slot W32 x.1) p x.0 t).0) n
      (logic_fine stop right place (temp_slot W32 x.1) x.0 t gr hr slot.there (plain_grew (temp_grew W32 (free_temp W32 x.1) x.1) x.0 plain) (temp_fine W32 x.1 c.0, omega (arith, n, at, low)))

  strict_fine : (op : BinOp) (right : Hoisting) (place : Place) (x : Hoisted Expr) → HoistGrew right → HoistFine right → Reached x.1 → IsPlain x.1.flow x.0
      → Reached (strict_join op right place x).1 × IsPlain (strict_join op right place x).1.flow (strict_join op right place x).0
  strict_fine op right place x gr hr c plain =
      let r = right.hoist place x.1 in
      let went = hr place x.1 c in (
        went.0,
        subst IsTrue (sym (fold-Binary Bool (plain_step (room r.1.flow)) op x.0 r.0))
            (both (is_plain (room r.1.flow) x.0) (is_plain (room r.1.flow) r.0) (plain_grew (gr place x.1) x.0 plain) went.1),
      )

  if_inputs_fine : (inputs : Bool) (op : BinOp) (stop : Bool) (right : Hoisting) (place : Place) (x : Hoisted Expr) → HoistGrew right → HoistFine right → Reached x.1 → IsPlain x.1.flow x.0
      → Reached (if inputs then logic_join stop right place x else strict_join op right place x).1 × IsPlain (if inputs then logic_join stop right place x else strict_join op right place x).1.flow (if inputs then logic_join stop right place x else strict_join op right place x).0
  if_inputs_fine true op stop right place x gr hr c plain = logic_join_fine stop right place x gr hr c plain
  if_inputs_fine false op stop right place x gr hr c plain = strict_fine op right place x gr hr c plain

  binary_fine : (o : Option Bool) (op : BinOp) (right : Hoisting) (place : Place) (x : Hoisted Expr) → HoistGrew right → HoistFine right → Reached x.1 → IsPlain x.1.flow x.0
      → Reached (binary_join op o right place x).1 × IsPlain (binary_join op o right place x).1.flow (binary_join op o right place x).0
  binary_fine None op right place x gr hr c plain = strict_fine op right place x gr hr c plain
  binary_fine (Some stop) op right place x gr hr c plain = if_inputs_fine right.inputs op stop right place x gr hr c plain

  -- ---- expressions of a well-made function

  abbrev MadeFine : Expr → Type 0
  MadeFine e = IsTrue (is_made_expr unit f e) → HoistFine (hoisting_of e)

  each_fine : (args : List Expr) → Each MadeFine args → Each (λ e. IsTrue (is_made_expr unit f e)) args → Each HoistFine (map hoisting_of args)
  each_fine [] all made = tt
  each_fine (e ∷ es) all made = (all.0 made.0, each_fine es all.1 made.1)

  call_fine : IsWellMade unit → (g : ℕ) (w : Width) (args : List Expr) (n : ℕ) → n ≡ length args → IsTrue (is_called unit g n (λ called. is_int called.kind && same_width (returned_width called.slots) w)) → (ss : List Slot) → All (λ e. IsTrue (is_plain (length ss) e)) args → (t : ℕ) → t < length ss → slot_width ss t ≡ w → FineAction ss (Call (Some t) g args)
  call_fine made g w args n same_length h ss plain t there width =
      let c = called_there unit g n (λ called. is_int called.kind && same_width (returned_width called.slots) w) h in (
        (
          there,
          c.0,
          graph_found unit g (λ called. (n ≡ called.params) × IsTrue (is_int called.kind && same_width (returned_width called.slots) w)) (λ called. (length args ≡ called.params) × (called.kind ≢ Thread))
              (λ called at k. (sym same_length ∙ k.0, int_no_thread called.kind (both_true (is_int called.kind) _ k.1).0)) c.1,
          plain,
        ),
        graph_found unit g (λ called. (n ≡ called.params) × IsTrue (is_int called.kind && same_width (returned_width called.slots) w)) (λ called. slot_width ss t ≡ returned_width called.slots)
            (λ called at k. width ∙ sym (same (returned_width called.slots) w (both_true (is_int called.kind) (same_width (returned_width called.slots) w) k.1).1) ∙ sym (returns_the_same unit g called made at)) c.1,
      )

  pub each_plain : (d : FlowGraph) (es : List Expr) → Each (IsPlain d) es → All (λ e. IsTrue (is_plain (room d) e)) es
  each_plain d es all = All-from_recursion (λ e. IsTrue (is_plain (room d) e)) es (all_from_each (IsPlain d) es all)

  hoisted_length : (es : List Hoisting) (place : Place) (s : HoistState) → length (hoist_all es place s).0 ≡ length es
  hoisted_length [] place s = refl
  hoisted_length (e ∷ es) place s = ap suc (hoisted_length es place (e.hoist place s).1)

  pub args_length : (args : List Expr) (place : Place) (s : HoistState) → length args ≡ length (hoist_all (map hoisting_of args) place s).0
  args_length args place s = sym (hoisted_length (map hoisting_of args) place s ∙ length-map args hoisting_of)

  pub hoists_fine : IsWellMade unit → (e : Expr) → MadeFine e
  hoists_fine made = by_forms MadeFine
      (λ n w h. subst HoistFine (sym (fold-Number Hoisting hoisting_step n w))
      (λ place s c. (c, subst IsTrue (sym (fold-Number Bool (plain_step (room s.flow)) n w)) (both_true (int_le (pos 0) n) (fits w n) (subst IsTrue (fold-Number Bool (expr_step unit f) n w) h)).1)))
      (λ x h. subst HoistFine (sym (fold-Local Hoisting hoisting_step x))
      (λ place s c. (c, plain_local (room s.flow) x (local_there x s.flow (subst IsTrue (fold-Local Bool (expr_step unit f) x) h)))))
      (λ g w h. subst HoistFine (sym (fold-Global Hoisting hoisting_step g w))
      (λ place s c.
      let there = global_there unit.globals g w (subst IsTrue (fold-Global Bool (expr_step unit f) g w) h) in
      fetch_fine place w (λ t. Read t g) s c (λ t width. ((t, there.0), width ∙ sym there.1))))
      (λ w h. subst HoistFine (sym (fold-Nondet Hoisting hoisting_step w))
      (λ place s c. fetch_fine place w (λ t. Nondet t) s c (λ t width. (t, tt))))
      (λ op a ha h. subst HoistFine (sym (fold-Unary Hoisting hoisting_step op a))
      (λ place s c.
      let x = (hoisting_of a).hoist place s in
      let went = ha (subst IsTrue (fold-Unary Bool (expr_step unit f) op a) h) place s c in
      (went.0, subst IsTrue (sym (fold-Unary Bool (plain_step (room x.1.flow)) op x.0)) went.1)))
      (λ op a b ha hb h. subst HoistFine (sym (fold-Binary Hoisting hoisting_step op a b))
      (λ place s c.
      let k = both_true (is_made_expr unit f a) (is_made_expr unit f b) (subst IsTrue (fold-Binary Bool (expr_step unit f) op a b) h) in
      let went = ha k.0 place s c in
      binary_fine (stop_of op) op (hoisting_of b) place ((hoisting_of a).hoist place s) (hoists_grow b) (hb k.1) went.0 went.1))
      (λ g w args all h. subst HoistFine (sym (fold-Call Hoisting hoisting_step g w args))
      (λ place s c.
      let k = both_true (is_called unit g (length (map (is_made_expr unit f) args)) (λ called. is_int called.kind && same_width (returned_width called.slots) w)) (list_all (λ m. m) (map (is_made_expr unit f) args)) (subst IsTrue (fold-Call Bool (expr_step unit f) g w args) h) in
      let es = hoist_all (map hoisting_of args) place s in
      let went = all_fine (map hoisting_of args) (every_hoist args) (each_fine args all (mapped_true args k.1)) place s c in
      let grew = temp_grew w (free_temp w es.1) es.1 in
      fetch_fine place w (λ t. Call (Some t) g es.0) es.1 went.0
      (λ t width. call_fine made g w es.0 (length (map (is_made_expr unit f) args)) (length-map args (is_made_expr unit f) ∙ args_length args place s) k.0
      (slots_in (with_temp w es.1).flow) (plain_args _ _ (room_grew grew) es.0 (each_plain es.1.flow es.0 went.1)) (temp_slot w es.1) t width)))
    where
      local_there : (x : ℕ) (d : FlowGraph) → IsTrue (is_local f x) → x < room d
      local_there x d h =
          let lt = ltb-true x (length f.slots) (both_true (nat_lt 0 x) (nat_lt x (length f.slots)) h).1 in
          let e = length-append f.slots (map temporary d.temps) in
          omega (arith, lt, e)

      mapped_true : (es : List Expr) → IsTrue (list_all (λ m. m) (map (is_made_expr unit f) es)) → Each (λ e. IsTrue (is_made_expr unit f e)) es
      mapped_true [] h = tt
      mapped_true (e ∷ es) h = let b = both_true (is_made_expr unit f e) (list_all (λ m. m) (map (is_made_expr unit f) es)) h in (b.0, mapped_true es b.1)
