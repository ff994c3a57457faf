-- How each form of statement is lowered, stage by stage, and where a fault of a stage is one of the
-- whole.
use Rattle.std.proofs.Common.{◌≡◌, refl, sym, ap, ◌∙◌, subst, ℕ, zero, suc, ◌+◌, ◌<◌, ◌≤◌, List, [], ◌∷◌, map, length, drop, get_or, Option, None, Some, arith}
use Rattle.std.specs.Option.{option_map, option_map_or}
use Rattle.gob_tree.specs.declared.place.Place.{Place}
use Rattle.gob_tree.specs.declared.expr.Expr.{Expr}
use Rattle.gob_tree.specs.declared.stmt.Stmt.{Stmt, If, For, Block}
use Rattle.gob_tree.specs.declared.stmt.Stmt.TheOpen.{Stmt-F}
use Rattle.gob_tree.specs.declared.stmt.Placed.{Placed}
use Rattle.gob_tree.proofs.StmtFolds.{fold-struct}
use Rattle.c_meaning.specs.Graph.{FlowGraph, HoistState, Hoisted, Route, Lowering, next_node, with_node, with_guards, hoisted_expr, condition, route_to, route_from, loop_route, then_route, else_route, while_route, do_route, first_route, for_route, last_route, sequence, part_or_silent, if_head, if_flow, while_head, while_flow, do_flow, for_first, for_head, for_flow, lowering_step, placed_step, lowering_of}
use Rattle.c_meaning.proofs.Lowerings.{lowering-If, lowering-For, lowering-Block}
use Rattle.cfg_build.specs.declared.fault.BuildFault.{BuildFault}
use Rattle.cfg_build.specs.Growing.{Faults, lowering_at, do_test, then_flow, for_body}
use Rattle.cfg_build.proofs.Growth.{Wider, wider_then, wider_none, wider_node, wider_edges, faults_wider, wider_expr, wider_or_silent, wider_part, wider_while_flow, wider_for_flow, lowerings_widen}
use Rattle.cfg_build.proofs.Lists.{sequence_more, sequence_last, sequence_node_fault, sequence_lower_fault}

-- ---- the forms

at_place : (s : Stmt) (place : Place) → lowering_at s place ≡ lowering_of (record { place = place; stmt = s })
at_place s place = sym (fold-struct (Place → Lowering) Lowering lowering_step placed_step place s)

if_form : (s : Stmt) (e : Expr) (a b : Placed) (place : Place) → s ≡ If e a (Some b) → lowering_at s place ≡ lowering_step (Stmt-F.If e (lowering_of a) (Some (lowering_of b))) place
if_form s e a b place is = ap (λ (x : Stmt). lowering_at x place) is ∙ at_place (If e a (Some b)) place ∙ lowering-If place e a (Some b)

for_form : (s : Stmt) (first : List Placed) (test : Option Expr) (last : Option Placed) (body : Placed) (place : Place) → s ≡ For first test last body
    → lowering_at s place ≡ lowering_step (Stmt-F.For (map lowering_of first) test (option_map lowering_of last) (lowering_of body)) place
for_form s first test last body place is = ap (λ (x : Stmt). lowering_at x place) is ∙ at_place (For first test last body) place ∙ lowering-For place first test last body

block_form : (s : Stmt) (all : List Placed) (place : Place) → s ≡ Block all → lowering_at s place ≡ lowering_step (Stmt-F.Block (map lowering_of all)) place
block_form s all place is = ap (λ (x : Stmt). lowering_at x place) is ∙ at_place (Block all) place ∙ lowering-Block place all

pub block_done : (s : Stmt) (all all' : List Placed) (place : Place) (r : Route) (d : FlowGraph) → s ≡ Block all → all' ≡ all
    → sequence (map lowering_of all') r d ≡ (lowering_at s place).lower r d
block_done s all all' place r d is same =
    ap (λ (ps : List Placed). sequence (map lowering_of ps) r d) same ∙ sym (ap (λ (l : Lowering). l.lower r d) (block_form s all place is))

-- ---- `if`

pub one_branch_fault : (fault : BuildFault) (a : Placed) (start : Place) (r : Route) (test : Expr) (s : HoistState) → start ≡ (lowering_of a).start
    → Faults fault (with_node start s.flow) → Faults fault (if_flow (lowering_of a) None r (test, s))
one_branch_fault fault a start r test s same f =
    let head = if_head (lowering_of a).start None r.to (test, s) in
    let opened : Faults fault (with_node (lowering_of a).start s.flow) = subst (λ (p : Place). Faults fault (with_node p s.flow)) same f in
    faults_wider fault (with_node (lowering_of a).start s.flow) _ (wider_then _ head _ (wider_edges _ head refl refl refl) (lowerings_widen a (then_route r (test, s)) head)) opened

head_widens : (a second : Place) (to : ℕ) (e : Hoisted Expr) → Wider e.1.flow (if_head a (Some second) to e)
head_widens a second to e =
    wider_then e.1.flow (with_node a e.1.flow) _ (wider_node a e.1.flow)
    (wider_then (with_node a e.1.flow) (with_node second (with_node a e.1.flow)) _ (wider_node second (with_node a e.1.flow)) (wider_edges _ _ refl refl refl))

pub wider_then_flow : (a : Placed) (second : Place) (r : Route) (e : Hoisted Expr) → Wider e.1.flow (then_flow (lowering_of a) second r e)
wider_then_flow a second r e =
    let head = if_head (lowering_of a).start (Some second) r.to e in
    wider_then e.1.flow head _ (head_widens (lowering_of a).start second r.to e) (lowerings_widen a (then_route r e) head)

pub two_nodes_fault : (fault : BuildFault) (a : Placed) (start second : Place) (r : Route) (test : Expr) (mid : HoistState) (h : Hoisted Expr)
    → start ≡ (lowering_of a).start → test ≡ h.0 → mid ≡ h.1
    → Faults fault (if_head start (Some second) 0 (test, mid)) → Faults fault (then_flow (lowering_of a) second r h)
two_nodes_fault fault a start second r test mid h same te me f =
    let head = if_head (lowering_of a).start (Some second) r.to h in
    let e : if_head start (Some second) 0 (test, mid) ≡ head =
    ap (λ (p : Place). if_head p (Some second) 0 (test, mid)) same
    ∙ ap (λ (x : Expr). if_head (lowering_of a).start (Some second) 0 (x, mid)) te
    ∙ ap (λ (x : HoistState). if_head (lowering_of a).start (Some second) 0 (h.0, x)) me in
    faults_wider fault head _ (lowerings_widen a (then_route r h) head) (subst (λ (d : FlowGraph). Faults fault d) e f)

-- the first part is lowered behind its head
pub then_part_done : (a : Placed) (start second : Place) (r way : Route) (node : ℕ) (test : Expr) (mid : HoistState) (h : Hoisted Expr) (head : FlowGraph)
    → start ≡ (lowering_of a).start → test ≡ h.0 → mid ≡ h.1 → head ≡ if_head start (Some second) 0 (test, mid) → node ≡ next_node mid.flow → way ≡ route_from node r
    → (lowering_of a).lower way head ≡ then_flow (lowering_of a) second r h
then_part_done a start second r way node test mid h head same te me he ne we =
    let e : head ≡ if_head (lowering_of a).start (Some second) r.to h =
    he
    ∙ ap (λ (p : Place). if_head p (Some second) 0 (test, mid)) same
    ∙ ap (λ (x : Expr). if_head (lowering_of a).start (Some second) 0 (x, mid)) te
    ∙ ap (λ (x : HoistState). if_head (lowering_of a).start (Some second) 0 (h.0, x)) me in
    let w : way ≡ then_route r h = we ∙ ap (λ (n : ℕ). route_from n r) (ne ∙ ap (λ (x : HoistState). next_node x.flow) me) in
    ap (λ (x : Route). (lowering_of a).lower x head) w ∙ ap (λ (d : FlowGraph). (lowering_of a).lower (then_route r h) d) e

-- what an `if` with two parts is, from the parts that the code has
then_same : (a a' b' : Placed) (second : Place) (r : Route) (h : Hoisted Expr) (b : Placed) → a' ≡ a → b' ≡ b → second ≡ (lowering_of b').start
    → then_flow (lowering_of a') second r h ≡ then_flow (lowering_of a) (lowering_of b).start r h
then_same a a' b' second r h b same_a same_b se =
    ap (λ (x : Placed). then_flow (lowering_of x) second r h) same_a
    ∙ ap (λ (p : Place). then_flow (lowering_of a) p r h) (se ∙ ap (λ (x : Placed). (lowering_of x).start) same_b)

pub if_fault : (fault : BuildFault) (s : Stmt) (e : Expr) (a b a' b' : Placed) (second place : Place) (r : Route) (d : FlowGraph)
    → s ≡ If e a (Some b) → a' ≡ a → b' ≡ b → second ≡ (lowering_of b').start
    → Faults fault (then_flow (lowering_of a') second r (hoisted_expr e place r.from d)) → Faults fault ((lowering_at s place).lower r d)
if_fault fault s e a b a' b' second place r d is same_a same_b se f =
    let h = hoisted_expr e place r.from d in
    let part = then_flow (lowering_of a) (lowering_of b).start r h in
    let found : Faults fault part = subst (λ (x : FlowGraph). Faults fault x) (then_same a a' b' second r h b same_a same_b se) f in
    subst (λ (x : FlowGraph). Faults fault x) (sym (ap (λ (l : Lowering). l.lower r d) (if_form s e a b place is)))
    (faults_wider fault part _ (lowerings_widen b (else_route r h) part) found)

pub if_done : (s : Stmt) (e : Expr) (a b a' b' b'' : Placed) (second place : Place) (r way : Route) (d mid : FlowGraph) (node : ℕ)
    → s ≡ If e a (Some b) → a' ≡ a → b' ≡ b → b'' ≡ b → second ≡ (lowering_of b').start
    → node ≡ next_node (hoisted_expr e place r.from d).1.flow → way ≡ route_from (node + 1) r → mid ≡ then_flow (lowering_of a') second r (hoisted_expr e place r.from d)
    → (lowering_of b'').lower way mid ≡ (lowering_at s place).lower r d
if_done s e a b a' b' b'' second place r way d mid node is same_a same_b same_b' se ne we me =
    let h = hoisted_expr e place r.from d in
    ap (λ (x : Placed). (lowering_of x).lower way mid) same_b'
    ∙ ap (λ (x : Route). (lowering_of b).lower x mid) (we ∙ ap (λ (n : ℕ). route_from (n + 1) r) ne)
    ∙ ap (λ (x : FlowGraph). (lowering_of b).lower (else_route r h) x) (me ∙ then_same a a' b' second r h b same_a same_b se)
    ∙ sym (ap (λ (l : Lowering). l.lower r d) (if_form s e a b place is))

if_none_form : (s : Stmt) (e : Expr) (a : Placed) (place : Place) → s ≡ If e a None → lowering_at s place ≡ lowering_step (Stmt-F.If e (lowering_of a) None) place
if_none_form s e a place is = ap (λ (x : Stmt). lowering_at x place) is ∙ at_place (If e a None) place ∙ lowering-If place e a None

pub if_none_done : (s : Stmt) (e : Expr) (a a' : Placed) (place : Place) (r : Route) (d : FlowGraph) → s ≡ If e a None → a' ≡ a
    → if_flow (lowering_of a') None r (hoisted_expr e place r.from d) ≡ (lowering_at s place).lower r d
if_none_done s e a a' place r d is same =
    ap (λ (x : Placed). if_flow (lowering_of x) None r (hoisted_expr e place r.from d)) same
    ∙ sym (ap (λ (l : Lowering). l.lower r d) (if_none_form s e a place is))

-- ---- `while` and `do`

pub while_body_fault : (fault : BuildFault) (body : Placed) (start : Place) (r : Route) (test : Expr) (s : HoistState) → start ≡ (lowering_of body).start
    → Faults fault (with_node start s.flow) → Faults fault (while_flow (lowering_of body) r (test, s))
while_body_fault fault body start r test s same f =
    let head = while_head (lowering_of body).start r.to (test, s) in
    let opened : Faults fault (with_node (lowering_of body).start s.flow) = subst (λ (p : Place). Faults fault (with_node p s.flow)) same f in
    faults_wider fault (with_node (lowering_of body).start s.flow) _ (wider_then _ head _ (wider_edges _ head refl refl refl) (lowerings_widen body (while_route r (test, s)) head)) opened

test_widens : (e : Expr) (place : Place) (node : ℕ) (r : Route) (d : FlowGraph) → Wider d (do_test e place node r d)
test_widens e place node r d = wider_then d (hoisted_expr e place node d).1.flow _ (wider_expr e place node d) (wider_edges _ _ refl refl refl)

pub do_body_fault : (fault : BuildFault) (body : Placed) (e : Expr) (place : Place) (r way : Route) (node : ℕ) (d mid : FlowGraph)
    → node ≡ next_node d → way ≡ loop_route r.from node r.to → mid ≡ with_node place d
    → Faults fault ((lowering_of body).lower way mid) → Faults fault (do_flow (lowering_of body) e place r d)
do_body_fault fault body e place r way node d mid ne we me f =
    let lowered = (lowering_of body).lower (do_route r (next_node d)) (with_node place d) in
    let same : (lowering_of body).lower way mid ≡ lowered =
    ap (λ (x : Route). (lowering_of body).lower x mid) (we ∙ ap (λ (n : ℕ). loop_route r.from n r.to) ne)
    ∙ ap (λ (x : FlowGraph). (lowering_of body).lower (do_route r (next_node d)) x) me in
    faults_wider fault lowered _ (test_widens e place (next_node d) r lowered) (subst (λ (x : FlowGraph). Faults fault x) same f)

pub do_node_fault : (fault : BuildFault) (body : Placed) (e : Expr) (place : Place) (r : Route) (d : FlowGraph)
    → Faults fault (with_node place d) → Faults fault (do_flow (lowering_of body) e place r d)
do_node_fault fault body e place r d f =
    do_body_fault fault body e place r (do_route r (next_node d)) (next_node d) d (with_node place d) refl refl refl
    (faults_wider fault (with_node place d) _ (lowerings_widen body (do_route r (next_node d)) (with_node place d)) f)

-- ---- `for`

pub for_node_fault : (fault : BuildFault) (first : List Placed) (place : Place) (r : Route) (d : FlowGraph)
    → Faults fault (with_node place d) → Faults fault (for_first (map lowering_of first) place r d)
for_node_fault fault first place r d f = faults_wider fault (with_node place d) _ (wider_or_silent first (first_route r (next_node d)) (with_node place d)) f

pub for_head_fault : (fault : BuildFault) (body : Placed) (start last : Place) (r : Route) (test : Expr) (s : HoistState) → start ≡ (lowering_of body).start
    → Faults fault (for_head start last r.to (test, s)) → Faults fault (for_body (lowering_of body) last r (test, s))
for_head_fault fault body start last r test s same f =
    let head = for_head (lowering_of body).start last r.to (test, s) in
    let opened : Faults fault head = subst (λ (p : Place). Faults fault (for_head p last r.to (test, s))) same f in
    faults_wider fault head _ (lowerings_widen body (for_route r (test, s)) head) opened

module _ (s : Stmt) (first : List Placed) (test : Option Expr) (last : Option Placed) (body : Placed) (place : Place) (r : Route) (d : FlowGraph) (is : s ≡ For first test last body) where
  begun : FlowGraph
  begun = for_first (map lowering_of first) place r d

  tested : Hoisted Expr
  tested = hoisted_expr (condition test) place (next_node d) begun

  start : Place
  start = option_map_or (λ (l : Lowering). l.start) (option_map lowering_of last) place

  bodied : FlowGraph
  bodied = for_body (lowering_of body) start r tested

  whole : FlowGraph
  whole = part_or_silent (option_map lowering_of last) (last_route r (next_node d) tested) bodied

  is_whole : whole ≡ (lowering_at s place).lower r d
  unfolding whole bodied start tested begun
  is_whole = sym (ap (λ (l : Lowering). l.lower r d) (for_form s first test last body place is))

  part_widens : Wider bodied whole
  unfolding whole
  part_widens = wider_part last (last_route r (next_node d) tested) bodied

  flow_widens : Wider tested.1.flow whole
  unfolding whole bodied start
  flow_widens = wider_for_flow last body place (next_node d) r tested

  test_goes_on : Wider begun tested.1.flow
  unfolding tested
  test_goes_on = wider_expr (condition test) place (next_node d) begun

  told : (fault : BuildFault) → Faults fault whole → Faults fault ((lowering_at s place).lower r d)
  told fault f = subst (λ (x : FlowGraph). Faults fault x) is_whole f

  pub for_first_fault : (fault : BuildFault) (first' : List Placed) → first' ≡ first → Faults fault (for_first (map lowering_of first') place r d) → Faults fault ((lowering_at s place).lower r d)
  unfolding begun
  for_first_fault fault first' same f =
      told fault (faults_wider fault begun whole (wider_then begun tested.1.flow whole test_goes_on flow_widens)
      (subst (λ (ps : List Placed). Faults fault (for_first (map lowering_of ps) place r d)) same f))

  -- the state from which the test is hoisted
  tested_same : (first' : List Placed) (node : ℕ) (mid : FlowGraph) → first' ≡ first → node ≡ next_node d → mid ≡ for_first (map lowering_of first') place r d
      → hoisted_expr (condition test) place node mid ≡ tested
  unfolding tested begun
  tested_same first' node mid same ne me =
      ap (λ (n : ℕ). hoisted_expr (condition test) place n mid) ne
      ∙ ap (λ (x : FlowGraph). hoisted_expr (condition test) place (next_node d) x) (me ∙ ap (λ (ps : List Placed). for_first (map lowering_of ps) place r d) same)

  pub for_test_fault : (fault : BuildFault) (first' : List Placed) (node : ℕ) (mid : FlowGraph) → first' ≡ first → node ≡ next_node d → mid ≡ for_first (map lowering_of first') place r d
      → Faults fault (hoisted_expr (condition test) place node mid).1.flow → Faults fault ((lowering_at s place).lower r d)
  for_test_fault fault first' node mid same ne me f =
      told fault (faults_wider fault tested.1.flow whole flow_widens (subst (λ (h : Hoisted Expr). Faults fault h.1.flow) (tested_same first' node mid same ne me) f))

  -- the body, from the parts that the code has
  bodied_same : (first' : List Placed) (node : ℕ) (mid : FlowGraph) (body' : Placed) (last' : Place) (value : Expr) (state : HoistState)
      → first' ≡ first → node ≡ next_node d → mid ≡ for_first (map lowering_of first') place r d
      → body' ≡ body → last' ≡ option_map_or (λ (l : Lowering). l.start) (option_map lowering_of last) place
      → value ≡ (hoisted_expr (condition test) place node mid).0 → state ≡ (hoisted_expr (condition test) place node mid).1
      → for_body (lowering_of body') last' r (value, state) ≡ bodied
  unfolding bodied start
  bodied_same first' node mid body' last' value state same ne me same_body le ve se =
      let t = tested_same first' node mid same ne me in
      ap (λ (x : Placed). for_body (lowering_of x) last' r (value, state)) same_body
      ∙ ap (λ (p : Place). for_body (lowering_of body) p r (value, state)) le
      ∙ ap (λ (x : Expr). for_body (lowering_of body) start r (x, state)) (ve ∙ ap (λ (h : Hoisted Expr). h.0) t)
      ∙ ap (λ (x : HoistState). for_body (lowering_of body) start r (tested.0, x)) (se ∙ ap (λ (h : Hoisted Expr). h.1) t)

  pub for_body_fault : (fault : BuildFault) (first' : List Placed) (node : ℕ) (mid : FlowGraph) (body' : Placed) (last' : Place) (value : Expr) (state : HoistState)
      → first' ≡ first → node ≡ next_node d → mid ≡ for_first (map lowering_of first') place r d
      → body' ≡ body → last' ≡ option_map_or (λ (l : Lowering). l.start) (option_map lowering_of last) place
      → value ≡ (hoisted_expr (condition test) place node mid).0 → state ≡ (hoisted_expr (condition test) place node mid).1
      → Faults fault (for_body (lowering_of body') last' r (value, state)) → Faults fault ((lowering_at s place).lower r d)
  for_body_fault fault first' node mid body' last' value state same ne me same_body le ve se f =
      told fault (faults_wider fault bodied whole part_widens
      (subst (λ (x : FlowGraph). Faults fault x) (bodied_same first' node mid body' last' value state same ne me same_body le ve se) f))

  pub for_done : (first' : List Placed) (node : ℕ) (mid : FlowGraph) (body' : Placed) (last' : Place) (value : Expr) (state : HoistState) (inside : ℕ) (after : FlowGraph) (way : Route)
      → first' ≡ first → node ≡ next_node d → mid ≡ for_first (map lowering_of first') place r d
      → body' ≡ body → last' ≡ option_map_or (λ (l : Lowering). l.start) (option_map lowering_of last) place
      → value ≡ (hoisted_expr (condition test) place node mid).0 → state ≡ (hoisted_expr (condition test) place node mid).1
      → inside ≡ next_node state.flow → after ≡ for_body (lowering_of body') last' r (value, state) → way ≡ loop_route (inside + 1) node r.to
      → part_or_silent (option_map lowering_of last) way after ≡ (lowering_at s place).lower r d
  unfolding whole
  for_done first' node mid body' last' value state inside after way same ne me same_body le ve se ie ae we =
      let t = tested_same first' node mid same ne me in
      let st : state ≡ tested.1 = se ∙ ap (λ (h : Hoisted Expr). h.1) t in
      let w : way ≡ last_route r (next_node d) tested =
      we
      ∙ ap (λ (n : ℕ). loop_route (n + 1) node r.to) (ie ∙ ap (λ (x : HoistState). next_node x.flow) st)
      ∙ ap (λ (n : ℕ). loop_route (next_node tested.1.flow + 1) n r.to) ne in
      let b : after ≡ bodied = ae ∙ bodied_same first' node mid body' last' value state same ne me same_body le ve se in
      ap (λ (x : Route). part_or_silent (option_map lowering_of last) x after) w
      ∙ ap (λ (x : FlowGraph). part_or_silent (option_map lowering_of last) (last_route r (next_node d) tested) x) b
      ∙ is_whole

-- ---- lists of statements

-- the first i statements are lowered, and the next one begins at a node
pub record SequenceFrom (all : List Placed) (i from : ℕ) (r : Route) (first now : FlowGraph) : Type 0 where
  pub same : sequence (map lowering_of (drop i all)) (route_from from r) now ≡ sequence (map lowering_of all) r first

pub sequence_begun : (all : List Placed) (r : Route) (d : FlowGraph) → SequenceFrom all 0 r.from r d d
sequence_begun all r d = record { same = refl }

pub sequence_goes_on : (all : List Placed) (i from : ℕ) (r way : Route) (first now mid after : FlowGraph) (x y : Placed) (place : Place) (node : ℕ)
    → SequenceFrom all i from r first now → i + 1 < length all → x ≡ get_or all i x → y ≡ get_or all (i + 1) y
    → place ≡ (lowering_of y).start → node ≡ next_node now → mid ≡ with_node place now → way ≡ route_to node (route_from from r) → after ≡ (lowering_of x).lower way mid
    → SequenceFrom all (i + 1) node r first after
sequence_goes_on all i from r way first now mid after x y place node so_far h at_x at_y se ne me we ae =
    let next = (lowering_of x).lower (route_to (next_node now) (route_from from r)) (with_node (lowering_of y).start now) in
    let e : after ≡ next =
    ae
    ∙ ap (λ (w : Route). (lowering_of x).lower w mid) (we ∙ ap (λ (n : ℕ). route_to n (route_from from r)) ne)
    ∙ ap (λ (m : FlowGraph). (lowering_of x).lower (route_to (next_node now) (route_from from r)) m) (me ∙ ap (λ (p : Place). with_node p now) se) in
    record {
      same =
          ap (λ (z : FlowGraph). sequence (map lowering_of (drop (i + 1) all)) (route_from node r) z) e
          ∙ ap (λ (n : ℕ). sequence (map lowering_of (drop (i + 1) all)) (route_from n r) next) ne
          ∙ sym (sequence_more all i x y (route_from from r) now h at_x at_y)
          ∙ so_far.same;
    }

same_member : {A : Type 0} (xs : List A) (i : ℕ) (d d' : A) → i < length xs → get_or xs i d ≡ get_or xs i d'
same_member [] i d d' h = absurd (omega arith)
same_member (x ∷ xs) zero d d' h = refl
same_member (x ∷ xs) (suc i) d d' h = same_member xs i d d' (omega arith)

pub next_node_fault : (fault : BuildFault) (all : List Placed) (i from : ℕ) (r : Route) (first now : FlowGraph) (y : Placed) (place : Place)
    → SequenceFrom all i from r first now → i + 1 < length all → y ≡ get_or all (i + 1) y → place ≡ (lowering_of y).start
    → Faults fault (with_node place now) → Faults fault (sequence (map lowering_of all) r first)
next_node_fault fault all i from r first now y place so_far h at_y se f =
    let opened : Faults fault (with_node (lowering_of y).start now) = subst (λ (p : Place). Faults fault (with_node p now)) se f in
    let at_x = same_member all i y (get_or all i y) (omega (arith, h)) in
    subst (λ (z : FlowGraph). Faults fault z) so_far.same (sequence_node_fault fault all i (get_or all i y) y (route_from from r) now h at_x at_y opened)

pub statement_fault : (fault : BuildFault) (all : List Placed) (i from : ℕ) (r way : Route) (first now mid : FlowGraph) (x y : Placed) (place : Place) (node : ℕ)
    → SequenceFrom all i from r first now → i + 1 < length all → x ≡ get_or all i x → y ≡ get_or all (i + 1) y
    → place ≡ (lowering_of y).start → node ≡ next_node now → mid ≡ with_node place now → way ≡ route_to node (route_from from r)
    → Faults fault ((lowering_of x).lower way mid) → Faults fault (sequence (map lowering_of all) r first)
statement_fault fault all i from r way first now mid x y place node so_far h at_x at_y se ne me we f =
    let e : (lowering_of x).lower way mid ≡ (lowering_of x).lower (route_to (next_node now) (route_from from r)) (with_node (lowering_of y).start now) =
    ap (λ (w : Route). (lowering_of x).lower w mid) (we ∙ ap (λ (n : ℕ). route_to n (route_from from r)) ne)
    ∙ ap (λ (m : FlowGraph). (lowering_of x).lower (route_to (next_node now) (route_from from r)) m) (me ∙ ap (λ (p : Place). with_node p now) se) in
    subst (λ (z : FlowGraph). Faults fault z) so_far.same
    (sequence_lower_fault fault all i x y (route_from from r) now h at_x at_y (subst (λ (z : FlowGraph). Faults fault z) e f))

pub sequence_done : (all : List Placed) (i from : ℕ) (r way : Route) (first now : FlowGraph) (x : Placed)
    → SequenceFrom all i from r first now → i + 1 ≡ length all → x ≡ get_or all i x → way ≡ route_from from r
    → (lowering_of x).lower way now ≡ sequence (map lowering_of all) r first
sequence_done all i from r way first now x so_far h at_x we =
    ap (λ (w : Route). (lowering_of x).lower w now) we ∙ sym (sequence_last all i x (route_from from r) now h at_x) ∙ so_far.same
