-- The edges of what lies in a graph are edges of it.
use Rattle.std.proofs.Common.{◌≡◌, refl, sym, ap, ◌∙◌, subst, inl, inr, ℕ, zero, suc, ◌+◌, ◌<◌, true, false, List, [], ◌∷◌, ◌++◌, length, map, Option, None, Some, arith, length-append}
use Rattle.std.specs.Prelude.{slice_index_or, ◌⊎◌}
use Rattle.std.specs.List.{Contains}
use Rattle.std.specs.Option.{option_map, option_map_or}
use Rattle.gob_tree.specs.declared.place.Place.{Place}
use Rattle.gob_tree.specs.declared.expr.Expr.{Expr}
use Rattle.gob_tree.specs.declared.stmt.Stmt.{Stmt, If, While, DoWhile, For}
use Rattle.gob_tree.specs.declared.stmt.Stmt.TheVariants.{outs-While, outs-DoWhile, outs-For}
use Rattle.gob_tree.specs.declared.stmt.Stmt.TheOpen.{Stmt-F}
use Rattle.gob_tree.specs.declared.stmt.Placed.{Placed}
use Rattle.gob_tree.specs.declared.unit.Function.{Function}
use Rattle.gob_tree.specs.declared.graph.Action.TheVariants.{Guard, Skip}
use Rattle.c_meaning.specs.declared.config.Todo.{Todo}
use Rattle.c_meaning.specs.declared.config.Todo.TheVariants.{Stmt as Doing, Test, Last}
use Rattle.c_meaning.specs.Graph.{MarkedEdge, FlowGraph, Route, Lowering, lowering_of, next_node, with_node, with_marked, hoisted_expr, condition, sequence, if_head, while_head, for_first, then_route, else_route, while_route, do_route, for_route, last_route, last_node, route_to, route_from, part_or_silent, flow_of}
use Rattle.c_meaning.specs.Tree.{turn_of, layer_of, test_exprs}
use Rattle.c_meaning.proofs.Lowerings.{lowering-If, lowering-While, lowering-DoWhile, lowering-For, lowering-Block}
use Rattle.graph_law.specs.Lying.{at, start_of, for_condition, for_opened, Piece, alone, first_of, then_part, else_part, while_body, do_body, for_body, Series, body, behind, in_block, for_firsts, TestsAt, at_while, at_do, at_for, without_first, without_last, LastAt, at_last, Lies, does, tests, lasts}
use Rattle.graph_law.specs.Laying.{Extends, HasEdge, Laid, StatementsAreLaid, Splits, BranchesLie, WhilesLie, Tested, TestsLie, IsLastPart, last_of, LastPartsLie}
use Rattle.graph_law.proofs.Extending.{extends_none, extends_then, extends_node, extends_edge, expr_extends, for_head_extends, extends_guards, PartExtends, sequence_extends, lowerings_extend, every_extends, part_extends, for_rest_extends, do_rest_extends}

-- ---- what a piece draws

pub part_grows : (last : Option Placed) → PartExtends (option_map lowering_of last)
part_grows None = tt
part_grows (Some l) = lowerings_extend l

-- a statement's graph by the form of the statement
pub drawn_as : (f : Function) (s : Placed) (l : Lowering) (r : Route) (d : FlowGraph) → lowering_of s ≡ l → Extends ((lowering_of s).lower r d) (flow_of f) → Extends (l.lower r d) (flow_of f)
drawn_as f s l r d e x = subst (λ (m : Lowering). Extends (m.lower r d) (flow_of f)) e x

module _ (f : Function) where
  mutual
    piece_drawn : (s : Placed) (r : Route) (d : FlowGraph) → Piece f s r d → Extends ((lowering_of s).lower r d) (flow_of f)
    piece_drawn _ _ _ (alone s r d series) = series_drawn (s ∷ []) r d series
    piece_drawn _ _ _ (first_of s s' ss r d series) =
        let mid = (lowering_of s).lower (route_to (next_node d) r) (with_node (start_of s') d) in
        extends_then mid _ (flow_of f)
        (sequence_extends (map lowering_of (s' ∷ ss)) (every_extends (s' ∷ ss)) (route_from (next_node d) r) mid)
        (series_drawn (s ∷ s' ∷ ss) r d series)
    piece_drawn _ _ _ (then_part place e a None r d piece) = drawn_as f _ _ r d (lowering-If place e a None) (piece_drawn (at place (If e a None)) r d piece)
    piece_drawn _ _ _ (then_part place e a (Some b) r d piece) =
        let h = hoisted_expr e place r.from d in
        let mid = (lowering_of a).lower (then_route r h) (if_head (start_of a) (Some (start_of b)) r.to h) in
        extends_then mid _ (flow_of f) (lowerings_extend b (else_route r h) mid)
        (drawn_as f _ _ r d (lowering-If place e a (Some b)) (piece_drawn (at place (If e a (Some b))) r d piece))
    piece_drawn _ _ _ (else_part place e a b r d piece) = drawn_as f _ _ r d (lowering-If place e a (Some b)) (piece_drawn (at place (If e a (Some b))) r d piece)
    piece_drawn _ _ _ (while_body place e b r d piece) = drawn_as f _ _ r d (lowering-While place e b) (piece_drawn _ r d piece)
    piece_drawn _ _ _ (do_body place e b r d piece) =
        extends_then _ _ (flow_of f) (do_rest_extends (lowering_of b) e place r d) (drawn_as f _ _ r d (lowering-DoWhile place b e) (piece_drawn _ r d piece))
    piece_drawn _ _ _ (for_body place first test None b r d piece) =
        let mid = (lowering_of b).lower (for_route r (for_condition place first test r d)) (for_opened place first test None b r d) in
        extends_then mid _ (flow_of f) (part_extends None tt (last_route r (next_node d) (for_condition place first test r d)) mid)
        (drawn_as f _ _ r d (lowering-For place first test None b) (piece_drawn _ r d piece))
    piece_drawn _ _ _ (for_body place first test (Some last) b r d piece) =
        let mid = (lowering_of b).lower (for_route r (for_condition place first test r d)) (for_opened place first test (Some last) b r d) in
        extends_then mid _ (flow_of f) (part_extends (Some (lowering_of last)) (lowerings_extend last) (last_route r (next_node d) (for_condition place first test r d)) mid)
        (drawn_as f _ _ r d (lowering-For place first test (Some last) b) (piece_drawn _ r d piece))

    series_drawn : (ss : List Placed) (r : Route) (d : FlowGraph) → Series f ss r d → Extends (sequence (map lowering_of ss) r d) (flow_of f)
    series_drawn _ _ _ body = extends_none (flow_of f)
    series_drawn _ _ _ (behind s s' ss r d series) = series_drawn (s ∷ s' ∷ ss) r d series
    series_drawn _ _ _ (in_block place all r d piece) = drawn_as f _ _ r d (lowering-Block place all) (piece_drawn _ r d piece)
    series_drawn _ _ _ (for_firsts place s ss test last b r d piece) =
        extends_then _ _ (flow_of f)
        (for_rest_extends test (option_map lowering_of last) (lowering_of b) (part_grows last) (lowerings_extend b) place (next_node d) r (for_first (map lowering_of (s ∷ ss)) place r d))
        (drawn_as f _ _ r d (lowering-For place (s ∷ ss) test last b) (piece_drawn _ r d piece))

pub statements_are_laid : StatementsAreLaid
statements_are_laid f _ _ _ (does s rest r d piece to breaks continues) =
    record { route = r; graph = d; begins = refl; drawn = piece_drawn f s r d piece; next = to; breaks = breaks; continues = continues }

-- ---- edges that are there

index_left : {A : Type 0} (xs ys : List A) (i : ℕ) (d : A) → i < length xs → slice_index_or (xs ++ ys) i d ≡ slice_index_or xs i d
index_left [] ys i d h = absurd (omega arith)
index_left (x ∷ xs) ys zero d h = refl
index_left (x ∷ xs) ys (suc i) d h = index_left xs ys i d (omega arith)

index_behind : {A : Type 0} (xs : List A) (x : A) (ys : List A) (d : A) → slice_index_or (xs ++ x ∷ ys) (length xs) d ≡ x
index_behind [] x ys d = refl
index_behind (y ∷ xs) x ys d = index_behind xs x ys d

there_behind : (xs : List MarkedEdge) (x : MarkedEdge) → Contains (xs ++ x ∷ []) x
there_behind xs x = (length xs, (let k = length-append xs (x ∷ []) in omega (arith, k)), index_behind xs x [] x)

there_before : (xs ys : List MarkedEdge) (x : MarkedEdge) → Contains xs x → Contains (xs ++ ys) x
there_before xs ys x c = (c.0, (let k = length-append xs ys in let h = c.1 in omega (arith, k, h)), index_left xs ys c.0 x c.1 ∙ c.2)

still_there : (a b : FlowGraph) (x : MarkedEdge) → Extends a b → Contains a.edges x → Contains b.edges x
still_there a b x e c = subst (λ (l : List MarkedEdge). Contains l x) (sym e.edges) (there_before a.edges e.more x c)

-- both guards behind a graph
pub guards_there : (from : ℕ) (e : Expr) (p q : ℕ) (d : FlowGraph) (f : Function) → Extends (with_marked false from (Guard e false) q (with_marked false from (Guard e true) p d)) (flow_of f) → HasEdge f false from (Guard e true) p × HasEdge f false from (Guard e false) q
guards_there from e p q d f x =
    let one = with_marked false from (Guard e true) p d in
    let two = with_marked false from (Guard e false) q one in (
      still_there two (flow_of f) _ x (still_there one two _ (extends_edge false from (Guard e false) q one) (there_behind d.edges _)),
      still_there two (flow_of f) _ x (there_behind one.edges _),
    )

-- ---- parts

-- what a condition's guards lead to, where they stand behind a graph that holds the hoisting
splits_by : (f : Function) (e : Expr) (place : Place) (n : ℕ) (d : FlowGraph) (p q : ℕ) (opened : FlowGraph) (holds fails : List Todo)
    → Extends (hoisted_expr e place n d).1.flow opened
    → Extends (with_marked false (hoisted_expr e place n d).1.at (Guard (hoisted_expr e place n d).0 false) q (with_marked false (hoisted_expr e place n d).1.at (Guard (hoisted_expr e place n d).0 true) p opened)) (flow_of f)
    → Lies f holds p → Lies f fails q → Splits f e place n holds fails
splits_by f e place n d p q opened holds fails low high a b =
    let h = hoisted_expr e place n d in
    let g = guards_there h.1.at h.0 p q opened f high in
    record {
      graph = d;
      hoisted = extends_then h.1.flow opened (flow_of f) low (extends_then opened _ (flow_of f) (extends_guards false h.1.at h.0 p q opened) high);
      on_true = p;
      on_false = q;
      guard_true = g.0;
      guard_false = g.1;
      then_lies = a;
      else_lies = b;
    }

pub branches_lie : BranchesLie
branches_lie f place e a None _ _ (does _ rest r d piece to breaks continues) =
    let h = hoisted_expr e place r.from d in
    let head = if_head (start_of a) None r.to h in
    splits_by f e place r.from d (next_node h.1.flow) r.to (with_node (start_of a) h.1.flow) (Doing a ∷ rest) rest
    (extends_node (start_of a) h.1.flow)
    (extends_then head _ (flow_of f) (lowerings_extend a (then_route r h) head) (drawn_as f _ _ r d (lowering-If place e a None) (piece_drawn f (at place (If e a None)) r d piece)))
    (does a rest (then_route r h) _ (then_part place e a None r d piece) to breaks continues)
    to
branches_lie f place e a (Some b) _ _ (does _ rest r d piece to breaks continues) =
    let h = hoisted_expr e place r.from d in
    let head = if_head (start_of a) (Some (start_of b)) r.to h in
    let mid = (lowering_of a).lower (then_route r h) head in
    splits_by f e place r.from d (next_node h.1.flow) (next_node h.1.flow + 1) (with_node (start_of b) (with_node (start_of a) h.1.flow)) (Doing a ∷ rest) (Doing b ∷ rest)
    (extends_then h.1.flow (with_node (start_of a) h.1.flow) _ (extends_node (start_of a) h.1.flow) (extends_node (start_of b) (with_node (start_of a) h.1.flow)))
    (extends_then head mid (flow_of f) (lowerings_extend a (then_route r h) head)
    (extends_then mid _ (flow_of f) (lowerings_extend b (else_route r h) mid) (drawn_as f _ _ r d (lowering-If place e a (Some b)) (piece_drawn f (at place (If e a (Some b))) r d piece))))
    (does a rest (then_route r h) _ (then_part place e a (Some b) r d piece) to breaks continues)
    (does b rest (else_route r h) _ (else_part place e a b r d piece) to breaks continues)

-- a `while` that stands at a node
while_splits : (f : Function) (place : Place) (e : Expr) (b : Placed) (rest : List Todo) (r : Route) (d : FlowGraph) → Piece f (at place (While e b)) r d → Lies f rest r.to → Splits f e place r.from (Doing b ∷ Test (at place (While e b)) ∷ rest) rest
while_splits f place e b rest r d piece to =
    let h = hoisted_expr e place r.from d in
    let own = at place (While e b) in
    let head = while_head (start_of b) r.to h in
    let test : Lies f (Test own ∷ rest) r.from = tests own rest r d r.from piece (at_while place e b r d) to in
    splits_by f e place r.from d (next_node h.1.flow) r.to (with_node (start_of b) h.1.flow) (Doing b ∷ Test own ∷ rest) rest
    (extends_node (start_of b) h.1.flow)
    (extends_then head _ (flow_of f) (lowerings_extend b (while_route r h) head) (drawn_as f _ _ r d (lowering-While place e b) (piece_drawn f (at place (While e b)) r d piece)))
    (does b (Test own ∷ rest) (while_route r h) _ (while_body place e b r d piece) test to test)
    to

pub whiles_lie : WhilesLie
whiles_lie f place e b _ _ (does _ rest r d piece to breaks continues) = while_splits f place e b rest r d piece to

do_splits : (f : Function) (place : Place) (b : Placed) (e : Expr) (rest : List Todo) (r : Route) (d : FlowGraph) → Piece f (at place (DoWhile b e)) r d → Lies f rest r.to → Splits f e place (next_node d) (Doing b ∷ Test (at place (DoWhile b e)) ∷ rest) rest
do_splits f place b e rest r d piece to =
    let own = at place (DoWhile b e) in
    let mid = (lowering_of b).lower (do_route r (next_node d)) (with_node place d) in
    let h = hoisted_expr e place (next_node d) mid in
    let test : Lies f (Test own ∷ rest) (next_node d) = tests own rest r d (next_node d) piece (at_do place e b r d) to in
    splits_by f e place (next_node d) mid r.from r.to h.1.flow (Doing b ∷ Test own ∷ rest) rest
    (extends_none h.1.flow)
    (drawn_as f _ _ r d (lowering-DoWhile place b e) (piece_drawn f own r d piece))
    (does b (Test own ∷ rest) (do_route r (next_node d)) (with_node place d) (do_body place e b r d piece) test to test)
    to

-- all that is drawn behind a `for`'s head
for_drawn : (f : Function) (place : Place) (first : List Placed) (test : Option Expr) (last : Option Placed) (b : Placed) (r : Route) (d : FlowGraph) → Piece f (at place (For first test last b)) r d
    → Extends (part_or_silent (option_map lowering_of last) (last_route r (next_node d) (for_condition place first test r d)) ((lowering_of b).lower (for_route r (for_condition place first test r d)) (for_opened place first test last b r d))) (flow_of f)
for_drawn f place first test None b r d piece = drawn_as f _ _ r d (lowering-For place first test None b) (piece_drawn f _ r d piece)
for_drawn f place first test (Some last) b r d piece = drawn_as f _ _ r d (lowering-For place first test (Some last) b) (piece_drawn f _ r d piece)

head_drawn : (f : Function) (place : Place) (first : List Placed) (test : Option Expr) (last : Option Placed) (b : Placed) (r : Route) (d : FlowGraph) → Piece f (at place (For first test last b)) r d
    → Extends (for_opened place first test last b r d) (flow_of f)
head_drawn f place first test last b r d piece =
    let h = for_condition place first test r d in
    let head = for_opened place first test last b r d in
    let mid = (lowering_of b).lower (for_route r h) head in
    extends_then head mid (flow_of f) (lowerings_extend b (for_route r h) head)
    (extends_then mid _ (flow_of f) (part_extends (option_map lowering_of last) (part_grows last) (last_route r (next_node d) h) mid) (for_drawn f place first test last b r d piece))

for_splits : (f : Function) (place : Place) (first : List Placed) (test : Option Expr) (last : Option Placed) (b : Placed) (rest : List Todo) (r : Route) (d : FlowGraph) (holds : List Todo) → Piece f (at place (For first test last b)) r d → Lies f holds (next_node (for_condition place first test r d).1.flow) → Lies f rest r.to → Splits f (condition test) place (next_node d) holds rest
for_splits f place first test last b rest r d holds piece a to =
    let begun = for_first (map lowering_of first) place r d in
    let h = for_condition place first test r d in
    let last_start = option_map_or start_of last place in
    splits_by f (condition test) place (next_node d) begun (next_node h.1.flow) r.to (with_node last_start (with_node (start_of b) h.1.flow)) holds rest
    (extends_then h.1.flow (with_node (start_of b) h.1.flow) _ (extends_node (start_of b) h.1.flow) (extends_node last_start (with_node (start_of b) h.1.flow)))
    (head_drawn f place first test last b r d piece)
    a to

-- the condition of a `for` as the tree evaluates it
for_exprs : (place : Place) (first : List Placed) (test : Option Expr) (last : Option Placed) (b : Placed) → test_exprs (layer_of (at place (For first test last b))) ≡ condition test ∷ []
for_exprs place first None last b = ap test_exprs (outs-For first None last b)
for_exprs place first (Some e) last b = ap test_exprs (outs-For first (Some e) last b)

for_tested : (f : Function) (place : Place) (first : List Placed) (test : Option Expr) (last : Option Placed) (b : Placed) (rest : List Todo) (r : Route) (d : FlowGraph) → Piece f (at place (For first test last b)) r d → Lies f rest r.to → Tested f (at place (For first test last b)) rest (next_node d)
for_tested f place first test None b rest r d piece to =
    let own = at place (For first test None b) in
    let h = for_condition place first test r d in
    let back : Lies f (Test own ∷ rest) (last_node h) = tests own rest r d (last_node h) piece (without_last place first test b r d) to in
    let turn : Lies f (Doing b ∷ Test own ∷ rest) (next_node h.1.flow) = does b (Test own ∷ rest) (for_route r h) _ (for_body place first test None b r d piece) back to back in
    record {
      condition = condition test;
      exprs = for_exprs place first test None b;
      splits = for_splits f place first test None b rest r d (turn_of (layer_of own) own rest) piece
          (subst (λ (x : Stmt-F Stmt Placed). Lies f (turn_of x own rest) (next_node h.1.flow)) (sym (outs-For first test None b)) turn) to;
    }
for_tested f place first test (Some last) b rest r d piece to =
    let own = at place (For first test (Some last) b) in
    let h = for_condition place first test r d in
    let back : Lies f (Last own ∷ Test own ∷ rest) (last_node h) = lasts own rest r d (last_node h) piece (at_last place first test last b r d) to in
    let turn : Lies f (Doing b ∷ Last own ∷ Test own ∷ rest) (next_node h.1.flow) = does b (Last own ∷ Test own ∷ rest) (for_route r h) _ (for_body place first test (Some last) b r d piece) back to back in
    record {
      condition = condition test;
      exprs = for_exprs place first test (Some last) b;
      splits = for_splits f place first test (Some last) b rest r d (turn_of (layer_of own) own rest) piece
          (subst (λ (x : Stmt-F Stmt Placed). Lies f (turn_of x own rest) (next_node h.1.flow)) (sym (outs-For first test (Some last) b)) turn) to;
    }

-- the silent skips of missing parts
pub skips_first : (f : Function) (place : Place) (test : Option Expr) (last : Option Placed) (b : Placed) (r : Route) (d : FlowGraph) → Piece f (at place (For [] test last b)) r d → HasEdge f true r.from Skip (next_node d)
skips_first f place test last b r d piece =
    let begun = for_first [] place r d in
    let h = for_condition place [] test r d in
    let head = for_opened place [] test last b r d in
    still_there begun (flow_of f) _
    (extends_then begun h.1.flow (flow_of f) (expr_extends (condition test) place (next_node d) begun)
    (extends_then h.1.flow head (flow_of f) (for_head_extends (start_of b) (option_map_or start_of last place) r.to h) (head_drawn f place [] test last b r d piece)))
    (there_behind (with_node place d).edges _)

pub skips_last : (f : Function) (place : Place) (first : List Placed) (test : Option Expr) (b : Placed) (r : Route) (d : FlowGraph) → Piece f (at place (For first test None b)) r d → HasEdge f true (last_node (for_condition place first test r d)) Skip (next_node d)
skips_last f place first test b r d piece =
    let h = for_condition place first test r d in
    let mid = (lowering_of b).lower (for_route r h) (for_opened place first test None b r d) in
    still_there (part_or_silent None (last_route r (next_node d) h) mid) (flow_of f) _ (for_drawn f place first test None b r d piece) (there_behind mid.edges _)

tested_at : (f : Function) (l : Placed) (rest : List Todo) (r : Route) (d : FlowGraph) (n : ℕ) → Piece f l r d → Lies f rest r.to → TestsAt l r d n → (h : ℕ) × ((h ≡ n) ⊎ HasEdge f true n Skip h) × Tested f l rest h
tested_at f _ rest r d _ piece to (at_while place e b _ _) =
    let own = at place (While e b) in (
      r.from,
      inl refl,
      record {
        condition = e;
        exprs = ap test_exprs (outs-While e b);
        splits = subst (λ (x : Stmt-F Stmt Placed). Splits f e place r.from (turn_of x own rest) rest) (sym (outs-While e b)) (while_splits f place e b rest r d piece to);
      },
    )
tested_at f _ rest r d _ piece to (at_do place e b _ _) =
    let own = at place (DoWhile b e) in (
      next_node d,
      inl refl,
      record {
        condition = e;
        exprs = ap test_exprs (outs-DoWhile b e);
        splits = subst (λ (x : Stmt-F Stmt Placed). Splits f e place (next_node d) (turn_of x own rest) rest) (sym (outs-DoWhile b e)) (do_splits f place b e rest r d piece to);
      },
    )
tested_at f _ rest r d _ piece to (at_for place first test last b _ _) = (next_node d, inl refl, for_tested f place first test last b rest r d piece to)
tested_at f _ rest r d _ piece to (without_first place test last b _ _) = (next_node d, inr (skips_first f place test last b r d piece), for_tested f place [] test last b rest r d piece to)
tested_at f _ rest r d _ piece to (without_last place first test b _ _) = (next_node d, inr (skips_last f place first test b r d piece), for_tested f place first test None b rest r d piece to)

pub tests_lie : TestsLie
tests_lie f _ _ _ (tests l rest r d n piece where_at to) = tested_at f l rest r d n piece to where_at

last_at : (f : Function) (l : Placed) (rest : List Todo) (r : Route) (d : FlowGraph) (n : ℕ) → Piece f l r d → Lies f rest r.to → LastAt l r d n → (last : Placed) × IsLastPart l last × Laid f last (Test l ∷ rest) n
last_at f _ rest r d _ piece to (at_last place first test last b _ _) =
    let own = at place (For first test (Some last) b) in
    let h = for_condition place first test r d in
    let next : Lies f (Test own ∷ rest) (next_node d) = tests own rest r d (next_node d) piece (at_for place first test (Some last) b r d) to in (
      last,
      last_of place first test last b,
      record {
        route = last_route r (next_node d) h;
        graph = (lowering_of b).lower (for_route r h) (for_opened place first test (Some last) b r d);
        begins = refl;
        drawn = for_drawn f place first test (Some last) b r d piece;
        next = next;
        breaks = to;
        continues = next;
      },
    )

pub last_parts_lie : LastPartsLie
last_parts_lie f _ _ _ (lasts l rest r d n piece where_at to) = last_at f l rest r d n piece to where_at
