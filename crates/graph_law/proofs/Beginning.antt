-- What lies in a graph begins there as standing says it.
use Rattle.std.proofs.Common.{◌≡◌, refl, sym, ap, ◌∙◌, subst, inl, inr, ℕ, zero, suc, ◌<◌, true, List, [], ◌∷◌, ◌++◌, length, map, Option, None, Some, arith, length-append}
use Rattle.std.specs.Prelude.{slice_index_or, ◌⊎◌}
use Rattle.std.specs.List.{Contains}
use Rattle.std.specs.Option.{option_map, option_map_or}
use Rattle.gob_tree.specs.declared.place.Place.{Place}
use Rattle.gob_tree.specs.declared.expr.Expr.{Expr}
use Rattle.gob_tree.specs.declared.stmt.Stmt.{Stmt, out-Stmt, If, While, DoWhile, For, Block}
use Rattle.gob_tree.specs.declared.stmt.Stmt.TheOpen.{Stmt-F}
use Rattle.gob_tree.specs.declared.stmt.Stmt.TheVariants.{outs-If, outs-While, outs-DoWhile, outs-For, outs-Block}
use Rattle.gob_tree.specs.declared.stmt.Placed.{Placed}
use Rattle.gob_tree.specs.declared.unit.Function.{Function}
use Rattle.gob_tree.specs.declared.graph.Action.TheVariants.{Skip}
use Rattle.c_meaning.specs.declared.config.Todo.TheVariants.{Stmt as Doing, Test, Last}
use Rattle.c_meaning.specs.Graph.{FlowGraph, Route, Lowering, lowering_of, hoisted_expr, condition, for_first, for_head, next_node, with_node, first_route, for_route, last_node}
use Rattle.c_meaning.specs.Walk.{Begun, Beginning, begun_in, begun_of, sequence_begun, last_begun, stmt_begun, parts_begun}
use Rattle.c_meaning.proofs.Begins.{parted, begun_is}
use Rattle.graph_law.specs.Lying.{at, start_of, for_condition, for_opened, Piece, alone, first_of, then_part, else_part, while_body, do_body, for_body, Series, body, behind, in_block, for_firsts, TestsAt, at_while, at_do, at_for, without_first, without_last, LastAt, at_last, does, tests, lasts}
use Rattle.graph_law.specs.Laying.{HasEdge, ThingsBegin}
use Rattle.graph_law.proofs.Laying.{skips_first, skips_last}

-- ---- lists

index_left : {A : Type 0} (xs ys : List A) (i : ℕ) (d : A) → i < length xs → slice_index_or (xs ++ ys) i d ≡ slice_index_or xs i d
index_left [] ys i d h = absurd (omega arith)
index_left (x ∷ xs) ys zero d h = refl
index_left (x ∷ xs) ys (suc i) d h = index_left xs ys i d (omega arith)

on_left : {A : Type 0} (xs ys : List A) (x : A) → Contains xs x → Contains (xs ++ ys) x
on_left xs ys x c = (c.0, (let k = length-append xs ys in let h = c.1 in omega (arith, k, h)), index_left xs ys c.0 x c.1 ∙ c.2)

behind_one : {A : Type 0} (y : A) (xs : List A) (x : A) → Contains xs x → Contains (y ∷ xs) x
behind_one y xs x c = (suc c.0, (let h = c.1 in omega (arith, h)), c.2)

on_right : {A : Type 0} (xs ys : List A) (x : A) → Contains ys x → Contains (xs ++ ys) x
on_right [] ys x c = c
on_right (y ∷ xs) ys x c = behind_one y (xs ++ ys) x (on_right xs ys x c)

in_front : {A : Type 0} (x : A) (xs : List A) → Contains (x ∷ xs) x
in_front x xs = (0, omega arith, refl)

-- ---- pieces

abbrev begins : Placed → Beginning
begins p = (p, begun_in p)

-- all of a list begins in a function
abbrev Within : Function → List Begun → Type 0
Within f xs = (x : Begun) → Contains xs x → Contains (begun_of f) x

-- what begins in a statement, by the form of the statement
begun_as : (place : Place) (s : Stmt) (l : Stmt-F Stmt Placed) (r : Route) (d : FlowGraph) → out-Stmt s ≡ l → begun_in (at place s) r d ≡ stmt_begun (parted l) (at place s) r d
begun_as place s l r d e = begun_is place s r d ∙ ap (λ (x : Stmt-F Stmt Placed). stmt_begun (parted x) (at place s) r d) e

parts_within : (f : Function) (place : Place) (s : Stmt) (l : Stmt-F Stmt Placed) (r : Route) (d : FlowGraph) → out-Stmt s ≡ l → Within f (begun_in (at place s) r d) → Within f (parts_begun (parted l) (at place s) r d)
parts_within f place s l r d e within x c =
    within x (subst (λ (xs : List Begun). Contains xs x) (sym (begun_as place s l r d e)) (behind_one (Doing (at place s), r.from) (parts_begun (parted l) (at place s) r d) x c))

-- what begins in a `for`: in its first part, its test, in its body, its last part
abbrev firsts_of : Place → List Placed → Route → FlowGraph → List Begun
firsts_of place first r d = sequence_begun (map begins first) (first_route r (next_node d)) (with_node place d)

abbrev body_of : Place → List Placed → Option Expr → Option Placed → Placed → Route → FlowGraph → List Begun
body_of place first test last b r d = begun_in b (for_route r (for_condition place first test r d)) (for_opened place first test last b r d)

abbrev last_of_for : Place → List Placed → Option Expr → Option Placed → Placed → Route → FlowGraph → List Begun
last_of_for place first test last b r d = last_begun (at place (For first test last b)) (last_node (for_condition place first test r d)) (option_map begins last)

abbrev for_parts : Place → List Placed → Option Expr → Option Placed → Placed → Route → FlowGraph → List Begun
for_parts place first test last b r d = firsts_of place first r d ++ (Test (at place (For first test last b)), next_node d) ∷ (body_of place first test last b r d ++ last_of_for place first test last b r d)

-- the same, where the first part is lowered so
for_parts_with : List Lowering → Place → List Placed → Option Expr → Option Placed → Placed → Route → FlowGraph → List Begun
for_parts_with ls place first test last b r d =
    let h = hoisted_expr (condition test) place (next_node d) (for_first ls place r d) in
    firsts_of place first r d
    ++ (Test (at place (For first test last b)), next_node d)
    ∷ (begun_in b (for_route r h) (for_head (start_of b) (option_map_or start_of last place) r.to h)
    ++ last_begun (at place (For first test last b)) (last_node h) (option_map begins last))

lowered_alike : (ps : List Placed) → map (λ (s : Beginning). lowering_of s.0) (map begins ps) ≡ map lowering_of ps
lowered_alike [] = refl
lowered_alike (p ∷ ps) = ap (λ (l : List Lowering). lowering_of p ∷ l) (lowered_alike ps)

for_within : (f : Function) (place : Place) (first : List Placed) (test : Option Expr) (last : Option Placed) (b : Placed) (r : Route) (d : FlowGraph) → Within f (begun_in (at place (For first test last b)) r d) → Within f (for_parts place first test last b r d)
unfolding for_parts_with
for_within f place first test None b r d within = subst (λ (ls : List Lowering). Within f (for_parts_with ls place first test None b r d)) (lowered_alike first) (parts_within f place (For first test None b) _ r d (outs-For first test None b) within)
for_within f place first test (Some last) b r d within = subst (λ (ls : List Lowering). Within f (for_parts_with ls place first test (Some last) b r d)) (lowered_alike first) (parts_within f place (For first test (Some last) b) _ r d (outs-For first test (Some last) b) within)

in_first : (place : Place) (first : List Placed) (test : Option Expr) (last : Option Placed) (b : Placed) (r : Route) (d : FlowGraph) (x : Begun) → Contains (firsts_of place first r d) x → Contains (for_parts place first test last b r d) x
in_first place first test last b r d x c = on_left (firsts_of place first r d) ((Test (at place (For first test last b)), next_node d) ∷ (body_of place first test last b r d ++ last_of_for place first test last b r d)) x c

at_test : (place : Place) (first : List Placed) (test : Option Expr) (last : Option Placed) (b : Placed) (r : Route) (d : FlowGraph) → Contains (for_parts place first test last b r d) (Test (at place (For first test last b)), next_node d)
at_test place first test last b r d = on_right (firsts_of place first r d) ((Test (at place (For first test last b)), next_node d) ∷ (body_of place first test last b r d ++ last_of_for place first test last b r d)) _ (in_front (Test (at place (For first test last b)), next_node d) (body_of place first test last b r d ++ last_of_for place first test last b r d))

behind_test : (place : Place) (first : List Placed) (test : Option Expr) (last : Option Placed) (b : Placed) (r : Route) (d : FlowGraph) (x : Begun) → Contains (body_of place first test last b r d ++ last_of_for place first test last b r d) x → Contains (for_parts place first test last b r d) x
behind_test place first test last b r d x c = on_right (firsts_of place first r d) ((Test (at place (For first test last b)), next_node d) ∷ (body_of place first test last b r d ++ last_of_for place first test last b r d)) x (behind_one (Test (at place (For first test last b)), next_node d) (body_of place first test last b r d ++ last_of_for place first test last b r d) x c)

module _ (f : Function) where
  mutual
    piece_begun : (s : Placed) (r : Route) (d : FlowGraph) → Piece f s r d → Within f (begun_in s r d)
    piece_begun _ _ _ (alone s r d series) = series_begun (s ∷ []) r d series
    piece_begun _ _ _ (first_of s s' ss r d series) = λ x c. series_begun (s ∷ s' ∷ ss) r d series x (on_left _ _ x c)
    piece_begun _ _ _ (then_part place e a None r d piece) = λ x c. parts_within f place (If e a None) _ r d (outs-If e a None) (piece_begun (at place (If e a None)) r d piece) x c
    piece_begun _ _ _ (then_part place e a (Some b) r d piece) = λ x c. parts_within f place (If e a (Some b)) _ r d (outs-If e a (Some b)) (piece_begun (at place (If e a (Some b))) r d piece) x (on_left _ _ x c)
    piece_begun _ _ _ (else_part place e a b r d piece) = λ x c. parts_within f place (If e a (Some b)) _ r d (outs-If e a (Some b)) (piece_begun (at place (If e a (Some b))) r d piece) x (on_right _ _ x c)
    piece_begun _ _ _ (while_body place e b r d piece) = λ x c. parts_within f place (While e b) _ r d (outs-While e b) (piece_begun (at place (While e b)) r d piece) x (behind_one _ _ x c)
    piece_begun _ _ _ (do_body place e b r d piece) = λ x c. parts_within f place (DoWhile b e) _ r d (outs-DoWhile b e) (piece_begun (at place (DoWhile b e)) r d piece) x (behind_one _ _ x c)
    piece_begun _ _ _ (for_body place first test last b r d piece) = λ x c.
        for_within f place first test last b r d (piece_begun (at place (For first test last b)) r d piece) x
        (behind_test place first test last b r d x (on_left (body_of place first test last b r d) (last_of_for place first test last b r d) x c))

    series_begun : (ss : List Placed) (r : Route) (d : FlowGraph) → Series f ss r d → Within f (sequence_begun (map begins ss) r d)
    series_begun _ _ _ body = λ x c. c
    series_begun _ _ _ (behind s s' ss r d series) = λ x c. series_begun (s ∷ s' ∷ ss) r d series x (on_right _ _ x c)
    series_begun _ _ _ (in_block place all r d piece) = λ x c. parts_within f place (Block all) _ r d (outs-Block all) (piece_begun (at place (Block all)) r d piece) x c
    series_begun _ _ _ (for_firsts place s ss test last b r d piece) = λ x c.
        for_within f place (s ∷ ss) test last b r d (piece_begun (at place (For (s ∷ ss) test last b)) r d piece) x (in_first place (s ∷ ss) test last b r d x c)

-- ---- what comes next

-- a statement itself begins where its route does
statement_begins : (f : Function) (place : Place) (s : Stmt) (r : Route) (d : FlowGraph) → Piece f (at place s) r d → Contains (begun_of f) (Doing (at place s), r.from)
statement_begins f place s r d piece =
    piece_begun f (at place s) r d piece (Doing (at place s), r.from)
    (subst (λ (xs : List Begun). Contains xs (Doing (at place s), r.from)) (sym (begun_as place s (out-Stmt s) r d refl)) (in_front (Doing (at place s), r.from) (parts_begun (parted (out-Stmt s)) (at place s) r d)))

for_test_begins : (f : Function) (place : Place) (first : List Placed) (test : Option Expr) (last : Option Placed) (b : Placed) (r : Route) (d : FlowGraph) → Piece f (at place (For first test last b)) r d → Contains (begun_of f) (Test (at place (For first test last b)), next_node d)
for_test_begins f place first test last b r d piece = for_within f place first test last b r d (piece_begun f (at place (For first test last b)) r d piece) _ (at_test place first test last b r d)

test_begins : (f : Function) (l : Placed) (r : Route) (d : FlowGraph) (n : ℕ) → Piece f l r d → TestsAt l r d n → (h : ℕ) × ((h ≡ n) ⊎ HasEdge f true n Skip h) × Contains (begun_of f) (Test l, h)
test_begins f _ r d _ piece (at_while place e b _ _) = (r.from, inl refl, parts_within f place (While e b) _ r d (outs-While e b) (piece_begun f (at place (While e b)) r d piece) _ (in_front _ _))
test_begins f _ r d _ piece (at_do place e b _ _) = (next_node d, inl refl, parts_within f place (DoWhile b e) _ r d (outs-DoWhile b e) (piece_begun f (at place (DoWhile b e)) r d piece) _ (in_front _ _))
test_begins f _ r d _ piece (at_for place first test last b _ _) = (next_node d, inl refl, for_test_begins f place first test last b r d piece)
test_begins f _ r d _ piece (without_first place test last b _ _) = (next_node d, inr (skips_first f place test last b r d piece), for_test_begins f place [] test last b r d piece)
test_begins f _ r d _ piece (without_last place first test b _ _) = (next_node d, inr (skips_last f place first test b r d piece), for_test_begins f place first test None b r d piece)

last_begins : (f : Function) (l : Placed) (r : Route) (d : FlowGraph) (n : ℕ) → Piece f l r d → LastAt l r d n → Contains (begun_of f) (Last l, n)
last_begins f _ r d _ piece (at_last place first test last b _ _) =
    let own = Last (at place (For first test (Some last) b)) in
    let n = last_node (for_condition place first test r d) in
    for_within f place first test (Some last) b r d (piece_begun f (at place (For first test (Some last) b)) r d piece) (own, n)
    (behind_test place first test (Some last) b r d (own, n)
    (on_right (body_of place first test (Some last) b r d) (last_of_for place first test (Some last) b r d) (own, n) (in_front (own, n) [])))

pub things_begin : ThingsBegin
things_begin f _ _ _ (does s rest r d piece to breaks continues) = (r.from, inl refl, statement_begins f s.place s.stmt r d piece)
things_begin f _ _ _ (tests l rest r d n piece where_at to) = test_begins f l r d n piece where_at
things_begin f _ _ _ (lasts l rest r d n piece where_at to) = (n, inl refl, last_begins f l r d n piece where_at)
