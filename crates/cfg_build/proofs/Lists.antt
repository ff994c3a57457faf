-- Lists of arguments and of statements, member by member.
use Rattle.std.proofs.Common.{◌≡◌, ℕ, suc, ◌+◌, ◌<◌, List, [], ◌∷◌, ◌++◌, length, map, drop, get_or, refl, sym, ap, ◌∙◌, arith, add-one}
use Rattle.std.proofs.Math.Seq.{drop-cons}
use Rattle.std.proofs.lemmas.List.{drop_all}
use Rattle.gob_tree.specs.declared.place.Place.{Place}
use Rattle.gob_tree.specs.declared.expr.Expr.{Expr}
use Rattle.gob_tree.specs.declared.stmt.Placed.{Placed}
use Rattle.c_meaning.specs.Graph.{FlowGraph, HoistState, Hoisted, Route, next_node, with_node, hoisting_of, hoist_all, before, route_to, route_from, sequence, lowering_of}
use Rattle.cfg_build.specs.declared.fault.BuildFault.{BuildFault}
use Rattle.cfg_build.specs.Growing.{Faults}
use Rattle.cfg_build.proofs.Growth.{Wider, wider_then, wider_sequence, wider_all, hoists_widen, lowerings_widen, faults_wider}

-- the list from the i-th member on
pub from_here : {A : Type 0} (xs : List A) (i : ℕ) (x : A) → i < length xs → x ≡ get_or xs i x → drop i xs ≡ x ∷ drop (i + 1) xs
from_here xs i x h e =
    let a : drop i xs ≡ get_or xs i x ∷ drop (suc i) xs = drop-cons xs i x h in
    rw add-one (a ∙ ap (λ y. y ∷ drop (suc i) xs) (sym e))

pub nothing_behind : {A : Type 0} (xs : List A) (n : ℕ) → length xs ≡ n → drop n xs ≡ []
nothing_behind xs n e = drop_all n xs (omega (arith, e))

-- ---- arguments

pub hoist_more : (args : List Expr) (i : ℕ) (x : Expr) (place : Place) (s : HoistState) → i < length args → x ≡ get_or args i x
    → hoist_all (map hoisting_of (drop i args)) place s ≡ before ((hoisting_of x).hoist place s).0 (hoist_all (map hoisting_of (drop (i + 1) args)) place ((hoisting_of x).hoist place s).1)
hoist_more args i x place s h e = ap (λ (es : List Expr). hoist_all (map hoisting_of es) place s) (from_here args i x h e)

-- a fault of the next argument is one of all
pub hoist_fault : (fault : BuildFault) (args : List Expr) (i : ℕ) (x : Expr) (place : Place) (s : HoistState) → i < length args → x ≡ get_or args i x
    → Faults fault ((hoisting_of x).hoist place s).1.flow → Faults fault (hoist_all (map hoisting_of (drop i args)) place s).1.flow
hoist_fault fault args i x place s h e f =
    rw (hoist_more args i x place s h e) (faults_wider fault ((hoisting_of x).hoist place s).1.flow _ (wider_all (drop (i + 1) args) place ((hoisting_of x).hoist place s).1) f)

-- ---- statements

pub sequence_more : (all : List Placed) (i : ℕ) (x y : Placed) (r : Route) (d : FlowGraph) → i + 1 < length all → x ≡ get_or all i x → y ≡ get_or all (i + 1) y
    → sequence (map lowering_of (drop i all)) r d ≡ sequence (map lowering_of (drop (i + 1) all)) (route_from (next_node d) r) ((lowering_of x).lower (route_to (next_node d) r) (with_node (lowering_of y).start d))
sequence_more all i x y r d h ex ey =
    let here : drop i all ≡ x ∷ drop (i + 1) all = from_here all i x (omega arith) ex in
    let next : drop (i + 1) all ≡ y ∷ drop (i + 1 + 1) all = from_here all (i + 1) y h ey in
    ap (λ (ps : List Placed). sequence (map lowering_of ps) r d) (here ∙ ap (λ (ps : List Placed). x ∷ ps) next)
    ∙ ap (λ (ps : List Placed). sequence (map lowering_of ps) (route_from (next_node d) r) ((lowering_of x).lower (route_to (next_node d) r) (with_node (lowering_of y).start d))) (sym next)

pub sequence_last : (all : List Placed) (i : ℕ) (x : Placed) (r : Route) (d : FlowGraph) → i + 1 ≡ length all → x ≡ get_or all i x
    → sequence (map lowering_of (drop i all)) r d ≡ (lowering_of x).lower r d
sequence_last all i x r d h e =
    ap (λ (ps : List Placed). sequence (map lowering_of ps) r d) (from_here all i x (omega arith) e ∙ ap (λ (ps : List Placed). x ∷ ps) (nothing_behind all (i + 1) (sym h)))

-- a fault of a new node before the next statement, and one of a statement, are faults of the list
pub sequence_lower_fault : (fault : BuildFault) (all : List Placed) (i : ℕ) (x y : Placed) (r : Route) (d : FlowGraph) → i + 1 < length all → x ≡ get_or all i x → y ≡ get_or all (i + 1) y
    → Faults fault ((lowering_of x).lower (route_to (next_node d) r) (with_node (lowering_of y).start d)) → Faults fault (sequence (map lowering_of (drop i all)) r d)
sequence_lower_fault fault all i x y r d h ex ey f =
    rw (sequence_more all i x y r d h ex ey) (faults_wider fault _ _ (wider_sequence (drop (i + 1) all) (route_from (next_node d) r) ((lowering_of x).lower (route_to (next_node d) r) (with_node (lowering_of y).start d))) f)

pub sequence_node_fault : (fault : BuildFault) (all : List Placed) (i : ℕ) (x y : Placed) (r : Route) (d : FlowGraph) → i + 1 < length all → x ≡ get_or all i x → y ≡ get_or all (i + 1) y
    → Faults fault (with_node (lowering_of y).start d) → Faults fault (sequence (map lowering_of (drop i all)) r d)
sequence_node_fault fault all i x y r d h ex ey f =
    sequence_lower_fault fault all i x y r d h ex ey (faults_wider fault (with_node (lowering_of y).start d) _ (lowerings_widen x (route_to (next_node d) r) (with_node (lowering_of y).start d)) f)
