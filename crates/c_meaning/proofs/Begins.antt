-- What begins in a statement, one level down.
use Rattle.std.proofs.Common.{◌≡◌, sym, ap, ◌∙◌, List}
use Rattle.gob_tree.specs.declared.place.Place.{Place}
use Rattle.gob_tree.specs.declared.stmt.Stmt.{Stmt, out-Stmt, roll-out-Stmt, map-Stmt, para-Stmt, para-roll-Stmt}
use Rattle.gob_tree.specs.declared.stmt.Stmt.TheOpen.{Stmt-F}
use Rattle.gob_tree.specs.declared.stmt.Placed.{Placed, para-roll-Placed}
use Rattle.c_meaning.specs.Graph.{FlowGraph, Route}
use Rattle.c_meaning.specs.Walk.{Begun, Beginning, stmt_begun, placed_begun, begun_in}

abbrev Inner : Type 0
Inner = Route → FlowGraph → List Begun

-- a statement's parts, each with what begins in it
abbrev pub parted : Stmt-F Stmt Placed → Stmt-F (Stmt × (Placed → Route → FlowGraph → List Begun)) Beginning
parted = map-Stmt Stmt Placed (Stmt × (Placed → Inner)) Beginning (λ s. (s, para-Stmt (Placed → Inner) Inner stmt_begun placed_begun s)) (λ p. (p, begun_in p))

pub begun_is : (place : Place) (s : Stmt) (r : Route) (d : FlowGraph) → begun_in (record { place = place; stmt = s }) r d ≡ stmt_begun (parted (out-Stmt s)) (record { place = place; stmt = s }) r d
begun_is place s r d =
    ap (λ (f : Inner). f r d) (para-roll-Placed (Placed → Inner) Inner stmt_begun placed_begun (record { place = place; stmt = s }))
    ∙ ap (λ (f : Placed → Inner). f (record { place = place; stmt = s }) r d)
    (ap (para-Stmt (Placed → Inner) Inner stmt_begun placed_begun) (sym (roll-out-Stmt s)) ∙ para-roll-Stmt (Placed → Inner) Inner stmt_begun placed_begun (out-Stmt s))
