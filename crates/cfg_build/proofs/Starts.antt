-- Where blocks and loops start.
use Rattle.std.proofs.Common.{◌≡◌, refl, sym, ap, ◌∙◌, List, [], ◌∷◌, map, Option}
use Rattle.std.specs.Option.{option_map}
use Rattle.gob_tree.specs.declared.place.Place.{Place}
use Rattle.gob_tree.specs.declared.expr.Expr.{Expr}
use Rattle.gob_tree.specs.declared.stmt.Stmt.{Stmt, Block, For}
use Rattle.gob_tree.specs.declared.stmt.Stmt.TheOpen.{Stmt-F}
use Rattle.gob_tree.specs.declared.stmt.Placed.{Placed}
use Rattle.c_meaning.specs.Graph.{Lowering, start_step, body_start, lowering_of}
use Rattle.c_meaning.proofs.Lowerings.{lowering-Block, lowering-For}

block_start : (ls : List Lowering) (place : Place) → start_step (Stmt-F.Block ls) place ≡ body_start ls place
block_start [] place = refl
block_start (s ∷ ss) place = refl

for_start : (ls : List Lowering) (test : Option Expr) (last : Option Lowering) (body : Lowering) (place : Place) → start_step (Stmt-F.For ls test last body) place ≡ body_start ls place
for_start [] test last body place = refl
for_start (s ∷ ss) test last body place = refl

pub start-block : (p : Placed) (all all' : List Placed) → p.stmt ≡ Block all → all' ≡ all → body_start (map lowering_of all') p.place ≡ (lowering_of p).start
start-block p all all' e same =
    ap (λ (ps : List Placed). body_start (map lowering_of ps) p.place) same
    ∙ sym (ap (λ (s : Stmt). (lowering_of (record { place = p.place; stmt = s })).start) e
    ∙ ap (λ (l : Lowering). l.start) (lowering-Block p.place all)
    ∙ block_start (map lowering_of all) p.place)

pub start-for : (p : Placed) (first first' : List Placed) (test : Option Expr) (last : Option Placed) (body : Placed) → p.stmt ≡ For first test last body → first' ≡ first
    → body_start (map lowering_of first') p.place ≡ (lowering_of p).start
start-for p first first' test last body e same =
    ap (λ (ps : List Placed). body_start (map lowering_of ps) p.place) same
    ∙ sym (ap (λ (s : Stmt). (lowering_of (record { place = p.place; stmt = s })).start) e
    ∙ ap (λ (l : Lowering). l.start) (lowering-For p.place first test last body)
    ∙ for_start (map lowering_of first) test (option_map lowering_of last) (lowering_of body) p.place)
