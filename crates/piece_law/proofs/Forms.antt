-- What a statement is lowered to, and what is asked of it, by its form.
use Rattle.std.proofs.Common.{◌≡◌, ◌∙◌, sym, ap}
use Rattle.gob_tree.specs.WellMade.{StmtForm, form_of, form_step, placed_step as form_placed}
use Rattle.gob_tree.specs.declared.place.Place.{Place}
use Rattle.gob_tree.specs.declared.stmt.Stmt.{Stmt, fold-Stmt, fold-roll-Stmt, map-Stmt, roll-out-Stmt, roll-Stmt}
use Rattle.gob_tree.specs.declared.stmt.Stmt.TheOpen.{Stmt-F}
use Rattle.gob_tree.specs.declared.stmt.Placed.{Placed}
use Rattle.gob_tree.specs.declared.unit.Function.{Function}
use Rattle.gob_tree.specs.declared.unit.Unit.{Unit as TranslationUnit}
use Rattle.gob_tree.proofs.StmtFolds as general
use Rattle.c_meaning.specs.Graph.{Lowering, lowering_of, lowering_step, placed_step}
use Rattle.c_meaning.specs.Tree.{layer_of}
use Rattle.graph_law.specs.Lying.{at}

-- a statement, by what it is one level down
pub shaped : (s : Placed) (l : Stmt-F Stmt Placed) → layer_of s ≡ l → s ≡ at s.place (roll-Stmt l)
shaped s l is = ap (at s.place) (sym (roll-out-Stmt s.stmt) ∙ ap roll-Stmt is)

abbrev pub lowerings_in : Stmt-F Stmt Placed → Stmt-F (Place → Lowering) Lowering
lowerings_in = map-Stmt Stmt Placed (Place → Lowering) Lowering (fold-Stmt (Place → Lowering) Lowering lowering_step placed_step) lowering_of

pub lowered : (s : Placed) (l : Stmt-F Stmt Placed) → layer_of s ≡ l → lowering_of s ≡ lowering_step (lowerings_in l) s.place
lowered s l is =
    general.fold-struct (Place → Lowering) Lowering lowering_step placed_step s.place s.stmt
    ∙ ap (λ (x : Stmt). fold-Stmt (Place → Lowering) Lowering lowering_step placed_step x s.place) (sym (roll-out-Stmt s.stmt))
    ∙ ap (λ (g : Place → Lowering). g s.place) (fold-roll-Stmt (Place → Lowering) Lowering lowering_step placed_step (layer_of s))
    ∙ ap (λ (x : Stmt-F Stmt Placed). lowering_step (lowerings_in x) s.place) is

module _ (unit : TranslationUnit) (f : Function) where
  abbrev pub forms_in : Stmt-F Stmt Placed → Stmt-F StmtForm StmtForm
  forms_in = map-Stmt Stmt Placed StmtForm StmtForm (fold-Stmt StmtForm StmtForm (form_step unit f) form_placed) (form_of unit f)

  pub formed : (s : Placed) (l : Stmt-F Stmt Placed) → layer_of s ≡ l → form_of unit f s ≡ form_step unit f (forms_in l)
  formed s l is =
      general.fold-struct StmtForm StmtForm (form_step unit f) form_placed s.place s.stmt
      ∙ ap (fold-Stmt StmtForm StmtForm (form_step unit f) form_placed) (sym (roll-out-Stmt s.stmt))
      ∙ fold-roll-Stmt StmtForm StmtForm (form_step unit f) form_placed (layer_of s)
      ∙ ap (λ (x : Stmt-F Stmt Placed). form_step unit f (forms_in x)) is
