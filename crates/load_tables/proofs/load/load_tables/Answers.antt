use Rattle.std.proofs.Common.{◌≡◌, ◌∙◌, ◌+◌, ◌<◌, ap, arith, refl, suc}
use Rattle.std.proofs.lemmas.Result.{err_from_is_err_and}
use Rattle.std.specs.Arc.{arc_value}
use Rattle.load_tables.specs.Tables.{text_at}
use Rattle.load_tables.proofs.Steps.{first_solved, first_stops, next_solved, next_stops}
use Rattle.load_tables.proofs.Texts.{edit_is_text, eight_edits}
use Rattle.load_tables.proofs.load.load_tables.Goals as goal

pub returns-in_err-last-clause-stopped : goal.returns-in_err-last-clause-stopped
returns-in_err-last-clause-stopped c =
    let p = err_from_is_err_and c.from_residual-in_err-last.result c.from_residual-in_err-last.ensures.1 in
    rw (p.1, p.2) (first_stops c.args.number c.args.functions c.as_slice.result.now c.in_err-last.field-0.0 (c.as_slice.ensures.value ∙ c.in_ok-text.ensures) c.in_err-last.ensures.stopped)

pub loop-edit-init : goal.loop-edit-init
loop-edit-init c = record {
  solved = first_solved c.args.number c.args.functions c.as_slice.result.now (arc_value c.in_ok-last.last.source) c.in_ok-last.last.table (c.as_slice.ensures.value ∙ c.in_ok-text.ensures) c.in_ok-last.ensures.solved;
  tables = refl;
  breaches = c.in_ok-breaches.ensures;
}

pub loop-edit-preserved : goal.loop-edit-preserved
loop-edit-preserved c =
    let number = c.args.number in
    let functions = c.args.functions in
    let i = c.loop-edit.edit-index in
    let before = c.loop-edit.invariant in
    let none = c.in_ok-breaches-2.ensures in
    let none_before = before.breaches in
    let text : c.as_bytes.result.now ≡ text_at number functions (suc i) =
    c.as_bytes.ensures ∙ edit_is_text number functions i c.as_slice-edit-items.result.now c.edit-item.result (c.as_slice-edit-items.ensures ∙ c.in_ok-edits.ensures) c.loop-edit-test.true c.edit-item.is in
    record {
      solved = next_solved number functions i (arc_value c.loop-edit.last.source) c.loop-edit.last.table before.solved c.as_bytes.result.now text
          (arc_value c.in_ok-last-2.last.source) c.in_ok-last-2.last.table (i + 1) (omega arith) c.in_ok-last-2.ensures.solved;
      tables = ap (λ n. n + 1) before.tables;
      breaches = omega (arith, none, none_before);
    }

pub returns-in_err-last-2-clause-stopped : goal.returns-in_err-last-2-clause-stopped
returns-in_err-last-2-clause-stopped c =
    let number = c.args.number in
    let functions = c.args.functions in
    let i = c.loop-edit.edit-index in
    let edits = c.as_slice-edit-items.result.now in
    let are = c.as_slice-edit-items.ensures ∙ c.in_ok-edits.ensures in
    let eight = eight_edits number functions edits are in
    let less = c.loop-edit-test.true in
    let text : c.as_bytes.result.now ≡ text_at number functions (suc i) =
    c.as_bytes.ensures ∙ edit_is_text number functions i edits c.edit-item.result are less c.edit-item.is in
    let few : i < 8 = omega (arith, less, eight) in
    let p = err_from_is_err_and c.from_residual-in_err-last-2.result c.from_residual-in_err-last-2.ensures.1 in
    rw (p.1, p.2) (next_stops number functions i (arc_value c.loop-edit.last.source) c.loop-edit.last.table c.loop-edit.invariant.solved c.as_bytes.result.now text few c.in_err-last-2.field-0.0 c.in_err-last-2.ensures.stopped)
