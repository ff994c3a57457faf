-- The answer of a call's expression, from that of its arguments.
use Rattle.std.proofs.Common.{◌≡◌, sym, ap, ◌∙◌, subst, ℕ, ℤ, List, Result, Ok}
use Rattle.std.specs.Prelude.{IfOk}
use Rattle.gob_tree.specs.declared.expr.Width.{Width}
use Rattle.gob_tree.specs.declared.expr.Expr.{Expr, Call}
use Rattle.gob_tree.specs.declared.unit.Slot.{Slot}
use Rattle.c_meaning.specs.declared.demand.Demand.{Demand}
use Rattle.c_meaning.specs.declared.demand.Demand.TheVariants.{Call as Calls}
use Rattle.c_meaning.specs.Demand.{Answer, demand_of, demands_of, on_answer, and_then, next_input, width_of}
use Rattle.c_meaning.proofs.RowProofs.{demand_rows, width_rows}
use Rattle.tree_run.specs.declared.demand.Found.{Found}
use Rattle.tree_run.specs.declared.demand.FoundAll.{FoundAll}
use Rattle.tree_run.specs.Answering.{number_of, Answers, AnswersAll}

pub call_answers : (found : Found) (all : FoundAll) (f : ℕ) (w : Width) (args : List Expr) (slots : List Slot) (values ins numbers : List ℤ)
    → AnswersAll all args slots values ins → all.values ≡ Ok numbers
    → number_of found.value ≡ (next_input (Calls f numbers) all.rest.now).0 → found.rest.now ≡ (next_input (Calls f numbers) all.rest.now).1
    → IfOk found.value (λ v. v.width ≡ w) → Answers found (Call f w args) slots values ins
call_answers found all f w args slots values ins numbers a e value rest width =
    let d = demands_of args slots values ins in
    let go : List ℤ → List ℤ → Answer ℤ = λ ns rest. next_input (Calls f ns) rest in
    let same : demand_of (Call f w args) slots values ins ≡ next_input (Calls f numbers) all.rest.now =
    demand_rows.call f w args slots values ins
    ∙ ap (λ (r : Result (List ℤ) Demand). on_answer r d.1 go) (sym a.numbers ∙ e)
    ∙ ap (λ (i : List ℤ). next_input (Calls f numbers) i) (sym a.rest) in
    record {
      value = value ∙ sym (ap (λ (p : Answer ℤ). p.0) same);
      rest = rest ∙ sym (ap (λ (p : Answer ℤ). p.1) same);
      width = subst (λ (v : Width). IfOk found.value (λ x. x.width ≡ v)) (sym (width_rows.call f w args slots)) width;
    }
