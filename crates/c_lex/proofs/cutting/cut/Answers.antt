use Rattle.std.proofs.Common.{◌≡◌, ◌+◌, [], ◌∷◌, ◌++◌, List, sym, ◌∙◌, ap, subst, arith}
use Rattle.std.proofs.lemmas.List.{append-nil}
use Rattle.std.proofs.lemmas.Result.{err_from_is_err_and}
use Rattle.c_lex.specs.declared.token.Token.{Token}
use Rattle.c_lex.proofs.Cut.{IsCutTo}
use Rattle.c_lex.proofs.Outcomes.{fault_from_cut}
use Rattle.c_lex.proofs.Steps.{found_some, made, cut_steps, cut_breaks}
use Rattle.c_lex.proofs.cutting.cut.Goals as goal
use Rattle.c_lex.proofs.cutting.cut.Goals.{in-Some+in_ok-push, in_default}

pub returns-in_err-found-clause-fault : goal.returns-in_err-found-clause-fault
returns-in_err-found-clause-fault c =
    let p = err_from_is_err_and c.from_residual.result c.from_residual.ensures.1 in
    let breaks = cut_breaks c.args.text.now c.loop-cursor.cursor.at c.loop-cursor.tokens.items c.in_err-found.field-0.0 c.requires c.loop-cursor.invariant.cut c.in_err-found.ensures.fault in
    rw (p.1, p.2) (fault_from_cut c.args.text.now c.in_err-found.field-0.0 breaks)

pub loop-cursor-smaller : goal.loop-cursor-smaller
loop-cursor-smaller c =
    let some = found_some _ _ c.in_ok-found.found c.in_ok-found.ensures.found in
    omega (arith, c.past-cursor.ensures.after)

pub loop-cursor-preserved : goal.loop-cursor-preserved
loop-cursor-preserved c =
    let cursor = c.loop-cursor.cursor in
    let found = c.in_ok-found.found in
    let items : List Token = c.loop-cursor.tokens.items in
    let step : IsCutTo c.args.text.now (cursor.at + found.length) (items ++ made cursor found c.kind_of.result) =
    subst (λ k. IsCutTo c.args.text.now (cursor.at + found.length) (items ++ made cursor found k)) (sym c.kind_of.ensures)
    (cut_steps c.args.text.now cursor found items c.loop-cursor.invariant.stands c.loop-cursor.invariant.cut c.in_ok-found.ensures.found c.in_ok-found.ensures.sound) in
    let kept : c.match-kind_of.tokens.items ≡ items ++ made cursor found c.kind_of.result =
    elim c.match-kind_of.branch [
      | in-Some+in_ok-push w ↦
          let new : made cursor found c.kind_of.result ≡ w.token.result ∷ [] = ap (made cursor found) w.in-Some.is ∙ (λ i. sym w.token.ensures i ∷ []) in
          ap (λ v. v.items) w.tokens-is ∙ (w.in_ok-push.ensures.items ∙ ap (λ (ts : List Token). items ++ ts) (sym new))
      | in_default w ↦ ap (λ v. v.items) w.tokens-is ∙ (sym (append-nil items) ∙ ap (λ k. items ++ made cursor found k) (sym w.in_default.is))
    ] in
    record {
      stands = c.past-cursor.ensures.stands;
      cut = subst (λ n. IsCutTo c.args.text.now n c.match-kind_of.tokens.items) (sym c.past-cursor.ensures.after) (subst (λ (ts : List Token). IsCutTo c.args.text.now (cursor.at + found.length) ts) (sym kept) step);
    }
