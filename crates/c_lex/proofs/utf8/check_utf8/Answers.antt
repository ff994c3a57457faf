use Rattle.std.proofs.Common.{◌≡◌, ℕ, ◌+◌, List, sym, ◌∙◌, ap, subst, drop, zero-add}
use Rattle.std.specs.Str.{IsValidUpTo}
use Rattle.std.specs.Str.Lossy.{utf8_error_len}
use Rattle.std.proofs.lemmas.List.{take_rest}
use Rattle.c_lex.specs.Places.{BreaksUtf8}
use Rattle.c_lex.specs.Utf8.{begun_length_of}
use Rattle.c_lex.proofs.Utf8Ends.{breaks_at}
use Rattle.c_lex.proofs.utf8.check_utf8.Goals as goal

pub returns-in-Err-clause-fault : goal.returns-in-Err-clause-fault
returns-in-Err-clause-fault c =
    let text : List ℕ = c.args.text.now in
    let v : ℕ = c.valid_up_to-valid.result in
    let cases = c.in-Err.ensures.cases in
    let valid = subst (λ n. IsValidUpTo text n) (sym c.valid_up_to-valid.ensures) cases.1 in
    let breaks : BreaksUtf8 text (v + begun_length_of (drop v text) (utf8_error_len (drop v text))) = breaks_at text v cases.0 valid in
    let len = c.error_len.ensures ∙ (c.in-Err.ensures.fault ∙ ap (λ n. utf8_error_len (drop n text)) (sym c.valid_up_to-valid.ensures)) in
    let begun : c.begun_length-begun.result ≡ begun_length_of (drop v text) (utf8_error_len (drop v text)) =
    c.begun_length-begun.ensures ∙ (ap (λ (r : List ℕ). begun_length_of r c.error_len.result) (take_rest text v) ∙ ap (begun_length_of (drop v text)) len) in
    let at : c.past-cursor.result.at ≡ v + begun_length_of (drop v text) (utf8_error_len (drop v text)) =
    c.past-cursor.ensures.after ∙ (ap (λ n. n + (v + c.begun_length-begun.result)) c.start.ensures.front ∙ (zero-add (v + c.begun_length-begun.result) ∙ ap (λ n. v + n) begun)) in
    (c.requires, (c.past-cursor.result.at, subst (BreaksUtf8 text) (sym at) breaks, c.past-cursor.ensures.stands.place))
