use Rattle.std.proofs.Common.{◌≡◌, ℕ, ◌+◌, ◌%◌, ◌^◌, ◌≤◌, List, ◌++◌, length, take, sym, ◌∙◌, ap, subst, refl}
use Rattle.std.specs.Prelude.{position}
use Rattle.std.proofs.lemmas.List.{take_rest}
use Rattle.dap_frame.specs.Scan.{IsScan}
use Rattle.dap_frame.proofs.Lines.{is_lf}
use Rattle.dap_frame.specs.declared.scan.Scan.{Scan}
use Rattle.dap_frame.proofs.Advancing.{line_ends, line_grows, line_full, end_inside}
use Rattle.dap_frame.proofs.Scanning.{sum_below}
use Rattle.dap_frame.proofs.advance.advance_line.Goals as goal

pub returns-in-Some : goal.returns-in-Some
returns-in-Some c =
    let rest : List ℕ = c.args.rest.now in
    let piece : List ℕ = c.args.piece.now in
    let found = sym (c.place_of.ensures ∙ ap (λ (k : ℕ). position is_lf (take k piece)) c.min.ensures) ∙ c.in-Some.is in
    let end : ℕ = c.in-Some.end in
    let line_is : c.as_slice.result.now ≡ rest ++ take end piece =
    c.as_slice.ensures.value ∙ c.in_ok-extend_from_slice.ensures.items ∙ ap (λ (xs : List ℕ). xs ++ take end piece) c.in_ok-line.ensures.items in
    let behind : ℕ = (c.args.origin + (end + 1)) % 2 ^ 64 in
    let scan : Scan = c.in_ok-scan.scan in
    let inside : end + 1 ≤ length piece = end_inside piece _ end found in
    let behind_is = sum_below c.args.origin (end + 1) (length piece) behind inside refl in
    let read = subst (λ (xs : List ℕ). IsScan behind c.judged-header.result xs scan) (take_rest piece (end + 1)) c.in_ok-scan.ensures in
    line_ends c.args.origin behind c.args.head rest piece end c.as_slice.result.now c.judged-header.result scan c.requires found line_is c.judged-header.ensures behind_is read

pub returns-then-piece-room : goal.returns-then-piece-room
returns-then-piece-room c =
    let found = sym (c.place_of.ensures ∙ ap (λ (k : ℕ). position is_lf (take k c.args.piece.now)) c.min.ensures) ∙ c.in_default.is in
    line_grows c.args.head c.args.rest.now c.args.piece.now c.requires found c.if-piece-room.true

pub returns : goal.returns
returns c =
    let found = sym (c.place_of.ensures ∙ ap (λ (k : ℕ). position is_lf (take k c.args.piece.now)) c.min.ensures) ∙ c.in_default.is in
    line_full c.args.origin c.args.head c.args.rest.now c.args.piece.now _ c.requires found c.if-piece-room.false c.new.ensures.items refl refl c.new-2.ensures.items
