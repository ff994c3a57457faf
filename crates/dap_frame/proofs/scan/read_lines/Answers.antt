use Rattle.std.proofs.Common.{◌≡◌, ℕ, ◌+◌, ◌-◌, List, length, take, drop, sym, ◌∙◌, ap, subst, arith}
use Rattle.std.specs.Prelude.{position}
use Rattle.std.proofs.lemmas.List.{take_rest}
use Rattle.dap_frame.specs.declared.header.TheConstants.{MAX_HEADER}
use Rattle.dap_frame.specs.declared.header.Header.{Header}
use Rattle.dap_frame.specs.declared.header.Header.TheVariants.{Open}
use Rattle.dap_frame.specs.Header.{judged}
use Rattle.dap_frame.proofs.Lines.{is_lf}
use Rattle.dap_frame.specs.Scan.{HasRead}
use Rattle.dap_frame.proofs.Scanning.{read_line, no_whole_line, window_is}
use Rattle.dap_frame.proofs.scan.read_lines.Goals as goal

pub loop-header-preserved : goal.loop-header-preserved
loop-header-preserved c =
    let bytes : List ℕ = c.args.bytes.now in
    let at : ℕ = c.loop-header.at in
    let end : ℕ = c.in-Some.end in
    let so_far : HasRead c.args.header bytes (Open c.in-Open.head) at =
    subst (λ (h : Header). HasRead c.args.header bytes h at) c.in-Open.is c.loop-header.invariant in
    let window = window_is bytes at c.min.result (MAX_HEADER - c.in-Open.head.size) c.min.ensures in
    let found = sym (c.place_of.ensures ∙ ap (position is_lf) window) ∙ c.in-Some.is in
    let step = read_line c.args.header bytes c.in-Open.head at end so_far found in
    let text : take end (take (length bytes - at) (drop at bytes)) ≡ take end (drop at bytes) = ap (take end) (take_rest bytes at) in
    let reached : judged c.in-Open.head (take end (drop at bytes)) ≡ c.judged-header.result = sym (c.judged-header.ensures ∙ ap (judged c.in-Open.head) text) in
    let further : at + end + 1 ≡ at + (end + 1) = omega arith in
    subst (λ (k : ℕ). HasRead c.args.header bytes c.judged-header.result k) further
    (subst (λ (h : Header). HasRead c.args.header bytes h (at + end + 1)) reached step)

pub returns-in_default-place_of-clause-rest : goal.returns-in_default-place_of-clause-rest
returns-in_default-place_of-clause-rest c =
    let bytes : List ℕ = c.args.bytes.now in
    let at : ℕ = c.loop-header.at in
    let window = window_is bytes at c.min.result (MAX_HEADER - c.in-Open.head.size) c.min.ensures in
    no_whole_line c.in-Open.head (drop at bytes) (sym (c.place_of.ensures ∙ ap (position is_lf) window) ∙ c.in_default-place_of.is)
