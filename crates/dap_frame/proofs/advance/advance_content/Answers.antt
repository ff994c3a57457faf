use Rattle.std.proofs.Common.{ℕ, ◌+◌, ◌-◌, ◌%◌, ◌^◌, List, length, drop, refl, subst}
use Rattle.std.proofs.lemmas.List.{take_rest}
use Rattle.dap_frame.specs.declared.header.Head.{Head}
use Rattle.dap_frame.specs.declared.header.Header.TheVariants.{Open}
use Rattle.dap_frame.specs.Scan.{IsScan}
use Rattle.dap_frame.proofs.Advancing.{fills}
use Rattle.dap_frame.proofs.Scanning.{sum_below}
use Rattle.dap_frame.proofs.advance.advance_content.Goals as goal

pub returns : goal.returns
returns c =
    let missing : ℕ = c.args.n - length c.args.rest.now in
    let piece : List ℕ = c.args.piece.now in
    let behind : ℕ = (c.args.origin + missing) % 2 ^ 64 in
    let behind_is = sum_below c.args.origin missing (length piece) behind c.if-piece-missing.false refl in
    let read = subst (λ (xs : List ℕ). IsScan behind (Open c.new.result) xs c.in_ok-scan.scan) (take_rest piece missing) c.in_ok-scan.ensures in
    fills c.args.origin behind c.args.size c.args.n c.args.rest.now c.args.piece.now c.in_ok-scan.scan c.requires.part c.if-piece-missing.false behind_is
    (subst (λ (head : Head). IsScan behind (Open head) (drop missing piece) c.in_ok-scan.scan) c.new.ensures read)
