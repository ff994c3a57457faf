use Rattle.std.proofs.Common.{ℕ, ◌+◌, ◌≤◌, sym, List, length, drop, subst}
use Rattle.std.proofs.lemmas.List.{take_rest}
use Rattle.std.specs.Prelude.{IfOk}
use Rattle.dap_frame.specs.declared.header.TheConstants.{MAX_HEADER}
use Rattle.dap_frame.specs.declared.header.Header.{Header}
use Rattle.dap_frame.specs.declared.header.Header.TheVariants.{Open, Ended, Faulty}
use Rattle.dap_frame.specs.Scan.{IsPart, IsContentPart, IsRest, HasRead, HasNoWholeLine}
use Rattle.dap_frame.proofs.Scanning.{if_ok_weaker, part_from_content, rest_from_full, rest_from_fault}
use Rattle.dap_frame.proofs.scan.next_part.Goals as goal

pub returns-in-Ended : goal.returns-in-Ended
returns-in-Ended c =
    let bytes : List ℕ = c.args.bytes.now in
    let used : ℕ = c.read_lines-header.result.1 in
    let size : ℕ = c.in-Ended.size in
    let n : ℕ = c.in-Ended.n in
    let read : HasRead c.args.header bytes (Ended size n) used = subst (λ (h : Header). HasRead c.args.header bytes h used) c.in-Ended.is c.read_lines-header.ensures.read in
    let behind : IfOk c.content_part.result (IsContentPart size n used (drop used bytes)) =
    subst (λ (xs : List ℕ). IfOk c.content_part.result (IsContentPart size n used xs)) (take_rest bytes used) c.content_part.ensures in
    if_ok_weaker c.content_part.result (IsContentPart size n used (drop used bytes)) (IsPart c.args.header bytes)
    (λ part is. part_from_content c.args.header bytes size n used part read is) behind

pub returns-in-Open-2 : goal.returns-in-Open-2
returns-in-Open-2 c =
    let bytes : List ℕ = c.args.bytes.now in
    let used : ℕ = c.read_lines-header.result.1 in
    let read : HasRead c.args.header bytes (Open c.in-Open.head) used = subst (λ (h : Header). HasRead c.args.header bytes h used) c.in-Open.is c.read_lines-header.ensures.read in
    let none : HasNoWholeLine (Open c.in-Open.head) (drop used bytes) = subst (λ (h : Header). HasNoWholeLine h (drop used bytes)) c.in-Open.is c.read_lines-header.ensures.rest in
    let full : MAX_HEADER ≤ c.in-Open.head.size + length (drop used bytes) =
    subst (λ (xs : List ℕ). MAX_HEADER ≤ c.in-Open.head.size + length xs) (take_rest bytes used) c.if-head-rest-lt-MAX_HEADER.false in
    rest_from_full c.args.header bytes c.in-Open.head used c.new.result.items read none full c.new.ensures.items

pub returns-in-Faulty : goal.returns-in-Faulty
returns-in-Faulty c =
    let bytes : List ℕ = c.args.bytes.now in
    let used : ℕ = c.read_lines-header.result.1 in
    let read : HasRead c.args.header bytes (Faulty c.in-Faulty.field-0) used = subst (λ (h : Header). HasRead c.args.header bytes h used) c.in-Faulty.is c.read_lines-header.ensures.read in
    subst (λ (h : Header). IsRest c.args.header bytes h c.new-in-Faulty.result.items) (sym c.in-Faulty.is)
    (rest_from_fault c.args.header bytes c.in-Faulty.field-0 used c.new-in-Faulty.result.items read c.new-in-Faulty.ensures.items)
