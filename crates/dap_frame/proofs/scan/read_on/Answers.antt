use Rattle.std.proofs.Common.{◌≡◌, ℕ, ◌+◌, ◌-◌, ◌%◌, ◌<◌, ◌^◌, List, [], ◌∷◌, ◌++◌, length, drop, sym, ◌∙◌, ap, subst, arith}
use Rattle.std.specs.Global.{Vec}
use Rattle.dap_frame.specs.declared.scan.Placed.{Placed}
use Rattle.std.proofs.lemmas.List.{take_rest, map-append, length-drop}
use Rattle.dap_frame.specs.declared.header.Head.{Head}
use Rattle.dap_frame.specs.declared.header.Header.TheVariants.{Open}
use Rattle.dap_frame.specs.Header.{nothing_said}
use Rattle.dap_frame.specs.Scan.{contents, places, IsPart, IsWhole, IsRest, HasScanned}
use Rattle.dap_frame.proofs.Scanning.{scanned_message, scan_from_rest, place_of_end}
use Rattle.dap_frame.proofs.scan.read_on.Goals as goal

pub loop-messages-preserved : goal.loop-messages-preserved
loop-messages-preserved c =
    let bytes : List ℕ = c.args.bytes.now in
    let at : ℕ = c.loop-messages.at in
    let before : List Placed = c.loop-messages.messages.items in
    let content : Vec ℕ = c.in-Message.content in
    let whole : IsWhole c.loop-messages.header (drop at bytes) content.items c.in-Message.size c.in-Message.used =
    subst (IsPart c.loop-messages.header (drop at bytes)) c.in-Message.is
    (subst (λ (xs : List ℕ). IsPart c.loop-messages.header xs c.in_ok-content.field-0) (take_rest bytes at) c.in_ok-content.ensures) in
    let place : ℕ = (c.args.origin + (at + c.in-Message.used - length c.as_slice-length.result.now)) % 2 ^ 64 in
    let message : Placed = record { start = place; content = content } in
    let ends : c.args.origin + length bytes < 2 ^ 64 → place + length content.items ≡ c.args.origin + (at + c.in-Message.used) =
    place_of_end c.args.origin (length bytes) (at + c.in-Message.used) (length content.items) place
    (let left = length-drop at bytes in omega (arith, c.loop-messages.invariant.within, whole.within)) (omega (arith, whole.behind)) (ap (λ (xs : List ℕ). (c.args.origin + (at + c.in-Message.used - length xs)) % 2 ^ 64) c.as_slice-length.ensures.value) in
    let step = scanned_message c.args.origin c.args.header bytes (contents before) (places before) c.loop-messages.start c.loop-messages.header at content.items c.in-Message.size c.in-Message.used place c.loop-messages.invariant whole ends in
    let pushed : contents before ++ content.items ∷ [] ≡ contents c.push_back.new.self.items =
    sym (ap contents c.in_ok-push_back-in-Message.ensures.items ∙ map-append (λ (m : Placed). m.content.items) before (message ∷ [])) in
    let placed : places before ++ place ∷ [] ≡ places c.push_back.new.self.items =
    sym (ap places c.in_ok-push_back-in-Message.ensures.items ∙ map-append (λ (m : Placed). m.start) before (message ∷ [])) in
    subst (λ (head : Head). HasScanned c.args.origin c.args.header bytes (contents c.push_back.new.self.items) (places c.push_back.new.self.items) (c.loop-messages.start + c.in-Message.size) (Open head) (at + c.in-Message.used)) (sym c.new.ensures)
    (subst (λ (ps : List ℕ). HasScanned c.args.origin c.args.header bytes (contents c.push_back.new.self.items) ps (c.loop-messages.start + c.in-Message.size) (Open nothing_said) (at + c.in-Message.used)) placed
    (subst (λ (ms : List (List ℕ)). HasScanned c.args.origin c.args.header bytes ms (places before ++ place ∷ []) (c.loop-messages.start + c.in-Message.size) (Open nothing_said) (at + c.in-Message.used)) pushed step))

pub returns-in-Unfinished : goal.returns-in-Unfinished
returns-in-Unfinished c =
    let bytes : List ℕ = c.args.bytes.now in
    let at : ℕ = c.loop-messages.at in
    let rest : IsRest c.loop-messages.header (drop at bytes) c.in-Unfinished.header c.in-Unfinished.rest.items =
    subst (IsPart c.loop-messages.header (drop at bytes)) c.in-Unfinished.is
    (subst (λ (xs : List ℕ). IsPart c.loop-messages.header xs c.in_ok-content.field-0) (take_rest bytes at) c.in_ok-content.ensures) in
    scan_from_rest c.args.origin c.args.header bytes c.loop-messages.header at
    (record { messages = c.loop-messages.messages; start = c.loop-messages.start; header = c.in-Unfinished.header; rest = c.in-Unfinished.rest })
    c.loop-messages.invariant rest
