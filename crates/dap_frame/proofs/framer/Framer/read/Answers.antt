use Rattle.std.proofs.Common.{ℕ, ◌+◌, ◌-◌, ◌%◌, ◌^◌, List, ◌∷◌, ◌++◌, length, take, refl, ◌∙◌, ap}
use Rattle.dap_frame.specs.declared.scan.Scan.{Scan}
use Rattle.dap_frame.specs.declared.advance.Progress.TheVariants.{Grows, Reads, Fills}
use Rattle.dap_frame.specs.Scan.{contents, places}
use Rattle.dap_frame.specs.Advance.{FillsContent}
use Rattle.dap_frame.specs.Framing.{Framing, Reaches, Follows}
use Rattle.dap_frame.proofs.Framings.{progress_at, on_ok_weaker, follows_scan, follows_growth, grown, total_is}
use Rattle.dap_frame.proofs.framer.Framer.read.Goals as goal

pub returns-in_ok-extend_from_slice-in-Grows-clause-ok : goal.returns-in_ok-extend_from_slice-in-Grows-clause-ok
returns-in_ok-extend_from_slice-in-Grows-clause-ok c =
    let f : Framing = c.args.self.now in
    let total : ℕ = (c.self.inside.fed + length c.args.piece.now) % 2 ^ 64 in
    let progress = progress_at _ f.fed _ f.header _ f.rest c.args.piece.now _ Grows (ap (λ (v : Framing). v.fed) c.self.view_is) (ap (λ (v : Framing). v.header) c.self.view_is)
    (c.as_slice.ensures.value ∙ ap (λ (v : Framing). v.rest) c.self.view_is) c.in-Grows.is c.in_ok-advance.ensures in
    follows_growth f _ c.args.piece.now total c.requires progress (total_is f _ c.args.piece.now total c.self.view_is refl)
    (grown _ f c.extend_from_slice.new.self.items c.args.piece.now total c.self.view_is c.in_ok-extend_from_slice-in-Grows.ensures.items)

pub returns-in-Reads-clause-ok : goal.returns-in-Reads-clause-ok
returns-in-Reads-clause-ok c =
    let f : Framing = c.args.self.now in
    let total : ℕ = (c.self.inside.fed + length c.args.piece.now) % 2 ^ 64 in
    let scan : Scan = c.in-Reads.scan in
    let leads = progress_at _ f.fed _ f.header _ f.rest c.args.piece.now _ (Reads scan) (ap (λ (v : Framing). v.fed) c.self.view_is) (ap (λ (v : Framing). v.header) c.self.view_is)
    (c.as_slice.ensures.value ∙ ap (λ (v : Framing). v.rest) c.self.view_is) c.in-Reads.is c.in_ok-advance.ensures in
    on_ok_weaker c.take_up.result _ _
    (λ reaches. follows_scan f c.take_up.new.self c.args.piece.now (contents scan.messages.items) (places scan.messages.items) total scan c.requires leads reaches
    (total_is f _ c.args.piece.now total c.self.view_is refl)) c.take_up.ensures.ok

pub returns-in-Fills-clause-ok : goal.returns-in-Fills-clause-ok
returns-in-Fills-clause-ok c =
    let f : Framing = c.args.self.now in
    let total : ℕ = (c.self.inside.fed + length c.args.piece.now) % 2 ^ 64 in
    let scan : Scan = c.in-Fills.scan in
    let piece : List ℕ = c.args.piece.now in
    let fills : FillsContent f.fed f.header f.rest piece c.in-Fills.missing scan =
    progress_at _ f.fed _ f.header _ f.rest piece _ (Fills c.in-Fills.missing scan) (ap (λ (v : Framing). v.fed) c.self.view_is) (ap (λ (v : Framing). v.header) c.self.view_is)
    (c.as_slice.ensures.value ∙ ap (λ (v : Framing). v.rest) c.self.view_is) c.in-Fills.is c.in_ok-advance.ensures in
    let messages : List (List ℕ) = (f.rest ++ take c.in-Fills.missing piece) ∷ contents scan.messages.items in
    let starts : List ℕ = (f.fed - length f.rest) ∷ places scan.messages.items in
    on_ok_weaker c.fill.result (Reaches f c.fill.new.self messages starts total scan) (Follows f c.fill.new.self piece)
    (λ reaches. follows_scan f c.fill.new.self piece messages starts total scan c.requires fills.leads reaches
    (total_is f _ piece total c.self.view_is refl)) c.fill.ensures.ok
