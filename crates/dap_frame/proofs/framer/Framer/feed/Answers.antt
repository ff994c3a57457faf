use Rattle.std.proofs.Common.{sym, ◌∙◌, ap}
use Rattle.dap_frame.specs.Framing.{Framing}
use Rattle.dap_frame.proofs.Framings.{after_fault}
use Rattle.dap_frame.proofs.framer.Framer.feed.Goals as goal

pub returns-in-Some-clause-read : goal.returns-in-Some-clause-read
returns-in-Some-clause-read c = λ real stream taken short before.
    after_fault c.args.self.now stream c.args.piece.now taken c.in-Some.fault before
    (sym (ap (λ (v : Framing). v.fault) c.self.view_is) ∙ c.in-Some.is)
