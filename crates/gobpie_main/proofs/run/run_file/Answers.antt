use Rattle.std.proofs.Common.{inr}
use Rattle.gobpie_main.proofs.Loads.{text_before}
use Rattle.gobpie_main.proofs.run.run_file.Goals as goal

pub returns-clause-answer : goal.returns-clause-answer
returns-clause-answer g c =
    let text = c.in_ok-text.ensures.loaded in
    let choices = c.in_ok-choices.ensures.loaded in
    inr (inr (
      text.0,
      choices.0,
      text.1,
      text_before (g.F.Files.seen c.args.files.now) (g.F.Files.seen c.load-text.new.files) c.args.file.now c.args.schedule.now choices.0 c.load-text.ensures.asks choices.1,
      c.run_text.ensures text.0 choices.0 text.2 choices.2,
    ))
