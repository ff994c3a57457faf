use Rattle.std.proofs.lemmas.Result.{err_from_is_err_and}
use Rattle.gobpie_main.specs.Command.{command_of}
use Rattle.gobpie_main.proofs.Answering.{memory_answers}
use Rattle.gobpie_main.proofs.batch.answer_to.Goals as goal

pub returns-in_err-command : goal.returns-in_err-command
returns-in_err-command g c =
    let p = err_from_is_err_and c.from_residual.result c.from_residual.ensures.1 in
    rw (p.1, p.2) (memory_answers (command_of c.args.words.now) (g.F.Files.seen c.args.files.now))
