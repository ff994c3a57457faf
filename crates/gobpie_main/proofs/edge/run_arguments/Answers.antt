use Rattle.std.proofs.Common.{Err as Bad}
use Rattle.gobpie_main.specs.Command.{command_of}
use Rattle.gobpie_main.specs.declared.fault.Fault.TheVariants.{Memory}
use Rattle.gobpie_main.proofs.Answering.{memory_answers}
use Rattle.gobpie_main.proofs.Asked.{words_told, words_told_are}
use Rattle.gobpie_main.proofs.edge.run_arguments.Goals as goal

pub returns-in-Err : goal.returns-in-Err
returns-in-Err g c =
    let told = g.A.Arguments.told c.args.arguments.now in
    record {
      words = words_told told;
      status = c.tell.result;
      words_are = words_told_are told;
      exit_is = c.exit_code-in-Err.ensures;
      answers = record {
        answer = Bad Memory;
        answers = memory_answers (command_of (words_told told)) (g.F.Files.seen c.args.files.now);
        told = c.tell.ensures;
      };
    }
