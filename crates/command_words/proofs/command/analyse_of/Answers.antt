use Rattle.std.proofs.Common.{map, drop, Some, None}
use Rattle.command_words.proofs.CommandReads.{analyse_reads}
use Rattle.command_words.proofs.command.analyse_of.Goals as goal

pub returns-in-Some : goal.returns-in-Some
returns-in-Some c =
    let e = analyse_reads (drop 1 (map (λ s. s.now) c.args.texts.now)) (Some c.in-Some.matches) (rw (c.as_slice.ensures, c.as_slice-2.ensures, c.in-Some.is) at c.in_ok-matches.ensures) in
    rw (← e) c.analyse_by.ensures

pub returns-in-None : goal.returns-in-None
returns-in-None c = analyse_reads (drop 1 (map (λ s. s.now) c.args.texts.now)) None (rw (c.as_slice.ensures, c.as_slice-2.ensures, c.in-None.is) at c.in_ok-matches.ensures)
