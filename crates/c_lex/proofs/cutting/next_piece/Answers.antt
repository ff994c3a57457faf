use Rattle.std.proofs.Common.{ap, drop, subst, List, ℕ}
use Rattle.std.proofs.lemmas.List.{take_rest}
use Rattle.c_lex.specs.Found.{FindsPiece}
use Rattle.c_lex.specs.Tokens.{fault_of}
use Rattle.c_lex.proofs.Steps.{breaks_on}
use Rattle.c_lex.proofs.cutting.next_piece.Goals as goal

pub returns-in-Unclosed-clause-fault : goal.returns-in-Unclosed-clause-fault
returns-in-Unclosed-clause-fault c =
    let finds : FindsPiece c.args.cursor.leads (drop c.args.cursor.at c.args.text.now) c.in-Some.found =
    subst (λ (rest : List ℕ). FindsPiece c.args.cursor.leads rest c.in-Some.found) (take_rest c.args.text.now c.args.cursor.at) c.in-Some.ensures.found in
    breaks_on c.args.text.now c.args.cursor c.in-Some.found _ c.requires.stands finds (ap (λ s. fault_of s c.args.cursor.place) c.in-Unclosed.is)
