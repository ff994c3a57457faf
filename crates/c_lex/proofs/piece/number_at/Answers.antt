use Rattle.std.proofs.Common.{ap, take, refl, rules}
use Rattle.std.specs.Prelude.{FitsSigned}
use Rattle.std.specs.Int.{w64}
use Rattle.std.proofs.lemmas.Int.{to_z-of_z}
use Rattle.c_lex.specs.declared.piece.Shape.TheVariants.{Kept}
use Rattle.c_lex.specs.declared.token.TokenKind.TheVariants.{Number}
use Rattle.c_lex.proofs.Finds.{finds_number, finds_bad_number}
use Rattle.c_lex.proofs.piece.number_at.Goals as goal

pub returns-in-Some : goal.returns-in-Some
returns-in-Some c =
    let fits : FitsSigned w64 c.in-Some.value = search rules in
    finds_number c.args.leads c.args.rest.now _ _ c.in-Some.value c.requires.some c.requires.first (ap (λ n. take n c.args.rest.now) c.word_length-length.ensures) c.in-Some.ensures.found (ap (λ z. Kept (Number z)) (to_z-of_z w64 c.in-Some.value fits)) c.word_length-length.ensures

pub returns-in-None : goal.returns-in-None
returns-in-None c =
    finds_bad_number c.args.leads c.args.rest.now _ _ c.requires.some c.requires.first (ap (λ n. take n c.args.rest.now) c.word_length-length.ensures) c.in-None.ensures.none refl c.word_length-length.ensures
