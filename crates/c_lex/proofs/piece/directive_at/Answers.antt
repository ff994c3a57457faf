use Rattle.std.proofs.Common.{sym, ◌∙◌, subst, refl}
use Rattle.c_lex.specs.declared.piece.Shape.TheVariants.{Include, Directive}
use Rattle.c_lex.specs.Found.{FindsPiece}
use Rattle.c_lex.proofs.Finds.{finds_include, finds_directive, finds_no_hash}
use Rattle.c_lex.proofs.piece.directive_at.Goals as goal

pub returns-then-not-leads-clause-none : goal.returns-then-not-leads-clause-none
returns-then-not-leads-clause-none c = finds_no_hash c.args.leads c.args.rest.now c.requires.some c.requires.first c.if-not-leads.true

pub returns-then-starts_with-clause-found : goal.returns-then-starts_with-clause-found
returns-then-starts_with-clause-found c =
    subst (λ leads. FindsPiece leads c.args.rest.now (record { shape = Include; length = c.line_length.result })) (sym c.if-not-leads.false)
    (finds_include c.args.rest.now _ (sym c.starts_with.ensures.value ∙ c.if-starts_with.true) refl c.line_length.ensures)

pub returns-else-starts_with-clause-found : goal.returns-else-starts_with-clause-found
returns-else-starts_with-clause-found c =
    subst (λ leads. FindsPiece leads c.args.rest.now (record { shape = Directive; length = 1 })) (sym c.if-not-leads.false)
    (finds_directive c.args.rest.now _ c.requires.some c.requires.first (sym c.starts_with.ensures.value ∙ c.if-starts_with.false) refl refl)
