use Rattle.std.proofs.Common.{◌≡◌, ◌∙◌, ap, subst, sym}
use Rattle.std.specs.Option.{option_copied}
use Rattle.constraint_sys.specs.Sound.{IsShaped, IsShapedEntry}
use Rattle.constraint_sys.specs.Table.{TableValue}
use Rattle.constraint_sys.specs.declared.value.Value.{Value}
use Rattle.solved_texts.proofs.Shaping.{shaped_push}
use Rattle.solved_texts.proofs.partial.add.Goals as goal

pub returns-in_ok-add : goal.returns-in_ok-add
returns-in_ok-add c =
    let p = c.args.program.now in
    let fits : IsShapedEntry p c.args.u c.in-Some.v.now = c.requires.table c.args.u c.in-Some.v.now (sym c.get.ensures ∙ ap option_copied c.in-Some.is) in
    let copied : IsShapedEntry p c.args.u c.in_ok-copy.field-0 = subst (λ (v : Value). IsShapedEntry p c.args.u v) (sym c.in_ok-copy.ensures) fits in
    subst (λ (t : TableValue). IsShaped p t) (sym c.in_ok-add.ensures.ok) (shaped_push p c.args.rest.now c.args.u c.in_ok-copy.field-0 c.requires.rest copied)
