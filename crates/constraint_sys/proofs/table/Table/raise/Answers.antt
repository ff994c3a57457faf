use Rattle.std.proofs.Common.{◌≡◌, ◌∙◌, Some, sym, ap}
use Rattle.constraint_sys.specs.declared.value.Value.{Value}
use Rattle.constraint_sys.specs.declared.value.Value.TheVariants.{Number}
use Rattle.constraint_sys.specs.Table.{TableValue, value_at, with_value}
use Rattle.constraint_sys.specs.Turn.{raised_value}
use Rattle.constraint_sys.proofs.Arisen.{with_value-twice}
use Rattle.constraint_sys.proofs.table.Table.raise.Goals as goal

pub returns-in-Ok-Some : goal.returns-in-Ok-Some
returns-in-Ok-Some c = λ old at.
    let t = c.args.self.now in
    let u = c.args.u.now in
    let view : c.self.inside.map.entries ≡ t = cc c.self.view_is in
    let was : Some c.in-Ok-Some.old ≡ Some old = sym c.in-Ok-Some.field-0-is ∙ c.in-Ok-Some.ensures.old ∙ ap (λ (s : TableValue). value_at s u) view ∙ at in
    let same : c.in-Ok-Some.old ≡ old = cc was in
    let new : c.raise.new.self ≡ raised_value c.args.marks.now old c.args.v.now = c.raise.ensures ∙ ap (λ (x : Value). raised_value c.args.marks.now x c.args.v.now) same in
    c.set.ensures
    ∙ ap (λ (s : TableValue). with_value s u c.raise.new.self) (c.in-Ok-Some.ensures.entries ∙ ap (λ (s : TableValue). with_value s u (Number c.full.result)) view)
    ∙ with_value-twice u c.raise.new.self (Number c.full.result) t
    ∙ ap (λ (v : Value). with_value t u v) new
