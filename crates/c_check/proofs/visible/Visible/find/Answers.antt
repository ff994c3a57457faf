use Rattle.std.proofs.Common.{◌≡◌, Some, None, List, ℕ, reverse, sym, ap, ◌∙◌, rules}
use Rattle.std.specs.Option.{unwrap_or}
use Rattle.c_check.specs.declared.meaning.Declared.{Declared}
use Rattle.c_check.specs.Names.{named}
use Rattle.c_check.specs.Tables.{at_name, declarations}
use Rattle.c_check.proofs.visible.Visible.find.Goals as goal

pub returns-in-Some : goal.returns-in-Some
returns-in-Some c =
    let at : at_name c.args.name.now c.self.inside.latest.entries ≡ Some c.in-Some.declared.now = search rules in
    let view : declarations (reverse c.self.inside.all.items) ≡ c.args.self.now = search rules in
    ap (λ o. unwrap_or o None) (sym at) ∙ c.self.invariant.knows c.args.name.now ∙ ap (λ (ds : List (List ℕ × Declared)). named c.args.name.now ds) view
