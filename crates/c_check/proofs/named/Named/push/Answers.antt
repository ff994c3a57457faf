use Rattle.std.proofs.Common.{◌≡◌, ◌++◌, ◌∷◌, [], ℕ, length, cond, Some, None, bytes_eq, sym, ap, ◌∙◌, subst, rules}
use Rattle.std.specs.Option.{option_or}
use Rattle.c_check.specs.Tables.{at_name, KnowsFirsts}
use Rattle.c_check.proofs.Tables.{knows_more}
use Rattle.c_check.proofs.named.Named.push.Goals as goal

pub invariant_of-self-2 : goal.invariant_of-self-2
invariant_of-self-2 g c =
    let items : c.push_reserved.new.self.items ≡ c.self.inside.entries.items ++ (c.args.name.now, c.args.value) ∷ [] = search rules in
    let place : c.len.result ≡ length c.self.inside.entries.items = search rules in
    let more = knows_more c.self.inside.firsts.entries c.note_first.new.firsts.entries c.self.inside.entries.items c.args.name.now c.args.value c.self.invariant
    (λ x. c.in_ok-note_first.ensures.ok x ∙ ap (λ (n : ℕ). option_or (at_name x c.self.inside.firsts.entries) (cond (bytes_eq x c.args.name.now) (Some n) None)) place) in
    subst (λ es. KnowsFirsts c.note_first.new.firsts.entries es) (sym items) more
