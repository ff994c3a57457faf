use Rattle.std.proofs.Common.{◌≡◌, false, true, is_some, ap, ◌∙◌, cond, Some, bytes_eq, List, ℕ, rules}
use Rattle.c_check.specs.Tables.{at_name}
use Rattle.c_check.proofs.Tables.{put_first, kept_first}
use Rattle.c_check.proofs.named.note_first.Goals as goal

pub returns-clause-ok : goal.returns-clause-ok
returns-clause-ok c =
    let absent : is_some (at_name c.args.name.now c.args.firsts.now.entries) ≡ false = search rules in
    let key : c.in_ok-key.key.items ≡ c.args.name.now = search rules in
    λ x. c.in_ok-put.ensures.ok x ∙ ap (λ (k : List ℕ). cond (bytes_eq x k) (Some c.args.place) (at_name x c.args.firsts.now.entries)) key
    ∙ put_first c.args.firsts.now.entries c.args.name.now c.args.place absent x

pub returns-then-contains_key-clause-ok : goal.returns-then-contains_key-clause-ok
returns-then-contains_key-clause-ok c =
    let there : is_some (at_name c.args.name.now c.args.firsts.now.entries) ≡ true = search rules in
    λ x. kept_first c.args.firsts.now.entries c.args.name.now c.args.place there x
