use Rattle.std.proofs.Common.{◌≡◌, ◌≤◌, ◌-◌, ◌^◌, string_bytes, rules, arith, sym, ◌∙◌}
use Rattle.std.specs.BTreeMap.{get_by_text}
use Rattle.std.proofs.lemmas.Map.Text.{btree_map_updates_text}
use Rattle.std.proofs.lemmas.Result.{IfOk-at_ok}
use Rattle.gob_outside.specs.Faults.{count_of}
use Rattle.gob_outside.proofs.Noting.{counts-set, noted-never_falls, noted-others, noted-rose}
use Rattle.gob_outside.proofs.faults.note.Goals as goal

-- the key has the name's bytes, so the insertion set the name's count
pub returns-clause-ok : goal.returns-clause-ok
returns-clause-ok c =
    let key_is_name = IfOk-at_ok (λ s. string_bytes s ≡ c.args.name.now) c.in_ok-key.was c.from_str.ensures.ok in
    let sets = btree_map_updates_text (string_bytes c.in_ok-key.key) c.args.counts.now c.insert.new.self _ c.in_ok-insert.ensures.updates in
    counts-set (get_by_text c.args.counts.now) (get_by_text c.insert.new.self) c.args.name.now _ (rw key_is_name at sets) (search rules)

pub returns-clause-rose : goal.returns-clause-rose
returns-clause-rose c =
    let fits : count_of c.args.counts.now c.args.name.now ≤ 2 ^ 64 - 1 = rw (sym c.count_so_far.ensures) (omega arith) in
    rw (returns-clause-ok c c.args.name.now) (noted-rose (count_of c.args.counts.now) c.args.name.now fits)

pub returns-clause-never_falls : goal.returns-clause-never_falls
returns-clause-never_falls c = λ other.
    let fits : count_of c.args.counts.now c.args.name.now ≤ 2 ^ 64 - 1 = rw (sym c.count_so_far.ensures) (omega arith) in
    rw (returns-clause-ok c other) (noted-never_falls (count_of c.args.counts.now) c.args.name.now fits other)

pub returns-clause-others : goal.returns-clause-others
returns-clause-others c = λ other differs. returns-clause-ok c other ∙ noted-others (count_of c.args.counts.now) c.args.name.now other differs
