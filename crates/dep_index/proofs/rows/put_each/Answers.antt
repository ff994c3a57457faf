use Rattle.std.proofs.Common.{◌≡◌, ◌⊎◌, ◌↔◌, List, take, subst}
use Rattle.std.specs.Prelude.{Contains}
use Rattle.std.proofs.lemmas.List.{take_all}
use Rattle.constraint_sys.specs.declared.unknown.Unknown.{Unknown}
use Rattle.dep_index.specs.Rows.{set_at}
use Rattle.dep_index.proofs.Stepping.{given_more, ascending_everywhere, room_or_there}
use Rattle.dep_index.proofs.rows.put_each.Goals as goal

pub loop-u-preserved : goal.loop-u-preserved
loop-u-preserved c = record {
  members = given_more c.put_member.new.rows.entries c.loop-u.rows.entries c.u-item.result c.put_member.ensures.others c.args.rows.now.entries c.args.q.now c.args.us.now c.loop-u.u-index c.loop-u-test.true c.u-item.is c.put_member.ensures.members c.loop-u.invariant.members;
  ascending = ascending_everywhere c.put_member.new.rows.entries c.loop-u.rows.entries c.u-item.result c.put_member.ensures.others c.put_member.ensures.ascending c.loop-u.invariant.ascending;
  room = room_or_there c.put_member.new.rows.entries c.loop-u.rows.entries c.u-item.result c.put_member.ensures.others c.args.rows.now.entries c.args.q.now c.args.us.now c.loop-u.u-index c.loop-u-test.true c.u-item.is c.put_member.ensures.members c.loop-u.invariant.room;
}

pub returns-clause-members : goal.returns-clause-members
returns-clause-members c =
    let all : take c.loop-u.u-index c.args.us.now ≡ c.args.us.now = take_all c.loop-u.u-index c.args.us.now c.loop-u-test.false in
    subst (λ (l : List Unknown). (w y : Unknown) → Contains (set_at c.loop-u.rows.entries w) y ↔ (Contains (set_at c.args.rows.now.entries w) y ⊎ ((y ≡ c.args.q.now) × Contains l w))) all c.loop-u.invariant.members
