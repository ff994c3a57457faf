use Rattle.std.proofs.Common.{inl, inr, subst, sym, ◌∙◌}
use Rattle.constraint_sys.specs.declared.unknown.Unknown.{Unknown}
use Rattle.constraint_sys.proofs.Ordered.{Contains-take_more}
use Rattle.dep_index.specs.Rows.{HasRoom}
use Rattle.dep_index.proofs.rows.reserve_each.Goals as goal

pub loop-u-preserved : goal.loop-u-preserved
loop-u-preserved c = record {
  same = λ w. c.in_ok-reserve_member.ensures.same w ∙ c.loop-u.invariant.same w;
  room = λ w one. elim ((Contains-take_more c.args.us.now c.loop-u.u-index c.u-item.result w c.loop-u-test.true c.u-item.is).0 one) [
    | inl before ↦ c.in_ok-reserve_member.ensures.rooms w (c.loop-u.invariant.room w before)
    | inr same ↦ subst (λ (n : Unknown). HasRoom c.reserve_member.new.rows.entries n) (sym same) c.in_ok-reserve_member.ensures.room
  ];
}
