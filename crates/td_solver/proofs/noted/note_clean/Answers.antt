use Rattle.std.proofs.Common.{inl, inr, arith}
use Rattle.td_solver.proofs.Keeping.{exact_more, stands}
use Rattle.td_solver.proofs.noted.note_clean.Goals as goal

pub loop-i-preserved : goal.loop-i-preserved
loop-i-preserved c =
    let now = c.loop-i.invariant in
    let made = c.in_ok-note_at.ensures in
    record {
      points = λ q r one. elim (made.points q r one) [ inl old ↦ now.points q r old | inr can ↦ can ];
      exact = λ q k below at can clean. exact_more c.args.table.now c.loop-i.i q k below at (λ last. made.here q last can clean) (λ before. made.kept q (now.exact q k before at can clean));
    }

pub returns : goal.returns
returns c =
    let now = c.loop-i.invariant in
    record {
      points = now.points;
      exact = λ q can clean.
          let place = stands c.args.table.now q can in
          now.exact q place.0 (omega (arith, place.1, c.loop-i-test.false, c.len-i-end.ensures.value)) place.2 can clean;
    }
