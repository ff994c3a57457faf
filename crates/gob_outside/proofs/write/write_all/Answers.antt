use Rattle.std.proofs.Common.{ℕ, List, ◌++◌, take, drop, Option, option_map, ap, ◌∙◌, arith}
use Rattle.gob_outside.proofs.Pieces.{written-next_piece}
use Rattle.gob_outside.proofs.write.write_all.Goals as goal

-- one more piece was written, and the steps so far go on by its step
pub loop-sent-preserved : goal.loop-sent-preserved
loop-sent-preserved g c = record {
  within = let few = c.in-Ok.ensures.within in omega arith;
  wrote = c.in-Ok.ensures.wrote
      ∙ (ap (λ (x : Option (List ℕ)). option_map (λ before. before ++ take c.in-Ok.count (drop c.loop-sent.sent c.args.bytes.now)) x) c.loop-sent.invariant.wrote
      ∙ written-next_piece _ c.args.bytes.now c.loop-sent.sent c.in-Ok.count);
  fine = c.in-Ok.ensures.fine ∙ c.loop-sent.invariant.fine;
  step = g.met.S.Sink.write_goes_on _ _ _ c.loop-sent.invariant.step c.in-Ok.ensures.step;
}
