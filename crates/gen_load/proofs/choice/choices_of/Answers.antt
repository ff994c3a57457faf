use Rattle.std.proofs.Common.{◌≡◌, ap, sym, ◌∙◌, arith, rules, List, ◌++◌, ◌∷◌, []}
use Rattle.gen_load.specs.declared.choice.Choice.{Choice}
use Rattle.gen_load.specs.Drawing.{next_state, choice_from, choices}
use Rattle.gen_load.proofs.Counting.{state_after_next, choices_next}
use Rattle.gen_load.proofs.choice.choices_of.Goals as goal

-- one more function's choice was drawn
pub loop-count-preserved : goal.loop-count-preserved
loop-count-preserved c =
    let pushed : c.push.new.self.items ≡ c.loop-count.made.items ++ c.draw_choice.result ∷ [] = search rules in
    record {
      state = c.draw_choice.ensures.state
          ∙ (ap (λ s. next_state (next_state (next_state s))) c.loop-count.invariant.state
          ∙ sym (state_after_next c.args.number c.loop-count.count));
      within = let more = c.loop-count-test.true in omega arith;
      made = pushed
          ∙ (ap (λ (l : List Choice). l ++ c.draw_choice.result ∷ []) c.loop-count.invariant.made
          ∙ (ap (λ (choice : Choice). choices c.args.number c.loop-count.count ++ choice ∷ [])
          (c.draw_choice.ensures.choice ∙ ap choice_from c.loop-count.invariant.state)
          ∙ sym (choices_next c.args.number c.loop-count.count)));
    }

-- all were drawn
pub returns : goal.returns
returns c =
    let within = c.loop-count.invariant.within in
    let done = c.loop-count-test.false in
    let all : c.loop-count.count ≡ c.args.functions = omega arith in
    c.loop-count.invariant.made ∙ ap (λ n. choices c.args.number n) all
