use Rattle.std.proofs.Common.{rules, ◌≡◌, sym, ap, ◌∙◌, ℤ, ◌∷◌}
use Rattle.std.specs.Int.{w64}
use Rattle.std.proofs.Common.{to_z, of_z}
use Rattle.c_meaning.specs.Tree.{with_input, frames_after_return}
use Rattle.tree_run.specs.declared.deed.Act.{Act}
use Rattle.tree_run.specs.Deeds.{act_frames}
use Rattle.tree_run.proofs.Stacks.{on_ok}
use Rattle.tree_run.proofs.stack.perform.Goals as goal

pub returns-in-Gets-clause-ok : goal.returns-in-Gets-clause-ok
returns-in-Gets-clause-ok c =
    let same : to_z w64 (of_z w64 c.in-Gets.number) ≡ c.in-Gets.number = search rules in
    on_ok c.get_input.result
    (λ goes. λ frame below shows. goes frame below shows ∙ ap (λ (k : ℤ). with_input frame k ∷ below) same ∙ sym (ap (λ (a : Act). act_frames a c.args.unit.now c.args.started frame below) c.in-Gets.is))
    c.get_input.ensures.ok

pub returns-in-Returns-clause-ok : goal.returns-in-Returns-clause-ok
returns-in-Returns-clause-ok c =
    let same : to_z w64 (of_z w64 c.in-Returns.number) ≡ c.in-Returns.number = search rules in
    on_ok c.give_back.result
    (λ goes. λ frame below shows. goes frame below shows ∙ ap (λ (k : ℤ). frames_after_return c.args.unit.now below k) same ∙ sym (ap (λ (a : Act). act_frames a c.args.unit.now c.args.started frame below) c.in-Returns.is))
    c.give_back.ensures.ok
