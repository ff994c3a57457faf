use Rattle.std.proofs.Common.{rules, ◌≡◌, sym, ap, ◌∙◌, refl, [], ◌∷◌, List}
use Rattle.gob_tree.specs.declared.stmt.Placed.{Placed}
use Rattle.c_meaning.specs.declared.config.Todo.TheVariants.{Test as Testing}
use Rattle.c_meaning.specs.Tree.{statements, unrolling, with_front}
use Rattle.tree_run.specs.declared.todo.Part.TheVariants.{Rest, One, Test}
use Rattle.tree_run.specs.Stack.{todo_of}
use Rattle.tree_run.proofs.Leaving.{plain_stays}
use Rattle.tree_run.proofs.Tops.{settles_here, settles_bare, settles_after, settles_stopped, opens_two, block_stays, block_opens, do_opens, for_bare, for_opens, for_splits}
use Rattle.tree_run.proofs.todo.+unroll.Goals as goal

pub returns-in-Declare : goal.returns-in-Declare
returns-in-Declare t c = settles_here _ _ _ c.requires refl (plain_stays _ c.in-Declare.is)

pub returns-in-None : goal.returns-in-None
returns-in-None t c = settles_here _ _ _ c.requires refl (block_stays _ _ c.in-Block.is (search rules))

pub returns-in-None-split : goal.returns-in-None-split
returns-in-None-split t c = settles_bare _ _ _ c.requires c.replace.ensures (for_bare _ _ _ _ _ c.in-For.is (search rules))

pub returns-in_err-replace_by_two-in-Some-split-2 : goal.returns-in_err-replace_by_two-in-Some-split-2
returns-in_err-replace_by_two-in-Some-split-2 t c =
    settles_stopped _ _ _ c.from_residual-in_err-replace_by_two-in-Some-split-2.ensures.0
    (ap (λ l. unrolling (todo_of l)) c.in_err-replace_by_two-in-Some-split-2.ensures.err
    ∙ (for_splits c.args.todo.now.items c.replace_by_two-in-Some-split.new.todo.items [] c.args.p c.as_slice-list.result c.in-Some-split.more c.in-Some-split.first c.requires c.in_ok-replace_by_two-in-Some-split.ensures.ok c.in-Some-split.ensures
    (for_opens c.args.p.now c.in-For.list c.in-Some-split.first.now c.in-Some-split.more.now c.in-For.field-1 c.in-For.field-2 c.in-For.field-3 c.in-For.is (sym c.as_slice-list.ensures ∙ c.in-Some-split.ensures))).mid)

pub returns-in_ok-replace_by_two-in-Some : goal.returns-in_ok-replace_by_two-in-Some
returns-in_ok-replace_by_two-in-Some t c =
    settles_after _ c.replace_by_two.new.todo.items _ _
    (opens_two c.args.todo.now.items c.replace_by_two.new.todo.items c.args.p (Rest c.in-Some.more) (One c.in-Some.first) c.in-Some.first.now (statements c.in-Some.more.now) c.requires c.in_ok-replace_by_two-in-Some.ensures.ok refl
    (block_opens c.args.p.now c.in-Block.all c.in-Some.first.now c.in-Some.more.now c.in-Block.is (sym c.as_slice.ensures ∙ c.in-Some.ensures)))
    c.unroll.ensures

pub returns-in_ok-replace_by_two-in-DoWhile : goal.returns-in_ok-replace_by_two-in-DoWhile
returns-in_ok-replace_by_two-in-DoWhile t c =
    settles_after _ c.replace_by_two-in-DoWhile.new.todo.items _ _
    (opens_two c.args.todo.now.items c.replace_by_two-in-DoWhile.new.todo.items c.args.p (Test c.args.p) (One c.get-body.result) c.get-body.result.now (Testing c.args.p.now ∷ []) c.requires c.in_ok-replace_by_two-in-DoWhile.ensures.ok refl
    (λ rest. do_opens c.args.p.now c.in-DoWhile.body c.in-DoWhile.field-1 c.in-DoWhile.is rest ∙ ap (λ (b : Placed). with_front b (Testing c.args.p.now ∷ rest)) (sym c.get-body.ensures)))
    c.unroll-in-DoWhile.ensures

pub returns-in_ok-replace_by_two-in-Some-split-2 : goal.returns-in_ok-replace_by_two-in-Some-split-2
returns-in_ok-replace_by_two-in-Some-split-2 t c =
    settles_after _ c.replace_by_two-in-Some-split-2.new.todo.items _ _
    ((for_splits c.args.todo.now.items c.replace_by_two-in-Some-split.new.todo.items c.replace_by_two-in-Some-split-2.new.todo.items c.args.p c.as_slice-list.result c.in-Some-split.more c.in-Some-split.first c.requires c.in_ok-replace_by_two-in-Some-split.ensures.ok c.in-Some-split.ensures
    (for_opens c.args.p.now c.in-For.list c.in-Some-split.first.now c.in-Some-split.more.now c.in-For.field-1 c.in-For.field-2 c.in-For.field-3 c.in-For.is (sym c.as_slice-list.ensures ∙ c.in-Some-split.ensures))).all c.in_ok-replace_by_two-in-Some-split-2.ensures.ok)
    c.unroll-in-Some-split.ensures
