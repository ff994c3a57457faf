use Rattle.std.proofs.Common.{rules, ◌≡◌, sym, ap, ◌∙◌, List, ◌∷◌, ◌++◌}
use Rattle.std.specs.Prelude.{slice_get}
use Rattle.gob_tree.specs.declared.stmt.Placed.{Placed}
use Rattle.c_meaning.specs.declared.config.Todo.{Todo}
use Rattle.c_meaning.specs.declared.config.Todo.TheVariants.{Stmt as Doing, Test as Testing}
use Rattle.c_meaning.specs.Tree.{statements, with_front}
use Rattle.tree_run.proofs.Leaving.{plain_stays}
use Rattle.tree_run.proofs.Picking.{picks_same, picks_then}
use Rattle.tree_run.proofs.Tops.{block_stays, block_opens, do_opens, for_bare, for_opens}
use Rattle.tree_run.proofs.look.+nth_of.Goals as goal

pub nth_of-returns-in-Declare : goal.nth_of-returns-in-Declare
nth_of-returns-in-Declare t c =
    picks_same (with_front c.args.p.now) (λ (rest : List Todo). Doing c.args.p.now ∷ rest) c.args.k c.nth_alone-in-Declare.result (plain_stays _ c.in-Declare.is) c.nth_alone-in-Declare.ensures

pub nth_of-returns-in-None : goal.nth_of-returns-in-None
nth_of-returns-in-None t c =
    picks_same (with_front c.args.p.now) (λ (rest : List Todo). Doing c.args.p.now ∷ rest) c.args.k c.nth_alone.result (block_stays _ _ c.in-Block.is (search rules)) c.nth_alone.ensures

pub nth_of-returns-in-Some : goal.nth_of-returns-in-Some
nth_of-returns-in-Some t c =
    picks_same (with_front c.args.p.now) (λ (rest : List Todo). with_front c.in-Some.first.now (statements c.in-Some.more.now ++ rest)) c.args.k c.nth_opened.result
    (block_opens c.args.p.now c.in-Block.all c.in-Some.first.now c.in-Some.more.now c.in-Block.is (sym c.as_slice.ensures ∙ c.in-Some.ensures)) c.nth_opened.ensures

pub nth_of-returns-in-Ok : goal.nth_of-returns-in-Ok
nth_of-returns-in-Ok t c =
    λ rest. ap (λ (l : List Todo). slice_get l c.args.k) (do_opens c.args.p.now c.in-DoWhile.body c.in-DoWhile.field-1 c.in-DoWhile.is rest ∙ ap (λ (b : Placed). with_front b (Testing c.args.p.now ∷ rest)) (sym c.get.ensures))
    ∙ c.in-Ok.ensures (Testing c.args.p.now ∷ rest)

pub nth_of-returns-in-Err : goal.nth_of-returns-in-Err
nth_of-returns-in-Err t c =
    picks_same (with_front c.args.p.now) (λ (rest : List Todo). with_front c.get.result.now (Testing c.args.p.now ∷ rest)) c.args.k c.nth_alone-in-Err.result
    (λ rest. do_opens c.args.p.now c.in-DoWhile.body c.in-DoWhile.field-1 c.in-DoWhile.is rest ∙ ap (λ (b : Placed). with_front b (Testing c.args.p.now ∷ rest)) (sym c.get.ensures))
    (picks_then (with_front c.get.result.now) (λ (rest : List Todo). Testing c.args.p.now ∷ rest) c.args.k c.in-Err.left c.nth_alone-in-Err.result c.in-Err.ensures c.nth_alone-in-Err.ensures)

pub nth_of-returns-in-None-split : goal.nth_of-returns-in-None-split
nth_of-returns-in-None-split t c =
    picks_same (with_front c.args.p.now) (λ (rest : List Todo). Testing c.args.p.now ∷ rest) c.args.k c.nth_alone-in-None-split.result
    (for_bare _ _ _ _ _ c.in-For.is (search rules)) c.nth_alone-in-None-split.ensures

pub nth_of-returns-in-Ok-nth_opened : goal.nth_of-returns-in-Ok-nth_opened
nth_of-returns-in-Ok-nth_opened t c =
    λ rest. ap (λ (l : List Todo). slice_get l c.args.k)
    (for_opens c.args.p.now c.in-For.list c.in-Some-split.first.now c.in-Some-split.more.now c.in-For.field-1 c.in-For.field-2 c.in-For.field-3 c.in-For.is (sym c.as_slice-in-For.ensures ∙ c.in-Some-split.ensures) rest)
    ∙ c.in-Ok-nth_opened.ensures (Testing c.args.p.now ∷ rest)

pub nth_of-returns-in-Err-nth_opened : goal.nth_of-returns-in-Err-nth_opened
nth_of-returns-in-Err-nth_opened t c =
    picks_same (with_front c.args.p.now) (λ (rest : List Todo). with_front c.in-Some-split.first.now (statements c.in-Some-split.more.now ++ Testing c.args.p.now ∷ rest)) c.args.k c.nth_alone-in-Err-nth_opened.result
    (for_opens c.args.p.now c.in-For.list c.in-Some-split.first.now c.in-Some-split.more.now c.in-For.field-1 c.in-For.field-2 c.in-For.field-3 c.in-For.is (sym c.as_slice-in-For.ensures ∙ c.in-Some-split.ensures))
    (picks_then (λ (rest : List Todo). with_front c.in-Some-split.first.now (statements c.in-Some-split.more.now ++ rest)) (λ (rest : List Todo). Testing c.args.p.now ∷ rest) c.args.k c.in-Err-nth_opened.left c.nth_alone-in-Err-nth_opened.result c.in-Err-nth_opened.ensures c.nth_alone-in-Err-nth_opened.ensures)
