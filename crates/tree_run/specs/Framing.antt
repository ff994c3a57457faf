-- A frame as the definition sees it.
use Rattle.std.specs.Prelude.{◌≡◌, List, [], ◌∷◌, Option, None, Some}
use Rattle.gob_tree.specs.declared.expr.Expr.{Expr}
use Rattle.c_meaning.specs.Tree as Tree
use Rattle.c_meaning.specs.Tree.{unrolling, one}
use Rattle.tree_run.specs.declared.frame.Frame.{Frame}
use Rattle.tree_run.specs.declared.front.Exprs.{Exprs}
use Rattle.tree_run.specs.declared.front.Exprs.TheVariants as exprs
use Rattle.tree_run.specs.Stack.{todo_of}

abbrev pub shown : Frame → Tree.Frame
shown f = record {
  func = f.func;
  todo = unrolling (todo_of f.todo.items);
  slots = f.slots.items;
  vars = f.vars.items;
  ins = f.ins.items;
}

-- the expressions that a front has
abbrev pub expr_list : Exprs → List Expr
expr_list exprs.Nothing = []
expr_list (exprs.One e) = e.now ∷ []
expr_list (exprs.All es) = es.now
expr_list exprs.Holds = one ∷ []
