-- What is seen of a topmost frame.
use Rattle.std.specs.Prelude.{ℕ, ℤ, List}
use Rattle.gob_tree.specs.declared.place.Place.{Place}
use Rattle.c_meaning.specs.Tree as Tree
use Rattle.tree_run.specs.declared.view.TopView.{TopView}
use Rattle.tree_run.specs.Looking.{front_place}

-- the function, the place of what comes next, and the values of the slots
pub record TopSeen : Type 0 where
  pub func : ℕ
  pub place : Place
  pub slots : List ℤ

abbrev pub top_seen : TopView → TopSeen
top_seen v = record { func = v.func; place = v.place; slots = v.slots.now }

abbrev pub top_of : Tree.Frame → TopSeen
top_of frame = record { func = frame.func; place = front_place frame.todo; slots = frame.slots }
