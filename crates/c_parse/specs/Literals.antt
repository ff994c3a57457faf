-- What a function of the descent tells of a number. No public promise speaks of it.
use Rattle.std.specs.Prelude.{◌≡◌, ℤ, List}
use Rattle.gob_tree.specs.declared.expr.Width.{Width}
use Rattle.gob_tree.specs.declared.place.Place.{Place}
use Rattle.c_parse.specs.declared.terminal.Kind.TheVariants as kinds
use Rattle.c_parse.specs.declared.terminal.Terminal.{Terminal}
use Rattle.c_parse.specs.Grammar.{Next, place_at}

-- a number, with its place
pub record ReadsNumber (ts : List Terminal) (v : ℤ) (place : Place) (rest : List Terminal) : Type 0 where
  pub width : Width
  pub next : Next (kinds.Number v width) ts rest
  pub here : place ≡ place_at ts
