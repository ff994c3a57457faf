-- The tokens of an example stand on one line, the n-th of them in column n. Names and numbers are these.
use Rattle.std.specs.Prelude.{ℕ, ◌+◌, pos, List, [], ◌∷◌, codes}
use Rattle.gob_tree.specs.declared.expr.Width.TheVariants.{W32}
use Rattle.gob_tree.specs.declared.place.Place.{Place}
use Rattle.c_parse.specs.declared.raw.expr.RawName.{RawName}
use Rattle.c_parse.specs.declared.raw.expr.RawExpr.{RawExpr}
use Rattle.c_parse.specs.declared.raw.expr.RawExpr.TheVariants as exprs
use Rattle.c_parse.specs.declared.terminal.Kind.{Kind}
use Rattle.c_parse.specs.declared.terminal.Kind.TheVariants as kinds
use Rattle.c_parse.specs.declared.terminal.Terminal.{Terminal}

abbrev pub at : ℕ → Place
at n = record { line = 1; column = n }

abbrev pub row_from : ℕ → List Kind → List Terminal
row_from n [] = []
row_from n (k ∷ ks) = record { kind = k; place = at n } ∷ row_from (n + 1) ks

abbrev pub row : List Kind → List Terminal
row ks = row_from 1 ks

-- tokens

abbrev pub a : Kind
a = kinds.Name (codes "a")

abbrev pub b : Kind
b = kinds.Name (codes "b")

abbrev pub c : Kind
c = kinds.Name (codes "c")

abbrev pub f : Kind
f = kinds.Name (codes "f")

abbrev pub one : Kind
one = kinds.Number (pos 1) W32

-- names and expressions, by their columns

abbrev pub name_a : ℕ → RawName
name_a n = record { text = codes "a"; place = at n }

abbrev pub name_b : ℕ → RawName
name_b n = record { text = codes "b"; place = at n }

abbrev pub name_c : ℕ → RawName
name_c n = record { text = codes "c"; place = at n }

abbrev pub name_f : ℕ → RawName
name_f n = record { text = codes "f"; place = at n }

abbrev pub a_at : ℕ → RawExpr
a_at n = exprs.Name (name_a n)

abbrev pub b_at : ℕ → RawExpr
b_at n = exprs.Name (name_b n)

abbrev pub c_at : ℕ → RawExpr
c_at n = exprs.Name (name_c n)

abbrev pub one_value : RawExpr
one_value = exprs.Number (pos 1) W32
