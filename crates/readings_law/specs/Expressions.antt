-- Expressions: all of the tokens are a spelling of the tree, with so many operators.
use Rattle.std.specs.Prelude.{ℕ, List, [], ◌∷◌}
use Rattle.gob_tree.specs.declared.expr.BinOp.TheVariants as ops
use Rattle.gob_tree.specs.declared.expr.UnOp.TheVariants as prefixes
use Rattle.c_parse.specs.declared.raw.expr.RawExpr.{RawExpr}
use Rattle.c_parse.specs.declared.raw.expr.RawExpr.TheVariants.{Unary, Binary, Call}
use Rattle.c_parse.specs.declared.terminal.Kind.{Kind}
use Rattle.c_parse.specs.declared.terminal.Kind.TheVariants.{Plus, Minus, Star, Operator, Not, Equals, OpenParen, CloseParen, Comma}
use Rattle.c_parse.specs.Grammar.{Nesting, within, top, ReadsLevel}
use Rattle.readings_law.specs.Rows.{row, a, b, c, f, one, name_f, a_at, b_at, c_at, one_value}

abbrev pub SpellsExpr : List Kind → RawExpr → ℕ → Type 0
SpellsExpr ks e n = ReadsLevel top (within 0) (row ks) e [] (within n)

abbrev pub NoExpr : List Kind → Type 0
NoExpr ks = (e : RawExpr) (end : Nesting) → ReadsLevel top (within 0) (row ks) e [] end → ⊥

-- a - b - c
abbrev pub minus_twice : List Kind
minus_twice = a ∷ Minus ∷ b ∷ Minus ∷ c ∷ []

-- ! a == b
abbrev pub not_equal : List Kind
not_equal = Not ∷ a ∷ Operator ops.Eq ∷ b ∷ []

-- a || b && c == a < b + c * a
abbrev pub tighter_right : List Kind
tighter_right = a ∷ Operator ops.Or ∷ b ∷ Operator ops.And ∷ c ∷ Operator ops.Eq ∷ a ∷ Operator ops.Lt ∷ b ∷ Plus ∷ c ∷ Star ∷ a ∷ []

-- a % b - c >= a != b && c || a
abbrev pub tighter_left : List Kind
tighter_left = a ∷ Operator ops.Rem ∷ b ∷ Minus ∷ c ∷ Operator ops.Ge ∷ a ∷ Operator ops.Ne ∷ b ∷ Operator ops.And ∷ c ∷ Operator ops.Or ∷ a ∷ []

-- - ( + a )
abbrev pub plus_in_group : List Kind
plus_in_group = Minus ∷ OpenParen ∷ Plus ∷ a ∷ CloseParen ∷ []

-- f ( ) * f ( a , 1 )
abbrev pub two_calls : List Kind
two_calls = f ∷ OpenParen ∷ CloseParen ∷ Star ∷ f ∷ OpenParen ∷ a ∷ Comma ∷ one ∷ CloseParen ∷ []

pub record ExpressionsSpell : Type 0 where
  pub to_the_left : SpellsExpr minus_twice (Binary ops.Sub (Binary ops.Sub (a_at 1) (b_at 3)) (c_at 5)) 2
  pub prefix_first : SpellsExpr not_equal (Binary ops.Eq (Unary prefixes.Not (a_at 2)) (b_at 4)) 2
  pub loosest_outside : SpellsExpr tighter_right (Binary ops.Or (a_at 1) (Binary ops.And (b_at 3) (Binary ops.Eq (c_at 5) (Binary ops.Lt (a_at 7) (Binary ops.Add (b_at 9) (Binary ops.Mul (c_at 11) (a_at 13))))))) 6
  pub tightest_inside : SpellsExpr tighter_left (Binary ops.Or (Binary ops.And (Binary ops.Ne (Binary ops.Ge (Binary ops.Sub (Binary ops.Rem (a_at 1) (b_at 3)) (c_at 5)) (a_at 7)) (b_at 9)) (c_at 11)) (a_at 13)) 6
  pub plus_dropped : SpellsExpr plus_in_group (Unary prefixes.Neg (a_at 4)) 3
  pub calls : SpellsExpr two_calls (Binary ops.Mul (Call (name_f 1) []) (Call (name_f 5) (a_at 7 ∷ one_value ∷ []))) 3

pub record ExpressionsDontSpell : Type 0 where
  pub to_the_right : (n : ℕ) → SpellsExpr minus_twice (Binary ops.Sub (a_at 1) (Binary ops.Sub (b_at 3) (c_at 5))) n → ⊥
  pub prefix_last : (n : ℕ) → SpellsExpr not_equal (Unary prefixes.Not (Binary ops.Eq (a_at 2) (b_at 4))) n → ⊥
  pub swapped : (n : ℕ) → SpellsExpr two_calls (Binary ops.Mul (Call (name_f 1) []) (Call (name_f 5) (one_value ∷ a_at 7 ∷ []))) n → ⊥
  -- a b; a -; ( a; f ( a , ); f ( a 1 ); a = b; nothing
  pub two_names : NoExpr (a ∷ b ∷ [])
  pub no_operand : NoExpr (a ∷ Minus ∷ [])
  pub unclosed : NoExpr (OpenParen ∷ a ∷ [])
  pub no_argument : NoExpr (f ∷ OpenParen ∷ a ∷ Comma ∷ CloseParen ∷ [])
  pub no_comma : NoExpr (f ∷ OpenParen ∷ a ∷ one ∷ CloseParen ∷ [])
  pub assignment : NoExpr (a ∷ Equals ∷ b ∷ [])
  pub nothing : NoExpr []
