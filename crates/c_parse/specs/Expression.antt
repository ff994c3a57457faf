-- What an expression of a debugger's question is: an expression of the grammar, within the limits, without
-- calls and arbitrary numbers.
use Rattle.std.specs.Prelude.{◌≡◌, ℕ, Bool, true, false, not, ◌&&◌, ◌||◌, List, [], codes}
use Rattle.std.specs.Str.{bytes_eq}
use Rattle.c_lex.specs.Tokens.{AreTokens}
use Rattle.c_lex.specs.declared.fault.LexFault.{LexFault}
use Rattle.c_lex.specs.declared.fault.LexFault.TheVariants as lexing
use Rattle.c_lex.specs.declared.token.Token.{Token}
use Rattle.c_parse.specs.declared.fault.ExprFault.{ExprFault}
use Rattle.c_parse.specs.declared.fault.ExprFault.TheVariants.{NotAnExpression, Memory}
use Rattle.c_parse.specs.declared.raw.expr.RawExpr.{RawExpr}
use Rattle.c_parse.specs.declared.raw.expr.RawExpr.TheOpen.{RawExpr-F}
use Rattle.c_parse.specs.declared.raw.expr.RawExpr.TheFolds.{fold-RawExpr}
use Rattle.c_parse.specs.Grammar.{ReadsLevel, top, within}
use Rattle.c_parse.specs.Terminals.{terminals_of}

-- the names of the functions that give an arbitrary number
abbrev pub is_arbitrary : List ℕ → Bool
is_arbitrary x = bytes_eq x (codes "__VERIFIER_nondet_int") || bytes_eq x (codes "__VERIFIER_nondet_long")

abbrev pub plain_step : RawExpr-F Bool → Bool
plain_step (RawExpr-F.Number v w) = true
plain_step (RawExpr-F.Name x) = not (is_arbitrary x.text)
plain_step (RawExpr-F.Unary op a) = a
plain_step (RawExpr-F.Binary op a b) = a && b
plain_step (RawExpr-F.Call f args) = false

-- the expression has no call and no arbitrary number
abbrev pub is_plain : RawExpr → Bool
is_plain = fold-RawExpr Bool plain_step

-- all tokens of the text spell the expression, none is over the limit, and it is plain
pub record IsExpression (text : List ℕ) (e : RawExpr) : Type 0 where
  pub tokens : List Token
  pub operators : ℕ
  pub cut : AreTokens text tokens
  pub spelled : ReadsLevel top (within 0) (terminals_of text tokens) e [] (within operators)
  pub plain : is_plain e ≡ true

-- what a text without tokens is told to be
abbrev pub expr_fault : LexFault → ExprFault
expr_fault lexing.Memory = Memory
expr_fault _ = NotAnExpression
