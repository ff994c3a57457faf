-- What the grammar gives of the tokens of a text is spelled so.
use Rattle.std.proofs.Common.{ℕ, List}
use Rattle.c_lex.specs.Tokens.{AreTokens}
use Rattle.c_lex.specs.declared.token.Token.{Token}
use Rattle.c_parse.specs.Grammar.{IsUnit}
use Rattle.c_parse.specs.Terminals.{terminals_of}
use Rattle.c_parse.specs.declared.raw.unit.RawItem.{RawItem}
use Rattle.c_check.specs.Spelled.{IsSpelled}
use Rattle.c_check.proofs.SpelledTokens.{tokens_plain}
use Rattle.c_check.proofs.SpelledUnits.{spell_unit}

pub spelled_unit : (text : List ℕ) (tokens : List Token) (items : List RawItem) → AreTokens text tokens → IsUnit (terminals_of text tokens) items → IsSpelled items
spelled_unit text tokens items are is = spell_unit is (tokens_plain text tokens are)
