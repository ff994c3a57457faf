-- What the checks and the grammar give together, and that a text has one source or one first fault.
--
-- A reader should check: that nothing is asked of the tree but what its spelling gives, and nothing of the text.
use Rattle.std.specs.Prelude.{◌≡◌, ◌≢◌, ℕ, pos, int_le, Bool, true, ◌&&◌, List, []}
use Rattle.gob_tree.specs.Widths.{fits}
use Rattle.gob_tree.specs.WellMade.{IsWellMade}
use Rattle.c_lex.specs.Tokens.{AreTokens}
use Rattle.c_lex.specs.declared.token.Token.{Token}
use Rattle.c_parse.specs.Grammar.{IsUnit}
use Rattle.c_parse.specs.Terminals.{terminals_of}
use Rattle.c_parse.specs.declared.raw.unit.RawItem.{RawItem}
use Rattle.c_parse.specs.declared.raw.unit.RawUnit.{RawUnit}
use Rattle.c_parse.specs.declared.terminal.Kind.{Kind}
use Rattle.c_parse.specs.declared.terminal.Kind.TheVariants as kinds
use Rattle.c_source.specs.Sources.{IsAnalysable}
use Rattle.c_source.specs.declared.source.Source.{Source}
use Rattle.c_check.specs.declared.fault.FrontFault.{FrontFault}
use Rattle.c_check.specs.Faults.{want_of_memory}
use Rattle.c_check.specs.Front.{IsSourceOf, IsFirstOf}
use Rattle.c_check.specs.Spelled.{IsSpelled, is_word}
use Rattle.c_check.specs.Units.{unit_faults, unit_of}

-- a number of a token has no sign and is in the width that it is written in, and a name is a word
abbrev pub is_plain : Kind → Bool
is_plain (kinds.Number n w) = int_le (pos 0) n && fits w n
is_plain (kinds.Name x) = is_word x
is_plain other = true

-- what the grammar gives of the tokens of a text is spelled so
abbrev pub UnitsAreSpelled : Type 0
UnitsAreSpelled =
    (text : List ℕ) (tokens : List Token) (items : List RawItem)
    → AreTokens text tokens → IsUnit (terminals_of text tokens) items → IsSpelled items

-- a tree without a fault becomes a unit that may run and become graphs
abbrev pub AcceptedIsWellMade : Type 0
AcceptedIsWellMade = (raw : RawUnit) → IsSpelled raw.items → unit_faults raw ≡ [] → IsWellMade (unit_of raw)

-- ---- what a text is to the analysis

-- the source of a text is one that an analysis takes: nothing more is asked of the text
abbrev pub SourcesAreAnalysable : Type 0
SourcesAreAnalysable = (text : List ℕ) (source : Source) → IsSourceOf text source → IsAnalysable source

abbrev pub OneSource : Type 0
OneSource = (text : List ℕ) (a b : Source) → IsSourceOf text a → IsSourceOf text b → a ≡ b

-- want of memory tells nothing of a text
abbrev pub OneFirst : Type 0
OneFirst = (text : List ℕ) (f g : FrontFault) → f ≢ want_of_memory → g ≢ want_of_memory → IsFirstOf text f → IsFirstOf text g → f ≡ g

abbrev pub NotBoth : Type 0
NotBoth = (text : List ℕ) (source : Source) (fault : FrontFault) → IsSourceOf text source → IsFirstOf text fault → fault ≡ want_of_memory
