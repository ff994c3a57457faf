-- What a text is to the analysis: a source, or its first fault.
--
-- A reader should check: the order of the phases (tokens, grammar, checks of names with `main` and the sizes of
-- the unit, and then the sizes of the graphs), the kind and place of each fault, and that a source is the text
-- itself with its unit and that unit's graphs.
use Rattle.std.specs.Prelude.{◌≡◌, ℕ, ◌+◌, nat_le, List, [], ◌∷◌, ◌++◌, length}
use Rattle.gob_tree.specs.declared.unit.Function.{Function}
use Rattle.c_meaning.specs.Graph.{graph_of, program_of}
use Rattle.c_lex.specs.Places.{place_after}
use Rattle.c_lex.specs.Tokens.{AreTokens, IsFirstFault}
use Rattle.c_lex.specs.declared.fault.LexFault.{LexFault}
use Rattle.c_lex.specs.declared.fault.LexFault.TheVariants as lexing
use Rattle.c_lex.specs.declared.token.Token.{Token}
use Rattle.c_parse.specs.Fault.{IsFault}
use Rattle.c_parse.specs.Grammar.{IsUnit}
use Rattle.c_parse.specs.Terminals.{terminals_of}
use Rattle.c_parse.specs.declared.fault.ParseFault.{ParseFault}
use Rattle.c_parse.specs.declared.fault.ParseFault.TheVariants as parsing
use Rattle.c_parse.specs.declared.raw.unit.RawUnit.{RawUnit}
use Rattle.c_source.specs.declared.source.Source.{Source}
use Rattle.c_check.specs.declared.fault.FrontFault.{FrontFault}
use Rattle.c_check.specs.declared.fault.FrontKind.TheVariants.{TooLong, NotText, BadCharacter, OpenComment, BadLiteral, Unsupported, Unexpected, TooDeep, Limit}
use Rattle.c_check.specs.Faults.{fault_at, asks, whole_text, want_of_memory, IsFirst}
use Rattle.c_check.specs.Units.{unit_faults, unit_of}

-- ---- the sizes of graphs, each told at the function's name

-- of one function, where those before it have so many nodes: its slots, and the nodes up to and with its own
abbrev pub size_faults : ℕ → Function → List FrontFault
size_faults nodes f =
    asks (nat_le (length (graph_of f).slots) 128) Limit f.place
    ++ asks (nat_le (nodes + length (graph_of f).nodes) 4096) Limit f.place

abbrev pub graph_faults : ℕ → List Function → List FrontFault
graph_faults nodes [] = []
graph_faults nodes (f ∷ fs) = size_faults nodes f ++ graph_faults (nodes + length (graph_of f).nodes) fs

-- what is wrong with a tree that was read
abbrev pub tree_faults : RawUnit → List FrontFault
tree_faults raw = unit_faults raw ++ graph_faults 0 (unit_of raw).funcs

-- ---- the faults of the phases before

abbrev pub lex_fault : LexFault → FrontFault
lex_fault lexing.TooLong = fault_at TooLong whole_text
lex_fault (lexing.NotText place) = fault_at NotText place
lex_fault (lexing.BadCharacter place) = fault_at BadCharacter place
lex_fault (lexing.OpenComment place) = fault_at OpenComment place
lex_fault (lexing.BadLiteral place) = fault_at BadLiteral place
lex_fault (lexing.Unsupported place) = fault_at Unsupported place
lex_fault lexing.Memory = want_of_memory

abbrev pub parse_fault : ParseFault → FrontFault
parse_fault (parsing.Unexpected place) = fault_at Unexpected place
parse_fault (parsing.Unsupported place) = fault_at Unsupported place
parse_fault (parsing.TooDeep place) = fault_at TooDeep place
parse_fault parsing.Memory = want_of_memory

-- ---- the two outcomes

-- the tokens of the text spell this tree
pub record Reads (text : List ℕ) (raw : RawUnit) : Type 0 where
  pub tokens : List Token
  pub cut : AreTokens text tokens
  pub spelled : IsUnit (terminals_of text tokens) raw.items

-- the text has no fault, and the source is its own
pub record IsSourceOf (text : List ℕ) (source : Source) : Type 0 where
  pub raw : RawUnit
  pub read : Reads text raw
  pub no_fault : tree_faults raw ≡ []
  pub text_is : source.text ≡ text
  pub unit_is : source.unit ≡ unit_of raw
  pub program_is : source.program ≡ program_of (unit_of raw)

-- The first fault of a text. Want of memory may be told of any text, and tells nothing.
pub data IsFirstOf (text : List ℕ) : FrontFault → Type 0 where
  in_tokens : (fault : LexFault) → IsFirstFault text fault → IsFirstOf text (lex_fault fault)
  in_grammar : (tokens : List Token) (fault : ParseFault) → AreTokens text tokens → IsFault (terminals_of text tokens) (place_after text) fault → IsFirstOf text (parse_fault fault)
  in_tree : (raw : RawUnit) {fault : FrontFault} → Reads text raw → IsFirst fault (tree_faults raw) → IsFirstOf text fault
  no_memory : IsFirstOf text want_of_memory
