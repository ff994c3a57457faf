-- The fault of tokens that are no unit within the limits. The end of each text is at column 99.
use Rattle.std.specs.Prelude.{ℕ, List, [], ◌∷◌, ◌++◌, replicate}
use Rattle.c_parse.specs.declared.fault.ParseFault.{ParseFault}
use Rattle.c_parse.specs.declared.fault.ParseFault.TheVariants.{Unexpected, Unsupported, TooDeep}
use Rattle.c_parse.specs.declared.terminal.Kind.{Kind}
use Rattle.c_parse.specs.declared.terminal.Kind.TheVariants.{Not, OpenParen, CloseParen, OpenBrace, CloseBrace, Semicolon, Int, Void, If, While, Return, Keyword}
use Rattle.c_parse.specs.Fault.{IsFault}
use Rattle.readings_law.specs.Rows.{at, row, a, f}

abbrev pub Told : List Kind → ParseFault → Type 0
Told ks fault = IsFault (row ks) (at 99) fault

-- int f ( int ) {
abbrev pub unnamed_body : List Kind
unnamed_body = Int ∷ f ∷ OpenParen ∷ Int ∷ CloseParen ∷ OpenBrace ∷ []

-- int f ( ) { return ! .. !
abbrev pub negations : ℕ → List Kind
negations n = Int ∷ f ∷ OpenParen ∷ CloseParen ∷ OpenBrace ∷ Return ∷ replicate n Not

-- void f ( ) { { .. {
abbrev pub blocks : ℕ → List Kind
blocks n = Void ∷ f ∷ OpenParen ∷ CloseParen ∷ OpenBrace ∷ replicate n OpenBrace

pub record FaultsAreTold : Type 0 where
  -- int f ( int ) {; int a; int struct; while
  pub body_without_name : Told unnamed_body (Unexpected (at 6))
  pub at_the_end : Told (Int ∷ a ∷ []) (Unexpected (at 99))
  pub keyword_outside : Told (Int ∷ Keyword ∷ []) (Unsupported (at 2))
  pub keyword_inside : Told (While ∷ []) (Unexpected (at 1))
  -- the 65th operator, whatever follows, and the 64th
  pub operators : Told (negations 65 ++ Semicolon ∷ []) (TooDeep (at 71))
  pub operators_kept : Told (negations 64 ++ Semicolon ∷ []) (Unexpected (at 71))
  -- a statement of depth 65; an `if` of depth 64, whose branch has depth 65
  pub depth : Told (blocks 64 ++ Semicolon ∷ []) (TooDeep (at 70))
  pub branch : Told (blocks 63 ++ If ∷ OpenParen ∷ a ∷ CloseParen ∷ Semicolon ∷ []) (TooDeep (at 73))
  pub depth_kept : Told (blocks 64 ++ CloseBrace ∷ []) (Unexpected (at 99))
  -- a ) in front of a block of depth 65: the bad token comes first
  pub least_place : Told (blocks 64 ++ CloseParen ∷ OpenBrace ∷ []) (Unexpected (at 70))

pub record NoOtherFaults : Type 0 where
  pub earlier : Told unnamed_body (Unexpected (at 5)) → ⊥
  pub later : Told unnamed_body (Unexpected (at 7)) → ⊥
  pub no_keyword : Told unnamed_body (Unsupported (at 6)) → ⊥
  pub not_deep : Told unnamed_body (TooDeep (at 6)) → ⊥
  pub keyword_told : Told (Int ∷ Keyword ∷ []) (Unexpected (at 2)) → ⊥
  pub bad_behind_deep : Told (negations 65 ++ Semicolon ∷ []) (Unexpected (at 72)) → ⊥
