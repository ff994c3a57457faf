-- The one fault of tokens that are no unit, with its place.
use Rattle.std.specs.Prelude.{◌≡◌, Bool, true, false, List, [], ◌∷◌}
use Rattle.gob_tree.specs.declared.place.Place.{Place}
use Rattle.c_parse.specs.declared.fault.ParseFault.{ParseFault}
use Rattle.c_parse.specs.declared.fault.ParseFault.TheVariants.{Unexpected, Unsupported, TooDeep, Memory}
use Rattle.c_parse.specs.declared.terminal.Kind.{Kind}
use Rattle.c_parse.specs.declared.terminal.Kind.TheVariants as kinds
use Rattle.c_parse.specs.declared.terminal.Terminal.{Terminal}
use Rattle.c_parse.specs.Grammar.{begins_with, IsFirstBad, IsFirstDeep}

-- the place of the first token; where none is left, the end of the text
abbrev pub place_or : Place → List Terminal → Place
place_or end [] = end
place_or end (t ∷ ts) = t.place

-- a keyword of C that the grammar doesn't write
abbrev pub is_unsupported : Kind → Bool
is_unsupported kinds.Keyword = true
is_unsupported _ = false

-- the first bad token stands at the place, and is such a keyword or isn't
pub record IsBadAt (tokens : List Terminal) (end : Place) (unsupported : Bool) (place : Place) : Type 0 where
  pub rest : List Terminal
  pub bad : IsFirstBad tokens rest
  pub keyword : begins_with is_unsupported rest ≡ unsupported
  pub here : place ≡ place_or end rest

-- the first token over a limit stands at the place
pub record IsDeepAt (tokens : List Terminal) (end place : Place) : Type 0 where
  pub rest : List Terminal
  pub deep : IsFirstDeep tokens rest
  pub here : place ≡ place_or end rest

-- the fault of the tokens of a text with this end; want of memory tells nothing of them
abbrev pub IsFault : List Terminal → Place → ParseFault → Type 0
IsFault tokens end (Unexpected place) = IsBadAt tokens end false place
IsFault tokens end (Unsupported place) = IsBadAt tokens end true place
IsFault tokens end (TooDeep place) = IsDeepAt tokens end place
IsFault tokens end Memory = Unit {0}
