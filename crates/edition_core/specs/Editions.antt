-- What contracts see of an edition.
use Rattle.std.specs.Prelude.{ℕ, List, Option, None, Some}
use Rattle.c_source.specs.declared.source.Source.{Source}
use Rattle.constraint_sys.specs.Table.{TableValue}
use Rattle.constraint_sys.specs.declared.unknown.Unknown.{Unknown}
use Rattle.constraint_sys.specs.declared.value.Value.{Value}
use Rattle.constraint_sys.specs.declared.value.Value.TheVariants.{State, Number}

-- its number and that of its base, its source, and the table with the turns that solved it
pub record Made : Type 0 where
  pub number : ℕ
  pub base : ℕ
  pub source : Source
  pub table : TableValue
  pub trace : List Unknown

-- there is a value, and it is a state
abbrev pub IsState : Option Value → Type 0
IsState None = ⊥
IsState (Some (State s)) = Unit {0}
IsState (Some (Number interval)) = ⊥

-- there is a value, and it is an interval
abbrev pub IsNumber : Option Value → Type 0
IsNumber None = ⊥
IsNumber (Some (State s)) = ⊥
IsNumber (Some (Number interval)) = Unit {0}
