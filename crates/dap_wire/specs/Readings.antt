-- What a reader that takes memory answers.
use Rattle.std.specs.Prelude.{◌≡◌, Result, Ok, Err}
use Rattle.dap_wire.specs.declared.field.Field.{Field}
use Rattle.dap_wire.specs.declared.unread.Unread.{Unread}
use Rattle.dap_wire.specs.declared.unread.Unread.TheVariants.{Wrong, Memory}

-- it is the reading, unless memory ran out
abbrev pub IsReading : {A : Type 0} → Result A Unread → Result A Field → Type 0
IsReading (Ok a) reading = reading ≡ Ok a
IsReading (Err (Wrong field)) reading = reading ≡ Err field
IsReading (Err Memory) reading = Unit {0}
