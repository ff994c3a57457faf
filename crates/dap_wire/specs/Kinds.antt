-- The kinds of arguments: what a JSON value says as one of the kind, or that it is of another.
use Rattle.std.specs.Prelude.{ℕ, List, Bool, true, ◌&&◌, ◌||◌, nat_le, if◌then◌else◌, Option, Some, None, option_and_then, codes}
use Rattle.std.specs.Str.{bytes_eq}
use Rattle.serde_json.specs.Data.{Data}
use Rattle.serde_json.specs.Find.{as_number, as_u64, as_bool, as_str}
use Rattle.dap_wire.specs.declared.request.Granularity.{Granularity}
use Rattle.dap_wire.specs.declared.request.Granularity.TheVariants.{Statement, Instruction}

-- A whole number from `low` to 2147483647: `as_u64` gives those that are written without a minus
-- sign, a fraction or an exponent.
abbrev pub within : ℕ → ℕ → Option ℕ
within low n = if nat_le low n && nat_le n 2147483647 then Some n else None

abbrev pub whole_from : ℕ → Data → Option ℕ
whole_from low d = option_and_then (within low) (option_and_then as_u64 (as_number d))

abbrev pub whole : Data → Option ℕ
whole d = whole_from 0 d

-- `true` or `false`
abbrev pub flag : Data → Option Bool
flag d = as_bool d

-- `true` alone
abbrev pub only_true : Bool → Option Bool
only_true b = if b then Some true else None

abbrev pub yes : Data → Option Bool
yes d = option_and_then only_true (as_bool d)

abbrev pub text : Data → Option (List ℕ)
text d = as_str d

-- `line` is taken as `statement`
abbrev pub granularity_named : List ℕ → Option Granularity
granularity_named name =
    if bytes_eq name (codes "statement") || bytes_eq name (codes "line") then Some Statement
    else (if bytes_eq name (codes "instruction") then Some Instruction else None)

abbrev pub granularity : Data → Option Granularity
granularity d = option_and_then granularity_named (as_str d)
