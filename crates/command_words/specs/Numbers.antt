-- Numbers in words, with their ranges and defaults.
use Rattle.std.specs.Prelude.{◌&&◌, ℕ, Option, Some, None, length, nat_le, if◌then◌else◌}
use Rattle.std.specs.Str.{all_ascii_digits}
use Rattle.std.specs.Str.Parse.{digits_value}
use Rattle.command_words.specs.Reading.{Word}

-- the number of 1 to `digits` ASCII digits, from `least` to `greatest`
abbrev pub number : ℕ → ℕ → ℕ → Word → Option ℕ
number digits least greatest text =
    if all_ascii_digits text && (nat_le 1 (length text) && (nat_le (length text) digits
    && (nat_le least (digits_value 10 text) && nat_le (digits_value 10 text) greatest)))
    then Some (digits_value 10 text) else None

-- the number of 1 to 8 digits that is an option's value; the default where the option is missing
abbrev pub number_or : ℕ → ℕ → ℕ → Option Word → Option ℕ
number_or least greatest default None = Some default
number_or least greatest default (Some text) = number 8 least greatest text

-- the turns of `analyse`: 1 to 10,000,000, or else 100,000
abbrev pub analyse_budget : Option Word → Option ℕ
analyse_budget = number_or 1 10000000 100000

-- the turns for one edition, in `debug` and `serve`: 1 to 50,000, or else 20,000
abbrev pub edition_budget : Option Word → Option ℕ
edition_budget = number_or 1 50000 20000

-- the NUMBER of `load`: any of 1 to 18 digits
abbrev pub load_number : Word → Option ℕ
load_number = number 18 0 999999999999999999

-- the functions of `load`: 1 to 120, or else 40
abbrev pub load_functions : Option Word → Option ℕ
load_functions = number_or 1 120 40

-- the hands of `serve`: 1 to 8, or else 1
abbrev pub serve_hands : Option Word → Option ℕ
serve_hands = number_or 1 8 1

-- the rounds of each hand of `serve`: 1 to 1,000, or else 1
abbrev pub serve_rounds : Option Word → Option ℕ
serve_rounds = number_or 1 1000 1

-- the first port of `serve`: 1,024 to 65,000, or else 4,711
abbrev pub serve_port : Option Word → Option ℕ
serve_port = number_or 1024 65000 4711
