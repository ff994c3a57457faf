-- How the choices for a generated program are drawn from its number.
use Rattle.std.specs.Prelude.{ℕ, zero, suc, nat_eq, if◌then◌else◌, ◌+◌, ◌*◌, ◌/◌, ◌%◌, ◌^◌, List, [], ◌∷◌, ◌++◌}
use Rattle.gen_load.specs.declared.choice.Form.{Form}
use Rattle.gen_load.specs.declared.choice.Form.TheVariants.{Adds, Caps, Locks}
use Rattle.gen_load.specs.declared.choice.Choice.{Choice}

-- a draw first moves the generator's state on
abbrev pub next_state : ℕ → ℕ
next_state state = (state * 6364136223846793005 + 1442695040888963407) % 2 ^ 64

-- and then gives a number below m from the upper bits of the state
abbrev pub drawn_below : ℕ → ℕ → ℕ
drawn_below m state = (state / 2 ^ 33) % m

-- the forms by their numbers
abbrev pub form_of : ℕ → Form
form_of n = if nat_eq n 0 then Adds else if nat_eq n 1 then Caps else Locks

-- a function's form is drawn first, then its constant, then its global
abbrev pub choice_from : ℕ → Choice
choice_from state = record {
  form = form_of (drawn_below 3 (next_state state));
  constant = drawn_below 100 (next_state (next_state state));
  global = drawn_below 4 (next_state (next_state (next_state state)));
}

-- the state after the choices of this many functions
abbrev pub state_after : ℕ → ℕ → ℕ
state_after state zero = state
state_after state (suc n) = next_state (next_state (next_state (state_after state n)))

-- the choices of the first n functions
abbrev pub choices : ℕ → ℕ → List Choice
choices number zero = []
choices number (suc n) = choices number n ++ choice_from (state_after number n) ∷ []
