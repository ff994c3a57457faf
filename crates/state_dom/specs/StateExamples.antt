-- States by hand: which of them bound others, which fit the slots of a function, and which describe the
-- values of a frame.
use Rattle.std.specs.Prelude.{ℕ, ℤ, pos, negsuc, List, [], ◌∷◌, Option, None, Some}
use Rattle.gob_tree.specs.declared.unit.Slot.{Slot}
use Rattle.interval_dom.specs.Bounds.{Bounds, between}
use Rattle.state_dom.specs.Examples.{int_slot, long_slot, to_ten, five_to_eight, just}
use Rattle.state_dom.specs.Operators.{full_of}
use Rattle.state_dom.specs.StateValue.{StateValue, Reached}

-- a state of one slot
abbrev pub one : Bounds → ℕ → StateValue
one v locks = Reached (v ∷ []) locks

abbrev pub an_int : List Slot
an_int = int_slot ∷ []

abbrev pub a_long : List Slot
a_long = long_slot ∷ []

abbrev pub one_to_ten : Bounds
one_to_ten = between (pos 1) (pos 10)

abbrev pub to_nine : Bounds
to_nine = between (pos 0) (pos 9)

-- one number above the greatest int, alone and with all numbers from 0 on
abbrev pub above_int : ℤ
above_int = pos 2147483648

abbrev pub to_above_int : Bounds
to_above_int = between (pos 0) above_int

-- mutex 1 alone, mutex 2 alone, and both, as sets
abbrev pub second_mutex : ℕ
second_mutex = 2

abbrev pub third_mutex : ℕ
third_mutex = 4

abbrev pub two_mutexes : ℕ
two_mutexes = 6

-- x is 3 and y is 5; thread 7 owns mutex 1, and nobody mutex 0
abbrev pub three_and_five : List ℤ
three_and_five = pos 3 ∷ pos 5 ∷ []

abbrev pub owners : List (Option ℕ)
owners = None ∷ Some 7 ∷ []

-- x in [0,10] and y in [5,8], with mutex 1 held
abbrev pub known : StateValue
known = Reached (to_ten ∷ five_to_eight ∷ []) second_mutex
