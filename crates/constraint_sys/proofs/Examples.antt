-- The definitions on values written out.
use Rattle.std.proofs.Common.{◌≡◌, ℕ, true, false, pos, negsuc, [], ◌∷◌, Some, None, refl}
use Rattle.std.specs.Ordering.{is_lt}
use Rattle.gob_tree.specs.declared.expr.Width.TheVariants.{W32, W64}
use Rattle.gob_tree.specs.declared.unit.Slot.{Slot}
use Rattle.interval_dom.specs.Bounds.{Bounds, between}
use Rattle.state_dom.specs.StateValue.{Bottom, Reached}
use Rattle.constraint_sys.specs.declared.unknown.ArgKey.{ArgKey}
use Rattle.constraint_sys.specs.declared.unknown.ArgKey.TheVariants.{Absent, Zero, One, Any}
use Rattle.constraint_sys.specs.declared.unknown.Key.{Key}
use Rattle.constraint_sys.specs.declared.unknown.Unknown.TheVariants.{Point, Global}
use Rattle.constraint_sys.specs.Table.{unknown_cmp}
use Rattle.constraint_sys.specs.Transfer.{arg_key, filled, frame_of, key_of, locked, param_key, returned}

abbrev number : ℕ → Bounds
number n = between (pos n) (pos n)

abbrev short : Slot
short = record { name = []; width = W32 }

abbrev long : Slot
long = record { name = []; width = W64 }

abbrev key : ArgKey → ArgKey → ℕ → Key
key x y set = record { a = x; b = y; locks = set }

-- ---- what a context knows of an argument
zero_is_known : arg_key (Some (number 0)) ≡ Zero
zero_is_known = refl

one_is_known : arg_key (Some (number 1)) ≡ One
one_is_known = refl

two_is_any : arg_key (Some (number 2)) ≡ Any
two_is_any = refl

a_range_is_any : arg_key (Some (between (pos 0) (pos 1))) ≡ Any
a_range_is_any = refl

second_lacks : param_key 1 (number 0 ∷ number 1 ∷ []) 1 ≡ Absent
second_lacks = refl

-- the parameters stand in slots 1 and 2, and the locks are the caller's
both_known : key_of 2 (number 0 ∷ number 1 ∷ number 0 ∷ []) 5 ≡ key One Zero 5
both_known = refl

-- ---- the frame of a call: the returned value and the locals are 0, an argument is converted
frame_filled : frame_of (short ∷ short ∷ short ∷ []) (number 7 ∷ []) ≡ number 0 ∷ number 7 ∷ number 0 ∷ []
frame_filled = refl

too_wide : filled (short ∷ []) (number 4294967296 ∷ []) ≡ between (negsuc 2147483647) (pos 2147483647) ∷ []
too_wide = refl

long_enough : filled (long ∷ []) (number 4294967296 ∷ []) ≡ number 4294967296 ∷ []
long_enough = refl

-- ---- after a call the callee's value and locks
value_returned : returned (short ∷ short ∷ []) (number 0 ∷ number 3 ∷ []) (Some 1) (Reached (number 9 ∷ []) 4) ≡ Reached (number 0 ∷ number 9 ∷ []) 4
value_returned = refl

no_value_taken : returned (short ∷ []) (number 3 ∷ []) None (Reached (number 9 ∷ []) 4) ≡ Reached (number 3 ∷ []) 4
no_value_taken = refl

never_returns : returned (short ∷ []) (number 3 ∷ []) None (Bottom 1) ≡ Bottom 1
never_returns = refl

-- ---- a mutex that is held is never got again
held : locked (number 3 ∷ []) 2 1 ≡ Bottom 1
held = refl

free : locked (number 3 ∷ []) 2 0 ≡ Reached (number 3 ∷ []) 3
free = refl

-- ---- the order of unknowns
by_function : is_lt (unknown_cmp (Point 0 (key Any Any 9) 7) (Point 1 (key Absent Absent 0) 0)) ≡ true
by_function = refl

by_first_argument : is_lt (unknown_cmp (Point 0 (key Zero One 0) 7) (Point 0 (key One Zero 0) 0)) ≡ true
by_first_argument = refl

absent_first : is_lt (unknown_cmp (Point 0 (key Absent Any 9) 7) (Point 0 (key Zero Absent 0) 0)) ≡ true
absent_first = refl

one_before_any : is_lt (unknown_cmp (Point 0 (key One Any 9) 7) (Point 0 (key Any Absent 0) 0)) ≡ true
one_before_any = refl

then_by_second : is_lt (unknown_cmp (Point 0 (key Any Zero 9) 7) (Point 0 (key Any One 0) 0)) ≡ true
then_by_second = refl

then_by_locks : is_lt (unknown_cmp (Point 0 (key Any One 1) 7) (Point 0 (key Any One 2) 0)) ≡ true
then_by_locks = refl

then_by_node : is_lt (unknown_cmp (Point 0 (key Any One 2) 1) (Point 0 (key Any One 2) 2)) ≡ true
then_by_node = refl

globals_last : is_lt (unknown_cmp (Global 0) (Point 5 (key Absent Absent 0) 0)) ≡ false
globals_last = refl
