-- The numbers of a width, and the width of what a function returns.
use Rattle.std.specs.Prelude.{ℤ, pos, negsuc, int_le, Bool, true, false, ◌&&◌, List, slice_get}
use Rattle.std.specs.Option.{option_map_or}
use Rattle.gob_tree.specs.declared.expr.Width.{Width}
use Rattle.gob_tree.specs.declared.expr.Width.TheVariants.{W32, W64}
use Rattle.gob_tree.specs.declared.unit.Slot.{Slot}

-- -2^31, or -2^63
abbrev pub lowest : Width → ℤ
lowest W32 = negsuc 2147483647
lowest W64 = negsuc 9223372036854775807

-- 2^31 - 1, or 2^63 - 1
abbrev pub greatest : Width → ℤ
greatest W32 = pos 2147483647
greatest W64 = pos 9223372036854775807

-- whether a number is one of the width
abbrev pub fits : Width → ℤ → Bool
fits w n = int_le (lowest w) n && int_le n (greatest w)

abbrev pub same_width : Width → Width → Bool
same_width W32 W32 = true
same_width W32 W64 = false
same_width W64 W32 = false
same_width W64 W64 = true

-- the width of what a function with these slots returns: that of slot 0, which every function has
abbrev pub returned_width : List Slot → Width
returned_width slots = option_map_or (λ slot. slot.width) (slice_get slots 0) W32
