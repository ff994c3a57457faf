-- The numbers of a width, and the operations of the machine on them, which wrap.
use Rattle.std.specs.Prelude.{ℤ, ◌+ℤ◌, ◌-ℤ◌, ◌*ℤ◌, neg_ℤ, pos, negsuc, if◌then◌else◌}
use Rattle.std.specs.Int.{Width as MachineWidth, w32, w64, int_wrap, int_min, int_max}
use Rattle.interval_dom.specs.declared.width.Width.{Width}
use Rattle.interval_dom.specs.declared.width.Width.TheVariants.{W32, W64}
use Rattle.interval_dom.specs.Bounds.{Bounds, between, covers, Describes}

-- the machine's own name of a width
abbrev pub machine : Width → MachineWidth
machine W32 = w32
machine W64 = w64

abbrev pub least : Width → ℤ
least W32 = negsuc 2147483647
least W64 = negsuc 9223372036854775807

abbrev pub greatest : Width → ℤ
greatest W32 = pos 2147483647
greatest W64 = pos 9223372036854775807

-- all numbers of a width
abbrev pub full : Width → Bounds
full w = between (least w) (greatest w)

-- z is a number of the width
abbrev pub IsOfWidth : Width → ℤ → Type 0
IsOfWidth w z = Describes (full w) z

-- the number of the width that equals z modulo 2 ^ 32, or 2 ^ 64
abbrev pub wrapped : Width → ℤ → ℤ
wrapped w z = int_wrap (machine w) z

-- an interval that lies in the width as it is, and any other as all numbers of the width
abbrev pub fitted : Width → Bounds → Bounds
fitted w b = if covers (full w) b then b else full w

-- the sums of a number of one interval and a number of another
abbrev pub sums : Bounds → Bounds → Bounds
sums a b = between (a.lo +ℤ b.lo) (a.hi +ℤ b.hi)

-- a number of one interval less a number of another
abbrev pub differences : Bounds → Bounds → Bounds
differences a b = between (a.lo -ℤ b.hi) (a.hi -ℤ b.lo)

-- the numbers of an interval with the other sign
abbrev pub opposites : Bounds → Bounds
opposites a = between (neg_ℤ a.hi) (neg_ℤ a.lo)

-- from the least of four numbers to the greatest
abbrev pub extremes : ℤ → ℤ → ℤ → ℤ → Bounds
extremes p q r s = between (int_min (int_min p q) (int_min r s)) (int_max (int_max p q) (int_max r s))

-- the range of an operation that rises or falls along each of its operands, by its results at the ends
abbrev pub corners : (ℤ → ℤ → ℤ) → Bounds → Bounds → Bounds
corners op a b = extremes (op a.lo b.lo) (op a.lo b.hi) (op a.hi b.lo) (op a.hi b.hi)

abbrev pub products : Bounds → Bounds → Bounds
products a b = corners ◌*ℤ◌ a b
