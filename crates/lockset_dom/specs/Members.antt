-- A set of numbers below 8 as one number, which has 2 ^ m in its binary digits for each member m.
use Rattle.std.specs.Prelude.{◌≡◌, ℕ, ◌^◌, ◌<◌, bit_and, bit_or, bit_xor}
use Rattle.std.specs.Int.{bit_at}

-- m is a member
abbrev pub Holds : ℕ → ℕ → Type 0
Holds set m = bit_at set m ≡ 1

-- a number that stands for a set: it has members below 8 alone
abbrev pub IsLockSet : ℕ → Type 0
IsLockSet set = set < 2 ^ 8

-- the set without members
abbrev pub no_locks : ℕ
no_locks = 0

abbrev pub with_member : ℕ → ℕ → ℕ
with_member set m = bit_or set (2 ^ m)

-- the members that two sets share
abbrev pub shared_members : ℕ → ℕ → ℕ
shared_members a b = bit_and a b

-- what is left where those that the set shares with m alone are taken out
abbrev pub without_member : ℕ → ℕ → ℕ
without_member set m = bit_xor set (shared_members set (2 ^ m))

-- each member of the inner set is one of the outer
abbrev pub Includes : ℕ → ℕ → Type 0
Includes outer inner = (m : ℕ) → Holds inner m → Holds outer m
