-- What functions of the descent ask of the tokens. No public promise speaks of it.
use Rattle.std.specs.Prelude.{◌≤ℤ◌, pos, List, [], ◌∷◌}
use Rattle.c_parse.specs.declared.terminal.Kind.{Kind}
use Rattle.c_parse.specs.declared.terminal.Kind.TheVariants as kinds
use Rattle.c_parse.specs.declared.terminal.Terminal.{Terminal}

-- the token is no negative number: in a text a minus sign is a token of its own
abbrev pub IsUnsigned : Kind → Type 0
IsUnsigned (kinds.Number v w) = pos 0 ≤ℤ v
IsUnsigned _ = Unit {0}

abbrev pub AreUnsigned : List Terminal → Type 0
AreUnsigned [] = Unit {0}
AreUnsigned (t ∷ ts) = IsUnsigned t.kind × AreUnsigned ts
