-- Lists of unknowns in their order.
use Rattle.std.specs.Prelude.{List, [], ◌∷◌, if◌then◌else◌}
use Rattle.std.specs.Ordering.{is_lt}
use Rattle.constraint_sys.specs.declared.unknown.Unknown.{Unknown}
use Rattle.constraint_sys.specs.Table.{unknown_cmp}

-- an unknown put before the first that isn't below it
abbrev pub put_in_order : Unknown → List Unknown → List Unknown
put_in_order u [] = u ∷ []
put_in_order u (v ∷ vs) = if is_lt (unknown_cmp v u) then v ∷ put_in_order u vs else u ∷ v ∷ vs

abbrev pub in_unknown_order : List Unknown → List Unknown
in_unknown_order [] = []
in_unknown_order (u ∷ us) = put_in_order u (in_unknown_order us)
