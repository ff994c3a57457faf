-- The list of breakpoints.
use Rattle.std.specs.Prelude.{ℕ, suc, List, [], ◌∷◌, nat_le, if◌then◌else◌, Option, Some, None, option_map, option_and_then, codes}
use Rattle.serde_json.specs.Data.{Data, Items, no_items, item}
use Rattle.serde_json.specs.Find.{get, as_array}
use Rattle.dap_wire.specs.declared.request.BreakAsk.{BreakAsk}
use Rattle.dap_wire.specs.Kinds.{whole, text}

-- a condition is missing or a text
abbrev pub condition : Option Data → Option (Option (List ℕ))
condition None = Some None
condition (Some d) = option_map (λ c. Some c) (text d)

abbrev pub break_with : Option Data → ℕ → Option BreakAsk
break_with found line = option_map (λ c. record { line = line; condition = c }) (condition found)

-- an item is an object with a line
abbrev pub breakpoint : Data → Option BreakAsk
breakpoint d = option_and_then (break_with (get (codes "condition") d)) (option_and_then whole (get (codes "line") d))

-- every item has to be one
abbrev pub each_breakpoint : Items → Option (List BreakAsk)
each_breakpoint no_items = Some []
each_breakpoint (item d ds) = option_and_then (λ b. option_map (λ bs. b ∷ bs) (each_breakpoint ds)) (breakpoint d)

abbrev pub count_of : Items → ℕ
count_of no_items = 0
count_of (item d ds) = suc (count_of ds)

-- and there are at most 256
abbrev pub breakpoint_list : Items → Option (List BreakAsk)
breakpoint_list ds = if nat_le (count_of ds) 256 then each_breakpoint ds else None

abbrev pub breakpoints : Data → Option (List BreakAsk)
breakpoints d = option_and_then breakpoint_list (as_array d)
