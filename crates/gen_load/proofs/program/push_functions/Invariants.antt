use Rattle.std.proofs.Common.{◌≡◌, ◌++◌, drop, string_bytes}
use Rattle.gen_load.specs.Generated.{functions_text}
use Rattle.gen_load.proofs.program.push_functions.Given as goal

abbrev pub invariant-loop-number : goal.invariant-loop-number
invariant-loop-number l = string_bytes l.text ++ functions_text l.number (drop l.number l.choices) ≡ string_bytes l.fn.text ++ functions_text 0 l.choices
