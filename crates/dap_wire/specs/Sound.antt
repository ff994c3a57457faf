-- What holds of every request that is read, and of every refusal.
use Rattle.std.specs.Prelude.{◌≤◌, List, length, All, IfSome}
use Rattle.dap_wire.specs.declared.fault.WireFault.{WireFault}
use Rattle.dap_wire.specs.declared.fault.WireFault.TheVariants.{UnknownCommand, BadArguments}
use Rattle.dap_wire.specs.declared.request.BreakAsk.{BreakAsk}
use Rattle.dap_wire.specs.declared.request.Command.{Command}
use Rattle.dap_wire.specs.declared.request.Command.TheVariants.{SetBreakpoints, Evaluate, Edit}
use Rattle.dap_wire.specs.Texts.{IsText}

abbrev pub IsBreakText : BreakAsk → Type 0
IsBreakText b = IfSome b.condition IsText

-- at most 256 breakpoints
pub record AreBreakpoints (list : List BreakAsk) : Type 0 where
  pub few : length list ≤ 256
  pub texts : All IsBreakText list

abbrev pub IsSoundCommand : Command → Type 0
IsSoundCommand (SetBreakpoints list) = AreBreakpoints list
IsSoundCommand (Evaluate expression frame) = IsText expression
IsSoundCommand (Edit text) = IsText text
IsSoundCommand _ = Unit {0}

abbrev pub IsSoundFault : WireFault → Type 0
IsSoundFault (UnknownCommand seq command) = IsText command
IsSoundFault (BadArguments seq command field) = IsText command × IsText field
IsSoundFault _ = Unit {0}
