-- What the commands are called.
use Rattle.std.specs.Prelude.{ℕ, List, [], ◌∷◌, Option, codes}
use Rattle.std.specs.Map.{lookup}
use Rattle.std.specs.Str.{bytes_eq}
use Rattle.dap_wire.specs.declared.name.CommandName.{CommandName}
use Rattle.dap_wire.specs.declared.name.CommandName.TheVariants.{Initialize, Launch, SetBreakpoints, SetExceptionBreakpoints, ConfigurationDone, Threads, StackTrace, Scopes, Variables, Evaluate, Next, StepIn, StepInTargets, StepOut, StepBack, Continue, Restart, Disconnect, Edit, Await, Status}

abbrev pub command_names : List (List ℕ × CommandName)
command_names =
    (codes "initialize", Initialize) ∷
    (codes "launch", Launch) ∷
    (codes "setBreakpoints", SetBreakpoints) ∷
    (codes "setExceptionBreakpoints", SetExceptionBreakpoints) ∷
    (codes "configurationDone", ConfigurationDone) ∷
    (codes "threads", Threads) ∷
    (codes "stackTrace", StackTrace) ∷
    (codes "scopes", Scopes) ∷
    (codes "variables", Variables) ∷
    (codes "evaluate", Evaluate) ∷
    (codes "next", Next) ∷
    (codes "stepIn", StepIn) ∷
    (codes "stepInTargets", StepInTargets) ∷
    (codes "stepOut", StepOut) ∷
    (codes "stepBack", StepBack) ∷
    (codes "continue", Continue) ∷
    (codes "restart", Restart) ∷
    (codes "disconnect", Disconnect) ∷
    (codes "gobpie/edit", Edit) ∷
    (codes "gobpie/await", Await) ∷
    (codes "gobpie/status", Status) ∷ []

-- the command of a name
abbrev pub command_named : List ℕ → Option CommandName
command_named name = lookup (bytes_eq name) command_names
