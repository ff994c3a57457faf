-- The table of commands: the arguments of each, in the order in which they are judged.
use Rattle.std.specs.Prelude.{[], true, Result, Ok}
use Rattle.serde_json.specs.Data.{Data}
use Rattle.dap_wire.specs.declared.field.Field.{Field}
use Rattle.dap_wire.specs.declared.field.Field.TheVariants as field
use Rattle.dap_wire.specs.declared.name.CommandName.{CommandName}
use Rattle.dap_wire.specs.declared.name.CommandName.TheVariants.{Initialize, Launch, SetBreakpoints, SetExceptionBreakpoints, ConfigurationDone, Threads, StackTrace, Scopes, Variables, Evaluate, Next, StepIn, StepInTargets, StepOut, StepBack, Continue, Restart, Disconnect, Edit, Await, Status}
use Rattle.dap_wire.specs.declared.request.Command.{Command}
use Rattle.dap_wire.specs.declared.request.Command.TheVariants as command
use Rattle.dap_wire.specs.declared.request.Granularity.TheVariants.{Statement}
use Rattle.dap_wire.specs.Fields.{needed, defaulted, optional, one, two, three}
use Rattle.dap_wire.specs.Kinds.{whole, whole_from, flag, yes, text, granularity}
use Rattle.dap_wire.specs.Breakpoints.{breakpoints}

abbrev pub command_of : CommandName → Data → Result Command Field
command_of Initialize d = two (λ lines columns. command.Initialize) (defaulted yes true field.LinesStartAt1 d) (defaulted yes true field.ColumnsStartAt1 d)
command_of Launch d = one command.Launch (defaulted flag true field.StopOnEntry d)
command_of SetBreakpoints d = one command.SetBreakpoints (defaulted breakpoints [] field.Breakpoints d)
command_of SetExceptionBreakpoints d = Ok command.SetExceptionBreakpoints
command_of ConfigurationDone d = Ok command.ConfigurationDone
command_of Threads d = Ok command.Threads
command_of StackTrace d = three command.StackTrace (needed whole field.ThreadId d) (defaulted whole 0 field.StartFrame d) (defaulted whole 0 field.Levels d)
command_of Scopes d = one command.Scopes (needed whole field.FrameId d)
command_of Variables d = one command.Variables (needed whole field.VariablesReference d)
command_of Evaluate d = two command.Evaluate (needed text field.Expression d) (optional whole field.FrameId d)
command_of Next d = two command.Next (needed whole field.ThreadId d) (defaulted granularity Statement field.Granularity d)
command_of StepIn d = three command.StepIn (needed whole field.ThreadId d) (optional whole field.TargetId d) (defaulted granularity Statement field.Granularity d)
command_of StepInTargets d = one command.StepInTargets (needed whole field.FrameId d)
command_of StepOut d = two command.StepOut (needed whole field.ThreadId d) (defaulted granularity Statement field.Granularity d)
command_of StepBack d = two command.StepBack (needed whole field.ThreadId d) (defaulted granularity Statement field.Granularity d)
command_of Continue d = one command.Continue (needed whole field.ThreadId d)
command_of Restart d = Ok command.Restart
command_of Disconnect d = Ok command.Disconnect
command_of Edit d = one command.Edit (needed text field.Text d)
command_of Await d = one command.Await (needed (whole_from 1) field.Edit d)
command_of Status d = Ok command.Status
