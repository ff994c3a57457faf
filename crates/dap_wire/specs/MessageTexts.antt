-- The texts of a message are UTF-8.
use Rattle.std.specs.Prelude.{All, IfSome}
use Rattle.dap_wire.specs.Texts.{IsText}
use Rattle.dap_wire.specs.declared.message.BreakInfo.{BreakInfo}
use Rattle.dap_wire.specs.declared.message.ThreadInfo.{ThreadInfo}
use Rattle.dap_wire.specs.declared.message.FrameInfo.{FrameInfo}
use Rattle.dap_wire.specs.declared.message.VariableInfo.{VariableInfo}
use Rattle.dap_wire.specs.declared.message.ReplyBody.{ReplyBody}
use Rattle.dap_wire.specs.declared.message.ReplyBody.TheVariants.{Empty, Capabilities, Breakpoints, Threads, Frames, Scopes, Variables, Result, Targets, Continued, Edit, Judged, Status}
use Rattle.dap_wire.specs.declared.message.EventBody.{EventBody}
use Rattle.dap_wire.specs.declared.message.EventBody.TheVariants as event
use Rattle.dap_wire.specs.declared.message.Message.{Message}
use Rattle.dap_wire.specs.declared.message.Message.TheVariants.{Response, Refusal, Event}

abbrev pub IsBreakInfoText : BreakInfo → Type 0
IsBreakInfoText b = IfSome b.message IsText

abbrev pub IsThreadText : ThreadInfo → Type 0
IsThreadText t = IsText t.name

abbrev pub IsFrameName : FrameInfo → Type 0
IsFrameName f = IsText f.name

abbrev pub IsFrameFile : FrameInfo → Type 0
IsFrameFile f = IsText f.file

abbrev pub IsVariableName : VariableInfo → Type 0
IsVariableName v = IsText v.name

abbrev pub IsVariableValue : VariableInfo → Type 0
IsVariableValue v = IsText v.value

abbrev pub IsBodyText : ReplyBody → Type 0
IsBodyText Empty = Unit {0}
IsBodyText Capabilities = Unit {0}
IsBodyText (Breakpoints infos) = All IsBreakInfoText infos
IsBodyText (Threads infos) = All IsThreadText infos
IsBodyText (Frames infos total) = All IsFrameName infos × All IsFrameFile infos
IsBodyText (Scopes locals globals) = Unit {0}
IsBodyText (Variables infos) = All IsVariableName infos × All IsVariableValue infos
IsBodyText (Result value) = IsText value
IsBodyText (Targets labels) = All IsText labels
IsBodyText Continued = Unit {0}
IsBodyText (Edit edit) = Unit {0}
IsBodyText (Judged judgement) = Unit {0}
IsBodyText (Status edits pinned published) = Unit {0}

abbrev pub IsEventText : EventBody → Type 0
IsEventText event.Initialized = Unit {0}
IsEventText (event.Stopped reason thread) = Unit {0}
IsEventText event.Terminated = Unit {0}
IsEventText (event.Breakpoint info) = IsBreakInfoText info

abbrev pub IsMessageText : Message → Type 0
IsMessageText (Response seq request_seq command body) = IsText command × IsBodyText body
IsMessageText (Refusal seq request_seq command message) = IsText command × IsText message
IsMessageText (Event seq body) = IsEventText body
