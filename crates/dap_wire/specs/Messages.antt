-- The JSON value of a message. Keys stand in the order of their bytes.
use Rattle.std.specs.Prelude.{ℕ, suc, List, [], ◌∷◌, map, Option, Some, None, true, false, codes}
use Rattle.serde_json.specs.Data.{Data, boolean, number, unsigned, string, array, object, no_items, item, Members, no_members, member}
use Rattle.serde_json.specs.View.{items_of}
use Rattle.dap_wire.specs.declared.message.BreakInfo.{BreakInfo}
use Rattle.dap_wire.specs.declared.message.ThreadInfo.{ThreadInfo}
use Rattle.dap_wire.specs.declared.message.FrameInfo.{FrameInfo}
use Rattle.dap_wire.specs.declared.message.VariableInfo.{VariableInfo}
use Rattle.dap_wire.specs.declared.message.Judgement.{Judgement}
use Rattle.dap_wire.specs.declared.message.Judgement.TheVariants.{Published, Budget, Memory}
use Rattle.dap_wire.specs.declared.message.Reason.{Reason}
use Rattle.dap_wire.specs.declared.message.Reason.TheVariants as reason
use Rattle.dap_wire.specs.declared.message.ReplyBody.{ReplyBody}
use Rattle.dap_wire.specs.declared.message.ReplyBody.TheVariants.{Empty, Capabilities, Breakpoints, Threads, Frames, Scopes, Variables, Result, Targets, Continued, Edit, Judged, Status}
use Rattle.dap_wire.specs.declared.message.EventBody.{EventBody}
use Rattle.dap_wire.specs.declared.message.EventBody.TheVariants as event
use Rattle.dap_wire.specs.declared.message.Message.{Message}
use Rattle.dap_wire.specs.declared.message.Message.TheVariants.{Response, Refusal, Event}

abbrev pub whole : ℕ → Data
whole n = number (unsigned n)

-- a list of objects
abbrev pub list : {A : Type 0} → (A → Data) → List A → Data
list write infos = array (items_of (map write infos))

-- An unverified breakpoint has its message.
abbrev pub breakpoint_end : Option (List ℕ) → Members
breakpoint_end None = member (codes "verified") (boolean true) no_members
breakpoint_end (Some message) =
    member (codes "message") (string message)
    (member (codes "verified") (boolean false) no_members)

abbrev pub breakpoint_data : BreakInfo → Data
breakpoint_data b =
    object (member (codes "id") (whole b.id)
    (member (codes "line") (whole b.line) (breakpoint_end b.message)))

abbrev pub thread_data : ThreadInfo → Data
thread_data t =
    object (member (codes "id") (whole t.id)
    (member (codes "name") (string t.name) no_members))

abbrev pub source_data : List ℕ → Data
source_data file =
    object (member (codes "name") (string file)
    (member (codes "path") (string file) no_members))

abbrev pub frame_data : FrameInfo → Data
frame_data f =
    object (member (codes "column") (whole f.column)
    (member (codes "id") (whole f.id)
    (member (codes "line") (whole f.line)
    (member (codes "name") (string f.name)
    (member (codes "source") (source_data f.file) no_members)))))

abbrev pub scope_data : List ℕ → ℕ → Data
scope_data name reference =
    object (member (codes "expensive") (boolean false)
    (member (codes "name") (string name)
    (member (codes "variablesReference") (whole reference) no_members)))

abbrev pub variable_data : VariableInfo → Data
variable_data v =
    object (member (codes "name") (string v.name)
    (member (codes "value") (string v.value)
    (member (codes "variablesReference") (whole 0) no_members)))

abbrev pub target_data : ℕ → List ℕ → Data
target_data id label =
    object (member (codes "id") (whole id)
    (member (codes "label") (string label) no_members))

-- the targets are numbered on from `id`
abbrev pub targets_from : ℕ → List (List ℕ) → List Data
targets_from id [] = []
targets_from id (label ∷ labels) = target_data id label ∷ targets_from (suc id) labels

abbrev pub verdict : Judgement → List ℕ
verdict Published = codes "published"
verdict Budget = codes "budget"
verdict Memory = codes "memory"

abbrev pub stop_reason : Reason → List ℕ
stop_reason reason.Entry = codes "entry"
stop_reason reason.Step = codes "step"
stop_reason reason.Breakpoint = codes "breakpoint"

abbrev pub capabilities : Data
capabilities =
    object (member (codes "supportsConditionalBreakpoints") (boolean true)
    (member (codes "supportsConfigurationDoneRequest") (boolean true)
    (member (codes "supportsRestartRequest") (boolean true)
    (member (codes "supportsStepBack") (boolean true)
    (member (codes "supportsStepInTargetsRequest") (boolean true)
    (member (codes "supportsSteppingGranularity") (boolean true) no_members))))))

abbrev pub frames_body : List FrameInfo → ℕ → Data
frames_body frames total =
    object (member (codes "stackFrames") (list frame_data frames)
    (member (codes "totalFrames") (whole total) no_members))

abbrev pub scopes_body : ℕ → ℕ → Data
scopes_body locals globals =
    object (member (codes "scopes") (array (item (scope_data (codes "Locals") locals)
    (item (scope_data (codes "Globals") globals) no_items))) no_members)

abbrev pub result_body : List ℕ → Data
result_body value =
    object (member (codes "result") (string value)
    (member (codes "variablesReference") (whole 0) no_members))

abbrev pub judged_body : Judgement → Data
judged_body judgement = object (member (codes "verdict") (string (verdict judgement)) no_members)

abbrev pub status_body : ℕ → ℕ → ℕ → Data
status_body edits pinned published =
    object (member (codes "edits") (whole edits)
    (member (codes "pinned") (whole pinned)
    (member (codes "published") (whole published) no_members)))

-- the body of a response
abbrev pub body_of : ReplyBody → Option Data
body_of Empty = None
body_of Capabilities = Some capabilities
body_of (Breakpoints infos) = Some (object (member (codes "breakpoints") (list breakpoint_data infos) no_members))
body_of (Threads infos) = Some (object (member (codes "threads") (list thread_data infos) no_members))
body_of (Frames frames total) = Some (frames_body frames total)
body_of (Scopes locals globals) = Some (scopes_body locals globals)
body_of (Variables infos) = Some (object (member (codes "variables") (list variable_data infos) no_members))
body_of (Result value) = Some (result_body value)
body_of (Targets labels) = Some (object (member (codes "targets") (array (items_of (targets_from 1 labels))) no_members))
body_of Continued = Some (object (member (codes "allThreadsContinued") (boolean true) no_members))
body_of (Edit edit) = Some (object (member (codes "edit") (whole edit) no_members))
body_of (Judged judgement) = Some (judged_body judgement)
body_of (Status edits pinned published) = Some (status_body edits pinned published)

-- what an event is called
abbrev pub event_name : EventBody → List ℕ
event_name event.Initialized = codes "initialized"
event_name (event.Stopped reason thread) = codes "stopped"
event_name event.Terminated = codes "terminated"
event_name (event.Breakpoint info) = codes "breakpoint"

abbrev pub event_body : EventBody → Option Data
event_body event.Initialized = None
event_body (event.Stopped reason thread) =
    Some (object (member (codes "allThreadsStopped") (boolean true)
    (member (codes "reason") (string (stop_reason reason))
    (member (codes "threadId") (whole thread) no_members))))
event_body event.Terminated = None
event_body (event.Breakpoint info) =
    Some (object (member (codes "breakpoint") (breakpoint_data info)
    (member (codes "reason") (string (codes "changed")) no_members)))

-- the body comes first, if there is one
abbrev pub with_body : Option Data → Members → Members
with_body None members = members
with_body (Some body) members = member (codes "body") body members

abbrev pub response_data : ℕ → ℕ → List ℕ → Option Data → Data
response_data seq request_seq command body =
    object (with_body body
    (member (codes "command") (string command)
    (member (codes "request_seq") (whole request_seq)
    (member (codes "seq") (whole seq)
    (member (codes "success") (boolean true)
    (member (codes "type") (string (codes "response")) no_members))))))

abbrev pub refusal_data : ℕ → ℕ → List ℕ → List ℕ → Data
refusal_data seq request_seq command message =
    object (member (codes "command") (string command)
    (member (codes "message") (string message)
    (member (codes "request_seq") (whole request_seq)
    (member (codes "seq") (whole seq)
    (member (codes "success") (boolean false)
    (member (codes "type") (string (codes "response")) no_members))))))

abbrev pub event_data : ℕ → List ℕ → Option Data → Data
event_data seq name body =
    object (with_body body
    (member (codes "event") (string name)
    (member (codes "seq") (whole seq)
    (member (codes "type") (string (codes "event")) no_members))))

abbrev pub message_data : Message → Data
message_data (Response seq request_seq command body) = response_data seq request_seq command (body_of body)
message_data (Refusal seq request_seq command message) = refusal_data seq request_seq command message
message_data (Event seq body) = event_data seq (event_name body) (event_body body)
