-- No message has a float, so its compact text is told.
use Rattle.std.proofs.Common.{◌≡◌, ℕ, suc, List, [], ◌∷◌, map, Option, Some, None, false, refl}
use Rattle.serde_json.specs.Data.{Data, Members}
use Rattle.serde_json.specs.View.{items_of}
use Rattle.serde_json.specs.Written.{has_float, items_have_float, members_have_float}
use Rattle.dap_wire.specs.declared.message.BreakInfo.{BreakInfo}
use Rattle.dap_wire.specs.declared.message.EventBody.{EventBody}
use Rattle.dap_wire.specs.declared.message.EventBody.TheVariants as event
use Rattle.dap_wire.specs.declared.message.Message.{Message}
use Rattle.dap_wire.specs.declared.message.Message.TheVariants.{Response, Refusal, Event}
use Rattle.dap_wire.specs.declared.message.ReplyBody.{ReplyBody}
use Rattle.dap_wire.specs.declared.message.ReplyBody.TheVariants.{Empty, Capabilities, Breakpoints, Threads, Frames, Scopes, Variables, Result, Targets, Continued, Edit, Judged, Status}
use Rattle.dap_wire.specs.Messages.{breakpoint_end, breakpoint_data, thread_data, frame_data, variable_data, targets_from, body_of, event_body, with_body, message_data}

list_no_float : {A : Type 0} (write : A → Data) → ((a : A) → has_float (write a) ≡ false) → (xs : List A) → items_have_float (items_of (map write xs)) ≡ false
list_no_float write none [] = refl
list_no_float write none (x ∷ xs) = rw (none x) (list_no_float write none xs)

targets_no_float : (id : ℕ) (labels : List (List ℕ)) → items_have_float (items_of (targets_from id labels)) ≡ false
targets_no_float id [] = refl
targets_no_float id (label ∷ labels) = targets_no_float (suc id) labels

end_no_float : (message : Option (List ℕ)) → members_have_float (breakpoint_end message) ≡ false
end_no_float None = refl
end_no_float (Some message) = refl

breakpoint_no_float : (b : BreakInfo) → has_float (breakpoint_data b) ≡ false
breakpoint_no_float b = end_no_float b.message

abbrev NoFloat : Option Data → Type 0
NoFloat None = Unit {0}
NoFloat (Some d) = has_float d ≡ false

with_no_float : (body : Option Data) (ms : Members) → NoFloat body → members_have_float ms ≡ false → members_have_float (with_body body ms) ≡ false
with_no_float None ms none rest = rest
with_no_float (Some d) ms none rest = rw none rest

body_no_float : (b : ReplyBody) → NoFloat (body_of b)
body_no_float Empty = tt
body_no_float Capabilities = refl
body_no_float (Breakpoints infos) = rw (list_no_float breakpoint_data breakpoint_no_float infos)
body_no_float (Threads infos) = rw (list_no_float thread_data (λ t. refl) infos)
body_no_float (Frames infos total) = rw (list_no_float frame_data (λ f. refl) infos)
body_no_float (Scopes locals globals) = refl
body_no_float (Variables infos) = rw (list_no_float variable_data (λ v. refl) infos)
body_no_float (Result value) = refl
body_no_float (Targets labels) = rw (targets_no_float 1 labels)
body_no_float Continued = refl
body_no_float (Edit edit) = refl
body_no_float (Judged judgement) = refl
body_no_float (Status edits pinned published) = refl

event_no_float : (b : EventBody) → NoFloat (event_body b)
event_no_float event.Initialized = tt
event_no_float (event.Stopped reason thread) = refl
event_no_float event.Terminated = tt
event_no_float (event.Breakpoint info) = rw (breakpoint_no_float info)

pub no_float : (m : Message) → has_float (message_data m) ≡ false
no_float (Response seq request_seq command body) = with_no_float (body_of body) _ (body_no_float body) refl
no_float (Refusal seq request_seq command message) = refl
no_float (Event seq body) = with_no_float (event_body body) _ (event_no_float body) refl
