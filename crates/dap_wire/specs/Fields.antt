-- What the arguments are called, and how each is found.
use Rattle.std.specs.Prelude.{ℕ, List, Option, Some, None, Ok, Err, Result, codes, option_and_then}
use Rattle.std.specs.Option.{ok_or}
use Rattle.serde_json.specs.Data.{Data}
use Rattle.serde_json.specs.Find.{get}
use Rattle.dap_wire.specs.declared.field.Field.{Field}
use Rattle.dap_wire.specs.declared.field.Field.TheVariants.{LinesStartAt1, ColumnsStartAt1, StopOnEntry, Breakpoints, ThreadId, StartFrame, Levels, FrameId, VariablesReference, Expression, Granularity, TargetId, Text, Edit}

abbrev pub key_of : Field → List ℕ
key_of LinesStartAt1 = codes "linesStartAt1"
key_of ColumnsStartAt1 = codes "columnsStartAt1"
key_of StopOnEntry = codes "stopOnEntry"
key_of Breakpoints = codes "breakpoints"
key_of ThreadId = codes "threadId"
key_of StartFrame = codes "startFrame"
key_of Levels = codes "levels"
key_of FrameId = codes "frameId"
key_of VariablesReference = codes "variablesReference"
key_of Expression = codes "expression"
key_of Granularity = codes "granularity"
key_of TargetId = codes "targetId"
key_of Text = codes "text"
key_of Edit = codes "edit"

-- The three ways in which an argument is read by its kind, which tells the value or that there is
-- none. A `null` that is there isn't missing: it is of the wrong kind.

-- it has to be there
abbrev pub needed : {A : Type 0} → (Data → Option A) → Field → Data → Result A Field
needed kind field arguments = ok_or (option_and_then kind (get (key_of field) arguments)) field

-- it may be missing, and is `default` then
abbrev pub defaulted_at : {A : Type 0} → (Data → Option A) → A → Field → Option Data → Result A Field
defaulted_at kind default field None = Ok default
defaulted_at kind default field (Some d) = ok_or (kind d) field

abbrev pub defaulted : {A : Type 0} → (Data → Option A) → A → Field → Data → Result A Field
defaulted kind default field arguments = defaulted_at kind default field (get (key_of field) arguments)

-- it may be missing
abbrev pub optional : {A : Type 0} → (Data → Option A) → Field → Data → Result (Option A) Field
optional kind field arguments = defaulted (λ d. option_and_then (λ a. Some (Some a)) (kind d)) None field arguments

-- The arguments of one command: the first that is missing or of the wrong kind is told.
abbrev pub one : {A C : Type 0} → (A → C) → Result A Field → Result C Field
one make (Ok a) = Ok (make a)
one make (Err field) = Err field

abbrev pub two : {A B C : Type 0} → (A → B → C) → Result A Field → Result B Field → Result C Field
two make (Ok a) second = one (make a) second
two make (Err field) second = Err field

abbrev pub three : {A B D C : Type 0} → (A → B → D → C) → Result A Field → Result B Field → Result D Field → Result C Field
three make (Ok a) second third = two (make a) second third
three make (Err field) second third = Err field
