-- The request of a content, or why it is none.
use Rattle.std.specs.Prelude.{ℕ, List, if◌then◌else◌, Option, Some, None, option_map, option_and_then, unwrap_or, codes, Result, Ok, Err}
use Rattle.std.specs.Str.{is_utf8, bytes_eq}
use Rattle.serde_json.specs.Data.{Data, null}
use Rattle.serde_json.specs.Read.{read}
use Rattle.serde_json.specs.Find.{get}
use Rattle.dap_wire.specs.declared.fault.WireFault.{WireFault}
use Rattle.dap_wire.specs.declared.fault.WireFault.TheVariants.{NotJson, NotARequest, UnknownCommand, BadArguments}
use Rattle.dap_wire.specs.declared.field.Field.{Field}
use Rattle.dap_wire.specs.declared.name.CommandName.{CommandName}
use Rattle.dap_wire.specs.declared.request.Ask.{Ask}
use Rattle.dap_wire.specs.declared.request.Command.{Command}
use Rattle.dap_wire.specs.Fields.{key_of}
use Rattle.dap_wire.specs.Kinds.{whole_from, text}
use Rattle.dap_wire.specs.Names.{command_named}
use Rattle.dap_wire.specs.Table.{command_of}

-- the JSON value of a content, which has to be UTF-8
abbrev pub value_of : List ℕ → Option Data
value_of content = if is_utf8 content then read content else None

-- the number and the command's name of a request
abbrev pub if_request : List ℕ → Option (List ℕ)
if_request kind = if bytes_eq kind (codes "request") then Some kind else None

abbrev pub head_of : Data → Option (ℕ × List ℕ)
head_of d =
    option_and_then (λ kind. option_and_then (λ seq. option_map (λ name. (seq, name)) (option_and_then text (get (codes "command") d)))
    (option_and_then (whole_from 1) (get (codes "seq") d)))
    (option_and_then if_request (option_and_then text (get (codes "type") d)))

-- arguments that are missing or no object have no fields
abbrev pub arguments_of : Data → Data
arguments_of d = unwrap_or (get (codes "arguments") d) null

abbrev pub by_arguments : ℕ → List ℕ → Result Command Field → Result Ask WireFault
by_arguments seq name (Ok command) = Ok (record { seq = seq; command = command })
by_arguments seq name (Err field) = Err (BadArguments seq name (key_of field))

abbrev pub by_name : ℕ → List ℕ → Option CommandName → Data → Result Ask WireFault
by_name seq name None arguments = Err (UnknownCommand seq name)
by_name seq name (Some command) arguments = by_arguments seq name (command_of command arguments)

abbrev pub by_head : Option (ℕ × List ℕ) → Data → Result Ask WireFault
by_head None arguments = Err NotARequest
by_head (Some head) arguments = by_name head.0 head.1 (command_named head.1) arguments

abbrev pub by_value : Option Data → Result Ask WireFault
by_value None = Err NotJson
by_value (Some d) = by_head (head_of d) (arguments_of d)

abbrev pub request_of : List ℕ → Result Ask WireFault
request_of content = by_value (value_of content)
