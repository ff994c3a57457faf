-- The printed table: a line for each unknown, in the order of unknowns.
use Rattle.std.specs.Prelude.{ℕ, ◌+◌, if◌then◌else◌, nat_eq, List, [], ◌∷◌, ◌++◌, Option, None, Some, slice_get, codes, decimal}
use Rattle.std.specs.Fmt.{signed_decimal}
use Rattle.std.specs.Int.{bit_at}
use Rattle.std.specs.List.{flat_map, join_by}
use Rattle.std.specs.Map.{keys_of}
use Rattle.gob_tree.specs.declared.graph.FuncGraph.{FuncGraph}
use Rattle.gob_tree.specs.declared.graph.Program.{Program}
use Rattle.gob_tree.specs.declared.place.Place.{Place}
use Rattle.gob_tree.specs.declared.unit.FuncKind.{FuncKind}
use Rattle.gob_tree.specs.declared.unit.FuncKind.TheVariants.{Int, Void, Thread}
use Rattle.gob_tree.specs.declared.unit.GlobalDecl.{GlobalDecl}
use Rattle.interval_dom.specs.Bounds.{Bounds}
use Rattle.state_dom.specs.StateValue.{StateValue, Bottom, Reached}
use Rattle.constraint_sys.specs.declared.unknown.ArgKey.{ArgKey}
use Rattle.constraint_sys.specs.declared.unknown.ArgKey.TheVariants.{Absent, Zero, One, Any}
use Rattle.constraint_sys.specs.declared.unknown.Key.{Key}
use Rattle.constraint_sys.specs.declared.unknown.Unknown.{Unknown}
use Rattle.constraint_sys.specs.declared.unknown.Unknown.TheVariants.{Point, Global}
use Rattle.constraint_sys.specs.declared.value.Value.{Value}
use Rattle.constraint_sys.specs.declared.value.Value.TheVariants.{State, Number}
use Rattle.constraint_sys.specs.Table.{TableValue, value_at}
use Rattle.constraint_sys.specs.UnknownOrder.{in_unknown_order}
use Rattle.gob_tree.specs.Labels.{labels_of}

-- `[lo,hi]`
abbrev pub interval_text : Bounds → List ℕ
interval_text x = codes "[" ++ signed_decimal x.lo ++ codes "," ++ signed_decimal x.hi ++ codes "]"

-- texts with a comma between each two
abbrev pub joined_by_comma : List (List ℕ) → List ℕ
joined_by_comma texts = join_by (λ (text : List ℕ). text) (codes ",") texts

-- what a context knows of an argument, if there is one
abbrev pub argument_texts : ArgKey → List (List ℕ)
argument_texts Absent = []
argument_texts Zero = codes "0" ∷ []
argument_texts One = codes "1" ∷ []
argument_texts Any = codes "Any" ∷ []

abbrev pub arguments_text : Key → List ℕ
arguments_text key = joined_by_comma (argument_texts key.a ++ argument_texts key.b)

-- the names of those mutexes that a set holds, where the first of the list has number m
abbrev pub names_of_held : ℕ → List (List ℕ) → ℕ → List (List ℕ)
names_of_held set [] m = []
names_of_held set (name ∷ names) m =
    if nat_eq (bit_at set m) 1 then name ∷ names_of_held set names (m + 1) else names_of_held set names (m + 1)

-- the mutexes of a set, in the order of their numbers
abbrev pub locks_text : Program → ℕ → List ℕ
locks_text p set = joined_by_comma (names_of_held set p.mutexes 0)

-- `L:C`
abbrev pub place_text : Option Place → List ℕ
place_text None = []
place_text (Some place) = decimal place.line ++ codes ":" ++ decimal place.column

-- `x=[lo,hi]` and a blank, for a slot that has a label
abbrev pub slot_text : List ℕ → Bounds → List ℕ
slot_text [] x = []
slot_text (c ∷ cs) x = (c ∷ cs) ++ codes "=" ++ interval_text x ++ codes " "

abbrev pub slots_text : List (List ℕ) → List Bounds → List ℕ
slots_text [] xs = []
slots_text (label ∷ labels) [] = []
slots_text (label ∷ labels) (x ∷ xs) = slot_text label x ++ slots_text labels xs

-- `return=[lo,hi]` and a blank, from slot 0 of a function that returns a number
abbrev pub returned_text : FuncKind → List Bounds → List ℕ
returned_text Int [] = []
returned_text Int (x ∷ xs) = codes "return=" ++ interval_text x ++ codes " "
returned_text Void xs = []
returned_text Thread xs = []

-- the slots of a function, what it returns at node 1, the exit, and the mutexes that are held
abbrev pub reached_text : Program → FuncGraph → ℕ → List Bounds → ℕ → List ℕ
reached_text p f node slots locks =
    slots_text (labels_of f.slots) slots ++ (if nat_eq node 1 then returned_text f.kind slots else [])
    ++ codes "{" ++ locks_text p locks ++ codes "}"

-- the state at a node of a function
abbrev pub state_text : Program → FuncGraph → ℕ → StateValue → List ℕ
state_text p f node (Bottom room) = codes "unreached"
state_text p f node (Reached slots locks) = reached_text p f node slots locks

-- `(KEYS){LOCKS}` of a context
abbrev pub context_text : Program → Key → List ℕ
context_text p key = codes "(" ++ arguments_text key ++ codes "){" ++ locks_text p key.locks ++ codes "}"

-- `NAME(KEYS){LOCKS} NODE L:C STATE` of a node of a function in a context
abbrev pub point_line : Program → Option FuncGraph → Key → ℕ → StateValue → List ℕ
point_line p None key node s = []
point_line p (Some f) key node s =
    f.name ++ context_text p key ++ codes " " ++ decimal node ++ codes " " ++ place_text (slice_get f.nodes node) ++ codes " "
    ++ state_text p f node s ++ codes "\n"

abbrev pub global_line : Option GlobalDecl → Bounds → List ℕ
global_line None x = []
global_line (Some g) x = codes "global " ++ g.name ++ codes "=" ++ interval_text x ++ codes "\n"

-- The line of an unknown with its value. What isn't an unknown of the program, or has no value of
-- its kind, has no line.
abbrev pub line_of : Program → Unknown → Option Value → List ℕ
line_of p u None = []
line_of p (Point f key node) (Some (State s)) = point_line p (slice_get p.funcs f) key node s
line_of p (Point f key node) (Some (Number x)) = []
line_of p (Global g) (Some (State s)) = []
line_of p (Global g) (Some (Number x)) = global_line (slice_get p.globals g) x

abbrev pub lines_of : Program → TableValue → List Unknown → List ℕ
lines_of p t us = flat_map (λ (u : Unknown). line_of p u (value_at t u)) us

-- the printed table of a program
abbrev pub printed : Program → TableValue → List ℕ
printed p t = lines_of p t (in_unknown_order (keys_of t))

-- ---- the globals alone

-- the line of a global, of what the table has for it
abbrev pub value_line : GlobalDecl → Option Value → List ℕ
value_line g None = []
value_line g (Some (State s)) = []
value_line g (Some (Number x)) = global_line (Some g) x

-- the lines of these globals, the first of which has number g
abbrev pub global_lines : TableValue → ℕ → List GlobalDecl → List ℕ
global_lines t g [] = []
global_lines t g (decl ∷ decls) = value_line decl (value_at t (Global g)) ++ global_lines t (g + 1) decls

-- the lines of a program's globals, in their order
abbrev pub printed_globals : Program → TableValue → List ℕ
printed_globals p t = global_lines t 0 p.globals
