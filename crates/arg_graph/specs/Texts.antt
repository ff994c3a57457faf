-- What labels are called wherever they are shown.
--
-- A reader should check: each text letter by letter.
use Rattle.std.specs.Prelude.{ℕ, ◌+◌, Bool, true, false, List, [], ◌∷◌, ◌++◌, Option, None, Some, slice_get, codes, decimal}
use Rattle.std.specs.Fmt.{signed_decimal}
use Rattle.gob_tree.specs.declared.expr.BinOp.{BinOp}
use Rattle.gob_tree.specs.declared.expr.BinOp.TheVariants.{Add, Sub, Mul, Div, Rem, Lt, Le, Gt, Ge, Eq, Ne, And, Or}
use Rattle.gob_tree.specs.declared.expr.Expr.{Expr}
use Rattle.gob_tree.specs.declared.expr.Expr.TheOpen.{Expr-F}
use Rattle.gob_tree.specs.declared.expr.Expr.TheFolds.{fold-Expr}
use Rattle.gob_tree.specs.declared.expr.UnOp.{UnOp}
use Rattle.gob_tree.specs.declared.expr.UnOp.TheVariants.{Neg, Not}
use Rattle.gob_tree.specs.declared.graph.Action.{Action}
use Rattle.gob_tree.specs.declared.graph.Action.TheVariants.{Assign, Read, Write, Nondet, Guard, Assert, Lock, Unlock, Create, Join, Call, Skip}
use Rattle.gob_tree.specs.declared.graph.Edge.{Edge}
use Rattle.gob_tree.specs.declared.graph.FuncGraph.{FuncGraph}
use Rattle.gob_tree.specs.declared.graph.Program.{Program}
use Rattle.gob_tree.specs.declared.unit.GlobalDecl.{GlobalDecl}
use Rattle.gob_tree.specs.declared.unit.Slot.{Slot}
use Rattle.gob_tree.specs.Labels.{labels_of}
use Rattle.arg_graph.specs.declared.vertex.Label.{Label}
use Rattle.arg_graph.specs.declared.vertex.Label.TheVariants.{Do, Over, Enter, Thread, Leave}

abbrev pub text_or_empty : Option (List ℕ) → List ℕ
text_or_empty None = []
text_or_empty (Some text) = text

-- ---- slots

-- the name of a slot with this label, or that of the k-th temporary, `$k`
abbrev pub name_of : ℕ → List ℕ → List ℕ
name_of k [] = codes "$" ++ decimal k
name_of k (c ∷ cs) = c ∷ cs

-- how many temporaries are known after a slot with this label
abbrev pub counted : ℕ → List ℕ → ℕ
counted k [] = k + 1
counted k (c ∷ cs) = k

-- the names of slots with these labels, after k temporaries
abbrev pub names_from : ℕ → List (List ℕ) → List (List ℕ)
names_from k [] = []
names_from k (label ∷ labels) = name_of k label ∷ names_from (counted k label) labels

abbrev pub names_with : List (List ℕ) → List (List ℕ)
names_with [] = []
names_with (returned ∷ labels) = codes "return" ∷ names_from 0 labels

-- what a function's slots are called: slot 0 is `return`, a local goes by its label, and the
-- temporaries are `$0`, `$1` and so on
abbrev pub slot_names : List Slot → List (List ℕ)
slot_names slots = names_with (labels_of slots)

abbrev pub name_at : List (List ℕ) → ℕ → List ℕ
name_at names i = text_or_empty (slice_get names i)

-- ---- expressions

-- an expression's text, and whether it has an operator
pub record Shown : Type 0 where
  pub compound : Bool
  pub text : List ℕ

abbrev pub simple : List ℕ → Shown
simple text = record { compound = false; text = text }

abbrev pub opening : Bool → List ℕ
opening true = codes "("
opening false = []

abbrev pub closing : Bool → List ℕ
closing true = codes ")"
closing false = []

-- an operand: in parentheses where it has an operator itself
abbrev pub operand_text : Shown → List ℕ
operand_text s = opening s.compound ++ s.text ++ closing s.compound

abbrev pub prefix_text : UnOp → List ℕ
prefix_text Neg = codes "-"
prefix_text Not = codes "!"

abbrev pub operator_text : BinOp → List ℕ
operator_text Add = codes " + "
operator_text Sub = codes " - "
operator_text Mul = codes " * "
operator_text Div = codes " / "
operator_text Rem = codes " % "
operator_text Lt = codes " < "
operator_text Le = codes " <= "
operator_text Gt = codes " > "
operator_text Ge = codes " >= "
operator_text Eq = codes " == "
operator_text Ne = codes " != "
operator_text And = codes " && "
operator_text Or = codes " || "

-- One node of an expression of an edge, whose locals have these names. A prefix has its operand in
-- parentheses always. No edge of a graph has a global, an arbitrary number or a call in an expression.
abbrev pub shown_step : List (List ℕ) → Expr-F Shown → Shown
shown_step names (Expr-F.Number n w) = simple (signed_decimal n)
shown_step names (Expr-F.Local x) = simple (name_at names x)
shown_step names (Expr-F.Global g w) = simple []
shown_step names (Expr-F.Nondet w) = simple []
shown_step names (Expr-F.Unary op a) = record { compound = true; text = prefix_text op ++ codes "(" ++ a.text ++ codes ")" }
shown_step names (Expr-F.Binary op a b) = record { compound = true; text = operand_text a ++ operator_text op ++ operand_text b }
shown_step names (Expr-F.Call f w args) = simple []

abbrev pub shown : List (List ℕ) → Expr → Shown
shown names = fold-Expr Shown (shown_step names)

abbrev pub expr_text : List (List ℕ) → Expr → List ℕ
expr_text names e = (shown names e).text

-- arguments behind others, each behind a comma and a blank
abbrev pub more_arguments_text : List (List ℕ) → List Expr → List ℕ
more_arguments_text names [] = []
more_arguments_text names (e ∷ es) = codes ", " ++ expr_text names e ++ more_arguments_text names es

abbrev pub arguments_text : List (List ℕ) → List Expr → List ℕ
arguments_text names [] = []
arguments_text names (e ∷ es) = expr_text names e ++ more_arguments_text names es

-- ---- names

abbrev pub name_of_function : Option FuncGraph → List ℕ
name_of_function None = []
name_of_function (Some f) = f.name

abbrev pub name_of_global : Option GlobalDecl → List ℕ
name_of_global None = []
name_of_global (Some g) = g.name

abbrev pub function_text : Program → ℕ → List ℕ
function_text p f = name_of_function (slice_get p.funcs f)

abbrev pub global_text : Program → ℕ → List ℕ
global_text p g = name_of_global (slice_get p.globals g)

-- ---- edges

-- a condition that is wanted, or its opposite
abbrev pub guard_text : List (List ℕ) → Expr → Bool → List ℕ
guard_text names e true = expr_text names e
guard_text names e false = codes "!(" ++ expr_text names e ++ codes ")"

-- an edge of function f that is done; a call is gone over or entered, and never done
abbrev pub done_text : Program → FuncGraph → Action → List ℕ
done_text p f (Assign x e) = name_at (slot_names f.slots) x ++ codes " = " ++ expr_text (slot_names f.slots) e
done_text p f (Read x g) = name_at (slot_names f.slots) x ++ codes " = " ++ global_text p g
done_text p f (Write g e) = global_text p g ++ codes " = " ++ expr_text (slot_names f.slots) e
done_text p f (Nondet x) = name_at (slot_names f.slots) x ++ codes " = any"
done_text p f (Guard e wanted) = guard_text (slot_names f.slots) e wanted
done_text p f (Assert e) = codes "assert " ++ expr_text (slot_names f.slots) e
done_text p f (Lock m) = codes "lock " ++ name_at p.mutexes m
done_text p f (Unlock m) = codes "unlock " ++ name_at p.mutexes m
done_text p f (Create x g) = codes "create " ++ function_text p g
done_text p f (Join x) = codes "join " ++ name_at f.threads x
done_text p f (Call d g args) = []
done_text p f Skip = codes "skip"

-- a call behind a word, where the locals have these names
abbrev pub call_text : Program → List (List ℕ) → List ℕ → Action → List ℕ
call_text p names word (Call d g args) = word ++ function_text p g ++ codes "(" ++ arguments_text names args ++ codes ")"
call_text p names word _ = []

-- the thread that an edge starts
abbrev pub thread_text : Program → Action → List ℕ
thread_text p (Create x g) = codes "thread " ++ function_text p g
thread_text p _ = []

-- ---- labels

abbrev pub action_of : Option Edge → Option Action
action_of None = None
action_of (Some e) = Some e.act

abbrev pub if_some : (Action → List ℕ) → Option Action → List ℕ
if_some text None = []
if_some text (Some act) = text act

-- a label of function f
abbrev pub text_in : Program → FuncGraph → Label → List ℕ
text_in p f (Do n) = if_some (done_text p f) (action_of (slice_get f.edges n))
text_in p f (Over n) = if_some (call_text p (slot_names f.slots) (codes "over ")) (action_of (slice_get f.edges n))
text_in p f (Enter n) = if_some (call_text p (slot_names f.slots) (codes "into ")) (action_of (slice_get f.edges n))
text_in p f (Thread n) = if_some (thread_text p) (action_of (slice_get f.edges n))
text_in p f Leave = codes "leave"

abbrev pub text_in_function : Program → Option FuncGraph → Label → List ℕ
text_in_function p None label = []
text_in_function p (Some f) label = text_in p f label

-- The text of a label of function f. A label that no step of the function bears has none.
abbrev pub label_text : Program → ℕ → Label → List ℕ
label_text p f label = text_in_function p (slice_get p.funcs f) label
