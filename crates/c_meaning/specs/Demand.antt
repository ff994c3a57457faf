-- The value of an expression, from left to right, or what stands in its way.
--
-- A reader should check: the width of each form, that each input is taken from the front of the
-- list, that `&&` and `||` stop early, that arithmetic is exact and then converted to the
-- operator's width, and that comparisons take the numbers as they are.
use Rattle.std.specs.Prelude.{ℕ, ℤ, pos, ◌+ℤ◌, ◌-ℤ◌, ◌*ℤ◌, neg_ℤ, int_lt, int_le, int_div, int_rem, Bool, not, ◌&&◌, ◌||◌, if◌then◌else◌, List, [], ◌∷◌, map, Option, None, Some, Result, Ok, Err, slice_get, slice_index_or, slice_set}
use Rattle.std.specs.Option.{option_map_or}
use Rattle.std.specs.Ordering.{int_eq}
use Rattle.std.specs.Int as Int
use Rattle.std.specs.Int.{int_wrap, w32, w64}
use Rattle.gob_tree.specs.declared.expr.Width.{Width}
use Rattle.gob_tree.specs.declared.expr.Width.TheVariants.{W32, W64}
use Rattle.gob_tree.specs.declared.expr.UnOp.{UnOp}
use Rattle.gob_tree.specs.declared.expr.UnOp.TheVariants.{Neg, Not}
use Rattle.gob_tree.specs.declared.expr.BinOp.{BinOp}
use Rattle.gob_tree.specs.declared.expr.BinOp.TheVariants.{Add, Sub, Mul, Div, Rem, Lt, Le, Gt, Ge, Eq, Ne, And, Or}
use Rattle.gob_tree.specs.declared.expr.Expr.{Expr, fold-Expr}
use Rattle.gob_tree.specs.declared.expr.Expr.TheOpen.{Expr-F}
use Rattle.gob_tree.specs.declared.unit.Slot.{Slot}
use Rattle.c_meaning.specs.declared.demand.Demand.{Demand}
use Rattle.c_meaning.specs.declared.demand.Demand.TheVariants.{Global, Nondet, Call, Fault}

-- ---- widths and slots

abbrev pub bits_of : Width → Int.Width
bits_of W32 = w32
bits_of W64 = w64

-- the number of a width that equals n modulo 2 ^ 32 or 2 ^ 64
abbrev pub conversion : Width → ℤ → ℤ
conversion w n = int_wrap (bits_of w) n

-- W64 where one of the two is
abbrev pub wider : Width → Width → Width
wider W32 w = w
wider W64 w = W64

-- the width of a slot; W32 where there is no such slot, which no program has
abbrev pub slot_width : List Slot → ℕ → Width
slot_width slots x = option_map_or (λ slot. slot.width) (slice_get slots x) W32

-- the value of a slot; 0 where there is no such slot
abbrev pub value_at : List ℤ → ℕ → ℤ
value_at values x = slice_index_or values x (pos 0)

-- the values after a number was stored in a slot, converted to the slot's width
abbrev pub with_slot : List Slot → ℕ → ℤ → List ℤ → List ℤ
with_slot slots x n values = slice_set values x (conversion (slot_width slots x) n)

-- ---- operators on numbers

abbrev pub truth : Bool → ℤ
truth b = if b then pos 1 else pos 0

abbrev pub is_zero : ℤ → Bool
is_zero n = int_eq n (pos 0)

abbrev pub unary_value : UnOp → Width → ℤ → ℤ
unary_value Neg w n = conversion w (neg_ℤ n)
unary_value Not w n = truth (is_zero n)

-- a quotient or a remainder, which round towards zero; none by zero
abbrev pub quotient_or_fault : (ℤ → ℤ → ℤ) → Width → ℤ → ℤ → Result ℤ Demand
quotient_or_fault f w n m = if is_zero m then Err Fault else Ok (conversion w (f n m))

abbrev pub binary_value : BinOp → Width → ℤ → ℤ → Result ℤ Demand
binary_value Add w n m = Ok (conversion w (n +ℤ m))
binary_value Sub w n m = Ok (conversion w (n -ℤ m))
binary_value Mul w n m = Ok (conversion w (n *ℤ m))
binary_value Div w n m = quotient_or_fault int_div w n m
binary_value Rem w n m = quotient_or_fault int_rem w n m
binary_value Lt w n m = Ok (truth (int_lt n m))
binary_value Le w n m = Ok (truth (int_le n m))
binary_value Gt w n m = Ok (truth (int_lt m n))
binary_value Ge w n m = Ok (truth (int_le m n))
binary_value Eq w n m = Ok (truth (int_eq n m))
binary_value Ne w n m = Ok (truth (not (int_eq n m)))
binary_value And w n m = Ok (truth (not (is_zero n) && not (is_zero m)))
binary_value Or w n m = Ok (truth (not (is_zero n) || not (is_zero m)))

-- the value that the left operand decides alone
abbrev pub early_value : BinOp → ℤ → Option ℤ
early_value And n = if is_zero n then Some (pos 0) else None
early_value Or n = if is_zero n then None else Some (pos 1)
early_value op n = None

-- ---- answers

-- a value or what stands in its way, and the inputs that are left
abbrev pub Answer : Type 0 → Type 0
Answer A = Result A Demand × List ℤ

abbrev pub on_answer : {A B : Type 0} → Result A Demand → List ℤ → (A → List ℤ → Answer B) → Answer B
on_answer (Ok v) rest go = go v rest
on_answer (Err demand) rest go = (Err demand, rest)

-- goes on with the value, if there is one
abbrev pub and_then : {A B : Type 0} → Answer A → (A → List ℤ → Answer B) → Answer B
and_then a go = on_answer a.0 a.1 go

-- the next input, or what is missing
abbrev pub next_input : Demand → List ℤ → Answer ℤ
next_input missing [] = (Err missing, [])
next_input missing (n ∷ ins) = (Ok n, ins)

-- the value that is decided already, or else the answer
abbrev pub decided_or : Option ℤ → List ℤ → Answer ℤ → Answer ℤ
decided_or (Some v) rest a = (Ok v, rest)
decided_or None rest a = a

-- ---- expressions

-- what an expression means in a frame: its width by the slots, and its answer by the slots, their
-- values and the inputs
pub record Meaning : Type 0 where
  pub width : List Slot → Width
  pub answer : List Slot → List ℤ → List ℤ → Answer ℤ

abbrev pub binary_width : BinOp → Width → Width → Width
binary_width Add v w = wider v w
binary_width Sub v w = wider v w
binary_width Mul v w = wider v w
binary_width Div v w = wider v w
binary_width Rem v w = wider v w
binary_width op v w = W32

abbrev pub unary_width : UnOp → Width → Width
unary_width Neg w = w
unary_width Not w = W32

abbrev pub width_step : Expr-F Meaning → List Slot → Width
width_step (Expr-F.Number n w) slots = w
width_step (Expr-F.Local x) slots = slot_width slots x
width_step (Expr-F.Global g w) slots = w
width_step (Expr-F.Nondet w) slots = w
width_step (Expr-F.Unary op a) slots = unary_width op (a.width slots)
width_step (Expr-F.Binary op a b) slots = binary_width op (a.width slots) (b.width slots)
width_step (Expr-F.Call f w args) slots = w

-- the values of a list, up to the first that has none
abbrev pub answers_of : List Meaning → List Slot → List ℤ → List ℤ → Answer (List ℤ)
answers_of [] slots values ins = (Ok [], ins)
answers_of (e ∷ es) slots values ins =
    and_then (e.answer slots values ins) (λ n rest.
    and_then (answers_of es slots values rest) (λ ns rest'. (Ok (n ∷ ns), rest')))

abbrev pub answer_step : Expr-F Meaning → List Slot → List ℤ → List ℤ → Answer ℤ
answer_step (Expr-F.Number n w) slots values ins = (Ok n, ins)
answer_step (Expr-F.Local x) slots values ins = (Ok (value_at values x), ins)
answer_step (Expr-F.Global g w) slots values ins = next_input (Global g) ins
answer_step (Expr-F.Nondet w) slots values ins = next_input (Nondet w) ins
answer_step (Expr-F.Unary op a) slots values ins =
    and_then (a.answer slots values ins) (λ n rest. (Ok (unary_value op (a.width slots) n), rest))
answer_step (Expr-F.Binary op a b) slots values ins =
    and_then (a.answer slots values ins) (λ n rest.
    decided_or (early_value op n) rest
    (and_then (b.answer slots values rest) (λ m rest'. (binary_value op (wider (a.width slots) (b.width slots)) n m, rest'))))
answer_step (Expr-F.Call f w args) slots values ins =
    and_then (answers_of args slots values ins) (λ ns rest. next_input (Call f ns) rest)

abbrev pub meaning_step : Expr-F Meaning → Meaning
meaning_step e = record { width = width_step e; answer = answer_step e }

abbrev pub meaning_of : Expr → Meaning
meaning_of = fold-Expr Meaning meaning_step

-- the width of an expression among these slots
abbrev pub width_of : Expr → List Slot → Width
width_of e = (meaning_of e).width

-- the value of an expression, or the first thing that stands in its way, and the inputs left
abbrev pub demand_of : Expr → List Slot → List ℤ → List ℤ → Answer ℤ
demand_of e = (meaning_of e).answer

-- the same of a list of expressions, from left to right
abbrev pub demands_of : List Expr → List Slot → List ℤ → List ℤ → Answer (List ℤ)
demands_of es = answers_of (map meaning_of es)

-- the value of an expression that has no inputs
abbrev pub value_of : Expr → List Slot → List ℤ → Result ℤ Demand
value_of e slots values = (demand_of e slots values []).0

abbrev pub values_of : List Expr → List Slot → List ℤ → Result (List ℤ) Demand
values_of es slots values = (demands_of es slots values []).0
