-- An expression's value is in its interval.
use Rattle.std.proofs.Common.{◌≡◌, ◌∙◌, refl, sym, ap, subst, ℕ, ◌<◌, ℤ, pos, Bool, true, false, ◌&&◌, true≢false, IsTrue, List, [], length, Option, Some, None, Result, Ok, Err, IsSomeAnd, arith}
use Rattle.std.proofs.lemmas.Bool.{and_parts}
use Rattle.std.proofs.lemmas.Int.{ints}
use Rattle.std.specs.Prelude.{nat_lt, not, ◌||◌, option_map, if◌then◌else◌}
use Rattle.gob_tree.specs.Formed.{is_plain, plain_step}
use Rattle.gob_tree.specs.Widths.{fits}
use Rattle.gob_tree.specs.declared.expr.BinOp.{BinOp}
use Rattle.gob_tree.specs.declared.expr.BinOp.TheVariants.{Add, Sub, Mul, Div, Rem, Lt, Le, Gt, Ge, Eq, Ne, And, Or}
use Rattle.gob_tree.specs.declared.expr.Expr.{Expr, Number, Local, Unary, Binary}
use Rattle.gob_tree.specs.declared.expr.Expr.TheOpen.{Expr-F}
use Rattle.gob_tree.specs.declared.expr.UnOp.{UnOp}
use Rattle.gob_tree.specs.declared.expr.Width.{Width}
use Rattle.gob_tree.specs.declared.expr.Width.TheVariants.{W32}
use Rattle.gob_tree.specs.declared.unit.Slot.{Slot}
use Rattle.c_meaning.specs.declared.demand.Demand.{Demand}
use Rattle.c_meaning.specs.Demand.{Answer, Meaning, meaning_step, meaning_of, and_then, on_answer, decided_or, early_value, unary_value, binary_value, unary_width, binary_width, wider, truth, is_zero}
use Rattle.gob_tree.proofs.Folds.{fold-Number, fold-Local, fold-Global, fold-Nondet, fold-Unary, fold-Binary, fold-Call}
use Rattle.gob_tree.proofs.Induct.{by_forms}
use Rattle.interval_dom.specs.Bounds.{Bounds, Describes}
use Rattle.state_dom.specs.Evaluation.{Reading, reading_step, reading_of, interval_of}
use Rattle.state_dom.specs.Operators.{unary_interval, binary_interval, conjunction, disjunction}
use Rattle.state_dom.specs.StateValue.{HoldsEach, DescribesEach}
use Rattle.state_dom.specs.Laws.{EvaluationDescribes}
use Rattle.state_dom.proofs.Slots.{slot_described}
use Rattle.state_dom.proofs.Values.{IsSoundValue, IsSoundValue-unary, IsSoundValue-numbers, conjunction-early, conjunction-late, disjunction-early, disjunction-late}

-- an answer that takes no input, and whose value is sound
abbrev pub IsSound : Width → Option Bounds → Answer ℤ → List ℤ → Type 0
IsSound w v a ins = (a.1 ≡ ins) × IsSoundValue w v a.0

-- ---- one operator

then_unary : (op : UnOp) (w : Width) (v : Option Bounds) (r : Result ℤ Demand) (rest ins : List ℤ) → rest ≡ ins → IsSoundValue w v r
    → IsSound (unary_width op w) (option_map (unary_interval op w) v) (on_answer r rest (λ n left. (Ok (unary_value op w n), left))) ins
then_unary op w v (Ok n) rest ins same sound = (same, IsSoundValue-unary op w v n sound)
then_unary op w v (Err demand) rest ins same sound = (same, tt)

-- the second operand of an operator on numbers
then_number : (op : BinOp) (v w : Width) (x y : Option Bounds) (n : ℤ) → (op ≡ And → ⊥) → (op ≡ Or → ⊥) → IsSoundValue v x (Ok n)
    → (r : Result ℤ Demand) (rest ins : List ℤ) → rest ≡ ins → IsSoundValue w y r
    → IsSound (binary_width op v w) (binary_interval op (wider v w) x y) (on_answer r rest (λ m left. (binary_value op (wider v w) n m, left))) ins
then_number op v w x y n first second sound (Ok m) rest ins same other = (same, IsSoundValue-numbers op v w x y n m first second sound other)
then_number op v w x y n first second sound (Err demand) rest ins same other = (same, tt)

fits_bit : (b : Bool) → IsTrue (fits W32 (truth b))
fits_bit true = refl
fits_bit false = refl

nonzero : (n : ℤ) → is_zero n ≡ false → n ≡ pos 0 → ⊥
nonzero n e zero = grind (arith, ints)

is_nothing : (n : ℤ) → is_zero n ≡ true → n ≡ pos 0
is_nothing n e = grind (arith, ints)

-- the truth of the right operand, where the left one doesn't decide
late_and : (v w : Width) (x y : Option Bounds) (n m : ℤ) → is_zero n ≡ false → IsSoundValue v x (Ok n) → IsSoundValue w y (Ok m)
    → IsSoundValue W32 (binary_interval And (wider v w) x y) (binary_value And (wider v w) n m)
late_and v w None y n m other left right = absurd left.1
late_and v w (Some x) None n m other left right = absurd right.1
late_and v w (Some x) (Some y) n m other left right =
    subst (λ (z : Bool). IsSoundValue W32 (conjunction x (Some y)) (Ok (truth (not z && not (is_zero m))))) (sym other)
    (fits_bit (not (is_zero m)), conjunction-late x y n m left.1 (nonzero n other) right.1)

late_or : (v w : Width) (x y : Option Bounds) (n m : ℤ) → is_zero n ≡ true → IsSoundValue v x (Ok n) → IsSoundValue w y (Ok m)
    → IsSoundValue W32 (binary_interval Or (wider v w) x y) (binary_value Or (wider v w) n m)
late_or v w None y n m zero left right = absurd left.1
late_or v w (Some x) None n m zero left right = absurd right.1
late_or v w (Some x) (Some y) n m zero left right =
    subst (λ (z : Bool). IsSoundValue W32 (disjunction x (Some y)) (Ok (truth (not z || not (is_zero m))))) (sym zero)
    (fits_bit (not (is_zero m)), disjunction-late x y n m left.1 (is_nothing n zero) right.1)

then_and : (v w : Width) (x y : Option Bounds) (n : ℤ) → is_zero n ≡ false → IsSoundValue v x (Ok n)
    → (r : Result ℤ Demand) (rest ins : List ℤ) → rest ≡ ins → IsSoundValue w y r
    → IsSound W32 (binary_interval And (wider v w) x y) (on_answer r rest (λ m left. (binary_value And (wider v w) n m, left))) ins
then_and v w x y n other sound (Ok m) rest ins same right = (same, late_and v w x y n m other sound right)
then_and v w x y n other sound (Err demand) rest ins same right = (same, tt)

then_or : (v w : Width) (x y : Option Bounds) (n : ℤ) → is_zero n ≡ true → IsSoundValue v x (Ok n)
    → (r : Result ℤ Demand) (rest ins : List ℤ) → rest ≡ ins → IsSoundValue w y r
    → IsSound W32 (binary_interval Or (wider v w) x y) (on_answer r rest (λ m left. (binary_value Or (wider v w) n m, left))) ins
then_or v w x y n zero sound (Ok m) rest ins same right = (same, late_or v w x y n m zero sound right)
then_or v w x y n zero sound (Err demand) rest ins same right = (same, tt)

early_and : (v : Width) (w : Width) (x y : Option Bounds) (n : ℤ) → is_zero n ≡ true → IsSoundValue v x (Ok n) → IsSoundValue W32 (binary_interval And (wider v w) x y) (Ok (pos 0))
early_and v w None y n zero sound = absurd sound.1
early_and v w (Some x) y n zero sound = (refl, conjunction-early x y n sound.1 (is_nothing n zero))

early_or : (v : Width) (w : Width) (x y : Option Bounds) (n : ℤ) → is_zero n ≡ false → IsSoundValue v x (Ok n) → IsSoundValue W32 (binary_interval Or (wider v w) x y) (Ok (pos 1))
early_or v w None y n other sound = absurd sound.1
early_or v w (Some x) y n other sound = (refl, disjunction-early x y n sound.1 (nonzero n other))

-- what the right operand answers, from any inputs
abbrev Other : Width → Option Bounds → (List ℤ → Answer ℤ) → Type 0
Other w y answer = (ins : List ℤ) → IsSound w y (answer ins) ins

abbrev binary_answer : BinOp → Width → (List ℤ → Answer ℤ) → ℤ → List ℤ → Answer ℤ
binary_answer op w other n rest = decided_or (early_value op n) rest (and_then (other rest) (λ m left. (binary_value op w n m, left)))

moved : (w : Width) (y : Option Bounds) (a : Answer ℤ) (rest ins : List ℤ) → rest ≡ ins → IsSound w y a rest → IsSound w y a ins
moved w y a rest ins same sound = (sound.0 ∙ same, sound.1)

on_numbers : (op : BinOp) (v w : Width) (x y : Option Bounds) (other : List ℤ → Answer ℤ) (n : ℤ) (rest : List ℤ) → (op ≡ And → ⊥) → (op ≡ Or → ⊥) → IsSoundValue v x (Ok n) → Other w y other
    → IsSound (binary_width op v w) (binary_interval op (wider v w) x y) (and_then (other rest) (λ m left. (binary_value op (wider v w) n m, left))) rest
on_numbers op v w x y other n rest first second sound right = then_number op v w x y n first second sound (other rest).0 (other rest).1 rest (right rest).0 (right rest).1

decided_and : (v w : Width) (x y : Option Bounds) (other : List ℤ → Answer ℤ) (n : ℤ) (rest : List ℤ) → IsSoundValue v x (Ok n) → Other w y other → (z : Bool) → is_zero n ≡ z
    → IsSound W32 (binary_interval And (wider v w) x y) (decided_or (if z then Some (pos 0) else None) rest (and_then (other rest) (λ m left. (binary_value And (wider v w) n m, left)))) rest
decided_and v w x y other n rest sound right true e = (refl, early_and v w x y n e sound)
decided_and v w x y other n rest sound right false e = then_and v w x y n e sound (other rest).0 (other rest).1 rest (right rest).0 (right rest).1

decided_or_not : (v w : Width) (x y : Option Bounds) (other : List ℤ → Answer ℤ) (n : ℤ) (rest : List ℤ) → IsSoundValue v x (Ok n) → Other w y other → (z : Bool) → is_zero n ≡ z
    → IsSound W32 (binary_interval Or (wider v w) x y) (decided_or (if z then None else Some (pos 1)) rest (and_then (other rest) (λ m left. (binary_value Or (wider v w) n m, left)))) rest
decided_or_not v w x y other n rest sound right true e = then_or v w x y n e sound (other rest).0 (other rest).1 rest (right rest).0 (right rest).1
decided_or_not v w x y other n rest sound right false e = (refl, early_or v w x y n e sound)

-- the answer once the left operand has a value
binary_sound : (op : BinOp) (v w : Width) (x y : Option Bounds) (other : List ℤ → Answer ℤ) (n : ℤ) (rest : List ℤ) → IsSoundValue v x (Ok n) → Other w y other
    → IsSound (binary_width op v w) (binary_interval op (wider v w) x y) (binary_answer op (wider v w) other n rest) rest
binary_sound Add v w x y other n rest sound right = on_numbers Add v w x y other n rest (λ e. cc) (λ e. cc) sound right
binary_sound Sub v w x y other n rest sound right = on_numbers Sub v w x y other n rest (λ e. cc) (λ e. cc) sound right
binary_sound Mul v w x y other n rest sound right = on_numbers Mul v w x y other n rest (λ e. cc) (λ e. cc) sound right
binary_sound Div v w x y other n rest sound right = on_numbers Div v w x y other n rest (λ e. cc) (λ e. cc) sound right
binary_sound Rem v w x y other n rest sound right = on_numbers Rem v w x y other n rest (λ e. cc) (λ e. cc) sound right
binary_sound Lt v w x y other n rest sound right = on_numbers Lt v w x y other n rest (λ e. cc) (λ e. cc) sound right
binary_sound Le v w x y other n rest sound right = on_numbers Le v w x y other n rest (λ e. cc) (λ e. cc) sound right
binary_sound Gt v w x y other n rest sound right = on_numbers Gt v w x y other n rest (λ e. cc) (λ e. cc) sound right
binary_sound Ge v w x y other n rest sound right = on_numbers Ge v w x y other n rest (λ e. cc) (λ e. cc) sound right
binary_sound Eq v w x y other n rest sound right = on_numbers Eq v w x y other n rest (λ e. cc) (λ e. cc) sound right
binary_sound Ne v w x y other n rest sound right = on_numbers Ne v w x y other n rest (λ e. cc) (λ e. cc) sound right
binary_sound And v w x y other n rest sound right = decided_and v w x y other n rest sound right (is_zero n) refl
binary_sound Or v w x y other n rest sound right = decided_or_not v w x y other n rest sound right (is_zero n) refl

then_binary : (op : BinOp) (v w : Width) (x y : Option Bounds) (other : List ℤ → Answer ℤ) (r : Result ℤ Demand) (rest ins : List ℤ) → rest ≡ ins → IsSoundValue v x r → Other w y other
    → IsSound (binary_width op v w) (binary_interval op (wider v w) x y) (on_answer r rest (binary_answer op (wider v w) other)) ins
then_binary op v w x y other (Ok n) rest ins same sound right = moved (binary_width op v w) (binary_interval op (wider v w) x y) (binary_answer op (wider v w) other n rest) rest ins same (binary_sound op v w x y other n rest sound right)
then_binary op v w x y other (Err demand) rest ins same sound right = (same, tt)

-- ---- expressions

module _ (slots : List Slot) (xs : List Bounds) (values : List ℤ) (holds : HoldsEach slots values) (described : DescribesEach xs values) where
  -- what an expression means, and how the analysis reads it
  abbrev pub Agrees : Meaning → Reading → Type 0
  Agrees m r = (m.width slots ≡ r.width) × ((ins : List ℤ) → IsSound (m.width slots) (r.interval xs) (m.answer slots values ins) ins)

  abbrev pub ExprAgrees : Expr → Type 0
  ExprAgrees e = IsTrue (is_plain (length slots) e) → Agrees (meaning_of e) (reading_of slots e)

  by_layer : (e : Expr) (m : Meaning) (r : Reading) (plain : Bool) → meaning_of e ≡ m → reading_of slots e ≡ r → is_plain (length slots) e ≡ plain → (IsTrue plain → Agrees m r) → ExprAgrees e
  by_layer e m r plain means reads is agrees given =
      subst (λ (z : Meaning). Agrees z (reading_of slots e)) (sym means) (subst (λ (z : Reading). Agrees m z) (sym reads) (agrees (sym is ∙ given)))

  unary_agrees : (op : UnOp) (m : Meaning) (r : Reading) → Agrees m r → Agrees (meaning_step (Expr-F.Unary op m)) (reading_step slots (Expr-F.Unary op r))
  unary_agrees op m r agrees = (
    ap (unary_width op) agrees.0,
    λ ins. subst (λ (w : Width). IsSound (unary_width op (m.width slots)) (option_map (unary_interval op w) (r.interval xs)) ((meaning_step (Expr-F.Unary op m)).answer slots values ins) ins) agrees.0
        (then_unary op (m.width slots) (r.interval xs) (m.answer slots values ins).0 (m.answer slots values ins).1 ins (agrees.1 ins).0 (agrees.1 ins).1),
  )

  binary_agrees : (op : BinOp) (m m' : Meaning) (r r' : Reading) → Agrees m r → Agrees m' r' → Agrees (meaning_step (Expr-F.Binary op m m')) (reading_step slots (Expr-F.Binary op r r'))
  binary_agrees op m m' r r' left right = (
    ap (λ (w : Width). binary_width op w (m'.width slots)) left.0 ∙ ap (binary_width op r.width) right.0,
    λ ins. subst (λ (w : Width). IsSound (binary_width op (m.width slots) (m'.width slots)) (binary_interval op w (r.interval xs) (r'.interval xs)) ((meaning_step (Expr-F.Binary op m m')).answer slots values ins) ins)
        (ap (λ (w : Width). wider w (m'.width slots)) left.0 ∙ ap (wider r.width) right.0)
        (then_binary op (m.width slots) (m'.width slots) (r.interval xs) (r'.interval xs) (m'.answer slots values) (m.answer slots values ins).0 (m.answer slots values ins).1 ins (left.1 ins).0 (left.1 ins).1 right.1),
  )

  local_agrees : (x : ℕ) → x < length slots → Agrees (meaning_step (Expr-F.Local x)) (reading_step slots (Expr-F.Local x))
  local_agrees x within = (refl, λ ins. (refl, slot_described slots xs values x within holds described))

  number_agrees : (n : ℤ) (w : Width) → IsTrue (fits w n) → Agrees (meaning_step (Expr-F.Number n w)) (reading_step slots (Expr-F.Number n w))
  number_agrees n w fit = (refl, λ ins. (refl, (fit, (omega (arith, ints), omega (arith, ints)))))

  is_below : (x k : ℕ) → nat_lt x k ≡ true → x < k
  is_below x k e = grind arith

  pub expr_agrees : (e : Expr) → ExprAgrees e
  expr_agrees = by_forms ExprAgrees
      (λ n w. by_layer (Number n w) _ _ _ (fold-Number Meaning meaning_step n w) (fold-Number Reading (reading_step slots) n w) (fold-Number Bool (plain_step (length slots)) n w) (number_agrees n w))
      (λ x. by_layer (Local x) _ _ _ (fold-Local Meaning meaning_step x) (fold-Local Reading (reading_step slots) x) (fold-Local Bool (plain_step (length slots)) x) (λ below. local_agrees x (is_below x (length slots) below)))
      (λ g w plain. absurd (true≢false (sym plain ∙ fold-Global Bool (plain_step (length slots)) g w)))
      (λ w plain. absurd (true≢false (sym plain ∙ fold-Nondet Bool (plain_step (length slots)) w)))
      (λ op a agrees. by_layer (Unary op a) _ _ _ (fold-Unary Meaning meaning_step op a) (fold-Unary Reading (reading_step slots) op a) (fold-Unary Bool (plain_step (length slots)) op a)
      (λ plain. unary_agrees op (meaning_of a) (reading_of slots a) (agrees plain)))
      (λ op a b left right. by_layer (Binary op a b) _ _ _ (fold-Binary Meaning meaning_step op a b) (fold-Binary Reading (reading_step slots) op a b) (fold-Binary Bool (plain_step (length slots)) op a b)
      (λ plain. let both = and_parts (is_plain (length slots) a) (is_plain (length slots) b) plain in binary_agrees op (meaning_of a) (meaning_of b) (reading_of slots a) (reading_of slots b) (left both.0) (right both.1)))
      (λ f w args each plain. absurd (true≢false (sym plain ∙ fold-Call Bool (plain_step (length slots)) f w args)))

value_in : (w : Width) (v : Option Bounds) (a : Answer ℤ) (n : ℤ) → IsSoundValue w v a.0 → a.0 ≡ Ok n → IsSomeAnd v (λ b. Describes b n)
value_in w v a n sound is = (subst (IsSoundValue w v) is sound).1

pub evaluation_describes : EvaluationDescribes
evaluation_describes slots xs values e n plain holds described is =
    let agrees = expr_agrees slots xs values holds described e plain in
    value_in ((meaning_of e).width slots) (interval_of slots xs e) ((meaning_of e).answer slots values []) n (agrees.1 []).1 is
