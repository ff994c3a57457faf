-- A guard keeps each described state at which its expression has the wanted truth.
use Rattle.std.proofs.Common.{◌≡◌, ◌∙◌, refl, sym, ap, subst, ℕ, ◌<◌, ℤ, pos, Bool, true, false, ◌&&◌, ◌||◌, true≢false, IsTrue, List, [], length, Option, Some, None, Result, Ok, Err, IsSomeAnd, arith}
use Rattle.std.proofs.lemmas.Bool.{and_parts, cond_both}
use Rattle.std.proofs.lemmas.Int.{ints}
use Rattle.std.specs.Prelude.{slice_get, int_lt, int_le, not, nat_lt, option_and_then, if◌then◌else◌}
use Rattle.std.specs.Ordering.{int_eq}
use Rattle.gob_tree.specs.Formed.{is_plain, plain_step}
use Rattle.gob_tree.specs.declared.expr.BinOp.{BinOp}
use Rattle.gob_tree.specs.declared.expr.BinOp.TheVariants.{Add, Sub, Mul, Div, Rem, Lt, Le, Gt, Ge, Eq, Ne, And, Or}
use Rattle.gob_tree.specs.declared.expr.Expr.{Expr, Number, Local, Unary, Binary}
use Rattle.gob_tree.specs.declared.expr.Expr.TheOpen.{Expr-F}
use Rattle.gob_tree.specs.declared.expr.UnOp.{UnOp}
use Rattle.gob_tree.specs.declared.expr.UnOp.TheVariants.{Neg, Not}
use Rattle.gob_tree.specs.declared.expr.Width.{Width}
use Rattle.gob_tree.specs.declared.unit.Slot.{Slot}
use Rattle.c_meaning.specs.declared.demand.Demand.{Demand}
use Rattle.c_meaning.specs.Demand.{Answer, Meaning, meaning_step, meaning_of, and_then, on_answer, decided_or, early_value, unary_value, binary_value, wider, truth, is_zero, value_of, value_at}
use Rattle.gob_tree.proofs.Folds.{fold-Number, fold-Local, fold-Global, fold-Nondet, fold-Unary, fold-Binary, fold-Call}
use Rattle.gob_tree.proofs.Induct.{by_forms}
use Rattle.interval_dom.specs.declared.cmp.Cmp.{Cmp}
use Rattle.interval_dom.specs.declared.cmp.Cmp.TheVariants.{Lt as Less, Le as AtMost, Gt as Greater, Ge as AtLeast, Eq as Equal, Ne as Unequal}
use Rattle.interval_dom.specs.Bounds.{Bounds, Describes}
use Rattle.interval_dom.specs.Comparisons.{Relates, turned_of, refined}
use Rattle.interval_dom.proofs.Comparing.{opposite-holds, refined-keeps}
use Rattle.state_dom.specs.Evaluation.{Reading, reading_step, reading_of, guarded_form, guarded_binary, compared, refined_by, with_left, value_in, as_wanted, interval_step}
use Rattle.state_dom.specs.Laws.{GuardKeeps}
use Rattle.state_dom.specs.Operators.{may_be, is_surely_zero, lacks_zero, zero_alone}
use Rattle.state_dom.specs.StateValue.{StateValue, Bottom, Reached, room_of, DescribesState}
use Rattle.state_dom.proofs.Evaluating.{evaluation_describes, expr_agrees}
use Rattle.state_dom.proofs.Joining.{joined_left, joined_right}
use Rattle.state_dom.proofs.Narrowing.{expr_narrows, Narrows-trans}
use Rattle.state_dom.proofs.Slots.{slot_described, DescribesEach-refined}
use Rattle.state_dom.proofs.Values.{surely_zero_is, lacks_zero_is, less, not_less, at_most, not_at_most, equal, not_equal, not_true, not_false}

-- ---- what an answer says of the operands

bit_truth : (b : Bool) → not (is_zero (truth b)) ≡ b
bit_truth true = refl
bit_truth false = refl

-- an answer that is a value, and one that is none
abbrev value : ℤ → Result ℤ Demand
value k = Ok k

abbrev failed : Demand → Result ℤ Demand
failed d = Err d

ok_is : (k n : ℤ) → value k ≡ value n → k ≡ n
ok_is k n e = cc

no_value : (d : Demand) (n : ℤ) → failed d ≡ value n → ⊥
no_value d n e = cc

-- the truth of a number that is a bit
truth_is : (b : Bool) (n : ℤ) → truth b ≡ n → not (is_zero n) ≡ b
truth_is b n e = ap (λ (k : ℤ). not (is_zero k)) (sym e) ∙ bit_truth b

not_cases : (w : Width) (r : Result ℤ Demand) (rest : List ℤ) (n : ℤ) (Goal : Type 0) → (on_answer r rest (λ z left. (Ok (unary_value Not w z), left))).0 ≡ Ok n
    → ((z : ℤ) → r ≡ Ok z → not (is_zero n) ≡ is_zero z → Goal) → Goal
not_cases w (Ok z) rest n Goal e go = go z refl (truth_is (is_zero z) n (ok_is (truth (is_zero z)) n e))
not_cases w (Err d) rest n Goal e go = absurd (no_value d n e)

abbrev Numbers : BinOp → Width → (List ℤ → Answer ℤ) → ℤ → List ℤ → Answer ℤ
Numbers op w other z rest = and_then (other rest) (λ m left. (binary_value op w z m, left))

second_case : (op : BinOp) (w : Width) (z : ℤ) (r : Result ℤ Demand) (left : List ℤ) (n : ℤ) (Goal : Type 0) → (on_answer r left (λ m rest. (binary_value op w z m, rest))).0 ≡ Ok n
    → ((k : ℤ) → r ≡ Ok k → binary_value op w z k ≡ Ok n → Goal) → Goal
second_case op w z (Ok k) left n Goal e go = go k refl e
second_case op w z (Err d) left n Goal e go = absurd (no_value d n e)

number_cases : (op : BinOp) (w : Width) (other : List ℤ → Answer ℤ) (r : Result ℤ Demand) (rest : List ℤ) (n : ℤ) (Goal : Type 0) → (on_answer r rest (Numbers op w other)).0 ≡ Ok n
    → ((z k : ℤ) → r ≡ Ok z → (other rest).0 ≡ Ok k → binary_value op w z k ≡ Ok n → Goal) → Goal
number_cases op w other (Ok z) rest n Goal e go = second_case op w z (other rest).0 (other rest).1 n Goal e (λ k. go z k refl)
number_cases op w other (Err d) rest n Goal e go = absurd (no_value d n e)

-- where the left operand decides, and where the right one does
and_decides : (w : Width) (other : List ℤ → Answer ℤ) (z : ℤ) (rest : List ℤ) (n : ℤ) (Goal : Type 0) (t : Bool) → is_zero z ≡ t
    → (decided_or (if t then Some (pos 0) else None) rest (Numbers And w other z rest)).0 ≡ Ok n
    → (is_zero z ≡ true → n ≡ pos 0 → Goal)
    → ((k : ℤ) → is_zero z ≡ false → (other rest).0 ≡ Ok k → not (is_zero n) ≡ not (is_zero k) → Goal) → Goal
and_decides w other z rest n Goal true is e early late = early is (sym (ok_is (pos 0) n e))
and_decides w other z rest n Goal false is e early late =
    second_case And w z (other rest).0 (other rest).1 n Goal e (λ k answered both. late k is answered
    (truth_is (not (is_zero k)) n (ok_is _ n (subst (λ (b : Bool). value (truth (not b && not (is_zero k))) ≡ value n) is both))))

or_decides : (w : Width) (other : List ℤ → Answer ℤ) (z : ℤ) (rest : List ℤ) (n : ℤ) (Goal : Type 0) (t : Bool) → is_zero z ≡ t
    → (decided_or (if t then None else Some (pos 1)) rest (Numbers Or w other z rest)).0 ≡ Ok n
    → (is_zero z ≡ false → n ≡ pos 1 → Goal)
    → ((k : ℤ) → is_zero z ≡ true → (other rest).0 ≡ Ok k → not (is_zero n) ≡ not (is_zero k) → Goal) → Goal
or_decides w other z rest n Goal false is e early late = early is (sym (ok_is (pos 1) n e))
or_decides w other z rest n Goal true is e early late =
    second_case Or w z (other rest).0 (other rest).1 n Goal e (λ k answered both. late k is answered
    (truth_is (not (is_zero k)) n (ok_is _ n (subst (λ (b : Bool). value (truth (not b || not (is_zero k))) ≡ value n) is both))))

and_cases : (w : Width) (other : List ℤ → Answer ℤ) (r : Result ℤ Demand) (rest : List ℤ) (n : ℤ) (Goal : Type 0)
    → (on_answer r rest (λ z left. decided_or (early_value And z) left (Numbers And w other z left))).0 ≡ Ok n
    → ((z : ℤ) → r ≡ Ok z → is_zero z ≡ true → n ≡ pos 0 → Goal)
    → ((z k : ℤ) → r ≡ Ok z → is_zero z ≡ false → (other rest).0 ≡ Ok k → not (is_zero n) ≡ not (is_zero k) → Goal) → Goal
and_cases w other (Ok z) rest n Goal e early late = and_decides w other z rest n Goal (is_zero z) refl e (early z refl) (λ k. late z k refl)
and_cases w other (Err d) rest n Goal e early late = absurd (no_value d n e)

or_cases : (w : Width) (other : List ℤ → Answer ℤ) (r : Result ℤ Demand) (rest : List ℤ) (n : ℤ) (Goal : Type 0)
    → (on_answer r rest (λ z left. decided_or (early_value Or z) left (Numbers Or w other z left))).0 ≡ Ok n
    → ((z : ℤ) → r ≡ Ok z → is_zero z ≡ false → n ≡ pos 1 → Goal)
    → ((z k : ℤ) → r ≡ Ok z → is_zero z ≡ true → (other rest).0 ≡ Ok k → not (is_zero n) ≡ not (is_zero k) → Goal) → Goal
or_cases w other (Ok z) rest n Goal e early late = or_decides w other z rest n Goal (is_zero z) refl e (early z refl) (λ k. late z k refl)
or_cases w other (Err d) rest n Goal e early late = absurd (no_value d n e)

-- ---- comparisons

wanted_relates : (op : Cmp) (wanted b : Bool) (z k : ℤ) → b ≡ wanted → (b ≡ true → Relates op z k) → (b ≡ false → Relates op z k → ⊥) → Relates (as_wanted wanted op) z k
wanted_relates op true b z k same holds fails = holds same
wanted_relates op false b z k same holds fails = opposite-holds op z k (fails same)

turned-relates : (op : Cmp) (z k : ℤ) → Relates op z k → Relates (turned_of op) k z
turned-relates Less z k holds = holds
turned-relates AtMost z k holds = holds
turned-relates Greater z k holds = holds
turned-relates AtLeast z k holds = holds
turned-relates Equal z k holds = sym holds
turned-relates Unequal z k holds = λ same. holds (sym same)

-- an interval with a number of the wanted truth may have it
may_have : (wanted : Bool) (v : Option Bounds) (n : ℤ) → IsSomeAnd v (λ b. Describes b n) → not (is_zero n) ≡ wanted → may_be wanted v ≡ true
may_have wanted None n within truth = absurd within
may_have true (Some v) n within truth = by_test (is_surely_zero v) refl
  where
    by_test : (b : Bool) → is_surely_zero v ≡ b → not b ≡ true
    by_test false e = refl
    by_test true e = absurd (true≢false (sym truth ∙ ap (λ (k : ℤ). not (is_zero k)) (surely_zero_is v n within e)))
may_have false (Some v) n within truth = by_test (lacks_zero v) refl
  where
    by_test : (b : Bool) → lacks_zero v ≡ b → not b ≡ true
    by_test false e = refl
    by_test true e = absurd (lacks_zero_is v n within e (equal n (pos 0) (not_false (is_zero n) truth)))

module _ (slots : List Slot) (values : List ℤ) (owners : List (Option ℕ)) (thread : ℕ) where
  abbrev pub Described : StateValue → Type 0
  Described s = DescribesState slots s values owners thread

  value_there : (e : Expr) (s : StateValue) (n : ℤ) → IsTrue (is_plain (length slots) e) → Described s → value_of e slots values ≡ Ok n → IsSomeAnd (value_in (reading_of slots e).interval s) (λ b. Describes b n)
  value_there e (Bottom room) n plain described is = absurd described
  value_there e (Reached xs locks) n plain described is = evaluation_describes slots xs values e n plain described.0 described.1 is

  -- the number of an operand that is a local
  abbrev pub HoldsLocal : Option ℕ → ℤ → Type 0
  HoldsLocal None z = Unit {0}
  HoldsLocal (Some x) z = (x < length slots) × (value_at values x ≡ z)

  left_keeps : (xs : List Bounds) (locks x : ℕ) (o : Option Bounds) → Described (Reached xs locks) → IsSomeAnd o (λ b. Describes b (value_at values x)) → Described (with_left (Reached xs locks) x o)
  left_keeps xs locks x None described within = absurd within
  left_keeps xs locks x (Some v) described within = (described.0, DescribesEach-refined xs values x v within described.1, described.2)

  slot_keeps : (op : Cmp) (xs : List Bounds) (locks x : ℕ) (other o : Option Bounds) (z k : ℤ) → Described (Reached xs locks) → value_at values x ≡ z → IsSomeAnd o (λ b. Describes b (value_at values x)) → IsSomeAnd other (λ b. Describes b k) → Relates op z k
      → Described (with_left (Reached xs locks) x (option_and_then (λ v. option_and_then (refined op v) other) o))
  slot_keeps op xs locks x other None z k described is own others relates = absurd own
  slot_keeps op xs locks x None (Some v) z k described is own others relates = absurd others
  slot_keeps op xs locks x (Some y) (Some v) z k described is own others relates =
      left_keeps xs locks x (refined op v y) described (refined-keeps op v y (value_at values x) k own others (subst (λ (i : ℤ). Relates op i k) (sym is) relates))

  refined_keeps : (op : Cmp) (local : Option ℕ) (other : Option Bounds) (s : StateValue) (z k : ℤ) → Described s → HoldsLocal local z → IsSomeAnd other (λ b. Describes b k) → Relates op z k → Described (refined_by op local other s)
  refined_keeps op None other s z k described own others relates = described
  refined_keeps op (Some x) other (Bottom room) z k described own others relates = absurd described
  refined_keeps op (Some x) other (Reached xs locks) z k described own others relates =
      slot_keeps op xs locks x other (slice_get xs x) z k described own.1 (slot_described slots xs values x own.0 described.0 described.1).1 others relates

  abbrev pub Keeps : Meaning → Reading → Type 0
  Keeps m r = (wanted : Bool) (s : StateValue) (n : ℤ) → Described s → (m.answer slots values []).0 ≡ Ok n → not (is_zero n) ≡ wanted → Described (r.guarded wanted s)

  -- of a plain expression: its guard keeps, and where it is a local it has the local's number
  abbrev pub ExprKeeps : Expr → Type 0
  ExprKeeps e = IsTrue (is_plain (length slots) e) → Keeps (meaning_of e) (reading_of slots e) × ((z : ℤ) → value_of e slots values ≡ Ok z → HoldsLocal (reading_of slots e).local z)

  compared_keeps : (op : Cmp) (a b : Expr) (s : StateValue) (z k : ℤ) → IsTrue (is_plain (length slots) a) → IsTrue (is_plain (length slots) b) → ExprKeeps a → ExprKeeps b → Described s
      → value_of a slots values ≡ Ok z → value_of b slots values ≡ Ok k → Relates op z k → Described (compared op (reading_of slots a) (reading_of slots b) s)
  compared_keeps op a b s z k plain_a plain_b left right described a_is b_is relates =
      let first = refined_by op (reading_of slots a).local (value_in (reading_of slots b).interval s) s in
      let kept = refined_keeps op (reading_of slots a).local (value_in (reading_of slots b).interval s) s z k described ((left plain_a).1 z a_is) (value_there b s k plain_b described b_is) relates in
      refined_keeps (turned_of op) (reading_of slots b).local (value_in (reading_of slots a).interval first) first k z kept ((right plain_b).1 k b_is) (value_there a first z plain_a kept a_is) (turned-relates op z k relates)

  -- a level of a guard
  level_keeps : (e : Expr) (y : Expr-F Reading) → reading_of slots e ≡ reading_step slots y → IsTrue (is_plain (length slots) e)
      → ((wanted : Bool) (s : StateValue) (n : ℤ) → Described s → value_of e slots values ≡ Ok n → not (is_zero n) ≡ wanted → Described (guarded_form y wanted s))
      → Keeps (meaning_of e) (reading_of slots e)
  level_keeps e y reads plain form wanted s n described is truth =
      let within : IsSomeAnd (value_in (interval_step y) s) (λ b. Describes b n) = subst (λ (r : Reading). IsSomeAnd (value_in r.interval s) (λ b. Describes b n)) reads (value_there e s n plain described is) in
      let may = may_have wanted (value_in (interval_step y) s) n within truth in
      subst (λ (r : Reading). Described (r.guarded wanted s)) (sym reads)
      (cond_both (may_be wanted (value_in (interval_step y) s)) (guarded_form y wanted s) (Bottom (room_of s)) (λ (t : StateValue). Described t) (λ passes. form wanted s n described is truth) (λ fails. absurd (true≢false (sym may ∙ fails))))

  no_local : (e : Expr) (y : Expr-F Reading) → reading_of slots e ≡ reading_step slots y → (reading_step slots y).local ≡ None → (z : ℤ) → HoldsLocal (reading_of slots e).local z
  no_local e y reads none z = subst (λ (o : Option ℕ). HoldsLocal o z) (sym (ap (λ (r : Reading). r.local) reads ∙ none)) tt

  -- ---- each form

  local_keeps : (x : ℕ) → x < length slots → (wanted : Bool) (s : StateValue) (n : ℤ) → Described s → value_at values x ≡ n → not (is_zero n) ≡ wanted → Described (refined_by (as_wanted wanted Unequal) (Some x) (Some zero_alone) s)
  local_keeps x within wanted s n described is truth =
      refined_keeps (as_wanted wanted Unequal) (Some x) (Some zero_alone) s n (pos 0) described (within, is) (omega (arith, ints), omega (arith, ints))
      (wanted_relates Unequal wanted (not (is_zero n)) n (pos 0) truth (λ e. not_equal n (pos 0) (not_true (is_zero n) e)) (λ e other. other (equal n (pos 0) (not_false (is_zero n) e))))

  -- a plain operand takes no inputs
  no_inputs : (e : Expr) (s : StateValue) → IsTrue (is_plain (length slots) e) → Described s → ((meaning_of e).answer slots values []).1 ≡ []
  no_inputs e (Bottom room) plain described = absurd described
  no_inputs e (Reached xs locks) plain described = ((expr_agrees slots xs values described.0 described.1 e plain).1 []).0

  other_is : (e : Expr) (k : ℤ) (rest : List ℤ) → rest ≡ [] → ((meaning_of e).answer slots values rest).0 ≡ Ok k → value_of e slots values ≡ Ok k
  other_is e k rest none is = subst (λ (ins : List ℤ). ((meaning_of e).answer slots values ins).0 ≡ Ok k) none is

  not_keeps : (w : Width) (a : Expr) → Keeps (meaning_of a) (reading_of slots a) → (wanted : Bool) (s : StateValue) (n : ℤ) → Described s
      → (on_answer ((meaning_of a).answer slots values []).0 ((meaning_of a).answer slots values []).1 (λ z left. (Ok (unary_value Not w z), left))).0 ≡ Ok n → not (is_zero n) ≡ wanted
      → Described ((reading_of slots a).guarded (not wanted) s)
  not_keeps w a keeps wanted s n described is truth =
      not_cases w ((meaning_of a).answer slots values []).0 ((meaning_of a).answer slots values []).1 n (Described ((reading_of slots a).guarded (not wanted) s)) is
      (λ z answered both. keeps (not wanted) s z described answered (ap not (sym both ∙ truth)))

  -- the answer of a binary operator with no inputs
  abbrev Both : BinOp → Width → Expr → Expr → Result ℤ Demand
  Both op w a b = (on_answer ((meaning_of a).answer slots values []).0 ((meaning_of a).answer slots values []).1 (λ z left. decided_or (early_value op z) left (Numbers op w ((meaning_of b).answer slots values) z left))).0

  comparison_keeps : (op : BinOp) (cmp : Cmp) (test : ℤ → ℤ → Bool) (w : Width) (a b : Expr) → IsTrue (is_plain (length slots) a) → IsTrue (is_plain (length slots) b) → ExprKeeps a → ExprKeeps b
      → ((z k : ℤ) → binary_value op w z k ≡ value (truth (test z k)))
      → ((z k : ℤ) → test z k ≡ true → Relates cmp z k) → ((z k : ℤ) → test z k ≡ false → Relates cmp z k → ⊥)
      → (wanted : Bool) (s : StateValue) (n : ℤ) → Described s
      → (on_answer ((meaning_of a).answer slots values []).0 ((meaning_of a).answer slots values []).1 (Numbers op w ((meaning_of b).answer slots values))).0 ≡ Ok n → not (is_zero n) ≡ wanted
      → Described (compared (as_wanted wanted cmp) (reading_of slots a) (reading_of slots b) s)
  comparison_keeps op cmp test w a b plain_a plain_b left right meant holds fails wanted s n described is known =
      let none = no_inputs a s plain_a described in
      number_cases op w ((meaning_of b).answer slots values) ((meaning_of a).answer slots values []).0 ((meaning_of a).answer slots values []).1 n (Described (compared (as_wanted wanted cmp) (reading_of slots a) (reading_of slots b) s)) is
      (λ z k a_is b_is both. compared_keeps (as_wanted wanted cmp) a b s z k plain_a plain_b left right described a_is (other_is b k _ none b_is)
      (wanted_relates cmp wanted (test z k) z k (sym (truth_is (test z k) n (ok_is (truth (test z k)) n (sym (meant z k) ∙ both))) ∙ known) (holds z k) (fails z k)))

  and_keeps : (w : Width) (a b : Expr) → IsTrue (is_plain (length slots) a) → Keeps (meaning_of a) (reading_of slots a) → Keeps (meaning_of b) (reading_of slots b) → (wanted : Bool) (s : StateValue) (n : ℤ) → Described s
      → Both And w a b ≡ Ok n → not (is_zero n) ≡ wanted → Described (guarded_binary And (reading_of slots a) (reading_of slots b) wanted s)
  and_keeps w a b plain left right true s n described is truth =
      and_cases w ((meaning_of b).answer slots values) ((meaning_of a).answer slots values []).0 ((meaning_of a).answer slots values []).1 n _ is
      (λ z a_is zero nothing. absurd (true≢false (sym truth ∙ ap (λ (k : ℤ). not (is_zero k)) nothing)))
      (λ z k a_is other b_is both. right true _ k (left true s z described a_is (ap not other)) (other_is b k _ (no_inputs a s plain described) b_is) (sym both ∙ truth))
  and_keeps w a b plain left right false s n described is truth =
      let narrow_left = expr_narrows slots a false s in
      let narrow_right = Narrows-trans s _ _ (expr_narrows slots a true s) (expr_narrows slots b false ((reading_of slots a).guarded true s)) in
      and_cases w ((meaning_of b).answer slots values) ((meaning_of a).answer slots values []).0 ((meaning_of a).answer slots values []).1 n _ is
      (λ z a_is zero nothing. joined_left slots s _ _ values owners thread narrow_left narrow_right (left false s z described a_is (ap not zero)))
      (λ z k a_is other b_is both. joined_right slots s _ _ values owners thread narrow_left narrow_right
      (right false _ k (left true s z described a_is (ap not other)) (other_is b k _ (no_inputs a s plain described) b_is) (sym both ∙ truth)))

  or_keeps : (w : Width) (a b : Expr) → IsTrue (is_plain (length slots) a) → Keeps (meaning_of a) (reading_of slots a) → Keeps (meaning_of b) (reading_of slots b) → (wanted : Bool) (s : StateValue) (n : ℤ) → Described s
      → Both Or w a b ≡ Ok n → not (is_zero n) ≡ wanted → Described (guarded_binary Or (reading_of slots a) (reading_of slots b) wanted s)
  or_keeps w a b plain left right false s n described is truth =
      or_cases w ((meaning_of b).answer slots values) ((meaning_of a).answer slots values []).0 ((meaning_of a).answer slots values []).1 n _ is
      (λ z a_is other one. absurd (true≢false (sym (ap (λ (k : ℤ). not (is_zero k)) one) ∙ truth)))
      (λ z k a_is zero b_is both. right false _ k (left false s z described a_is (ap not zero)) (other_is b k _ (no_inputs a s plain described) b_is) (sym both ∙ truth))
  or_keeps w a b plain left right true s n described is truth =
      let narrow_left = expr_narrows slots a true s in
      let narrow_right = Narrows-trans s _ _ (expr_narrows slots a false s) (expr_narrows slots b true ((reading_of slots a).guarded false s)) in
      or_cases w ((meaning_of b).answer slots values) ((meaning_of a).answer slots values []).0 ((meaning_of a).answer slots values []).1 n _ is
      (λ z a_is other one. joined_left slots s _ _ values owners thread narrow_left narrow_right (left true s z described a_is (ap not other)))
      (λ z k a_is zero b_is both. joined_right slots s _ _ values owners thread narrow_left narrow_right
      (right true _ k (left false s z described a_is (ap not zero)) (other_is b k _ (no_inputs a s plain described) b_is) (sym both ∙ truth)))

  binary_keeps : (op : BinOp) (w : Width) (a b : Expr) → IsTrue (is_plain (length slots) a) → IsTrue (is_plain (length slots) b) → ExprKeeps a → ExprKeeps b → (wanted : Bool) (s : StateValue) (n : ℤ) → Described s
      → Both op w a b ≡ Ok n → not (is_zero n) ≡ wanted → Described (guarded_binary op (reading_of slots a) (reading_of slots b) wanted s)
  binary_keeps Add w a b plain_a plain_b left right wanted s n described is truth = described
  binary_keeps Sub w a b plain_a plain_b left right wanted s n described is truth = described
  binary_keeps Mul w a b plain_a plain_b left right wanted s n described is truth = described
  binary_keeps Div w a b plain_a plain_b left right wanted s n described is truth = described
  binary_keeps Rem w a b plain_a plain_b left right wanted s n described is truth = described
  binary_keeps Lt w a b plain_a plain_b left right wanted s n described is truth = comparison_keeps Lt Less int_lt w a b plain_a plain_b left right (λ z k. refl) less not_less wanted s n described is truth
  binary_keeps Le w a b plain_a plain_b left right wanted s n described is truth = comparison_keeps Le AtMost int_le w a b plain_a plain_b left right (λ z k. refl) at_most not_at_most wanted s n described is truth
  binary_keeps Gt w a b plain_a plain_b left right wanted s n described is truth = comparison_keeps Gt Greater (λ z k. int_lt k z) w a b plain_a plain_b left right (λ z k. refl) (λ z k. less k z) (λ z k. not_less k z) wanted s n described is truth
  binary_keeps Ge w a b plain_a plain_b left right wanted s n described is truth = comparison_keeps Ge AtLeast (λ z k. int_le k z) w a b plain_a plain_b left right (λ z k. refl) (λ z k. at_most k z) (λ z k. not_at_most k z) wanted s n described is truth
  binary_keeps Eq w a b plain_a plain_b left right wanted s n described is truth = comparison_keeps Eq Equal int_eq w a b plain_a plain_b left right (λ z k. refl) equal not_equal wanted s n described is truth
  binary_keeps Ne w a b plain_a plain_b left right wanted s n described is truth =
      comparison_keeps Ne Unequal (λ z k. not (int_eq z k)) w a b plain_a plain_b left right (λ z k. refl) (λ z k e. not_equal z k (not_true (int_eq z k) e)) (λ z k e other. other (equal z k (not_false (int_eq z k) e))) wanted s n described is truth
  binary_keeps And w a b plain_a plain_b left right wanted s n described is truth = and_keeps w a b plain_a (left plain_a).0 (right plain_b).0 wanted s n described is truth
  binary_keeps Or w a b plain_a plain_b left right wanted s n described is truth = or_keeps w a b plain_a (left plain_a).0 (right plain_b).0 wanted s n described is truth

  -- ---- expressions

  is_below : (x k : ℕ) → nat_lt x k ≡ true → x < k
  is_below x k e = grind arith

  answer_of : (e : Expr) (m : Meaning) (n : ℤ) → meaning_of e ≡ m → value_of e slots values ≡ Ok n → (m.answer slots values []).0 ≡ Ok n
  answer_of e m n means is = subst (λ (z : Meaning). (z.answer slots values []).0 ≡ Ok n) means is

  unary_form : (op : UnOp) (a : Expr) → Keeps (meaning_of a) (reading_of slots a) → (wanted : Bool) (s : StateValue) (n : ℤ) → Described s
      → ((meaning_step (Expr-F.Unary op (meaning_of a))).answer slots values []).0 ≡ Ok n → not (is_zero n) ≡ wanted → Described (guarded_form (Expr-F.Unary op (reading_of slots a)) wanted s)
  unary_form Neg a keeps wanted s n described is truth = described
  unary_form Not a keeps wanted s n described is truth = not_keeps ((meaning_of a).width slots) a keeps wanted s n described is truth

  pub expr_keeps : (e : Expr) → ExprKeeps e
  expr_keeps = by_forms ExprKeeps
      (λ n w plain. (
        level_keeps (Number n w) (Expr-F.Number n w) (fold-Number Reading (reading_step slots) n w) plain (λ wanted s k described is truth. described),
        λ z is. no_local (Number n w) (Expr-F.Number n w) (fold-Number Reading (reading_step slots) n w) refl z,
      ))
      (λ x plain. let below = is_below x (length slots) (sym (fold-Local Bool (plain_step (length slots)) x) ∙ plain) in (
        level_keeps (Local x) (Expr-F.Local x) (fold-Local Reading (reading_step slots) x) plain
            (λ wanted s n described is truth. local_keeps x below wanted s n described (ok_is (value_at values x) n (answer_of (Local x) (meaning_step (Expr-F.Local x)) n (fold-Local Meaning meaning_step x) is)) truth),
        λ z is. subst (λ (r : Reading). HoldsLocal r.local z) (sym (fold-Local Reading (reading_step slots) x)) (below, ok_is (value_at values x) z (answer_of (Local x) (meaning_step (Expr-F.Local x)) z (fold-Local Meaning meaning_step x) is)),
      ))
      (λ g w plain. absurd (true≢false (sym plain ∙ fold-Global Bool (plain_step (length slots)) g w)))
      (λ w plain. absurd (true≢false (sym plain ∙ fold-Nondet Bool (plain_step (length slots)) w)))
      (λ op a keeps plain. let inner = sym (fold-Unary Bool (plain_step (length slots)) op a) ∙ plain in (
        level_keeps (Unary op a) (Expr-F.Unary op (reading_of slots a)) (fold-Unary Reading (reading_step slots) op a) plain
            (λ wanted s n described is truth. unary_form op a (keeps inner).0 wanted s n described (answer_of (Unary op a) (meaning_step (Expr-F.Unary op (meaning_of a))) n (fold-Unary Meaning meaning_step op a) is) truth),
        λ z is. no_local (Unary op a) (Expr-F.Unary op (reading_of slots a)) (fold-Unary Reading (reading_step slots) op a) refl z,
      ))
      (λ op a b left right plain. let both = and_parts (is_plain (length slots) a) (is_plain (length slots) b) (sym (fold-Binary Bool (plain_step (length slots)) op a b) ∙ plain) in (
        level_keeps (Binary op a b) (Expr-F.Binary op (reading_of slots a) (reading_of slots b)) (fold-Binary Reading (reading_step slots) op a b) plain
            (λ wanted s n described is truth. binary_keeps op (wider ((meaning_of a).width slots) ((meaning_of b).width slots)) a b both.0 both.1 left right wanted s n described
            (answer_of (Binary op a b) (meaning_step (Expr-F.Binary op (meaning_of a) (meaning_of b))) n (fold-Binary Meaning meaning_step op a b) is) truth),
        λ z is. no_local (Binary op a b) (Expr-F.Binary op (reading_of slots a) (reading_of slots b)) (fold-Binary Reading (reading_step slots) op a b) refl z,
      ))
      (λ f w args each plain. absurd (true≢false (sym plain ∙ fold-Call Bool (plain_step (length slots)) f w args)))

pub guard_keeps : GuardKeeps
guard_keeps slots s values owners thread e wanted n plain described is truth = (expr_keeps slots values owners thread e plain).0 wanted s n described is truth
