-- More inputs behind change no answer that is final; an answer that lacks an input took all that
-- were there.
use Rattle.std.proofs.Common.{◌≡◌, ◌≢◌, refl, sym, ap, ◌∙◌, subst, ℤ, List, [], ◌∷◌, ◌++◌, map, Option, None, Some, Result, Ok, Err, Bool, true, false}
use Rattle.std.specs.Prelude.{if◌then◌else◌, int_div, int_rem}
use Rattle.gob_tree.specs.declared.expr.Width.{Width}
use Rattle.gob_tree.specs.declared.expr.BinOp.{BinOp}
use Rattle.gob_tree.specs.declared.expr.BinOp.TheVariants.{Add, Sub, Mul, Div, Rem, Lt, Le, Gt, Ge, Eq, Ne, And, Or}
use Rattle.gob_tree.specs.declared.expr.Expr.{Expr}
use Rattle.gob_tree.specs.declared.unit.Slot.{Slot}
use Rattle.c_meaning.specs.declared.demand.Demand.{Demand}
use Rattle.c_meaning.specs.declared.demand.Demand.TheVariants.{Global, Nondet, Call, Fault}
use Rattle.c_meaning.specs.Demand.{Answer, on_answer, and_then, next_input, decided_or, early_value, unary_value, binary_value, quotient_or_fault, is_zero, conversion, value_at, wider, Meaning, meaning_step, meaning_of, answers_of}
use Rattle.c_meaning.specs.Laws.{IsFinal, FinalStays, MissingTakesAll}
use Rattle.gob_tree.proofs.Folds.{fold-Number, fold-Local, fold-Global, fold-Nondet, fold-Unary, fold-Binary, fold-Call}
use Rattle.gob_tree.proofs.Induct.{Each, by_forms}

-- an evaluation whose final answers stay
abbrev Stays : {A : Type 0} → (List ℤ → Answer A) → Type 0
Stays m = (ins more : List ℤ) → IsFinal (m ins).0 → m (ins ++ more) ≡ ((m ins).0, (m ins).1 ++ more)

then_stays : {A B : Type 0} (m : List ℤ → Answer A) (k : A → List ℤ → Answer B) → Stays m → ((n : A) → Stays (k n)) → Stays (λ ins. and_then (m ins) k)
then_stays {A} {B} m k sm sk ins more f = go (m ins).0 (m ins).1 (m (ins ++ more)) (sm ins more) f
  where
    go : (r : Result A Demand) (rest : List ℤ) (b : Answer A) → (IsFinal r → b ≡ (r, rest ++ more)) → IsFinal (on_answer r rest k).0 → and_then b k ≡ ((on_answer r rest k).0, (on_answer r rest k).1 ++ more)
    go (Ok n) rest b h g = ap (λ (z : Answer A). and_then z k) (h tt) ∙ sk n rest more g
    go (Err d) rest b h g = ap (λ (z : Answer A). and_then z k) (h g)

next_stays : (d : Demand) → (d ≡ Fault → ⊥) → Stays (next_input d)
next_stays d n [] more f = absurd (n f)
next_stays d n (i ∷ ins) more f = refl

decided_stays : (o : Option ℤ) (m : List ℤ → Answer ℤ) → Stays m → Stays (λ ins. decided_or o ins (m ins))
decided_stays None m sm = sm
decided_stays (Some v) m sm = λ ins more f. refl

abbrev MeaningStays : Meaning → Type 0
MeaningStays m = (slots : List Slot) (values : List ℤ) → Stays (m.answer slots values)

abbrev ExprStays : Expr → Type 0
ExprStays e = MeaningStays (meaning_of e)

all_stay : (args : List Expr) → Each ExprStays args → (slots : List Slot) (values : List ℤ) → Stays (answers_of (map meaning_of args) slots values)
all_stay [] all slots values = λ ins more f. refl
all_stay (e ∷ es) all slots values =
    then_stays ((meaning_of e).answer slots values) (λ n rest. and_then (answers_of (map meaning_of es) slots values rest) (λ ns rest'. (Ok (n ∷ ns), rest')))
    (all.0 slots values)
    (λ n. then_stays (answers_of (map meaning_of es) slots values) (λ ns rest'. (Ok (n ∷ ns), rest')) (all_stay es all.1 slots values) (λ ns ins more f. refl))

expr_stays : (e : Expr) → ExprStays e
expr_stays = by_forms ExprStays
    (λ n w. subst MeaningStays (sym (fold-Number Meaning meaning_step n w)) (λ slots values ins more f. refl))
    (λ x. subst MeaningStays (sym (fold-Local Meaning meaning_step x)) (λ slots values ins more f. refl))
    (λ g w. subst MeaningStays (sym (fold-Global Meaning meaning_step g w)) (λ slots values. next_stays (Global g) (λ e. cc)))
    (λ w. subst MeaningStays (sym (fold-Nondet Meaning meaning_step w)) (λ slots values. next_stays (Nondet w) (λ e. cc)))
    (λ op a sa. subst MeaningStays (sym (fold-Unary Meaning meaning_step op a))
    (λ slots values. then_stays ((meaning_of a).answer slots values) (λ n rest. (Ok (unary_value op ((meaning_of a).width slots) n), rest)) (sa slots values) (λ n ins more f. refl)))
    (λ op a b sa sb. subst MeaningStays (sym (fold-Binary Meaning meaning_step op a b))
    (λ slots values. then_stays ((meaning_of a).answer slots values)
    (λ n rest. decided_or (early_value op n) rest (and_then ((meaning_of b).answer slots values rest) (λ m rest'. (binary_value op (wider ((meaning_of a).width slots) ((meaning_of b).width slots)) n m, rest'))))
    (sa slots values)
    (λ n. decided_stays (early_value op n) _ (then_stays ((meaning_of b).answer slots values) (λ m rest'. (binary_value op (wider ((meaning_of a).width slots) ((meaning_of b).width slots)) n m, rest')) (sb slots values) (λ m ins more f. refl)))))
    (λ g w args all. subst MeaningStays (sym (fold-Call Meaning meaning_step g w args))
    (λ slots values. then_stays (answers_of (map meaning_of args) slots values) (λ ns rest. next_input (Call g ns) rest) (all_stay args all slots values) (λ ns. next_stays (Call g ns) (λ e. cc))))

pub final_answers_stay : FinalStays
final_answers_stay e slots values = expr_stays e slots values

-- ---- what is missing

-- an evaluation that takes all inputs where it lacks one
abbrev Takes : {A : Type 0} → (List ℤ → Answer A) → Type 0
Takes m = (ins : List ℤ) (missing : Demand) → (m ins).0 ≡ Err missing → missing ≢ Fault → (m ins).1 ≡ []

then_takes : {A B : Type 0} (m : List ℤ → Answer A) (k : A → List ℤ → Answer B) → Takes m → ((n : A) → Takes (k n)) → Takes (λ ins. and_then (m ins) k)
then_takes {A} {B} m k tm tk ins missing e n = go (m ins).0 (m ins).1 (λ q. tm ins missing q n) e
  where
    go : (r : Result A Demand) (rest : List ℤ) → (r ≡ Err missing → rest ≡ []) → (on_answer r rest k).0 ≡ Err missing → (on_answer r rest k).1 ≡ []
    go (Ok v) rest h q = tk v rest missing q n
    go (Err d) rest h q = h (let same : d ≡ missing = cc in ap Err same)

next_takes : (d : Demand) → Takes (next_input d)
next_takes d [] missing e n = refl
next_takes d (i ∷ ins) missing e n = cc

decided_takes : (o : Option ℤ) (m : List ℤ → Answer ℤ) → Takes m → Takes (λ ins. decided_or o ins (m ins))
decided_takes None m tm = tm
decided_takes (Some v) m tm = λ ins missing e n. cc

-- only a division or a remainder by zero has no value
quotient_faults : (f : ℤ → ℤ → ℤ) (w : Width) (n m : ℤ) (missing : Demand) → quotient_or_fault f w n m ≡ Err missing → missing ≡ Fault
quotient_faults f w n m missing e = go (is_zero m) e
  where
    go : (b : Bool) → ◌≡◌ {A = Result ℤ Demand} (if b then Err Fault else Ok (conversion w (f n m))) (Err missing) → missing ≡ Fault
    go true q = cc
    go false q = cc

operator_faults : (op : BinOp) (w : Width) (n m : ℤ) (missing : Demand) → binary_value op w n m ≡ Err missing → missing ≡ Fault
operator_faults Add w n m missing e = cc
operator_faults Sub w n m missing e = cc
operator_faults Mul w n m missing e = cc
operator_faults Div w n m missing e = quotient_faults int_div w n m missing e
operator_faults Rem w n m missing e = quotient_faults int_rem w n m missing e
operator_faults Lt w n m missing e = cc
operator_faults Le w n m missing e = cc
operator_faults Gt w n m missing e = cc
operator_faults Ge w n m missing e = cc
operator_faults Eq w n m missing e = cc
operator_faults Ne w n m missing e = cc
operator_faults And w n m missing e = cc
operator_faults Or w n m missing e = cc

operator_takes : (op : BinOp) (w : Width) (n m : ℤ) → Takes (λ rest. (binary_value op w n m, rest))
operator_takes op w n m ins missing e apart = absurd (apart (operator_faults op w n m missing e))

value_takes : {A : Type 0} (v : A) → Takes (λ rest. (Ok v, rest))
value_takes v ins missing e n = cc

abbrev MeaningTakes : Meaning → Type 0
MeaningTakes m = (slots : List Slot) (values : List ℤ) → Takes (m.answer slots values)

abbrev ExprTakes : Expr → Type 0
ExprTakes e = MeaningTakes (meaning_of e)

all_take : (args : List Expr) → Each ExprTakes args → (slots : List Slot) (values : List ℤ) → Takes (answers_of (map meaning_of args) slots values)
all_take [] all slots values = value_takes []
all_take (e ∷ es) all slots values =
    then_takes ((meaning_of e).answer slots values) (λ n rest. and_then (answers_of (map meaning_of es) slots values rest) (λ ns rest'. (Ok (n ∷ ns), rest')))
    (all.0 slots values)
    (λ n. then_takes (answers_of (map meaning_of es) slots values) (λ ns rest'. (Ok (n ∷ ns), rest')) (all_take es all.1 slots values) (λ ns. value_takes (n ∷ ns)))

expr_takes : (e : Expr) → ExprTakes e
expr_takes = by_forms ExprTakes
    (λ n w. subst MeaningTakes (sym (fold-Number Meaning meaning_step n w)) (λ slots values. value_takes n))
    (λ x. subst MeaningTakes (sym (fold-Local Meaning meaning_step x)) (λ slots values. value_takes (value_at values x)))
    (λ g w. subst MeaningTakes (sym (fold-Global Meaning meaning_step g w)) (λ slots values. next_takes (Global g)))
    (λ w. subst MeaningTakes (sym (fold-Nondet Meaning meaning_step w)) (λ slots values. next_takes (Nondet w)))
    (λ op a ta. subst MeaningTakes (sym (fold-Unary Meaning meaning_step op a))
    (λ slots values. then_takes ((meaning_of a).answer slots values) (λ n rest. (Ok (unary_value op ((meaning_of a).width slots) n), rest)) (ta slots values) (λ n. value_takes (unary_value op ((meaning_of a).width slots) n))))
    (λ op a b ta tb. subst MeaningTakes (sym (fold-Binary Meaning meaning_step op a b))
    (λ slots values. then_takes ((meaning_of a).answer slots values)
    (λ n rest. decided_or (early_value op n) rest (and_then ((meaning_of b).answer slots values rest) (λ m rest'. (binary_value op (wider ((meaning_of a).width slots) ((meaning_of b).width slots)) n m, rest'))))
    (ta slots values)
    (λ n. decided_takes (early_value op n) _ (then_takes ((meaning_of b).answer slots values) (λ m rest'. (binary_value op (wider ((meaning_of a).width slots) ((meaning_of b).width slots)) n m, rest')) (tb slots values) (λ m. operator_takes op (wider ((meaning_of a).width slots) ((meaning_of b).width slots)) n m)))))
    (λ g w args all. subst MeaningTakes (sym (fold-Call Meaning meaning_step g w args))
    (λ slots values. then_takes (answers_of (map meaning_of args) slots values) (λ ns rest. next_input (Call g ns) rest) (all_take args all slots values) (λ ns. next_takes (Call g ns))))

pub missing_takes_all : MissingTakesAll
missing_takes_all e slots values = expr_takes e slots values
