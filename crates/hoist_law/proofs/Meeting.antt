-- Hoisting meets demand.
use Rattle.std.proofs.Common.{◌≡◌, ◌⊎◌, inl, inr, ◌∙◌, refl, sym, ap, subst, ℕ, zero, suc, ◌<◌, ℤ, Bool, true, false, List, [], ◌∷◌, ◌++◌, length, map, take, Option, None, Some, Result, Ok, Err, arith, append_assoc}
use Rattle.std.specs.Prelude.{if◌then◌else◌, int_div, int_rem, slice_set}
use Rattle.gob_tree.specs.declared.place.Place.{Place}
use Rattle.gob_tree.specs.declared.expr.BinOp.{BinOp}
use Rattle.gob_tree.specs.declared.expr.BinOp.TheVariants.{Add, Sub, Mul, Div, Rem, Lt, Le, Gt, Ge, Eq, Ne, And, Or}
use Rattle.gob_tree.specs.declared.expr.UnOp.{UnOp}
use Rattle.gob_tree.specs.declared.expr.Expr.{Expr, Number, Local, Unary, Binary}
use Rattle.gob_tree.specs.declared.expr.Expr.TheOpen.{Expr-F}
use Rattle.gob_tree.specs.declared.expr.Width.{Width}
use Rattle.gob_tree.specs.declared.graph.Action.{Action}
use Rattle.gob_tree.specs.declared.graph.Action.TheVariants as actions
use Rattle.gob_tree.specs.declared.unit.Function.{Function}
use Rattle.gob_tree.specs.declared.unit.Slot.{Slot}
use Rattle.gob_tree.proofs.Folds.{fold-Number, fold-Local, fold-Unary, fold-Binary}
use Rattle.gob_tree.proofs.Induct.{Each}
use Rattle.c_meaning.specs.declared.demand.Demand.{Demand}
use Rattle.c_meaning.specs.declared.demand.Demand.TheVariants.{Global, Nondet, Call, Fault}
use Rattle.c_meaning.specs.Demand.{Answer, Meaning, and_then, answers_of, conversion, binary_value, binary_width, decided_or, demand_of, early_value, is_zero, meaning_of, meaning_step, next_input, on_answer, quotient_or_fault, slot_width, unary_value, unary_width, value_at, wider, width_of}
use Rattle.c_meaning.specs.Graph.{HoistState, Hoisting, fetch, flow_of, graph_slots, hoist_all, hoisting_step, strict_join, temp_slot, temporary}
use Rattle.c_meaning.specs.Walk.{Moment}
use Rattle.graph_law.proofs.Decoding.{width_more}
use Rattle.graph_law.proofs.Extending.{HoistExtends, all_extend, fetch_extends}
use Rattle.graph_law.proofs.Widening.{HoistGrew, all_grew, fetch_grew}
use Rattle.hoist_law.specs.Along.{Along, stays, silently, takes}
use Rattle.hoist_law.specs.Hoisting.{WaitsFor, Within}
use Rattle.hoist_law.proofs.Agreeing.{Agree, AreThere, HasValue, IsIn, agree_less, agree_same, agree_then}
use Rattle.hoist_law.proofs.Fetching.{Fetched, fetch_fetched, within_before}

-- ---- ways

pub along_then : (f : Function) (first second : List ℤ) (a b c : Moment) → Along f first a b → Along f second b c → Along f (first ++ second) a c
along_then f _ second _ _ c (stays m) rest = rest
along_then f _ second _ _ c (silently m mid last ins e done way) rest = silently m mid c (ins ++ second) e done (along_then f ins second mid last c way rest)
along_then f _ second _ _ c (takes m mid last n ins none taken way) rest = takes m mid c n (ins ++ second) none taken (along_then f ins second mid last c way rest)

-- ---- what meets what

value_take : (n x : ℕ) (values : List ℤ) → x < n → value_at (take n values) x ≡ value_at values x
value_take zero x values below = absurd (omega (arith, below))
value_take (suc n) x [] below = refl
value_take (suc n) zero (v ∷ values) below = refl
value_take (suc n) (suc x) (v ∷ values) below = value_take n x values (omega (arith, below))

-- an operator on two numbers gives one, or a fault
abbrev IsSafe : Result ℤ Demand → Type 0
IsSafe (Ok v) = Unit {0}
IsSafe (Err d) = d ≡ Fault

quotient_safe : (g : ℤ → ℤ → ℤ) (w : Width) (n m : ℤ) → IsSafe (quotient_or_fault g w n m)
quotient_safe g w n m = go (is_zero m)
  where
    go : (b : Bool) → IsSafe (if b then Err Fault else Ok (conversion w (g n m)))
    go true = refl
    go false = tt

binary_safe : (op : BinOp) (w : Width) (n m : ℤ) → IsSafe (binary_value op w n m)
binary_safe Add w n m = tt
binary_safe Sub w n m = tt
binary_safe Mul w n m = tt
binary_safe Div w n m = quotient_safe int_div w n m
binary_safe Rem w n m = quotient_safe int_rem w n m
binary_safe Lt w n m = tt
binary_safe Le w n m = tt
binary_safe Gt w n m = tt
binary_safe Ge w n m = tt
binary_safe Eq w n m = tt
binary_safe Ne w n m = tt
binary_safe And w n m = tt
binary_safe Or w n m = tt

unary_wide : (op : UnOp) (e : Expr) (slots : List Slot) → width_of (Unary op e) slots ≡ unary_width op (width_of e slots)
unary_wide op e slots = ap (λ (m : Meaning). m.width slots) (fold-Unary Meaning meaning_step op e)

unary_answer : (op : UnOp) (e : Expr) (slots : List Slot) (values : List ℤ) (n : ℤ) → demand_of e slots values [] ≡ (Ok n, []) → demand_of (Unary op e) slots values [] ≡ (Ok (unary_value op (width_of e slots) n), [])
unary_answer op e slots values n is =
    ap (λ (m : Meaning). m.answer slots values []) (fold-Unary Meaning meaning_step op e)
    ∙ ap (λ (a : Answer ℤ). and_then a (λ k rest. (Ok (unary_value op (width_of e slots) k), rest))) is

binary_wide : (op : BinOp) (a b : Expr) (slots : List Slot) → width_of (Binary op a b) slots ≡ binary_width op (width_of a slots) (width_of b slots)
binary_wide op a b slots = ap (λ (m : Meaning). m.width slots) (fold-Binary Meaning meaning_step op a b)

abbrev right_of : BinOp → Width → ℤ → (List ℤ → Answer ℤ) → List ℤ → Answer ℤ
right_of op w n other rest = decided_or (early_value op n) rest (and_then (other rest) (λ m rest'. (binary_value op w n m, rest')))

pub binary_answer : (op : BinOp) (a b : Expr) (slots : List Slot) (values : List ℤ) (n : ℤ) → demand_of a slots values [] ≡ (Ok n, [])
    → demand_of (Binary op a b) slots values [] ≡ right_of op (wider (width_of a slots) (width_of b slots)) n (demand_of b slots values) []
binary_answer op a b slots values n is =
    ap (λ (m : Meaning). m.answer slots values []) (fold-Binary Meaning meaning_step op a b)
    ∙ ap (λ (x : Answer ℤ). and_then x (λ k rest. right_of op (wider (width_of a slots) (width_of b slots)) k (demand_of b slots values) rest)) is

module _ (f : Function) where
  abbrev pub N : ℕ
  N = length f.slots

  abbrev pub at : ℕ → List ℤ → Moment
  at node values = record { node = node; slots = values }

  -- all inputs lead to a node from which the missing one is got
  abbrev pub Lacks : HoistState → Demand → List ℤ → List ℤ → Type 0
  Lacks s d values ins = (node : ℕ) × (new : List ℤ) × Along f ins (at s.at values) (at node new) × Agree N s.taken values new × WaitsFor f d node new

  -- some inputs lead to where the hoisting ends, and there this holds of the values
  abbrev pub Arrives : HoistState → ℕ → List ℤ → List ℤ → List ℤ → (List ℤ → Type 0) → Type 0
  Arrives s node values ins rest Holds = (used : List ℤ) × (new : List ℤ) × (ins ≡ used ++ rest) × Along f used (at s.at values) (at node new) × Agree N s.taken values new × Holds new

  -- by an answer: it arrives with the value, lacks what is missing, or there is a fault
  abbrev pub Runs : {A : Type 0} → HoistState → ℕ → List ℤ → List ℤ → (A → List ℤ → Type 0) → Result A Demand → List ℤ → Type 0
  Runs s node values ins Holds (Ok v) rest = Arrives s node values ins rest (Holds v)
  Runs s node values ins Holds (Err d) rest = (d ≡ Fault) ⊎ Lacks s d values ins

  abbrev pub Has : List ℕ → Expr → ℤ → List ℤ → Type 0
  Has ks e v values = HasValue (graph_slots f) N ks e values v

  pub record Hoists (m : Meaning) (h : Hoisting) (place : Place) (s : HoistState) : Type 0 where
    pub wide : width_of (h.hoist place s).0 (graph_slots f) ≡ m.width f.slots
    pub kept : (k : ℕ) → IsIn k s.taken → IsIn k (h.hoist place s).1.taken
    pub there : AreThere (h.hoist place s).1
    pub runs : (values ins : List ℤ) → length values ≡ length (graph_slots f)
        → Runs s (h.hoist place s).1.at values ins (Has (h.hoist place s).1.taken (h.hoist place s).0) (m.answer f.slots (take N values) ins).0 (m.answer f.slots (take N values) ins).1

  abbrev pub Meets : Meaning → Hoisting → Type 0
  Meets m h = (place : Place) (s : HoistState) → s.flow.named ≡ N → AreThere s → Within f (h.hoist place s).1.flow → Hoists m h place s

  -- ---- numbers and locals

  stay : (s : HoistState) (values ins : List ℤ) (Holds : List ℤ → Type 0) → Holds values → Arrives s s.at values ins ins Holds
  stay s values ins Holds holds = ([], values, refl, stays (at s.at values), agree_same N s.taken values, holds)

  pub number_meets : (n : ℤ) (w : Width) → Meets (meaning_step (Expr-F.Number n w)) (hoisting_step (Expr-F.Number n w))
  number_meets n w place s named there win = record {
    wide = ap (λ (m : Meaning). m.width (graph_slots f)) (fold-Number Meaning meaning_step n w);
    kept = λ k one. one;
    there = there;
    runs = λ values ins room. stay s values ins (Has s.taken (Number n w) n) (λ new agree. ap (λ (m : Meaning). m.answer (graph_slots f) new []) (fold-Number Meaning meaning_step n w));
  }

  pub local_meets : (x : ℕ) → x < N → Meets (meaning_step (Expr-F.Local x)) (hoisting_step (Expr-F.Local x))
  local_meets x below place s named there win = record {
    wide = ap (λ (m : Meaning). m.width (graph_slots f)) (fold-Local Meaning meaning_step x) ∙ width_more f.slots (map temporary (flow_of f).temps) x below;
    kept = λ k one. one;
    there = there;
    runs = λ values ins room. stay s values ins (Has s.taken (Local x) (value_at (take N values) x)) (λ new agree.
        ap (λ (m : Meaning). m.answer (graph_slots f) new []) (fold-Local Meaning meaning_step x)
        ∙ ap (λ (k : ℤ). (Ok k, [])) (sym (value_take N x new below) ∙ ap (λ (l : List ℤ). value_at l x) (sym agree.named)));
  }

  -- ---- inputs

  pub local_wide : (x : ℕ) (w : Width) → slot_width (graph_slots f) x ≡ w → width_of (Local x) (graph_slots f) ≡ w
  local_wide x w is = ap (λ (m : Meaning). m.width (graph_slots f)) (fold-Local Meaning meaning_step x) ∙ is

  -- an input is got where the inputs have one more
  input_runs : (w : Width) (act : ℕ → Action) (s after : HoistState) (t : ℕ) (d : Demand) (values ins : List ℤ) → Fetched f w act s after t → length values ≡ length (graph_slots f) → WaitsFor f d s.at values
      → Runs s after.at values ins (Has after.taken (Local t)) (next_input d ins).0 (next_input d ins).1
  input_runs w act s after t d values [] fetched room waits = inr (s.at, values, stays (at s.at values), agree_same N s.taken values, waits)
  input_runs w act s after t d values (n ∷ ins) fetched room waits = let got = fetched.gets values n room in (n ∷ [], slice_set values t n, refl, got.0, got.1, got.2)

  pub global_meets : (g : ℕ) (w : Width) → Meets (meaning_step (Expr-F.Global g w)) (hoisting_step (Expr-F.Global g w))
  global_meets g w place s named there win =
      let fetched = fetch_fetched f place w (λ t. actions.Read t g) s named there (λ t. refl) win in
      record {
        wide = local_wide (temp_slot w s) w fetched.wide;
        kept = fetched.kept;
        there = fetched.there;
        runs = λ values ins room. input_runs w (λ t. actions.Read t g) s _ (temp_slot w s) (Global g) values ins fetched room (temp_slot w s, _, fetched.edge, fetched.is_fetch);
      }

  pub nondet_meets : (w : Width) → Meets (meaning_step (Expr-F.Nondet w)) (hoisting_step (Expr-F.Nondet w))
  nondet_meets w place s named there win =
      let fetched = fetch_fetched f place w (λ t. actions.Nondet t) s named there (λ t. refl) win in
      record {
        wide = local_wide (temp_slot w s) w fetched.wide;
        kept = fetched.kept;
        there = fetched.there;
        runs = λ values ins room. input_runs w (λ t. actions.Nondet t) s _ (temp_slot w s) (Nondet w) values ins fetched room (temp_slot w s, _, fetched.edge, fetched.wide, fetched.is_fetch);
      }

  -- ---- a prefix

  runs_on : {A B : Type 0} (s : HoistState) (node : ℕ) (values ins : List ℤ) (Before : A → List ℤ → Type 0) (After : B → List ℤ → Type 0) (g : A → B) (r : Result A Demand) (rest : List ℤ)
      → ((v : A) (new : List ℤ) → Before v new → After (g v) new) → Runs s node values ins Before r rest
      → Runs s node values ins After (on_answer r rest (λ v left. (Ok (g v), left))).0 (on_answer r rest (λ v left. (Ok (g v), left))).1
  runs_on s node values ins Before After g (Ok v) rest makes runs = (runs.0, runs.1, runs.2, runs.3, runs.4, makes v runs.1 runs.5)
  runs_on s node values ins Before After g (Err d) rest makes runs = runs

  pub unary_meets : (op : UnOp) (m : Meaning) (h : Hoisting) → Meets m h → Meets (meaning_step (Expr-F.Unary op m)) (hoisting_step (Expr-F.Unary op h))
  unary_meets op m h meets place s named there win =
      let sub = meets place s named there win in
      let e = (h.hoist place s).0 in
      let ks = (h.hoist place s).1.taken in
      record {
        wide = unary_wide op e (graph_slots f) ∙ ap (unary_width op) sub.wide;
        kept = sub.kept;
        there = sub.there;
        runs = λ values ins room.
            let a = m.answer f.slots (take N values) ins in
            runs_on s (h.hoist place s).1.at values ins (Has ks e) (Has ks (Unary op e)) (λ n. unary_value op (m.width f.slots) n) a.0 a.1
            (λ v new has other agree. unary_answer op e (graph_slots f) other v (has other agree) ∙ ap (λ (w : Width). (Ok (unary_value op w v), [])) sub.wide)
            (sub.runs values ins room);
      }

  -- ---- one after another

  -- what goes on from where something arrived
  pub then_arrives : (s mid : HoistState) (node : ℕ) (values ins rest left : List ℤ) (new : List ℤ) (used : List ℤ) (Holds : List ℤ → Type 0) → ((k : ℕ) → IsIn k s.taken → IsIn k mid.taken)
      → ins ≡ used ++ rest → Along f used (at s.at values) (at mid.at new) → Agree N s.taken values new → Arrives mid node new rest left Holds → Arrives s node values ins left Holds
  then_arrives s mid node values ins rest left new used Holds kept split way agree more = (
    used ++ more.0,
    more.1,
    split ∙ ap (λ (l : List ℤ). used ++ l) more.2 ∙ sym (append_assoc used more.0 left),
    along_then f used more.0 (at s.at values) (at mid.at new) (at node more.1) way more.3,
    agree_then N s.taken values new more.1 agree (agree_less N mid.taken s.taken new more.1 kept more.4),
    more.5,
  )

  pub then_lacks : (s mid : HoistState) (d : Demand) (values ins rest : List ℤ) (new : List ℤ) (used : List ℤ) → ((k : ℕ) → IsIn k s.taken → IsIn k mid.taken)
      → ins ≡ used ++ rest → Along f used (at s.at values) (at mid.at new) → Agree N s.taken values new → Lacks mid d new rest → Lacks s d values ins
  then_lacks s mid d values ins rest new used kept split way agree more = (
    more.0,
    more.1,
    subst (λ (l : List ℤ). Along f l (at s.at values) (at more.0 more.1)) (sym split) (along_then f used rest (at s.at values) (at mid.at new) (at more.0 more.1) way more.2),
    agree_then N s.taken values new more.1 agree (agree_less N mid.taken s.taken new more.1 kept more.3),
    more.4,
  )

  pub then_runs : {A : Type 0} (s mid : HoistState) (node : ℕ) (values ins rest : List ℤ) (new : List ℤ) (used : List ℤ) (Holds : A → List ℤ → Type 0) (r : Result A Demand) (left : List ℤ) → ((k : ℕ) → IsIn k s.taken → IsIn k mid.taken)
      → ins ≡ used ++ rest → Along f used (at s.at values) (at mid.at new) → Agree N s.taken values new → Runs mid node new rest Holds r left → Runs s node values ins Holds r left
  then_runs s mid node values ins rest new used Holds (Ok v) left kept split way agree more = then_arrives s mid node values ins rest left new used (Holds v) kept split way agree more
  then_runs s mid node values ins rest new used Holds (Err d) left kept split way agree more = elim more [
    | inl fault ↦ inl fault
    | inr lacks ↦ inr (then_lacks s mid d values ins rest new used kept split way agree lacks)
  ]

  -- ---- both operands

  module _ (op : BinOp) (ma mb : Meaning) (ha hb : Hoisting) (place : Place) (s : HoistState) (l : Hoists ma ha place s) (r : Hoists mb hb place (ha.hoist place s).1) where
    abbrev left : Expr
    left = (ha.hoist place s).0

    abbrev middle : HoistState
    middle = (ha.hoist place s).1

    abbrev right : Expr
    right = (hb.hoist place middle).0

    abbrev last : HoistState
    last = (hb.hoist place middle).1

    abbrev wide : Width
    wide = wider (ma.width f.slots) (mb.width f.slots)

    same_wide : wider (width_of left (graph_slots f)) (width_of right (graph_slots f)) ≡ wide
    same_wide = ap (λ (w : Width). wider w (width_of right (graph_slots f))) l.wide ∙ ap (wider (ma.width f.slots)) r.wide

    -- the left operand alone decides
    early_has : (n v : ℤ) (new : List ℤ) → early_value op n ≡ Some v → Has middle.taken left n new → Has last.taken (Binary op left right) v new
    early_has n v new early has other agree =
        binary_answer op left right (graph_slots f) other n (has other (agree_less N last.taken middle.taken new other r.kept agree))
        ∙ ap (λ (o : Option ℤ). decided_or o [] (and_then (demand_of right (graph_slots f) other []) (λ m rest'. (binary_value op (wider (width_of left (graph_slots f)) (width_of right (graph_slots f))) n m, rest')))) early

    -- both operands have values
    both_have : (n m v : ℤ) (new more : List ℤ) → early_value op n ≡ None → Has middle.taken left n new → Agree N middle.taken new more → Has last.taken right m more → binary_value op wide n m ≡ Ok v
        → Has last.taken (Binary op left right) v more
    both_have n m v new more late has kept has_right is other agree =
        let back = agree_less N last.taken middle.taken more other r.kept agree in
        let w = wider (width_of left (graph_slots f)) (width_of right (graph_slots f)) in
        binary_answer op left right (graph_slots f) other n (has other (agree_then N middle.taken new more other kept back))
        ∙ ap (λ (o : Option ℤ). decided_or o [] (and_then (demand_of right (graph_slots f) other []) (λ k rest'. (binary_value op w n k, rest')))) late
        ∙ ap (λ (a : Answer ℤ). and_then a (λ k rest'. (binary_value op w n k, rest'))) (has_right other agree)
        ∙ ap (λ (u : Width). (binary_value op u n m, [])) same_wide
        ∙ ap (λ (x : Result ℤ Demand). (x, [])) is

    -- what the right operand's answer leads to
    result_runs : (n m : ℤ) (new rest : List ℤ) (left_over : List ℤ) (x : Result ℤ Demand) → binary_value op wide n m ≡ x → IsSafe x → early_value op n ≡ None → Has middle.taken left n new → Arrives middle last.at new rest left_over (Has last.taken right m)
        → Runs middle last.at new rest (Has last.taken (Binary op left right)) x left_over
    result_runs n m new rest left_over (Ok v) is safe late has more = (more.0, more.1, more.2, more.3, more.4, both_have n m v new more.1 late has more.4 more.5 is)
    result_runs n m new rest left_over (Err d) is safe late has more = inl safe

    right_runs : (n : ℤ) (new rest : List ℤ) (a : Result ℤ Demand) (left_over : List ℤ) → early_value op n ≡ None → Has middle.taken left n new → Runs middle last.at new rest (Has last.taken right) a left_over
        → Runs middle last.at new rest (Has last.taken (Binary op left right)) (on_answer a left_over (λ m rest'. (binary_value op wide n m, rest'))).0 (on_answer a left_over (λ m rest'. (binary_value op wide n m, rest'))).1
    right_runs n new rest (Ok m) left_over late has runs = result_runs n m new rest left_over (binary_value op wide n m) refl (binary_safe op wide n m) late has runs
    right_runs n new rest (Err d) left_over late has runs = runs

    module _ (idle : (n v : ℤ) → early_value op n ≡ Some v → last.at ≡ middle.at) where
      decided_runs : (values ins : List ℤ) → length values ≡ length (graph_slots f) → (n : ℤ) (rest : List ℤ) → Arrives s middle.at values ins rest (Has middle.taken left n) → (o : Option ℤ) → early_value op n ≡ o
          → Runs s last.at values ins (Has last.taken (Binary op left right))
          (decided_or o rest (and_then (mb.answer f.slots (take N values) rest) (λ m rest'. (binary_value op wide n m, rest')))).0
          (decided_or o rest (and_then (mb.answer f.slots (take N values) rest) (λ m rest'. (binary_value op wide n m, rest')))).1
      decided_runs values ins room n rest a (Some v) early =
          (a.0, a.1, a.2, subst (λ (node : ℕ). Along f a.0 (at s.at values) (at node a.1)) (sym (idle n v early)) a.3, a.4, early_has n v a.1 early a.5)
      decided_runs values ins room n rest a None late =
          let answer = mb.answer f.slots (take N values) rest in
          let runs = subst (λ (named : List ℤ). Runs middle last.at a.1 rest (Has last.taken right) (mb.answer f.slots named rest).0 (mb.answer f.slots named rest).1) (sym a.4.named) (r.runs a.1 rest (a.4.room ∙ room)) in
          then_runs s middle last.at values ins rest a.1 a.0 (Has last.taken (Binary op left right)) _ _ l.kept a.2 a.3 a.4 (right_runs n a.1 rest answer.0 answer.1 late a.5 runs)

      left_runs : (values ins : List ℤ) → length values ≡ length (graph_slots f) → (a : Result ℤ Demand) (rest : List ℤ) → Runs s middle.at values ins (Has middle.taken left) a rest
          → Runs s last.at values ins (Has last.taken (Binary op left right))
          (on_answer a rest (λ n left_over. right_of op wide n (mb.answer f.slots (take N values)) left_over)).0
          (on_answer a rest (λ n left_over. right_of op wide n (mb.answer f.slots (take N values)) left_over)).1
      left_runs values ins room (Ok n) rest runs = decided_runs values ins room n rest runs (early_value op n) refl
      left_runs values ins room (Err d) rest runs = runs

      pub strict_hoists : (b : Bool) → Hoists (meaning_step (Expr-F.Binary op ma mb)) (record { inputs = b; hoist = λ pl st. strict_join op hb pl (ha.hoist pl st) }) place s
      strict_hoists b = record {
        wide = binary_wide op left right (graph_slots f) ∙ ap (λ (w : Width). binary_width op w (width_of right (graph_slots f))) l.wide ∙ ap (binary_width op (ma.width f.slots)) r.wide;
        kept = λ k one. r.kept k (l.kept k one);
        there = r.there;
        runs = λ values ins room. let a = ma.answer f.slots (take N values) ins in left_runs values ins room a.0 a.1 (l.runs values ins room);
      }

  -- ---- lists of expressions

  -- values of the expressions wherever these agree
  abbrev pub HaveValues : List ℕ → List Expr → List ℤ → List ℤ → Type 0
  HaveValues ks es vs values = (new : List ℤ) → Agree N ks values new → answers_of (map meaning_of es) (graph_slots f) new [] ≡ (Ok vs, [])

  pub record HoistsAll (ms : List Meaning) (hs : List Hoisting) (place : Place) (s : HoistState) : Type 0 where
    pub kept : (k : ℕ) → IsIn k s.taken → IsIn k (hoist_all hs place s).1.taken
    pub there : AreThere (hoist_all hs place s).1
    pub runs : (values ins : List ℤ) → length values ≡ length (graph_slots f)
        → Runs s (hoist_all hs place s).1.at values ins (HaveValues (hoist_all hs place s).1.taken (hoist_all hs place s).0) (answers_of ms f.slots (take N values) ins).0 (answers_of ms f.slots (take N values) ins).1

  pub none_hoists : (place : Place) (s : HoistState) → AreThere s → HoistsAll [] [] place s
  none_hoists place s there = record { kept = λ k one. one; there = there; runs = λ values ins room. stay s values ins (HaveValues s.taken [] []) (λ new agree. refl) }

  module _ (m : Meaning) (h : Hoisting) (ms : List Meaning) (hs : List Hoisting) (place : Place) (s : HoistState) (l : Hoists m h place s) (r : HoistsAll ms hs place (h.hoist place s).1) where
    abbrev first : Expr
    first = (h.hoist place s).0

    abbrev between : HoistState
    between = (h.hoist place s).1

    abbrev others : List Expr
    others = (hoist_all hs place between).0

    abbrev end : HoistState
    end = (hoist_all hs place between).1

    all_have : (n : ℤ) (ns : List ℤ) (new more : List ℤ) → Has between.taken first n new → Agree N between.taken new more → HaveValues end.taken others ns more → HaveValues end.taken (first ∷ others) (n ∷ ns) more
    all_have n ns new more has kept have other agree =
        let back = agree_less N end.taken between.taken more other r.kept agree in
        ap (λ (a : Answer ℤ). and_then a (λ k rest. and_then (answers_of (map meaning_of others) (graph_slots f) other rest) (λ ks rest'. (Ok (k ∷ ks), rest')))) (has other (agree_then N between.taken new more other kept back))
        ∙ ap (λ (a : Answer (List ℤ)). and_then a (λ ks rest'. (Ok (n ∷ ks), rest'))) (have other agree)

    others_run : (n : ℤ) (new rest : List ℤ) (a : Result (List ℤ) Demand) (left_over : List ℤ) → Has between.taken first n new → Runs between end.at new rest (HaveValues end.taken others) a left_over
        → Runs between end.at new rest (HaveValues end.taken (first ∷ others)) (on_answer a left_over (λ ns rest'. (Ok (n ∷ ns), rest'))).0 (on_answer a left_over (λ ns rest'. (Ok (n ∷ ns), rest'))).1
    others_run n new rest (Ok ns) left_over has runs = (runs.0, runs.1, runs.2, runs.3, runs.4, all_have n ns new runs.1 has runs.4 runs.5)
    others_run n new rest (Err d) left_over has runs = runs

    first_runs : (values ins : List ℤ) → length values ≡ length (graph_slots f) → (a : Result ℤ Demand) (rest : List ℤ) → Runs s between.at values ins (Has between.taken first) a rest
        → Runs s end.at values ins (HaveValues end.taken (first ∷ others))
        (on_answer a rest (λ n left_over. and_then (answers_of ms f.slots (take N values) left_over) (λ ns rest'. (Ok (n ∷ ns), rest')))).0
        (on_answer a rest (λ n left_over. and_then (answers_of ms f.slots (take N values) left_over) (λ ns rest'. (Ok (n ∷ ns), rest')))).1
    first_runs values ins room (Ok n) rest a =
        let answer = answers_of ms f.slots (take N values) rest in
        let runs = subst (λ (named : List ℤ). Runs between end.at a.1 rest (HaveValues end.taken others) (answers_of ms f.slots named rest).0 (answers_of ms f.slots named rest).1) (sym a.4.named) (r.runs a.1 rest (a.4.room ∙ room)) in
        then_runs s between end.at values ins rest a.1 a.0 (HaveValues end.taken (first ∷ others)) _ _ l.kept a.2 a.3 a.4 (others_run n a.1 rest answer.0 answer.1 a.5 runs)
    first_runs values ins room (Err d) rest a = a

    more_hoist : HoistsAll (m ∷ ms) (h ∷ hs) place s
    more_hoist = record {
      kept = λ k one. r.kept k (l.kept k one);
      there = r.there;
      runs = λ values ins room. let a = m.answer f.slots (take N values) ins in first_runs values ins room a.0 a.1 (l.runs values ins room);
    }

  -- an expression whose hoisting extends and grows graphs, and meets its demand
  pub record Expected (m : Meaning) (h : Hoisting) : Type 0 where
    pub extends : HoistExtends h
    pub grows : HoistGrew h
    pub idle : h.inputs ≡ false → (place : Place) (s : HoistState) → (h.hoist place s).1 ≡ s
    pub meets : Meets m h

  abbrev pub EachExpected : List Meaning → List Hoisting → Type 0
  EachExpected [] [] = Unit {0}
  EachExpected [] (h ∷ hs) = ⊥
  EachExpected (m ∷ ms) [] = ⊥
  EachExpected (m ∷ ms) (h ∷ hs) = Expected m h × EachExpected ms hs

  each_extends : (ms : List Meaning) (hs : List Hoisting) → EachExpected ms hs → Each HoistExtends hs
  each_extends [] [] each = tt
  each_extends [] (h ∷ hs) each = absurd each
  each_extends (m ∷ ms) [] each = absurd each
  each_extends (m ∷ ms) (h ∷ hs) each = (each.0.extends, each_extends ms hs each.1)

  each_grows : (ms : List Meaning) (hs : List Hoisting) → EachExpected ms hs → Each HoistGrew hs
  each_grows [] [] each = tt
  each_grows [] (h ∷ hs) each = absurd each
  each_grows (m ∷ ms) [] each = absurd each
  each_grows (m ∷ ms) (h ∷ hs) each = (each.0.grows, each_grows ms hs each.1)

  pub all_meet : (ms : List Meaning) (hs : List Hoisting) → EachExpected ms hs → (place : Place) (s : HoistState) → s.flow.named ≡ N → AreThere s → Within f (hoist_all hs place s).1.flow → HoistsAll ms hs place s
  all_meet [] [] each place s named there win = none_hoists place s there
  all_meet [] (h ∷ hs) each place s named there win = absurd each
  all_meet (m ∷ ms) [] each place s named there win = absurd each
  all_meet (m ∷ ms) (h ∷ hs) each place s named there win =
      let mid = (h.hoist place s).1 in
      let before = within_before f mid.flow (hoist_all hs place mid).1.flow (all_extend hs (each_extends ms hs each.1) place mid) (all_grew hs (each_grows ms hs each.1) place mid) win in
      let l = each.0.meets place s named there before in
      more_hoist m h ms hs place s l (all_meet ms hs each.1 place mid ((each.0.grows place s).named ∙ named) l.there win)

  -- ---- calls

  module _ (g : ℕ) (w : Width) (ms : List Meaning) (hs : List Hoisting) (each : EachExpected ms hs) (place : Place) (s : HoistState) (named : s.flow.named ≡ N) (there : AreThere s) where
    abbrev args : List Expr
    args = (hoist_all hs place s).0

    abbrev ready : HoistState
    ready = (hoist_all hs place s).1

    abbrev called : ℕ → Action
    called t = actions.Call (Some t) g args

    pub call_hoists : Within f (fetch place w called ready).1.flow → Hoists (meaning_step (Expr-F.Call g w ms)) (hoisting_step (Expr-F.Call g w hs)) place s
    call_hoists win =
        let before = within_before f ready.flow (fetch place w called ready).1.flow (fetch_extends place w called ready) (fetch_grew place w called ready) win in
        let all = all_meet ms hs each place s named there before in
        let grew = all_grew hs (each_grows ms hs each) place s in
        let fetched = fetch_fetched f place w called ready (grew.named ∙ named) all.there (λ t. refl) win in
        record {
          wide = local_wide (temp_slot w ready) w fetched.wide;
          kept = λ k one. fetched.kept k (all.kept k one);
          there = fetched.there;
          runs = λ values ins room. let a = answers_of ms f.slots (take N values) ins in go fetched all values ins room a.0 a.1 (all.runs values ins room);
        }
      where
        go : Fetched f w called ready (fetch place w called ready).1 (temp_slot w ready) → HoistsAll ms hs place s → (values ins : List ℤ) → length values ≡ length (graph_slots f) → (a : Result (List ℤ) Demand) (rest : List ℤ)
            → Runs s ready.at values ins (HaveValues ready.taken args) a rest
            → Runs s (fetch place w called ready).1.at values ins (Has (fetch place w called ready).1.taken (Local (temp_slot w ready))) (on_answer a rest (λ ns left_over. next_input (Call g ns) left_over)).0 (on_answer a rest (λ ns left_over. next_input (Call g ns) left_over)).1
        go fetched all values ins room (Ok ns) rest a =
            let t = temp_slot w ready in
            let after = (fetch place w called ready).1 in
            let have = ap (λ (x : Answer (List ℤ)). x.0) (a.5 a.1 (agree_same N ready.taken a.1)) in
            then_runs s ready after.at values ins rest a.1 a.0 (Has after.taken (Local t)) _ _ all.kept a.2 a.3 a.4
            (input_runs w called ready after t (Call g ns) a.1 rest fetched (a.4.room ∙ room) (t, after.at, args, fetched.edge, have, fetched.is_fetch))
        go fetched all values ins room (Err d) rest a = a
