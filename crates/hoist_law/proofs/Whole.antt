-- Every expression that may stand in a function of a unit.
use Rattle.std.proofs.Common.{◌≡◌, ◌∙◌, refl, sym, ap, subst, ℕ, ◌<◌, ℤ, Bool, true, false, List, [], ◌∷◌, length, map, Option, None, Some, arith, IsTrue, true≢false}
use Rattle.std.specs.Prelude.{◌||◌, if◌then◌else◌, nat_lt}
use Rattle.std.specs.List.{list_all}
use Rattle.std.proofs.lemmas.Bool.Decides.{nat_tests}
use Rattle.std.proofs.lemmas.Option.{none-some}
use Rattle.gob_tree.specs.WellMade.{expr_step, is_local, is_made_expr}
use Rattle.gob_tree.specs.declared.place.Place.{Place}
use Rattle.gob_tree.specs.declared.expr.BinOp.{BinOp}
use Rattle.gob_tree.specs.declared.expr.BinOp.TheVariants.{Add, Sub, Mul, Div, Rem, Lt, Le, Gt, Ge, Eq, Ne, And, Or}
use Rattle.gob_tree.specs.declared.expr.Expr.{Expr, Number, Local, Global, Nondet, Unary, Binary, Call}
use Rattle.gob_tree.specs.declared.expr.Expr.TheOpen.{Expr-F}
use Rattle.gob_tree.specs.declared.unit.Function.{Function}
use Rattle.gob_tree.specs.declared.unit.Unit.{Unit as TranslationUnit}
use Rattle.gob_tree.proofs.Folds.{fold-Number, fold-Local, fold-Global, fold-Nondet, fold-Unary, fold-Binary, fold-Call}
use Rattle.gob_tree.proofs.Induct.{Each, by_forms}
use Rattle.c_meaning.specs.Demand.{Meaning, early_value, meaning_of, meaning_step}
use Rattle.c_meaning.specs.Graph.{HoistState, Hoisted, Hoisting, binary_join, hoisting_of, hoisting_step, logic_join, stop_of, strict_join}
use Rattle.graph_law.proofs.Decoding.{both_true}
use Rattle.graph_law.proofs.Extending.{binary_extends, hoists_extend}
use Rattle.graph_law.proofs.Widening.{binary_grew, hoists_grow}
use Rattle.hoist_law.specs.Hoisting.{Within}
use Rattle.hoist_law.proofs.Agreeing.{AreThere}
use Rattle.hoist_law.proofs.Fetching.{within_before}
use Rattle.hoist_law.proofs.Logic.{Decides, and_decides, logic_hoists, or_decides}
use Rattle.hoist_law.proofs.Meeting.{EachExpected, Expected, Hoists, Meets, N, call_hoists, global_meets, local_meets, nondet_meets, number_meets, strict_hoists, unary_meets}

or_false : (a b : Bool) → (a || b) ≡ false → (a ≡ false) × (b ≡ false)
or_false true b e = absurd (true≢false e)
or_false false b e = (refl, e)

module _ (f : Function) where
  -- ---- both operands

  module _ (op : BinOp) (ma mb : Meaning) (ha hb : Hoisting) (ea : Expected f ma ha) (eb : Expected f mb hb) where
    abbrev inputs : Bool
    inputs = ha.inputs || hb.inputs

    abbrev Result_of : (Place → HoistState → Hoisted Expr) → Place → HoistState → Type 0
    Result_of hoist place s = Hoists f (meaning_step (Expr-F.Binary op ma mb)) (record { inputs = inputs; hoist = hoist }) place s

    strict_meets : ((n v : ℤ) → early_value op n ≡ Some v → hb.inputs ≡ false) → (place : Place) (s : HoistState) → s.flow.named ≡ N f → AreThere s
        → Within f (strict_join op hb place (ha.hoist place s)).1.flow → Result_of (λ pl st. strict_join op hb pl (ha.hoist pl st)) place s
    strict_meets idle place s named there win =
        let mid = (ha.hoist place s).1 in
        let before = within_before f mid.flow (hb.hoist place mid).1.flow (eb.extends place mid) (eb.grows place mid) win in
        let l = ea.meets place s named there before in
        let r = eb.meets place mid ((ea.grows place s).named ∙ named) l.there win in
        strict_hoists f op ma mb ha hb place s l r (λ n v early. ap (λ (st : HoistState). st.at) (eb.idle (idle n v early) place mid)) inputs

    logic_meets : (stop : Bool) → Decides op stop → (place : Place) (s : HoistState) → s.flow.named ≡ N f → AreThere s
        → Within f (logic_join stop hb place (ha.hoist place s)).1.flow → Within f (ha.hoist place s).1.flow → Result_of (λ pl st. logic_join stop hb pl (ha.hoist pl st)) place s
    logic_meets stop decides place s named there win before =
        let l = ea.meets place s named there before in
        logic_hoists f op stop decides ma mb ha hb eb place s named l (ea.grows place s).named win inputs

    either_meets : (stop : Bool) → Decides op stop → (place : Place) (s : HoistState) → s.flow.named ≡ N f → AreThere s → (c : Bool) → hb.inputs ≡ c
        → Within f (if c then logic_join stop hb place (ha.hoist place s) else strict_join op hb place (ha.hoist place s)).1.flow → Within f (ha.hoist place s).1.flow
        → Result_of (λ pl st. if c then logic_join stop hb pl (ha.hoist pl st) else strict_join op hb pl (ha.hoist pl st)) place s
    either_meets stop decides place s named there true is win before = logic_meets stop decides place s named there win before
    either_meets stop decides place s named there false is win before = strict_meets (λ n v early. is) place s named there win

  no_early : (n v : ℤ) (P : Type 0) → ◌≡◌ {A = Option ℤ} None (Some v) → P
  no_early n v P e = absurd (none-some v e)

  binary_meets : (op : BinOp) (ma mb : Meaning) (ha hb : Hoisting) → Expected f ma ha → Expected f mb hb → Meets f (meaning_step (Expr-F.Binary op ma mb)) (hoisting_step (Expr-F.Binary op ha hb))
  binary_meets Add ma mb ha hb ea eb place s named there win = strict_meets Add ma mb ha hb ea eb (λ n v e. no_early n v _ e) place s named there win
  binary_meets Sub ma mb ha hb ea eb place s named there win = strict_meets Sub ma mb ha hb ea eb (λ n v e. no_early n v _ e) place s named there win
  binary_meets Mul ma mb ha hb ea eb place s named there win = strict_meets Mul ma mb ha hb ea eb (λ n v e. no_early n v _ e) place s named there win
  binary_meets Div ma mb ha hb ea eb place s named there win = strict_meets Div ma mb ha hb ea eb (λ n v e. no_early n v _ e) place s named there win
  binary_meets Rem ma mb ha hb ea eb place s named there win = strict_meets Rem ma mb ha hb ea eb (λ n v e. no_early n v _ e) place s named there win
  binary_meets Lt ma mb ha hb ea eb place s named there win = strict_meets Lt ma mb ha hb ea eb (λ n v e. no_early n v _ e) place s named there win
  binary_meets Le ma mb ha hb ea eb place s named there win = strict_meets Le ma mb ha hb ea eb (λ n v e. no_early n v _ e) place s named there win
  binary_meets Gt ma mb ha hb ea eb place s named there win = strict_meets Gt ma mb ha hb ea eb (λ n v e. no_early n v _ e) place s named there win
  binary_meets Ge ma mb ha hb ea eb place s named there win = strict_meets Ge ma mb ha hb ea eb (λ n v e. no_early n v _ e) place s named there win
  binary_meets Eq ma mb ha hb ea eb place s named there win = strict_meets Eq ma mb ha hb ea eb (λ n v e. no_early n v _ e) place s named there win
  binary_meets Ne ma mb ha hb ea eb place s named there win = strict_meets Ne ma mb ha hb ea eb (λ n v e. no_early n v _ e) place s named there win
  binary_meets And ma mb ha hb ea eb place s named there win =
      let mid = ha.hoist place s in
      let before = within_before f mid.1.flow (binary_join And (Some false) hb place mid).1.flow (binary_extends (Some false) And hb place mid eb.extends) (binary_grew (Some false) And hb place mid eb.grows) win in
      either_meets And ma mb ha hb ea eb false and_decides place s named there hb.inputs refl win before
  binary_meets Or ma mb ha hb ea eb place s named there win =
      let mid = ha.hoist place s in
      let before = within_before f mid.1.flow (binary_join Or (Some true) hb place mid).1.flow (binary_extends (Some true) Or hb place mid eb.extends) (binary_grew (Some true) Or hb place mid eb.grows) win in
      either_meets Or ma mb ha hb ea eb true or_decides place s named there hb.inputs refl win before

  -- ---- hoisting without inputs

  abbrev Idle : Hoisting → Type 0
  Idle h = h.inputs ≡ false → (place : Place) (s : HoistState) → (h.hoist place s).1 ≡ s

  idle_join : (op : BinOp) (o : Option Bool) (hb : Hoisting) (place : Place) (x : Hoisted Expr) → hb.inputs ≡ false → Idle hb → (binary_join op o hb place x).1 ≡ x.1
  idle_join op None hb place x none idle = idle none place x.1
  idle_join op (Some stop) hb place x none idle =
      ap (λ (b : Bool). (if b then logic_join stop hb place x else strict_join op hb place x).1) none ∙ idle none place x.1

  binary_idle : (op : BinOp) (ha hb : Hoisting) → Idle ha → Idle hb → Idle (hoisting_step (Expr-F.Binary op ha hb))
  binary_idle op ha hb ia ib none place s =
      let both = or_false ha.inputs hb.inputs none in
      idle_join op (stop_of op) hb place (ha.hoist place s) both.1 ib ∙ ia both.0 place s

  -- ---- all expressions
  module _ (unit : TranslationUnit) where
    abbrev Made : Expr → Type 0
    Made e = IsTrue (is_made_expr unit f e)

    abbrev pub Meeting : Expr → Type 0
    Meeting e = Made e → Expected f (meaning_of e) (hoisting_of e)

    -- by the equations of one form
    expected : (e : Expr) (m : Meaning) (h : Hoisting) → meaning_of e ≡ m → hoisting_of e ≡ h → Meets f m h → Idle h → Expected f (meaning_of e) (hoisting_of e)
    expected e m h means hoists meets idle = record {
      extends = hoists_extend e;
      grows = hoists_grow e;
      idle = subst Idle (sym hoists) idle;
      meets = subst (λ (z : Meaning). Meets f z (hoisting_of e)) (sym means) (subst (Meets f m) (sym hoists) meets);
    }

    below : (x : ℕ) → IsTrue (is_local f x) → x < N f
    below x made = let parts = both_true (nat_lt 0 x) (nat_lt x (length f.slots)) made in is_below x (length f.slots) parts.1
      where
        is_below : (a b : ℕ) → IsTrue (nat_lt a b) → a < b
        is_below a b e = grind (arith, nat_tests)

    each_made : (args : List Expr) → IsTrue (list_all (λ (made : Bool). made) (map (is_made_expr unit f) args)) → Each Meeting args → EachExpected f (map meaning_of args) (map hoisting_of args)
    each_made [] made each = tt
    each_made (e ∷ es) made each =
        let parts = both_true (is_made_expr unit f e) (list_all (λ (b : Bool). b) (map (is_made_expr unit f) es)) made in
        (each.0 parts.0, each_made es parts.1 each.1)

    pub expressions_meet : (e : Expr) → Meeting e
    expressions_meet = by_forms Meeting
        (λ n w made. expected (Number n w) _ _ (fold-Number Meaning meaning_step n w) (fold-Number Hoisting hoisting_step n w) (number_meets f n w) (λ none place s. refl))
        (λ x made. expected (Local x) _ _ (fold-Local Meaning meaning_step x) (fold-Local Hoisting hoisting_step x) (local_meets f x (below x (sym (fold-Local Bool (expr_step unit f) x) ∙ made))) (λ none place s. refl))
        (λ g w made. expected (Global g w) _ _ (fold-Global Meaning meaning_step g w) (fold-Global Hoisting hoisting_step g w) (global_meets f g w) (λ none place s. absurd (true≢false none)))
        (λ w made. expected (Nondet w) _ _ (fold-Nondet Meaning meaning_step w) (fold-Nondet Hoisting hoisting_step w) (nondet_meets f w) (λ none place s. absurd (true≢false none)))
        (λ op a meets made.
        let sub = meets (sym (fold-Unary Bool (expr_step unit f) op a) ∙ made) in
        expected (Unary op a) _ _ (fold-Unary Meaning meaning_step op a) (fold-Unary Hoisting hoisting_step op a) (unary_meets f op (meaning_of a) (hoisting_of a) sub.meets) (λ none place s. sub.idle none place s))
        (λ op a b left right made.
        let parts = both_true (is_made_expr unit f a) (is_made_expr unit f b) (sym (fold-Binary Bool (expr_step unit f) op a b) ∙ made) in
        let ea = left parts.0 in
        let eb = right parts.1 in
        expected (Binary op a b) _ _ (fold-Binary Meaning meaning_step op a b) (fold-Binary Hoisting hoisting_step op a b)
        (binary_meets op (meaning_of a) (meaning_of b) (hoisting_of a) (hoisting_of b) ea eb) (binary_idle op (hoisting_of a) (hoisting_of b) ea.idle eb.idle))
        (λ g w args all made.
        let parts = both_true _ (list_all (λ (b : Bool). b) (map (is_made_expr unit f) args)) (sym (fold-Call Bool (expr_step unit f) g w args) ∙ made) in
        let each = each_made args parts.1 all in
        expected (Call g w args) _ _ (fold-Call Meaning meaning_step g w args) (fold-Call Hoisting hoisting_step g w args)
        (λ place s named there win. call_hoists f g w (map meaning_of args) (map hoisting_of args) each place s named there win) (λ none place s. absurd (true≢false none)))
