-- A watched value is in its interval, and no vertex at which a condition holds is dropped.
use Rattle.std.proofs.Common.{◌≡◌, ◌≢◌, ◌∙◌, refl, sym, subst, ℕ, zero, suc, ◌+◌, ◌<◌, ℤ, pos, ◌≤ℤ◌, int_le, Bool, true, false, ◌&&◌, List, [], ◌∷◌, ◌++◌, map, length, Option, Some, None, Ok, IsTrue, IsSomeAnd, arith}
use Rattle.std.specs.Prelude.{Contains, nat_lt, not, option_and_then, option_map, slice_get}
use Rattle.std.proofs.lemmas.Bool.{and_parts}
use Rattle.std.proofs.lemmas.Int.{ints}
use Rattle.std.proofs.lemmas.List.Elements.{Contains-append_right}
use Rattle.gob_tree.specs.Formed.{is_plain, plain_step}
use Rattle.gob_tree.specs.declared.expr.BinOp.{BinOp}
use Rattle.gob_tree.specs.declared.expr.Expr.{Expr}
use Rattle.gob_tree.specs.declared.expr.Expr.TheVariants as exprs
use Rattle.gob_tree.specs.declared.expr.UnOp.{UnOp}
use Rattle.gob_tree.specs.declared.expr.Width.{Width}
use Rattle.gob_tree.specs.declared.graph.Program.{Program}
use Rattle.gob_tree.proofs.Folds as folds
use Rattle.c_parse.specs.declared.raw.expr.RawExpr.{RawExpr}
use Rattle.c_parse.specs.declared.raw.expr.RawExpr.TheVariants.{Number, Name, Unary, Binary, Call}
use Rattle.c_parse.specs.declared.raw.expr.RawName.{RawName}
use Rattle.c_meaning.specs.Demand.{value_of}
use Rattle.interval_dom.specs.Bounds.{Bounds, Describes}
use Rattle.state_dom.specs.Evaluation.{interval_of}
use Rattle.state_dom.specs.Operators.{may_be}
use Rattle.state_dom.specs.StateValue.{StateValue, Bottom, Reached, DescribesState, DescribesEach, HoldsEach, slots_of}
use Rattle.state_dom.proofs.Evaluating.{evaluation_describes}
use Rattle.constraint_sys.specs.Table.{TableValue, slots_at, state_at}
use Rattle.constraint_sys.proofs.Ordered.{Contains-filtered, Contains-head, Contains-nil}
use Rattle.arg_graph.specs.declared.vertex.Vertex.{Vertex}
use Rattle.arg_graph.specs.Vertices.{vertices_at}
use Rattle.breakpoint_eval.specs.declared.stop.Break.{Break}
use Rattle.breakpoint_eval.specs.declared.stop.Stop.{Stop}
use Rattle.breakpoint_eval.specs.Laws.{HoldsAt, IsDescribedAt, Moment, StopsDropNothing, WatchesDescribe, fitting_step, has_fitting_numbers}
use Rattle.breakpoint_eval.specs.Names.{as_slot, place_named, places_of}
use Rattle.breakpoint_eval.specs.Placing.{placed, placed_step}
use Rattle.breakpoint_eval.specs.Watching.{global_intervals, may_stop, placed_at, stop_with, stopping, stops_from, watched}
use Rattle.breakpoint_eval.proofs.Forms.{by_forms, fold-Number, fold-Name, fold-Unary, fold-Binary, fold-Call}
use Rattle.breakpoint_eval.proofs.Places.{DescribesEach-both, HoldsEach-both, place_within}

-- ---- the form by places is plain

some_is : (a b : Expr) → Some a ≡ Some b → a ≡ b
some_is a b e = cc

is_below : (x k : ℕ) → x < k → nat_lt x k ≡ true
is_below x k h = grind arith

module _ (place : List ℕ → Option ℕ) (k : ℕ) (below : (name : List ℕ) (i : ℕ) → place name ≡ Some i → i < k) where
  abbrev pub IsPlainAs : Expr → Type 0
  IsPlainAs x = IsTrue (is_plain k x)

  abbrev pub PlacesPlain : RawExpr → Type 0
  PlacesPlain e = has_fitting_numbers e ≡ true → (x : Expr) → placed place e ≡ Some x → IsPlainAs x

  of_number : (n : ℤ) (w : Width) → PlacesPlain (Number n w)
  of_number n w fit x is =
      subst IsPlainAs (some_is (exprs.Number n w) x (sym (fold-Number (Option Expr) (placed_step place) n w) ∙ is))
      (folds.fold-Number Bool (plain_step k) n w ∙ sym (fold-Number Bool fitting_step n w) ∙ fit)

  of_name : (name : RawName) → PlacesPlain (Name name)
  of_name name fit x is = by (place name.text) refl (sym (fold-Name (Option Expr) (placed_step place) name) ∙ is)
    where
      by : (o : Option ℕ) → place name.text ≡ o → option_map (λ (i : ℕ). exprs.Local i) o ≡ Some x → IsPlainAs x
      by None at is = absurd cc
      by (Some i) at is = subst IsPlainAs (some_is (exprs.Local i) x is) (folds.fold-Local Bool (plain_step k) i ∙ is_below i k (below name.text i at))

  of_unary : (op : UnOp) (a : RawExpr) → PlacesPlain a → PlacesPlain (Unary op a)
  of_unary op a plain fit x is = by (placed place a) refl (sym (fold-Unary (Option Expr) (placed_step place) op a) ∙ is)
    where
      by : (o : Option Expr) → placed place a ≡ o → option_map (λ (y : Expr). exprs.Unary op y) o ≡ Some x → IsPlainAs x
      by None at is = absurd cc
      by (Some y) at is = subst IsPlainAs (some_is (exprs.Unary op y) x is) (folds.fold-Unary Bool (plain_step k) op y ∙ plain (sym (fold-Unary Bool fitting_step op a) ∙ fit) y at)

  both : (s t : Bool) → s ≡ true → t ≡ true → (s && t) ≡ true
  both s t p q = rw (p, q) refl

  of_binary : (op : BinOp) (a b : RawExpr) → PlacesPlain a → PlacesPlain b → PlacesPlain (Binary op a b)
  of_binary op a b plain plain' fit x is = by (placed place a) (placed place b) refl refl (sym (fold-Binary (Option Expr) (placed_step place) op a b) ∙ is)
    where
      fits : (has_fitting_numbers a ≡ true) × (has_fitting_numbers b ≡ true)
      fits = and_parts (has_fitting_numbers a) (has_fitting_numbers b) (sym (fold-Binary Bool fitting_step op a b) ∙ fit)

      by : (o o' : Option Expr) → placed place a ≡ o → placed place b ≡ o' → option_and_then (λ (y : Expr). option_map (λ (z : Expr). exprs.Binary op y z) o') o ≡ Some x → IsPlainAs x
      by None o' at at' is = absurd cc
      by (Some y) None at at' is = absurd cc
      by (Some y) (Some z) at at' is =
          subst IsPlainAs (some_is (exprs.Binary op y z) x is)
          (folds.fold-Binary Bool (plain_step k) op y z ∙ both (is_plain k y) (is_plain k z) (plain fits.0 y at) (plain' fits.1 z at'))

  of_call : (f : RawName) (args : List RawExpr) → PlacesPlain (Call f args)
  of_call f args fit x is = (let none : None ≡ Some x = sym (fold-Call (Option Expr) (placed_step place) f args) ∙ is in absurd cc)

  pub placed_plain : (e : RawExpr) → PlacesPlain e
  placed_plain = by_forms PlacesPlain of_number of_name of_unary of_binary of_call

-- ---- watching

from_state : (p : Program) (t : TableValue) (v : Vertex) (m : Moment) (e : RawExpr) (n : ℤ) (s : StateValue)
    → has_fitting_numbers e ≡ true → DescribesState (slots_at p v.func) s m.slots m.owners m.thread
    → HoldsEach (map as_slot p.globals) m.globals → DescribesEach (global_intervals p t) m.globals
    → (o : Option Expr) → placed_at p (Some v) e ≡ o
    → IsSomeAnd o (λ (x : Expr). value_of x (places_of (slots_at p v.func) p.globals) (m.slots ++ m.globals) ≡ Ok n)
    → IsSomeAnd (option_and_then (λ (x : Expr). interval_of (places_of (slots_at p v.func) p.globals) (slots_of s ++ global_intervals p t) x) o) (λ (b : Bounds). Describes b n)
from_state p t v m e n (Bottom room) fit frame widths globals o at value = absurd frame
from_state p t v m e n (Reached xs locks) fit frame widths globals None at value = absurd value
from_state p t v m e n (Reached xs locks) fit frame widths globals (Some x) at value =
    let slots = slots_at p v.func in
    let plain = placed_plain (place_named slots p.globals) (length (places_of slots p.globals)) (place_within slots p.globals) e fit x at in
    evaluation_describes (places_of slots p.globals) (xs ++ global_intervals p t) (m.slots ++ m.globals) x n plain
    (HoldsEach-both slots (map as_slot p.globals) m.slots m.globals frame.0 widths)
    (DescribesEach-both xs (global_intervals p t) m.slots m.globals frame.1 globals) value

pub watches_describe : WatchesDescribe
watches_describe p t v m e n fit is value =
    from_state p t v m e n (state_at p t v.func v.key v.node) fit is.frame is.widths is.globals (placed_at p (Some v) e) refl value

-- ---- stops

le_of : (x y : ℤ) → int_le x y ≡ true → x ≤ℤ y
le_of x y e = grind (arith, ints)

-- what describes a number other than 0 may be other than 0
may_be_true : (o : Option Bounds) (n : ℤ) → n ≢ pos 0 → IsSomeAnd o (λ (b : Bounds). Describes b n) → may_be true o ≡ true
may_be_true None n other described = absurd described
may_be_true (Some b) n other described = by (int_le b.hi (pos 0) && int_le (pos 0) b.lo) refl
  where
    by : (zero : Bool) → (int_le b.hi (pos 0) && int_le (pos 0) b.lo) ≡ zero → not zero ≡ true
    by true is =
        (let ends = and_parts (int_le b.hi (pos 0)) (int_le (pos 0) b.lo) is in
        let high = le_of b.hi (pos 0) ends.0 in
        let low = le_of (pos 0) b.lo ends.1 in
        let least = described.0 in
        let most = described.1 in
        let none : n ≡ pos 0 = grind (arith, ints) in
        absurd (other none))
    by false is = refl

may_stop_there : (p : Program) (t : TableValue) (v : Vertex) (m : Moment) (cond : Option RawExpr) → IsDescribedAt p t v m → HoldsAt p v m cond → may_stop p t cond v ≡ true
may_stop_there p t v m None is holds = refl
may_stop_there p t v m (Some e) is holds =
    may_be_true (watched p t (Some v) e) holds.1.0 holds.1.2 (watches_describe p t v m e holds.1.0 holds.0 is holds.1.1)

-- a member of what a break keeps is in its stop
in_stop : (p : Program) (t : TableValue) (first : ℕ) (breaks : List Break) (index : ℕ) (b : Break) (v : Vertex)
    → slice_get breaks index ≡ Some b → Contains (stopping p t b) v
    → (stop : Stop) × Contains (stops_from p t first breaks) stop × (stop.index ≡ first + index) × Contains stop.at v
in_stop p t first [] index b v at one = absurd cc
in_stop p t first (c ∷ cs) zero b v at one = by (stopping p t c) (subst (λ (x : Break). Contains (stopping p t x) v) (break_is b c (sym at)) one)
  where
    break_is : (x y : Break) → Some x ≡ Some y → x ≡ y
    break_is x y e = cc

    by : (vs : List Vertex) → Contains vs v → (stop : Stop) × Contains (stop_with first vs ++ stops_from p t (first + 1) cs) stop × (stop.index ≡ first + 0) × Contains stop.at v
    by [] one = absurd (Contains-nil v one)
    by (w ∷ ws) one = (record { index = first; at = w ∷ ws }, Contains-head (record { index = first; at = w ∷ ws }) (stops_from p t (first + 1) cs), omega arith, one)
in_stop p t first (c ∷ cs) (suc index) b v at one =
    let later = in_stop p t (first + 1) cs index b v at one in
    (later.0, Contains-append_right (stop_with first (stopping p t c)) (stops_from p t (first + 1) cs) later.0 later.1, later.2 ∙ omega arith, later.3)

pub stops_drop_nothing : StopsDropNothing
stops_drop_nothing p t breaks index b v m at there is holds =
    let found = in_stop p t 0 breaks index b v at (Contains-filtered (may_stop p t b.cond) (vertices_at t b.func b.node) v there (may_stop_there p t v m b.cond is holds)) in
    let numbered : found.0.index ≡ 0 + index = found.2 in
    (found.0, found.1, omega arith, found.3)
