-- A guard narrows a state by its intervals alone: under the new numbers it gives the same.
use Rattle.std.proofs.Common.{◌≡◌, ℕ, Bool, true, false, List, map, Option, Some, None, refl, sym, ap, subst}
use Rattle.std.specs.Prelude.{slice_get, slice_set, not, option_and_then, if◌then◌else◌}
use Rattle.gob_tree.specs.Formed.{IsFormed}
use Rattle.gob_tree.specs.declared.expr.BinOp.{BinOp}
use Rattle.gob_tree.specs.declared.expr.BinOp.TheVariants.{Lt, Le, Gt, Ge, Eq, Ne, And, Or}
use Rattle.gob_tree.specs.declared.expr.Expr.{Expr}
use Rattle.gob_tree.specs.declared.expr.Expr.TheOpen.{Expr-F}
use Rattle.gob_tree.specs.declared.expr.UnOp.{UnOp}
use Rattle.gob_tree.specs.declared.expr.UnOp.TheVariants.{Neg, Not}
use Rattle.gob_tree.specs.declared.graph.Program.{Program}
use Rattle.gob_tree.specs.declared.unit.Slot.{Slot}
use Rattle.gob_tree.proofs.Folds.{fold-Number, fold-Local, fold-Global, fold-Nondet, fold-Unary, fold-Binary, fold-Call}
use Rattle.gob_tree.proofs.Induct.{by_forms}
use Rattle.interval_dom.specs.declared.cmp.Cmp.{Cmp}
use Rattle.interval_dom.specs.declared.cmp.Cmp.TheVariants.{Lt as Less, Le as AtMost, Gt as Greater, Ge as AtLeast, Eq as Equal, Ne as Unequal}
use Rattle.interval_dom.specs.Bounds.{Bounds, hull}
use Rattle.interval_dom.specs.Comparisons.{turned_of, refined}
use Rattle.state_dom.specs.Evaluation.{Reading, reading_step, reading_of, guarded_by, guarded_form, guarded_binary, compared_by, compared, refined_by, with_left, value_in, as_wanted, interval_step}
use Rattle.state_dom.specs.Operators.{may_be, zero_alone}
use Rattle.state_dom.specs.StateValue.{StateValue, Bottom, Reached, room_of, slots_of, on_each, join_of}
use Rattle.carry_law.proofs.Renaming.{no_locks_renamed, shared_renamed}
use Rattle.carry_law.proofs.RenamedStates.{IsRenamedState, renamed_room, renamed_slots}

module _ (old new : Program) (formed : IsFormed old) where
  same_value : (interval : List Bounds → Option Bounds) (s r : StateValue) → IsRenamedState old new s r → value_in interval s ≡ value_in interval r
  same_value interval (Bottom room) (Bottom other) h = refl
  same_value interval (Bottom room) (Reached ys others) h = absurd h
  same_value interval (Reached xs locks) (Bottom other) h = absurd h
  same_value interval (Reached xs locks) (Reached ys others) h = ap interval h.0

  left_renamed : (x : ℕ) (o : Option Bounds) (s r : StateValue) → IsRenamedState old new s r → IsRenamedState old new (with_left s x o) (with_left r x o)
  left_renamed x None s r h = renamed_room old new s r h
  left_renamed x (Some v) (Bottom room) (Bottom other) h = (refl, no_locks_renamed old new)
  left_renamed x (Some v) (Bottom room) (Reached ys others) h = absurd h
  left_renamed x (Some v) (Reached xs locks) (Bottom other) h = absurd h
  left_renamed x (Some v) (Reached xs locks) (Reached ys others) h = (ap (λ (zs : List Bounds). slice_set zs x v) h.0, h.1)

  refined_renamed : (op : Cmp) (local : Option ℕ) (other : Option Bounds) (s r : StateValue) → IsRenamedState old new s r → IsRenamedState old new (refined_by op local other s) (refined_by op local other r)
  refined_renamed op None other s r h = h
  refined_renamed op (Some x) other s r h =
      let left : List Bounds → Option Bounds = λ zs. option_and_then (λ v. option_and_then (refined op v) other) (slice_get zs x) in
      subst (λ (o : Option Bounds). IsRenamedState old new (with_left s x (left (slots_of s))) (with_left r x o)) (ap left (renamed_slots old new s r h)) (left_renamed x (left (slots_of s)) s r h)

  by_other : (op : Cmp) (local : Option ℕ) (interval : List Bounds → Option Bounds) (s r : StateValue) → IsRenamedState old new s r → IsRenamedState old new (refined_by op local (value_in interval s) s) (refined_by op local (value_in interval r) r)
  by_other op local interval s r h =
      subst (λ (o : Option Bounds). IsRenamedState old new (refined_by op local (value_in interval s) s) (refined_by op local o r)) (same_value interval s r h) (refined_renamed op local (value_in interval s) s r h)

  compared_renamed : (op : Cmp) (a b : Reading) (s r : StateValue) → IsRenamedState old new s r → IsRenamedState old new (compared op a b s) (compared op a b r)
  compared_renamed op a b s r h = by_other (turned_of op) b.local a.interval _ _ (by_other op a.local b.interval s r h)

  pub join_renamed : (a b c d : StateValue) → IsRenamedState old new a b → IsRenamedState old new c d → IsRenamedState old new (join_of a c) (join_of b d)
  join_renamed (Bottom room) (Bottom other) c d left right = right
  join_renamed (Bottom room) (Reached ys others) c d left right = absurd left
  join_renamed (Reached xs locks) (Bottom other) c d left right = absurd left
  join_renamed (Reached xs locks) (Reached ys others) (Bottom room) (Bottom other) left right = left
  join_renamed (Reached xs locks) (Reached ys others) (Bottom room) (Reached ws last) left right = absurd right
  join_renamed (Reached xs locks) (Reached ys others) (Reached zs more) (Bottom other) left right = absurd right
  join_renamed (Reached xs locks) (Reached ys others) (Reached zs more) (Reached ws last) left right =
      (λ i. on_each hull (left.0 i) (right.0 i), shared_renamed old new formed locks others more last left.1 right.1)

  -- an expression whose guards give the same
  abbrev IsSteady : Reading → Type 0
  IsSteady a = (wanted : Bool) (s r : StateValue) → IsRenamedState old new s r → IsRenamedState old new (a.guarded wanted s) (a.guarded wanted r)

  compared_by_renamed : (op : BinOp) (a b : Reading) (wanted : Bool) (s r : StateValue) → IsRenamedState old new s r → IsRenamedState old new (compared_by op a b wanted s) (compared_by op a b wanted r)
  compared_by_renamed Lt a b wanted s r h = compared_renamed (as_wanted wanted Less) a b s r h
  compared_by_renamed Le a b wanted s r h = compared_renamed (as_wanted wanted AtMost) a b s r h
  compared_by_renamed Gt a b wanted s r h = compared_renamed (as_wanted wanted Greater) a b s r h
  compared_by_renamed Ge a b wanted s r h = compared_renamed (as_wanted wanted AtLeast) a b s r h
  compared_by_renamed Eq a b wanted s r h = compared_renamed (as_wanted wanted Equal) a b s r h
  compared_by_renamed Ne a b wanted s r h = compared_renamed (as_wanted wanted Unequal) a b s r h
  compared_by_renamed op a b wanted s r h = h

  binary_renamed : (op : BinOp) (a b : Reading) → IsSteady a → IsSteady b → (wanted : Bool) (s r : StateValue) → IsRenamedState old new s r → IsRenamedState old new (guarded_binary op a b wanted s) (guarded_binary op a b wanted r)
  binary_renamed And a b first second true s r h = second true _ _ (first true s r h)
  binary_renamed And a b first second false s r h = join_renamed _ _ _ _ (first false s r h) (second false _ _ (first true s r h))
  binary_renamed Or a b first second true s r h = join_renamed _ _ _ _ (first true s r h) (second true _ _ (first false s r h))
  binary_renamed Or a b first second false s r h = second false _ _ (first false s r h)
  binary_renamed op a b first second wanted s r h = compared_by_renamed op a b wanted s r h

  unary_renamed : (op : UnOp) (a : Reading) → IsSteady a → (wanted : Bool) (s r : StateValue) → IsRenamedState old new s r → IsRenamedState old new (guarded_form (Expr-F.Unary op a) wanted s) (guarded_form (Expr-F.Unary op a) wanted r)
  unary_renamed Neg a steady wanted s r h = h
  unary_renamed Not a steady wanted s r h = steady (not wanted) s r h

  choice_renamed : (b c : Bool) (s r x y : StateValue) → b ≡ c → IsRenamedState old new s r → IsRenamedState old new x y → IsRenamedState old new (if b then s else x) (if c then r else y)
  choice_renamed true true s r x y same first second = first
  choice_renamed true false s r x y same first second = cc
  choice_renamed false true s r x y same first second = cc
  choice_renamed false false s r x y same first second = second

  steady_step : (slots : List Slot) (e : Expr-F Reading) → ((wanted : Bool) (s r : StateValue) → IsRenamedState old new s r → IsRenamedState old new (guarded_form e wanted s) (guarded_form e wanted r)) → IsSteady (reading_step slots e)
  steady_step slots e form wanted s r h =
      choice_renamed (may_be wanted (value_in (interval_step e) s)) (may_be wanted (value_in (interval_step e) r)) (guarded_form e wanted s) (guarded_form e wanted r) (Bottom (room_of s)) (Bottom (room_of r))
      (ap (may_be wanted) (same_value (interval_step e) s r h)) (form wanted s r h) (renamed_room old new s r h)

  steady : (slots : List Slot) (e : Expr) → IsSteady (reading_of slots e)
  steady slots = by_forms (λ (e : Expr). IsSteady (reading_of slots e))
      (λ n w. subst IsSteady (sym (fold-Number Reading (reading_step slots) n w)) (steady_step slots (Expr-F.Number n w) (λ wanted s r h. h)))
      (λ x. subst IsSteady (sym (fold-Local Reading (reading_step slots) x)) (steady_step slots (Expr-F.Local x) (λ wanted s r h. refined_renamed (as_wanted wanted Unequal) (Some x) (Some zero_alone) s r h)))
      (λ g w. subst IsSteady (sym (fold-Global Reading (reading_step slots) g w)) (steady_step slots (Expr-F.Global g w) (λ wanted s r h. h)))
      (λ w. subst IsSteady (sym (fold-Nondet Reading (reading_step slots) w)) (steady_step slots (Expr-F.Nondet w) (λ wanted s r h. h)))
      (λ op a steady_a. subst IsSteady (sym (fold-Unary Reading (reading_step slots) op a)) (steady_step slots (Expr-F.Unary op (reading_of slots a)) (unary_renamed op (reading_of slots a) steady_a)))
      (λ op a b steady_a steady_b. subst IsSteady (sym (fold-Binary Reading (reading_step slots) op a b)) (steady_step slots (Expr-F.Binary op (reading_of slots a) (reading_of slots b)) (binary_renamed op (reading_of slots a) (reading_of slots b) steady_a steady_b)))
      (λ f w args each. subst IsSteady (sym (fold-Call Reading (reading_step slots) f w args)) (steady_step slots (Expr-F.Call f w (map (reading_of slots) args)) (λ wanted s r h. h)))

  pub guard_renamed : (slots : List Slot) (e : Expr) (wanted : Bool) (s r : StateValue) → IsRenamedState old new s r → IsRenamedState old new (guarded_by slots e wanted s) (guarded_by slots e wanted r)
  guard_renamed slots e wanted s r h = steady slots e wanted s r h
