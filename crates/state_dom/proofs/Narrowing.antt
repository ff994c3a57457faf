-- A guard narrows intervals, and keeps the locks.
use Rattle.std.proofs.Common.{◌≡◌, ◌∙◌, refl, sym, ap, subst, ℕ, suc, Bool, true, false, List, [], ◌∷◌, length, map, Option, Some, None, IfSome, arith}
use Rattle.std.specs.Prelude.{slice_get, not, option_and_then}
use Rattle.std.proofs.lemmas.Bool.{cond_both}
use Rattle.std.proofs.lemmas.Int.{ints, clamps}
use Rattle.gob_tree.specs.declared.expr.BinOp.{BinOp}
use Rattle.gob_tree.specs.declared.expr.BinOp.TheVariants.{Add, Sub, Mul, Div, Rem, Lt, Le, Gt, Ge, Eq, Ne, And, Or}
use Rattle.gob_tree.specs.declared.expr.Expr.{Expr}
use Rattle.gob_tree.specs.declared.expr.Expr.TheOpen.{Expr-F}
use Rattle.gob_tree.specs.declared.expr.UnOp.{UnOp}
use Rattle.gob_tree.specs.declared.expr.UnOp.TheVariants.{Neg, Not}
use Rattle.gob_tree.specs.declared.unit.Slot.{Slot}
use Rattle.gob_tree.proofs.Folds.{fold-Number, fold-Local, fold-Global, fold-Nondet, fold-Unary, fold-Binary, fold-Call}
use Rattle.gob_tree.proofs.Induct.{by_forms}
use Rattle.interval_dom.specs.declared.cmp.Cmp.{Cmp}
use Rattle.interval_dom.specs.declared.cmp.Cmp.TheVariants.{Ne as Unequal}
use Rattle.interval_dom.specs.Bounds.{Bounds, Covers, hull}
use Rattle.interval_dom.specs.Comparisons.{turned_of, refined}
use Rattle.interval_dom.proofs.Comparing.{refined-within}
use Rattle.interval_dom.proofs.Within.{Covers-trans}
use Rattle.state_dom.specs.Evaluation.{Reading, reading_step, reading_of, guarded_by, guarded_step, guarded_form, guarded_binary, compared_by, compared, refined_by, with_left, value_in, as_wanted, interval_step}
use Rattle.state_dom.specs.Laws.{GuardNarrows}
use Rattle.state_dom.specs.Operators.{may_be, zero_alone}
use Rattle.state_dom.specs.StateValue.{StateValue, Bottom, Reached, room_of, CoversEach, FitsEach, HasShape, Narrows, on_each, join_of}
use Rattle.lockset_dom.specs.Members.{shared_members}
use Rattle.state_dom.proofs.Bounding.{CoversEach-refl, locks-covered}
use Rattle.state_dom.proofs.Ordering.{CoversEach-trans, length-covered}
use Rattle.state_dom.proofs.Slots.{CoversEach-set}

pub Narrows-refl : (s : StateValue) → Narrows s s
Narrows-refl (Bottom room) = refl
Narrows-refl (Reached xs locks) = (CoversEach-refl xs, refl)

pub Narrows-Bottom : (s : StateValue) → Narrows s (Bottom (room_of s))
Narrows-Bottom (Bottom room) = refl
Narrows-Bottom (Reached xs locks) = refl

pub Narrows-trans : (a b c : StateValue) → Narrows a b → Narrows b c → Narrows a c
Narrows-trans (Bottom room) b c first second = subst (λ (s : StateValue). Narrows s c) first second
Narrows-trans (Reached xs locks) (Bottom room) c first second = subst (Narrows (Reached xs locks)) (sym second) first
Narrows-trans (Reached xs locks) (Reached ys others) (Bottom room) first second = second ∙ sym (length-covered xs ys first.0)
Narrows-trans (Reached xs locks) (Reached ys others) (Reached zs last) first second = (CoversEach-trans xs ys zs first.0 second.0, second.1 ∙ first.1)

-- the room stays
pub room_of-narrowed : (s t : StateValue) → Narrows s t → room_of t ≡ room_of s
room_of-narrowed (Bottom room) t narrow = ap room_of narrow
room_of-narrowed (Reached xs locks) (Bottom room) narrow = narrow
room_of-narrowed (Reached xs locks) (Reached ys others) narrow = sym (length-covered xs ys narrow.0)

FitsEach-covered : (slots : List Slot) (xs ys : List Bounds) → FitsEach slots xs → CoversEach xs ys → FitsEach slots ys
FitsEach-covered [] [] [] fits covers = tt
FitsEach-covered [] [] (y ∷ ys) fits covers = absurd covers
FitsEach-covered [] (x ∷ xs) ys fits covers = absurd fits
FitsEach-covered (slot ∷ slots) [] ys fits covers = absurd fits
FitsEach-covered (slot ∷ slots) (x ∷ xs) [] fits covers = absurd covers
FitsEach-covered (slot ∷ slots) (x ∷ xs) (y ∷ ys) fits covers = (Covers-trans _ x y fits.0 covers.0, FitsEach-covered slots xs ys fits.1 covers.1)

length-shaped : (slots : List Slot) (xs : List Bounds) → FitsEach slots xs → length xs ≡ length slots
length-shaped [] [] fits = refl
length-shaped [] (x ∷ xs) fits = absurd fits
length-shaped (slot ∷ slots) [] fits = absurd fits
length-shaped (slot ∷ slots) (x ∷ xs) fits = ap suc (length-shaped slots xs fits.1)

-- so does the shape
pub HasShape-narrowed : (slots : List Slot) (s t : StateValue) → Narrows s t → HasShape slots s → HasShape slots t
HasShape-narrowed slots (Bottom room) t narrow shape = subst (HasShape slots) (sym narrow) shape
HasShape-narrowed slots (Reached xs locks) (Bottom room) narrow shape = narrow ∙ length-shaped slots xs shape
HasShape-narrowed slots (Reached xs locks) (Reached ys others) narrow shape = FitsEach-covered slots xs ys shape narrow.0

-- ---- one refinement

left_narrows : (op : Cmp) (xs : List Bounds) (locks x : ℕ) (v : Bounds) (o : Option Bounds) → slice_get xs x ≡ Some v → IfSome o (λ u. Covers v u) → Narrows (Reached xs locks) (with_left (Reached xs locks) x o)
left_narrows op xs locks x v None at within = refl
left_narrows op xs locks x v (Some u) at within = (CoversEach-set xs x v u at within, refl)

slot_narrows : (op : Cmp) (xs : List Bounds) (locks x : ℕ) (other : Option Bounds) (o : Option Bounds) → slice_get xs x ≡ o
    → Narrows (Reached xs locks) (with_left (Reached xs locks) x (option_and_then (λ v. option_and_then (refined op v) other) o))
slot_narrows op xs locks x other None at = refl
slot_narrows op xs locks x None (Some v) at = refl
slot_narrows op xs locks x (Some y) (Some v) at = left_narrows op xs locks x v (refined op v y) at (refined-within op v y)

pub refined_by-narrows : (op : Cmp) (local : Option ℕ) (other : Option Bounds) (s : StateValue) → Narrows s (refined_by op local other s)
refined_by-narrows op None other s = Narrows-refl s
refined_by-narrows op (Some x) other (Bottom room) = refl
refined_by-narrows op (Some x) other (Reached xs locks) = slot_narrows op xs locks x other (slice_get xs x) refl

pub compared-narrows : (op : Cmp) (a b : Reading) (s : StateValue) → Narrows s (compared op a b s)
compared-narrows op a b s =
    let first = refined_by op a.local (value_in b.interval s) s in
    Narrows-trans s first _ (refined_by-narrows op a.local (value_in b.interval s) s) (refined_by-narrows (turned_of op) b.local (value_in a.interval first) first)

-- ---- joins of two narrower states

shared_same : (locks : ℕ) → shared_members locks locks ≡ locks
shared_same locks = locks-covered locks locks (λ m held. held)

CoversEach-joined : (xs ys zs : List Bounds) → CoversEach xs ys → CoversEach xs zs → CoversEach xs (on_each hull ys zs)
CoversEach-joined [] [] zs left right = tt
CoversEach-joined [] (y ∷ ys) zs left right = absurd left
CoversEach-joined (x ∷ xs) [] zs left right = absurd left
CoversEach-joined (x ∷ xs) (y ∷ ys) [] left right = absurd right
CoversEach-joined (x ∷ xs) (y ∷ ys) (z ∷ zs) left right =
    ((omega (arith, ints, clamps, left.0.0, right.0.0), omega (arith, ints, clamps, left.0.1, right.0.1)), CoversEach-joined xs ys zs left.1 right.1)

pub join_of-narrows : (s a b : StateValue) → Narrows s a → Narrows s b → Narrows s (join_of a b)
join_of-narrows (Bottom room) a b left right = rw (left, right) refl
join_of-narrows (Reached xs locks) (Bottom room) b left right = right
join_of-narrows (Reached xs locks) (Reached ys others) (Bottom room) left right = left
join_of-narrows (Reached xs locks) (Reached ys others) (Reached zs last) left right =
    (CoversEach-joined xs ys zs left.0 right.0, rw (left.1, right.1) (shared_same locks))

-- ---- expressions

abbrev pub ReadingNarrows : Reading → Type 0
ReadingNarrows r = (wanted : Bool) (s : StateValue) → Narrows s (r.guarded wanted s)

compared_by-narrows : (op : BinOp) (a b : Reading) (wanted : Bool) (s : StateValue) → Narrows s (compared_by op a b wanted s)
compared_by-narrows Add a b wanted s = Narrows-refl s
compared_by-narrows Sub a b wanted s = Narrows-refl s
compared_by-narrows Mul a b wanted s = Narrows-refl s
compared_by-narrows Div a b wanted s = Narrows-refl s
compared_by-narrows Rem a b wanted s = Narrows-refl s
compared_by-narrows Lt a b wanted s = compared-narrows _ a b s
compared_by-narrows Le a b wanted s = compared-narrows _ a b s
compared_by-narrows Gt a b wanted s = compared-narrows _ a b s
compared_by-narrows Ge a b wanted s = compared-narrows _ a b s
compared_by-narrows Eq a b wanted s = compared-narrows _ a b s
compared_by-narrows Ne a b wanted s = compared-narrows _ a b s
compared_by-narrows And a b wanted s = Narrows-refl s
compared_by-narrows Or a b wanted s = Narrows-refl s

guarded_binary-narrows : (op : BinOp) (a b : Reading) (wanted : Bool) (s : StateValue) → ReadingNarrows a → ReadingNarrows b → Narrows s (guarded_binary op a b wanted s)
guarded_binary-narrows And a b true s left right = Narrows-trans s (a.guarded true s) _ (left true s) (right true (a.guarded true s))
guarded_binary-narrows And a b false s left right = join_of-narrows s _ _ (left false s) (Narrows-trans s (a.guarded true s) _ (left true s) (right false (a.guarded true s)))
guarded_binary-narrows Or a b true s left right = join_of-narrows s _ _ (left true s) (Narrows-trans s (a.guarded false s) _ (left false s) (right true (a.guarded false s)))
guarded_binary-narrows Or a b false s left right = Narrows-trans s (a.guarded false s) _ (left false s) (right false (a.guarded false s))
guarded_binary-narrows Add a b wanted s left right = compared_by-narrows Add a b wanted s
guarded_binary-narrows Sub a b wanted s left right = compared_by-narrows Sub a b wanted s
guarded_binary-narrows Mul a b wanted s left right = compared_by-narrows Mul a b wanted s
guarded_binary-narrows Div a b wanted s left right = compared_by-narrows Div a b wanted s
guarded_binary-narrows Rem a b wanted s left right = compared_by-narrows Rem a b wanted s
guarded_binary-narrows Lt a b wanted s left right = compared_by-narrows Lt a b wanted s
guarded_binary-narrows Le a b wanted s left right = compared_by-narrows Le a b wanted s
guarded_binary-narrows Gt a b wanted s left right = compared_by-narrows Gt a b wanted s
guarded_binary-narrows Ge a b wanted s left right = compared_by-narrows Ge a b wanted s
guarded_binary-narrows Eq a b wanted s left right = compared_by-narrows Eq a b wanted s
guarded_binary-narrows Ne a b wanted s left right = compared_by-narrows Ne a b wanted s

-- a level of a guard, whose form narrows
step_narrows : (e : Expr-F Reading) → ((wanted : Bool) (s : StateValue) → Narrows s (guarded_form e wanted s)) → (wanted : Bool) (s : StateValue) → Narrows s (guarded_step e wanted s)
step_narrows e form wanted s =
    cond_both (may_be wanted (value_in (interval_step e) s)) (guarded_form e wanted s) (Bottom (room_of s)) (λ (t : StateValue). Narrows s t) (λ may. form wanted s) (λ never. Narrows-Bottom s)

not_narrows : (op : UnOp) (a : Reading) → ReadingNarrows a → (wanted : Bool) (s : StateValue) → Narrows s (guarded_form (Expr-F.Unary op a) wanted s)
not_narrows Neg a narrow wanted s = Narrows-refl s
not_narrows Not a narrow wanted s = narrow (not wanted) s

module _ (slots : List Slot) where
  pub expr_narrows : (e : Expr) → ReadingNarrows (reading_of slots e)
  expr_narrows = by_forms (λ e. ReadingNarrows (reading_of slots e))
      (λ n w. subst ReadingNarrows (sym (fold-Number Reading (reading_step slots) n w)) (step_narrows (Expr-F.Number n w) (λ wanted s. Narrows-refl s)))
      (λ x. subst ReadingNarrows (sym (fold-Local Reading (reading_step slots) x)) (step_narrows (Expr-F.Local x) (λ wanted s. refined_by-narrows (as_wanted wanted Unequal) (Some x) (Some zero_alone) s)))
      (λ g w. subst ReadingNarrows (sym (fold-Global Reading (reading_step slots) g w)) (step_narrows (Expr-F.Global g w) (λ wanted s. Narrows-refl s)))
      (λ w. subst ReadingNarrows (sym (fold-Nondet Reading (reading_step slots) w)) (step_narrows (Expr-F.Nondet w) (λ wanted s. Narrows-refl s)))
      (λ op a narrow. subst ReadingNarrows (sym (fold-Unary Reading (reading_step slots) op a)) (step_narrows (Expr-F.Unary op (reading_of slots a)) (not_narrows op (reading_of slots a) narrow)))
      (λ op a b left right. subst ReadingNarrows (sym (fold-Binary Reading (reading_step slots) op a b))
      (step_narrows (Expr-F.Binary op (reading_of slots a) (reading_of slots b)) (λ wanted s. guarded_binary-narrows op (reading_of slots a) (reading_of slots b) wanted s left right)))
      (λ f w args each. subst ReadingNarrows (sym (fold-Call Reading (reading_step slots) f w args)) (step_narrows (Expr-F.Call f w (map (reading_of slots) args)) (λ wanted s. Narrows-refl s)))

pub guard_narrows : GuardNarrows
guard_narrows slots s e wanted = expr_narrows slots e wanted s

-- a guarded state keeps its shape
pub HasShape-guarded : (slots : List Slot) (s : StateValue) (e : Expr) (wanted : Bool) → HasShape slots s → HasShape slots (guarded_by slots e wanted s)
HasShape-guarded slots s e wanted shape = HasShape-narrowed slots s (guarded_by slots e wanted s) (guard_narrows slots s e wanted) shape
