-- A guard keeps the shape of a state, and brings no mutex.
use Rattle.std.proofs.Common.{◌≡◌, ℕ, zero, suc, Bool, true, false, cond, not, List, [], ◌∷◌, map, Option, None, Some, refl, sym, ap, subst, true≢false, is_some}
use Rattle.std.specs.Prelude.{slice_get, int_le}
use Rattle.std.specs.Option.{option_and_then}
use Rattle.gob_tree.specs.declared.expr.BinOp.{BinOp}
use Rattle.gob_tree.specs.declared.expr.BinOp.TheVariants.{Add, Sub, Mul, Div, Rem, Lt, Le, Gt, Ge, Eq, Ne, And, Or}
use Rattle.gob_tree.specs.declared.expr.Expr.{Expr}
use Rattle.gob_tree.specs.declared.expr.Expr.TheOpen.{Expr-F}
use Rattle.gob_tree.specs.declared.expr.UnOp.{UnOp}
use Rattle.gob_tree.specs.declared.expr.UnOp.TheVariants.{Neg, Not}
use Rattle.gob_tree.specs.declared.unit.Slot.{Slot}
use Rattle.gob_tree.proofs.Folds.{fold-Number, fold-Local, fold-Global, fold-Nondet, fold-Unary, fold-Binary, fold-Call}
use Rattle.gob_tree.proofs.Induct.{by_forms}
use Rattle.interval_dom.specs.declared.cmp.Cmp.{Cmp}
use Rattle.interval_dom.specs.declared.cmp.Cmp.TheVariants.{Lt as Less, Le as AtMost, Gt as Greater, Ge as AtLeast, Eq as Equal, Ne as Unequal}
use Rattle.interval_dom.specs.Bounds.{Bounds, Covers}
use Rattle.interval_dom.specs.Comparisons.{cut, refined, turned_of}
use Rattle.interval_dom.proofs.Comparing.{Covers-cut}
use Rattle.interval_dom.proofs.Within.{Covers-trans}
use Rattle.lockset_dom.specs.Members.{Includes}
use Rattle.lockset_dom.proofs.Membership.{Holds-no_locks, Holds-shared_members}
use Rattle.c_meaning.specs.Demand.{slot_width}
use Rattle.state_dom.specs.Evaluation.{Reading, as_wanted, compared, guarded_binary, guarded_by, guarded_form, interval_step, reading_of, reading_step, refined_by, value_in, with_left}
use Rattle.state_dom.specs.Operators.{full_of, may_be, zero_alone}
use Rattle.state_dom.specs.StateValue.{StateValue, Bottom, Reached, FitsEach, HasShape, join_of, locks_of, room_of}
use Rattle.constraint_sys.proofs.Shaping.{FitsEach-set, HasShape-join, room_of-shaped}

-- r has the shape, and holds no mutex that s doesn't
pub record IsKept (slots : List Slot) (s r : StateValue) : Type 0 where
  pub shape : HasShape slots r
  pub locks : Includes (locks_of s) (locks_of r)

module _ (slots : List Slot) where
  abbrev Keeps : (StateValue → StateValue) → Type 0
  Keeps f = (s : StateValue) → HasShape slots s → IsKept slots s (f s)

  kept_itself : Keeps (λ s. s)
  kept_itself s shape = record { shape = shape; locks = λ m held. held }

  kept_bottom : (s : StateValue) → HasShape slots s → IsKept slots s (Bottom (room_of s))
  kept_bottom s shape = record { shape = room_of-shaped slots s shape; locks = λ m held. absurd (Holds-no_locks m held) }

  kept_then : (f g : StateValue → StateValue) → Keeps f → Keeps g → Keeps (λ s. g (f s))
  kept_then f g first second s shape =
      let a = first s shape in
      let b = second (f s) a.shape in
      record { shape = b.shape; locks = λ m held. a.locks m (b.locks m held) }

  joined_locks : (s a b : StateValue) → Includes (locks_of s) (locks_of a) → Includes (locks_of s) (locks_of b) → Includes (locks_of s) (locks_of (join_of a b))
  joined_locks s (Bottom room) b left right = right
  joined_locks s (Reached xs l) (Bottom room) left right = left
  joined_locks s (Reached xs l) (Reached ys k) left right = λ m held. left m ((Holds-shared_members l k m).0 held).0

  kept_join : (f g : StateValue → StateValue) → Keeps f → Keeps g → Keeps (λ s. join_of (f s) (g s))
  kept_join f g first second s shape =
      let a = first s shape in
      let b = second s shape in
      record { shape = HasShape-join slots (f s) (g s) a.shape b.shape; locks = joined_locks s (f s) (g s) a.locks b.locks }

  kept_choice : (b : Bool) (s r q : StateValue) → IsKept slots s r → IsKept slots s q → IsKept slots s (cond b r q)
  kept_choice true s r q first second = first
  kept_choice false s r q first second = second

-- ---- refined slots
fits_at : (slots : List Slot) (xs : List Bounds) (x : ℕ) (v : Bounds) → FitsEach slots xs → slice_get xs x ≡ Some v → Covers (full_of (slot_width slots x)) v
fits_at slots [] x v fits at = absurd (true≢false (sym (ap is_some at)))
fits_at [] (y ∷ xs) x v fits at = absurd fits
fits_at (slot ∷ slots) (y ∷ xs) zero v fits at = (let same : y ≡ v = cc at in subst (λ (z : Bounds). Covers (full_of slot.width) z) same fits.0)
fits_at (slot ∷ slots) (y ∷ xs) (suc x) v fits at = fits_at slots xs x v fits.1 at

module _ (slots : List Slot) (xs : List Bounds) (l x : ℕ) (fits : FitsEach slots xs) where
  abbrev state : StateValue
  state = Reached xs l

  left_by : (op : Cmp) (v y : Bounds) → Covers (full_of (slot_width slots x)) v → (b : Bool) → IsKept slots state (with_left state x (cond b (Some (cut op v y)) None))
  left_by op v y within false = kept_bottom slots state fits
  left_by op v y within true = record {
    shape = FitsEach-set slots xs x (cut op v y) fits (Covers-trans (full_of (slot_width slots x)) v (cut op v y) within (Covers-cut op v y));
    locks = λ m held. held;
  }

  left_with : (op : Cmp) (v : Bounds) → Covers (full_of (slot_width slots x)) v → (other : Option Bounds) → IsKept slots state (with_left state x (option_and_then (refined op v) other))
  left_with op v within None = kept_bottom slots state fits
  left_with op v within (Some y) = left_by op v y within (int_le (cut op v y).lo (cut op v y).hi)

  left_of : (op : Cmp) (other : Option Bounds) (o : Option Bounds) → slice_get xs x ≡ o → IsKept slots state (with_left state x (option_and_then (λ v. option_and_then (refined op v) other) o))
  left_of op other None at = kept_bottom slots state fits
  left_of op other (Some v) at = left_with op v (fits_at slots xs x v fits at) other

pub kept_refined : (slots : List Slot) (op : Cmp) (local : Option ℕ) (other : Option Bounds) → (s : StateValue) → HasShape slots s → IsKept slots s (refined_by op local other s)
kept_refined slots op None other s shape = kept_itself slots s shape
kept_refined slots op (Some x) other (Bottom room) shape = kept_bottom slots (Bottom room) shape
kept_refined slots op (Some x) other (Reached xs l) shape = left_of slots xs l x shape op other (slice_get xs x) refl

module _ (slots : List Slot) where
  kept_compared : (op : Cmp) (a b : Reading) (s : StateValue) → HasShape slots s → IsKept slots s (compared op a b s)
  kept_compared op a b s shape =
      let first = kept_refined slots op a.local (value_in b.interval s) s shape in
      let mid = refined_by op a.local (value_in b.interval s) s in
      let second = kept_refined slots (turned_of op) b.local (value_in a.interval mid) mid first.shape in
      record { shape = second.shape; locks = λ m held. first.locks m (second.locks m held) }

  -- an expression whose guards keep states
  abbrev pub IsGood : Reading → Type 0
  IsGood r = (wanted : Bool) (s : StateValue) → HasShape slots s → IsKept slots s (r.guarded wanted s)

  kept_binary : (op : BinOp) (a b : Reading) → IsGood a → IsGood b → (wanted : Bool) (s : StateValue) → HasShape slots s → IsKept slots s (guarded_binary op a b wanted s)
  kept_binary And a b first second true s shape = kept_then slots (a.guarded true) (b.guarded true) (first true) (second true) s shape
  kept_binary And a b first second false s shape =
      kept_join slots (a.guarded false) (λ r. b.guarded false (a.guarded true r)) (first false) (kept_then slots (a.guarded true) (b.guarded false) (first true) (second false)) s shape
  kept_binary Or a b first second true s shape =
      kept_join slots (a.guarded true) (λ r. b.guarded true (a.guarded false r)) (first true) (kept_then slots (a.guarded false) (b.guarded true) (first false) (second true)) s shape
  kept_binary Or a b first second false s shape = kept_then slots (a.guarded false) (b.guarded false) (first false) (second false) s shape
  kept_binary Lt a b first second wanted s shape = kept_compared (as_wanted wanted Less) a b s shape
  kept_binary Le a b first second wanted s shape = kept_compared (as_wanted wanted AtMost) a b s shape
  kept_binary Gt a b first second wanted s shape = kept_compared (as_wanted wanted Greater) a b s shape
  kept_binary Ge a b first second wanted s shape = kept_compared (as_wanted wanted AtLeast) a b s shape
  kept_binary Eq a b first second wanted s shape = kept_compared (as_wanted wanted Equal) a b s shape
  kept_binary Ne a b first second wanted s shape = kept_compared (as_wanted wanted Unequal) a b s shape
  kept_binary Add a b first second wanted s shape = kept_itself slots s shape
  kept_binary Sub a b first second wanted s shape = kept_itself slots s shape
  kept_binary Mul a b first second wanted s shape = kept_itself slots s shape
  kept_binary Div a b first second wanted s shape = kept_itself slots s shape
  kept_binary Rem a b first second wanted s shape = kept_itself slots s shape

  kept_unary : (op : UnOp) (a : Reading) → IsGood a → (wanted : Bool) (s : StateValue) → HasShape slots s → IsKept slots s (guarded_form (Expr-F.Unary op a) wanted s)
  kept_unary Neg a good wanted s shape = kept_itself slots s shape
  kept_unary Not a good wanted s shape = good (not wanted) s shape

  good_step : (e : Expr-F Reading) → ((wanted : Bool) (s : StateValue) → HasShape slots s → IsKept slots s (guarded_form e wanted s)) → IsGood (reading_step slots e)
  good_step e form wanted s shape =
      kept_choice slots (may_be wanted (value_in (interval_step e) s)) s (guarded_form e wanted s) (Bottom (room_of s)) (form wanted s shape) (kept_bottom slots s shape)

  good : (e : Expr) → IsGood (reading_of slots e)
  good = by_forms (λ (e : Expr). IsGood (reading_of slots e))
      (λ n w. subst IsGood (sym (fold-Number Reading (reading_step slots) n w)) (good_step (Expr-F.Number n w) (λ wanted. kept_itself slots)))
      (λ x. subst IsGood (sym (fold-Local Reading (reading_step slots) x)) (good_step (Expr-F.Local x) (λ wanted s shape. kept_refined slots (as_wanted wanted Unequal) (Some x) (Some zero_alone) s shape)))
      (λ g w. subst IsGood (sym (fold-Global Reading (reading_step slots) g w)) (good_step (Expr-F.Global g w) (λ wanted. kept_itself slots)))
      (λ w. subst IsGood (sym (fold-Nondet Reading (reading_step slots) w)) (good_step (Expr-F.Nondet w) (λ wanted. kept_itself slots)))
      (λ op a good_a. subst IsGood (sym (fold-Unary Reading (reading_step slots) op a)) (good_step (Expr-F.Unary op (reading_of slots a)) (kept_unary op (reading_of slots a) good_a)))
      (λ op a b good_a good_b. subst IsGood (sym (fold-Binary Reading (reading_step slots) op a b)) (good_step (Expr-F.Binary op (reading_of slots a) (reading_of slots b)) (kept_binary op (reading_of slots a) (reading_of slots b) good_a good_b)))
      (λ f w args each. subst IsGood (sym (fold-Call Reading (reading_step slots) f w args)) (good_step (Expr-F.Call f w (map (reading_of slots) args)) (λ wanted. kept_itself slots)))

pub kept_guarded : (slots : List Slot) (e : Expr) (wanted : Bool) (s : StateValue) → HasShape slots s → IsKept slots s (guarded_by slots e wanted s)
kept_guarded slots e wanted s shape = good slots e wanted s shape
