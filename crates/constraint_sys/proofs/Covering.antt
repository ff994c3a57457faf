-- Values that bound others, and what a raise makes of a value.
use Rattle.std.proofs.Common.{◌≡◌, ℕ, suc, ℤ, ◌≤ℤ◌, true, false, List, [], ◌∷◌, Option, None, Some, refl, sym, ap, ◌∙◌, arith, ◌⊎◌, inr}
use Rattle.std.specs.Prelude.{IsSomeAnd, int_lt, length, slice_get}
use Rattle.std.proofs.lemmas.Bool.{cond_both}
use Rattle.std.proofs.lemmas.Int.{ints}
use Rattle.gob_tree.specs.declared.graph.Program.{Program}
use Rattle.gob_tree.specs.declared.unit.GlobalDecl.{GlobalDecl}
use Rattle.gob_tree.specs.declared.unit.Slot.{Slot}
use Rattle.interval_dom.specs.Bounds.{Bounds, Covers}
use Rattle.interval_dom.specs.Marks.{mark_below, mark_above, widened}
use Rattle.interval_dom.specs.Ranges.{full}
use Rattle.interval_dom.specs.declared.width.Width.TheVariants.{W64}
use Rattle.interval_dom.proofs.Resting.{mark_below-outside, mark_above-outside}
use Rattle.interval_dom.proofs.Within.{Covers-refl, Covers-trans, Covers-wide, cases_Covers, widened-bounds, widened-within}
use Rattle.lockset_dom.proofs.Membership.{Holds-shared_members}
use Rattle.state_dom.specs.Operators.{interval_width_of}
use Rattle.state_dom.specs.StateValue.{StateValue, Bottom, Reached, locks_of, CoversEach, CoversState, on_each, raised_by, FitsEach, HasShape}
use Rattle.state_dom.specs.ThresholdValues.{thresholds_of}
use Rattle.state_dom.proofs.Bounding.{CoversState-refl, raised_by-covered}
use Rattle.state_dom.proofs.Deciding.{cases_CoversState}
use Rattle.constraint_sys.specs.declared.unknown.Unknown.{Unknown}
use Rattle.constraint_sys.specs.declared.unknown.Unknown.TheVariants.{Point, Global}
use Rattle.constraint_sys.specs.declared.value.Value.{Value}
use Rattle.constraint_sys.specs.declared.value.Value.TheVariants.{State, Number}
use Rattle.constraint_sys.specs.Arising.{AreAlike}
use Rattle.constraint_sys.specs.PostSolution.{CoversValue}
use Rattle.constraint_sys.specs.Sound.{IsMutexSet, IsShapedEntry}
use Rattle.constraint_sys.specs.Table.{slots_at}
use Rattle.constraint_sys.specs.Turn.{raised_value}
use Rattle.constraint_sys.proofs.Shaping.{CoversState-raised, HasAllEnds-thresholds, HasShape-raised, room_of-shaped}

-- ---- bounding is transitive
CoversEach-trans : (xs ys zs : List Bounds) → CoversEach xs ys → CoversEach ys zs → CoversEach xs zs
CoversEach-trans [] [] zs first second = second
CoversEach-trans [] (y ∷ ys) zs first second = absurd first
CoversEach-trans (x ∷ xs) [] zs first second = absurd first
CoversEach-trans (x ∷ xs) (y ∷ ys) [] first second = absurd second
CoversEach-trans (x ∷ xs) (y ∷ ys) (z ∷ zs) first second = (Covers-trans x y z first.0 second.0, CoversEach-trans xs ys zs first.1 second.1)

pub CoversState-trans : (a b c : StateValue) → CoversState a b → CoversState b c → CoversState a c
CoversState-trans a b (Bottom room) first second = tt
CoversState-trans a (Bottom r) (Reached zs n) first second = absurd second
CoversState-trans (Bottom r) (Reached ys m) (Reached zs n) first second = absurd first
CoversState-trans (Reached xs l) (Reached ys m) (Reached zs n) first second =
    (CoversEach-trans xs ys zs first.0 second.0, λ k held. second.1 k (first.1 k held))

pub CoversValue-trans : (a b c : Value) → CoversValue (Some a) b → CoversValue (Some b) c → CoversValue (Some a) c
CoversValue-trans (State a) (State b) (State c) first second = CoversState-trans a b c first second
CoversValue-trans (State a) (State b) (Number z) first second = absurd second
CoversValue-trans (State a) (Number y) c first second = absurd first
CoversValue-trans (Number x) (State b) c first second = absurd first
CoversValue-trans (Number x) (Number y) (State c) first second = absurd second
CoversValue-trans (Number x) (Number y) (Number z) first second = Covers-trans x y z first second

pub CoversValue-refl : (v : Value) → CoversValue (Some v) v
CoversValue-refl (State s) = CoversState-refl s
CoversValue-refl (Number x) = Covers-refl x

pub cases_CoversValue : (o : Option Value) (v : Value) → CoversValue o v ⊎ (CoversValue o v → ⊥)
cases_CoversValue None v = inr (λ covers. covers)
cases_CoversValue (Some (State a)) (State b) = cases_CoversState a b
cases_CoversValue (Some (State a)) (Number y) = inr (λ covers. covers)
cases_CoversValue (Some (Number x)) (State b) = inr (λ covers. covers)
cases_CoversValue (Some (Number x)) (Number y) = cases_Covers x y

-- ---- a raised interval or state bounds the old one
lt_means : (x y : ℤ) → int_lt x y ≡ true → x ≤ℤ y
lt_means x y h = grind (arith, ints)

le_itself : (x : ℤ) → x ≤ℤ x
le_itself x = omega (arith, ints)

le_trans : (x y z : ℤ) → x ≤ℤ y → y ≤ℤ z → x ≤ℤ z
le_trans x y z p q = omega (arith, ints)

widened-old : (marks : List ℤ) (x y : Bounds) → Covers (full W64) y → Covers (widened x y marks) x
widened-old marks x y wide = (
  cond_both (int_lt y.lo x.lo) (mark_below marks y.lo) x.lo (λ r. r ≤ℤ x.lo) (λ moved. le_trans (mark_below marks y.lo) y.lo x.lo (mark_below-outside marks y.lo wide.0) (lt_means y.lo x.lo moved)) (λ _. le_itself x.lo),
  cond_both (int_lt x.hi y.hi) (mark_above marks y.hi) x.hi (λ r. x.hi ≤ℤ r) (λ moved. le_trans x.hi y.hi (mark_above marks y.hi) (lt_means x.hi y.hi moved) (mark_above-outside marks y.hi wide.1)) (λ _. le_itself x.hi),
)

CoversEach-raised_old : (marks : List ℤ) (slots : List Slot) (xs ys : List Bounds) → FitsEach slots xs → FitsEach slots ys → CoversEach (on_each (λ x y. widened x y marks) xs ys) xs
CoversEach-raised_old marks [] [] [] left right = tt
CoversEach-raised_old marks [] [] (y ∷ ys) left right = absurd right
CoversEach-raised_old marks [] (x ∷ xs) ys left right = absurd left
CoversEach-raised_old marks (slot ∷ slots) [] ys left right = absurd left
CoversEach-raised_old marks (slot ∷ slots) (x ∷ xs) [] left right = absurd right
CoversEach-raised_old marks (slot ∷ slots) (x ∷ xs) (y ∷ ys) left right =
    (widened-old marks x y (Covers-wide (interval_width_of slot.width) y right.0), CoversEach-raised_old marks slots xs ys left.1 right.1)

CoversState-raised_old : (marks : List ℤ) (slots : List Slot) (a b : StateValue) → HasShape slots a → HasShape slots b → CoversState (raised_by marks a b) a
CoversState-raised_old marks slots (Bottom room) b left right = tt
CoversState-raised_old marks slots (Reached xs locks) (Bottom room) left right = CoversState-refl (Reached xs locks)
CoversState-raised_old marks slots (Reached xs locks) (Reached ys other_locks) left right =
    (CoversEach-raised_old marks slots xs ys left right, λ m held. ((Holds-shared_members locks other_locks m).0 held).0)

-- ---- the same of the values of an unknown
module _ (p : Program) where
  number_wide : (g : ℕ) (o : Option GlobalDecl) (x : Bounds) → IsSomeAnd o (λ (decl : GlobalDecl). Covers (full (interval_width_of decl.width)) x) → Covers (full W64) x
  number_wide g None x fits = absurd fits
  number_wide g (Some decl) x fits = Covers-wide (interval_width_of decl.width) x fits

  number_within : (o : Option GlobalDecl) (x y : Bounds) → IsSomeAnd o (λ (decl : GlobalDecl). Covers (full (interval_width_of decl.width)) x) → IsSomeAnd o (λ (decl : GlobalDecl). Covers (full (interval_width_of decl.width)) y)
      → IsSomeAnd o (λ (decl : GlobalDecl). Covers (full (interval_width_of decl.width)) (widened x y (thresholds_of p)))
  number_within None x y old new = absurd old
  number_within (Some decl) x y old new = widened-within (interval_width_of decl.width) (thresholds_of p) x y (HasAllEnds-thresholds p (interval_width_of decl.width)) old new

  pub raised_value-old : (u : Unknown) (old new : Value) → IsShapedEntry p u old → IsShapedEntry p u new → CoversValue (Some (raised_value (thresholds_of p) old new)) old
  raised_value-old (Point f key node) (State a) (State b) left right = CoversState-raised_old (thresholds_of p) (slots_at p f) a b left.shape right.shape
  raised_value-old (Point f key node) (State a) (Number y) left right = absurd right
  raised_value-old (Point f key node) (Number x) b left right = absurd left
  raised_value-old (Global g) (State a) b left right = absurd left
  raised_value-old (Global g) (Number x) (State b) left right = absurd right
  raised_value-old (Global g) (Number x) (Number y) left right = widened-old (thresholds_of p) x y (number_wide g (slice_get p.globals g) y right)

  pub raised_value-new : (u : Unknown) (old new : Value) → IsShapedEntry p u old → IsShapedEntry p u new → CoversValue (Some (raised_value (thresholds_of p) old new)) new
  raised_value-new (Point f key node) (State a) (State b) left right = CoversState-raised (thresholds_of p) (slots_at p f) a b left.shape right.shape
  raised_value-new (Point f key node) (State a) (Number y) left right = absurd right
  raised_value-new (Point f key node) (Number x) b left right = absurd left
  raised_value-new (Global g) (State a) b left right = absurd left
  raised_value-new (Global g) (Number x) (State b) left right = absurd right
  raised_value-new (Global g) (Number x) (Number y) left right = widened-bounds (thresholds_of p) x y (number_wide g (slice_get p.globals g) y right)

  IsMutexSet-raised : (a b : StateValue) → IsMutexSet p (locks_of a) → IsMutexSet p (locks_of b) → IsMutexSet p (locks_of (raised_by (thresholds_of p) a b))
  IsMutexSet-raised (Bottom room) b left right = right
  IsMutexSet-raised (Reached xs locks) (Bottom room) left right = left
  IsMutexSet-raised (Reached xs locks) (Reached ys other_locks) left right = λ m held. left m ((Holds-shared_members locks other_locks m).0 held).0

  pub raised_value-fits : (u : Unknown) (old new : Value) → IsShapedEntry p u old → IsShapedEntry p u new → IsShapedEntry p u (raised_value (thresholds_of p) old new)
  raised_value-fits (Point f key node) (State a) (State b) left right = record {
    within = left.within;
    context = left.context;
    shape = HasShape-raised (thresholds_of p) (HasAllEnds-thresholds p) (slots_at p f) a b left.shape right.shape;
    mutexes = IsMutexSet-raised a b left.mutexes right.mutexes;
  }
  raised_value-fits (Point f key node) (State a) (Number y) left right = absurd right
  raised_value-fits (Point f key node) (Number x) b left right = absurd left
  raised_value-fits (Global g) (State a) b left right = absurd left
  raised_value-fits (Global g) (Number x) (State b) left right = absurd right
  raised_value-fits (Global g) (Number x) (Number y) left right = number_within (slice_get p.globals g) x y left right

  -- one unknown's values are alike
  pub AreAlike-shaped : (u : Unknown) (a b : Value) → IsShapedEntry p u a → IsShapedEntry p u b → AreAlike a b
  AreAlike-shaped (Point f key node) (State a) (State b) left right = room_of-shaped (slots_at p f) a left.shape ∙ sym (room_of-shaped (slots_at p f) b right.shape)
  AreAlike-shaped (Point f key node) (State a) (Number y) left right = absurd right
  AreAlike-shaped (Point f key node) (Number x) b left right = absurd left
  AreAlike-shaped (Global g) (State a) b left right = absurd left
  AreAlike-shaped (Global g) (Number x) (State b) left right = absurd right
  AreAlike-shaped (Global g) (Number x) (Number y) left right = tt

widened-covered : (marks : List ℤ) (x y : Bounds) → Covers x y → widened x y marks ≡ x
widened-covered marks x y covers =
    let low : int_lt y.lo x.lo ≡ false = grind (arith, ints) in
    let high : int_lt x.hi y.hi ≡ false = grind (arith, ints) in
    rw (low, high) refl

-- a value that bounds another isn't raised by it
pub raised_value-same : (marks : List ℤ) (old new : Value) → AreAlike old new → CoversValue (Some old) new → raised_value marks old new ≡ old
raised_value-same marks (State a) (State b) alike covers = ap State (raised_by-covered marks a b alike covers)
raised_value-same marks (State a) (Number y) alike covers = refl
raised_value-same marks (Number x) (State b) alike covers = refl
raised_value-same marks (Number x) (Number y) alike covers = ap Number (widened-covered marks x y covers)

length-on_each : (f : Bounds → Bounds → Bounds) (xs ys : List Bounds) → length xs ≡ length ys → length (on_each f xs ys) ≡ length xs
length-on_each f [] ys same = refl
length-on_each f (x ∷ xs) [] same = absurd (omega arith)
length-on_each f (x ∷ xs) (y ∷ ys) same = ap suc (length-on_each f xs ys (omega arith))

pub AreAlike-raised : (marks : List ℤ) (old new other : Value) → AreAlike old new → AreAlike old other → AreAlike (raised_value marks old new) other
AreAlike-raised marks (State (Bottom room)) (State b) (State c) alike other = sym alike ∙ other
AreAlike-raised marks (State (Reached xs locks)) (State (Bottom room)) (State c) alike other = other
AreAlike-raised marks (State (Reached xs locks)) (State (Reached ys other_locks)) (State c) alike other = length-on_each (λ x y. widened x y marks) xs ys alike ∙ other
AreAlike-raised marks (State a) (State b) (Number z) alike other = absurd other
AreAlike-raised marks (State a) (Number y) c alike other = absurd alike
AreAlike-raised marks (Number x) (State b) c alike other = absurd alike
AreAlike-raised marks (Number x) (Number y) (State c) alike other = absurd other
AreAlike-raised marks (Number x) (Number y) (Number z) alike other = tt
