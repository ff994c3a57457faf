-- Slots, and the globals behind them.
use Rattle.std.proofs.Common.{◌≡◌, ◌∙◌, refl, ap, ℕ, zero, suc, ◌+◌, ◌-◌, ◌<◌, ◌≤◌, ℤ, Bool, true, false, cond, List, [], ◌∷◌, ◌++◌, map, length, length-append, Option, Some, None, arith}
use Rattle.std.specs.Prelude.{option_map, slice_get}
use Rattle.std.specs.List.{position_from}
use Rattle.std.specs.Option.{option_or}
use Rattle.std.proofs.lemmas.List.{length-map}
use Rattle.gob_tree.specs.declared.unit.GlobalDecl.{GlobalDecl}
use Rattle.gob_tree.specs.declared.unit.Slot.{Slot}
use Rattle.interval_dom.specs.Bounds.{Bounds}
use Rattle.state_dom.specs.StateValue.{HoldsEach, DescribesEach}
use Rattle.breakpoint_eval.specs.Names.{as_slot, global_named, is_called, local_named, place_named, places_of}

-- ---- one place

pub get_before : {X : Type 0} (xs ys : List X) (i : ℕ) → i < length xs → slice_get (xs ++ ys) i ≡ slice_get xs i
get_before [] ys i within = absurd (omega arith)
get_before (x ∷ xs) ys zero within = refl
get_before (x ∷ xs) ys (suc i) within = get_before xs ys i (omega arith)

pub get_behind : {X : Type 0} (xs ys : List X) (i : ℕ) → length xs ≤ i → slice_get (xs ++ ys) i ≡ slice_get ys (i - length xs)
get_behind [] ys i behind = (let e : i - 0 ≡ i = omega arith in rw e refl)
get_behind (x ∷ xs) ys zero behind = absurd (omega arith)
get_behind (x ∷ xs) ys (suc i) behind = (let e : suc i - suc (length xs) ≡ i - length xs = omega arith in rw e (get_behind xs ys i (omega arith)))

pub get_map : {X Y : Type 0} (f : X → Y) (xs : List X) (i : ℕ) → slice_get (map f xs) i ≡ option_map f (slice_get xs i)
get_map f [] i = refl
get_map f (x ∷ xs) zero = refl
get_map f (x ∷ xs) (suc i) = get_map f xs i

-- ---- names

position_within : {X : Type 0} (t : X → Bool) (first : ℕ) (xs : List X) (i : ℕ) → position_from t first xs ≡ Some i → i < first + length xs
position_within t first [] i e = absurd cc
position_within {X} t first (x ∷ xs) i e = by (t x) (λ is. position_within t (first + 1) xs i is) e
  where
    by : (b : Bool) → (position_from t (first + 1) xs ≡ Some i → i < first + 1 + length xs) → cond b (Some first) (position_from t (first + 1) xs) ≡ Some i → i < first + length (x ∷ xs)
    by true later e = (let same : first ≡ i = cc in omega arith)
    by false later e = (let h = later e in omega arith)

local_within : (slots : List Slot) (name : List ℕ) (i : ℕ) → local_named slots name ≡ Some i → i < length slots
local_within [] name i e = absurd cc
local_within (returned ∷ locals) name i e = (let h = position_within (λ (s : Slot). is_called name s.name) 1 locals i e in omega arith)

global_within : (globals : List GlobalDecl) (name : List ℕ) (g : ℕ) → global_named globals name ≡ Some g → g < length globals
global_within globals name g e = (let h = position_within (λ (d : GlobalDecl). is_called name d.name) 0 globals g e in omega arith)

length-places : (slots : List Slot) (globals : List GlobalDecl) → length (places_of slots globals) ≡ length slots + length globals
length-places slots globals = length-append slots (map as_slot globals) ∙ ap (λ (n : ℕ). length slots + n) (length-map globals as_slot)

-- what a name stands for is a place
pub place_within : (slots : List Slot) (globals : List GlobalDecl) (name : List ℕ) (i : ℕ) → place_named slots globals name ≡ Some i → i < length (places_of slots globals)
place_within slots globals name i e = by (local_named slots name) (global_named globals name) refl refl e
  where
    by : (a b : Option ℕ) → local_named slots name ≡ a → global_named globals name ≡ b → option_or a (option_map (λ (g : ℕ). length slots + g) b) ≡ Some i → i < length (places_of slots globals)
    by (Some j) b is is' e = (let same : j ≡ i = cc in let h = local_within slots name j is in let all = length-places slots globals in omega arith)
    by None (Some g) is is' e = (let same : length slots + g ≡ i = cc in let h = global_within globals name g is' in let all = length-places slots globals in omega arith)
    by None None is is' e = absurd cc

-- ---- numbers of slots and then of globals

pub HoldsEach-both : (slots more : List Slot) (ns ms : List ℤ) → HoldsEach slots ns → HoldsEach more ms → HoldsEach (slots ++ more) (ns ++ ms)
HoldsEach-both [] more [] ms holds behind = behind
HoldsEach-both [] more (n ∷ ns) ms holds behind = absurd holds
HoldsEach-both (slot ∷ slots) more [] ms holds behind = absurd holds
HoldsEach-both (slot ∷ slots) more (n ∷ ns) ms holds behind = (holds.0, HoldsEach-both slots more ns ms holds.1 behind)

pub DescribesEach-both : (xs ys : List Bounds) (ns ms : List ℤ) → DescribesEach xs ns → DescribesEach ys ms → DescribesEach (xs ++ ys) (ns ++ ms)
DescribesEach-both [] ys [] ms described behind = behind
DescribesEach-both [] ys (n ∷ ns) ms described behind = absurd described
DescribesEach-both (x ∷ xs) ys [] ms described behind = absurd described
DescribesEach-both (x ∷ xs) ys (n ∷ ns) ms described behind = (described.0, DescribesEach-both xs ys ns ms described.1 behind)
