-- The entries and points of an initial table, one by one.
use Rattle.std.proofs.Common.{◌≡◌, ℕ, zero, suc, ◌+◌, ◌-◌, ◌<◌, ◌≤◌, List, [], ◌∷◌, ◌++◌, map, sym, ap, ◌∙◌, arith}
use Rattle.std.specs.Ordering.{nat_cmp}
use Rattle.std.specs.List.{AllByRecursion}
use Rattle.std.specs.List.Sorted.{IsStrictlySortedBy}
use Rattle.std.specs.declared.cmp.Ordering.TheVariants.{Less}
use Rattle.std.proofs.lemmas.Bool.Decides.{nat_tests}
use Rattle.std.proofs.lemmas.Cmp.{nat_cmp_total, tied_itself}
use Rattle.std.proofs.lemmas.List.{map-append}
use Rattle.state_dom.specs.StateValue.{Bottom}
use Rattle.constraint_sys.specs.Table.{unknown_cmp}
use Rattle.constraint_sys.specs.Turn.{bottoms, nodes_after_start, numbers_from}
use Rattle.constraint_sys.specs.contracts.unknown.KeyOrd.TheImpl.Laws.{total-law}
use Rattle.constraint_sys.specs.declared.unknown.Key.{Key}
use Rattle.constraint_sys.specs.declared.unknown.Unknown.{Unknown}
use Rattle.constraint_sys.specs.declared.unknown.Unknown.TheVariants.{Point}
use Rattle.constraint_sys.specs.declared.value.Value.{Value}
use Rattle.constraint_sys.specs.declared.value.Value.TheVariants.{State}

numbers_from-snoc : (n count : ℕ) → numbers_from n (suc count) ≡ numbers_from n count ++ (n + count) ∷ []
numbers_from-snoc n zero = ap (λ (m : ℕ). m ∷ []) (omega arith)
numbers_from-snoc n (suc count) =
    let shifted : (n + 1) + count ≡ n + suc count = omega arith in
    ap (λ (l : List ℕ). n ∷ l) (numbers_from-snoc (n + 1) count ∙ ap (λ (m : ℕ). numbers_from (n + 1) count ++ m ∷ []) shifted)

-- the numbers from 1 up to and with n
pub numbers_from-next : (n : ℕ) → 1 ≤ n → numbers_from 1 ((n + 1) - 1) ≡ numbers_from 1 (n - 1) ++ n ∷ []
numbers_from-next zero positive = absurd (omega arith)
numbers_from-next (suc n) positive =
    let more : (suc n + 1) - 1 ≡ suc n = omega arith in
    let less : suc n - 1 ≡ n = omega arith in
    let last : 1 + n ≡ suc n = omega arith in
    ap (λ (m : ℕ). numbers_from 1 m) more ∙ numbers_from-snoc 1 n ∙ ap (λ (m : ℕ). numbers_from 1 n ++ m ∷ []) last ∙ ap (λ (m : ℕ). numbers_from 1 m ++ suc n ∷ []) (sym less)

pub bottoms-next : (room f : ℕ) (key : Key) (n : ℕ) → 1 ≤ n → bottoms room f key (n + 1) ≡ bottoms room f key n ++ (Point f key n, State (Bottom room)) ∷ []
bottoms-next room f key n positive =
    let entry : ℕ → Unknown × Value = λ node. (Point f key node, State (Bottom room)) in
    ap (map entry) (numbers_from-next n positive) ∙ map-append entry (numbers_from 1 (n - 1)) (n ∷ [])

pub nodes_after_start-next : (f : ℕ) (key : Key) (n : ℕ) → 1 ≤ n → nodes_after_start f key (n + 1) ≡ nodes_after_start f key n ++ Point f key n ∷ []
nodes_after_start-next f key n positive =
    let point : ℕ → Unknown = λ node. Point f key node in
    ap (map point) (numbers_from-next n positive) ∙ map-append point (numbers_from 1 (n - 1)) (n ∷ [])

nat_cmp-less : (a b : ℕ) → a < b → nat_cmp a b ≡ Less
nat_cmp-less a b below = grind (arith, nat_tests)

-- of two nodes of a function in a context the one with the lesser number is less
pub Point-less : (f : ℕ) (key : Key) (a b : ℕ) → a < b → unknown_cmp (Point f key a) (Point f key b) ≡ Less
Point-less f key a b below = rw (tied_itself nat_cmp_total f, tied_itself total-law key) (nat_cmp-less a b below)

nodes_above : (f : ℕ) (key : Key) (m first count : ℕ) → m < first → AllByRecursion (λ y. unknown_cmp (Point f key m) y ≡ Less) (map (λ (node : ℕ). Point f key node) (numbers_from first count))
nodes_above f key m first zero below = tt
nodes_above f key m first (suc count) below = (Point-less f key m first below, nodes_above f key m (first + 1) count (omega arith))

nodes_ascend : (f : ℕ) (key : Key) (first count : ℕ) → IsStrictlySortedBy unknown_cmp (map (λ (node : ℕ). Point f key node) (numbers_from first count))
unfolding IsStrictlySortedBy
nodes_ascend f key first zero = tt
nodes_ascend f key first (suc count) = (nodes_above f key first (first + 1) count (omega arith), nodes_ascend f key (first + 1) count)

pub nodes_after_start-ascend : (f : ℕ) (key : Key) (nodes : ℕ) → IsStrictlySortedBy unknown_cmp (nodes_after_start f key nodes)
nodes_after_start-ascend f key nodes = nodes_ascend f key 1 (nodes - 1)

pub Point-node : (f : ℕ) (key : Key) (a b : ℕ) → Point f key a ≡ Point f key b → a ≡ b
Point-node f key a b same = cc same
