-- The thresholds are a set: sorted, and each number kept once.
use Rattle.std.proofs.Common.{◌∙◌, ◌+◌, refl, ap, subst, sym, ℤ, List, [], get_or, arith}
use Rattle.std.specs.Prelude.{IsPermutation, IsSorted}
use Rattle.std.specs.List.{dedup}
use Rattle.std.specs.List.Retain.{IsFiltered, DiffersFromLast}
use Rattle.std.specs.List.Sorted.{IsStrictlySortedBy}
use Rattle.std.specs.Ordering.{int_cmp, int_eq, is_lt, ordering_reverse}
use Rattle.std.proofs.lemmas.Bool.Decides.{Decides-int_eq}
use Rattle.std.proofs.lemmas.Cmp.{int_cmp_total, int_eq_equiv}
use Rattle.std.proofs.lemmas.List.Filters.{dedup_is}
use Rattle.std.proofs.lemmas.List.Kept.{Contains-dedup, Contains-from_dedup, IsStrictlySortedBy-dedup}
use Rattle.std.proofs.lemmas.List.Sorted.{Contains-permutation, IsPermutation-sym}
use Rattle.std.proofs.lemmas.Map.Keys.{Less-from_sorted}
use Rattle.state_dom.specs.ThresholdValues.{HasSameMembers}

pub HasSameMembers-permutation : (xs ys : List ℤ) → IsPermutation xs ys → HasSameMembers xs ys
HasSameMembers-permutation xs ys moved = λ n. (λ one. Contains-permutation xs ys n moved one, λ one. Contains-permutation ys xs n (IsPermutation-sym xs ys moved) one)

pub HasSameMembers-trans : (xs ys zs : List ℤ) → HasSameMembers xs ys → HasSameMembers ys zs → HasSameMembers xs zs
HasSameMembers-trans xs ys zs first second = λ n. (λ one. (second n).0 ((first n).0 one), λ one. (first n).1 ((second n).1 one))

same_members_dedup : (xs : List ℤ) → HasSameMembers xs (dedup int_eq xs)
same_members_dedup xs = λ n. (λ one. Contains-dedup int_eq_equiv (λ a b same. (Decides-int_eq a b).0 same) xs n one, λ one. Contains-from_dedup int_eq xs n one)

-- what is left where a number that equals the one before it goes
pub HasSameMembers-kept : (xs ys : List ℤ) → IsFiltered (DiffersFromLast int_eq) [] xs ys → HasSameMembers xs ys
HasSameMembers-kept xs ys kept = subst (λ (zs : List ℤ). HasSameMembers xs zs) (sym (dedup_is int_eq xs ys kept)) (same_members_dedup xs)

pub IsStrictlySortedBy-kept : (xs ys : List ℤ) → IsFiltered (DiffersFromLast int_eq) [] xs ys → IsSorted int_cmp xs → IsStrictlySortedBy int_cmp ys
IsStrictlySortedBy-kept xs ys kept sorted = subst (λ (zs : List ℤ). IsStrictlySortedBy int_cmp zs) (sym (dedup_is int_eq xs ys kept)) (IsStrictlySortedBy-dedup int_cmp_total (λ a b. refl) xs sorted)

-- numbers of which each is below the next are in order
pub IsSorted-once : (xs : List ℤ) → IsStrictlySortedBy int_cmp xs → IsSorted int_cmp xs
IsSorted-once xs once = λ k d low within.
    ap is_lt (int_cmp_total.antisymm (get_or xs (k + 1) d) (get_or xs k d) ∙ ap ordering_reverse (Less-from_sorted int_cmp xs k (k + 1) d once (omega arith) within))
