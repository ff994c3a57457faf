-- Ascending lists, as members come and go.
use Rattle.std.proofs.Common.{◌≡◌, ◌≢◌, ℕ, ◌+◌, ◌-◌, ◌<◌, ◌≤◌, ◌↔◌, inl, inr, false, List, length, get_or, refl, sym, ap, subst, ◌∙◌, arith}
use Rattle.std.specs.Prelude.{Contains, insert, remove, IsSorted}
use Rattle.std.specs.Ordering.{is_lt, ordering_index}
use Rattle.std.specs.declared.cmp.Ordering.{Ordering}
use Rattle.std.specs.declared.cmp.Ordering.TheVariants.{Less, Equal, Greater}
use Rattle.std.specs.Cmp.{IsTotalOrder}
use Rattle.std.specs.List.Sorted.{IsNonDecreasingBy, IsPartitionPoint}
use Rattle.std.proofs.lemmas.Cmp.{tied_itself}
use Rattle.std.proofs.lemmas.Bool.{cases_eq, cases_lt}
use Rattle.std.proofs.lemmas.List.Edits.{get_or-insert_below, get_or-insert_at, get_or-insert_above, length-insert, get_or-remove_below, get_or-remove_above, length-remove}
use Rattle.std.proofs.lemmas.List.Quantifiers.{all_pairs_remove}
use Rattle.std.proofs.lemmas.List.Sorted.{searchable_from_sorted}
use Rattle.constraint_sys.specs.contracts.unknown.UnknownOrd.TheImpl.Laws.{total-law}
use Rattle.constraint_sys.specs.Table.{unknown_cmp}
use Rattle.constraint_sys.specs.declared.unknown.Unknown.{Unknown}
use Rattle.dep_index.specs.Rows.{IsAscending}

module _ {X : Type 0} (cmp : X → X → Ordering) (o : IsTotalOrder cmp) where
  not_lt_above : (x y : X) → cmp x y ≡ Less → is_lt (cmp y x) ≡ false
  not_lt_above x y less = rw (o.antisymm y x, less) refl

  pub IsSorted-from_ascending : (xs : List X) → IsAscending cmp xs → IsSorted cmp xs
  IsSorted-from_ascending xs ascending k d low within = not_lt_above _ _ (ascending k (k + 1) d (omega arith) within)

  less_from_greater : (x y : X) → cmp y x ≡ Greater → cmp x y ≡ Less
  less_from_greater x y greater = rw (o.antisymm x y, greater) refl

  -- what stands before the place is less, and what stands from it on is greater
  pub record IsPlace (xs : List X) (place : ℕ) (y : X) : Type 0 where
    pub within : place ≤ length xs
    pub below : (k : ℕ) (d : X) → k < place → cmp (get_or xs k d) y ≡ Less
    pub above : (k : ℕ) (d : X) → place ≤ k → k < length xs → cmp (get_or xs k d) y ≡ Greater

  pub not_there : (xs : List X) (place : ℕ) (y : X) → cmp y y ≡ Equal → IsPlace xs place y → Contains xs y → ⊥
  not_there xs place y same at (k, within, is) = elim (cases_lt k place) [
    | inl before ↦ (let less : cmp y y ≡ Less = subst (λ (z : X). cmp z y ≡ Less) is (at.below k y before) in cc)
    | inr after ↦ (let greater : cmp y y ≡ Greater = subst (λ (z : X). cmp z y ≡ Greater) is (at.above k y after within) in cc)
  ]

  inserted_above : (xs : List X) (i : ℕ) (y d : X) (k : ℕ) → i < k → i ≤ length xs → get_or (insert xs i y) k d ≡ get_or xs (k - 1) d
  inserted_above xs i y d k after at =
      let shifted : (k - 1) + 1 ≡ k = omega arith in
      subst (λ (n : ℕ). get_or (insert xs i y) n d ≡ get_or xs (k - 1) d) shifted (get_or-insert_above xs i y d (k - 1) (omega arith) at)

  pub IsAscending-insert : (xs : List X) (i : ℕ) (y : X) → IsAscending cmp xs → IsPlace xs i y → IsAscending cmp (insert xs i y)
  IsAscending-insert xs i y ascending at j k d order before_end =
      let inside : k < length xs + 1 = subst (λ (n : ℕ). k < n) (length-insert xs i y at.within) before_end in
      elim (cases_lt k i) [
        | inl both ↦ rw (get_or-insert_below xs i y d j (omega arith) at.within, get_or-insert_below xs i y d k both at.within) (ascending j k d order (omega arith))
        | inr from ↦ elim (cases_eq k i) [
          | inl here ↦ rw (here, get_or-insert_at xs i y d at.within, get_or-insert_below xs i y d j (omega arith) at.within) (at.below j d (omega arith))
          | inr beyond ↦ rw (inserted_above xs i y d k (omega arith) at.within) (elim (cases_lt j i) [
            | inl first ↦ rw (get_or-insert_below xs i y d j first at.within) (ascending j (k - 1) d (omega arith) (omega arith))
            | inr second ↦ elim (cases_eq j i) [
              | inl here ↦ rw (here, get_or-insert_at xs i y d at.within) (less_from_greater _ _ (at.above (k - 1) d (omega arith) (omega arith)))
              | inr later ↦ rw (inserted_above xs i y d j (omega arith) at.within) (ascending (j - 1) (k - 1) d (omega arith) (omega arith))
            ]
          ])
        ]
      ]

  pub IsAscending-remove : (xs : List X) (place : ℕ) → place < length xs → IsAscending cmp xs → IsAscending cmp (remove xs place)
  IsAscending-remove xs place within ascending = all_pairs_remove (λ x y. cmp x y ≡ Less) xs place within ascending

  pub Contains-remove : (xs : List X) (place : ℕ) (q : X) → cmp q q ≡ Equal → place < length xs → IsAscending cmp xs → ((d : X) → get_or xs place d ≡ q) → (y : X) → Contains (remove xs place) y ↔ (Contains xs y × (y ≢ q))
  Contains-remove xs place q same within ascending at y = (
    λ (k, inside, is).
        let len : length (remove xs place) + 1 ≡ length xs = length-remove xs place within in
        elim (cases_lt k place) [
          | inl before ↦
              let there : get_or xs k y ≡ y = sym (get_or-remove_below xs place y k before within) ∙ is in
              ((k, omega arith, there), λ equal. apart (subst (λ (z : X). cmp z (get_or xs place y) ≡ Less) there (ascending k place y before within)) equal)
          | inr after ↦
              let there : get_or xs (k + 1) y ≡ y = sym (get_or-remove_above xs place y k after within) ∙ is in
              ((k + 1, omega arith, there), λ equal. apart_after (subst (λ (z : X). cmp (get_or xs place y) z ≡ Less) there (ascending place (k + 1) y (omega arith) (omega arith))) equal)
        ],
    λ ((k, inside, is), different).
        let len : length (remove xs place) + 1 ≡ length xs = length-remove xs place within in
        elim (cases_lt k place) [
          | inl before ↦ (k, omega arith, get_or-remove_below xs place y k before within ∙ is)
          | inr after ↦ elim (cases_eq k place) [
            | inl here ↦ absurd (different (sym is ∙ ap (λ (n : ℕ). get_or xs n y) here ∙ at y))
            | inr beyond ↦
                let shifted : (k - 1) + 1 ≡ k = omega arith in
                (k - 1, omega arith, get_or-remove_above xs place y (k - 1) (omega arith) within ∙ ap (λ (n : ℕ). get_or xs n y) shifted ∙ is)
          ]
        ],
  )
    where
      apart : cmp y (get_or xs place y) ≡ Less → y ≡ q → ⊥
      apart less equal = (let it : cmp q q ≡ Less = subst (λ (z : X). cmp q z ≡ Less) (at y) (subst (λ (z : X). cmp z (get_or xs place y) ≡ Less) equal less) in cc)

      apart_after : cmp (get_or xs place y) y ≡ Less → y ≡ q → ⊥
      apart_after less equal = (let it : cmp q q ≡ Less = subst (λ (z : X). cmp z q ≡ Less) (at y) (subst (λ (z : X). cmp (get_or xs place y) z ≡ Less) equal less) in cc)

-- where a search ended in vain
pub place_of_sorted : (xs : List Unknown) (q : Unknown) (place : ℕ) → IsSorted unknown_cmp xs → place ≤ length xs → (IsNonDecreasingBy (λ y. ordering_index (unknown_cmp y q)) xs → IsPartitionPoint (λ y. unknown_cmp y q ≡ Less) (λ y. unknown_cmp y q ≡ Greater) xs place) → IsPlace unknown_cmp total-law xs place q
place_of_sorted xs q place ordered bound position =
    let point = position (searchable_from_sorted total-law (λ (y : Unknown). y) xs q ordered) in
    record {
      within = bound;
      below = λ k d before. point.0 k d (omega arith) before;
      above = λ k d after inside. point.1 k d after inside;
    }

pub place_of_search : (slice xs : List Unknown) (q : Unknown) (place : ℕ) → slice ≡ xs → IsAscending unknown_cmp xs → place ≤ length slice → (IsNonDecreasingBy (λ y. ordering_index (unknown_cmp y q)) slice → IsPartitionPoint (λ y. unknown_cmp y q ≡ Less) (λ y. unknown_cmp y q ≡ Greater) slice place) → IsPlace unknown_cmp total-law xs place q
place_of_search slice xs q place is ascending bound position =
    subst (λ (l : List Unknown). IsPlace unknown_cmp total-law l place q) is
    (place_of_sorted slice q place (IsSorted-from_ascending unknown_cmp total-law slice (subst (IsAscending unknown_cmp) (sym is) ascending)) bound position)

pub same_unknown : (u : Unknown) → unknown_cmp u u ≡ Equal
same_unknown u = tied_itself total-law u
