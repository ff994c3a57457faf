-- A search by levels, from a target backward.
use Rattle.std.proofs.Common.{◌≡◌, ◌↔◌, inl, inr, ℕ, ◌+◌, ◌<◌, ◌≤◌, List, [], ◌∷◌, Option, None, Some, length, count_by, refl, sym, subst, ◌∙◌, ap, arith}
use Rattle.std.specs.Prelude.{Contains, is_none}
use Rattle.std.proofs.lemmas.Bool.{cases_lt}
use Rattle.arg_chain.specs.declared.hop.Hop.{Hop}
use Rattle.std.specs.Global.{Vec}
use Rattle.arg_chain.specs.Walk.{Graph, before_at, IsWalk, IsDistance, known_at, Spreads, IsBeforeOne, HasStep}
use Rattle.arg_chain.proofs.Spreading.{option_cases, apart_from, Contains-nil}

-- all walks of at most so many steps are known, and the front is what is so many steps away
pub record IsLevelled (g : Graph) (v : ℕ) (known : List (Option ℕ)) (front : List ℕ) (level : ℕ) : Type 0 where
  pub len : length known ≡ length g
  pub small : level + (length front + count_by is_none known) ≤ length g
  pub sound : (u n : ℕ) → known_at known u ≡ Some n → (n ≤ level) × ((ss : List Hop) × IsWalk g u ss v × (length ss ≡ n))
  pub complete : (u : ℕ) (ss : List Hop) → IsWalk g u ss v → length ss ≤ level → (n : ℕ) × (known_at known u ≡ Some n) × (n ≤ length ss)
  pub front_is : (u : ℕ) → Contains front u ↔ (known_at known u ≡ Some level)

same_some : (m n : ℕ) → Some m ≡ Some n → m ≡ n
same_some m n e = cc

nil_of_length : (ss : List Hop) → length ss ≤ 0 → ss ≡ []
nil_of_length [] short = refl
nil_of_length (s ∷ ss) short = absurd (omega arith)

module _ (g : Graph) (v : ℕ) where
  pub level_starts : (old new : List (Option ℕ)) (front : List ℕ) → ((u : ℕ) → known_at old u ≡ None) → length old ≡ length g → count_by is_none old ≤ length g → Spreads old [] (λ x. x ≡ v) 0 new front → IsLevelled g v new front 0
  level_starts old new front none len few it =
      let only : (u n : ℕ) → known_at new u ≡ Some n → (n ≡ 0) × (u ≡ v) = λ u n is. elim (it.cases u n is) [ inl was ↦ absurd (apart_from (known_at old u) n (none u) was) | inr at ↦ (at.0, at.2) ] in
      let target : (u : ℕ) → u ≡ v → known_at new u ≡ Some 0 = λ u same. elim (option_cases (known_at new u)) [ inl gone ↦ absurd (it.all u same gone) | inr some ↦ some.1 ∙ ap Some (only u some.0 some.1).0 ] in
      record {
        len = it.len ∙ len;
        small = omega (arith, it.balance, few);
        sound = λ u n is. (let at = only u n is in (omega (arith, at.0), ([], at.1, sym at.0)));
        complete = λ u ss walk short.
            let empty : ss ≡ [] = nil_of_length ss short in
            (0, target u (subst (λ (l : List Hop). IsWalk g u l v) empty walk), omega arith);
        front_is = λ u. (
          λ one. elim ((it.next u).0 one) [ inl nothing ↦ absurd (Contains-nil u nothing) | inr both ↦ target u both.1 ],
          λ is. (it.next u).1 (inr (none u, (only u 0 is).1)),
        );
      }

  module _ (before : List (Vec ℕ)) (turned : (u w : ℕ) → Contains (before_at before w) u ↔ HasStep g u w) where
    pub level_rises : (old new : List (Option ℕ)) (front more : List ℕ) (level : ℕ) → 0 < length front → IsLevelled g v old front level → Spreads old [] (IsBeforeOne before front) (level + 1) new more → IsLevelled g v new more (level + 1)
    level_rises old new front more level some before_it it =
        let stands : (u n : ℕ) → known_at old u ≡ Some n → n ≤ level = λ u n is. (before_it.sound u n is).0 in
        record {
          len = it.len ∙ before_it.len;
          small = omega (arith, it.balance, before_it.small);
          sound = λ u n is. elim (it.cases u n is) [
            | inl was ↦ (let at = before_it.sound u n was in (omega (arith, at.0), at.1))
            | inr at ↦
                let one = at.2 in
                let step = (turned u one.0).0 one.2 in
                let rest = before_it.sound one.0 level ((before_it.front_is one.0).0 one.1) in
                let walk : IsWalk g u (step.0 ∷ rest.1.0) v = (step.1, subst (λ (z : ℕ). IsWalk g z rest.1.0 v) (sym step.2) rest.1.1) in
                (omega (arith, at.0), (step.0 ∷ rest.1.0, walk, omega (arith, rest.1.2, at.0)))
          ];
          complete = λ u ss walk short. complete_at u ss walk short;
          front_is = λ u. (
            λ one. elim ((it.next u).0 one) [
              | inl nothing ↦ absurd (Contains-nil u nothing)
              | inr both ↦ elim (option_cases (known_at new u)) [
                | inl gone ↦ absurd (it.all u both.1 gone)
                | inr n ↦ elim (it.cases u n.0 n.1) [ inl was ↦ absurd (apart_from (known_at old u) n.0 both.0 was) | inr at ↦ n.1 ∙ ap Some at.0 ]
              ]
            ],
            λ is. elim (it.cases u (level + 1) is) [
              | inl was ↦ absurd (omega (arith, stands u (level + 1) was))
              | inr at ↦ (it.next u).1 (inr (at.1, at.2))
            ],
          );
        }
      where
        kept_at : (u : ℕ) (ss : List Hop) → (n : ℕ) × (known_at old u ≡ Some n) × (n ≤ length ss) → (n : ℕ) × (known_at new u ≡ Some n) × (n ≤ length ss)
        kept_at u ss (n, is, short) = (n, it.kept u n is, short)

        complete_at : (u : ℕ) (ss : List Hop) → IsWalk g u ss v → length ss ≤ level + 1 → (n : ℕ) × (known_at new u ≡ Some n) × (n ≤ length ss)
        complete_at u [] walk short = kept_at u [] (before_it.complete u [] walk (omega arith))
        complete_at u (s ∷ ss) walk short =
            let rest = before_it.complete s.to ss walk.1 (omega arith) in
            let at = before_it.sound s.to rest.0 rest.1 in
            elim (cases_lt rest.0 level) [
              | inl near ↦
                  let shorter : IsWalk g u (s ∷ at.1.0) v = (walk.0, at.1.1) in
                  let found = before_it.complete u (s ∷ at.1.0) shorter (omega (arith, at.1.2)) in
                  (found.0, it.kept u found.0 found.1, omega (arith, found.2, at.1.2, rest.2))
              | inr far ↦
                  let last : rest.0 ≡ level = omega (arith, at.0) in
                  let in_front : Contains front s.to = (before_it.front_is s.to).1 (rest.1 ∙ ap Some last) in
                  let one : IsBeforeOne before front u = (s.to, in_front, (turned u s.to).1 (s, walk.0, refl)) in
                  elim (option_cases (known_at new u)) [
                    | inl gone ↦ absurd (it.all u one gone)
                    | inr n ↦ elim (it.cases u n.0 n.1) [
                      | inl was ↦ (n.0, n.1, omega (arith, (before_it.sound u n.0 was).0, last, rest.2))
                      | inr new_one ↦ (n.0, n.1, omega (arith, new_one.0, last, rest.2))
                    ]
                  ]
            ]

  module _ (known : List (Option ℕ)) (front : List ℕ) (level : ℕ) (none : length front ≡ 0) (it : IsLevelled g v known front level) where
    not_last : (u n : ℕ) → known_at known u ≡ Some n → n < level
    not_last u n is =
        let at = it.sound u n is in
        elim (cases_lt n level) [
          | inl before ↦ before
          | inr after ↦ (let last : n ≡ level = omega (arith, at.0) in let one = (it.front_is u).1 (is ∙ ap Some last) in absurd (omega (arith, one.1, none)))
        ]

    pub all_known : (u : ℕ) (ss : List Hop) → IsWalk g u ss v → (n : ℕ) × (known_at known u ≡ Some n) × (n ≤ length ss)
    all_known u [] walk = it.complete u [] walk (omega arith)
    all_known u (s ∷ ss) walk =
        let rest = all_known s.to ss walk.1 in
        let at = it.sound s.to rest.0 rest.1 in
        let near = not_last s.to rest.0 rest.1 in
        let found = it.complete u (s ∷ at.1.0) (walk.0, at.1.1) (omega (arith, at.1.2)) in
        (found.0, found.1, omega (arith, found.2, at.1.2, rest.2))

    pub distance_known : (u n : ℕ) → known_at known u ≡ Some n → IsDistance g v u n
    distance_known u n is = record {
      there = (it.sound u n is).1;
      fewest = λ ss walk. (let found = all_known u ss walk in let same : found.0 ≡ n = same_some found.0 n (sym found.1 ∙ is) in omega (arith, found.2, same));
    }

    pub none_unknown : (u : ℕ) → known_at known u ≡ None → (ss : List Hop) → IsWalk g u ss v → ⊥
    none_unknown u gone ss walk = (let found = all_known u ss walk in apart_from (known_at known u) found.0 gone found.1)
