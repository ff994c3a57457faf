-- What is known of the vertices as a level spreads.
use Rattle.std.proofs.Common.{◌==◌, ◌≡◌, ◌⊎◌, ◌↔◌, inl, inr, ℕ, ◌+◌, ◌<◌, Bool, true, false, List, [], ◌∷◌, ◌++◌, Option, None, Some, length, take, set, get_or, refl, sym, subst, ◌∙◌, ap, cond, count_by, arith}
use Rattle.std.specs.Prelude.{Contains, is_none, replicate}
use Rattle.std.proofs.lemmas.Bool.{cases_eq, cases_lt}
use Rattle.std.proofs.lemmas.Bool.Decides.{nat_tests}
use Rattle.std.proofs.lemmas.List.{take_more, get_or-set_same, get_or-set_other, length-set, length_push, get_or_past, get_or-replicate, length-replicate}
use Rattle.std.proofs.lemmas.List.Elements.{Contains-push, Contains-push_cases, Contains-append_left}
use Rattle.std.proofs.lemmas.List.Sums.{sum_by-set}
use Rattle.arg_chain.specs.Walk.{known_at, Spreads, IsBeforeOne, before_at}
use Rattle.std.specs.Global.{Vec}

abbrev one_if_none : Option ℕ → ℕ
one_if_none o = cond (is_none o) 1 0

pub option_cases : (o : Option ℕ) → (o ≡ None) ⊎ ((n : ℕ) × (o ≡ Some n))
option_cases None = inl refl
option_cases (Some n) = inr (n, refl)

pub Contains-nil : (y : ℕ) → Contains [] y → ⊥
Contains-nil y (k, within, is) = omega arith

pub Contains-more : (xs : List ℕ) (i : ℕ) → i < length xs → (w : ℕ) → Contains (take (i + 1) xs) w ↔ (Contains (take i xs) w ⊎ (w ≡ get_or xs i 0))
Contains-more xs i within w = rw (take_more xs i 0 within) (
  λ one. elim (Contains-push_cases (take i xs) (get_or xs i 0) w one) [ inl old ↦ inl old | inr same ↦ inr (sym same) ],
  λ either. elim either [
    | inl old ↦ Contains-append_left (take i xs) (get_or xs i 0 ∷ []) w old
    | inr same ↦ subst (λ (z : ℕ). Contains (take i xs ++ get_or xs i 0 ∷ []) z) (sym same) (Contains-push (take i xs) (get_or xs i 0))
  ],
)

none_some : (n : ℕ) → None ≡ Some n → ⊥
none_some n e = cc

pub apart_from : (o : Option ℕ) (n : ℕ) → o ≡ None → o ≡ Some n → ⊥
apart_from o n none some = none_some n (sym none ∙ some)

module _ (old : List (Option ℕ)) (waits : List ℕ) (level : ℕ) where
  pub spreads_not : (S : ℕ → Type 0) → ((u : ℕ) → S u → known_at old u ≡ None → ⊥) → Spreads old waits S level old waits
  spreads_not S known = record {
    len = refl;
    kept = λ u n is. is;
    cases = λ u n is. inl is;
    all = known;
    next = λ u. (λ one. inl one, λ either. elim either [ inl one ↦ one | inr both ↦ absurd (known u both.1 both.0) ]);
    balance = refl;
  }

  pub spreads_one : (u : ℕ) → u < length old → known_at old u ≡ None → Spreads old waits (λ x. x ≡ u) level (set old u (Some level)) (waits ++ u ∷ [])
  spreads_one u within none =
      let here : known_at (set old u (Some level)) u ≡ Some level = get_or-set_same old u (Some level) None within in
      let there : (x : ℕ) → (x ≡ u → ⊥) → known_at (set old u (Some level)) x ≡ known_at old x = λ x apart. get_or-set_other old u x (Some level) None apart in
      let was : ◌≡◌ {A = ℕ} (one_if_none (known_at old u)) 1 = ap one_if_none none in
      let counts : count_by is_none (set old u (Some level)) + one_if_none (known_at old u) ≡ count_by is_none old + 0 = sum_by-set one_if_none old u (Some level) None within in
      record {
        len = length-set old u (Some level);
        kept = λ x n is. elim (cases_eq x u) [
          | inl same ↦ absurd (apart_from (known_at old u) n none (ap (known_at old) (sym same) ∙ is))
          | inr apart ↦ there x apart ∙ is
        ];
        cases = λ x n is. elim (cases_eq x u) [
          | inl same ↦ inr (at_level n (sym here ∙ ap (known_at (set old u (Some level))) (sym same) ∙ is), ap (known_at old) same ∙ none, same)
          | inr apart ↦ inl (sym (there x apart) ∙ is)
        ];
        all = λ x same gone. apart_from (known_at (set old u (Some level)) x) level gone (ap (known_at (set old u (Some level))) same ∙ here);
        next = λ x. (
          λ one. elim (Contains-push_cases waits u x one) [ inl before ↦ inl before | inr same ↦ inr (ap (known_at old) (sym same) ∙ none, sym same) ],
          λ either. elim either [ inl before ↦ Contains-append_left waits (u ∷ []) x before | inr both ↦ subst (λ (z : ℕ). Contains (waits ++ u ∷ []) z) (sym both.1) (Contains-push waits u) ],
        );
        balance = omega (arith, length_push waits u, was, counts);
      }
    where
      at_level : (n : ℕ) → Some level ≡ Some n → n ≡ level
      at_level n e = cc

  pub spreads_more : (S T W : ℕ → Type 0) (mid new : List (Option ℕ)) (m n : List ℕ) → Spreads old waits S level mid m → Spreads mid m T level new n → ((u : ℕ) → W u ↔ (S u ⊎ T u)) → Spreads old waits W level new n
  spreads_more S T W mid new m n first second whole =
      let none_before : (u : ℕ) → known_at mid u ≡ None → known_at old u ≡ None = λ u none. elim (option_cases (known_at old u)) [ inl is ↦ is | inr some ↦ absurd (apart_from (known_at mid u) some.0 none (first.kept u some.0 some.1)) ] in
      record {
        len = second.len ∙ first.len;
        kept = λ u k is. second.kept u k (first.kept u k is);
        cases = λ u k is. elim (second.cases u k is) [
          | inl before ↦ elim (first.cases u k before) [ inl long ↦ inl long | inr it ↦ inr (it.0, it.1, (whole u).1 (inl it.2)) ]
          | inr it ↦ inr (it.0, none_before u it.1, (whole u).1 (inr it.2))
        ];
        all = λ u one gone. elim ((whole u).0 one) [
          | inl left ↦ elim (option_cases (known_at mid u)) [ inl none ↦ first.all u left none | inr some ↦ apart_from (known_at new u) some.0 gone (second.kept u some.0 some.1) ]
          | inr right ↦ second.all u right gone
        ];
        next = λ u. (
          λ one. elim ((second.next u).0 one) [
            | inl before ↦ elim ((first.next u).0 before) [ inl long ↦ inl long | inr both ↦ inr (both.0, (whole u).1 (inl both.1)) ]
            | inr both ↦ inr (none_before u both.0, (whole u).1 (inr both.1))
          ],
          λ either. elim either [
            | inl long ↦ (second.next u).1 (inl ((first.next u).1 (inl long)))
            | inr both ↦ elim ((whole u).0 both.1) [
              | inl left ↦ (second.next u).1 (inl ((first.next u).1 (inr (both.0, left))))
              | inr right ↦ elim (option_cases (known_at mid u)) [
                | inl none ↦ (second.next u).1 (inr (none, right))
                | inr some ↦ elim (first.cases u some.0 some.1) [
                  | inl was ↦ absurd (apart_from (known_at old u) some.0 both.0 was)
                  | inr it ↦ (second.next u).1 (inl ((first.next u).1 (inr (both.0, it.2))))
                ]
              ]
            ]
          ],
        );
        balance = second.balance ∙ first.balance;
      }

  pub spreads_same : (S W : ℕ → Type 0) (new : List (Option ℕ)) (n : List ℕ) → ((u : ℕ) → W u ↔ S u) → Spreads old waits S level new n → Spreads old waits W level new n
  spreads_same S W new n same it = record {
    len = it.len;
    kept = it.kept;
    cases = λ u k is. elim (it.cases u k is) [ inl before ↦ inl before | inr at ↦ inr (at.0, at.1, (same u).1 at.2) ];
    all = λ u one. it.all u ((same u).0 one);
    next = λ u. (
      λ one. elim ((it.next u).0 one) [ inl before ↦ inl before | inr both ↦ inr (both.0, (same u).1 both.1) ],
      λ either. (it.next u).1 (elim either [ inl before ↦ inl before | inr both ↦ inr (both.0, (same u).0 both.1) ]),
    );
    balance = it.balance;
  }

pub known_within : (ds : List (Option ℕ)) (u n : ℕ) → known_at ds u ≡ Some n → u < length ds
known_within ds u n is = elim (cases_lt u (length ds)) [ inl within ↦ within | inr past ↦ absurd (apart_from (known_at ds u) n (get_or_past ds u None past) is) ]

pub none_known : (m u : ℕ) → known_at (replicate m None) u ≡ None
none_known m u = elim (cases_lt u m) [
  | inl within ↦ get_or-replicate m u None None within
  | inr past ↦ get_or_past (replicate m None) u None (omega (arith, length-replicate {A = Option ℕ} m None))
]

pub before_more : (t : List (Vec ℕ)) (front : List ℕ) (i : ℕ) (row : List ℕ) → i < length front → before_at t (get_or front i 0) ≡ row → (u : ℕ) → IsBeforeOne t (take (i + 1) front) u ↔ (IsBeforeOne t (take i front) u ⊎ Contains row u)
before_more t front i row within is u = (
  λ one. elim ((Contains-more front i within one.0).0 one.1) [
    | inl old ↦ inl (one.0, old, one.2)
    | inr same ↦ inr (subst (λ (l : List ℕ). Contains l u) (ap (before_at t) same ∙ is) one.2)
  ],
  λ either. elim either [
    | inl old ↦ (old.0, (Contains-more front i within old.0).1 (inl old.1), old.2)
    | inr here ↦ (get_or front i 0, (Contains-more front i within (get_or front i 0)).1 (inr refl), subst (λ (l : List ℕ). Contains l u) (sym is) here)
  ],
)

pub some_left : (b : Bool) (n m : ℕ) → b ≡ (n == 0) → b ≡ false → n ≡ m → 0 < m
some_left b n m test is same = grind (arith, nat_tests)

pub none_left : (b : Bool) (n m : ℕ) → b ≡ (n == 0) → b ≡ true → n ≡ m → m ≡ 0
none_left b n m test is same = grind (arith, nat_tests)
