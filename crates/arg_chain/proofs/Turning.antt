-- Rows as steps are turned.
use Rattle.std.proofs.Common.{◌≡◌, ◌⊎◌, ◌↔◌, inl, inr, ℕ, zero, suc, ◌+◌, ◌<◌, ◌≤◌, List, [], ◌∷◌, ◌++◌, Some, length, set, take, get_or, sym, subst, ◌∙◌, refl, ap, arith}
use Rattle.std.specs.Prelude.{Contains, slice_get}
use Rattle.std.specs.Global.{Vec}
use Rattle.std.proofs.lemmas.Bool.{cases_eq, cases_lt}
use Rattle.std.proofs.lemmas.Option.{slice_get_read, slice_get_past}
use Rattle.std.proofs.lemmas.List.{take_more}
use Rattle.std.proofs.lemmas.List.Elements.{Contains-push, Contains-push_cases, Contains-append_left}
use Rattle.arg_chain.specs.declared.hop.Hop.{Hop}
use Rattle.arg_chain.specs.Walk.{Graph, items_of, before_at, steps_at, LeadsTo, HasStep}

slice_get-set_other : (g : List (Vec ℕ)) (u a : ℕ) (row : Vec ℕ) → (a ≡ u → ⊥) → slice_get (set g u row) a ≡ slice_get g a
slice_get-set_other [] u a row apart = refl
slice_get-set_other (r ∷ rs) zero zero row apart = absurd (apart refl)
slice_get-set_other (r ∷ rs) zero (suc a) row apart = refl
slice_get-set_other (r ∷ rs) (suc u) zero row apart = refl
slice_get-set_other (r ∷ rs) (suc u) (suc a) row apart = slice_get-set_other rs u a row (λ same. apart (ap suc same))

slice_get-set_same : (g : List (Vec ℕ)) (u : ℕ) (row : Vec ℕ) → u < length g → slice_get (set g u row) u ≡ Some row
slice_get-set_same [] u row within = absurd (omega arith)
slice_get-set_same (r ∷ rs) zero row within = refl
slice_get-set_same (r ∷ rs) (suc u) row within = slice_get-set_same rs u row (omega arith)

pub row_read : (g : List (Vec ℕ)) (v : ℕ) (row : Vec ℕ) → v < length g → row ≡ get_or g v row → before_at g v ≡ row.items
row_read g v row within is = ap items_of (slice_get_read g (length g) v row refl within is)

pub steps_read : (g : Graph) (v : ℕ) (row : Vec Hop) → v < length g → row ≡ get_or g v row → steps_at g v ≡ row.items
steps_read g v row within is = ap items_of (slice_get_read g (length g) v row refl within is)

pub added : (g : List (Vec ℕ)) (w x : ℕ) (old new : Vec ℕ) → w < length g → old ≡ get_or g w old → new.items ≡ old.items ++ x ∷ [] → (u v : ℕ) → Contains (before_at (set g w new) u) v ↔ (Contains (before_at g u) v ⊎ ((u ≡ w) × (v ≡ x)))
added g w x old new within is pushed u v = elim (cases_eq u w) [
  | inl same ↦
      let before : before_at g u ≡ old.items = ap (before_at g) same ∙ row_read g w old within is in
      let after : before_at (set g w new) u ≡ old.items ++ x ∷ [] = ap (before_at (set g w new)) same ∙ ap items_of (slice_get-set_same g w new within) ∙ pushed in (
        λ one. elim (Contains-push_cases old.items x v (subst (λ (l : List ℕ). Contains l v) after one)) [
          | inl there ↦ inl (subst (λ (l : List ℕ). Contains l v) (sym before) there)
          | inr last ↦ inr (same, sym last)
        ],
        λ either. subst (λ (l : List ℕ). Contains l v) (sym after) (elim either [
          | inl there ↦ Contains-append_left old.items (x ∷ []) v (subst (λ (l : List ℕ). Contains l v) before there)
          | inr last ↦ subst (λ (z : ℕ). Contains (old.items ++ x ∷ []) z) (sym last.1) (Contains-push old.items x)
        ]),
      )
  | inr apart ↦
      let kept : before_at (set g w new) u ≡ before_at g u = ap items_of (slice_get-set_other g w u new apart) in (
        λ one. inl (subst (λ (l : List ℕ). Contains l v) kept one),
        λ either. elim either [ inl there ↦ subst (λ (l : List ℕ). Contains l v) (sym kept) there | inr last ↦ absurd (apart last.0) ],
      )
]

pub empty_row_added : (g : List (Vec ℕ)) (row : Vec ℕ) → row.items ≡ [] → (u : ℕ) → before_at (g ++ row ∷ []) u ≡ before_at g u
empty_row_added [] row is zero = is
empty_row_added [] row is (suc u) = refl
empty_row_added (r ∷ rs) row is zero = refl
empty_row_added (r ∷ rs) row is (suc u) = empty_row_added rs row is u

-- a step starts at a vertex
pub step_within : (g : Graph) (u : ℕ) (s : Hop) → Contains (steps_at g u) s → u < length g
step_within g u s one = elim (cases_lt u (length g)) [
  | inl within ↦ within
  | inr past ↦ (let none : Contains [] s = subst (λ (l : List Hop). Contains l s) (ap items_of (slice_get_past g u past)) one in omega (arith, none.1))
]

pub LeadsTo-more : (steps : List Hop) (i : ℕ) (s : Hop) → i < length steps → s ≡ get_or steps i s → (w : ℕ) → LeadsTo (take (i + 1) steps) w ↔ (LeadsTo (take i steps) w ⊎ (w ≡ s.to))
LeadsTo-more steps i s within is w =
    let more : take (i + 1) steps ≡ take i steps ++ s ∷ [] = take_more steps i s within ∙ ap (λ (z : Hop). take i steps ++ z ∷ []) (sym is) in
    subst (λ (l : List Hop). LeadsTo l w ↔ (LeadsTo (take i steps) w ⊎ (w ≡ s.to))) (sym more) (
      λ one. elim (Contains-push_cases (take i steps) s one.0 one.1) [ inl old ↦ inl (one.0, old, one.2) | inr same ↦ inr (sym one.2 ∙ ap (λ (z : Hop). z.to) (sym same)) ],
      λ either. elim either [
        | inl old ↦ (old.0, Contains-append_left (take i steps) (s ∷ []) old.0 old.1, old.2)
        | inr same ↦ (s, Contains-push (take i steps) s, sym same)
      ],
    )

module _ {New Mid Old Part Whole Here X : Type 0} where
  pub joined_by : New ↔ (Mid ⊎ (Here × X)) → Mid ↔ (Old ⊎ (Part × X)) → Whole ↔ (Part ⊎ Here) → New ↔ (Old ⊎ (Whole × X))
  joined_by a b c = (
    λ new. elim (a.0 new) [ inl mid ↦ elim (b.0 mid) [ inl old ↦ inl old | inr part ↦ inr (c.1 (inl part.0), part.1) ] | inr here ↦ inr (c.1 (inr here.0), here.1) ],
    λ either. elim either [ inl old ↦ a.1 (inl (b.1 (inl old))) | inr whole ↦ elim (c.0 whole.0) [ inl part ↦ a.1 (inl (b.1 (inr (part, whole.1)))) | inr here ↦ a.1 (inr (here, whole.1)) ] ],
  )

-- the steps of one more vertex
pub turned_more : (g : Graph) (i : ℕ) (steps : List Hop) → steps_at g i ≡ steps → {New Mid : Type 0} → (u w : ℕ) → New ↔ (Mid ⊎ (LeadsTo steps w × (u ≡ i))) → Mid ↔ ((u < i) × HasStep g u w) → New ↔ ((u < i + 1) × HasStep g u w)
turned_more g i steps is u w a b = (
  λ new. elim (a.0 new) [
    | inl mid ↦ (let both = b.0 mid in (omega arith, both.1))
    | inr here ↦ (omega arith, subst (λ (l : List Hop). LeadsTo l w) (sym (ap (steps_at g) here.1 ∙ is)) here.0)
  ],
  λ both. elim (cases_lt u i) [
    | inl before ↦ a.1 (inl (b.1 (before, both.1)))
    | inr after ↦ (let same : u ≡ i = omega arith in a.1 (inr (subst (λ (l : List Hop). LeadsTo l w) (ap (steps_at g) same ∙ is) both.1, same)))
  ],
)

pub turned_all : (g : Graph) (i : ℕ) → length g ≤ i → {New : Type 0} → (u w : ℕ) → New ↔ ((u < i) × HasStep g u w) → New ↔ HasStep g u w
turned_all g i past u w a = (λ new. (a.0 new).1, λ has. a.1 (omega (arith, step_within g u has.0 has.1), has))
