-- Sets of unknowns, by their members.
use Rattle.std.proofs.Common.{◌≡◌, ◌≢◌, ◌↔◌, ◌⊎◌, inl, inr, Bool, true, false, cond, List, Some, refl, sym, ap, ◌∙◌, subst, true≢false}
use Rattle.std.specs.Prelude.{Contains, IsTrue}
use Rattle.std.specs.BTreeMap.{is_at}
use Rattle.std.specs.BTreeSet.{BTreeSet, contains, Updates}
use Rattle.std.specs.declared.cmp.Ordering.{Ordering}
use Rattle.std.specs.declared.cmp.Ordering.TheVariants.{Less, Equal, Greater}
use Rattle.std.specs.Ordering.{is_eq}
use Rattle.std.proofs.lemmas.Bool.{cases_Bool}
use Rattle.std.proofs.lemmas.Bool.Decides.{not_from_Decides}
use Rattle.std.proofs.lemmas.Cmp.{tied_itself}
use Rattle.std.proofs.lemmas.Map.Views.{btree_set_contains_iff}
use Rattle.constraint_sys.specs.contracts.unknown.UnknownOrd.TheImpl.Laws.{total-law, matches_partial_cmp-law}
use Rattle.constraint_sys.specs.contracts.unknown.UnknownPartialOrd.TheImpl.Laws.{laws-law}
use Rattle.constraint_sys.specs.declared.unknown.Unknown.{Unknown}
use Rattle.constraint_sys.specs.Table.{unknown_cmp, unknown_eq}
use Rattle.constraint_sys.proofs.Entries.{cases_unknown, unknown_eq-same}

-- what compares as equal is the same
equal_by : (u v : Unknown) → (b : Bool) → unknown_eq u v ≡ b → unknown_cmp u v ≡ Equal → u ≡ v
equal_by u v true same equal = unknown_eq-same u v same
equal_by u v false apart equal = absurd (not_from_Decides (unknown_eq u v) (laws-law.matches_eq u v) apart (matches_partial_cmp-law u v ∙ ap Some equal))

pub same_from_cmp : (u v : Unknown) → unknown_cmp u v ≡ Equal → u ≡ v
same_from_cmp u v equal = equal_by u v (unknown_eq u v) refl equal

pub member : (s : BTreeSet Unknown) (u : Unknown) → IsTrue (contains unknown_cmp s u) ↔ Contains s.keys u
member s u = btree_set_contains_iff total-law same_from_cmp s u

equal_at : (o : Ordering) → is_eq o ≡ true → o ≡ Equal
equal_at Less at = absurd (true≢false (sym at))
equal_at Equal at = refl
equal_at Greater at = absurd (true≢false (sym at))

at_itself : (u : Unknown) → is_at (unknown_cmp u) u ≡ true
at_itself u = rw (tied_itself total-law u) refl

at_same : (u q : Unknown) → is_at (unknown_cmp u) q ≡ true → u ≡ q
at_same u q at = same_from_cmp u q (equal_at (unknown_cmp u q) at)

not_at : (u q : Unknown) → q ≢ u → is_at (unknown_cmp u) q ≡ false
not_at u q other = elim (cases_Bool (is_at (unknown_cmp u) q)) [
  | inl at ↦ absurd (other (sym (at_same u q at)))
  | inr off ↦ off
]

-- what an update makes of the members
pub member_put : (s n : BTreeSet Unknown) (u q : Unknown) → Updates unknown_cmp s n u true → Contains n.keys q ↔ (Contains s.keys q ⊎ (q ≡ u))
member_put s n u q updates = elim (cases_unknown q u) [
  | inl same ↦ (λ _. inr same, λ _. (member n q).0 (updates.0 q ∙ ap (λ (b : Bool). cond b true (contains unknown_cmp s q)) (ap (is_at (unknown_cmp u)) same ∙ at_itself u)))
  | inr other ↦ (
      let off = not_at u q other in
      let same : contains unknown_cmp n q ≡ contains unknown_cmp s q = updates.0 q ∙ ap (λ (b : Bool). cond b true (contains unknown_cmp s q)) off in
      (λ one. inl ((member s q).0 (sym same ∙ (member n q).1 one)), λ either. elim either [ inl old ↦ (member n q).0 (same ∙ (member s q).1 old) | inr is ↦ absurd (other is) ])
      )
]

pub member_taken : (s n : BTreeSet Unknown) (u q : Unknown) → Updates unknown_cmp s n u false → Contains n.keys q ↔ (Contains s.keys q × (q ≢ u))
member_taken s n u q updates = elim (cases_unknown q u) [
  | inl same ↦ (
    λ one. absurd (true≢false (sym ((member n q).1 one) ∙ updates.0 q ∙ ap (λ (b : Bool). cond b false (contains unknown_cmp s q)) (ap (is_at (unknown_cmp u)) same ∙ at_itself u))),
    λ both. absurd (both.1 same),
  )
  | inr other ↦ (
      let off = not_at u q other in
      let same : contains unknown_cmp n q ≡ contains unknown_cmp s q = updates.0 q ∙ ap (λ (b : Bool). cond b false (contains unknown_cmp s q)) off in
      (λ one. ((member s q).0 (sym same ∙ (member n q).1 one), other), λ both. (member n q).0 (same ∙ (member s q).1 both.0))
      )
]

-- ---- a list of points is added one by one
module _ (old now next : List Unknown) (done more : List Unknown) (u q : Unknown) where
  pub put_step : Contains next q ↔ (Contains now q ⊎ (q ≡ u)) → Contains more q ↔ (Contains done q ⊎ (q ≡ u)) → Contains now q ↔ (Contains old q ⊎ Contains done q) → Contains next q ↔ (Contains old q ⊎ Contains more q)
  put_step put longer so_far = (
    λ one. elim (put.0 one) [
      | inl here ↦ elim (so_far.0 here) [ inl a ↦ inl a | inr b ↦ inr (longer.1 (inl b)) ]
      | inr same ↦ inr (longer.1 (inr same))
    ],
    λ either. elim either [
      | inl a ↦ put.1 (inl (so_far.1 (inl a)))
      | inr b ↦ elim (longer.0 b) [ inl c ↦ put.1 (inl (so_far.1 (inr c))) | inr same ↦ put.1 (inr same) ]
    ],
  )

  -- one that is there already
  pub skip_step : Contains now u → Contains more q ↔ (Contains done q ⊎ (q ≡ u)) → Contains now q ↔ (Contains old q ⊎ Contains done q) → Contains now q ↔ (Contains old q ⊎ Contains more q)
  skip_step there longer so_far = (
    λ one. elim (so_far.0 one) [ inl a ↦ inl a | inr b ↦ inr (longer.1 (inl b)) ],
    λ either. elim either [
      | inl a ↦ so_far.1 (inl a)
      | inr b ↦ elim (longer.0 b) [ inl c ↦ so_far.1 (inr c) | inr same ↦ subst (λ (z : Unknown). Contains now z) (sym same) there ]
    ],
  )

  pub out_step : Contains next q ↔ (Contains now q × (q ≢ u)) → Contains more q ↔ (Contains done q ⊎ (q ≡ u)) → Contains now q ↔ (Contains old q × (Contains done q → ⊥)) → Contains next q ↔ (Contains old q × (Contains more q → ⊥))
  out_step out longer so_far = (
    λ one. (
      (so_far.0 (out.0 one).0).0,
      λ b. elim (longer.0 b) [ inl c ↦ (so_far.0 (out.0 one).0).1 c | inr same ↦ (out.0 one).1 same ],
    ),
    λ both. out.1 (so_far.1 (both.0, λ b. both.1 (longer.1 (inl b))), λ same. both.1 (longer.1 (inr same))),
  )

-- ---- one point is taken out after the others were added, unless it is one of them
module _ (old added new more : List Unknown) (done q : Unknown) where
  pub exchanged_out : (Contains more done → ⊥) → Contains new q ↔ (Contains added q × (q ≢ done)) → Contains added q ↔ (Contains old q ⊎ Contains more q) → Contains new q ↔ ((Contains old q × (q ≢ done)) ⊎ Contains more q)
  exchanged_out off out put = (
    λ one. (let both = out.0 one in elim (put.0 both.0) [ inl a ↦ inl (a, both.1) | inr b ↦ inr b ]),
    λ either. elim either [
      | inl both ↦ out.1 (put.1 (inl both.0), both.1)
      | inr b ↦ out.1 (put.1 (inr b), λ same. off (subst (λ (z : Unknown). Contains more z) same b))
    ],
  )

module _ (old added more : List Unknown) (done q : Unknown) where
  pub exchanged_in : Contains more done → Contains added q ↔ (Contains old q ⊎ Contains more q) → Contains added q ↔ ((Contains old q × (q ≢ done)) ⊎ Contains more q)
  exchanged_in there put = (
    λ one. elim (put.0 one) [
      | inl a ↦ elim (cases_unknown q done) [
        | inl same ↦ inr (subst (λ (z : Unknown). Contains more z) (sym same) there)
        | inr other ↦ inl (a, other)
      ]
      | inr b ↦ inr b
    ],
    λ either. elim either [ inl both ↦ put.1 (inl both.0) | inr b ↦ put.1 (inr b) ],
  )
