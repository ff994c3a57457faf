-- A search with marks: what holds of the marked unknowns and of those that wait.
use Rattle.std.proofs.Common.{◌≡◌, ◌≢◌, ◌⊎◌, ◌↔◌, inl, inr, Bool, true, false, List, [], ◌∷◌, ◌++◌, Option, Some, None, sym, subst, ◌∙◌, refl}
use Rattle.std.specs.Prelude.{Contains}
use Rattle.std.proofs.lemmas.List.Elements.{Contains-push, Contains-push_cases, Contains-append_left}
use Rattle.constraint_sys.specs.declared.unknown.Unknown.{Unknown}
use Rattle.constraint_sys.proofs.Ordered.{Contains-nil}
use Rattle.destabilise.specs.Marked.{MarkList, IsIn, IsMarked, IsLeast, seed, next, mark_at}

-- what an addition of some unknowns does to the marks and to those that wait
pub record IsAdded (old : MarkList) (rest us : List Unknown) (new : MarkList) (waiting : List Unknown) : Type 0 where
  pub there : (v : Unknown) → IsIn new v ↔ IsIn old v
  pub marked : (v : Unknown) → IsMarked new v ↔ (IsMarked old v ⊎ (Contains us v × IsIn old v))
  pub waits : (v : Unknown) → Contains waiting v ↔ (Contains rest v ⊎ (Contains us v × (mark_at old v ≡ Some false)))

some_is_there : {b : Bool} (o : Option Bool) → o ≡ Some b → o ≡ None → ⊥
some_is_there o is off = cc

module _ (In : Unknown → Type 0) (Seed : Unknown → Type 0) (Rule : Unknown → Unknown → Type 0) where
  -- where nothing waits, the marked unknowns are the least set
  pub record IsSearched (marks : MarkList) (waiting : List Unknown) : Type 0 where
    pub there : (v : Unknown) → IsIn marks v ↔ In v
    pub waiting_marked : (v : Unknown) → Contains waiting v → IsMarked marks v
    pub sound : (v : Unknown) → IsMarked marks v → IsLeast Seed Rule v
    pub seeded : (v : Unknown) → Seed v → IsMarked marks v
    pub closed : (u v : Unknown) → IsMarked marks u → Rule u v → Contains waiting u ⊎ IsMarked marks v

  -- an unknown that may be marked is, or isn't
  is_marked_or_not : (marks : MarkList) (v : Unknown) → IsIn marks v → IsMarked marks v ⊎ (mark_at marks v ≡ Some false)
  is_marked_or_not marks v inside = by (mark_at marks v) refl
    where
      by : (o : Option Bool) → mark_at marks v ≡ o → (mark_at marks v ≡ Some true) ⊎ (mark_at marks v ≡ Some false)
      by None is = absurd (inside is)
      by (Some true) is = inl is
      by (Some false) is = inr is

  -- what waits can be marked
  pub popped_in : (marks : MarkList) (before rest : List Unknown) (u : Unknown) → before ≡ rest ++ u ∷ [] → IsSearched marks before → In u
  popped_in marks before rest u is searched =
      let here : IsMarked marks u = searched.waiting_marked u (subst (λ (l : List Unknown). Contains l u) (sym is) (Contains-push rest u)) in
      (searched.there u).0 (λ off. some_is_there (mark_at marks u) here off)

  pub search_starts : (old new : MarkList) (us waiting : List Unknown) → ((v : Unknown) → IsIn old v ↔ In v) → ((v : Unknown) → IsMarked old v → ⊥) → ((v : Unknown) → (Contains us v × In v) ↔ Seed v) → IsAdded old [] us new waiting → IsSearched new waiting
  search_starts old new us waiting there none seeds added =
      let seeded : (v : Unknown) → IsMarked new v → Contains us v × IsIn old v = λ v marked. elim ((added.marked v).0 marked) [ inl before ↦ absurd (none v before) | inr one ↦ one ] in
      record {
        there = λ v. (λ inside. (there v).0 ((added.there v).0 inside), λ inside. (added.there v).1 ((there v).1 inside));
        waiting_marked = λ v waits. elim ((added.waits v).0 waits) [
          | inl nothing ↦ absurd (Contains-nil v nothing)
          | inr one ↦ (added.marked v).1 (inr (one.0, λ off. some_is_there (mark_at old v) one.1 off))
        ];
        sound = λ v marked. seed ((seeds v).0 ((seeded v marked).0, (there v).0 (seeded v marked).1));
        seeded = λ v one. (let both = (seeds v).1 one in (added.marked v).1 (inr (both.0, (there v).1 both.1)));
        closed = λ u v marked follows. inl ((added.waits u).1 (inr ((seeded u marked).0, elim (is_marked_or_not old u (seeded u marked).1) [ inl before ↦ absurd (none u before) | inr unmarked ↦ unmarked ])));
      }

  pub search_goes_on : (old new : MarkList) (before rest waiting us : List Unknown) (u : Unknown) → before ≡ rest ++ u ∷ [] → IsSearched old before → ((v : Unknown) → (Contains us v × In v) ↔ Rule u v) → IsAdded old rest us new waiting → IsSearched new waiting
  search_goes_on old new before rest waiting us u is searched rule added =
      let kept : (v : Unknown) → IsMarked old v → IsMarked new v = λ v marked. (added.marked v).1 (inl marked) in
      let waited : (v : Unknown) → Contains before v → Contains rest v ⊎ (u ≡ v) = λ v one. Contains-push_cases rest u v (subst (λ (l : List Unknown). Contains l v) is one) in
      let left : (v : Unknown) → Contains rest v → Contains before v = λ v one. subst (λ (l : List Unknown). Contains l v) (sym is) (Contains-append_left rest (u ∷ []) v one) in
      let here : IsMarked old u = searched.waiting_marked u (subst (λ (l : List Unknown). Contains l u) (sym is) (Contains-push rest u)) in
      let led : (v : Unknown) → Rule u v → IsMarked new v = λ v follows. (let both = (rule v).1 follows in (added.marked v).1 (inr (both.0, (searched.there v).1 both.1))) in
      let old_closed : (x v : Unknown) → IsMarked old x → Rule x v → Contains waiting x ⊎ IsMarked new v = λ x v marked follows.
      elim (searched.closed x v marked follows) [
        | inl waits ↦ elim (waited x waits) [
          | inl rests ↦ inl ((added.waits x).1 (inl rests))
          | inr same ↦ inr (led v (subst (λ (z : Unknown). Rule z v) (sym same) follows))
        ]
        | inr done ↦ inr (kept v done)
      ]
      in
      record {
        there = λ v. (λ inside. (searched.there v).0 ((added.there v).0 inside), λ inside. (added.there v).1 ((searched.there v).1 inside));
        waiting_marked = λ v waits. elim ((added.waits v).0 waits) [
          | inl rests ↦ kept v (searched.waiting_marked v (left v rests))
          | inr one ↦ (added.marked v).1 (inr (one.0, λ off. some_is_there (mark_at old v) one.1 off))
        ];
        sound = λ v marked. elim ((added.marked v).0 marked) [
          | inl old_one ↦ searched.sound v old_one
          | inr one ↦ next (searched.sound u here) ((rule v).0 (one.0, (searched.there v).0 one.1))
        ];
        seeded = λ v one. kept v (searched.seeded v one);
        closed = λ x v marked follows. elim ((added.marked x).0 marked) [
          | inl old_one ↦ old_closed x v old_one follows
          | inr one ↦ elim (is_marked_or_not old x one.1) [
            | inl old_one ↦ old_closed x v old_one follows
            | inr unmarked ↦ inl ((added.waits x).1 (inr (one.0, unmarked)))
          ]
        ];
      }

  -- a closed set that holds the seeds holds the least one
  least_are_marked : (marks : MarkList) → ((v : Unknown) → Seed v → IsMarked marks v) → ((u v : Unknown) → IsMarked marks u → Rule u v → IsMarked marks v) → {v : Unknown} → IsLeast Seed Rule v → IsMarked marks v
  least_are_marked marks holds closed (seed {u} one) = holds u one
  least_are_marked marks holds closed (next {u} {v} before follows) = closed u v (least_are_marked marks holds closed before) follows

  pub search_ends : (marks : MarkList) (waiting : List Unknown) → waiting ≡ [] → IsSearched marks waiting → (v : Unknown) → IsMarked marks v ↔ IsLeast Seed Rule v
  search_ends marks waiting is searched v = (
    searched.sound v,
    least_are_marked marks searched.seeded (λ u w marked follows. elim (searched.closed u w marked follows) [
      | inl waits ↦ absurd (Contains-nil u (subst (λ (l : List Unknown). Contains l u) is waits))
      | inr done ↦ done
    ]),
  )

-- a least set grows with its seeds
module _ {Seed More : Unknown → Type 0} {Rule : Unknown → Unknown → Type 0} (more : (v : Unknown) → Seed v → More v) where
  pub least_more : {v : Unknown} → IsLeast Seed Rule v → IsLeast More Rule v
  least_more (seed {u} one) = seed (more u one)
  least_more (next {u} {v} before follows) = next (least_more before) follows
