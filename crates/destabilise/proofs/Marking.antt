-- Marks as they are set, one after another.
use Rattle.std.proofs.Common.{◌≡◌, ◌≢◌, ◌⊎◌, ◌↔◌, inl, inr, ℕ, ◌+◌, ◌<◌, Bool, true, false, cond, not, List, [], ◌∷◌, ◌++◌, Option, Some, None, length, take, get_or, refl, sym, ap, subst, ◌∙◌, arith, is_some, true≢false}
use Rattle.std.specs.Prelude.{Contains}
use Rattle.std.specs.Map.{lookup}
use Rattle.indexmap.specs.IndexMap.{insert_entry}
use Rattle.std.proofs.lemmas.Option.{same_Some}
use Rattle.constraint_sys.specs.contracts.unknown.UnknownEq.TheImpl.Laws.{laws-law}
use Rattle.constraint_sys.specs.Table.{unknown_eq}
use Rattle.constraint_sys.specs.declared.unknown.Unknown.{Unknown}
use Rattle.constraint_sys.proofs.Entries.{cases_unknown, lookup-insert_entry, unknown_eq-apart, unknown_eq-refl}
use Rattle.constraint_sys.proofs.Ordered.{Contains-push, Contains-take_more}
use Rattle.destabilise.specs.Marked.{MarkList, IsIn, IsMarked, mark_at, unmarked_count, with_mark}

put_at : (marks : MarkList) (u : Unknown) (b : Bool) (v : Unknown) → mark_at (with_mark marks u b) v ≡ cond (unknown_eq v u) (Some b) (mark_at marks v)
put_at marks u b v = lookup-insert_entry unknown_eq laws-law u b v marks

pub put_itself : (marks : MarkList) (u : Unknown) (b : Bool) (v : Unknown) → v ≡ u → mark_at (with_mark marks u b) v ≡ Some b
put_itself marks u b v same =
    put_at marks u b v ∙ ap (λ (c : Bool). cond c (Some b) (mark_at marks v)) (ap (λ (w : Unknown). unknown_eq w u) same ∙ unknown_eq-refl u)

pub put_others : (marks : MarkList) (u : Unknown) (b : Bool) (v : Unknown) → v ≢ u → mark_at (with_mark marks u b) v ≡ mark_at marks v
put_others marks u b v apart = put_at marks u b v ∙ ap (λ (c : Bool). cond c (Some b) (mark_at marks v)) (unknown_eq-apart v u apart)

some_none : (b : Bool) (o : Option Bool) → o ≡ Some b → o ≡ None → ⊥
some_none b o is none = true≢false (sym (ap is_some is) ∙ ap is_some none)

-- ---- the unknowns that can be marked

pub in_more : (marks : MarkList) (u : Unknown) (b : Bool) (v : Unknown) → IsIn (with_mark marks u b) v ↔ (IsIn marks v ⊎ (v ≡ u))
in_more marks u b v = elim (cases_unknown v u) [
  | inl same ↦ (λ one. inr same, λ either none. some_none b (mark_at (with_mark marks u b) v) (put_itself marks u b v same) none)
  | inr apart ↦ (
    λ one. inl (λ none. one (put_others marks u b v apart ∙ none)),
    λ either. elim either [
      | inl before ↦ λ none. before (sym (put_others marks u b v apart) ∙ none)
      | inr same ↦ absurd (apart same)
    ],
  )
]

pub listed_more : (us : List Unknown) (i : ℕ) (u : Unknown) (old new : MarkList) → i < length us → u ≡ get_or us i u → new ≡ with_mark old u false → ((v : Unknown) → IsIn old v ↔ Contains (take i us) v) → (v : Unknown) → IsIn new v ↔ Contains (take (i + 1) us) v
listed_more us i u old new within is put known v =
    let taken = Contains-take_more us i u v within is in
    subst (λ (marks : MarkList). IsIn marks v ↔ Contains (take (i + 1) us) v) (sym put) (
      λ one. elim ((in_more old u false v).0 one) [ inl before ↦ taken.1 (inl ((known v).0 before)) | inr same ↦ taken.1 (inr same) ],
      λ one. elim (taken.0 one) [ inl before ↦ (in_more old u false v).1 (inl ((known v).1 before)) | inr same ↦ (in_more old u false v).1 (inr same) ],
    )

pub none_marked_more : (old new : MarkList) (u : Unknown) → new ≡ with_mark old u false → ((v : Unknown) → IsMarked old v → ⊥) → (v : Unknown) → IsMarked new v → ⊥
none_marked_more old new u put none v marked =
    let here : IsMarked (with_mark old u false) v = subst (λ (marks : MarkList). IsMarked marks v) put marked in
    elim (cases_unknown v u) [
      | inl same ↦ true≢false (sym (same_Some false true (sym (put_itself old u false v same) ∙ here)))
      | inr apart ↦ none v (sym (put_others old u false v apart) ∙ here)
    ]

-- ---- one is marked that wasn't

module _ (old new : MarkList) (u : Unknown) (put : new ≡ with_mark old u true) (off : mark_at old u ≡ Some false) where
  pub marked_there : (v : Unknown) → IsIn new v ↔ IsIn old v
  marked_there v = subst (λ (marks : MarkList). IsIn marks v ↔ IsIn old v) (sym put) (
    λ one. elim ((in_more old u true v).0 one) [
      | inl before ↦ before
      | inr same ↦ λ none. some_none false (mark_at old u) off (ap (mark_at old) (sym same) ∙ none)
    ],
    λ one. (in_more old u true v).1 (inl one),
  )

  pub marked_more : (v : Unknown) → IsMarked new v ↔ (IsMarked old v ⊎ ((v ≡ u) × IsIn old v))
  marked_more v = subst (λ (marks : MarkList). IsMarked marks v ↔ (IsMarked old v ⊎ ((v ≡ u) × IsIn old v))) (sym put) (elim (cases_unknown v u) [
    | inl same ↦ (
      λ one. inr (same, λ none. some_none false (mark_at old u) off (ap (mark_at old) (sym same) ∙ none)),
      λ either. put_itself old u true v same,
    )
    | inr apart ↦ (
      λ one. inl (sym (put_others old u true v apart) ∙ one),
      λ either. elim either [ inl before ↦ put_others old u true v apart ∙ before | inr here ↦ absurd (apart here.0) ],
    )
  ])

  pub waiting_more : (rest waiting : List Unknown) → waiting ≡ rest ++ u ∷ [] → (v : Unknown) → Contains waiting v ↔ (Contains rest v ⊎ ((v ≡ u) × (mark_at old v ≡ Some false)))
  waiting_more rest waiting is v = subst (λ (l : List Unknown). Contains l v ↔ (Contains rest v ⊎ ((v ≡ u) × (mark_at old v ≡ Some false)))) (sym is) (
    λ one. elim ((Contains-push rest u v).0 one) [ inl before ↦ inl before | inr same ↦ inr (same, ap (mark_at old) same ∙ off) ],
    λ either. elim either [ inl before ↦ (Contains-push rest u v).1 (inl before) | inr here ↦ (Contains-push rest u v).1 (inr here.0) ],
  )

add_off : (a x : ℕ) → x ≡ 1 → (0 + a) + 1 ≡ x + a
add_off a x is = omega arith

add_kept : (x a b : ℕ) → a + 1 ≡ b → (x + a) + 1 ≡ x + b
add_kept x a b is = omega arith

count_kept : (e : Unknown × Bool) (es new : MarkList) → unmarked_count new + 1 ≡ unmarked_count es → unmarked_count (e ∷ new) + 1 ≡ unmarked_count (e ∷ es)
count_kept e es new is = add_kept (cond (not e.1) 1 0) (unmarked_count new) (unmarked_count es) is

count_step : (u : Unknown) (e : Unknown × Bool) (es : MarkList) (b : Bool) → unknown_eq u e.0 ≡ b → cond b (Some e.1) (mark_at es u) ≡ Some false
    → (mark_at es u ≡ Some false → unmarked_count (with_mark es u true) + 1 ≡ unmarked_count es)
    → unmarked_count (cond b ((e.0, true) ∷ es) (e ∷ with_mark es u true)) + 1 ≡ unmarked_count (e ∷ es)
count_step u e es true same off later =
    add_off (unmarked_count es) (cond (not e.1) 1 0) (ap (λ (c : Bool). cond (not c) 1 0) (same_Some e.1 false off))
count_step u e es false apart off later = count_kept e es (with_mark es u true) (later off)

pub count_marked : (marks : MarkList) (u : Unknown) → mark_at marks u ≡ Some false → unmarked_count (with_mark marks u true) + 1 ≡ unmarked_count marks
count_marked [] u off = absurd (true≢false (sym (ap is_some off)))
count_marked (e ∷ es) u off = count_step u e es (unknown_eq u e.0) refl off (count_marked es u)

pub balance_more : (old new : MarkList) (u : Unknown) (rest waiting : List Unknown) → new ≡ with_mark old u true → mark_at old u ≡ Some false → length waiting ≡ length rest + 1 → length waiting + unmarked_count new ≡ length rest + unmarked_count old
balance_more old new u rest waiting put off len =
    let fewer : unmarked_count new + 1 ≡ unmarked_count old = ap (λ (marks : MarkList). unmarked_count marks + 1) put ∙ count_marked old u off in
    omega arith

-- ---- one that can't be marked, or is already

module _ (old : MarkList) (u : Unknown) (on : mark_at old u ≡ Some false → ⊥) where
  on_or_out : (v : Unknown) (o : Option Bool) → mark_at old v ≡ o → v ≡ u → IsIn old v → IsMarked old v
  on_or_out v None is same inside = absurd (inside is)
  on_or_out v (Some true) is same inside = is
  on_or_out v (Some false) is same inside = absurd (on (ap (mark_at old) (sym same) ∙ is))

  pub marked_already : (v : Unknown) → IsMarked old v ↔ (IsMarked old v ⊎ ((v ≡ u) × IsIn old v))
  marked_already v = (λ one. inl one, λ either. elim either [ inl before ↦ before | inr here ↦ on_or_out v (mark_at old v) refl here.0 here.1 ])

  pub waiting_already : (rest : List Unknown) (v : Unknown) → Contains rest v ↔ (Contains rest v ⊎ ((v ≡ u) × (mark_at old v ≡ Some false)))
  waiting_already rest v = (λ one. inl one, λ either. elim either [ inl before ↦ before | inr here ↦ absurd (on (ap (mark_at old) (sym here.0) ∙ here.1)) ])

-- ---- one more of a list

module _ {New Mid Old Part Whole Here : Type 0} where
  pub joined : New ↔ (Mid ⊎ Here) → Mid ↔ (Old ⊎ Part) → Whole ↔ (Part ⊎ Here) → New ↔ (Old ⊎ Whole)
  joined a b c = (
    λ new. elim (a.0 new) [ inl mid ↦ elim (b.0 mid) [ inl old ↦ inl old | inr part ↦ inr (c.1 (inl part)) ] | inr here ↦ inr (c.1 (inr here)) ],
    λ either. elim either [ inl old ↦ a.1 (inl (b.1 (inl old))) | inr whole ↦ elim (c.0 whole) [ inl part ↦ a.1 (inl (b.1 (inr part))) | inr here ↦ a.1 (inr here) ] ],
  )

  pub marked_joined : {In Inside : Type 0} → New ↔ (Mid ⊎ (Here × Inside)) → Mid ↔ (Old ⊎ (Part × In)) → Whole ↔ (Part ⊎ Here) → Inside ↔ In → New ↔ (Old ⊎ (Whole × In))
  marked_joined a b c same = (
    λ new. elim (a.0 new) [
      | inl mid ↦ elim (b.0 mid) [ inl old ↦ inl old | inr part ↦ inr (c.1 (inl part.0), part.1) ]
      | inr here ↦ inr (c.1 (inr here.0), same.0 here.1)
    ],
    λ either. elim either [
      | inl old ↦ a.1 (inl (b.1 (inl old)))
      | inr whole ↦ elim (c.0 whole.0) [ inl part ↦ a.1 (inl (b.1 (inr (part, whole.1)))) | inr here ↦ a.1 (inr (here, same.1 whole.1)) ]
    ],
  )

module _ {Part : Type 0} (old mid : MarkList) (v : Unknown) (there : IsIn mid v ↔ IsIn old v) (marked : IsMarked mid v ↔ (IsMarked old v ⊎ (Part × IsIn old v))) where
  off_before : (o : Option Bool) → mark_at old v ≡ o → mark_at mid v ≡ Some false → mark_at old v ≡ Some false
  off_before None none off = absurd (there.0 (λ gone. some_none false (mark_at mid v) off gone) none)
  off_before (Some true) on off = absurd (true≢false (same_Some true false (sym (marked.1 (inl on)) ∙ off)))
  off_before (Some false) is off = is

  off_now : (o : Option Bool) → mark_at mid v ≡ o → mark_at old v ≡ Some false → (mark_at mid v ≡ Some false) ⊎ Part
  off_now None none off = absurd (there.1 (λ gone. some_none false (mark_at old v) off gone) none)
  off_now (Some true) on off = elim (marked.0 on) [ inl before ↦ absurd (true≢false (same_Some true false (sym before ∙ off))) | inr part ↦ inr part.0 ]
  off_now (Some false) is off = inl is

  pub waiting_joined : {New Mid Old Whole Here : Type 0} → New ↔ (Mid ⊎ (Here × (mark_at mid v ≡ Some false))) → Mid ↔ (Old ⊎ (Part × (mark_at old v ≡ Some false))) → Whole ↔ (Part ⊎ Here) → New ↔ (Old ⊎ (Whole × (mark_at old v ≡ Some false)))
  waiting_joined a b c = (
    λ new. elim (a.0 new) [
      | inl one ↦ elim (b.0 one) [ inl first ↦ inl first | inr part ↦ inr (c.1 (inl part.0), part.1) ]
      | inr here ↦ inr (c.1 (inr here.0), off_before (mark_at old v) refl here.1)
    ],
    λ either. elim either [
      | inl first ↦ a.1 (inl (b.1 (inl first)))
      | inr whole ↦ elim (c.0 whole.0) [
        | inl part ↦ a.1 (inl (b.1 (inr (part, whole.1))))
        | inr here ↦ elim (off_now (mark_at mid v) refl whole.1) [
          | inl off ↦ a.1 (inr (here, off))
          | inr part ↦ a.1 (inl (b.1 (inr (part, whole.1))))
        ]
      ]
    ],
  )

-- those of a list that pass, as one more is looked at
module _ {New Mid Part Whole : Type 0} (P : Unknown → Type 0) (u v : Unknown) (b : Bool) (test : (b ≡ true) ↔ P u) where
  pub kept_more : New ↔ (Mid ⊎ ((v ≡ u) × (b ≡ true))) → Mid ↔ (Part × P v) → Whole ↔ (Part ⊎ (v ≡ u)) → New ↔ (Whole × P v)
  kept_more a m c = (
    λ new. elim (a.0 new) [
      | inl mid ↦ (let both = m.0 mid in (c.1 (inl both.0), both.1))
      | inr here ↦ (c.1 (inr here.0), subst P (sym here.0) (test.0 here.1))
    ],
    λ both. elim (c.0 both.0) [
      | inl part ↦ a.1 (inl (m.1 (part, both.1)))
      | inr same ↦ a.1 (inr (same, test.1 (subst P same both.1)))
    ],
  )

module _ {Mid Part Whole Side : Type 0} where
  pub kept_all : Mid ↔ (Part × Side) → Part ↔ Whole → Mid ↔ (Whole × Side)
  kept_all m c = (λ mid. (let both = m.0 mid in (c.0 both.0, both.1)), λ both. m.1 (c.1 both.0, both.1))

module _ {New Mid A C : Type 0} where
  pub two_parts : New ↔ (Mid ⊎ C) → Mid ↔ A → New ↔ (A ⊎ C)
  two_parts n m = (
    λ new. elim (n.0 new) [ inl mid ↦ inl (m.0 mid) | inr c ↦ inr c ],
    λ either. elim either [ inl a ↦ n.1 (inl (m.1 a)) | inr c ↦ n.1 (inr c) ],
  )

module _ {New Mid First A B C : Type 0} where
  pub three_parts : New ↔ (Mid ⊎ C) → Mid ↔ (First ⊎ B) → First ↔ A → New ↔ (A ⊎ (B ⊎ C))
  three_parts n m f = (
    λ new. elim (n.0 new) [
      | inl mid ↦ elim (m.0 mid) [ inl first ↦ inl (f.0 first) | inr b ↦ inr (inl b) ]
      | inr c ↦ inr (inr c)
    ],
    λ either. elim either [
      | inl a ↦ n.1 (inl (m.1 (inl (f.1 a))))
      | inr later ↦ elim later [ inl b ↦ n.1 (inl (m.1 (inr b))) | inr c ↦ n.1 (inr c) ]
    ],
  )
