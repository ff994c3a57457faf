-- Rows as members come and go, one row after another.
use Rattle.std.proofs.Common.{◌≡◌, ◌≢◌, ℕ, ◌+◌, ◌<◌, ◌⊎◌, ◌↔◌, inl, inr, Bool, true, false, List, [], ◌∷◌, cond, Option, Some, length, take, get_or, refl, sym, ap, subst, ◌∙◌}
use Rattle.std.specs.Prelude.{Contains}
use Rattle.std.specs.Global.{Vec}
use Rattle.std.specs.Map.{lookup}
use Rattle.constraint_sys.specs.Table.{unknown_cmp, unknown_eq}
use Rattle.constraint_sys.specs.declared.unknown.Unknown.{Unknown}
use Rattle.constraint_sys.proofs.Entries.{cases_unknown, unknown_eq-apart, unknown_eq-refl}
use Rattle.constraint_sys.proofs.Ordered.{Contains-cases, Contains-head, Contains-nil, Contains-tail, Contains-take_more}
use Rattle.dep_index.specs.Rows.{Rows, row_at, items_of, set_at, HasRoom, IsRoomy, IsAscending, IsInverse, notes_of}
use Rattle.dep_index.specs.Noted.{Notes, reads_of, list_of, noted}

pub cases_contains : (xs : List Unknown) (u : Unknown) → Contains xs u ⊎ (Contains xs u → ⊥)
cases_contains [] u = inr (λ one. Contains-nil u one)
cases_contains (x ∷ xs) u = elim (cases_unknown u x) [
  | inl same ↦ inl (subst (λ (z : Unknown). Contains (z ∷ xs) u) same (Contains-head u xs))
  | inr apart ↦ elim (cases_contains xs u) [
    | inl later ↦ inl (Contains-tail x u xs later)
    | inr off ↦ inr (λ one. elim (Contains-cases x u xs one) [ inl same ↦ apart same | inr later ↦ off later ])
  ]
]

module _ {Mid Old Part Whole : Type 0} (w u y q : Unknown) (whole : Whole ↔ (Part ⊎ (w ≡ u))) where
  taken : {New : Type 0} → (w ≡ u → New ↔ (Mid × (y ≢ q))) → (w ≢ u → New ↔ Mid) → Mid ↔ (Old × ((y ≡ q) × Part → ⊥)) → New ↔ (Old × ((y ≡ q) × Whole → ⊥))
  taken here there mid = elim (cases_unknown w u) [
    | inl same ↦ (
      λ new. (let one = (here same).0 new in ((mid.0 one.0).0, λ (equal, all). one.1 equal)),
      λ both. (here same).1 (mid.1 (both.0, λ (equal, part). both.1 (equal, whole.1 (inl part))), λ equal. both.1 (equal, whole.1 (inr same))),
    )
    | inr apart ↦ (
      λ new. (let one = mid.0 ((there apart).0 new) in (one.0, λ (equal, all). elim (whole.0 all) [ inl part ↦ one.1 (equal, part) | inr same ↦ apart same ])),
      λ both. (there apart).1 (mid.1 (both.0, λ (equal, part). both.1 (equal, whole.1 (inl part)))),
    )
  ]

  given : {New : Type 0} → (w ≡ u → New ↔ (Mid ⊎ (y ≡ q))) → (w ≢ u → New ↔ Mid) → Mid ↔ (Old ⊎ ((y ≡ q) × Part)) → New ↔ (Old ⊎ ((y ≡ q) × Whole))
  given here there mid = elim (cases_unknown w u) [
    | inl same ↦ (
      λ new. elim ((here same).0 new) [
        | inl one ↦ elim (mid.0 one) [ inl old ↦ inl old | inr part ↦ inr (part.0, whole.1 (inl part.1)) ]
        | inr equal ↦ inr (equal, whole.1 (inr same))
      ],
      λ either. (here same).1 (elim either [
        | inl old ↦ inl (mid.1 (inl old))
        | inr added ↦ inr added.0
      ]),
    )
    | inr apart ↦ (
      λ new. elim (mid.0 ((there apart).0 new)) [ inl old ↦ inl old | inr part ↦ inr (part.0, whole.1 (inl part.1)) ],
      λ either. (there apart).1 (mid.1 (elim either [
        | inl old ↦ inl old
        | inr added ↦ elim (whole.0 added.1) [ inl part ↦ inr (added.0, part) | inr same ↦ absurd (apart same) ]
      ])),
    )
  ]

module _ (new mid : Rows) (u : Unknown) (others : (w : Unknown) → w ≢ u → row_at new w ≡ row_at mid w) where
  pub same_elsewhere : (w y : Unknown) → w ≢ u → Contains (set_at new w) y ↔ Contains (set_at mid w) y
  same_elsewhere w y apart = (
    λ one. subst (λ (o : Option (Vec Unknown)). Contains (items_of o) y) (others w apart) one,
    λ one. subst (λ (o : Option (Vec Unknown)). Contains (items_of o) y) (sym (others w apart)) one,
  )

  pub ascending_everywhere : IsAscending unknown_cmp (set_at new u) → ((w : Unknown) → IsAscending unknown_cmp (set_at mid w)) → (w : Unknown) → IsAscending unknown_cmp (set_at new w)
  ascending_everywhere here before w = elim (cases_unknown w u) [
    | inl same ↦ subst (λ (n : Unknown). IsAscending unknown_cmp (set_at new n)) (sym same) here
    | inr apart ↦ subst (λ (o : Option (Vec Unknown)). IsAscending unknown_cmp (items_of o)) (sym (others w apart)) (before w)
  ]

  pub room_everywhere : (HasRoom mid u → HasRoom new u) → (w : Unknown) → HasRoom mid w → HasRoom new w
  room_everywhere here w = elim (cases_unknown w u) [
    | inl same ↦ subst (λ (n : Unknown). HasRoom mid n → HasRoom new n) (sym same) here
    | inr apart ↦ λ room. subst IsRoomy (sym (others w apart)) room
  ]

  module _ (old : Rows) (q : Unknown) (us : List Unknown) (i : ℕ) (within : i < length us) (is : u ≡ get_or us i u) where
    whole : (w : Unknown) → Contains (take (i + 1) us) w ↔ (Contains (take i us) w ⊎ (w ≡ u))
    whole w = Contains-take_more us i u w within is

    pub taken_more : ((y : Unknown) → Contains (set_at new u) y ↔ (Contains (set_at mid u) y × (y ≢ q))) → ((w y : Unknown) → Contains (set_at mid w) y ↔ (Contains (set_at old w) y × ((y ≡ q) × Contains (take i us) w → ⊥))) → (w y : Unknown) → Contains (set_at new w) y ↔ (Contains (set_at old w) y × ((y ≡ q) × Contains (take (i + 1) us) w → ⊥))
    taken_more here before w y = taken w u y q (whole w) (λ same. subst (λ (n : Unknown). Contains (set_at new n) y ↔ (Contains (set_at mid n) y × (y ≢ q))) (sym same) (here y)) (same_elsewhere w y) (before w y)

    pub given_more : ((y : Unknown) → Contains (set_at new u) y ↔ (Contains (set_at mid u) y ⊎ (y ≡ q))) → ((w y : Unknown) → Contains (set_at mid w) y ↔ (Contains (set_at old w) y ⊎ ((y ≡ q) × Contains (take i us) w))) → (w y : Unknown) → Contains (set_at new w) y ↔ (Contains (set_at old w) y ⊎ ((y ≡ q) × Contains (take (i + 1) us) w))
    given_more here before w y = given w u y q (whole w) (λ same. subst (λ (n : Unknown). Contains (set_at new n) y ↔ (Contains (set_at mid n) y ⊎ (y ≡ q))) (sym same) (here y)) (same_elsewhere w y) (before w y)

    pub room_or_there : ((y : Unknown) → Contains (set_at new u) y ↔ (Contains (set_at mid u) y ⊎ (y ≡ q))) → ((w : Unknown) → Contains us w → HasRoom mid w ⊎ Contains (set_at mid w) q) → (w : Unknown) → Contains us w → HasRoom new w ⊎ Contains (set_at new w) q
    room_or_there here before w one = elim (cases_unknown w u) [
      | inl same ↦ inr (subst (λ (n : Unknown). Contains (set_at new n) q) (sym same) ((here q).1 (inr refl)))
      | inr apart ↦ elim (before w one) [
        | inl room ↦ inl (subst IsRoomy (sym (others w apart)) room)
        | inr there ↦ inr ((same_elsewhere w q apart).1 there)
      ]
    ]

pub reads_of-notes : (rows : Rows) (q : Unknown) → reads_of (notes_of rows) q ≡ set_at rows q
reads_of-notes [] q = refl
reads_of-notes (e ∷ rows) q = by (unknown_eq q e.0) (reads_of-notes rows q)
  where
    by : (b : Bool) → reads_of (notes_of rows) q ≡ set_at rows q → list_of (cond b (Some e.1.items) (lookup (unknown_eq q) (notes_of rows))) ≡ items_of (cond b (Some e.1) (lookup (unknown_eq q) rows))
    by true rest = refl
    by false rest = rest

-- a note of what is noted already
pub noted_same : (notes : Notes) (r : Unknown) (xs : List Unknown) → reads_of notes r ≡ xs → (q : Unknown) → reads_of notes q ≡ noted notes r xs q
noted_same notes r xs is q = elim (cases_unknown q r) [
  | inl same ↦ ap (reads_of notes) same ∙ is ∙ sym (ap (λ (b : Bool). cond b xs (reads_of notes q)) (ap (λ (z : Unknown). unknown_eq q z) (sym same) ∙ unknown_eq-refl q))
  | inr apart ↦ sym (ap (λ (b : Bool). cond b xs (reads_of notes q)) (unknown_eq-apart q r apart))
]

module _ (reads after : Rows) (r : Unknown) (xs : List Unknown) (here : set_at after r ≡ xs) (others : (w : Unknown) → w ≢ r → row_at after w ≡ row_at reads w) where
  pub noted_is : (notes : Notes) → notes_of reads ≡ notes → (q : Unknown) → reads_of (notes_of after) q ≡ noted notes r xs q
  noted_is notes is q = reads_of-notes after q ∙ elim (cases_unknown q r) [
    | inl same ↦ ap (set_at after) same ∙ here ∙ sym (ap (λ (b : Bool). cond b xs (reads_of notes q)) (ap (λ (z : Unknown). unknown_eq q z) (sym same) ∙ unknown_eq-refl q))
    | inr apart ↦ ap items_of (others q apart) ∙ sym (reads_of-notes reads q) ∙ ap (λ (l : Notes). reads_of l q) is ∙ sym (ap (λ (b : Bool). cond b xs (reads_of notes q)) (unknown_eq-apart q r apart))
  ]

  pub inverse_after : (readers kept took new : Rows) (gone added : List Unknown) → IsInverse reads readers → ((w : Unknown) → set_at kept w ≡ set_at readers w)
      → ((w : Unknown) → Contains gone w ↔ (Contains (set_at reads r) w × (Contains xs w → ⊥)))
      → ((w : Unknown) → Contains added w ↔ (Contains xs w × (Contains (set_at reads r) w → ⊥)))
      → ((w y : Unknown) → Contains (set_at took w) y ↔ (Contains (set_at kept w) y × ((y ≡ r) × Contains gone w → ⊥)))
      → ((w y : Unknown) → Contains (set_at new w) y ↔ (Contains (set_at took w) y ⊎ ((y ≡ r) × Contains added w)))
      → ((w : Unknown) → IsAscending unknown_cmp (set_at new w)) → IsInverse after new
  inverse_after readers kept took new gone added inverse same gone_is added_is taken put ascending = record {
    members = λ u q.
        let before : Contains (set_at kept u) q → Contains (set_at reads q) u = λ one. (inverse.members u q).0 (subst (λ (l : List Unknown). Contains l q) (same u) one) in
        let back : Contains (set_at reads q) u → Contains (set_at kept u) q = λ one. subst (λ (l : List Unknown). Contains l q) (sym (same u)) ((inverse.members u q).1 one) in
        elim (cases_unknown q r) [
          | inl equal ↦
              let noted_here : Contains xs u ↔ Contains (set_at after q) u = (
                λ one. subst (λ (l : List Unknown). Contains l u) (sym (ap (set_at after) equal ∙ here)) one,
                λ one. subst (λ (l : List Unknown). Contains l u) (ap (set_at after) equal ∙ here) one,
              ) in (
                λ one. noted_here.0 (elim ((put u q).0 one) [
                  | inl left ↦ elim (cases_contains xs u) [
                    | inl it ↦ it
                    | inr off ↦ absurd (((taken u q).0 left).1 (equal, (gone_is u).1 (subst (λ (z : Unknown). Contains (set_at reads z) u) equal (before ((taken u q).0 left).0), off)))
                  ]
                  | inr new_one ↦ ((added_is u).0 new_one.1).0
                ]),
                λ one. elim (cases_contains (set_at reads r) u) [
                  | inl old ↦ (put u q).1 (inl ((taken u q).1 (back (subst (λ (z : Unknown). Contains (set_at reads z) u) (sym equal) old), λ (is, out). ((gone_is u).0 out).1 (noted_here.1 one))))
                  | inr off ↦ (put u q).1 (inr (equal, (added_is u).1 (noted_here.1 one, off)))
                ],
              )
          | inr apart ↦ (
            λ one. elim ((put u q).0 one) [
              | inl left ↦ subst (λ (o : Option (Vec Unknown)). Contains (items_of o) u) (sym (others q apart)) (before ((taken u q).0 left).0)
              | inr new_one ↦ absurd (apart new_one.0)
            ],
            λ one. (put u q).1 (inl ((taken u q).1 (back (subst (λ (o : Option (Vec Unknown)). Contains (items_of o) u) (others q apart) one), λ (equal, out). apart equal))),
          )
        ];
    ascending = ascending;
  }

pub inverse_same : (reads readers kept : Rows) → IsInverse reads readers → ((w : Unknown) → set_at kept w ≡ set_at readers w) → IsInverse reads kept
inverse_same reads readers kept inverse same = record {
  members = λ u q. subst (λ (l : List Unknown). Contains l q ↔ Contains (set_at reads q) u) (sym (same u)) (inverse.members u q);
  ascending = λ u. subst (IsAscending unknown_cmp) (sym (same u)) (inverse.ascending u);
}

-- nothing is added
pub none_added : (rows : Rows) (r w y : Unknown) → Contains (set_at rows w) y ↔ (Contains (set_at rows w) y ⊎ ((y ≡ r) × Contains [] w))
none_added rows r w y = (λ one. inl one, λ either. elim either [ inl one ↦ one | inr none ↦ absurd (Contains-nil w none.1) ])
