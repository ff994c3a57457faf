-- What the code of a turn makes is a turn.
use Rattle.std.proofs.Common.{◌≡◌, ◌≢◌, ◌↔◌, ◌⊎◌, inl, inr, List, sym, subst}
use Rattle.std.specs.Prelude.{Contains}
use Rattle.gob_tree.specs.declared.graph.Program.{Program}
use Rattle.constraint_sys.specs.declared.unknown.Unknown.{Unknown}
use Rattle.constraint_sys.specs.Arising.{arisen_in_each}
use Rattle.constraint_sys.specs.Table.{TableValue}
use Rattle.constraint_sys.specs.Turn.{IsAscending, IsBrought, IsDirtyAfter, ReadsRisen, Turns, raises_of, table_after}
use Rattle.constraint_sys.proofs.Awakening.{Brought-after}

module _ (p : Program) (t : TableValue) (dirty after awake : List Unknown) (u : Unknown) (final : TableValue) where
  dirty_made : (q : Unknown) → final ≡ table_after p t u → Contains after q ↔ (((Contains dirty q) × (q ≢ u)) ⊎ (IsBrought t (arisen_in_each p t (raises_of p t u)) q ⊎ Contains awake q))
      → (Contains awake q → ReadsRisen p t (table_after p t u) q) → (ReadsRisen p t (table_after p t u) q → Contains awake q ⊎ ((Contains dirty q) × (q ≢ u))) → Contains after q ↔ IsDirtyAfter p (record { table = t; dirty = dirty }) u final q
  dirty_made q is made readers all_readers = (
    λ one. elim (made.0 one) [
      | inl waits ↦ inl waits
      | inr new ↦ inr (elim new [
        | inl brought ↦ inl (subst (λ (s : TableValue). IsBrought t s q) (sym is) ((Brought-after p t (raises_of p t u) q).0 brought))
        | inr reader ↦ inr (subst (λ (s : TableValue). ReadsRisen p t s q) (sym is) (readers reader))
      ])
    ],
    λ due. made.1 (elim due [
      | inl waits ↦ inl waits
      | inr new ↦ elim new [
        | inl brought ↦ inr (inl ((Brought-after p t (raises_of p t u) q).1 (subst (λ (s : TableValue). IsBrought t s q) is brought)))
        | inr risen ↦ elim (all_readers (subst (λ (s : TableValue). ReadsRisen p t s q) is risen)) [ inl awoke ↦ inr (inr awoke) | inr waits ↦ inl waits ]
      ]
    ]),
  )

  pub Turns-made : Contains dirty u → final ≡ table_after p t u
      → ((q : Unknown) → Contains after q ↔ (((Contains dirty q) × (q ≢ u)) ⊎ (IsBrought t (arisen_in_each p t (raises_of p t u)) q ⊎ Contains awake q)))
      → ((q : Unknown) → Contains awake q → ReadsRisen p t (table_after p t u) q)
      → ((q : Unknown) → ReadsRisen p t (table_after p t u) q → Contains awake q ⊎ ((Contains dirty q) × (q ≢ u)))
      → IsAscending after → Turns p (record { table = t; dirty = dirty }) u (record { table = final; dirty = after })
  Turns-made waits is made readers all_readers ascending = record {
    was_dirty = waits;
    table = is;
    dirty = λ q. dirty_made q is (made q) (readers q) (all_readers q);
    ascending = ascending;
  }
