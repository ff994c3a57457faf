-- Where each kept entry comes from, and where each entry that stays goes.
use Rattle.std.proofs.Common.{◌≡◌, ◌≢◌, Bool, cond, ◌∷◌, Some, sym, ap, subst, ◌∙◌, inl, inr, is_some}
use Rattle.std.specs.Prelude.{filter}
use Rattle.std.proofs.lemmas.Option.{none-some, same_Some}
use Rattle.gob_tree.specs.Formed.{IsFormed}
use Rattle.gob_tree.specs.declared.graph.Program.{Program}
use Rattle.constraint_sys.specs.declared.unknown.Unknown.{Unknown}
use Rattle.constraint_sys.specs.declared.unknown.Unknown.TheVariants.{Point, Global}
use Rattle.constraint_sys.specs.declared.value.Value.{Value}
use Rattle.constraint_sys.specs.Carry.{Carries, IsRemoved, KeepsEntries, Renames, lacking, roots_of, with_roots, no_entries, removed_entry, kept_entry, lost_mutex_in_context}
use Rattle.constraint_sys.specs.Table.{TableValue, IsThere, value_at}
use Rattle.constraint_sys.specs.Turn.{Solving, is_absent}
use Rattle.constraint_sys.proofs.Entries.{IsThere-cons, cases_unknown, there_value, unknown_eq-apart, value_at-appended, value_at-head}
use Rattle.carry_law.proofs.Renamed.{IsCarriedOver, IsRenamed, IsRenamedValue, KeepsContext, renamed, renamed_from_one, renamed_once, renamed_value}

pub past_entry : (u q : Unknown) (v : Value) (t : TableValue) → q ≢ u → value_at ((u, v) ∷ t) q ≡ value_at t q
past_entry u q v t other = ap (λ (b : Bool). cond b (Some v) (value_at t q)) (unknown_eq-apart q u other)

-- the entry of the old table that a kept one was
pub record Origin (old new : Program) (t entries : TableValue) (w : Unknown) (x : Value) : Type 0 where
  pub from : Unknown
  pub was : Value
  pub at : value_at entries from ≡ Some was
  pub stays : IsRemoved old new t from → ⊥
  pub renames : Renames old new from w
  pub same : IsRenamedValue old new was x

module _ (old new : Program) (new_formed : IsFormed new) (t : TableValue) where
  pub origin : {entries kept : TableValue} → KeepsEntries old new t entries kept → (q : Unknown) (y : Value) → value_at kept q ≡ Some y → Origin old new t entries q y
  origin no_entries q y at = absurd (none-some y at)
  origin (removed_entry {u} {v} {entries} {kept} removed rest) q y at =
      let o = origin rest q y at in
      let other : o.from ≢ u = λ is. o.stays (subst (IsRemoved old new t) (sym is) removed) in
      record { from = o.from; was = o.was; at = past_entry u o.from v entries other ∙ o.at; stays = o.stays; renames = o.renames; same = o.same }
  origin (kept_entry {u} {w} {v} {x} {entries} {kept} stays renames same rest) q y at = elim (cases_unknown q w) [
    | inl is ↦
        let value : x ≡ y = same_Some x y (sym (value_at-head q x kept) ∙ subst (λ (z : Unknown). value_at ((z, x) ∷ kept) q ≡ Some y) (sym is) at) in
        record { from = u; was = v; at = value_at-head u v entries; stays = stays; renames = subst (λ (z : Unknown). Renames old new u z) (sym is) renames; same = subst (λ (z : Value). IsRenamedValue old new v z) value (renamed_value same) }
    | inr other ↦
        let o = origin rest q y (sym (past_entry w q x kept other) ∙ at) in
        let apart : o.from ≢ u = λ is. other (renamed_once old new new_formed u q w (subst (λ (z : Unknown). IsRenamed old new z q) is (renamed o.renames)) (renamed renames)) in
        record { from = o.from; was = o.was; at = past_entry u o.from v entries apart ∙ o.at; stays = o.stays; renames = o.renames; same = o.same }
  ]

module _ (old new : Program) (old_formed : IsFormed old) (t : TableValue) where
  pub goes : {entries kept : TableValue} → KeepsEntries old new t entries kept → ((q : Unknown) → IsThere entries q → (IsRemoved old new t q → ⊥) → KeepsContext old new q)
      → (q : Unknown) (y : Value) → value_at entries q ≡ Some y → (IsRemoved old new t q → ⊥) → IsCarriedOver old new entries kept q
  goes no_entries contexts q y at stays = absurd (none-some y at)
  goes (removed_entry {u} {v} {entries} {kept} removed rest) contexts q y at stays =
      let other : q ≢ u = λ is. stays (subst (IsRemoved old new t) (sym is) removed) in
      let c = goes rest (λ r there. contexts r (IsThere-cons r (u, v) entries there)) q y (sym (past_entry u q v entries other) ∙ at) stays in
      record { place = c.place; named = c.named; was = c.was; is = c.is; at = past_entry u q v entries other ∙ c.at; stands = c.stands; same = c.same }
  goes (kept_entry {u} {w} {v} {x} {entries} {kept} keeps renames same rest) contexts q y at stays = elim (cases_unknown q u) [
    | inl is ↦ record {
      place = w;
      named = subst (λ (z : Unknown). IsRenamed old new z w) (sym is) (renamed renames);
      was = v;
      is = x;
      at = ap (value_at ((u, v) ∷ entries)) is ∙ value_at-head u v entries;
      stands = value_at-head w x kept;
      same = renamed_value same;
    }
    | inr other ↦
        let c = goes rest (λ r there. contexts r (IsThere-cons r (u, v) entries there)) q y (sym (past_entry u q v entries other) ∙ at) stays in
        let apart : c.place ≢ w = λ is. other (renamed_from_one old new old_formed q u w (contexts q (ap is_some at) stays) (contexts u (ap is_some (value_at-head u v entries)) keeps) (subst (λ (z : Unknown). IsRenamed old new q z) is c.named) (renamed renames)) in
        record { place = c.place; named = c.named; was = c.was; is = c.is; at = past_entry u q v entries other ∙ c.at; stands = past_entry w c.place x kept apart ∙ c.stands; same = c.same }
  ]

-- ---- the table that is carried over

module _ (old new : Program) (old_formed : IsFormed old) (t : TableValue) (s : Solving) (c : Carries old new t s) where
  pub in_table : (w : Unknown) (x : Value) → value_at c.kept w ≡ Some x → value_at s.table w ≡ Some x
  in_table w x at =
      ap (λ (l : TableValue). value_at l w) c.table
      ∙ value_at-appended w (with_roots new c.kept) (lacking new (with_roots new c.kept)) x (value_at-appended w c.kept (filter (is_absent c.kept) (roots_of new)) x at)

  contexts_stay : (q : Unknown) → IsThere t q → (IsRemoved old new t q → ⊥) → KeepsContext old new q
  contexts_stay (Point f key node) there stays = λ holds. stays (lost_mutex_in_context there holds)
  contexts_stay (Global g) there stays = tt

  pub kept_over : (u : Unknown) → IsThere t u → (IsRemoved old new t u → ⊥) → IsCarriedOver old new t c.kept u
  kept_over u there stays =
      let v = there_value (value_at t u) there in
      goes old new old_formed t c.entries contexts_stay u v.0 v.1 stays

  -- what stays is carried over
  pub carried : (u : Unknown) → IsThere t u → (IsRemoved old new t u → ⊥) → IsCarriedOver old new t s.table u
  carried u there stays =
      let k = kept_over u there stays in
      record { place = k.place; named = k.named; was = k.was; is = k.is; at = k.at; stands = in_table k.place k.is k.stands; same = k.same }
