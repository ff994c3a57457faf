-- The kept entries, the roots and the nodes that come to them, and the dirty points, as one.
use Rattle.std.proofs.Common.{◌≡◌, ◌⊎◌, ◌↔◌, inl, inr, List, [], ◌++◌, sym, ap, subst, ◌∙◌}
use Rattle.std.specs.Map.{keys_of}
use Rattle.std.specs.Prelude.{Contains}
use Rattle.gob_tree.specs.Formed.{IsFormed}
use Rattle.gob_tree.specs.declared.graph.Program.{Program}
use Rattle.constraint_sys.specs.Carry.{Carries, KeepsEntries, LostTarget, lacking, with_roots}
use Rattle.constraint_sys.specs.Table.{IsThere, TableValue}
use Rattle.constraint_sys.specs.Turn.{IsAscending}
use Rattle.constraint_sys.proofs.Ordered.{Contains-nil}
use Rattle.constraint_sys.specs.declared.unknown.Unknown.{Unknown}
use Rattle.destabilise.specs.Linked.{IsOfProgram}
use Rattle.global_restart.proofs.Adding.{kept_of_program, rooted_of_program}

pub rooted_known : (old new : Program) → IsFormed new → (t kept rooted : TableValue) → KeepsEntries old new t t kept → rooted ≡ with_roots new kept → (w : Unknown) → IsThere rooted w → IsOfProgram new w
rooted_known old new formed t kept rooted keeps is w there =
    rooted_of_program new formed kept (kept_of_program old new formed t kept keeps) w (subst (λ (l : TableValue). IsThere l w) is there)

-- the points that were lost, then the nodes that were lacking
pub two_added : (q : Unknown) (lost lack start one two : List Unknown) → start ≡ [] → Contains one q ↔ (Contains start q ⊎ Contains lost q) → Contains two q ↔ (Contains one q ⊎ Contains lack q) → Contains two q ↔ (Contains lack q ⊎ Contains lost q)
two_added q lost lack start one two none first second = (
  λ dirty. elim (second.0 dirty) [
    | inl early ↦ elim (first.0 early) [
      | inl nothing ↦ absurd (Contains-nil q (subst (λ (l : List Unknown). Contains l q) none nothing))
      | inr point ↦ inr point
    ]
    | inr node ↦ inl node
  ],
  λ either. elim either [
    | inl node ↦ second.1 (inr node)
    | inr point ↦ second.1 (inl (first.1 (inr point)))
  ],
)

both_are : (q : Unknown) (keys lost lack dirty : List Unknown) (L : Type 0) → lack ≡ keys → Contains dirty q ↔ (Contains lack q ⊎ Contains lost q) → Contains lost q ↔ L → Contains dirty q ↔ (Contains keys q ⊎ L)
both_are q keys lost lack dirty L same members known = (
  λ one. elim (members.0 one) [
    | inl node ↦ inl (subst (λ (l : List Unknown). Contains l q) same node)
    | inr point ↦ inr (known.0 point)
  ],
  λ either. members.1 (elim either [
    | inl node ↦ inl (subst (λ (l : List Unknown). Contains l q) (sym same) node)
    | inr point ↦ inr (known.1 point)
  ]),
)

pub carries_all : (old new : Program) (t kept rooted all : TableValue) (lost lost_seen lack lack_seen dirty : List Unknown)
    → KeepsEntries old new t t kept → rooted ≡ with_roots new kept → all ≡ rooted ++ lacking new rooted → lack ≡ keys_of (lacking new rooted)
    → ((q : Unknown) → Contains lost q ↔ LostTarget old new t q) → lost_seen ≡ lost → lack_seen ≡ lack
    → ((q : Unknown) → Contains dirty q ↔ (Contains lack_seen q ⊎ Contains lost_seen q)) → IsAscending dirty
    → Carries old new t (record { table = all; dirty = dirty })
carries_all old new t kept rooted all lost lost_seen lack lack_seen dirty keeps roots table added known lost_is lack_is members ascending =
    let keys : lack_seen ≡ keys_of (lacking new (with_roots new kept)) = lack_is ∙ added ∙ ap (λ (l : TableValue). keys_of (lacking new l)) roots in
    record {
      kept = kept;
      entries = keeps;
      table = table ∙ ap (λ (l : TableValue). l ++ lacking new l) roots;
      dirty = λ q. both_are q (keys_of (lacking new (with_roots new kept))) lost_seen lack_seen dirty (LostTarget old new t q) keys (members q)
          (subst (λ (l : List Unknown). Contains l q ↔ LostTarget old new t q) (sym lost_is) (known q));
      ascending = ascending;
    }
