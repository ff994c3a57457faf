-- The mutexes of a thread after it locked or unlocked one.
use Rattle.std.proofs.Common.{◌≡◌, ◌∙◌, inl, inr, sym, subst, ℕ, ◌<◌, List, length, Option, None, Some}
use Rattle.std.specs.Prelude.{slice_index_or, slice_set}
use Rattle.std.proofs.lemmas.Bool.{cases_eq}
use Rattle.std.proofs.lemmas.List.{get_or-set_same, get_or-set_other}
use Rattle.lockset_dom.specs.Members.{Holds, with_member, without_member}
use Rattle.lockset_dom.proofs.Membership.{Holds-with_member, Holds-without_member}
use Rattle.state_dom.specs.StateValue.{OwnsEach}

-- a member of a set with m that isn't m was a member before
held_before : (set m k : ℕ) → (k ≡ m → ⊥) → Holds (with_member set m) k → Holds set k
held_before set m k apart held = elim ((Holds-with_member set m k).0 held) [
  | inl same ↦ absurd (apart same)
  | inr before ↦ before
]

pub lock_owns : (owners : List (Option ℕ)) (thread m locks : ℕ) → m < length owners → OwnsEach owners thread locks → OwnsEach (slice_set owners m (Some thread)) thread (with_member locks m)
lock_owns owners thread m locks within owns k held = elim (cases_eq k m) [
  | inl same ↦ subst (λ (i : ℕ). slice_index_or (slice_set owners m (Some thread)) i None ≡ Some thread) (sym same) (get_or-set_same owners m (Some thread) None within)
  | inr apart ↦ get_or-set_other owners m k (Some thread) None apart ∙ owns k (held_before locks m k apart held)
]

pub unlock_owns : (owners : List (Option ℕ)) (thread m locks : ℕ) → OwnsEach owners thread locks → OwnsEach (slice_set owners m None) thread (without_member locks m)
unlock_owns owners thread m locks owns k held =
    let left = (Holds-without_member locks m k).0 held in
    get_or-set_other owners m k None None left.0 ∙ owns k left.1
