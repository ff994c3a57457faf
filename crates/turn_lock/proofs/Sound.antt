-- What holds of every pass still holds after each call.
use Rattle.std.proofs.Common.{max, Contains, Option, ◌≡◌, ℕ, ◌+◌, ◌<◌, ◌≤◌, List, [], ◌∷◌, ◌++◌, length, false, true, true≢false, refl, sym, ap, ◌∙◌, subst, ⊎_elim, arith, length-append}
use mathlib.Core.List.{IsPrefix}
use Rattle.atomic_table.specs.Seated.{TableId}
use Rattle.turn_lock.specs.declared.logged.Role.{Role}
use Rattle.turn_lock.specs.declared.view.Place.{Place}
use Rattle.turn_lock.specs.declared.view.Place.TheVariants.{Outside, Waiting, Inside, Spent}
use Rattle.turn_lock.specs.declared.view.View.{View}
use Rattle.turn_lock.specs.Kinds.{Kind, OwnsSubjects, MayAdd}
use Rattle.turn_lock.specs.Lists.{longer, merged}
use Rattle.turn_lock.specs.Known.{known_of, IsSound, MayGive}
use Rattle.turn_lock.specs.Standing.{Holds}
use Rattle.turn_lock.specs.Turn.{has_turn, opener_view, moved, entered, grown, informed, twin, joined}
use Rattle.turn_lock.proofs.Places.{contains_none, all_none, all_implied, all_snoc, pairs_none, pairs_snoc, all_merged, ascending_merged}
use Rattle.turn_lock.proofs.Prefixes.{prefix_length, length-longer}

-- a pass without the turn has no ticket, and holds no slot
pub outside : {B : Type 0} (p : Place) (slots : List (ℕ × Option B)) → Holds p slots → has_turn p ≡ false → (p ≡ Outside) × (slots ≡ [])
outside Outside slots h off = (refl, h)
outside (Waiting n) slots h off = absurd h
outside (Inside n) slots h off = absurd (true≢false off)
outside Spent slots h off = absurd h

-- which table it is doesn't matter
module _ {E : Type 0} (kind : E → Kind) (z z' : TableId) where
  abbrev pub Sound : View E → Type 0
  Sound v = IsSound kind (known_of z v)

  abbrev pub Sound' : View E → Type 0
  Sound' v = IsSound kind (known_of z' v)

  pub sound_opener : (terms : ℕ) (xs : List E) → Sound' (opener_view terms xs)
  sound_opener terms xs = record {
    ascending = pairs_none (λ a b. a < b);
    below = all_none (λ k. k < length xs);
    rising = pairs_none (λ a b. a ≤ b);
    looked = all_none (λ n. n ≤ length xs);
    subjects = λ r n b k e f i. absurd (contains_none b i);
    whole = λ (e : false ≡ true). absurd (true≢false (sym e));
  }

  pub sound_entered : (v : View E) (ticket : ℕ) (xs : List E) → IsPrefix v.seen xs → OwnsSubjects kind xs v.mine → Sound v → Sound' (entered v ticket xs)
  sound_entered v ticket xs p own s = let le : length v.seen ≤ length xs = prefix_length v.seen xs p in record {
    ascending = s.ascending;
    below = all_implied (λ (k : ℕ). k < length v.seen) (λ (k : ℕ). k < length xs) (λ k lt. omega arith) v.mine s.below;
    rising = pairs_snoc (λ (a b : ℕ). a ≤ b) v.looks (length xs) s.rising (all_implied (λ (n : ℕ). n ≤ length v.seen) (λ (n : ℕ). n ≤ length xs) (λ n l. omega arith) v.looks s.looked);
    looked = all_snoc (λ (n : ℕ). n ≤ length xs) v.looks (length xs) (all_implied (λ (n : ℕ). n ≤ length v.seen) (λ (n : ℕ). n ≤ length xs) (λ n l. omega arith) v.looks s.looked) (omega arith);
    subjects = own;
    whole = λ _. refl;
  }

  pub sound_moved : (v : View E) (p : Place) → has_turn p ≡ false → Sound v → Sound' (moved v p)
  sound_moved v p off s = record {
    ascending = s.ascending;
    below = s.below;
    rising = s.rising;
    looked = s.looked;
    subjects = s.subjects;
    whole = λ (e : has_turn p ≡ true). absurd (true≢false (sym e ∙ off));
  }

  pub sound_grown : (v : View E) (xs : List E) (e : E) → xs ≡ v.seen ++ e ∷ [] → OwnsSubjects kind xs (v.mine ++ length v.seen ∷ []) → Sound v → Sound' (moved (grown v xs) Outside)
  sound_grown v xs e is own s = let more : length xs ≡ length v.seen + 1 = subst (λ (ys : List E). length ys ≡ length v.seen + 1) (sym is) (length-append v.seen (e ∷ [])) in record {
    ascending = pairs_snoc (λ (a b : ℕ). a < b) v.mine (length v.seen) s.ascending s.below;
    below = all_snoc (λ (k : ℕ). k < length xs) v.mine (length v.seen) (all_implied (λ (k : ℕ). k < length v.seen) (λ (k : ℕ). k < length xs) (λ k lt. omega arith) v.mine s.below) (omega arith);
    rising = s.rising;
    looked = all_implied (λ (n : ℕ). n ≤ length v.seen) (λ (n : ℕ). n ≤ length xs) (λ n l. omega arith) v.looks s.looked;
    subjects = own;
    whole = λ (e : false ≡ true). absurd (true≢false (sym e));
  }

  -- the same, where what may be given is longer than what was seen
  pub sound_given : (v : View E) (xs : List E) → MayGive kind (known_of z v) xs → (length xs ≡ length v.seen → ⊥) → OwnsSubjects kind xs (v.mine ++ length v.seen ∷ []) → Sound v → Sound' (moved (grown v xs) Outside)
  sound_given v xs may other own s = ⊎_elim
      (λ (same : xs ≡ v.seen). absurd (other (ap length same)))
      (λ (more : (e : E) × (xs ≡ v.seen ++ e ∷ []) × MayAdd kind v.role v.seen v.mine e). sound_grown v xs more.0 more.1 own s)
      may

  pub sound_twin : (role : Role) (v : View E) → Sound' (twin role v)
  sound_twin role v = record {
    ascending = pairs_none (λ a b. a < b);
    below = all_none (λ k. k < length v.seen);
    rising = pairs_none (λ a b. a ≤ b);
    looked = all_none (λ n. n ≤ length v.seen);
    subjects = λ r n b k e f i. absurd (contains_none b i);
    whole = λ (e : false ≡ true). absurd (true≢false (sym e));
  }

  pub sound_informed : (v : View E) (n : ℕ) → (has_turn v.place ≡ true → n ≡ length v.seen) → Sound v → Sound' (informed v n)
  sound_informed v n all s = record {
    ascending = s.ascending;
    below = s.below;
    rising = s.rising;
    looked = s.looked;
    subjects = s.subjects;
    whole = all;
  }

  pub sound_joined : (u : TableId) (v w : View E) → has_turn v.place ≡ false → ((k : ℕ) → Contains v.mine k → Contains w.mine k → ⊥) → OwnsSubjects kind (longer v.seen w.seen) (merged v.mine w.mine) → Sound v → IsSound kind (known_of u w) → Sound' (joined v w)
  sound_joined u v w off apart own s t =
      let seen : List E = longer v.seen w.seen in
      let long : length seen ≡ max (length v.seen) (length w.seen) = length-longer v.seen w.seen in record {
        ascending = ascending_merged v.mine w.mine s.ascending t.ascending apart;
        below = all_merged (λ (k : ℕ). k < length seen) v.mine w.mine
            (all_implied (λ (k : ℕ). k < length v.seen) (λ (k : ℕ). k < length seen) (λ k lt. omega arith) v.mine s.below)
            (all_implied (λ (k : ℕ). k < length w.seen) (λ (k : ℕ). k < length seen) (λ k lt. omega arith) w.mine t.below);
        rising = s.rising;
        looked = all_implied (λ (n : ℕ). n ≤ length v.seen) (λ (n : ℕ). n ≤ length seen) (λ n le. omega arith) v.looks s.looked;
        subjects = own;
        whole = λ (e : has_turn v.place ≡ true). absurd (true≢false (sym e ∙ off));
      }
