-- The longest mark.
use Rattle.std.proofs.Common.{◌≡◌, ℕ, true, List, [], ◌∷◌, ap, subst, arith, inl, inr}
use Rattle.std.specs.Prelude.{IsTrue, ◌⊎◌}
use Rattle.std.proofs.lemmas.Bool.Decides.{nat_tests}
use Rattle.c_lex.specs.Pieces.{Begins, is_mark}

no_long_mark : (a b c : ℕ) (t : List ℕ) → is_mark (a ∷ b ∷ c ∷ t) ≡ true → ⊥
no_long_mark a b c t m = grind (arith, nat_tests)

-- a mark that begins two bytes and more is the first or both
pub mark_fronts : (q : List ℕ) (a b : ℕ) (t : List ℕ) → IsTrue (is_mark q) → Begins q (a ∷ b ∷ t) → (q ≡ a ∷ []) ⊎ ((q ≡ a ∷ b ∷ []) × IsTrue (is_mark (a ∷ b ∷ [])))
mark_fronts [] a b t m (r, e) = absurd (cc)
mark_fronts (x ∷ []) a b t m (r, e) = let same : x ≡ a = cc in inl (ap (λ n. n ∷ []) same)
mark_fronts (x ∷ y ∷ []) a b t m (r, e) =
    let first : x ≡ a = cc in
    let second : y ≡ b = cc in
    let both : x ∷ y ∷ [] ≡ a ∷ b ∷ [] = (λ i. first i ∷ second i ∷ []) in
    inr (both, subst (λ (p : List ℕ). IsTrue (is_mark p)) both m)
mark_fronts (x ∷ y ∷ z ∷ q) a b t m (r, e) = absurd (no_long_mark x y z q m)

-- a mark that begins one byte is that
pub mark_front : (q : List ℕ) (a : ℕ) → IsTrue (is_mark q) → Begins q (a ∷ []) → q ≡ a ∷ []
mark_front [] a m (r, e) = absurd (cc)
mark_front (x ∷ []) a m (r, e) = let same : x ≡ a = cc in ap (λ n. n ∷ []) same
mark_front (x ∷ y ∷ q) a m (r, e) = absurd (cc)
