-- Each change of the views keeps who owns which entries.
use Rattle.std.proofs.Common.{◌≡◌, ◌≢◌, ◌⊎◌, ℕ, zero, suc, ◌+◌, ◌<◌, List, [], ◌∷◌, ◌++◌, length, set, Bool, true, false, Some, slice_get, refl, sym, ap, ◌∙◌, subst, inl, inr, ⊎_elim, length-append, arith}
use Rattle.std.specs.List.{Contains}
use Rattle.std.proofs.lemmas.List.Elements.{Contains-append_left, Contains-append_right, Contains-append_cases}
use mathlib.Core.Option.{some, some-ne-none}
use mathlib.Core.List.{IsPrefix}
use lib.ListN.{get_elem?}
use Rattle.atomic_table.proofs.Lists.{at_set, at_snoc}
use Rattle.turn_lock.specs.declared.logged.Role.{Role}
use Rattle.turn_lock.specs.declared.view.View.{View}
use Rattle.turn_lock.specs.Kinds.{Kind, IsAbout, Begins, OwnsSubjects, MayAdd}
use Rattle.turn_lock.specs.Turn.{Owned}
use Rattle.turn_lock.specs.Lists.{merged}
use Rattle.turn_lock.proofs.Places.{contains_none, contains_one, one_contains, merged_first, merged_second, merged_cases}
use Rattle.turn_lock.proofs.Prefixes.{prefix_get}

by_bool : {X : Type 0} (b : Bool) → (b ≡ true → X) → (b ≡ false → X) → X
by_bool true f g = f refl
by_bool false f g = g refl

-- an entry of a list with one more is an old one, or the new one
old_or_new : {E : Type 0} (h : List E) (e f : E) (k : ℕ) → slice_get (h ++ e ∷ []) k ≡ Some f → (slice_get h k ≡ Some f) ⊎ ((k ≡ length h) × (e ≡ f))
old_or_new [] e f zero p = inr (refl, cc)
old_or_new [] e f (suc k) p = absurd (cc)
old_or_new (x ∷ xs) e f zero p = inl p
old_or_new (x ∷ xs) e f (suc k) p = ⊎_elim (λ (a : slice_get xs k ≡ Some f). inl a) (λ (t : (k ≡ length xs) × (e ≡ f)). inr (ap suc t.0, t.1)) (old_or_new xs e f k p)

none_past : {E : Type 0} (h : List E) (k : ℕ) (d : E) → slice_get h k ≡ Some d → k ≡ length h → ⊥
none_past [] k d g e = cc
none_past (x ∷ xs) zero d g e = omega arith
none_past (x ∷ xs) (suc k) d g e = none_past xs k d g (omega arith)

module _ {E : Type 0} (kind : E → Kind) where
  -- a view that keeps its places
  pub kept : (h : List E) (vs : List (View E)) (id : ℕ) (v w : View E) → get_elem? vs id ≡ some v → w.mine ≡ v.mine → Owned kind h vs → Owned kind h (set vs id w)
  kept h vs id v w at same o =
      let old : (j : ℕ) (z : View E) → get_elem? (set vs id w) j ≡ some z → (y : View E) × (get_elem? vs j ≡ some y) × (z.mine ≡ y.mine) =
      (λ j z p. ⊎_elim
      (λ (t : (j ≡ id) × (w ≡ z)). (v, ap (get_elem? vs) t.0 ∙ at, ap (λ (y : View E). y.mine) (sym t.1) ∙ same))
      (λ (t : (j ≢ id) × (get_elem? vs j ≡ some z)). (z, t.1, refl))
      (at_set vs id j w z p)) in record {
        below = λ j z p k i. let y = old j z p in o.below j y.0 y.1 k (subst (λ m. Contains m k) y.2 i);
        alone = λ i j x y p q k a b. let x' = old i x p in let y' = old j y q in o.alone i j x'.0 y'.0 x'.1 y'.1 k (subst (λ m. Contains m k) x'.2 a) (subst (λ m. Contains m k) y'.2 b);
        whole = λ j z p. let y = old j z p in subst (OwnsSubjects kind h) (sym y.2) (o.whole j y.0 y.1);
      }

  -- what the pass that adds an entry then owns
  grown_whole : (h : List E) (by : Role) (mine mine' : List ℕ) (e : E) → ((k : ℕ) → Contains mine k → k < length h) → mine' ≡ mine ++ length h ∷ []
      → MayAdd kind by h mine e → OwnsSubjects kind h mine → OwnsSubjects kind (h ++ e ∷ []) mine'
  grown_whole h by mine mine' e below grown may old r n b k d f i gb bd gk fk =
      let len : ℕ = length h in
      let keep : (k : ℕ) → Contains mine k → Contains mine' k = (λ k i. subst (λ m. Contains m k) (sym grown) (Contains-append_left mine (len ∷ []) k i)) in
      let new : Contains mine' len = subst (λ m. Contains m len) (sym grown) (Contains-append_right mine (len ∷ []) len (one_contains len)) in
      ⊎_elim
      (λ (gk' : slice_get h k ≡ Some f). ⊎_elim
      (λ (a : Contains mine b). ⊎_elim
      (λ (gb' : slice_get h b ≡ Some d). keep k (old r n b k d f a gb' bd gk' fk))
      (λ (t : (b ≡ len) × (e ≡ d)). let lt = below b a in let is = t.0 in absurd (omega arith))
      (old_or_new h e d b gb))
      (λ (a : Contains (len ∷ []) b). ⊎_elim
      (λ (gb' : slice_get h b ≡ Some d). absurd (none_past h b d gb' (contains_one len b a)))
      (λ (t : (b ≡ len) × (e ≡ d)).
      let be : Begins kind r n e = subst (Begins kind r n) (sym t.1) bd in
      let role : r ≡ by = sym be.0.0 ∙ may.role in
      absurd (may.first n (subst (λ q. Begins kind q n e) role be) k f gk' (subst (λ q. IsAbout kind q n f) role fk)))
      (old_or_new h e d b gb))
      (Contains-append_cases mine (len ∷ []) b (subst (λ m. Contains m b) grown i)))
      (λ (t : (k ≡ len) × (e ≡ f)). subst (λ m. Contains mine' m) (sym t.0) new)
      (old_or_new h e f k gk)

  -- what another pass owns then
  other_whole : (h : List E) (vs : List (View E)) (id j : ℕ) (v z : View E) (e : E) → get_elem? vs id ≡ some v → get_elem? vs j ≡ some z → j ≢ id → MayAdd kind v.role h v.mine e → Owned kind h vs → OwnsSubjects kind (h ++ e ∷ []) z.mine
  other_whole h vs id j v z e at there ne may o r n b k d f i gb bd gk fk =
      let gb' : slice_get h b ≡ Some d =
      ⊎_elim (λ (a : slice_get h b ≡ Some d). a) (λ (t : (b ≡ length h) × (e ≡ d)). let is = t.0 in let lt = o.below j z there b i in absurd (omega arith)) (old_or_new h e d b gb) in ⊎_elim
      (λ (gk' : slice_get h k ≡ Some f). o.whole j z there r n b k d f i gb' bd gk' fk)
      (λ (t : (k ≡ length h) × (e ≡ f)).
      let fe : IsAbout kind r n e = subst (IsAbout kind r n) (sym t.1) fk in
      let role : r ≡ v.role = sym fe.0 ∙ may.role in
      let mine : IsAbout kind v.role n e = subst (λ q. IsAbout kind q n e) role fe in by_bool (kind e).begins
      (λ yes. absurd (may.first n (mine, yes) b d gb' (subst (λ q. IsAbout kind q n d) role bd.0)))
      (λ no. let c = may.later n mine no in
      absurd (ne (sym (o.alone id j v z at there c.0 c.2 (o.whole j z there r n b c.0 d c.1 i gb' bd c.3 (subst (λ q. IsAbout kind q n c.1) (sym role) c.4.0)))))))
      (old_or_new h e f k gk)

  -- an entry more, which is the pass's own
  pub added : (h : List E) (vs : List (View E)) (id : ℕ) (v w : View E) (e : E) → get_elem? vs id ≡ some v → w.mine ≡ v.mine ++ length h ∷ [] → MayAdd kind v.role h v.mine e → Owned kind h vs → Owned kind (h ++ e ∷ []) (set vs id w)
  added h vs id v w e at grown may o =
      let n : ℕ = length h in
      let long : length (h ++ e ∷ []) ≡ n + 1 = length-append h (e ∷ []) in
      let own : (k : ℕ) → Contains w.mine k → Contains v.mine k ⊎ (k ≡ n) =
      (λ k i. ⊎_elim (λ (a : Contains v.mine k). inl a) (λ (a : Contains (n ∷ []) k). inr (contains_one n k a)) (Contains-append_cases v.mine (n ∷ []) k (subst (λ m. Contains m k) grown i))) in
      let view : (j : ℕ) (z : View E) → get_elem? (set vs id w) j ≡ some z → ((j ≡ id) × (w ≡ z)) ⊎ ((j ≢ id) × (get_elem? vs j ≡ some z)) = (λ j z p. at_set vs id j w z p) in record {
        below = λ j z p k i. ⊎_elim
            (λ (t : (j ≡ id) × (w ≡ z)). ⊎_elim
            (λ (a : Contains v.mine k). let lt = o.below id v at k a in omega arith)
            (λ (is : k ≡ n). omega arith)
            (own k (subst (λ (y : View E). Contains y.mine k) (sym t.1) i)))
            (λ (t : (j ≢ id) × (get_elem? vs j ≡ some z)). let lt = o.below j z t.1 k i in omega arith)
            (view j z p);
        alone = λ i j x y p q k a b. ⊎_elim
            (λ (t : (i ≡ id) × (w ≡ x)). ⊎_elim
            (λ (u : (j ≡ id) × (w ≡ y)). t.0 ∙ sym u.0)
            (λ (u : (j ≢ id) × (get_elem? vs j ≡ some y)). ⊎_elim
            (λ (c : Contains v.mine k). absurd (u.0 (sym (o.alone id j v y at u.1 k c b))))
            (λ (is : k ≡ n). let lt = o.below j y u.1 k b in absurd (omega arith))
            (own k (subst (λ (z : View E). Contains z.mine k) (sym t.1) a)))
            (view j y q))
            (λ (t : (i ≢ id) × (get_elem? vs i ≡ some x)). ⊎_elim
            (λ (u : (j ≡ id) × (w ≡ y)). ⊎_elim
            (λ (c : Contains v.mine k). absurd (t.0 (o.alone i id x v t.1 at k a c)))
            (λ (is : k ≡ n). let lt = o.below i x t.1 k a in absurd (omega arith))
            (own k (subst (λ (z : View E). Contains z.mine k) (sym u.1) b)))
            (λ (u : (j ≢ id) × (get_elem? vs j ≡ some y)). o.alone i j x y t.1 u.1 k a b)
            (view j y q))
            (view i x p);
        whole = λ j z p. ⊎_elim
            (λ (t : (j ≡ id) × (w ≡ z)). subst (λ (y : View E). OwnsSubjects kind (h ++ e ∷ []) y.mine) t.1 (grown_whole h v.role v.mine w.mine e (o.below id v at) grown may (o.whole id v at)))
            (λ (t : (j ≢ id) × (get_elem? vs j ≡ some z)). other_whole h vs id j v z e at t.1 t.0 may o)
            (view j z p);
      }

  -- a pass with no own place comes
  pub arrived : (h : List E) (vs : List (View E)) (w : View E) → w.mine ≡ [] → Owned kind h vs → Owned kind h (vs ++ w ∷ [])
  arrived h vs w bare o =
      let empty : (z : View E) (k : ℕ) → w ≡ z → Contains z.mine k → ⊥ = (λ z k q i. contains_none k (subst (λ m. Contains m k) (ap (λ (y : View E). y.mine) (sym q) ∙ bare) i)) in record {
        below = λ j z p k i. ⊎_elim (λ (q : get_elem? vs j ≡ some z). o.below j z q k i) (λ (q : w ≡ z). absurd (empty z k q i)) (at_snoc vs w z j p);
        alone = λ i j x y p q k a b. ⊎_elim
            (λ (p' : get_elem? vs i ≡ some x). ⊎_elim (λ (q' : get_elem? vs j ≡ some y). o.alone i j x y p' q' k a b) (λ (q' : w ≡ y). absurd (empty y k q' b)) (at_snoc vs w y j q))
            (λ (p' : w ≡ x). absurd (empty x k p' a))
            (at_snoc vs w x i p);
        whole = λ j z p r n b k e f i gb bd gk fk. ⊎_elim (λ (q : get_elem? vs j ≡ some z). o.whole j z q r n b k e f i gb bd gk fk) (λ (q : w ≡ z). absurd (empty z b q i)) (at_snoc vs w z j p);
      }

  -- where there is no pass, nobody owns an entry
  pub nobody : (h : List E) → Owned kind h []
  nobody h = record {
    below = λ j z p. absurd (some-ne-none z (sym p));
    alone = λ i j x y p. absurd (some-ne-none x (sym p));
    whole = λ j z p. absurd (some-ne-none z (sym p));
  }

  -- two passes made one
  pub merged_two : (h : List E) (vs : List (View E)) (id other : ℕ) (v w both gone : View E) → get_elem? vs id ≡ some v → get_elem? vs other ≡ some w → both.mine ≡ merged v.mine w.mine → gone.mine ≡ []
      → Owned kind h vs → Owned kind h (set (set vs id both) other gone)
  merged_two h vs id other v w both gone at there all bare o =
      let either : (k : ℕ) → Contains both.mine k → Contains v.mine k ⊎ Contains w.mine k = (λ k i. merged_cases v.mine w.mine k (subst (λ m. Contains m k) all i)) in
      let left : (k : ℕ) → Contains v.mine k → Contains both.mine k = (λ k i. subst (λ m. Contains m k) (sym all) (merged_first v.mine w.mine k i)) in
      let right : (k : ℕ) → Contains w.mine k → Contains both.mine k = (λ k i. subst (λ m. Contains m k) (sym all) (merged_second v.mine w.mine k i)) in
      let view : (j : ℕ) (z : View E) → get_elem? (set (set vs id both) other gone) j ≡ some z → (k : ℕ) → Contains z.mine k → ((j ≡ id) × (both ≡ z)) ⊎ ((j ≢ id) × (j ≢ other) × (get_elem? vs j ≡ some z)) =
      (λ j z p k i. ⊎_elim
      (λ (t : (j ≡ other) × (gone ≡ z)). absurd (contains_none k (subst (λ m. Contains m k) (ap (λ (y : View E). y.mine) (sym t.1) ∙ bare) i)))
      (λ (t : (j ≢ other) × (get_elem? (set vs id both) j ≡ some z)). ⊎_elim
      (λ (u : (j ≡ id) × (both ≡ z)). inl u)
      (λ (u : (j ≢ id) × (get_elem? vs j ≡ some z)). inr (u.0, t.0, u.1))
      (at_set vs id j both z t.1))
      (at_set (set vs id both) other j gone z p)) in
      let apart : (j : ℕ) (z : View E) (k : ℕ) → j ≢ id → j ≢ other → get_elem? vs j ≡ some z → Contains both.mine k → Contains z.mine k → ⊥ =
      (λ j z k n m p a b. ⊎_elim (λ (c : Contains v.mine k). n (sym (o.alone id j v z at p k c b))) (λ (c : Contains w.mine k). m (sym (o.alone other j w z there p k c b))) (either k a)) in record {
        below = λ j z p k i. ⊎_elim
            (λ (t : (j ≡ id) × (both ≡ z)). ⊎_elim (λ (c : Contains v.mine k). o.below id v at k c) (λ (c : Contains w.mine k). o.below other w there k c) (either k (subst (λ (y : View E). Contains y.mine k) (sym t.1) i)))
            (λ (t : (j ≢ id) × (j ≢ other) × (get_elem? vs j ≡ some z)). o.below j z t.2 k i)
            (view j z p k i);
        alone = λ i j x y p q k a b. ⊎_elim
            (λ (t : (i ≡ id) × (both ≡ x)). ⊎_elim
            (λ (u : (j ≡ id) × (both ≡ y)). t.0 ∙ sym u.0)
            (λ (u : (j ≢ id) × (j ≢ other) × (get_elem? vs j ≡ some y)). absurd (apart j y k u.0 u.1 u.2 (subst (λ (z : View E). Contains z.mine k) (sym t.1) a) b))
            (view j y q k b))
            (λ (t : (i ≢ id) × (i ≢ other) × (get_elem? vs i ≡ some x)). ⊎_elim
            (λ (u : (j ≡ id) × (both ≡ y)). absurd (apart i x k t.0 t.1 t.2 (subst (λ (z : View E). Contains z.mine k) (sym u.1) b) a))
            (λ (u : (j ≢ id) × (j ≢ other) × (get_elem? vs j ≡ some y)). o.alone i j x y t.2 u.2 k a b)
            (view j y q k b))
            (view i x p k a);
        whole = λ j z p r n b k e f i gb be gk fk. ⊎_elim
            (λ (t : (j ≡ id) × (both ≡ z)). subst (λ (y : View E). Contains y.mine k) t.1 (⊎_elim
            (λ (c : Contains v.mine b). left k (o.whole id v at r n b k e f c gb be gk fk))
            (λ (c : Contains w.mine b). right k (o.whole other w there r n b k e f c gb be gk fk))
            (either b (subst (λ (y : View E). Contains y.mine b) (sym t.1) i))))
            (λ (t : (j ≢ id) × (j ≢ other) × (get_elem? vs j ≡ some z)). o.whole j z t.2 r n b k e f i gb be gk fk)
            (view j z p b i);
      }

  -- what is true of all entries is true of a beginning
  pub owns_prefix : (h seen : List E) (mine : List ℕ) → IsPrefix seen h → OwnsSubjects kind h mine → OwnsSubjects kind seen mine
  owns_prefix h seen mine p own r n b k e f i gb be gk fk = own r n b k e f i (prefix_get seen h b e p gb) be (prefix_get seen h k f p gk) fk
