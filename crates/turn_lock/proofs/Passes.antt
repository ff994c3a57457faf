-- Waiting for more, parting a pass and joining two keep the rule.
use Rattle.std.proofs.Common.{◌≡◌, ◌≢◌, ℕ, ◌≤◌, List, [], ◌∷◌, ◌++◌, length, get_or, set, max, true, false, true≢false, Option, sym, refl, ap, ◌∙◌, subst, inl, inr, ⊎_elim, arith}
use mathlib.Core.Option.{some, none}
use mathlib.Core.Logic.{dite}
use mathlib.Core.List.{IsPrefix}
use native.Mathlib.Decide.{dec_le}
use lib.ListN.{get_elem?}
use lib.Seq.{set-get_or}
use Rattle.atomic_table.specs.Table.{State, Me, step, keeps, Allows, Splits, Joins}
use Rattle.atomic_table.proofs.Lists.{set_again, set_else, at_snoc, at_longer}
use Rattle.turn_lock.specs.declared.logged.Role.{Role}
use Rattle.turn_lock.specs.declared.view.Place.TheVariants.{Outside}
use Rattle.turn_lock.specs.declared.view.View.{View}
use Rattle.turn_lock.specs.Kinds.{Kind}
use Rattle.turn_lock.specs.Turn.{is_drawn, has_turn, is_spent, informed, twin, joined, spent, Joined, Knows, Home, Away, Turned}
use Rattle.turn_lock.specs.Steps.{heard, learnt}
use Rattle.turn_lock.proofs.Owning.{kept, arrived, merged_two, owns_prefix}
use Rattle.turn_lock.proofs.Places.{contains_none}
use Rattle.turn_lock.proofs.Prefixes.{longer_begins, longer_first, longer_second}
use Rattle.turn_lock.proofs.Steps.{same_state, quiet}
use Rattle.turn_lock.proofs.Views.{false_of_not, all_views, apart_set}

module _ {B E : Type 0} (kind : E → Kind) (log : B → List E) (terms_of : B → ℕ) (terms : ℕ) where
  abbrev V : Type 0
  V = View E

  abbrev St : Type 0
  St = State (Option B) V

  abbrev M : Type 0
  M = Me (Option B) V

  abbrev Rule : St → Type 0
  Rule = Turned kind log terms_of terms

  -- a pass without the turn learns how many entries there are
  finds : (s : St) (r : Rule s) (id n : ℕ) (v : V) → get_elem? s.views id ≡ some v → has_turn v.place ≡ false → n ≡ length r.history
      → Rule record { words = s.words; homes = s.homes; views = set s.views id (informed v n) }
  finds s r id n v at off is = let w : V = informed v n in let k = r.each id v at in record {
    next = r.next;
    serving = r.serving;
    history = r.history;
    words = r.words;
    order = r.order;
    small = r.small;
    each = all_views (Knows terms r.next r.serving r.history) s.views id w
        record { terms = k.terms; within = k.within; turn = k.turn; saw = k.saw; least = omega arith; olds = k.olds }
        (λ j z _ p. r.each j z p);
    apart = apart_set s.views id w r.apart (λ j z ne p d e same. ne (sym (r.apart id j v z at p e d same)));
    slot = quiet kind log terms_of terms s r.history id v w s.words at off off r.slot;
    owned = kept kind r.history s.views id v w at refl r.owned;
  }

  pub hears : (slots id : ℕ) (me : M) → Allows Rule slots id me 2 (λ n. n) (heard (step slots 2 0 0 none) me)
  hears slots id me s r _ at _ =
      let v : V = me.0 in let x : ℕ = get_or s.words 2 0 in let now : x ≡ length r.history = ap (λ ws. get_or ws 2 0) r.words in let k = r.each id v at in
      let least : v.least ≤ x = omega (arith, k.least) in
      let inside : has_turn v.place ≡ true → x ≡ length v.seen = (λ on. now ∙ sym (ap length (k.turn on).1)) in dite (dec_le x (length v.seen))
      (λ few. (v, keeps, tt, same_state kind log terms_of terms s 2 id me.1 v at r, record { no_more = λ _. refl; more = λ lt. absurd (omega arith); least = least; inside = inside }))
      (λ many. let off : has_turn v.place ≡ false = false_of_not (has_turn v.place) (λ on. many (let e = inside on in omega arith)) in (
        informed v x,
        keeps,
        tt,
        subst (λ (ws : List ℕ). Rule record { words = ws; homes = s.homes; views = set s.views id (informed v x) }) (sym (set-get_or s.words 2 0)) (finds s r id x v at off now),
        record { no_more = λ few. absurd (many few); more = λ _. refl; least = least; inside = inside },
      ))

  -- what the rule says of a view outside
  outside_view : (next serving : ℕ) (history : List E) (w : V) → (is_spent w.place ≡ false → w.terms ≡ terms) → is_drawn w.place ≡ false → has_turn w.place ≡ false → IsPrefix w.seen history → w.least ≤ length history
      → Joined w.first w.second w.seen → Knows terms next serving history w
  outside_view next serving history w lim d t saw least olds = record {
    terms = lim;
    within = λ e. absurd (true≢false (sym e ∙ d));
    turn = λ e. absurd (true≢false (sym e ∙ t));
    saw = saw;
    least = least;
    olds = olds;
  }

  -- a view outside arrives
  enters : (s : St) (r : Rule s) (w : V) → is_drawn w.place ≡ false → has_turn w.place ≡ false → w.mine ≡ [] → Knows terms r.next r.serving r.history w → Rule record { words = s.words; homes = s.homes; views = s.views ++ w ∷ [] }
  enters s r w d t bare knows = record {
    next = r.next;
    serving = r.serving;
    history = r.history;
    words = r.words;
    order = r.order;
    small = r.small;
    each = λ j z p. ⊎_elim (λ (q : get_elem? s.views j ≡ some z). r.each j z q) (λ (q : w ≡ z). subst (Knows terms r.next r.serving r.history) q knows) (at_snoc s.views w z j p);
    apart = λ i j x y p q dx dy e. ⊎_elim
        (λ (a : get_elem? s.views i ≡ some x). ⊎_elim
        (λ (b : get_elem? s.views j ≡ some y). r.apart i j x y a b dx dy e)
        (λ (b : w ≡ y). absurd (true≢false (sym dy ∙ (ap (λ (z : V). is_drawn z.place) (sym b) ∙ d))))
        (at_snoc s.views w y j q))
        (λ (a : w ≡ x). absurd (true≢false (sym dx ∙ (ap (λ (z : V). is_drawn z.place) (sym a) ∙ d))))
        (at_snoc s.views w x i p);
    slot = ⊎_elim
        (λ (h : Home log terms_of terms r.history s). inl record {
          value = h.value;
          homes = h.homes;
          entries = h.entries;
          same_terms = h.same_terms;
          nobody = λ j z p. ⊎_elim (λ (q : get_elem? s.views j ≡ some z). h.nobody j z q) (λ (q : w ≡ z). ap (λ (y : V). has_turn y.place) (sym q) ∙ t) (at_snoc s.views w z j p);
        })
        (λ (a : Away log terms_of terms s). inr record { homes = a.homes; id = a.id; view = a.view; at = at_longer s.views (w ∷ []) a.id a.view a.at; turn = a.turn })
        r.slot;
    owned = arrived kind r.history s.views w bare r.owned;
  }

  pub splits : (id : ℕ) (role : Role) (v : V) → is_spent v.place ≡ false → Splits Rule id v v (twin role v)
  splits id role v live s r at =
      let k = r.each id v at in
      let w : V = twin role v in
      subst (λ (vs : List V). Rule record { words = s.words; homes = s.homes; views = vs ++ w ∷ [] }) (sym (set_again s.views id v at))
      (enters s r w refl refl refl
      (outside_view r.next r.serving r.history w (λ _. k.terms live) refl refl k.saw k.least record { first_begins = (v.seen, refl); second_begins = (v.seen, refl); apart = λ n c _. contains_none n c }))

  pub joins : (id other : ℕ) (v w : V) → v.place ≡ Outside → w.place ≡ Outside → Joins Rule id v other w (joined v w) spent
  joins id other v w out gone s r at apart there =
      let both : V = joined v w in
      let k = r.each id v at in
      let here : get_elem? s.views other ≡ some w = sym (set_else s.views id other both apart) ∙ there in
      let l = r.each other w here in
      let off : has_turn v.place ≡ false = ap has_turn out in
      let undrawn : is_drawn v.place ≡ false = ap is_drawn out in
      let two : Joined both.first both.second both.seen =
      record {
        first_begins = longer_first v.seen w.seen r.history k.saw l.saw;
        second_begins = longer_second v.seen w.seen r.history k.saw l.saw;
        apart = λ n a b. apart (sym (r.owned.alone id other v w at here n a b));
      } in
      let most : max v.least w.least ≤ length r.history = (let a = k.least in let b = l.least in omega arith) in
      let views : List V = set s.views id both in
      record {
        next = r.next;
        serving = r.serving;
        history = r.history;
        words = r.words;
        order = r.order;
        small = r.small;
        each = all_views (Knows terms r.next r.serving r.history) views other spent
            (outside_view r.next r.serving r.history spent (λ (e : true ≡ false). absurd (true≢false e)) refl refl (r.history, refl) (omega arith) record { first_begins = ([], refl); second_begins = ([], refl); apart = λ n c _. contains_none n c })
            (all_others (Knows terms r.next r.serving r.history) s.views id both
            (outside_view r.next r.serving r.history both k.terms undrawn off (longer_begins v.seen w.seen r.history k.saw l.saw) most two)
            (λ j z p. r.each j z p));
        apart = apart_set views other spent (apart_set s.views id both r.apart (λ j z _ p _ e _. true≢false (sym e ∙ undrawn))) (λ j z _ p _ (e : false ≡ true) _. true≢false (sym e));
        slot = quiet kind log terms_of terms record { words = s.words; homes = s.homes; views = views } r.history other w spent s.words there (ap has_turn gone) refl
            (quiet kind log terms_of terms s r.history id v both s.words at off off r.slot);
        owned = merged_two kind r.history s.views id other v w both spent at here refl refl r.owned;
      }
    where
      all_others : (K : V → Type 0) (vs : List V) (i : ℕ) (x : V) → K x → ((j : ℕ) (z : V) → get_elem? vs j ≡ some z → K z) → (j : ℕ) (z : V) → j ≢ other → get_elem? (set vs i x) j ≡ some z → K z
      all_others K vs i x mine others j z _ p = all_views K vs i x mine (λ m y _ q. others m y q) j z p

  pub learns : (slots id : ℕ) (me : M) → Allows Rule slots id me 0 (λ n. n) (learnt kind (step slots 0 0 0 none) me)
  learns slots id me s r _ at _ = let v : V = me.0 in let k = r.each id v at in (
    v,
    keeps,
    tt,
    same_state kind log terms_of terms s 0 id me.1 v at r,
    record { same = refl; olds = k.olds; subjects = owns_prefix kind r.history v.seen v.mine k.saw (r.owned.whole id v at) },
  )
