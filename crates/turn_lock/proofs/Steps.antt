-- Each step of take and give keeps the rule.
use Rattle.std.proofs.Common.{◌≡◌, ◌≢◌, ◌⊎◌, ℕ, zero, suc, eqb, ◌+◌, ◌%◌, ◌^◌, ◌<◌, List, [], ◌∷◌, ◌++◌, length, get_or, set, Bool, true, false, true≢false, Option, Some, sym, refl, ap, ◌∙◌, subst, inl, inr, ⊎_elim, eq-eqb, ne_eqb, length-append, arith}
use Rattle.std.proofs.Math.Nat.{mod-eq_of_lt}
use mathlib.Core.Logic.{dite}
use mathlib.Core.Option.{some, none, some-injective, some-ne-none}
use mathlib.Core.List.{IsPrefix}
use native.Mathlib.Decide.{ℕ_discrete}
use lib.ListN.{get_elem?}
use lib.Seq.{set-get_or}
use prog.Atomic.{either}
use Rattle.atomic_table.specs.Table.{State, Me, step, keeps, takes, gives, stepped, Allows, opening}
use Rattle.atomic_table.proofs.Lists.{set_again, set_else}
use Rattle.turn_lock.specs.declared.view.Place.TheVariants.{Outside, Waiting}
use Rattle.turn_lock.specs.declared.view.Record.{Record}
use Rattle.turn_lock.specs.declared.view.View.{View}
use Rattle.turn_lock.specs.Kinds.{Kind, OwnsSubjects, MayAdd}
use Rattle.turn_lock.specs.Turn.{is_drawn, ticket_of, has_turn, is_spent, opener_view, moved, entered, grown, Joined, Knows, Home, Away, Owned, Turned}
use Rattle.turn_lock.specs.Steps.{looked, drew, left, added, Comes, came}
use Rattle.turn_lock.proofs.Owning.{kept, added as owned_added, arrived, nobody}
use Rattle.turn_lock.proofs.Places.{contains_none}
use Rattle.turn_lock.proofs.Prefixes.{prefix_self, prefix_trans, prefix_longer}
use Rattle.turn_lock.proofs.Views.{false_of_not, drawn_of_turn, set_there, all_views, one_view, apart_set}

olds_later : {E : Type 0} (a b : Record E) (xs ys : List E) → IsPrefix xs ys → Joined a b xs → Joined a b ys
olds_later a b xs ys p o = record { first_begins = prefix_trans a.seen xs ys o.first_begins p; second_begins = prefix_trans b.seen xs ys o.second_begins p; apart = o.apart }

module _ {B E : Type 0} (kind : E → Kind) (log : B → List E) (terms_of : B → ℕ) (terms : ℕ) where
  abbrev V : Type 0
  V = View E

  abbrev St : Type 0
  St = State (Option B) V

  abbrev M : Type 0
  M = Me (Option B) V

  abbrev Rule : St → Type 0
  Rule = Turned kind log terms_of terms

  abbrev Slot : List E → St → Type 0
  Slot history s = Home log terms_of terms history s ⊎ Away log terms_of terms s

  pub same_state : (s : St) (i id : ℕ) (cs : List (ℕ × Option B)) (v : V) → get_elem? s.views id ≡ some v → Rule s → Rule (stepped s i (get_or s.words i 0) id cs v keeps)
  same_state s i id cs v at r = subst (λ (p : List ℕ × List V). Rule record { words = p.0; homes = s.homes; views = p.1 }) (λ k. (sym (set-get_or s.words i 0) k, sym (set_again s.views id v at) k)) r

  -- another pass has another ticket
  other_ticket : (s : St) (r : Rule s) (id j : ℕ) (v w : V) → get_elem? s.views id ≡ some v → get_elem? s.views j ≡ some w → is_drawn v.place ≡ true → j ≢ id → is_drawn w.place ≡ true
      → ticket_of v.place ≡ ticket_of w.place → ⊥
  other_ticket s r id j v w p q dv ne dw e = ne (sym (r.apart id j v w p q dv dw e))

  -- a pass without the turn changes its view, and still has no turn
  pub quiet : (s : St) (history : List E) (id : ℕ) (v w : V) (ws : List ℕ) → get_elem? s.views id ≡ some v → has_turn v.place ≡ false → has_turn w.place ≡ false → Slot history s
      → Slot history record { words = ws; homes = s.homes; views = set s.views id w }
  quiet s history id v w ws at off still slot = ⊎_elim
      (λ (h : Home log terms_of terms history s). inl record {
        value = h.value;
        homes = h.homes;
        entries = h.entries;
        same_terms = h.same_terms;
        nobody = all_views (λ (z : V). has_turn z.place ≡ false) s.views id w still (λ j z _ p. h.nobody j z p);
      })
      (λ (a : Away log terms_of terms s). inr record {
        homes = a.homes;
        id = a.id;
        view = a.view;
        at = set_else s.views id a.id w (λ (e : a.id ≡ id). true≢false (sym a.turn ∙ (ap (λ (z : V). has_turn z.place) (one_view s.views a.id id a.view v a.at at e) ∙ off))) ∙ a.at;
        turn = a.turn;
      })
      slot

  -- the slot is empty while a pass has the turn
  away : (s : St) (history : List E) (id : ℕ) (v : V) → get_elem? s.views id ≡ some v → has_turn v.place ≡ true → Slot history s → s.homes ≡ none ∷ []
  away s history id v at on slot =
      ⊎_elim (λ (h : Home log terms_of terms history s). absurd (true≢false (sym on ∙ h.nobody id v at))) (λ (a : Away log terms_of terms s). a.homes) slot

  pub looks : (slots id : ℕ) (me : M) (i : ℕ) → Allows Rule slots id me i (λ n. n) (looked (step slots i 0 0 none) me)
  looks slots id me i s r _ at _ = (me.0, keeps, tt, same_state s i id me.1 me.0 at r, refl)

  pub draws : (slots id old new : ℕ) (me : M) → me.0.place ≡ Outside → new ≡ old + 1 → new < 2 ^ 64
      → Allows Rule slots id me 0 (λ x. either (eqb x old) new x) (drew (step slots 0 old new none) me)
  draws slots id old new me out up small s r _ at _ = let v : V = me.0 in let x : ℕ = get_or s.words 0 0 in let now : x ≡ r.next = ap (λ ws. get_or ws 0 0) r.words in
      let live : is_spent v.place ≡ false = ap is_spent out in let off : has_turn v.place ≡ false = ap has_turn out in dite (ℕ_discrete x old)
      (λ hit. let w : V = moved v (Waiting x) in let order = r.order in let bound = r.small in let k = r.each id v at in (
        w,
        keeps,
        tt,
        subst (λ (b : Bool). Rule (stepped s 0 (either b new x) id me.1 w keeps)) (sym (eq-eqb x old hit)) record {
          next = new;
          serving = r.serving;
          history = r.history;
          words = ap (λ ws. set ws 0 new) r.words;
          order = omega arith;
          small = small;
          each = all_views (Knows terms new r.serving r.history) s.views id w
              record { terms = λ _. k.terms live; within = λ _. (omega arith, omega arith); turn = λ (e : false ≡ true). absurd (true≢false (sym e)); saw = k.saw; least = k.least; olds = k.olds }
              (λ j z _ p. let l = r.each j z p in record { terms = l.terms; within = λ d. let t = l.within d in (t.0, omega arith); turn = l.turn; saw = l.saw; least = l.least; olds = l.olds });
          apart = apart_set s.views id w r.apart (λ j z _ p d _ e. let t = (r.each j z p).within d in let g : x ≡ ticket_of z.place = e in omega arith);
          slot = quiet s r.history id v w (set s.words 0 new) at off refl r.slot;
          owned = kept kind r.history s.views id v w at refl r.owned;
        },
        ((λ _. refl), λ miss. absurd (miss hit)),
      ))
      (λ miss. (
        v,
        keeps,
        tt,
        subst (λ (b : Bool). Rule (stepped s 0 (either b new x) id me.1 v keeps)) (sym (ne_eqb x old miss)) (same_state s 0 id me.1 v at r),
        ((λ hit. absurd (miss hit)), λ _. refl),
      ))

  -- the ticket that is served has come: whoever has it may take the slot
  enters : (slots id ticket : ℕ) (me : M) → me.0.place ≡ Waiting ticket → (s : St) (r : Rule s) → get_elem? s.views id ≡ some me.0 → get_or s.words 1 0 ≡ ticket → (h : Home log terms_of terms r.history s)
      → (w : V) × (Rule (stepped s 1 (get_or s.words 1 0) id me.1 w (takes 0 (Some h.value)))) × Comes kind log terms_of me (w, (0, Some h.value) ∷ me.1) h.value
  enters slots id ticket me waits s r at hit h =
      let v : V = me.0 in let x : ℕ = get_or s.words 1 0 in let now : x ≡ r.serving = ap (λ ws. get_or ws 1 0) r.words in let k = r.each id v at in let b : B = h.value in
      let t : ticket_of v.place ≡ ticket = ap ticket_of waits in
      let drawn : is_drawn v.place ≡ true = ap is_drawn waits in
      let live : is_spent v.place ≡ false = ap is_spent waits in
      let bound = k.within drawn in
      let w : V = entered v (ticket_of v.place) (log b) in (
        w,
        record {
          next = r.next;
          serving = r.serving;
          history = r.history;
          words = set-get_or s.words 1 0 ∙ r.words;
          order = r.order;
          small = r.small;
          each = all_views (Knows terms r.next r.serving r.history) s.views id w
              record { terms = λ _. k.terms live; within = λ _. bound; turn = λ _. (t ∙ (sym hit ∙ now), h.entries); saw = subst (λ (xs : List E). IsPrefix (log b) xs) h.entries (prefix_self (log b)); least = omega (arith, ap length h.entries); olds = olds_later v.first v.second v.seen (log b) (subst (IsPrefix v.seen) (sym h.entries) k.saw) k.olds }
              (λ j z _ p. r.each j z p);
          apart = apart_set s.views id w r.apart (λ j z ne p d _ e. other_ticket s r id j v z at p drawn ne d e);
          slot = inr record { homes = ap (λ hs. set hs 0 none) h.homes; id = id; view = w; at = set_there s.views id w v at; turn = refl };
          owned = kept kind r.history s.views id v w at refl r.owned;
        },
        record {
          me = refl;
          later = subst (IsPrefix v.seen) (sym h.entries) k.saw;
          terms = h.same_terms ∙ sym (k.terms live);
          least = omega (arith, ap length h.entries, k.least);
          subjects = subst (λ (xs : List E). OwnsSubjects kind xs v.mine) (sym h.entries) (r.owned.whole id v at);
        },
      )

  -- nobody else has the turn that has come
  not_away : (id ticket : ℕ) (v : V) → v.place ≡ Waiting ticket → (s : St) (r : Rule s) → get_elem? s.views id ≡ some v → get_or s.words 1 0 ≡ ticket → Away log terms_of terms s → ⊥
  not_away id ticket v waits s r at hit a =
      let now : get_or s.words 1 0 ≡ r.serving = ap (λ ws. get_or ws 1 0) r.words in
      let t = (r.each a.id a.view a.at).turn a.turn in
      let same : id ≡ a.id = r.apart id a.id v a.view at a.at (ap is_drawn waits) (drawn_of_turn a.view.place a.turn) (ap ticket_of waits ∙ (sym hit ∙ (now ∙ sym t.0))) in
      let one : v ≡ a.view = one_view s.views id a.id v a.view at a.at same in
      true≢false (sym a.turn ∙ (ap (λ (z : V). has_turn z.place) (sym one) ∙ ap has_turn waits))

  pub comes : (slots id ticket : ℕ) (me : M) → me.0.place ≡ Waiting ticket → Allows Rule slots id me 1 (λ n. n) (came kind log terms_of (step slots 1 0 0 none) me)
  comes slots id ticket me waits s r _ at _ = let v : V = me.0 in let x : ℕ = get_or s.words 1 0 in let t : ticket_of v.place ≡ ticket = ap ticket_of waits in dite (ℕ_discrete x ticket)
      (λ hit. ⊎_elim
      (λ (h : Home log terms_of terms r.history s). let e = enters slots id ticket me waits s r at hit h in (
        e.0,
        takes 0 (Some h.value),
        ap (λ hs. get_elem? hs 0) h.homes,
        e.1,
        ((λ _. (h.value, e.2)), λ miss. absurd (miss (hit ∙ sym t))),
      ))
      (λ (a : Away log terms_of terms s). absurd (not_away id ticket v waits s r at hit a))
      r.slot)
      (λ miss. (v, keeps, tt, same_state s 1 id me.1 v at r, ((λ hit. absurd (miss (hit ∙ t))), λ _. refl)))

  pub adds : (slots id : ℕ) (v : V) (b : B) (e : E) → has_turn v.place ≡ true → log b ≡ v.seen ++ e ∷ [] → length (log b) < 2 ^ 64 → MayAdd kind v.role v.seen v.mine e
      → Allows Rule slots id (v, (0, Some b) ∷ []) 2 (λ n. (n + 1) % 2 ^ 64) (added log (step slots 2 1 0 none) (v, (0, Some b) ∷ []))
  adds slots id v b e on is small may s r _ at _ = let w : V = grown v (log b) in let x : ℕ = get_or s.words 2 0 in
      let now : x ≡ length r.history = ap (λ ws. get_or ws 2 0) r.words in
      let k = r.each id v at in
      let mine = k.turn on in
      let drawn : is_drawn v.place ≡ true = drawn_of_turn v.place on in
      let longer : log b ≡ r.history ++ e ∷ [] = is ∙ ap (λ l. l ++ e ∷ []) mine.1 in
      let more : length (log b) ≡ length r.history + 1 = ap length longer ∙ length-append r.history (e ∷ []) in
      let fits : (x + 1) % 2 ^ 64 ≡ x + 1 = mod-eq_of_lt (omega arith) in
      let count : (x + 1) % 2 ^ 64 ≡ length (log b) = omega arith in (
        w,
        keeps,
        tt,
        record {
          next = r.next;
          serving = r.serving;
          history = log b;
          words = ap (λ ws. set ws 2 ((x + 1) % 2 ^ 64)) r.words ∙ ap (λ (n : ℕ). r.next ∷ r.serving ∷ n ∷ []) count;
          order = r.order;
          small = r.small;
          each = all_views (Knows terms r.next r.serving (log b)) s.views id w
              record { terms = k.terms; within = k.within; turn = λ _. (mine.0, refl); saw = prefix_self (log b); least = omega arith; olds = olds_later v.first v.second v.seen (log b) (e ∷ [], sym is) k.olds }
              (λ j z ne p. let l = r.each j z p in let least = l.least in record {
                terms = l.terms;
                within = l.within;
                turn = λ o. let t = l.turn o in absurd (other_ticket s r id j v z at p drawn ne (drawn_of_turn z.place o) (mine.0 ∙ sym t.0));
                saw = prefix_longer z.seen r.history (log b) e longer l.saw;
                least = omega arith;
                olds = l.olds;
              });
          apart = apart_set s.views id w r.apart (λ j z ne p d _ e. other_ticket s r id j v z at p drawn ne d e);
          slot = inr record { homes = away s r.history id v at on r.slot; id = id; view = w; at = set_there s.views id w v at; turn = on };
          owned = subst (λ (xs : List E). Owned kind xs (set s.views id w)) (sym longer)
              (owned_added kind r.history s.views id v w e at (ap (λ (xs : List E). v.mine ++ length xs ∷ []) mine.1) (subst (λ (xs : List E). MayAdd kind v.role xs v.mine e) mine.1 may) r.owned);
        },
        refl,
      )

  pub leaves : (slots id : ℕ) (v : V) (b : B) → has_turn v.place ≡ true → is_spent v.place ≡ false → log b ≡ v.seen → terms_of b ≡ v.terms
      → Allows Rule slots id (v, (0, Some b) ∷ []) 1 (λ n. (n + 1) % 2 ^ 64) (left kind (step slots 1 1 0 none) (v, (0, Some b) ∷ []))
  leaves slots id v b on live is lim s r _ at _ = let w : V = moved v Outside in let x : ℕ = get_or s.words 1 0 in
      let now : x ≡ r.serving = ap (λ ws. get_or ws 1 0) r.words in
      let k = r.each id v at in
      let mine = k.turn on in
      let drawn : is_drawn v.place ≡ true = drawn_of_turn v.place on in
      let bound = k.within drawn in
      let same : ticket_of v.place ≡ r.serving = mine.0 in
      let above : ticket_of v.place < r.next = bound.1 in
      let most = r.small in
      let fits : (x + 1) % 2 ^ 64 ≡ x + 1 = mod-eq_of_lt (omega arith) in
      let count : (x + 1) % 2 ^ 64 ≡ r.serving + 1 = omega arith in (
        w,
        gives,
        tt,
        record {
          next = r.next;
          serving = r.serving + 1;
          history = r.history;
          words = ap (λ ws. set ws 1 ((x + 1) % 2 ^ 64)) r.words ∙ ap (λ (n : ℕ). r.next ∷ n ∷ length r.history ∷ []) count;
          order = omega arith;
          small = r.small;
          each = all_views (Knows terms r.next (r.serving + 1) r.history) s.views id w
              record { terms = λ _. k.terms live; within = λ (d : false ≡ true). absurd (true≢false (sym d)); turn = λ (d : false ≡ true). absurd (true≢false (sym d)); saw = k.saw; least = k.least; olds = k.olds }
              (λ j z ne p. let l = r.each j z p in record {
                terms = l.terms;
                within = λ d. let t = l.within d in let other : r.serving ≢ ticket_of z.place = (λ g. other_ticket s r id j v z at p drawn ne d (same ∙ g)) in let low = t.0 in (omega arith, t.1);
                turn = λ o. let t = l.turn o in absurd (other_ticket s r id j v z at p drawn ne (drawn_of_turn z.place o) (same ∙ sym t.0));
                saw = l.saw;
                least = l.least;
                olds = l.olds;
              });
          apart = apart_set s.views id w r.apart (λ j z ne p d (g : false ≡ true) _. true≢false (sym g));
          slot = inl record {
            value = b;
            homes = ap (λ hs. set hs 0 (some (Some b))) (away s r.history id v at on r.slot);
            entries = is ∙ mine.1;
            same_terms = lim ∙ k.terms live;
            nobody = all_views (λ (z : V). has_turn z.place ≡ false) s.views id w refl
                (λ j z ne p. false_of_not (has_turn z.place) (λ o. let t = (r.each j z p).turn o in other_ticket s r id j v z at p drawn ne (drawn_of_turn z.place o) (same ∙ sym t.0)));
          };
          owned = kept kind r.history s.views id v w at refl r.owned;
        },
        (refl, subst (λ (xs : List E). OwnsSubjects kind xs v.mine) (sym mine.1) (r.owned.whole id v at)),
      )

  only : (v w : V) (j : ℕ) → get_elem? (v ∷ []) j ≡ some w → (j ≡ 0) × (v ≡ w)
  only v w zero e = (refl, some-injective v w e)
  only v w (suc j) e = absurd (some-ne-none w (sym e))

  -- the table at the start
  pub opens : (b : B) → terms_of b ≡ terms → Rule (opening (0 ∷ 0 ∷ length (log b) ∷ []) (Some b ∷ []) (opener_view (terms_of b) (log b)))
  opens b lim = let v : V = opener_view (terms_of b) (log b) in record {
    next = 0;
    serving = 0;
    history = log b;
    words = refl;
    order = omega arith;
    small = omega arith;
    each = λ j w e. subst (Knows terms 0 0 (log b)) (only v w j e).1 record {
      terms = λ _. lim;
      within = λ (d : false ≡ true). absurd (true≢false (sym d));
      turn = λ (d : false ≡ true). absurd (true≢false (sym d));
      saw = prefix_self (log b);
      least = omega arith;
      olds = record { first_begins = (log b, refl); second_begins = (log b, refl); apart = λ k c _. contains_none k c };
    };
    apart = λ i j x y p q _ _ _. (only v x i p).0 ∙ sym (only v y j q).0;
    slot = inl record { value = b; homes = refl; entries = refl; same_terms = lim; nobody = λ j w e. subst (λ (z : V). has_turn z.place ≡ false) (only v w j e).1 refl };
    owned = arrived kind (log b) [] v refl (nobody kind (log b));
  }
