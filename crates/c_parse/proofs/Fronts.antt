-- Where the machine breaks at a unit's tokens, the tokens before the break begin a unit and none goes on with
-- the token there; where it is over a limit, some unit goes on with that token, the first over a limit in it.
use Rattle.std.proofs.Common.{◌≡◌, refl, sym, ap, ◌∙◌, subst, append-nil, ℕ, ◌+◌, ◌-◌, ◌≤◌, Bool, true, false, List, [], ◌∷◌, ◌++◌, length, length-append, drop, arith, Option, Some, None}
use Rattle.std.specs.Prelude.{nat_le}
use Rattle.std.proofs.Math.Seq.{drop-append_seam}
use Rattle.c_parse.specs.declared.terminal.Terminal.{Terminal}
use Rattle.c_parse.specs.declared.terminal.Kind.{Kind}
use Rattle.c_parse.specs.declared.terminal.Kind.TheVariants as kinds
use Rattle.c_parse.specs.declared.stop.Trouble.{Trouble}
use Rattle.c_parse.specs.declared.stop.Trouble.TheVariants.{Bad, Deep}
use Rattle.c_parse.specs.declared.raw.unit.RawItem.{RawItem}
use Rattle.c_parse.specs.Grammar as grammar
use Rattle.c_parse.specs.Grammar.{Nesting, counted, entered, settled, within, limit, begins_with, ReadsOuter, ReadsItem, ReadsUnit, Spells, Begins, NoneHolds, IsWithin, IsFirstBad, IsFirstDeep}
use Rattle.c_parse.specs.Machine.{Effect, keeps, counts, ends_arg, enters, settles, effect, Part, Move, takes, skips, stops, Outcome, finished, troubled, settle, unit_item, move, moved, behind, settled_next, next, run, go_on, unless_over, at_end, all_may_end, opens_type}
use Rattle.c_parse.specs.Machine as parts
use Rattle.c_parse.proofs.Opening.{effect_stays, run_over, is_skip, outer_no_skip}
use Rattle.c_parse.proofs.Passing.{first_is, also_first, type_begins, passes_item}
use Rattle.c_parse.proofs.Steps.{ReadsPart, ReadsParts, Steps, steps, passed_over}
use Rattle.c_parse.proofs.Closing.{Calm, calm_end, closing, closed, closing_calm}
use Rattle.c_parse.proofs.Quiet.{is_quiet_part, are_quiet, behind_first, both, quiet_rest, joined_quiet, is_quiet_row, item_quiet, row_quiet}

-- the operators behind a token, where so many were read before it; none if the token is over a limit

abbrev unless : Bool → Option ℕ → Option ℕ
unless true o = None
unless false o = o

abbrev pub operators_after : Effect → ℕ → Option ℕ
operators_after keeps n = Some n
operators_after counts n = unless (nat_le limit n) (Some (n + 1))
operators_after (ends_arg true) n = Some 0
operators_after (ends_arg false) n = Some n
operators_after (enters d e) n = unless (nat_le (limit + 1) d) (operators_after e n)
operators_after (settles e) n = operators_after e 0

pub stays_within : (e : Effect) (n m : ℕ) (ts : List Terminal) → operators_after e n ≡ Some m → effect e (within n) ts ≡ within m
stays_within keeps n m ts h = let same : n ≡ m = cc in ap within same
stays_within counts n m ts h = go (nat_le limit n) refl h
  where
    go : (b : Bool) → nat_le limit n ≡ b → unless b (Some (n + 1)) ≡ Some m → counted (within n) ts ≡ within m
    go true e h = absurd (cc)
    go false e h = let same : n + 1 ≡ m = cc in rw e (ap within same)
stays_within (ends_arg true) n m ts h = let same : 0 ≡ m = cc in ap within same
stays_within (ends_arg false) n m ts h = let same : n ≡ m = cc in ap within same
stays_within (enters d e) n m ts h = go (nat_le (limit + 1) d) refl h (λ h. stays_within e n m ts h)
  where
    go : (b : Bool) → nat_le (limit + 1) d ≡ b → unless b (operators_after e n) ≡ Some m → (operators_after e n ≡ Some m → effect e (within n) ts ≡ within m) → effect e (entered d (within n) ts) ts ≡ within m
    go true q h again = absurd (cc)
    go false q h again = rw q (again h)
stays_within (settles e) n m ts h = stays_within e 0 m ts h

pub is_over : (e : Effect) (n : ℕ) (ts : List Terminal) → operators_after e n ≡ None → (effect e (within n) ts).over ≡ Some (length ts)
is_over keeps n ts h = absurd (cc)
is_over counts n ts h = go (nat_le limit n) refl h
  where
    go : (b : Bool) → nat_le limit n ≡ b → unless b (Some (n + 1)) ≡ None → (counted (within n) ts).over ≡ Some (length ts)
    go true e h = rw e refl
    go false e h = absurd (cc)
is_over (ends_arg true) n ts h = absurd (cc)
is_over (ends_arg false) n ts h = absurd (cc)
is_over (enters d e) n ts h = go (nat_le (limit + 1) d) refl h (λ h. is_over e n ts h)
  where
    go : (b : Bool) → nat_le (limit + 1) d ≡ b → unless b (operators_after e n) ≡ None → (operators_after e n ≡ None → (effect e (within n) ts).over ≡ Some (length ts)) → (effect e (entered d (within n) ts) ts).over ≡ Some (length ts)
    go true q h again = effect_stays e (entered d (within n) ts) ts (length ts) (rw q refl)
    go false q h again = rw q (again h)
is_over (settles e) n ts h = is_over e 0 ts h

-- the stack and the operators after some tokens, none of which is over a limit
abbrev pub After : List Part → ℕ → List Terminal → List Part → ℕ → Type 0
After ps n [] qs m = (ps ≡ qs) × (n ≡ m)
After ps n (t ∷ ts) qs m = (e : Effect) × (rs : List Part) × (k : ℕ) × (next ps t.kind ≡ Some (e, rs)) × (operators_after e n ≡ Some k) × After rs k ts qs m

pub runs_front : (front tail : List Terminal) (ps qs : List Part) (n m : ℕ) → After ps n front qs m → run ps (within n) (front ++ tail) ≡ run qs (within m) tail
runs_front [] tail ps qs n m a = ap (λ (l : List Part). run l (within n) tail) a.0 ∙ ap (λ (k : ℕ). run qs (within k) tail) a.1
runs_front (t ∷ ts) tail ps qs n m a =
    ap (λ (o : Option (Effect × List Part)). go_on o (λ e rs. run rs (effect e (within n) (t ∷ ts ++ tail)) (ts ++ tail)) (length (t ∷ ts ++ tail))) a.3
    ∙ ap (λ (b : Nesting). run a.1 b (ts ++ tail)) (stays_within a.0 n a.2 (t ∷ ts ++ tail) a.4)
    ∙ runs_front ts tail a.1 qs a.2 m a.5

-- what a stack completes, up to the end of the unit
abbrev pub Completes : List Part → Nesting → List Terminal → Nesting → Type 0
Completes [] a ts b = (all : List RawItem) × ReadsUnit a ts all b
Completes (p ∷ ps) a ts b = (mid : List Terminal) × (m : Nesting) × ReadsPart p a ts mid m × Completes ps m mid b

cut : (ps qs : List Part) (a : Nesting) (ts : List Terminal) (b : Nesting) → Completes (ps ++ qs) a ts b → (mid : List Terminal) × (m : Nesting) × ReadsParts ps a ts mid m × Completes qs m mid b
cut [] qs a ts b c = (ts, a, (refl, refl), c)
cut (p ∷ ps) qs a ts b c = let k = cut ps qs c.1 c.0 b c.3 in (k.0, k.1, (c.0, c.1, c.2, k.2), k.3)

-- the effect and the stack of a step

abbrev step_effect : Option (Effect × List Part) → Effect
step_effect None = keeps
step_effect (Some d) = d.0

abbrev step_stack : Option (Effect × List Part) → List Part
step_stack None = []
step_stack (Some d) = d.1

abbrev steps_to : Effect → List Part → Option (Effect × List Part)
steps_to e qs = Some (e, qs)

same_step : (e f : Effect) (qs rs : List Part) → steps_to e qs ≡ steps_to f rs → (f ≡ e) × (rs ≡ qs)
same_step e f qs rs h = (sym (ap step_effect h), sym (ap step_stack h))

-- a part that is passed over
record Skipped (p : Part) (o : Option (Effect × List Part)) (e : Effect) (qs : List Part) : Type 0 where
  pub below : Effect
  pub is : o ≡ Some (below, qs)
  pub same : (a : Nesting) (ts : List Terminal) → effect e a ts ≡ effect below (passed_over p a) ts

skipped : (p : Part) (o : Option (Effect × List Part)) (e : Effect) (qs : List Part) → behind p o ≡ Some (e, qs) → Skipped p o e qs
skipped settle None e qs h = absurd (cc)
skipped settle (Some n) e qs h =
    let k = same_step (settles n.0) e n.1 qs h in
    record { below = n.0; is = ap (λ (l : List Part). Some (n.0, l)) (sym k.1); same = λ a ts. ap (λ (f : Effect). effect f a ts) k.0 }
skipped _ o e qs h = record { below = e; is = h; same = λ a ts. refl }

pub completes_token : (ps qs : List Part) (e : Effect) (a b : Nesting) (t : Terminal) (ts : List Terminal) → next ps t.kind ≡ Some (e, qs) → Completes qs (effect e a (t ∷ ts)) ts b → Completes ps a (t ∷ ts) b
completes_token [] qs e a b t ts h c = go (parts.item_move t.kind) (steps unit_item t) h
  where
    go : (m : Move) → Steps unit_item t m → moved m [] None ≡ Some (e, qs) → Completes [] a (t ∷ ts) b
    go (takes f rs) s h =
        let same = same_step f e (rs ++ []) qs h in
        let k = cut rs [] (effect f a (t ∷ ts)) ts b (subst (λ (g : Effect). Completes (rs ++ []) (effect g a (t ∷ ts)) ts b) same.0 (subst (λ (l : List Part). Completes l (effect e a (t ∷ ts)) ts b) same.1 c)) in
        let d = s a k.1 ts k.0 k.2 in
        (_, grammar.unit_item d.1 k.3.1)
    go skips s h = absurd (cc)
    go stops s h = absurd (cc)
completes_token (p ∷ ps) qs e a b t ts h c = go (move p t.kind) (steps p t) h (λ f q d. completes_token ps qs f (passed_over p a) b t ts q d)
  where
    go : (m : Move) → Steps p t m → moved m ps (behind p (next ps t.kind)) ≡ Some (e, qs) → ((f : Effect) → next ps t.kind ≡ Some (f, qs) → Completes qs (effect f (passed_over p a) (t ∷ ts)) ts b → Completes ps (passed_over p a) (t ∷ ts) b) → Completes (p ∷ ps) a (t ∷ ts) b
    go (takes f rs) s h again =
        let same = same_step f e (rs ++ ps) qs h in
        let k = cut rs ps (effect f a (t ∷ ts)) ts b (subst (λ (g : Effect). Completes (rs ++ ps) (effect g a (t ∷ ts)) ts b) same.0 (subst (λ (l : List Part). Completes l (effect e a (t ∷ ts)) ts b) same.1 c)) in
        (k.0, k.1, s a k.1 ts k.0 k.2, k.3)
    go skips s h again =
        let k = skipped p (next ps t.kind) e qs h in
        (t ∷ ts, passed_over p a, s a ts, again k.below k.is (subst (λ (n : Nesting). Completes qs n ts b) (k.same a (t ∷ ts)) c))
    go stops s h again = absurd (cc)

pub completes_front : (front tail : List Terminal) (ps qs : List Part) (n m : ℕ) (b : Nesting) → After ps n front qs m → Completes qs (within m) tail b → Completes ps (within n) (front ++ tail) b
completes_front [] tail ps qs n m b a c = subst (λ (l : List Part). Completes l (within n) tail b) (sym a.0) (subst (λ (k : ℕ). Completes qs (within k) tail b) (sym a.1) c)
completes_front (t ∷ ts) tail ps qs n m b a c =
    completes_token ps a.1 a.0 (within n) b t (ts ++ tail) a.3
    (subst (λ (k : Nesting). Completes a.1 k (ts ++ tail) b) (sym (stays_within a.0 n a.2 (t ∷ ts ++ tail) a.4)) (completes_front ts tail a.1 qs a.2 m b a.5 c))

-- each stack that is reached can be completed

pub next_quiet : (ps qs : List Part) (e : Effect) (k : Kind) → are_quiet (behind_first ps) ≡ true → next ps k ≡ Some (e, qs) → are_quiet (behind_first qs) ≡ true
next_quiet [] qs e k h q = go (parts.item_move k) (item_quiet k) q
  where
    go : (m : Move) → is_quiet_row m ≡ true → moved m [] None ≡ Some (e, qs) → are_quiet (behind_first qs) ≡ true
    go (takes f rs) r q = subst (λ (l : List Part). are_quiet (behind_first l) ≡ true) (sym (same_step f e (rs ++ []) qs q).1) (joined_quiet rs [] r refl)
    go skips r q = absurd (cc)
    go stops r q = absurd (cc)
next_quiet (p ∷ ps) qs e k h q = go (move p k) (row_quiet p k) q (λ f q. next_quiet ps qs f k (quiet_rest ps h) q)
  where
    go : (m : Move) → is_quiet_row m ≡ true → moved m ps (behind p (next ps k)) ≡ Some (e, qs) → ((f : Effect) → next ps k ≡ Some (f, qs) → are_quiet (behind_first qs) ≡ true) → are_quiet (behind_first qs) ≡ true
    go (takes f rs) r q again = subst (λ (l : List Part). are_quiet (behind_first l) ≡ true) (sym (same_step f e (rs ++ ps) qs q).1) (joined_quiet rs ps r h)
    go skips r q again = let s = skipped p (next ps k) e qs q in again s.below s.is
    go stops r q again = absurd (cc)

pub after_quiet : (front : List Terminal) (ps qs : List Part) (n m : ℕ) → are_quiet (behind_first ps) ≡ true → After ps n front qs m → are_quiet (behind_first qs) ≡ true
after_quiet [] ps qs n m h a = subst (λ (l : List Part). are_quiet (behind_first l) ≡ true) a.0 h
after_quiet (t ∷ ts) ps qs n m h a = after_quiet ts a.1 qs a.2 m (next_quiet ps a.1 a.0 t.kind h a.3) a.5

-- a completion of a stack, from each nesting
pub record Whole (ps : List Part) (a : Nesting) (tail : List Terminal) : Type 0 where
  pub end : Nesting
  pub completes : Completes ps a tail end

pub record Closed (ps : List Part) : Type 0 where
  pub tail : List Terminal
  pub whole : (a : Nesting) → Whole ps a tail

record CalmlyClosed (ps : List Part) : Type 0 where
  pub tail : List Terminal
  pub whole : (a : Nesting) → Whole ps a tail
  pub calm : Calm tail

pub with_first : (p : Part) (ps : List Part) (tail : List Terminal) → Calm tail → ((a : Nesting) → Whole ps a tail) → (a : Nesting) → Whole (p ∷ ps) a (closing p tail)
with_first p ps tail h w a =
    let c = closed p a tail h in
    let k = w c.end in
    record { end = k.end; completes = (tail, c.end, c.reads, k.completes) }

quiet_closed : (ps : List Part) → are_quiet ps ≡ true → CalmlyClosed ps
quiet_closed [] h = record { tail = []; whole = λ a. record { end = a; completes = ([], grammar.unit_end) }; calm = calm_end }
quiet_closed (p ∷ ps) h =
    let b = both (is_quiet_part p) (are_quiet ps) h in
    let k = quiet_closed ps b.1 in
    record { tail = closing p k.tail; whole = with_first p ps k.tail k.calm k.whole; calm = closing_calm p k.tail b.0 k.calm }

pub all_closed : (ps : List Part) → are_quiet (behind_first ps) ≡ true → Closed ps
all_closed [] h = record { tail = []; whole = λ a. record { end = a; completes = ([], grammar.unit_end) } }
all_closed (p ∷ ps) h = let k = quiet_closed ps h in record { tail = closing p k.tail; whole = with_first p ps k.tail k.calm k.whole }

-- a unit is passed, up to its first token over a limit

item_no_skip : (k : Kind) → is_skip (parts.item_move k) ≡ false
item_no_skip kinds.Static = refl
item_no_skip kinds.Extern = refl
item_no_skip k = outer_no_skip k

pub opened_unit : (a : Nesting) (t : Terminal) (ts : List Terminal) → run [] a (t ∷ ts) ≡ run (unit_item ∷ []) a (t ∷ ts)
opened_unit a t ts = ap (λ (o : Option (Effect × List Part)). unless_over a.over (go_on o (λ e qs. run qs (effect e a (t ∷ ts)) ts) (length (t ∷ ts)))) (go (parts.item_move t.kind) (item_no_skip t.kind))
  where
    go : (m : Move) → is_skip m ≡ false → moved m [] None ≡ moved m [] (behind unit_item (next [] t.kind))
    go (takes e qs) h = refl
    go skips h = absurd (cc)
    go stops h = refl

abbrev any : Kind → Bool
any k = true

outer_begins : {may : Bool} {a b : Nesting} {ts rest : List Terminal} {all : List RawItem} → ReadsOuter may a ts all rest b → begins_with any ts ≡ true
outer_begins (grammar.number_item {ts = ts} n0 n1) = also_first opens_type any (λ k h. refl) ts (type_begins n0)
outer_begins (grammar.void_item n0 n1) = first_is any n0
outer_begins (grammar.mutex_item n0 n1) = first_is any n0

item_begins : {a b : Nesting} {ts rest : List Terminal} {all : List RawItem} → ReadsItem a ts all rest b → begins_with any ts ≡ true
item_begins (grammar.static_item n0 n1) = first_is any n0
item_begins (grammar.extern_item n0 n1) = first_is any n0
item_begins (grammar.plain_item {ts = ts} n0) = outer_begins n0

opened_item : (a : Nesting) (ts : List Terminal) → begins_with any ts ≡ true → run [] a ts ≡ run (unit_item ∷ []) a ts
opened_item a [] h = absurd (cc)
opened_item a (t ∷ ts) h = opened_unit a t ts

pub passes_unit : {a b : Nesting} {ts : List Terminal} {all : List RawItem} → ReadsUnit a ts all b → run [] a ts ≡ unless_over b.over finished
passes_unit grammar.unit_end = refl
passes_unit (grammar.unit_item {ts = ts} {a = a} n0 n1) = opened_item a ts (item_begins n0) ∙ passes_item n0 [] ∙ passes_unit n1

-- where a run stops

abbrev Refuses : List Part → List Terminal → Type 0
Refuses ps [] = all_may_end ps ≡ false
Refuses ps (t ∷ ts) = next ps t.kind ≡ None

-- after the front nothing holds the rest's first token
record Broken (ps : List Part) (n : ℕ) (ts : List Terminal) (left : ℕ) : Type 0 where
  pub front : List Terminal
  pub rest : List Terminal
  pub stack : List Part
  pub operators : ℕ
  pub cut : ts ≡ front ++ rest
  pub left_over : length rest ≡ left
  pub reached : After ps n front stack operators
  pub refused : Refuses stack rest

-- after the front the token is over a limit
record Sunk (ps : List Part) (n : ℕ) (ts : List Terminal) (left : ℕ) : Type 0 where
  pub front : List Terminal
  pub t : Terminal
  pub rest : List Terminal
  pub stack : List Part
  pub operators : ℕ
  pub effect : Effect
  pub later : List Part
  pub cut : ts ≡ front ++ t ∷ rest
  pub left_over : length (t ∷ rest) ≡ left
  pub reached : After ps n front stack operators
  pub held : next stack t.kind ≡ Some (effect, later)
  pub deep : operators_after effect operators ≡ None

pub not_deep : {left other : ℕ} → troubled Deep left ≡ troubled Bad other → ⊥
not_deep h = cc

pub not_done : {f : Trouble} {left : ℕ} → finished ≡ troubled f left → ⊥
not_done h = cc

pub same_left : {f g : Trouble} {left other : ℕ} → troubled f left ≡ troubled g other → left ≡ other
same_left h = cc

broken : (ps : List Part) (n : ℕ) (ts : List Terminal) (left : ℕ) → run ps (within n) ts ≡ troubled Bad left → Broken ps n ts left
broken ps n [] left q = go (all_may_end ps) refl q
  where
    go : (b : Bool) → all_may_end ps ≡ b → at_end b ≡ troubled Bad left → Broken ps n [] left
    go true h q = absurd (not_done q)
    go false h q = record { front = []; rest = []; stack = ps; operators = n; cut = refl; left_over = same_left q; reached = (refl, refl); refused = h }
broken ps n (t ∷ ts) left q = go (next ps t.kind) refl q (λ rs k q. broken rs k ts left q)
  where
    on : (e : Effect) (rs : List Part) (o : Option ℕ) → next ps t.kind ≡ Some (e, rs) → operators_after e n ≡ o → run rs (effect e (within n) (t ∷ ts)) ts ≡ troubled Bad left → ((k : ℕ) → run rs (within k) ts ≡ troubled Bad left → Broken rs k ts left) → Broken ps n (t ∷ ts) left
    on e rs None h c q again = absurd (not_deep (sym (run_over rs (effect e (within n) (t ∷ ts)) ts (length (t ∷ ts)) (is_over e n (t ∷ ts) c)) ∙ q))
    on e rs (Some k) h c q again =
        let b = again k (ap (λ (a : Nesting). run rs a ts) (sym (stays_within e n k (t ∷ ts) c)) ∙ q) in
        record { front = t ∷ b.front; rest = b.rest; stack = b.stack; operators = b.operators; cut = ap (λ (l : List Terminal). t ∷ l) b.cut; left_over = b.left_over; reached = (e, rs, k, h, c, b.reached); refused = b.refused }

    go : (o : Option (Effect × List Part)) → next ps t.kind ≡ o → go_on o (λ e rs. run rs (effect e (within n) (t ∷ ts)) ts) (length (t ∷ ts)) ≡ troubled Bad left → ((rs : List Part) (k : ℕ) → run rs (within k) ts ≡ troubled Bad left → Broken rs k ts left) → Broken ps n (t ∷ ts) left
    go None h q again = record { front = []; rest = t ∷ ts; stack = ps; operators = n; cut = refl; left_over = same_left q; reached = (refl, refl); refused = h }
    go (Some d) h q again = on d.0 d.1 (operators_after d.0 n) h refl q (again d.1)

sunk : (ps : List Part) (n : ℕ) (ts : List Terminal) (left : ℕ) → run ps (within n) ts ≡ troubled Deep left → Sunk ps n ts left
sunk ps n [] left q = go (all_may_end ps) q
  where
    go : (b : Bool) → at_end b ≡ troubled Deep left → Sunk ps n [] left
    go true q = absurd (not_done q)
    go false q = absurd (not_deep (sym q))
sunk ps n (t ∷ ts) left q = go (next ps t.kind) refl q (λ rs k q. sunk rs k ts left q)
  where
    on : (e : Effect) (rs : List Part) (o : Option ℕ) → next ps t.kind ≡ Some (e, rs) → operators_after e n ≡ o → run rs (effect e (within n) (t ∷ ts)) ts ≡ troubled Deep left → ((k : ℕ) → run rs (within k) ts ≡ troubled Deep left → Sunk rs k ts left) → Sunk ps n (t ∷ ts) left
    on e rs None h c q again =
        let over = run_over rs (effect e (within n) (t ∷ ts)) ts (length (t ∷ ts)) (is_over e n (t ∷ ts) c) in
        record { front = []; t = t; rest = ts; stack = ps; operators = n; effect = e; later = rs; cut = refl; left_over = same_left (sym over ∙ q); reached = (refl, refl); held = h; deep = c }
    on e rs (Some k) h c q again =
        let b = again k (ap (λ (a : Nesting). run rs a ts) (sym (stays_within e n k (t ∷ ts) c)) ∙ q) in
        record { front = t ∷ b.front; t = b.t; rest = b.rest; stack = b.stack; operators = b.operators; effect = b.effect; later = b.later; cut = ap (λ (l : List Terminal). t ∷ l) b.cut; left_over = b.left_over; reached = (e, rs, k, h, c, b.reached); held = b.held; deep = b.deep }

    go : (o : Option (Effect × List Part)) → next ps t.kind ≡ o → go_on o (λ e rs. run rs (effect e (within n) (t ∷ ts)) ts) (length (t ∷ ts)) ≡ troubled Deep left → ((rs : List Part) (k : ℕ) → run rs (within k) ts ≡ troubled Deep left → Sunk rs k ts left) → Sunk ps n (t ∷ ts) left
    go None h q again = absurd (not_deep (sym q))
    go (Some d) h q again = on d.0 d.1 (operators_after d.0 n) h refl q (again d.1)

-- the reading that a stop tells

pub ends_well : (o : Option ℕ) (left : ℕ) → unless_over o finished ≡ troubled Bad left → ⊥
ends_well None left h = not_done h
ends_well (Some other) left h = not_deep h

none_holds : (front rest : List Terminal) (qs : List Part) (n : ℕ) → After [] 0 front qs n → Refuses qs rest → NoneHolds front rest
none_holds front [] qs n a r = λ all end d.
    let whole : run [] (within 0) front ≡ unless_over end.over finished = passes_unit d in
    let same : run [] (within 0) (front ++ []) ≡ run [] (within 0) front = ap (run [] (within 0)) (append-nil front) in
    let bad : run qs (within n) [] ≡ troubled Bad 0 = rw r refl in
    ends_well end.over 0 (sym whole ∙ sym same ∙ runs_front front [] [] qs 0 n a ∙ bad)
none_holds front (t ∷ ts) qs n a r = λ tail all end d.
    let whole : run [] (within 0) (front ++ t ∷ tail) ≡ unless_over end.over finished = passes_unit d in
    let bad : run qs (within n) (t ∷ tail) ≡ troubled Bad (length (t ∷ tail)) = rw r refl in
    ends_well end.over (length (t ∷ tail)) (sym whole ∙ runs_front front (t ∷ tail) [] qs 0 n a ∙ bad)

-- a run stops at one of its tokens, or where it was over a limit before

abbrev Under : Option ℕ → ℕ → Type 0
Under None n = Unit {0}
Under (Some left) n = left ≤ n

earlier : (o : Option ℕ) (b : Bool) (here n : ℕ) → Under o n → here ≤ n → Under (grammar.earliest o b here) n
earlier (Some left) b here n u h = u
earlier None true here n u h = h
earlier None false here n u h = tt

effect_under : (e : Effect) (a : Nesting) (ts : List Terminal) (n : ℕ) → length ts ≤ n → Under a.over n → Under (effect e a ts).over n
effect_under keeps a ts n h u = u
effect_under counts a ts n h u = earlier a.over (nat_le limit a.operators) (length ts) n u h
effect_under (ends_arg true) a ts n h u = u
effect_under (ends_arg false) a ts n h u = u
effect_under (enters d e) a ts n h u = effect_under e (entered d a ts) ts n h (earlier a.over (nat_le (limit + 1) d) (length ts) n u h)
effect_under (settles e) a ts n h u = effect_under e (settled a) ts n h u

shorter : (t : Terminal) (ts : List Terminal) (n : ℕ) → length (t ∷ ts) ≤ n → length ts ≤ n
shorter t ts n h = omega (arith, h)

pub run_under : (ps : List Part) (a : Nesting) (ts : List Terminal) (n : ℕ) → length ts ≤ n → Under a.over n → (f : Trouble) (left : ℕ) → run ps a ts ≡ troubled f left → left ≤ n
run_under ps a [] n h u f left q = go a.over u q
  where
    ending : (b : Bool) → at_end b ≡ troubled f left → left ≤ n
    ending true q = absurd (not_done q)
    ending false q = let same : 0 ≡ left = same_left q in omega (arith, same)

    go : (o : Option ℕ) → Under o n → unless_over o (at_end (all_may_end ps)) ≡ troubled f left → left ≤ n
    go None u q = ending (all_may_end ps) q
    go (Some other) u q = subst (λ (l : ℕ). l ≤ n) (same_left q) u
run_under ps a (t ∷ ts) n h u f left q = go a.over u q (λ e qs q. run_under qs (effect e a (t ∷ ts)) ts n (shorter t ts n h) (effect_under e a (t ∷ ts) n h u) f left q)
  where
    on : (o : Option (Effect × List Part)) → go_on o (λ e qs. run qs (effect e a (t ∷ ts)) ts) (length (t ∷ ts)) ≡ troubled f left → ((e : Effect) (qs : List Part) → run qs (effect e a (t ∷ ts)) ts ≡ troubled f left → left ≤ n) → left ≤ n
    on None q again = subst (λ (l : ℕ). l ≤ n) (same_left q) h
    on (Some d) q again = again d.0 d.1 q

    go : (o : Option ℕ) → Under o n → unless_over o (go_on (next ps t.kind) (λ e qs. run qs (effect e a (t ∷ ts)) ts) (length (t ∷ ts))) ≡ troubled f left → ((e : Effect) (qs : List Part) → run qs (effect e a (t ∷ ts)) ts ≡ troubled f left → left ≤ n) → left ≤ n
    go None u q again = on (next ps t.kind) q again
    go (Some other) u q again = subst (λ (l : ℕ). l ≤ n) (same_left q) u

is_within : (o : Option ℕ) (ps : List Part) (n : ℕ) (tail : List Terminal) → run ps (within n) tail ≡ unless_over o finished → IsWithin o tail
is_within None ps n tail q = tt
is_within (Some left) ps n tail q = run_under ps (within n) tail (length tail) (omega (arith)) tt Deep left q

begins : (front : List Terminal) (qs : List Part) (n : ℕ) → After [] 0 front qs n → Begins front
begins front qs n a =
    let c = all_closed qs (after_quiet front [] qs 0 n refl a) in
    let w = c.whole (within n) in
    let d = completes_front front c.tail [] qs 0 n w.end a w.completes in
    record { tail = c.tail; items = d.0; end = w.end; spells = d.1; kept = is_within w.end.over qs n c.tail (sym (runs_front front c.tail [] qs 0 n a) ∙ passes_unit d.1) }

pub deep_end : (o : Option ℕ) (left : ℕ) → unless_over o finished ≡ troubled Deep left → o ≡ Some left
deep_end None left h = absurd (not_done h)
deep_end (Some other) left h = ap (λ (n : ℕ). Some n) (same_left h)

-- the last tokens, so many, of a list
pub last_ones : (front rest ts : List Terminal) (left : ℕ) → ts ≡ front ++ rest → length rest ≡ left → (left ≤ length ts) × (rest ≡ drop (length ts - left) ts)
last_ones front rest ts left cut same =
    let whole : length ts ≡ length front + length rest = ap length cut ∙ length-append front rest in
    let n : length ts - left ≡ length front = omega (arith, whole, same) in
    let tail : drop (length ts - left) ts ≡ rest = ap (λ (k : ℕ). drop k ts) n ∙ (ap (drop (length front)) cut ∙ drop-append_seam front rest) in
    (omega (arith, whole, same), sym tail)

-- where the machine breaks at the tokens of a unit, there is the first bad one
pub first_bad : (ts : List Terminal) (left : ℕ) → run [] (within 0) ts ≡ troubled Bad left → (left ≤ length ts) × IsFirstBad ts (drop (length ts - left) ts)
first_bad ts left q =
    let b = broken [] 0 ts left q in
    let k = last_ones b.front b.rest ts left b.cut b.left_over in
    (k.0, subst (IsFirstBad ts) k.1 (record { front = b.front; cut = b.cut; begins = begins b.front b.stack b.operators b.reached; none = none_holds b.front b.rest b.stack b.operators b.reached b.refused }))

deep : (ts : List Terminal) (left : ℕ) (s : Sunk [] 0 ts left) → IsFirstDeep ts (s.t ∷ s.rest)
deep ts left s =
    let quiet = next_quiet s.stack s.later s.effect s.t.kind (after_quiet s.front [] s.stack 0 s.operators refl s.reached) s.held in
    let c = all_closed s.later quiet in
    let w = c.whole (effect s.effect (within s.operators) (s.t ∷ c.tail)) in
    let whole = completes_token s.stack s.later s.effect (within s.operators) w.end s.t c.tail s.held w.completes in
    let d = completes_front s.front (s.t ∷ c.tail) [] s.stack 0 s.operators w.end s.reached whole in
    let over = is_over s.effect s.operators (s.t ∷ c.tail) s.deep in
    let held : run s.stack (within s.operators) (s.t ∷ c.tail) ≡ run s.later (effect s.effect (within s.operators) (s.t ∷ c.tail)) c.tail = rw s.held refl in
    let runs = runs_front s.front (s.t ∷ c.tail) [] s.stack 0 s.operators s.reached ∙ (held ∙ run_over s.later (effect s.effect (within s.operators) (s.t ∷ c.tail)) c.tail (length (s.t ∷ c.tail)) over) in
    record { front = s.front; t = s.t; after = s.rest; tail = c.tail; items = d.0; end = w.end; rest_is = refl; cut = s.cut; spells = d.1; over = deep_end w.end.over (length (s.t ∷ c.tail)) (sym (passes_unit d.1) ∙ runs) }

-- where it is over a limit, there is the first token over it
pub first_deep : (ts : List Terminal) (left : ℕ) → run [] (within 0) ts ≡ troubled Deep left → (left ≤ length ts) × IsFirstDeep ts (drop (length ts - left) ts)
first_deep ts left q =
    let s = sunk [] 0 ts left q in
    let k = last_ones s.front (s.t ∷ s.rest) ts left s.cut s.left_over in
    (k.0, subst (IsFirstDeep ts) k.1 (deep ts left s))

pub left_within : (ts : List Terminal) (f : Trouble) (left : ℕ) → run [] (within 0) ts ≡ troubled f left → left ≤ length ts
left_within ts f left q = run_under [] (within 0) ts (length ts) (omega (arith)) tt f left q

-- the same of the tokens that were left
pub bad_rest : (ts rest : List Terminal) (f : Trouble) (left : ℕ) → run [] (within 0) ts ≡ troubled f left → f ≡ Bad → rest ≡ drop (length ts - left) ts → IsFirstBad ts rest
bad_rest ts rest f left q h e = subst (IsFirstBad ts) (sym e) (first_bad ts left (q ∙ ap (λ (g : Trouble). troubled g left) h)).1

pub deep_rest : (ts rest : List Terminal) (f : Trouble) (left : ℕ) → run [] (within 0) ts ≡ troubled f left → f ≡ Deep → rest ≡ drop (length ts - left) ts → IsFirstDeep ts rest
deep_rest ts rest f left q h e = subst (IsFirstDeep ts) (sym e) (first_deep ts left (q ∙ ap (λ (g : Trouble). troubled g left) h)).1
