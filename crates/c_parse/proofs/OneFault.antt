-- Tokens have one fault at most, and none where they are a unit: the machine's answer tells which.
use Rattle.std.proofs.Common.{◌≡◌, refl, sym, ap, ◌∙◌, subst, append-nil, ℕ, ◌-◌, ◌≤◌, Bool, true, false, List, [], ◌∷◌, ◌++◌, length, drop, arith, Option, Some, None}
use Rattle.gob_tree.specs.declared.place.Place.{Place}
use Rattle.c_parse.specs.declared.fault.ParseFault.{ParseFault}
use Rattle.c_parse.specs.declared.fault.ParseFault.TheVariants.{Unexpected, Unsupported, TooDeep, Memory}
use Rattle.c_parse.specs.declared.terminal.Terminal.{Terminal}
use Rattle.c_parse.specs.declared.stop.Trouble.TheVariants.{Bad, Deep}
use Rattle.c_parse.specs.declared.raw.unit.RawItem.{RawItem}
use Rattle.c_parse.specs.Grammar as grammar
use Rattle.c_parse.specs.Grammar.{Nesting, within, begins_with, IsWithin, Spells, IsUnit, NoneHolds, IsFirstBad, IsFirstDeep}
use Rattle.c_parse.specs.Fault.{IsBadAt, IsDeepAt, IsFault, place_or, is_unsupported}
use Rattle.c_parse.specs.Machine.{Effect, effect, Part, finished, troubled, settle, chain, call, initial, long_tail, otherwise, next, run, go_on, unless_over, at_end, may_end, all_may_end}
use Rattle.c_parse.proofs.Opening.{run_over}
use Rattle.c_parse.proofs.Closing.{calm_end, closing}
use Rattle.c_parse.proofs.Quiet.{both}
use Rattle.c_parse.proofs.Fronts.{After, Whole, operators_after, stays_within, is_over, runs_front, completes_token, completes_front, next_quiet, after_quiet, all_closed, with_first, run_under, passes_unit, ends_well, not_deep, not_done, same_left, last_ones}

-- what a reading passes over before a limit, the machine has passed

record Reached (ps : List Part) (n : ℕ) (front : List Terminal) : Type 0 where
  pub stack : List Part
  pub operators : ℕ
  pub reached : After ps n front stack operators

too_long : (t : Terminal) (ts tail : List Terminal) → length (t ∷ ts ++ tail) ≤ length tail → ⊥
too_long t [] tail h = omega (arith, h)
too_long t (u ∷ us) tail h = too_long t us tail (omega (arith, h))

reaches : (front tail : List Terminal) (ps : List Part) (n : ℕ) (o : Option ℕ) → run ps (within n) (front ++ tail) ≡ unless_over o finished → IsWithin o tail → Reached ps n front
reaches [] tail ps n o q w = record { stack = ps; operators = n; reached = (refl, refl) }
reaches (t ∷ ts) tail ps n o q w = go (next ps t.kind) refl q (λ rs k q. reaches ts tail rs k o q w)
  where
    deep_here : (o : Option ℕ) → unless_over o finished ≡ troubled Deep (length (t ∷ ts ++ tail)) → IsWithin o tail → ⊥
    deep_here None q w = not_done q
    deep_here (Some left) q w = too_long t ts tail (subst (λ (l : ℕ). l ≤ length tail) (same_left q) w)

    on : (e : Effect) (rs : List Part) (c : Option ℕ) → next ps t.kind ≡ Some (e, rs) → operators_after e n ≡ c → run rs (effect e (within n) (t ∷ ts ++ tail)) (ts ++ tail) ≡ unless_over o finished → ((k : ℕ) → run rs (within k) (ts ++ tail) ≡ unless_over o finished → Reached rs k ts) → Reached ps n (t ∷ ts)
    on e rs None h c q again = absurd (deep_here o (sym q ∙ run_over rs (effect e (within n) (t ∷ ts ++ tail)) (ts ++ tail) (length (t ∷ ts ++ tail)) (is_over e n (t ∷ ts ++ tail) c)) w)
    on e rs (Some k) h c q again =
        let r = again k (ap (λ (a : Nesting). run rs a (ts ++ tail)) (sym (stays_within e n k (t ∷ ts ++ tail) c)) ∙ q) in
        record { stack = r.stack; operators = r.operators; reached = (e, rs, k, h, c, r.reached) }

    go : (d : Option (Effect × List Part)) → next ps t.kind ≡ d → go_on d (λ e rs. run rs (effect e (within n) (t ∷ ts ++ tail)) (ts ++ tail)) (length (t ∷ ts ++ tail)) ≡ unless_over o finished → ((rs : List Part) (k : ℕ) → run rs (within k) (ts ++ tail) ≡ unless_over o finished → Reached rs k ts) → Reached ps n (t ∷ ts)
    go None h q again = absurd (ends_well o (length (t ∷ ts ++ tail)) (sym q))
    go (Some d) h q again = on d.0 d.1 (operators_after d.0 n) h refl q (again d.1)

-- parts that may be left at the end are empty there

nothing_closes : (p : Part) → may_end p ≡ true → closing p [] ≡ []
nothing_closes settle h = refl
nothing_closes (chain l) h = refl
nothing_closes call h = refl
nothing_closes initial h = refl
nothing_closes long_tail h = refl
nothing_closes (otherwise d) h = refl
nothing_closes _ h = absurd (cc)

whole_here : (ps : List Part) → all_may_end ps ≡ true → (a : Nesting) → Whole ps a []
whole_here [] h a = record { end = a; completes = ([], grammar.unit_end) }
whole_here (p ∷ ps) h a =
    let b = both (may_end p) (all_may_end ps) h in
    subst (Whole (p ∷ ps) a) (nothing_closes p b.0) (with_first p ps [] calm_end (whole_here ps b.1) a)

-- the machine finds the first bad token, and the first one over a limit

abbrev Holds : List Terminal → List Terminal → Type 0
Holds front tail = (items : List RawItem) × (end : Nesting) × Spells (front ++ tail) items end

ended_front : (front : List Terminal) (qs : List Part) (n : ℕ) → After [] 0 front qs n → all_may_end qs ≡ true → Holds front []
ended_front front qs n a h =
    let w = whole_here qs h (within n) in
    let d = completes_front front [] [] qs 0 n w.end a w.completes in
    (d.0, w.end, d.1)

held_front : (front : List Terminal) (qs rs : List Part) (n : ℕ) (e : Effect) (t : Terminal) → After [] 0 front qs n → next qs t.kind ≡ Some (e, rs) → (tail : List Terminal) × Holds front (t ∷ tail)
held_front front qs rs n e t a h =
    let c = all_closed rs (next_quiet qs rs e t.kind (after_quiet front [] qs 0 n refl a) h) in
    let w = c.whole (effect e (within n) (t ∷ c.tail)) in
    let d = completes_front front (t ∷ c.tail) [] qs 0 n w.end a (completes_token qs rs e (within n) w.end t c.tail h w.completes) in
    (c.tail, (d.0, w.end, d.1))

bad_here : (front rest : List Terminal) (qs : List Part) (n : ℕ) → After [] 0 front qs n → NoneHolds front rest → run qs (within n) rest ≡ troubled Bad (length rest)
bad_here front [] qs n a none = go (all_may_end qs) refl
  where
    go : (b : Bool) → all_may_end qs ≡ b → at_end b ≡ troubled Bad 0
    go true h =
        let d = ended_front front qs n a h in
        absurd (none d.0 d.1 (subst (λ (l : List Terminal). Spells l d.0 d.1) (append-nil front) d.2))
    go false h = refl
bad_here front (t ∷ ts) qs n a none = go (next qs t.kind) refl
  where
    go : (o : Option (Effect × List Part)) → next qs t.kind ≡ o → go_on o (λ e rs. run rs (effect e (within n) (t ∷ ts)) ts) (length (t ∷ ts)) ≡ troubled Bad (length (t ∷ ts))
    go None h = refl
    go (Some d) h = let k = held_front front qs d.1 n d.0 t a h in absurd (none k.0 k.1.0 k.1.1 k.1.2)

bad_runs : (ts rest : List Terminal) → IsFirstBad ts rest → run [] (within 0) ts ≡ troubled Bad (length rest)
bad_runs ts rest b =
    let r = reaches b.front b.begins.tail [] 0 b.begins.end.over (passes_unit b.begins.spells) b.begins.kept in
    ap (run [] (within 0)) b.cut ∙ (runs_front b.front rest [] r.stack 0 r.operators r.reached ∙ bad_here b.front rest r.stack r.operators r.reached b.none)

deep_here : (t : Terminal) (tail after : List Terminal) (qs : List Part) (n : ℕ) → run qs (within n) (t ∷ tail) ≡ troubled Deep (length (t ∷ tail)) → run qs (within n) (t ∷ after) ≡ troubled Deep (length (t ∷ after))
deep_here t tail after qs n q = go (next qs t.kind) refl q
  where
    on : (e : Effect) (rs : List Part) (c : Option ℕ) → operators_after e n ≡ c → run rs (effect e (within n) (t ∷ tail)) tail ≡ troubled Deep (length (t ∷ tail)) → run rs (effect e (within n) (t ∷ after)) after ≡ troubled Deep (length (t ∷ after))
    on e rs None c q = run_over rs (effect e (within n) (t ∷ after)) after (length (t ∷ after)) (is_over e n (t ∷ after) c)
    on e rs (Some k) c q =
        let runs : run rs (within k) tail ≡ troubled Deep (length (t ∷ tail)) = ap (λ (a : Nesting). run rs a tail) (sym (stays_within e n k (t ∷ tail) c)) ∙ q in
        absurd (too_long t [] tail (run_under rs (within k) tail (length tail) (omega (arith)) tt Deep (length (t ∷ tail)) runs))

    go : (o : Option (Effect × List Part)) → next qs t.kind ≡ o → go_on o (λ e rs. run rs (effect e (within n) (t ∷ tail)) tail) (length (t ∷ tail)) ≡ troubled Deep (length (t ∷ tail)) → go_on o (λ e rs. run rs (effect e (within n) (t ∷ after)) after) (length (t ∷ after)) ≡ troubled Deep (length (t ∷ after))
    go None h q = absurd (not_deep (sym q))
    go (Some d) h q = on d.0 d.1 (operators_after d.0 n) refl q

deep_runs : (ts rest : List Terminal) → IsFirstDeep ts rest → run [] (within 0) ts ≡ troubled Deep (length rest)
deep_runs ts rest d =
    let whole : run [] (within 0) (d.front ++ d.t ∷ d.tail) ≡ unless_over (Some (length (d.t ∷ d.tail))) finished = passes_unit d.spells ∙ ap (λ (o : Option ℕ). unless_over o finished) d.over in
    let r = reaches d.front (d.t ∷ d.tail) [] 0 (Some (length (d.t ∷ d.tail))) whole (omega (arith)) in
    let there = deep_here d.t d.tail d.after r.stack r.operators (sym (runs_front d.front (d.t ∷ d.tail) [] r.stack 0 r.operators r.reached) ∙ whole) in
    subst (λ (l : List Terminal). run [] (within 0) ts ≡ troubled Deep (length l)) (sym d.rest_is)
    (ap (run [] (within 0)) (d.cut ∙ ap (λ (l : List Terminal). d.front ++ l) d.rest_is) ∙ (runs_front d.front (d.t ∷ d.after) [] r.stack 0 r.operators r.reached ∙ there))

-- so it is one place

suffix : (ts front rest : List Terminal) → ts ≡ front ++ rest → rest ≡ drop (length ts - length rest) ts
suffix ts front rest cut = (last_ones front rest ts (length rest) cut refl).1

one_suffix : (ts a b f g : List Terminal) → ts ≡ f ++ a → ts ≡ g ++ b → length a ≡ length b → a ≡ b
one_suffix ts a b f g p q h = suffix ts f a p ∙ (ap (λ (n : ℕ). drop (length ts - n) ts) h ∙ sym (suffix ts g b q))

pub one_bad : (ts a b : List Terminal) → IsFirstBad ts a → IsFirstBad ts b → a ≡ b
one_bad ts a b p q = one_suffix ts a b p.front q.front p.cut q.cut (same_left (sym (bad_runs ts a p) ∙ bad_runs ts b q))

pub one_deep : (ts a b : List Terminal) → IsFirstDeep ts a → IsFirstDeep ts b → a ≡ b
one_deep ts a b p q = one_suffix ts a b p.front q.front p.cut q.cut (same_left (sym (deep_runs ts a p) ∙ deep_runs ts b q))

pub bad_or_deep : (ts a b : List Terminal) → IsFirstBad ts a → IsFirstDeep ts b → ⊥
bad_or_deep ts a b p q = not_deep (sym (deep_runs ts b q) ∙ bad_runs ts a p)

pub no_bad : (ts a : List Terminal) (items : List RawItem) → IsUnit ts items → IsFirstBad ts a → ⊥
no_bad ts a items d b = not_done (sym (passes_unit d) ∙ bad_runs ts a b)

pub no_deep : (ts a : List Terminal) (items : List RawItem) → IsUnit ts items → IsFirstDeep ts a → ⊥
no_deep ts a items d b = not_done (sym (passes_unit d) ∙ deep_runs ts a b)

same_place : (ts a b : List Terminal) (end p q : Place) → a ≡ b → p ≡ place_or end a → q ≡ place_or end b → p ≡ q
same_place ts a b end p q h m n = m ∙ (ap (place_or end) h ∙ sym n)

both_bad : (ts : List Terminal) (end p q : Place) (x y : Bool) → IsBadAt ts end x p → IsBadAt ts end y q → (p ≡ q) × (x ≡ y)
both_bad ts end p q x y a b =
    let one = one_bad ts a.rest b.rest a.bad b.bad in
    (same_place ts a.rest b.rest end p q one a.here b.here, sym a.keyword ∙ (ap (begins_with is_unsupported) one ∙ b.keyword))

bad_and_deep : (ts : List Terminal) (end p q : Place) (x : Bool) → IsBadAt ts end x p → IsDeepAt ts end q → ⊥
bad_and_deep ts end p q x a b = bad_or_deep ts a.rest b.rest a.bad b.deep

differ : true ≡ false → ⊥
differ h = cc

pub one_fault : (ts : List Terminal) (end : Place) (a b : ParseFault) → (a ≡ Memory → ⊥) → (b ≡ Memory → ⊥) → IsFault ts end a → IsFault ts end b → a ≡ b
one_fault ts end Memory b m n x y = absurd (m refl)
one_fault ts end (Unexpected p) (Unexpected q) m n x y = ap (λ (r : Place). Unexpected r) (both_bad ts end p q false false x y).0
one_fault ts end (Unsupported p) (Unsupported q) m n x y = ap (λ (r : Place). Unsupported r) (both_bad ts end p q true true x y).0
one_fault ts end (TooDeep p) (TooDeep q) m n x y = ap (λ (r : Place). TooDeep r) (same_place ts x.rest y.rest end p q (one_deep ts x.rest y.rest x.deep y.deep) x.here y.here)
one_fault ts end (Unexpected p) (Unsupported q) m n x y = absurd (differ (sym (both_bad ts end p q false true x y).1))
one_fault ts end (Unsupported p) (Unexpected q) m n x y = absurd (differ (both_bad ts end p q true false x y).1)
one_fault ts end (Unexpected p) (TooDeep q) m n x y = absurd (bad_and_deep ts end p q false x y)
one_fault ts end (Unsupported p) (TooDeep q) m n x y = absurd (bad_and_deep ts end p q true x y)
one_fault ts end (TooDeep p) (Unexpected q) m n x y = absurd (bad_and_deep ts end q p false y x)
one_fault ts end (TooDeep p) (Unsupported q) m n x y = absurd (bad_and_deep ts end q p true y x)
one_fault ts end (Unexpected p) Memory m n x y = absurd (n refl)
one_fault ts end (Unsupported p) Memory m n x y = absurd (n refl)
one_fault ts end (TooDeep p) Memory m n x y = absurd (n refl)

pub no_fault : (ts : List Terminal) (items : List RawItem) (end : Place) (a : ParseFault) → IsUnit ts items → IsFault ts end a → a ≡ Memory
no_fault ts items end Memory d x = refl
no_fault ts items end (Unexpected p) d x = absurd (no_bad ts x.rest items d x.bad)
no_fault ts items end (Unsupported p) d x = absurd (no_bad ts x.rest items d x.bad)
no_fault ts items end (TooDeep p) d x = absurd (no_deep ts x.rest items d x.deep)
