-- The topmost part of what is to do.
use Rattle.std.proofs.Common.{Bor, ◌≡◌, refl, sym, ap, ◌∙◌, subst, ℕ, zero, suc, ◌+◌, ◌-◌, ◌<◌, List, [], ◌∷◌, ◌++◌, length, take, map, Option, None, Some, Result, Ok, Err, arith, append_assoc, length-append}
use Rattle.std.specs.Prelude.{slice_set, slice_index_or, IfOk, IsErr, ◌⊎◌}
use Rattle.std.proofs.Common.{⊎_elim}
use Rattle.std.specs.Option.{option_to_list}
use Rattle.std.specs.List.{fold}
use Rattle.std.proofs.Math.Seq.{take-append_seam}
use Rattle.std.proofs.lemmas.List.Sums.{fold_push}
use Rattle.gob_tree.specs.declared.memory.Memory.{Memory}
use Rattle.gob_tree.specs.declared.expr.Expr.{Expr}
use Rattle.gob_tree.specs.declared.stmt.Stmt.{Stmt, Block, DoWhile, For}
use Rattle.gob_tree.specs.declared.stmt.Placed.{Placed}
use Rattle.c_meaning.proofs.Fronts.{front-Block, front-Block_empty, front-DoWhile, front-For, front-For_bare}
use Rattle.c_meaning.specs.declared.config.Todo.{Todo}
use Rattle.c_meaning.specs.declared.config.Todo.TheVariants.{Stmt as Doing, Test as Testing, Last as Lasting}
use Rattle.c_meaning.specs.Tree.{statements, unrolling, with_front, after_break, after_continue}
use Rattle.tree_run.specs.declared.todo.Part.{Part}
use Rattle.tree_run.specs.declared.todo.Part.TheVariants.{Rest, One, Test, Last}
use Rattle.tree_run.specs.declared.todo.Next.{Next}
use Rattle.tree_run.specs.declared.todo.Next.TheVariants as next
use Rattle.tree_run.specs.Stack.{part_todo, above, todo_of, below, EndsIn, IsReady, Settles}

-- ---- lists

set_at : {A : Type 0} (xs : List A) (n : ℕ) (p : A) → length xs ≡ suc n → slice_set xs n p ≡ take n xs ++ p ∷ []
set_at [] n p e = absurd (omega (arith, e))
set_at (x ∷ []) zero p e = refl
set_at (x ∷ y ∷ ys) zero p e = absurd (omega (arith, e))
set_at (x ∷ xs) (suc n) p e = ap (λ l. x ∷ l) (set_at xs n p (omega (arith, e)))

set_before : {A : Type 0} (xs : List A) (n : ℕ) (p u : A) → length xs ≡ suc n → slice_set (xs ++ u ∷ []) n p ≡ (take n xs ++ p ∷ []) ++ u ∷ []
set_before [] n p u e = absurd (omega (arith, e))
set_before (x ∷ []) zero p u e = refl
set_before (x ∷ y ∷ ys) zero p u e = absurd (omega (arith, e))
set_before (x ∷ xs) (suc n) p u e = ap (λ l. x ∷ l) (set_before xs n p u (omega (arith, e)))

pub set_top : (xs : List Part) (n : ℕ) (p : Part) → n ≡ length xs → 0 < n → slice_set xs (n - 1) p ≡ below xs ++ p ∷ []
set_top xs n p e z = set_at xs (n - 1) p (omega (arith, e, z)) ∙ ap (λ k. take (k - 1) xs ++ p ∷ []) e

pub set_under : (xs : List Part) (n : ℕ) (p u : Part) → n ≡ length xs → 0 < n → slice_set (xs ++ u ∷ []) (n - 1) p ≡ (below xs ++ p ∷ []) ++ u ∷ []
set_under xs n p u e z = set_before xs (n - 1) p u (omega (arith, e, z)) ∙ ap (λ k. (take (k - 1) xs ++ p ∷ []) ++ u ∷ []) e

pub below_push : (xs : List Part) (p : Part) → below (xs ++ p ∷ []) ≡ xs
below_push xs p =
    let e = length-append xs (p ∷ []) in
    let k : length (xs ++ p ∷ []) - 1 ≡ length xs = omega (arith, e) in
    ap (λ n. take n (xs ++ p ∷ [])) k ∙ take-append_seam xs (p ∷ [])

pub ends_push : (xs ys : List Part) (p : Part) → ys ≡ xs ++ p ∷ [] → EndsIn ys p
ends_push xs ys p e = e ∙ ap (λ l. l ++ p ∷ []) (sym (below_push xs p) ∙ ap below (sym e))

-- ---- what the parts show

pub todo_push : (xs : List Part) (p : Part) → todo_of (xs ++ p ∷ []) ≡ part_todo p ++ todo_of xs
todo_push xs p = fold_push above [] xs p

pub todo_top : (xs : List Part) (p : Part) → EndsIn xs p → todo_of xs ≡ part_todo p ++ todo_of (below xs)
todo_top xs p e = ap todo_of e ∙ todo_push (below xs) p

pub todo_two : (xs ys : List Part) (l u : Part) → ys ≡ (xs ++ l ∷ []) ++ u ∷ [] → todo_of ys ≡ part_todo u ++ (part_todo l ++ todo_of xs)
todo_two xs ys l u e = ap todo_of e ∙ todo_push (xs ++ l ∷ []) u ∙ ap (λ t. part_todo u ++ t) (todo_push xs l)

pub break_past : (ss : List Placed) (rest : List Todo) → after_break (statements ss ++ rest) ≡ after_break rest
break_past [] rest = refl
break_past (s ∷ ss) rest = break_past ss rest

pub continue_past : (ss : List Placed) (rest : List Todo) → after_continue (statements ss ++ rest) ≡ after_continue rest
continue_past [] rest = refl
continue_past (s ∷ ss) rest = continue_past ss rest

-- ---- settling

-- a statement that unrolls into nothing else stays
pub settles_here : (parts : List Part) (p : Placed) (r : Bor Placed) → EndsIn parts (One r) → r.now ≡ p → ((rest : List Todo) → with_front p rest ≡ Doing p ∷ rest) → Settles parts parts (Ok (Some (next.Stmt r)))
settles_here parts p r e same stays =
    let shown = todo_top parts (One r) e in
    record {
      same = refl;
      ready = (e, ap unrolling shown ∙ subst (λ (q : Placed). with_front q (todo_of (below parts)) ≡ Doing q ∷ todo_of (below parts)) (sym same) (stays (todo_of (below parts))) ∙ sym shown);
    }

-- a `for` without a first part comes to its test
pub settles_bare : (parts new : List Part) (r : Bor Placed) → EndsIn parts (One r) → new ≡ below parts ++ Test r ∷ [] → ((rest : List Todo) → with_front r.now rest ≡ Testing r.now ∷ rest) → Settles parts new (Ok (Some (next.Test r)))
settles_bare parts new r e made bare =
    let shown = todo_top parts (One r) e in
    let now : todo_of new ≡ Testing r.now ∷ todo_of (below parts) = ap todo_of made ∙ todo_push (below parts) (Test r) in
    record {
      same = ap unrolling now ∙ sym (ap unrolling shown ∙ bare (todo_of (below parts)));
      ready = (ends_push (below parts) new (Test r) made, ap unrolling now ∙ sym now);
    }

-- a statement that unrolls into another one and what follows it
pub opens_two : (parts new : List Part) (r : Bor Placed) (l u : Part) (first : Placed) (more : List Todo) → EndsIn parts (One r) → new ≡ (below parts ++ l ∷ []) ++ u ∷ []
    → part_todo u ++ (part_todo l ++ todo_of (below parts)) ≡ Doing first ∷ (more ++ todo_of (below parts))
    → ((rest : List Todo) → with_front r.now rest ≡ with_front first (more ++ rest)) → unrolling (todo_of new) ≡ unrolling (todo_of parts)
opens_two parts new r l u first more e made shows opens =
    ap unrolling (todo_two (below parts) new l u made ∙ shows)
    ∙ sym (ap unrolling (todo_top parts (One r) e) ∙ opens (todo_of (below parts)))

pub settles_after : (parts new last : List Part) (r : Result (Option Next) Memory) → unrolling (todo_of new) ≡ unrolling (todo_of parts) → Settles new last r → Settles parts last r
settles_after parts new last r e s = record { same = s.same ∙ e; ready = s.ready }

-- ---- what unrolls, by the form of the statement

block_of : (p : Placed) (s : Stmt) → p.stmt ≡ s → p ≡ record { place = p.place; stmt = s }
block_of p s e = ap (λ (t : Stmt). record { place = p.place; stmt = t }) e

pub block_stays : (p : Placed) (all : List Placed) → p.stmt ≡ Block all → all ≡ [] → (rest : List Todo) → with_front p rest ≡ Doing p ∷ rest
block_stays p all e none rest =
    let same : p.stmt ≡ Block [] = e ∙ ap Block none in
    subst (λ (q : Placed). with_front q rest ≡ Doing q ∷ rest) (sym (block_of p (Block []) same)) (front-Block_empty p.place rest)

pub block_opens : (p : Placed) (all : List Placed) (first : Placed) (more : List Placed) → p.stmt ≡ Block all → all ≡ first ∷ more → (rest : List Todo) → with_front p rest ≡ with_front first (statements more ++ rest)
block_opens p all first more e parts rest =
    let same : p.stmt ≡ Block (first ∷ more) = e ∙ ap Block parts in
    ap (λ (q : Placed). with_front q rest) (block_of p (Block (first ∷ more)) same) ∙ front-Block p.place first more rest

pub do_opens : (p body : Placed) (test : Expr) → p.stmt ≡ DoWhile body test → (rest : List Todo) → with_front p rest ≡ with_front body (Testing p ∷ rest)
do_opens p body test e rest =
    subst (λ (q : Placed). with_front q rest ≡ with_front body (Testing q ∷ rest)) (sym (block_of p (DoWhile body test) e)) (front-DoWhile p.place body test rest)

pub for_bare : (p : Placed) (all : List Placed) (test : Option Expr) (last : Option Placed) (body : Placed) → p.stmt ≡ For all test last body → all ≡ [] → (rest : List Todo) → with_front p rest ≡ Testing p ∷ rest
for_bare p all test last body e none rest =
    let same : p.stmt ≡ For [] test last body = e ∙ ap (λ l. For l test last body) none in
    subst (λ (q : Placed). with_front q rest ≡ Testing q ∷ rest) (sym (block_of p (For [] test last body) same)) (front-For_bare p.place test last body rest)

pub for_opens : (p : Placed) (all : List Placed) (first : Placed) (more : List Placed) (test : Option Expr) (last : Option Placed) (body : Placed) → p.stmt ≡ For all test last body → all ≡ first ∷ more → (rest : List Todo) → with_front p rest ≡ with_front first (statements more ++ Testing p ∷ rest)
for_opens p all first more test last body e parts rest =
    let same : p.stmt ≡ For (first ∷ more) test last body = e ∙ ap (λ l. For l test last body) parts in
    subst (λ (q : Placed). with_front q rest ≡ with_front first (statements more ++ Testing q ∷ rest)) (sym (block_of p (For (first ∷ more) test last body) same)) (front-For p.place first more test last body rest)

-- the rest of a list, and the list with its first statement apart, show the same
pub split_shows : (parts mid : List Part) (all more : Bor (List Placed)) (first : Bor Placed) → EndsIn parts (Rest all) → mid ≡ (below parts ++ Rest more ∷ []) ++ One first ∷ [] → all.now ≡ first.now ∷ more.now → todo_of mid ≡ todo_of parts
split_shows parts mid all more first e made same =
    todo_two (below parts) mid (Rest more) (One first) made
    ∙ ap (λ (l : List Placed). statements l ++ todo_of (below parts)) (sym same) ∙ sym (todo_top parts (Rest all) e)

-- a `for` before its first part is split off
pub for_shows : (parts mid : List Part) (r : Bor Placed) (all : Bor (List Placed)) (first : Placed) (more : List Placed) → EndsIn parts (One r) → mid ≡ (below parts ++ Test r ∷ []) ++ Rest all ∷ [] → all.now ≡ first ∷ more
    → ((rest : List Todo) → with_front r.now rest ≡ with_front first (statements more ++ Testing r.now ∷ rest)) → unrolling (todo_of mid) ≡ unrolling (todo_of parts)
for_shows parts mid r all first more e made same opens =
    ap unrolling (todo_two (below parts) mid (Test r) (Rest all) made ∙ ap (λ (l : List Placed). statements l ++ Testing r.now ∷ todo_of (below parts)) same)
    ∙ sym (ap unrolling (todo_top parts (One r) e) ∙ opens (todo_of (below parts)))

-- both stages of a `for` with a first part
pub record ForSplits (parts halfway last : List Part) (r : Bor Placed) (more : Bor (List Placed)) (first : Bor Placed) : Type 0 where
  pub mid : unrolling (todo_of halfway) ≡ unrolling (todo_of parts)
  pub all : last ≡ (below halfway ++ Rest more ∷ []) ++ One first ∷ [] → unrolling (todo_of last) ≡ unrolling (todo_of parts)

pub for_splits : (parts mid' last : List Part) (r : Bor Placed) (all more : Bor (List Placed)) (first : Bor Placed) → EndsIn parts (One r) → mid' ≡ (below parts ++ Test r ∷ []) ++ Rest all ∷ [] → all.now ≡ first.now ∷ more.now
    → ((rest : List Todo) → with_front r.now rest ≡ with_front first.now (statements more.now ++ Testing r.now ∷ rest)) → ForSplits parts mid' last r more first
for_splits parts mid' last r all more first e made same opens =
    let shows = for_shows parts mid' r all first.now more.now e made same opens in
    record {
      mid = shows;
      all = λ made'. ap unrolling (split_shows mid' last all more first (ends_push (below parts ++ Test r ∷ []) mid' (Rest all) made) made' same) ∙ shows;
    }

pub settles_stopped : (parts new : List Part) (r : Result (Option Next) Memory) → IsErr r → unrolling (todo_of new) ≡ unrolling (todo_of parts) → Settles parts new r
settles_stopped parts new (Ok n) err e = absurd (cc)
settles_stopped parts new (Err m) err e = record { same = e; ready = tt }

-- ---- loops

abbrev pub IsPast : Part → Type 0
IsPast p = ((r : Bor (List Placed)) × (p ≡ Rest r)) ⊎ ((r : Bor Placed) × (p ≡ One r))

past_shows : (f : List Todo → List Todo) → ((ss : List Placed) (rest : List Todo) → f (statements ss ++ rest) ≡ f rest) → (p : Part) → IsPast p → (rest : List Todo) → f (part_todo p ++ rest) ≡ f rest
past_shows f past p is rest =
    ⊎_elim (λ w. ap (λ (q : Part). f (part_todo q ++ rest)) w.1 ∙ past w.0.now rest)
    (λ w. ap (λ (q : Part). f (part_todo q ++ rest)) w.1 ∙ past (w.0.now ∷ []) rest) is

pub break_pop : (xs ys : List Part) (p : Part) → xs ≡ ys ++ p ∷ [] → IsPast p → after_break (todo_of ys) ≡ after_break (todo_of xs)
break_pop xs ys p e is = sym (ap (λ l. after_break (todo_of l)) e ∙ ap after_break (todo_push ys p) ∙ past_shows after_break break_past p is (todo_of ys))

pub continue_pop : (xs ys : List Part) (p : Part) → xs ≡ ys ++ p ∷ [] → IsPast p → after_continue (todo_of ys) ≡ after_continue (todo_of xs)
continue_pop xs ys p e is = sym (ap (λ l. after_continue (todo_of l)) e ∙ ap after_continue (todo_push ys p) ∙ past_shows after_continue continue_past p is (todo_of ys))

pub popped : (xs ys : List Part) (o : Option Part) (p : Part) → xs ≡ ys ++ option_to_list o → o ≡ Some p → xs ≡ ys ++ p ∷ []
popped xs ys o p e is = e ∙ ap (λ (q : Option Part). ys ++ option_to_list q) is

at_end : {A : Type 0} (xs : List A) (n : ℕ) (p : A) → length xs ≡ suc n → p ≡ slice_index_or xs n p → xs ≡ take n xs ++ p ∷ []
at_end [] n p e is = absurd (omega (arith, e))
at_end (x ∷ []) zero p e is = ap (λ y. y ∷ []) (sym is)
at_end (x ∷ y ∷ ys) zero p e is = absurd (omega (arith, e))
at_end (x ∷ xs) (suc n) p e is = ap (λ l. x ∷ l) (at_end xs n p (omega (arith, e)) is)

pub ends_at : (xs : List Part) (n : ℕ) (p : Part) → n ≡ length xs → 0 < n → p ≡ slice_index_or xs (n - 1) p → EndsIn xs p
ends_at xs n p e z is = at_end xs (n - 1) p (omega (arith, e, z)) is ∙ ap (λ k. take (k - 1) xs ++ p ∷ []) e

pub continue_drop : (xs ys : List Part) (p : Part) → EndsIn xs p → ys ≡ below xs → IsPast p → after_continue (todo_of ys) ≡ after_continue (todo_of xs)
continue_drop xs ys p ends e is = continue_pop xs ys p (ends ∙ ap (λ l. l ++ p ∷ []) (sym e)) is

set_ahead : {A : Type 0} (xs us : List A) (n : ℕ) (p : A) → length xs ≡ suc n → slice_set (xs ++ us) n p ≡ (take n xs ++ p ∷ []) ++ us
set_ahead [] us n p e = absurd (omega (arith, e))
set_ahead (x ∷ []) us zero p e = refl
set_ahead (x ∷ y ∷ ys) us zero p e = absurd (omega (arith, e))
set_ahead (x ∷ xs) us (suc n) p e = ap (λ l. x ∷ l) (set_ahead xs us n p (omega (arith, e)))

pub set_under_two : (xs : List Part) (n : ℕ) (p l u : Part) → n ≡ length xs → 0 < n → slice_set ((xs ++ l ∷ []) ++ u ∷ []) (n - 1) p ≡ ((below xs ++ p ∷ []) ++ l ∷ []) ++ u ∷ []
set_under_two xs n p l u e z =
    ap (λ k. slice_set k (n - 1) p) (append_assoc xs (l ∷ []) (u ∷ []))
    ∙ set_ahead xs (l ∷ u ∷ []) (n - 1) p (omega (arith, e, z))
    ∙ ap (λ k. (take (k - 1) xs ++ p ∷ []) ++ l ∷ u ∷ []) e
    ∙ sym (append_assoc (below xs ++ p ∷ []) (l ∷ []) (u ∷ []))

pub todo_three : (xs ys : List Part) (b l u : Part) → ys ≡ ((xs ++ b ∷ []) ++ l ∷ []) ++ u ∷ [] → todo_of ys ≡ part_todo u ++ (part_todo l ++ (part_todo b ++ todo_of xs))
todo_three xs ys b l u e = todo_two (xs ++ b ∷ []) ys l u e ∙ ap (λ t. part_todo u ++ (part_todo l ++ t)) (todo_push xs b)
