-- The frames of a thread, kept with the topmost last.
use Rattle.std.proofs.Common.{◌≡◌, refl, sym, ap, ◌∙◌, subst, ℕ, ℤ, zero, suc, ◌+◌, ◌-◌, ◌<◌, ◌≤◌, List, [], ◌∷◌, ◌++◌, length, length-append, take, map, reverse, arith}
use Rattle.std.specs.Prelude.{slice_set, slice_index_or, IfOk, OnOk, OnErr, Option, Result, Ok, Err}
use Rattle.std.proofs.Math.Seq.{map-set_same}
use Rattle.std.proofs.lemmas.Grind.{get_or-set_at}
use Rattle.std.proofs.lemmas.List.{reverse-append, length-map, length-reverse, length-set, get_or_append_left, set-append_left}
use Rattle.gob_tree.specs.declared.memory.Memory.{Memory}
use Rattle.gob_tree.specs.declared.unit.Unit.{Unit as TranslationUnit}
use Rattle.c_meaning.specs.Tree as Tree
use Rattle.c_meaning.specs.Tree.{caller_after, frames_after_return}
use Rattle.tree_run.specs.declared.todo.Next.{Next}
use Rattle.tree_run.specs.Stack.{IsReady}
use Rattle.tree_run.specs.declared.frame.Frame.{Frame}
use Rattle.tree_run.specs.Framing.{shown}
use Rattle.tree_run.specs.Deeds.{stack_of, IsTopReady}

map_push : {A B : Type 0} (f : A → B) (xs : List A) (x : A) → map f (xs ++ x ∷ []) ≡ map f xs ++ f x ∷ []
map_push f [] x = refl
map_push f (y ∷ ys) x = ap (λ l. f y ∷ l) (map_push f ys x)

pub stack_push : (xs : List Frame) (f : Frame) → stack_of (xs ++ f ∷ []) ≡ shown f ∷ stack_of xs
stack_push xs f = ap reverse (map_push shown xs f) ∙ reverse-append (map shown xs) (shown f ∷ [])

set_at : {A : Type 0} (xs : List A) (n : ℕ) (p : A) → length xs ≡ suc n → slice_set xs n p ≡ take n xs ++ p ∷ []
set_at [] n p e = absurd (omega (arith, e))
set_at (x ∷ []) zero p e = refl
set_at (x ∷ y ∷ ys) zero p e = absurd (omega (arith, e))
set_at (x ∷ xs) (suc n) p e = ap (λ l. x ∷ l) (set_at xs n p (omega (arith, e)))

at_end : {A : Type 0} (xs : List A) (n : ℕ) (p : A) → length xs ≡ suc n → p ≡ slice_index_or xs n p → xs ≡ take n xs ++ p ∷ []
at_end [] n p e is = absurd (omega (arith, e))
at_end (x ∷ []) zero p e is = ap (λ y. y ∷ []) (sym is)
at_end (x ∷ y ∷ ys) zero p e is = absurd (omega (arith, e))
at_end (x ∷ xs) (suc n) p e is = ap (λ l. x ∷ l) (at_end xs n p (omega (arith, e)) is)

-- the topmost frame, and the stack once it is another one
pub record TopIs (xs : List Frame) (n : ℕ) (old : Frame) (frame : Tree.Frame) (below : List Tree.Frame) : Type 0 where
  pub top : shown old ≡ frame
  pub changed : (f : Frame) → stack_of (slice_set xs (n - 1) f) ≡ shown f ∷ below

pub top_is : (xs : List Frame) (n : ℕ) (old : Frame) (frame : Tree.Frame) (below : List Tree.Frame) → n ≡ length xs → 0 < n → old ≡ slice_index_or xs (n - 1) old → stack_of xs ≡ frame ∷ below → TopIs xs n old frame below
top_is xs n old frame below e z is shows =
    let size : length xs ≡ suc (n - 1) = omega (arith, e, z) in
    let parts : shown old ∷ stack_of (take (n - 1) xs) ≡ frame ∷ below = sym (ap stack_of (at_end xs (n - 1) old size is) ∙ stack_push (take (n - 1) xs) old) ∙ shows in
    let head : shown old ≡ frame = cc in
    let rest : stack_of (take (n - 1) xs) ≡ below = cc in
    record { top = head; changed = λ f. ap stack_of (set_at xs (n - 1) f size) ∙ stack_push (take (n - 1) xs) f ∙ ap (λ l. shown f ∷ l) rest }

pub stack_goes : (goes : Tree.Frame → Tree.Frame) (xs : List Frame) (n : ℕ) (old f : Frame) → n ≡ length xs → 0 < n → old ≡ slice_index_or xs (n - 1) old → shown f ≡ goes (shown old)
    → (frame : Tree.Frame) (below : List Tree.Frame) → stack_of xs ≡ frame ∷ below → stack_of (slice_set xs (n - 1) f) ≡ goes frame ∷ below
stack_goes goes xs n old f e z is new frame below shows =
    let t = top_is xs n old frame below e z is shows in
    t.changed f ∙ ap (λ (g : Tree.Frame). g ∷ below) (new ∙ ap goes t.top)

pub stack_stays : (xs : List Frame) (n : ℕ) (old f : Frame) → n ≡ length xs → 0 < n → old ≡ slice_index_or xs (n - 1) old → shown f ≡ shown old → stack_of (slice_set xs (n - 1) f) ≡ stack_of xs
stack_stays xs n old f e z is new =
    let size : length xs ≡ suc (n - 1) = omega (arith, e, z) in
    let parts : stack_of xs ≡ shown old ∷ stack_of (take (n - 1) xs) = ap stack_of (at_end xs (n - 1) old size is) ∙ stack_push (take (n - 1) xs) old in
    (top_is xs n old (shown old) (stack_of (take (n - 1) xs)) e z is parts).changed f ∙ ap (λ (g : Tree.Frame). g ∷ stack_of (take (n - 1) xs)) new ∙ sym parts

pub on_ok : {T E A B : Type 0} (r : Result T E) → (A → B) → OnOk r A → OnOk r B
on_ok (Ok v) f h = f h
on_ok (Err e) f h = tt

pub on_err : {T E A B : Type 0} (r : Result T E) → (A → B) → OnErr r A → OnErr r B
on_err (Ok v) f h = tt
on_err (Err e) f h = f h

-- ---- the topmost frame once it was settled

-- ---- a return

last_of : {A : Type 0} (xs : List A) (n : ℕ) → length xs ≡ suc n → (x : A) × (xs ≡ take n xs ++ x ∷ [])
last_of [] n e = absurd (omega (arith, e))
last_of (x ∷ []) zero e = (x, refl)
last_of (x ∷ y ∷ ys) zero e = absurd (omega (arith, e))
last_of (x ∷ xs) (suc n) e = let r = last_of xs n (omega (arith, e)) in (r.0, ap (λ l. x ∷ l) r.1)

-- the frame below the topmost one is another one
pub caller_goes : (goes : Tree.Frame → Tree.Frame) (xs : List Frame) (n : ℕ) (old f : Frame) → n ≡ length xs → 1 < n → old ≡ slice_index_or xs (n - 2) old → shown f ≡ goes (shown old)
    → (top caller : Tree.Frame) (below : List Tree.Frame) → stack_of xs ≡ top ∷ caller ∷ below → stack_of (slice_set xs (n - 2) f) ≡ top ∷ goes caller ∷ below
caller_goes goes xs n old f e z is new top caller below shows =
    let size : length xs ≡ suc (n - 1) = omega (arith, e, z) in
    let l = last_of xs (n - 1) size in
    let ys = take (n - 1) xs in
    let counted : length xs ≡ length ys + 1 = ap length l.1 ∙ length-append ys (l.0 ∷ []) in
    let count : n - 1 ≡ length ys = omega (arith, e, z, counted) in
    let there : n - 2 < length ys = omega (arith, z, count) in
    let parts : shown l.0 ∷ stack_of ys ≡ top ∷ caller ∷ below = sym (ap stack_of l.1 ∙ stack_push ys l.0) ∙ shows in
    let head : shown l.0 ≡ top = cc in
    let rest : stack_of ys ≡ caller ∷ below = cc in
    let same : n - 2 ≡ (n - 1) - 1 = omega arith in
    let changed : slice_set xs (n - 2) f ≡ slice_set ys (n - 2) f ++ l.0 ∷ [] = ap (λ (k : List Frame). slice_set k (n - 2) f) l.1 ∙ set-append_left ys (l.0 ∷ []) (n - 2) f there in
    let was : old ≡ slice_index_or ys ((n - 1) - 1) old =
    is ∙ ap (λ (k : List Frame). slice_index_or k (n - 2) old) l.1 ∙ get_or_append_left ys (l.0 ∷ []) old (n - 2) there ∙ ap (λ k. slice_index_or ys k old) same in
    let under : stack_of (slice_set ys ((n - 1) - 1) f) ≡ goes caller ∷ below = stack_goes goes ys (n - 1) old f count (omega (arith, z)) was new caller below rest in
    ap stack_of changed ∙ stack_push (slice_set ys (n - 2) f) l.0
    ∙ ap (λ (g : Tree.Frame). g ∷ stack_of (slice_set ys (n - 2) f)) head
    ∙ ap (λ (k : List Tree.Frame). top ∷ k) (ap (λ k. stack_of (slice_set ys k f)) same ∙ under)

pub frame_stays : (xs : List Frame) (i : ℕ) (old f : Frame) → old ≡ slice_index_or xs i old → shown f ≡ shown old → stack_of (slice_set xs i f) ≡ stack_of xs
frame_stays xs i old f is same = ap reverse (map-set_same shown xs i f old (same ∙ ap shown is))

pub length_stack : (frames : List Frame) → length (stack_of frames) ≡ length frames
length_stack frames = length-reverse (map shown frames) ∙ length-map frames shown

-- a frame returns to its caller
pub returns_to : (unit : TranslationUnit) (n : ℤ) (xs mid new : List Frame) → 1 < length xs
    → ((top caller : Tree.Frame) (below : List Tree.Frame) → stack_of xs ≡ top ∷ caller ∷ below → stack_of mid ≡ top ∷ caller_after unit caller n ∷ below)
    → ((frame : Tree.Frame) (below : List Tree.Frame) → stack_of mid ≡ frame ∷ below → stack_of new ≡ below)
    → (frame : Tree.Frame) (below : List Tree.Frame) → stack_of xs ≡ frame ∷ below → stack_of new ≡ frames_after_return unit below n
returns_to unit n xs mid new more resumes leaves frame [] shows =
    let size : length (frame ∷ []) ≡ length xs = sym (ap length shows) ∙ length_stack xs in
    absurd (omega (arith, size, more))
returns_to unit n xs mid new more resumes leaves frame (caller ∷ below) shows =
    leaves frame (caller_after unit caller n ∷ below) (resumes frame caller below shows)
