-- How the declarations of a function grow along its body, and that what is seen stays within its slots and threads.
use Rattle.std.proofs.Common.{◌≡◌, refl, sym, ap, ◌∙◌, ℕ, ◌+◌, ◌<◌, ◌≤◌, Bool, true, false, cond, List, [], ◌∷◌, ◌++◌, length, arith, length-append, append_assoc, append-nil, lt-ltb, ◌==◌}
use Rattle.std.specs.List.{AllByRecursion}
use Rattle.std.proofs.lemmas.Bool.{and_from}
use Rattle.gob_tree.specs.Widths.{returned_width}
use Rattle.gob_tree.specs.declared.expr.Width.{Width}
use Rattle.gob_tree.specs.declared.unit.Function.{Function}
use Rattle.gob_tree.specs.declared.unit.Slot.{Slot}
use Rattle.c_check.specs.declared.meaning.Declared.{Declared}
use Rattle.c_check.specs.Names.{BodyNames, with_local, with_thread, with_slot, opened, closed, without_block}
use Rattle.c_check.proofs.WellMadeNames.{Seen, Fine}

-- the second holds what the first held, and more slots and threads behind
pub record Grows (a b : BodyNames) : Type 0 where
  pub kind : b.kind ≡ a.kind
  pub more : List Slot
  pub slots : b.slots ≡ a.slots ++ more
  pub threads : length a.threads ≤ length b.threads

-- no more slots and threads than the function has in the end
pub record Within (f : Function) (body : BodyNames) : Type 0 where
  pub slots : length body.slots ≤ length f.slots
  pub threads : length body.threads ≤ length f.threads

pub grows_none : (a : BodyNames) → Grows a a
grows_none a = record { kind = refl; more = []; slots = sym (append-nil a.slots); threads = omega arith }

pub grows_then : (a b c : BodyNames) → Grows a b → Grows b c → Grows a c
grows_then a b c g h = record {
  kind = h.kind ∙ g.kind;
  more = g.more ++ h.more;
  slots = h.slots ∙ ap (λ (l : List Slot). l ++ h.more) g.slots ∙ append_assoc a.slots g.more h.more;
  threads = let first = g.threads in let second = h.threads in omega arith;
}

grown : (xs ys more : List Slot) → ys ≡ xs ++ more → length xs ≤ length ys
grown xs ys more e = let counted : length ys ≡ length xs + length more = ap (λ (l : List Slot). length l) e ∙ length-append xs more in omega arith

pub within_before : (f : Function) (a b : BodyNames) → Grows a b → Within f b → Within f a
within_before f a b g w = record {
  slots = let longer = grown a.slots b.slots g.more g.slots in let fits = w.slots in omega arith;
  threads = let longer = g.threads in let fits = w.threads in omega arith;
}

-- ---- declarations

pub grows_local : (x : List ℕ) (w : Width) (body : BodyNames) → Grows body (with_local x w body)
grows_local x w body = record { kind = refl; more = record { name = x; width = w } ∷ []; slots = refl; threads = omega arith }

pub grows_slot : (x : List ℕ) (w : Width) (body : BodyNames) → Grows body (with_slot x w body)
grows_slot x w body = record { kind = refl; more = record { name = x; width = w } ∷ []; slots = refl; threads = omega arith }

one_more : {A : Type 0} (xs : List A) (x : A) → length (xs ++ x ∷ []) ≡ length xs + 1
one_more xs x = length-append xs (x ∷ [])

pub grows_thread : (x : List ℕ) (body : BodyNames) → Grows body (with_thread x body)
grows_thread x body = record { kind = refl; more = []; slots = sym (append-nil body.slots); threads = let longer = one_more body.threads x in omega arith }

pub fine_local : (f : Function) (x : List ℕ) (w : Width) (body : BodyNames) → Fine f body → Within f (with_local x w body) → Fine f (with_local x w body)
fine_local f x w body fine within =
    let slot : Slot = record { name = x; width = w } in
    let longer = one_more body.slots slot in
    let begun = fine.begun in
    let fits : length (body.slots ++ slot ∷ []) ≤ length f.slots = within.slots in
    record {
      kind = fine.kind;
      begun = omega arith;
      visible = (and_from _ _ (lt-ltb 0 (length body.slots) fine.begun) (lt-ltb (length body.slots) (length f.slots) (omega arith)), fine.visible);
    }

pub fine_slot : (f : Function) (x : List ℕ) (w : Width) (body : BodyNames) → Fine f body → Fine f (with_slot x w body)
fine_slot f x w body fine =
    let slot : Slot = record { name = x; width = w } in
    let longer = one_more body.slots slot in
    record { kind = fine.kind; begun = omega arith; visible = fine.visible }

pub fine_thread : (f : Function) (x : List ℕ) (body : BodyNames) → Fine f body → Within f (with_thread x body) → Fine f (with_thread x body)
fine_thread f x body fine within =
    let longer = one_more body.threads x in
    let fits : length (body.threads ++ x ∷ []) ≤ length f.threads = within.threads in
    record {
      kind = fine.kind;
      begun = fine.begun;
      visible = (lt-ltb (length body.threads) (length f.threads) (omega arith), fine.visible);
    }

-- ---- blocks

pub fine_opened : (f : Function) (body : BodyNames) → Fine f body → Fine f (opened body)
fine_opened f body fine = record { kind = fine.kind; begun = fine.begun; visible = fine.visible }

cond_each : {A : Type 0} (P : A → Type 0) (b : Bool) (xs ys : List A) → AllByRecursion P xs → AllByRecursion P ys → AllByRecursion P (cond b xs ys)
cond_each P true xs ys h g = h
cond_each P false xs ys h g = g

without_each : (P : (List ℕ × Declared) → Type 0) (depth : ℕ) (ds : List (List ℕ × Declared)) → AllByRecursion P ds → AllByRecursion P (without_block depth ds)
without_each P depth [] all = tt
without_each P depth (d ∷ ds) all = cond_each P (d.1.depth == depth) (without_block depth ds) (d ∷ ds) (without_each P depth ds all.1) all

pub fine_closed : (f : Function) (body : BodyNames) → Fine f body → Fine f (closed body)
fine_closed f body fine = record { kind = fine.kind; begun = fine.begun; visible = without_each (λ e. Seen f e.1.meaning) body.depth body.visible fine.visible }

pub grows_block : (a b : BodyNames) → Grows (opened a) b → Grows a (closed b)
grows_block a b g = record { kind = g.kind; more = g.more; slots = g.slots; threads = g.threads }

pub within_block : (f : Function) (b : BodyNames) → Within f (closed b) → Within f b
within_block f b w = record { slots = w.slots; threads = w.threads }

-- ---- the returned value

-- slot 0 stays as it is
pub returned_kept : (a b : BodyNames) → Grows a b → 0 < length a.slots → returned_width b.slots ≡ returned_width a.slots
returned_kept a b g begun = ap returned_width g.slots ∙ kept a.slots g.more begun
  where
    kept : (xs more : List Slot) → 0 < length xs → returned_width (xs ++ more) ≡ returned_width xs
    kept [] more l = absurd (omega arith)
    kept (x ∷ xs) more l = refl
