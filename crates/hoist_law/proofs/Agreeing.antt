-- Values that agree on the named slots and on some temporaries.
use Rattle.std.proofs.Common.{◌≡◌, ◌⊎◌, inl, inr, ◌∙◌, refl, sym, subst, ℕ, ◌+◌, ◌<◌, ◌≤◌, ℤ, pos, Bool, true, false, nat_eq, List, [], ◌∷◌, length, take, Option, None, Some, arith, true≢false, length-append}
use Rattle.std.specs.Prelude.{◌&&◌, ◌||◌, if◌then◌else◌, not, slice_set}
use Rattle.std.specs.List.{list_any}
use Rattle.std.proofs.lemmas.Bool.Decides.{nat_tests}
use Rattle.std.proofs.lemmas.List.{get_or-set_other, length-set}
use Rattle.std.proofs.lemmas.Option.{none-some, same_Some}
use Rattle.gob_tree.specs.Widths.{same_width}
use Rattle.gob_tree.specs.declared.expr.Expr.{Expr}
use Rattle.gob_tree.specs.declared.expr.Width.{Width}
use Rattle.gob_tree.specs.declared.unit.Slot.{Slot}
use Rattle.std.proofs.Common.{Ok}
use Rattle.c_meaning.specs.Demand.{demand_of, value_at}
use Rattle.c_meaning.specs.Graph.{HoistState, free_from, free_temp, next_node, number_or_next, taking, with_temp}
use Rattle.graph_law.proofs.Keeping.{take_set}

-- ---- temporaries that are taken

abbrev pub IsIn : ℕ → List ℕ → Type 0
IsIn k [] = ⊥
IsIn k (j ∷ js) = (k ≡ j) ⊎ IsIn k js

-- each is one of the graph's temporaries; and the graph has its entry and its exit
abbrev pub AreThere : HoistState → Type 0
AreThere s = ((k : ℕ) → IsIn k s.taken → k < length s.flow.temps) × (2 ≤ next_node s.flow)

apart_from : (k j : ℕ) → nat_eq k j ≡ false → k ≡ j → ⊥
apart_from k j e same = grind (arith, nat_tests)

not_first : (k j : ℕ) (js : List ℕ) (rest : Bool) (b : Bool) → nat_eq k j ≡ b → (b || rest) ≡ false → (rest ≡ false → IsIn k js → ⊥) → IsIn k (j ∷ js) → ⊥
not_first k j js rest true e none later one = true≢false none
not_first k j js rest false e none later one = elim one [ inl same ↦ apart_from k j e same | inr among ↦ later none among ]

not_among : (k : ℕ) (js : List ℕ) → list_any (nat_eq k) js ≡ false → IsIn k js → ⊥
not_among k [] none one = one
not_among k (j ∷ js) none one = not_first k j js (list_any (nat_eq k) js) (nat_eq k j) refl none (not_among k js) one

and_right : (a b : Bool) → (a && not b) ≡ true → b ≡ false
and_right true true e = absurd (true≢false (sym e))
and_right true false e = refl
and_right false b e = absurd (true≢false (sym e))

-- the temporary that is found free isn't taken, and is one of the graph's
free_apart : (k : ℕ) (temps : List Width) (w : Width) (taken : List ℕ) (j : ℕ) → free_from k temps w taken ≡ Some j → (IsIn j taken → ⊥) × (j < k + length temps)
free_apart k [] w taken j e = absurd (none-some j e)
free_apart k (v ∷ temps) w taken j e = go (same_width v w && not (list_any (nat_eq k) taken)) refl (free_apart (k + 1) temps w taken j) e
  where
    go : (b : Bool) → (same_width v w && not (list_any (nat_eq k) taken)) ≡ b → (free_from (k + 1) temps w taken ≡ Some j → (IsIn j taken → ⊥) × (j < (k + 1) + length temps))
        → (if b then Some k else free_from (k + 1) temps w taken) ≡ Some j → (IsIn j taken → ⊥) × (j < k + length (v ∷ temps))
    go true free later e =
        let same : k ≡ j = same_Some k j e in
        (subst (λ (i : ℕ). IsIn i taken → ⊥) same (not_among k taken (and_right (same_width v w) (list_any (nat_eq k) taken) free)), omega (arith, same))
    go false free later e = let rest = later e in let below = rest.1 in (rest.0, omega (arith, below))

-- a temporary that is taken now wasn't taken, is taken afterwards, and all that was taken stays so
pub record IsTaken (s after : HoistState) (j : ℕ) : Type 0 where
  pub fresh : IsIn j s.taken → ⊥
  pub taken : IsIn j after.taken
  pub kept : (k : ℕ) → IsIn k s.taken → IsIn k after.taken
  pub there : AreThere after

taken_by : (w : Width) (s : HoistState) → AreThere s → (o : Option ℕ) → free_temp w s ≡ o → IsTaken s (taking w o s) (number_or_next o s)
taken_by w s there None e = record {
  fresh = λ one. let below = there.0 (length s.flow.temps) one in omega (arith, below);
  taken = inl refl;
  kept = λ k one. inr one;
  there = (
    λ k one. elim one [
      | inl same ↦ (let long = length-append s.flow.temps (w ∷ []) in omega (arith, same, long))
      | inr before ↦ (let below = there.0 k before in let long = length-append s.flow.temps (w ∷ []) in omega (arith, below, long))
    ],
    there.1,
  );
}
taken_by w s there (Some j) e =
    let free = free_apart 0 s.flow.temps w s.taken j e in
    let below = free.1 in
    record {
      fresh = free.0;
      taken = inl refl;
      kept = λ k one. inr one;
      there = (λ k one. elim one [ inl same ↦ omega (arith, same, below) | inr before ↦ there.0 k before ], there.1);
    }

pub temp_taken : (w : Width) (s : HoistState) → AreThere s → IsTaken s (with_temp w s) (number_or_next (free_temp w s) s)
temp_taken w s there = taken_by w s there (free_temp w s) refl

-- ---- values that agree

-- the same room, the same first n slots, and the same in these temporaries behind them
pub record Agree (n : ℕ) (ks : List ℕ) (old new : List ℤ) : Type 0 where
  pub room : length new ≡ length old
  pub named : take n old ≡ take n new
  pub temps : (k : ℕ) → IsIn k ks → value_at old (n + k) ≡ value_at new (n + k)

pub agree_same : (n : ℕ) (ks : List ℕ) (values : List ℤ) → Agree n ks values values
agree_same n ks values = record { room = refl; named = refl; temps = λ k one. refl }

pub agree_then : (n : ℕ) (ks : List ℕ) (a b c : List ℤ) → Agree n ks a b → Agree n ks b c → Agree n ks a c
agree_then n ks a b c first second = record { room = second.room ∙ first.room; named = first.named ∙ second.named; temps = λ k one. first.temps k one ∙ second.temps k one }

pub agree_less : (n : ℕ) (ks js : List ℕ) (a b : List ℤ) → ((k : ℕ) → IsIn k js → IsIn k ks) → Agree n ks a b → Agree n js a b
agree_less n ks js a b within agree = record { room = agree.room; named = agree.named; temps = λ k one. agree.temps k (within k one) }

-- a temporary that isn't taken gets another value
pub agree_set : (n : ℕ) (ks : List ℕ) (values : List ℤ) (j : ℕ) (v : ℤ) → (IsIn j ks → ⊥) → Agree n ks values (slice_set values (n + j) v)
agree_set n ks values j v fresh = record {
  room = length-set values (n + j) v;
  named = sym (take_set n values (n + j) v (omega arith));
  temps = λ k one. sym (get_or-set_other values (n + j) (n + k) v (pos 0) (λ same. let e : k ≡ j = omega (arith, same) in fresh (subst (λ (i : ℕ). IsIn i ks) e one)));
}

-- an expression has a value wherever these agree
abbrev pub HasValue : List Slot → ℕ → List ℕ → Expr → List ℤ → ℤ → Type 0
HasValue slots n ks e values v = (new : List ℤ) → Agree n ks values new → demand_of e slots new [] ≡ (Ok v, [])
