-- A frame that settles keeps its named slots.
use Rattle.std.proofs.Common.{◌≡◌, refl, sym, ap, ◌∙◌, subst, ℕ, zero, suc, ◌≤◌, ℤ, Bool, true, false, List, [], ◌∷◌, length, take, Option, None, Some, Result, Ok, Err, arith}
use Rattle.std.specs.Prelude.{if◌then◌else◌, not, slice_set}
use Rattle.std.specs.List.{Contains}
use Rattle.std.proofs.lemmas.Option.{slice_get_within, get_or_from_slice_get}
use Rattle.gob_tree.specs.declared.unit.Slot.{Slot}
use Rattle.gob_tree.specs.declared.unit.Function.{Function}
use Rattle.gob_tree.specs.declared.graph.Action.{Action}
use Rattle.gob_tree.specs.declared.graph.Action.TheVariants.{Assign, Read, Write, Nondet, Guard, Assert, Lock, Unlock, Create, Join, Call, Skip}
use Rattle.c_meaning.specs.declared.demand.Demand.{Demand}
use Rattle.c_meaning.specs.Demand.{conversion, slot_width, with_slot, is_zero, value_of}
use Rattle.c_meaning.specs.Graph.{flow_of, graph_slots}
use Rattle.c_meaning.specs.GraphStep.{local_slots, with_value, same_truth}
use Rattle.c_meaning.specs.Walk.{Moment, silent_from, settled_or, settled_within}
use Rattle.graph_law.specs.Quiet.{IsQuiet, SettlingKeepsNamed}
use Rattle.graph_law.proofs.Settling.{Found, found}
use Rattle.graph_law.proofs.Quieting.{silent_edges_are_quiet}

pub take_set : (n : ℕ) (values : List ℤ) (x : ℕ) (v : ℤ) → n ≤ x → take n (slice_set values x v) ≡ take n values
take_set zero values x v h = refl
take_set (suc n) [] x v h = refl
take_set (suc n) (y ∷ values) zero v h = absurd (omega (arith, h))
take_set (suc n) (y ∷ values) (suc x) v h = ap (λ (l : List ℤ). y ∷ l) (take_set n values x v (omega (arith, h)))

-- a quiet action that is done keeps the first slots
quiet_keeps : (n : ℕ) (slots : List Slot) (act : Action) (values after : List ℤ) → IsQuiet n act → local_slots slots act values ≡ Some after → take n after ≡ take n values
quiet_keeps n slots (Assign x e) values after q done = go (value_of e slots values) done
  where
    go : (r : Result ℤ Demand) → with_value r (λ v. Some (with_slot slots x v values)) ≡ Some after → take n after ≡ take n values
    go (Ok v) z = let same : with_slot slots x v values ≡ after = cc in subst (λ (l : List ℤ). take n l ≡ take n values) same (take_set n values x (conversion (slot_width slots x) v) q)
    go (Err missing) z = cc
quiet_keeps n slots (Guard e wanted) values after q done = go (value_of e slots values) done
  where
    go : (r : Result ℤ Demand) → with_value r (λ v. if same_truth wanted (not (is_zero v)) then Some values else None) ≡ Some after → take n after ≡ take n values
    go (Ok v) z = by_truth (same_truth wanted (not (is_zero v))) z
      where
        by_truth : (b : Bool) → ◌≡◌ {A = Option (List ℤ)} (if b then Some values else None) (Some after) → take n after ≡ take n values
        by_truth true z = let same : values ≡ after = cc in ap (take n) (sym same)
        by_truth false z = cc
    go (Err missing) z = cc
quiet_keeps n slots Skip values after q done = let same : values ≡ after = cc in ap (take n) (sym same)
quiet_keeps n slots (Read x g) values after q done = absurd q
quiet_keeps n slots (Write g e) values after q done = absurd q
quiet_keeps n slots (Nondet x) values after q done = absurd q
quiet_keeps n slots (Assert e) values after q done = absurd q
quiet_keeps n slots (Lock x) values after q done = absurd q
quiet_keeps n slots (Unlock x) values after q done = absurd q
quiet_keeps n slots (Create x g) values after q done = absurd q
quiet_keeps n slots (Join x) values after q done = absurd q
quiet_keeps n slots (Call d g args) values after q done = absurd q

one_keeps : (f : Function) (m : Moment) (e : ℕ) (next : Moment) → Found (graph_slots f) (flow_of f).edges m e next → take (length f.slots) next.slots ≡ take (length f.slots) m.slots
one_keeps f m e next x =
    let there : Contains (flow_of f).edges x.edge = (e, slice_get_within (flow_of f).edges e x.edge x.there, get_or_from_slice_get (flow_of f).edges e x.edge x.edge x.there) in
    quiet_keeps (length f.slots) (graph_slots f) x.edge.edge.act m.slots next.slots (silent_edges_are_quiet f x.edge there x.is_silent) x.done

all_keep : (f : Function) (k : ℕ) (m : Moment) → take (length f.slots) (settled_within k (graph_slots f) (flow_of f).edges m).1.slots ≡ take (length f.slots) m.slots
all_keep f zero m = refl
all_keep f (suc k) m = go (silent_from (graph_slots f) (flow_of f).edges 0 m) refl (λ next. all_keep f k next)
  where
    go : (o : Option (ℕ × Moment)) → silent_from (graph_slots f) (flow_of f).edges 0 m ≡ o → ((next : Moment) → take (length f.slots) (settled_within k (graph_slots f) (flow_of f).edges next).1.slots ≡ take (length f.slots) next.slots)
        → take (length f.slots) (settled_or m (settled_within k (graph_slots f) (flow_of f).edges) o).1.slots ≡ take (length f.slots) m.slots
    go None q rest = refl
    go (Some x) q rest = rest x.1 ∙ one_keeps f m x.0 x.1 (found (graph_slots f) [] (flow_of f).edges m 0 x.0 x.1 refl q)

pub settling_keeps_named : SettlingKeepsNamed
settling_keeps_named f m = all_keep f (length (flow_of f).edges) m
