-- A thread that does silent edges while it can comes to a node where none is left.
use Rattle.std.proofs.Common.{◌≡◌, refl, ap, ℕ, zero, suc, ◌+◌, ◌<◌, ◌≤◌, Bool, true, false, List, [], ◌∷◌, length, Option, None, Some, arith}
use Rattle.std.specs.Prelude.{if◌then◌else◌, nat_eq, nat_le, ◌&&◌, ℤ}
use Rattle.std.specs.Option.{option_map_or}
use Rattle.gob_tree.specs.declared.unit.Slot.{Slot}
use Rattle.c_meaning.specs.Graph.{MarkedEdge, flow_of, graph_slots}
use Rattle.c_meaning.specs.GraphStep.{local_slots}
use Rattle.c_meaning.specs.Walk.{Moment, moment_after, silent_slots, silent_from, first_or, settled_or, settled_within}
use Rattle.c_meaning.specs.Laws.{SilentEdgesRunOut}
use Rattle.c_meaning.proofs.Growth.{Rises}
use Rattle.c_meaning.proofs.SilentStmts.{function_ranked}

-- how many edges leave a node of this rank or a higher one
one_if : Bool → ℕ
one_if b = if b then 1 else 0

above : (ℕ → ℕ) → ℕ → List MarkedEdge → ℕ
above rank k [] = 0
above rank k (d ∷ ds) = one_if (nat_le k (rank d.edge.from)) + above rank k ds

one_falls : (k l n : ℕ) → k ≤ l → one_if (nat_le l n) ≤ one_if (nat_le k n)
unfolding one_if
one_falls k l n h = grind arith

one_drops : (k l n : ℕ) → n ≡ k → k < l → one_if (nat_le l n) < one_if (nat_le k n)
unfolding one_if
one_drops k l n e h = grind arith

one_at_most : (b : Bool) → one_if b ≤ 1
unfolding one_if
one_at_most true = omega arith
one_at_most false = omega arith

above_falls : (rank : ℕ → ℕ) (k l : ℕ) (ds : List MarkedEdge) → k ≤ l → above rank l ds ≤ above rank k ds
unfolding above
above_falls rank k l [] h = omega arith
above_falls rank k l (d ∷ ds) h =
    let a = one_falls k l (rank d.edge.from) h in
    let b = above_falls rank k l ds h in
    omega (arith, a, b)

above_at_most : (rank : ℕ → ℕ) (k : ℕ) (ds : List MarkedEdge) → above rank k ds ≤ length ds
unfolding above
above_at_most rank k [] = omega arith
above_at_most rank k (d ∷ ds) =
    let a = one_at_most (nat_le k (rank d.edge.from)) in
    let b = above_at_most rank k ds in
    omega (arith, a, b)

-- a silent edge that can be done leads to a higher rank, above which fewer edges leave
record Climbs (rank : ℕ → ℕ) (ds : List MarkedEdge) (m next : Moment) : Type 0 where
  higher : rank m.node < rank next.node
  fewer : above rank (rank next.node) ds < above rank (rank m.node) ds

-- an edge that is done leaves the node silently
done_is_silent : (slots : List Slot) (silent here : Bool) (act : Option (List ℤ)) (values : List ℤ) → (if silent && here then act else None) ≡ Some values → (silent ≡ true) × (here ≡ true)
done_is_silent slots true true act values e = (refl, refl)
done_is_silent slots true false act values e = cc
done_is_silent slots false here act values e = cc

from_test : (a b : ℕ) → nat_eq a b ≡ true → a ≡ b
from_test a b e = grind arith

end_node : (i e : ℕ) (m next : Moment) → ◌≡◌ {A = Option (ℕ × Moment)} (Some (i, m)) (Some (e, next)) → m.node ≡ next.node
end_node i e m next z = ap (λ (o : Option (ℕ × Moment)). option_map_or (λ p. p.1.node) o 0) z

climbs : (rank : ℕ → ℕ) (slots : List Slot) (ds : List MarkedEdge) (i : ℕ) (m : Moment) (e : ℕ) (next : Moment) → Rises rank ds → silent_from slots ds i m ≡ Some (e, next) → Climbs rank ds m next
unfolding above
climbs rank slots [] i m e next r q = cc
climbs rank slots (d ∷ ds) i m e next r q = go (silent_slots slots d m) refl (λ z. climbs rank slots ds (i + 1) m e next r.1 z) q
  where
    go : (o : Option (List ℤ)) → silent_slots slots d m ≡ o → (silent_from slots ds (i + 1) m ≡ Some (e, next) → Climbs rank ds m next) → first_or d i (silent_from slots ds (i + 1) m) o ≡ Some (e, next) → Climbs rank (d ∷ ds) m next
    go None p later z =
        let c = later z in
        let h = c.higher in
        let f = c.fewer in
        let a = one_falls (rank m.node) (rank next.node) (rank d.edge.from) (omega (arith, h)) in
        record { higher = h; fewer = omega (arith, a, f) }
    go (Some values) p later z =
        let t = done_is_silent slots d.silent (nat_eq d.edge.from m.node) (local_slots slots d.edge.act m.slots) values p in
        let here : d.edge.from ≡ m.node = from_test d.edge.from m.node t.1 in
        let there : d.edge.to ≡ next.node = end_node i e (moment_after d.edge values) next z in
        let up : rank d.edge.from < rank d.edge.to = r.0 t.0 in
        let same : rank d.edge.from ≡ rank m.node = ap rank here in
        let same' : rank d.edge.to ≡ rank next.node = ap rank there in
        let h : rank m.node < rank next.node = omega (arith, up, same, same') in
        let a = one_drops (rank m.node) (rank next.node) (rank d.edge.from) same h in
        let b = above_falls rank (rank m.node) (rank next.node) ds (omega (arith, h)) in
        record { higher = h; fewer = omega (arith, a, b) }

runs_out : (rank : ℕ → ℕ) (slots : List Slot) (ds : List MarkedEdge) → Rises rank ds → (k : ℕ) (m : Moment) → above rank (rank m.node) ds ≤ k → silent_from slots ds 0 (settled_within k slots ds m).1 ≡ None
runs_out rank slots ds r zero m h = go (silent_from slots ds 0 m) refl
  where
    go : (o : Option (ℕ × Moment)) → silent_from slots ds 0 m ≡ o → o ≡ None
    go None p = refl
    go (Some next) p = let f = (climbs rank slots ds 0 m next.0 next.1 r p).fewer in absurd (omega (arith, f, h))
runs_out rank slots ds r (suc k) m h = go (silent_from slots ds 0 m) refl (λ next. runs_out rank slots ds r k next)
  where
    go : (o : Option (ℕ × Moment)) → silent_from slots ds 0 m ≡ o → ((next : Moment) → above rank (rank next.node) ds ≤ k → silent_from slots ds 0 (settled_within k slots ds next).1 ≡ None) → silent_from slots ds 0 (settled_or m (settled_within k slots ds) o).1 ≡ None
    go None p later = p
    go (Some next) p later = let f = (climbs rank slots ds 0 m next.0 next.1 r p).fewer in later next.1 (omega (arith, f, h))

pub silent_edges_run_out : SilentEdgesRunOut
silent_edges_run_out f m =
    let r = function_ranked f in
    let ds = (flow_of f).edges in
    runs_out r.rank (graph_slots f) ds r.rises (length ds) m (above_at_most r.rank (r.rank m.node) ds)
