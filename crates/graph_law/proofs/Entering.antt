-- A new frame stands.
use Rattle.std.proofs.Common.{◌≡◌, refl, sym, ap, ◌∙◌, subst, ⊎_elim, inl, inr, ℕ, zero, suc, ◌+◌, ℤ, pos, Bool, true, false, List, [], ◌∷◌, ◌++◌, length, map, take, Option, None, Some, arith}
use Rattle.std.specs.Prelude.{if◌then◌else◌, ◌&&◌, ◌⊎◌, nat_eq}
use Rattle.std.specs.List.{Contains}
use Rattle.gob_tree.specs.declared.unit.Slot.{Slot}
use Rattle.gob_tree.specs.declared.unit.Function.{Function}
use Rattle.gob_tree.specs.declared.graph.Action.TheVariants.{Guard, Skip}
use Rattle.c_meaning.specs.declared.config.Todo.{Todo}
use Rattle.c_meaning.specs.Demand.{conversion}
use Rattle.c_meaning.specs.Config.{first_values, param_values}
use Rattle.c_meaning.specs.Tree.{statements, unrolling}
use Rattle.c_meaning.specs.Graph.{MarkedEdge, temporary, lowering_of, first_flow, body_route, flow_of, graph_slots}
use Rattle.c_meaning.specs.GraphStep.{local_slots}
use Rattle.c_meaning.specs.Walk.{Moment, Settled, with_edge, settled_or, settled_within, settled_from, silent_from, silent_slots, first_or, moment_after, StandsInFront}
use Rattle.c_meaning.proofs.Settling.{silent_edges_run_out}
use Rattle.graph_law.specs.Leaving.{leaving, IsOneWay}
use Rattle.graph_law.specs.Lying.{Lies, nothing}
use Rattle.graph_law.specs.Laying.{HasEdge}
use Rattle.graph_law.specs.Entering.{entered, NewFramesStand}
use Rattle.graph_law.proofs.Lying.{bodies_lie}
use Rattle.graph_law.proofs.Beginning.{things_begin}
use Rattle.graph_law.proofs.Statements.{one_way_out}
use Rattle.graph_law.proofs.Keeping.{settling_keeps_named}
use Rattle.graph_law.proofs.Extending.{sequence_extends, every_extends}

-- ---- settling from the next node on

stable : (slots : List Slot) (edges : List MarkedEdge) (k : ℕ) (m : Moment) → silent_from slots edges 0 (settled_within k slots edges m).1 ≡ None → settled_within (suc k) slots edges m ≡ settled_within k slots edges m
stable slots edges zero m h = ap (settled_or m (settled_within zero slots edges)) h
stable slots edges (suc k) m h = go (silent_from slots edges 0 m) (λ next q. stable slots edges k next q) h
  where
    go : (o : Option (ℕ × Moment)) → ((next : Moment) → silent_from slots edges 0 (settled_within k slots edges next).1 ≡ None → settled_within (suc k) slots edges next ≡ settled_within k slots edges next)
        → silent_from slots edges 0 (settled_or m (settled_within k slots edges) o).1 ≡ None
        → settled_or m (settled_within (suc k) slots edges) o ≡ settled_or m (settled_within k slots edges) o
    go None rest q = refl
    go (Some x) rest q = ap (with_edge x.0) (rest x.1 q)

goes_on : (slots : List Slot) (edges : List MarkedEdge) (m : Moment) (e : ℕ) (next : Moment) → ((x : Moment) → silent_from slots edges 0 (settled_from slots edges x).1 ≡ None) → silent_from slots edges 0 m ≡ Some (e, next) → settled_from slots edges m ≡ with_edge e (settled_from slots edges next)
goes_on slots [] m e next out q = cc
goes_on slots (d ∷ ds) m e next out q =
    let first : settled_from slots (d ∷ ds) m ≡ with_edge e (settled_within (length ds) slots (d ∷ ds) next) = ap (settled_or m (settled_within (length ds) slots (d ∷ ds))) q in
    let ends : silent_from slots (d ∷ ds) 0 (settled_within (length ds) slots (d ∷ ds) next).1 ≡ None = subst (λ (s : Settled). silent_from slots (d ∷ ds) 0 s.1 ≡ None) first (out m) in
    first ∙ ap (with_edge e) (sym (stable slots (d ∷ ds) (length ds) next ends))

settles_on : (f : Function) (m : Moment) (e : ℕ) (next : Moment) → silent_from (graph_slots f) (flow_of f).edges 0 m ≡ Some (e, next) → (settled_from (graph_slots f) (flow_of f).edges m).1 ≡ (settled_from (graph_slots f) (flow_of f).edges next).1
settles_on f m e next q = ap (λ (s : Settled). s.1) (goes_on (graph_slots f) (flow_of f).edges m e next (silent_edges_run_out f) q)

-- ---- a silent skip that is the only way out

split_there : {A : Type 0} (x : A) (xs : List A) (d : A) → Contains (x ∷ xs) d → (x ≡ d) ⊎ Contains xs d
split_there x xs d (zero, h, e) = inl e
split_there x xs d (suc i, h, e) = inr (i, omega (arith, h), e)

none_there : {A : Type 0} (d : A) → Contains (let l : List A = [] in l) d → ⊥
none_there d (i, h, e) = absurd (omega (arith, h))

put_front : (x : MarkedEdge) (xs : List MarkedEdge) → Contains (x ∷ xs) x
put_front x xs = (0, omega arith, refl)

put_behind : (y : MarkedEdge) (xs : List MarkedEdge) (x : MarkedEdge) → Contains xs x → Contains (y ∷ xs) x
put_behind y xs x (i, h, e) = (suc i, omega (arith, h), e)

leaves_there : (n : ℕ) (ds : List MarkedEdge) (d : MarkedEdge) → d.edge.from ≡ n → Contains ds d → Contains (leaving n ds) d
leaves_there n [] d h c = absurd (none_there d c)
leaves_there n (x ∷ xs) d h c = go (nat_eq x.edge.from n) refl (split_there x xs d c) (λ k. leaves_there n xs d h k)
  where
    go : (b : Bool) → nat_eq x.edge.from n ≡ b → (x ≡ d) ⊎ Contains xs d → (Contains xs d → Contains (leaving n xs) d) → Contains (if b then x ∷ leaving n xs else leaving n xs) d
    go true q s rest = ⊎_elim (λ e. subst (λ (z : MarkedEdge). Contains (z ∷ leaving n xs) d) (sym e) (put_front d (leaving n xs))) (λ k. put_behind x (leaving n xs) d (rest k)) s
    go false q s rest = ⊎_elim (λ e. let same : x.edge.from ≡ n = ap (λ (z : MarkedEdge). z.edge.from) e ∙ h in absurd (grind (arith, q, same))) (λ k. rest k) s

-- a skip among one way out is all of it
only_skip : (ds : List MarkedEdge) (d : MarkedEdge) → d.edge.act ≡ Skip → IsOneWay ds → Contains ds d → ds ≡ d ∷ []
only_skip [] d s way c = absurd (none_there d c)
only_skip (a ∷ []) d s way c = ⊎_elim (λ e. ap (λ z. z ∷ []) e) (λ k. absurd (none_there d k)) (split_there a [] d c)
only_skip (a ∷ b ∷ []) d s way c =
    ⊎_elim (λ e. let g : a.edge.act ≡ Guard way.1.0 true = way.1.1 in let k : a.edge.act ≡ Skip = ap (λ (z : MarkedEdge). z.edge.act) e ∙ s in cc)
    (λ r. ⊎_elim (λ e. let g : b.edge.act ≡ Guard way.1.0 false = way.1.2 in let k : b.edge.act ≡ Skip = ap (λ (z : MarkedEdge). z.edge.act) e ∙ s in cc) (λ q. absurd (none_there d q)) (split_there b [] d r))
    (split_there a (b ∷ []) d c)
only_skip (a ∷ b ∷ x ∷ ds) d s way c = absurd way

skip_edge : ℕ → ℕ → MarkedEdge
skip_edge n to = record { edge = record { from = n; act = Skip; to = to }; silent = true }

skip_leads : (i n to : ℕ) (v : List ℤ) → ◌≡◌ {A = Option (ℕ × Moment)} (Some (i, moment_after (skip_edge n to).edge v)) (Some (i, record { node = to; slots = v }))
unfolding skip_edge
skip_leads i n to v = refl

same_number : (n : ℕ) → nat_eq n n ≡ true
same_number n = grind arith

-- the slots after a silent skip, and after an edge that leaves elsewhere
skip_slots : (slots : List Slot) (n to : ℕ) (v : List ℤ) → silent_slots slots (skip_edge n to) (record { node = n; slots = v }) ≡ Some v
unfolding skip_edge
skip_slots slots n to v = ap (λ (b : Bool). if b then Some v else None) (same_number n)

elsewhere_slots : (slots : List Slot) (d : MarkedEdge) (m : Moment) → nat_eq d.edge.from m.node ≡ false → silent_slots slots d m ≡ None
elsewhere_slots slots d m q = ap (λ (b : Bool). if d.silent && b then local_slots slots d.edge.act m.slots else None) q ∙ go d.silent (local_slots slots d.edge.act m.slots)
  where
    go : (s : Bool) (o : Option (List ℤ)) → ◌≡◌ {A = Option (List ℤ)} (if s && false then o else None) None
    go true o = refl
    go false o = refl

skips : (slots : List Slot) (ds : List MarkedEdge) (i n to : ℕ) (v : List ℤ) → leaving n ds ≡ skip_edge n to ∷ [] → (e : ℕ) × (silent_from slots ds i (record { node = n; slots = v }) ≡ Some (e, record { node = to; slots = v }))
skips slots [] i n to v h = absurd (cc)
skips slots (d ∷ ds) i n to v h = go (nat_eq d.edge.from n) refl h (λ k. skips slots ds (i + 1) n to v k)
  where
    go : (b : Bool) → nat_eq d.edge.from n ≡ b → (if b then d ∷ leaving n ds else leaving n ds) ≡ skip_edge n to ∷ []
        → (leaving n ds ≡ skip_edge n to ∷ [] → (e : ℕ) × (silent_from slots ds (i + 1) (record { node = n; slots = v }) ≡ Some (e, record { node = to; slots = v })))
        → (e : ℕ) × (first_or d i (silent_from slots ds (i + 1) (record { node = n; slots = v })) (silent_slots slots d (record { node = n; slots = v })) ≡ Some (e, record { node = to; slots = v }))
    go true q z rest =
        let same : d ≡ skip_edge n to = cc in (
          i,
          subst (λ (x : MarkedEdge). first_or x i (silent_from slots ds (i + 1) (record { node = n; slots = v })) (silent_slots slots x (record { node = n; slots = v })) ≡ Some (i, record { node = to; slots = v })) (sym same)
              (at_skip (silent_from slots ds (i + 1) (record { node = n; slots = v }))),
        )
      where
        at_skip : (o : Option (ℕ × Moment)) → first_or (skip_edge n to) i o (silent_slots slots (skip_edge n to) (record { node = n; slots = v })) ≡ Some (i, record { node = to; slots = v })
        at_skip o = ap (first_or (skip_edge n to) i o) (skip_slots slots n to v) ∙ skip_leads i n to v
    go false q z rest =
        let found = rest z in
        (found.0, ap (first_or d i (silent_from slots ds (i + 1) (record { node = n; slots = v }))) (elsewhere_slots slots d (record { node = n; slots = v }) q) ∙ found.1)

-- where a frame of a function settles, from a node with these slots
settled_at : Function → ℕ → List ℤ → Moment
settled_at f n v = (settled_from (graph_slots f) (flow_of f).edges (record { node = n; slots = v })).1

-- where a silent skip leaves a node, a frame there settles as from the skip's end
skips_on : (f : Function) (n to : ℕ) (v : List ℤ) → HasEdge f true n Skip to → settled_at f n v ≡ settled_at f to v
unfolding skip_edge settled_at
skips_on f n to v has =
    let all = only_skip (leaving n (flow_of f).edges) (skip_edge n to) refl (one_way_out f n) (leaves_there n (flow_of f).edges (skip_edge n to) refl has) in
    let step = skips (graph_slots f) (flow_of f).edges 0 n to v all in
    settles_on f (record { node = n; slots = v }) step.0 (record { node = to; slots = v }) step.1

here_or_on : (f : Function) (n h : ℕ) (v : List ℤ) → (h ≡ n) ⊎ HasEdge f true n Skip h → settled_at f n v ≡ settled_at f h v
here_or_on f n h v (inl e) = ap (λ k. settled_at f k v) (sym e)
here_or_on f n h v (inr has) = skips_on f n h v has

-- ---- slots

params_cut : (xs ys : List Slot) (args : List ℤ) → take (length xs) (param_values (xs ++ ys) args) ≡ param_values xs args
params_cut [] ys args = refl
params_cut (x ∷ xs) ys [] = ap (λ (l : List ℤ). pos 0 ∷ l) (params_cut xs ys [])
params_cut (x ∷ xs) ys (n ∷ args) = ap (λ (l : List ℤ). conversion x.width n ∷ l) (params_cut xs ys args)

pub first_cut : (xs ys : List Slot) (args : List ℤ) → take (length xs) (first_values (xs ++ ys) args) ≡ first_values xs args
first_cut [] ys args = refl
first_cut (x ∷ xs) ys args = ap (λ (l : List ℤ). pos 0 ∷ l) (params_cut xs ys args)

params_room : (xs : List Slot) (args : List ℤ) → length (param_values xs args) ≡ length xs
params_room [] args = refl
params_room (x ∷ xs) [] = ap suc (params_room xs [])
params_room (x ∷ xs) (n ∷ args) = ap suc (params_room xs args)

pub first_room : (xs : List Slot) (args : List ℤ) → length (first_values xs args) ≡ length xs
first_room [] args = refl
first_room (x ∷ xs) args = ap suc (params_room xs args)

-- ---- the entry

pub entry_edge : (f : Function) → HasEdge f true 0 Skip 2
entry_edge f =
    let x = sequence_extends (map lowering_of f.body) (every_extends f.body) body_route (first_flow f) in
    subst (λ (l : List MarkedEdge). Contains l (record { edge = record { from = 0; act = Skip; to = 2 }; silent = true })) (sym x.edges) (0, omega arith, refl)

pub lies_nothing : (f : Function) (n : ℕ) → Lies f [] n → n ≡ 1
lies_nothing f _ nothing = refl

along_begin : (f : Function) (args : List ℤ) (h : ℕ) → settled_at f 2 (first_values (graph_slots f) args) ≡ settled_at f h (first_values (graph_slots f) args)
    → settled_at f h (first_values (graph_slots f) args) ≡ entered f args
unfolding settled_at
along_begin f args h e = sym (skips_on f 0 2 (first_values (graph_slots f) args) (entry_edge f) ∙ e)

front_stands : (f : Function) (args : List ℤ) (l : List Todo) → Lies f l 2 → StandsInFront (Some f) l (first_values f.slots args) [] (entered f args).node (entered f args).slots
unfolding settled_at
front_stands f args [] h = let e = lies_nothing f 2 h in absurd (omega (arith, e))
front_stands f args (todo ∷ rest) h =
    let b = things_begin f todo rest 2 h in
    record {
      begin = b.0;
      values = first_values (graph_slots f) args;
      begins = b.2;
      room = first_room (graph_slots f) args;
      same_named = first_cut f.slots (map temporary (flow_of f).temps) args;
      along = ap (λ (m : Moment). Some m) (along_begin f args b.0 (here_or_on f 2 b.0 (first_values (graph_slots f) args) b.1));
    }

pub new_frames_stand : NewFramesStand
new_frames_stand f s ss args same = record {
  front = front_stands f args (unrolling (statements f.body)) (bodies_lie f s ss same);
  named = settling_keeps_named f (record { node = 0; slots = first_values (graph_slots f) args }) ∙ first_cut f.slots (map temporary (flow_of f).temps) args;
}
