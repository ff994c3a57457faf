-- A label moves the stack of a thread's frames as the step moves the frames.
use Rattle.std.proofs.Common.{◌≡◌, ◌∙◌, refl, sym, ap, subst, ℕ, Bool, true, nat_eq, List, [], ◌∷◌, ◌++◌, Option, None, Some, arith, append_assoc}
use Rattle.std.specs.Prelude.{if◌then◌else◌, option_and_then}
use Rattle.std.specs.Option.{option_map}
use Rattle.std.proofs.lemmas.Bool.Decides.{nat_tests}
use Rattle.std.proofs.lemmas.Option.{option_and_then_some, same_Some}
use Rattle.gob_tree.specs.declared.graph.Program.{Program}
use Rattle.c_meaning.specs.GraphStep as Graph
use Rattle.constraint_sys.specs.declared.unknown.Key.{Key}
use Rattle.constraint_sys.specs.Table.{TableValue}
use Rattle.arg_graph.specs.declared.stack.Frame.{Frame}
use Rattle.arg_graph.specs.declared.vertex.Label.{Label}
use Rattle.arg_graph.specs.declared.vertex.Label.TheVariants.{Do, Enter}
use Rattle.arg_graph.specs.declared.vertex.Vertex.{Vertex}
use Rattle.arg_graph.specs.Following.{Offers, StackValue, goes_on, left, moved, moved_by_all, rooted, target_of, top_frame, waiting_frame, with_top}
use Rattle.arg_graph.specs.Offered.{offered}
use Rattle.arg_graph.specs.Vertices.{start_in, vertex_at}
use Rattle.run_law.proofs.Going.{Does, Enters, Goes, Returns}
use Rattle.walk_law.specs.Walked.{root_of, stack_of, step_label}
use Rattle.walk_law.proofs.Offering.{done_offered, enter_offered, over_offered}

-- ---- the last frames of a stack

last_becomes : (becomes : Vertex → Option StackValue) (low : StackValue) (x : Frame) (new : StackValue) → becomes x.vertex ≡ Some new → with_top becomes (low ++ x ∷ []) ≡ Some (low ++ new)
last_becomes becomes [] x new e = e
last_becomes becomes (y ∷ []) x new e = ap (option_map (λ (s : StackValue). y ∷ s)) e
last_becomes becomes (y ∷ z ∷ low) x new e = ap (option_map (λ (s : StackValue). y ∷ s)) (last_becomes becomes (z ∷ low) x new e)

two_left : (offers : Offers) (x y : Frame) (to : Vertex) (b : Bool) → b ≡ true → goes_on offers x.vertex x.call ≡ Some to → (if b then option_map rooted (goes_on offers x.vertex x.call) else None) ≡ Some (rooted to)
two_left offers x y to b at e = ap (λ (c : Bool). if c then option_map rooted (goes_on offers x.vertex x.call) else None) at ∙ ap (option_map rooted) e

last_left : (offers : Offers) (low : StackValue) (x y : Frame) (to : Vertex) → nat_eq y.vertex.node 1 ≡ true → goes_on offers x.vertex x.call ≡ Some to → left offers (low ++ x ∷ y ∷ []) ≡ Some (low ++ rooted to)
last_left offers [] x y to at e = two_left offers x y to (nat_eq y.vertex.node 1) at e
last_left offers (z ∷ []) x y to at e = ap (option_map (λ (s : StackValue). z ∷ s)) (last_left offers [] x y to at e)
last_left offers (z ∷ w ∷ []) x y to at e = ap (option_map (λ (s : StackValue). z ∷ s)) (last_left offers (w ∷ []) x y to at e)
last_left offers (z ∷ w ∷ u ∷ low) x y to at e = ap (option_map (λ (s : StackValue). z ∷ s)) (last_left offers (w ∷ u ∷ low) x y to at e)

-- ---- one label

-- the topmost frame waits at no call
abbrev pub TopRests : List Graph.Frame → Type 0
TopRests [] = Unit {0}
TopRests (top ∷ below) = top.waits ≡ None

abbrev Moves : Program → TableValue → List Graph.Frame → List Key → Graph.Label → List Graph.Frame → List Key → Type 0
Moves p t frames keys label mine after = (moved (offered p t) (step_label label) (stack_of frames keys) ≡ Some (stack_of mine after)) × TopRests mine × (root_of mine ≡ root_of frames)

pub same_frame : (f g n m : ℕ) (key : Key) (a b : Option ℕ) → f ≡ g → n ≡ m → a ≡ b → ◌≡◌ {A = Frame} (record { vertex = vertex_at f key n; call = a }) (record { vertex = vertex_at g key m; call = b })
same_frame f g n m key a b func node call = cc

root_same : (top after : Graph.Frame) (below : List Graph.Frame) → after.func ≡ top.func → root_of (after ∷ below) ≡ root_of (top ∷ below)
root_same top after [] func = ap start_in func
root_same top after (caller ∷ below) func = refl

is_exit : (node : ℕ) → node ≡ 1 → nat_eq node 1 ≡ true
is_exit node at = grind (arith, nat_tests)

module _ (p : Program) (t : TableValue) where
  done_moves : (top : Graph.Frame) (below : List Graph.Frame) (key : Key) (keys : List Key) (number : ℕ) (after : Graph.Frame) → top.waits ≡ None → Does p t top key number after → Moves p t (top ∷ below) (key ∷ keys) (Graph.Do number) (after ∷ below) (key ∷ keys)
  done_moves top below key keys number after rests d =
      let low = stack_of below keys in
      let to = vertex_at top.func key d.edge.to in
      let step = ap (option_map rooted) (done_offered p t top.func key top.node number d.edge d.there d.leaves d.no_call d.reached) in
      let last : top_frame to ≡ record { vertex = vertex_at after.func key after.node; call = after.waits } =
      sym (same_frame after.func top.func after.node d.edge.to key after.waits None d.func d.node (d.waits ∙ rests)) in (
        last_becomes (λ v. option_map rooted (target_of (Do number) (offered p t v))) low (record { vertex = vertex_at top.func key top.node; call = top.waits }) (rooted to) step
            ∙ ap (λ (x : Frame). Some (low ++ x ∷ [])) last,
        d.waits ∙ rests,
        root_same top after below d.func,
      )

  enter_moves : (top : Graph.Frame) (below : List Graph.Frame) (key : Key) (keys : List Key) (number : ℕ) (callee : Graph.Frame) (entry : Key) → Enters p t top key number callee entry
      → Moves p t (top ∷ below) (key ∷ keys) (Graph.Enter number) (callee ∷ record top { waits = Some number } ∷ below) (entry ∷ key ∷ keys)
  enter_moves top below key keys number callee entry d =
      let low = stack_of below keys in
      let v = vertex_at top.func key top.node in
      let to = vertex_at callee.func entry 0 in
      let step = ap (option_map (λ (w : Vertex). waiting_frame v number ∷ rooted w))
      (enter_offered p t top.func key top.node number d.edge d.there d.leaves d.destination callee.func d.args entry d.state d.calls d.effects) in
      let last : top_frame to ≡ record { vertex = vertex_at callee.func entry callee.node; call = callee.waits } =
      sym (same_frame callee.func callee.func callee.node 0 entry callee.waits None refl d.node d.waits) in (
        last_becomes (λ w. option_map (λ (u : Vertex). waiting_frame w number ∷ rooted u) (target_of (Enter number) (offered p t w))) low (record { vertex = v; call = top.waits }) (waiting_frame v number ∷ rooted to) step
            ∙ ap (λ (x : Frame). Some (low ++ waiting_frame v number ∷ x ∷ [])) last
            ∙ ap (λ (s : StackValue). Some s) (sym (append_assoc low (waiting_frame v number ∷ []) (record { vertex = vertex_at callee.func entry callee.node; call = callee.waits } ∷ []))),
        d.waits,
        root_same top (record top { waits = Some number }) below refl,
      )

  return_moves : (top caller : Graph.Frame) (below : List Graph.Frame) (key own : Key) (keys : List Key) (back : Graph.Frame) → Returns p t top caller own back
      → Moves p t (top ∷ caller ∷ below) (key ∷ own ∷ keys) Graph.Leave (back ∷ below) (own ∷ keys)
  return_moves top caller below key own keys back d =
      let low = stack_of below keys in
      let v = vertex_at caller.func own caller.node in
      let x : Frame = record { vertex = v; call = caller.waits } in
      let y : Frame = record { vertex = vertex_at top.func key top.node; call = top.waits } in
      let to = vertex_at caller.func own d.edge.to in
      let over = over_offered p t caller.func own caller.node d.number d.edge d.there d.leaves d.destination top.func d.args d.calls d.reached in
      let on : goes_on (offered p t) v caller.waits ≡ Some to = ap (goes_on (offered p t) v) d.waits ∙ over in
      let last : top_frame to ≡ record { vertex = vertex_at back.func own back.node; call = back.waits } =
      sym (same_frame back.func caller.func back.node d.edge.to own back.waits None d.func d.node d.rests) in (
        ap (left (offered p t)) (append_assoc low (x ∷ []) (y ∷ []))
            ∙ last_left (offered p t) low x y to (is_exit top.node d.at_exit) on
            ∙ ap (λ (z : Frame). Some (low ++ z ∷ [])) last,
        d.rests,
        root_same caller back below d.func,
      )

  pub goes_moves : (frames : List Graph.Frame) (keys : List Key) (label : Graph.Label) (mine : List Graph.Frame) (after : List Key) → TopRests frames → Goes p t frames keys label mine after → Moves p t frames keys label mine after
  goes_moves (top ∷ below) (key ∷ keys) (Graph.Do number) mine after rests g =
      subst (λ (fs : List Graph.Frame). Moves p t (top ∷ below) (key ∷ keys) (Graph.Do number) fs after) (sym g.1)
      (subst (Moves p t (top ∷ below) (key ∷ keys) (Graph.Do number) (g.0 ∷ below)) (sym g.2) (done_moves top below key keys number g.0 rests g.3))
  goes_moves (top ∷ below) (key ∷ keys) (Graph.Enter number) mine after rests g =
      subst (λ (fs : List Graph.Frame). Moves p t (top ∷ below) (key ∷ keys) (Graph.Enter number) fs after) (sym g.2)
      (subst (Moves p t (top ∷ below) (key ∷ keys) (Graph.Enter number) (g.0 ∷ record top { waits = Some number } ∷ below)) (sym g.3) (enter_moves top below key keys number g.0 g.1 g.4))
  goes_moves (top ∷ caller ∷ below) (key ∷ own ∷ keys) Graph.Leave mine after rests g =
      subst (λ (fs : List Graph.Frame). Moves p t (top ∷ caller ∷ below) (key ∷ own ∷ keys) Graph.Leave fs after) (sym g.1)
      (subst (Moves p t (top ∷ caller ∷ below) (key ∷ own ∷ keys) Graph.Leave (g.0 ∷ below)) (sym g.2) (return_moves top caller below key own keys g.0 g.3))
  goes_moves [] keys (Graph.Do number) mine after rests g = absurd g
  goes_moves [] keys (Graph.Enter number) mine after rests g = absurd g
  goes_moves [] keys Graph.Leave mine after rests g = absurd g
  goes_moves (top ∷ below) [] (Graph.Do number) mine after rests g = absurd g
  goes_moves (top ∷ below) [] (Graph.Enter number) mine after rests g = absurd g
  goes_moves (top ∷ []) [] Graph.Leave mine after rests g = absurd g
  goes_moves (top ∷ []) (key ∷ []) Graph.Leave mine after rests g = absurd g
  goes_moves (top ∷ []) (key ∷ own ∷ keys) Graph.Leave mine after rests g = absurd g
  goes_moves (top ∷ caller ∷ below) [] Graph.Leave mine after rests g = absurd g
  goes_moves (top ∷ caller ∷ below) (key ∷ []) Graph.Leave mine after rests g = absurd g

-- ---- one label more
pub one_more : (offers : Offers) (labels : List Label) (label : Label) (stack mid next : StackValue) → moved_by_all offers labels stack ≡ Some mid → moved offers label mid ≡ Some next → moved_by_all offers (labels ++ label ∷ []) stack ≡ Some next
one_more offers [] label stack mid next q e =
    ap (λ (s : StackValue). option_and_then (moved_by_all offers []) (moved offers label s)) (same_Some stack mid q) ∙ ap (option_and_then (moved_by_all offers [])) e
one_more offers (l ∷ labels) label stack mid next q e =
    option_and_then_some (moved_by_all offers labels) (moved offers l stack) mid q (λ other first rest.
    ap (option_and_then (moved_by_all offers (labels ++ label ∷ []))) first ∙ one_more offers labels label other mid next rest e)
