-- Walks over numbers from a context are the chains' calls.
use Rattle.std.proofs.Common.{◌≡◌, ℕ, ◌+◌, List, [], ◌∷◌, ◌++◌, Option, None, Some, length, refl, sym, ap, subst, ◌∙◌, arith}
use Rattle.std.specs.Prelude.{Contains, IsSomeAnd, slice_get}
use Rattle.std.proofs.lemmas.Option.{same_Some, slice_get_read, slice_get_within}
use Rattle.arg_graph.specs.Following.{Offers, StackValue, top_frame, waiting_frame}
use Rattle.arg_graph.specs.declared.stack.Frame.{Frame}
use Rattle.arg_graph.specs.declared.vertex.Label.TheVariants.{Enter}
use Rattle.arg_graph.specs.declared.vertex.Step.{Step}
use Rattle.arg_graph.specs.declared.vertex.Vertex.{Vertex}
use Rattle.arg_chain.specs.declared.hop.Hop.{Hop}
use Rattle.arg_chain.specs.Calls.{IsCallsOf, frame_for, frames_of, hop_by, number_in}
use Rattle.arg_chain.specs.Chains.{CallsTo, Enters}
use Rattle.arg_chain.specs.Walk.{Graph, IsWalk, steps_at}
use Rattle.arg_chain.proofs.Numbering.{same_number}

-- the first frame's vertex
abbrev pub BeginsAt : (Vertex → Type 0) → StackValue → Type 0
BeginsAt P [] = ⊥
BeginsAt P (x ∷ rest) = P x.vertex

-- ---- frames of hops
pub frames_last : (vs : List Vertex) (h : Hop) (w : Vertex) → slice_get vs h.to ≡ Some w → frames_of vs (h ∷ []) ≡ top_frame w ∷ []
frames_last vs h w at = ap (λ (o : Option Vertex). frame_for o None) at

pub frames_more : (vs : List Vertex) (h s : Hop) (rest : List Hop) (w : Vertex) → slice_get vs h.to ≡ Some w → frames_of vs (h ∷ s ∷ rest) ≡ waiting_frame w s.edge ∷ frames_of vs rest
frames_more vs h s rest w at = ap (λ (o : Option Vertex). frame_for o (Some s.edge) ++ frames_of vs rest) at

pub place_of : (vs : List Vertex) (v : Vertex) → Contains vs v → (i : ℕ) × (slice_get vs i ≡ Some v)
place_of vs v one = (one.0, slice_get_read vs (length vs) one.0 v refl one.1 (sym one.2))

module _ (vs : List Vertex) (offers : Offers) (numbers : List (Vertex × ℕ)) (rows : Graph) (it : IsCallsOf vs offers numbers rows) where
  -- what hops from the context k to v stand for
  pub record IsCalled (k : ℕ) (hops : List Hop) (v : Vertex) : Type 0 where
    pub calls : CallsTo offers (frames_of vs hops) v
    pub first : BeginsAt (λ w. number_in numbers w ≡ Some k) (frames_of vs hops)
    pub len : length hops + 1 ≡ length (frames_of vs hops) + length (frames_of vs hops)

  calls_more : (w : Vertex) (edge k : ℕ) (to : Vertex) (stack : StackValue) (v : Vertex) → Contains (offers w) (record { label = Enter edge; to = to }) → number_in numbers to ≡ Some k
      → BeginsAt (λ x. number_in numbers x ≡ Some k) stack → CallsTo offers stack v → CallsTo offers (waiting_frame w edge ∷ stack) v
  calls_more w edge k to [] v one number first calls = absurd first
  calls_more w edge k to (y ∷ rest) v one number first calls = ((to, one, it.apart to y.vertex k number first), calls)

  -- a hop from a context leads to one of its vertices
  pub vertex_at_hop : (k : ℕ) (h : Hop) → Contains (steps_at rows (length vs + k)) h → (w : Vertex) × (slice_get vs h.to ≡ Some w) × (number_in numbers w ≡ Some k)
  vertex_at_hop k h one = (it.members k h one).vertex

  pub no_walk : (k t : ℕ) (v : Vertex) → slice_get vs t ≡ Some v → length vs + k ≡ t → ⊥
  no_walk k t v at same = (let within = slice_get_within vs t v at in omega arith)

  pub walk_calls : (k t : ℕ) (v : Vertex) (hops : List Hop) → slice_get vs t ≡ Some v → IsWalk rows (length vs + k) hops t → IsCalled k hops v
  walk_calls k t v [] at walk = absurd (no_walk k t v at walk)
  walk_calls k t v (h ∷ []) at walk =
      let here = vertex_at_hop k h walk.0 in
      let frames = frames_last vs h here.0 here.1 in
      let same : here.0 ≡ v = same_Some here.0 v (sym here.1 ∙ ap (slice_get vs) walk.1 ∙ at) in
      record {
        calls = subst (λ (l : StackValue). CallsTo offers l v) (sym frames) (ap top_frame same);
        first = subst (λ (l : StackValue). BeginsAt (λ w. number_in numbers w ≡ Some k) l) (sym frames) here.2;
        len = omega (arith, ap (λ (l : StackValue). length l) frames);
      }
  walk_calls k t v (h ∷ s ∷ rest) at walk =
      let here = vertex_at_hop k h walk.0 in
      let frames = frames_more vs h s rest here.0 here.1 in
      let call = (it.calls h.to here.0 s here.1).0 walk.1.0 in
      let later = walk_calls call.2.0 t v rest at (subst (λ (n : ℕ). IsWalk rows n rest t) call.2.2 walk.1.1) in
      record {
        calls = subst (λ (l : StackValue). CallsTo offers l v) (sym frames) (calls_more here.0 s.edge call.2.0 call.0 (frames_of vs rest) v call.1 call.2.1 later.first later.calls);
        first = subst (λ (l : StackValue). BeginsAt (λ w. number_in numbers w ≡ Some k) l) (sym frames) here.2;
        len = omega (arith, later.len, ap (λ (l : StackValue). length l) frames);
      }

  -- ---- and the other way round
  pub record IsWalkOf (t : ℕ) (stack : StackValue) (k : ℕ) (hops : List Hop) : Type 0 where
    pub walk : IsWalk rows (length vs + k) hops t
    pub frames : frames_of vs hops ≡ stack
    pub first : BeginsAt (λ w. number_in numbers w ≡ Some k) stack

  module _ (stands : (w : Vertex) (s : Step) → Contains (offers w) s → Contains vs w) where
    waits : (x : Frame) (y : Vertex) (o : Option ℕ) → x.call ≡ o → IsSomeAnd o (λ edge. Enters offers x.vertex edge y) → (edge : ℕ) × (x ≡ waiting_frame x.vertex edge) × Enters offers x.vertex edge y
    waits x y None is enters = absurd enters
    waits x y (Some edge) is enters = (edge, (λ i. record { vertex = x.vertex; call = is i }), enters)

    pub calls_walk : (t : ℕ) (v : Vertex) (stack : StackValue) → slice_get vs t ≡ Some v → CallsTo offers stack v → (k : ℕ) × (hops : List Hop) × IsWalkOf t stack k hops
    calls_walk t v [] at calls = absurd calls
    calls_walk t v (x ∷ []) at calls =
        let one = it.each t v at in (
          one.0,
          hop_by 0 t ∷ [],
          record {
            walk = (one.2, refl);
            frames = frames_last vs (hop_by 0 t) v at ∙ ap (λ (y : Frame). y ∷ []) (sym calls);
            first = ap (λ (y : Frame). number_in numbers y.vertex) calls ∙ one.1;
          },
        )
    calls_walk t v (x ∷ y ∷ rest) at calls =
        let call = waits x y.vertex x.call refl calls.0 in
        let enters = call.2 in
        let place = place_of vs x.vertex (stands x.vertex (record { label = Enter call.0; to = enters.0 }) enters.1) in
        let one = it.each place.0 x.vertex place.1 in
        let later = calls_walk t v (y ∷ rest) at calls.1 in
        let into = hop_by call.0 (length vs + later.0) in
        let number : number_in numbers enters.0 ≡ Some later.0 = same_number numbers enters.0 y.vertex enters.2 ∙ later.2.first in (
          one.0,
          hop_by 0 place.0 ∷ into ∷ later.1,
          record {
            walk = (one.2, ((it.calls place.0 x.vertex into place.1).1 (enters.0, enters.1, (later.0, number, refl)), later.2.walk));
            frames = frames_more vs (hop_by 0 place.0) into later.1 x.vertex place.1 ∙ ap (λ (l : StackValue). waiting_frame x.vertex call.0 ∷ l) later.2.frames ∙ ap (λ (z : Frame). z ∷ y ∷ rest) (sym call.1);
            first = one.1;
          },
        )
