-- Chains of a small graph, by hand.
use Rattle.std.proofs.Common.{◌≡◌, ◌<◌, ℕ, List, [], ◌∷◌, cond, inl, inr, refl, ap, arith}
use Rattle.std.specs.Ordering.{nat_cmp}
use Rattle.constraint_sys.specs.Table.{empty_key}
use Rattle.arg_graph.specs.Following.{Offers, StackValue, top_frame, waiting_frame}
use Rattle.arg_graph.specs.Graphs.{vertex_cmp, vertex_eq}
use Rattle.arg_graph.specs.Vertices.{start_in, vertex_at}
use Rattle.arg_graph.specs.declared.stack.Frame.{Frame}
use Rattle.arg_graph.specs.declared.vertex.Label.TheVariants.{Do, Enter}
use Rattle.arg_graph.specs.declared.vertex.Step.{Step}
use Rattle.arg_graph.specs.declared.vertex.Vertex.{Vertex}
use Rattle.arg_chain.specs.Chains.{CallsTo, IsUpTo, edges_on, vertices_on}

-- `main` is function 0, and calls function 1 by edge 4 at its node 2
abbrev in_main : Vertex
in_main = vertex_at 0 empty_key 2

abbrev inside : Vertex
inside = vertex_at 1 empty_key 5

abbrev steps : List Step
steps = record { label = Do 3; to = in_main } ∷ record { label = Enter 4; to = start_in 1 } ∷ []

abbrev offers : Offers
offers v = cond (vertex_eq v in_main) steps []

abbrev one_call : StackValue
one_call = waiting_frame in_main 4 ∷ top_frame inside ∷ []

-- a frame may stand anywhere in the function and context that were entered
a_call : CallsTo offers one_call inside
a_call = ((start_in 1, (1, omega arith, refl), (refl, refl)), refl)

alone : CallsTo offers (top_frame inside ∷ []) inside
alone = refl

no_frame : CallsTo offers [] inside → ⊥
no_frame calls = calls

differ : (m n : ℕ) → m ≡ n → n < m → ⊥
differ m n same less = omega arith

-- the last frame is at v itself
elsewhere : CallsTo offers (top_frame inside ∷ []) in_main → ⊥
elsewhere calls = differ 1 0 (ap (λ (x : Frame). x.vertex.func) calls) (omega arith)

-- a frame that has another below it waits at a call
no_call : CallsTo offers (top_frame in_main ∷ top_frame inside ∷ []) inside → ⊥
no_call calls = calls.0

on_the_way : vertices_on one_call ≡ in_main ∷ inside ∷ []
on_the_way = refl

calls_on_the_way : edges_on one_call ≡ 4 ∷ []
calls_on_the_way = refl

less_first : IsUpTo nat_cmp (1 ∷ 9 ∷ []) (2 ∷ 0 ∷ [])
less_first = inl refl

less_later : IsUpTo nat_cmp (1 ∷ 2 ∷ []) (1 ∷ 3 ∷ [])
less_later = inr (refl, inl refl)

equal : IsUpTo nat_cmp (1 ∷ []) (1 ∷ [])
equal = inr (refl, tt)

by_function_first : IsUpTo vertex_cmp (vertex_at 0 empty_key 9 ∷ []) (vertex_at 1 empty_key 0 ∷ [])
by_function_first = inl refl
