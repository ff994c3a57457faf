-- Frames as they are read off hops, two at a time.
use Rattle.std.proofs.Common.{◌≡◌, ℕ, ◌+◌, ◌<◌, ◌≤◌, List, [], ◌∷◌, ◌++◌, None, Some, length, drop, get_or, sym, ap, ◌∙◌, append_assoc, append-nil, arith}
use Rattle.std.specs.Prelude.{slice_get}
use Rattle.std.proofs.lemmas.List.{drop_all, get_or_default}
use Rattle.constraint_sys.proofs.Ordered.{drop_read}
use Rattle.arg_graph.specs.Following.{StackValue}
use Rattle.arg_graph.specs.declared.vertex.Vertex.{Vertex}
use Rattle.arg_chain.specs.declared.hop.Hop.{Hop}
use Rattle.arg_chain.specs.Calls.{frame_for, frames_of}

one_off : (hops : List Hop) (i : ℕ) → i < length hops → drop i hops ≡ get_or hops i (record { edge = 0; to = 0 }) ∷ drop (i + 1) hops
one_off hops i within =
    let h : Hop = get_or hops i (record { edge = 0; to = 0 }) in
    drop_read hops i h within (get_or_default hops i (record { edge = 0; to = 0 }) h within)

module _ (vs : List Vertex) (hops : List Hop) (i : ℕ) (stack all : StackValue) (built : stack ++ frames_of vs (drop i hops) ≡ all) where
  pub frames_step : i + 1 < length hops → (stack ++ frame_for (slice_get vs (get_or hops i (record { edge = 0; to = 0 })).to) (Some (get_or hops (i + 1) (record { edge = 0; to = 0 })).edge)) ++ frames_of vs (drop (i + 2) hops) ≡ all
  frames_step within =
      let h : Hop = get_or hops i (record { edge = 0; to = 0 }) in
      let s : Hop = get_or hops (i + 1) (record { edge = 0; to = 0 }) in
      let next : i + 1 + 1 ≡ i + 2 = omega arith in
      let two : drop i hops ≡ h ∷ s ∷ drop (i + 2) hops = one_off hops i (omega arith) ∙ ap (λ (l : List Hop). h ∷ l) (one_off hops (i + 1) within) ∙ ap (λ (n : ℕ). h ∷ s ∷ drop n hops) next in
      append_assoc stack (frame_for (slice_get vs h.to) (Some s.edge)) (frames_of vs (drop (i + 2) hops)) ∙ ap (λ (l : List Hop). stack ++ frames_of vs l) (sym two) ∙ built

  pub frames_end : i < length hops → length hops ≤ i + 1 → stack ++ frame_for (slice_get vs (get_or hops i (record { edge = 0; to = 0 })).to) None ≡ all
  frames_end within past =
      let h : Hop = get_or hops i (record { edge = 0; to = 0 }) in
      let one : drop i hops ≡ h ∷ [] = one_off hops i within ∙ ap (λ (l : List Hop). h ∷ l) (drop_all (i + 1) hops past) in
      ap (λ (l : List Hop). stack ++ frames_of vs l) (sym one) ∙ built

  pub frames_none : length hops ≤ i → stack ≡ all
  frames_none past = sym (append-nil stack) ∙ ap (λ (l : List Hop). stack ++ frames_of vs l) (sym (drop_all i hops past)) ∙ built
