-- A move leads to one position.
use Rattle.std.proofs.Common.{◌≡◌, inl, inr, ℕ, ◌+◌, ◌≤◌, List, [], ◌∷◌, Option, None, Some, length, refl, sym, ap, subst, ◌∙◌, arith}
use Rattle.std.specs.Prelude.{IsSome, IsSomeAnd, filter_map}
use Rattle.std.proofs.lemmas.Bool.{cases_eq}
use Rattle.std.proofs.lemmas.Option.{same_Some}
use Rattle.gob_tree.specs.declared.graph.Program.{Program}
use Rattle.arg_graph.specs.Following.{Offers, StackValue, moved}
use Rattle.arg_graph.specs.declared.vertex.Label.{Label}
use Rattle.arg_graph.specs.declared.vertex.Vertex.{Vertex}
use Rattle.abs_stepper.specs.declared.position.Thread.{Thread}
use Rattle.abs_stepper.specs.Laws.{MovesAreOne}
use Rattle.abs_stepper.specs.Positions.{stack_of}
use Rattle.abs_stepper.specs.Statements.{GoesOn, HasEnded, IsUnderWay, first_step, further_step, label_in, top_in}
use Rattle.abs_stepper.specs.Stepping.{IsStepped, moved_along}

-- ---- steps
stepped_from : (offers : Offers) (label : Label) (old new other : List Thread) (o : Option StackValue)
    → IsSomeAnd o (λ stack. IsSome (moved offers label stack) × (new ≡ filter_map (moved_along offers label stack) old))
    → IsSomeAnd o (λ stack. IsSome (moved offers label stack) × (other ≡ filter_map (moved_along offers label stack) old)) → new ≡ other
stepped_from offers label old new other None one two = absurd one
stepped_from offers label old new other (Some stack) one two = one.1 ∙ sym two.1

one_step : (offers : Offers) (label label' : Label) (id : ℕ) (old old' new other : List Thread) → label ≡ label' → old ≡ old' → IsStepped offers label id old new → IsStepped offers label' id old' other → new ≡ other
one_step offers label label' id old old' new other same before one two =
    let here = subst (λ (l : Label). IsStepped offers l id old' new) same (subst (λ (ts : List Thread). IsStepped offers label id ts new) before one) in
    stepped_from offers label' old' new other (stack_of old' id) here.named two.named

-- ---- moves
module _ (p : Program) (offers : Offers) (chosen : StackValue → Option Label) (id : ℕ) (began : Vertex) (old : List Thread) where
  been_somewhere : (been : List Vertex) (last : Label) (new : List Thread) → IsUnderWay p offers chosen id began old been last new → 1 ≤ length been
  been_somewhere been last new (first_step label to takes stepped) = omega arith
  been_somewhere been last new (further_step before last' now v label to way goes stepped) = omega arith

  -- as many steps are the same steps
  one_way : (been been' : List Vertex) (last last' : Label) (new new' : List Thread) → IsUnderWay p offers chosen id began old been last new → IsUnderWay p offers chosen id began old been' last' new'
      → length been ≡ length been' → (been ≡ been') × (last ≡ last') × (new ≡ new')
  one_way been been' last last' new new' (first_step a to takes stepped) (first_step b to' takes' stepped') len =
      let label : a ≡ b = same_Some a b (sym takes ∙ takes') in
      (refl, label, one_step offers a b id old old to to' label refl stepped stepped')
  one_way been been' last last' new new' (first_step a to takes stepped) (further_step w c now v b to' way goes stepped') len =
      absurd (omega (arith, len, been_somewhere w c now way))
  one_way been been' last last' new new' (further_step w c now v a to way goes stepped) (first_step b to' takes' stepped') len =
      absurd (omega (arith, len, been_somewhere w c now way))
  one_way been been' last last' new new' (further_step w c now v a to way goes stepped) (further_step w' c' now' v' b to' way' goes' stepped') len =
      let before = one_way w w' c c' now now' way way' (omega (arith, len)) in
      let vertex : v ≡ v' = same_Some v v' (sym goes.stands ∙ ap (λ (ts : List Thread). top_in ts id) before.2 ∙ goes'.stands) in
      let label : a ≡ b = same_Some a b (sym goes.takes ∙ ap (λ (ts : List Thread). label_in chosen ts id) before.2 ∙ goes'.takes) in
      ((λ i. vertex i ∷ before.0 i), label, one_step offers a b id now now' to to' label before.2 stepped stepped')

  -- no move goes farther than one that has ended
  not_farther : (been : List Vertex) (last : Label) (new : List Thread) → IsUnderWay p offers chosen id began old been last new → HasEnded p chosen id began been last new
      → (been' : List Vertex) (last' : Label) (new' : List Thread) → IsUnderWay p offers chosen id began old been' last' new' → length been' ≤ length been
  not_farther been last new way ended been' last' new' (first_step a to takes stepped) = omega (arith, been_somewhere been last new way)
  not_farther been last new way ended been' last' new' (further_step w c now v a to way' goes stepped) =
      let up_to = not_farther been last new way ended w c now way' in
      elim (cases_eq (length been) (length w)) [
        | inl same ↦
            let is = one_way been w last c new now way way' same in
            let here = subst (λ (ts : List Thread). GoesOn p chosen id began been last ts v a) (sym is.2)
            (subst (λ (l : Label). GoesOn p chosen id began been l now v a) (sym is.1)
            (subst (λ (vs : List Vertex). GoesOn p chosen id began vs c now v a) (sym is.0) goes)) in
            absurd (ended v a here)
        | inr apart ↦ omega (arith, up_to)
      ]

  same_end : (been been' : List Vertex) (last last' : Label) (new new' : List Thread) → IsUnderWay p offers chosen id began old been last new → HasEnded p chosen id began been last new
      → IsUnderWay p offers chosen id began old been' last' new' → HasEnded p chosen id began been' last' new' → new ≡ new'
  same_end been been' last last' new new' one ended other ended' =
      (one_way been been' last last' new new' one other (omega (arith, not_farther been last new one ended been' last' new' other, not_farther been' last' new' other ended' been last new one))).2

moves_from : (p : Program) (offers : Offers) (chosen : StackValue → Option Label) (id : ℕ) (old new other : List Thread) (o : Option Vertex)
    → IsSomeAnd o (λ began. (been : List Vertex) × (last : Label) × IsUnderWay p offers chosen id began old been last new × HasEnded p chosen id began been last new)
    → IsSomeAnd o (λ began. (been : List Vertex) × (last : Label) × IsUnderWay p offers chosen id began old been last other × HasEnded p chosen id began been last other) → new ≡ other
moves_from p offers chosen id old new other None one two = absurd one
moves_from p offers chosen id old new other (Some began) one two = same_end p offers chosen id began old one.0 two.0 one.1 two.1 new other one.2 one.3 two.2 two.3

pub moves_are_one : MovesAreOne
moves_are_one p offers chosen id old new other one two = moves_from p offers chosen id old new other (top_in old id) one two
