-- The last frame of a chain; and two threads that stand at one node are a position.
use Rattle.std.proofs.Common.{◌≡◌, inl, inr, List, [], ◌∷◌, Option, None, Some, Result, Ok, Err, IfOk, IfSome, IsSomeAnd, refl, sym, subst, ap, arith}
use Rattle.std.specs.List.{IsDistinct}
use Rattle.gob_tree.specs.declared.graph.Program.{Program}
use Rattle.gob_tree.specs.declared.memory.Memory.{Memory}
use Rattle.arg_graph.specs.Following.{Offers, StackValue, top_of}
use Rattle.arg_graph.specs.declared.stack.Frame.{Frame}
use Rattle.arg_graph.specs.declared.vertex.Vertex.{Vertex}
use Rattle.arg_chain.specs.Chains.{CallsTo, IsLeastChain}
use Rattle.constraint_sys.proofs.Ordered.{Contains-cases, Contains-nil}
use Rattle.abs_stepper.specs.declared.position.Thread.{Thread}
use Rattle.abs_stepper.specs.Positions.{IsPosition, StandsAt}

pub chain_top : (offers : Offers) (stack : StackValue) (v : Vertex) → CallsTo offers stack v → top_of stack ≡ Some v
chain_top offers [] v calls = absurd calls
chain_top offers (x ∷ []) v calls = ap (λ (f : Frame). Some f.vertex) calls
chain_top offers (x ∷ y ∷ rest) v calls = chain_top offers (y ∷ rest) v calls.1

pub chains_top : (p : Program) (vs : List Vertex) (offers : Offers) (r : Result (Option StackValue) Memory) (v : Vertex)
    → IfOk r (λ o. IfSome o (λ stack. IsLeastChain p vs offers v stack)) → IfOk r (λ o. IfSome o (λ stack. top_of stack ≡ Some v))
chains_top p vs offers (Ok (Some stack)) v least = chain_top offers stack v least.chain.calls
chains_top p vs offers (Ok None) v least = tt
chains_top p vs offers (Err e) v least = tt

stands : (stack : StackValue) (v w : Vertex) → top_of stack ≡ Some w → w.func ≡ v.func → w.node ≡ v.node → StandsAt v.func v.node stack
stands stack v w top func node = subst (λ (o : Option Vertex). IsSomeAnd o (λ u. (u.func ≡ v.func) × (u.node ≡ v.node))) (sym top) (func, node)

abbrev pub pair_of : StackValue → StackValue → List Thread
pair_of s r = record { id = 1; stack = s } ∷ record { id = 2; stack = r } ∷ []

pub pair_stands : (s r : StackValue) (v w : Vertex) → top_of s ≡ Some v → top_of r ≡ Some w → w.func ≡ v.func → w.node ≡ v.node → IsPosition (pair_of s r)
unfolding IsDistinct
pair_stands s r v w top other func node = record {
  some = omega arith;
  apart = ((refl, tt), (tt, tt));
  together = (
    v.func,
    v.node,
    λ t one. elim (Contains-cases (record { id = 1; stack = s }) t (record { id = 2; stack = r } ∷ []) one) [
      | inl same ↦ subst (λ (x : Thread). StandsAt v.func v.node x.stack) (sym same) (stands s v v top refl refl)
      | inr later ↦ elim (Contains-cases (record { id = 2; stack = r }) t [] later) [
        | inl same ↦ subst (λ (x : Thread). StandsAt v.func v.node x.stack) (sym same) (stands r v w other func node)
        | inr none ↦ absurd (Contains-nil t none)
      ]
    ],
  );
}
