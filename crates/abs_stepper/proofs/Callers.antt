-- The last frame but one, and the last, by their places.
use Rattle.std.proofs.Common.{◌≡◌, ◌<◌, ◌≤◌, ◌-◌, ℕ, suc, [], ◌∷◌, None, Some, length, take, get_or, refl, sym, ap, subst, ◌∙◌, arith}
use Rattle.arg_graph.specs.Following.{StackValue, top_of}
use Rattle.arg_graph.specs.declared.stack.Frame.{Frame}
use Rattle.arg_graph.proofs.Tops.{split_last, top_of-last}
use Rattle.abs_stepper.specs.Stepping.{caller_of}

pub no_caller : (xs : StackValue) → length xs < 2 → caller_of xs ≡ None
no_caller [] short = refl
no_caller (x ∷ []) short = refl
no_caller (x ∷ y ∷ rest) short = absurd (omega arith)

pub caller_at : (xs : StackValue) (x : Frame) → 2 ≤ length xs → x ≡ get_or xs (length xs - 2) x → caller_of xs ≡ Some x
caller_at [] x long is = absurd (omega arith)
caller_at (a ∷ []) x long is = absurd (omega arith)
caller_at (a ∷ b ∷ []) x long is = ap Some (sym is)
caller_at (a ∷ b ∷ c ∷ rest) x long is =
    let place : length (a ∷ b ∷ c ∷ rest) - 2 ≡ suc (length (b ∷ c ∷ rest) - 2) = omega arith in
    caller_at (b ∷ c ∷ rest) x (omega arith) (subst (λ (n : ℕ). x ≡ get_or (a ∷ b ∷ c ∷ rest) n x) place is)

pub top_at_last : (xs : StackValue) (x : Frame) → 1 ≤ length xs → x ≡ get_or xs (length xs - 1) x → top_of xs ≡ Some x.vertex
top_at_last xs x some is = ap top_of (sym (split_last xs x some is)) ∙ top_of-last (take (length xs - 1) xs) x
