-- Bytes that were written piece by piece.
use Rattle.std.proofs.Common.{◌≡◌, ℕ, ◌+◌, List, ◌++◌, take, drop, Option, Some, None, option_map, refl, sym, ap, ◌∙◌, append_assoc}
use Rattle.std.proofs.Math.Seq.{take-add}

-- what was written grows by the next piece
pub written-next_piece : (written : Option (List ℕ)) (bytes : List ℕ) (sent more : ℕ)
    → option_map (λ before. before ++ take more (drop sent bytes)) (option_map (λ before. before ++ take sent bytes) written)
    ≡ option_map (λ before. before ++ take (sent + more) bytes) written
written-next_piece None bytes sent more = refl
written-next_piece (Some before) bytes sent more =
    ap Some (append_assoc before (take sent bytes) (take more (drop sent bytes)) ∙ ap (λ t. before ++ t) (sym (take-add sent more bytes)))
