-- Breakpoints found so far, and those that the rest gives.
use Rattle.std.proofs.Common.{◌≡◌, List, [], ◌∷◌, ◌++◌, Option, Some, None, option_map, length, refl, append_assoc}
use Rattle.serde_json.specs.declared.value.Value.{Value}
use Rattle.serde_json.specs.View.{items_view}
use Rattle.dap_wire.specs.Breakpoints.{count_of}

pub nothing_before : {A : Type 0} (o : Option (List A)) → option_map (λ (rest : List A). [] ++ rest) o ≡ o
nothing_before None = refl
nothing_before (Some rest) = refl

pub one_more : {A : Type 0} (o : Option (List A)) (list : List A) (b : A) → option_map (λ (rest : List A). list ++ rest) (option_map (λ (bs : List A). b ∷ bs) o) ≡ option_map (λ (rest : List A). (list ++ b ∷ []) ++ rest) o
one_more None list b = refl
one_more (Some rest) list b = simp append_assoc

pub count_of_items : (vs : List Value) → count_of (items_view vs) ≡ length vs
count_of_items [] = refl
count_of_items (v ∷ vs) = rw (count_of_items vs)
