-- Pieces of text written one after another.
use Rattle.std.proofs.Common.{◌≡◌, ℕ, List, ◌++◌, Result, Ok, Err, OnOk, refl, ap, ◌∙◌, append_assoc}

-- three pieces
pub three : {E : Type 0} (r : Result Unit E) (t t1 t2 t3 a b c : List ℕ)
    → t1 ≡ t ++ a → t2 ≡ t1 ++ b → OnOk r (t3 ≡ t2 ++ c) → OnOk r (t3 ≡ t ++ (a ++ b ++ c))
three (Err e) t t1 t2 t3 a b c first second third = tt
three (Ok u) t t1 t2 t3 a b c first second third =
    third ∙ (ap (λ l. l ++ c) (second ∙ (ap (λ l. l ++ b) first ∙ append_assoc t a b)) ∙ append_assoc t (a ++ b) c)

-- four pieces
pub four : {E : Type 0} (r : Result Unit E) (t t1 t2 t3 t4 a b c d : List ℕ)
    → t1 ≡ t ++ a → t2 ≡ t1 ++ b → t3 ≡ t2 ++ c → OnOk r (t4 ≡ t3 ++ d) → OnOk r (t4 ≡ t ++ (a ++ b ++ c ++ d))
four r t t1 t2 t3 t4 a b c d first second third fourth =
    three r t t2 t3 t4 (a ++ b) c d (second ∙ (ap (λ l. l ++ b) first ∙ append_assoc t a b)) third fourth
