-- What is read from the labels of slots, and from a list at a place.
use Rattle.std.proofs.Common.{◌≡◌, ℕ, suc, ◌+◌, ◌<◌, List, [], ◌∷◌, ◌++◌, length, get_or, take, drop, drop-cons, Some, slice_get, refl, sym, append_assoc, ap, ◌∙◌, add-one}
use Rattle.std.proofs.Math.Seq.{take-suc}
use Rattle.std.proofs.lemmas.Option.{get_or_from_slice_get, slice_get_within, slice_get_read}
use Rattle.gob_tree.specs.declared.unit.Slot.{Slot}
use Rattle.gob_tree.specs.Labels.{labels_of, labels_after, label_of, count_of_name}

module _ {X : Type 0} where
  pub drop_at : (xs : List X) (i : ℕ) (x : X) → slice_get xs i ≡ Some x → drop i xs ≡ x ∷ drop (i + 1) xs
  drop_at xs i x is =
      drop-cons xs i x (slice_get_within xs i x is) ∙ ap (λ (z : X). z ∷ drop (suc i) xs) (get_or_from_slice_get xs i x x is) ∙ ap (λ (n : ℕ). x ∷ drop n xs) (sym (add-one i))

  pub take_at : (xs : List X) (i : ℕ) (x : X) → slice_get xs i ≡ Some x → take (i + 1) xs ≡ take i xs ++ x ∷ []
  take_at xs i x is =
      ap (λ (n : ℕ). take n xs) (add-one i) ∙ take-suc xs i x (slice_get_within xs i x is) ∙ ap (λ (z : X). take i xs ++ z ∷ []) (get_or_from_slice_get xs i x x is)

  -- what is added to a list goes from what is left to what is there
  pub grown : (now then piece left rest whole : List X) → then ≡ now ++ piece → left ≡ piece ++ rest → now ++ left ≡ whole → then ++ rest ≡ whole
  grown now then piece left rest whole added begins all =
      ap (λ (l : List X). l ++ rest) added ∙ append_assoc now piece rest ∙ ap (λ (l : List X). now ++ l) (sym begins) ∙ all

-- the labels from a slot on begin with its own
pub labels_after_next : (named : List Slot) (i : ℕ) (slot : Slot) → i < length named → slot ≡ get_or named i slot
    → labels_after (take i named) (drop i named) ≡ label_of slot.name (count_of_name (take i named) slot.name) ∷ labels_after (take (i + 1) named) (drop (i + 1) named)
labels_after_next named i slot within is =
    let at : slice_get named i ≡ Some slot = slice_get_read named (length named) i slot refl within is in
    ap (λ (rest : List Slot). labels_after (take i named) rest) (drop_at named i slot at)
    ∙ ap (λ (before : List Slot). label_of slot.name (count_of_name (take i named) slot.name) ∷ labels_after before (drop (i + 1) named)) (sym (take_at named i slot at))

length-labels_after : (before rest : List Slot) → length (labels_after before rest) ≡ length rest
length-labels_after before [] = refl
length-labels_after before (slot ∷ rest) = ap suc (length-labels_after (before ++ slot ∷ []) rest)

pub length-labels_of : (slots : List Slot) → length (labels_of slots) ≡ length slots
length-labels_of [] = refl
length-labels_of (returned ∷ named) = ap suc (length-labels_after [] named)
