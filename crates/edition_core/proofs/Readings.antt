-- What is read from the lists that a table and a program have.
use Rattle.std.proofs.Common.{◌≡◌, ℕ, suc, ◌+◌, List, [], ◌∷◌, ◌++◌, length, drop, Some, slice_get, refl, sym, ap, ◌∙◌, true, true≢false}
use Rattle.gob_tree.specs.declared.unit.Slot.{Slot}
use Rattle.interval_dom.specs.Bounds.{Bounds}
use Rattle.state_dom.specs.StateValue.{StateValue, Bottom, Reached, FitsEach, HasShape, slots_of, is_reached}
use Rattle.gob_tree.proofs.LabelReadings.{drop_at}
use Rattle.edition_core.specs.Printed.{slots_text, slot_text}

-- the text of slots begins with that of the first
pub slots_text_next : (labels : List (List ℕ)) (xs : List Bounds) (i : ℕ) (label : List ℕ) (x : Bounds) → slice_get labels i ≡ Some label → slice_get xs i ≡ Some x
    → slots_text (drop i labels) (drop i xs) ≡ slot_text label x ++ slots_text (drop (i + 1) labels) (drop (i + 1) xs)
slots_text_next labels xs i label x first second =
    ap (λ (l : List (List ℕ)). slots_text l (drop i xs)) (drop_at labels i label first)
    ∙ ap (λ (l : List Bounds). slots_text (label ∷ drop (i + 1) labels) l) (drop_at xs i x second)

pub fits_each_length : (slots : List Slot) (xs : List Bounds) → FitsEach slots xs → length xs ≡ length slots
fits_each_length [] [] fits = refl
fits_each_length [] (x ∷ xs) fits = absurd fits
fits_each_length (slot ∷ slots) [] fits = absurd fits
fits_each_length (slot ∷ slots) (x ∷ xs) fits = ap suc (fits_each_length slots xs fits.1)

-- a state that isn't Bottom has an interval for each slot
pub shape_length : (slots : List Slot) (s : StateValue) → is_reached s ≡ true → HasShape slots s → length (slots_of s) ≡ length slots
shape_length slots (Bottom room) reached shape = absurd (true≢false (sym reached))
shape_length slots (Reached state locks) reached shape = fits_each_length slots state shape
