-- The values of arguments, and the frame that they fill, one by one.
use Rattle.std.proofs.Common.{◌≡◌, ℕ, zero, suc, ◌+◌, ◌<◌, ◌≤◌, pos, List, [], ◌∷◌, ◌++◌, Option, None, Some, length, take, drop, get_or, add-one, is_some, true≢false, refl, sym, ap, ◌∙◌, arith, append_assoc}
use Rattle.std.specs.Prelude.{replicate, slice_set}
use Rattle.std.specs.Option.{option_map}
use Rattle.std.proofs.lemmas.List.{append-nil, drop_all}
use Rattle.gob_tree.specs.declared.expr.Expr.{Expr}
use Rattle.gob_tree.specs.declared.unit.Slot.{Slot}
use Rattle.interval_dom.specs.Bounds.{Bounds, between}
use Rattle.c_meaning.specs.Demand.{slot_width}
use Rattle.state_dom.specs.Evaluation.{interval_of}
use Rattle.state_dom.specs.Operators.{converted_to}
use Rattle.constraint_sys.specs.Transfer.{filled, frame_of, values_of, with_values}
use Rattle.constraint_sys.proofs.Ordered.{drop_read}

abbrev after : List Bounds → List Bounds → List Bounds
after front rest = front ++ rest

module _ (slots : List Slot) (state : List Bounds) where
  mapped : (front : List Bounds) (v : Bounds) (o : Option (List Bounds)) → option_map (after front) (option_map (λ (rest : List Bounds). v ∷ rest) o) ≡ option_map (after (front ++ v ∷ [])) o
  mapped front v None = refl
  mapped front v (Some rest) = ap Some (sym (append_assoc front (v ∷ []) rest))

  abbrev left : List Expr → ℕ → Option (List Bounds)
  left args i = values_of slots state (drop i args)

  left_is : (args : List Expr) (i : ℕ) (e : Expr) → i < length args → e ≡ get_or args i e → left args i ≡ with_values (interval_of slots state e) (left args (i + 1))
  left_is args i e within is = ap (values_of slots state) (drop_read args i e within is)

  pub values_step : (args : List Expr) (i : ℕ) (e : Expr) (v : Bounds) (front : List Bounds) → i < length args → e ≡ get_or args i e → interval_of slots state e ≡ Some v
      → option_map (after front) (left args i) ≡ values_of slots state args → option_map (after (front ++ v ∷ [])) (left args (i + 1)) ≡ values_of slots state args
  values_step args i e v front within is value so_far =
      sym (mapped front v (left args (i + 1)))
      ∙ ap (λ (o : Option Bounds). option_map (after front) (with_values o (left args (i + 1)))) (sym value)
      ∙ ap (option_map (after front)) (sym (left_is args i e within is)) ∙ so_far

  pub values_none : (args : List Expr) (i : ℕ) (e : Expr) (front : List Bounds) → i < length args → e ≡ get_or args i e → interval_of slots state e ≡ None
      → option_map (after front) (left args i) ≡ values_of slots state args → None ≡ values_of slots state args
  values_none args i e front within is value so_far =
      ap (λ (o : Option Bounds). option_map (after front) (with_values o (left args (i + 1)))) (sym value)
      ∙ ap (option_map (after front)) (sym (left_is args i e within is)) ∙ so_far

  pub values_end : (args : List Expr) (i : ℕ) (front : List Bounds) → length args ≤ i → option_map (after front) (left args i) ≡ values_of slots state args → Some front ≡ values_of slots state args
  values_end args i front past so_far =
      ap Some (sym (append-nil front)) ∙ ap (λ (es : List Expr). option_map (after front) (values_of slots state es)) (sym (drop_all i args past)) ∙ so_far

-- ---- frames
zeros : (slots : List Slot) → filled slots [] ≡ replicate (length slots) (between (pos 0) (pos 0))
zeros [] = refl
zeros (slot ∷ slots) = ap (λ (l : List Bounds). between (pos 0) (pos 0) ∷ l) (zeros slots)

pub frame_start : (slots : List Slot) → frame_of slots [] ≡ replicate (length slots) (between (pos 0) (pos 0))
frame_start [] = refl
frame_start (slot ∷ slots) = ap (λ (l : List Bounds). between (pos 0) (pos 0) ∷ l) (zeros slots)

filled_step : (slots : List Slot) (vs : List Bounds) (i : ℕ) (v : Bounds) → i < length vs → v ≡ get_or vs i v → slice_set (filled slots (take i vs)) i (converted_to (slot_width slots i) v) ≡ filled slots (take (suc i) vs)
filled_step slots [] i v within is = absurd (omega arith)
filled_step [] (w ∷ vs) zero v within is = refl
filled_step [] (w ∷ vs) (suc i) v within is = refl
filled_step (slot ∷ slots) (w ∷ vs) zero v within is = ap (λ (x : Bounds). converted_to slot.width x ∷ filled slots []) is
filled_step (slot ∷ slots) (w ∷ vs) (suc i) v within is = ap (λ (l : List Bounds). converted_to slot.width w ∷ l) (filled_step slots vs i v (omega arith) is)

frame_next : (slots : List Slot) (vs : List Bounds) (i : ℕ) (v : Bounds) → i < length vs → v ≡ get_or vs i v → slice_set (frame_of slots (take i vs)) (suc i) (converted_to (slot_width slots (suc i)) v) ≡ frame_of slots (take (suc i) vs)
frame_next [] vs i v within is = refl
frame_next (slot ∷ slots) vs i v within is = ap (λ (l : List Bounds). between (pos 0) (pos 0) ∷ l) (filled_step slots vs i v within is)

pub frame_step : (slots : List Slot) (vs : List Bounds) (i : ℕ) (v : Bounds) → i < length vs → v ≡ get_or vs i v → slice_set (frame_of slots (take i vs)) (i + 1) (converted_to (slot_width slots (i + 1)) v) ≡ frame_of slots (take (i + 1) vs)
frame_step slots vs i v within is =
    let n : i + 1 ≡ suc i = add-one i in
    ap (λ (m : ℕ). slice_set (frame_of slots (take i vs)) m (converted_to (slot_width slots m) v)) n ∙ frame_next slots vs i v within is ∙ ap (λ (m : ℕ). frame_of slots (take m vs)) (sym n)

length-filled : (slots : List Slot) (vs : List Bounds) → length (filled slots vs) ≡ length slots
length-filled [] vs = refl
length-filled (slot ∷ slots) [] = ap suc (length-filled slots [])
length-filled (slot ∷ slots) (v ∷ vs) = ap suc (length-filled slots vs)

pub length-frame : (slots : List Slot) (vs : List Bounds) → length (frame_of slots vs) ≡ length slots
length-frame [] vs = refl
length-frame (slot ∷ slots) vs = ap suc (length-filled slots vs)

-- ---- as many values as arguments
counted : (v : Option Bounds) (o : Option (List Bounds)) (n : ℕ) (vs : List Bounds) → ((rest : List Bounds) → o ≡ Some rest → length rest ≡ n) → with_values v o ≡ Some vs → length vs ≡ suc n
counted None o n vs later is = absurd (true≢false (sym (ap is_some is)))
counted (Some v) None n vs later is = absurd (true≢false (sym (ap is_some is)))
counted (Some v) (Some rest) n vs later is = (let same : v ∷ rest ≡ vs = cc is in sym (ap (λ (l : List Bounds). length l) same) ∙ ap suc (later rest refl))

pub length-values : (slots : List Slot) (state : List Bounds) (args : List Expr) (vs : List Bounds) → values_of slots state args ≡ Some vs → length vs ≡ length args
length-values slots state [] vs is = (let same : [] ≡ vs = cc is in sym (ap (λ (l : List Bounds). length l) same))
length-values slots state (e ∷ es) vs is = counted (interval_of slots state e) (values_of slots state es) (length es) vs (λ rest some. length-values slots state es rest some) is
