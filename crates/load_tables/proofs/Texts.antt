-- The texts of the edits, one by one.
use Rattle.std.proofs.Common.{◌≡◌, ◌∙◌, ℕ, zero, suc, ◌+◌, ◌<◌, ◌⊎◌, inl, inr, ⊎_elim, List, [], ◌∷◌, length, get_or, arith, ap, subst, sym, refl, length-append}
use Rattle.std.proofs.Math.ListN.{get_or-append}
use Rattle.std.proofs.Math.Seq.{get_or-append_seam}
use Rattle.gen_load.specs.declared.choice.Choice.{Choice}
use Rattle.gen_load.specs.Drawing.{choices}
use Rattle.gen_load.specs.Generated.{after_edits, edit_texts, text_of}
use Rattle.load_tables.specs.Tables.{text_at}

before_or_last : (i n : ℕ) → i < suc n → (i < n) ⊎ (i ≡ n)
before_or_last zero zero lt = inr refl
before_or_last zero (suc n) lt = inl (omega arith)
before_or_last (suc i) zero lt = absurd (omega (arith, lt))
before_or_last (suc i) (suc n) lt = ⊎_elim (λ less. inl (omega (arith, less))) (λ same. inr (ap suc same)) (before_or_last i n (omega (arith, lt)))

module _ (count : ℕ) (made : List Choice) where
  abbrev pub edited_text : ℕ → List ℕ
  edited_text k = text_of count (after_edits count made k)

  pub edit_count : (n : ℕ) → length (edit_texts count made n) ≡ n
  edit_count zero = refl
  edit_count (suc n) =
      let whole : length (edit_texts count made (suc n)) ≡ length (edit_texts count made n) + 1 = length-append (edit_texts count made n) (edited_text (suc n) ∷ []) in
      let before = edit_count n in
      omega (arith, whole, before)

  earlier : (n i : ℕ) (text : List ℕ) → i < n → text ≡ get_or (edit_texts count made (suc n)) i text → text ≡ get_or (edit_texts count made n) i text
  earlier n i text less is =
      let few : i < length (edit_texts count made n) = subst (λ (m : ℕ). i < m) (sym (edit_count n)) less in
      is ∙ get_or-append (edit_texts count made n) (edited_text (suc n) ∷ []) text i few

  last : (n i : ℕ) (text : List ℕ) → i ≡ n → text ≡ get_or (edit_texts count made (suc n)) i text → text ≡ edited_text (suc i)
  last n i text same is =
      let place : length (edit_texts count made n) ≡ i = edit_count n ∙ sym same in
      let read : get_or (edit_texts count made (suc n)) i text ≡ edited_text (suc n) =
      subst (λ (m : ℕ). get_or (edit_texts count made (suc n)) m text ≡ edited_text (suc n)) place (get_or-append_seam (edit_texts count made n) (edited_text (suc n)) [] text) in
      is ∙ read ∙ ap (λ (m : ℕ). edited_text (suc m)) (sym same)

  edit_at : (n i : ℕ) (text : List ℕ) → i < n → text ≡ get_or (edit_texts count made n) i text → text ≡ edited_text (suc i)
  edit_at zero i text lt is = absurd (omega (arith, lt))
  edit_at (suc n) i text lt is = ⊎_elim (λ less. edit_at n i text less (earlier n i text less is)) (λ same. last n i text same is) (before_or_last i n lt)

-- what stands at place i of the eight edits is text i + 1
pub edit_is_text : (number functions i : ℕ) (edits : List (List ℕ)) (text : List ℕ) → edits ≡ edit_texts functions (choices number functions) 8 → i < length edits → text ≡ get_or edits i text → text ≡ text_at number functions (suc i)
edit_is_text number functions i edits text are lt is =
    edit_at functions (choices number functions) 8 i text
    (subst (λ (m : ℕ). i < m) (edit_count functions (choices number functions) 8) (subst (λ (l : List (List ℕ)). i < length l) are lt))
    (subst (λ (l : List (List ℕ)). text ≡ get_or l i text) are is)

pub eight_edits : (number functions : ℕ) (edits : List (List ℕ)) → edits ≡ edit_texts functions (choices number functions) 8 → length edits ≡ 8
eight_edits number functions edits are = subst (λ (l : List (List ℕ)). length l ≡ 8) (sym are) (edit_count functions (choices number functions) 8)
