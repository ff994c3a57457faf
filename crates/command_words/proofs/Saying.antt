-- Which words are given to `clap`, by what the code finds.
use Rattle.std.proofs.Common.{◌≡◌, ◌&&◌, ◌∙◌, Bool, true, false, not, refl, ap, ap₂, codes, IsUtf8}
use Rattle.std.specs.Str.{bytes_eq, is_utf8}
use Rattle.std.proofs.lemmas.Str.{IsUtf8-from_is_utf8, is_utf8-from_IsUtf8}
use Rattle.command_words.specs.Reading.{Word, goes_to_clap, is_right, kind_of}

abbrev pub is_of_right_form : Word → Bool
is_of_right_form w = not (bytes_eq w (codes "--help")) && is_right (kind_of w)

grouped : (a b c : Bool) → ((a && b) && c) ≡ (a && (b && c))
grouped true b c = refl
grouped false b c = refl

goes : (w : Word) → goes_to_clap w ≡ (is_utf8 w && is_of_right_form w)
goes w = grouped (is_utf8 w) (not (bytes_eq w (codes "--help"))) (is_right (kind_of w))

pub said_not : (w : Word) → (IsUtf8 w → ⊥) → goes_to_clap w ≡ false
said_not w never = goes w ∙ ap (λ b. b && is_of_right_form w) (go (is_utf8 w) refl)
  where
    go : (b : Bool) → is_utf8 w ≡ b → b ≡ false
    go false e = refl
    go true e = absurd (never (IsUtf8-from_is_utf8 w e))

pub said_is : (w : Word) → IsUtf8 w → is_of_right_form w ≡ true → goes_to_clap w ≡ true
said_is w text right = goes w ∙ ap₂ (λ a b. a && b) (is_utf8-from_IsUtf8 w text) right

pub said_wrong : (w : Word) → is_of_right_form w ≡ false → goes_to_clap w ≡ false
said_wrong w wrong = goes w ∙ go (is_utf8 w) (is_of_right_form w) wrong
  where
    go : (a b : Bool) → b ≡ false → (a && b) ≡ false
    go true b e = e
    go false b e = refl
