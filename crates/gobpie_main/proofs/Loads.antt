-- What loads say.
use Rattle.std.proofs.Common.{◌≡◌, refl, inr, subst, le_refl, ℕ, ◌+◌, ◌<◌, List, length, replicate, Option, None, Some, arith}
use Rattle.std.specs.Prelude.{IfSome, IsSomeAnd}
use Rattle.std.proofs.lemmas.List.{length-replicate}
use Rattle.gob_outside.specs.Files.{FilesNow, IsLongerThan, IsTextOf}
use Rattle.gobpie_main.specs.Loading.{AsksFor, LoadsText}

-- ---- a file over the limit has a text over the limit, where the files tell none some text

told_longer : (found : Option (List ℕ)) (limit : ℕ) → IsSomeAnd found (λ text. limit < length text) → (text : List ℕ) × (found ≡ Some text) × (limit < length text)
told_longer None limit long = absurd long
told_longer (Some text) limit long = (text, refl, long)

longer : (o : Option (List ℕ → Option (List ℕ))) (name : List ℕ) (limit : ℕ) → IfSome o (λ told. IsSomeAnd (told name) (λ text. limit < length text))
    → (text : List ℕ) × IfSome o (λ told. told name ≡ Some text) × (limit < length text)
longer None name limit long = (replicate (limit + 1) 0, tt, rw (length-replicate {A = ℕ} (limit + 1) 0) (omega arith))
longer (Some told) name limit long = told_longer (told name) limit long

pub longer_loads : (files : FilesNow) (name : List ℕ) (limit : ℕ) → IsLongerThan files name limit → LoadsText files name limit None
longer_loads files name limit long = longer files.contents name limit long

-- ---- one load after another

-- no load at all
pub asks_nothing : (file : List ℕ) (files : FilesNow) → AsksFor file files files
asks_nothing file files = record {
  asked = inr refl;
  others = λ other differs. refl;
  never_fall = λ other. le_refl (files.faults other);
  kept = refl;
}

-- a text that the second load found was there before the first
pub text_before : (before between : FilesNow) (other file : List ℕ) (text : List ℕ) → AsksFor other before between → IsTextOf between file text → IsTextOf before file text
text_before before between other file text first told =
    subst (λ (o : Option (List ℕ → Option (List ℕ))). IfSome o (λ contents. contents file ≡ Some text)) first.kept told
