use Rattle.std.proofs.Common.{◌≡◌, ℕ, List, Bool, true, false, Option, None, if◌then◌else◌, refl}
use Rattle.std.specs.Str.{IsUtf8}
use Rattle.std.proofs.lemmas.Str.{is_utf8-from_IsUtf8, IsUtf8-from_is_utf8}
use Rattle.serde_json.specs.Data.{Data}
use Rattle.serde_json.specs.Read.{read}
use Rattle.dap_wire.specs.Requests.{value_of}

-- a content that is UTF-8 is read
pub content_of_utf8 : (bytes : List ℕ) → IsUtf8 bytes → value_of bytes ≡ read bytes
content_of_utf8 bytes h = rw (is_utf8-from_IsUtf8 bytes h)

by_test : (b : Bool) (d : Option Data) → (b ≡ true → d ≡ None) → (if b then d else None) ≡ None
by_test true d h = h refl
by_test false d h = refl

-- what isn't read has no value
pub content_of_none : (bytes : List ℕ) → (IsUtf8 bytes → read bytes ≡ None) → value_of bytes ≡ None
content_of_none bytes h = by_test _ _ (λ e. h (IsUtf8-from_is_utf8 bytes e))
