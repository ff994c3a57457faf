-- A text is UTF-8.
use Rattle.std.proofs.Common.{ℕ, List}
use Rattle.std.specs.Str.{IsUtf8}
use Rattle.dap_wire.specs.Texts.{IsText}

pub text_utf8 : (bytes : List ℕ) → IsText bytes → IsUtf8 bytes
unfolding IsText
text_utf8 bytes text = text

pub utf8_text : (bytes : List ℕ) → IsUtf8 bytes → IsText bytes
unfolding IsText
utf8_text bytes utf8 = utf8
