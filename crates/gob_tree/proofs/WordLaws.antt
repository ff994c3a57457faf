-- Words are text, and so are the labels of slots that are named by them.
use Rattle.std.proofs.Common.{ℕ, zero, suc, ◌<◌, ◌+◌, ◌/◌, ◌%◌, List, [], ◌∷◌, ◌++◌, arith, subst, sym, inl, inr}
use Rattle.std.specs.Prelude.{Bool, true, false, IsTrue, IsUtf8, IsAscii, All, codes, decimal, ◌==◌, if◌then◌else◌}
use Rattle.std.specs.Char.{is_ascii_digit}
use Rattle.std.specs.List.{list_all}
use Rattle.std.proofs.lemmas.Bool.{and_parts, or_left}
use Rattle.std.proofs.lemmas.Str.{IsUtf8-from_ascii, IsUtf8-append, IsUtf8-nil}
use Rattle.std.specs.Fmt.{digit_glyph, digits, digits_onto}
use Rattle.std.proofs.lemmas.List.Elements.{All-nil, All-cons, All-head, All-tail}
use Rattle.gob_tree.specs.declared.unit.Slot.{Slot}
use Rattle.gob_tree.specs.Labels.{labels_of, labels_after, label_of, count_of_name}
use Rattle.gob_tree.specs.Words.{is_word_head, is_word_byte, IsWord, IsWordOrEmpty, AreNamedByWords}

-- ---- words

byte_is_ascii : (b : ℕ) → IsTrue (is_word_byte b) → b < 128
byte_is_ascii b w = grind arith

bytes_are_ascii : (bytes : List ℕ) → IsTrue (list_all is_word_byte bytes) → IsAscii bytes
bytes_are_ascii [] all i = omega arith
bytes_are_ascii (b ∷ bs) all zero = byte_is_ascii b (and_parts (is_word_byte b) (list_all is_word_byte bs) all).0
bytes_are_ascii (b ∷ bs) all (suc i) = bytes_are_ascii bs (and_parts (is_word_byte b) (list_all is_word_byte bs) all).1 i

word_is_ascii : (head : ℕ) (tail : List ℕ) → IsTrue (is_word_head head) → IsTrue (list_all is_word_byte tail) → IsAscii (head ∷ tail)
word_is_ascii head tail first rest zero = byte_is_ascii head (or_left (is_word_head head) (is_ascii_digit head) first)
word_is_ascii head tail first rest (suc i) = bytes_are_ascii tail rest i

pub word_is_text : (word : List ℕ) → IsWord word → IsUtf8 word
word_is_text word (head, tail, is, first, rest) =
    subst IsUtf8 (sym is) (IsUtf8-from_ascii (head ∷ tail) (word_is_ascii head tail first rest))

-- ---- numbers

ascii_cons : (b : ℕ) (bs : List ℕ) → b < 128 → IsAscii bs → IsAscii (b ∷ bs)
ascii_cons b bs low rest zero = low
ascii_cons b bs low rest (suc i) = rest i

glyph_is_ascii : (d : ℕ) → d < 10 → digit_glyph false d < 128
glyph_is_ascii d small = grind arith

digits_are_ascii : (k n : ℕ) (acc : List ℕ) → IsAscii acc → IsAscii (digits_onto k 10 false n acc)
digits_are_ascii zero n acc rest = rest
digits_are_ascii (suc k) n acc rest = by (n / 10 == 0)
    (ascii_cons (digit_glyph false (n % 10)) acc (glyph_is_ascii (n % 10) (omega arith)) rest)
    (digits_are_ascii k (n / 10) (digit_glyph false (n % 10) ∷ acc))
  where
    by : (last : Bool) → IsAscii (digit_glyph false (n % 10) ∷ acc)
        → (IsAscii (digit_glyph false (n % 10) ∷ acc) → IsAscii (digits_onto k 10 false (n / 10) (digit_glyph false (n % 10) ∷ acc)))
        → IsAscii (if last then digit_glyph false (n % 10) ∷ acc else digits_onto k 10 false (n / 10) (digit_glyph false (n % 10) ∷ acc))
    by true ascii more = ascii
    by false ascii more = more ascii

decimal_is_ascii : (n : ℕ) → IsAscii (decimal n)
unfolding digits
decimal_is_ascii n = digits_are_ascii 64 n [] (λ i. omega arith)

-- ---- labels

label_is_text : (name : List ℕ) (before : ℕ) → IsUtf8 name → IsUtf8 (label_of name before)
label_is_text [] before text = text
label_is_text (c ∷ cs) zero text = text
label_is_text (c ∷ cs) (suc before) text =
    IsUtf8-append ((c ∷ cs) ++ codes "#") (decimal (before + 2))
    (IsUtf8-append (c ∷ cs) (codes "#") text (IsUtf8-from_ascii (codes "#") (ascii_cons 35 [] (omega arith) (λ i. omega arith))))
    (IsUtf8-from_ascii (decimal (before + 2)) (decimal_is_ascii (before + 2)))

name_is_text : (name : List ℕ) → IsWordOrEmpty name → IsUtf8 name
name_is_text name (inl none) = subst IsUtf8 (sym none) IsUtf8-nil
name_is_text name (inr word) = word_is_text name word

labels_after_are_text : (before rest : List Slot) → AreNamedByWords rest → All IsUtf8 (labels_after before rest)
labels_after_are_text before [] words = All-nil IsUtf8
labels_after_are_text before (slot ∷ rest) words =
    All-cons IsUtf8 (label_of slot.name (count_of_name before slot.name)) (labels_after (before ++ slot ∷ []) rest)
    (label_is_text slot.name (count_of_name before slot.name) (name_is_text slot.name (All-head (λ (s : Slot). IsWordOrEmpty s.name) slot rest words)))
    (labels_after_are_text (before ++ slot ∷ []) rest (All-tail (λ (s : Slot). IsWordOrEmpty s.name) slot rest words))

pub labels_are_text : (slots : List Slot) → AreNamedByWords slots → All IsUtf8 (labels_of slots)
labels_are_text [] words = All-nil IsUtf8
labels_are_text (returned ∷ named) words =
    All-cons IsUtf8 [] (labels_after [] named) IsUtf8-nil (labels_after_are_text [] named (All-tail (λ (s : Slot). IsWordOrEmpty s.name) returned named words))
