-- The numbers of tokens that were cut from a text have no sign and are in the width that they are written in, and
-- their names are words.
use Rattle.std.proofs.Common.{◌≡◌, refl, sym, subst, ℕ, ℤ, pos, ◌<◌, ◌^◌, ◌==◌, int_le, int_lt, Bool, true, false, ◌&&◌, ◌||◌, if◌then◌else◌, List, [], ◌∷◌, Option, None, Some, codes, bytes_eq, slice_range, slice_index, length, ◌-◌, arith}
use Rattle.std.specs.List.{AllByRecursion}
use Rattle.std.specs.Option.{option_map_or}
use Rattle.std.proofs.lemmas.Bool.{and_from, le-leb, ltb-false}
use Rattle.std.proofs.lemmas.List.Elements.{recursion_from_All}
use Rattle.gob_tree.specs.Widths.{fits}
use Rattle.gob_tree.specs.Words.{IsWord}
use Rattle.gob_tree.specs.declared.expr.BinOp.TheVariants as ops
use Rattle.gob_tree.specs.declared.expr.Width.TheVariants.{W32, W64}
use Rattle.c_lex.specs.Pieces.{IsToken, Spells}
use Rattle.c_lex.specs.Tokens.{AreTokens, IsInText}
use Rattle.c_lex.specs.declared.token.Token.{Token}
use Rattle.c_lex.specs.declared.token.TokenKind.{TokenKind}
use Rattle.c_lex.specs.declared.token.TokenKind.TheVariants.{Word, Number, Mark}
use Rattle.c_lex.proofs.Inside.{tokens_inside}
use Rattle.c_lex.specs.Numbers.{is_suffix}
use Rattle.c_parse.specs.declared.terminal.Kind.{Kind}
use Rattle.c_parse.specs.declared.terminal.Kind.TheVariants as kinds
use Rattle.c_parse.specs.Terminals.{declaring_word, statement_word, library_word, profile_word, or_else, is_one_of, other_keywords, word_or_name, word_kind, mark_kind, kind_in, terminals_of}
use Rattle.c_check.specs.Laws.{is_plain}
use Rattle.c_check.specs.Spelled.{is_word}
use Rattle.c_check.proofs.SpelledForms.{IsPlain}

-- ---- words and marks are no numbers

declaring : (b0 b1 b2 b3 b4 : Bool) → option_map_or is_plain (if b0 then Some kinds.Int else if b1 then Some kinds.Long else if b2 then Some kinds.Void else if b3 then Some kinds.Static else if b4 then Some kinds.Extern else None) true ≡ true
declaring true b1 b2 b3 b4 = refl
declaring false true b2 b3 b4 = refl
declaring false false true b3 b4 = refl
declaring false false false true b4 = refl
declaring false false false false true = refl
declaring false false false false false = refl

stating : (b0 b1 b2 b3 b4 b5 b6 b7 : Bool) → option_map_or is_plain (if b0 then Some kinds.If else if b1 then Some kinds.Else else if b2 then Some kinds.While else if b3 then Some kinds.Do else if b4 then Some kinds.For else if b5 then Some kinds.Break else if b6 then Some kinds.Continue else if b7 then Some kinds.Return else None) true ≡ true
stating true b1 b2 b3 b4 b5 b6 b7 = refl
stating false true b2 b3 b4 b5 b6 b7 = refl
stating false false true b3 b4 b5 b6 b7 = refl
stating false false false true b4 b5 b6 b7 = refl
stating false false false false true b5 b6 b7 = refl
stating false false false false false true b6 b7 = refl
stating false false false false false false true b7 = refl
stating false false false false false false false true = refl
stating false false false false false false false false = refl

of_library : (b0 b1 b2 b3 b4 b5 b6 b7 b8 : Bool) → option_map_or is_plain (if b0 then Some kinds.Null else if b1 then Some kinds.Assert else if b2 then Some kinds.Thread else if b3 then Some kinds.Mutex else if b4 then Some kinds.Initializer else if b5 then Some kinds.Create else if b6 then Some kinds.Join else if b7 then Some kinds.Lock else if b8 then Some kinds.Unlock else None) true ≡ true
of_library true b1 b2 b3 b4 b5 b6 b7 b8 = refl
of_library false true b2 b3 b4 b5 b6 b7 b8 = refl
of_library false false true b3 b4 b5 b6 b7 b8 = refl
of_library false false false true b4 b5 b6 b7 b8 = refl
of_library false false false false true b5 b6 b7 b8 = refl
of_library false false false false false true b6 b7 b8 = refl
of_library false false false false false false true b7 b8 = refl
of_library false false false false false false false true b8 = refl
of_library false false false false false false false false true = refl
of_library false false false false false false false false false = refl

short : (b0 b1 b2 b3 b4 b5 b6 b7 b8 b9 b10 b11 b12 b13 b14 : Bool) → is_plain (if b0 then kinds.Plus else if b1 then kinds.Minus else if b2 then kinds.Star else if b3 then kinds.Operator ops.Div else if b4 then kinds.Operator ops.Rem else if b5 then kinds.Operator ops.Lt else if b6 then kinds.Operator ops.Gt else if b7 then kinds.Equals else if b8 then kinds.Not else if b9 then kinds.Ampersand else if b10 then kinds.OpenParen else if b11 then kinds.CloseParen else if b12 then kinds.OpenBrace else if b13 then kinds.CloseBrace else if b14 then kinds.Comma else kinds.Semicolon) ≡ true
short true b1 b2 b3 b4 b5 b6 b7 b8 b9 b10 b11 b12 b13 b14 = refl
short false true b2 b3 b4 b5 b6 b7 b8 b9 b10 b11 b12 b13 b14 = refl
short false false true b3 b4 b5 b6 b7 b8 b9 b10 b11 b12 b13 b14 = refl
short false false false true b4 b5 b6 b7 b8 b9 b10 b11 b12 b13 b14 = refl
short false false false false true b5 b6 b7 b8 b9 b10 b11 b12 b13 b14 = refl
short false false false false false true b6 b7 b8 b9 b10 b11 b12 b13 b14 = refl
short false false false false false false true b7 b8 b9 b10 b11 b12 b13 b14 = refl
short false false false false false false false true b8 b9 b10 b11 b12 b13 b14 = refl
short false false false false false false false false true b9 b10 b11 b12 b13 b14 = refl
short false false false false false false false false false true b10 b11 b12 b13 b14 = refl
short false false false false false false false false false false true b11 b12 b13 b14 = refl
short false false false false false false false false false false false true b12 b13 b14 = refl
short false false false false false false false false false false false false true b13 b14 = refl
short false false false false false false false false false false false false false true b14 = refl
short false false false false false false false false false false false false false false true = refl
short false false false false false false false false false false false false false false false = refl

either : (c : Bool) (k l : Kind) → is_plain k ≡ true → is_plain l ≡ true → is_plain (if c then k else l) ≡ true
either true k l h g = h
either false k l h g = g

long : (b0 b1 b2 b3 b4 b5 b6 b7 b8 b9 c : Bool) → is_plain (if b0 then kinds.Operator ops.And else if b1 then kinds.Operator ops.Or else if b2 then kinds.Operator ops.Le else if b3 then kinds.Operator ops.Ge else if b4 then kinds.Operator ops.Ne else if b5 then kinds.Operator ops.Eq else if b6 then kinds.Update ops.Mul else if b7 then kinds.Update ops.Div else if b8 then kinds.Update ops.Rem else if b9 then (if c then kinds.Update ops.Add else kinds.Step ops.Add) else (if c then kinds.Update ops.Sub else kinds.Step ops.Sub)) ≡ true
long true b1 b2 b3 b4 b5 b6 b7 b8 b9 c = refl
long false true b2 b3 b4 b5 b6 b7 b8 b9 c = refl
long false false true b3 b4 b5 b6 b7 b8 b9 c = refl
long false false false true b4 b5 b6 b7 b8 b9 c = refl
long false false false false true b5 b6 b7 b8 b9 c = refl
long false false false false false true b6 b7 b8 b9 c = refl
long false false false false false false true b7 b8 b9 c = refl
long false false false false false false false true b8 b9 c = refl
long false false false false false false false false true b9 c = refl
long false false false false false false false false false true c = either c (kinds.Update ops.Add) (kinds.Step ops.Add) refl refl
long false false false false false false false false false false c = either c (kinds.Update ops.Sub) (kinds.Step ops.Sub) refl refl

or_else_plain : (o p : Option Kind) → option_map_or is_plain o true ≡ true → option_map_or is_plain p true ≡ true → option_map_or is_plain (or_else o p) true ≡ true
or_else_plain (Some k) p h g = h
or_else_plain None p h g = g

word_or_name_plain : (o : Option Kind) (w : List ℕ) → is_word w ≡ true → option_map_or is_plain o true ≡ true → is_plain (word_or_name o w) ≡ true
word_or_name_plain (Some k) w is h = h
word_or_name_plain None w is h = either (is_one_of other_keywords w) kinds.Keyword (kinds.Name w) refl is

tested : (w : List ℕ) → IsWord w → is_word w ≡ true
tested w is = subst (λ (p : List ℕ). is_word p ≡ true) (sym is.2) (and_from _ _ is.3 is.4)

word_plain : (w : List ℕ) → is_word w ≡ true → is_plain (word_kind w) ≡ true
word_plain w is =
    word_or_name_plain (profile_word w) w is
    (or_else_plain (declaring_word w) (or_else (statement_word w) (library_word w))
    (declaring (bytes_eq w (codes "int")) (bytes_eq w (codes "long")) (bytes_eq w (codes "void")) (bytes_eq w (codes "static")) (bytes_eq w (codes "extern")))
    (or_else_plain (statement_word w) (library_word w)
    (stating (bytes_eq w (codes "if")) (bytes_eq w (codes "else")) (bytes_eq w (codes "while")) (bytes_eq w (codes "do")) (bytes_eq w (codes "for")) (bytes_eq w (codes "break")) (bytes_eq w (codes "continue")) (bytes_eq w (codes "return")))
    (of_library (bytes_eq w (codes "NULL")) (bytes_eq w (codes "assert")) (bytes_eq w (codes "pthread_t")) (bytes_eq w (codes "pthread_mutex_t")) (bytes_eq w (codes "PTHREAD_MUTEX_INITIALIZER")) (bytes_eq w (codes "pthread_create")) (bytes_eq w (codes "pthread_join")) (bytes_eq w (codes "pthread_mutex_lock")) (bytes_eq w (codes "pthread_mutex_unlock")))))

mark_plain : (p : List ℕ) → is_plain (mark_kind p) ≡ true
mark_plain [] = refl
mark_plain (b ∷ []) = short (b == 43) (b == 45) (b == 42) (b == 47) (b == 37) (b == 60) (b == 62) (b == 61) (b == 33) (b == 38) (b == 40) (b == 41) (b == 123) (b == 125) (b == 44)
mark_plain (b ∷ c ∷ more) = long (b == 38) (b == 124) (b == 60) (b == 62) (b == 33) (b == 61) (b == 42) (b == 47) (b == 37) (b == 43) (c == 61)

-- ---- numbers

number_fits : (suffix c : Bool) (n : ℕ) → n < 2 ^ 63 → int_lt (pos 2147483647) (pos n) ≡ c → (int_le (pos 0) (pos n) && fits (if suffix || c then W64 else W32) (pos n)) ≡ true
number_fits true c n h e = and_from _ _ (le-leb 0 n (omega arith)) (le-leb n 9223372036854775807 (omega arith))
number_fits false true n h e = and_from _ _ (le-leb 0 n (omega arith)) (le-leb n 9223372036854775807 (omega arith))
number_fits false false n h e = and_from _ _ (le-leb 0 n (omega arith)) (le-leb n 2147483647 (ltb-false 2147483647 n e))

number_plain : (run : List ℕ) (v : ℤ) → Spells run v → is_plain (kind_in run (Number v)) ≡ true
number_plain run v s =
    subst (λ (z : ℤ). is_plain (kind_in run (Number z)) ≡ true) (sym s.is)
    (number_fits (is_suffix (slice_index run (length run - 1))) (int_lt (pos 2147483647) (pos s.number)) s.number s.fits refl)

kind_plain : (run : List ℕ) (k : TokenKind) → IsToken k run → is_plain (kind_in run k) ≡ true
kind_plain run Word is = word_plain run (tested run is)
kind_plain run (Number v) is = number_plain run v is
kind_plain run Mark is = mark_plain run

each_plain : (text : List ℕ) (tokens : List Token) → AllByRecursion (IsInText text) tokens → IsPlain (terminals_of text tokens)
each_plain text [] all = tt
each_plain text (t ∷ ts) all = (kind_plain (slice_range text t.start t.end) t.kind all.0.kind, each_plain text ts all.1)

pub tokens_plain : (text : List ℕ) (tokens : List Token) → AreTokens text tokens → IsPlain (terminals_of text tokens)
tokens_plain text tokens are = each_plain text tokens (recursion_from_All (IsInText text) tokens (tokens_inside text tokens are))
