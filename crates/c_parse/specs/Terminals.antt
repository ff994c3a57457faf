-- The tokens of a text as the grammar sees them.
use Rattle.std.specs.Prelude.{ℕ, ◌-◌, ◌==◌, ℤ, pos, int_lt, Bool, ◌||◌, if◌then◌else◌, List, [], ◌∷◌, map, length, codes, slice_range, slice_index, Option, Some, None}
use Rattle.std.specs.List.{list_any}
use Rattle.std.specs.Str.{bytes_eq}
use Rattle.gob_tree.specs.declared.expr.BinOp.TheVariants as ops
use Rattle.gob_tree.specs.declared.expr.Width.{Width}
use Rattle.gob_tree.specs.declared.expr.Width.TheVariants.{W32, W64}
use Rattle.c_lex.specs.declared.token.Token.{Token}
use Rattle.c_lex.specs.declared.token.TokenKind.{TokenKind}
use Rattle.c_lex.specs.declared.token.TokenKind.TheVariants.{Word, Number, Mark}
use Rattle.c_lex.specs.Numbers.{is_suffix}
use Rattle.c_parse.specs.declared.terminal.Kind.{Kind}
use Rattle.c_parse.specs.declared.terminal.Kind.TheVariants as kinds
use Rattle.c_parse.specs.declared.terminal.Terminal.{Terminal}

-- the words that declare and define, those of statements, and those of the libraries
abbrev pub declaring_word : List ℕ → Option Kind
declaring_word w =
    if bytes_eq w (codes "int") then Some kinds.Int else
    if bytes_eq w (codes "long") then Some kinds.Long else
    if bytes_eq w (codes "void") then Some kinds.Void else
    if bytes_eq w (codes "static") then Some kinds.Static else
    if bytes_eq w (codes "extern") then Some kinds.Extern else None

abbrev pub statement_word : List ℕ → Option Kind
statement_word w =
    if bytes_eq w (codes "if") then Some kinds.If else
    if bytes_eq w (codes "else") then Some kinds.Else else
    if bytes_eq w (codes "while") then Some kinds.While else
    if bytes_eq w (codes "do") then Some kinds.Do else
    if bytes_eq w (codes "for") then Some kinds.For else
    if bytes_eq w (codes "break") then Some kinds.Break else
    if bytes_eq w (codes "continue") then Some kinds.Continue else
    if bytes_eq w (codes "return") then Some kinds.Return else None

abbrev pub library_word : List ℕ → Option Kind
library_word w =
    if bytes_eq w (codes "NULL") then Some kinds.Null else
    if bytes_eq w (codes "assert") then Some kinds.Assert else
    if bytes_eq w (codes "pthread_t") then Some kinds.Thread else
    if bytes_eq w (codes "pthread_mutex_t") then Some kinds.Mutex else
    if bytes_eq w (codes "PTHREAD_MUTEX_INITIALIZER") then Some kinds.Initializer else
    if bytes_eq w (codes "pthread_create") then Some kinds.Create else
    if bytes_eq w (codes "pthread_join") then Some kinds.Join else
    if bytes_eq w (codes "pthread_mutex_lock") then Some kinds.Lock else
    if bytes_eq w (codes "pthread_mutex_unlock") then Some kinds.Unlock else None

-- the other keywords of C17 (6.4.1)
abbrev pub other_keywords : List (List ℕ)
other_keywords =
    codes "auto" ∷ codes "case" ∷ codes "char" ∷ codes "const" ∷ codes "default" ∷ codes "double"
    ∷ codes "enum" ∷ codes "float" ∷ codes "goto" ∷ codes "inline" ∷ codes "register" ∷ codes "restrict"
    ∷ codes "short" ∷ codes "signed" ∷ codes "sizeof" ∷ codes "struct" ∷ codes "switch" ∷ codes "typedef"
    ∷ codes "union" ∷ codes "unsigned" ∷ codes "volatile" ∷ codes "_Alignas" ∷ codes "_Alignof"
    ∷ codes "_Atomic" ∷ codes "_Bool" ∷ codes "_Complex" ∷ codes "_Generic" ∷ codes "_Imaginary"
    ∷ codes "_Noreturn" ∷ codes "_Static_assert" ∷ codes "_Thread_local" ∷ []

abbrev pub is_one_of : List (List ℕ) → List ℕ → Bool
is_one_of words w = list_any (λ x. bytes_eq x w) words

abbrev pub or_else : Option Kind → Option Kind → Option Kind
or_else (Some k) o = Some k
or_else None o = o

-- the word of the profile that it is, if it is one
abbrev pub profile_word : List ℕ → Option Kind
profile_word w = or_else (declaring_word w) (or_else (statement_word w) (library_word w))

-- the word of the profile or the other keyword that it is, if it is one
abbrev pub fixed_word : List ℕ → Option Kind
fixed_word w = or_else (profile_word w) (if is_one_of other_keywords w then Some kinds.Keyword else None)

abbrev pub word_or_name : Option Kind → List ℕ → Kind
word_or_name (Some k) w = k
word_or_name None w = if is_one_of other_keywords w then kinds.Keyword else kinds.Name w

abbrev pub word_kind : List ℕ → Kind
word_kind w = word_or_name (profile_word w) w

-- the kind of a mark of one byte, and of one of two bytes
abbrev pub short_mark : ℕ → Kind
short_mark b =
    if b == 43 then kinds.Plus else
    if b == 45 then kinds.Minus else
    if b == 42 then kinds.Star else
    if b == 47 then kinds.Operator ops.Div else
    if b == 37 then kinds.Operator ops.Rem else
    if b == 60 then kinds.Operator ops.Lt else
    if b == 62 then kinds.Operator ops.Gt else
    if b == 61 then kinds.Equals else
    if b == 33 then kinds.Not else
    if b == 38 then kinds.Ampersand else
    if b == 40 then kinds.OpenParen else
    if b == 41 then kinds.CloseParen else
    if b == 123 then kinds.OpenBrace else
    if b == 125 then kinds.CloseBrace else
    if b == 44 then kinds.Comma else kinds.Semicolon

abbrev pub long_mark : ℕ → ℕ → Kind
long_mark b c =
    if b == 38 then kinds.Operator ops.And else
    if b == 124 then kinds.Operator ops.Or else
    if b == 60 then kinds.Operator ops.Le else
    if b == 62 then kinds.Operator ops.Ge else
    if b == 33 then kinds.Operator ops.Ne else
    if b == 61 then kinds.Operator ops.Eq else
    if b == 42 then kinds.Update ops.Mul else
    if b == 47 then kinds.Update ops.Div else
    if b == 37 then kinds.Update ops.Rem else
    if b == 43 then (if c == 61 then kinds.Update ops.Add else kinds.Step ops.Add) else
    (if c == 61 then kinds.Update ops.Sub else kinds.Step ops.Sub)

abbrev pub mark_kind : List ℕ → Kind
mark_kind [] = kinds.Semicolon
mark_kind (b ∷ []) = short_mark b
mark_kind (b ∷ c ∷ more) = long_mark b c

-- 64 bits where the number is written with a suffix or is no number of 31 bits
abbrev pub written_width : List ℕ → ℤ → Width
written_width run v = if is_suffix (slice_index run (length run - 1)) || int_lt (pos 2147483647) v then W64 else W32

abbrev pub kind_in : List ℕ → TokenKind → Kind
kind_in run Word = word_kind run
kind_in run (Number v) = kinds.Number v (written_width run v)
kind_in run Mark = mark_kind run

abbrev pub terminal_of : List ℕ → Token → Terminal
terminal_of text t = record { kind = kind_in (slice_range text t.start t.end) t.kind; place = t.place }

abbrev pub terminals_of : List ℕ → List Token → List Terminal
terminals_of text tokens = map (terminal_of text) tokens
