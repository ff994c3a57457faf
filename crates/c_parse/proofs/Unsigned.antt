-- No token of a text is a negative number.
use Rattle.std.proofs.Common.{◌≤ℤ◌, pos, subst, sym, ℕ, ℤ, Bool, true, false, ◌==◌, suc, if◌then◌else◌, List, [], ◌∷◌, All, codes, bytes_eq, slice_range, Option, Some, None, arith}
use Rattle.std.proofs.lemmas.Int.{ints}
use Rattle.c_lex.specs.Pieces.{IsToken}
use Rattle.c_lex.specs.Tokens.{IsInText}
use Rattle.c_lex.specs.declared.token.Token.{Token}
use Rattle.c_lex.specs.declared.token.TokenKind.{TokenKind}
use Rattle.c_lex.specs.declared.token.TokenKind.TheVariants.{Word, Number, Mark}
use Rattle.c_parse.specs.declared.terminal.Kind.{Kind}
use Rattle.c_parse.specs.declared.terminal.Kind.TheVariants as kinds
use Rattle.gob_tree.specs.declared.expr.BinOp.TheVariants as ops
use Rattle.c_parse.specs.Unsigned.{IsUnsigned, AreUnsigned}
use Rattle.c_parse.specs.Terminals.{declaring_word, statement_word, library_word, profile_word, or_else, word_or_name, word_kind, is_one_of, other_keywords, mark_kind, kind_in, terminals_of}

-- words and marks are no numbers

abbrev SomeUnsigned : Option Kind → Type 0
SomeUnsigned None = Unit {0}
SomeUnsigned (Some k) = IsUnsigned k

declaring : (b0 b1 b2 b3 b4 : Bool) → SomeUnsigned (if b0 then Some kinds.Int else if b1 then Some kinds.Long else if b2 then Some kinds.Void else if b3 then Some kinds.Static else if b4 then Some kinds.Extern else None)
declaring true b1 b2 b3 b4 = tt
declaring false true b2 b3 b4 = tt
declaring false false true b3 b4 = tt
declaring false false false true b4 = tt
declaring false false false false true = tt
declaring false false false false false = tt

stating : (b0 b1 b2 b3 b4 b5 b6 b7 : Bool) → SomeUnsigned (if b0 then Some kinds.If else if b1 then Some kinds.Else else if b2 then Some kinds.While else if b3 then Some kinds.Do else if b4 then Some kinds.For else if b5 then Some kinds.Break else if b6 then Some kinds.Continue else if b7 then Some kinds.Return else None)
stating true b1 b2 b3 b4 b5 b6 b7 = tt
stating false true b2 b3 b4 b5 b6 b7 = tt
stating false false true b3 b4 b5 b6 b7 = tt
stating false false false true b4 b5 b6 b7 = tt
stating false false false false true b5 b6 b7 = tt
stating false false false false false true b6 b7 = tt
stating false false false false false false true b7 = tt
stating false false false false false false false true = tt
stating false false false false false false false false = tt

of_library : (b0 b1 b2 b3 b4 b5 b6 b7 b8 : Bool) → SomeUnsigned (if b0 then Some kinds.Null else if b1 then Some kinds.Assert else if b2 then Some kinds.Thread else if b3 then Some kinds.Mutex else if b4 then Some kinds.Initializer else if b5 then Some kinds.Create else if b6 then Some kinds.Join else if b7 then Some kinds.Lock else if b8 then Some kinds.Unlock else None)
of_library true b1 b2 b3 b4 b5 b6 b7 b8 = tt
of_library false true b2 b3 b4 b5 b6 b7 b8 = tt
of_library false false true b3 b4 b5 b6 b7 b8 = tt
of_library false false false true b4 b5 b6 b7 b8 = tt
of_library false false false false true b5 b6 b7 b8 = tt
of_library false false false false false true b6 b7 b8 = tt
of_library false false false false false false true b7 b8 = tt
of_library false false false false false false false true b8 = tt
of_library false false false false false false false false true = tt
of_library false false false false false false false false false = tt

short : (b0 b1 b2 b3 b4 b5 b6 b7 b8 b9 b10 b11 b12 b13 b14 : Bool) → IsUnsigned (if b0 then kinds.Plus else if b1 then kinds.Minus else if b2 then kinds.Star else if b3 then kinds.Operator ops.Div else if b4 then kinds.Operator ops.Rem else if b5 then kinds.Operator ops.Lt else if b6 then kinds.Operator ops.Gt else if b7 then kinds.Equals else if b8 then kinds.Not else if b9 then kinds.Ampersand else if b10 then kinds.OpenParen else if b11 then kinds.CloseParen else if b12 then kinds.OpenBrace else if b13 then kinds.CloseBrace else if b14 then kinds.Comma else kinds.Semicolon)
short true b1 b2 b3 b4 b5 b6 b7 b8 b9 b10 b11 b12 b13 b14 = tt
short false true b2 b3 b4 b5 b6 b7 b8 b9 b10 b11 b12 b13 b14 = tt
short false false true b3 b4 b5 b6 b7 b8 b9 b10 b11 b12 b13 b14 = tt
short false false false true b4 b5 b6 b7 b8 b9 b10 b11 b12 b13 b14 = tt
short false false false false true b5 b6 b7 b8 b9 b10 b11 b12 b13 b14 = tt
short false false false false false true b6 b7 b8 b9 b10 b11 b12 b13 b14 = tt
short false false false false false false true b7 b8 b9 b10 b11 b12 b13 b14 = tt
short false false false false false false false true b8 b9 b10 b11 b12 b13 b14 = tt
short false false false false false false false false true b9 b10 b11 b12 b13 b14 = tt
short false false false false false false false false false true b10 b11 b12 b13 b14 = tt
short false false false false false false false false false false true b11 b12 b13 b14 = tt
short false false false false false false false false false false false true b12 b13 b14 = tt
short false false false false false false false false false false false false true b13 b14 = tt
short false false false false false false false false false false false false false true b14 = tt
short false false false false false false false false false false false false false false true = tt
short false false false false false false false false false false false false false false false = tt

either : (c : Bool) (k l : Kind) → IsUnsigned k → IsUnsigned l → IsUnsigned (if c then k else l)
either true k l h g = h
either false k l h g = g

long : (b0 b1 b2 b3 b4 b5 b6 b7 b8 b9 c : Bool) → IsUnsigned (if b0 then kinds.Operator ops.And else if b1 then kinds.Operator ops.Or else if b2 then kinds.Operator ops.Le else if b3 then kinds.Operator ops.Ge else if b4 then kinds.Operator ops.Ne else if b5 then kinds.Operator ops.Eq else if b6 then kinds.Update ops.Mul else if b7 then kinds.Update ops.Div else if b8 then kinds.Update ops.Rem else if b9 then (if c then kinds.Update ops.Add else kinds.Step ops.Add) else (if c then kinds.Update ops.Sub else kinds.Step ops.Sub))
long true b1 b2 b3 b4 b5 b6 b7 b8 b9 c = tt
long false true b2 b3 b4 b5 b6 b7 b8 b9 c = tt
long false false true b3 b4 b5 b6 b7 b8 b9 c = tt
long false false false true b4 b5 b6 b7 b8 b9 c = tt
long false false false false true b5 b6 b7 b8 b9 c = tt
long false false false false false true b6 b7 b8 b9 c = tt
long false false false false false false true b7 b8 b9 c = tt
long false false false false false false false true b8 b9 c = tt
long false false false false false false false false true b9 c = tt
long false false false false false false false false false true c = either c (kinds.Update ops.Add) (kinds.Step ops.Add) tt tt
long false false false false false false false false false false c = either c (kinds.Update ops.Sub) (kinds.Step ops.Sub) tt tt

or_else_unsigned : (o p : Option Kind) → SomeUnsigned o → SomeUnsigned p → SomeUnsigned (or_else o p)
or_else_unsigned (Some k) p h g = h
or_else_unsigned None p h g = g

word_or_name_unsigned : (o : Option Kind) (w : List ℕ) → SomeUnsigned o → IsUnsigned (word_or_name o w)
word_or_name_unsigned (Some k) w h = h
word_or_name_unsigned None w h = either (is_one_of other_keywords w) kinds.Keyword (kinds.Name w) tt tt

word_unsigned : (w : List ℕ) → IsUnsigned (word_kind w)
word_unsigned w =
    word_or_name_unsigned (profile_word w) w
    (or_else_unsigned (declaring_word w) (or_else (statement_word w) (library_word w))
    (declaring (bytes_eq w (codes "int")) (bytes_eq w (codes "long")) (bytes_eq w (codes "void")) (bytes_eq w (codes "static")) (bytes_eq w (codes "extern")))
    (or_else_unsigned (statement_word w) (library_word w)
    (stating (bytes_eq w (codes "if")) (bytes_eq w (codes "else")) (bytes_eq w (codes "while")) (bytes_eq w (codes "do")) (bytes_eq w (codes "for")) (bytes_eq w (codes "break")) (bytes_eq w (codes "continue")) (bytes_eq w (codes "return")))
    (of_library (bytes_eq w (codes "NULL")) (bytes_eq w (codes "assert")) (bytes_eq w (codes "pthread_t")) (bytes_eq w (codes "pthread_mutex_t")) (bytes_eq w (codes "PTHREAD_MUTEX_INITIALIZER")) (bytes_eq w (codes "pthread_create")) (bytes_eq w (codes "pthread_join")) (bytes_eq w (codes "pthread_mutex_lock")) (bytes_eq w (codes "pthread_mutex_unlock")))))

mark_unsigned : (p : List ℕ) → IsUnsigned (mark_kind p)
mark_unsigned [] = tt
mark_unsigned (b ∷ []) = short (b == 43) (b == 45) (b == 42) (b == 47) (b == 37) (b == 60) (b == 62) (b == 61) (b == 33) (b == 38) (b == 40) (b == 41) (b == 123) (b == 125) (b == 44)
mark_unsigned (b ∷ c ∷ more) = long (b == 38) (b == 124) (b == 60) (b == 62) (b == 33) (b == 61) (b == 42) (b == 47) (b == 37) (b == 43) (c == 61)

-- tokens

unsigned : (n : ℕ) → pos 0 ≤ℤ pos n
unsigned n = omega (arith, ints)

kind_is : (run : List ℕ) (k : TokenKind) → IsToken k run → IsUnsigned (kind_in run k)
kind_is run Word h = word_unsigned run
kind_is run (Number v) h = subst (λ (v : ℤ). pos 0 ≤ℤ v) (sym h.is) (unsigned h.number)
kind_is run Mark h = mark_unsigned run

pub texts_are : (text : List ℕ) (tokens : List Token) → All (IsInText text) tokens → AreUnsigned (terminals_of text tokens)
texts_are text [] h = tt
texts_are text (t ∷ ts) h =
    let here : IsInText text t = h 0 t (omega arith) in
    (kind_is (slice_range text t.start t.end) t.kind here.kind, texts_are text ts (λ k d b. h (suc k) d (omega (arith, b))))
