-- Units: globals, mutexes, prototypes and functions.
use Rattle.std.specs.Prelude.{ℕ, pos, negsuc, List, [], ◌∷◌, Option, Some, None}
use Rattle.gob_tree.specs.declared.expr.Width.{Width}
use Rattle.gob_tree.specs.declared.expr.Width.TheVariants.{W32, W64}
use Rattle.gob_tree.specs.declared.unit.FuncKind.{FuncKind}
use Rattle.gob_tree.specs.declared.unit.FuncKind.TheVariants as funcs
use Rattle.c_parse.specs.declared.raw.expr.RawName.{RawName}
use Rattle.c_parse.specs.declared.raw.stmt.RawReturn.TheVariants.{Value}
use Rattle.c_parse.specs.declared.raw.stmt.RawStmt.TheVariants as stmts
use Rattle.c_parse.specs.declared.raw.unit.RawParam.{RawParam}
use Rattle.c_parse.specs.declared.raw.unit.RawHead.{RawHead}
use Rattle.c_parse.specs.declared.raw.unit.RawItem.{RawItem}
use Rattle.c_parse.specs.declared.raw.unit.RawItem.TheVariants as tops
use Rattle.c_parse.specs.declared.terminal.Kind.{Kind}
use Rattle.c_parse.specs.declared.terminal.Kind.TheVariants.{Minus, Star, Equals, OpenParen, CloseParen, OpenBrace, CloseBrace, Comma, Semicolon, Int, Long, Void, Static, Extern, Return, Thread, Mutex, Initializer}
use Rattle.c_parse.specs.Grammar.{Nesting, Spells, IsUnit}
use Rattle.readings_law.specs.Rows.{at, row, a, b, c, f, one, name_a, name_b, name_c, name_f, a_at}
use Rattle.readings_law.specs.Statements.{stmt}

abbrev pub SpellsUnit : List Kind → List RawItem → Type 0
SpellsUnit ks items = IsUnit (row ks) items

abbrev pub NoUnit : List Kind → Type 0
NoUnit ks = (items : List RawItem) (end : Nesting) → Spells (row ks) items end → ⊥

abbrev pub par : Width → Option RawName → RawParam
par w x = record { width = w; name = x }

abbrev pub head : ℕ → FuncKind → Width → List RawParam → RawHead
head n k w ps = record { name = name_f n; kind = k; width = w; params = ps }

-- int a = - 1 , b = 1 ;
abbrev pub two_globals : List Kind
two_globals = Int ∷ a ∷ Equals ∷ Minus ∷ one ∷ Comma ∷ b ∷ Equals ∷ one ∷ Semicolon ∷ []

-- static long int c ;
abbrev pub static_global : List Kind
static_global = Static ∷ Long ∷ Int ∷ c ∷ Semicolon ∷ []

-- extern int f ( int , long b ) ;
abbrev pub extern_prototype : List Kind
extern_prototype = Extern ∷ Int ∷ f ∷ OpenParen ∷ Int ∷ Comma ∷ Long ∷ b ∷ CloseParen ∷ Semicolon ∷ []

-- void f ( void ) { }
abbrev pub void_function : List Kind
void_function = Void ∷ f ∷ OpenParen ∷ Void ∷ CloseParen ∷ OpenBrace ∷ CloseBrace ∷ []

-- long f ( int a ) { return a ; }
abbrev pub long_function : List Kind
long_function = Long ∷ f ∷ OpenParen ∷ Int ∷ a ∷ CloseParen ∷ OpenBrace ∷ Return ∷ a ∷ Semicolon ∷ CloseBrace ∷ []

-- void * f ( void * a ) ;
abbrev pub thread_prototype : List Kind
thread_prototype = Void ∷ Star ∷ f ∷ OpenParen ∷ Void ∷ Star ∷ a ∷ CloseParen ∷ Semicolon ∷ []

-- static void * f ( void * ) { }
abbrev pub thread_function : List Kind
thread_function = Static ∷ Void ∷ Star ∷ f ∷ OpenParen ∷ Void ∷ Star ∷ CloseParen ∷ OpenBrace ∷ CloseBrace ∷ []

-- pthread_mutex_t a = PTHREAD_MUTEX_INITIALIZER ; void f ( ) ;
abbrev pub mutex_first : List Kind
mutex_first = Mutex ∷ a ∷ Equals ∷ Initializer ∷ Semicolon ∷ Void ∷ f ∷ OpenParen ∷ CloseParen ∷ Semicolon ∷ []

pub record UnitsSpell : Type 0 where
  pub no_item : SpellsUnit [] []
  pub globals : SpellsUnit two_globals (tops.Global (name_a 2) W32 (negsuc 0) (at 5) ∷ tops.Global (name_b 7) W32 (pos 1) (at 9) ∷ [])
  pub static_item : SpellsUnit static_global (tops.Global (name_c 4) W64 (pos 0) (at 4) ∷ [])
  pub extern_head : SpellsUnit extern_prototype (tops.Prototype (head 3 funcs.Int W32 (par W32 None ∷ par W64 (Some (name_b 8)) ∷ [])) ∷ [])
  pub void_body : SpellsUnit void_function (tops.Function (head 2 funcs.Void W32 []) (at 7) [] ∷ [])
  pub long_body : SpellsUnit long_function (tops.Function (head 2 funcs.Int W64 (par W32 (Some (name_a 5)) ∷ [])) (at 11) (stmt 8 (stmts.Return (Value (a_at 9))) ∷ []) ∷ [])
  pub thread_head : SpellsUnit thread_prototype (tops.Prototype (head 3 funcs.Thread W32 (par W32 (Some (name_a 7)) ∷ [])) ∷ [])
  pub thread_body : SpellsUnit thread_function (tops.Function (head 4 funcs.Thread W32 (par W32 None ∷ [])) (at 10) [] ∷ [])
  pub two_items : SpellsUnit mutex_first (tops.Mutex (name_a 2) ∷ tops.Prototype (head 7 funcs.Void W32 []) ∷ [])

pub record UnitsDontSpell : Type 0 where
  pub one_global : SpellsUnit two_globals (tops.Global (name_a 2) W32 (negsuc 0) (at 5) ∷ []) → ⊥
  pub positive : SpellsUnit two_globals (tops.Global (name_a 2) W32 (pos 1) (at 5) ∷ tops.Global (name_b 7) W32 (pos 1) (at 9) ∷ []) → ⊥
  -- int a = b ; int a = - - 1 ; int a , ; int static a ; void a ; int a
  pub by_name : NoUnit (Int ∷ a ∷ Equals ∷ b ∷ Semicolon ∷ [])
  pub minus_minus : NoUnit (Int ∷ a ∷ Equals ∷ Minus ∷ Minus ∷ one ∷ Semicolon ∷ [])
  pub no_second_name : NoUnit (Int ∷ a ∷ Comma ∷ Semicolon ∷ [])
  pub static_behind : NoUnit (Int ∷ Static ∷ a ∷ Semicolon ∷ [])
  pub void_global : NoUnit (Void ∷ a ∷ Semicolon ∷ [])
  pub unended : NoUnit (Int ∷ a ∷ [])
  -- extern int a ; extern void f ( ) { }; extern pthread_mutex_t a = PTHREAD_MUTEX_INITIALIZER ;
  pub extern_global : NoUnit (Extern ∷ Int ∷ a ∷ Semicolon ∷ [])
  pub extern_body : NoUnit (Extern ∷ Void ∷ f ∷ OpenParen ∷ CloseParen ∷ OpenBrace ∷ CloseBrace ∷ [])
  pub extern_mutex : NoUnit (Extern ∷ Mutex ∷ a ∷ Equals ∷ Initializer ∷ Semicolon ∷ [])
  -- pthread_t a ; pthread_mutex_t a ; a = 1 ; int f ( ) { } }
  pub thread_outside : NoUnit (Thread ∷ a ∷ Semicolon ∷ [])
  pub mutex_unset : NoUnit (Mutex ∷ a ∷ Semicolon ∷ [])
  pub statement_outside : NoUnit (a ∷ Equals ∷ one ∷ Semicolon ∷ [])
  pub brace_too_many : NoUnit (Int ∷ f ∷ OpenParen ∷ CloseParen ∷ OpenBrace ∷ CloseBrace ∷ CloseBrace ∷ [])
  -- int f ( int ) { }; int f ( void a ) ; int f ( int a , ) ; int f ( int a b ) ;
  pub unnamed_in_a_body : NoUnit (Int ∷ f ∷ OpenParen ∷ Int ∷ CloseParen ∷ OpenBrace ∷ CloseBrace ∷ [])
  pub void_parameter : NoUnit (Int ∷ f ∷ OpenParen ∷ Void ∷ a ∷ CloseParen ∷ Semicolon ∷ [])
  pub no_second_parameter : NoUnit (Int ∷ f ∷ OpenParen ∷ Int ∷ a ∷ Comma ∷ CloseParen ∷ Semicolon ∷ [])
  pub two_names : NoUnit (Int ∷ f ∷ OpenParen ∷ Int ∷ a ∷ b ∷ CloseParen ∷ Semicolon ∷ [])
  -- void * f ( ) ; void * f ( int a ) ; void f ( void * a ) ;
  pub thread_without_parameter : NoUnit (Void ∷ Star ∷ f ∷ OpenParen ∷ CloseParen ∷ Semicolon ∷ [])
  pub thread_of_a_number : NoUnit (Void ∷ Star ∷ f ∷ OpenParen ∷ Int ∷ a ∷ CloseParen ∷ Semicolon ∷ [])
  pub address_to_void : NoUnit (Void ∷ f ∷ OpenParen ∷ Void ∷ Star ∷ a ∷ CloseParen ∷ Semicolon ∷ [])
