-- Statements and declarations: the tokens are what stands in the outer block of a function, with its closing
-- brace.
use Rattle.std.specs.Prelude.{ℕ, List, [], ◌∷◌, length, Some, None}
use Rattle.gob_tree.specs.declared.expr.BinOp.TheVariants as ops
use Rattle.gob_tree.specs.declared.expr.Width.TheVariants.{W32, W64}
use Rattle.gob_tree.specs.declared.place.Place.{Place}
use Rattle.c_parse.specs.declared.raw.expr.RawExpr.TheVariants.{Binary}
use Rattle.c_parse.specs.declared.raw.stmt.RawReturn.TheVariants as returns
use Rattle.c_parse.specs.declared.raw.stmt.RawStmt.{RawStmt}
use Rattle.c_parse.specs.declared.raw.stmt.RawStmt.TheVariants as stmts
use Rattle.c_parse.specs.declared.raw.stmt.RawPlaced.{RawPlaced}
use Rattle.c_parse.specs.declared.terminal.Kind.{Kind}
use Rattle.c_parse.specs.declared.terminal.Kind.TheVariants.{Plus, Update, Step, Equals, Ampersand, OpenParen, CloseParen, OpenBrace, CloseBrace, Comma, Semicolon, Int, Long, Static, If, Else, While, Do, For, Break, Continue, Return, Null, Assert, Thread, Create, Join, Lock, Unlock}
use Rattle.c_parse.specs.Grammar.{Nesting, within, ReadsItems}
use Rattle.readings_law.specs.Rows.{at, row, a, b, c, f, one, name_a, name_b, name_c, name_f, a_at, b_at, c_at, one_value}

abbrev pub SpellsBlock : List Kind → List RawPlaced → Type 0
SpellsBlock ks ps = ReadsItems 1 (within 0) (row ks) ps (at (length ks)) [] (within 0)

abbrev pub NoBlock : List Kind → Type 0
NoBlock ks = (ps : List RawPlaced) (here : Place) (end : Nesting) → ReadsItems 1 (within 0) (row ks) ps here [] end → ⊥

abbrev pub stmt : ℕ → RawStmt → RawPlaced
stmt n s = record { place = at n; stmt = s }

-- a = 1 ; a ++ ; -- b ; }
abbrev pub assignments : List Kind
assignments = a ∷ Equals ∷ one ∷ Semicolon ∷ a ∷ Step ops.Add ∷ Semicolon ∷ Step ops.Sub ∷ b ∷ Semicolon ∷ CloseBrace ∷ []

-- a *= b + c ; }
abbrev pub update : List Kind
update = a ∷ Update ops.Mul ∷ b ∷ Plus ∷ c ∷ Semicolon ∷ CloseBrace ∷ []

-- f ( a , 1 ) ; assert ( a ) ; ; }
abbrev pub calls : List Kind
calls = f ∷ OpenParen ∷ a ∷ Comma ∷ one ∷ CloseParen ∷ Semicolon ∷ Assert ∷ OpenParen ∷ a ∷ CloseParen ∷ Semicolon ∷ Semicolon ∷ CloseBrace ∷ []

-- pthread_create ( & a , NULL , f , NULL ) ; pthread_join ( a , NULL ) ; }
abbrev pub threads : List Kind
threads =
    Create ∷ OpenParen ∷ Ampersand ∷ a ∷ Comma ∷ Null ∷ Comma ∷ f ∷ Comma ∷ Null ∷ CloseParen ∷ Semicolon
    ∷ Join ∷ OpenParen ∷ a ∷ Comma ∷ Null ∷ CloseParen ∷ Semicolon ∷ CloseBrace ∷ []

-- pthread_mutex_lock ( & a ) ; pthread_mutex_unlock ( & b ) ; }
abbrev pub locks : List Kind
locks =
    Lock ∷ OpenParen ∷ Ampersand ∷ a ∷ CloseParen ∷ Semicolon
    ∷ Unlock ∷ OpenParen ∷ Ampersand ∷ b ∷ CloseParen ∷ Semicolon ∷ CloseBrace ∷ []

-- if ( a ) if ( b ) ; else break ; }
abbrev pub dangling : List Kind
dangling = If ∷ OpenParen ∷ a ∷ CloseParen ∷ If ∷ OpenParen ∷ b ∷ CloseParen ∷ Semicolon ∷ Else ∷ Break ∷ Semicolon ∷ CloseBrace ∷ []

-- while ( a ) continue ; do ; while ( b ) ; }
abbrev pub loops : List Kind
loops = While ∷ OpenParen ∷ a ∷ CloseParen ∷ Continue ∷ Semicolon ∷ Do ∷ Semicolon ∷ While ∷ OpenParen ∷ b ∷ CloseParen ∷ Semicolon ∷ CloseBrace ∷ []

-- for ( ; ; a ++ ) ; for ( int a = 1 ; a ; ) ; for ( a = 1 ; ; ) { } }
abbrev pub for_loops : List Kind
for_loops =
    For ∷ OpenParen ∷ Semicolon ∷ Semicolon ∷ a ∷ Step ops.Add ∷ CloseParen ∷ Semicolon
    ∷ For ∷ OpenParen ∷ Int ∷ a ∷ Equals ∷ one ∷ Semicolon ∷ a ∷ Semicolon ∷ CloseParen ∷ Semicolon
    ∷ For ∷ OpenParen ∷ a ∷ Equals ∷ one ∷ Semicolon ∷ Semicolon ∷ CloseParen ∷ OpenBrace ∷ CloseBrace ∷ CloseBrace ∷ []

-- for ( ; ; a ++ ) ; }
abbrev pub last_alone : List Kind
last_alone = For ∷ OpenParen ∷ Semicolon ∷ Semicolon ∷ a ∷ Step ops.Add ∷ CloseParen ∷ Semicolon ∷ CloseBrace ∷ []

-- return ; return NULL ; return a ; }
abbrev pub leaving : List Kind
leaving = Return ∷ Semicolon ∷ Return ∷ Null ∷ Semicolon ∷ Return ∷ a ∷ Semicolon ∷ CloseBrace ∷ []

-- int a = 1 , b ; long int c ; { long b ; } }
abbrev pub numbers : List Kind
numbers =
    Int ∷ a ∷ Equals ∷ one ∷ Comma ∷ b ∷ Semicolon
    ∷ Long ∷ Int ∷ c ∷ Semicolon ∷ OpenBrace ∷ Long ∷ b ∷ Semicolon ∷ CloseBrace ∷ CloseBrace ∷ []

-- pthread_t a , b ; }
abbrev pub thread_variables : List Kind
thread_variables = Thread ∷ a ∷ Comma ∷ b ∷ Semicolon ∷ CloseBrace ∷ []

pub record StatementsSpell : Type 0 where
  pub assigned : SpellsBlock assignments (stmt 1 (stmts.Assign (name_a 1) one_value) ∷ stmt 5 (stmts.Assign (name_a 5) (Binary ops.Add (a_at 5) one_value)) ∷ stmt 8 (stmts.Assign (name_b 9) (Binary ops.Sub (b_at 9) one_value)) ∷ [])
  pub updated : SpellsBlock update (stmt 1 (stmts.Assign (name_a 1) (Binary ops.Mul (a_at 1) (Binary ops.Add (b_at 3) (c_at 5)))) ∷ [])
  pub called : SpellsBlock calls (stmt 1 (stmts.CallOnly (name_f 1) (a_at 3 ∷ one_value ∷ [])) ∷ stmt 8 (stmts.Assert (a_at 10)) ∷ stmt 13 stmts.Empty ∷ [])
  pub started : SpellsBlock threads (stmt 1 (stmts.Create (name_a 4) (name_f 8)) ∷ stmt 13 (stmts.Join (name_a 15)) ∷ [])
  pub locked : SpellsBlock locks (stmt 1 (stmts.Lock (name_a 4)) ∷ stmt 7 (stmts.Unlock (name_b 10)) ∷ [])
  pub nearest_if : SpellsBlock dangling (stmt 1 (stmts.If (a_at 3) (stmt 5 (stmts.If (b_at 7) (stmt 9 stmts.Empty) (Some (stmt 11 stmts.Break)))) None) ∷ [])
  pub looped : SpellsBlock loops (stmt 1 (stmts.While (a_at 3) (stmt 5 stmts.Continue)) ∷ stmt 7 (stmts.DoWhile (stmt 8 stmts.Empty) (b_at 11)) ∷ [])
  pub for_looped : SpellsBlock for_loops (stmt 1 (stmts.For [] None (Some (stmt 5 (stmts.Assign (name_a 5) (Binary ops.Add (a_at 5) one_value)))) (stmt 8 stmts.Empty)) ∷ stmt 9 (stmts.For (stmt 11 (stmts.Declare W32 (name_a 12) (Some one_value)) ∷ []) (Some (a_at 16)) None (stmt 19 stmts.Empty)) ∷ stmt 20 (stmts.For (stmt 22 (stmts.Assign (name_a 22) one_value) ∷ []) None None (stmt 28 (stmts.Block []))) ∷ [])
  pub last_part : SpellsBlock last_alone (stmt 1 (stmts.For [] None (Some (stmt 5 (stmts.Assign (name_a 5) (Binary ops.Add (a_at 5) one_value)))) (stmt 8 stmts.Empty)) ∷ [])
  pub returned : SpellsBlock leaving (stmt 1 (stmts.Return returns.Plain) ∷ stmt 3 (stmts.Return returns.Null) ∷ stmt 6 (stmts.Return (returns.Value (a_at 7))) ∷ [])
  pub declared : SpellsBlock numbers (stmt 1 (stmts.Declare W32 (name_a 2) (Some one_value)) ∷ stmt 6 (stmts.Declare W32 (name_b 6) None) ∷ stmt 8 (stmts.Declare W64 (name_c 10) None) ∷ stmt 12 (stmts.Block (stmt 13 (stmts.Declare W64 (name_b 14) None) ∷ [])) ∷ [])
  pub threads_declared : SpellsBlock thread_variables (stmt 1 (stmts.DeclareThread (name_a 2)) ∷ stmt 4 (stmts.DeclareThread (name_b 4)) ∷ [])

pub record StatementsDontSpell : Type 0 where
  pub product_first : SpellsBlock update (stmt 1 (stmts.Assign (name_a 1) (Binary ops.Add (Binary ops.Mul (a_at 1) (b_at 3)) (c_at 5))) ∷ []) → ⊥
  pub outer_if : SpellsBlock dangling (stmt 1 (stmts.If (a_at 3) (stmt 5 (stmts.If (b_at 7) (stmt 9 stmts.Empty) None)) (Some (stmt 11 stmts.Break))) ∷ []) → ⊥
  pub shifted : SpellsBlock last_alone (stmt 1 (stmts.For (stmt 5 (stmts.Assign (name_a 5) (Binary ops.Add (a_at 5) one_value)) ∷ []) None None (stmt 8 stmts.Empty)) ∷ []) → ⊥
  -- a ; }; 1 = a ; }; a = 1 }; assert a ; }
  pub no_effect : NoBlock (a ∷ Semicolon ∷ CloseBrace ∷ [])
  pub to_a_number : NoBlock (one ∷ Equals ∷ a ∷ Semicolon ∷ CloseBrace ∷ [])
  pub no_semicolon : NoBlock (a ∷ Equals ∷ one ∷ CloseBrace ∷ [])
  pub assert_bare : NoBlock (Assert ∷ a ∷ Semicolon ∷ CloseBrace ∷ [])
  -- pthread_create ( & a , NULL , f , a ) ; }; pthread_join ( & a , NULL ) ; }; pthread_mutex_lock ( a ) ; }
  pub create_with_argument : NoBlock (Create ∷ OpenParen ∷ Ampersand ∷ a ∷ Comma ∷ Null ∷ Comma ∷ f ∷ Comma ∷ a ∷ CloseParen ∷ Semicolon ∷ CloseBrace ∷ [])
  pub join_by_address : NoBlock (Join ∷ OpenParen ∷ Ampersand ∷ a ∷ Comma ∷ Null ∷ CloseParen ∷ Semicolon ∷ CloseBrace ∷ [])
  pub lock_by_value : NoBlock (Lock ∷ OpenParen ∷ a ∷ CloseParen ∷ Semicolon ∷ CloseBrace ∷ [])
  -- else ; }; if a ; }; if ( a ) int b ; }; while ( ) ; }; do ; while ( a ) }
  pub else_alone : NoBlock (Else ∷ Semicolon ∷ CloseBrace ∷ [])
  pub bare_condition : NoBlock (If ∷ a ∷ Semicolon ∷ CloseBrace ∷ [])
  pub declared_branch : NoBlock (If ∷ OpenParen ∷ a ∷ CloseParen ∷ Int ∷ b ∷ Semicolon ∷ CloseBrace ∷ [])
  pub no_condition : NoBlock (While ∷ OpenParen ∷ CloseParen ∷ Semicolon ∷ CloseBrace ∷ [])
  pub do_unended : NoBlock (Do ∷ Semicolon ∷ While ∷ OpenParen ∷ a ∷ CloseParen ∷ CloseBrace ∷ [])
  -- for ( ; ) ; }; for ( ; ; ; ) ; }; for ( pthread_t a ; ; ) ; }; break }; return 1 1 ; }
  pub two_parts : NoBlock (For ∷ OpenParen ∷ Semicolon ∷ CloseParen ∷ Semicolon ∷ CloseBrace ∷ [])
  pub four_parts : NoBlock (For ∷ OpenParen ∷ Semicolon ∷ Semicolon ∷ Semicolon ∷ CloseParen ∷ Semicolon ∷ CloseBrace ∷ [])
  pub thread_first : NoBlock (For ∷ OpenParen ∷ Thread ∷ a ∷ Semicolon ∷ Semicolon ∷ CloseParen ∷ Semicolon ∷ CloseBrace ∷ [])
  pub break_unended : NoBlock (Break ∷ CloseBrace ∷ [])
  pub two_values : NoBlock (Return ∷ one ∷ one ∷ Semicolon ∷ CloseBrace ∷ [])
  -- int a , ; }; long long a ; }; int long a ; }; pthread_t a = b ; }; static int a ; }; { }
  pub no_second_name : NoBlock (Int ∷ a ∷ Comma ∷ Semicolon ∷ CloseBrace ∷ [])
  pub long_twice : NoBlock (Long ∷ Long ∷ a ∷ Semicolon ∷ CloseBrace ∷ [])
  pub int_before_long : NoBlock (Int ∷ Long ∷ a ∷ Semicolon ∷ CloseBrace ∷ [])
  pub thread_given : NoBlock (Thread ∷ a ∷ Equals ∷ b ∷ Semicolon ∷ CloseBrace ∷ [])
  pub static_local : NoBlock (Static ∷ Int ∷ a ∷ Semicolon ∷ CloseBrace ∷ [])
  pub unclosed : NoBlock (OpenBrace ∷ CloseBrace ∷ [])
