-- The grammar: one case per production. Each relation says that the front of a list of tokens is a spelling
-- of a tree, and what is left of the list.
use Rattle.std.specs.Prelude.{◌≡◌, ◌≤◌, ◌+◌, ℕ, zero, suc, nat_le, ◌==◌, if◌then◌else◌, ℤ, pos, neg_ℤ, Bool, true, false, List, [], ◌∷◌, ◌++◌, length, Option, Some, None}
use Rattle.gob_tree.specs.declared.expr.BinOp.{BinOp}
use Rattle.gob_tree.specs.declared.expr.BinOp.TheVariants as ops
use Rattle.gob_tree.specs.declared.expr.UnOp.TheVariants.{Neg, Not}
use Rattle.gob_tree.specs.declared.expr.Width.{Width}
use Rattle.gob_tree.specs.declared.expr.Width.TheVariants.{W32, W64}
use Rattle.gob_tree.specs.declared.place.Place.{Place}
use Rattle.gob_tree.specs.declared.unit.FuncKind.{FuncKind}
use Rattle.gob_tree.specs.declared.unit.FuncKind.TheVariants.{Int, Void, Thread}
use Rattle.c_parse.specs.declared.raw.expr.RawName.{RawName}
use Rattle.c_parse.specs.declared.raw.expr.RawExpr.{RawExpr}
use Rattle.c_parse.specs.declared.raw.expr.RawExpr.TheVariants as exprs
use Rattle.c_parse.specs.declared.raw.stmt.RawReturn.{RawReturn}
use Rattle.c_parse.specs.declared.raw.stmt.RawReturn.TheVariants.{Plain, Null, Value}
use Rattle.c_parse.specs.declared.raw.stmt.RawStmt.{RawStmt}
use Rattle.c_parse.specs.declared.raw.stmt.RawStmt.TheVariants as stmts
use Rattle.c_parse.specs.declared.raw.stmt.RawPlaced.{RawPlaced}
use Rattle.c_parse.specs.declared.raw.unit.RawHead.{RawHead}
use Rattle.c_parse.specs.declared.raw.unit.RawItem.{RawItem}
use Rattle.c_parse.specs.declared.raw.unit.RawItem.TheVariants as tops
use Rattle.c_parse.specs.declared.terminal.Kind.{Kind}
use Rattle.c_parse.specs.declared.terminal.Kind.TheVariants as kinds
use Rattle.c_parse.specs.declared.terminal.Terminal.{Terminal}

-- operators

-- the binary operator that a token writes
abbrev pub binary : Kind → Option BinOp
binary kinds.Plus = Some ops.Add
binary kinds.Minus = Some ops.Sub
binary kinds.Star = Some ops.Mul
binary (kinds.Operator op) = Some op
binary _ = None

-- the level of an operator, from the tightest on
abbrev pub level_of : BinOp → ℕ
level_of ops.Mul = 0
level_of ops.Div = 0
level_of ops.Rem = 0
level_of ops.Add = 1
level_of ops.Sub = 1
level_of ops.Lt = 2
level_of ops.Le = 2
level_of ops.Gt = 2
level_of ops.Ge = 2
level_of ops.Eq = 3
level_of ops.Ne = 3
level_of ops.And = 4
level_of ops.Or = 5

-- the level of a whole expression
abbrev pub top : ℕ
top = 6

abbrev pub at_level : ℕ → Option BinOp → Option BinOp
at_level l None = None
at_level l (Some op) = if level_of op == l then Some op else None

-- the binary operator of a level that a token writes
abbrev pub operator : ℕ → Kind → Option BinOp
operator l k = at_level l (binary k)

-- the list doesn't begin with an operator of the level
abbrev pub EndsChain : ℕ → List Terminal → Type 0
EndsChain l [] = Unit {0}
EndsChain l (t ∷ ts) = operator l t.kind ≡ None

abbrev pub is_open_paren : Kind → Bool
is_open_paren kinds.OpenParen = true
is_open_paren _ = false

abbrev pub is_equals : Kind → Bool
is_equals kinds.Equals = true
is_equals _ = false

abbrev pub is_int : Kind → Bool
is_int kinds.Int = true
is_int _ = false

abbrev pub is_else : Kind → Bool
is_else kinds.Else = true
is_else _ = false

abbrev pub begins_with : (Kind → Bool) → List Terminal → Bool
begins_with is [] = false
begins_with is (t ∷ ts) = is t.kind

-- the place of the first token; no part of a unit is read from an empty list
abbrev pub place_at : List Terminal → Place
place_at [] = record { line = 0; column = 0 }
place_at (t ∷ ts) = t.place

-- nesting

-- the greatest depth of a statement, and the greatest number of operators in one expression
abbrev pub limit : ℕ
limit = 64

-- How far the reading is nested: the operators that were read of the whole expression (binary ones,
-- prefixes, and opening parentheses of groups and calls), and the first token over a limit, told by how
-- many tokens are left from it on.
pub record Nesting : Type 0 where
  pub operators : ℕ
  pub over : Option ℕ

abbrev pub earliest : Option ℕ → Bool → ℕ → Option ℕ
earliest (Some left) is_over here = Some left
earliest None true here = Some here
earliest None false here = None

-- the first of the tokens is an operator
abbrev pub counted : Nesting → List Terminal → Nesting
counted a ts = record { operators = a.operators + 1; over = earliest a.over (nat_le limit a.operators) (length ts) }

-- the first of the tokens begins a declaration or statement of depth d
abbrev pub entered : ℕ → Nesting → List Terminal → Nesting
entered d a ts = record { operators = a.operators; over = earliest a.over (nat_le (limit + 1) d) (length ts) }

-- a whole expression has ended
abbrev pub settled : Nesting → Nesting
settled a = record { operators = 0; over = a.over }

-- an argument has ended, which may stand alone as a whole expression
abbrev pub ended : Bool → Nesting → Nesting
ended true a = settled a
ended false a = a

-- so many operators and nothing over a limit
abbrev pub within : ℕ → Nesting
within n = record { operators = n; over = None }

-- trees

-- `x++` is x = x + 1, and `x--` is x = x - 1
abbrev pub step_of : BinOp → RawName → RawExpr
step_of op x = exprs.Binary op (exprs.Name x) (exprs.Number (pos 1) W32)

abbrev pub placed : List Terminal → RawStmt → RawPlaced
placed ts s = record { place = place_at ts; stmt = s }

abbrev pub declared : Place → Width → RawName → Option RawExpr → RawPlaced
declared here w x i = record { place = here; stmt = stmts.Declare w x i }

abbrev pub thread : Place → RawName → RawPlaced
thread here x = record { place = here; stmt = stmts.DeclareThread x }

abbrev pub global : RawName → Width → ℤ → Place → RawItem
global x w v here = tops.Global x w v here

abbrev pub defined : RawHead → Place → List RawPlaced → RawItem
defined h here ps = tops.Function h here ps

-- a head without parameters, and with one more
abbrev pub head_of : RawName → FuncKind → Width → RawHead
head_of x k w = record { name = x; kind = k; width = w; params = [] }

abbrev pub with_param : RawHead → Width → Option RawName → RawHead
with_param h w x = record { name = h.name; kind = h.kind; width = h.width; params = h.params ++ record { width = w; name = x } ∷ [] }

-- the head of a thread function, with its one parameter
abbrev pub thread_head : RawName → Option RawName → RawHead
thread_head x y = with_param (head_of x Thread W32) W32 y

-- the productions

-- a token of a kind, a name, and an operator of a level
pub data Next : Kind → List Terminal → List Terminal → Type 0 where
  next : {k : Kind} {t : Terminal} {rest : List Terminal} → t.kind ≡ k → Next k (t ∷ rest) rest

pub data ReadsName : List Terminal → RawName → List Terminal → Type 0 where
  ident : {text : List ℕ} {t : Terminal} {rest : List Terminal} → t.kind ≡ kinds.Name text → ReadsName (t ∷ rest) (record { text = text; place = t.place }) rest

pub data ReadsOperator : ℕ → BinOp → List Terminal → List Terminal → Type 0 where
  operates : {l : ℕ} {op : BinOp} {t : Terminal} {rest : List Terminal} → operator l t.kind ≡ Some op → ReadsOperator l op (t ∷ rest) rest

mutual
  -- level 0 = number | name call | "-" level 0 | "+" level 0 | "!" level 0 | "(" level 6 ")"
  -- each level above is a chain of operands of the level below
  pub data ReadsLevel : ℕ → Nesting → List Terminal → RawExpr → List Terminal → Nesting → Type 0 where
    number : {ts rest : List Terminal} {a : Nesting} {v : ℤ} {w : Width} → Next (kinds.Number v w) ts rest → ReadsLevel zero a ts (exprs.Number v w) rest a
    name : {ts us rest : List Terminal} {a b : Nesting} {x : RawName} {e : RawExpr} → ReadsName ts x us → ReadsCall x a us e rest b → ReadsLevel zero a ts e rest b
    minus : {ts us rest : List Terminal} {a b : Nesting} {e : RawExpr} → Next kinds.Minus ts us → ReadsLevel zero (counted a ts) us e rest b → ReadsLevel zero a ts (exprs.Unary Neg e) rest b
    plus : {ts us rest : List Terminal} {a b : Nesting} {e : RawExpr} → Next kinds.Plus ts us → ReadsLevel zero (counted a ts) us e rest b → ReadsLevel zero a ts e rest b
    negation : {ts us rest : List Terminal} {a b : Nesting} {e : RawExpr}
        → Next kinds.Not ts us → ReadsLevel zero (counted a ts) us e rest b → ReadsLevel zero a ts (exprs.Unary Not e) rest b
    group : {ts us vs rest : List Terminal} {a b : Nesting} {e : RawExpr}
        → Next kinds.OpenParen ts us → ReadsLevel top (counted a ts) us e vs b → Next kinds.CloseParen vs rest → ReadsLevel zero a ts e rest b
    chain : {ts us rest : List Terminal} {a b c : Nesting} {l : ℕ} {first e : RawExpr} → ReadsLevel l a ts first us b → ReadsChain l first b us e rest c → ReadsLevel (suc l) a ts e rest c

  -- what follows the first operand of a chain: { operator operand }, grouped to the left, up to a token
  -- that is no operator of the level
  pub data ReadsChain : ℕ → RawExpr → Nesting → List Terminal → RawExpr → List Terminal → Nesting → Type 0 where
    ends : {rest : List Terminal} {a : Nesting} {l : ℕ} {e : RawExpr} → EndsChain l rest → ReadsChain l e a rest e rest a
    more : {ts us vs rest : List Terminal} {a b c : Nesting} {l : ℕ} {op : BinOp} {right left e : RawExpr}
        → ReadsOperator l op ts us → ReadsLevel l (counted a ts) us right vs b → ReadsChain l (exprs.Binary op left right) b vs e rest c → ReadsChain l left a ts e rest c

  -- what follows the name x in an expression: [ "(" args ]; without it no "(" follows
  pub data ReadsCall : RawName → Nesting → List Terminal → RawExpr → List Terminal → Nesting → Type 0 where
    no_call : {rest : List Terminal} {a : Nesting} {x : RawName} → begins_with is_open_paren rest ≡ false → ReadsCall x a rest (exprs.Name x) rest a
    call : {ts us rest : List Terminal} {a b : Nesting} {x : RawName} {es : List RawExpr}
        → Next kinds.OpenParen ts us → ReadsArgs false (counted a ts) us es rest b → ReadsCall x a ts (exprs.Call x es) rest b

  -- args = ")" | expr more_args; `alone` says whether each argument is a whole expression
  pub data ReadsArgs : Bool → Nesting → List Terminal → List RawExpr → List Terminal → Nesting → Type 0 where
    no_args : {ts rest : List Terminal} {a : Nesting} {alone : Bool} → Next kinds.CloseParen ts rest → ReadsArgs alone a ts [] rest a
    first_arg : {ts us rest : List Terminal} {a b c : Nesting} {alone : Bool} {e : RawExpr} {es : List RawExpr}
        → ReadsLevel top a ts e us b → ReadsMoreArgs alone b us es rest c → ReadsArgs alone a ts (e ∷ es) rest c

  -- more_args = ")" | "," expr more_args
  pub data ReadsMoreArgs : Bool → Nesting → List Terminal → List RawExpr → List Terminal → Nesting → Type 0 where
    last_arg : {ts rest : List Terminal} {a : Nesting} {alone : Bool} → Next kinds.CloseParen ts rest → ReadsMoreArgs alone a ts [] rest (ended alone a)
    next_arg : {ts us vs rest : List Terminal} {a b c : Nesting} {alone : Bool} {e : RawExpr} {es : List RawExpr}
        → Next kinds.Comma ts us → ReadsLevel top (ended alone a) us e vs b → ReadsMoreArgs alone b vs es rest c → ReadsMoreArgs alone a ts (e ∷ es) rest c

-- an expression that is no part of another
pub data ReadsWhole : Nesting → List Terminal → RawExpr → List Terminal → Nesting → Type 0 where
  whole : {ts rest : List Terminal} {a b : Nesting} {e : RawExpr} → ReadsLevel top a ts e rest b → ReadsWhole a ts e rest (settled b)

-- "(" expr ")"
pub data ReadsCondition : Nesting → List Terminal → RawExpr → List Terminal → Nesting → Type 0 where
  condition : {ts us vs rest : List Terminal} {a b : Nesting} {e : RawExpr}
      → Next kinds.OpenParen ts us → ReadsWhole a us e vs b → Next kinds.CloseParen vs rest → ReadsCondition a ts e rest b

-- [ "=" expr ]; without it no "=" follows
pub data ReadsInitial : Nesting → List Terminal → Option RawExpr → List Terminal → Nesting → Type 0 where
  no_initial : {rest : List Terminal} {a : Nesting} → begins_with is_equals rest ≡ false → ReadsInitial a rest None rest a
  initial : {ts us rest : List Terminal} {a b : Nesting} {e : RawExpr} → Next kinds.Equals ts us → ReadsWhole a us e rest b → ReadsInitial a ts (Some e) rest b

-- [ "int" ] after `long`; without it no `int` follows
pub data ReadsLongTail : List Terminal → List Terminal → Type 0 where
  long : {rest : List Terminal} → begins_with is_int rest ≡ false → ReadsLongTail rest rest
  long_int : {ts rest : List Terminal} → Next kinds.Int ts rest → ReadsLongTail ts rest

-- type = "int" | "long" ["int"]
pub data ReadsType : List Terminal → Width → List Terminal → Type 0 where
  int_type : {ts rest : List Terminal} → Next kinds.Int ts rest → ReadsType ts W32 rest
  long_type : {ts us rest : List Terminal} → Next kinds.Long ts us → ReadsLongTail us rest → ReadsType ts W64 rest

mutual
  -- loc { "," loc } ";" with loc = name [ "=" expr ], of numbers of a width; the first one has the place
  pub data ReadsLocals : Place → Width → Nesting → List Terminal → List RawPlaced → List Terminal → Nesting → Type 0 where
    locals : {ts us vs rest : List Terminal} {a b c : Nesting} {w : Width} {here : Place} {x : RawName} {i : Option RawExpr} {ps : List RawPlaced}
        → ReadsName ts x us → ReadsInitial a us i vs b → ReadsMoreLocals w b vs ps rest c → ReadsLocals here w a ts (declared here w x i ∷ ps) rest c

  -- ";" | "," loc more: each one has the place of its name
  pub data ReadsMoreLocals : Width → Nesting → List Terminal → List RawPlaced → List Terminal → Nesting → Type 0 where
    last_local : {ts rest : List Terminal} {a : Nesting} {w : Width} → Next kinds.Semicolon ts rest → ReadsMoreLocals w a ts [] rest a
    next_local : {ts us rest : List Terminal} {a b : Nesting} {w : Width} {ps : List RawPlaced}
        → Next kinds.Comma ts us → ReadsLocals (place_at us) w a us ps rest b → ReadsMoreLocals w a ts ps rest b

-- a decl that begins with a type
pub data ReadsNumbers : Nesting → List Terminal → List RawPlaced → List Terminal → Nesting → Type 0 where
  numbers : {ts us rest : List Terminal} {a b : Nesting} {w : Width} {ps : List RawPlaced} → ReadsType ts w us → ReadsLocals (place_at ts) w a us ps rest b → ReadsNumbers a ts ps rest b

mutual
  -- name { "," name } ";"
  pub data ReadsThreads : Place → List Terminal → List RawPlaced → List Terminal → Type 0 where
    threads : {ts us rest : List Terminal} {here : Place} {x : RawName} {ps : List RawPlaced}
        → ReadsName ts x us → ReadsMoreThreads us ps rest → ReadsThreads here ts (thread here x ∷ ps) rest

  pub data ReadsMoreThreads : List Terminal → List RawPlaced → List Terminal → Type 0 where
    last_thread : {ts rest : List Terminal} → Next kinds.Semicolon ts rest → ReadsMoreThreads ts [] rest
    next_thread : {ts us rest : List Terminal} {ps : List RawPlaced} → Next kinds.Comma ts us → ReadsThreads (place_at us) us ps rest → ReadsMoreThreads ts ps rest

-- decl = type loc { "," loc } ";" | "pthread_t" name { "," name } ";"
pub data ReadsDecl : Nesting → List Terminal → List RawPlaced → List Terminal → Nesting → Type 0 where
  number_decl : {ts rest : List Terminal} {a b : Nesting} {ps : List RawPlaced} → ReadsNumbers a ts ps rest b → ReadsDecl a ts ps rest b
  thread_decl : {ts us rest : List Terminal} {a : Nesting} {ps : List RawPlaced} → Next kinds.Thread ts us → ReadsThreads (place_at ts) us ps rest → ReadsDecl a ts ps rest a

-- what follows the name x in front of a simple statement: "=" expr | update expr | step | "(" args
pub data ReadsAfterName : RawName → Nesting → List Terminal → RawStmt → List Terminal → Nesting → Type 0 where
  assigned : {ts us rest : List Terminal} {a b : Nesting} {x : RawName} {e : RawExpr} → Next kinds.Equals ts us → ReadsWhole a us e rest b → ReadsAfterName x a ts (stmts.Assign x e) rest b
  updated : {ts us rest : List Terminal} {a b : Nesting} {op : BinOp} {x : RawName} {e : RawExpr}
      → Next (kinds.Update op) ts us → ReadsWhole a us e rest b → ReadsAfterName x a ts (stmts.Assign x (exprs.Binary op (exprs.Name x) e)) rest b
  stepped : {ts rest : List Terminal} {a : Nesting} {op : BinOp} {x : RawName} → Next (kinds.Step op) ts rest → ReadsAfterName x a ts (stmts.Assign x (step_of op x)) rest a
  called : {ts us rest : List Terminal} {a b : Nesting} {x : RawName} {es : List RawExpr}
      → Next kinds.OpenParen ts us → ReadsArgs true a us es rest b → ReadsAfterName x a ts (stmts.CallOnly x es) rest b

-- "(" "&" name ")"
pub data ReadsHandle : List Terminal → RawName → List Terminal → Type 0 where
  handle : {ts us vs ws rest : List Terminal} {x : RawName}
      → Next kinds.OpenParen ts us → Next kinds.Ampersand us vs → ReadsName vs x ws → Next kinds.CloseParen ws rest → ReadsHandle ts x rest

-- the simple statements, without what ends them
pub data ReadsSimple : Nesting → List Terminal → RawStmt → List Terminal → Nesting → Type 0 where
  named : {ts us rest : List Terminal} {a b : Nesting} {x : RawName} {s : RawStmt} → ReadsName ts x us → ReadsAfterName x a us s rest b → ReadsSimple a ts s rest b
  step : {ts us rest : List Terminal} {a : Nesting} {op : BinOp} {x : RawName} → Next (kinds.Step op) ts us → ReadsName us x rest → ReadsSimple a ts (stmts.Assign x (step_of op x)) rest a
  asserts : {ts us rest : List Terminal} {a b : Nesting} {e : RawExpr} → Next kinds.Assert ts us → ReadsCondition a us e rest b → ReadsSimple a ts (stmts.Assert e) rest b
  create : {t0 t1 t2 t3 t4 t5 t6 t7 t8 t9 t10 rest : List Terminal} {a : Nesting} {x y : RawName}
      → Next kinds.Create t0 t1 → Next kinds.OpenParen t1 t2 → Next kinds.Ampersand t2 t3 → ReadsName t3 x t4 → Next kinds.Comma t4 t5 → Next kinds.Null t5 t6 → Next kinds.Comma t6 t7 → ReadsName t7 y t8 → Next kinds.Comma t8 t9 → Next kinds.Null t9 t10 → Next kinds.CloseParen t10 rest → ReadsSimple a t0 (stmts.Create x y) rest a
  join : {ts us vs ws xs ys rest : List Terminal} {a : Nesting} {x : RawName}
      → Next kinds.Join ts us → Next kinds.OpenParen us vs → ReadsName vs x ws → Next kinds.Comma ws xs → Next kinds.Null xs ys → Next kinds.CloseParen ys rest → ReadsSimple a ts (stmts.Join x) rest a
  lock : {ts us rest : List Terminal} {a : Nesting} {x : RawName} → Next kinds.Lock ts us → ReadsHandle us x rest → ReadsSimple a ts (stmts.Lock x) rest a
  unlock : {ts us rest : List Terminal} {a : Nesting} {x : RawName} → Next kinds.Unlock ts us → ReadsHandle us x rest → ReadsSimple a ts (stmts.Unlock x) rest a

-- what follows `return`: [ expr | "NULL" ] ";"
pub data ReadsValue : Nesting → List Terminal → RawReturn → List Terminal → Nesting → Type 0 where
  plain : {ts rest : List Terminal} {a : Nesting} → Next kinds.Semicolon ts rest → ReadsValue a ts Plain rest a
  null : {ts us rest : List Terminal} {a : Nesting} → Next kinds.Null ts us → Next kinds.Semicolon us rest → ReadsValue a ts Null rest a
  value : {ts us rest : List Terminal} {a b : Nesting} {e : RawExpr} → ReadsWhole a ts e us b → Next kinds.Semicolon us rest → ReadsValue a ts (Value e) rest b

-- the first part of a `for`: decl | [simple] ";", where the decl begins with a type
pub data ReadsFirst : Nesting → List Terminal → List RawPlaced → List Terminal → Nesting → Type 0 where
  no_first : {ts rest : List Terminal} {a : Nesting} → Next kinds.Semicolon ts rest → ReadsFirst a ts [] rest a
  number_first : {ts rest : List Terminal} {a b : Nesting} {ps : List RawPlaced} → ReadsNumbers a ts ps rest b → ReadsFirst a ts ps rest b
  simple_first : {ts us rest : List Terminal} {a b : Nesting} {s : RawStmt} → ReadsSimple a ts s us b → Next kinds.Semicolon us rest → ReadsFirst a ts (placed ts s ∷ []) rest b

-- its condition: [expr] ";"
pub data ReadsTest : Nesting → List Terminal → Option RawExpr → List Terminal → Nesting → Type 0 where
  no_test : {ts rest : List Terminal} {a : Nesting} → Next kinds.Semicolon ts rest → ReadsTest a ts None rest a
  test : {ts us rest : List Terminal} {a b : Nesting} {e : RawExpr} → ReadsWhole a ts e us b → Next kinds.Semicolon us rest → ReadsTest a ts (Some e) rest b

-- its last part: [simple] ")"
pub data ReadsLast : Nesting → List Terminal → Option RawPlaced → List Terminal → Nesting → Type 0 where
  no_last : {ts rest : List Terminal} {a : Nesting} → Next kinds.CloseParen ts rest → ReadsLast a ts None rest a
  last : {ts us rest : List Terminal} {a b : Nesting} {s : RawStmt} → ReadsSimple a ts s us b → Next kinds.CloseParen us rest → ReadsLast a ts (Some (placed ts s)) rest b

-- what follows the body of a `do`: "while" "(" expr ")" ";"
pub data ReadsDoEnd : Nesting → List Terminal → RawExpr → List Terminal → Nesting → Type 0 where
  do_end : {ts us vs rest : List Terminal} {a b : Nesting} {e : RawExpr} → Next kinds.While ts us → ReadsCondition a us e vs b → Next kinds.Semicolon vs rest → ReadsDoEnd a ts e rest b

mutual
  -- stmt = block | ";" | simple ";" | "if" "(" expr ")" stmt [ "else" stmt ] | "while" "(" expr ")" stmt
  --   | "do" stmt "while" "(" expr ")" ";" | "for" "(" first test last stmt | "break" ";" | "continue" ";"
  --   | "return" value; a statement of depth d
  pub data ReadsBare : ℕ → Nesting → List Terminal → RawStmt → List Terminal → Nesting → Type 0 where
    empty : {ts rest : List Terminal} {a : Nesting} {d : ℕ} → Next kinds.Semicolon ts rest → ReadsBare d a ts stmts.Empty rest a
    block : {ts us rest : List Terminal} {a b : Nesting} {d : ℕ} {here : Place} {ps : List RawPlaced}
        → Next kinds.OpenBrace ts us → ReadsItems (suc d) a us ps here rest b → ReadsBare d a ts (stmts.Block ps) rest b
    simple : {ts us rest : List Terminal} {a b : Nesting} {d : ℕ} {s : RawStmt} → ReadsSimple a ts s us b → Next kinds.Semicolon us rest → ReadsBare d a ts s rest b
    if_then : {ts us vs ws rest : List Terminal} {a b c o : Nesting} {d : ℕ} {e : RawExpr} {p : RawPlaced} {j : Option RawPlaced}
        → Next kinds.If ts us → ReadsCondition a us e vs b → ReadsStmt (suc d) b vs p ws c → ReadsElse (suc d) c ws j rest o → ReadsBare d a ts (stmts.If e p j) rest o
    while : {ts us vs rest : List Terminal} {a b c : Nesting} {d : ℕ} {e : RawExpr} {p : RawPlaced}
        → Next kinds.While ts us → ReadsCondition a us e vs b → ReadsStmt (suc d) b vs p rest c → ReadsBare d a ts (stmts.While e p) rest c
    do_while : {ts us vs rest : List Terminal} {a b c : Nesting} {d : ℕ} {e : RawExpr} {p : RawPlaced}
        → Next kinds.Do ts us → ReadsStmt (suc d) a us p vs b → ReadsDoEnd b vs e rest c → ReadsBare d a ts (stmts.DoWhile p e) rest c
    for_loop : {ts us vs ws xs ys rest : List Terminal} {a b c o m : Nesting} {d : ℕ} {i : Option RawExpr} {p : RawPlaced} {j : Option RawPlaced} {ps : List RawPlaced}
        → Next kinds.For ts us → Next kinds.OpenParen us vs → ReadsFirst a vs ps ws b → ReadsTest b ws i xs c → ReadsLast c xs j ys o → ReadsStmt (suc d) o ys p rest m → ReadsBare d a ts (stmts.For ps i j p) rest m
    leave_loop : {ts us rest : List Terminal} {a : Nesting} {d : ℕ} → Next kinds.Break ts us → Next kinds.Semicolon us rest → ReadsBare d a ts stmts.Break rest a
    next_round : {ts us rest : List Terminal} {a : Nesting} {d : ℕ} → Next kinds.Continue ts us → Next kinds.Semicolon us rest → ReadsBare d a ts stmts.Continue rest a
    leave : {ts us rest : List Terminal} {a b : Nesting} {d : ℕ} {r : RawReturn} → Next kinds.Return ts us → ReadsValue a us r rest b → ReadsBare d a ts (stmts.Return r) rest b

  -- the same, counted and with its place
  pub data ReadsStmt : ℕ → Nesting → List Terminal → RawPlaced → List Terminal → Nesting → Type 0 where
    stmt : {ts rest : List Terminal} {a b : Nesting} {d : ℕ} {s : RawStmt} → ReadsBare d (entered d a ts) ts s rest b → ReadsStmt d a ts (placed ts s) rest b

  -- [ "else" stmt ]; without it no `else` follows
  pub data ReadsElse : ℕ → Nesting → List Terminal → Option RawPlaced → List Terminal → Nesting → Type 0 where
    no_else : {rest : List Terminal} {a : Nesting} {d : ℕ} → begins_with is_else rest ≡ false → ReadsElse d a rest None rest a
    otherwise : {ts us rest : List Terminal} {a b : Nesting} {d : ℕ} {p : RawPlaced} → Next kinds.Else ts us → ReadsStmt d a us p rest b → ReadsElse d a ts (Some p) rest b

  -- { decl | stmt } "}", each of depth d; the place is that of the brace
  pub data ReadsItems : ℕ → Nesting → List Terminal → List RawPlaced → Place → List Terminal → Nesting → Type 0 where
    close : {ts rest : List Terminal} {a : Nesting} {d : ℕ} → Next kinds.CloseBrace ts rest → ReadsItems d a ts [] (place_at ts) rest a
    one_decl : {ts us rest : List Terminal} {a b c : Nesting} {d : ℕ} {here : Place} {ps qs : List RawPlaced}
        → ReadsDecl (entered d a ts) ts ps us b → ReadsItems d b us qs here rest c → ReadsItems d a ts (ps ++ qs) here rest c
    one_stmt : {ts us rest : List Terminal} {a b c : Nesting} {d : ℕ} {here : Place} {p : RawPlaced} {ps : List RawPlaced}
        → ReadsStmt d a ts p us b → ReadsItems d b us ps here rest c → ReadsItems d a ts (p ∷ ps) here rest c

-- a number of a global: ["-"] number, with the place of the number
pub data ReadsLiteral : List Terminal → ℤ → Place → List Terminal → Type 0 where
  literal : {ts rest : List Terminal} {v : ℤ} {w : Width} → Next (kinds.Number v w) ts rest → ReadsLiteral ts v (place_at ts) rest
  negative : {ts us rest : List Terminal} {v : ℤ} {w : Width} → Next kinds.Minus ts us → Next (kinds.Number v w) us rest → ReadsLiteral ts (neg_ℤ v) (place_at us) rest

mutual
  -- what follows the name x of a global: [ "=" ["-"] number ] { "," ginit } ";"
  pub data ReadsGlobals : Width → RawName → List Terminal → List RawItem → List Terminal → Type 0 where
    given : {ts us vs rest : List Terminal} {v : ℤ} {w : Width} {here : Place} {x : RawName} {items : List RawItem}
        → Next kinds.Equals ts us → ReadsLiteral us v here vs → ReadsMoreGlobals w vs items rest → ReadsGlobals w x ts (global x w v here ∷ items) rest
    unset : {ts rest : List Terminal} {w : Width} {x : RawName} {items : List RawItem} → ReadsMoreGlobals w ts items rest → ReadsGlobals w x ts (global x w (pos 0) x.place ∷ items) rest

  -- ";" | "," ginit more
  pub data ReadsMoreGlobals : Width → List Terminal → List RawItem → List Terminal → Type 0 where
    last_global : {ts rest : List Terminal} {w : Width} → Next kinds.Semicolon ts rest → ReadsMoreGlobals w ts [] rest
    next_global : {ts us vs rest : List Terminal} {w : Width} {x : RawName} {items : List RawItem}
        → Next kinds.Comma ts us → ReadsName us x vs → ReadsGlobals w x vs items rest → ReadsMoreGlobals w ts items rest

-- what follows a head: ";", or a block where a body may stand
pub data ReadsAfterHead : RawHead → Bool → Nesting → List Terminal → List RawItem → List Terminal → Nesting → Type 0 where
  prototype : {ts rest : List Terminal} {a : Nesting} {may : Bool} {h : RawHead} → Next kinds.Semicolon ts rest → ReadsAfterHead h may a ts (tops.Prototype h ∷ []) rest a
  body : {ts us rest : List Terminal} {a b : Nesting} {here : Place} {ps : List RawPlaced} {h : RawHead}
      → Next kinds.OpenBrace ts us → ReadsItems 1 a us ps here rest b → ReadsAfterHead h true a ts (defined h here ps ∷ []) rest b

mutual
  -- par = type [name]: where a name misses, no body may stand
  pub data ReadsParam : RawHead → Bool → Nesting → List Terminal → List RawItem → List Terminal → Nesting → Type 0 where
    param : {ts us rest : List Terminal} {a b : Nesting} {may : Bool} {w : Width} {h : RawHead} {items : List RawItem}
        → ReadsType ts w us → ReadsParamName h may w a us items rest b → ReadsParam h may a ts items rest b

  pub data ReadsParamName : RawHead → Bool → Width → Nesting → List Terminal → List RawItem → List Terminal → Nesting → Type 0 where
    with_name : {ts us rest : List Terminal} {a b : Nesting} {may : Bool} {w : Width} {x : RawName} {h : RawHead} {items : List RawItem}
        → ReadsName ts x us → ReadsMoreParams (with_param h w (Some x)) may a us items rest b → ReadsParamName h may w a ts items rest b
    without_name : {ts rest : List Terminal} {a b : Nesting} {may : Bool} {w : Width} {h : RawHead} {items : List RawItem}
        → ReadsMoreParams (with_param h w None) false a ts items rest b → ReadsParamName h may w a ts items rest b

  -- "," par more | ")" and what follows the head
  pub data ReadsMoreParams : RawHead → Bool → Nesting → List Terminal → List RawItem → List Terminal → Nesting → Type 0 where
    next_param : {ts us rest : List Terminal} {a b : Nesting} {may : Bool} {h : RawHead} {items : List RawItem}
        → Next kinds.Comma ts us → ReadsParam h may a us items rest b → ReadsMoreParams h may a ts items rest b
    last_param : {ts us rest : List Terminal} {a b : Nesting} {may : Bool} {h : RawHead} {items : List RawItem}
        → Next kinds.CloseParen ts us → ReadsAfterHead h may a us items rest b → ReadsMoreParams h may a ts items rest b

-- what follows the "(" of a head: [ "void" | par { "," par } ] ")" and what follows the head
pub data ReadsParams : RawHead → Bool → Nesting → List Terminal → List RawItem → List Terminal → Nesting → Type 0 where
  no_params : {ts us rest : List Terminal} {a b : Nesting} {may : Bool} {h : RawHead} {items : List RawItem}
      → Next kinds.CloseParen ts us → ReadsAfterHead h may a us items rest b → ReadsParams h may a ts items rest b
  void_params : {ts us vs rest : List Terminal} {a b : Nesting} {may : Bool} {h : RawHead} {items : List RawItem}
      → Next kinds.Void ts us → Next kinds.CloseParen us vs → ReadsAfterHead h may a vs items rest b → ReadsParams h may a ts items rest b
  some_params : {ts rest : List Terminal} {a b : Nesting} {may : Bool} {h : RawHead} {items : List RawItem} → ReadsParam h may a ts items rest b → ReadsParams h may a ts items rest b

-- what follows the "*" of the parameter of a thread function x: [name] ")" and what follows the head
pub data ReadsThreadParam : RawName → Bool → Nesting → List Terminal → List RawItem → List Terminal → Nesting → Type 0 where
  named_param : {ts us vs rest : List Terminal} {a b : Nesting} {may : Bool} {y x : RawName} {items : List RawItem}
      → ReadsName ts y us → Next kinds.CloseParen us vs → ReadsAfterHead (thread_head x (Some y)) may a vs items rest b → ReadsThreadParam x may a ts items rest b
  unnamed_param : {ts us rest : List Terminal} {a b : Nesting} {may : Bool} {x : RawName} {items : List RawItem}
      → Next kinds.CloseParen ts us → ReadsAfterHead (thread_head x None) may a us items rest b → ReadsThreadParam x may a ts items rest b

-- "void" "*" and the rest of the parameter
pub data ReadsThreadVoid : RawName → Bool → Nesting → List Terminal → List RawItem → List Terminal → Nesting → Type 0 where
  thread_void : {ts us vs rest : List Terminal} {a b : Nesting} {may : Bool} {x : RawName} {items : List RawItem}
      → Next kinds.Void ts us → Next kinds.Star us vs → ReadsThreadParam x may a vs items rest b → ReadsThreadVoid x may a ts items rest b

-- what follows "void" "*" in front of a thread function: name "(" "void" "*" [name] ")"
pub data ReadsThreadName : Bool → Nesting → List Terminal → List RawItem → List Terminal → Nesting → Type 0 where
  thread_name : {ts us vs rest : List Terminal} {a b : Nesting} {may : Bool} {x : RawName} {items : List RawItem}
      → ReadsName ts x us → Next kinds.OpenParen us vs → ReadsThreadVoid x may a vs items rest b → ReadsThreadName may a ts items rest b

-- what follows `void`: the head of a void function or of a thread function
pub data ReadsVoided : Bool → Nesting → List Terminal → List RawItem → List Terminal → Nesting → Type 0 where
  void_function : {ts us vs rest : List Terminal} {a b : Nesting} {may : Bool} {x : RawName} {items : List RawItem}
      → ReadsName ts x us → Next kinds.OpenParen us vs → ReadsParams (head_of x Void W32) may a vs items rest b → ReadsVoided may a ts items rest b
  thread_function : {ts us rest : List Terminal} {a b : Nesting} {may : Bool} {items : List RawItem}
      → Next kinds.Star ts us → ReadsThreadName may a us items rest b → ReadsVoided may a ts items rest b

-- what follows a type and the name x: the parameters of a function, or globals where no `extern` stands
pub data ReadsNamed : Bool → Width → RawName → Nesting → List Terminal → List RawItem → List Terminal → Nesting → Type 0 where
  number_function : {ts us rest : List Terminal} {a b : Nesting} {may : Bool} {w : Width} {x : RawName} {items : List RawItem}
      → Next kinds.OpenParen ts us → ReadsParams (head_of x Int w) may a us items rest b → ReadsNamed may w x a ts items rest b
  globals : {ts rest : List Terminal} {a : Nesting} {w : Width} {x : RawName} {items : List RawItem} → ReadsGlobals w x ts items rest → ReadsNamed true w x a ts items rest a

pub data ReadsTyped : Bool → Width → Nesting → List Terminal → List RawItem → List Terminal → Nesting → Type 0 where
  typed : {ts us rest : List Terminal} {a b : Nesting} {may : Bool} {w : Width} {x : RawName} {items : List RawItem}
      → ReadsName ts x us → ReadsNamed may w x a us items rest b → ReadsTyped may w a ts items rest b

-- name "=" "PTHREAD_MUTEX_INITIALIZER" ";"
pub data ReadsMutexName : List Terminal → List RawItem → List Terminal → Type 0 where
  mutex_name : {ts us vs ws rest : List Terminal} {x : RawName}
      → ReadsName ts x us → Next kinds.Equals us vs → Next kinds.Initializer vs ws → Next kinds.Semicolon ws rest → ReadsMutexName ts (tops.Mutex x ∷ []) rest

-- an item behind `static` or `extern`; behind `extern` stands a prototype, and it has no body
pub data ReadsOuter : Bool → Nesting → List Terminal → List RawItem → List Terminal → Nesting → Type 0 where
  number_item : {ts us rest : List Terminal} {a b : Nesting} {may : Bool} {w : Width} {items : List RawItem}
      → ReadsType ts w us → ReadsTyped may w a us items rest b → ReadsOuter may a ts items rest b
  void_item : {ts us rest : List Terminal} {a b : Nesting} {may : Bool} {items : List RawItem} → Next kinds.Void ts us → ReadsVoided may a us items rest b → ReadsOuter may a ts items rest b
  mutex_item : {ts us rest : List Terminal} {a : Nesting} {items : List RawItem} → Next kinds.Mutex ts us → ReadsMutexName us items rest → ReadsOuter true a ts items rest a

-- [ "static" | "extern" ] item
pub data ReadsItem : Nesting → List Terminal → List RawItem → List Terminal → Nesting → Type 0 where
  static_item : {ts us rest : List Terminal} {a b : Nesting} {items : List RawItem} → Next kinds.Static ts us → ReadsOuter true a us items rest b → ReadsItem a ts items rest b
  extern_item : {ts us rest : List Terminal} {a b : Nesting} {items : List RawItem} → Next kinds.Extern ts us → ReadsOuter false a us items rest b → ReadsItem a ts items rest b
  plain_item : {ts rest : List Terminal} {a b : Nesting} {items : List RawItem} → ReadsOuter true a ts items rest b → ReadsItem a ts items rest b

-- { item }, all of the tokens
pub data ReadsUnit : Nesting → List Terminal → List RawItem → Nesting → Type 0 where
  unit_end : {a : Nesting} → ReadsUnit a [] [] a
  unit_item : {ts us : List Terminal} {a b c : Nesting} {items more_items : List RawItem}
      → ReadsItem a ts items us b → ReadsUnit b us more_items c → ReadsUnit a ts (items ++ more_items) c

-- what the tokens spell, with nothing left; the second also keeps to the limits
abbrev pub Spells : List Terminal → List RawItem → Nesting → Type 0
Spells ts items end = ReadsUnit (within 0) ts items end

abbrev pub IsUnit : List Terminal → List RawItem → Type 0
IsUnit ts items = Spells ts items (within 0)

-- faults

-- no token before the last so many is over a limit
abbrev pub IsWithin : Option ℕ → List Terminal → Type 0
IsWithin None tail = Unit {0}
IsWithin (Some left) tail = left ≤ length tail

-- the tokens begin a unit, and none of them is over a limit
pub record Begins (front : List Terminal) : Type 0 where
  pub tail : List Terminal
  pub items : List RawItem
  pub end : Nesting
  pub spells : Spells (front ++ tail) items end
  pub kept : IsWithin end.over tail

-- No unit has the rest's first token after the front, however deeply it is nested; where there is none, the
-- front is no unit.
abbrev pub NoneHolds : List Terminal → List Terminal → Type 0
NoneHolds front [] = (items : List RawItem) (end : Nesting) → Spells front items end → ⊥
NoneHolds front (t ∷ ts) = (tail : List Terminal) (items : List RawItem) (end : Nesting) → Spells (front ++ t ∷ tail) items end → ⊥

-- the rest begins with the first token that no unit holds after those before it, or is empty where a unit
-- would have to go on
pub record IsFirstBad (tokens rest : List Terminal) : Type 0 where
  pub front : List Terminal
  pub cut : tokens ≡ front ++ rest
  pub begins : Begins front
  pub none : NoneHolds front rest

-- some unit has the rest's first token after those before it, and there that token is the first over a limit
pub record IsFirstDeep (tokens rest : List Terminal) : Type 0 where
  pub front : List Terminal
  pub t : Terminal
  pub after : List Terminal
  pub tail : List Terminal
  pub items : List RawItem
  pub end : Nesting
  pub rest_is : rest ≡ t ∷ after
  pub cut : tokens ≡ front ++ rest
  pub spells : Spells (front ++ t ∷ tail) items end
  pub over : end.over ≡ Some (length (t ∷ tail))
