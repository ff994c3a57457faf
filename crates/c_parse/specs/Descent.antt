-- What the functions of the descent tell beside the relations of the grammar: parts of a production, and
-- lists that are read onto what stands before them. No public promise speaks of it.
use Rattle.std.specs.Prelude.{◌≡◌, ◌≤◌, ◌<◌, ℕ, suc, Bool, List, [], ◌∷◌, ◌++◌, length, Option}
use Rattle.gob_tree.specs.declared.expr.Width.{Width}
use Rattle.gob_tree.specs.declared.place.Place.{Place}
use Rattle.c_parse.specs.declared.raw.expr.RawName.{RawName}
use Rattle.c_parse.specs.declared.raw.expr.RawExpr.{RawExpr}
use Rattle.c_parse.specs.declared.raw.stmt.RawStmt.{RawStmt}
use Rattle.c_parse.specs.declared.raw.stmt.RawPlaced.{RawPlaced}
use Rattle.c_parse.specs.declared.raw.unit.RawHead.{RawHead}
use Rattle.c_parse.specs.declared.raw.unit.RawItem.{RawItem}
use Rattle.c_parse.specs.declared.stop.Sign.TheVariants as signs
use Rattle.c_parse.specs.declared.terminal.Kind.{Kind}
use Rattle.c_parse.specs.declared.terminal.Kind.TheVariants as kinds
use Rattle.c_parse.specs.declared.terminal.Terminal.{Terminal}
use Rattle.c_parse.specs.Grammar.{Next, ReadsName, ReadsInitial, ReadsMoreLocals, ReadsNumbers, ReadsMoreThreads, ReadsThreads, ReadsDecl, ReadsSimple, ReadsBare, ReadsGlobals, ReadsMoreGlobals, ReadsParam, ReadsMoreParams, ReadsNamed, ReadsTyped, ReadsOuter, ReadsItem, declared, within}
use Rattle.c_parse.specs.Machine.{Part, sign, ident, condition, stmt, otherwise, do_end, first, test, last, globals, more_globals, param, more_params, run}

-- what follows a word of a simple statement, and of a statement of depth d
pub record SimpleAfter (k : Kind) (ts : List Terminal) (s : RawStmt) (rest : List Terminal) : Type 0 where
  pub reads : (front : List Terminal) → Next k front ts → ReadsSimple (within 0) front s rest (within 0)

pub record BareAfter (d : ℕ) (k : Kind) (ts : List Terminal) (s : RawStmt) (rest : List Terminal) : Type 0 where
  pub reads : (front : List Terminal) → Next k front ts → ReadsBare d (within 0) front s rest (within 0)

abbrev pub create_row : List Part
create_row = sign signs.OpenParen ∷ sign signs.Ampersand ∷ ident ∷ sign signs.Comma ∷ sign signs.Null ∷ sign signs.Comma ∷ ident ∷ sign signs.Comma ∷ sign signs.Null ∷ sign signs.CloseParen ∷ []

abbrev pub join_row : List Part
join_row = sign signs.OpenParen ∷ ident ∷ sign signs.Comma ∷ sign signs.Null ∷ sign signs.CloseParen ∷ []

abbrev pub if_row : ℕ → List Part
if_row d = condition ∷ stmt (suc d) ∷ otherwise (suc d) ∷ []

abbrev pub while_row : ℕ → List Part
while_row d = condition ∷ stmt (suc d) ∷ []

abbrev pub do_row : ℕ → List Part
do_row d = stmt (suc d) ∷ do_end ∷ []

abbrev pub for_row : ℕ → List Part
for_row d = sign signs.OpenParen ∷ first ∷ test ∷ last ∷ stmt (suc d) ∷ []

-- simple ";"
pub record ReadsEnded (ts : List Terminal) (s : RawStmt) (rest : List Terminal) : Type 0 where
  pub mid : List Terminal
  pub reads : ReadsSimple (within 0) ts s mid (within 0)
  pub next : Next kinds.Semicolon mid rest

-- one name of a declaration of numbers: name [ "=" expr ]
pub record ReadsLocal (here : Place) (w : Width) (ts : List Terminal) (p : RawPlaced) (rest : List Terminal) : Type 0 where
  pub mid : List Terminal
  pub x : RawName
  pub i : Option RawExpr
  pub name : ReadsName ts x mid
  pub initial : ReadsInitial (within 0) mid i rest (within 0)
  pub is : p ≡ declared here w x i

-- lists that go on from those in front
pub record MoreLocalsOnto (w : Width) (front : List RawPlaced) (ts : List Terminal) (all : List RawPlaced) (rest : List Terminal) : Type 0 where
  pub some : List RawPlaced
  pub is : all ≡ front ++ some
  pub reads : ReadsMoreLocals w (within 0) ts some rest (within 0)

pub record NumbersOnto (front : List RawPlaced) (ts : List Terminal) (all : List RawPlaced) (rest : List Terminal) : Type 0 where
  pub some : List RawPlaced
  pub is : all ≡ front ++ some
  pub reads : ReadsNumbers (within 0) ts some rest (within 0)

pub record MoreThreadsOnto (front : List RawPlaced) (ts : List Terminal) (all : List RawPlaced) (rest : List Terminal) : Type 0 where
  pub some : List RawPlaced
  pub is : all ≡ front ++ some
  pub reads : ReadsMoreThreads ts some rest

pub record ThreadsOnto (here : Place) (front : List RawPlaced) (ts : List Terminal) (all : List RawPlaced) (rest : List Terminal) : Type 0 where
  pub some : List RawPlaced
  pub is : all ≡ front ++ some
  pub reads : ReadsThreads here ts some rest

pub record DeclOnto (front : List RawPlaced) (ts : List Terminal) (all : List RawPlaced) (rest : List Terminal) : Type 0 where
  pub some : List RawPlaced
  pub is : all ≡ front ++ some
  pub reads : ReadsDecl (within 0) ts some rest (within 0)

-- a global of a declaration, up to what follows it
pub record ReadsGlobal (w : Width) (x : RawName) (ts : List Terminal) (item : RawItem) (rest : List Terminal) : Type 0 where
  pub reads : (more : List RawItem) (left : List Terminal) → ReadsMoreGlobals w rest more left → ReadsGlobals w x ts (item ∷ more) left
  pub runs : (below : List Part) → run (globals ∷ below) (within 0) ts ≡ run (more_globals ∷ below) (within 0) rest
  pub short : length rest ≤ length ts

pub record MoreGlobalsOnto (w : Width) (front : List RawItem) (ts : List Terminal) (all : List RawItem) (rest : List Terminal) : Type 0 where
  pub some : List RawItem
  pub is : all ≡ front ++ some
  pub reads : ReadsMoreGlobals w ts some rest

pub record GlobalsOnto (w : Width) (x : RawName) (front : List RawItem) (ts : List Terminal) (all : List RawItem) (rest : List Terminal) : Type 0 where
  pub some : List RawItem
  pub is : all ≡ front ++ some
  pub reads : ReadsGlobals w x ts some rest

-- a parameter, up to what follows it: the head with it, and whether a body may still stand
pub record ReadsOneParam (h : RawHead) (may : Bool) (ts : List Terminal) (now : RawHead) (still : Bool) (rest : List Terminal) : Type 0 where
  pub reads : (item : RawItem) (left : List Terminal) → ReadsMoreParams now still (within 0) rest (item ∷ []) left (within 0) → ReadsParam h may (within 0) ts (item ∷ []) left (within 0)
  pub runs : (below : List Part) → run (param may ∷ below) (within 0) ts ≡ run (more_params still ∷ below) (within 0) rest
  pub short : length rest < length ts

pub record NamedOnto (may : Bool) (w : Width) (x : RawName) (front : List RawItem) (ts : List Terminal) (all : List RawItem) (rest : List Terminal) : Type 0 where
  pub some : List RawItem
  pub is : all ≡ front ++ some
  pub reads : ReadsNamed may w x (within 0) ts some rest (within 0)

pub record TypedOnto (may : Bool) (w : Width) (front : List RawItem) (ts : List Terminal) (all : List RawItem) (rest : List Terminal) : Type 0 where
  pub some : List RawItem
  pub is : all ≡ front ++ some
  pub reads : ReadsTyped may w (within 0) ts some rest (within 0)

pub record OuterOnto (may : Bool) (front : List RawItem) (ts : List Terminal) (all : List RawItem) (rest : List Terminal) : Type 0 where
  pub some : List RawItem
  pub is : all ≡ front ++ some
  pub reads : ReadsOuter may (within 0) ts some rest (within 0)

pub record ItemOnto (front : List RawItem) (ts : List Terminal) (all : List RawItem) (rest : List Terminal) : Type 0 where
  pub some : List RawItem
  pub is : all ≡ front ++ some
  pub reads : ReadsItem (within 0) ts some rest (within 0)
