-- Each form of expression and statement is spelled so where its parts are; and tokens whose numbers are.
use Rattle.std.proofs.Common.{◌≡◌, refl, sym, ap, ◌∙◌, ℕ, ℤ, pos, int_le, Bool, true, ◌&&◌, List, [], ◌∷◌, Option}
use Rattle.std.specs.List.{AllByRecursion, list_all}
use Rattle.std.specs.Option.{option_map, option_map_or}
use Rattle.std.proofs.lemmas.Bool.{and_parts, and_from}
use Rattle.std.proofs.lemmas.List.Folds.{list_all-map}
use Rattle.gob_tree.specs.Widths.{fits}
use Rattle.gob_tree.specs.declared.expr.Width.{Width}
use Rattle.gob_tree.specs.declared.expr.Width.TheVariants.{W32}
use Rattle.gob_tree.specs.declared.expr.UnOp.{UnOp}
use Rattle.gob_tree.specs.declared.expr.BinOp.{BinOp}
use Rattle.gob_tree.specs.declared.place.Place.{Place}
use Rattle.c_parse.specs.declared.terminal.Kind.{Kind}
use Rattle.c_parse.specs.declared.terminal.Kind.TheVariants as kinds
use Rattle.c_parse.specs.declared.terminal.Terminal.{Terminal}
use Rattle.c_parse.specs.declared.raw.expr.RawName.{RawName}
use Rattle.c_parse.specs.declared.raw.expr.RawExpr.{RawExpr}
use Rattle.c_parse.specs.declared.raw.expr.RawExpr.TheVariants as exprs
use Rattle.c_parse.specs.declared.raw.stmt.RawReturn.{RawReturn}
use Rattle.c_parse.specs.declared.raw.stmt.RawStmt.{RawStmt, fold-RawStmt}
use Rattle.c_parse.specs.declared.raw.stmt.RawStmt.TheVariants as stmts
use Rattle.c_parse.specs.declared.raw.stmt.RawPlaced.{RawPlaced}
use Rattle.c_parse.specs.Grammar as grammar
use Rattle.c_parse.specs.Grammar.{Next, ReadsName, ReadsOperator, step_of, placed, declared, thread}
use Rattle.c_check.specs.Bodies.{return_value}
use Rattle.c_check.specs.Spelled.{Spelling, is_word, is_spelled_expr, is_spelled_or_missing, is_head_part, spelled_expr_step, spelling_step, placed_spelling, spelling_of, is_spelled}
use Rattle.c_check.specs.Laws.{is_plain}
use Rattle.c_check.proofs.RawFolds.{fold-Number, fold-Name, fold-Unary, fold-Binary, fold-Call, fold-struct, fold-Declare, fold-DeclareThread, fold-Assign, fold-CallOnly, fold-If, fold-While, fold-DoWhile, fold-For, fold-Block, fold-Break, fold-Continue, fold-Return, fold-Create, fold-Join, fold-Lock, fold-Unlock, fold-Assert, fold-Empty}

-- ---- tokens

abbrev pub IsPlain : List Terminal → Type 0
IsPlain ts = AllByRecursion (λ (t : Terminal). is_plain t.kind ≡ true) ts

pub keep_next : {k : Kind} {ts rest : List Terminal} → Next k ts rest → IsPlain ts → IsPlain rest
keep_next (grammar.next e) h = h.1

pub keep_name : {ts rest : List Terminal} {x : RawName} → ReadsName ts x rest → IsPlain ts → IsPlain rest
keep_name (grammar.ident e) h = h.1

pub keep_operator : {l : ℕ} {op : BinOp} {ts rest : List Terminal} → ReadsOperator l op ts rest → IsPlain ts → IsPlain rest
keep_operator (grammar.operates e) h = h.1

pub number_plain : {v : ℤ} {w : Width} {ts rest : List Terminal} → Next (kinds.Number v w) ts rest → IsPlain ts → (int_le (pos 0) v && fits w v) ≡ true
number_plain (grammar.next e) h = ap is_plain (sym e) ∙ h.0

pub name_word : {ts rest : List Terminal} {x : RawName} → ReadsName ts x rest → IsPlain ts → is_word x.text ≡ true
name_word (grammar.ident e) h = ap is_plain (sym e) ∙ h.0

-- ---- expressions

pub number_spelled : (v : ℤ) (w : Width) → (int_le (pos 0) v && fits w v) ≡ true → is_spelled_expr (exprs.Number v w) ≡ true
number_spelled v w h = fold-Number Bool spelled_expr_step v w ∙ h

pub name_spelled : (x : RawName) → is_spelled_expr (exprs.Name x) ≡ true
name_spelled x = fold-Name Bool spelled_expr_step x

pub unary_spelled : (op : UnOp) (a : RawExpr) → is_spelled_expr a ≡ true → is_spelled_expr (exprs.Unary op a) ≡ true
unary_spelled op a h = fold-Unary Bool spelled_expr_step op a ∙ h

pub binary_spelled : (op : BinOp) (a b : RawExpr) → is_spelled_expr a ≡ true → is_spelled_expr b ≡ true → is_spelled_expr (exprs.Binary op a b) ≡ true
binary_spelled op a b h g = fold-Binary Bool spelled_expr_step op a b ∙ and_from _ _ h g

pub call_spelled : (x : RawName) (es : List RawExpr) → list_all is_spelled_expr es ≡ true → is_spelled_expr (exprs.Call x es) ≡ true
call_spelled x es h = fold-Call Bool spelled_expr_step x es ∙ list_all-map (λ spelled. spelled) is_spelled_expr es ∙ h

-- the value of `x++` and `x--`
pub step_spelled : (op : BinOp) (x : RawName) → is_spelled_expr (step_of op x) ≡ true
step_spelled op x = binary_spelled op (exprs.Name x) (exprs.Number (pos 1) W32) (name_spelled x) (number_spelled (pos 1) W32 refl)

-- ---- statements

abbrev pub spelling : RawStmt → Spelling
spelling = fold-RawStmt Spelling Spelling spelling_step placed_spelling

abbrev pub is_head : RawPlaced → Bool
is_head p = is_head_part (spelling_of p)

placed_is : (place : Place) (s : RawStmt) → spelling_of (record { place = place; stmt = s }) ≡ spelling s
placed_is place s = fold-struct Spelling Spelling spelling_step placed_spelling place s

pub placed_head : (ts : List Terminal) (s : RawStmt) → is_head_part (spelling s) ≡ true → is_head (placed ts s) ≡ true
placed_head ts s h = ap is_head_part (placed_is (placed ts s).place s) ∙ h

pub placed_spelled : (ts : List Terminal) (s : RawStmt) → (spelling s).spelled ≡ true → is_spelled (placed ts s) ≡ true
placed_spelled ts s h = ap (λ (g : Spelling). g.spelled) (placed_is (placed ts s).place s) ∙ h

pub declared_head : (here : Place) (w : Width) (x : RawName) (i : Option RawExpr) → is_word x.text ≡ true → is_spelled_or_missing i ≡ true → is_head (declared here w x i) ≡ true
declared_head here w x i is h = ap is_head_part (placed_is here (stmts.Declare w x i) ∙ fold-Declare Spelling Spelling spelling_step placed_spelling w x i) ∙ and_from _ _ is h

pub thread_spelled : (here : Place) (x : RawName) → is_word x.text ≡ true → is_spelled (thread here x) ≡ true
thread_spelled here x is = ap (λ (g : Spelling). g.spelled) (placed_is here (stmts.DeclareThread x) ∙ fold-DeclareThread Spelling Spelling spelling_step placed_spelling x) ∙ is

pub heads_spelled : (ps : List RawPlaced) → list_all is_head ps ≡ true → list_all is_spelled ps ≡ true
heads_spelled [] h = refl
heads_spelled (p ∷ ps) h = let is = and_parts _ _ h in and_from _ _ (and_parts _ _ is.0).1 (heads_spelled ps is.1)

pub assign_head : (x : RawName) (e : RawExpr) → is_spelled_expr e ≡ true → is_head_part (spelling (stmts.Assign x e)) ≡ true
assign_head x e h = ap is_head_part (fold-Assign Spelling Spelling spelling_step placed_spelling x e) ∙ h

pub call_head : (x : RawName) (es : List RawExpr) → list_all is_spelled_expr es ≡ true → is_head_part (spelling (stmts.CallOnly x es)) ≡ true
call_head x es h = ap is_head_part (fold-CallOnly Spelling Spelling spelling_step placed_spelling x es) ∙ h

pub assert_head : (e : RawExpr) → is_spelled_expr e ≡ true → is_head_part (spelling (stmts.Assert e)) ≡ true
assert_head e h = ap is_head_part (fold-Assert Spelling Spelling spelling_step placed_spelling e) ∙ h

pub create_head : (t g : RawName) → is_head_part (spelling (stmts.Create t g)) ≡ true
create_head t g = ap is_head_part (fold-Create Spelling Spelling spelling_step placed_spelling t g)

pub join_head : (t : RawName) → is_head_part (spelling (stmts.Join t)) ≡ true
join_head t = ap is_head_part (fold-Join Spelling Spelling spelling_step placed_spelling t)

pub lock_head : (m : RawName) → is_head_part (spelling (stmts.Lock m)) ≡ true
lock_head m = ap is_head_part (fold-Lock Spelling Spelling spelling_step placed_spelling m)

pub unlock_head : (m : RawName) → is_head_part (spelling (stmts.Unlock m)) ≡ true
unlock_head m = ap is_head_part (fold-Unlock Spelling Spelling spelling_step placed_spelling m)

pub empty_spelled : (spelling stmts.Empty).spelled ≡ true
empty_spelled = ap (λ (g : Spelling). g.spelled) (fold-Empty Spelling Spelling spelling_step placed_spelling)

pub break_spelled : (spelling stmts.Break).spelled ≡ true
break_spelled = ap (λ (g : Spelling). g.spelled) (fold-Break Spelling Spelling spelling_step placed_spelling)

pub continue_spelled : (spelling stmts.Continue).spelled ≡ true
continue_spelled = ap (λ (g : Spelling). g.spelled) (fold-Continue Spelling Spelling spelling_step placed_spelling)

pub return_spelled : (r : RawReturn) → is_spelled_or_missing (return_value r) ≡ true → (spelling (stmts.Return r)).spelled ≡ true
return_spelled r h = ap (λ (g : Spelling). g.spelled) (fold-Return Spelling Spelling spelling_step placed_spelling r) ∙ h

pub block_spelled : (ps : List RawPlaced) → list_all is_spelled ps ≡ true → (spelling (stmts.Block ps)).spelled ≡ true
block_spelled ps h = ap (λ (g : Spelling). g.spelled) (fold-Block Spelling Spelling spelling_step placed_spelling ps) ∙ list_all-map (λ s. s.spelled) spelling_of ps ∙ h

pub if_spelled : (e : RawExpr) (p : RawPlaced) (j : Option RawPlaced) → is_spelled_expr e ≡ true → is_spelled p ≡ true → option_map_or (λ s. s.spelled) (option_map spelling_of j) true ≡ true → (spelling (stmts.If e p j)).spelled ≡ true
if_spelled e p j h g k = ap (λ (g : Spelling). g.spelled) (fold-If Spelling Spelling spelling_step placed_spelling e p j) ∙ and_from _ _ (and_from _ _ h g) k

pub while_spelled : (e : RawExpr) (p : RawPlaced) → is_spelled_expr e ≡ true → is_spelled p ≡ true → (spelling (stmts.While e p)).spelled ≡ true
while_spelled e p h g = ap (λ (g : Spelling). g.spelled) (fold-While Spelling Spelling spelling_step placed_spelling e p) ∙ and_from _ _ h g

pub do_spelled : (p : RawPlaced) (e : RawExpr) → is_spelled p ≡ true → is_spelled_expr e ≡ true → (spelling (stmts.DoWhile p e)).spelled ≡ true
do_spelled p e h g = ap (λ (g : Spelling). g.spelled) (fold-DoWhile Spelling Spelling spelling_step placed_spelling p e) ∙ and_from _ _ h g

pub for_spelled : (ps : List RawPlaced) (i : Option RawExpr) (j : Option RawPlaced) (p : RawPlaced) → list_all is_head ps ≡ true → is_spelled_or_missing i ≡ true → option_map_or is_head_part (option_map spelling_of j) true ≡ true → is_spelled p ≡ true → (spelling (stmts.For ps i j p)).spelled ≡ true
for_spelled ps i j p h g k l =
    ap (λ (g : Spelling). g.spelled) (fold-For Spelling Spelling spelling_step placed_spelling ps i j p)
    ∙ and_from _ _ (and_from _ _ (and_from _ _ (list_all-map is_head_part spelling_of ps ∙ h) g) k) l
