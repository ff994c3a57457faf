-- What a tree keeps that the grammar gives: numbers have no sign and are in their width, declared names are words,
-- and the head of a `for` holds declarations of numbers and simple statements.
use Rattle.std.specs.Prelude.{◌≡◌, ℕ, pos, int_le, Bool, true, false, ◌&&◌, List, [], ◌∷◌, Option}
use Rattle.std.specs.List.{list_all}
use Rattle.std.specs.Option.{option_map_or}
use Rattle.gob_tree.specs.Widths.{fits}
use Rattle.gob_tree.specs.Words.{is_word_byte, is_word_head}
use Rattle.c_parse.specs.declared.raw.expr.RawName.{RawName}
use Rattle.c_parse.specs.declared.raw.expr.RawExpr.{RawExpr}
use Rattle.c_parse.specs.declared.raw.expr.RawExpr.TheOpen.{RawExpr-F}
use Rattle.c_parse.specs.declared.raw.expr.RawExpr.TheFolds.{fold-RawExpr}
use Rattle.c_parse.specs.declared.raw.stmt.RawStmt.TheOpen.{RawStmt-F, RawPlaced-F}
use Rattle.c_parse.specs.declared.raw.stmt.RawPlaced.{RawPlaced, fold-RawPlaced}
use Rattle.c_parse.specs.declared.raw.unit.RawHead.{RawHead}
use Rattle.c_parse.specs.declared.raw.unit.RawItem.{RawItem}
use Rattle.c_parse.specs.declared.raw.unit.RawItem.TheVariants as items
use Rattle.c_parse.specs.declared.raw.unit.RawParam.{RawParam}
use Rattle.c_check.specs.Bodies.{return_value}

-- a word, by a test: a letter or `_`, and then letters, digits and `_`
abbrev pub is_word : List ℕ → Bool
is_word [] = false
is_word (head ∷ tail) = is_word_head head && list_all is_word_byte tail

abbrev pub spelled_expr_step : RawExpr-F Bool → Bool
spelled_expr_step (RawExpr-F.Number n w) = int_le (pos 0) n && fits w n
spelled_expr_step (RawExpr-F.Name x) = true
spelled_expr_step (RawExpr-F.Unary op a) = a
spelled_expr_step (RawExpr-F.Binary op a b) = a && b
spelled_expr_step (RawExpr-F.Call f args) = list_all (λ spelled. spelled) args

abbrev pub is_spelled_expr : RawExpr → Bool
is_spelled_expr = fold-RawExpr Bool spelled_expr_step

abbrev pub is_spelled_or_missing : Option RawExpr → Bool
is_spelled_or_missing e = option_map_or is_spelled_expr e true

-- whether a statement may stand in the head of a `for`, and whether it is spelled so
pub record Spelling : Type 0 where
  pub heads_for : Bool
  pub spelled : Bool

abbrev pub heads_for_step : RawStmt-F Spelling Spelling → Bool
heads_for_step (RawStmt-F.Declare w x e) = true
heads_for_step (RawStmt-F.Assign x e) = true
heads_for_step (RawStmt-F.CallOnly f args) = true
heads_for_step (RawStmt-F.Create t f) = true
heads_for_step (RawStmt-F.Join t) = true
heads_for_step (RawStmt-F.Lock m) = true
heads_for_step (RawStmt-F.Unlock m) = true
heads_for_step (RawStmt-F.Assert e) = true
heads_for_step other = false

abbrev pub is_head_part : Spelling → Bool
is_head_part s = s.heads_for && s.spelled

abbrev pub spelled_step : RawStmt-F Spelling Spelling → Bool
spelled_step (RawStmt-F.Declare w x e) = is_word x.text && is_spelled_or_missing e
spelled_step (RawStmt-F.DeclareThread x) = is_word x.text
spelled_step (RawStmt-F.Assign x e) = is_spelled_expr e
spelled_step (RawStmt-F.CallOnly f args) = list_all is_spelled_expr args
spelled_step (RawStmt-F.If e a b) = is_spelled_expr e && a.spelled && option_map_or (λ s. s.spelled) b true
spelled_step (RawStmt-F.While e s) = is_spelled_expr e && s.spelled
spelled_step (RawStmt-F.DoWhile s e) = s.spelled && is_spelled_expr e
spelled_step (RawStmt-F.For first test last s) =
    list_all is_head_part first && is_spelled_or_missing test && option_map_or is_head_part last true && s.spelled
spelled_step (RawStmt-F.Block all) = list_all (λ s. s.spelled) all
spelled_step (RawStmt-F.Return r) = is_spelled_or_missing (return_value r)
spelled_step (RawStmt-F.Assert e) = is_spelled_expr e
spelled_step other = true

abbrev pub spelling_step : RawStmt-F Spelling Spelling → Spelling
spelling_step s = record { heads_for = heads_for_step s; spelled = spelled_step s }

abbrev pub placed_spelling : RawPlaced-F Spelling Spelling → Spelling
placed_spelling p = p.stmt

abbrev pub spelling_of : RawPlaced → Spelling
spelling_of = fold-RawPlaced Spelling Spelling spelling_step placed_spelling

abbrev pub is_spelled : RawPlaced → Bool
is_spelled s = (spelling_of s).spelled

-- a parameter of a prototype may have no name
abbrev pub is_spelled_param : RawParam → Bool
is_spelled_param p = option_map_or (λ (x : RawName). is_word x.text) p.name true

abbrev pub is_spelled_head : RawHead → Bool
is_spelled_head h = is_word h.name.text && list_all is_spelled_param h.params

abbrev pub is_spelled_item : RawItem → Bool
is_spelled_item (items.Global x w v literal) = is_word x.text
is_spelled_item (items.Mutex x) = is_word x.text
is_spelled_item (items.Prototype h) = is_spelled_head h
is_spelled_item (items.Function h end body) = is_spelled_head h && list_all is_spelled body

abbrev pub IsSpelled : List RawItem → Type 0
IsSpelled all = list_all is_spelled_item all ≡ true
