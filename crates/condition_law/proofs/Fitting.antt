-- What is spelled so has numbers that fit; and the two laws for expressions that texts are.
use Rattle.std.proofs.Common.{◌≡◌, ◌∙◌, sym, ℕ, ℤ, pos, int_le, Bool, true, List, Option, None, Some}
use Rattle.std.proofs.lemmas.Bool.{and_from, and_parts}
use Rattle.gob_tree.specs.Widths.{fits}
use Rattle.gob_tree.specs.declared.expr.BinOp.{BinOp}
use Rattle.gob_tree.specs.declared.expr.UnOp.{UnOp}
use Rattle.gob_tree.specs.declared.expr.Width.{Width}
use Rattle.gob_tree.specs.declared.graph.Program.{Program}
use Rattle.c_parse.specs.declared.raw.expr.RawExpr.{RawExpr}
use Rattle.c_parse.specs.declared.raw.expr.RawExpr.TheVariants.{Number, Name, Unary, Binary, Call}
use Rattle.c_parse.specs.declared.raw.expr.RawName.{RawName}
use Rattle.c_check.specs.Spelled.{is_spelled_expr, spelled_expr_step}
use Rattle.c_check.proofs.SpelledStmts.{spell_level}
use Rattle.c_check.proofs.SpelledTokens.{tokens_plain}
use Rattle.arg_graph.specs.declared.vertex.Vertex.{Vertex}
use Rattle.breakpoint_eval.specs.Laws.{HoldsAt as FittingHoldsAt, Moment, fitting_step, has_fitting_numbers}
use Rattle.breakpoint_eval.proofs.Forms.{by_forms, fold-Number, fold-Name, fold-Unary, fold-Binary, fold-Call}
use Rattle.breakpoint_eval.proofs.Watched as watched
use Rattle.condition_law.specs.Laws.{HoldsAt, NumbersFit, StopsDropNothing, WatchesDescribe}

abbrev FitsIfSpelled : RawExpr → Type 0
FitsIfSpelled e = is_spelled_expr e ≡ true → has_fitting_numbers e ≡ true

of_number : (n : ℤ) (w : Width) → FitsIfSpelled (Number n w)
of_number n w spelled =
    let parts = and_parts (int_le (pos 0) n) (fits w n) (sym (fold-Number Bool spelled_expr_step n w) ∙ spelled) in
    fold-Number Bool fitting_step n w ∙ parts.1

of_name : (x : RawName) → FitsIfSpelled (Name x)
of_name x spelled = fold-Name Bool fitting_step x

of_unary : (op : UnOp) (a : RawExpr) → FitsIfSpelled a → FitsIfSpelled (Unary op a)
of_unary op a fit spelled = fold-Unary Bool fitting_step op a ∙ fit (sym (fold-Unary Bool spelled_expr_step op a) ∙ spelled)

of_binary : (op : BinOp) (a b : RawExpr) → FitsIfSpelled a → FitsIfSpelled b → FitsIfSpelled (Binary op a b)
of_binary op a b fit fit' spelled =
    let parts = and_parts (is_spelled_expr a) (is_spelled_expr b) (sym (fold-Binary Bool spelled_expr_step op a b) ∙ spelled) in
    fold-Binary Bool fitting_step op a b ∙ and_from (has_fitting_numbers a) (has_fitting_numbers b) (fit parts.0) (fit' parts.1)

of_call : (f : RawName) (args : List RawExpr) → FitsIfSpelled (Call f args)
of_call f args spelled = fold-Call Bool fitting_step f args

fits_if_spelled : (e : RawExpr) → FitsIfSpelled e
fits_if_spelled = by_forms FitsIfSpelled of_number of_name of_unary of_binary of_call

pub numbers_fit : NumbersFit
numbers_fit text e is = fits_if_spelled e (spell_level is.spelled (tokens_plain text is.tokens is.cut)).0

-- ---- the two laws

pub watches_describe : WatchesDescribe
watches_describe p t v m text e n is = watched.watches_describe p t v m e n (numbers_fit text e is)

holds_fitting : (p : Program) (v : Vertex) (m : Moment) (cond : Option RawExpr) → HoldsAt p v m cond → FittingHoldsAt p v m cond
holds_fitting p v m None holds = tt
holds_fitting p v m (Some e) holds = (numbers_fit holds.0.0 e holds.0.1, holds.1)

pub stops_drop_nothing : StopsDropNothing
stops_drop_nothing p t breaks index b v m at there is holds =
    watched.stops_drop_nothing p t breaks index b v m at there is (holds_fitting p v m b.cond holds)
