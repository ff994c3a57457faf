-- The faults of an expression, form by form, and where the first one of a part is the first of the whole.
use Rattle.std.proofs.Common.{Result, ◌≡◌, refl, sym, ap, ◌∙◌, subst, ℕ, suc, ◌+◌, List, [], ◌∷◌, ◌++◌, map, length, drop}
use Rattle.std.specs.List.{flat_map}
use Rattle.gob_tree.specs.declared.expr.BinOp.{BinOp}
use Rattle.gob_tree.specs.declared.expr.Expr.{Expr}
use Rattle.c_parse.specs.declared.raw.expr.RawName.{RawName}
use Rattle.c_parse.specs.declared.raw.expr.RawExpr.{RawExpr, Binary, Call}
use Rattle.c_check.specs.declared.fault.FrontFault.{FrontFault}
use Rattle.c_check.specs.Faults.{IsFirst, Checks}
use Rattle.c_check.specs.Names.{FileNames, BodyNames, meaning}
use Rattle.c_check.specs.Rules.{value_call_faults}
use Rattle.c_check.specs.Bodies.{expr_faults_step, expr_faults, expr_of_step, expr_of, args_faults, call_of}
use Rattle.c_check.proofs.Firsts.{first_left}
use Rattle.c_check.proofs.RawFolds.{fold-Binary, fold-Call}

module _ (file : FileNames) (body : BodyNames) where
  flat-map : (es : List RawExpr) → flat_map (λ faults. faults) (map (expr_faults file body) es) ≡ args_faults file body es
  flat-map [] = refl
  flat-map (e ∷ es) = ap (λ (fs : List FrontFault). expr_faults file body e ++ fs) (flat-map es)

  length-faults : (es : List RawExpr) → length (map (expr_faults file body) es) ≡ length es
  length-faults [] = refl
  length-faults (e ∷ es) = ap suc (length-faults es)

  pub faults-Binary : (op : BinOp) (a b : RawExpr) → expr_faults file body (Binary op a b) ≡ expr_faults file body a ++ expr_faults file body b
  faults-Binary op a b = fold-Binary (List FrontFault) (expr_faults_step file body) op a b

  pub faults-Call : (f : RawName) (args : List RawExpr) → expr_faults file body (Call f args) ≡ value_call_faults file body f (length args) ++ args_faults file body args
  faults-Call f args =
      fold-Call (List FrontFault) (expr_faults_step file body) f args
      ∙ ap (λ (n : ℕ). value_call_faults file body f n ++ flat_map (λ faults. faults) (map (expr_faults file body) args)) (length-faults args)
      ∙ ap (λ (fs : List FrontFault). value_call_faults file body f (length args) ++ fs) (flat-map args)

  pub of-Call : (f : RawName) (args : List RawExpr) → expr_of file body (Call f args) ≡ call_of (meaning file body f.text) (map (expr_of file body) args)
  of-Call f args = fold-Call Expr (expr_of_step file body) f args

  -- ---- what a form answers

  pub binary_left : (fault : FrontFault) (raw : RawExpr) (op : BinOp) (a b : RawExpr) → raw ≡ Binary op a b → IsFirst fault (expr_faults file body a) → IsFirst fault (expr_faults file body raw)
  binary_left fault raw op a b is h =
      subst (λ (fs : List FrontFault). IsFirst fault fs) (sym (ap (expr_faults file body) is ∙ faults-Binary op a b)) (first_left fault _ (expr_faults file body b) h)

  pub call_done : (r : Result Expr FrontFault) (raw : RawExpr) (f : RawName) (args : List RawExpr) → raw ≡ Call f args
      → Checks r (value_call_faults file body f (length args) ++ args_faults file body args) (call_of (meaning file body f.text) (map (expr_of file body) args)) → Checks r (expr_faults file body raw) (expr_of file body raw)
  call_done r raw f args is h =
      subst (λ (e : RawExpr). Checks r (expr_faults file body e) (expr_of file body e)) (sym is)
      (rw (faults-Call f args, of-Call f args) h)

  -- ---- arguments one by one

  pub args_next : (es : List RawExpr) (i : ℕ) (e : RawExpr) → drop i es ≡ e ∷ drop (i + 1) es → args_faults file body (drop i es) ≡ expr_faults file body e ++ args_faults file body (drop (i + 1) es)
  args_next es i e is = ap (args_faults file body) is

  pub args_fault : (fault : FrontFault) (all es rest : List RawExpr) (e : RawExpr) → args_faults file body all ≡ args_faults file body es → es ≡ e ∷ rest → IsFirst fault (expr_faults file body e)
      → IsFirst fault (args_faults file body all)
  args_fault fault all es rest e same is h =
      subst (λ (fs : List FrontFault). IsFirst fault fs) (sym (same ∙ ap (args_faults file body) is)) (first_left fault _ (args_faults file body rest) h)

  pub args_go_on : (all es rest : List RawExpr) (e : RawExpr) → args_faults file body all ≡ args_faults file body es → es ≡ e ∷ rest → expr_faults file body e ≡ [] → args_faults file body all ≡ args_faults file body rest
  args_go_on all es rest e same is h = same ∙ ap (args_faults file body) is ∙ ap (λ (fs : List FrontFault). fs ++ args_faults file body rest) h
