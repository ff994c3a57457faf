-- An expression without a fault becomes one that may stand in its function.
use Rattle.std.proofs.Common.{◌≡◌, refl, sym, ap, ◌∙◌, Bool, true, List, [], ◌∷◌, length, map, Option, None, Some}
use Rattle.std.specs.List.{AllByRecursion, list_all}
use Rattle.std.proofs.lemmas.Bool.{and_parts, and_from}
use Rattle.std.proofs.lemmas.List.{length-map}
use Rattle.std.proofs.lemmas.List.Folds.{list_all-map}
use Rattle.gob_tree.specs.WellMade.{is_made_expr, is_made_or_missing, expr_step}
use Rattle.gob_tree.specs.declared.expr.Expr.{Expr}
use Rattle.gob_tree.specs.declared.unit.Function.{Function}
use Rattle.gob_tree.specs.declared.unit.Unit.{Unit as TranslationUnit}
use Rattle.gob_tree.proofs.Folds as tree
use Rattle.c_parse.specs.declared.raw.expr.RawExpr.{RawExpr}
use Rattle.c_check.specs.declared.fault.FrontFault.{FrontFault}
use Rattle.c_check.specs.Names.{FileNames, BodyNames, meaning}
use Rattle.c_check.specs.Bodies.{expr_faults, expr_faults_step, expr_of, expr_of_step, optional_faults, optional_of, args_faults}
use Rattle.c_check.specs.Spelled.{spelled_expr_step, is_spelled_expr, is_spelled_or_missing}
use Rattle.c_check.proofs.RawFolds.{fold-Number, fold-Name, fold-Unary, fold-Binary, fold-Call}
use Rattle.c_check.proofs.WellMadeInduct.{by_forms}
use Rattle.c_check.proofs.WellMadeNames.{nil_left, nil_right, each_nil, each_mapped_nil, FileFits, Fine, means, number_made, call_made}

module _ (unit : TranslationUnit) (f : Function) (file : FileNames) (body : BodyNames) (fits : FileFits unit f file) (fine : Fine f body) where
  Made : RawExpr → Type 0
  Made e = is_spelled_expr e ≡ true → expr_faults file body e ≡ [] → is_made_expr unit f (expr_of file body e) ≡ true

  all_made : (es : List RawExpr) → AllByRecursion Made es → list_all is_spelled_expr es ≡ true → AllByRecursion (λ e. expr_faults file body e ≡ []) es → list_all (is_made_expr unit f) (map (expr_of file body) es) ≡ true
  unfolding Made
  all_made [] all s n = refl
  all_made (e ∷ es) all s n = let spelled = and_parts _ _ s in and_from _ _ (all.0 spelled.0 n.0) (all_made es all.1 spelled.1 n.1)

  expr_is_made : (e : RawExpr) → Made e
  unfolding Made
  expr_is_made = by_forms Made
      (λ n w s _. ap (is_made_expr unit f) (fold-Number Expr (expr_of_step file body) n w) ∙ tree.fold-Number Bool (expr_step unit f) n w ∙ sym (fold-Number Bool spelled_expr_step n w) ∙ s)
      (λ x s n. ap (is_made_expr unit f) (fold-Name Expr (expr_of_step file body) x)
      ∙ number_made unit f x.text x.place (meaning file body x.text) (means unit f file body fits fine x.text) (sym (fold-Name (List FrontFault) (expr_faults_step file body) x) ∙ n))
      (λ op a ha s n. ap (is_made_expr unit f) (fold-Unary Expr (expr_of_step file body) op a) ∙ tree.fold-Unary Bool (expr_step unit f) op (expr_of file body a)
      ∙ ha (sym (fold-Unary Bool spelled_expr_step op a) ∙ s) (sym (fold-Unary (List FrontFault) (expr_faults_step file body) op a) ∙ n))
      (λ op a b ha hb s n.
      let spelled = and_parts _ _ (sym (fold-Binary Bool spelled_expr_step op a b) ∙ s) in
      let none = sym (fold-Binary (List FrontFault) (expr_faults_step file body) op a b) ∙ n in
      ap (is_made_expr unit f) (fold-Binary Expr (expr_of_step file body) op a b) ∙ tree.fold-Binary Bool (expr_step unit f) op (expr_of file body a) (expr_of file body b)
      ∙ and_from _ _ (ha spelled.0 (nil_left _ _ none)) (hb spelled.1 (nil_right _ _ none)))
      (λ x args all s n.
      let spelled = sym (fold-Call Bool spelled_expr_step x args) ∙ s in
      let none = sym (fold-Call (List FrontFault) (expr_faults_step file body) x args) ∙ n in
      ap (is_made_expr unit f) (fold-Call Expr (expr_of_step file body) x args)
      ∙ call_made unit f x.text x.place (meaning file body x.text) (map (expr_of file body) args) (length (map (expr_faults file body) args))
      (length-map args (expr_faults file body) ∙ sym (length-map args (expr_of file body)))
      (means unit f file body fits fine x.text) (nil_left _ _ none)
      (all_made args all (sym (list_all-map (λ spelled. spelled) is_spelled_expr args) ∙ spelled) (each_mapped_nil (expr_faults file body) args (nil_right _ _ none))))

  pub expr_made : (e : RawExpr) → is_spelled_expr e ≡ true → expr_faults file body e ≡ [] → is_made_expr unit f (expr_of file body e) ≡ true
  unfolding Made
  expr_made e = expr_is_made e

  pub optional_made : (e : Option RawExpr) → is_spelled_or_missing e ≡ true → optional_faults file body e ≡ [] → is_made_or_missing unit f (optional_of file body e) ≡ true
  optional_made None s n = refl
  optional_made (Some e) s n = expr_made e s n

  every_made : (es : List RawExpr) → AllByRecursion Made es
  every_made [] = tt
  every_made (e ∷ es) = (expr_is_made e, every_made es)

  pub args_made : (es : List RawExpr) → list_all is_spelled_expr es ≡ true → args_faults file body es ≡ [] → list_all (is_made_expr unit f) (map (expr_of file body) es) ≡ true
  args_made es s n = all_made es (every_made es) s (each_nil (expr_faults file body) es n)
