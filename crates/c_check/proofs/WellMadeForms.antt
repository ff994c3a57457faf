-- Every form of statement without a fault becomes one that may stand in its function.
use Rattle.std.proofs.Common.{refl, sym, ℕ, true, List, length, map, Option}
use Rattle.std.specs.List.{AllByRecursion}
use Rattle.std.specs.Option.{option_map}
use Rattle.std.proofs.lemmas.Bool.{and_parts, and_from}
use Rattle.std.proofs.lemmas.List.{length-map}
use Rattle.gob_tree.specs.WellMade.{StmtForm, form_step, placed_step as tree_placed, form_of}
use Rattle.gob_tree.specs.declared.place.Place.{Place}
use Rattle.gob_tree.specs.declared.expr.Width.{Width}
use Rattle.gob_tree.specs.declared.stmt.Stmt.TheOpen.{Stmt-F}
use Rattle.gob_tree.specs.declared.unit.Function.{Function}
use Rattle.gob_tree.specs.declared.unit.Unit.{Unit as TranslationUnit}
use Rattle.gob_tree.proofs.StmtFolds as tree
use Rattle.c_parse.specs.declared.raw.expr.RawExpr.{RawExpr}
use Rattle.c_parse.specs.declared.raw.expr.RawName.{RawName}
use Rattle.c_parse.specs.declared.raw.stmt.RawReturn.{RawReturn}
use Rattle.c_parse.specs.declared.raw.stmt.RawStmt.TheOpen.{RawStmt-F}
use Rattle.c_parse.specs.declared.raw.stmt.RawPlaced.{RawPlaced}
use Rattle.c_check.specs.Names.{FileNames, BodyNames, meaning, with_local, opened, closed}
use Rattle.c_check.specs.Bodies.{expr_of, optional_of, expr_faults, target_of, function_number, thread_number, mutex_number, sequence_becomes, sequence_after, part_becomes, return_value, reading_step, reading_of}
use Rattle.c_check.specs.Spelled.{spelling_step, spelling_of}
use Rattle.c_check.proofs.WellMadeExprs.{args_made}
use Rattle.c_check.proofs.WellMadeNames.{nil_left, nil_right, asks_true, Told, Means, FileFits, Fine, means, target_made, thread_made, mutex_made, started_made, plain_call_made}
use Rattle.c_check.proofs.WellMadeScopes.{Within, grows_then, within_before, grows_local, grows_thread, fine_local, fine_thread, fine_opened, fine_closed, grows_block, within_block}
use Rattle.c_check.proofs.WellMadeStmts.{Behaves, PlacedBehaves, PartBehaves, seq_grows, seq_fine, seq_made, part_grows, part_fine, part_made, shown, simple, compound, expr, optional, return_made}

module _ (unit : TranslationUnit) (f : Function) (file : FileNames) (fits : FileFits unit f file) where
  told : (body : BodyNames) → Fine f body → (x : List ℕ) → Told (Means unit f x) (meaning file body x)
  told body fine x = means unit f file body fits fine x

  pub declare : (w : Width) (x : RawName) (e : Option RawExpr) (place : Place) → Behaves unit f (reading_step file (RawStmt-F.Declare w x e) place) (spelling_step (RawStmt-F.Declare w x e))
  declare w x e place = compound unit f file fits _ _ (λ body. Stmt-F.Declare (length body.slots) (optional_of file (with_local x.text w body) e))
      (λ body. shown unit f file fits place _ _ (tree.fold-Declare StmtForm StmtForm (form_step unit f) tree_placed (length body.slots) (optional_of file (with_local x.text w body) e)))
      (λ body. grows_local x.text w body)
      (λ body fine within. fine_local f x.text w body fine within)
      (λ is body. refl)
      (λ spelled inside body fine within none.
      let after = fine_local f x.text w body fine within in
      and_from _ _ after.visible.0 (optional unit f file fits (with_local x.text w body) after e (and_parts _ _ spelled).1 (nil_right _ _ none)))

  pub declare_thread : (x : RawName) (place : Place) → Behaves unit f (reading_step file (RawStmt-F.DeclareThread x) place) (spelling_step (RawStmt-F.DeclareThread x))
  declare_thread x place = compound unit f file fits _ _ (λ body. Stmt-F.DeclareThread (length body.threads))
      (λ body. shown unit f file fits place _ _ (tree.fold-DeclareThread StmtForm StmtForm (form_step unit f) tree_placed (length body.threads)))
      (λ body. grows_thread x.text body)
      (λ body fine within. fine_thread f x.text body fine within)
      (λ is body. cc)
      (λ spelled inside body fine within none. (fine_thread f x.text body fine within).visible.0)

  pub assign : (x : RawName) (e : RawExpr) (place : Place) → Behaves unit f (reading_step file (RawStmt-F.Assign x e) place) (spelling_step (RawStmt-F.Assign x e))
  assign x e place = simple unit f file fits _ _ (λ body. Stmt-F.Assign (target_of (meaning file body x.text)) (expr_of file body e))
      (λ body. shown unit f file fits place _ _ (tree.fold-Assign StmtForm StmtForm (form_step unit f) tree_placed (target_of (meaning file body x.text)) (expr_of file body e)))
      (λ body. refl)
      (λ is body. refl)
      (λ spelled inside body fine none.
      target_made unit f x.text x.place (meaning file body x.text) (expr_of file body e) inside (told body fine x.text) (nil_left _ _ none) (expr unit f file fits body fine e spelled (nil_right _ _ none)))

  pub call_only : (x : RawName) (args : List RawExpr) (place : Place) → Behaves unit f (reading_step file (RawStmt-F.CallOnly x args) place) (spelling_step (RawStmt-F.CallOnly x args))
  call_only x args place = simple unit f file fits _ _ (λ body. Stmt-F.CallOnly (function_number (meaning file body x.text)) (map (expr_of file body) args))
      (λ body. shown unit f file fits place _ _ (tree.fold-CallOnly StmtForm StmtForm (form_step unit f) tree_placed (function_number (meaning file body x.text)) (map (expr_of file body) args)))
      (λ body. refl)
      (λ is body. refl)
      (λ spelled inside body fine none.
      plain_call_made unit f x.text x.place (meaning file body x.text) (map (expr_of file body) args) (length args) inside (sym (length-map args (expr_of file body))) (told body fine x.text) (nil_left _ _ none)
      (args_made unit f file body fits fine args spelled (nil_right _ _ none)))

  pub returns : (r : RawReturn) (place : Place) → Behaves unit f (reading_step file (RawStmt-F.Return r) place) (spelling_step (RawStmt-F.Return r))
  returns r place = simple unit f file fits _ _ (λ body. Stmt-F.Return (optional_of file body (return_value r)))
      (λ body. shown unit f file fits place _ _ (tree.fold-Return StmtForm StmtForm (form_step unit f) tree_placed (optional_of file body (return_value r))))
      (λ body. refl)
      (λ is body. cc)
      (λ spelled inside body fine none. return_made unit f file fits r place inside body fine spelled none)

  pub create : (t g : RawName) (place : Place) → Behaves unit f (reading_step file (RawStmt-F.Create t g) place) (spelling_step (RawStmt-F.Create t g))
  create t g place = simple unit f file fits _ _ (λ body. Stmt-F.Create (thread_number (meaning file body t.text)) (function_number (meaning file body g.text)))
      (λ body. shown unit f file fits place _ _ (tree.fold-Create StmtForm StmtForm (form_step unit f) tree_placed (thread_number (meaning file body t.text)) (function_number (meaning file body g.text))))
      (λ body. refl)
      (λ is body. refl)
      (λ spelled inside body fine none.
      and_from _ _ (thread_made unit f t.text t.place (meaning file body t.text) (told body fine t.text) (nil_left _ _ none))
      (started_made unit f g.text g.place (meaning file body g.text) (told body fine g.text) (nil_right _ _ none)))

  pub join : (t : RawName) (place : Place) → Behaves unit f (reading_step file (RawStmt-F.Join t) place) (spelling_step (RawStmt-F.Join t))
  join t place = simple unit f file fits _ _ (λ body. Stmt-F.Join (thread_number (meaning file body t.text)))
      (λ body. shown unit f file fits place _ _ (tree.fold-Join StmtForm StmtForm (form_step unit f) tree_placed (thread_number (meaning file body t.text))))
      (λ body. refl)
      (λ is body. refl)
      (λ spelled inside body fine none. thread_made unit f t.text t.place (meaning file body t.text) (told body fine t.text) none)

  pub lock : (m : RawName) (place : Place) → Behaves unit f (reading_step file (RawStmt-F.Lock m) place) (spelling_step (RawStmt-F.Lock m))
  lock m place = simple unit f file fits _ _ (λ body. Stmt-F.Lock (mutex_number (meaning file body m.text)))
      (λ body. shown unit f file fits place _ _ (tree.fold-Lock StmtForm StmtForm (form_step unit f) tree_placed (mutex_number (meaning file body m.text))))
      (λ body. refl)
      (λ is body. refl)
      (λ spelled inside body fine none. mutex_made unit f m.text m.place (meaning file body m.text) (told body fine m.text) none)

  pub unlock : (m : RawName) (place : Place) → Behaves unit f (reading_step file (RawStmt-F.Unlock m) place) (spelling_step (RawStmt-F.Unlock m))
  unlock m place = simple unit f file fits _ _ (λ body. Stmt-F.Unlock (mutex_number (meaning file body m.text)))
      (λ body. shown unit f file fits place _ _ (tree.fold-Unlock StmtForm StmtForm (form_step unit f) tree_placed (mutex_number (meaning file body m.text))))
      (λ body. refl)
      (λ is body. refl)
      (λ spelled inside body fine none. mutex_made unit f m.text m.place (meaning file body m.text) (told body fine m.text) none)

  pub asserts : (e : RawExpr) (place : Place) → Behaves unit f (reading_step file (RawStmt-F.Assert e) place) (spelling_step (RawStmt-F.Assert e))
  asserts e place = simple unit f file fits _ _ (λ body. Stmt-F.Assert (expr_of file body e))
      (λ body. shown unit f file fits place _ _ (tree.fold-Assert StmtForm StmtForm (form_step unit f) tree_placed (expr_of file body e)))
      (λ body. refl)
      (λ is body. refl)
      (λ spelled inside body fine none. expr unit f file fits body fine e spelled none)

  pub break_out : (place : Place) → Behaves unit f (reading_step file RawStmt-F.Break place) (spelling_step RawStmt-F.Break)
  break_out place = simple unit f file fits _ _ (λ body. Stmt-F.Break)
      (λ body. shown unit f file fits place _ _ (tree.fold-Break StmtForm StmtForm (form_step unit f) tree_placed))
      (λ body. refl)
      (λ is body. cc)
      (λ spelled inside body fine none. asks_true inside _ place none)

  pub next_round : (place : Place) → Behaves unit f (reading_step file RawStmt-F.Continue place) (spelling_step RawStmt-F.Continue)
  next_round place = simple unit f file fits _ _ (λ body. Stmt-F.Continue)
      (λ body. shown unit f file fits place _ _ (tree.fold-Continue StmtForm StmtForm (form_step unit f) tree_placed))
      (λ body. refl)
      (λ is body. cc)
      (λ spelled inside body fine none. asks_true inside _ place none)

  pub empty : (place : Place) → Behaves unit f (reading_step file RawStmt-F.Empty place) (spelling_step RawStmt-F.Empty)
  empty place = simple unit f file fits _ _ (λ body. Stmt-F.Empty)
      (λ body. shown unit f file fits place _ _ (tree.fold-Empty StmtForm StmtForm (form_step unit f) tree_placed))
      (λ body. refl)
      (λ is body. cc)
      (λ spelled inside body fine none. refl)

  -- ---- those with parts

  pub branches : (e : RawExpr) (p : RawPlaced) (j : Option RawPlaced) (place : Place) → PlacedBehaves unit f file p → PartBehaves unit f file j → Behaves unit f (reading_step file (RawStmt-F.If e (reading_of file p) (option_map (reading_of file) j)) place) (spelling_step (RawStmt-F.If e (spelling_of p) (option_map spelling_of j)))
  branches e p j place hp hj =
      let a = reading_of file p in
      let b = option_map (reading_of file) j in
      compound unit f file fits _ _ (λ body. Stmt-F.If (expr_of file body e) (form_of unit f (a.becomes body)) (option_map (form_of unit f) (part_becomes b (a.after body))))
      (λ body. shown unit f file fits place _ _ (tree.fold-If StmtForm StmtForm (form_step unit f) tree_placed (expr_of file body e) (a.becomes body) (part_becomes b (a.after body))))
      (λ body. grows_then body (a.after body) _ (hp.grows body) (part_grows unit f file fits j hj (a.after body)))
      (λ body fine within. part_fine unit f file fits j hj (a.after body) (hp.fine body fine (within_before f (a.after body) _ (part_grows unit f file fits j hj (a.after body)) within)) within)
      (λ is body. cc)
      (λ spelled inside body fine within none.
      let is = and_parts _ _ spelled in
      let heads = and_parts _ _ is.0 in
      let first = within_before f (a.after body) _ (part_grows unit f file fits j hj (a.after body)) within in
      let rest = nil_right (expr_faults file body e) _ none in
      and_from _ _ (and_from _ _ (expr unit f file fits body fine e heads.0 (nil_left _ _ none)) (hp.made heads.1 inside body fine first (nil_left _ _ rest)))
      (part_made unit f file fits j hj is.1 inside (a.after body) (hp.fine body fine first) within (nil_right _ _ rest)))

  pub while_loop : (e : RawExpr) (p : RawPlaced) (place : Place) → PlacedBehaves unit f file p → Behaves unit f (reading_step file (RawStmt-F.While e (reading_of file p)) place) (spelling_step (RawStmt-F.While e (spelling_of p)))
  while_loop e p place hp =
      let a = reading_of file p in
      compound unit f file fits _ _ (λ body. Stmt-F.While (expr_of file body e) (form_of unit f (a.becomes body)))
      (λ body. shown unit f file fits place _ _ (tree.fold-While StmtForm StmtForm (form_step unit f) tree_placed (expr_of file body e) (a.becomes body)))
      hp.grows hp.fine
      (λ is body. cc)
      (λ spelled inside body fine within none.
      let is = and_parts _ _ spelled in
      and_from _ _ (expr unit f file fits body fine e is.0 (nil_left _ _ none)) (hp.made is.1 true body fine within (nil_right _ _ none)))

  pub do_loop : (p : RawPlaced) (e : RawExpr) (place : Place) → PlacedBehaves unit f file p → Behaves unit f (reading_step file (RawStmt-F.DoWhile (reading_of file p) e) place) (spelling_step (RawStmt-F.DoWhile (spelling_of p) e))
  do_loop p e place hp =
      let a = reading_of file p in
      compound unit f file fits _ _ (λ body. Stmt-F.DoWhile (form_of unit f (a.becomes body)) (expr_of file (a.after body) e))
      (λ body. shown unit f file fits place _ _ (tree.fold-DoWhile StmtForm StmtForm (form_step unit f) tree_placed (a.becomes body) (expr_of file (a.after body) e)))
      hp.grows hp.fine
      (λ is body. cc)
      (λ spelled inside body fine within none.
      let is = and_parts _ _ spelled in
      and_from _ _ (hp.made is.0 true body fine within (nil_left _ _ none)) (expr unit f file fits (a.after body) (hp.fine body fine within) e is.1 (nil_right _ _ none)))

  pub block : (ps : List RawPlaced) (place : Place) → AllByRecursion (PlacedBehaves unit f file) ps → Behaves unit f (reading_step file (RawStmt-F.Block (map (reading_of file) ps)) place) (spelling_step (RawStmt-F.Block (map spelling_of ps)))
  block ps place all =
      let within_all = λ (body : BodyNames) (within : Within f (closed (sequence_after (map (reading_of file) ps) (opened body)))). within_block f (sequence_after (map (reading_of file) ps) (opened body)) within in
      compound unit f file fits _ _ (λ body. Stmt-F.Block (map (form_of unit f) (sequence_becomes (map (reading_of file) ps) (opened body))))
      (λ body. shown unit f file fits place _ _ (tree.fold-Block StmtForm StmtForm (form_step unit f) tree_placed (sequence_becomes (map (reading_of file) ps) (opened body))))
      (λ body. grows_block body _ (seq_grows unit f file fits ps all (opened body)))
      (λ body fine within. fine_closed f _ (seq_fine unit f file fits ps all (opened body) (fine_opened f body fine) (within_all body within)))
      (λ is body. cc)
      (λ spelled inside body fine within none. seq_made unit f file fits ps all spelled inside (opened body) (fine_opened f body fine) (within_all body within) none)
