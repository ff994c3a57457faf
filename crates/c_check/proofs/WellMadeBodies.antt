-- Every statement without a fault becomes one that may stand in its function: by induction over its parts.
use Rattle.std.proofs.Common.{◌≡◌, sym, ap, subst, true, List, [], ◌∷◌, map, Option, None, Some}
use Rattle.std.specs.List.{AllByRecursion}
use Rattle.std.specs.Option.{option_map}
use Rattle.std.proofs.lemmas.Bool.{and_parts, and_from}
use Rattle.gob_tree.specs.WellMade.{StmtForm, form_step, placed_step as tree_placed, form_of}
use Rattle.gob_tree.specs.declared.place.Place.{Place}
use Rattle.gob_tree.specs.declared.stmt.Stmt.TheOpen.{Stmt-F}
use Rattle.gob_tree.specs.declared.unit.Function.{Function}
use Rattle.gob_tree.specs.declared.unit.Unit.{Unit as TranslationUnit}
use Rattle.gob_tree.proofs.StmtFolds as tree
use Rattle.c_parse.specs.declared.raw.expr.RawExpr.{RawExpr}
use Rattle.c_parse.specs.declared.raw.stmt.RawStmt.{RawStmt, fold-RawStmt, fold-roll-RawStmt, map-RawStmt, roll-RawStmt}
use Rattle.c_parse.specs.declared.raw.stmt.RawStmt.TheOpen.{RawStmt-F, RawPlaced-F}
use Rattle.c_parse.specs.declared.raw.stmt.RawPlaced.{RawPlaced, fold-roll-RawPlaced, ind-RawPlaced, map-RawPlaced, roll-RawPlaced}
use Rattle.c_check.specs.Names.{FileNames, BodyNames, opened}
use Rattle.c_check.specs.Bodies.{Reading, optional_of, optional_faults, sequence_faults, sequence_becomes, part_becomes, for_head, for_body, reading_step, placed_step, reading_of}
use Rattle.c_check.specs.Spelled.{Spelling, spelling_step, placed_spelling, spelling_of}
use Rattle.c_check.proofs.WellMadeNames.{nil_left, nil_right, FileFits, Fine}
use Rattle.c_check.proofs.WellMadeScopes.{Grows, Within, grows_then, within_before, fine_opened, fine_closed, grows_block, within_block}
use Rattle.c_check.proofs.WellMadeStmts.{Behaves, PlacedBehaves, PartBehaves, seq_grows, seq_fine, seq_heads, part_grows, part_fine, part_heads, shown, compound, optional}
use Rattle.c_check.proofs.WellMadeForms.{declare, declare_thread, assign, call_only, returns, create, join, lock, unlock, asserts, break_out, next_round, empty, branches, while_loop, do_loop, block}

-- the names at the parts of a `for`, each within the function and fine
record Loop (f : Function) (head before behind : BodyNames) : Type 0 where
  at_head : Within f head
  at_body : Within f before
  fine_head : Fine f head
  fine_body : Fine f before
  fine_behind : Fine f behind

module _ (unit : TranslationUnit) (f : Function) (file : FileNames) (fits : FileFits unit f file) where
  module _ (ps : List RawPlaced) (j : Option RawPlaced) (p : RawPlaced) (all : AllByRecursion (PlacedBehaves unit f file) ps) (hj : PartBehaves unit f file j) (hp : PlacedBehaves unit f file p) where
    loop_grows : (body : BodyNames) → Grows (opened body) ((reading_of file p).after (for_body (map (reading_of file) ps) (option_map (reading_of file) j) body))
    loop_grows body =
        let b1 = for_head (map (reading_of file) ps) body in
        let b2 = for_body (map (reading_of file) ps) (option_map (reading_of file) j) body in
        grows_then (opened body) b1 _ (seq_grows unit f file fits ps all (opened body)) (grows_then b1 b2 _ (part_grows unit f file fits j hj b1) (hp.grows b2))

    loop : (body : BodyNames) → Fine f body → Within f ((reading_of file p).after (for_body (map (reading_of file) ps) (option_map (reading_of file) j) body)) → Loop f (for_head (map (reading_of file) ps) body) (for_body (map (reading_of file) ps) (option_map (reading_of file) j) body) ((reading_of file p).after (for_body (map (reading_of file) ps) (option_map (reading_of file) j) body))
    loop body fine within =
        let b1 = for_head (map (reading_of file) ps) body in
        let b2 = for_body (map (reading_of file) ps) (option_map (reading_of file) j) body in
        let w2 = within_before f b2 ((reading_of file p).after b2) (hp.grows b2) within in
        let w1 = within_before f b1 b2 (part_grows unit f file fits j hj b1) w2 in
        let f1 = seq_fine unit f file fits ps all (opened body) (fine_opened f body fine) w1 in
        let f2 = part_fine unit f file fits j hj b1 f1 w2 in
        record { at_head = w1; at_body = w2; fine_head = f1; fine_body = f2; fine_behind = hp.fine b2 f2 within }

    for_loop : (test : Option RawExpr) (place : Place) → Behaves unit f (reading_step file (RawStmt-F.For (map (reading_of file) ps) test (option_map (reading_of file) j) (reading_of file p)) place) (spelling_step (RawStmt-F.For (map spelling_of ps) test (option_map spelling_of j) (spelling_of p)))
    for_loop test place =
        let first = map (reading_of file) ps in
        let last = option_map (reading_of file) j in
        let a = reading_of file p in
        compound unit f file fits _ _
        (λ body. Stmt-F.For (map (form_of unit f) (sequence_becomes first (opened body))) (optional_of file (for_head first body) test) (option_map (form_of unit f) (part_becomes last (for_head first body))) (form_of unit f (a.becomes (for_body first last body))))
        (λ body. shown unit f file fits place _ _ (tree.fold-For StmtForm StmtForm (form_step unit f) tree_placed (sequence_becomes first (opened body)) (optional_of file (for_head first body) test) (part_becomes last (for_head first body)) (a.becomes (for_body first last body))))
        (λ body. grows_block body _ (loop_grows body))
        (λ body fine within. fine_closed f _ (loop body fine (within_block f (a.after (for_body first last body)) within)).fine_behind)
        (λ is body. cc)
        (λ spelled inside body fine within none.
        let inner = within_block f (a.after (for_body first last body)) within in
        let here = loop body fine inner in
        let is = and_parts _ _ spelled in
        let heads = and_parts _ _ is.0 in
        let firsts = and_parts _ _ heads.0 in
        let rest = nil_right (sequence_faults first inside (opened body)) _ none in
        let more = nil_right (optional_faults file (for_head first body) test) _ rest in
        and_from _ _
        (and_from _ _
        (and_from _ _ (seq_heads unit f file fits ps all firsts.0 inside (opened body) (fine_opened f body fine) here.at_head (nil_left _ _ none))
        (optional unit f file fits (for_head first body) here.fine_head test firsts.1 (nil_left _ _ rest)))
        (part_heads unit f file fits j hj heads.1 inside (for_head first body) here.fine_head here.at_body (nil_left _ _ more)))
        (hp.made is.1 true (for_body first last body) here.fine_body inner (nil_right _ _ more)))

  -- ---- all statements

  abbrev StmtBehaves : RawStmt → Type 0
  StmtBehaves s = (place : Place) → Behaves unit f (fold-RawStmt (Place → Reading) Reading (reading_step file) placed_step s place) (fold-RawStmt Spelling Spelling spelling_step placed_spelling s)

  abbrev Stated : Type 0
  Stated = (s : RawStmt) × StmtBehaves s

  abbrev Part : Type 0
  Part = (p : RawPlaced) × PlacedBehaves unit f file p

  every : (ps : List Part) → AllByRecursion (PlacedBehaves unit f file) (map (λ (p : Part). p.0) ps)
  every [] = tt
  every (p ∷ ps) = (p.1, every ps)

  abbrev raw_of : RawStmt-F Stated Part → RawStmt-F RawStmt RawPlaced
  raw_of = map-RawStmt Stated Part RawStmt RawPlaced (λ s. s.0) (λ p. p.0)

  abbrev readings_of : RawStmt-F RawStmt RawPlaced → RawStmt-F (Place → Reading) Reading
  readings_of = map-RawStmt RawStmt RawPlaced (Place → Reading) Reading (fold-RawStmt (Place → Reading) Reading (reading_step file) placed_step) (reading_of file)

  abbrev spellings_of : RawStmt-F RawStmt RawPlaced → RawStmt-F Spelling Spelling
  spellings_of = map-RawStmt RawStmt RawPlaced Spelling Spelling (fold-RawStmt Spelling Spelling spelling_step placed_spelling) spelling_of

  layer : (y : RawStmt-F Stated Part) (place : Place) → Behaves unit f (reading_step file (readings_of (raw_of y)) place) (spelling_step (spellings_of (raw_of y)))
  layer (RawStmt-F.Declare w x e) place = declare unit f file fits w x e place
  layer (RawStmt-F.DeclareThread x) place = declare_thread unit f file fits x place
  layer (RawStmt-F.Assign x e) place = assign unit f file fits x e place
  layer (RawStmt-F.CallOnly x args) place = call_only unit f file fits x args place
  layer (RawStmt-F.If e a None) place = branches unit f file fits e a.0 None place a.1 tt
  layer (RawStmt-F.If e a (Some b)) place = branches unit f file fits e a.0 (Some b.0) place a.1 b.1
  layer (RawStmt-F.While e a) place = while_loop unit f file fits e a.0 place a.1
  layer (RawStmt-F.DoWhile a e) place = do_loop unit f file fits a.0 e place a.1
  layer (RawStmt-F.For first test None a) place = for_loop (map (λ (p : Part). p.0) first) None a.0 (every first) tt a.1 test place
  layer (RawStmt-F.For first test (Some last) a) place = for_loop (map (λ (p : Part). p.0) first) (Some last.0) a.0 (every first) last.1 a.1 test place
  layer (RawStmt-F.Block all) place = block unit f file fits (map (λ (p : Part). p.0) all) place (every all)
  layer RawStmt-F.Break place = break_out unit f file fits place
  layer RawStmt-F.Continue place = next_round unit f file fits place
  layer (RawStmt-F.Return r) place = returns unit f file fits r place
  layer (RawStmt-F.Create t g) place = create unit f file fits t g place
  layer (RawStmt-F.Join t) place = join unit f file fits t place
  layer (RawStmt-F.Lock m) place = lock unit f file fits m place
  layer (RawStmt-F.Unlock m) place = unlock unit f file fits m place
  layer (RawStmt-F.Assert e) place = asserts unit f file fits e place
  layer RawStmt-F.Empty place = empty unit f file fits place

  stmt_rolled : (x : RawStmt-F RawStmt RawPlaced) (y : RawStmt-F Stated Part) → raw_of y ≡ x → StmtBehaves (roll-RawStmt x)
  stmt_rolled x y e place =
      let read = fold-roll-RawStmt (Place → Reading) Reading (reading_step file) placed_step x in
      let spelled = fold-roll-RawStmt Spelling Spelling spelling_step placed_spelling x in
      subst (λ (r : Reading). Behaves unit f r (fold-RawStmt Spelling Spelling spelling_step placed_spelling (roll-RawStmt x))) (sym (ap (λ (g : Place → Reading). g place) read))
      (subst (λ (s : Spelling). Behaves unit f (reading_step file (readings_of x) place) s) (sym spelled)
      (subst (λ (z : RawStmt-F RawStmt RawPlaced). Behaves unit f (reading_step file (readings_of z) place) (spelling_step (spellings_of z))) e (layer y place)))

  placed_rolled : (x : RawPlaced-F RawStmt RawPlaced) (y : RawPlaced-F Stated Part) → map-RawPlaced Stated Part RawStmt RawPlaced (λ s. s.0) (λ p. p.0) y ≡ x → PlacedBehaves unit f file (roll-RawPlaced x)
  placed_rolled x y e =
      subst (λ (z : RawPlaced-F RawStmt RawPlaced). PlacedBehaves unit f file (roll-RawPlaced z)) e
      (subst (λ (r : Reading). Behaves unit f r (spelling_of (roll-RawPlaced (record { place = y.place; stmt = y.stmt.0 })))) (sym (fold-roll-RawPlaced (Place → Reading) Reading (reading_step file) placed_step (record { place = y.place; stmt = y.stmt.0 })))
      (subst (λ (s : Spelling). Behaves unit f (fold-RawStmt (Place → Reading) Reading (reading_step file) placed_step y.stmt.0 y.place) s) (sym (fold-roll-RawPlaced Spelling Spelling spelling_step placed_spelling (record { place = y.place; stmt = y.stmt.0 })))
      (y.stmt.1 y.place)))

  pub statement_behaves : (p : RawPlaced) → PlacedBehaves unit f file p
  statement_behaves = ind-RawPlaced StmtBehaves (PlacedBehaves unit f file) stmt_rolled placed_rolled

  pub every_behaves : (ps : List RawPlaced) → AllByRecursion (PlacedBehaves unit f file) ps
  every_behaves [] = tt
  every_behaves (p ∷ ps) = (statement_behaves p, every_behaves ps)
