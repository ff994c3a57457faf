-- A statement without a fault becomes one that may stand in its function.
use Rattle.std.proofs.Common.{◌≡◌, refl, sym, ap, ◌∙◌, subst, Bool, true, not, List, [], ◌∷◌, ◌++◌, map, Option, None, Some}
use Rattle.std.specs.List.{AllByRecursion, list_all}
use Rattle.std.specs.Option.{option_map, option_map_or}
use Rattle.std.proofs.lemmas.Bool.{and_parts, and_from}
use Rattle.gob_tree.specs.WellMade.{is_int, is_made_expr, is_made_or_missing, StmtForm, heads_for_step as tree_heads, is_head_part as is_tree_head, made_step, form_step, placed_step as tree_placed, form_of}
use Rattle.gob_tree.specs.declared.place.Place.{Place}
use Rattle.gob_tree.specs.declared.stmt.Stmt.{Stmt, fold-Stmt}
use Rattle.gob_tree.specs.declared.stmt.Stmt.TheOpen.{Stmt-F}
use Rattle.gob_tree.specs.declared.unit.FuncKind.{FuncKind}
use Rattle.gob_tree.specs.declared.unit.FuncKind.TheVariants.{Int, Void, Thread}
use Rattle.gob_tree.specs.declared.unit.Function.{Function}
use Rattle.gob_tree.specs.declared.unit.Unit.{Unit as TranslationUnit}
use Rattle.gob_tree.proofs.StmtFolds as tree
use Rattle.c_parse.specs.declared.raw.expr.RawExpr.{RawExpr}
use Rattle.c_parse.specs.declared.raw.stmt.RawReturn.{RawReturn}
use Rattle.c_parse.specs.declared.raw.stmt.RawReturn.TheVariants.{Plain, Null, Value}
use Rattle.c_parse.specs.declared.raw.stmt.RawPlaced.{RawPlaced}
use Rattle.c_check.specs.Names.{FileNames, BodyNames}
use Rattle.c_check.specs.Rules.{fits_return, return_faults}
use Rattle.c_check.specs.Bodies.{Reading, expr_of, optional_of, optional_faults, expr_faults, sequence_faults, sequence_becomes, sequence_after, part_faults, part_becomes, part_after, return_value, reading_of}
use Rattle.c_check.specs.Spelled.{Spelling, is_spelled_expr, is_spelled_or_missing, is_head_part, spelling_of}
use Rattle.c_check.proofs.WellMadeExprs.{expr_made, optional_made}
use Rattle.c_check.proofs.WellMadeNames.{nil_left, nil_right, asks_true, FileFits, Fine}
use Rattle.c_check.proofs.WellMadeScopes.{Grows, Within, grows_none, grows_then, within_before}

-- What is kept at a statement: what it declares comes behind what is there and fits the function, and without a
-- fault it becomes one that may stand there.
pub record Behaves (unit : TranslationUnit) (f : Function) (r : Reading) (s : Spelling) : Type 0 where
  pub grows : (body : BodyNames) → Grows body (r.after body)
  pub fine : (body : BodyNames) → Fine f body → Within f (r.after body) → Fine f (r.after body)
  pub made : s.spelled ≡ true → (inside : Bool) (body : BodyNames) → Fine f body → Within f (r.after body) → r.faults inside body ≡ [] → (form_of unit f (r.becomes body)).made inside ≡ true
  pub heads : s.heads_for ≡ true → (body : BodyNames) → (form_of unit f (r.becomes body)).heads_for ≡ true

abbrev pub PlacedBehaves : TranslationUnit → Function → FileNames → RawPlaced → Type 0
PlacedBehaves unit f file p = Behaves unit f (reading_of file p) (spelling_of p)

abbrev pub PartBehaves : TranslationUnit → Function → FileNames → Option RawPlaced → Type 0
PartBehaves unit f file None = Unit {0}
PartBehaves unit f file (Some p) = PlacedBehaves unit f file p

plain_return : (k : FuncKind) → fits_return k Plain ≡ true → not (is_int k) ≡ true
plain_return Int h = cc
plain_return Void h = refl
plain_return Thread h = refl

null_return : (k : FuncKind) → fits_return k Null ≡ true → not (is_int k) ≡ true
null_return Int h = cc
null_return Void h = cc
null_return Thread h = refl

value_return : (k : FuncKind) (e : RawExpr) → fits_return k (Value e) ≡ true → is_int k ≡ true
value_return Int e h = refl
value_return Void e h = cc
value_return Thread e h = cc

module _ (unit : TranslationUnit) (f : Function) (file : FileNames) (fits : FileFits unit f file) where
  -- ---- lists and parts

  pub seq_grows : (ps : List RawPlaced) → AllByRecursion (PlacedBehaves unit f file) ps → (body : BodyNames) → Grows body (sequence_after (map (reading_of file) ps) body)
  seq_grows [] all body = grows_none body
  seq_grows (p ∷ ps) all body = grows_then body ((reading_of file p).after body) _ (all.0.grows body) (seq_grows ps all.1 ((reading_of file p).after body))

  head_within : (p : RawPlaced) (ps : List RawPlaced) → AllByRecursion (PlacedBehaves unit f file) ps → (body : BodyNames) → Within f (sequence_after (map (reading_of file) (p ∷ ps)) body) → Within f ((reading_of file p).after body)
  head_within p ps all body within = within_before f ((reading_of file p).after body) _ (seq_grows ps all ((reading_of file p).after body)) within

  pub seq_fine : (ps : List RawPlaced) → AllByRecursion (PlacedBehaves unit f file) ps → (body : BodyNames) → Fine f body → Within f (sequence_after (map (reading_of file) ps) body) → Fine f (sequence_after (map (reading_of file) ps) body)
  seq_fine [] all body fine within = fine
  seq_fine (p ∷ ps) all body fine within = seq_fine ps all.1 ((reading_of file p).after body) (all.0.fine body fine (head_within p ps all.1 body within)) within

  pub seq_made : (ps : List RawPlaced) → AllByRecursion (PlacedBehaves unit f file) ps → list_all (λ s. s.spelled) (map spelling_of ps) ≡ true → (inside : Bool) (body : BodyNames) → Fine f body → Within f (sequence_after (map (reading_of file) ps) body) → sequence_faults (map (reading_of file) ps) inside body ≡ [] → list_all (λ s. s.made inside) (map (form_of unit f) (sequence_becomes (map (reading_of file) ps) body)) ≡ true
  seq_made [] all spelled inside body fine within none = refl
  seq_made (p ∷ ps) all spelled inside body fine within none =
      let is = and_parts _ _ spelled in
      let first = head_within p ps all.1 body within in
      and_from _ _ (all.0.made is.0 inside body fine first (nil_left _ _ none))
      (seq_made ps all.1 is.1 inside ((reading_of file p).after body) (all.0.fine body fine first) within (nil_right _ _ none))

  pub seq_heads : (ps : List RawPlaced) → AllByRecursion (PlacedBehaves unit f file) ps → list_all is_head_part (map spelling_of ps) ≡ true → (inside : Bool) (body : BodyNames) → Fine f body → Within f (sequence_after (map (reading_of file) ps) body) → sequence_faults (map (reading_of file) ps) inside body ≡ [] → list_all (is_tree_head inside) (map (form_of unit f) (sequence_becomes (map (reading_of file) ps) body)) ≡ true
  seq_heads [] all spelled inside body fine within none = refl
  seq_heads (p ∷ ps) all spelled inside body fine within none =
      let is = and_parts _ _ spelled in
      let head = and_parts _ _ is.0 in
      let first = head_within p ps all.1 body within in
      and_from _ _ (and_from _ _ (all.0.heads head.0 body) (all.0.made head.1 inside body fine first (nil_left _ _ none)))
      (seq_heads ps all.1 is.1 inside ((reading_of file p).after body) (all.0.fine body fine first) within (nil_right _ _ none))

  pub part_grows : (j : Option RawPlaced) → PartBehaves unit f file j → (body : BodyNames) → Grows body (part_after (option_map (reading_of file) j) body)
  part_grows None all body = grows_none body
  part_grows (Some p) all body = all.grows body

  pub part_fine : (j : Option RawPlaced) → PartBehaves unit f file j → (body : BodyNames) → Fine f body → Within f (part_after (option_map (reading_of file) j) body) → Fine f (part_after (option_map (reading_of file) j) body)
  part_fine None all body fine within = fine
  part_fine (Some p) all body fine within = all.fine body fine within

  pub part_made : (j : Option RawPlaced) → PartBehaves unit f file j → option_map_or (λ s. s.spelled) (option_map spelling_of j) true ≡ true → (inside : Bool) (body : BodyNames) → Fine f body → Within f (part_after (option_map (reading_of file) j) body) → part_faults (option_map (reading_of file) j) inside body ≡ [] → option_map_or (λ s. s.made inside) (option_map (form_of unit f) (part_becomes (option_map (reading_of file) j) body)) true ≡ true
  part_made None all spelled inside body fine within none = refl
  part_made (Some p) all spelled inside body fine within none = all.made spelled inside body fine within none

  pub part_heads : (j : Option RawPlaced) → PartBehaves unit f file j → option_map_or is_head_part (option_map spelling_of j) true ≡ true → (inside : Bool) (body : BodyNames) → Fine f body → Within f (part_after (option_map (reading_of file) j) body) → part_faults (option_map (reading_of file) j) inside body ≡ [] → option_map_or (is_tree_head inside) (option_map (form_of unit f) (part_becomes (option_map (reading_of file) j) body)) true ≡ true
  part_heads None all spelled inside body fine within none = refl
  part_heads (Some p) all spelled inside body fine within none =
      let head = and_parts _ _ spelled in
      and_from _ _ (all.heads head.0 body) (all.made head.1 inside body fine within none)

  -- ---- one statement

  pub shown : (place : Place) (s : Stmt) (g : StmtForm) → fold-Stmt StmtForm StmtForm (form_step unit f) tree_placed s ≡ g → form_of unit f (record { place = place; stmt = s }) ≡ g
  shown place s g e = tree.fold-struct StmtForm StmtForm (form_step unit f) tree_placed place s ∙ e

  -- one that declares nothing that is seen behind it
  pub simple : (r : Reading) (s : Spelling) (y : BodyNames → Stmt-F StmtForm StmtForm) → ((body : BodyNames) → form_of unit f (r.becomes body) ≡ form_step unit f (y body)) → ((body : BodyNames) → r.after body ≡ body) → (s.heads_for ≡ true → (body : BodyNames) → tree_heads (y body) ≡ true) → (s.spelled ≡ true → (inside : Bool) (body : BodyNames) → Fine f body → r.faults inside body ≡ [] → made_step unit f (y body) inside ≡ true) → Behaves unit f r s
  simple r s y shows stays heads made = record {
    grows = λ body. subst (λ (b : BodyNames). Grows body b) (sym (stays body)) (grows_none body);
    fine = λ body fine within. subst (λ (b : BodyNames). Fine f b) (sym (stays body)) fine;
    made = λ spelled inside body fine within none. ap (λ (g : StmtForm). g.made inside) (shows body) ∙ made spelled inside body fine none;
    heads = λ is body. ap (λ (g : StmtForm). g.heads_for) (shows body) ∙ heads is body;
  }

  -- any other
  pub compound : (r : Reading) (s : Spelling) (y : BodyNames → Stmt-F StmtForm StmtForm) → ((body : BodyNames) → form_of unit f (r.becomes body) ≡ form_step unit f (y body)) → ((body : BodyNames) → Grows body (r.after body)) → ((body : BodyNames) → Fine f body → Within f (r.after body) → Fine f (r.after body)) → (s.heads_for ≡ true → (body : BodyNames) → tree_heads (y body) ≡ true) → (s.spelled ≡ true → (inside : Bool) (body : BodyNames) → Fine f body → Within f (r.after body) → r.faults inside body ≡ [] → made_step unit f (y body) inside ≡ true) → Behaves unit f r s
  compound r s y shows grows fine heads made = record {
    grows = grows;
    fine = fine;
    made = λ spelled inside body at within none. ap (λ (g : StmtForm). g.made inside) (shows body) ∙ made spelled inside body at within none;
    heads = λ is body. ap (λ (g : StmtForm). g.heads_for) (shows body) ∙ heads is body;
  }

  pub expr : (body : BodyNames) → Fine f body → (e : RawExpr) → is_spelled_expr e ≡ true → expr_faults file body e ≡ [] → is_made_expr unit f (expr_of file body e) ≡ true
  expr body fine = expr_made unit f file body fits fine

  pub optional : (body : BodyNames) → Fine f body → (e : Option RawExpr) → is_spelled_or_missing e ≡ true → optional_faults file body e ≡ [] → is_made_or_missing unit f (optional_of file body e) ≡ true
  optional body fine = optional_made unit f file body fits fine

  pub return_made : (r : RawReturn) (place : Place) (inside : Bool) (body : BodyNames) → Fine f body → is_spelled_or_missing (return_value r) ≡ true → return_faults body.kind r place ++ optional_faults file body (return_value r) ≡ [] → made_step unit f (Stmt-F.Return (optional_of file body (return_value r))) inside ≡ true
  return_made Plain place inside body fine spelled none = plain_return f.kind (ap (λ (k : FuncKind). fits_return k Plain) (sym fine.kind) ∙ asks_true (fits_return body.kind Plain) _ place (nil_left _ _ none))
  return_made Null place inside body fine spelled none = null_return f.kind (ap (λ (k : FuncKind). fits_return k Null) (sym fine.kind) ∙ asks_true (fits_return body.kind Null) _ place (nil_left _ _ none))
  return_made (Value e) place inside body fine spelled none =
      and_from _ _ (value_return f.kind e (ap (λ (k : FuncKind). fits_return k (Value e)) (sym fine.kind) ∙ asks_true (fits_return body.kind (Value e)) _ place (nil_left _ _ none)))
      (expr body fine e spelled (nil_right _ _ none))
