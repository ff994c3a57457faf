-- Behind a statement the declarations are those before it and more.
use Rattle.std.proofs.Common.{◌≡◌, sym, ap, subst, List, [], ◌∷◌, map, Option, None, Some}
use Rattle.std.specs.List.{AllByRecursion}
use Rattle.gob_tree.specs.declared.place.Place.{Place}
use Rattle.c_parse.specs.declared.raw.stmt.RawStmt.{RawStmt, fold-RawStmt, fold-roll-RawStmt, map-RawStmt, roll-RawStmt}
use Rattle.c_parse.specs.declared.raw.stmt.RawStmt.TheOpen.{RawStmt-F, RawPlaced-F}
use Rattle.c_parse.specs.declared.raw.stmt.RawPlaced.{RawPlaced, fold-roll-RawPlaced, ind-RawPlaced, map-RawPlaced, roll-RawPlaced}
use Rattle.c_check.specs.Names.{FileNames, BodyNames, opened}
use Rattle.c_check.specs.Bodies.{Reading, sequence_after, part_after, for_head, for_body, reading_step, placed_step, reading_of}
use Rattle.c_check.proofs.WellMadeScopes.{Grows, grows_none, grows_then, grows_local, grows_thread, grows_block}

abbrev ReadingGrows : Reading → Type 0
ReadingGrows r = (body : BodyNames) → Grows body (r.after body)

abbrev OptionGrows : Option Reading → Type 0
OptionGrows None = Unit {0}
OptionGrows (Some r) = ReadingGrows r

all_grow : (rs : List Reading) → AllByRecursion ReadingGrows rs → (body : BodyNames) → Grows body (sequence_after rs body)
all_grow [] all body = grows_none body
all_grow (r ∷ rs) all body = grows_then body (r.after body) _ (all.0 body) (all_grow rs all.1 (r.after body))

option_grows : (o : Option Reading) → OptionGrows o → (body : BodyNames) → Grows body (part_after o body)
option_grows None h body = grows_none body
option_grows (Some r) h body = h body

loop_grows : (first : List Reading) (last : Option Reading) (r : Reading) → AllByRecursion ReadingGrows first → OptionGrows last → ReadingGrows r → (body : BodyNames) → Grows (opened body) (r.after (for_body first last body))
loop_grows first last r all hl hr body =
    let head = for_head first body in
    grows_then (opened body) head _ (all_grow first all (opened body)) (grows_then head (for_body first last body) _ (option_grows last hl head) (hr (for_body first last body)))

module _ (file : FileNames) where
  abbrev StmtGrows : RawStmt → Type 0
  StmtGrows s = (place : Place) → ReadingGrows (fold-RawStmt (Place → Reading) Reading (reading_step file) placed_step s place)

  abbrev PlacedGrows : RawPlaced → Type 0
  PlacedGrows p = ReadingGrows (reading_of file p)

  abbrev Stated : Type 0
  Stated = (s : RawStmt) × StmtGrows s

  abbrev Part : Type 0
  Part = (p : RawPlaced) × PlacedGrows p

  every : (ps : List Part) → AllByRecursion ReadingGrows (map (reading_of file) (map (λ (p : Part). p.0) ps))
  every [] = tt
  every (p ∷ ps) = (p.1, every ps)

  abbrev raw_of : RawStmt-F Stated Part → RawStmt-F RawStmt RawPlaced
  raw_of = map-RawStmt Stated Part RawStmt RawPlaced (λ s. s.0) (λ p. p.0)

  abbrev readings_of : RawStmt-F RawStmt RawPlaced → RawStmt-F (Place → Reading) Reading
  readings_of = map-RawStmt RawStmt RawPlaced (Place → Reading) Reading (fold-RawStmt (Place → Reading) Reading (reading_step file) placed_step) (reading_of file)

  layer : (y : RawStmt-F Stated Part) (place : Place) (body : BodyNames) → Grows body ((reading_step file (readings_of (raw_of y)) place).after body)
  layer (RawStmt-F.Declare w x e) place body = grows_local x.text w body
  layer (RawStmt-F.DeclareThread x) place body = grows_thread x.text body
  layer (RawStmt-F.If e a None) place body = a.1 body
  layer (RawStmt-F.If e a (Some b)) place body = grows_then body ((reading_of file a.0).after body) _ (a.1 body) (b.1 ((reading_of file a.0).after body))
  layer (RawStmt-F.While e a) place body = a.1 body
  layer (RawStmt-F.DoWhile a e) place body = a.1 body
  layer (RawStmt-F.For first test None a) place body = grows_block body _ (loop_grows (map (reading_of file) (map (λ (p : Part). p.0) first)) None (reading_of file a.0) (every first) tt a.1 body)
  layer (RawStmt-F.For first test (Some last) a) place body = grows_block body _ (loop_grows (map (reading_of file) (map (λ (p : Part). p.0) first)) (Some (reading_of file last.0)) (reading_of file a.0) (every first) last.1 a.1 body)
  layer (RawStmt-F.Block all) place body = grows_block body _ (all_grow (map (reading_of file) (map (λ (p : Part). p.0) all)) (every all) (opened body))
  layer other place body = grows_none body

  stmt_rolled : (x : RawStmt-F RawStmt RawPlaced) (y : RawStmt-F Stated Part) → raw_of y ≡ x → StmtGrows (roll-RawStmt x)
  stmt_rolled x y e place =
      subst ReadingGrows (sym (ap (λ (g : Place → Reading). g place) (fold-roll-RawStmt (Place → Reading) Reading (reading_step file) placed_step x)))
      (subst (λ (z : RawStmt-F RawStmt RawPlaced). ReadingGrows (reading_step file (readings_of z) place)) e (layer y place))

  placed_rolled : (x : RawPlaced-F RawStmt RawPlaced) (y : RawPlaced-F Stated Part) → map-RawPlaced Stated Part RawStmt RawPlaced (λ s. s.0) (λ p. p.0) y ≡ x → PlacedGrows (roll-RawPlaced x)
  placed_rolled x y e =
      subst (λ (z : RawPlaced-F RawStmt RawPlaced). PlacedGrows (roll-RawPlaced z)) e
      (subst ReadingGrows (sym (fold-roll-RawPlaced (Place → Reading) Reading (reading_step file) placed_step (record { place = y.place; stmt = y.stmt.0 }))) (y.stmt.1 y.place))

  pub statement_grows : (p : RawPlaced) (body : BodyNames) → Grows body ((reading_of file p).after body)
  statement_grows = ind-RawPlaced StmtGrows PlacedGrows stmt_rolled placed_rolled

  pub statements_grow : (ps : List RawPlaced) (body : BodyNames) → Grows body (sequence_after (map (reading_of file) ps) body)
  statements_grow ps body = all_grow (map (reading_of file) ps) (each ps) body
    where
      each : (ps : List RawPlaced) → AllByRecursion ReadingGrows (map (reading_of file) ps)
      each [] = tt
      each (p ∷ ps) = (statement_grows p, each ps)
