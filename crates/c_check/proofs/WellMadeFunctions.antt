-- A function without a fault is well made.
use Rattle.std.proofs.Common.{◌≡◌, refl, sym, ap, ◌∙◌, ℕ, pos, ◌+◌, ◌<◌, Bool, true, false, not, ◌&&◌, if◌then◌else◌, List, [], ◌∷◌, ◌++◌, length, map, Option, None, Some, IsTrue, arith, length-append, append-nil}
use Rattle.std.specs.List.{AllByRecursion, list_all}
use Rattle.std.specs.Option.{option_map_or}
use Rattle.std.proofs.lemmas.Bool.{and_parts}
use Rattle.std.proofs.lemmas.List.Folds.{list_all-map}
use Rattle.std.proofs.lemmas.List.Elements.{All-from_recursion}
use Rattle.gob_tree.specs.Widths.{returned_width}
use Rattle.gob_tree.specs.WellMade.{is_int, is_thread, is_made_expr, expr_step, StmtForm, form_step, placed_step as tree_placed, form_of, is_made, ends_in_return, IsWellMadeFunction}
use Rattle.gob_tree.specs.declared.place.Place.{Place}
use Rattle.gob_tree.specs.declared.expr.Width.{Width}
use Rattle.gob_tree.specs.declared.expr.Width.TheVariants.{W32}
use Rattle.gob_tree.specs.declared.expr.Expr.{Expr, Number, Nondet}
use Rattle.gob_tree.specs.declared.stmt.Stmt.{Return}
use Rattle.gob_tree.specs.declared.stmt.Stmt.TheVariants.{outs-Return}
use Rattle.gob_tree.specs.declared.stmt.Placed.{Placed}
use Rattle.gob_tree.specs.declared.unit.FuncKind.{FuncKind}
use Rattle.gob_tree.specs.declared.unit.FuncKind.TheVariants.{Int, Void, Thread}
use Rattle.gob_tree.specs.declared.unit.Function.{Function}
use Rattle.gob_tree.specs.declared.unit.Slot.{Slot}
use Rattle.gob_tree.specs.declared.unit.Unit.{Unit as TranslationUnit}
use Rattle.gob_tree.proofs.Folds as leaf
use Rattle.gob_tree.proofs.StmtFolds as tree
use Rattle.c_parse.specs.declared.raw.expr.RawName.{RawName}
use Rattle.c_parse.specs.declared.raw.stmt.RawPlaced.{RawPlaced}
use Rattle.c_parse.specs.declared.raw.unit.RawHead.{RawHead}
use Rattle.c_parse.specs.declared.raw.unit.RawParam.{RawParam}
use Rattle.c_check.specs.Names.{is_main, FileNames, BodyNames}
use Rattle.c_check.specs.Bodies.{reading_of, sequence_faults, sequence_becomes, sequence_after}
use Rattle.c_check.specs.Spelled.{is_spelled, spelling_of}
use Rattle.c_check.specs.Units.{with_param_named, with_nameless, with_param, with_params, head_names, body_names, last_value, function_of}
use Rattle.c_check.proofs.WellMadeNames.{FileFits, Fine}
use Rattle.c_check.proofs.WellMadeScopes.{Grows, Within, grows_none, grows_then, within_before, grows_local, grows_slot, fine_local, fine_slot, returned_kept}
use Rattle.c_check.proofs.WellMadeStmts.{seq_made}
use Rattle.c_check.proofs.WellMadeGrowth.{statements_grow}
use Rattle.c_check.proofs.WellMadeBodies.{every_behaves}

-- ---- parameters

named_grows : (k : FuncKind) (x : RawName) (w : Width) (body : BodyNames) → Grows body (with_param_named k x w body)
named_grows Thread x w body = record { kind = refl; more = []; slots = sym (append-nil body.slots); threads = omega arith }
named_grows Int x w body = grows_local x.text w body
named_grows Void x w body = grows_local x.text w body

nameless_grows : (k : FuncKind) (w : Width) (body : BodyNames) → Grows body (with_nameless k w body)
nameless_grows Thread w body = grows_none body
nameless_grows Int w body = grows_slot [] w body
nameless_grows Void w body = grows_slot [] w body

param_grows : (w : Width) (x : Option RawName) (body : BodyNames) → Grows body (with_param w x body)
param_grows w (Some x) body = named_grows body.kind x w body
param_grows w None body = nameless_grows body.kind w body

pub params_grow : (ps : List RawParam) (body : BodyNames) → Grows body (with_params ps body)
params_grow [] body = grows_none body
params_grow (p ∷ ps) body = grows_then body (with_param p.width p.name body) _ (param_grows p.width p.name body) (params_grow ps (with_param p.width p.name body))

named_fine : (f : Function) (k : FuncKind) (x : RawName) (w : Width) (body : BodyNames) → Fine f body → Within f (with_param_named k x w body) → Fine f (with_param_named k x w body)
named_fine f Thread x w body fine within = record { kind = fine.kind; begun = fine.begun; visible = (tt, fine.visible) }
named_fine f Int x w body fine within = fine_local f x.text w body fine within
named_fine f Void x w body fine within = fine_local f x.text w body fine within

nameless_fine : (f : Function) (k : FuncKind) (w : Width) (body : BodyNames) → Fine f body → Fine f (with_nameless k w body)
nameless_fine f Thread w body fine = fine
nameless_fine f Int w body fine = fine_slot f [] w body fine
nameless_fine f Void w body fine = fine_slot f [] w body fine

param_fine : (f : Function) (w : Width) (x : Option RawName) (body : BodyNames) → Fine f body → Within f (with_param w x body) → Fine f (with_param w x body)
param_fine f w (Some x) body fine within = named_fine f body.kind x w body fine within
param_fine f w None body fine within = nameless_fine f body.kind w body fine

params_fine : (f : Function) (ps : List RawParam) (body : BodyNames) → Fine f body → Within f (with_params ps body) → Fine f (with_params ps body)
params_fine f [] body fine within = fine
params_fine f (p ∷ ps) body fine within =
    let next = with_param p.width p.name body in
    params_fine f ps next (param_fine f p.width p.name body fine (within_before f next _ (params_grow ps next) within)) within

one_slot : (slots : List Slot) (s : Slot) → length (slots ++ s ∷ []) ≡ length slots + 1
one_slot slots s = length-append slots (s ∷ [])

named_counted : (k : FuncKind) (x : RawName) (w : Width) (body : BodyNames) → is_thread k ≡ false → length (with_param_named k x w body).slots ≡ length body.slots + 1
named_counted Thread x w body h = cc
named_counted Int x w body h = one_slot body.slots (record { name = x.text; width = w })
named_counted Void x w body h = one_slot body.slots (record { name = x.text; width = w })

nameless_counted : (k : FuncKind) (w : Width) (body : BodyNames) → is_thread k ≡ false → length (with_nameless k w body).slots ≡ length body.slots + 1
nameless_counted Thread w body h = cc
nameless_counted Int w body h = one_slot body.slots (record { name = []; width = w })
nameless_counted Void w body h = one_slot body.slots (record { name = []; width = w })

param_counted : (w : Width) (x : Option RawName) (body : BodyNames) → is_thread body.kind ≡ false → length (with_param w x body).slots ≡ length body.slots + 1
param_counted w (Some x) body h = named_counted body.kind x w body h
param_counted w None body h = nameless_counted body.kind w body h

-- each parameter of a function that isn't a thread's has a slot
params_counted : (ps : List RawParam) (body : BodyNames) → is_thread body.kind ≡ false → length (with_params ps body).slots ≡ length body.slots + length ps
params_counted [] body h = omega arith
params_counted (p ∷ ps) body h =
    let next = with_param p.width p.name body in
    let first = param_counted p.width p.name body h in
    let rest = params_counted ps next (ap is_thread (param_grows p.width p.name body).kind ∙ h) in
    omega arith

-- ---- the last return

pub ends_appended : (ss : List Placed) (place : Place) (v : Option Expr) → ends_in_return (ss ++ record { place = place; stmt = Return v } ∷ []) ≡ true
ends_appended [] place v = simp outs-Return
ends_appended (s ∷ []) place v = simp outs-Return
ends_appended (s ∷ s' ∷ ss) place v = ends_appended (s' ∷ ss) place v

ends_after : (b : Bool) (ss more : List Placed) → ends_in_return ss ≡ b → ends_in_return more ≡ true → ends_in_return (if b then ss else more) ≡ true
ends_after true ss more e h = e
ends_after false ss more e h = h

last_made : (unit : TranslationUnit) (f : Function) (k : FuncKind) (c : Bool) (w : Width) → option_map_or (λ v. is_int k && is_made_expr unit f v) (if not (is_int k) then None else if c then Some (Number (pos 0) W32) else Some (Nondet w)) (not (is_int k)) ≡ true
last_made unit f Int true w = leaf.fold-Number Bool (expr_step unit f) (pos 0) W32
last_made unit f Int false w = leaf.fold-Nondet Bool (expr_step unit f) w
last_made unit f Void c w = refl
last_made unit f Thread c w = refl

each_made : (unit : TranslationUnit) (f : Function) (ss : List Placed) → list_all (λ s. s.made false) (map (form_of unit f) ss) ≡ true → AllByRecursion (λ s. IsTrue (is_made unit f s)) ss
each_made unit f [] h = tt
each_made unit f (s ∷ ss) h = let is = and_parts _ _ h in (is.0, each_made unit f ss is.1)

pub each_append : {A : Type 0} (P : A → Type 0) (xs ys : List A) → AllByRecursion P xs → AllByRecursion P ys → AllByRecursion P (xs ++ ys)
each_append P [] ys h g = g
each_append P (x ∷ xs) ys h g = (h.0, each_append P xs ys h.1 g)

pub each_if : {A : Type 0} (P : A → Type 0) (b : Bool) (xs ys : List A) → AllByRecursion P xs → AllByRecursion P ys → AllByRecursion P (if b then xs else ys)
each_if P true xs ys h g = h
each_if P false xs ys h g = g

fewer : (b : Bool) (n m : ℕ) → (b ≡ false → n < m) → 0 < m → (if b then 0 else n) < m
fewer true n m h g = g
fewer false n m h g = h refl

none_of_thread : (k : FuncKind) (n : ℕ) → k ≡ Thread → (if is_thread k then 0 else n) ≡ 0
none_of_thread Thread n e = refl
none_of_thread Int n e = cc
none_of_thread Void n e = cc

-- ---- a function

module _ (file : FileNames) (h : RawHead) (end : Place) (body : List RawPlaced) where
  body_grows : Grows (body_names h) (sequence_after (map (reading_of file) body) (body_names h))
  body_grows = statements_grow file body (body_names h)

  function_grows : Grows (head_names h) (sequence_after (map (reading_of file) body) (body_names h))
  function_grows = grows_then (head_names h) (body_names h) _ (params_grow h.params (head_names h)) body_grows

  pub returned : returned_width (function_of file h end body).slots ≡ h.width
  returned = returned_kept (head_names h) _ function_grows (omega arith)

  module _ (unit : TranslationUnit) (fits : FileFits unit (function_of file h end body) file) where
    within_all : Within (function_of file h end body) (sequence_after (map (reading_of file) body) (body_names h))
    within_all = record { slots = omega arith; threads = omega arith }

    begins_fine : Fine (function_of file h end body) (head_names h)
    begins_fine = record { kind = refl; begun = omega arith; visible = tt }

    body_fine : Fine (function_of file h end body) (body_names h)
    body_fine = params_fine (function_of file h end body) h.params (head_names h) begins_fine (within_before (function_of file h end body) (body_names h) _ body_grows within_all)

    slots_begun : 0 < length (function_of file h end body).slots
    slots_begun =
        let g = function_grows in
        let counted : length (function_of file h end body).slots ≡ 1 + length g.more = ap (λ (l : List Slot). length l) g.slots ∙ length-append (head_names h).slots g.more in
        omega arith

    params_within : is_thread h.kind ≡ false → length h.params < length (function_of file h end body).slots
    params_within is =
        let g = body_grows in
        let first = params_counted h.params (head_names h) is in
        let counted : length (function_of file h end body).slots ≡ length (body_names h).slots + length g.more = ap (λ (l : List Slot). length l) g.slots ∙ length-append (body_names h).slots g.more in
        omega arith

    pub function_made : list_all is_spelled body ≡ true → sequence_faults (map (reading_of file) body) false (body_names h) ≡ [] → IsWellMadeFunction unit (function_of file h end body)
    function_made spelled none =
        let f = function_of file h end body in
        let ss = sequence_becomes (map (reading_of file) body) (body_names h) in
        let last : Placed = record { place = end; stmt = Return (last_value h) } in
        let statements_made = seq_made unit f file fits body (every_behaves unit f file fits body) (list_all-map (λ s. s.spelled) spelling_of body ∙ spelled) false (body_names h) body_fine within_all none in
        let last_is : is_made unit f last ≡ true =
        ap (λ (g : StmtForm). g.made false) (tree.fold-struct StmtForm StmtForm (form_step unit f) tree_placed end (Return (last_value h)) ∙ tree.fold-Return StmtForm StmtForm (form_step unit f) tree_placed (last_value h))
        ∙ last_made unit f h.kind (is_main h.name.text) h.width in
        let each = each_made unit f ss statements_made in
        record {
          returned_and_params = fewer (is_thread h.kind) (length h.params) (length f.slots) params_within slots_begun;
          thread_has_no_params = none_of_thread h.kind (length h.params);
          statements = All-from_recursion (λ s. IsTrue (is_made unit f s)) f.body
              (each_if (λ s. IsTrue (is_made unit f s)) (ends_in_return ss) ss (ss ++ last ∷ []) each (each_append (λ s. IsTrue (is_made unit f s)) ss (last ∷ []) each (last_is, tt)));
          ends = ends_after (ends_in_return ss) ss (ss ++ last ∷ []) refl (ends_appended ss end (last_value h));
        }
