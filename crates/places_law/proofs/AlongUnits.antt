-- The faults of items stand along the tokens that they are read from.
use Rattle.std.proofs.Common.{◌≡◌, refl, sym, ap, ◌∙◌, ℤ, pos, Bool, true, false, not, ◌&&◌, ◌||◌, cond, List, [], ◌∷◌, ◌++◌, map, None, Some, append_assoc, arith}
use Rattle.std.proofs.lemmas.List.{append-nil}
use Rattle.gob_tree.specs.Widths.{fits}
use Rattle.gob_tree.specs.declared.expr.Width.{Width}
use Rattle.gob_tree.specs.declared.expr.Width.TheVariants.{W32, W64}
use Rattle.gob_tree.specs.declared.place.Place.{Place}
use Rattle.gob_tree.specs.declared.unit.FuncKind.TheVariants.{Int, Void}
use Rattle.c_parse.specs.declared.terminal.Terminal.{Terminal}
use Rattle.c_parse.specs.declared.raw.expr.RawName.{RawName}
use Rattle.c_parse.specs.declared.raw.stmt.RawPlaced.{RawPlaced}
use Rattle.c_parse.specs.declared.raw.unit.RawHead.{RawHead}
use Rattle.c_parse.specs.declared.raw.unit.RawItem.{RawItem}
use Rattle.c_parse.specs.declared.raw.unit.RawParam.{RawParam}
use Rattle.c_parse.specs.Grammar as grammar
use Rattle.c_parse.specs.Grammar.{Nesting, Next, ReadsName, ReadsType, ReadsLiteral, ReadsGlobals, ReadsMoreGlobals, ReadsAfterHead, ReadsParam, ReadsParamName, ReadsMoreParams, ReadsParams, ReadsThreadParam, ReadsThreadVoid, ReadsThreadName, ReadsVoided, ReadsNamed, ReadsTyped, ReadsMutexName, ReadsOuter, ReadsItem, ReadsUnit, place_at, global, head_of, thread_head}
use Rattle.c_check.specs.declared.fault.FrontFault.{FrontFault}
use Rattle.c_check.specs.declared.fault.FrontKind.TheVariants.{BadLiteral, Undeclared, Redeclared, WrongKind}
use Rattle.c_check.specs.Faults.{asks}
use Rattle.c_check.specs.Names.{is_main, FileNames, BodyNames}
use Rattle.c_check.specs.Rules.{local_faults}
use Rattle.c_check.specs.Bodies.{reading_of, sequence_faults}
use Rattle.c_check.specs.Units.{Made, is_declared, is_defined, is_value, has_definition, agrees_with_definition, is_dropped, is_main_head, value_faults, prototype_faults, function_faults, item_faults, items_faults, after_item, after_items, param_faults, params_faults, with_param, with_params, head_names, body_names}
use Rattle.places_law.proofs.Along.{Told, full, both, asks_told, Along, none, token, is, join, behind, past, tell_only, name, name_only}
use Rattle.places_law.proofs.AlongStmts.{past_type, local_told, along_items}

abbrev Faults : Type 0
Faults = List FrontFault

items-append : (xs ys : List RawItem) (m : Made) → items_faults (xs ++ ys) m ≡ items_faults xs m ++ items_faults ys (after_items xs m)
items-append [] ys m = refl
items-append (x ∷ xs) ys m =
    ap (λ (fs : Faults). item_faults m.names x ++ fs) (items-append xs ys (after_item x m))
    ∙ sym (append_assoc (item_faults m.names x) (items_faults xs (after_item x m)) (items_faults ys (after_items (x ∷ xs) m)))

-- ---- globals and mutexes

value_told : (file : FileNames) (x : RawName) → Told x.place 0 (value_faults file x) 5
value_told file x =
    let first : Faults = asks (not (is_declared file x.text)) Redeclared x.place in
    let second : Faults = asks (not (is_main x.text)) WrongKind x.place in
    full x.place 2 3 (first ++ second) (omega arith)
    (both x.place 2 2 3 3 first second (asks_told (not (is_declared file x.text)) Redeclared x.place) (omega arith) (asks_told (not (is_main x.text)) WrongKind x.place))

literal_told : (holds : Bool) (here : Place) → Told here 0 (asks holds BadLiteral here) 5
literal_told holds here = full here 0 0 (asks holds BadLiteral here) (omega arith) (asks_told holds BadLiteral here)

along_literal : {ts rest : List Terminal} {v : ℤ} {here : Place} (holds : Bool) → ReadsLiteral ts v here rest → Along ts (asks holds BadLiteral here) rest
along_literal {ts = ts} holds (grammar.literal n0) = tell_only (asks holds BadLiteral (place_at ts)) n0 (literal_told holds (place_at ts))
along_literal holds (grammar.negative {us = us} n0 n1) = past n0 (tell_only (asks holds BadLiteral (place_at us)) n1 (literal_told holds (place_at us)))

-- a global without a literal has 0, which fits
zero_fits : (w : Width) → fits w (pos 0) ≡ true
zero_fits W32 = refl
zero_fits W64 = refl

mutual
  along_globals : {w : Width} {x : RawName} {us ts rest : List Terminal} {items : List RawItem} (m : Made) → ReadsName us x ts → ReadsGlobals w x ts items rest → Along us (items_faults items m) rest
  along_globals {us = us} {rest = rest} m n0 (grammar.given {vs = vs} {v = v} {w = w} {here = here} {x = x} {items = items} n1 n2 n3) =
      let item : RawItem = global x w v here in
      join us vs rest (item_faults m.names item) (items_faults items (after_item item m))
      (name (value_faults m.names x) n0 (value_told m.names x) (past n1 (along_literal (fits w v) n2))) (along_more_globals (after_item item m) n3)
  along_globals {us = us} {ts = ts} {rest = rest} m n0 (grammar.unset {w = w} {x = x} {items = items} n1) =
      let item : RawItem = global x w (pos 0) x.place in
      let only : item_faults m.names item ≡ value_faults m.names x ++ [] = ap (λ (holds : Bool). value_faults m.names x ++ asks holds BadLiteral x.place) (zero_fits w) in
      join us ts rest (item_faults m.names item) (items_faults items (after_item item m))
      (is us ts (item_faults m.names item) (value_faults m.names x ++ []) only (name (value_faults m.names x) n0 (value_told m.names x) none)) (along_more_globals (after_item item m) n1)

  along_more_globals : {w : Width} {ts rest : List Terminal} {items : List RawItem} (m : Made) → ReadsMoreGlobals w ts items rest → Along ts (items_faults items m) rest
  along_more_globals m (grammar.last_global n0) = past n0 none
  along_more_globals m (grammar.next_global n0 n1 n2) = past n0 (along_globals m n1 n2)

along_mutex_name : {ts rest : List Terminal} {items : List RawItem} (m : Made) → ReadsMutexName ts items rest → Along ts (items_faults items m) rest
along_mutex_name m (grammar.mutex_name {x = x} n0 n1 n2 n3) = name (value_faults m.names x) n0 (value_told m.names x) (past n1 (past n2 (past n3 none)))

-- ---- heads. The name of the function is the first token of `start`, and `params` begins behind it.

quiet : (ts rest : List Terminal) (fs : Faults) → Along ts fs rest → Along ts [] rest
quiet ts rest fs (none) = none
quiet ts rest fs (token {t = t} {ts = us} hs gs told a) = token {t = t} [] [] (omega arith) (quiet us rest gs a)

unless : (dropped : Bool) (ts rest : List Terminal) (fs : Faults) → Along ts fs rest → Along ts (cond dropped [] fs) rest
unless true ts rest fs a = quiet ts rest fs a
unless false ts rest fs a = a

params-more : (ps : List RawParam) (p : RawParam) (b : BodyNames) → params_faults (ps ++ p ∷ []) b ≡ params_faults ps b ++ param_faults p.name (with_params ps b)
params-more [] p b = append-nil (param_faults p.name b)
params-more (q ∷ ps) p b =
    ap (λ (fs : Faults). param_faults q.name b ++ fs) (params-more ps p (with_param q.width q.name b))
    ∙ sym (append_assoc (param_faults q.name b) (params_faults ps (with_param q.width q.name b)) (param_faults p.name (with_params (q ∷ ps) b)))

abbrev head_faults : RawHead → Faults
head_faults h = params_faults h.params (head_names h)

prototype_told : (a b c : Bool) (p : Place) → Told p 0 (asks a Undeclared p ++ (asks b Redeclared p ++ asks c WrongKind p)) 5
prototype_told a b c p =
    full p 1 3 (asks a Undeclared p ++ (asks b Redeclared p ++ asks c WrongKind p)) (omega arith)
    (both p 1 1 2 3 (asks a Undeclared p) (asks b Redeclared p ++ asks c WrongKind p) (asks_told a Undeclared p) (omega arith)
    (both p 2 2 3 3 (asks b Redeclared p) (asks c WrongKind p) (asks_told b Redeclared p) (omega arith) (asks_told c WrongKind p)))

function_told : (b c : Bool) (p : Place) → Told p 0 (asks b Redeclared p ++ asks c WrongKind p) 5
function_told b c p =
    full p 2 3 (asks b Redeclared p ++ asks c WrongKind p) (omega arith) (both p 2 2 3 3 (asks b Redeclared p) (asks c WrongKind p) (asks_told b Redeclared p) (omega arith) (asks_told c WrongKind p))

regroup : (u r w p : Faults) → u ++ (r ++ (w ++ p)) ≡ (u ++ (r ++ w)) ++ p
regroup u r w p = ap (λ (fs : Faults). u ++ fs) (sym (append_assoc r w p)) ∙ sym (append_assoc u (r ++ w) p)

along_prototype : (start params ts : List Terminal) (file : FileNames) (h : RawHead) → ReadsName start h.name params → Along params (head_faults h) ts → Along start (prototype_faults file h) ts
along_prototype start params ts file h n0 a =
    let p : Place = h.name.place in
    let u : Bool = has_definition file h.name.text in
    let r : Bool = not (is_value file h.name.text) in
    let w : Bool = agrees_with_definition file h && (not (is_main h.name.text) || is_main_head h) in
    unless (is_dropped h) start ts (asks u Undeclared p ++ (asks r Redeclared p ++ (asks w WrongKind p ++ head_faults h)))
    (is start ts _ ((asks u Undeclared p ++ (asks r Redeclared p ++ asks w WrongKind p)) ++ head_faults h) (regroup (asks u Undeclared p) (asks r Redeclared p) (asks w WrongKind p) (head_faults h))
    (name (asks u Undeclared p ++ (asks r Redeclared p ++ asks w WrongKind p)) n0 (prototype_told u r w p) a))

along_function : (start params ts rest : List Terminal) (file : FileNames) (h : RawHead) (body : List RawPlaced) → ReadsName start h.name params → Along params (head_faults h) ts
    → Along ts (sequence_faults (map (reading_of file) body) false (body_names h)) rest → Along start (function_faults file h body) rest
along_function start params ts rest file h body n0 a b =
    let p : Place = h.name.place in
    let r : Bool = not (is_defined file h.name.text) in
    let w : Bool = not (is_main h.name.text) || is_main_head h in
    let inner : Faults = sequence_faults (map (reading_of file) body) false (body_names h) in
    is start rest (function_faults file h body) ((asks r Redeclared p ++ asks w WrongKind p) ++ (head_faults h ++ inner))
    (sym (append_assoc (asks r Redeclared p) (asks w WrongKind p) (head_faults h ++ inner)))
    (name (asks r Redeclared p ++ asks w WrongKind p) n0 (function_told r w p) (join params ts rest (head_faults h) inner a b))

along_after_head : {h : RawHead} {may : Bool} {a b : Nesting} {ts rest : List Terminal} {items : List RawItem} (start params : List Terminal) (m : Made)
    → ReadsName start h.name params → Along params (head_faults h) ts → ReadsAfterHead h may a ts items rest b → Along start (items_faults items m) rest
along_after_head {ts = ts} {rest = rest} start params m n0 a (grammar.prototype {h = h} n1) =
    join start ts rest (prototype_faults m.names h) [] (along_prototype start params ts m.names h n0 a) (past n1 none)
along_after_head {ts = ts} {rest = rest} start params m n0 a (grammar.body {ps = ps} {h = h} n1 n2) =
    join start rest rest (function_faults m.names h ps) [] (along_function start params ts rest m.names h ps n0 a (past n1 (along_items m.names false (body_names h) n2))) none

mutual
  along_param : {h : RawHead} {may : Bool} {a b : Nesting} {ts rest : List Terminal} {items : List RawItem} (start params : List Terminal) (m : Made)
      → ReadsName start h.name params → Along params (head_faults h) ts → ReadsParam h may a ts items rest b → Along start (items_faults items m) rest
  along_param {ts = ts} start params m n0 a (grammar.param {us = us} {h = h} n1 n2) = along_param_name {h = h} start params m n0 (behind params ts us (head_faults h) a (past_type n1 none)) n2

  along_param_name : {h : RawHead} {may : Bool} {w : Width} {a b : Nesting} {ts rest : List Terminal} {items : List RawItem} (start params : List Terminal) (m : Made)
      → ReadsName start h.name params → Along params (head_faults h) ts → ReadsParamName h may w a ts items rest b → Along start (items_faults items m) rest
  along_param_name {ts = ts} start params m n0 a (grammar.with_name {us = us} {w = w} {x = x} {h = h} n1 n2) =
      let seen : BodyNames = with_params h.params (head_names h) in
      let p : RawParam = record { width = w; name = Some x } in
      along_more_params {h = grammar.with_param h w (Some x)} start params m n0
      (is params us (params_faults (h.params ++ p ∷ []) (head_names h)) (head_faults h ++ local_faults seen x) (params-more h.params p (head_names h))
      (join params ts us (head_faults h) (local_faults seen x) a (name_only (local_faults seen x) n1 (local_told seen x)))) n2
  along_param_name {ts = ts} start params m n0 a (grammar.without_name {w = w} {h = h} n1) =
      let p : RawParam = record { width = w; name = None } in
      along_more_params {h = grammar.with_param h w None} start params m n0
      (is params ts (params_faults (h.params ++ p ∷ []) (head_names h)) (head_faults h ++ []) (params-more h.params p (head_names h)) (join params ts ts (head_faults h) [] a none)) n1

  along_more_params : {h : RawHead} {may : Bool} {a b : Nesting} {ts rest : List Terminal} {items : List RawItem} (start params : List Terminal) (m : Made)
      → ReadsName start h.name params → Along params (head_faults h) ts → ReadsMoreParams h may a ts items rest b → Along start (items_faults items m) rest
  along_more_params {ts = ts} start params m n0 a (grammar.next_param {us = us} {h = h} n1 n2) = along_param {h = h} start params m n0 (behind params ts us (head_faults h) a (past n1 none)) n2
  along_more_params {ts = ts} start params m n0 a (grammar.last_param {us = us} {h = h} n1 n2) = along_after_head {h = h} start params m n0 (behind params ts us (head_faults h) a (past n1 none)) n2

along_params : {h : RawHead} {may : Bool} {a b : Nesting} {ts rest : List Terminal} {items : List RawItem} (start params : List Terminal) (m : Made)
    → ReadsName start h.name params → Along params (head_faults h) ts → ReadsParams h may a ts items rest b → Along start (items_faults items m) rest
along_params {ts = ts} start params m n0 a (grammar.no_params {us = us} {h = h} n1 n2) = along_after_head {h = h} start params m n0 (behind params ts us (head_faults h) a (past n1 none)) n2
along_params {ts = ts} start params m n0 a (grammar.void_params {vs = vs} {h = h} n1 n2 n3) = along_after_head {h = h} start params m n0 (behind params ts vs (head_faults h) a (past n1 (past n2 none))) n3
along_params start params m n0 a (grammar.some_params {h = h} n1) = along_param {h = h} start params m n0 a n1

-- ---- functions of threads

along_thread_param : {x : RawName} {may : Bool} {a b : Nesting} {ts rest : List Terminal} {items : List RawItem} (start params : List Terminal) (m : Made)
    → ReadsName start x params → Along params [] ts → ReadsThreadParam x may a ts items rest b → Along start (items_faults items m) rest
along_thread_param {ts = ts} start params m n0 a (grammar.named_param {vs = vs} {y = y} {x = x} n1 n2 n3) =
    let h : RawHead = thread_head x (Some y) in
    along_after_head {h = h} start params m n0 (join params ts vs [] (head_faults h) a (name (local_faults (head_names h) y) n1 (local_told (head_names h) y) (past n2 none))) n3
along_thread_param {ts = ts} start params m n0 a (grammar.unnamed_param {us = us} {x = x} n1 n2) =
    along_after_head {h = thread_head x None} start params m n0 (behind params ts us [] a (past n1 none)) n2

along_thread_void : {x : RawName} {may : Bool} {a b : Nesting} {ts rest : List Terminal} {items : List RawItem} (start params : List Terminal) (m : Made)
    → ReadsName start x params → Along params [] ts → ReadsThreadVoid x may a ts items rest b → Along start (items_faults items m) rest
along_thread_void {ts = ts} start params m n0 a (grammar.thread_void {vs = vs} n1 n2 n3) = along_thread_param start params m n0 (behind params ts vs [] a (past n1 (past n2 none))) n3

along_thread_name : {may : Bool} {a b : Nesting} {ts rest : List Terminal} {items : List RawItem} (m : Made) → ReadsThreadName may a ts items rest b → Along ts (items_faults items m) rest
along_thread_name {ts = ts} m (grammar.thread_name {us = us} n0 n1 n2) = along_thread_void ts us m n0 (past n1 none) n2

-- ---- items

along_voided : {may : Bool} {a b : Nesting} {ts rest : List Terminal} {items : List RawItem} (m : Made) → ReadsVoided may a ts items rest b → Along ts (items_faults items m) rest
along_voided {ts = ts} m (grammar.void_function {us = us} {x = x} n0 n1 n2) = along_params {h = head_of x Void W32} ts us m n0 (past n1 none) n2
along_voided m (grammar.thread_function n0 n1) = past n0 (along_thread_name m n1)

along_named : {may : Bool} {w : Width} {x : RawName} {a b : Nesting} {ts rest : List Terminal} {items : List RawItem} (start : List Terminal) (m : Made)
    → ReadsName start x ts → ReadsNamed may w x a ts items rest b → Along start (items_faults items m) rest
along_named {ts = ts} start m n0 (grammar.number_function {w = w} {x = x} n1 n2) = along_params {h = head_of x Int w} start ts m n0 (past n1 none) n2
along_named start m n0 (grammar.globals n1) = along_globals m n0 n1

along_typed : {may : Bool} {w : Width} {a b : Nesting} {ts rest : List Terminal} {items : List RawItem} (m : Made) → ReadsTyped may w a ts items rest b → Along ts (items_faults items m) rest
along_typed {ts = ts} m (grammar.typed n0 n1) = along_named ts m n0 n1

along_outer : {may : Bool} {a b : Nesting} {ts rest : List Terminal} {items : List RawItem} (m : Made) → ReadsOuter may a ts items rest b → Along ts (items_faults items m) rest
along_outer m (grammar.number_item n0 n1) = past_type n0 (along_typed m n1)
along_outer m (grammar.void_item n0 n1) = past n0 (along_voided m n1)
along_outer m (grammar.mutex_item n0 n1) = past n0 (along_mutex_name m n1)

along_item : {a b : Nesting} {ts rest : List Terminal} {items : List RawItem} (m : Made) → ReadsItem a ts items rest b → Along ts (items_faults items m) rest
along_item m (grammar.static_item n0 n1) = past n0 (along_outer m n1)
along_item m (grammar.extern_item n0 n1) = past n0 (along_outer m n1)
along_item m (grammar.plain_item n0) = along_outer m n0

pub along_unit : {a b : Nesting} {ts : List Terminal} {items : List RawItem} (m : Made) → ReadsUnit a ts items b → Along ts (items_faults items m) []
along_unit m grammar.unit_end = none
along_unit {ts = ts} m (grammar.unit_item {us = us} {items = xs} {more_items = ys} n0 n1) =
    is ts [] (items_faults (xs ++ ys) m) (items_faults xs m ++ items_faults ys (after_items xs m)) (items-append xs ys m)
    (join ts us [] (items_faults xs m) (items_faults ys (after_items xs m)) (along_item m n0) (along_unit (after_items xs m) n1))
