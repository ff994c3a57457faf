-- What each exit of the descent through a unit rests on.
use Rattle.std.proofs.Common.{subst, append-nil, ◌<◌, ◌≤◌, ◌-◌, ◌+◌, arith, ◌≡◌, refl, sym, ap, ◌∙◌, ℕ, zero, suc, Bool, true, false, ◌&&◌, ℤ, pos, neg_ℤ, List, [], ◌∷◌, ◌++◌, length, Option, Some, None, append_assoc}
use Rattle.gob_tree.specs.declared.expr.Width.{Width}
use Rattle.gob_tree.specs.declared.expr.Width.TheVariants.{W32, W64}
use Rattle.gob_tree.specs.declared.place.Place.{Place}
use Rattle.gob_tree.specs.declared.unit.FuncKind.TheVariants.{Int, Void}
use Rattle.c_parse.specs.declared.terminal.Terminal.{Terminal}
use Rattle.c_parse.specs.declared.terminal.Kind.{Kind}
use Rattle.c_parse.specs.declared.terminal.Kind.TheVariants as kinds
use Rattle.c_parse.specs.declared.stop.Sign.{Sign}
use Rattle.c_parse.specs.declared.stop.Sign.TheVariants as signs
use Rattle.c_parse.specs.declared.stop.Stop.{Stop}
use Rattle.c_parse.specs.declared.stop.Stop.TheVariants.{At, Memory}
use Rattle.c_parse.specs.declared.stop.Trouble.TheVariants.{Bad, Deep}
use Rattle.c_parse.specs.declared.raw.expr.RawName.{RawName}
use Rattle.c_parse.specs.declared.raw.stmt.RawPlaced.{RawPlaced}
use Rattle.c_parse.specs.declared.raw.unit.RawHead.{RawHead}
use Rattle.c_parse.specs.declared.raw.unit.RawItem.{RawItem}
use Rattle.c_parse.specs.declared.raw.unit.RawItem.TheVariants as tops
use Rattle.c_parse.specs.Grammar as grammar
use Rattle.c_parse.specs.Grammar.{Nesting, within, begins_with, is_equals, is_open_paren, Next, ReadsName, ReadsType, ReadsItems, ReadsLiteral, ReadsGlobals, ReadsMoreGlobals, ReadsAfterHead, ReadsParam, ReadsParamName, ReadsMoreParams, ReadsParams, ReadsThreadParam, ReadsThreadVoid, ReadsThreadName, ReadsVoided, ReadsNamed, ReadsTyped, ReadsMutexName, ReadsOuter, ReadsItem, ReadsUnit}
use Rattle.c_parse.specs.Machine as parts
use Rattle.c_parse.specs.Machine.{keeps, Part, Move, takes, stops, sign, ident, type, items, literal, number, globals, more_globals, after_head, param, param_name, more_params, params, thread_param, thread_void, thread_name, voided, named, typed, mutex_name, outer, unit_item, move, run, is_sign, kind_of, is_close_paren, is_name, ends_params, is_storage, is_word_outside, Breaks, BreaksIn, BreaksEver, BreaksUnit}
use Rattle.c_parse.specs.Literals.{ReadsNumber}
use Rattle.c_parse.specs.Descent.{ReadsGlobal, MoreGlobalsOnto, GlobalsOnto, ReadsOneParam, NamedOnto, TypedOnto, OuterOnto, ItemOnto}
use Rattle.c_parse.proofs.Opening.{taken, taken_name, opened_globals, opened_param, opened_param_name, opened_params, opened_named, opened_outer, opened_unit_item, opens_as, is_skip}
use Rattle.c_parse.proofs.Passing.{passes_sign, passes_ident, passes_type, passes_literal, passes_params, passes_item}
use Rattle.c_parse.proofs.Descent.{next_is, name_is, here, here_ever, behind_it, opens_row, is_row, RunsOn, runs_stop, shorter_name, shorter_next}
use Rattle.c_parse.proofs.Shorter.{shorter_type, shorter_literal}
use Rattle.c_parse.proofs.Rows.{by_row, signed_row, named_row, behind_sign, behind_ident, stops_flat, stops_end}
use Rattle.c_parse.proofs.Fronts.{opened_unit}

-- numbers of globals

pub number_found : {ts us : List Terminal} {t : Terminal} {v : ℤ} {w : Width} → ts ≡ t ∷ us → t.kind ≡ kinds.Number v w → ReadsNumber ts v t.place us
number_found {w = w} q k = record { width = w; next = next_is q k; here = sym (ap grammar.place_at q) }

pub plain_literal_found : {ts rest : List Terminal} {v : ℤ} {here : Place} → ReadsNumber ts v here rest → ReadsLiteral ts v here rest
plain_literal_found {ts = ts} {rest = rest} {v = v} d = subst (λ (here : Place). ReadsLiteral ts v here rest) (sym d.here) (grammar.literal d.next)

as_number : (k : Kind) → (k ≡ kinds.Minus → ⊥) → move literal k ≡ move number k
as_number (kinds.Number v w) h = refl
as_number kinds.Minus h = absurd (h refl)
as_number _ h = refl

number_no_skip : (k : Kind) → is_skip (move number k) ≡ false
number_no_skip (kinds.Number v w) = refl
number_no_skip _ = refl

pub plain_literal_stop : {ts us : List Terminal} {t : Terminal} {s : Stop} → ts ≡ t ∷ us → (t.kind ≡ kinds.Minus → ⊥) → Breaks number (within 0) ts s → Breaks literal (within 0) ts s
plain_literal_stop {us = us} {t = t} q h b = is_row {ps = number ∷ []} (λ below. rw q (opens_as literal number (within 0) t us below (as_number t.kind h) (number_no_skip t.kind))) (here b)

pub negative_found : {ts us rest : List Terminal} {t : Terminal} {v n : ℤ} {here : Place} → ts ≡ t ∷ us → t.kind ≡ kinds.Minus → ReadsNumber us v here rest → n ≡ neg_ℤ v → ReadsLiteral ts n here rest
negative_found {ts = ts} {rest = rest} {v = v} {here = here} q k d e = subst (λ (n : ℤ). ReadsLiteral ts n here rest) (sym e) (subst (λ (here : Place). ReadsLiteral ts (neg_ℤ v) here rest) (sym d.here) (grammar.negative (next_is q k) d.next))

pub negative_stop : {ts us : List Terminal} {t : Terminal} {s : Stop} → ts ≡ t ∷ us → t.kind ≡ kinds.Minus → Breaks number (within 0) us s → Breaks literal (within 0) ts s
negative_stop q k b = opens_row literal keeps (number ∷ []) (next_is q k) refl (here b)

-- one global

pub given_found : {ts us rest : List Terminal} {t : Terminal} {x : RawName} {w : Width} {v : ℤ} {here : Place} {item : RawItem} → ts ≡ t ∷ us → t.kind ≡ kinds.Equals → ReadsLiteral us v here rest → item ≡ grammar.global x w v here → ReadsGlobal w x ts item rest
given_found {ts = ts} {x = x} {w = w} q k d e =
    let l = shorter_next (next_is q k) in
    let m = shorter_literal d in
    record {
      reads = λ more left r. subst (λ (i : RawItem). ReadsGlobals w x ts (i ∷ more) left) (sym e) (grammar.given (next_is q k) d r);
      runs = λ below. taken (within 0) globals keeps (literal ∷ more_globals ∷ []) (next_is q k) refl below ∙ passes_literal (within 0) d (more_globals ∷ below);
      short = omega (arith, l, m);
    }

not_given : {ts : List Terminal} {x : RawName} {w : Width} {item : RawItem} → begins_with is_equals ts ≡ false → item ≡ grammar.global x w (pos 0) x.place → ReadsGlobal w x ts item ts
not_given {ts = ts} {x = x} {w = w} h e = record {
  reads = λ more left r. subst (λ (i : RawItem). ReadsGlobals w x ts (i ∷ more) left) (sym e) (grammar.unset r);
  runs = λ below. opened_globals (within 0) ts below h;
  short = omega (arith);
}

no_equals : (k : Kind) → (k ≡ kinds.Equals → ⊥) → is_equals k ≡ false
no_equals kinds.Equals h = absurd (h refl)
no_equals _ h = refl

pub unset_found : {ts us : List Terminal} {t : Terminal} {x : RawName} {w : Width} {item : RawItem} → ts ≡ t ∷ us → (t.kind ≡ kinds.Equals → ⊥) → item ≡ grammar.global x w (pos 0) x.place → ReadsGlobal w x ts item ts
unset_found {t = t} q k e = not_given (ap (begins_with is_equals) q ∙ no_equals t.kind k) e

pub unset_at_end : {ts : List Terminal} {x : RawName} {w : Width} {item : RawItem} → length ts ≡ 0 → item ≡ grammar.global x w (pos 0) x.place → ReadsGlobal w x ts item ts
unset_at_end {ts = []} h e = not_given refl e
unset_at_end {ts = t ∷ ts} h e = absurd (omega (arith, h))

pub given_stop : {ts us : List Terminal} {t : Terminal} {s : Stop} → ts ≡ t ∷ us → t.kind ≡ kinds.Equals → Breaks literal (within 0) us s → Breaks globals (within 0) ts s
given_stop q k b = opens_row globals keeps (literal ∷ more_globals ∷ []) (next_is q k) refl (here b)

pub shorter_global : {w : Width} {x : RawName} {item : RawItem} {ts rest : List Terminal} → ReadsGlobal w x ts item rest → length rest ≤ length ts
shorter_global g = g.short

-- lists of globals

abbrev pub GlobalsGoOn : Width → List RawItem → List Terminal → List RawItem → List Terminal → Type 0
GlobalsGoOn w front ts list us = (some : List RawItem) (left : List Terminal) → ReadsMoreGlobals w us some left → MoreGlobalsOnto w front ts (list ++ some) left

pub globals_begun : {w : Width} {front : List RawItem} {ts : List Terminal} → GlobalsGoOn w front ts front ts
globals_begun some left d = record { some = some; is = refl; reads = d }

pub globals_closed : {w : Width} (front : List RawItem) {list : List RawItem} {ts us rest : List Terminal} {t : Terminal} → GlobalsGoOn w front ts list us → us ≡ t ∷ rest → t.kind ≡ kinds.Semicolon → MoreGlobalsOnto w front ts list rest
globals_closed {w = w} front {list = list} {ts = ts} {rest = rest} reads q h = subst (λ (l : List RawItem). MoreGlobalsOnto w front ts l rest) (append-nil list) (reads [] rest (grammar.last_global (next_is q h)))

pub globals_again : {w : Width} (front list now : List RawItem) {ts us vs ws mid : List Terminal} {t : Terminal} {x : RawName} {item : RawItem} → GlobalsGoOn w front ts list us → now ≡ list ++ item ∷ [] → us ≡ t ∷ vs → t.kind ≡ kinds.Comma → ReadsName vs x ws → ReadsGlobal w x ws item mid → GlobalsGoOn w front ts now mid
globals_again {w = w} front list now {ts = ts} {item = item} reads e q h n g some left m = subst (λ (l : List RawItem). MoreGlobalsOnto w front ts l left) (sym (append_assoc list (item ∷ []) some) ∙ ap (λ (l : List RawItem). l ++ some) (sym e)) (reads (item ∷ some) left (grammar.next_global (next_is q h) n (g.reads some left m)))

pub globals_run : {w : Width} {us vs ws mid : List Terminal} {t : Terminal} {x : RawName} {item : RawItem} → us ≡ t ∷ vs → t.kind ≡ kinds.Comma → ReadsName vs x ws → ReadsGlobal w x ws item mid → RunsOn more_globals (within 0) us (within 0) mid
globals_run q h n g = record { runs = λ below. taken (within 0) more_globals keeps (ident ∷ globals ∷ []) (next_is q h) refl below ∙ passes_ident (within 0) n (globals ∷ below) ∙ g.runs below }

pub next_name_stop : {ts us vs : List Terminal} {t : Terminal} {s : Stop} → RunsOn more_globals (within 0) ts (within 0) us → us ≡ t ∷ vs → t.kind ≡ kinds.Comma → Breaks ident (within 0) vs s → Breaks more_globals (within 0) ts s
next_name_stop runs q h b = runs_stop runs (opens_row more_globals keeps (ident ∷ globals ∷ []) (next_is q h) refl (here b))

pub next_global_stop : {ts us vs ws : List Terminal} {t : Terminal} {x : RawName} {s : Stop} → RunsOn more_globals (within 0) ts (within 0) us → us ≡ t ∷ vs → t.kind ≡ kinds.Comma → ReadsName vs x ws → Breaks globals (within 0) ws s → Breaks more_globals (within 0) ts s
next_global_stop runs q h n b = runs_stop runs (opens_row more_globals keeps (ident ∷ globals ∷ []) (next_is q h) refl (behind_ident n (here b)))

pub more_globals_mark : {ts us vs : List Terminal} {t : Terminal} → RunsOn more_globals (within 0) ts (within 0) us → us ≡ t ∷ vs → parts.more_globals_move t.kind ≡ stops → Breaks more_globals (within 0) ts (At Bad (length us))
more_globals_mark runs q h = runs_stop runs (stops_flat q h)

pub more_globals_end : {ts : List Terminal} (us : List Terminal) → RunsOn more_globals (within 0) ts (within 0) us → length us ≡ 0 → Breaks more_globals (within 0) ts (At Bad 0)
more_globals_end us runs h = runs_stop runs (stops_end h refl)

pub globals_found : {w : Width} {x : RawName} {front list all : List RawItem} {ts mid rest : List Terminal} {item : RawItem} → ReadsGlobal w x ts item mid → list ≡ front ++ item ∷ [] → MoreGlobalsOnto w list mid all rest → GlobalsOnto w x front ts all rest
globals_found {front = front} {rest = rest} {item = item} g e m = record {
  some = item ∷ m.some;
  is = m.is ∙ ap (λ (l : List RawItem). l ++ m.some) e ∙ append_assoc front (item ∷ []) m.some;
  reads = g.reads m.some rest m.reads;
}

pub globals_stop : {w : Width} {x : RawName} {item : RawItem} {ts mid : List Terminal} {s : Stop} → ReadsGlobal w x ts item mid → Breaks more_globals (within 0) mid s → Breaks globals (within 0) ts s
globals_stop {s = At f left} g b = record { breaks = λ below. g.runs below ∙ b.breaks below }
globals_stop {s = Memory} g b = record { breaks = tt }

-- what follows a type and a name

pub number_function_found : {may : Bool} {w : Width} {x : RawName} {front all : List RawItem} {ts us rest : List Terminal} {t : Terminal} {hd : RawHead} {item : RawItem} → ts ≡ t ∷ us → t.kind ≡ kinds.OpenParen → hd ≡ grammar.head_of x Int w → grammar.ReadsParams hd may (within 0) us (item ∷ []) rest (within 0) → all ≡ front ++ item ∷ [] → NamedOnto may w x front ts all rest
number_function_found {may = may} {us = us} {rest = rest} {item = item} q k i d e = record { some = item ∷ []; is = e; reads = grammar.number_function (next_is q k) (subst (λ (h : RawHead). ReadsParams h may (within 0) us (item ∷ []) rest (within 0)) i d) }

pub number_function_stop : {may : Bool} {ts us : List Terminal} {t : Terminal} {s : Stop} → ts ≡ t ∷ us → t.kind ≡ kinds.OpenParen → Breaks (params may) (within 0) us s → Breaks (named may) (within 0) ts s
number_function_stop {may = may} q k b = opens_row (named may) keeps (params may ∷ []) (next_is q k) refl (here b)

pub global_named_found : {may : Bool} {w : Width} {x : RawName} {front all : List RawItem} {ts rest : List Terminal} → may ≡ true → GlobalsOnto w x front ts all rest → NamedOnto may w x front ts all rest
global_named_found {w = w} {x = x} {ts = ts} {rest = rest} m g = record { some = g.some; is = g.is; reads = subst (λ (b : Bool). ReadsNamed b w x (within 0) ts g.some rest (within 0)) (sym m) (grammar.globals g.reads) }

no_paren : (k : Kind) → (k ≡ kinds.OpenParen → ⊥) → is_open_paren k ≡ false
no_paren kinds.OpenParen h = absurd (h refl)
no_paren _ h = refl

pub global_named_stop : {may : Bool} {ts us : List Terminal} {t : Terminal} {s : Stop} → may ≡ true → ts ≡ t ∷ us → (t.kind ≡ kinds.OpenParen → ⊥) → Breaks globals (within 0) ts s → Breaks (named may) (within 0) ts s
global_named_stop {ts = ts} {t = t} {s = s} m q k b = subst (λ (b : Bool). Breaks (named b) (within 0) ts s) (sym m) (is_row {ps = globals ∷ []} (λ below. opened_named (within 0) ts below (ap (begins_with is_open_paren) q ∙ no_paren t.kind k)) (here b))

named_stops : (k : Kind) → is_open_paren k ≡ false → move (named false) k ≡ stops
named_stops kinds.OpenParen h = absurd (cc)
named_stops _ h = refl

pub no_global_stop : {may : Bool} {ts us : List Terminal} {t : Terminal} → may ≡ false → ts ≡ t ∷ us → (t.kind ≡ kinds.OpenParen → ⊥) → Breaks (named may) (within 0) ts (At Bad (length ts))
no_global_stop {ts = ts} {t = t} m q k = subst (λ (b : Bool). Breaks (named b) (within 0) ts (At Bad (length ts))) (sym m) (stops_flat q (named_stops t.kind (no_paren t.kind k)))

pub named_end_stop : {may : Bool} {ts : List Terminal} → length ts ≡ 0 → Breaks (named may) (within 0) ts (At Bad 0)
named_end_stop h = stops_end h refl

-- what follows a type

typed_by : (may : Bool) (k : Kind) → move (typed may) k ≡ by_row (is_name k) (named may ∷ [])
typed_by may (kinds.Name x) = refl
typed_by may _ = refl

typed_row : (may : Bool) (ts : List Terminal) (below : List Part) → run (typed may ∷ below) (within 0) ts ≡ run (ident ∷ named may ∷ below) (within 0) ts
typed_row may ts below = named_row (typed may) (named may ∷ []) refl (typed_by may) ts below

pub typed_0_stop : {may : Bool} {ts : List Terminal} {s : Stop} → Breaks ident (within 0) ts s → Breaks (typed may) (within 0) ts s
typed_0_stop {may = may} {ts = ts} b = is_row {ps = ident ∷ named may ∷ []} (typed_row may ts) (here b)

pub typed_1_stop : {may : Bool} {ts mid : List Terminal} {x : RawName} {s : Stop} → ReadsName ts x mid → Breaks (named may) (within 0) mid s → Breaks (typed may) (within 0) ts s
typed_1_stop {may = may} {ts = ts} n b = is_row {ps = ident ∷ named may ∷ []} (typed_row may ts) (behind_ident n (here b))

pub typed_found : {may : Bool} {w : Width} {x : RawName} {front all : List RawItem} {ts mid rest : List Terminal} → ReadsName ts x mid → NamedOnto may w x front mid all rest → TypedOnto may w front ts all rest
typed_found n d = record { some = d.some; is = d.is; reads = grammar.typed n d.reads }

-- mutexes

mutex_name_by : (k : Kind) → move mutex_name k ≡ by_row (is_name k) (sign signs.Equals ∷ sign signs.Initializer ∷ sign signs.Semicolon ∷ [])
mutex_name_by (kinds.Name x) = refl
mutex_name_by _ = refl

mutex_name_stop : {ts : List Terminal} {s : Stop} → BreaksIn (ident ∷ sign signs.Equals ∷ sign signs.Initializer ∷ sign signs.Semicolon ∷ []) (within 0) ts s → Breaks mutex_name (within 0) ts s
mutex_name_stop {ts = ts} b = is_row {ps = ident ∷ sign signs.Equals ∷ sign signs.Initializer ∷ sign signs.Semicolon ∷ []} (λ below. named_row mutex_name (sign signs.Equals ∷ sign signs.Initializer ∷ sign signs.Semicolon ∷ []) refl mutex_name_by ts below) b

pub mutex_name_0_stop : {v0 : List Terminal} {s : Stop} → Breaks ident (within 0) v0 s → Breaks mutex_name (within 0) v0 s
mutex_name_0_stop b = mutex_name_stop (here b)

pub mutex_name_1_stop : {v0 v1 : List Terminal} {x : RawName} {s : Stop} → ReadsName v0 x v1 → BreaksEver (sign signs.Equals) v1 s → Breaks mutex_name (within 0) v0 s
mutex_name_1_stop n b = mutex_name_stop (behind_ident n (here_ever b))

pub mutex_name_2_stop : {v0 v1 v2 : List Terminal} {x : RawName} {s : Stop} → ReadsName v0 x v1 → Next kinds.Equals v1 v2 → BreaksEver (sign signs.Initializer) v2 s → Breaks mutex_name (within 0) v0 s
mutex_name_2_stop n n1 b = mutex_name_stop (behind_ident n (behind_sign signs.Equals n1 (here_ever b)))

pub mutex_name_3_stop : {v0 v1 v2 v3 : List Terminal} {x : RawName} {s : Stop} → ReadsName v0 x v1 → Next kinds.Equals v1 v2 → Next kinds.Initializer v2 v3 → BreaksEver (sign signs.Semicolon) v3 s → Breaks mutex_name (within 0) v0 s
mutex_name_3_stop n n1 n2 b = mutex_name_stop (behind_ident n (behind_sign signs.Equals n1 (behind_sign signs.Initializer n2 (here_ever b))))

pub mutex_name_found : {v0 v1 v2 v3 rest : List Terminal} {x : RawName} → ReadsName v0 x v1 → Next kinds.Equals v1 v2 → Next kinds.Initializer v2 v3 → Next kinds.Semicolon v3 rest → ReadsMutexName v0 (tops.Mutex x ∷ []) rest
mutex_name_found n n1 n2 n3 = grammar.mutex_name n n1 n2 n3

-- items

no_word_outside : (k : Kind) → (k ≡ kinds.Void → ⊥) → (k ≡ kinds.Mutex → ⊥) → is_word_outside k ≡ false
no_word_outside kinds.Void h i = absurd (h refl)
no_word_outside kinds.Mutex h i = absurd (i refl)
no_word_outside _ h i = refl

pub void_item_found : {may : Bool} {front all : List RawItem} {ts us rest : List Terminal} {t : Terminal} {item : RawItem} → ts ≡ t ∷ us → t.kind ≡ kinds.Void → ReadsVoided may (within 0) us (item ∷ []) rest (within 0) → all ≡ front ++ item ∷ [] → OuterOnto may front ts all rest
void_item_found {item = item} q k d e = record { some = item ∷ []; is = e; reads = grammar.void_item (next_is q k) d }

pub void_item_stop : {may : Bool} {ts us : List Terminal} {t : Terminal} {s : Stop} → ts ≡ t ∷ us → t.kind ≡ kinds.Void → Breaks (voided may) (within 0) us s → Breaks (outer may) (within 0) ts s
void_item_stop {may = may} q k b = opens_row (outer may) keeps (voided may ∷ []) (next_is q k) refl (here b)

pub mutex_item_found : {may : Bool} {front all : List RawItem} {ts us rest : List Terminal} {t : Terminal} {item : RawItem} → may ≡ true → ts ≡ t ∷ us → t.kind ≡ kinds.Mutex → ReadsMutexName us (item ∷ []) rest → all ≡ front ++ item ∷ [] → OuterOnto may front ts all rest
mutex_item_found {ts = ts} {rest = rest} {item = item} m q k d e = record { some = item ∷ []; is = e; reads = subst (λ (b : Bool). ReadsOuter b (within 0) ts (item ∷ []) rest (within 0)) (sym m) (grammar.mutex_item (next_is q k) d) }

pub mutex_item_stop : {may : Bool} {ts us : List Terminal} {t : Terminal} {s : Stop} → may ≡ true → ts ≡ t ∷ us → t.kind ≡ kinds.Mutex → Breaks mutex_name (within 0) us s → Breaks (outer may) (within 0) ts s
mutex_item_stop {ts = ts} {s = s} m q k b = subst (λ (b : Bool). Breaks (outer b) (within 0) ts s) (sym m) (opens_row (outer true) keeps (mutex_name ∷ []) (next_is q k) refl (here b))

pub no_mutex_stop : {may : Bool} {ts us : List Terminal} {t : Terminal} → may ≡ false → ts ≡ t ∷ us → t.kind ≡ kinds.Mutex → Breaks (outer may) (within 0) ts (At Bad (length ts))
no_mutex_stop {ts = ts} m q k = subst (λ (b : Bool). Breaks (outer b) (within 0) ts (At Bad (length ts))) (sym m) (stops_flat q (rw k refl))

pub number_item_found : {may : Bool} {w : Width} {front all : List RawItem} {ts us rest : List Terminal} → ReadsType ts w us → TypedOnto may w front us all rest → OuterOnto may front ts all rest
number_item_found n d = record { some = d.some; is = d.is; reads = grammar.number_item n d.reads }

number_item_row : {may : Bool} {ts us : List Terminal} {t : Terminal} {s : Stop} → ts ≡ t ∷ us → (t.kind ≡ kinds.Void → ⊥) → (t.kind ≡ kinds.Mutex → ⊥) → BreaksIn (type ∷ typed may ∷ []) (within 0) ts s → Breaks (outer may) (within 0) ts s
number_item_row {may = may} {ts = ts} {t = t} q h i b = is_row {ps = type ∷ typed may ∷ []} (λ below. opened_outer (within 0) may ts below (ap (begins_with is_word_outside) q ∙ no_word_outside t.kind h i)) b

pub number_type_stop : {may : Bool} {ts us : List Terminal} {t : Terminal} {s : Stop} → ts ≡ t ∷ us → (t.kind ≡ kinds.Void → ⊥) → (t.kind ≡ kinds.Mutex → ⊥) → Breaks type (within 0) ts s → Breaks (outer may) (within 0) ts s
number_type_stop q h i b = number_item_row q h i (here b)

pub number_typed_stop : {may : Bool} {w : Width} {ts us mid : List Terminal} {t : Terminal} {s : Stop} → ts ≡ t ∷ us → (t.kind ≡ kinds.Void → ⊥) → (t.kind ≡ kinds.Mutex → ⊥) → ReadsType ts w mid → Breaks (typed may) (within 0) mid s → Breaks (outer may) (within 0) ts s
number_typed_stop {mid = mid} q h i n b = number_item_row q h i (behind_it {p = type} {mid = mid} (passes_type (within 0) n) (here b))

no_storage : (k : Kind) → (k ≡ kinds.Static → ⊥) → (k ≡ kinds.Extern → ⊥) → is_storage k ≡ false
no_storage kinds.Static h i = absurd (h refl)
no_storage kinds.Extern h i = absurd (i refl)
no_storage _ h i = refl

pub static_found : {front all : List RawItem} {ts us rest : List Terminal} {t : Terminal} → ts ≡ t ∷ us → t.kind ≡ kinds.Static → OuterOnto true front us all rest → ItemOnto front ts all rest
static_found q k o = record { some = o.some; is = o.is; reads = grammar.static_item (next_is q k) o.reads }

pub static_stop : {ts us : List Terminal} {t : Terminal} {s : Stop} → ts ≡ t ∷ us → t.kind ≡ kinds.Static → Breaks (outer true) (within 0) us s → Breaks unit_item (within 0) ts s
static_stop q k b = opens_row unit_item keeps (outer true ∷ []) (next_is q k) refl (here b)

pub extern_found : {front all : List RawItem} {ts us rest : List Terminal} {t : Terminal} → ts ≡ t ∷ us → t.kind ≡ kinds.Extern → OuterOnto false front us all rest → ItemOnto front ts all rest
extern_found q k o = record { some = o.some; is = o.is; reads = grammar.extern_item (next_is q k) o.reads }

pub extern_stop : {ts us : List Terminal} {t : Terminal} {s : Stop} → ts ≡ t ∷ us → t.kind ≡ kinds.Extern → Breaks (outer false) (within 0) us s → Breaks unit_item (within 0) ts s
extern_stop q k b = opens_row unit_item keeps (outer false ∷ []) (next_is q k) refl (here b)

pub plain_found : {front all : List RawItem} {ts rest : List Terminal} → OuterOnto true front ts all rest → ItemOnto front ts all rest
plain_found o = record { some = o.some; is = o.is; reads = grammar.plain_item o.reads }

pub plain_stop : {ts us : List Terminal} {t : Terminal} {s : Stop} → ts ≡ t ∷ us → (t.kind ≡ kinds.Static → ⊥) → (t.kind ≡ kinds.Extern → ⊥) → Breaks (outer true) (within 0) ts s → Breaks unit_item (within 0) ts s
plain_stop {ts = ts} {t = t} q h i b = is_row {ps = outer true ∷ []} (λ below. opened_unit_item (within 0) ts below (ap (begins_with is_storage) q ∙ no_storage t.kind h i)) (here b)

-- units

abbrev pub UnitGoesOn : List Terminal → List RawItem → List Terminal → Type 0
UnitGoesOn ts list us = (more : List RawItem) → ReadsUnit (within 0) us more (within 0) → ReadsUnit (within 0) ts (list ++ more) (within 0)

pub record UnitRunsOn (ts us : List Terminal) : Type 0 where
  pub runs : run [] (within 0) ts ≡ run [] (within 0) us

pub unit_runs_from : {ts : List Terminal} → UnitRunsOn ts ts
unit_runs_from = record { runs = refl }

opened_here : (ts : List Terminal) → 0 < length ts → run [] (within 0) ts ≡ run (unit_item ∷ []) (within 0) ts
opened_here [] h = absurd (omega (arith, h))
opened_here (t ∷ ts) h = opened_unit (within 0) t ts

pub unit_again : {list now : List RawItem} {ts us mid : List Terminal} → UnitGoesOn ts list us → ItemOnto list us now mid → UnitGoesOn ts now mid
unit_again {list = list} {ts = ts} reads o more d = subst (λ (l : List RawItem). ReadsUnit (within 0) ts l (within 0)) (sym (append_assoc list o.some more) ∙ ap (λ (l : List RawItem). l ++ more) (sym o.is)) (reads (o.some ++ more) (grammar.unit_item o.reads d))

pub unit_run : {list now : List RawItem} {ts us mid : List Terminal} → UnitRunsOn ts us → 0 < length us → ItemOnto list us now mid → UnitRunsOn ts mid
unit_run {us = us} r h o = record { runs = r.runs ∙ opened_here us h ∙ passes_item o.reads [] }

pub unit_stop : {ts us : List Terminal} {s : Stop} → UnitRunsOn ts us → 0 < length us → Breaks unit_item (within 0) us s → BreaksUnit ts s
unit_stop {us = us} {s = At f left} r h b = r.runs ∙ opened_here us h ∙ b.breaks []
unit_stop {s = Memory} r h b = tt

pub unit_found : {list : List RawItem} {ts : List Terminal} (us : List Terminal) → UnitGoesOn ts list us → length us ≡ 0 → ReadsUnit (within 0) ts list (within 0)
unit_found {list = list} {ts = ts} [] reads h = subst (λ (l : List RawItem). ReadsUnit (within 0) ts l (within 0)) (append-nil list) (reads [] grammar.unit_end)
unit_found (u ∷ us) reads h = absurd (omega (arith, h))

pub unit_begun : {list : List RawItem} {ts : List Terminal} → list ≡ [] → UnitGoesOn ts list ts
unit_begun {ts = ts} e more d = subst (λ (l : List RawItem). ReadsUnit (within 0) ts (l ++ more) (within 0)) (sym e) d
