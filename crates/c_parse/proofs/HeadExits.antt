-- What each exit of the descent through the head of a function rests on.
use Rattle.std.proofs.Common.{subst, append-nil, ◌<◌, ◌≤◌, ◌-◌, ◌+◌, arith, ◌≡◌, refl, sym, ap, ◌∙◌, ℕ, zero, suc, Bool, true, false, ◌&&◌, ℤ, pos, neg_ℤ, List, [], ◌∷◌, ◌++◌, length, Option, Some, None, append_assoc}
use Rattle.gob_tree.specs.declared.expr.Width.{Width}
use Rattle.gob_tree.specs.declared.expr.Width.TheVariants.{W32, W64}
use Rattle.gob_tree.specs.declared.place.Place.{Place}
use Rattle.gob_tree.specs.declared.unit.FuncKind.TheVariants.{Int, Void}
use Rattle.c_parse.specs.declared.terminal.Terminal.{Terminal}
use Rattle.c_parse.specs.declared.terminal.Kind.{Kind}
use Rattle.c_parse.specs.declared.terminal.Kind.TheVariants as kinds
use Rattle.c_parse.specs.declared.stop.Sign.{Sign}
use Rattle.c_parse.specs.declared.stop.Sign.TheVariants as signs
use Rattle.c_parse.specs.declared.stop.Stop.{Stop}
use Rattle.c_parse.specs.declared.stop.Stop.TheVariants.{At, Memory}
use Rattle.c_parse.specs.declared.stop.Trouble.TheVariants.{Bad, Deep}
use Rattle.c_parse.specs.declared.raw.expr.RawName.{RawName}
use Rattle.c_parse.specs.declared.raw.stmt.RawPlaced.{RawPlaced}
use Rattle.c_parse.specs.declared.raw.unit.RawHead.{RawHead}
use Rattle.c_parse.specs.declared.raw.unit.RawItem.{RawItem}
use Rattle.c_parse.specs.declared.raw.unit.RawItem.TheVariants as tops
use Rattle.c_parse.specs.Grammar as grammar
use Rattle.c_parse.specs.Grammar.{Nesting, within, begins_with, is_equals, is_open_paren, Next, ReadsName, ReadsType, ReadsItems, ReadsLiteral, ReadsGlobals, ReadsMoreGlobals, ReadsAfterHead, ReadsParam, ReadsParamName, ReadsMoreParams, ReadsParams, ReadsThreadParam, ReadsThreadVoid, ReadsThreadName, ReadsVoided, ReadsNamed, ReadsTyped, ReadsMutexName, ReadsOuter, ReadsItem, ReadsUnit}
use Rattle.c_parse.specs.Machine as parts
use Rattle.c_parse.specs.Machine.{keeps, Part, Move, takes, stops, sign, ident, type, items, literal, number, globals, more_globals, after_head, param, param_name, more_params, params, thread_param, thread_void, thread_name, voided, named, typed, mutex_name, outer, unit_item, move, run, is_sign, kind_of, is_close_paren, is_name, ends_params, is_storage, is_word_outside, Breaks, BreaksIn, BreaksEver, BreaksUnit}
use Rattle.c_parse.specs.Descent.{ReadsGlobal, MoreGlobalsOnto, GlobalsOnto, ReadsOneParam, NamedOnto, TypedOnto, OuterOnto, ItemOnto}
use Rattle.c_parse.proofs.Opening.{taken, taken_name, opened_globals, opened_param, opened_param_name, opened_params, opened_named, opened_outer, opened_unit_item}
use Rattle.c_parse.proofs.Passing.{passes_sign, passes_ident, passes_type, passes_literal, passes_params}
use Rattle.c_parse.proofs.Descent.{next_is, name_is, here, here_ever, behind_it, opens_row, is_row, RunsOn, runs_stop, shorter_name, shorter_next}
use Rattle.c_parse.proofs.Shorter.{shorter_type, shorter_literal}
use Rattle.c_parse.proofs.Rows.{by_row, signed_row, named_row, behind_sign, behind_ident, stops_flat, stops_end}

-- what follows a head

module _ {ts us : List Terminal} {t : Terminal} {h : RawHead} {may : Bool} where
  pub prototype_found : ts ≡ t ∷ us → t.kind ≡ kinds.Semicolon → ReadsAfterHead h may (within 0) ts (tops.Prototype h ∷ []) us (within 0)
  prototype_found q k = grammar.prototype (next_is q k)

  pub body_found : {rest : List Terminal} {ps : List RawPlaced} {here : Place} → may ≡ true → ts ≡ t ∷ us → t.kind ≡ kinds.OpenBrace → ReadsItems 1 (within 0) us ps here rest (within 0) → ReadsAfterHead h may (within 0) ts (grammar.defined h here ps ∷ []) rest (within 0)
  body_found {rest = rest} {ps = ps} {here = here} m q k d = subst (λ (b : Bool). ReadsAfterHead h b (within 0) ts (grammar.defined h here ps ∷ []) rest (within 0)) (sym m) (grammar.body (next_is q k) d)

module _ {ts us : List Terminal} {t : Terminal} {may : Bool} where
  pub body_stop : {s : Stop} → may ≡ true → ts ≡ t ∷ us → t.kind ≡ kinds.OpenBrace → Breaks (items 1) (within 0) us s → Breaks (after_head may) (within 0) ts s
  body_stop {s = s} m q k b = subst (λ (b : Bool). Breaks (after_head b) (within 0) ts s) (sym m) (opens_row (after_head true) keeps (items 1 ∷ []) (next_is q k) refl (here b))

  pub no_body_stop : may ≡ false → ts ≡ t ∷ us → t.kind ≡ kinds.OpenBrace → Breaks (after_head may) (within 0) ts (At Bad (length ts))
  no_body_stop m q k = subst (λ (b : Bool). Breaks (after_head b) (within 0) ts (At Bad (length ts))) (sym m) (stops_flat q (rw k refl))

  pub after_head_stop : ts ≡ t ∷ us → parts.after_head_move may t.kind ≡ stops → Breaks (after_head may) (within 0) ts (At Bad (length ts))
  after_head_stop q k = stops_flat q k

-- one parameter

pub named_param_found : {ts us vs : List Terminal} {t : Terminal} {h now : RawHead} {may : Bool} {w : Width} {text : List ℕ} {x : RawName} → ReadsType ts w us → us ≡ t ∷ vs → t.kind ≡ kinds.Name text → x ≡ record { text = text; place = t.place } → now ≡ grammar.with_param h w (Some x) → ReadsOneParam h may ts now may vs
named_param_found {ts = ts} {us = us} {vs = vs} {h = h} {may = may} {w = w} {x = x} n q k e i =
    let x_is : ReadsName us x vs = name_is q k e in
    let l = shorter_type n in
    let m = shorter_name x_is in
    record {
      reads = λ item left d. grammar.param n (grammar.with_name x_is (subst (λ (hd : RawHead). ReadsMoreParams hd may (within 0) vs (item ∷ []) left (within 0)) i d));
      runs = λ below. opened_param (within 0) may ts below ∙ passes_type (within 0) n (param_name may ∷ below) ∙ taken_name (within 0) (param_name may) keeps (more_params may ∷ []) x_is (λ text. refl) below;
      short = omega (arith, l, m);
    }

no_name : (k : Kind) → ((text : List ℕ) → k ≡ kinds.Name text → ⊥) → is_name k ≡ false
no_name (kinds.Name x) h = absurd (h x refl)
no_name _ h = refl

pub unnamed_param_found : {ts us vs : List Terminal} {t : Terminal} {h now : RawHead} {may : Bool} {w : Width} → ReadsType ts w us → us ≡ t ∷ vs → ((text : List ℕ) → t.kind ≡ kinds.Name text → ⊥) → now ≡ grammar.with_param h w None → ReadsOneParam h may ts now false us
unnamed_param_found {ts = ts} {us = us} {t = t} {may = may} n q k i =
    let l = shorter_type n in
    record {
      reads = λ item left d. grammar.param n (grammar.without_name (subst (λ (hd : RawHead). ReadsMoreParams hd false (within 0) us (item ∷ []) left (within 0)) i d));
      runs = λ below. opened_param (within 0) may ts below ∙ passes_type (within 0) n (param_name may ∷ below) ∙ opened_param_name (within 0) may us below (ap (begins_with is_name) q ∙ no_name t.kind k);
      short = l;
    }

pub param_type_stop : {ts : List Terminal} {may : Bool} {s : Stop} → Breaks type (within 0) ts s → Breaks (param may) (within 0) ts s
param_type_stop {ts = ts} {may = may} b = is_row {ps = type ∷ param_name may ∷ []} (opened_param (within 0) may ts) (here b)

pub param_end_stop : {ts us : List Terminal} {may : Bool} {w : Width} → ReadsType ts w us → length us ≡ 0 → Breaks (param may) (within 0) ts (At Bad 0)
param_end_stop {ts = ts} {us = us} {may = may} n h = is_row {ps = type ∷ param_name may ∷ []} (opened_param (within 0) may ts) (behind_it {p = type} {mid = us} (passes_type (within 0) n) (here (stops_end h refl)))

-- the loop over parameters

abbrev pub ParamsGoOn : RawHead → Bool → List Terminal → RawHead → Bool → List Terminal → Type 0
ParamsGoOn first may ts now still us = (item : RawItem) (left : List Terminal) → ReadsMoreParams now still (within 0) us (item ∷ []) left (within 0) → ReadsMoreParams first may (within 0) ts (item ∷ []) left (within 0)

pub record ParamsRunOn (may : Bool) (ts : List Terminal) (still : Bool) (us : List Terminal) : Type 0 where
  pub runs : (below : List Part) → run (more_params may ∷ below) (within 0) ts ≡ run (more_params still ∷ below) (within 0) us

pub params_run_from : {may : Bool} {ts : List Terminal} → ParamsRunOn may ts may ts
params_run_from = record { runs = λ below. refl }

params_stop : {may still : Bool} {ts us : List Terminal} {s : Stop} → ParamsRunOn may ts still us → Breaks (more_params still) (within 0) us s → Breaks (more_params may) (within 0) ts s
params_stop {s = At f left} r b = record { breaks = λ below. r.runs below ∙ b.breaks below }
params_stop {s = Memory} r b = record { breaks = tt }

pub params_again : {first h now : RawHead} {may m still : Bool} {ts us vs mid : List Terminal} {t : Terminal} → ParamsGoOn first may ts h m us → us ≡ t ∷ vs → t.kind ≡ kinds.Comma → ReadsOneParam h m vs now still mid → ParamsGoOn first may ts now still mid
params_again reads q k p item left d = reads item left (grammar.next_param (next_is q k) (p.reads item left d))

pub params_run : {h now : RawHead} {may m still : Bool} {ts us vs mid : List Terminal} {t : Terminal} → ParamsRunOn may ts m us → us ≡ t ∷ vs → t.kind ≡ kinds.Comma → ReadsOneParam h m vs now still mid → ParamsRunOn may ts still mid
params_run {m = m} r q k p = record { runs = λ below. r.runs below ∙ taken (within 0) (more_params m) keeps (param m ∷ []) (next_is q k) refl below ∙ p.runs below }

pub last_param_found : {first h : RawHead} {may m : Bool} {ts us vs rest : List Terminal} {t : Terminal} {item : RawItem} → ParamsGoOn first may ts h m us → us ≡ t ∷ vs → t.kind ≡ kinds.CloseParen → ReadsAfterHead h m (within 0) vs (item ∷ []) rest (within 0) → ReadsMoreParams first may (within 0) ts (item ∷ []) rest (within 0)
last_param_found {rest = rest} {item = item} reads q k d = reads item rest (grammar.last_param (next_is q k) d)

module _ {may m : Bool} {ts us vs : List Terminal} {t : Terminal} where
  pub last_param_stop : {s : Stop} → ParamsRunOn may ts m us → us ≡ t ∷ vs → t.kind ≡ kinds.CloseParen → Breaks (after_head m) (within 0) vs s → Breaks (more_params may) (within 0) ts s
  last_param_stop r q k b = params_stop r (opens_row (more_params m) keeps (after_head m ∷ []) (next_is q k) refl (here b))

  pub next_param_stop : {s : Stop} → ParamsRunOn may ts m us → us ≡ t ∷ vs → t.kind ≡ kinds.Comma → Breaks (param m) (within 0) vs s → Breaks (more_params may) (within 0) ts s
  next_param_stop r q k b = params_stop r (opens_row (more_params m) keeps (param m ∷ []) (next_is q k) refl (here b))

  pub more_params_mark : ParamsRunOn may ts m us → us ≡ t ∷ vs → parts.more_params_move m t.kind ≡ stops → Breaks (more_params may) (within 0) ts (At Bad (length us))
  more_params_mark r q k = params_stop r (stops_flat q k)

pub more_params_end : {may m : Bool} {ts : List Terminal} (us : List Terminal) → ParamsRunOn may ts m us → length us ≡ 0 → Breaks (more_params may) (within 0) ts (At Bad 0)
more_params_end us r h = params_stop r (stops_end h refl)

pub shorter_param : {h now : RawHead} {may still : Bool} {ts rest : List Terminal} → ReadsOneParam h may ts now still rest → length rest < length ts
shorter_param p = p.short

-- the parameters of a head

no_ends_params : (k : Kind) → (k ≡ kinds.CloseParen → ⊥) → (k ≡ kinds.Void → ⊥) → ends_params k ≡ false
no_ends_params kinds.CloseParen h i = absurd (h refl)
no_ends_params kinds.Void h i = absurd (i refl)
no_ends_params _ h i = refl

module _ {ts us rest : List Terminal} {t : Terminal} {h : RawHead} {may : Bool} {item : RawItem} where
  pub no_params_found : ts ≡ t ∷ us → t.kind ≡ kinds.CloseParen → ReadsAfterHead h may (within 0) us (item ∷ []) rest (within 0) → ReadsParams h may (within 0) ts (item ∷ []) rest (within 0)
  no_params_found q k d = grammar.no_params (next_is q k) d

  pub void_params_found : {vs : List Terminal} → ts ≡ t ∷ us → t.kind ≡ kinds.Void → Next kinds.CloseParen us vs → ReadsAfterHead h may (within 0) vs (item ∷ []) rest (within 0) → ReadsParams h may (within 0) ts (item ∷ []) rest (within 0)
  void_params_found q k n d = grammar.void_params (next_is q k) n d

pub some_params_found : {ts mid rest : List Terminal} {h now : RawHead} {may still : Bool} {item : RawItem} → ReadsOneParam h may ts now still mid → ReadsMoreParams now still (within 0) mid (item ∷ []) rest (within 0) → ReadsParams h may (within 0) ts (item ∷ []) rest (within 0)
some_params_found {rest = rest} {item = item} p d = grammar.some_params (p.reads item rest d)

some_params_row : (may : Bool) {ts us : List Terminal} {t : Terminal} → ts ≡ t ∷ us → (t.kind ≡ kinds.CloseParen → ⊥) → (t.kind ≡ kinds.Void → ⊥) → (below : List Part) → run (params may ∷ below) (within 0) ts ≡ run (param may ∷ below) (within 0) ts
some_params_row may {ts = ts} {t = t} q h i below = opened_params (within 0) may ts below (ap (begins_with ends_params) q ∙ no_ends_params t.kind h i)

module _ {ts us : List Terminal} {t : Terminal} {may : Bool} {s : Stop} where
  pub no_params_stop : ts ≡ t ∷ us → t.kind ≡ kinds.CloseParen → Breaks (after_head may) (within 0) us s → Breaks (params may) (within 0) ts s
  no_params_stop q k b = opens_row (params may) keeps (after_head may ∷ []) (next_is q k) refl (here b)

  pub void_close_stop : ts ≡ t ∷ us → t.kind ≡ kinds.Void → BreaksEver (sign signs.CloseParen) us s → Breaks (params may) (within 0) ts s
  void_close_stop q k b = opens_row (params may) keeps (sign signs.CloseParen ∷ after_head may ∷ []) (next_is q k) refl (here_ever b)

  pub void_after_stop : {vs : List Terminal} → ts ≡ t ∷ us → t.kind ≡ kinds.Void → Next kinds.CloseParen us vs → Breaks (after_head may) (within 0) vs s → Breaks (params may) (within 0) ts s
  void_after_stop q k n b = opens_row (params may) keeps (sign signs.CloseParen ∷ after_head may ∷ []) (next_is q k) refl (behind_sign signs.CloseParen n (here b))

  pub some_params_stop : ts ≡ t ∷ us → (t.kind ≡ kinds.CloseParen → ⊥) → (t.kind ≡ kinds.Void → ⊥) → Breaks (param may) (within 0) ts s → Breaks (params may) (within 0) ts s
  some_params_stop q h i b = is_row {ps = param may ∷ []} (some_params_row may q h i) (here b)

pub some_params_more_stop : {ts us mid : List Terminal} {t : Terminal} {h now : RawHead} {may still : Bool} {s : Stop} → ts ≡ t ∷ us → (t.kind ≡ kinds.CloseParen → ⊥) → (t.kind ≡ kinds.Void → ⊥) → ReadsOneParam h may ts now still mid → Breaks (more_params still) (within 0) mid s → Breaks (params may) (within 0) ts s
some_params_more_stop {may = may} {s = At f left} q h i p b = record { breaks = λ below. some_params_row may q h i below ∙ p.runs below ∙ b.breaks below }
some_params_more_stop {s = Memory} q h i p b = record { breaks = tt }

-- the parameter of a thread function

module _ {ts us rest : List Terminal} {t : Terminal} {x : RawName} {hd : RawHead} {may : Bool} {item : RawItem} where
  pub named_thread_found : {vs : List Terminal} {text : List ℕ} {y : RawName} → ts ≡ t ∷ us → t.kind ≡ kinds.Name text → y ≡ record { text = text; place = t.place } → Next kinds.CloseParen us vs → hd ≡ grammar.thread_head x (Some y) → ReadsAfterHead hd may (within 0) vs (item ∷ []) rest (within 0) → ReadsThreadParam x may (within 0) ts (item ∷ []) rest (within 0)
  named_thread_found {vs = vs} q k e n i d = grammar.named_param (name_is q k e) n (subst (λ (h : RawHead). ReadsAfterHead h may (within 0) vs (item ∷ []) rest (within 0)) i d)

  pub unnamed_thread_found : ts ≡ t ∷ us → t.kind ≡ kinds.CloseParen → hd ≡ grammar.thread_head x None → ReadsAfterHead hd may (within 0) us (item ∷ []) rest (within 0) → ReadsThreadParam x may (within 0) ts (item ∷ []) rest (within 0)
  unnamed_thread_found q k i d = grammar.unnamed_param (next_is q k) (subst (λ (h : RawHead). ReadsAfterHead h may (within 0) us (item ∷ []) rest (within 0)) i d)

module _ {ts us : List Terminal} {t : Terminal} {may : Bool} {s : Stop} where
  pub named_thread_close_stop : {text : List ℕ} → ts ≡ t ∷ us → t.kind ≡ kinds.Name text → BreaksEver (sign signs.CloseParen) us s → Breaks (thread_param may) (within 0) ts s
  named_thread_close_stop q k b = opens_row (thread_param may) keeps (sign signs.CloseParen ∷ after_head may ∷ []) (next_is q k) refl (here_ever b)

  pub named_thread_after_stop : {vs : List Terminal} {text : List ℕ} → ts ≡ t ∷ us → t.kind ≡ kinds.Name text → Next kinds.CloseParen us vs → Breaks (after_head may) (within 0) vs s → Breaks (thread_param may) (within 0) ts s
  named_thread_after_stop q k n b = opens_row (thread_param may) keeps (sign signs.CloseParen ∷ after_head may ∷ []) (next_is q k) refl (behind_sign signs.CloseParen n (here b))

  pub unnamed_thread_stop : ts ≡ t ∷ us → t.kind ≡ kinds.CloseParen → Breaks (after_head may) (within 0) us s → Breaks (thread_param may) (within 0) ts s
  unnamed_thread_stop q k b = opens_row (thread_param may) keeps (after_head may ∷ []) (next_is q k) refl (here b)

-- thread functions

thread_name_by : (may : Bool) (k : Kind) → move (thread_name may) k ≡ by_row (is_name k) (sign signs.OpenParen ∷ thread_void may ∷ [])
thread_name_by may (kinds.Name x) = refl
thread_name_by may _ = refl

thread_name_row : (may : Bool) (ts : List Terminal) (below : List Part) → run (thread_name may ∷ below) (within 0) ts ≡ run (ident ∷ sign signs.OpenParen ∷ thread_void may ∷ below) (within 0) ts
thread_name_row may ts below = named_row (thread_name may) (sign signs.OpenParen ∷ thread_void may ∷ []) refl (thread_name_by may) ts below

thread_void_by : (may : Bool) (k : Kind) → move (thread_void may) k ≡ by_row (is_sign signs.Void k) (sign signs.Star ∷ thread_param may ∷ [])
thread_void_by may kinds.Void = refl
thread_void_by may _ = refl

thread_void_row : (may : Bool) (ts : List Terminal) (below : List Part) → run (thread_void may ∷ below) (within 0) ts ≡ run (sign signs.Void ∷ sign signs.Star ∷ thread_param may ∷ below) (within 0) ts
thread_void_row may ts below = signed_row (thread_void may) signs.Void (sign signs.Star ∷ thread_param may ∷ []) refl (thread_void_by may) ts below

thread_void_stop : {may : Bool} {ts : List Terminal} {s : Stop} → BreaksIn (sign signs.Void ∷ sign signs.Star ∷ thread_param may ∷ []) (within 0) ts s → Breaks (thread_void may) (within 0) ts s
thread_void_stop {may = may} {ts = ts} b = is_row {ps = sign signs.Void ∷ sign signs.Star ∷ thread_param may ∷ []} (thread_void_row may ts) b

thread_name_stop : {may : Bool} {ts : List Terminal} {s : Stop} → BreaksIn (ident ∷ sign signs.OpenParen ∷ thread_void may ∷ []) (within 0) ts s → Breaks (thread_name may) (within 0) ts s
thread_name_stop {may = may} {ts = ts} b = is_row {ps = ident ∷ sign signs.OpenParen ∷ thread_void may ∷ []} (thread_name_row may ts) b

pub thread_name_0_stop : {may : Bool} {v0 : List Terminal} {s : Stop} → Breaks ident (within 0) v0 s → Breaks (thread_name may) (within 0) v0 s
thread_name_0_stop b = thread_name_stop (here b)

pub thread_name_1_stop : {may : Bool} {v0 v1 : List Terminal} {x : RawName} {s : Stop} → ReadsName v0 x v1 → BreaksEver (sign signs.OpenParen) v1 s → Breaks (thread_name may) (within 0) v0 s
thread_name_1_stop n b = thread_name_stop (behind_ident n (here_ever b))

pub thread_name_2_stop : {may : Bool} {v0 v1 v2 : List Terminal} {x : RawName} {s : Stop} → ReadsName v0 x v1 → Next kinds.OpenParen v1 v2 → BreaksEver (sign signs.Void) v2 s → Breaks (thread_name may) (within 0) v0 s
thread_name_2_stop n n1 b = thread_name_stop (behind_ident n (behind_sign signs.OpenParen n1 (here (thread_void_stop (here_ever b)))))

pub thread_name_3_stop : {may : Bool} {v0 v1 v2 v3 : List Terminal} {x : RawName} {s : Stop} → ReadsName v0 x v1 → Next kinds.OpenParen v1 v2 → Next kinds.Void v2 v3 → BreaksEver (sign signs.Star) v3 s → Breaks (thread_name may) (within 0) v0 s
thread_name_3_stop n n1 n2 b = thread_name_stop (behind_ident n (behind_sign signs.OpenParen n1 (here (thread_void_stop (behind_sign signs.Void n2 (here_ever b))))))

pub thread_name_4_stop : {may : Bool} {v0 v1 v2 v3 v4 : List Terminal} {x : RawName} {s : Stop} → ReadsName v0 x v1 → Next kinds.OpenParen v1 v2 → Next kinds.Void v2 v3 → Next kinds.Star v3 v4 → Breaks (thread_param may) (within 0) v4 s → Breaks (thread_name may) (within 0) v0 s
thread_name_4_stop n n1 n2 n3 b = thread_name_stop (behind_ident n (behind_sign signs.OpenParen n1 (here (thread_void_stop (behind_sign signs.Void n2 (behind_sign signs.Star n3 (here b)))))))

pub thread_name_found : {may : Bool} {v0 v1 v2 v3 v4 rest : List Terminal} {x : RawName} {item : RawItem} → ReadsName v0 x v1 → Next kinds.OpenParen v1 v2 → Next kinds.Void v2 v3 → Next kinds.Star v3 v4 → ReadsThreadParam x may (within 0) v4 (item ∷ []) rest (within 0) → ReadsThreadName may (within 0) v0 (item ∷ []) rest (within 0)
thread_name_found n n1 n2 n3 d = grammar.thread_name n n1 (grammar.thread_void n2 n3 d)

-- what follows `void`

module _ {ts us rest : List Terminal} {t : Terminal} {may : Bool} {item : RawItem} where
  pub void_function_found : {vs : List Terminal} {text : List ℕ} {x : RawName} {hd : RawHead} → ts ≡ t ∷ us → t.kind ≡ kinds.Name text → x ≡ record { text = text; place = t.place } → Next kinds.OpenParen us vs → hd ≡ grammar.head_of x Void W32 → ReadsParams hd may (within 0) vs (item ∷ []) rest (within 0) → ReadsVoided may (within 0) ts (item ∷ []) rest (within 0)
  void_function_found {vs = vs} q k e n i d = grammar.void_function (name_is q k e) n (subst (λ (h : RawHead). ReadsParams h may (within 0) vs (item ∷ []) rest (within 0)) i d)

  pub thread_function_found : ts ≡ t ∷ us → t.kind ≡ kinds.Star → ReadsThreadName may (within 0) us (item ∷ []) rest (within 0) → ReadsVoided may (within 0) ts (item ∷ []) rest (within 0)
  thread_function_found q k d = grammar.thread_function (next_is q k) d

module _ {ts us : List Terminal} {t : Terminal} {may : Bool} {s : Stop} where
  pub void_open_stop : {text : List ℕ} → ts ≡ t ∷ us → t.kind ≡ kinds.Name text → BreaksEver (sign signs.OpenParen) us s → Breaks (voided may) (within 0) ts s
  void_open_stop q k b = opens_row (voided may) keeps (sign signs.OpenParen ∷ params may ∷ []) (next_is q k) refl (here_ever b)

  pub void_params_stop : {vs : List Terminal} {text : List ℕ} → ts ≡ t ∷ us → t.kind ≡ kinds.Name text → Next kinds.OpenParen us vs → Breaks (params may) (within 0) vs s → Breaks (voided may) (within 0) ts s
  void_params_stop q k n b = opens_row (voided may) keeps (sign signs.OpenParen ∷ params may ∷ []) (next_is q k) refl (behind_sign signs.OpenParen n (here b))

  pub thread_function_stop : ts ≡ t ∷ us → t.kind ≡ kinds.Star → Breaks (thread_name may) (within 0) us s → Breaks (voided may) (within 0) ts s
  thread_function_stop q k b = opens_row (voided may) keeps (thread_name may ∷ []) (next_is q k) refl (here b)
