-- Rows of parts by their first token, and names.
use Rattle.std.proofs.Common.{arith, ◌≡◌, refl, ℕ, Bool, true, false, List, [], ◌∷◌, ◌++◌, length}
use Rattle.c_parse.specs.declared.terminal.Terminal.{Terminal}
use Rattle.c_parse.specs.declared.terminal.Kind.{Kind}
use Rattle.c_parse.specs.declared.terminal.Kind.TheVariants as kinds
use Rattle.c_parse.specs.declared.stop.Sign.{Sign}
use Rattle.c_parse.specs.declared.stop.Trouble.TheVariants.{Bad}
use Rattle.c_parse.specs.declared.raw.expr.RawName.{RawName}
use Rattle.c_parse.specs.Grammar.{within, Next, ReadsName}
use Rattle.c_parse.specs.Machine.{Effect, keeps, counts, ends_arg, enters, settles, effect, Part, Move, takes, skips, stops, Outcome, finished, troubled, sign, ident, settle, level, chain, call, args, more_args, whole, condition, initial, long_tail, type, locals, more_locals, numbers, threads, more_threads, decl, after_name, handle, simple, value, first, test, last, do_end, bare, stmt, otherwise, items, literal, number, globals, more_globals, after_head, param, param_name, more_params, params, thread_param, thread_void, thread_name, voided, named, typed, mutex_name, outer, unit_item, before, entering, move, moved, behind, settled_next, next, run, go_on, unless_over, is_sign, kind_of, Passes}
use Rattle.c_parse.specs.Machine.{opens_operand, opens_type, opens_decl, opens_simple, opens_stmt, is_close_paren, is_semicolon, is_close_brace, is_comma, ends_value, ends_first, ends_items, ends_params, is_name, is_word_outside, is_storage, is_thread, is_worded}
use Rattle.c_parse.specs.Machine as parts
use Rattle.c_parse.specs.declared.stop.Stop.{Stop}
use Rattle.c_parse.specs.declared.stop.Stop.TheVariants.{At}
use Rattle.c_parse.specs.Machine.{Breaks, BreaksIn, BreaksEver, BreaksUnit, IsOver, ReadsOnto, want}
use Rattle.c_parse.proofs.Passing.{passes_sign, passes_ident}
use Rattle.c_parse.proofs.Descent.{name_is, behind_it, stops_here}

-- parts that are rows, by their first token

abbrev pub by_row : Bool → List Part → Move
by_row true ps = takes keeps ps
by_row false ps = stops

pub signed_row : (p : Part) (s : Sign) (ps : List Part) → parts.may_end p ≡ false → ((k : Kind) → move p k ≡ by_row (is_sign s k) ps) → (ts : List Terminal) (below : List Part) → run (p ∷ below) (within 0) ts ≡ run (sign s ∷ ps ++ below) (within 0) ts
signed_row p s ps e m [] below = rw e refl
signed_row p s ps e m (t ∷ ts) below = go (is_sign s t.kind) refl
  where
    go : (b : Bool) → is_sign s t.kind ≡ b → run (p ∷ below) (within 0) (t ∷ ts) ≡ run (sign s ∷ ps ++ below) (within 0) (t ∷ ts)
    go true h = rw (m t.kind) (rw h refl)
    go false h = rw (m t.kind) (rw h refl)

ident_by : (k : Kind) → parts.ident_move k ≡ by_row (is_name k) []
ident_by (kinds.Name x) = refl
ident_by _ = refl

pub named_row : (p : Part) (ps : List Part) → parts.may_end p ≡ false → ((k : Kind) → move p k ≡ by_row (is_name k) ps) → (ts : List Terminal) (below : List Part) → run (p ∷ below) (within 0) ts ≡ run (ident ∷ ps ++ below) (within 0) ts
named_row p ps e m [] below = rw e refl
named_row p ps e m (t ∷ ts) below = go (is_name t.kind) refl
  where
    go : (b : Bool) → is_name t.kind ≡ b → run (p ∷ below) (within 0) (t ∷ ts) ≡ run (ident ∷ ps ++ below) (within 0) (t ∷ ts)
    go true h = rw (m t.kind) (rw (ident_by t.kind) (rw h refl))
    go false h = rw (m t.kind) (rw (ident_by t.kind) (rw h refl))

-- a name, or none

pub ident_found : {text : List ℕ} {ts rest : List Terminal} {t : Terminal} {x : RawName} → ts ≡ t ∷ rest → t.kind ≡ kinds.Name text → x ≡ record { text = text; place = t.place } → ReadsName ts x rest
ident_found q h n = name_is q h n

pub no_ident_at_end : {ts : List Terminal} → length ts ≡ 0 → Breaks ident (within 0) ts (At Bad 0)
no_ident_at_end {ts = []} h = record { breaks = λ below. refl }
no_ident_at_end {ts = t ∷ ts} h = absurd (omega (arith, h))

pub no_ident : {ts rest : List Terminal} {t : Terminal} → ts ≡ t ∷ rest → is_name t.kind ≡ false → Breaks ident (within 0) ts (At Bad (length ts))
no_ident {t = t} q h = record { breaks = λ below. rw q (rw (ident_by t.kind) (rw h refl)) }

-- a token at which a part stops, and the end of the tokens

pub stops_flat : {p : Part} {us vs : List Terminal} {t : Terminal} → us ≡ t ∷ vs → move p t.kind ≡ stops → Breaks p (within 0) us (At Bad (length us))
stops_flat q h = stops_here refl q h

pub stops_end : {p : Part} {us : List Terminal} → length us ≡ 0 → parts.may_end p ≡ false → Breaks p (within 0) us (At Bad 0)
stops_end {us = []} h e = record { breaks = λ below. rw e refl }
stops_end {us = u ∷ us} h e = absurd (omega (arith, h))

-- stops behind what was read of a row

pub behind_sign : (g : Sign) {ps : List Part} {ts mid : List Terminal} {s : Stop} → Next (kind_of g) ts mid → BreaksIn ps (within 0) mid s → BreaksIn (sign g ∷ ps) (within 0) ts s
behind_sign g {mid = mid} n b = behind_it {p = sign g} {mid = mid} (passes_sign g (within 0) n) b

pub behind_ident : {x : RawName} {ps : List Part} {ts mid : List Terminal} {s : Stop} → ReadsName ts x mid → BreaksIn ps (within 0) mid s → BreaksIn (ident ∷ ps) (within 0) ts s
behind_ident {mid = mid} n b = behind_it {p = ident} {mid = mid} (passes_ident (within 0) n) b
