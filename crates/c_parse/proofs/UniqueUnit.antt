-- A list of tokens is read as a unit in one way.
use Rattle.std.proofs.Common.{◌≡◌, refl, sym, ap, ◌∙◌, ℕ, Bool, true, false, ℤ, subst, List, [], ◌∷◌}
use Rattle.gob_tree.specs.declared.expr.Width.{Width}
use Rattle.gob_tree.specs.declared.place.Place.{Place}
use Rattle.c_parse.specs.declared.terminal.Terminal.{Terminal}
use Rattle.c_parse.specs.declared.terminal.Kind.{Kind}
use Rattle.c_parse.specs.declared.terminal.Kind.TheVariants as kinds
use Rattle.c_parse.specs.declared.raw.expr.RawName.{RawName}
use Rattle.c_parse.specs.declared.raw.unit.RawHead.{RawHead}
use Rattle.c_parse.specs.declared.raw.unit.RawItem.{RawItem}
use Rattle.c_parse.specs.Grammar as grammar
use Rattle.c_parse.specs.Grammar.{Nesting, begins_with, ReadsLiteral, ReadsGlobals, ReadsMoreGlobals, ReadsAfterHead, ReadsParam, ReadsParamName, ReadsMoreParams, ReadsParams, ReadsThreadParam, ReadsThreadVoid, ReadsThreadName, ReadsVoided, ReadsNamed, ReadsTyped, ReadsMutexName, ReadsOuter, ReadsItem, ReadsUnit}
use Rattle.c_parse.proofs.Passing.{first_is, also_first, type_begins, param_begins}
use Rattle.c_parse.proofs.Unique.{same_next, same_name, form_at_of, form_at_name_of, first_form_of}
use Rattle.c_parse.specs.Machine.{opens_type}
use Rattle.c_parse.proofs.UniqueStatement.{same_type, same_items}

abbrev opens_more_globals : Kind → Bool
opens_more_globals kinds.Semicolon = true
opens_more_globals kinds.Comma = true
opens_more_globals _ = false

abbrev opens_globals : Kind → Bool
opens_globals kinds.Semicolon = true
opens_globals kinds.Comma = true
opens_globals kinds.Equals = true
opens_globals _ = false

abbrev opens_more_params : Kind → Bool
opens_more_params kinds.Comma = true
opens_more_params kinds.CloseParen = true
opens_more_params _ = false

abbrev opens_outer : Kind → Bool
opens_outer kinds.Int = true
opens_outer kinds.Long = true
opens_outer kinds.Void = true
opens_outer kinds.Mutex = true
opens_outer _ = false

more_globals_begins : {w : Width} {ts rest : List Terminal} {q0 : List RawItem} → ReadsMoreGlobals w ts q0 rest → begins_with opens_more_globals ts ≡ true
more_globals_begins (grammar.last_global n0) = first_is opens_more_globals n0
more_globals_begins (grammar.next_global n0 n1 n2) = first_is opens_more_globals n0

more_globals_globals : (k : Kind) → opens_more_globals k ≡ true → opens_globals k ≡ true
more_globals_globals kinds.Semicolon h = refl
more_globals_globals kinds.Comma h = refl
more_globals_globals _ h = absurd (cc)

type_outer : (k : Kind) → opens_type k ≡ true → opens_outer k ≡ true
type_outer kinds.Int h = refl
type_outer kinds.Long h = refl
type_outer _ h = absurd (cc)

globals_begins : {w : Width} {x : RawName} {ts rest : List Terminal} {q0 : List RawItem} → ReadsGlobals w x ts q0 rest → begins_with opens_globals ts ≡ true
globals_begins (grammar.given n0 n1 n2) = first_is opens_globals n0
globals_begins (grammar.unset {ts = ts} n0) = also_first opens_more_globals opens_globals more_globals_globals ts (more_globals_begins n0)

more_params_begins : {h : RawHead} {may : Bool} {a b : Nesting} {ts rest : List Terminal} {q0 : List RawItem} → ReadsMoreParams h may a ts q0 rest b → begins_with opens_more_params ts ≡ true
more_params_begins (grammar.next_param n0 n1) = first_is opens_more_params n0
more_params_begins (grammar.last_param n0 n1) = first_is opens_more_params n0

outer_begins : {may : Bool} {a b : Nesting} {ts rest : List Terminal} {q0 : List RawItem} → ReadsOuter may a ts q0 rest b → begins_with opens_outer ts ≡ true
outer_begins (grammar.number_item {ts = ts} n0 n1) = also_first opens_type opens_outer type_outer ts (type_begins n0)
outer_begins (grammar.void_item n0 n1) = first_is opens_outer n0
outer_begins (grammar.mutex_item n0 n1) = first_is opens_outer n0

abbrev literal_form : Kind → ℕ
literal_form (kinds.Number v w) = 0
literal_form kinds.Minus = 1
literal_form _ = 7

abbrev form_of_literal : {ts rest : List Terminal} {q0 : ℤ} {q1 : Place} → ReadsLiteral ts q0 q1 rest → ℕ
form_of_literal (grammar.literal n0) = 0
form_of_literal (grammar.negative n0 n1) = 1

literal_called_for : {ts rest : List Terminal} {q0 : ℤ} {q1 : Place} → (d : ReadsLiteral ts q0 q1 rest) → form_of_literal d ≡ first_form_of 7 literal_form ts
literal_called_for (grammar.literal n0) = form_at_of 7 literal_form n0
literal_called_for (grammar.negative n0 n1) = form_at_of 7 literal_form n0

pub same_literal : {ts us rest left : List Terminal} {q0 q01 : ℤ} {q1 q11 : Place} → ReadsLiteral ts q0 q1 rest → ReadsLiteral us q01 q11 left → ts ≡ us → (q0 ≡ q01) × (q1 ≡ q11) × (rest ≡ left)
same_literal (grammar.literal n0) (grammar.literal m0) q = let k0 = same_next n0 m0 q in (cc, cc, k0.rest_is)
same_literal (grammar.negative n0 n1) (grammar.negative m0 m1) q = let k0 = same_next n0 m0 q in let k1 = same_next n1 m1 k0.rest_is in (cc, cc, k1.rest_is)
same_literal d d1 q = let k : form_of_literal d ≡ form_of_literal d1 = literal_called_for d ∙ ap (first_form_of 7 literal_form) q ∙ sym (literal_called_for d1) in absurd (cc)

abbrev globals_form : Kind → ℕ
globals_form kinds.Equals = 0
globals_form kinds.Semicolon = 1
globals_form kinds.Comma = 1
globals_form _ = 7

globals_unset_at : (k : Kind) → opens_more_globals k ≡ true → globals_form k ≡ 1
globals_unset_at kinds.Semicolon h = refl
globals_unset_at kinds.Comma h = refl
globals_unset_at _ h = absurd (cc)

globals_unset : (ts : List Terminal) → begins_with opens_more_globals ts ≡ true → first_form_of 7 globals_form ts ≡ 1
globals_unset [] h = absurd (cc)
globals_unset (t ∷ ts) h = globals_unset_at t.kind h

abbrev form_of_globals : {w : Width} {x : RawName} {ts rest : List Terminal} {q0 : List RawItem} → ReadsGlobals w x ts q0 rest → ℕ
form_of_globals (grammar.given n0 n1 n2) = 0
form_of_globals (grammar.unset n0) = 1

globals_called_for : {w : Width} {x : RawName} {ts rest : List Terminal} {q0 : List RawItem} → (d : ReadsGlobals w x ts q0 rest) → form_of_globals d ≡ first_form_of 7 globals_form ts
globals_called_for (grammar.given n0 n1 n2) = form_at_of 7 globals_form n0
globals_called_for (grammar.unset {ts = ts} n0) = sym (globals_unset ts (more_globals_begins n0))

abbrev more_globals_form : Kind → ℕ
more_globals_form kinds.Semicolon = 0
more_globals_form kinds.Comma = 1
more_globals_form _ = 7

abbrev form_of_more_globals : {w : Width} {ts rest : List Terminal} {q0 : List RawItem} → ReadsMoreGlobals w ts q0 rest → ℕ
form_of_more_globals (grammar.last_global n0) = 0
form_of_more_globals (grammar.next_global n0 n1 n2) = 1

more_globals_called_for : {w : Width} {ts rest : List Terminal} {q0 : List RawItem} → (d : ReadsMoreGlobals w ts q0 rest) → form_of_more_globals d ≡ first_form_of 7 more_globals_form ts
more_globals_called_for (grammar.last_global n0) = form_at_of 7 more_globals_form n0
more_globals_called_for (grammar.next_global n0 n1 n2) = form_at_of 7 more_globals_form n0

mutual
  pub same_globals : {w w1 : Width} {x x1 : RawName} {ts us rest left : List Terminal} {q0 q01 : List RawItem} → ReadsGlobals w x ts q0 rest → ReadsGlobals w1 x1 us q01 left → w ≡ w1 → x ≡ x1 → ts ≡ us → (q0 ≡ q01) × (rest ≡ left)
  same_globals (grammar.given n0 n1 n2) (grammar.given m0 m1 m2) e0 e1 q = let k0 = same_next n0 m0 q in let k1 = same_literal n1 m1 k0.rest_is in let k2 = same_more_globals n2 m2 (cc) k1.2 in (cc, k2.1)
  same_globals (grammar.unset n0) (grammar.unset m0) e0 e1 q = let k0 = same_more_globals n0 m0 (cc) q in (cc, k0.1)
  same_globals d d1 e0 e1 q = let k : form_of_globals d ≡ form_of_globals d1 = globals_called_for d ∙ ap (first_form_of 7 globals_form) q ∙ sym (globals_called_for d1) in absurd (cc)

  pub same_more_globals : {w w1 : Width} {ts us rest left : List Terminal} {q0 q01 : List RawItem} → ReadsMoreGlobals w ts q0 rest → ReadsMoreGlobals w1 us q01 left → w ≡ w1 → ts ≡ us → (q0 ≡ q01) × (rest ≡ left)
  same_more_globals (grammar.last_global n0) (grammar.last_global m0) e0 q = let k0 = same_next n0 m0 q in (cc, k0.rest_is)
  same_more_globals (grammar.next_global n0 n1 n2) (grammar.next_global m0 m1 m2) e0 q = let k0 = same_next n0 m0 q in let k1 = same_name n1 m1 k0.rest_is in let k2 = same_globals n2 m2 (cc) (cc) k1.1 in (cc, k2.1)
  same_more_globals d d1 e0 q = let k : form_of_more_globals d ≡ form_of_more_globals d1 = more_globals_called_for d ∙ ap (first_form_of 7 more_globals_form) q ∙ sym (more_globals_called_for d1) in absurd (cc)

abbrev after_head_form : Kind → ℕ
after_head_form kinds.Semicolon = 0
after_head_form kinds.OpenBrace = 1
after_head_form _ = 7

abbrev form_of_after_head : {h : RawHead} {may : Bool} {a b : Nesting} {ts rest : List Terminal} {q0 : List RawItem} → ReadsAfterHead h may a ts q0 rest b → ℕ
form_of_after_head (grammar.prototype n0) = 0
form_of_after_head (grammar.body n0 n1) = 1

after_head_called_for : {h : RawHead} {may : Bool} {a b : Nesting} {ts rest : List Terminal} {q0 : List RawItem} → (d : ReadsAfterHead h may a ts q0 rest b) → form_of_after_head d ≡ first_form_of 7 after_head_form ts
after_head_called_for (grammar.prototype n0) = form_at_of 7 after_head_form n0
after_head_called_for (grammar.body n0 n1) = form_at_of 7 after_head_form n0

pub same_after_head : {h h1 : RawHead} {may : Bool} {a a1 b b1 : Nesting} {ts us rest left : List Terminal} {q0 q01 : List RawItem} → ReadsAfterHead h may a ts q0 rest b → ReadsAfterHead h1 may a1 us q01 left b1 → h ≡ h1 → ts ≡ us → (q0 ≡ q01) × (rest ≡ left)
same_after_head (grammar.prototype n0) (grammar.prototype m0) e0 q = let k0 = same_next n0 m0 q in (cc, k0.rest_is)
same_after_head (grammar.body n0 n1) (grammar.body m0 m1) e0 q = let k0 = same_next n0 m0 q in let k1 = same_items n1 m1 k0.rest_is in (cc, k1.2)
same_after_head d d1 e0 q = let k : form_of_after_head d ≡ form_of_after_head d1 = after_head_called_for d ∙ ap (first_form_of 7 after_head_form) q ∙ sym (after_head_called_for d1) in absurd (cc)

abbrev param_name_form : Kind → ℕ
param_name_form (kinds.Name z) = 0
param_name_form kinds.Comma = 1
param_name_form kinds.CloseParen = 1
param_name_form _ = 7

param_name_without_name_at : (k : Kind) → opens_more_params k ≡ true → param_name_form k ≡ 1
param_name_without_name_at kinds.Comma h = refl
param_name_without_name_at kinds.CloseParen h = refl
param_name_without_name_at _ h = absurd (cc)

param_name_without_name : (ts : List Terminal) → begins_with opens_more_params ts ≡ true → first_form_of 7 param_name_form ts ≡ 1
param_name_without_name [] h = absurd (cc)
param_name_without_name (t ∷ ts) h = param_name_without_name_at t.kind h

abbrev form_of_param_name : {h : RawHead} {may : Bool} {w : Width} {a b : Nesting} {ts rest : List Terminal} {q0 : List RawItem} → ReadsParamName h may w a ts q0 rest b → ℕ
form_of_param_name (grammar.with_name n0 n1) = 0
form_of_param_name (grammar.without_name n0) = 1

param_name_called_for : {h : RawHead} {may : Bool} {w : Width} {a b : Nesting} {ts rest : List Terminal} {q0 : List RawItem} → (d : ReadsParamName h may w a ts q0 rest b) → form_of_param_name d ≡ first_form_of 7 param_name_form ts
param_name_called_for (grammar.with_name n0 n1) = form_at_name_of 7 param_name_form 0 (λ text. refl) n0
param_name_called_for (grammar.without_name {ts = ts} n0) = sym (param_name_without_name ts (more_params_begins n0))

abbrev more_params_form : Kind → ℕ
more_params_form kinds.Comma = 0
more_params_form kinds.CloseParen = 1
more_params_form _ = 7

abbrev form_of_more_params : {h : RawHead} {may : Bool} {a b : Nesting} {ts rest : List Terminal} {q0 : List RawItem} → ReadsMoreParams h may a ts q0 rest b → ℕ
form_of_more_params (grammar.next_param n0 n1) = 0
form_of_more_params (grammar.last_param n0 n1) = 1

more_params_called_for : {h : RawHead} {may : Bool} {a b : Nesting} {ts rest : List Terminal} {q0 : List RawItem} → (d : ReadsMoreParams h may a ts q0 rest b) → form_of_more_params d ≡ first_form_of 7 more_params_form ts
more_params_called_for (grammar.next_param n0 n1) = form_at_of 7 more_params_form n0
more_params_called_for (grammar.last_param n0 n1) = form_at_of 7 more_params_form n0

mutual
  pub same_param : {h h1 : RawHead} {may : Bool} {a a1 b b1 : Nesting} {ts us rest left : List Terminal} {q0 q01 : List RawItem} → ReadsParam h may a ts q0 rest b → ReadsParam h1 may a1 us q01 left b1 → h ≡ h1 → ts ≡ us → (q0 ≡ q01) × (rest ≡ left)
  same_param (grammar.param n0 n1) (grammar.param m0 m1) e0 q = let k0 = same_type n0 m0 q in let k1 = same_param_name n1 m1 (cc) (cc) k0.1 in (cc, k1.1)

  pub same_param_name : {h h1 : RawHead} {may : Bool} {w w1 : Width} {a a1 b b1 : Nesting} {ts us rest left : List Terminal} {q0 q01 : List RawItem} → ReadsParamName h may w a ts q0 rest b → ReadsParamName h1 may w1 a1 us q01 left b1 → h ≡ h1 → w ≡ w1 → ts ≡ us → (q0 ≡ q01) × (rest ≡ left)
  same_param_name (grammar.with_name n0 n1) (grammar.with_name m0 m1) e0 e1 q = let k0 = same_name n0 m0 q in let k1 = same_more_params n1 m1 (cc) k0.1 in (cc, k1.1)
  same_param_name (grammar.without_name n0) (grammar.without_name m0) e0 e1 q = let k0 = same_more_params n0 m0 (cc) q in (cc, k0.1)
  same_param_name d d1 e0 e1 q = let k : form_of_param_name d ≡ form_of_param_name d1 = param_name_called_for d ∙ ap (first_form_of 7 param_name_form) q ∙ sym (param_name_called_for d1) in absurd (cc)

  pub same_more_params : {h h1 : RawHead} {may : Bool} {a a1 b b1 : Nesting} {ts us rest left : List Terminal} {q0 q01 : List RawItem} → ReadsMoreParams h may a ts q0 rest b → ReadsMoreParams h1 may a1 us q01 left b1 → h ≡ h1 → ts ≡ us → (q0 ≡ q01) × (rest ≡ left)
  same_more_params (grammar.next_param n0 n1) (grammar.next_param m0 m1) e0 q = let k0 = same_next n0 m0 q in let k1 = same_param n1 m1 (cc) k0.rest_is in (cc, k1.1)
  same_more_params (grammar.last_param n0 n1) (grammar.last_param m0 m1) e0 q = let k0 = same_next n0 m0 q in let k1 = same_after_head n1 m1 (cc) k0.rest_is in (cc, k1.1)
  same_more_params d d1 e0 q = let k : form_of_more_params d ≡ form_of_more_params d1 = more_params_called_for d ∙ ap (first_form_of 7 more_params_form) q ∙ sym (more_params_called_for d1) in absurd (cc)

abbrev params_form : Kind → ℕ
params_form kinds.CloseParen = 0
params_form kinds.Void = 1
params_form kinds.Int = 2
params_form kinds.Long = 2
params_form _ = 8

params_some_params_at : (k : Kind) → opens_type k ≡ true → params_form k ≡ 2
params_some_params_at kinds.Int h = refl
params_some_params_at kinds.Long h = refl
params_some_params_at _ h = absurd (cc)

params_some_params : (ts : List Terminal) → begins_with opens_type ts ≡ true → first_form_of 8 params_form ts ≡ 2
params_some_params [] h = absurd (cc)
params_some_params (t ∷ ts) h = params_some_params_at t.kind h

abbrev form_of_params : {h : RawHead} {may : Bool} {a b : Nesting} {ts rest : List Terminal} {q0 : List RawItem} → ReadsParams h may a ts q0 rest b → ℕ
form_of_params (grammar.no_params n0 n1) = 0
form_of_params (grammar.void_params n0 n1 n2) = 1
form_of_params (grammar.some_params n0) = 2

params_called_for : {h : RawHead} {may : Bool} {a b : Nesting} {ts rest : List Terminal} {q0 : List RawItem} → (d : ReadsParams h may a ts q0 rest b) → form_of_params d ≡ first_form_of 8 params_form ts
params_called_for (grammar.no_params n0 n1) = form_at_of 8 params_form n0
params_called_for (grammar.void_params n0 n1 n2) = form_at_of 8 params_form n0
params_called_for (grammar.some_params {ts = ts} n0) = sym (params_some_params ts (param_begins n0))

pub same_params : {h h1 : RawHead} {may : Bool} {a a1 b b1 : Nesting} {ts us rest left : List Terminal} {q0 q01 : List RawItem} → ReadsParams h may a ts q0 rest b → ReadsParams h1 may a1 us q01 left b1 → h ≡ h1 → ts ≡ us → (q0 ≡ q01) × (rest ≡ left)
same_params (grammar.no_params n0 n1) (grammar.no_params m0 m1) e0 q = let k0 = same_next n0 m0 q in let k1 = same_after_head n1 m1 (cc) k0.rest_is in (cc, k1.1)
same_params (grammar.void_params n0 n1 n2) (grammar.void_params m0 m1 m2) e0 q = let k0 = same_next n0 m0 q in let k1 = same_next n1 m1 k0.rest_is in let k2 = same_after_head n2 m2 (cc) k1.rest_is in (cc, k2.1)
same_params (grammar.some_params n0) (grammar.some_params m0) e0 q = let k0 = same_param n0 m0 (cc) q in (cc, k0.1)
same_params d d1 e0 q = let k : form_of_params d ≡ form_of_params d1 = params_called_for d ∙ ap (first_form_of 8 params_form) q ∙ sym (params_called_for d1) in absurd (cc)

abbrev thread_param_form : Kind → ℕ
thread_param_form (kinds.Name z) = 0
thread_param_form kinds.CloseParen = 1
thread_param_form _ = 7

abbrev form_of_thread_param : {x : RawName} {may : Bool} {a b : Nesting} {ts rest : List Terminal} {q0 : List RawItem} → ReadsThreadParam x may a ts q0 rest b → ℕ
form_of_thread_param (grammar.named_param n0 n1 n2) = 0
form_of_thread_param (grammar.unnamed_param n0 n1) = 1

thread_param_called_for : {x : RawName} {may : Bool} {a b : Nesting} {ts rest : List Terminal} {q0 : List RawItem} → (d : ReadsThreadParam x may a ts q0 rest b) → form_of_thread_param d ≡ first_form_of 7 thread_param_form ts
thread_param_called_for (grammar.named_param n0 n1 n2) = form_at_name_of 7 thread_param_form 0 (λ text. refl) n0
thread_param_called_for (grammar.unnamed_param n0 n1) = form_at_of 7 thread_param_form n0

pub same_thread_param : {x x1 : RawName} {may : Bool} {a a1 b b1 : Nesting} {ts us rest left : List Terminal} {q0 q01 : List RawItem} → ReadsThreadParam x may a ts q0 rest b → ReadsThreadParam x1 may a1 us q01 left b1 → x ≡ x1 → ts ≡ us → (q0 ≡ q01) × (rest ≡ left)
same_thread_param (grammar.named_param n0 n1 n2) (grammar.named_param m0 m1 m2) e0 q = let k0 = same_name n0 m0 q in let k1 = same_next n1 m1 k0.1 in let k2 = same_after_head n2 m2 (cc) k1.rest_is in (cc, k2.1)
same_thread_param (grammar.unnamed_param n0 n1) (grammar.unnamed_param m0 m1) e0 q = let k0 = same_next n0 m0 q in let k1 = same_after_head n1 m1 (cc) k0.rest_is in (cc, k1.1)
same_thread_param d d1 e0 q = let k : form_of_thread_param d ≡ form_of_thread_param d1 = thread_param_called_for d ∙ ap (first_form_of 7 thread_param_form) q ∙ sym (thread_param_called_for d1) in absurd (cc)

pub same_thread_void : {x x1 : RawName} {may : Bool} {a a1 b b1 : Nesting} {ts us rest left : List Terminal} {q0 q01 : List RawItem} → ReadsThreadVoid x may a ts q0 rest b → ReadsThreadVoid x1 may a1 us q01 left b1 → x ≡ x1 → ts ≡ us → (q0 ≡ q01) × (rest ≡ left)
same_thread_void (grammar.thread_void n0 n1 n2) (grammar.thread_void m0 m1 m2) e0 q = let k0 = same_next n0 m0 q in let k1 = same_next n1 m1 k0.rest_is in let k2 = same_thread_param n2 m2 (cc) k1.rest_is in (cc, k2.1)

pub same_thread_name : {may : Bool} {a a1 b b1 : Nesting} {ts us rest left : List Terminal} {q0 q01 : List RawItem} → ReadsThreadName may a ts q0 rest b → ReadsThreadName may a1 us q01 left b1 → ts ≡ us → (q0 ≡ q01) × (rest ≡ left)
same_thread_name (grammar.thread_name n0 n1 n2) (grammar.thread_name m0 m1 m2) q = let k0 = same_name n0 m0 q in let k1 = same_next n1 m1 k0.1 in let k2 = same_thread_void n2 m2 (cc) k1.rest_is in (cc, k2.1)

abbrev voided_form : Kind → ℕ
voided_form (kinds.Name z) = 0
voided_form kinds.Star = 1
voided_form _ = 7

abbrev form_of_voided : {may : Bool} {a b : Nesting} {ts rest : List Terminal} {q0 : List RawItem} → ReadsVoided may a ts q0 rest b → ℕ
form_of_voided (grammar.void_function n0 n1 n2) = 0
form_of_voided (grammar.thread_function n0 n1) = 1

voided_called_for : {may : Bool} {a b : Nesting} {ts rest : List Terminal} {q0 : List RawItem} → (d : ReadsVoided may a ts q0 rest b) → form_of_voided d ≡ first_form_of 7 voided_form ts
voided_called_for (grammar.void_function n0 n1 n2) = form_at_name_of 7 voided_form 0 (λ text. refl) n0
voided_called_for (grammar.thread_function n0 n1) = form_at_of 7 voided_form n0

pub same_voided : {may : Bool} {a a1 b b1 : Nesting} {ts us rest left : List Terminal} {q0 q01 : List RawItem} → ReadsVoided may a ts q0 rest b → ReadsVoided may a1 us q01 left b1 → ts ≡ us → (q0 ≡ q01) × (rest ≡ left)
same_voided (grammar.void_function n0 n1 n2) (grammar.void_function m0 m1 m2) q = let k0 = same_name n0 m0 q in let k1 = same_next n1 m1 k0.1 in let k2 = same_params n2 m2 (cc) k1.rest_is in (cc, k2.1)
same_voided (grammar.thread_function n0 n1) (grammar.thread_function m0 m1) q = let k0 = same_next n0 m0 q in let k1 = same_thread_name n1 m1 k0.rest_is in (cc, k1.1)
same_voided d d1 q = let k : form_of_voided d ≡ form_of_voided d1 = voided_called_for d ∙ ap (first_form_of 7 voided_form) q ∙ sym (voided_called_for d1) in absurd (cc)

abbrev named_form : Kind → ℕ
named_form kinds.OpenParen = 0
named_form kinds.Semicolon = 1
named_form kinds.Comma = 1
named_form kinds.Equals = 1
named_form _ = 7

named_globals_at : (k : Kind) → opens_globals k ≡ true → named_form k ≡ 1
named_globals_at kinds.Semicolon h = refl
named_globals_at kinds.Comma h = refl
named_globals_at kinds.Equals h = refl
named_globals_at _ h = absurd (cc)

named_globals : (ts : List Terminal) → begins_with opens_globals ts ≡ true → first_form_of 7 named_form ts ≡ 1
named_globals [] h = absurd (cc)
named_globals (t ∷ ts) h = named_globals_at t.kind h

abbrev form_of_named : {may : Bool} {w : Width} {x : RawName} {a b : Nesting} {ts rest : List Terminal} {q0 : List RawItem} → ReadsNamed may w x a ts q0 rest b → ℕ
form_of_named (grammar.number_function n0 n1) = 0
form_of_named (grammar.globals n0) = 1

named_called_for : {may : Bool} {w : Width} {x : RawName} {a b : Nesting} {ts rest : List Terminal} {q0 : List RawItem} → (d : ReadsNamed may w x a ts q0 rest b) → form_of_named d ≡ first_form_of 7 named_form ts
named_called_for (grammar.number_function n0 n1) = form_at_of 7 named_form n0
named_called_for (grammar.globals {ts = ts} n0) = sym (named_globals ts (globals_begins n0))

pub same_named : {may : Bool} {w w1 : Width} {x x1 : RawName} {a a1 b b1 : Nesting} {ts us rest left : List Terminal} {q0 q01 : List RawItem} → ReadsNamed may w x a ts q0 rest b → ReadsNamed may w1 x1 a1 us q01 left b1 → w ≡ w1 → x ≡ x1 → ts ≡ us → (q0 ≡ q01) × (rest ≡ left)
same_named (grammar.number_function n0 n1) (grammar.number_function m0 m1) e0 e1 q = let k0 = same_next n0 m0 q in let k1 = same_params n1 m1 (cc) k0.rest_is in (cc, k1.1)
same_named (grammar.globals n0) (grammar.globals m0) e0 e1 q = let k0 = same_globals n0 m0 (cc) (cc) q in (cc, k0.1)
same_named d d1 e0 e1 q = let k : form_of_named d ≡ form_of_named d1 = named_called_for d ∙ ap (first_form_of 7 named_form) q ∙ sym (named_called_for d1) in absurd (cc)

pub same_typed : {may : Bool} {w w1 : Width} {a a1 b b1 : Nesting} {ts us rest left : List Terminal} {q0 q01 : List RawItem} → ReadsTyped may w a ts q0 rest b → ReadsTyped may w1 a1 us q01 left b1 → w ≡ w1 → ts ≡ us → (q0 ≡ q01) × (rest ≡ left)
same_typed (grammar.typed n0 n1) (grammar.typed m0 m1) e0 q = let k0 = same_name n0 m0 q in let k1 = same_named n1 m1 (cc) (cc) k0.1 in (cc, k1.1)

pub same_mutex_name : {ts us rest left : List Terminal} {q0 q01 : List RawItem} → ReadsMutexName ts q0 rest → ReadsMutexName us q01 left → ts ≡ us → (q0 ≡ q01) × (rest ≡ left)
same_mutex_name (grammar.mutex_name n0 n1 n2 n3) (grammar.mutex_name m0 m1 m2 m3) q = let k0 = same_name n0 m0 q in let k1 = same_next n1 m1 k0.1 in let k2 = same_next n2 m2 k1.rest_is in let k3 = same_next n3 m3 k2.rest_is in (cc, k3.rest_is)

abbrev outer_form : Kind → ℕ
outer_form kinds.Int = 0
outer_form kinds.Long = 0
outer_form kinds.Void = 1
outer_form kinds.Mutex = 2
outer_form _ = 8

outer_number_item_at : (k : Kind) → opens_type k ≡ true → outer_form k ≡ 0
outer_number_item_at kinds.Int h = refl
outer_number_item_at kinds.Long h = refl
outer_number_item_at _ h = absurd (cc)

outer_number_item : (ts : List Terminal) → begins_with opens_type ts ≡ true → first_form_of 8 outer_form ts ≡ 0
outer_number_item [] h = absurd (cc)
outer_number_item (t ∷ ts) h = outer_number_item_at t.kind h

abbrev form_of_outer : {may : Bool} {a b : Nesting} {ts rest : List Terminal} {q0 : List RawItem} → ReadsOuter may a ts q0 rest b → ℕ
form_of_outer (grammar.number_item n0 n1) = 0
form_of_outer (grammar.void_item n0 n1) = 1
form_of_outer (grammar.mutex_item n0 n1) = 2

outer_called_for : {may : Bool} {a b : Nesting} {ts rest : List Terminal} {q0 : List RawItem} → (d : ReadsOuter may a ts q0 rest b) → form_of_outer d ≡ first_form_of 8 outer_form ts
outer_called_for (grammar.number_item {ts = ts} n0 n1) = sym (outer_number_item ts (type_begins n0))
outer_called_for (grammar.void_item n0 n1) = form_at_of 8 outer_form n0
outer_called_for (grammar.mutex_item n0 n1) = form_at_of 8 outer_form n0

pub same_outer : {may : Bool} {a a1 b b1 : Nesting} {ts us rest left : List Terminal} {q0 q01 : List RawItem} → ReadsOuter may a ts q0 rest b → ReadsOuter may a1 us q01 left b1 → ts ≡ us → (q0 ≡ q01) × (rest ≡ left)
same_outer (grammar.number_item n0 n1) (grammar.number_item m0 m1) q = let k0 = same_type n0 m0 q in let k1 = same_typed n1 m1 (cc) k0.1 in (cc, k1.1)
same_outer (grammar.void_item n0 n1) (grammar.void_item m0 m1) q = let k0 = same_next n0 m0 q in let k1 = same_voided n1 m1 k0.rest_is in (cc, k1.1)
same_outer (grammar.mutex_item n0 n1) (grammar.mutex_item m0 m1) q = let k0 = same_next n0 m0 q in let k1 = same_mutex_name n1 m1 k0.rest_is in (cc, k1.1)
same_outer d d1 q = let k : form_of_outer d ≡ form_of_outer d1 = outer_called_for d ∙ ap (first_form_of 8 outer_form) q ∙ sym (outer_called_for d1) in absurd (cc)

abbrev item_form : Kind → ℕ
item_form kinds.Static = 0
item_form kinds.Extern = 1
item_form kinds.Int = 2
item_form kinds.Long = 2
item_form kinds.Void = 2
item_form kinds.Mutex = 2
item_form _ = 8

item_plain_item_at : (k : Kind) → opens_outer k ≡ true → item_form k ≡ 2
item_plain_item_at kinds.Int h = refl
item_plain_item_at kinds.Long h = refl
item_plain_item_at kinds.Void h = refl
item_plain_item_at kinds.Mutex h = refl
item_plain_item_at _ h = absurd (cc)

item_plain_item : (ts : List Terminal) → begins_with opens_outer ts ≡ true → first_form_of 8 item_form ts ≡ 2
item_plain_item [] h = absurd (cc)
item_plain_item (t ∷ ts) h = item_plain_item_at t.kind h

abbrev form_of_item : {a b : Nesting} {ts rest : List Terminal} {q0 : List RawItem} → ReadsItem a ts q0 rest b → ℕ
form_of_item (grammar.static_item n0 n1) = 0
form_of_item (grammar.extern_item n0 n1) = 1
form_of_item (grammar.plain_item n0) = 2

item_called_for : {a b : Nesting} {ts rest : List Terminal} {q0 : List RawItem} → (d : ReadsItem a ts q0 rest b) → form_of_item d ≡ first_form_of 8 item_form ts
item_called_for (grammar.static_item n0 n1) = form_at_of 8 item_form n0
item_called_for (grammar.extern_item n0 n1) = form_at_of 8 item_form n0
item_called_for (grammar.plain_item {ts = ts} n0) = sym (item_plain_item ts (outer_begins n0))

pub same_item : {a a1 b b1 : Nesting} {ts us rest left : List Terminal} {q0 q01 : List RawItem} → ReadsItem a ts q0 rest b → ReadsItem a1 us q01 left b1 → ts ≡ us → (q0 ≡ q01) × (rest ≡ left)
same_item (grammar.static_item n0 n1) (grammar.static_item m0 m1) q = let k0 = same_next n0 m0 q in let k1 = same_outer n1 m1 k0.rest_is in (cc, k1.1)
same_item (grammar.extern_item n0 n1) (grammar.extern_item m0 m1) q = let k0 = same_next n0 m0 q in let k1 = same_outer n1 m1 k0.rest_is in (cc, k1.1)
same_item (grammar.plain_item n0) (grammar.plain_item m0) q = let k0 = same_outer n0 m0 q in (cc, k0.1)
same_item d d1 q = let k : form_of_item d ≡ form_of_item d1 = item_called_for d ∙ ap (first_form_of 8 item_form) q ∙ sym (item_called_for d1) in absurd (cc)

abbrev opens_item : Kind → Bool
opens_item kinds.Int = true
opens_item kinds.Long = true
opens_item kinds.Void = true
opens_item kinds.Mutex = true
opens_item kinds.Static = true
opens_item kinds.Extern = true
opens_item _ = false

outer_item : (k : Kind) → opens_outer k ≡ true → opens_item k ≡ true
outer_item kinds.Int h = refl
outer_item kinds.Long h = refl
outer_item kinds.Void h = refl
outer_item kinds.Mutex h = refl
outer_item _ h = absurd (cc)

item_form_there : {a b : Nesting} {ts rest : List Terminal} {items : List RawItem} → ReadsItem a ts items rest b → begins_with opens_item ts ≡ true
item_form_there (grammar.static_item n d) = first_is opens_item n
item_form_there (grammar.extern_item n d) = first_is opens_item n
item_form_there (grammar.plain_item {ts = ts} d) = also_first opens_outer opens_item outer_item ts (outer_begins d)

nothing_there : {a b : Nesting} {rest : List Terminal} {items : List RawItem} → ReadsItem a [] items rest b → ⊥
nothing_there d = contra (item_form_there d)
  where
    contra : false ≡ true → ⊥
    contra h = cc

pub same_unit : {a b m n : Nesting} {ts us : List Terminal} {all others : List RawItem} → ReadsUnit a ts all b → ReadsUnit m us others n → ts ≡ us → all ≡ others
same_unit grammar.unit_end grammar.unit_end q = refl
same_unit (grammar.unit_item d c) (grammar.unit_item e k) q = let i = same_item d e q in let j = same_unit c k i.1 in cc
same_unit {m = m} grammar.unit_end (grammar.unit_item {us = mid} {b = b} {items = all} d c) q = absurd (nothing_there (subst (λ (l : List Terminal). ReadsItem m l all mid b) (sym q) d))
same_unit {a = a} (grammar.unit_item {us = mid} {b = b} {items = all} d c) grammar.unit_end q = absurd (nothing_there (subst (λ (l : List Terminal). ReadsItem a l all mid b) q d))
