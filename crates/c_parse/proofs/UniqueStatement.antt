-- A list of tokens is read as a statement in one way.
use Rattle.std.proofs.Common.{◌≡◌, refl, sym, ap, ◌∙◌, ℕ, true, false, List, [], ◌∷◌, Option}
use Rattle.gob_tree.specs.declared.expr.Width.{Width}
use Rattle.gob_tree.specs.declared.place.Place.{Place}
use Rattle.c_parse.specs.declared.terminal.Terminal.{Terminal}
use Rattle.c_parse.specs.declared.terminal.Kind.{Kind}
use Rattle.c_parse.specs.declared.terminal.Kind.TheVariants as kinds
use Rattle.c_parse.specs.declared.raw.expr.RawName.{RawName}
use Rattle.c_parse.specs.declared.raw.expr.RawExpr.{RawExpr}
use Rattle.c_parse.specs.declared.raw.stmt.RawReturn.{RawReturn}
use Rattle.c_parse.specs.declared.raw.stmt.RawStmt.{RawStmt}
use Rattle.c_parse.specs.declared.raw.stmt.RawPlaced.{RawPlaced}
use Rattle.c_parse.specs.Grammar as grammar
use Rattle.c_parse.specs.Grammar.{Nesting, begins_with, is_equals, is_int, is_else, ReadsWhole, ReadsCondition, ReadsInitial, ReadsLongTail, ReadsType, ReadsLocals, ReadsMoreLocals, ReadsNumbers, ReadsThreads, ReadsMoreThreads, ReadsDecl, ReadsAfterName, ReadsHandle, ReadsSimple, ReadsValue, ReadsFirst, ReadsTest, ReadsLast, ReadsDoEnd, ReadsBare, ReadsStmt, ReadsElse, ReadsItems}
use Rattle.c_parse.proofs.Passing.{whole_begins, simple_begins, numbers_begins, decl_begins, stmt_begins}
use Rattle.c_parse.proofs.Unique.{same_next, same_name, form_at_of, form_at_name_of, first_form_of, same_level, same_args}
use Rattle.c_parse.specs.Machine.{opens_operand, opens_type, opens_decl, opens_simple, opens_stmt}

pub same_whole : {a a1 b b1 : Nesting} {ts us rest left : List Terminal} {q0 q01 : RawExpr} → ReadsWhole a ts q0 rest b → ReadsWhole a1 us q01 left b1 → ts ≡ us → (q0 ≡ q01) × (rest ≡ left)
same_whole (grammar.whole n0) (grammar.whole m0) q = let k0 = same_level n0 m0 q in (cc, k0.1)

pub same_condition : {a a1 b b1 : Nesting} {ts us rest left : List Terminal} {q0 q01 : RawExpr} → ReadsCondition a ts q0 rest b → ReadsCondition a1 us q01 left b1 → ts ≡ us → (q0 ≡ q01) × (rest ≡ left)
same_condition (grammar.condition n0 n1 n2) (grammar.condition m0 m1 m2) q = let k0 = same_next n0 m0 q in let k1 = same_whole n1 m1 k0.rest_is in let k2 = same_next n2 m2 k1.1 in (cc, k2.rest_is)

abbrev initial_form : Kind → ℕ
initial_form kinds.Equals = 1
initial_form _ = 0

initial_default_at : (k : Kind) → is_equals k ≡ false → initial_form k ≡ 0
initial_default_at kinds.Equals h = absurd (cc)
initial_default_at _ h = refl

initial_default : (ts : List Terminal) → begins_with is_equals ts ≡ false → first_form_of 0 initial_form ts ≡ 0
initial_default [] h = refl
initial_default (t ∷ ts) h = initial_default_at t.kind h

abbrev form_of_initial : {a b : Nesting} {ts rest : List Terminal} {q0 : Option RawExpr} → ReadsInitial a ts q0 rest b → ℕ
form_of_initial (grammar.no_initial n0) = 0
form_of_initial (grammar.initial n0 n1) = 1

initial_called_for : {a b : Nesting} {ts rest : List Terminal} {q0 : Option RawExpr} → (d : ReadsInitial a ts q0 rest b) → form_of_initial d ≡ first_form_of 0 initial_form ts
initial_called_for (grammar.no_initial {rest = rest} n0) = sym (initial_default rest n0)
initial_called_for (grammar.initial n0 n1) = form_at_of 0 initial_form n0

pub same_initial : {a a1 b b1 : Nesting} {ts us rest left : List Terminal} {q0 q01 : Option RawExpr} → ReadsInitial a ts q0 rest b → ReadsInitial a1 us q01 left b1 → ts ≡ us → (q0 ≡ q01) × (rest ≡ left)
same_initial (grammar.no_initial n0) (grammar.no_initial m0) q = (cc, q)
same_initial (grammar.initial n0 n1) (grammar.initial m0 m1) q = let k0 = same_next n0 m0 q in let k1 = same_whole n1 m1 k0.rest_is in (cc, k1.1)
same_initial d d1 q = let k : form_of_initial d ≡ form_of_initial d1 = initial_called_for d ∙ ap (first_form_of 0 initial_form) q ∙ sym (initial_called_for d1) in absurd (cc)

abbrev long_tail_form : Kind → ℕ
long_tail_form kinds.Int = 1
long_tail_form _ = 0

long_tail_default_at : (k : Kind) → is_int k ≡ false → long_tail_form k ≡ 0
long_tail_default_at kinds.Int h = absurd (cc)
long_tail_default_at _ h = refl

long_tail_default : (ts : List Terminal) → begins_with is_int ts ≡ false → first_form_of 0 long_tail_form ts ≡ 0
long_tail_default [] h = refl
long_tail_default (t ∷ ts) h = long_tail_default_at t.kind h

abbrev form_of_long_tail : {ts rest : List Terminal} → ReadsLongTail ts rest → ℕ
form_of_long_tail (grammar.long n0) = 0
form_of_long_tail (grammar.long_int n0) = 1

long_tail_called_for : {ts rest : List Terminal} → (d : ReadsLongTail ts rest) → form_of_long_tail d ≡ first_form_of 0 long_tail_form ts
long_tail_called_for (grammar.long {rest = rest} n0) = sym (long_tail_default rest n0)
long_tail_called_for (grammar.long_int n0) = form_at_of 0 long_tail_form n0

pub same_long_tail : {ts us rest left : List Terminal} → ReadsLongTail ts rest → ReadsLongTail us left → ts ≡ us → rest ≡ left
same_long_tail (grammar.long n0) (grammar.long m0) q = q
same_long_tail (grammar.long_int n0) (grammar.long_int m0) q = let k0 = same_next n0 m0 q in k0.rest_is
same_long_tail d d1 q = let k : form_of_long_tail d ≡ form_of_long_tail d1 = long_tail_called_for d ∙ ap (first_form_of 0 long_tail_form) q ∙ sym (long_tail_called_for d1) in absurd (cc)

abbrev type_form : Kind → ℕ
type_form kinds.Int = 0
type_form kinds.Long = 1
type_form _ = 7

abbrev form_of_type : {ts rest : List Terminal} {q0 : Width} → ReadsType ts q0 rest → ℕ
form_of_type (grammar.int_type n0) = 0
form_of_type (grammar.long_type n0 n1) = 1

type_called_for : {ts rest : List Terminal} {q0 : Width} → (d : ReadsType ts q0 rest) → form_of_type d ≡ first_form_of 7 type_form ts
type_called_for (grammar.int_type n0) = form_at_of 7 type_form n0
type_called_for (grammar.long_type n0 n1) = form_at_of 7 type_form n0

pub same_type : {ts us rest left : List Terminal} {q0 q01 : Width} → ReadsType ts q0 rest → ReadsType us q01 left → ts ≡ us → (q0 ≡ q01) × (rest ≡ left)
same_type (grammar.int_type n0) (grammar.int_type m0) q = let k0 = same_next n0 m0 q in (cc, k0.rest_is)
same_type (grammar.long_type n0 n1) (grammar.long_type m0 m1) q = let k0 = same_next n0 m0 q in let k1 = same_long_tail n1 m1 k0.rest_is in (cc, k1)
same_type d d1 q = let k : form_of_type d ≡ form_of_type d1 = type_called_for d ∙ ap (first_form_of 7 type_form) q ∙ sym (type_called_for d1) in absurd (cc)

abbrev more_locals_form : Kind → ℕ
more_locals_form kinds.Semicolon = 0
more_locals_form kinds.Comma = 1
more_locals_form _ = 7

abbrev form_of_more_locals : {w : Width} {a b : Nesting} {ts rest : List Terminal} {q0 : List RawPlaced} → ReadsMoreLocals w a ts q0 rest b → ℕ
form_of_more_locals (grammar.last_local n0) = 0
form_of_more_locals (grammar.next_local n0 n1) = 1

more_locals_called_for : {w : Width} {a b : Nesting} {ts rest : List Terminal} {q0 : List RawPlaced} → (d : ReadsMoreLocals w a ts q0 rest b) → form_of_more_locals d ≡ first_form_of 7 more_locals_form ts
more_locals_called_for (grammar.last_local n0) = form_at_of 7 more_locals_form n0
more_locals_called_for (grammar.next_local n0 n1) = form_at_of 7 more_locals_form n0

mutual
  pub same_locals : {here here1 : Place} {w w1 : Width} {a a1 b b1 : Nesting} {ts us rest left : List Terminal} {q0 q01 : List RawPlaced} → ReadsLocals here w a ts q0 rest b → ReadsLocals here1 w1 a1 us q01 left b1 → here ≡ here1 → w ≡ w1 → ts ≡ us → (q0 ≡ q01) × (rest ≡ left)
  same_locals (grammar.locals n0 n1 n2) (grammar.locals m0 m1 m2) e0 e1 q = let k0 = same_name n0 m0 q in let k1 = same_initial n1 m1 k0.1 in let k2 = same_more_locals n2 m2 (cc) k1.1 in (cc, k2.1)

  pub same_more_locals : {w w1 : Width} {a a1 b b1 : Nesting} {ts us rest left : List Terminal} {q0 q01 : List RawPlaced} → ReadsMoreLocals w a ts q0 rest b → ReadsMoreLocals w1 a1 us q01 left b1 → w ≡ w1 → ts ≡ us → (q0 ≡ q01) × (rest ≡ left)
  same_more_locals (grammar.last_local n0) (grammar.last_local m0) e0 q = let k0 = same_next n0 m0 q in (cc, k0.rest_is)
  same_more_locals (grammar.next_local n0 n1) (grammar.next_local m0 m1) e0 q = let k0 = same_next n0 m0 q in let k1 = same_locals n1 m1 (cc) (cc) k0.rest_is in (cc, k1.1)
  same_more_locals d d1 e0 q = let k : form_of_more_locals d ≡ form_of_more_locals d1 = more_locals_called_for d ∙ ap (first_form_of 7 more_locals_form) q ∙ sym (more_locals_called_for d1) in absurd (cc)

pub same_numbers : {a a1 b b1 : Nesting} {ts us rest left : List Terminal} {q0 q01 : List RawPlaced} → ReadsNumbers a ts q0 rest b → ReadsNumbers a1 us q01 left b1 → ts ≡ us → (q0 ≡ q01) × (rest ≡ left)
same_numbers (grammar.numbers n0 n1) (grammar.numbers m0 m1) q = let k0 = same_type n0 m0 q in let k1 = same_locals n1 m1 (cc) (cc) k0.1 in (cc, k1.1)

abbrev more_threads_form : Kind → ℕ
more_threads_form kinds.Semicolon = 0
more_threads_form kinds.Comma = 1
more_threads_form _ = 7

abbrev form_of_more_threads : {ts rest : List Terminal} {q0 : List RawPlaced} → ReadsMoreThreads ts q0 rest → ℕ
form_of_more_threads (grammar.last_thread n0) = 0
form_of_more_threads (grammar.next_thread n0 n1) = 1

more_threads_called_for : {ts rest : List Terminal} {q0 : List RawPlaced} → (d : ReadsMoreThreads ts q0 rest) → form_of_more_threads d ≡ first_form_of 7 more_threads_form ts
more_threads_called_for (grammar.last_thread n0) = form_at_of 7 more_threads_form n0
more_threads_called_for (grammar.next_thread n0 n1) = form_at_of 7 more_threads_form n0

mutual
  pub same_threads : {here here1 : Place} {ts us rest left : List Terminal} {q0 q01 : List RawPlaced} → ReadsThreads here ts q0 rest → ReadsThreads here1 us q01 left → here ≡ here1 → ts ≡ us → (q0 ≡ q01) × (rest ≡ left)
  same_threads (grammar.threads n0 n1) (grammar.threads m0 m1) e0 q = let k0 = same_name n0 m0 q in let k1 = same_more_threads n1 m1 k0.1 in (cc, k1.1)

  pub same_more_threads : {ts us rest left : List Terminal} {q0 q01 : List RawPlaced} → ReadsMoreThreads ts q0 rest → ReadsMoreThreads us q01 left → ts ≡ us → (q0 ≡ q01) × (rest ≡ left)
  same_more_threads (grammar.last_thread n0) (grammar.last_thread m0) q = let k0 = same_next n0 m0 q in (cc, k0.rest_is)
  same_more_threads (grammar.next_thread n0 n1) (grammar.next_thread m0 m1) q = let k0 = same_next n0 m0 q in let k1 = same_threads n1 m1 (cc) k0.rest_is in (cc, k1.1)
  same_more_threads d d1 q = let k : form_of_more_threads d ≡ form_of_more_threads d1 = more_threads_called_for d ∙ ap (first_form_of 7 more_threads_form) q ∙ sym (more_threads_called_for d1) in absurd (cc)

abbrev decl_form : Kind → ℕ
decl_form kinds.Int = 0
decl_form kinds.Long = 0
decl_form kinds.Thread = 1
decl_form _ = 7

decl_number_decl_at : (k : Kind) → opens_type k ≡ true → decl_form k ≡ 0
decl_number_decl_at kinds.Int h = refl
decl_number_decl_at kinds.Long h = refl
decl_number_decl_at _ h = absurd (cc)

decl_number_decl : (ts : List Terminal) → begins_with opens_type ts ≡ true → first_form_of 7 decl_form ts ≡ 0
decl_number_decl [] h = absurd (cc)
decl_number_decl (t ∷ ts) h = decl_number_decl_at t.kind h

abbrev form_of_decl : {a b : Nesting} {ts rest : List Terminal} {q0 : List RawPlaced} → ReadsDecl a ts q0 rest b → ℕ
form_of_decl (grammar.number_decl n0) = 0
form_of_decl (grammar.thread_decl n0 n1) = 1

decl_called_for : {a b : Nesting} {ts rest : List Terminal} {q0 : List RawPlaced} → (d : ReadsDecl a ts q0 rest b) → form_of_decl d ≡ first_form_of 7 decl_form ts
decl_called_for (grammar.number_decl {ts = ts} n0) = sym (decl_number_decl ts (numbers_begins n0))
decl_called_for (grammar.thread_decl n0 n1) = form_at_of 7 decl_form n0

pub same_decl : {a a1 b b1 : Nesting} {ts us rest left : List Terminal} {q0 q01 : List RawPlaced} → ReadsDecl a ts q0 rest b → ReadsDecl a1 us q01 left b1 → ts ≡ us → (q0 ≡ q01) × (rest ≡ left)
same_decl (grammar.number_decl n0) (grammar.number_decl m0) q = let k0 = same_numbers n0 m0 q in (cc, k0.1)
same_decl (grammar.thread_decl n0 n1) (grammar.thread_decl m0 m1) q = let k0 = same_next n0 m0 q in let k1 = same_threads n1 m1 (cc) k0.rest_is in (cc, k1.1)
same_decl d d1 q = let k : form_of_decl d ≡ form_of_decl d1 = decl_called_for d ∙ ap (first_form_of 7 decl_form) q ∙ sym (decl_called_for d1) in absurd (cc)

abbrev after_name_form : Kind → ℕ
after_name_form kinds.Equals = 0
after_name_form (kinds.Update op) = 1
after_name_form (kinds.Step op) = 2
after_name_form kinds.OpenParen = 3
after_name_form _ = 9

abbrev form_of_after_name : {x : RawName} {a b : Nesting} {ts rest : List Terminal} {q0 : RawStmt} → ReadsAfterName x a ts q0 rest b → ℕ
form_of_after_name (grammar.assigned n0 n1) = 0
form_of_after_name (grammar.updated n0 n1) = 1
form_of_after_name (grammar.stepped n0) = 2
form_of_after_name (grammar.called n0 n1) = 3

after_name_called_for : {x : RawName} {a b : Nesting} {ts rest : List Terminal} {q0 : RawStmt} → (d : ReadsAfterName x a ts q0 rest b) → form_of_after_name d ≡ first_form_of 9 after_name_form ts
after_name_called_for (grammar.assigned n0 n1) = form_at_of 9 after_name_form n0
after_name_called_for (grammar.updated n0 n1) = form_at_of 9 after_name_form n0
after_name_called_for (grammar.stepped n0) = form_at_of 9 after_name_form n0
after_name_called_for (grammar.called n0 n1) = form_at_of 9 after_name_form n0

pub same_after_name : {x x1 : RawName} {a a1 b b1 : Nesting} {ts us rest left : List Terminal} {q0 q01 : RawStmt} → ReadsAfterName x a ts q0 rest b → ReadsAfterName x1 a1 us q01 left b1 → x ≡ x1 → ts ≡ us → (q0 ≡ q01) × (rest ≡ left)
same_after_name (grammar.assigned n0 n1) (grammar.assigned m0 m1) e0 q = let k0 = same_next n0 m0 q in let k1 = same_whole n1 m1 k0.rest_is in (cc, k1.1)
same_after_name (grammar.updated n0 n1) (grammar.updated m0 m1) e0 q = let k0 = same_next n0 m0 q in let k1 = same_whole n1 m1 k0.rest_is in (cc, k1.1)
same_after_name (grammar.stepped n0) (grammar.stepped m0) e0 q = let k0 = same_next n0 m0 q in (cc, k0.rest_is)
same_after_name (grammar.called n0 n1) (grammar.called m0 m1) e0 q = let k0 = same_next n0 m0 q in let k1 = same_args n1 m1 k0.rest_is in (cc, k1.1)
same_after_name d d1 e0 q = let k : form_of_after_name d ≡ form_of_after_name d1 = after_name_called_for d ∙ ap (first_form_of 9 after_name_form) q ∙ sym (after_name_called_for d1) in absurd (cc)

pub same_handle : {ts us rest left : List Terminal} {q0 q01 : RawName} → ReadsHandle ts q0 rest → ReadsHandle us q01 left → ts ≡ us → (q0 ≡ q01) × (rest ≡ left)
same_handle (grammar.handle n0 n1 n2 n3) (grammar.handle m0 m1 m2 m3) q = let k0 = same_next n0 m0 q in let k1 = same_next n1 m1 k0.rest_is in let k2 = same_name n2 m2 k1.rest_is in let k3 = same_next n3 m3 k2.1 in (cc, k3.rest_is)

abbrev simple_form : Kind → ℕ
simple_form (kinds.Name z) = 0
simple_form (kinds.Step op) = 1
simple_form kinds.Assert = 2
simple_form kinds.Create = 3
simple_form kinds.Join = 4
simple_form kinds.Lock = 5
simple_form kinds.Unlock = 6
simple_form _ = 12

abbrev form_of_simple : {a b : Nesting} {ts rest : List Terminal} {q0 : RawStmt} → ReadsSimple a ts q0 rest b → ℕ
form_of_simple (grammar.named n0 n1) = 0
form_of_simple (grammar.step n0 n1) = 1
form_of_simple (grammar.asserts n0 n1) = 2
form_of_simple (grammar.create n0 n1 n2 n3 n4 n5 n6 n7 n8 n9 n10) = 3
form_of_simple (grammar.join n0 n1 n2 n3 n4 n5) = 4
form_of_simple (grammar.lock n0 n1) = 5
form_of_simple (grammar.unlock n0 n1) = 6

simple_called_for : {a b : Nesting} {ts rest : List Terminal} {q0 : RawStmt} → (d : ReadsSimple a ts q0 rest b) → form_of_simple d ≡ first_form_of 12 simple_form ts
simple_called_for (grammar.named n0 n1) = form_at_name_of 12 simple_form 0 (λ text. refl) n0
simple_called_for (grammar.step n0 n1) = form_at_of 12 simple_form n0
simple_called_for (grammar.asserts n0 n1) = form_at_of 12 simple_form n0
simple_called_for (grammar.create n0 n1 n2 n3 n4 n5 n6 n7 n8 n9 n10) = form_at_of 12 simple_form n0
simple_called_for (grammar.join n0 n1 n2 n3 n4 n5) = form_at_of 12 simple_form n0
simple_called_for (grammar.lock n0 n1) = form_at_of 12 simple_form n0
simple_called_for (grammar.unlock n0 n1) = form_at_of 12 simple_form n0

pub same_simple : {a a1 b b1 : Nesting} {ts us rest left : List Terminal} {q0 q01 : RawStmt} → ReadsSimple a ts q0 rest b → ReadsSimple a1 us q01 left b1 → ts ≡ us → (q0 ≡ q01) × (rest ≡ left)
same_simple (grammar.named n0 n1) (grammar.named m0 m1) q = let k0 = same_name n0 m0 q in let k1 = same_after_name n1 m1 (cc) k0.1 in (cc, k1.1)
same_simple (grammar.step n0 n1) (grammar.step m0 m1) q = let k0 = same_next n0 m0 q in let k1 = same_name n1 m1 k0.rest_is in (cc, k1.1)
same_simple (grammar.asserts n0 n1) (grammar.asserts m0 m1) q = let k0 = same_next n0 m0 q in let k1 = same_condition n1 m1 k0.rest_is in (cc, k1.1)
same_simple (grammar.create n0 n1 n2 n3 n4 n5 n6 n7 n8 n9 n10) (grammar.create m0 m1 m2 m3 m4 m5 m6 m7 m8 m9 m10) q = let k0 = same_next n0 m0 q in let k1 = same_next n1 m1 k0.rest_is in let k2 = same_next n2 m2 k1.rest_is in let k3 = same_name n3 m3 k2.rest_is in let k4 = same_next n4 m4 k3.1 in let k5 = same_next n5 m5 k4.rest_is in let k6 = same_next n6 m6 k5.rest_is in let k7 = same_name n7 m7 k6.rest_is in let k8 = same_next n8 m8 k7.1 in let k9 = same_next n9 m9 k8.rest_is in let k10 = same_next n10 m10 k9.rest_is in (cc, k10.rest_is)
same_simple (grammar.join n0 n1 n2 n3 n4 n5) (grammar.join m0 m1 m2 m3 m4 m5) q = let k0 = same_next n0 m0 q in let k1 = same_next n1 m1 k0.rest_is in let k2 = same_name n2 m2 k1.rest_is in let k3 = same_next n3 m3 k2.1 in let k4 = same_next n4 m4 k3.rest_is in let k5 = same_next n5 m5 k4.rest_is in (cc, k5.rest_is)
same_simple (grammar.lock n0 n1) (grammar.lock m0 m1) q = let k0 = same_next n0 m0 q in let k1 = same_handle n1 m1 k0.rest_is in (cc, k1.1)
same_simple (grammar.unlock n0 n1) (grammar.unlock m0 m1) q = let k0 = same_next n0 m0 q in let k1 = same_handle n1 m1 k0.rest_is in (cc, k1.1)
same_simple d d1 q = let k : form_of_simple d ≡ form_of_simple d1 = simple_called_for d ∙ ap (first_form_of 12 simple_form) q ∙ sym (simple_called_for d1) in absurd (cc)

abbrev value_form : Kind → ℕ
value_form kinds.Semicolon = 0
value_form kinds.Null = 1
value_form (kinds.Number v w) = 2
value_form (kinds.Name z) = 2
value_form kinds.Minus = 2
value_form kinds.Plus = 2
value_form kinds.Not = 2
value_form kinds.OpenParen = 2
value_form _ = 8

value_value_at : (k : Kind) → opens_operand k ≡ true → value_form k ≡ 2
value_value_at (kinds.Number v w) h = refl
value_value_at (kinds.Name x) h = refl
value_value_at kinds.Minus h = refl
value_value_at kinds.Plus h = refl
value_value_at kinds.Not h = refl
value_value_at kinds.OpenParen h = refl
value_value_at _ h = absurd (cc)

value_value : (ts : List Terminal) → begins_with opens_operand ts ≡ true → first_form_of 8 value_form ts ≡ 2
value_value [] h = absurd (cc)
value_value (t ∷ ts) h = value_value_at t.kind h

abbrev form_of_value : {a b : Nesting} {ts rest : List Terminal} {q0 : RawReturn} → ReadsValue a ts q0 rest b → ℕ
form_of_value (grammar.plain n0) = 0
form_of_value (grammar.null n0 n1) = 1
form_of_value (grammar.value n0 n1) = 2

value_called_for : {a b : Nesting} {ts rest : List Terminal} {q0 : RawReturn} → (d : ReadsValue a ts q0 rest b) → form_of_value d ≡ first_form_of 8 value_form ts
value_called_for (grammar.plain n0) = form_at_of 8 value_form n0
value_called_for (grammar.null n0 n1) = form_at_of 8 value_form n0
value_called_for (grammar.value {ts = ts} n0 n1) = sym (value_value ts (whole_begins n0))

pub same_value : {a a1 b b1 : Nesting} {ts us rest left : List Terminal} {q0 q01 : RawReturn} → ReadsValue a ts q0 rest b → ReadsValue a1 us q01 left b1 → ts ≡ us → (q0 ≡ q01) × (rest ≡ left)
same_value (grammar.plain n0) (grammar.plain m0) q = let k0 = same_next n0 m0 q in (cc, k0.rest_is)
same_value (grammar.null n0 n1) (grammar.null m0 m1) q = let k0 = same_next n0 m0 q in let k1 = same_next n1 m1 k0.rest_is in (cc, k1.rest_is)
same_value (grammar.value n0 n1) (grammar.value m0 m1) q = let k0 = same_whole n0 m0 q in let k1 = same_next n1 m1 k0.1 in (cc, k1.rest_is)
same_value d d1 q = let k : form_of_value d ≡ form_of_value d1 = value_called_for d ∙ ap (first_form_of 8 value_form) q ∙ sym (value_called_for d1) in absurd (cc)

abbrev first_form : Kind → ℕ
first_form kinds.Semicolon = 0
first_form kinds.Int = 1
first_form kinds.Long = 1
first_form (kinds.Name z) = 2
first_form (kinds.Step op) = 2
first_form kinds.Assert = 2
first_form kinds.Create = 2
first_form kinds.Join = 2
first_form kinds.Lock = 2
first_form kinds.Unlock = 2
first_form _ = 8

first_number_first_at : (k : Kind) → opens_type k ≡ true → first_form k ≡ 1
first_number_first_at kinds.Int h = refl
first_number_first_at kinds.Long h = refl
first_number_first_at _ h = absurd (cc)

first_number_first : (ts : List Terminal) → begins_with opens_type ts ≡ true → first_form_of 8 first_form ts ≡ 1
first_number_first [] h = absurd (cc)
first_number_first (t ∷ ts) h = first_number_first_at t.kind h

first_simple_first_at : (k : Kind) → opens_simple k ≡ true → first_form k ≡ 2
first_simple_first_at (kinds.Name x) h = refl
first_simple_first_at (kinds.Step op) h = refl
first_simple_first_at kinds.Assert h = refl
first_simple_first_at kinds.Create h = refl
first_simple_first_at kinds.Join h = refl
first_simple_first_at kinds.Lock h = refl
first_simple_first_at kinds.Unlock h = refl
first_simple_first_at _ h = absurd (cc)

first_simple_first : (ts : List Terminal) → begins_with opens_simple ts ≡ true → first_form_of 8 first_form ts ≡ 2
first_simple_first [] h = absurd (cc)
first_simple_first (t ∷ ts) h = first_simple_first_at t.kind h

abbrev form_of_first : {a b : Nesting} {ts rest : List Terminal} {q0 : List RawPlaced} → ReadsFirst a ts q0 rest b → ℕ
form_of_first (grammar.no_first n0) = 0
form_of_first (grammar.number_first n0) = 1
form_of_first (grammar.simple_first n0 n1) = 2

first_called_for : {a b : Nesting} {ts rest : List Terminal} {q0 : List RawPlaced} → (d : ReadsFirst a ts q0 rest b) → form_of_first d ≡ first_form_of 8 first_form ts
first_called_for (grammar.no_first n0) = form_at_of 8 first_form n0
first_called_for (grammar.number_first {ts = ts} n0) = sym (first_number_first ts (numbers_begins n0))
first_called_for (grammar.simple_first {ts = ts} n0 n1) = sym (first_simple_first ts (simple_begins n0))

pub same_first : {a a1 b b1 : Nesting} {ts us rest left : List Terminal} {q0 q01 : List RawPlaced} → ReadsFirst a ts q0 rest b → ReadsFirst a1 us q01 left b1 → ts ≡ us → (q0 ≡ q01) × (rest ≡ left)
same_first (grammar.no_first n0) (grammar.no_first m0) q = let k0 = same_next n0 m0 q in (cc, k0.rest_is)
same_first (grammar.number_first n0) (grammar.number_first m0) q = let k0 = same_numbers n0 m0 q in (cc, k0.1)
same_first (grammar.simple_first n0 n1) (grammar.simple_first m0 m1) q = let k0 = same_simple n0 m0 q in let k1 = same_next n1 m1 k0.1 in (cc, k1.rest_is)
same_first d d1 q = let k : form_of_first d ≡ form_of_first d1 = first_called_for d ∙ ap (first_form_of 8 first_form) q ∙ sym (first_called_for d1) in absurd (cc)

abbrev test_form : Kind → ℕ
test_form kinds.Semicolon = 0
test_form (kinds.Number v w) = 1
test_form (kinds.Name z) = 1
test_form kinds.Minus = 1
test_form kinds.Plus = 1
test_form kinds.Not = 1
test_form kinds.OpenParen = 1
test_form _ = 7

test_test_at : (k : Kind) → opens_operand k ≡ true → test_form k ≡ 1
test_test_at (kinds.Number v w) h = refl
test_test_at (kinds.Name x) h = refl
test_test_at kinds.Minus h = refl
test_test_at kinds.Plus h = refl
test_test_at kinds.Not h = refl
test_test_at kinds.OpenParen h = refl
test_test_at _ h = absurd (cc)

test_test : (ts : List Terminal) → begins_with opens_operand ts ≡ true → first_form_of 7 test_form ts ≡ 1
test_test [] h = absurd (cc)
test_test (t ∷ ts) h = test_test_at t.kind h

abbrev form_of_test : {a b : Nesting} {ts rest : List Terminal} {q0 : Option RawExpr} → ReadsTest a ts q0 rest b → ℕ
form_of_test (grammar.no_test n0) = 0
form_of_test (grammar.test n0 n1) = 1

test_called_for : {a b : Nesting} {ts rest : List Terminal} {q0 : Option RawExpr} → (d : ReadsTest a ts q0 rest b) → form_of_test d ≡ first_form_of 7 test_form ts
test_called_for (grammar.no_test n0) = form_at_of 7 test_form n0
test_called_for (grammar.test {ts = ts} n0 n1) = sym (test_test ts (whole_begins n0))

pub same_test : {a a1 b b1 : Nesting} {ts us rest left : List Terminal} {q0 q01 : Option RawExpr} → ReadsTest a ts q0 rest b → ReadsTest a1 us q01 left b1 → ts ≡ us → (q0 ≡ q01) × (rest ≡ left)
same_test (grammar.no_test n0) (grammar.no_test m0) q = let k0 = same_next n0 m0 q in (cc, k0.rest_is)
same_test (grammar.test n0 n1) (grammar.test m0 m1) q = let k0 = same_whole n0 m0 q in let k1 = same_next n1 m1 k0.1 in (cc, k1.rest_is)
same_test d d1 q = let k : form_of_test d ≡ form_of_test d1 = test_called_for d ∙ ap (first_form_of 7 test_form) q ∙ sym (test_called_for d1) in absurd (cc)

abbrev last_form : Kind → ℕ
last_form kinds.CloseParen = 0
last_form (kinds.Name z) = 1
last_form (kinds.Step op) = 1
last_form kinds.Assert = 1
last_form kinds.Create = 1
last_form kinds.Join = 1
last_form kinds.Lock = 1
last_form kinds.Unlock = 1
last_form _ = 7

last_last_at : (k : Kind) → opens_simple k ≡ true → last_form k ≡ 1
last_last_at (kinds.Name x) h = refl
last_last_at (kinds.Step op) h = refl
last_last_at kinds.Assert h = refl
last_last_at kinds.Create h = refl
last_last_at kinds.Join h = refl
last_last_at kinds.Lock h = refl
last_last_at kinds.Unlock h = refl
last_last_at _ h = absurd (cc)

last_last : (ts : List Terminal) → begins_with opens_simple ts ≡ true → first_form_of 7 last_form ts ≡ 1
last_last [] h = absurd (cc)
last_last (t ∷ ts) h = last_last_at t.kind h

abbrev form_of_last : {a b : Nesting} {ts rest : List Terminal} {q0 : Option RawPlaced} → ReadsLast a ts q0 rest b → ℕ
form_of_last (grammar.no_last n0) = 0
form_of_last (grammar.last n0 n1) = 1

last_called_for : {a b : Nesting} {ts rest : List Terminal} {q0 : Option RawPlaced} → (d : ReadsLast a ts q0 rest b) → form_of_last d ≡ first_form_of 7 last_form ts
last_called_for (grammar.no_last n0) = form_at_of 7 last_form n0
last_called_for (grammar.last {ts = ts} n0 n1) = sym (last_last ts (simple_begins n0))

pub same_last : {a a1 b b1 : Nesting} {ts us rest left : List Terminal} {q0 q01 : Option RawPlaced} → ReadsLast a ts q0 rest b → ReadsLast a1 us q01 left b1 → ts ≡ us → (q0 ≡ q01) × (rest ≡ left)
same_last (grammar.no_last n0) (grammar.no_last m0) q = let k0 = same_next n0 m0 q in (cc, k0.rest_is)
same_last (grammar.last n0 n1) (grammar.last m0 m1) q = let k0 = same_simple n0 m0 q in let k1 = same_next n1 m1 k0.1 in (cc, k1.rest_is)
same_last d d1 q = let k : form_of_last d ≡ form_of_last d1 = last_called_for d ∙ ap (first_form_of 7 last_form) q ∙ sym (last_called_for d1) in absurd (cc)

pub same_do_end : {a a1 b b1 : Nesting} {ts us rest left : List Terminal} {q0 q01 : RawExpr} → ReadsDoEnd a ts q0 rest b → ReadsDoEnd a1 us q01 left b1 → ts ≡ us → (q0 ≡ q01) × (rest ≡ left)
same_do_end (grammar.do_end n0 n1 n2) (grammar.do_end m0 m1 m2) q = let k0 = same_next n0 m0 q in let k1 = same_condition n1 m1 k0.rest_is in let k2 = same_next n2 m2 k1.1 in (cc, k2.rest_is)

abbrev bare_form : Kind → ℕ
bare_form kinds.Semicolon = 0
bare_form kinds.OpenBrace = 1
bare_form (kinds.Name z) = 2
bare_form (kinds.Step op) = 2
bare_form kinds.Assert = 2
bare_form kinds.Create = 2
bare_form kinds.Join = 2
bare_form kinds.Lock = 2
bare_form kinds.Unlock = 2
bare_form kinds.If = 3
bare_form kinds.While = 4
bare_form kinds.Do = 5
bare_form kinds.For = 6
bare_form kinds.Break = 7
bare_form kinds.Continue = 8
bare_form kinds.Return = 9
bare_form _ = 15

bare_simple_at : (k : Kind) → opens_simple k ≡ true → bare_form k ≡ 2
bare_simple_at (kinds.Name x) h = refl
bare_simple_at (kinds.Step op) h = refl
bare_simple_at kinds.Assert h = refl
bare_simple_at kinds.Create h = refl
bare_simple_at kinds.Join h = refl
bare_simple_at kinds.Lock h = refl
bare_simple_at kinds.Unlock h = refl
bare_simple_at _ h = absurd (cc)

bare_simple : (ts : List Terminal) → begins_with opens_simple ts ≡ true → first_form_of 15 bare_form ts ≡ 2
bare_simple [] h = absurd (cc)
bare_simple (t ∷ ts) h = bare_simple_at t.kind h

abbrev form_of_bare : {d : ℕ} {a b : Nesting} {ts rest : List Terminal} {q0 : RawStmt} → ReadsBare d a ts q0 rest b → ℕ
form_of_bare (grammar.empty n0) = 0
form_of_bare (grammar.block n0 n1) = 1
form_of_bare (grammar.simple n0 n1) = 2
form_of_bare (grammar.if_then n0 n1 n2 n3) = 3
form_of_bare (grammar.while n0 n1 n2) = 4
form_of_bare (grammar.do_while n0 n1 n2) = 5
form_of_bare (grammar.for_loop n0 n1 n2 n3 n4 n5) = 6
form_of_bare (grammar.leave_loop n0 n1) = 7
form_of_bare (grammar.next_round n0 n1) = 8
form_of_bare (grammar.leave n0 n1) = 9

bare_called_for : {d : ℕ} {a b : Nesting} {ts rest : List Terminal} {q0 : RawStmt} → (d : ReadsBare d a ts q0 rest b) → form_of_bare d ≡ first_form_of 15 bare_form ts
bare_called_for (grammar.empty n0) = form_at_of 15 bare_form n0
bare_called_for (grammar.block n0 n1) = form_at_of 15 bare_form n0
bare_called_for (grammar.simple {ts = ts} n0 n1) = sym (bare_simple ts (simple_begins n0))
bare_called_for (grammar.if_then n0 n1 n2 n3) = form_at_of 15 bare_form n0
bare_called_for (grammar.while n0 n1 n2) = form_at_of 15 bare_form n0
bare_called_for (grammar.do_while n0 n1 n2) = form_at_of 15 bare_form n0
bare_called_for (grammar.for_loop n0 n1 n2 n3 n4 n5) = form_at_of 15 bare_form n0
bare_called_for (grammar.leave_loop n0 n1) = form_at_of 15 bare_form n0
bare_called_for (grammar.next_round n0 n1) = form_at_of 15 bare_form n0
bare_called_for (grammar.leave n0 n1) = form_at_of 15 bare_form n0

abbrev else_form : Kind → ℕ
else_form kinds.Else = 1
else_form _ = 0

else_default_at : (k : Kind) → is_else k ≡ false → else_form k ≡ 0
else_default_at kinds.Else h = absurd (cc)
else_default_at _ h = refl

else_default : (ts : List Terminal) → begins_with is_else ts ≡ false → first_form_of 0 else_form ts ≡ 0
else_default [] h = refl
else_default (t ∷ ts) h = else_default_at t.kind h

abbrev form_of_else : {d : ℕ} {a b : Nesting} {ts rest : List Terminal} {q0 : Option RawPlaced} → ReadsElse d a ts q0 rest b → ℕ
form_of_else (grammar.no_else n0) = 0
form_of_else (grammar.otherwise n0 n1) = 1

else_called_for : {d : ℕ} {a b : Nesting} {ts rest : List Terminal} {q0 : Option RawPlaced} → (d : ReadsElse d a ts q0 rest b) → form_of_else d ≡ first_form_of 0 else_form ts
else_called_for (grammar.no_else {rest = rest} n0) = sym (else_default rest n0)
else_called_for (grammar.otherwise n0 n1) = form_at_of 0 else_form n0

abbrev items_form : Kind → ℕ
items_form kinds.CloseBrace = 0
items_form kinds.Int = 1
items_form kinds.Long = 1
items_form kinds.Thread = 1
items_form (kinds.Name z) = 2
items_form (kinds.Step op) = 2
items_form kinds.Assert = 2
items_form kinds.Create = 2
items_form kinds.Join = 2
items_form kinds.Lock = 2
items_form kinds.Unlock = 2
items_form kinds.Semicolon = 2
items_form kinds.OpenBrace = 2
items_form kinds.If = 2
items_form kinds.While = 2
items_form kinds.Do = 2
items_form kinds.For = 2
items_form kinds.Break = 2
items_form kinds.Continue = 2
items_form kinds.Return = 2
items_form _ = 8

items_one_decl_at : (k : Kind) → opens_decl k ≡ true → items_form k ≡ 1
items_one_decl_at kinds.Int h = refl
items_one_decl_at kinds.Long h = refl
items_one_decl_at kinds.Thread h = refl
items_one_decl_at _ h = absurd (cc)

items_one_decl : (ts : List Terminal) → begins_with opens_decl ts ≡ true → first_form_of 8 items_form ts ≡ 1
items_one_decl [] h = absurd (cc)
items_one_decl (t ∷ ts) h = items_one_decl_at t.kind h

items_one_stmt_at : (k : Kind) → opens_stmt k ≡ true → items_form k ≡ 2
items_one_stmt_at (kinds.Name x) h = refl
items_one_stmt_at (kinds.Step op) h = refl
items_one_stmt_at kinds.Assert h = refl
items_one_stmt_at kinds.Create h = refl
items_one_stmt_at kinds.Join h = refl
items_one_stmt_at kinds.Lock h = refl
items_one_stmt_at kinds.Unlock h = refl
items_one_stmt_at kinds.Semicolon h = refl
items_one_stmt_at kinds.OpenBrace h = refl
items_one_stmt_at kinds.If h = refl
items_one_stmt_at kinds.While h = refl
items_one_stmt_at kinds.Do h = refl
items_one_stmt_at kinds.For h = refl
items_one_stmt_at kinds.Break h = refl
items_one_stmt_at kinds.Continue h = refl
items_one_stmt_at kinds.Return h = refl
items_one_stmt_at _ h = absurd (cc)

items_one_stmt : (ts : List Terminal) → begins_with opens_stmt ts ≡ true → first_form_of 8 items_form ts ≡ 2
items_one_stmt [] h = absurd (cc)
items_one_stmt (t ∷ ts) h = items_one_stmt_at t.kind h

abbrev form_of_items : {d : ℕ} {a b : Nesting} {ts rest : List Terminal} {q0 : List RawPlaced} {q1 : Place} → ReadsItems d a ts q0 q1 rest b → ℕ
form_of_items (grammar.close n0) = 0
form_of_items (grammar.one_decl n0 n1) = 1
form_of_items (grammar.one_stmt n0 n1) = 2

items_called_for : {d : ℕ} {a b : Nesting} {ts rest : List Terminal} {q0 : List RawPlaced} {q1 : Place} → (d : ReadsItems d a ts q0 q1 rest b) → form_of_items d ≡ first_form_of 8 items_form ts
items_called_for (grammar.close n0) = form_at_of 8 items_form n0
items_called_for (grammar.one_decl {ts = ts} n0 n1) = sym (items_one_decl ts (decl_begins n0))
items_called_for (grammar.one_stmt {ts = ts} n0 n1) = sym (items_one_stmt ts (stmt_begins n0))

mutual
  pub same_bare : {d : ℕ} {a a1 b b1 : Nesting} {ts us rest left : List Terminal} {q0 q01 : RawStmt} → ReadsBare d a ts q0 rest b → ReadsBare d a1 us q01 left b1 → ts ≡ us → (q0 ≡ q01) × (rest ≡ left)
  same_bare (grammar.empty n0) (grammar.empty m0) q = let k0 = same_next n0 m0 q in (cc, k0.rest_is)
  same_bare (grammar.block n0 n1) (grammar.block m0 m1) q = let k0 = same_next n0 m0 q in let k1 = same_items n1 m1 k0.rest_is in (cc, k1.2)
  same_bare (grammar.simple n0 n1) (grammar.simple m0 m1) q = let k0 = same_simple n0 m0 q in let k1 = same_next n1 m1 k0.1 in (cc, k1.rest_is)
  same_bare (grammar.if_then n0 n1 n2 n3) (grammar.if_then m0 m1 m2 m3) q = let k0 = same_next n0 m0 q in let k1 = same_condition n1 m1 k0.rest_is in let k2 = same_stmt n2 m2 k1.1 in let k3 = same_else n3 m3 k2.1 in (cc, k3.1)
  same_bare (grammar.while n0 n1 n2) (grammar.while m0 m1 m2) q = let k0 = same_next n0 m0 q in let k1 = same_condition n1 m1 k0.rest_is in let k2 = same_stmt n2 m2 k1.1 in (cc, k2.1)
  same_bare (grammar.do_while n0 n1 n2) (grammar.do_while m0 m1 m2) q = let k0 = same_next n0 m0 q in let k1 = same_stmt n1 m1 k0.rest_is in let k2 = same_do_end n2 m2 k1.1 in (cc, k2.1)
  same_bare (grammar.for_loop n0 n1 n2 n3 n4 n5) (grammar.for_loop m0 m1 m2 m3 m4 m5) q = let k0 = same_next n0 m0 q in let k1 = same_next n1 m1 k0.rest_is in let k2 = same_first n2 m2 k1.rest_is in let k3 = same_test n3 m3 k2.1 in let k4 = same_last n4 m4 k3.1 in let k5 = same_stmt n5 m5 k4.1 in (cc, k5.1)
  same_bare (grammar.leave_loop n0 n1) (grammar.leave_loop m0 m1) q = let k0 = same_next n0 m0 q in let k1 = same_next n1 m1 k0.rest_is in (cc, k1.rest_is)
  same_bare (grammar.next_round n0 n1) (grammar.next_round m0 m1) q = let k0 = same_next n0 m0 q in let k1 = same_next n1 m1 k0.rest_is in (cc, k1.rest_is)
  same_bare (grammar.leave n0 n1) (grammar.leave m0 m1) q = let k0 = same_next n0 m0 q in let k1 = same_value n1 m1 k0.rest_is in (cc, k1.1)
  same_bare d d1 q = let k : form_of_bare d ≡ form_of_bare d1 = bare_called_for d ∙ ap (first_form_of 15 bare_form) q ∙ sym (bare_called_for d1) in absurd (cc)

  pub same_stmt : {d : ℕ} {a a1 b b1 : Nesting} {ts us rest left : List Terminal} {q0 q01 : RawPlaced} → ReadsStmt d a ts q0 rest b → ReadsStmt d a1 us q01 left b1 → ts ≡ us → (q0 ≡ q01) × (rest ≡ left)
  same_stmt (grammar.stmt n0) (grammar.stmt m0) q = let k0 = same_bare n0 m0 q in (cc, k0.1)

  pub same_else : {d : ℕ} {a a1 b b1 : Nesting} {ts us rest left : List Terminal} {q0 q01 : Option RawPlaced} → ReadsElse d a ts q0 rest b → ReadsElse d a1 us q01 left b1 → ts ≡ us → (q0 ≡ q01) × (rest ≡ left)
  same_else (grammar.no_else n0) (grammar.no_else m0) q = (cc, q)
  same_else (grammar.otherwise n0 n1) (grammar.otherwise m0 m1) q = let k0 = same_next n0 m0 q in let k1 = same_stmt n1 m1 k0.rest_is in (cc, k1.1)
  same_else d d1 q = let k : form_of_else d ≡ form_of_else d1 = else_called_for d ∙ ap (first_form_of 0 else_form) q ∙ sym (else_called_for d1) in absurd (cc)

  pub same_items : {d : ℕ} {a a1 b b1 : Nesting} {ts us rest left : List Terminal} {q0 q01 : List RawPlaced} {q1 q11 : Place} → ReadsItems d a ts q0 q1 rest b → ReadsItems d a1 us q01 q11 left b1 → ts ≡ us → (q0 ≡ q01) × (q1 ≡ q11) × (rest ≡ left)
  same_items (grammar.close n0) (grammar.close m0) q = let k0 = same_next n0 m0 q in (cc, cc, k0.rest_is)
  same_items (grammar.one_decl n0 n1) (grammar.one_decl m0 m1) q = let k0 = same_decl n0 m0 q in let k1 = same_items n1 m1 k0.1 in (cc, cc, k1.2)
  same_items (grammar.one_stmt n0 n1) (grammar.one_stmt m0 m1) q = let k0 = same_stmt n0 m0 q in let k1 = same_items n1 m1 k0.1 in (cc, cc, k1.2)
  same_items d d1 q = let k : form_of_items d ≡ form_of_items d1 = items_called_for d ∙ ap (first_form_of 8 items_form) q ∙ sym (items_called_for d1) in absurd (cc)
