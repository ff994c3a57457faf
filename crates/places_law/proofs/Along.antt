-- Faults along tokens: tokens are passed one by one, and what is told at one of them stands at its place, in the
-- order of kinds. So faults ascend where tokens do.
use Rattle.std.proofs.Common.{◌≡◌, refl, sym, ◌∙◌, subst, ℕ, ◌≤◌, ◌==◌, Bool, true, false, List, [], ◌∷◌, ◌++◌, Option, None, Some, inl, inr, arith, append_assoc}
use Rattle.std.specs.List.{AllByRecursion}
use Rattle.std.proofs.lemmas.List.{append-nil}
use Rattle.gob_tree.specs.declared.place.Place.{Place}
use Rattle.gob_tree.specs.declared.expr.BinOp.{BinOp}
use Rattle.c_parse.specs.declared.terminal.Kind.{Kind}
use Rattle.c_parse.specs.declared.terminal.Terminal.{Terminal}
use Rattle.c_parse.specs.declared.raw.expr.RawName.{RawName}
use Rattle.c_parse.specs.Grammar as grammar
use Rattle.c_parse.specs.Grammar.{Next, ReadsName, ReadsOperator, place_at}
use Rattle.c_check.specs.declared.fault.FrontFault.{FrontFault}
use Rattle.c_check.specs.declared.fault.FrontKind.{FrontKind}
use Rattle.c_check.specs.declared.fault.FrontKind.TheVariants.{WrongKind, WrongArity}
use Rattle.c_check.specs.declared.meaning.Meaning.{Meaning}
use Rattle.c_check.specs.declared.meaning.Meaning.TheVariants as meanings
use Rattle.c_check.specs.Faults.{asks}
use Rattle.c_check.specs.Rules.{use_faults, arity_faults, call_faults}
use Rattle.places_law.specs.Order.{IsBefore, rank, IsNoLater, Ascend}
use Rattle.places_law.proofs.Tokens.{Climb}

-- the faults are at this place, and their ranks ascend from a to b
abbrev pub Told : Place → ℕ → List FrontFault → ℕ → Type 0
Told p a [] b = a ≤ b
Told p a (f ∷ fs) b = (f.place ≡ p) × (a ≤ rank f.kind) × Told p (rank f.kind) fs b

weaken : (p : Place) (a b c : ℕ) (fs : List FrontFault) → a ≤ b → Told p b fs c → Told p a fs c
weaken p a b c [] h t = omega (arith, h, t)
weaken p a b c (f ∷ fs) h t = (t.0, omega (arith, h, t.1), t.2)

widen : (p : Place) (a b c : ℕ) (fs : List FrontFault) → b ≤ c → Told p a fs b → Told p a fs c
widen p a b c [] h t = omega (arith, h, t)
widen p a b c (f ∷ fs) h t = (t.0, t.1, widen p (rank f.kind) b c fs h t.2)

pub full : (p : Place) (a b : ℕ) (fs : List FrontFault) → b ≤ 5 → Told p a fs b → Told p 0 fs 5
full p a b fs h t = weaken p 0 a 5 fs (omega arith) (widen p a b 5 fs h t)

pub both : (p : Place) (a b c d : ℕ) (fs gs : List FrontFault) → Told p a fs b → b ≤ c → Told p c gs d → Told p a (fs ++ gs) d
both p a b c d [] gs s h t = weaken p a c d gs (omega (arith, s, h)) t
both p a b c d (f ∷ fs) gs s h t = (s.0, s.1, both p (rank f.kind) b c d fs gs s.2 h t)

no_less : (n : ℕ) → n ≤ n
no_less n = omega arith

pub asks_told : (holds : Bool) (k : FrontKind) (p : Place) → Told p (rank k) (asks holds k p) (rank k)
asks_told true k p = no_less (rank k)
asks_told false k p = (refl, no_less (rank k), no_less (rank k))

pub use_told : (fits : Meaning → Bool) (p : Place) (m : Option Meaning) → Told p 1 (use_faults fits p m) 3
use_told fits p None = (refl, no_less 1, omega arith)
use_told fits p (Some m) = weaken p 1 3 3 (asks (fits m) WrongKind p) (omega arith) (asks_told (fits m) WrongKind p)

pub once_told : (fits : Meaning → Bool) (p : Place) (m : Option Meaning) → Told p 0 (use_faults fits p m) 5
once_told fits p m = full p 1 3 (use_faults fits p m) (omega arith) (use_told fits p m)

twice : (fits : Meaning → Bool) (p : Place) (m : Option Meaning) → Told p 1 (use_faults fits p m ++ use_faults fits p m) 3
twice fits p None = (refl, no_less 1, (refl, no_less 1, omega arith))
twice fits p (Some m) =
    let t : Told p 3 (asks (fits m) WrongKind p) 3 = asks_told (fits m) WrongKind p in
    weaken p 1 3 3 (asks (fits m) WrongKind p ++ asks (fits m) WrongKind p) (omega arith) (both p 3 3 3 3 (asks (fits m) WrongKind p) (asks (fits m) WrongKind p) t (no_less 3) t)

-- a name that is asked about twice, as by `x += 1`
pub twice_told : (fits : Meaning → Bool) (p : Place) (m : Option Meaning) → Told p 0 (use_faults fits p m ++ use_faults fits p m) 5
twice_told fits p m = full p 1 3 (use_faults fits p m ++ use_faults fits p m) (omega arith) (twice fits p m)

arity_told : (n : ℕ) (p : Place) (m : Option Meaning) → Told p 4 (arity_faults n p m) 4
arity_told n p None = no_less 4
arity_told n p (Some (meanings.Local x)) = no_less 4
arity_told n p (Some (meanings.Thread x)) = no_less 4
arity_told n p (Some meanings.Argument) = no_less 4
arity_told n p (Some (meanings.Global g w)) = no_less 4
arity_told n p (Some (meanings.Mutex m)) = no_less 4
arity_told n p (Some (meanings.Function f)) = asks_told (f.params == n) WrongArity p
arity_told n p (Some (meanings.Arbitrary w)) = asks_told (n == 0) WrongArity p

pub call_told : (fits : Meaning → Bool) (n : ℕ) (p : Place) (m : Option Meaning) → Told p 0 (call_faults fits n p m) 5
call_told fits n p m =
    full p 1 4 (call_faults fits n p m) (omega arith) (both p 1 3 4 4 (use_faults fits p m) (arity_faults n p m) (use_told fits p m) (omega arith) (arity_told n p m))

-- ---- faults along tokens

pub data Along : List Terminal → List FrontFault → List Terminal → Type 0 where
  none : {ts : List Terminal} → Along ts [] ts
  token : {t : Terminal} {ts rest : List Terminal} (fs gs : List FrontFault) → Told t.place 0 fs 5 → Along ts gs rest → Along (t ∷ ts) (fs ++ gs) rest

pub is : (ts rest : List Terminal) (fs gs : List FrontFault) → fs ≡ gs → Along ts gs rest → Along ts fs rest
is ts rest fs gs e a = subst (λ (xs : List FrontFault). Along ts xs rest) (sym e) a

pub join : (ts us rest : List Terminal) (fs gs : List FrontFault) → Along ts fs us → Along us gs rest → Along ts (fs ++ gs) rest
join ts us rest fs gs (none) b = b
join ts us rest fs gs (token {t = t} {ts = vs} hs ks told a) b =
    is (t ∷ vs) rest ((hs ++ ks) ++ gs) (hs ++ (ks ++ gs)) (append_assoc hs ks gs) (token hs (ks ++ gs) told (join vs us rest ks gs a b))

-- tokens at which nothing is told, behind faults
pub behind : (ts us rest : List Terminal) (fs : List FrontFault) → Along ts fs us → Along us [] rest → Along ts fs rest
behind ts us rest fs a b = is ts rest fs (fs ++ []) (sym (append-nil fs)) (join ts us rest fs [] a b)

pub past : {k : Kind} {ts us rest : List Terminal} {fs : List FrontFault} → Next k ts us → Along us fs rest → Along ts fs rest
past {fs = fs} (grammar.next {t = t} e) a = token {t = t} [] fs (omega arith) a

pub past_name : {x : RawName} {ts us rest : List Terminal} {fs : List FrontFault} → ReadsName ts x us → Along us fs rest → Along ts fs rest
past_name {fs = fs} (grammar.ident {t = t} e) a = token {t = t} [] fs (omega arith) a

pub past_operator : {l : ℕ} {op : BinOp} {ts us rest : List Terminal} {fs : List FrontFault} → ReadsOperator l op ts us → Along us fs rest → Along ts fs rest
past_operator {fs = fs} (grammar.operates {t = t} e) a = token {t = t} [] fs (omega arith) a

-- what is told at a word, and at a name
pub tell : {k : Kind} {ts us rest : List Terminal} {gs : List FrontFault} (fs : List FrontFault) → Next k ts us → Told (place_at ts) 0 fs 5 → Along us gs rest → Along ts (fs ++ gs) rest
tell {gs = gs} fs (grammar.next e) told a = token fs gs told a

pub name : {x : RawName} {ts us rest : List Terminal} {gs : List FrontFault} (fs : List FrontFault) → ReadsName ts x us → Told x.place 0 fs 5 → Along us gs rest → Along ts (fs ++ gs) rest
name {gs = gs} fs (grammar.ident e) told a = token fs gs told a

pub tell_only : {k : Kind} {ts us : List Terminal} (fs : List FrontFault) → Next k ts us → Told (place_at ts) 0 fs 5 → Along ts fs us
tell_only {ts = ts} {us = us} fs n told = is ts us fs (fs ++ []) (sym (append-nil fs)) (tell fs n told none)

pub name_only : {x : RawName} {ts us : List Terminal} (fs : List FrontFault) → ReadsName ts x us → Told x.place 0 fs 5 → Along ts fs us
name_only {ts = ts} {us = us} fs n told = is ts us fs (fs ++ []) (sym (append-nil fs)) (name fs n told none)

-- ---- they ascend

told_all : (P : Place → Type 0) (p : Place) (a b : ℕ) (fs gs : List FrontFault) → Told p a fs b → P p → AllByRecursion (λ (g : FrontFault). P g.place) gs → AllByRecursion (λ (g : FrontFault). P g.place) (fs ++ gs)
told_all P p a b [] gs t h l = l
told_all P p a b (f ∷ fs) gs t h l = (subst P (sym t.0) h, told_all P p (rank f.kind) b fs gs t.2 h l)

later : (P : Place → Type 0) (ts rest : List Terminal) (fs : List FrontFault) → Along ts fs rest → AllByRecursion (λ (t : Terminal). P t.place) ts → AllByRecursion (λ (g : FrontFault). P g.place) fs
later P ts rest fs (none) h = tt
later P ts rest fs (token {t = t} {ts = us} hs ks told a) h = told_all P t.place 0 5 hs ks told h.0 (later P us rest ks a h.1)

no_later : (f : FrontFault) (p : Place) (a b : ℕ) (fs gs : List FrontFault) → f.place ≡ p → rank f.kind ≤ a → Told p a fs b → AllByRecursion (λ (g : FrontFault). IsBefore p g.place) gs → AllByRecursion (IsNoLater f) (fs ++ gs)
no_later f p a b [] [] at r t l = tt
no_later f p a b [] (g ∷ gs) at r t l = (inl (subst (λ (q : Place). IsBefore q g.place) (sym at) l.0), no_later f p a b [] gs at r t l.1)
no_later f p a b (g ∷ fs) gs at r t l = (inr (at ∙ sym t.0, omega (arith, r, t.1)), no_later f p (rank g.kind) b fs gs at (omega (arith, r, t.1)) t.2 l)

ascend_told : (p : Place) (a b : ℕ) (fs gs : List FrontFault) → Told p a fs b → AllByRecursion (λ (g : FrontFault). IsBefore p g.place) gs → Ascend gs → Ascend (fs ++ gs)
ascend_told p a b [] gs t l h = h
ascend_told p a b (f ∷ fs) gs t l h = (no_later f p (rank f.kind) b fs gs t.0 (no_less (rank f.kind)) t.2 l, ascend_told p (rank f.kind) b fs gs t.2 l h)

pub ascend : (ts rest : List Terminal) (fs : List FrontFault) → Along ts fs rest → Climb ts → Ascend fs
ascend ts rest fs (none) c = tt
ascend ts rest fs (token {t = t} {ts = us} hs ks told a) c =
    ascend_told t.place 0 5 hs ks told (later (IsBefore t.place) us rest ks a c.0) (ascend us rest ks a c.1)
