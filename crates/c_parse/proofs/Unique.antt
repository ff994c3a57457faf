-- A list of tokens is read as an expression in one way.
use Rattle.std.proofs.Common.{◌≡◌, refl, sym, ap, ◌∙◌, subst, ℕ, suc, Bool, true, false, List, [], ◌∷◌, Option, Some, None}
use Rattle.c_parse.specs.declared.terminal.Terminal.{Terminal}
use Rattle.c_parse.specs.declared.terminal.Kind.{Kind}
use Rattle.c_parse.specs.declared.terminal.Kind.TheVariants as kinds
use Rattle.gob_tree.specs.declared.expr.BinOp.{BinOp}
use Rattle.c_parse.specs.declared.raw.expr.RawName.{RawName}
use Rattle.c_parse.specs.declared.raw.expr.RawExpr.{RawExpr}
use Rattle.c_parse.specs.Grammar as grammar
use Rattle.c_parse.specs.Grammar.{Nesting, begins_with, is_open_paren, EndsChain, operator, Next, ReadsName, ReadsOperator, ReadsLevel, ReadsChain, ReadsCall, ReadsArgs, ReadsMoreArgs}
use Rattle.c_parse.specs.Machine.{is_close_paren, opens_operand}
use Rattle.c_parse.proofs.Passing.{level_begins, not_first, operand_is_close_paren, first_is}

pub record SameNext (k m : Kind) (rest left : List Terminal) : Type 0 where
  pub kind : k ≡ m
  pub rest_is : rest ≡ left

pub same_next : {k m : Kind} {ts us rest left : List Terminal} → Next k ts rest → Next m us left → ts ≡ us → SameNext k m rest left
same_next (grammar.next h) (grammar.next i) q = record { kind = cc; rest_is = cc }

pub same_name : {x y : RawName} {ts us rest left : List Terminal} → ReadsName ts x rest → ReadsName us y left → ts ≡ us → (x ≡ y) × (rest ≡ left)
same_name (grammar.ident h) (grammar.ident i) q = (cc, cc)

same_operator : {l : ℕ} {op oq : BinOp} {ts us rest left : List Terminal} → ReadsOperator l op ts rest → ReadsOperator l oq us left → ts ≡ us → (op ≡ oq) × (rest ≡ left)
same_operator (grammar.operates h) (grammar.operates i) q = (cc, cc)

-- which production the first token calls for

abbrev first_form : (Kind → ℕ) → List Terminal → ℕ
first_form f [] = 9
first_form f (t ∷ ts) = f t.kind

form_at : {k : Kind} {ts rest : List Terminal} (f : Kind → ℕ) → Next k ts rest → f k ≡ first_form f ts
form_at f (grammar.next h) = ap f (sym h)

form_at_name : {x : RawName} {ts rest : List Terminal} (f : Kind → ℕ) (n : ℕ) → ((text : List ℕ) → f (kinds.Name text) ≡ n) → ReadsName ts x rest → n ≡ first_form f ts
form_at_name f n g (grammar.ident {text = text} h) = sym (ap f h ∙ g text)

abbrev operand_form : Kind → ℕ
operand_form (kinds.Number v w) = 0
operand_form (kinds.Name x) = 1
operand_form kinds.Minus = 2
operand_form kinds.Plus = 3
operand_form kinds.Not = 4
operand_form kinds.OpenParen = 5
operand_form _ = 6

abbrev form : {l : ℕ} {a b : Nesting} {ts rest : List Terminal} {e : RawExpr} → ReadsLevel l a ts e rest b → ℕ
form (grammar.number n) = 0
form (grammar.name n c) = 1
form (grammar.minus n d) = 2
form (grammar.plus n d) = 3
form (grammar.negation n d) = 4
form (grammar.group n d m) = 5
form (grammar.chain {ts = ts} d c) = first_form operand_form ts

called_for : {l : ℕ} {a b : Nesting} {ts rest : List Terminal} {e : RawExpr} (d : ReadsLevel l a ts e rest b) → form d ≡ first_form operand_form ts
called_for (grammar.number n) = form_at operand_form n
called_for (grammar.name n c) = form_at_name operand_form 1 (λ text. refl) n
called_for (grammar.minus n d) = form_at operand_form n
called_for (grammar.plus n d) = form_at operand_form n
called_for (grammar.negation n d) = form_at operand_form n
called_for (grammar.group n d m) = form_at operand_form n
called_for (grammar.chain d c) = refl

clash : {l : ℕ} {op : BinOp} {ts us rest : List Terminal} → EndsChain l ts → ReadsOperator l op us rest → ts ≡ us → ⊥
clash {l = l} h (grammar.operates k) q = contra (subst (EndsChain l) q h) k
  where
    contra : {o : Option BinOp} {op : BinOp} → o ≡ None → o ≡ Some op → ⊥
    contra h k = cc

not_begun : {k : Kind} {ts us rest : List Terminal} (is : Kind → Bool) → Next k ts rest → is k ≡ true → begins_with is us ≡ false → ts ≡ us → ⊥
not_begun {k = k} {ts = ts} {us = us} is n y h q = contra (first_is is n ∙ y) (ap (begins_with is) q ∙ h)
  where
    contra : {b : Bool} → b ≡ true → b ≡ false → ⊥
    contra a b = cc

abbrev more_form : Kind → ℕ
more_form kinds.CloseParen = 0
more_form kinds.Comma = 1
more_form _ = 2

more_apart : {k m : Kind} {ts us rest left : List Terminal} → Next k ts rest → Next m us left → ts ≡ us → more_form k ≡ more_form m
more_apart n n' q = let k = same_next n n' q in ap more_form k.kind

arg_begins : {l : ℕ} {a b : Nesting} {ts rest : List Terminal} {e : RawExpr} → ReadsLevel l a ts e rest b → begins_with is_close_paren ts ≡ false
arg_begins {ts = ts} d = not_first opens_operand is_close_paren operand_is_close_paren ts (level_begins d)

mutual
  pub same_level : {l : ℕ} {a b m n : Nesting} {ts us rest left : List Terminal} {e f : RawExpr} → ReadsLevel l a ts e rest b → ReadsLevel l m us f left n → ts ≡ us → (e ≡ f) × (rest ≡ left)
  same_level (grammar.number n) (grammar.number n') q = let k = same_next n n' q in (cc, k.rest_is)
  same_level (grammar.name n c) (grammar.name n' c') q = let k = same_name n n' q in same_call c c' k.0 k.1
  same_level (grammar.minus n d) (grammar.minus n' d') q = let k = same_next n n' q in let m = same_level d d' k.rest_is in (cc, m.1)
  same_level (grammar.plus n d) (grammar.plus n' d') q = let k = same_next n n' q in same_level d d' k.rest_is
  same_level (grammar.negation n d) (grammar.negation n' d') q = let k = same_next n n' q in let m = same_level d d' k.rest_is in (cc, m.1)
  same_level (grammar.group n d r) (grammar.group n' d' r') q = let k = same_next n n' q in let m = same_level d d' k.rest_is in let o = same_next r r' m.1 in (m.0, o.rest_is)
  same_level (grammar.chain d c) (grammar.chain d' c') q = let k = same_level d d' q in same_chain c c' k.0 k.1
  same_level d d' q = let k : form d ≡ form d' = called_for d ∙ ap (first_form operand_form) q ∙ sym (called_for d') in absurd (cc)

  pub same_chain : {l : ℕ} {a b m n : Nesting} {ts us rest left : List Terminal} {x y e f : RawExpr} → ReadsChain l x a ts e rest b → ReadsChain l y m us f left n → x ≡ y → ts ≡ us → (e ≡ f) × (rest ≡ left)
  same_chain (grammar.ends h) (grammar.ends h') p q = (p, q)
  same_chain (grammar.more h d c) (grammar.more h' d' c') p q = let i = same_operator h h' q in let k = same_level d d' i.1 in same_chain c c' (cc) k.1
  same_chain (grammar.ends h) (grammar.more h' d' c') p q = absurd (clash h h' q)
  same_chain (grammar.more h d c) (grammar.ends h') p q = absurd (clash h' h (sym q))

  pub same_call : {x y : RawName} {a b m n : Nesting} {ts us rest left : List Terminal} {e f : RawExpr} → ReadsCall x a ts e rest b → ReadsCall y m us f left n → x ≡ y → ts ≡ us → (e ≡ f) × (rest ≡ left)
  same_call (grammar.no_call h) (grammar.no_call h') p q = (cc, q)
  same_call (grammar.call n d) (grammar.call n' d') p q = let k = same_next n n' q in let m = same_args d d' k.rest_is in (cc, m.1)
  same_call (grammar.no_call h) (grammar.call n' d') p q = absurd (not_begun is_open_paren n' refl h (sym q))
  same_call (grammar.call n d) (grammar.no_call h') p q = absurd (not_begun is_open_paren n refl h' q)

  pub same_args : {alone : Bool} {a b m n : Nesting} {ts us rest left : List Terminal} {e f : List RawExpr} → ReadsArgs alone a ts e rest b → ReadsArgs alone m us f left n → ts ≡ us → (e ≡ f) × (rest ≡ left)
  same_args (grammar.no_args n) (grammar.no_args n') q = let k = same_next n n' q in (refl, k.rest_is)
  same_args (grammar.first_arg d m) (grammar.first_arg d' m') q = let k = same_level d d' q in let o = same_more m m' k.1 in (cc, o.1)
  same_args (grammar.no_args n) (grammar.first_arg d' m') q = absurd (not_begun is_close_paren n refl (arg_begins d') q)
  same_args (grammar.first_arg d m) (grammar.no_args n') q = absurd (not_begun is_close_paren n' refl (arg_begins d) (sym q))

  pub same_more : {alone : Bool} {a b m n : Nesting} {ts us rest left : List Terminal} {e f : List RawExpr} → ReadsMoreArgs alone a ts e rest b → ReadsMoreArgs alone m us f left n → ts ≡ us → (e ≡ f) × (rest ≡ left)
  same_more (grammar.last_arg n) (grammar.last_arg n') q = let k = same_next n n' q in (refl, k.rest_is)
  same_more (grammar.next_arg n d m) (grammar.next_arg n' d' m') q = let k = same_next n n' q in let o = same_level d d' k.rest_is in let r = same_more m m' o.1 in (cc, r.1)
  same_more (grammar.last_arg n) (grammar.next_arg n' d' m') q = let k = more_apart n n' q in absurd (cc)
  same_more (grammar.next_arg n d m) (grammar.last_arg n') q = let k = more_apart n n' q in absurd (cc)

-- forms of productions, with a default for a part that may be empty

abbrev pub first_form_of : ℕ → (Kind → ℕ) → List Terminal → ℕ
first_form_of n f [] = n
first_form_of n f (t ∷ ts) = f t.kind

pub form_at_of : {k : Kind} {ts rest : List Terminal} (n : ℕ) (f : Kind → ℕ) → Next k ts rest → f k ≡ first_form_of n f ts
form_at_of n f (grammar.next h) = ap f (sym h)

pub form_at_name_of : {x : RawName} {ts rest : List Terminal} (n : ℕ) (f : Kind → ℕ) (i : ℕ) → ((text : List ℕ) → f (kinds.Name text) ≡ i) → ReadsName ts x rest → i ≡ first_form_of n f ts
form_at_name_of n f i g (grammar.ident {text = text} h) = sym (ap f h ∙ g text)
