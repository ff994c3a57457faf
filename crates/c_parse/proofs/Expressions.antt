-- Expressions of whole texts: one at most, and none where the descent gives another or stops.
use Rattle.std.proofs.Common.{◌≡◌, refl, sym, ap, ◌∙◌, subst, ℕ, Bool, true, false, ◌&&◌, List, [], ◌∷◌, length, arith}
use Rattle.std.proofs.Common.{◌≢◌, IsErrOf, Err}
use Rattle.c_lex.specs.Tokens.{AreTokens, IsFirstFault}
use Rattle.c_lex.specs.declared.fault.LexFault.{LexFault}
use Rattle.c_lex.specs.declared.fault.LexFault.TheVariants as lexing
use Rattle.c_parse.specs.declared.fault.ExprFault.{ExprFault}
use Rattle.c_parse.specs.declared.fault.ExprFault.TheVariants.{NotAnExpression, Memory}
use Rattle.c_lex.specs.declared.token.Token.{Token}
use Rattle.c_parse.specs.declared.raw.expr.RawExpr.{RawExpr}
use Rattle.c_parse.specs.declared.terminal.Terminal.{Terminal}
use Rattle.c_parse.specs.declared.stop.Trouble.{Trouble}
use Rattle.c_parse.specs.declared.stop.Stop.TheVariants.{At}
use Rattle.c_parse.specs.Grammar.{Nesting, ReadsLevel, within}
use Rattle.c_parse.specs.Machine.{Breaks, level, run, Outcome, finished, troubled}
use Rattle.c_parse.specs.Terminals.{terminals_of}
use Rattle.c_parse.specs.Expression.{IsExpression, is_plain, expr_fault}
use Rattle.c_parse.proofs.Passing.{passes_level}
use Rattle.c_parse.proofs.Unique.{same_level}

-- a text has one list of tokens at most
abbrev pub OneList : Type 0
OneList = (text : List ℕ) (a b : List Token) → AreTokens text a → AreTokens text b → a ≡ b

empty_list : (rest : List Terminal) → length rest ≡ 0 → rest ≡ []
empty_list [] h = refl
empty_list (t ∷ ts) h = absurd (omega (arith, h))

pub is_given : {text : List ℕ} {tokens : List Token} {ts rest : List Terminal} {e : RawExpr} {n : ℕ} → AreTokens text tokens → ts ≡ terminals_of text tokens → ReadsLevel 6 (within 0) ts e rest (within n) → length rest ≡ 0 → is_plain e ≡ true → IsExpression text e
is_given {text = text} {tokens = tokens} {ts = ts} {rest = rest} {e = e} {n = n} cut q d h p = record {
  tokens = tokens;
  operators = n;
  cut = cut;
  spelled = subst (λ (l : List Terminal). ReadsLevel 6 (within 0) l e [] (within n)) q (subst (λ (l : List Terminal). ReadsLevel 6 (within 0) ts e l (within n)) (empty_list rest h) d);
  plain = p;
}

module _ (one : OneList) {text : List ℕ} {tokens : List Token} {ts : List Terminal} (cut : AreTokens text tokens) (q : ts ≡ terminals_of text tokens) where
  -- what another expression of the text would be read from
  same_start : (f : RawExpr) (d : IsExpression text f) → ReadsLevel 6 (within 0) ts f [] (within d.operators)
  same_start f d = subst (λ (l : List Terminal). ReadsLevel 6 (within 0) l f [] (within d.operators)) (ap (terminals_of text) (one text d.tokens tokens d.cut cut) ∙ sym q) d.spelled

  pub no_other : {e : RawExpr} {rest : List Terminal} {n : Nesting} → ReadsLevel 6 (within 0) ts e rest n → (length rest ≡ 0 → is_plain e ≡ true → ⊥) → (f : RawExpr) → IsExpression text f → ⊥
  no_other r h f d = let k = same_level r (same_start f d) refl in h (ap length k.1) (ap is_plain k.0 ∙ d.plain)

  pub none_there : {trouble : Trouble} {left : ℕ} → Breaks (level 6) (within 0) ts (At trouble left) → (f : RawExpr) → IsExpression text f → ⊥
  none_there {trouble = trouble} {left = left} b f d = clash (sym (passes_level (same_start f d) []) ∙ b.breaks [])
    where
      clash : finished ≡ troubled trouble left → ⊥
      clash h = cc

pub one_of_a_text : OneList → (text : List ℕ) (a b : RawExpr) → IsExpression text a → IsExpression text b → a ≡ b
one_of_a_text one text a b d e = (same_level d.spelled (same_start one d.cut refl b e) refl).0

pub not_both : {b c : Bool} → b ≡ c → b ≡ false → c ≡ true → ⊥
not_both x y z = cc

-- a text has tokens or a first fault
abbrev pub TokensOrFault : Type 0
TokensOrFault = (text : List ℕ) (tokens : List Token) (f : LexFault) → AreTokens text tokens → f ≢ lexing.Memory → IsFirstFault text f → ⊥

pub no_tokens : TokensOrFault → (text : List ℕ) (f : LexFault) → IsFirstFault text f → expr_fault f ≡ NotAnExpression → (e : RawExpr) → IsExpression text e → ⊥
no_tokens either text f first h e d = either text d.tokens f d.cut (λ q. memory (sym (ap expr_fault q) ∙ h)) first
  where
    memory : Memory ≡ NotAnExpression → ⊥
    memory h = cc

pub told_as : {x : ExprFault} (f : LexFault) → x ≡ expr_fault f → IsErrOf {T = RawExpr} (Err x) NotAnExpression → expr_fault f ≡ NotAnExpression
told_as f q h = cc
