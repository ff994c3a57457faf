-- The faults of an expression stand along the tokens that it is read from.
use Rattle.std.proofs.Common.{◌≡◌, sym, ap, ◌∙◌, ℕ, ℤ, pos, Bool, List, [], ◌++◌, length, Option, append_assoc}
use Rattle.gob_tree.specs.declared.expr.BinOp.{BinOp}
use Rattle.gob_tree.specs.declared.expr.UnOp.{UnOp}
use Rattle.gob_tree.specs.declared.expr.UnOp.TheVariants.{Neg, Not}
use Rattle.gob_tree.specs.declared.expr.Width.{Width}
use Rattle.gob_tree.specs.declared.expr.Width.TheVariants.{W32}
use Rattle.c_parse.specs.declared.terminal.Terminal.{Terminal}
use Rattle.c_parse.specs.declared.raw.expr.RawName.{RawName}
use Rattle.c_parse.specs.declared.raw.expr.RawExpr.{RawExpr, Number, Name, Unary, Binary}
use Rattle.c_parse.specs.Grammar as grammar
use Rattle.c_parse.specs.Grammar.{Nesting, Next, ReadsName, ReadsLevel, ReadsChain, ReadsCall, ReadsArgs, ReadsMoreArgs, ReadsWhole, ReadsCondition, ReadsInitial, step_of}
use Rattle.c_check.specs.declared.fault.FrontFault.{FrontFault}
use Rattle.c_check.specs.Names.{FileNames, BodyNames, meaning}
use Rattle.c_check.specs.Rules.{is_number, gives_number, number_faults, value_call_faults}
use Rattle.c_check.specs.Bodies.{expr_faults_step, expr_faults, args_faults, optional_faults}
use Rattle.c_check.proofs.RawFolds.{fold-Number, fold-Name, fold-Unary}
use Rattle.c_check.proofs.ExprForms.{faults-Binary, faults-Call}
use Rattle.places_law.proofs.Along.{Told, once_told, twice_told, call_told, Along, none, is, join, behind, past, past_operator, name, name_only}

abbrev Faults : Type 0
Faults = List FrontFault

module _ (file : FileNames) (body : BodyNames) where
  pub faults-Number : (n : ℤ) (w : Width) → expr_faults file body (Number n w) ≡ []
  faults-Number n w = fold-Number Faults (expr_faults_step file body) n w

  pub faults-Name : (x : RawName) → expr_faults file body (Name x) ≡ number_faults file body x
  faults-Name x = fold-Name Faults (expr_faults_step file body) x

  faults-Unary : (op : UnOp) (a : RawExpr) → expr_faults file body (Unary op a) ≡ expr_faults file body a
  faults-Unary op a = fold-Unary Faults (expr_faults_step file body) op a

  pub number_told : (x : RawName) → Told x.place 0 (number_faults file body x) 5
  number_told x = once_told is_number x.place (meaning file body x.text)

  pub numbers_told : (x : RawName) → Told x.place 0 (number_faults file body x ++ number_faults file body x) 5
  numbers_told x = twice_told is_number x.place (meaning file body x.text)

  value_call_told : (x : RawName) (n : ℕ) → Told x.place 0 (value_call_faults file body x n) 5
  value_call_told x n = call_told (gives_number x.text) n x.place (meaning file body x.text)

  mutual
    pub along_level : {l : ℕ} {a b : Nesting} {ts rest : List Terminal} {e : RawExpr} → ReadsLevel l a ts e rest b → Along ts (expr_faults file body e) rest
    along_level {ts = ts} {rest = rest} (grammar.number {v = v} {w = w} n0) = is ts rest _ [] (faults-Number v w) (past n0 none)
    along_level (grammar.name n0 n1) = along_call n0 n1
    along_level {ts = ts} {rest = rest} (grammar.minus {e = e} n0 n1) = is ts rest _ (expr_faults file body e) (faults-Unary Neg e) (past n0 (along_level n1))
    along_level (grammar.plus n0 n1) = past n0 (along_level n1)
    along_level {ts = ts} {rest = rest} (grammar.negation {e = e} n0 n1) = is ts rest _ (expr_faults file body e) (faults-Unary Not e) (past n0 (along_level n1))
    along_level {ts = ts} {rest = rest} (grammar.group {vs = vs} {e = e} n0 n1 n2) = behind ts vs rest (expr_faults file body e) (past n0 (along_level n1)) (past n2 none)
    along_level {ts = ts} (grammar.chain n0 n1) = along_chain ts n1 (along_level n0)

    -- from the tokens where the chain begins
    along_chain : {l : ℕ} {a b : Nesting} {ts rest : List Terminal} {left e : RawExpr} (start : List Terminal) → ReadsChain l left a ts e rest b → Along start (expr_faults file body left) ts → Along start (expr_faults file body e) rest
    along_chain start (grammar.ends n0) s = s
    along_chain {ts = ts} start (grammar.more {vs = vs} {op = op} {right = right} {left = left} n0 n1 n2) s =
        along_chain start n2
        (is start vs _ (expr_faults file body left ++ expr_faults file body right) (faults-Binary file body op left right)
        (join start ts vs (expr_faults file body left) (expr_faults file body right) s (past_operator n0 (along_level n1))))

    along_call : {a b : Nesting} {us ts rest : List Terminal} {x : RawName} {e : RawExpr} → ReadsName us x ts → ReadsCall x a ts e rest b → Along us (expr_faults file body e) rest
    along_call {us = us} {rest = rest} n0 (grammar.no_call {x = x} n1) = is us rest _ (number_faults file body x) (faults-Name x) (name_only (number_faults file body x) n0 (number_told x))
    along_call {us = us} {rest = rest} n0 (grammar.call {x = x} {es = es} n1 n2) =
        is us rest _ (value_call_faults file body x (length es) ++ args_faults file body es) (faults-Call file body x es)
        (name (value_call_faults file body x (length es)) n0 (value_call_told x (length es)) (past n1 (along_args n2)))

    pub along_args : {alone : Bool} {a b : Nesting} {ts rest : List Terminal} {es : List RawExpr} → ReadsArgs alone a ts es rest b → Along ts (args_faults file body es) rest
    along_args (grammar.no_args n0) = past n0 none
    along_args {ts = ts} {rest = rest} (grammar.first_arg {us = us} {e = e} {es = es} n0 n1) = join ts us rest (expr_faults file body e) (args_faults file body es) (along_level n0) (along_more_args n1)

    along_more_args : {alone : Bool} {a b : Nesting} {ts rest : List Terminal} {es : List RawExpr} → ReadsMoreArgs alone a ts es rest b → Along ts (args_faults file body es) rest
    along_more_args (grammar.last_arg n0) = past n0 none
    along_more_args {rest = rest} (grammar.next_arg {us = us} {vs = vs} {e = e} {es = es} n0 n1 n2) =
        past n0 (join us vs rest (expr_faults file body e) (args_faults file body es) (along_level n1) (along_more_args n2))

  pub along_whole : {a b : Nesting} {ts rest : List Terminal} {e : RawExpr} → ReadsWhole a ts e rest b → Along ts (expr_faults file body e) rest
  along_whole (grammar.whole n0) = along_level n0

  pub along_condition : {a b : Nesting} {ts rest : List Terminal} {e : RawExpr} → ReadsCondition a ts e rest b → Along ts (expr_faults file body e) rest
  along_condition {rest = rest} (grammar.condition {us = us} {vs = vs} {e = e} n0 n1 n2) = past n0 (behind us vs rest (expr_faults file body e) (along_whole n1) (past n2 none))

  pub along_initial : {a b : Nesting} {ts rest : List Terminal} {i : Option RawExpr} → ReadsInitial a ts i rest b → Along ts (optional_faults file body i) rest
  along_initial (grammar.no_initial n0) = none
  along_initial (grammar.initial n0 n1) = past n0 (along_whole n1)

  -- `x op= e` asks about x twice, at its one place
  pub update_faults : (op : BinOp) (x : RawName) (e : RawExpr)
      → number_faults file body x ++ expr_faults file body (Binary op (Name x) e) ≡ (number_faults file body x ++ number_faults file body x) ++ expr_faults file body e
  update_faults op x e =
      ap (λ (fs : Faults). number_faults file body x ++ fs) (faults-Binary file body op (Name x) e ∙ ap (λ (fs : Faults). fs ++ expr_faults file body e) (faults-Name x))
      ∙ sym (append_assoc (number_faults file body x) (number_faults file body x) (expr_faults file body e))

  pub step_faults : (op : BinOp) (x : RawName) → number_faults file body x ++ expr_faults file body (step_of op x) ≡ (number_faults file body x ++ number_faults file body x) ++ []
  step_faults op x =
      update_faults op x (Number (pos 1) W32) ∙ ap (λ (fs : Faults). (number_faults file body x ++ number_faults file body x) ++ fs) (faults-Number (pos 1) W32)
