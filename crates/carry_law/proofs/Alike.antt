-- Plain expressions that read alike in two programs are equal, and actions that read alike have the same form.
use Rattle.std.proofs.Common.{◌≡◌, ◌∙◌, refl, sym, ap, ℕ, Bool, true≢false, IsTrue, List, [], ◌∷◌, map}
use Rattle.std.proofs.lemmas.Bool.{and_parts}
use Rattle.std.proofs.lemmas.List.Elements.{All-head, All-tail}
use Rattle.std.specs.Prelude.{All}
use Rattle.gob_tree.specs.Formed.{is_plain, plain_step}
use Rattle.gob_tree.specs.Named.{NamedExpr, number, local, global, nondet, unary, binary, call, named_action, named_expr, named_exprs, named_step, function_name, global_name, mutex_name}
use Rattle.gob_tree.specs.declared.expr.Expr.{Expr, Number, Local, Unary, Binary}
use Rattle.gob_tree.specs.declared.graph.Action.{Action}
use Rattle.gob_tree.specs.declared.graph.Action.TheVariants as actions
use Rattle.gob_tree.specs.declared.graph.Program.{Program}
use Rattle.gob_tree.proofs.Folds.{fold-Number, fold-Local, fold-Global, fold-Nondet, fold-Unary, fold-Binary, fold-Call}
use Rattle.gob_tree.proofs.Induct.{by_forms}
use Rattle.gob_tree.proofs.NamedLemmas.{in_order-injective}

-- ---- expressions

-- a plain expression, from what is read of it
unnamed : NamedExpr → Expr
unnamed (number n w) = Number n w
unnamed (local x) = Local x
unnamed (global g w) = Local 0
unnamed (nondet w) = Local 0
unnamed (unary op a) = Unary op (unnamed a)
unnamed (binary op a b) = Binary op (unnamed a) (unnamed b)
unnamed (call f w args) = Local 0

module _ (p : Program) (slots : ℕ) where
  abbrev ComesBack : Expr → Type 0
  ComesBack e = IsTrue (is_plain slots e) → unnamed (named_expr p e) ≡ e

  comes_back : (e : Expr) → ComesBack e
  unfolding unnamed
  comes_back = by_forms ComesBack
      (λ n w plain. ap unnamed (fold-Number NamedExpr (named_step p) n w))
      (λ x plain. ap unnamed (fold-Local NamedExpr (named_step p) x))
      (λ g w plain. absurd (true≢false (sym plain ∙ fold-Global Bool (plain_step slots) g w)))
      (λ w plain. absurd (true≢false (sym plain ∙ fold-Nondet Bool (plain_step slots) w)))
      (λ op a back plain. ap unnamed (fold-Unary NamedExpr (named_step p) op a) ∙ ap (Unary op) (back (sym (fold-Unary Bool (plain_step slots) op a) ∙ plain)))
      (λ op a b left right plain.
      let both = and_parts (is_plain slots a) (is_plain slots b) (sym (fold-Binary Bool (plain_step slots) op a b) ∙ plain) in
      ap unnamed (fold-Binary NamedExpr (named_step p) op a b) ∙ (λ i. Binary op (left both.0 i) (right both.1 i)))
      (λ f w args each plain. absurd (true≢false (sym plain ∙ fold-Call Bool (plain_step slots) f w args)))

module _ (old new : Program) (n m : ℕ) where
  pub same_expr : (d e : Expr) → IsTrue (is_plain n d) → IsTrue (is_plain m e) → named_expr old d ≡ named_expr new e → d ≡ e
  same_expr d e left right alike = sym (comes_back old n d left) ∙ ap unnamed alike ∙ comes_back new m e right

  same_each : (ds es : List Expr) → All (λ (e : Expr). IsTrue (is_plain n e)) ds → All (λ (e : Expr). IsTrue (is_plain m e)) es → map (named_expr old) ds ≡ map (named_expr new) es → ds ≡ es
  same_each [] [] left right alike = refl
  same_each [] (e ∷ es) left right alike = cc
  same_each (d ∷ ds) [] left right alike = cc
  same_each (d ∷ ds) (e ∷ es) left right alike =
      let first : named_expr old d ≡ named_expr new e = cc in
      let others : map (named_expr old) ds ≡ map (named_expr new) es = cc in
      let here : d ≡ e = same_expr d e (All-head (λ (x : Expr). IsTrue (is_plain n x)) d ds left) (All-head (λ (x : Expr). IsTrue (is_plain m x)) e es right) first in
      let rest : ds ≡ es = same_each ds es (All-tail (λ (x : Expr). IsTrue (is_plain n x)) d ds left) (All-tail (λ (x : Expr). IsTrue (is_plain m x)) e es right) others in
      cc

  pub same_exprs : (ds es : List Expr) → All (λ (e : Expr). IsTrue (is_plain n e)) ds → All (λ (e : Expr). IsTrue (is_plain m e)) es → named_exprs old ds ≡ named_exprs new es → ds ≡ es
  same_exprs ds es left right alike = same_each ds es left right (in_order-injective (map (named_expr old) ds) (map (named_expr new) es) alike)

-- ---- actions

-- the same form, with parts that read alike
abbrev pub AreAlikeActions : Program → Program → Action → Action → Type 0
AreAlikeActions old new (actions.Assign x d) (actions.Assign y e) = (x ≡ y) × (named_expr old d ≡ named_expr new e)
AreAlikeActions old new (actions.Read x g) (actions.Read y h) = (x ≡ y) × (global_name old g ≡ global_name new h)
AreAlikeActions old new (actions.Write g d) (actions.Write h e) = (global_name old g ≡ global_name new h) × (named_expr old d ≡ named_expr new e)
AreAlikeActions old new (actions.Nondet x) (actions.Nondet y) = x ≡ y
AreAlikeActions old new (actions.Guard d want) (actions.Guard e wanted) = (named_expr old d ≡ named_expr new e) × (want ≡ wanted)
AreAlikeActions old new (actions.Assert d) (actions.Assert e) = named_expr old d ≡ named_expr new e
AreAlikeActions old new (actions.Lock m) (actions.Lock n) = mutex_name old m ≡ mutex_name new n
AreAlikeActions old new (actions.Unlock m) (actions.Unlock n) = mutex_name old m ≡ mutex_name new n
AreAlikeActions old new (actions.Create t f) (actions.Create u g) = function_name old f ≡ function_name new g
AreAlikeActions old new (actions.Join t) (actions.Join u) = Unit {0}
AreAlikeActions old new (actions.Call c f ds) (actions.Call d g es) = (c ≡ d) × ((function_name old f ≡ function_name new g) × (named_exprs old ds ≡ named_exprs new es))
AreAlikeActions old new actions.Skip actions.Skip = Unit {0}
AreAlikeActions old new a b = ⊥

pub alike_actions : (old new : Program) (a b : Action) → named_action old a ≡ named_action new b → AreAlikeActions old new a b
alike_actions old new (actions.Assign x d) (actions.Assign y e) same = (cc, cc)
alike_actions old new (actions.Read x g) (actions.Read y h) same = (cc, cc)
alike_actions old new (actions.Write g d) (actions.Write h e) same = (cc, cc)
alike_actions old new (actions.Nondet x) (actions.Nondet y) same = cc
alike_actions old new (actions.Guard d want) (actions.Guard e wanted) same = (cc, cc)
alike_actions old new (actions.Assert d) (actions.Assert e) same = cc
alike_actions old new (actions.Lock m) (actions.Lock n) same = cc
alike_actions old new (actions.Unlock m) (actions.Unlock n) same = cc
alike_actions old new (actions.Create t f) (actions.Create u g) same = cc
alike_actions old new (actions.Join t) (actions.Join u) same = tt
alike_actions old new (actions.Call c f ds) (actions.Call d g es) same = (cc, (cc, cc))
alike_actions old new actions.Skip actions.Skip same = tt
alike_actions old new a b same = cc
