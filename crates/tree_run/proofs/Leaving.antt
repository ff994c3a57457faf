-- Statements that unroll into nothing else.
use Rattle.std.proofs.Common.{◌≡◌, sym, subst, ℕ, ◌⊎◌, ⊎_elim, List, ◌∷◌, Option}
use Rattle.gob_tree.specs.declared.expr.Expr.{Expr}
use Rattle.gob_tree.specs.declared.stmt.Target.{Target}
use Rattle.c_meaning.proofs.Fronts.{front-Declare, front-DeclareThread, front-Assign, front-CallOnly, front-If, front-While, front-Break, front-Continue, front-Return, front-Create, front-Join, front-Lock, front-Unlock, front-Assert, front-Empty}
use Rattle.gob_tree.specs.declared.place.Place.{Place}
use Rattle.gob_tree.specs.declared.stmt.Stmt.{Stmt, Declare, DeclareThread, Assign, CallOnly, If, While, Break, Continue, Return, Create, Join, Lock, Unlock, Assert, Empty}
use Rattle.gob_tree.specs.declared.stmt.Placed.{Placed}
use Rattle.c_meaning.specs.declared.config.Todo.{Todo}
use Rattle.c_meaning.specs.declared.config.Todo.TheVariants.{Stmt as Doing}
use Rattle.c_meaning.specs.Tree.{with_front}

pub stays : (p : Placed) (s : Stmt) → p.stmt ≡ s → ((place : Place) (rest : List Todo) → with_front (record { place = place; stmt = s }) rest ≡ Doing (record { place = place; stmt = s }) ∷ rest)
    → (rest : List Todo) → with_front p rest ≡ Doing p ∷ rest
stays p s e front rest =
    subst (λ (t : Stmt). with_front (record { place = p.place; stmt = t }) rest ≡ Doing (record { place = p.place; stmt = t }) ∷ rest) (sym e) (front p.place rest)

-- any other form of statement unrolls into nothing else
abbrev pub IsPlainForm : Placed → Type 0
IsPlainForm p =
    ((a : ℕ) × (b : Option Expr) × (p.stmt ≡ Declare a b))
    ⊎ ((a : ℕ) × (p.stmt ≡ DeclareThread a))
    ⊎ ((a : Target) × (b : Expr) × (p.stmt ≡ Assign a b))
    ⊎ ((a : ℕ) × (b : List Expr) × (p.stmt ≡ CallOnly a b))
    ⊎ ((a : Expr) × (b : Placed) × (c : Option Placed) × (p.stmt ≡ If a b c))
    ⊎ ((a : Expr) × (b : Placed) × (p.stmt ≡ While a b))
    ⊎ ((p.stmt ≡ Break))
    ⊎ ((p.stmt ≡ Continue))
    ⊎ ((a : Option Expr) × (p.stmt ≡ Return a))
    ⊎ ((a : ℕ) × (b : ℕ) × (p.stmt ≡ Create a b))
    ⊎ ((a : ℕ) × (p.stmt ≡ Join a))
    ⊎ ((a : ℕ) × (p.stmt ≡ Lock a))
    ⊎ ((a : ℕ) × (p.stmt ≡ Unlock a))
    ⊎ ((a : Expr) × (p.stmt ≡ Assert a))
    ⊎ ((p.stmt ≡ Empty))

pub plain_stays : (p : Placed) → IsPlainForm p → (rest : List Todo) → with_front p rest ≡ Doing p ∷ rest
plain_stays p =
    (⊎_elim (λ w. stays p _ w.2 (λ place rest. front-Declare place w.0 w.1 rest))
    (⊎_elim (λ w. stays p _ w.1 (λ place rest. front-DeclareThread place w.0 rest))
    (⊎_elim (λ w. stays p _ w.2 (λ place rest. front-Assign place w.0 w.1 rest))
    (⊎_elim (λ w. stays p _ w.2 (λ place rest. front-CallOnly place w.0 w.1 rest))
    (⊎_elim (λ w. stays p _ w.3 (λ place rest. front-If place w.0 w.1 w.2 rest))
    (⊎_elim (λ w. stays p _ w.2 (λ place rest. front-While place w.0 w.1 rest))
    (⊎_elim (λ w. stays p _ w (λ place rest. front-Break place rest))
    (⊎_elim (λ w. stays p _ w (λ place rest. front-Continue place rest))
    (⊎_elim (λ w. stays p _ w.1 (λ place rest. front-Return place w.0 rest))
    (⊎_elim (λ w. stays p _ w.2 (λ place rest. front-Create place w.0 w.1 rest))
    (⊎_elim (λ w. stays p _ w.1 (λ place rest. front-Join place w.0 rest))
    (⊎_elim (λ w. stays p _ w.1 (λ place rest. front-Lock place w.0 rest))
    (⊎_elim (λ w. stays p _ w.1 (λ place rest. front-Unlock place w.0 rest))
    (⊎_elim (λ w. stays p _ w.1 (λ place rest. front-Assert place w.0 rest))
    (λ w. stays p _ w (λ place rest. front-Empty place rest))))))))))))))))
