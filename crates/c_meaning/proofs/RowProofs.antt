-- The rows hold of the folds.
use Rattle.std.proofs.Common.{◌≡◌, ap, None, Some}
use Rattle.gob_tree.specs.declared.stmt.Target.{Target}
use Rattle.c_meaning.specs.Demand.{Meaning, meaning_step}
use Rattle.c_meaning.specs.Graph.{FlowGraph, Route, Lowering, Hoisting, hoisting_step}
use Rattle.c_meaning.specs.Rows.{WidthRows, DemandRows, UnrollRows, HoistRows, LowerRows}
use Rattle.gob_tree.proofs.Folds.{fold-Number, fold-Local, fold-Global, fold-Nondet, fold-Unary, fold-Binary, fold-Call}
use Rattle.c_meaning.proofs.Fronts.{front-Block, front-Block_empty, front-DoWhile, front-For, front-For_bare, front-While, front-If}
use Rattle.c_meaning.proofs.Lowerings.{lowering-Declare, lowering-DeclareThread, lowering-Assign, lowering-CallOnly, lowering-If, lowering-While, lowering-DoWhile, lowering-For, lowering-Block, lowering-Break, lowering-Continue, lowering-Return, lowering-Create, lowering-Join, lowering-Lock, lowering-Unlock, lowering-Assert, lowering-Empty}

pub width_rows : WidthRows
width_rows = record {
  number = λ n w slots. ap (λ (m : Meaning). m.width slots) (fold-Number Meaning meaning_step n w);
  local = λ x slots. ap (λ (m : Meaning). m.width slots) (fold-Local Meaning meaning_step x);
  global = λ g w slots. ap (λ (m : Meaning). m.width slots) (fold-Global Meaning meaning_step g w);
  nondet = λ w slots. ap (λ (m : Meaning). m.width slots) (fold-Nondet Meaning meaning_step w);
  unary = λ op a slots. ap (λ (m : Meaning). m.width slots) (fold-Unary Meaning meaning_step op a);
  binary = λ op a b slots. ap (λ (m : Meaning). m.width slots) (fold-Binary Meaning meaning_step op a b);
  call = λ f w args slots. ap (λ (m : Meaning). m.width slots) (fold-Call Meaning meaning_step f w args);
}

pub demand_rows : DemandRows
demand_rows = record {
  number = λ n w slots values ins. ap (λ (m : Meaning). m.answer slots values ins) (fold-Number Meaning meaning_step n w);
  local = λ x slots values ins. ap (λ (m : Meaning). m.answer slots values ins) (fold-Local Meaning meaning_step x);
  global = λ g w slots values ins. ap (λ (m : Meaning). m.answer slots values ins) (fold-Global Meaning meaning_step g w);
  nondet = λ w slots values ins. ap (λ (m : Meaning). m.answer slots values ins) (fold-Nondet Meaning meaning_step w);
  unary = λ op a slots values ins. ap (λ (m : Meaning). m.answer slots values ins) (fold-Unary Meaning meaning_step op a);
  binary = λ op a b slots values ins. ap (λ (m : Meaning). m.answer slots values ins) (fold-Binary Meaning meaning_step op a b);
  call = λ f w args slots values ins. ap (λ (m : Meaning). m.answer slots values ins) (fold-Call Meaning meaning_step f w args);
}

pub unroll_rows : UnrollRows
unroll_rows = record {
  block = front-Block;
  do_loop = λ place body e rest. front-DoWhile place body e rest;
  bare_for = front-For_bare;
  for_loop = front-For;
  empty_block = front-Block_empty;
  while_loop = front-While;
  branch = front-If;
}

pub hoist_rows : HoistRows
hoist_rows = record {
  number = λ n w place s. ap (λ (h : Hoisting). h.hoist place s) (fold-Number Hoisting hoisting_step n w);
  local = λ x place s. ap (λ (h : Hoisting). h.hoist place s) (fold-Local Hoisting hoisting_step x);
  global = λ g w place s. ap (λ (h : Hoisting). h.hoist place s) (fold-Global Hoisting hoisting_step g w);
  nondet = λ w place s. ap (λ (h : Hoisting). h.hoist place s) (fold-Nondet Hoisting hoisting_step w);
  unary = λ op a place s. ap (λ (h : Hoisting). h.hoist place s) (fold-Unary Hoisting hoisting_step op a);
  binary = λ op a b place s. ap (λ (h : Hoisting). h.hoist place s) (fold-Binary Hoisting hoisting_step op a b);
  call = λ f w args place s. ap (λ (h : Hoisting). h.hoist place s) (fold-Call Hoisting hoisting_step f w args);
}

-- along a route
along : (r : Route) (d : FlowGraph) (a b : Lowering) → a ≡ b → a.lower r d ≡ b.lower r d
along r d a b e = ap (λ (l : Lowering). l.lower r d) e

pub lower_rows : LowerRows
lower_rows = record {
  declare = λ place x r d. along r d _ _ (lowering-Declare place x None);
  declare_as = λ place x e r d. along r d _ _ (lowering-Declare place x (Some e));
  thread_variable = λ place x r d. along r d _ _ (lowering-DeclareThread place x);
  assign_local = λ place x e r d. along r d _ _ (lowering-Assign place (Target.Local x) e);
  assign_global = λ place g e r d. along r d _ _ (lowering-Assign place (Target.Global g) e);
  call_alone = λ place f args r d. along r d _ _ (lowering-CallOnly place f args);
  branch = λ place e a b r d. along r d _ _ (lowering-If place e a b);
  while_loop = λ place e body r d. along r d _ _ (lowering-While place e body);
  do_loop = λ place body e r d. along r d _ _ (lowering-DoWhile place body e);
  for_loop = λ place first test last body r d. along r d _ _ (lowering-For place first test last body);
  block = λ place all r d. along r d _ _ (lowering-Block place all);
  break_off = λ place r d. along r d _ _ (lowering-Break place);
  continue_on = λ place r d. along r d _ _ (lowering-Continue place);
  return_value = λ place e r d. along r d _ _ (lowering-Return place (Some e));
  return_plain = λ place r d. along r d _ _ (lowering-Return place None);
  create = λ place x f r d. along r d _ _ (lowering-Create place x f);
  join = λ place x r d. along r d _ _ (lowering-Join place x);
  lock = λ place m r d. along r d _ _ (lowering-Lock place m);
  unlock = λ place m r d. along r d _ _ (lowering-Unlock place m);
  check = λ place e r d. along r d _ _ (lowering-Assert place e);
  nothing = λ place r d. along r d _ _ (lowering-Empty place);
}
