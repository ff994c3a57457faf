-- The examples of well-made units, worked out.
use Rattle.std.proofs.Common.{◌≡◌, refl, ◌≢◌, ℕ, true, false, List, [], ◌∷◌, map, replicate, arith}
use Rattle.std.specs.Prelude.{Bool, pos, nat_eq, All, AllPairs, IsTrue, length, None, Some}
use Rattle.std.specs.List.{AllByRecursion}
use Rattle.std.proofs.lemmas.List.Kept.{AllPairs-cons}
use Rattle.std.proofs.lemmas.List.Elements.{All-from_recursion}
use Rattle.gob_tree.specs.Widths.{fits}
use Rattle.gob_tree.specs.declared.stmt.Stmt.TheVariants.{outs-Assign, outs-Return}
use Rattle.gob_tree.specs.declared.unit.GlobalDecl.{GlobalDecl}
use Rattle.gob_tree.specs.WellMade.{IsWellMade, IsWellMadeFunction, unit_names, is_made, is_made_expr, ends_in_return}
use Rattle.gob_tree.specs.declared.expr.Width.TheVariants.{W32, W64}
use Rattle.gob_tree.specs.declared.expr.Expr.{Global, Number}
use Rattle.gob_tree.specs.declared.stmt.Stmt.{Return}
use Rattle.gob_tree.specs.Formed.{IsFormed, IsFormedFunction, IsFormedEdge}
use Rattle.gob_tree.specs.declared.graph.Edge.{Edge}
use Rattle.gob_tree.specs.declared.graph.FuncGraph.{FuncGraph}
use Rattle.gob_tree.specs.declared.graph.Action.TheVariants.{Assign as AssignEdge}
use Rattle.gob_tree.specs.declared.unit.FuncKind.TheVariants.{Int}
use Rattle.gob_tree.specs.WellMadeExamples.{program_returning, somewhere, int_slot, placed, good_unit, sample, good_exprs, bad_exprs, good_stmts, bad_stmts, main_body, increment, long_function, thread_function, void_function}
use Rattle.gob_tree.proofs.Folds.{fold-Number, fold-Local, fold-Global, fold-Nondet, fold-Unary, fold-Binary, fold-Call}
use Rattle.gob_tree.proofs.StmtFolds.{fold-struct, fold-Declare, fold-DeclareThread, fold-Assign, fold-CallOnly, fold-If, fold-While, fold-DoWhile, fold-For, fold-Block, fold-Break, fold-Continue, fold-Return, fold-Create, fold-Join, fold-Lock, fold-Unlock, fold-Assert, fold-Empty}

ruleset folds = (fold-Number, fold-Local, fold-Global, fold-Nondet, fold-Unary, fold-Binary, fold-Call, fold-struct, fold-Declare, fold-DeclareThread, fold-Assign, fold-CallOnly, fold-If, fold-While, fold-DoWhile, fold-For, fold-Block, fold-Break, fold-Continue, fold-Return, fold-Create, fold-Join, fold-Lock, fold-Unlock, fold-Assert, fold-Empty)

pub good_exprs_made : map (is_made_expr good_unit sample) good_exprs ≡ replicate 8 true
good_exprs_made = simp folds

pub bad_exprs_refused : map (is_made_expr good_unit sample) bad_exprs ≡ replicate 14 false
bad_exprs_refused = simp folds

pub good_stmts_made : map (is_made good_unit sample) good_stmts ≡ replicate 15 true
good_stmts_made = simp (is_made, folds)

pub bad_stmts_refused : map (is_made good_unit sample) bad_stmts ≡ replicate 22 false
bad_stmts_refused = simp (is_made, folds)

pub no_return : ends_in_return (increment ∷ []) ≡ false
no_return = simp outs-Assign

-- ---- the unit

main_made : map (is_made good_unit sample) main_body ≡ replicate 5 true
main_made = simp (is_made, folds)

int_body : is_made good_unit long_function (placed (Return (Some (Global 0 W32)))) ≡ true
int_body = simp (is_made, folds)

thread_body : is_made good_unit thread_function (placed (Return None)) ≡ true
thread_body = simp (is_made, folds)

void_body : is_made good_unit void_function (placed (Return None)) ≡ true
void_body = simp (is_made, folds)

each_true : {A : Type 0} (p : A → Bool) (xs : List A) → map p xs ≡ replicate (length xs) true → All (λ x. IsTrue (p x)) xs
each_true p xs e = All-from_recursion (λ x. IsTrue (p x)) xs (by_parts xs e)
  where
    by_parts : (xs : List _) → map p xs ≡ replicate (length xs) true → AllByRecursion (λ x. IsTrue (p x)) xs
    by_parts [] e = tt
    by_parts (x ∷ xs) e = (cc, by_parts xs cc)

long_made : IsWellMadeFunction good_unit long_function
long_made = record {
  returned_and_params = omega arith;
  thread_has_no_params = λ e. cc;
  statements = All-from_recursion (λ s. IsTrue (is_made good_unit long_function s)) long_function.body (int_body, tt);
  ends = simp outs-Return;
}

thread_made : IsWellMadeFunction good_unit thread_function
thread_made = record {
  returned_and_params = omega arith;
  thread_has_no_params = λ e. refl;
  statements = All-from_recursion (λ s. IsTrue (is_made good_unit thread_function s)) thread_function.body (thread_body, tt);
  ends = simp outs-Return;
}

void_made : IsWellMadeFunction good_unit void_function
void_made = record {
  returned_and_params = omega arith;
  thread_has_no_params = λ e. refl;
  statements = All-from_recursion (λ s. IsTrue (is_made good_unit void_function s)) void_function.body (void_body, tt);
  ends = simp outs-Return;
}

main_is_made : IsWellMadeFunction good_unit sample
main_is_made = record {
  returned_and_params = omega arith;
  thread_has_no_params = λ e. refl;
  statements = each_true (is_made good_unit sample) main_body main_made;
  ends = simp outs-Return;
}

-- no name is that of a later one
apart_from : (x : List ℕ) (xs : List (List ℕ)) → AllByRecursion (λ (y : List ℕ). x ≢ y) xs → AllPairs (λ (a b : List ℕ). a ≢ b) xs → AllPairs (λ (a b : List ℕ). a ≢ b) (x ∷ xs)
apart_from x xs h rest = AllPairs-cons (λ (a b : List ℕ). a ≢ b) x xs (All-from_recursion (λ (y : List ℕ). x ≢ y) xs h) rest

differ : (m n : ℕ) → nat_eq m n ≡ false → (let a : List ℕ = m ∷ [] in a) ≢ n ∷ []
differ m n h e = let same : m ≡ n = cc in grind (arith, same, h)

none : AllPairs (λ (a b : List ℕ). a ≢ b) []
none = λ i j d before within. absurd (omega arith)

names : AllPairs (λ (a b : List ℕ). a ≢ b) (unit_names good_unit)
names =
    apart_from (1 ∷ []) ((2 ∷ []) ∷ (3 ∷ []) ∷ (4 ∷ []) ∷ (5 ∷ []) ∷ (6 ∷ []) ∷ []) (differ 1 2 refl, (differ 1 3 refl, (differ 1 4 refl, (differ 1 5 refl, (differ 1 6 refl, tt)))))
    (apart_from (2 ∷ []) ((3 ∷ []) ∷ (4 ∷ []) ∷ (5 ∷ []) ∷ (6 ∷ []) ∷ []) (differ 2 3 refl, (differ 2 4 refl, (differ 2 5 refl, (differ 2 6 refl, tt))))
    (apart_from (3 ∷ []) ((4 ∷ []) ∷ (5 ∷ []) ∷ (6 ∷ []) ∷ []) (differ 3 4 refl, (differ 3 5 refl, (differ 3 6 refl, tt)))
    (apart_from (4 ∷ []) ((5 ∷ []) ∷ (6 ∷ []) ∷ []) (differ 4 5 refl, (differ 4 6 refl, tt))
    (apart_from (5 ∷ []) ((6 ∷ []) ∷ []) (differ 5 6 refl, tt)
    (apart_from (6 ∷ []) [] tt none)))))

pub good_unit_made : IsWellMade good_unit
good_unit_made = record {
  main_there = (refl, refl, refl);
  names_differ = names;
  functions = All-from_recursion (IsWellMadeFunction good_unit) good_unit.funcs (long_made, (thread_made, (void_made, (main_is_made, tt))));
  initials_fit = All-from_recursion (λ (g : GlobalDecl). IsTrue (fits g.width g.initial)) good_unit.globals (refl, tt);
}

-- ---- programs

int_main_edge : Edge
int_main_edge = record { from = 0; act = AssignEdge 0 (Number (pos 0) W32); to = 1 }

int_main_graph : FuncGraph
unfolding int_main_edge
int_main_graph = record { name = []; kind = Int; params = 0; slots = int_slot ∷ []; threads = []; nodes = somewhere ∷ somewhere ∷ []; edges = int_main_edge ∷ [] }

edge_formed : IsFormedEdge (program_returning W32) int_main_graph int_main_edge
unfolding int_main_graph int_main_edge
edge_formed = record { begins = omega arith; ends = omega arith; not_at_entry = omega arith; action = (omega arith, simp fold-Number) }

graph_formed : IsFormedFunction (program_returning W32) int_main_graph
unfolding int_main_graph int_main_edge
graph_formed = record {
  entry_and_exit = omega arith;
  returned_and_params = omega arith;
  params_limit = omega arith;
  slots_limit = omega arith;
  edges_limit = omega arith;
  edges_formed = All-from_recursion (IsFormedEdge (program_returning W32) int_main_graph) int_main_graph.edges (edge_formed, tt);
  thread_has_no_params = λ e. refl;
}

pub int_main_formed : IsFormed (program_returning W32)
unfolding int_main_graph
int_main_formed = record {
  main_there = (refl, refl, refl);
  names_differ = λ i j d before within. absurd (omega arith);
  functions_formed = All-from_recursion (IsFormedFunction (program_returning W32)) (program_returning W32).funcs (graph_formed, tt);
  initials_fit = All-from_recursion (λ (g : GlobalDecl). IsTrue (fits g.width g.initial)) [] tt;
  functions_limit = omega arith;
  nodes_limit = omega arith;
  globals_limit = omega arith;
  mutexes_limit = omega arith;
}

pub long_main_refused : ¬ IsFormed (program_returning W64)
long_main_refused f = let h : W64 ≡ W32 = f.main_there.2 in cc
