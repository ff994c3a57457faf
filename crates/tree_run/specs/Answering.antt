-- What an evaluation answers in code: a number with its width, or what stands in its way, and the
-- inputs that are left.
use Rattle.std.specs.Prelude.{◌≡◌, ℤ, List, Result, Ok, Err, IfOk}
use Rattle.gob_tree.specs.declared.expr.Expr.{Expr}
use Rattle.gob_tree.specs.declared.unit.Slot.{Slot}
use Rattle.c_meaning.specs.declared.demand.Demand.{Demand}
use Rattle.c_meaning.specs.Demand.{demand_of, demands_of, width_of}
use Rattle.tree_run.specs.declared.demand.Typed.{Typed}
use Rattle.tree_run.specs.declared.demand.Found.{Found}
use Rattle.tree_run.specs.declared.demand.FoundAll.{FoundAll}

-- the number without its width
abbrev pub number_of : Result Typed Demand → Result ℤ Demand
number_of (Ok v) = Ok v.number
number_of (Err demand) = Err demand

pub record Answers (found : Found) (e : Expr) (slots : List Slot) (values ins : List ℤ) : Type 0 where
  pub value : number_of found.value ≡ (demand_of e slots values ins).0
  pub rest : found.rest.now ≡ (demand_of e slots values ins).1
  pub width : IfOk found.value (λ v. v.width ≡ width_of e slots)

pub record AnswersAll (found : FoundAll) (all : List Expr) (slots : List Slot) (values ins : List ℤ) : Type 0 where
  pub numbers : found.values ≡ (demands_of all slots values ins).0
  pub rest : found.rest.now ≡ (demands_of all slots values ins).1
