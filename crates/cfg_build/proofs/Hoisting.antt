-- How each form of expression is hoisted, and where a fault of a part is one of the whole.
use Rattle.std.proofs.Common.{◌≡◌, refl, sym, ap, ◌∙◌, subst, ℕ, ◌+◌, ◌<◌, Bool, List, [], ◌∷◌, ◌++◌, map, length, drop, get_or, arith, append_assoc, Some}
use Rattle.gob_tree.specs.declared.place.Place.{Place}
use Rattle.gob_tree.specs.declared.expr.Width.{Width}
use Rattle.gob_tree.specs.declared.expr.Width.TheVariants.{W32}
use Rattle.gob_tree.specs.declared.expr.BinOp.{BinOp}
use Rattle.gob_tree.specs.declared.expr.Expr.{Expr, Binary, Call}
use Rattle.gob_tree.specs.declared.graph.Action.TheVariants as actions
use Rattle.gob_tree.proofs.Folds.{fold-Binary, fold-Call}
use Rattle.c_meaning.specs.Graph.{HoistState, Hoisted, Hoisting, next_node, temp_slot, with_temp, stop_of, logic_join, binary_join, hoist_all, call_fetch, hoisting_step, hoisting_of}
use Rattle.cfg_build.specs.declared.fault.BuildFault.{BuildFault}
use Rattle.cfg_build.specs.Growing.{Faults, branched}
use Rattle.cfg_build.proofs.Growth.{Wider, wider_then, faults_wider, wider_fetch, wider_temp, wider_binary, wider_logic_at, wider_edges, hoists_widen}
use Rattle.cfg_build.proofs.Lists.{hoist_more, hoist_fault, nothing_behind}

-- ---- operators

binary_form : (e : Expr) (op : BinOp) (a b : Expr) (place : Place) (s : HoistState) → e ≡ Binary op a b
    → (hoisting_of e).hoist place s ≡ binary_join op (stop_of op) (hoisting_of b) place ((hoisting_of a).hoist place s)
binary_form e op a b place s is =
    ap (λ (x : Expr). (hoisting_of x).hoist place s) is ∙ ap (λ (h : Hoisting). h.hoist place s) (fold-Binary Hoisting hoisting_step op a b)

pub binary_fault : (fault : BuildFault) (e : Expr) (op : BinOp) (a b a' : Expr) (place : Place) (s : HoistState) → e ≡ Binary op a b → a' ≡ a
    → Faults fault ((hoisting_of a').hoist place s).1.flow → Faults fault ((hoisting_of e).hoist place s).1.flow
binary_fault fault e op a b a' place s is same f =
    let first : Faults fault ((hoisting_of a).hoist place s).1.flow = subst (λ (x : Expr). Faults fault ((hoisting_of x).hoist place s).1.flow) same f in
    subst (λ (h : Hoisted Expr). Faults fault h.1.flow) (sym (binary_form e op a b place s is))
    (faults_wider fault ((hoisting_of a).hoist place s).1.flow _ (wider_binary op b place ((hoisting_of a).hoist place s)) first)

pub binary_done : (e : Expr) (op : BinOp) (a b a' b' left : Expr) (place : Place) (s mid : HoistState) → e ≡ Binary op a b → a' ≡ a → b' ≡ b
    → left ≡ ((hoisting_of a').hoist place s).0 → mid ≡ ((hoisting_of a').hoist place s).1
    → binary_join op (stop_of op) (hoisting_of b') place (left, mid) ≡ (hoisting_of e).hoist place s
binary_done e op a b a' b' left place s mid is same_a same_b value state =
    ap (λ (x : Expr). binary_join op (stop_of op) (hoisting_of b') place (x, mid)) value
    ∙ ap (λ (x : HoistState). binary_join op (stop_of op) (hoisting_of b') place (((hoisting_of a').hoist place s).0, x)) state
    ∙ ap (λ (x : Expr). binary_join op (stop_of op) (hoisting_of x) place ((hoisting_of a').hoist place s)) same_b
    ∙ ap (λ (x : Expr). binary_join op (stop_of op) (hoisting_of b) place ((hoisting_of x).hoist place s)) same_a
    ∙ sym (binary_form e op a b place s is)

-- ---- calls

call_form : (e : Expr) (f : ℕ) (w : Width) (args : List Expr) (place : Place) (s : HoistState) → e ≡ Call f w args
    → (hoisting_of e).hoist place s ≡ call_fetch f w place (hoist_all (map hoisting_of args) place s)
call_form e f w args place s is =
    ap (λ (x : Expr). (hoisting_of x).hoist place s) is ∙ ap (λ (h : Hoisting). h.hoist place s) (fold-Call Hoisting hoisting_step f w args)

pub call_fault : (fault : BuildFault) (e : Expr) (f : ℕ) (w : Width) (args args' : List Expr) (place : Place) (s : HoistState) → e ≡ Call f w args → args' ≡ args
    → Faults fault (hoist_all (map hoisting_of args') place s).1.flow → Faults fault ((hoisting_of e).hoist place s).1.flow
call_fault fault e f w args args' place s is same found =
    let es = hoist_all (map hoisting_of args) place s in
    let first : Faults fault es.1.flow = subst (λ (x : List Expr). Faults fault (hoist_all (map hoisting_of x) place s).1.flow) same found in
    subst (λ (h : Hoisted Expr). Faults fault h.1.flow) (sym (call_form e f w args place s is))
    (faults_wider fault es.1.flow _ (wider_fetch place w (λ t. actions.Call (Some t) f es.0) es.1) first)

pub call_done : (e : Expr) (f : ℕ) (w : Width) (args args' list : List Expr) (place : Place) (s mid : HoistState) → e ≡ Call f w args → args' ≡ args
    → list ≡ (hoist_all (map hoisting_of args') place s).0 → mid ≡ (hoist_all (map hoisting_of args') place s).1
    → call_fetch f w place (list, mid) ≡ (hoisting_of e).hoist place s
call_done e f w args args' list place s mid is same value state =
    ap (λ (x : List Expr). call_fetch f w place (x, mid)) value
    ∙ ap (λ (x : HoistState). call_fetch f w place ((hoist_all (map hoisting_of args') place s).0, x)) state
    ∙ ap (λ (x : List Expr). call_fetch f w place (hoist_all (map hoisting_of x) place s)) same
    ∙ sym (call_form e f w args place s is)

-- ---- `&&` and `||`

pub temp_fault : (fault : BuildFault) (stop : Bool) (right left : Expr) (place : Place) (s : HoistState)
    → Faults fault (with_temp W32 s).flow → Faults fault (logic_join stop (hoisting_of right) place (left, s)).1.flow
temp_fault fault stop right left place s f =
    faults_wider fault (with_temp W32 s).flow _ (wider_logic_at stop (hoisting_of right) place (temp_slot W32 s) (next_node s.flow) left (with_temp W32 s) (hoists_widen right)) f

pub branch_fault : (fault : BuildFault) (stop : Bool) (right left : Expr) (place : Place) (s mid : HoistState) (t p : ℕ) → t ≡ temp_slot W32 s → p ≡ next_node s.flow → mid ≡ with_temp W32 s
    → Faults fault (branched stop place t p left mid).flow → Faults fault (logic_join stop (hoisting_of right) place (left, s)).1.flow
branch_fault fault stop right left place s mid t p te pe me f =
    let same : branched stop place t p left mid ≡ branched stop place (temp_slot W32 s) (next_node s.flow) left (with_temp W32 s) =
    ap (λ (x : ℕ). branched stop place x p left mid) te
    ∙ ap (λ (x : ℕ). branched stop place (temp_slot W32 s) x left mid) pe
    ∙ ap (λ (x : HoistState). branched stop place (temp_slot W32 s) (next_node s.flow) left x) me in
    let first : Faults fault (branched stop place (temp_slot W32 s) (next_node s.flow) left (with_temp W32 s)).flow = subst (λ (x : HoistState). Faults fault x.flow) same f in
    let from = branched stop place (temp_slot W32 s) (next_node s.flow) left (with_temp W32 s) in
    let joined : Wider ((hoisting_of right).hoist place from).1.flow (logic_join stop (hoisting_of right) place (left, s)).1.flow = wider_edges _ _ refl refl refl in
    faults_wider fault from.flow _ (wider_then from.flow ((hoisting_of right).hoist place from).1.flow _ (hoists_widen right place from) joined) first

-- ---- arguments

-- the first i arguments are hoisted, and those behind them will be
pub record AllHoisted (args : List Expr) (i : ℕ) (place : Place) (begun : HoistState) (list : List Expr) (now : HoistState) : Type 0 where
  pub values : (hoist_all (map hoisting_of args) place begun).0 ≡ list ++ (hoist_all (map hoisting_of (drop i args)) place now).0
  pub state : (hoist_all (map hoisting_of args) place begun).1 ≡ (hoist_all (map hoisting_of (drop i args)) place now).1

pub all_begun : (args : List Expr) (place : Place) (s : HoistState) → AllHoisted args 0 place s [] s
all_begun args place s = record { values = refl; state = refl }

pub all_more : (args : List Expr) (i : ℕ) (place : Place) (begun : HoistState) (list : List Expr) (now : HoistState) (x item : Expr) (after : HoistState)
    → AllHoisted args i place begun list now → i < length args → x ≡ get_or args i x
    → item ≡ ((hoisting_of x).hoist place now).0 → after ≡ ((hoisting_of x).hoist place now).1
    → AllHoisted args (i + 1) place begun (list ++ item ∷ []) after
all_more args i place begun list now x item after so_far h at_x value state =
    let first = (hoisting_of x).hoist place now in
    let rest = hoist_all (map hoisting_of (drop (i + 1) args)) place first.1 in
    let more = hoist_more args i x place now h at_x in
    record {
      values =
          so_far.values
          ∙ ap (λ (r : Hoisted (List Expr)). list ++ r.0) more
          ∙ ap (λ (y : Expr). list ++ (y ∷ rest.0)) (sym value)
          ∙ sym (append_assoc list (item ∷ []) rest.0)
          ∙ ap (λ (z : HoistState). (list ++ item ∷ []) ++ (hoist_all (map hoisting_of (drop (i + 1) args)) place z).0) (sym state);
      state =
          so_far.state
          ∙ ap (λ (r : Hoisted (List Expr)). r.1) more
          ∙ ap (λ (z : HoistState). (hoist_all (map hoisting_of (drop (i + 1) args)) place z).1) (sym state);
    }

append_nothing : {A : Type 0} (xs : List A) → xs ++ [] ≡ xs
append_nothing [] = refl
append_nothing (x ∷ xs) = ap (λ l. x ∷ l) (append_nothing xs)

pub all_done : (args : List Expr) (i : ℕ) (place : Place) (begun : HoistState) (list : List Expr) (now : HoistState) → AllHoisted args i place begun list now → length args ≡ i
    → (list ≡ (hoist_all (map hoisting_of args) place begun).0) × (now ≡ (hoist_all (map hoisting_of args) place begun).1)
all_done args i place begun list now so_far h =
    let none = nothing_behind args i h in (
      sym (so_far.values ∙ ap (λ (es : List Expr). list ++ (hoist_all (map hoisting_of es) place now).0) none ∙ append_nothing list),
      sym (so_far.state ∙ ap (λ (es : List Expr). (hoist_all (map hoisting_of es) place now).1) none),
    )

pub all_fault : (fault : BuildFault) (args : List Expr) (i : ℕ) (place : Place) (begun : HoistState) (list : List Expr) (now : HoistState) (x : Expr)
    → AllHoisted args i place begun list now → i < length args → x ≡ get_or args i x
    → Faults fault ((hoisting_of x).hoist place now).1.flow → Faults fault (hoist_all (map hoisting_of args) place begun).1.flow
all_fault fault args i place begun list now x so_far h at_x f =
    subst (λ (z : HoistState). Faults fault z.flow) (sym so_far.state) (hoist_fault fault args i x place now h at_x f)
