-- The vertices at which a break stops, by each way in which they are found.
use Rattle.std.proofs.Common.{◌≡◌, ◌∙◌, sym, ap, ap₂, subst, ℕ, pos, ◌<◌, ◌≤ℤ◌, true, List, [], ◌∷◌, ◌++◌, ◌+◌, length, get_or, drop, append_assoc, Option, Some, None, Result, Ok, Err, arith}
use Rattle.std.specs.Prelude.{Contains, IfOk, filter, option_and_then, slice_get}
use Rattle.std.proofs.lemmas.List.{at_drop_more}
use Rattle.std.proofs.lemmas.Option.{slice_get-get_or}
use Rattle.gob_tree.specs.declared.expr.Expr.{Expr}
use Rattle.gob_tree.specs.declared.graph.Program.{Program}
use Rattle.gob_tree.specs.declared.unit.GlobalDecl.{GlobalDecl}
use Rattle.gob_tree.specs.declared.unit.Slot.{Slot}
use Rattle.c_parse.specs.declared.raw.expr.RawExpr.{RawExpr}
use Rattle.interval_dom.specs.Bounds.{Bounds, between}
use Rattle.state_dom.specs.Operators.{may_be}
use Rattle.state_dom.specs.StateValue.{slots_of}
use Rattle.constraint_sys.specs.declared.unknown.Unknown.TheVariants.{Point}
use Rattle.constraint_sys.specs.Sound.{IsShaped}
use Rattle.constraint_sys.specs.Table.{TableValue, slots_at, state_at, value_at}
use Rattle.arg_graph.specs.declared.vertex.Vertex.{Vertex}
use Rattle.arg_graph.specs.Vertices.{IsVertex}
use Rattle.breakpoint_eval.specs.declared.comparison.Compared.{Compared}
use Rattle.breakpoint_eval.specs.declared.stop.Break.{Break}
use Rattle.breakpoint_eval.specs.declared.stop.Stop.{Stop}
use Rattle.breakpoint_eval.specs.Columns.{high_at, low_at, may_hold_at, slot_at, slots_of_value}
use Rattle.breakpoint_eval.specs.Comparisons.{IsComparison}
use Rattle.breakpoint_eval.specs.Names.{place_named, places_of}
use Rattle.breakpoint_eval.specs.Placing.{placed}
use Rattle.breakpoint_eval.specs.Watching.{global_intervals, interval_at, may_stop, stop_with, stopping, stops_from, stops_of}
use Rattle.breakpoint_eval.proofs.Filtering.{filter_all, filter_none, filter_same}
use Rattle.breakpoint_eval.proofs.Places.{get_before}
use Rattle.breakpoint_eval.proofs.Standing.{slots_shaped, slots_there}

-- two facts of a result, and what follows from both
pub ok_both : {A E : Type 0} (r : Result A E) (P Q R : A → Type 0) → IfOk r P → IfOk r Q → ((a : A) → P a → Q a → R a) → IfOk r R
ok_both (Ok a) P Q R p q follows = follows a p q
ok_both (Err e) P Q R p q follows = tt

-- ---- columns

pub slot_within : (p : Program) (t : TableValue) (v : Vertex) (slot slots : ℕ) → IsShaped p t → IsVertex t v → slot < slots → slots ≡ length (slots_at p v.func) → slot < length (slots_of_value (value_at t (Point v.func v.key v.node)))
slot_within p t v slot slots shaped stands within same = (let all = slots_shaped p t v shaped stands in omega arith)

-- a comparison by columns answers as the expression does
pub same_answer : (p : Program) (t : TableValue) (v : Vertex) (x : Expr) (test : Compared) (slots : ℕ) → IsShaped p t → IsVertex t v → IsComparison x test → test.slot < slots → slots ≡ length (slots_at p v.func)
    → low_at t test.slot v ≤ℤ high_at t test.slot v → may_hold_at t test v ≡ may_be true (interval_at p t (Some v) x)
same_answer p t v x test slots shaped stands compares within same ordered =
    let own = slots_of (state_at p t v.func v.key v.node) in
    let nothing : Bounds = between (pos 0) (pos 0) in
    let there : slots_of_value (value_at t (Point v.func v.key v.node)) ≡ own = slots_there p t v stands in
    let long : test.slot < length own = subst (λ (xs : List Bounds). test.slot < length xs) there (slot_within p t v test.slot slots shaped stands within same) in
    let at : slice_get (own ++ global_intervals p t) test.slot ≡ Some (slot_at t test.slot v) =
    get_before own (global_intervals p t) test.slot long ∙ slice_get-get_or own test.slot nothing long ∙ ap (λ (xs : List Bounds). Some (get_or xs test.slot nothing)) (sym there) in
    sym (compares (places_of (slots_at p v.func) p.globals) (own ++ global_intervals p t) (slot_at t test.slot v) at ordered)

pub by_columns : (p : Program) (t : TableValue) (vs : List Vertex) (x : Expr) (test : Compared) (slots : ℕ) → IsShaped p t → ((v : Vertex) → Contains vs v → IsVertex t v) → IsComparison x test → test.slot < slots
    → ((v : Vertex) → Contains vs v → slots ≡ length (slots_at p v.func)) → ((v : Vertex) → Contains vs v → low_at t test.slot v ≤ℤ high_at t test.slot v)
    → filter (may_hold_at t test) vs ≡ filter (λ (v : Vertex). may_be true (interval_at p t (Some v) x)) vs
by_columns p t vs x test slots shaped stands compares within same ordered =
    filter_same (may_hold_at t test) (λ (v : Vertex). may_be true (interval_at p t (Some v) x)) vs
    (λ v one. same_answer p t v x test slots shaped (stands v one) compares within (same v one) (ordered v one))

-- ---- conditions

pub without_condition : (p : Program) (t : TableValue) (vs : List Vertex) (cond : Option RawExpr) → cond ≡ None → filter (may_stop p t cond) vs ≡ vs
without_condition p t vs cond is = filter_all (may_stop p t cond) vs (λ v one. ap (λ (o : Option RawExpr). may_stop p t o v) is)

-- the form of a condition, where the code has made it
pub form_at : (slots slots' : List Slot) (gs gs' : List GlobalDecl) (e : RawExpr) (form o : Option Expr) → slots ≡ slots' → gs ≡ gs' → form ≡ placed (place_named slots gs) e → form ≡ o → placed (place_named slots' gs') e ≡ o
form_at slots slots' gs gs' e form o p q made is = sym (ap₂ (λ (s : List Slot) (g : List GlobalDecl). placed (place_named s g) e) p q) ∙ sym made ∙ is

may_stop_by : (p : Program) (t : TableValue) (e : RawExpr) (func : ℕ) (o : Option Expr) (v : Vertex) → v.func ≡ func → placed (place_named (slots_at p func) p.globals) e ≡ o
    → may_stop p t (Some e) v ≡ may_be true (option_and_then (interval_at p t (Some v)) o)
may_stop_by p t e func o v here is =
    ap (λ (f : Option Expr). may_be true (option_and_then (interval_at p t (Some v)) f)) (ap (λ (f : ℕ). placed (place_named (slots_at p f) p.globals) e) here ∙ is)

pub with_form : (p : Program) (t : TableValue) (vs : List Vertex) (e : RawExpr) (func : ℕ) (x : Expr) → ((v : Vertex) → Contains vs v → v.func ≡ func) → placed (place_named (slots_at p func) p.globals) e ≡ Some x
    → filter (λ (v : Vertex). may_be true (interval_at p t (Some v) x)) vs ≡ filter (may_stop p t (Some e)) vs
with_form p t vs e func x here is =
    filter_same (λ (v : Vertex). may_be true (interval_at p t (Some v) x)) (may_stop p t (Some e)) vs (λ v one. sym (may_stop_by p t e func (Some x) v (here v one) is))

pub without_form : (p : Program) (t : TableValue) (vs : List Vertex) (e : RawExpr) (func : ℕ) → ((v : Vertex) → Contains vs v → v.func ≡ func) → placed (place_named (slots_at p func) p.globals) e ≡ None
    → [] ≡ filter (may_stop p t (Some e)) vs
without_form p t vs e func here is =
    sym (filter_none (may_stop p t (Some e)) vs (λ v one. may_stop_by p t e func None v (here v one) is))

-- ---- the stops of breaks, one break further

pub stops_more : (p : Program) (t : TableValue) (breaks : List Break) (i : ℕ) (b : Break) (old new : List Stop) (at : List Vertex) → i < length breaks → b ≡ get_or breaks i b → at ≡ stopping p t b → new ≡ old ++ stop_with i at
    → old ++ stops_from p t i (drop i breaks) ≡ stops_of p t breaks → new ++ stops_from p t (i + 1) (drop (i + 1) breaks) ≡ stops_of p t breaks
stops_more p t breaks i b old new at within is here grown before =
    let rest : List Stop = stops_from p t (i + 1) (drop (i + 1) breaks) in
    let e : drop i breaks ≡ b ∷ drop (i + 1) breaks = at_drop_more (λ (ys : List Break). ys) breaks i b within ∙ ap (λ (z : Break). z ∷ drop (i + 1) breaks) (sym is) in
    ap (λ (l : List Stop). l ++ rest) grown ∙ append_assoc old (stop_with i at) rest
    ∙ ap (λ (vs : List Vertex). old ++ (stop_with i vs ++ rest)) here ∙ sym (ap (λ (l : List Break). old ++ stops_from p t i l) e) ∙ before
