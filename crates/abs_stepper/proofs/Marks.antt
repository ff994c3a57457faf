-- Marks on the nodes of a function.
use Rattle.std.proofs.Common.{◌≡◌, ◌≢◌, inl, inr, ℕ, zero, suc, ◌<◌, nat_eq, ◌&&◌, not, Bool, true, false, true≢false, List, [], ◌∷◌, length, replicate, set, Option, None, Some, refl, sym, ap, subst, ◌∙◌, arith, rules}
use Rattle.std.specs.Prelude.{Contains, slice_get}
use Rattle.std.specs.Option.{option_eq}
use Rattle.std.proofs.lemmas.Bool.Decides.{nat_tests}
use Rattle.std.proofs.lemmas.Bool.{cases_eq}
use Rattle.std.proofs.lemmas.Option.{none-some, same_Some}
use Rattle.gob_tree.specs.contracts.place.PlacePartialEq.TheImpl.{ghosts as places}
use Rattle.gob_tree.specs.declared.graph.Program.{Program}
use Rattle.gob_tree.specs.declared.place.Place.{Place}
use Rattle.constraint_sys.proofs.Ordered.{Contains-cases, Contains-head, Contains-nil, Contains-tail}
use Rattle.arg_graph.specs.declared.vertex.Label.{Label}
use Rattle.arg_graph.specs.declared.vertex.Vertex.{Vertex}
use Rattle.abs_stepper.specs.Statements.{place_of, stays}
use Rattle.abs_stepper.specs.Ways.{AreMarksOf, fresh, is_fresh, is_inside}

-- ---- setting one mark

pub get_set_same : (marks : List Bool) (n : ℕ) → n < length marks → slice_get (set marks n true) n ≡ Some true
get_set_same [] n within = absurd (omega arith)
get_set_same (m ∷ ms) zero within = refl
get_set_same (m ∷ ms) (suc n) within = get_set_same ms n (omega arith)

pub get_set_other : (marks : List Bool) (n k : ℕ) → k ≢ n → slice_get (set marks n true) k ≡ slice_get marks k
get_set_other [] n k apart = refl
get_set_other (m ∷ ms) zero zero apart = absurd (apart refl)
get_set_other (m ∷ ms) zero (suc k) apart = refl
get_set_other (m ∷ ms) (suc n) zero apart = refl
get_set_other (m ∷ ms) (suc n) (suc k) apart = get_set_other ms n k (λ same. apart (ap suc same))

-- how many nodes have no mark that is set
pub unset : List Bool → ℕ
unset [] = 0
unset (true ∷ marks) = unset marks
unset (false ∷ marks) = suc (unset marks)

pub fewer_left : (marks : List Bool) (n : ℕ) → is_fresh marks n ≡ true → unset (set marks n true) < unset marks
unfolding unset
fewer_left [] n is = absurd (true≢false (sym is))
fewer_left (true ∷ ms) zero is = absurd (true≢false (sym is))
fewer_left (false ∷ ms) zero is = omega arith
fewer_left (true ∷ ms) (suc n) is = fewer_left ms n is
fewer_left (false ∷ ms) (suc n) is = (let rest = fewer_left ms n is in omega (arith, rest))

pub fresh_within : (marks : List Bool) (n : ℕ) → is_fresh marks n ≡ true → n < length marks
fresh_within [] n is = absurd (true≢false (sym is))
fresh_within (m ∷ ms) zero is = omega arith
fresh_within (m ∷ ms) (suc n) is = (let rest = fresh_within ms n is in omega (arith, rest))

pub fresh_unmarked : (marks : List Bool) (n : ℕ) → is_fresh marks n ≡ true → slice_get marks n ≢ Some true
fresh_unmarked marks n is marked = true≢false (sym is ∙ ap fresh marked)

-- a node that has a mark and isn't fresh is marked
pub stale_marked : (marks : List Bool) (n : ℕ) → n < length marks → is_fresh marks n ≡ false → slice_get marks n ≡ Some true
stale_marked [] n within is = absurd (omega arith)
stale_marked (true ∷ ms) zero within is = refl
stale_marked (false ∷ ms) zero within is = absurd (true≢false is)
stale_marked (m ∷ ms) (suc n) within is = stale_marked ms n (omega arith) is

pub none_marked : (count n : ℕ) → slice_get (replicate count false) n ≢ Some true
none_marked zero n marked = none-some true marked
none_marked (suc count) zero marked = true≢false (sym (same_Some false true marked))
none_marked (suc count) (suc n) marked = none_marked count n marked

-- ---- marks of vertices

same_vertex : (v w : Vertex) → v.func ≡ w.func → v.key ≡ w.key → v.node ≡ w.node → v ≡ w
same_vertex v w func key node = λ i. record { func = func i; key = key i; node = node i }

-- a vertex more, and its mark
pub marks_more : (began v : Vertex) (been : List Vertex) (marks : List Bool) → v.func ≡ began.func → v.key ≡ began.key → v.node < length marks → AreMarksOf began been marks → AreMarksOf began (v ∷ been) (set marks v.node true)
marks_more began v been marks func key within are w same_func same_key = (
  λ one. elim (Contains-cases v w been one) [
    | inl same ↦ subst (λ (x : Vertex). slice_get (set marks v.node true) x.node ≡ Some true) (sym same) (get_set_same marks v.node within)
    | inr earlier ↦ elim (cases_eq w.node v.node) [
      | inl at ↦ subst (λ (n : ℕ). slice_get (set marks v.node true) n ≡ Some true) (sym at) (get_set_same marks v.node within)
      | inr apart ↦ get_set_other marks v.node w.node apart ∙ (are w same_func same_key).0 earlier
    ]
  ],
  λ marked. elim (cases_eq w.node v.node) [
    | inl at ↦ subst (λ (x : Vertex). Contains (v ∷ been) x) (same_vertex v w (func ∙ sym same_func) (key ∙ sym same_key) (sym at)) (Contains-head v been)
    | inr apart ↦ Contains-tail v w been ((are w same_func same_key).1 (sym (get_set_other marks v.node w.node apart) ∙ marked))
  ],
)

no_marks : (began : Vertex) (count : ℕ) → AreMarksOf began [] (replicate count false)
no_marks began count w func key = (λ one. absurd (Contains-nil w one), λ marked. absurd (none_marked count w.node marked))

pub first_mark : (began : Vertex) (count : ℕ) → began.node < length (replicate count false) → AreMarksOf began (began ∷ []) (set (replicate count false) began.node true)
first_mark began count within = marks_more began began [] (replicate count false) refl refl within (no_marks began count)

-- ---- inside

both : (x y : Bool) → x && y ≡ true → (x ≡ true) × (y ≡ true)
both true y is = (refl, is)
both false y is = absurd (true≢false (sym is))

-- what the test of being inside says
pub record Tests (p : Program) (began : Vertex) (marks : List Bool) (last : Label) (v : Vertex) : Type 0 where
  pub stayed : stays last ≡ true
  pub not_at_exit : v.node ≢ 1
  pub place : place_of p v ≡ place_of p began
  pub fresh : is_fresh marks v.node ≡ true

same_place : (a b : Place) → places.eq a b ≡ true → a ≡ b
same_place a b is = search rules

place_itself : (a : Place) → places.eq a a ≡ true
place_itself a = search rules

same_option : (a b : Option Place) → option_eq places.eq a b ≡ true → a ≡ b
same_option None None is = refl
same_option None (Some b) is = absurd (true≢false (sym is))
same_option (Some a) None is = absurd (true≢false (sym is))
same_option (Some a) (Some b) is = ap Some (same_place a b is)

option_itself : (a : Option Place) → option_eq places.eq a a ≡ true
option_itself None = refl
option_itself (Some a) = place_itself a

not_one : (n : ℕ) → not (nat_eq n 1) ≡ true → n ≢ 1
not_one n is same = grind (arith, nat_tests)

is_not_one : (n : ℕ) → n ≢ 1 → not (nat_eq n 1) ≡ true
is_not_one n apart = grind (arith, nat_tests)

pub inside_tests : (p : Program) (began : Vertex) (marks : List Bool) (last : Label) (v : Vertex) → is_inside p began marks last v ≡ true → Tests p began marks last v
inside_tests p began marks last v is =
    let first = both (stays last) _ is in
    let second = both (not (nat_eq v.node 1)) _ first.1 in
    let third = both (option_eq places.eq (place_of p v) (place_of p began)) (is_fresh marks v.node) second.1 in
    record { stayed = first.0; not_at_exit = not_one v.node second.0; place = same_option (place_of p v) (place_of p began) third.0; fresh = third.1 }

all_four : (a b c d : Bool) → a ≡ true → b ≡ true → c ≡ true → d ≡ true → a && (b && (c && d)) ≡ true
all_four true true true true ta tb tc td = refl
all_four true true true false ta tb tc td = absurd (true≢false (sym td))
all_four true true false d ta tb tc td = absurd (true≢false (sym tc))
all_four true false c d ta tb tc td = absurd (true≢false (sym tb))
all_four false b c d ta tb tc td = absurd (true≢false (sym ta))

pub outside_stale : (p : Program) (began : Vertex) (marks : List Bool) (last : Label) (v : Vertex) → is_inside p began marks last v ≡ false → stays last ≡ true → v.node ≢ 1 → place_of p v ≡ place_of p began → is_fresh marks v.node ≡ false
outside_stale p began marks last v is stayed exit place = by (is_fresh marks v.node) refl
  where
    same : option_eq places.eq (place_of p v) (place_of p began) ≡ true
    same = ap (λ (o : Option Place). option_eq places.eq o (place_of p began)) place ∙ option_itself (place_of p began)

    by : (b : Bool) → is_fresh marks v.node ≡ b → b ≡ false
    by false fresh = refl
    by true fresh = absurd (true≢false (sym (all_four (stays last) (not (nat_eq v.node 1)) (option_eq places.eq (place_of p v) (place_of p began)) (is_fresh marks v.node) stayed (is_not_one v.node exit) same fresh) ∙ is))
