-- What comes first in the order of unknowns.
use Rattle.std.proofs.Common.{◌≡◌, inl, inr, ℕ, ◌<◌, List, length, get_or, take, false, refl, sym, ap, ◌∙◌, arith, subst, true≢false}
use Rattle.std.specs.Prelude.{Contains, IsPermutation, IsSorted}
use Rattle.std.specs.Map.{keys_of}
use Rattle.std.specs.Ordering.{is_lt}
use Rattle.std.proofs.lemmas.Bool.{cases_lt}
use Rattle.std.proofs.lemmas.Bool.Decides.{nat_tests}
use Rattle.std.proofs.lemmas.Cmp.{tied_itself}
use Rattle.std.proofs.lemmas.List.{get_or-take, get_or_default, length-take}
use Rattle.std.proofs.lemmas.List.Sorted.{Contains-permutation, IsPermutation-sym, ranks_by, sorted_far}
use Rattle.std.proofs.lemmas.Option.{get_or_from_slice_get, slice_get_read, slice_get_within}
use Rattle.gob_tree.specs.declared.graph.Program.{Program}
use Rattle.constraint_sys.specs.contracts.unknown.UnknownOrd.TheImpl.Laws.{total-law}
use Rattle.constraint_sys.specs.declared.unknown.Key.{Key}
use Rattle.constraint_sys.specs.declared.unknown.Unknown.{Unknown}
use Rattle.constraint_sys.specs.declared.unknown.Unknown.TheVariants.{Point, Global}
use Rattle.constraint_sys.specs.Breach.{BreaksAt, IsBefore, IsMissingRoot}
use Rattle.constraint_sys.specs.Table.{TableValue, IsThere, empty_key, main_start, unknown_cmp}
use Rattle.constraint_sys.proofs.Awakening.{place_of, there_at}
use Rattle.post_check.specs.Unbroken.{IsFirstGlobal, IsUnbroken}
use Rattle.post_check.proofs.Breaking.{unbroken_stays}

before_itself : (u : Unknown) → IsBefore u u → ⊥
before_itself u before = true≢false (sym before ∙ ap is_lt (tied_itself total-law u))

-- ---- roots
global_after_point : (g f : ℕ) (key : Key) (node : ℕ) → IsBefore (Global g) (Point f key node) → ⊥
global_after_point g f key node before = true≢false (sym before)

globals_in_order : (h g : ℕ) → IsBefore (Global h) (Global g) → h < g
globals_in_order h g before = grind (arith, nat_tests)

pub main_first : (p : Program) (t : TableValue) (r : Unknown) → IsBefore r (main_start p) → IsMissingRoot p t r → ⊥
main_first p t r before (root, absent) = elim root [
  | inl is ↦ before_itself (main_start p) (subst (λ (q : Unknown). IsBefore q (main_start p)) is before)
  | inr global ↦ global_after_point global.0 p.main empty_key 0 (subst (λ (q : Unknown). IsBefore q (main_start p)) global.2 before)
]

pub global_first : (p : Program) (t : TableValue) (v : Unknown) → IsThere t (main_start p) → IsFirstGlobal t (length p.globals) v
    → IsMissingRoot p t v × ((r : Unknown) → IsBefore r v → IsMissingRoot p t r → ⊥)
global_first p t v main found = (
  (inr (found.number, found.within, found.is), found.missing),
  λ r before lacks. elim lacks.0 [
    | inl is ↦ lacks.1 (subst (λ (q : Unknown). IsThere t q) (sym is) main)
    | inr global ↦
        let order : IsBefore (Global global.0) (Global found.number) = subst (λ (q : Unknown). IsBefore (Global global.0) q) found.is (subst (λ (q : Unknown). IsBefore q v) global.2 before) in
        lacks.1 (subst (λ (q : Unknown). IsThere t q) (sym global.2) (found.before global.0 (globals_in_order global.0 found.number order)))
  ],
)

-- ---- unknowns of the table
-- an unknown of the table stands in its sorted list
pub there_member : (t : TableValue) (us : List Unknown) → IsPermutation (keys_of t) us → (w : Unknown) → IsThere t w → Contains us w
there_member t us same w there =
    let at = place_of t w there in
    let here : Contains (keys_of t) w = (at.0, slice_get_within (keys_of t) at.0 w at.1, get_or_from_slice_get (keys_of t) at.0 w w at.1) in
    Contains-permutation (keys_of t) us w same here

pub member_there : (t : TableValue) (us : List Unknown) → IsPermutation (keys_of t) us → (w : Unknown) → Contains us w → IsThere t w
member_there t us same w one =
    let at = Contains-permutation us (keys_of t) w (IsPermutation-sym (keys_of t) us same) one in
    there_at t at.0 w (slice_get_read (keys_of t) (length (keys_of t)) at.0 w refl at.1 (sym at.2))

-- what comes before the one at a place stands before that place
pub before_place : (us : List Unknown) → IsSorted unknown_cmp us → (i : ℕ) (u : Unknown) → i < length us → u ≡ get_or us i u → (w : Unknown) → Contains us w → IsBefore w u → Contains (take i us) w
before_place us sorted i u within is w (k, inside, at) before = elim (cases_lt k i) [
  | inl first ↦ (let count = length-take i us in (k, omega (arith, count, first, inside), get_or-take i us k w first ∙ at))
  | inr from ↦
      let far : is_lt (unknown_cmp (get_or us k w) (get_or us i w)) ≡ false = sorted_far (λ (x y : Unknown). is_lt (unknown_cmp x y)) (ranks_by total-law (λ (x : Unknown). x)) us sorted i k w from inside in
      let here : get_or us i w ≡ u = get_or_default us i w u within ∙ sym is in
      absurd (true≢false (sym before ∙ (λ j. is_lt (unknown_cmp (sym at j) (sym here j))) ∙ far))
]

pub none_before : (p : Program) (t : TableValue) (us : List Unknown) → IsPermutation (keys_of t) us → IsSorted unknown_cmp us → (i : ℕ) (u : Unknown) → i < length us → u ≡ get_or us i u
    → ((w : Unknown) → Contains (take i us) w → IsUnbroken p t w) → (w x : Unknown) → IsThere t w → IsBefore w u → BreaksAt p t w x → ⊥
none_before p t us same sorted i u within is unbroken w x there before =
    unbroken_stays p t w x (unbroken w (before_place us sorted i u within is w (there_member t us same w there) before))
