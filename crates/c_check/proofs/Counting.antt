-- More of what is counted than there may be.
use Rattle.std.proofs.Common.{◌≡◌, refl, sym, ap, ◌∙◌, subst, ℕ, zero, suc, ◌-◌, ◌<◌, ◌≤◌, List, [], ◌∷◌, ◌++◌, length, map, drop, get_or, arith}
use Rattle.std.specs.List.{flat_map}
use Rattle.std.proofs.lemmas.List.{drop-map}
use Rattle.gob_tree.specs.declared.place.Place.{Place}
use Rattle.c_parse.specs.declared.raw.unit.RawItem.{RawItem}
use Rattle.c_parse.specs.declared.raw.unit.RawParam.{RawParam}
use Rattle.c_check.specs.declared.fault.FrontFault.{FrontFault}
use Rattle.c_check.specs.declared.fault.FrontKind.TheVariants.{Limit}
use Rattle.c_check.specs.Faults.{IsFirst, first, fault_at}
use Rattle.c_check.specs.Units.{over, param_place}
use Rattle.c_check.proofs.Firsts.{first_left}
use Rattle.c_check.proofs.Listed.{from_here, nothing_behind}

pub over_one : (left : ℕ) (p : Place) (ps : List Place) → (left ≡ 0 → ⊥) → over left (p ∷ ps) ≡ over (left - 1) ps
over_one zero p ps some = absurd (some refl)
over_one (suc n) p ps some =
    let e : suc n - 1 ≡ n = omega arith in
    ap (λ (k : ℕ). over k ps) (sym e)

pub over_none : (fault : FrontFault) (left : ℕ) (p : Place) (ps : List Place) → left ≡ 0 → fault ≡ fault_at Limit p → IsFirst fault (over left (p ∷ ps))
over_none fault left p ps none is =
    subst (λ (f : FrontFault). IsFirst f (over left (p ∷ ps))) (sym is) (subst (λ (n : ℕ). IsFirst (fault_at Limit p) (over n (p ∷ ps))) (sym none) first)

module _ (place_of : RawItem → List Place) (limit : ℕ) where
  pub counted_next : (all es rest : List RawItem) (item : RawItem) (left n : ℕ) (found : List Place) → over limit (flat_map place_of all) ≡ over left (flat_map place_of es) → es ≡ item ∷ rest → found ≡ place_of item
      → (over left (found ++ flat_map place_of rest) ≡ over n (flat_map place_of rest)) → over limit (flat_map place_of all) ≡ over n (flat_map place_of rest)
  counted_next all es rest item left n found i is e h =
      i ∙ ap (λ (x : List RawItem). over left (flat_map place_of x)) is ∙ ap (λ (x : List Place). over left (x ++ flat_map place_of rest)) (sym e) ∙ h

  pub counted_fault : (fault : FrontFault) (all es rest : List RawItem) (item : RawItem) (left : ℕ) (found : List Place) → over limit (flat_map place_of all) ≡ over left (flat_map place_of es) → es ≡ item ∷ rest
      → found ≡ place_of item → IsFirst fault (over left (found ++ flat_map place_of rest)) → IsFirst fault (over limit (flat_map place_of all))
  counted_fault fault all es rest item left found i is e h =
      subst (λ (fs : List FrontFault). IsFirst fault fs)
      (sym (i ∙ ap (λ (x : List RawItem). over left (flat_map place_of x)) is ∙ ap (λ (x : List Place). over left (x ++ flat_map place_of rest)) (sym e))) h

  pub counted_end : (all es : List RawItem) (left : ℕ) → over limit (flat_map place_of all) ≡ over left (flat_map place_of es) → es ≡ [] → over limit (flat_map place_of all) ≡ []
  counted_end all es left i is =
      i ∙ ap (λ (x : List RawItem). over left (flat_map place_of x)) is ∙ ap (map (fault_at Limit)) (nothing_behind [] left (omega arith))

-- the ninth parameter is told
pub ninth : (fault : FrontFault) (place told : Place) (ps rest : List RawParam) (p : RawParam) → drop 8 ps ≡ p ∷ rest → told ≡ param_place place p → fault ≡ fault_at Limit told
    → IsFirst fault (over 8 (map (param_place place) ps))
ninth fault place told ps rest p here at is =
    subst (λ (f : FrontFault). IsFirst f (over 8 (map (param_place place) ps))) (sym (is ∙ ap (fault_at Limit) at))
    (subst (λ (xs : List Place). IsFirst (fault_at Limit (param_place place p)) (map (fault_at Limit) xs)) (sym (drop-map (param_place place) 8 ps ∙ ap (map (param_place place)) here)) first)

pub no_ninth : (place : Place) (ps : List RawParam) → length ps ≤ 8 → over 8 (map (param_place place) ps) ≡ []
no_ninth place ps h = ap (map (fault_at Limit)) (drop-map (param_place place) 8 ps ∙ ap (map (param_place place)) (nothing_behind ps 8 h))

-- what each item tells, one after the other
module _ (told_of : RawItem → List FrontFault) where
  pub each_next : (all es rest : List RawItem) (item : RawItem) → flat_map told_of all ≡ flat_map told_of es → es ≡ item ∷ rest → told_of item ≡ [] → flat_map told_of all ≡ flat_map told_of rest
  each_next all es rest item i is e = i ∙ ap (flat_map told_of) is ∙ ap (λ (fs : List FrontFault). fs ++ flat_map told_of rest) e

  pub each_fault : (fault : FrontFault) (all es rest : List RawItem) (item : RawItem) → flat_map told_of all ≡ flat_map told_of es → es ≡ item ∷ rest → IsFirst fault (told_of item) → IsFirst fault (flat_map told_of all)
  each_fault fault all es rest item i is h =
      subst (λ (fs : List FrontFault). IsFirst fault fs) (sym (i ∙ ap (flat_map told_of) is)) (first_left fault _ (flat_map told_of rest) h)

  pub each_end : (all es : List RawItem) → flat_map told_of all ≡ flat_map told_of es → es ≡ [] → flat_map told_of all ≡ []
  each_end all es i is = i ∙ ap (flat_map told_of) is

pub ninth_told : (fault : FrontFault) (place told : Place) (ps : List RawParam) (p : RawParam) → 8 < length ps → p ≡ get_or ps 8 p → told ≡ param_place place p → fault ≡ fault_at Limit told
    → IsFirst fault (over 8 (map (param_place place) ps))
ninth_told fault place told ps p h is at e = ninth fault place told ps (drop 9 ps) p (from_here ps 8 p h is) at e
