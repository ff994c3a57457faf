-- The first of two lists of faults, one after the other.
use Rattle.std.proofs.Common.{◌≡◌, sym, subst, List, [], ◌∷◌, ◌++◌}
use Rattle.c_check.specs.declared.fault.FrontFault.{FrontFault}
use Rattle.c_check.specs.Faults.{IsFirst, first, no_memory, want_of_memory}

pub first_left : (fault : FrontFault) (xs ys : List FrontFault) → IsFirst fault xs → IsFirst fault (xs ++ ys)
first_left fault xs ys (first) = first
first_left fault xs ys (no_memory is) = no_memory is

pub first_right : (fault : FrontFault) (xs ys : List FrontFault) → xs ≡ [] → IsFirst fault ys → IsFirst fault (xs ++ ys)
first_right fault xs ys e h = subst (λ (zs : List FrontFault). IsFirst fault (zs ++ ys)) (sym e) h

pub none_of : (xs ys : List FrontFault) → xs ≡ [] → ys ≡ [] → xs ++ ys ≡ []
none_of xs ys e h = subst (λ (zs : List FrontFault). zs ++ ys ≡ []) (sym e) h

pub want_is_first : (fault : FrontFault) (xs : List FrontFault) → fault ≡ want_of_memory → IsFirst fault xs
want_is_first fault xs is = no_memory is

pub alone : (fault f : FrontFault) (xs : List FrontFault) → fault ≡ f → xs ≡ f ∷ [] → IsFirst fault xs
alone fault f xs is e = subst (λ (zs : List FrontFault). IsFirst fault zs) (sym e) (subst (λ (g : FrontFault). IsFirst fault (g ∷ [])) is first)
