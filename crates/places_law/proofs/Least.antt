-- The first of faults that ascend is the least.
use Rattle.std.proofs.Common.{◌≢◌, refl, List, [], ◌∷◌, ◌++◌, append_assoc, subst, inr, arith}
use Rattle.std.proofs.lemmas.List.Elements.{All-from_recursion}
use Rattle.c_parse.specs.Terminals.{terminals_of}
use Rattle.c_check.specs.declared.fault.FrontFault.{FrontFault}
use Rattle.c_check.specs.Faults.{IsFirst, first, no_memory, want_of_memory}
use Rattle.c_check.specs.Front.{graph_faults}
use Rattle.c_check.specs.Units.{nothing_made, no_main_faults, limit_faults, unit_of}
use Rattle.places_law.specs.Laws.{check_faults, FaultsAscend, FirstIsLeast}
use Rattle.places_law.specs.Order.{IsNoLater, Ascend, IsLeast}
use Rattle.places_law.proofs.Along.{ascend}
use Rattle.places_law.proofs.AlongUnits.{along_unit}
use Rattle.places_law.proofs.Tokens.{tokens_climb}

pub faults_ascend : FaultsAscend
faults_ascend text raw reads =
    ascend (terminals_of text reads.tokens) [] (check_faults raw) (along_unit (nothing_made raw.items) reads.spelled) (tokens_climb text reads.tokens reads.cut)

first_of : (fault : FrontFault) (xs ys : List FrontFault) → xs ≢ [] → IsFirst fault (xs ++ ys) → IsFirst fault xs
first_of fault [] ys some h = absurd (some refl)
first_of fault (x ∷ xs) ys some (first) = first
first_of fault (x ∷ xs) ys some (no_memory e) = no_memory e

itself : (f : FrontFault) → IsNoLater f f
itself f = inr (refl, omega arith)

least_of : (fault : FrontFault) (faults : List FrontFault) → Ascend faults → fault ≢ want_of_memory → IsFirst fault faults → IsLeast fault faults
least_of fault faults a apart (no_memory e) = absurd (apart e)
least_of fault (f ∷ fs) a apart (first) = record {
  among = (0, omega arith, refl);
  least = All-from_recursion (IsNoLater f) (f ∷ fs) (itself f, a.0);
}

pub first_is_least : FirstIsLeast
first_is_least text raw fault reads some apart h =
    let rest : List FrontFault = no_main_faults (unit_of raw).funcs ++ limit_faults raw.items in
    let sizes : List FrontFault = graph_faults 0 (unit_of raw).funcs in
    let joined : IsFirst fault (check_faults raw ++ (rest ++ sizes)) = subst (λ (fs : List FrontFault). IsFirst fault fs) (append_assoc (check_faults raw) rest sizes) h in
    least_of fault (check_faults raw) (faults_ascend text raw reads) apart (first_of fault (check_faults raw) (rest ++ sizes) some joined)
